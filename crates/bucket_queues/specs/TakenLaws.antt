-- What a reducer took, one bucket after another.
use Rattle.std.specs.Prelude.{◌≡◌, ◌++◌, ◌∷◌, [], List, Option}
use Rattle.std.proofs.Common.{refl, sym, ap, subst, ◌∙◌, append_assoc}
use Rattle.std.proofs.lemmas.List.{append-nil}
use Rattle.std.proofs.lemmas.Grind.{flat_map-append}
use Rattle.serial_model.specs.declared.key.Key.{Key}
use Rattle.wire_form.specs.declared.bucket.Bucket.{Bucket}
use Rattle.bucket_queues.specs.Balance.{hand}
use Rattle.bucket_queues.specs.declared.rule.Hand.{Hand}
use Rattle.log_reducer.specs.declared.latest.Logged.{Logged}
use Rattle.log_reducer.specs.Gathered.{KeepsLatest}
use Rattle.log_reducer.specs.Reduced.{all_logged, logged_in}
use Rattle.bucket_queues.specs.Taken.{HasTaken}

-- nothing was taken so far
pub taken_none : (v : Hand) (kept : Key → Option Logged) → HasTaken v v kept kept []
taken_none v kept = record {
  view_is = ap (λ l. hand v.parts v.put l) (sym (append-nil v.taken));
  kept = λ all keeps. subst (λ l. KeepsLatest l kept) (sym (append-nil all)) keeps;
}

-- one bucket more is taken
pub taken_more : (v w u : Hand) (was is now : Key → Option Logged) (taken : List Bucket) (b : Bucket) → HasTaken v w was is taken
    → u ≡ hand w.parts w.put (w.taken ++ b ∷ []) → ((all : List Logged) → KeepsLatest all is → KeepsLatest (all ++ logged_in b) now)
    → HasTaken v u was now (taken ++ b ∷ [])
taken_more v w u was is now taken b has next keeps = record {
  view_is = next ∙ ap (λ (x : Hand). hand x.parts x.put (x.taken ++ b ∷ [])) has.view_is
      ∙ ap (λ l. hand v.parts v.put l) (append_assoc v.taken taken (b ∷ []));
  kept = λ all before.
      let both : all_logged (taken ++ b ∷ []) ≡ all_logged taken ++ logged_in b =
      flat_map-append logged_in taken (b ∷ []) ∙ ap (λ l. all_logged taken ++ l) (append-nil (logged_in b)) in
      subst (λ l. KeepsLatest (all ++ l) now) (sym both)
      (subst (λ l. KeepsLatest l now) (append_assoc all (all_logged taken) (logged_in b)) (keeps (all ++ all_logged taken) (has.kept all before)));
}
