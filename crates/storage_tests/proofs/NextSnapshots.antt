-- Snapshots of one storage, as tests compose them one after another.
use Rattle.std.proofs.Common.{◌≡◌, ℕ, ◌+◌, ◌-◌, ◌<◌, zero, suc, List, []}
use Rattle.std.proofs.Common.{◌∷◌, ◌++◌, length, map, refl, sym, ap, subst, ◌∙◌, arith}
use Rattle.std.specs.List.{AllByRecursion, Contains}
use Rattle.std.proofs.lemmas.List.{length-append, length-map, map-append, append-nil}
use Rattle.serial_model.specs.Keys.{IsKeyBelow}
use Rattle.serial_model.specs.Numbers.{last_epoch}
use Rattle.serial_model.specs.declared.decl.Decl.{Decl}
use Rattle.wire_form.specs.declared.bucket.Bucket.{Bucket}
use Rattle.wire_form.specs.declared.bucket.Entry.{Entry}
use Rattle.wire_form.specs.declared.page.Page.{Page}
use Rattle.wire_form.specs.declared.records.Stored.{Stored}
use Rattle.wire_form.specs.Items.{Rises}
use Rattle.wire_form.specs.Pages.{Contents, decls_of, stored_decl}
use Rattle.snapshot_store.specs.Content.{deepest, words_of, SnapshotStands}
use Rattle.log_reducer.specs.declared.latest.Logged.{Logged}
use Rattle.log_reducer.specs.Reduced.{logged_as, all_logged, entry_key, AreLast}
use Rattle.root_composer.specs.Storages.{AreComposed}
use Rattle.root_composer.specs.Composition.{IsEntryOf, CanCompose, IsComposed}
use Rattle.root_composer.specs.Newest.{IsNewest}

all_contained : {X : Type 0} (P : X → Type 0) (xs : List X) → ((x : X) → Contains xs x → P x) → AllByRecursion P xs
all_contained P [] each = tt
all_contained P (x ∷ xs) each = (each x (0, omega arith, refl), all_contained P xs (λ y has. each y (suc has.0, omega (arith, has.1), has.2)))

contained : {X : Type 0} (P : X → Type 0) (xs : List X) (y : X) → AllByRecursion P xs → Contains xs y → P y
contained P [] y all has = absurd (omega (arith, has.1))
contained P (x ∷ xs) y all (zero, h, e) = subst P e all.0
contained P (x ∷ xs) y all (suc k, h, e) = contained P xs y all.1 (k, omega (arith, h), e)

all_logged_as : (P : Entry → Type 0) (bank : ℕ) (es : List Entry) → AllByRecursion P es → AllByRecursion (λ (f : Logged). P f.entry) (map (logged_as bank) es)
all_logged_as P bank [] all = tt
all_logged_as P bank (e ∷ es) all = (all.0, all_logged_as P bank es all.1)

-- the run of entries of one log file has entries of it
pub all_last : (P : Entry → Type 0) (b : Bucket) (run : List Entry) → AllByRecursion P b.entries → AreLast (all_logged (b ∷ [])) run → AllByRecursion P run
all_last P b run all last =
    let logged : AllByRecursion (λ (f : Logged). P f.entry) (all_logged (b ∷ [])) =
    subst (AllByRecursion (λ (f : Logged). P f.entry)) (sym (append-nil (map (logged_as b.bank) b.entries))) (all_logged_as P b.bank b.entries all) in
    all_contained P run (λ r has.
    let f = last.latest r has in
    subst P f.2 (contained (λ (g : Logged). P g.entry) (all_logged (b ∷ [])) f.0 logged f.1))

pub can_go_on : (old : List Page) (d : Decl) (epoch number : ℕ) (run : List Entry) (newest : IsNewest d epoch (words_of old)) → number ≡ length old → AllByRecursion (IsEntryOf (d ∷ []) (epoch + 1)) run
    → Rises IsKeyBelow (map entry_key run) → epoch + 1 < last_epoch → CanCompose (words_of old) number newest.0 run (epoch + 1)
can_go_on old d epoch number run newest same each rising last = record {
  stands = subst (λ (k : ℕ). SnapshotStands (words_of old) k newest.0) (length-map old (λ (p : Page). p.words) ∙ sym same) newest.1;
  entries = subst (λ (ds : List Decl). AllByRecursion (IsEntryOf ds (epoch + 1)) run) (sym newest.2) each;
  rising = rising;
  later = omega (arith, newest.3);
  last = last;
}

decls_stay : (run : List Entry) (old new : List (List ℕ)) (d : ℕ) (ss ts : List Stored) → AreComposed run old new d ss ts → map stored_decl ts ≡ map stored_decl ss
decls_stay run old new d [] [] all = refl
decls_stay run old new d [] (t ∷ ts) all = absurd all
decls_stay run old new d (s ∷ ss) [] all = absurd all
decls_stay run old new d (s ∷ ss) (t ∷ ts) all = ap (λ x. x ∷ map stored_decl ts) all.0.same ∙ ap (λ l. s.decl ∷ l) (decls_stay run old new d ss ts all.1)

pub next_stands : (old made : List Page) (d : Decl) (epoch number : ℕ) (run : List Entry) (contents : Contents) → decls_of contents ≡ d ∷ [] → IsComposed run (epoch + 1) number contents (words_of old) (words_of made)
    → IsNewest d (epoch + 1) (words_of (old ++ made))
next_stands old made d epoch number run contents decls composed =
    subst (IsNewest d (epoch + 1)) (sym (map-append (λ (p : Page). p.words) old made)) (
      record { epoch = epoch + 1; previous = number; storages = composed.storages },
      subst (λ (k : ℕ). SnapshotStands (words_of old ++ words_of made) k (record { epoch = epoch + 1; previous = number; storages = composed.storages }))
          (sym (length-append (words_of old) (words_of made))) composed.stands,
      decls_stay run (words_of old) (words_of old ++ words_of made) deepest contents.storages composed.storages composed.each ∙ decls,
      refl,
    )
