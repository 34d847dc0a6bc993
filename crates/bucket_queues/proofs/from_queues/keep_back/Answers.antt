use Rattle.std.proofs.Common.{◌≡◌, ◌++◌, ◌∷◌, [], List, refl, sym, ap, subst, ◌∙◌, append_assoc, append-nil, rules}
use Rattle.std.specs.BTreeMap as tree
use Rattle.std.proofs.lemmas.Grind.{flat_map-append}
use Rattle.serial_model.specs.Keys.{key_cmp}
use Rattle.wire_form.specs.declared.bucket.Bucket.{Bucket}
use Rattle.log_reducer.specs.Gathered.{KeepsLatest}
use Rattle.log_reducer.specs.GatheredLaws.{keeps_push}
use Rattle.log_reducer.specs.Reduced.{all_logged, logged_in}
use Rattle.log_reducer.specs.declared.latest.Logged.{Logged}
use Rattle.bucket_queues.proofs.from_queues.keep_back.Goals as goal

pub loop-bucket-init : goal.loop-bucket-init
loop-bucket-init c = ([], sym (search rules), λ all keeps. subst (λ l. KeepsLatest l (tree.get key_cmp c.args.latest.now)) (sym (append-nil all)) keeps)

pub loop-bucket-preserved : goal.loop-bucket-preserved
loop-bucket-preserved c =
    let was = c.loop-bucket.invariant in
    let next : c.loop-bucket.bucket-iterator.rest.items ≡ c.in-Some.bucket ∷ c.next.new.self.rest.items = search rules in (
      was.0 ++ c.in-Some.bucket ∷ [],
      was.1 ∙ ap (λ l. was.0 ++ l) next ∙ sym (append_assoc was.0 (c.in-Some.bucket ∷ []) c.next.new.self.rest.items),
      λ all keeps. keeps_push all was.0 c.in-Some.bucket (tree.get key_cmp c.keep_bucket.new.latest)
          (c.in_ok-keep_bucket.ensures (all ++ all_logged was.0) (was.2 all keeps)),
    )
