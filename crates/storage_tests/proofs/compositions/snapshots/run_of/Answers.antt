use Rattle.std.proofs.Common.{[], ◌∷◌, sym, subst}
use Rattle.std.specs.List.{AllByRecursion}
use Rattle.std.proofs.lemmas.Result.{IfOk-weaker}
use Rattle.wire_form.specs.declared.bucket.Bucket.{Bucket}
use Rattle.log_reducer.specs.Reduced.{all_logged, AreLast}
use Rattle.root_composer.specs.Composition.{IsEntryOf}
use Rattle.storage_tests.proofs.NextSnapshots.{all_last}
use Rattle.storage_tests.proofs.compositions.snapshots.run_of.Goals as goal

pub returns-clause-each : goal.returns-clause-each
returns-clause-each c =
    let b : Bucket = record { bank = 0; storage = 2; entries = c.from_vec.result } in
    let all = subst (AllByRecursion (IsEntryOf (c.args.decl ∷ []) c.args.epoch)) (sym c.from_vec.ensures) c.loop-i.invariant in
    IfOk-weaker c.reduce.result (AreLast (all_logged (b ∷ []))) (AllByRecursion (IsEntryOf (c.args.decl ∷ []) c.args.epoch))
    (λ run last. all_last (IsEntryOf (c.args.decl ∷ []) c.args.epoch) b run all last) c.reduce.ensures
