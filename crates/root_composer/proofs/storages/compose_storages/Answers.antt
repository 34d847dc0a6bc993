use Rattle.std.proofs.Common.{◌+◌, List, ℕ, refl, sym, subst}
use Rattle.std.proofs.lemmas.Result.{err_from_is_err_and}
use Rattle.lists.specs.declared.memory.OrMemory.TheVariants.{Fault}
use Rattle.snapshot_store.specs.Content.{words_of}
use Rattle.root_composer.proofs.StorageSteps.{StoragesSoFar, all_so_far, fault_of_part, none_so_far, not_fault}
use Rattle.root_composer.proofs.StorageSteps.{one_more_so_far, storage_deep}
use Rattle.root_composer.proofs.storages.compose_storages.Goals as goal

pub loop-stored-init : goal.loop-stored-init
loop-stored-init c = none_so_far c.args.run.now (words_of c.args.store.now.pages) c.args.storages.now
    c.args.made.now.items c.in_ok-roots.roots.items c.requires.empty c.in_ok-roots.ensures.items

pub loop-stored-preserved : goal.loop-stored-preserved
loop-stored-preserved c =
    subst (λ (rs : List ℕ). StoragesSoFar c.args.run.now (words_of c.args.store.now.pages) c.args.storages.now (c.loop-stored.stored-index + 1) c.compose_one.new.made.items rs) (sym c.in_ok-push.ensures.items)
    (one_more_so_far c.args.run.now (words_of c.args.store.now.pages) c.args.storages.now c.loop-stored.stored-index c.loop-stored.made.items c.compose_one.new.made.items c.loop-stored.roots.items _ _ c.in_ok-root.root
    c.loop-stored-test.true refl c.loop-stored.invariant c.in_ok-root.ensures.made c.in_ok-root.ensures.within)

pub returns-in_err-root-clause-deep : goal.returns-in_err-root-clause-deep
returns-in_err-root-clause-deep c fault is =
    let p = err_from_is_err_and c.from_residual-in_err-root.result c.from_residual-in_err-root.ensures.1 in
    storage_deep c.args.run.now (words_of c.args.store.now.pages) c.args.storages.now c.loop-stored.stored-index
    c.loop-stored.made.items c.loop-stored.roots.items _ _ fault c.loop-stored-test.true refl c.loop-stored.invariant
    (c.in_err-root.ensures.deep fault (fault_of_part _ _ p.0 (Fault fault) p.1 p.2 is))

pub returns-clause-made : goal.returns-clause-made
returns-clause-made c = all_so_far c.args.run.now (words_of c.args.store.now.pages) c.args.storages.now
    c.loop-stored.stored-index c.loop-stored.made.items c.loop-stored.roots.items c.loop-stored-test.false
    c.loop-stored.invariant

pub returns-clause-deep : goal.returns-clause-deep
returns-clause-deep c fault is = absurd (not_fault _ _ is)
