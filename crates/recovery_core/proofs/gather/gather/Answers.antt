use Rattle.std.proofs.Common.{◌≡◌, ◌<◌, Err, length, ap, arith}
use Rattle.std.proofs.lemmas.Result.{err_from_is_err_and}
use Rattle.lists.specs.declared.memory.OrMemory.TheVariants.{Fault}
use Rattle.snapshot_store.specs.Content.{words_of}
use Rattle.recovery_core.specs.SnapshotPages.{RootStandsUpTo}
use Rattle.recovery_core.specs.Damage.{RootBreaks}
use Rattle.recovery_core.proofs.GatherRootLaws.{bad_at, none_so_far, one_more}
use Rattle.recovery_core.proofs.gather.gather.Goals as goal

pub loop-stored-init : goal.loop-stored-init
loop-stored-init c = none_so_far
    (words_of c.args.store.now.pages) c.args.epoch c.args.storages.now c.args.state.now c.requires.empty

pub loop-stored-preserved : goal.loop-stored-preserved
loop-stored-preserved c =
    let below : c.loop-stored.stored-index < length c.args.storages.now = omega arith in
    one_more (words_of c.args.store.now.pages) c.args.epoch c.args.storages.now c.loop-stored.stored-index _
    c.loop-stored.state c.gather_root.new.state below c.requires.rising
    c.loop-stored.invariant c.in_ok-gather_root.ensures.gathered

pub returns-in_err-gather_root-clause-breaks : goal.returns-in_err-gather_root-clause-breaks
returns-in_err-gather_root-clause-breaks c at e =
    let below : c.loop-stored.stored-index < length c.args.storages.now = omega arith in
    let exit = err_from_is_err_and c.from_residual.result c.from_residual.ensures.1 in
    let was : c.in_err-gather_root.field-0.0 ≡ Fault at = let a = exit.1 in let b = exit.2 in cc in
    bad_at (RootStandsUpTo c.args.epoch (words_of c.args.store.now.pages))
    (RootBreaks c.args.epoch
    (words_of c.args.store.now.pages) at) c.args.storages.now c.loop-stored.stored-index _ below
    c.loop-stored.invariant.stands (c.in_err-gather_root.ensures.breaks at (ap Err was))
