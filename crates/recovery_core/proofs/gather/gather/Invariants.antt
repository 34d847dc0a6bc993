use Rattle.snapshot_store.specs.Content.{words_of}
use Rattle.recovery_core.proofs.GatherRootLaws.{SoFar}
use Rattle.recovery_core.proofs.gather.gather.Given as goal

-- the storages so far were gathered
abbrev pub invariant-loop-stored : goal.invariant-loop-stored
invariant-loop-stored l = SoFar (words_of l.store.pages) l.epoch l.storages l.stored-index l.state
