use Rattle.snapshot_store.specs.Content.{words_of}
use Rattle.root_composer.specs.Newest.{IsNewest}
use Rattle.storage_tests.proofs.compositions.rounds.Given as goal

-- the snapshot can be gone on from
abbrev pub invariant-loop-round : goal.invariant-loop-round
invariant-loop-round l = IsNewest l.snapshots.decl l.snapshots.epoch (words_of l.snapshots.store.pages)
