use Rattle.snapshot_store.specs.Content.{words_of}
use Rattle.root_composer.specs.Newest.{IsNewest}
use Rattle.storage_tests.proofs.compositions.chain.Given as goal

-- the snapshot can be gone on from
abbrev pub invariant-loop-level : goal.invariant-loop-level
invariant-loop-level l = IsNewest l.chain.decl l.chain.epoch (words_of l.chain.store.pages)
