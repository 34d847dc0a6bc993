use Rattle.snapshot_store.specs.Content.{words_of}
use Rattle.root_composer.proofs.StorageSteps.{StoragesSoFar}
use Rattle.root_composer.proofs.storages.compose_storages.Given as goal

-- the storages so far are composed
abbrev pub invariant-loop-stored : goal.invariant-loop-stored
invariant-loop-stored l = StoragesSoFar l.run (words_of l.store.pages) l.storages l.stored-index l.made.items l.roots.items
