-- The places below the roots so far.
use Rattle.std.proofs.Common.{◌≡◌, take}
use Rattle.snapshot_store.specs.Content.{words_of}
use Rattle.engine_rule.specs.Reading.{named_places}
use Rattle.engine_rule.proofs.reading.named_places.Given as goal

abbrev pub invariant-loop-storage : goal.invariant-loop-storage
invariant-loop-storage l = l.all ≡ named_places (words_of l.pages) (take l.storage-index l.storages)
