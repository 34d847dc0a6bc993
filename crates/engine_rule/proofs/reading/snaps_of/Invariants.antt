-- The pages so far and those that are left are all.
use Rattle.std.proofs.Common.{◌≡◌, ◌+◌, ◌++◌, drop}
use Rattle.snapshot_store.specs.Content.{words_of}
use Rattle.engine_rule.specs.Reading.{page_at, snaps_from}
use Rattle.engine_rule.proofs.reading.snaps_of.Given as goal

abbrev pub invariant-loop-at : goal.invariant-loop-at
invariant-loop-at l = record {
  left : l.all ++ snaps_from l.name (page_at (words_of l.pages) l.places) (drop l.at-index l.places)
      ≡ snaps_from 1 (page_at (words_of l.pages) l.places) l.places;
  name : l.name ≡ l.at-index + 1;
}
