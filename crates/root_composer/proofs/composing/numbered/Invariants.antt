use Rattle.std.proofs.Common.{◌≡◌, length, take}
use Rattle.snapshot_store.specs.Store.{NumberedFrom}
use Rattle.snapshot_store.specs.Content.{words_of}
use Rattle.root_composer.proofs.composing.numbered.Given as goal

-- the pages so far have their words and numbers
abbrev pub invariant-loop-i : goal.invariant-loop-i
invariant-loop-i l = record {
  count : length l.pages.items ≡ l.i;
  words : words_of l.pages.items ≡ take l.i l.made;
  numbered : NumberedFrom l.first l.pages.items;
}
