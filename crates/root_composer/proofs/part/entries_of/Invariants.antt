use Rattle.std.proofs.Common.{◌≡◌, ◌<◌, ◌^◌, take}
use Rattle.std.specs.List.{AllByRecursion}
use Rattle.root_composer.specs.Storages.{part_of}
use Rattle.root_composer.proofs.part.entries_of.Given as goal

-- the entries so far that are of the storage
abbrev pub invariant-loop-entry : goal.invariant-loop-entry
invariant-loop-entry l = record {
  so_far : l.part.items ≡ part_of l.id (take l.entry-index l.run);
  keys : AllByRecursion (λ e. e.key < 2 ^ 64) l.part.items;
}
