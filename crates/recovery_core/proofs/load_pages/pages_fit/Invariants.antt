use Rattle.std.proofs.Common.{◌<◌, ◌^◌, take}
use Rattle.std.specs.List.{AllByRecursion}
use Rattle.snapshot_store.specs.Content.{words_of}
use Rattle.snapshot_store.specs.Store.{IsWhole}
use Rattle.recovery_core.proofs.load_pages.pages_fit.Given as goal

abbrev pub invariant-loop-i : goal.invariant-loop-i
invariant-loop-i l = record {
  fit : AllByRecursion (AllByRecursion (λ w. w < 2 ^ 64)) (take l.i (words_of l.store.pages));
  whole : AllByRecursion IsWhole (take l.i l.store.pages);
}
