use Rattle.std.proofs.Common.{◌≡◌, ◌+◌, ◌-◌, ◌*◌, ◌<◌, ◌≤◌, length}
use Rattle.snapshot_store.specs.Content.{words_of}
use Rattle.root_composer.specs.ArrayCode.{Composes}
use Rattle.root_composer.proofs.array.+compose_array.Given as goal

abbrev pub decreases-compose_array : goal.decreases-compose_array
decreases-compose_array l = l.depth

-- the children below i are composed
abbrev pub invariant-loop-i : goal.invariant-loop-i
invariant-loop-i l = record {
  bound : l.low ≤ l.fn.p.low + l.i * 4294967296;
  some : 0 < l.part;
  long : length l.words ≡ 64;
  composed : Composes l.run l.size (words_of l.store.pages) (l.depth - 1) l.part l.fn.p.low l.fn.p.high l.i l.low l.initial.words l.words l.fn.made.items l.made.items;
}
