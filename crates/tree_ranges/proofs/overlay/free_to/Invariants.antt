use Rattle.std.proofs.Common.{◌≡◌, ℕ, ◌≤◌}
use Rattle.tree_ranges.proofs.OverlayLaws.{AreApart}
use Rattle.tree_ranges.proofs.overlay.free_to.Given as goal

abbrev pub invariant-loop-write : goal.invariant-loop-write
invariant-loop-write l =
    (l.key.key ≤ l.last) × (l.last ≤ l.high) × AreApart l.key.storage l.key.key l.last l.writes l.write-index
