use Rattle.std.proofs.Common.{ℕ, ◌≤◌}
use Rattle.tree_ranges.proofs.OverlayLaws.{apart_all}
use Rattle.tree_ranges.proofs.overlay.free_to.Goals as goal

pub returns-clause-free : goal.returns-clause-free
returns-clause-free c =
    apart_all c.args.key.storage c.args.key.key c.loop-write.last c.loop-write.write-index c.args.writes.now
    c.requires.free
    c.loop-write-test.false c.loop-write.invariant.2
