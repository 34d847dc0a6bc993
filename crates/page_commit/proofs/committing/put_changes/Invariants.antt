use Rattle.std.proofs.Common.{◌≡◌, ◌≤◌, length, take}
use Rattle.page_commit.specs.Committing.{changes_of}
use Rattle.page_commit.proofs.committing.put_changes.Given as goal

abbrev pub invariant-loop-write : goal.invariant-loop-write
invariant-loop-write l = (l.changes ≡ changes_of (take l.write-index l.writes)) × (length l.writes ≤ 16)
