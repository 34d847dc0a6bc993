use Rattle.std.proofs.Common.{◌≡◌, take}
use Rattle.root_composer.specs.Storages.{with_roots}
use Rattle.root_composer.proofs.storages.with_roots.Given as goal

-- the storages so far have their roots
abbrev pub invariant-loop-i : goal.invariant-loop-i
invariant-loop-i l = l.stored.items ≡ with_roots (take l.i l.storages) (take l.i l.roots)
