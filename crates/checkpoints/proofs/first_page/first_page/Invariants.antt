use Rattle.std.proofs.Common.{◌≡◌, map, take}
use Rattle.checkpoints.specs.SettlePages.{without_root}
use Rattle.checkpoints.proofs.first_page.first_page.Given as goal

-- the storages so far
abbrev pub invariant-loop-decl : goal.invariant-loop-decl
invariant-loop-decl l = l.storages.items ≡ map without_root (take l.decl-index l.decls)
