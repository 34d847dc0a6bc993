use Rattle.std.proofs.Common.{◌≡◌}
use Rattle.engine_pages.specs.Passes.{view, IsPassOf}
use Rattle.page_commit.specs.Live.{IsLive}
use Rattle.bank_tellers.specs.Standing.{accounts}
use Rattle.bank_tellers.proofs.teller.Teller.try_total.Given as goal

abbrev pub invariant-loop-number : goal.invariant-loop-number
invariant-loop-number l =
    IsPassOf l.engine l.self.pass × ((view l.self.pass).layout.decls ≡ accounts)
    × IsLive l.self.txn.sets (view l.self.pass)
