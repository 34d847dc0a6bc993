-- The first entry of the key.
use Rattle.std.proofs.Common.{◌∙◌, sym}
use Rattle.drop_core.proofs.Lookups.{entry-here}
use Rattle.drop_core.proofs.queries.entry_home.Goals as goal

pub returns-then-eq : goal.returns-then-eq
returns-then-eq c =
    entry-here c.args.number c.args.entries.now c.args.key c.loop-entry.entry-index _ c.loop-entry-test.true c.loop-entry.invariant (sym c.eq.ensures ∙ c.if-eq.true)
