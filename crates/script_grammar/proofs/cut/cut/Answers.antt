use Rattle.std.proofs.Common.{sym}
use Rattle.script_grammar.proofs.Cutting.{cut_at, uncut}
use Rattle.script_grammar.proofs.cut.cut.Goals as goal

pub returns-in_err-end-clause-parts : goal.returns-in_err-end-clause-parts
returns-in_err-end-clause-parts c = rw c.from_residual.ensures (uncut c.args.byte c.args.bytes.now (sym c.in_err-end.ensures))

pub returns-clause-parts : goal.returns-clause-parts
returns-clause-parts c = cut_at c.args.byte c.args.bytes.now c.in_ok-end.end (sym c.in_ok-end.ensures)
