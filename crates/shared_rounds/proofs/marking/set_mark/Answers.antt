-- With lines the mark is set anew, and without one it is idle.
use Rattle.std.proofs.Common.{◌<◌, ◌^◌, arith, ap, subst}
use Rattle.wire_form.specs.declared.clock.Mark.{Mark}
use Rattle.shared_rounds.proofs.FirstMarks.{busy_set, idle_set}
use Rattle.shared_rounds.proofs.marking.set_mark.Goals as goal

pub returns-then-lines-gt0-clause-sets : goal.returns-then-lines-gt0-clause-sets
returns-then-lines-gt0-clause-sets g c =
    busy_set c.args.lines (omega (arith, c.if-lines-gt0.true)) c.show_first.ensures.first

pub returns-clause-sets : goal.returns-clause-sets
returns-clause-sets g c =
    idle_set c.args.lines (λ more. omega (arith, more, c.if-lines-gt0.false))
    (c.requires.idle (omega (arith, c.if-lines-gt0.false)))
    (subst (λ (m : Mark). m.length < 2 ^ 40) c.mark.ensures.mark c.mark.ensures.counted) c.mark.result.length
    (ap (λ (m : Mark). m.length) c.mark.ensures.mark) c.idle.ensures.marks
    c.idle.ensures.over
