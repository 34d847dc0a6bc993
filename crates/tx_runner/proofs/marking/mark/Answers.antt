use Rattle.std.proofs.Common.{◌-◌, ◌≡◌, ℕ, arith, subst, Some}
use Rattle.engine_pages.specs.Passes.{view}
use Rattle.engine_seats.specs.Clock.{marked}
use Rattle.tx_runner.proofs.Clocks.{marked_over, marked_up}
use Rattle.tx_runner.proofs.marking.mark.Goals as goal

pub returns-clause-marks : goal.returns-clause-marks
returns-clause-marks c = subst
    (λ (n : ℕ). view c.mark.new.pass
    ≡ marked (record { epoch = Some (c.args.clock - 1); length = n }) (view c.args.pass.now))
    c.durable.ensures.durable c.mark.ensures.marks

pub returns-clause-up : goal.returns-clause-up
returns-clause-up c = marked_up c.args.clock (c.args.clock - 1) c.durable.result (view c.args.pass.now)
    (view c.mark.new.pass) c.mark.ensures.marks (omega (arith, c.requires.clock.0))

pub returns-clause-over : goal.returns-clause-over
returns-clause-over c = marked_over (record { epoch = Some (c.args.clock - 1); length = c.durable.result })
    (view c.args.pass.now) (view c.mark.new.pass) c.requires.over c.mark.ensures.marks
