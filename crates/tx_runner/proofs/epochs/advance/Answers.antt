use Rattle.std.proofs.Common.{refl, arith}
use Rattle.engine_pages.specs.Passes.{view}
use Rattle.tx_runner.proofs.Clocks.{advanced_epoch, last_one}
use Rattle.tx_runner.proofs.epochs.advance.Goals as goal

pub returns-clause-advances : goal.returns-clause-advances
returns-clause-advances c = advanced_epoch (view c.args.keeper.now) (view c.load_clock-clock.new.pass)
    (view c.advance.new.keeper) c.load_clock-clock.result _ c.requires.keeper c.load_clock-clock.ensures.times refl
    (omega (arith, c.if-epoch-ge-LAST_EPOCH.false)) c.advance.ensures.advances

pub returns-then-epoch-ge-LAST_EPOCH-clause-limit : goal.returns-then-epoch-ge-LAST_EPOCH-clause-limit
returns-then-epoch-ge-LAST_EPOCH-clause-limit c = last_one (view c.args.keeper.now) (view c.load_clock-clock.new.pass)
    c.load_clock-clock.result _ c.load_clock-clock.ensures.times refl c.if-epoch-ge-LAST_EPOCH.true
