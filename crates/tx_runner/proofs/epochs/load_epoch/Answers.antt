use Rattle.std.proofs.Common.{refl}
use Rattle.engine_pages.specs.Passes.{view}
use Rattle.tx_runner.proofs.Clocks.{seen_epoch}
use Rattle.tx_runner.proofs.epochs.load_epoch.Goals as goal

pub returns-clause-seen : goal.returns-clause-seen
returns-clause-seen c = seen_epoch (view c.args.pass.now) (view c.load_clock-clock.new.pass) c.load_clock-clock.result _
    c.load_clock-clock.ensures.times refl
