use Rattle.recovery_core.proofs.GatherLaws.{puts_one}
use Rattle.recovery_core.proofs.gather_page.put.Goals as goal

pub returns : goal.returns
returns c number = puts_one c.args.state.now c.args.key number c.args.value c.insert.new.self
    c.in_ok-insert.ensures.ok
