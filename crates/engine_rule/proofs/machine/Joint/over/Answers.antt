-- The start is sound.
use Rattle.engine_rule.proofs.Stepping.{opened_sound}
use Rattle.engine_rule.proofs.machine.Joint.over.Goals as goal

pub returns-clause-sound : goal.returns-clause-sound
returns-clause-sound c can =
    opened_sound c.both_stay_sound.ensures.starts c.args.snaps c.args.published c.args.roots.now c.args.first c.args.room c.args.seats c.opened.result can c.opened.ensures
