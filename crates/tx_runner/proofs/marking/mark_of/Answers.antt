use Rattle.tx_runner.proofs.LoadedMarks.{no_mark}
use Rattle.tx_runner.proofs.marking.mark_of.Goals as goal

pub unreachable-requires : goal.unreachable-requires
unreachable-requires c =
    no_mark c.requires.0 c.args.word c.parts.result c.requires.1 c.requires.2 c.parts.ensures c.in-None.is
