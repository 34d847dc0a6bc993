use Rattle.command_line.proofs.Plain.{plain_snap_asks}
use Rattle.command_line.proofs.law.plain_words_snap.Goals as goal

pub returns : goal.returns
returns c = plain_snap_asks
