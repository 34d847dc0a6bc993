use Rattle.command_line.proofs.Plain.{plain_snaps_asks}
use Rattle.command_line.proofs.law.plain_words_snaps.Goals as goal

pub returns : goal.returns
returns c = plain_snaps_asks
