use Rattle.command_line.proofs.Plain.{plain_dump_asks}
use Rattle.command_line.proofs.law.plain_words_dump.Goals as goal

pub returns : goal.returns
returns c = plain_dump_asks
