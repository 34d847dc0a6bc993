use Rattle.command_line.proofs.Plain.{plain_make_asks}
use Rattle.command_line.proofs.law.plain_words_make.Goals as goal

pub returns : goal.returns
returns c = plain_make_asks
