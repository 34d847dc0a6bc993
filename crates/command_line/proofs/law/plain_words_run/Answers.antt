use Rattle.command_line.proofs.Plain.{plain_ask}
use Rattle.command_line.proofs.law.plain_words_run.Goals as goal

pub returns : goal.returns
returns c = plain_ask
