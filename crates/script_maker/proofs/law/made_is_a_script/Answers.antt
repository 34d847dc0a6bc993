use Rattle.script_maker.proofs.MadeScript.{made_is}
use Rattle.script_maker.proofs.law.made_is_a_script.Goals as goal

pub returns : goal.returns
returns c = made_is
