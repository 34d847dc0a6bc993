use Rattle.script_grammar.proofs.Limits.{no_limits}
use Rattle.script_grammar.proofs.storages.Storages.new.Goals as goal

pub invariant_of-result : goal.invariant_of-result
invariant_of-result c = no_limits c.new.result 256
