-- The lines of the keys so far were added.
use Rattle.std.specs.FinMap.{entries}
use Rattle.tx_script.specs.StateText.{key_lines}
use Rattle.tx_script.proofs.TextSoFar.{TextSoFar}
use Rattle.tx_script.proofs.state.put_keys.Given as goal

abbrev pub invariant-loop-key : goal.invariant-loop-key
invariant-loop-key g l = TextSoFar l.fn.printer l.printer (key_lines l.decls l.key-iterator) (key_lines l.decls (entries l.state))
