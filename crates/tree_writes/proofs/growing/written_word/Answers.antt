use Rattle.std.proofs.Common.{◌∙◌, Option, None, sym, ap}
use Rattle.tx_sets.specs.declared.writes.Write.{Write}
use Rattle.tree_writes.specs.Writing.{place_of}
use Rattle.tree_writes.proofs.growing.written_word.Goals as goal

pub returns-in-Some : goal.returns-in-Some
returns-in-Some c = sym (ap (λ (o : Option Write). place_of None o) (sym c.find_in.ensures ∙ c.in-Some.is))

pub returns-in-None : goal.returns-in-None
returns-in-None c = sym (ap (λ (o : Option Write). place_of None o) (sym c.find_in.ensures ∙ c.in-None.is))
