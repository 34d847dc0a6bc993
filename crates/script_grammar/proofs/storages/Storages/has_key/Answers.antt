use Rattle.std.proofs.lemmas.Bool.{ltb-true}
use Rattle.script_grammar.proofs.storages.Storages.has_key.Goals as goal

pub returns : goal.returns
returns c = λ is. rw (← c.self.view_is) (c.self.invariant.0 c.args.key.storage c.args.key.key (ltb-true _ _ (rw c.from.ensures at is)))
