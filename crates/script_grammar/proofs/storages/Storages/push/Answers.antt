use Rattle.std.proofs.Common.{arith}
use Rattle.script_grammar.proofs.Limits.{limits_push}
use Rattle.script_grammar.proofs.storages.Storages.push.Goals as goal

pub invariant_of-self : goal.invariant_of-self
invariant_of-self c = rw c.in_err-push.ensures.memory c.self.invariant

pub invariant_of-self-2 : goal.invariant_of-self-2
invariant_of-self-2 c =
    rw (c.in_ok-push.ensures.ok, c.from.ensures, c.id_of.ensures)
    (limits_push c.self.inside.decls c.args.decl c.self.inside.limits c.limit_of.result c.self.invariant (omega (arith, c.self.told, c.id_of.ensures, c.id_of.type_inv)) c.limit_of.ensures)
