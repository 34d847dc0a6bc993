-- The ends of a root's range are small in an array.
use Rattle.std.proofs.Common.{subst, sym}
use Rattle.engine_rule.specs.Reading.{IsBoundedIn}
use Rattle.engine_rule.proofs.ReadThere.{root_bounded}
use Rattle.engine_rule.proofs.reading.root_of.Goals as goal

pub returns-clause-bounded : goal.returns-clause-bounded
returns-clause-bounded c =
    subst (λ p. IsBoundedIn c.args.stored.now.decl p) (sym c.root_place.ensures.is)
    (root_bounded c.args.stored.now.decl c.args.stored.now.root)
