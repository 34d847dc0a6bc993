-- The first place with the key.
use Rattle.std.proofs.Common.{◌<◌, ◌∙◌, ℕ, length, sym, ap, subst, get_or}
use Rattle.serial_model.specs.declared.key.Key.{Key}
use Rattle.homes.specs.Homes.{same_key}
use Rattle.drop_core.proofs.Lookups.{key-here}
use Rattle.drop_core.proofs.queries.leaf_home.Goals as goal

pub returns-then-eq : goal.returns-then-eq
returns-then-eq c =
    let none : Key = record { storage = 0; key = 0 } in
    key-here c.args.slot c.args.keys.now c.args.key c.loop-k.index none
    (subst (λ (i : ℕ). i < length c.args.keys.now) (sym c.loop-k.invariant.count) c.loop-k-test.true) c.loop-k.invariant.rest
    (ap (λ (i : ℕ). same_key (get_or c.args.keys.now i none) c.args.key) c.loop-k.invariant.count ∙ sym c.eq.ensures ∙ c.if-eq.true)
