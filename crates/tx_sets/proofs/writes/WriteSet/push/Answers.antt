use Rattle.std.proofs.Common.{subst, sym, ◌≡◌, false, List}
use Rattle.tx_sets.specs.declared.writes.Write.{Write}
use Rattle.tx_sets.specs.Entries.{has_write, writes_at}
use Rattle.tx_sets.proofs.SetLaws.{kept_put, put_in, room}
use Rattle.tx_sets.proofs.writes.WriteSet.push.Goals as goal

pub invariant_of-self : goal.invariant_of-self
invariant_of-self c =
    kept_put c.self.inside.writes.items c.as_slice.result.now c.insert.new.self.items c.place_of-place.result
    c.args.write
    c.as_slice.ensures.value c.insert.ensures.items c.place_of-place.ensures.bound c.place_of-place.ensures.place
    (subst (λ (l : List Write). has_write c.args.write.key l ≡ false) (sym c.self.view_is) c.requires.absent)
    (subst (λ (l : List Write). writes_at c.args.write.at l ≡ false) (sym c.self.view_is) c.requires.another)
    c.self.invariant

pub returns : goal.returns
returns c =
    put_in c.args.self.now c.self.inside.writes.items c.insert.new.self.items c.place_of-place.result c.args.write
    (sym c.self.view_is) c.insert.ensures.items
    (room c.is_full.result c.args.self.now c.self.inside.writes.items 16 c.self.view_is c.is_full.ensures.value
    c.is_full.ensures.bound c.if-is_full.false)
