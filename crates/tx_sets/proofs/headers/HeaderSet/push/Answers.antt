use Rattle.std.proofs.Common.{arith, sym}
use Rattle.tx_sets.proofs.SetLaws.{room, pushed, seen_more}
use Rattle.tx_sets.proofs.headers.HeaderSet.push.Goals as goal

pub push-requires : goal.push-requires
push-requires c = (
  omega arith,
  room c.is_full.result c.args.self.now c.self.inside.seen.items 256 c.self.view_is c.is_full.ensures.value
      c.is_full.ensures.bound c.if-is_full.false,
)

pub invariant_of-self : goal.invariant_of-self
invariant_of-self c =
    seen_more c.args.self.now c.self.inside.seen.items c.push.new.self.items c.args.seen c.self.view_is
    c.push.ensures.items c.self.invariant c.requires.absent

pub returns : goal.returns
returns c =
    pushed 256 c.args.seen c.args.self.now c.self.inside.seen.items c.push.new.self.items (sym c.self.view_is)
    (room c.is_full.result c.args.self.now c.self.inside.seen.items 256 c.self.view_is c.is_full.ensures.value
    c.is_full.ensures.bound c.if-is_full.false)
    c.push.ensures.items
