use Rattle.std.proofs.Common.{inl, inr, arith}
use Rattle.engine_pages.specs.Passes.{view}
use Rattle.tree_drops.proofs.visits.end_leaf.Goals as goal

pub take_chain-requires-clause-work : goal.take_chain-requires-clause-work
take_chain-requires-clause-work c =
    let high = c.if-header-ge-MOVED.true in c.requires.chain (omega (arith, high))

pub returns-then-header-ge-MOVED-clause-ends : goal.returns-then-header-ge-MOVED-clause-ends
returns-then-header-ge-MOVED-clause-ends c =
    inr c.take_chain.ensures.ends

pub take_leaf-found-requires-clause-bits : goal.take_leaf-found-requires-clause-bits
take_leaf-found-requires-clause-bits c =
    let low = c.if-header-ge-MOVED.false in
    elim c.requires.bits [ inl few ↦ few.0 | inr more ↦ absurd (omega (arith, more, low)) ]

pub take_leaf-found-requires-clause-whole : goal.take_leaf-found-requires-clause-whole
take_leaf-found-requires-clause-whole c =
    let low = c.if-header-ge-MOVED.false in
    elim c.requires.bits [ inl few ↦ few.1 | inr more ↦ absurd (omega (arith, more, low)) ]

pub returns-clause-ends : goal.returns-clause-ends
returns-clause-ends c =
    inl record {
      result = c.take_leaf-found.result;
      mid = view c.take_leaf-found.new.pass;
      taken = c.take_leaf-found.ensures.takes;
      leaves = c.leave.ensures.leaves;
      dropped = c.and.ensures.drops;
      kept = c.and.ensures.keeps;
    }
