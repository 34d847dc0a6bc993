-- The storages are the same, or they aren't.
use Rattle.program_calls.proofs.shape.check_same.Goals as goal

pub returns-then-are_same-clause-same : goal.returns-then-are_same-clause-same
returns-then-are_same-clause-same c = c.are_same.ensures.0 c.if-are_same.true

pub returns-clause-other : goal.returns-clause-other
returns-clause-other c = (
  c.in_ok-declared.ensures.same,
  c.in_ok-declared.ensures.rising,
  λ same. absurd (let is = c.are_same.ensures.1 (rw c.in_ok-kept.ensures at same) in let not = c.if-are_same.false in cc),
  c.in_ok-kept.ensures,
)
