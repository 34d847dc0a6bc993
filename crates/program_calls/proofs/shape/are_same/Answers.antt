-- Both ways, or not one of them.
use Rattle.program_calls.proofs.shape.are_same.Goals as goal

pub returns-then-not-has_all : goal.returns-then-not-has_all
returns-then-not-has_all c = (
  λ is. absurd cc,
  λ same. absurd (let all = c.has_all.ensures.1 (λ decl. (same decl).0) in let not = c.if-not-has_all.true in cc),
)

pub returns : goal.returns
returns c = (
  λ is decl. (c.has_all.ensures.0 c.if-not-has_all.false decl, c.has_all-2.ensures.0 is decl),
  λ same. c.has_all-2.ensures.1 (λ decl. (same decl).1),
)
