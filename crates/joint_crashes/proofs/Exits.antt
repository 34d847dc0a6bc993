-- What exits answer, over plain variables: a tactic within an answer reads all that is known there.
use Rattle.std.proofs.Common.{◌≡◌, Result, Ok, Err}

module _ {T E : Type 0} where
  -- an answer is no fault
  pub not_err : (x : T) (e : E) → ◌≡◌ {A = Result T E} (Ok x) (Err e) → ⊥
  not_err x e bad = cc

  -- and a fault is the one that is told
  pub same_err : (x y : E) → ◌≡◌ {A = Result T E} (Err x) (Err y) → x ≡ y
  same_err x y is = cc
