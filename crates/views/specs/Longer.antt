-- The longer of two fronts of one list: what two seats have seen together, each of which saw a front.
use Rattle.std.proofs.Common.{◌≡◌, Bool, true, false, cond, ltb, List, length, refl, arith}
use Rattle.std.proofs.lemmas.Bool.Decides.{nat_tests}
use Rattle.lists.specs.Fronts.{IsFront, front_refl, front_within}

module _ {A : Type 0} where
  -- the longer of two, the first where they are as long
  abbrev pub longer : List A → List A → List A
  longer xs ys = cond (ltb (length xs) (length ys)) ys xs

  -- both are fronts of zs, which is a front of all
  pub record IsLonger (xs ys zs all : List A) : Type 0 where
    pub left : IsFront xs zs
    pub right : IsFront ys zs
    pub whole : IsFront zs all

  pub longer_of : (xs ys all : List A) → IsFront xs all → IsFront ys all → IsLonger xs ys (longer xs ys) all
  longer_of xs ys all first next = by_test (ltb (length xs) (length ys)) refl
    where
      by_test : (b : Bool) → ltb (length xs) (length ys) ≡ b → IsLonger xs ys (cond b ys xs) all
      by_test true is = record { left = front_within xs ys all first next (grind (arith, nat_tests)); right = front_refl ys; whole = next }
      by_test false is = record { left = front_refl xs; right = front_within ys xs all next first (grind (arith, nat_tests)); whole = first }
