-- What is made one after another, for all loops of trees.
use Rattle.std.proofs.Common.{◌≡◌, ℕ, ◌<◌, ◌≤◌, List, [], ◌∷◌, ◌++◌, refl, sym, ap, ◌∙◌, arith, append_assoc, append-nil}
use Rattle.root_composer.specs.declared.fault.ComposeFault.{ComposeFault}
use Rattle.root_composer.specs.Composer.{Made, AllMade, with_one}
use Rattle.root_composer.specs.TreeCode.{AddsWithin, WouldBeDeep, LeavesRest}

-- nothing was made yet
pub none_left_out : (depth : ℕ) (made : List (List ℕ)) (all : AllMade) → LeavesRest depth [] made made all all
none_left_out depth made all = record { numbers_are = refl; pages = refl; least = omega arith; most = λ h. h }

-- one more was made
pub rest_behind : (depth n : ℕ) (numbers : List ℕ) (before made after : List (List ℕ)) (one : Made) (rest behind all : AllMade)
    → rest ≡ with_one one behind → LeavesRest depth numbers before made rest all → AddsWithin depth made after n one → LeavesRest depth (numbers ++ n ∷ []) before after behind all
rest_behind depth n numbers before made after one rest behind all is so_far adds = record {
  numbers_are =
      append_assoc numbers (n ∷ []) behind.numbers
      ∙ ap (λ k. numbers ++ (k ∷ behind.numbers)) adds.number
      ∙ ap (λ r. numbers ++ AllMade.numbers r) (sym is)
      ∙ so_far.numbers_are;
  pages =
      ap (λ t. t ++ behind.pages) adds.pages
      ∙ append_assoc made one.pages behind.pages
      ∙ ap (λ r. made ++ AllMade.pages r) (sym is)
      ∙ so_far.pages;
  least = omega (arith, ap AllMade.levels is, so_far.least);
  most = λ h. so_far.most (omega (arith, ap AllMade.levels is, adds.levels, h));
}

-- one that would stand too deep
pub rest_deep : (depth : ℕ) (fault : ComposeFault) (numbers : List ℕ) (before made : List (List ℕ)) (one : Made) (rest behind all : AllMade)
    → rest ≡ with_one one behind → LeavesRest depth numbers before made rest all → WouldBeDeep depth fault one → depth < all.levels
rest_deep depth fault numbers before made one rest behind all is so_far deep = omega (arith, ap AllMade.levels is, so_far.least, deep.levels)

-- nothing is left
pub record AreAll (depth : ℕ) (numbers : List ℕ) (before made : List (List ℕ)) (all : AllMade) : Type 0 where
  pub numbers_are : numbers ≡ all.numbers
  pub pages : made ≡ before ++ all.pages
  pub levels : all.levels ≤ depth

pub none_rest : (depth : ℕ) (numbers : List ℕ) (before made : List (List ℕ)) (rest all : AllMade) → rest ≡ record { numbers = []; pages = []; levels = 0 } → LeavesRest depth numbers before made rest all → AreAll depth numbers before made all
none_rest depth numbers before made rest all is so_far = record {
  numbers_are = sym (append-nil numbers) ∙ ap (λ r. numbers ++ AllMade.numbers r) (sym is) ∙ so_far.numbers_are;
  pages = sym (append-nil made) ∙ ap (λ r. made ++ AllMade.pages r) (sym is) ∙ so_far.pages;
  levels = so_far.most (omega (arith, ap AllMade.levels is));
}
