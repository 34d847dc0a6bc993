-- What exits answer, over plain variables: a tactic within an answer reads all that is known there.
use Rattle.std.proofs.Common.{◌≡◌, ◌+◌, ◌<◌, ◌≤◌, ℕ, Result, Ok, Err, subst, sym, arith}
use Rattle.lists.specs.declared.memory.OrMemory.{OrMemory}
use Rattle.lists.specs.declared.memory.OrMemory.TheVariants.{Fault, Memory}

module _ {T E : Type 0} where
  -- what was done is no fault
  pub not_err : (x : T) (e : E) → ◌≡◌ {A = Result T E} (Ok x) (Err e) → ⊥
  not_err x e bad = cc

  -- and want of memory is none of a settling's
  pub memory_is_no_fault : (f : E) → ◌≡◌ {A = Result T (OrMemory E)} (Err Memory) (Err (Fault f)) → ⊥
  memory_is_no_fault f bad = cc

  -- the fault that is told
  pub same_err : (x y : E) → ◌≡◌ {A = Result T E} (Err x) (Err y) → x ≡ y
  same_err x y is = cc

  -- and told under another name
  pub told_as : (e x y : E) → y ≡ x → y ≡ e → ◌≡◌ {A = Result T E} (Err e) (Err x)
  told_as e x y is same = cc

-- what is below a number, and named otherwise
pub below_so : (n m most : ℕ) → n ≡ m → m < most → n < most
below_so n m most is below = subst (λ x. x < most) (sym is) below

-- there are some, and few enough
pub some_so : (n m : ℕ) → n ≡ m → 1 ≤ m → 1 ≤ n
some_so n m is some = omega (arith, is, some)

pub some_more : (k n m : ℕ) → n ≡ m → 1 ≤ m → 1 ≤ k + n
some_more k n m is some = omega (arith, is, some)

pub few_more : (k n m room most : ℕ) → n ≡ m → k + m ≤ room → room ≤ most → k + n ≤ most
few_more k n m room most is few within = omega (arith, is, few, within)

-- the count that is told stands within the room
pub count_within : (count k n m room : ℕ) → count ≡ k + n → n ≡ m → k + m ≤ room → count ≤ room
count_within count k n m room told is few = omega (arith, told, is, few)

-- a count that was told, of what stands within the room
pub told_within : (count n room : ℕ) → count ≡ n → n ≤ room → count ≤ room
told_within count n room told few = omega (arith, told, few)
