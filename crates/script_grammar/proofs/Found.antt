-- What steps that found something say.
use Rattle.std.proofs.Common.{◌≡◌, ◌⊎◌, inl, inr, Bool, true, false, cond, Option, Some, None, refl}
use Rattle.std.specs.Prelude.{◌||◌, ◌&&◌, not, is_none}
use Rattle.script_grammar.specs.Words.{◌>>=◌}

-- two steps found something, so each did
pub bind_some : {A B : Type 0} (o : Option A) (f : A → Option B) (y : B) → (o >>= f) ≡ Some y → (x : A) × (o ≡ Some x) × (f x ≡ Some y)
bind_some (Some x) f y e = (x, refl, e)
bind_some None f y e = absurd cc

-- a test that found something passed
pub test_some : {A : Type 0} (b : Bool) (x y : A) → cond b (Some x) None ≡ Some y → (b ≡ true) × (x ≡ y)
test_some true x y e = (refl, cc)
test_some false x y e = absurd cc

-- a test that refused nothing did not pass
pub not_test_some : {A : Type 0} (b : Bool) (o : Option A) (y : A) → cond b None o ≡ Some y → (b ≡ false) × (o ≡ Some y)
not_test_some true o y e = absurd cc
not_test_some false o y e = (refl, e)

-- a choice that finds something passed its test
pub chosen : {A : Type 0} (b : Bool) (o : Option A) (x : A) → cond b o None ≡ Some x → (b ≡ true) × (o ≡ Some x)
chosen true o x e = (refl, e)
chosen false o x e = absurd cc

-- the same thing was found
pub some_same : {A : Type 0} (x y : A) → Some x ≡ Some y → x ≡ y
some_same x y e = cc

-- what is denied of nothing is found
pub some_from : {A : Type 0} (o : Option A) → is_none o ≡ false → (x : A) × (o ≡ Some x)
some_from None e = absurd cc
some_from (Some x) e = (x, refl)

-- what is not denied is true
pub not_true : (b : Bool) → not b ≡ false → b ≡ true
not_true true e = refl
not_true false e = absurd cc

-- what is denied is false
pub not_false : (b : Bool) → not b ≡ true → b ≡ false
not_false true e = absurd cc
not_false false e = refl

-- neither of two
pub or_parts : (x y : Bool) → (x || y) ≡ false → (x ≡ false) × (y ≡ false)
or_parts true y e = absurd cc
or_parts false y e = (refl, e)

-- not one of two, where neither
pub or_from : (x y : Bool) → x ≡ false → y ≡ false → (x || y) ≡ false
or_from true y e f = absurd cc
or_from false y e f = f

-- one of two
pub or_cases : (x y : Bool) → (x || y) ≡ true → (x ≡ true) ⊎ (y ≡ true)
or_cases true y e = inl refl
or_cases false y e = inr e

-- of two that don't both hold the second doesn't, where the first does
pub second_false : (x y : Bool) → x ≡ true → (x && y) ≡ false → y ≡ false
second_false true y e f = f
second_false false y e f = absurd cc

-- the last of two holds
pub or_last : (x y : Bool) → y ≡ true → (x || y) ≡ true
or_last true y e = refl
or_last false y e = e

-- one of two, where the last of them gives another
pub or_more : (x y z : Bool) → (x || y) ≡ true → (y ≡ true → z ≡ true) → (x || z) ≡ true
or_more true y z e more = refl
or_more false y z e more = more e

-- what is true is not denied
pub denied : (b : Bool) → b ≡ true → not b ≡ false
denied true e = refl
denied false e = absurd cc
