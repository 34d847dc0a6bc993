-- Commit numbers: which there are, and their order.
use Rattle.std.specs.Prelude.{◌≡◌, ◌⊎◌, ℕ, ◌-◌, ◌^◌, ◌<◌, ◌≤◌, ◌==◌, ◌&&◌, ◌||◌, Bool, true, nat_lt}
use Rattle.std.proofs.Common.{inl, inr, refl, ap, ◌∙◌, arith}
use Rattle.std.proofs.lemmas.Bool.Decides.{nat_tests}
use Rattle.serial_model.specs.declared.number.Config.{Config}
use Rattle.serial_model.specs.declared.number.Number.{Number}

-- the last epoch: its clock word is the greatest that names an epoch
abbrev pub last_epoch : ℕ
last_epoch = 2 ^ 20 - 2

-- how many workers there are
abbrev pub workers : ℕ
workers = 8

-- from this draw on the clock gives no numbers: seats of 64 workers may each have one on the way
abbrev pub draw_limit : ℕ
draw_limit = 2 ^ 40 - 64

-- a commit number: neither its epoch nor its draw is 0, and both fit their bits of a word
pub record IsNumber (n : Number) : Type 0 where
  pub some_epoch : 1 ≤ n.epoch
  pub most_epoch : n.epoch ≤ last_epoch
  pub some_draw : 1 ≤ n.draw
  pub most_draw : n.draw < 2 ^ 40

-- 4 to 4,096 slots, 1 to 65,536 resident snapshot pages, and a number to begin with
pub record IsConfig (c : Config) : Type 0 where
  pub some_slots : 4 ≤ c.slots
  pub most_slots : c.slots ≤ 4096
  pub some_snap : 1 ≤ c.snap
  pub most_snap : c.snap ≤ 65536
  pub first : IsNumber c.first

-- numbers are compared by epoch, and then by draw
abbrev pub IsBelow : Number → Number → Type 0
IsBelow a b = (a.epoch < b.epoch) ⊎ ((a.epoch ≡ b.epoch) × (a.draw < b.draw))

-- the same order as a test
abbrev pub is_below : Number → Number → Bool
is_below a b = nat_lt a.epoch b.epoch || ((a.epoch == b.epoch) && nat_lt a.draw b.draw)

-- ---- laws

-- the test holds of numbers in order
pub is_below-true : (a b : Number) → IsBelow a b → is_below a b ≡ true
is_below-true a b (inl earlier) = grind (arith, nat_tests)
is_below-true a b (inr same) = let epoch = same.0 in let draw = same.1 in grind (arith, nat_tests)

-- and of no others
pub below_from_test : (a b : Number) → is_below a b ≡ true → IsBelow a b
below_from_test a b test = grind (arith, nat_tests)

-- the order goes on
pub below_then : (a b c : Number) → IsBelow a b → IsBelow b c → IsBelow a c
below_then a b c (inl e) (inl f) = inl (omega arith)
below_then a b c (inl e) (inr f) = let same = f.0 in inl (omega arith)
below_then a b c (inr e) (inl f) = let same = e.0 in inl (omega arith)
below_then a b c (inr e) (inr f) = let less = e.1 in let more = f.1 in inr (e.0 ∙ f.0, omega arith)

-- no number is below itself
pub not_below_itself : (a b : Number) → a ≡ b → IsBelow a b → ⊥
not_below_itself a b same (inl e) = let epoch = ap (λ (n : Number). n.epoch) same in omega arith
not_below_itself a b same (inr e) = let draw = ap (λ (n : Number). n.draw) same in let less = e.1 in omega arith

-- two numbers are in one order
pub not_both_below : (a b : Number) → IsBelow a b → IsBelow b a → ⊥
not_both_below a b up down = not_below_itself a a refl (below_then a b a up down)
