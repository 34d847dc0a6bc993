-- What a list of records shows.
use Rattle.std.specs.Prelude.{ℕ, List}

-- what was recorded, in its order, and for how many more there is room
pub record Recorded (A : Type 0) : Type 0 where
  pub items : List A
  pub room : ℕ
