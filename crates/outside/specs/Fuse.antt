-- A disk that passes some calls on to another, and then fails each.
use Rattle.std.specs.Prelude.{◌≡◌, ◌<◌, ℕ, ◌+◌, ◌-◌, ◌^◌, min, Result, IsErr}
use Rattle.outside.specs.Faults.{HasCause}

-- A call of a fuse, by its passes, its own count of faults, and the other disk. It takes a pass where one is left, and
-- is answered by the other disk then; where none is left it fails, and changes nothing but the count.
pub record IsFused {D T E : Type 0} (faults : D → ℕ) (passes left own_was own_now : ℕ) (was now : D) (result : Result T E) : Type 0 where
  pub takes : left ≡ passes - 1
  pub passed : 0 < passes → HasCause (faults was) (faults now) result × (own_now ≡ own_was)
  pub blown : passes ≡ 0 → IsErr result × (now ≡ was) × (own_now ≡ min (own_was + 1) (2 ^ 64 - 1))
