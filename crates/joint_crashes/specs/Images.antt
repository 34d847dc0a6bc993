-- What is found of the devices of a database, and how much of it a savepoint counts.
use Rattle.std.specs.Prelude.{ℕ, List, Option, Some, None, get_or}
use Rattle.wire_form.specs.declared.savepoint.Savepoint.{Savepoint}

-- the bytes of each device, the log files by their numbers
pub record Images : Type 0 where
  pub save : List ℕ
  pub snaps : List ℕ
  pub bank : ℕ → List ℕ

-- the saved epoch; it is 0 where there is no savepoint
abbrev pub epoch_of : Option Savepoint → ℕ
epoch_of None = 0
epoch_of (Some p) = p.epoch

-- so many pages count
abbrev pub count_of : Option Savepoint → ℕ
count_of None = 0
count_of (Some p) = p.count

-- so many bytes of the log file with this number count
abbrev pub counted_of : Option Savepoint → ℕ → ℕ
counted_of None n = 0
counted_of (Some p) n = get_or p.lengths n 0
