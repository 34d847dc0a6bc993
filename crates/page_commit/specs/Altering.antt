-- Additions and subtractions.
use Rattle.std.specs.Prelude.{ℕ, ◌+◌, ◌-◌, ◌^◌, Option, Some, None, if◌then◌else◌, nat_lt, nat_le}
use Rattle.serial_model.specs.declared.key.Key.{Key}
use Rattle.serial_model.specs.declared.op.Op.{Op}
use Rattle.serial_model.specs.declared.op.Op.TheVariants as ops
use Rattle.serial_model.specs.declared.reply.Verdict.{Verdict}
use Rattle.serial_model.specs.declared.reply.Verdict.TheVariants.{Done, Short, Over}
use Rattle.tx_sets.specs.declared.sets.Sets.{Sets}
use Rattle.engine_pages.specs.declared.view.View.{View}
use Rattle.page_commit.specs.declared.writing.By.{By}
use Rattle.page_commit.specs.declared.writing.By.TheVariants as ways
use Rattle.page_commit.specs.Turning.{HasDone, HasStopped}

-- the operation
abbrev pub op_of : Key → By → Op
op_of k (ways.Add amount) = ops.Add k amount
op_of k (ways.Take amount) = ops.Take k amount

-- the value afterwards, where it is from 0 to 2^64 - 1
abbrev pub altered : By → ℕ → Option ℕ
altered (ways.Add amount) before = if nat_lt (before + amount) (2 ^ 64) then Some (before + amount) else None
altered (ways.Take amount) before = if nat_le amount before then Some (before - amount) else None

-- how the transaction ends where it is not
abbrev pub ended_by : By → Verdict
ended_by (ways.Add amount) = Over
ended_by (ways.Take amount) = Short

-- the transaction goes on, or ends with this verdict
abbrev pub Alters : Op → Verdict → Sets → Sets → View → View → Type 0
Alters op Done sets new v w = HasDone op None sets new v w
Alters op Short sets new v w = HasStopped op Short sets new v w
Alters op Over sets new v w = HasStopped op Over sets new v w
