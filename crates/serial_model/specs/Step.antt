-- What one transaction does, alone: its verdict, its replies and the state that it leaves.
use Rattle.std.specs.Prelude.{ℕ, ◌+◌, ◌-◌, ◌^◌, ◌++◌, Bool, true, false, List, [], ◌∷◌, Option, Some, None}
use Rattle.std.specs.Prelude.{if◌then◌else◌, nat_lt, nat_le, option_to_list}
use Rattle.std.specs.FinMap.{get, insert, remove}
use Rattle.serial_model.specs.Keys.{is_tree}
use Rattle.serial_model.specs.State.{State, amount_at, rows_of}
use Rattle.serial_model.specs.declared.decl.Decl.{Decl}
use Rattle.serial_model.specs.declared.op.Op.{Op}
use Rattle.serial_model.specs.declared.op.Op.TheVariants.{Read, Write, Remove, Add, Take, Scan}
use Rattle.serial_model.specs.declared.reply.Verdict.{Verdict}
use Rattle.serial_model.specs.declared.reply.Verdict.TheVariants.{Done, Short, Over}
use Rattle.serial_model.specs.declared.reply.Reply.{Reply}
use Rattle.serial_model.specs.declared.reply.Reply.TheVariants.{Value, Absent, Rows}

-- what a read replies, in a tree or in an array
abbrev pub reply_of : Bool → Option ℕ → Reply
reply_of kind (Some v) = Value v
reply_of true None = Absent
reply_of false None = Value 0

-- what one operation comes to: the transaction goes on, with a reply or none, or it ends
pub data Move : Type 0 where
  Goes : Option Reply → State → Move
  Ends : Verdict → Move

-- one operation over the state with the transaction's own writes
abbrev pub move_of : List Decl → State → Op → Move
move_of decls s (Read k) = Goes (Some (reply_of (is_tree decls k.storage) (get s k))) s
move_of decls s (Write k v) = Goes None (insert s k v)
move_of decls s (Remove k) = Goes None (remove s k)
move_of decls s (Add k v) =
    if nat_lt (amount_at s k + v) (2 ^ 64) then Goes None (insert s k (amount_at s k + v)) else Ends Over
move_of decls s (Take k v) =
    if nat_le v (amount_at s k) then Goes None (insert s k (amount_at s k - v)) else Ends Short
move_of decls s (Scan storage low high) = Goes (Some (Rows (rows_of s storage low high))) s

-- how a transaction ends
pub record Ended : Type 0 where
  pub verdict : Verdict
  pub replies : List Reply
  pub state : State

-- an ending by its parts
abbrev pub ended_of : Verdict → List Reply → State → Ended
ended_of v rs s = record { verdict = v; replies = rs; state = s }

-- an ending with one reply more at the front, or none
abbrev pub with_reply : Option Reply → Ended → Ended
with_reply r e = record e { replies = option_to_list r ++ e.replies }

-- after one operation, what the rest comes to; where the transaction ends, the state is as it was before it
abbrev pub after_move : State → Move → (State → Ended) → Ended
after_move first (Goes reply s) rest = with_reply reply (rest s)
after_move first (Ends verdict) rest = ended_of verdict [] first

-- the operations in order over s, where the state was first before the transaction's own writes
abbrev pub step_from : List Decl → State → List Op → State → Ended
step_from decls first [] s = ended_of Done [] s
step_from decls first (op ∷ ops) s = after_move first (move_of decls s op) (step_from decls first ops)

-- one transaction
abbrev pub step : List Decl → State → List Op → Ended
step decls s ops = step_from decls s ops s
