-- What a transaction writes, and what its worker's log gets of it.
use Rattle.std.specs.Prelude.{◌≡◌, ◌≢◌, List, [], map, Option, Some, None}
use Rattle.std.specs.List.{AllByRecursion, Contains}
use Rattle.std.specs.FinMap.{get}
use Rattle.serial_model.specs.Keys.{IsKeyBelow}
use Rattle.serial_model.specs.State.{State}
use Rattle.serial_model.specs.Step.{step}
pub use Rattle.serial_model.specs.WriteSet.{written_by, written_then, written_from, kept_by, write_set}
use Rattle.serial_model.specs.declared.decl.Decl.{Decl}
use Rattle.serial_model.specs.declared.key.Key.{Key}
use Rattle.serial_model.specs.declared.number.Change.{Change}
use Rattle.serial_model.specs.declared.number.Commit.{Commit}
use Rattle.serial_model.specs.declared.number.Number.{Number}
use Rattle.serial_model.specs.declared.op.Op.{Op}
use Rattle.wire_form.specs.Items.{Rises}
use Rattle.wire_form.specs.LogLine.{key_of}

-- ---- the write set

-- these keys, ascending, each once
pub record AreKeysOf (written keys : List Key) : Type 0 where
  pub rising : Rises IsKeyBelow keys
  pub each : AllByRecursion (Contains written) keys
  pub all : (key : Key) → Contains written key → Contains keys key

-- ---- the log line

-- The changes of a transaction: the keys of its write set, each with the value that it leaves there, or its removal.
pub record AreChangesOf (decls : List Decl) (s : State) (ops : List Op) (changes : List Change) : Type 0 where
  pub keys : AreKeysOf (write_set decls s ops) (map key_of changes)
  pub values : AllByRecursion (λ c. c.value ≡ get (step decls s ops).state c.key) changes

-- What a log gets of the transaction with this number: nothing where it wrote no key, else its number and its changes.
abbrev pub IsLogged : List Decl → State → List Op → Number → Option Commit → Type 0
IsLogged decls s ops number None = write_set decls s ops ≡ []
IsLogged decls s ops number (Some c) = (write_set decls s ops ≢ []) × (c.number ≡ number)
    × AreChangesOf decls s ops c.changes
