-- A transaction from its begin on: its calls, one after another, are its operations, and its commit is an attempt of
-- it.
use Rattle.std.specs.Prelude.{◌≡◌, ◌++◌, List, [], ◌∷◌, Option, IsTrue, option_to_list}
use Rattle.serial_model.specs.declared.decl.Decl.{Decl}
use Rattle.serial_model.specs.declared.number.Change.{Change}
use Rattle.serial_model.specs.declared.op.Op.{Op}
use Rattle.serial_model.specs.declared.reply.Reply.{Reply}
use Rattle.serial_model.specs.declared.reply.Verdict.{Verdict}
use Rattle.serial_model.specs.declared.reply.Verdict.TheVariants.{Done}
use Rattle.serial_model.specs.Keys.{fits}
use Rattle.serial_model.specs.History.{Entry}
use Rattle.commit_core.specs.declared.part.Part.{Part}
use Rattle.serial_bridge.specs.Transaction.{Turns, Continues, Runs, finished, IsAttemptOf}
use Rattle.tx_sets.specs.declared.sets.Sets.{Sets}
use Rattle.engine_pages.specs.declared.view.View.{View}
use Rattle.page_commit.specs.Committing.{changes_of, HasBegun, HasCommitted}
use Rattle.page_commit.specs.Turning.{AreWritesOf, HasDone, HasStopped}

-- The operations run in order over the parts, from these own writes to those, with these replies, and none ends the
-- transaction.
abbrev pub RunsOps : List Decl → List Part → List Op → List Change → List Reply → List Change → Type 0
RunsOps decls parts [] own replies end = (replies ≡ []) × (end ≡ own)
RunsOps decls parts (op ∷ ops) own replies end =
    IsTrue (fits decls op) × (reply : Option Reply) × (next : List Change) × (rest : List Reply)
    × Turns decls parts own op (Continues reply next) × RunsOps decls parts ops next rest end
    × (replies ≡ option_to_list reply ++ rest)

-- The transaction that is under way has run these operations with these replies, and its sets have what they wrote.
pub record HasRun (ops : List Op) (replies : List Reply) (sets : Sets) (v : View) : Type 0 where
  pub own : List Change
  pub writes : AreWritesOf sets.writes own
  pub runs : RunsOps v.layout.decls v.seat.kept ops [] replies own

-- The transaction that is under way has run these operations, and the last one ended it so: its writes are to be
-- dropped.
pub record HasEnded (ops : List Op) (verdict : Verdict) (replies : List Reply) (v : View) : Type 0 where
  pub runs : Runs v.layout.decls v.seat.kept ops [] (finished verdict replies [])

-- ---- what follows, call by call

-- a transaction that was begun has run nothing
abbrev pub BeginsRun : Type 0
BeginsRun = (sets : Sets) (v w : View) → HasBegun sets v w → HasRun [] [] sets w

-- an operation that was done is one more
abbrev pub GoesOnRun : Type 0
GoesOnRun = (ops : List Op) (replies : List Reply) (op : Op) (reply : Option Reply) (sets new : Sets) (v w : View)
    → HasRun ops replies sets v → IsTrue (fits v.layout.decls op) → HasDone op reply sets new v w
    → HasRun (ops ++ op ∷ []) (replies ++ option_to_list reply) new w

-- and so is one that ended the transaction
abbrev pub EndsRun : Type 0
EndsRun = (ops : List Op) (replies : List Reply) (op : Op) (verdict : Verdict) (sets new : Sets) (v w : View)
    → HasRun ops replies sets v → IsTrue (fits v.layout.decls op) → HasStopped op verdict sets new v w
    → HasEnded (ops ++ op ∷ []) verdict replies w

-- What a commit with the writes adds to the history is an attempt of the transaction that was run, so its replies are
-- those of the serial step on the state below its number (`AttemptsStep` of serial_bridge).
abbrev pub CommitsRun : Type 0
CommitsRun = (e : Entry) (sets : Sets) (v w : View) → HasRun e.ops e.replies sets v → e.verdict ≡ Done
    → (c : HasCommitted (changes_of sets.writes) e.number v w) → IsAttemptOf v.layout.decls e c.attempt

-- and so is what a commit without the writes adds, where an operation ended the transaction
abbrev pub CommitsEnd : Type 0
CommitsEnd = (e : Entry) (v w : View) → HasEnded e.ops e.verdict e.replies v → (c : HasCommitted [] e.number v w)
    → IsAttemptOf v.layout.decls e c.attempt
