-- What it means that an attempt is a transaction's: the operations, in order, see what they wrote themselves, else what
-- the attempt's parts have.
use Rattle.std.specs.Prelude.{◌≡◌, ◌⊎◌, ℕ, ◌+◌, ◌-◌, ◌^◌, ◌<◌, ◌≤◌, ◌++◌, true, List, [], ◌∷◌, length, Contains, Option, Some, None, IsTrue, if◌then◌else◌, nat_lt, nat_le, option_to_list, unwrap_or, ⊤}
use Rattle.std.specs.FinMap.{get}
use Rattle.serial_model.specs.declared.key.Key.{Key}
use Rattle.serial_model.specs.declared.number.Change.{Change}
use Rattle.serial_model.specs.declared.decl.Decl.{Decl}
use Rattle.serial_model.specs.declared.op.Op.{Op}
use Rattle.serial_model.specs.declared.op.Op.TheVariants.{Read, Write, Remove, Add, Take, Scan}
use Rattle.serial_model.specs.declared.reply.Reply.{Reply}
use Rattle.serial_model.specs.declared.reply.Reply.TheVariants.{Rows}
use Rattle.serial_model.specs.declared.reply.Verdict.{Verdict}
use Rattle.serial_model.specs.declared.reply.Verdict.TheVariants.{Done, Short, Over}
use Rattle.serial_model.specs.Keys.{is_tree, fits}
use Rattle.serial_model.specs.State.{State, is_within, rows_of}
use Rattle.serial_model.specs.Step.{reply_of}
use Rattle.serial_model.specs.History.{Entry}
use Rattle.commit_core.specs.declared.part.Part.{Part}
use Rattle.commit_core.specs.declared.attempt.Attempt.{Attempt}
use Rattle.commit_core.specs.Keys.{written}
use Rattle.commit_core.specs.Parts.{covers, found}

-- ---- what a transaction sees

-- Some part covers the key, and has this value for it. Two parts may cover a key and have two values for it, where the
-- attempt is bound to fail: what it replies until then is seen in one of them.
pub record Vouched (parts : List Part) (k : Key) (value : Option ℕ) : Type 0 where
  pub part : Part
  pub among : Contains parts part
  pub over : covers part k ≡ true
  pub has : (found part k).value ≡ value

-- The transaction wrote this value at the key last, or wrote none there and a part has it.
abbrev pub Sees : List Part → List Change → Key → Option ℕ → Type 0
Sees parts own k value = (written k own ≡ Some value) ⊎ ((written k own ≡ None) × Vouched parts k value)

-- A scan with these rows looks at the key: it is in the range, and not behind the last row where there are 16.
pub record IsScanned (storage low high : ℕ) (rows : List (ℕ × ℕ)) (k : Key) : Type 0 where
  pub within : is_within storage low high k ≡ true
  pub reached : (length rows < 16) ⊎ ((row : ℕ × ℕ) × Contains rows row × (k.key ≤ row.0))

-- The rows of a scan: a value is seen at each key that it looks at, and every state that has these there gives the rows.
pub record SeesRows (parts : List Part) (own : List Change) (storage low high : ℕ) (rows : List (ℕ × ℕ)) : Type 0 where
  pub value_at : Key → Option ℕ
  pub covered : (k : Key) → IsScanned storage low high rows k → Sees parts own k (value_at k)
  pub given : (s : State) → ((k : Key) → IsScanned storage low high rows k → get s k ≡ value_at k)
      → rows ≡ rows_of s storage low high

-- ---- one operation

-- what one operation comes to: the transaction goes on, with a reply or none and with its writes, or it ends
pub data Turn : Type 0 where
  Continues : Option Reply → List Change → Turn
  Stops : Verdict → Turn

-- one write more: of equal keys the first counts, so the newest stands first
abbrev pub wrote : Key → Option ℕ → List Change → List Change
wrote k value own = record { key = k; value = value } ∷ own

-- what an addition comes to, where this was seen
abbrev pub added : Key → ℕ → ℕ → List Change → Turn
added k v before own =
    if nat_lt (before + v) (2 ^ 64) then Continues None (wrote k (Some (before + v)) own) else Stops Over

-- what a subtraction comes to, where this was seen
abbrev pub taken : Key → ℕ → ℕ → List Change → Turn
taken k v before own =
    if nat_le v before then Continues None (wrote k (Some (before - v)) own) else Stops Short

-- what a removal comes to, where this was seen: it writes nothing where nothing is there
abbrev pub removed : Key → Option ℕ → List Change → Turn
removed k None own = Continues None own
removed k (Some v) own = Continues None (wrote k None own)

-- What an operation of a transaction with these parts and writes comes to. Reads, removals, additions, subtractions and
-- scans need that what they ask for is seen; writes see nothing.
abbrev pub Turns : List Decl → List Part → List Change → Op → Turn → Type 0
Turns decls parts own (Read k) turn =
    (value : Option ℕ) × Sees parts own k value
    × (turn ≡ Continues (Some (reply_of (is_tree decls k.storage) value)) own)
Turns decls parts own (Write k v) turn = turn ≡ Continues None (wrote k (Some v) own)
Turns decls parts own (Remove k) turn =
    (value : Option ℕ) × Sees parts own k value × (turn ≡ removed k value own)
Turns decls parts own (Add k v) turn =
    (value : Option ℕ) × Sees parts own k value × (turn ≡ added k v (unwrap_or value 0) own)
Turns decls parts own (Take k v) turn =
    (value : Option ℕ) × Sees parts own k value × (turn ≡ taken k v (unwrap_or value 0) own)
Turns decls parts own (Scan storage low high) turn =
    (rows : List (ℕ × ℕ)) × SeesRows parts own storage low high rows × (turn ≡ Continues (Some (Rows rows)) own)

-- ---- all operations

-- how a transaction ends: with its replies and what it wrote
pub record Finished : Type 0 where
  pub verdict : Verdict
  pub replies : List Reply
  pub writes : List Change

-- a transaction that ends so, with these replies and writes
abbrev pub finished : Verdict → List Reply → List Change → Finished
finished v rs own = record { verdict = v; replies = rs; writes = own }

-- after one operation the rest runs over its writes; where the transaction ends, its writes are dropped
abbrev pub FinishesBy : Turn → (List Change → Finished → Type 0) → Finished → Type 0
FinishesBy (Continues reply own) rest f =
    (g : Finished) × rest own g × (f ≡ finished g.verdict (option_to_list reply ++ g.replies) g.writes)
FinishesBy (Stops verdict) rest f = f ≡ finished verdict [] []

-- The operations, which fit the declarations, run in order over the parts and these writes to this end.
abbrev pub Runs : List Decl → List Part → List Op → List Change → Finished → Type 0
Runs decls parts [] own f = f ≡ finished Done [] own
Runs decls parts (op ∷ ops) own f =
    IsTrue (fits decls op) × ((turn : Turn) × Turns decls parts own op turn × FinishesBy turn (Runs decls parts ops) f)

-- ---- attempts

-- The attempt is that of the entry's transaction: it has its number, the operations run over the attempt's parts to the
-- entry's verdict and replies, and the attempt writes at each key what they wrote there last.
pub record IsAttemptOf (decls : List Decl) (e : Entry) (a : Attempt) : Type 0 where
  pub number : e.number ≡ a.number
  pub own : List Change
  pub runs : Runs decls a.parts e.ops [] (finished e.verdict e.replies own)
  pub writes : (k : Key) → written k a.writes ≡ written k own

-- the attempts are those of the entries, one for one
abbrev pub AreAttemptsOf : List Decl → List Entry → List Attempt → Type 0
AreAttemptsOf decls [] [] = ⊤
AreAttemptsOf decls [] (a ∷ attempts) = ⊥
AreAttemptsOf decls (e ∷ entries) [] = ⊥
AreAttemptsOf decls (e ∷ entries) (a ∷ attempts) = IsAttemptOf decls e a × AreAttemptsOf decls entries attempts
