-- Lines: lists of operations on storages, each of which is one transaction.
use Rattle.std.specs.Prelude.{◌≡◌, ℕ, ◌+◌, ◌*◌, ◌≤◌, Bool, true, false, List, ◌∷◌, length, Contains, cond, sum_by}
use Rattle.serial_model.specs.declared.decl.Decl.{Decl}
use Rattle.serial_model.specs.declared.key.Key.{Key}
use Rattle.serial_model.specs.declared.number.Number.{Number}
use Rattle.serial_model.specs.declared.op.Op.{Op}
use Rattle.serial_model.specs.declared.op.Op.TheVariants.{Read, Write, Remove, Add, Take, Scan}
use Rattle.serial_model.specs.declared.reply.Reply.{Reply}
use Rattle.serial_model.specs.declared.reply.Verdict.{Verdict}
use Rattle.serial_model.specs.declared.reply.Verdict.TheVariants.{Done, Short, Over}
use Rattle.serial_model.specs.History.{Entry}
use Rattle.serial_model.specs.Keys.{is_tree}
use Rattle.serial_model.specs.ReplyWords.{AreReplyWords, replies_of}
use Rattle.serial_model.specs.State.{is_within}
use Rattle.page_commit.specs.Calls.{alter_most, end_most}
use Rattle.tree_walks.specs.Finds.{find_steps}
use Rattle.tree_ranges.specs.Causes.{scan_most}
use Rattle.tree_writes.specs.Causes.{write_most}
use Rattle.tree_writes.specs.Causes.{alter_most as tree_most}

-- the storage of the operation
abbrev pub storage_of : Op → ℕ
storage_of (Read k) = k.storage
storage_of (Write k value) = k.storage
storage_of (Remove k) = k.storage
storage_of (Add k amount) = k.storage
storage_of (Take k amount) = k.storage
storage_of (Scan storage low high) = storage

-- a tree with the operation's storage is declared
abbrev pub is_on_tree : List Decl → Op → Bool
is_on_tree decls op = is_tree decls (storage_of op)

-- the operation is on a tree
abbrev pub IsOnTree : List Decl → Op → Type 0
IsOnTree decls op = is_on_tree decls op ≡ true

-- an operation of the line is on a tree
abbrev pub HasTreeOp : List Decl → List Op → Type 0
HasTreeOp decls ops = (op : Op) × Contains ops op × IsOnTree decls op

-- the operation scans a tree
abbrev pub IsTreeScan : List Decl → Op → Type 0
IsTreeScan decls (Read k) = ⊥
IsTreeScan decls (Write k value) = ⊥
IsTreeScan decls (Remove k) = ⊥
IsTreeScan decls (Add k amount) = ⊥
IsTreeScan decls (Take k amount) = ⊥
IsTreeScan decls (Scan storage low high) = is_tree decls storage ≡ true

-- an operation of the line scans a tree
abbrev pub HasTreeScan : List Decl → List Op → Type 0
HasTreeScan decls ops = (op : Op) × Contains ops op × IsTreeScan decls op

-- the operation is of this key, or of a range with it
abbrev pub IsOfKey : Op → Key → Type 0
IsOfKey (Read k) q = k ≡ q
IsOfKey (Write k value) q = k ≡ q
IsOfKey (Remove k) q = k ≡ q
IsOfKey (Add k amount) q = k ≡ q
IsOfKey (Take k amount) q = k ≡ q
IsOfKey (Scan storage low high) q = is_within storage low high q ≡ true

-- a transaction with this verdict keeps its writes
abbrev pub keeps : Verdict → Bool
keeps Done = true
keeps Short = false
keeps Over = false

-- how many steps an operation on a tree takes at most, where there are so many slots
abbrev pub tree_steps : ℕ → Op → ℕ
tree_steps slots (Read k) = find_steps + end_most
tree_steps slots (Write k value) = write_most slots
tree_steps slots (Remove k) = tree_most slots
tree_steps slots (Add k amount) = tree_most slots
tree_steps slots (Take k amount) = tree_most slots
tree_steps slots (Scan storage low high) = scan_most low high

-- how many steps an operation takes at most, with its end, if it was refused
abbrev pub op_steps : List Decl → ℕ → Op → ℕ
op_steps decls slots op = cond (is_on_tree decls op) (tree_steps slots op) (alter_most slots)

-- How many steps of a commit are owed to an operation: on an array four of a key that is written, and one of a record
-- that was read, of a pointer that was met, and of each of six slots. On a tree as many as full sets want.
abbrev pub end_steps : List Decl → Op → ℕ
end_steps decls op = cond (is_on_tree decls op) 832 12

-- A try takes at most so many steps, where there are so many slots: the begin; the steps of each operation; and at the
-- commit the draw, the decision, four of each key that is written, one of each record that was read, of each pointer
-- that was met, of each header that was kept, and of each slot that is held.
abbrev pub try_steps : List Decl → ℕ → List Op → ℕ
try_steps decls slots ops = sum_by (op_steps decls slots) ops + (sum_by (end_steps decls) ops + 3)

-- the entry of a run has these operations and this number, and was answered so
pub record IsAnswered (line : List Op) (ended : Verdict) (drawn : Number) (told : List Reply) (e : Entry) : Type 0 where
  pub ops : e.ops ≡ line
  pub verdict : e.verdict ≡ ended
  pub number : e.number ≡ drawn
  pub replies : e.replies ≡ told

-- ---- replies

-- the words of replies, each of which has 34 at most
pub record AreFewWords (words : List ℕ) : Type 0 where
  pub are : AreReplyWords words
  pub few : length words ≤ 34 * length (replies_of words)
