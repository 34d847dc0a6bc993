-- Workers' lines in a source, with their newlines, and their parts by the places where these begin and end.
use Rattle.std.specs.Prelude.{◌≡◌, ℕ, ◌+◌, ◌-◌, ◌<◌, ◌≤◌, ◌^◌, ◌==◌, true, List, [], ◌∷◌, ◌++◌, length, drop, get_or, decimal, codes, Option, Some, None, Result, Ok, Err}
use Rattle.std.specs.List.{AllByRecursion, list_all, slice_split}
use Rattle.std.specs.Str.Parse.{AllDigits, digits_value}
use Rattle.lists.specs.declared.memory.Memory.{Memory}
use Rattle.serial_model.specs.Keys.{fits, has_key, has_key_of, id_of, is_tree, is_tree_of}
use Rattle.serial_model.specs.declared.decl.Decl.{Decl}
use Rattle.serial_model.specs.declared.key.Key.{Key}
use Rattle.serial_model.specs.declared.op.Op.{Op}
use Rattle.serial_model.specs.declared.op.Op.TheVariants.{Read, Write, Remove, Add, Take, Scan}
use Rattle.script_grammar.specs.Script.{Bytes, Line, Worker, HasNumbers, key_text, op_text, ops_text, line_text}
use Rattle.script_grammar.specs.Reading.{Parts, step, steps}

-- ---- the declared storages, by a limit for each id

-- of no number below 2^64 a tree has none, and this is the limit of a tree
abbrev pub tree_limit : ℕ
tree_limit = 2 ^ 64 - 1

-- below its limit, by its id, each storage has each key; and the limit of a tree is one's
abbrev pub AreLimits : List Decl → List ℕ → Type 0
AreLimits decls limits =
    ((storage key : ℕ) → key < get_or limits storage 0 → has_key decls (record { storage = storage; key = key }) ≡ true)
    × ((storage : ℕ) → get_or limits storage 0 ≡ tree_limit → is_tree decls storage ≡ true)

-- the same of one storage and its limit
abbrev pub IsLimitOf : Decl → ℕ → Type 0
IsLimitOf d limit =
    ((key : ℕ) → key < limit → has_key_of (record { storage = id_of d; key = key }) d ≡ true)
    × (limit ≡ tree_limit → is_tree_of (id_of d) d ≡ true)

-- ---- numbers

-- the digit's text stands at this place
abbrev pub IsDigitAt : Bytes → ℕ → ℕ → Type 0
IsDigitAt bytes at digit = drop at bytes ≡ (48 + digit) ∷ drop (at + 1) bytes

-- the digits from the one place to the other are those of the value, and the first is none of 0
pub record AreDigits (bytes : Bytes) (start at value : ℕ) : Type 0 where
  pub digits : Bytes
  pub text : drop start bytes ≡ digits ++ drop at bytes
  pub are : AllDigits 10 digits
  pub value_is : value ≡ digits_value 10 digits
  pub head : 48 < get_or digits 0 0

-- the number's text stands from the one place to the other
pub record IsNumberAt (bytes : Bytes) (start value end : ℕ) : Type 0 where
  pub text : drop start bytes ≡ decimal value ++ drop end bytes
  pub near : end < start + 20

-- a storage's id stands there, with a space behind it, and this is the place behind the space
pub record IsIdAt (bytes : Bytes) (start id next : ℕ) : Type 0 where
  pub text : drop start bytes ≡ decimal id ++ 32 ∷ drop next bytes
  pub near : next < start + 20

-- ---- operations

-- the storage of an operation
abbrev pub storage_of : Op → ℕ
storage_of (Read k) = k.storage
storage_of (Write k v) = k.storage
storage_of (Remove k) = k.storage
storage_of (Add k v) = k.storage
storage_of (Take k v) = k.storage
storage_of (Scan storage low high) = storage

-- the operation's storage and numbers are some that a text can name
pub record HasText (op : Op) : Type 0 where
  pub storage : storage_of op < 256
  pub numbers : HasNumbers op

-- the text of an operation of a key, by its letter
abbrev pub key_op_text : ℕ → Key → Bytes
key_op_text letter key = letter ∷ 32 ∷ key_text key

-- the text of an operation of a key and a value, by its letter
abbrev pub value_op_text : ℕ → Key → ℕ → Bytes
value_op_text letter key value = letter ∷ 32 ∷ ((key_text key ++ codes " ") ++ decimal value)

-- the operation has this text, and fits a declared storage
pub record IsFitting (decls : List Decl) (text : Bytes) (op : Op) : Type 0 where
  pub is : op_text op ≡ text
  pub spelled : HasText op
  pub fitting : fits decls op ≡ true

-- the text of an operation that fits a declared storage stands from the one place to the other
pub record IsFittingAt (bytes : Bytes) (start : ℕ) (decls : List Decl) (op : Op) (end : ℕ) : Type 0 where
  pub text : drop start bytes ≡ op_text op ++ drop end bytes
  pub spelled : HasText op
  pub fitting : fits decls op ≡ true
  pub near : end < start + 62

-- the texts of 1 to 16 operations that fit stand there, and a newline behind them
pub record AreOpsAt (bytes : Bytes) (start : ℕ) (decls : List Decl) (ops : List Op) (end : ℕ) : Type 0 where
  pub near : end < start + 1022
  pub text : drop start bytes ≡ ops_text ops ++ 10 ∷ drop (end + 1) bytes
  pub some : 0 < length ops
  pub few : length ops ≤ 16
  pub spelled : AllByRecursion HasText ops
  pub fitting : list_all (fits decls) ops ≡ true

-- the operations that stand there are added, so many
pub record AddsOps (bytes : Bytes) (start : ℕ) (decls : List Decl) (old new : List Op) (count end : ℕ) : Type 0 where
  pub ops : List Op
  pub are : AreOpsAt bytes start decls ops end
  pub added : new ≡ old ++ ops
  pub counted : count ≡ length ops

-- where not all are such operations, some may have been added
abbrev pub MayAddOps : Option (ℕ × ℕ) → Bytes → ℕ → List Decl → List Op → List Op → Type 0
MayAddOps (Some found) bytes start decls old new = AddsOps bytes start decls old new found.0 found.1
MayAddOps None bytes start decls old new = (more : List Op) × (new ≡ old ++ more)

-- the same where memory may be wanted
abbrev pub MayTakeOps : Result (Option (ℕ × ℕ)) Memory → Bytes → ℕ → List Decl → List Op → List Op → Type 0
MayTakeOps (Ok found) bytes start decls old new = MayAddOps found bytes start decls old new
MayTakeOps (Err memory) bytes start decls old new = new ≡ old

-- ---- lines

-- the line stands at this place, up to a newline
pub record IsLineAt (bytes : Bytes) (at : ℕ) (decls : List Decl) (worker : ℕ) (ops : List Op) (end : ℕ) : Type 0 where
  pub below : worker < 8
  pub some : 0 < length ops
  pub few : length ops ≤ 16
  pub spelled : AllByRecursion HasText ops
  pub fitting : list_all (fits decls) ops ≡ true
  pub after : at ≤ end
  pub within : end < length bytes
  pub text : drop at bytes ≡ line_text (Worker worker ops) ++ 10 ∷ drop (end + 1) bytes
  pub short : length (line_text (Worker worker ops)) ≤ 1024

-- a line that stands there is one more
pub record AddsLine (bytes : Bytes) (at : ℕ) (decls : List Decl) (old new : List Line) (end : ℕ) : Type 0 where
  pub worker : ℕ
  pub ops : List Op
  pub is : IsLineAt bytes at decls worker ops end
  pub added : new ≡ old ++ Worker worker ops ∷ []

-- or the lines are as they were
abbrev pub MayTakeLine : Result (Option ℕ) Memory → Bytes → ℕ → List Decl → List Line → List Line → Type 0
MayTakeLine (Ok (Some end)) bytes at decls old new = AddsLine bytes at decls old new end
MayTakeLine (Ok None) bytes at decls old new = new ≡ old
MayTakeLine (Err memory) bytes at decls old new = new ≡ old

-- ---- what was read

-- the line at this place was read, and the others begin behind its newline
pub record IsLineRead (bytes : Bytes) (at : ℕ) (old new : Parts) (end : ℕ) : Type 0 where
  pub line : Bytes
  pub after : at ≤ end
  pub within : end < length bytes
  pub cut : slice_split (λ b. b == 10) (drop at bytes) ≡ line ∷ slice_split (λ b. b == 10) (drop (end + 1) bytes)
  pub read : step old line ≡ Some new
  pub one : length new.lines ≡ length old.lines + 1

-- or nothing was
abbrev pub MayReadLine : Result (Option ℕ) Memory → Bytes → ℕ → Parts → Parts → Type 0
MayReadLine (Ok (Some end)) bytes at old new = IsLineRead bytes at old new end
MayReadLine (Ok None) bytes at old new = new ≡ old
MayReadLine (Err memory) bytes at old new = new ≡ old

-- the first lines were read, so many, and these bytes are those of the others
pub record LeavesOthers (bytes others : Bytes) (old new : Parts) (count : ℕ) : Type 0 where
  pub lines : List Bytes
  pub counted : count ≡ length lines
  pub cut : slice_split (λ b. b == 10) bytes ≡ lines ++ slice_split (λ b. b == 10) others
  pub shorter : count + length others ≤ length bytes
  pub read : steps old lines ≡ Some new
