-- Reading a script: what each line adds to what was read before it, word by word.
use Rattle.std.specs.Prelude.{◌≡◌, ℕ, ◌==◌, ◌&&◌, ◌||◌, Bool, false, List, [], ◌∷◌, ◌++◌, length, codes, nat_lt, nat_le, not, if◌then◌else◌, Option, Some, None, Result, Ok, Err, ⊤}
use Rattle.std.specs.List.{list_all, list_any, slice_split}
use Rattle.decimals.specs.Numbers.{number_of}
use Rattle.lists.specs.declared.memory.OrMemory.{OrMemory}
use Rattle.lists.specs.declared.memory.OrMemory.TheVariants as errors
use Rattle.serial_model.specs.Keys.{fits, id_of}
use Rattle.serial_model.specs.declared.key.Key.{Key}
use Rattle.serial_model.specs.declared.op.Op.{Op}
use Rattle.serial_model.specs.declared.op.Op.TheVariants.{Read, Write, Remove, Add, Take, Scan}
use Rattle.serial_model.specs.declared.decl.Decl.{Decl}
use Rattle.serial_model.specs.declared.decl.Decl.TheVariants.{Array, Tree}
use Rattle.script_grammar.specs.declared.fault.ScriptFault.{ScriptFault}
use Rattle.script_grammar.specs.declared.fault.ScriptRefused.{ScriptRefused}
use Rattle.script_grammar.specs.declared.lines.KeeperLine.{KeeperLine}
use Rattle.script_grammar.specs.declared.lines.KeeperLine.TheVariants.{Epoch, Save, Glean, Drop}
use Rattle.script_grammar.specs.Script.{Bytes, Line, Worker, Keeper, Round, Script, last_round}
use Rattle.script_grammar.specs.Words.{◌>>=◌, words, is_word, worker_word, op_parts, is_join}

-- ---- operations

-- the key of a storage's id and a number
abbrev pub key_in : Bytes → Bytes → Option Key
key_in storage key = do
  s ← number_of storage
  k ← number_of key
  if nat_lt s 256 then Some (record { storage = s; key = k }) else None

-- a word of one letter
abbrev pub letter_in : Bytes → Option ℕ
letter_in (letter ∷ []) = Some letter
letter_in _ = None

-- an operation of a key alone, by its letter r or d
abbrev pub short_op_by : ℕ → Key → Option Op
short_op_by letter key =
    if letter == 114 then Some (Read key)
    else (if letter == 100 then Some (Remove key) else None)

-- an operation of a key and a value, by its letter w, a or t, or a scan, by s, whose highest key is the value
abbrev pub long_op_by : ℕ → Key → ℕ → Option Op
long_op_by letter key value =
    if letter == 119 then Some (Write key value)
    else (if letter == 97 then Some (Add key value)
    else (if letter == 116 then Some (Take key value)
    else (if letter == 115 then Some (Scan key.storage key.key value) else None)))

-- the operation of the words: a letter, a storage and a key, and where the letter asks for it one number more
abbrev pub op_in : List Bytes → Option Op
op_in (word ∷ storage ∷ key ∷ []) = letter_in word >>= (λ letter. key_in storage key >>= short_op_by letter)
op_in (word ∷ storage ∷ key ∷ value ∷ []) =
    letter_in word >>= (λ letter. key_in storage key >>= (λ k. number_of value >>= long_op_by letter k))
op_in _ = None

-- an operation before others
abbrev pub before_ops : Option Op → Option (List Op) → Option (List Op)
before_ops op ops = op >>= (λ o. ops >>= (λ os. Some (o ∷ os)))

-- the operations of the parts of a line
abbrev pub ops_in : List Bytes → Option (List Op)
ops_in [] = Some []
ops_in (part ∷ parts) = before_ops (op_in (words part)) (ops_in parts)

-- the operations where they are at most 16
abbrev pub few_of : List Op → Option (List Op)
few_of ops = if nat_le (length ops) 16 then Some ops else None

-- the operations of the parts, at most 16
abbrev pub few_ops_in : List Bytes → Option (List Op)
few_ops_in parts = ops_in parts >>= few_of

-- ---- lines

-- the worker is one of 0 to 7
abbrev pub worker_in : Bytes → Option ℕ
worker_in word = number_of word >>= (λ worker. if nat_lt worker 8 then Some worker else None)

-- a worker's line: the worker before the first space, and its operations behind it
unfoldable pub transaction_at : Bytes → Option Line
transaction_at line = do
  worker ← worker_in (worker_word line)
  ops ← few_ops_in (op_parts line)
  Some (Worker worker ops)

-- a line of the maintenance thread begins with a letter of its own, k
abbrev pub begins_keeper : Bytes → Bool
begins_keeper [] = false
begins_keeper (b ∷ bs) = b == 107

-- what the maintenance thread is asked for
abbrev pub keeper_in : Bytes → Option KeeperLine
keeper_in line =
    if is_word (codes "k epoch") line then Some Epoch
    else (if is_word (codes "k save") line then Some Save
    else (if is_word (codes "k glean") line then Some Glean
    else (if is_word (codes "k drop") line then Some Drop else None)))

-- a line of the maintenance thread, or else of a worker
unfoldable pub line_at : Bytes → Option Line
line_at line =
    if begins_keeper line then (keeper_in line >>= (λ asked. Some (Keeper asked))) else transaction_at line

-- an array with its id and its size
abbrev pub array_in : ℕ → ℕ → Option Decl
array_in id size = if nat_lt id 256 && (nat_lt 0 size && nat_le size 131072) then Some (Array id size) else None

-- a tree with its id
abbrev pub tree_in : ℕ → Option Decl
tree_in id = if nat_lt id 256 then Some (Tree id) else None

-- a declaration's words: those of an array are three, those of a tree two
abbrev pub decl_in : List Bytes → Option Decl
decl_in (word ∷ id ∷ []) = if is_word (codes "tree") word then (number_of id >>= tree_in) else None
decl_in (word ∷ id ∷ size ∷ []) =
    if is_word (codes "array") word then (number_of id >>= (λ i. number_of size >>= array_in i)) else None
decl_in _ = None

-- a declaration
unfoldable pub decl_at : Bytes → Option Decl
decl_at line = decl_in (words line)

-- ---- scripts

-- what was read of a script so far: the declarations, the rounds that a join ended, and the lines after them
pub record Parts : Type 0 where
  pub decls : List Decl
  pub joined : List Round
  pub lines : List Line

-- before the first line
abbrev pub no_parts : Parts
no_parts = record { decls = []; joined = []; lines = [] }

-- no other line came yet
abbrev pub is_fresh : Parts → Bool
is_fresh p = (length p.joined == 0) && (length p.lines == 0)

-- no other line came yet, fewer than 16 storages are declared, and none with this id
abbrev pub may_declare : Parts → Decl → Bool
may_declare p d = is_fresh p && (nat_lt (length p.decls) 16 && not (list_any (λ e. id_of e == id_of d) p.decls))

-- one more declaration
unfoldable pub with_decl : Parts → Bytes → Option Parts
with_decl p line = do
  d ← decl_at line
  if may_declare p d then Some (record p { decls = p.decls ++ d ∷ [] }) else None

-- there is room for a line, and each operation fits a declared storage
abbrev pub may_run : Parts → List Op → Bool
may_run p ops = nat_lt (length p.lines) 65536 && list_all (fits p.decls) ops

-- the same for a line
abbrev pub may_follow : Parts → Line → Bool
may_follow p (Worker worker ops) = may_run p ops
may_follow p (Keeper line) = nat_lt (length p.lines) 65536

-- one more line of a worker or of the maintenance thread
unfoldable pub with_line : Parts → Bytes → Option Parts
with_line p line = do
  l ← line_at line
  if may_follow p l then Some (record p { lines = p.lines ++ l ∷ [] }) else None

-- a join ends a round
abbrev pub with_join : Parts → Parts
with_join p = record { decls = p.decls; joined = p.joined ++ record { lines = p.lines } ∷ []; lines = [] }

-- a declaration begins with a letter of its own, a or t
abbrev pub begins_declaration : Bytes → Bool
begins_declaration [] = false
begins_declaration (b ∷ bs) = (b == 97) || (b == 116)

-- one line more, by its kind
unfoldable pub with_some_line : Parts → Bytes → Option Parts
with_some_line p line =
    if is_join line then Some (with_join p)
    else (if begins_declaration line then with_decl p line else with_line p line)

-- what was read before, and one line more; an empty one counts for nothing
unfoldable pub step : Parts → Bytes → Option Parts
step p line =
    if length line == 0 then Some p
    else (if nat_lt 1024 (length line) then None else with_some_line p line)

-- the same of lines, one after another
unfoldable pub steps : Parts → List Bytes → Option Parts
steps p [] = Some p
steps p (line ∷ lines) = do
  q ← step p line
  steps q lines

-- what is read of a source of at most 64 MiB
unfoldable pub parts_of : Bytes → Option Parts
parts_of bytes = if nat_lt 67108864 (length bytes) then None else steps no_parts (slice_split (λ b. b == 10) bytes)

-- the script of what was read, whose end ends the last round
abbrev pub script_from : Parts → Script
script_from p = record { decls = p.decls; rounds = p.joined ++ last_round p.joined p.lines }

-- ---- what the reader's functions return

-- where memory suffices, what was found is y, or there is nothing and it is refused
abbrev pub Reads : {X Y : Type 0} → Result X (OrMemory ScriptRefused) → Y → Option Y → Type 0
Reads (Ok x) y found = found ≡ Some y
Reads (Err errors.Memory) y found = ⊤
Reads (Err (errors.Fault refused)) y found = found ≡ None

-- where memory suffices, what was found is q, or there is nothing, and this is the fault that is told
abbrev pub FindsOrTells : {X : Type 0} → Result X (OrMemory ScriptFault) → Option Parts → Option ScriptFault → Parts
    → Type 0
FindsOrTells (Ok x) found told q = found ≡ Some q
FindsOrTells (Err errors.Memory) found told q = ⊤
FindsOrTells (Err (errors.Fault fault)) found told q = (found ≡ None) × (told ≡ Some fault)

-- the script, unless memory ran out
abbrev pub Gives : Script → Result Script (OrMemory ScriptFault) → Type 0
Gives script (Ok read) = read ≡ script
Gives script (Err errors.Memory) = ⊤
Gives script (Err (errors.Fault fault)) = ⊥
