-- Scripts, and which bytes are the text of one.
use Rattle.std.specs.Prelude.{◌≡◌, ℕ, ◌<◌, ◌≤◌, ◌^◌, ◌==◌, IsTrue, List, [], ◌∷◌, ◌++◌, length, map, filter, codes, decimal, nat_lt, if◌then◌else◌, Option, Some, None, ⊤}
use Rattle.std.specs.List.{AllByRecursion, filter_map, slice_split}
use Rattle.serial_model.specs.Keys.{fits}
use Rattle.serial_model.specs.Decls.{AreDecls}
use Rattle.serial_model.specs.declared.key.Key.{Key}
use Rattle.serial_model.specs.declared.op.Op.{Op}
use Rattle.serial_model.specs.declared.op.Op.TheVariants.{Read, Write, Remove, Add, Take, Scan}
use Rattle.serial_model.specs.declared.decl.Decl.{Decl}
use Rattle.serial_model.specs.declared.decl.Decl.TheVariants.{Array, Tree}
use Rattle.script_grammar.specs.declared.lines.KeeperLine.{KeeperLine}
use Rattle.script_grammar.specs.declared.lines.KeeperLine.TheVariants.{Epoch, Save, Glean, Drop}

-- a text is a list of bytes
abbrev pub Bytes : Type 0
Bytes = List ℕ

-- ---- what a script is

-- a line of a worker, which is one transaction, or of the maintenance thread
pub data Line : Type 0 where
  Worker : ℕ → List Op → Line
  Keeper : KeeperLine → Line

-- the lines up to a join, in the order of the script
pub record Round : Type 0 where
  pub lines : List Line

-- the storages that it declares, and its rounds
pub record Script : Type 0 where
  pub decls : List Decl
  pub rounds : List Round

-- ---- whose a line is

-- the worker whose line it is, if it is one's
abbrev pub worker_of : Line → Option ℕ
worker_of (Worker worker ops) = Some worker
worker_of (Keeper line) = None

-- the operations of the line where it is this worker's
abbrev pub ops_of_worker : ℕ → Line → Option (List Op)
ops_of_worker worker (Worker other ops) = if other == worker then Some ops else None
ops_of_worker worker (Keeper line) = None

-- what the line asks for where it is the maintenance thread's
abbrev pub keeper_line_of : Line → Option KeeperLine
keeper_line_of (Worker worker ops) = None
keeper_line_of (Keeper line) = Some line

-- the operations of a worker's lines, in the order of the text
abbrev pub lines_of_worker : Round → ℕ → List (List Op)
lines_of_worker round worker = filter_map (ops_of_worker worker) round.lines

-- the same for each of the workers 0 to 7
abbrev pub worker_lines : Round → List (List (List Op))
worker_lines round = map (lines_of_worker round) (0 ∷ 1 ∷ 2 ∷ 3 ∷ 4 ∷ 5 ∷ 6 ∷ 7 ∷ [])

-- the lines of the maintenance thread, in the order of the text
abbrev pub keeper_lines : Round → List KeeperLine
keeper_lines round = filter_map keeper_line_of round.lines

-- ---- its spelling: one space between words, numbers in decimal without leading zeros

-- a storage and a key
abbrev pub key_text : Key → Bytes
key_text k = decimal k.storage ++ codes " " ++ decimal k.key

-- an operation's letter, its key, and its value or its range
abbrev pub op_text : Op → Bytes
op_text (Read k) = codes "r " ++ key_text k
op_text (Write k v) = codes "w " ++ key_text k ++ codes " " ++ decimal v
op_text (Remove k) = codes "d " ++ key_text k
op_text (Add k v) = codes "a " ++ key_text k ++ codes " " ++ decimal v
op_text (Take k v) = codes "t " ++ key_text k ++ codes " " ++ decimal v
op_text (Scan storage low high) =
    codes "s " ++ decimal storage ++ codes " " ++ decimal low ++ codes " " ++ decimal high

-- further operations, each behind a semicolon and a space
abbrev pub more_ops_text : List Op → Bytes
more_ops_text [] = []
more_ops_text (op ∷ ops) = codes "; " ++ op_text op ++ more_ops_text ops

-- all operations of a line
abbrev pub ops_text : List Op → Bytes
ops_text [] = []
ops_text (op ∷ ops) = op_text op ++ more_ops_text ops

-- what the maintenance thread is asked for
abbrev pub keeper_text : KeeperLine → Bytes
keeper_text Epoch = codes "k epoch"
keeper_text Save = codes "k save"
keeper_text Glean = codes "k glean"
keeper_text Drop = codes "k drop"

-- a worker with its operations, or what the maintenance thread is asked for
abbrev pub line_text : Line → Bytes
line_text (Worker worker ops) = decimal worker ++ codes " " ++ ops_text ops
line_text (Keeper line) = keeper_text line

-- a storage's declaration
abbrev pub decl_text : Decl → Bytes
decl_text (Array id size) = codes "array " ++ decimal id ++ codes " " ++ decimal size
decl_text (Tree id) = codes "tree " ++ decimal id

-- the lines of rounds that each end with a join
abbrev pub joined_lines : List Round → List Bytes
joined_lines [] = []
joined_lines (round ∷ rounds) = map line_text round.lines ++ codes "join" ∷ joined_lines rounds

-- The round that the end of the text ends: that of the lines after the last join, if there are any, or of all lines
-- where there is no join.
abbrev pub last_round : List Round → List Line → List Round
last_round [] rest = record { lines = rest } ∷ []
last_round (round ∷ rounds) [] = []
last_round (round ∷ rounds) (line ∷ rest) = record { lines = line ∷ rest } ∷ []

-- ---- what holds of the lines of a script

-- the operation's keys and its value are numbers that a u64 has
abbrev pub HasNumbers : Op → Type 0
HasNumbers (Read k) = k.key < 2 ^ 64
HasNumbers (Write k v) = (k.key < 2 ^ 64) × (v < 2 ^ 64)
HasNumbers (Remove k) = k.key < 2 ^ 64
HasNumbers (Add k v) = (k.key < 2 ^ 64) × (v < 2 ^ 64)
HasNumbers (Take k v) = (k.key < 2 ^ 64) × (v < 2 ^ 64)
HasNumbers (Scan storage low high) = (low < 2 ^ 64) × (high < 2 ^ 64)

-- an operation on a declared storage of a kind that has it, and of an array on a key that it has
pub record IsOp (decls : List Decl) (op : Op) : Type 0 where
  pub fitting : IsTrue (fits decls op)
  pub numbers : HasNumbers op

-- 1 to 16 operations of a worker from 0 to 7
pub record IsTransaction (decls : List Decl) (number : ℕ) (list : List Op) : Type 0 where
  pub worker : number < 8
  pub some_op : 0 < length list
  pub few_ops : length list ≤ 16
  pub ops : AllByRecursion (IsOp decls) list

-- a line by the rules: the maintenance thread can be asked for each of its lines
abbrev pub IsLine : List Decl → Line → Type 0
IsLine decls (Worker worker ops) = IsTransaction decls worker ops
IsLine decls (Keeper line) = ⊤

-- at most 65,536 lines
pub record IsRound (decls : List Decl) (round : Round) : Type 0 where
  pub few_lines : length round.lines ≤ 65536
  pub lines : AllByRecursion (IsLine decls) round.lines

-- the declarations and the rounds are by the rules
pub record IsScript (script : Script) : Type 0 where
  pub decls : AreDecls script.decls
  pub rounds : AllByRecursion (IsRound script.decls) script.rounds

-- ---- the text of a script

-- lines end at a newline or at the end; empty ones count for nothing
abbrev pub lines_of : Bytes → List Bytes
lines_of bytes = filter (λ line. nat_lt 0 (length line)) (slice_split (λ b. b == 10) bytes)

-- The bytes are a text of the script: at most 64 MiB in lines of at most 1,024 bytes, which are the declarations, and
-- then the rounds' lines, where each round but the last ends with a join, and the last one may.
pub record IsTextOf (bytes : Bytes) (script : Script) : Type 0 where
  pub size : length bytes ≤ 67108864
  pub short : AllByRecursion (λ line. length line ≤ 1024) (lines_of bytes)
  pub joined : List Round
  pub rest : List Line
  pub rounds : script.rounds ≡ joined ++ last_round joined rest
  pub lines : lines_of bytes ≡ map decl_text script.decls ++ (joined_lines joined ++ map line_text rest)
  pub rules : IsScript script
