-- Which line of a source is faulty first, and how: by what the line has or lacks where it stands.
use Rattle.std.specs.Prelude.{◌≡◌, ℕ, ◌+◌, ◌==◌, ◌&&◌, ◌||◌, Bool, true, false, List, [], ◌∷◌, ◌++◌, length, codes, nat_lt, nat_le, not, if◌then◌else◌, slice_get, Option, Some, None, is_none}
use Rattle.std.specs.List.{list_any, slice_split}
use Rattle.decimals.specs.Numbers.{number_of}
use Rattle.serial_model.specs.Keys.{has_key, id_of, is_tree}
use Rattle.serial_model.specs.declared.decl.Decl.{Decl}
use Rattle.serial_model.specs.declared.decl.Decl.TheVariants.{Array, Tree}
use Rattle.script_grammar.specs.declared.fault.ScriptFault.{ScriptFault}
use Rattle.script_grammar.specs.declared.fault.FaultKind.{FaultKind}
use Rattle.script_grammar.specs.declared.fault.FaultKind.TheVariants.{TooLong, Word, Number, TooMany, Declared, Kind, Range}
use Rattle.script_grammar.specs.Script.{Bytes}
use Rattle.script_grammar.specs.Words.{passes, words, number_in, is_no_number, is_word, is_letter, is_worker_line, worker_word, op_parts, is_keeper_line, is_join}
use Rattle.script_grammar.specs.Reading.{Parts, is_fresh}

-- where a line stands: the storages declared before it, whether a line of another kind came before it, and how many
-- lines its round has before it
pub record LinePlace : Type 0 where
  pub decls : List Decl
  pub begun : Bool
  pub lines : ℕ

-- where the next line stands
abbrev pub place_after : Parts → LinePlace
place_after p = record { decls = p.decls; begun = not (is_fresh p); lines = length p.lines }

-- ---- what an operation lacks

-- the first word is one of the letters
abbrev pub has_letter : Bytes → List Bytes → Bool
has_letter letters ws = passes (is_letter letters) (slice_get ws 0)

-- a letter, a storage and a key, and where the letter asks for it one number more
abbrev pub is_op_shape : List Bytes → Bool
is_op_shape ws =
    ((length ws == 3) && has_letter (codes "rd") ws) || ((length ws == 4) && has_letter (codes "wats") ws)

-- a number's place has something else
abbrev pub lacks_op_number : List Bytes → Bool
lacks_op_number ws = is_no_number ws 1 || (is_no_number ws 2 || is_no_number ws 3)

-- no storage has such an id, or none with it is declared
abbrev pub is_undeclared : List Decl → ℕ → Bool
is_undeclared decls storage = nat_le 256 storage || not (list_any (λ d. id_of d == storage) decls)

-- the operation is one that trees alone have, and its storage is none
abbrev pub lacks_tree : List Decl → List Bytes → Bool
lacks_tree decls ws =
    has_letter (codes "ds") ws && passes (λ storage. not (is_tree decls storage)) (number_in ws 1)

-- the declared storages have no such key
abbrev pub lacks_key : List Decl → List Bytes → Bool
lacks_key decls ws =
    passes (λ storage. passes (λ key. not (has_key decls (record { storage = storage; key = key }))) (number_in ws 2))
    (number_in ws 1)

-- the operation is at fault in this way
unfoldable pub op_is : FaultKind → List Decl → Bytes → Bool
op_is Word decls op = not (is_op_shape (words op))
op_is Number decls op = lacks_op_number (words op)
op_is Declared decls op = passes (is_undeclared decls) (number_in (words op) 1)
op_is Kind decls op = lacks_tree decls (words op)
op_is Range decls op = lacks_key decls (words op)
op_is TooLong decls op = false
op_is TooMany decls op = false

-- some operation of the line is at fault in this way
unfoldable pub some_op_is : FaultKind → List Decl → Bytes → Bool
some_op_is kind decls line = list_any (op_is kind decls) (op_parts line)

-- ---- what a line lacks

-- so many words, and this is the first of them
abbrev pub begins_with : Bytes → ℕ → List Bytes → Bool
begins_with word count ws = (length ws == count) && passes (is_word word) (slice_get ws 0)

-- an array's three words, or a tree's two
unfoldable pub is_decl_shape : Bytes → Bool
is_decl_shape line = begins_with (codes "array") 3 (words line) || begins_with (codes "tree") 2 (words line)

-- more than 1,024 bytes
unfoldable pub is_too_long : LinePlace → Bytes → Bool
is_too_long place line = nat_lt 1024 (length line)

-- no line has these words
unfoldable pub has_no_shape : LinePlace → Bytes → Bool
has_no_shape place line =
    if is_worker_line line then some_op_is Word place.decls line
    else not ((length line == 0) || (is_join line || (is_keeper_line line || is_decl_shape line)))

-- a number's place has something else
unfoldable pub lacks_number : LinePlace → Bytes → Bool
lacks_number place line =
    if is_worker_line line then is_none (number_of (worker_word line)) || some_op_is Number place.decls line
    else (is_decl_shape line && (is_no_number (words line) 1 || is_no_number (words line) 2))

-- too many operations, the 65,537th line of its round, or the 17th declaration
unfoldable pub is_too_many : LinePlace → Bytes → Bool
is_too_many place line =
    if is_worker_line line then nat_lt 16 (length (op_parts line)) || nat_le 65536 place.lines
    else ((is_keeper_line line && nat_le 65536 place.lines) || (is_decl_shape line && nat_le 16 (length place.decls)))

-- an operation's storage isn't declared, or a declaration comes late or again
unfoldable pub is_misdeclared : LinePlace → Bytes → Bool
is_misdeclared place line =
    if is_worker_line line then some_op_is Declared place.decls line
    else (is_decl_shape line
    && (place.begun || passes (λ id. list_any (λ d. id_of d == id) place.decls) (number_in (words line) 1)))

-- an operation is one that its storage's kind doesn't have
unfoldable pub is_of_other_kind : LinePlace → Bytes → Bool
is_of_other_kind place line = is_worker_line line && some_op_is Kind place.decls line

-- a number is out of its range
unfoldable pub is_out_of_range : LinePlace → Bytes → Bool
is_out_of_range place line =
    if is_worker_line line then passes (nat_le 8) (number_of (worker_word line)) || some_op_is Range place.decls line
    else (is_decl_shape line && (passes (nat_le 256) (number_in (words line) 1)
    || passes (λ size. (size == 0) || nat_lt 131072 size) (number_in (words line) 2)))

-- ---- the fault of a line

-- the kinds of faults and their tests: the first that holds of a line decides
abbrev pub tests : List (FaultKind × (LinePlace → Bytes → Bool))
tests =
    (TooLong, is_too_long)
    ∷ (Word, has_no_shape)
    ∷ (Number, lacks_number)
    ∷ (TooMany, is_too_many)
    ∷ (Declared, is_misdeclared)
    ∷ (Kind, is_of_other_kind)
    ∷ (Range, is_out_of_range)
    ∷ []

-- the kind whose test is the first that holds
abbrev pub first_kind : List (FaultKind × (LinePlace → Bytes → Bool)) → LinePlace → Bytes → Option FaultKind
first_kind [] place line = None
first_kind (test ∷ tests) place line = if test.1 place line then Some test.0 else first_kind tests place line

-- the first kind of fault that the line has
unfoldable pub kind_of : LinePlace → Bytes → Option FaultKind
kind_of place line = first_kind tests place line

-- ---- the first faulty line

-- the storage that a declaration declares: an array where there is a size
abbrev pub declared_by : Option ℕ → Option ℕ → List Decl
declared_by (Some id) (Some size) = Array id size ∷ []
declared_by (Some id) None = Tree id ∷ []
declared_by None size = []

-- where the line behind this one stands
unfoldable pub place_past : LinePlace → Bytes → LinePlace
place_past place line =
    if is_worker_line line || is_keeper_line line
    then record { decls = place.decls; begun = true; lines = place.lines + 1 }
    else (if is_join line then record { decls = place.decls; begun = true; lines = 0 }
    else (if is_decl_shape line then record {
      decls = place.decls ++ declared_by (number_in (words line) 1) (number_in (words line) 2);
      begun = place.begun;
      lines = place.lines;
    }
    else place))

-- where the first line stands
abbrev pub first_place : LinePlace
first_place = record { decls = []; begun = false; lines = 0 }

-- the line's fault, or else a later one
abbrev pub fault_or : Option FaultKind → ℕ → Option ScriptFault → Option ScriptFault
fault_or (Some kind) number later = Some (record { line = number; kind = kind })
fault_or None number later = later

-- the first line for which a test holds, with the first such kind, of lines that are counted from this number on
unfoldable pub first_fault : ℕ → LinePlace → List Bytes → Option ScriptFault
first_fault number place [] = None
first_fault number place (line ∷ lines) =
    fault_or (kind_of place line) number (first_fault (number + 1) (place_past place line) lines)

-- the first faulty line of a source, with its first kind; line 0 stands for a source of more than 64 MiB
unfoldable pub fault_of : Bytes → Option ScriptFault
fault_of bytes =
    if nat_lt 67108864 (length bytes) then Some (record { line = 0; kind = TooLong })
    else first_fault 1 first_place (slice_split (λ b. b == 10) bytes)

-- the fault of the source
abbrev pub IsFirstFault : Bytes → ScriptFault → Type 0
IsFirstFault bytes fault = fault_of bytes ≡ Some fault
