-- A line in which no test finds a fault is read.
use Rattle.std.proofs.Common.{◌≡◌, ◌⊎◌, inl, inr, ℕ, ◌<◌, ◌≤◌, Bool, true, false, cond, List, [], ◌∷◌, ◌++◌, length, Option, Some, None, refl, sym, ap, subst, ◌∙◌, arith}
use Rattle.std.specs.Prelude.{◌==◌, ◌&&◌, ◌||◌, not, nat_le, nat_lt, is_none, codes, slice_get}
use Rattle.std.specs.Cmp.Lexicographic.{same_text}
use Rattle.std.specs.List.{list_all, list_any}
use Rattle.std.proofs.lemmas.Bool.{eqb-true, eqb-false, leb-false, le-leb, ltb-false, lt-ltb, and_parts, and_from}
use Rattle.std.proofs.lemmas.List.{length-map}
use Rattle.decimals.specs.Numbers.{number_of}
use Rattle.decimals.specs.Digits.{cases_on}
use Rattle.serial_model.specs.Keys.{fits, id_of}
use Rattle.serial_model.specs.declared.decl.Decl.{Decl}
use Rattle.serial_model.specs.declared.decl.Decl.TheVariants.{Array, Tree}
use Rattle.serial_model.specs.declared.op.Op.{Op}
use Rattle.script_grammar.specs.declared.fault.FaultKind.{FaultKind}
use Rattle.script_grammar.specs.declared.fault.FaultKind.TheVariants.{Word, Number, Declared, Kind, Range}
use Rattle.script_grammar.specs.declared.lines.KeeperLine.{KeeperLine}
use Rattle.script_grammar.specs.declared.lines.KeeperLine.TheVariants.{Epoch, Save, Glean, Drop}
use Rattle.script_grammar.specs.Script.{Bytes, Line, Worker, Keeper, op_text, keeper_text}
use Rattle.script_grammar.specs.Words.{passes, words, number_in, is_no_number, is_word, is_join, is_keeper_line, is_worker_line, worker_word, op_parts}
use Rattle.script_grammar.specs.Reading.{Parts, is_fresh, may_declare, may_run, with_join, ops_in, line_at, decl_at, step}
use Rattle.script_grammar.specs.Faults.{LinePlace, place_after, begins_with, is_decl_shape, op_is, some_op_is, is_too_long, has_no_shape, lacks_number, is_too_many, is_misdeclared, is_of_other_kind, is_out_of_range, kind_of}
use Rattle.script_grammar.proofs.Found.{or_parts, or_cases, not_true, second_false}
use Rattle.script_grammar.proofs.OpTexts.{ops_take}
use Rattle.script_grammar.proofs.LineTexts.{line_takes, line_found, decl_takes}
use Rattle.script_grammar.proofs.StepTexts.{IsShort, step-nil}
use Rattle.script_grammar.proofs.StepAgain.{join_step, decl_step_at, line_step_at}
use Rattle.script_grammar.proofs.GoodOps.{IsNumber, is_number, not_passed, two_words, three_words, IsGood, good_op}

-- ---- all operations

-- the operations are read, each has a place where it fits
record AreGood (decls : List Decl) (ps : List Bytes) : Type 0 where
  ops : List Op
  found : ops_in ps ≡ Some ops
  fitting : list_all (fits decls) ops ≡ true

-- no test finds a fault in any
pub record HaveNoFault (decls : List Decl) (ps : List Bytes) : Type 0 where
  pub shape : list_any (op_is Word decls) ps ≡ false
  pub numbers : list_any (op_is Number decls) ps ≡ false
  pub declared : list_any (op_is Declared decls) ps ≡ false
  pub kind : list_any (op_is Kind decls) ps ≡ false
  pub range : list_any (op_is Range decls) ps ≡ false

good_ops : (decls : List Decl) (ps : List Bytes) → HaveNoFault decls ps → AreGood decls ps
good_ops decls [] none = record { ops = []; found = refl; fitting = refl }
good_ops decls (p ∷ ps) none =
    let shape = or_parts (op_is Word decls p) (list_any (op_is Word decls) ps) none.shape in
    let numbers = or_parts (op_is Number decls p) (list_any (op_is Number decls) ps) none.numbers in
    let declared = or_parts (op_is Declared decls p) (list_any (op_is Declared decls) ps) none.declared in
    let kind = or_parts (op_is Kind decls p) (list_any (op_is Kind decls) ps) none.kind in
    let range = or_parts (op_is Range decls p) (list_any (op_is Range decls) ps) none.range in
    let first : IsGood decls p = good_op decls p (record { shape = shape.0; numbers = numbers.0; declared = declared.0; kind = kind.0; range = range.0 }) in
    let others : AreGood decls ps = good_ops decls ps (record { shape = shape.1; numbers = numbers.1; declared = declared.1; kind = kind.1; range = range.1 }) in
    record {
      ops = first.is ∷ others.ops;
      found = rw (first.found, others.found) refl;
      fitting = and_from (fits decls first.is) (list_all (fits decls) others.ops) first.fitting others.fitting;
    }

-- ---- tests of a line

-- no test finds a fault in the line
pub record IsFaultless (place : LinePlace) (line : Bytes) : Type 0 where
  pub short : is_too_long place line ≡ false
  pub shape : has_no_shape place line ≡ false
  pub numbers : lacks_number place line ≡ false
  pub few : is_too_many place line ≡ false
  pub declared : is_misdeclared place line ≡ false
  pub kind : is_of_other_kind place line ≡ false
  pub range : is_out_of_range place line ≡ false

-- where no kind is chosen, the test didn't hold, and no later one
not_chosen : (b : Bool) (told : FaultKind) (later : Option FaultKind) → cond b (Some told) later ≡ None → (b ≡ false) × (later ≡ None)
not_chosen true told later e = absurd cc
not_chosen false told later e = (refl, e)

-- where the line has no kind of fault, no test finds one
faultless : (place : LinePlace) (line : Bytes) → kind_of place line ≡ None → IsFaultless place line
unfolding kind_of
faultless place line e =
    let t0 = not_chosen (is_too_long place line) _ _ e in
    let t1 = not_chosen (has_no_shape place line) _ _ t0.1 in
    let t2 = not_chosen (lacks_number place line) _ _ t1.1 in
    let t3 = not_chosen (is_too_many place line) _ _ t2.1 in
    let t4 = not_chosen (is_misdeclared place line) _ _ t3.1 in
    let t5 = not_chosen (is_of_other_kind place line) _ _ t4.1 in
    let t6 = not_chosen (is_out_of_range place line) _ _ t5.1 in
    record { short = t0.0; shape = t1.0; numbers = t2.0; few = t3.0; declared = t4.0; kind = t5.0; range = t6.0 }

of_first : (b x y : Bool) → b ≡ true → cond b x y ≡ false → x ≡ false
of_first true x y e f = f
of_first false x y e f = absurd cc

of_second : (b x y : Bool) → b ≡ false → cond b x y ≡ false → y ≡ false
of_second true x y e f = absurd cc
of_second false x y e f = f

-- ---- workers' lines

-- what the tests leave of a worker's line
record IsGoodLine (p : Parts) (line : Bytes) : Type 0 where
  worker : ℕ
  ops : List Op
  found : line_at line ≡ Some (Worker worker ops)
  room : may_run p ops ≡ true

-- the same, of what stands before and behind the first space
line_of : (p : Parts) (line : Bytes) → is_worker_line line ≡ true → HaveNoFault p.decls (op_parts line) → IsNumber (worker_word line) → passes (nat_le 8) (number_of (worker_word line)) ≡ false → nat_lt 16 (length (op_parts line)) ≡ false
    → nat_le 65536 (length p.lines) ≡ false → IsGoodLine p line
line_of p line begins none worker range few room =
    let good : AreGood p.decls (op_parts line) = good_ops p.decls (op_parts line) none in
    let text = ops_take (op_parts line) good.ops good.found in
    let count : length good.ops ≡ length (op_parts line) = sym (length-map good.ops op_text) ∙ ap (λ (ps : List Bytes). length ps) (sym text.0) in
    let many : length (op_parts line) ≤ 16 = ltb-false 16 (length (op_parts line)) few in
    record {
      worker = worker.value;
      ops = good.ops;
      found = line_found line worker.value good.ops begins worker.found (leb-false 8 worker.value (not_passed (nat_le 8) (worker_word line) worker.value worker.found range)) good.found (omega arith);
      room = and_from (nat_lt (length p.lines) 65536) (list_all (fits p.decls) good.ops) (lt-ltb (length p.lines) 65536 (leb-false 65536 (length p.lines) room)) good.fitting;
    }

good_line : (p : Parts) (line : Bytes) → is_worker_line line ≡ true → IsFaultless (place_after p) line → IsGoodLine p line
unfolding has_no_shape lacks_number is_too_many is_misdeclared is_of_other_kind is_out_of_range some_op_is
good_line p line worker none =
    let b : Bool = is_worker_line line in
    let numbers = or_parts (is_none (number_of (worker_word line))) (list_any (op_is Number p.decls) (op_parts line)) (of_first b _ _ worker none.numbers) in
    let few = or_parts (nat_lt 16 (length (op_parts line))) (nat_le 65536 (length p.lines)) (of_first b _ _ worker none.few) in
    let range = or_parts (passes (nat_le 8) (number_of (worker_word line))) (list_any (op_is Range p.decls) (op_parts line)) (of_first b _ _ worker none.range) in
    line_of p line worker
    (record {
      shape = of_first b _ _ worker none.shape;
      numbers = numbers.1;
      declared = of_first b _ _ worker none.declared;
      kind = second_false b _ worker none.kind;
      range = range.1;
    })
    (is_number (worker_word line) numbers.0) range.0 few.0 few.1

-- ---- declarations

-- what the tests leave of a declaration
record IsGoodDecl (p : Parts) (line : Bytes) : Type 0 where
  is : Decl
  found : decl_at line ≡ Some is
  room : may_declare p is ≡ true

-- an array's three words
record HasArrayWords (line : Bytes) : Type 0 where
  id : Bytes
  size : Bytes
  words_are : words line ≡ codes "array" ∷ id ∷ size ∷ []

-- a tree's two words
record HasTreeWords (line : Bytes) : Type 0 where
  id : Bytes
  words_are : words line ≡ codes "tree" ∷ id ∷ []

array_words : (line : Bytes) → begins_with (codes "array") 3 (words line) ≡ true → HasArrayWords line
array_words line e =
    let both = and_parts (length (words line) == 3) (passes (is_word (codes "array")) (slice_get (words line) 0)) e in
    let ws = three_words (words line) (eqb-true (length (words line)) 3 both.0) in
    let first : is_word (codes "array") ws.0 ≡ true = rw ws.3 at both.1 in
    let same : ws.0 ≡ codes "array" = same_text ws.0 (codes "array") (sym first) in
    record { id = ws.1; size = ws.2; words_are = ws.3 ∙ ap (λ (w : Bytes). w ∷ ws.1 ∷ ws.2 ∷ []) same }

tree_words : (line : Bytes) → begins_with (codes "tree") 2 (words line) ≡ true → HasTreeWords line
tree_words line e =
    let both = and_parts (length (words line) == 2) (passes (is_word (codes "tree")) (slice_get (words line) 0)) e in
    let ws = two_words (words line) (eqb-true (length (words line)) 2 both.0) in
    let first : is_word (codes "tree") ws.0 ≡ true = rw ws.2 at both.1 in
    let same : ws.0 ≡ codes "tree" = same_text ws.0 (codes "tree") (sym first) in
    record { id = ws.1; words_are = ws.2 ∙ ap (λ (w : Bytes). w ∷ ws.1 ∷ []) same }

decl_words : (line : Bytes) → is_decl_shape line ≡ true → HasArrayWords line ⊎ HasTreeWords line
unfolding is_decl_shape
decl_words line e =
    elim (or_cases (begins_with (codes "array") 3 (words line)) (begins_with (codes "tree") 2 (words line)) e) [
      | inl array ↦ inl (array_words line array)
      | inr tree ↦ inr (tree_words line tree)
    ]

-- three words with numbers in their ranges are an array's declaration
array_is : (line : Bytes) (ws : HasArrayWords line) (id size : ℕ) → number_of ws.id ≡ Some id → number_of ws.size ≡ Some size → id < 256 → 0 < size → size ≤ 131072 → decl_at line ≡ Some (Array id size)
unfolding decl_at
array_is line ws id size e f below some limit = rw (ws.words_are, e, f, lt-ltb id 256 below, lt-ltb 0 size some, le-leb size 131072 limit) refl

-- two words with a number in its range are a tree's declaration
tree_is : (line : Bytes) (ws : HasTreeWords line) (id : ℕ) → number_of ws.id ≡ Some id → id < 256 → decl_at line ≡ Some (Tree id)
unfolding decl_at
tree_is line ws id e below = rw (ws.words_are, e, lt-ltb id 256 below) refl

-- a size that is neither 0 nor too great
size_is : (n : ℕ) → ((n == 0) || nat_lt 131072 n) ≡ false → (0 < n) × (n ≤ 131072)
size_is n e =
    let both = or_parts (n == 0) (nat_lt 131072 n) e in
    let some = eqb-false n 0 both.0 in
    (omega arith, ltb-false 131072 n both.1)

-- what the tests leave of a declaration's id
record IsGoodId (p : Parts) (id : Bytes) : Type 0 where
  value : ℕ
  found : number_of id ≡ Some value
  below : value < 256
  room : (is_fresh p && (nat_lt (length p.decls) 16 && not (list_any (λ d. id_of d == value) p.decls))) ≡ true

good_id : (p : Parts) (line word id : Bytes) (more : List Bytes) → words line ≡ word ∷ id ∷ more → is_worker_line line ≡ false → is_decl_shape line ≡ true → IsFaultless (place_after p) line → IsGoodId p id
unfolding lacks_number is_too_many is_misdeclared is_out_of_range
good_id p line word id more ws other shape none =
    let b : Bool = is_worker_line line in
    let of_id = λ (test : ℕ → Bool). passes test (number_in (words line) 1) in
    let of_size = λ (test : ℕ → Bool). passes test (number_in (words line) 2) in
    let numbers = or_parts (is_no_number (words line) 1) (is_no_number (words line) 2) (second_false _ _ shape (of_second b _ _ other none.numbers)) in
    let n : IsNumber id = is_number id (rw ws at numbers.0) in
    let few = second_false _ _ shape (or_parts (is_keeper_line line && nat_le 65536 (length p.lines)) _ (of_second b _ _ other none.few)).1 in
    let declared = or_parts (not (is_fresh p)) (of_id (λ m. list_any (λ d. id_of d == m) p.decls)) (second_false _ _ shape (of_second b _ _ other none.declared)) in
    let range = or_parts (of_id (nat_le 256)) (of_size (λ m. (m == 0) || nat_lt 131072 m)) (second_false _ _ shape (of_second b _ _ other none.range)) in
    let new : list_any (λ d. id_of d == n.value) p.decls ≡ false = not_passed (λ m. list_any (λ d. id_of d == m) p.decls) id n.value n.found (rw ws at declared.1) in
    record {
      value = n.value;
      found = n.found;
      below = leb-false 256 n.value (not_passed (nat_le 256) id n.value n.found (rw ws at range.0));
      room = and_from (is_fresh p) _ (not_true (is_fresh p) declared.0)
          (and_from (nat_lt (length p.decls) 16) _ (lt-ltb (length p.decls) 16 (leb-false 16 (length p.decls) few)) (rw new refl));
    }

good_tree : (p : Parts) (line : Bytes) → is_worker_line line ≡ false → is_decl_shape line ≡ true → IsFaultless (place_after p) line → HasTreeWords line → IsGoodDecl p line
good_tree p line other shape none ws =
    let id = good_id p line (codes "tree") ws.id [] ws.words_are other shape none in
    record { is = Tree id.value; found = tree_is line ws id.value id.found id.below; room = id.room }

good_array : (p : Parts) (line : Bytes) → is_worker_line line ≡ false → is_decl_shape line ≡ true → IsFaultless (place_after p) line → HasArrayWords line → IsGoodDecl p line
unfolding lacks_number is_out_of_range
good_array p line other shape none ws =
    let b : Bool = is_worker_line line in
    let of_id = λ (test : ℕ → Bool). passes test (number_in (words line) 1) in
    let of_size = λ (test : ℕ → Bool). passes test (number_in (words line) 2) in
    let id = good_id p line (codes "array") ws.id (ws.size ∷ []) ws.words_are other shape none in
    let numbers = or_parts (is_no_number (words line) 1) (is_no_number (words line) 2) (second_false _ _ shape (of_second b _ _ other none.numbers)) in
    let size : IsNumber ws.size = is_number ws.size (rw ws.words_are at numbers.1) in
    let range = or_parts (of_id (nat_le 256)) (of_size (λ n. (n == 0) || nat_lt 131072 n)) (second_false _ _ shape (of_second b _ _ other none.range)) in
    let sized = size_is size.value (not_passed (λ n. (n == 0) || nat_lt 131072 n) ws.size size.value size.found (rw ws.words_are at range.1)) in
    record {
      is = Array id.value size.value;
      found = array_is line ws id.value size.value id.found size.found id.below sized.0 sized.1;
      room = id.room;
    }

good_decl : (p : Parts) (line : Bytes) → is_worker_line line ≡ false → is_decl_shape line ≡ true → IsFaultless (place_after p) line → IsGoodDecl p line
good_decl p line other shape none =
    elim (decl_words line shape) [
      | inl array ↦ good_array p line other shape none array
      | inr tree ↦ good_tree p line other shape none tree
    ]

-- ---- all lines

-- the line is read
abbrev pub IsTaken : Parts → Bytes → Type 0
IsTaken p line = (q : Parts) × (step p line ≡ Some q)

taken_line : (p : Parts) (line : Bytes) → IsShort line → IsGoodLine p line → IsTaken p line
taken_line p line short good =
    let l : Line = Worker good.worker good.ops in
    let t = line_takes line l good.found in
    (record p { lines = p.lines ++ l ∷ [] }, ap (step p) t.0 ∙ line_step_at p l t.1 (subst IsShort t.0 short) good.room)

taken_decl : (p : Parts) (line : Bytes) → IsShort line → IsGoodDecl p line → IsTaken p line
taken_decl p line short good =
    let t = decl_takes line good.is good.found in
    (record p { decls = p.decls ++ good.is ∷ [] }, ap (step p) t.0 ∙ decl_step_at p good.is t.1 (subst IsShort t.0 short) good.room)

-- a line of the maintenance thread
taken_asked : (p : Parts) (line : Bytes) (asked : KeeperLine) → IsShort line → nat_le 65536 (length p.lines) ≡ false → line ≡ keeper_text asked → IsTaken p line
taken_asked p line asked short few e =
    let room : nat_lt (length p.lines) 65536 ≡ true = lt-ltb (length p.lines) 65536 (leb-false 65536 (length p.lines) few) in
    (record p { lines = p.lines ++ Keeper asked ∷ [] }, ap (step p) e ∙ line_step_at p (Keeper asked) tt (subst IsShort e short) room)

taken_keeper : (p : Parts) (line : Bytes) → IsShort line → is_keeper_line line ≡ true → nat_le 65536 (length p.lines) ≡ false → IsTaken p line
taken_keeper p line short keeper few =
    elim (or_cases (is_word (codes "k epoch") line) (is_word (codes "k save") line || (is_word (codes "k glean") line || is_word (codes "k drop") line)) keeper) [
      | inl epoch ↦ taken_asked p line Epoch short few (same_text line (codes "k epoch") (sym epoch))
      | inr later ↦ elim (or_cases (is_word (codes "k save") line) (is_word (codes "k glean") line || is_word (codes "k drop") line) later) [
        | inl save ↦ taken_asked p line Save short few (same_text line (codes "k save") (sym save))
        | inr last ↦ elim (or_cases (is_word (codes "k glean") line) (is_word (codes "k drop") line) last) [
          | inl glean ↦ taken_asked p line Glean short few (same_text line (codes "k glean") (sym glean))
          | inr drop ↦ taken_asked p line Drop short few (same_text line (codes "k drop") (sym drop))
        ]
      ]
    ]

-- too many lines are none of the maintenance thread
few_keeper : (p : Parts) (line : Bytes) → is_worker_line line ≡ false → is_keeper_line line ≡ true → is_too_many (place_after p) line ≡ false → nat_le 65536 (length p.lines) ≡ false
unfolding is_too_many
few_keeper p line other keeper few =
    second_false (is_keeper_line line) _ keeper (or_parts (is_keeper_line line && nat_le 65536 (length p.lines)) _ (of_second (is_worker_line line) _ _ other few)).0

taken_join : (p : Parts) (line : Bytes) → is_join line ≡ true → IsTaken p line
taken_join p line e = (with_join p, ap (step p) (same_text line (codes "join") (sym e)) ∙ join_step p)

taken_empty : (p : Parts) (line : Bytes) → length line ≡ 0 → IsTaken p line
taken_empty p [] e = (p, step-nil p)
taken_empty p (b ∷ line) e = absurd (omega arith)

-- a line in which no test finds a fault is read
pub is_taken : (p : Parts) (line : Bytes) → kind_of (place_after p) line ≡ None → IsTaken p line
unfolding is_too_long has_no_shape
is_taken p line e =
    let none = faultless (place_after p) line e in
    let short : IsShort line = ltb-false 1024 (length line) none.short in
    elim (cases_on (is_worker_line line)) [
      | inl worker ↦ taken_line p line short (good_line p line worker none)
      | inr other ↦
          let shaped = not_true _ (of_second (is_worker_line line) _ _ other none.shape) in
          elim (or_cases (length line == 0) (is_join line || (is_keeper_line line || is_decl_shape line)) shaped) [
            | inl empty ↦ taken_empty p line (eqb-true (length line) 0 empty)
            | inr some ↦ elim (or_cases (is_join line) (is_keeper_line line || is_decl_shape line) some) [
              | inl join ↦ taken_join p line join
              | inr later ↦ elim (or_cases (is_keeper_line line) (is_decl_shape line) later) [
                | inl keeper ↦ taken_keeper p line short keeper (few_keeper p line other keeper none.few)
                | inr decl ↦ taken_decl p line short (good_decl p line other decl none)
              ]
            ]
          ]
    ]

-- a line that is refused has a kind of fault
pub not_untold : (p : Parts) (line : Bytes) (decls : List Decl) (fresh : Bool) (lines : ℕ) → decls ≡ p.decls → fresh ≡ is_fresh p → lines ≡ length p.lines
    → None ≡ kind_of (record { decls = decls; begun = not fresh; lines = lines }) line → step p line ≡ None → ⊥
not_untold p line decls fresh lines e f g told refused =
    let same : kind_of (place_after p) line ≡ None = sym (told ∙ rw (e, f, g) refl) in
    let q = is_taken p line same in
    let read = q.1 in cc
