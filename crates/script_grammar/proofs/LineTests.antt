-- In the text of a line of a script no test finds a fault, and the next line stands behind it.
use Rattle.std.proofs.Common.{◌≡◌, ℕ, ◌<◌, Bool, true, false, cond, List, [], ◌∷◌, ◌++◌, length, map, Some, None, refl, sym, ap, subst, ◌∙◌, arith, length-append}
use Rattle.std.specs.Prelude.{◌==◌, ◌&&◌, ◌||◌, not, nat_le, nat_lt, codes}
use Rattle.std.specs.Fmt.{decimal}
use Rattle.std.specs.List.{AllByRecursion, list_all, list_any}
use Rattle.std.proofs.lemmas.Bool.{ne_eqb, lt-leb, le-ltb, ltb-true, and_parts}
use Rattle.std.proofs.lemmas.List.{length-map}
use Rattle.decimals.specs.Laws.{number_of_again}
use Rattle.serial_model.specs.Keys.{fits, id_of}
use Rattle.serial_model.specs.Decls.{IsDecl}
use Rattle.serial_model.specs.declared.decl.Decl.{Decl}
use Rattle.serial_model.specs.declared.decl.Decl.TheVariants.{Array, Tree}
use Rattle.serial_model.specs.declared.op.Op.{Op}
use Rattle.script_grammar.specs.declared.fault.FaultKind.TheVariants.{Word, Number, Declared, Kind, Range}
use Rattle.script_grammar.specs.declared.lines.KeeperLine.{KeeperLine}
use Rattle.script_grammar.specs.declared.lines.KeeperLine.TheVariants.{Epoch, Save, Glean, Drop}
use Rattle.script_grammar.specs.Script.{Bytes, Line, Worker, Keeper, Round, op_text, keeper_text, line_text, decl_text}
use Rattle.script_grammar.specs.Words.{passes, words, number_in, is_no_number, is_join, is_keeper_line, is_worker_line, op_parts}
use Rattle.script_grammar.specs.Reading.{Parts, is_fresh, may_declare, may_run, may_follow, with_join}
use Rattle.script_grammar.specs.Faults.{LinePlace, place_after, place_past, declared_by, is_decl_shape, op_is, some_op_is, is_too_long, has_no_shape, lacks_number, is_too_many, is_misdeclared, is_of_other_kind, is_out_of_range, kind_of}
use Rattle.script_grammar.proofs.Found.{or_from, or_last, not_false, denied}
use Rattle.script_grammar.proofs.OpTexts.{IsSpelled}
use Rattle.script_grammar.proofs.LineTexts.{AreSpelled, IsSpelledLine, BeginsLine, line_begins_so, words_array, words_tree}
use Rattle.script_grammar.proofs.StepTexts.{IsShort}
use Rattle.script_grammar.proofs.GoodOps.{HasNoFault}
use Rattle.script_grammar.proofs.GoodLines.{IsFaultless, HaveNoFault}
use Rattle.script_grammar.proofs.OpTests.{no_fault_op}

-- where no test finds a fault, the line has no kind of fault
no_kind : (place : LinePlace) (line : Bytes) → IsFaultless place line → kind_of place line ≡ None
unfolding kind_of
no_kind place line f = rw (f.short, f.shape, f.numbers, f.few, f.declared, f.kind, f.range) refl

-- no test finds a fault in the line, and behind it stands the next one
pub record Passes (p : Parts) (line : Bytes) (q : Parts) : Type 0 where
  pub kind : kind_of (place_after p) line ≡ None
  pub past : place_past (place_after p) line ≡ place_after q

-- the first of a choice
at_first : (b x y : Bool) → b ≡ true → x ≡ false → cond b x y ≡ false
at_first true x y e f = f
at_first false x y e f = absurd cc

-- the second of a choice
at_second : (b x y : Bool) → b ≡ false → y ≡ false → cond b x y ≡ false
at_second true x y e f = absurd cc
at_second false x y e f = f

-- two don't both hold where the second doesn't
and_false : (x y : Bool) → y ≡ false → (x && y) ≡ false
and_false true y e = e
and_false false y e = refl

-- ---- workers' lines

no_fault_ops : (decls : List Decl) (ops : List Op) → AllByRecursion IsSpelled ops → list_all (fits decls) ops ≡ true → HaveNoFault decls (map op_text ops)
no_fault_ops decls [] are e = record { shape = refl; numbers = refl; declared = refl; kind = refl; range = refl }
no_fault_ops decls (op ∷ ops) are e =
    let both = and_parts (fits decls op) (list_all (fits decls) ops) e in
    let first : HasNoFault decls (op_text op) = no_fault_op decls op are.0 both.0 in
    let others : HaveNoFault decls (map op_text ops) = no_fault_ops decls ops are.1 both.1 in
    record {
      shape = or_from (op_is Word decls (op_text op)) (list_any (op_is Word decls) (map op_text ops)) first.shape others.shape;
      numbers = or_from (op_is Number decls (op_text op)) (list_any (op_is Number decls) (map op_text ops)) first.numbers others.numbers;
      declared = or_from (op_is Declared decls (op_text op)) (list_any (op_is Declared decls) (map op_text ops)) first.declared others.declared;
      kind = or_from (op_is Kind decls (op_text op)) (list_any (op_is Kind decls) (map op_text ops)) first.kind others.kind;
      range = or_from (op_is Range decls (op_text op)) (list_any (op_is Range decls) (map op_text ops)) first.range others.range;
    }

-- no test finds a fault in a worker's line that may come here
faultless_line : (p : Parts) (line : Bytes) (worker : ℕ) (ops : List Op) → worker < 8 → AreSpelled ops → IsShort line → may_run p ops ≡ true → BeginsLine line worker ops → IsFaultless (place_after p) line
unfolding is_too_long has_no_shape lacks_number is_too_many is_misdeclared is_of_other_kind is_out_of_range some_op_is
faultless_line p line worker ops below are short test begins =
    let both = and_parts (nat_lt (length p.lines) 65536) (list_all (fits p.decls) ops) test in
    let few = are.few in
    let none : HaveNoFault p.decls (op_parts line) = subst (HaveNoFault p.decls) (sym begins.ops_are) (no_fault_ops p.decls ops are.each both.1) in
    let count : length (op_parts line) ≡ length ops = ap (λ (ps : List Bytes). length ps) begins.ops_are ∙ length-map ops op_text in
    record {
      short = le-ltb 1024 (length line) short;
      shape = at_first (is_worker_line line) _ _ begins.worker_line none.shape;
      numbers = at_first (is_worker_line line) _ _ begins.worker_line (rw begins.number_is none.numbers);
      few = at_first (is_worker_line line) _ _ begins.worker_line (or_from (nat_lt 16 (length (op_parts line))) _ (le-ltb 16 (length (op_parts line)) (omega arith)) (lt-leb 65536 (length p.lines) (ltb-true _ _ both.0)));
      declared = at_first (is_worker_line line) _ _ begins.worker_line none.declared;
      kind = and_false (is_worker_line line) _ none.kind;
      range = at_first (is_worker_line line) _ _ begins.worker_line (rw begins.number_is (or_from (nat_le 8 worker) _ (lt-leb 8 worker below) none.range));
    }

-- a list with one more at its end isn't empty
not_empty : {X : Type 0} (xs : List X) (x : X) → (length (xs ++ x ∷ []) == 0) ≡ false
not_empty xs x = ne_eqb (length (xs ++ x ∷ [])) 0 (λ none. omega (arith, length-append xs (x ∷ [])))

-- where a line stands
abbrev stands : List Decl → Bool → ℕ → LinePlace
stands decls begun lines = record { decls = decls; begun = begun; lines = lines }

past_line : (p : Parts) (line : Bytes) (l : Line) → (is_worker_line line || is_keeper_line line) ≡ true → place_past (place_after p) line ≡ place_after (record p { lines = p.lines ++ l ∷ [] })
unfolding place_past
past_line p line l one =
    let begun : is_fresh (record p { lines = p.lines ++ l ∷ [] }) ≡ false = and_false (length p.joined == 0) _ (not_empty p.lines l) in
    rw one
    (ap (λ (n : ℕ). stands p.decls true n) (sym (length-append p.lines (l ∷ []))) ∙ ap (λ (b : Bool). stands p.decls (not b) (length (p.lines ++ l ∷ []))) (sym begun))

-- behind a line of the maintenance thread that may come here stands the next one
passes_keeper : (p : Parts) (asked : KeeperLine) → nat_lt (length p.lines) 65536 ≡ true → Passes p (keeper_text asked) (record p { lines = p.lines ++ Keeper asked ∷ [] })
unfolding kind_of is_too_long has_no_shape lacks_number is_too_many is_misdeclared is_of_other_kind is_out_of_range is_decl_shape
passes_keeper p Epoch room = record { kind = rw (lt-leb 65536 (length p.lines) (ltb-true _ _ room)) refl; past = past_line p (codes "k epoch") (Keeper Epoch) refl }
passes_keeper p Save room = record { kind = rw (lt-leb 65536 (length p.lines) (ltb-true _ _ room)) refl; past = past_line p (codes "k save") (Keeper Save) refl }
passes_keeper p Glean room = record { kind = rw (lt-leb 65536 (length p.lines) (ltb-true _ _ room)) refl; past = past_line p (codes "k glean") (Keeper Glean) refl }
passes_keeper p Drop room = record { kind = rw (lt-leb 65536 (length p.lines) (ltb-true _ _ room)) refl; past = past_line p (codes "k drop") (Keeper Drop) refl }

-- behind a line that may come here stands the next one
pub passes_line : (p : Parts) (l : Line) → IsSpelledLine l → IsShort (line_text l) → may_follow p l ≡ true → Passes p (line_text l) (record p { lines = p.lines ++ l ∷ [] })
passes_line p (Worker worker ops) is short test =
    let begins = line_begins_so worker ops is.0 is.1 in
    let line : Bytes = line_text (Worker worker ops) in
    record {
      kind = no_kind (place_after p) line (faultless_line p line worker ops is.0 is.1 short test begins);
      past = past_line p line (Worker worker ops) (rw begins.worker_line refl);
    }
passes_line p (Keeper line) is short test = passes_keeper p line test

-- ---- declarations

-- what a declaration that may come here is tested for: its shape, its numbers and their ranges
record IsGoodDecl (line : Bytes) (d : Decl) : Type 0 where
  other : is_worker_line line ≡ false
  no_join : is_join line ≡ false
  no_keeper : is_keeper_line line ≡ false
  shape : is_decl_shape line ≡ true
  id_is : number_in (words line) 1 ≡ Some (id_of d)
  numbers : (is_no_number (words line) 1 || is_no_number (words line) 2) ≡ false
  range : (passes (nat_le 256) (number_in (words line) 1) || passes (λ size. (size == 0) || nat_lt 131072 size) (number_in (words line) 2)) ≡ false
  declares : declared_by (number_in (words line) 1) (number_in (words line) 2) ≡ d ∷ []

array_shape : (line id size : Bytes) → words line ≡ codes "array" ∷ id ∷ size ∷ [] → is_decl_shape line ≡ true
unfolding is_decl_shape
array_shape line id size e = rw e refl

tree_shape : (line id : Bytes) → words line ≡ codes "tree" ∷ id ∷ [] → is_decl_shape line ≡ true
unfolding is_decl_shape
tree_shape line id e = rw e refl

-- a declaration by the rules is so
good_decl : (d : Decl) → IsDecl d → IsGoodDecl (decl_text d) d
good_decl (Array id size) is =
    let below = is.0 in
    let positive = is.1 in
    let limit = is.2 in
    let ws = words_array id size (omega arith) (omega arith) in
    let n = number_of_again id (omega arith) in
    let m = number_of_again size (omega arith) in
    let some : (size == 0) ≡ false = ne_eqb size 0 (λ none. omega arith) in
    record {
      other = refl;
      no_join = refl;
      no_keeper = refl;
      shape = array_shape (decl_text (Array id size)) (decimal id) (decimal size) ws;
      id_is = rw (ws, n) refl;
      numbers = rw (ws, n, m) refl;
      range = rw (ws, n, m) (or_from (nat_le 256 id) _ (lt-leb 256 id is.0) (or_from (size == 0) (nat_lt 131072 size) some (le-ltb 131072 size is.2)));
      declares = rw (ws, n, m) refl;
    }
good_decl (Tree id) is =
    let below : id < 256 = is in
    let ws = words_tree id (omega arith) in
    let n = number_of_again id (omega arith) in
    record {
      other = refl;
      no_join = refl;
      no_keeper = refl;
      shape = tree_shape (decl_text (Tree id)) (decimal id) ws;
      id_is = rw (ws, n) refl;
      numbers = rw (ws, n) refl;
      range = rw (ws, n) (or_from (nat_le 256 id) false (lt-leb 256 id is) refl);
      declares = rw (ws, n) refl;
    }

-- no test finds a fault in a declaration that may come here
faultless_decl : (p : Parts) (line : Bytes) (d : Decl) → IsGoodDecl line d → IsShort line → may_declare p d ≡ true → IsFaultless (place_after p) line
unfolding is_too_long has_no_shape lacks_number is_too_many is_misdeclared is_of_other_kind is_out_of_range
faultless_decl p line d good short test =
    let b : Bool = is_worker_line line in
    let first = and_parts (is_fresh p) (nat_lt (length p.decls) 16 && not (list_any (λ e. id_of e == id_of d) p.decls)) test in
    let second = and_parts (nat_lt (length p.decls) 16) (not (list_any (λ e. id_of e == id_of d) p.decls)) first.1 in
    let new : list_any (λ e. id_of e == id_of d) p.decls ≡ false = not_false _ second.1 in
    record {
      short = le-ltb 1024 (length line) short;
      shape = at_second b _ _ good.other (denied _ (or_last (length line == 0) _ (or_last (is_join line) _ (or_last (is_keeper_line line) (is_decl_shape line) good.shape))));
      numbers = at_second b _ _ good.other (and_false (is_decl_shape line) _ good.numbers);
      few = at_second b _ _ good.other (or_from (is_keeper_line line && nat_le 65536 (length p.lines)) _ (rw good.no_keeper refl) (and_false (is_decl_shape line) _ (lt-leb 16 (length p.decls) (ltb-true _ _ second.0))));
      declared = at_second b _ _ good.other (and_false (is_decl_shape line) _ (or_from (not (is_fresh p)) _ (denied (is_fresh p) first.0) (rw good.id_is new)));
      kind = rw good.other refl;
      range = at_second b _ _ good.other (and_false (is_decl_shape line) _ good.range);
    }

past_decl : (p : Parts) (line : Bytes) (d : Decl) → IsGoodDecl line d → place_past (place_after p) line ≡ place_after (record p { decls = p.decls ++ d ∷ [] })
unfolding place_past
past_decl p line d good = rw (good.other, good.no_keeper, good.no_join, good.shape, good.declares) refl

pub passes_decl : (p : Parts) (d : Decl) → IsDecl d → IsShort (decl_text d) → may_declare p d ≡ true → Passes p (decl_text d) (record p { decls = p.decls ++ d ∷ [] })
passes_decl p d is short test =
    let good = good_decl d is in
    record {
      kind = no_kind (place_after p) (decl_text d) (faultless_decl p (decl_text d) d good short test);
      past = past_decl p (decl_text d) d good;
    }

-- ---- other lines

past_join : (p : Parts) → place_past (place_after p) (codes "join") ≡ place_after (with_join p)
unfolding place_past
past_join p =
    let r : Round = record { lines = p.lines } in
    ap (λ (b : Bool). stands p.decls (not (b && true)) 0) (sym (not_empty p.joined r))

pub passes_join : (p : Parts) → Passes p (codes "join") (with_join p)
unfolding kind_of is_too_long has_no_shape lacks_number is_too_many is_misdeclared is_of_other_kind is_out_of_range is_decl_shape
passes_join p = record { kind = refl; past = past_join p }

pub passes_empty : (p : Parts) → Passes p [] p
unfolding kind_of is_too_long has_no_shape lacks_number is_too_many is_misdeclared is_of_other_kind is_out_of_range is_decl_shape place_past
passes_empty p = record { kind = refl; past = refl }
