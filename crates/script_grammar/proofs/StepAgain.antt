-- The lines of a script, read one after the other, are that script.
use Rattle.std.proofs.Common.{◌≡◌, ◌+◌, ◌<◌, ◌≤◌, Bool, true, false, cond, eqb, List, [], ◌∷◌, ◌++◌, length, Some, refl, sym, ap, subst, ◌∙◌, append_assoc, arith, map, length-append}
use Rattle.std.specs.Prelude.{nat_lt, codes}
use Rattle.std.specs.List.{AllByRecursion, list_all}
use Rattle.std.proofs.lemmas.Bool.{lt-ltb, le-ltb, ne_eqb, and_from}
use Rattle.std.proofs.lemmas.List.{append-nil}
use Rattle.std.proofs.lemmas.Fmt.{decimal_digit}
use Rattle.lists.specs.Each.{AreDistinct}
use Rattle.serial_model.specs.Keys.{id_of, fits}
use Rattle.serial_model.specs.Decls.{IsDecl}
use Rattle.serial_model.specs.declared.decl.Decl.{Decl}
use Rattle.serial_model.specs.declared.decl.Decl.TheVariants.{Array, Tree}
use Rattle.script_grammar.specs.declared.lines.KeeperLine.TheVariants.{Epoch, Save, Glean, Drop}
use Rattle.script_grammar.specs.Script.{Bytes, Line, Worker, Keeper, Round, ops_text, line_text, decl_text, joined_lines, IsLine, IsRound}
use Rattle.script_grammar.specs.Words.{is_join}
use Rattle.script_grammar.specs.Reading.{Parts, may_declare, may_follow, with_decl, with_line, with_join, with_some_line, begins_declaration, step, steps}
use Rattle.script_grammar.proofs.Found.{or_from}
use Rattle.script_grammar.proofs.LineTexts.{IsSpelledLine, decl_again, line_again}
use Rattle.script_grammar.proofs.Rules.{all_front, all_back, is_declared, line_spelled, ops_fit, distinct_new}
use Rattle.script_grammar.proofs.StepTexts.{IsShort}

-- a line that counts, by its first letter
step_by_letter : (p : Parts) (line : Bytes) (is_decl : Bool) → 0 < length line → length line ≤ 1024 → is_join line ≡ false → begins_declaration line ≡ is_decl
    → step p line ≡ cond is_decl (with_decl p line) (with_line p line)
unfolding step with_some_line
step_by_letter p line is_decl some short e f = rw (ne_eqb (length line) 0 (λ none. omega arith), le-ltb 1024 (length line) short, e, f) refl

-- a join is a round more
pub join_step : (p : Parts) → step p (codes "join") ≡ Some (with_join p)
unfolding step with_some_line
join_step p = refl

-- ---- declarations

-- a declaration begins with its letter
decl_begins : (d : Decl) → IsDecl d → (0 < length (decl_text d)) × (is_join (decl_text d) ≡ false) × (begins_declaration (decl_text d) ≡ true)
decl_begins (Array id size) is = (omega arith, refl, refl)
decl_begins (Tree id) is = (omega arith, refl, refl)

-- a declaration that may come here is one declaration more
pub decl_step_at : (p : Parts) (d : Decl) → IsDecl d → IsShort (decl_text d) → may_declare p d ≡ true → step p (decl_text d) ≡ Some (record p { decls = p.decls ++ d ∷ [] })
unfolding with_decl
decl_step_at p d is short test =
    let begins = decl_begins d is in
    step_by_letter p (decl_text d) true begins.0 short begins.1 begins.2 ∙ rw (decl_again d is, test) refl

-- a declaration by the rules is one declaration more
decl_step : (front : List Decl) (d : Decl) → IsDecl d → IsShort (decl_text d) → length front < 16 → is_declared d front ≡ false
    → step (record { decls = front; joined = []; lines = [] }) (decl_text d) ≡ Some (record { decls = front ++ d ∷ []; joined = []; lines = [] })
decl_step front d is short room new =
    let p : Parts = record { decls = front; joined = []; lines = [] } in
    let test : may_declare p d ≡ true = rw (lt-ltb (length front) 16 room, new) refl in
    decl_step_at p d is short test

-- declarations by the rules, one after the other
pub decls_again : (front ds : List Decl) (rest : List Bytes) → length front + length ds ≤ 16 → AllByRecursion IsDecl ds → AreDistinct (map id_of (front ++ ds)) → AllByRecursion IsShort (map decl_text ds)
    → steps (record { decls = front; joined = []; lines = [] }) (map decl_text ds ++ rest) ≡ steps (record { decls = front ++ ds; joined = []; lines = [] }) rest
unfolding steps
decls_again front [] rest few all distinct short =
    ap (λ (ds : List Decl). steps (let p : Parts = record { decls = ds; joined = []; lines = [] } in p) rest) (sym (append-nil front))
decls_again front (d ∷ ds) rest few all distinct short =
    let grown : (front ++ d ∷ []) ++ ds ≡ front ++ d ∷ ds = append_assoc front (d ∷ []) ds in
    let one = decl_step front d all.0 short.0 (omega arith) (distinct_new front d ds distinct) in
    rw one
    (decls_again (front ++ d ∷ []) ds rest (omega (arith, length-append front (d ∷ []))) all.1 (subst (λ (es : List Decl). AreDistinct (map id_of es)) (sym grown) distinct) short.1
    ∙ ap (λ (es : List Decl). steps (let p : Parts = record { decls = es; joined = []; lines = [] } in p) rest) grown)

-- ---- lines of both kinds

-- a worker's line begins with a digit, one of the maintenance thread with its letter
line_begins : (l : Line) → IsSpelledLine l → (0 < length (line_text l)) × (is_join (line_text l) ≡ false) × (begins_declaration (line_text l) ≡ false)
line_begins (Worker worker ops) is =
    let below = is.0 in
    let digit : line_text (Worker worker ops) ≡ (48 + worker) ∷ 32 ∷ ops_text ops = rw (decimal_digit worker (omega arith)) refl in
    subst (λ (t : Bytes). (0 < length t) × (is_join t ≡ false) × (begins_declaration t ≡ false)) (sym digit)
    (omega arith, rw (ne_eqb (48 + worker) 106 (λ same. omega arith)) refl, or_from (eqb (48 + worker) 97) _ (ne_eqb (48 + worker) 97 (λ same. omega arith)) (ne_eqb (48 + worker) 116 (λ same. omega arith)))
line_begins (Keeper Epoch) is = (omega arith, refl, refl)
line_begins (Keeper Save) is = (omega arith, refl, refl)
line_begins (Keeper Glean) is = (omega arith, refl, refl)
line_begins (Keeper Drop) is = (omega arith, refl, refl)

-- a worker's line that may come here is one line more
pub line_step_at : (p : Parts) (l : Line) → IsSpelledLine l → IsShort (line_text l) → may_follow p l ≡ true → step p (line_text l) ≡ Some (record p { lines = p.lines ++ l ∷ [] })
unfolding with_line
line_step_at p l is short test =
    let begins = line_begins l is in
    step_by_letter p (line_text l) false begins.0 short begins.1 begins.2 ∙ rw (line_again l is, test) refl

-- a line by the rules may come where there is room
may_come : (p : Parts) (l : Line) → IsLine p.decls l → length p.lines < 65536 → may_follow p l ≡ true
may_come p (Worker worker ops) is room = and_from (nat_lt (length p.lines) 65536) (list_all (fits p.decls) ops) (lt-ltb (length p.lines) 65536 room) (ops_fit p.decls ops is.ops)
may_come p (Keeper line) is room = lt-ltb (length p.lines) 65536 room

-- a worker's line by the rules is one line more
line_step : (p : Parts) (l : Line) → AllByRecursion IsDecl p.decls → IsLine p.decls l → IsShort (line_text l) → length p.lines < 65536
    → step p (line_text l) ≡ Some (record p { lines = p.lines ++ l ∷ [] })
line_step p l all is short room = line_step_at p l (line_spelled p.decls l all is) short (may_come p l is room)

-- workers' lines by the rules, one after the other
pub lines_again : (p : Parts) (ls : List Line) (rest : List Bytes) → length p.lines + length ls ≤ 65536 → AllByRecursion IsDecl p.decls → AllByRecursion (IsLine p.decls) ls → AllByRecursion IsShort (map line_text ls)
    → steps p (map line_text ls ++ rest) ≡ steps (record p { lines = p.lines ++ ls }) rest
unfolding steps
lines_again p [] rest few all are short = ap (λ (ls : List Line). steps (record p { lines = ls }) rest) (sym (append-nil p.lines))
lines_again p (l ∷ ls) rest few all are short =
    rw (line_step p l all are.0 short.0 (omega arith))
    (lines_again (record p { lines = p.lines ++ l ∷ [] }) ls rest (omega (arith, length-append p.lines (l ∷ []))) all are.1 short.1
    ∙ ap (λ (ms : List Line). steps (record p { lines = ms }) rest) (append_assoc p.lines (l ∷ []) ls))

-- ---- rounds

-- rounds by the rules, each with its join, one after the other
pub rounds_again : (decls : List Decl) (front rounds : List Round) (rest : List Bytes) → AllByRecursion IsDecl decls → AllByRecursion (IsRound decls) rounds → AllByRecursion IsShort (joined_lines rounds)
    → steps (record { decls = decls; joined = front; lines = [] }) (joined_lines rounds ++ rest) ≡ steps (record { decls = decls; joined = front ++ rounds; lines = [] }) rest
unfolding steps
rounds_again decls front [] rest all are short = ap (λ (rs : List Round). steps (record { decls = decls; joined = rs; lines = [] }) rest) (sym (append-nil front))
rounds_again decls front (round ∷ rounds) rest all are short =
    let p : Parts = record { decls = decls; joined = front; lines = [] } in
    let q : Parts = record p { lines = round.lines } in
    let few = are.0.few_lines in
    let own = all_front IsShort (map line_text round.lines) (codes "join" ∷ joined_lines rounds) short in
    let others = all_back IsShort (map line_text round.lines) (codes "join" ∷ joined_lines rounds) short in
    ap (steps p) (append_assoc (map line_text round.lines) (codes "join" ∷ joined_lines rounds) rest)
    ∙ lines_again p round.lines (codes "join" ∷ (joined_lines rounds ++ rest)) (omega arith) all are.0.lines own
    ∙ rw (join_step q) (rounds_again decls (front ++ round ∷ []) rounds rest all are.1 others.1
    ∙ ap (λ (rs : List Round). steps (record { decls = decls; joined = rs; lines = [] }) rest) (append_assoc front (round ∷ []) rounds))
