-- A worker's line at its place, with its newline, is the first line from there on, and reading it is reading that line.
use Rattle.std.proofs.Common.{◌≡◌, ℕ, ◌+◌, ◌<◌, ◌≤◌, ◌^◌, true, false, List, [], ◌∷◌, ◌++◌, length, drop, get_or, Option, Some, None, Result, Ok, Err, refl, sym, ap, ◌∙◌, append_assoc, arith, length-append, length-drop}
use Rattle.std.specs.Prelude.{◌==◌, nat_lt}
use Rattle.std.specs.Fmt.{decimal}
use Rattle.std.specs.List.{AllByRecursion, list_all, slice_split, onto_first}
use Rattle.std.specs.Str.Parse.{AllDigits}
use Rattle.std.proofs.lemmas.Bool.{ne_eqb, and_from, lt-ltb}
use Rattle.std.proofs.lemmas.Fmt.{decimal_digit}
use Rattle.std.proofs.lemmas.List.Splits.{slice_split-cons_yes, slice_split-cons_no}
use Rattle.std.proofs.lemmas.Str.Parse.{digit_from_value}
use Rattle.lists.specs.declared.memory.Memory.{Memory}
use Rattle.serial_model.specs.Keys.{fits}
use Rattle.serial_model.specs.declared.decl.Decl.{Decl}
use Rattle.serial_model.specs.declared.key.Key.{Key}
use Rattle.serial_model.specs.declared.op.Op.{Op}
use Rattle.serial_model.specs.declared.op.Op.TheVariants.{Read, Write, Remove, Add, Take, Scan}
use Rattle.script_grammar.specs.declared.lines.Span.{Span}
use Rattle.script_grammar.specs.declared.lines.Span.TheVariants as span
use Rattle.script_grammar.specs.declared.rounds.Stretch.{Stretch}
use Rattle.script_grammar.specs.Script.{Bytes, Line, Worker, Round, key_text, op_text, more_ops_text, ops_text, line_text}
use Rattle.script_grammar.specs.Reading.{Parts, may_follow, step, steps}
use Rattle.script_grammar.specs.Lines.{RoundsSoFar, lines_in, AreWithin, rounds_in, AreRoundsWithin}
use Rattle.script_grammar.specs.Front.{HasText, IsDigitAt, AreOpsAt, AddsOps, MayAddOps, IsLineAt, AddsLine, MayTakeLine, IsLineRead, MayReadLine, LeavesOthers}
use Rattle.script_grammar.proofs.FlatLines.{lines_in-push}
use Rattle.script_grammar.proofs.FlatRounds.{rounds_more}
use Rattle.script_grammar.proofs.Found.{bind_some, some_same}
use Rattle.script_grammar.proofs.FrontOps.{byte_there}
use Rattle.script_grammar.proofs.WordTexts.{IsKey, digits_of}
use Rattle.script_grammar.proofs.OpTexts.{IsSpelled, key_at}
use Rattle.script_grammar.proofs.StepAgain.{line_step_at}

-- ---- operations that have a text are spelled

op_spelled : (op : Op) → HasText op → IsSpelled op
op_spelled (Read k) is = record { storage = is.storage; key = is.numbers }
op_spelled (Write k v) is = (record { storage = is.storage; key = is.numbers.0 }, is.numbers.1)
op_spelled (Remove k) is = record { storage = is.storage; key = is.numbers }
op_spelled (Add k v) is = (record { storage = is.storage; key = is.numbers.0 }, is.numbers.1)
op_spelled (Take k v) is = (record { storage = is.storage; key = is.numbers.0 }, is.numbers.1)
op_spelled (Scan storage low high) is = (record { storage = is.storage; key = is.numbers.0 }, is.numbers.1)

ops_spelled : (ops : List Op) → AllByRecursion HasText ops → AllByRecursion IsSpelled ops
ops_spelled [] are = tt
ops_spelled (op ∷ ops) are = (op_spelled op are.0, ops_spelled ops are.1)

-- ---- no newline stands in a worker's line

abbrev HasNoNewline : Bytes → Type 0
HasNoNewline bs = AllByRecursion (λ b. (b == 10) ≡ false) bs

digits_newline : (ds : Bytes) → AllDigits 10 ds → HasNoNewline ds
digits_newline [] all = tt
digits_newline (d ∷ ds) all = let h = digit_from_value d all.0 in (ne_eqb d 10 (λ same. omega arith), digits_newline ds all.1)

append_newline : (xs ys : Bytes) → HasNoNewline xs → HasNoNewline ys → HasNoNewline (xs ++ ys)
append_newline [] ys front back = back
append_newline (x ∷ xs) ys front back = (front.0, append_newline xs ys front.1 back)

number_newline : (n : ℕ) → n < 2 ^ 64 → HasNoNewline (decimal n)
number_newline n lt = digits_newline (decimal n) (digits_of n lt)

key_newline : (k : Key) → IsKey k → HasNoNewline (key_text k)
key_newline k is =
    let small = is.storage in
    append_newline (decimal k.storage ++ (32 ∷ [])) (decimal k.key)
    (append_newline (decimal k.storage) (32 ∷ []) (number_newline k.storage (omega arith)) (refl, tt)) (number_newline k.key is.key)

value_newline : (k : Key) (v : ℕ) → IsKey k → v < 2 ^ 64 → HasNoNewline ((key_text k ++ (32 ∷ [])) ++ decimal v)
value_newline k v is lt = append_newline (key_text k ++ (32 ∷ [])) (decimal v) (append_newline (key_text k) (32 ∷ []) (key_newline k is) (refl, tt)) (number_newline v lt)

op_newline : (op : Op) → IsSpelled op → HasNoNewline (op_text op)
op_newline (Read k) is = (refl, (refl, key_newline k is))
op_newline (Write k v) is = (refl, (refl, value_newline k v is.0 is.1))
op_newline (Remove k) is = (refl, (refl, key_newline k is))
op_newline (Add k v) is = (refl, (refl, value_newline k v is.0 is.1))
op_newline (Take k v) is = (refl, (refl, value_newline k v is.0 is.1))
op_newline (Scan storage low high) is = (refl, (refl, value_newline (key_at storage low) high is.0 is.1))

more_newline : (ops : List Op) → AllByRecursion IsSpelled ops → HasNoNewline (more_ops_text ops)
more_newline [] are = tt
more_newline (op ∷ ops) are = (refl, (refl, append_newline (op_text op) (more_ops_text ops) (op_newline op are.0) (more_newline ops are.1)))

ops_newline : (ops : List Op) → AllByRecursion IsSpelled ops → HasNoNewline (ops_text ops)
ops_newline [] are = tt
ops_newline (op ∷ ops) are = append_newline (op_text op) (more_ops_text ops) (op_newline op are.0) (more_newline ops are.1)

line_newline : (worker : ℕ) (ops : List Op) → worker < 8 → AllByRecursion IsSpelled ops → HasNoNewline (line_text (Worker worker ops))
line_newline worker ops below are =
    append_newline (decimal worker ++ (32 ∷ [])) (ops_text ops)
    (append_newline (decimal worker) (32 ∷ []) (number_newline worker (omega arith)) (refl, tt)) (ops_newline ops are)

-- bytes without a newline, and a newline behind them, are the first line
first_line : (xs rest : Bytes) → HasNoNewline xs → slice_split (λ b. b == 10) (xs ++ 10 ∷ rest) ≡ xs ∷ slice_split (λ b. b == 10) rest
first_line [] rest none = slice_split-cons_yes (λ b. b == 10) 10 rest refl
first_line (x ∷ xs) rest none = slice_split-cons_no (λ b. b == 10) x (xs ++ 10 ∷ rest) none.0 ∙ ap (onto_first x) (first_line xs rest none.1)

-- ---- the line

-- the text behind a worker and a space is that of the line
line_joined : (worker : ℕ) (ops : List Op) (rest : Bytes) → worker < 8 → (48 + worker) ∷ 32 ∷ (ops_text ops ++ rest) ≡ line_text (Worker worker ops) ++ rest
line_joined worker ops rest below =
    let one : decimal worker ≡ (48 + worker) ∷ [] = decimal_digit worker (omega arith) in
    ap (λ (w : Bytes). ((w ++ (32 ∷ [])) ++ ops_text ops) ++ rest) (sym one)

-- a text up to a newline is as long as the newline's place says
front_length : (bytes text : Bytes) (at end : ℕ) → at < length bytes → end < length bytes → drop at bytes ≡ text ++ 10 ∷ drop (end + 1) bytes → at + length text ≡ end
front_length bytes text at end begins lt e =
    let all : length (drop at bytes) ≡ length text + length (10 ∷ drop (end + 1) bytes) = ap (λ (b : Bytes). length b) e ∙ length-append text (10 ∷ drop (end + 1) bytes) in
    let rest : length (10 ∷ drop (end + 1) bytes) ≡ length (drop (end + 1) bytes) + 1 = omega arith in
    omega (arith, all, rest, length-drop at bytes, length-drop (end + 1) bytes)

-- a worker and operations behind it are a line
pub line_there : (bytes : Bytes) (at : ℕ) (decls : List Decl) (worker : ℕ) (ops : List Op) (end : ℕ) → at + 1024 ≤ length bytes → worker < 8 → IsDigitAt bytes at worker → get_or bytes (at + 1) 0 ≡ 32
    → AreOpsAt bytes (at + 2) decls ops end → IsLineAt bytes at decls worker ops end
line_there bytes at decls worker ops end room below begins space are =
    let near = are.near in
    let next : at + 1 + 1 ≡ at + 2 = omega arith in
    let text : drop at bytes ≡ line_text (Worker worker ops) ++ 10 ∷ drop (end + 1) bytes =
    begins ∙ ap (λ (r : Bytes). (48 + worker) ∷ r) (byte_there bytes (at + 1) 32 (omega arith) space ∙ ap (λ (n : ℕ). 32 ∷ drop n bytes) next)
    ∙ ap (λ (r : Bytes). (48 + worker) ∷ 32 ∷ r) are.text ∙ line_joined worker ops (10 ∷ drop (end + 1) bytes) below in
    let long = front_length bytes (line_text (Worker worker ops)) at end (omega arith) (omega arith) text in
    record {
      below = below;
      some = are.some;
      few = are.few;
      spelled = are.spelled;
      fitting = are.fitting;
      after = omega (arith, long);
      within = omega arith;
      text = text;
      short = omega (arith, long);
    }

-- ---- what it adds

-- operations may be added, whether all were read or not
pub some_more : (found : Option (ℕ × ℕ)) (bytes : Bytes) (start : ℕ) (decls : List Decl) (old new : List Op) → MayAddOps found bytes start decls old new → (more : List Op) × (new ≡ old ++ more)
some_more (Some found) bytes start decls old new adds = (adds.ops, adds.added)
some_more None bytes start decls old new adds = adds

-- the operations that were added are those of the line of their span
pub line_added : (bytes : Bytes) (at : ℕ) (decls : List Decl) (ops new : List Op) (spans spans' : List Span) (worker count end start : ℕ) (adds : AddsOps bytes at decls ops new count end)
    → spans' ≡ spans ++ span.Worker worker count start ∷ [] → start ≡ length ops → AreWithin ops spans → lines_in new spans' ≡ lines_in ops spans ++ Worker worker adds.ops ∷ []
line_added bytes at decls ops new spans spans' worker count end start adds e begins within =
    ap (λ (os : List Op). lines_in os spans') adds.added ∙ ap (lines_in (ops ++ adds.ops)) e
    ∙ lines_in-push ops adds.ops spans worker count start adds.counted begins within

-- what is added to the lines is added to those of the last round
pub rounds_kept : (result : Result (Option ℕ) Memory) (bytes : Bytes) (place : ℕ) (decls : List Decl) (lines new : List Line) (stretches : List Stretch) (start : ℕ)
    → MayTakeLine result bytes place decls lines new → AreRoundsWithin lines stretches → start ≤ length lines
    → (MayTakeLine result bytes place decls (drop start lines) (drop start new)) × (rounds_in new stretches ≡ rounds_in lines stretches)
rounds_kept (Ok (Some end)) bytes place decls lines new stretches start adds within at =
    let line : Line = Worker adds.worker adds.ops in
    let more = rounds_more lines (line ∷ []) stretches start within at in (
      record {
        worker = adds.worker;
        ops = adds.ops;
        is = adds.is;
        added = ap (drop start) adds.added ∙ ap (λ (r : RoundsSoFar). r.rest) more;
      },
      ap (λ (ls : List Line). rounds_in ls stretches) adds.added ∙ ap (λ (r : RoundsSoFar). r.joined) more,
    )
rounds_kept (Ok None) bytes place decls lines new stretches start same within at = (ap (drop start) same, ap (λ (ls : List Line). rounds_in ls stretches) same)
rounds_kept (Err memory) bytes place decls lines new stretches start same within at = (ap (drop start) same, ap (λ (ls : List Line). rounds_in ls stretches) same)

-- ---- what is read

abbrev parts_are : List Decl → List Round → List Line → Parts
parts_are decls joined lines = record { decls = decls; joined = joined; lines = lines }

-- a line at its place that may come here is one line more
front_read : (bytes : Bytes) (at : ℕ) (decls : List Decl) (joined joined' : List Round) (lines lines' : List Line) (end : ℕ) → length lines < 65536 → AddsLine bytes at decls lines lines' end
    → joined' ≡ joined → IsLineRead bytes at (parts_are decls joined lines) (parts_are decls joined' lines') end
front_read bytes at decls joined joined' lines lines' end room adds same =
    let line : Line = Worker adds.worker adds.ops in
    let spelled = ops_spelled adds.ops adds.is.spelled in
    let test : may_follow (parts_are decls joined lines) line ≡ true =
    and_from (nat_lt (length lines) 65536) (list_all (fits decls) adds.ops) (lt-ltb (length lines) 65536 room) adds.is.fitting in
    let after : parts_are decls joined (lines ++ line ∷ []) ≡ parts_are decls joined' lines' =
    ap (parts_are decls joined) (sym adds.added) ∙ ap (λ (rs : List Round). parts_are decls rs lines') (sym same) in
    record {
      line = line_text line;
      after = adds.is.after;
      within = adds.is.within;
      cut = ap (slice_split (λ b. b == 10)) adds.is.text ∙ first_line (line_text line) (drop (end + 1) bytes) (line_newline adds.worker adds.ops adds.is.below spelled);
      read = line_step_at (parts_are decls joined lines) line (adds.is.below, record { some = adds.is.some; few = adds.is.few; each = spelled }) adds.is.short test ∙ ap Some after;
      one = ap (λ (ls : List Line). length ls) adds.added ∙ length-append lines (line ∷ []);
    }

-- the same of each answer
pub may_read : (result : Result (Option ℕ) Memory) (bytes : Bytes) (at : ℕ) (decls : List Decl) (joined joined' : List Round) (lines lines' : List Line) → length lines < 65536
    → MayTakeLine result bytes at decls lines lines' → joined' ≡ joined → MayReadLine result bytes at (parts_are decls joined lines) (parts_are decls joined' lines')
may_read (Ok (Some end)) bytes at decls joined joined' lines lines' room adds same = front_read bytes at decls joined joined' lines lines' end room adds same
may_read (Ok None) bytes at decls joined joined' lines lines' room kept same = ap (parts_are decls joined') kept ∙ ap (λ (rs : List Round). parts_are decls rs lines) same
may_read (Err memory) bytes at decls joined joined' lines lines' room kept same = ap (parts_are decls joined') kept ∙ ap (λ (rs : List Round). parts_are decls rs lines) same

-- ---- lines, one after another

-- lines, one after another, and those behind them
steps_append : (p q : Parts) (lines more : List Bytes) → steps p lines ≡ Some q → steps p (lines ++ more) ≡ steps q more
unfolding steps
steps_append p q [] more e = ap (λ (r : Parts). steps r more) (some_same p q e)
steps_append p q (line ∷ lines) more e =
    let a = bind_some (step p line) (λ r. steps r lines) q e in
    rw a.1 (steps_append a.0 q lines more a.2)

-- one line, and no more
steps_one : (p q : Parts) (line : Bytes) → step p line ≡ Some q → steps p (line ∷ []) ≡ Some q
unfolding steps
steps_one p q line e = rw e refl

-- none were read yet
pub none_read : (bytes : Bytes) (p : Parts) → LeavesOthers bytes bytes p p 0
unfolding steps
none_read bytes p = record { lines = []; counted = refl; cut = refl; shorter = omega arith; read = refl }

-- one line more was read
pub one_read : (bytes : Bytes) (at : ℕ) (p q r : Parts) (count end : ℕ) → LeavesOthers bytes (drop at bytes) p q count → at ≤ length bytes → IsLineRead bytes at q r end
    → LeavesOthers bytes (drop (end + 1) bytes) p r (count + 1)
one_read bytes at p q r count end leaves begins is =
    let line : Bytes = is.line in
    let shorter = leaves.shorter in
    let after = is.after in
    let within = is.within in
    record {
      lines = leaves.lines ++ line ∷ [];
      counted = omega (arith, leaves.counted, length-append leaves.lines (line ∷ []));
      cut = leaves.cut ∙ ap (λ (ls : List Bytes). leaves.lines ++ ls) is.cut ∙ sym (append_assoc leaves.lines (line ∷ []) (slice_split (λ b. b == 10) (drop (end + 1) bytes)));
      shorter = omega (arith, length-drop at bytes, length-drop (end + 1) bytes);
      read = steps_append p q leaves.lines (line ∷ []) leaves.read ∙ steps_one q r line is.read;
    }
