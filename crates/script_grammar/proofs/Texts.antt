-- The two laws of the reader: what is read has the text that was read, and what has that text is read.
use Rattle.std.proofs.Common.{◌≡◌, ◌<◌, ◌≤◌, ltb, List, [], ◌∷◌, ◌++◌, length, Bool, true, false, cond, Option, Some, None, refl, sym, ap, subst, ◌∙◌, arith, map}
use Rattle.std.specs.Prelude.{◌==◌, filter}
use Rattle.std.specs.List.{AllByRecursion, slice_split}
use Rattle.std.proofs.lemmas.Bool.{ltb-true, ltb-false, le-ltb}
use Rattle.std.proofs.lemmas.List.{append-nil}
use Rattle.lists.specs.Each.{all_append}
use Rattle.serial_model.specs.declared.decl.Decl.{Decl}
use Rattle.script_grammar.specs.Script.{Bytes, Line, Round, Script, IsTextOf, IsScript, IsLine, IsRound, joined_lines, last_round, lines_of, line_text, decl_text}
use Rattle.script_grammar.specs.Reading.{Parts, no_parts, steps, parts_of, script_from}
use Rattle.script_grammar.proofs.Found.{not_test_some}
use Rattle.script_grammar.proofs.Rules.{all_front, all_back}
use Rattle.script_grammar.proofs.StepTexts.{IsShort, is_some_line, nothing_sound, steps-filter, steps_take}
use Rattle.script_grammar.proofs.StepAgain.{decls_again, lines_again, rounds_again}

-- ---- what is read has the text

-- a line that is kept counts
kept_some : (b : Bool) (line : Bytes) (lines : List Bytes) → is_some_line line ≡ b → AllByRecursion (λ l. 0 < length l) lines → AllByRecursion (λ l. 0 < length l) (cond b (line ∷ lines) lines)
kept_some true line lines e all = (ltb-true 0 (length line) e, all)
kept_some false line lines e all = all

-- all lines that are kept count
all_some : (lines : List Bytes) → AllByRecursion (λ l. 0 < length l) (filter is_some_line lines)
all_some [] = tt
all_some (line ∷ lines) = kept_some (is_some_line line) line (filter is_some_line lines) refl (all_some lines)

-- the last round of lines by the rules is by the rules
last_by_rules : (decls : List Decl) (joined : List Round) (lines : List Line) → length lines ≤ 65536 → AllByRecursion (IsLine decls) lines → AllByRecursion (IsRound decls) (last_round joined lines)
last_by_rules decls [] lines few are = (record { few_lines = few; lines = are }, tt)
last_by_rules decls (round ∷ rounds) [] few are = tt
last_by_rules decls (round ∷ rounds) (l ∷ ls) few are = (record { few_lines = few; lines = are }, tt)

-- the same of all rounds
rounds_by_rules : (decls : List Decl) (joined : List Round) (lines : List Line) → AllByRecursion (IsRound decls) joined → length lines ≤ 65536 → AllByRecursion (IsLine decls) lines
    → AllByRecursion (IsRound decls) (joined ++ last_round joined lines)
rounds_by_rules decls joined lines all few are = all_append (IsRound decls) joined (last_round joined lines) all (last_by_rules decls joined lines few are)

-- what is read has the text
pub text_from_parts : (bytes : Bytes) (p : Parts) → parts_of bytes ≡ Some p → IsTextOf bytes (script_from p)
unfolding parts_of
text_from_parts bytes p e =
    let t = not_test_some (ltb 67108864 (length bytes)) (steps no_parts (slice_split (λ b. b == 10) bytes)) p e in
    let read : steps no_parts (lines_of bytes) ≡ Some p = sym (steps-filter no_parts (slice_split (λ b. b == 10) bytes)) ∙ t.1 in
    let taken = steps_take no_parts p (lines_of bytes) nothing_sound (all_some (slice_split (λ b. b == 10) bytes)) read in
    record {
      size = ltb-false _ _ t.0;
      short = subst (AllByRecursion IsShort) taken.text taken.sound.short;
      joined = p.joined;
      rest = p.lines;
      rounds = refl;
      lines = sym taken.text;
      rules = record {
        decls = record { few = taken.sound.few_decls; each = taken.sound.decls; distinct = taken.sound.distinct };
        rounds = rounds_by_rules p.decls p.joined p.lines taken.sound.joined taken.sound.few_lines taken.sound.lines;
      };
    }

-- ---- what has the text is read

-- the lines of a last round by the rules are by the rules
rest_by_rules : (decls : List Decl) (joined : List Round) (rest : List Line) → AllByRecursion (IsRound decls) (last_round joined rest) → IsRound decls (record { lines = rest })
rest_by_rules decls [] rest all = all.0
rest_by_rules decls (round ∷ rounds) [] all = record { few_lines = omega arith; lines = tt }
rest_by_rules decls (round ∷ rounds) (l ∷ ls) all = all.0

-- the lines of a script by the rules are read as it
parts_by_rules : (decls : List Decl) (joined : List Round) (rest : List Line) → IsScript (record { decls = decls; rounds = joined ++ last_round joined rest })
    → AllByRecursion IsShort (map decl_text decls ++ (joined_lines joined ++ map line_text rest))
    → steps no_parts (map decl_text decls ++ (joined_lines joined ++ map line_text rest)) ≡ Some (record { decls = decls; joined = joined; lines = rest })
unfolding steps
parts_by_rules decls joined rest rules short =
    let front = all_front (IsRound decls) joined (last_round joined rest) rules.rounds in
    let last = rest_by_rules decls joined rest (all_back (IsRound decls) joined (last_round joined rest) rules.rounds) in
    let few_lines = last.few_lines in
    let few_decls = rules.decls.few in
    let lines_short = all_back IsShort (map decl_text decls) (joined_lines joined ++ map line_text rest) short in
    let p : Parts = record { decls = decls; joined = joined; lines = [] } in
    decls_again [] decls (joined_lines joined ++ map line_text rest) (omega arith) rules.decls.each rules.decls.distinct (all_front IsShort (map decl_text decls) (joined_lines joined ++ map line_text rest) short)
    ∙ rounds_again decls [] joined (map line_text rest) rules.decls.each front (all_front IsShort (joined_lines joined) (map line_text rest) lines_short)
    ∙ ap (steps p) (sym (append-nil (map line_text rest)))
    ∙ lines_again p rest [] (omega arith) rules.decls.each last.lines (all_back IsShort (joined_lines joined) (map line_text rest) lines_short)

-- a script with this text is read
pub parts_from_text : (bytes : Bytes) (script : Script) → IsTextOf bytes script → (p : Parts) × (parts_of bytes ≡ Some p) × (script_from p ≡ script)
unfolding parts_of
parts_from_text bytes script is =
    let whole : script ≡ record { decls = script.decls; rounds = is.joined ++ last_round is.joined is.rest } =
    ap (λ (rounds : List Round). let s : Script = record { decls = script.decls; rounds = rounds } in s) is.rounds in (
      record { decls = script.decls; joined = is.joined; lines = is.rest },
      rw (le-ltb 67108864 (length bytes) is.size)
          (steps-filter no_parts (slice_split (λ b. b == 10) bytes) ∙ ap (steps no_parts) is.lines
          ∙ parts_by_rules script.decls is.joined is.rest (subst IsScript whole is.rules) (subst (AllByRecursion IsShort) is.lines is.short)),
      sym whole,
    )

-- one thing is found
some_is : (p q : Parts) (found : Option Parts) → found ≡ Some p → found ≡ Some q → p ≡ q
some_is p q found e f = cc

-- what is read is the script with this text
pub parts_are : (bytes : Bytes) (p : Parts) (script : Script) → parts_of bytes ≡ Some p → IsTextOf bytes script → script_from p ≡ script
parts_are bytes p script e is =
    let q = parts_from_text bytes script is in
    ap script_from (some_is p q.0 (parts_of bytes) e q.1) ∙ q.2

-- no script has a text that is refused
pub not_refused : (bytes : Bytes) (script : Script) → parts_of bytes ≡ None → IsTextOf bytes script → ⊥
not_refused bytes script e is = let q = parts_from_text bytes script is in let h = q.1 in cc
