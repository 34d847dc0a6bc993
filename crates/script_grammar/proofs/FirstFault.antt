-- Where the reader stops is the first faulty line.
use Rattle.std.proofs.Common.{◌≡◌, ℕ, suc, ◌+◌, Bool, true, false, cond, eqb, ltb, List, [], ◌∷◌, ◌++◌, length, Option, Some, None, Result, Ok, Err, refl, sym, ap, subst, ◌∙◌, arith}
use Rattle.std.specs.Prelude.{◌==◌, codes}
use Rattle.std.specs.Cmp.Lexicographic.{same_text}
use Rattle.std.specs.List.{slice_split}
use Rattle.std.proofs.lemmas.Bool.{ltb-false, ne_eqb}
use Rattle.lists.specs.declared.memory.OrMemory.{OrMemory}
use Rattle.lists.specs.declared.memory.OrMemory.TheVariants as errors
use Rattle.script_grammar.specs.declared.fault.ScriptFault.{ScriptFault}
use Rattle.script_grammar.specs.declared.fault.FaultKind.{FaultKind}
use Rattle.script_grammar.specs.Script.{Bytes, Script, IsTextOf}
use Rattle.script_grammar.specs.Words.{is_join}
use Rattle.script_grammar.specs.Reading.{Parts, no_parts, decl_at, line_at, may_declare, may_follow, with_decl, with_line, with_join, with_some_line, begins_declaration, step, steps, parts_of, FindsOrTells, Gives}
use Rattle.script_grammar.specs.Faults.{LinePlace, place_after, place_past, first_place, kind_of, fault_or, first_fault, fault_of, IsFirstFault}
use Rattle.script_grammar.specs.Front.{LeavesOthers}
use Rattle.script_grammar.proofs.Found.{bind_some, test_some, not_test_some, some_same}
use Rattle.script_grammar.proofs.LineTexts.{decl_takes, line_takes}
use Rattle.script_grammar.proofs.StepTexts.{IsShort}
use Rattle.script_grammar.proofs.Texts.{not_refused}
use Rattle.script_grammar.proofs.LineTests.{Passes, passes_line, passes_decl, passes_join, passes_empty}

-- ---- lines that are read

decl_passes : (p q : Parts) (line : Bytes) → IsShort line → with_decl p line ≡ Some q → Passes p line q
unfolding with_decl
decl_passes p q line short e =
    let a = bind_some (decl_at line) (λ d. cond (may_declare p d) (Some (record p { decls = p.decls ++ d ∷ [] })) None) q e in
    let d = a.0 in
    let t = test_some (may_declare p d) (record p { decls = p.decls ++ d ∷ [] }) q a.2 in
    let taken = decl_takes line d a.1 in
    subst (Passes p line) t.1
    (subst (λ (text : Bytes). Passes p text (record p { decls = p.decls ++ d ∷ [] })) (sym taken.0) (passes_decl p d taken.1 (subst IsShort taken.0 short) t.0))

line_passes : (p q : Parts) (line : Bytes) → IsShort line → with_line p line ≡ Some q → Passes p line q
unfolding with_line
line_passes p q line short e =
    let a = bind_some (line_at line) (λ l. cond (may_follow p l) (Some (record p { lines = p.lines ++ l ∷ [] })) None) q e in
    let l = a.0 in
    let t = test_some (may_follow p l) (record p { lines = p.lines ++ l ∷ [] }) q a.2 in
    let taken = line_takes line l a.1 in
    subst (Passes p line) t.1
    (subst (λ (text : Bytes). Passes p text (record p { lines = p.lines ++ l ∷ [] })) (sym taken.0) (passes_line p l taken.1 (subst IsShort taken.0 short) t.0))

join_passes : (p q : Parts) (line : Bytes) → is_join line ≡ true → with_join p ≡ q → Passes p line q
join_passes p q line e same =
    subst (Passes p line) same (subst (λ (text : Bytes). Passes p text (with_join p)) (sym (same_text line (codes "join") (sym e))) (passes_join p))

by_kind : (join is_decl : Bool) (p q : Parts) (line : Bytes) → IsShort line → is_join line ≡ join → cond join (Some (with_join p)) (cond is_decl (with_decl p line) (with_line p line)) ≡ Some q
    → Passes p line q
by_kind true is_decl p q line short e found = join_passes p q line e (some_same (with_join p) q found)
by_kind false true p q line short e found = decl_passes p q line short found
by_kind false false p q line short e found = line_passes p q line short found

-- in a line that is read no test finds a fault
step_passes : (p q : Parts) (line : Bytes) → step p line ≡ Some q → Passes p line q
unfolding step with_some_line
step_passes p q [] e = subst (Passes p []) (some_same p q e) (passes_empty p)
step_passes p q (b ∷ bs) e =
    let line : Bytes = b ∷ bs in
    let some : eqb (length line) 0 ≡ false = ne_eqb (length line) 0 (λ none. omega arith) in
    let some_line : Option Parts = cond (is_join line) (Some (with_join p)) (cond (begins_declaration line) (with_decl p line) (with_line p line)) in
    let found : cond (ltb 1024 (length line)) None some_line ≡ Some q = rw some at e in
    let t = not_test_some (ltb 1024 (length line)) some_line q found in
    by_kind (is_join line) (begins_declaration line) p q line (ltb-false _ _ t.0) refl t.1

-- ---- the first faulty line

-- where no test finds a fault in a line, the fault is a later one's
later_fault : (number : ℕ) (place next : LinePlace) (line : Bytes) (lines : List Bytes) → kind_of place line ≡ None → place_past place line ≡ next → first_fault number place (line ∷ lines) ≡ first_fault (number + 1) next lines
unfolding first_fault
later_fault number place next line lines e f = rw (e, f) refl

-- a line with a kind of fault is the first
here_fault : (kind : Option FaultKind) (number : ℕ) (later : Option ScriptFault) (fault : ScriptFault) → fault_or kind number None ≡ Some fault → fault_or kind number later ≡ Some fault
here_fault (Some told) number later fault e = e
here_fault None number later fault e = absurd cc

-- the lines so far were read, and what comes of all comes of the others, of which the first has this number
pub record AreReadSoFar (lines rest : List Bytes) (number : ℕ) (p : Parts) : Type 0 where
  pub parts : steps no_parts lines ≡ steps p rest
  pub fault : first_fault 1 first_place lines ≡ first_fault number (place_after p) rest

-- at the start
pub no_line_yet : (lines : List Bytes) → AreReadSoFar lines lines 1 no_parts
no_line_yet lines = record { parts = refl; fault = refl }

-- a line that is read leaves the others
step_steps : (p q : Parts) (line : Bytes) (more : List Bytes) → step p line ≡ Some q → steps p (line ∷ more) ≡ steps q more
unfolding steps
step_steps p q line more e = rw e refl

-- a line that is refused refuses all
step_none : (p : Parts) (line : Bytes) (more : List Bytes) → step p line ≡ None → steps p (line ∷ more) ≡ None
unfolding steps
step_none p line more e = rw e refl

-- after no line there is what was read
steps_end : (p q : Parts) (line : Bytes) → step p line ≡ Some q → steps p (line ∷ []) ≡ Some q
unfolding steps
steps_end p q line e = rw e refl

-- one line more
pub line_read : (lines rest : List Bytes) (number : ℕ) (p q : Parts) (line : Bytes) (more : List Bytes) → rest ≡ line ∷ more → step p line ≡ Some q → AreReadSoFar lines rest number p
    → AreReadSoFar lines more (number + 1) q
line_read lines rest number p q line more cut e so_far =
    let passes = step_passes p q line e in
    record {
      parts = so_far.parts ∙ ap (steps p) cut ∙ step_steps p q line more e;
      fault = so_far.fault ∙ ap (first_fault number (place_after p)) cut ∙ later_fault number (place_after p) (place_after q) line more passes.kind passes.past;
    }

-- some lines more
pub lines_read : (lines : List Bytes) (number : ℕ) (p q : Parts) (these more : List Bytes) → steps p these ≡ Some q → AreReadSoFar lines (these ++ more) number p
    → AreReadSoFar lines more (number + length these) q
unfolding steps
lines_read lines number p q [] more e so_far =
    let here : number ≡ number + 0 = omega arith in
    subst (λ (n : ℕ). AreReadSoFar lines more n q) here (subst (AreReadSoFar lines more number) (some_same p q e) so_far)
lines_read lines number p q (line ∷ these) more e so_far =
    let a = bind_some (step p line) (λ r. steps r these) q e in
    let next : number + 1 + length these ≡ number + suc (length these) = omega arith in
    subst (λ (n : ℕ). AreReadSoFar lines more n q) next
    (lines_read lines (number + 1) a.0 q these more a.2 (line_read lines (line ∷ (these ++ more)) number p a.0 line (these ++ more) refl a.1 so_far))

-- the first lines of what is left
pub front_read : (lines : List Bytes) (rest others : Bytes) (number count : ℕ) (p q : Parts) → LeavesOthers rest others p q count → AreReadSoFar lines (slice_split (λ b. b == 10) rest) number p
    → AreReadSoFar lines (slice_split (λ b. b == 10) others) (number + count) q
front_read lines rest others number count p q leaves so_far =
    let split : Bytes → List Bytes = slice_split (λ b. b == 10) in
    subst (λ (n : ℕ). AreReadSoFar lines (split others) (number + n) q) (sym leaves.counted)
    (lines_read lines number p q leaves.lines (split others) leaves.read (subst (λ (ls : List Bytes). AreReadSoFar lines ls number p) leaves.cut so_far))

-- the reader stops at this line
pub stops : (X : Type 0) (answer : OrMemory ScriptFault) (lines rest : List Bytes) (number : ℕ) (p q r : Parts) (line : Bytes) (more : List Bytes) → rest ≡ line ∷ more
    → FindsOrTells {X = X} (Err answer) (step p line) (fault_or (kind_of (place_after p) line) number None) q → AreReadSoFar lines rest number p
    → FindsOrTells {X = X} (Err answer) (steps no_parts lines) (first_fault 1 first_place lines) r
unfolding first_fault
stops X errors.Memory lines rest number p q r line more cut told so_far = tt
stops X (errors.Fault fault) lines rest number p q r line more cut told so_far = (
  so_far.parts ∙ ap (steps p) cut ∙ step_none p line more told.0,
  so_far.fault ∙ ap (first_fault number (place_after p)) cut
      ∙ here_fault (kind_of (place_after p) line) number (first_fault (number + 1) (place_past (place_after p) line) more) fault told.1,
)

-- the last line decides
pub last_line : {X : Type 0} (result : Result X (OrMemory ScriptFault)) (lines rest : List Bytes) (number : ℕ) (p q : Parts) (line : Bytes) → rest ≡ line ∷ []
    → FindsOrTells result (step p line) (fault_or (kind_of (place_after p) line) number None) q → AreReadSoFar lines rest number p
    → FindsOrTells result (steps no_parts lines) (first_fault 1 first_place lines) q
last_line {X} (Ok x) lines rest number p q line cut read so_far = so_far.parts ∙ ap (steps p) cut ∙ steps_end p q line read
last_line {X} (Err answer) lines rest number p q line cut told so_far = stops X answer lines rest number p q q line [] cut told so_far

-- ---- what the reader answers

-- the fault that is answered is the first
pub told_first : (X Y : Type 0) (bytes : Bytes) (answer : OrMemory ScriptFault) (q : Parts) (fault : ScriptFault) → FindsOrTells {X = X} (Err answer) (parts_of bytes) (fault_of bytes) q
    → ◌≡◌ {A = Result Y (OrMemory ScriptFault)} (Err answer) (Err (errors.Fault fault)) → IsFirstFault bytes fault
told_first X Y bytes errors.Memory q fault told e = absurd cc
told_first X Y bytes (errors.Fault f) q fault told e =
    let same : f ≡ fault = cc in
    told.1 ∙ ap Some same

-- no script has the text of a source with a fault
pub gives_none : (X : Type 0) (bytes : Bytes) (answer : OrMemory ScriptFault) (q : Parts) (script : Script) → FindsOrTells {X = X} (Err answer) (parts_of bytes) (fault_of bytes) q → IsTextOf bytes script
    → Gives script (Err answer)
gives_none X bytes errors.Memory q script told is = tt
gives_none X bytes (errors.Fault f) q script told is = not_refused bytes script told.0 is
