-- What was read so far has the text of the lines that were read, by the rules of a script.
use Rattle.std.proofs.Common.{◌≡◌, ℕ, ◌<◌, ◌≤◌, Bool, true, false, cond, ltb, eqb, List, [], ◌∷◌, ◌++◌, length, Option, Some, None, refl, sym, ap, subst, ◌∙◌, append_assoc, arith, map, length-append}
use Rattle.std.specs.Prelude.{◌==◌, ◌&&◌, not, nat_lt, filter, codes}
use Rattle.std.specs.List.{AllByRecursion, list_all}
use Rattle.std.specs.Cmp.Lexicographic.{same_text}
use Rattle.std.proofs.lemmas.Bool.{ltb-true, ltb-false, lt-ltb, eqb-true, ne_eqb, and_parts}
use Rattle.std.proofs.lemmas.List.{append-nil, map_push, nil_from_length}
use Rattle.lists.specs.Each.{AreDistinct, all_push}
use Rattle.serial_model.specs.Keys.{id_of, fits}
use Rattle.serial_model.specs.Decls.{IsDecl}
use Rattle.serial_model.specs.declared.decl.Decl.{Decl}
use Rattle.script_grammar.specs.Script.{Bytes, Line, Worker, Keeper, Round, line_text, decl_text, joined_lines, IsLine, IsRound}
use Rattle.script_grammar.specs.Words.{◌>>=◌, is_join}
use Rattle.script_grammar.specs.Reading.{Parts, no_parts, decl_at, line_at, may_declare, may_follow, with_decl, with_line, with_join, with_some_line, is_fresh, begins_declaration, step, steps}
use Rattle.script_grammar.proofs.Found.{bind_some, test_some, not_test_some, some_same, not_false}
use Rattle.script_grammar.proofs.LineTexts.{IsSpelledLine, decl_takes, line_takes}
use Rattle.script_grammar.proofs.Rules.{is_declared, line_by_rules, distinct_push}

-- the lines of what was read
abbrev pub texts : Parts → List Bytes
texts p = map decl_text p.decls ++ (joined_lines p.joined ++ map line_text p.lines)

abbrev pub IsShort : Bytes → Type 0
IsShort line = length line ≤ 1024

-- what was read keeps the rules of a script
pub record IsSound (p : Parts) : Type 0 where
  pub few_decls : length p.decls ≤ 16
  pub decls : AllByRecursion IsDecl p.decls
  pub distinct : AreDistinct (map id_of p.decls)
  pub joined : AllByRecursion (IsRound p.decls) p.joined
  pub few_lines : length p.lines ≤ 65536
  pub lines : AllByRecursion (IsLine p.decls) p.lines
  pub short : AllByRecursion IsShort (texts p)

-- nothing read keeps the rules
pub nothing_sound : IsSound no_parts
nothing_sound = record { few_decls = omega arith; decls = tt; distinct = tt; joined = tt; few_lines = omega arith; lines = tt; short = tt }

-- one line more is at the end of the text
pub record Grows (p : Parts) (line : Bytes) (q : Parts) : Type 0 where
  pub sound : IsSound q
  pub text : texts q ≡ texts p ++ line ∷ []

-- a new declaration keeps the rules
with_decl-grows : (decls : List Decl) (d : Decl) (line : Bytes) → IsSound (record { decls = decls; joined = []; lines = [] }) → length line ≤ 1024 → line ≡ decl_text d → IsDecl d
    → length decls < 16 → is_declared d decls ≡ false → Grows (record { decls = decls; joined = []; lines = [] }) line (record { decls = decls ++ d ∷ []; joined = []; lines = [] })
with_decl-grows decls d line sound short e is room new =
    let before : Parts = record { decls = decls; joined = []; lines = [] } in
    let after : Parts = record { decls = decls ++ d ∷ []; joined = []; lines = [] } in
    let grown : texts after ≡ texts before ++ line ∷ [] =
    append-nil (map decl_text (decls ++ d ∷ [])) ∙ map_push decl_text decls d
    ∙ ap (λ (t : Bytes). map decl_text decls ++ t ∷ []) (sym e)
    ∙ ap (λ (ts : List Bytes). ts ++ line ∷ []) (sym (append-nil (map decl_text decls))) in
    record {
      sound = record {
        few_decls = omega (arith, length-append decls (d ∷ []));
        decls = all_push IsDecl decls d sound.decls is;
        distinct = distinct_push decls d sound.distinct new;
        joined = tt;
        few_lines = omega arith;
        lines = tt;
        short = subst (AllByRecursion IsShort) (sym grown) (all_push IsShort (texts before) line sound.short short);
      };
      text = grown;
    }

abbrev parts_are : List Decl → List Round → List Line → Parts
parts_are decls joined lines = record { decls = decls; joined = joined; lines = lines }

-- where no other line came, there are declarations alone
fresh_parts : (decls : List Decl) (joined : List Round) (lines : List Line) → joined ≡ [] → lines ≡ []
    → parts_are decls joined lines ≡ parts_are decls [] []
fresh_parts decls joined lines e f =
    ap (λ (rs : List Round). parts_are decls rs lines) e ∙ ap (parts_are decls []) f

-- a declaration that is taken is one more line of the text
with_decl_takes : (p q : Parts) (line : Bytes) → IsSound p → length line ≤ 1024 → with_decl p line ≡ Some q → Grows p line q
unfolding with_decl
with_decl_takes p q line sound short e =
    let a = bind_some (decl_at line) (λ d. cond (may_declare p d) (Some (record p { decls = p.decls ++ d ∷ [] })) None) q e in
    let d = a.0 in
    let t = test_some (may_declare p d) (record p { decls = p.decls ++ d ∷ [] }) q a.2 in
    let first = and_parts (is_fresh p) (nat_lt (length p.decls) 16 && not (is_declared d p.decls)) t.0 in
    let second = and_parts (nat_lt (length p.decls) 16) (not (is_declared d p.decls)) first.1 in
    let fresh = and_parts (length p.joined == 0) (length p.lines == 0) first.0 in
    let no_round : p.joined ≡ [] = nil_from_length p.joined (eqb-true _ _ fresh.0) in
    let none : p.lines ≡ [] = nil_from_length p.lines (eqb-true _ _ fresh.1) in
    let taken = decl_takes line d a.1 in
    let before : p ≡ record { decls = p.decls; joined = []; lines = [] } = fresh_parts p.decls p.joined p.lines no_round none in
    let after : record p { decls = p.decls ++ d ∷ [] } ≡ record { decls = p.decls ++ d ∷ []; joined = []; lines = [] } = fresh_parts (p.decls ++ d ∷ []) p.joined p.lines no_round none in
    let grown = with_decl-grows p.decls d line (subst IsSound before sound) short taken.0 taken.1 (ltb-true _ _ second.0) (not_false _ second.1) in
    subst (λ (x : Parts). Grows x line q) (sym before) (subst (Grows (record { decls = p.decls; joined = []; lines = [] }) line) (sym after ∙ t.1) grown)

-- what is added at the end is added to all
regroup_texts : (xs ys zs more : List Bytes) → xs ++ (ys ++ (zs ++ more)) ≡ (xs ++ (ys ++ zs)) ++ more
regroup_texts xs ys zs more = sym (append_assoc xs (ys ++ zs) more ∙ ap (λ (ts : List Bytes). xs ++ ts) (append_assoc ys zs more))

-- a line that may come here is one by the rules
line_follows : (p : Parts) (l : Line) → IsSpelledLine l → may_follow p l ≡ true → (length p.lines < 65536) × IsLine p.decls l
line_follows p (Worker worker ops) is test =
    let tests = and_parts (nat_lt (length p.lines) 65536) (list_all (fits p.decls) ops) test in
    (ltb-true _ _ tests.0, line_by_rules p.decls worker ops is tests.1)
line_follows p (Keeper line) is test = (ltb-true _ _ test, is)

-- a worker's line that is taken is one more line of the text
with_line_takes : (p q : Parts) (line : Bytes) → IsSound p → length line ≤ 1024 → with_line p line ≡ Some q → Grows p line q
unfolding with_line
with_line_takes p q line sound short e =
    let a = bind_some (line_at line) (λ l. cond (may_follow p l) (Some (record p { lines = p.lines ++ l ∷ [] })) None) q e in
    let l = a.0 in
    let after : Parts = record p { lines = p.lines ++ l ∷ [] } in
    let t = test_some (may_follow p l) after q a.2 in
    let taken = line_takes line l a.1 in
    let follows = line_follows p l taken.1 t.0 in
    let room = follows.0 in
    let grown : texts after ≡ texts p ++ line ∷ [] =
    ap (λ (ts : List Bytes). map decl_text p.decls ++ (joined_lines p.joined ++ ts)) (map_push line_text p.lines l ∙ ap (λ (x : Bytes). map line_text p.lines ++ x ∷ []) (sym taken.0))
    ∙ regroup_texts (map decl_text p.decls) (joined_lines p.joined) (map line_text p.lines) (line ∷ []) in
    subst (Grows p line) t.1 (record {
      sound = record {
        few_decls = sound.few_decls;
        decls = sound.decls;
        distinct = sound.distinct;
        joined = sound.joined;
        few_lines = omega (arith, length-append p.lines (l ∷ []));
        lines = all_push (IsLine p.decls) p.lines l sound.lines follows.1;
        short = subst (AllByRecursion IsShort) (sym grown) (all_push IsShort (texts p) line sound.short short);
      };
      text = grown;
    })

-- a round more, and its join
joined_lines-push : (rounds : List Round) (lines : List Line) → joined_lines (rounds ++ record { lines = lines } ∷ []) ≡ joined_lines rounds ++ (map line_text lines ++ codes "join" ∷ [])
joined_lines-push [] lines = refl
joined_lines-push (round ∷ rounds) lines =
    ap (λ (ts : List Bytes). map line_text round.lines ++ codes "join" ∷ ts) (joined_lines-push rounds lines)
    ∙ sym (append_assoc (map line_text round.lines) (codes "join" ∷ joined_lines rounds) (map line_text lines ++ codes "join" ∷ []))

-- a join that is taken is one more line of the text
with_join_takes : (p : Parts) (line : Bytes) → IsSound p → length line ≤ 1024 → is_join line ≡ true → Grows p line (with_join p)
with_join_takes p line sound short e =
    let same : line ≡ codes "join" = same_text line (codes "join") (sym e) in
    let grown : texts (with_join p) ≡ texts p ++ line ∷ [] =
    ap (λ (ts : List Bytes). map decl_text p.decls ++ ts) (append-nil (joined_lines (with_join p).joined) ∙ joined_lines-push p.joined p.lines)
    ∙ regroup_texts (map decl_text p.decls) (joined_lines p.joined) (map line_text p.lines) (codes "join" ∷ [])
    ∙ ap (λ (t : Bytes). texts p ++ t ∷ []) (sym same) in
    record {
      sound = record {
        few_decls = sound.few_decls;
        decls = sound.decls;
        distinct = sound.distinct;
        joined = all_push (IsRound p.decls) p.joined (record { lines = p.lines }) sound.joined (record { few_lines = sound.few_lines; lines = sound.lines });
        few_lines = omega arith;
        lines = tt;
        short = subst (AllByRecursion IsShort) (sym grown) (all_push IsShort (texts p) line sound.short short);
      };
      text = grown;
    }

-- the same for each kind of line
by_kind : (join is_decl : Bool) (p q : Parts) (line : Bytes) → IsSound p → length line ≤ 1024 → is_join line ≡ join
    → cond join (Some (with_join p)) (cond is_decl (with_decl p line) (with_line p line)) ≡ Some q → Grows p line q
by_kind true is_decl p q line sound short e found = subst (Grows p line) (some_same (with_join p) q found) (with_join_takes p line sound short e)
by_kind false true p q line sound short e found = with_decl_takes p q line sound short found
by_kind false false p q line sound short e found = with_line_takes p q line sound short found

-- lines that count
abbrev pub is_some_line : Bytes → Bool
is_some_line line = nat_lt 0 (length line)

-- a line that counts and is taken is one more line of the text
step_takes : (p q : Parts) (b : ℕ) (bs : Bytes) → IsSound p → step p (b ∷ bs) ≡ Some q → Grows p (b ∷ bs) q
unfolding step with_some_line
step_takes p q b bs sound e =
    let line : Bytes = b ∷ bs in
    let some : eqb (length line) 0 ≡ false = ne_eqb (length line) 0 (λ none. omega arith) in
    let some_line : Option Parts = cond (is_join line) (Some (with_join p)) (cond (begins_declaration line) (with_decl p line) (with_line p line)) in
    let found : cond (ltb 1024 (length line)) None some_line ≡ Some q = rw some at e in
    let t = not_test_some (ltb 1024 (length line)) some_line q found in
    by_kind (is_join line) (begins_declaration line) p q line sound (ltb-false _ _ t.0) refl t.1

-- an empty line changes nothing
pub step-nil : (p : Parts) → step p [] ≡ Some p
unfolding step
step-nil p = refl

-- the same goes on the same way
bind_same : (o : Option Parts) (f g : Parts → Option Parts) → ((q : Parts) → f q ≡ g q) → (o >>= f) ≡ (o >>= g)
bind_same None f g same = refl
bind_same (Some q) f g same = same q

-- empty lines count for nothing
pub steps-filter : (p : Parts) (lines : List Bytes) → steps p lines ≡ steps p (filter is_some_line lines)
unfolding steps
steps-filter p [] = refl
steps-filter p ([] ∷ lines) = rw (step-nil p) (steps-filter p lines)
steps-filter p ((b ∷ bs) ∷ lines) =
    let some : is_some_line (b ∷ bs) ≡ true = lt-ltb 0 (length (b ∷ bs)) (omega arith) in
    rw some (bind_same (step p (b ∷ bs)) (λ q. steps q lines) (λ q. steps q (filter is_some_line lines)) (λ q. steps-filter q lines))

-- the lines are at the end of the text
pub record Takes (p : Parts) (lines : List Bytes) (q : Parts) : Type 0 where
  pub sound : IsSound q
  pub text : texts q ≡ texts p ++ lines

-- lines that count and are taken are the text
pub steps_take : (p q : Parts) (lines : List Bytes) → IsSound p → AllByRecursion (λ line. 0 < length line) lines → steps p lines ≡ Some q → Takes p lines q
unfolding steps
steps_take p q [] sound some e = subst (Takes p []) (some_same p q e) (record { sound = sound; text = sym (append-nil (texts p)) })
steps_take p q ([] ∷ lines) sound some e = absurd (let h = some.0 in omega arith)
steps_take p q ((b ∷ bs) ∷ lines) sound some e =
    let a = bind_some (step p (b ∷ bs)) (λ r. steps r lines) q e in
    let first = step_takes p a.0 b bs sound a.1 in
    let others = steps_take a.0 q lines first.sound some.1 a.2 in
    record {
      sound = others.sound;
      text = others.text ∙ ap (λ (ts : List Bytes). ts ++ lines) first.text ∙ append_assoc (texts p) ((b ∷ bs) ∷ []) lines;
    }
