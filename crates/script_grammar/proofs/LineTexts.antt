-- A line that is read is spelled so, and what is spelled so is read.
use Rattle.std.proofs.Common.{◌≡◌, inl, inr, ℕ, ◌+◌, ◌<◌, ◌≤◌, ◌^◌, Bool, true, false, cond, ltb, leb, eqb, List, [], ◌∷◌, ◌++◌, length, map, get_or, Option, Some, None, refl, sym, ap, subst, ◌∙◌, append_assoc, arith}
use Rattle.std.specs.Prelude.{◌&&◌, codes, nat_lt, nat_le, ⊤}
use Rattle.std.specs.Char.{is_ascii_digit}
use Rattle.std.specs.Cmp.Lexicographic.{same_text}
use Rattle.std.specs.Fmt.{decimal}
use Rattle.std.specs.List.{AllByRecursion, after_first, join_with_byte, position_or_len}
use Rattle.std.specs.Str.Parse.{AllDigits}
use Rattle.std.proofs.lemmas.Bool.{ltb-true, ltb-false, lt-ltb, leb-true, le-leb, eqb-true, ne_eqb, and_parts}
use Rattle.std.proofs.lemmas.Fmt.{decimal_digit}
use Rattle.std.proofs.lemmas.List.{drop_all}
use Rattle.std.proofs.lemmas.List.Sums.{split_at_first, passes_at_first}
use Rattle.decimals.specs.Numbers.{number_of}
use Rattle.decimals.specs.Digits.{cases_on, is_digit}
use Rattle.decimals.specs.Laws.{number_of_takes, number_of_again}
use Rattle.serial_model.specs.Decls.{IsDecl}
use Rattle.serial_model.specs.declared.decl.Decl.{Decl}
use Rattle.serial_model.specs.declared.decl.Decl.TheVariants.{Array, Tree}
use Rattle.serial_model.specs.declared.op.Op.{Op}
use Rattle.script_grammar.specs.declared.lines.KeeperLine.{KeeperLine}
use Rattle.script_grammar.specs.declared.lines.KeeperLine.TheVariants.{Epoch, Save, Glean, Drop}
use Rattle.script_grammar.specs.Script.{Bytes, Line, Worker, Keeper, op_text, ops_text, keeper_text, line_text, decl_text}
use Rattle.script_grammar.specs.Words.{◌>>=◌, words, parts, is_word, is_space, is_worker_line, worker_word, op_parts}
use Rattle.script_grammar.specs.Reading.{ops_in, few_of, few_ops_in, worker_in, transaction_at, begins_keeper, keeper_in, line_at, array_in, tree_in, decl_in, decl_at}
use Rattle.script_grammar.proofs.Found.{bind_some, test_some, chosen, some_same}
use Rattle.script_grammar.proofs.Parts.{parts_cons}
use Rattle.script_grammar.proofs.WordTexts.{digits_of, words_join, words_last, words_two}
use Rattle.script_grammar.proofs.OpTexts.{IsSpelled, ops_take, ops_again}
use Rattle.script_grammar.proofs.PartTexts.{joined_ops, joined_parts, joined_texts, parts_texts}

-- ---- workers' lines

-- 1 to 16 operations that have a spelling
pub record AreSpelled (ops : List Op) : Type 0 where
  pub some : 0 < length ops
  pub few : length ops ≤ 16
  pub each : AllByRecursion IsSpelled ops

-- a line of a worker from 0 to 7 whose operations have a spelling, or one of the maintenance thread
abbrev pub IsSpelledLine : Line → Type 0
IsSpelledLine (Worker worker ops) = (worker < 8) × AreSpelled ops
IsSpelledLine (Keeper line) = ⊤

-- a worker that is read is spelled so
worker_takes : (word : Bytes) (w : ℕ) → worker_in word ≡ Some w → (word ≡ decimal w) × (w < 8)
worker_takes word w e =
    let a = bind_some (number_of word) (λ n. cond (ltb n 8) (Some n) None) w e in
    let t = test_some (ltb a.0 8) a.0 w a.2 in
    subst (λ (n : ℕ). (word ≡ decimal n) × (n < 8)) t.1 ((number_of_takes word a.0 a.1).0, ltb-true _ _ t.0)

-- at most 16 are few
few_takes : (ops few : List Op) → few_of ops ≡ Some few → (ops ≡ few) × (length few ≤ 16)
few_takes ops few e =
    let t = test_some (leb (length ops) 16) ops few e in
    (t.1, subst (λ (os : List Op). length os ≤ 16) t.1 (leb-true _ _ t.0))

-- without a byte there is no operation
no_op : (rest : Bytes) (ops : List Op) → rest ≡ [] → ops_in (parts rest) ≡ Some ops → ⊥
no_op rest ops none e = let h = rw none at e in cc

-- there is some part
some_ops : (rest : Bytes) (ops : List Op) → parts rest ≡ map op_text ops → 0 < length ops
some_ops rest [] e = let first = parts_cons rest in let h = sym first.2 ∙ e in absurd cc
some_ops rest (op ∷ ops) e = omega arith

-- a line is cut at its first space, where there are operations
cut_at_space : (line : Bytes) (ops : List Op) → ops_in (op_parts line) ≡ Some ops → line ≡ worker_word line ++ (32 ∷ after_first is_space line)
cut_at_space line ops e =
    let pos : ℕ = position_or_len is_space line in
    elim (cases_on (ltb pos (length line))) [
      | inl here ↦
          let within : pos < length line = ltb-true pos (length line) here in
          let space : get_or line pos 0 ≡ 32 = eqb-true (get_or line pos 0) 32 (passes_at_first is_space line 0 within) in
          split_at_first is_space line 0 within ∙ ap (λ (k : ℕ). worker_word line ++ (k ∷ after_first is_space line)) space
      | inr past ↦
          let far : length line ≤ pos = ltb-false pos (length line) past in
          absurd (no_op (after_first is_space line) ops (drop_all (pos + 1) line (omega arith)) e)
    ]

-- a worker's line that is read is spelled so
pub transaction_takes : (bs : Bytes) (l : Line) → transaction_at bs ≡ Some l → (bs ≡ line_text l) × IsSpelledLine l
unfolding transaction_at
transaction_takes bs l e =
    let a = bind_some (worker_in (worker_word bs)) (λ w. few_ops_in (op_parts bs) >>= (λ ops. Some (Worker w ops))) l e in
    let b = bind_some (few_ops_in (op_parts bs)) (λ ops. Some (Worker a.0 ops)) l a.2 in
    let d = bind_some (ops_in (op_parts bs)) few_of b.0 b.1 in
    let few = few_takes d.0 b.0 d.2 in
    let found : ops_in (op_parts bs) ≡ Some b.0 = d.1 ∙ ap Some few.0 in
    let w = worker_takes (worker_word bs) a.0 a.1 in
    let o = ops_take (op_parts bs) b.0 found in
    let rest : after_first is_space bs ≡ ops_text b.0 = sym (joined_parts (after_first is_space bs)) ∙ ap joined_ops o.0 ∙ joined_texts b.0 in
    subst (λ (x : Line). (bs ≡ line_text x) × IsSpelledLine x) (some_same (Worker a.0 b.0) l b.2) (
      cut_at_space bs b.0 found ∙ ap (λ (t : Bytes). t ++ (32 ∷ after_first is_space bs)) w.0 ∙ ap (λ (t : Bytes). decimal a.0 ++ (32 ∷ t)) rest
          ∙ sym (append_assoc (decimal a.0) (32 ∷ []) (ops_text b.0)),
      (w.1, record { some = some_ops (after_first is_space bs) b.0 o.0; few = few.1; each = o.1 }),
    )

-- what a worker's line begins with
pub record BeginsLine (line : Bytes) (worker : ℕ) (ops : List Op) : Type 0 where
  pub worker_line : is_worker_line line ≡ true
  pub number_is : number_of (worker_word line) ≡ Some worker
  pub ops_are : op_parts line ≡ map op_text ops

begins_line : (b : ℕ) (rest : Bytes) (worker : ℕ) (ops : List Op) → eqb b 32 ≡ false → is_ascii_digit b ≡ true → number_of (b ∷ []) ≡ Some worker → parts rest ≡ map op_text ops
    → BeginsLine (b ∷ 32 ∷ rest) worker ops
begins_line b rest worker ops no_space digit n are =
    let at : position_or_len is_space (b ∷ 32 ∷ rest) ≡ 1 = rw no_space (omega arith) in
    record {
      worker_line = digit;
      number_is = rw at n;
      ops_are = rw at are;
    }

ops_parts : (ops : List Op) → AreSpelled ops → parts (ops_text ops) ≡ map op_text ops
ops_parts [] are = let some = are.some in absurd (omega arith)
ops_parts (op ∷ ops) are = parts_texts op ops are.each.0 are.each.1

-- the text of a line of a worker begins so
pub line_begins_so : (worker : ℕ) (ops : List Op) → worker < 8 → AreSpelled ops → BeginsLine (line_text (Worker worker ops)) worker ops
line_begins_so worker ops below are =
    let one : decimal worker ≡ (48 + worker) ∷ [] = decimal_digit worker (omega arith) in
    let digit : line_text (Worker worker ops) ≡ (48 + worker) ∷ 32 ∷ ops_text ops = rw one refl in
    let all = subst (AllDigits 10) one (digits_of worker (omega arith)) in
    subst (λ (t : Bytes). BeginsLine t worker ops) (sym digit)
    (begins_line (48 + worker) (ops_text ops) worker ops (ne_eqb (48 + worker) 32 (λ same. omega arith)) (is_digit (48 + worker) all.0)
    (ap number_of (sym one) ∙ number_of_again worker (omega arith)) (ops_parts ops are))

-- a worker's line doesn't begin as one of the maintenance thread
no_keeper : (line : Bytes) → is_worker_line line ≡ true → begins_keeper line ≡ false
no_keeper [] e = refl
no_keeper (b ∷ bs) e =
    elim (cases_on (eqb b 107)) [
      | inl same ↦ absurd (let h = rw (eqb-true b 107 same) at e in cc)
      | inr other ↦ other
    ]

-- what is read of a line that doesn't begin as one of the maintenance thread
pub of_worker : (line : Bytes) (found : Option Line) → begins_keeper line ≡ false → transaction_at line ≡ found → line_at line ≡ found
unfolding line_at
of_worker line found other e = rw other e

transaction_found : (line : Bytes) (worker : ℕ) (ops : List Op) → number_of (worker_word line) ≡ Some worker → worker < 8 → ops_in (op_parts line) ≡ Some ops → length ops ≤ 16
    → transaction_at line ≡ Some (Worker worker ops)
unfolding transaction_at
transaction_found line worker ops number_is below found few = rw (number_is, lt-ltb worker 8 below, found, le-leb (length ops) 16 few) refl

-- a line that begins so is read
pub line_found : (line : Bytes) (worker : ℕ) (ops : List Op) → is_worker_line line ≡ true → number_of (worker_word line) ≡ Some worker → worker < 8 → ops_in (op_parts line) ≡ Some ops → length ops ≤ 16
    → line_at line ≡ Some (Worker worker ops)
line_found line worker ops begins number_is below found few =
    of_worker line (Some (Worker worker ops)) (no_keeper line begins) (transaction_found line worker ops number_is below found few)

-- ---- lines of the maintenance thread

-- the words decide what is asked for
keeper_by_words : (line : Bytes) (asked : KeeperLine) (epoch save glean drop : Bool) → is_word (codes "k epoch") line ≡ epoch
    → is_word (codes "k save") line ≡ save → is_word (codes "k glean") line ≡ glean → is_word (codes "k drop") line ≡ drop
    → cond epoch (Some Epoch) (cond save (Some Save) (cond glean (Some Glean) (cond drop (Some Drop) None))) ≡ Some asked
    → line ≡ keeper_text asked
keeper_by_words line asked true save glean drop e f g h found =
    subst (λ (a : KeeperLine). line ≡ keeper_text a) (some_same Epoch asked found) (same_text line (codes "k epoch") (sym e))
keeper_by_words line asked false true glean drop e f g h found =
    subst (λ (a : KeeperLine). line ≡ keeper_text a) (some_same Save asked found) (same_text line (codes "k save") (sym f))
keeper_by_words line asked false false true drop e f g h found =
    subst (λ (a : KeeperLine). line ≡ keeper_text a) (some_same Glean asked found) (same_text line (codes "k glean") (sym g))
keeper_by_words line asked false false false true e f g h found =
    subst (λ (a : KeeperLine). line ≡ keeper_text a) (some_same Drop asked found) (same_text line (codes "k drop") (sym h))
keeper_by_words line asked false false false false e f g h found = absurd cc

-- a line of the maintenance thread that is read is spelled so
keeper_takes : (line : Bytes) (asked : KeeperLine) → keeper_in line ≡ Some asked → line ≡ keeper_text asked
keeper_takes line asked e = keeper_by_words line asked (is_word (codes "k epoch") line) (is_word (codes "k save") line)
    (is_word (codes "k glean") line) (is_word (codes "k drop") line) refl refl refl refl e

-- and what is spelled so is read
keeper_again : (asked : KeeperLine) → line_at (keeper_text asked) ≡ Some (Keeper asked)
unfolding line_at
keeper_again Epoch = refl
keeper_again Save = refl
keeper_again Glean = refl
keeper_again Drop = refl

-- ---- both kinds of lines

takes_by_letter : (keeper : Bool) (bs : Bytes) (l : Line) → cond keeper (keeper_in bs >>= (λ asked. Some (Keeper asked))) (transaction_at bs) ≡ Some l → (bs ≡ line_text l) × IsSpelledLine l
takes_by_letter true bs l e =
    let a = bind_some (keeper_in bs) (λ asked. Some (Keeper asked)) l e in
    subst (λ (x : Line). (bs ≡ line_text x) × IsSpelledLine x) (some_same (Keeper a.0) l a.2) (keeper_takes bs a.0 a.1, tt)
takes_by_letter false bs l e = transaction_takes bs l e

-- a line that is read is spelled so
pub line_takes : (bs : Bytes) (l : Line) → line_at bs ≡ Some l → (bs ≡ line_text l) × IsSpelledLine l
unfolding line_at
line_takes bs l e = takes_by_letter (begins_keeper bs) bs l e

-- a spelled line is read again
pub line_again : (l : Line) → IsSpelledLine l → line_at (line_text l) ≡ Some l
line_again (Worker worker ops) is =
    let begins = line_begins_so worker ops is.0 is.1 in
    line_found (line_text (Worker worker ops)) worker ops begins.worker_line begins.number_is is.0 (ap ops_in begins.ops_are ∙ ops_again ops is.1.each) is.1.few
line_again (Keeper line) is = keeper_again line

-- ---- declarations

-- the text of an array's words
array_joined : (word id size : Bytes) (i n : ℕ) → word ≡ codes "array" → id ≡ decimal i → size ≡ decimal n → join_with_byte 32 (word ∷ id ∷ size ∷ []) ≡ decl_text (Array i n)
array_joined word id size i n e f g = rw (e, f, g) (ap (λ (r : Bytes). codes "array " ++ r) (sym (append_assoc (decimal i) (32 ∷ []) (decimal n))))

-- the text of a tree's words
tree_joined : (word id : Bytes) (i : ℕ) → word ≡ codes "tree" → id ≡ decimal i → join_with_byte 32 (word ∷ id ∷ []) ≡ decl_text (Tree i)
tree_joined word id i e f = rw (e, f) refl

-- a declaration's words that are read are spelled so
decl_words_take : (ws : List Bytes) (d : Decl) → decl_in ws ≡ Some d → (join_with_byte 32 ws ≡ decl_text d) × IsDecl d
decl_words_take [] d e = absurd cc
decl_words_take (word ∷ []) d e = absurd cc
decl_words_take (word ∷ id ∷ []) d e =
    let c = chosen (is_word (codes "tree") word) (number_of id >>= tree_in) d e in
    let a = bind_some (number_of id) tree_in d c.1 in
    let t = test_some (nat_lt a.0 256) (Tree a.0) d a.2 in
    let same : word ≡ codes "tree" = same_text word (codes "tree") (sym c.0) in
    subst (λ (x : Decl). (join_with_byte 32 (word ∷ id ∷ []) ≡ decl_text x) × IsDecl x) t.1
    (tree_joined word id a.0 same (number_of_takes id a.0 a.1).0, ltb-true _ _ t.0)
decl_words_take (word ∷ id ∷ size ∷ []) d e =
    let c = chosen (is_word (codes "array") word) (number_of id >>= (λ i. number_of size >>= array_in i)) d e in
    let a = bind_some (number_of id) (λ i. number_of size >>= array_in i) d c.1 in
    let b = bind_some (number_of size) (array_in a.0) d a.2 in
    let t = test_some (nat_lt a.0 256 && (nat_lt 0 b.0 && nat_le b.0 131072)) (Array a.0 b.0) d b.2 in
    let first = and_parts (nat_lt a.0 256) (nat_lt 0 b.0 && nat_le b.0 131072) t.0 in
    let second = and_parts (nat_lt 0 b.0) (nat_le b.0 131072) first.1 in
    let some : 0 < b.0 = ltb-true _ _ second.0 in
    let same : word ≡ codes "array" = same_text word (codes "array") (sym c.0) in
    subst (λ (x : Decl). (join_with_byte 32 (word ∷ id ∷ size ∷ []) ≡ decl_text x) × IsDecl x) t.1 (
      array_joined word id size a.0 b.0 same (number_of_takes id a.0 a.1).0 (number_of_takes size b.0 b.1).0,
      (ltb-true _ _ first.0, omega arith, leb-true _ _ second.1),
    )
decl_words_take (word ∷ id ∷ size ∷ more ∷ ws) d e = absurd cc

-- a declaration that is read is spelled so
pub decl_takes : (bs : Bytes) (d : Decl) → decl_at bs ≡ Some d → (bs ≡ decl_text d) × IsDecl d
unfolding decl_at
decl_takes bs d e = let t = decl_words_take (words bs) d e in (words_join bs (words bs) refl ∙ t.0, t.1)

-- a tree's words
pub words_tree : (id : ℕ) → id < 2 ^ 64 → words (decl_text (Tree id)) ≡ codes "tree" ∷ decimal id ∷ []
words_tree id lt = rw (words_last (decimal id) (digits_of id lt)) refl

-- an array's words
pub words_array : (id size : ℕ) → id < 2 ^ 64 → size < 2 ^ 64 → words (decl_text (Array id size)) ≡ codes "array" ∷ decimal id ∷ decimal size ∷ []
words_array id size lt small =
    ap (λ (r : Bytes). words (codes "array " ++ r)) (append_assoc (decimal id) (32 ∷ []) (decimal size)) ∙ rw (words_two id size lt small) refl

-- a spelled declaration is read again
pub decl_again : (d : Decl) → IsDecl d → decl_at (decl_text d) ≡ Some d
unfolding decl_at
decl_again (Array id size) is =
    let below = is.0 in
    let limit = is.2 in
    let some : 0 < size = let one = is.1 in omega arith in
    rw (
      words_array id size (omega arith) (omega arith),
      number_of_again id (omega arith),
      number_of_again size (omega arith),
      lt-ltb id 256 is.0,
      lt-ltb 0 size some,
      le-leb size 131072 is.2,
    ) refl
decl_again (Tree id) is =
    let below : id < 256 = is in
    rw (words_tree id (omega arith), number_of_again id (omega arith), lt-ltb id 256 is) refl
