-- The text that is made is one of a script.
use Rattle.std.proofs.Common.{◌≡◌, ◌∙◌, sym, ap, ap₂, subst, refl, ℕ, ◌+◌, ◌*◌, ◌%◌, ◌<◌, ◌≤◌, ◌^◌, ◌==◌, Bool, true, false, List, [], ◌∷◌, ◌++◌, length, map, nat_lt, cond, arith, append_assoc, length-append, mod-lt, lit<}
use Rattle.std.specs.Prelude.{codes, filter, flat_map}
use Rattle.std.specs.List.{All, AllByRecursion, range_with_len, slice_split}
use Rattle.std.proofs.lemmas.List.Elements.{All-cons, All-nil}
use Rattle.std.specs.Fmt.{digits}
use Rattle.std.proofs.lemmas.Bool.{lt-ltb}
use Rattle.std.proofs.lemmas.List.{length-map}
use Rattle.std.proofs.lemmas.List.FromFn.{length-range_with_len}
use Rattle.std.proofs.lemmas.List.Splits.{slice_split_at}
use Rattle.serial_model.specs.declared.decl.Decl.{Decl}
use Rattle.serial_model.specs.declared.decl.Decl.TheVariants.{Array, Tree}
use Rattle.script_grammar.specs.Script.{Bytes, IsLine, IsTextOf, decl_text, lines_of, line_text as spelled_line}
use Rattle.script_maker.specs.Generator.{draw, made_line, script_text}
use Rattle.script_maker.specs.Made.{script_of, transaction}
use Rattle.script_maker.proofs.MadeLines.{IsNoNewline, IsOneLine, body, body_is_one_line, length-body, line_is_body, spelled_is_body}

-- ---- lines that are cut at newlines

all_of : (P : ℕ → Type 0) (xs : List ℕ) → AllByRecursion P xs → All P xs
all_of P [] all = All-nil P
all_of P (x ∷ xs) all = All-cons P x xs all.0 (all_of P xs all.1)

-- a text that is one line, with some bytes, and not too many
pub record IsBody (bytes : Bytes) : Type 0 where
  pub one_line : IsOneLine bytes
  pub some : 0 < length bytes
  pub few : length bytes ≤ 31

abbrev newline : ℕ → Bool
newline b = b == 10

abbrev some_bytes : Bytes → Bool
some_bytes line = nat_lt 0 (length line)

abbrev with_newline : Bytes → Bytes
with_newline line = line ++ 10 ∷ []

split_lines : (lines : List Bytes) → AllByRecursion IsBody lines → slice_split newline (flat_map with_newline lines) ≡ lines ++ [] ∷ []
split_lines [] all = refl
split_lines (line ∷ lines) all =
    ap (slice_split newline) (append_assoc line (10 ∷ []) (flat_map with_newline lines))
    ∙ slice_split_at newline line 10 (flat_map with_newline lines) (all_of IsNoNewline line all.0.one_line) refl
    ∙ ap (λ (ls : List Bytes). line ∷ ls) (split_lines lines all.1)

keeps : (b : Bool) (line : Bytes) (lines : List Bytes) → b ≡ true → cond b (line ∷ lines) lines ≡ line ∷ lines
keeps true line lines e = refl
keeps false line lines e = absurd cc

some_lines : (lines : List Bytes) → AllByRecursion IsBody lines → filter some_bytes (lines ++ [] ∷ []) ≡ lines
some_lines [] all = refl
some_lines (line ∷ lines) all =
    keeps (nat_lt 0 (length line)) line (filter some_bytes (lines ++ [] ∷ [])) (lt-ltb 0 (length line) all.0.some)
    ∙ ap (λ (ls : List Bytes). line ∷ ls) (some_lines lines all.1)

-- ---- the lines that are made

module _ (seed workers : ℕ) where
  abbrev pub body_of : ℕ → Bytes
  body_of line = body (line % workers) (draw seed (2 * line) % 1024) (draw seed (2 * line + 1) % 512)

  abbrev pub bodies : List ℕ → List Bytes
  bodies indices = map body_of indices

  made_bodies : (indices : List ℕ) → flat_map (made_line seed workers) indices ≡ flat_map with_newline (bodies indices)
  made_bodies [] = refl
  made_bodies (line ∷ indices) =
      ap₂ (λ (x y : Bytes). x ++ y) (line_is_body (line % workers) (draw seed (2 * line) % 1024) (draw seed (2 * line + 1) % 512)) (made_bodies indices)

  spelled_bodies : (indices : List ℕ) → map spelled_line (map (transaction seed workers) indices) ≡ bodies indices
  spelled_bodies [] = refl
  spelled_bodies (line ∷ indices) = ap₂ (λ (x : Bytes) (xs : List Bytes). x ∷ xs) (spelled_is_body seed workers line) (spelled_bodies indices)

  worker_below : (line : ℕ) → 0 < workers → workers ≤ 8 → line % workers < 8
  worker_below line some few = let h = mod-lt line some in omega arith

  array_below : (line : ℕ) → draw seed (2 * line) % 1024 < 1024
  array_below line = mod-lt (draw seed (2 * line)) (lit< tt)

  tree_below : (line : ℕ) → draw seed (2 * line + 1) % 512 < 512
  tree_below line = mod-lt (draw seed (2 * line + 1)) (lit< tt)

  body_is : (line : ℕ) → 0 < workers → workers ≤ 8 → IsBody (body_of line)
  body_is line some few =
      let w = worker_below line some few in
      let a = array_below line in
      let t = tree_below line in
      let w64 : line % workers < 2 ^ 64 = omega (arith, w) in
      let a64 : draw seed (2 * line) % 1024 < 2 ^ 64 = omega (arith, a) in
      let t64 : draw seed (2 * line + 1) % 512 < 2 ^ 64 = omega (arith, t) in
      let w10 : line % workers < 1024 = omega (arith, w) in
      let t10 : draw seed (2 * line + 1) % 512 < 1024 = omega (arith, t) in
      let l = length-body (line % workers) (draw seed (2 * line) % 1024) (draw seed (2 * line + 1) % 512) w10 a t10 in
      record { one_line = body_is_one_line (line % workers) _ _ w64 a64 t64; some = l.0; few = l.1 }

  bodies_are : (indices : List ℕ) → 0 < workers → workers ≤ 8 → AllByRecursion IsBody (bodies indices)
  bodies_are [] some few = tt
  bodies_are (line ∷ indices) some few = (body_is line some few, bodies_are indices some few)

  -- ---- its rules

  abbrev decls : List Decl
  decls = Array 1 1024 ∷ Tree 2 ∷ []

  line_is : (line : ℕ) → 0 < workers → workers ≤ 8 → IsLine decls (transaction seed workers line)
  line_is line some few =
      let a = array_below line in
      let t = tree_below line in
      let a64 : draw seed (2 * line) % 1024 < 2 ^ 64 = omega (arith, a) in
      let t64 : draw seed (2 * line + 1) % 512 < 2 ^ 64 = omega (arith, t) in
      record {
        worker = worker_below line some few;
        some_op = omega arith;
        few_ops = omega arith;
        ops = (record { fitting = rw (lt-ltb (draw seed (2 * line) % 1024) 1024 a) refl; numbers = (a64, omega arith) }, (record { fitting = refl; numbers = (t64, omega arith) }, tt));
      }

  lines_are : (indices : List ℕ) → 0 < workers → workers ≤ 8 → AllByRecursion (IsLine decls) (map (transaction seed workers) indices)
  lines_are [] some few = tt
  lines_are (line ∷ indices) some few = (line_is line some few, lines_are indices some few)

-- ---- its length

short_lines : (lines : List Bytes) → AllByRecursion IsBody lines → AllByRecursion (λ line. length line ≤ 1024) lines
short_lines [] all = tt
short_lines (line ∷ lines) all = (omega (arith, all.0.few), short_lines lines all.1)

few_bytes : (lines : List Bytes) → AllByRecursion IsBody lines → length (flat_map with_newline lines) ≤ 32 * length lines
few_bytes [] all = omega arith
few_bytes (line ∷ lines) all =
    omega (arith, all.0.few, few_bytes lines all.1, length-append line (10 ∷ []), length-append (with_newline line) (flat_map with_newline lines))

-- ---- the law

-- the declarations, as the grammar spells them
decls_spelled : map decl_text (Array 1 1024 ∷ Tree 2 ∷ []) ≡ codes "array 1 1024" ∷ codes "tree 2" ∷ []
unfolding digits
decls_spelled = refl

pub made_is : (seed workers lines : ℕ) → 0 < workers → workers ≤ 8 → 0 < lines → lines ≤ 65536
    → IsTextOf (script_text seed workers lines) (script_of seed workers lines)
made_is seed workers lines some_worker few_workers some_line few =
    let indices : List ℕ = range_with_len 0 lines in
    let all = bodies_are seed workers indices some_worker few_workers in
    let text : flat_map (made_line seed workers) indices ≡ flat_map with_newline (bodies seed workers indices) = made_bodies seed workers indices in
    let cut : filter some_bytes (slice_split newline (flat_map (made_line seed workers) indices)) ≡ bodies seed workers indices =
    ap (λ (b : Bytes). filter some_bytes (slice_split newline b)) text ∙ ap (filter some_bytes) (split_lines (bodies seed workers indices) all)
    ∙ some_lines (bodies seed workers indices) all in
    let front : lines_of (script_text seed workers lines) ≡ codes "array 1 1024" ∷ codes "tree 2" ∷ bodies seed workers indices =
    ap (λ (ls : List Bytes). codes "array 1 1024" ∷ codes "tree 2" ∷ ls) cut in
    let count : length indices ≡ lines = length-range_with_len 0 lines in
    let many : length (map (transaction seed workers) indices) ≡ length indices = length-map indices (transaction seed workers) in
    let bodies_many : length (bodies seed workers indices) ≡ length indices = length-map indices (body_of seed workers) in
    record {
      size =
          let whole = length-append (codes "array 1 1024\ntree 2\n") (flat_map (made_line seed workers) indices) in
          let same = ap (λ (b : Bytes). length b) text in
          let most = few_bytes (bodies seed workers indices) all in
          omega arith;
      short = subst (AllByRecursion (λ line. length line ≤ 1024)) (sym front) (omega arith, (omega arith, short_lines (bodies seed workers indices) all));
      joined = [];
      rest = map (transaction seed workers) indices;
      rounds = refl;
      lines = front ∙ ap₂ (λ (ds ls : List Bytes). ds ++ ls) (sym decls_spelled) (sym (spelled_bodies seed workers indices));
      rules = record {
        decls = record { few = omega arith; each = ((omega arith, omega arith, omega arith), (omega arith, tt)); distinct = ((λ e. omega arith, tt), (tt, tt)) };
        rounds = (record { few_lines = omega arith; lines = lines_are seed workers indices some_worker few_workers }, tt);
      };
    }
