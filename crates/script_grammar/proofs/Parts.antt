-- The operations of a line, as a loop finds their ends.
use Rattle.std.proofs.Common.{◌≡◌, ℕ, ◌+◌, ◌<◌, Bool, true, false, eqb, List, [], ◌∷◌, ◌++◌, length, take, drop, get_or, refl, sym, ap, ◌∙◌, append_assoc, add-one, arith, drop-cons, length-drop}
use Rattle.std.proofs.lemmas.Bool.{eqb-true, and_parts}
use Rattle.std.proofs.lemmas.List.{append-nil, take_more, drop-drop}
use Rattle.script_grammar.specs.Script.{Bytes}
use Rattle.script_grammar.specs.Words.{begins_space, begins_separator, before_parts, parts}

-- bytes before the first part
abbrev pub with_front : Bytes → List Bytes → List Bytes
with_front xs [] = xs ∷ []
with_front xs (part ∷ parts) = (xs ++ part) ∷ parts

-- there is a first part
before_cons : (is : Bool) (b : ℕ) (ps : List Bytes) → (first : Bytes) × (others : List Bytes) × (before_parts is b ps ≡ first ∷ others)
before_cons is b [] = (b ∷ [], [], refl)
before_cons true b (part ∷ ps) = ([], drop 1 part ∷ ps, refl)
before_cons false b (part ∷ ps) = (b ∷ part, ps, refl)

pub parts_cons : (bs : Bytes) → (first : Bytes) × (others : List Bytes) × (parts bs ≡ first ∷ others)
parts_cons [] = ([], [], refl)
parts_cons (b ∷ bs) = before_cons (begins_separator (b ∷ bs)) b (parts bs)

-- no bytes before the first part
pub front_none : (bs : Bytes) → parts bs ≡ with_front [] (parts bs)
front_none bs = let first = parts_cons bs in rw first.2 refl

-- a byte that parts nothing joins the front
front_more : (xs : Bytes) (b : ℕ) (ps : List Bytes) → with_front xs (before_parts false b ps) ≡ with_front (xs ++ b ∷ []) ps
front_more xs b [] = refl
front_more xs b (part ∷ ps) = ap (λ (p : Bytes). p ∷ ps) (sym (append_assoc xs (b ∷ []) part))

-- a byte more, which parts nothing
pub op_more : (ops : Bytes) (i : ℕ) → i < length ops → begins_separator (drop i ops) ≡ false → parts ops ≡ with_front (take i ops) (parts (drop i ops))
    → parts ops ≡ with_front (take (i + 1) ops) (parts (drop (i + 1) ops))
op_more ops i lt none_here so_far =
    let b : ℕ = get_or ops i 0 in
    let here : drop i ops ≡ b ∷ drop (i + 1) ops = rw (add-one, drop-cons ops i 0) refl in
    let none : begins_separator (b ∷ drop (i + 1) ops) ≡ false = ap begins_separator (sym here) ∙ none_here in
    let front : take (i + 1) ops ≡ take i ops ++ b ∷ [] = take_more ops i 0 lt in
    so_far ∙ ap (λ (r : Bytes). with_front (take i ops) (parts r)) here
    ∙ ap (λ (is : Bool). with_front (take i ops) (before_parts is b (parts (drop (i + 1) ops)))) none
    ∙ front_more (take i ops) b (parts (drop (i + 1) ops)) ∙ ap (λ (r : Bytes). with_front r (parts (drop (i + 1) ops))) (sym front)

-- behind a space a part begins
space_part : (bs : Bytes) (b : ℕ) → begins_space bs ≡ true → before_parts true b (parts bs) ≡ [] ∷ parts (drop 1 bs)
space_part [] b e = absurd cc
space_part (c ∷ bs) b e =
    let same : c ≡ 32 = eqb-true c 32 e in
    let first = parts_cons bs in
    ap (λ (k : ℕ). before_parts true b (parts (k ∷ bs))) same ∙ rw first.2 refl

-- a semicolon and a space part what is before them from what is behind them
separator_parts : (bs : Bytes) → begins_separator bs ≡ true → (parts bs ≡ [] ∷ parts (drop 2 bs)) × (1 < length bs)
separator_parts [] e = absurd cc
separator_parts (b ∷ []) e = let both = and_parts (eqb b 59) false e in let h = both.1 in absurd cc
separator_parts (b ∷ c ∷ bs) e =
    let both = and_parts (eqb b 59) (begins_space (c ∷ bs)) e in
    (ap (λ (is : Bool). before_parts is b (parts (c ∷ bs))) e ∙ space_part (c ∷ bs) b both.1, omega arith)

-- the operation ends here
pub op_found : (ops : Bytes) (i : ℕ) → begins_separator (drop i ops) ≡ true → parts ops ≡ with_front (take i ops) (parts (drop i ops))
    → (i + 1 < length ops) × (parts ops ≡ take i ops ∷ parts (drop (i + 2) ops))
op_found ops i here so_far =
    let t = separator_parts (drop i ops) here in (
      omega (arith, t.1, length-drop i ops),
      so_far ∙ ap (with_front (take i ops)) t.0 ∙ ap (λ (r : Bytes). r ∷ parts (drop 2 (drop i ops))) (append-nil (take i ops))
          ∙ ap (λ (r : Bytes). take i ops ∷ parts r) (drop-drop 2 i ops),
    )
