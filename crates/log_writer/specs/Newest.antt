-- A save device names one savepoint or none, as laws for those who read one.
use Rattle.std.proofs.Common.{◌≡◌, ◌<◌, ◌-◌, ◌^◌, ◌∷◌, ℕ, List, [], Option, Some, None, length, get_or, take, drop, replicate, slice_index, refl, sym, ◌∙◌, ap, arith, lit<, lit≤}
use Rattle.std.specs.List.{AllByRecursion}
use Rattle.std.proofs.lemmas.List.{take_at, drop_at}
use Rattle.wire_form.specs.declared.savepoint.Savepoint.{Savepoint}
use Rattle.lists.specs.Each.{all_append, all_below, all_replicate}
use Rattle.wire_form.specs.Bytes.{bytes_of, padded}
use Rattle.wire_form.specs.ByteLaws.{same_words}
use Rattle.wire_form.specs.Savepoint.{IsSavepoint, magic, body_words, place_bytes, valid_byte}
use Rattle.log_writer.specs.Save.{HasPoint, place_in, newer, Names}

-- a savepoint is told in words
body_fits : (s : Savepoint) → IsSavepoint s → AllByRecursion (λ w. w < 2 ^ 64) (body_words s)
body_fits s is =
    all_append (λ w. w < 2 ^ 64) (magic 1 ∷ s.sequence ∷ s.epoch ∷ s.catalogue ∷ s.count ∷ s.lengths) (replicate (63 - length (magic 1 ∷ s.sequence ∷ s.epoch ∷ s.catalogue ∷ s.count ∷ s.lengths)) 0)
    (lit< tt, (omega (arith, is.last), (omega (arith, is.epoch), (omega (arith, is.newest, is.count), (omega (arith, is.count), all_below (2 ^ 40) (2 ^ 64) (lit≤ tt) s.lengths is.lengths)))))
    (all_replicate (λ w. w < 2 ^ 64) (63 - length (magic 1 ∷ s.sequence ∷ s.epoch ∷ s.catalogue ∷ s.count ∷ s.lengths)) 0 (lit< tt))

-- the savepoint of these fields
abbrev point_by : ℕ → ℕ → ℕ → ℕ → List ℕ → Savepoint
point_by s e c n ls = record { sequence = s; epoch = e; catalogue = c; count = n; lengths = ls }

-- savepoints with the same bytes are one
place_bytes_one : (a b : Savepoint) → IsSavepoint a → IsSavepoint b → place_bytes a ≡ place_bytes b → a ≡ b
place_bytes_one a b is js e =
    let bodies : bytes_of (body_words a) ≡ bytes_of (body_words b) = sym (drop_at (padded 8 (valid_byte ∷ [])) (bytes_of (body_words a)) 8 refl) ∙ ap (drop 8) e ∙ drop_at (padded 8 (valid_byte ∷ [])) (bytes_of (body_words b)) 8 refl in
    let h : body_words a ≡ body_words b = same_words (body_words a) (body_words b) (body_fits a is) (body_fits b js) bodies in
    let es : a.sequence ≡ b.sequence = ap (λ w. get_or w 1 0) h in
    let ee : a.epoch ≡ b.epoch = ap (λ w. get_or w 2 0) h in
    let ec : a.catalogue ≡ b.catalogue = ap (λ w. get_or w 3 0) h in
    let en : a.count ≡ b.count = ap (λ w. get_or w 4 0) h in
    let el : a.lengths ≡ b.lengths = sym (take_at a.lengths _ 16 is.banks) ∙ ap (λ w. take 16 (drop 5 w)) h ∙ take_at b.lengths _ 16 js.banks in
    ap (λ x. point_by x a.epoch a.catalogue a.count a.lengths) es ∙ ap (λ x. point_by b.sequence x a.catalogue a.count a.lengths) ee
    ∙ ap (λ x. point_by b.sequence b.epoch x a.count a.lengths) ec ∙ ap (λ x. point_by b.sequence b.epoch b.catalogue x a.lengths) en ∙ ap (point_by b.sequence b.epoch b.catalogue b.count) el

-- an open place begins with the valid byte
valid_of : (p : Savepoint) → slice_index (place_bytes p) 0 ≡ valid_byte
valid_of p = refl

-- a place holds one savepoint, or none
pub holds_one : (place : ℕ) (bytes : List ℕ) (a b : Option Savepoint) → HasPoint place bytes a → HasPoint place bytes b → a ≡ b
holds_one place bytes None None p q = refl
holds_one place bytes None (Some b) p q = absurd (p (ap (λ l. slice_index l 0) q.1 ∙ valid_of b))
holds_one place bytes (Some a) None p q = absurd (q (ap (λ l. slice_index l 0) p.1 ∙ valid_of a))
holds_one place bytes (Some a) (Some b) p q = ap Some (place_bytes_one a b p.0.point q.0.point (sym p.1 ∙ q.1))

-- and so a device names one, or none
pub names_one : (c : List ℕ) (a b : Option Savepoint) → Names c a → Names c b → a ≡ b
names_one c a b p q =
    let first = holds_one 0 (place_in c 0) p.first q.first p.in_first q.in_first in
    let second = holds_one 1 (place_in c 1) p.second q.second p.in_second q.in_second in
    p.counts ∙ ap (λ x. newer x p.second) first ∙ ap (newer q.first) second ∙ sym q.counts
