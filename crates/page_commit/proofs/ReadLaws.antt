-- What a transaction knows of a word behind a step.
use Rattle.std.proofs.Common.{◌≡◌, ◌≢◌, ℕ, Bool, true, false, cond, eqb, eqb-true, eq-eqb, ne_eqb, List, [], ◌∷◌, ◌++◌, Option, Some, None, refl}
use Rattle.std.proofs.Common.{sym, ap, ◌∙◌}
use Rattle.std.specs.Prelude.{not, filter}
use Rattle.std.specs.List.{find}
use Rattle.std.specs.Option.{option_map}
use Rattle.engine_pages.specs.declared.view.Read.{Read}
use Rattle.engine_pages.specs.Steps.{kept_at, seen_at, with_read}

-- ---- words

found_last : (reads : List Read) (e : Read) (word : ℕ) → eqb e.word word ≡ true
    → seen_at (filter (λ r. not (eqb r.word word)) reads ++ e ∷ []) word ≡ Some e.seen
found_last [] e word is = ap (λ b. option_map (λ (r : Read). r.seen) (cond b (Some e) None)) is
found_last (x ∷ reads) e word is = by_test (eqb x.word word) refl (found_last reads e word is)
  where
    by_test : (b : Bool) → eqb x.word word ≡ b
        → seen_at (filter (λ r. not (eqb r.word word)) reads ++ e ∷ []) word ≡ Some e.seen
        → seen_at (cond (not b) (x ∷ filter (λ r. not (eqb r.word word)) reads) (filter (λ r. not (eqb r.word word)) reads)
        ++ e ∷ []) word ≡ Some e.seen
    by_test true here rest = rest
    by_test false here rest =
        ap (λ b. option_map (λ (r : Read). r.seen)
        (cond b (Some x) (find (λ r. eqb r.word word) (filter (λ r. not (eqb r.word word)) reads ++ e ∷ [])))) here
        ∙ rest

-- a word that was met is known as it was seen or left
pub seen_at-same : (reads : List Read) (word n : ℕ) → seen_at (with_read reads word n) word ≡ Some n
seen_at-same reads word n =
    found_last reads (record { word = word; seen = n; was = seen_at reads word; kept = kept_at reads word }) word (eq-eqb word word refl)

-- what is found behind the same head
under_head : (b : Bool) (x : Read) (now was : Option Read)
    → option_map (λ (r : Read). r.seen) now ≡ option_map (λ (r : Read). r.seen) was
    → option_map (λ (r : Read). r.seen) (cond b (Some x) now) ≡ option_map (λ (r : Read). r.seen) (cond b (Some x) was)
under_head true x now was same = refl
under_head false x now was same = same

found_other : (reads : List Read) (e : Read) (word other : ℕ) → eqb e.word other ≡ false → eqb word other ≡ false
    → seen_at (filter (λ r. not (eqb r.word word)) reads ++ e ∷ []) other ≡ seen_at reads other
found_other [] e word other not-last apart = ap (λ b. option_map (λ (r : Read). r.seen) (cond b (Some e) None)) not-last
found_other (x ∷ reads) e word other not-last apart =
    by_test (eqb x.word word) refl (found_other reads e word other not-last apart)
  where
    by_test : (b : Bool) → eqb x.word word ≡ b
        → seen_at (filter (λ r. not (eqb r.word word)) reads ++ e ∷ []) other ≡ seen_at reads other
        → seen_at (cond (not b) (x ∷ filter (λ r. not (eqb r.word word)) reads) (filter (λ r. not (eqb r.word word)) reads)
        ++ e ∷ []) other ≡ seen_at (x ∷ reads) other
    by_test true here rest =
        rest
        ∙ sym (ap (λ b. option_map (λ (r : Read). r.seen) (cond b (Some x) (find (λ r. eqb r.word other) reads)))
        (ap (λ i. eqb i other) (eqb-true x.word word here) ∙ apart))
    by_test false here rest =
        under_head (eqb x.word other) x
        (find (λ r. eqb r.word other) (filter (λ r. not (eqb r.word word)) reads ++ e ∷ []))
        (find (λ r. eqb r.word other) reads) rest

-- and of other words the same is known as before
pub seen_at-other : (reads : List Read) (word n other : ℕ) → word ≢ other
    → seen_at (with_read reads word n) other ≡ seen_at reads other
seen_at-other reads word n other apart =
    found_other reads (record { word = word; seen = n; was = seen_at reads word; kept = kept_at reads word }) word other (ne_eqb word other apart)
    (ne_eqb word other apart)
