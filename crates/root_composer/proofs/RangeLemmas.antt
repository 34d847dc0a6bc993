-- The entries of a range, in a run that is in order.
use Rattle.std.proofs.Common.{◌≡◌, ℕ, ◌+◌, ◌-◌, ◌<◌, ◌≤◌, zero, suc, true, false, List, [], ◌∷◌, length, get_or, take, drop, refl, sym, ap, subst, ◌∙◌, arith, leb, ltb}
use Rattle.std.specs.List.Sorted.{IsPartitionPoint}
use Rattle.std.specs.Prelude.{cond}
use Rattle.std.proofs.lemmas.List.{get_or-drop, length-drop}
use Rattle.std.proofs.lemmas.Bool.Decides.{nat_tests}
use Rattle.root_composer.specs.declared.last.Last.{Last}
use Rattle.root_composer.specs.Overlaid.{is_between}
use Rattle.root_composer.specs.ArrayWriter.{put, put_all}
use Rattle.root_composer.specs.Rows.{entries_in}

under : (low high key : ℕ) → ltb key low ≡ true → is_between low high key ≡ false
under low high key e = grind (arith, nat_tests)

past : (low high key : ℕ) → leb key high ≡ false → is_between low high key ≡ false
past low high key e = grind (arith, nat_tests)

inside : (low high key : ℕ) → ltb key low ≡ false → leb key high ≡ true → is_between low high key ≡ true
inside low high key a b = grind (arith, nat_tests)

-- the first entries are none of the range, where they are below it
skip : (low high i : ℕ) (run : List Last) → ((k : ℕ) (d : Last) → k < i → ltb (get_or run k d).key low ≡ true) → entries_in low high run ≡ entries_in low high (drop i run)
skip low high zero run h = refl
skip low high (suc i) [] h = refl
skip low high (suc i) (e ∷ es) h =
    rw (under low high e.key (h 0 e (omega arith))) (skip low high i es (λ k d a. h (suc k) d (omega (arith, a))))

none_past : (low high : ℕ) (run : List Last) → ((k : ℕ) (d : Last) → k < length run → leb (get_or run k d).key high ≡ false) → entries_in low high run ≡ []
none_past low high [] c = refl
none_past low high (e ∷ es) c = rw (past low high e.key (c 0 e (omega arith))) (none_past low high es (λ k d h. c (suc k) d (omega (arith, h))))

-- those up to the last of the range are its entries, where none is below it
front : (low high j : ℕ) (run : List Last) → ((k : ℕ) (d : Last) → k < length run → ltb (get_or run k d).key low ≡ false) → ((k : ℕ) (d : Last) → k < j → leb (get_or run k d).key high ≡ true)
    → ((k : ℕ) (d : Last) → j ≤ k → k < length run → leb (get_or run k d).key high ≡ false) → entries_in low high run ≡ take j run
front low high zero run a b c = none_past low high run (λ k d h. c k d (omega arith) h)
front low high (suc j) [] a b c = refl
front low high (suc j) (e ∷ es) a b c =
    rw (inside low high e.key (a 0 e (omega arith)) (b 0 e (omega arith)))
    (ap (λ l. e ∷ l) (front low high j es (λ k d h. a (suc k) d (omega (arith, h))) (λ k d x. b (suc k) d (omega (arith, x))) (λ k d x h. c (suc k) d (omega (arith, x)) (omega (arith, h)))))

pub range_is : (run rest part : List Last) (low high first count : ℕ) → rest ≡ drop first run → part ≡ take count rest
    → IsPartitionPoint (λ (e : Last). ltb e.key low ≡ true) (λ (e : Last). ltb e.key low ≡ false) run first
    → IsPartitionPoint (λ (e : Last). leb e.key high ≡ true) (λ (e : Last). leb e.key high ≡ false) rest count → part ≡ entries_in low high run
range_is run rest part low high first count is part_is before within =
    part_is
    ∙ sym (front low high count rest
    (subst (λ (l : List Last). (k : ℕ) (d : Last) → k < length l → ltb (get_or l k d).key low ≡ false) (sym is)
    (λ k d h. ap (λ (e : Last). ltb e.key low) (get_or-drop first run k d) ∙ before.1 (first + k) d (omega arith) (omega (arith, h, length-drop first run))))
    (λ k d a. within.0 k d (omega arith) a) (λ k d a b. within.1 k d a b))
    ∙ ap (entries_in low high) is
    ∙ sym (skip low high first run (λ k d a. before.0 k d (omega arith) a))

-- no other entries are put in a leaf than those of its range
pub put_all-within : (low high : ℕ) (run : List Last) (words : List ℕ) → put_all low high (entries_in low high run) words ≡ put_all low high run words
put_all-within low high [] words = refl
put_all-within low high (e ∷ es) words =
    elim (is_between low high e.key) as (λ b. is_between low high e.key ≡ b → put_all low high (cond b (e ∷ entries_in low high es) (entries_in low high es)) words ≡ cond b (put (e.key - low) e.number e.value (put_all low high es words)) (put_all low high es words)) [
      | true ↦ λ t. rw t (ap (put (e.key - low) e.number e.value) (put_all-within low high es words))
      | false ↦ λ t. put_all-within low high es words
    ] refl
