-- The smallest key of a leaf from a key on.
use Rattle.std.proofs.Common.{◌≡◌, ◌≢◌, ◌⊎◌, inl, inr, ℕ, zero, suc, ◌+◌, ◌<◌, ◌≤◌, Bool, true, false, true≢false}
use Rattle.std.proofs.Common.{eqb, eqb-true, eq-eqb, cond, ltb}
use Rattle.std.proofs.Common.{List, [], ◌∷◌, length, refl, sym, ap, ◌∙◌, subst, arith, Option, Some, None}
use Rattle.std.specs.List.{slice_get}
use Rattle.std.proofs.lemmas.Bool.Decides.{nat_tests}
use Rattle.lists.specs.Elements.{at_below}
use Rattle.serial_model.specs.declared.key.Key.{Key}
use Rattle.tree_scans.specs.declared.smallest.Place.{Place}
use Rattle.tree_scans.specs.Smallest.{smaller_of, IsLeast, IsSmallest}

last_or : (i many : ℕ) → i < many + 1 → (i ≡ many) ⊎ (i < many)
last_or i many less = by_test (eqb i many) refl
  where
    by_test : (b : Bool) → eqb i many ≡ b → (i ≡ many) ⊎ (i < many)
    by_test true same = inl (eqb-true i many same)
    by_test false other = inr (let ne : i ≢ many = (λ e. true≢false (sym (eq-eqb i many e) ∙ other)) in omega
        (arith, less, ne))

key_at : (keys : List Key) (i : ℕ) → i < length keys → (q : Key) × (slice_get keys i ≡ Some q)
key_at [] i less = absurd (omega (arith, less))
key_at (x ∷ keys) zero less = (x, refl)
key_at (x ∷ keys) (suc i) less = key_at keys i (omega (arith, less))

-- ---- one key more

module _ (keys : List Key) (from many n : ℕ) (there : many < length keys)
    (is : (q : Key) → slice_get keys many ≡ Some q → n ≡ q.key) where
  abbrev next : Place
  next = record { index = many; key = n }

  at_last : (i : ℕ) (q : Key) → i ≡ many → slice_get keys i ≡ Some q → n ≡ q.key
  at_last i q same at = is q (subst (λ j. slice_get keys j ≡ Some q) same at)

  its_key : (q : Key) × (slice_get keys many ≡ Some q) × (q.key ≡ n)
  its_key = let q = key_at keys many there in (q.0, q.1, sym (is q.0 q.1))

  none_more : ((i : ℕ) (q : Key) → i < many → slice_get keys i ≡ Some q → q.key < from)
      → (b : Bool) → ltb n from ≡ b → IsLeast keys from (many + 1) (cond b None (Some next))
  none_more none true below = λ i q less at.
      elim (last_or i many less) [
        | inl same ↦ subst (λ j. j < from) (at_last i q same at) (let e : n < from = grind (arith, nat_tests) in e)
        | inr old ↦ none i q old at
      ]
  none_more none false above =
      let from-on : from ≤ n = grind (arith, nat_tests) in (
        its_key,
        from-on,
        λ i q less at high.
            elim (last_or i many less) [
              | inl same ↦ let e = at_last i q same at in omega (arith, e)
              | inr old ↦ let low = none i q old at in absurd (omega (arith, low, high))
            ],
      )

  module _ (best : Place) (least : IsLeast keys from many (Some best)) where
    kept : best.key ≤ n ⊎ n < from → IsLeast keys from (many + 1) (Some best)
    kept why = (
      least.0,
      least.1,
      λ i q less at high.
          elim (last_or i many less) [
            | inl same ↦
                let e = at_last i q same at in
                elim why [ inl more ↦ omega (arith, e, more) | inr low ↦ absurd (omega (arith, e, low, high)) ]
            | inr old ↦ least.2 i q old at high
          ],
    )

    taken : from ≤ n → n < best.key → IsLeast keys from (many + 1) (Some next)
    taken from-on smaller = (
      its_key,
      from-on,
      λ i q less at high.
          elim (last_or i many less) [
            | inl same ↦ let e = at_last i q same at in omega (arith, e)
            | inr old ↦ let more = least.2 i q old at high in omega (arith, more, smaller)
          ],
    )

    by_smaller : from ≤ n → (c : Bool) → ltb n best.key ≡ c → IsLeast keys from (many + 1) (cond c (Some next)
        (Some best))
    by_smaller from-on true smaller = taken from-on (let e : n < best.key = grind (arith, nat_tests) in e)
    by_smaller from-on false larger = kept (inl (let e : best.key ≤ n = grind (arith, nat_tests) in e))

    some_more : (b : Bool) → ltb n from ≡ b
        → IsLeast keys from (many + 1) (cond b (Some best) (cond (ltb n best.key) (Some next) (Some best)))
    some_more true below = kept (inr (let e : n < from = grind (arith, nat_tests) in e))
    some_more false above = by_smaller (let e : from ≤ n = grind (arith, nat_tests) in e) (ltb n best.key) refl

  pub least_more : (best : Option Place) → IsLeast keys from many best → IsLeast keys from (many + 1) (smaller_of
      best from next)
  least_more None none = none_more none (ltb n from) refl
  least_more (Some best) least = some_more best least (ltb n from) refl

-- ---- all of them

pub least_none : (keys : List Key) (from : ℕ) → IsLeast keys from 0 None
least_none keys from = λ i q less at. absurd (omega (arith, less))

pub least_all : (keys : List Key) (from many : ℕ) (best : Option Place) → length keys ≤ many → IsLeast keys from many
    best
    → IsSmallest keys from best
least_all keys from many None all none = λ i q at. none i q (let less = at_below keys i q at in omega (
  arith,
  less,
  all,
)) at
least_all keys from many (Some best) all least = (
  least.0,
  least.1,
  λ i q at high. least.2 i q (let less = at_below keys i q at in omega (arith, less, all)) at high,
)
