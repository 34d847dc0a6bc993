-- What the tests of the conditions decide of children: what they lead to, and that they tile a span.
use Rattle.std.proofs.Common.{◌≡◌, ℕ, zero, suc, ◌+◌, ◌-◌, ◌<◌, ◌≤◌, Bool, true, false, true≢false, eqb, eqb-true, leb, ltb, ◌&&◌, ◌||◌, ◌⊎◌, inl, inr, List, [], ◌∷◌, refl, sym, ap, ◌∙◌, subst, arith, Option, Some, None}
use Rattle.std.proofs.lemmas.Bool.{and_parts, or_cases, cases_Bool}
use Rattle.std.proofs.lemmas.Bool.Decides.{nat_tests}
use Rattle.std.specs.List.{list_all}
use Rattle.std.specs.Prelude.{is_none}
use Rattle.serial_model.specs.declared.key.Key.{Key}
use Rattle.homes.specs.declared.places.Span.{Span}
use Rattle.homes.specs.Homes.{same_key, has_key, in_span}
use Rattle.homes.specs.Laws.{same_key-true, number_or_other, in_span-parts, in_span-from}
use Rattle.drop_core.specs.declared.table.Page.TheVariants.{Inner}
use Rattle.drop_core.specs.declared.table.Table.{Table}
use Rattle.drop_core.specs.Table.{has_pointer}
use Rattle.drop_core.specs.Event.{all_below, same_below, child, begins, is_tile, is_same_child}
use Rattle.drop_core.specs.KeyTests.{same-homes}
use Rattle.drop_core.proofs.Conditions.{FitsInner}

-- ---- all numbers below one

pub below-each : (n : ℕ) (test : ℕ → Bool) → all_below n test ≡ true → (j : ℕ) → ltb j n ≡ true → test j ≡ true
below-each zero test all j less = absurd (none j less)
  where
    none : (j : ℕ) → ltb j 0 ≡ true → ⊥
    none j less = grind (arith, nat_tests)
below-each (suc n) test all j less =
    let parts = and_parts (test n) (all_below n test) all in
    elim (number_or_other n j) [
      | inl e ↦ subst (λ (m : ℕ). test m ≡ true) e.0 parts.0
      | inr o ↦ below-each n test parts.1 j (under n j less o.0)
    ]
  where
    under : (n j : ℕ) → ltb j (suc n) ≡ true → (n ≡ j → ⊥) → ltb j n ≡ true
    under n j less other = elim (cases_Bool (ltb j n)) [ inl e ↦ e | inr e ↦ absurd (other (at_least n j less e)) ]
      where
        at_least : (n j : ℕ) → ltb j (suc n) ≡ true → ltb j n ≡ false → n ≡ j
        at_least n j less e = grind (arith, nat_tests)

-- ---- children of an interior page

pub none_there : (o : Option ℕ) → is_none o ≡ true → o ≡ None
none_there None e = refl
none_there (Some s) e = absurd (true≢false (sym e))

pub inner-fits : (d : Table) (s n count : ℕ) → all_below count (is_same_child d s n) ≡ true → FitsInner d s n count
inner-fits d s n count all = record {
  none = λ j there. none_there (child d s j).slot (each j there).0;
  same = λ j k there inside. same-homes d (child d s j).span (child d s j).page n (each j there).1 k inside;
}
  where
    each : (j : ℕ) → has_pointer (Inner count) j ≡ true → (is_none (child d s j).slot ≡ true) × (same_below d (child d s j).span (child d s j).page n ≡ true)
    each j there = and_parts (is_none (child d s j).slot) (same_below d (child d s j).span (child d s j).page n) (below-each count (is_same_child d s n) all j there)

pub all-within : (span : Span) (keys : List Key) (k : Key) → list_all (λ q. in_span span q) keys ≡ true → has_key keys k ≡ true → in_span span k ≡ true
all-within span [] k all hit = absurd (true≢false (sym hit))
all-within span (x ∷ more) k all hit =
    let parts = and_parts (in_span span x) (list_all (λ q. in_span span q) more) all in
    elim (or_cases (same_key x k) (has_key more k) hit) [
      | inl e ↦ subst (λ (q : Key). in_span span q ≡ true) (same_key-true x k e) parts.0
      | inr m ↦ all-within span more k parts.1 m
    ]

-- ---- children that tile a span

-- a part of the span: all of one storage, none empty
pub record IsPart (d : Table) (s : ℕ) (span : Span) (count j : ℕ) : Type 0 where
  pub storage : (child d s j).span.storage ≡ span.storage
  pub some : (child d s j).span.low ≤ (child d s j).span.high
  pub start : begins d s span j ≡ true
  pub end : (suc j < count) ⊎ ((child d s j).span.high ≡ span.high)

at_most : (a b : ℕ) → leb a b ≡ true → a ≤ b
at_most a b e = grind (arith, nat_tests)

less_than : (a b : ℕ) → ltb (a + 1) b ≡ true → suc a < b
less_than a b e = grind (arith, nat_tests)

module _ (d : Table) (s : ℕ) (span : Span) (count : ℕ) (tiles : all_below count (is_tile d s span count) ≡ true) where
  abbrev low : ℕ → ℕ
  low j = (child d s j).span.low

  abbrev high : ℕ → ℕ
  high j = (child d s j).span.high

  part : (j : ℕ) → ltb j count ≡ true → IsPart d s span count j
  part j there =
      let parts = and_parts (eqb (child d s j).span.storage span.storage) (leb (low j) (high j) && (begins d s span j && (ltb (j + 1) count || eqb (high j) span.high))) (below-each count (is_tile d s span count) tiles j there) in
      let rest = and_parts (leb (low j) (high j)) (begins d s span j && (ltb (j + 1) count || eqb (high j) span.high)) parts.1 in
      let ends = and_parts (begins d s span j) (ltb (j + 1) count || eqb (high j) span.high) rest.1 in
      record {
        storage = eqb-true (child d s j).span.storage span.storage parts.0;
        some = at_most (low j) (high j) rest.0;
        start = ends.0;
        end = elim (or_cases (ltb (j + 1) count) (eqb (high j) span.high) ends.1) [ inl e ↦ inl (less_than j count e) | inr e ↦ inr (eqb-true (high j) span.high e) ];
      }

  -- a child begins right after the one before it
  next_low : (j : ℕ) → ltb (suc j) count ≡ true → low (suc j) ≡ suc (high j)
  next_low j there =
      let parts = and_parts (ltb (high j) (low (suc j))) (eqb (low (suc j) - high j) 1) (part (suc j) there).start in
      after (high j) (low (suc j)) parts.0 parts.1
    where
      after : (a b : ℕ) → ltb a b ≡ true → eqb (b - a) 1 ≡ true → b ≡ suc a
      after a b l e = grind (arith, nat_tests)

  earlier : (j : ℕ) → ltb (suc j) count ≡ true → ltb j count ≡ true
  earlier j e = under j count e
    where
      under : (j n : ℕ) → ltb (suc j) n ≡ true → ltb j n ≡ true
      under j n e = grind (arith, nat_tests)

  first_low : ltb 0 count ≡ true → low 0 ≡ span.low
  first_low there = eqb-true (low 0) span.low (part 0 there).start

  -- children come in order
  in_order : (i j : ℕ) → i < j → ltb j count ≡ true → high i < low j
  in_order i zero less there = absurd (omega arith)
  in_order i (suc j) less there =
      elim (number_or_other i j) [
        | inl e ↦ let is : high i ≡ high j = ap high e.0 in let next = next_low j there in omega arith
        | inr o ↦
            let before = in_order i j (under i j less o.0) (earlier j there) in
            let some = (part j (earlier j there)).some in
            let next = next_low j there in
            omega arith
      ]
    where
      under : (i j : ℕ) → i < suc j → (i ≡ j → ⊥) → i < j
      under i j less other = elim (cases_Bool (ltb i j)) [ inl e ↦ grind (arith, nat_tests) | inr e ↦ absurd (other (at_least i j less e)) ]
        where
          at_least : (i j : ℕ) → i < suc j → ltb i j ≡ false → i ≡ j
          at_least i j less e = grind (arith, nat_tests)

  above_low : (j : ℕ) → ltb j count ≡ true → span.low ≤ low j
  above_low zero there = let is = first_low there in omega arith
  above_low (suc j) there =
      let before = above_low j (earlier j there) in
      let some = (part j (earlier j there)).some in
      let next = next_low j there in
      omega arith

  -- each but the last ends before the last begins
  below_high : (last j : ℕ) → count ≡ suc last → ltb j count ≡ true → high j ≤ span.high
  below_high last j is there =
      let ends : high last ≡ span.high = end_of last is (part last (last_there last is)).end in
      elim (number_or_other j last) [
        | inl e ↦ let same : high j ≡ high last = ap high e.0 in omega arith
        | inr o ↦
            let before = in_order j last (under j last count is there o.0) (last_there last is) in
            let some = (part last (last_there last is)).some in
            omega arith
      ]
    where
      last_there : (last : ℕ) → count ≡ suc last → ltb last count ≡ true
      last_there last is = grind (arith, nat_tests)

      end_of : (last : ℕ) → count ≡ suc last → (suc last < count) ⊎ (high last ≡ span.high) → high last ≡ span.high
      end_of last is (inl less) = absurd (omega arith)
      end_of last is (inr e) = e

      under : (j last count : ℕ) → count ≡ suc last → ltb j count ≡ true → (j ≡ last → ⊥) → j < last
      under j last count is there other = elim (cases_Bool (ltb j last)) [ inl e ↦ grind (arith, nat_tests) | inr e ↦ absurd (other (at_least j last count is there e)) ]
        where
          at_least : (j last count : ℕ) → count ≡ suc last → ltb j count ≡ true → ltb j last ≡ false → j ≡ last
          at_least j last count is there e = grind (arith, nat_tests)

  -- a number from the span's low end up to a child's high end is in that child's part or in an earlier one
  found_at : (j n : ℕ) → ltb j count ≡ true → span.low ≤ n → n ≤ high j → (i : ℕ) × (ltb i count ≡ true) × (low i ≤ n) × (n ≤ high i)
  found_at zero n there from to = (0, there, (let is = first_low there in omega arith), to)
  found_at (suc j) n there from to =
      elim (cases_Bool (leb n (high j))) [
        | inl e ↦ found_at j n (earlier j there) from (at_most n (high j) e)
        | inr e ↦ (suc j, there, reached (high j) n (low (suc j)) e (next_low j there), to)
      ]
    where
      reached : (a n b : ℕ) → leb n a ≡ false → b ≡ suc a → b ≤ n
      reached a n b e is = grind (arith, nat_tests)

  pub tiles-cover : ltb 0 count ≡ true → (k : Key) → in_span span k ≡ true → (j : ℕ) × (has_pointer (Inner count) j ≡ true) × (in_span (child d s j).span k ≡ true)
  tiles-cover some k inside =
      let at = in_span-parts span k inside in
      let last = before count some in
      let there = under last.0 count last.1 in
      let ends : high last.0 ≡ span.high = end_of last.0 last.1 (part last.0 there).end in
      let r = found_at last.0 k.key there at.1 (up k.key span.high (high last.0) at.2 ends) in
      (r.0, r.1, in_span-from (child d s r.0).span k (at.0 ∙ sym (part r.0 r.1).storage) r.2 r.3)
    where
      before : (n : ℕ) → ltb 0 n ≡ true → (l : ℕ) × (n ≡ suc l)
      before zero e = absurd (none e)
        where
          none : ltb 0 0 ≡ true → ⊥
          none e = grind (arith, nat_tests)
      before (suc l) e = (l, refl)

      under : (l n : ℕ) → n ≡ suc l → ltb l n ≡ true
      under l n is = grind (arith, nat_tests)

      end_of : (last : ℕ) → count ≡ suc last → (suc last < count) ⊎ (high last ≡ span.high) → high last ≡ span.high
      end_of last is (inl less) = absurd (omega arith)
      end_of last is (inr e) = e

      up : (a b c : ℕ) → a ≤ b → c ≡ b → a ≤ c
      up a b c le is = omega arith

  pub tiles-within : ltb 0 count ≡ true → (j : ℕ) (k : Key) → has_pointer (Inner count) j ≡ true → in_span (child d s j).span k ≡ true → in_span span k ≡ true
  tiles-within some j k there inside =
      let at = in_span-parts (child d s j).span k inside in
      let last = before count some in
      let from = above_low j there in
      let to = below_high last.0 j last.1 there in
      in_span-from span k (at.0 ∙ (part j there).storage) (through span.low (low j) k.key from at.1) (through k.key (high j) span.high at.2 to)
    where
      before : (n : ℕ) → ltb 0 n ≡ true → (l : ℕ) × (n ≡ suc l)
      before zero e = absurd (none e)
        where
          none : ltb 0 0 ≡ true → ⊥
          none e = grind (arith, nat_tests)
      before (suc l) e = (l, refl)

      through : (a b c : ℕ) → a ≤ b → b ≤ c → a ≤ c
      through a b c x y = omega arith

  pub tiles-apart : (i j : ℕ) (k : Key) → has_pointer (Inner count) i ≡ true → has_pointer (Inner count) j ≡ true
      → in_span (child d s i).span k ≡ true → in_span (child d s j).span k ≡ true → i ≡ j
  tiles-apart i j k ti tj ini inj =
      let ai = in_span-parts (child d s i).span k ini in
      let aj = in_span-parts (child d s j).span k inj in
      elim (cases_Bool (ltb i j)) [
        | inl e ↦ let o = in_order i j (less i j e) tj in absurd (clash (high i) (low j) k.key o ai.2 aj.1)
        | inr e ↦ elim (cases_Bool (ltb j i)) [
          | inl f ↦ let o = in_order j i (less j i f) ti in absurd (clash (high j) (low i) k.key o aj.2 ai.1)
          | inr f ↦ same i j e f
        ]
      ]
    where
      less : (a b : ℕ) → ltb a b ≡ true → a < b
      less a b e = grind (arith, nat_tests)

      clash : (a b n : ℕ) → a < b → n ≤ a → b ≤ n → ⊥
      clash a b n x y z = omega arith

      same : (a b : ℕ) → ltb a b ≡ false → ltb b a ≡ false → a ≡ b
      same a b e f = grind (arith, nat_tests)
