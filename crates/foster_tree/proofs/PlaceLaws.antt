-- Where the record of the new key stands among those in order, and in its half.
use Rattle.std.proofs.Common.{◌≡◌, ℕ, zero, suc, ◌+◌, ◌-◌, ◌<◌, ◌≤◌, Bool, true, false, List, [], ◌∷◌, length, map}
use Rattle.std.proofs.Common.{take, drop, get_or, refl, sym, ap, ◌∙◌, subst, arith, Some}
use Rattle.std.specs.Prelude.{nat_lt}
use Rattle.std.specs.List.{Contains, slice_get}
use Rattle.std.proofs.lemmas.Bool.Decides.{nat_tests}
use Rattle.std.proofs.lemmas.List.{get_or-drop, get_or-take, length-drop, length-take-le}
use Rattle.std.proofs.lemmas.List.Elements.{Contains-get_or}
use Rattle.std.proofs.lemmas.List.Sorted.{Contains-permutation, length_permutation}
use Rattle.lists.specs.Elements.{in_head, in_tail}
use Rattle.serial_model.specs.declared.key.Key.{Key}
use Rattle.homes.specs.declared.places.Span.{Span}
use Rattle.homes.specs.Homes.{in_span}
use Rattle.drop_core.specs.Event.{lower_span, upper_span}
use Rattle.engine_pages.specs.declared.view.View.{View}
use Rattle.foster_tree.specs.declared.entries.Entry.{Entry}
use Rattle.foster_tree.specs.Adding.{new_entry}
use Rattle.foster_tree.specs.Entries.{key_of, AreInOrder}
use Rattle.foster_tree.specs.Filling.{no_entry}
use Rattle.foster_tree.specs.Splitting.{lower_of, separator_of, upper_of, AreMoved}
use Rattle.foster_tree.proofs.AddLaws.{storage_of}
use Rattle.foster_tree.proofs.MoveLaws.{parted}
use Rattle.foster_tree.proofs.OrderLaws.{below_ninth, from_ninth, same_default, AreSorted}
use Rattle.foster_tree.proofs.PartLaws.{span_bounds, span_has}

-- ---- lists

-- an item that isn't among the first ones is one of the others
in_drop : (es : List Entry) (n i : ℕ) → n ≤ i → i < length es → Contains (drop n es) (get_or es i no_entry)
in_drop es zero i le less = Contains-get_or es i no_entry less
in_drop [] (suc n) i le less = absurd (omega (arith, less))
in_drop (e ∷ es) (suc n) zero le less = absurd (omega (arith, le))
in_drop (e ∷ es) (suc n) (suc i) le less = in_drop es n i (omega (arith, le)) (omega (arith, less))

-- one that is stands there
in_take : (es : List Entry) (n i : ℕ) → i < n → i < length es → Contains (take n es) (get_or es i no_entry)
in_take es zero i under less = absurd (omega (arith, under))
in_take [] (suc n) i under less = absurd (omega (arith, less))
in_take (e ∷ es) (suc n) zero under less = in_head e (take n es)
in_take (e ∷ es) (suc n) (suc i) under less =
    in_tail (get_or es i no_entry) e (take n es) (in_take es n i (omega (arith, under)) (omega (arith, less)))

-- what a function gives for the item at an index
map_there : {A B : Type 0} (f : A → B) (xs : List A) (n : ℕ) (d : A) → n < length xs
    → slice_get (map f xs) n ≡ Some (f (get_or xs n d))
map_there f [] n d less = absurd (omega (arith, less))
map_there f (x ∷ xs) zero d less = refl
map_there f (x ∷ xs) (suc n) d less = map_there f xs n d (omega (arith, less))

-- ---- the place

-- the key's record is among those in order
pub new_there : (v : View) (t : ℕ) (sp : Span) (keys : List Key) (k : Key) (entries sorted : List Entry)
    → AreMoved v t sp keys k entries → AreInOrder entries sorted
    → (i : ℕ) × (i < 17) × ((get_or sorted i no_entry).key ≡ k.key)
new_there v t sp keys k entries sorted are order =
    let there : Contains entries (new_entry k) =
    subst (λ (e : Entry). Contains entries e) are.last
    (Contains-get_or entries 16 no_entry (let many = are.many in omega (arith, many))) in
    let has = Contains-permutation entries sorted (new_entry k) order.same there in (
      has.0,
      (let less = has.1 in
          let same = length_permutation entries sorted order.same in
          let many = are.many in omega (arith, less, same, many)),
      ap (λ (e : Entry). e.key) (same_default sorted has.0 no_entry (new_entry k) has.1 ∙ has.2),
    )

-- a record whose key is below the separator is one of the first eight
pub place_low : (sorted : List Entry) (i : ℕ) → AreSorted sorted → i < 17
    → (get_or sorted i no_entry).key < separator_of sorted → i < 8
place_low sorted i are within below = by_test (nat_lt i 8) refl
  where
    by_test : (b : Bool) → nat_lt i 8 ≡ b → i < 8
    by_test true low = grind (arith, nat_tests)
    by_test false high =
        let le : 8 ≤ i = grind (arith, nat_tests) in
        let many = are.many in
        let above = from_ninth sorted (get_or sorted i no_entry) are
        (in_drop sorted 8 i le (omega (arith, within, many))) in
        absurd (omega (arith, above, below))

-- any other one isn't
pub place_high : (sorted : List Entry) (i : ℕ) → AreSorted sorted → i < 17
    → separator_of sorted ≤ (get_or sorted i no_entry).key → 8 ≤ i
place_high sorted i are within above = by_test (nat_lt i 8) refl
  where
    by_test : (b : Bool) → nat_lt i 8 ≡ b → 8 ≤ i
    by_test false high = grind (arith, nat_tests)
    by_test true low =
        let less : i < 8 = grind (arith, nat_tests) in
        let many = are.many in
        let below = below_ninth sorted (get_or sorted i no_entry) are
        (in_take sorted 8 i less (omega (arith, within, many))) in
        absurd (omega (arith, above, below))

-- ---- in its half

module _ (v : View) (t : ℕ) (sp : Span) (keys : List Key) (k : Key) (entries sorted : List Entry)
    (are : AreMoved v t sp keys k entries) (order : AreInOrder entries sorted) where
  pub ordered : AreSorted sorted
  ordered = (parted v t sp keys k entries are sorted order).order

  -- the key's number, in the span's storage, is the key
  new_is : key_of sp.storage (new_entry k) ≡ k
  new_is = ap (λ (n : ℕ). (let x : Key = record { storage = n; key = k.key } in x)) (sym (storage_of sp k are.own))

  entry_is : (i : ℕ) → (get_or sorted i no_entry).key ≡ k.key → key_of sp.storage (get_or sorted i no_entry) ≡ k
  entry_is i same = ap (λ (n : ℕ). (let x : Key = record { storage = sp.storage; key = n } in x)) same ∙ new_is

  -- the record's index in the first half
  pub low_key : (minor i : ℕ) → i < 8 → (get_or sorted i no_entry).key ≡ k.key
      → slice_get (lower_of minor sp sorted).keys i ≡ Some k
  low_key minor i few same =
      map_there (key_of sp.storage) (take 8 sorted) i no_entry
      (let many = ordered.many in
      let short = length-take-le 8 sorted (omega (arith, many)) in omega (arith, short, few))
      ∙ (ap (λ (e : Entry). Some (key_of sp.storage e)) (get_or-take 8 sorted i no_entry few)
      ∙ ap (λ (q : Key). Some q) (entry_is i same))

  -- and in the second
  pub high_key : (major i j : ℕ) → i < 17 → i ≡ 8 + j → (get_or sorted i no_entry).key ≡ k.key
      → slice_get (upper_of major sp sorted).keys j ≡ Some k
  high_key major i j within is same =
      map_there (key_of sp.storage) (drop 8 sorted) j no_entry
      (let many = ordered.many in
      let left = length-drop 8 sorted in omega (arith, many, left, within, is))
      ∙ (ap (λ (e : Entry). Some (key_of sp.storage e)) (get_or-drop 8 sorted j no_entry)
      ∙ (ap (λ (n : ℕ). Some (key_of sp.storage (get_or sorted n no_entry))) (sym is)
      ∙ ap (λ (q : Key). Some q) (entry_is i same)))

  -- the half is made for the key
  pub low_inside : (minor : ℕ) → k.key < separator_of sorted → in_span (lower_of minor sp sorted).span k ≡ true
  low_inside minor below =
      let bounds = span_bounds sp k are.own in
      subst (λ (q : Key). in_span (lower_span sp (separator_of sorted)) q ≡ true) new_is
      (span_has (lower_span sp (separator_of sorted)) (new_entry k) bounds.0 (omega (arith, below)))

  pub high_inside : (major : ℕ) → separator_of sorted ≤ k.key → in_span (upper_of major sp sorted).span k ≡ true
  high_inside major above =
      let bounds = span_bounds sp k are.own in
      subst (λ (q : Key). in_span (upper_span sp (separator_of sorted)) q ≡ true) new_is
      (span_has (upper_span sp (separator_of sorted)) (new_entry k) above bounds.1)
