-- The tests are true of what is equal and of nothing else, and moves do what they say.
use Rattle.std.proofs.Common.{◌≡◌, ℕ, ◌≤◌, Bool, true, false, true≢false, eqb, eq-eqb, eqb-true, ◌⊎◌, inl, inr, List, [], ◌∷◌, Option, None, Some, refl, sym, ap, ◌∙◌, subst}
use Rattle.std.specs.Prelude.{◌&&◌, ◌||◌, nat_le}
use Rattle.std.specs.List.{find}
use Rattle.std.specs.Option.{option_map_or}
use Rattle.std.proofs.lemmas.Bool.{and_parts, and_from, cases_Bool, or_left, or_right, cond-true, cond-false, false_from_ne_true, le-leb, leb-true}
use Rattle.serial_model.specs.declared.key.Key.{Key}
use Rattle.homes.specs.declared.places.Content.{Content}
use Rattle.homes.specs.declared.places.Spot.{Spot}
use Rattle.homes.specs.declared.places.Span.{Span}
use Rattle.homes.specs.declared.places.At.{At}
use Rattle.homes.specs.declared.places.At.TheVariants.{Root, In}
use Rattle.homes.specs.declared.places.Home.{Home}
use Rattle.homes.specs.declared.places.Home.TheVariants.{InSlot, InPage, Nowhere}
use Rattle.homes.specs.Homes.{look, same_key, same_value, same_content, same_spot, same_at, same_home, has_key, in_span, moved, moves_to}

-- ---- equal things pass

-- a key passes with itself
pub same_key-self : (k : Key) → same_key k k ≡ true
same_key-self k = and_from (eqb k.storage k.storage) (eqb k.key k.key) (eq-eqb k.storage k.storage refl) (eq-eqb k.key k.key refl)

-- and a place
pub same_spot-self : (x : Spot) → same_spot x x ≡ true
same_spot-self x = and_from (eqb x.slot x.slot) (eqb x.index x.index) (eq-eqb x.slot x.slot refl) (eq-eqb x.index x.index refl)

-- and a pointer
pub same_at-self : (x : At) → same_at x x ≡ true
same_at-self (Root r) = eq-eqb r r refl
same_at-self (In x) = same_spot-self x

-- ---- and no others

-- keys that pass are one
pub same_key-true : (a b : Key) → same_key a b ≡ true → a ≡ b
same_key-true a b e =
    let parts = and_parts (eqb a.storage b.storage) (eqb a.key b.key) e in
    ap (λ (s : ℕ). let k : Key = record { storage = s; key = a.key } in k) (eqb-true a.storage b.storage parts.0)
    ∙ ap (λ (n : ℕ). let k : Key = record { storage = b.storage; key = n } in k) (eqb-true a.key b.key parts.1)

-- and places
pub same_spot-true : (a b : Spot) → same_spot a b ≡ true → a ≡ b
same_spot-true a b e =
    let parts = and_parts (eqb a.slot b.slot) (eqb a.index b.index) e in
    ap (λ (s : ℕ). let k : Spot = record { slot = s; index = a.index } in k) (eqb-true a.slot b.slot parts.0)
    ∙ ap (λ (n : ℕ). let k : Spot = record { slot = b.slot; index = n } in k) (eqb-true a.index b.index parts.1)

-- and pointers
pub same_at-true : (a b : At) → same_at a b ≡ true → a ≡ b
same_at-true (Root a) (Root b) e = ap (λ (n : ℕ). Root n) (eqb-true a b e)
same_at-true (Root a) (In y) e = absurd (true≢false (sym e))
same_at-true (In x) (Root b) e = absurd (true≢false (sym e))
same_at-true (In x) (In y) e = ap (λ (z : Spot). In z) (same_spot-true x y e)

-- and values
pub same_value-true : (a b : Option ℕ) → same_value a b ≡ true → a ≡ b
same_value-true None None e = refl
same_value-true None (Some y) e = absurd (true≢false (sym e))
same_value-true (Some x) None e = absurd (true≢false (sym e))
same_value-true (Some x) (Some y) e = ap (λ (n : ℕ). Some n) (eqb-true x y e)

content_of : ℕ → ℕ → Option ℕ → Content
content_of epoch draw value = record { number = record { epoch = epoch; draw = draw }; value = value }

-- and contents
pub same_content-true : (a b : Content) → same_content a b ≡ true → a ≡ b
unfolding content_of
same_content-true a b e =
    let parts = and_parts (eqb a.number.epoch b.number.epoch) ((eqb a.number.draw b.number.draw) && same_value a.value b.value) e in
    let rest = and_parts (eqb a.number.draw b.number.draw) (same_value a.value b.value) parts.1 in
    ap (λ (n : ℕ). content_of n a.number.draw a.value) (eqb-true a.number.epoch b.number.epoch parts.0)
    ∙ ap (λ (n : ℕ). content_of b.number.epoch n a.value) (eqb-true a.number.draw b.number.draw rest.0)
    ∙ ap (λ (v : Option ℕ). content_of b.number.epoch b.number.draw v) (same_value-true a.value b.value rest.1)

-- and homes
pub same_home-true : (a b : Home) → same_home a b ≡ true → a ≡ b
same_home-true (InSlot x) (InSlot y) e = ap (λ (z : Spot). InSlot z) (same_spot-true x y e)
same_home-true (InSlot x) (InPage m f) e = absurd (true≢false (sym e))
same_home-true (InSlot x) Nowhere e = absurd (true≢false (sym e))
same_home-true (InPage n c) (InSlot y) e = absurd (true≢false (sym e))
same_home-true (InPage n c) (InPage m f) e =
    let parts = and_parts (eqb n m) (same_content c f) e in
    ap (λ (l : ℕ). InPage l c) (eqb-true n m parts.0) ∙ ap (λ (x : Content). InPage m x) (same_content-true c f parts.1)
same_home-true (InPage n c) Nowhere e = absurd (true≢false (sym e))
same_home-true Nowhere (InSlot y) e = absurd (true≢false (sym e))
same_home-true Nowhere (InPage m f) e = absurd (true≢false (sym e))
same_home-true Nowhere Nowhere e = refl

-- ---- two things are the same or not

-- two pointers, as the test tells
pub at_or_other : (a b : At) → ((a ≡ b) × (same_at a b ≡ true)) ⊎ ((a ≡ b → ⊥) × (same_at a b ≡ false))
at_or_other a b =
    elim (cases_Bool (same_at a b)) [
      | inl hit ↦ inl (same_at-true a b hit, hit)
      | inr miss ↦ inr (λ e. true≢false (sym (subst (λ (x : At). same_at a x ≡ true) e (same_at-self a)) ∙ miss), miss)
    ]

-- two numbers, as the test tells
pub number_or_other : (a b : ℕ) → ((a ≡ b) × (eqb a b ≡ true)) ⊎ ((a ≡ b → ⊥) × (eqb a b ≡ false))
number_or_other a b =
    elim (cases_Bool (eqb a b)) [
      | inl hit ↦ inl (eqb-true a b hit, hit)
      | inr miss ↦ inr (λ e. true≢false (sym (eq-eqb a b e) ∙ miss), miss)
    ]

-- ---- spans

-- a key in a span is of its storage, and from its low end to its high one
pub in_span-parts : (s : Span) (k : Key) → in_span s k ≡ true → (k.storage ≡ s.storage) × (s.low ≤ k.key) × (k.key ≤ s.high)
in_span-parts s k test =
    let whole = and_parts (eqb k.storage s.storage) (nat_le s.low k.key && nat_le k.key s.high) test in
    let ends = and_parts (nat_le s.low k.key) (nat_le k.key s.high) whole.1 in
    (eqb-true k.storage s.storage whole.0, leb-true s.low k.key ends.0, leb-true k.key s.high ends.1)

-- and each such key is in it
pub in_span-from : (s : Span) (k : Key) → k.storage ≡ s.storage → s.low ≤ k.key → k.key ≤ s.high → in_span s k ≡ true
in_span-from s k storage low high =
    and_from (eqb k.storage s.storage) (nat_le s.low k.key && nat_le k.key s.high) (eq-eqb k.storage s.storage storage)
    (and_from (nat_le s.low k.key) (nat_le k.key s.high) (le-leb s.low k.key low) (le-leb k.key s.high high))

-- ---- look-ups

-- what is looked up is the first entry that is found
pub look-found : {K V : Type 0} (same : K → K → Bool) (d : V) (xs : List (K × V)) (q : K) → look same d xs q ≡ option_map_or (λ e. e.1) (find (λ e. same e.0 q) xs) d
look-found same d [] q = refl
look-found same d (e ∷ more) q =
    elim (cases_Bool (same e.0 q)) [
      | inl hit ↦ rw hit refl
      | inr miss ↦ rw miss (look-found same d more q)
    ]

-- ---- moves

-- a key that moves is where it goes
pub moved-there : (to : Key → Home) (keys : List Key) (homes : Key → Home) (k : Key) → has_key keys k ≡ true → moved (moves_to to keys) homes k ≡ to k
moved-there to [] homes k hit = absurd (true≢false (sym hit))
moved-there to (x ∷ more) homes k hit =
    elim (cases_Bool (same_key x k)) [
      | inl same ↦ cond-true (same_key x k) (to x) (moved (moves_to to more) homes k) same ∙ ap to (same_key-true x k same)
      | inr other ↦ cond-false (same_key x k) (to x) (moved (moves_to to more) homes k) other
          ∙ moved-there to more homes k (sym (ap (λ (b : Bool). b || has_key more k) other) ∙ hit)
    ]

-- and any other where it was
pub moved-other : (to : Key → Home) (keys : List Key) (homes : Key → Home) (k : Key) → has_key keys k ≡ false → moved (moves_to to keys) homes k ≡ homes k
moved-other to [] homes k miss = refl
moved-other to (x ∷ more) homes k miss =
    cond-false (same_key x k) (to x) (moved (moves_to to more) homes k)
    (false_from_ne_true (same_key x k) (λ e. true≢false (sym (or_left (same_key x k) (has_key more k) e) ∙ miss)))
    ∙ moved-other to more homes k (false_from_ne_true (has_key more k) (λ e. true≢false (sym (or_right (same_key x k) (has_key more k) e) ∙ miss)))
