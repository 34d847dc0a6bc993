-- A scan has 16 rows at most: a state that has what was seen gives them.
use Rattle.std.proofs.Common.{◌≡◌, ◌∙◌, ◌≤◌, ◌++◌, sym, ap, subst, refl, ℕ, zero, suc, Bool, true, false, cond, inl}
use Rattle.std.proofs.Common.{inr}
use Rattle.std.proofs.Common.{List, [], ◌∷◌, length, map, take, Option, Some, None, arith}
use Rattle.std.specs.Prelude.{Contains, filter, find, if◌then◌else◌, option_map}
use Rattle.std.specs.FinMap.{empty, entries, get, get-empty, get-insert, insert}
use Rattle.std.specs.Cmp.{tied_itself}
use Rattle.std.specs.Ordering.{eq_by_cmp, is_eq}
use Rattle.std.proofs.lemmas.List.Elements.{Contains-append_left, Contains-append_right}
use Rattle.lists.specs.Elements.{in_cases, in_head, in_none, in_tail}
use Rattle.serial_model.specs.declared.key.Key.{Key}
use Rattle.serial_model.specs.declared.number.Change.{Change}
use Rattle.serial_model.specs.KeyOrder.{keys_total, same_by_test}
use Rattle.serial_model.specs.Keys.{key_cmp}
use Rattle.serial_model.specs.State.{State, is_within}
use Rattle.homes.specs.declared.places.Content.{Content}
use Rattle.homes.specs.Homes.{same_key}
use Rattle.homes.specs.Laws.{same_key-true}
use Rattle.commit_core.specs.declared.part.Part.{Part}
use Rattle.commit_core.specs.Keys.{content_at, written}
use Rattle.serial_bridge.specs.Transaction.{IsScanned, Sees, SeesRows}

-- ---- a state that has these values at these keys

module _ (value_at : Key → Option ℕ) where
  abbrev put_at : State → Key → Option ℕ → State
  put_at s k None = s
  put_at s k (Some v) = insert s k v

  abbrev state_of : List Key → State
  state_of [] = empty
  state_of (k ∷ ks) = put_at (state_of ks) k (value_at k)

  -- it has no others
  has_own : (ks : List Key) (q : Key) (v : ℕ) → get (state_of ks) q ≡ Some v → value_at q ≡ Some v
  has_own [] q v is = absurd (let none : None ≡ Some v = sym (get-empty key_cmp q) ∙ is in cc)
  has_own (k ∷ ks) q v is = by_value (value_at k) refl (has_own ks q v) is
    where
      by_test : (b : Bool) (w : ℕ) → value_at k ≡ Some w → eq_by_cmp key_cmp q k ≡ b
          → (get (state_of ks) q ≡ Some v → value_at q ≡ Some v)
          → cond b (Some w) (get (state_of ks) q) ≡ Some v → value_at q ≡ Some v
      by_test true w at same rest is = ap value_at (same_by_test q k same) ∙ (at ∙ is)
      by_test false w at other rest is = rest is

      by_value : (o : Option ℕ) → value_at k ≡ o → (get (state_of ks) q ≡ Some v → value_at q ≡ Some v)
          → get (put_at (state_of ks) k o) q ≡ Some v → value_at q ≡ Some v
      by_value None at rest is = rest is
      by_value (Some w) at rest is =
          by_test (eq_by_cmp key_cmp q k) w at refl rest (sym (get-insert keys_total (state_of ks) k w q) ∙ is)

  -- and it has these
  gives : (ks : List Key) (q : Key) (v : ℕ) → Contains ks q → value_at q ≡ Some v → get (state_of ks) q ≡ Some v
  gives [] q v has is = absurd (in_none q has)
  gives (k ∷ ks) q v has is = by_value (value_at k) refl (λ more. gives ks q v more is)
    where
      by_test : (b : Bool) (w : ℕ) → value_at k ≡ Some w → eq_by_cmp key_cmp q k ≡ b
          → get (state_of ks) q ≡ Some v → cond b (Some w) (get (state_of ks) q) ≡ Some v
      by_test true w at same rest = sym at ∙ (ap value_at (sym (same_by_test q k same)) ∙ is)
      by_test false w at other rest = rest

      by_value : (o : Option ℕ) → value_at k ≡ o → (Contains ks q → get (state_of ks) q ≡ Some v)
          → get (put_at (state_of ks) k o) q ≡ Some v
      by_value None at rest = elim (in_cases q k ks has) [
        | inl same ↦ absurd (let none : None ≡ Some v = sym at ∙ (ap value_at same ∙ is) in cc)
        | inr more ↦ rest more
      ]
      by_value (Some w) at rest = elim (in_cases q k ks has) [
        | inl same ↦
            subst (λ (x : Key). get (insert (state_of ks) k w) x ≡ Some v) same
            (get-insert keys_total (state_of ks) k w k
            ∙ (ap (λ r. cond (is_eq r) (Some w) (get (state_of ks) k)) (tied_itself keys_total k)
            ∙ (sym at ∙ (ap value_at same ∙ is))))
        | inr more ↦
            get-insert keys_total (state_of ks) k w q ∙ by_test (eq_by_cmp key_cmp q k) w at refl (rest more)
      ]

  -- so it agrees at each key at which a value stands only where the key is among them
  agrees : (ks : List Key) (q : Key) → ((v : ℕ) → value_at q ≡ Some v → Contains ks q)
      → get (state_of ks) q ≡ value_at q
  agrees ks q among = of (value_at q) refl (get (state_of ks) q) refl
    where
      of : (o : Option ℕ) → value_at q ≡ o → (got : Option ℕ) → get (state_of ks) q ≡ got
          → get (state_of ks) q ≡ value_at q
      of (Some v) at got is = gives ks q v (among v at) at ∙ sym at
      of None at None is = is ∙ sym at
      of None at (Some w) is = absurd (let none : None ≡ Some w = sym at ∙ has_own ks q w is in cc)

-- ---- the keys at which a value is seen

in_pairs : (pairs : List (Key × Content)) (q : Key) (v : ℕ) → (content_at pairs q).value ≡ Some v
    → Contains (map (λ (e : Key × Content). e.0) pairs) q
in_pairs [] q v is = absurd cc
in_pairs (e ∷ pairs) q v is = by_test (same_key e.0 q) refl (in_pairs pairs q v)
  where
    by_test : (b : Bool) → same_key e.0 q ≡ b
        → ((content_at pairs q).value ≡ Some v → Contains (map (λ (e : Key × Content). e.0) pairs) q)
        → Contains (e.0 ∷ map (λ (e : Key × Content). e.0) pairs) q
    by_test true same rest =
        subst (λ (x : Key). Contains (e.0 ∷ map (λ (e : Key × Content). e.0) pairs) x) (same_key-true e.0 q same)
        (in_head e.0 (map (λ (e : Key × Content). e.0) pairs))
    by_test false other rest =
        in_tail q e.0 (map (λ (e : Key × Content). e.0) pairs) (rest
        (subst (λ b. (let c : Content = if b then e.1 else content_at pairs q in c).value ≡ Some v) other is))

in_own : (own : List Change) (q : Key) (value : Option ℕ) → written q own ≡ Some value
    → Contains (map (λ (w : Change). w.key) own) q
in_own [] q value is = absurd cc
in_own (w ∷ own) q value is = by_test (same_key w.key q) refl (in_own own q value)
  where
    by_test : (b : Bool) → same_key w.key q ≡ b
        → (written q own ≡ Some value → Contains (map (λ (w : Change). w.key) own) q)
        → Contains (w.key ∷ map (λ (w : Change). w.key) own) q
    by_test true same rest =
        subst (λ (x : Key). Contains (w.key ∷ map (λ (w : Change). w.key) own) x) (same_key-true w.key q same)
        (in_head w.key (map (λ (w : Change). w.key) own))
    by_test false other rest =
        in_tail q w.key (map (λ (w : Change). w.key) own) (rest
        (subst (λ b. option_map (λ (w : Change). w.value) (if b then Some w else find (λ (w : Change). same_key w.key q)
        own) ≡ Some value) other is))

abbrev keys_in : List Part → List Key
keys_in [] = []
keys_in (part ∷ parts) = map (λ (e : Key × Content). e.0) part.pairs ++ keys_in parts

in_parts : (parts : List Part) (part : Part) (q : Key) → Contains parts part
    → Contains (map (λ (e : Key × Content). e.0) part.pairs) q → Contains (keys_in parts) q
in_parts [] part q among has = absurd (in_none part among)
in_parts (x ∷ parts) part q among has = elim (in_cases part x parts among) [
  | inl same ↦
      Contains-append_left (map (λ (e : Key × Content). e.0) x.pairs) (keys_in parts) q
      (subst (λ (p : Part). Contains (map (λ (e : Key × Content). e.0) p.pairs) q) (sym same) has)
  | inr more ↦
      Contains-append_right (map (λ (e : Key × Content). e.0) x.pairs) (keys_in parts) q
      (in_parts parts part q more has)
]

abbrev seen_keys : List Part → List Change → List Key
seen_keys parts own = map (λ (w : Change). w.key) own ++ keys_in parts

is_seen : (parts : List Part) (own : List Change) (q : Key) (value : Option ℕ) (v : ℕ) → Sees parts own q value
    → value ≡ Some v → Contains (seen_keys parts own) q
is_seen parts own q value v (inl mine) is =
    Contains-append_left (map (λ (w : Change). w.key) own) (keys_in parts) q (in_own own q value mine)
is_seen parts own q value v (inr other) is =
    let vouched = other.1 in
    Contains-append_right (map (λ (w : Change). w.key) own) (keys_in parts) q
    (in_parts parts vouched.part q vouched.among (in_pairs vouched.part.pairs q v (vouched.has ∙ is)))

-- ---- the rows

short_take : {X : Type 0} (n : ℕ) (xs : List X) → length (take n xs) ≤ n
short_take zero xs = omega arith
short_take (suc n) [] = omega arith
short_take (suc n) (x ∷ xs) = omega (arith, short_take n xs)

pub rows_few : (parts : List Part) (own : List Change) (storage low high : ℕ) (rows : List (ℕ × ℕ))
    → SeesRows parts own storage low high rows → length rows ≤ 16
rows_few parts own storage low high rows sees =
    let s : State = state_of sees.value_at (seen_keys parts own) in
    let is = sees.given s (λ k scanned. agrees sees.value_at (seen_keys parts own) k
    (λ v at. is_seen parts own k (sees.value_at k) v (sees.covered k scanned) at)) in
    omega (
      arith,
      ap length is,
      short_take {X = ℕ × ℕ} 16 (map (λ (e : Key × ℕ). (e.0.key, e.1))
          (filter (λ (e : Key × ℕ). is_within storage low high e.0) (entries s))),
    )
