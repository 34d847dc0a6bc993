-- A page of pointers that was copied from a snapshot page may stand for it: the tests of an install.
use Rattle.std.proofs.Common.{◌≡◌, ◌⊎◌, inl, inr, ℕ, zero, suc, ◌+◌, ◌-◌, ◌*◌, ◌<◌, ◌≤◌, Bool, true, false, cond, eqb, eq-eqb}
use Rattle.std.proofs.Common.{ltb, leb, not, List, [], ◌∷◌, length, refl, sym, ap, ◌∙◌, subst, arith, Option, Some, None}
use Rattle.std.specs.Prelude.{◌&&◌, ◌||◌, is_none}
use Rattle.std.specs.List.{list_all, slice_get}
use Rattle.std.specs.Option.{option_map_or}
use Rattle.std.proofs.lemmas.Bool.{and_from, and_parts, cases_Bool}
use Rattle.std.proofs.lemmas.Bool.Decides.{nat_tests}
use Rattle.serial_model.specs.declared.key.Key.{Key}
use Rattle.homes.specs.declared.places.Holder.TheVariants.{Free}
use Rattle.homes.specs.declared.places.Home.{Home}
use Rattle.homes.specs.declared.places.Home.TheVariants.{InSlot, InPage, Nowhere}
use Rattle.homes.specs.declared.places.Span.{Span}
use Rattle.homes.specs.Homes.{same_span, same_home, in_span, is_free}
use Rattle.homes.specs.Laws.{same_spot-self}
use Rattle.snapshot_store.specs.ArrayPages.{indexes_at, last_at}
use Rattle.drop_core.specs.declared.table.Pointer.{Pointer}
use Rattle.drop_core.specs.declared.table.SnapPage.{SnapPage}
use Rattle.drop_core.specs.declared.table.SnapPage.TheVariants.{Missing, Entries, Children}
use Rattle.drop_core.specs.declared.table.Table.{Table}
use Rattle.drop_core.specs.Event.{all_below, child, begins, is_tile, is_same_at, is_same_child, is_inner_for, is_child_at}
use Rattle.drop_core.specs.Event.{has_children, leads_down, keys_pass}
use Rattle.drop_core.specs.Table.{snap_of, snap_home, snap_walk, snap_step, child_of}
use Rattle.engine_pages.specs.Pages.{child_size, child_span, is_leaf_span}
use Rattle.dual_pointer.proofs.Moves.{pass_all, content-self}

-- the child with a key is a lower page
child_low : (n : ℕ) (k : Key) (children : List (Span × ℕ)) → 0 < n → list_all (λ e. ltb e.1 n) children ≡ true
    → child_of children k < n
child_low n k [] some down = some
child_low n k (e ∷ more) some down =
    let parts = and_parts (ltb e.1 n) (list_all (λ f. ltb f.1 n) more) down in
    by_test (in_span e.0 k) (let low = parts.0 in grind (arith, nat_tests)) (child_low n k more some parts.1)
  where
    by_test : (c : Bool) → e.1 < n → child_of more k < n → cond c e.1 (child_of more k) < n
    by_test true one rest = one
    by_test false one rest = rest

-- ---- tests of all pointers

pub below : (n : ℕ) (test : ℕ → Bool) → ((j : ℕ) → j < n → test j ≡ true) → all_below n test ≡ true
below zero test each = refl
below (suc n) test each = and_from (test n) (all_below n test) (each n (omega arith)) (below n test (λ j less. each j (omega arith)))

-- ---- homes

pub home-self : (h : Home) → same_home h h ≡ true
home-self (InSlot x) = same_spot-self x
home-self (InPage n c) = and_from (eqb n n) _ (eq-eqb n n refl) (content-self c)
home-self Nowhere = refl

module _ (d : Table) (zero-is : snap_of d 0 ≡ Missing) (down : (i : ℕ) → 0 < i → i ≤ d.published → leads_down i (snap_of d i) ≡ true) (k : Key) where
  -- more steps than the page's number don't matter
  walk_two : (b f g n : ℕ) → n ≤ b → n ≤ f → n ≤ g → n ≤ d.published → snap_walk f (snap_of d) n k ≡ snap_walk g (snap_of d) n k
  unfolding snap_walk
  walk_two b zero zero n low a c past = refl
  walk_two b zero (suc g) n low a c past =
      let none : n ≡ 0 = omega arith in
      sym (ap (snap_step (λ m q. snap_walk g (snap_of d) m q) n k) (ap (snap_of d) none ∙ zero-is))
  walk_two b (suc f) zero n low a c past =
      let none : n ≡ 0 = omega arith in
      ap (snap_step (λ m q. snap_walk f (snap_of d) m q) n k) (ap (snap_of d) none ∙ zero-is)
  walk_two b (suc f) (suc g) zero low a c past =
      ap (snap_step (λ m q. snap_walk f (snap_of d) m q) 0 k) zero-is
      ∙ sym (ap (snap_step (λ m q. snap_walk g (snap_of d) m q) 0 k) zero-is)
  walk_two zero (suc f) (suc g) (suc n) low a c past = absurd (omega arith)
  walk_two (suc b) (suc f) (suc g) (suc n) low a c past =
      by_page (snap_of d (suc n)) refl (λ e less. walk_two b f g e (omega arith) (omega arith) (omega arith) (omega arith))
    where
      by_page : (page : SnapPage) → snap_of d (suc n) ≡ page
          → ((e : ℕ) → e < suc n → snap_walk f (snap_of d) e k ≡ snap_walk g (snap_of d) e k)
          → snap_step (λ m q. snap_walk f (snap_of d) m q) (suc n) k (snap_of d (suc n)) ≡ snap_step (λ m q. snap_walk g (snap_of d) m q) (suc n) k (snap_of d (suc n))
      by_page Missing is both =
          ap (snap_step (λ m q. snap_walk f (snap_of d) m q) (suc n) k) is ∙ sym (ap (snap_step (λ m q. snap_walk g (snap_of d) m q) (suc n) k) is)
      by_page (Entries sp entries) is both =
          ap (snap_step (λ m q. snap_walk f (snap_of d) m q) (suc n) k) is ∙ sym (ap (snap_step (λ m q. snap_walk g (snap_of d) m q) (suc n) k) is)
      by_page (Children sp children) is both =
          let low = child_low (suc n) k children (omega arith) (subst (λ p. leads_down (suc n) p ≡ true) is (down (suc n) (omega arith) past)) in
          ap (snap_step (λ m q. snap_walk f (snap_of d) m q) (suc n) k) is
          ∙ (both (child_of children k) low ∙ sym (ap (snap_step (λ m q. snap_walk g (snap_of d) m q) (suc n) k) is))

  pub walk_more : (f n : ℕ) → n ≤ f → n ≤ d.published → snap_walk f (snap_of d) n k ≡ snap_walk n (snap_of d) n k
  walk_more f n low past = walk_two n f n n (omega arith) low (omega arith) past

  -- a page of children has the homes that the key's child has
  pub home_below : (n : ℕ) (sp : Span) (children : List (Span × ℕ)) → n ≤ d.published → snap_of d n ≡ Children sp children
      → snap_home d n k ≡ snap_home d (child_of children k) k
  unfolding snap_walk
  home_below zero sp children past is = absurd (no_children (sym zero-is ∙ is))
    where
      no_children : Missing ≡ Children sp children → ⊥
      no_children e = absurd (cc)
  home_below (suc n) sp children past is =
      let low = child_low (suc n) k children (omega arith) (subst (λ p. leads_down (suc n) p ≡ true) is (down (suc n) (omega arith) past)) in
      ap (snap_step (λ m q. snap_walk n (snap_of d) m q) (suc n) k) is
      ∙ walk_more n (child_of children k) (omega arith) (omega arith)

  -- no page has no home
  pub home_missing : (n : ℕ) → snap_of d n ≡ Missing → snap_home d n k ≡ Nowhere
  unfolding snap_walk
  home_missing zero is = refl
  home_missing (suc n) is = ap (snap_step (λ m q. snap_walk n (snap_of d) m q) (suc n) k) is

-- ---- the children of a span in a row

-- the parts of the span are equal, and not empty
pub record IsParted (sp : Span) : Type 0 where
  pub some : 0 < child_size sp
  pub all : sp.high + 1 ≡ sp.low + 64 * child_size sp

-- so it is of a page of some height that isn't a leaf
pub parted : (sp : Span) (height : ℕ) → sp.high ≡ sp.low + last_at height → is_leaf_span sp ≡ false → IsParted sp
parted sp zero exact inner = let far : sp.low + 32 ≤ sp.high = grind (arith, nat_tests) in absurd (omega arith)
parted sp (suc height) exact inner =
    let some = indexes_some height in
    let size : child_size sp ≡ indexes_at height = omega arith in
    record { some = omega (arith, size, some); all = omega (arith, size, some) }
  where
    indexes_some : (height : ℕ) → 0 < indexes_at height
    indexes_some zero = omega arith
    indexes_some (suc height) = let some = indexes_some height in omega (arith, some)

-- the child that has the key
child_is : (sp : Span) (c : ℕ → ℕ) (children : List (Span × ℕ)) (i j : ℕ) (k : Key)
    → ((u : ℕ) → u < length children → slice_get children u ≡ Some (child_span sp (i + u), c (i + u)))
    → 0 < child_size sp → j < length children → in_span (child_span sp (i + j)) k ≡ true → child_of children k ≡ c (i + j)
child_is sp c [] i j k rows some less within = absurd (omega arith)
child_is sp c (e ∷ more) i zero k rows some less within =
    let here : Some e ≡ Some (child_span sp (i + 0), c (i + 0)) = rows 0 (omega arith) in
    let is : e ≡ (child_span sp (i + 0), c (i + 0)) = cc in
    ap (λ (x : Span × ℕ). cond (in_span x.0 k) x.1 (child_of more k)) is
    ∙ ap (λ (b : Bool). cond b (c (i + 0)) (child_of more k)) within
child_is sp c (e ∷ more) i (suc j) k rows some less within =
    let here : Some e ≡ Some (child_span sp (i + 0), c (i + 0)) = rows 0 (omega arith) in
    let is : e ≡ (child_span sp (i + 0), c (i + 0)) = cc in
    let next : (u : ℕ) → (i + 1) + u ≡ i + suc u = λ u. omega arith in
    ap (λ (x : Span × ℕ). cond (in_span x.0 k) x.1 (child_of more k)) is
    ∙ (ap (λ (b : Bool). cond b (c (i + 0)) (child_of more k)) (earlier i j within)
    ∙ (child_is sp c more (i + 1) j k (λ u few. rows (suc u) (omega arith) ∙ ap (λ y. let z : Option (Span × ℕ) = Some (child_span sp y, c y) in z) (sym (next u))) some (omega arith)
    (ap (λ y. in_span (child_span sp y) k) (next j) ∙ within)
    ∙ ap c (next j)))
  where
    earlier : (i j : ℕ) → in_span (child_span sp (i + suc j)) k ≡ true → in_span (child_span sp (i + 0)) k ≡ false
    earlier i j later =
        let parts = and_parts (eqb k.storage sp.storage) (leb (child_span sp (i + suc j)).low k.key && leb k.key (child_span sp (i + suc j)).high) later in
        let low = (and_parts (leb (child_span sp (i + suc j)).low k.key) (leb k.key (child_span sp (i + suc j)).high) parts.1).0 in
        let from : sp.low + (i + suc j) * child_size sp ≤ k.key = grind (arith, nat_tests) in
        let split : (i + suc j) * child_size sp ≡ (i * child_size sp + j * child_size sp) + child_size sp = many i j (child_size sp) in
        let first : (i + 0) * child_size sp ≡ i * child_size sp = ap (λ x. x * child_size sp) (none i) in
        let high : leb k.key (child_span sp (i + 0)).high ≡ false = above k.key ((sp.low + (i + 0) * child_size sp) + (child_size sp - 1)) (omega arith) in
        ap (λ (b : Bool). eqb k.storage sp.storage && (leb (child_span sp (i + 0)).low k.key && b)) high
        ∙ (ap (λ (b : Bool). eqb k.storage sp.storage && b) (and_no (leb (child_span sp (i + 0)).low k.key)) ∙ and_no (eqb k.storage sp.storage))
      where
        none : (i : ℕ) → i + 0 ≡ i
        none i = omega arith

        and_no : (b : Bool) → (b && false) ≡ false
        and_no true = refl
        and_no false = refl

        above : (a c : ℕ) → c < a → leb a c ≡ false
        above a c less = grind (arith, nat_tests)

        many : (i j s : ℕ) → (i + suc j) * s ≡ (i * s + j * s) + s
        many i j s = omega arith

-- ---- the tests

-- the pointers of slot t are copies of the children of page n, if there is one
pub record IsInnerCopy (d : Table) (t : ℕ) (sp : Span) (n : ℕ) : Type 0 where
  pub page : ℕ → ℕ
  pub parted : IsParted sp
  pub past : n ≤ d.published
  pub low : (j : ℕ) → j < 64 → page j ≤ d.published
  pub is : (j : ℕ) → j < 64 → child d t j ≡ record { span = child_span sp j; slot = None; page = page j; holder = Free }
  pub from : ((snap_of d n ≡ Missing) × ((j : ℕ) → j < 64 → page j ≡ 0))
      ⊎ ((children : List (Span × ℕ)) × (snap_of d n ≡ Children sp children) × (length children ≡ 64)
      × ((j : ℕ) → j < 64 → slice_get children j ≡ Some (child_span sp j, page j)))

module _ (d : Table) (zero-is : snap_of d 0 ≡ Missing) (down : (i : ℕ) → 0 < i → i ≤ d.published → leads_down i (snap_of d i) ≡ true)
    (t : ℕ) (sp : Span) (n : ℕ) (c : IsInnerCopy d t sp n) where
  -- a key of a child has one home by both pages
  homes_same : (j : ℕ) (k : Key) → j < 64 → in_span (child_span sp j) k ≡ true → snap_home d (c.page j) k ≡ snap_home d n k
  homes_same j k less within = elim c.from [
    | inl none ↦
        home_missing d zero-is down k (c.page j) (ap (snap_of d) (none.1 j less) ∙ zero-is) ∙ sym (home_missing d zero-is down k n none.0)
    | inr some ↦
        let of : child_of some.0 k ≡ c.page j =
        child_is sp c.page some.0 0 j k (λ u few. some.3 u (let a = some.2 in omega arith) ∙ ap (λ y. let z : Option (Span × ℕ) = Some (child_span sp y, c.page y) in z) (plus u))
        c.parted.some (let a = some.2 in omega arith) (ap (λ y. in_span (child_span sp y) k) (sym (plus j)) ∙ within) ∙ ap c.page (sym (plus j)) in
        sym (home_below d zero-is down k n sp some.0 c.past some.1 ∙ ap (λ i. snap_home d i k) of)
  ]
    where
      plus : (u : ℕ) → u ≡ 0 + u
      plus u = omega arith

  same_child : (j : ℕ) → j < 64 → is_same_child d t n j ≡ true
  same_child j less =
      ap (λ (q : Pointer). is_none q.slot && keys_pass (is_same_at d q.span q.page n) d.snaps) (c.is j less)
      ∙ pass_all (is_same_at d (child_span sp j) (c.page j) n) (λ k. elim (cases_Bool (in_span (child_span sp j) k)) [
        | inl within ↦
            ap (λ (h : Home). not (in_span (child_span sp j) k) || same_home h (snap_home d n k)) (homes_same j k less within)
            ∙ (ap (λ (b : Bool). not (in_span (child_span sp j) k) || b) (home-self (snap_home d n k)) ∙ or_yes (not (in_span (child_span sp j) k)))
        | inr out ↦ ap (λ (b : Bool). not b || same_home (snap_home d (c.page j) k) (snap_home d n k)) out
      ]) d.snaps
    where
      or_yes : (b : Bool) → (b || true) ≡ true
      or_yes true = refl
      or_yes false = refl

  begins_so : (j : ℕ) → j < 64 → begins d t sp j ≡ true
  begins_so zero less =
      ap (λ (q : Pointer). eqb q.span.low sp.low) (c.is 0 less) ∙ eq-eqb (sp.low + 0 * child_size sp) sp.low (omega arith)
  begins_so (suc j) less =
      let a = c.is j (omega arith) in
      let e = c.is (suc j) less in
      let some = c.parted.some in
      let next : suc j * child_size sp ≡ j * child_size sp + child_size sp = many j (child_size sp) in
      ap (λ (q : Pointer). ltb q.span.high (child d t (suc j)).span.low && eqb ((child d t (suc j)).span.low - q.span.high) 1) a
      ∙ (ap (λ (q : Pointer). ltb (child_span sp j).high q.span.low && eqb (q.span.low - (child_span sp j).high) 1) e
      ∙ and_from (ltb (child_span sp j).high (child_span sp (suc j)).low) (eqb ((child_span sp (suc j)).low - (child_span sp j).high) 1)
      (grind (arith, nat_tests)) (eq-eqb ((child_span sp (suc j)).low - (child_span sp j).high) 1 (omega arith)))
    where
      many : (j s : ℕ) → suc j * s ≡ j * s + s
      many j s = omega arith

  tile : (j : ℕ) → j < 64 → is_tile d t sp 64 j ≡ true
  tile j less =
      let q = c.is j less in
      let some = c.parted.some in
      and_from (eqb (child d t j).span.storage sp.storage) _ (ap (λ (z : Pointer). eqb z.span.storage sp.storage) q ∙ eq-eqb sp.storage sp.storage refl)
      (and_from (leb (child d t j).span.low (child d t j).span.high) _
      (ap (λ (z : Pointer). leb z.span.low z.span.high) q ∙ grind (arith, nat_tests))
      (and_from (begins d t sp j) _ (begins_so j less) (last j less)))
    where
      last : (j : ℕ) → j < 64 → (ltb (j + 1) 64 || eqb (child d t j).span.high sp.high) ≡ true
      last j less = elim (cases_Bool (ltb (j + 1) 64)) [
        | inl early ↦ ap (λ (b : Bool). b || eqb (child d t j).span.high sp.high) early
        | inr late ↦
            let end : j ≡ 63 = grind (arith, nat_tests) in
            let all = c.parted.all in
            let some = c.parted.some in
            let product : j * child_size sp ≡ 63 * child_size sp = ap (λ x. x * child_size sp) end in
            ap (λ (b : Bool). b || eqb (child d t j).span.high sp.high) late
            ∙ (ap (λ (z : Pointer). eqb z.span.high sp.high) (c.is j less)
            ∙ eq-eqb ((sp.low + j * child_size sp) + (child_size sp - 1)) sp.high (omega arith))
      ]

  pub inner_stands : is_inner_for d t n sp 64 ≡ true
  inner_stands =
      and_from (ltb 0 64) _ refl
      (and_from (all_below 64 (is_tile d t sp 64)) _ (below 64 (is_tile d t sp 64) tile)
      (and_from (all_below 64 (is_same_child d t n)) _ (below 64 (is_same_child d t n) same_child)
      (and_from (all_below 64 (λ j. leb (child d t j).page d.published)) _
      (below 64 (λ j. leb (child d t j).page d.published) (λ j less. ap (λ (z : Pointer). leb z.page d.published) (c.is j less) ∙ (let l = c.low j less in grind (arith, nat_tests))))
      (below 64 (λ j. is_free (child d t j).holder) (λ j less. ap (λ (z : Pointer). is_free z.holder) (c.is j less))))))

  pub inner_like : has_children d t 64 (snap_of d n) ≡ true
  inner_like = elim c.from [
    | inl none ↦
        ap (has_children d t 64) none.0
        ∙ below 64 (λ j. eqb (child d t j).page 0) (λ j less. ap (λ (z : Pointer). eqb z.page 0) (c.is j less) ∙ eq-eqb (c.page j) 0 (none.1 j less))
    | inr some ↦
        ap (has_children d t 64) some.1
        ∙ and_from (eqb (length some.0) 64) _ (eq-eqb (length some.0) 64 some.2)
        (below 64 (is_child_at d t some.0) (λ j less.
        ap (λ o. option_map_or (λ e. same_span (child d t j).span e.0 && eqb (child d t j).page e.1) o false) (some.3 j less)
        ∙ (ap (λ (z : Pointer). same_span z.span (child_span sp j) && eqb z.page (c.page j)) (c.is j less)
        ∙ and_from (same_span (child_span sp j) (child_span sp j)) (eqb (c.page j) (c.page j)) (span-self (child_span sp j)) (eq-eqb (c.page j) (c.page j) refl))))
  ]
    where
      span-self : (z : Span) → same_span z z ≡ true
      span-self z =
          and_from (eqb z.storage z.storage) _ (eq-eqb z.storage z.storage refl)
          (and_from (eqb z.low z.low) (eqb z.high z.high) (eq-eqb z.low z.low refl) (eq-eqb z.high z.high refl))
