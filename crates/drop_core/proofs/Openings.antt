-- A machine begins sound.
use Rattle.std.proofs.Common.{◌≡◌, ℕ, zero, suc, ◌<◌, ◌≤◌, true, false, true≢false, eqb, eqb-true, ◌⊎◌, inl, inr, List, [], ◌∷◌, refl, sym, ap, ◌∙◌, subst, arith, Option, Some, None}
use Rattle.std.proofs.lemmas.Bool.{cases_Bool, or_left, or_right, cond-true, cond-false, false_from_ne_true}
use Rattle.std.proofs.lemmas.List.Sums.{sum_by-cons}
use Rattle.std.specs.List.{list_any}
use Rattle.std.specs.Prelude.{replicate}
use Rattle.serial_model.specs.declared.key.Key.{Key}
use Rattle.homes.specs.declared.places.Holder.TheVariants.{Free, Held, Dead}
use Rattle.homes.specs.declared.places.Spot.{Spot}
use Rattle.homes.specs.declared.places.At.{At}
use Rattle.homes.specs.declared.places.At.TheVariants.{Root, In}
use Rattle.homes.specs.declared.places.Span.{Span}
use Rattle.homes.specs.declared.places.Home.{Home}
use Rattle.homes.specs.declared.places.Home.TheVariants.{InSlot, Nowhere}
use Rattle.homes.specs.Homes.{same_at, in_span, look}
use Rattle.homes.specs.Laws.{same_at-true, same_at-self, in_span-parts}
use Rattle.drop_core.specs.declared.table.Led.TheVariants.{Never, From, Away}
use Rattle.drop_core.specs.declared.table.Pointer.{Pointer}
use Rattle.drop_core.specs.declared.table.SnapPage.{SnapPage}
use Rattle.drop_core.specs.declared.table.Table.{Table}
use Rattle.drop_core.specs.Table.{no_pointer, child_of, snap_walk, snap_home, is_led, counts_hold, holders, counts_made, makers, counts_taken, takers}
use Rattle.drop_core.specs.Sound.{span_at, TiesTo, IsSoundTable, IsSoundPages, IsRooted}
use Rattle.drop_core.specs.Opening.{root_pointers, opening_table, fresh_grip, opening_homes, has_root, SpansApart, PagesWithin, CanOpen}
use Rattle.drop_core.specs.HomeLaws.{snap-fixed}

no_key : (k : Key) → in_span (no_pointer.span) k ≡ true → ⊥
no_key k e = let at = in_span-parts (no_pointer.span) k e in none k.key at.1 at.2
  where
    none : (n : ℕ) → 1 ≤ n → n ≤ 0 → ⊥
    none n low high = absurd (omega arith)

abbrev pointer_in : ℕ → List (Span × ℕ) → At → Pointer
pointer_in i roots y = look same_at no_pointer (root_pointers i roots) y

-- a root's pointer leads to no slot, and to the page of the first root that has the key
root-none : (i : ℕ) (roots : List (Span × ℕ)) (y : At) → (pointer_in i roots y).slot ≡ None
root-none i [] y = refl
root-none i (e ∷ more) y =
    elim (cases_Bool (same_at (Root i) y)) [
      | inl hit ↦ ap (λ (q : Pointer). q.slot) (cond-true (same_at (Root i) y) (record { span = e.0; slot = None; page = e.1; holder = Free }) (pointer_in (suc i) more y) hit)
      | inr miss ↦ ap (λ (q : Pointer). q.slot) (cond-false (same_at (Root i) y) (record { span = e.0; slot = None; page = e.1; holder = Free }) (pointer_in (suc i) more y) miss) ∙ root-none (suc i) more y
    ]

root-page : (i : ℕ) (roots : List (Span × ℕ)) (y : At) (k : Key) → SpansApart roots → in_span (pointer_in i roots y).span k ≡ true → (has_root roots k) × (child_of roots k ≡ (pointer_in i roots y).page)
root-page i [] y k apart inside = absurd (no_key k inside)
root-page i (e ∷ more) y k apart inside =
    let here : Pointer = record { span = e.0; slot = None; page = e.1; holder = Free } in
    elim (cases_Bool (same_at (Root i) y)) [
      | inl hit ↦
          let is = cond-true (same_at (Root i) y) here (pointer_in (suc i) more y) hit in
          let at : in_span e.0 k ≡ true = sym (ap (λ (q : Pointer). in_span q.span k) is) ∙ inside in
          (or_left (in_span e.0 k) (list_any (λ q. in_span q.0 k) more) at, cond-true (in_span e.0 k) e.1 (child_of more k) at ∙ sym (ap (λ (q : Pointer). q.page) is))
      | inr miss ↦
          let is = cond-false (same_at (Root i) y) here (pointer_in (suc i) more y) miss in
          let r = root-page (suc i) more y k apart.1 (sym (ap (λ (q : Pointer). in_span q.span k) is) ∙ inside) in
          let out : in_span e.0 k ≡ false = false_from_ne_true (in_span e.0 k) (λ at. apart.0 k at r.0) in
          (or_right (in_span e.0 k) (list_any (λ q. in_span q.0 k) more) r.0, cond-false (in_span e.0 k) e.1 (child_of more k) out ∙ r.1 ∙ sym (ap (λ (q : Pointer). q.page) is))
    ]

-- two roots' pointers with a common key are the same
root-apart : (i : ℕ) (roots : List (Span × ℕ)) (y z : At) (k : Key) → SpansApart roots → in_span (pointer_in i roots y).span k ≡ true → in_span (pointer_in i roots z).span k ≡ true → y ≡ z
root-apart i [] y z k apart iny inz = absurd (no_key k iny)
root-apart i (e ∷ more) y z k apart iny inz =
    let here : Pointer = record { span = e.0; slot = None; page = e.1; holder = Free } in
    elim (cases_Bool (same_at (Root i) y)) [
      | inl hy ↦ elim (cases_Bool (same_at (Root i) z)) [
        | inl hz ↦ sym (same_at-true (Root i) y hy) ∙ same_at-true (Root i) z hz
        | inr mz ↦ absurd (apart.0 k (sym (ap (λ (q : Pointer). in_span q.span k) (cond-true (same_at (Root i) y) here (pointer_in (suc i) more y) hy)) ∙ iny)
            (root-page (suc i) more z k apart.1 (sym (ap (λ (q : Pointer). in_span q.span k) (cond-false (same_at (Root i) z) here (pointer_in (suc i) more z) mz)) ∙ inz)).0)
      ]
      | inr my ↦ elim (cases_Bool (same_at (Root i) z)) [
        | inl hz ↦ absurd (apart.0 k (sym (ap (λ (q : Pointer). in_span q.span k) (cond-true (same_at (Root i) z) here (pointer_in (suc i) more z) hz)) ∙ inz)
            (root-page (suc i) more y k apart.1 (sym (ap (λ (q : Pointer). in_span q.span k) (cond-false (same_at (Root i) y) here (pointer_in (suc i) more y) my)) ∙ iny)).0)
        | inr mz ↦ root-apart (suc i) more y z k apart.1 (sym (ap (λ (q : Pointer). in_span q.span k) (cond-false (same_at (Root i) y) here (pointer_in (suc i) more y) my)) ∙ iny)
            (sym (ap (λ (q : Pointer). in_span q.span k) (cond-false (same_at (Root i) z) here (pointer_in (suc i) more z) mz)) ∙ inz)
      ]
    ]

root-within : (published i : ℕ) (roots : List (Span × ℕ)) (y : At) → PagesWithin published roots → (pointer_in i roots y).page ≤ published
root-within published i [] y within = none published
  where
    none : (n : ℕ) → 0 ≤ n
    none n = omega arith
root-within published i (e ∷ more) y within =
    let here : Pointer = record { span = e.0; slot = None; page = e.1; holder = Free } in
    elim (cases_Bool (same_at (Root i) y)) [
      | inl hit ↦ subst (λ (q : Pointer). q.page ≤ published) (sym (cond-true (same_at (Root i) y) here (pointer_in (suc i) more y) hit)) within.0
      | inr miss ↦ subst (λ (q : Pointer). q.page ≤ published) (sym (cond-false (same_at (Root i) y) here (pointer_in (suc i) more y) miss)) (root-within published (suc i) more y within.1)
    ]

-- nobody holds a slot
none_hold : (s seats : ℕ) → holders s (replicate seats fresh_grip) ≡ 0
none_hold s zero = refl
none_hold s (suc seats) =
    let rest = none_hold s seats in
    let whole = sum_by-cons (counts_hold s) fresh_grip (replicate seats fresh_grip) in
    let mine : counts_hold s fresh_grip ≡ 0 = refl in
    omega (arith, rest, whole, mine)

-- nobody made a slot, nor took one
none_made : (s seats : ℕ) → makers s (replicate seats fresh_grip) ≡ 0
none_made s zero = refl
none_made s (suc seats) =
    let rest = none_made s seats in
    let whole = sum_by-cons (counts_made s) fresh_grip (replicate seats fresh_grip) in
    let mine : counts_made s fresh_grip ≡ 0 = refl in
    omega (arith, rest, whole, mine)

none_taken : (s seats : ℕ) → takers s (replicate seats fresh_grip) ≡ 0
none_taken s zero = refl
none_taken s (suc seats) =
    let rest = none_taken s seats in
    let whole = sum_by-cons (counts_taken s) fresh_grip (replicate seats fresh_grip) in
    let mine : counts_taken s fresh_grip ≡ 0 = refl in
    omega (arith, rest, whole, mine)

-- nobody shut a root's pointer
root_held : (i : ℕ) (roots : List (Span × ℕ)) (y : At) (q : ℕ) → (pointer_in i roots y).holder ≡ Held q → ⊥
root_held i [] y q e = dead_held q e
  where
    dead_held : (q : ℕ) → Dead ≡ Held q → ⊥
    dead_held q e = cc
root_held i (e ∷ more) y q is =
    let here : Pointer = record { span = e.0; slot = None; page = e.1; holder = Free } in
    elim (cases_Bool (same_at (Root i) y)) [
      | inl hit ↦ free_held q (sym (ap (λ (w : Pointer). w.holder) (cond-true (same_at (Root i) y) here (pointer_in (suc i) more y) hit)) ∙ is)
      | inr miss ↦ root_held (suc i) more y q (sym (ap (λ (w : Pointer). w.holder) (cond-false (same_at (Root i) y) here (pointer_in (suc i) more y) miss)) ∙ is)
    ]
  where
    free_held : (q : ℕ) → Free ≡ Held q → ⊥
    free_held q e = cc

-- a root of a lower index isn't among these
root-before : (j : ℕ) (roots : List (Span × ℕ)) (i : ℕ) (k : Key) → i < j → in_span (pointer_in j roots (Root i)).span k ≡ true → ⊥
root-before j [] i k less inside = no_key k inside
root-before j (e ∷ more) i k less inside =
    elim (cases_Bool (eqb j i)) [
      | inl hit ↦ clash j i less (eqb-true j i hit)
      | inr miss ↦ root-before (suc j) more i k (next i j less)
          (sym (ap (λ (q : Pointer). in_span q.span k) (cond-false (eqb j i) (record { span = e.0; slot = None; page = e.1; holder = Free }) (pointer_in (suc j) more (Root i)) miss)) ∙ inside)
    ]
  where
    clash : (j i : ℕ) → i < j → j ≡ i → ⊥
    clash j i less e = absurd (omega arith)

    next : (i j : ℕ) → i < j → i < suc j
    next i j less = omega arith

-- some root from this index on is over the key, or no page is found for it
root-or-none : (i : ℕ) (roots : List (Span × ℕ)) (k : Key) → (child_of roots k ≡ 0) ⊎ ((r : ℕ) × (in_span (pointer_in i roots (Root r)).span k ≡ true))
root-or-none i [] k = inl refl
root-or-none i (e ∷ more) k =
    let here : Pointer = record { span = e.0; slot = None; page = e.1; holder = Free } in
    elim (cases_Bool (in_span e.0 k)) [
      | inl hit ↦ inr (i, ap (λ (q : Pointer). in_span q.span k) (cond-true (same_at (Root i) (Root i)) here (pointer_in (suc i) more (Root i)) (same_at-self (Root i))) ∙ hit)
      | inr miss ↦ elim (root-or-none (suc i) more k) [
        | inl none ↦ inl (cond-false (in_span e.0 k) e.1 (child_of more k) miss ∙ none)
        | inr root ↦ elim (cases_Bool (same_at (Root i) (Root root.0))) [
          | inl same ↦ absurd (root-before (suc i) more root.0 k (below i root.0 (eqb-true i root.0 same)) root.1)
          | inr other ↦ inr (root.0, ap (λ (q : Pointer). in_span q.span k) (cond-false (same_at (Root i) (Root root.0)) here (pointer_in (suc i) more (Root root.0)) other) ∙ root.1)
        ]
      ]
    ]
  where
    below : (i r : ℕ) → i ≡ r → r < suc i
    below i r e = omega arith

-- page 0 gives no home
page-zero : (d : Table) (k : Key) → snap_home d 0 k ≡ Nowhere
unfolding snap_walk
page-zero d k = refl

module _ (snaps : List (ℕ × SnapPage)) (published : ℕ) (roots : List (Span × ℕ)) (room seats : ℕ) (can : CanOpen snaps published roots room) where
  abbrev d : Table
  d = opening_table snaps published roots room

  abbrev homes : Key → Home
  homes = opening_homes snaps published roots room

  ties_root : (y : At) (o : Option ℕ) → (pointer_in 0 roots y).slot ≡ o → TiesTo homes d (pointer_in 0 roots y).span (pointer_in 0 roots y).page o
  ties_root y None e = λ k inside. ap (λ (n : ℕ). snap_home d n k) (root-page 0 roots y k can.apart inside).1
  ties_root y (Some s) e = absurd (none_some s (sym (root-none 0 roots y) ∙ e))
    where
      none_some : (s : ℕ) → None ≡ Some s → ⊥
      none_some s e = cc

  no_slot : (k : Key) (y : Spot) → homes k ≡ InSlot y → ⊥
  no_slot k y e = snap-fixed d (child_of roots k) k y e

  never_away : Never ≡ Away → ⊥
  never_away e = cc

  leads_none : (x : At) (s : ℕ) → (pointer_in 0 roots x).slot ≡ Some s → ⊥
  leads_none x s e = none_some s (sym (root-none 0 roots x) ∙ e)
    where
      none_some : (s : ℕ) → None ≡ Some s → ⊥
      none_some s e = cc

  starts_table : IsSoundTable homes d (replicate seats fresh_grip)
  starts_table = record {
    one_home_each = record {
      ties = λ y live. ties_root y (pointer_in 0 roots y).slot refl;
      apart = λ y z ly lz k iny inz. root-apart 0 roots y z k can.apart iny inz;
      own = λ k y e. absurd (no_slot k y e);
      dead = λ s away. absurd (never_away away);
    };
    holds_counted = record {
      counted = λ s. sym (none_hold s seats);
      led = λ s. tt;
      back = λ x s live leads. absurd (leads_none x s leads);
    };
    snapshots_fixed = record { pointers = λ y live. root-within published 0 roots y can.within; closed = can.closed };
  }

  none_led : is_led Never ≡ true → ⊥
  none_led e = true≢false (sym e)

  never_from : (y : At) → Never ≡ From y → ⊥
  never_from y e = cc

  pub starts_sound : IsSoundPages homes d (replicate seats fresh_grip)
  starts_sound = record {
    table = starts_table;
    ranked = record { rank = λ s. 0; top = 0; within = λ s led. absurd (none_led led); below = λ s x is. absurd (never_from (In x) is) };
    rooted = rooted_from;
    published = can.right;
    headers = λ s away. absurd (never_away away);
    held = record {
      headers = λ s q is. absurd (dead_held q is);
      pointers = λ x q live is. absurd (root_held 0 roots x q is);
      splits = λ s j led page there. absurd (none_led led);
    };
    within = λ s above. refl;
    noted = record { made = λ s. none_made s seats; taken = λ s. none_taken s seats };
  }
    where
      dead_held : (q : ℕ) → Dead ≡ Held q → ⊥
      dead_held q e = cc

      -- a key below no root has no home
      rooted_from : (k : Key) → (homes k ≡ Nowhere) ⊎ IsRooted (span_at d) k
      rooted_from k = elim (root-or-none 0 roots k) [
        | inl none ↦ inl (ap (λ (n : ℕ). snap_home d n k) none ∙ page-zero d k)
        | inr root ↦ inr root
      ]
