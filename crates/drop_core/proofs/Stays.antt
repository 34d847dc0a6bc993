-- What each act leaves as it was: pages that some seat holds, roots, and published snapshot pages.
use Rattle.std.proofs.Common.{◌≡◌, ℕ, ◌+◌, ◌-◌, ◌<◌, ◌≤◌, Bool, true, false, true≢false, eqb, leb, ltb, ◌&&◌, ◌||◌, not, ◌⊎◌, inl, inr, List, [], ◌∷◌, refl, sym, ap, ◌∙◌, subst, arith, Option, Some, None}
use Rattle.std.proofs.lemmas.Bool.{and_parts, cases_Bool, cond-true, cond-false}
use Rattle.std.proofs.lemmas.Bool.Decides.{nat_tests}
use Rattle.std.specs.List.{slice_get}
use Rattle.serial_model.specs.declared.key.Key.{Key}
use Rattle.homes.specs.declared.places.Holder.{Holder}
use Rattle.homes.specs.declared.places.Holder.TheVariants.{Free, Held, Dead}
use Rattle.homes.specs.declared.places.At.{At}
use Rattle.homes.specs.declared.places.At.TheVariants.{Root, In}
use Rattle.homes.specs.declared.places.Span.{Span}
use Rattle.homes.specs.declared.places.Home.{Home}
use Rattle.homes.specs.Homes.{same_at, is_free, holder_is}
use Rattle.homes.specs.Laws.{at_or_other, number_or_other}
use Rattle.drop_core.specs.declared.table.Led.{Led}
use Rattle.drop_core.specs.declared.table.Led.TheVariants.{Never, From, Away}
use Rattle.drop_core.specs.declared.table.SlotState.TheVariants.{Owned, Published, Retired}
use Rattle.drop_core.specs.declared.table.Slot.{Slot}
use Rattle.drop_core.specs.declared.table.Page.{Page}
use Rattle.drop_core.specs.declared.table.Page.TheVariants.{Leaf}
use Rattle.drop_core.specs.declared.table.Pointer.{Pointer}
use Rattle.drop_core.specs.declared.table.Table.{Table}
use Rattle.drop_core.specs.declared.grip.Grip.{Grip}
use Rattle.drop_core.specs.declared.event.Twins.{Twins}
use Rattle.drop_core.specs.declared.event.Act.{Act}
use Rattle.drop_core.specs.declared.event.Act.TheVariants.{Enter, Leave, Give, Publish, Retire, FillPage, FillPointer, FillSnapshot, Extend, Install, Swing, Renew, Shut, Reopen, FillHeader, LockHeader, OpenHeader, Twin, SwingChain}
use Rattle.drop_core.specs.Table.{slot_of, page_of, pointer_of, header_of, snap_of, has_slot, at_index, snap_home, is_led, is_never, has_pointer, is_live, is_split}
use Rattle.drop_core.specs.Event.{is_owned, is_usable, all_below, leads_down, is_right, leaf_keys, slot_span, is_allowed, with_slot, with_pointer, grown, twinned, installed, dropped, swung, effect}
use Rattle.drop_core.specs.Sound.{span_at, IsLedSo, IsSoundTable}
use Rattle.drop_core.specs.Law.{IsGrown, LeavesPage, Leaves}
use Rattle.drop_core.proofs.Conditions.{CanTwin}
use Rattle.drop_core.proofs.Holds.{held_not_given}
use Rattle.drop_core.proofs.Repoints.{slot-other, span-same}
use Rattle.drop_core.proofs.Drops.{slot-gone, slot-kept, drop_span}
use Rattle.drop_core.proofs.Fills.{never_led, page-other, live_other, at-index, snap-other, snap-stable}
use Rattle.drop_core.proofs.Grows.{grown-page, grown-other}
use Rattle.drop_core.proofs.Halves.{opens_held, adds_key, grows, splits, splits_held}
use Rattle.drop_core.proofs.Headers.{header_in, header-same, header-other, buried-stays}
use Rattle.drop_core.proofs.Splitting.{is_page, old_same, at-other, never_now, slot-other as slot-other_twin, page-other as page-other_twin}
use Rattle.drop_core.proofs.Swings.{install_asks}

at_least : (n : ℕ) → n ≤ n
at_least n = omega arith

-- of a slot that is as it was in what leads to it, where no page and no pointer changed
module _ (homes : Key → Home) (d : Table) (grips : List Grip) (sound : IsSoundTable homes d grips) where
  abbrev Known : ℕ → Type 0
  Known s = is_never (slot_of d s).led ≡ false

  abbrev IsHeld : ℕ → Type 0
  IsHeld s = (q : ℕ) × (h : Grip) × (slice_get grips q ≡ Some h) × (has_slot h.holds s ≡ true)

  -- what leads to the slot did so, over the same keys
  abbrev LedSo : Table → ℕ → Type 0
  LedSo new s = (x : At) → (slot_of new s).led ≡ From x → ((slot_of d s).led ≡ From x) × (span_at new x ≡ span_at d x)

  by_pages : (new : Table) → ((s : ℕ) → IsHeld s → Known s → LeavesPage d new s) → ((r : ℕ) → span_at new (Root r) ≡ span_at d (Root r))
      → ((n : ℕ) → n ≤ d.published → snap_of new n ≡ snap_of d n) → ((n : ℕ) (k : Key) → n ≤ d.published → snap_home new n k ≡ snap_home d n k)
      → d.published ≤ new.published → Leaves grips d new
  by_pages new pages roots snaps homes more = record { pages = λ q s h at holds known. pages s (q, h, at, holds) known; roots = roots; snaps = snaps; homes = homes; published = more }

  -- where no page and no pointer changed
  same_pages : (new : Table) (s : ℕ) → page_of new s ≡ page_of d s → (header_of d s ≡ Dead → header_of new s ≡ Dead)
      → ((x : At) → span_at new x ≡ span_at d x) → is_never (slot_of new s).led ≡ false
      → ((x : At) → (slot_of new s).led ≡ From x → (slot_of d s).led ≡ From x) → LeavesPage d new s
  same_pages new s page dead spans known led =
      record { page = inl page; dead = dead; spans = λ j _. spans (at_index s j); known = known; led = λ x is. (led x is, spans x) }

  unchanged : Leaves grips d d
  unchanged = by_pages d (λ s held known. same_pages d s refl (λ dead. dead) (λ x. refl) known (λ x is. is)) (λ r. refl) (λ n l. refl) (λ n k l. refl) (at_least d.published)

  -- headers that leave dead ones so
  any_headers : (new : Table) (headers : List (ℕ × Holder)) → ((s : ℕ) → Known s → header_of d s ≡ Dead → header_in headers s ≡ Dead) → Leaves grips d new
      → Leaves grips d (record new { headers = headers })
  any_headers new headers dead leaves = by_pages (record new { headers = headers })
      (λ s held known. let was = leaves.pages held.0 s held.1 held.2 held.3 known in
      record { page = was.page; dead = dead s known; spans = was.spans; known = was.known; led = was.led })
      leaves.roots leaves.snaps leaves.homes leaves.published

  -- a slot that is led to as before, or another one
  with_slot_leaves : (t : ℕ) (x : Slot) → ((s : ℕ) → t ≡ s → IsHeld s → Known s → x.led ≡ (slot_of d s).led) → Leaves grips d (with_slot d t x)
  with_slot_leaves t x same = by_pages (with_slot d t x)
      (λ s held known.
      let is : (slot_of (with_slot d t x) s).led ≡ (slot_of d s).led = elim (number_or_other t s) [
        | inl e ↦ ap (λ (y : Slot). y.led) (cond-true (eqb t s) x (slot_of d s) e.1) ∙ same s e.0 held known
        | inr o ↦ ap (λ (y : Slot). y.led) (cond-false (eqb t s) x (slot_of d s) o.1)
      ] in
      same_pages (with_slot d t x) s refl (λ dead. dead) (λ y. refl) (ap is_never is ∙ known) (λ y from. sym is ∙ from))
      (λ r. refl) (λ n l. refl) (λ n k l. refl) (at_least d.published)

  same_led : (t : ℕ) (x : Slot) → x.led ≡ (slot_of d t).led → Leaves grips d (with_slot d t x)
  same_led t x is = with_slot_leaves t x (λ s e held known. is ∙ ap (λ (u : ℕ). (slot_of d u).led) e)

  -- a pointer over the same keys
  span_stays : (x : At) (q : Pointer) → q.span ≡ span_at d x → (y : At) → span_at (with_pointer d x q) y ≡ span_at d y
  span_stays x q same y =
      elim (at_or_other x y) [
        | inl e ↦ ap (λ (p : Pointer). p.span) (cond-true (same_at x y) q (pointer_of d y) e.1) ∙ same ∙ ap (λ (z : At). span_at d z) e.0
        | inr o ↦ ap (λ (p : Pointer). p.span) (cond-false (same_at x y) q (pointer_of d y) o.1)
      ]

  same_span_leaves : (x : At) (q : Pointer) → q.span ≡ span_at d x → Leaves grips d (with_pointer d x q)
  same_span_leaves x q same = by_pages (with_pointer d x q)
      (λ s held known. same_pages (with_pointer d x q) s refl (λ dead. dead) (span_stays x q same) known (λ y is. is))
      (λ r. span_stays x q same (Root r)) (λ n l. refl) (λ n k l. refl) (at_least d.published)

  -- a slot that nothing has led to is none of those
  not_fresh : (t : ℕ) → (slot_of d t).led ≡ Never → (s : ℕ) → Known s → t ≡ s → ⊥
  not_fresh t fresh s known e = true≢false (sym (ap is_never fresh) ∙ ap (λ (u : ℕ). is_never (slot_of d u).led) e ∙ known)

  not_owned : (t : ℕ) → is_owned (slot_of d t).state ≡ true → (s : ℕ) → Known s → t ≡ s → ⊥
  not_owned t own = not_fresh t (never_led homes d grips sound t own)

  -- a pointer that leads to a slot is live
  from_live : (s : ℕ) (y : At) → (slot_of d s).led ≡ From y → is_live d y ≡ true
  from_live s y e = (subst (λ (l : Led). IsLedSo d s (slot_of d s).state l) e (sound.holds_counted.led s)).1

  away_from : (y : At) → Away ≡ From y → ⊥
  away_from y e = cc

  dropped_leaves : (x : At) (n : ℕ) (gone : List ℕ) → Leaves grips d (dropped d x n gone)
  dropped_leaves x n gone = by_pages (dropped d x n gone)
      (λ s held known. same_pages (dropped d x n gone) s refl (buried-stays gone d.headers s) (drop_span d x n gone)
      (elim (cases_Bool (has_slot gone s)) [
        | inl e ↦ ap (λ (y : Slot). is_never y.led) (slot-gone d x n gone s e)
        | inr e ↦ ap (λ (y : Slot). is_never y.led) (slot-kept d x n gone s e) ∙ known
      ])
      (λ y is. elim (cases_Bool (has_slot gone s)) [
        | inl e ↦ absurd (away_from y (sym (ap (λ (q : Slot). q.led) (slot-gone d x n gone s e)) ∙ is))
        | inr e ↦ sym (ap (λ (q : Slot). q.led) (slot-kept d x n gone s e)) ∙ is
      ]))
      (λ r. drop_span d x n gone (Root r)) (λ m l. refl) (λ m k l. refl) (at_least d.published)

  swung_leaves : (g : Grip) (x : At) (n : ℕ) (o : Option ℕ) → Leaves grips d (swung d g x n o).table
  swung_leaves g x n None = unchanged
  swung_leaves g x n (Some t) = dropped_leaves x n (t ∷ [])

  -- a header that is set, and wasn't dead
  set_alive : (t : ℕ) (h : Holder) → (header_of d t ≡ Dead → ⊥) → (s : ℕ) → header_of d s ≡ Dead → header_in ((t, h) ∷ d.headers) s ≡ Dead
  set_alive t h alive s dead = header-other d.headers t h s (λ e. alive (ap (header_of d) e ∙ dead)) ∙ dead

  held_alive : (p t : ℕ) → holder_is p (header_of d t) ≡ true → header_of d t ≡ Dead → ⊥
  held_alive p t held dead = true≢false (sym held ∙ ap (holder_is p) dead)

  -- a leaf that gets one more key
  grown_leaves : (t : ℕ) (k : Key) (keys : List Key) → page_of d t ≡ Leaf keys → (header_of d t ≡ Dead → ⊥) → Leaves grips d (grown d t k)
  grown_leaves t k keys page alive = by_pages (grown d t k)
      (λ s held known. record {
        page = elim (number_or_other t s) [
          | inl e ↦ subst (λ (u : ℕ). (page_of (grown d t k) u ≡ page_of d u) ⊎ (IsGrown (page_of d u) (page_of (grown d t k) u) × (header_of d u ≡ Dead → ⊥))) e.0
              (inr ((keys, page, inr (k, grown-page d t k keys page)), alive))
          | inr o ↦ inl (grown-other d t k s o.0)
        ];
        dead = set_alive t Free alive s;
        spans = λ j _. refl;
        known = known;
        led = λ x is. (is, refl);
      })
      (λ r. refl) (λ n l. refl) (λ n k l. refl) (at_least d.published)

  -- a leaf that is split
  module _ (x : At) (span : Span) (w : Twins) (keys : List Key) (can : CanTwin d x span w keys) where
    abbrev new : Table
    new = twinned d span w

    -- what leads to another slot than the halves
    same_slot : (s : ℕ) → Known s → slot_of new s ≡ slot_of d s
    same_slot s known =
        slot-other_twin homes d grips x span w keys can sound s (not_fresh w.minor can.a_led s known) (not_fresh w.major can.b_led s known)

    twinned_page : (header_of d w.slot ≡ Dead → ⊥) → (s : ℕ)
        → (page_of new s ≡ page_of d s) ⊎ (IsGrown (page_of d s) (page_of new s) × (header_of d s ≡ Dead → ⊥))
    twinned_page alive s =
        elim (number_or_other w.slot s) [
          | inl e ↦ subst (λ (u : ℕ). (page_of new u ≡ page_of d u) ⊎ (IsGrown (page_of d u) (page_of new u) × (header_of d u ≡ Dead → ⊥))) e.0
              (inr ((keys, can.page, inl (is_page homes d grips x span w keys can sound)), alive))
          | inr o ↦ inl (page-other_twin homes d grips x span w keys can sound s o.0)
        ]

    -- the leaf had no pointer
    twinned_span : (s j : ℕ) → has_pointer (page_of d s) j ≡ true → span_at new (at_index s j) ≡ span_at d (at_index s j)
    twinned_span s j there =
        ap (λ (q : Pointer). q.span) (at-other homes d grips x span w keys can sound s j (λ e. true≢false (sym there
        ∙ ap (λ (u : ℕ). has_pointer (page_of d u) j) (sym e) ∙ ap (λ (q : Page). has_pointer q j) can.page)))

    twinned_leaves : (header_of d w.slot ≡ Dead → ⊥) → Leaves grips d new
    twinned_leaves alive = by_pages new
        (λ s held known. record {
          page = twinned_page alive s;
          dead = set_alive w.slot Free alive s;
          spans = twinned_span s;
          known = never_now homes d grips x span w keys can sound s known;
          led = λ y is.
              let was = sym (ap (λ (q : Slot). q.led) (same_slot s known)) ∙ is in
              (was, ap (λ (q : Pointer). q.span) (old_same homes d grips x span w keys can sound y (from_live s y was)));
        })
        (λ r. ap (λ (q : Pointer). q.span) (old_same homes d grips x span w keys can sound (Root r) refl)) (λ n l. refl) (λ n k l. refl) (at_least d.published)

  module _ (p : ℕ) (g : Grip) where
    leaves : (act : Act) → is_allowed p d g act ≡ true → Leaves grips d (effect p d g act).table
    leaves (Enter t) can = same_led t (record (slot_of d t) { passes = (slot_of d t).passes + 1 }) refl
    leaves (Leave t) can = same_led t (record (slot_of d t) { passes = (slot_of d t).passes - 1 }) refl
    leaves (Give t) can =
        let given : Slot = record (slot_of d t) { state = Owned; times = (slot_of d t).times + 1; led = Never } in
        any_headers (with_slot d t given) ((t, Dead) ∷ d.headers) (λ s known dead. elim (number_or_other t s) [
          | inl e ↦ subst (λ (u : ℕ). header_in ((t, Dead) ∷ d.headers) u ≡ Dead) e.0 (header-same d.headers t Dead)
          | inr o ↦ header-other d.headers t Dead s o.0 ∙ dead
        ]) (with_slot_leaves t given
        (λ s e held known. absurd (true≢false (sym (and_parts (ltb t d.room) (is_usable (slot_of d t)) can).1 ∙ ap (λ (u : ℕ). is_usable (slot_of d u)) e
        ∙ held_not_given d grips held.0 s held.1 sound.holds_counted held.2 held.3))))
    leaves (Publish t) can = same_led t (record (slot_of d t) { state = Published }) refl
    leaves (Retire t) can = same_led t (record (slot_of d t) { state = Retired }) refl
    leaves (FillPage t page) can =
        let own = (and_parts (is_owned (slot_of d t).state) (has_slot g.made t) can).0 in
        by_pages (record d { pages = (t, page) ∷ d.pages })
        (λ s held known. same_pages (record d { pages = (t, page) ∷ d.pages }) s (page-other homes d grips sound t own page s (not_owned t own s known))
        (λ dead. dead) (λ x. refl) known (λ x is. is))
        (λ r. refl) (λ n l. refl) (λ n k l. refl) (at_least d.published)
    leaves (FillPointer x q) can =
        let own = (and_parts (is_owned (slot_of d x.slot).state) (has_slot g.made x.slot) can).0 in
        by_pages (with_pointer d (In x) q)
        (λ s held known. record {
          page = inl refl;
          dead = λ dead. dead;
          spans = λ j _. ap (λ (p : Pointer). p.span) (at-index homes d grips sound x.slot own x q refl s j (not_owned x.slot own s known));
          known = known;
          led = λ y is. (is, ap (λ (p : Pointer). p.span) (live_other homes d grips sound x.slot own x q refl y (from_live s y is)));
        })
        (λ r. refl) (λ n l. refl) (λ n k l. refl) (at_least d.published)
    leaves (FillSnapshot n page) can =
        let over = above d.published n (and_parts (eqb p 0) (ltb d.published n) can).1 in
        by_pages (record d { snaps = (n, page) ∷ d.snaps })
        (λ s held known. same_pages (record d { snaps = (n, page) ∷ d.snaps }) s refl (λ dead. dead) (λ x. refl) known (λ x is. is))
        (λ r. refl) (λ m l. snap-other homes d grips sound n page over m l) (λ m k l. snap-stable homes d grips sound n page over m k l) (at_least d.published)
      where
        above : (a b : ℕ) → ltb a b ≡ true → a < b
        above a b e = grind (arith, nat_tests)
    leaves (Extend n) can =
        by_pages (record d { published = n })
        (λ s held known. same_pages (record d { published = n }) s refl (λ dead. dead) (λ x. refl) known (λ x is. is))
        (λ r. refl) (λ m l. refl) (λ m k l. refl)
        (let right : Bool = all_below n (λ l. leads_down (l + 1) (snap_of d (l + 1))) && all_below n (λ l. is_right (snap_of d) (snap_of d (l + 1))) in
        at_most d.published n (and_parts (leb d.published n) right (and_parts (eqb p 0) (leb d.published n && right) can).1).0)
      where
        at_most : (a b : ℕ) → leb a b ≡ true → a ≤ b
        at_most a b e = grind (arith, nat_tests)
    leaves (Install x t) can =
        let fresh = (install_asks homes d grips sound p t g x can).led in
        by_pages (installed d x t)
        (λ s held known.
        let is = ap (λ (y : Slot). y.led) (slot-other d x t (From x) (Some t) (pointer_of d x).page s (not_fresh t fresh s known)) in
        same_pages (installed d x t) s refl (λ dead. dead) (span-same d x t (From x) (Some t) (pointer_of d x).page) (ap is_never is ∙ known) (λ y from. sym is ∙ from))
        (λ r. span-same d x t (From x) (Some t) (pointer_of d x).page (Root r)) (λ n l. refl) (λ n k l. refl) (at_least d.published)
    leaves (Swing x n) can = swung_leaves g x n (pointer_of d x).slot
    leaves (Renew x n) can = same_span_leaves x (record (pointer_of d x) { page = n }) refl
    leaves (Shut x) can = same_span_leaves x (record (pointer_of d x) { holder = Held p }) refl
    leaves (Reopen x) can = same_span_leaves x (record (pointer_of d x) { holder = Free }) refl
    leaves (FillHeader t) can =
        let own = (and_parts (is_owned (slot_of d t).state) (has_slot g.made t) can).0 in
        any_headers d ((t, Free) ∷ d.headers) (λ s known dead. header-other d.headers t Free s (not_owned t own s known) ∙ dead) unchanged
    leaves (LockHeader t) can =
        let free = (and_parts (is_free (header_of d t)) (eqb p 0 || not (is_split (page_of d t)))
        (and_parts (is_led (slot_of d t).led) (is_free (header_of d t) && (eqb p 0 || not (is_split (page_of d t)))) can).1).0 in
        any_headers d ((t, Held p) ∷ d.headers) (λ s known. set_alive t (Held p) (λ dead. true≢false (sym free ∙ ap is_free dead)) s) unchanged
    leaves (OpenHeader t None) can = any_headers d ((t, Free) ∷ d.headers) (λ s known. set_alive t Free (held_alive p t can) s) unchanged
    leaves (OpenHeader t (Some k)) can =
        let grow = grows homes d grips sound t k (adds_key p d t k can) in grown_leaves t k grow.2 grow.3.page
        (held_alive p t (opens_held p d t k can))
    leaves (Twin w) can =
        let two = splits homes d grips sound p g w can in twinned_leaves two.0 (slot_span d w.slot) w (leaf_keys (page_of d w.slot)) two.2
        (held_alive p w.slot (splits_held p d g w can))
    leaves (SwingChain x n c) can = dropped_leaves x n c.slots

pub act_leaves : (homes : Key → Home) (d : Table) (grips : List Grip) (p : ℕ) (g : Grip) (act : Act) → slice_get grips p ≡ Some g → is_allowed p d g act ≡ true → IsSoundTable homes d grips
    → Leaves grips d (effect p d g act).table
act_leaves homes d grips p g act at can sound = leaves homes d grips sound p g act can
