-- Both machines let a pass split a full leaf whose header it has locked: its keys move to the halves, where the same stands.
use Rattle.std.proofs.Common.{◌≡◌, ◌≢◌, ◌⊎◌, inl, inr, ℕ, ◌+◌, ◌-◌, ◌<◌, ◌≤◌, Bool, true, false, true≢false, cond, eqb, eqb-true, eq-eqb, ne_eqb, leb, ltb, not}
use Rattle.std.proofs.Common.{List, length, refl, sym, ap, ◌∙◌, subst, arith, Option, Some, None}
use mathlib.Core.Bool.{beq}
use Rattle.std.specs.Prelude.{◌&&◌, ◌||◌, is_none, is_some}
use Rattle.std.specs.List.{Contains, slice_get, list_all}
use Rattle.std.proofs.lemmas.Bool.{and_from, and_parts}
use Rattle.std.proofs.lemmas.Bool.Decides.{nat_tests}
use Rattle.serial_model.specs.declared.key.Key.{Key}
use Rattle.homes.specs.declared.places.Content.{Content}
use Rattle.homes.specs.declared.places.Holder.TheVariants.{Free, Held}
use Rattle.homes.specs.declared.places.Home.{Home}
use Rattle.homes.specs.declared.places.Home.TheVariants.{InSlot, Nowhere}
use Rattle.homes.specs.declared.places.Span.{Span}
use Rattle.homes.specs.declared.places.Spot.{Spot}
use Rattle.homes.specs.Homes.{has_key, holder_is, in_span, is_free, moves_to, same_content}
use Rattle.wire_form.specs.Leaves.{tree_leaf}
use Rattle.wire_form.specs.Words.{absent_field, number_word}
use Rattle.commit_core.specs.declared.place.Place.{Place}
use Rattle.commit_core.specs.declared.seat.Seat.{Seat}
use Rattle.commit_core.specs.declared.story.Story.{Story}
use Rattle.commit_core.specs.CoreState.{can_begin}
use Rattle.commit_core.specs.Keys.{nothing, same_number}
use Rattle.commit_core.specs.Lemmas.Keys.{same_number-true}
use Rattle.commit_core.specs.Lemmas.Versions.{last_version, same_content_parts, version_same}
use Rattle.commit_core.specs.Moves.{are_apart, can_move, can_rehome, is_below_all, is_movable, is_nobodys, may_go_for}
use Rattle.commit_core.specs.Parts.{is_version, version_of}
use Rattle.commit_core.specs.Places.{home_of, place_of, stands, stands_at}
use Rattle.commit_core.specs.Serial.{last_write}
use Rattle.drop_core.specs.declared.event.Act.TheVariants.{Twin}
use Rattle.drop_core.specs.declared.event.Twins.{Twins}
use Rattle.drop_core.specs.declared.grip.Grip.{Grip}
use Rattle.drop_core.specs.declared.table.Page.{Page}
use Rattle.drop_core.specs.declared.table.Page.TheVariants.{Leaf}
use Rattle.drop_core.specs.declared.table.SlotState.{SlotState}
use Rattle.drop_core.specs.declared.table.SlotState.TheVariants.{Unused, Owned, Published, Retired}
use Rattle.drop_core.specs.declared.table.Table.{Table}
use Rattle.drop_core.specs.Event.{is_allowed as page_allows, are_keys_of, can_split, each_once, is_half, is_leaf_of, is_published, is_ready, is_separator, key_in, leaf_keys, lower_span, major_records, minor_records, moves, most_records, slot_span, twin_home, upper_span}
use Rattle.drop_core.specs.Law.{IsMade}
use Rattle.drop_core.specs.Table.{has_slot, header_of, is_led, is_never, leaf_home, page_of, slot_of}
use Rattle.engine_rule.specs.declared.event.JointAct.TheVariants.{Turn}
use Rattle.engine_rule.specs.Event.{commit_lets, holds_all, may_move}
use Rattle.engine_pages.specs.declared.layout.Layout.{Layout}
use Rattle.engine_pages.specs.declared.view.NewLeaf.{NewLeaf}
use Rattle.engine_pages.specs.declared.view.View.{View}
use Rattle.engine_pages.specs.Pages.{Fenced, is_tree}
use Rattle.engine_pages.specs.Rule.{Shared, IsBitAt, IsHeld, IsNewLeaf, all_seats}
use Rattle.engine_pages.specs.Views.{IsActive, seat_number}
use Rattle.engine_pages.specs.Words.{IsOverwritten, IsSmall, ShowsRecords, is_shown, spot}
use Rattle.engine_pages.proofs.EachSeat.{at_seat}
use Rattle.engine_pages.proofs.Joint.{Laws, may_do}
use Rattle.engine_pages.proofs.Seats.{home_known}
use Rattle.engine_pages.proofs.Turns.{Begins}
use Rattle.dual_pointer.proofs.Keyed.{each_at, has_at, home_at}
use Rattle.dual_pointer.proofs.Moves.{content-self, nobodys}
use Rattle.page_records.proofs.AnyRecord.{tree_absence}
use Rattle.page_records.proofs.TreeLeaves.{tree_no_array}
use Rattle.page_records.proofs.Undecided.{begins_undecided, exact_bit, held_shows, undecided}
use Rattle.page_records.proofs.WordTells.{tree_version}
use Rattle.tree_heads.specs.Splits.{AreMoving, CanSplit, IsLockedAs}
use Rattle.tree_heads.proofs.KeyAdds.{not_keeper}
use Rattle.tree_heads.proofs.LeafHomes.{absent_home, leaf_homes}
use Rattle.tree_heads.proofs.SplitKeys.{all_keys, apart_of, beside, each_key, either_so, index_of, or_so}
use Rattle.tree_heads.proofs.TreeAt.{AtHead, AtTree, Says, at_head, at_tree, some_fence, span_is}

-- ---- small laws

shown_published : (state : SlotState) → is_published state ≡ true → is_shown state ≡ true
shown_published Unused e = absurd (true≢false (sym e))
shown_published Owned e = absurd (true≢false (sym e))
shown_published Published e = refl
shown_published Retired e = absurd (true≢false (sym e))

-- the parts of a leaf's keys are apart, and within them
parted : (sp : Span) (n : ℕ) (k : Key) → is_separator sp n ≡ true → in_span (lower_span sp n) k ≡ true
    → in_span (upper_span sp n) k ≡ true → ⊥
parted sp n k sep low high =
    let ends = and_parts (ltb sp.low n) (leb n sp.high) sep in
    let a = and_parts (eqb k.storage sp.storage) (leb sp.low k.key && leb k.key (n - 1)) low in
    let c = and_parts (eqb k.storage sp.storage) (leb n k.key && leb k.key sp.high) high in
    let first : sp.low < n = let e = ends.0 in grind (arith, nat_tests) in
    let below : k.key ≤ n - 1 = let e = (and_parts (leb sp.low k.key) (leb k.key (n - 1)) a.1).1 in grind (arith, nat_tests) in
    let above : n ≤ k.key = let e = (and_parts (leb n k.key) (leb k.key sp.high) c.1).0 in grind (arith, nat_tests) in
    absurd (omega (arith, first, below, above))

lower_within : (sp : Span) (n : ℕ) (k : Key) → is_separator sp n ≡ true → in_span (lower_span sp n) k ≡ true
    → in_span sp k ≡ true
lower_within sp n k sep low =
    let ends = and_parts (ltb sp.low n) (leb n sp.high) sep in
    let a = and_parts (eqb k.storage sp.storage) (leb sp.low k.key && leb k.key (n - 1)) low in
    let parts = and_parts (leb sp.low k.key) (leb k.key (n - 1)) a.1 in
    let top : n ≤ sp.high = let e = ends.1 in grind (arith, nat_tests) in
    let below : k.key ≤ n - 1 = let e = parts.1 in grind (arith, nat_tests) in
    let last : k.key ≤ sp.high = omega (arith, top, below) in
    and_from (eqb k.storage sp.storage) (leb sp.low k.key && leb k.key sp.high) a.0
    (and_from (leb sp.low k.key) (leb k.key sp.high) parts.0 (grind (arith, nat_tests)))

upper_within : (sp : Span) (n : ℕ) (k : Key) → is_separator sp n ≡ true → in_span (upper_span sp n) k ≡ true
    → in_span sp k ≡ true
upper_within sp n k sep high =
    let ends = and_parts (ltb sp.low n) (leb n sp.high) sep in
    let c = and_parts (eqb k.storage sp.storage) (leb n k.key && leb k.key sp.high) high in
    let parts = and_parts (leb n k.key) (leb k.key sp.high) c.1 in
    let first : sp.low < n = let e = ends.0 in grind (arith, nat_tests) in
    let above : n ≤ k.key = let e = parts.0 in grind (arith, nat_tests) in
    let low : sp.low ≤ k.key = omega (arith, first, above) in
    and_from (eqb k.storage sp.storage) (leb sp.low k.key && leb k.key sp.high) c.0
    (and_from (leb sp.low k.key) (leb k.key sp.high) (grind (arith, nat_tests)) parts.1)

-- ---- the split

module _ (laws : Laws) (l : Layout) (words : List ℕ) (views : List View) (s : Shared) (id : ℕ) (v : View)
    (active : IsActive v.role) (b : Begins l words views s id v) (t : ℕ) (sp : Span) (lower upper : NewLeaf)
    (keys : List Key) (separator n : ℕ) (can : CanSplit v t sp lower upper keys separator n) where
  abbrev p : ℕ
  p = seat_number v.role

  abbrev m : Story
  m = s.story

  abbrev d : Table
  d = s.table

  abbrev g : Grip
  g = s.grips p

  abbrev old : List Key
  old = can.head.keys

  abbrev twins : Twins
  twins = record { slot = t; minor = lower.slot; major = upper.slot; separator = separator; keys = keys }

  pub head : AtHead l words s v can.head
  head = at_head l words views s id v can.head active b can.has

  pub page : AtTree l words s v t sp
  page = at_tree l words views s id v b t sp can.page

  pub locked : header_of d t ≡ Held p
  locked = ap (header_of d) (sym can.slot) ∙ head.is.locked

  pub leaf : page_of d t ≡ Leaf old
  leaf = ap (page_of d) (sym can.slot) ∙ head.is.leaf

  pub led : is_led (slot_of d t).led ≡ true
  led = ap (λ u. is_led (slot_of d u).led) (sym can.slot) ∙ head.led

  pub over : slot_span d t ≡ sp
  over = span_is l words views s id v b t page.fence page.there led ∙ page.span

  pub fence-is : head.is.fence ≡ page.fence
  fence-is = some_fence head.is.fence page.fence (sym head.is.there ∙ (ap s.trees can.slot ∙ page.there))

  pub once : each_once old ≡ true
  once = ap each_once (sym head.is.keys) ∙ head.records.once

  pub inside : (k : Key) → has_key old k ≡ true → in_span sp k ≡ true
  inside k has =
      ap (λ (z : Span). in_span z k) (sym page.span)
      ∙ (ap (λ (f : Fenced). in_span f.span k) (sym fence-is)
      ∙ head.records.inside k (ap (λ (q : List Key). has_key q k) head.is.keys ∙ has))

  -- ---- the halves

  pub half : (y : NewLeaf) → Contains v.new_leaves y → IsNewLeaf l m d s.trees v.grip.made y
  half y has = b.pages.treed.new_leaves y has

  said : (y : NewLeaf) → Contains v.new_leaves y
      → ShowsRecords words l.slots y.slot (record { span = y.span; keys = y.keys }) (IsOverwritten m) (place_of m.places)
  said y has =
      let is = half y has in
      let f : Fenced = record { span = y.span; keys = y.keys } in
      let shows : Says l words s y.slot f (Leaf y.keys) =
      subst (Says l words s y.slot f) is.page
      (b.sound.shown.treed y.slot f is.slot (shown_published (slot_of d y.slot).state is.state) is.there) in
      shows.2

  pub never : (y : NewLeaf) → Contains v.new_leaves y → is_never (slot_of d y.slot).led ≡ true
  never y has =
      let is : IsMade d (all_seats s.grips) p y.slot =
      laws.made (home_of m.homes) d (all_seats s.grips) p y.slot (s.grips p) b.sound.joint.pages (at_seat s.grips p b.few)
      (ap (λ (z : Grip). has_slot z.made y.slot) (sym b.grip) ∙ (half y has).made) in
      ap is_never is.never

  half_is : (y : NewLeaf) → Contains v.new_leaves y → (part : Span) (count : ℕ) → y.span ≡ part → length y.keys ≡ count
      → is_half d g y.slot part count ≡ true
  half_is y has part count span many =
      let is = half y has in
      let says = said y has in
      and_from (is_ready d g y.slot) (is_free (header_of d y.slot) && is_leaf_of part count (page_of d y.slot))
      (and_from (has_slot g.made y.slot) (is_published (slot_of d y.slot).state && is_never (slot_of d y.slot).led)
      (ap (λ (z : Grip). has_slot z.made y.slot) (sym b.grip) ∙ is.made)
      (and_from (is_published (slot_of d y.slot).state) (is_never (slot_of d y.slot).led) is.state (never y has)))
      (and_from (is_free (header_of d y.slot)) (is_leaf_of part count (page_of d y.slot)) (ap is_free is.header)
      (ap (is_leaf_of part count) is.page
      ∙ and_from (eqb (length y.keys) count) (each_once y.keys && list_all (λ k. in_span part k) y.keys)
      (eq-eqb (length y.keys) count many)
      (and_from (each_once y.keys) (list_all (λ k. in_span part k) y.keys) says.once
      (all_keys (in_span part) y.keys (λ k there. ap (λ (z : Span). in_span z k) (sym span) ∙ says.inside k there)))))

  -- the pages let it
  pages-let : page_allows p d g (Twin twins) ≡ true
  pages-let =
      let q = is_separator sp separator in
      let c = not (eqb lower.slot upper.slot) in
      let e = is_half d g lower.slot (lower_span sp separator) minor_records in
      let f = is_half d g upper.slot (upper_span sp separator) major_records in
      let h = is_leaf_of sp most_records (page_of d t) in
      let i = are_keys_of (leaf_keys (page_of d t)) (leaf_keys (page_of d lower.slot)) (leaf_keys (page_of d upper.slot)) keys in
      let j = has_key (leaf_keys (page_of d upper.slot)) (key_in sp separator) in
      let left = ap leaf_keys (half lower can.lower_made).page in
      let right = ap leaf_keys (half upper can.upper_made).page in
      let full : h ≡ true =
      ap (is_leaf_of sp most_records) leaf
      ∙ and_from (eqb (length old) most_records) (each_once old && list_all (λ k. in_span sp k) old)
      (eq-eqb (length old) most_records can.full)
      (and_from (each_once old) (list_all (λ k. in_span sp k) old) once (all_keys (in_span sp) old inside)) in
      let i-so : i ≡ true =
      ap (λ y. are_keys_of y (leaf_keys (page_of d lower.slot)) (leaf_keys (page_of d upper.slot)) keys) (ap leaf_keys leaf)
      ∙ (ap (λ y. are_keys_of old y (leaf_keys (page_of d upper.slot)) keys) left
      ∙ (ap (λ y. are_keys_of old lower.keys y keys) right ∙ can.keys_are)) in
      let j-so : j ≡ true = ap (λ y. has_key y (key_in sp separator)) right ∙ can.first in
      let split : can_split p d g sp twins ≡ true =
      and_from (holder_is p (header_of d t)) (q && (c && (e && (f && (h && (i && j))))))
      (ap (holder_is p) locked ∙ eq-eqb p p refl)
      (and_from q (c && (e && (f && (h && (i && j))))) can.parts
      (and_from c (e && (f && (h && (i && j)))) (ap not (ne_eqb lower.slot upper.slot can.apart))
      (and_from e (f && (h && (i && j)))
      (half_is lower can.lower_made (lower_span sp separator) minor_records can.lower_span_is can.lower_keys)
      (and_from f (h && (i && j))
      (half_is upper can.upper_made (upper_span sp separator) major_records can.upper_span_is can.upper_keys)
      (and_from h (i && j) full (and_from i j i-so j-so)))))) in
      and_from (not (eqb p 0)) (can_split p d g (slot_span d t) twins)
      (ap not (ne_eqb p 0 (not_keeper v.role active can.worker)))
      (ap (λ (z : Span). can_split p d g z twins) over ∙ split)

  -- ---- the records that the pass holds

  begins : can_begin (s.seats p).stage ≡ true
  begins = ap (λ (z : Seat). can_begin z.stage) (sym b.own.seat) ∙ can.idle

  pub held_old : (k : Key) → has_key old k ≡ true → holder_is p (stands m.places m.homes k).holder ≡ true
  held_old k has =
      let lock = b.own.locked k (can.old k has) in
      let held = b.own.took lock.0 lock.1 in
      ap (λ (h : Home). holder_is p (stands_at m.places h).holder) (ap (home_of m.homes) (sym lock.2) ∙ held.1.home)
      ∙ held.1.own

  holds_old : holds_all p m (leaf_keys (page_of d t)) ≡ true
  holds_old =
      ap (λ (y : Page). holds_all p m (leaf_keys y)) leaf
      ∙ all_keys (λ k. holder_is p (stands m.places m.homes k).holder) old held_old

  -- the leaf's keys are among those of the halves
  pub old_in : (k : Key) → has_key old k ≡ true → has_key keys k ≡ true
  old_in k has =
      let one = list_all (λ q. has_key lower.keys q || has_key upper.keys q) keys in
      let two = list_all (λ q. has_key keys q) lower.keys in
      let three = list_all (λ q. has_key keys q) upper.keys in
      let four = list_all (λ q. has_key keys q) old in
      let c = (and_parts (each_once keys) (one && (two && (three && four))) can.keys_are).1 in
      let e = (and_parts one (two && (three && four)) c).1 in
      let f = (and_parts two (three && four) e).1 in
      each_key (has_key keys) old k (and_parts three four f).1 has

  -- ---- where a key goes

  abbrev to : Key → Home
  to = twin_home d sp twins

  pub record Goes (k : Key) : Type 0 where
    pub part : NewLeaf
    pub made : Contains v.new_leaves part
    pub which : (part ≡ lower) ⊎ (part ≡ upper)
    pub index : ℕ
    pub at : slice_get part.keys index ≡ Some k
    pub home : to k ≡ InSlot (spot part.slot index)
    pub within : in_span sp k ≡ true

  pub plus : (i : ℕ) → 0 + i ≡ i
  plus i = omega arith

  at_home : (y : NewLeaf) → Contains v.new_leaves y → (i : ℕ) (k : Key) → slice_get y.keys i ≡ Some k
      → leaf_home y.slot 0 (leaf_keys (page_of d y.slot)) k ≡ InSlot (spot y.slot i)
  at_home y has i k at =
      ap (λ (z : Page). leaf_home y.slot 0 (leaf_keys z) k) (half y has).page
      ∙ (home_at y.slot 0 y.keys i k (said y has).once at ∙ ap (λ j. InSlot (spot y.slot j)) (plus i))

  in_lower : (k : Key) → has_key lower.keys k ≡ true → in_span (lower_span sp separator) k ≡ true
  in_lower k has =
      ap (λ (z : Span). in_span z k) (sym can.lower_span_is) ∙ (said lower can.lower_made).inside k has

  in_upper : (k : Key) → has_key upper.keys k ≡ true → in_span (upper_span sp separator) k ≡ true
  in_upper k has =
      ap (λ (z : Span). in_span z k) (sym can.upper_span_is) ∙ (said upper can.upper_made).inside k has

  pub goes : (k : Key) → has_key keys k ≡ true → Goes k
  goes k has =
      let c = and_parts (each_once keys) (list_all (λ q. has_key lower.keys q || has_key upper.keys q) keys
      && (list_all (λ q. has_key keys q) lower.keys && (list_all (λ q. has_key keys q) upper.keys && list_all (λ q. has_key keys q) old)))
      can.keys_are in
      let e = and_parts (list_all (λ q. has_key lower.keys q || has_key upper.keys q) keys)
      (list_all (λ q. has_key keys q) lower.keys && (list_all (λ q. has_key keys q) upper.keys && list_all (λ q. has_key keys q) old)) c.1 in
      let any : (has_key lower.keys k || has_key upper.keys k) ≡ true =
      each_key (λ q. has_key lower.keys q || has_key upper.keys q) keys k e.0 has in
      by_part (in_span (lower_span sp separator) k) refl (either_so (has_key lower.keys k) (has_key upper.keys k) any)
    where
      by_part : (c : Bool) → in_span (lower_span sp separator) k ≡ c
          → (has_key lower.keys k ≡ true) ⊎ (has_key upper.keys k ≡ true) → Goes k
      by_part true low (inr in-upper) = absurd (parted sp separator k can.parts low (in_upper k in-upper))
      by_part false high (inl in-lower) = absurd (true≢false (sym (in_lower k in-lower) ∙ high))
      by_part true low (inl in-lower) =
          let here = index_of lower.keys k in-lower in record {
            part = lower;
            made = can.lower_made;
            which = inl refl;
            index = here.index;
            at = here.at;
            home =
                ap (λ (c : Bool). cond c (leaf_home lower.slot 0 (leaf_keys (page_of d lower.slot)) k) (leaf_home upper.slot 0 (leaf_keys (page_of d upper.slot)) k)) low
                ∙ at_home lower can.lower_made here.index k here.at;
            within = lower_within sp separator k can.parts (in_lower k in-lower);
          }
      by_part false high (inr in-upper) =
          let here = index_of upper.keys k in-upper in record {
            part = upper;
            made = can.upper_made;
            which = inr refl;
            index = here.index;
            at = here.at;
            home =
                ap (λ (c : Bool). cond c (leaf_home lower.slot 0 (leaf_keys (page_of d lower.slot)) k) (leaf_home upper.slot 0 (leaf_keys (page_of d upper.slot)) k)) high
                ∙ at_home upper can.upper_made here.index k here.at;
            within = upper_within sp separator k can.parts (in_upper k in-upper);
          }

  same_part : (y z : NewLeaf) → (y ≡ lower) ⊎ (y ≡ upper) → (z ≡ lower) ⊎ (z ≡ upper) → y.slot ≡ z.slot → y ≡ z
  same_part y z (inl e) (inl f) same = e ∙ sym f
  same_part y z (inr e) (inr f) same = e ∙ sym f
  same_part y z (inl e) (inr f) same =
      absurd (can.apart (ap (λ (x : NewLeaf). x.slot) (sym e) ∙ (same ∙ ap (λ (x : NewLeaf). x.slot) f)))
  same_part y z (inr e) (inl f) same =
      absurd (can.apart (ap (λ (x : NewLeaf). x.slot) (sym f) ∙ (sym same ∙ ap (λ (x : NewLeaf). x.slot) e)))

  -- no two keys go to one place
  one_key : (k q : Key) (x : Spot) → has_key keys k ≡ true → has_key keys q ≡ true → to k ≡ InSlot x → to q ≡ InSlot x
      → q ≡ k
  one_key k q x has-k has-q to-k to-q =
      let a = goes k has-k in
      let c = goes q has-q in
      let both : InSlot (spot a.part.slot a.index) ≡ InSlot (spot c.part.slot c.index) =
      sym a.home ∙ (to-k ∙ (sym to-q ∙ c.home)) in
      let spots : spot a.part.slot a.index ≡ spot c.part.slot c.index = cc in
      let parts : a.part ≡ c.part = same_part a.part c.part a.which c.which (ap (λ (z : Spot). z.slot) spots) in
      let here : slice_get c.part.keys c.index ≡ Some k =
      ap (λ i. slice_get c.part.keys i) (sym (ap (λ (z : Spot). z.index) spots))
      ∙ (ap (λ (y : NewLeaf). slice_get y.keys a.index) (sym parts) ∙ a.at) in
      let keys-same : Some q ≡ Some k = sym c.at ∙ here in cc

  -- ---- what stands there

  -- the same stands at a key that the pass has locked
  module _ (k : Key) (c : Content) (la : IsLockedAs v k c) (tree : is_tree l.decls k.storage ≡ true)
      (within : in_span sp k ≡ true) where
    held : (z : Spot) × IsHeld l.decls m p la.took z
    held = b.own.took la.took la.has

    abbrev q : Place
    q = place_of m.places held.0

    home : home_of m.homes k ≡ InSlot held.0
    home = ap (home_of m.homes) (sym la.key) ∙ held.1.home

    small : IsSmall q.content.number
    small = by_has (has_key old k) refl
      where
        by_has : (e : Bool) → has_key old k ≡ e → IsSmall q.content.number
        by_has false none =
            let nowhere =
            absent_home l words views s id v b t page.fence old page.there led leaf k
            (ap (λ (z : Span). in_span z k) page.span ∙ within) none in
            let no : InSlot held.0 ≡ Nowhere = sym home ∙ nowhere in absurd (cc)
        by_has true has =
            let here = index_of old k has in
            let there : home_of m.homes k ≡ InSlot (spot t here.index) =
            leaf_homes l words views s id v b t page.fence old page.there led leaf k
            (ap (λ (z : Span). in_span z k) page.span ∙ within)
            ∙ (home_at t 0 old here.index k once here.at ∙ ap (λ j. InSlot (spot t j)) (plus here.index)) in
            let both : InSlot held.0 ≡ InSlot (spot t here.index) = sym home ∙ there in
            let spots : held.0 ≡ spot t here.index = cc in
            let keyed =
            head.records.keys here.index k
            (ap (λ (z : List Key). slice_get z here.index) head.is.keys ∙ here.at) in
            subst (λ (z : Spot). IsSmall (place_of m.places z).content.number)
            (ap (λ u. spot u here.index) can.slot ∙ sym spots) keyed.small

    undecided-is : undecided v.seat.stage ≡ true
    undecided-is = begins_undecided v.seat.stage can.idle

    alike : is_version q.content (version_of c) ≡ true
    alike =
        let array = tree_no_array l.decls k.storage tree in
        let bit : IsBitAt l.decls m k q held.1.absent = subst (λ (z : Key). IsBitAt l.decls m z q held.1.absent) la.key held.1.bit in
        let exact : held.1.absent ≡ absent_field tree_leaf q.content.value =
        exact_bit l words views s id v b k held.0 home held.1.own undecided-is held.1.absent bit
        ∙ tree_absence l.decls k q.content.value array in
        let word : number_word q.content.number + absent_field tree_leaf q.content.value
        ≡ number_word c.number + absent_field tree_leaf c.value =
        ap (λ z. number_word q.content.number + z) (sym exact) ∙ (held.1.number ∙ la.word) in
        tree_version q.content c small la.small
        ∙ eq-eqb (number_word q.content.number + absent_field tree_leaf q.content.value)
        (number_word c.number + absent_field tree_leaf c.value) word

    number : q.content.number ≡ c.number
    number =
        same_number-true q.content.number c.number
        (and_parts (same_number q.content.number c.number) (beq (is_some q.content.value) (is_some c.value)) alike).0

    both_some : is_some q.content.value ≡ is_some c.value
    both_some =
        beq_same (is_some q.content.value) (is_some c.value)
        (and_parts (same_number q.content.number c.number) (beq (is_some q.content.value) (is_some c.value)) alike).1
      where
        beq_same : (x y : Bool) → beq x y ≡ true → x ≡ y
        beq_same true true e = refl
        beq_same true false e = sym e
        beq_same false true e = e
        beq_same false false e = refl

    none_same : c.value ≡ None → q.content ≡ c
    none_same none =
        same_content_parts q.content c number (no_value q.content.value (both_some ∙ ap (λ (o : Option ℕ). is_some o) none) ∙ sym none)
      where
        no_value : (o : Option ℕ) → is_some o ≡ false → o ≡ None
        no_value None e = refl
        no_value (Some x) e = absurd (true≢false e)

    content : q.content ≡ c
    content = elim la.value [
      | inl none ↦ none_same none
      | inr seen ↦ elim (b.fits.versions (record { key = k; content = c }) seen) [
        | inl blank ↦ none_same (ap (λ (z : Content). z.value) blank.0)
        | inr version ↦ elim (held_shows l words views s id v b k held.0 home held.1.own undecided-is) [
          | inl last ↦
              last
              ∙ version_same l.opening m.history k (last_write l.opening m.history m.decided k) c
              (b.sound.joint.commits.story.ordered_numbers.rising k)
              (last_version l.opening m.history m.decided k) version
              (ap (λ (z : Content). z.number) (sym last) ∙ number)
          | inr lost ↦ none_same (lost_none c.value (sym both_some ∙ ap (λ (z : Content). is_some z.value) lost.0))
        ]
      ]
    ]
      where
        lost_none : (o : Option ℕ) → is_some o ≡ false → o ≡ None
        lost_none None e = refl
        lost_none (Some x) e = absurd (true≢false e)

    stands-is : stands m.places m.homes k ≡ q
    stands-is = ap (stands_at m.places) home

    movable : is_movable p (can_begin (s.seats p).stage) (stands m.places m.homes k).holder ≡ true
    movable =
        ap (λ (z : Place). is_movable p (can_begin (s.seats p).stage) z.holder) stands-is
        ∙ or_so (is_free q.holder) (holder_is p q.holder && can_begin (s.seats p).stage)
        (and_from (holder_is p q.holder) (can_begin (s.seats p).stage) held.1.own begins)

    same-stands : (stands m.places m.homes k).content ≡ c
    same-stands = ap (λ (z : Place). z.content) stands-is ∙ content

  -- a key that moves is the pass's or nobody's, and the same stands at it
  pub record Standing (k : Key) (c : Content) : Type 0 where
    pub free : is_movable p (can_begin (s.seats p).stage) (stands m.places m.homes k).holder ≡ true
    pub same : (stands m.places m.homes k).content ≡ c

  moving : (y : NewLeaf) → (y ≡ lower) ⊎ (y ≡ upper) → AreMoving v old y
  moving y (inl e) = subst (AreMoving v old) (sym e) can.lower_moves
  moving y (inr e) = subst (AreMoving v old) (sym e) can.upper_moves

  standing : (k : Key) (a : Goes k) (c : Content) → slice_get a.part.contents a.index ≡ Some c → Standing k c
  standing k a c at = elim (moving a.part a.which a.index k c a.at at) [
    | inl la ↦ record { free = movable k c la (tree-is k a) a.within; same = same-stands k c la (tree-is k a) a.within }
    | inr new ↦
        let nowhere =
        absent_home l words views s id v b t page.fence old page.there led leaf k
        (ap (λ (z : Span). in_span z k) page.span ∙ a.within) new.0 in record {
          free = ap (λ (h : Home). is_movable p (can_begin (s.seats p).stage) (stands_at m.places h).holder) nowhere;
          same = ap (λ (h : Home). (stands_at m.places h).content) nowhere ∙ sym new.1;
        }
  ]
    where
      tree-is : (k : Key) → Goes k → is_tree l.decls k.storage ≡ true
      tree-is k a =
          let storage : k.storage ≡ sp.storage = eqb-true k.storage sp.storage (and_parts (eqb k.storage sp.storage) (leb sp.low k.key && leb k.key sp.high) a.within).0 in
          ap (λ (i : ℕ). is_tree l.decls i) storage
          ∙ (ap (λ (y : Layout). is_tree y.decls sp.storage) (sym b.own.layout) ∙ can.page.tree)

  nobody : (y : NewLeaf) → Contains v.new_leaves y → (i : ℕ) (k : Key) → home_of m.homes k ≡ InSlot (spot y.slot i) → ⊥
  nobody y has i k home = true≢false (sym (never y has) ∙ home_known l s k (spot y.slot i) b.sound.joint home)

  may_go : (k : Key) → has_key keys k ≡ true
      → can_move p (can_begin (s.seats p).stage) m (record { key = k; home = to k }) ≡ true
  may_go k has =
      let a = goes k has in
      let y = a.part in
      let z = spot y.slot a.index in
      let is = half y a.made in
      let there = beside y.keys y.contents a.index k is.each a.at in
      let new : place_of m.places z ≡ record { content = there.0; holder = Free } = is.records a.index there.0 there.1 in
      let st = standing k a there.0 there.1 in
      let begin = can_begin (s.seats p).stage in
      let movable-so = is_movable p begin (stands m.places m.homes k).holder in
      let free = is_free (place_of m.places z).holder in
      let none = is_nobodys m.homes (Some z) in
      let go = may_go_for m (place_of m.places z).content (stands m.places m.homes k).content in
      ap (λ (h : Home). can_move p begin m (record { key = k; home = h })) a.home
      ∙ and_from movable-so (free && (none && go)) st.free
      (and_from free (none && go) (ap (λ (x : Place). is_free x.holder) new)
      (and_from none go (nobodys m.homes z (nobody y a.made a.index))
      (ap (λ (x : Place). may_go_for m x.content (stands m.places m.homes k).content) new
      ∙ (ap (may_go_for m there.0) st.same
      ∙ ap (λ (e : Bool). e || (same_content there.0 nothing && (is_none there.0.value && is_below_all m.history m.decided m.given_up there.0.number)))
      (content-self there.0)))))

  moves-let : may_move p m (s.seats p) (moves d (Twin twins)) ≡ true
  moves-let =
      let once-keys = (and_parts (each_once keys) (list_all (λ q. has_key lower.keys q || has_key upper.keys q) keys
      && (list_all (λ q. has_key keys q) lower.keys && (list_all (λ q. has_key keys q) upper.keys && list_all (λ q. has_key keys q) old)))
      can.keys_are).0 in
      ap (λ (z : Span). can_rehome p (can_begin (s.seats p).stage) m (moves_to (twin_home d z twins) keys)) over
      ∙ and_from (are_apart (moves_to to keys)) (list_all (can_move p (can_begin (s.seats p).stage) m) (moves_to to keys))
      (apart_of to keys once-keys (λ k has. let a = goes k has in (spot a.part.slot a.index, a.home)) one_key)
      (each_at (can_move p (can_begin (s.seats p).stage) m) to keys (λ i k is. may_go k (has_at keys i k is)))

  -- so the leaf may be split
  pub may_split : may_do s p (Turn (Twin twins)) ≡ true
  may_split =
      and_from (page_allows p d g (Twin twins)) (commit_lets p m (s.seats p) d (Twin twins) && may_move p m (s.seats p) (moves d (Twin twins)))
      pages-let
      (and_from (commit_lets p m (s.seats p) d (Twin twins)) (may_move p m (s.seats p) (moves d (Twin twins)))
      (and_from (can_begin (s.seats p).stage) (holds_all p m (leaf_keys (page_of d t))) begins holds_old)
      moves-let)
