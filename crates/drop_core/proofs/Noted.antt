-- Slots below the room alone are given; and which seat made a slot, or took away what led to it, is noted by one.
use Rattle.std.proofs.Common.{◌≡◌, ℕ, ◌+◌, ◌-◌, ◌<◌, ◌≤◌, Bool, true, false, not, true≢false, cond, eqb, eqb-true, eq-eqb, ltb, ◌&&◌, ◌||◌, ◌⊎◌, inl, inr, List, [], ◌∷◌, ◌++◌, refl, sym, ap, ◌∙◌, subst, arith, set, Option, Some, None}
use Rattle.std.proofs.lemmas.Bool.{cases_Bool, and_parts, or_cases, or_left, or_right, cond-true, cond-false, false_from_ne_true}
use Rattle.std.proofs.lemmas.Bool.Decides.{nat_tests}
use Rattle.std.specs.List.{slice_get, sum_by}
use Rattle.std.specs.Prelude.{is_none}
use Rattle.serial_model.specs.declared.key.Key.{Key}
use Rattle.homes.specs.declared.places.At.{At}
use Rattle.homes.specs.declared.places.Span.{Span}
use Rattle.homes.specs.declared.places.Home.{Home}
use Rattle.homes.specs.Homes.{is_free, holder_is, has_key, look}
use Rattle.homes.specs.Laws.{number_or_other}
use Rattle.drop_core.specs.declared.table.Led.{Led}
use Rattle.drop_core.specs.declared.table.Led.TheVariants.{Never, From, Away}
use Rattle.drop_core.specs.declared.table.SlotState.{SlotState}
use Rattle.drop_core.specs.declared.table.SlotState.TheVariants.{Unused, Owned, Published, Retired}
use Rattle.drop_core.specs.declared.table.Slot.{Slot}
use Rattle.drop_core.specs.declared.table.Table.{Table}
use Rattle.drop_core.specs.declared.grip.Grip.{Grip}
use Rattle.drop_core.specs.declared.event.Twins.{Twins}
use Rattle.drop_core.specs.declared.event.Act.{Act}
use Rattle.drop_core.specs.declared.event.Act.TheVariants.{Enter, Leave, Give, Publish, Retire, FillPage, FillPointer, FillSnapshot, Extend, Install, Swing, Renew, Shut, Reopen, FillHeader, LockHeader, OpenHeader, Twin, SwingChain}
use Rattle.drop_core.specs.Table.{slot_of, page_of, pointer_of, header_of, snap_of, fresh_slot, has_slot, at_index, is_led, is_never, is_away, is_live, counts_hold, counts_made, counts_taken}
use Rattle.drop_core.specs.Event.{is_owned, is_published, can_be_given, most_times, most_passes, is_open, is_like, stands_for, can_install, can_split, is_half, is_ready, is_leaf_of, is_separator, are_keys_of, lower_span, upper_span, minor_records, major_records, most_records, leaf_keys, key_in, slot_span, is_allowed, with_slot, without, twinned, installed, dropped, swung, effect}
use Rattle.drop_core.specs.Sound.{IsLedSo, IsSoundTable, SlotsWithin, NotedByOne, is_in_making, is_left}
use Rattle.drop_core.proofs.ChainDrops.{led_from}
use Rattle.drop_core.proofs.Conditions.{CanTwin}
use Rattle.drop_core.proofs.Drops.{slot-gone, slot-kept}
use Rattle.drop_core.proofs.Fills.{never_led}
use Rattle.drop_core.proofs.Halves.{splits}
use Rattle.drop_core.proofs.Holds.{sum-set_grip, counts-held, one-le-sum}
use Rattle.drop_core.proofs.Repoints.{slot-same, slot-other}
use Rattle.drop_core.proofs.SlotTurns.{has-new, has-more, has-without, has-none}
use Rattle.drop_core.proofs.Splitting.{slots}
use Rattle.drop_core.proofs.Swings.{Installs, install_asks, swing_live, published}

-- ---- below the room

module _ (homes : Key → Home) (d : Table) (grips : List Grip) (sound : IsSoundTable homes d grips) (within : SlotsWithin d) where
  -- a slot that isn't as fresh as one is below the room
  not_fresh : (s : ℕ) → (slot_of d s ≡ fresh_slot → ⊥) → d.room ≤ s → ⊥
  not_fresh s other above = other (within s above)

  never_from : (y : At) → Never ≡ From y → ⊥
  never_from y e = cc

  unused_published : Unused ≡ Published → ⊥
  unused_published e = cc

  led_not : (s : ℕ) (y : At) → (slot_of d s).led ≡ From y → d.room ≤ s → ⊥
  led_not s y is = not_fresh s (λ e. never_from y (sym (ap (λ (q : Slot). q.led) e) ∙ is))

  published_not : (s : ℕ) → (slot_of d s).state ≡ Published → d.room ≤ s → ⊥
  published_not s is = not_fresh s (λ e. unused_published (sym (ap (λ (q : Slot). q.state) e) ∙ is))

  below_not : (s : ℕ) → ltb s d.room ≡ true → d.room ≤ s → ⊥
  below_not s less above = apart s d.room less above
    where
      apart : (s n : ℕ) → ltb s n ≡ true → n ≤ s → ⊥
      apart s n less above = let is = grind_less s n less in absurd (omega (arith, is, above))
        where
          grind_less : (s n : ℕ) → ltb s n ≡ true → s < n
          grind_less s n less = grind (arith, nat_tests)

  slot_within : (t : ℕ) (x : Slot) → (d.room ≤ t → ⊥) → SlotsWithin (with_slot d t x)
  slot_within t x below = λ s above. elim (number_or_other t s) [
    | inl e ↦ absurd (below (subst (λ (u : ℕ). d.room ≤ u) (sym e.0) above))
    | inr o ↦ cond-false (eqb t s) x (slot_of d s) o.1 ∙ within s above
  ]

  dropped_within : (x : At) (n : ℕ) (gone : List ℕ) → ((s : ℕ) → has_slot gone s ≡ true → d.room ≤ s → ⊥) → SlotsWithin (dropped d x n gone)
  dropped_within x n gone below = λ s above. elim (cases_Bool (has_slot gone s)) [
    | inl e ↦ absurd (below s e above)
    | inr e ↦ slot-kept d x n gone s e ∙ within s above
  ]

  module _ (p : ℕ) (g : Grip) (at : slice_get grips p ≡ Some g) where
    -- a slot that a seat holds was given
    held_not : (t : ℕ) → has_slot g.holds t ≡ true → d.room ≤ t → ⊥
    held_not t holds = not_fresh t (λ e.
        let one = counts-held t g holds in
        let all = one-le-sum (counts_hold t) grips p g at in
        let is = sound.holds_counted.counted t in
        let none : (slot_of d t).passes ≡ 0 = ap (λ (q : Slot). q.passes) e in
        absurd (omega (arith, one, all, is, none)))

    swung_within : (x : At) (n : ℕ) (o : Option ℕ) → is_live d x ≡ true → (pointer_of d x).slot ≡ o → SlotsWithin (swung d g x n o).table
    swung_within x n None live leads = within
    swung_within x n (Some t) live leads = dropped_within x n (t ∷ []) (λ s hit.
        led_not s x (subst (λ (u : ℕ). (slot_of d u).led ≡ From x) (only t s hit) (sound.holds_counted.back x t live leads)))
      where
        only : (t s : ℕ) → has_slot (t ∷ []) s ≡ true → t ≡ s
        only t s hit = elim (or_cases (eqb t s) false hit) [ inl e ↦ eqb-true t s e | inr none ↦ absurd (true≢false (sym none)) ]

    pub within_keeps : (act : Act) → is_allowed p d g act ≡ true → SlotsWithin (effect p d g act).table
    within_keeps (Enter t) can =
        slot_within t (record (slot_of d t) { passes = (slot_of d t).passes + 1 })
        (below_not t (and_parts (ltb t d.room) (not (has_slot g.holds t) && ltb (slot_of d t).passes most_passes) can).0)
    within_keeps (Leave t) can = slot_within t (record (slot_of d t) { passes = (slot_of d t).passes - 1 }) (held_not t can)
    within_keeps (Give t) can =
        slot_within t (record (slot_of d t) { state = Owned; times = (slot_of d t).times + 1; led = Never })
        (below_not t (and_parts (ltb t d.room) (can_be_given (slot_of d t).state && (eqb (slot_of d t).passes 0 && ltb (slot_of d t).times most_times)) can).0)
    within_keeps (Publish t) can =
        slot_within t (record (slot_of d t) { state = Published })
        (not_fresh t (λ e. true≢false (sym (and_parts (is_owned (slot_of d t).state) (has_slot g.made t) can).0 ∙ ap (λ (q : Slot). is_owned q.state) e)))
    within_keeps (Retire t) can =
        slot_within t (record (slot_of d t) { state = Retired })
        (published_not t (published (slot_of d t).state (and_parts (is_published (slot_of d t).state) (not (is_led (slot_of d t).led) && (has_slot g.made t || has_slot g.taken t)) can).0))
    within_keeps (FillPage t page) can = within
    within_keeps (FillPointer x q) can = within
    within_keeps (FillSnapshot n page) can = within
    within_keeps (Extend n) can = within
    within_keeps (Install x t) can = λ s above. elim (number_or_other t s) [
      | inl e ↦ absurd (published_not t (install_asks homes d grips sound p t g x can).state (subst (λ (u : ℕ). d.room ≤ u) (sym e.0) above))
      | inr o ↦ slot-other d x t (From x) (Some t) (pointer_of d x).page s o.0 ∙ within s above
    ]
    within_keeps (Swing x n) can = swung_within x n (pointer_of d x).slot (swing_live homes d grips sound p g x n can) refl
    within_keeps (Renew x n) can = within
    within_keeps (Shut x) can = within
    within_keeps (Reopen x) can = within
    within_keeps (FillHeader t) can = within
    within_keeps (LockHeader t) can = within
    within_keeps (OpenHeader t None) can = within
    within_keeps (OpenHeader t (Some k)) can = within
    within_keeps (Twin w) can =
        let two = splits homes d grips sound p g w can in
        slots homes d grips two.0 (slot_span d w.slot) w (leaf_keys (page_of d w.slot)) two.2 sound (λ s q. d.room ≤ s → q ≡ fresh_slot)
        (λ above. absurd (published_not w.minor two.2.a_state above)) (λ above. absurd (published_not w.major two.2.b_state above))
        (λ s oa ob above. within s above)
    within_keeps (SwingChain x n c) can = dropped_within x n c.slots (λ s hit.
        let from = led_from homes d grips sound p g x n c can s hit in led_not s from.0 from.1)

-- ---- noted by one

-- What becomes of the note of a slot: it stays, one seat makes it, or the seat that had it gives it up.
abbrev pub NoteTurns : Bool → Bool → Bool → Bool → Type 0
NoteTurns had has was is = ((has ≡ had) × (is ≡ was)) ⊎ (((was ≡ false) × (has ≡ true) × (is ≡ true))
    ⊎ ((was ≡ true) × (had ≡ true) × (has ≡ false) × (is ≡ false)))

module _ (count : Grip → ℕ) (note : Grip → Bool) (counts : (g : Grip) → count g ≡ cond (note g) 1 0) (grips : List Grip) (p : ℕ) (g new : Grip)
    (at : slice_get grips p ≡ Some g) where
  noted_not : sum_by count grips ≡ 0 → note g ≡ false
  noted_not none = false_from_ne_true (note g) (λ e.
      let one : count g ≡ 1 = counts g ∙ cond-true (note g) 1 0 e in
      let all = one-le-sum count grips p g at in
      absurd (omega (arith, none, one, all)))

  pub turns_noted : (was is : Bool) → NoteTurns (note g) (note new) was is → sum_by count grips ≡ cond was 1 0 → sum_by count (set grips p new) ≡ cond is 1 0
  turns_noted was is (inl same) before =
      let sums = sum-set_grip count grips p g new at in
      let equal : count new ≡ count g = counts new ∙ ap (λ (b : Bool). cond b 1 0) same.0 ∙ sym (counts g) in
      let now : ◌≡◌ {A = ℕ} (cond is 1 0) (cond was 1 0) = ap (λ (b : Bool). cond b 1 0) same.1 in
      omega (arith, sums, equal, before, now)
  turns_noted was is (inr (inl made)) before =
      let none : sum_by count grips ≡ 0 = before ∙ ap (λ (b : Bool). cond b 1 0) made.0 in
      let sums = sum-set_grip count grips p g new at in
      let old : count g ≡ 0 = counts g ∙ ap (λ (b : Bool). cond b 1 0) (noted_not none) in
      let one : count new ≡ 1 = counts new ∙ ap (λ (b : Bool). cond b 1 0) made.1 in
      let now : ◌≡◌ {A = ℕ} (cond is 1 0) 1 = ap (λ (b : Bool). cond b 1 0) made.2 in
      omega (arith, none, sums, old, one, now)
  turns_noted was is (inr (inr gone)) before =
      let one : sum_by count grips ≡ 1 = before ∙ ap (λ (b : Bool). cond b 1 0) gone.0 in
      let sums = sum-set_grip count grips p g new at in
      let old : count g ≡ 1 = counts g ∙ ap (λ (b : Bool). cond b 1 0) gone.1 in
      let none : count new ≡ 0 = counts new ∙ ap (λ (b : Bool). cond b 1 0) gone.2 in
      let now : ◌≡◌ {A = ℕ} (cond is 1 0) 0 = ap (λ (b : Bool). cond b 1 0) gone.3 in
      omega (arith, one, sums, old, none, now)

-- what becomes of both notes of a slot
abbrev pub MadeTurns : Table → Table → Grip → Grip → ℕ → Type 0
MadeTurns d new g g' s = NoteTurns (has_slot g.made s) (has_slot g'.made s) (is_in_making (slot_of d s)) (is_in_making (slot_of new s))

abbrev pub TakenTurns : Table → Table → Grip → Grip → ℕ → Type 0
TakenTurns d new g g' s = NoteTurns (has_slot g.taken s) (has_slot g'.taken s) (is_left (slot_of d s)) (is_left (slot_of new s))

-- a slot that may be given is noted by none
usable_bare : (state : SlotState) (led : Led) → can_be_given state ≡ true
    → ((is_owned state || (is_published state && is_never led)) ≡ false) × ((is_published state && is_away led) ≡ false)
usable_bare Unused led e = (refl, refl)
usable_bare Owned led e = absurd (true≢false (sym e))
usable_bare Published led e = absurd (true≢false (sym e))
usable_bare Retired led e = (refl, refl)

has_append : (xs ys : List ℕ) (s : ℕ) → has_slot xs s ≡ true → has_slot (xs ++ ys) s ≡ true
has_append [] ys s e = absurd (true≢false (sym e))
has_append (x ∷ xs) ys s e = elim (or_cases (eqb x s) (has_slot xs s) e) [
  | inl is ↦ or_left (eqb x s) (has_slot (xs ++ ys) s) is
  | inr more ↦ or_right (eqb x s) (has_slot (xs ++ ys) s) (has_append xs ys s more)
]

not_append : (xs ys : List ℕ) (s : ℕ) → has_slot xs s ≡ false → has_slot (xs ++ ys) s ≡ has_slot ys s
not_append [] ys s e = refl
not_append (x ∷ xs) ys s e =
    let first : eqb x s ≡ false = false_from_ne_true (eqb x s) (λ is. true≢false (sym (or_left (eqb x s) (has_slot xs s) is) ∙ e)) in
    let more : has_slot xs s ≡ false = false_from_ne_true (has_slot xs s) (λ is. true≢false (sym (or_right (eqb x s) (has_slot xs s) is) ∙ e)) in
    ap (λ (b : Bool). b || has_slot (xs ++ ys) s) first ∙ not_append xs ys s more

module _ (homes : Key → Home) (d : Table) (grips : List Grip) (sound : IsSoundTable homes d grips) (noted : NotedByOne d grips)
    (p : ℕ) (g : Grip) (at : slice_get grips p ≡ Some g) where
  record Turns (new : Table) (g' : Grip) : Type 0 where
    made : (s : ℕ) → MadeTurns d new g g' s
    taken : (s : ℕ) → TakenTurns d new g g' s

  keeps_turned : (new : Table) (g' : Grip) → Turns new g' → NotedByOne new (set grips p g')
  keeps_turned new g' turns = record {
    made = λ s. turns_noted (counts_made s) (λ h. has_slot h.made s) (λ h. refl) grips p g g' at
        (is_in_making (slot_of d s)) (is_in_making (slot_of new s)) (turns.made s) (noted.made s);
    taken = λ s. turns_noted (counts_taken s) (λ h. has_slot h.taken s) (λ h. refl) grips p g g' at
        (is_left (slot_of d s)) (is_left (slot_of new s)) (turns.taken s) (noted.taken s);
  }

  -- where slots and notes are as they were
  still : (new : Table) → new.slots ≡ d.slots → Turns new g
  still new same = record {
    made = λ s. inl (refl, ap is_in_making (slot_as s));
    taken = λ s. inl (refl, ap is_left (slot_as s));
  }
    where
      slot_as : (s : ℕ) → slot_of new s ≡ slot_of d s
      slot_as s = ap (λ (l : List (ℕ × Slot)). look (λ a b. eqb a b) fresh_slot l s) same

  -- where one slot is another, with the same notes
  slot_turns : (t : ℕ) (x : Slot) (g' : Grip) → g'.made ≡ g.made → g'.taken ≡ g.taken → is_in_making x ≡ is_in_making (slot_of d t) → is_left x ≡ is_left (slot_of d t)
      → Turns (with_slot d t x) g'
  slot_turns t x g' made taken making left = record {
    made = λ s. inl (
      ap (λ (l : List ℕ). has_slot l s) made,
      elim (number_or_other t s) [
        | inl e ↦ ap is_in_making (cond-true (eqb t s) x (slot_of d s) e.1) ∙ making ∙ ap (λ (u : ℕ). is_in_making (slot_of d u)) e.0
        | inr o ↦ ap is_in_making (cond-false (eqb t s) x (slot_of d s) o.1)
      ],
    );
    taken = λ s. inl (
      ap (λ (l : List ℕ). has_slot l s) taken,
      elim (number_or_other t s) [
        | inl e ↦ ap is_left (cond-true (eqb t s) x (slot_of d s) e.1) ∙ left ∙ ap (λ (u : ℕ). is_left (slot_of d u)) e.0
        | inr o ↦ ap is_left (cond-false (eqb t s) x (slot_of d s) o.1)
      ],
    );
  }

  -- slots that are led to are led away, and taken by the seat
  module _ (x : At) (n : ℕ) (gone : List ℕ) (from : (s : ℕ) → has_slot gone s ≡ true → (y : At) × ((slot_of d s).led ≡ From y)) (g' : Grip)
      (made : g'.made ≡ g.made) (taken : g'.taken ≡ gone ++ g.taken) where
    -- a slot that is led to is published
    is_from : (s : ℕ) → has_slot gone s ≡ true → (slot_of d s).state ≡ Published
    is_from s hit = let y = from s hit in
        (subst (λ (l : Led). IsLedSo d s (slot_of d s).state l) y.1 (sound.holds_counted.led s)).0

    making_then : (s : ℕ) → has_slot gone s ≡ true → (l : Led) → (is_never l ≡ false) → (is_owned (slot_of d s).state || (is_published (slot_of d s).state && is_never l)) ≡ false
    making_then s hit l not = ap (λ (q : SlotState). is_owned q || (is_published q && is_never l)) (is_from s hit) ∙ not

    dropped_turns : Turns (dropped d x n gone) g'
    dropped_turns = record {
      made = λ s. inl (
        ap (λ (l : List ℕ). has_slot l s) made,
        elim (cases_Bool (has_slot gone s)) [
          | inl e ↦ ap is_in_making (slot-gone d x n gone s e) ∙ making_then s e Away refl
              ∙ sym (making_then s e (slot_of d s).led (ap is_never (from s e).1))
          | inr e ↦ ap is_in_making (slot-kept d x n gone s e)
        ],
      );
      taken = λ s. elim (cases_Bool (has_slot gone s)) [
        | inl e ↦ inr (inl (
          ap (λ (l : Led). is_published (slot_of d s).state && is_away l) (from s e).1 ∙ ap (λ (q : SlotState). is_published q && false) (is_from s e),
          ap (λ (l : List ℕ). has_slot l s) taken ∙ has_append gone g.taken s e,
          ap is_left (slot-gone d x n gone s e) ∙ ap (λ (q : SlotState). is_published q && true) (is_from s e),
        ))
        | inr e ↦ inl (ap (λ (l : List ℕ). has_slot l s) taken ∙ not_append gone g.taken s e, ap is_left (slot-kept d x n gone s e))
      ];
    }

  swung_turns : (x : At) (n : ℕ) (o : Option ℕ) → is_live d x ≡ true → (pointer_of d x).slot ≡ o → Turns (swung d g x n o).table (swung d g x n o).grip
  swung_turns x n None live leads = still d refl
  swung_turns x n (Some t) live leads = dropped_turns x n (t ∷ [])
      (λ s hit. (x, subst (λ (u : ℕ). (slot_of d u).led ≡ From x) (only t s hit) (sound.holds_counted.back x t live leads)))
      (record g { taken = t ∷ g.taken }) refl refl
    where
      only : (t s : ℕ) → has_slot (t ∷ []) s ≡ true → t ≡ s
      only t s hit = elim (or_cases (eqb t s) false hit) [ inl e ↦ eqb-true t s e | inr none ↦ absurd (true≢false (sym none)) ]

  -- what is retired: a slot that its maker gives up, or one that was taken
  module _ (t : ℕ) (state : (slot_of d t).state ≡ Published) (mine : (has_slot g.made t || has_slot g.taken t) ≡ true) where
    abbrev retired : Slot
    retired = record (slot_of d t) { state = Retired }

    abbrev g_now : Grip
    g_now = record g { made = without g.made t; taken = without g.taken t }

    making_is : (l : Led) → (slot_of d t).led ≡ l → is_in_making (slot_of d t) ≡ is_never l
    making_is l e = ap (λ (q : SlotState). is_owned q || (is_published q && is_never (slot_of d t).led)) state ∙ ap is_never e

    left_is : (l : Led) → (slot_of d t).led ≡ l → is_left (slot_of d t) ≡ is_away l
    left_is l e = ap (λ (q : SlotState). is_published q && is_away (slot_of d t).led) state ∙ ap is_away e

    unmade : is_in_making (slot_of d t) ≡ false → has_slot g.made t ≡ false
    unmade e = noted_not (counts_made t) (λ h. has_slot h.made t) (λ h. refl) grips p g g_now at (noted.made t ∙ ap (λ (b : Bool). cond b 1 0) e)

    untaken : is_left (slot_of d t) ≡ false → has_slot g.taken t ≡ false
    untaken e = noted_not (counts_taken t) (λ h. has_slot h.taken t) (λ h. refl) grips p g g_now at (noted.taken t ∙ ap (λ (b : Bool). cond b 1 0) e)

    made_turn : (l : Led) → (slot_of d t).led ≡ l → is_led l ≡ false → NoteTurns (has_slot g.made t) (has_slot (without g.made t) t) (is_in_making (slot_of d t)) false
    made_turn Never e not = inr (inr (
      making_is Never e,
      elim (or_cases (has_slot g.made t) (has_slot g.taken t) mine) [
        | inl made ↦ made
        | inr taken ↦ absurd (true≢false (sym taken ∙ untaken (left_is Never e)))
      ],
      has-none t g.made,
      refl,
    ))
    made_turn (From y) e not = absurd (true≢false not)
    made_turn Away e not = inl (has-none t g.made ∙ sym (unmade (making_is Away e)), sym (making_is Away e))

    taken_turn : (l : Led) → (slot_of d t).led ≡ l → is_led l ≡ false → NoteTurns (has_slot g.taken t) (has_slot (without g.taken t) t) (is_left (slot_of d t)) false
    taken_turn Never e not = inl (has-none t g.taken ∙ sym (untaken (left_is Never e)), sym (left_is Never e))
    taken_turn (From y) e not = absurd (true≢false not)
    taken_turn Away e not = inr (inr (
      left_is Away e,
      elim (or_cases (has_slot g.made t) (has_slot g.taken t) mine) [
        | inl made ↦ absurd (true≢false (sym made ∙ unmade (making_is Away e)))
        | inr taken ↦ taken
      ],
      has-none t g.taken,
      refl,
    ))

    retired_turns : is_led (slot_of d t).led ≡ false → Turns (with_slot d t retired) g_now
    retired_turns not = record {
      made = λ s. elim (number_or_other t s) [
        | inl e ↦ subst (λ (u : ℕ). MadeTurns d (with_slot d t retired) g g_now u) e.0
            (subst (λ (b : Bool). NoteTurns (has_slot g.made t) (has_slot (without g.made t) t) (is_in_making (slot_of d t)) b)
            (sym (ap is_in_making (slot_now t))) (made_turn (slot_of d t).led refl not))
        | inr o ↦ inl (has-without t s g.made o.0, ap is_in_making (cond-false (eqb t s) retired (slot_of d s) o.1))
      ];
      taken = λ s. elim (number_or_other t s) [
        | inl e ↦ subst (λ (u : ℕ). TakenTurns d (with_slot d t retired) g g_now u) e.0
            (subst (λ (b : Bool). NoteTurns (has_slot g.taken t) (has_slot (without g.taken t) t) (is_left (slot_of d t)) b)
            (sym (ap is_left (slot_now t))) (taken_turn (slot_of d t).led refl not))
        | inr o ↦ inl (has-without t s g.taken o.0, ap is_left (cond-false (eqb t s) retired (slot_of d s) o.1))
      ];
    }
      where
        slot_now : (t : ℕ) → slot_of (with_slot d t retired) t ≡ retired
        slot_now t = cond-true (eqb t t) retired (slot_of d t) (eq-eqb t t refl)

  -- a slot that is given
  given_turns : (t : ℕ) → can_be_given (slot_of d t).state ≡ true → (new : Table) → new.slots ≡ (t, record (slot_of d t) { state = Owned; times = (slot_of d t).times + 1; led = Never }) ∷ d.slots
      → Turns new (record g { made = t ∷ g.made })
  given_turns t can new is = record {
    made = λ s. elim (number_or_other t s) [
      | inl e ↦ subst (λ (u : ℕ). MadeTurns d new g (record g { made = t ∷ g.made }) u) e.0
          (inr (inl (bare.0, has-new t g.made, ap is_in_making (now t (eq-eqb t t refl)))))
      | inr o ↦ inl (has-more t s g.made o.0, ap is_in_making (other s o.1))
    ];
    taken = λ s. elim (number_or_other t s) [
      | inl e ↦ subst (λ (u : ℕ). TakenTurns d new g (record g { made = t ∷ g.made }) u) e.0
          (inl (refl, ap is_left (now t (eq-eqb t t refl)) ∙ sym bare.1))
      | inr o ↦ inl (refl, ap is_left (other s o.1))
    ];
  }
    where
      given : Slot
      given = record (slot_of d t) { state = Owned; times = (slot_of d t).times + 1; led = Never }

      bare : (is_in_making (slot_of d t) ≡ false) × (is_left (slot_of d t) ≡ false)
      bare = usable_bare (slot_of d t).state (slot_of d t).led can

      look_in : (s : ℕ) → slot_of new s ≡ cond (eqb t s) given (slot_of d s)
      look_in s = ap (λ (l : List (ℕ × Slot)). look (λ a b. eqb a b) fresh_slot l s) is

      now : (s : ℕ) → eqb t s ≡ true → slot_of new s ≡ given
      now s e = look_in s ∙ cond-true (eqb t s) given (slot_of d s) e

      other : (s : ℕ) → eqb t s ≡ false → slot_of new s ≡ slot_of d s
      other s e = look_in s ∙ cond-false (eqb t s) given (slot_of d s) e

  and_false : (b : Bool) → (b && false) ≡ false
  and_false true = refl
  and_false false = refl

  -- a slot that is led to for the first time
  making_ready : (t : ℕ) → (slot_of d t).state ≡ Published → (slot_of d t).led ≡ Never → is_in_making (slot_of d t) ≡ true
  making_ready t state led = ap (λ (q : SlotState). is_owned q || (is_published q && is_never (slot_of d t).led)) state ∙ ap is_never led

  left_ready : (t : ℕ) → (slot_of d t).led ≡ Never → is_left (slot_of d t) ≡ false
  left_ready t led = ap (λ (l : Led). is_published (slot_of d t).state && is_away l) led ∙ and_false (is_published (slot_of d t).state)

  led_making : (t : ℕ) (y : At) → (slot_of d t).state ≡ Published → is_in_making (record (slot_of d t) { led = From y }) ≡ false
  led_making t y state = ap (λ (q : SlotState). is_owned q || (is_published q && false)) state

  install_turns : (x : At) (t : ℕ) → is_allowed p d g (Install x t) ≡ true → has_slot g.made t ≡ true → Turns (installed d x t) (record g { made = without g.made t })
  install_turns x t can made = record {
    made = λ s. elim (number_or_other t s) [
      | inl e ↦ subst (λ (u : ℕ). MadeTurns d (installed d x t) g (record g { made = without g.made t }) u) e.0
          (inr (inr (making_ready t asks.state asks.led, made, has-none t g.made, ap is_in_making slot_now ∙ led_making t x asks.state)))
      | inr o ↦ inl (has-without t s g.made o.0, ap is_in_making (slot-other d x t (From x) (Some t) (pointer_of d x).page s o.0))
    ];
    taken = λ s. elim (number_or_other t s) [
      | inl e ↦ subst (λ (u : ℕ). TakenTurns d (installed d x t) g (record g { made = without g.made t }) u) e.0
          (inl (refl, ap is_left slot_now ∙ and_false (is_published (slot_of d t).state) ∙ sym (left_ready t asks.led)))
      | inr o ↦ inl (refl, ap is_left (slot-other d x t (From x) (Some t) (pointer_of d x).page s o.0))
    ];
  }
    where
      asks : Installs d x t
      asks = install_asks homes d grips sound p t g x can

      slot_now : slot_of (installed d x t) t ≡ record (slot_of d t) { led = From x }
      slot_now = slot-same d x t (From x) (Some t) (pointer_of d x).page

  module _ (x : At) (span : Span) (w : Twins) (keys : List Key) (can : CanTwin d x span w keys) (a_made : has_slot g.made w.minor ≡ true) (b_made : has_slot g.made w.major ≡ true) where
    abbrev g_split : Grip
    g_split = record g { made = without (without g.made w.minor) w.major }

    abbrev MadeSo : ℕ → Slot → Type 0
    MadeSo s q = NoteTurns (has_slot g.made s) (has_slot g_split.made s) (is_in_making (slot_of d s)) (is_in_making q)

    abbrev TakenSo : ℕ → Slot → Type 0
    TakenSo s q = NoteTurns (has_slot g.taken s) (has_slot g.taken s) (is_left (slot_of d s)) (is_left q)

    twin_turns : Turns (twinned d span w) g_split
    twin_turns = record {
      made = slots homes d grips x span w keys can sound MadeSo
          (inr (inr (
            making_ready w.minor can.a_state can.a_led,
            a_made,
            has-without w.major w.minor (without g.made w.minor) (λ e. can.two (sym e)) ∙ has-none w.minor g.made,
            led_making w.minor (at_index w.slot 0) can.a_state,
          )))
          (inr (inr (making_ready w.major can.b_state can.b_led, b_made, has-none w.major (without g.made w.minor), led_making w.major (at_index w.slot 1) can.b_state)))
          (λ s oa ob. inl (has-without w.major s (without g.made w.minor) ob ∙ has-without w.minor s g.made oa, refl));
      taken = slots homes d grips x span w keys can sound TakenSo
          (inl (refl, and_false (is_published (slot_of d w.minor).state) ∙ sym (left_ready w.minor can.a_led)))
          (inl (refl, and_false (is_published (slot_of d w.major).state) ∙ sym (left_ready w.major can.b_led)))
          (λ s oa ob. inl (refl, refl));
    }

  -- both halves were made by the seat
  pub halves_made : (w : Twins) (span : Span) → can_split p d g span w ≡ true → (has_slot g.made w.minor ≡ true) × (has_slot g.made w.major ≡ true)
  halves_made w span can =
      let last : Bool = are_keys_of (leaf_keys (page_of d w.slot)) (leaf_keys (page_of d w.minor)) (leaf_keys (page_of d w.major)) w.keys && has_key (leaf_keys (page_of d w.major)) (key_in span w.separator) in
      let full : Bool = is_leaf_of span most_records (page_of d w.slot) && last in
      let b : Bool = is_half d g w.major (upper_span span w.separator) major_records in
      let a : Bool = is_half d g w.minor (lower_span span w.separator) minor_records in
      let c1 = and_parts (holder_is p (header_of d w.slot)) (is_separator span w.separator && (not (eqb w.minor w.major) && (a && (b && full)))) can in
      let c2 = and_parts (is_separator span w.separator) (not (eqb w.minor w.major) && (a && (b && full))) c1.1 in
      let c3 = and_parts (not (eqb w.minor w.major)) (a && (b && full)) c2.1 in
      let c4 = and_parts a (b && full) c3.1 in
      let c5 = and_parts b full c4.1 in
      (ready w.minor (lower_span span w.separator) minor_records c4.0, ready w.major (upper_span span w.separator) major_records c5.0)
    where
      ready : (s : ℕ) (over : Span) (count : ℕ) → is_half d g s over count ≡ true → has_slot g.made s ≡ true
      ready s over count half =
          let r = (and_parts (is_ready d g s) (is_free (header_of d s) && is_leaf_of over count (page_of d s)) half).0 in
          (and_parts (has_slot g.made s) (is_published (slot_of d s).state && is_never (slot_of d s).led) r).0

  turns : (act : Act) → is_allowed p d g act ≡ true → Turns (effect p d g act).table (effect p d g act).grip
  turns (Enter t) can = slot_turns t (record (slot_of d t) { passes = (slot_of d t).passes + 1 }) (record g { holds = t ∷ g.holds }) refl refl refl refl
  turns (Leave t) can = slot_turns t (record (slot_of d t) { passes = (slot_of d t).passes - 1 }) (record g { holds = without g.holds t }) refl refl refl refl
  turns (Give t) can =
      let usable = (and_parts (ltb t d.room) (can_be_given (slot_of d t).state && (eqb (slot_of d t).passes 0 && ltb (slot_of d t).times most_times)) can).1 in
      given_turns t (and_parts (can_be_given (slot_of d t).state) (eqb (slot_of d t).passes 0 && ltb (slot_of d t).times most_times) usable).0
      (effect p d g (Give t)).table refl
  turns (Publish t) can =
      let own = (and_parts (is_owned (slot_of d t).state) (has_slot g.made t) can).0 in
      let led = never_led homes d grips sound t own in
      slot_turns t (record (slot_of d t) { state = Published }) g refl refl
      (ap is_never led ∙ sym (or_left (is_owned (slot_of d t).state) (is_published (slot_of d t).state && is_never (slot_of d t).led) own))
      (ap is_away led ∙ sym (left_ready t led))
  turns (Retire t) can =
      let c1 = and_parts (is_published (slot_of d t).state) (not (is_led (slot_of d t).led) && (has_slot g.made t || has_slot g.taken t)) can in
      let c2 = and_parts (not (is_led (slot_of d t).led)) (has_slot g.made t || has_slot g.taken t) c1.1 in
      retired_turns t (published (slot_of d t).state c1.0) c2.1 (not_true (is_led (slot_of d t).led) c2.0)
    where
      not_true : (b : Bool) → not b ≡ true → b ≡ false
      not_true true e = absurd (true≢false (sym e))
      not_true false e = refl
  turns (FillPage t page) can = still (record d { pages = (t, page) ∷ d.pages }) refl
  turns (FillPointer x q) can = still (effect p d g (FillPointer x q)).table refl
  turns (FillSnapshot n page) can = still (effect p d g (FillSnapshot n page)).table refl
  turns (Extend n) can = still (record d { published = n }) refl
  turns (Install x t) can =
      let c1 = (and_parts (not (eqb p 0)) (can_install d g x t) can).1 in
      let fits : Bool = is_like d t (page_of d t) (snap_of d (pointer_of d x).page) && stands_for d t (pointer_of d x).page (pointer_of d x).span (page_of d t) in
      let ready : Bool = is_published (slot_of d t).state && is_never (slot_of d t).led in
      let c2 = and_parts (is_open d x) (is_none (pointer_of d x).slot && ((has_slot g.made t && ready) && fits)) c1 in
      let c3 = and_parts (is_none (pointer_of d x).slot) ((has_slot g.made t && ready) && fits) c2.1 in
      let c4 = and_parts (has_slot g.made t && ready) fits c3.1 in
      install_turns x t can (and_parts (has_slot g.made t) ready c4.0).0
  turns (Swing x n) can = swung_turns x n (pointer_of d x).slot (swing_live homes d grips sound p g x n can) refl
  turns (Renew x n) can = still (effect p d g (Renew x n)).table refl
  turns (Shut x) can = still (effect p d g (Shut x)).table refl
  turns (Reopen x) can = still (effect p d g (Reopen x)).table refl
  turns (FillHeader t) can = still (effect p d g (FillHeader t)).table refl
  turns (LockHeader t) can = still (effect p d g (LockHeader t)).table refl
  turns (OpenHeader t None) can = still (effect p d g (OpenHeader t None)).table refl
  turns (OpenHeader t (Some k)) can = still (effect p d g (OpenHeader t (Some k))).table refl
  turns (Twin w) can =
      let two = splits homes d grips sound p g w can in
      let made = halves_made w (slot_span d w.slot) (and_parts (not (eqb p 0)) (can_split p d g (slot_span d w.slot) w) can).1 in
      twin_turns two.0 (slot_span d w.slot) w (leaf_keys (page_of d w.slot)) two.2 made.0 made.1
  turns (SwingChain x n c) can =
      dropped_turns x n c.slots (λ s hit. let from = led_from homes d grips sound p g x n c can s hit in (from.0, from.1))
      (record g { taken = c.slots ++ g.taken }) refl refl

  pub noted_keeps : (act : Act) → is_allowed p d g act ≡ true → NotedByOne (effect p d g act).table (set grips p (effect p d g act).grip)
  noted_keeps act can = keeps_turned (effect p d g act).table (effect p d g act).grip (turns act can)
