-- What each act leaves of a slot that another seat made, and that nothing has led to.
use Rattle.std.proofs.Common.{◌≡◌, ℕ, ◌+◌, ◌-◌, ◌≤◌, Bool, true, false, not, true≢false, cond, eqb, eqb-true, ltb, ◌&&◌, ◌||◌, inl, inr, List, [], ◌∷◌, refl, sym, ap, ◌∙◌, subst, arith, set, Option, Some, None}
use Rattle.std.proofs.lemmas.Bool.{and_parts, or_cases, cond-true, cond-false, false_from_ne_true}
use Rattle.std.specs.List.{slice_get, sum_by}
use Rattle.std.specs.Prelude.{is_none}
use Rattle.lists.specs.Elements.{at_set_other}
use Rattle.serial_model.specs.declared.key.Key.{Key}
use Rattle.homes.specs.declared.places.Holder.{Holder}
use Rattle.homes.specs.declared.places.Holder.TheVariants.{Free, Held, Dead}
use Rattle.homes.specs.declared.places.At.{At}
use Rattle.homes.specs.declared.places.At.TheVariants.{In}
use Rattle.homes.specs.declared.places.Home.{Home}
use Rattle.homes.specs.Homes.{same_at, is_free, holder_is}
use Rattle.homes.specs.Laws.{at_or_other, number_or_other}
use Rattle.drop_core.specs.declared.table.Led.{Led}
use Rattle.drop_core.specs.declared.table.Led.TheVariants.{Never, From, Away}
use Rattle.drop_core.specs.declared.table.SlotState.{SlotState}
use Rattle.drop_core.specs.declared.table.SlotState.TheVariants.{Unused, Owned, Published, Retired}
use Rattle.drop_core.specs.declared.table.Slot.{Slot}
use Rattle.drop_core.specs.declared.table.Pointer.{Pointer}
use Rattle.drop_core.specs.declared.table.Table.{Table}
use Rattle.drop_core.specs.declared.grip.Grip.{Grip}
use Rattle.drop_core.specs.declared.event.Act.{Act}
use Rattle.drop_core.specs.declared.event.Act.TheVariants.{Enter, Leave, Give, Publish, Retire, FillPage, FillPointer, FillSnapshot, Extend, Install, Swing, Renew, Shut, Reopen, FillHeader, LockHeader, OpenHeader, Twin, SwingChain}
use Rattle.drop_core.specs.Table.{slot_of, page_of, pointer_of, header_of, snap_of, has_slot, at_index, is_led, is_never, is_away, has_pointer, is_live, is_split, counts_made, counts_taken, takers}
use Rattle.drop_core.specs.Event.{is_owned, is_published, can_be_given, most_times, is_open, is_in, is_like, stands_for, is_page_over, can_install, can_split, slot_span, leaf_keys, is_allowed, with_slot, with_header, with_pointer, grown, twinned, installed, dropped, swung, effect}
use Rattle.drop_core.specs.Sound.{IsLedSo, IsSoundPages, is_in_making, is_left}
use Rattle.drop_core.specs.Law.{IsMade, LeavesMade}
use Rattle.drop_core.proofs.ChainDrops.{chain_live, led_from}
use Rattle.drop_core.proofs.Drops.{slot-kept, link-other}
use Rattle.drop_core.proofs.Grows.{grown-other}
use Rattle.drop_core.proofs.Halves.{opens_held, splits, splits_held}
use Rattle.drop_core.proofs.Headers.{header-other, buried-other}
use Rattle.drop_core.proofs.Holds.{sum-set_grip, one-le-sum}
use Rattle.drop_core.proofs.Noted.{halves_made}
use Rattle.drop_core.proofs.Repoints.{slot-other, pointer-other}
use Rattle.drop_core.proofs.Splitting.{at-other, slot-other as slot-other_twin, page-other as page-other_twin}
use Rattle.drop_core.proofs.Swings.{install_asks, never, swing_live}

-- ---- of two seats one alone has noted a slot

module _ (count : Grip → ℕ) (bare : Grip) (counts_none : count bare ≡ 0) (grips : List Grip) (p q : ℕ) (g h : Grip)
    (at : slice_get grips p ≡ Some g) (there : slice_get grips q ≡ Some h) (other : q ≡ p → ⊥) where
  one_alone : sum_by count grips ≤ 1 → count h ≡ 1 → count g ≡ 0
  one_alone most one =
      let sums = sum-set_grip count grips p g bare at in
      let rest = one-le-sum count (set grips p bare) q h (at_set_other grips p q bare other ∙ there) in
      omega (arith, most, one, sums, rest, counts_none)

at_most_one : (b : Bool) → cond b 1 0 ≤ 1
at_most_one true = omega arith
at_most_one false = omega arith

one_if : (b : Bool) → ◌≡◌ {A = ℕ} (cond b 1 0) 0 → b ≡ false
one_if true e = absurd (omega (arith, e))
one_if false e = refl

some_if : (b : Bool) → 1 ≤ cond b 1 0 → b ≡ true
some_if true some = refl
some_if false some = absurd (omega (arith, some))

-- ---- a slot in the making

-- nobody may be given it, and nothing has led to it
making_so : (d : Table) (s : ℕ) (state : SlotState) (led : Led) → IsLedSo d s state led
    → (is_owned state || (is_published state && is_never led)) ≡ true → (can_be_given state ≡ false) × (led ≡ Never)
making_so d s Unused led so making = absurd (true≢false (sym making))
making_so d s Owned Never so making = (refl, refl)
making_so d s Owned (From x) so making = absurd (owned_published so.0)
  where
    owned_published : Owned ≡ Published → ⊥
    owned_published e = cc
making_so d s Owned Away so making = absurd (true≢false (sym so))
making_so d s Published led so making = (refl, never led making)
making_so d s Retired led so making = absurd (true≢false (sym making))

never_from : (x : At) → Never ≡ From x → ⊥
never_from x e = cc

held_by : (p : ℕ) (h : Holder) → holder_is p h ≡ true → h ≡ Held p
held_by p Free e = absurd (true≢false (sym e))
held_by p (Held q) e = ap (λ (n : ℕ). Held n) (eqb-true q p e)
held_by p Dead e = absurd (true≢false (sym e))

-- a slot of which a part is as it was
slot_part : {A : Type 0} (d : Table) (f : Slot → A) (t : ℕ) (x : Slot) (s : ℕ) → f x ≡ f (slot_of d t)
    → f (slot_of (with_slot d t x) s) ≡ f (slot_of d s)
slot_part d f t x s same = elim (number_or_other t s) [
  | inl e ↦ ap f (cond-true (eqb t s) x (slot_of d s) e.1) ∙ same ∙ ap (λ (u : ℕ). f (slot_of d u)) e.0
  | inr o ↦ ap f (cond-false (eqb t s) x (slot_of d s) o.1)
]

abbrev bare : Grip
bare = record { holds = []; made = []; taken = [] }

module _ (homes : Key → Home) (d : Table) (grips : List Grip) (q s : ℕ) (h : Grip) (sound : IsSoundPages homes d grips)
    (there : slice_get grips q ≡ Some h) (made : has_slot h.made s ≡ true) where
  one_made : counts_made s h ≡ 1
  one_made = cond-true (has_slot h.made s) 1 0 made

  making : is_in_making (slot_of d s) ≡ true
  making =
      let all = one-le-sum (counts_made s) grips q h there in
      let is = sound.noted.made s in
      some_if (is_in_making (slot_of d s)) (omega (arith, all, is, one_made))

  -- another seat hasn't made the slot
  unmade_by : (p : ℕ) (g : Grip) → (q ≡ p → ⊥) → slice_get grips p ≡ Some g → has_slot g.made s ≡ false
  unmade_by p g other at =
      let is = sound.noted.made s in
      let most = at_most_one (is_in_making (slot_of d s)) in
      one_if (has_slot g.made s) (one_alone (counts_made s) bare refl grips p q g h at there other (omega (arith, is, most)) one_made)

  pub making_is : (can_be_given (slot_of d s).state ≡ false) × ((slot_of d s).led ≡ Never)
  making_is = making_so d s (slot_of d s).state (slot_of d s).led (sound.table.holds_counted.led s) making

  pub made_alone : IsMade d grips q s
  made_alone = record { making = making; never = making_is.1; alone = unmade_by }

-- ---- act by act

module _ (homes : Key → Home) (d : Table) (grips : List Grip) (sound : IsSoundPages homes d grips) (p q s : ℕ) (g h : Grip)
    (at : slice_get grips p ≡ Some g) (there : slice_get grips q ≡ Some h) (other : q ≡ p → ⊥) (made : has_slot h.made s ≡ true) where
  is_made : IsMade d grips q s
  is_made = made_alone homes d grips q s h sound there made

  -- the seat that acts hasn't made the slot
  unmade : has_slot g.made s ≡ false
  unmade = is_made.alone p g other at

  so : (can_be_given (slot_of d s).state ≡ false) × ((slot_of d s).led ≡ Never)
  so = making_is homes d grips q s h sound there made

  fresh : (slot_of d s).led ≡ Never
  fresh = so.1

  -- nor has it taken away what led to it
  untaken : has_slot g.taken s ≡ false
  untaken = one_if (has_slot g.taken s) (none (is_left (slot_of d s)) refl)
    where
      and_false : (b : Bool) → (b && false) ≡ false
      and_false true = refl
      and_false false = refl

      none : (b : Bool) → is_left (slot_of d s) ≡ b → counts_taken s g ≡ 0
      none true e = absurd (true≢false (sym e ∙ ap (λ (l : Led). is_published (slot_of d s).state && is_away l) fresh
          ∙ and_false (is_published (slot_of d s).state)))
      none false e =
          let all = one-le-sum (counts_taken s) grips p g at in
          let is : takers s grips ≡ 0 = sound.noted.taken s ∙ ap (λ (b : Bool). cond b 1 0) e in
          omega (arith, all, is)

  not_led : is_led (slot_of d s).led ≡ false
  not_led = ap is_led fresh

  not_from : (x : At) → (slot_of d s).led ≡ From x → ⊥
  not_from x e = never_from x (sym fresh ∙ e)

  -- what isn't this slot
  mine_apart : (t : ℕ) → has_slot g.made t ≡ true → t ≡ s → ⊥
  mine_apart t mine e = true≢false (sym mine ∙ ap (has_slot g.made) e ∙ unmade)

  led_apart : (t : ℕ) → is_led (slot_of d t).led ≡ true → t ≡ s → ⊥
  led_apart t led e = true≢false (sym led ∙ ap (λ (u : ℕ). is_led (slot_of d u).led) e ∙ not_led)

  held_apart : (t : ℕ) → holder_is p (header_of d t) ≡ true → t ≡ s → ⊥
  held_apart t held = led_apart t (sound.held.headers t p (held_by p (header_of d t) held)).1

  -- a live pointer isn't one of this slot's
  live_apart : (x : At) (j : ℕ) → is_live d x ≡ true → x ≡ at_index s j → ⊥
  live_apart x j live e =
      let led : is_live d (at_index s j) ≡ true = ap (is_live d) (sym e) ∙ live in
      true≢false (sym (and_parts (is_led (slot_of d s).led) (has_pointer (page_of d s) j) led).0 ∙ not_led)

  abbrev Left : Table → Type 0
  Left new = LeavesMade p d new s

  abbrev PointersStay : Table → Type 0
  PointersStay new = (j : ℕ) → holder_is p (pointer_of d (at_index s j)).holder ≡ false → pointer_of new (at_index s j) ≡ pointer_of d (at_index s j)

  kept : (new : Table) → slot_of new s ≡ slot_of d s → page_of new s ≡ page_of d s → header_of new s ≡ header_of d s → PointersStay new → Left new
  kept new slot page header pointers = record {
    state = ap (λ (x : Slot). x.state) slot;
    times = ap (λ (x : Slot). x.times) slot;
    led = ap (λ (x : Slot). x.led) slot;
    page = page;
    header = header;
    pointers = pointers;
  }

  slot_apart : (t : ℕ) (x : Slot) → (t ≡ s → ⊥) → slot_of (with_slot d t x) s ≡ slot_of d s
  slot_apart t x apart = cond-false (eqb t s) x (slot_of d s) (false_from_ne_true (eqb t s) (λ e. apart (eqb-true t s e)))

  another_slot : (t : ℕ) (x : Slot) → (t ≡ s → ⊥) → Left (with_slot d t x)
  another_slot t x apart = kept (with_slot d t x) (slot_apart t x apart) refl refl (λ j _. refl)

  another_header : (t : ℕ) (holder : Holder) → (t ≡ s → ⊥) → Left (with_header d t holder)
  another_header t holder apart = kept (with_header d t holder) refl refl (header-other d.headers t holder s apart) (λ j _. refl)

  -- a pointer that changes is another one, or one that the seat had shut
  another_pointer : (x : At) (new : Pointer) → ((j : ℕ) → x ≡ at_index s j → holder_is p (pointer_of d (at_index s j)).holder ≡ false → ⊥)
      → Left (with_pointer d x new)
  another_pointer x new apart = kept (with_pointer d x new) refl refl refl (λ j free. elim (at_or_other x (at_index s j)) [
    | inl e ↦ absurd (apart j e.0 free)
    | inr o ↦ cond-false (same_at x (at_index s j)) new (pointer_of d (at_index s j)) o.1
  ])

  live_pointer : (x : At) (new : Pointer) → is_live d x ≡ true → Left (with_pointer d x new)
  live_pointer x new live = another_pointer x new (λ j e free. live_apart x j live e)

  dropped_so : (x : At) (n : ℕ) (gone : List ℕ) → is_live d x ≡ true → has_slot gone s ≡ false → Left (dropped d x n gone)
  dropped_so x n gone live apart =
      kept (dropped d x n gone) (slot-kept d x n gone s apart) refl (buried-other gone d.headers s apart)
      (λ j free. link-other d x n gone (at_index s j) (live_apart x j live)
      ∙ cond-false (is_in gone (at_index s j)) (record (pointer_of d (at_index s j)) { holder = Dead }) (pointer_of d (at_index s j)) apart)

  swung_so : (x : At) (n : ℕ) (o : Option ℕ) → is_live d x ≡ true → (pointer_of d x).slot ≡ o → Left (swung d g x n o).table
  swung_so x n None live leads = kept d refl refl refl (λ j _. refl)
  swung_so x n (Some t) live leads = dropped_so x n (t ∷ []) live (false_from_ne_true (has_slot (t ∷ []) s) (λ hit.
      not_from x (subst (λ (u : ℕ). (slot_of d u).led ≡ From x) (only t s hit) (sound.table.holds_counted.back x t live leads))))
    where
      only : (t s : ℕ) → has_slot (t ∷ []) s ≡ true → t ≡ s
      only t s hit = elim (or_cases (eqb t s) false hit) [ inl e ↦ eqb-true t s e | inr none ↦ absurd (true≢false (sym none)) ]

  pub leaves_made : (act : Act) → is_allowed p d g act ≡ true → Left (effect p d g act).table
  leaves_made (Enter t) can =
      let x : Slot = record (slot_of d t) { passes = (slot_of d t).passes + 1 } in
      record {
        state = slot_part d (λ (y : Slot). y.state) t x s refl;
        times = slot_part d (λ (y : Slot). y.times) t x s refl;
        led = slot_part d (λ (y : Slot). y.led) t x s refl;
        page = refl;
        header = refl;
        pointers = λ j _. refl;
      }
  leaves_made (Leave t) can =
      let x : Slot = record (slot_of d t) { passes = (slot_of d t).passes - 1 } in
      record {
        state = slot_part d (λ (y : Slot). y.state) t x s refl;
        times = slot_part d (λ (y : Slot). y.times) t x s refl;
        led = slot_part d (λ (y : Slot). y.led) t x s refl;
        page = refl;
        header = refl;
        pointers = λ j _. refl;
      }
  leaves_made (Give t) can =
      let usable = (and_parts (ltb t d.room) (can_be_given (slot_of d t).state && (eqb (slot_of d t).passes 0 && ltb (slot_of d t).times most_times)) can).1 in
      let given = (and_parts (can_be_given (slot_of d t).state) (eqb (slot_of d t).passes 0 && ltb (slot_of d t).times most_times) usable).0 in
      let apart : t ≡ s → ⊥ = λ e. true≢false (sym given ∙ ap (λ (u : ℕ). can_be_given (slot_of d u).state) e ∙ so.0) in
      let x : Slot = record (slot_of d t) { state = Owned; times = (slot_of d t).times + 1; led = Never } in
      kept (with_header (with_slot d t x) t Dead) (slot_apart t x apart) refl (header-other d.headers t Dead s apart) (λ j _. refl)
  leaves_made (Publish t) can =
      another_slot t (record (slot_of d t) { state = Published }) (mine_apart t (and_parts (is_owned (slot_of d t).state) (has_slot g.made t) can).1)
  leaves_made (Retire t) can =
      let c1 = (and_parts (is_published (slot_of d t).state) (not (is_led (slot_of d t).led) && (has_slot g.made t || has_slot g.taken t)) can).1 in
      let c2 = (and_parts (not (is_led (slot_of d t).led)) (has_slot g.made t || has_slot g.taken t) c1).1 in
      another_slot t (record (slot_of d t) { state = Retired }) (λ e. elim (or_cases (has_slot g.made t) (has_slot g.taken t) c2) [
        | inl mine ↦ mine_apart t mine e
        | inr took ↦ true≢false (sym took ∙ ap (has_slot g.taken) e ∙ untaken)
      ])
  leaves_made (FillPage t page) can =
      let apart = mine_apart t (and_parts (is_owned (slot_of d t).state) (has_slot g.made t) can).1 in
      kept (record d { pages = (t, page) ∷ d.pages }) refl
      (cond-false (eqb t s) page (page_of d s) (false_from_ne_true (eqb t s) (λ e. apart (eqb-true t s e)))) refl (λ j _. refl)
  leaves_made (FillPointer x new) can =
      let apart = mine_apart x.slot (and_parts (is_owned (slot_of d x.slot).state) (has_slot g.made x.slot) can).1 in
      another_pointer (In x) new (λ j e free. apart (slot_is j e))
    where
      slot_is : (j : ℕ) → In x ≡ at_index s j → x.slot ≡ s
      slot_is j e = cc
  leaves_made (FillSnapshot n page) can = kept (effect p d g (FillSnapshot n page)).table refl refl refl (λ j _. refl)
  leaves_made (Extend n) can = kept (record d { published = n }) refl refl refl (λ j _. refl)
  leaves_made (Install x t) can =
      let asks = install_asks homes d grips sound.table p t g x can in
      let c1 = (and_parts (not (eqb p 0)) (can_install d g x t) can).1 in
      let fits : Bool = is_like d t (page_of d t) (snap_of d (pointer_of d x).page) && stands_for d t (pointer_of d x).page (pointer_of d x).span (page_of d t) in
      let ready : Bool = is_published (slot_of d t).state && is_never (slot_of d t).led in
      let c2 = and_parts (is_open d x) (is_none (pointer_of d x).slot && ((has_slot g.made t && ready) && fits)) c1 in
      let c3 = and_parts (is_none (pointer_of d x).slot) ((has_slot g.made t && ready) && fits) c2.1 in
      let c4 = and_parts (has_slot g.made t && ready) fits c3.1 in
      let mine = (and_parts (has_slot g.made t) ready c4.0).0 in
      kept (installed d x t) (slot-other d x t (From x) (Some t) (pointer_of d x).page s (mine_apart t mine)) refl refl
      (λ j free. pointer-other d x t (From x) (Some t) (pointer_of d x).page (at_index s j) (live_apart x j asks.live))
  leaves_made (Swing x n) can = swung_so x n (pointer_of d x).slot (swing_live homes d grips sound.table p g x n can) refl
  leaves_made (Renew x n) can =
      let opens = (and_parts (is_open d x) (not (is_none (pointer_of d x).slot) && is_page_over d n (pointer_of d x).span) can).0 in
      live_pointer x (record (pointer_of d x) { page = n }) (and_parts (is_live d x) (is_free (pointer_of d x).holder) opens).0
  leaves_made (Shut x) can =
      live_pointer x (record (pointer_of d x) { holder = Held p }) (and_parts (is_live d x) (is_free (pointer_of d x).holder) can).0
  leaves_made (Reopen x) can =
      another_pointer x (record (pointer_of d x) { holder = Free })
      (λ j e free. true≢false (sym can ∙ ap (λ (y : At). holder_is p (pointer_of d y).holder) e ∙ free))
  leaves_made (FillHeader t) can = another_header t Free (mine_apart t (and_parts (is_owned (slot_of d t).state) (has_slot g.made t) can).1)
  leaves_made (LockHeader t) can =
      another_header t (Held p) (led_apart t (and_parts (is_led (slot_of d t).led) (is_free (header_of d t) && (eqb p 0 || not (is_split (page_of d t)))) can).0)
  leaves_made (OpenHeader t None) can = another_header t Free (held_apart t can)
  leaves_made (OpenHeader t (Some k)) can =
      let apart = held_apart t (opens_held p d t k can) in
      kept (grown d t k) refl (grown-other d t k s apart) (header-other d.headers t Free s apart) (λ j _. refl)
  leaves_made (Twin w) can =
      let two = splits homes d grips sound.table p g w can in
      let mine = halves_made homes d grips sound.table sound.noted p g at w (slot_span d w.slot) (and_parts (not (eqb p 0)) (can_split p d g (slot_span d w.slot) w) can).1 in
      let apart = held_apart w.slot (splits_held p d g w can) in
      kept (twinned d (slot_span d w.slot) w)
      (slot-other_twin homes d grips two.0 (slot_span d w.slot) w (leaf_keys (page_of d w.slot)) two.2 sound.table s (mine_apart w.minor mine.0) (mine_apart w.major mine.1))
      (page-other_twin homes d grips two.0 (slot_span d w.slot) w (leaf_keys (page_of d w.slot)) two.2 sound.table s apart)
      (header-other d.headers w.slot Free s apart)
      (λ j free. at-other homes d grips two.0 (slot_span d w.slot) w (leaf_keys (page_of d w.slot)) two.2 sound.table s j apart)
  leaves_made (SwingChain x n c) can =
      dropped_so x n c.slots (chain_live homes d grips sound.table p g x n c can) (false_from_ne_true (has_slot c.slots s) (λ hit.
      let from = led_from homes d grips sound.table p g x n c can s hit in not_from from.0 from.1))
