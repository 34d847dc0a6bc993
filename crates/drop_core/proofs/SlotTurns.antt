-- Enter, Leave, Give, Publish, Retire: one slot changes, and one seat's list of those that it holds.
use Rattle.std.proofs.Common.{◌≡◌, ℕ, ◌+◌, ◌-◌, Bool, true, false, not, true≢false, cond, eqb, eqb-true, eq-eqb, ltb, ◌&&◌, ◌||◌, inl, inr, List, [], ◌∷◌, refl, sym, ap, ◌∙◌, subst, arith, set, Some}
use Rattle.std.proofs.lemmas.Bool.{and_parts, or_left, false_from_ne_true, cond-true, cond-false}
use Rattle.std.specs.List.{slice_get}
use Rattle.serial_model.specs.declared.key.Key.{Key}
use Rattle.homes.specs.declared.places.Holder.TheVariants.{Dead}
use Rattle.homes.specs.declared.places.At.{At}
use Rattle.homes.specs.declared.places.At.TheVariants.{Root, In}
use Rattle.homes.specs.declared.places.Home.{Home}
use Rattle.homes.specs.Laws.{number_or_other}
use Rattle.drop_core.specs.declared.table.Led.{Led}
use Rattle.drop_core.specs.declared.table.Led.TheVariants.{Never, From, Away}
use Rattle.drop_core.specs.declared.table.SlotState.{SlotState}
use Rattle.drop_core.specs.declared.table.SlotState.TheVariants.{Owned, Published, Retired}
use Rattle.drop_core.specs.declared.table.Slot.{Slot}
use Rattle.drop_core.specs.declared.table.Table.{Table}
use Rattle.drop_core.specs.declared.grip.Grip.{Grip}
use Rattle.drop_core.specs.declared.event.Act.TheVariants.{Enter, Leave, Give, Publish, Retire}
use Rattle.drop_core.specs.Table.{slot_of, page_of, pointer_of, has_slot, is_led, has_pointer, is_live, is_last_to, is_last, counts_hold, holders}
use Rattle.drop_core.specs.Event.{can_be_given, is_published, most_times, most_passes, is_allowed, with_slot, without, effect}
use Rattle.drop_core.specs.Sound.{IsLedSo, IsSoundTable}
use Rattle.drop_core.proofs.Headers.{headers_sound}
use Rattle.drop_core.proofs.Holds.{sum-set_grip, counts-held}

-- what the new slot has to do with the old one
pub record Turns (d : Table) (s : ℕ) (new : Slot) : Type 0 where
  pub leds : is_led new.led ≡ is_led (slot_of d s).led
  pub aways : new.led ≡ Away → (slot_of d s).led ≡ Away
  pub froms : (y : At) → (slot_of d s).led ≡ From y → new.led ≡ From y
  pub so : IsLedSo d s new.state new.led

module _ (homes : Key → Home) (d : Table) (grips grips' : List Grip) (s : ℕ) (new : Slot) (turns : Turns d s new) where
  abbrev d' : Table
  d' = with_slot d s new

  pub now-same : slot_of d' s ≡ new
  now-same = cond-true (eqb s s) new (slot_of d s) (eq-eqb s s refl)

  pub now-other : (t : ℕ) → (s ≡ t → ⊥) → slot_of d' t ≡ slot_of d t
  now-other t other = cond-false (eqb s t) new (slot_of d t) (false_from_ne_true (eqb s t) (λ e. other (eqb-true s t e)))

  led-same : (t : ℕ) → is_led (slot_of d' t).led ≡ is_led (slot_of d t).led
  led-same t =
      elim (number_or_other s t) [
        | inl e ↦ subst (λ (u : ℕ). is_led (slot_of d' u).led ≡ is_led (slot_of d u).led) e.0 (ap (λ (q : Slot). is_led q.led) now-same ∙ turns.leds)
        | inr o ↦ ap (λ (q : Slot). is_led q.led) (now-other t o.0)
      ]

  live-same : (x : At) → is_live d' x ≡ is_live d x
  live-same (Root r) = refl
  live-same (In z) = ap (λ (b : Bool). b && has_pointer (page_of d z.slot) z.index) (led-same z.slot)

  last-same : (x : At) → is_last d' x ≡ is_last d x
  last-same x = ap (λ (b : Bool). b && is_last_to d (pointer_of d x).slot) (live-same x)

  led_so : (t : ℕ) (state : SlotState) (led : Led) → IsLedSo d t state led → IsLedSo d' t state led
  led_so t state Never so = so
  led_so t state (From y) so = (so.0, live-same y ∙ so.1, so.2)
  led_so t state Away so = so

  pub slot_sound : new.passes ≡ holders s grips' → ((t : ℕ) → (s ≡ t → ⊥) → holders t grips' ≡ holders t grips) → IsSoundTable homes d grips → IsSoundTable homes d' grips'
  slot_sound passes others sound = record {
    one_home_each = record {
      ties = λ x live. sound.one_home_each.ties x (sym (live-same x) ∙ live);
      apart = λ x y lx ly. sound.one_home_each.apart x y (sym (last-same x) ∙ lx) (sym (last-same y) ∙ ly);
      own = λ k x e. let was = sound.one_home_each.own k x e in record { keys = was.keys; page = was.page; at = was.at; led = led-same x.slot ∙ was.led };
      dead = λ t away. sound.one_home_each.dead t (elim (number_or_other s t) [
        | inl e ↦ subst (λ (u : ℕ). (slot_of d u).led ≡ Away) e.0 (turns.aways (sym (ap (λ (q : Slot). q.led) now-same) ∙ subst (λ (u : ℕ). (slot_of d' u).led ≡ Away) (sym e.0) away))
        | inr o ↦ sym (ap (λ (q : Slot). q.led) (now-other t o.0)) ∙ away
      ]);
    };
    holds_counted = record {
      counted = λ t. elim (number_or_other s t) [
        | inl e ↦ subst (λ (u : ℕ). (slot_of d' u).passes ≡ holders u grips') e.0 (ap (λ (q : Slot). q.passes) now-same ∙ passes)
        | inr o ↦ ap (λ (q : Slot). q.passes) (now-other t o.0) ∙ sound.holds_counted.counted t ∙ sym (others t o.0)
      ];
      led = λ t. elim (number_or_other s t) [
        | inl e ↦ subst (λ (u : ℕ). IsLedSo d' u (slot_of d' u).state (slot_of d' u).led) e.0
            (subst (λ (q : Slot). IsLedSo d' s q.state q.led) (sym now-same) (led_so s new.state new.led turns.so))
        | inr o ↦ subst (λ (q : Slot). IsLedSo d' t q.state q.led) (sym (now-other t o.0)) (led_so t (slot_of d t).state (slot_of d t).led (sound.holds_counted.led t))
      ];
      back = λ x t live leads.
          let was = sound.holds_counted.back x t (sym (live-same x) ∙ live) leads in
          elim (number_or_other s t) [
            | inl e ↦ subst (λ (u : ℕ). (slot_of d' u).led ≡ From x) e.0 (ap (λ (q : Slot). q.led) now-same ∙ turns.froms x (ap (λ (u : ℕ). (slot_of d u).led) e.0 ∙ was))
            | inr o ↦ ap (λ (q : Slot). q.led) (now-other t o.0) ∙ was
          ];
    };
    snapshots_fixed = record { pointers = λ x live. sound.snapshots_fixed.pointers x (sym (live-same x) ∙ live); closed = sound.snapshots_fixed.closed };
  }

-- ---- lists of slots

or_false : (a b : Bool) → a ≡ false → (a || b) ≡ b
or_false a b e = rw e refl

not_true : (b : Bool) → not b ≡ true → b ≡ false
not_true true e = absurd (true≢false (sym e))
not_true false e = refl

apart_slots : (s t : ℕ) → (s ≡ t → ⊥) → eqb s t ≡ false
apart_slots s t other = false_from_ne_true (eqb s t) (λ e. other (eqb-true s t e))

pub has-new : (s : ℕ) (holds : List ℕ) → has_slot (s ∷ holds) s ≡ true
has-new s holds = or_left (eqb s s) (has_slot holds s) (eq-eqb s s refl)

pub has-more : (s t : ℕ) (holds : List ℕ) → (s ≡ t → ⊥) → has_slot (s ∷ holds) t ≡ has_slot holds t
has-more s t holds other = or_false (eqb s t) (has_slot holds t) (apart_slots s t other)

pub has-without : (s t : ℕ) (holds : List ℕ) → (s ≡ t → ⊥) → has_slot (without holds s) t ≡ has_slot holds t
has-without s t [] other = refl
has-without s t (x ∷ more) other =
    elim (number_or_other x s) [
      | inl e ↦ ap (λ (l : List ℕ). has_slot l t) (cond-false (not (eqb x s)) (x ∷ without more s) (without more s) (ap not e.1))
          ∙ has-without s t more other ∙ sym (or_false (eqb x t) (has_slot more t) (apart_slots x t (λ is. other (sym e.0 ∙ is))))
      | inr o ↦ ap (λ (l : List ℕ). has_slot l t) (cond-true (not (eqb x s)) (x ∷ without more s) (without more s) (ap not o.1))
          ∙ ap (λ (b : Bool). eqb x t || b) (has-without s t more other)
    ]

pub has-none : (s : ℕ) (holds : List ℕ) → has_slot (without holds s) s ≡ false
has-none s [] = refl
has-none s (x ∷ more) =
    elim (number_or_other x s) [
      | inl e ↦ ap (λ (l : List ℕ). has_slot l s) (cond-false (not (eqb x s)) (x ∷ without more s) (without more s) (ap not e.1)) ∙ has-none s more
      | inr o ↦ ap (λ (l : List ℕ). has_slot l s) (cond-true (not (eqb x s)) (x ∷ without more s) (without more s) (ap not o.1))
          ∙ or_false (eqb x s) (has_slot (without more s) s) o.1 ∙ has-none s more
    ]

-- how many hold a slot, where one seat's list changed
pub holders-set : (t p : ℕ) (grips : List Grip) (g new : Grip) → slice_get grips p ≡ Some g → has_slot new.holds t ≡ has_slot g.holds t → holders t (set grips p new) ≡ holders t grips
holders-set t p grips g new at same =
    let sums = sum-set_grip (counts_hold t) grips p g new at in
    let counts : counts_hold t new ≡ counts_hold t g = ap (λ (b : Bool). cond b 1 0) same in
    omega (arith, sums, counts)

-- ---- the events

-- what leads to the slot stays
same_led : (d : Table) (s : ℕ) (new : Slot) → new.led ≡ (slot_of d s).led → IsLedSo d s new.state new.led → Turns d s new
same_led d s new e so = record { leds = ap is_led e; aways = λ a. sym e ∙ a; froms = λ y f. e ∙ f; so = so }

module _ (homes : Key → Home) (d : Table) (grips : List Grip) (p : ℕ) (g : Grip) (at : slice_get grips p ≡ Some g) (sound : IsSoundTable homes d grips) where
  pub enter_keeps : (s : ℕ) → is_allowed p d g (Enter s) ≡ true → IsSoundTable homes (effect p d g (Enter s)).table (set grips p (effect p d g (Enter s)).grip)
  enter_keeps s can = let new : Slot = record (slot_of d s) { passes = (slot_of d s).passes + 1 } in
      let turns : Turns d s new = same_led d s new refl (sound.holds_counted.led s) in
      let g' : Grip = record g { holds = s ∷ g.holds } in
      slot_sound homes d grips (set grips p g') s new turns (passes s (and_parts (not (has_slot g.holds s)) (ltb (slot_of d s).passes most_passes)
      (and_parts (ltb s d.room) (not (has_slot g.holds s) && ltb (slot_of d s).passes most_passes) can).1).0)
      (λ t other. holders-set t p grips g g' at (has-more s t g.holds other)) sound
    where
      passes : (s : ℕ) → not (has_slot g.holds s) ≡ true → (slot_of d s).passes + 1 ≡ holders s (set grips p (record g { holds = s ∷ g.holds }))
      passes s can =
          let sums = sum-set_grip (counts_hold s) grips p g (record g { holds = s ∷ g.holds }) at in
          let before : counts_hold s g ≡ 0 = cond-false (has_slot g.holds s) 1 0 (not_true (has_slot g.holds s) can) in
          let after : counts_hold s (record g { holds = s ∷ g.holds }) ≡ 1 = cond-true (has_slot (s ∷ g.holds) s) 1 0 (has-new s g.holds) in
          omega (arith, sums, before, after, sound.holds_counted.counted s)

  pub leave_keeps : (s : ℕ) → is_allowed p d g (Leave s) ≡ true → IsSoundTable homes (effect p d g (Leave s)).table (set grips p (effect p d g (Leave s)).grip)
  leave_keeps s can = let new : Slot = record (slot_of d s) { passes = (slot_of d s).passes - 1 } in
      let turns : Turns d s new = same_led d s new refl (sound.holds_counted.led s) in
      let g' : Grip = record g { holds = without g.holds s } in
      slot_sound homes d grips (set grips p g') s new turns (passes s can)
      (λ t other. holders-set t p grips g g' at (has-without s t g.holds other)) sound
    where
      passes : (s : ℕ) → has_slot g.holds s ≡ true → (slot_of d s).passes - 1 ≡ holders s (set grips p (record g { holds = without g.holds s }))
      passes s held =
          let sums = sum-set_grip (counts_hold s) grips p g (record g { holds = without g.holds s }) at in
          let before : counts_hold s g ≡ 1 = counts-held s g held in
          let after : counts_hold s (record g { holds = without g.holds s }) ≡ 0 = cond-false (has_slot (without g.holds s) s) 1 0 (has-none s g.holds) in
          omega (arith, sums, before, after, sound.holds_counted.counted s)

  -- nothing leads to a slot that may be given, nor did
  given_led : (s : ℕ) (led : Led) → IsLedSo d s (slot_of d s).state led → can_be_given (slot_of d s).state ≡ true → (is_led led ≡ false) × ((y : At) → led ≡ From y → ⊥)
  given_led s Never so can = (refl, λ y e. never_from y e)
    where
      never_from : (y : At) → Never ≡ From y → ⊥
      never_from y e = cc
  given_led s (From x) so can = absurd (true≢false (sym can ∙ ap can_be_given so.0))
  given_led s Away so can = (refl, λ y e. away_from y e)
    where
      away_from : (y : At) → Away ≡ From y → ⊥
      away_from y e = cc

  pub give_keeps : (s : ℕ) → is_allowed p d g (Give s) ≡ true → IsSoundTable homes (effect p d g (Give s)).table (set grips p (effect p d g (Give s)).grip)
  give_keeps s can = let new : Slot = record (slot_of d s) { state = Owned; times = (slot_of d s).times + 1; led = Never } in
      let usable = (and_parts (ltb s d.room) (can_be_given (slot_of d s).state && (eqb (slot_of d s).passes 0 && ltb (slot_of d s).times most_times)) can).1 in
      let free = given_led s (slot_of d s).led (sound.holds_counted.led s) (and_parts (can_be_given (slot_of d s).state) (eqb (slot_of d s).passes 0 && ltb (slot_of d s).times most_times) usable).0 in
      let turns : Turns d s new = record { leds = sym free.0; aways = λ a. absurd (never_away a); froms = λ y f. absurd (free.1 y f); so = tt } in
      let g' : Grip = record g { made = s ∷ g.made } in
      headers_sound homes (with_slot d s new) (set grips p g') ((s, Dead) ∷ d.headers)
      (slot_sound homes d grips (set grips p g') s new turns (sound.holds_counted.counted s ∙ sym (holders-set s p grips g g' at refl))
      (λ t other. holders-set t p grips g g' at refl) sound)
    where
      never_away : Never ≡ Away → ⊥
      never_away e = cc

  pub publish_keeps : (s : ℕ) → is_allowed p d g (Publish s) ≡ true → IsSoundTable homes (effect p d g (Publish s)).table (set grips p (effect p d g (Publish s)).grip)
  publish_keeps s can = let new : Slot = record (slot_of d s) { state = Published } in
      let turns : Turns d s new = same_led d s new refl (published (slot_of d s).led (sound.holds_counted.led s)) in
      slot_sound homes d grips (set grips p g) s new turns (sound.holds_counted.counted s ∙ sym (holders-set s p grips g g at refl)) (λ t other. holders-set t p grips g g at refl) sound
    where
      published : (led : Led) → IsLedSo d s (slot_of d s).state led → IsLedSo d s Published led
      published Never so = so
      published (From x) so = (refl, so.1, so.2)
      published Away so = refl

  pub retire_keeps : (s : ℕ) → is_allowed p d g (Retire s) ≡ true → IsSoundTable homes (effect p d g (Retire s)).table (set grips p (effect p d g (Retire s)).grip)
  retire_keeps s can = let new : Slot = record (slot_of d s) { state = Retired } in
      let not_led = (and_parts (not (is_led (slot_of d s).led)) (has_slot g.made s || has_slot g.taken s)
      (and_parts (is_published (slot_of d s).state) (not (is_led (slot_of d s).led) && (has_slot g.made s || has_slot g.taken s)) can).1).0 in
      let turns : Turns d s new = same_led d s new refl (retired (slot_of d s).led not_led (sound.holds_counted.led s)) in
      let g' : Grip = record g { made = without g.made s; taken = without g.taken s } in
      slot_sound homes d grips (set grips p g') s new turns (sound.holds_counted.counted s ∙ sym (holders-set s p grips g g' at refl)) (λ t other. holders-set t p grips g g' at refl) sound
    where
      retired : (led : Led) → not (is_led led) ≡ true → IsLedSo d s (slot_of d s).state led → IsLedSo d s Retired led
      retired Never e so = so
      retired (From x) e so = absurd (true≢false (sym e))
      retired Away e so = refl
