-- A published slot that nothing leads to is given up.
use Rattle.std.proofs.Common.{◌≡◌, ◌≢◌, inl, inr, ℕ, ◌+◌, ◌%◌, ◌^◌, ◌<◌, ◌≤◌, Bool, true, false}
use Rattle.std.proofs.Common.{true≢false, cond, not, List, get_or, set, refl}
use Rattle.std.proofs.Common.{sym, ap, ◌∙◌, subst, arith}
use Rattle.std.specs.Prelude.{◌||◌}
use Rattle.commit_core.specs.Places.{home_of}
use Rattle.drop_core.specs.declared.table.Led.TheVariants.{Never, From, Away}
use Rattle.drop_core.specs.Law.{IsMade}
use Rattle.drop_core.specs.Sound.{is_left}
use Rattle.drop_core.specs.Table.{is_away, takers}
use Rattle.std.proofs.lemmas.Bool.{and_from, and_parts, or_right}
use Rattle.atomic_table.specs.Table.{Me, Allows}
use Rattle.wire_form.specs.Words.{at_bit}
use Rattle.drop_core.specs.declared.event.Act.TheVariants.{Retire}
use Rattle.drop_core.specs.declared.grip.Grip.{Grip}
use Rattle.drop_core.specs.declared.table.Led.{Led}
use Rattle.drop_core.specs.declared.table.Slot.{Slot}
use Rattle.drop_core.specs.declared.table.SlotState.{SlotState}
use Rattle.drop_core.specs.declared.table.SlotState.TheVariants.{Unused, Owned, Published as Shown, Retired}
use Rattle.drop_core.specs.Event.{is_owned, is_published, without, with_slot}
use Rattle.drop_core.specs.Table.{slot_of, has_slot, is_never, is_led}
use Rattle.engine_pages.specs.declared.layout.Layout.{Layout}
use Rattle.engine_pages.specs.declared.view.Copied.{Copied}
use Rattle.engine_pages.specs.declared.view.NewInner.{NewInner}
use Rattle.engine_pages.specs.declared.view.NewLeaf.{NewLeaf}
use Rattle.engine_pages.specs.declared.view.View.{View}
use Rattle.engine_pages.specs.Layout.{slot_at, page_at}
use Rattle.engine_pages.specs.Rule.{Shared, all_seats, IsBlank, Shows}
use Rattle.engine_pages.specs.Slots.{HasNewPage, MayRetire, retired}
use Rattle.engine_pages.specs.Views.{IsActive, seat_number}
use Rattle.engine_pages.specs.Words.{ShowsSlot, state_number, is_shown}
use Rattle.engine_pages.proofs.Records.{published_unowned}
use Rattle.engine_pages.proofs.Dealing.{rests_low}
use Rattle.engine_pages.proofs.EachSeat.{at_seat, takes_counted}
use Rattle.engine_pages.proofs.Entering.{passes_few}
use Rattle.engine_pages.proofs.Slotlists.{without_same, without_other, at_others}
use Rattle.engine_pages.proofs.Joint.{Laws}
use Rattle.engine_pages.proofs.Seats.{by_equal, is_at}
use Rattle.engine_pages.proofs.SlotFacts.{slot_other, slot_same, way_same, draft_same, copy_same, blank_same, filled_same}
use Rattle.engine_pages.proofs.SlotFacts.{known_same, head_same, moved_same}
use Rattle.engine_pages.proofs.SlotFacts.{inner_same, new_leaf_same, new_inner_same}
use Rattle.engine_pages.proofs.TreeFacts.{sealed_at}
use Rattle.engine_pages.proofs.SlotSteps.{SamePages, slot_stride}
use Rattle.engine_pages.proofs.Turns.{Begins, allows_at, written}
use Rattle.engine_pages.proofs.SlotFacts.{within_same, shut_same}

unled_led : (g : Led) → is_never g ≡ true → is_led g ≡ false
unled_led Never e = refl
unled_led (From z) e = absurd (true≢false (sym e))
unled_led Away e = absurd (true≢false (sym e))

away_led : (g : Led) → is_away g ≡ true → is_led g ≡ false
away_led Never e = absurd (true≢false (sym e))
away_led (From z) e = absurd (true≢false (sym e))
away_led Away e = refl

published_number : (state : SlotState) → is_published state ≡ true → state_number state ≡ 2
published_number Unused e = absurd (true≢false (sym e))
published_number Owned e = absurd (true≢false (sym e))
published_number Shown e = refl
published_number Retired e = absurd (true≢false (sym e))

published_shown : (state : SlotState) → is_published state ≡ true → is_shown state ≡ true
published_shown Unused e = refl
published_shown Owned e = absurd (true≢false (sym e))
published_shown Shown e = refl
published_shown Retired e = refl

-- a published slot that nothing leads to, made or taken away by the pass
record IsIdle (s : Shared) (v : View) (p t : ℕ) : Type 0 where
  published : is_published (slot_of s.table t).state ≡ true
  unled : is_led (slot_of s.table t).led ≡ false
  noted : (has_slot (s.grips p).made t || has_slot (s.grips p).taken t) ≡ true

made_idle : Laws → (l : Layout) (words : List ℕ) (views : List View) (s : Shared) (id : ℕ) (v : View) (t : ℕ)
    → Begins l words views s id v → IsBlank l.slots s.table v.grip.made t → IsIdle s v (seat_number v.role) t
made_idle laws l words views s id v t b blank =
    let p = seat_number v.role in
    let made : has_slot (s.grips p).made t ≡ true = ap (λ (g : Grip). has_slot g.made t) (sym b.grip) ∙ blank.made in
    let is : IsMade s.table (all_seats s.grips) p t =
    laws.made (home_of s.story.homes) s.table (all_seats s.grips) p t (s.grips p) b.sound.joint.pages (at_seat s.grips p b.few) made in
    record {
      published = blank.state;
      unled = ap is_led is.never;
      noted = ap (λ (c : Bool). c || has_slot (s.grips p).taken t) made;
    }

taken_idle : (l : Layout) (words : List ℕ) (views : List View) (s : Shared) (id : ℕ) (v : View) (t : ℕ)
    → Begins l words views s id v → has_slot v.grip.taken t ≡ true → IsIdle s v (seat_number v.role) t
taken_idle l words views s id v t b has =
    let p = seat_number v.role in
    let taken : has_slot (s.grips p).taken t ≡ true = ap (λ (g : Grip). has_slot g.taken t) (sym b.grip) ∙ has in
    let one = takes_counted t p s.grips b.few taken in
    let all = b.sound.joint.pages.noted.taken t in
    let left : is_left (slot_of s.table t) ≡ true = is_one (is_left (slot_of s.table t)) (takers t (all_seats s.grips)) all one in
    let parts = and_parts (is_published (slot_of s.table t).state) (is_away (slot_of s.table t).led) left in record {
      published = parts.0;
      unled = away_led (slot_of s.table t).led parts.1;
      noted = or_right (has_slot (s.grips p).made t) (has_slot (s.grips p).taken t) taken;
    }
  where
    is_one : (c : Bool) (n : ℕ) → n ≡ cond c 1 0 → 1 ≤ n → c ≡ true
    is_one true n is some = refl
    is_one false n is some = absurd (omega arith)

-- the slot was published as a page of a tree
new_blank : (l : Layout) (words : List ℕ) (views : List View) (s : Shared) (id : ℕ) (v : View) (t : ℕ)
    → Begins l words views s id v → HasNewPage v t → IsBlank l.slots s.table v.grip.made t
new_blank l words views s id v t b (inl c) =
    let was = b.pages.treed.new_leaves c.0 c.1 in
    subst (IsBlank l.slots s.table v.grip.made) c.2 record { slot = was.slot; made = was.made; state = was.state }
new_blank l words views s id v t b (inr c) =
    let was = b.pages.treed.new_inners c.0 c.1 in
    subst (IsBlank l.slots s.table v.grip.made) c.2 record { slot = was.slot; made = was.made; state = was.state }

pub retires : Laws → (l : Layout) (slots id : ℕ) (me : Me (Unit {0}) View) (t : ℕ)
    → IsActive me.0.role → t < l.slots → MayRetire me.0 t
    → Allows (λ s. Shows l s.words s.views) slots id me (slot_at t) (λ i. (i + 65536) % 2 ^ 64)
    (λ _ now. (now.1 ≡ me.1) × (now.0 ≡ retired t me.0))
retires laws l slots id me t active few may =
    allows_at laws l slots id me (slot_at t) (λ i. (i + 65536) % 2 ^ 64) (λ v _ w. w ≡ retired t v) active
    (λ words views s b.
    let v = me.0 in
    let p = seat_number v.role in
    let d = s.table in
    let h = b.sound in
    let x = slot_of d t in
    let w = retired t v in
    let y : Slot = record x { state = Retired } in
    let e = with_slot d t y in
    let idle : IsIdle s v p t = elim may [
      | inl c ↦ let was = (b.pages.copies c.0 c.1).1 in
          made_idle laws l words views s id v t b
          (subst (IsBlank l.slots d v.grip.made) c.2 record { slot = was.slot; made = was.made; state = was.state })
      | inr more ↦ elim more [
        | inl blank ↦ made_idle laws l words views s id v t b (b.pages.blanks t blank)
        | inr rest ↦ elim rest [
          | inl taken ↦ taken_idle l words views s id v t b taken
          | inr new ↦ made_idle laws l words views s id v t b (new_blank l words views s id v t b new)
        ]
      ]
    ] in
    let shows : ShowsSlot words (slot_at t) x = h.shown.slots t few in
    let count = passes_few l words views s id v t b in
    let now : slot_of e t ≡ y = slot_same d t y in
    let others : (u : ℕ) → u ≢ t → slot_of e u ≡ slot_of d u = λ u other. slot_other d t u y other in
    let leds : (u : ℕ) → (slot_of e u).led ≡ (slot_of d u).led =
    λ u. by_equal u t (λ k. (slot_of e k).led ≡ (slot_of d k).led) (ap (λ (z : Slot). z.led) now) (λ other. ap (λ (z : Slot). z.led) (others u other)) in
    let f : ℕ → ℕ = λ i. (i + 65536) % 2 ^ 64 in
    let words' = set words (slot_at t) (f (get_or words (slot_at t) 0)) in
    let wr = written words (slot_at t) (f (get_or words (slot_at t) 0)) (let long = h.shown.long in omega arith) in
    let pages : (j : ℕ) → 32 + l.slots ≤ j → get_or words' j 0 ≡ get_or words j 0 = λ j low.
    wr.others j (λ q. absurd (omega arith)) in
    let same : SamePages d e = record { pages = λ u. refl; pointers = λ z. refl; snaps = refl; published = refl } in
    slot_stride laws l words views s id v active b t f (Retire t) w (λ v n w. w ≡ retired t v)
    record {
      same = record { layout = refl; role = refl; made = refl; past = refl; parked = refl; epoch = refl; mine = refl; draws = refl; due = refl; seat = refl; checked = refl; took = refl; loaded = refl; met = refl; heard = refl; history = refl; decided = refl; versions = refl };
      still = refl;
      allowed = and_from (is_published x.state) _ idle.published
          (and_from (not (is_led x.led)) (has_slot (s.grips p).made t || has_slot (s.grips p).taken t) (ap not idle.unled) idle.noted);
      lets = refl;
      grip = ap (λ (g : Grip). let z : Grip = record g { made = without g.made t; taken = without g.taken t } in z) (sym b.grip);
      few = few;
      this =
          let word = shows.word in
          let two : state_number x.state ≡ 2 = published_number x.state idle.published in
          let times = shows.times in
          (omega arith) ∙ ap (λ (z : Slot). (at_bit 0 z.passes + at_bit 16 (state_number z.state)) + at_bit 18 z.times) (sym now);
      times = subst (λ (z : Slot). z.times < 2 ^ 46) (sym now) shows.times;
      slots = others;
      pages = same;
      room = refl;
      shown = λ _. published_shown x.state idle.published;
      led = λ led. ap is_led (sym (leds t)) ∙ led;
      headers = λ u is. refl;
      leads = λ z u live leads. refl;
      now = record {
        within = b.pages.within;
        ways = λ z has.
            let was = b.pages.ways z has in
            way_same l s.trees d e v.grip.holds w.grip.holds z same was.held (leds z.slot) refl was;
        drafts = λ z has.
            let was = b.pages.drafts z has in
            let other : z.slot ≢ t = λ q. true≢false (sym was.owned ∙ ap (λ k. is_owned (slot_of d k).state) q ∙ published_unowned x.state idle.published) in
            draft_same words words' l.slots d e v.grip.made w.grip.made z
            (without_other v.grip.made t z.slot other ∙ was.made) (ap (λ (k : Slot). k.state) (others z.slot other)) refl
            (λ i less. pages (page_at l.slots z.slot i) (omega arith)) was;
        copies = λ z has.
            let old = at_others (λ (k : Copied). k.slot) t v.copies z has in
            let was = b.pages.copies z old.0 in (
              was.0,
              copy_same l s.story d e s.resident v.grip.made w.grip.made z same (without_other v.grip.made t z.slot old.1 ∙ was.1.made)
                  (ap (λ (k : Slot). k.state) (others z.slot old.1)) refl was.1,
            );
        blanks = λ u has.
            let other : u ≢ t = λ q. true≢false (sym has ∙ ap (has_slot (without v.blanks t)) q ∙ without_same v.blanks t) in
            let was = b.pages.blanks u (sym (without_other v.blanks t u other) ∙ has) in
            blank_same l.slots d e v.grip.made w.grip.made u (without_other v.grip.made t u other ∙ was.made) (ap (λ (k : Slot). k.state) (others u other)) was;
        resident = b.pages.resident;
        leads = b.pages.leads;
        fills = λ z has. let was = b.pages.fills z has in (was.0, filled_same l words words' s.resident z pages was.1);
        known = λ z has.
            let was = b.pages.treed.known z has in
            known_same l s.trees d e v.grip.holds w.grip.holds z was.held (leds z.slot) was;
        shuts = λ z has.
            shut_same d e s.resident p v.grip.holds w.grip.holds z
            (within_same d e v.grip.holds w.grip.holds z.at (λ u is held known. (held, leds u, refl))) refl
            (b.pages.shuts p (is_at v.role active) z has);
        heads = λ z has.
            let was = b.pages.treed.heads p (is_at v.role active) z has in
            head_same l words words' s.trees d e p z refl refl
            (λ i less. pages (page_at l.slots z.slot i) (omega arith)) was;
        moved = λ z has.
            let was = b.pages.treed.moved z has in
            moved_same l words words' s.trees d e v.grip.holds w.grip.holds z was.held (leds z.slot) refl
            (λ i less. pages (page_at l.slots z.slot i) (omega arith)) was;
        sealed = λ u has.
            let was = b.pages.treed.sealed p (is_at v.role active) u has in
            sealed_at l d e p u refl refl was;
        inners = λ z has.
            let was = b.pages.treed.inners z has in
            inner_same l s.trees d e v.grip.holds w.grip.holds z same was.held (leds z.slot) was;
        new_leaves = λ z has.
            let old = at_others (λ (k : NewLeaf). k.slot) t v.new_leaves z has in
            let was = b.pages.treed.new_leaves z old.0 in
            new_leaf_same l s.story d e s.trees v.grip.made w.grip.made z same
            (without_other v.grip.made t z.slot old.1 ∙ was.made) (ap (λ (k : Slot). k.state) (others z.slot old.1)) refl was;
        new_inners = λ z has.
            let old = at_others (λ (k : NewInner). k.slot) t v.new_inners z has in
            let was = b.pages.treed.new_inners z old.0 in
            new_inner_same l d e s.trees s.resident v.grip.made w.grip.made z same
            (without_other v.grip.made t z.slot old.1 ∙ was.made) (ap (λ (k : Slot). k.state) (others z.slot old.1)) was;
      };
      deals = rests_low l words views s id v b words' w
          record { role = refl; ways = refl; took = refl; gone = refl; touched = refl; blamed = refl; locks = refl } refl
          pages;
    }
    refl)
