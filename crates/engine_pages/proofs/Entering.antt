-- A slot is held.
use Rattle.std.proofs.Common.{◌≡◌, ℕ, ◌+◌, ◌%◌, ◌^◌, ◌<◌, ◌≤◌, Bool, true, false}
use Rattle.std.proofs.Common.{eqb, ne_eqb, ltb, not, List, ◌∷◌, get_or, set, refl}
use Rattle.std.proofs.Common.{sym, ap, ◌∙◌, subst, arith}
use Rattle.std.specs.Prelude.{◌&&◌, ◌||◌}
use Rattle.std.proofs.lemmas.Bool.{and_from, or_right}
use Rattle.std.proofs.lemmas.Bool.Decides.{nat_tests}
use Rattle.atomic_table.specs.Table.{Me, Allows}
use Rattle.wire_form.specs.Words.{at_bit}
use Rattle.drop_core.specs.declared.event.Act.TheVariants.{Enter}
use Rattle.drop_core.specs.declared.grip.Grip.{Grip}
use Rattle.drop_core.specs.declared.table.Slot.{Slot}
use Rattle.drop_core.specs.declared.table.SlotState.{SlotState}
use Rattle.drop_core.specs.declared.table.SlotState.TheVariants.{Unused, Owned, Published as Shown, Retired}
use Rattle.drop_core.specs.Event.{most_passes, with_slot}
use Rattle.drop_core.specs.Table.{slot_of, has_slot, is_led}
use Rattle.engine_pages.specs.declared.layout.Layout.{Layout}
use Rattle.engine_pages.specs.declared.view.View.{View}
use Rattle.engine_pages.specs.Layout.{slot_at, page_at}
use Rattle.engine_pages.specs.Rule.{Shared, Shows}
use Rattle.engine_pages.specs.Slots.{entered}
use Rattle.engine_pages.specs.Views.{IsActive, seat_number}
use Rattle.engine_pages.specs.Words.{ShowsSlot, state_number, is_shown}
use Rattle.engine_pages.proofs.Dealing.{rests_low}
use Rattle.engine_pages.proofs.EachSeat.{few_holders}
use Rattle.engine_pages.proofs.Joint.{Laws}
use Rattle.engine_pages.proofs.Seats.{by_equal, is_at}
use Rattle.engine_pages.proofs.SlotFacts.{slot_other, slot_same, passes_only, way_same, draft_same, copy_same, blank_same, filled_same}
use Rattle.engine_pages.proofs.SlotFacts.{known_same, head_same, moved_same}
use Rattle.engine_pages.proofs.SlotFacts.{inner_same, new_leaf_same, new_inner_same}
use Rattle.engine_pages.proofs.TreeFacts.{sealed_at}
use Rattle.engine_pages.proofs.SlotSteps.{SamePages, slot_stride}
use Rattle.engine_pages.proofs.Turns.{Begins, allows_at, written}
use Rattle.engine_pages.proofs.SlotFacts.{within_same, shut_same}

-- ---- a slot is held

pub low_state : (state : SlotState) → state_number state ≤ 3
low_state Unused = omega arith
low_state Owned = omega arith
low_state Shown = omega arith
low_state Retired = omega arith

-- how many passes the word of a slot counts
pub passes_few : (l : Layout) (words : List ℕ) (views : List View) (s : Shared) (id : ℕ) (v : View) (t : ℕ)
    → Begins l words views s id v → (slot_of s.table t).passes ≤ 9
passes_few l words views s id v t b =
    let same = b.sound.joint.pages.table.holds_counted.counted t in
    let few = few_holders t s.grips in omega arith

pub enters : Laws → (l : Layout) (slots id : ℕ) (me : Me (Unit {0}) View) (t : ℕ)
    → IsActive me.0.role → t < l.slots → has_slot me.0.grip.holds t ≡ false
    → Allows (λ s. Shows l s.words s.views) slots id me (slot_at t) (λ n. (n + 1) % 2 ^ 64)
    (λ n now. (now.1 ≡ me.1) × (now.0 ≡ entered t me.0))
enters laws l slots id me t active few unheld =
    allows_at laws l slots id me (slot_at t) (λ n. (n + 1) % 2 ^ 64) (λ v n w. w ≡ entered t v) active (λ words views s b.
    let v = me.0 in
    let p = seat_number v.role in
    let d = s.table in
    let h = b.sound in
    let x = slot_of d t in
    let w = entered t v in
    let y : Slot = record x { passes = x.passes + 1 } in
    let e = with_slot d t y in
    let shows : ShowsSlot words (slot_at t) x = h.shown.slots t few in
    let count = passes_few l words views s id v t b in
    let now : slot_of e t ≡ y = slot_same d t y in
    let uses = λ (u : ℕ). passes_only d t u y record { state = refl; led = refl } in
    let wr = written words (slot_at t) ((get_or words (slot_at t) 0 + 1) % 2 ^ 64) (let long = h.shown.long in omega arith) in
    let words' = set words (slot_at t) ((get_or words (slot_at t) 0 + 1) % 2 ^ 64) in
    let pages : (j : ℕ) → 32 + l.slots ≤ j → get_or words' j 0 ≡ get_or words j 0 = λ j low.
    wr.others j (λ q. absurd (omega arith)) in
    let same : SamePages d e = record { pages = λ u. refl; pointers = λ z. refl; snaps = refl; published = refl } in
    let holds : (u : ℕ) → has_slot v.grip.holds u ≡ true → has_slot w.grip.holds u ≡ true = λ u held.
    or_right (eqb t u) (has_slot v.grip.holds u) held in
    slot_stride laws l words views s id v active b t (λ n. (n + 1) % 2 ^ 64) (Enter t) w (λ v n w. w ≡ entered t v)
    record {
      same = record { layout = refl; role = refl; made = refl; past = refl; parked = refl; epoch = refl; mine = refl; draws = refl; due = refl; seat = refl; checked = refl; took = refl; loaded = refl; met = refl; heard = refl; history = refl; decided = refl; versions = refl };
      still = refl;
      allowed = and_from (ltb t d.room) (not (has_slot (s.grips p).holds t) && ltb x.passes most_passes)
          (let room = h.room in grind (arith, nat_tests))
          (and_from (not (has_slot (s.grips p).holds t)) (ltb x.passes most_passes)
          (ap not (ap (λ (g : Grip). has_slot g.holds t) (sym b.grip) ∙ unheld)) (grind (arith, nat_tests)));
      lets = refl;
      grip = ap (λ (g : Grip). let z : Grip = record g { holds = t ∷ g.holds } in z) (sym b.grip);
      few = few;
      this =
          let word = shows.word in
          let low = low_state x.state in
          let times = shows.times in
          (omega arith) ∙ ap (λ (z : Slot). (at_bit 0 z.passes + at_bit 16 (state_number z.state)) + at_bit 18 z.times) (sym now);
      times = subst (λ (z : Slot). z.times < 2 ^ 46) (sym now) shows.times;
      slots = λ u other. slot_other d t u y other;
      pages = same;
      room = refl;
      shown = λ is. ap is_shown (sym (uses t).state) ∙ is;
      led = λ is. ap is_led (sym (uses t).led) ∙ is;
      headers = λ u is. refl;
      leads = λ z u live leads. refl;
      now = record {
        within = λ u has. by_equal u t (λ k. has_slot w.grip.holds k ≡ true → k < l.slots) (λ _. few)
            (λ other held. b.pages.within u (ap (λ (c : Bool). c || has_slot v.grip.holds u) (sym (ne_eqb t u (λ q. other (sym q)))) ∙ held)) has;
        ways = λ z has.
            let was = b.pages.ways z has in
            way_same l s.trees d e v.grip.holds w.grip.holds z same (holds z.slot was.held) (uses z.slot).led refl was;
        drafts = λ z has.
            let was = b.pages.drafts z has in
            draft_same words words' l.slots d e v.grip.made v.grip.made z was.made (uses z.slot).state refl
            (λ i less. pages (page_at l.slots z.slot i) (omega arith)) was;
        copies = λ z has.
            let was = b.pages.copies z has in
            (was.0, copy_same l s.story d e s.resident v.grip.made v.grip.made z same was.1.made (uses z.slot).state refl was.1);
        blanks = λ u has.
            let was = b.pages.blanks u has in blank_same l.slots d e v.grip.made v.grip.made u was.made (uses u).state was;
        resident = b.pages.resident;
        leads = b.pages.leads;
        fills = λ z has. let was = b.pages.fills z has in (was.0, filled_same l words words' s.resident z pages was.1);
        known = λ z has.
            let was = b.pages.treed.known z has in
            known_same l s.trees d e v.grip.holds w.grip.holds z (holds z.slot was.held) (uses z.slot).led was;
        shuts = λ z has.
            shut_same d e s.resident p v.grip.holds w.grip.holds z
            (within_same d e v.grip.holds w.grip.holds z.at (λ u is held known. (holds u held, (uses u).led, refl))) refl
            (b.pages.shuts p (is_at v.role active) z has);
        heads = λ z has.
            let was = b.pages.treed.heads p (is_at v.role active) z has in
            head_same l words words' s.trees d e p z refl refl
            (λ i less. pages (page_at l.slots z.slot i) (omega arith)) was;
        moved = λ z has.
            let was = b.pages.treed.moved z has in
            moved_same l words words' s.trees d e v.grip.holds w.grip.holds z (holds z.slot was.held) (uses z.slot).led refl
            (λ i less. pages (page_at l.slots z.slot i) (omega arith)) was;
        sealed = λ u has.
            let was = b.pages.treed.sealed p (is_at v.role active) u has in
            sealed_at l d e p u refl refl was;
        inners = λ z has.
            let was = b.pages.treed.inners z has in
            inner_same l s.trees d e v.grip.holds w.grip.holds z same (holds z.slot was.held) (uses z.slot).led was;
        new_leaves = λ z has.
            let was = b.pages.treed.new_leaves z has in
            new_leaf_same l s.story d e s.trees v.grip.made v.grip.made z same was.made (uses z.slot).state refl was;
        new_inners = λ z has.
            let was = b.pages.treed.new_inners z has in
            new_inner_same l d e s.trees s.resident v.grip.made v.grip.made z same was.made (uses z.slot).state was;
      };
      deals = rests_low l words views s id v b words' w
          record { role = refl; ways = refl; took = refl; gone = refl; touched = refl; blamed = refl; locks = refl } refl
          pages;
    }
    refl)
