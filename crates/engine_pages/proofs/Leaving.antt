-- A slot is held no more.
use Rattle.std.proofs.Common.{◌≡◌, ◌≢◌, inl, suc, ℕ, ◌+◌, ◌*◌, ◌-◌, ◌%◌, ◌^◌, ◌<◌, ◌≤◌, true, false}
use Rattle.std.proofs.Common.{not, get_or, set, refl}
use Rattle.std.proofs.Common.{sym, ap, ◌∙◌, subst, arith}
use Rattle.atomic_table.specs.Table.{Me, Allows}
use Rattle.wire_form.specs.Words.{at_bit}
use Rattle.drop_core.specs.declared.event.Act.TheVariants.{Leave}
use Rattle.drop_core.specs.declared.grip.Grip.{Grip}
use Rattle.drop_core.specs.declared.table.Slot.{Slot}
use Rattle.drop_core.specs.Event.{with_slot, without}
use Rattle.drop_core.specs.Table.{slot_of, has_slot, is_led}
use Rattle.engine_pages.specs.declared.layout.Layout.{Layout}
use Rattle.engine_pages.specs.declared.view.Inner.{Inner}
use Rattle.engine_pages.specs.declared.view.Known.{Known}
use Rattle.engine_pages.specs.declared.view.Moved.{Moved}
use Rattle.engine_pages.specs.declared.view.View.{View}
use Rattle.engine_pages.specs.declared.view.Way.{Way}
use Rattle.engine_pages.specs.Layout.{slot_at, page_at}
use Rattle.engine_pages.specs.Rule.{Shows}
use Rattle.engine_pages.specs.Slots.{left}
use Rattle.engine_pages.specs.Views.{IsActive, seat_number}
use Rattle.engine_pages.specs.Words.{ShowsSlot, state_number, is_shown}
use Rattle.engine_pages.specs.Touches.{Touched}
use Rattle.engine_pages.proofs.Dealing.{blamed, faces}
use Rattle.engine_pages.proofs.Facing.{facing_left, facing_other, takes_same}
use Rattle.engine_pages.proofs.EachSeat.{holds_counted}
use Rattle.engine_pages.proofs.Entering.{low_state, passes_few}
use Rattle.engine_pages.proofs.Slotlists.{without_other, at_others}
use Rattle.engine_rule.specs.JointState.{keeps_word}
use Rattle.commit_core.specs.declared.seat.Seat.{Seat}
use Rattle.engine_pages.proofs.Joint.{Laws}
use Rattle.engine_pages.proofs.Seats.{by_equal, is_at}
use Rattle.engine_pages.proofs.SlotFacts.{slot_other, slot_same, passes_only, way_same, draft_same, copy_same, blank_same, filled_same}
use Rattle.engine_pages.proofs.SlotFacts.{known_same, head_same, moved_same}
use Rattle.engine_pages.proofs.SlotFacts.{inner_same, new_leaf_same, new_inner_same}
use Rattle.engine_pages.proofs.TreeFacts.{sealed_at}
use Rattle.engine_pages.proofs.SlotSteps.{SamePages, slot_stride}
use Rattle.engine_pages.proofs.Turns.{allows_at, written}
use Rattle.engine_pages.proofs.SlotFacts.{within_same, shut_same}
use Rattle.engine_rule.specs.JointState.{is_slot, slot_at as slot_with}
use Rattle.std.specs.List.{Contains}
use Rattle.lists.specs.Elements.{in_filter, filter_only}
use Rattle.engine_pages.specs.declared.view.Shut.{Shut}
use Rattle.engine_pages.specs.Slots.{other_shuts}
use Rattle.std.proofs.Common.{Bool, List, true≢false}

-- what was shut in other pages
shuts_other : (t : ℕ) (xs : List Shut) (x : Shut) → Contains (other_shuts t xs) x
    → Contains xs x × (is_slot t (slot_with x.at) ≡ false)
shuts_other t xs x has = (
  in_filter (λ (y : Shut). not (is_slot t (slot_with y.at))) x xs has,
  not_true (is_slot t (slot_with x.at)) (filter_only (λ (y : Shut). not (is_slot t (slot_with y.at))) x xs has),
)
  where
    not_true : (b : Bool) → not b ≡ true → b ≡ false
    not_true true e = absurd (true≢false (sym e))
    not_true false e = refl

pub leaves_slot : Laws → (l : Layout) (slots id : ℕ) (me : Me (Unit {0}) View) (t : ℕ)
    → IsActive me.0.role → t < l.slots → has_slot me.0.grip.holds t ≡ true → keeps_word me.0.seat.kept t ≡ false
    → Allows (λ s. Shows l s.words s.views) slots id me (slot_at t) (λ n. (n + (2 ^ 64 - 1)) % 2 ^ 64)
    (λ n now. (now.1 ≡ me.1) × (now.0 ≡ left t me.0))
leaves_slot laws l slots id me t active few holds-it unkept =
    allows_at laws l slots id me (slot_at t) (λ n. (n + (2 ^ 64 - 1)) % 2 ^ 64) (λ v n w. w ≡ left t v) active (λ words views s b.
    let v = me.0 in
    let p = seat_number v.role in
    let d = s.table in
    let h = b.sound in
    let x = slot_of d t in
    let w = left t v in
    let y : Slot = record x { passes = x.passes - 1 } in
    let e = with_slot d t y in
    let shows : ShowsSlot words (slot_at t) x = h.shown.slots t few in
    let count = passes_few l words views s id v t b in
    let now : slot_of e t ≡ y = slot_same d t y in
    let uses = λ (u : ℕ). passes_only d t u y record { state = refl; led = refl } in
    let wr = written words (slot_at t) ((get_or words (slot_at t) 0 + (2 ^ 64 - 1)) % 2 ^ 64) (let long = h.shown.long in omega arith) in
    let words' = set words (slot_at t) ((get_or words (slot_at t) 0 + (2 ^ 64 - 1)) % 2 ^ 64) in
    let pages : (j : ℕ) → 32 + l.slots ≤ j → get_or words' j 0 ≡ get_or words j 0 = λ j low.
    wr.others j (λ q. absurd (omega arith)) in
    let same : SamePages d e = record { pages = λ u. refl; pointers = λ z. refl; snaps = refl; published = refl } in
    let held : has_slot (s.grips p).holds t ≡ true = ap (λ (g : Grip). has_slot g.holds t) (sym b.grip) ∙ holds-it in
    let some = holds_counted t p s.grips b.few held in
    let all = h.joint.pages.table.holds_counted.counted t in
    let kept : keeps_word (s.seats p).kept t ≡ false = ap (λ (z : Seat). keeps_word z.kept t) (sym b.own.seat) ∙ unkept in
    let holds : (u : ℕ) → u ≢ t → has_slot v.grip.holds u ≡ true → has_slot w.grip.holds u ≡ true = λ u other had.
    without_other v.grip.holds t u other ∙ had in
    slot_stride laws l words views s id v active b t (λ n. (n + (2 ^ 64 - 1)) % 2 ^ 64) (Leave t) w (λ v n w. w ≡ left t v)
    record {
      same = record { layout = refl; role = refl; made = refl; past = refl; parked = refl; epoch = refl; mine = refl; draws = refl; due = refl; seat = refl; checked = refl; took = refl; loaded = refl; met = refl; heard = refl; history = refl; decided = refl; versions = refl };
      still = refl;
      allowed = held;
      lets = ap not kept;
      grip = ap (λ (g : Grip). let z : Grip = record g { holds = without g.holds t } in z) (sym b.grip);
      few = few;
      this =
          let word = shows.word in
          let low = low_state x.state in
          let times = shows.times in
          (omega arith) ∙ ap (λ (z : Slot). (at_bit 0 z.passes + at_bit 16 (state_number z.state)) + at_bit 18 z.times) (sym now);
      times = subst (λ (z : Slot). z.times < 2 ^ 46) (sym now) shows.times;
      slots = λ u other. slot_other d t u y other;
      pages = same;
      room = refl;
      shown = λ is. ap is_shown (sym (uses t).state) ∙ is;
      led = λ is. ap is_led (sym (uses t).led) ∙ is;
      headers = λ u is. refl;
      leads = λ z u live leads. refl;
      now = record {
        within = λ u has. by_equal u t (λ k. has_slot w.grip.holds k ≡ true → k < l.slots) (λ _. few)
            (λ other held. b.pages.within u (sym (without_other v.grip.holds t u other) ∙ held)) has;
        ways = λ z has.
            let old = at_others (λ (k : Way). k.slot) t v.ways z has in
            let was = b.pages.ways z old.0 in
            way_same l s.trees d e v.grip.holds w.grip.holds z same (holds z.slot old.1 was.held) (uses z.slot).led refl was;
        drafts = λ z has.
            let was = b.pages.drafts z has in
            draft_same words words' l.slots d e v.grip.made v.grip.made z was.made (uses z.slot).state refl
            (λ i less. pages (page_at l.slots z.slot i) (omega arith)) was;
        copies = λ z has.
            let was = b.pages.copies z has in
            (was.0, copy_same l s.story d e s.resident v.grip.made v.grip.made z same was.1.made (uses z.slot).state refl was.1);
        blanks = λ u has.
            let was = b.pages.blanks u has in blank_same l.slots d e v.grip.made v.grip.made u was.made (uses u).state was;
        resident = b.pages.resident;
        leads = b.pages.leads;
        fills = λ z has. let was = b.pages.fills z has in (was.0, filled_same l words words' s.resident z pages was.1);
        known = λ z has.
            let old = at_others (λ (k : Known). k.slot) t v.known z has in
            let was = b.pages.treed.known z old.0 in
            known_same l s.trees d e v.grip.holds w.grip.holds z (holds z.slot old.1 was.held) (uses z.slot).led was;
        shuts = λ z has.
            let old = shuts_other t v.shuts z has in
            shut_same d e s.resident p v.grip.holds w.grip.holds z
            (within_same d e v.grip.holds w.grip.holds z.at (λ u is held known. (
              holds u (λ q. true≢false (sym is ∙ ap (λ k. is_slot k (slot_with z.at)) q ∙ old.1)) held,
              (uses u).led,
              refl,
            ))) refl (b.pages.shuts p (is_at v.role active) z old.0);
        heads = λ z has.
            let was = b.pages.treed.heads p (is_at v.role active) z has in
            head_same l words words' s.trees d e p z refl refl (λ i less. pages (page_at l.slots z.slot i) (omega arith)) was;
        moved = λ z has.
            let old = at_others (λ (k : Moved). k.slot) t v.moved z has in
            let was = b.pages.treed.moved z old.0 in
            moved_same l words words' s.trees d e v.grip.holds w.grip.holds z (holds z.slot old.1 was.held) (uses z.slot).led refl
            (λ i less. pages (page_at l.slots z.slot i) (omega arith)) was;
        sealed = λ u has.
            let was = b.pages.treed.sealed p (is_at v.role active) u has in sealed_at l d e p u refl refl was;
        inners = λ z has.
            let old = at_others (λ (k : Inner). k.slot) t v.inners z has in
            let was = b.pages.treed.inners z old.0 in
            inner_same l s.trees d e v.grip.holds w.grip.holds z same (holds z.slot old.1 was.held) (uses z.slot).led was;
        new_leaves = λ z has.
            let was = b.pages.treed.new_leaves z has in
            new_leaf_same l s.story d e s.trees v.grip.made v.grip.made z same was.made (uses z.slot).state refl was;
        new_inners = λ z has.
            let was = b.pages.treed.new_inners z has in
            new_inner_same l d e s.trees s.resident v.grip.made v.grip.made z same was.made (uses z.slot).state was;
      };
      deals = record {
        touched = λ q k. omega (arith, takes_same q k v w refl);
        locks = λ k has. inl has;
        changes = λ k y at r.
            inl (pages at (let word : at ≡ page_at l.slots y.slot (2 * y.index) = r.word in omega arith));
        facing = λ worker is.
            facing_other l words words' (Touched views) (Touched views) (suc worker) w.ways v.took v.reads w.gone (λ q k has. has)
            (λ k y at there.
            let word : at ≡ page_at l.slots y.slot (2 * y.index) = there.word in inl (pages at (omega arith)))
            (facing_left l words (Touched views) (suc worker) t v.ways v.took v.reads v.gone
            (faces l words views s id v b worker is));
        blamed = blamed l words views s id v b;
      };
    }
    refl)
