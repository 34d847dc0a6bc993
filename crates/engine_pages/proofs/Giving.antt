-- A slot is given: one compare_exchange of a usable word.
use Rattle.std.proofs.Common.{◌≡◌, ◌≢◌, inl, inr, ℕ, ◌+◌, ◌-◌, ◌*◌, ◌/◌, ◌%◌, ◌^◌, ◌<◌, ◌≤◌, Bool, true, false}
use Rattle.std.proofs.Common.{true≢false, cond, eqb, eqb-true, eq-eqb, ne_eqb, ltb, List, ◌∷◌, get_or, set, refl}
use Rattle.std.proofs.Common.{sym, ap, ◌∙◌, subst, arith}
use Rattle.std.specs.Prelude.{◌&&◌, ◌||◌, MatchBool}
use prog.Atomic.{either}
use Rattle.lists.specs.Elements.{in_cases}
use Rattle.homes.specs.declared.places.Holder.{Holder}
use Rattle.homes.specs.declared.places.Holder.TheVariants.{Dead, Held}
use Rattle.drop_core.specs.declared.table.Led.TheVariants.{Away, From, Never}
use Rattle.drop_core.specs.Law.{IsMade}
use Rattle.drop_core.specs.Sound.{IsLedSo}
use Rattle.commit_core.specs.Places.{home_of}
use Rattle.std.proofs.lemmas.Bool.{and_from, and_parts, or_right, false_from_ne_true}
use Rattle.std.proofs.lemmas.Bool.Decides.{nat_tests}
use Rattle.atomic_table.specs.Table.{Me, Allows}
use Rattle.wire_form.specs.Words.{at_bit}
use Rattle.drop_core.specs.declared.event.Act.TheVariants.{Give}
use Rattle.drop_core.specs.declared.grip.Grip.{Grip}
use Rattle.drop_core.specs.declared.table.Led.{Led}
use Rattle.drop_core.specs.declared.table.Slot.{Slot}
use Rattle.drop_core.specs.declared.table.SlotState.{SlotState}
use Rattle.drop_core.specs.declared.table.SlotState.TheVariants.{Unused, Owned, Published as Shown, Retired}
use Rattle.drop_core.specs.declared.table.Table.{Table}
use Rattle.drop_core.specs.Event.{is_owned, is_published, is_usable, can_be_given, most_times, with_slot, with_header}
use Rattle.drop_core.specs.Table.{slot_of, header_of, has_slot, is_led, is_never}
use Rattle.engine_pages.specs.declared.layout.Layout.{Layout}
use Rattle.engine_pages.specs.declared.view.View.{View}
use Rattle.engine_pages.specs.Layout.{slot_at, page_at}
use Rattle.engine_pages.specs.Rule.{Shared, all_seats, IsDraft, Shows}
use Rattle.engine_pages.specs.Slots.{is_usable_word, given_word, given, Given, HasGiven}
use Rattle.engine_pages.specs.Views.{IsActive, seat_number}
use Rattle.engine_pages.specs.Words.{ShowsSlot, state_number, is_shown}
use Rattle.engine_pages.proofs.Dealing.{rests_all, rests_low}
use Rattle.engine_pages.proofs.EachSeat.{at_seat, holds_counted}
use Rattle.engine_pages.proofs.Entering.{low_state, passes_few}
use Rattle.engine_pages.proofs.Looks.{look_stride}
use Rattle.engine_pages.proofs.Slotlists.{tab, get_tab, length_tab}
use Rattle.engine_pages.specs.Steps.{glanced}
use Rattle.engine_pages.proofs.Joint.{Laws}
use Rattle.engine_pages.proofs.Seats.{by_equal, is_at}
use Rattle.engine_pages.proofs.SlotFacts.{slot_other, slot_same, way_same, draft_same, copy_same, blank_same, filled_same}
use Rattle.engine_pages.proofs.SlotFacts.{known_same, head_same, moved_same}
use Rattle.engine_pages.proofs.SlotFacts.{inner_same, new_leaf_same, new_inner_same}
use Rattle.engine_pages.proofs.TreeFacts.{sealed_at}
use Rattle.engine_pages.proofs.SlotSteps.{SamePages, slot_stride}
use Rattle.engine_pages.proofs.Turns.{Stride, Begins, allows_at, written}
use Rattle.engine_pages.proofs.SlotFacts.{within_same, shut_same}

-- a slot whose word is usable may be given
usable : (x : Slot) (n : ℕ) → n ≡ (at_bit 0 x.passes + at_bit 16 (state_number x.state)) + at_bit 18 x.times → x.passes ≤ 9
    → is_usable_word n ≡ true → is_usable x ≡ true
usable x n word few is = by_state x.state refl
  where
    parts : ((eqb (n % 2 ^ 18) 0 || eqb (n % 2 ^ 18) (3 * 2 ^ 16)) ≡ true) × (ltb (n / 2 ^ 18) (2 ^ 46 - 1) ≡ true)
    parts = and_parts (eqb (n % 2 ^ 18) 0 || eqb (n % 2 ^ 18) (3 * 2 ^ 16)) (ltb (n / 2 ^ 18) (2 ^ 46 - 1)) is

    low : n % 2 ^ 18 ≡ x.passes + 65536 * state_number x.state
    low = let most = low_state x.state in omega arith

    high : n / 2 ^ 18 ≡ x.times
    high = let most = low_state x.state in omega arith

    times : ltb x.times most_times ≡ true
    times = ap (λ k. ltb k (2 ^ 46 - 1)) (sym high) ∙ parts.1

    by_state : (state : SlotState) → x.state ≡ state → is_usable x ≡ true
    by_state Unused e =
        let number = ap state_number e in
        let none : x.passes ≡ 0 = let one = parts.0 in grind (arith, nat_tests) in
        and_from (can_be_given x.state) (eqb x.passes 0 && ltb x.times most_times) (ap can_be_given e)
        (and_from (eqb x.passes 0) (ltb x.times most_times) (eq-eqb x.passes 0 none) times)
    by_state Owned e =
        let number = ap state_number e in absurd (let one = parts.0 in grind (arith, nat_tests))
    by_state Shown e =
        let number = ap state_number e in absurd (let one = parts.0 in grind (arith, nat_tests))
    by_state Retired e =
        let number = ap state_number e in
        let none : x.passes ≡ 0 = let one = parts.0 in grind (arith, nat_tests) in
        and_from (can_be_given x.state) (eqb x.passes 0 && ltb x.times most_times) (ap can_be_given e)
        (and_from (eqb x.passes 0) (ltb x.times most_times) (eq-eqb x.passes 0 none) times)

-- a slot that may be given isn't published
given_unpublished : (state : SlotState) → can_be_given state ≡ true → is_published state ≡ false
given_unpublished Unused e = refl
given_unpublished Owned e = refl
given_unpublished Shown e = absurd (true≢false (sym e))
given_unpublished Retired e = refl

-- the word of a slot that was given
word_is : (x : Slot) (n : ℕ) → n ≡ (at_bit 0 x.passes + at_bit 16 (state_number x.state)) + at_bit 18 x.times → x.passes ≤ 9
    → x.passes ≡ 0 → given_word n ≡ (at_bit 0 x.passes + at_bit 16 1) + at_bit 18 (x.times + 1)
word_is x n word few none =
    let most = low_state x.state in
    let high : n / 2 ^ 18 ≡ x.times = omega arith in omega arith

-- a slot that is owned or published may not be given
unusable_owned : (state : SlotState) → can_be_given state ≡ true → is_owned state ≡ false
unusable_owned Unused e = refl
unusable_owned Owned e = absurd (true≢false (sym e))
unusable_owned Shown e = refl
unusable_owned Retired e = refl

-- a slot that may be given is in nobody's hands
idle_given : (state : SlotState) (led : Led) → can_be_given state ≡ true
    → (is_owned state || (is_published state && is_never led)) ≡ false
idle_given Unused led e = refl
idle_given Owned led e = absurd (true≢false (sym e))
idle_given Shown led e = absurd (true≢false (sym e))
idle_given Retired led e = refl

-- nor did the pass make it
unmade : Laws → (l : Layout) (words : List ℕ) (views : List View) (s : Shared) (id : ℕ) (v : View) (t : ℕ)
    → Begins l words views s id v → can_be_given (slot_of s.table t).state ≡ true → has_slot v.grip.made t ≡ true → ⊥
unmade laws l words views s id v t b can has =
    let p = seat_number v.role in
    let d = s.table in
    let made : has_slot (s.grips p).made t ≡ true = ap (λ (g : Grip). has_slot g.made t) (sym b.grip) ∙ has in
    let is : IsMade d (all_seats s.grips) p t =
    laws.made (home_of s.story.homes) d (all_seats s.grips) p t (s.grips p) b.sound.joint.pages (at_seat s.grips p b.few) made in
    true≢false (sym is.making ∙ idle_given (slot_of d t).state (slot_of d t).led can)

-- a slot that something leads to is published
led_published : (d : Table) (t : ℕ) (state : SlotState) (led : Led) → is_led led ≡ true → IsLedSo d t state led
    → is_published state ≡ true
led_published d t state Never e so = absurd (true≢false (sym e))
led_published d t state (From y) e so = ap is_published so.0
led_published d t state Away e so = absurd (true≢false (sym e))

-- the words of a slot's page
abbrev page_words_of : List ℕ → ℕ → ℕ → List ℕ
page_words_of words slots t = tab (λ i. get_or words (page_at slots t i) 0) 64

header_other : (d : Table) (a u : ℕ) (h : Holder) → u ≢ a → header_of (with_header d a h) u ≡ header_of d u
header_other d a u h other = ap (λ (y : Bool). cond y h (header_of d u)) (ne_eqb a u (λ e. other (sym e)))

header_here : (d : Table) (a : ℕ) (h : Holder) → header_of (with_header d a h) a ≡ h
header_here d a h = ap (λ (y : Bool). cond y h (header_of d a)) (eq-eqb a a refl)

pub gives : Laws → (l : Layout) (slots id : ℕ) (me : Me (Unit {0}) View) (t expected : ℕ)
    → IsActive me.0.role → t < l.slots → is_usable_word expected ≡ true
    → Allows (λ s. Shows l s.words s.views) slots id me (slot_at t) (λ n. either (eqb n expected) (given_word expected) n)
    (λ n now. (now.1 ≡ me.1) × Given t expected me.0 n now.0)
gives laws l slots id me t expected active few can =
    allows_at laws l slots id me (slot_at t) (λ n. either (eqb n expected) (given_word expected) n) (Given t expected) active
    (λ words views s b. by_found words views s b (eqb (get_or words (slot_at t) 0) expected) refl)
  where
    by_found : (words : List ℕ) (views : List View) (s : Shared) → Begins l words views s id me.0 → (c : Bool)
        → eqb (get_or words (slot_at t) 0) expected ≡ c
        → Stride l words views s (seat_number me.0.role) me.0 (slot_at t) (λ n. either (eqb n expected) (given_word expected) n)
        (Given t expected)
    by_found words views s b true found =
        let v = me.0 in
        let p = seat_number v.role in
        let d = s.table in
        let h = b.sound in
        let n : ℕ = get_or words (slot_at t) 0 in
        let x = slot_of d t in
        let ws = page_words_of words l.slots t in
        let w = given t ws n v in
        let y : Slot = record x { state = Owned; times = x.times + 1; led = Never } in
        let d1 = with_slot d t y in
        let e = with_header d1 t Dead in
        let is-expected : n ≡ expected = eqb-true n expected found in
        let shows : ShowsSlot words (slot_at t) x = h.shown.slots t few in
        let count = passes_few l words views s id v t b in
        let free : is_usable x ≡ true = usable x n shows.word count (ap is_usable_word is-expected ∙ can) in
        let parts = and_parts (can_be_given x.state) (eqb x.passes 0 && ltb x.times most_times) free in
        let more = and_parts (eqb x.passes 0) (ltb x.times most_times) parts.1 in
        let none : x.passes ≡ 0 = eqb-true x.passes 0 more.0 in
        let now : slot_of e t ≡ y = slot_same d t y in
        let others : (u : ℕ) → u ≢ t → slot_of e u ≡ slot_of d u = λ u other. slot_other d t u y other in
        let header : (u : ℕ) → u ≢ t → header_of e u ≡ header_of d u = λ u other. header_other d1 t u Dead other in
        let f : ℕ → ℕ = λ n. either (eqb n expected) (given_word expected) n in
        let fn : f n ≡ given_word n = ap (λ c. either c (given_word expected) n) found ∙ ap given_word (sym is-expected) in
        let words' = set words (slot_at t) (f n) in
        let wr = written words (slot_at t) (f n) (let long = h.shown.long in omega arith) in
        let pages : (j : ℕ) → 32 + l.slots ≤ j → get_or words' j 0 ≡ get_or words j 0 = λ j low.
        wr.others j (λ q. absurd (omega arith)) in
        let same : SamePages d e = record { pages = λ u. refl; pointers = λ z. refl; snaps = refl; published = refl } in
        let unheld : (u : ℕ) → has_slot v.grip.holds u ≡ true → u ≢ t = λ u held is.
        let one = holds_counted u p s.grips b.few (ap (λ (g : Grip). has_slot g.holds u) (sym b.grip) ∙ held) in
        let all = h.joint.pages.table.holds_counted.counted u in
        let passes : (slot_of d u).passes ≡ x.passes = ap (λ k. (slot_of d k).passes) is in absurd (omega arith) in
        let unowned : (u : ℕ) → is_owned (slot_of d u).state ≡ true → u ≢ t = λ u owned is.
        true≢false (sym owned ∙ ap (λ k. is_owned (slot_of d k).state) is ∙ unusable_owned x.state parts.0) in
        let unpublished : (u : ℕ) → is_published (slot_of d u).state ≡ true → u ≢ t = λ u shown is.
        true≢false (sym shown ∙ ap (λ k. is_published (slot_of d k).state) is ∙ given_unpublished x.state parts.0) in
        let unlocked : (u : ℕ) → header_of d u ≡ Held p → u ≢ t = λ u held.
        unpublished u (led_published d u (slot_of d u).state (slot_of d u).led (h.joint.pages.held.headers u p held).1
        (h.joint.pages.table.holds_counted.led u)) in
        let made : (u : ℕ) → has_slot v.grip.made u ≡ true → has_slot w.grip.made u ≡ true = λ u has.
        or_right (eqb t u) (has_slot v.grip.made u) has in
        slot_stride laws l words views s id v active b t f (Give t) w (Given t expected)
        record {
          same = record { layout = refl; role = refl; made = refl; past = refl; parked = refl; epoch = refl; mine = refl; draws = refl; due = refl; seat = refl; checked = refl; took = refl; loaded = refl; met = refl; heard = refl; history = refl; decided = refl; versions = refl };
          still = refl;
          allowed = and_from (ltb t d.room) (is_usable x) (let room = h.room in grind (arith, nat_tests)) free;
          lets = refl;
          grip = ap (λ (g : Grip). let z : Grip = record g { made = t ∷ g.made } in z) (sym b.grip);
          few = few;
          this = fn ∙ (word_is x n shows.word count none
              ∙ ap (λ (z : Slot). (at_bit 0 z.passes + at_bit 16 (state_number z.state)) + at_bit 18 z.times) (sym now));
          times = subst (λ (z : Slot). z.times < 2 ^ 46) (sym now) (let low = more.1 in grind (arith, nat_tests));
          slots = others;
          pages = same;
          room = refl;
          shown = λ is. absurd (true≢false (sym is ∙ ap (λ (z : Slot). is_shown z.state) now));
          led = λ is. absurd (true≢false (sym is ∙ ap (λ (z : Slot). is_led z.led) now));
          headers = λ u is. by_equal u t (λ k. is_shown (slot_of e k).state ≡ true → header_of e k ≡ header_of d k)
              (λ shown. absurd (true≢false (sym shown ∙ ap (λ (z : Slot). is_shown z.state) now)))
              (λ other _. header u other) is;
          leads = λ z u live leads.
              let back = h.joint.pages.table.holds_counted.back z u live leads in
              let so = subst (λ (g : Led). IsLedSo d u (slot_of d u).state g) back (h.joint.pages.table.holds_counted.led u) in
              header u (unpublished u (ap is_published so.0));
          now = record {
            within = b.pages.within;
            ways = λ z has.
                let was = b.pages.ways z has in
                let other = unheld z.slot was.held in
                way_same l s.trees d e v.grip.holds w.grip.holds z same was.held (ap (λ (k : Slot). k.led) (others z.slot other))
                (header z.slot other) was;
            drafts = λ z has. elim (in_cases z (record { slot = t; words = ws }) v.drafts has) [
              | inl is ↦ subst (IsDraft words' l.slots e w.grip.made) is record {
                slot = few;
                made = ap (λ (c : Bool). c || has_slot v.grip.made t) (eq-eqb t t refl);
                owned = ap (λ (k : Slot). is_owned k.state) now;
                header = header_here d1 t Dead;
                is = λ i less.
                    pages (page_at l.slots t i) (omega arith)
                    ∙ sym (get_tab (λ i. get_or words (page_at l.slots t i) 0) 64 i less);
              }
              | inr old ↦
                  let was = b.pages.drafts z old in
                  let other = unowned z.slot was.owned in
                  draft_same words words' l.slots d e v.grip.made w.grip.made z (made z.slot was.made)
                  (ap (λ (k : Slot). k.state) (others z.slot other)) (header z.slot other)
                  (λ i less. pages (page_at l.slots z.slot i) (omega arith)) was
            ];
            copies = λ z has.
                let was = b.pages.copies z has in
                let other = unpublished z.slot was.1.state in (
                  was.0,
                  copy_same l s.story d e s.resident v.grip.made w.grip.made z same (made z.slot was.1.made)
                      (ap (λ (k : Slot). k.state) (others z.slot other)) (header z.slot other) was.1,
                );
            blanks = λ u has.
                let was = b.pages.blanks u has in
                blank_same l.slots d e v.grip.made w.grip.made u (made u was.made)
                (ap (λ (k : Slot). k.state) (others u (unpublished u was.state))) was;
            resident = b.pages.resident;
            leads = b.pages.leads;
            fills = λ z has. let was = b.pages.fills z has in (was.0, filled_same l words words' s.resident z pages was.1);
            known = λ z has.
                let was = b.pages.treed.known z has in
                known_same l s.trees d e v.grip.holds w.grip.holds z was.held
                (ap (λ (k : Slot). k.led) (others z.slot (unheld z.slot was.held))) was;
            shuts = λ z has.
                shut_same d e s.resident p v.grip.holds w.grip.holds z
                (within_same d e v.grip.holds w.grip.holds z.at
                (λ u is held known. (held, ap (λ (k : Slot). k.led) (others u (unheld u held)), refl))) refl
                (b.pages.shuts p (is_at v.role active) z has);
            heads = λ z has.
                let was = b.pages.treed.heads p (is_at v.role active) z has in
                head_same l words words' s.trees d e p z (header z.slot (unlocked z.slot was.locked)) refl
                (λ i less. pages (page_at l.slots z.slot i) (omega arith)) was;
            moved = λ z has.
                let was = b.pages.treed.moved z has in
                moved_same l words words' s.trees d e v.grip.holds w.grip.holds z was.held
                (ap (λ (k : Slot). k.led) (others z.slot (unheld z.slot was.held))) refl
                (λ i less. pages (page_at l.slots z.slot i) (omega arith)) was;
            sealed = λ u has.
                let was = b.pages.treed.sealed p (is_at v.role active) u has in
                sealed_at l d e p u (header u (unlocked u was.locked)) refl was;
            inners = λ z has.
                let was = b.pages.treed.inners z has in
                inner_same l s.trees d e v.grip.holds w.grip.holds z same was.held
                (ap (λ (k : Slot). k.led) (others z.slot (unheld z.slot was.held))) was;
            new_leaves = λ z has.
                let was = b.pages.treed.new_leaves z has in
                let other = unpublished z.slot was.state in
                new_leaf_same l s.story d e s.trees v.grip.made w.grip.made z same (made z.slot was.made)
                (ap (λ (k : Slot). k.state) (others z.slot other)) (header z.slot other) was;
            new_inners = λ z has.
                let was = b.pages.treed.new_inners z has in
                new_inner_same l d e s.trees s.resident v.grip.made w.grip.made z same (made z.slot was.made)
                (ap (λ (k : Slot). k.state) (others z.slot (unpublished z.slot was.state))) was;
          };
          deals = rests_low l words views s id v b words' w
              record { role = refl; ways = refl; took = refl; gone = refl; touched = refl; blamed = refl; locks = refl } refl
              pages;
        }
        (subst (λ c. MatchBool c (HasGiven t v n w) (w ≡ glanced (slot_at t) n v)) (sym found) record {
          words = ws;
          long = length_tab (λ i. get_or words (page_at l.slots t i) 0) 64;
          unheld = false_from_ne_true (has_slot v.grip.holds t) (λ q. unheld t q refl);
          unmade = false_from_ne_true (has_slot v.grip.made t) (λ q. unmade laws l words views s id v t b parts.0 q);
          is = refl;
        })
    by_found words views s b false found =
        let v = me.0 in
        let n : ℕ = get_or words (slot_at t) 0 in
        let w = glanced (slot_at t) n v in
        look_stride l words views s id v active b (slot_at t) (λ n. either (eqb n expected) (given_word expected) n) w
        (Given t expected) (ap (λ c. either c (given_word expected) n) found)
        record { layout = refl; role = refl; made = refl; past = refl; parked = refl; epoch = refl; mine = refl; draws = refl; due = refl; seat = refl; checked = refl; took = refl; loaded = refl; met = refl; heard = refl; history = refl; decided = refl; versions = refl }
        refl
        record {
          within = b.pages.within;
          ways = b.pages.ways;
          drafts = b.pages.drafts;
          copies = b.pages.copies;
          blanks = b.pages.blanks;
          resident = b.pages.resident;
          leads = b.pages.leads;
          fills = b.pages.fills;
          known = b.pages.treed.known;
          heads = b.pages.treed.heads (seat_number v.role) (is_at v.role active);
          moved = b.pages.treed.moved;
          sealed = b.pages.treed.sealed (seat_number v.role) (is_at v.role active);
          inners = b.pages.treed.inners;
          new_leaves = b.pages.treed.new_leaves;
          new_inners = b.pages.treed.new_inners;
          shuts = b.pages.shuts (seat_number v.role) (is_at v.role active);
        }
        (rests_all l words views s id v b w
        record { role = refl; ways = refl; took = refl; gone = refl; touched = refl; blamed = refl; locks = refl } refl)
        (subst (λ c. MatchBool c (HasGiven t v n w) (w ≡ glanced (slot_at t) n v)) (sym found) refl)
