-- The first load of a read: an unlocked record is seen, and kept.
use Rattle.std.proofs.Common.{◌≡◌, ◌⊎◌, inl, inr, ℕ, ◌^◌, ◌<◌, Bool, true, false, not, ltb}
use Rattle.std.proofs.Common.{List, get_or, set, refl, sym, ap, ◌∙◌, subst, arith, Some}
use Rattle.std.specs.Prelude.{MatchBool, filter}
use Rattle.std.proofs.lemmas.Bool.{and_from}
use Rattle.std.proofs.lemmas.Bool.Decides.{nat_tests}
use Rattle.atomic_table.specs.Table.{Me, Allows}
use Rattle.lists.specs.Elements.{in_push_cases, in_filter}
use Rattle.lists.specs.Fronts.{front_refl}
use Rattle.serial_model.specs.declared.decl.Decl.{Decl}
use Rattle.serial_model.specs.declared.key.Key.{Key}
use Rattle.homes.specs.declared.places.Content.{Content}
use Rattle.homes.specs.declared.places.Holder.{Holder}
use Rattle.homes.specs.declared.places.Holder.TheVariants.{Free, Dead}
use Rattle.homes.specs.declared.places.Spot.{Spot}
use Rattle.wire_form.specs.Words.{number_word}
use Rattle.commit_core.specs.declared.attempt.Attempt.{Attempt}
use Rattle.commit_core.specs.declared.place.Place.{Place}
use Rattle.commit_core.specs.declared.part.Part.{Part}
use Rattle.commit_core.specs.declared.part.Word.TheVariants.{Record}
use Rattle.commit_core.specs.declared.event.Act.TheVariants.{See}
use Rattle.commit_core.specs.declared.seat.Seat.{Seat}
use Rattle.commit_core.specs.CoreState.{is_trying, last_marked}
use Rattle.commit_core.specs.Event.{seen_at}
use Rattle.commit_core.specs.Keys.{nothing}
use Rattle.commit_core.specs.Parts.{same_word, record_part, with_part}
use Rattle.commit_core.specs.Places.{place_of, spot_at, spot_of, is_free_at, is_free}
use Rattle.commit_core.specs.Serial.{last_write}
use Rattle.commit_core.specs.Sound.Reads.{IsVersion}
use Rattle.engine_rule.specs.Event.{slot_of_spot}
use Rattle.engine_rule.specs.JointState.{holds_slot}
use Rattle.engine_pages.specs.declared.layout.Layout.{Layout}
use Rattle.engine_pages.specs.declared.view.View.{View}
use Rattle.engine_pages.specs.Pages.{is_array}
use Rattle.engine_pages.specs.Rule.{Shared, KeptAreRecords, KeptIsLow, Shows}
use Rattle.engine_pages.specs.Views.{IsActive, seat_number}
use Rattle.engine_pages.specs.Words.{lock_field, ShowsRecord, ShowsWords}
use Rattle.engine_pages.proofs.Facing.{Deals}
use Rattle.engine_pages.proofs.Joint.{Laws}
use Rattle.engine_pages.proofs.Looks.{look_stride}
use Rattle.engine_pages.proofs.OwnView.{own_fits}
use Rattle.engine_pages.proofs.Seats.{own_longer, tried_longer}
use Rattle.engine_pages.proofs.Turns.{Stride, Begins, allows_at, marks_stay, tried_goes, unwritten}
use Rattle.page_records.specs.Reads.{read_at, saw, Saw, SawFree}
use Rattle.engine_pages.specs.Records.{IsAnyRecordAt, IsRecordAt}
use Rattle.engine_pages.proofs.CommitSteps.{commit_stride}
use Rattle.page_records.proofs.Commits.{unchanged, pages_kept, frame_kept}
use Rattle.page_records.proofs.Contents.{free_below, free_last, free_version, parts_same}
use Rattle.page_records.proofs.AnyRecord.{any_stands}
use Rattle.page_records.proofs.Leaves.{array_is, home, shown}
use Rattle.page_records.proofs.Looks.{pages_same}
use Rattle.page_records.proofs.Touching.{meet_deals}
use Rattle.page_records.proofs.TreeTouching.{any_meet}

-- ---- what is kept

low_seen : (places : List (Spot × Place)) (kept : List Part) (k : Key) (x : Spot) → KeptIsLow places kept
    → KeptIsLow places (with_part kept (record_part k x (place_of places x).content))
low_seen places kept k x low q y d has =
    elim (in_push_cases (record_part q y d) (record_part k x (place_of places x).content)
    (filter (λ p. not (same_word p.word (Record x))) kept) has) [
      | inl old ↦ low q y d (in_filter (λ (p : Part). not (same_word p.word (Record x))) (record_part q y d) kept old)
      | inr new ↦
          let same = parts_same k q x y (place_of places x).content d new in
          inl (ap (λ (c : Content). c.number) (sym same.2) ∙ ap (λ z. (place_of places z).content.number) same.1)
    ]

records_seen : (decls : List Decl) (opening : List (Key × Content)) (history : List Attempt) (kept : List Part) (k : Key)
    (x : Spot) (c : Content) → ((c ≡ nothing) × (is_array decls k.storage ≡ false)) ⊎ IsVersion opening history k c
    → KeptAreRecords decls opening history kept
    → KeptAreRecords decls opening history (with_part kept (record_part k x c))
records_seen decls opening history kept k x c version records part has =
    elim (in_push_cases part (record_part k x c) (filter (λ p. not (same_word p.word (Record x))) kept) has) [
      | inl old ↦ records part (in_filter (λ (p : Part). not (same_word p.word (Record x))) part kept old)
      | inr new ↦ inl (k, x, c, sym new, version)
    ]

-- ---- the step

pub free_alive : (h : Holder) → h ≡ Free → h ≡ Dead → ⊥
free_alive h free dead = absurd (cc)

-- a record that nobody holds is seen, and kept with what stands there
pub sees_free : Laws → (l : Layout) (words : List ℕ) (views : List View) (s : Shared) (id : ℕ) (v : View)
    → IsActive v.role → (b : Begins l words views s id v) → (k : Key) (x : Spot) (at : ℕ) → IsAnyRecordAt v k x at
    → is_trying v.seat.stage ≡ false → (place_of s.story.places x).holder ≡ Free
    → (((place_of s.story.places x).content ≡ nothing) × (is_array l.decls k.storage ≡ false))
    ⊎ IsVersion l.opening s.story.history k (place_of s.story.places x).content
    → (tells : View → ℕ → View → Type 0)
    → tells v (get_or words at 0)
    (saw s.story.history s.story.decided k x (place_of s.story.places x).content at (get_or words at 0) v)
    → Stride l words views s (seat_number v.role) v at (λ n. n) tells
sees_free laws l words views s id v active b k x at is resting free version tells told =
    let m = s.story in
    let h = b.sound in
    let f = b.fits in
    let n : ℕ = get_or words at 0 in
    let words' = set words at n in
    let r = any_stands l words views s id v b k x at is in
    let q = place_of m.places x in
    let at-home = r.home (free_alive q.holder free) in
    let spot : spot_at m.homes k ≡ Some x = ap spot_of at-home in
    let w : View = saw m.history m.decided k x q.content at n v in
    let one = unchanged l words s m x.slot at r.known refl in
    let now = pages_kept laws l words words' views s id v active b m x.slot one in
    commit_stride laws l words views s id v active b at (λ n. n) (See k) m w tells record {
      lets = ap (λ o. holds_slot v.grip (slot_of_spot o)) spot ∙ r.held;
      allowed = and_from (not (is_trying v.seat.stage)) (is_free_at m.places (spot_at m.homes k)) (ap not resting)
          (ap (is_free_at m.places) spot ∙ ap is_free free);
      story-is = refl;
      seat-is = ap (λ o. let z : Seat = record v.seat { kept = seen_at k m.places v.seat.kept o } in z) spot;
      grip = refl;
      role = refl;
      made = refl;
      small = h.small;
      valued = h.valued;
      shown = subst (λ (z : List ℕ). ShowsWords l z m s.table s.trees s.resident) (sym (unwritten words at)) h.shown;
      marks = marks_stay words words' s.seats (seat_number v.role) v.seat w.seat h.marks b.own.seat refl
          (λ j lo hi. ap (λ z. get_or z j 0) (unwritten words at));
      marked = λ place mark has. has;
      marks_low = subst (λ (z : Seat). last_marked z.marks < m.epoch) (sym b.own.seat) (h.marked (seat_number v.role));
      drawn = λ a has. inl has;
      tried = tried_goes m m s.seats (seat_number v.role) v.seat w.seat b.own.seat refl refl refl (inl refl) h.tried;
      fits = own_fits l m m s.seats v w active f f.part refl refl refl refl refl (λ place mark has. has) record {
        history = front_refl m.history;
        decided = front_refl m.decided;
        heard = f.heard;
        mine = f.mine;
        mine_own = λ a has.
            own_longer v.role v.history m.history v.decided m.decided a f.history f.decided (f.mine_own a has);
        records = records_seen l.decls l.opening m.history v.seat.kept k x q.content
            version f.records;
        kept = low_seen m.places v.seat.kept k x f.kept;
        versions = f.versions;
        loaded = tt;
        tried = tried_longer (seat_number v.role) v.history m.history m.checks v.checked v.mine v.seat.stage f.history
            b.own.tried;
        took = b.own.took;
        locked = b.own.locked;
        low = f.low;
        epoch = λ keeper. (f.keepers keeper).epoch;
        past = λ keeper. (f.keepers keeper).past;
      };
      mine = λ g. refl;
      drew = refl;
      few = omega arith;
      room = omega (arith, h.sums.room);
      now = record { within = now.within; ways = now.ways; drafts = now.drafts; copies = now.copies; blanks = now.blanks; resident = now.resident; leads = now.leads; fills = now.fills; known = now.known; shuts = now.shuts; heads = now.heads; moved = now.moved; sealed = now.sealed; inners = now.inners; new_leaves = now.new_leaves; new_inners = now.new_inners };
      frame = frame_kept laws l words words' views s id v active b m x.slot one;
      deals = subst (λ (z : List ℕ). Deals l words z s (seat_number v.role) views v w) (sym (unwritten words at))
          (any_meet l words views s id v b k x at is w at (omega arith) (omega arith)
          record { role = refl; ways = refl; took = refl; gone = refl; touched = refl; blamed = refl; locks = refl } refl);
    }
    told

pub sees : Laws → (l : Layout) (slots id : ℕ) (me : Me (Unit {0}) View) (k : Key) (x : Spot) (at : ℕ)
    → IsActive me.0.role → is_trying me.0.seat.stage ≡ false → IsRecordAt me.0 k x at
    → Allows (λ s. Shows l s.words s.views) slots id me at (λ n. n) (λ n now. (now.1 ≡ me.1) × Saw k x at me.0 n now.0)
sees laws l slots id me k x at active resting is =
    allows_at laws l slots id me at (λ n. n) (Saw k x at) active
    (λ words views s b. by_found words views s b (ltb (get_or words at 0) (2 ^ 60)) refl)
  where
    by_found : (words : List ℕ) (views : List View) (s : Shared) → Begins l words views s id me.0
        → (c : Bool) → ltb (get_or words at 0) (2 ^ 60) ≡ c
        → Stride l words views s (seat_number me.0.role) me.0 at (λ n. n) (Saw k x at)
    by_found words views s b true below =
        let v = me.0 in
        let m = s.story in
        let h = b.sound in
        let f = b.fits in
        let n : ℕ = get_or words at 0 in
        let shows : ShowsRecord words at (place_of m.places x) = shown l words views s id v b k x at is in
        let q = place_of m.places x in
        let free : q.holder ≡ Free =
        free_below (number_word q.content.number) q.holder
        (subst (λ i. i < 2 ^ 60) shows.word (grind (arith, nat_tests))) in
        let at-home = home l words views s id v b k x at is (free_alive q.holder free) in
        let array = array_is l words views s id v b k x at is in
        let found : number_word q.content.number ≡ n =
        let word = shows.word in let none : lock_field q.holder ≡ 0 = ap lock_field free in omega arith in
        let w : View = saw m.history m.decided k x q.content at n v in
        let told : SawFree k x at v n w = record {
          content = q.content;
          history = m.history;
          decided = m.decided;
          drawn = f.history;
          seen = f.decided;
          small = shows.small;
          number = found;
          never = shows.never;
          last = subst (λ (y : Layout). q.content ≡ last_write y.opening m.history m.decided k) (sym b.own.layout)
              (free_last l words views s k x h array at-home free);
          whole = h.joint.commits.story.ordered_numbers.decided_drawn;
          is = refl;
        } in
        sees_free laws l words views s id v active b k x at (inl is) resting free
        (inr (free_version l words views s k x h array at-home free)) (Saw k x at)
        (subst (λ c. MatchBool c (SawFree k x at v n w) (w ≡ read_at at n v)) (sym below) told)
    by_found words views s b false above =
        let v = me.0 in
        let n : ℕ = get_or words at 0 in
        let w : View = read_at at n v in
        let now = pages_same l words views s id v active b in
        look_stride l words views s id v active b at (λ n. n) w (Saw k x at) refl
        record { layout = refl; role = refl; made = refl; past = refl; parked = refl; epoch = refl; mine = refl; draws = refl; due = refl; seat = refl; checked = refl; took = refl; loaded = refl; met = refl; heard = refl; history = refl; decided = refl; versions = refl }
        refl
        record { within = now.within; ways = now.ways; drafts = now.drafts; copies = now.copies; blanks = now.blanks; resident = now.resident; leads = now.leads; fills = now.fills; known = now.known; shuts = now.shuts; heads = now.heads; moved = now.moved; sealed = now.sealed; inners = now.inners; new_leaves = now.new_leaves; new_inners = now.new_inners }
        (meet_deals l words views s id v b k x at is w at (omega arith) (omega arith)
        record { role = refl; ways = refl; took = refl; gone = refl; touched = refl; blamed = refl; locks = refl } refl)
        (subst (λ c. MatchBool c (SawFree k x at v n w) (w ≡ read_at at n v)) (sym above) refl)
