-- A record is locked by a compare_exchange of its word.
use Rattle.std.proofs.Common.{◌≡◌, inl, inr, ℕ, ◌+◌, ◌<◌, Bool, true, false, true≢false, eqb, eq-eqb, List}
use Rattle.std.proofs.Common.{get_or, set, refl, sym, ap, ◌∙◌, subst, arith, Some}
use Rattle.std.specs.Prelude.{MatchBool}
use Rattle.std.proofs.lemmas.Bool.{and_from}
use Rattle.std.proofs.lemmas.Bool.Decides.{nat_tests}
use prog.Atomic.{either}
use Rattle.atomic_table.specs.Table.{Me, Allows}
use Rattle.lists.specs.Elements.{any_push_cases, in_push_cases, in_push_new, in_push_old}
use Rattle.serial_model.specs.declared.key.Key.{Key}
use Rattle.homes.specs.declared.places.Holder.{Holder}
use Rattle.homes.specs.declared.places.Holder.TheVariants.{Free, Held, Dead}
use Rattle.homes.specs.declared.places.Spot.{Spot}
use Rattle.homes.specs.Homes.{same_key}
use Rattle.homes.specs.Laws.{same_key-true}
use Rattle.wire_form.specs.Words.{number_word}
use Rattle.commit_core.specs.declared.event.Act.TheVariants.{Lock}
use Rattle.commit_core.specs.declared.place.Place.{Place}
use Rattle.commit_core.specs.declared.story.Story.{Story}
use Rattle.commit_core.specs.CoreState.{can_begin}
use Rattle.commit_core.specs.Event.{locked as locked_places}
use Rattle.commit_core.specs.Lemmas.Places.{place_of-placed_same}
use Rattle.commit_core.specs.Places.{place, place_of, placed, spot_at, spot_of, is_free_at, is_free, holder_is}
use Rattle.commit_core.specs.declared.seat.Seat.{Seat}
use Rattle.commit_core.specs.CoreState.{last_marked}
use Rattle.engine_pages.specs.declared.layout.Layout.{Layout}
use Rattle.engine_pages.specs.declared.view.Took.{Took}
use Rattle.engine_pages.specs.declared.view.View.{View}
use Rattle.engine_pages.specs.Rule.{Shared, IsBitAt, IsHeld, Shows}
use Rattle.engine_pages.specs.Views.{IsActive, seat_number}
use Rattle.engine_pages.specs.Words.{lock_field}
use Rattle.engine_pages.proofs.Joint.{Laws}
use Rattle.engine_pages.proofs.Looks.{look_stride}
use Rattle.engine_pages.proofs.OwnView.{own_fits}
use Rattle.engine_pages.proofs.Turns.{Stride, Begins, allows_at, marks_stay, tried_goes, written}
use Rattle.page_records.specs.Locks.{IsOpenWord, lock_bit, took_at, locked, Locked}
use Rattle.page_records.specs.Reads.{read_at}
use Rattle.engine_pages.specs.Records.{IsAnyRecordAt}
use Rattle.engine_pages.proofs.CommitSteps.{commit_stride}
use Rattle.page_records.proofs.Commits.{pages_kept, frame_kept}
use Rattle.page_records.proofs.Contents.{small_word}
use Rattle.page_records.proofs.AnyRecord.{Stands, any_leaf, any_shows, any_stands, bit_free, bit_one, free_word}
use Rattle.page_records.proofs.Looks.{pages_same}
use Rattle.page_records.proofs.Placing.{Restored, low_replaced, held_other}
use Rattle.page_records.proofs.Seeing.{free_alive}
use Rattle.page_records.proofs.TreeTouching.{any_lock, any_meet}

-- nobody holds what is free
free_not_held : (p : ℕ) (h : Holder) → h ≡ Free → holder_is p h ≡ true → ⊥
free_not_held p h free held = true≢false (sym held ∙ ap (holder_is p) free)

pub locks : Laws → (l : Layout) (slots id : ℕ) (me : Me (Unit {0}) View) (k : Key) (x : Spot) (at expected : ℕ)
    → IsActive me.0.role → can_begin me.0.seat.stage ≡ true → IsAnyRecordAt me.0 k x at → IsOpenWord expected
    → Allows (λ s. Shows l s.words s.views) slots id me at (λ n. either (eqb n expected) (expected + lock_bit) n)
    (λ n now. (now.1 ≡ me.1) × Locked k x at expected me.0 n now.0)
locks laws l slots id me k x at expected active idle is open-word =
    allows_at laws l slots id me at (λ n. either (eqb n expected) (expected + lock_bit) n) (Locked k x at expected)
    active (λ words views s b. by_found words views s b (eqb (get_or words at 0) expected) refl)
  where
    by_found : (words : List ℕ) (views : List View) (s : Shared) → Begins l words views s id me.0
        → (c : Bool) → eqb (get_or words at 0) expected ≡ c
        → Stride l words views s (seat_number me.0.role) me.0 at (λ n. either (eqb n expected) (expected + lock_bit) n)
        (Locked k x at expected)
    by_found words views s b true e =
        let v = me.0 in
        let p = seat_number v.role in
        let m = s.story in
        let h = b.sound in
        let fv = b.fits in
        let own = b.own in
        let n : ℕ = get_or words at 0 in
        let is_expected : n ≡ expected = grind (arith, nat_tests) in
        let r : Stands l words s v k x at = any_stands l words views s id v b k x at is in
        let q = place_of m.places x in
        let one-bit = bit_one l.decls m k q r.absent r.bit in
        let free : q.holder ≡ Free =
        free_word (number_word q.content.number) r.absent q.holder (small_word q.content.number r.small) one-bit
        (subst IsOpenWord (sym is_expected ∙ r.word) open-word) in
        let found : number_word q.content.number + r.absent ≡ n =
        let word = r.word in let none : lock_field q.holder ≡ 0 = ap lock_field free in omega arith in
        let alive : q.holder ≡ Dead → ⊥ = free_alive q.holder free in
        let at-home = r.home alive in
        let spot-is : spot_at m.homes k ≡ Some x = ap spot_of at-home in
        let q' : Place = place q.content (Held p) in
        let next : Story = record m { places = placed m.places x q' } in
        let f : ℕ → ℕ = λ n. either (eqb n expected) (expected + lock_bit) n in
        let y : ℕ = f n in
        let y-is : y ≡ n + lock_bit =
        ap (λ b. either b (expected + lock_bit) n) e ∙ ap (λ z. z + lock_bit) (sym is_expected) in
        let wr = written words at y (let long = h.shown.long in let within = r.within in omega arith) in
        let w = locked k x at n v in
        let words' = set words at y in
        let new : Restored l words words' m k x at q' = record {
          alive = alive;
          long = wr.long;
          others = λ j other _. wr.others j other;
          absent = r.absent;
          word = let here = wr.here in omega (arith, y-is, found);
          bit = inl (bit_free l.decls m k q r.absent free r.bit);
          value = wr.others (at + 1) (λ e. absurd (omega arith)) ∙ r.value;
          never = r.never;
          small = r.small;
        } in
        let one = any_leaf l words views s id v b k x at words' q' new is in
        let now = pages_kept laws l words words' views s id v active b next x.slot one in
        commit_stride laws l words views s id v active b at f (Lock k) next w (Locked k x at expected) record {
          lets = refl;
          allowed = and_from (can_begin v.seat.stage) (is_free_at m.places (spot_at m.homes k)) idle
              (ap (is_free_at m.places) spot-is ∙ ap is_free free);
          story-is = ap (λ o. let z : Story = record m { places = locked_places p m.places o } in z) spot-is;
          seat-is = refl;
          grip = refl;
          role = refl;
          made = refl;
          small = record { first = h.small.first; drawn = h.small.drawn; clock = h.small.clock };
          valued = h.valued;
          shown = any_shows l words views s id v b k x at words' q' new is;
          marks = marks_stay words words' s.seats p v.seat w.seat h.marks own.seat refl
              (λ j lo hi. wr.others j (λ e. let a = r.behind in absurd (omega arith)));
          marked = λ place mark has. has;
          marks_low = subst (λ (z : Seat). last_marked z.marks < m.epoch) (sym own.seat) (h.marked p);
          drawn = λ a has. inl has;
          tried = tried_goes m next s.seats p v.seat w.seat own.seat refl refl refl (inl refl) h.tried;
          fits = own_fits l m next s.seats v w active fv fv.part refl refl refl refl refl (λ place mark has. has) record {
            history = fv.history;
            decided = fv.decided;
            heard = fv.heard;
            mine = fv.mine;
            mine_own = fv.mine_own;
            records = fv.records;
            kept = low_replaced m.places x q' v.seat.kept alive (inl refl) fv.kept;
            versions = fv.versions;
            loaded = tt;
            tried = own.tried;
            took = λ t has. elim (in_push_cases t (took_at k x n) v.took has) [
              | inl old ↦
                  let held = own.took t old in (
                    held.0,
                    held_other l.decls m p x held.0 q' t
                        (λ e. free_not_held p q.holder free
                        (subst (λ z. holder_is p (place_of m.places z).holder ≡ true) (sym e) held.1.own))
                        held.1,
                  )
              | inr new ↦
                  subst (λ (t : Took). (z : Spot) × IsHeld l.decls next p t z) new (
                    x,
                    let here = place_of-placed_same m.places x q' alive in record {
                      spot = refl;
                      home = at-home;
                      own = subst (λ (z : Place). holder_is p z.holder ≡ true) (sym here) (eq-eqb p p refl);
                      absent = r.absent;
                      number = ap (λ (z : Place). number_word z.content.number + r.absent) here ∙ found;
                      bit = subst (λ (z : Place). IsBitAt l.decls m k z r.absent) (sym here)
                          (inl (bit_free l.decls m k q r.absent free r.bit));
                    },
                  )
            ];
            locked = λ j has. elim (any_push_cases (λ (z : Key). same_key z j) v.seat.locks k has) [
              | inl old ↦
                  let t = own.locked j old in (t.0, in_push_old t.0 (took_at k x n) v.took t.1, t.2)
              | inr new ↦ (took_at k x n, in_push_new (took_at k x n) v.took, same_key-true k j new)
            ];
            low = fv.low;
            epoch = λ keeper. (fv.keepers keeper).epoch;
            past = λ keeper. let was = (fv.keepers keeper).past in record { clock = was.clock; tried = was.tried };
          };
          mine = λ g. refl;
          drew = refl;
          few = omega arith;
          room = omega (arith, h.sums.room);
          now = record { within = now.within; ways = now.ways; drafts = now.drafts; copies = now.copies; blanks = now.blanks; resident = now.resident; leads = now.leads; fills = now.fills; known = now.known; shuts = now.shuts; heads = now.heads; moved = now.moved; sealed = now.sealed; inners = now.inners; new_leaves = now.new_leaves; new_inners = now.new_inners };
          frame = frame_kept laws l words words' views s id v active b next x.slot one;
          deals = any_lock l words views s id v b k x at is n words' record {
            long = wr.long;
            here = wr.here ∙ y-is;
            others = wr.others;
          };
        }
        (subst (λ b. MatchBool b (w ≡ locked k x at n v) (w ≡ read_at at n v)) (sym e) refl)
    by_found words views s b false e =
        let v = me.0 in
        let n : ℕ = get_or words at 0 in
        let w : View = read_at at n v in
        let now = pages_same l words views s id v active b in
        look_stride l words views s id v active b at (λ n. either (eqb n expected) (expected + lock_bit) n) w (Locked k x at expected)
        (ap (λ b. either b (expected + lock_bit) n) e)
        record { layout = refl; role = refl; made = refl; past = refl; parked = refl; epoch = refl; mine = refl; draws = refl; due = refl; seat = refl; checked = refl; took = refl; loaded = refl; met = refl; heard = refl; history = refl; decided = refl; versions = refl }
        refl
        record { within = now.within; ways = now.ways; drafts = now.drafts; copies = now.copies; blanks = now.blanks; resident = now.resident; leads = now.leads; fills = now.fills; known = now.known; shuts = now.shuts; heads = now.heads; moved = now.moved; sealed = now.sealed; inners = now.inners; new_leaves = now.new_leaves; new_inners = now.new_inners }
        (any_meet l words views s id v b k x at is w at (omega arith) (omega arith)
        record { role = refl; ways = refl; took = refl; gone = refl; touched = refl; blamed = refl; locks = refl } refl)
        (subst (λ b. MatchBool b (w ≡ locked k x at n v) (w ≡ read_at at n v)) (sym e) refl)
