-- A lock is opened by a store of its record's word: with the word that it found, or with the number of the attempt that
-- counts.
use Rattle.std.proofs.Common.{◌≡◌, inl, inr, ℕ, ◌+◌, ◌<◌, true, false, true≢false, not, cond, List}
use Rattle.std.proofs.Common.{set, refl, sym, ap, ◌∙◌, subst, arith, Option, Some, None}
use Rattle.std.specs.Prelude.{◌&&◌, filter}
use Rattle.std.specs.List.{Contains, slice_get}
use Rattle.std.specs.Option.{option_map_or}
use Rattle.std.proofs.lemmas.Bool.{and_from, false_from_ne_true, not_from_false}
use Rattle.atomic_table.specs.Table.{Me, Allows}
use Rattle.lists.specs.Elements.{at_in, in_filtered}
use Rattle.serial_model.specs.declared.decl.Decl.{Decl}
use Rattle.serial_model.specs.declared.key.Key.{Key}
use Rattle.homes.specs.declared.places.Holder.{Holder}
use Rattle.homes.specs.declared.places.Holder.TheVariants.{Free, Dead}
use Rattle.homes.specs.declared.places.Spot.{Spot}
use Rattle.homes.specs.Laws.{same_key-true}
use Rattle.wire_form.specs.Words.{number_word}
use Rattle.commit_core.specs.declared.attempt.Attempt.{Attempt}
use Rattle.commit_core.specs.declared.event.Act.TheVariants.{Open}
use Rattle.commit_core.specs.declared.place.Place.{Place}
use Rattle.commit_core.specs.declared.seat.Mark.{Mark}
use Rattle.commit_core.specs.declared.seat.Seat.{Seat}
use Rattle.commit_core.specs.declared.seat.Stage.{Stage}
use Rattle.commit_core.specs.declared.seat.Stage.TheVariants.{Idle, Trying, Ended, Decided}
use Rattle.commit_core.specs.declared.story.Story.{Story}
use Rattle.commit_core.specs.CoreState.{can_begin, is_trying, attempt_decided}
use Rattle.commit_core.specs.Event.{opened as opened_places}
use Rattle.commit_core.specs.Keys.{same_key, has_key, content_of, opening_number, IsUpTo}
use Rattle.commit_core.specs.CoreState.{last_marked}
use Rattle.homes.specs.declared.places.Home.TheVariants.{InSlot}
use Rattle.commit_core.specs.Places.{place, place_of, home_of, placed, spot_at, spot_of, is_held_at, holder_is}
use Rattle.engine_pages.specs.declared.layout.Layout.{Layout}
use Rattle.engine_pages.specs.declared.view.Took.{Took}
use Rattle.engine_pages.specs.declared.view.View.{View}
use Rattle.engine_pages.specs.Pages.{is_array}
use Rattle.engine_pages.specs.Rule.{Shared, KeptAreRecords, KeptIsLow, IsHeld, Shows, absence}
use Rattle.engine_pages.specs.Views.{IsActive, seat_number, tries}
use Rattle.engine_pages.specs.Words.{IsSmall}
use Rattle.engine_pages.proofs.Joint.{Laws, seat_sound}
use Rattle.engine_pages.proofs.OwnView.{own_fits, part_goes}
use Rattle.engine_pages.proofs.Seats.{at_front, records_none}
use Rattle.engine_pages.proofs.Turns.{Begins, allows_at, marks_stay, tried_goes, written}
use Rattle.page_records.specs.Locks.{array_absence, took_at, opened, CanOpenAgain, CanOpenAnew}
use Rattle.engine_pages.specs.Records.{IsAnyRecordAt}
use Rattle.engine_pages.proofs.CommitSteps.{commit_stride}
use Rattle.page_records.proofs.Commits.{pages_kept, frame_kept}
use Rattle.page_records.proofs.Contents.{small_word, stands_there, value_written as no_absence}
use Rattle.page_records.proofs.AnyRecord.{Stands, any_leaf, any_shows, any_stands}
use Rattle.page_records.proofs.Placing.{Restored, low_replaced, low_none, held_other, not_at_other}
use Rattle.page_records.proofs.Settling.{settled_trying, settled_idle, settled_tried, settled_marks, settled_kept, settled_locks}
use Rattle.page_records.proofs.Touching.{other_lock}
use Rattle.page_records.proofs.TreeTouching.{any_open}
use Rattle.page_records.proofs.Undecided.{begins_undecided, exact_bit, over_here, value_put}

pub held_alive : (p : ℕ) (h : Holder) → holder_is p h ≡ true → h ≡ Dead → ⊥
held_alive p h held dead = true≢false (sym held ∙ ap (holder_is p) dead)

-- where a record that the pass locked stands
pub taken_at : (l : Layout) (words : List ℕ) (views : List View) (s : Shared) (id : ℕ) (v : View) (k : Key) (x : Spot) (n : ℕ)
    → Begins l words views s id v → Contains v.took (took_at k x n) → IsHeld l.decls s.story (seat_number v.role) (took_at k x n) x
taken_at l words views s id v k x n b has =
    let t = b.own.took (took_at k x n) has in
    subst (IsHeld l.decls s.story (seat_number v.role) (took_at k x n)) (sym t.1.spot) t.1

pub taken_home : (l : Layout) (words : List ℕ) (views : List View) (s : Shared) (id : ℕ) (v : View) (k : Key) (x : Spot) (n : ℕ)
    → Begins l words views s id v → Contains v.took (took_at k x n) → home_of s.story.homes k ≡ InSlot x
taken_home l words views s id v k x n b has = (taken_at l words views s id v k x n b has).home

pub taken_held : (l : Layout) (words : List ℕ) (views : List View) (s : Shared) (id : ℕ) (v : View) (k : Key) (x : Spot) (n : ℕ)
    → Begins l words views s id v → Contains v.took (took_at k x n)
    → holder_is (seat_number v.role) (place_of s.story.places x).holder ≡ true
taken_held l words views s id v k x n b has = (taken_at l words views s id v k x n b has).own

-- The word that is stored is that of the number which the machine gives the place, its own or that of the attempt which
-- counts, and of the value that stands there.
record Numbered (decls : List Decl) (s : Shared) (v : View) (k : Key) (q : Place) (n : ℕ) : Type 0 where
  o : Option Attempt
  is : attempt_decided s.story.history v.seat.stage ≡ o
  put : option_map_or (λ _. has_key v.seat.put k) o true ≡ true
  word : number_word (option_map_or (λ b. b.number) o q.content.number) + absence decls k q.content.value ≡ n
  small : IsSmall (option_map_or (λ b. b.number) o q.content.number)
  rise : IsUpTo q.content.number (option_map_or (λ b. b.number) o q.content.number)
  never : is_array decls k.storage ≡ true → q.content.value ≡ None
      → option_map_or (λ b. b.number) o q.content.number ≡ opening_number

opens_to : Laws → (l : Layout) (slots id : ℕ) (me : Me (Unit {0}) View) (k : Key) (x : Spot)
    (at n found : ℕ) → IsActive me.0.role → IsAnyRecordAt me.0 k x at → is_trying me.0.seat.stage ≡ false
    → Contains me.0.took (took_at k x found)
    → ((words : List ℕ) (views : List View) (s : Shared) → Begins l words views s id me.0
    → Stands l words s me.0 k x at → holder_is (seat_number me.0.role) (place_of s.story.places x).holder ≡ true
    → Numbered l.decls s me.0 k (place_of s.story.places x) n)
    → Allows (λ s. Shows l s.words s.views) slots id me at (λ _. n)
    (λ _ now. (now.1 ≡ me.1) × (now.0 ≡ opened k at n me.0))
opens_to laws l slots id me k x at n found active is resting took gives =
    allows_at laws l slots id me at (λ _. n) (λ v _ w. w ≡ opened k at n v) active (λ words views s b.
    let v = me.0 in
    let p = seat_number v.role in
    let m = s.story in
    let h = b.sound in
    let f = b.fits in
    let own = b.own in
    let r : Stands l words s v k x at = any_stands l words views s id v b k x at is in
    let q = place_of m.places x in
    let at-home = taken_home l words views s id v k x found b took in
    let spot-is : spot_at m.homes k ≡ Some x = ap spot_of at-home in
    let held : holder_is p q.holder ≡ true = taken_held l words views s id v k x found b took in
    let alive : q.holder ≡ Dead → ⊥ = held_alive p q.holder held in
    let g = gives words views s b r held in
    let q' : Place = place (content_of (option_map_or (λ b. b.number) g.o q.content.number) q.content.value) Free in
    let next : Story = record m { places = placed m.places x q' } in
    let s' : Seat = record v.seat { locks = filter (λ y. not (same_key y k)) v.seat.locks } in
    let w = opened k at n v in
    let same : tries w ≡ tries v = ap (λ b. cond b 1 0) (settled_trying s') in
    let wr = written words at n (let long = h.shown.long in let within = r.within in omega arith) in
    let words' = set words at n in
    let new : Restored l words words' m k x at q' = record {
      alive = alive;
      long = wr.long;
      others = λ j other _. wr.others j other;
      absent = absence l.decls k q.content.value;
      word = let word = g.word in let here = wr.here in omega arith;
      bit = inl refl;
      value = wr.others (at + 1) (λ e. absurd (omega arith)) ∙ r.value;
      never = g.never;
      small = g.small;
    } in
    let one = any_leaf l words views s id v b k x at words' q' new is in
    let now = pages_kept laws l words words' views s id v active b next x.slot one in
    commit_stride laws l words views s id v active b at (λ _. n) (Open k) next w (λ v _ w. w ≡ opened k at n v) record {
      lets = refl;
      allowed = and_from (not (is_trying v.seat.stage))
          (is_held_at p m.places (spot_at m.homes k)
          && option_map_or (λ _. has_key v.seat.put k) (attempt_decided m.history v.seat.stage) true)
          (ap not resting)
          (and_from (is_held_at p m.places (spot_at m.homes k))
          (option_map_or (λ _. has_key v.seat.put k) (attempt_decided m.history v.seat.stage) true)
          (ap (is_held_at p m.places) spot-is ∙ held)
          (ap (λ o. option_map_or (λ _. has_key v.seat.put k) o true) g.is ∙ g.put));
      story-is = ap (λ o. let z : Story = record m { places = opened_places o m.places (spot_at m.homes k) } in z) g.is
          ∙ ap (λ o. let z : Story = record m { places = opened_places g.o m.places o } in z) spot-is;
      seat-is = refl;
      grip = refl;
      role = refl;
      made = refl;
      small = record { first = h.small.first; drawn = h.small.drawn; clock = h.small.clock };
      valued = h.valued;
      shown = any_shows l words views s id v b k x at words' q' new is;
      marks = marks_stay words words' s.seats p v.seat w.seat h.marks own.seat (settled_marks s')
          (λ j lo hi. wr.others j (λ e. let a = r.behind in absurd (omega arith)));
      marked = λ place mark has. subst (λ (y : List Mark). slice_get y place ≡ Some mark) (sym (settled_marks s')) has;
      marks_low = subst (λ (y : List Mark). last_marked y < m.epoch) (sym (settled_marks s'))
          (subst (λ (z : Seat). last_marked z.marks < m.epoch) (sym own.seat) (h.marked p));
      drawn = λ a has. inl has;
      tried = tried_goes m next s.seats p v.seat w.seat own.seat refl refl refl (inr resting) h.tried;
      fits = own_fits l m next s.seats v w active f
          (part_goes v.role active v.made v.due v.due v.seat.stage w.seat.stage v.mine v.mine (λ e. e)
          (λ _ e. settled_idle s' e) f.part)
          refl refl refl refl refl
          (λ place mark has. subst (λ (y : List Mark). slice_get y place ≡ Some mark) (sym (settled_marks s')) has) record {
            history = f.history;
            decided = f.decided;
            heard = f.heard;
            mine = f.mine;
            mine_own = f.mine_own;
            records = settled_kept (KeptAreRecords l.decls l.opening m.history) s' f.records (records_none l.decls l.opening m.history);
            kept = settled_kept (KeptIsLow next.places) s' (low_replaced m.places x q' v.seat.kept alive g.rise f.kept)
                (low_none next.places);
            versions = f.versions;
            loaded = tt;
            tried = settled_tried p v.history m.checks v.checked v.mine s' own.tried;
            took = λ t has.
                let old = not_at_other k v.took t has in
                let held-t = own.took t old.0 in (
                  held-t.0,
                  held_other l.decls m p x held-t.0 q' t
                      (λ e. old.1 (h.joint.commits.story.homes_apart t.key k x (ap spot_of held-t.1.home ∙ ap Some (sym e)) spot-is))
                      held-t.1,
                );
            locked = λ j has.
                let old = other_lock k j v.seat.locks
                (subst (λ (z : List Key). has_key z j ≡ true) (settled_locks s') has) in
                let t = own.locked j old.0 in (
                  t.0,
                  in_filtered (λ (y : Took). not (same_key y.key k)) t.0 v.took t.1
                      (not_from_false (same_key (t.0).key k) (false_from_ne_true (same_key (t.0).key k)
                      (λ hit. old.1 (sym t.2 ∙ same_key-true (t.0).key k hit)))),
                  t.2,
                );
            low = f.low;
            epoch = λ keeper. (f.keepers keeper).epoch;
            past = λ keeper. let was = (f.keepers keeper).past in record { clock = was.clock; tried = was.tried };
          };
      mine = λ g. refl;
      drew = refl;
      few = omega arith;
      room = omega (arith, h.sums.room);
      now = record { within = now.within; ways = now.ways; drafts = now.drafts; copies = now.copies; blanks = now.blanks; resident = now.resident; leads = now.leads; fills = now.fills; known = now.known; shuts = now.shuts; heads = now.heads; moved = now.moved; sealed = now.sealed; inners = now.inners; new_leaves = now.new_leaves; new_inners = now.new_inners };
      frame = frame_kept laws l words words' views s id v active b next x.slot one;
      deals = any_open l words views s id v b k x at is n found words' wr
          (λ array.
          let small = small_word (option_map_or (λ b. b.number) g.o q.content.number) g.small in
          let none = array_absence l.decls k q.content.value array in
          let word = g.word in omega arith) took
          (subst (λ (z : Seat). has_key z.locks k ≡ true) (sym own.seat)
          ((seat_sound l s p b.few h.joint).lock_owners.listed k
          (ap (λ (z : Place). holder_is p z.holder) (stands_there s k x at-home) ∙ held)))
          held;
    }
    refl)

none_decided : (history : List Attempt) (stage : Stage) → can_begin stage ≡ true → attempt_decided history stage ≡ None
none_decided history Idle e = refl
none_decided history (Trying i) e = refl
none_decided history Ended e = refl
none_decided history (Decided i) e = absurd (true≢false (sym e))

pub not_trying : (stage : Stage) → can_begin stage ≡ true → is_trying stage ≡ false
not_trying Idle e = refl
not_trying (Trying i) e = absurd (true≢false (sym e))
not_trying Ended e = refl
not_trying (Decided i) e = absurd (true≢false (sym e))

-- with the word that the lock found, where no attempt is decided
pub opens_again : Laws → (l : Layout) (slots id : ℕ) (me : Me (Unit {0}) View) (k : Key) (x : Spot)
    (at n : ℕ) → IsActive me.0.role → IsAnyRecordAt me.0 k x at → CanOpenAgain me.0 k x n
    → Allows (λ s. Shows l s.words s.views) slots id me at (λ _. n)
    (λ _ now. (now.1 ≡ me.1) × (now.0 ≡ opened k at n me.0))
opens_again laws l slots id me k x at n active is can =
    opens_to laws l slots id me k x at n n active is (not_trying me.0.seat.stage can.idle) can.took
    (λ words views s b r held.
    let t = taken_at l words views s id me.0 k x n b can.took in
    let exact = exact_bit l words views s id me.0 b k x t.home held (begins_undecided me.0.seat.stage can.idle) t.absent
    t.bit in record {
      o = None;
      is = none_decided s.story.history me.0.seat.stage can.idle;
      put = refl;
      word = let word = t.number in omega arith;
      small = r.small;
      rise = inl refl;
      never = r.never;
    })

-- with the number of the attempt that counts, whose value is put
pub opens_anew : Laws → (l : Layout) (slots id : ℕ) (me : Me (Unit {0}) View) (k : Key) (x : Spot)
    (at n : ℕ) → IsActive me.0.role → IsAnyRecordAt me.0 k x at → CanOpenAnew me.0 k x n
    → Allows (λ s. Shows l s.words s.views) slots id me at (λ _. n)
    (λ _ now. (now.1 ≡ me.1) × (now.0 ≡ opened k at n me.0))
opens_anew laws l slots id me k x at n active is can =
    opens_to laws l slots id me k x at n can.found active is (ap is_trying can.stage) can.took
    (λ words views s b r held.
    let m = s.story in
    let h = b.sound in
    let q = place_of m.places x in
    let a = can.attempt in
    let home = taken_home l words views s id me.0 k x can.found b can.took in
    let here : slice_get m.history can.index ≡ Some a = at_front me.0.history m.history can.index a b.fits.history can.at in
    let over = over_here l words views s id me.0 b k x home held can.index a can.value can.stage can.at can.writes in
    let value = value_put l words views s id me.0 b k x home held can.index a can.value can.stage can.at can.writes can.put in
    let number : n ≡ number_word a.number + absence l.decls k can.value =
    subst (λ (y : Layout). n ≡ number_word a.number + absence y.decls k can.value) b.own.layout can.number in record {
      o = Some a;
      is = ap (attempt_decided m.history) can.stage ∙ here;
      put = can.put;
      word = ap (λ o. number_word a.number + absence l.decls k o) value ∙ sym number;
      small = h.small.drawn a (at_in m.history can.index a here);
      rise = inr over.above;
      never = λ array none.
          absurd (no_absence l.decls m.history k a can.value array h.valued (at_in m.history can.index a here) can.writes
          (sym value ∙ none));
    })
