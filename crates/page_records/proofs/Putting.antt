-- A value is put by a store: its record keeps its number and its lock.
use Rattle.std.proofs.Common.{◌≡◌, inl, ℕ, ◌+◌, ◌<◌, true, false, set, refl}
use Rattle.std.proofs.Common.{sym, ap, ◌∙◌, subst, arith, Option, Some, None}
use Rattle.std.specs.Prelude.{is_some, unwrap_or}
use Rattle.std.specs.Option.{option_map_or}
use Rattle.std.proofs.lemmas.Bool.{and_from}
use Rattle.lists.specs.Elements.{at_in}
use Rattle.atomic_table.specs.Table.{Me, Allows}
use Rattle.serial_model.specs.declared.key.Key.{Key}
use Rattle.homes.specs.declared.places.Holder.TheVariants.{Dead}
use Rattle.homes.specs.declared.places.Spot.{Spot}
use Rattle.commit_core.specs.declared.attempt.Attempt.{Attempt}
use Rattle.commit_core.specs.declared.event.Act.TheVariants.{Put}
use Rattle.commit_core.specs.declared.place.Place.{Place}
use Rattle.commit_core.specs.declared.story.Story.{Story}
use Rattle.commit_core.specs.CoreState.{attempt_decided}
use Rattle.commit_core.specs.Event.{valued as valued_places, value_to_put}
use Rattle.commit_core.specs.Keys.{content_of, writes_key}
use Rattle.commit_core.specs.declared.seat.Seat.{Seat}
use Rattle.commit_core.specs.CoreState.{last_marked}
use Rattle.commit_core.specs.Places.{place, place_of, placed, spot_at, spot_of, is_held_at, holder_is}
use Rattle.engine_pages.specs.declared.layout.Layout.{Layout}
use Rattle.engine_pages.specs.declared.view.View.{View}
use Rattle.engine_pages.specs.Rule.{IsBitAt, Shows}
use Rattle.engine_pages.specs.Views.{IsActive, seat_number}
use Rattle.engine_pages.proofs.Joint.{Laws}
use Rattle.engine_pages.proofs.OwnView.{own_fits}
use Rattle.engine_pages.proofs.Seats.{at_front}
use Rattle.engine_pages.proofs.Turns.{allows_at, marks_stay, tried_goes, written}
use Rattle.page_records.specs.Locks.{put_at, CanPut}
use Rattle.engine_pages.specs.Records.{IsAnyRecordAt}
use Rattle.engine_pages.proofs.CommitSteps.{commit_stride}
use Rattle.page_records.proofs.Commits.{pages_kept, frame_kept}
use Rattle.page_records.proofs.AnyRecord.{Stands, any_leaf, any_shows, any_stands}
use Rattle.page_records.proofs.Contents.{value_written}
use Rattle.page_records.proofs.Opening.{held_alive, taken_home, taken_held}
use Rattle.page_records.proofs.Placing.{Restored, low_replaced, held_same}
use Rattle.page_records.proofs.TreeTouching.{any_put}
use Rattle.page_records.proofs.Undecided.{put_bit}

pub puts : Laws → (l : Layout) (slots id : ℕ) (me : Me (Unit {0}) View) (k : Key) (x : Spot)
    (at value : ℕ) → IsActive me.0.role → IsAnyRecordAt me.0 k x at → CanPut me.0 k x value
    → Allows (λ s. Shows l s.words s.views) slots id me (at + 1) (λ _. value)
    (λ _ now. (now.1 ≡ me.1) × (now.0 ≡ put_at k (at + 1) value me.0))
puts laws l slots id me k x at value active is can =
    allows_at laws l slots id me (at + 1) (λ _. value) (λ v _ w. w ≡ put_at k (at + 1) value v) active
    (λ words views s b.
    let v = me.0 in
    let p = seat_number v.role in
    let m = s.story in
    let h = b.sound in
    let f = b.fits in
    let own = b.own in
    let a = can.attempt in
    let r : Stands l words s v k x at = any_stands l words views s id v b k x at is in
    let q = place_of m.places x in
    let at-home = taken_home l words views s id v k x can.found b can.took in
    let spot-is : spot_at m.homes k ≡ Some x = ap spot_of at-home in
    let held : holder_is p q.holder ≡ true = taken_held l words views s id v k x can.found b can.took in
    let alive : q.holder ≡ Dead → ⊥ = held_alive p q.holder held in
    let chosen : attempt_decided m.history v.seat.stage ≡ Some a =
    ap (attempt_decided m.history) can.stage ∙ at_front v.history m.history can.index a f.history can.at in
    let q' : Place = place (content_of q.content.number can.value) q.holder in
    let next : Story = record m { places = placed m.places x q' } in
    let w = put_at k (at + 1) value v in
    let wr = written words (at + 1) value (let long = h.shown.long in let within = r.within in omega arith) in
    let words' = set words (at + 1) value in
    let here = at_front v.history m.history can.index a f.history can.at in
    let new : Restored l words words' m k x at q' = record {
      alive = alive;
      long = wr.long;
      others = λ j _ other. wr.others j other;
      absent = r.absent;
      word = wr.others at (λ e. absurd (omega arith)) ∙ r.word;
      bit = put_bit l words views s id v b k x at-home held can.index a can.value can.stage can.at can.writes r.absent r.bit;
      value = wr.here ∙ can.is;
      never = λ array none.
          absurd (value_written l.decls m.history k a can.value array h.valued (at_in m.history can.index a here) can.writes
          none);
      small = r.small;
    } in
    let one = any_leaf l words views s id v b k x at words' q' new is in
    let now = pages_kept laws l words words' views s id v active b next x.slot one in
    commit_stride laws l words views s id v active b (at + 1) (λ _. value) (Put k) next w
    (λ v _ w. w ≡ put_at k (at + 1) value v) record {
      lets = refl;
      allowed = and_from (option_map_or (λ b. writes_key b.writes k) (attempt_decided m.history v.seat.stage) false)
          (is_held_at p m.places (spot_at m.homes k))
          (ap (λ o. option_map_or (λ (b : Attempt). writes_key b.writes k) o false) chosen
          ∙ ap (λ (o : Option (Option ℕ)). is_some o) can.writes)
          (ap (is_held_at p m.places) spot-is ∙ held);
      story-is = ap (λ o. let z : Story = record m { places = valued_places (value_to_put k o) m.places (spot_at m.homes k) } in z) chosen
          ∙ (ap (λ (o : Option (Option ℕ)). let z : Story = record m { places = valued_places (unwrap_or o None) m.places (spot_at m.homes k) } in z)
          can.writes
          ∙ ap (λ o. let z : Story = record m { places = valued_places can.value m.places o } in z) spot-is);
      seat-is = refl;
      grip = refl;
      role = refl;
      made = refl;
      small = record { first = h.small.first; drawn = h.small.drawn; clock = h.small.clock };
      valued = h.valued;
      shown = any_shows l words views s id v b k x at words' q' new is;
      marks = marks_stay words words' s.seats p v.seat w.seat h.marks own.seat refl
          (λ j lo hi. wr.others j (λ e. let a = r.behind in absurd (omega arith)));
      marked = λ place mark has. has;
      marks_low = subst (λ (z : Seat). last_marked z.marks < m.epoch) (sym own.seat) (h.marked p);
      drawn = λ a has. inl has;
      tried = tried_goes m next s.seats p v.seat w.seat own.seat refl refl refl (inl refl) h.tried;
      fits = own_fits l m next s.seats v w active f f.part refl refl refl refl refl (λ place mark has. has) record {
        history = f.history;
        decided = f.decided;
        heard = f.heard;
        mine = f.mine;
        mine_own = f.mine_own;
        records = f.records;
        kept = low_replaced m.places x q' v.seat.kept alive (inl refl) f.kept;
        versions = f.versions;
        loaded = tt;
        tried = own.tried;
        took = λ t has.
            let old = own.took t has in (
              old.0,
              held_same l.decls m p x old.0 q' t alive refl refl
                  (λ absent e bit.
                  let same : t.key ≡ k = h.joint.commits.story.homes_apart t.key k x
                  (ap spot_of old.1.home ∙ ap Some (sym e)) spot-is in
                  subst (λ (z : Key). IsBitAt l.decls m z q' absent) (sym same)
                  (put_bit l words views s id v b k x at-home held can.index a can.value can.stage can.at can.writes absent
                  (subst (λ (z : Key). IsBitAt l.decls m z q absent) same bit)))
                  old.1,
            );
        locked = own.locked;
        low = f.low;
        epoch = λ keeper. (f.keepers keeper).epoch;
        past = λ keeper. let was = (f.keepers keeper).past in record { clock = was.clock; tried = was.tried };
      };
      mine = λ g. refl;
      drew = refl;
      few = omega arith;
      room = omega (arith, h.sums.room);
      now = record { within = now.within; ways = now.ways; drafts = now.drafts; copies = now.copies; blanks = now.blanks; resident = now.resident; leads = now.leads; fills = now.fills; known = now.known; shuts = now.shuts; heads = now.heads; moved = now.moved; sealed = now.sealed; inners = now.inners; new_leaves = now.new_leaves; new_inners = now.new_inners };
      frame = frame_kept laws l words words' views s id v active b next x.slot one;
      deals = any_put l words views s id v b k x at is value words' wr;
    }
    refl)
