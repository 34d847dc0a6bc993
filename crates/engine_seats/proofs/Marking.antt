-- The keeper's advance of the clock, a worker's mark, and loads of marks.
use Rattle.std.proofs.Common.{◌≡◌, inl, inr, ℕ, suc, ◌+◌, ◌%◌, ◌^◌, ◌<◌, ◌≤◌, true, false}
use Rattle.std.proofs.Common.{eqb, eq-eqb, List, [], ◌∷◌, ◌++◌, length, get_or, set, refl, sym, ap, ◌∙◌, subst, arith}
use Rattle.std.proofs.Common.{length-append, Option, Some, None}
use Rattle.std.specs.Prelude.{fold, not, nat_lt, nat_le, unwrap_or}
use Rattle.std.specs.List.{slice_get}
use Rattle.std.proofs.lemmas.Bool.{and_from}
use Rattle.std.proofs.lemmas.Bool.Decides.{nat_tests}
use Rattle.std.proofs.lemmas.List.{append-nil}
use Rattle.atomic_table.specs.Table.{Me, Allows}
use Rattle.lists.specs.Elements.{at_below, at_push_new, at_push_old, in_push_cases}
use Rattle.serial_model.specs.Numbers.{last_epoch}
use Rattle.wire_form.specs.Words.{number_word}
use Rattle.commit_core.specs.declared.event.Act.TheVariants.{Advance, Mark as SetMark}
use Rattle.commit_core.specs.declared.seat.Mark.{Mark}
use Rattle.commit_core.specs.declared.seat.Seat.{Seat}
use Rattle.commit_core.specs.declared.story.Story.{Story}
use Rattle.commit_core.specs.CoreState.{clock_of, is_trying, can_mark, last_marked}
use Rattle.commit_core.specs.Opening.{Grows}
use Rattle.engine_pages.specs.declared.layout.Layout.{Layout}
use Rattle.engine_pages.specs.declared.view.Role.{Role}
use Rattle.engine_pages.specs.declared.view.Role.TheVariants.{Keeper, Worker, Note, Spent}
use Rattle.engine_pages.specs.declared.view.View.{View}
use Rattle.engine_pages.specs.Layout.{mark_at}
use Rattle.engine_pages.specs.Rule.{WasMarked, Shows}
use Rattle.engine_pages.specs.Steps.{glanced}
use Rattle.engine_pages.specs.Views.{IsActive, HasPart, seat_number}
use Rattle.engine_pages.specs.Words.{ShowsMark, IsSmallMark, word_of_mark}
use Rattle.engine_pages.proofs.CommitSteps.{commit_stride}
use Rattle.engine_pages.proofs.Dealing.{rests_all, rests_low}
use Rattle.engine_pages.proofs.FirstWords.{FirstTen, first_kept, first_shown}
use Rattle.engine_pages.proofs.Joint.{Laws}
use Rattle.engine_pages.proofs.Looks.{load_stride, room_same}
use Rattle.engine_pages.proofs.OwnView.{own_fits, own_fits_met}
use Rattle.engine_pages.proofs.PagesStay.{words_same}
use Rattle.engine_pages.proofs.Seats.{by_equal, put_seat, put_same, put_other, is_at, past_stays}
use Rattle.engine_pages.proofs.Turns.{allows_at, marks_stay, tried_goes, written}
use Rattle.engine_seats.specs.Clock.{advanced, marked, CanMark, met_at, HasMet}

keeper_acts : (role : Role) → role ≡ Keeper → IsActive role
keeper_acts Keeper e = tt
keeper_acts (Worker w) e = tt
keeper_acts Note e = absurd (cc)
keeper_acts Spent e = absurd (cc)

worker_acts : (role : Role) (worker : ℕ) → role ≡ Worker worker → IsActive role
worker_acts Keeper worker e = tt
worker_acts (Worker w) worker e = tt
worker_acts Note worker e = absurd (cc)
worker_acts Spent worker e = absurd (cc)

-- ---- the clock

pub advances : Laws → (l : Layout) (slots id : ℕ) (me : Me (Unit {0}) View) → me.0.role ≡ Keeper
    → me.0.epoch < last_epoch
    → Allows (λ s. Shows l s.words s.views) slots id me 0 (λ n. (n + 2 ^ 40) % 2 ^ 64)
    (λ n now. (now.1 ≡ me.1) × (now.0 ≡ advanced me.0))
advances laws l slots id me is few =
    allows_at laws l slots id me 0 (λ n. (n + 2 ^ 40) % 2 ^ 64) (λ v _ w. w ≡ advanced v) (keeper_acts me.0.role is)
    (λ words views s b.
    let v = me.0 in
    let active = keeper_acts v.role is in
    let h = b.sound in
    let f = b.fits in
    let p = seat_number v.role in
    let m = s.story in
    let p-is : p ≡ 0 = ap seat_number is in
    let keeper-is = f.keepers is in
    let same : v.epoch ≡ m.epoch = let low = f.low in let high = keeper-is.epoch in omega arith in
    let next : Story = record m { epoch = m.epoch + 1 } in
    let w = advanced v in
    let y : ℕ = (get_or words 0 0 + 2 ^ 40) % 2 ^ 64 in
    let y-is : y ≡ number_word (clock_of next.first_draw next.epoch next.history) =
    let found = h.shown.clock in let room = h.sums.room in omega arith in
    let wr = written words 0 y (let long = h.shown.long in omega arith) in
    let words' = set words 0 y in
    let grows : Grows m next = record {
      history = ([], append-nil m.history);
      checks = ([], append-nil m.checks);
      decided = ([], append-nil m.decided);
      given_up = ([], append-nil m.given_up);
      first_draw = refl;
      epoch = omega arith;
    } in
    let ten : FirstTen l words words' m next = record {
      long = wr.long;
      others = λ j low. wr.others j (λ e. absurd (omega arith));
      clock = wr.here ∙ y-is;
      decisions = wr.others 1 (λ e. absurd (omega arith)) ∙ h.shown.decisions;
      places = refl;
      history = ([], append-nil m.history);
      decided = ([], append-nil m.decided);
    } in
    let pages = first_kept l words words' views s id v next active b ten in
    commit_stride laws l words views s id v active b 0 (λ n. (n + 2 ^ 40) % 2 ^ 64) Advance next w (λ v _ w. w ≡ advanced v) record {
      lets = refl;
      allowed = and_from (eqb p 0) (nat_lt m.epoch last_epoch) (eq-eqb p 0 p-is) (grind (arith, nat_tests));
      story-is = refl;
      seat-is = refl;
      grip = refl;
      role = refl;
      made = refl;
      small = record {
        first = h.small.first;
        drawn = h.small.drawn;
        clock = record { draw = h.small.clock.draw; epoch = omega arith };
      };
      valued = h.valued;
      shown = first_shown l words words' m next s.table s.trees s.resident ten h.shown;
      marks = marks_stay words words' s.seats p v.seat w.seat h.marks b.own.seat refl
          (λ j lo hi. wr.others j (λ e. absurd (omega arith)));
      marked = λ place mark has. has;
      marks_low =
          let low : last_marked v.seat.marks < m.epoch =
          subst (λ (z : Seat). last_marked z.marks < m.epoch) (sym b.own.seat) (h.marked p) in omega arith;
      drawn = λ a has. inl has;
      tried = tried_goes m next s.seats p v.seat w.seat b.own.seat refl refl refl (inl refl) h.tried;
      fits = own_fits l m next s.seats v w active f f.part refl refl refl refl refl (λ place mark has. has) record {
        history = f.history;
        decided = f.decided;
        heard = λ x has. let was = f.heard x has in let low = was.2 in (was.0, was.1, omega (arith, low));
        mine = f.mine;
        mine_own = f.mine_own;
        records = f.records;
        kept = f.kept;
        versions = f.versions;
        loaded = tt;
        tried = b.own.tried;
        took = λ t has. let held = b.own.took t has in (
          held.0,
          record {
            spot = held.1.spot;
            home = held.1.home;
            own = held.1.own;
            absent = held.1.absent;
            number = held.1.number;
            bit = held.1.bit;
          },
        );
        locked = b.own.locked;
        low = omega arith;
        epoch = λ keeper. omega arith;
        past = λ keeper. past_stays m next v.past grows (λ a has. inl has) (f.keepers keeper).past;
      };
      mine = λ k. refl;
      drew = refl;
      few = omega arith;
      room = omega (arith, h.sums.room);
      deals = rests_low l words views s id v b words' w
          record { role = refl; ways = refl; took = refl; gone = refl; touched = refl; blamed = refl; locks = refl } refl
          (λ j low. wr.others j (λ e. absurd (omega arith)));
      now = record { within = pages.within; ways = pages.ways; drafts = pages.drafts; copies = pages.copies; blanks = pages.blanks; resident = pages.resident; leads = pages.leads; fills = pages.fills; known = pages.known; shuts = pages.shuts; heads = pages.heads; moved = pages.moved; sealed = pages.sealed; inners = pages.inners; new_leaves = pages.new_leaves; new_inners = pages.new_inners };
      frame = words_same l words words' s p (λ j low. wr.others j (λ e. absurd (omega arith)));
    } refl)

-- ---- a mark

can_so : (v : View) (epoch : ℕ) (e : Option ℕ) → v.epoch ≤ epoch → CanMark v e → can_mark epoch v.seat.marks e ≡ true
can_so v epoch None low can = refl
can_so v epoch (Some x) low can =
    and_from (nat_lt x epoch) (nat_le (last_marked v.seat.marks) x) (let less = can.0 in grind (arith, nat_tests))
    (let up = can.1 in grind (arith, nat_tests))

few_worker : (v : View) (worker : ℕ) (role : Role) → role ≡ Worker worker
    → HasPart role v.made v.due v.seat.stage v.mine → worker < 8
few_worker v worker role is part = (subst (λ r. HasPart r v.made v.due v.seat.stage v.mine) is part).0

-- the last epoch that a mark names
pushed : (marks : List Mark) (low : ℕ) (mark : Mark)
    → fold (λ low x. unwrap_or x.epoch low) low (marks ++ mark ∷ [])
    ≡ unwrap_or mark.epoch (fold (λ low x. unwrap_or x.epoch low) low marks)
pushed [] low mark = refl
pushed (x ∷ marks) low mark = pushed marks (unwrap_or x.epoch low) mark

push_below : (epoch : ℕ) (v : View) (e : Option ℕ) → v.epoch ≤ epoch → CanMark v e → last_marked v.seat.marks < epoch
    → unwrap_or e (last_marked v.seat.marks) < epoch
push_below epoch v None low can below = below
push_below epoch v (Some e) low can below = let less = can.0 in omega (arith, less, low)

pub marks_word : Laws → (l : Layout) (slots id : ℕ) (me : Me (Unit {0}) View) (worker n : ℕ) (mark : Mark)
    → me.0.role ≡ Worker worker → is_trying me.0.seat.stage ≡ false → CanMark me.0 mark.epoch
    → IsSmallMark mark → n ≡ word_of_mark mark
    → Allows (λ s. Shows l s.words s.views) slots id me (mark_at worker) (λ _. n)
    (λ _ now. (now.1 ≡ me.1) × (now.0 ≡ marked mark me.0))
marks_word laws l slots id me worker n mark is resting can small n-is =
    allows_at laws l slots id me (mark_at worker) (λ _. n) (λ v _ w. w ≡ marked mark v)
    (worker_acts me.0.role worker is) (λ words views s b.
    let v = me.0 in
    let active = worker_acts v.role worker is in
    let h = b.sound in
    let f = b.fits in
    let p = seat_number v.role in
    let m = s.story in
    let p-is : p ≡ suc worker = ap seat_number is in
    let few : worker < 8 = few_worker v worker v.role is f.part in
    let w = marked mark v in
    let at : ℕ = mark_at worker in
    let wr = written words at n (let long = h.shown.long in omega arith) in
    let words' = set words at n in
    let ten : FirstTen l words words' m m = record {
      long = wr.long;
      others = λ j low. wr.others j (λ e. absurd (omega arith));
      clock = wr.others 0 (λ e. absurd (omega arith)) ∙ h.shown.clock;
      decisions = wr.others 1 (λ e. absurd (omega arith)) ∙ h.shown.decisions;
      places = refl;
      history = ([], append-nil m.history);
      decided = ([], append-nil m.decided);
    } in
    let pages = first_kept l words words' views s id v m active b ten in
    commit_stride laws l words views s id v active b at (λ _. n) (SetMark mark) m w (λ v _ w. w ≡ marked mark v) record {
      lets = refl;
      allowed = and_from (not (is_trying v.seat.stage)) (can_mark m.epoch v.seat.marks mark.epoch) (ap not resting)
          (can_so v m.epoch mark.epoch f.low can);
      story-is = refl;
      seat-is = refl;
      grip = refl;
      role = refl;
      made = refl;
      small = h.small;
      valued = h.valued;
      shown = first_shown l words words' m m s.table s.trees s.resident ten h.shown;
      marks = λ y less. by_equal y worker
          (λ y. ShowsMark words' y (put_seat s.seats p w.seat (suc y)).marks)
          (record {
            before = v.seat.marks;
            mark = mark;
            last = ap (λ (t : Seat). t.marks) (put_same s.seats p w.seat (suc worker) (sym p-is));
            word = wr.here ∙ n-is;
            small = small;
          })
          (λ other.
          let was = h.marks y less in record {
            before = was.before;
            mark = was.mark;
            last = ap (λ (t : Seat). t.marks) (put_other s.seats p w.seat (suc y) (λ e. other (omega arith))) ∙ was.last;
            word = wr.others (mark_at y) (λ e. other (omega arith)) ∙ was.word;
            small = was.small;
          });
      marked = λ place old has. at_push_old v.seat.marks place old mark has;
      marks_low =
          let low : last_marked v.seat.marks < m.epoch =
          subst (λ (z : Seat). last_marked z.marks < m.epoch) (sym b.own.seat) (h.marked p) in
          subst (λ e. e < m.epoch) (sym (pushed v.seat.marks 0 mark)) (push_below m.epoch v mark.epoch f.low can low);
      drawn = λ a has. inl has;
      tried = tried_goes m m s.seats p v.seat w.seat b.own.seat refl refl refl (inl refl) h.tried;
      fits = own_fits l m m s.seats v w active f f.part refl refl refl refl refl
          (λ place old has. at_push_old v.seat.marks place old mark has) record {
            history = f.history;
            decided = f.decided;
            heard = f.heard;
            mine = f.mine;
            mine_own = f.mine_own;
            records = f.records;
            kept = f.kept;
            versions = f.versions;
            loaded = tt;
            tried = b.own.tried;
            took = b.own.took;
            locked = b.own.locked;
            low = f.low;
            epoch = λ keeper. (f.keepers keeper).epoch;
            past = λ keeper. (f.keepers keeper).past;
          };
      mine = λ k. refl;
      drew = refl;
      few = omega arith;
      room = omega (arith, h.sums.room);
      deals = rests_low l words views s id v b words' w
          record { role = refl; ways = refl; took = refl; gone = refl; touched = refl; blamed = refl; locks = refl } refl
          (λ j low. wr.others j (λ e. absurd (omega arith)));
      now = record { within = pages.within; ways = pages.ways; drafts = pages.drafts; copies = pages.copies; blanks = pages.blanks; resident = pages.resident; leads = pages.leads; fills = pages.fills; known = pages.known; shuts = pages.shuts; heads = pages.heads; moved = pages.moved; sealed = pages.sealed; inners = pages.inners; new_leaves = pages.new_leaves; new_inners = pages.new_inners };
      frame = words_same l words words' s p (λ j low. wr.others j (λ e. absurd (omega arith)));
    } refl)

-- ---- a mark is loaded

pub meets : Laws → (l : Layout) (slots id : ℕ) (me : Me (Unit {0}) View) (worker : ℕ) → IsActive me.0.role → worker < 8
    → Allows (λ s. Shows l s.words s.views) slots id me (mark_at worker) (λ n. n)
    (λ n now. (now.1 ≡ me.1) × HasMet worker me.0 n now.0)
meets laws l slots id me worker active few =
    allows_at laws l slots id me (mark_at worker) (λ n. n) (HasMet worker) active (λ words views s b.
    let v = me.0 in
    let m = s.story in
    let f = b.fits in
    let n : ℕ = get_or words (mark_at worker) 0 in
    let shows = b.sound.marks worker few in
    let place : ℕ = length shows.before in
    let last : slice_get (s.seats (suc worker)).marks place ≡ Some shows.mark =
    subst (λ (y : List Mark). slice_get y place ≡ Some shows.mark) (sym shows.last) (at_push_new shows.before shows.mark) in
    let w : View = record (glanced (mark_at worker) n v) { met = v.met ++ met_at worker n place ∷ [] } in
    load_stride l words views s id v active b (mark_at worker) (λ n. n) w (HasMet worker) refl record {
      role = refl;
      made = refl;
      seat = refl;
      grip = refl;
      mine = refl;
      draws = refl;
      fits = own_fits_met l m m s.seats v w active f f.part refl refl refl refl
          (λ x has. elim (in_push_cases x (met_at worker n place) v.met has) [
            | inl old ↦ f.met x old
            | inr new ↦ subst (WasMarked s.seats) new (shows.mark, last, shows.word)
          ])
          (λ place mark has. has) record {
            history = f.history;
            decided = f.decided;
            heard = f.heard;
            mine = f.mine;
            mine_own = f.mine_own;
            records = f.records;
            kept = f.kept;
            versions = f.versions;
            loaded = f.loaded;
            tried = b.own.tried;
            took = b.own.took;
            locked = b.own.locked;
            low = f.low;
            epoch = λ keeper. (f.keepers keeper).epoch;
            past = λ keeper. (f.keepers keeper).past;
          };
      room = room_same l words views s id v active b (mark_at worker) (λ n. n) w refl;
      now = record {
        within = b.pages.within;
        ways = b.pages.ways;
        drafts = b.pages.drafts;
        copies = b.pages.copies;
        blanks = b.pages.blanks;
        resident = b.pages.resident;
        leads = b.pages.leads;
        fills = b.pages.fills;
        known = b.pages.treed.known;
        heads = b.pages.treed.heads (seat_number v.role) (is_at v.role active);
        moved = b.pages.treed.moved;
        sealed = b.pages.treed.sealed (seat_number v.role) (is_at v.role active);
        inners = b.pages.treed.inners;
        new_leaves = b.pages.treed.new_leaves;
        new_inners = b.pages.treed.new_inners;
        shuts = b.pages.shuts (seat_number v.role) (is_at v.role active);
      };
      deals = rests_all l words views s id v b w
          record { role = refl; ways = refl; took = refl; gone = refl; touched = refl; blamed = refl; locks = refl } refl;
    }
    record {
      mark = shows.mark;
      small = shows.small;
      found = shows.word;
      place = place;
      rises = λ x has of.
          let was = f.met x has in
          let there : slice_get (shows.before ++ shows.mark ∷ []) x.place ≡ Some was.0 =
          subst (λ (y : List Mark). slice_get y x.place ≡ Some was.0) shows.last
          (subst (λ k. slice_get (s.seats (suc k)).marks x.place ≡ Some was.0) of was.1) in
          let less = at_below (shows.before ++ shows.mark ∷ []) x.place was.0 there in
          let long = length-append shows.before (shows.mark ∷ []) in omega (arith, less, long);
      begun = λ keeper.
          let least = (f.keepers keeper).begun worker few in
          let long : length (s.seats (suc worker)).marks ≡ length shows.before + 1 =
          ap (λ (y : List Mark). length y) shows.last ∙ length-append shows.before (shows.mark ∷ []) in omega (arith, least, long);
      parked = λ keeper unmade. record {
        before = shows.before;
        is = ap (λ (x : Seat). x.marks) (sym ((f.keepers keeper).parked worker few unmade).is) ∙ shows.last;
      };
      is = refl;
    })
