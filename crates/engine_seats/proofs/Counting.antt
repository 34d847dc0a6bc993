-- Loads of the clock and of the count of decisions, which are no act of the machines.
use Rattle.std.proofs.Common.{◌≡◌, ℕ, ◌+◌, List, [], get_or, refl, sym, subst, arith, Some}
use Rattle.std.specs.List.{Contains, slice_get}
use mathlib.Core.Option as option
use mathlib.Core.Option.{some}
use lib.ListN.{get_elem?}
use Rattle.atomic_table.specs.Table.{Me, Allows, step}
use Rattle.lists.specs.Fronts.{front_refl}
use Rattle.commit_core.specs.declared.seat.Seat.{Seat}
use Rattle.commit_core.specs.CoreState.{clock_of}
use Rattle.commit_core.specs.Law.{SoundIsSerial}
use Rattle.commit_core.specs.Sound.Numbers.{OrderedNumbers}
use Rattle.commit_core.specs.Sound.Reads.{PartsArePast}
use Rattle.views.specs.Changes.{each_at}
use Rattle.engine_pages.specs.declared.layout.Layout.{Layout}
use Rattle.engine_pages.specs.declared.view.Role.TheVariants.{Keeper}
use Rattle.engine_pages.specs.declared.view.View.{View}
use Rattle.engine_pages.specs.Rule.{Shared, Shows, Sound}
use Rattle.engine_pages.specs.Steps.{glance}
use Rattle.engine_pages.specs.Times.{Times, timed}
use Rattle.engine_pages.specs.Touches.{AreBlamed, Touched, takes, touch}
use Rattle.engine_pages.specs.Views.{IsActive, seat_number}
use Rattle.engine_pages.proofs.Alone.{all_drawn, all_own, alone_weighs, none_by_seats}
use Rattle.engine_pages.proofs.Dealing.{rests_all}
use Rattle.engine_pages.proofs.Facing.{blamed_grows}
use Rattle.engine_pages.proofs.Joint.{Laws}
use Rattle.engine_pages.proofs.Looking.{seen_fits}
use Rattle.engine_pages.proofs.Looks.{load_stride, room_same}
use Rattle.engine_pages.proofs.OwnView.{own_fits}
use Rattle.engine_pages.proofs.Seats.{is_at}
use Rattle.engine_pages.proofs.Times.{clock_now, clock_told}
use Rattle.engine_pages.proofs.Turns.{allows_at}
use Rattle.engine_seats.specs.Counts.{AreSerial, Counts}
use Rattle.engine_seats.proofs.Handing.{has_touch, takes_none}

-- ---- the clock

pub times_clock : Laws → (l : Layout) (slots id : ℕ) (me : Me (Unit {0}) View) → IsActive me.0.role
    → Allows (λ s. Shows l s.words s.views) slots id me 0 (λ n. n)
    (λ n now. (now.1 ≡ me.1) × Times (step slots 0 0 0 option.none) me.0 n now.0)
times_clock laws l slots id me active =
    allows_at laws l slots id me 0 (λ n. n) (Times (step slots 0 0 0 option.none)) active (λ words views s b.
    let v = me.0 in
    let m = s.story in
    let w = timed m.history m.decided (get_or words 0 0) v in
    load_stride l words views s id v active b 0 (λ n. n) w (Times (step slots 0 0 0 option.none)) refl record {
      role = refl;
      made = refl;
      seat = refl;
      grip = refl;
      mine = refl;
      draws = refl;
      fits = own_fits l m m s.seats v w active b.fits b.fits.part refl refl refl refl refl (λ place mark has. has)
          (clock_now l words views s id v b);
      room = room_same l words views s id v active b 0 (λ n. n) w refl;
      now = record {
        within = b.pages.within;
        ways = b.pages.ways;
        drafts = b.pages.drafts;
        copies = b.pages.copies;
        blanks = b.pages.blanks;
        resident = b.pages.resident;
        leads = b.pages.leads;
        fills = b.pages.fills;
        known = b.pages.treed.known;
        heads = b.pages.treed.heads (seat_number v.role) (is_at v.role active);
        moved = b.pages.treed.moved;
        sealed = b.pages.treed.sealed (seat_number v.role) (is_at v.role active);
        inners = b.pages.treed.inners;
        new_leaves = b.pages.treed.new_leaves;
        new_inners = b.pages.treed.new_inners;
        shuts = b.pages.shuts (seat_number v.role) (is_at v.role active);
      };
      deals = rests_all l words views s id v b w
          record { role = refl; ways = refl; took = refl; gone = refl; touched = refl; blamed = refl; locks = refl } refl;
    } (clock_told l words views s id v b))

-- ---- the count of decisions

-- what the keeper is told that others met, they met of those whose locks it is told
all_blamed : (l : Layout) (words : List ℕ) (views : List View) (s : Shared) (id : ℕ) (v : View)
    → Sound l words views s → get_elem? views id ≡ some v → v.role ≡ Keeper → v.made ≡ []
    → AreBlamed (λ q k. Contains v.touched (touch q k)) v.blamed
all_blamed l words views s id v h at keeper none =
    blamed_grows (Touched views) (λ q k. Contains v.touched (touch q k)) v.blamed
    (λ q k has. has_touch q k v.touched
    (let same = alone_weighs l words views s id v h at keeper none (takes q k)
    (λ u f unseated nobody.
    none_by_seats (takes q k u) u.role (λ off. takes_none q k u (f.seatless off).touched) unseated nobody) in
    omega (arith, same, has)))
    (each_at (λ u. AreBlamed (Touched views) u.blamed) views id v h.touching.blamed at)

pub counts : Laws → SoundIsSerial → (l : Layout) (slots id : ℕ) (me : Me (Unit {0}) View) → IsActive me.0.role
    → Allows (λ s. Shows l s.words s.views) slots id me 1 (λ n. n)
    (λ n now. (now.1 ≡ me.1) × Counts (step slots 1 0 0 option.none) me.0 n now.0)
counts laws serial l slots id me active =
    allows_at laws l slots id me 1 (λ n. n) (Counts (step slots 1 0 0 option.none)) active (λ words views s b.
    let v = me.0 in
    let m = s.story in
    let f = b.fits in
    let h = b.sound in
    let n : ℕ = get_or words 1 0 in
    let w : View = record v { history = m.history; decided = m.decided; steps = v.steps + 1; last = Some (glance v.steps 1 n) } in
    let commits = serial l.opening m h.joint.commits.story in
    load_stride l words views s id v active b 1 (λ n. n) w (Counts (step slots 1 0 0 option.none)) refl record {
      role = refl;
      made = refl;
      seat = refl;
      grip = refl;
      mine = refl;
      draws = refl;
      fits = seen_fits l m s.seats v w active f refl refl refl refl refl refl refl refl refl refl refl f.loaded refl refl
          f.versions f.history f.decided (front_refl m.history) (front_refl m.decided);
      room = room_same l words views s id v active b 1 (λ n. n) w refl;
      now = record {
        within = b.pages.within;
        ways = b.pages.ways;
        drafts = b.pages.drafts;
        copies = b.pages.copies;
        blanks = b.pages.blanks;
        resident = b.pages.resident;
        leads = b.pages.leads;
        fills = b.pages.fills;
        known = b.pages.treed.known;
        heads = b.pages.treed.heads (seat_number v.role) (is_at v.role active);
        moved = b.pages.treed.moved;
        sealed = b.pages.treed.sealed (seat_number v.role) (is_at v.role active);
        inners = b.pages.treed.inners;
        new_leaves = b.pages.treed.new_leaves;
        new_inners = b.pages.treed.new_inners;
        shuts = b.pages.shuts (seat_number v.role) (is_at v.role active);
      };
      deals = rests_all l words views s id v b w
          record { role = refl; ways = refl; took = refl; gone = refl; touched = refl; blamed = refl; locks = refl } refl;
    }
    record {
      history = f.history;
      decided = f.decided;
      count = sym h.shown.decisions;
      drawn = h.joint.commits.story.ordered_numbers.decided_drawn;
      once = h.joint.commits.story.ordered_numbers.decided_once;
      epoch = m.epoch;
      later = f.low;
      keepers = λ keeper. let high = (f.keepers keeper).epoch in let low = f.low in omega (arith, high, low);
      ordered = subst (λ (x : Layout). OrderedNumbers x.opening m.history m.decided (clock_of x.first.draw m.epoch m.history))
          (sym b.own.layout)
          (subst (λ (n : ℕ). OrderedNumbers l.opening m.history m.decided (clock_of n m.epoch m.history)) h.first
          h.joint.commits.story.ordered_numbers);
      past = subst (λ (x : Layout). PartsArePast x.opening m.history) (sym b.own.layout)
          h.joint.commits.story.parts_are_past;
      serial = subst (λ (x : Layout). AreSerial x.opening m.history m.decided) (sym b.own.layout)
          record { run = commits.run; reads = commits.reads };
      all = λ keeper none. all_own l words views s id v h b.at keeper none;
      draws = λ keeper none. all_drawn l words views s id v h b.at keeper none;
      blamed = all_blamed l words views s id v h b.at;
      met = λ keeper x has small unmade.
          let mark = f.met x has in (
            mark.0,
            subst (λ (t : Seat). slice_get t.marks x.place ≡ Some mark.0)
                ((f.keepers keeper).parked x.worker small unmade).is mark.1,
            mark.2,
          );
      is = refl;
    })
