-- What a load of the clock tells, and the view behind it.
use Rattle.std.proofs.Common.{◌≡◌, ℕ, ◌+◌, ◌/◌, ◌%◌, ◌^◌, List, [], ◌∷◌, length, get_or, refl, sym, ap, ◌∙◌}
use Rattle.std.proofs.Common.{subst, arith}
use Rattle.lists.specs.Elements.{in_none}
use Rattle.lists.specs.Fronts.{front_refl}
use Rattle.commit_core.specs.declared.seat.Seat.{Seat}
use Rattle.commit_core.specs.declared.story.Story.{Story}
use Rattle.commit_core.specs.CoreState.{clock_of, last_marked}
use Rattle.engine_pages.specs.declared.layout.Layout.{Layout}
use Rattle.engine_pages.specs.declared.view.Role.{Role}
use Rattle.engine_pages.specs.declared.view.Role.TheVariants.{Keeper, Worker, Note, Spent}
use Rattle.engine_pages.specs.declared.view.View.{View}
use Rattle.engine_pages.specs.Rule.{Shared, EachIsTried, IsPast, Fits}
use Rattle.engine_pages.specs.Times.{past_at, timed, HasTimed}
use Rattle.engine_pages.specs.Views.{seat_number}
use Rattle.engine_pages.proofs.Alone.{all_drawn, nobody_tries}
use Rattle.engine_pages.proofs.OwnView.{Now}
use Rattle.engine_pages.proofs.Seats.{own_longer, tried_longer}
use Rattle.engine_pages.proofs.Turns.{Begins}

-- where the keeper has seated nobody, the epoch before the clock's is over
past_now : (l : Layout) (m : Story) (seats : ℕ → Seat) (v : View) (role : Role) → v.role ≡ role → (made : List ℕ)
    → v.made ≡ made → Fits l m seats v → EachIsTried m seats → v.role ≡ Keeper
    → IsPast m (past_at role made v.past m.epoch)
past_now l m seats v Keeper is [] none f tried keeper =
    let was = (f.keepers keeper).past in record {
      clock = let lower = was.clock in omega arith;
      tried = λ a has now. absurd (nobody_tries l m seats v keeper none f tried a has now);
    }
past_now l m seats v Keeper is (worker ∷ more) made f tried keeper = (f.keepers keeper).past
past_now l m seats v (Worker w) is made same f tried keeper = absurd (cc)
past_now l m seats v Note is made same f tried keeper = absurd (cc)
past_now l m seats v Spent is made same f tried keeper = absurd (cc)

module _ (l : Layout) (words : List ℕ) (views : List View) (s : Shared) (id : ℕ) (v : View)
    (b : Begins l words views s id v) where
  -- the clock's word has the epoch and the draws
  epoch_is : get_or words 0 0 / 2 ^ 40 ≡ s.story.epoch
  epoch_is = let clock = b.sound.shown.clock in let room = b.sound.sums.room in omega arith

  draws_are : get_or words 0 0 % 2 ^ 40 ≡ s.story.first_draw + length s.story.history
  draws_are = let clock = b.sound.shown.clock in let room = b.sound.sums.room in omega arith

  -- what a load of the clock tells
  pub clock_told : HasTimed v (get_or words 0 0) (timed s.story.history s.story.decided (get_or words 0 0) v)
  clock_told =
      let m = s.story in
      let h = b.sound in
      let f = b.fits in record {
        history = f.history;
        decided = f.decided;
        heard = λ x has. let was = f.heard x has in let low = was.2 in (was.0, was.1, omega (arith, low, epoch_is));
        draws = draws_are ∙ ap (λ x. x + length m.history) (h.first ∙ ap (λ (x : Layout). x.first.draw) (sym b.own.layout));
        number = clock_of m.first_draw m.epoch m.history;
        found = sym h.shown.clock;
        small = h.small.clock;
        below = h.joint.commits.story.ordered_numbers.past;
        epoch = let low = f.low in omega (arith, epoch_is);
        keepers = λ keeper.
            let low = f.low in let high = (f.keepers keeper).epoch in omega (arith, epoch_is);
        marked =
            let below = h.marked (seat_number v.role) in
            let same = ap (λ (x : Seat). last_marked x.marks) b.own.seat in omega (arith, epoch_is, same);
        own = λ keeper none. all_drawn l words views s id v h b.at keeper none;
        is = refl;
      }

  -- what is true of the view then
  pub clock_now : Now l.decls l.opening s.story (seat_number v.role)
      (timed s.story.history s.story.decided (get_or words 0 0) v)
  clock_now =
      let m = s.story in
      let f = b.fits in record {
        history = front_refl m.history;
        decided = front_refl m.decided;
        heard = λ x has. absurd (in_none x has);
        mine = f.mine;
        mine_own = λ a has.
            own_longer v.role v.history m.history v.decided m.decided a f.history f.decided (f.mine_own a has);
        records = f.records;
        kept = f.kept;
        versions = f.versions;
        loaded = f.loaded;
        tried = tried_longer (seat_number v.role) v.history m.history m.checks v.checked v.mine v.seat.stage f.history
            b.own.tried;
        took = b.own.took;
        locked = b.own.locked;
        low = omega (arith, epoch_is);
        epoch = λ keeper. omega (arith, epoch_is);
        past = λ keeper.
            subst (λ e. IsPast m (past_at v.role v.made v.past e)) (sym epoch_is)
            (past_now l m s.seats v v.role refl v.made refl f b.sound.tried keeper);
      }
