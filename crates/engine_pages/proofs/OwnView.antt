-- The view of the seat that steps, after its step.
use Rattle.std.proofs.Common.{◌≡◌, ℕ, suc, ◌≤◌, Bool, true, false, List, length, get_or, refl, sym, ap, ◌∙◌}
use Rattle.std.proofs.Common.{subst, arith, IfSome, Some}
use Rattle.std.specs.List.{Contains, slice_get}
use Rattle.lists.specs.Fronts.{IsFront}
use Rattle.commit_core.specs.declared.attempt.Attempt.{Attempt}
use Rattle.commit_core.specs.declared.seat.Mark.{Mark}
use Rattle.commit_core.specs.declared.seat.Seat.{Seat}
use Rattle.commit_core.specs.declared.seat.Stage.{Stage}
use Rattle.commit_core.specs.declared.seat.Stage.TheVariants.{Idle}
use Rattle.commit_core.specs.declared.story.Story.{Story}
use Rattle.commit_core.specs.Keys.{opening_number}
use Rattle.views.specs.Sums.{times}
use Rattle.engine_pages.specs.declared.layout.Layout.{Layout}
use Rattle.engine_pages.specs.declared.view.Heard.{Heard}
use Rattle.engine_pages.specs.declared.view.Met.{Met}
use Rattle.engine_pages.specs.declared.view.Took.{Took}
use Rattle.engine_pages.specs.declared.view.Version.{Version}
use Rattle.engine_pages.specs.declared.view.Role.{Role}
use Rattle.engine_pages.specs.declared.view.Role.TheVariants.{Keeper, Worker, Note, Spent}
use Rattle.engine_pages.specs.declared.view.View.{View}
use Rattle.serial_model.specs.declared.decl.Decl.{Decl}
use Rattle.serial_model.specs.declared.key.Key.{Key}
use Rattle.homes.specs.declared.places.Content.{Content}
use Rattle.homes.specs.declared.places.Spot.{Spot}
use Rattle.homes.specs.Homes.{has_key}
use Rattle.engine_pages.specs.Views.{IsAt, IsActive, IsResting, HasPart, bare_seat, seat_number}
use Rattle.engine_pages.specs.Rule.{IsInOrder, IsOwn, Tried, Own, IsHeld, HasLockOf, IsPast, WasMarked}
use Rattle.engine_pages.specs.Rule.{KeptAreRecords, KeptIsLow, StillLoaded, Fits, IsOneOf}
use Rattle.engine_pages.proofs.Seats.{put_seat, put_same, put_other, at_number, is_at, marked_stays, marks_longer}

-- what is true of the view w of seat p beside the story n, as it is told of the fields that a step may change
pub record Now (decls : List Decl) (opening : List (Key × Content)) (n : Story) (p : ℕ) (w : View) : Type 0 where
  pub history : IsFront w.history n.history
  pub decided : IsFront w.decided n.decided
  pub heard : (x : Heard) → Contains w.heard x
      → IsFront x.history n.history × IsFront x.decided n.decided × (x.epoch ≤ n.epoch)
  pub mine : IsInOrder opening_number w.mine
  pub mine_own : (a : Attempt) → Contains w.mine a → IsOwn w.role w.history w.decided a
  pub records : KeptAreRecords decls opening n.history w.seat.kept
  pub kept : KeptIsLow n.places w.seat.kept
  pub versions : (x : Version) → Contains w.versions x → IsOneOf decls opening n.history x
  pub loaded : IfSome w.loaded (StillLoaded n.history n.decided n.places w.seat.kept)
  pub tried : Tried p w.history n.checks w.checked w.mine w.seat.stage
  pub took : (t : Took) → Contains w.took t → (x : Spot) × IsHeld decls n p t x
  pub locked : (k : Key) → has_key w.seat.locks k ≡ true → HasLockOf w.took k
  pub low : w.epoch ≤ n.epoch
  pub epoch : w.role ≡ Keeper → n.epoch ≤ w.epoch
  pub past : w.role ≡ Keeper → IsPast n w.past

-- what a pass of its role has, where the stage, the due draw and the own commits change: a worker's may
pub part_goes : (role : Role) → IsActive role → (made : List ℕ) (due due' : Bool) (stage stage' : Stage)
    (mine mine' : List Attempt) → (due ≡ false → due' ≡ false)
    → (due ≡ false → stage ≡ Idle → stage' ≡ Idle) → HasPart role made due stage mine
    → HasPart role made due' stage' mine'
part_goes Keeper active made due due' stage stage' mine mine' still rests part = (still part.0, rests part.0 part.1)
part_goes (Worker w) active made due due' stage stage' mine mine' still rests part = part
part_goes Note active made due due' stage stage' mine mine' still rests part = absurd active
part_goes Spent active made due due' stage stage' mine mine' still rests part = absurd active

pub own_fits_met : (l : Layout) (m n : Story) (seats : ℕ → Seat) (v w : View) → IsActive v.role → Fits l m seats v
    → HasPart w.role w.made w.due w.seat.stage w.mine → w.layout ≡ v.layout → w.role ≡ v.role → w.made ≡ v.made
    → w.parked ≡ v.parked → ((x : Met) → Contains w.met x → WasMarked seats x) → ((place : ℕ) (mark : Mark) → slice_get v.seat.marks place ≡ Some mark → slice_get w.seat.marks place ≡ Some mark)
    → Now l.decls l.opening n (seat_number v.role) w → Fits l n (put_seat seats (seat_number v.role) w.seat) w
own_fits_met l m n seats v w active f part layout role made parked met marks now =
    let p = seat_number v.role in
    let own = f.own p (is_at v.role active) in record {
      history = now.history;
      decided = now.decided;
      heard = now.heard;
      mine = now.mine;
      mine_own = now.mine_own;
      records = now.records;
      kept = now.kept;
      versions = now.versions;
      loaded = now.loaded;
      own = λ q at.
          subst (Own l n (put_seat seats p w.seat) w) (sym (at_number q v.role (subst (IsAt q) role at))) record {
            layout = layout ∙ own.layout;
            seat = sym (put_same seats p w.seat p refl);
            tried = now.tried;
            took = now.took;
            locked = now.locked;
          };
      low = now.low;
      part = part;
      seatless = λ none. absurd (none (subst IsActive (sym role) active));
      unkept = λ none. absurd (none (subst IsActive (sym role) active));
      keepers = λ keeper.
          let was = f.keepers (sym role ∙ keeper) in
          let zero-is : p ≡ 0 = ap seat_number (sym role ∙ keeper) in record {
            epoch = now.epoch keeper;
            past = now.past keeper;
            parked_are = ap (λ (x : List Seat). length x) parked ∙ was.parked_are;
            begun = λ worker few.
                let more = marks_longer seats p w.seat
                (λ place mark had. marks place mark (subst (λ (s : Seat). slice_get s.marks place ≡ Some mark) (sym own.seat) had))
                (suc worker) in
                let least = subst (λ (x : List Seat). length (get_or x worker bare_seat).marks ≤ length (seats (suc worker)).marks)
                (sym parked) (was.begun worker few) in
                omega (arith, least, more);
            parked = λ worker few unmade.
                let there = was.parked worker few (ap (times worker) (sym made) ∙ unmade) in
                let same : put_seat seats p w.seat (suc worker) ≡ seats (suc worker) =
                put_other seats p w.seat (suc worker) (λ e. absurd (omega (arith, e, zero-is))) in record {
                  is = same ∙ there.is ∙ ap (λ (x : List Seat). get_or x worker bare_seat) (sym parked);
                  resting = subst IsResting (sym same) there.resting;
                };
          };
      met = λ x has.
          marked_stays seats p w.seat x
          (λ place mark had. marks place mark (subst (λ (s : Seat). slice_get s.marks place ≡ Some mark) (sym own.seat) had))
          (met x has);
    }

-- the same where no mark was met
pub own_fits : (l : Layout) (m n : Story) (seats : ℕ → Seat) (v w : View) → IsActive v.role → Fits l m seats v
    → HasPart w.role w.made w.due w.seat.stage w.mine → w.layout ≡ v.layout → w.role ≡ v.role → w.made ≡ v.made
    → w.parked ≡ v.parked → w.met ≡ v.met → ((place : ℕ) (mark : Mark) → slice_get v.seat.marks place ≡ Some mark → slice_get w.seat.marks place ≡ Some mark)
    → Now l.decls l.opening n (seat_number v.role) w → Fits l n (put_seat seats (seat_number v.role) w.seat) w
own_fits l m n seats v w active f part layout role made parked met marks now =
    own_fits_met l m n seats v w active f part layout role made parked
    (λ x has. f.met x (subst (λ (y : List Met). Contains y x) met has)) marks now
