-- A view that has seen more, with the same seat.
use Rattle.std.proofs.Common.{◌≡◌, true, ℕ, suc, ◌≤◌, List, length, get_or, refl, sym, ap, ◌∙◌, subst, arith, IfSome, Some}
use Rattle.std.specs.List.{Contains, slice_get}
use Rattle.lists.specs.Fronts.{IsFront}
use Rattle.homes.specs.Homes.{has_key}
use Rattle.commit_core.specs.declared.attempt.Attempt.{Attempt}
use Rattle.commit_core.specs.declared.seat.Seat.{Seat}
use Rattle.commit_core.specs.declared.story.Story.{Story}
use Rattle.commit_core.specs.Keys.{opening_number}
use Rattle.views.specs.Sums.{times}
use Rattle.engine_pages.specs.declared.layout.Layout.{Layout}
use Rattle.engine_pages.specs.declared.view.Heard.{Heard}
use Rattle.engine_pages.specs.declared.view.Met.{Met}
use Rattle.engine_pages.specs.declared.view.Took.{Took}
use Rattle.engine_pages.specs.declared.view.Version.{Version}
use Rattle.engine_pages.specs.declared.view.View.{View}
use Rattle.engine_pages.specs.Views.{IsAt, IsActive, IsResting, HasPart, bare_seat, seat_number}
use Rattle.engine_pages.specs.Rule.{IsInOrder, IsOwn, Tried, IsPast, KeptAreRecords, KeptIsLow, StillLoaded}
use Rattle.engine_pages.specs.Rule.{Fits, HasLockOf, IsOneOf}
use Rattle.engine_pages.proofs.Seats.{by_equal, put_seat, put_same, put_other, at_number, is_at, own_longer, tried_longer}

-- the seats stay as they are where the seat that is put is what was there
same_seat : (seats : ℕ → Seat) (p : ℕ) (s : Seat) (q : ℕ) → s ≡ seats p → put_seat seats p s q ≡ seats q
same_seat seats p s q is =
    by_equal q p (λ k. put_seat seats p s k ≡ seats k) (put_same seats p s p refl ∙ is) (λ other. put_other seats p s q other)

-- a view that has seen more of the same story, and has the same seat, commits and locks
pub seen_fits : (l : Layout) (m : Story) (seats : ℕ → Seat) (v w : View) → IsActive v.role → Fits l m seats v
    → w.layout ≡ v.layout → w.role ≡ v.role → w.made ≡ v.made → w.past ≡ v.past → w.parked ≡ v.parked → w.epoch ≡ v.epoch
    → w.mine ≡ v.mine → w.due ≡ v.due → w.seat ≡ v.seat → w.checked ≡ v.checked → w.took ≡ v.took → IfSome w.loaded (StillLoaded m.history m.decided m.places v.seat.kept)
    → w.met ≡ v.met → w.heard ≡ v.heard
    → ((x : Version) → Contains w.versions x → IsOneOf l.decls l.opening m.history x)
    → IsFront v.history w.history → IsFront v.decided w.decided → IsFront w.history m.history
    → IsFront w.decided m.decided
    → Fits l m (put_seat seats (seat_number v.role) w.seat) w
seen_fits l m seats v w active f layout role made past parked epoch mine due seat checked took loaded met heard versions longer later history decided =
    let p = seat_number v.role in
    let own = f.own p (is_at v.role active) in
    let here : w.seat ≡ seats p = seat ∙ own.seat in
    let same : (q : ℕ) → put_seat seats p w.seat q ≡ seats q = λ q. same_seat seats p w.seat q here in record {
      history = history;
      decided = decided;
      heard = subst
          (λ (y : List Heard). (x : Heard) → Contains y x
          → IsFront x.history m.history × IsFront x.decided m.decided × (x.epoch ≤ m.epoch))
          (sym heard) f.heard;
      mine = subst (IsInOrder opening_number) (sym mine) f.mine;
      mine_own = λ a has.
          subst (λ r. IsOwn r w.history w.decided a) (sym role)
          (own_longer v.role v.history w.history v.decided w.decided a longer later
          (f.mine_own a (subst (λ (x : List Attempt). Contains x a) mine has)));
      records = subst (λ (s : Seat). KeptAreRecords l.decls l.opening m.history s.kept) (sym seat) f.records;
      kept = subst (λ (s : Seat). KeptIsLow m.places s.kept) (sym seat) f.kept;
      versions = versions;
      loaded = subst (λ (s : Seat). IfSome w.loaded (StillLoaded m.history m.decided m.places s.kept)) (sym seat) loaded;
      own = λ q at.
          let is : q ≡ p = at_number q v.role (subst (IsAt q) role at) in
          let o = f.own q (subst (IsAt q) role at) in record {
            layout = layout ∙ o.layout;
            seat = here ∙ sym (ap seats is) ∙ sym (same q);
            tried = subst (λ (s : Seat). Tried q w.history m.checks w.checked w.mine s.stage) (sym seat)
                (subst (λ x. Tried q w.history m.checks x w.mine v.seat.stage) (sym checked)
                (subst (λ x. Tried q w.history m.checks v.checked x v.seat.stage) (sym mine)
                (tried_longer q v.history w.history m.checks v.checked v.mine v.seat.stage longer o.tried)));
            took = λ t has. o.took t (subst (λ (x : List Took). Contains x t) took has);
            locked = λ k has.
                subst (λ (x : List Took). HasLockOf x k) (sym took)
                (o.locked k (subst (λ (s : Seat). has_key s.locks k ≡ true) seat has));
          };
      low = omega (arith, f.low, epoch);
      part = subst (λ r. HasPart r w.made w.due w.seat.stage w.mine) (sym role)
          (subst (λ x. HasPart v.role x w.due w.seat.stage w.mine) (sym made)
          (subst (λ x. HasPart v.role v.made x w.seat.stage w.mine) (sym due)
          (subst (λ (s : Seat). HasPart v.role v.made v.due s.stage w.mine) (sym seat)
          (subst (λ x. HasPart v.role v.made v.due v.seat.stage x) (sym mine) f.part))));
      seatless = λ none. absurd (none (subst IsActive (sym role) active));
      unkept = λ none. absurd (none (subst IsActive (sym role) active));
      keepers = λ keeper.
          let was = f.keepers (sym role ∙ keeper) in record {
            epoch = omega (arith, was.epoch, epoch);
            past = subst (IsPast m) (sym past) was.past;
            parked_are = ap (λ (x : List Seat). length x) parked ∙ was.parked_are;
            begun = λ worker few. subst (λ (x : Seat). length (get_or w.parked worker bare_seat).marks ≤ length x.marks)
                (sym (same (suc worker))) (subst (λ (x : List Seat). length (get_or x worker bare_seat).marks ≤ length (seats (suc worker)).marks) (sym parked)
                (was.begun worker few));
            parked = λ worker few unmade.
                let there = was.parked worker few (ap (times worker) (sym made) ∙ unmade) in record {
                  is = same (suc worker) ∙ there.is ∙ ap (λ (x : List Seat). get_or x worker bare_seat) (sym parked);
                  resting = subst IsResting (sym (same (suc worker))) there.resting;
                };
          };
      met = λ x has.
          let was = f.met x (subst (λ (y : List Met). Contains y x) met has) in (
            was.0,
            subst (λ (s : Seat). slice_get s.marks x.place ≡ Some was.0) (sym (same (suc x.worker))) was.1,
            was.2,
          );
    }
