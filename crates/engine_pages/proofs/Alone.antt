-- Where nobody is seated, all that passes have is the keeper's.
use Rattle.std.proofs.Common.{◌≡◌, ℕ, zero, suc, ◌<◌, true, true≢false, List, [], ◌∷◌, length, refl, sym, ap, ◌∙◌}
use Rattle.std.proofs.Common.{subst, arith}
use Rattle.std.specs.List.{AllByRecursion, Contains}
use Rattle.std.proofs.lemmas.Bool.Decides.{nat_tests}
use mathlib.Core.Option.{some}
use lib.ListN.{get_elem?}
use Rattle.serial_model.specs.declared.number.Number.{Number}
use Rattle.commit_core.specs.declared.attempt.Attempt.{Attempt}
use Rattle.commit_core.specs.declared.seat.Seat.{Seat}
use Rattle.commit_core.specs.declared.seat.Stage.TheVariants.{Trying}
use Rattle.commit_core.specs.declared.story.Story.{Story}
use Rattle.commit_core.specs.CoreState.{is_in_progress, is_trying}
use Rattle.views.specs.Sums.{total, times}
use Rattle.views.specs.Changes.{each_at}
use Rattle.views.specs.Others.{alone, both_hold}
use Rattle.engine_pages.specs.declared.layout.Layout.{Layout}
use Rattle.engine_pages.specs.declared.view.Role.{Role}
use Rattle.engine_pages.specs.declared.view.Role.TheVariants.{Keeper, Worker, Note, Spent}
use Rattle.engine_pages.specs.declared.view.View.{View}
use Rattle.engine_pages.specs.Rule.{Shared, EachIsTried, Fits, Sound}
use Rattle.engine_pages.specs.Views.{IsActive, IsAt, HasPart, drawn_by, makes, owns, sits, sits_by}
use Rattle.engine_pages.proofs.Seats.{in_at}
use Rattle.engine_pages.proofs.Turns.{MadeByOne, made_by_one}

pub nobody_sits : (views : List View) → ((x : ℕ) → total (sits (suc x)) views ≡ 0)
    → AllByRecursion (λ v. (x : ℕ) → sits (suc x) v ≡ 0) views
nobody_sits [] none = tt
nobody_sits (v ∷ views) none = ((λ x. omega (arith, none x)), nobody_sits views (λ x. omega (arith, none x)))

-- a view that is neither the keeper's nor a worker's has no commits
owned_by_seats : (h : Number → ℕ) (v : View) (role : Role) → v.role ≡ role
    → HasPart role v.made v.due v.seat.stage v.mine
    → sits_by 0 role ≡ 0 → ((x : ℕ) → sits_by (suc x) role ≡ 0) → owns h v ≡ 0
owned_by_seats h v Keeper is part none others = absurd (omega arith)
owned_by_seats h v (Worker w) is part none others = absurd (let nobody = others w in grind (arith, nat_tests))
owned_by_seats h v Note is part none others = ap (total (λ (a : Attempt). h a.number)) part.no_commits
owned_by_seats h v Spent is part none others = ap (total (λ (a : Attempt). h a.number)) part.no_commits

-- and what each view without a seat has nothing of, it has none of
pub none_by_seats : (count : ℕ) (role : Role) → ((IsActive role → ⊥) → count ≡ 0) → sits_by 0 role ≡ 0
    → ((x : ℕ) → sits_by (suc x) role ≡ 0) → count ≡ 0
none_by_seats count Keeper seatless none others = absurd (omega arith)
none_by_seats count (Worker w) seatless none others = absurd (let nobody = others w in grind (arith, nat_tests))
none_by_seats count Note seatless none others = seatless (λ active. active)
none_by_seats count Spent seatless none others = seatless (λ active. active)

module _ (l : Layout) (words : List ℕ) (views : List View) (s : Shared) (id : ℕ) (v : View)
    (h : Sound l words views s) (at : get_elem? views id ≡ some v) (keeper : v.role ≡ Keeper) (none : v.made ≡ []) where
  -- what weighs nothing for who has no seat is the keeper's alone
  pub alone_weighs : (weight : View → ℕ)
      → ((u : View) → Fits l s.story s.seats u → sits 0 u ≡ 0 → ((x : ℕ) → sits (suc x) u ≡ 0) → weight u ≡ 0)
      → weight v ≡ total weight views
  alone_weighs weight nothing =
      let made : (x : ℕ) → total (makes x) views ≡ makes x v =
      each_at (MadeByOne views) views id v (made_by_one l s views words h) at (ap (sits_by 0) keeper) in
      let idle = nobody_sits views (λ x. h.sums.made_are x ∙ made x ∙ ap (times x) none) in
      let only =
      both_hold (Fits l s.story s.seats) (λ u. (x : ℕ) → sits (suc x) u ≡ 0) (λ u. sits 0 u ≡ 0 → weight u ≡ 0)
      (λ u f nobody e. nothing u f e nobody) views h.fits idle in
      sym (alone (sits 0) weight views id v only h.sums.one_keeper at (ap (sits_by 0) keeper))

  pub all_own : (k : Number → ℕ) → owns k v ≡ total k s.story.decided
  all_own k =
      alone_weighs (owns k) (λ u f unseated nobody. owned_by_seats k u u.role refl f.part unseated nobody)
      ∙ h.sums.mine_are k

  pub all_drawn : drawn_by v ≡ length s.story.history
  all_drawn =
      alone_weighs drawn_by
      (λ u f unseated nobody. none_by_seats (drawn_by u) u.role (λ off. (f.seatless off).draws) unseated nobody)
      ∙ h.sums.draws_are

-- and no attempt is in progress
pub nobody_tries : (l : Layout) (m : Story) (seats : ℕ → Seat) (v : View) → v.role ≡ Keeper → v.made ≡ []
    → Fits l m seats v → EachIsTried m seats → (a : Attempt) → Contains m.history a
    → is_in_progress m.decided m.given_up a.number ≡ true → ⊥
nobody_tries l m seats v keeper none f tried a has now =
    let there = in_at m.history a has in
    let t = tried there.0 a there.1 now in by_seat a.seat there.0 t.0 t.1
  where
    by_seat : (q i : ℕ) → q < 9 → (seats q).stage ≡ Trying i → ⊥
    by_seat zero i few tries =
        let rests = subst (λ r. HasPart r v.made v.due v.seat.stage v.mine) keeper f.part in
        let own = f.own 0 (subst (IsAt 0) (sym keeper) refl) in
        true≢false (sym (ap is_trying (ap (λ (x : Seat). x.stage) own.seat ∙ tries)) ∙ ap is_trying rests.1)
    by_seat (suc worker) i few tries =
        let parked = (f.keepers keeper).parked worker (omega arith) (ap (times worker) none) in
        true≢false (sym (ap is_trying (sym parked.resting.stage ∙ tries)))
