-- Who holds a record is a seat: laws. So where nobody is seated and the keeper has no locks, no record is locked.
use Rattle.std.proofs.Common.{◌≡◌, ℕ, zero, suc, ◌<◌, inl, inr, true, true≢false, eq-eqb, List, [], ◌∷◌}
use Rattle.std.proofs.Common.{refl, sym, ap, ◌∙◌, subst, arith}
use Rattle.std.specs.List.{AllByRecursion, Contains}
use Rattle.lists.specs.Elements.{in_none, in_cases}
use Rattle.serial_model.specs.declared.key.Key.{Key}
use Rattle.homes.specs.declared.places.Holder.{Holder}
use Rattle.homes.specs.declared.places.Holder.TheVariants.{Free, Held, Dead}
use Rattle.homes.specs.declared.places.Home.{Home}
use Rattle.homes.specs.declared.places.Home.TheVariants.{InSlot}
use Rattle.homes.specs.declared.places.Spot.{Spot}
use Rattle.homes.specs.Homes.{has_key}
use Rattle.commit_core.specs.declared.seat.Seat.{Seat}
use Rattle.commit_core.specs.Places.{place_of, home_of, stands, stands_at, holder_is}
use Rattle.views.specs.ByNumber.{at_each}
use Rattle.views.specs.Sums.{times}
use Rattle.engine_pages.specs.declared.layout.Layout.{Layout}
use Rattle.engine_pages.specs.declared.view.Role.TheVariants.{Keeper}
use Rattle.engine_pages.specs.declared.view.View.{View}
use Rattle.engine_pages.specs.Rule.{Fits, Shared, Sound}
use Rattle.engine_pages.specs.Views.{IsAt}

-- a fact of each view is one of this one
fits_at : (P : View → Type 0) (views : List View) (v : View) → AllByRecursion P views → Contains views v → P v
fits_at P [] v all there = absurd (in_none v there)
fits_at P (w ∷ views) v all there = elim (in_cases v w views there) [
  | inl is ↦ subst P is all.0
  | inr more ↦ fits_at P views v all.1 more
]

module _ (l : Layout) (words : List ℕ) (views : List View) (s : Shared) (sound : Sound l words views s) where
  -- a seat without locks holds no record
  none_by : (k : Key) (p : ℕ) → p < 9 → (s.seats p).locks ≡ []
      → holder_is p (stands s.story.places s.story.homes k).holder ≡ true → ⊥
  none_by k p few none held =
      true≢false (sym ((sound.joint.commits.seats p (s.seats p) (at_each 9 s.seats p few)).lock_owners.listed k held)
      ∙ ap (λ (own : List Key). has_key own k) none)

  -- who holds a record is the keeper or one of the eight workers
  pub holders_are_seats : (k : Key) (p : ℕ) → holder_is p (stands s.story.places s.story.homes k).holder ≡ true → p < 9
  holders_are_seats k p held = sound.joint.commits.holders_are_seats k p held

  module _ (keeper : View) (there : Contains views keeper) (role : keeper.role ≡ Keeper) (alone : keeper.made ≡ [])
      (locks : keeper.seat.locks ≡ []) where
    fits : Fits l s.story s.seats keeper
    fits = fits_at (Fits l s.story s.seats) views keeper sound.fits there

    none_of : (p : ℕ) → p < 9 → (s.seats p).locks ≡ []
    none_of zero few = ap (λ (x : Seat). x.locks) (sym (fits.own 0 (subst (IsAt 0) (sym role) refl)).seat) ∙ locks
    none_of (suc p) few = ((fits.keepers role).parked p (omega (arith, few)) (ap (times p) alone)).resting.locks

    -- where the keeper has seated nobody and has no locks, nobody holds a record
    pub none_held : (k : Key) → (stands s.story.places s.story.homes k).holder ≡ Free
    none_held k = by_holder (stands s.story.places s.story.homes k).holder refl
      where
        by_holder : (h : Holder) → (stands s.story.places s.story.homes k).holder ≡ h
            → (stands s.story.places s.story.homes k).holder ≡ Free
        by_holder Free is = is
        by_holder (Held p) is =
            let held : holder_is p (stands s.story.places s.story.homes k).holder ≡ true =
            ap (holder_is p) is ∙ eq-eqb p p refl in
            let few = holders_are_seats k p held in
            absurd (none_by k p few (none_of p few) held)
        by_holder Dead is = absurd (sound.joint.commits.story.homes_alive k is)

    -- so is the place of each key whose record is in a slot's page
    pub none_locked : (k : Key) (x : Spot) → home_of s.story.homes k ≡ InSlot x → (place_of s.story.places x).holder ≡ Free
    none_locked k x home = ap (λ (h : Home). (stands_at s.story.places h).holder) (sym home) ∙ none_held k
