-- What stands in places and at keys once one place has something new.
use Rattle.std.proofs.Common.{◌≡◌, true, false, true≢false, cond, inl, inr, List, [], ◌∷◌, ◌⊎◌, refl, sym, ap, ◌∙◌}
use Rattle.std.proofs.Common.{subst, Some}
use Rattle.std.proofs.lemmas.Bool.{cases_Bool, cond-false, false_from_ne_true}
use Rattle.serial_model.specs.declared.key.Key.{Key}
use Rattle.homes.specs.declared.places.Spot.{Spot}
use Rattle.homes.specs.declared.places.Home.{Home}
use Rattle.homes.specs.declared.places.Home.TheVariants.{InSlot, InPage, Nowhere}
use Rattle.homes.specs.declared.places.Holder.TheVariants.{Dead}
use Rattle.commit_core.specs.declared.place.Place.{Place}
use Rattle.homes.specs.Homes.{same_spot}
use Rattle.homes.specs.Laws.{same_spot-true}
use Rattle.commit_core.specs.Keys.{same_key}
use Rattle.commit_core.specs.Places.{place_of, home_of, stands_at, stands, spot_of, spot_at, placed}
use Rattle.commit_core.specs.Lemmas.Keys.{same_key-self, same_key-true}
use Rattle.commit_core.specs.Sound.Locks.{HomesApart}

-- two keys are the same or not
pub same_or_other : (a b : Key) → (a ≡ b) ⊎ (a ≡ b → ⊥)
same_or_other a b =
    elim (cases_Bool (same_key a b)) [
      | inl hit ↦ inl (same_key-true a b hit)
      | inr miss ↦ inr (λ e. true≢false (sym (subst (λ (x : Key). same_key a x ≡ true) e (same_key-self a)) ∙ miss))
    ]

-- ---- places

-- in another place stands what stood there
pub place_of-placed_other : (places : List (Spot × Place)) (x : Spot) (new : Place) (y : Spot) → (x ≡ y → ⊥)
    → place_of (placed places x new) y ≡ place_of places y
place_of-placed_other [] x new y other = refl
place_of-placed_other (e ∷ more) x new y other =
    elim (cases_Bool (same_spot e.0 x)) [
      | inl hit ↦
          let miss : same_spot e.0 y ≡ false = false_from_ne_true (same_spot e.0 y) (λ h. other (sym (same_spot-true e.0 x hit) ∙ same_spot-true e.0 y h)) in
          rw hit (rw miss (place_of-placed_other more x new y other))
      | inr miss ↦ rw miss (ap (λ (q : Place). cond (same_spot e.0 y) e.1 q) (place_of-placed_other more x new y other))
    ]

-- in the place stands the new one, where it was filled at all
pub place_of-placed_same : (places : List (Spot × Place)) (x : Spot) (new : Place)
    → ((place_of places x).holder ≡ Dead → ⊥) → place_of (placed places x new) x ≡ new
place_of-placed_same [] x new alive = absurd (alive refl)
place_of-placed_same (e ∷ more) x new alive =
    elim (cases_Bool (same_spot e.0 x)) [
      | inl hit ↦ rw (hit, hit) refl
      | inr miss ↦ rw (miss, miss) (place_of-placed_same more x new (λ dead. alive (ap (λ (q : Place). q.holder) (cond-false (same_spot e.0 x) e.1 (place_of more x) miss) ∙ dead)))
    ]

-- ---- homes

-- what stands at a home that is a place
pub stands-spot : (places : List (Spot × Place)) (h : Home) (x : Spot) → spot_of h ≡ Some x
    → stands_at places h ≡ place_of places x
stands-spot places (InSlot y) x e = let same : y ≡ x = cc in ap (place_of places) same
stands-spot places (InPage n c) x e = cc
stands-spot places Nowhere x e = cc

-- at a home that isn't the place stands what stood there
pub stands-placed_at : (places : List (Spot × Place)) (x : Spot) (new : Place) (h : Home) → (spot_of h ≡ Some x → ⊥)
    → stands_at (placed places x new) h ≡ stands_at places h
stands-placed_at places x new (InSlot y) other = place_of-placed_other places x new y (λ e. other (ap (λ (z : Spot). Some z) (sym e)))
stands-placed_at places x new (InPage n c) other = refl
stands-placed_at places x new Nowhere other = refl

-- ---- keys

-- at one key stands something new, at the others what stood there
pub record Sets (k : Key) (new : Place) (st st' : Key → Place) : Type 0 where
  pub now : st' k ≡ new
  pub others : (q : Key) → (k ≡ q → ⊥) → st' q ≡ st q

-- so it is where the home of the key has something new
pub placed_sets : (places : List (Spot × Place)) (homes : List (Key × Home)) (k : Key) (x : Spot) (new : Place)
    → HomesApart (home_of homes) → spot_at homes k ≡ Some x
    → ((place_of places x).holder ≡ Dead → ⊥) → Sets k new (stands places homes) (stands (placed places x new) homes)
placed_sets places homes k x new apart at alive = record {
  now = stands-spot (placed places x new) (home_of homes k) x at ∙ place_of-placed_same places x new alive;
  others = λ q other. stands-placed_at places x new (home_of homes q) (λ e. other (apart k q x at e));
}
