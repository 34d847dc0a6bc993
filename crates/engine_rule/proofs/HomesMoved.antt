-- Homes and places after a list of moves.
use Rattle.std.proofs.Common.{◌≡◌, ℕ, true, true≢false, cond, inl, inr, List, [], ◌∷◌, refl, sym, ap, ◌∙◌, subst}
use Rattle.std.proofs.lemmas.Bool.{cases_Bool, or_cases, or_left, or_right, cond-true, cond-false}
use Rattle.serial_model.specs.declared.key.Key.{Key}
use Rattle.homes.specs.declared.places.Holder.TheVariants.{Dead}
use Rattle.homes.specs.declared.places.Spot.{Spot}
use Rattle.homes.specs.declared.places.Home.{Home}
use Rattle.homes.specs.declared.places.Home.TheVariants.{InSlot}
use Rattle.homes.specs.declared.places.Move.{Move}
use Rattle.homes.specs.Homes.{look, same_key, same_spot, has_key, moved, moves_to}
use Rattle.homes.specs.Laws.{same_key-true, same_spot-true, same_spot-self}
use Rattle.commit_core.specs.declared.place.Place.{Place}
use Rattle.commit_core.specs.declared.seat.Seat.{Seat}
use Rattle.commit_core.specs.declared.story.Story.{Story}
use Rattle.commit_core.specs.Places.{place, vacant, place_of, home_of, spot_of, spot_at}
use Rattle.commit_core.specs.Moves.{is_spot, is_left, buried, rehomed}
use Rattle.engine_rule.specs.Event.{after_moves}

pub homes_moved : (list : List Move) (homes : List (Key × Home)) → home_of (rehomed list homes) ≡ moved list (home_of homes)
homes_moved [] homes = refl
homes_moved (v ∷ more) homes = ap (λ (f : Key → Home). λ (k : Key). cond (same_key v.key k) v.home (f k)) (homes_moved more homes)

-- the homes after the moves of an act, if it has any
pub after_homes : (p : ℕ) (m : Story) (s : Seat) (list : List Move) → home_of (after_moves p m s list).story.homes ≡ moved list (home_of m.homes)
after_homes p m s [] = refl
after_homes p m s (v ∷ more) = homes_moved (v ∷ more) m.homes

-- ---- places that keys leave

left_at : (list : List Move) (homes : List (Key × Home)) (x y : Spot) → same_spot x y ≡ true → is_left list homes x ≡ is_left list homes y
left_at list homes x y e = ap (is_left list homes) (same_spot-true x y e)

pub buried_dead : (list : List Move) (homes : List (Key × Home)) (places : List (Spot × Place)) (x : Spot) → is_left list homes x ≡ true
    → (place_of (buried list homes places) x).holder ≡ Dead
buried_dead list homes [] x left = refl
buried_dead list homes (e ∷ more) x left =
    let dead : Spot × Place = (e.0, place (e.1).content Dead) in
    elim (cases_Bool (is_left list homes e.0)) [
      | inl hit ↦ subst (λ (y : Spot × Place). (look same_spot vacant (y ∷ buried list homes more) x).holder ≡ Dead) (sym (cond-true (is_left list homes e.0) dead e hit))
          (elim (cases_Bool (same_spot e.0 x)) [
            | inl same ↦ ap (λ (q : Place). q.holder) (cond-true (same_spot e.0 x) dead.1 (place_of (buried list homes more) x) same)
            | inr other ↦ ap (λ (q : Place). q.holder) (cond-false (same_spot e.0 x) dead.1 (place_of (buried list homes more) x) other) ∙ buried_dead list homes more x left
          ])
      | inr miss ↦ subst (λ (y : Spot × Place). (look same_spot vacant (y ∷ buried list homes more) x).holder ≡ Dead) (sym (cond-false (is_left list homes e.0) dead e miss))
          (elim (cases_Bool (same_spot e.0 x)) [
            | inl same ↦ absurd (true≢false (sym left ∙ sym (left_at list homes e.0 x same) ∙ miss))
            | inr other ↦ ap (λ (q : Place). q.holder) (cond-false (same_spot e.0 x) e.1 (place_of (buried list homes more) x) other) ∙ buried_dead list homes more x left
          ])
    ]

-- a key that moves leaves its place
pub left_of : (to : Key → Home) (keys : List Key) (homes : List (Key × Home)) (k : Key) (x : Spot) → has_key keys k ≡ true → home_of homes k ≡ InSlot x
    → is_left (moves_to to keys) homes x ≡ true
left_of to [] homes k x hit home = absurd (true≢false (sym hit))
left_of to (y ∷ more) homes k x hit home =
    elim (or_cases (same_key y k) (has_key more k) hit) [
      | inl same ↦ or_left (is_spot x (spot_at homes y)) (is_left (moves_to to more) homes x)
          (ap (λ (q : Key). is_spot x (spot_at homes q)) (same_key-true y k same) ∙ ap (λ (h : Home). is_spot x (spot_of h)) home ∙ same_spot-self x)
      | inr later ↦ or_right (is_spot x (spot_at homes y)) (is_left (moves_to to more) homes x) (left_of to more homes k x later home)
    ]
