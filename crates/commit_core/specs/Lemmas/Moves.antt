-- Homes and places once a list of moves is made.
use Rattle.std.proofs.Common.{◌≡◌, Bool, true, false, not, true≢false, cond, ◌&&◌, inl, inr, List, [], ◌∷◌, refl, sym}
use Rattle.std.proofs.Common.{ap, ◌∙◌, subst, Option, Some, None}
use Rattle.std.proofs.lemmas.Bool.{cases_Bool, false_from_ne_true, and_parts, or_left, or_right, cond-true, cond-false}
use Rattle.std.specs.List.{Contains}
use Rattle.serial_model.specs.declared.key.Key.{Key}
use Rattle.homes.specs.declared.places.Holder.TheVariants.{Dead}
use Rattle.homes.specs.declared.places.Spot.{Spot}
use Rattle.homes.specs.declared.places.Home.{Home}
use Rattle.homes.specs.declared.places.Home.TheVariants.{InSlot, InPage, Nowhere}
use Rattle.homes.specs.declared.places.Move.{Move}
use Rattle.homes.specs.Homes.{same_spot, moved}
use Rattle.homes.specs.Laws.{same_spot-self, same_spot-true}
use Rattle.commit_core.specs.declared.place.Place.{Place}
use Rattle.commit_core.specs.Keys.{same_key}
use Rattle.commit_core.specs.Places.{place, vacant, place_of, home_of, stands_at, spot_of, spot_at}
use Rattle.commit_core.specs.Moves.{moves_key, is_spot, moves_to_spot, are_apart, is_nobodys, is_left, buried, rehomed}
use Rattle.commit_core.specs.Moves.{later}
use Rattle.commit_core.specs.Lemmas.Keys.{same_key-self, same_key-true}
use Rattle.lists.specs.Elements.{in_none, in_head, in_tail, in_cases, all_in, any_in, any_is}

-- ---- homes

-- the homes after the moves are those that `moved` says
pub home_of-rehomed : (moves : List Move) (homes : List (Key × Home)) (k : Key)
    → home_of (rehomed moves homes) k ≡ moved moves (home_of homes) k
home_of-rehomed [] homes k = refl
home_of-rehomed (v ∷ more) homes k = ap (λ (h : Home). cond (same_key v.key k) v.home h) (home_of-rehomed more homes k)

-- a key that no move is of keeps its home
pub moved-not : (moves : List Move) (homes : Key → Home) (k : Key) → moves_key moves k ≡ false
    → moved moves homes k ≡ homes k
moved-not [] homes k miss = refl
moved-not (v ∷ more) homes k miss =
    cond-false (same_key v.key k) v.home (moved more homes k) (false_from_ne_true (same_key v.key k) (λ e. true≢false (sym (or_left (same_key v.key k) (moves_key more k) e) ∙ miss)))
    ∙ moved-not more homes k (false_from_ne_true (moves_key more k) (λ e. true≢false (sym (or_right (same_key v.key k) (moves_key more k) e) ∙ miss)))

-- a move of the list is of its key
pub move_of : (moves : List Move) (v : Move) → Contains moves v → moves_key moves v.key ≡ true
move_of moves v inside = any_in (λ u. same_key u.key v.key) moves v inside (same_key-self v.key)

-- what is not true is false
pub not_true : (b : Bool) → not b ≡ true → b ≡ false
not_true true e = absurd (true≢false (sym e))
not_true false e = refl

apart_head : (v : Move) (more : List Move) → are_apart (v ∷ more) ≡ true
    → (moves_key more v.key ≡ false) × (moves_to_spot more (spot_of v.home) ≡ false) × (are_apart more ≡ true)
apart_head v more apart =
    let parts = and_parts (not (moves_key more v.key)) (not (moves_to_spot more (spot_of v.home)) && are_apart more) apart in
    let rest = and_parts (not (moves_to_spot more (spot_of v.home))) (are_apart more) parts.1 in
    (not_true (moves_key more v.key) parts.0, not_true (moves_to_spot more (spot_of v.home)) rest.0, rest.1)

-- each key that moves goes where its move says
pub moved-there : (moves : List Move) (homes : Key → Home) (v : Move) → are_apart moves ≡ true → Contains moves v
    → moved moves homes v.key ≡ v.home
moved-there [] homes v apart inside = absurd (in_none v inside)
moved-there (u ∷ more) homes v apart inside =
    let parts = apart_head u more apart in
    elim (in_cases v u more inside) [
      | inl e ↦ subst (λ (x : Move). moved (u ∷ more) homes x.key ≡ x.home) e (cond-true (same_key u.key u.key) u.home (moved more homes u.key) (same_key-self u.key))
      | inr later ↦
          let other : same_key u.key v.key ≡ false = false_from_ne_true (same_key u.key v.key) (λ e.
          true≢false (sym (subst (λ (x : Key). moves_key more x ≡ true) (sym (same_key-true u.key v.key e)) (move_of more v later)) ∙ parts.0)) in
          cond-false (same_key u.key v.key) u.home (moved more homes v.key) other ∙ moved-there more homes v parts.2 later
    ]

-- a home that tests as the place is it
pub is_spot-true : (x : Spot) (o : Option Spot) → is_spot x o ≡ true → o ≡ Some x
is_spot-true x None e = absurd (true≢false (sym e))
is_spot-true x (Some y) e = ap (λ (z : Spot). Some z) (sym (same_spot-true x y e))

-- the place is itself
pub is_spot-self : (x : Spot) (o : Option Spot) → o ≡ Some x → is_spot x o ≡ true
is_spot-self x o e = ap (is_spot x) e ∙ same_spot-self x

-- no two moves are to one place
pub targets_apart : (moves : List Move) (u v : Move) (x : Spot) → are_apart moves ≡ true → Contains moves u
    → Contains moves v → spot_of u.home ≡ Some x → spot_of v.home ≡ Some x → u.key ≡ v.key
targets_apart [] u v x apart iu iv eu ev = absurd (in_none u iu)
targets_apart (w ∷ more) u v x apart iu iv eu ev =
    let parts = apart_head w more apart in
    elim (in_cases u w more iu) [
      | inl fu ↦ elim (in_cases v w more iv) [
        | inl fv ↦ ap (λ (y : Move). y.key) (sym fu ∙ fv)
        | inr lv ↦ absurd (meets w v more parts.1 (ap (λ (y : Move). spot_of y.home) fu ∙ eu) ev lv)
      ]
      | inr lu ↦ elim (in_cases v w more iv) [
        | inl fv ↦ absurd (meets w u more parts.1 (ap (λ (y : Move). spot_of y.home) fv ∙ ev) eu lu)
        | inr lv ↦ targets_apart more u v x parts.2 lu lv eu ev
      ]
    ]
  where
    meets : (w v : Move) (more : List Move) → moves_to_spot more (spot_of w.home) ≡ false → spot_of w.home ≡ Some x
        → spot_of v.home ≡ Some x → Contains more v → ⊥
    meets w v more none ew ev inside =
        true≢false (sym (any_in (λ y. is_spot x (spot_of y.home)) more v inside (is_spot-self x (spot_of v.home) ev)) ∙ sym (ap (moves_to_spot more) ew) ∙ none)

-- a key with a place is in the list of homes
home_listed : (homes : List (Key × Home)) (k : Key) (x : Spot) → spot_at homes k ≡ Some x
    → (e : Key × Home) × Contains homes e × (e.0 ≡ k)
home_listed [] k x at = cc
home_listed (e ∷ more) k x at =
    elim (cases_Bool (same_key e.0 k)) [
      | inl hit ↦ (e, in_head e more, same_key-true e.0 k hit)
      | inr miss ↦
          let r = home_listed more k x (ap spot_of (sym (cond-false (same_key e.0 k) e.1 (home_of more k) miss)) ∙ at) in
          (r.0, in_tail r.0 e more r.1, r.2)
    ]

-- a place that is nobody's is the home of no key
pub nobodys_not : (homes : List (Key × Home)) (x : Spot) → is_nobodys homes (Some x) ≡ true → (k : Key)
    → spot_at homes k ≡ Some x → ⊥
nobodys_not homes x free k at =
    let r = home_listed homes k x at in
    let none = all_in (λ e. not (is_spot x (spot_at homes e.0))) homes free r.0 r.1 in
    true≢false (sym none ∙ ap not (is_spot-self x (spot_at homes r.0.0) (ap (spot_at homes) r.2 ∙ at)))

-- ---- places

bury : Bool → Place → Place
bury b q = cond b (place q.content Dead) q

vacant_buried : (b : Bool) → vacant ≡ bury b vacant
unfolding bury
vacant_buried true = refl
vacant_buried false = refl

entry_buried : (f : Spot → Bool) (e : Spot × Place) (x : Spot) (rest rest' : Place) (b : Bool) → f e.0 ≡ b
    → rest ≡ bury (f x) rest'
    → cond (same_spot (cond b (e.0, place (e.1).content Dead) e).0 x) (cond b (e.0, place (e.1).content Dead) e).1 rest ≡ bury (f x) (cond (same_spot e.0 x) e.1 rest')
unfolding bury
entry_buried f e x rest rest' true is so =
    elim (cases_Bool (same_spot e.0 x)) [
      | inl hit ↦ let here : f x ≡ true = ap f (sym (same_spot-true e.0 x hit)) ∙ is in rw (hit, here) refl
      | inr miss ↦ rw miss so
    ]
entry_buried f e x rest rest' false is so =
    elim (cases_Bool (same_spot e.0 x)) [
      | inl hit ↦ let here : f x ≡ false = ap f (sym (same_spot-true e.0 x hit)) ∙ is in rw (hit, here) refl
      | inr miss ↦ rw miss so
    ]

-- a place that a key leaves is dead, and any other is as it was
place_of-buried : (moves : List Move) (homes : List (Key × Home)) (places : List (Spot × Place)) (x : Spot)
    → place_of (buried moves homes places) x ≡ bury (is_left moves homes x) (place_of places x)
place_of-buried moves homes [] x = vacant_buried (is_left moves homes x)
place_of-buried moves homes (e ∷ more) x =
    entry_buried (is_left moves homes) e x (place_of (buried moves homes more) x) (place_of more x) (is_left moves homes e.0) refl (place_of-buried moves homes more x)

-- a place that a key leaves is dead
pub place-left : (moves : List Move) (homes : List (Key × Home)) (places : List (Spot × Place)) (x : Spot)
    → is_left moves homes x ≡ true
    → place_of (buried moves homes places) x ≡ place (place_of places x).content Dead
unfolding bury
place-left moves homes places x left = place_of-buried moves homes places x ∙ cond-true (is_left moves homes x) (place (place_of places x).content Dead) (place_of places x) left

-- any other is as it was
pub place-stays : (moves : List Move) (homes : List (Key × Home)) (places : List (Spot × Place)) (x : Spot)
    → is_left moves homes x ≡ false
    → place_of (buried moves homes places) x ≡ place_of places x
unfolding bury
place-stays moves homes places x stays = place_of-buried moves homes places x ∙ cond-false (is_left moves homes x) (place (place_of places x).content Dead) (place_of places x) stays

-- what stands at a home that no key leaves stays
pub stands-stays : (moves : List Move) (homes : List (Key × Home)) (places : List (Spot × Place)) (h : Home)
    → ((x : Spot) → spot_of h ≡ Some x → is_left moves homes x ≡ false)
    → stands_at (buried moves homes places) h ≡ stands_at places h
stands-stays moves homes places (InSlot x) stays = place-stays moves homes places x (stays x refl)
stands-stays moves homes places (InPage n c) stays = refl
stands-stays moves homes places Nowhere stays = refl

-- the place of a key that moves is left
pub left-by : (moves : List Move) (homes : List (Key × Home)) (k : Key) (x : Spot) → moves_key moves k ≡ true
    → spot_at homes k ≡ Some x → is_left moves homes x ≡ true
left-by moves homes k x hit at =
    let v = any_is (λ u. same_key u.key k) moves hit in
    any_in (λ u. is_spot x (spot_at homes u.key)) moves v.0 v.1 (is_spot-self x (spot_at homes v.0.key) (ap (spot_at homes) (same_key-true v.0.key k v.2) ∙ at))

-- and a place that is left is that of a key that moves
pub left-of : (moves : List Move) (homes : List (Key × Home)) (x : Spot) → is_left moves homes x ≡ true
    → (v : Move) × Contains moves v × (spot_at homes v.key ≡ Some x)
left-of moves homes x left =
    let v = any_is (λ u. is_spot x (spot_at homes u.key)) moves left in (v.0, v.1, is_spot-true x (spot_at homes v.0.key) v.2)
