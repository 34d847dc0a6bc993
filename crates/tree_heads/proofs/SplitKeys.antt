-- Lists of keys that move: which key is where, and that no two go to one place.
use Rattle.std.proofs.Common.{◌≡◌, ◌⊎◌, inl, inr, ℕ, zero, suc, Bool, true, false, true≢false, not, List, [], ◌∷◌, length, refl, sym, ap, ◌∙◌, arith, Some}
use Rattle.std.specs.Prelude.{◌&&◌, ◌||◌}
use Rattle.std.specs.List.{slice_get, list_all}
use Rattle.std.proofs.lemmas.Bool.{and_from, and_parts, cases_Bool}
use Rattle.serial_model.specs.declared.key.Key.{Key}
use Rattle.homes.specs.declared.places.Content.{Content}
use Rattle.homes.specs.declared.places.Home.{Home}
use Rattle.homes.specs.declared.places.Home.TheVariants.{InSlot, InPage, Nowhere}
use Rattle.homes.specs.declared.places.Spot.{Spot}
use Rattle.homes.specs.Homes.{has_key, moves_to, same_key, same_spot}
use Rattle.homes.specs.Laws.{same_key-self, same_key-true, same_spot-true}
use Rattle.commit_core.specs.Moves.{are_apart, is_spot, moves_key, moves_to_spot}
use Rattle.commit_core.specs.Places.{spot_of}
use Rattle.drop_core.specs.Event.{each_once}
use Rattle.dual_pointer.proofs.Keyed.{first_once, not_moved}

-- ---- tests

pub either_so : (a b : Bool) → (a || b) ≡ true → (a ≡ true) ⊎ (b ≡ true)
either_so true b e = inl refl
either_so false b e = inr e

pub or_so : (a b : Bool) → b ≡ true → (a || b) ≡ true
or_so true b e = refl
or_so false b e = e

-- what holds of each key of a list, and back
pub all_keys : (f : Key → Bool) (keys : List Key) → ((k : Key) → has_key keys k ≡ true → f k ≡ true)
    → list_all (λ k. f k) keys ≡ true
all_keys f [] each = refl
all_keys f (x ∷ keys) each =
    and_from (f x) (list_all (λ k. f k) keys) (each x (ap (λ (c : Bool). c || has_key keys x) (same_key-self x)))
    (all_keys f keys (λ k has. each k (or_so (same_key x k) (has_key keys k) has)))

pub each_key : (f : Key → Bool) (keys : List Key) (k : Key) → list_all (λ q. f q) keys ≡ true → has_key keys k ≡ true
    → f k ≡ true
each_key f [] k all has = absurd (true≢false (sym has))
each_key f (x ∷ keys) k all has =
    let both = and_parts (f x) (list_all (λ q. f q) keys) all in
    elim (either_so (same_key x k) (has_key keys k) has) [
      | inl hit ↦ ap f (sym (same_key-true x k hit)) ∙ both.0
      | inr more ↦ each_key f keys k both.1 more
    ]

-- ---- indexes

-- where a key of the list is
pub record IndexOf (keys : List Key) (k : Key) : Type 0 where
  pub index : ℕ
  pub at : slice_get keys index ≡ Some k

pub index_of : (keys : List Key) (k : Key) → has_key keys k ≡ true → IndexOf keys k
index_of [] k has = absurd (true≢false (sym has))
index_of (x ∷ keys) k has = elim (either_so (same_key x k) (has_key keys k) has) [
  | inl hit ↦ record { index = 0; at = ap (λ (z : Key). Some z) (same_key-true x k hit) }
  | inr more ↦ let rest = index_of keys k more in record { index = suc rest.index; at = rest.at }
]

-- what stands at the index in a list that is as long
pub beside : (keys : List Key) (list : List Content) (i : ℕ) (k : Key) → length list ≡ length keys
    → slice_get keys i ≡ Some k → (c : Content) × (slice_get list i ≡ Some c)
beside [] list i k long at = absurd (cc)
beside (x ∷ keys) [] i k long at = absurd (omega (arith, long))
beside (x ∷ keys) (c ∷ list) zero k long at = (c, refl)
beside (x ∷ keys) (c ∷ list) (suc i) k long at = beside keys list i k (omega (arith, long)) at

-- ---- moves

-- none of the keys goes to a place
not_to : (to : Key → Home) (keys : List Key) (x : Spot)
    → ((q : Key) → has_key keys q ≡ true → to q ≡ InSlot x → ⊥) → moves_to_spot (moves_to to keys) (Some x) ≡ false
not_to to [] x none = refl
not_to to (q ∷ keys) x none =
    ap (λ (c : Bool). c || moves_to_spot (moves_to to keys) (Some x)) (miss (to q) refl)
    ∙ not_to to keys x (λ k has. none k (or_so (same_key q k) (has_key keys k) has))
  where
    miss : (h : Home) → to q ≡ h → is_spot x (spot_of h) ≡ false
    miss (InSlot y) e = elim (cases_Bool (same_spot x y)) [
      | inl hit ↦
          absurd (none q (ap (λ (c : Bool). c || has_key keys q) (same_key-self q)) (e ∙ ap InSlot (sym (same_spot-true x y hit))))
      | inr other ↦ other
    ]
    miss (InPage n c) e = refl
    miss Nowhere e = refl

-- keys that go to places of their own are moved apart
pub apart_of : (to : Key → Home) (keys : List Key) → each_once keys ≡ true
    → ((k : Key) → has_key keys k ≡ true → (x : Spot) × (to k ≡ InSlot x))
    → ((k q : Key) (x : Spot) → has_key keys k ≡ true → has_key keys q ≡ true → to k ≡ InSlot x → to q ≡ InSlot x → q ≡ k)
    → are_apart (moves_to to keys) ≡ true
apart_of to [] once goes one = refl
apart_of to (x ∷ keys) once goes one =
    let more = moves_to to keys in
    let rest = first_once x keys once in
    let first : has_key (x ∷ keys) x ≡ true = ap (λ (c : Bool). c || has_key keys x) (same_key-self x) in
    let here = goes x first in
    let none : moves_to_spot more (Some here.0) ≡ false =
    not_to to keys here.0 (λ q has there.
    true≢false (sym has
    ∙ (ap (has_key keys) (one x q here.0 first (or_so (same_key x q) (has_key keys q) has) here.1 there) ∙ rest.0))) in
    and_from (not (moves_key more x)) (not (moves_to_spot more (spot_of (to x))) && are_apart more)
    (ap not (not_moved to keys x rest.0))
    (and_from (not (moves_to_spot more (spot_of (to x)))) (are_apart more)
    (ap (λ (h : Home). not (moves_to_spot more (spot_of h))) here.1 ∙ ap not none)
    (apart_of to keys rest.1 (λ k has. goes k (or_so (same_key x k) (has_key keys k) has))
    (λ k q y has-k has-q. one k q y (or_so (same_key x k) (has_key keys k) has-k) (or_so (same_key x q) (has_key keys q) has-q))))
