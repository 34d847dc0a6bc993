-- Keys that are in a list once each, and the moves of them to places in a row.
use Rattle.std.proofs.Common.{◌≡◌, ℕ, zero, suc, ◌+◌, ◌<◌, Bool, true, false, true≢false, cond}
use Rattle.std.proofs.Common.{eqb, eq-eqb, ne_eqb, not, List, [], ◌∷◌, refl, sym, ap, ◌∙◌, arith, Some, None}
use Rattle.std.specs.Prelude.{◌&&◌, ◌||◌, is_none}
use Rattle.std.specs.List.{list_all, slice_get}
use Rattle.std.proofs.lemmas.Bool.{and_from, and_parts, false_from_ne_true, or_right}
use Rattle.serial_model.specs.declared.key.Key.{Key}
use Rattle.homes.specs.declared.places.Holder.TheVariants.{Free}
use Rattle.homes.specs.declared.places.Home.{Home}
use Rattle.homes.specs.declared.places.Home.TheVariants.{InSlot}
use Rattle.homes.specs.declared.places.Move.{Move}
use Rattle.homes.specs.declared.places.Spot.{Spot}
use Rattle.homes.specs.Homes.{has_key, is_free, moves_to, same_content, same_key}
use Rattle.homes.specs.Laws.{same_key-self, same_key-true}
use Rattle.commit_core.specs.declared.place.Place.{Place}
use Rattle.commit_core.specs.declared.story.Story.{Story}
use Rattle.commit_core.specs.Keys.{nothing}
use Rattle.commit_core.specs.Moves.{are_apart, can_move, can_rehome, is_below_all, is_left, is_movable, is_nobodys, is_spot}
use Rattle.commit_core.specs.Moves.{may_go_for, moves_key, moves_to_spot}
use Rattle.commit_core.specs.Places.{home_of, place_of, spot_at, spot_of, stands, stands_at}
use Rattle.drop_core.specs.declared.table.Table.{Table}
use Rattle.drop_core.specs.Event.{each_once}
use Rattle.drop_core.specs.Table.{leaf_home, snap_home}
use Rattle.engine_rule.specs.Pairs.{page_content}
use Rattle.engine_pages.specs.Words.{spot}
use Rattle.dual_pointer.proofs.Moves.{content-self, nobodys, snap_unspotted, stands_free}

-- ---- where a key of the list is

-- the key at an index is in the list
pub has_at : (keys : List Key) (i : ℕ) (k : Key) → slice_get keys i ≡ Some k → has_key keys k ≡ true
has_at [] i k is = absurd (cc)
has_at (x ∷ keys) zero k is =
    let same : x ≡ k = cc in
    ap (λ (c : Bool). c || has_key keys k) (ap (λ (z : Key). same_key x z) (sym same) ∙ same_key-self x)
has_at (x ∷ keys) (suc i) k is = or_right (same_key x k) (has_key keys k) (has_at keys i k is)

-- the first key isn't another one of the list
not_first : (x : Key) (keys : List Key) (i : ℕ) (k : Key) → has_key keys x ≡ false → slice_get keys i ≡ Some k
    → same_key x k ≡ false
not_first x keys i k none is =
    false_from_ne_true (same_key x k) (λ hit.
    true≢false (sym (ap (has_key keys) (same_key-true x k hit) ∙ has_at keys i k is) ∙ none))

-- the first key is there once
pub first_once : (x : Key) (keys : List Key) → each_once (x ∷ keys) ≡ true → (has_key keys x ≡ false) × (each_once keys ≡ true)
first_once x keys once =
    let parts = and_parts (not (has_key keys x)) (each_once keys) once in
    (by_test (has_key keys x) parts.0, parts.1)
  where
    by_test : (c : Bool) → not c ≡ true → c ≡ false
    by_test true e = absurd (true≢false (sym e))
    by_test false e = refl

-- it has its home at that index
pub home_at : (t j : ℕ) (keys : List Key) (i : ℕ) (k : Key) → each_once keys ≡ true → slice_get keys i ≡ Some k
    → leaf_home t j keys k ≡ InSlot (spot t (j + i))
home_at t j [] i k once is = absurd (cc)
home_at t j (x ∷ keys) zero k once is =
    let same : x ≡ k = cc in
    ap (λ (c : Bool). cond c (InSlot (spot t j)) (leaf_home t (suc j) keys k))
    (ap (λ (z : Key). same_key x z) (sym same) ∙ same_key-self x)
    ∙ ap (λ i. InSlot (spot t i)) (omega arith)
home_at t j (x ∷ keys) (suc i) k once is =
    let rest = first_once x keys once in
    ap (λ (c : Bool). cond c (InSlot (spot t j)) (leaf_home t (suc j) keys k)) (not_first x keys i k rest.0 is)
    ∙ (home_at t (suc j) keys i k rest.1 is ∙ ap (λ i. InSlot (spot t i)) (omega arith))

-- ---- moves

-- a key that isn't in the list isn't moved
pub not_moved : (to : Key → Home) (keys : List Key) (k : Key) → has_key keys k ≡ false → moves_key (moves_to to keys) k ≡ false
not_moved to [] k none = refl
not_moved to (x ∷ keys) k none =
    let parts = or_false (same_key x k) (has_key keys k) none in
    ap (λ (c : Bool). c || moves_key (moves_to to keys) k) parts.0 ∙ not_moved to keys k parts.1
  where
    or_false : (a c : Bool) → (a || c) ≡ false → (a ≡ false) × (c ≡ false)
    or_false true c e = absurd (true≢false e)
    or_false false c e = (refl, e)

-- each key goes to the place with its index, from this one on
abbrev Rows : (Key → Home) → ℕ → ℕ → List Key → Type 0
Rows to t j keys = (i : ℕ) (k : Key) → slice_get keys i ≡ Some k → to k ≡ InSlot (spot t (j + i))

next_rows : (to : Key → Home) (t j : ℕ) (x : Key) (keys : List Key) → Rows to t j (x ∷ keys) → Rows to t (j + 1) keys
next_rows to t j x keys rows i k is =
    rows (suc i) k is ∙ ap (λ y. InSlot (spot t y)) (let e : j + suc i ≡ (j + 1) + i = omega arith in e)

-- none goes to a place before theirs
not_there : (to : Key → Home) (t j : ℕ) (keys : List Key) (k : ℕ) → Rows to t j keys → k < j
    → moves_to_spot (moves_to to keys) (Some (spot t k)) ≡ false
not_there to t j [] k rows less = refl
not_there to t j (x ∷ keys) k rows less =
    ap (λ (h : Home). is_spot (spot t k) (spot_of h) || moves_to_spot (moves_to to keys) (Some (spot t k)))
    (rows 0 x refl ∙ ap (λ i. InSlot (spot t i)) (let e : j + 0 ≡ j = omega arith in e))
    ∙ (ap (λ (c : Bool). c || moves_to_spot (moves_to to keys) (Some (spot t k))) miss
    ∙ not_there to t (j + 1) keys k (next_rows to t j x keys rows) (omega arith))
  where
    miss : is_spot (spot t k) (Some (spot t j)) ≡ false
    miss = ap (λ (c : Bool). eqb t t && c) (ne_eqb k j (λ e. absurd (omega arith))) ∙ ap (λ (c : Bool). c && false) (eq-eqb t t refl)

pub apart_at : (to : Key → Home) (t j : ℕ) (keys : List Key) → each_once keys ≡ true → Rows to t j keys
    → are_apart (moves_to to keys) ≡ true
apart_at to t j [] once rows = refl
apart_at to t j (x ∷ keys) once rows =
    let more = moves_to to keys in
    let rest = first_once x keys once in
    let here : to x ≡ InSlot (spot t j) =
    rows 0 x refl ∙ ap (λ i. InSlot (spot t i)) (let e : j + 0 ≡ j = omega arith in e) in
    let later = next_rows to t j x keys rows in
    and_from (not (moves_key more x)) (not (moves_to_spot more (spot_of (to x))) && are_apart more)
    (ap not (not_moved to keys x rest.0))
    (and_from (not (moves_to_spot more (spot_of (to x)))) (are_apart more)
    (ap (λ (h : Home). not (moves_to_spot more (spot_of h))) here ∙ ap not (not_there to t (j + 1) keys j later (omega arith)))
    (apart_at to t (j + 1) keys rest.1 later))

-- what holds of each key holds of each move
pub each_at : (P : Move → Bool) (to : Key → Home) (keys : List Key)
    → ((i : ℕ) (k : Key) → slice_get keys i ≡ Some k → P (record { key = k; home = to k }) ≡ true)
    → list_all P (moves_to to keys) ≡ true
each_at P to [] each = refl
each_at P to (x ∷ keys) each =
    and_from (P (record { key = x; home = to x })) (list_all P (moves_to to keys)) (each 0 x refl)
    (each_at P to keys (λ i k is. each (suc i) k is))

-- no key leaves a place
pub left_at : (to : Key → Home) (homes : List (Key × Home)) (keys : List Key) (x : Spot)
    → ((i : ℕ) (k : Key) → slice_get keys i ≡ Some k → spot_at homes k ≡ None)
    → is_left (moves_to to keys) homes x ≡ false
left_at to homes [] x none = refl
left_at to homes (k ∷ keys) x none =
    ap (λ o. is_spot x o || is_left (moves_to to keys) homes x) (none 0 k refl)
    ∙ left_at to homes keys x (λ i q is. none (suc i) q is)

-- ---- the moves may be made

-- What is known of the keys of a leaf that is to be put in: their homes are those by a snapshot page, and its records say
-- the same.
pub record CanMoveAll (m : Story) (d : Table) (t : ℕ) (keys : List Key) (n : ℕ) : Type 0 where
  pub once : each_once keys ≡ true
  pub homes : (i : ℕ) (k : Key) → slice_get keys i ≡ Some k → home_of m.homes k ≡ snap_home d n k
  pub places : (i : ℕ) (k : Key) → slice_get keys i ≡ Some k
      → place_of m.places (spot t i) ≡ record { content = page_content (snap_home d n k); holder = Free }
  pub nobody : (k : Key) (i : ℕ) → home_of m.homes k ≡ InSlot (spot t i) → ⊥

pub may_move_all : (p : ℕ) (begins : Bool) (m : Story) (d : Table) (t : ℕ) (keys : List Key) (n : ℕ)
    → CanMoveAll m d t keys n → can_rehome p begins m (moves_to (leaf_home t 0 keys) keys) ≡ true
may_move_all p begins m d t keys n can =
    let to : Key → Home = leaf_home t 0 keys in
    and_from (are_apart (moves_to to keys)) (list_all (can_move p begins m) (moves_to to keys))
    (apart_at to t 0 keys can.once (λ i k is. home_at t 0 keys i k can.once is))
    (each_at (can_move p begins m) to keys (λ i k is. one i k is))
  where
    one : (i : ℕ) (k : Key) → slice_get keys i ≡ Some k
        → can_move p begins m (record { key = k; home = leaf_home t 0 keys k }) ≡ true
    one i k is =
        let plus : 0 + i ≡ i = omega arith in
        let to-is : leaf_home t 0 keys k ≡ InSlot (spot t i) =
        home_at t 0 keys i k can.once is ∙ ap (λ j. InSlot (spot t j)) plus in
        let home = can.homes i k is in
        let old : stands m.places m.homes k ≡ record { content = page_content (snap_home d n k); holder = Free } =
        ap (stands_at m.places) home ∙ stands_free m.places (snap_home d n k) (snap_unspotted d n k) in
        let new = can.places i k is in
        ap (λ (h : Home). can_move p begins m (record { key = k; home = h })) to-is
        ∙ and_from (is_movable p begins (stands m.places m.homes k).holder)
        (is_free (place_of m.places (spot t i)).holder
        && (is_nobodys m.homes (Some (spot t i)) && may_go_for m (place_of m.places (spot t i)).content (stands m.places m.homes k).content))
        (ap (λ (q : Place). is_movable p begins q.holder) old)
        (and_from (is_free (place_of m.places (spot t i)).holder)
        (is_nobodys m.homes (Some (spot t i)) && may_go_for m (place_of m.places (spot t i)).content (stands m.places m.homes k).content)
        (ap (λ (q : Place). is_free q.holder) new)
        (and_from (is_nobodys m.homes (Some (spot t i))) (may_go_for m (place_of m.places (spot t i)).content (stands m.places m.homes k).content)
        (nobodys m.homes (spot t i) (λ q e. can.nobody q i e))
        (ap (λ (q : Place). may_go_for m q.content (stands m.places m.homes k).content) new
        ∙ (ap (λ (q : Place). may_go_for m (page_content (snap_home d n k)) q.content) old
        ∙ ap (λ (c : Bool). c || (same_content (page_content (snap_home d n k)) nothing && (is_none (page_content (snap_home d n k)).value && is_below_all m.history m.decided m.given_up (page_content (snap_home d n k)).number)))
        (content-self (page_content (snap_home d n k)))))))
