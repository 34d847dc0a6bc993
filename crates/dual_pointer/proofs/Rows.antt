-- Keys in a row, and the moves of them to places in a row.
use Rattle.std.proofs.Common.{◌≡◌, ◌≢◌, ℕ, zero, suc, ◌+◌, ◌-◌, ◌*◌, ◌<◌, Bool, true, false, cond, eqb, eq-eqb, ne_eqb, not, List, [], ◌∷◌, length, get_or, drop, refl, sym, ap, ◌∙◌, arith, Option, Some, None}
use Rattle.std.specs.Prelude.{◌&&◌, ◌||◌}
use Rattle.std.specs.List.{list_all, slice_get}
use Rattle.std.proofs.lemmas.Bool.{and_from}
use Rattle.serial_model.specs.declared.key.Key.{Key}
use Rattle.homes.specs.declared.places.Holder.TheVariants.{Dead}
use Rattle.homes.specs.declared.places.Home.{Home}
use Rattle.homes.specs.declared.places.Home.TheVariants.{InSlot}
use Rattle.homes.specs.declared.places.Move.{Move}
use Rattle.homes.specs.declared.places.Spot.{Spot}
use Rattle.homes.specs.Homes.{same_key, moves_to}
use Rattle.commit_core.specs.declared.place.Place.{Place}
use Rattle.snapshot_store.specs.ArrayPages.{row}
use Rattle.snapshot_store.specs.declared.place.PagePlace.{PagePlace}
use Rattle.commit_core.specs.Moves.{is_spot, moves_key, moves_to_spot, are_apart, is_left, buried_entry, buried}
use Rattle.commit_core.specs.Places.{spot_of, spot_at}
use Rattle.engine_pages.specs.Pages.{keys_from}
use Rattle.engine_pages.specs.Words.{spot}
use Rattle.std.proofs.lemmas.Bool.{or_right}
use Rattle.homes.specs.Homes.{has_key}
use Rattle.homes.specs.Laws.{same_key-self}
use Rattle.drop_core.specs.Table.{leaf_home}

-- ---- keys in a row

-- a key of a storage
abbrev pub key_of : ℕ → ℕ → Key
key_of id k = record { storage = id; key = k }

pub length_keys : (id low n : ℕ) → length (keys_from id low n) ≡ n
length_keys id low zero = refl
length_keys id low (suc n) = ap suc (length_keys id (low + 1) n)

key_next : (id low i : ℕ) → key_of id ((low + 1) + i) ≡ key_of id (low + suc i)
key_next id low i = ap (key_of id) (omega arith)

-- two keys of one storage differ
apart_keys : (id a b : ℕ) → a ≢ b → same_key (key_of id a) (key_of id b) ≡ false
apart_keys id a b other = ap (λ (c : Bool). eqb id id && c) (ne_eqb a b other) ∙ ap (λ (c : Bool). c && false) (eq-eqb id id refl)

pub home_from : (t j id low n i : ℕ) → i < n → leaf_home t j (keys_from id low n) (key_of id (low + i)) ≡ InSlot (spot t (j + i))
home_from t j id low zero i less = absurd (omega arith)
home_from t j id low (suc n) zero less =
    let same : key_of id low ≡ key_of id (low + 0) = ap (key_of id) (omega arith) in
    ap (λ (c : Bool). cond c (InSlot (spot t j)) (leaf_home t (suc j) (keys_from id (low + 1) n) (key_of id (low + 0))))
    (ap (λ (k : Key). same_key (key_of id low) k) (sym same) ∙ same_key-self (key_of id low))
    ∙ ap (λ k. InSlot (spot t k)) (omega arith)
home_from t j id low (suc n) (suc i) less =
    ap (λ (c : Bool). cond c (InSlot (spot t j)) (leaf_home t (suc j) (keys_from id (low + 1) n) (key_of id (low + suc i))))
    (apart_keys id low (low + suc i) (λ e. absurd (omega arith)))
    ∙ (ap (λ (k : Key). leaf_home t (suc j) (keys_from id (low + 1) n) k) (sym (key_next id low i))
    ∙ (home_from t (suc j) id (low + 1) n i (omega arith) ∙ ap (λ k. InSlot (spot t k)) (omega arith)))

pub has_from : (id low n i : ℕ) → i < n → has_key (keys_from id low n) (key_of id (low + i)) ≡ true
has_from id low zero i less = absurd (omega arith)
has_from id low (suc n) zero less =
    let same : key_of id low ≡ key_of id (low + 0) = ap (key_of id) (omega arith) in
    ap (λ (c : Bool). c || has_key (keys_from id (low + 1) n) (key_of id (low + 0)))
    (ap (λ (k : Key). same_key (key_of id low) k) (sym same) ∙ same_key-self (key_of id low))
has_from id low (suc n) (suc i) less =
    or_right (same_key (key_of id low) (key_of id (low + suc i))) (has_key (keys_from id (low + 1) n) (key_of id (low + suc i)))
    (ap (λ (k : Key). has_key (keys_from id (low + 1) n) k) (sym (key_next id low i)) ∙ has_from id (low + 1) n i (omega arith))

-- ---- moves of keys in a row to places in a row

other_key : (id a b : ℕ) → a ≢ b → same_key (key_of id a) (key_of id b) ≡ false
other_key id a b other = ap (λ (c : Bool). eqb id id && c) (ne_eqb a b other) ∙ ap (λ (c : Bool). c && false) (eq-eqb id id refl)

-- a key below the row isn't moved
not_moved : (to : Key → Home) (id low n k : ℕ) → k < low → moves_key (moves_to to (keys_from id low n)) (key_of id k) ≡ false
not_moved to id low zero k less = refl
not_moved to id low (suc n) k less =
    ap (λ (c : Bool). c || moves_key (moves_to to (keys_from id (low + 1) n)) (key_of id k)) (other_key id low k (λ e. absurd (omega arith)))
    ∙ not_moved to id (low + 1) n k (omega arith)

-- nor is a key moved to a place before theirs
not_there : (to : Key → Home) (t j id low n k : ℕ)
    → ((i : ℕ) → i < n → to (key_of id (low + i)) ≡ InSlot (spot t (j + i))) → k < j
    → moves_to_spot (moves_to to (keys_from id low n)) (Some (spot t k)) ≡ false
not_there to t j id low zero k rows less = refl
not_there to t j id low (suc n) k rows less =
    ap (λ (h : Home). is_spot (spot t k) (spot_of h) || moves_to_spot (moves_to to (keys_from id (low + 1) n)) (Some (spot t k)))
    (ap (λ i. to (key_of id i)) plus ∙ (rows 0 (omega arith) ∙ ap (λ i. InSlot (spot t i)) none))
    ∙ (ap (λ (c : Bool). c || moves_to_spot (moves_to to (keys_from id (low + 1) n)) (Some (spot t k))) miss
    ∙ not_there to t (j + 1) id (low + 1) n k (λ i few. ap (λ y. to (key_of id y)) (next low i) ∙ (rows (suc i) (omega arith) ∙ ap (λ y. InSlot (spot t y)) (next' j i))) (omega arith))
  where
    plus : low ≡ low + 0
    plus = omega arith

    none : j + 0 ≡ j
    none = omega arith

    next : (low i : ℕ) → (low + 1) + i ≡ low + suc i
    next low i = omega arith

    next' : (j i : ℕ) → j + suc i ≡ (j + 1) + i
    next' j i = omega arith

    miss : is_spot (spot t k) (Some (spot t j)) ≡ false
    miss = ap (λ (c : Bool). eqb t t && c) (ne_eqb k j (λ e. absurd (omega arith))) ∙ ap (λ (c : Bool). c && false) (eq-eqb t t refl)

pub apart_rows : (to : Key → Home) (t j id low n : ℕ)
    → ((i : ℕ) → i < n → to (key_of id (low + i)) ≡ InSlot (spot t (j + i)))
    → are_apart (moves_to to (keys_from id low n)) ≡ true
apart_rows to t j id low zero rows = refl
apart_rows to t j id low (suc n) rows =
    let more = moves_to to (keys_from id (low + 1) n) in
    let here : to (key_of id low) ≡ InSlot (spot t j) =
    ap (λ i. to (key_of id i)) plus ∙ (rows 0 (omega arith) ∙ ap (λ i. InSlot (spot t i)) none) in
    let rest : (i : ℕ) → i < n → to (key_of id ((low + 1) + i)) ≡ InSlot (spot t ((j + 1) + i)) =
    λ i few. ap (λ y. to (key_of id y)) (next low i) ∙ (rows (suc i) (omega arith) ∙ ap (λ y. InSlot (spot t y)) (next' j i)) in
    and_from (not (moves_key more (key_of id low))) (not (moves_to_spot more (spot_of (to (key_of id low)))) && are_apart more)
    (ap not (not_moved to id (low + 1) n low (omega arith)))
    (and_from (not (moves_to_spot more (spot_of (to (key_of id low))))) (are_apart more)
    (ap (λ (h : Home). not (moves_to_spot more (spot_of h))) here ∙ ap not (not_there to t (j + 1) id (low + 1) n j rest (omega arith)))
    (apart_rows to t (j + 1) id (low + 1) n rest))
  where
    plus : low ≡ low + 0
    plus = omega arith

    none : j + 0 ≡ j
    none = omega arith

    next : (low i : ℕ) → (low + 1) + i ≡ low + suc i
    next low i = omega arith

    next' : (j i : ℕ) → j + suc i ≡ (j + 1) + i
    next' j i = omega arith

-- ---- what holds of each key of a row holds of each move

pub each_move : (P : Move → Bool) (to : Key → Home) (id low n : ℕ)
    → ((i : ℕ) → i < n → P (record { key = key_of id (low + i); home = to (key_of id (low + i)) }) ≡ true)
    → list_all P (moves_to to (keys_from id low n)) ≡ true
each_move P to id low zero each = refl
each_move P to id low (suc n) each =
    and_from (P (record { key = key_of id low; home = to (key_of id low) })) (list_all P (moves_to to (keys_from id (low + 1) n)))
    (ap (λ i. P (record { key = key_of id i; home = to (key_of id i) })) plus ∙ each 0 (omega arith))
    (each_move P to id (low + 1) n (λ i few. ap (λ i. P (record { key = key_of id i; home = to (key_of id i) })) (next low i) ∙ each (suc i) (omega arith)))
  where
    plus : low ≡ low + 0
    plus = omega arith

    next : (low i : ℕ) → (low + 1) + i ≡ low + suc i
    next low i = omega arith

-- ---- no place is left, and the horizon stays

-- each moved key has no place
pub none_left : (to : Key → Home) (homes : List (Key × Home)) (id low n : ℕ) (x : Spot)
    → ((i : ℕ) → i < n → spot_at homes (key_of id (low + i)) ≡ None)
    → is_left (moves_to to (keys_from id low n)) homes x ≡ false
none_left to homes id low zero x none = refl
none_left to homes id low (suc n) x none =
    ap (λ o. is_spot x o || is_left (moves_to to (keys_from id (low + 1) n)) homes x) (ap (λ i. spot_at homes (key_of id i)) plus ∙ none 0 (omega arith))
    ∙ none_left to homes id (low + 1) n x (λ i few. ap (λ i. spot_at homes (key_of id i)) (next low i) ∙ none (suc i) (omega arith))
  where
    plus : low ≡ low + 0
    plus = omega arith

    next : (low i : ℕ) → (low + 1) + i ≡ low + suc i
    next low i = omega arith

pub buried_none : (moves : List Move) (homes : List (Key × Home)) (places : List (Spot × Place))
    → ((x : Spot) → is_left moves homes x ≡ false) → buried moves homes places ≡ places
buried_none moves homes [] none = refl
buried_none moves homes (e ∷ places) none =
    ap (λ (z : Spot × Place). z ∷ buried moves homes places) (one e)
    ∙ ap (λ (z : List (Spot × Place)). e ∷ z) (buried_none moves homes places none)
  where
    one : (e : Spot × Place) → buried_entry moves homes e ≡ e
    one e = ap (λ (c : Bool). cond c (e.0, record { content = e.1.content; holder = Dead }) e) (none e.0)

-- ---- the places below an interior page

behind : (words : List ℕ) (i : ℕ) → get_or (drop 1 words) i 0 ≡ get_or words (suc i) 0
behind [] i = refl
behind (w ∷ words) i = refl

-- a place from its parts
abbrev placed_at : ℕ → ℕ → ℕ → Option PagePlace
placed_at number low part = Some (record { number = number; low = low; high = low + (part - 1) })

-- the place with an index in a row
pub row_at : (words : List ℕ) (part low n j : ℕ) → j < n
    → slice_get (row words part low n) j
    ≡ Some (record { number = get_or words j 0; low = low + j * part; high = (low + j * part) + (part - 1) })
row_at words part low zero j less = absurd (omega arith)
row_at words part low (suc n) zero less =
    let none : low ≡ low + 0 * part = omega arith in ap (λ i. placed_at (get_or words 0 0) i part) none
row_at words part low (suc n) (suc j) less =
    let product : suc j * part ≡ part + j * part = omega arith in
    let further : (low + part) + j * part ≡ low + suc j * part = omega (arith, product) in
    row_at (drop 1 words) part (low + part) n j (omega arith)
    ∙ (ap (λ i. placed_at i ((low + part) + j * part) part) (behind words j)
    ∙ ap (λ i. placed_at (get_or words (suc j) 0) i part) further)
