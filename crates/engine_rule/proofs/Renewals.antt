-- A key that is added to a leaf: its page and its place after it, and the renewal of what the seat keeps of the header.
use Rattle.std.proofs.Common.{◌≡◌, ℕ, zero, suc, Bool, true, false, true≢false, eqb, eq-eqb, cond, ◌&&◌, inl, inr, List, [], ◌∷◌, ◌++◌, length, refl, sym, ap, ◌∙◌, set, Some}
use Rattle.std.proofs.lemmas.Bool.{and_parts, cond-true, or_cases, false_from_ne_true}
use Rattle.std.specs.List.{list_all}
use Rattle.serial_model.specs.declared.key.Key.{Key}
use Rattle.homes.specs.declared.places.Holder.TheVariants.{Free}
use Rattle.homes.specs.declared.places.Spot.{Spot}
use Rattle.homes.specs.declared.places.Home.TheVariants.{InSlot}
use Rattle.homes.specs.declared.places.Move.{Move}
use Rattle.homes.specs.Homes.{same_key, is_free}
use Rattle.homes.specs.Laws.{same_key-self}
use Rattle.commit_core.specs.declared.place.Place.{Place}
use Rattle.commit_core.specs.declared.event.Act.TheVariants.{Keep}
use Rattle.commit_core.specs.declared.seat.Stage.{Stage}
use Rattle.commit_core.specs.declared.seat.Stage.TheVariants.{Idle, Trying, Ended, Decided}
use Rattle.commit_core.specs.declared.seat.Seat.{Seat}
use Rattle.commit_core.specs.declared.story.Story.{Story}
use Rattle.commit_core.specs.CoreState.{is_trying, can_begin, settled_at, settled}
use Rattle.commit_core.specs.Places.{place_of, home_of, stands, spot_of, spot_at}
use Rattle.commit_core.specs.Event.{Moved, effect as commit_effect}
use Rattle.commit_core.specs.Moves.{are_apart, is_spot, is_nobodys, is_movable, may_go_for, can_move, is_left}
use Rattle.commit_core.specs.Lemmas.Moves.{is_spot-true, nobodys_not, place-stays}
use Rattle.drop_core.specs.declared.table.Page.TheVariants.{Leaf}
use Rattle.drop_core.specs.declared.table.Table.{Table}
use Rattle.drop_core.specs.Table.{page_of, header_of}
use Rattle.drop_core.specs.Event.{with_key, grown, moves}
use Rattle.engine_rule.specs.JointState.{keeps_header_at, header_part}
use Rattle.engine_rule.specs.Event.{may_move, after_moves, next_spot, opening_with, and_seen, renewed}

-- an element that is set twice
pub set_twice : {A : Type 0} (xs : List A) (i : ℕ) (a b : A) → set (set xs i a) i b ≡ set xs i b
set_twice [] i a b = refl
set_twice {A} (x ∷ xs) zero a b = refl
set_twice {A} (x ∷ xs) (suc i) a b = ap (λ (l : List A). x ∷ l) (set_twice xs i a b)

-- ---- the page

pub grown_page : (d : Table) (t : ℕ) (k : Key) (keys : List Key) → page_of d t ≡ Leaf keys → page_of (grown d t k) t ≡ Leaf (keys ++ k ∷ [])
grown_page d t k keys page = cond-true (eqb t t) (with_key k (page_of d t)) (page_of d t) (eq-eqb t t refl) ∙ ap (with_key k) page

pub grown_header : (d : Table) (t : ℕ) (k : Key) → header_of (grown d t k) t ≡ Free
grown_header d t k = cond-true (eqb t t) Free (header_of d t) (eq-eqb t t refl)

-- ---- the seat

-- a seat that comes to rest has no attempt in progress more than before
pub settled_rests : (s : Seat) → is_trying s.stage ≡ false → is_trying (settled s).stage ≡ false
settled_rests s rests = by_locks (eqb (length s.locks) 0)
  where
    at_stage : (g : Stage) → is_trying (settled_at g s).stage ≡ false
    at_stage Idle = rests
    at_stage (Trying i) = rests
    at_stage Ended = refl
    at_stage (Decided i) = refl

    by_locks : (b : Bool) → is_trying (cond b (settled_at s.stage s) s).stage ≡ false
    by_locks true = at_stage s.stage
    by_locks false = rests

-- the renewal changes what the seat keeps alone
pub renewed_story : (p : ℕ) (e : Table) (t count : ℕ) (k : Key) (n : Moved) → (renewed p e t count k n).story ≡ n.story
renewed_story p e t count k n = by_kept (keeps_header_at n.seat.kept t count)
  where
    by_kept : (b : Bool) → (cond b (and_seen p k (commit_effect p n.story n.seat (Keep (header_part e t)))) n).story ≡ n.story
    by_kept true = refl
    by_kept false = refl

-- ---- the place

module _ (p : ℕ) (m : Story) (s : Seat) (d : Table) (t : ℕ) (k : Key) (may : may_move p m s (moves d (opening_with t k)) ≡ true) where
  abbrev x : Spot
  x = next_spot d t

  abbrev v : Move
  v = record { key = k; home = InSlot x }

  abbrev n : Moved
  n = after_moves p m s (moves d (opening_with t k))

  can : can_move p (can_begin s.stage) m v ≡ true
  can = (and_parts (can_move p (can_begin s.stage) m v) true (and_parts (are_apart (v ∷ [])) (list_all (can_move p (can_begin s.stage) m) (v ∷ [])) may).1).0

  rest : ((is_free (place_of m.places x).holder && (is_nobodys m.homes (Some x) && may_go_for m (place_of m.places x).content (stands m.places m.homes k).content)) ≡ true)
  rest = (and_parts (is_movable p (can_begin s.stage) (stands m.places m.homes k).holder)
      (is_free (place_of m.places x).holder && (is_nobodys m.homes (Some x) && may_go_for m (place_of m.places x).content (stands m.places m.homes k).content)) can).1

  parts : (is_free (place_of m.places x).holder ≡ true) × ((is_nobodys m.homes (Some x) && may_go_for m (place_of m.places x).content (stands m.places m.homes k).content) ≡ true)
  parts = and_parts (is_free (place_of m.places x).holder) (is_nobodys m.homes (Some x) && may_go_for m (place_of m.places x).content (stands m.places m.homes k).content) rest

  both : (is_nobodys m.homes (Some x) ≡ true) × (may_go_for m (place_of m.places x).content (stands m.places m.homes k).content ≡ true)
  both = and_parts (is_nobodys m.homes (Some x)) (may_go_for m (place_of m.places x).content (stands m.places m.homes k).content) parts.1

  pub goes_for : may_go_for m (place_of m.places x).content (stands m.places m.homes k).content ≡ true
  goes_for = both.1

  not_left : is_left (v ∷ []) m.homes x ≡ false
  not_left = false_from_ne_true (is_left (v ∷ []) m.homes x) (λ e. elim (or_cases (is_spot x (spot_at m.homes k)) false e) [
    | inl hit ↦ nobodys_not m.homes x both.0 k (is_spot-true x (spot_at m.homes k) hit)
    | inr none ↦ true≢false (sym none)
  ])

  -- the key is in the place behind the others, where nobody holds what stood there
  pub new_home : spot_at n.story.homes k ≡ Some x
  new_home = ap spot_of (cond-true (same_key k k) (InSlot x) (home_of m.homes k) (same_key-self k))

  pub new_place : place_of n.story.places x ≡ place_of m.places x
  new_place = place-stays (v ∷ []) m.homes m.places x not_left

  pub new_free : is_free (place_of n.story.places x).holder ≡ true
  new_free = ap (λ (q : Place). is_free q.holder) new_place ∙ parts.0

  pub new_rests : is_trying s.stage ≡ false → is_trying n.seat.stage ≡ false
  new_rests rests = settled_rests _ rests
