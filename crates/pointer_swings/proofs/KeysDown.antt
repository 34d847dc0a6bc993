-- Keys of a list go down to a snapshot page: the moves of a swing of a tree's leaf.
use Rattle.std.proofs.Common.{◌≡◌, inl, inr, ℕ, suc, ◌+◌, ◌<◌, ◌≤◌, Bool, true, false, true≢false, eqb, ltb, not}
use Rattle.std.proofs.Common.{List, [], ◌∷◌, refl, sym, ap, ◌∙◌, arith, Option, Some, None}
use Rattle.std.specs.Prelude.{◌&&◌, ◌||◌, is_none, is_some}
use Rattle.std.specs.List.{Contains, list_all, slice_get}
use Rattle.std.proofs.lemmas.Bool.{and_from, or_left, or_right}
use Rattle.std.proofs.lemmas.Bool.Decides.{nat_tests}
use Rattle.lists.specs.Elements.{in_head, in_tail}
use Rattle.serial_model.specs.declared.key.Key.{Key}
use Rattle.serial_model.specs.declared.number.Number.{Number}
use Rattle.serial_model.specs.Numbers.{is_below}
use Rattle.homes.specs.declared.places.Content.{Content}
use Rattle.homes.specs.declared.places.Holder.TheVariants.{Free}
use Rattle.homes.specs.declared.places.Home.{Home}
use Rattle.homes.specs.declared.places.Spot.{Spot}
use Rattle.homes.specs.Homes.{is_free, moves_to, same_content, same_spot}
use Rattle.homes.specs.Laws.{same_spot-true}
use Rattle.commit_core.specs.declared.attempt.Attempt.{Attempt}
use Rattle.commit_core.specs.declared.place.Place.{Place}
use Rattle.commit_core.specs.declared.story.Story.{Story}
use Rattle.commit_core.specs.CoreState.{is_in_progress}
use Rattle.commit_core.specs.Keys.{nothing}
use Rattle.commit_core.specs.Moves.{are_apart, can_move, can_rehome, is_below_all, is_left, is_movable, is_nobodys}
use Rattle.commit_core.specs.Moves.{is_spot, may_go_for, moves_key, moves_to_spot}
use Rattle.commit_core.specs.Parts.{IsSameOrAbsent}
use Rattle.commit_core.specs.Places.{holder_is, place_of, spot_at, spot_of, stands, stands_at}
use Rattle.drop_core.specs.declared.table.Table.{Table}
use Rattle.drop_core.specs.Event.{each_once}
use Rattle.drop_core.specs.Table.{snap_home}
use Rattle.engine_rule.specs.Event.{absences_are_old, holds_all, is_before_all}
use Rattle.engine_rule.specs.Pairs.{page_content}
use Rattle.engine_pages.specs.Words.{spot}
use Rattle.dual_pointer.proofs.Keyed.{each_at, first_once, not_moved}
use Rattle.dual_pointer.proofs.Moves.{content-self, snap_unspotted, stands_free}

-- ---- lists of keys

-- what is true of the key at each index
pub each_in : (P : Key → Bool) (keys : List Key) → ((i : ℕ) (k : Key) → slice_get keys i ≡ Some k → P k ≡ true)
    → list_all P keys ≡ true
each_in P [] each = refl
each_in P (x ∷ keys) each =
    and_from (P x) (list_all P keys) (each 0 x refl) (each_in P keys (λ i k is. each (suc i) k is))

-- moves to homes that are in no slot are apart
apart_keys : (to : Key → Home) (keys : List Key) → ((k : Key) → spot_of (to k) ≡ None) → each_once keys ≡ true
    → are_apart (moves_to to keys) ≡ true
apart_keys to [] none once = refl
apart_keys to (x ∷ keys) none once =
    let more = moves_to to keys in
    let rest = first_once x keys once in
    and_from (not (moves_key more x)) (not (moves_to_spot more (spot_of (to x))) && are_apart more)
    (ap not (not_moved to keys x rest.0))
    (and_from (not (moves_to_spot more (spot_of (to x)))) (are_apart more)
    (ap (λ o. not (moves_to_spot more o)) (none x)) (apart_keys to keys none rest.1))

-- a place that is left by keys in a row of places is one of theirs
pub left_keys : (to : Key → Home) (homes : List (Key × Home)) (t j : ℕ) (keys : List Key) (y : Spot)
    → ((i : ℕ) (k : Key) → slice_get keys i ≡ Some k → spot_at homes k ≡ Some (spot t (j + i)))
    → is_left (moves_to to keys) homes y ≡ true
    → (i : ℕ) × (k : Key) × (slice_get keys i ≡ Some k) × (y ≡ spot t (j + i))
left_keys to homes t j [] y rows left = absurd (true≢false (sym left))
left_keys to homes t j (x ∷ keys) y rows left =
    by_first (is_spot y (spot_at homes x)) refl
    (λ more. left_keys to homes t (j + 1) keys y (λ i k is. rows (suc i) k is ∙ ap (λ i. Some (spot t i)) (sym (plus_next j i))) more)
  where
    plus_next : (j i : ℕ) → (j + 1) + i ≡ j + suc i
    plus_next j i = omega arith

    by_first : (c : Bool) → is_spot y (spot_at homes x) ≡ c
        → (is_left (moves_to to keys) homes y ≡ true
        → (i : ℕ) × (k : Key) × (slice_get keys i ≡ Some k) × (y ≡ spot t ((j + 1) + i)))
        → (i : ℕ) × (k : Key) × (slice_get (x ∷ keys) i ≡ Some k) × (y ≡ spot t (j + i))
    by_first true hit rest =
        let same : same_spot y (spot t (j + 0)) ≡ true = sym (ap (is_spot y) (rows 0 x refl)) ∙ hit in
        (0, x, refl, same_spot-true y (spot t (j + 0)) same)
    by_first false miss rest =
        let found = rest (sym (ap (λ (c : Bool). c || is_left (moves_to to keys) homes y) miss) ∙ left) in
        (suc found.0, found.1, found.2, found.3 ∙ ap (spot t) (plus_next j found.0))

-- and so it is where the places are in any slots
pub left_by : (to : Key → Home) (homes : List (Key × Home)) (keys : List Key) (y : Spot)
    → ((k : Key) → Contains keys k → (z : Spot) × (spot_at homes k ≡ Some z))
    → is_left (moves_to to keys) homes y ≡ true → (k : Key) × Contains keys k × (spot_at homes k ≡ Some y)
left_by to homes [] y at left = absurd (true≢false (sym left))
left_by to homes (x ∷ keys) y at left =
    by_first (is_spot y (spot_at homes x)) refl (λ more. left_by to homes keys y (λ k has. at k (in_tail k x keys has)) more)
  where
    by_first : (c : Bool) → is_spot y (spot_at homes x) ≡ c
        → (is_left (moves_to to keys) homes y ≡ true → (k : Key) × Contains keys k × (spot_at homes k ≡ Some y))
        → (k : Key) × Contains (x ∷ keys) k × (spot_at homes k ≡ Some y)
    by_first true hit rest =
        let here = at x (in_head x keys) in
        let same : same_spot y here.0 ≡ true = sym (ap (is_spot y) here.1) ∙ hit in
        (x, in_head x keys, here.1 ∙ ap Some (sym (same_spot-true y here.0 same)))
    by_first false miss rest =
        let found = rest (sym (ap (λ (c : Bool). c || is_left (moves_to to keys) homes y) miss) ∙ left) in
        (found.0, in_tail found.0 x keys found.1, found.2)

-- ---- an absence that is old

-- the epoch is below that of each attempt in progress
abbrev pub IsOver : Story → ℕ → Type 0
IsOver m epoch = (a : Attempt) → Contains m.history a → is_in_progress m.decided m.given_up a.number ≡ true → epoch < a.number.epoch

pub before_all : (m : Story) (epoch n : ℕ) → IsOver m epoch → n ≤ epoch → is_before_all m n ≡ true
before_all m epoch n over low = all m.history over
  where
    all : (list : List Attempt)
        → ((a : Attempt) → Contains list a → is_in_progress m.decided m.given_up a.number ≡ true → epoch < a.number.epoch)
        → list_all (λ a. not (is_in_progress m.decided m.given_up a.number) || ltb n a.number.epoch) list ≡ true
    all [] each = refl
    all (a ∷ more) each =
        and_from (not (is_in_progress m.decided m.given_up a.number) || ltb n a.number.epoch) _
        (by_progress (is_in_progress m.decided m.given_up a.number) refl) (all more (λ c has. each c (in_tail c a more has)))
      where
        by_progress : (c : Bool) → is_in_progress m.decided m.given_up a.number ≡ c
            → (not (is_in_progress m.decided m.given_up a.number) || ltb n a.number.epoch) ≡ true
        by_progress true now =
            let after = each a (in_head a more) now in
            or_right (not (is_in_progress m.decided m.given_up a.number)) (ltb n a.number.epoch) (grind (arith, nat_tests))
        by_progress false now =
            or_left (not (is_in_progress m.decided m.given_up a.number)) (ltb n a.number.epoch) (ap not now)

pub below_all : (m : Story) (epoch : ℕ) (n : Number) → IsOver m epoch → n.epoch ≤ epoch
    → is_below_all m.history m.decided m.given_up n ≡ true
below_all m epoch n over low = all m.history over
  where
    all : (list : List Attempt)
        → ((a : Attempt) → Contains list a → is_in_progress m.decided m.given_up a.number ≡ true → epoch < a.number.epoch)
        → list_all (λ a. not (is_in_progress m.decided m.given_up a.number) || is_below n a.number) list ≡ true
    all [] each = refl
    all (a ∷ more) each =
        and_from (not (is_in_progress m.decided m.given_up a.number) || is_below n a.number) _
        (by_progress (is_in_progress m.decided m.given_up a.number) refl) (all more (λ c has. each c (in_tail c a more has)))
      where
        less_so : (a b c : ℕ) → a ≤ b → b < c → ltb a c ≡ true
        less_so a b c low high = grind (arith, nat_tests)

        by_progress : (c : Bool) → is_in_progress m.decided m.given_up a.number ≡ c
            → (not (is_in_progress m.decided m.given_up a.number) || is_below n a.number) ≡ true
        by_progress true now =
            let after = each a (in_head a more) now in
            or_right (not (is_in_progress m.decided m.given_up a.number)) (is_below n a.number)
            (or_left (ltb n.epoch a.number.epoch) (eqb n.epoch a.number.epoch && ltb n.draw a.number.draw)
            (less_so n.epoch epoch a.number.epoch low after))
        by_progress false now =
            or_left (not (is_in_progress m.decided m.given_up a.number)) (is_below n a.number) (ap not now)

-- ---- the moves may be made

-- what is known of a key that goes down from this place to page n: an absence is no younger than this epoch
pub record GoesDown (p : ℕ) (m : Story) (d : Table) (n epoch : ℕ) (k : Key) (y : Spot) : Type 0 where
  pub at : stands m.places m.homes k ≡ place_of m.places y
  pub held : holder_is p (place_of m.places y).holder ≡ true
  pub says : IsSameOrAbsent (place_of m.places y).content (page_content (snap_home d n k))
  pub empty : (page_content (snap_home d n k)).value ≡ None → page_content (snap_home d n k) ≡ nothing
  pub old : (place_of m.places y).content.value ≡ None → (place_of m.places y).content.number.epoch ≤ epoch

-- so it is of each of these keys
pub record CanMoveKeys (p : ℕ) (m : Story) (d : Table) (keys : List Key) (n epoch : ℕ) : Type 0 where
  pub once : each_once keys ≡ true
  pub over : IsOver m epoch
  pub each : (i : ℕ) (k : Key) → slice_get keys i ≡ Some k → (y : Spot) × GoesDown p m d n epoch k y

module _ (p : ℕ) (m : Story) (d : Table) (keys : List Key) (n epoch : ℕ) (can : CanMoveKeys p m d keys n epoch) where
  -- the page's content may go for the record's
  goes : (k : Key) (y : Spot) → GoesDown p m d n epoch k y
      → may_go_for m (page_content (snap_home d n k)) (place_of m.places y).content ≡ true
  goes k y g = elim g.says [
    | inl same ↦
        ap (λ (c : Content). may_go_for m (page_content (snap_home d n k)) c) same
        ∙ ap (λ (c : Bool). c || (same_content (page_content (snap_home d n k)) nothing && (is_none (page_content (snap_home d n k)).value && is_below_all m.history m.decided m.given_up (page_content (snap_home d n k)).number)))
        (content-self (page_content (snap_home d n k)))
    | inr both ↦
        let c = (place_of m.places y).content in
        let none = g.empty both.1 in
        or_right (same_content (page_content (snap_home d n k)) c)
        (same_content (page_content (snap_home d n k)) nothing && (is_none c.value && is_below_all m.history m.decided m.given_up c.number))
        (and_from (same_content (page_content (snap_home d n k)) nothing)
        (is_none c.value && is_below_all m.history m.decided m.given_up c.number)
        (ap (λ (z : Content). same_content z nothing) none ∙ content-self nothing)
        (and_from (is_none c.value) (is_below_all m.history m.decided m.given_up c.number) (ap is_none both.0)
        (below_all m epoch c.number can.over (g.old both.0))))
  ]

  pub may_move_keys : can_rehome p true m (moves_to (snap_home d n) keys) ≡ true
  may_move_keys =
      and_from (are_apart (moves_to (snap_home d n) keys)) (list_all (can_move p true m) (moves_to (snap_home d n) keys))
      (apart_keys (snap_home d n) keys (λ k. snap_unspotted d n k) can.once)
      (each_at (can_move p true m) (snap_home d n) keys one)
    where
      one : (i : ℕ) (k : Key) → slice_get keys i ≡ Some k
          → can_move p true m (record { key = k; home = snap_home d n k }) ≡ true
      one i k is =
          let h : Home = snap_home d n k in
          let none = snap_unspotted d n k in
          let y : Spot = (can.each i k is).0 in
          let g = (can.each i k is).1 in
          let old = g.at in
          let new : stands_at m.places h ≡ record { content = page_content h; holder = Free } = stands_free m.places h none in
          and_from (is_movable p true (stands m.places m.homes k).holder) _
          (ap (λ (q : Place). is_movable p true q.holder) old
          ∙ or_right (is_free (place_of m.places y).holder) (holder_is p (place_of m.places y).holder && true)
          (and_from (holder_is p (place_of m.places y).holder) true g.held refl))
          (and_from (is_free (stands_at m.places h).holder) _ (ap (λ (q : Place). is_free q.holder) new)
          (and_from (is_nobodys m.homes (spot_of h)) (may_go_for m (stands_at m.places h).content (stands m.places m.homes k).content)
          (ap (is_nobodys m.homes) none)
          (ap (λ (q : Place). may_go_for m q.content (stands m.places m.homes k).content) new
          ∙ (ap (λ (q : Place). may_go_for m (page_content h) q.content) old ∙ goes k y g))))

  pub holds_listed : holds_all p m keys ≡ true
  holds_listed =
      each_in (λ k. holder_is p (stands m.places m.homes k).holder) keys
      (λ i k is. let g = (can.each i k is).1 in ap (λ (q : Place). holder_is p q.holder) g.at ∙ g.held)

  pub absences_listed : absences_are_old m keys ≡ true
  absences_listed =
      each_in (λ k. is_some (stands m.places m.homes k).content.value || is_before_all m (stands m.places m.homes k).content.number.epoch) keys
      (λ i k is.
      let y : Spot = (can.each i k is).0 in
      let g = (can.each i k is).1 in
      ap (λ (q : Place). is_some q.content.value || is_before_all m q.content.number.epoch) g.at
      ∙ by_value (place_of m.places y).content (place_of m.places y).content.value refl g.old)
    where
      by_value : (c : Content) (o : Option ℕ) → c.value ≡ o → (c.value ≡ None → c.number.epoch ≤ epoch)
          → (is_some c.value || is_before_all m c.number.epoch) ≡ true
      by_value c None none old =
          or_right (is_some c.value) (is_before_all m c.number.epoch) (before_all m epoch c.number.epoch can.over (old none))
      by_value c (Some y) some old = or_left (is_some c.value) (is_before_all m c.number.epoch) (ap is_some some)
