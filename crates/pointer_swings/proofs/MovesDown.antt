-- The keys of a leaf go down to a snapshot page: the moves of a swing.
use Rattle.std.proofs.Common.{◌≡◌, inl, inr, ℕ, zero, suc, ◌+◌, ◌<◌, Bool, true, false, true≢false, cond, eqb}
use Rattle.std.proofs.Common.{eq-eqb, ne_eqb, ltb, not, List, [], ◌∷◌, filter, refl, sym, ap, ◌∙◌, subst, arith}
use Rattle.std.proofs.Common.{Option, Some, None}
use Rattle.std.specs.Prelude.{◌&&◌, ◌||◌, is_none, is_some}
use Rattle.std.specs.List.{Contains, list_all}
use Rattle.std.proofs.lemmas.Bool.{and_from, or_left, or_right}
use Rattle.std.proofs.lemmas.Bool.Decides.{nat_tests}
use Rattle.lists.specs.Elements.{in_cases, in_head, in_none, in_tail}
use Rattle.serial_model.specs.declared.key.Key.{Key}
use Rattle.serial_model.specs.declared.number.Number.{Number}
use Rattle.homes.specs.declared.places.Content.{Content}
use Rattle.homes.specs.declared.places.Holder.TheVariants.{Free}
use Rattle.homes.specs.declared.places.Home.{Home}
use Rattle.homes.specs.declared.places.Span.{Span}
use Rattle.homes.specs.declared.places.Spot.{Spot}
use Rattle.homes.specs.Homes.{same_content, same_key, same_spot, has_key, is_free, moves_to}
use Rattle.homes.specs.Laws.{same_key-self, same_spot-true}
use Rattle.commit_core.specs.declared.attempt.Attempt.{Attempt}
use Rattle.commit_core.specs.declared.place.Place.{Place}
use Rattle.commit_core.specs.declared.story.Story.{Story}
use Rattle.commit_core.specs.CoreState.{is_in_progress}
use Rattle.commit_core.specs.Keys.{nothing}
use Rattle.commit_core.specs.Moves.{is_spot, is_nobodys, is_movable, may_go_for, is_below_all, moves_key, moves_to_spot}
use Rattle.commit_core.specs.Moves.{are_apart, can_move, can_rehome, is_left}
use Rattle.commit_core.specs.Places.{place_of, stands, stands_at, spot_of, spot_at, holder_is}
use Rattle.drop_core.specs.declared.table.Table.{Table}
use Rattle.drop_core.specs.Table.{snap_home}
use Rattle.engine_rule.specs.Event.{absences_are_old, holds_all, is_before_all}
use Rattle.engine_rule.specs.Pairs.{page_content}
use Rattle.engine_pages.specs.Pages.{keys_from}
use Rattle.engine_pages.specs.Words.{spot}
use Rattle.page_records.proofs.Contents.{IsProper}
use Rattle.dual_pointer.proofs.Moves.{content-self, snap_unspotted, stands_free}
use Rattle.dual_pointer.proofs.Rows.{key_of, each_move}

-- the epoch of a number
abbrev first_epoch : Number → ℕ
first_epoch n = n.epoch

-- ---- keys in a row

plus_none : (low : ℕ) → low ≡ low + 0
plus_none low = omega arith

plus_next : (low i : ℕ) → (low + 1) + i ≡ low + suc i
plus_next low i = omega arith

-- what is true of each key of a row
pub each_key : (P : Key → Bool) (id low n : ℕ) → ((i : ℕ) → i < n → P (key_of id (low + i)) ≡ true)
    → list_all P (keys_from id low n) ≡ true
each_key P id low zero each = refl
each_key P id low (suc n) each =
    and_from (P (key_of id low)) (list_all P (keys_from id (low + 1) n))
    (ap (λ i. P (key_of id i)) (plus_none low) ∙ each 0 (omega arith))
    (each_key P id (low + 1) n (λ i few. ap (λ i. P (key_of id i)) (plus_next low i) ∙ each (suc i) (omega arith)))

-- a key of a row is moved
pub key_moved : (to : Key → Home) (keys : List Key) (k : Key) → moves_key (moves_to to keys) k ≡ has_key keys k
key_moved to [] k = refl
key_moved to (x ∷ keys) k = ap (λ (c : Bool). same_key x k || c) (key_moved to keys k)

-- ---- moves to homes that are in no slot

other_key : (id a b : ℕ) → a < b → same_key (key_of id b) (key_of id a) ≡ false
other_key id a b less =
    ap (λ (c : Bool). eqb id id && c) (ne_eqb b a (λ e. absurd (omega arith))) ∙ ap (λ (c : Bool). c && false) (eq-eqb id id refl)

not_among : (id low n k : ℕ) → k < low → has_key (keys_from id low n) (key_of id k) ≡ false
not_among id low zero k less = refl
not_among id low (suc n) k less =
    ap (λ (c : Bool). c || has_key (keys_from id (low + 1) n) (key_of id k)) (other_key id k low less)
    ∙ not_among id (low + 1) n k (omega arith)

apart_down : (to : Key → Home) (id low n : ℕ) → ((k : Key) → spot_of (to k) ≡ None)
    → are_apart (moves_to to (keys_from id low n)) ≡ true
apart_down to id low zero none = refl
apart_down to id low (suc n) none =
    let more = moves_to to (keys_from id (low + 1) n) in
    and_from (not (moves_key more (key_of id low))) (not (moves_to_spot more (spot_of (to (key_of id low)))) && are_apart more)
    (ap not (key_moved to (keys_from id (low + 1) n) (key_of id low) ∙ not_among id (low + 1) n low (omega arith)))
    (and_from (not (moves_to_spot more (spot_of (to (key_of id low))))) (are_apart more)
    (ap (λ o. not (moves_to_spot more o)) (none (key_of id low)))
    (apart_down to id (low + 1) n none))

-- ---- places that keys leave

-- a place that is left by a row of keys is one of theirs
pub left_row : (to : Key → Home) (homes : List (Key × Home)) (t j id low n : ℕ) (y : Spot)
    → ((i : ℕ) → i < n → spot_at homes (key_of id (low + i)) ≡ Some (spot t (j + i)))
    → is_left (moves_to to (keys_from id low n)) homes y ≡ true → (i : ℕ) × (i < n) × (y ≡ spot t (j + i))
left_row to homes t j id low zero y rows left = absurd (true≢false (sym left))
left_row to homes t j id low (suc n) y rows left =
    by_first (is_spot y (spot_at homes (key_of id low))) refl
    (λ more. left_row to homes t (j + 1) id (low + 1) n y
    (λ i few. ap (λ i. spot_at homes (key_of id i)) (plus_next low i) ∙ (rows (suc i) (omega arith) ∙ ap (λ i. Some (spot t i)) (sym (plus_next j i)))) more)
  where
    first : spot_at homes (key_of id low) ≡ Some (spot t (j + 0))
    first = ap (λ i. spot_at homes (key_of id i)) (plus_none low) ∙ rows 0 (omega arith)

    by_first : (c : Bool) → is_spot y (spot_at homes (key_of id low)) ≡ c
        → (is_left (moves_to to (keys_from id (low + 1) n)) homes y ≡ true → (i : ℕ) × (i < n) × (y ≡ spot t ((j + 1) + i)))
        → (i : ℕ) × (i < suc n) × (y ≡ spot t (j + i))
    by_first true hit rest =
        let same : same_spot y (spot t (j + 0)) ≡ true = sym (ap (is_spot y) first) ∙ hit in
        (0, omega arith, same_spot-true y (spot t (j + 0)) same)
    by_first false miss rest =
        let found = rest (sym (ap (λ (c : Bool). c || is_left (moves_to to (keys_from id (low + 1) n)) homes y) miss) ∙ left) in
        let less = found.1 in (suc found.0, omega arith, found.2 ∙ ap (spot t) (plus_next j found.0))

-- ---- the locks that go with them

filter_none : {A : Type 0} (f : A → Bool) (xs : List A) → ((x : A) → Contains xs x → f x ≡ false) → filter f xs ≡ []
filter_none f [] none = refl
filter_none f (x ∷ xs) none =
    ap (λ (c : Bool). cond c (x ∷ filter f xs) (filter f xs)) (none x (in_head x xs))
    ∙ filter_none f xs (λ y has. none y (in_tail y x xs has))

pub listed : (keys : List Key) (k : Key) → Contains keys k → has_key keys k ≡ true
listed [] k has = absurd (in_none k has)
listed (x ∷ keys) k has = elim (in_cases k x keys has) [
  | inl is ↦ or_left (same_key x k) (has_key keys k) (subst (λ (z : Key). same_key x z ≡ true) is (same_key-self x))
  | inr more ↦ or_right (same_key x k) (has_key keys k) (listed keys k more)
]

-- no lock stays of those that are moved
pub locks_gone : (to : Key → Home) (keys locks : List Key) → ((k : Key) → has_key locks k ≡ true → has_key keys k ≡ true)
    → filter (λ q. not (moves_key (moves_to to keys) q)) locks ≡ []
locks_gone to keys locks own =
    filter_none (λ q. not (moves_key (moves_to to keys) q)) locks
    (λ k has. ap not (key_moved to keys k ∙ own k (listed locks k has)))

-- ---- the moves may be made

-- what is known of the keys of a leaf that goes down to page n
pub record CanMoveDown (p : ℕ) (m : Story) (d : Table) (t : ℕ) (sp : Span) (n : ℕ) : Type 0 where
  pub at : (i : ℕ) → i < 32 → stands m.places m.homes (key_of sp.storage (sp.low + i)) ≡ place_of m.places (spot t i)
  pub held : (i : ℕ) → i < 32 → holder_is p (place_of m.places (spot t i)).holder ≡ true
  pub says : (i : ℕ) → i < 32
      → (place_of m.places (spot t i)).content ≡ page_content (snap_home d n (key_of sp.storage (sp.low + i)))
  pub proper : (i : ℕ) → i < 32 → IsProper (place_of m.places (spot t i)).content
  pub tried : (a : Attempt) → Contains m.history a → is_in_progress m.decided m.given_up a.number ≡ true → 0 < a.number.epoch

module _ (p : ℕ) (m : Story) (d : Table) (t : ℕ) (sp : Span) (n : ℕ) (can : CanMoveDown p m d t sp n) where
  abbrev keys : List Key
  keys = keys_from sp.storage sp.low 32

  abbrev key_at : ℕ → Key
  key_at i = key_of sp.storage (sp.low + i)

  pub may_move_down : can_rehome p true m (moves_to (snap_home d n) keys) ≡ true
  may_move_down =
      and_from (are_apart (moves_to (snap_home d n) keys)) (list_all (can_move p true m) (moves_to (snap_home d n) keys))
      (apart_down (snap_home d n) sp.storage sp.low 32 (λ k. snap_unspotted d n k))
      (each_move (can_move p true m) (snap_home d n) sp.storage sp.low 32 (λ i few. one i few))
    where
      one : (i : ℕ) → i < 32 → can_move p true m (record { key = key_at i; home = snap_home d n (key_at i) }) ≡ true
      one i few =
          let k = key_at i in
          let h : Home = snap_home d n k in
          let none = snap_unspotted d n k in
          let old = can.at i few in
          let new : stands_at m.places h ≡ record { content = page_content h; holder = Free } = stands_free m.places h none in
          and_from (is_movable p true (stands m.places m.homes k).holder) _
          (ap (λ (q : Place). is_movable p true q.holder) old
          ∙ or_right (is_free (place_of m.places (spot t i)).holder) (holder_is p (place_of m.places (spot t i)).holder && true)
          (and_from (holder_is p (place_of m.places (spot t i)).holder) true (can.held i few) refl))
          (and_from (is_free (stands_at m.places h).holder) _ (ap (λ (q : Place). is_free q.holder) new)
          (and_from (is_nobodys m.homes (spot_of h)) (may_go_for m (stands_at m.places h).content (stands m.places m.homes k).content)
          (ap (is_nobodys m.homes) none)
          (ap (λ (q : Place). may_go_for m q.content (stands m.places m.homes k).content) new
          ∙ (ap (λ (q : Place). may_go_for m (page_content h) q.content) old
          ∙ (ap (λ (c : Content). may_go_for m (page_content h) c) (can.says i few)
          ∙ ap (λ (c : Bool). c || (same_content (page_content h) nothing && (is_none (page_content h).value && is_below_all m.history m.decided m.given_up (page_content h).number)))
          (content-self (page_content h)))))))

  pub holds_keys : holds_all p m keys ≡ true
  holds_keys =
      each_key (λ k. holder_is p (stands m.places m.homes k).holder) sp.storage sp.low 32
      (λ i few. ap (λ (q : Place). holder_is p q.holder) (can.at i few) ∙ can.held i few)

  pub absences_old : absences_are_old m keys ≡ true
  absences_old =
      each_key (λ k. is_some (stands m.places m.homes k).content.value || is_before_all m (stands m.places m.homes k).content.number.epoch)
      sp.storage sp.low 32
      (λ i few. ap (λ (q : Place). is_some q.content.value || is_before_all m q.content.number.epoch) (can.at i few)
      ∙ by_value (place_of m.places (spot t i)).content (can.proper i few) (place_of m.places (spot t i)).content.value refl)
    where
      all_after : (list : List Attempt) → ((a : Attempt) → Contains list a → is_in_progress m.decided m.given_up a.number ≡ true → 0 < a.number.epoch)
          → list_all (λ a. not (is_in_progress m.decided m.given_up a.number) || ltb 0 a.number.epoch) list ≡ true
      all_after [] each = refl
      all_after (a ∷ more) each =
          and_from (not (is_in_progress m.decided m.given_up a.number) || ltb 0 a.number.epoch) _
          (by_progress (is_in_progress m.decided m.given_up a.number) refl)
          (all_after more (λ c has. each c (in_tail c a more has)))
        where
          by_progress : (c : Bool) → is_in_progress m.decided m.given_up a.number ≡ c
              → (not (is_in_progress m.decided m.given_up a.number) || ltb 0 a.number.epoch) ≡ true
          by_progress true now =
              let after = each a (in_head a more) now in
              or_right (not (is_in_progress m.decided m.given_up a.number)) (ltb 0 a.number.epoch) (grind (arith, nat_tests))
          by_progress false now = or_left (not (is_in_progress m.decided m.given_up a.number)) (ltb 0 a.number.epoch) (ap not now)

      by_value : (c : Content) → IsProper c → (o : Option ℕ) → c.value ≡ o → (is_some c.value || is_before_all m c.number.epoch) ≡ true
      by_value c proper None none =
          or_right (is_some c.value) (is_before_all m c.number.epoch)
          (ap (λ e. is_before_all m e) (ap (λ n. first_epoch n) (proper.never none)) ∙ all_after m.history can.tried)
      by_value c proper (Some y) some = or_left (is_some c.value) (is_before_all m c.number.epoch) (ap is_some some)
