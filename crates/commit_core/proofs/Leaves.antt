-- What an act of one seat leaves alone, for each act: numbers at places never fall, and what others hold and have
-- checked, and what is dead, stays.
use Rattle.std.proofs.Common.{◌≡◌, ℕ, zero, suc, Bool, true, false, true≢false, not, cond, eqb, eqb-true, inl, inr, List, [], ◌∷◌, ◌++◌, refl, sym, ap, ◌∙◌, subst, Option, Some, None}
use Rattle.std.specs.Prelude.{◌&&◌, nat_lt, slice_get}
use Rattle.std.specs.Option.{option_map_or}
use Rattle.std.proofs.lemmas.Bool.{and_parts, cases_Bool, false_from_ne_true}
use Rattle.serial_model.specs.declared.key.Key.{Key}
use Rattle.serial_model.specs.declared.number.Number.{Number}
use Rattle.serial_model.specs.Numbers.{below_then, IsBelow, not_below_itself, last_epoch}
use Rattle.homes.specs.declared.places.Content.{Content}
use Rattle.homes.specs.declared.places.Holder.{Holder}
use Rattle.homes.specs.declared.places.Holder.TheVariants.{Free, Held, Dead}
use Rattle.homes.specs.declared.places.Move.{Move}
use Rattle.homes.specs.declared.places.Spot.{Spot}
use Rattle.commit_core.specs.declared.place.Place.{Place}
use Rattle.commit_core.specs.declared.part.Word.{Word}
use Rattle.commit_core.specs.declared.part.Word.TheVariants.{Record}
use Rattle.commit_core.specs.declared.attempt.Attempt.{Attempt}
use Rattle.commit_core.specs.declared.event.Act.{Act}
use Rattle.commit_core.specs.declared.event.Act.TheVariants.{See, Keep, Lock, Draw, Check as Look, Confirm, Decide, Put, Open, Forget, Rehome, Advance, Mark}
use Rattle.commit_core.specs.declared.seat.Seat.{Seat}
use Rattle.commit_core.specs.declared.seat.Stage.{Stage}
use Rattle.commit_core.specs.declared.seat.Stage.TheVariants.{Idle, Trying, Ended, Decided}
use Rattle.commit_core.specs.declared.story.Story.{Story}
use Rattle.homes.specs.Homes.{same_spot}
use Rattle.homes.specs.Laws.{same_spot-self, same_spot-true}
use Rattle.commit_core.specs.Keys.{same_number, content_of, content_at, has_key, writes_key, IsUpTo}
use Rattle.commit_core.specs.Places.{place, place_of, home_of, stands, spot_at, placed, is_free_at, is_held_at, holder_is}
use Rattle.commit_core.specs.Parts.{same_word}
use Rattle.commit_core.specs.Moves.{moves_key, is_left, buried, rehomed, can_rehome, horizon_after, with_moves}
use Rattle.commit_core.specs.CoreState.{check_of, can_begin, is_trying, attempt_tried, attempt_decided, settled}
use Rattle.commit_core.specs.Event.{moved, is_allowed, effect, stays_as_seen, after_check, after_decide, locked, valued, value_to_put, opened}
use Rattle.commit_core.specs.Serial.{RisesFrom}
use Rattle.commit_core.specs.Sound.{IsSoundStory, IsSoundSeat}
use Rattle.commit_core.specs.Sound.Locks.{AttemptStands}
use Rattle.commit_core.specs.Sound.Homes.{HomeHeld}
use Rattle.commit_core.specs.Leaves.{Rises, Only, Leaves}
use Rattle.lists.specs.Elements.{any_push-false}
use Rattle.commit_core.specs.Lemmas.Keys.{same_number-true}
use Rattle.commit_core.specs.Lemmas.Places.{place_of-placed_other, place_of-placed_same, stands-spot}
use Rattle.commit_core.specs.Lemmas.Versions.{some_key}
use Rattle.commit_core.proofs.Runs.{act_grows}
use Rattle.commit_core.proofs.LockLaws.{one_holder, unlocked_not, free_alive, held_alive}
use Rattle.commit_core.specs.Lemmas.Moves.{move_of, place-left, place-stays, left-of}
use Rattle.commit_core.proofs.RehomeLaws.{rehome_moves, home-stays}
use Rattle.commit_core.proofs.MoveLaws.{was_other}
use Rattle.commit_core.proofs.Events.Keeps.{free_place, held_place}

-- what an act of seat p does not touch, beside that the story grows
record Spares (p : ℕ) (m n : Story) : Type 0 where
  rise : Rises m.places n.places
  only : Only p m n

only_not : (p : ℕ) (m : Story) → Only p m m
only_not p m = record { epoch = λ other. refl; held = λ x o own other. refl; dead = λ x d. refl; homes = λ k o own other. refl; checks = λ i a at other w. refl }

leaves_not : (p : ℕ) (m : Story) → Spares p m m
leaves_not p m = record { rise = λ x. inl refl; only = only_not p m }

-- ---- one place has something new

-- what tests as another is another
apart : (x y : Spot) → same_spot x y ≡ false → x ≡ y → ⊥
apart x y miss e = true≢false (sym (subst (λ (z : Spot). same_spot x z ≡ true) e (same_spot-self x)) ∙ miss)

rises_placed : (places : List (Spot × Place)) (x : Spot) (new : Place) → ((place_of places x).holder ≡ Dead → ⊥) → IsUpTo (place_of places x).content.number new.content.number → Rises places (placed places x new)
rises_placed places x new alive up = λ y.
    elim (cases_Bool (same_spot x y)) [
      | inl hit ↦
          subst (λ (z : Spot). IsUpTo (place_of places z).content.number (place_of (placed places x new) z).content.number) (same_spot-true x y hit)
          (subst (λ (q : Place). IsUpTo (place_of places x).content.number q.content.number) (sym (place_of-placed_same places x new alive)) up)
      | inr miss ↦
          subst (λ (q : Place). IsUpTo (place_of places y).content.number q.content.number)
          (sym (place_of-placed_other places x new y (apart x y miss))) (inl refl)
    ]

-- the place was free or this seat's
leaves_placed : (p : ℕ) (m : Story) (x : Spot) (new : Place) → ((place_of m.places x).holder ≡ Dead → ⊥) → ((o : ℕ) → holder_is o (place_of m.places x).holder ≡ true → o ≡ p)
    → IsUpTo (place_of m.places x).content.number new.content.number → Spares p m (record m { places = placed m.places x new })
leaves_placed p m x new alive own up = record {
  rise = rises_placed m.places x new alive up;
  only = record {
    epoch = λ other. refl;
    held = λ y o mine other. place_of-placed_other m.places x new y (λ e. other (own o (subst (λ (z : Spot). holder_is o (place_of m.places z).holder ≡ true) (sym e) mine)));
    dead = λ y d. place_of-placed_other m.places x new y (λ e. alive (subst (λ (z : Spot). (place_of m.places z).holder ≡ Dead) (sym e) d));
    homes = λ k o mine other. refl;
    checks = λ i a there other w. refl;
  };
}

free_own : (p : ℕ) (h : Holder) → h ≡ Free → (o : ℕ) → holder_is o h ≡ true → o ≡ p
free_own p h free o e = absurd (true≢false (sym e ∙ unlocked_not o h free))

-- ---- numbers name attempts

rises_above : (low : Number) (xs : List Attempt) (i : ℕ) (a : Attempt) → RisesFrom low xs → slice_get xs i ≡ Some a → IsBelow low a.number
rises_above low [] i a r at = cc
rises_above low (x ∷ xs) zero a r at = let is : x ≡ a = cc in subst (λ (y : Attempt). IsBelow low y.number) is r.0
rises_above low (x ∷ xs) (suc i) a r at = below_then low x.number a.number r.0 (rises_above x.number xs i a r.1 at)

one_number : (low : Number) (xs : List Attempt) (i j : ℕ) (a b : Attempt) → RisesFrom low xs → slice_get xs i ≡ Some a → slice_get xs j ≡ Some b → a.number ≡ b.number → a ≡ b
one_number low [] i j a b r at at' e = cc
one_number low (x ∷ xs) zero zero a b r at at' e = cc
one_number low (x ∷ xs) zero (suc j) a b r at at' e = let is : x ≡ a = cc in absurd (not_below_itself x.number b.number (ap (λ (y : Attempt). y.number) is ∙ e) (rises_above x.number xs j b r.1 at'))
one_number low (x ∷ xs) (suc i) zero a b r at at' e = let is : x ≡ b = cc in absurd (not_below_itself x.number a.number (ap (λ (y : Attempt). y.number) is ∙ sym e) (rises_above x.number xs i a r.1 at))
one_number low (x ∷ xs) (suc i) (suc j) a b r at at' e = one_number x.number xs i j a b r.1 at at' e

-- the checks of others' attempts stay
only_checked : (p : ℕ) (m : Story) (low : Number) (i : ℕ) (a : Attempt) (w : Word) → RisesFrom low m.history → slice_get m.history i ≡ Some a → a.seat ≡ p → Only p m (record m { checks = m.checks ++ check_of a.number w ∷ [] })
only_checked p m low i a w rises at own = record {
  epoch = λ other. refl;
  held = λ x o mine other. refl;
  dead = λ x d. refl;
  homes = λ k o mine other. refl;
  checks = λ j b at' other v.
      let apart_numbers : same_number a.number b.number ≡ false = false_from_ne_true (same_number a.number b.number) (λ e. let same = one_number low m.history i j a b rises at at' (same_number-true a.number b.number e) in other (sym (ap (λ (y : Attempt). y.seat) same) ∙ own)) in
      any_push-false (λ c. same_number c.number b.number && same_word c.word v) m.checks (check_of a.number w) (ap (λ y. y && same_word w v) apart_numbers);
}

-- ---- each act

lock_leaves : (p : ℕ) (m : Story) (o : Option Spot) → is_free_at m.places o ≡ true → Spares p m (record m { places = locked p m.places o })
lock_leaves p m o free =
    let q = free_place m.places o free in
    subst (λ (x : Option Spot). Spares p m (record m { places = locked p m.places x })) (sym q.1)
    (leaves_placed p m q.0 (place (place_of m.places q.0).content (Held p)) (free_alive (place_of m.places q.0).holder q.2) (free_own p (place_of m.places q.0).holder q.2) (inl refl))

put_leaves : (p : ℕ) (m : Story) (value : Option ℕ) (o : Option Spot) → is_held_at p m.places o ≡ true → Spares p m (record m { places = valued value m.places o })
put_leaves p m value o mine =
    let q = held_place p m.places o mine in
    let old = place_of m.places q.0 in
    subst (λ (x : Option Spot). Spares p m (record m { places = valued value m.places x })) (sym q.1)
    (leaves_placed p m q.0 (place (content_of old.content.number value) old.holder) (held_alive p old.holder q.2) (λ r e. one_holder p r old.holder q.2 e) (inl refl))

open_leaves : (p : ℕ) (m : Story) (a : Option Attempt) (o : Option Spot) → is_held_at p m.places o ≡ true
    → ((x : Spot) → o ≡ Some x → IsUpTo (place_of m.places x).content.number (option_map_or (λ b. b.number) a (place_of m.places x).content.number))
    → Spares p m (record m { places = opened a m.places o })
open_leaves p m a o mine up =
    let q = held_place p m.places o mine in
    let old = place_of m.places q.0 in
    subst (λ (x : Option Spot). Spares p m (record m { places = opened a m.places x })) (sym q.1)
    (leaves_placed p m q.0 (place (content_of (option_map_or (λ b. b.number) a old.content.number) old.content.value) Free) (held_alive p old.holder q.2) (λ r e. one_holder p r old.holder q.2 e) (up q.0 q.1))

-- the number of a decided attempt is above that of each home that it holds
decided_up : (opening : List (Key × Content)) (m : Story) (p : ℕ) (s : Seat) (k : Key) → IsSoundSeat opening m p s → holder_is p (stands m.places m.homes k).holder ≡ true
    → IsUpTo (stands m.places m.homes k).content.number (option_map_or (λ b. b.number) (attempt_decided m.history s.stage) (stands m.places m.homes k).content.number)
decided_up opening m p s k sound mine = by_stage s.stage sound.attempt_stands (sound.locked_homes k mine)
  where
    by_stage : (stage : Stage) → AttemptStands m.history m.decided (stands m.places m.homes) s.put p stage → HomeHeld m.horizon opening m.history m.decided s.put k (stands m.places m.homes k).content stage
        → IsUpTo (stands m.places m.homes k).content.number (option_map_or (λ b. b.number) (attempt_decided m.history stage) (stands m.places m.homes k).content.number)
    by_stage Idle a h = inl refl
    by_stage (Trying i) a h = inl refl
    by_stage Ended a h = inl refl
    by_stage (Decided i) a h =
        subst (λ (o : Option Attempt). IsUpTo (stands m.places m.homes k).content.number (option_map_or (λ b. b.number) o (stands m.places m.homes k).content.number)) (sym a.1.at) (inr (h a.0 a.1.at).1.place)

-- the same, where the home is this place
opened_up : (opening : List (Key × Content)) (m : Story) (p : ℕ) (s : Seat) (k : Key) (x : Spot) → IsSoundSeat opening m p s → is_held_at p m.places (spot_at m.homes k) ≡ true → spot_at m.homes k ≡ Some x
    → IsUpTo (place_of m.places x).content.number (option_map_or (λ b. b.number) (attempt_decided m.history s.stage) (place_of m.places x).content.number)
opened_up opening m p s k x sound held at =
    let there : stands m.places m.homes k ≡ place_of m.places x = stands-spot m.places (home_of m.homes k) x at in
    let mine : holder_is p (place_of m.places x).holder ≡ true = sym (ap (is_held_at p m.places) at) ∙ held in
    subst (λ (q : Place). IsUpTo q.content.number (option_map_or (λ b. b.number) (attempt_decided m.history s.stage) q.content.number)) there
    (decided_up opening m p s k sound (ap (λ (q : Place). holder_is p q.holder) there ∙ mine))

check_leaves : (opening : List (Key × Content)) (m : Story) (p : ℕ) (s : Seat) (w : Word) (stays : Attempt → Bool) → IsSoundStory opening m → AttemptStands m.history m.decided (stands m.places m.homes) s.put p s.stage
    → Spares p m (after_check w stays m s (attempt_tried m.history s.stage)).story
check_leaves opening m p s w stays sound stand = by_stage s.stage stand
  where
    made : (b : Bool) (a : Attempt) (i : ℕ) → slice_get m.history i ≡ Some a → a.seat ≡ p
        → Spares p m (cond b (moved (record m { checks = m.checks ++ check_of a.number w ∷ [] }) s) (moved (record m { given_up = m.given_up ++ a.number ∷ [] }) (settled (record s { stage = Ended })))).story
    made true a i at own = record { rise = λ x. inl refl; only = only_checked p m (content_at opening some_key).number i a w (sound.ordered_numbers.rising some_key) at own }
    made false a i at own = record { rise = λ x. inl refl; only = record { epoch = λ other. refl; held = λ x o mine other. refl; dead = λ x d. refl; homes = λ k o mine other. refl; checks = λ j b there other v. refl } }

    by_stage : (stage : Stage) → AttemptStands m.history m.decided (stands m.places m.homes) s.put p stage → Spares p m (after_check w stays m s (attempt_tried m.history stage)).story
    by_stage Idle a = leaves_not p m
    by_stage (Trying i) a = subst (λ o. Spares p m (after_check w stays m s o).story) (sym a.1.at) (made (stays a.0) a.0 i a.1.at a.1.own)
    by_stage Ended a = leaves_not p m
    by_stage (Decided i) a = leaves_not p m

decide_leaves : (p : ℕ) (m : Story) (s : Seat) (o : Option Attempt) → Spares p m (after_decide m s o).story
decide_leaves p m s None = leaves_not p m
decide_leaves p m s (Some a) = record {
  rise = λ x. inl refl;
  only = record { epoch = λ other. refl; held = λ x o mine other. refl; dead = λ x d. refl; homes = λ k o mine other. refl; checks = λ j b at other w. refl };
}

rehome_leaves : (opening : List (Key × Content)) (p : ℕ) (m : Story) (s : Seat) (moves : List Move) → can_rehome p (can_begin s.stage) m moves ≡ true → IsSoundStory opening m → Spares p m (with_moves m moves)
rehome_leaves opening p m s moves can story = record {
  rise = λ x. elim (cases_Bool (is_left moves m.homes x)) [
    | inl left ↦ inl (ap (λ (q : Place). q.content.number) (sym (place-left moves m.homes m.places x left)))
    | inr stays ↦ inl (ap (λ (q : Place). q.content.number) (sym (place-stays moves m.homes m.places x stays)))
  ];
  only = record {
    epoch = λ other. refl;
    held = λ x o mine other. place-stays moves m.homes m.places x (false_from_ne_true (is_left moves m.homes x) (λ left.
        let v = left-of moves m.homes x left in
        let there : stands m.places m.homes v.0.key ≡ place_of m.places x = stands-spot m.places (home_of m.homes v.0.key) x v.2 in
        not_others o other v.0.key (move_of moves v.0 v.1) (ap (λ (q : Place). holder_is o q.holder) there ∙ mine)));
    dead = λ x d. elim (cases_Bool (is_left moves m.homes x)) [
      | inl left ↦ place-left moves m.homes m.places x left ∙ ap (λ (h : Holder). place (place_of m.places x).content h) (sym d)
      | inr stays ↦ place-stays moves m.homes m.places x stays
    ];
    homes = λ k o mine other. home-stays p (can_begin s.stage) m moves story.homes_apart can k (false_from_ne_true (moves_key moves k) (λ hit. not_others o other k hit mine));
    checks = λ j b at other w. refl;
  };
}
  where
    not_others : (o : ℕ) → (o ≡ p → ⊥) → (k : Key) → moves_key moves k ≡ true → holder_is o (stands m.places m.homes k).holder ≡ true → ⊥
    not_others o other k hit mine =
        true≢false (sym mine ∙ was_other p (can_begin s.stage) (horizon_after m.horizon m.places m.homes moves) moves (stands m.places m.homes) (stands (buried moves m.homes m.places) (rehomed moves m.homes))
        (rehome_moves p (can_begin s.stage) m moves story.homes_apart can) o other k hit)

act_spares : (opening : List (Key × Content)) (p : ℕ) (m : Story) (s : Seat) (act : Act) → is_allowed p m s act ≡ true → IsSoundStory opening m → IsSoundSeat opening m p s → Spares p m (effect p m s act).story
act_spares opening p m s (See k) allowed story seat = leaves_not p m
act_spares opening p m s (Keep part) allowed story seat = leaves_not p m
act_spares opening p m s (Lock k) allowed story seat = lock_leaves p m (spot_at m.homes k) (and_parts (can_begin s.stage) (is_free_at m.places (spot_at m.homes k)) allowed).1
act_spares opening p m s (Draw writes) allowed story seat = record {
  rise = λ x. inl refl;
  only = record { epoch = λ other. refl; held = λ x o mine other. refl; dead = λ x d. refl; homes = λ k o mine other. refl; checks = λ i b at other w. refl };
}
act_spares opening p m s (Look x) allowed story seat = check_leaves opening m p s (Record x) (stays_as_seen p m.places x) story seat.attempt_stands
act_spares opening p m s (Confirm w told) allowed story seat = check_leaves opening m p s w (λ _. told) story seat.attempt_stands
act_spares opening p m s Decide allowed story seat = decide_leaves p m s (attempt_tried m.history s.stage)
act_spares opening p m s (Put k) allowed story seat =
    put_leaves p m (value_to_put k (attempt_decided m.history s.stage)) (spot_at m.homes k) (and_parts (option_map_or (λ a. writes_key a.writes k) (attempt_decided m.history s.stage) false) (is_held_at p m.places (spot_at m.homes k)) allowed).1
act_spares opening p m s (Open k) allowed story seat =
    let held = is_held_at p m.places (spot_at m.homes k) in
    let in_put = option_map_or (λ _. has_key s.put k) (attempt_decided m.history s.stage) true in
    let mine = (and_parts held in_put (and_parts (not (is_trying s.stage)) (held && in_put) allowed).1).0 in
    open_leaves p m (attempt_decided m.history s.stage) (spot_at m.homes k) mine (λ x at. opened_up opening m p s k x seat mine at)
act_spares opening p m s Forget allowed story seat = leaves_not p m
act_spares opening p m s (Rehome moves) allowed story seat = rehome_leaves opening p m s moves allowed story
act_spares opening p m s Advance allowed story seat = record {
  rise = λ x. inl refl;
  only = record {
    epoch = λ other. absurd (other (eqb-true p 0 (and_parts (eqb p 0) (nat_lt m.epoch last_epoch) allowed).0));
    held = λ x o mine other. refl;
    dead = λ x d. refl;
    homes = λ k o mine other. refl;
    checks = λ i b at other w. refl;
  };
}
act_spares opening p m s (Mark e) allowed story seat = leaves_not p m

pub act_leaves : (opening : List (Key × Content)) (p : ℕ) (m : Story) (s : Seat) (act : Act) → is_allowed p m s act ≡ true → IsSoundStory opening m → IsSoundSeat opening m p s → Leaves p m (effect p m s act).story
act_leaves opening p m s act allowed story seat =
    let spares = act_spares opening p m s act allowed story seat in record { grows = act_grows p m s act; rise = spares.rise; only = spares.only }
