-- The decided attempts, in order of number, are a serial run.
use Rattle.std.proofs.Common.{◌≡◌, ℕ, zero, suc, ◌+◌, ◌-◌, ◌<◌, ◌≤◌, Bool, true, false, true≢false, cond, ◌&&◌, inl, inr, List, [], ◌∷◌, refl, sym, ap, ◌∙◌, subst, arith, Some}
use Rattle.std.proofs.lemmas.Bool.{and_parts, cases_Bool, cond-true, cond-false, cond_both, false_from_ne_true}
use Rattle.std.specs.List.{Contains, slice_get, filter}
use Rattle.std.specs.Prelude.{replicate}
use Rattle.serial_model.specs.declared.key.Key.{Key}
use Rattle.serial_model.specs.declared.number.Number.{Number}
use Rattle.serial_model.specs.Numbers.{is_below, IsBelow, not_below_itself, not_both_below, is_below-true, below_from_test}
use Rattle.homes.specs.declared.places.Content.{Content}
use Rattle.homes.specs.declared.places.Holder.TheVariants.{Free, Dead}
use Rattle.homes.specs.declared.places.Home.{Home}
use Rattle.homes.specs.declared.places.Home.TheVariants.{InSlot, InPage, Nowhere}
use Rattle.homes.specs.declared.places.Spot.{Spot}
use Rattle.homes.specs.Homes.{same_spot}
use Rattle.homes.specs.Laws.{same_spot-self, same_spot-true}
use Rattle.commit_core.specs.declared.place.Place.{Place}
use Rattle.commit_core.specs.declared.part.Part.{Part}
use Rattle.commit_core.specs.declared.attempt.Attempt.{Attempt}
use Rattle.commit_core.specs.declared.seat.Seat.{Seat}
use Rattle.commit_core.specs.declared.story.Story.{Story}
use Rattle.commit_core.specs.Keys.{same_key, opening_number, content_at}
use Rattle.commit_core.specs.Places.{place, place_of, home_of, stands_at, stands, spot_of, spot_at, holder_is}
use Rattle.commit_core.specs.Parts.{covers, found, IsSameOrAbsent}
use Rattle.commit_core.specs.CoreState.{clock_of, is_decided}
use Rattle.commit_core.specs.Serial.{after_writes, after_all, state_below, RisesFrom}
use Rattle.commit_core.specs.Serial.{committed, ReadsFrom, ReadsAlong, ReadsAreSerial}
use Rattle.commit_core.specs.Opening.{opening_content, opening_place, opening_spot, opening_contents, opening_places, opening_homes, fresh_seat, fresh_story, CanOpen, fresh_core, opening_core}
use Rattle.commit_core.specs.Sound.{IsSoundStory, IsSoundSeat, IsSound}
use Rattle.commit_core.specs.Sound.Locks.{HomesApart}
use Rattle.commit_core.specs.Sound.Numbers.{EpochFits}
use Rattle.commit_core.specs.Law.{CommitsAreSerial}
use Rattle.commit_core.proofs.CountLaws.{count_committed}
use Rattle.lists.specs.Elements.{in_none, in_head, in_tail, in_cases}
use Rattle.commit_core.specs.Lemmas.Keys.{same_key-true}
use Rattle.commit_core.specs.Lemmas.States.{rises_low, rises_lower, after_all-none}
use Rattle.commit_core.specs.Lemmas.Versions.{some_key}
use Rattle.commit_core.specs.Lemmas.Shows.{opening_below}
use Rattle.commit_core.proofs.ReadLaws.{kept_dropped}

rises_filter : (low : Number) (f : Attempt → Bool) (h : List Attempt) → RisesFrom low h → RisesFrom low (filter f h)
rises_filter low f [] r = tt
rises_filter low f (a ∷ h) r =
    cond_both (f a) (a ∷ filter f h) (filter f h) (λ (l : List Attempt). RisesFrom low l)
    (λ _. (r.0, rises_filter a.number f h r.1)) (λ _. rises_filter low f h (rises_lower low a.number h r.0 r.1))

-- each decided attempt of the list reads what those of the list that are decided and below it make of the state
abbrev ReadsBelow : List Number → (Key → Content) → List Attempt → Type 0
ReadsBelow decided state h =
    (a : Attempt) → Contains h a → is_decided decided a.number ≡ true → (part : Part) → Contains a.parts part
    → (k : Key) → covers part k ≡ true → IsSameOrAbsent (found part k) (after_all (λ b. is_decided decided b.number && is_below b.number a.number) k h (state k))

-- nothing in the list is below its first attempt
first_reads : (decided : List Number) (state : Key → Content) (a : Attempt) (h : List Attempt) → RisesFrom a.number h → is_decided decided a.number ≡ true
    → ReadsBelow decided state (a ∷ h) → ReadsFrom state a
first_reads decided state a h r d reads = λ part n k v.
    subst (λ (c : Content). IsSameOrAbsent (found part k) c)
    (after_all-none (λ b. is_decided decided b.number && is_below b.number a.number) k (a ∷ h) (state k)
    (λ b m counts _.
    let below = below_from_test b.number a.number (and_parts (is_decided decided b.number) (is_below b.number a.number) counts).1 in
    elim (in_cases b a h m) [
      | inl same ↦ not_below_itself b.number a.number (ap (λ (x : Attempt). x.number) (sym same)) below
      | inr later ↦ not_both_below a.number b.number (rises_low a.number h r b later) below
    ]))
    (reads a (in_head a h) d part n k v)

-- behind a decided one the state has its writes, behind another it is the same
rest_reads : (decided : List Number) (state : Key → Content) (a : Attempt) (h : List Attempt) → RisesFrom a.number h
    → ReadsBelow decided state (a ∷ h) → ReadsBelow decided (λ k. cond (is_decided decided a.number) (after_writes k a (state k)) (state k)) h
rest_reads decided state a h r reads = λ b m d part n k v.
    let counts = is_decided decided a.number in
    let below = is_below-true a.number b.number (rises_low a.number h r b m) in
    let same : (counts && is_below a.number b.number) ≡ counts = ap (λ (x : Bool). counts && x) below ∙ and_true counts in
    subst (λ (c : Content). IsSameOrAbsent (found part k) c)
    (ap (λ (x : Bool). after_all (λ e. is_decided decided e.number && is_below e.number b.number) k h (cond x (after_writes k a (state k)) (state k))) same)
    (reads b (in_tail b a h m) d part n k v)
  where
    and_true : (x : Bool) → (x && true) ≡ x
    and_true true = refl
    and_true false = refl

reads_along : (decided : List Number) (state : Key → Content) (low : Number) (h : List Attempt) → RisesFrom low h
    → ReadsBelow decided state h → ReadsAlong state (filter (λ a. is_decided decided a.number) h)
reads_along decided state low [] r reads = tt
reads_along decided state low (a ∷ h) r reads =
    let rest = reads_along decided (λ k. cond (is_decided decided a.number) (after_writes k a (state k)) (state k)) a.number h r.1 (rest_reads decided state a h r.1 reads) in
    by_case (is_decided decided a.number) refl rest
  where
    by_case : (d : Bool) → is_decided decided a.number ≡ d
        → ReadsAlong (λ k. cond d (after_writes k a (state k)) (state k)) (filter (λ b. is_decided decided b.number) h)
        → ReadsAlong state (cond d (a ∷ filter (λ b. is_decided decided b.number) h) (filter (λ b. is_decided decided b.number) h))
    by_case true e rest = (first_reads decided state a h r.1 e reads, rest)
    by_case false e rest = rest

-- each decided attempt read what the state below its number has
pub reads_below : (opening : List (Key × Content)) (m : Story) → IsSoundStory opening m → (a : Attempt) → Contains m.history a → is_decided m.decided a.number ≡ true
    → ReadsFrom (state_below opening m.history m.decided a.number) a
reads_below opening m sound a inside d = λ part n. sound.reads_stay_true a inside part n (sound.commits_are_checked a inside d part n)

pub committed_serial : (opening : List (Key × Content)) (m : Story) → IsSoundStory opening m → ReadsAreSerial opening (committed m)
committed_serial opening m sound = record {
  rising = λ k. rises_filter (content_at opening k).number (λ a. is_decided m.decided a.number) m.history (sound.ordered_numbers.rising k);
  reads = reads_along m.decided (content_at opening) (content_at opening some_key).number m.history (sound.ordered_numbers.rising some_key)
      (λ a inside d part n. reads_below opening m sound a inside d part n);
}

pub commits_serial : (opening : List (Key × Content)) (m : Story) → IsSoundStory opening m → CommitsAreSerial opening m
commits_serial opening m sound = record {
  run = committed_serial opening m sound;
  count = count_committed opening m.history m.decided (clock_of m.first_draw m.epoch m.history) sound.ordered_numbers;
  reads = reads_below opening m sound;
}

-- ---- the start

opening_numbered : (pairs : List (Key × ℕ)) (k : Key) → (content_at (opening_contents pairs) k).number ≡ opening_number
opening_numbered [] k = refl
opening_numbered (e ∷ pairs) k =
    cond_both (same_key e.0 k) (opening_content e.1) (content_at (opening_contents pairs) k) (λ (c : Content). c.number ≡ opening_number)
    (λ _. refl) (λ _. opening_numbered pairs k)

-- the homes from a place on are at it or later ones
homes_from : (pairs : List (Key × ℕ)) (i : ℕ) (k : Key) (x : Spot) → spot_at (opening_homes i pairs) k ≡ Some x → (j : ℕ) × (i ≤ j) × (x ≡ opening_spot j)
homes_from [] i k x at = cc
homes_from (e ∷ pairs) i k x at =
    elim (cases_Bool (same_key e.0 k)) [
      | inl hit ↦
          let now : Some (opening_spot i) ≡ Some x = sym (ap spot_of (cond-true (same_key e.0 k) (InSlot (opening_spot i)) (home_of (opening_homes (i + 1) pairs) k) hit)) ∙ at in
          let is : x ≡ opening_spot i = cc in
          (i, omega arith, is)
      | inr miss ↦
          let r = homes_from pairs (i + 1) k x (sym (ap spot_of (cond-false (same_key e.0 k) (InSlot (opening_spot i)) (home_of (opening_homes (i + 1) pairs) k) miss)) ∙ at) in
          let up = r.1 in (r.0, omega arith, r.2)
    ]

-- a place before all of these is no key's home
no_earlier : (pairs : List (Key × ℕ)) (i : ℕ) (k : Key) → spot_at (opening_homes (i + 1) pairs) k ≡ Some (opening_spot i) → ⊥
no_earlier pairs i k at = let r = homes_from pairs (i + 1) k (opening_spot i) at in let up = r.1 in let same : i ≡ r.0 = ap (λ (x : Spot). x.index) r.2 in omega arith

opening_apart : (pairs : List (Key × ℕ)) (i : ℕ) → HomesApart (home_of (opening_homes i pairs))
opening_apart [] i = λ k q x at_k at_q. cc
opening_apart (e ∷ pairs) i = λ k q x at_k at_q.
    elim (cases_Bool (same_key e.0 k)) [
      | inl hit_k ↦ elim (cases_Bool (same_key e.0 q)) [
        | inl hit_q ↦ sym (same_key-true e.0 k hit_k) ∙ same_key-true e.0 q hit_q
        | inr miss_q ↦ absurd (no_earlier pairs i q (sym (later q miss_q) ∙ at_q ∙ at_k_is k x hit_k at_k))
      ]
      | inr miss_k ↦ elim (cases_Bool (same_key e.0 q)) [
        | inl hit_q ↦ absurd (no_earlier pairs i k (sym (later k miss_k) ∙ at_k ∙ at_k_is q x hit_q at_q))
        | inr miss_q ↦ opening_apart pairs (i + 1) k q x (sym (later k miss_k) ∙ at_k) (sym (later q miss_q) ∙ at_q)
      ]
    ]
  where
    first : (k : Key) → same_key e.0 k ≡ true → spot_at (opening_homes i (e ∷ pairs)) k ≡ Some (opening_spot i)
    first k hit = ap spot_of (cond-true (same_key e.0 k) (InSlot (opening_spot i)) (home_of (opening_homes (i + 1) pairs) k) hit)

    later : (k : Key) → same_key e.0 k ≡ false → spot_at (opening_homes i (e ∷ pairs)) k ≡ spot_at (opening_homes (i + 1) pairs) k
    later k miss = ap spot_of (cond-false (same_key e.0 k) (InSlot (opening_spot i)) (home_of (opening_homes (i + 1) pairs) k) miss)

    at_k_is : (k : Key) (x : Spot) → same_key e.0 k ≡ true → spot_at (opening_homes i (e ∷ pairs)) k ≡ Some x → Some x ≡ Some (opening_spot i)
    at_k_is k x hit at = sym at ∙ first k hit

-- at each key stands its content from the start, unlocked
opening_stands : (pairs : List (Key × ℕ)) (i : ℕ) (k : Key) → stands (opening_places i pairs) (opening_homes i pairs) k ≡ place (content_at (opening_contents pairs) k) Free
opening_stands [] i k = refl
opening_stands (e ∷ pairs) i k =
    elim (cases_Bool (same_key e.0 k)) [
      | inl hit ↦
          ap (stands_at (opening_places i (e ∷ pairs))) (cond-true (same_key e.0 k) (InSlot (opening_spot i)) (home_of (opening_homes (i + 1) pairs) k) hit)
          ∙ cond-true (same_spot (opening_spot i) (opening_spot i)) (opening_place e.1) (place_of (opening_places (i + 1) pairs) (opening_spot i)) (same_spot-self (opening_spot i))
          ∙ ap (λ (c : Content). place c Free) (sym (cond-true (same_key e.0 k) (opening_content e.1) (content_at (opening_contents pairs) k) hit))
      | inr miss ↦
          ap (stands_at (opening_places i (e ∷ pairs))) (cond-false (same_key e.0 k) (InSlot (opening_spot i)) (home_of (opening_homes (i + 1) pairs) k) miss)
          ∙ rest (home_of (opening_homes (i + 1) pairs) k) (λ e. no_earlier pairs i k e)
          ∙ opening_stands pairs (i + 1) k
          ∙ ap (λ (c : Content). place c Free) (sym (cond-false (same_key e.0 k) (opening_content e.1) (content_at (opening_contents pairs) k) miss))
    ]
  where
    -- a home that isn't the first place is looked up behind it
    rest : (h : Home) → (spot_of h ≡ Some (opening_spot i) → ⊥) → stands_at (opening_places i (e ∷ pairs)) h ≡ stands_at (opening_places (i + 1) pairs) h
    rest (InSlot x) other = cond-false (same_spot (opening_spot i) x) (opening_place e.1) (place_of (opening_places (i + 1) pairs) x)
        (false_from_ne_true (same_spot (opening_spot i) x) (λ h. other (ap (λ (y : Spot). Some y) (sym (same_spot-true (opening_spot i) x h)))))
    rest (InPage n c) other = refl
    rest Nowhere other = refl

at_replicate : (n i : ℕ) (x y : Seat) → slice_get (replicate n x) i ≡ Some y → x ≡ y
at_replicate zero i x y e = cc
at_replicate (suc n) zero x y e = cc
at_replicate (suc n) (suc i) x y e = at_replicate n i x y e

first_above : (e d : ℕ) → 0 < e → IsBelow opening_number (record { epoch = e; draw = d })
first_above e d later = inl later

epoch_before : (n e : ℕ) → 0 < n → n - 1 ≡ e → e < n
epoch_before n e later is = omega arith

free_dead : Free ≡ Dead → ⊥
free_dead e = cc

-- the first number, as a clock says it
clock_first : (first : Number) → clock_of first.draw first.epoch [] ≡ first
clock_first first = let none : first.draw + 0 ≡ first.draw = omega arith in
    ap (λ (d : ℕ). let n : Number = record { epoch = first.epoch; draw = d } in n) none

module _ (opening : List (Key × Content)) (places : List (Spot × Place)) (homes : List (Key × Home)) (first : Number) (can : CanOpen opening places homes first) where
  older : (k : Key) → IsBelow (content_at opening k).number (clock_of first.draw first.epoch [])
  older k = subst (λ (n : Number). IsBelow (content_at opening k).number n) (sym (clock_first first)) (can.older k)

  free : (k : Key) → (stands places homes k).holder ≡ Free
  free k = ap (λ (q : Place). q.holder) (can.stand k)

  unheld : (p : ℕ) (k : Key) → holder_is p (stands places homes k).holder ≡ true → ⊥
  unheld p k held = true≢false (sym held ∙ ap (holder_is p) (free k))

  fresh_sound : (p : ℕ) → IsSoundSeat opening (fresh_story places homes first) p (fresh_seat first)
  fresh_sound p = record {
    lock_owners = record { held = λ k h. absurd (true≢false (sym h)); listed = λ k h. absurd (unheld p k h) };
    attempt_stands = tt;
    locked_homes = λ k mine. absurd (unheld p k mine);
    no_lower_writer = tt;
    tries_go_on = tt;
    tries_kept = tt;
    marks_are_past = λ e is. let same : first.epoch - 1 ≡ e = cc in (epoch_before first.epoch e can.later same, tt);
    kept_is_past = kept_dropped opening [] (clock_of first.draw first.epoch []);
    kept_fits = λ part m. absurd (in_none part m);
  }

  pub fresh_core_sound : (passes : ℕ) → IsSound (fresh_core opening places homes first passes)
  fresh_core_sound passes = record {
    story = record {
      ordered_numbers = record {
        opening_past = older;
        rising = λ k. tt;
        past = λ a m. absurd (in_none a m);
        decided_drawn = λ n d. absurd (true≢false (sym d));
        decided_once = tt;
      };
      unlocked_homes = λ k _. inl (ap (λ (q : Place). q.content) (can.stand k));
      homes_alive = λ k dead. free_dead (sym (free k) ∙ dead);
      homes_apart = can.apart;
      reads_stay_true = λ a m. absurd (in_none a m);
      commits_are_checked = λ a m. absurd (in_none a m);
      parts_are_past = λ a m. absurd (in_none a m);
      checks_are_past = λ n w c. absurd (true≢false (sym c));
      given_up_stay_out = λ n g. absurd (true≢false (sym g));
      horizon_is_past = record { clock = opening_below (content_at opening some_key).number (clock_of first.draw first.epoch []) (older some_key); tries = λ a m. absurd (in_none a m) };
      epoch_fits = can.fits;
    };
    seats = λ p s at. subst (λ (x : Seat). IsSoundSeat opening (fresh_story places homes first) p x) (at_replicate passes p (fresh_seat first) s at) (fresh_sound p);
    holders_are_seats = λ k p e. absurd (unheld p k e);
  }

pub opening_sound : (pairs : List (Key × ℕ)) (first : Number) (passes : ℕ) → 0 < first.epoch → EpochFits first.epoch → IsSound (opening_core pairs first passes)
opening_sound pairs first passes later fits = fresh_core_sound (opening_contents pairs) (opening_places 0 pairs) (opening_homes 0 pairs) first (record {
  later = later;
  fits = fits;
  older = λ k. subst (λ (n : Number). IsBelow n first) (sym (opening_numbered pairs k)) (first_above first.epoch first.draw later);
  apart = opening_apart pairs 0;
  stand = opening_stands pairs 0;
}) passes
