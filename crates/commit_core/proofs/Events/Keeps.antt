-- What each act keeps: the story, its own seat and each other seat stay sound; and what holds of stages.
use Rattle.std.proofs.Common.{◌≡◌, ℕ, Bool, true, false, not, true≢false, eqb, List, [], ◌∷◌, refl, sym, ap, ◌∙◌, subst, arith, length, Option, Some, None}
use Rattle.std.proofs.lemmas.Bool.{cond_both, eqb-true}
use Rattle.std.specs.List.{slice_get}
use Rattle.std.specs.Option.{option_map_or}
use Rattle.serial_model.specs.declared.key.Key.{Key}
use Rattle.serial_model.specs.declared.number.Number.{Number}
use Rattle.homes.specs.declared.places.Content.{Content}
use Rattle.homes.specs.declared.places.Holder.TheVariants.{Free, Dead}
use Rattle.homes.specs.declared.places.Spot.{Spot}
use Rattle.commit_core.specs.declared.place.Place.{Place}
use Rattle.commit_core.specs.declared.attempt.Attempt.{Attempt}
use Rattle.commit_core.specs.declared.seat.Stage.{Stage}
use Rattle.commit_core.specs.declared.seat.Stage.TheVariants.{Idle, Trying, Ended, Decided}
use Rattle.commit_core.specs.declared.seat.Seat.{Seat}
use Rattle.commit_core.specs.declared.story.Story.{Story}
use Rattle.commit_core.specs.Keys.{has_key}
use Rattle.commit_core.specs.Places.{place_of, home_of, stands, spot_at, placed, is_free_at, is_held_at, holder_is}
use Rattle.commit_core.specs.Moves.{Shows}
use Rattle.commit_core.specs.CoreState.{clock_of, is_trying, can_begin, attempt_tried, attempt_decided, settled, settled_at}
use Rattle.commit_core.specs.Serial.{last_write}
use Rattle.commit_core.specs.Event.{moved}
pub use Rattle.commit_core.specs.Law.{Keeps}
use Rattle.commit_core.specs.Sound.{IsSoundStory, IsSoundSeat}
use Rattle.commit_core.specs.Sound.Locks.{IsTried, IsDecided, AttemptStands}
use Rattle.commit_core.specs.Sound.Homes.{HomeHeld}
use Rattle.commit_core.specs.Sound.Marks.{IsAboveMark}
use Rattle.commit_core.specs.Lemmas.Places.{Sets, placed_sets, stands-spot}
use Rattle.lists.specs.Elements.{in_none}
use Rattle.commit_core.proofs.ReadLaws.{kept_dropped}
use Rattle.commit_core.proofs.LockLaws.{is_free-free, locks_set, stands_set}
use Rattle.commit_core.proofs.HomeLaws.{homes_set, alive_set, locked_set}
use Rattle.commit_core.proofs.KeptLaws.{fits_placed}

-- ---- frames: the story stays, or one place alone changes

pub seat_alone : (opening : List (Key × Content)) (p : ℕ) (m : Story) (s : Seat) → IsSoundStory opening m → IsSoundSeat opening m p s → Keeps opening p m (moved m s)
seat_alone opening p m s story own = record { story = story; own = own; others = λ q t _ sound. sound; holders = λ seats _ holders. holders }

abbrev pub with_place : Story → Spot → Place → Story
with_place m x new = record m { places = placed m.places x new }

-- the place is the key's home, and isn't dead
pub record IsHome (m : Story) (k : Key) (x : Spot) : Type 0 where
  pub at : spot_at m.homes k ≡ Some x
  pub alive : (place_of m.places x).holder ≡ Dead → ⊥

-- what stands at the key is what stands in the place
pub home_stands : (m : Story) (k : Key) (x : Spot) → IsHome m k x → stands m.places m.homes k ≡ place_of m.places x
home_stands m k x home = stands-spot m.places (home_of m.homes k) x home.at

pub story_sets : (opening : List (Key × Content)) (m : Story) (k : Key) (x : Spot) (new : Place) → IsHome m k x → IsSoundStory opening m
    → Sets k new (stands m.places m.homes) (stands (placed m.places x new) m.homes)
story_sets opening m k x new home sound = placed_sets m.places m.homes k x new sound.homes_apart home.at home.alive

pub story_placed : (opening : List (Key × Content)) (m : Story) (k : Key) (x : Spot) (new : Place) → IsHome m k x → (new.holder ≡ Dead → ⊥)
    → (new.holder ≡ Free → Shows m.horizon new.content (last_write opening m.history m.decided k))
    → IsSoundStory opening m → IsSoundStory opening (with_place m x new)
story_placed opening m k x new home alive right sound =
    let sets = story_sets opening m k x new home sound in
    let st = stands m.places m.homes in
    let st' = stands (placed m.places x new) m.homes in
    record {
      ordered_numbers = sound.ordered_numbers;
      unlocked_homes = homes_set m.horizon (last_write opening m.history m.decided) k new st st' sets right sound.unlocked_homes;
      homes_alive = alive_set k new st st' sets alive sound.homes_alive;
      homes_apart = sound.homes_apart;
      reads_stay_true = sound.reads_stay_true;
      commits_are_checked = sound.commits_are_checked;
      parts_are_past = sound.parts_are_past;
      checks_are_past = sound.checks_are_past;
      given_up_stay_out = sound.given_up_stay_out;
      horizon_is_past = sound.horizon_is_past;
      epoch_fits = sound.epoch_fits;
    }

-- a seat that held the place neither before nor holds it now
pub seat_placed : (opening : List (Key × Content)) (m : Story) (k : Key) (x : Spot) (new : Place) (q : ℕ) (t : Seat) → IsHome m k x → IsSoundStory opening m
    → holder_is q (place_of m.places x).holder ≡ false → holder_is q new.holder ≡ false
    → IsSoundSeat opening m q t → IsSoundSeat opening (with_place m x new) q t
seat_placed opening m k x new q t home story before now sound =
    let sets = story_sets opening m k x new home story in
    let st = stands m.places m.homes in
    let st' = stands (placed m.places x new) m.homes in
    let was : holder_is q (st k).holder ≡ false = ap (λ (y : Place). holder_is q y.holder) (home_stands m k x home) ∙ before in
    let keeps : holder_is q (st k).holder ≡ true → holder_is q new.holder ≡ true = λ h. absurd (true≢false (sym h ∙ was)) in
    let back : holder_is q new.holder ≡ true → holder_is q (st k).holder ≡ true = λ h. absurd (true≢false (sym h ∙ now)) in
    record {
      lock_owners = locks_set k new st st' sets q t.locks keeps back sound.lock_owners;
      attempt_stands = stands_set k new st st' sets q m.history m.decided t.put t.stage keeps sound.attempt_stands;
      locked_homes = locked_set m.horizon opening m.history m.decided t.put t.put q t.stage k new st st' sets (λ h. absurd (true≢false (sym h ∙ now))) (λ x c _ held. held) sound.locked_homes;
      no_lower_writer = sound.no_lower_writer;
      tries_go_on = sound.tries_go_on;
      tries_kept = sound.tries_kept;
      marks_are_past = sound.marks_are_past;
      kept_is_past = sound.kept_is_past;
      kept_fits = fits_placed m.places m.homes x new t.kept home.alive sound.kept_fits;
    }

-- ---- places

pub free_place : (places : List (Spot × Place)) (o : Option Spot) → is_free_at places o ≡ true → (x : Spot) × (o ≡ Some x) × ((place_of places x).holder ≡ Free)
free_place places None h = absurd (true≢false (sym h))
free_place places (Some x) h = (x, refl, is_free-free (place_of places x).holder h)

pub held_place : (p : ℕ) (places : List (Spot × Place)) (o : Option Spot) → is_held_at p places o ≡ true → (x : Spot) × (o ≡ Some x) × (holder_is p (place_of places x).holder ≡ true)
held_place p places None h = absurd (true≢false (sym h))
held_place p places (Some x) h = (x, refl, h)

-- ---- stages

-- with no attempt in progress or decided, a home that the seat holds shows the last write
pub home_before : (horizon : Number) (opening : List (Key × Content)) (h : List Attempt) (decided : List Number) (put : List Key) (k : Key) (c : Content) (stage : Stage) → can_begin stage ≡ true
    → HomeHeld horizon opening h decided put k c stage → Shows horizon c (last_write opening h decided k)
home_before horizon opening h decided put k c Idle e held = held
home_before horizon opening h decided put k c (Trying i) e held = absurd (true≢false (sym e))
home_before horizon opening h decided put k c Ended e held = held
home_before horizon opening h decided put k c (Decided i) e held = absurd (true≢false (sym e))

pub above_at_rest : (h : List Attempt) (stage : Stage) → not (is_trying stage) ≡ true → (e : ℕ) → IsAboveMark h stage e
above_at_rest h Idle r e = tt
above_at_rest h (Trying i) r e = absurd (true≢false (sym r))
above_at_rest h Ended r e = tt
above_at_rest h (Decided i) r e = tt

-- what the attempt in progress passes, where there is one
pub record Tried (h : List Attempt) (stage : Stage) (f : Attempt → Bool) : Type 0 where
  pub index : ℕ
  pub attempt : Attempt
  pub stage_is : stage ≡ Trying index
  pub at : slice_get h index ≡ Some attempt
  pub passes : f attempt ≡ true

mapped : (o : Option Attempt) (f : Attempt → Bool) → option_map_or f o false ≡ true → (a : Attempt) × (o ≡ Some a) × (f a ≡ true)
mapped None f e = absurd (true≢false (sym e))
mapped (Some a) f e = (a, refl, e)

pub tried_passes : (h : List Attempt) (stage : Stage) (f : Attempt → Bool) → option_map_or f (attempt_tried h stage) false ≡ true → Tried h stage f
tried_passes h Idle f e = absurd (true≢false (sym e))
tried_passes h (Trying i) f e = let r = mapped (slice_get h i) f e in record { index = i; attempt = r.0; stage_is = refl; at = r.1; passes = r.2 }
tried_passes h Ended f e = absurd (true≢false (sym e))
tried_passes h (Decided i) f e = absurd (true≢false (sym e))

-- the same of the decided attempt
pub record Settles (h : List Attempt) (stage : Stage) (f : Attempt → Bool) : Type 0 where
  pub index : ℕ
  pub attempt : Attempt
  pub stage_is : stage ≡ Decided index
  pub at : slice_get h index ≡ Some attempt
  pub passes : f attempt ≡ true

pub decided_passes : (h : List Attempt) (stage : Stage) (f : Attempt → Bool) → option_map_or f (attempt_decided h stage) false ≡ true → Settles h stage f
decided_passes h Idle f e = absurd (true≢false (sym e))
decided_passes h (Trying i) f e = absurd (true≢false (sym e))
decided_passes h Ended f e = absurd (true≢false (sym e))
decided_passes h (Decided i) f e = let r = mapped (slice_get h i) f e in record { index = i; attempt = r.0; stage_is = refl; at = r.1; passes = r.2 }

-- the attempt that stands is the one at its place
pub tried_is : (h : List Attempt) (decided : List Number) (st : Key → Place) (put : List Key) (p : ℕ) (stage : Stage) (i : ℕ) (a : Attempt) → stage ≡ Trying i → slice_get h i ≡ Some a
    → AttemptStands h decided st put p stage → IsTried h decided st p i a
tried_is h decided st put p stage i a e at stands =
    let t = subst (λ (x : Stage). AttemptStands h decided st put p x) e stands in
    let both : Some t.0 ≡ Some a = sym t.1.at ∙ at in
    let same : t.0 ≡ a = cc in
    subst (λ (x : Attempt). IsTried h decided st p i x) same t.1

pub decided_is : (h : List Attempt) (decided : List Number) (st : Key → Place) (put : List Key) (p : ℕ) (stage : Stage) (i : ℕ) (a : Attempt) → stage ≡ Decided i → slice_get h i ≡ Some a
    → AttemptStands h decided st put p stage → IsDecided h decided st put p i a
decided_is h decided st put p stage i a e at stands =
    let t = subst (λ (x : Stage). AttemptStands h decided st put p x) e stands in
    let both : Some t.0 ≡ Some a = sym t.1.at ∙ at in
    let same : t.0 ≡ a = cc in
    subst (λ (x : Attempt). IsDecided h decided st put p i x) same t.1

-- ---- a seat whose attempt is over and that has no lock left

no_locks : (locks : List Key) → eqb (length locks) 0 ≡ true → locks ≡ []
no_locks [] e = refl
no_locks (k ∷ locks) e = absurd (let n = eqb-true (length (k ∷ locks)) 0 e in omega arith)

rested : (opening : List (Key × Content)) (m : Story) (p : ℕ) (s : Seat) → s.locks ≡ [] → IsSoundSeat opening m p s → IsSoundSeat opening m p (record s { kept = []; put = []; stage = Idle })
rested opening m p s none sound = record {
  lock_owners = sound.lock_owners;
  attempt_stands = tt;
  locked_homes = λ k mine.
      let listed = sound.lock_owners.listed k mine in
      absurd (true≢false (sym listed ∙ ap (λ (l : List Key). has_key l k) none));
  no_lower_writer = tt;
  tries_go_on = tt;
  tries_kept = tt;
  marks_are_past = λ e is. ((sound.marks_are_past e is).0, tt);
  kept_is_past = kept_dropped opening m.history (clock_of m.first_draw m.epoch m.history);
  kept_fits = λ part m. absurd (in_none part m);
}

settled_at_sound : (opening : List (Key × Content)) (m : Story) (p : ℕ) (s : Seat) (stage : Stage) → s.locks ≡ [] → IsSoundSeat opening m p s → IsSoundSeat opening m p (settled_at stage s)
settled_at_sound opening m p s Idle none sound = sound
settled_at_sound opening m p s (Trying i) none sound = sound
settled_at_sound opening m p s Ended none sound = rested opening m p s none sound
settled_at_sound opening m p s (Decided i) none sound = rested opening m p s none sound

pub settled_sound : (opening : List (Key × Content)) (m : Story) (p : ℕ) (s : Seat) → IsSoundSeat opening m p s → IsSoundSeat opening m p (settled s)
settled_sound opening m p s sound =
    cond_both (eqb (length s.locks) 0) (settled_at s.stage s) s (λ (x : Seat). IsSoundSeat opening m p x)
    (λ e. settled_at_sound opening m p s s.stage (no_locks s.locks e) sound) (λ _. sound)
