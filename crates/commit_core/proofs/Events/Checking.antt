-- Check and Confirm: they add a check to the story, or give the attempt up.
use Rattle.std.proofs.Common.{◌≡◌, ℕ, Bool, true, false, not, true≢false, eqb-true, ◌||◌, ◌⊎◌, inl, inr, List, [], ◌∷◌, ◌++◌, refl, sym, ap, ◌∙◌, subst, Option, Some}
use Rattle.std.proofs.lemmas.Bool.{and_parts, or_cases, false_from_ne_true, cond_both}
use Rattle.std.specs.List.{Contains, slice_get}
use Rattle.std.specs.Prelude.{is_some}
use Rattle.std.specs.Option.{option_map_or}
use mathlib.Core.Bool.{beq}
use Rattle.serial_model.specs.declared.key.Key.{Key}
use Rattle.serial_model.specs.Numbers.{IsBelow, not_below_itself}
use Rattle.homes.specs.declared.places.Content.{Content}
use Rattle.homes.specs.declared.places.Holder.{Holder}
use Rattle.homes.specs.declared.places.Holder.TheVariants.{Free, Held, Dead}
use Rattle.homes.specs.declared.places.Spot.{Spot}
use Rattle.commit_core.specs.declared.place.Place.{Place}
use Rattle.commit_core.specs.declared.part.Word.{Word}
use Rattle.commit_core.specs.declared.part.Word.TheVariants.{Record}
use Rattle.commit_core.specs.declared.part.Version.{Version}
use Rattle.commit_core.specs.declared.part.Part.{Part}
use Rattle.commit_core.specs.declared.attempt.Attempt.{Attempt}
use Rattle.commit_core.specs.declared.seat.Stage.{Stage}
use Rattle.commit_core.specs.declared.seat.Stage.TheVariants.{Trying, Ended}
use Rattle.commit_core.specs.declared.seat.Seat.{Seat}
use Rattle.commit_core.specs.declared.story.Story.{Story}
use Rattle.commit_core.specs.Keys.{same_number, writes_key}
use Rattle.commit_core.specs.Places.{place_of, home_of, stands, spot_of, holder_is, is_open_to}
use Rattle.commit_core.specs.Parts.{same_word, is_version, version_of, covers, found, Vouches}
use Rattle.commit_core.specs.Moves.{Shows}
use Rattle.commit_core.specs.Told.{IsSoNow}
use Rattle.commit_core.specs.CoreState.{clock_of, check_of, attempt_tried, settled}
use Rattle.commit_core.specs.Serial.{state_below, last_write}
use Rattle.commit_core.specs.Event.{is_unchecked, Moved, moved, is_as_seen, stays_as_seen, after_check}
use Rattle.commit_core.specs.Sound.{IsSoundStory, IsSoundSeat}
use Rattle.commit_core.specs.Sound.Numbers.{TriesGoOn}
use Rattle.commit_core.specs.Sound.Locks.{IsTried}
use Rattle.commit_core.specs.Sound.Homes.{HomeHeld}
use Rattle.commit_core.specs.Sound.Reads.{FitsWord, TriesKept}
use Rattle.commit_core.specs.Lemmas.Keys.{same_number-true, same_word-self}
use Rattle.commit_core.specs.Lemmas.Places.{stands-spot}
use Rattle.lists.specs.Elements.{at_in, all_in}
use Rattle.commit_core.specs.Lemmas.Numbers.{checks_checked}
use Rattle.commit_core.specs.Lemmas.Versions.{IsAlone, alone}
use Rattle.commit_core.specs.Lemmas.Shows.{same_word_content}
use Rattle.commit_core.proofs.ReadLaws.{shown_is_below, reads_checked, writer_checked, commits_checked}
use Rattle.commit_core.proofs.HorizonLaws.{given_up_more, goes_on_given_up, horizon_given_up}
use Rattle.commit_core.proofs.MarkLaws.{marks_rest}
use Rattle.commit_core.proofs.Events.Keeps.{Keeps, tried_passes, tried_is, settled_sound}

-- ---- who may change what is open to a seat

open_holder : (p : ℕ) (x : Holder) → is_open_to p x ≡ true → (x ≡ Free) ⊎ (holder_is p x ≡ true)
open_holder p Free o = inl refl
open_holder p (Held q) o = inr o
open_holder p Dead o = absurd (true≢false (sym o))

open_alive : (p : ℕ) (x : Holder) → is_open_to p x ≡ true → x ≡ Dead → ⊥
open_alive p x o dead = true≢false (sym o ∙ ap (is_open_to p) dead)

other_open : (p r : ℕ) (x : Holder) → (r ≡ p → ⊥) → is_open_to p x ≡ true → holder_is r x ≡ true → ⊥
other_open p r Free other o mine = true≢false (sym mine)
other_open p r (Held q) other o mine = other (sym (eqb-true q r mine) ∙ eqb-true q p o)
other_open p r Dead other o mine = true≢false (sym mine)

-- what is open to a seat with an attempt in progress shows the last write
open_shown : (opening : List (Key × Content)) (m : Story) (p : ℕ) (s : Seat) (i : ℕ) (k : Key) → s.stage ≡ Trying i → IsSoundStory opening m → IsSoundSeat opening m p s
    → is_open_to p (stands m.places m.homes k).holder ≡ true → Shows m.horizon (stands m.places m.homes k).content (last_write opening m.history m.decided k)
open_shown opening m p s i k stage story own o =
    elim (open_holder p (stands m.places m.homes k).holder o) [
      | inl free ↦ story.unlocked_homes k free
      | inr mine ↦ (subst (λ (x : Stage). HomeHeld m.horizon opening m.history m.decided s.put k (stands m.places m.homes k).content x) stage (own.locked_homes k mine)).0
    ]

-- ---- a record is as it was read

beq_true : (a b : Bool) → beq a b ≡ true → a ≡ b
beq_true true true e = refl
beq_true true false e = absurd (true≢false (sym e))
beq_true false true e = absurd (true≢false (sym e))
beq_true false false e = refl

-- a part of the record's word is as seen, where all of them are
part_seen : (p : ℕ) (m : Story) (x : Spot) (a : Attempt) → stays_as_seen p m.places x a ≡ true → (part : Part) → Contains a.parts part → part.word ≡ Record x → is_as_seen p (place_of m.places x) part ≡ true
part_seen p m x a stays part inside e =
    let here = all_in (λ q. not (same_word q.word (Record x)) || is_as_seen p (place_of m.places x) q) a.parts stays part inside in
    let of_word : same_word part.word (Record x) ≡ true = subst (λ (w : Word). same_word part.word w ≡ true) e (same_word-self part.word) in
    elim (or_cases (not (same_word part.word (Record x))) (is_as_seen p (place_of m.places x) part) here) [
      | inl other ↦ absurd (true≢false (sym other ∙ ap not of_word))
      | inr seen ↦ seen
    ]

-- an attempt in progress has the parts that its seat keeps
kept_part : (h : List Attempt) (kept : List Part) (stage : Stage) (i : ℕ) (a : Attempt) → stage ≡ Trying i → slice_get h i ≡ Some a → TriesKept h kept stage → (part : Part) → Contains a.parts part → Contains kept part
kept_part h kept stage i a e at tries part inside =
    subst (λ (l : List Part). Contains l part) (subst (λ (x : Stage). TriesKept h kept x) e tries a at) inside

-- a record that is as it was read is at its key's home, with what was found there
pub record_so : (opening : List (Key × Content)) (m : Story) (p : ℕ) (s : Seat) (i : ℕ) (a : Attempt) (x : Spot) → s.stage ≡ Trying i → slice_get m.history i ≡ Some a → stays_as_seen p m.places x a ≡ true
    → IsSoundStory opening m → IsSoundSeat opening m p s
    → (part : Part) → Contains a.parts part → part.word ≡ Record x → IsSoNow p (stands m.places m.homes) part
record_so opening m p s i a x stage at stays story own part inside e = λ k c.
    let parts = and_parts (is_open_to p (place_of m.places x).holder) (is_version (place_of m.places x).content part.version) (part_seen p m x a stays part inside e) in
    let of_record = subst (λ (w : Word). FitsWord m.places m.homes part w) e (own.kept_fits part (kept_part m.history s.kept s.stage i a stage at own.tries_kept part inside)) in
    let key_is : k ≡ of_record.key = of_record.only k c in
    elim (of_record.home) [
      | inl home ↦
          let there : stands m.places m.homes k ≡ place_of m.places x = stands-spot m.places (home_of m.homes k) x (ap (λ (q : Key). spot_of (home_of m.homes q)) key_is ∙ home) in
          let open_now : is_open_to p (stands m.places m.homes k).holder ≡ true = ap (λ (q : Place). is_open_to p q.holder) there ∙ parts.0 in
          let version : is_version (stands m.places m.homes k).content (version_of (found part k)) ≡ true =
          ap (λ (q : Place). is_version q.content (version_of (found part k))) there
          ∙ ap (λ (v : Version). is_version (place_of m.places x).content v) (ap (λ (q : Key). version_of (found part q)) key_is ∙ sym of_record.version) ∙ parts.1 in
          let same = and_parts (same_number (stands m.places m.homes k).content.number (found part k).number) (beq (is_some (stands m.places m.homes k).content.value) (is_some (found part k).value)) version in (
            open_now,
            same_word_content m.horizon opening m.history m.decided k (stands m.places m.homes k).content (found part k) (story.ordered_numbers.rising k)
                (open_shown opening m p s i k stage story own open_now) ((story.parts_are_past a (at_in m.history i a at) part inside).version k c)
                (same_number-true (stands m.places m.homes k).content.number (found part k).number same.0)
                (beq_true (is_some (stands m.places m.homes k).content.value) (is_some (found part k).value) same.1),
          )
      | inr dead ↦ absurd (open_alive p (place_of m.places x).holder parts.0 dead)
    ]

-- ---- it succeeds

-- the parts of the word are so now
abbrev pub AreSo : ℕ → Story → Attempt → Word → Type 0
AreSo p m a w = (part : Part) → Contains a.parts part → part.word ≡ w → IsSoNow p (stands m.places m.homes) part

abbrev with_check : Story → Attempt → Word → Story
with_check m a w = record m { checks = m.checks ++ check_of a.number w ∷ [] }

module _ (opening : List (Key × Content)) (p : ℕ) (m : Story) (s : Seat) (i : ℕ) (a : Attempt) (w : Word) (stage : s.stage ≡ Trying i) (at : slice_get m.history i ≡ Some a)
    (story : IsSoundStory opening m) (own : IsSoundSeat opening m p s) where
  inside : Contains m.history a
  inside = at_in m.history i a at

  only : IsAlone m.history a
  only = alone opening m.history m.decided (clock_of m.first_draw m.epoch m.history) a story.ordered_numbers inside

  tried : IsTried m.history m.decided (stands m.places m.homes) p i a
  tried = tried_is m.history m.decided (stands m.places m.homes) s.put p s.stage i a stage at own.attempt_stands

  above : IsBelow m.horizon a.number
  above = story.horizon_is_past.tries a inside tried.undecided (subst (λ (x : Stage). TriesGoOn m.history m.given_up x) stage own.tries_go_on a at)

  checked_now : AreSo p m a w → (part : Part) → Contains a.parts part → part.word ≡ w → Vouches (state_below opening m.history m.decided a.number) part
  checked_now so part n e = λ k c.
      let now = so part n e k c in
      shown_is_below m.horizon opening m.history m.decided (clock_of m.first_draw m.epoch m.history) a.number k (found part k) story.ordered_numbers above
      ((story.parts_are_past a inside part n).number k c)
      (subst (λ (x : Content). Shows m.horizon x (last_write opening m.history m.decided k)) now.1 (open_shown opening m p s i k stage story own now.0))

  story_checked : AreSo p m a w → IsSoundStory opening (with_check m a w)
  story_checked so = record {
    ordered_numbers = story.ordered_numbers;
    unlocked_homes = story.unlocked_homes;
    homes_alive = story.homes_alive;
    homes_apart = story.homes_apart;
    reads_stay_true = reads_checked opening m.history m.checks m.decided a w only (checked_now so) story.reads_stay_true;
    commits_are_checked = commits_checked m.history m.checks m.decided a.number w story.commits_are_checked;
    parts_are_past = story.parts_are_past;
    checks_are_past = checks_checked m.checks (clock_of m.first_draw m.epoch m.history) a.number w (story.ordered_numbers.past a inside) story.checks_are_past;
    given_up_stay_out = story.given_up_stay_out;
    horizon_is_past = story.horizon_is_past;
    epoch_fits = story.epoch_fits;
  }

  seat_checked : (q : ℕ) (t : Seat)
      → ((j : ℕ) (b : Attempt) → t.stage ≡ Trying j → slice_get m.history j ≡ Some b → IsBelow b.number a.number
      → (part : Part) → Contains a.parts part → part.word ≡ w → (k : Key) → covers part k ≡ true → writes_key b.writes k ≡ false)
      → IsSoundSeat opening m q t → IsSoundSeat opening (with_check m a w) q t
  seat_checked q t apart sound = record {
    lock_owners = sound.lock_owners;
    attempt_stands = sound.attempt_stands;
    locked_homes = sound.locked_homes;
    no_lower_writer = writer_checked m.history m.checks a w t.stage only apart sound.no_lower_writer;
    tries_go_on = sound.tries_go_on;
    tries_kept = sound.tries_kept;
    marks_are_past = sound.marks_are_past;
    kept_is_past = sound.kept_is_past;
    kept_fits = sound.kept_fits;
  }

  -- another seat's attempt in progress holds what it writes, and so does not write a key whose home is open to this
  -- seat
  other_writes_not : AreSo p m a w → (q : ℕ) (t : Seat) → (q ≡ p → ⊥) → IsSoundSeat opening m q t → (j : ℕ) (b : Attempt) → t.stage ≡ Trying j → slice_get m.history j ≡ Some b
      → (part : Part) → Contains a.parts part → part.word ≡ w → (k : Key) → covers part k ≡ true → writes_key b.writes k ≡ false
  other_writes_not so q t other sound j b stage' there part n e k c =
      let theirs = tried_is m.history m.decided (stands m.places m.homes) t.put q t.stage j b stage' there sound.attempt_stands in
      false_from_ne_true (writes_key b.writes k) (λ v. other_open p q (stands m.places m.homes k).holder other (so part n e k c).0 (theirs.holds k v))

  -- its own number is not below itself
  own_not_below : (j : ℕ) (b : Attempt) → s.stage ≡ Trying j → slice_get m.history j ≡ Some b → IsBelow b.number a.number → ⊥
  own_not_below j b stage' at' l =
      let stages : Trying i ≡ Trying j = sym stage ∙ stage' in
      let same_index : i ≡ j = cc in
      let both : Some a ≡ Some b = sym at ∙ ap (λ (x : ℕ). slice_get m.history x) same_index ∙ at' in
      let same : b ≡ a = cc in
      not_below_itself b.number a.number (ap (λ (x : Attempt). x.number) same) l

  check_made : AreSo p m a w → Keeps opening p m (moved (with_check m a w) s)
  check_made so = record {
    story = story_checked so;
    own = seat_checked p s (λ j b stage' at' l. absurd (own_not_below j b stage' at' l)) own;
    others = λ q t other sound. seat_checked q t (λ j b stage' there _. other_writes_not so q t other sound j b stage' there) sound;
    holders = λ seats l holders. holders;
  }

  -- ---- it fails

  abbrev given_up : Story
  given_up = record m { given_up = m.given_up ++ a.number ∷ [] }

  story_given_up : IsSoundStory opening given_up
  story_given_up = record {
    ordered_numbers = story.ordered_numbers;
    unlocked_homes = story.unlocked_homes;
    homes_alive = story.homes_alive;
    homes_apart = story.homes_apart;
    reads_stay_true = story.reads_stay_true;
    commits_are_checked = story.commits_are_checked;
    parts_are_past = story.parts_are_past;
    checks_are_past = story.checks_are_past;
    given_up_stay_out = given_up_more m.decided m.given_up (clock_of m.first_draw m.epoch m.history) a.number (story.ordered_numbers.past a inside) tried.undecided story.given_up_stay_out;
    horizon_is_past = horizon_given_up m.horizon m.history m.decided m.given_up (clock_of m.first_draw m.epoch m.history) a.number story.horizon_is_past;
    epoch_fits = story.epoch_fits;
  }

  own_ended : IsSoundSeat opening given_up p (record s { stage = Ended })
  own_ended = record {
    lock_owners = own.lock_owners;
    attempt_stands = tt;
    locked_homes = λ k mine. (subst (λ (x : Stage). HomeHeld m.horizon opening m.history m.decided s.put k (stands m.places m.homes k).content x) stage (own.locked_homes k mine)).0;
    no_lower_writer = tt;
    tries_go_on = tt;
    tries_kept = tt;
    marks_are_past = marks_rest m.epoch m.history s.marks s.stage Ended (λ e. tt) own.marks_are_past;
    kept_is_past = own.kept_is_past;
    kept_fits = own.kept_fits;
  }

  other_given_up : (q : ℕ) (t : Seat) → (q ≡ p → ⊥) → IsSoundSeat opening m q t → IsSoundSeat opening given_up q t
  other_given_up q t other sound = record {
    lock_owners = sound.lock_owners;
    attempt_stands = sound.attempt_stands;
    locked_homes = sound.locked_homes;
    no_lower_writer = sound.no_lower_writer;
    tries_go_on = goes_on_given_up m.history m.given_up a t.stage
        (λ j b stage' there e.
        let theirs = tried_is m.history m.decided (stands m.places m.homes) t.put q t.stage j b stage' there sound.attempt_stands in
        other (sym theirs.own ∙ ap (λ (x : Attempt). x.seat) (only b (at_in m.history j b there) (sym e)) ∙ tried.own))
        sound.tries_go_on;
    tries_kept = sound.tries_kept;
    marks_are_past = sound.marks_are_past;
    kept_is_past = sound.kept_is_past;
    kept_fits = sound.kept_fits;
  }

  check_failed : Keeps opening p m (moved given_up (settled (record s { stage = Ended })))
  check_failed = record {
    story = story_given_up;
    own = settled_sound opening given_up p (record s { stage = Ended }) own_ended;
    others = other_given_up;
    holders = λ seats l holders. holders;
  }

pub keeps_check : (opening : List (Key × Content)) (p : ℕ) (m : Story) (s : Seat) (w : Word) (stays : Attempt → Bool) → option_map_or (is_unchecked m.checks w) (attempt_tried m.history s.stage) false ≡ true
    → ((i : ℕ) (a : Attempt) → s.stage ≡ Trying i → slice_get m.history i ≡ Some a → stays a ≡ true → AreSo p m a w)
    → IsSoundStory opening m → IsSoundSeat opening m p s → Keeps opening p m (after_check w stays m s (attempt_tried m.history s.stage))
keeps_check opening p m s w stays unchecked so story own =
    let t = tried_passes m.history s.stage (is_unchecked m.checks w) unchecked in
    let a = t.attempt in
    let now : attempt_tried m.history s.stage ≡ Some a = ap (λ (x : Stage). attempt_tried m.history x) t.stage_is ∙ t.at in
    subst (λ (o : Option Attempt). Keeps opening p m (after_check w stays m s o)) (sym now)
    (cond_both (stays a) (moved (with_check m a w) s) (moved (record m { given_up = m.given_up ++ a.number ∷ [] }) (settled (record s { stage = Ended }))) (λ (n : Moved). Keeps opening p m n)
    (λ passes. check_made opening p m s t.index a w t.stage_is t.at story own (so t.index a t.stage_is t.at passes))
    (λ _. check_failed opening p m s t.index a w t.stage_is t.at story own))
