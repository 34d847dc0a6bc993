-- Decide: the attempt counts from then on.
use Rattle.std.proofs.Common.{◌≡◌, ℕ, true, false, true≢false, List, [], ◌∷◌, ◌++◌, refl, sym, ap, ◌∙◌, subst, Option, Some}
use Rattle.std.specs.List.{slice_get}
use Rattle.std.specs.Option.{option_map_or}
use Rattle.serial_model.specs.declared.key.Key.{Key}
use Rattle.homes.specs.declared.places.Content.{Content}
use Rattle.commit_core.specs.declared.attempt.Attempt.{Attempt}
use Rattle.commit_core.specs.declared.seat.Stage.{Stage}
use Rattle.commit_core.specs.declared.seat.Stage.TheVariants.{Trying, Decided}
use Rattle.commit_core.specs.declared.seat.Seat.{Seat}
use Rattle.commit_core.specs.declared.story.Story.{Story}
use Rattle.commit_core.specs.Keys.{writes_key}
use Rattle.commit_core.specs.Places.{stands, holder_is}
use Rattle.commit_core.specs.CoreState.{clock_of, is_checked, attempt_tried, settled}
use Rattle.commit_core.specs.Event.{all_checked, moved, decided_stage, after_decide}
use Rattle.commit_core.specs.Sound.{IsSoundStory, IsSoundSeat}
use Rattle.commit_core.specs.Sound.Locks.{IsTried}
use Rattle.commit_core.specs.Sound.Numbers.{TriesGoOn}
use Rattle.commit_core.specs.Sound.Homes.{HomeHeld}
use Rattle.commit_core.specs.Sound.Reads.{NoLowerWriter}
use Rattle.lists.specs.Elements.{at_in, all_in}
use Rattle.commit_core.specs.Lemmas.Numbers.{numbers_decided, decided_new}
use Rattle.commit_core.specs.Lemmas.Versions.{IsAlone, alone}
use Rattle.commit_core.proofs.ReadLaws.{reads_decided, commits_decided}
use Rattle.commit_core.proofs.LockLaws.{unlocked_not, other_not, stands_decided}
use Rattle.commit_core.proofs.HomeLaws.{IsUnwritten, homes_decided, held_decided, held_decides, locked_so}
use Rattle.commit_core.proofs.MarkLaws.{marks_rest}
use Rattle.commit_core.proofs.HorizonLaws.{given_up_decided, horizon_decided}
use Rattle.commit_core.proofs.Events.Keeps.{Keeps, tried_passes, tried_is, settled_sound}

abbrev with_decision : Story → Attempt → Story
with_decision m a = record m { decided = m.decided ++ a.number ∷ [] }

-- a key whose home this seat does not hold is written by no attempt of the number
unwritten_elsewhere : (m : Story) (p i : ℕ) (a : Attempt) (k : Key) → IsAlone m.history a → IsTried m.history m.decided (stands m.places m.homes) p i a
    → holder_is p (stands m.places m.homes k).holder ≡ false → IsUnwritten m.history a.number k
unwritten_elsewhere m p i a k only tried not_mine = λ b n e w.
    let own_write : writes_key a.writes k ≡ true = ap (λ (x : Attempt). writes_key x.writes k) (sym (only b n e)) ∙ w in
    true≢false (sym (tried.holds k own_write) ∙ not_mine)

story_decided : (opening : List (Key × Content)) (m : Story) (p : ℕ) (s : Seat) (i : ℕ) (a : Attempt) → s.stage ≡ Trying i → slice_get m.history i ≡ Some a → all_checked m.checks a ≡ true
    → IsSoundStory opening m → IsSoundSeat opening m p s → IsSoundStory opening (with_decision m a)
story_decided opening m p s i a stage at all story own =
    let clock = clock_of m.first_draw m.epoch m.history in
    let inside = at_in m.history i a at in
    let only = alone opening m.history m.decided clock a story.ordered_numbers inside in
    let tried = tried_is m.history m.decided (stands m.places m.homes) s.put p s.stage i a stage at own.attempt_stands in
    record {
      ordered_numbers = numbers_decided opening m.history m.decided clock a inside tried.undecided story.ordered_numbers;
      unlocked_homes = homes_decided m.horizon opening m.history m.decided a.number (stands m.places m.homes)
          (λ k free. unwritten_elsewhere m p i a k only tried (unlocked_not p (stands m.places m.homes k).holder free)) story.unlocked_homes;
      homes_alive = story.homes_alive;
      homes_apart = story.homes_apart;
      reads_stay_true = reads_decided opening m.history m.checks m.decided a only
          (subst (λ (x : Stage). NoLowerWriter m.history m.checks x) stage own.no_lower_writer a at) story.reads_stay_true;
      commits_are_checked = commits_decided m.history m.checks m.decided a only (λ part n. all_in (λ x. is_checked m.checks a.number x.word) a.parts all part n) story.commits_are_checked;
      parts_are_past = story.parts_are_past;
      checks_are_past = story.checks_are_past;
      given_up_stay_out = given_up_decided m.decided m.given_up clock a.number (subst (λ (x : Stage). TriesGoOn m.history m.given_up x) stage own.tries_go_on a at) story.given_up_stay_out;
      horizon_is_past = horizon_decided m.horizon m.history m.decided m.given_up clock a.number story.horizon_is_past;
      epoch_fits = story.epoch_fits;
    }

-- the seat that decides, before it settles
own_decided : (opening : List (Key × Content)) (m : Story) (p : ℕ) (s : Seat) (i : ℕ) (a : Attempt) → s.stage ≡ Trying i → slice_get m.history i ≡ Some a
    → IsSoundSeat opening m p s → IsSoundSeat opening (with_decision m a) p (record s { put = []; stage = Decided i })
own_decided opening m p s i a stage at own =
    let tried = tried_is m.history m.decided (stands m.places m.homes) s.put p s.stage i a stage at own.attempt_stands in
    record {
      lock_owners = own.lock_owners;
      attempt_stands = (a, record { at = at; own = tried.own; counts = decided_new m.decided a.number a.number refl; written = λ k h. absurd (true≢false (sym h)); holds = λ k w _. tried.holds k w });
      locked_homes = locked_so m.horizon opening opening m.history m.history m.decided (m.decided ++ a.number ∷ []) (stands m.places m.homes) s.put [] p s.stage (Decided i)
          (λ k mine held. held_decides m.horizon opening m.history m.decided k (stands m.places m.homes k).content i a s.put at tried.undecided
          (subst (λ (x : Stage). HomeHeld m.horizon opening m.history m.decided s.put k (stands m.places m.homes k).content x) stage held))
          own.locked_homes;
      no_lower_writer = tt;
      tries_go_on = tt;
      tries_kept = tt;
      marks_are_past = marks_rest m.epoch m.history s.marks s.stage (Decided i) (λ e. tt) own.marks_are_past;
      kept_is_past = own.kept_is_past;
      kept_fits = own.kept_fits;
    }

other_decided : (opening : List (Key × Content)) (m : Story) (p : ℕ) (i : ℕ) (a : Attempt) (q : ℕ) (t : Seat) → IsAlone m.history a → IsTried m.history m.decided (stands m.places m.homes) p i a → (q ≡ p → ⊥)
    → IsSoundSeat opening m q t → IsSoundSeat opening (with_decision m a) q t
other_decided opening m p i a q t only tried other sound = record {
  lock_owners = sound.lock_owners;
  attempt_stands = stands_decided m.history m.decided (stands m.places m.homes) t.put q a t.stage only (λ e. other (sym e ∙ tried.own)) sound.attempt_stands;
  locked_homes = locked_so m.horizon opening opening m.history m.history m.decided (m.decided ++ a.number ∷ []) (stands m.places m.homes) t.put t.put q t.stage t.stage
      (λ k theirs held. held_decided m.horizon opening m.history m.decided a.number t.put k (stands m.places m.homes k).content t.stage
      (unwritten_elsewhere m p i a k only tried (other_not q p (stands m.places m.homes k).holder theirs (λ e. other (sym e)))) held)
      sound.locked_homes;
  no_lower_writer = sound.no_lower_writer;
  tries_go_on = sound.tries_go_on;
  tries_kept = sound.tries_kept;
  marks_are_past = sound.marks_are_past;
  kept_is_past = sound.kept_is_past;
  kept_fits = sound.kept_fits;
}

pub keeps_decide : (opening : List (Key × Content)) (p : ℕ) (m : Story) (s : Seat) → option_map_or (all_checked m.checks) (attempt_tried m.history s.stage) false ≡ true
    → IsSoundStory opening m → IsSoundSeat opening m p s → Keeps opening p m (after_decide m s (attempt_tried m.history s.stage))
keeps_decide opening p m s all story own =
    let t = tried_passes m.history s.stage (all_checked m.checks) all in
    let a = t.attempt in
    let now : attempt_tried m.history s.stage ≡ Some a = ap (λ (x : Stage). attempt_tried m.history x) t.stage_is ∙ t.at in
    let stage : decided_stage s.stage ≡ Decided t.index = ap decided_stage t.stage_is in
    let only = alone opening m.history m.decided (clock_of m.first_draw m.epoch m.history) a story.ordered_numbers (at_in m.history t.index a t.at) in
    let tried = tried_is m.history m.decided (stands m.places m.homes) s.put p s.stage t.index a t.stage_is t.at own.attempt_stands in
    subst (λ (o : Option Attempt). Keeps opening p m (after_decide m s o)) (sym now)
    (subst (λ (x : Stage). Keeps opening p m (moved (with_decision m a) (settled (record s { put = []; stage = x })))) (sym stage) (record {
      story = story_decided opening m p s t.index a t.stage_is t.at t.passes story own;
      own = settled_sound opening (with_decision m a) p (record s { put = []; stage = Decided t.index }) (own_decided opening m p s t.index a t.stage_is t.at own);
      others = λ q u other sound. other_decided opening m p t.index a q u only tried other sound;
      holders = λ seats l holders. holders;
    }))
