-- Draw and Advance: they change the history or the epoch, and so the clock.
use Rattle.std.proofs.Common.{◌≡◌, ℕ, ◌+◌, arith, true, false, true≢false, inl, inr, List, [], ◌∷◌, ◌++◌, refl, sym, ap, ◌∙◌, subst, length, Option, Some}
use Rattle.std.proofs.lemmas.Bool.{and_parts, cases_Bool, cond-false}
use Rattle.std.proofs.lemmas.Bool.Decides.{nat_tests}
use Rattle.std.specs.Prelude.{is_some, nat_lt}
use Rattle.std.specs.Option.{option_map}
use Rattle.std.specs.List.{list_all, find}
use Rattle.serial_model.specs.declared.key.Key.{Key}
use Rattle.serial_model.specs.declared.number.Number.{Number}
use Rattle.serial_model.specs.declared.number.Change.{Change}
use Rattle.serial_model.specs.Numbers.{last_epoch}
use Rattle.homes.specs.declared.places.Content.{Content}
use Rattle.commit_core.specs.declared.attempt.Attempt.{Attempt}
use Rattle.commit_core.specs.declared.seat.Stage.TheVariants.{Trying}
use Rattle.commit_core.specs.declared.seat.Seat.{Seat}
use Rattle.commit_core.specs.declared.story.Story.{Story}
use Rattle.commit_core.specs.Keys.{same_key, has_key, writes_key}
use Rattle.commit_core.specs.Places.{stands}
use Rattle.commit_core.specs.CoreState.{clock_of, is_decided, can_begin, same_keys}
use Rattle.commit_core.specs.Event.{moved, next_attempt}
use Rattle.commit_core.specs.Sound.{IsSoundStory, IsSoundSeat}
use Rattle.commit_core.specs.Sound.Numbers.{EpochFits}
use Rattle.commit_core.specs.Sound.Reads.{KeptIsPast}
use Rattle.commit_core.specs.Lemmas.Keys.{same_key-true}
use Rattle.lists.specs.Elements.{at_push_new}
use Rattle.commit_core.specs.Lemmas.Numbers.{clock_after_draw, clock_after_advance, numbers_later, numbers_drawn, checks_later, clock_undecided}
use Rattle.commit_core.proofs.ReadLaws.{tries_drawn, tries_draw, goes_on_drawn, goes_on_draw, reads_drawn, writer_drawn, writer_draws, commits_drawn, kept_drawn, kept_later, parts_drawn}
use Rattle.commit_core.proofs.LockLaws.{stands_there, stands_drawn}
use Rattle.commit_core.proofs.HomeLaws.{homes_drawn, held_drawn, held_draws, locked_so}
use Rattle.commit_core.proofs.MarkLaws.{marks_drawn, marks_draw, marks_later}
use Rattle.commit_core.proofs.HorizonLaws.{given_up_later, clock_goes_on, horizon_later, horizon_drawn}
use Rattle.commit_core.proofs.Events.Keeps.{Keeps, home_before}

-- ---- Draw

abbrev with_attempt : Story → Attempt → Story
with_attempt m a = record m { history = m.history ++ a ∷ [] }

story_drawn : (opening : List (Key × Content)) (m : Story) (a : Attempt) → a.number ≡ clock_of m.first_draw m.epoch m.history → KeptIsPast opening m.history (clock_of m.first_draw m.epoch m.history) a.parts
    → IsSoundStory opening m → IsSoundStory opening (with_attempt m a)
story_drawn opening m a e kept story =
    let t = clock_of m.first_draw m.epoch m.history in
    let later = clock_after_draw m.first_draw m.epoch m.history a in
    let fresh : is_decided m.decided a.number ≡ false = rw e (clock_undecided opening m.history m.decided t story.ordered_numbers) in
    record {
      ordered_numbers = numbers_drawn opening m.history m.decided t (clock_of m.first_draw m.epoch (m.history ++ a ∷ [])) a e later story.ordered_numbers;
      unlocked_homes = homes_drawn m.horizon opening m.history m.decided t a (stands m.places m.homes) story.ordered_numbers e story.unlocked_homes;
      homes_alive = story.homes_alive;
      homes_apart = story.homes_apart;
      reads_stay_true = reads_drawn opening m.history m.checks m.decided t a story.ordered_numbers e story.checks_are_past story.reads_stay_true;
      commits_are_checked = commits_drawn m.history m.checks m.decided a fresh story.commits_are_checked;
      parts_are_past = parts_drawn opening m.history t a e kept story.parts_are_past;
      checks_are_past = checks_later m.checks t (clock_of m.first_draw m.epoch (m.history ++ a ∷ [])) later story.checks_are_past;
      given_up_stay_out = given_up_later m.decided m.given_up t (clock_of m.first_draw m.epoch (m.history ++ a ∷ [])) later story.given_up_stay_out;
      horizon_is_past = horizon_drawn m.horizon m.history m.decided m.given_up t (clock_of m.first_draw m.epoch (m.history ++ a ∷ [])) a e later story.horizon_is_past;
      epoch_fits = story.epoch_fits;
    }

seat_drawn : (opening : List (Key × Content)) (m : Story) (a : Attempt) (q : ℕ) (t : Seat) → a.number ≡ clock_of m.first_draw m.epoch m.history → IsSoundStory opening m
    → IsSoundSeat opening m q t → IsSoundSeat opening (with_attempt m a) q t
seat_drawn opening m a q t e story sound =
    let clock = clock_of m.first_draw m.epoch m.history in
    let there = stands_there m.history m.decided (stands m.places m.homes) t.put q t.stage sound.attempt_stands in
    record {
      lock_owners = sound.lock_owners;
      attempt_stands = stands_drawn m.history m.decided (stands m.places m.homes) t.put q a t.stage sound.attempt_stands;
      locked_homes = locked_so m.horizon opening opening m.history (m.history ++ a ∷ []) m.decided m.decided (stands m.places m.homes) t.put t.put q t.stage t.stage
          (λ k mine held. held_drawn m.horizon opening m.history m.decided clock a t.put k (stands m.places m.homes k).content t.stage story.ordered_numbers e there held) sound.locked_homes;
      no_lower_writer = writer_drawn m.history m.checks clock a t.stage e story.checks_are_past there sound.no_lower_writer;
      tries_go_on = goes_on_drawn m.history a m.given_up t.stage there sound.tries_go_on;
      tries_kept = tries_drawn m.history a t.kept t.stage there sound.tries_kept;
      marks_are_past = marks_drawn m.epoch m.history a t.marks t.stage there sound.marks_are_past;
      kept_is_past = kept_drawn opening m.history a clock (clock_of m.first_draw m.epoch (m.history ++ a ∷ [])) t.kept (clock_after_draw m.first_draw m.epoch m.history a) sound.kept_is_past;
      kept_fits = sound.kept_fits;
    }

-- every key that is written is locked
written_locked : (locks : List Key) (writes : List Change) → list_all (λ w. has_key locks w.key) writes ≡ true → (k : Key) → writes_key writes k ≡ true → has_key locks k ≡ true
written_locked locks [] all k w = absurd (true≢false (sym w))
written_locked locks (x ∷ writes) all k w =
    let parts = and_parts (has_key locks x.key) (list_all (λ y. has_key locks y.key) writes) all in
    elim (cases_Bool (same_key x.key k)) [
      | inl hit ↦ subst (λ (y : Key). has_key locks y ≡ true) (same_key-true x.key k hit) parts.0
      | inr miss ↦ written_locked locks writes parts.1 k
          (sym (ap (λ (o : Option Change). is_some (option_map (λ y. y.value) o)) (cond-false (same_key x.key k) (Some x) (find (λ y. same_key y.key k) writes) miss)) ∙ w)
    ]

pub keeps_draw : (opening : List (Key × Content)) (p : ℕ) (m : Story) (s : Seat) (writes : List Change) → can_begin s.stage ≡ true → same_keys s.locks writes ≡ true
    → IsSoundStory opening m → IsSoundSeat opening m p s
    → Keeps opening p m (moved (with_attempt m (next_attempt p m s writes)) (record s { stage = Trying (length m.history) }))
keeps_draw opening p m s writes begins keys story own =
    let a : Attempt = next_attempt p m s writes in
    let clock : Number = clock_of m.first_draw m.epoch m.history in record {
      story = story_drawn opening m a refl own.kept_is_past story;
      own = record {
        lock_owners = own.lock_owners;
        attempt_stands = (
          a,
          record {
            at = at_push_new m.history a;
            own = refl;
            undecided = clock_undecided opening m.history m.decided clock story.ordered_numbers;
            holds = λ k w. own.lock_owners.held k (written_locked s.locks writes (and_parts (list_all (λ k. writes_key writes k) s.locks) (list_all (λ w. has_key s.locks w.key) writes) keys).1 k w);
          },
        );
        locked_homes = locked_so m.horizon opening opening m.history (m.history ++ a ∷ []) m.decided m.decided (stands m.places m.homes) s.put s.put p s.stage (Trying (length m.history))
            (λ k mine held. held_draws m.horizon opening m.history m.decided clock a s.put k (stands m.places m.homes k).content story.ordered_numbers refl
            (home_before m.horizon opening m.history m.decided s.put k (stands m.places m.homes k).content s.stage begins held))
            own.locked_homes;
        no_lower_writer = writer_draws m.history m.checks clock a refl story.checks_are_past;
        tries_go_on = goes_on_draw m.history a m.given_up (clock_goes_on m.decided m.given_up clock story.given_up_stay_out);
        tries_kept = tries_draw m.history a s.kept refl;
        marks_are_past = marks_draw m.epoch m.history a s.marks s.stage refl own.marks_are_past;
        kept_is_past = kept_drawn opening m.history a clock (clock_of m.first_draw m.epoch (m.history ++ a ∷ [])) s.kept (clock_after_draw m.first_draw m.epoch m.history a) own.kept_is_past;
        kept_fits = own.kept_fits;
      };
      others = λ q t other sound. seat_drawn opening m a q t refl story sound;
      holders = λ seats l holders. holders;
    }

-- ---- Advance

seat_advanced : (opening : List (Key × Content)) (m : Story) (q : ℕ) (t : Seat) → IsSoundSeat opening m q t → IsSoundSeat opening (record m { epoch = m.epoch + 1 }) q t
seat_advanced opening m q t sound = record {
  lock_owners = sound.lock_owners;
  attempt_stands = sound.attempt_stands;
  locked_homes = sound.locked_homes;
  no_lower_writer = sound.no_lower_writer;
  tries_go_on = sound.tries_go_on;
  tries_kept = sound.tries_kept;
  marks_are_past = marks_later m.epoch m.history t.marks t.stage sound.marks_are_past;
  kept_is_past = kept_later opening m.history (clock_of m.first_draw m.epoch m.history) (clock_of m.first_draw (m.epoch + 1) m.history) t.kept (clock_after_advance m.first_draw m.epoch m.history) sound.kept_is_past;
  kept_fits = sound.kept_fits;
}

epoch_later : (epoch : ℕ) → nat_lt epoch last_epoch ≡ true → EpochFits (epoch + 1)
epoch_later epoch below = grind (arith, nat_tests)

pub keeps_advance : (opening : List (Key × Content)) (p : ℕ) (m : Story) (s : Seat) → nat_lt m.epoch last_epoch ≡ true → IsSoundStory opening m → IsSoundSeat opening m p s
    → Keeps opening p m (moved (record m { epoch = m.epoch + 1 }) s)
keeps_advance opening p m s below story own =
    let later = clock_after_advance m.first_draw m.epoch m.history in record {
      story = record {
        ordered_numbers = numbers_later opening m.history m.decided (clock_of m.first_draw m.epoch m.history) (clock_of m.first_draw (m.epoch + 1) m.history) later story.ordered_numbers;
        unlocked_homes = story.unlocked_homes;
        homes_alive = story.homes_alive;
        homes_apart = story.homes_apart;
        reads_stay_true = story.reads_stay_true;
        commits_are_checked = story.commits_are_checked;
        parts_are_past = story.parts_are_past;
        checks_are_past = checks_later m.checks (clock_of m.first_draw m.epoch m.history) (clock_of m.first_draw (m.epoch + 1) m.history) later story.checks_are_past;
        given_up_stay_out = given_up_later m.decided m.given_up (clock_of m.first_draw m.epoch m.history) (clock_of m.first_draw (m.epoch + 1) m.history) later story.given_up_stay_out;
        horizon_is_past = horizon_later m.horizon m.history m.decided m.given_up (clock_of m.first_draw m.epoch m.history) (clock_of m.first_draw (m.epoch + 1) m.history) later story.horizon_is_past;
        epoch_fits = epoch_later m.epoch below;
      };
      own = seat_advanced opening m p s own;
      others = λ q t other sound. seat_advanced opening m q t sound;
      holders = λ seats l holders. holders;
    }
