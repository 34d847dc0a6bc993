-- Rehome: it changes homes, and kills the places that keys leave.
use Rattle.std.proofs.Common.{◌≡◌, ℕ, Bool, true, false, not, true≢false, inl, inr, List, refl, sym, ◌∙◌}
use Rattle.std.specs.List.{Contains, filter}
use Rattle.serial_model.specs.declared.key.Key.{Key}
use Rattle.serial_model.specs.declared.number.Number.{Number}
use Rattle.serial_model.specs.Numbers.{IsBelow}
use Rattle.homes.specs.declared.places.Content.{Content}
use Rattle.homes.specs.declared.places.Move.{Move}
use Rattle.commit_core.specs.declared.place.Place.{Place}
use Rattle.commit_core.specs.declared.seat.Seat.{Seat}
use Rattle.commit_core.specs.declared.story.Story.{Story}
use Rattle.commit_core.specs.Places.{stands}
use Rattle.commit_core.specs.Moves.{Moves, moves_key, can_rehome, buried, rehomed, horizon_after, with_moves}
use Rattle.commit_core.specs.CoreState.{clock_of, can_begin, settled}
use Rattle.commit_core.specs.Event.{moved}
use Rattle.commit_core.specs.Sound.{IsSoundStory, IsSoundSeat}
use Rattle.commit_core.specs.Sound.Locks.{AttemptStands}
use Rattle.commit_core.specs.Lemmas.Shows.{shown_past}
use Rattle.commit_core.proofs.LockLaws.{unlocked_not}
use Rattle.commit_core.proofs.MoveLaws.{HasNone, was_other, unlocked_moved, locked_moved, owners_kept, owners_lost, stands_kept, alive_moved, holders_moved}
use Rattle.commit_core.proofs.RehomeLaws.{rehome_moves, rehome_apart, rehome_fits, rehome_horizon, rehome_below, rehome_tries, moving_was}
use Rattle.commit_core.proofs.Events.Keeps.{Keeps, home_before, settled_sound}
use Rattle.commit_core.proofs.Events.Places.{begin_stands}

module _ (opening : List (Key × Content)) (p : ℕ) (m : Story) (s : Seat) (moves : List Move) (can : can_rehome p (can_begin s.stage) m moves ≡ true)
    (story : IsSoundStory opening m) (own : IsSoundSeat opening m p s) where
  abbrev begins : Bool
  begins = can_begin s.stage

  abbrev st : Key → Place
  st = stands m.places m.homes

  abbrev st' : Key → Place
  st' = stands (buried moves m.homes m.places) (rehomed moves m.homes)

  abbrev h' : Number
  h' = horizon_after m.horizon m.places m.homes moves

  abbrev clock : Number
  clock = clock_of m.first_draw m.epoch m.history

  all : Moves p begins h' moves st st'
  all = rehome_moves p begins m moves story.homes_apart can

  -- what moves has a number below the clock
  old_past : (v : Move) → Contains moves v → IsBelow (st v.key).content.number clock
  old_past v inside =
      elim (moving_was p begins m moves story.homes_apart can v inside) [
        | inl free ↦ shown_past m.horizon opening m.history m.decided clock v.key (st v.key).content story.ordered_numbers (story.unlocked_homes v.key free)
        | inr mine ↦ shown_past m.horizon opening m.history m.decided clock v.key (st v.key).content story.ordered_numbers
            (home_before m.horizon opening m.history m.decided s.put v.key (st v.key).content s.stage mine.1 (own.locked_homes v.key mine.0))
      ]

  story_moved : IsSoundStory opening (with_moves m moves)
  story_moved = record {
    ordered_numbers = story.ordered_numbers;
    unlocked_homes = unlocked_moved p begins h' moves st st' m.horizon opening m.history m.decided s.put s.stage (λ e. e) all (rehome_horizon p begins m moves story.homes_apart can) own.locked_homes story.unlocked_homes;
    homes_alive = alive_moved p begins h' moves st st' all story.homes_alive;
    homes_apart = rehome_apart p begins m moves story.homes_apart can;
    reads_stay_true = story.reads_stay_true;
    commits_are_checked = story.commits_are_checked;
    parts_are_past = story.parts_are_past;
    checks_are_past = story.checks_are_past;
    given_up_stay_out = story.given_up_stay_out;
    horizon_is_past = record {
      clock = rehome_below p begins m moves story.homes_apart can clock story.horizon_is_past.clock old_past;
      tries = λ a inside d g. rehome_tries p begins m moves story.homes_apart can a inside d g (story.horizon_is_past.tries a inside d g);
    };
    epoch_fits = story.epoch_fits;
  }

  -- a seat that holds none of the keys that move
  other_moved : (q : ℕ) (t : Seat) → HasNone p begins h' moves st st' q → IsSoundSeat opening m q t → IsSoundSeat opening (with_moves m moves) q t
  other_moved q t none sound = record {
    lock_owners = owners_kept p begins h' moves st st' q t.locks all none sound.lock_owners;
    attempt_stands = stands_kept p begins h' moves st st' m.history m.decided t.put q t.stage all none sound.attempt_stands;
    locked_homes = locked_moved p begins h' moves st st' m.horizon opening m.history m.decided t.put q t.stage all (rehome_horizon p begins m moves story.homes_apart can) sound.locked_homes;
    no_lower_writer = sound.no_lower_writer;
    tries_go_on = sound.tries_go_on;
    tries_kept = sound.tries_kept;
    marks_are_past = sound.marks_are_past;
    kept_is_past = sound.kept_is_past;
    kept_fits = rehome_fits p begins m moves story.homes_apart can t.kept sound.kept_fits;
  }

  -- where the seat may not begin, none of the keys that move is its own
  own_stands : (b : Bool) → begins ≡ b → AttemptStands m.history m.decided st' s.put p s.stage
  own_stands true may = begin_stands m.history m.decided st' s.put p s.stage may
  own_stands false not_so = stands_kept p begins h' moves st st' m.history m.decided s.put p s.stage all (λ k hit.
      elim ((all.moved k hit).was) [
        | inl free ↦ unlocked_not p (st k).holder free
        | inr mine ↦ absurd (true≢false (sym mine.1 ∙ not_so))
      ]) own.attempt_stands

  own_moved : IsSoundSeat opening (with_moves m moves) p (record s { locks = filter (λ q. not (moves_key moves q)) s.locks })
  own_moved = record {
    lock_owners = owners_lost p begins h' moves st st' s.locks all own.lock_owners;
    attempt_stands = own_stands begins refl;
    locked_homes = locked_moved p begins h' moves st st' m.horizon opening m.history m.decided s.put p s.stage all (rehome_horizon p begins m moves story.homes_apart can) own.locked_homes;
    no_lower_writer = own.no_lower_writer;
    tries_go_on = own.tries_go_on;
    tries_kept = own.tries_kept;
    marks_are_past = own.marks_are_past;
    kept_is_past = own.kept_is_past;
    kept_fits = rehome_fits p begins m moves story.homes_apart can s.kept own.kept_fits;
  }

  pub keeps_rehome : Keeps opening p m (moved (with_moves m moves) (settled (record s { locks = filter (λ q. not (moves_key moves q)) s.locks })))
  keeps_rehome = record {
    story = story_moved;
    own = settled_sound opening (with_moves m moves) p (record s { locks = filter (λ q. not (moves_key moves q)) s.locks }) own_moved;
    others = λ q t other sound. other_moved q t (was_other p begins h' moves st st' all q other) sound;
    holders = λ seats l holders. holders_moved p begins h' moves st st' seats all holders;
  }
