-- Filling a place that is nobody's home changes what stands at no key.
use Rattle.std.proofs.Common.{◌≡◌, ℕ, true, false, true≢false, length, List, [], ◌∷◌, inl, inr, refl, sym, ap, ◌∙◌, subst, Some}
use Rattle.std.proofs.lemmas.Bool.{cond-false, false_from_ne_true}
use Rattle.serial_model.specs.declared.key.Key.{Key}
use Rattle.homes.specs.declared.places.Content.{Content}
use Rattle.homes.specs.declared.places.Holder.TheVariants.{Free}
use Rattle.homes.specs.declared.places.Home.{Home}
use Rattle.homes.specs.declared.places.Home.TheVariants.{InSlot, InPage, Nowhere}
use Rattle.homes.specs.declared.places.Spot.{Spot}
use Rattle.homes.specs.Homes.{same_spot}
use Rattle.homes.specs.Laws.{same_spot-true}
use Rattle.commit_core.specs.declared.place.Place.{Place}
use Rattle.commit_core.specs.declared.part.Word.{Word}
use Rattle.commit_core.specs.declared.part.Word.TheVariants.{Record, Pointer, Header}
use Rattle.commit_core.specs.declared.part.Part.{Part}
use Rattle.commit_core.specs.declared.seat.Seat.{Seat}
use Rattle.commit_core.specs.declared.story.Story.{Story}
use Rattle.commit_core.specs.CoreState.{CoreState}
use Rattle.commit_core.specs.Places.{place, place_of, home_of, stands_at, stands, spot_of}
use Rattle.commit_core.specs.Parts.{same_word}
use Rattle.commit_core.specs.Moves.{Shows, is_nobodys, Moves}
use Rattle.commit_core.specs.Serial.{last_write}
use Rattle.commit_core.specs.Fill.{filled, NoneKept, NobodyKeeps}
use Rattle.commit_core.specs.Sound.{IsSoundStory, IsSoundSeat, IsSound}
use Rattle.commit_core.specs.Sound.Locks.{HoldersAreSeats}
use Rattle.commit_core.specs.Sound.Reads.{FitsWord}
use Rattle.commit_core.specs.Lemmas.Keys.{same_word-self}
use Rattle.commit_core.proofs.MoveLaws.{locked_moved, owners_kept, stands_kept, alive_moved, holders_moved}
use Rattle.commit_core.specs.Lemmas.Moves.{nobodys_not}

module _ (m : Story) (x : Spot) (c : Content) (free : is_nobodys m.homes (Some x) ≡ true) where
  abbrev st : Key → Place
  st = stands m.places m.homes

  abbrev st' : Key → Place
  st' = stands ((x, place c Free) ∷ m.places) m.homes

  other_place : (y : Spot) → (x ≡ y → ⊥) → place_of ((x, place c Free) ∷ m.places) y ≡ place_of m.places y
  other_place y other = cond-false (same_spot x y) (place c Free) (place_of m.places y) (false_from_ne_true (same_spot x y) (λ e. other (same_spot-true x y e)))

  at_home : (h : Home) → (spot_of h ≡ Some x → ⊥) → stands_at ((x, place c Free) ∷ m.places) h ≡ stands_at m.places h
  at_home (InSlot y) other = other_place y (λ e. other (ap (λ (z : Spot). Some z) (sym e)))
  at_home (InPage n d) other = refl
  at_home Nowhere other = refl

  -- it moves no key
  none_moves : Moves 0 true m.horizon [] st st'
  none_moves = record {
    moved = λ k hit. absurd (true≢false (sym hit));
    others = λ k _. at_home (home_of m.homes k) (nobodys_not m.homes x free k);
  }

  pub story_filled : (opening : List (Key × Content)) → IsSoundStory opening m → IsSoundStory opening (filled x c m)
  story_filled opening story = record {
    ordered_numbers = story.ordered_numbers;
    unlocked_homes = λ k empty. subst (λ (q : Place). Shows m.horizon q.content (last_write opening m.history m.decided k)) (sym (none_moves.others k refl))
        (story.unlocked_homes k (ap (λ (q : Place). q.holder) (sym (none_moves.others k refl)) ∙ empty));
    homes_alive = alive_moved 0 true m.horizon [] st st' none_moves story.homes_alive;
    homes_apart = story.homes_apart;
    reads_stay_true = story.reads_stay_true;
    commits_are_checked = story.commits_are_checked;
    parts_are_past = story.parts_are_past;
    checks_are_past = story.checks_are_past;
    given_up_stay_out = story.given_up_stay_out;
    horizon_is_past = story.horizon_is_past;
    epoch_fits = story.epoch_fits;
  }

  word_fits : (part : Part) (w : Word) → same_word w (Record x) ≡ false → FitsWord m.places m.homes part w → FitsWord ((x, place c Free) ∷ m.places) m.homes part w
  word_fits part (Record y) other fits = record {
    key = fits.key;
    only = fits.only;
    version = fits.version;
    home = elim (fits.home) [
      | inl at ↦ inl at
      | inr dead ↦ inr (ap (λ (q : Place). q.holder) (other_place y (λ e. true≢false (sym (subst (λ (z : Spot). same_word (Record z) (Record x) ≡ true) e (same_word-self (Record x))) ∙ other))) ∙ dead)
    ];
  }
  word_fits part (Pointer y) other fits = tt
  word_fits part (Header s) other fits = tt

  pub seat_filled : (opening : List (Key × Content)) (p : ℕ) (s : Seat) → NoneKept x s.kept → IsSoundSeat opening m p s → IsSoundSeat opening (filled x c m) p s
  seat_filled opening p s none sound = record {
    lock_owners = owners_kept 0 true m.horizon [] st st' p s.locks none_moves (λ k hit. absurd (true≢false (sym hit))) sound.lock_owners;
    attempt_stands = stands_kept 0 true m.horizon [] st st' m.history m.decided s.put p s.stage none_moves (λ k hit. absurd (true≢false (sym hit))) sound.attempt_stands;
    locked_homes = locked_moved 0 true m.horizon [] st st' m.horizon opening m.history m.decided s.put p s.stage none_moves (inl refl) sound.locked_homes;
    no_lower_writer = sound.no_lower_writer;
    tries_go_on = sound.tries_go_on;
    tries_kept = sound.tries_kept;
    marks_are_past = sound.marks_are_past;
    kept_is_past = sound.kept_is_past;
    kept_fits = λ part inside. word_fits part part.word (none part inside) (sound.kept_fits part inside);
  }

  pub holders_filled : (seats : ℕ) → HoldersAreSeats st seats → HoldersAreSeats st' seats
  holders_filled seats holders = holders_moved 0 true m.horizon [] st st' seats none_moves holders

pub fill_sound : (c : CoreState) (x : Spot) (content : Content) → is_nobodys c.story.homes (Some x) ≡ true → NobodyKeeps c x → IsSound c → IsSound (record c { story = filled x content c.story })
fill_sound c x content free none sound = record {
  story = story_filled c.story x content free c.opening sound.story;
  seats = λ p s at. seat_filled c.story x content free c.opening p s (none p s at) (sound.seats p s at);
  holders_are_seats = holders_filled c.story x content free (length c.seats) sound.holders_are_seats;
}
