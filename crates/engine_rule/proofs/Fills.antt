-- A record of an owned slot is filled: no key has its home there, and nobody keeps its word.
use mathlib.Core.Path.{fun_ext}
use Rattle.std.proofs.Common.{◌≡◌, ℕ, true, false, true≢false, inl, inr, List, refl, sym, ap, ◌∙◌, subst, length, Some}
use Rattle.std.proofs.lemmas.Bool.{cond-false, false_from_ne_true}
use Rattle.std.specs.List.{slice_get}
use Rattle.serial_model.specs.declared.key.Key.{Key}
use Rattle.homes.specs.declared.places.Content.{Content}
use Rattle.homes.specs.declared.places.Holder.TheVariants.{Free}
use Rattle.homes.specs.declared.places.Spot.{Spot}
use Rattle.homes.specs.declared.places.Home.{Home}
use Rattle.homes.specs.declared.places.Home.TheVariants.{InSlot, InPage, Nowhere}
use Rattle.homes.specs.Homes.{same_spot}
use Rattle.homes.specs.Laws.{same_spot-true}
use Rattle.commit_core.specs.declared.place.Place.{Place}
use Rattle.commit_core.specs.declared.part.Word.{Word}
use Rattle.commit_core.specs.declared.part.Word.TheVariants.{Record, Pointer, Header}
use Rattle.commit_core.specs.declared.part.Part.{Part}
use Rattle.commit_core.specs.declared.seat.Seat.{Seat}
use Rattle.commit_core.specs.declared.story.Story.{Story}
use Rattle.commit_core.specs.CoreState.{CoreState}
use Rattle.commit_core.specs.Fill.{filled}
use Rattle.commit_core.specs.Places.{place, place_of, home_of, stands_at, stands}
use Rattle.commit_core.specs.Serial.{last_write}
use Rattle.commit_core.specs.Sound.{IsSoundStory, IsSoundSeat, IsSound as CommitsAreSound}
use Rattle.commit_core.specs.Sound.Locks.{LockOwners, HoldersAreSeats, HomesAlive, AttemptStands}
use Rattle.commit_core.specs.Sound.Homes.{UnlockedHomes, LockedHomes}
use Rattle.commit_core.specs.Sound.Reads.{FitsWord as FitsRecord}
use Rattle.drop_core.specs.declared.table.Led.{Led}
use Rattle.drop_core.specs.declared.table.Led.TheVariants.{Never, From, Away}
use Rattle.drop_core.specs.declared.table.SlotState.{SlotState}
use Rattle.drop_core.specs.declared.table.SlotState.TheVariants.{Unused, Owned, Published, Retired}
use Rattle.drop_core.specs.declared.table.Table.{Table}
use Rattle.drop_core.specs.declared.grip.Grip.{Grip}
use Rattle.drop_core.specs.Table.{slot_of, is_led, is_never}
use Rattle.drop_core.specs.Event.{is_owned, is_given}
use Rattle.drop_core.specs.Sound.{IsLedSo, IsSoundTable}
use Rattle.drop_core.specs.HomeLaws.{leaf-in}
use Rattle.engine_rule.specs.Sound.{IsHeld, KeptIsHeld, LeavesStayDead, SplitsStayDead}

module _ (m : Story) (d : Table) (grips : List Grip) (sound : IsSoundTable (home_of m.homes) d grips) (x : Spot) (c : Content)
    (owned : is_owned (slot_of d x.slot).state ≡ true) where
  -- nothing has led to an owned slot
  owned_never : (state : SlotState) (led : Led) → is_owned state ≡ true → IsLedSo d x.slot state led → is_never led ≡ true
  owned_never state Never own so = refl
  owned_never state (From y) own so = absurd (true≢false (sym own ∙ ap is_owned so.0))
  owned_never state Away own so = absurd (true≢false (sym so ∙ not_given state own))
    where
      not_given : (state : SlotState) → is_owned state ≡ true → is_given state ≡ false
      not_given Unused own = refl
      not_given Owned own = refl
      not_given Published own = absurd (true≢false (sym own))
      not_given Retired own = absurd (true≢false (sym own))

  fresh : is_never (slot_of d x.slot).led ≡ true
  fresh = owned_never (slot_of d x.slot).state (slot_of d x.slot).led owned (sound.holds_counted.led x.slot)

  -- so a slot to which something has led is another one
  pub other_slot : (y : Spot) → is_never (slot_of d y.slot).led ≡ false → x ≡ y → ⊥
  other_slot y known e = true≢false (sym fresh ∙ ap (λ (z : Spot). is_never (slot_of d z.slot).led) e ∙ known)

  pub place_other : (y : Spot) → (x ≡ y → ⊥) → place_of (filled x c m).places y ≡ place_of m.places y
  place_other y other = cond-false (same_spot x y) (place c Free) (place_of m.places y) (false_from_ne_true (same_spot x y) (λ e. other (same_spot-true x y e)))

  led_known : (led : Led) → is_led led ≡ true → is_never led ≡ false
  led_known Never e = absurd (true≢false (sym e))
  led_known (From y) e = refl
  led_known Away e = absurd (true≢false (sym e))

  -- what stands at each key stays
  at_home : (k : Key) (h : Home) → home_of m.homes k ≡ h → stands_at (filled x c m).places h ≡ stands_at m.places h
  at_home k (InSlot y) e = place_other y (other_slot y (led_known (slot_of d y.slot).led (sound.one_home_each.own k y e).led))
  at_home k (InPage n y) e = refl
  at_home k Nowhere e = refl

  abbrev st : Key → Place
  st = stands m.places m.homes

  abbrev st' : Key → Place
  st' = stands (filled x c m).places m.homes

  same_stands : st ≡ st'
  same_stands = fun_ext (λ k. sym (at_home k (home_of m.homes k) refl))

  module _ (opening : List (Key × Content)) where
    filled_story : IsSoundStory opening m → IsSoundStory opening (filled x c m)
    filled_story story = record {
      ordered_numbers = story.ordered_numbers;
      unlocked_homes = subst (λ (f : Key → Place). UnlockedHomes m.horizon (last_write opening m.history m.decided) f) same_stands story.unlocked_homes;
      homes_alive = subst (λ (f : Key → Place). HomesAlive f) same_stands story.homes_alive;
      homes_apart = story.homes_apart;
      reads_stay_true = story.reads_stay_true;
      commits_are_checked = story.commits_are_checked;
      parts_are_past = story.parts_are_past;
      checks_are_past = story.checks_are_past;
      given_up_stay_out = story.given_up_stay_out;
      horizon_is_past = story.horizon_is_past;
      epoch_fits = story.epoch_fits;
    }

    record_stays : (holds : List ℕ) (part : Part) (w : Word) → IsHeld d holds w → FitsRecord m.places m.homes part w → FitsRecord (filled x c m).places m.homes part w
    record_stays holds part (Record y) held fits = record {
      key = fits.key;
      only = fits.only;
      version = fits.version;
      home = elim fits.home [
        | inl home ↦ inl home
        | inr dead ↦ inr (ap (λ (q : Place). q.holder) (place_other y (other_slot y held.1)) ∙ dead)
      ];
    }
    record_stays holds part (Pointer y) held fits = tt
    record_stays holds part (Header t) held fits = tt

    filled_seat : (p : ℕ) (s : Seat) (holds : List ℕ) → KeptIsHeld d holds s.kept → IsSoundSeat opening m p s → IsSoundSeat opening (filled x c m) p s
    filled_seat p s holds held seat = record {
      lock_owners = subst (λ (f : Key → Place). LockOwners f p s.locks) same_stands seat.lock_owners;
      attempt_stands = subst (λ (f : Key → Place). AttemptStands m.history m.decided f s.put p s.stage) same_stands seat.attempt_stands;
      locked_homes = subst (λ (f : Key → Place). LockedHomes m.horizon opening m.history m.decided f s.put p s.stage) same_stands seat.locked_homes;
      no_lower_writer = seat.no_lower_writer;
      tries_go_on = seat.tries_go_on;
      tries_kept = seat.tries_kept;
      marks_are_past = seat.marks_are_past;
      kept_is_past = seat.kept_is_past;
      kept_fits = λ part there. record_stays holds part part.word (held part there) (seat.kept_fits part there);
    }

  filled_holders : (seats : ℕ) → HoldersAreSeats st seats → HoldersAreSeats st' seats
  filled_holders seats = subst (λ (f : Key → Place). HoldersAreSeats f seats) same_stands

  pub filled_leaves : LeavesStayDead (place_of m.places) d → LeavesStayDead (place_of (filled x c m).places) d
  filled_leaves leaves t keys gone page k y home =
      let at = (leaf-in t 0 keys k y home).slot in
      ap (λ (q : Place). q.holder) (place_other y (other_slot y (ap (λ (u : ℕ). is_never (slot_of d u).led) at ∙ ap is_never gone))) ∙ leaves t keys gone page k y home

  pub filled_splits : SplitsStayDead (place_of m.places) d → SplitsStayDead (place_of (filled x c m).places) d
  filled_splits splits t i split less =
      let y : Spot = record { slot = t; index = i } in
      ap (λ (q : Place). q.holder) (place_other y (other_slot y split.1)) ∙ splits t i split less

-- the whole state of commits
pub filled_sound : (c : CoreState) (d : Table) (grips : List Grip) → IsSoundTable (home_of c.story.homes) d grips → (x : Spot) (y : Content) → is_owned (slot_of d x.slot).state ≡ true
    → ((q : ℕ) (t : Seat) → slice_get c.seats q ≡ Some t → (holds : List ℕ) × KeptIsHeld d holds t.kept)
    → CommitsAreSound c → CommitsAreSound (record c { story = filled x y c.story })
filled_sound c d grips sound x y owned held commits = record {
  story = filled_story c.story d grips sound x y owned c.opening commits.story;
  seats = λ q t there. let h = held q t there in filled_seat c.story d grips sound x y owned c.opening q t h.0 h.1 (commits.seats q t there);
  holders_are_seats = filled_holders c.story d grips sound x y owned (length c.seats) commits.holders_are_seats;
}
