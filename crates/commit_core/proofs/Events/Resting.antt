-- See, Keep, Forget and Mark: they change the seat alone.
use Rattle.std.proofs.Common.{◌≡◌, ℕ, ◌<◌, true, not, true≢false, ltb, leb, ◌⊎◌, List, [], ◌∷◌, ◌++◌, refl, sym, ap, ◌∙◌, subst, arith, Option, Some, None}
use Rattle.std.proofs.lemmas.Bool.{and_parts, ltb-true}
use Rattle.serial_model.specs.declared.key.Key.{Key}
use Rattle.serial_model.specs.declared.number.Number.{Number}
use Rattle.serial_model.specs.Numbers.{IsBelow}
use Rattle.homes.specs.declared.places.Content.{Content}
use Rattle.homes.specs.declared.places.Holder.TheVariants.{Free}
use Rattle.homes.specs.declared.places.Spot.{Spot}
use Rattle.commit_core.specs.declared.place.Place.{Place}
use Rattle.commit_core.specs.declared.part.Word.{Word}
use Rattle.commit_core.specs.declared.part.Word.TheVariants.{Record, Pointer, Header}
use Rattle.commit_core.specs.declared.part.Part.{Part}
use Rattle.commit_core.specs.declared.attempt.Attempt.{Attempt}
use Rattle.commit_core.specs.declared.seat.Mark.{Mark}
use Rattle.commit_core.specs.declared.seat.Stage.{Stage}
use Rattle.commit_core.specs.declared.seat.Stage.TheVariants.{Idle, Trying, Ended, Decided}
use Rattle.commit_core.specs.declared.seat.Seat.{Seat}
use Rattle.commit_core.specs.declared.story.Story.{Story}
use Rattle.commit_core.specs.Keys.{nothing}
use Rattle.commit_core.specs.Places.{place_of, spot_at, stands, is_free_at}
use Rattle.commit_core.specs.Parts.{is_record, covers, found, record_part, with_part}
use Rattle.commit_core.specs.Moves.{Shows}
use Rattle.commit_core.specs.Told.{IsFreeNow}
use Rattle.commit_core.specs.CoreState.{clock_of, is_trying, can_begin, last_marked, can_mark}
use Rattle.commit_core.specs.Serial.{last_write}
use Rattle.commit_core.specs.Event.{moved, seen_at}
use Rattle.commit_core.specs.Sound.{IsSoundStory, IsSoundSeat}
use Rattle.commit_core.specs.Sound.Reads.{IsPast, IsVersion, FitsWord, TriesKept}
use Rattle.commit_core.specs.Lemmas.Shows.{shown_past, shown_version}
use Rattle.lists.specs.Elements.{in_none}
use Rattle.commit_core.proofs.ReadLaws.{kept_with, kept_dropped}
use Rattle.commit_core.proofs.LockLaws.{free_alive}
use Rattle.commit_core.proofs.KeptLaws.{record_covers, record_found, record_fits}
use Rattle.commit_core.proofs.MarkLaws.{marks_marked}
use Rattle.commit_core.proofs.Events.Keeps.{Keeps, IsHome, home_stands, seat_alone, free_place, above_at_rest}

tries_rest : (h : List Attempt) (kept : List Part) (stage : Stage) → not (is_trying stage) ≡ true → TriesKept h kept stage
tries_rest h kept Idle rests = tt
tries_rest h kept (Trying i) rests = absurd (true≢false (sym rests))
tries_rest h kept Ended rests = tt
tries_rest h kept (Decided i) rests = tt

-- a part more is kept, where it was read before the clock's number and fits its word
keeps_part : (opening : List (Key × Content)) (p : ℕ) (m : Story) (s : Seat) (part : Part) → not (is_trying s.stage) ≡ true
    → IsPast opening m.history (clock_of m.first_draw m.epoch m.history) part → FitsWord m.places m.homes part part.word
    → IsSoundStory opening m → IsSoundSeat opening m p s → Keeps opening p m (moved m (record s { kept = with_part s.kept part }))
keeps_part opening p m s part rests past fits story own = seat_alone opening p m (record s { kept = with_part s.kept part }) story (record {
  lock_owners = own.lock_owners;
  attempt_stands = own.attempt_stands;
  locked_homes = own.locked_homes;
  no_lower_writer = own.no_lower_writer;
  tries_go_on = own.tries_go_on;
  tries_kept = tries_rest m.history (with_part s.kept part) s.stage rests;
  marks_are_past = own.marks_are_past;
  kept_is_past = kept_with (λ q. IsPast opening m.history (clock_of m.first_draw m.epoch m.history) q) s.kept part past own.kept_is_past;
  kept_fits = kept_with (λ q. FitsWord m.places m.homes q q.word) s.kept part fits own.kept_fits;
})

-- ---- See

keeps_see_at : (opening : List (Key × Content)) (p : ℕ) (m : Story) (s : Seat) (k : Key) (x : Spot) → not (is_trying s.stage) ≡ true → spot_at m.homes k ≡ Some x → (place_of m.places x).holder ≡ Free
    → IsSoundStory opening m → IsSoundSeat opening m p s
    → Keeps opening p m (moved m (record s { kept = with_part s.kept (record_part k x (place_of m.places x).content) }))
keeps_see_at opening p m s k x rests at free story own =
    keeps_part opening p m s (record_part k x c) rests past (record_fits m.places m.homes k x at) story own
  where
    c : Content
    c = (place_of m.places x).content

    clock : Number
    clock = clock_of m.first_draw m.epoch m.history

    home : IsHome m k x
    home = record { at = at; alive = free_alive (place_of m.places x).holder free }

    shown : Shows m.horizon c (last_write opening m.history m.decided k)
    shown = subst (λ (y : Place). Shows m.horizon y.content (last_write opening m.history m.decided k)) (home_stands m k x home)
        (story.unlocked_homes k (ap (λ (y : Place). y.holder) (home_stands m k x home) ∙ free))

    past : IsPast opening m.history clock (record_part k x c)
    past = record {
      number = λ q e. subst (λ (y : Key). IsBelow (found (record_part k x c) y).number clock) (sym (record_covers k x c q e))
          (subst (λ (d : Content). IsBelow d.number clock) (sym (record_found k x c)) (shown_past m.horizon opening m.history m.decided clock k c story.ordered_numbers shown));
      version = λ q e. subst (λ (y : Key). (found (record_part k x c) y ≡ nothing) ⊎ IsVersion opening m.history y (found (record_part k x c) y)) (sym (record_covers k x c q e))
          (subst (λ (d : Content). (d ≡ nothing) ⊎ IsVersion opening m.history k d) (sym (record_found k x c)) (shown_version m.horizon opening m.history m.decided k c shown));
    }

pub keeps_see : (opening : List (Key × Content)) (p : ℕ) (m : Story) (s : Seat) (k : Key) → not (is_trying s.stage) ≡ true → is_free_at m.places (spot_at m.homes k) ≡ true
    → IsSoundStory opening m → IsSoundSeat opening m p s → Keeps opening p m (moved m (record s { kept = seen_at k m.places s.kept (spot_at m.homes k) }))
keeps_see opening p m s k rests free story own =
    let q = free_place m.places (spot_at m.homes k) free in
    subst (λ (o : Option Spot). Keeps opening p m (moved m (record s { kept = seen_at k m.places s.kept o }))) (sym q.1)
    (keeps_see_at opening p m s k q.0 rests q.1 q.2 story own)

-- ---- Keep

told_fits : (m : Story) (part : Part) (w : Word) → not (is_record w) ≡ true → FitsWord m.places m.homes part w
told_fits m part (Record x) told = absurd (true≢false (sym told))
told_fits m part (Pointer x) told = tt
told_fits m part (Header s) told = tt

pub keeps_keep : (opening : List (Key × Content)) (p : ℕ) (m : Story) (s : Seat) (part : Part) → not (is_trying s.stage) ≡ true → not (is_record part.word) ≡ true → IsFreeNow (stands m.places m.homes) part
    → IsSoundStory opening m → IsSoundSeat opening m p s → Keeps opening p m (moved m (record s { kept = with_part s.kept part }))
keeps_keep opening p m s part rests told now story own =
    let clock = clock_of m.first_draw m.epoch m.history in
    let shown : (k : Key) → covers part k ≡ true → Shows m.horizon (found part k) (last_write opening m.history m.decided k) = λ k c.
    subst (λ (d : Content). Shows m.horizon d (last_write opening m.history m.decided k)) (now k c).1 (story.unlocked_homes k (now k c).0) in
    keeps_part opening p m s part rests (record {
      number = λ k c. shown_past m.horizon opening m.history m.decided clock k (found part k) story.ordered_numbers (shown k c);
      version = λ k c. shown_version m.horizon opening m.history m.decided k (found part k) (shown k c);
    }) (told_fits m part part.word told) story own

-- ---- Forget and Mark

begin_rests : (stage : Stage) → can_begin stage ≡ true → not (is_trying stage) ≡ true
begin_rests Idle begins = refl
begin_rests (Trying i) begins = absurd (true≢false (sym begins))
begin_rests Ended begins = refl
begin_rests (Decided i) begins = refl

pub keeps_forget : (opening : List (Key × Content)) (p : ℕ) (m : Story) (s : Seat) → can_begin s.stage ≡ true → IsSoundStory opening m → IsSoundSeat opening m p s → Keeps opening p m (moved m (record s { kept = [] }))
keeps_forget opening p m s begins story own = seat_alone opening p m (record s { kept = [] }) story (record {
  lock_owners = own.lock_owners;
  attempt_stands = own.attempt_stands;
  locked_homes = own.locked_homes;
  no_lower_writer = own.no_lower_writer;
  tries_go_on = own.tries_go_on;
  tries_kept = tries_rest m.history [] s.stage (begin_rests s.stage begins);
  marks_are_past = own.marks_are_past;
  kept_is_past = kept_dropped opening m.history (clock_of m.first_draw m.epoch m.history);
  kept_fits = λ part inside. absurd (in_none part inside);
})

marked_below : (epoch : ℕ) (marks : List Mark) (mark : Option ℕ) → can_mark epoch marks mark ≡ true → (e : ℕ) → mark ≡ Some e → e < epoch
marked_below epoch marks None can e is = cc
marked_below epoch marks (Some x) can e is =
    let same : x ≡ e = cc in
    let l = ltb-true x epoch (and_parts (ltb x epoch) (leb (last_marked marks) x) can).0 in omega arith

pub keeps_mark : (opening : List (Key × Content)) (p : ℕ) (m : Story) (s : Seat) (mark : Mark) → not (is_trying s.stage) ≡ true → can_mark m.epoch s.marks mark.epoch ≡ true
    → IsSoundStory opening m → IsSoundSeat opening m p s → Keeps opening p m (moved m (record s { marks = s.marks ++ mark ∷ [] }))
keeps_mark opening p m s mark rests can story own = seat_alone opening p m (record s { marks = s.marks ++ mark ∷ [] }) story (record {
  lock_owners = own.lock_owners;
  attempt_stands = own.attempt_stands;
  locked_homes = own.locked_homes;
  no_lower_writer = own.no_lower_writer;
  tries_go_on = own.tries_go_on;
  tries_kept = own.tries_kept;
  marks_are_past = marks_marked m.epoch m.history s.marks mark s.stage (marked_below m.epoch s.marks mark.epoch can) (above_at_rest m.history s.stage rests);
  kept_is_past = own.kept_is_past;
  kept_fits = own.kept_fits;
})
