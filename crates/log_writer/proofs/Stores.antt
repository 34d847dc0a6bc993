-- The steps of a store on a device, from the bytes that are stored.
use Rattle.std.proofs.Common.{◌≡◌, inl, ℕ, ◌+◌, ◌*◌, ◌-◌, ◌<◌, ◌≤◌, List, [], ◌∷◌, Option, Some, None, Result, Ok, Err, OnOk, OnErr, is_some, length, slice_index, take, drop, refl, sym, ◌∙◌, ap, subst, arith}
use Rattle.std.proofs.lemmas.List.{length-take, length-drop, take_all}
use Rattle.wire_form.specs.declared.savepoint.Savepoint.{Savepoint}
use Rattle.wire_form.specs.Savepoint.{IsSavepoint, IsSavepointOf, StandsAt, place_bytes, valid_byte}
use Rattle.outside.specs.Disk.{written, Torn, Goes, Only, Runs}
use Rattle.outside.specs.Moments.{runs_weaker, runs_step}
use Rattle.log_writer.specs.Points.{sequence_of}
use Rattle.log_writer.specs.Save.{HasPoint, place_in, Names, LeavesNewest, NamesOldOrNew, closed, ClosedOrTorn}
use Rattle.log_writer.proofs.Places.{Pair, pair, place_within, newest_stands}
use Rattle.log_writer.proofs.Stages.{Shut, Filled, close_stop, shut_closed, fill_stop, filled, unopened, open_stop, opened}

-- what two outcomes give together
pub on_ok_both : {T E P Q R : Type 0} (result : Result T E) → (P → Q → R) → OnOk result P → OnOk result Q → OnOk result R
on_ok_both (Ok value) to one other = to one other
on_ok_both (Err fault) to one other = tt

-- and so do two faults
pub on_err_both : {T E P Q R : Type 0} (result : Result T E) → (P → Q → R) → OnErr result P → OnErr result Q → OnErr result R
on_err_both (Ok value) to one other = tt
on_err_both (Err fault) to one other = to one other

-- a device that tells its bytes after a call told them before
pub was_told : (old new : Option (List ℕ)) → is_some new ≡ is_some old → (bytes : List ℕ) → new ≡ Some bytes → (file : List ℕ) × (old ≡ Some file)
was_told (Some file) new same bytes told = (file, refl)
was_told None new same bytes told = absurd (let some = ap is_some told in cc)

-- a device tells one content
pub same_told : {told : Option (List ℕ)} {bytes file : List ℕ} → told ≡ Some bytes → told ≡ Some file → bytes ≡ file
same_told told is = cc

-- these bytes are the next savepoint's, and this is the place that it is stored in
pub record IsNext (place : ℕ) (newest : Option Savepoint) (point : Savepoint) (bytes : List ℕ) : Type 0 where
  pub stands : StandsAt place point
  pub valid : IsSavepoint point
  pub sequence : point.sequence ≡ sequence_of newest + 1
  pub long : length bytes ≡ 512
  pub spelled : bytes ≡ place_bytes point

-- the same from what the calls before the first write ensure
pub is_next : {place : ℕ} {newest : Option Savepoint} {point : Savepoint} {bytes : List ℕ} → StandsAt place point → IsSavepoint point → point.sequence ≡ sequence_of newest + 1 → length bytes ≡ 512 → bytes ≡ place_bytes point → IsNext place newest point bytes
is_next stands valid sequence long spelled = record { stands = stands; valid = valid; sequence = sequence; long = long; spelled = spelled }

-- the bytes behind the valid byte
abbrev pub rest : List ℕ → List ℕ
rest bytes = take 511 (drop 1 bytes)

-- the device with the place closed, and then with these bytes behind its valid byte
abbrev pub filled_up : ℕ → List ℕ → List ℕ → List ℕ
filled_up place bytes file = written (512 * place + 1) (rest bytes) (closed (512 * place) file)

-- and then opened
abbrev pub opened_up : ℕ → List ℕ → List ℕ → List ℕ
opened_up place bytes file = written (512 * place) (valid_byte ∷ []) (filled_up place bytes file)

module _ {place : ℕ} {newest : Option Savepoint} {point : Savepoint} {bytes : List ℕ} (next : IsNext place newest point bytes) (file : List ℕ) (names : Names file newest) where
  places : Pair place (1 - place)
  places = pair place point.sequence next.stands

  placed : IsSavepointOf place point
  placed = record { point = next.valid; stands = next.stands }

  other_holds : HasPoint (1 - place) (place_in file (1 - place)) newest
  other_holds = newest_stands places file newest names (rw (sym next.sequence) next.stands)

  length-rest : length (rest bytes) ≡ 511
  length-rest = omega (arith, length-take 511 (drop 1 bytes), length-drop 1 bytes, next.long)

  open_rest : valid_byte ∷ rest bytes ≡ place_bytes point
  open_rest =
      let all : rest bytes ≡ drop 1 bytes = take_all 511 (drop 1 bytes) (omega (arith, length-drop 1 bytes, next.long)) in
      ap (λ (l : List ℕ). valid_byte ∷ l) (all ∙ ap (λ (l : List ℕ). drop 1 l) next.spelled)

  shut : Shut place (1 - place) newest (closed (512 * place) file)
  shut = shut_closed place (1 - place) places newest file names.size other_holds

  full : Filled place (1 - place) newest point (filled_up place bytes file)
  full = filled place (1 - place) places newest (closed (512 * place) file) (rest bytes) point length-rest open_rest shut

  -- each of the three writes begins within the device
  pub first_within : 512 * place < length file
  first_within = place_within places file names.size

  pub second_within : (now : List ℕ) → now ≡ closed (512 * place) file → 512 * place + 1 ≤ length now
  second_within now is = omega (arith, place_within places (closed (512 * place) file) shut.size, ap length is)

  pub third_within : (now : List ℕ) → now ≡ filled_up place bytes file → 512 * place < length now
  third_within now is = omega (arith, place_within places (filled_up place bytes file) full.size, ap length is)

  -- once the place is opened, the device has the next savepoint and nothing is pending
  pub stored_now : {D : Type 0} {clock : D → ℕ} {image_at : D → ℕ → List ℕ → Type 0} {disk : D} (now : List ℕ) → now ≡ opened_up place bytes file → Only clock image_at disk (opened_up place bytes file) → LeavesNewest clock image_at disk (Some point) now
  stored_now now is only =
      let names_next = opened place (1 - place) places newest point placed next.sequence (filled_up place bytes file) full in
      record {
        only = λ c left. only c left ∙ sym is;
        names = subst (λ f. Names f (Some point)) (sym is) names_next;
      }

  -- what reads give behind a step that failed has the newest savepoint: where the place wasn't closed,
  pub unclosed_now : (now : List ℕ) → ClosedOrTorn (512 * place) file now → Names now newest
  unclosed_now now left = close_stop place (1 - place) places newest file now names other_holds left

  -- where it wasn't filled,
  pub unfilled_now : (now : List ℕ) → Torn (512 * place + 1) (length (rest bytes)) (closed (512 * place) file) now → Names now newest
  unfilled_now now torn = fill_stop place (1 - place) places newest (length (rest bytes)) (closed (512 * place) file) now length-rest shut torn

  -- and where it was closed again behind it
  pub unopened_now : (now : List ℕ) → Torn (512 * place) 1 (filled_up place bytes file) now → slice_index now (512 * place) ≡ 0 → Names now newest
  unopened_now now torn byte =
      unopened place (1 - place) places newest point placed next.sequence (filled_up place bytes file) now full torn (λ is. absurd (omega (arith, byte, is)))

  -- at each moment of the three steps a stop leaves the old savepoint or the next one
  module _ {D : Type 0} {clock : D → ℕ} {image_at : D → ℕ → List ℕ → Type 0} {old new : D} where
    pub closing : Runs clock image_at old new (ClosedOrTorn (512 * place) file) → Runs clock image_at old new (NamesOldOrNew newest point)
    closing runs = runs_weaker (λ c left. inl (close_stop place (1 - place) places newest file c names other_holds left)) runs

    pub filling : Only clock image_at old (closed (512 * place) file) → Goes clock image_at (Torn (512 * place + 1) (length (rest bytes))) old new → Runs clock image_at old new (NamesOldOrNew newest point)
    filling only goes = runs_weaker (λ c torn. inl (fill_stop place (1 - place) places newest (length (rest bytes)) (closed (512 * place) file) c length-rest shut torn)) (runs_step only goes)

    pub opening : Only clock image_at old (filled_up place bytes file) → Goes clock image_at (Torn (512 * place) 1) old new → Runs clock image_at old new (NamesOldOrNew newest point)
    opening only goes = runs_weaker (λ c torn. open_stop place (1 - place) places newest point placed next.sequence (filled_up place bytes file) c full torn) (runs_step only goes)
