-- The three steps of a store, by what a stop leaves in each.
use Rattle.std.proofs.Common.{◌≡◌, ◌≢◌, inl, inr, ℕ, ◌+◌, ◌*◌, ◌<◌, ◌≤◌, List, [], ◌∷◌, ◌++◌, Option, Some, length, get_or, take, drop, sym, ◌∙◌, ap, subst, arith, append_assoc}
use Rattle.std.proofs.lemmas.List.{take_at, drop_at, get_or-take, get_or_at, length-take-le}
use Rattle.std.proofs.lemmas.Bool.{cases_eq}
use Rattle.std.proofs.lemmas.Bool.Decides.{nat_tests}
use Rattle.wire_form.specs.declared.savepoint.Savepoint.{Savepoint}
use Rattle.wire_form.specs.Savepoint.{IsSavepointOf, place_bytes, valid_byte}
use Rattle.outside.specs.Disk.{written, Torn}
use Rattle.outside.specs.Ranges.{torn_written}
use Rattle.log_writer.specs.Points.{sequence_of}
use Rattle.log_writer.specs.Save.{place_in, HasPoint, Names, NamesOldOrNew, closed, ClosedOrTorn}
use Rattle.log_writer.proofs.Places.{Pair, behind_valid, place_parts, other_kept, size_kept, place_within, closed_names, open_names, names_kept}

-- a written byte stands where it was written
pub byte_written : (at byte : ℕ) (file : List ℕ) → at ≤ length file → get_or (written at (byte ∷ []) file) at 0 ≡ byte
byte_written at byte file within = rw append_assoc (get_or_at (take at file) byte (drop (at + 1) file) 0 at (length-take-le at file within))

-- what was written behind the valid byte stands there
rest_written : (place : ℕ) (bytes file : List ℕ) → length bytes ≡ 511 → 512 * place < length file → behind_valid (written (512 * place + 1) bytes file) place ≡ bytes
rest_written place bytes file long within =
    let after : drop (512 * place + 1) (written (512 * place + 1) bytes file) ≡ bytes ++ drop (512 * place + 1 + length bytes) file =
    rw append_assoc (drop_at (take (512 * place + 1) file) (bytes ++ drop (512 * place + 1 + length bytes) file) (512 * place + 1) (length-take-le (512 * place + 1) file (omega (arith, within)))) in
    ap (λ (l : List ℕ). take 511 l) after ∙ take_at bytes (drop (512 * place + 1 + length bytes) file) 511 long

-- a torn valid byte leaves what stands behind it
behind_kept : (place : ℕ) (file c : List ℕ) → Torn (512 * place) 1 file c → behind_valid c place ≡ behind_valid file place
behind_kept place file c torn = ap (λ (l : List ℕ). take 511 l) torn.after

-- the place is closed, and the other has the newest savepoint
pub record Shut (place other : ℕ) (newest : Option Savepoint) (file : List ℕ) : Type 0 where
  pub size : length file ≡ 1024
  pub byte : get_or file (512 * place) 0 ≢ valid_byte
  pub holds : HasPoint other (place_in file other) newest

-- the next savepoint stands behind the place's valid byte, and the other has the newest
pub record Filled (place other : ℕ) (newest : Option Savepoint) (point : Savepoint) (file : List ℕ) : Type 0 where
  pub size : length file ≡ 1024
  pub behind : valid_byte ∷ behind_valid file place ≡ place_bytes point
  pub holds : HasPoint other (place_in file other) newest

-- a closed place isn't written
pub closed_shut : (at : ℕ) (file : List ℕ) → get_or file at 0 ≢ valid_byte → closed at file ≡ file
closed_shut at file shut = grind (arith, nat_tests)

-- an open one is
pub closed_open : (at : ℕ) (file : List ℕ) → get_or file at 0 ≡ valid_byte → closed at file ≡ written at (0 ∷ []) file
closed_open at file byte = grind (arith, nat_tests)

module _ (place other : ℕ) (places : Pair place other) (newest : Option Savepoint) where
  -- what the other place holds it still holds after a write within the place
  still_holds : (at count : ℕ) (file c : List ℕ) → 512 * place ≤ at → at + count ≤ 512 * place + 512 → Torn at count file c → HasPoint other (place_in file other) newest → HasPoint other (place_in c other) newest
  still_holds at count file c from to torn holds = subst (λ l. HasPoint other l newest) (sym (other_kept places at count file c from to torn)) holds

  -- while the place is closed, the device has what it had
  pub close_stop : (file c : List ℕ) → Names file newest → HasPoint other (place_in file other) newest → ClosedOrTorn (512 * place) file c → Names c newest
  close_stop file c names holds (inl same) = subst (λ f. Names f newest) (sym same) names
  close_stop file c names holds (inr (byte, torn)) =
      let size = size_kept places (512 * place) 1 file c names.size (omega arith) torn in
      let kept = other_kept places (512 * place) 1 file c (omega arith) (omega arith) torn in
      elim (cases_eq (get_or c (512 * place) 0) valid_byte) [
        | inl is_open ↦
            let same : place_in c place ≡ place_in file place =
            place_parts c place (place_within places c size)
            ∙ ap (λ g. g ∷ behind_valid c place) (is_open ∙ sym byte)
            ∙ ap (λ (l : List ℕ). get_or file (512 * place) 0 ∷ l) (behind_kept place file c torn)
            ∙ sym (place_parts file place (place_within places file names.size)) in
            names_kept places file c newest size same kept names
        | inr shut ↦ closed_names places c newest size shut (subst (λ l. HasPoint other l newest) (sym kept) holds)
      ]

  -- closing the place shuts it
  pub shut_closed : (file : List ℕ) → length file ≡ 1024 → HasPoint other (place_in file other) newest → Shut place other newest (closed (512 * place) file)
  shut_closed file size holds =
      let within = place_within places file size in
      elim (cases_eq (get_or file (512 * place) 0) valid_byte) [
        | inl is_open ↦
            let torn = torn_written (512 * place) (0 ∷ []) file (omega (arith, within)) in
            let byte = byte_written (512 * place) 0 file (omega (arith, within)) in
            subst (Shut place other newest) (sym (closed_open (512 * place) file is_open)) (record {
              size = size_kept places (512 * place) 1 file (written (512 * place) (0 ∷ []) file) size (omega arith) torn;
              byte = λ is. absurd (omega (arith, byte, is));
              holds = still_holds (512 * place) 1 file (written (512 * place) (0 ∷ []) file) (omega arith) (omega arith) torn holds;
            })
        | inr shut ↦ subst (Shut place other newest) (sym (closed_shut (512 * place) file shut)) (record { size = size; byte = shut; holds = holds })
      ]

  -- behind a closed place's valid byte anything may stand
  pub fill_stop : (count : ℕ) (file c : List ℕ) → count ≡ 511 → Shut place other newest file → Torn (512 * place + 1) count file c → Names c newest
  fill_stop count file c whole shut torn =
      let size = size_kept places (512 * place + 1) count file c shut.size (omega (arith, whole)) torn in
      let byte : get_or c (512 * place) 0 ≡ get_or file (512 * place) 0 =
      sym (get_or-take (512 * place + 1) c (512 * place) 0 (omega arith)) ∙ ap (λ (l : List ℕ). get_or l (512 * place) 0) torn.before ∙ get_or-take (512 * place + 1) file (512 * place) 0 (omega arith) in
      closed_names places c newest size (λ is. shut.byte (sym byte ∙ is)) (still_holds (512 * place + 1) count file c (omega arith) (omega (arith, whole)) torn shut.holds)

  -- writing behind the valid byte fills it
  pub filled : (file bytes : List ℕ) (point : Savepoint) → length bytes ≡ 511 → valid_byte ∷ bytes ≡ place_bytes point → Shut place other newest file → Filled place other newest point (written (512 * place + 1) bytes file)
  filled file bytes point long is shut =
      let within = place_within places file shut.size in
      let torn = torn_written (512 * place + 1) bytes file (omega (arith, within)) in
      record {
        size = size_kept places (512 * place + 1) (length bytes) file (written (512 * place + 1) bytes file) shut.size (omega (arith, long)) torn;
        behind = ap (λ (l : List ℕ). valid_byte ∷ l) (rest_written place bytes file long within) ∙ is;
        holds = still_holds (512 * place + 1) (length bytes) file (written (512 * place + 1) bytes file) (omega arith) (omega (arith, long)) torn shut.holds;
      }

  module _ (point : Savepoint) (is_point : IsSavepointOf place point) (next : point.sequence ≡ sequence_of newest + 1) where
    -- once its valid byte is there, the device has the next savepoint
    opened_names : (file c : List ℕ) → Filled place other newest point file → Torn (512 * place) 1 file c → get_or c (512 * place) 0 ≡ valid_byte → Names c (Some point)
    opened_names file c full torn is_open =
        let size = size_kept places (512 * place) 1 file c full.size (omega arith) torn in
        let is : place_in c place ≡ place_bytes point =
        place_parts c place (place_within places c size)
        ∙ ap (λ g. g ∷ behind_valid c place) is_open
        ∙ ap (λ (l : List ℕ). valid_byte ∷ l) (behind_kept place file c torn) ∙ full.behind in
        open_names places c newest point size (omega (arith, next)) (is_point, is) (still_holds (512 * place) 1 file c (omega arith) (omega arith) torn full.holds)

    -- while it isn't, the device has the newest savepoint
    pub unopened : (file c : List ℕ) → Filled place other newest point file → Torn (512 * place) 1 file c → get_or c (512 * place) 0 ≢ valid_byte → Names c newest
    unopened file c full torn shut =
        let size = size_kept places (512 * place) 1 file c full.size (omega arith) torn in
        closed_names places c newest size shut (still_holds (512 * place) 1 file c (omega arith) (omega arith) torn full.holds)

    -- while the place is opened, the device has the newest savepoint or the next
    pub open_stop : (file c : List ℕ) → Filled place other newest point file → Torn (512 * place) 1 file c → NamesOldOrNew newest point c
    open_stop file c full torn = elim (cases_eq (get_or c (512 * place) 0) valid_byte) [
      | inl is_open ↦ inr (opened_names file c full torn is_open)
      | inr shut ↦ inl (unopened file c full torn shut)
    ]

    -- and then it has the next
    pub opened : (file : List ℕ) → Filled place other newest point file → Names (written (512 * place) (valid_byte ∷ []) file) (Some point)
    opened file full =
        let within = place_within places file full.size in
        opened_names file (written (512 * place) (valid_byte ∷ []) file) full (torn_written (512 * place) (valid_byte ∷ []) file (omega (arith, within))) (byte_written (512 * place) valid_byte file (omega (arith, within)))
