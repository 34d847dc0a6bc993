-- A vault whose next savepoint counts nothing of the log files, and which was stored and cut, or not.
use Rattle.std.proofs.Common.{◌≡◌, ◌+◌, ℕ, List, [], Option, Some, sym, ap, ◌∙◌, subst, refl}
use Rattle.std.specs.Prelude.{is_some, Result, MatchResult, OnOk}
use Rattle.std.specs.List.{Contains}
use Rattle.serial_model.specs.State.{State}
use Rattle.wire_form.specs.declared.savepoint.Savepoint.{Savepoint}
use Rattle.log_writer.specs.Points.{sequence_of, point_of}
use Rattle.log_writer.specs.Save.{Names}
use Rattle.log_writer.specs.declared.saved.Saved.{Saved}
use Rattle.joint_crashes.specs.Images.{Images, counted_of}
use Rattle.joint_crashes.specs.JointCrash.{Parts, Moments, KeepsCrashes}
use Rattle.recovery_core.specs.Recoverable.{counting, IsRecoverable}
use Rattle.joint_crashes.specs.Resting.{IsResting, HasNoRecords, AreTold}
use Rattle.joint_crashes.specs.Story.{Story}
use Rattle.joint_crashes.specs.Cutting.{ArePast, AreToldIn}
use Rattle.joint_crashes.specs.Settling.{RestsOn, MayStore, IsLeft, IsSettled, IsSafe, story_of}
use Rattle.checkpoints.specs.SettledLaws.{SaysSame}
use Rattle.joint_crashes.specs.Banks.{all_banks}
use Rattle.checkpoints.specs.SettleGoesOn.{GoesOn, on_settled, stored_goes_on}
use Rattle.joint_crashes.specs.SettleRests.{RestsSince}
use Rattle.checkpoints.specs.CrashesRecover.{LeavesSame, HasFiles, point_read, settled_leaves}
use Rattle.joint_crashes.specs.Crashes.Rested.{told_begun, may_store, counted_new, rests_on}
use Rattle.joint_crashes.specs.Crashes.Safe.{left_of, safe_of}

module _ {D : Type 0} {tells : D → Option (List ℕ)} {clock : D → ℕ} {image_at : D → ℕ → List ℕ → Type 0}
    (reads : (disk : D) (file : List ℕ) → tells disk ≡ Some file → image_at disk (clock disk) file) where
  -- each crash since it rested leaves the epoch and the state, and calls go on behind Ok
  pub lengths_stored : {T E : Type 0} {found : Images} {from : Moments} {epoch : ℕ} {state : State}
      (newest : Option Savepoint) (saved : Saved) (p : Savepoint) (old new : Parts D) (r : Result T E)
      → HasFiles old → HasFiles new → ((n : ℕ) (bank : D) → new.banks n ≡ Some bank → Contains all_banks n)
      → (rest : IsResting clock image_at old) → HasNoRecords old → AreTold tells old found
      → RestsSince clock image_at from rest.point rest.pages rest.counted old
      → (is : IsRecoverable found epoch state) → counting is.reading ≡ []
      → newest ≡ Some p → SaysSame p (point_of (sequence_of newest + 1) saved) → Names found.save newest
      → ((n : ℕ) → counted_of (Some (point_of (sequence_of newest + 1) saved)) n ≡ 0)
      → ((story : Story) (from : Moments) (low : ℕ)
      → MayStore clock image_at tells story from low newest saved old → ArePast clock image_at old
      → AreToldIn tells all_banks old
      → ((n : ℕ) → Contains all_banks n → story.counted (sequence_of newest + 1) n ≡ [])
      → KeepsCrashes clock image_at from old new
      × MatchResult r
      (λ _. IsSettled clock image_at story from low (sequence_of newest + 1) all_banks old new)
      (λ _. IsLeft clock image_at story from low (sequence_of newest + 1) new))
      → LeavesSame clock image_at from is.reading epoch state old new
      × OnOk r (GoesOn clock image_at from is.reading epoch state (sequence_of newest)
      (Some (point_of (sequence_of newest + 1) saved)) new)
  lengths_stored {found = found} {from = from}
      newest saved p old new r files still listed rest none told since is no_entry has same names nothing crashes =
      let next = point_of (sequence_of newest + 1) saved in
      let named : newest ≡ rest.point = point_read reads newest rest told names in
      let on = subst (λ x. RestsOn tells clock image_at x rest.pages rest.counted old) (sym named)
      (rests_on rest none told) in
      let rested = subst (λ x. RestsSince clock image_at from x rest.pages rest.counted old) (sym named) since in
      let began = told_begun reads next rest.pages on rested in
      let may = may_store reads saved rest.pages rest.pages rest.counted began on.bank on.no_records.cuts
      (ap is_some told.save) rest.snaps nothing in
      let done = crashes (story_of newest next rest.pages rest.pages rest.counted) from (sequence_of newest)
      may.0 may.1 (λ n bank has there. ap is_some (told.bank n bank there))
      (λ n has. counted_new newest next rest.pages rest.pages rest.counted n) in
      let safe = safe_of newest next rest.pages rest.pages rest.counted done.0 (left_of all_banks old r done.1) in (
        settled_leaves reads p next files still rest told is (sym named ∙ has) no_entry same
            (subst (λ x. IsSafe clock image_at from x next rest.pages rest.pages rest.counted old new) named safe),
        on_settled r done.1
            (stored_goes_on reads newest p next files still listed rest told is named has no_entry same refl),
      )
