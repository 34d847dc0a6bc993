-- A vault whose newest savepoint counts nothing of the log files, which were cut, or not.
use Rattle.std.proofs.Common.{◌≡◌, ◌+◌, ℕ, List, [], Option, Some, inl, refl, sym, ap, ◌∙◌, subst, arith}
use Rattle.std.specs.Prelude.{is_some, Result, MatchResult, OnOk}
use Rattle.std.specs.List.{Contains}
use Rattle.std.proofs.lemmas.List.{nil_from_length}
use Rattle.serial_model.specs.State.{State}
use Rattle.wire_form.specs.declared.savepoint.Savepoint.{Savepoint}
use Rattle.log_writer.specs.Points.{sequence_of, point_of, saved_of}
use Rattle.log_writer.specs.Save.{Names}
use Rattle.joint_crashes.specs.Images.{Images, counted_of}
use Rattle.joint_crashes.specs.JointCrash.{Parts, Moments}
use Rattle.recovery_core.specs.Recoverable.{counting, IsRecoverable}
use Rattle.joint_crashes.specs.Resting.{IsResting, HasNoRecords, AreTold}
use Rattle.joint_crashes.specs.Story.{Story}
use Rattle.joint_crashes.specs.Cutting.{MayCut, AreCut, CutsLeave}
use Rattle.joint_crashes.specs.Settling.{RestsOn, IsSafe, story_of}
use Rattle.checkpoints.specs.SettledLaws.{SaysSame}
use Rattle.joint_crashes.specs.Banks.{all_banks, all_below}
use Rattle.checkpoints.specs.SettleGoesOn.{GoesOn, on_cut, cut_goes_on}
use Rattle.checkpoints.specs.SettleLaws.{cuts_left}
use Rattle.joint_crashes.specs.SettleRests.{RestsSince}
use Rattle.checkpoints.specs.CrashesRecover.{LeavesSame, HasFiles, point_read, settled_leaves}
use Rattle.joint_crashes.specs.Crashes.Rested.{told_begun, ready_begun, rests_on, no_cut, point_old, counted_old}
use Rattle.joint_crashes.specs.Crashes.Safe.{safe_of}
use Rattle.joint_crashes.specs.Crashes.StoreSteps.{now_one}

module _ {D : Type 0} {tells : D → Option (List ℕ)} {clock : D → ℕ} {image_at : D → ℕ → List ℕ → Type 0}
    (reads : (disk : D) (file : List ℕ) → tells disk ≡ Some file → image_at disk (clock disk) file) where
  -- each crash since it rested leaves the epoch and the state, and calls go on behind Ok
  pub files_cut : {T E : Type 0} {found : Images} {from : Moments} {epoch : ℕ} {state : State}
      (newest : Option Savepoint) (p : Savepoint) (old new : Parts D) (r : Result T E)
      → HasFiles old → HasFiles new → ((n : ℕ) (bank : D) → new.banks n ≡ Some bank → Contains all_banks n)
      → (rest : IsResting clock image_at old) → HasNoRecords old → AreTold tells old found
      → RestsSince clock image_at from rest.point rest.pages rest.counted old
      → (is : IsRecoverable found epoch state) → counting is.reading ≡ []
      → newest ≡ Some p → ((n : ℕ) → counted_of (Some p) n ≡ 0) → Names found.save newest → new.save ≡ old.save
      → ((story : Story) (from : Moments) (low : ℕ)
      → MayCut clock image_at tells story from low (sequence_of newest) all_banks old
      → MatchResult r (λ _. AreCut clock image_at story from low (sequence_of newest) all_banks old new)
      (λ _. CutsLeave clock image_at story from low (sequence_of newest) old new))
      → LeavesSame clock image_at from is.reading epoch state old new
      × OnOk r (GoesOn clock image_at from is.reading epoch state (sequence_of newest) newest new)
  files_cut {from = from}
      newest p old new r files still listed rest none told since is no_entry has nothing names save cuts =
      let s = sequence_of newest in
      let next = point_of (s + 1) (saved_of p) in
      let named : newest ≡ rest.point = point_read reads newest rest told names in
      let on = subst (λ x. RestsOn tells clock image_at x rest.pages rest.counted old) (sym named)
      (rests_on rest none told) in
      let rested = subst (λ x. RestsSince clock image_at from x rest.pages rest.counted old) (sym named) since in
      let began = told_begun reads next rest.pages on rested in
      let same : SaysSame p next = record { epoch = refl; catalogue = refl; count = refl; nothing = nothing } in
      let done = cuts (story_of newest next rest.pages rest.pages rest.counted) from s (record {
        told = began;
        ready = ready_begun newest next rest.pages rest.pages rest.counted old on.bank on.no_records.cuts;
        past = λ n bank there started after cut. absurd (no_cut old.cuts none.cuts n started after cut);
        none = λ n listed.
            let bank = files n (all_below n listed) in
            counted_old newest next rest.pages rest.pages rest.counted n
            ∙ nil_from_length (rest.counted n) (rest.bank_sized n bank.0 bank.1
            ∙ ap (λ x. counted_of x n) (sym named ∙ has) ∙ nothing n);
        ended = inl (omega arith);
        tell = λ n bank listed there. ap is_some (told.bank n bank there);
      }) in
      let left = cuts_left all_banks r done in
      let instant = now_one left.told left.ready
      (λ b image. subst (λ x. Names b x) (sym (point_old newest next rest.pages rest.pages rest.counted))
      (rested.save (clock old.save) b rested.save_came (omega arith)
      (subst (λ d. image_at d (clock d) b) save image))) in
      let safe = safe_of newest next rest.pages rest.pages rest.counted left.stays
      (record { high = s; within = omega arith; told = left.told; instant = instant }) in (
        settled_leaves reads p next files still rest told is (sym named ∙ has) no_entry same
            (subst (λ x. IsSafe clock image_at from x next rest.pages rest.pages rest.counted old new) named safe),
        on_cut r done (cut_goes_on reads newest p next files still listed rest told is named has no_entry same),
      )
