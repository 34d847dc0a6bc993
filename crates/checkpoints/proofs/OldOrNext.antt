-- From a vault at rest to the store of a savepoint that names more pages and counts nothing of the log files.
use Rattle.std.proofs.Common.{◌≡◌, ◌+◌, ℕ, List, [], Option, Some, sym, ap, subst, arith}
use Rattle.std.specs.Prelude.{is_some, Result, MatchResult, OnOk}
use Rattle.std.specs.List.{Contains}
use Rattle.lists.specs.Fronts.{IsFront}
use Rattle.outside.specs.Disk.{Runs}
use Rattle.outside.specs.Fronts.{AllBegin}
use Rattle.log_writer.specs.declared.records.Tie.{Tie}
use Rattle.log_writer.specs.declared.records.Cut.{Cut}
use Rattle.wire_form.specs.declared.savepoint.Savepoint.{Savepoint}
use Rattle.log_writer.specs.Points.{point_of, sequence_of}
use Rattle.log_writer.specs.Save.{Names}
use Rattle.log_writer.specs.declared.saved.Saved.{Saved}
use Rattle.joint_crashes.specs.Images.{Images, counted_of}
use Rattle.joint_crashes.specs.JointCrash.{Parts, Moments, KeepsCrashes}
use Rattle.joint_crashes.specs.Resting.{IsResting}
use Rattle.joint_crashes.specs.Story.{Story, IsTold, AreOpen}
use Rattle.joint_crashes.specs.Cutting.{ArePast, AreToldIn}
use Rattle.joint_crashes.specs.Settling.{RestsOn, MayStore, IsLeft, IsSettled, IsSafe, story_of}
use Rattle.joint_crashes.specs.Banks.{all_banks}
use Rattle.checkpoints.specs.SettleGoesOn.{on_settled}
use Rattle.joint_crashes.specs.SettleRests.{RestsSince}
use Rattle.joint_crashes.specs.Crashes.Instants.{keeps_then}
use Rattle.joint_crashes.specs.Crashes.Rested.{told_begun, told_appended, keeps_appended, ready_begun, may_store}
use Rattle.joint_crashes.specs.Crashes.Rested.{counted_new, point_old, pages_old, rests_on}
use Rattle.joint_crashes.specs.Crashes.Safe.{left_of, safe_of}
use Rattle.joint_crashes.specs.Crashes.StoreSteps.{now_one}
use Rattle.joint_crashes.specs.Crashes.ToldSteps.{parts}
use Rattle.checkpoints.specs.Written.{RestsFrom}

module _ {D : Type 0} {tells : D → Option (List ℕ)} {clock : D → ℕ} {image_at : D → ℕ → List ℕ → Type 0}
    (reads : (disk : D) (file : List ℕ) → tells disk ≡ Some file → image_at disk (clock disk) file) where
  -- such a vault rests on the newest savepoint
  pub from_rests_on : {all : Parts D} {found : Images} {from : Moments} (newest : Option Savepoint) (have : ℕ)
      → (rest : IsResting clock image_at all) → RestsFrom clock image_at tells newest have found from all rest
      → RestsOn tells clock image_at newest rest.pages rest.counted all
  from_rests_on {all = all} newest have rest is =
      subst (λ x. RestsOn tells clock image_at x rest.pages rest.counted all) is.newest_is
      (rests_on rest is.none is.told)

  pub from_since : {all : Parts D} {found : Images} {from : Moments} (newest : Option Savepoint) (have : ℕ)
      → (rest : IsResting clock image_at all) → RestsFrom clock image_at tells newest have found from all rest
      → RestsSince clock image_at from newest rest.pages rest.counted all
  from_since {all = all} {from = from} newest have rest is =
      subst (λ x. RestsSince clock image_at from x rest.pages rest.counted all) is.newest_is is.since

  -- as long as the next savepoint isn't stored, a crash finds the newest one, whatever was added to the snapshots
  pub left_safe : {save old snaps : D} {banks : ℕ → Option D} {ties : List Tie} {cuts : List Cut} {found : Images}
      {from : Moments} (newest : Option Savepoint) (next : Savepoint) (more : List ℕ) (have : ℕ)
      → (rest : IsResting clock image_at (parts save old banks ties cuts))
      → RestsFrom clock image_at tells newest have found from (parts save old banks ties cuts) rest
      → Runs clock image_at old snaps (IsFront rest.pages)
      → IsSafe clock image_at from newest next rest.pages more rest.counted (parts save old banks ties cuts)
      (parts save snaps banks ties cuts)
  left_safe {save = save} {old = old} {snaps = snaps} {banks = banks} {ties = ties} {cuts = cuts}
      newest next more have rest is runs =
      let on = from_rests_on newest have rest is in
      let pages = rest.pages in
      let counted = rest.counted in
      let told = told_begun reads next more on (from_since newest have rest is) in
      let runs_pages = subst (λ l. Runs clock image_at old snaps (IsFront l))
      (sym (pages_old newest next pages more counted)) runs in
      let mid = told_appended told runs_pages in
      safe_of {old = parts save old banks ties cuts} newest next pages more counted (keeps_appended told runs) (record {
        high = sequence_of newest;
        within = omega arith;
        told = mid;
        instant = now_one mid (ready_begun newest next pages more counted (parts save snaps banks ties cuts) on.bank
            on.no_records.cuts)
            (λ b image. subst (λ x. Names b x) (sym (point_old newest next pages more counted))
            (subst (λ l. Names l newest) (sym (on.save b image)) on.names));
      })

  -- and once it was stored, or a store of it was begun, the newest one or the next
  pub stored_safe : {T E : Type 0} {save old snaps : D} {banks : ℕ → Option D} {ties : List Tie} {cuts : List Cut}
      {found : Images} {from : Moments} (newest : Option Savepoint) (saved : Saved) (more : List ℕ) (have : ℕ)
      (new : Parts D) (r : Result T E) → ((n : ℕ) (bank : D) → new.banks n ≡ Some bank → Contains all_banks n)
      → (rest : IsResting clock image_at (parts save old banks ties cuts))
      → RestsFrom clock image_at tells newest have found from (parts save old banks ties cuts) rest
      → ((n : ℕ) → counted_of (Some (point_of (sequence_of newest + 1) saved)) n ≡ 0)
      → Runs clock image_at old snaps (IsFront rest.pages) → AllBegin (image_at snaps (clock snaps)) more
      → ((story : Story) (from : Moments) (low : ℕ)
      → MayStore clock image_at tells story from low newest saved (parts save snaps banks ties cuts)
      → ArePast clock image_at (parts save snaps banks ties cuts)
      → AreToldIn tells all_banks (parts save snaps banks ties cuts)
      → ((n : ℕ) → Contains all_banks n → story.counted (sequence_of newest + 1) n ≡ [])
      → KeepsCrashes clock image_at from (parts save snaps banks ties cuts) new
      × MatchResult r
      (λ _. IsSettled clock image_at story from low (sequence_of newest + 1) all_banks
      (parts save snaps banks ties cuts) new)
      (λ _. IsLeft clock image_at story from low (sequence_of newest + 1) new))
      → IsSafe clock image_at from newest (point_of (sequence_of newest + 1) saved) rest.pages more rest.counted
      (parts save old banks ties cuts) new
      × OnOk r (IsTold clock image_at
      (story_of newest (point_of (sequence_of newest + 1) saved) rest.pages more rest.counted) from
      (sequence_of newest) (sequence_of newest + 1) new
      × AreOpen clock image_at
      (story_of newest (point_of (sequence_of newest + 1) saved) rest.pages more rest.counted) from
      (sequence_of newest) (sequence_of newest + 1) new (λ n. []))
  stored_safe {old = old} {snaps = snaps} {from = from}
      newest saved more have new r listed rest is zero runs durable crashes =
      let on = from_rests_on newest have rest is in
      let pages = rest.pages in
      let counted = rest.counted in
      let next = point_of (sequence_of newest + 1) saved in
      let story = story_of newest next pages more counted in
      let began = told_begun reads next more on (from_since newest have rest is) in
      let runs_pages = subst (λ l. Runs clock image_at old snaps (IsFront l))
      (sym (pages_old newest next pages more counted)) runs in
      let may = may_store reads {newest = newest} saved pages more counted (told_appended began runs_pages) on.bank
      on.no_records.cuts (ap is_some is.told.save) durable zero in
      let done = crashes story from (sequence_of newest) may.0 may.1
      (λ n bank has there. ap is_some (is.told.bank n bank there))
      (λ n has. counted_new newest next pages more counted n) in (
        safe_of newest next pages more counted (keeps_then (keeps_appended began runs) done.0)
            (left_of all_banks _ r done.1),
        on_settled r done.1 (λ settled. (
          settled.told,
          λ n bank there. settled.empty n bank (listed n bank there) there,
        )),
      )
