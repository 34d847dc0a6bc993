-- What each savepoint stands for that a crash in a run may find.
use Rattle.std.proofs.Common.{◌≡◌, ◌∙◌, ◌≤◌, ◌<◌, inl, inr, ap, ℕ, false, List, [], ◌∷◌}
use Rattle.std.proofs.Common.{refl, arith}
use Rattle.std.specs.Prelude.{filter, nat_le}
use Rattle.std.specs.FinMap.{get}
use Rattle.std.specs.List.{AllByRecursion}
use Rattle.std.proofs.lemmas.Bool.{cases_lt}
use Rattle.std.proofs.lemmas.Bool.Decides.{nat_tests}
use Rattle.lists.specs.Fronts.{IsFront}
use Rattle.serial_model.specs.History.{Entry, as_of}
use Rattle.serial_model.specs.State.{State}
use Rattle.serial_model.specs.declared.decl.Decl.{Decl}
use Rattle.log_writer.specs.Save.{Names}
use Rattle.joint_crashes.specs.Images.{Images, epoch_of}
use Rattle.recovery_core.specs.Recoverable.{IsRecoverable, IsStateOf, Reading}
use Rattle.recovery_core.specs.SnapshotsKept.{StandsAsRead}
use Rattle.joint_crashes.specs.Story.{Story}
use Rattle.program_calls.specs.Snapshots.{EachSnapshot}
use Rattle.program_calls.proofs.SnapshotsKept.{Chained, chained, each_kept}

-- The images name a savepoint of the story, and have all that it counts.
pub record FoundAt (story : Story) (left : Images) (k : ℕ) : Type 0 where
  pub names : Names left.save (story.point k)
  pub pages : IsFront (story.pages k) left.snaps
  pub counted : (n : ℕ) → n < 16 → IsFront (story.counted k n) (left.bank n)

-- Images that stand for this epoch and the state as of it, with each snapshot as it has to be, beside those that were
-- read before.
pub record StandsThen (was : Reading) (decls : List Decl) (saved : ℕ) (s : State) (ordered : List Entry) (left : Images)
    (epoch : ℕ) : Type 0 where
  pub is : IsRecoverable left epoch (as_of decls s ordered epoch)
  pub each : EachSnapshot was is.reading saved s decls ordered

-- what was read before the run: a chain of catalogues, the saved epoch and the state
pub record WasRead (was : Reading) (saved : ℕ) (s : State) : Type 0 where
  pub chained : Chained was
  pub epoch : saved ≡ epoch_of was.point
  pub state : IsStateOf was s

-- What is known of the savepoints from one on: up to the one with which the run began they stand for what was
-- recovered, and behind it for the states as of their own epochs, which never fall.
pub record PointsKept (story : Story) (low settled high : ℕ) (was : Reading) (decls : List Decl) (saved : ℕ) (s : State)
    (ordered : List Entry) : Type 0 where
  pub read : WasRead was saved s
  pub within : low ≤ settled
  pub reaches : settled ≤ high
  pub first_epoch : epoch_of (story.point settled) ≡ saved
  pub old : (k : ℕ) (left : Images) → low ≤ k → k ≤ settled → FoundAt story left k → StandsAsRead was left saved s
  pub later : (k : ℕ) (left : Images) → settled < k → k ≤ high → FoundAt story left k
      → StandsThen was decls saved s ordered left (epoch_of (story.point k))
  pub rise : (j k : ℕ) → settled ≤ j → j ≤ k → k ≤ high → epoch_of (story.point j) ≤ epoch_of (story.point k)
  pub above : AllByRecursion (λ e. saved < e.number.epoch) ordered

-- no entry is up to an epoch that all are above
none_up_to : (epoch : ℕ) (es : List Entry) → AllByRecursion (λ e. epoch < e.number.epoch) es
    → filter (λ (e : Entry). nat_le e.number.epoch epoch) es ≡ []
none_up_to epoch [] above = refl
none_up_to epoch (e ∷ es) above =
    let is : nat_le e.number.epoch epoch ≡ false = grind (arith, nat_tests, above.0) in
    rw is (none_up_to epoch es above.1)

-- before all entries the state is what it was
as_of_none : (decls : List Decl) (s : State) (es : List Entry) (epoch : ℕ)
    → AllByRecursion (λ e. epoch < e.number.epoch) es → as_of decls s es epoch ≡ s
as_of_none decls s es epoch above = rw (none_up_to epoch es above) refl

-- What images leave that are found at a savepoint: an epoch from the one that was recovered on, the savepoint's own
-- where the run stored it, the state as of it, and the snapshots.
pub record LeftAt (story : Story) (settled : ℕ) (was : Reading) (decls : List Decl) (saved : ℕ) (s : State)
    (ordered : List Entry) (left : Images) (k : ℕ) : Type 0 where
  pub epoch : ℕ
  pub least : saved ≤ epoch
  pub stands : StandsThen was decls saved s ordered left epoch
  pub of_point : settled < k → epoch ≡ epoch_of (story.point k)

module _ {story : Story} {low settled high : ℕ} {was : Reading} {decls : List Decl} {saved : ℕ} {s : State}
    {ordered : List Entry} (kept : PointsKept story low settled high was decls saved s ordered) where
  before_run : (left : Images) (k : ℕ) → low ≤ k → k ≤ settled → FoundAt story left k
      → LeftAt story settled was decls saved s ordered left k
  before_run left k at_least at_most found =
      let stands = kept.old k left at_least at_most found in
      record {
        epoch = saved;
        least = omega arith;
        stands = record {
          is = record {
            reading = stands.is.reading;
            is = stands.is.is;
            epoch_is = stands.is.epoch_is;
            state_is = λ key. ap (λ (t : State). get t key) (as_of_none decls s ordered saved kept.above)
                ∙ stands.is.state_is key;
          };
          each = each_kept decls ordered was stands.is.reading saved s kept.read.chained
              (chained left stands.is.reading stands.is.is) kept.read.epoch kept.read.state stands.keeps;
        };
        of_point = λ later. absurd (omega (arith, later, at_most));
      }

  in_run : (left : Images) (k : ℕ) → settled < k → k ≤ high → FoundAt story left k
      → LeftAt story settled was decls saved s ordered left k
  in_run left k later at_most found = record {
    epoch = epoch_of (story.point k);
    least = (let rise = kept.rise settled k (omega arith) (omega (arith, later)) at_most in
        omega (arith, rise, kept.first_epoch));
    stands = kept.later k left later at_most found;
    of_point = λ after. refl;
  }

  pub left_at : (left : Images) (k : ℕ) → low ≤ k → k ≤ high → FoundAt story left k
      → LeftAt story settled was decls saved s ordered left k
  left_at left k at_least at_most found = elim (cases_lt settled k) [
    | inl later ↦ in_run left k later at_most found
    | inr before ↦ before_run left k at_least before found
  ]
