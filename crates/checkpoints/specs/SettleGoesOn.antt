-- What is known of each device behind a settling, so that the calls of a run go on from it.
use Rattle.std.specs.Prelude.{◌≡◌, ◌≤◌, ◌+◌, ℕ, List, [], Option, Some}
use Rattle.std.specs.Prelude.{Result, Ok, Err, MatchResult, OnOk}
use Rattle.std.proofs.Common.{sym, ap, ◌∙◌, subst, arith}
use Rattle.std.specs.List.{Contains}
use Rattle.outside.specs.Disk.{Only}
use Rattle.serial_model.specs.State.{State}
use Rattle.wire_form.specs.declared.savepoint.Savepoint.{Savepoint}
use Rattle.log_writer.specs.Points.{sequence_of}
use Rattle.joint_crashes.specs.Images.{Images}
use Rattle.joint_crashes.specs.JointCrash.{Parts, Moments}
use Rattle.recovery_core.specs.Recoverable.{counting, IsRecoverable, Reading}
use Rattle.recovery_core.specs.SnapshotsKept.{StandsAsRead}
use Rattle.joint_crashes.specs.Resting.{IsResting, AreTold}
use Rattle.joint_crashes.specs.Story.{Story, IsTold, AreOpen, StandsFor}
use Rattle.joint_crashes.specs.Cutting.{AreCut, CutsLeave}
use Rattle.joint_crashes.specs.Settling.{IsLeft, IsSettled, FoundOldOrNew, story_of}
use Rattle.checkpoints.specs.SettledLaws.{SaysSame}
use Rattle.joint_crashes.specs.Banks.{all_banks}
use Rattle.checkpoints.specs.CrashesRecover.{HasFiles, settled_recovers}
use Rattle.joint_crashes.specs.Crashes.Instants.{open_ready}
use Rattle.joint_crashes.specs.Crashes.Rested.{point_old, point_new}
use Rattle.checkpoints.specs.RestsLaws.{rests_by}
use Rattle.joint_crashes.specs.Crashes.Safe.{old_or_new}

-- A story of the savepoints since these moments: the newest of them is the one that was handed on, nothing is durable
-- of the log files, and images that stand for any of them stand for this epoch and this state, with the snapshots of
-- what was read.
pub record GoesOn {D : Type 0} (clock : D → ℕ) (image_at : D → ℕ → List ℕ → Type 0) (from : Moments) (was : Reading)
    (epoch : ℕ) (state : State) (low : ℕ) (newest : Option Savepoint) (parts : Parts D) : Type 0 where
  pub story : Story
  pub told : IsTold clock image_at story from low (sequence_of newest) parts
  pub opened : AreOpen clock image_at story from low (sequence_of newest) parts (λ n. [])
  pub newest_is : story.point (sequence_of newest) ≡ newest
  pub stands : (k : ℕ) (found : Images) → low ≤ k → k ≤ sequence_of newest
      → StandsFor clock image_at story parts found k → StandsAsRead was found epoch state

-- what comes of a store and of cuts that were done
pub on_settled : {D T E G : Type 0} {clock : D → ℕ} {image_at : D → ℕ → List ℕ → Type 0} {story : Story}
    {from : Moments} {low high : ℕ} {numbers : List ℕ} {old new : Parts D} (r : Result T E)
    → MatchResult r (λ _. IsSettled clock image_at story from low high numbers old new)
    (λ _. IsLeft clock image_at story from low high new)
    → (IsSettled clock image_at story from low high numbers old new → G) → OnOk r G
on_settled (Ok x) done to = to done
on_settled (Err e) left to = tt

-- and of cuts alone
pub on_cut : {D T E G : Type 0} {clock : D → ℕ} {image_at : D → ℕ → List ℕ → Type 0} {story : Story}
    {from : Moments} {low high : ℕ} {numbers : List ℕ} {old new : Parts D} (r : Result T E)
    → MatchResult r (λ _. AreCut clock image_at story from low high numbers old new)
    (λ _. CutsLeave clock image_at story from low high old new)
    → (AreCut clock image_at story from low high numbers old new → G) → OnOk r G
on_cut (Ok x) done to = to done
on_cut (Err e) left to = tt

module _ {D : Type 0} {tells : D → Option (List ℕ)} {clock : D → ℕ} {image_at : D → ℕ → List ℕ → Type 0}
    (reads : (disk : D) (file : List ℕ) → tells disk ≡ Some file → image_at disk (clock disk) file) where
  -- the next savepoint was stored, and the log files were cut behind it
  pub stored_goes_on : {parts after : Parts D} {found : Images} {epoch : ℕ} {state : State} {from : Moments}
      (newest : Option Savepoint) (p q : Savepoint) → HasFiles parts → HasFiles after
      → ((n : ℕ) (bank : D) → after.banks n ≡ Some bank → Contains all_banks n)
      → (rest : IsResting clock image_at parts) → AreTold tells parts found → (is : IsRecoverable found epoch state)
      → newest ≡ rest.point → newest ≡ Some p → counting is.reading ≡ [] → SaysSame p q
      → q.sequence ≡ sequence_of newest + 1
      → IsSettled clock image_at (story_of newest q rest.pages rest.pages rest.counted) from (sequence_of newest)
      (sequence_of newest + 1) all_banks parts after
      → GoesOn clock image_at from is.reading epoch state (sequence_of newest) (Some q) after
  stored_goes_on {after = after} {from = from}
      newest p q files still listed rest told is named has none same number settled =
      let story = story_of newest q rest.pages rest.pages rest.counted in
      let low = sequence_of newest in
      record {
        story = story;
        told = subst (λ k. IsTold clock image_at story from low k after) (sym number) settled.told;
        opened = subst (λ k. AreOpen clock image_at story from low k after (λ n. [])) (sym number)
            (λ n bank there. settled.empty n bank (listed n bank there) there);
        newest_is = ap story.point number ∙ point_new newest q rest.pages rest.pages rest.counted;
        stands = λ k other at_least at_most stands.
            settled_recovers reads p q after files still rest told is (sym named ∙ has) none same
            (subst (λ x. FoundOldOrNew x q rest.pages rest.pages rest.counted after other) named
            (old_or_new newest q rest.pages rest.pages rest.counted k at_least (omega (arith, at_most, number))
            stands));
      }

  -- the log files were cut, and no store was due
  pub cut_goes_on : {parts after : Parts D} {found : Images} {epoch : ℕ} {state : State} {from : Moments}
      (newest : Option Savepoint) (p next : Savepoint) → HasFiles parts → HasFiles after
      → ((n : ℕ) (bank : D) → after.banks n ≡ Some bank → Contains all_banks n)
      → (rest : IsResting clock image_at parts) → AreTold tells parts found → (is : IsRecoverable found epoch state)
      → newest ≡ rest.point → newest ≡ Some p → counting is.reading ≡ [] → SaysSame p next
      → AreCut clock image_at (story_of newest next rest.pages rest.pages rest.counted) from (sequence_of newest)
      (sequence_of newest) all_banks parts after
      → GoesOn clock image_at from is.reading epoch state (sequence_of newest) newest after
  cut_goes_on {after = after} newest p next files still listed rest told is named has none same cut = record {
    story = story_of newest next rest.pages rest.pages rest.counted;
    told = cut.left.told;
    opened = λ n bank there. cut.empty n bank (listed n bank there) there;
    newest_is = point_old newest next rest.pages rest.pages rest.counted;
    stands = λ k other at_least at_most stands.
        settled_recovers reads p next after files still rest told is (sym named ∙ has) none same
        (subst (λ x. FoundOldOrNew x next rest.pages rest.pages rest.counted after other) named
        (old_or_new newest next rest.pages rest.pages rest.counted k at_least (omega (arith, at_most)) stands));
  }

-- Behind a settling nothing that counts is pending, where the save has one image.
pub rests_settled : {D : Type 0} {clock : D → ℕ} {image_at : D → ℕ → List ℕ → Type 0} {from : Moments} {was : Reading}
    {epoch low : ℕ} {state : State} {newest : Option Savepoint} {parts : Parts D}
    → GoesOn clock image_at from was epoch state low newest parts → (file : List ℕ)
    → image_at parts.save (clock parts.save) file → Only clock image_at parts.save file
    → IsResting clock image_at parts
rests_settled {epoch = epoch} {state = state} goes file image only = rests_by goes.told
    (λ n bank there k at_least at_most older. (open_ready (goes.opened n bank there) at_least at_most older).now)
    (λ k left at_least at_most stands. (epoch, state, (goes.stands k left at_least at_most stands).is)) file image only
