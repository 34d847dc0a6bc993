-- What a settling leaves, told without a story.
use Rattle.std.proofs.Common.{◌≡◌, ◌≤◌, ◌+◌, inl, inr, ℕ, List, Option, ◌∙◌, ap, subst, arith}
use Rattle.std.specs.Prelude.{Result, Ok, Err, MatchResult}
use Rattle.std.proofs.lemmas.Bool.{cases_eq}
use Rattle.wire_form.specs.declared.savepoint.Savepoint.{Savepoint}
use Rattle.log_writer.specs.Points.{sequence_of}
use Rattle.log_writer.specs.Save.{Names}
use Rattle.lists.specs.Fronts.{IsFront}
use Rattle.joint_crashes.specs.Images.{Images}
use Rattle.joint_crashes.specs.JointCrash.{Parts, Moments, KeepsCrashes}
use Rattle.joint_crashes.specs.Story.{Story, StandsFor}
use Rattle.joint_crashes.specs.Settling.{IsLeft, IsSettled, story_of, FoundOldOrNew, IsSafe}
use Rattle.joint_crashes.specs.Crashes.Standing.{crash_stands}
use Rattle.joint_crashes.specs.Crashes.Rested.{point_old, point_new, pages_old, pages_new, counted_old}

module _ {D : Type 0} {clock : D → ℕ} {image_at : D → ℕ → List ℕ → Type 0} where
  -- whatever was answered
  pub left_of : {T E : Type 0} {story : Story} {from : Moments} {low high : ℕ}
      {new : Parts D} (numbers : List ℕ) (old : Parts D) (r : Result T E)
      → MatchResult r (λ _. IsSettled clock image_at story from low high numbers old new)
      (λ _. IsLeft clock image_at story from low high new) → IsLeft clock image_at story from low high new
  left_of {high = high} numbers old (Ok x) settled = record
      { high = high; within = omega arith; told = settled.told; instant = settled.instant }
  left_of numbers old (Err e) left = left

  -- what stands for one of the two savepoints of a settling is found by the old one or by the next
  pub old_or_new : {parts : Parts D} {found : Images} (newest : Option Savepoint) (next : Savepoint)
      (pages more : List ℕ) (counted : ℕ → List ℕ) (k : ℕ) → sequence_of newest ≤ k → k ≤ sequence_of newest + 1
      → StandsFor clock image_at (story_of newest next pages more counted) parts found k
      → FoundOldOrNew newest next pages more counted parts found
  old_or_new {found = found} newest next pages more counted k at_least at_most stands =
      let s = sequence_of newest in
      let story = story_of newest next pages more counted in
      elim (cases_eq k s) [
        | inl same ↦ inl (
          subst (λ x. Names found.save x) (ap story.point same ∙ point_old newest next pages more counted) stands.names,
          subst (λ l. IsFront l found.snaps) (ap story.pages same ∙ pages_old newest next pages more counted)
              stands.pages,
          λ n bank there. subst (λ l. IsFront l (found.bank n))
              (ap (λ j. story.counted j n) same ∙ counted_old newest next pages more counted n)
              (stands.counted n bank there),
        )
        | inr other ↦
            let last : k ≡ s + 1 = omega (arith, at_least, at_most, other) in
            inr (
              subst (λ x. Names found.save x) (ap story.point last ∙ point_new newest next pages more counted)
                  stands.names,
              subst (λ l. IsFront l found.snaps) (ap story.pages last ∙ pages_new newest next pages more counted)
                  stands.pages,
            )
      ]

  pub safe_of : {from : Moments} {old new : Parts D} (newest : Option Savepoint) (next : Savepoint)
      (pages more : List ℕ) (counted : ℕ → List ℕ)
      → KeepsCrashes clock image_at from old new
      → IsLeft clock image_at (story_of newest next pages more counted) from (sequence_of newest)
      (sequence_of newest + 1) new
      → IsSafe clock image_at from newest next pages more counted old new
  safe_of newest next pages more counted stays left = record {
    stays = stays;
    instant = left.instant;
    ended = left.told.save.ended_time;
    stops = λ at found since crash.
        let k = crash_stands left.told since crash in
        old_or_new newest next pages more counted k.0 k.1 (omega (arith, k.2, left.within)) k.3;
  }
