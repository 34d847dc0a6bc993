-- Marks of a log that others are shown, and since when every image of its log file has what they count.
use Rattle.std.specs.Prelude.{◌≡◌, ◌<◌, ◌≤◌, ◌++◌, ℕ, List, [], Contains, Option, take}
use Rattle.std.specs.List.{AllByRecursion}
use Rattle.outside.specs.Fronts.{AgreesOn, KeepsSince}
use Rattle.serial_model.specs.declared.number.Commit.{Commit}
use Rattle.wire_form.specs.declared.clock.Mark.{Mark}
use Rattle.worker_logs.specs.Logs.{IsPassed, LogRan, LogState}
use Rattle.worker_logs.specs.Rows.{LogTook}

-- A mark that others are shown, and the log file's clock as they were first.
pub record Stood : Type 0 where
  pub mark : Mark
  pub since : ℕ

module _ {D : Type 0} (clock : D → ℕ) (image_at : D → ℕ → List ℕ → Type 0) where
  -- The mark is one of those that the log had, and since its moment, which is none before the first, every image of the
  -- log file begins with what it counts of the durable bytes. Where its moment isn't the first one, no more was durable
  -- then: whatever all images of that moment begin with, what the mark counts begins with.
  pub record IsShownSince (durable : List ℕ) (first : ℕ) (bank : D) (marks : List Mark) (m : Stood) : Type 0 where
    pub among : Contains marks m.mark
    pub begun : first ≤ m.since
    pub come : m.since ≤ clock bank
    pub keeps : KeepsSince clock image_at bank m.since (take m.mark.length durable)
    pub pinned : first < m.since → AgreesOn (image_at bank m.since) (take m.mark.length durable)

module _ {D : Type 0} (tells : D → Option (List ℕ)) (clock : D → ℕ) (image_at : D → ℕ → List ℕ → Type 0) where
  -- How a log went on, with so many commits more and some marks, of which these were shown since this moment.
  pub record LogShown (low high : ℕ) (commits : List Commit) (was : List ℕ) (marks : List Mark) (shown : List Stood)
      (begun : ℕ) (first now : D) (log : LogState) : Type 0 where
    pub took : LogTook tells clock image_at low high commits was marks first now log
    pub later : begun ≤ clock now
    pub each : AllByRecursion (IsShownSince clock image_at took.durable begun now (marks ++ took.set)) shown

  -- Calls of a log at epochs of the clock from the first of these to the last, with these commits among them, and with
  -- these marks shown meanwhile: whatever it did since a moment goes on, where each mark that it had is of an epoch
  -- before the first, if there is a commit.
  abbrev pub LogShows : ℕ → ℕ → List Commit → List Stood → LogState → LogState → D → D → Type 0
  LogShows low high logged shown old new before now = (commits : List Commit) (was durable : List ℕ) (marks : List Mark)
      (first : D) → LogRan tells clock image_at commits was durable marks first before old
      → ((logged ≡ [] → ⊥) → AllByRecursion (IsPassed low) marks)
      → LogShown low high (commits ++ logged) was marks shown (clock before) first now new
