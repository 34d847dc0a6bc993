-- What the saves of a round store.
use Rattle.std.specs.Prelude.{◌≡◌, ◌≤◌, ◌+◌, ◌++◌, ℕ, zero, suc, List, [], ◌∷◌, fold, length, replicate, take}
use Rattle.std.specs.Prelude.{Option, Some, option_to_list, slice_get}
use Rattle.std.specs.List.{AllByRecursion, Contains}
use Rattle.log_writer.specs.declared.records.Tie.{Tie}
use Rattle.wire_form.specs.declared.clock.Mark.{Mark}
use Rattle.wire_form.specs.declared.page.Page.{Page}
use Rattle.wire_form.specs.declared.savepoint.Savepoint.{Savepoint}
use Rattle.snapshot_store.specs.Store.{bytes_of_pages}
use Rattle.worker_logs.specs.Saves.{SavesBy}
use Rattle.worker_logs.specs.Shown.{Stood}
use Rattle.worker_logs.specs.declared.savepoints.Beside.{Beside}
use Rattle.log_writer.specs.Points.{point_of, sequence_of}
use Rattle.log_writer.specs.Records.{AddsTies}
use Rattle.log_writer.specs.declared.saved.Saved.{Saved}
use Rattle.joint_crashes.specs.Story.{Story}
use Rattle.tx_script.specs.declared.answer.Answer.{Answer}
use Rattle.tx_script.specs.declared.answer.Answer.TheVariants as answers

-- a mark of each worker, one of those that it had
pub record AreSeen (marks : ℕ → List Mark) (seen : List Mark) : Type 0 where
  pub workers : length seen ≡ 8
  pub each : (worker : ℕ) (mark : Mark) → slice_get seen worker ≡ Some mark → Contains (marks worker) mark

-- it is saved by marks that the workers had in the round, at an epoch of the clock from the first to the last of these
abbrev pub IsSavedBy : ℕ → ℕ → (ℕ → List Mark) → Beside → Saved → Type 0
IsSavedBy first last marks beside saved = (clock : ℕ) × (first ≤ clock) × (clock ≤ last) × (seen : List Mark)
    × AreSeen marks seen × SavesBy clock seen beside saved

-- it is saved by these marks, with this beside, at an epoch of the clock from the first to the last of these
pub record GoesBy (first last : ℕ) (beside : Beside) (marks : List Mark) (saved : Saved) : Type 0 where
  pub clock : ℕ
  pub from : first ≤ clock
  pub to : clock ≤ last
  pub saves : SavesBy clock marks beside saved

-- of each worker the mark that stands at this place among those that others were shown of it
pub record AreShownAt (shown : ℕ → List Stood) (places : List ℕ) (seen : List Mark) : Type 0 where
  pub workers : length seen ≡ 8
  pub each : (worker place : ℕ) → slice_get places worker ≡ Some place → (m : Stood)
      × (slice_get (shown worker) place ≡ Some m) × (slice_get seen worker ≡ Some m.mark)

-- ---- what counts beside the growing log files

-- Behind a new snapshot nothing of the closed log files counts any more, and its pages do.
abbrev pub beside_after : Beside → Answer → Beside
beside_after b (answers.Snap epoch new) = record b { closed = replicate 8 0; count = b.count + new }
beside_after b _ = b

-- and behind all answers
abbrev pub beside_at_end : Beside → List Answer → Beside
beside_at_end b said = fold beside_after b said

-- what counted beside as the save of this number was answered, or behind all answers where these tell no more saves
abbrev pub beside_at_save : Beside → List Answer → ℕ → Beside
beside_at_save b [] k = b
beside_at_save b (answers.Save epoch ∷ more) zero = b
beside_at_save b (answers.Save epoch ∷ more) (suc k) = beside_at_save b more k
beside_at_save b (answer ∷ more) k = beside_at_save (beside_after b answer) more k

-- The saves that these answers tell, each stored with what counted beside as it was answered.
abbrev pub AreSavedIn : (Beside → Saved → Type 0) → Beside → List Answer → List Saved → Type 0
AreSavedIn By b [] stored = stored ≡ []
AreSavedIn By b (answers.Save epoch ∷ more) stored = (saved : Saved) × (rest : List Saved)
    × (stored ≡ saved ∷ rest) × By b saved × AreSavedIn By b more rest
AreSavedIn By b (answer ∷ more) stored = AreSavedIn By (beside_after b answer) more stored

-- What was stored: by the lines as they were answered, and then what counted beside behind them all.
pub record AreSaved (By : Beside → Saved → Type 0) (b : Beside) (said : List Answer) (begun : List Saved)
    : Type 0 where
  pub lines : List Saved
  pub rest : List Saved
  pub all : begun ≡ lines ++ rest
  pub told : AreSavedIn By b said lines
  pub behind : AllByRecursion (By (beside_at_end b said)) rest

-- ---- one savepoint after another

-- the newest savepoint once these were stored, one after another
abbrev pub newest_after : Option Savepoint → List Saved → Option Savepoint
newest_after newest [] = newest
newest_after newest (saved ∷ more) = newest_after (Some (point_of (sequence_of newest + 1) saved)) more

-- the epochs that the answers tell as saved, in their order
abbrev pub saves_told : List Answer → List ℕ
saves_told [] = []
saves_told (answers.Save epoch ∷ more) = epoch ∷ saves_told more
saves_told (_ ∷ more) = saves_told more

-- each savepoint that was stored has a tie that says when its store had ended
abbrev pub HaveEnded : Option Savepoint → List Saved → List Tie → Type 0
HaveEnded newest stored ties = (k : ℕ) (saved : Saved) → slice_get stored k ≡ Some saved
    → (tie : Tie) × (end : ℕ) × Contains ties tie × (tie.sequence ≡ sequence_of newest + 1 + k)
    × (tie.ended ≡ Some end)

-- Ties were added, one for each store that was begun, of those that were done and of one that failed, if one did: their
-- sequences rise by one behind that of this savepoint.
abbrev pub AreTied : Option Savepoint → List Saved → Option Saved → List Tie → List Tie → Type 0
AreTied newest stored failed old new =
    AddsTies (sequence_of newest) (length (stored ++ option_to_list failed)) old new

-- the bytes of so many pages, for each number of them
abbrev pub ArePages : (ℕ → List ℕ) → List Page → Type 0
ArePages bytes pages = (n : ℕ) → n ≤ length pages → bytes n ≡ bytes_of_pages (take n pages)

-- A story goes on with what was stored after this savepoint, each over the bytes of as many pages as it counts.
pub record GoesOnWith (story : Story) (newest : Option Savepoint) (bytes : ℕ → List ℕ) (stored : List Saved)
    : Type 0 where
  pub point : (k : ℕ) (saved : Saved) → slice_get stored k ≡ Some saved
      → story.point (sequence_of newest + 1 + k) ≡ Some (point_of (sequence_of newest + 1 + k) saved)
  pub pages : (k : ℕ) (saved : Saved) → slice_get stored k ≡ Some saved
      → story.pages (sequence_of newest + 1 + k) ≡ bytes saved.count
