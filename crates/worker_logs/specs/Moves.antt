-- What a call of a worker's log does that adds no commit, and why it is refused.
use Rattle.std.specs.Prelude.{◌≡◌, ◌≢◌, ◌↔◌, ◌⊎◌, ◌≤◌, ℕ, List, [], Option, Some, None, Result, Ok, Err}
use Rattle.outside.specs.Faults.{Rose}
use Rattle.log_writer.specs.Journal.{Reaches, end_of}
use Rattle.log_writer.specs.declared.journal.LogFault.{LogFault}
use Rattle.log_writer.specs.declared.journal.LogFault.TheVariants.{Device, Down}
use Rattle.worker_logs.specs.Logs.{LogState, LogGoesOn}

-- what a call was refused for, if it was
abbrev pub refusal : {T : Type 0} → Result T LogFault → Option LogFault
refusal (Ok done) = None
refusal (Err fault) = Some fault

-- A call of a log that adds no commit, and sets no mark but of this epoch, which counts all that is durable then, as no
-- line waits.
-- Whatever it answers, its log file only grew, and nothing is lost of what waited. `Device` only where the log file's
-- count of faults rose, and then the log is down; `Down` exactly where it was down. Else the count stands still.
pub record MovesLog {D : Type 0} (tells : D → Option (List ℕ)) (clock : D → ℕ) (image_at : D → ℕ → List ℕ → Type 0)
    (faults : D → ℕ) (epoch : ℕ) (old new : LogState) (before now : D) (fault : Option LogFault) : Type 0 where
  pub reaches : Reaches tells now new.journal
  pub runs : LogGoesOn tells clock image_at epoch old new before now
  pub end : end_of new.journal ≡ end_of old.journal
  pub limit : new.journal.limit ≡ old.journal.limit
  pub mark : (new.mark ≡ old.mark) ⊎ (new.mark.epoch ≡ Some epoch)
  pub counts : (new.mark ≡ old.mark) ⊎ (new.mark.length ≡ new.journal.durable)
  pub flushed : (new.mark ≡ old.mark) ⊎ (new.journal.lines ≡ [])
  pub later : faults before ≤ faults now
  pub quiet : fault ≢ Some Device → faults now ≡ faults before
  pub device : fault ≡ Some Device → Rose (faults before) (faults now)
  pub goes_down : fault ≡ Some Device → new.journal.down ≡ Some (faults now)
  pub down : (count : ℕ) → (fault ≡ Some (Down count)) ↔ (old.journal.down ≡ Some count)
  pub stays_up : fault ≢ Some Device → new.journal.down ≡ old.journal.down
