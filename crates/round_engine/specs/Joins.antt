-- What a join comes to: advance of the epoch, flush and mark of every worker's log, save, swap; the first of these that
-- is refused ends it, and the run.
use Rattle.std.specs.Prelude.{◌≡◌, ◌↔◌, ◌<◌, ◌≤◌, ◌||◌, ◌++◌, ℕ, false, List, [], Option, None, is_some, length}
use Rattle.std.specs.Prelude.{option_to_list, replicate}
use Rattle.std.specs.List.{Contains}
use Rattle.serial_model.specs.Numbers.{last_epoch}
use Rattle.outside.specs.declared.device.Device.{Device}
use Rattle.outside.specs.declared.device.Device.TheVariants.{Bank}
use Rattle.log_writer.specs.declared.vault.Vault.{Vault}
use Rattle.log_writer.specs.Points.{sequence_of}
use Rattle.tx_script.specs.Run.{Ran}
use Rattle.worker_logs.specs.Saves.{growing_number}
use Rattle.round_engine.specs.Crashes.{CarriesCrashes}
use Rattle.round_engine.specs.Ends.{durable_of, end_of, epoch_joined}
use Rattle.round_engine.specs.RanRound.{LeavesVault}
use Rattle.round_engine.specs.Standing.{files_of, RuntimeState, Standing}
use Rattle.round_engine.specs.declared.report.End.{End}

-- A join is told as a round without lines, in which these devices failed and this epoch was made durable.
abbrev pub without_lines : RuntimeState → List Device → Option ℕ → Ran
without_lines r failed durable = record {
  printed = record {
    begin = r.stands.clock;
    end = r.stands.clock;
    outcomes = [];
    asked = [];
    answers = [];
    durable = durable;
  };
  beside = record {
    sequence = sequence_of r.save.newest;
    pages = length r.store.pages;
    room = r.room;
    slots = r.stands.slots;
    files = files_of r;
    marks = replicate 8 [];
    logs = [];
    tries = 1;
    refused = [];
    readied = [];
    seen = [];
    gleans = [];
    drops = [];
    devices = failed;
    damaged = None;
  };
}

-- where the engine stands after it
abbrev pub stands_joined : Standing → Ran → Option End → Standing
stands_joined s ran end = record s {
  clock = record s.clock { epoch = epoch_joined ran };
  ended = s.ended || is_some end;
}

-- What a join comes to over the vault. It makes the clock's epoch durable, as it was before the advance, or it ends
-- the run; and the runtime is down just where a device failed.
pub record Joins {D : Type 0} (tells : D → Option (List ℕ)) (clock : D → ℕ) (image_at : D → ℕ → List ℕ → Type 0)
    (faults : D → ℕ) (old new : RuntimeState) (before now : Vault D) (durable : Option ℕ) (end : Option End)
    : Type 0 where
  pub failed : List Device
  pub end_is : end ≡ end_of (without_lines old failed durable)
  pub durable_is : durable ≡ durable_of (without_lines old failed durable)
  pub stands : new.stands ≡ stands_joined old.stands (without_lines old failed durable) end
  pub down : (new.down ≡ false) ↔ (failed ≡ [])
  pub leaves : LeavesVault tells clock image_at faults (without_lines old failed durable) (λ worker. []) old new
      before now
  pub crashes : CarriesCrashes tells clock image_at (λ worker. []) (leaves.stored ++ option_to_list leaves.failed)
      (without_lines old failed durable) old new before now
  -- What lies behind a step that was refused is left out: without an advance no device is called, and without each log
  -- flushed nothing is stored.
  pub not_advanced : last_epoch ≤ old.stands.clock.epoch
      → (now ≡ before) × (new.logs ≡ old.logs) × (new.save ≡ old.save)
  pub not_flushed : (worker : ℕ) → worker < 8 → Contains failed (Bank (growing_number old.side worker))
      → (now.save ≡ before.save) × (new.save ≡ old.save)
