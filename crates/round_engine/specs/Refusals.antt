-- What the lines of a round were refused, as the code finds it.
use Rattle.std.specs.Prelude.{◌+◌, ◌||◌, ℕ, Bool, true, false, List, [], ◌∷◌, Option, Some, None, is_some}
use Rattle.std.specs.Prelude.{if◌then◌else◌}
use Rattle.std.specs.Option.{option_map}
use Rattle.outside.specs.declared.device.Device.{Device}
use Rattle.outside.specs.declared.device.Device.TheVariants as devices
use Rattle.worker_logs.specs.Saves.{growing_number}
use Rattle.worker_logs.specs.declared.savepoints.Side.{Side}
use Rattle.round_engine.specs.Ends.{earlier, first_of, limit_at}
use Rattle.round_engine.specs.declared.report.End.{End}
use Rattle.round_engine.specs.declared.report.End.TheVariants as ends
use Rattle.round_engine.specs.declared.report.LimitName.TheVariants.{Bank, Draw, Sequence}
use Rattle.round_engine.specs.declared.rounds.LineRefusals.{LineRefusals}
use Rattle.shared_rounds.specs.Below.{LogEnd}

-- the first growing log file that failed, of the workers from this one on
abbrev pub first_failed : Side → ℕ → List LogEnd → Option Device
first_failed side worker [] = None
first_failed side worker (end ∷ logs) =
    if end.failed then Some (devices.Bank (growing_number side worker)) else first_failed side (worker + 1) logs

-- the length of the first full log
abbrev pub first_full : List LogEnd → Option ℕ
first_full [] = None
first_full (end ∷ logs) = first_of end.full (first_full logs)

-- the one of two that is told first, if both failed
abbrev pub first_told : Option Device → Option Device → Option Device
first_told None other = other
first_told (Some device) other = Some (earlier device other)

-- what the maintenance thread's lines were refused by: a device that failed
abbrev pub device_in : Option End → Option Device
device_in (Some (ends.Device device)) = Some device
device_in _ = None

-- damage
abbrev pub damage_in : Option End → Option End
damage_in (Some (ends.Damaged device at)) = Some (ends.Damaged device at)
damage_in _ = None

-- want of memory
abbrev pub memory_in : Option End → Option End
memory_in (Some ends.Memory) = Some ends.Memory
memory_in _ = None

-- the device that lines were refused by
abbrev pub device_refused : Side → Option End → List LogEnd → Option Device
device_refused side refusal logs = first_told (device_in refusal) (first_failed side 0 logs)

-- what the lines were refused: devices first, then damage, limits and memory
abbrev pub lines_refused : LineRefusals → Option End
lines_refused r = first_of (option_map ends.Device r.device) (first_of (damage_in r.keeper)
    (first_of (option_map (limit_at Draw) r.draw) (first_of (option_map (limit_at Bank) r.full)
    (first_of (option_map (limit_at Sequence) r.sequence) (memory_in r.keeper)))))

-- the last sequence was met
abbrev pub is_sequence : End → Bool
is_sequence (ends.Limit Sequence number) = true
is_sequence _ = false

-- the refusal that is told, of the lines' and the join's
abbrev pub end_told : LineRefusals → Option End → Option End
end_told r None = lines_refused r
end_told r (Some joined) = if is_sequence joined then first_of (lines_refused r) (Some joined) else Some joined

-- the join is left out behind these
abbrev pub leaves_out : LineRefusals → Bool
leaves_out r = is_some r.device || is_some r.full || is_some r.keeper

-- a device failed
abbrev pub names_device : End → Bool
names_device (ends.Device device) = true
names_device _ = false
