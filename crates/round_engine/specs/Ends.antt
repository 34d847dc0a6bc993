-- Which refusal ends a run after a round: devices first, then damage, limits in the order of their names, and memory.
use Rattle.std.specs.Prelude.{◌+◌, ◌%◌, ◌==◌, ◌&&◌, ◌||◌, ℕ, Bool, true, false, not, List, []}
use Rattle.std.specs.Prelude.{◌∷◌, nat_le, nat_lt, if◌then◌else◌, is_some, Option, Some, None}
use Rattle.std.specs.Option.{option_map}
use Rattle.std.specs.List.{list_any}
use Rattle.serial_model.specs.Numbers.{last_epoch}
use Rattle.outside.specs.declared.device.Device.{Device}
use Rattle.outside.specs.declared.device.Device.TheVariants as devices
use Rattle.script_grammar.specs.declared.lines.KeeperLine.{KeeperLine}
use Rattle.script_grammar.specs.declared.lines.KeeperLine.TheVariants as asks
use Rattle.tx_script.specs.declared.answer.Answer.{Answer}
use Rattle.tx_script.specs.declared.answer.Answer.TheVariants as answers
use Rattle.tx_script.specs.Run.{LogFiles, LogRefusal, LogFailed, LogFull, Ran, is_limit}
use Rattle.tx_script.specs.Causes.{keeper_at_end, last_sequence, leaves_join_out}
use Rattle.round_engine.specs.declared.report.End.{End}
use Rattle.round_engine.specs.declared.report.End.TheVariants as ends
use Rattle.round_engine.specs.declared.report.LimitName.{LimitName}
use Rattle.round_engine.specs.declared.report.LimitName.TheVariants.{Epoch, Draw, Bank, Sequence}

-- ---- the first of several

-- the first thing, or else the second
abbrev pub first_of : {X : Type 0} → Option X → Option X → Option X
first_of (Some x) later = Some x
first_of None later = later

-- a thing where the test holds
abbrev pub where_true : {X : Type 0} → Bool → X → Option X
where_true b x = if b then Some x else None

-- devices in the order in which their faults are told
abbrev pub device_place : Device → ℕ
device_place devices.Save = 0
device_place devices.Snaps = 1
device_place (devices.Bank number) = number + 2

-- the earlier of a device and another, if there is one
abbrev pub earlier : Device → Option Device → Device
earlier device None = device
earlier device (Some other) = if nat_le (device_place device) (device_place other) then device else other

-- the first of some devices
abbrev pub first_device : List Device → Option Device
first_device [] = None
first_device (device ∷ more) = Some (earlier device (first_device more))

-- ---- the refusals of a round

-- a device failed
abbrev pub device_end : List Device → Option End
device_end failed = option_map ends.Device (first_device failed)

-- a closed log file isn't in its format from a byte on
abbrev pub damaged_end : Ran → Option End
damaged_end ran = option_map (λ (d : Device × ℕ). ends.Damaged d.0 d.1) ran.beside.damaged

-- the length of the first log that is full
abbrev pub full_length : List (Option LogRefusal) → Option ℕ
full_length [] = None
full_length (Some (LogFull size) ∷ logs) = Some size
full_length (Some LogFailed ∷ logs) = full_length logs
full_length (None ∷ logs) = full_length logs

-- a limit of this name
abbrev pub limit_at : LimitName → ℕ → End
limit_at name number = ends.Limit name number

-- the join comes to its advance
abbrev pub comes_to_advance : Ran → Bool
comes_to_advance ran = not (leaves_join_out ran)

-- and to its save
abbrev pub comes_to_save : Ran → Bool
comes_to_save ran = comes_to_advance ran && nat_lt ran.printed.end.epoch last_epoch

-- a line that asked for a save met the last sequence
abbrev pub save_limited : List KeeperLine → List Answer → Bool
save_limited (asks.Save ∷ lines) (answers.Limit ∷ more) = true
save_limited (line ∷ lines) (answer ∷ more) = save_limited lines more
save_limited _ _ = false

-- the epoch can't be advanced by the join: it is the last one
abbrev pub epoch_end : Ran → Option End
epoch_end ran = where_true (comes_to_advance ran && not (nat_lt ran.printed.end.epoch last_epoch))
    (limit_at Epoch ran.printed.end.epoch)

-- a line was refused a number
abbrev pub draw_end : Ran → Option End
draw_end ran = where_true (list_any (list_any is_limit) ran.printed.outcomes) (limit_at Draw ran.printed.end.draw)

-- a log is full
abbrev pub bank_end : Ran → Option End
bank_end ran = option_map (limit_at Bank) (full_length ran.beside.logs)

-- a save met the last sequence, a line's or the join's
abbrev pub sequence_end : Ran → Option End
sequence_end ran = where_true
    (save_limited ran.printed.asked ran.printed.answers
    || (comes_to_save ran && ((keeper_at_end ran).sequence == last_sequence)))
    (limit_at Sequence (keeper_at_end ran).sequence)

-- a line that asked for a snapshot wanted memory
abbrev pub wants_memory : Answer → Bool
wants_memory answers.Memory = true
wants_memory _ = false

-- memory was wanted
abbrev pub memory_end : Ran → Option End
memory_end ran = where_true (list_any wants_memory ran.printed.answers) ends.Memory

-- The refusal that ends the run after a round, if one does.
abbrev pub end_of : Ran → Option End
end_of ran = first_of (device_end ran.beside.devices) (first_of (damaged_end ran) (first_of (epoch_end ran)
    (first_of (draw_end ran) (first_of (bank_end ran) (first_of (sequence_end ran) (memory_end ran))))))

-- ---- the join

-- the epoch after an advance, which the last epoch refuses
abbrev pub epoch_after : ℕ → ℕ
epoch_after epoch = if nat_lt epoch last_epoch then epoch + 1 else epoch

-- the epoch after the join
abbrev pub epoch_joined : Ran → ℕ
epoch_joined ran = if comes_to_advance ran then epoch_after ran.printed.end.epoch else ran.printed.end.epoch

-- a savepoint has a next one, as the round's lines leave it
abbrev pub has_sequence : Ran → Bool
has_sequence ran = nat_lt (keeper_at_end ran).sequence last_sequence

-- a closed log file
abbrev pub is_closed : LogFiles → Device → Bool
is_closed files devices.Save = false
is_closed files devices.Snaps = false
is_closed files (devices.Bank number) = number % 2 == (if files.odd then 0 else 1)

-- one that failed
abbrev pub closed_failed : Ran → Bool
closed_failed ran = list_any (is_closed ran.beside.files) ran.beside.devices

-- and another device that did
abbrev pub other_failed : Ran → Bool
other_failed ran = list_any (λ device. not (is_closed ran.beside.files device)) ran.beside.devices

-- What the join makes durable: the round's last epoch, exactly where it comes to its save, no device failed, and the
-- savepoint is not the last. A closed log file that fails behind the save takes nothing back.
abbrev pub durable_of : Ran → Option ℕ
durable_of ran = where_true (comes_to_save ran && (has_sequence ran && not (other_failed ran))) ran.printed.end.epoch

-- ---- the swap

-- The join comes to its swap: it has saved, and nothing of the closed log files counts.
abbrev pub comes_to_swap : Ran → Bool
comes_to_swap ran = is_some ran.printed.durable && not (keeper_at_end ran).counted

-- And it is done: the log files that were closed grow, and those that grew are closed.
abbrev pub swaps : Ran → Bool
swaps ran = comes_to_swap ran && not (closed_failed ran)
