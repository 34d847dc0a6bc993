-- What must have happened for each outcome and each answer of a round. None comes without a cause.
use Rattle.std.specs.Prelude.{◌≡◌, ◌≢◌, ◌⊎◌, ◌<◌, ◌≤◌, ◌+◌, ◌-◌, ◌*◌, ◌/◌, ◌%◌, ◌^◌, ◌==◌, ◌&&◌, ◌||◌, ℕ, Bool}
use Rattle.std.specs.Prelude.{true, false, not}
use Rattle.std.specs.Prelude.{List, [], ◌∷◌, flat_map, fold, min, MatchBool, Option, Some, None}
use Rattle.std.specs.Prelude.{is_some, length, nat_lt, option_to_list, if◌then◌else◌, ⊤}
use Rattle.std.specs.List.{AllByRecursion, Contains, list_all, list_any}
use Rattle.serial_model.specs.Numbers.{last_epoch}
use Rattle.outside.specs.declared.device.Device.{Device}
use Rattle.outside.specs.declared.device.Device.TheVariants as devices
use Rattle.script_grammar.specs.declared.lines.KeeperLine.{KeeperLine}
use Rattle.script_grammar.specs.declared.lines.KeeperLine.TheVariants as asks
use Rattle.tx_script.specs.declared.answer.Answer.{Answer}
use Rattle.tx_script.specs.declared.answer.Answer.TheVariants as answers
use Rattle.tx_script.specs.declared.outcome.Outcome.{Outcome}
use Rattle.tx_script.specs.declared.outcome.Outcome.TheVariants.{Unrun}
use Rattle.tx_script.specs.Run.{AtRecord, AtSlot, InConflict, InLeaf, LogFiles, LogRefusal, LogFailed, LogFull}
use Rattle.tx_script.specs.Run.{NoNumber, NoRoom, NoSlot, OnWay, Ran, TryRefusal, Where}
use Rattle.tx_script.specs.Tries.{AllCome}

-- ---- logs

-- so long may a log file get, in bytes
abbrev pub log_limit : ℕ
log_limit = 2 ^ 40 - 1

-- the longest line of a log, in bytes
abbrev pub longest_line : ℕ
longest_line = 400

-- a worker's log file of odd number, or of even number
abbrev pub file_of : Bool → ℕ → Device
file_of odd worker = devices.Bank (if odd then 2 * worker + 1 else 2 * worker)

-- the log file that this worker's lines go to
abbrev pub log_of : LogFiles → ℕ → Device
log_of files worker = file_of files.odd worker

-- its closed one
abbrev pub closed_of : LogFiles → ℕ → Device
closed_of files worker = file_of (not files.odd) worker

-- What refused the logs of the workers from this one on: a log file that failed is one of the devices that did, and
-- one that is full might get longer than it may with one line more.
abbrev pub LogsCaused : LogFiles → List Device → ℕ → List (Option LogRefusal) → Type 0
LogsCaused files failed worker [] = ⊤
LogsCaused files failed worker (None ∷ logs) = LogsCaused files failed (worker + 1) logs
LogsCaused files failed worker (Some LogFailed ∷ logs) = Contains failed (log_of files worker)
    × LogsCaused files failed (worker + 1) logs
LogsCaused files failed worker (Some (LogFull size) ∷ logs) = (log_limit < size + longest_line)
    × LogsCaused files failed (worker + 1) logs

-- ---- workers' lines

-- the line was not run
abbrev pub is_unrun : Outcome → Bool
is_unrun Unrun = true
is_unrun _ = false

-- behind a line that was not run none was
abbrev pub UnrunLast : List Outcome → Type 0
UnrunLast [] = ⊤
UnrunLast (outcome ∷ outcomes) = MatchBool (is_unrun outcome) (AllByRecursion (λ o. is_unrun o ≡ true) outcomes)
    (UnrunLast outcomes)

-- A slot may be given where nobody holds it, it is free or retired, and it was given fewer than 2^46 - 1 times. Its
-- word has the holders in the lowest 16 bits, its state in the two above them, 0 free and 3 retired, and how often it
-- was given above those.
abbrev pub is_usable : ℕ → Bool
is_usable word =
    ((word % 2 ^ 18 == 0) || (word % 2 ^ 18 == 3 * 2 ^ 16)) && nat_lt (word / 2 ^ 18) (2 ^ 46 - 1)

-- A word is one of a conflict: that of an array's record is locked, or is none that another lock hides and not the
-- expected one; that of a pointer is shut, or isn't the expected one; one in a leaf of a tree has the bit of a lock, or
-- isn't the expected one: an absent record has a bit above it, and so has the header of a leaf that was split; and that
-- of a slot isn't the expected one.
abbrev pub IsOfConflict : Where → ℕ → ℕ → Type 0
IsOfConflict (AtRecord k) expected seen = (2 ^ 60 ≤ seen) ⊎ ((expected < 2 ^ 60) × (seen ≢ expected))
IsOfConflict (OnWay k) expected seen = (2 ^ 60 ≤ seen) ⊎ (seen ≢ expected)
IsOfConflict (InLeaf k) expected seen = ((seen / 2 ^ 60) % 2 ≡ 1) ⊎ (seen ≢ expected)
IsOfConflict AtSlot expected seen = seen ≢ expected

-- The cause of a refusal, where there are so many slots: a word that was changed or is locked; or no slot is usable, by
-- the words of all of them, as the try's steps saw them. Who may have changed a word, and which lines may fill a set,
-- is said with what they met: `Conflicts.antt`. What the clock's word comes to is said with the line: `Tries.antt`.
abbrev pub IsTryCause : ℕ → TryRefusal → Type 0
IsTryCause slots (InConflict met) = IsOfConflict met.at met.expected met.seen
IsTryCause slots (NoSlot words) = (length words ≡ slots) × (list_all (λ word. not (is_usable word)) words ≡ true)
IsTryCause slots (NoRoom set) = ⊤
IsTryCause slots (NoNumber clock) = ⊤

-- Each worker's outcomes have their causes, by the refusals of its lines' tries and by what refused its log: `ComesTo`.
abbrev pub WorkersCaused : Ran → List (Option LogRefusal) → List (List Outcome) → List (List (List TryRefusal))
    → Type 0
WorkersCaused ran [] [] [] = ⊤
WorkersCaused ran (log ∷ logs) (outcomes ∷ more) (refused ∷ others) =
    AllCome ran.printed.begin.draw ran.printed.end.draw ran.beside.tries log outcomes refused × UnrunLast outcomes
    × WorkersCaused ran logs more others
WorkersCaused ran _ _ _ = ⊥

-- ---- the maintenance thread

-- the last sequence of a savepoint
abbrev pub last_sequence : ℕ
last_sequence = 2 ^ 63 - 1

-- Where the maintenance thread stands between two of its lines: the clock's epoch, the newest savepoint's sequence,
-- how many pages of snapshots there are, whether bytes of the closed log files count, and whether an answer of the
-- round was a refusal after which no line is run.
pub record KeeperAt : Type 0 where
  pub epoch : ℕ
  pub sequence : ℕ
  pub pages : ℕ
  pub counted : Bool
  pub refused : Bool

-- where it stands after an answer
abbrev pub keeper_after : KeeperAt → Answer → KeeperAt
keeper_after k (answers.Epoch epoch) = record k { epoch = epoch }
keeper_after k (answers.Save epoch) = record k { sequence = k.sequence + 1 }
keeper_after k (answers.Snap epoch new) = record k { pages = k.pages + new; counted = false }
keeper_after k answers.Device = record k { refused = true }
keeper_after k answers.Damaged = record k { refused = true }
keeper_after k answers.Memory = record k { refused = true }
keeper_after k _ = k

-- some byte is counted
abbrev pub some_counted : List ℕ → Bool
some_counted counted = list_any (λ n. nat_lt 0 n) counted

-- where it stands as a round begins
abbrev pub keeper_before : Ran → KeeperAt
keeper_before ran = record {
  epoch = ran.printed.begin.epoch;
  sequence = ran.beside.sequence;
  pages = ran.beside.pages;
  counted = some_counted ran.beside.files.counted;
  refused = false;
}

-- where it stands after the round's lines
abbrev pub keeper_at_end : Ran → KeeperAt
keeper_at_end ran = fold keeper_after (keeper_before ran) ran.printed.answers

-- The saved epoch: the least of the clock's epoch less 1 and of the epochs of the marks that aren't idle.
abbrev pub saved_epoch : ℕ → List (Option ℕ) → ℕ
saved_epoch epoch marks = fold min (epoch - 1) (flat_map option_to_list marks)

-- of each worker one of its marks
abbrev pub AreMarksOf : List (List (Option ℕ)) → List (Option ℕ) → Type 0
AreMarksOf [] [] = ⊤
AreMarksOf (mine ∷ marks) (mark ∷ seen) = Contains mine mark × AreMarksOf marks seen
AreMarksOf [] (mark ∷ seen) = ⊥
AreMarksOf (mine ∷ marks) [] = ⊥

-- A device that a snapshot is made over failed: that of the snapshots, or a closed log file.
abbrev pub IsGleanDevice : Ran → Device → Type 0
IsGleanDevice ran devices.Save = ⊥
IsGleanDevice ran devices.Snaps = ⊤
IsGleanDevice ran (devices.Bank number) =
    (worker : ℕ) × (worker < 8) × (devices.Bank number ≡ closed_of ran.beside.files worker)

-- The cause of an answer to a line that is run, as the maintenance thread stands before it. A save names the saved
-- epoch by the marks that it saw. A snapshot is one of the epoch at which the closed log files were closed, and is made
-- where bytes of them count, no page of it stands too deep, and its new pages are let in beside those that there are.
-- What a drop answers is what it counted: `CausedBeside.antt`.
abbrev pub IsAnswerTo : Ran → KeeperAt → KeeperLine → Answer → Type 0
IsAnswerTo ran k asks.Epoch (answers.Epoch epoch) = (k.epoch < last_epoch) × (epoch ≡ k.epoch + 1)
IsAnswerTo ran k asks.Epoch answers.Limit = k.epoch ≡ last_epoch
IsAnswerTo ran k asks.Save (answers.Save epoch) = (k.sequence < last_sequence) × (seen : List (Option ℕ))
    × AreMarksOf ran.beside.marks seen × (epoch ≡ saved_epoch k.epoch seen)
IsAnswerTo ran k asks.Save answers.Limit = k.sequence ≡ last_sequence
IsAnswerTo ran k asks.Save answers.Device = (k.sequence < last_sequence) × Contains ran.beside.devices devices.Save
IsAnswerTo ran k asks.Glean answers.Empty = k.counted ≡ false
IsAnswerTo ran k asks.Glean (answers.Snap epoch new) = (k.counted ≡ true) × (epoch ≡ ran.beside.files.closed_at)
    × Contains ran.beside.gleans (Some new) × (k.pages + new ≤ ran.beside.room)
IsAnswerTo ran k asks.Glean answers.SnapFull = (k.counted ≡ true) × (new : ℕ) × Contains ran.beside.gleans (Some new)
    × (ran.beside.room < k.pages + new)
IsAnswerTo ran k asks.Glean answers.Deep = (k.counted ≡ true) × Contains ran.beside.gleans None
IsAnswerTo ran k asks.Glean answers.Device = (k.counted ≡ true) × (device : Device) × Contains ran.beside.devices device
    × IsGleanDevice ran device
IsAnswerTo ran k asks.Glean answers.Damaged = (k.counted ≡ true) × (worker : ℕ) × (worker < 8) × (at : ℕ)
    × (ran.beside.damaged ≡ Some (closed_of ran.beside.files worker, at))
IsAnswerTo ran k asks.Glean answers.Memory = k.counted ≡ true
IsAnswerTo ran k asks.Drop (answers.Drop dropped kept) = ⊤
IsAnswerTo ran k line answer = ⊥

-- The cause of an answer: after a refusal that no line is run.
abbrev pub AnswerCause : Ran → KeeperAt → KeeperLine → Answer → Type 0
AnswerCause ran k line answer = MatchBool k.refused (answer ≡ answers.Unrun) (IsAnswerTo ran k line answer)

-- each answer has its cause, by what the line asked for and the answers before it
abbrev pub AnswersCaused : Ran → KeeperAt → List KeeperLine → List Answer → Type 0
AnswersCaused ran k [] [] = ⊤
AnswersCaused ran k (line ∷ lines) (answer ∷ more) = AnswerCause ran k line answer
    × AnswersCaused ran (keeper_after k answer) lines more
AnswersCaused ran k [] (answer ∷ more) = ⊥
AnswersCaused ran k (line ∷ lines) [] = ⊥

-- ---- a round

-- each outcome, each answer and each refusal of a log has its cause
pub record AllCaused (ran : Ran) : Type 0 where
  pub logs : LogsCaused ran.beside.files ran.beside.devices 0 ran.beside.logs
  pub outcomes : WorkersCaused ran ran.beside.logs ran.printed.outcomes ran.beside.refused
  pub tries : AllByRecursion (AllByRecursion (AllByRecursion (IsTryCause ran.beside.slots))) ran.beside.refused
  pub answers : AnswersCaused ran (keeper_before ran) ran.printed.asked ran.printed.answers

-- The steps of the join are left out: a log was refused in the round, or a keeper line in a way after which none is
-- run.
abbrev pub leaves_join_out : Ran → Bool
leaves_join_out ran = list_any is_some ran.beside.logs || (keeper_at_end ran).refused
