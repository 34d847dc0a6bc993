-- What the maintenance thread's lines and the join do.
use Rattle.std.specs.Prelude.{◌≡◌, ◌<◌, ◌≤◌, ◌+◌, ◌++◌, ℕ, Bool, true, false, List, [], ◌∷◌, fold, length}
use Rattle.std.specs.Prelude.{map, Option, Some, None, is_some, option_to_list, slice_get, ⊤}
use Rattle.std.specs.Prelude.{Result, Ok, Err}
use Rattle.std.specs.List.{AllByRecursion, Contains, list_any}
use Rattle.lists.specs.declared.memory.OrMemory.{OrMemory}
use Rattle.lists.specs.declared.memory.OrMemory.TheVariants as or
use Rattle.outside.specs.Faults.{Rose}
use Rattle.outside.specs.declared.device.Device.{Device as TheDevice}
use Rattle.outside.specs.declared.device.Device.TheVariants as devices
use Rattle.log_writer.specs.declared.records.Tie.{Tie}
use Rattle.log_writer.specs.declared.vault.Vault.{Vault}
use Rattle.serial_model.specs.Numbers.{last_epoch}
use Rattle.script_grammar.specs.declared.lines.KeeperLine.{KeeperLine}
use Rattle.script_grammar.specs.declared.lines.KeeperLine.TheVariants as asks
use Rattle.wire_form.specs.declared.clock.Mark.{Mark}
use Rattle.wire_form.specs.declared.page.Page.{Page}
use Rattle.log_writer.specs.Counted.{AlwaysTells}
use Rattle.log_writer.specs.Journal.{Reaches, end_of}
use Rattle.log_writer.specs.Points.{sequence_of}
use Rattle.log_writer.specs.Save.{IsStored}
use Rattle.log_writer.specs.declared.save.SaveFault.{SaveFault}
use Rattle.log_writer.specs.declared.save.SaveFault.TheVariants.{Device, Down, Limit}
use Rattle.log_writer.specs.declared.saved.Saved.{Saved}
use Rattle.gleaner.specs.declared.gleaning.GleanFault.{GleanFault}
use Rattle.gleaner.specs.declared.gleaning.GleanFault.TheVariants as glean_faults
use Rattle.gleaner.specs.declared.gleaning.Gleaned.{Gleaned}
use Rattle.gleaner.specs.declared.gleaning.Gleaned.TheVariants.{Empty, Snap}
use Rattle.joint_crashes.specs.Images.{epoch_of}
use Rattle.engine_pages.specs.declared.view.Dropped.{Dropped as Counts}
use Rattle.tx_script.specs.Run.{AdvancesTo, Ran}
use Rattle.tx_script.specs.Causes.{AnswersCaused, AreMarksOf, KeeperAt, keeper_after, last_sequence, some_counted}
use Rattle.tx_script.specs.CausedBeside.{SavesSee, drops_told}
use Rattle.tx_script.specs.Seen.{AreAt, AreNoLess}
use Rattle.tx_script.specs.declared.answer.Answer.{Answer}
use Rattle.tx_script.specs.declared.answer.Answer.TheVariants as answers
use Rattle.worker_logs.specs.Logs.{IsJoined, LogGoesOn, LogState}
use Rattle.worker_logs.specs.Saves.{SavesBy, SavesMarks, growing_number, logs_marks, saved_epoch}
use Rattle.worker_logs.specs.declared.savepoints.Beside.{Beside}
use Rattle.worker_logs.specs.Rows.{Blames, KeepsMark, NeverFall}
use Rattle.round_engine.specs.Drops.{counts_of}
use Rattle.round_engine.specs.Ends.{epoch_after, first_device, wants_memory, where_true}
use Rattle.round_engine.specs.Gleans.{Gleans, LeaveGleans, RoundGleans}
use Rattle.round_engine.specs.RanRound.{KeeperStored}
use Rattle.round_engine.specs.Saves.{AreSavedIn, AreTied, beside_at_end, beside_at_save, GoesBy, HaveEnded, newest_after}
use Rattle.round_engine.specs.Saves.{saves_told}
use Rattle.round_engine.specs.Sides.{closed_in, growing_in, is_odd}
use Rattle.round_engine.specs.Standing.{AreClosed, beside_of, HasSnapshot, LogsStand, RuntimeState}
use Rattle.round_engine.specs.declared.report.End.{End}
use Rattle.round_engine.specs.declared.report.End.TheVariants as ends
use Rattle.round_engine.specs.declared.report.LimitName.TheVariants.{Epoch, Sequence}

-- it is saved at such an epoch of the clock by such marks
abbrev pub IsSavedBySeen : (ℕ → List Mark → Type 0) → Beside → Saved → Type 0
IsSavedBySeen Seen beside saved = (clock : ℕ) × (seen : List Mark) × Seen clock seen × SavesBy clock seen beside saved

-- The save, the snapshots and the ties since a moment: these savepoints were stored, one after another, and the store
-- of one more failed, if it did.
pub record KeepsSaves {D : Type 0} (tells : D → Option (List ℕ)) (clock : D → ℕ) (image_at : D → ℕ → List ℕ → Type 0)
    (faults : D → ℕ) (stored : List Saved) (failed : Option Saved) (old new : RuntimeState) (before now : Vault D)
    : Type 0 where
  pub newest : new.save.newest ≡ newest_after old.save.newest stored
  pub down : is_some new.save.down ≡ is_some failed
  pub stands : new.save.down ≡ None → IsStored tells clock image_at now.save new.save.newest
  pub told : is_some (tells now.save) ≡ is_some (tells before.save)
  pub snaps_told : is_some (tells now.snaps) ≡ is_some (tells before.snaps)
  pub later : faults before.save ≤ faults now.save
  pub quiet : failed ≡ None → faults now.save ≡ faults before.save
  pub rose : is_some failed ≡ true → Rose (faults before.save) (faults now.save)
  pub ties_are : AreTied old.save.newest stored failed before.ties.items now.ties.items
  pub ended : HaveEnded old.save.newest stored now.ties.items
  pub ties_stay : (tie : Tie) → Contains before.ties.items tie → Contains now.ties.items tie
  pub grows : (more : List Page) × (new.store.pages ≡ old.store.pages ++ more)
  pub counts : AllByRecursion (λ (s : Saved). s.count ≤ length new.store.pages) (stored ++ option_to_list failed)
  pub keeper : KeeperStored tells clock image_at (stored ++ option_to_list failed) old.save.newest old.store new.store
      before now

-- where the maintenance thread stands on a runtime between two of its lines
abbrev pub keeper_on : RuntimeState → Bool → KeeperAt
keeper_on r refused = record {
  epoch = r.stands.clock.epoch;
  sequence = sequence_of r.save.newest;
  pages = length r.store.pages;
  counted = some_counted r.counted;
  refused = refused;
}

-- where it stands after answers
abbrev pub answers_end : KeeperAt → List Answer → KeeperAt
answers_end k said = fold keeper_after k said

-- the marks of the logs, and no others, at an epoch of the clock from the first to the last of these
abbrev pub MarksOf : RuntimeState → ℕ → ℕ → ℕ → List Mark → Type 0
MarksOf r first last clock seen = (first ≤ clock) × (clock ≤ last) × (seen ≡ logs_marks r.logs)

-- ---- what saves see

-- one of the marks that saves saw, at an epoch of the clock from the first to the last of these
abbrev pub SeenAmong : List (List Mark) → ℕ → ℕ → ℕ → List Mark → Type 0
SeenAmong all first last clock seen = (first ≤ clock) × (clock ≤ last) × Contains all seen

-- the epochs of marks
abbrev pub epochs_in : List Mark → List (Option ℕ)
epochs_in marks = map (λ (m : Mark). m.epoch) marks

-- the epoch that is saved by these marks
abbrev pub epoch_by : ℕ → List Mark → ℕ
epoch_by clock marks = saved_epoch clock (epochs_in marks)

-- Marks that were seen one after another, from these on: none holds an epoch back that one of the same worker before it
-- had left.
abbrev pub GoOn : List Mark → List (List Mark) → Type 0
GoOn from [] = ⊤
GoOn from (seen ∷ more) = AreNoLess (epochs_in from) (epochs_in seen) × GoOn seen more

-- the last of them
abbrev pub last_seen : List Mark → List (List Mark) → List Mark
last_seen from [] = from
last_seen from (seen ∷ more) = last_seen seen more

-- what a line sees of the marks that stand as it is run
abbrev pub seen_by : KeeperLine → List Mark → List (List Mark)
seen_by asks.Save marks = marks ∷ []
seen_by line marks = []

-- it isn't run behind a refusal
abbrev pub seen_unless : Option End → KeeperLine → List Mark → List (List Mark)
seen_unless (Some end) line marks = []
seen_unless None line marks = seen_by line marks

-- the last of some epochs, or else the one before them
abbrev pub last_epoch_of : ℕ → List ℕ → ℕ
last_epoch_of low [] = low
last_epoch_of low (n ∷ more) = last_epoch_of n more

-- an answer behind which no line is run
abbrev pub is_refusal : Answer → Bool
is_refusal answers.Device = true
is_refusal answers.Damaged = true
is_refusal answers.Memory = true
is_refusal _ = false

-- what a save refuses that is answered so
abbrev pub save_refusal : Answer → Option End
save_refusal answers.Device = Some (ends.Device devices.Save)
save_refusal _ = None

-- and a glean
abbrev pub glean_refusal : Result Gleaned (OrMemory GleanFault) → Option End
glean_refusal (Err (or.Fault (glean_faults.Device device))) = Some (ends.Device device)
glean_refusal (Err (or.Fault (glean_faults.Damaged device at))) = Some (ends.Damaged device at)
glean_refusal (Err or.Memory) = Some ends.Memory
glean_refusal _ = None

-- or a closed log file that failed beside what is told: a device is named before damage and want of memory
abbrev pub refusal_beside : Option TheDevice → Option End → Option End
refusal_beside None refusal = refusal
refusal_beside (Some device) (Some (ends.Device told)) = Some (ends.Device told)
refusal_beside (Some device) refusal = Some (ends.Device device)

-- The first refusal behind which none of its lines was run: a store that failed, the first device that failed in a
-- glean, damage, or want of memory.
abbrev pub refusal_told : Option Saved → Option TheDevice → Option (TheDevice × ℕ) → List Answer → Option End
refusal_told (Some saved) broken damaged said = Some (ends.Device devices.Save)
refusal_told None (Some device) damaged said = Some (ends.Device device)
refusal_told None None (Some damage) said = Some (ends.Damaged damage.0 damage.1)
refusal_told None None None said = where_true (list_any wants_memory said) ends.Memory

-- What the causes of the answers rest on, of what was run: the marks, the log files, the pages that were let in and the
-- slots at its begin, what was found by gleans, and the devices that failed.
pub record RestsOn (r : RuntimeState) (seen : List (List Mark)) (gleans : List (Option ℕ)) (failed : Option Saved)
    (broken : List TheDevice) (damaged : Option (TheDevice × ℕ)) (ran : Ran) : Type 0 where
  pub marks : AllByRecursion (λ (marks : List Mark). AreMarksOf ran.beside.marks (epochs_in marks)) seen
  pub odd : ran.beside.files.odd ≡ is_odd r.side
  pub closed_at : ran.beside.files.closed_at ≡ r.closed_at
  pub room : ran.beside.room ≡ r.room
  pub gleans_are : (what : Option ℕ) → Contains gleans what → Contains ran.beside.gleans what
  pub damage : (damage : TheDevice × ℕ) → damaged ≡ Some damage → ran.beside.damaged ≡ Some damage
  pub store : is_some failed ≡ true → Contains ran.beside.devices devices.Save
  pub device : (device : TheDevice) → Contains broken device → Contains ran.beside.devices device

-- The marks that a save saw, of which so many were run before it in the round: where they stood among those of their
-- workers is told.
pub record IsSeenAt (ran : Ran) (index : ℕ) (marks : List Mark) : Type 0 where
  pub places : List ℕ
  pub told : slice_get ran.beside.seen index ≡ Some places
  pub stood : AreAt ran.beside.marks places (epochs_in marks)

-- so it is with those of all saves from there on
abbrev pub AreSeenFrom : Ran → ℕ → List (List Mark) → Type 0
AreSeenFrom ran index [] = ⊤
AreSeenFrom ran index (marks ∷ more) = IsSeenAt ran index marks × AreSeenFrom ran (index + 1) more

-- What was stored went by the marks that were seen, one after another, each by its own, with what counted beside then,
-- at an epoch of the clock from the first to the last of these; the newest had the one sequence before, and has the other
-- one behind. Only where the last sequence was met more was seen than stored.
pub record AreByPlace (first last : ℕ) (beside : ℕ → Beside) (seen : List (List Mark)) (begun : List Saved) (was is : ℕ)
    : Type 0 where
  pub by : (k : ℕ) (saved : Saved) → slice_get begun k ≡ Some saved
      → (marks : List Mark) × (slice_get seen k ≡ Some marks) × GoesBy first last (beside k) marks saved
  pub left : (k : ℕ) (saved : Saved) → slice_get begun k ≡ Some saved → was + k < last_sequence
  pub all : is < last_sequence → length seen ≡ length begun

-- What a line of the maintenance thread that is run finds: the closed log files are there, the stores are up, a newest
-- snapshot stands, and, where the disks tell their bytes, what counts of the log files that are there is durable.
pub record CanKeep {D : Type 0} (tells : D → Option (List ℕ)) (clock : D → ℕ) (image_at : D → ℕ → List ℕ → Type 0)
    (r : RuntimeState) (vault : Vault D) : Type 0 where
  pub files : length (closed_in r.side vault) ≡ 8
  pub workers : length r.logs ≡ 8
  pub up : r.save.down ≡ None
  pub stored : IsStored tells clock image_at vault.save r.save.newest
  pub closed : AreClosed r
  pub most_pages : r.room ≤ 65536
  pub sound : r.store.sound ≡ true
  pub snapshot : HasSnapshot tells r vault.snaps
  pub durable : AlwaysTells tells → LogsStand tells clock image_at r.side r.logs r.counted vault

-- Gleans find, make, and are refused something only where bytes of the closed log files count.
pub record NeedCounted (r : RuntimeState) (said : List Answer) (gleans : List (Option ℕ)) (broken : List TheDevice)
    (damaged : Option (TheDevice × ℕ)) : Type 0 where
  pub found : (what : Option ℕ) → Contains gleans what → some_counted r.counted ≡ true
  pub made : (epoch count : ℕ) → Contains said (answers.Snap epoch count) → some_counted r.counted ≡ true
  pub damage : is_some damaged ≡ true → some_counted r.counted ≡ true
  pub device : (device : TheDevice) → Contains broken device → some_counted r.counted ≡ true

-- The lines of the maintenance thread were run and answered, each with its cause. They touch neither the logs nor the
-- engine but for its epoch, the pages that are published to it, and its counts of drops, which get an entry for each
-- drop that is told, and no others. Each save that was run saw these marks, in their order.
pub record RunsKeeper {D : Type 0} (tells : D → Option (List ℕ)) (clock : D → ℕ) (image_at : D → ℕ → List ℕ → Type 0)
    (faults : D → ℕ) (seen : List (List Mark)) (lines : List KeeperLine) (said : List Answer) (refusal : Option End)
    (old new : RuntimeState) (before now : Vault D) : Type 0 where
  pub stored : List Saved
  pub failed : Option Saved
  pub gleans : List (Option ℕ)
  pub broken : List TheDevice
  pub damaged : Option (TheDevice × ℕ)
  pub keeps : KeepsSaves tells clock image_at faults stored failed old new before now
  pub by_lines : AreSavedIn (IsSavedBySeen (SeenAmong seen old.stands.clock.epoch new.stands.clock.epoch))
      (beside_of old) said stored
  pub by_failed : AllByRecursion (IsSavedBySeen (SeenAmong seen old.stands.clock.epoch new.stands.clock.epoch)
      (beside_at_end (beside_of old) said)) (option_to_list failed)
  pub by_place : AreByPlace old.stands.clock.epoch new.stands.clock.epoch (beside_at_save (beside_of old) said) seen
      (stored ++ option_to_list failed) (sequence_of old.save.newest) (sequence_of new.save.newest)
  pub gleaned : RoundGleans tells said gleans damaged old new before now
  pub leaves : LeaveGleans tells clock image_at faults said broken old new before now
  pub needs : NeedCounted old said gleans broken damaged
  pub rise : (from : List Mark) → GoOn from seen → epoch_of old.save.newest ≤ epoch_by old.stands.clock.epoch from
      → NeverFall (epoch_of old.save.newest) (map (λ (s : Saved). s.epoch) (stored ++ option_to_list failed))
      × (last_epoch_of (epoch_of old.save.newest) (map (λ (s : Saved). s.epoch) (stored ++ option_to_list failed))
      ≤ epoch_by new.stands.clock.epoch (last_seen from seen))
  pub later : old.stands.clock.epoch ≤ new.stands.clock.epoch
  pub stands : new.stands ≡ record old.stands {
    clock = record old.stands.clock { epoch = new.stands.clock.epoch };
    pages = new.stands.pages;
    drops = new.stands.drops;
  }
  pub dropped : new.stands.drops ≡ old.stands.drops ++ map counts_of (drops_told said)
  pub logs : new.logs ≡ old.logs
  pub is_down : new.down ≡ old.down
  pub count : length said ≡ length lines
  pub advances : AdvancesTo old.stands.clock.epoch said new.stands.clock.epoch
  pub at_end : answers_end (keeper_on old false) said
      ≡ record (keeper_on new (list_any is_refusal said)) { pages = (beside_at_end (beside_of old) said).count }
  pub refused : is_some refusal ≡ list_any is_refusal said
  pub refusal_is : refusal ≡ refusal_told failed (first_device broken) damaged said
  pub told : map (λ (s : Saved). s.epoch) stored ≡ saves_told said
  pub caused : (ran : Ran) → RestsOn old seen gleans failed broken damaged ran
      → AnswersCaused ran (keeper_on old false) lines said
  pub saw : (ran : Ran) (index : ℕ) → AreSeenFrom ran index seen
      → SavesSee ran index (keeper_on old false) lines said (index + length seen)
  pub above : epoch_of old.save.newest < old.stands.clock.epoch → epoch_of new.save.newest < new.stands.clock.epoch
  pub tie_room : before.ties.room ≤ now.ties.room + length lines
  pub cut_room : now.cuts ≡ before.cuts

-- ---- one line

-- a save met the last sequence
abbrev pub is_limited : KeeperLine → Answer → Bool
is_limited asks.Save answers.Limit = true
is_limited line answer = false

-- what a save is answered
abbrev pub save_answer : Result ℕ SaveFault → Answer
save_answer (Ok epoch) = answers.Save epoch
save_answer (Err (Limit sequence)) = answers.Limit
save_answer (Err Device) = answers.Device
save_answer (Err (Down count)) = answers.Device

-- A save by a line of the maintenance thread, by these marks: it touches neither the engine nor the logs.
pub record StepsSave {D : Type 0} (tells : D → Option (List ℕ)) (clock : D → ℕ) (image_at : D → ℕ → List ℕ → Type 0)
    (faults : D → ℕ) (marks : List Mark) (answer : Answer) (old new : RuntimeState) (before now : Vault D)
    : Type 0 where
  pub result : Result ℕ SaveFault
  pub saves : SavesMarks tells clock image_at faults old.stands.clock.epoch marks (beside_of old)
      old.save new.save before now result
  pub answer_is : answer ≡ save_answer result
  pub alone : new ≡ record old { save = new.save }

-- what a glean is answered
abbrev pub glean_answer : Result Gleaned (OrMemory GleanFault) → Answer
glean_answer (Ok (Snap epoch new)) = answers.Snap epoch new
glean_answer (Ok Empty) = answers.Empty
glean_answer (Err (or.Fault (glean_faults.Device device))) = answers.Device
glean_answer (Err (or.Fault (glean_faults.Damaged device at))) = answers.Damaged
glean_answer (Err (or.Fault glean_faults.Deep)) = answers.Deep
glean_answer (Err (or.Fault (glean_faults.Limit have new room))) = answers.SnapFull
glean_answer (Err or.Memory) = answers.Memory

-- A glean by a line of the maintenance thread.
pub record StepsGlean {D : Type 0} (tells : D → Option (List ℕ)) (clock : D → ℕ) (image_at : D → ℕ → List ℕ → Type 0)
    (faults : D → ℕ) (answer : Answer) (refusal : Option End) (old new : RuntimeState) (before now : Vault D)
    : Type 0 where
  pub result : Result Gleaned (OrMemory GleanFault)
  pub beside : Option TheDevice
  pub gleans : Gleans tells clock image_at faults old new before now result beside
  pub answer_is : answer ≡ glean_answer result
  pub refusal_is : refusal ≡ refusal_beside beside (glean_refusal result)

-- the runtime at this epoch of the clock
abbrev pub at_epoch : RuntimeState → ℕ → RuntimeState
at_epoch r epoch = record r { stands = record r.stands { clock = record r.stands.clock { epoch = epoch } } }

-- an advance of the epoch, unless it is the last one
abbrev pub Advances : RuntimeState → RuntimeState → Result ⊤ End → Type 0
Advances old new (Ok done) = (old.stands.clock.epoch < last_epoch) × (new ≡ at_epoch old (old.stands.clock.epoch + 1))
Advances old new (Err end) = (old.stands.clock.epoch ≡ last_epoch)
    × (end ≡ ends.Limit Epoch old.stands.clock.epoch) × (new ≡ old)

-- an advance by a line of the maintenance thread
abbrev pub StepsEpoch : Answer → RuntimeState → RuntimeState → Type 0
StepsEpoch (answers.Epoch epoch) old new = (old.stands.clock.epoch < last_epoch)
    × (epoch ≡ old.stands.clock.epoch + 1) × (new ≡ at_epoch old epoch)
StepsEpoch answers.Limit old new = (old.stands.clock.epoch ≡ last_epoch) × (new ≡ old)
StepsEpoch _ old new = ⊥

-- the runtime with these counts of drops
abbrev pub with_drops : RuntimeState → List Counts → RuntimeState
with_drops r drops = record r { stands = record r.stands { drops = drops } }

-- A drop by a line of the maintenance thread. What is answered is what it added to the counts of drops.
abbrev pub StepsDrop : Answer → RuntimeState → RuntimeState → Type 0
StepsDrop (answers.Drop dropped kept) old new =
    new ≡ with_drops old (old.stands.drops ++ map counts_of (drops_told (answers.Drop dropped kept ∷ [])))
StepsDrop _ old new = ⊥

module _ {D : Type 0} (tells : D → Option (List ℕ)) (clock : D → ℕ) (image_at : D → ℕ → List ℕ → Type 0)
    (faults : D → ℕ) where
  -- A line of the maintenance thread is answered, which refuses the lines behind it or doesn't. A save goes by these
  -- marks.
  abbrev pub StepsLine : List Mark → KeeperLine → Answer → Option End → RuntimeState → RuntimeState → Vault D → Vault D
      → Type 0
  StepsLine marks asks.Epoch answer refusal old new before now =
      StepsEpoch answer old new × (now ≡ before) × (refusal ≡ None)
  StepsLine marks asks.Save answer refusal old new before now =
      StepsSave tells clock image_at faults marks answer old new before now × (refusal ≡ save_refusal answer)
  StepsLine marks asks.Glean answer refusal old new before now =
      StepsGlean tells clock image_at faults answer refusal old new before now
  StepsLine marks asks.Drop answer refusal old new before now =
      StepsDrop answer old new × (now ≡ before) × (refusal ≡ None)

  -- Behind a refusal a line isn't run.
  abbrev pub StepsKeeper : List Mark → Option End → KeeperLine → Answer → Option End → RuntimeState → RuntimeState
      → Vault D → Vault D → Type 0
  StepsKeeper marks (Some end) line answer refusal old new before now =
      (answer ≡ answers.Unrun) × (refusal ≡ Some end) × (new ≡ old) × (now ≡ before)
  StepsKeeper marks None line answer refusal old new before now =
      StepsLine marks line answer refusal old new before now

-- ---- the join

-- what a join leaves of a log: it was flushed and marked, or it refused that, or it was left alone
pub record JoinsLog {D : Type 0} (tells : D → Option (List ℕ)) (clock : D → ℕ) (image_at : D → ℕ → List ℕ → Type 0)
    (faults : D → ℕ) (epoch : ℕ) (old new : LogState) (before now : D) : Type 0 where
  pub goes : LogGoesOn tells clock image_at epoch old new before now
  pub end : end_of new.journal ≡ end_of old.journal
  pub mark : KeepsMark (epoch + 1) old new
  pub blames : Blames faults before now new.journal
  pub reaches : Reaches tells now new.journal
  pub limit : new.journal.limit ≡ old.journal.limit

-- What a join answers: the epoch that it made durable, or which of its steps was refused, in their order.
abbrev pub JoinAnswers : RuntimeState → RuntimeState → List Saved → Option Saved → Result ℕ End → Type 0
JoinAnswers old new stored failed (Ok epoch) = (old.stands.clock.epoch < last_epoch)
    × (sequence_of old.save.newest < last_sequence) × (epoch ≡ old.stands.clock.epoch)
    × (map (λ (s : Saved). s.epoch) stored ≡ epoch ∷ []) × (failed ≡ None)
    × AllByRecursion (IsJoined (epoch + 1)) new.logs
JoinAnswers old new stored failed (Err (ends.Limit Epoch number)) = (last_epoch ≤ old.stands.clock.epoch)
    × (number ≡ old.stands.clock.epoch) × (stored ≡ []) × (failed ≡ None)
JoinAnswers old new stored failed (Err (ends.Limit Sequence number)) = (old.stands.clock.epoch < last_epoch)
    × (number ≡ sequence_of old.save.newest) × (number ≡ last_sequence) × (stored ≡ []) × (failed ≡ None)
JoinAnswers old new stored failed (Err (ends.Device devices.Save)) = (old.stands.clock.epoch < last_epoch)
    × (sequence_of old.save.newest < last_sequence) × (stored ≡ []) × (is_some failed ≡ true)
JoinAnswers old new stored failed (Err (ends.Device (devices.Bank number))) = (old.stands.clock.epoch < last_epoch)
    × (worker : ℕ) × (worker < 8) × (number ≡ growing_number old.side worker) × (stored ≡ []) × (failed ≡ None)
JoinAnswers old new stored failed (Err _) = ⊥

-- what a save comes to in a join
abbrev pub join_answer : Result ℕ SaveFault → Result ℕ End
join_answer (Ok epoch) = Ok epoch
join_answer (Err (Limit sequence)) = Err (ends.Limit Sequence sequence)
join_answer (Err Device) = Err (ends.Device devices.Save)
join_answer (Err (Down count)) = Err (ends.Device devices.Save)

-- the device that a join's answer names
abbrev pub device_told : Result ℕ End → List TheDevice
device_told (Err (ends.Device device)) = device ∷ []
device_told _ = []

-- The steps of a join over logs and a store that are up: advance of the epoch, flush and mark of each log, save, each
-- only once those before it are done.
pub record RunsJoin {D : Type 0} (tells : D → Option (List ℕ)) (clock : D → ℕ) (image_at : D → ℕ → List ℕ → Type 0)
    (faults : D → ℕ) (old new : RuntimeState) (before now : Vault D) (result : Result ℕ End) : Type 0 where
  pub stored : List Saved
  pub failed : Option Saved
  pub keeps : KeepsSaves tells clock image_at faults stored failed old new before now
  pub by_marks : AllByRecursion (IsSavedBySeen (MarksOf new new.stands.clock.epoch new.stands.clock.epoch)
      (beside_of old)) (stored ++ option_to_list failed)
  pub at_clock : AllByRecursion (λ (s : Saved). s.epoch ≡ old.stands.clock.epoch) (stored ++ option_to_list failed)
  pub answer : JoinAnswers old new stored failed result
  pub alone : new ≡ record old { stands = new.stands; save = new.save; logs = new.logs }
  pub stands : new.stands ≡ record old.stands {
    clock = record old.stands.clock { epoch = epoch_after old.stands.clock.epoch };
  }
  pub snaps : now.snaps ≡ before.snaps
  pub closed : closed_in old.side now ≡ closed_in old.side before
  pub cuts : now.cuts ≡ before.cuts
  pub above : epoch_of old.save.newest < old.stands.clock.epoch → epoch_of new.save.newest < new.stands.clock.epoch
  pub logs_length : length new.logs ≡ length old.logs
  pub growing_length : length (growing_in old.side now) ≡ length (growing_in old.side before)
  pub each : (worker : ℕ) (was log : LogState) (bank_was bank : D) → slice_get old.logs worker ≡ Some was
      → slice_get new.logs worker ≡ Some log → slice_get (growing_in old.side before) worker ≡ Some bank_was
      → slice_get (growing_in old.side now) worker ≡ Some bank
      → JoinsLog tells clock image_at faults old.stands.clock.epoch was log bank_was bank
  -- a log is down just where its device is told
  pub up : (worker : ℕ) (log : LogState) → slice_get new.logs worker ≡ Some log
      → (Contains (device_told result) (devices.Bank (growing_number old.side worker)) → ⊥) → log.journal.down ≡ None
  pub fell : (worker : ℕ) (log : LogState) → slice_get new.logs worker ≡ Some log
      → Contains (device_told result) (devices.Bank (growing_number old.side worker))
      → is_some log.journal.down ≡ true
  pub waited : (worker : ℕ) (was : LogState)
      → result ≡ Err (ends.Device (devices.Bank (growing_number old.side worker)))
      → slice_get old.logs worker ≡ Some was → was.journal.lines ≡ [] → ⊥
  pub not_advanced : last_epoch ≤ old.stands.clock.epoch → (now ≡ before) × (new ≡ old)
  pub not_flushed : (number : ℕ) → result ≡ Err (ends.Device (devices.Bank number))
      → (now.save ≡ before.save) × (now.ties ≡ before.ties) × (new.save ≡ old.save)
