-- What a round comes to on a runtime.
use Rattle.std.specs.Prelude.{◌≡◌, ◌↔◌, ◌⊎◌, ◌≤◌, ◌<◌, ◌+◌, ◌++◌, ℕ, List, [], ◌∷◌, length, map, not}
use Rattle.std.specs.Prelude.{false, true, if◌then◌else◌, Option, Some}
use Rattle.std.specs.Prelude.{None, is_some, option_to_list, slice_get, Result, Ok, Err}
use Rattle.std.specs.List.{AllByRecursion, Contains}
use Rattle.lists.specs.Fronts.{IsFront}
use Rattle.lists.specs.declared.memory.Memory.{Memory}
use Rattle.outside.specs.Fronts.{AllBegin}
use Rattle.outside.specs.Reads.{OnlyReads}
use Rattle.log_writer.specs.Journal.{end_of as file_end}
use Rattle.log_writer.specs.Vault.{disk_in}
use Rattle.outside.specs.declared.device.Device.{Device}
use Rattle.outside.specs.declared.device.Device.TheVariants.{Bank, Save, Snaps}
use Rattle.log_writer.specs.declared.records.Tie.{Tie}
use Rattle.log_writer.specs.declared.vault.Vault.{Vault}
use Rattle.serial_model.specs.declared.number.Commit.{Commit}
use Rattle.serial_model.specs.declared.op.Op.{Op}
use Rattle.script_grammar.specs.Script.{Round, lines_of_worker}
use Rattle.wire_form.specs.LogFile.{IsLineOf, lines_bytes}
use Rattle.wire_form.specs.declared.clock.Mark.{Mark}
use Rattle.wire_form.specs.declared.page.Page.{Page}
use Rattle.wire_form.specs.declared.savepoint.Savepoint.{Savepoint}
use Rattle.log_writer.specs.Points.{sequence_of}
use Rattle.log_writer.specs.declared.saved.Saved.{Saved}
use Rattle.snapshot_store.specs.Store.{bytes_of_pages, StoreState}
use Rattle.worker_logs.specs.Logs.{LogState, reset_log}
use Rattle.worker_logs.specs.Saves.{closed_number, CountsOf, growing_number, logs_marks}
use Rattle.worker_logs.specs.Rows.{NeverFall}
use Rattle.worker_logs.specs.Shown.{Stood}
use Rattle.joint_crashes.specs.JointCrash.{Moments}
use Rattle.joint_crashes.specs.Rounds.{KeeperRan}
use Rattle.joint_crashes.specs.Story.{Story, SaveTold, SnapsTold}
use Rattle.joint_crashes.specs.VaultReads.{RoseIn}
use Rattle.joint_crashes.specs.Images.{counted_of, epoch_of}
use Rattle.joint_crashes.specs.Marks.{IsAbove}
use Rattle.tx_script.specs.Run.{LogFailed, LogRefusal, Ran, IsRun}
use Rattle.tx_script.specs.Causes.{AllCaused, keeper_at_end, last_sequence, log_of, some_counted}
use Rattle.tx_script.specs.CausedBeside.{CausedBeside}
use Rattle.tx_script.specs.Conflicts.{AreMet}
use Rattle.tx_script.specs.Draws.{DrawsAreCounted}
use Rattle.tx_script.specs.declared.outcome.Outcome.{Outcome}
use Rattle.tx_script.specs.declared.outcome.Outcome.TheVariants.{Unrun}
use Rattle.round_engine.specs.Changes.{AreLogged}
use Rattle.round_engine.specs.Crashes.{CarriesCrashes}
use Rattle.round_engine.specs.Drops.{counts_of}
use Rattle.round_engine.specs.Ends.{comes_to_advance, comes_to_save, comes_to_swap, durable_of, end_of, epoch_joined}
use Rattle.round_engine.specs.Ends.{swaps}
use Rattle.round_engine.specs.Gleans.{RoundGleans}
use Rattle.round_engine.specs.Histories.{KeepsHistory}
use Rattle.round_engine.specs.Logs.{AreClosedFiles, AreLogs, IsLongerBy, IsRefusedBy, LeavesLog}
use Rattle.round_engine.specs.Saves.{ArePages, AreSaved, beside_at_end, GoesOnWith, IsSavedBy, newest_after}
use Rattle.round_engine.specs.Saves.{AreShownAt, AreTied, beside_at_save, GoesBy, HaveEnded, saves_told}
use Rattle.round_engine.specs.SavesMet.{MetBySaves}
use Rattle.round_engine.specs.Sides.{closed_numbers, other_side}
use Rattle.round_engine.specs.Shares.{AreWordsTold, causes_of}
use Rattle.round_engine.specs.Standing.{beside_of, files_of, RuntimeState, StandsOn}
use Rattle.round_engine.specs.Swaps.{CutsBanks, behind_swap, since_swap}
use Rattle.round_engine.specs.Unbegun.{IsUnbegun}
use Rattle.round_engine.specs.Workers.{LeavesOut}
use Rattle.round_engine.specs.declared.report.Report.{Report}

-- ---- what was run

-- the report tells what came of the round
pub record Reports (ran : Ran) (report : Report) : Type 0 where
  pub outcomes : report.outcomes ≡ ran.printed.outcomes
  pub answers : report.keeper ≡ ran.printed.answers
  pub durable : report.durable ≡ ran.printed.durable
  pub end : report.end ≡ end_of ran

-- The marks that a worker with these lines had while the lines of a round ran: without a line it is idle; else it
-- begins with the mark that it had, and sets others, each of the clock's epoch less 1 between two of its lines.
pub record AreRoundMarks (lines : List (List Op)) (had : Option ℕ) (first last : ℕ) (epochs : List (Option ℕ))
    : Type 0 where
  pub idle : lines ≡ [] → epochs ≡ None ∷ []
  pub set : List ℕ
  pub begins : (lines ≡ [] → ⊥) → epochs ≡ had ∷ map Some set
  pub clocks : AllByRecursion (λ epoch. (first ≤ epoch + 1) × (epoch + 1 ≤ last)) set

-- how the record of what was run begins, each line being tried so often at most
pub record Begins (tries : ℕ) (round : Round) (old : RuntimeState) (ran : Ran) : Type 0 where
  pub tried : ran.beside.tries ≡ tries
  pub sequence : ran.beside.sequence ≡ sequence_of old.save.newest
  pub pages : ran.beside.pages ≡ length old.store.pages
  pub room : ran.beside.room ≡ old.room
  pub slots : ran.beside.slots ≡ old.stands.slots
  pub files : ran.beside.files ≡ files_of old
  pub workers : length ran.beside.marks ≡ 8
  pub marks : (worker : ℕ) (log : LogState) (epochs : List (Option ℕ)) → slice_get old.logs worker ≡ Some log
      → slice_get ran.beside.marks worker ≡ Some epochs
      → AreRoundMarks (lines_of_worker round worker) log.mark.epoch ran.printed.begin.epoch ran.printed.end.epoch epochs

-- What was run of a round on the engine: its commits are a serial run from the old contents to the new, and the logs
-- have what they changed, as log lines; each outcome, answer and refusal has its cause, and so has what the maintenance
-- thread's saves saw of the workers' marks, beside which it may have run. What the engine refused tries for gets the
-- refusals that are told of the round's lines, each whole, worker by worker and in their order, and no others; the word
-- of a conflict stands where it is told.
pub record RunsRoundLines (round : Round) (old new : RuntimeState) (ran : Ran) (logged : ℕ → List Commit) : Type 0 where
  pub decls : new.stands.decls ≡ old.stands.decls
  pub slots : new.stands.slots ≡ old.stands.slots
  pub run : (index : ℕ)
      → IsRun old.stands.decls index (round ∷ []) old.stands.state old.stands.clock (ran ∷ []) new.stands.state
  pub caused : AllCaused ran
  pub beside : CausedBeside ran
  pub refused : new.stands.refused ≡ old.stands.refused ++ causes_of ran.beside.refused
  pub words : AreWordsTold old.stands.decls old.stands.slots ran.beside.refused
  pub lines_are : (worker : ℕ) → worker < 8 → AllByRecursion (IsLineOf old.stands.decls) (logged worker)
  pub logged_are : (index worker : ℕ) → worker < 8
      → AreLogged old.stands.decls worker old.stands.state (run index).ordered (logged worker)

-- ---- what it left of the vault

-- the device's count of faults stands still
abbrev pub IsQuietIn : {D : Type 0} → (D → ℕ) → Device → Vault D → Vault D → Type 0
IsQuietIn {D} faults device old new = (was now : D) → disk_in old device ≡ Some was → disk_in new device ≡ Some now
    → faults now ≡ faults was

-- Just these devices failed: the counts of theirs rose, and those of the others stand still.
pub record AreFailed {D : Type 0} (faults : D → ℕ) (failed : List Device) (old new : Vault D) : Type 0 where
  pub rose : (device : Device) → Contains failed device → RoseIn faults device old new
  pub quiet : (device : Device) → (Contains failed device → ⊥) → IsQuietIn faults device old new

-- What was stored, one savepoint after another, and the one that was begun then and failed, if one was: the epochs that
-- are told, which never fall. One that failed was asked for by a line, or by the join.
pub record HasStored (ran : Ran) (old new : RuntimeState) (stored : List Saved) (failed : Option Saved) : Type 0 where
  pub epochs : map (λ (s : Saved). s.epoch) stored
      ≡ saves_told ran.printed.answers ++ option_to_list ran.printed.durable
  pub newest : new.save.newest ≡ newest_after old.save.newest stored
  pub down : is_some new.save.down ≡ is_some failed
  pub rise : NeverFall (epoch_of old.save.newest) (map (λ (s : Saved). s.epoch) (stored ++ option_to_list failed))
  pub fails : (is_some failed ≡ true) ↔ Contains ran.beside.devices Save
  pub asked : is_some failed ≡ true → ((keeper_at_end ran).refused ≡ true)
      ⊎ ((comes_to_save ran ≡ true) × ((keeper_at_end ran).sequence < last_sequence))

module _ {D : Type 0} (tells : D → Option (List ℕ)) (clock : D → ℕ) (image_at : D → ℕ → List ℕ → Type 0) where
  -- The logs: each worker's part of the round, over its own log file, up to the swap; what was stored counts marks that
  -- they had, and what counted beside as it was stored, and the newest savepoint counts what is durable. Behind a swap
  -- the closed files have what was logged, and the growing ones nothing. The closed ones had these commits and bytes,
  -- and they have them still unless a swap was begun and not done: then nothing of them counts.
  pub record LogsRan (ran : Ran) (commits logged gone : ℕ → List Commit) (was closed : ℕ → List ℕ)
      (stored : List Saved) (failed : Option Saved) (logs : List LogState)
      (old new : RuntimeState) (before now : Vault D) : Type 0 where
    pub durable : ℕ → List ℕ
    pub marks : ℕ → List Mark
    pub shown : ℕ → List Stood
    pub each : (worker : ℕ) (log_was log : LogState) (bank_was bank : D) (epochs : List (Option ℕ))
        → slice_get old.logs worker ≡ Some log_was → slice_get logs worker ≡ Some log
        → disk_in before (Bank (growing_number old.side worker)) ≡ Some bank_was
        → disk_in now (Bank (growing_number old.side worker)) ≡ Some bank
        → slice_get ran.beside.marks worker ≡ Some epochs
        → LeavesLog tells clock image_at (commits worker) (logged worker) (was worker) (durable worker) (marks worker)
        (shown worker) epochs bank_was bank log
    pub saved : AreSaved (IsSavedBy ran.printed.begin.epoch (epoch_joined ran) marks) (beside_of old)
        ran.printed.answers (stored ++ option_to_list failed)
    -- What a save by a line began to store went by the marks at the places that it saw, at such an epoch, with what
    -- counted beside then. So what `saved` says of it is known of these marks.
    pub placed : (k : ℕ) (saved : Saved) (places : List ℕ) → slice_get (stored ++ option_to_list failed) k ≡ Some saved
        → slice_get ran.beside.seen k ≡ Some places
        → (seen : List Mark) × AreShownAt shown places seen × GoesBy ran.printed.begin.epoch (epoch_joined ran)
        (beside_at_save (beside_of old) ran.printed.answers k) seen saved
    pub counts_here : CountsOf old.side commits gone was closed old.save.newest
        → CountsOf old.side (λ w. commits w ++ logged w) gone durable closed new.save.newest
    pub counts : CountsOf old.side commits gone was closed old.save.newest
        → CountsOf new.side (since_swap (swaps ran) (λ w. commits w ++ logged w))
        (behind_swap (swaps ran) (λ w. commits w ++ logged w) gone) (since_swap (swaps ran) durable)
        (behind_swap (swaps ran) durable closed) new.save.newest
    pub are_logs : AreLogs tells clock image_at (since_swap (swaps ran) (λ w. commits w ++ logged w))
        (since_swap (swaps ran) durable) new now
    pub closed_whole : swaps ran ≡ true → (worker counted : ℕ) → slice_get new.counted worker ≡ Some counted
        → counted ≡ length (lines_bytes (commits worker ++ logged worker))
    pub are_closed : (comes_to_swap ran ≡ true → swaps ran ≡ true)
        → AreClosedFiles tells clock image_at (behind_swap (swaps ran) (λ w. commits w ++ logged w) gone)
        (behind_swap (swaps ran) durable closed) new now

  -- The save, the snapshots and the ties: the savepoints were stored one after another behind this one, each over as
  -- many of the pages as it counts. What was saved before is of the pages that there were, and these are durable.
  abbrev pub KeeperStored : List Saved → Option Savepoint → StoreState → StoreState → Vault D → Vault D → Type 0
  KeeperStored begun newest store_was store before now = (story : Story) (from : Moments) (low : ℕ)
      (bytes : ℕ → List ℕ) → is_some (tells before.save) ≡ true → is_some (tells before.snaps) ≡ true
      → GoesOnWith story newest bytes begun → ArePages bytes store.pages → story.point (sequence_of newest) ≡ newest
      → ((k : ℕ) → low ≤ k → k ≤ sequence_of newest → IsFront (story.pages k) (bytes_of_pages store_was.pages))
      → AllBegin (image_at before.snaps (clock before.snaps)) (bytes_of_pages store_was.pages)
      → SaveTold clock image_at story.point from.save low (sequence_of newest) before.save before.ties.items
      → SnapsTold clock image_at story.pages from.snaps low (sequence_of newest) before.snaps before.ties.items
      → KeeperRan clock image_at story from low (sequence_of newest) (sequence_of newest + length begun)
      before.save now.save before.snaps now.snaps before.ties.items now.ties.items
      × (store.sound ≡ true → AllBegin (image_at now.snaps (clock now.snaps)) (bytes_of_pages store.pages))

  -- The closed log files: they were only read, up to the swap, which empties them one after another. Then they grow,
  -- with empty logs, and those that grew are closed; what counts of these is what the newest savepoint counts. It
  -- counts nothing of those that are cut.
  pub record SwapsFiles (faults : D → ℕ) (ran : Ran) (logs : List LogState) (old new : RuntimeState)
      (before now : Vault D) : Type 0 where
    pub between : Vault D
    pub reads : (worker : ℕ) (was is : D) → disk_in before (Bank (closed_number old.side worker)) ≡ Some was
        → disk_in between (Bank (closed_number old.side worker)) ≡ Some is
        → OnlyReads tells clock image_at faults was is
    pub uncut : between.cuts.items ≡ before.cuts.items
    pub left : comes_to_swap ran ≡ false → now ≡ between
    pub cut : comes_to_swap ran ≡ true → (failed : Option ℕ) × (is_some failed ≡ not (swaps ran))
        × CutsBanks tells clock image_at faults (sequence_of new.save.newest) (closed_numbers old.side) failed between
        now
    pub nothing : comes_to_swap ran ≡ true → (worker : ℕ) → worker < 8
        → counted_of new.save.newest (closed_number old.side worker) ≡ 0
    pub side : new.side ≡ (if swaps ran then other_side old.side else old.side)
    pub counted : new.counted ≡ (if swaps ran then map (λ (m : Mark). m.length) (logs_marks logs)
        else (beside_at_end (beside_of old) ran.printed.answers).closed)
    pub closed_at : new.closed_at ≡ (if swaps ran then ran.printed.end.epoch else old.closed_at)
    pub logs_are : new.logs ≡ (if swaps ran then map reset_log logs else logs)

  -- What a round left of the vault: the growing log files by their workers' parts, the save and the snapshots by the
  -- keeper's, and the closed ones by its gleans and the swap. What was logged is above the savepoint at the begin. Each
  -- growing log file with what waits is longer by what its worker logged, up to the swap, and where it is closed then,
  -- all of it counts. Both hold also where no device tells its bytes (`longer`, `marked`).
  -- Nothing is said of the order in which the workers ran.
  pub record LeavesVault (faults : D → ℕ) (ran : Ran) (logged : ℕ → List Commit)
      (old new : RuntimeState) (before now : Vault D) : Type 0 where
    pub stands : StandsOn tells clock image_at new now
    pub failed_are : AreFailed faults ran.beside.devices before now
    pub logs : List LogState
    pub files : SwapsFiles faults ran logs old new before now
    pub gleans : RoundGleans tells ran.printed.answers ran.beside.gleans ran.beside.damaged old new before now
    pub needed : (what : Option ℕ) → Contains ran.beside.gleans what → some_counted old.counted ≡ true
    pub sound : (Contains ran.beside.devices Snaps → ⊥) → new.store.sound ≡ true
    pub room : new.room ≡ old.room
    pub longer : (worker : ℕ) (was log : LogState) → slice_get old.logs worker ≡ Some was
        → slice_get logs worker ≡ Some log → IsLongerBy (logged worker) was log
    pub marked : swaps ran ≡ true → (worker : ℕ) (log : LogState) → slice_get logs worker ≡ Some log
        → log.mark.length ≡ file_end log.journal
    pub refused : (worker : ℕ) (log : LogState) (refusal : Option LogRefusal) → slice_get logs worker ≡ Some log
        → slice_get ran.beside.logs worker ≡ Some refusal → IsRefusedBy refusal log.journal
    pub log_failed : (worker : ℕ) → worker < 8 → Contains ran.beside.devices (log_of ran.beside.files worker)
        → (slice_get ran.beside.logs worker ≡ Some (Some LogFailed)) ⊎ (comes_to_advance ran ≡ true)
    pub stored : List Saved
    pub failed : Option Saved
    pub has_stored : HasStored ran old new stored failed
    pub ties_are : AreTied old.save.newest stored failed before.ties.items now.ties.items
    pub ended : HaveEnded old.save.newest stored now.ties.items
    pub ties_stay : (tie : Tie) → Contains before.ties.items tie → Contains now.ties.items tie
    pub save_told : is_some (tells now.save) ≡ is_some (tells before.save)
    pub snaps_told : is_some (tells now.snaps) ≡ is_some (tells before.snaps)
    pub grows : (more : List Page) × (new.store.pages ≡ old.store.pages ++ more)
    pub above : (worker : ℕ) → worker < 8 → AllByRecursion (IsAbove (epoch_of old.save.newest)) (logged worker)
    pub runs : (commits gone : ℕ → List Commit) (was closed : ℕ → List ℕ)
        → AreLogs tells clock image_at commits was old before
        → AreClosedFiles tells clock image_at gone closed old before
        → LogsRan ran commits logged gone was closed stored failed logs old new before now
    pub keeper : KeeperStored (stored ++ option_to_list failed) old.save.newest old.store new.store before now

-- ---- a round

-- A round was run, each line being tried so often at most, and joined. Each number was drawn for a commit, or for a try
-- that was refused behind its draw. A try in conflict at a record of an array met a line of another worker of the
-- round, at a key that it touches and that one may change, or pages were dropped in the round; one on the way to a key
-- is of a line that touches it; a line that was to be given a slot may change some key, and one that filled a set has
-- an operation on a tree. The engine's counts of drops get those of the round, and nothing else, and what it met of
-- marks gets those of the round's saves: eight a save, in order. Where nothing ends the run, its last epoch is durable.
-- The commits are those which came to the history that threads share. The runtime is down just where a device failed.
pub record RanRound (tries : ℕ) (round : Round) (old new : RuntimeState) (report : Report) : Type 0 where
  pub ran : Ran
  pub logged : ℕ → List Commit
  pub reports : Reports ran report
  pub begins : Begins tries round old ran
  pub lines : RunsRoundLines round old new ran logged
  pub counted : DrawsAreCounted ran
  pub met : AreMet old.stands.decls ran round
  pub dropped : new.stands.drops ≡ old.stands.drops ++ map counts_of ran.beside.drops
  pub seen : MetBySaves old.stands.met new.stands.met ran.beside.seen
  pub history : KeepsHistory round ran.printed.outcomes old.stands new.stands
  pub durable : ran.printed.durable ≡ durable_of ran
  pub lasts : report.end ≡ None → ran.printed.durable ≡ Some ran.printed.end.epoch
  pub clock : new.stands.clock ≡ record { epoch = epoch_joined ran; draw = ran.printed.end.draw }
  pub ended : new.stands.ended ≡ is_some report.end
  pub down : (new.down ≡ false) ↔ (ran.beside.devices ≡ [])

module _ {D : Type 0} (tells : D → Option (List ℕ)) (clock : D → ℕ) (image_at : D → ℕ → List ℕ → Type 0)
    (faults : D → ℕ) where
  -- What was left out of the workers' lines. Where one of a worker's is told unrun its log refused a line earlier in
  -- the round, behind what its lines before that logged; and a log is told full only where one is told unrun.
  pub record LeavesLinesOut (ran : Ran) (logged : ℕ → List Commit) (old : RuntimeState) (before : Vault D)
      : Type 0 where
    pub each : (worker : ℕ) (outcomes : List Outcome) (refusal : Option LogRefusal) (log : LogState) (bank : D)
        → slice_get ran.printed.outcomes worker ≡ Some outcomes → slice_get ran.beside.logs worker ≡ Some refusal
        → slice_get old.logs worker ≡ Some log → disk_in before (Bank (growing_number old.side worker)) ≡ Some bank
        → LeavesOut tells clock image_at faults ran.printed.begin.epoch (Contains outcomes Unrun) (logged worker)
        refusal log bank

  -- A round was run over the vault, and what was known of crashes is known still; or memory was wanted before anything
  -- was done.
  abbrev pub Rounds : ℕ → Round → RuntimeState → RuntimeState → Vault D → Vault D → Result Report Memory → Type 0
  Rounds tries round old new before now (Ok report) = (r : RanRound tries round old new report)
      × (v : LeavesVault tells clock image_at faults r.ran r.logged old new before now)
      × CarriesCrashes tells clock image_at r.logged (v.stored ++ option_to_list v.failed) r.ran old new before now
      × LeavesLinesOut r.ran r.logged old before
  Rounds tries round old new before now (Err memory) = IsUnbegun old new before now
