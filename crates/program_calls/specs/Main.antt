-- The main theorem, sentence by sentence: what a call comes to that runs a script (`Came`). The printed commits, in
-- order of number, are one serial run of the script's transactions from the recovered state, with every reply and
-- epochs that never fall; each worker's lines stand once, in order; each snapshot is that run through its epoch; after
-- a stop before or within any write, recovery gives exactly the run through the saved epoch, which covers every line
-- told durable. What else a call comes to, and for which commands this is said, stands in Answers.antt.
use Rattle.std.specs.Prelude.{◌≡◌, ◌⊎◌, ◌+◌, ◌<◌, ◌≤◌, ℕ, List, [], flat_map, slice_get, Option, Some, None}
use Rattle.std.specs.Prelude.{IfSome}
use Rattle.std.specs.List.Sorted.{IsPermutation}
use Rattle.outside.specs.Disk.{Only}
use Rattle.serial_model.specs.History.{Entry, InOrder, IsSerialRun, Rises, as_of, state_after_all}
use Rattle.serial_model.specs.State.{State}
use Rattle.serial_model.specs.declared.decl.Decl.{Decl}
use Rattle.script_grammar.specs.Script.{Bytes, Round, Script, IsTextOf}
use Rattle.joint_crashes.specs.Images.{Images}
use Rattle.joint_crashes.specs.JointCrash.{parts_of, Moments}
use Rattle.joint_crashes.specs.Resting.{IsResting, StopsNow}
use Rattle.recovery_core.specs.Recoverable.{IsReading, IsRecoverable, Reading}
use Rattle.tx_script.specs.Run.{AreOfFirst, Ran, RunsClocks, clock_after, of_worker, printed_commits}
use Rattle.round_engine.specs.Histories.{ComeFromOne}
use Rattle.command_line.specs.declared.command.Command.{Command}
use Rattle.program_calls.specs.Beginning.{Opening, SameDecls}
use Rattle.program_calls.specs.Ending.{AreBytes, Comes, ReadsFirst}
use Rattle.program_calls.specs.RanOver.{room_of}
use Rattle.program_calls.specs.RoundCauses.{AreCaused, saved_in, slots_asked, tries_asked}
use Rattle.program_calls.specs.RunKept.{AtRest, HasDeclared, HasEachSnapshot, IsCovered, IsRunThrough, IsSound}
use Rattle.program_calls.specs.RunKept.{MayLeave, RecordsOf, StandsThrough, StandsThroughReads, last_saved}
use Rattle.program_calls.specs.Snapshots.{EachSnapshot}
use Rattle.program_calls.specs.Vaults.{HoldsOf, NoneFailed, Vaults}
use Rattle.program_calls.specs.declared.ending.Ending.{Ending}
use Rattle.program_calls.specs.declared.ending.Ending.TheVariants.{Finished}

-- ---- what is run

-- What a call read and ran: the bytes of its source; the script that they are, if one was run; where its run began; the
-- rounds that were run, their commits in the order of their numbers, and the state behind them; and how it ended.
pub record Course : Type 0 where
  pub bytes : Bytes
  pub script : Option Script
  pub opening : Opening
  pub rans : List Ran
  pub commits : List Entry
  pub state : State
  pub ending : Ending

-- the storages that were declared
abbrev pub decls_in : Option Script → List Decl
decls_in (Some script) = script.decls
decls_in None = []

-- the rounds of a script, if one was read
abbrev pub rounds_of : Option Script → List Round
rounds_of (Some script) = script.rounds
rounds_of None = []

-- the commits that the rounds printed, round by round and worker by worker
abbrev pub printed_in : Course → List Entry
printed_in c = printed_commits 0 c.rans (rounds_of c.script)

-- The bytes are the source's, where it tells them, and the script is that of all of them: it is run only once none is
-- left, and bytes are refused only once they were read out.
pub record IsRead (had left : Option Bytes) (c : Course) : Type 0 where
  pub bytes : AreBytes had c.bytes
  pub script : IfSome c.script (IsTextOf c.bytes)
  pub first : ReadsFirst c.script c.ending had left

-- ---- the sentences

-- The printed commits, in order of number, are one serial run of the script's transactions from the recovered state,
-- with every reply and epochs that never fall. They are in order of draws too, and lie between the clocks of their
-- rounds, of which the first has the epoch after the recovered one.
pub record AreSerial {D : Type 0} (v : Vaults D) (c : Course) : Type 0 where
  pub recovered : (c.rans ≡ [] → ⊥) → HoldsOf v (λ found. IsRecoverable found c.opening.saved c.opening.state)
  pub printed : IsPermutation (printed_in c) c.commits
  pub serial : IsSerialRun (decls_in c.script) c.opening.state c.commits
  pub draws : InOrder (λ e f. e.number.draw < f.number.draw) c.commits
  pub clocks : RunsClocks 0 (clock_after c.opening.saved) c.rans (rounds_of c.script)
  pub after : c.state ≡ state_after_all (decls_in c.script) c.opening.state c.commits

-- Each worker's lines stand once, in order: the rounds that were run are the script's first ones, each line of them has
-- one outcome or answer, and the numbers of a worker rise along its lines and rounds.
pub record LinesStandOnce (c : Course) : Type 0 where
  pub lines : AreOfFirst c.rans (rounds_of c.script)
  pub workers : (worker : ℕ) → Rises (of_worker worker (printed_in c))

-- Each snapshot is that run through its epoch, where that is above the recovered one; that of the recovered one has the
-- recovered state, and an older one is as it was. So it is as the call returns, where no device failed or all was done,
-- and in what each stop leaves.
pub record SnapshotsAreTheRun {D : Type 0} (v : Vaults D) (c : Course) : Type 0 where
  pub returned : IsSound v c.ending → HasEachSnapshot v (decls_in c.script) c.commits
  pub stopped : (rested : AtRest v) (at : Moments) (left : Images) (now : Reading) → MayLeave v rested.from at left
      → IsReading left now
      → EachSnapshot rested.kept.reading now rested.epoch rested.state (decls_in c.script) c.commits

-- After a stop before or within any write, recovery gives exactly the run through the saved epoch, which is at least
-- the one that was recovered as the call began.
abbrev pub StopsLeaveTheRun : {D : Type 0} → Vaults D → Course → Type 0
StopsLeaveTheRun v c = (rested : AtRest v) (at : Moments) (left : Images) → MayLeave v rested.from at left
    → (later : ℕ) × (rested.epoch ≤ later) × IsRunThrough left (decls_in c.script) rested.state c.commits later

-- That epoch covers every line told durable: each epoch that the rounds saved has a store of its own, with the next
-- sequence, and once that has ended no stop leaves an earlier epoch. Beside these stores none is recorded but the
-- settling's and one that failed.
pub record StopsCoverTheTold {D : Type 0} (v : Vaults D) (c : Course) : Type 0 where
  pub recorded : AtRest v → (c.rans ≡ [] → ⊥) → RecordsOf c.opening.sequence c.rans v.is.ties.items
  pub covers : (rested : AtRest v) (i saved : ℕ) → slice_get (flat_map saved_in c.rans) i ≡ Some saved
      → IsCovered v rested.from (c.opening.sequence + 1 + i) saved

-- ---- as the call returns

-- Where no device failed, or all was done, the vault stands for the run through the last epoch that was saved, and has
-- the storages that were declared; and of a run that finished this is the state behind all of it.
pub record StandsForTheRun {D : Type 0} (v : Vaults D) (c : Course) : Type 0 where
  pub stands : IsSound v c.ending → StandsThrough v (decls_in c.script) c.commits c.rans
  pub declared : (c.rans ≡ [] → ⊥) → IsSound v c.ending → HasDeclared v (decls_in c.script)
  pub whole : c.ending ≡ Finished
      → as_of (decls_in c.script) c.opening.state c.commits (last_saved c.opening.saved c.rans) ≡ c.state

-- A stop as the call returns is one of those since it began, where rounds were run, and else where a stop was one as it
-- began. Where no device failed, and the save has one image, nothing that counts is pending: the next run may begin.
-- All that is said of stops is so too while the devices are only read from then on.
pub record RestsBehindTheRun {D : Type 0} (v : Vaults D) (c : Course) : Type 0 where
  pub instant : AtRest v → StopsNow v.clock v.image_at (parts_of v.was) ⊎ (c.rans ≡ [] → ⊥)
      → StopsNow v.clock v.image_at (parts_of v.is)
  pub rests : AtRest v → NoneFailed v → (file : Bytes) → v.image_at v.is.save (v.clock v.is.save) file
      → Only v.clock v.image_at v.is.save file → IsResting v.clock v.image_at (parts_of v.is)
  pub through_reads : (c.rans ≡ [] → ⊥) → StandsThroughReads v (decls_in c.script) c.commits c.opening c.rans

-- ---- one history

-- The commits are those of one history that the workers' threads shared: each is the attempt of its line's transaction,
-- on its worker's seat, whatever the storages are.
abbrev pub ComeFromWords : List Decl → List Entry → Type 0
ComeFromWords decls commits =
    (storages : List Decl) × SameDecls decls storages × ComeFromOne storages commits

-- ---- the main theorem

-- What a call comes to over a source and a vault. Of a source that doesn't tell its bytes there are some of which all
-- of it holds.
pub record Came {D : Type 0} (v : Vaults D) (command : Command) (had left : Option Bytes)
    (Shows : List Ran → Ending → Type 0) : Type 0 where
  pub course : Course
  -- the source was read, and a call may end so
  pub read : IsRead had left course
  pub comes : Comes v command course.bytes course.script course.opening course.rans course.ending
  -- The printed commits, in order of number, are one serial run of the script's transactions from the recovered state,
  -- with every reply and epochs that never fall;
  pub serial : AreSerial v course
  -- each worker's lines stand once, in order;
  pub lines : LinesStandOnce course
  -- each snapshot is that run through its epoch;
  pub snapshots : SnapshotsAreTheRun v course
  -- after a stop before or within any write, recovery gives exactly the run through the saved epoch,
  pub stops : StopsLeaveTheRun v course
  -- which covers every line told durable.
  pub covers : StopsCoverTheTold v course
  -- As the call returns the vault stands for the run, and rests.
  pub kept : StandsForTheRun v course
  pub behind : RestsBehindTheRun v course
  -- The commits are of one history that the threads shared.
  pub history : ComeFromWords (decls_in course.script) (printed_in course)
  -- Each outcome, each answer and each refusal has its cause.
  pub caused : AreCaused v (room_of command) (slots_asked command) (tries_asked command) (decls_in course.script)
      (rounds_of course.script) course.commits course.opening course.rans
  -- It is printed, or told otherwise.
  pub shown : Shows course.rans course.ending
