-- Why a round came as it did: the epochs that it saved, the marks of its workers, the tries of its lines, and its log
-- files.
use Rattle.std.specs.Prelude.{◌≡◌, ◌+◌, ◌-◌, ◌<◌, ◌++◌, ℕ, List, [], ◌∷◌, length, option_to_list, slice_get, Bool}
use Rattle.std.specs.Prelude.{filter, nat_lt, Option, Some, None, ⊤}
use Rattle.std.specs.List.{AllByRecursion, Contains}
use Rattle.serial_model.specs.History.{Entry}
use Rattle.serial_model.specs.State.{State}
use Rattle.serial_model.specs.declared.decl.Decl.{Decl}
use Rattle.serial_model.specs.declared.number.Commit.{Commit}
use Rattle.script_grammar.specs.Script.{Round, lines_of_worker}
use Rattle.tx_script.specs.Run.{LogFull, Ran}
use Rattle.tx_script.specs.Causes.{AllCaused}
use Rattle.tx_script.specs.CausedBeside.{CausedBeside}
use Rattle.tx_script.specs.Conflicts.{AreMet}
use Rattle.tx_script.specs.Draws.{DrawsAreCounted}
use Rattle.tx_script.specs.declared.outcome.Outcome.{Outcome}
use Rattle.tx_script.specs.declared.outcome.Outcome.TheVariants.{Unrun}
use Rattle.wire_form.specs.LogFile.{lines_bytes}
use Rattle.round_engine.specs.Changes.{AreLogged}
use Rattle.round_engine.specs.Ends.{durable_of, end_of}
use Rattle.round_engine.specs.RanRound.{AreRoundMarks}
use Rattle.round_engine.specs.Saves.{saves_told}
use Rattle.command_line.specs.declared.command.Command.{Command}
use Rattle.command_line.specs.declared.command.Command.TheVariants.{Run}
use Rattle.program_calls.specs.Beginning.{Opening, SameDecls}
use Rattle.program_calls.specs.RanOver.{RunsOverFiles}
use Rattle.program_calls.specs.Vaults.{HoldsOf, Vaults}

-- the epochs that a round saved, by lines of the maintenance thread and by its join, in their order
abbrev pub saved_in : Ran → List ℕ
saved_in ran = saves_told ran.printed.answers ++ option_to_list ran.printed.durable

-- the newest savepoint has this sequence at the begin of the first round, and one more with each that is stored
abbrev pub SequencesFrom : ℕ → List Ran → Type 0
SequencesFrom sequence [] = ⊤
SequencesFrom sequence (ran ∷ rans) =
    (ran.beside.sequence ≡ sequence) × SequencesFrom (sequence + length (saved_in ran)) rans

-- The marks that the workers had in a round: without a line in it a worker is idle; else its first mark is of the epoch
-- before the round's. So as a worker draws a number for a line, its mark's epoch is at least the clock's that it read
-- before that line, less 1.
pub record IsMarked (round : Round) (ran : Ran) : Type 0 where
  pub workers : length ran.beside.marks ≡ 8
  pub marks : (worker : ℕ) (epochs : List (Option ℕ)) → slice_get ran.beside.marks worker ≡ Some epochs
      → AreRoundMarks (lines_of_worker round worker) (Some (ran.printed.begin.epoch - 1)) ran.printed.begin.epoch
      ran.printed.end.epoch epochs

-- so they are in the first of these rounds
abbrev pub AreMarked : List Ran → List Round → Type 0
AreMarked [] rounds = ⊤
AreMarked (ran ∷ rans) (round ∷ rounds) = IsMarked round ran × AreMarked rans rounds
AreMarked (ran ∷ rans) [] = ⊥

-- the join made durable what it could, and where nothing ends the run, the round's last epoch
pub record IsDurable (ran : Ran) : Type 0 where
  pub as_told : ran.printed.durable ≡ durable_of ran
  pub lasts : end_of ran ≡ None → ran.printed.durable ≡ Some ran.printed.end.epoch

-- how often a line may be tried
abbrev pub tries_asked : Command → ℕ
tries_asked (Run options) = options.tries
tries_asked _ = 1

-- how many slots there are to be
abbrev pub slots_asked : Command → ℕ
slots_asked (Run options) = options.slots
slots_asked _ = 0

-- each round has so many slots
abbrev pub HaveSlots : ℕ → List Ran → Type 0
HaveSlots slots rans = AllByRecursion (λ ran. ran.beside.slots ≡ slots) rans

-- In the first of these rounds each try in conflict at a record of an array met a line of another worker of its round,
-- or pages were dropped in the round; of one in conflict at a pointer, a slot or a word of a tree nobody is told; a line
-- that found no slot may change some key; and one that filled a set has an operation on a tree.
abbrev pub AllMet : List Decl → List Ran → List Round → Type 0
AllMet decls [] rounds = ⊤
AllMet decls (ran ∷ rans) (round ∷ rounds) = AreMet decls ran round × AllMet decls rans rounds
AllMet decls (ran ∷ rans) [] = ⊥

-- A log file that a round told full left a line of its worker out: one is told unrun.
abbrev pub FullLeavesUnrun : Ran → Type 0
FullLeavesUnrun ran = (worker size : ℕ) (outcomes : List Outcome) → worker < 8
    → slice_get ran.printed.outcomes worker ≡ Some outcomes
    → slice_get ran.beside.logs worker ≡ Some (Some (LogFull size)) → Contains outcomes Unrun

-- Each outcome and each answer of the rounds has its cause, as has each epoch that was made durable; by the sequences
-- of the savepoints, the marks of the workers, how often a line may be tried, and how many slots there are, which these
-- causes speak of. Each number of a round was drawn for one of its commits, or for a try that was refused behind its
-- draw. A try in conflict at a record of an array met a line of another worker of its round, at a key that it touches
-- and that one may change, or touches a key there in a round in which pages were dropped; of one in conflict at a
-- pointer, a slot or a word of a tree nobody is told. A line that found no slot may change some key, and one that filled
-- a set has an operation on a tree. Saves that may run beside the workers name the least of the clock's epoch less 1 and
-- of the marks that they saw; drops of pages answer what the maintenance thread counted of them.
-- A log file is told full only where a line of its worker is told unrun.
pub record AreRoundsCaused (slots tries : ℕ) (decls : List Decl) (rounds : List Round) (opening : Opening)
    (rans : List Ran) : Type 0 where
  pub caused : AllByRecursion AllCaused rans
  pub beside : AllByRecursion CausedBeside rans
  pub durable : AllByRecursion IsDurable rans
  pub sequences : SequencesFrom opening.sequence rans
  pub marks : AreMarked rans rounds
  pub tried : AllByRecursion (λ ran. ran.beside.tries ≡ tries) rans
  pub counted : AllByRecursion DrawsAreCounted rans
  pub met : AllMet decls rans rounds
  pub slotted : HaveSlots slots rans
  pub filled : AllByRecursion FullLeavesUnrun rans

-- the commit has an epoch above this one
abbrev pub is_since : ℕ → Commit → Bool
is_since epoch c = nat_lt epoch c.number.epoch

-- A log file that was told full in a round: the lines that its worker logged in the run, since the closed log files
-- were closed, are so many bytes. No device has to tell its own for that.
abbrev pub AreFull : List Decl → State → List Entry → Ran → Type 0
AreFull decls s commits ran = (worker size : ℕ) → worker < 8
    → slice_get ran.beside.logs worker ≡ Some (Some (LogFull size)) → (storages : List Decl) × SameDecls decls storages
    × (logged : List Commit) × AreLogged storages worker s commits logged
    × (size ≡ length (lines_bytes (filter (is_since ran.beside.files.closed_at) logged)))

-- no closed log file was found damaged
abbrev pub IsUndamaged : Ran → Type 0
IsUndamaged ran = ran.beside.damaged ≡ None

-- Each log file that the rounds of a course told full is so long, also where the devices tell nothing. Where they told
-- what they had, no log file was found damaged.
abbrev pub FilesAreFull : {D : Type 0} (v : Vaults D) (decls : List Decl) (commits : List Entry) (opening : Opening)
    (rans : List Ran) → Type 0
FilesAreFull v decls commits opening rans = AllByRecursion (AreFull decls opening.state commits) rans
    × HoldsOf v (λ found. AllByRecursion IsUndamaged rans)

-- What came of the rounds has its cause, a log file that was told full is so long, none was found damaged where the
-- devices told what they had, and the log files and pages that the rounds were over are those that their swaps and
-- gleans left.
pub record AreCaused {D : Type 0} (v : Vaults D) (room slots tries : ℕ) (decls : List Decl) (rounds : List Round)
    (commits : List Entry) (opening : Opening) (rans : List Ran) : Type 0 where
  pub in_rounds : AreRoundsCaused slots tries decls rounds opening rans
  pub full : FilesAreFull v decls commits opening rans
  pub files : RunsOverFiles v room decls opening.state opening.saved commits rans
