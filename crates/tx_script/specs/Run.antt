-- Runs of a script: the rounds that were run, with what came of each line, and the order in which their commits are
-- serial.
use Rattle.std.specs.Prelude.{◌≡◌, ℕ, ◌+◌, ◌<◌, ◌≤◌, ◌==◌, Bool, true, false, Option, Some, ⊤, IsTrue}
use Rattle.std.specs.Prelude.{List, [], ◌∷◌, ◌++◌, length, filter, slice_get}
use Rattle.std.specs.List.{AllByRecursion}
use Rattle.std.specs.List.Sorted.{IsPermutation}
use Rattle.lists.specs.Each.{all_at, all_weaker}
use Rattle.serial_model.specs.Keys.{fits}
use Rattle.serial_model.specs.State.{State}
use Rattle.serial_model.specs.History.{Entry, InOrder, Rises, IsSerialRun, state_after_all}
use Rattle.serial_model.specs.declared.key.Key.{Key}
use Rattle.serial_model.specs.declared.op.Op.{Op}
use Rattle.serial_model.specs.declared.decl.Decl.{Decl}
use Rattle.serial_model.specs.declared.number.Number.{Number}
use Rattle.script_grammar.specs.Script.{Line, Worker, Keeper, Round, Script, keeper_lines, worker_lines}
use Rattle.script_grammar.specs.Script.{IsLine, IsOp, IsRound, IsScript}
use Rattle.script_grammar.specs.declared.lines.KeeperLine.{KeeperLine}
use Rattle.outside.specs.declared.device.Device.{Device}
use Rattle.tx_script.specs.declared.answer.Answer.{Answer}
use Rattle.tx_script.specs.declared.answer.Answer.TheVariants as answers
use Rattle.tx_script.specs.declared.outcome.Outcome.{Outcome}
use Rattle.tx_script.specs.declared.outcome.Outcome.TheVariants.{Committed, Limit}

-- Why a worker's log takes no more lines: its log file failed, or it may get no longer than it is.
pub data LogRefusal : Type 0 where
  LogFailed : LogRefusal
  LogFull : ℕ → LogRefusal

-- A set of a transaction: of the records and headers that it read, of its writes, of the pointers that it met, and of
-- the slots that it holds.
pub data FullSet : Type 0 where
  OfReads : FullSet
  OfWrites : FullSet
  OfPointers : FullSet
  OfHolds : FullSet

-- Where a try was in conflict: at the record of this key of an array; at a pointer on the way to this key; in a leaf of
-- a tree on the way to this key, at its header or at the record of a key; or at the word of a slot that it was to be
-- given.
pub data Where : Type 0 where
  AtRecord : Key → Where
  OnWay : Key → Where
  InLeaf : Key → Where
  AtSlot : Where

-- A conflict: where it was, and the number of the word among all that threads share; what the word was expected to be
-- and what it was; and `drew` where the try had drawn its number by then.
pub record Met : Type 0 where
  pub at : Where
  pub word : ℕ
  pub expected : ℕ
  pub seen : ℕ
  pub drew : Bool

-- Why a try of a line was refused: it was in conflict; it was to be given a slot for a page, and the slots had these
-- words, one for each; it needed more than this set has room for; or the clock had this word, and gave it no number.
pub data TryRefusal : Type 0 where
  InConflict : Met → TryRefusal
  NoSlot : List ℕ → TryRefusal
  NoRoom : FullSet → TryRefusal
  NoNumber : ℕ → TryRefusal

-- How many pages a drop took out of memory, and how many it kept.
pub record Dropped : Type 0 where
  pub dropped : ℕ
  pub kept : ℕ

-- The log files at the begin of a round: of each worker that of odd number grows, or that of even number; the other
-- one is closed, and counts so many bytes, with all its worker's commits since the swap before up to an epoch.
pub record LogFiles : Type 0 where
  pub odd : Bool
  pub counted : List ℕ
  pub closed_at : ℕ

-- What is printed of a round, and the clock that its numbers lie between.
pub record RanPrinted : Type 0 where
  -- the number that the clock would give at its begin and at its end
  pub begin : Number
  pub end : Number
  -- each worker's outcomes in the order of its lines, for workers 0 to 7
  pub outcomes : List (List Outcome)
  -- what its keeper lines asked for and the answers to them, in their order
  pub asked : List KeeperLine
  pub answers : List Answer
  -- the epoch that was made durable
  pub durable : Option ℕ

-- What a worker had as a line began that was run: the clock's epoch that it loaded before it, and the place of its mark
-- among the marks that it had in the round.
pub record Readied : Type 0 where
  pub epoch : ℕ
  pub place : ℕ

-- What stands beside it and isn't printed: what it began with, what it met on the way, and which devices failed.
pub record RanBeside : Type 0 where
  -- At its begin: the sequence of the newest savepoint, how many pages of snapshots there are and how many are let in,
  -- how many slots there are for pages in memory, and the log files.
  pub sequence : ℕ
  pub pages : ℕ
  pub room : ℕ
  pub slots : ℕ
  pub files : LogFiles
  -- of each worker the epochs of the marks that it had while the lines ran, none for an idle one, the first being that
  -- at the begin, and what refused its log, if anything did
  pub marks : List (List (Option ℕ))
  pub logs : List (Option LogRefusal)
  -- of each worker what it had loaded as each of its lines began that was run, and of each save of the maintenance
  -- thread that was run the places of the marks that it saw, by worker
  pub readied : List (List Readied)
  pub seen : List (List ℕ)
  -- how often a line might be tried, and of each worker, of each of its lines, what refused its tries, in their order
  pub tries : ℕ
  pub refused : List (List (List TryRefusal))
  -- what its gleans found that the next snapshot comes to: so many pages, or none where one would stand too deep
  pub gleans : List (Option ℕ)
  -- what its drops of pages added to the counts that the maintenance thread keeps, in their order
  pub drops : List Dropped
  -- the devices that failed, and one that was found damaged, with the byte from which on it is
  pub devices : List Device
  pub damaged : Option (Device × ℕ)

-- What came of a round: what is printed of it, and what stands beside.
pub record Ran : Type 0 where
  pub printed : RanPrinted
  pub beside : RanBeside

-- for each list of lines one of outcomes, of the same length
abbrev pub OneForEach : List (List (List Op)) → List (List Outcome) → Type 0
OneForEach [] [] = ⊤
OneForEach (lines ∷ more) (outcomes ∷ others) = (length outcomes ≡ length lines) × OneForEach more others
OneForEach [] (outcomes ∷ others) = ⊥
OneForEach (lines ∷ more) [] = ⊥

-- each worker's line of the round has an outcome, and each keeper line an answer
pub record IsOfRound (ran : Ran) (round : Round) : Type 0 where
  pub outcomes : OneForEach (worker_lines round) ran.printed.outcomes
  pub asked : ran.printed.asked ≡ keeper_lines round
  pub answers : length ran.printed.answers ≡ length (keeper_lines round)

-- the rounds that were run are the first ones
abbrev pub AreOfFirst : List Ran → List Round → Type 0
AreOfFirst [] rounds = ⊤
AreOfFirst (ran ∷ rans) (round ∷ rounds) = IsOfRound ran round × AreOfFirst rans rounds
AreOfFirst (ran ∷ rans) [] = ⊥

-- ---- outcomes

-- the outcome is a commit
abbrev pub is_commit : Outcome → Bool
is_commit (Committed verdict number replies) = true
is_commit _ = false

-- the line was refused a number
abbrev pub is_limit : Outcome → Bool
is_limit Limit = true
is_limit _ = false

-- ---- commits

-- the commit that an outcome tells, if it tells one
abbrev pub entries_of_line : ℕ → ℕ → ℕ → List Op → Outcome → List Entry
entries_of_line round worker line ops (Committed verdict number replies) = record {
  round = round;
  worker = worker;
  line = line;
  ops = ops;
  verdict = verdict;
  number = number;
  replies = replies;
} ∷ []
entries_of_line round worker line ops _ = []

-- the commits of a worker's lines from this one on
abbrev pub entries_of_worker : ℕ → ℕ → ℕ → List Outcome → List (List Op) → List Entry
entries_of_worker round worker line [] lines = []
entries_of_worker round worker line (outcome ∷ outcomes) [] = []
entries_of_worker round worker line (outcome ∷ outcomes) (ops ∷ lines) =
    entries_of_line round worker line ops outcome ++ entries_of_worker round worker (line + 1) outcomes lines

-- the commits of the workers from this one on, one worker after another
abbrev pub entries_of_workers : ℕ → ℕ → List (List Outcome) → List (List (List Op)) → List Entry
entries_of_workers round worker [] lines = []
entries_of_workers round worker (outcomes ∷ others) [] = []
entries_of_workers round worker (outcomes ∷ others) (lines ∷ more) =
    entries_of_worker round worker 0 outcomes lines ++ entries_of_workers round (worker + 1) others more

-- the commits of a round as they are printed
abbrev pub entries_of_round : ℕ → Ran → Round → List Entry
entries_of_round index ran round = entries_of_workers index 0 ran.printed.outcomes (worker_lines round)

-- all commits as they are printed, of rounds that are counted from index on
abbrev pub printed_commits : ℕ → List Ran → List Round → List Entry
printed_commits index [] rounds = []
printed_commits index (ran ∷ rans) [] = []
printed_commits index (ran ∷ rans) (round ∷ rounds) =
    entries_of_round index ran round ++ printed_commits (index + 1) rans rounds

-- the commits of a worker
abbrev pub of_worker : ℕ → List Entry → List Entry
of_worker worker = filter (λ e. e.worker == worker)

-- ---- clocks

-- from the clock at the begin on, and before the clock at the end
pub record IsBetween (begin end n : Number) : Type 0 where
  pub epoch_from : begin.epoch ≤ n.epoch
  pub epoch_to : n.epoch ≤ end.epoch
  pub draw_from : begin.draw ≤ n.draw
  pub draw_before : n.draw < end.draw

-- the epoch rises from the first to the last by one with each answer that names an epoch, which is the new one
abbrev pub AdvancesTo : ℕ → List Answer → ℕ → Type 0
AdvancesTo first [] last = last ≡ first
AdvancesTo first (answers.Epoch epoch ∷ more) last = (epoch ≡ first + 1) × AdvancesTo epoch more last
AdvancesTo first (_ ∷ more) last = AdvancesTo first more last

-- the epoch rises with the round's answers alone, and the numbers of its commits lie between its begin and its end
pub record RunsClock (index : ℕ) (ran : Ran) (round : Round) : Type 0 where
  pub epoch : AdvancesTo ran.printed.begin.epoch ran.printed.answers ran.printed.end.epoch
  pub draw : ran.printed.begin.draw ≤ ran.printed.end.draw
  pub numbers : AllByRecursion (λ e. IsBetween ran.printed.begin ran.printed.end e.number)
      (entries_of_round index ran round)

-- a join advances the epoch by one, and the draws go on
abbrev pub joined : Number → Number
joined clock = record { epoch = clock.epoch + 1; draw = clock.draw }

-- each round begins with the clock that the join before it left, the first one with this clock
abbrev pub RunsClocks : ℕ → Number → List Ran → List Round → Type 0
RunsClocks index clock [] rounds = ⊤
RunsClocks index clock (ran ∷ rans) [] = ⊥
RunsClocks index clock (ran ∷ rans) (round ∷ rounds) =
    (ran.printed.begin ≡ clock) × RunsClock index ran round
    × RunsClocks (index + 1) (joined ran.printed.end) rans rounds

-- ---- runs

-- What was run of rounds, counted from index on, from the state s and the clock to the state t: one outcome or
-- answer for each line, commits whose numbers rise for each worker, and an order of all of them in which they are
-- one serial run.
pub record IsRun (decls : List Decl) (index : ℕ) (rounds : List Round) (s : State) (clock : Number)
    (rans : List Ran) (t : State) : Type 0 where
  pub lines : AreOfFirst rans rounds
  pub workers : (worker : ℕ) → Rises (of_worker worker (printed_commits index rans rounds))
  pub clocks : RunsClocks index clock rans rounds
  pub ordered : List Entry
  pub same : IsPermutation (printed_commits index rans rounds) ordered
  pub serial : IsSerialRun decls s ordered
  pub draws : InOrder (λ e f. e.number.draw < f.number.draw) ordered
  pub after : t ≡ state_after_all decls s ordered

-- the first clock after a saved epoch: the epoch after it, at the first draw
abbrev pub clock_after : ℕ → Number
clock_after saved = record { epoch = saved + 1; draw = 1 }

-- a run of a script, from the state s as of the saved epoch, to the state t
abbrev pub IsScriptRun : Script → State → ℕ → List Ran → State → Type 0
IsScriptRun script s saved rans t = IsRun script.decls 0 script.rounds s (clock_after saved) rans t

-- ---- what can be run

-- a transaction of a worker from 0 to 7 whose operations fit
pub record CanRunOps (decls : List Decl) (w : ℕ) (os : List Op) : Type 0 where
  pub worker : w < 8
  pub few : length os ≤ 16
  pub fitting : AllByRecursion (λ op. IsTrue (fits decls op)) os

-- a line that can be run
abbrev pub CanRunLine : List Decl → Line → Type 0
CanRunLine decls (Worker worker ops) = CanRunOps decls worker ops
CanRunLine decls (Keeper line) = ⊤

-- a round that a runtime with these storages can run
pub record CanRun (decls : List Decl) (round : Round) : Type 0 where
  pub few_lines : length round.lines ≤ 65536
  pub lines : AllByRecursion (CanRunLine decls) round.lines

-- ---- the rounds of a script can be run

-- a line by the rules can be run
can_run_line : (decls : List Decl) (line : Line) → IsLine decls line → CanRunLine decls line
can_run_line decls (Worker worker ops) rules = record {
  worker = rules.worker;
  few = rules.few_ops;
  fitting = all_weaker (IsOp decls) (λ op. IsTrue (fits decls op)) (λ op r. r.fitting) ops rules.ops;
}
can_run_line decls (Keeper line) rules = rules

-- a round of a script can be run over its declarations
pub can_run : (script : Script) (index : ℕ) (round : Round) → IsScript script
    → slice_get script.rounds index ≡ Some round → CanRun script.decls round
can_run script index round rules at =
    let r : IsRound script.decls round = all_at (IsRound script.decls) script.rounds index round rules.rounds at in
    record {
      few_lines = r.few_lines;
      lines = all_weaker (IsLine script.decls) (CanRunLine script.decls) (can_run_line script.decls) round.lines
          r.lines;
    }
