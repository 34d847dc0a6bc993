-- What comes of a worker's lines on words that threads share, one after another.
use Rattle.std.specs.Prelude.{◌≡◌, ◌+◌, ◌-◌, ◌≤◌, ◌++◌, ℕ, List, [], ◌∷◌, cond, filter_map, flat_map, length, map}
use Rattle.std.specs.Prelude.{sum_by, Option, Some, None, ⊤}
use Rattle.serial_model.specs.declared.number.Change.{Change}
use Rattle.serial_model.specs.declared.number.Commit.{Commit}
use Rattle.serial_model.specs.declared.op.Op.{Op}
use Rattle.engine_pages.specs.declared.view.View.{View}
use Rattle.engine_seats.specs.Cuts.{HasSeen}
use Rattle.tx_runner.specs.LineEnds.{HasCommittedLine}
use Rattle.tx_runner.specs.Tries.{HasConflicted, IsAtLimit, IsFullAt, IsWideAt, Lost, ToClock, ToSet, ToSlots, lost_to}
use Rattle.tx_script.specs.Readied.{Readied}
use Rattle.tx_script.specs.Run.{is_commit}
use Rattle.tx_script.specs.declared.outcome.Outcome.{Outcome}
use Rattle.tx_script.specs.declared.outcome.Outcome.TheVariants.{Committed, Conflict, Full, Wide, Limit, Unrun}

-- ---- one line

-- what the log gets of a commit with these changes: nothing where there are none
abbrev pub logged_by : Commit → List Change → Option Commit
logged_by commit [] = None
logged_by commit (first ∷ more) = Some commit

-- What came of a line with so many tries, from the one view to the other: its outcome, the refusals of its tries, and
-- what the log gets. A line that was left out isn't run.
abbrev pub ComesOf : ℕ → List Op → Outcome → List Lost → Option Commit → View → View → Type 0
ComesOf tries ops (Committed verdict number replies) refused logged v w =
    (commit : Commit) × (commit.number ≡ number) × (logged ≡ logged_by commit commit.changes)
    × (line : HasCommittedLine ops tries verdict replies commit v w) × (refused ≡ line.losts)
ComesOf tries ops Conflict refused logged v w =
    (logged ≡ None) × (line : HasConflicted ops tries v w) × (refused ≡ line.losts)
ComesOf tries ops Limit refused logged v w =
    (logged ≡ None) × (line : IsAtLimit ops tries v w)
    × (refused ≡ line.refused.losts ++ ToClock line.clock ∷ [])
ComesOf tries ops Full refused logged v w =
    (logged ≡ None) × (line : IsFullAt ops tries v w)
    × (refused ≡ line.refused.losts ++ ToSlots line.words ∷ [])
ComesOf tries ops Wide refused logged v w =
    (logged ≡ None) × (line : IsWideAt ops tries v w)
    × (refused ≡ line.refused.losts ++ ToSet line.set ∷ [])
ComesOf tries ops Unrun refused logged v w = ⊥

-- if the line was committed, its epoch is this one or a later one
abbrev pub IsSince : ℕ → Outcome → Type 0
IsSince epoch (Committed verdict number replies) = epoch ≤ number.epoch
IsSince epoch Conflict = ⊤
IsSince epoch Full = ⊤
IsSince epoch Wide = ⊤
IsSince epoch Limit = ⊤
IsSince epoch Unrun = ⊤

-- a line that was run, with what came of it, and the views between which it was run
pub record LineRan : Type 0 where
  pub ops : List Op
  pub outcome : Outcome
  pub refused : List Lost
  pub logged : Option Commit
  pub before : View
  pub after : View

-- ---- lines in a row

-- Between two lines a pass loads the clock and sets its mark: of its commits, refusals, draws and locks none is new.
pub record Goes (v w : View) : Type 0 where
  pub seen : HasSeen v w
  pub layout : w.layout ≡ v.layout
  pub role : w.role ≡ v.role
  pub mine : w.mine ≡ v.mine
  pub refused : w.refused ≡ v.refused
  pub draws : w.draws ≡ v.draws
  pub touched : w.touched ≡ v.touched
  pub blamed : w.blamed ≡ v.blamed

-- the lines were run one after another, each with so many tries, from the one view to the other
abbrev pub AreInARow : ℕ → View → List LineRan → View → Type 0
AreInARow tries v [] w = Goes v w
AreInARow tries v (ran ∷ more) w =
    Goes v ran.before × ComesOf tries ran.ops ran.outcome ran.refused ran.logged ran.before ran.after
    × AreInARow tries ran.after more w

-- the operations of lines
abbrev pub lines_of : List LineRan → List (List Op)
lines_of ran = map (λ (line : LineRan). line.ops) ran

-- what came of them
abbrev pub outcomes_of : List LineRan → List Outcome
outcomes_of ran = map (λ (line : LineRan). line.outcome) ran

-- the refusals of their tries
abbrev pub refused_of : List LineRan → List Lost
refused_of ran = flat_map (λ (line : LineRan). line.refused) ran

-- what their log gets
abbrev pub logged_of : List LineRan → List Commit
logged_of ran = filter_map (λ (line : LineRan). line.logged) ran

-- what the worker had as each of them began: the clock's epoch that it had loaded, and the place of its mark among
-- those of the round, the first one being the last that its seat had in this view
abbrev pub readied_of : View → List LineRan → List Readied
readied_of v ran = map (λ (line : LineRan). record {
  epoch = line.before.epoch;
  place = length line.before.seat.marks - length v.seat.marks;
}) ran

-- how many numbers were drawn for a line: one for its commit, and those of its tries that were refused behind a draw
abbrev pub drawn_in : LineRan → ℕ
drawn_in line = cond (is_commit line.outcome) 1 0 + lost_to line.refused

-- and for the lines
abbrev pub draws_of : List LineRan → ℕ
draws_of ran = sum_by drawn_in ran

-- the outcomes of lines that were left out
abbrev pub unrun : List (List Op) → List Outcome
unrun lines = map (λ ops. Unrun) lines
