-- What the workers of a round did on their own seats, between two counts of the maintenance thread's pass.
use Rattle.std.specs.Prelude.{◌≡◌, ◌≤◌, ◌+◌, ◌/◌, ◌%◌, ◌^◌, ◌++◌, ℕ, List, [], ◌∷◌, length, map, sum_by}
use Rattle.std.specs.Prelude.{Contains, Option, None, Some, get_or, slice_get, suc, ⊤}
use Rattle.std.specs.List.{AllByRecursion}
use Rattle.lists.specs.Fronts.{IsFront}
use Rattle.serial_model.specs.declared.number.Number.{Number}
use Rattle.serial_model.specs.declared.op.Op.{Op}
use Rattle.wire_form.specs.LogFile.{IsLineOf}
use Rattle.wire_form.specs.Words.{IsMark}
use Rattle.commit_core.specs.declared.seat.Mark.{Mark}
use Rattle.engine_seats.specs.Cuts.{HasSeen}
use Rattle.engine_seats.specs.Gathered.{gathered_all}
use Rattle.engine_seats.specs.Counts.{HasAudited}
use Rattle.engine_pages.specs.declared.view.Role.TheVariants.{Keeper, Worker}
use Rattle.engine_pages.specs.declared.view.Touch.{Touch}
use Rattle.engine_pages.specs.declared.view.View.{View}
use Rattle.engine_pages.specs.Views.{bare_seat}
use Rattle.worker_cells.specs.Below.{blames_of}
use Rattle.worker_cells.specs.Cells.{core_of, epochs_of}
use Rattle.worker_cells.specs.InARow.{IsTakenBy}
use Rattle.worker_cells.specs.Rows.{AreInARow, IsSince, LineRan, draws_of, lines_of, logged_of, outcomes_of, refused_of}
use Rattle.worker_cells.specs.Rows.{readied_of, unrun}
use Rattle.worker_logs.specs.Shown.{Stood}
use Rattle.tx_script.specs.Readied.{AreReadied}
use Rattle.tx_script.specs.Seen.{AreMarksInOrder}
use Rattle.tx_script.specs.Run.{LogRefusal, TryRefusal}
use Rattle.shared_rounds.specs.Refusals.{causes_of, try_refusal}
use Rattle.shared_rounds.specs.SharedState.{IsCounted}
use Rattle.shared_rounds.specs.Shares.{BeginsAt, Share}

-- ---- one worker

-- A worker's part of a round: the lines that were run, the marks of its log that the words showed meanwhile, the lines
-- that were left out as its log was refused so, and what its pass knew as it was seated and behind the lines.
pub record Part : Type 0 where
  pub ran : List LineRan
  pub marks : List Stood
  pub left : List (List Op)
  pub refusal : Option LogRefusal
  pub from : View
  pub to : View

-- the refusals of each line's tries
abbrev pub tries_of : List LineRan → List (List TryRefusal)
tries_of ran = map (λ (line : LineRan). map try_refusal line.refused) ran

-- lines that were left out have none
abbrev pub no_tries : List (List Op) → List (List TryRefusal)
no_tries left = map (λ ops. []) left

-- its share
abbrev pub share_of : Part → Share
share_of p = record {
  lines = lines_of p.ran ++ p.left;
  outcomes = outcomes_of p.ran ++ unrun p.left;
  tries_refused = tries_of p.ran ++ no_tries p.left;
  refusal = p.refusal;
  logged = logged_of p.ran;
  marks = p.marks;
  readied = readied_of p.from p.ran;
}

-- The pass of the worker as its lines begin, by the view that the keeper had as the round began.
pub record IsSeatedFrom (was : View) (worker : ℕ) (from : View) : Type 0 where
  pub role : from.role ≡ Worker worker
  pub epoch : from.epoch ≡ was.epoch
  pub layout : from.layout ≡ was.layout
  pub seen : HasSeen was from
  pub mine : from.mine ≡ []
  pub draws : from.draws ≡ 0
  pub refused : from.refused ≡ []
  pub touched : from.touched ≡ []
  pub blamed : from.blamed ≡ []

-- the marks that the worker's seat had set as the keeper had this view
abbrev pub marks_parked : View → ℕ → List Mark
marks_parked v worker = (get_or v.parked worker bare_seat).marks

-- The part of the worker, who was seated by the keeper that had the one view as the round began, and is taken into the
-- other.
pub record IsPart (tries : ℕ) (was ended : View) (worker : ℕ) (p : Part) : Type 0 where
  pub seated : IsSeatedFrom was worker p.from
  pub row : AreInARow tries p.from p.ran p.to
  pub since : AllByRecursion (λ (line : LineRan). IsSince was.epoch line.outcome) p.ran
  pub lines_are : AllByRecursion (IsLineOf was.layout.decls) (logged_of p.ran)
  pub all : p.refusal ≡ None → p.left ≡ []
  pub seen : HasSeen p.to ended
  pub words : p.to.seat.marks ≡ marks_parked was worker ++ map core_of p.marks
  pub small : AllByRecursion (λ (m : Stood). IsMark m.mark) p.marks
  pub begins : BeginsAt was.epoch (lines_of p.ran ++ p.left) p.marks
  pub rise : AreMarksInOrder (epochs_of p.marks)
  pub readied : AreReadied was.epoch 0 (epochs_of p.marks) (readied_of p.from p.ran)
      (outcomes_of p.ran ++ unrun p.left)

-- the parts of the workers from this one on
abbrev pub AreParts : ℕ → View → View → ℕ → List Part → Type 0
AreParts tries was ended worker [] = ⊤
AreParts tries was ended worker (p ∷ parts) =
    IsPart tries was ended worker p × AreParts tries was ended (worker + 1) parts

-- ---- the keeper's

-- the number that the clock's word has
abbrev pub clock_number : ℕ → Number
clock_number n = record { epoch = n / 2 ^ 40; draw = n % 2 ^ 40 }

-- the number is the clock's, of which the view knows each draw
pub record IsClockOf (clock : Number) (v : View) : Type 0 where
  pub epoch : clock.epoch ≡ v.epoch
  pub draw : clock.draw ≡ v.layout.first.draw + length v.history

-- how many numbers were drawn for the lines that were run
abbrev pub drawn_in_all : List Part → ℕ
drawn_in_all parts = sum_by (λ (p : Part). draws_of p.ran) parts

-- each lock that the keeper's pass has gathered was taken by a line of one of these parts
abbrev pub TouchesAre : List Part → View → Type 0
TouchesAre parts v = (t : Touch) → Contains v.touched t
    → (worker : ℕ) × (p : Part) × (slice_get parts worker ≡ Some p) × IsTakenBy (suc worker) p.ran t

-- and it has gathered at which keys tries of these lines met others
abbrev pub HasBlames : List Part → View → Type 0
HasBlames parts v = (worker : ℕ) (p : Part) → slice_get parts worker ≡ Some p
    → (b : Touch) → Contains (blames_of (suc worker) (refused_of p.ran)) b → Contains v.blamed b

-- Between two counts eight workers were seated, and taken in again with these parts; the keeper may have gone on to
-- later epochs meanwhile. Numbers were drawn for their lines alone, and where no pages were dropped meanwhile, locks were
-- taken for them alone.
pub record IsRound (tries : ℕ) (was now : View) (parts : List Part) : Type 0 where
  pub counted : IsCounted was
  pub eight : length parts ≡ 8
  pub ended : View
  pub parts_are : AreParts tries was ended 0 parts
  pub layout : ended.layout ≡ was.layout
  pub role : ended.role ≡ Keeper
  pub made : ended.made ≡ []
  pub epoch : was.epoch ≤ ended.epoch
  pub gathers : ended.mine ≡ gathered_all was.mine (map (λ (p : Part). p.to.mine) parts)
  pub seen : HasSeen was ended
  pub refused : ended.refused
      ≡ was.refused ++ causes_of (map (λ (share : Share). share.tries_refused) (map share_of parts))
  pub draws : ended.draws ≡ was.draws + drawn_in_all parts
  pub drops : IsFront was.drops ended.drops
  pub touched : ended.drops ≡ was.drops → TouchesAre parts ended
  pub blamed : HasBlames parts ended
  pub clock : ℕ
  pub count : ℕ
  pub audited : HasAudited ended clock count now
