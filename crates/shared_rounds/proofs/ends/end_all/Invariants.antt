use Rattle.std.proofs.Common.{◌≡◌, ◌≤◌, ◌+◌, ◌-◌, ℕ, List, length, vec_capacity, vec_len}
use Rattle.std.specs.List.{AllByRecursion}
use Rattle.script_grammar.specs.Script.{Round}
use Rattle.engine_pages.specs.Passes.{IsPassOf, view}
use Rattle.engine_pages.specs.declared.view.Role.TheVariants.{Keeper}
use Rattle.engine_pages.specs.declared.view.View.{View}
use Rattle.worker_logs.specs.Logs.{LogState}
use Rattle.shared_rounds.specs.Ended.{EndsOn}
use Rattle.shared_rounds.specs.Seated.{AreRan, MayEnd, backward}
use Rattle.shared_rounds.specs.Seating.{StandsFor}
use Rattle.shared_rounds.proofs.ends.end_all.Given as goal

abbrev pub invariant-loop-cell : goal.invariant-loop-cell
invariant-loop-cell g l = record {
  of : IsPassOf l.engine l.keeper;
  keeper : (view l.keeper).role ≡ Keeper;
  few : vec_len l.cells ≤ 8;
  logs_len : vec_len l.logs + vec_len l.cells ≡ 8;
  banks_len : vec_len l.growing + vec_len l.cells ≡ 8;
  ends_len : length l.ends.items + vec_len l.cells ≡ 8;
  told_len : vec_len l.told + vec_len l.cells ≡ 8;
  desks_len : vec_len l.desks + vec_len l.cells ≡ 8;
  desks_room : 8 ≤ vec_capacity l.desks;
  logs_room : 8 ≤ vec_capacity l.logs;
  banks_room : 8 ≤ vec_capacity l.growing;
  told_room : 8 ≤ vec_capacity l.told;
  cells : AllByRecursion (MayEnd l.engine) l.cells.items;
  ended : (tries : ℕ) (round : Round) (was : View) (logs_was : List LogState) (banks_was : List g.row.D.Denot)
      → StandsFor was (view l.fn.keeper)
      → AreRan g.D.Disk.tells g.D.Disk.clock g.D.Disk.image_at g.D.Disk.faults tries round l.engine was 0
      (backward l.initial.cells.items) logs_was banks_was
      → EndsOn g.D.Disk.tells g.D.Disk.clock g.D.Disk.image_at g.D.Disk.faults tries round l.engine was
      (view l.fn.keeper)
      (view l.keeper) (8 - vec_len l.cells) l.cells.items logs_was l.logs.items banks_was l.growing.items l.told.items
      l.ends.items;
}

abbrev pub decreases-loop-cell : goal.decreases-loop-cell
decreases-loop-cell g l = goal.left-loop-cell g l
