-- The first lines of the maintenance thread were run and answered, beside the workers'.
use Rattle.std.proofs.Common.{◌≡◌, ◌≤◌, None, take}
use Rattle.engine_pages.specs.Passes.{IsPassOf, view}
use Rattle.shared_rounds.specs.Below.{IsTold, calls_in}
use Rattle.round_engine.specs.RoundCalls.{is_answered}
use Rattle.std.specs.Prelude.{vec_capacity}
use Rattle.std.specs.List.{filter_map}
use Rattle.script_grammar.specs.Script.{keeper_line_of}
use Rattle.round_engine.specs.Ends.{save_limited}
use Rattle.round_engine.specs.SideLines.{AreSameLoans, RunLinesBeside}
use Rattle.round_engine.proofs.keeper_side.run_keeper_beside.Given as goal

abbrev pub invariant-loop-index : goal.invariant-loop-index
invariant-loop-index g l = record {
  of : IsPassOf l.engine l.keeper;
  runs : RunLinesBeside g.D.Disk.tells g.D.Disk.clock g.D.Disk.image_at g.D.Disk.faults l.decls
      (filter_map keeper_line_of (take l.index l.round.lines)) l.answers.items l.end.refusal l.fn.lent l.lent
      (view l.fn.keeper) (view l.keeper) l.fn.vault l.vault;
  limited : l.end.limited ≡ save_limited (filter_map keeper_line_of (take l.index l.round.lines)) l.answers.items;
  capacity : vec_capacity l.answers ≡ vec_capacity l.fn.answers;
  few : l.count ≤ l.index;
  same : AreSameLoans l.fn.lent l.lent;
  called : IsTold is_answered 255 l.count (l.end.refusal ≡ None) l.answers.items (calls_in l.end.calls);
}
