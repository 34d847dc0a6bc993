-- The phases of a round.
use Rattle.std.proofs.Common.{◌≡◌, ◌∙◌, ◌++◌, ◌∷◌, [], ap, arith, map, subst, sym, List}
use Rattle.script_grammar.specs.Script.{keeper_lines}
use Rattle.tx_script.specs.declared.answer.Answer.{Answer}
use Rattle.log_writer.specs.Points.{sequence_of}
use Rattle.round_engine.specs.Ends.{save_limited, where_true}
use Rattle.round_engine.specs.Keeping.{RunsKeeper}
use Rattle.round_engine.specs.Refusals.{device_refused}
use Rattle.round_engine.specs.Standing.{RuntimeState}
use Rattle.round_engine.specs.RoundCalls.{calls_at, round_calls}
use Rattle.shared_rounds.specs.Below.{calls_in}
use Rattle.round_engine.proofs.Called.{all_called}
use Rattle.round_engine.proofs.NothingRun.{room_none}
use Rattle.round_engine.proofs.RunRound.{ready_to_join}
use Rattle.round_engine.proofs.rounds.run_round.Goals as goal

pub join-durable-requires-clause-ready : goal.join-durable-requires-clause-ready
join-durable-requires-clause-ready g c =
    let ran = c.run_together-ran.ensures.runs in
    let side = ran.keeper.leaves.side ∙ ap (λ (x : RuntimeState). x.side) ran.alone in
    let device_is = c.in_lines-refused.ensures.device
    ∙ ap (λ s. device_refused s c.run_together-ran.result.1.refusal c.run_together-ran.result.0.ends.items) side in
    ready_to_join c.requires.logs c.requires.whole c.requires.ready c.requires.passed ran.lines ran.alone
    (room_none c.args.vault.now) ran.beside ran.keeper c.in_lines-refused.result device_is
    c.in_lines-refused.ensures.keeper

pub join-durable-requires-clause-tie_room : goal.join-durable-requires-clause-tie_room
join-durable-requires-clause-tie_room g c =
    let ran = c.run_together-ran.ensures.runs in
    let same : ran.between.ties.room ≡ c.args.vault.now.ties.room = ap (λ t. t.room) ran.beside.ties in
    omega (arith, ran.keeper.tie_room, same, c.requires.tie_room)

pub join-durable-requires-clause-cut_room : goal.join-durable-requires-clause-cut_room
join-durable-requires-clause-cut_room g c =
    let ran = c.run_together-ran.ensures.runs in
    let same : c.run_together-ran.new.vault.cuts.room ≡ c.args.vault.now.cuts.room =
    ap (λ t. t.room) (ran.keeper.cut_room ∙ ran.beside.cuts) in
    omega (arith, same, c.requires.cut_room)

pub returns-clause-all : goal.returns-clause-all
returns-clause-all g c =
    let ran = c.run_together-ran.ensures.runs in
    let r : RuntimeState = c.args.runtime.now in
    let said = c.run_together-ran.new.answers.items in
    let side = ran.keeper.leaves.side ∙ ap (λ (x : RuntimeState). x.side) ran.alone in
    let device_is = c.in_lines-refused.ensures.device
    ∙ ap (λ s. device_refused s c.run_together-ran.result.1.refusal c.run_together-ran.result.0.ends.items) side in
    let keeper = subst (λ e. RunsKeeper g.D.Disk.tells g.D.Disk.clock g.D.Disk.image_at g.D.Disk.faults ran.seen
    (keeper_lines c.args.round.now) said e ran.mid c.run_together-ran.new.runtime ran.between c.run_together-ran.new.vault)
    (sym c.in_lines-refused.ensures.keeper) ran.keeper in
    record {
      worked = ran.worked;
      mid = ran.mid;
      lent = c.args.vault.now;
      between = ran.between;
      kept = c.run_together-ran.new.runtime;
      after = c.run_together-ran.new.vault;
      ends = c.run_together-ran.result.0.ends.items;
      refused = c.in_lines-refused.result;
      marks = ran.marks;
      readied = ran.readied;
      lines = ran.lines;
      history = ran.history;
      alone = ran.alone;
      later = ran.later;
      drops = ran.drops;
      room = room_none c.args.vault.now;
      beside = ran.beside;
      seen = ran.seen;
      places = ran.places;
      met = ran.met;
      sees = ran.sees;
      back = ran.back;
      keeper = subst (λ (a : List Answer). RunsKeeper g.D.Disk.tells g.D.Disk.clock g.D.Disk.image_at g.D.Disk.faults
          ran.seen (keeper_lines c.args.round.now) a c.in_lines-refused.result.keeper ran.mid c.run_together-ran.new.runtime
          ran.between c.run_together-ran.new.vault) (sym c.from_vec.ensures) keeper;
      device_is = device_is ∙ ap (λ e. device_refused r.side e c.run_together-ran.result.0.ends.items)
          (sym c.in_lines-refused.ensures.keeper);
      sequence_is = c.in_lines-refused.ensures.sequence ∙ ap (λ b. where_true b
          (sequence_of c.run_together-ran.new.runtime.save.newest)) (c.run_together-ran.ensures.limited
          ∙ ap (save_limited (keeper_lines c.args.round.now)) (sym c.from_vec.ensures));
      draw_is = c.in_lines-refused.ensures.draw;
      full_is = c.in_lines-refused.ensures.full;
      join = c.join-durable.ensures.joins;
    }

pub returns-clause-calls : goal.returns-clause-calls
returns-clause-calls g c =
    ap (map calls_in) (c.calls_in_round-calls.ensures
    ∙ ap (λ l. map calls_at l ++ c.run_together-ran.result.1.calls ∷ []) c.as_slice.ensures.value)
    ∙ all_called 0 c.run_together-ran.result.0.outcomes c.run_together-ran.result.0.ends.items c.run_together-ran.new.answers.items
    c.run_together-ran.result.1.calls c.run_together-ran.ensures.calls.0 c.run_together-ran.ensures.calls.1
    ∙ ap (round_calls 0 c.run_together-ran.result.0.outcomes) (sym c.from_vec.ensures)
