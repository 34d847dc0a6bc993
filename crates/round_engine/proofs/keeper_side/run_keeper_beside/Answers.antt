-- A line of the maintenance thread is answered beside the workers', and a worker's passed over.
use Rattle.std.proofs.Common.{◌≡◌, ◌∙◌, ◌++◌, ◌∷◌, ap, arith, length, List, Option, None, refl, subst, sym, take, []}
use Rattle.std.specs.Prelude.{◌||◌, vec_len}
use Rattle.std.specs.List.{filter_map}
use Rattle.std.proofs.lemmas.List.{take_all}
use Rattle.engine_pages.specs.Passes.{view}
use Rattle.script_grammar.specs.Script.{keeper_line_of}
use Rattle.script_grammar.specs.declared.lines.KeeperLine.{KeeperLine}
use Rattle.tx_script.specs.declared.answer.Answer.{Answer}
use Rattle.round_engine.specs.Ends.{save_limited}
use Rattle.round_engine.specs.RoundCalls.{is_answered}
use Rattle.shared_rounds.specs.Below.{calls_in, told_none}
use Rattle.round_engine.specs.Keeping.{is_limited}
use Rattle.round_engine.specs.SideLines.{RunLinesBeside}
use Rattle.round_engine.specs.declared.report.End.{End}
use Rattle.round_engine.proofs.KeeperSteps.{limited_on}
use Rattle.round_engine.proofs.Loops.{keeper_at, keeper_not, keepers_fewer}
use Rattle.round_engine.proofs.SideSteps.{beside_begin, beside_can, beside_step}
use Rattle.round_engine.proofs.keeper_side.run_keeper_beside.Goals as goal
use Rattle.round_engine.proofs.keeper_side.run_keeper_beside.Goals.{in-Some, in_default}

pub loop-index-init : goal.loop-index-init
loop-index-init g c = record {
  of = c.requires.of;
  runs = rw (c.none-end.ensures.refusal, c.requires.none)
      (beside_begin c.args.decls.now c.args.lent.now (view c.args.keeper.now) c.args.vault.now c.requires.ready);
  limited = c.none-end.ensures.limited;
  capacity = refl;
  few = omega arith;
  same = record { save = refl; store = refl; counted = refl };
  called = told_none is_answered 255 _ c.args.answers.now.items (calls_in c.none-end.result.calls) c.requires.none
      c.none-end.ensures.calls;
}

pub answer_beside-answer-requires-clause-keeper : goal.answer_beside-answer-requires-clause-keeper
answer_beside-answer-requires-clause-keeper g c =
    c.loop-index.invariant.runs.went.role ∙ c.requires.keeper

pub answer_beside-answer-requires-clause-made : goal.answer_beside-answer-requires-clause-made
answer_beside-answer-requires-clause-made g c none =
    c.requires.made (sym c.loop-index.invariant.runs.went.made ∙ none)

pub answer_beside-answer-requires-clause-ready : goal.answer_beside-answer-requires-clause-ready
answer_beside-answer-requires-clause-ready g c none =
    beside_can c.args.decls.now c.args.lent.now (view c.args.keeper.now) c.args.vault.now c.requires.ready
    (subst (λ (e : Option End). RunLinesBeside g.D.Disk.tells g.D.Disk.clock g.D.Disk.image_at g.D.Disk.faults c.args.decls.now
    (filter_map keeper_line_of (take c.loop-index.index c.args.round.now.lines)) c.loop-index.answers.items e
    c.args.lent.now c.loop-index.lent (view c.args.keeper.now) (view c.loop-index.keeper) c.args.vault.now
    c.loop-index.vault) none c.loop-index.invariant.runs)

pub answer_beside-answer-requires-clause-tie_room : goal.answer_beside-answer-requires-clause-tie_room
answer_beside-answer-requires-clause-tie_room g c =
    let inv = c.loop-index.invariant in
    omega (
      arith,
      inv.runs.runs.tie_room,
      c.requires.tie_room,
      keepers_fewer c.args.round.now.lines c.loop-index.index c.in-Some.line c.in-Some.ensures,
    )

pub push_reserved-requires : goal.push_reserved-requires
push_reserved-requires g c =
    let inv = c.loop-index.invariant in
    let long : vec_len c.loop-index.answers
    ≡ length (filter_map keeper_line_of (take c.loop-index.index c.args.round.now.lines)) =
    c.loop-index.answers.ok.0 ∙ inv.runs.runs.count in
    omega (
      arith,
      long,
      inv.capacity,
      c.requires.answer_room,
      keepers_fewer c.args.round.now.lines c.loop-index.index c.in-Some.line c.in-Some.ensures,
    )

pub loop-index-preserved : goal.loop-index-preserved
loop-index-preserved g c =
    let inv = c.loop-index.invariant in
    let lines : List KeeperLine = filter_map keeper_line_of (take c.loop-index.index c.args.round.now.lines) in
    elim c.match-keeper.branch [
      | in-Some w ↦
          let next = w.answer_beside-answer in
          let one = beside_step c.args.decls.now c.args.lent.now (view c.args.keeper.now) c.args.vault.now c.requires.ready
          c.loop-index.end.refusal w.in-Some.line next.result next.new.end.refusal inv.runs next.ensures.steps in
          let at = keeper_at c.args.round.now.lines c.loop-index.index w.in-Some.line w.in-Some.ensures in
          rw (w.keeper-is, w.lent-is, w.vault-is, w.answers-is, w.end-is, w.count-is, w.push_reserved.ensures.items) (record {
            of = next.ensures.of;
            runs = subst (λ (ls : List KeeperLine). RunLinesBeside g.D.Disk.tells g.D.Disk.clock g.D.Disk.image_at g.D.Disk.faults
                c.args.decls.now ls (c.loop-index.answers.items ++ next.result ∷ []) next.new.end.refusal c.args.lent.now
                next.new.lent (view c.args.keeper.now) (view next.new.keeper) c.args.vault.now next.new.vault) (sym at) one;
            limited = next.ensures.limited ∙ ap (λ b. b || is_limited w.in-Some.line next.result) inv.limited
                ∙ sym (limited_on lines c.loop-index.answers.items w.in-Some.line next.result inv.runs.runs.count)
                ∙ ap (λ (ls : List KeeperLine). save_limited ls (c.loop-index.answers.items ++ next.result ∷ [])) (sym at);
            capacity = w.push_reserved.ensures.capacity ∙ inv.capacity;
            few = omega (arith, inv.few);
            same = record {
              save = next.ensures.same.save ∙ inv.same.save;
              store = next.ensures.same.store ∙ inv.same.store;
              counted = next.ensures.same.counted ∙ inv.same.counted;
            };
            called = next.ensures.calls c.loop-index.answers.items inv.called;
          })
      | in_default w ↦
          let not = keeper_not c.args.round.now.lines c.loop-index.index w.in_default.ensures in
          rw (w.keeper-is, w.lent-is, w.vault-is, w.answers-is, w.end-is, w.count-is) (record {
            of = inv.of;
            runs = subst (λ (ls : List KeeperLine). RunLinesBeside g.D.Disk.tells g.D.Disk.clock g.D.Disk.image_at g.D.Disk.faults
                c.args.decls.now ls c.loop-index.answers.items c.loop-index.end.refusal c.args.lent.now c.loop-index.lent
                (view c.args.keeper.now) (view c.loop-index.keeper) c.args.vault.now c.loop-index.vault) (sym not) inv.runs;
            limited = inv.limited
                ∙ ap (λ (ls : List KeeperLine). save_limited ls c.loop-index.answers.items) (sym not);
            capacity = inv.capacity;
            few = omega (arith, inv.few);
            same = inv.same;
            called = inv.called;
          })
    ]

pub returns : goal.returns
returns g c =
    let inv = c.loop-index.invariant in
    let all = take_all c.loop-index.index c.args.round.now.lines
    (omega (arith, c.loop-index-test.false, c.len-index-end.ensures)) in
    record {
      of = inv.of;
      runs = subst (λ ls. RunLinesBeside g.D.Disk.tells g.D.Disk.clock g.D.Disk.image_at g.D.Disk.faults c.args.decls.now
          (filter_map keeper_line_of ls) c.loop-index.answers.items c.loop-index.end.refusal c.args.lent.now
          c.loop-index.lent (view c.args.keeper.now) (view c.loop-index.keeper) c.args.vault.now c.loop-index.vault) all
          inv.runs;
      limited = inv.limited ∙ ap (λ ls. save_limited (filter_map keeper_line_of ls) c.loop-index.answers.items) all;
      calls = inv.called.calls_are;
      same = inv.same;
    }
