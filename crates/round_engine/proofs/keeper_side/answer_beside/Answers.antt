-- What the gate is told of a line, and what the line comes to.
use Rattle.std.proofs.Common.{◌≡◌, ◌∙◌, ◌++◌, ◌∷◌, [], None, refl, sym, ap, true≢false}
use Rattle.std.specs.Prelude.{is_some}
use Rattle.engine_pages.specs.Passes.{view}
use Rattle.tx_script.specs.declared.answer.Answer.TheVariants.{Unrun}
use Rattle.shared_rounds.specs.Below.{Before, calls_both, calls_in, told_left, told_ran}
use Rattle.round_engine.proofs.Called.{line_run}
use Rattle.round_engine.proofs.Places.{nothing_there}
use Rattle.round_engine.proofs.SideCalls.{left_line, run_line}
use Rattle.round_engine.specs.SideLines.{lent_at}
use Rattle.round_engine.proofs.keeper_side.answer_beside.Goals as goal

pub returns-then-is_some-clause-calls : goal.returns-then-is_some-clause-calls
returns-then-is_some-clause-calls g c said told =
    told_left (c.args.end.now.refusal ≡ None) (said ++ Unrun ∷ []) Unrun told refl refl
    (λ none. true≢false (sym c.if-is_some.true ∙ c.is_some.ensures ∙ ap is_some none))

pub returns-then-is_some-clause-steps : goal.returns-then-is_some-clause-steps
returns-then-is_some-clause-steps g c =
    left_line g.D.Disk.tells g.D.Disk.clock g.D.Disk.image_at g.D.Disk.faults c.args.decls.now c.args.lent.now c.args.lent.now
    (view c.args.keeper.now) (view c.args.keeper.now) c.args.vault.now c.args.vault.now c.args.end.now.refusal c.args.line
    (sym c.is_some.ensures ∙ c.if-is_some.true)

pub line_beside-answer-requires-clause-begun : goal.line_beside-answer-requires-clause-begun
line_beside-answer-requires-clause-begun g c =
    let none : c.args.end.now.refusal ≡ None = nothing_there c.args.end.now.refusal
    (sym c.is_some.ensures ∙ c.if-is_some.false) in (
      c.args.count,
      c.enter.ensures.noted ∙ ap (λ l. l ++ Before 255 c.args.count ∷ []) (c.requires.calls none),
    )

pub returns-clause-calls : goal.returns-clause-calls
returns-clause-calls g c said told =
    let none : c.args.end.now.refusal ≡ None = nothing_there c.args.end.now.refusal
    (sym c.is_some.ensures ∙ c.if-is_some.false) in
    let ran = c.line_beside-answer in
    let steps = ran.ensures.steps in
    told_ran (ran.result.1 ≡ None) (said ++ ran.result.0 ∷ []) ran.result.0 (calls_in c.leave.new.calls) told none refl
    (line_run g.D.Disk.tells g.D.Disk.clock g.D.Disk.image_at g.D.Disk.faults steps.marks c.args.line ran.result.0 ran.result.1
    (lent_at c.args.decls.now c.args.lent.now (view c.args.keeper.now))
    (lent_at c.args.decls.now ran.new.lent (view ran.new.keeper)) c.args.vault.now ran.new.vault steps.steps)
    (calls_both 255 c.args.count (calls_in c.args.end.now.calls) (calls_in c.enter.new.calls)
    (calls_in c.leave.new.calls) c.enter.ensures.noted c.leave.ensures.noted)

pub returns-clause-steps : goal.returns-clause-steps
returns-clause-steps g c =
    let ran = c.line_beside-answer in
    run_line g.D.Disk.tells g.D.Disk.clock g.D.Disk.image_at g.D.Disk.faults c.args.decls.now c.args.lent.now ran.new.lent
    (view c.args.keeper.now) (view ran.new.keeper) c.args.vault.now ran.new.vault c.args.end.now.refusal c.args.line
    ran.result.0 ran.result.1 (nothing_there c.args.end.now.refusal (sym c.is_some.ensures ∙ c.if-is_some.false))
    ran.ensures.steps
