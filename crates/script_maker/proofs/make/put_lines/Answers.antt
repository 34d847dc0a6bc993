-- Each turn adds a line of the next two draws.
use Rattle.text_output.specs.Printed.{adds_as, adds_then, breaks_as, breaks_then, breaks_within, prints_at_stop}
use Rattle.std.proofs.Common.{sym}
use Rattle.script_maker.specs.Generator.{made_line}
use Rattle.script_maker.proofs.Lines.{Draws, line_is, rest_from, state_behind, texts_more, texts_split}
use Rattle.script_maker.proofs.make.put_lines.Goals as goal

pub returns-in_err-put_line : goal.returns-in_err-put_line
returns-in_err-put_line g c =
    let text = made_line c.args.seed c.args.workers in
    let d : Draws c.args.seed c.loop-line.line c.loop-line.state c.next_state-first.result c.next_state-state.result = record {
      before = c.loop-line.invariant.1;
      one = c.next_state-first.ensures;
      two = c.next_state-state.ensures;
    } in
    prints_at_stop _ _ c.from_residual.ensures.1
    (breaks_as (texts_split text c.loop-line.line c.args.lines c.loop-line-test.true) (breaks_within (rest_from text c.loop-line.line c.args.lines)
    (breaks_then c.loop-line.invariant.0 (breaks_as (line_is c.args.seed c.args.workers c.loop-line.line _ _ _ _ _ d c.drawn.ensures c.drawn-in-loop-line.ensures) c.in_err-put_line.ensures))))

pub loop-line-preserved : goal.loop-line-preserved
loop-line-preserved g c =
    let text = made_line c.args.seed c.args.workers in
    let d : Draws c.args.seed c.loop-line.line c.loop-line.state c.next_state-first.result c.next_state-state.result = record {
      before = c.loop-line.invariant.1;
      one = c.next_state-first.ensures;
      two = c.next_state-state.ensures;
    } in (
      adds_as (sym (texts_more text c.loop-line.line))
          (adds_then c.loop-line.invariant.0 (adds_as (line_is c.args.seed c.args.workers c.loop-line.line _ _ _ _ _ d c.drawn.ensures c.drawn-in-loop-line.ensures) c.in_ok-put_line.ensures)),
      state_behind c.args.seed c.loop-line.line _ _ _ d,
    )
