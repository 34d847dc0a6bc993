-- Each turn adds the line of the next key, if it stands.
use Rattle.std.proofs.Common.{◌≡◌, ◌∙◌, ap, []}
use Rattle.std.specs.FinMap.{entries}
use Rattle.text_output.specs.Printed.{adds_nothing, prints_at_stop}
use Rattle.tx_script.specs.StateText.{key_lines}
use Rattle.tx_script.proofs.KeyLines.{key_lines-cons}
use Rattle.tx_script.proofs.TextSoFar.{so_far-breaks, so_far-more}
use Rattle.tx_script.proofs.state.put_keys.Goals as goal

pub loop-key-init : goal.loop-key-init
loop-key-init g c =
    let all : c.into_iter-key-iterator.result ≡ entries c.args.state.now = cc in
    record { text = []; adds = adds_nothing c.args.printer.now; whole = ap (key_lines c.args.decls.now) all }

pub loop-key-preserved : goal.loop-key-preserved
loop-key-preserved g c =
    let split = ap (key_lines c.args.decls.now) c.in-Some.ensures.steps ∙ key_lines-cons c.args.decls.now (c.in-Some.key.now, c.in-Some.value.now) c.next.new.self in
    so_far-more _ _ c.loop-key.invariant split c.in_ok-put_if_it_stands.ensures

pub returns-in_err-put_if_it_stands : goal.returns-in_err-put_if_it_stands
returns-in_err-put_if_it_stands g c =
    let split = ap (key_lines c.args.decls.now) c.in-Some.ensures.steps ∙ key_lines-cons c.args.decls.now (c.in-Some.key.now, c.in-Some.value.now) c.next.new.self in
    prints_at_stop _ _ c.from_residual.ensures.1 (so_far-breaks _ _ c.loop-key.invariant split c.in_err-put_if_it_stands.ensures)
