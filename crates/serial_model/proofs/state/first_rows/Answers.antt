use Rattle.std.proofs.Common.{◌≡◌, ◌∙◌, sym, ap, length, arith}
use Rattle.std.proofs.lemmas.Bool.Decides.{nat_tests}
use Rattle.serial_model.proofs.Scan.{rows_of-range, rows_of-none, rows_in, take-full, take-few}
use Rattle.serial_model.proofs.state.first_rows.Goals as goal

pub returns-then-low-high : goal.returns-then-low-high
returns-then-low-high c = c.new-rows.ensures ∙ sym (rows_of-none _ c.args.storage c.args.low c.args.high c.if-low-high.true)

pub returns-then-is_full : goal.returns-then-is_full
returns-then-is_full c =
    let full : length c.loop-key.rows ≡ 16 = grind (arith, nat_tests) in
    take-full c.loop-key.rows (rows_in c.args.gone.now.keys c.loop-key.key-iterator) _ c.loop-key.invariant.told full
    ∙ sym (rows_of-range c.args.map.now.entries c.args.gone.now.keys c.args.storage c.args.low c.args.high c.range-key-items.ensures.ordered)

pub returns : goal.returns
returns c =
    take-few c.loop-key.rows (rows_in c.args.gone.now.keys c.loop-key.key-iterator) _ c.loop-key.invariant.told
    (ap (rows_in c.args.gone.now.keys) c.in-None.ensures.steps.0) c.loop-key.invariant.few
    ∙ sym (rows_of-range c.args.map.now.entries c.args.gone.now.keys c.args.storage c.args.low c.args.high c.range-key-items.ensures.ordered)
