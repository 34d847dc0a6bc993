-- The declarations and the lines.
use Rattle.std.specs.Prelude.{flat_map}
use Rattle.std.specs.List.{range_with_len}
use Rattle.text_output.specs.Printed.{breaks_within, prints_at_stop, prints_then}
use Rattle.script_maker.specs.Generator.{made_line}
use Rattle.script_maker.proofs.make.put_script.Goals as goal

pub returns-in_err-put : goal.returns-in_err-put
returns-in_err-put g c = prints_at_stop _ _ c.from_residual.ensures.1
    (breaks_within (flat_map (made_line c.args.seed c.args.workers) (range_with_len 0 c.args.lines)) c.in_err-put.ensures)

pub returns : goal.returns
returns g c = prints_then _ _ _ c.in_ok-put.ensures c.put_lines.ensures
