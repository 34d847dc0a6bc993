-- The lines so far were added, each with two draws.
use Rattle.std.proofs.Common.{◌≡◌, ◌*◌}
use Rattle.std.specs.Prelude.{flat_map}
use Rattle.std.specs.List.{range_with_len}
use Rattle.text_output.specs.Output.{Adds}
use Rattle.script_maker.specs.Generator.{made_line, state_after}
use Rattle.script_maker.proofs.make.put_lines.Given as goal

abbrev pub invariant-loop-line : goal.invariant-loop-line
invariant-loop-line g l =
    Adds l.fn.printer l.printer (flat_map (made_line l.seed l.workers) (range_with_len 0 l.line)) × (l.state ≡ state_after l.seed (2 * l.line))
