use Rattle.wire_form.specs.LineLaws.{one_line}
use Rattle.wire_form.proofs.laws.one_log_line.Goals as goal

pub returns : goal.returns
returns c = one_line
