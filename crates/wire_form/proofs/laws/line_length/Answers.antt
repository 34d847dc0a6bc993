use Rattle.wire_form.specs.LineLaws.{length-line_bytes, line_at_least, line_at_most}
use Rattle.wire_form.proofs.laws.line_length.Goals as goal

pub returns-clause-exact : goal.returns-clause-exact
returns-clause-exact c = length-line_bytes

pub returns-clause-least : goal.returns-clause-least
returns-clause-least c = line_at_least

pub returns-clause-most : goal.returns-clause-most
returns-clause-most c = line_at_most
