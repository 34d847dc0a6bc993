use Rattle.wire_form.specs.LogFileLaws.{one_list, one_damage, damaged_no_lines}
use Rattle.wire_form.proofs.laws.one_list_of_lines.Goals as goal

pub returns-clause-one : goal.returns-clause-one
returns-clause-one c = one_list

pub returns-clause-once : goal.returns-clause-once
returns-clause-once c = one_damage

pub returns-clause-apart : goal.returns-clause-apart
returns-clause-apart c = damaged_no_lines
