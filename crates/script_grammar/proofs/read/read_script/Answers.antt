use Rattle.std.proofs.Common.{sym, subst, ◌∙◌}
use Rattle.script_grammar.specs.declared.script.Script.{Script}
use Rattle.script_grammar.specs.Script.{IsTextOf}
use Rattle.script_grammar.proofs.Texts.{text_from_parts, parts_are}
use Rattle.script_grammar.proofs.FirstFault.{told_first, gives_none}
use Rattle.script_grammar.proofs.read.read_script.Goals as goal

pub returns-in-Ok-into_script-clause-text : goal.returns-in-Ok-into_script-clause-text
returns-in-Ok-into_script-clause-text c =
    subst (IsTextOf c.args.bytes.now) (sym c.in-Ok-into_script.ensures) (text_from_parts c.args.bytes.now c.read_all.new.reader c.in-Ok.ensures)

pub returns-in-Ok-into_script-clause-only : goal.returns-in-Ok-into_script-clause-only
returns-in-Ok-into_script-clause-only c = λ script is. c.in-Ok-into_script.ensures ∙ parts_are c.args.bytes.now c.read_all.new.reader script c.in-Ok.ensures is

pub returns-in-Err-clause-only : goal.returns-in-Err-clause-only
returns-in-Err-clause-only c = λ script is. gives_none (Unit {0}) c.args.bytes.now c.in-Err.fault c.read_all.new.reader script c.in-Err.ensures is

pub returns-in-Err-clause-fault : goal.returns-in-Err-clause-fault
returns-in-Err-clause-fault c = λ fault e. told_first (Unit {0}) Script c.args.bytes.now c.in-Err.fault c.read_all.new.reader fault c.in-Err.ensures e
