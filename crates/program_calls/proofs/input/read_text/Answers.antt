-- What was read is all of the source, or no script.
use Rattle.std.proofs.Common.{arith, refl, subst, sym}
use Rattle.script_grammar.specs.Faults.{IsFirstFault}
use Rattle.script_grammar.specs.Script.{IsTextOf}
use Rattle.tx_script.specs.Draws.{few_lines}
use Rattle.program_calls.specs.Ending.{IsNoText}
use Rattle.program_calls.proofs.Courses.{fault_read, failed_read, memory_read, text_read}
use Rattle.program_calls.proofs.input.read_text.Goals as goal

pub returns-in-Err-Fault-read_script-clause-read : goal.returns-in-Err-Fault-read_script-clause-read
returns-in-Err-Fault-read_script-clause-read g c =
    let none : IsNoText c.in-Ok.bytes.items = λ script text.
    rw c.in-Err-Fault-read_script.field-0-is at (c.in-Err-Fault-read_script.ensures.only script (subst (λ b. IsTextOf b script) (sym c.deref.ensures.value) text)) in
    fault_read _ _ c.in-Ok.bytes.items c.in-Err-Fault-read_script.fault c.in-Ok.ensures.bytes c.in-Ok.ensures.all none
    (subst (λ b. IsFirstFault b c.in-Err-Fault-read_script.fault) c.deref.ensures.value (c.in-Err-Fault-read_script.ensures.fault c.in-Err-Fault-read_script.fault (rw c.in-Err-Fault-read_script.field-0-is refl)))

-- a text has few lines
pub returns-in-Ok-read_script-clause-few : goal.returns-in-Ok-read_script-clause-few
returns-in-Ok-read_script-clause-few g c = omega (arith, few_lines _ _ c.in-Ok-read_script.ensures.text)

-- its script
pub returns-in-Ok-read_script-clause-read : goal.returns-in-Ok-read_script-clause-read
returns-in-Ok-read_script-clause-read g c =
    text_read _ _ c.in-Ok.bytes.items c.in-Ok-read_script.script c.in-Ok.ensures.bytes c.in-Ok.ensures.all
    (subst (λ b. IsTextOf b c.in-Ok-read_script.script) c.deref.ensures.value c.in-Ok-read_script.ensures.text)

-- none for other reasons
pub returns-in-Err-Fault-clause-read : goal.returns-in-Err-Fault-clause-read
returns-in-Err-Fault-clause-read g c = failed_read _ _

pub returns-in-Err-Memory-clause-read : goal.returns-in-Err-Memory-clause-read
returns-in-Err-Memory-clause-read g c = memory_read _ _

pub returns-clause-read : goal.returns-clause-read
returns-clause-read g c = memory_read _ _
