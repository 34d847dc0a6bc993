use Rattle.wire_form.proofs.LineLemmas.{line_written}
use Rattle.wire_form.proofs.log_line.write_log_line.Goals as goal

pub returns-clause-written : goal.returns-clause-written
returns-clause-written c =
    line_written c.args.to.now c.write_words.new.to c.write_changes.new.to c.args.line.now c.as_slice-changes.result.now c.number_word.result c.as_slice-changes.ensures.value c.number_word.ensures c.write_words.ensures c.write_changes.ensures.written
