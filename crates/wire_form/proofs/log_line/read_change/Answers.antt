use Rattle.wire_form.specs.LogLine.{IsChange, change_words}
use Rattle.wire_form.specs.LineLaws.{change_fits}
use Rattle.wire_form.proofs.ItemLemmas.{read_as_bytes}
use Rattle.wire_form.proofs.LineLemmas.{three_parts}
use Rattle.wire_form.proofs.log_line.read_change.Goals as goal

pub returns : goal.returns
returns c =
    read_as_bytes IsChange change_words _ c.args.bytes.now _ (c.word_at.type_inv, (c.word_at-2.type_inv, (c.word_at-3.type_inv, tt))) change_fits
    (three_parts c.args.bytes.now _ _ _ c.requires c.word_at.ensures c.word_at-2.ensures c.word_at-3.ensures) c.change_of.ensures
