use Rattle.wire_form.proofs.PageLemmas.{no_array_record}
use Rattle.wire_form.proofs.records.ArrayRecord.of_words.Goals as goal

pub returns-in-None : goal.returns-in-None
returns-in-None c = (tt, λ x is e. no_array_record x _ _ c.if-number-eq0.false c.in-None.ensures.1 is e)
