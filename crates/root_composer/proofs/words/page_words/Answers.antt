use Rattle.std.proofs.Common.{sym, ap, ◌∙◌}
use Rattle.wire_form.specs.Bytes.{padded}
use Rattle.root_composer.proofs.PageLemmas.{whole_page}
use Rattle.root_composer.proofs.words.page_words.Goals as goal

pub returns-clause-is : goal.returns-clause-is
returns-clause-is c = sym (whole_page c.words.result.now c.words.ensures.long) ∙ ap (padded 64) c.words.ensures.words
