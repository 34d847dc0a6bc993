use Rattle.std.proofs.Common.{◌≡◌, sym, subst, ◌∙◌}
use Rattle.std.proofs.lemmas.Bool.{false≢true}
use Rattle.wire_form.specs.Pages.{IsPage}
use Rattle.wire_form.specs.ByteLaws.{same_words}
use Rattle.wire_form.proofs.page.read_page.Goals as goal

pub returns-then-not-is_page-clause-err : goal.returns-then-not-is_page-clause-err
returns-then-not-is_page-clause-err c words page e =
    let same : words ≡ c.words_of_page-words.result = same_words words c.words_of_page-words.result page.fit c.words_of_page-words.ensures.fit (sym e ∙ c.words_of_page-words.ensures.spelled) in
    false≢true (c.if-not-is_page.ensures.1 (subst (IsPage c.args.kind c.args.number) same page))
