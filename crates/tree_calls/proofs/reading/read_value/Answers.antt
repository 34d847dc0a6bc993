use Rattle.std.proofs.Common.{sym, subst, ◌∙◌, ℕ, Option}
use Rattle.engine_pages.specs.Passes.{view}
use Rattle.page_commit.proofs.FoundLaws.{not_read}
use Rattle.tree_calls.specs.Keeping.{HasValue}
use Rattle.tree_calls.proofs.AnswerLaws.{again_answer}
use Rattle.tree_calls.proofs.DoneLaws.{value_again}
use Rattle.tree_calls.proofs.reading.read_value.Goals as goal

pub read_anew-requires-clause-unread : goal.read_anew-requires-clause-unread
read_anew-requires-clause-unread c = not_read c.args.key c.args.sets.now.reads (sym c.find.ensures ∙ c.in_default.is)

pub returns-clause-value : goal.returns-clause-value
returns-clause-value c =
    subst
    (λ (o : Option ℕ). HasValue c.args.key o c.args.sets.now c.args.sets.now (view c.args.pass.now) (view c.args.pass.now))
    (sym c.told.ensures)
    (value_again c.args.sets.now (view c.args.pass.now) c.args.key c.in-Some.entry c.requires.live c.requires.tree
    (sym c.find.ensures ∙ c.in-Some.is))

pub returns-clause-answer : goal.returns-clause-answer
returns-clause-answer c =
    again_answer c.args.sets.now c.args.key c.in-Some.entry c.told.result (view c.args.pass.now)
    (sym c.find.ensures ∙ c.in-Some.is) c.requires.unwritten c.told.ensures
