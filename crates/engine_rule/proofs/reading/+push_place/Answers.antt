-- All below a place, and then its own.
use Rattle.std.proofs.Common.{ap, sym, ◌∙◌}
use Rattle.std.proofs.lemmas.List.{length-map}
use Rattle.wire_form.specs.declared.page.Page.{Page}
use Rattle.snapshot_store.specs.Content.{words_of}
use Rattle.engine_rule.specs.Reading.{page_in}
use Rattle.engine_rule.proofs.ReadPages.{place_pushed}
use Rattle.engine_rule.proofs.reading.+push_place.Goals as goal

pub push_place-returns : goal.push_place-returns
push_place-returns t c =
    place_pushed (words_of c.args.pages.now) c.args.decl c.args.depth c.args.place c.page_in-number.result _ _ _
    c.args.all.now _ _ c.if-depth-eq0.false
    (c.page_in-number.ensures
    ∙ ap (λ k. page_in k c.args.place.number) (sym (length-map c.args.pages.now (λ (p : Page). p.words))))
    c.if-number-eq0.false c.words_at-words.ensures c.in_ok-below.ensures.is c.as_slice.ensures
    c.in_ok-push_each.ensures c.in_ok-push.ensures.ok
