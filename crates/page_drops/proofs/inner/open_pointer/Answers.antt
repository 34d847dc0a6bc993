use Rattle.std.proofs.Common.{◌≡◌, ◌+◌, ◌<◌, ◌∙◌, ap, arith, get_or, subst, sym}
use Rattle.homes.specs.declared.places.Span.{Span}
use Rattle.engine_pages.specs.declared.layout.Layout.{Layout}
use Rattle.engine_pages.specs.Passes.{view}
use Rattle.snapshot_store.specs.Places.{page as page_words}
use Rattle.drop_core.specs.Table.{at_index}
use Rattle.pointer_swings.specs.Shuts.{CanReopen}
use Rattle.page_drops.proofs.InnerFacts.{in_table, pointer_word, row_words_went, wide}
use Rattle.page_drops.proofs.Inners.{can_reopen, inner_went, open_row_now, open_turned, turned_then, words_went}
use Rattle.page_drops.proofs.CompareFacts.{word_here}
use Rattle.page_drops.proofs.ShutNotes.{open_now}
use Rattle.page_drops.proofs.inner.open_pointer.Goals as goal

pub part_of-span-requires-clause-wide : goal.part_of-span-requires-clause-wide
part_of-span-requires-clause-wide c = wide c.args.page.slot c.args.page.page c.args.page.span (view c.args.pass.now) c.requires.at

pub part_of-span-requires-clause-high : goal.part_of-span-requires-clause-high
part_of-span-requires-clause-high c = c.requires.at.high

pub word_at-at-requires-clause-slot : goal.word_at-at-requires-clause-slot
word_at-at-requires-clause-slot c = subst (λ (y : Layout). c.args.page.slot < y.slots) c.requires.of.layout c.requires.at.slot

pub reopen-requires-clause-reopen : goal.reopen-requires-clause-reopen
reopen-requires-clause-reopen c =
    let v = view c.args.pass.now in
    let u = view c.child_of-child.new.pass in
    let child = c.child_of-child.ensures.child in
    let same : c.from-word.result ≡ c.child_of-child.result = omega arith in
    subst (λ (z : Span). CanReopen u (at_index c.args.page.slot c.args.index) z c.word_at-at.result c.from-word.result)
    (sym c.part_of-span.ensures)
    (can_reopen c.args.page.slot c.args.page.page c.args.index c.word_at-at.result c.from-word.result c.args.page.span u
    (inner_went c.args.page.slot c.args.page.page c.args.page.span v u child.went c.requires.at) c.requires.index
    (pointer_word c.args.engine.now c.args.pass.now u c.args.page.slot c.args.index c.word_at-at.result c.requires.of child.went
    c.word_at-at.ensures)
    (child.shuts ∙ row_words_went c.args.page.slot c.args.page.page (c.args.index + 1) v u child.went c.requires.row)
    ((same ∙ child.is) ∙ ap (λ ws. get_or ws c.args.index 0) (sym (words_went c.args.page.page v u child.went))))

pub reopen-requires-clause-word : goal.reopen-requires-clause-word
reopen-requires-clause-word c =
    in_table c.args.engine.now c.args.pass.now (view c.child_of-child.new.pass) c.args.page.slot c.args.index c.word_at-at.result
    c.requires.of c.child_of-child.ensures.child.went c.requires.at.slot c.requires.index c.word_at-at.ensures

pub returns-clause-turns : goal.returns-clause-turns
returns-clause-turns c =
    let v = view c.args.pass.now in
    let u = view c.child_of-child.new.pass in
    let child = c.child_of-child.ensures.child in
    let same : c.from-word.result ≡ c.child_of-child.result = omega arith in
    turned_then v u (view c.reopen.new.pass) (record { went = child.went; kept = child.kept })
    (open_turned (at_index c.args.page.slot c.args.index) c.word_at-at.result c.from-word.result u (view c.reopen.new.pass)
    c.reopen.ensures.reopens)

pub returns-clause-row : goal.returns-clause-row
returns-clause-row c =
    let u = view c.child_of-child.new.pass in
    open_row_now c.args.page.slot c.args.index c.word_at-at.result c.from-word.result
    (page_words (view c.args.pass.now).pages c.args.page.page) u (view c.reopen.new.pass) c.reopen.ensures.reopens
    (c.child_of-child.ensures.child.shuts ∙ c.requires.row)

pub returns-clause-left : goal.returns-clause-left
returns-clause-left c =
    let v = view c.args.pass.now in
    let child = c.child_of-child.ensures.child in
    let same : c.from-word.result ≡ c.child_of-child.result = omega arith in
    open_now (at_index c.args.page.slot c.args.index) c.args.page.slot c.args.page.page c.args.index c.word_at-at.result
    c.from-word.result v (view c.child_of-child.new.pass) (view c.reopen.new.pass) c.reopen.ensures.reopens child.reads
    (word_here c.args.engine.now c.args.pass.now c.args.page.slot c.args.index c.word_at-at.result c.requires.of
    c.word_at-at.ensures) (same ∙ child.is)
