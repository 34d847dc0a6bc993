use Rattle.std.proofs.Common.{◌<◌, sym, ap, ◌∙◌, subst, arith}
use Rattle.std.proofs.lemmas.Result.{err_from_is_err_and}
use Rattle.engine_pages.specs.declared.layout.Layout.{Layout}
use Rattle.engine_pages.specs.Layout.{page_at}
use Rattle.engine_pages.specs.Passes.{view}
use Rattle.tree_walks.specs.Steps.{IsFurther}
use Rattle.tree_walks.proofs.DescentLaws.{first, first_paths, head_half, head_keeps, head_leaf, head_other, head_refused, inner_at, leaf_known, loaded}
use Rattle.tree_walks.proofs.DescentLaws.{split_at, split_small, still_on, still_word}
use Rattle.tree_walks.proofs.RefusalLaws.{goes_behind}
use Rattle.tree_walks.proofs.StepLaws.{led_none}
use Rattle.tree_walks.proofs.descent.go_on.Goals as goal

pub word_at-at-requires-clause-slot : goal.word_at-at-requires-clause-slot
word_at-at-requires-clause-slot c =
    subst (λ (l : Layout). c.args.page.slot < l.slots) c.requires.of.layout c.requires.on.there

pub load_header-header-requires-clause-pass : goal.load_header-header-requires-clause-pass
load_header-header-requires-clause-pass c = c.requires.can.active

pub load_header-header-requires-clause-slot : goal.load_header-header-requires-clause-slot
load_header-header-requires-clause-slot c = c.requires.on.there

pub load_header-header-requires-clause-word : goal.load_header-header-requires-clause-word
load_header-header-requires-clause-word c =
    c.word_at-at.ensures ∙ ap (λ (l : Layout). page_at l.slots c.args.page.slot 0) (sym c.requires.of.layout)

pub load_header-header-requires-clause-page : goal.load_header-header-requires-clause-page
load_header-header-requires-clause-page c = record { way = c.requires.on.way; tree = c.requires.on.tree }

pub go_to_child-requires-clause-can : goal.go_to_child-requires-clause-can
go_to_child-requires-clause-can c =
    let v = view c.args.pass.now in
    let u = view c.load_header-header.new.pass in
    let n = c.load_header-header.result in
    let at = c.word_at-at.result in
    let word = c.word_at-at.ensures ∙ ap (λ (l : Layout). page_at l.slots c.args.page.slot 0) (sym c.requires.of.layout) in
    (first c.args.key c.args.pointers.now c.args.headers.now c.args.holds.now c.args.page at v n u c.requires.can
    c.requires.on word c.load_header-header.ensures.loads).can

pub go_to_child-requires-clause-on : goal.go_to_child-requires-clause-on
go_to_child-requires-clause-on c =
    let v = view c.args.pass.now in
    let u = view c.load_header-header.new.pass in
    let n = c.load_header-header.result in
    let at = c.word_at-at.result in
    let word = c.word_at-at.ensures ∙ ap (λ (l : Layout). page_at l.slots c.args.page.slot 0) (sym c.requires.of.layout) in
    still_on c.args.key c.args.pointers.now c.args.headers.now c.args.holds.now c.args.page at v n u c.requires.can
    c.requires.on word c.load_header-header.ensures.loads

pub go_to_child-requires-clause-inner : goal.go_to_child-requires-clause-inner
go_to_child-requires-clause-inner c =
    let v = view c.args.pass.now in
    let u = view c.load_header-header.new.pass in
    let n = c.load_header-header.result in
    let at = c.word_at-at.result in
    let word = c.word_at-at.ensures ∙ ap (λ (l : Layout). page_at l.slots c.args.page.slot 0) (sym c.requires.of.layout) in
    inner_at c.args.key c.args.pointers.now c.args.headers.now c.args.holds.now c.args.page at v n u c.requires.can
    c.requires.on word c.load_header-header.ensures.loads c.if-kind-ne-LEAF.true

pub returns-then-kind-ne-LEAF-clause-goes : goal.returns-then-kind-ne-LEAF-clause-goes
returns-then-kind-ne-LEAF-clause-goes c =
    let v = view c.args.pass.now in
    let u = view c.load_header-header.new.pass in
    let n = c.load_header-header.result in
    let at = c.word_at-at.result in
    let word = c.word_at-at.ensures ∙ ap (λ (l : Layout). page_at l.slots c.args.page.slot 0) (sym c.requires.of.layout) in
    goes_behind 1 33 35 c.args.key c.args.pointers.now c.args.headers.now c.args.holds.now c.go_to_child.new.holds
    (IsFurther c.args.key c.args.pointers.now c.args.headers.now c.args.page) c.go_to_child.result v u
    (view c.go_to_child.new.pass) (omega arith)
    (first c.args.key c.args.pointers.now c.args.headers.now c.args.holds.now c.args.page at v n u c.requires.can
    c.requires.on word c.load_header-header.ensures.loads)
    (led_none c.args.key v u (loaded c.args.key c.args.pointers.now c.args.headers.now c.args.holds.now c.args.page at v n u c.requires.can
    c.requires.on word c.load_header-header.ensures.loads).grip)
    (head_keeps c.args.key c.args.pointers.now c.args.headers.now c.args.holds.now c.args.page at v n u c.requires.can
    c.requires.on word c.load_header-header.ensures.loads c.in_ok-check_kept.ensures.met)
    (first_paths c.args.key c.args.pointers.now c.args.headers.now c.args.holds.now c.args.page at v n u c.requires.can
    c.requires.on word c.load_header-header.ensures.loads)
    (c.go_to_child.ensures.goes c.args.headers.now)

pub returns-then-header-lt-MOVED-clause-goes : goal.returns-then-header-lt-MOVED-clause-goes
returns-then-header-lt-MOVED-clause-goes c =
    let v = view c.args.pass.now in
    let u = view c.load_header-header.new.pass in
    let n = c.load_header-header.result in
    let at = c.word_at-at.result in
    let word = c.word_at-at.ensures ∙ ap (λ (l : Layout). page_at l.slots c.args.page.slot 0) (sym c.requires.of.layout) in
    head_leaf c.args.key c.args.pointers.now c.args.headers.now c.args.holds.now c.args.page at v n u c.requires.can
    c.requires.on word c.load_header-header.ensures.loads c.if-kind-ne-LEAF.false c.if-header-lt-MOVED.true c.in_ok-check_kept.ensures.met

pub go_to_half-requires-clause-can : goal.go_to_half-requires-clause-can
go_to_half-requires-clause-can c =
    let v = view c.args.pass.now in
    let u = view c.load_header-header.new.pass in
    let n = c.load_header-header.result in
    let at = c.word_at-at.result in
    let word = c.word_at-at.ensures ∙ ap (λ (l : Layout). page_at l.slots c.args.page.slot 0) (sym c.requires.of.layout) in
    (first c.args.key c.args.pointers.now c.args.headers.now c.args.holds.now c.args.page at v n u c.requires.can
    c.requires.on word c.load_header-header.ensures.loads).can

pub go_to_half-requires-clause-on : goal.go_to_half-requires-clause-on
go_to_half-requires-clause-on c =
    let v = view c.args.pass.now in
    let u = view c.load_header-header.new.pass in
    let n = c.load_header-header.result in
    let at = c.word_at-at.result in
    let word = c.word_at-at.ensures ∙ ap (λ (l : Layout). page_at l.slots c.args.page.slot 0) (sym c.requires.of.layout) in
    still_on c.args.key c.args.pointers.now c.args.headers.now c.args.holds.now c.args.page at v n u c.requires.can
    c.requires.on word c.load_header-header.ensures.loads

pub go_to_half-requires-clause-word : goal.go_to_half-requires-clause-word
go_to_half-requires-clause-word c =
    let v = view c.args.pass.now in
    let u = view c.load_header-header.new.pass in
    let n = c.load_header-header.result in
    let at = c.word_at-at.result in
    let word = c.word_at-at.ensures ∙ ap (λ (l : Layout). page_at l.slots c.args.page.slot 0) (sym c.requires.of.layout) in
    still_word c.args.key c.args.pointers.now c.args.headers.now c.args.holds.now c.args.page at v n u c.requires.can
    c.requires.on word c.load_header-header.ensures.loads

pub go_to_half-requires-clause-split : goal.go_to_half-requires-clause-split
go_to_half-requires-clause-split c =
    let v = view c.args.pass.now in
    let u = view c.load_header-header.new.pass in
    let n = c.load_header-header.result in
    let at = c.word_at-at.result in
    let word = c.word_at-at.ensures ∙ ap (λ (l : Layout). page_at l.slots c.args.page.slot 0) (sym c.requires.of.layout) in
    λ low. split_at c.args.key c.args.pointers.now c.args.headers.now c.args.holds.now c.args.page at v n u c.requires.can
    c.requires.on word c.load_header-header.ensures.loads c.if-kind-ne-LEAF.false c.if-header-lt-MOVED.false low

pub go_to_half-requires-clause-met : goal.go_to_half-requires-clause-met
go_to_half-requires-clause-met c =
    let v = view c.args.pass.now in
    let u = view c.load_header-header.new.pass in
    let n = c.load_header-header.result in
    let at = c.word_at-at.result in
    let word = c.word_at-at.ensures ∙ ap (λ (l : Layout). page_at l.slots c.args.page.slot 0) (sym c.requires.of.layout) in
    (loaded c.args.key c.args.pointers.now c.args.headers.now c.args.holds.now c.args.page at v n u c.requires.can
    c.requires.on word c.load_header-header.ensures.loads).met

pub go_to_half-requires-clause-small : goal.go_to_half-requires-clause-small
go_to_half-requires-clause-small c =
    let v = view c.args.pass.now in
    let u = view c.load_header-header.new.pass in
    let n = c.load_header-header.result in
    let at = c.word_at-at.result in
    let word = c.word_at-at.ensures ∙ ap (λ (l : Layout). page_at l.slots c.args.page.slot 0) (sym c.requires.of.layout) in
    split_small c.args.key c.args.pointers.now c.args.headers.now c.args.holds.now c.args.page at v n u c.requires.can
    c.requires.on word c.load_header-header.ensures.loads c.if-kind-ne-LEAF.false c.if-header-lt-MOVED.false

pub go_to_half-requires-clause-known : goal.go_to_half-requires-clause-known
go_to_half-requires-clause-known c =
    let v = view c.args.pass.now in
    let u = view c.load_header-header.new.pass in
    let n = c.load_header-header.result in
    let at = c.word_at-at.result in
    let word = c.word_at-at.ensures ∙ ap (λ (l : Layout). page_at l.slots c.args.page.slot 0) (sym c.requires.of.layout) in
    leaf_known c.args.key c.args.pointers.now c.args.headers.now c.args.holds.now c.args.page at v n u c.requires.can
    c.requires.on word c.load_header-header.ensures.loads c.if-kind-ne-LEAF.false

pub returns-clause-goes : goal.returns-clause-goes
returns-clause-goes c =
    let v = view c.args.pass.now in
    let u = view c.load_header-header.new.pass in
    let n = c.load_header-header.result in
    let at = c.word_at-at.result in
    let word = c.word_at-at.ensures ∙ ap (λ (l : Layout). page_at l.slots c.args.page.slot 0) (sym c.requires.of.layout) in
    head_half c.args.key c.args.pointers.now c.args.headers.now c.args.holds.now c.args.page at v n u c.requires.can
    c.requires.on word c.load_header-header.ensures.loads c.in_ok-check_kept.ensures.met c.go_to_half.new.holds c.in_ok-half.half (view c.go_to_half.new.pass)
    (c.in_ok-half.ensures.goes c.args.pointers.now c.args.headers.now c.in_ok-check_kept.ensures.met)

pub returns-in_err-check_kept-clause-goes : goal.returns-in_err-check_kept-clause-goes
returns-in_err-check_kept-clause-goes c =
    let v = view c.args.pass.now in
    let u = view c.load_header-header.new.pass in
    let n = c.load_header-header.result in
    let at = c.word_at-at.result in
    let word = c.word_at-at.ensures ∙ ap (λ (l : Layout). page_at l.slots c.args.page.slot 0) (sym c.requires.of.layout) in
    let p = err_from_is_err_and c.from_residual.result c.from_residual.ensures.1 in
    rw (p.1, p.2)
    (head_other c.args.key c.args.pointers.now c.args.headers.now c.args.holds.now c.args.page at v n u c.requires.can
    c.requires.on word c.load_header-header.ensures.loads c.in_err-check_kept.field-0.0 c.in_err-check_kept.ensures.other)

pub returns-in_err-half-clause-goes : goal.returns-in_err-half-clause-goes
returns-in_err-half-clause-goes c =
    let v = view c.args.pass.now in
    let u = view c.load_header-header.new.pass in
    let n = c.load_header-header.result in
    let at = c.word_at-at.result in
    let word = c.word_at-at.ensures ∙ ap (λ (l : Layout). page_at l.slots c.args.page.slot 0) (sym c.requires.of.layout) in
    let p = err_from_is_err_and c.from_residual-in_err-half.result c.from_residual-in_err-half.ensures.1 in
    rw (p.1, p.2)
    (head_refused c.args.key c.args.pointers.now c.args.headers.now c.args.holds.now c.args.page at v n u c.requires.can
    c.requires.on word c.load_header-header.ensures.loads c.go_to_half.new.holds c.in_err-half.field-0.0 (view c.go_to_half.new.pass)
    (c.in_err-half.ensures.goes c.args.pointers.now c.args.headers.now c.in_ok-check_kept.ensures.met))
