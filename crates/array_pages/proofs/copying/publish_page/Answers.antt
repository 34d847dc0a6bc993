use Rattle.std.proofs.Common.{ℕ, ◌<◌, ◌≤◌, ◌∷◌, [], Bool, List, length, sym, ap, ◌∙◌, subst}
use Rattle.std.proofs.lemmas.Result.{err_from_is_err_and}
use Rattle.engine_pages.specs.declared.layout.Layout.{Layout}
use Rattle.engine_pages.specs.declared.view.View.{View}
use Rattle.engine_pages.specs.Passes.{view}
use Rattle.engine_pages.specs.Views.{IsActive}
use Rattle.array_pages.specs.Making.{draft_of, HasCopied}
use Rattle.array_pages.specs.Steps.{CanCopy}
use Rattle.array_pages.proofs.CopyLaws.{IsGiven, copy_draft, given_draft, given_looks, is_given}
use Rattle.array_pages.proofs.CopyLaws.{pointers_draft, published}
use Rattle.array_pages.proofs.copying.publish_page.Goals as goal

pub give_slot-requires-clause-pass : goal.give_slot-requires-clause-pass
give_slot-requires-clause-pass c =
    c.requires.can.1.walks.active

pub returns-in_err-slot-clause-published : goal.returns-in_err-slot-clause-published
returns-in_err-slot-clause-published c =
    let p = err_from_is_err_and c.from_residual.result c.from_residual.ensures.1 in rw p.1 tt

pub returns-in_err-slot-clause-missed : goal.returns-in_err-slot-clause-missed
returns-in_err-slot-clause-missed c =
    let p = err_from_is_err_and c.from_residual.result c.from_residual.ensures.1 in
    rw (p.1, p.2) c.in_err-slot.ensures.missed

pub copy_page-requires-clause-can : goal.copy_page-requires-clause-can
copy_page-requires-clause-can c =
    let v = view c.args.pass.now in
    let a = view c.give_slot.new.pass in
    let t = c.in_ok-slot.slot in
    let g : IsGiven t v a = is_given t v a c.in_ok-slot.ensures.given in
    given_looks t v a g c.requires.bare.look

pub copy_page-requires-clause-slot : goal.copy_page-requires-clause-slot
copy_page-requires-clause-slot c =
    let v = view c.args.pass.now in
    let a = view c.give_slot.new.pass in
    let t = c.in_ok-slot.slot in
    let g : IsGiven t v a = is_given t v a c.in_ok-slot.ensures.given in
    subst (λ (y : Layout). t < y.slots) (sym (ap (λ (z : View). z.layout) g.is)) g.there

pub copy_page-requires-clause-there : goal.copy_page-requires-clause-there
copy_page-requires-clause-there c =
    let v = view c.args.pass.now in
    let a = view c.give_slot.new.pass in
    let t = c.in_ok-slot.slot in
    let g : IsGiven t v a = is_given t v a c.in_ok-slot.ensures.given in
    subst (λ (l : List (List ℕ)). c.args.word ≤ length l) (sym (ap (λ (z : View). z.pages) g.is)) c.requires.bare.there

pub copy_page-requires-clause-own : goal.copy_page-requires-clause-own
copy_page-requires-clause-own c =
    let v = view c.args.pass.now in
    let a = view c.give_slot.new.pass in
    let t = c.in_ok-slot.slot in
    let g : IsGiven t v a = is_given t v a c.in_ok-slot.ensures.given in
    (g.words, g.long, given_draft c.requires.can.0 t v a c.requires.can.1 g)

pub publish_copy-requires-clause-pass : goal.publish_copy-requires-clause-pass
publish_copy-requires-clause-pass c =
    let v = view c.args.pass.now in
    let a = view c.give_slot.new.pass in
    let t = c.in_ok-slot.slot in
    let g : IsGiven t v a = is_given t v a c.in_ok-slot.ensures.given in
    let b = view c.copy_page.new.pass in
    let words = c.copy_page.ensures.copies.0 in
    let copied = c.copy_page.ensures.copies.1 in
    let has : HasCopied t words a b = c.copy_page.ensures.copies.2 in
    subst (λ (z : View). IsActive z.role)
    (sym (has.is ∙ ap (λ (z : View).
    (let y : View = record z { steps = b.steps; last = b.last; drafts = draft_of t words ∷ [] } in y)) g.is))
    c.requires.can.1.walks.active

pub publish_copy-requires-clause-slot : goal.publish_copy-requires-clause-slot
publish_copy-requires-clause-slot c =
    let v = view c.args.pass.now in
    let a = view c.give_slot.new.pass in
    let t = c.in_ok-slot.slot in
    let g : IsGiven t v a = is_given t v a c.in_ok-slot.ensures.given in
    let b = view c.copy_page.new.pass in
    let words = c.copy_page.ensures.copies.0 in
    let copied = c.copy_page.ensures.copies.1 in
    let has : HasCopied t words a b = c.copy_page.ensures.copies.2 in
    subst (λ (y : Layout). t < y.slots) (sym (ap (λ (z : View). z.layout) has.is ∙ ap (λ (z : View). z.layout) g.is))
    g.there

pub publish_copy-requires-clause-draft : goal.publish_copy-requires-clause-draft
publish_copy-requires-clause-draft c =
    let v = view c.args.pass.now in
    let a = view c.give_slot.new.pass in
    let t = c.in_ok-slot.slot in
    let g : IsGiven t v a = is_given t v a c.in_ok-slot.ensures.given in
    let b = view c.copy_page.new.pass in
    let words = c.copy_page.ensures.copies.0 in
    let copied = c.copy_page.ensures.copies.1 in
    let has : HasCopied t words a b = c.copy_page.ensures.copies.2 in
    copy_draft t c.args.span c.args.word c.args.at words v a b c.requires.bare c.requires.array g copied has
    c.requires.can.0 c.requires.can.1.walks (subst (λ (f : Bool). CanCopy f c.args.span) c.if-leaf.true c.requires.kind)

pub publish_pointers-requires-clause-pass : goal.publish_pointers-requires-clause-pass
publish_pointers-requires-clause-pass c =
    let v = view c.args.pass.now in
    let a = view c.give_slot.new.pass in
    let t = c.in_ok-slot.slot in
    let g : IsGiven t v a = is_given t v a c.in_ok-slot.ensures.given in
    let b = view c.copy_page.new.pass in
    let words = c.copy_page.ensures.copies.0 in
    let copied = c.copy_page.ensures.copies.1 in
    let has : HasCopied t words a b = c.copy_page.ensures.copies.2 in
    subst (λ (z : View). IsActive z.role)
    (sym (has.is ∙ ap (λ (z : View).
    (let y : View = record z { steps = b.steps; last = b.last; drafts = draft_of t words ∷ [] } in y)) g.is))
    c.requires.can.1.walks.active

pub publish_pointers-requires-clause-slot : goal.publish_pointers-requires-clause-slot
publish_pointers-requires-clause-slot c =
    let v = view c.args.pass.now in
    let a = view c.give_slot.new.pass in
    let t = c.in_ok-slot.slot in
    let g : IsGiven t v a = is_given t v a c.in_ok-slot.ensures.given in
    let b = view c.copy_page.new.pass in
    let words = c.copy_page.ensures.copies.0 in
    let copied = c.copy_page.ensures.copies.1 in
    let has : HasCopied t words a b = c.copy_page.ensures.copies.2 in
    subst (λ (y : Layout). t < y.slots) (sym (ap (λ (z : View). z.layout) has.is ∙ ap (λ (z : View). z.layout) g.is))
    g.there

pub publish_pointers-requires-clause-draft : goal.publish_pointers-requires-clause-draft
publish_pointers-requires-clause-draft c =
    let v = view c.args.pass.now in
    let a = view c.give_slot.new.pass in
    let t = c.in_ok-slot.slot in
    let g : IsGiven t v a = is_given t v a c.in_ok-slot.ensures.given in
    let b = view c.copy_page.new.pass in
    let words = c.copy_page.ensures.copies.0 in
    let copied = c.copy_page.ensures.copies.1 in
    let has : HasCopied t words a b = c.copy_page.ensures.copies.2 in
    pointers_draft t c.args.span c.args.word c.args.at words v a b c.requires.bare c.requires.array g copied has
    (subst (λ (f : Bool). CanCopy f c.args.span) c.if-leaf.false c.requires.kind)

pub returns-then-leaf-clause-published : goal.returns-then-leaf-clause-published
returns-then-leaf-clause-published c =
    let v = view c.args.pass.now in
    let a = view c.give_slot.new.pass in
    let t = c.in_ok-slot.slot in
    let g : IsGiven t v a = is_given t v a c.in_ok-slot.ensures.given in
    let b = view c.copy_page.new.pass in
    let words = c.copy_page.ensures.copies.0 in
    let copied = c.copy_page.ensures.copies.1 in
    let has : HasCopied t words a b = c.copy_page.ensures.copies.2 in
    published c.requires.can.0 t c.args.span c.args.word words v a b
    (view c.publish_copy.new.pass) c.requires.can.1 g has c.copy_page.ensures.most
    c.publish_copy.ensures.publishes

pub returns-clause-published : goal.returns-clause-published
returns-clause-published c =
    let v = view c.args.pass.now in
    let a = view c.give_slot.new.pass in
    let t = c.in_ok-slot.slot in
    let g : IsGiven t v a = is_given t v a c.in_ok-slot.ensures.given in
    let b = view c.copy_page.new.pass in
    let words = c.copy_page.ensures.copies.0 in
    let copied = c.copy_page.ensures.copies.1 in
    let has : HasCopied t words a b = c.copy_page.ensures.copies.2 in
    published c.requires.can.0 t c.args.span c.args.word words v a b
    (view c.publish_pointers.new.pass) c.requires.can.1 g has c.copy_page.ensures.most
    c.publish_pointers.ensures.publishes
