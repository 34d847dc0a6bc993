use Rattle.std.proofs.Common.{refl, sym, subst, ap, ◌∙◌, ◌≡◌, true, ◌+◌, ◌*◌, length}
use Rattle.std.specs.Prelude.{Ok, Err}
use Rattle.std.proofs.lemmas.Result.{err_from_is_err_and}
use Rattle.engine_pages.specs.declared.layout.Layout.{Layout}
use Rattle.engine_pages.specs.Pages.{is_tree}
use Rattle.engine_pages.specs.Passes.{view}
use Rattle.foster_tree.proofs.FillLaws.{filled_leaf, given_can, given_layout, given_own, made_leaf}
use Rattle.foster_tree.proofs.filling.make_leaf.Goals as goal

pub fill_leaf-requires-clause-can : goal.fill_leaf-requires-clause-can
fill_leaf-requires-clause-can c =
    given_can c.in_ok-slot.slot (view c.args.pass.now) (view c.give_slot.new.pass) c.requires.active c.requires.drafts
    c.in_ok-slot.ensures.given

pub publish_entries-requires-clause-draft : goal.publish_entries-requires-clause-draft
publish_entries-requires-clause-draft c =
    let v = view c.args.pass.now in
    let a = view c.give_slot.new.pass in
    let b = view c.fill_leaf.new.pass in
    filled_leaf c.in_ok-slot.slot (3 + 3 * length c.args.entries.now) c.args.span c.args.entries.now
    (view c.give_slot.new.pass) (view c.fill_leaf.new.pass)
    (given_own c.in_ok-slot.slot (view c.args.pass.now) (view c.give_slot.new.pass) c.requires.drafts
    c.in_ok-slot.ensures.given)
    (subst (λ (y : Layout). is_tree y.decls c.args.span.storage ≡ true)
    (sym (given_layout c.in_ok-slot.slot (view c.args.pass.now) (view c.give_slot.new.pass) c.in_ok-slot.ensures.given))
    c.requires.tree)
    c.requires.entries c.fill_leaf.ensures.fills

pub returns-in_err-slot-clause-missed : goal.returns-in_err-slot-clause-missed
returns-in_err-slot-clause-missed c =
    let p = err_from_is_err_and c.from_residual.result c.from_residual.ensures.1 in
    rw (p.1, p.2) c.in_err-slot.ensures.missed

pub returns-clause-made : goal.returns-clause-made
returns-clause-made c =
    made_leaf c.in_ok-slot.slot (3 + 3 * length c.args.entries.now) c.args.span c.args.entries.now
    (view c.args.pass.now) (view c.give_slot.new.pass) (view c.fill_leaf.new.pass) (view c.publish_entries.new.pass)
    c.requires.drafts c.in_ok-slot.ensures.given c.fill_leaf.ensures.fills refl c.publish_entries.ensures.publishes
