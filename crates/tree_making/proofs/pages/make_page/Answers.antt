use Rattle.std.proofs.lemmas.Result.{err_from_is_err_and}
use Rattle.engine_pages.specs.Passes.{view}
use Rattle.tree_making.proofs.PageLaws.{blank_so, no_entries}
use Rattle.tree_making.proofs.pages.make_page.Goals as goal

pub make_leaf-requires-clause-active : goal.make_leaf-requires-clause-active
make_leaf-requires-clause-active c = c.requires.can.look.active

pub make_leaf-requires-clause-drafts : goal.make_leaf-requires-clause-drafts
make_leaf-requires-clause-drafts c = c.requires.can.nothing_made.drafts

pub make_leaf-requires-clause-tree : goal.make_leaf-requires-clause-tree
make_leaf-requires-clause-tree c = c.requires.can.tree

pub make_leaf-requires-clause-entries : goal.make_leaf-requires-clause-entries
make_leaf-requires-clause-entries c = no_entries c.args.span

pub returns-then-number-eq0-clause-made : goal.returns-then-number-eq0-clause-made
returns-then-number-eq0-clause-made c =
    blank_so c.make_leaf.result c.args.number c.args.span (view c.args.pass.now) (view c.make_leaf.new.pass)
    c.requires.can c.if-number-eq0.true c.make_leaf.ensures.made

pub returns-in_err-slot-clause-missed : goal.returns-in_err-slot-clause-missed
returns-in_err-slot-clause-missed c =
    let p = err_from_is_err_and c.from_residual.result c.from_residual.ensures.1 in
    rw (p.1, p.2) c.in_err-slot.ensures.missed

pub copy_stored-requires-clause-given : goal.copy_stored-requires-clause-given
copy_stored-requires-clause-given c = (view c.args.pass.now, c.requires.can, c.in_ok-slot.ensures.given)

pub returns-clause-made : goal.returns-clause-made
returns-clause-made c = c.copy_stored.ensures.made (view c.args.pass.now) c.requires.can c.in_ok-slot.ensures.given
