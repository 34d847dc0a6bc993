use Rattle.std.proofs.Common.{arith}
use Rattle.engine_pages.specs.Passes.{view}
use Rattle.tree_making.proofs.PageLaws.{copied_active, copied_pages, copied_room, given_look, given_pages, given_slot}
use Rattle.tree_making.proofs.PageLaws.{given_words, inner_draft, inner_page, leaf_draft, leaf_page, loaded_active}
use Rattle.tree_making.proofs.PageLaws.{loaded_slot}
use Rattle.tree_making.proofs.pages.copy_stored.Goals as goal

pub copy_page-requires-clause-can : goal.copy_page-requires-clause-can
copy_page-requires-clause-can c =
    given_look c.requires.given.0 (view c.args.pass.now) c.args.slot c.args.span c.args.number c.requires.given.1
    c.requires.some c.requires.given.2

pub copy_page-requires-clause-slot : goal.copy_page-requires-clause-slot
copy_page-requires-clause-slot c =
    given_slot c.requires.given.0 (view c.args.pass.now) c.args.slot c.args.span c.args.number c.requires.given.1
    c.requires.some c.requires.given.2

pub copy_page-requires-clause-there : goal.copy_page-requires-clause-there
copy_page-requires-clause-there c =
    given_pages c.requires.given.0 (view c.args.pass.now) c.args.slot c.args.span c.args.number c.requires.given.1
    c.requires.some c.requires.given.2

pub copy_page-requires-clause-own : goal.copy_page-requires-clause-own
copy_page-requires-clause-own c =
    given_words c.requires.given.0 (view c.args.pass.now) c.args.slot c.args.span c.args.number c.requires.given.1
    c.requires.some c.requires.given.2

pub overflow_cast-page : goal.overflow_cast-page
overflow_cast-page c =
    let there = c.requires.given.1.there in let most = c.requires.given.1.look.most in omega (arith, there, most)

pub load_resident-header-requires-clause-pass : goal.load_resident-header-requires-clause-pass
load_resident-header-requires-clause-pass c =
    copied_active c.requires.given.0 (view c.args.pass.now) c.args.slot c.args.span c.args.number c.requires.given.1
    c.requires.some c.requires.given.2 (view c.copy_page.new.pass) c.copy_page.ensures.copies.0
    c.copy_page.ensures.copies.2

pub load_resident-header-requires-clause-known : goal.load_resident-header-requires-clause-known
load_resident-header-requires-clause-known c =
    copied_pages c.requires.given.0 (view c.args.pass.now) c.args.slot c.args.span c.args.number c.requires.given.1
    c.requires.some c.requires.given.2 (view c.copy_page.new.pass) c.copy_page.ensures.copies.0
    c.copy_page.ensures.copies.2

pub load_resident-header-requires-clause-room : goal.load_resident-header-requires-clause-room
load_resident-header-requires-clause-room c =
    copied_room c.requires.given.0 (view c.args.pass.now) c.args.slot c.args.span c.args.number c.requires.given.1
    c.requires.some c.requires.given.2 (view c.copy_page.new.pass) c.copy_page.ensures.copies.0
    c.copy_page.ensures.copies.2

pub publish_inner-requires-clause-pass : goal.publish_inner-requires-clause-pass
publish_inner-requires-clause-pass c =
    loaded_active c.requires.given.0 (view c.args.pass.now) c.args.slot c.args.span c.args.number c.requires.given.1
    c.requires.some c.requires.given.2 (view c.copy_page.new.pass) (view c.load_resident-header.new.pass)
    c.copy_page.ensures.copies.0 c.load_resident-header.result c.copy_page.ensures.copies.1
    c.copy_page.ensures.copies.2 c.copy_page.ensures.most c.load_resident-header.ensures.loads

pub publish_inner-requires-clause-slot : goal.publish_inner-requires-clause-slot
publish_inner-requires-clause-slot c =
    loaded_slot c.requires.given.0 (view c.args.pass.now) c.args.slot c.args.span c.args.number c.requires.given.1
    c.requires.some c.requires.given.2 (view c.copy_page.new.pass) (view c.load_resident-header.new.pass)
    c.copy_page.ensures.copies.0 c.load_resident-header.result c.copy_page.ensures.copies.1
    c.copy_page.ensures.copies.2 c.copy_page.ensures.most c.load_resident-header.ensures.loads

pub publish_inner-requires-clause-draft : goal.publish_inner-requires-clause-draft
publish_inner-requires-clause-draft c =
    inner_draft c.requires.given.0 (view c.args.pass.now) c.args.slot c.args.span c.args.number c.requires.given.1
    c.requires.some c.requires.given.2 (view c.copy_page.new.pass) (view c.load_resident-header.new.pass)
    c.copy_page.ensures.copies.0 c.load_resident-header.result c.copy_page.ensures.copies.1
    c.copy_page.ensures.copies.2 c.copy_page.ensures.most c.load_resident-header.ensures.loads
    c.if-header-eq-INNER.true

pub returns-then-header-eq-INNER-clause-made : goal.returns-then-header-eq-INNER-clause-made
returns-then-header-eq-INNER-clause-made c u can taken =
    inner_page u (view c.args.pass.now) c.args.slot c.args.span c.args.number can
    c.requires.some taken (view c.copy_page.new.pass) (view c.load_resident-header.new.pass)
    c.copy_page.ensures.copies.0 c.load_resident-header.result c.copy_page.ensures.copies.1
    c.copy_page.ensures.copies.2 c.copy_page.ensures.most c.load_resident-header.ensures.loads
    (view c.publish_inner.new.pass) c.publish_inner.ensures.publishes

pub publish_stored-requires-clause-active : goal.publish_stored-requires-clause-active
publish_stored-requires-clause-active c =
    loaded_active c.requires.given.0 (view c.args.pass.now) c.args.slot c.args.span c.args.number c.requires.given.1
    c.requires.some c.requires.given.2 (view c.copy_page.new.pass) (view c.load_resident-header.new.pass)
    c.copy_page.ensures.copies.0 c.load_resident-header.result c.copy_page.ensures.copies.1
    c.copy_page.ensures.copies.2 c.copy_page.ensures.most c.load_resident-header.ensures.loads

pub publish_stored-requires-clause-slot : goal.publish_stored-requires-clause-slot
publish_stored-requires-clause-slot c =
    loaded_slot c.requires.given.0 (view c.args.pass.now) c.args.slot c.args.span c.args.number c.requires.given.1
    c.requires.some c.requires.given.2 (view c.copy_page.new.pass) (view c.load_resident-header.new.pass)
    c.copy_page.ensures.copies.0 c.load_resident-header.result c.copy_page.ensures.copies.1
    c.copy_page.ensures.copies.2 c.copy_page.ensures.most c.load_resident-header.ensures.loads

pub publish_stored-requires-clause-draft : goal.publish_stored-requires-clause-draft
publish_stored-requires-clause-draft c =
    leaf_draft c.requires.given.0 (view c.args.pass.now) c.args.slot c.args.span c.args.number c.requires.given.1
    c.requires.some c.requires.given.2 (view c.copy_page.new.pass) (view c.load_resident-header.new.pass)
    c.copy_page.ensures.copies.0 c.load_resident-header.result c.copy_page.ensures.copies.1
    c.copy_page.ensures.copies.2 c.copy_page.ensures.most c.load_resident-header.ensures.loads
    c.if-header-eq-INNER.false

pub returns-clause-made : goal.returns-clause-made
returns-clause-made c u can taken =
    leaf_page u (view c.args.pass.now) c.args.slot c.args.span c.args.number can
    c.requires.some taken (view c.copy_page.new.pass) (view c.load_resident-header.new.pass)
    c.copy_page.ensures.copies.0 c.load_resident-header.result c.copy_page.ensures.copies.1
    c.copy_page.ensures.copies.2 c.copy_page.ensures.most c.load_resident-header.ensures.loads
    (view c.publish_stored.new.pass) c.if-header-eq-INNER.false c.publish_stored.ensures.publishes
