use Rattle.std.proofs.Common.{refl, sym, subst, ◌∙◌, arith}
use Rattle.engine_pages.specs.declared.view.RefusalCause.{RefusalCause}
use Rattle.engine_pages.specs.declared.view.RefusalCause.TheVariants as refusals
use Rattle.engine_pages.specs.declared.view.SetName.TheVariants.{Writes}
use Rattle.engine_pages.specs.Passes.{view}
use Rattle.page_commit.specs.Refusing.{HasRefused}
use Rattle.page_commit.proofs.FoundLaws.{not_read}
use Rattle.page_commit.proofs.WriteLaws.{writes_full, writes_room}
use Rattle.tree_writes.specs.Causes.{RefusesTreeWrite}
use Rattle.tree_writes.proofs.BroughtThen.{read_record, unread_again}
use Rattle.tree_writes.proofs.Falling.{falls_can, full_falls_here}
use Rattle.tree_writes.proofs.Stopping.{refused_end, wide_end}
use Rattle.tree_writes.proofs.growing.place_seen.Goals as goal

-- ---- it wasn't read

pub place_for-requires-clause-unread : goal.place_for-requires-clause-unread
place_for-requires-clause-unread c = not_read c.args.key c.args.sets.now.reads (sym c.find.ensures ∙ c.in_default.is)

pub returns-in_default-clause-again : goal.returns-in_default-clause-again
returns-in_default-clause-again c =
    unread_again c.args.key c.args.sets.now.reads c.place_for.new.sets.reads c.place_for.result
    (not_read c.args.key c.args.sets.now.reads (sym c.find.ensures ∙ c.in_default.is))

-- ---- the write set was full

pub refuse_on-requires-clause-can : goal.refuse_on-requires-clause-can
refuse_on-requires-clause-can c =
    let v = view c.args.pass.now in
    falls_can c.args.sets.now c.args.sets.now.holds c.args.key (refusals.Wide Writes) v v
    (full_falls_here c.args.sets.now c.args.key v c.requires.live
    (writes_full c.is_full.result _ c.is_full.ensures.value c.if-is_full.true) c.requires.unwritten)

pub refuse_on-requires-clause-on : goal.refuse_on-requires-clause-on
refuse_on-requires-clause-on c =
    (writes_full c.is_full.result _ c.is_full.ensures.value c.if-is_full.true, c.requires.unwritten)

pub returns-then-is_full-clause-cause : goal.returns-then-is_full-clause-cause
returns-then-is_full-clause-cause c =
    let v = view c.args.pass.now in
    let f = full_falls_here c.args.sets.now c.args.key v c.requires.live
    (writes_full c.is_full.result _ c.is_full.ensures.value c.if-is_full.true) c.requires.unwritten in
    subst (λ (r : RefusalCause). RefusesTreeWrite c.args.sets.now c.args.sets.now c.args.key r v (view c.refuse_on.new.pass))
    (sym c.refuse_on.ensures.why)
    (wide_end c.args.sets.now c.args.sets.now c.args.sets.now.holds c.args.key v v (view c.refuse_on.new.pass) f.only
    f.stopped c.refuse_on.ensures.gives_up (writes_full c.is_full.result _ c.is_full.ensures.value c.if-is_full.true)
    c.requires.unwritten)

pub returns-then-is_full-clause-refused : goal.returns-then-is_full-clause-refused
returns-then-is_full-clause-refused c =
    let v = view c.args.pass.now in
    let f = full_falls_here c.args.sets.now c.args.key v c.requires.live
    (writes_full c.is_full.result _ c.is_full.ensures.value c.if-is_full.true) c.requires.unwritten in
    subst (λ (r : RefusalCause). HasRefused r v (view c.refuse_on.new.pass)) (sym c.refuse_on.ensures.why)
    (refused_end (refusals.Wide Writes) c.args.sets.now c.args.sets.now.holds c.args.key v v (view c.refuse_on.new.pass) f.only
    f.stopped c.refuse_on.ensures.gives_up f.live f.holds f.agree f.trees)

-- ---- the record that was read is the one

pub returns-clause-room : goal.returns-clause-room
returns-clause-room c =
    writes_room c.is_full.result _ c.is_full.ensures.value c.is_full.ensures.bound c.if-is_full.false

pub returns-clause-brings : goal.returns-clause-brings
returns-clause-brings c =
    read_record c.args.sets.now (view c.args.pass.now) c.args.key c.in-Some.entry c.requires.live c.requires.tree
    (sym c.find.ensures ∙ c.in-Some.is)

pub returns-then-is_full-clause-most : goal.returns-then-is_full-clause-most
returns-then-is_full-clause-most c = let one = c.refuse_on.ensures.most in omega (arith, one)
