use Rattle.std.proofs.Common.{◌≡◌, ◌+◌, ◌*◌, true, length, sym, subst, arith}
use Rattle.engine_pages.specs.declared.layout.Layout.{Layout}
use Rattle.engine_pages.specs.Pages.{is_array}
use Rattle.engine_pages.specs.Passes.{view}
use Rattle.array_pages.specs.Spans.{keys_above, IsArrayAt}
use Rattle.array_pages.proofs.DeclLaws.{few_at, key_at, size_at, within_at}
use Rattle.array_pages.proofs.SpanLaws.{over_large}
use Rattle.array_pages.proofs.SpanLaws.{over_in, root_on}
use Rattle.array_pages.proofs.SpanLaws.{over_medium, over_small}
use Rattle.array_pages.proofs.SpanLaws.{root_large, root_middle, root_pointer, root_small, root_word}
use Rattle.array_pages.proofs.MakeLaws.{makes_within}
use Rattle.array_pages.proofs.making.make_volatile.Goals as goal

pub array_of-root-requires : goal.array_of-root-requires
array_of-root-requires c =
    subst (λ (l : Layout). is_array l.decls c.args.key.storage ≡ true) c.requires.of.layout c.requires.fits.array

pub make_leaf-requires-clause-place : goal.make_leaf-requires-clause-place
make_leaf-requires-clause-place c =
    let v = view c.args.pass.now in
    let root = c.array_of-root.result.0 in
    let size = c.array_of-root.result.1 in
    let there : IsArrayAt v.layout.decls c.args.key.storage root size =
    subst (λ (l : Layout). IsArrayAt l.decls c.args.key.storage root size)
    (sym c.requires.of.layout) c.array_of-root.ensures in
    root_pointer v root (keys_above c.args.key 0 0) (within_at v.layout.decls c.args.key.storage root size there)
    (root_small v.layout.decls c.args.key root size there c.if-size-le-LEAF.true)

pub make_leaf-requires-clause-word : goal.make_leaf-requires-clause-word
make_leaf-requires-clause-word c =
    let v = view c.args.pass.now in
    let root = c.array_of-root.result.0 in
    let size = c.array_of-root.result.1 in
    let there : IsArrayAt v.layout.decls c.args.key.storage root size =
    subst (λ (l : Layout). IsArrayAt l.decls c.args.key.storage root size)
    (sym c.requires.of.layout) c.array_of-root.ensures in
    root_word v.layout root (few_at v.layout.decls c.args.key.storage root size c.requires.can.walks.declared there)

pub make_leaf-requires-clause-over : goal.make_leaf-requires-clause-over
make_leaf-requires-clause-over c =
    let v = view c.args.pass.now in
    let root = c.array_of-root.result.0 in
    let size = c.array_of-root.result.1 in
    let there : IsArrayAt v.layout.decls c.args.key.storage root size =
    subst (λ (l : Layout). IsArrayAt l.decls c.args.key.storage root size)
    (sym c.requires.of.layout) c.array_of-root.ensures in
    over_small c.args.key size (key_at v.layout.decls c.args.key root size c.requires.can.walks.declared c.requires.fits
    there) c.if-size-le-LEAF.true

pub make_middle-requires-clause-place : goal.make_middle-requires-clause-place
make_middle-requires-clause-place c =
    let v = view c.args.pass.now in
    let root = c.array_of-root.result.0 in
    let size = c.array_of-root.result.1 in
    let there : IsArrayAt v.layout.decls c.args.key.storage root size =
    subst (λ (l : Layout). IsArrayAt l.decls c.args.key.storage root size)
    (sym c.requires.of.layout) c.array_of-root.ensures in
    root_pointer v root (keys_above c.args.key 1 0) (within_at v.layout.decls c.args.key.storage root size there)
    (root_middle v.layout.decls c.args.key root size there c.if-size-le-LEAF.false c.if-size-le-MIDDLE.true)

pub make_middle-requires-clause-word : goal.make_middle-requires-clause-word
make_middle-requires-clause-word c =
    let v = view c.args.pass.now in
    let root = c.array_of-root.result.0 in
    let size = c.array_of-root.result.1 in
    let there : IsArrayAt v.layout.decls c.args.key.storage root size =
    subst (λ (l : Layout). IsArrayAt l.decls c.args.key.storage root size)
    (sym c.requires.of.layout) c.array_of-root.ensures in
    root_word v.layout root (few_at v.layout.decls c.args.key.storage root size c.requires.can.walks.declared there)

pub make_middle-requires-clause-over : goal.make_middle-requires-clause-over
make_middle-requires-clause-over c =
    let v = view c.args.pass.now in
    let root = c.array_of-root.result.0 in
    let size = c.array_of-root.result.1 in
    let there : IsArrayAt v.layout.decls c.args.key.storage root size =
    subst (λ (l : Layout). IsArrayAt l.decls c.args.key.storage root size)
    (sym c.requires.of.layout) c.array_of-root.ensures in
    over_medium c.args.key size (key_at v.layout.decls c.args.key root size c.requires.can.walks.declared
    c.requires.fits there) c.if-size-le-MIDDLE.true

pub make_top-requires-clause-place : goal.make_top-requires-clause-place
make_top-requires-clause-place c =
    let v = view c.args.pass.now in
    let root = c.array_of-root.result.0 in
    let size = c.array_of-root.result.1 in
    let there : IsArrayAt v.layout.decls c.args.key.storage root size =
    subst (λ (l : Layout). IsArrayAt l.decls c.args.key.storage root size)
    (sym c.requires.of.layout) c.array_of-root.ensures in
    root_pointer v root (keys_above c.args.key 2 0) (within_at v.layout.decls c.args.key.storage root size there)
    (root_large v.layout.decls c.args.key root size there c.if-size-le-MIDDLE.false)

pub make_top-requires-clause-word : goal.make_top-requires-clause-word
make_top-requires-clause-word c =
    let v = view c.args.pass.now in
    let root = c.array_of-root.result.0 in
    let size = c.array_of-root.result.1 in
    let there : IsArrayAt v.layout.decls c.args.key.storage root size =
    subst (λ (l : Layout). IsArrayAt l.decls c.args.key.storage root size)
    (sym c.requires.of.layout) c.array_of-root.ensures in
    root_word v.layout root (few_at v.layout.decls c.args.key.storage root size c.requires.can.walks.declared there)

pub make_top-requires-clause-over : goal.make_top-requires-clause-over
make_top-requires-clause-over c =
    let v = view c.args.pass.now in
    let root = c.array_of-root.result.0 in
    let size = c.array_of-root.result.1 in
    let there : IsArrayAt v.layout.decls c.args.key.storage root size =
    subst (λ (l : Layout). IsArrayAt l.decls c.args.key.storage root size)
    (sym c.requires.of.layout) c.array_of-root.ensures in
    over_large c.args.key size (key_at v.layout.decls c.args.key root size c.requires.can.walks.declared c.requires.fits
    there) (size_at v.layout.decls c.args.key.storage root size c.requires.can.walks.declared there)

pub returns-then-size-le-LEAF-clause-makes : goal.returns-then-size-le-LEAF-clause-makes
returns-then-size-le-LEAF-clause-makes c =
    let v = view c.args.pass.now in
    makes_within (v.layout.slots + 135) (3 * (v.layout.slots + 135)) (length c.args.holds.now + 1)
    (length c.args.holds.now + 3) c.args.key c.args.pointers.now
    c.make_leaf.new.holds c.make_leaf.result v (view c.make_leaf.new.pass) (omega arith)
    (omega arith) c.make_leaf.ensures.makes

pub returns-then-size-le-MIDDLE-clause-makes : goal.returns-then-size-le-MIDDLE-clause-makes
returns-then-size-le-MIDDLE-clause-makes c =
    let v = view c.args.pass.now in
    makes_within (2 * (v.layout.slots + 135)) (3 * (v.layout.slots + 135)) (length c.args.holds.now + 2)
    (length c.args.holds.now + 3) c.args.key c.args.pointers.now
    c.make_middle.new.holds c.make_middle.result v (view c.make_middle.new.pass) (omega arith)
    (omega arith) c.make_middle.ensures.makes

pub make_leaf-requires-clause-on : goal.make_leaf-requires-clause-on
make_leaf-requires-clause-on c =
    let v = view c.args.pass.now in
    let root = c.array_of-root.result.0 in
    let size = c.array_of-root.result.1 in
    let there : IsArrayAt v.layout.decls c.args.key.storage root size =
    subst (λ (l : Layout). IsArrayAt l.decls c.args.key.storage root size)
    (sym c.requires.of.layout) c.array_of-root.ensures in
    root_on v.layout c.args.key root (keys_above c.args.key 0 0)
    (within_at v.layout.decls c.args.key.storage root size there)
    (root_small v.layout.decls c.args.key root size there c.if-size-le-LEAF.true)
    (over_in c.args.key 0 0 (over_small c.args.key size
    (key_at v.layout.decls c.args.key root size c.requires.can.walks.declared c.requires.fits there)
    c.if-size-le-LEAF.true))

pub make_middle-requires-clause-on : goal.make_middle-requires-clause-on
make_middle-requires-clause-on c =
    let v = view c.args.pass.now in
    let root = c.array_of-root.result.0 in
    let size = c.array_of-root.result.1 in
    let there : IsArrayAt v.layout.decls c.args.key.storage root size =
    subst (λ (l : Layout). IsArrayAt l.decls c.args.key.storage root size)
    (sym c.requires.of.layout) c.array_of-root.ensures in
    root_on v.layout c.args.key root (keys_above c.args.key 1 0)
    (within_at v.layout.decls c.args.key.storage root size there)
    (root_middle v.layout.decls c.args.key root size there c.if-size-le-LEAF.false c.if-size-le-MIDDLE.true)
    (over_in c.args.key 1 0 (over_medium c.args.key size
    (key_at v.layout.decls c.args.key root size c.requires.can.walks.declared c.requires.fits there)
    c.if-size-le-MIDDLE.true))

pub make_top-requires-clause-on : goal.make_top-requires-clause-on
make_top-requires-clause-on c =
    let v = view c.args.pass.now in
    let root = c.array_of-root.result.0 in
    let size = c.array_of-root.result.1 in
    let there : IsArrayAt v.layout.decls c.args.key.storage root size =
    subst (λ (l : Layout). IsArrayAt l.decls c.args.key.storage root size)
    (sym c.requires.of.layout) c.array_of-root.ensures in
    root_on v.layout c.args.key root (keys_above c.args.key 2 0)
    (within_at v.layout.decls c.args.key.storage root size there)
    (root_large v.layout.decls c.args.key root size there c.if-size-le-MIDDLE.false)
    (over_in c.args.key 2 0 (over_large c.args.key size
    (key_at v.layout.decls c.args.key root size c.requires.can.walks.declared c.requires.fits there)
    (size_at v.layout.decls c.args.key.storage root size c.requires.can.walks.declared there)))
