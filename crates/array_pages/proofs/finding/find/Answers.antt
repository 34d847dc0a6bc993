use Rattle.std.proofs.Common.{◌≡◌, ◌+◌, true, length, sym, subst, arith}
use Rattle.engine_pages.specs.declared.layout.Layout.{Layout}
use Rattle.engine_pages.specs.Pages.{is_array}
use Rattle.engine_pages.specs.Passes.{view}
use Rattle.array_pages.specs.Spans.{keys_above, IsArrayAt}
use Rattle.array_pages.proofs.DeclLaws.{few_at, key_at, size_at, within_at}
use Rattle.array_pages.proofs.FindLaws.{finds_within}
use Rattle.array_pages.proofs.SpanLaws.{over_large}
use Rattle.array_pages.proofs.SpanLaws.{over_in, root_on}
use Rattle.array_pages.proofs.SpanLaws.{over_medium, over_small}
use Rattle.array_pages.proofs.SpanLaws.{root_large, root_middle, root_pointer, root_small, root_word}
use Rattle.array_pages.proofs.finding.find.Goals as goal

pub array_of-root-requires : goal.array_of-root-requires
array_of-root-requires c =
    subst (λ (l : Layout). is_array l.decls c.args.key.storage ≡ true) c.requires.of.layout c.requires.fits.array

pub find_in_leaf-requires-clause-place : goal.find_in_leaf-requires-clause-place
find_in_leaf-requires-clause-place c =
    let v = view c.args.pass.now in
    let root = c.array_of-root.result.0 in
    let size = c.array_of-root.result.1 in
    let there : IsArrayAt v.layout.decls c.args.key.storage root size =
    subst (λ (l : Layout). IsArrayAt l.decls c.args.key.storage root size)
    (sym c.requires.of.layout) c.array_of-root.ensures in
    root_pointer v root (keys_above c.args.key 0 0) (within_at v.layout.decls c.args.key.storage root size there)
    (root_small v.layout.decls c.args.key root size there c.if-size-le-LEAF.true)

pub find_in_leaf-requires-clause-word : goal.find_in_leaf-requires-clause-word
find_in_leaf-requires-clause-word c =
    let v = view c.args.pass.now in
    let root = c.array_of-root.result.0 in
    let size = c.array_of-root.result.1 in
    let there : IsArrayAt v.layout.decls c.args.key.storage root size =
    subst (λ (l : Layout). IsArrayAt l.decls c.args.key.storage root size)
    (sym c.requires.of.layout) c.array_of-root.ensures in
    root_word v.layout root (few_at v.layout.decls c.args.key.storage root size c.requires.can.declared there)

pub find_in_leaf-requires-clause-over : goal.find_in_leaf-requires-clause-over
find_in_leaf-requires-clause-over c =
    let v = view c.args.pass.now in
    let root = c.array_of-root.result.0 in
    let size = c.array_of-root.result.1 in
    let there : IsArrayAt v.layout.decls c.args.key.storage root size =
    subst (λ (l : Layout). IsArrayAt l.decls c.args.key.storage root size)
    (sym c.requires.of.layout) c.array_of-root.ensures in
    over_small c.args.key size (key_at v.layout.decls c.args.key root size c.requires.can.declared c.requires.fits
    there) c.if-size-le-LEAF.true

pub find_in_middle-requires-clause-place : goal.find_in_middle-requires-clause-place
find_in_middle-requires-clause-place c =
    let v = view c.args.pass.now in
    let root = c.array_of-root.result.0 in
    let size = c.array_of-root.result.1 in
    let there : IsArrayAt v.layout.decls c.args.key.storage root size =
    subst (λ (l : Layout). IsArrayAt l.decls c.args.key.storage root size)
    (sym c.requires.of.layout) c.array_of-root.ensures in
    root_pointer v root (keys_above c.args.key 1 0) (within_at v.layout.decls c.args.key.storage root size there)
    (root_middle v.layout.decls c.args.key root size there c.if-size-le-LEAF.false c.if-size-le-MIDDLE.true)

pub find_in_middle-requires-clause-word : goal.find_in_middle-requires-clause-word
find_in_middle-requires-clause-word c =
    let v = view c.args.pass.now in
    let root = c.array_of-root.result.0 in
    let size = c.array_of-root.result.1 in
    let there : IsArrayAt v.layout.decls c.args.key.storage root size =
    subst (λ (l : Layout). IsArrayAt l.decls c.args.key.storage root size)
    (sym c.requires.of.layout) c.array_of-root.ensures in
    root_word v.layout root (few_at v.layout.decls c.args.key.storage root size c.requires.can.declared there)

pub find_in_middle-requires-clause-over : goal.find_in_middle-requires-clause-over
find_in_middle-requires-clause-over c =
    let v = view c.args.pass.now in
    let root = c.array_of-root.result.0 in
    let size = c.array_of-root.result.1 in
    let there : IsArrayAt v.layout.decls c.args.key.storage root size =
    subst (λ (l : Layout). IsArrayAt l.decls c.args.key.storage root size)
    (sym c.requires.of.layout) c.array_of-root.ensures in
    over_medium c.args.key size (key_at v.layout.decls c.args.key root size c.requires.can.declared c.requires.fits
    there) c.if-size-le-MIDDLE.true

pub find_in_top-requires-clause-place : goal.find_in_top-requires-clause-place
find_in_top-requires-clause-place c =
    let v = view c.args.pass.now in
    let root = c.array_of-root.result.0 in
    let size = c.array_of-root.result.1 in
    let there : IsArrayAt v.layout.decls c.args.key.storage root size =
    subst (λ (l : Layout). IsArrayAt l.decls c.args.key.storage root size)
    (sym c.requires.of.layout) c.array_of-root.ensures in
    root_pointer v root (keys_above c.args.key 2 0) (within_at v.layout.decls c.args.key.storage root size there)
    (root_large v.layout.decls c.args.key root size there c.if-size-le-MIDDLE.false)

pub find_in_top-requires-clause-word : goal.find_in_top-requires-clause-word
find_in_top-requires-clause-word c =
    let v = view c.args.pass.now in
    let root = c.array_of-root.result.0 in
    let size = c.array_of-root.result.1 in
    let there : IsArrayAt v.layout.decls c.args.key.storage root size =
    subst (λ (l : Layout). IsArrayAt l.decls c.args.key.storage root size)
    (sym c.requires.of.layout) c.array_of-root.ensures in
    root_word v.layout root (few_at v.layout.decls c.args.key.storage root size c.requires.can.declared there)

pub find_in_top-requires-clause-over : goal.find_in_top-requires-clause-over
find_in_top-requires-clause-over c =
    let v = view c.args.pass.now in
    let root = c.array_of-root.result.0 in
    let size = c.array_of-root.result.1 in
    let there : IsArrayAt v.layout.decls c.args.key.storage root size =
    subst (λ (l : Layout). IsArrayAt l.decls c.args.key.storage root size)
    (sym c.requires.of.layout) c.array_of-root.ensures in
    over_large c.args.key size (key_at v.layout.decls c.args.key root size c.requires.can.declared c.requires.fits
    there) (size_at v.layout.decls c.args.key.storage root size c.requires.can.declared there)

pub returns-then-size-le-LEAF-clause-finds : goal.returns-then-size-le-LEAF-clause-finds
returns-then-size-le-LEAF-clause-finds c =
    finds_within 6 12 (length c.args.holds.now + 1) (length c.args.holds.now + 3) c.args.key c.args.pointers.now
    c.find_in_leaf.new.holds c.find_in_leaf.result (view c.args.pass.now)
    (view c.find_in_leaf.new.pass) (omega arith) (omega arith) c.find_in_leaf.ensures.finds

pub returns-then-size-le-MIDDLE-clause-finds : goal.returns-then-size-le-MIDDLE-clause-finds
returns-then-size-le-MIDDLE-clause-finds c =
    finds_within 9 12 (length c.args.holds.now + 2) (length c.args.holds.now + 3) c.args.key c.args.pointers.now
    c.find_in_middle.new.holds c.find_in_middle.result (view c.args.pass.now)
    (view c.find_in_middle.new.pass) (omega arith) (omega arith) c.find_in_middle.ensures.finds

pub find_in_leaf-requires-clause-on : goal.find_in_leaf-requires-clause-on
find_in_leaf-requires-clause-on c =
    let v = view c.args.pass.now in
    let root = c.array_of-root.result.0 in
    let size = c.array_of-root.result.1 in
    let there : IsArrayAt v.layout.decls c.args.key.storage root size =
    subst (λ (l : Layout). IsArrayAt l.decls c.args.key.storage root size)
    (sym c.requires.of.layout) c.array_of-root.ensures in
    root_on v.layout c.args.key root (keys_above c.args.key 0 0)
    (within_at v.layout.decls c.args.key.storage root size there)
    (root_small v.layout.decls c.args.key root size there c.if-size-le-LEAF.true)
    (over_in c.args.key 0 0 (over_small c.args.key size
    (key_at v.layout.decls c.args.key root size c.requires.can.declared c.requires.fits there)
    c.if-size-le-LEAF.true))

pub find_in_middle-requires-clause-on : goal.find_in_middle-requires-clause-on
find_in_middle-requires-clause-on c =
    let v = view c.args.pass.now in
    let root = c.array_of-root.result.0 in
    let size = c.array_of-root.result.1 in
    let there : IsArrayAt v.layout.decls c.args.key.storage root size =
    subst (λ (l : Layout). IsArrayAt l.decls c.args.key.storage root size)
    (sym c.requires.of.layout) c.array_of-root.ensures in
    root_on v.layout c.args.key root (keys_above c.args.key 1 0)
    (within_at v.layout.decls c.args.key.storage root size there)
    (root_middle v.layout.decls c.args.key root size there c.if-size-le-LEAF.false c.if-size-le-MIDDLE.true)
    (over_in c.args.key 1 0 (over_medium c.args.key size
    (key_at v.layout.decls c.args.key root size c.requires.can.declared c.requires.fits there)
    c.if-size-le-MIDDLE.true))

pub find_in_top-requires-clause-on : goal.find_in_top-requires-clause-on
find_in_top-requires-clause-on c =
    let v = view c.args.pass.now in
    let root = c.array_of-root.result.0 in
    let size = c.array_of-root.result.1 in
    let there : IsArrayAt v.layout.decls c.args.key.storage root size =
    subst (λ (l : Layout). IsArrayAt l.decls c.args.key.storage root size)
    (sym c.requires.of.layout) c.array_of-root.ensures in
    root_on v.layout c.args.key root (keys_above c.args.key 2 0)
    (within_at v.layout.decls c.args.key.storage root size there)
    (root_large v.layout.decls c.args.key root size there c.if-size-le-MIDDLE.false)
    (over_in c.args.key 2 0 (over_large c.args.key size
    (key_at v.layout.decls c.args.key root size c.requires.can.declared c.requires.fits there)
    (size_at v.layout.decls c.args.key.storage root size c.requires.can.declared there)))
