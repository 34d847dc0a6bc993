use Rattle.std.proofs.Common.{ℕ, ◌%◌, ◌^◌, ap, subst, arith}
use Rattle.engine_pages.specs.Passes.{view}
use Rattle.page_drops.proofs.Looks.{glanced_then}
use Rattle.tree_drops.specs.Belows.{IsLeafOr}
use Rattle.tree_drops.proofs.BelowLaws.{below_glanced, below_then, can_below, can_child, can_descend_below, child_from, child_to}
use Rattle.tree_drops.proofs.BelowLaws.{child_within, count_glanced, descends_below, for_on, found_below}
use Rattle.tree_drops.proofs.BelowLaws.{header_on, keys_on}
use Rattle.tree_drops.proofs.Founds.{pages_glanced}
use Rattle.tree_drops.proofs.belows.+leaf_for.Goals as goal

pub returns-then-count-gt-RECORDS-clause-goes : goal.returns-then-count-gt-RECORDS-clause-goes
returns-then-count-gt-RECORDS-clause-goes t c =
    below_glanced (view c.args.pass.now) (view c.word_of-header.new.pass) c.word_of-header.ensures.glances

pub returns-then-header-eq1-clause-goes : goal.returns-then-header-eq1-clause-goes
returns-then-header-eq1-clause-goes t c =
    below_glanced (view c.args.pass.now) (view c.word_of-header.new.pass) c.word_of-header.ensures.glances

pub returns-then-count-eq0-clause-goes : goal.returns-then-count-eq0-clause-goes
returns-then-count-eq0-clause-goes t c =
    below_glanced (view c.args.pass.now) (view c.word_of-header.new.pass) c.word_of-header.ensures.glances

pub returns-then-count-gt-CHILDREN-clause-goes : goal.returns-then-count-gt-CHILDREN-clause-goes
returns-then-count-gt-CHILDREN-clause-goes t c =
    below_glanced (view c.args.pass.now) (view c.word_of-header.new.pass) c.word_of-header.ensures.glances

pub descend_tree-child-requires-clause-descend : goal.descend_tree-child-requires-clause-descend
descend_tree-child-requires-clause-descend t c =
    let v = view c.args.pass.now in
    let a = view c.word_of-header.new.pass in
    let b = view c.child_for-index.new.pass in
    let d = view c.keys_below-keys.new.pass in
    let one = glanced_then v a b c.word_of-header.ensures.glances c.child_for-index.ensures.glances in
    let all = glanced_then v b d one c.keys_below-keys.ensures.glances in
    can_descend_below c.args.span c.args.page c.child_for-index.result c.word_of-header.result d
    (can_below c.args.span c.args.page v d all c.requires.below) (λ none. c.if-page-eq0.false (omega (arith, none)))
    (header_on c.args.page c.word_of-header.result v d all c.word_of-header.ensures.word) c.if-header-eq1.false
    (child_within c.args.page c.args.key c.child_for-index.result (c.word_of-header.result % 256) c.args.span a
    (count_glanced c.args.page (c.word_of-header.result % 256) v a c.word_of-header.ensures.glances
    (ap (λ (n : ℕ). n % 2 ^ 8) c.word_of-header.ensures.word))
    (c.child_for-index.ensures.finds c.args.span c.requires.from c.requires.to))

pub leaf_for-requires : goal.leaf_for-requires
leaf_for-requires t c =
    let v = view c.args.pass.now in
    let a = view c.word_of-header.new.pass in
    let b = view c.child_for-index.new.pass in
    let d = view c.keys_below-keys.new.pass in
    let w = view c.descend_tree-child.new.pass in
    let one = glanced_then v a b c.word_of-header.ensures.glances c.child_for-index.ensures.glances in
    let all = glanced_then v b d one c.keys_below-keys.ensures.glances in
    let can = can_below c.args.span c.args.page v d all c.requires.below in
    let last = glanced_then a b d c.child_for-index.ensures.glances c.keys_below-keys.ensures.glances in
    let for = for_on c.args.page c.args.key c.child_for-index.result c.args.span a d last
    (c.child_for-index.ensures.finds c.args.span c.requires.from c.requires.to) in
    let same = keys_on c.args.page c.child_for-index.result c.args.span c.keys_below-keys.result b d c.keys_below-keys.ensures.glances
    c.keys_below-keys.ensures.keys in
    let h = c.descend_tree-child.ensures.descends in
    let down = h.below in (
      omega (arith, down),
      (
        c.descend_tree-child.ensures.of,
        (
          can_child c.args.span c.keys_below-keys.result c.args.page c.child_for-index.result c.descend_tree-child.result d w can same h,
          (
            child_from c.args.span c.keys_below-keys.result c.args.page c.child_for-index.result c.descend_tree-child.result d w can same
                h c.args.key for,
            child_to c.args.span c.keys_below-keys.result c.args.page c.child_for-index.result c.descend_tree-child.result d w can same
                h c.args.key for,
          ),
        ),
      ),
    )

pub returns-clause-goes : goal.returns-clause-goes
returns-clause-goes t c =
    let v = view c.args.pass.now in
    let a = view c.word_of-header.new.pass in
    let b = view c.child_for-index.new.pass in
    let d = view c.keys_below-keys.new.pass in
    let w = view c.descend_tree-child.new.pass in
    let z = view c.leaf_for.new.pass in
    let one = glanced_then v a b c.word_of-header.ensures.glances c.child_for-index.ensures.glances in
    let all = glanced_then v b d one c.keys_below-keys.ensures.glances in
    let can = can_below c.args.span c.args.page v d all c.requires.below in
    let same = keys_on c.args.page c.child_for-index.result c.args.span c.keys_below-keys.result b d c.keys_below-keys.ensures.glances
    c.keys_below-keys.ensures.keys in
    below_then v d z (below_glanced v d all)
    (below_then d w z
    (descends_below c.args.span c.keys_below-keys.result c.args.page c.child_for-index.result c.descend_tree-child.result d w can same
    c.descend_tree-child.ensures.descends)
    c.leaf_for.ensures.goes)

pub returns-clause-finds : goal.returns-clause-finds
returns-clause-finds t c =
    let v = view c.args.pass.now in
    let a = view c.word_of-header.new.pass in
    let b = view c.child_for-index.new.pass in
    let d = view c.keys_below-keys.new.pass in
    let w = view c.descend_tree-child.new.pass in
    let one = glanced_then v a b c.word_of-header.ensures.glances c.child_for-index.ensures.glances in
    let all = glanced_then v b d one c.keys_below-keys.ensures.glances in
    let can = can_below c.args.span c.args.page v d all c.requires.below in
    let last = glanced_then a b d c.child_for-index.ensures.glances c.keys_below-keys.ensures.glances in
    let for = for_on c.args.page c.args.key c.child_for-index.result c.args.span a d last
    (c.child_for-index.ensures.finds c.args.span c.requires.from c.requires.to) in
    let same = keys_on c.args.page c.child_for-index.result c.args.span c.keys_below-keys.result b d c.keys_below-keys.ensures.glances
    c.keys_below-keys.ensures.keys in
    subst (λ ps. IsLeafOr ps c.args.span c.args.page c.args.key c.leaf_for.result) (pages_glanced v d all)
    (found_below c.args.span c.keys_below-keys.result c.args.page c.child_for-index.result c.descend_tree-child.result d w can same
    c.descend_tree-child.ensures.descends c.args.key for c.leaf_for.result c.leaf_for.ensures.finds)
