use Rattle.std.proofs.Common.{inl, inr, arith}
use Rattle.engine_pages.specs.Passes.{view}
use Rattle.tree_drops.proofs.BelowCovers.{cover_on, earlier_page, kept_first, page_blank, page_inner}
use Rattle.tree_drops.proofs.BelowKeys.{glanced_reads}
use Rattle.tree_drops.proofs.BelowLaws.{odd_page}
use Rattle.tree_drops.proofs.Chaining.{chained_glanced}
use Rattle.tree_drops.proofs.covering.cover_page.Goals as goal

pub returns-then-page-eq0-clause-covers : goal.returns-then-page-eq0-clause-covers
returns-then-page-eq0-clause-covers c =
    page_blank c.args.root c.args.halves.now c.args.headers.now c.args.span c.args.page (view c.args.pass.now)
    (let none = c.if-page-eq0.true in omega (arith, none))

pub cover_leaf-requires-clause-cover : goal.cover_leaf-requires-clause-cover
cover_leaf-requires-clause-cover c =
    let v = view c.args.pass.now in
    let a = view c.word_of-header.new.pass in
    let h = c.word_of-header.ensures.glances in
    cover_on c.args.root c.args.halves.now c.args.headers.now c.args.span c.args.page v a (chained_glanced v a h) (glanced_reads v a h)
    c.requires.cover

pub returns-then-header-eq1-clause-covers : goal.returns-then-header-eq1-clause-covers
returns-then-header-eq1-clause-covers c =
    let v = view c.args.pass.now in
    let a = view c.word_of-header.new.pass in
    let h = c.word_of-header.ensures.glances in
    earlier_page c.args.root c.args.halves.now c.args.headers.now c.args.span c.args.page c.cover_leaf.result v a
    (view c.cover_leaf.new.pass) (chained_glanced v a h) (glanced_reads v a h) c.cover_leaf.ensures.covers

pub returns-then-count-eq0-clause-covers : goal.returns-then-count-eq0-clause-covers
returns-then-count-eq0-clause-covers c =
    let v = view c.args.pass.now in
    let a = view c.word_of-header.new.pass in
    let h = c.word_of-header.ensures.glances in
    kept_first c.args.root c.args.span c.args.page c.keep_first-empty.result v a
    (view c.keep_first-empty.new.pass) (chained_glanced v a h) (glanced_reads v a h)
    (odd_page v.pages c.args.page c.word_of-header.result (λ none. c.if-page-eq0.false (omega (arith, none))) c.requires.cover.below.there
    c.word_of-header.ensures.word c.if-header-eq1.false (inl (let none = c.if-count-eq0.true in omega (arith, none))))
    c.keep_first-empty.ensures.keeps c.keep_first-empty.ensures.reads

pub returns-then-count-gt-CHILDREN-clause-covers : goal.returns-then-count-gt-CHILDREN-clause-covers
returns-then-count-gt-CHILDREN-clause-covers c =
    let v = view c.args.pass.now in
    let a = view c.word_of-header.new.pass in
    let h = c.word_of-header.ensures.glances in
    kept_first c.args.root c.args.span c.args.page c.keep_first-odd.result v a
    (view c.keep_first-odd.new.pass) (chained_glanced v a h) (glanced_reads v a h)
    (odd_page v.pages c.args.page c.word_of-header.result (λ none. c.if-page-eq0.false (omega (arith, none))) c.requires.cover.below.there
    c.word_of-header.ensures.word c.if-header-eq1.false (inr (let many = c.if-count-gt-CHILDREN.true in omega (arith, many))))
    c.keep_first-odd.ensures.keeps c.keep_first-odd.ensures.reads

pub returns-clause-covers : goal.returns-clause-covers
returns-clause-covers c =
    page_inner c.args.root c.args.halves.now c.args.headers.now c.args.span c.args.page c.word_of-header.result (view c.args.pass.now)
    (view c.word_of-header.new.pass) c.word_of-header.ensures.glances (λ none. c.if-page-eq0.false (omega (arith, none)))
    c.word_of-header.ensures.word c.if-header-eq1.false (λ none. c.if-count-eq0.false (omega (arith, none)))
    (let few = c.if-count-gt-CHILDREN.false in omega (arith, few))
