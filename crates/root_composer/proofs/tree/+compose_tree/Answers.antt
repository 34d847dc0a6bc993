use Rattle.std.proofs.Common.{◌≡◌, ◌+◌, ◌-◌, ℕ, List, length, true, sym, ap, subst, ◌∙◌, arith}
use Rattle.std.proofs.lemmas.List.{length-map}
use Rattle.std.proofs.lemmas.Result.{err_from_is_err_and, IfOk-weaker}
use Rattle.wire_form.specs.declared.page.Page.{Page}
use Rattle.snapshot_store.specs.Content.{words_of}
use Rattle.snapshot_store.specs.Places.{places_below}
use Rattle.snapshot_store.specs.TreePages.{tree_format}
use Rattle.root_composer.specs.Overlaid.{touches}
use Rattle.root_composer.specs.Rows.{rows_of, entries_in, merged}
use Rattle.root_composer.specs.Build.{made_leaf}
use Rattle.root_composer.specs.TreeCode.{AddsWithin, WouldBeDeep}
use Rattle.root_composer.proofs.OverlayLemmas.{touched_range}
use Rattle.root_composer.proofs.TreePlaces.{tree_depth, inner_here, leaf_here, kid_here, kid_stands, deep_here, page_here, leaf_tree, leaf_deep, ComposesKids, no_kid_yet, one_more_kid}
use Rattle.root_composer.proofs.tree.+compose_tree.Goals as goal

pub compose_leaf-requires-clause-leaf : goal.compose_leaf-requires-clause-leaf
compose_leaf-requires-clause-leaf t c = sym c.is_inner.ensures ∙ c.if-not-is_inner.true

pub compose_leaf-requires-clause-few : goal.compose_leaf-requires-clause-few
compose_leaf-requires-clause-few t c =
    (leaf_here (words_of c.args.store.now.pages) c.args.depth c.args.p c.page_words-words.result c.requires.stands c.page_words-words.ensures.is c.page_words-words.ensures.there (sym c.is_inner.ensures ∙ c.if-not-is_inner.true)).few

pub compose_leaf-requires-clause-ascends : goal.compose_leaf-requires-clause-ascends
compose_leaf-requires-clause-ascends t c =
    (leaf_here (words_of c.args.store.now.pages) c.args.depth c.args.p c.page_words-words.result c.requires.stands c.page_words-words.ensures.is c.page_words-words.ensures.there (sym c.is_inner.ensures ∙ c.if-not-is_inner.true)).ascends

pub compose_leaf-requires-clause-range : goal.compose_leaf-requires-clause-range
compose_leaf-requires-clause-range t c = touched_range c.args.run.now c.args.p.low c.args.p.high (sym c.has_entry.ensures ∙ c.if-not-has_entry.false)

pub returns-then-not-is_inner-clause-made : goal.returns-then-not-is_inner-clause-made
returns-then-not-is_inner-clause-made t c =
    let old = words_of c.args.store.now.pages in
    let words = c.page_words-words.result in
    let touched : touches c.args.run.now c.args.p.low c.args.p.high ≡ true = sym c.has_entry.ensures ∙ c.if-not-has_entry.false in
    let leaf = leaf_here old c.args.depth c.args.p words c.requires.stands c.page_words-words.ensures.is c.page_words-words.ensures.there (sym c.is_inner.ensures ∙ c.if-not-is_inner.true) in
    let count : c.count.result ≡ length (words_of c.args.store.now.pages) = omega (arith, c.count.ensures.count, length-map c.args.store.now.pages (λ p. Page.words p)) in
    IfOk-weaker c.compose_leaf.result _ _
    (λ n adds. leaf_tree c.args.run.now old c.args.made.now.items c.compose_leaf.new.made.items c.args.depth c.args.p words n c.requires.stands touched leaf
    (subst (λ (k : ℕ). AddsWithin c.args.depth c.args.made.now.items c.compose_leaf.new.made.items n (made_leaf c.args.p (merged (entries_in c.args.p.low c.args.p.high c.args.run.now) (rows_of c.page_words-words.result)) (k + length c.args.made.now.items))) count adds))
    c.compose_leaf.ensures.made

pub returns-then-not-is_inner-clause-deep : goal.returns-then-not-is_inner-clause-deep
returns-then-not-is_inner-clause-deep t c fault e =
    let old = words_of c.args.store.now.pages in
    let words = c.page_words-words.result in
    let touched : touches c.args.run.now c.args.p.low c.args.p.high ≡ true = sym c.has_entry.ensures ∙ c.if-not-has_entry.false in
    let leaf = leaf_here old c.args.depth c.args.p words c.requires.stands c.page_words-words.ensures.is c.page_words-words.ensures.there (sym c.is_inner.ensures ∙ c.if-not-is_inner.true) in
    let count : c.count.result ≡ length (words_of c.args.store.now.pages) = omega (arith, c.count.ensures.count, length-map c.args.store.now.pages (λ p. Page.words p)) in
    leaf_deep c.args.run.now old c.args.made.now.items c.args.depth fault c.args.p words c.requires.stands touched leaf
    (subst (λ (k : ℕ). WouldBeDeep c.args.depth fault (made_leaf c.args.p (merged (entries_in c.args.p.low c.args.p.high c.args.run.now) (rows_of c.page_words-words.result)) (k + length c.args.made.now.items))) count (c.compose_leaf.ensures.deep fault e))

pub loop-i-init : goal.loop-i-init
loop-i-init t c =
    let old = words_of c.args.store.now.pages in
    let kids = places_below tree_format old c.args.p in
    subst (λ (ns : List ℕ). ComposesKids c.args.run.now (words_of c.args.store.now.pages) (c.args.depth - 1) (places_below tree_format (words_of c.args.store.now.pages) c.args.p) c.args.made.now.items 0 ns c.args.made.now.items) (sym c.new-numbers.ensures.items)
    (no_kid_yet c.args.run.now old (c.args.depth - 1) kids c.args.made.now.items)

pub child_place-place-requires : goal.child_place-place-requires
child_place-place-requires t c =
    let at = inner_here (words_of c.args.store.now.pages) c.args.depth c.args.p c.page_words-words.result c.requires.stands c.page_words-words.ensures.is c.page_words-words.ensures.there (sym c.is_inner.ensures ∙ c.if-not-is_inner.false) in
    let size : c.count-i-end.result ≡ length at.kids.pointers = c.count-i-end.ensures.inner c.args.p.low c.args.p.high c.args.p.number at.kids at.is at.words_are in
    omega (arith, size, at.is.most, c.loop-i-test.true)

pub compose_tree-requires : goal.compose_tree-requires
compose_tree-requires t c =
    let old = words_of c.args.store.now.pages in
    let words = c.page_words-words.result in
    let at = inner_here old c.args.depth c.args.p words c.requires.stands c.page_words-words.ensures.is c.page_words-words.ensures.there (sym c.is_inner.ensures ∙ c.if-not-is_inner.false) in
    let size : c.count-i-end.result ≡ length at.kids.pointers = c.count-i-end.ensures.inner c.args.p.low c.args.p.high c.args.p.number at.kids at.is at.words_are in
    let here = c.child_place-place.ensures c.args.p.low c.args.p.high c.args.p.number at.kids at.is at.words_are (omega (arith, size, c.loop-i-test.true)) in
    let deep = tree_depth old c.args.depth c.args.p c.requires.stands in
    (omega (arith, deep), (kid_stands old (c.args.depth - 1) c.args.p words at c.loop-i.i c.child_place-place.result here, (c.requires.order, c.requires.rising)))

pub returns-in_err-number-clause-deep : goal.returns-in_err-number-clause-deep
returns-in_err-number-clause-deep t c fault e =
    let p = err_from_is_err_and c.from_residual.result c.from_residual.ensures.1 in
    let too = c.in_err-number.ensures.deep fault (cc (e, p.1, p.2)) in
    let old = words_of c.args.store.now.pages in
    let words = c.page_words-words.result in
    let touched : touches c.args.run.now c.args.p.low c.args.p.high ≡ true = sym c.has_entry.ensures ∙ c.if-not-has_entry.false in
    let at = inner_here old c.args.depth c.args.p words c.requires.stands c.page_words-words.ensures.is c.page_words-words.ensures.there (sym c.is_inner.ensures ∙ c.if-not-is_inner.false) in
    let size : c.count-i-end.result ≡ length at.kids.pointers = c.count-i-end.ensures.inner c.args.p.low c.args.p.high c.args.p.number at.kids at.is at.words_are in
    let here = c.child_place-place.ensures c.args.p.low c.args.p.high c.args.p.number at.kids at.is at.words_are (omega (arith, size, c.loop-i-test.true)) in
    deep_here c.args.run.now old c.args.depth c.args.p words at c.args.made.now.items c.loop-i.i c.loop-i.numbers.items c.loop-i.made.items c.child_place-place.result fault c.requires.stands touched here c.loop-i.invariant too

pub loop-i-preserved : goal.loop-i-preserved
loop-i-preserved t c =
    let old = words_of c.args.store.now.pages in
    let words = c.page_words-words.result in
    let at = inner_here old c.args.depth c.args.p words c.requires.stands c.page_words-words.ensures.is c.page_words-words.ensures.there (sym c.is_inner.ensures ∙ c.if-not-is_inner.false) in
    let size : c.count-i-end.result ≡ length at.kids.pointers = c.count-i-end.ensures.inner c.args.p.low c.args.p.high c.args.p.number at.kids at.is at.words_are in
    let here = c.child_place-place.ensures c.args.p.low c.args.p.high c.args.p.number at.kids at.is at.words_are (omega (arith, size, c.loop-i-test.true)) in
    let kids = places_below tree_format old c.args.p in
    subst (λ (ns : List ℕ). ComposesKids c.args.run.now (words_of c.args.store.now.pages) (c.args.depth - 1) (places_below tree_format (words_of c.args.store.now.pages) c.args.p) c.args.made.now.items (c.loop-i.i + 1) ns c.compose_tree.new.made.items) (sym c.in_ok-push.ensures.items)
    (one_more_kid c.args.run.now old (c.args.depth - 1) kids c.args.made.now.items c.loop-i.i c.loop-i.numbers.items c.loop-i.made.items c.compose_tree.new.made.items c.child_place-place.result c.in_ok-number.number
    (kid_here old (c.args.depth - 1) c.args.p words at c.loop-i.i c.child_place-place.result here) c.loop-i.invariant c.in_ok-number.ensures.made)

pub put_words-requires : goal.put_words-requires
put_words-requires t c =
    let at = inner_here (words_of c.args.store.now.pages) c.args.depth c.args.p c.page_words-words.result c.requires.stands c.page_words-words.ensures.is c.page_words-words.ensures.there (sym c.is_inner.ensures ∙ c.if-not-is_inner.false) in
    let size : c.count-i-end.result ≡ length at.kids.pointers = c.count-i-end.ensures.inner c.args.p.low c.args.p.high c.args.p.number at.kids at.is at.words_are in
    omega (arith, size, at.is.most, ap length c.deref.ensures.value, c.loop-i.invariant.count, c.loop-i.auto.i-end)

pub returns-clause-made : goal.returns-clause-made
returns-clause-made t c =
    let old = words_of c.args.store.now.pages in
    let words = c.page_words-words.result in
    let touched : touches c.args.run.now c.args.p.low c.args.p.high ≡ true = sym c.has_entry.ensures ∙ c.if-not-has_entry.false in
    let at = inner_here old c.args.depth c.args.p words c.requires.stands c.page_words-words.ensures.is c.page_words-words.ensures.there (sym c.is_inner.ensures ∙ c.if-not-is_inner.false) in
    let size : c.count-i-end.result ≡ length at.kids.pointers = c.count-i-end.ensures.inner c.args.p.low c.args.p.high c.args.p.number at.kids at.is at.words_are in
    page_here c.args.run.now old c.args.depth c.args.p words at c.args.made.now.items c.loop-i.i c.loop-i.numbers.items c.deref.result.now c.loop-i.made.items c.push-2.new.self.items c.put_words.new.words (c.from.result + c.len.result) c.requires.stands touched
    (omega (arith, size, c.loop-i-test.false, c.loop-i.auto.i-end)) c.loop-i.invariant c.deref.ensures.value c.put_words.ensures c.in_ok-push-2.ensures.items
    (omega (arith, c.from.ensures, c.len.ensures, c.push-2.new.self.ok, c.count-2.ensures.count, length-map c.args.store.now.pages (λ p. Page.words p)))
