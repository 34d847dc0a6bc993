use Rattle.std.proofs.Common.{◌≡◌, ◌-◌, Err, sym, ap, subst, refl, ◌∙◌, arith}
use Rattle.std.proofs.lemmas.List.{length-map}
use Rattle.std.proofs.lemmas.Bool.{false≢true}
use Rattle.std.proofs.lemmas.Result.{err_from_is_err_and, on_ok_weaker}
use Rattle.lists.specs.declared.memory.OrMemory.TheVariants.{Fault}
use Rattle.wire_form.specs.declared.page.Page.{Page}
use Rattle.snapshot_store.specs.Content.{words_of}
use Rattle.recovery_core.proofs.GatherTreeLaws.{inner_by, inner_is, leaf_by, leaf_is, leaf_few}
use Rattle.recovery_core.proofs.GatherTreeSteps.{TreeGathers, child_below, separator_above, tree_empty}
use Rattle.recovery_core.proofs.GatherTreeSteps.{tree_wrong, tree_deep, leaf_put, tree_begins, tree_more}
use Rattle.recovery_core.proofs.GatherTreeSteps.{tree_break, tree_last_break, tree_end}
use Rattle.recovery_core.proofs.gather_tree.+gather_tree.Goals as goal

pub returns-then-depth-eq0-clause-breaks : goal.returns-then-depth-eq0-clause-breaks
returns-then-depth-eq0-clause-breaks t c at e =
    let same : c.first_byte.result ≡ at = cc in
    tree_deep (words_of c.args.store.now.pages) c.args.epoch c.args.id c.args.depth c.args.place at
    c.if-depth-eq0.true (sym same ∙ c.first_byte.ensures)

pub returns-then-place-eq0-clause-gathered : goal.returns-then-place-eq0-clause-gathered
returns-then-place-eq0-clause-gathered t c =
    tree_empty (words_of c.args.store.now.pages) c.args.epoch c.args.id c.args.depth c.args.place c.args.state.now
    (omega (arith, c.if-depth-eq0.false)) c.if-place-eq0.true

pub returns-then-not-is_tree_page-clause-breaks : goal.returns-then-not-is_tree_page-clause-breaks
returns-then-not-is_tree_page-clause-breaks t c at e =
    let same : c.first_byte-then-not-is_tree_page.result ≡ at = cc in
    tree_wrong (words_of c.args.store.now.pages) c.args.epoch c.args.id c.args.depth c.args.place
    c.words-words.result.now at (omega (arith, c.if-depth-eq0.false)) c.words-words.ensures.words
    (λ right. false≢true ((c.if-not-is_tree_page.ensures c.args.id).1 right))
    (sym same ∙ c.first_byte-then-not-is_tree_page.ensures)

pub put_leaf-requires : goal.put_leaf-requires
put_leaf-requires t c =
    leaf_few c.args.place c.words-words.result.now
    (leaf_is c.args.epoch c.args.id c.args.place c.words-words.result.now (omega (arith, c.if-place-eq0.false))
    (leaf_by c.is_inner.ensures c.if-not-is_inner.true) ((c.if-not-is_tree_page.ensures c.args.id).0 refl))

pub returns-then-not-is_inner-clause-gathered : goal.returns-then-not-is_inner-clause-gathered
returns-then-not-is_inner-clause-gathered t c =
    leaf_put (words_of c.args.store.now.pages) c.args.epoch c.args.id c.args.depth c.args.place
    c.words-words.result.now c.args.state.now c.put_leaf.new.state (omega (arith, c.if-depth-eq0.false))
    (omega (arith, c.if-place-eq0.false))
    (omega (
      arith,
      c.requires.there,
      length-map c.args.store.now.pages
          (λ p. Page.words p),
    )) c.words-words.ensures.words (leaf_by c.is_inner.ensures c.if-not-is_inner.true)
    ((c.if-not-is_tree_page.ensures c.args.id).0 refl)
    c.in_ok-put_leaf.ensures

pub last_child-last-requires-clause-some : goal.last_child-last-requires-clause-some
last_child-last-requires-clause-some t c =
    (inner_is c.args.epoch c.args.id c.args.place c.words-words.result.now (omega (arith, c.if-place-eq0.false))
    (inner_by c.is_inner.ensures c.if-not-is_inner.false) ((c.if-not-is_tree_page.ensures c.args.id).0 refl)).some

pub last_child-last-requires-clause-most : goal.last_child-last-requires-clause-most
last_child-last-requires-clause-most t c =
    (inner_is c.args.epoch c.args.id c.args.place c.words-words.result.now (omega (arith, c.if-place-eq0.false))
    (inner_by c.is_inner.ensures c.if-not-is_inner.false) ((c.if-not-is_tree_page.ensures c.args.id).0 refl)).most

pub loop-i-init : goal.loop-i-init
loop-i-init t c =
    tree_begins (words_of c.args.store.now.pages) c.args.epoch c.args.id
    (c.args.depth - 1) c.args.place c.words-words.result.now c.args.state.now
    (inner_is c.args.epoch c.args.id c.args.place c.words-words.result.now (omega (arith, c.if-place-eq0.false))
    (inner_by c.is_inner.ensures c.if-not-is_inner.false) ((c.if-not-is_tree_page.ensures c.args.id).0 refl))

pub overflow_sub-child : goal.overflow_sub-child
overflow_sub-child t c =
    let inner = inner_is c.args.epoch c.args.id c.args.place c.words-words.result.now
    (omega (arith, c.if-place-eq0.false)) (inner_by c.is_inner.ensures c.if-not-is_inner.false)
    ((c.if-not-is_tree_page.ensures c.args.id).0 refl) in
    separator_above c.args.place c.words-words.result.now c.loop-i.i inner
    (omega (arith, c.loop-i-test.true, c.last_child-last.ensures.is))

pub gather_tree-requires : goal.gather_tree-requires
gather_tree-requires t c =
    let inner = inner_is c.args.epoch c.args.id c.args.place c.words-words.result.now
    (omega (arith, c.if-place-eq0.false)) (inner_by c.is_inner.ensures c.if-not-is_inner.false)
    ((c.if-not-is_tree_page.ensures c.args.id).0 refl) in
    let child = child_below c.args.place c.words-words.result.now c.loop-i.i inner
    (omega (arith, c.loop-i-test.true, c.last_child-last.ensures.is)) in
    (omega (arith, c.if-depth-eq0.false), omega (arith, child, c.requires.there))

pub returns-in_err-gather_tree-clause-breaks : goal.returns-in_err-gather_tree-clause-breaks
returns-in_err-gather_tree-clause-breaks t c at e =
    let exit = err_from_is_err_and c.from_residual-in_err-gather_tree.result
    c.from_residual-in_err-gather_tree.ensures.1 in
    let was : c.in_err-gather_tree.field-0.0 ≡ Fault at = let a = exit.1 in let b = exit.2 in cc in
    tree_break (words_of c.args.store.now.pages) c.args.epoch c.args.id c.args.depth c.args.place
    c.words-words.result.now c.args.state.now c.loop-i.low c.loop-i.i c.loop-i.state at
    (omega (arith, c.if-depth-eq0.false)) (omega (arith, c.if-place-eq0.false))
    (inner_by c.is_inner.ensures c.if-not-is_inner.false) c.words-words.ensures.words
    ((c.if-not-is_tree_page.ensures c.args.id).0 refl)
    (omega (arith, c.loop-i-test.true, c.last_child-last.ensures.is)) c.loop-i.invariant
    (c.in_err-gather_tree.ensures.breaks at (ap Err was))

pub loop-i-preserved : goal.loop-i-preserved
loop-i-preserved t c =
    let inner = inner_is c.args.epoch c.args.id c.args.place c.words-words.result.now
    (omega (arith, c.if-place-eq0.false)) (inner_by c.is_inner.ensures c.if-not-is_inner.false)
    ((c.if-not-is_tree_page.ensures c.args.id).0 refl) in
    tree_more (words_of c.args.store.now.pages) c.args.epoch c.args.id
    (c.args.depth - 1) c.args.place c.words-words.result.now c.args.state.now c.loop-i.low c.loop-i.i
    c.loop-i.state c.gather_tree.new.state
    inner (omega (arith, c.loop-i-test.true, c.last_child-last.ensures.is)) c.loop-i.invariant
    c.in_ok-gather_tree.ensures.gathered

pub gather_tree-requires-2 : goal.gather_tree-requires-2
gather_tree-requires-2 t c =
    let inner = inner_is c.args.epoch c.args.id c.args.place c.words-words.result.now
    (omega (arith, c.if-place-eq0.false)) (inner_by c.is_inner.ensures c.if-not-is_inner.false)
    ((c.if-not-is_tree_page.ensures c.args.id).0 refl) in
    let child = child_below c.args.place c.words-words.result.now c.last_child-last.result inner
    (omega (arith, c.last_child-last.ensures.is, inner.some)) in
    (omega (arith, c.if-depth-eq0.false), omega (arith, child, c.requires.there))

pub returns-clause-gathered : goal.returns-clause-gathered
returns-clause-gathered t c =
    let end : c.loop-i.i ≡ c.last_child-last.result = omega (arith, c.loop-i-test.false, c.loop-i.auto.i-end) in
    on_ok_weaker c.gather_tree-2.result
    (tree_end (words_of c.args.store.now.pages) c.args.epoch c.args.id c.args.depth c.args.place
    c.words-words.result.now c.args.state.now c.loop-i.low c.last_child-last.result c.loop-i.state
    c.gather_tree-2.new.state
    (omega (arith, c.if-depth-eq0.false)) (omega (arith, c.if-place-eq0.false))
    (omega (arith, c.requires.there, length-map c.args.store.now.pages (λ p. Page.words p)))
    (inner_by c.is_inner.ensures c.if-not-is_inner.false) c.words-words.ensures.words
    ((c.if-not-is_tree_page.ensures c.args.id).0 refl) c.last_child-last.ensures.is
    (subst (λ k. TreeGathers (words_of c.args.store.now.pages) c.args.epoch c.args.id
    (c.args.depth - 1) c.args.place c.words-words.result.now c.args.state.now c.loop-i.low k c.loop-i.state)
    end c.loop-i.invariant))
    c.gather_tree-2.ensures.gathered

pub returns-clause-breaks : goal.returns-clause-breaks
returns-clause-breaks t c at e =
    let end : c.loop-i.i ≡ c.last_child-last.result = omega (arith, c.loop-i-test.false, c.loop-i.auto.i-end) in
    tree_last_break (words_of c.args.store.now.pages) c.args.epoch c.args.id c.args.depth c.args.place
    c.words-words.result.now c.args.state.now c.loop-i.low c.last_child-last.result c.loop-i.state at
    (omega (arith, c.if-depth-eq0.false)) (omega (arith, c.if-place-eq0.false))
    (inner_by c.is_inner.ensures c.if-not-is_inner.false) c.words-words.ensures.words
    ((c.if-not-is_tree_page.ensures c.args.id).0 refl) c.last_child-last.ensures.is
    (subst (λ k. TreeGathers (words_of c.args.store.now.pages) c.args.epoch c.args.id
    (c.args.depth - 1) c.args.place c.words-words.result.now c.args.state.now c.loop-i.low k c.loop-i.state)
    end c.loop-i.invariant)
    (c.gather_tree-2.ensures.breaks at e)
