use Rattle.std.proofs.Common.{◌≡◌, ◌+◌, ◌-◌, ◌/◌, sym, ap, refl, Err, ◌∙◌, arith}
use Rattle.std.proofs.lemmas.List.{length-map}
use Rattle.std.proofs.lemmas.Bool.{false≢true}
use Rattle.std.proofs.lemmas.Result.{err_from_is_err_and}
use Rattle.lists.specs.declared.memory.OrMemory.TheVariants.{Fault}
use Rattle.wire_form.specs.declared.page.Page.{Page}
use Rattle.snapshot_store.specs.Content.{words_of}
use Rattle.recovery_core.proofs.GatherArrayLaws.{level_some, level_inner, child_below, empty_gathered, leaf_put}
use Rattle.recovery_core.proofs.GatherArrayLaws.{array_begins, array_within, array_more, array_break}
use Rattle.recovery_core.proofs.GatherArrayLaws.{array_wrong, array_end}
use Rattle.recovery_core.proofs.gather_array.+gather_array.Goals as goal

pub returns-then-place-eq0-clause-gathered : goal.returns-then-place-eq0-clause-gathered
returns-then-place-eq0-clause-gathered t c =
    empty_gathered (words_of c.args.store.now.pages) c.args.epoch c.args.id c.args.size c.args.depth c.args.place
    c.args.state.now c.if-place-eq0.true c.requires.level

pub returns-then-not-is_array_page-clause-breaks : goal.returns-then-not-is_array_page-clause-breaks
returns-then-not-is_array_page-clause-breaks t c at e =
    let same : c.first_byte.result ≡ at = cc in
    array_wrong (words_of c.args.store.now.pages) c.args.epoch c.args.id c.args.size c.args.depth c.args.place
    c.words-words.result.now at
    (level_some c.args.depth c.args.place.low c.args.place.high c.requires.level).0 c.words-words.ensures.words
    (λ right. false≢true ((c.if-not-is_array_page.ensures c.args.id).1 right)) (sym same ∙ c.first_byte.ensures)

pub returns-then-place-lt32-clause-gathered : goal.returns-then-place-lt32-clause-gathered
returns-then-place-lt32-clause-gathered t c =
    leaf_put (words_of c.args.store.now.pages) c.args.epoch c.args.id c.args.size c.args.depth c.args.place
    c.words-words.result.now c.args.state.now c.put_leaf.new.state
    c.requires.level (omega (
      arith,
      c.requires.there,
      length-map c.args.store.now.pages
          (λ p. Page.words p),
    )) c.if-place-lt32.true c.words-words.ensures.words
    ((c.if-not-is_array_page.ensures c.args.id).0 refl) c.in_ok-put_leaf.ensures

pub loop-i-init : goal.loop-i-init
loop-i-init t c =
    let parts = level_inner c.args.depth c.args.place.low c.args.place.high c.requires.level c.if-place-lt32.false in
    array_begins (words_of c.args.store.now.pages) c.args.epoch c.args.id c.args.size (c.args.depth - 1) c.args.place
    ((c.args.place.high - c.args.place.low + 1) / 64)
    c.words-words.result.now c.args.state.now parts.1 parts.0

pub gather_array-requires : goal.gather_array-requires
gather_array-requires t c =
    let parts = level_inner c.args.depth c.args.place.low c.args.place.high c.requires.level c.if-place-lt32.false in
    let deep = level_some c.args.depth c.args.place.low c.args.place.high c.requires.level in
    let within = array_within (words_of c.args.store.now.pages) c.args.epoch c.args.id c.args.size
    (c.args.depth - 1) c.args.place ((c.args.place.high - c.args.place.low + 1) / 64)
    c.words-words.result.now c.args.state.now c.loop-i.low c.loop-i.i c.loop-i.state
    (omega arith) c.loop-i-test.true c.loop-i.invariant in
    let child = child_below c.args.epoch c.args.id c.args.size c.args.place c.words-words.result.now c.loop-i.i
    (omega (arith, c.if-place-eq0.false)) c.if-place-lt32.false
    ((c.if-not-is_array_page.ensures c.args.id).0 refl) in (
      omega (arith, deep.0),
      (omega (arith, child, c.requires.there), (parts.2 c.loop-i.low, omega (arith, within, c.requires.bounded))),
    )

pub returns-in_err-gather_array-clause-breaks : goal.returns-in_err-gather_array-clause-breaks
returns-in_err-gather_array-clause-breaks t c at e =
    let exit = err_from_is_err_and c.from_residual-in_err-gather_array.result
    c.from_residual-in_err-gather_array.ensures.1 in
    let was : c.in_err-gather_array.field-0.0 ≡ Fault at = let a = exit.1 in let b = exit.2 in cc in
    array_break (words_of c.args.store.now.pages) c.args.epoch c.args.id c.args.size c.args.depth c.args.place
    ((c.args.place.high - c.args.place.low + 1) / 64)
    c.words-words.result.now c.args.state.now c.loop-i.low c.loop-i.i c.loop-i.state at
    (level_some c.args.depth c.args.place.low c.args.place.high c.requires.level).0 refl c.if-place-lt32.false
    (omega arith) c.loop-i-test.true c.words-words.ensures.words
    ((c.if-not-is_array_page.ensures c.args.id).0 refl) c.loop-i.invariant
    (c.in_err-gather_array.ensures.breaks at (ap Err was))

pub loop-i-preserved : goal.loop-i-preserved
loop-i-preserved t c =
    let parts = level_inner c.args.depth c.args.place.low c.args.place.high c.requires.level c.if-place-lt32.false in
    array_more (words_of c.args.store.now.pages) c.args.epoch c.args.id c.args.size (c.args.depth - 1) c.args.place
    ((c.args.place.high - c.args.place.low + 1) / 64)
    c.words-words.result.now c.args.state.now c.loop-i.low c.loop-i.i c.loop-i.state c.gather_array.new.state
    parts.1 (omega arith) c.loop-i-test.true c.loop-i.invariant
    c.in_ok-gather_array.ensures.gathered

pub returns-clause-gathered : goal.returns-clause-gathered
returns-clause-gathered t c =
    let parts = level_inner c.args.depth c.args.place.low c.args.place.high c.requires.level c.if-place-lt32.false in
    let deep = level_some c.args.depth c.args.place.low c.args.place.high c.requires.level in
    array_end (words_of c.args.store.now.pages) c.args.epoch c.args.id c.args.size c.args.depth c.args.place
    ((c.args.place.high - c.args.place.low + 1) / 64)
    c.words-words.result.now c.args.state.now c.loop-i.low c.loop-i.i c.loop-i.state deep.0 refl
    c.if-place-lt32.false parts.1 parts.0 (omega arith)
    (omega (
      arith,
      c.requires.there,
      length-map c.args.store.now.pages
          (λ p. Page.words p),
    )) c.words-words.ensures.words
    ((c.if-not-is_array_page.ensures c.args.id).0 refl) c.loop-i.invariant
