use Rattle.std.proofs.Common.{◌≡◌, ◌+◌, ◌*◌, ℕ, List, get_or, subst, ap, ◌∙◌, arith}
use Rattle.snapshot_store.specs.Places.{page as page_words}
use Rattle.engine_pages.specs.Passes.{view}
use Rattle.page_drops.proofs.Looks.{glanced_self, glanced_then}
use Rattle.tree_drops.proofs.Founds.{found_here, found_next, found_none, words_glanced}
use Rattle.tree_drops.specs.Leaves.{rest_of, IsStored}
use Rattle.tree_drops.proofs.stored.+find_from.Goals as goal

pub returns-then-index-count-clause-glances : goal.returns-then-index-count-clause-glances
returns-then-index-count-clause-glances t c =
    glanced_self (view c.args.pass.now)

pub returns-then-index-count-clause-finds : goal.returns-then-index-count-clause-finds
returns-then-index-count-clause-finds t c =
    λ n all.
    found_none (page_words (view c.args.pass.now).pages c.args.page) c.args.index c.args.count c.args.key n
    (let end = c.if-index-count.true in omega (arith, end)) all

pub returns-then-here-key-clause-glances : goal.returns-then-here-key-clause-glances
returns-then-here-key-clause-glances t c =
    glanced_then (view c.args.pass.now) (view c.word_of-number.new.pass) (view c.word_of-value.new.pass)
    (glanced_then (view c.args.pass.now) (view c.word_of-here.new.pass) (view c.word_of-number.new.pass) c.word_of-here.ensures.glances c.word_of-number.ensures.glances) c.word_of-value.ensures.glances

pub returns-then-here-key-clause-finds : goal.returns-then-here-key-clause-finds
returns-then-here-key-clause-finds t c =
    λ n all.
    let v = view c.args.pass.now in
    let page = c.args.page in
    let i = c.args.index in
    found_here (page_words v.pages page) i c.args.count c.args.key c.word_of-here.result n _
    c.if-index-count.false all c.word_of-here.ensures.word c.if-here-key.true
    (c.word_of-number.ensures.word
    ∙ ap (λ (ws : List ℕ). get_or ws (16 + 3 * i + 1) 0) (words_glanced page v (view c.word_of-here.new.pass) c.word_of-here.ensures.glances))
    (c.word_of-value.ensures.word
    ∙ ap (λ (ws : List ℕ). get_or ws (16 + 3 * i + 2) 0) (words_glanced page v (view c.word_of-number.new.pass) (glanced_then (view c.args.pass.now) (view c.word_of-here.new.pass) (view c.word_of-number.new.pass) c.word_of-here.ensures.glances c.word_of-number.ensures.glances)))

pub returns-clause-glances : goal.returns-clause-glances
returns-clause-glances t c =
    glanced_then (view c.args.pass.now) (view c.word_of-here.new.pass) (view c.find_from.new.pass) c.word_of-here.ensures.glances
    c.find_from.ensures.glances

pub returns-clause-finds : goal.returns-clause-finds
returns-clause-finds t c =
    λ n all.
    let v = view c.args.pass.now in
    let page = c.args.page in
    found_next (page_words v.pages page) c.args.index c.args.count c.args.key c.word_of-here.result n c.find_from.result
    c.if-index-count.false all c.word_of-here.ensures.word c.if-here-key.false
    (subst (λ (ws : List ℕ). (m : ℕ) → (c.args.index + 1) + m ≡ c.args.count → IsStored (rest_of ws (c.args.index + 1) m) c.args.key c.find_from.result)
    (words_glanced page v (view c.word_of-here.new.pass) c.word_of-here.ensures.glances) c.find_from.ensures.finds)
