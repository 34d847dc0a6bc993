use Rattle.std.proofs.Common.{◌+◌, ◌*◌, suc, Bool, false, length, subst, sym, arith}
use Rattle.engine_pages.specs.Passes.{view}
use Rattle.page_drops.proofs.Looks.{glanced_then}
use Rattle.tree_drops.specs.ChainKeys.{key_in, IsCoveredOr}
use Rattle.tree_drops.specs.Leaves.{HasCount}
use Rattle.tree_drops.proofs.BelowCovers.{covered_later, cover_on, kept_missing, rest_then, stored_here}
use Rattle.tree_drops.proofs.BelowKeys.{found_back, glanced_heads, glanced_reads, take_glanced}
use Rattle.tree_drops.proofs.Chaining.{chained_glanced, pages_chained}
use Rattle.tree_drops.proofs.Covers.{index_less}
use Rattle.tree_drops.proofs.LacksKeys.{lacks_below}
use Rattle.tree_drops.proofs.covering.+cover_rest.Goals as goal

pub is_covered-requires-clause-take : goal.is_covered-requires-clause-take
is_covered-requires-clause-take t c =
    take_glanced c.args.root c.args.halves.now c.args.headers.now (17 * suc (length c.args.halves.now)) (view c.args.pass.now)
    (view c.word_of-key.new.pass) c.word_of-key.ensures.glances c.requires.cover.take

pub keep_missing-other-requires-clause-at : goal.keep_missing-other-requires-clause-at
keep_missing-other-requires-clause-at t c =
    let v = view c.args.pass.now in
    let a = view c.word_of-key.new.pass in
    let b = view c.is_covered.new.pass in
    let all = glanced_then v a b c.word_of-key.ensures.glances c.is_covered.ensures.glances in
    (take_glanced c.args.root c.args.halves.now c.args.headers.now (17 * suc (length c.args.halves.now)) v b all
    c.requires.cover.take).chain.tree

pub keep_missing-other-requires-clause-lacks : goal.keep_missing-other-requires-clause-lacks
keep_missing-other-requires-clause-lacks t c =
    let v = view c.args.pass.now in
    let a = view c.word_of-key.new.pass in
    let b = view c.is_covered.new.pass in
    let all = glanced_then v a b c.word_of-key.ensures.glances c.is_covered.ensures.glances in
    let key = c.word_of-key.result in
    let out : IsCoveredOr c.args.root c.args.halves.now c.args.headers.now c.args.leaf.span key false a =
    subst (λ (x : Bool). IsCoveredOr c.args.root c.args.halves.now c.args.headers.now c.args.leaf.span key x a)
    c.if-not-is_covered.true c.is_covered.ensures.finds in
    let low = out.0 in
    let high = out.1 in
    let from = c.requires.cover.from in
    let to = c.requires.cover.to in
    lacks_below c.args.root c.args.halves.now c.args.headers.now key b
    (take_glanced c.args.root c.args.halves.now c.args.headers.now (17 * suc (length c.args.halves.now)) v b all c.requires.cover.take)
    (found_back c.args.root c.args.halves.now c.args.headers.now 0 key false b a
    (sym (glanced_heads a b c.is_covered.ensures.glances)) out.2)
    c.args.leaf.span c.requires.cover.storage (omega (arith, low, from)) (omega (arith, high, to))

pub returns-then-not-is_covered-clause-covers : goal.returns-then-not-is_covered-clause-covers
returns-then-not-is_covered-clause-covers t c =
    let v = view c.args.pass.now in
    let a = view c.word_of-key.new.pass in
    let b = view c.is_covered.new.pass in
    let all = glanced_then v a b c.word_of-key.ensures.glances c.is_covered.ensures.glances in
    let key = c.word_of-key.result in
    let out : IsCoveredOr c.args.root c.args.halves.now c.args.headers.now c.args.leaf.span key false a =
    subst (λ (x : Bool). IsCoveredOr c.args.root c.args.halves.now c.args.headers.now c.args.leaf.span key x a)
    c.if-not-is_covered.true c.is_covered.ensures.finds in
    kept_missing c.args.root c.args.leaf.span c.args.leaf.page c.keep_missing-other.result v b (view c.keep_missing-other.new.pass)
    (chained_glanced v b all) (glanced_reads v b all) (key_in c.args.leaf.span key)
    (stored_here c.args.leaf c.args.index key v c.requires.count
    (index_less c.args.index c.args.leaf.count c.requires.within c.if-index-leaf.false) c.word_of-key.ensures.word out.0 out.1)
    c.keep_missing-other.ensures.keeps c.keep_missing-other.ensures.reads

pub cover_rest-requires : goal.cover_rest-requires
cover_rest-requires t c =
    let v = view c.args.pass.now in
    let a = view c.word_of-key.new.pass in
    let b = view c.is_covered.new.pass in
    let all = glanced_then v a b c.word_of-key.ensures.glances c.is_covered.ensures.glances in
    let less = index_less c.args.index c.args.leaf.count c.requires.within c.if-index-leaf.false in (
      omega (arith, less),
      (
        c.is_covered.ensures.of,
        (
          cover_on c.args.root c.args.halves.now c.args.headers.now c.args.leaf.span c.args.leaf.page v b (chained_glanced v b all)
              (glanced_reads v b all) c.requires.cover,
          (
            subst (λ ps. HasCount ps c.args.leaf.span c.args.leaf.page c.args.leaf.count)
                (sym (pages_chained v b (chained_glanced v b all).looks.on)) c.requires.count,
            omega (arith, less),
          ),
        ),
      ),
    )

pub returns-clause-covers : goal.returns-clause-covers
returns-clause-covers t c =
    let v = view c.args.pass.now in
    let a = view c.word_of-key.new.pass in
    let b = view c.is_covered.new.pass in
    let all = glanced_then v a b c.word_of-key.ensures.glances c.is_covered.ensures.glances in
    rest_then c.args.root c.args.halves.now c.args.headers.now c.args.leaf c.args.index c.word_of-key.result c.cover_rest.result v b
    (view c.cover_rest.new.pass) (chained_glanced v b all) (glanced_reads v b all) c.requires.cover.storage c.if-index-leaf.false
    c.word_of-key.ensures.word
    (covered_later c.args.root c.args.halves.now c.args.headers.now c.args.leaf.span c.word_of-key.result a b
    (chained_glanced a b c.is_covered.ensures.glances)
    (subst (λ x. IsCoveredOr c.args.root c.args.halves.now c.args.headers.now c.args.leaf.span c.word_of-key.result x a)
    c.if-not-is_covered.false c.is_covered.ensures.finds))
    c.cover_rest.ensures.covers
