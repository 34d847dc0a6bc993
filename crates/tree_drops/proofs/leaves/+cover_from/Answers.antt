use Rattle.std.proofs.Common.{◌≡◌, ◌+◌, ◌∙◌, refl, ap, arith}
use Rattle.engine_pages.specs.declared.view.View.{View}
use Rattle.engine_pages.specs.Passes.{view}
use Rattle.page_drops.proofs.Entries.{reads_glanced, reads_self, reads_then}
use Rattle.tree_drops.specs.ChainKeys.{key_in}
use Rattle.tree_drops.specs.Leaves.{CoversAll, IsCauseAt}
use Rattle.tree_drops.specs.Works.{KeepsIt, OnlyLooks}
use Rattle.tree_drops.proofs.Covers.{count_on, covers_next, covers_none, earlier, err_map, index_less, keeps_header}
use Rattle.tree_drops.proofs.Covers.{lacks_known, ok_map, seen_whole_on}
use Rattle.tree_drops.proofs.Works.{keys_worked, layout_worked, only_glanced, only_self, only_then, tree_worked}
use Rattle.tree_drops.proofs.leaves.+cover_from.Goals as goal

pub returns-then-index-leaf-clause-looks : goal.returns-then-index-leaf-clause-looks
returns-then-index-leaf-clause-looks t c =
    only_self (view c.args.pass.now)

pub returns-then-index-leaf-clause-covers : goal.returns-then-index-leaf-clause-covers
returns-then-index-leaf-clause-covers t c =
    covers_none c.args.leaf.slot c.args.leaf.page c.args.leaf.count c.args.leaf.records c.args.index c.args.leaf.span (view c.args.pass.now) c.if-index-leaf.true

pub returns-then-index-leaf-clause-reads : goal.returns-then-index-leaf-clause-reads
returns-then-index-leaf-clause-reads t c =
    reads_self c.args.leaf.slot (view c.args.pass.now)

pub search_from-requires-clause-at : goal.search_from-requires-clause-at
search_from-requires-clause-at t c =
    tree_worked c.args.leaf.slot c.args.leaf.page c.args.leaf.span (view c.args.pass.now) (view c.word_of-key.new.pass)
    (only_glanced (view c.args.pass.now) (view c.word_of-key.new.pass) c.word_of-key.ensures.glances).looks.works c.requires.at

pub search_from-requires-clause-known : goal.search_from-requires-clause-known
search_from-requires-clause-known t c =
    keys_worked c.args.leaf.slot c.args.leaf.count c.args.leaf.span (view c.args.pass.now) (view c.word_of-key.new.pass)
    (only_glanced (view c.args.pass.now) (view c.word_of-key.new.pass) c.word_of-key.ensures.glances).looks.works c.requires.known

pub keep_for_header-other-requires-clause-at : goal.keep_for_header-other-requires-clause-at
keep_for_header-other-requires-clause-at t c =
    let v = view c.args.pass.now in
    let a = view c.word_of-key.new.pass in
    let b = view c.search_from.new.pass in
    let one = only_glanced v a c.word_of-key.ensures.glances in
    let only = only_then v a b one (only_glanced a b c.search_from.ensures.glances) in
    tree_worked c.args.leaf.slot c.args.leaf.page c.args.leaf.span v b only.looks.works c.requires.at

pub keep_for_header-other-requires-clause-lacks : goal.keep_for_header-other-requires-clause-lacks
keep_for_header-other-requires-clause-lacks t c =
    let v = view c.args.pass.now in
    let a = view c.word_of-key.new.pass in
    let b = view c.search_from.new.pass in
    let one = only_glanced v a c.word_of-key.ensures.glances in
    let only = only_then v a b one (only_glanced a b c.search_from.ensures.glances) in
    let x = keys_worked c.args.leaf.slot c.args.leaf.count c.args.leaf.span v a one.looks.works c.requires.known in
    lacks_known c.args.leaf.slot c.args.leaf.count c.args.leaf.span (key_in c.args.leaf.span c.word_of-key.result) v b
    c.requires.known only
    (ap (λ (z : View). z.reads) c.search_from.ensures.glances.is ∙ ap (λ (z : View). z.reads) c.word_of-key.ensures.glances.is)
    c.requires.whole (c.search_from.ensures.finds x ∙ c.if-not-search_from.true)

pub returns-then-not-search_from-clause-keeps : goal.returns-then-not-search_from-clause-keeps
returns-then-not-search_from-clause-keeps t c =
    let v = view c.args.pass.now in
    let a = view c.word_of-key.new.pass in
    let b = view c.search_from.new.pass in
    let one = only_glanced v a c.word_of-key.ensures.glances in
    let only = only_then v a b one (only_glanced a b c.search_from.ensures.glances) in
    keeps_header c.args.leaf.slot c.args.leaf.page c.args.leaf.epoch c.args.leaf.records c.args.index c.word_of-key.result
    c.args.leaf.span c.keep_for_header-other.result v b (view c.keep_for_header-other.new.pass) only c.requires.count
    (index_less c.args.index c.args.leaf.records c.requires.within c.if-index-leaf.false) c.word_of-key.ensures.word
    c.keep_for_header-other.ensures.keeps

pub returns-then-not-search_from-clause-reads : goal.returns-then-not-search_from-clause-reads
returns-then-not-search_from-clause-reads t c =
    let v = view c.args.pass.now in
    let a = view c.word_of-key.new.pass in
    let b = view c.search_from.new.pass in
    let one = only_glanced v a c.word_of-key.ensures.glances in
    let only = only_then v a b one (only_glanced a b c.search_from.ensures.glances) in
    reads_then c.args.leaf.slot v b (view c.keep_for_header-other.new.pass) (layout_worked v b only.looks.works)
    (reads_then c.args.leaf.slot v a b (layout_worked v a one.looks.works) (reads_glanced c.args.leaf.slot v a c.word_of-key.ensures.glances)
    (reads_glanced c.args.leaf.slot a b c.search_from.ensures.glances)) c.keep_for_header-other.ensures.reads

pub cover_from-requires : goal.cover_from-requires
cover_from-requires t c =
    let v = view c.args.pass.now in
    let a = view c.word_of-key.new.pass in
    let b = view c.search_from.new.pass in
    let one = only_glanced v a c.word_of-key.ensures.glances in
    let only = only_then v a b one (only_glanced a b c.search_from.ensures.glances) in
    let less = index_less c.args.index c.args.leaf.records c.requires.within c.if-index-leaf.false in (
      omega (arith, less),
      (
        c.search_from.ensures.of,
        (
          tree_worked c.args.leaf.slot c.args.leaf.page c.args.leaf.span v b only.looks.works c.requires.at,
          (
            count_on c.args.leaf.page c.args.leaf.records c.args.leaf.span v b only.looks.works c.requires.count,
            (
              keys_worked c.args.leaf.slot c.args.leaf.count c.args.leaf.span v b only.looks.works c.requires.known,
              (
                seen_whole_on c.args.leaf.slot c.args.leaf.count v b only
                    (ap (λ (z : View). z.reads) c.search_from.ensures.glances.is ∙ ap (λ (z : View). z.reads) c.word_of-key.ensures.glances.is)
                    c.requires.whole,
                omega (arith, less),
              ),
            ),
          ),
        ),
      ),
    )

pub returns-clause-looks : goal.returns-clause-looks
returns-clause-looks t c =
    let v = view c.args.pass.now in
    let a = view c.word_of-key.new.pass in
    let b = view c.search_from.new.pass in
    let one = only_glanced v a c.word_of-key.ensures.glances in
    let only = only_then v a b one (only_glanced a b c.search_from.ensures.glances) in
    ok_map c.cover_from.result (OnlyLooks b (view c.cover_from.new.pass)) (OnlyLooks v (view c.cover_from.new.pass))
    (λ rest. only_then v b (view c.cover_from.new.pass) only rest) c.cover_from.ensures.looks

pub returns-clause-covers : goal.returns-clause-covers
returns-clause-covers t c =
    let v = view c.args.pass.now in
    let a = view c.word_of-key.new.pass in
    let b = view c.search_from.new.pass in
    let one = only_glanced v a c.word_of-key.ensures.glances in
    let only = only_then v a b one (only_glanced a b c.search_from.ensures.glances) in
    ok_map c.cover_from.result (CoversAll c.args.leaf.slot c.args.leaf.span c.args.leaf.page c.args.leaf.count c.args.leaf.records (c.args.index + 1) b) (CoversAll c.args.leaf.slot c.args.leaf.span c.args.leaf.page c.args.leaf.count c.args.leaf.records c.args.index v)
    (λ rest.
    covers_next c.args.leaf.slot c.args.leaf.page c.args.leaf.count c.args.leaf.records c.args.index c.word_of-key.result c.args.leaf.span v b only c.if-index-leaf.false c.word_of-key.ensures.word
    (λ x. c.search_from.ensures.finds (keys_worked c.args.leaf.slot c.args.leaf.count c.args.leaf.span v a one.looks.works x) ∙ c.if-not-search_from.false) rest) c.cover_from.ensures.covers

pub returns-clause-keeps : goal.returns-clause-keeps
returns-clause-keeps t c =
    let v = view c.args.pass.now in
    let a = view c.word_of-key.new.pass in
    let b = view c.search_from.new.pass in
    let one = only_glanced v a c.word_of-key.ensures.glances in
    let only = only_then v a b one (only_glanced a b c.search_from.ensures.glances) in
    let w = view c.cover_from.new.pass in
    err_map c.cover_from.result (λ k. KeepsIt (IsCauseAt c.args.leaf.slot c.args.leaf.span c.args.leaf.page c.args.leaf.epoch b) k b w)
    (λ k. KeepsIt (IsCauseAt c.args.leaf.slot c.args.leaf.span c.args.leaf.page c.args.leaf.epoch v) k v w)
    (λ k rest. earlier c.args.leaf.slot c.args.leaf.page c.args.leaf.epoch c.args.leaf.span k v b w only rest) c.cover_from.ensures.keeps

pub returns-clause-reads : goal.returns-clause-reads
returns-clause-reads t c =
    let v = view c.args.pass.now in
    let a = view c.word_of-key.new.pass in
    let b = view c.search_from.new.pass in
    let one = only_glanced v a c.word_of-key.ensures.glances in
    let only = only_then v a b one (only_glanced a b c.search_from.ensures.glances) in
    reads_then c.args.leaf.slot v b (view c.cover_from.new.pass) (layout_worked v b only.looks.works)
    (reads_then c.args.leaf.slot v a b (layout_worked v a one.looks.works) (reads_glanced c.args.leaf.slot v a c.word_of-key.ensures.glances)
    (reads_glanced c.args.leaf.slot a b c.search_from.ensures.glances)) c.cover_from.ensures.reads

pub returns-then-index-leaf-clause-same : goal.returns-then-index-leaf-clause-same
returns-then-index-leaf-clause-same t c = refl

pub returns-clause-same : goal.returns-clause-same
returns-clause-same t c =
    let v = view c.args.pass.now in
    let a = view c.word_of-key.new.pass in
    let b = view c.search_from.new.pass in
    let w = view c.cover_from.new.pass in
    ok_map c.cover_from.result (w.reads ≡ b.reads) (w.reads ≡ v.reads)
    (λ rest.
    rest
    ∙ (ap (λ (z : View). z.reads) c.search_from.ensures.glances.is ∙ ap (λ (z : View). z.reads) c.word_of-key.ensures.glances.is))
    c.cover_from.ensures.same
