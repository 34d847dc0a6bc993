use Rattle.std.proofs.Common.{◌≡◌, ◌∙◌, ap, inr, refl}
use Rattle.engine_pages.specs.declared.view.View.{View}
use Rattle.engine_pages.specs.declared.view.KeptWhy.{KeptWhy}
use Rattle.engine_pages.specs.declared.view.KeptWhy.TheVariants.{UnlikeAt}
use Rattle.engine_pages.specs.Layout.{page_at}
use Rattle.engine_pages.specs.Passes.{view}
use Rattle.tree_drops.proofs.LacksKeys.{below_glanced}
use Rattle.tree_drops.proofs.Places.{at_then, word_here}
use Rattle.tree_drops.proofs.Works.{keeps_it, last_seen, only_glanced, only_self, saw_word, word_glanced}
use Rattle.tree_drops.proofs.taking.keep_missing.Goals as goal

pub keep-requires-clause-last : goal.keep-requires-clause-last
keep-requires-clause-last c =
    last_seen (view c.args.pass.now) (view c.load_word-header.new.pass) c.word_at-at.result c.load_word-header.result
    (UnlikeAt c.args.key)
    (saw_word c.args.root.slot 0 c.word_at-at.result c.load_word-header.result (view c.args.pass.now) (view c.args.pass.now)
    (view c.load_word-header.new.pass) (only_self (view c.args.pass.now)) c.load_word-header.ensures.loads)

pub keep-requires-clause-due : goal.keep-requires-clause-due
keep-requires-clause-due c =
    let v = view c.args.pass.now in
    let w = view c.load_word-header.new.pass in
    let h = word_glanced c.args.root.slot 0 c.word_at-at.result c.load_word-header.result v w c.load_word-header.ensures.loads in
    inr (
      c.args.root.slot,
      at_then c.args.root.slot 0 c.word_at-at.result v w (only_glanced v w h)
          (word_here c.args.engine.now c.args.pass.now c.args.root.slot 0 c.word_at-at.result c.requires.of c.word_at-at.ensures),
      inr (below_glanced c.args.root.slot c.args.key v w h c.requires.lacks),
    )

pub returns-clause-keeps : goal.returns-clause-keeps
returns-clause-keeps c =
    let v = view c.args.pass.now in
    keeps_it (λ (why : KeptWhy) word seen. (why ≡ UnlikeAt c.args.key) × (word ≡ page_at v.layout.slots c.args.root.slot 0)) v
    (view c.load_word-header.new.pass) (view c.keep.new.pass) c.word_at-at.result c.load_word-header.result (UnlikeAt c.args.key)
    c.keep.result c.keep.ensures.is
    (saw_word c.args.root.slot 0 c.word_at-at.result c.load_word-header.result v v (view c.load_word-header.new.pass) (only_self v)
    c.load_word-header.ensures.loads) c.keep.ensures.notes
    (refl, word_here c.args.engine.now c.args.pass.now c.args.root.slot 0 c.word_at-at.result c.requires.of c.word_at-at.ensures)

pub returns-clause-reads : goal.returns-clause-reads
returns-clause-reads c =
    ap (λ (z : View). z.reads) c.keep.ensures.notes.1 ∙ ap (λ (z : View). z.reads) c.load_word-header.ensures.loads.is
