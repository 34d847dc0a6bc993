use Rattle.std.proofs.Common.{◌≡◌, ◌∙◌, ap, refl}
use Rattle.engine_pages.specs.declared.view.View.{View}
use Rattle.engine_pages.specs.declared.view.KeptWhy.{KeptWhy}
use Rattle.engine_pages.specs.declared.view.KeptWhy.TheVariants.{Unlike}
use Rattle.engine_pages.specs.Layout.{page_at}
use Rattle.engine_pages.specs.Passes.{view}
use Rattle.tree_drops.proofs.Places.{word_here}
use Rattle.tree_drops.proofs.Works.{keeps_it, last_seen, only_self, saw_word}
use Rattle.tree_drops.proofs.taking.keep_first.Goals as goal

pub keep-requires-clause-last : goal.keep-requires-clause-last
keep-requires-clause-last c =
    last_seen (view c.args.pass.now) (view c.load_word-header.new.pass) c.word_at-at.result c.load_word-header.result Unlike
    (saw_word c.args.root.slot 0 c.word_at-at.result c.load_word-header.result (view c.args.pass.now) (view c.args.pass.now)
    (view c.load_word-header.new.pass) (only_self (view c.args.pass.now)) c.load_word-header.ensures.loads)

pub returns-clause-keeps : goal.returns-clause-keeps
returns-clause-keeps c =
    let v = view c.args.pass.now in
    keeps_it (λ (why : KeptWhy) word seen. (why ≡ Unlike) × (word ≡ page_at v.layout.slots c.args.root.slot 0)) v (view c.load_word-header.new.pass)
    (view c.keep.new.pass) c.word_at-at.result c.load_word-header.result Unlike c.keep.result c.keep.ensures.is
    (saw_word c.args.root.slot 0 c.word_at-at.result c.load_word-header.result v v (view c.load_word-header.new.pass) (only_self v)
    c.load_word-header.ensures.loads) c.keep.ensures.notes
    (refl, word_here c.args.engine.now c.args.pass.now c.args.root.slot 0 c.word_at-at.result c.requires.of c.word_at-at.ensures)

pub returns-clause-reads : goal.returns-clause-reads
returns-clause-reads c =
    ap (λ (z : View). z.reads) c.keep.ensures.notes.1 ∙ ap (λ (z : View). z.reads) c.load_word-header.ensures.loads.is
