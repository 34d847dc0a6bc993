use Rattle.std.proofs.Common.{◌+◌, ◌<◌, refl, subst, sym, ap, ◌∙◌, arith}
use Rattle.engine_pages.specs.declared.view.KeptWhy.TheVariants.{Unlike}
use Rattle.engine_pages.specs.declared.view.View.{View}
use Rattle.engine_pages.specs.Passes.{view}
use Rattle.page_drops.proofs.Entries.{reads_glanced, reads_noted, reads_self, reads_then}
use Rattle.tree_drops.specs.Branches.{AreAlike, AtBranch, IsParted}
use Rattle.tree_drops.proofs.Places.{word_here}
use Rattle.tree_drops.proofs.Covers.{ok_map}
use Rattle.page_drops.proofs.Looks.{glanced_self, glanced_then}
use Rattle.page_drops.specs.Works.{HasGlanced}
use Rattle.snapshot_store.specs.Places.{page as page_words}
use Rattle.tree_drops.proofs.Parts.{alike_end, alike_next, branch_on, err_branch, goes_glanced, keeps_branch}
use Rattle.tree_drops.proofs.Parts.{last_met, met_word}
use Rattle.tree_drops.proofs.Shuts.{branch_parted}
use Rattle.tree_drops.proofs.Works.{word_glanced}
use Rattle.tree_drops.proofs.branches.+compare_from.Goals as goal

pub returns-then-index-branch-clause-looks : goal.returns-then-index-branch-clause-looks
returns-then-index-branch-clause-looks t c =
    glanced_self (view c.args.pass.now)

pub returns-then-index-branch-clause-alike : goal.returns-then-index-branch-clause-alike
returns-then-index-branch-clause-alike t c =
    λ x. alike_end (page_words (view c.args.pass.now).pages c.args.branch.page) (x.inner).separators c.args.index c.args.branch.count x.long c.if-index-branch.true

pub returns-then-index-branch-clause-reads : goal.returns-then-index-branch-clause-reads
returns-then-index-branch-clause-reads t c =
    reads_self c.args.branch.slot (view c.args.pass.now)

pub keep-other-requires-clause-last : goal.keep-other-requires-clause-last
keep-other-requires-clause-last t c =
    let v = view c.args.pass.now in
    let a = view c.word_of-wanted.new.pass in
    let w = view c.load_word-found.new.pass in
    let one = goes_glanced v a c.word_of-wanted.ensures.glances in
    let met = met_word c.args.branch.slot (34 + c.args.index) c.word_at-at.result c.load_word-found.result v a w one c.load_word-found.ensures.loads in
    last_met v w c.word_at-at.result c.load_word-found.result Unlike met

pub returns-then-found-wanted-clause-keeps : goal.returns-then-found-wanted-clause-keeps
returns-then-found-wanted-clause-keeps t c =
    let v = view c.args.pass.now in
    let a = view c.word_of-wanted.new.pass in
    let w = view c.load_word-found.new.pass in
    let one = goes_glanced v a c.word_of-wanted.ensures.glances in
    let met = met_word c.args.branch.slot (34 + c.args.index) c.word_at-at.result c.load_word-found.result v a w one c.load_word-found.ensures.loads in
    keeps_branch (IsParted v.layout.slots c.args.branch.slot (page_words v.pages c.args.branch.page)) v w (view c.keep-other.new.pass) c.word_at-at.result c.load_word-found.result
    Unlike c.keep-other.result c.keep-other.ensures.is met c.keep-other.ensures.notes
    (branch_parted v.layout.slots c.args.branch.slot c.args.index c.word_at-at.result c.load_word-found.result c.args.branch.page c.args.branch.span v.pages c.word_of-wanted.result (word_here c.args.engine.now c.args.pass.now c.args.branch.slot (34 + c.args.index) c.word_at-at.result c.requires.of c.word_at-at.ensures) c.word_of-wanted.ensures.word c.if-found-wanted.true)

pub returns-then-found-wanted-clause-reads : goal.returns-then-found-wanted-clause-reads
returns-then-found-wanted-clause-reads t c =
    let v = view c.args.pass.now in
    let a = view c.word_of-wanted.new.pass in
    let w = view c.load_word-found.new.pass in
    let one = goes_glanced v a c.word_of-wanted.ensures.glances in
    let met = met_word c.args.branch.slot (34 + c.args.index) c.word_at-at.result c.load_word-found.result v a w one c.load_word-found.ensures.loads in
    reads_noted c.args.branch.slot c.keep-other.result v w (view c.keep-other.new.pass) (reads_then c.args.branch.slot v a w (ap (λ (y : View). y.layout) one.on.shut) (reads_glanced c.args.branch.slot v a c.word_of-wanted.ensures.glances)
    (reads_glanced c.args.branch.slot a w (word_glanced c.args.branch.slot (34 + c.args.index) c.word_at-at.result c.load_word-found.result a w c.load_word-found.ensures.loads))) c.keep-other.ensures.notes

pub compare_from-requires : goal.compare_from-requires
compare_from-requires t c =
    let v = view c.args.pass.now in
    let a = view c.word_of-wanted.new.pass in
    let w = view c.load_word-found.new.pass in
    let one = goes_glanced v a c.word_of-wanted.ensures.glances in
    let met = met_word c.args.branch.slot (34 + c.args.index) c.word_at-at.result c.load_word-found.result v a w one c.load_word-found.ensures.loads in
    let index = c.requires.index in
    let more = c.if-index-branch.false in
    let less : c.args.index + 1 < c.args.branch.count = omega (arith, index, more) in
    (omega (arith, less), (c.load_word-found.ensures.of, (branch_on c.args.branch.slot c.args.branch.page c.args.branch.count c.args.branch.span v w met.goes.on c.requires.at, less)))

pub returns-clause-looks : goal.returns-clause-looks
returns-clause-looks t c =
    let v = view c.args.pass.now in
    let a = view c.word_of-wanted.new.pass in
    let w = view c.load_word-found.new.pass in
    let one = goes_glanced v a c.word_of-wanted.ensures.glances in
    let met = met_word c.args.branch.slot (34 + c.args.index) c.word_at-at.result c.load_word-found.result v a w one c.load_word-found.ensures.loads in
    ok_map c.compare_from.result (HasGlanced w (view c.compare_from.new.pass)) (HasGlanced v (view c.compare_from.new.pass))
    (λ rest. glanced_then v w (view c.compare_from.new.pass)
    (glanced_then v a w c.word_of-wanted.ensures.glances (word_glanced c.args.branch.slot (34 + c.args.index) c.word_at-at.result c.load_word-found.result a w c.load_word-found.ensures.loads)) rest)
    c.compare_from.ensures.looks

pub returns-clause-alike : goal.returns-clause-alike
returns-clause-alike t c =
    let v = view c.args.pass.now in
    let a = view c.word_of-wanted.new.pass in
    let w = view c.load_word-found.new.pass in
    let one = goes_glanced v a c.word_of-wanted.ensures.glances in
    let met = met_word c.args.branch.slot (34 + c.args.index) c.word_at-at.result c.load_word-found.result v a w one c.load_word-found.ensures.loads in
    ok_map c.compare_from.result
    ((x : AtBranch c.args.branch.slot c.args.branch.span c.args.branch.page c.args.branch.count w) → AreAlike (page_words w.pages c.args.branch.page) (x.inner).separators (c.args.index + 1))
    ((x : AtBranch c.args.branch.slot c.args.branch.span c.args.branch.page c.args.branch.count v) → AreAlike (page_words v.pages c.args.branch.page) (x.inner).separators c.args.index)
    (λ rest x.
    let long = x.long in
    let less = c.requires.index in
    let more = c.if-index-branch.false in
    let y = branch_on c.args.branch.slot c.args.branch.page c.args.branch.count c.args.branch.span v a one.on x in
    alike_next (page_words v.pages c.args.branch.page) (x.inner).separators c.args.index
    (sym c.word_of-wanted.ensures.word ∙ (sym c.if-found-wanted.false ∙ c.load_word-found.ensures.loads.separator y.inner c.args.index y.has y.slot (omega (arith, long, less, more)) refl))
    (subst (λ ps. AreAlike (page_words ps c.args.branch.page) (x.inner).separators (c.args.index + 1)) (ap (λ (z : View). z.pages) met.goes.on.shut)
    (rest (branch_on c.args.branch.slot c.args.branch.page c.args.branch.count c.args.branch.span v w met.goes.on x))))
    c.compare_from.ensures.alike

pub returns-clause-keeps : goal.returns-clause-keeps
returns-clause-keeps t c =
    let v = view c.args.pass.now in
    let a = view c.word_of-wanted.new.pass in
    let w = view c.load_word-found.new.pass in
    let one = goes_glanced v a c.word_of-wanted.ensures.glances in
    let met = met_word c.args.branch.slot (34 + c.args.index) c.word_at-at.result c.load_word-found.result v a w one c.load_word-found.ensures.loads in
    err_branch c.compare_from.result c.args.branch.slot c.args.branch.page c.args.branch.span v w (view c.compare_from.new.pass) met.goes c.compare_from.ensures.keeps

pub returns-clause-reads : goal.returns-clause-reads
returns-clause-reads t c =
    let v = view c.args.pass.now in
    let a = view c.word_of-wanted.new.pass in
    let w = view c.load_word-found.new.pass in
    let one = goes_glanced v a c.word_of-wanted.ensures.glances in
    let met = met_word c.args.branch.slot (34 + c.args.index) c.word_at-at.result c.load_word-found.result v a w one c.load_word-found.ensures.loads in
    reads_then c.args.branch.slot v w (view c.compare_from.new.pass) (ap (λ (y : View). y.layout) met.goes.on.shut) (reads_then c.args.branch.slot v a w (ap (λ (y : View). y.layout) one.on.shut) (reads_glanced c.args.branch.slot v a c.word_of-wanted.ensures.glances)
    (reads_glanced c.args.branch.slot a w (word_glanced c.args.branch.slot (34 + c.args.index) c.word_at-at.result c.load_word-found.result a w c.load_word-found.ensures.loads))) c.compare_from.ensures.reads
