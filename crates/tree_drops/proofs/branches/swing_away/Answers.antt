use Rattle.std.proofs.Common.{inr, refl, ap}
use Rattle.page_drops.specs.declared.noting.Kept.{Kept}
use Rattle.engine_pages.specs.declared.view.KeptWhy.TheVariants.{Changed}
use Rattle.engine_pages.specs.Passes.{view}
use Rattle.tree_drops.specs.Branches.{IsBranchCauseBelow}
use Rattle.page_drops.proofs.Drops.{not_swung}
use Rattle.page_drops.proofs.Dues.{turned_from}
use Rattle.tree_drops.proofs.Parts.{keeps_branch, last_met}
use Rattle.tree_drops.proofs.Shuts.{can_swing_branch, dropped_branch_now, met_other}
use Rattle.tree_drops.proofs.Swung.{changed_reads, dropped_reads, swung_now, tells_changed}
use Rattle.tree_drops.proofs.branches.swing_away.Goals as goal

pub swing-found-requires-clause-swing : goal.swing-found-requires-clause-swing
swing-found-requires-clause-swing c =
    can_swing_branch c.args.pointer.place c.args.branch.span c.args.pointer.at c.args.branch.slot c.args.branch.page c.args.pointer.word c.args.branch.count (view c.args.pass.now) c.requires.drop

pub keep-kept-requires-clause-last : goal.keep-kept-requires-clause-last
keep-kept-requires-clause-last c =
    let v = view c.args.pass.now in
    let w = view c.swing-found.new.pass in
    let n = c.swing-found.result in
    last_met v w c.args.pointer.at n (Changed c.args.pointer.word) (met_other c.args.branch.slot c.args.pointer.at c.args.branch.page c.args.pointer.word n v w c.if-found-word.true c.swing-found.ensures.swings)

pub returns-then-found-word-clause-keeps : goal.returns-then-found-word-clause-keeps
returns-then-found-word-clause-keeps c =
    let v = view c.args.pass.now in
    let w = view c.swing-found.new.pass in
    let n = c.swing-found.result in
    keeps_branch (IsBranchCauseBelow v.layout.slots c.args.branch.slot c.args.branch.span v.pages c.args.branch.page c.args.pointer.at c.args.pointer.word) v w (view c.keep-kept.new.pass) c.args.pointer.at n
    (Changed c.args.pointer.word) c.keep-kept.result c.keep-kept.ensures.is (met_other c.args.branch.slot c.args.pointer.at c.args.branch.page c.args.pointer.word n v w c.if-found-word.true c.swing-found.ensures.swings) c.keep-kept.ensures.notes (inr (refl, refl, c.if-found-word.true))

pub returns-then-found-word-clause-tells : goal.returns-then-found-word-clause-tells
returns-then-found-word-clause-tells c =
    let v = view c.args.pass.now in
    let w = view c.swing-found.new.pass in
    let n = c.swing-found.result in
    tells_changed c.args.branch.slot c.args.branch.page c.args.pointer.at c.args.pointer.word n c.keep-kept.result v w (view c.keep-kept.new.pass) c.keep-kept.ensures.is c.if-found-word.true
    c.swing-found.ensures.swings c.keep-kept.ensures.notes c.requires.drop.met

pub returns-then-found-word-clause-reads : goal.returns-then-found-word-clause-reads
returns-then-found-word-clause-reads c =
    let v = view c.args.pass.now in
    let w = view c.swing-found.new.pass in
    let n = c.swing-found.result in
    λ q other out.
    changed_reads c.args.branch.slot c.args.branch.page c.args.pointer.at c.args.pointer.word n c.keep-kept.result v w (view c.keep-kept.new.pass) c.if-found-word.true
    c.swing-found.ensures.swings c.keep-kept.ensures.notes q other

pub returns-clause-drops : goal.returns-clause-drops
returns-clause-drops c =
    let v = view c.args.pass.now in
    let w = view c.swing-found.new.pass in
    let n = c.swing-found.result in
    dropped_branch_now c.args.pointer.place c.args.branch.span c.args.branch.slot c.args.pointer.at c.args.branch.page c.args.pointer.word c.args.branch.count n v w (view c.retire.new.pass) c.requires.drop (swung_now c.args.branch.slot c.args.pointer.at c.args.branch.page c.args.pointer.word n v w c.if-found-word.false c.swing-found.ensures.swings) c.retire.ensures.retires

pub returns-clause-reads : goal.returns-clause-reads
returns-clause-reads c =
    let v = view c.args.pass.now in
    let w = view c.swing-found.new.pass in
    let n = c.swing-found.result in
    λ q other out.
    dropped_reads c.args.branch.slot c.args.pointer.at c.args.branch.page n v w (view c.retire.new.pass) (swung_now c.args.branch.slot c.args.pointer.at c.args.branch.page c.args.pointer.word n v w c.if-found-word.false c.swing-found.ensures.swings) c.retire.ensures.retires q other

pub keep-kept-requires-clause-due : goal.keep-kept-requires-clause-due
keep-kept-requires-clause-due c =
    let v = view c.args.pass.now in
    let w = view c.swing-found.new.pass in
    turned_from c.args.pointer.at c.args.pointer.word c.swing-found.result v w c.if-found-word.true
    (not_swung c.args.branch.slot c.args.pointer.at c.args.branch.page c.args.pointer.word c.swing-found.result v w c.if-found-word.true
    c.swing-found.ensures.swings) c.requires.drop.met

pub returns-then-found-word-clause-others : goal.returns-then-found-word-clause-others
returns-then-found-word-clause-others c =
    let v = view c.args.pass.now in
    let w = view c.swing-found.new.pass in
    let n = c.swing-found.result in
    λ q other.
    changed_reads c.args.branch.slot c.args.branch.page c.args.pointer.at c.args.pointer.word n c.keep-kept.result v w (view c.keep-kept.new.pass) c.if-found-word.true
    c.swing-found.ensures.swings c.keep-kept.ensures.notes q other

pub returns-then-found-word-clause-above : goal.returns-then-found-word-clause-above
returns-then-found-word-clause-above c = ap (λ (k : Kept). k.word) c.keep-kept.ensures.is

pub returns-clause-others : goal.returns-clause-others
returns-clause-others c =
    let v = view c.args.pass.now in
    let w = view c.swing-found.new.pass in
    let n = c.swing-found.result in
    λ q other.
    dropped_reads c.args.branch.slot c.args.pointer.at c.args.branch.page n v w (view c.retire.new.pass) (swung_now c.args.branch.slot c.args.pointer.at c.args.branch.page c.args.pointer.word n v w c.if-found-word.false c.swing-found.ensures.swings) c.retire.ensures.retires q other
