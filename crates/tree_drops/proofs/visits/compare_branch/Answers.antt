use Rattle.std.proofs.Common.{◌≡◌, ◌%◌, ◌^◌, refl}
use Rattle.std.proofs.lemmas.Result.{err_from_is_err_and}
use Rattle.std.specs.Prelude.{Err}
use Rattle.engine_pages.specs.Passes.{view}
use Rattle.snapshot_store.specs.Places.{page as page_words}
use Rattle.tree_drops.specs.Branches.{IsParted}
use Rattle.tree_drops.proofs.Finishes.{noted_branch}
use Rattle.tree_drops.proofs.Places.{word_here}
use Rattle.tree_drops.proofs.Takes.{alike_found, parted_header}
use Rattle.tree_drops.proofs.visits.compare_branch.Goals as goal

pub returns-then-header-wanted-clause-keeps : goal.returns-then-header-wanted-clause-keeps
returns-then-header-wanted-clause-keeps c =
    parted_header c.args.slot c.args.target.page c.args.header c.args.wanted c.word_at-at.result c.keep-other.result
    (view c.args.pass.now) (view c.keep-other.new.pass)
    (word_here c.args.engine.now c.args.pass.now c.args.slot 0 c.word_at-at.result c.requires.of c.word_at-at.ensures)
    c.requires.wanted c.if-header-wanted.true c.keep-other.ensures.is c.keep-other.ensures.notes

pub returns-in_err-compare_from-clause-keeps : goal.returns-in_err-compare_from-clause-keeps
returns-in_err-compare_from-clause-keeps c =
    let v = view c.args.pass.now in
    let p = err_from_is_err_and c.from_residual.result c.from_residual.ensures.1 in
    let told : c.from_residual.result ≡ Err c.in_err-compare_from.field-0.0 = let a = p.1 in let b = p.2 in cc in
    rw told (noted_branch (IsParted v.layout.slots c.args.slot (page_words v.pages c.args.target.page)) c.args.slot
    c.in_err-compare_from.field-0.0 v (view c.compare_from.new.pass) c.compare_from.ensures.reads
    c.in_err-compare_from.ensures.keeps)

pub returns-clause-opens : goal.returns-clause-opens
returns-clause-opens c =
    alike_found c.args.target.span c.args.target.page c.args.slot c.args.header c.args.wanted (c.args.header % 2 ^ 8)
    (view c.args.pass.now) c.requires.parts c.requires.wanted c.if-header-wanted.false refl (view c.compare_from.new.pass)
    c.in_ok-compare_from.ensures.looks c.in_ok-compare_from.ensures.alike
