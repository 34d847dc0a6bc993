use Rattle.std.specs.Prelude.{Err, None, Some}
use Rattle.std.proofs.Common.{◌≡◌, ◌+◌, ◌^◌, List, ◌∷◌, inl, subst, sym, ap, ◌∙◌, arith}
use Rattle.std.proofs.lemmas.Result.{err_from_is_err_and}
use Rattle.std.specs.List.{Contains, slice_get}
use Rattle.engine_pages.specs.declared.view.Shut.{Shut}
use Rattle.drop_core.specs.Table.{at_index}
use Rattle.engine_pages.specs.declared.view.View.{View}
use Rattle.engine_pages.specs.Layout.{page_at}
use Rattle.engine_pages.specs.Passes.{view}
use Rattle.engine_pages.specs.Resident.{tree_below}
use Rattle.pointer_swings.specs.Shuts.{CanReopen, reopened, shut_of}
use Rattle.page_drops.proofs.Entries.{reads_but, reads_glanced, reads_same, reads_then, seen_same}
use Rattle.tree_drops.specs.Branches.{AreLeft, AreLeftFor, HasDroppedBranch, IsBranchCause, IsBranchCauseBelow, KeepsBranch}
use Rattle.tree_drops.specs.Works.{TellsPointer}
use Rattle.tree_drops.proofs.Covers.{err_is, err_map, index_less, ok_is, ok_map}
use Rattle.tree_drops.proofs.Lefts.{behind_above, behind_back, behind_fewer, behind_own, first_fewer, first_kept, first_then, found_left}
use Rattle.tree_drops.proofs.Lefts.{found_then, left_then, none_left, open_next, opened_reads, shut_next}
use Rattle.tree_drops.proofs.Heads.{but_then, tells_around, tells_same, then_but}
use Rattle.tree_drops.proofs.Parts.{branch_back, branch_earlier, branch_on, branch_then, goes_glanced, goes_then, on_then, pages_on}
use Rattle.tree_drops.proofs.Places.{word_here}
use Rattle.tree_drops.proofs.Shuts.{below_earlier, can_next, can_reopen, dropped_branch_on, keeps_reopen, reads_reopened, shut_as}
use Rattle.tree_drops.proofs.branches.+drop_branch_from.Goals as goal

pub part_of-part-requires-clause-at : goal.part_of-part-requires-clause-at
part_of-part-requires-clause-at t c =
    let v = view c.args.pass.now in
    let can = c.requires.drop in
    let less = index_less c.args.index c.args.branch.count can.index c.if-index-branch.false in
    let a = view c.child_of-child.new.pass in
    let found = c.child_of-child.ensures.child can.branch can.alike in
    let mine = branch_on c.args.branch.slot c.args.branch.page c.args.branch.count c.args.branch.span v a found.goes.on can.branch in
    mine

pub shut_child-requires-clause-at : goal.shut_child-requires-clause-at
shut_child-requires-clause-at t c =
    let v = view c.args.pass.now in
    let can = c.requires.drop in
    let less = index_less c.args.index c.args.branch.count can.index c.if-index-branch.false in
    let a = view c.child_of-child.new.pass in
    let found = c.child_of-child.ensures.child can.branch can.alike in
    let mine = branch_on c.args.branch.slot c.args.branch.page c.args.branch.count c.args.branch.span v a found.goes.on can.branch in
    let b = view c.part_of-part.new.pass in
    let gl = c.part_of-part.ensures.glances in
    let goes = goes_then v a b found.goes (goes_glanced a b gl) in
    branch_on c.args.branch.slot c.args.branch.page c.args.branch.count c.args.branch.span v b goes.on can.branch

pub shut_child-requires-clause-part : goal.shut_child-requires-clause-part
shut_child-requires-clause-part t c =
    let v = view c.args.pass.now in
    let can = c.requires.drop in
    let less = index_less c.args.index c.args.branch.count can.index c.if-index-branch.false in
    let a = view c.child_of-child.new.pass in
    let found = c.child_of-child.ensures.child can.branch can.alike in
    let mine = branch_on c.args.branch.slot c.args.branch.page c.args.branch.count c.args.branch.span v a found.goes.on can.branch in
    let b = view c.part_of-part.new.pass in
    let gl = c.part_of-part.ensures.glances in
    let goes = goes_then v a b found.goes (goes_glanced a b gl) in
    λ x. c.part_of-part.ensures.part (branch_back c.args.branch.slot c.args.branch.page c.args.branch.count c.args.branch.span a b (goes_glanced a b gl).on mine x)

pub shut_child-requires-clause-child : goal.shut_child-requires-clause-child
shut_child-requires-clause-child t c =
    let v = view c.args.pass.now in
    let can = c.requires.drop in
    let less = index_less c.args.index c.args.branch.count can.index c.if-index-branch.false in
    let a = view c.child_of-child.new.pass in
    let found = c.child_of-child.ensures.child can.branch can.alike in
    let mine = branch_on c.args.branch.slot c.args.branch.page c.args.branch.count c.args.branch.span v a found.goes.on can.branch in
    let b = view c.part_of-part.new.pass in
    let gl = c.part_of-part.ensures.glances in
    let goes = goes_then v a b found.goes (goes_glanced a b gl) in
    (found.child, subst (λ ps. slice_get (tree_below ps c.args.branch.span c.args.branch.page) c.args.index ≡ Some found.child) (sym (pages_on v b goes.on)) found.is.at, found.says)

pub returns-in_err-shut_child-clause-keeps : goal.returns-in_err-shut_child-clause-keeps
returns-in_err-shut_child-clause-keeps t c =
    let v = view c.args.pass.now in
    let can = c.requires.drop in
    let less = index_less c.args.index c.args.branch.count can.index c.if-index-branch.false in
    let a = view c.child_of-child.new.pass in
    let found = c.child_of-child.ensures.child can.branch can.alike in
    let mine = branch_on c.args.branch.slot c.args.branch.page c.args.branch.count c.args.branch.span v a found.goes.on can.branch in
    let b = view c.part_of-part.new.pass in
    let gl = c.part_of-part.ensures.glances in
    let goes = goes_then v a b found.goes (goes_glanced a b gl) in
    let w = view c.shut_child.new.pass in
    let rw1 = reads_then c.args.branch.slot v b w (ap (λ (y : View). y.layout) goes.on.shut)
    (reads_then c.args.branch.slot v a b (ap (λ (y : View). y.layout) found.goes.on.shut) (reads_same c.args.branch.slot v a found.reads) (reads_glanced c.args.branch.slot a b gl)) c.shut_child.ensures.reads in
    let p = err_from_is_err_and c.from_residual.result c.from_residual.ensures.1 in
    let told : c.from_residual.result ≡ Err c.in_err-shut_child.field-0.0 = let a1 = p.1 in let b1 = p.2 in cc in
    rw told (branch_then (IsBranchCause b.layout.slots c.args.branch.slot c.args.branch.span b.pages c.args.branch.page) (IsBranchCauseBelow v.layout.slots c.args.branch.slot c.args.branch.span v.pages c.args.branch.page c.args.pointer.at c.args.pointer.word) c.in_err-shut_child.field-0.0 v b w goes
    (λ so. inl (branch_earlier c.args.branch.slot c.args.branch.page c.args.branch.span v b goes.on (c.in_err-shut_child.field-0.0).why (c.in_err-shut_child.field-0.0).word (c.in_err-shut_child.field-0.0).seen so)) c.in_err-shut_child.ensures.keeps)

pub returns-in_err-shut_child-clause-tells : goal.returns-in_err-shut_child-clause-tells
returns-in_err-shut_child-clause-tells t c =
    let v = view c.args.pass.now in
    let can = c.requires.drop in
    let less = index_less c.args.index c.args.branch.count can.index c.if-index-branch.false in
    let a = view c.child_of-child.new.pass in
    let found = c.child_of-child.ensures.child can.branch can.alike in
    let mine = branch_on c.args.branch.slot c.args.branch.page c.args.branch.count c.args.branch.span v a found.goes.on can.branch in
    let b = view c.part_of-part.new.pass in
    let gl = c.part_of-part.ensures.glances in
    let goes = goes_then v a b found.goes (goes_glanced a b gl) in
    let w = view c.shut_child.new.pass in
    let rw1 = reads_then c.args.branch.slot v b w (ap (λ (y : View). y.layout) goes.on.shut)
    (reads_then c.args.branch.slot v a b (ap (λ (y : View). y.layout) found.goes.on.shut) (reads_same c.args.branch.slot v a found.reads) (reads_glanced c.args.branch.slot a b gl)) c.shut_child.ensures.reads in
    let p = err_from_is_err_and c.from_residual.result c.from_residual.ensures.1 in
    let told : c.from_residual.result ≡ Err c.in_err-shut_child.field-0.0 = let a1 = p.1 in let b1 = p.2 in cc in
    rw told (tells_same c.args.branch.slot c.args.pointer.at c.args.pointer.word c.in_err-shut_child.field-0.0 v w rw1 can.apart)

pub returns-in_err-shut_child-clause-reads : goal.returns-in_err-shut_child-clause-reads
returns-in_err-shut_child-clause-reads t c =
    let v = view c.args.pass.now in
    let can = c.requires.drop in
    let less = index_less c.args.index c.args.branch.count can.index c.if-index-branch.false in
    let a = view c.child_of-child.new.pass in
    let found = c.child_of-child.ensures.child can.branch can.alike in
    let mine = branch_on c.args.branch.slot c.args.branch.page c.args.branch.count c.args.branch.span v a found.goes.on can.branch in
    let b = view c.part_of-part.new.pass in
    let gl = c.part_of-part.ensures.glances in
    let goes = goes_then v a b found.goes (goes_glanced a b gl) in
    let w = view c.shut_child.new.pass in
    let rw1 = reads_then c.args.branch.slot v b w (ap (λ (y : View). y.layout) goes.on.shut)
    (reads_then c.args.branch.slot v a b (ap (λ (y : View). y.layout) found.goes.on.shut) (reads_same c.args.branch.slot v a found.reads) (reads_glanced c.args.branch.slot a b gl)) c.shut_child.ensures.reads in
    reads_but c.args.branch.slot c.args.pointer.at v w rw1

pub drop_branch_from-requires : goal.drop_branch_from-requires
drop_branch_from-requires t c =
    let v = view c.args.pass.now in
    let can = c.requires.drop in
    let less = index_less c.args.index c.args.branch.count can.index c.if-index-branch.false in
    let a = view c.child_of-child.new.pass in
    let found = c.child_of-child.ensures.child can.branch can.alike in
    let mine = branch_on c.args.branch.slot c.args.branch.page c.args.branch.count c.args.branch.span v a found.goes.on can.branch in
    let b = view c.part_of-part.new.pass in
    let gl = c.part_of-part.ensures.glances in
    let goes = goes_then v a b found.goes (goes_glanced a b gl) in
    let w = view c.shut_child.new.pass in
    let rw1 = reads_then c.args.branch.slot v b w (ap (λ (y : View). y.layout) goes.on.shut)
    (reads_then c.args.branch.slot v a b (ap (λ (y : View). y.layout) found.goes.on.shut) (reads_same c.args.branch.slot v a found.reads) (reads_glanced c.args.branch.slot a b gl)) c.shut_child.ensures.reads in
    let shuts = c.in_ok-shut_child.ensures.shuts in
    let on = on_then v b w goes.on shuts.on in (
      omega (arith, less),
      (
        c.shut_child.ensures.of,
        can_next c.args.pointer.place c.args.branch.span c.args.pointer.at c.args.branch.slot c.args.branch.page c.args.pointer.word c.args.branch.count c.args.index found.child v b w can goes rw1
            (shut_as c.args.branch.slot c.args.index (found.child).number c.child_of-child.result b w found.says shuts) less found.is,
      ),
    )

pub reopen-requires-clause-reopen : goal.reopen-requires-clause-reopen
reopen-requires-clause-reopen t c =
    let v = view c.args.pass.now in
    let can = c.requires.drop in
    let less = index_less c.args.index c.args.branch.count can.index c.if-index-branch.false in
    let a = view c.child_of-child.new.pass in
    let found = c.child_of-child.ensures.child can.branch can.alike in
    let mine = branch_on c.args.branch.slot c.args.branch.page c.args.branch.count c.args.branch.span v a found.goes.on can.branch in
    let b = view c.part_of-part.new.pass in
    let gl = c.part_of-part.ensures.glances in
    let goes = goes_then v a b found.goes (goes_glanced a b gl) in
    let w = view c.shut_child.new.pass in
    let rw1 = reads_then c.args.branch.slot v b w (ap (λ (y : View). y.layout) goes.on.shut)
    (reads_then c.args.branch.slot v a b (ap (λ (y : View). y.layout) found.goes.on.shut) (reads_same c.args.branch.slot v a found.reads) (reads_glanced c.args.branch.slot a b gl)) c.shut_child.ensures.reads in
    let shuts = c.in_ok-shut_child.ensures.shuts in
    let on = on_then v b w goes.on shuts.on in
    let e = view c.drop_branch_from.new.pass in
    let keeps = err_is c.drop_branch_from.result (λ k. KeepsBranch (IsBranchCauseBelow w.layout.slots c.args.branch.slot c.args.branch.span w.pages c.args.branch.page c.args.pointer.at c.args.pointer.word) k w e) c.in-Err.kept c.drop_branch_from.ensures.keeps c.in-Err.is in
    let far = on_then v w e on keeps.on in
    let late = branch_on c.args.branch.slot c.args.branch.page c.args.branch.count c.args.branch.span v e far can.branch in
    let place = word_here c.args.engine.now c.args.pass.now c.args.branch.slot (4 + c.args.index) c.word_at-at.result c.requires.of c.word_at-at.ensures in
    let there = place ∙ sym (ap (λ (y : View). page_at y.layout.slots c.args.branch.slot (4 + c.args.index)) far.shut) in
    let m = c.from.result in
    let same : m ≡ c.child_of-child.result = omega arith in
    subst (λ q. CanReopen e (at_index c.args.branch.slot c.args.index) c.part_of-part.result c.word_at-at.result q) (sym same)
    (can_reopen c.args.branch.slot c.args.branch.page c.args.branch.count c.args.index c.word_at-at.result c.child_of-child.result c.args.branch.span c.part_of-part.result b e late less (c.part_of-part.ensures.part mine) there (keeps.shuts ∙ shuts.shuts))

pub returns-in-Err-clause-keeps : goal.returns-in-Err-clause-keeps
returns-in-Err-clause-keeps t c =
    let v = view c.args.pass.now in
    let can = c.requires.drop in
    let less = index_less c.args.index c.args.branch.count can.index c.if-index-branch.false in
    let a = view c.child_of-child.new.pass in
    let found = c.child_of-child.ensures.child can.branch can.alike in
    let mine = branch_on c.args.branch.slot c.args.branch.page c.args.branch.count c.args.branch.span v a found.goes.on can.branch in
    let b = view c.part_of-part.new.pass in
    let gl = c.part_of-part.ensures.glances in
    let goes = goes_then v a b found.goes (goes_glanced a b gl) in
    let w = view c.shut_child.new.pass in
    let rw1 = reads_then c.args.branch.slot v b w (ap (λ (y : View). y.layout) goes.on.shut)
    (reads_then c.args.branch.slot v a b (ap (λ (y : View). y.layout) found.goes.on.shut) (reads_same c.args.branch.slot v a found.reads) (reads_glanced c.args.branch.slot a b gl)) c.shut_child.ensures.reads in
    let shuts = c.in_ok-shut_child.ensures.shuts in
    let on = on_then v b w goes.on shuts.on in
    let e = view c.drop_branch_from.new.pass in
    let keeps = err_is c.drop_branch_from.result (λ k. KeepsBranch (IsBranchCauseBelow w.layout.slots c.args.branch.slot c.args.branch.span w.pages c.args.branch.page c.args.pointer.at c.args.pointer.word) k w e) c.in-Err.kept c.drop_branch_from.ensures.keeps c.in-Err.is in
    let far = on_then v w e on keeps.on in
    let late = branch_on c.args.branch.slot c.args.branch.page c.args.branch.count c.args.branch.span v e far can.branch in
    let place = word_here c.args.engine.now c.args.pass.now c.args.branch.slot (4 + c.args.index) c.word_at-at.result c.requires.of c.word_at-at.ensures in
    let there = place ∙ sym (ap (λ (y : View). page_at y.layout.slots c.args.branch.slot (4 + c.args.index)) far.shut) in
    let m = c.from.result in
    let same : m ≡ c.child_of-child.result = omega arith in
    let z = view c.reopen.new.pass in
    let opens = c.reopen.ensures.reopens ∙ ap (λ q. reopened (at_index c.args.branch.slot c.args.index) c.word_at-at.result q e) same in
    let last = reads_reopened c.args.branch.slot c.args.index c.word_at-at.result c.child_of-child.result e z (let most = can.branch.few in omega (arith, most, less)) there opens in
    keeps_reopen (IsBranchCauseBelow w.layout.slots c.args.branch.slot c.args.branch.span w.pages c.args.branch.page c.args.pointer.at c.args.pointer.word) (IsBranchCauseBelow v.layout.slots c.args.branch.slot c.args.branch.span v.pages c.args.branch.page c.args.pointer.at c.args.pointer.word) c.in-Err.kept c.args.branch.slot c.args.branch.page c.args.index c.word_at-at.result c.child_of-child.result c.args.branch.span (can.branch.inner).separators
    v w e z on (shuts.kept ∙ goes.kept) (shuts.shuts ∙ ap (λ l. shut_of (at_index c.args.branch.slot c.args.index) c.child_of-child.result ∷ l) goes.shuts) can.shut keeps opens
    (below_earlier c.args.branch.slot c.args.branch.page c.args.pointer.at c.args.pointer.word c.args.branch.span v w on (c.in-Err.kept).why (c.in-Err.kept).word (c.in-Err.kept).seen)

pub returns-in-Err-clause-tells : goal.returns-in-Err-clause-tells
returns-in-Err-clause-tells t c =
    let v = view c.args.pass.now in
    let can = c.requires.drop in
    let less = index_less c.args.index c.args.branch.count can.index c.if-index-branch.false in
    let a = view c.child_of-child.new.pass in
    let found = c.child_of-child.ensures.child can.branch can.alike in
    let mine = branch_on c.args.branch.slot c.args.branch.page c.args.branch.count c.args.branch.span v a found.goes.on can.branch in
    let b = view c.part_of-part.new.pass in
    let gl = c.part_of-part.ensures.glances in
    let goes = goes_then v a b found.goes (goes_glanced a b gl) in
    let w = view c.shut_child.new.pass in
    let rw1 = reads_then c.args.branch.slot v b w (ap (λ (y : View). y.layout) goes.on.shut)
    (reads_then c.args.branch.slot v a b (ap (λ (y : View). y.layout) found.goes.on.shut) (reads_same c.args.branch.slot v a found.reads) (reads_glanced c.args.branch.slot a b gl)) c.shut_child.ensures.reads in
    let shuts = c.in_ok-shut_child.ensures.shuts in
    let on = on_then v b w goes.on shuts.on in
    let e = view c.drop_branch_from.new.pass in
    let keeps = err_is c.drop_branch_from.result (λ k. KeepsBranch (IsBranchCauseBelow w.layout.slots c.args.branch.slot c.args.branch.span w.pages c.args.branch.page c.args.pointer.at c.args.pointer.word) k w e) c.in-Err.kept c.drop_branch_from.ensures.keeps c.in-Err.is in
    let far = on_then v w e on keeps.on in
    let late = branch_on c.args.branch.slot c.args.branch.page c.args.branch.count c.args.branch.span v e far can.branch in
    let place = word_here c.args.engine.now c.args.pass.now c.args.branch.slot (4 + c.args.index) c.word_at-at.result c.requires.of c.word_at-at.ensures in
    let there = place ∙ sym (ap (λ (y : View). page_at y.layout.slots c.args.branch.slot (4 + c.args.index)) far.shut) in
    let m = c.from.result in
    let same : m ≡ c.child_of-child.result = omega arith in
    let z = view c.reopen.new.pass in
    let opens = c.reopen.ensures.reopens ∙ ap (λ q. reopened (at_index c.args.branch.slot c.args.index) c.word_at-at.result q e) same in
    let last = reads_reopened c.args.branch.slot c.args.index c.word_at-at.result c.child_of-child.result e z (let most = can.branch.few in omega (arith, most, less)) there opens in
    tells_around c.args.pointer.at c.args.pointer.word c.in-Err.kept v w e z (rw1 c.args.pointer.at can.apart)
    (last c.args.pointer.at (λ i low is. can.apart i low (is ∙ ap (λ (y : View). page_at y.layout.slots c.args.branch.slot i) far.shut)))
    (err_is c.drop_branch_from.result (λ k. TellsPointer c.args.pointer.at c.args.pointer.word k w e) c.in-Err.kept c.drop_branch_from.ensures.tells c.in-Err.is)

pub returns-in-Err-clause-reads : goal.returns-in-Err-clause-reads
returns-in-Err-clause-reads t c =
    let v = view c.args.pass.now in
    let can = c.requires.drop in
    let less = index_less c.args.index c.args.branch.count can.index c.if-index-branch.false in
    let a = view c.child_of-child.new.pass in
    let found = c.child_of-child.ensures.child can.branch can.alike in
    let mine = branch_on c.args.branch.slot c.args.branch.page c.args.branch.count c.args.branch.span v a found.goes.on can.branch in
    let b = view c.part_of-part.new.pass in
    let gl = c.part_of-part.ensures.glances in
    let goes = goes_then v a b found.goes (goes_glanced a b gl) in
    let w = view c.shut_child.new.pass in
    let rw1 = reads_then c.args.branch.slot v b w (ap (λ (y : View). y.layout) goes.on.shut)
    (reads_then c.args.branch.slot v a b (ap (λ (y : View). y.layout) found.goes.on.shut) (reads_same c.args.branch.slot v a found.reads) (reads_glanced c.args.branch.slot a b gl)) c.shut_child.ensures.reads in
    let shuts = c.in_ok-shut_child.ensures.shuts in
    let on = on_then v b w goes.on shuts.on in
    let e = view c.drop_branch_from.new.pass in
    let keeps = err_is c.drop_branch_from.result (λ k. KeepsBranch (IsBranchCauseBelow w.layout.slots c.args.branch.slot c.args.branch.span w.pages c.args.branch.page c.args.pointer.at c.args.pointer.word) k w e) c.in-Err.kept c.drop_branch_from.ensures.keeps c.in-Err.is in
    let far = on_then v w e on keeps.on in
    let late = branch_on c.args.branch.slot c.args.branch.page c.args.branch.count c.args.branch.span v e far can.branch in
    let place = word_here c.args.engine.now c.args.pass.now c.args.branch.slot (4 + c.args.index) c.word_at-at.result c.requires.of c.word_at-at.ensures in
    let there = place ∙ sym (ap (λ (y : View). page_at y.layout.slots c.args.branch.slot (4 + c.args.index)) far.shut) in
    let m = c.from.result in
    let same : m ≡ c.child_of-child.result = omega arith in
    let z = view c.reopen.new.pass in
    let opens = c.reopen.ensures.reopens ∙ ap (λ q. reopened (at_index c.args.branch.slot c.args.index) c.word_at-at.result q e) same in
    let last = reads_reopened c.args.branch.slot c.args.index c.word_at-at.result c.child_of-child.result e z (let most = can.branch.few in omega (arith, most, less)) there opens in
    then_but c.args.branch.slot c.args.pointer.at v e z (ap (λ (y : View). y.layout) far.shut)
    (but_then c.args.branch.slot c.args.pointer.at v w e (ap (λ (y : View). y.layout) on.shut) rw1 c.drop_branch_from.ensures.reads) last

pub returns-clause-drops : goal.returns-clause-drops
returns-clause-drops t c =
    let v = view c.args.pass.now in
    let can = c.requires.drop in
    let less = index_less c.args.index c.args.branch.count can.index c.if-index-branch.false in
    let a = view c.child_of-child.new.pass in
    let found = c.child_of-child.ensures.child can.branch can.alike in
    let mine = branch_on c.args.branch.slot c.args.branch.page c.args.branch.count c.args.branch.span v a found.goes.on can.branch in
    let b = view c.part_of-part.new.pass in
    let gl = c.part_of-part.ensures.glances in
    let goes = goes_then v a b found.goes (goes_glanced a b gl) in
    let w = view c.shut_child.new.pass in
    let rw1 = reads_then c.args.branch.slot v b w (ap (λ (y : View). y.layout) goes.on.shut)
    (reads_then c.args.branch.slot v a b (ap (λ (y : View). y.layout) found.goes.on.shut) (reads_same c.args.branch.slot v a found.reads) (reads_glanced c.args.branch.slot a b gl)) c.shut_child.ensures.reads in
    let shuts = c.in_ok-shut_child.ensures.shuts in
    let on = on_then v b w goes.on shuts.on in
    dropped_branch_on c.args.branch.slot c.args.pointer.at c.args.branch.page v w (view c.drop_branch_from.new.pass) on (shuts.kept ∙ goes.kept)
    (seen_same v.reads w.reads c.args.pointer.at (rw1 c.args.pointer.at can.apart)) (ok_is c.drop_branch_from.result _ c.drop_branch_from.ensures.drops c.in_default.not-Err)

pub returns-clause-reads : goal.returns-clause-reads
returns-clause-reads t c =
    let v = view c.args.pass.now in
    let can = c.requires.drop in
    let less = index_less c.args.index c.args.branch.count can.index c.if-index-branch.false in
    let a = view c.child_of-child.new.pass in
    let found = c.child_of-child.ensures.child can.branch can.alike in
    let mine = branch_on c.args.branch.slot c.args.branch.page c.args.branch.count c.args.branch.span v a found.goes.on can.branch in
    let b = view c.part_of-part.new.pass in
    let gl = c.part_of-part.ensures.glances in
    let goes = goes_then v a b found.goes (goes_glanced a b gl) in
    let w = view c.shut_child.new.pass in
    let rw1 = reads_then c.args.branch.slot v b w (ap (λ (y : View). y.layout) goes.on.shut)
    (reads_then c.args.branch.slot v a b (ap (λ (y : View). y.layout) found.goes.on.shut) (reads_same c.args.branch.slot v a found.reads) (reads_glanced c.args.branch.slot a b gl)) c.shut_child.ensures.reads in
    let shuts = c.in_ok-shut_child.ensures.shuts in
    let on = on_then v b w goes.on shuts.on in
    but_then c.args.branch.slot c.args.pointer.at v w (view c.drop_branch_from.new.pass) (ap (λ (y : View). y.layout) on.shut) rw1 c.drop_branch_from.ensures.reads

pub shut_child-requires-clause-took : goal.shut_child-requires-clause-took
shut_child-requires-clause-took t c =
    let v = view c.args.pass.now in
    let can = c.requires.drop in
    let a = view c.child_of-child.new.pass in
    let found = c.child_of-child.ensures.child can.branch can.alike in
    let b = view c.part_of-part.new.pass in
    let goes = goes_then v a b found.goes (goes_glanced a b c.part_of-part.ensures.glances) in
    ap (λ (z : View). z.took) goes.on.shut ∙ can.took

pub shut_child-requires-clause-shut : goal.shut_child-requires-clause-shut
shut_child-requires-clause-shut t c =
    let v = view c.args.pass.now in
    let can = c.requires.drop in
    let a = view c.child_of-child.new.pass in
    let found = c.child_of-child.ensures.child can.branch can.alike in
    let b = view c.part_of-part.new.pass in
    let goes = goes_then v a b found.goes (goes_glanced a b c.part_of-part.ensures.glances) in
    λ z has. can.shut.mine z (subst (λ (l : List Shut). Contains l z) goes.shuts has)

pub returns-then-index-branch-clause-lefts : goal.returns-then-index-branch-clause-lefts
returns-then-index-branch-clause-lefts t c =
    let v = view c.args.pass.now in
    let w = view c.swing_away.new.pass in
    ok_map c.swing_away.result (HasDroppedBranch c.args.branch.slot c.args.pointer.at c.args.branch.page v w)
    (AreLeft None c.args.branch.slot c.args.branch.span c.args.branch.page c.args.branch.count c.args.index v w)
    (λ any. none_left None c.args.branch.slot c.args.branch.page c.args.branch.count c.args.index c.args.branch.span v w c.if-index-branch.true)
    c.swing_away.ensures.drops

pub returns-then-index-branch-clause-later : goal.returns-then-index-branch-clause-later
returns-then-index-branch-clause-later t c =
    let v = view c.args.pass.now in
    let w = view c.swing_away.new.pass in
    let can = c.requires.drop in
    err_map c.swing_away.result (λ k. k.word ≡ c.args.pointer.at)
    (λ k. AreLeftFor c.args.branch.slot c.args.branch.span c.args.branch.page c.args.branch.count c.args.index k v w)
    (λ k word. (
      none_left (Some (k.word, k.seen)) c.args.branch.slot c.args.branch.page c.args.branch.count c.args.index c.args.branch.span v w c.if-index-branch.true,
      behind_above c.args.branch.slot c.args.index c.args.branch.count c.args.pointer.at k v can.index can.branch.few can.apart word,
    ))
    c.swing_away.ensures.above

pub returns-then-index-branch-clause-first : goal.returns-then-index-branch-clause-first
returns-then-index-branch-clause-first t c =
    let v = view c.args.pass.now in
    let can = c.requires.drop in
    λ j less. c.swing_away.ensures.others (page_at v.layout.slots c.args.branch.slot (4 + j))
    (λ same. can.apart (4 + j) (let few = can.branch.few in let end = c.if-index-branch.true in omega (arith, less, few, end)) (sym same))

pub returns-in_err-shut_child-clause-later : goal.returns-in_err-shut_child-clause-later
returns-in_err-shut_child-clause-later t c =
    let v = view c.args.pass.now in
    let can = c.requires.drop in
    let less = index_less c.args.index c.args.branch.count can.index c.if-index-branch.false in
    let a = view c.child_of-child.new.pass in
    let found = c.child_of-child.ensures.child can.branch can.alike in
    let b = view c.part_of-part.new.pass in
    let gl = c.part_of-part.ensures.glances in
    let goes = goes_then v a b found.goes (goes_glanced a b gl) in
    let layout = ap (λ (y : View). y.layout) goes.on.shut in
    let reads = ap (λ (y : View). y.reads) gl.is ∙ found.reads in
    let w = view c.shut_child.new.pass in
    let k = c.in_err-shut_child.field-0.0 in
    let p = err_from_is_err_and c.from_residual.result c.from_residual.ensures.1 in
    let told : c.from_residual.result ≡ Err c.in_err-shut_child.field-0.0 = let a1 = p.1 in let b1 = p.2 in cc in
    let other = found_then c.args.branch.slot c.args.index k v b w layout reads c.in_err-shut_child.ensures.found in
    let both : AreLeftFor c.args.branch.slot c.args.branch.span c.args.branch.page c.args.branch.count c.args.index k v w = (
      found_left c.args.branch.slot c.args.branch.page c.args.branch.count c.args.index c.args.branch.span k v w other,
      behind_own c.args.branch.slot c.args.index k v other.word,
    ) in rw told both

pub returns-in_err-shut_child-clause-first : goal.returns-in_err-shut_child-clause-first
returns-in_err-shut_child-clause-first t c =
    let v = view c.args.pass.now in
    let can = c.requires.drop in
    let less = index_less c.args.index c.args.branch.count can.index c.if-index-branch.false in
    let a = view c.child_of-child.new.pass in
    let found = c.child_of-child.ensures.child can.branch can.alike in
    let b = view c.part_of-part.new.pass in
    let gl = c.part_of-part.ensures.glances in
    let goes = goes_then v a b found.goes (goes_glanced a b gl) in
    let layout = ap (λ (y : View). y.layout) goes.on.shut in
    let reads = ap (λ (y : View). y.reads) gl.is ∙ found.reads in
    let w = view c.shut_child.new.pass in
    let k = c.in_err-shut_child.field-0.0 in
    let p = err_from_is_err_and c.from_residual.result c.from_residual.ensures.1 in
    let told : c.from_residual.result ≡ Err c.in_err-shut_child.field-0.0 = let a1 = p.1 in let b1 = p.2 in cc in
    let other = found_then c.args.branch.slot c.args.index k v b w layout reads c.in_err-shut_child.ensures.found in
    first_kept c.args.branch.slot c.args.index k.seen v w other.reads

pub returns-in-Err-clause-later : goal.returns-in-Err-clause-later
returns-in-Err-clause-later t c =
    let v = view c.args.pass.now in
    let can = c.requires.drop in
    let less = index_less c.args.index c.args.branch.count can.index c.if-index-branch.false in
    let a = view c.child_of-child.new.pass in
    let found = c.child_of-child.ensures.child can.branch can.alike in
    let b = view c.part_of-part.new.pass in
    let gl = c.part_of-part.ensures.glances in
    let goes = goes_then v a b found.goes (goes_glanced a b gl) in
    let layout = ap (λ (y : View). y.layout) goes.on.shut in
    let reads = ap (λ (y : View). y.reads) gl.is ∙ found.reads in
    let w = view c.shut_child.new.pass in
    let shuts = c.in_ok-shut_child.ensures.shuts in
    let on = on_then v b w goes.on shuts.on in
    let layout_w = ap (λ (y : View). y.layout) on.shut in
    let left = left_then c.args.branch.slot c.args.index c.child_of-child.result (found.child).number v b w layout reads found.says c.in_ok-shut_child.ensures.left in
    let e = view c.drop_branch_from.new.pass in
    let k = c.in-Err.kept in
    let keeps = err_is c.drop_branch_from.result (λ x. KeepsBranch (IsBranchCauseBelow w.layout.slots c.args.branch.slot c.args.branch.span w.pages c.args.branch.page c.args.pointer.at c.args.pointer.word) x w e) k c.drop_branch_from.ensures.keeps c.in-Err.is in
    let rest = err_is c.drop_branch_from.result (λ x. AreLeftFor c.args.branch.slot c.args.branch.span c.args.branch.page c.args.branch.count (c.args.index + 1) x w e) k c.drop_branch_from.ensures.later c.in-Err.is in
    let far = on_then v w e on keeps.on in
    let layout_e = ap (λ (y : View). y.layout) far.shut in
    let place = word_here c.args.engine.now c.args.pass.now c.args.branch.slot (4 + c.args.index) c.word_at-at.result c.requires.of c.word_at-at.ensures in
    let there = place ∙ sym (ap (λ (y : View). page_at y.layout.slots c.args.branch.slot (4 + c.args.index)) far.shut) in
    let m = c.from.result in
    let same : m ≡ c.child_of-child.result = omega arith in
    let z = view c.reopen.new.pass in
    let both : AreLeftFor c.args.branch.slot c.args.branch.span c.args.branch.page c.args.branch.count c.args.index k v z = (
      open_next c.args.branch.slot c.args.branch.page c.args.branch.count c.args.index c.args.branch.span found.child v w layout_w (pages_on v w on) found.is.at
          left k e z layout_e c.drop_branch_from.ensures.first rest.1 rest.0
          (opened_reads c.args.branch.slot c.args.index c.word_at-at.result m (found.child).number e z there (same ∙ found.says) c.reopen.ensures.reopens),
      behind_fewer c.args.branch.slot c.args.index (c.args.index + 1) k v (omega arith)
          (behind_back c.args.branch.slot (c.args.index + 1) k v w layout_w rest.1),
    ) in both

pub returns-in-Err-clause-first : goal.returns-in-Err-clause-first
returns-in-Err-clause-first t c =
    let v = view c.args.pass.now in
    let can = c.requires.drop in
    let less = index_less c.args.index c.args.branch.count can.index c.if-index-branch.false in
    let a = view c.child_of-child.new.pass in
    let found = c.child_of-child.ensures.child can.branch can.alike in
    let b = view c.part_of-part.new.pass in
    let gl = c.part_of-part.ensures.glances in
    let goes = goes_then v a b found.goes (goes_glanced a b gl) in
    let layout = ap (λ (y : View). y.layout) goes.on.shut in
    let reads = ap (λ (y : View). y.reads) gl.is ∙ found.reads in
    let w = view c.shut_child.new.pass in
    let shuts = c.in_ok-shut_child.ensures.shuts in
    let on = on_then v b w goes.on shuts.on in
    let layout_w = ap (λ (y : View). y.layout) on.shut in
    let left = left_then c.args.branch.slot c.args.index c.child_of-child.result (found.child).number v b w layout reads found.says c.in_ok-shut_child.ensures.left in
    let e = view c.drop_branch_from.new.pass in
    let k = c.in-Err.kept in
    let keeps = err_is c.drop_branch_from.result (λ x. KeepsBranch (IsBranchCauseBelow w.layout.slots c.args.branch.slot c.args.branch.span w.pages c.args.branch.page c.args.pointer.at c.args.pointer.word) x w e) k c.drop_branch_from.ensures.keeps c.in-Err.is in
    let far = on_then v w e on keeps.on in
    let place = word_here c.args.engine.now c.args.pass.now c.args.branch.slot (4 + c.args.index) c.word_at-at.result c.requires.of c.word_at-at.ensures in
    let there = place ∙ sym (ap (λ (y : View). page_at y.layout.slots c.args.branch.slot (4 + c.args.index)) far.shut) in
    let m = c.from.result in
    let same : m ≡ c.child_of-child.result = omega arith in
    let z = view c.reopen.new.pass in
    let opens = opened_reads c.args.branch.slot c.args.index c.word_at-at.result m (found.child).number e z there (same ∙ found.says) c.reopen.ensures.reopens in
    first_then c.args.branch.slot c.args.index v e z (ap (λ (y : View). y.layout) far.shut)
    (first_then c.args.branch.slot c.args.index v w e layout_w (first_kept c.args.branch.slot c.args.index ((found.child).number + 2 ^ 60) v w left)
    (first_fewer c.args.branch.slot c.args.index (c.args.index + 1) w e (omega arith) c.drop_branch_from.ensures.first))
    (first_kept c.args.branch.slot c.args.index (found.child).number e z opens)

pub returns-clause-lefts : goal.returns-clause-lefts
returns-clause-lefts t c =
    let v = view c.args.pass.now in
    let can = c.requires.drop in
    let less = index_less c.args.index c.args.branch.count can.index c.if-index-branch.false in
    let a = view c.child_of-child.new.pass in
    let found = c.child_of-child.ensures.child can.branch can.alike in
    let b = view c.part_of-part.new.pass in
    let gl = c.part_of-part.ensures.glances in
    let goes = goes_then v a b found.goes (goes_glanced a b gl) in
    let layout = ap (λ (y : View). y.layout) goes.on.shut in
    let reads = ap (λ (y : View). y.reads) gl.is ∙ found.reads in
    let w = view c.shut_child.new.pass in
    let shuts = c.in_ok-shut_child.ensures.shuts in
    let on = on_then v b w goes.on shuts.on in
    let layout_w = ap (λ (y : View). y.layout) on.shut in
    let left = left_then c.args.branch.slot c.args.index c.child_of-child.result (found.child).number v b w layout reads found.says c.in_ok-shut_child.ensures.left in
    let e = view c.drop_branch_from.new.pass in
    shut_next c.args.branch.slot c.args.branch.page c.args.branch.count c.args.index c.args.branch.span found.child v w layout_w (pages_on v w on) found.is.at
    left e c.drop_branch_from.ensures.first
    (ok_is c.drop_branch_from.result _ c.drop_branch_from.ensures.lefts c.in_default.not-Err)

pub returns-clause-first : goal.returns-clause-first
returns-clause-first t c =
    let v = view c.args.pass.now in
    let can = c.requires.drop in
    let less = index_less c.args.index c.args.branch.count can.index c.if-index-branch.false in
    let a = view c.child_of-child.new.pass in
    let found = c.child_of-child.ensures.child can.branch can.alike in
    let b = view c.part_of-part.new.pass in
    let gl = c.part_of-part.ensures.glances in
    let goes = goes_then v a b found.goes (goes_glanced a b gl) in
    let layout = ap (λ (y : View). y.layout) goes.on.shut in
    let reads = ap (λ (y : View). y.reads) gl.is ∙ found.reads in
    let w = view c.shut_child.new.pass in
    let shuts = c.in_ok-shut_child.ensures.shuts in
    let on = on_then v b w goes.on shuts.on in
    let layout_w = ap (λ (y : View). y.layout) on.shut in
    let left = left_then c.args.branch.slot c.args.index c.child_of-child.result (found.child).number v b w layout reads found.says c.in_ok-shut_child.ensures.left in
    let e = view c.drop_branch_from.new.pass in
    first_then c.args.branch.slot c.args.index v w e layout_w (first_kept c.args.branch.slot c.args.index ((found.child).number + 2 ^ 60) v w left)
    (first_fewer c.args.branch.slot c.args.index (c.args.index + 1) w e (omega arith) c.drop_branch_from.ensures.first)
