use Rattle.std.specs.Prelude.{Err}
use Rattle.std.proofs.Common.{◌≡◌, ℕ, inl, subst, sym, ap, ◌∙◌, arith}
use Rattle.std.proofs.lemmas.Result.{err_from_is_err_and}
use Rattle.std.specs.List.{Contains}
use Rattle.dual_pointer.specs.Installs.{tree_records}
use Rattle.engine_pages.specs.declared.layout.Layout.{Layout}
use Rattle.engine_pages.specs.declared.view.KeptWhy.TheVariants.{Changed}
use Rattle.engine_pages.specs.declared.view.View.{View}
use Rattle.engine_pages.specs.Layout.{page_at}
use Rattle.engine_pages.specs.Passes.{view}
use Rattle.engine_pages.specs.Slots.{other_heads}
use Rattle.tree_heads.specs.Headers.{count_of}
use Rattle.tree_heads.specs.Heads.{CanOpenHeader, head_opened}
use Rattle.page_drops.proofs.Entries.{reads_but, reads_more, reads_noted, reads_then, seen_same}
use Rattle.tree_drops.specs.Leaves.{IsCauseBelow}
use Rattle.tree_drops.specs.Works.{KeepsIt, TellsPointer}
use Rattle.tree_drops.proofs.Covers.{count_on, err_is, ok_is}
use Rattle.tree_drops.proofs.Drops.{below_known}
use Rattle.engine_pages.specs.Steps.{seen_at}
use Rattle.page_drops.proofs.Dues.{turned_from}
use Rattle.tree_drops.proofs.Dues.{none_taken, seen_head, seen_on}
use Rattle.tree_drops.proofs.Heads.{below_back, but_then, can_drop_from, can_open_head, head_changed, head_now, heads_head, keeps_head}
use Rattle.tree_drops.proofs.Heads.{not_head, reads_head, reads_opened_head, tells_around, tells_same, then_but, works_head}
use Rattle.tree_drops.proofs.Places.{word_here}
use Rattle.tree_drops.proofs.Swung.{dropped_on}
use Rattle.tree_drops.proofs.Works.{keeps_it, keys_worked, last_seen, layout_worked, only_then, pages_worked}
use Rattle.tree_drops.proofs.Works.{saw_read, tree_worked, works_then}
use Rattle.tree_drops.proofs.dropping.drop_leaf.Goals as goal

pub returns-in_err-cover-clause-keeps : goal.returns-in_err-cover-clause-keeps
returns-in_err-cover-clause-keeps c =
    let v = view c.args.pass.now in
    let can = c.requires.drop in
    let a = view c.compare_all.new.pass in
    let first = c.in_ok-compare_all.ensures.looks in
    let b = view c.cover.new.pass in
    let rb = reads_then c.args.leaf.slot v a b (layout_worked v a first.looks.works) c.compare_all.ensures.reads c.cover.ensures.reads in
    let p = err_from_is_err_and c.from_residual-in_err-cover.result c.from_residual-in_err-cover.ensures.1 in
    let told : c.from_residual-in_err-cover.result ≡ Err c.in_err-cover.field-0.0 = let a1 = p.1 in let b1 = p.2 in cc in
    rw told (below_known c.args.leaf.slot c.args.leaf.page c.args.leaf.epoch c.args.pointer.at c.args.pointer.word c.args.leaf.span c.in_err-cover.field-0.0 v a b first c.in_err-cover.ensures.keeps)

pub returns-in_err-cover-clause-tells : goal.returns-in_err-cover-clause-tells
returns-in_err-cover-clause-tells c =
    let v = view c.args.pass.now in
    let can = c.requires.drop in
    let a = view c.compare_all.new.pass in
    let first = c.in_ok-compare_all.ensures.looks in
    let b = view c.cover.new.pass in
    let rb = reads_then c.args.leaf.slot v a b (layout_worked v a first.looks.works) c.compare_all.ensures.reads c.cover.ensures.reads in
    let p = err_from_is_err_and c.from_residual-in_err-cover.result c.from_residual-in_err-cover.ensures.1 in
    let told : c.from_residual-in_err-cover.result ≡ Err c.in_err-cover.field-0.0 = let a1 = p.1 in let b1 = p.2 in cc in
    rw told (tells_same c.args.leaf.slot c.args.pointer.at c.args.pointer.word c.in_err-cover.field-0.0 v b rb can.apart)

pub returns-in_err-cover-clause-reads : goal.returns-in_err-cover-clause-reads
returns-in_err-cover-clause-reads c =
    let v = view c.args.pass.now in
    let can = c.requires.drop in
    let a = view c.compare_all.new.pass in
    let first = c.in_ok-compare_all.ensures.looks in
    let b = view c.cover.new.pass in
    let rb = reads_then c.args.leaf.slot v a b (layout_worked v a first.looks.works) c.compare_all.ensures.reads c.cover.ensures.reads in
    reads_but c.args.leaf.slot c.args.pointer.at v b rb

pub keep-changed-requires-clause-last : goal.keep-changed-requires-clause-last
keep-changed-requires-clause-last c =
    let v = view c.args.pass.now in
    let can = c.requires.drop in
    let a = view c.compare_all.new.pass in
    let first = c.in_ok-compare_all.ensures.looks in
    let b = view c.cover.new.pass in
    let rb = reads_then c.args.leaf.slot v a b (layout_worked v a first.looks.works) c.compare_all.ensures.reads c.cover.ensures.reads in
    let second = c.in_ok-cover.ensures.looks in
    let only = only_then v a b first second in
    let tree = tree_worked c.args.leaf.slot c.args.leaf.page c.args.leaf.span v b only.looks.works can.tree in
    let w = view c.lock_header-found.new.pass in
    let n = c.lock_header-found.result in
    let place = word_here c.args.engine.now c.args.pass.now c.args.leaf.slot 0 c.word_at-at.result c.requires.of c.word_at-at.ensures in
    let here = place ∙ ap (λ (y : Layout). page_at y.slots c.args.leaf.slot 0) (sym (layout_worked v b only.looks.works)) in
    let other = c.if-found-header.true in
    let isread = not_head c.args.leaf.slot c.word_at-at.result c.args.header n c.args.leaf.span b w other c.lock_header-found.ensures.locks in
    let saw = saw_read c.word_at-at.result n v b w only isread in
    last_seen v w c.word_at-at.result n (Changed c.args.header) saw

pub returns-then-found-header-clause-keeps : goal.returns-then-found-header-clause-keeps
returns-then-found-header-clause-keeps c =
    let v = view c.args.pass.now in
    let can = c.requires.drop in
    let a = view c.compare_all.new.pass in
    let first = c.in_ok-compare_all.ensures.looks in
    let b = view c.cover.new.pass in
    let rb = reads_then c.args.leaf.slot v a b (layout_worked v a first.looks.works) c.compare_all.ensures.reads c.cover.ensures.reads in
    let second = c.in_ok-cover.ensures.looks in
    let only = only_then v a b first second in
    let tree = tree_worked c.args.leaf.slot c.args.leaf.page c.args.leaf.span v b only.looks.works can.tree in
    let w = view c.lock_header-found.new.pass in
    let n = c.lock_header-found.result in
    let place = word_here c.args.engine.now c.args.pass.now c.args.leaf.slot 0 c.word_at-at.result c.requires.of c.word_at-at.ensures in
    let here = place ∙ ap (λ (y : Layout). page_at y.slots c.args.leaf.slot 0) (sym (layout_worked v b only.looks.works)) in
    let other = c.if-found-header.true in
    let isread = not_head c.args.leaf.slot c.word_at-at.result c.args.header n c.args.leaf.span b w other c.lock_header-found.ensures.locks in
    let saw = saw_read c.word_at-at.result n v b w only isread in
    let z = view c.keep-changed.new.pass in
    keeps_it (IsCauseBelow c.args.leaf.slot c.args.leaf.span c.args.leaf.page c.args.leaf.epoch c.args.pointer.at c.args.pointer.word v) v w z c.word_at-at.result n (Changed c.args.header) c.keep-changed.result c.keep-changed.ensures.is saw c.keep-changed.ensures.notes
    (inl (head_changed c.args.leaf.slot c.args.leaf.page c.args.leaf.epoch c.word_at-at.result n c.args.header c.args.leaf.span v place other))

pub returns-then-found-header-clause-tells : goal.returns-then-found-header-clause-tells
returns-then-found-header-clause-tells c =
    let v = view c.args.pass.now in
    let can = c.requires.drop in
    let a = view c.compare_all.new.pass in
    let first = c.in_ok-compare_all.ensures.looks in
    let b = view c.cover.new.pass in
    let rb = reads_then c.args.leaf.slot v a b (layout_worked v a first.looks.works) c.compare_all.ensures.reads c.cover.ensures.reads in
    let second = c.in_ok-cover.ensures.looks in
    let only = only_then v a b first second in
    let tree = tree_worked c.args.leaf.slot c.args.leaf.page c.args.leaf.span v b only.looks.works can.tree in
    let w = view c.lock_header-found.new.pass in
    let n = c.lock_header-found.result in
    let place = word_here c.args.engine.now c.args.pass.now c.args.leaf.slot 0 c.word_at-at.result c.requires.of c.word_at-at.ensures in
    let here = place ∙ ap (λ (y : Layout). page_at y.slots c.args.leaf.slot 0) (sym (layout_worked v b only.looks.works)) in
    let other = c.if-found-header.true in
    let isread = not_head c.args.leaf.slot c.word_at-at.result c.args.header n c.args.leaf.span b w other c.lock_header-found.ensures.locks in
    let saw = saw_read c.word_at-at.result n v b w only isread in
    let z = view c.keep-changed.new.pass in
    tells_same c.args.leaf.slot c.args.pointer.at c.args.pointer.word c.keep-changed.result v z
    (reads_noted c.args.leaf.slot c.keep-changed.result v w z (reads_more c.args.leaf.slot 0 c.word_at-at.result n v b w (omega arith) place rb (ap (λ (y : View). y.reads) isread)) c.keep-changed.ensures.notes) can.apart

pub returns-then-found-header-clause-reads : goal.returns-then-found-header-clause-reads
returns-then-found-header-clause-reads c =
    let v = view c.args.pass.now in
    let can = c.requires.drop in
    let a = view c.compare_all.new.pass in
    let first = c.in_ok-compare_all.ensures.looks in
    let b = view c.cover.new.pass in
    let rb = reads_then c.args.leaf.slot v a b (layout_worked v a first.looks.works) c.compare_all.ensures.reads c.cover.ensures.reads in
    let second = c.in_ok-cover.ensures.looks in
    let only = only_then v a b first second in
    let tree = tree_worked c.args.leaf.slot c.args.leaf.page c.args.leaf.span v b only.looks.works can.tree in
    let w = view c.lock_header-found.new.pass in
    let n = c.lock_header-found.result in
    let place = word_here c.args.engine.now c.args.pass.now c.args.leaf.slot 0 c.word_at-at.result c.requires.of c.word_at-at.ensures in
    let here = place ∙ ap (λ (y : Layout). page_at y.slots c.args.leaf.slot 0) (sym (layout_worked v b only.looks.works)) in
    let other = c.if-found-header.true in
    let isread = not_head c.args.leaf.slot c.word_at-at.result c.args.header n c.args.leaf.span b w other c.lock_header-found.ensures.locks in
    let saw = saw_read c.word_at-at.result n v b w only isread in
    let z = view c.keep-changed.new.pass in
    reads_but c.args.leaf.slot c.args.pointer.at v z
    (reads_noted c.args.leaf.slot c.keep-changed.result v w z (reads_more c.args.leaf.slot 0 c.word_at-at.result n v b w (omega arith) place rb (ap (λ (y : View). y.reads) isread)) c.keep-changed.ensures.notes)

pub drop_from-requires-clause-drop : goal.drop_from-requires-clause-drop
drop_from-requires-clause-drop c =
    let v = view c.args.pass.now in
    let can = c.requires.drop in
    let a = view c.compare_all.new.pass in
    let first = c.in_ok-compare_all.ensures.looks in
    let b = view c.cover.new.pass in
    let rb = reads_then c.args.leaf.slot v a b (layout_worked v a first.looks.works) c.compare_all.ensures.reads c.cover.ensures.reads in
    let second = c.in_ok-cover.ensures.looks in
    let only = only_then v a b first second in
    let tree = tree_worked c.args.leaf.slot c.args.leaf.page c.args.leaf.span v b only.looks.works can.tree in
    let w = view c.lock_header-found.new.pass in
    let n = c.lock_header-found.result in
    let place = word_here c.args.engine.now c.args.pass.now c.args.leaf.slot 0 c.word_at-at.result c.requires.of c.word_at-at.ensures in
    let here = place ∙ ap (λ (y : Layout). page_at y.slots c.args.leaf.slot 0) (sym (layout_worked v b only.looks.works)) in
    let same = c.if-found-header.false in
    let head = head_now c.args.leaf.slot c.word_at-at.result c.args.header n c.args.leaf.span b w same c.lock_header-found.ensures.locks in
    let works = works_then v b w only.looks.works (works_head c.args.leaf.slot c.word_at-at.result n c.args.leaf.span b w head) in
    let rw1 = reads_then c.args.leaf.slot v b w (layout_worked v b only.looks.works) rb (reads_head c.args.leaf.slot c.word_at-at.result n c.args.leaf.span b w here head) in
    let kn = keys_worked c.args.leaf.slot c.args.leaf.count c.args.leaf.span v b only.looks.works c.requires.known in
    let known = keys_worked c.args.leaf.slot c.args.leaf.count c.args.leaf.span v a first.looks.works c.requires.known in
    can_drop_from c.args.pointer.place c.args.leaf.span c.args.pointer.at c.args.leaf.slot c.args.leaf.page c.args.pointer.word c.args.leaf.epoch c.args.leaf.count c.args.leaf.records c.word_at-at.result n v b w can only rb kn
    (count_on c.args.leaf.page c.args.leaf.records c.args.leaf.span v b only.looks.works c.requires.count)
    (λ r has. c.in_ok-cover.ensures.covers known r (subst (λ ps. Contains (tree_records ps c.args.leaf.page) r) (pages_worked a b second.looks.works) has))
    here head (ap count_of same ∙ c.requires.counted)

pub open_header-requires-clause-can : goal.open_header-requires-clause-can
open_header-requires-clause-can c =
    let v = view c.args.pass.now in
    let can = c.requires.drop in
    let a = view c.compare_all.new.pass in
    let first = c.in_ok-compare_all.ensures.looks in
    let b = view c.cover.new.pass in
    let rb = reads_then c.args.leaf.slot v a b (layout_worked v a first.looks.works) c.compare_all.ensures.reads c.cover.ensures.reads in
    let second = c.in_ok-cover.ensures.looks in
    let only = only_then v a b first second in
    let tree = tree_worked c.args.leaf.slot c.args.leaf.page c.args.leaf.span v b only.looks.works can.tree in
    let w = view c.lock_header-found.new.pass in
    let n = c.lock_header-found.result in
    let place = word_here c.args.engine.now c.args.pass.now c.args.leaf.slot 0 c.word_at-at.result c.requires.of c.word_at-at.ensures in
    let here = place ∙ ap (λ (y : Layout). page_at y.slots c.args.leaf.slot 0) (sym (layout_worked v b only.looks.works)) in
    let same = c.if-found-header.false in
    let head = head_now c.args.leaf.slot c.word_at-at.result c.args.header n c.args.leaf.span b w same c.lock_header-found.ensures.locks in
    let works = works_then v b w only.looks.works (works_head c.args.leaf.slot c.word_at-at.result n c.args.leaf.span b w head) in
    let rw1 = reads_then c.args.leaf.slot v b w (layout_worked v b only.looks.works) rb (reads_head c.args.leaf.slot c.word_at-at.result n c.args.leaf.span b w here head) in
    let e = view c.drop_from.new.pass in
    let keeps = err_is c.drop_from.result (λ k. KeepsIt (IsCauseBelow c.args.leaf.slot c.args.leaf.span c.args.leaf.page c.args.leaf.epoch c.args.pointer.at c.args.pointer.word w) k w e) c.in-Err.kept c.drop_from.ensures.keeps c.in-Err.is in
    let all = works_then v w e works keeps.looks.works in
    let late = tree_worked c.args.leaf.slot c.args.leaf.page c.args.leaf.span v e all can.tree in
    let there = place ∙ ap (λ (y : Layout). page_at y.slots c.args.leaf.slot 0) (sym (layout_worked v e all)) in
    subst (λ m. CanOpenHeader e c.args.leaf.slot c.args.leaf.span m) same
    (can_open_head c.args.leaf.slot c.args.leaf.page c.word_at-at.result n c.args.leaf.span v b w e tree head keeps.looks)

pub returns-in-Err-clause-keeps : goal.returns-in-Err-clause-keeps
returns-in-Err-clause-keeps c =
    let v = view c.args.pass.now in
    let can = c.requires.drop in
    let a = view c.compare_all.new.pass in
    let first = c.in_ok-compare_all.ensures.looks in
    let b = view c.cover.new.pass in
    let rb = reads_then c.args.leaf.slot v a b (layout_worked v a first.looks.works) c.compare_all.ensures.reads c.cover.ensures.reads in
    let second = c.in_ok-cover.ensures.looks in
    let only = only_then v a b first second in
    let tree = tree_worked c.args.leaf.slot c.args.leaf.page c.args.leaf.span v b only.looks.works can.tree in
    let w = view c.lock_header-found.new.pass in
    let n = c.lock_header-found.result in
    let place = word_here c.args.engine.now c.args.pass.now c.args.leaf.slot 0 c.word_at-at.result c.requires.of c.word_at-at.ensures in
    let here = place ∙ ap (λ (y : Layout). page_at y.slots c.args.leaf.slot 0) (sym (layout_worked v b only.looks.works)) in
    let same = c.if-found-header.false in
    let head = head_now c.args.leaf.slot c.word_at-at.result c.args.header n c.args.leaf.span b w same c.lock_header-found.ensures.locks in
    let works = works_then v b w only.looks.works (works_head c.args.leaf.slot c.word_at-at.result n c.args.leaf.span b w head) in
    let rw1 = reads_then c.args.leaf.slot v b w (layout_worked v b only.looks.works) rb (reads_head c.args.leaf.slot c.word_at-at.result n c.args.leaf.span b w here head) in
    let e = view c.drop_from.new.pass in
    let keeps = err_is c.drop_from.result (λ k. KeepsIt (IsCauseBelow c.args.leaf.slot c.args.leaf.span c.args.leaf.page c.args.leaf.epoch c.args.pointer.at c.args.pointer.word w) k w e) c.in-Err.kept c.drop_from.ensures.keeps c.in-Err.is in
    let all = works_then v w e works keeps.looks.works in
    let late = tree_worked c.args.leaf.slot c.args.leaf.page c.args.leaf.span v e all can.tree in
    let there = place ∙ ap (λ (y : Layout). page_at y.slots c.args.leaf.slot 0) (sym (layout_worked v e all)) in
    let z = view c.open_header.new.pass in
    let opens = c.open_header.ensures.opens ∙ ap (λ m. head_opened c.args.leaf.slot c.word_at-at.result m e) (sym same) in
    let last = reads_opened_head c.args.leaf.slot c.word_at-at.result n e z there opens in
    keeps_head (IsCauseBelow c.args.leaf.slot c.args.leaf.span c.args.leaf.page c.args.leaf.epoch c.args.pointer.at c.args.pointer.word w) (IsCauseBelow c.args.leaf.slot c.args.leaf.span c.args.leaf.page c.args.leaf.epoch c.args.pointer.at c.args.pointer.word v) c.in-Err.kept c.args.leaf.slot c.word_at-at.result n c.args.leaf.span v b w e z only can.heads head keeps opens
    (below_back c.args.leaf.slot c.args.leaf.page c.args.leaf.epoch c.args.pointer.at c.args.pointer.word c.args.leaf.span v w works (c.in-Err.kept).why (c.in-Err.kept).word (c.in-Err.kept).seen)

pub returns-in-Err-clause-tells : goal.returns-in-Err-clause-tells
returns-in-Err-clause-tells c =
    let v = view c.args.pass.now in
    let can = c.requires.drop in
    let a = view c.compare_all.new.pass in
    let first = c.in_ok-compare_all.ensures.looks in
    let b = view c.cover.new.pass in
    let rb = reads_then c.args.leaf.slot v a b (layout_worked v a first.looks.works) c.compare_all.ensures.reads c.cover.ensures.reads in
    let second = c.in_ok-cover.ensures.looks in
    let only = only_then v a b first second in
    let tree = tree_worked c.args.leaf.slot c.args.leaf.page c.args.leaf.span v b only.looks.works can.tree in
    let w = view c.lock_header-found.new.pass in
    let n = c.lock_header-found.result in
    let place = word_here c.args.engine.now c.args.pass.now c.args.leaf.slot 0 c.word_at-at.result c.requires.of c.word_at-at.ensures in
    let here = place ∙ ap (λ (y : Layout). page_at y.slots c.args.leaf.slot 0) (sym (layout_worked v b only.looks.works)) in
    let same = c.if-found-header.false in
    let head = head_now c.args.leaf.slot c.word_at-at.result c.args.header n c.args.leaf.span b w same c.lock_header-found.ensures.locks in
    let works = works_then v b w only.looks.works (works_head c.args.leaf.slot c.word_at-at.result n c.args.leaf.span b w head) in
    let rw1 = reads_then c.args.leaf.slot v b w (layout_worked v b only.looks.works) rb (reads_head c.args.leaf.slot c.word_at-at.result n c.args.leaf.span b w here head) in
    let e = view c.drop_from.new.pass in
    let keeps = err_is c.drop_from.result (λ k. KeepsIt (IsCauseBelow c.args.leaf.slot c.args.leaf.span c.args.leaf.page c.args.leaf.epoch c.args.pointer.at c.args.pointer.word w) k w e) c.in-Err.kept c.drop_from.ensures.keeps c.in-Err.is in
    let all = works_then v w e works keeps.looks.works in
    let late = tree_worked c.args.leaf.slot c.args.leaf.page c.args.leaf.span v e all can.tree in
    let there = place ∙ ap (λ (y : Layout). page_at y.slots c.args.leaf.slot 0) (sym (layout_worked v e all)) in
    let z = view c.open_header.new.pass in
    let opens = c.open_header.ensures.opens ∙ ap (λ m. head_opened c.args.leaf.slot c.word_at-at.result m e) (sym same) in
    let last = reads_opened_head c.args.leaf.slot c.word_at-at.result n e z there opens in
    tells_around c.args.pointer.at c.args.pointer.word c.in-Err.kept v w e z (rw1 c.args.pointer.at can.apart)
    (last c.args.pointer.at (λ i less is. can.apart i less (is ∙ ap (λ (y : View). page_at y.layout.slots c.args.leaf.slot i) all.worked)))
    (err_is c.drop_from.result (λ k. TellsPointer c.args.pointer.at c.args.pointer.word k w e) c.in-Err.kept c.drop_from.ensures.tells c.in-Err.is)

pub returns-in-Err-clause-reads : goal.returns-in-Err-clause-reads
returns-in-Err-clause-reads c =
    let v = view c.args.pass.now in
    let can = c.requires.drop in
    let a = view c.compare_all.new.pass in
    let first = c.in_ok-compare_all.ensures.looks in
    let b = view c.cover.new.pass in
    let rb = reads_then c.args.leaf.slot v a b (layout_worked v a first.looks.works) c.compare_all.ensures.reads c.cover.ensures.reads in
    let second = c.in_ok-cover.ensures.looks in
    let only = only_then v a b first second in
    let tree = tree_worked c.args.leaf.slot c.args.leaf.page c.args.leaf.span v b only.looks.works can.tree in
    let w = view c.lock_header-found.new.pass in
    let n = c.lock_header-found.result in
    let place = word_here c.args.engine.now c.args.pass.now c.args.leaf.slot 0 c.word_at-at.result c.requires.of c.word_at-at.ensures in
    let here = place ∙ ap (λ (y : Layout). page_at y.slots c.args.leaf.slot 0) (sym (layout_worked v b only.looks.works)) in
    let same = c.if-found-header.false in
    let head = head_now c.args.leaf.slot c.word_at-at.result c.args.header n c.args.leaf.span b w same c.lock_header-found.ensures.locks in
    let works = works_then v b w only.looks.works (works_head c.args.leaf.slot c.word_at-at.result n c.args.leaf.span b w head) in
    let rw1 = reads_then c.args.leaf.slot v b w (layout_worked v b only.looks.works) rb (reads_head c.args.leaf.slot c.word_at-at.result n c.args.leaf.span b w here head) in
    let e = view c.drop_from.new.pass in
    let keeps = err_is c.drop_from.result (λ k. KeepsIt (IsCauseBelow c.args.leaf.slot c.args.leaf.span c.args.leaf.page c.args.leaf.epoch c.args.pointer.at c.args.pointer.word w) k w e) c.in-Err.kept c.drop_from.ensures.keeps c.in-Err.is in
    let all = works_then v w e works keeps.looks.works in
    let late = tree_worked c.args.leaf.slot c.args.leaf.page c.args.leaf.span v e all can.tree in
    let there = place ∙ ap (λ (y : Layout). page_at y.slots c.args.leaf.slot 0) (sym (layout_worked v e all)) in
    let z = view c.open_header.new.pass in
    let opens = c.open_header.ensures.opens ∙ ap (λ m. head_opened c.args.leaf.slot c.word_at-at.result m e) (sym same) in
    let last = reads_opened_head c.args.leaf.slot c.word_at-at.result n e z there opens in
    then_but c.args.leaf.slot c.args.pointer.at v e z (layout_worked v e all)
    (but_then c.args.leaf.slot c.args.pointer.at v w e (layout_worked v w works) rw1 c.drop_from.ensures.reads) last

pub returns-clause-drops : goal.returns-clause-drops
returns-clause-drops c =
    let v = view c.args.pass.now in
    let can = c.requires.drop in
    let a = view c.compare_all.new.pass in
    let first = c.in_ok-compare_all.ensures.looks in
    let b = view c.cover.new.pass in
    let rb = reads_then c.args.leaf.slot v a b (layout_worked v a first.looks.works) c.compare_all.ensures.reads c.cover.ensures.reads in
    let second = c.in_ok-cover.ensures.looks in
    let only = only_then v a b first second in
    let tree = tree_worked c.args.leaf.slot c.args.leaf.page c.args.leaf.span v b only.looks.works can.tree in
    let w = view c.lock_header-found.new.pass in
    let n = c.lock_header-found.result in
    let place = word_here c.args.engine.now c.args.pass.now c.args.leaf.slot 0 c.word_at-at.result c.requires.of c.word_at-at.ensures in
    let here = place ∙ ap (λ (y : Layout). page_at y.slots c.args.leaf.slot 0) (sym (layout_worked v b only.looks.works)) in
    let same = c.if-found-header.false in
    let head = head_now c.args.leaf.slot c.word_at-at.result c.args.header n c.args.leaf.span b w same c.lock_header-found.ensures.locks in
    let works = works_then v b w only.looks.works (works_head c.args.leaf.slot c.word_at-at.result n c.args.leaf.span b w head) in
    let rw1 = reads_then c.args.leaf.slot v b w (layout_worked v b only.looks.works) rb (reads_head c.args.leaf.slot c.word_at-at.result n c.args.leaf.span b w here head) in
    dropped_on c.args.leaf.slot c.args.pointer.at c.args.leaf.page v w (view c.drop_from.new.pass) works
    (heads_head c.args.leaf.slot c.word_at-at.result n c.args.leaf.span b w (only.looks.heads ∙ can.heads) head ∙ sym (ap (λ hs. other_heads c.args.leaf.slot hs) can.heads))
    (ap (λ (y : View). y.kept) head.is ∙ only.kept) (seen_same v.reads w.reads c.args.pointer.at (rw1 c.args.pointer.at can.apart))
    (ok_is c.drop_from.result _ c.drop_from.ensures.drops c.in_default.not-Err)

pub returns-clause-reads : goal.returns-clause-reads
returns-clause-reads c =
    let v = view c.args.pass.now in
    let can = c.requires.drop in
    let a = view c.compare_all.new.pass in
    let first = c.in_ok-compare_all.ensures.looks in
    let b = view c.cover.new.pass in
    let rb = reads_then c.args.leaf.slot v a b (layout_worked v a first.looks.works) c.compare_all.ensures.reads c.cover.ensures.reads in
    let second = c.in_ok-cover.ensures.looks in
    let only = only_then v a b first second in
    let tree = tree_worked c.args.leaf.slot c.args.leaf.page c.args.leaf.span v b only.looks.works can.tree in
    let w = view c.lock_header-found.new.pass in
    let n = c.lock_header-found.result in
    let place = word_here c.args.engine.now c.args.pass.now c.args.leaf.slot 0 c.word_at-at.result c.requires.of c.word_at-at.ensures in
    let here = place ∙ ap (λ (y : Layout). page_at y.slots c.args.leaf.slot 0) (sym (layout_worked v b only.looks.works)) in
    let same = c.if-found-header.false in
    let head = head_now c.args.leaf.slot c.word_at-at.result c.args.header n c.args.leaf.span b w same c.lock_header-found.ensures.locks in
    let works = works_then v b w only.looks.works (works_head c.args.leaf.slot c.word_at-at.result n c.args.leaf.span b w head) in
    let rw1 = reads_then c.args.leaf.slot v b w (layout_worked v b only.looks.works) rb (reads_head c.args.leaf.slot c.word_at-at.result n c.args.leaf.span b w here head) in
    but_then c.args.leaf.slot c.args.pointer.at v w (view c.drop_from.new.pass) (layout_worked v w works) rw1 c.drop_from.ensures.reads

pub compare_all-requires-clause-own : goal.compare_all-requires-clause-own
compare_all-requires-clause-own c =
    λ i few. none_taken c.args.leaf.slot i (view c.args.pass.now) c.requires.drop.took c.requires.drop.shuts c.requires.whole

pub cover-requires-clause-whole : goal.cover-requires-clause-whole
cover-requires-clause-whole c =
    let v = view c.args.pass.now in
    let a = view c.compare_all.new.pass in
    let first = c.in_ok-compare_all.ensures.looks in
    let low = c.requires.open in (
      c.args.header,
      seen_head c.args.leaf.slot c.args.header v a (layout_worked v a first.looks.works) c.in_ok-compare_all.ensures.head c.requires.met,
      omega (arith, low),
      c.requires.counted,
    )

pub keep-changed-requires-clause-due : goal.keep-changed-requires-clause-due
keep-changed-requires-clause-due c =
    let v = view c.args.pass.now in
    let a = view c.compare_all.new.pass in
    let first = c.in_ok-compare_all.ensures.looks in
    let b = view c.cover.new.pass in
    let second = c.in_ok-cover.ensures.looks in
    let only = only_then v a b first second in
    let w = view c.lock_header-found.new.pass in
    let n = c.lock_header-found.result in
    let place = word_here c.args.engine.now c.args.pass.now c.args.leaf.slot 0 c.word_at-at.result c.requires.of c.word_at-at.ensures in
    let here = place ∙ ap (λ (y : Layout). page_at y.slots c.args.leaf.slot 0) (sym (layout_worked v b only.looks.works)) in
    let other = c.if-found-header.true in
    let met = seen_on c.args.leaf.slot 0 c.args.header a b (layout_worked a b second.looks.works) c.in_ok-cover.ensures.same
    (seen_head c.args.leaf.slot c.args.header v a (layout_worked v a first.looks.works) c.in_ok-compare_all.ensures.head c.requires.met) in
    turned_from c.word_at-at.result c.args.header n b w other
    (not_head c.args.leaf.slot c.word_at-at.result c.args.header n c.args.leaf.span b w other c.lock_header-found.ensures.locks)
    (ap (λ (p : ℕ). seen_at b.reads p) here ∙ met)
