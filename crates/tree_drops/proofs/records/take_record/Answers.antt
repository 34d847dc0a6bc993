use Rattle.std.specs.Prelude.{Err}
use Rattle.std.proofs.Common.{◌≡◌, ◌+◌, ◌*◌, ◌≤◌, refl, subst, sym, ap}
use Rattle.std.proofs.lemmas.Result.{err_from_is_err_and}
use Rattle.std.specs.List.{Contains}
use Rattle.lists.specs.Elements.{in_push_new}
use Rattle.commit_core.specs.CoreState.{can_begin}
use Rattle.dual_pointer.specs.Installs.{tree_records}
use Rattle.snapshot_store.specs.TreePages.{record_for}
use Rattle.engine_pages.specs.Layout.{page_at}
use Rattle.engine_pages.specs.Passes.{view}
use Rattle.engine_pages.specs.Words.{spot}
use Rattle.page_records.specs.Locks.{took_at}
use Rattle.page_drops.proofs.Entries.{reads_then}
use Rattle.tree_drops.specs.Leaves.{IsCauseAt, IsLike, IsRecordCause}
use Rattle.tree_drops.proofs.Causes.{record_open}
use Rattle.tree_drops.specs.Works.{KeepsIt}
use Rattle.tree_drops.proofs.Covers.{count_on, err_is, ok_is}
use Rattle.tree_drops.proofs.Drops.{known_open, looked_on, reads_reopened}
use Rattle.tree_drops.proofs.Swung.{can_open_kept, lock_more}
use Rattle.tree_drops.proofs.Works.{key_worked, layout_worked, only_self, opened_is, pages_worked, past_worked, tree_worked, works_locked}
use Rattle.tree_drops.proofs.Works.{works_then}
use Rattle.tree_drops.proofs.records.take_record.Goals as goal

pub returns-in_err-lock_record-clause-keeps : goal.returns-in_err-lock_record-clause-keeps
returns-in_err-lock_record-clause-keeps c =
    let p = err_from_is_err_and c.from_residual.result c.from_residual.ensures.1 in
    let told : c.from_residual.result ≡ Err c.in_err-lock_record.field-0.0 = let a = p.1 in let b = p.2 in cc in
    rw told c.in_err-lock_record.ensures.keeps

pub check_value-requires-clause-at : goal.check_value-requires-clause-at
check_value-requires-clause-at c =
    let v = view c.args.pass.now in
    let u = view c.lock_record.new.pass in
    let at = page_at v.layout.slots c.args.leaf.slot (17 + 3 * c.args.index) in
    let works = works_locked c.args.key (spot c.args.leaf.slot c.args.index) at c.args.word v u c.requires.at.keeper c.in_ok-lock_record.ensures.locks in
    let more = lock_more c.args.key (spot c.args.leaf.slot c.args.index) at c.args.word v v u c.requires.at.keeper (only_self v) c.in_ok-lock_record.ensures.locks in
    tree_worked c.args.leaf.slot c.args.leaf.page c.args.leaf.span v u works c.requires.at

pub check_value-requires-clause-count : goal.check_value-requires-clause-count
check_value-requires-clause-count c =
    let v = view c.args.pass.now in
    let u = view c.lock_record.new.pass in
    let at = page_at v.layout.slots c.args.leaf.slot (17 + 3 * c.args.index) in
    let works = works_locked c.args.key (spot c.args.leaf.slot c.args.index) at c.args.word v u c.requires.at.keeper c.in_ok-lock_record.ensures.locks in
    let more = lock_more c.args.key (spot c.args.leaf.slot c.args.index) at c.args.word v v u c.requires.at.keeper (only_self v) c.in_ok-lock_record.ensures.locks in
    count_on c.args.leaf.page c.args.leaf.records c.args.leaf.span v u works c.requires.count

pub check_value-requires-clause-key : goal.check_value-requires-clause-key
check_value-requires-clause-key c =
    let v = view c.args.pass.now in
    let u = view c.lock_record.new.pass in
    let at = page_at v.layout.slots c.args.leaf.slot (17 + 3 * c.args.index) in
    let works = works_locked c.args.key (spot c.args.leaf.slot c.args.index) at c.args.word v u c.requires.at.keeper c.in_ok-lock_record.ensures.locks in
    let more = lock_more c.args.key (spot c.args.leaf.slot c.args.index) at c.args.word v v u c.requires.at.keeper (only_self v) c.in_ok-lock_record.ensures.locks in
    key_worked c.args.leaf.slot c.args.index c.args.leaf.span c.args.key v u works c.requires.key

pub check_value-requires-clause-took : goal.check_value-requires-clause-took
check_value-requires-clause-took c =
    let v = view c.args.pass.now in
    let u = view c.lock_record.new.pass in
    let at = page_at v.layout.slots c.args.leaf.slot (17 + 3 * c.args.index) in
    let works = works_locked c.args.key (spot c.args.leaf.slot c.args.index) at c.args.word v u c.requires.at.keeper c.in_ok-lock_record.ensures.locks in
    let more = lock_more c.args.key (spot c.args.leaf.slot c.args.index) at c.args.word v v u c.requires.at.keeper (only_self v) c.in_ok-lock_record.ensures.locks in
    subst (λ l. Contains l (took_at c.args.key (spot c.args.leaf.slot c.args.index) c.args.word)) (sym more.took) (in_push_new (took_at c.args.key (spot c.args.leaf.slot c.args.index) c.args.word) v.took)

pub check_value-requires-clause-like : goal.check_value-requires-clause-like
check_value-requires-clause-like c =
    let v = view c.args.pass.now in
    let u = view c.lock_record.new.pass in
    let at = page_at v.layout.slots c.args.leaf.slot (17 + 3 * c.args.index) in
    let works = works_locked c.args.key (spot c.args.leaf.slot c.args.index) at c.args.word v u c.requires.at.keeper c.in_ok-lock_record.ensures.locks in
    let more = lock_more c.args.key (spot c.args.leaf.slot c.args.index) at c.args.word v v u c.requires.at.keeper (only_self v) c.in_ok-lock_record.ensures.locks in
    subst (λ ps. IsLike (record_for (tree_records ps c.args.leaf.page) c.args.key.key) c.args.leaf.epoch c.args.word) (sym (pages_worked v u works)) c.requires.like

pub check_value-requires-clause-past : goal.check_value-requires-clause-past
check_value-requires-clause-past c =
    let v = view c.args.pass.now in
    let u = view c.lock_record.new.pass in
    let at = page_at v.layout.slots c.args.leaf.slot (17 + 3 * c.args.index) in
    let works = works_locked c.args.key (spot c.args.leaf.slot c.args.index) at c.args.word v u c.requires.at.keeper c.in_ok-lock_record.ensures.locks in
    let more = lock_more c.args.key (spot c.args.leaf.slot c.args.index) at c.args.word v v u c.requires.at.keeper (only_self v) c.in_ok-lock_record.ensures.locks in
    subst (λ n. c.args.leaf.epoch ≤ n) (sym (past_worked v u works)) c.requires.past

pub open_record-requires-clause-at : goal.open_record-requires-clause-at
open_record-requires-clause-at c =
    let v = view c.args.pass.now in
    let u = view c.lock_record.new.pass in
    let at = page_at v.layout.slots c.args.leaf.slot (17 + 3 * c.args.index) in
    let works = works_locked c.args.key (spot c.args.leaf.slot c.args.index) at c.args.word v u c.requires.at.keeper c.in_ok-lock_record.ensures.locks in
    let more = lock_more c.args.key (spot c.args.leaf.slot c.args.index) at c.args.word v v u c.requires.at.keeper (only_self v) c.in_ok-lock_record.ensures.locks in
    let e = view c.check_value.new.pass in
    let keeps = err_is c.check_value.result (λ k. KeepsIt (IsCauseAt c.args.leaf.slot c.args.leaf.span c.args.leaf.page c.args.leaf.epoch u) k u e) c.in-Err.kept
    c.check_value.ensures.keeps c.in-Err.is in
    let all = works_then v u e works keeps.looks.works in
    let tree = tree_worked c.args.leaf.slot c.args.leaf.page c.args.leaf.span v e all c.requires.at in
    tree

pub open_record-requires-clause-key : goal.open_record-requires-clause-key
open_record-requires-clause-key c =
    let v = view c.args.pass.now in
    let u = view c.lock_record.new.pass in
    let at = page_at v.layout.slots c.args.leaf.slot (17 + 3 * c.args.index) in
    let works = works_locked c.args.key (spot c.args.leaf.slot c.args.index) at c.args.word v u c.requires.at.keeper c.in_ok-lock_record.ensures.locks in
    let more = lock_more c.args.key (spot c.args.leaf.slot c.args.index) at c.args.word v v u c.requires.at.keeper (only_self v) c.in_ok-lock_record.ensures.locks in
    let e = view c.check_value.new.pass in
    let keeps = err_is c.check_value.result (λ k. KeepsIt (IsCauseAt c.args.leaf.slot c.args.leaf.span c.args.leaf.page c.args.leaf.epoch u) k u e) c.in-Err.kept
    c.check_value.ensures.keeps c.in-Err.is in
    let all = works_then v u e works keeps.looks.works in
    let tree = tree_worked c.args.leaf.slot c.args.leaf.page c.args.leaf.span v e all c.requires.at in
    key_worked c.args.leaf.slot c.args.index c.args.leaf.span c.args.key v e all c.requires.key

pub open_record-requires-clause-can : goal.open_record-requires-clause-can
open_record-requires-clause-can c =
    let v = view c.args.pass.now in
    let u = view c.lock_record.new.pass in
    let at = page_at v.layout.slots c.args.leaf.slot (17 + 3 * c.args.index) in
    let works = works_locked c.args.key (spot c.args.leaf.slot c.args.index) at c.args.word v u c.requires.at.keeper c.in_ok-lock_record.ensures.locks in
    let more = lock_more c.args.key (spot c.args.leaf.slot c.args.index) at c.args.word v v u c.requires.at.keeper (only_self v) c.in_ok-lock_record.ensures.locks in
    let e = view c.check_value.new.pass in
    let keeps = err_is c.check_value.result (λ k. KeepsIt (IsCauseAt c.args.leaf.slot c.args.leaf.span c.args.leaf.page c.args.leaf.epoch u) k u e) c.in-Err.kept
    c.check_value.ensures.keeps c.in-Err.is in
    let all = works_then v u e works keeps.looks.works in
    let tree = tree_worked c.args.leaf.slot c.args.leaf.page c.args.leaf.span v e all c.requires.at in
    can_open_kept c.args.key (spot c.args.leaf.slot c.args.index) c.args.word v u e (ap can_begin tree.idle) more keeps.looks

pub returns-in-Err-clause-keeps : goal.returns-in-Err-clause-keeps
returns-in-Err-clause-keeps c =
    let v = view c.args.pass.now in
    let u = view c.lock_record.new.pass in
    let at = page_at v.layout.slots c.args.leaf.slot (17 + 3 * c.args.index) in
    let works = works_locked c.args.key (spot c.args.leaf.slot c.args.index) at c.args.word v u c.requires.at.keeper c.in_ok-lock_record.ensures.locks in
    let more = lock_more c.args.key (spot c.args.leaf.slot c.args.index) at c.args.word v v u c.requires.at.keeper (only_self v) c.in_ok-lock_record.ensures.locks in
    let e = view c.check_value.new.pass in
    let keeps = err_is c.check_value.result (λ k. KeepsIt (IsCauseAt c.args.leaf.slot c.args.leaf.span c.args.leaf.page c.args.leaf.epoch u) k u e) c.in-Err.kept
    c.check_value.ensures.keeps c.in-Err.is in
    let all = works_then v u e works keeps.looks.works in
    let tree = tree_worked c.args.leaf.slot c.args.leaf.page c.args.leaf.span v e all c.requires.at in
    let w = view c.open_record.new.pass in
    known_open c.args.leaf.slot c.args.leaf.page c.args.leaf.epoch (page_at e.layout.slots c.args.leaf.slot (17 + 3 * c.args.index)) c.args.word c.args.index c.args.leaf.span c.in-Err.kept c.args.key v u e w more c.requires.new keeps
    (opened_is c.args.key (page_at e.layout.slots c.args.leaf.slot (17 + 3 * c.args.index)) c.args.word e w tree.idle c.open_record.ensures.opens)

pub returns-in-Err-clause-reads : goal.returns-in-Err-clause-reads
returns-in-Err-clause-reads c =
    let v = view c.args.pass.now in
    let u = view c.lock_record.new.pass in
    let at = page_at v.layout.slots c.args.leaf.slot (17 + 3 * c.args.index) in
    let works = works_locked c.args.key (spot c.args.leaf.slot c.args.index) at c.args.word v u c.requires.at.keeper c.in_ok-lock_record.ensures.locks in
    let more = lock_more c.args.key (spot c.args.leaf.slot c.args.index) at c.args.word v v u c.requires.at.keeper (only_self v) c.in_ok-lock_record.ensures.locks in
    let e = view c.check_value.new.pass in
    let keeps = err_is c.check_value.result (λ k. KeepsIt (IsCauseAt c.args.leaf.slot c.args.leaf.span c.args.leaf.page c.args.leaf.epoch u) k u e) c.in-Err.kept
    c.check_value.ensures.keeps c.in-Err.is in
    let all = works_then v u e works keeps.looks.works in
    let tree = tree_worked c.args.leaf.slot c.args.leaf.page c.args.leaf.span v e all c.requires.at in
    let w = view c.open_record.new.pass in
    reads_then c.args.leaf.slot v e w (layout_worked v e all)
    (reads_then c.args.leaf.slot v u e (layout_worked v u works) c.lock_record.ensures.reads c.check_value.ensures.reads)
    (reads_reopened c.args.leaf.slot c.args.index (page_at e.layout.slots c.args.leaf.slot (17 + 3 * c.args.index)) c.args.word c.args.key e w c.requires.index refl
    (opened_is c.args.key (page_at e.layout.slots c.args.leaf.slot (17 + 3 * c.args.index)) c.args.word e w tree.idle c.open_record.ensures.opens))

pub returns-clause-takes : goal.returns-clause-takes
returns-clause-takes c =
    let v = view c.args.pass.now in
    let u = view c.lock_record.new.pass in
    let at = page_at v.layout.slots c.args.leaf.slot (17 + 3 * c.args.index) in
    let works = works_locked c.args.key (spot c.args.leaf.slot c.args.index) at c.args.word v u c.requires.at.keeper c.in_ok-lock_record.ensures.locks in
    let more = lock_more c.args.key (spot c.args.leaf.slot c.args.index) at c.args.word v v u c.requires.at.keeper (only_self v) c.in_ok-lock_record.ensures.locks in
    let e = view c.check_value.new.pass in record {
      more = looked_on c.args.key (spot c.args.leaf.slot c.args.index) c.args.word v u e more (ok_is c.check_value.result _ c.check_value.ensures.looks c.in_default.not-Err);
      locked = ok_is c.check_value.result _ c.check_value.ensures.locked c.in_default.not-Err;
    }

pub returns-clause-reads : goal.returns-clause-reads
returns-clause-reads c =
    let v = view c.args.pass.now in
    let u = view c.lock_record.new.pass in
    let at = page_at v.layout.slots c.args.leaf.slot (17 + 3 * c.args.index) in
    let works = works_locked c.args.key (spot c.args.leaf.slot c.args.index) at c.args.word v u c.requires.at.keeper c.in_ok-lock_record.ensures.locks in
    let more = lock_more c.args.key (spot c.args.leaf.slot c.args.index) at c.args.word v v u c.requires.at.keeper (only_self v) c.in_ok-lock_record.ensures.locks in
    reads_then c.args.leaf.slot v u (view c.check_value.new.pass) (layout_worked v u works) c.lock_record.ensures.reads c.check_value.ensures.reads

pub returns-in_err-lock_record-clause-causes : goal.returns-in_err-lock_record-clause-causes
returns-in_err-lock_record-clause-causes c =
    let p = err_from_is_err_and c.from_residual.result c.from_residual.ensures.1 in
    let told : c.from_residual.result ≡ Err c.in_err-lock_record.field-0.0 = let a = p.1 in let b = p.2 in cc in
    rw told c.in_err-lock_record.ensures.causes

pub returns-in-Err-clause-causes : goal.returns-in-Err-clause-causes
returns-in-Err-clause-causes c =
    let v = view c.args.pass.now in
    let u = view c.lock_record.new.pass in
    let t = c.args.leaf.slot in
    let at = page_at v.layout.slots t (17 + 3 * c.args.index) in
    let works = works_locked c.args.key (spot t c.args.index) at c.args.word v u c.requires.at.keeper c.in_ok-lock_record.ensures.locks in
    let more = lock_more c.args.key (spot t c.args.index) at c.args.word v v u c.requires.at.keeper (only_self v) c.in_ok-lock_record.ensures.locks in
    let e = view c.check_value.new.pass in
    let causes = err_is c.check_value.result (λ k. KeepsIt (IsRecordCause u.layout.slots t c.args.index c.args.key
    (record_for (tree_records u.pages c.args.leaf.page) c.args.key.key) c.args.leaf.epoch) k u e) c.in-Err.kept
    c.check_value.ensures.causes c.in-Err.is in
    let all = works_then v u e works causes.looks.works in
    let tree = tree_worked t c.args.leaf.page c.args.leaf.span v e all c.requires.at in
    let w = view c.open_record.new.pass in
    record_open t c.args.leaf.page c.args.leaf.epoch (page_at e.layout.slots t (17 + 3 * c.args.index)) c.args.word c.args.index c.in-Err.kept
    c.args.key v u e w more c.requires.new causes
    (opened_is c.args.key (page_at e.layout.slots t (17 + 3 * c.args.index)) c.args.word e w tree.idle c.open_record.ensures.opens)
