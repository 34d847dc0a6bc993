use Rattle.std.proofs.Common.{List, sym, ap, ◌∙◌, subst}
use Rattle.engine_pages.specs.Passes.{view}
use Rattle.chain_steps.specs.declared.halves.Half.{Half}
use Rattle.chain_steps.specs.Swings.{slots_of}
use Rattle.tree_drops.specs.Releases.{left_all, retired_all, CanLeaveAll, CanRetireAll}
use Rattle.tree_drops.specs.Taking.{keys_in}
use Rattle.tree_drops.proofs.ChainTold.{drop_active, drop_ended, drop_first, drop_leave, drop_may, drop_retire, drop_role_then, keep_ended}
use Rattle.tree_drops.proofs.ChainTold.{keep_first, keep_leave}
use Rattle.tree_drops.proofs.HalfNotes.{halves_held}
use Rattle.tree_drops.proofs.chain_visits.take_chain.Goals as goal

pub retire_from-requires-clause-may : goal.retire_from-requires-clause-may
retire_from-requires-clause-may c =
    subst (λ (hs : List Half). CanRetireAll (slots_of hs) (view c.drop_chain-found.new.pass)) (sym
    c.as_slice.ensures.value) (drop_retire c.args.root c.args.header (view c.args.pass.now) c.requires.work
    c.drop_chain-found.new.halves.items tt (view c.drop_chain-found.new.pass) c.in-Ok.ensures.works)

pub retire-requires-clause-pass : goal.retire-requires-clause-pass
retire-requires-clause-pass c =
    drop_active c.args.root c.args.header (view c.args.pass.now) c.requires.work
    c.drop_chain-found.new.halves.items tt (view c.drop_chain-found.new.pass) c.in-Ok.ensures.works (view
    c.retire_from.new.pass) (c.retire_from.ensures.retires ∙ ap (λ (hs : List Half). retired_all (slots_of hs)
    (view c.drop_chain-found.new.pass)) c.as_slice.ensures.value)

pub retire-requires-clause-may : goal.retire-requires-clause-may
retire-requires-clause-may c =
    drop_may c.args.root c.args.header (view c.args.pass.now) c.requires.work c.drop_chain-found.new.halves.items
    tt (view c.drop_chain-found.new.pass) c.in-Ok.ensures.works (view c.retire_from.new.pass)
    (c.retire_from.ensures.retires ∙ ap (λ (hs : List Half). retired_all (slots_of hs) (view
    c.drop_chain-found.new.pass)) c.as_slice.ensures.value)

pub leave_from-requires-clause-keeper : goal.leave_from-requires-clause-keeper
leave_from-requires-clause-keeper c =
    drop_role_then c.args.root c.args.header (view c.args.pass.now) c.requires.work
    c.drop_chain-found.new.halves.items tt (view c.drop_chain-found.new.pass) c.in-Ok.ensures.works (view
    c.retire_from.new.pass) (c.retire_from.ensures.retires ∙ ap (λ (hs : List Half). retired_all (slots_of hs)
    (view c.drop_chain-found.new.pass)) c.as_slice.ensures.value) (view c.retire.new.pass) c.retire.ensures.retires

pub leave_from-requires-clause-may : goal.leave_from-requires-clause-may
leave_from-requires-clause-may c =
    subst (λ (hs : List Half). CanLeaveAll (slots_of hs) (view c.retire.new.pass)) (sym
    c.as_slice-in-Ok.ensures.value) (drop_leave c.args.root c.args.header (view c.args.pass.now) c.requires.work
    c.drop_chain-found.new.halves.items tt (view c.drop_chain-found.new.pass) c.in-Ok.ensures.works (view
    c.retire_from.new.pass) (c.retire_from.ensures.retires ∙ ap (λ (hs : List Half). retired_all (slots_of hs)
    (view c.drop_chain-found.new.pass)) c.as_slice.ensures.value) (view c.retire.new.pass)
    c.retire.ensures.retires)

pub leave-requires-clause-pass : goal.leave-requires-clause-pass
leave-requires-clause-pass c =
    (drop_first c.args.root c.args.header (view c.args.pass.now) c.requires.work
    c.drop_chain-found.new.halves.items tt (view c.drop_chain-found.new.pass) c.in-Ok.ensures.works (view
    c.retire_from.new.pass) (c.retire_from.ensures.retires ∙ ap (λ (hs : List Half). retired_all (slots_of hs)
    (view c.drop_chain-found.new.pass)) c.as_slice.ensures.value) (view c.retire.new.pass) c.retire.ensures.retires
    (view c.leave_from.new.pass) (c.leave_from.ensures.leaves ∙ ap (λ (hs : List Half). left_all (slots_of hs)
    (view c.retire.new.pass)) c.as_slice-in-Ok.ensures.value)).pass

pub leave-requires-clause-held : goal.leave-requires-clause-held
leave-requires-clause-held c =
    (drop_first c.args.root c.args.header (view c.args.pass.now) c.requires.work
    c.drop_chain-found.new.halves.items tt (view c.drop_chain-found.new.pass) c.in-Ok.ensures.works (view
    c.retire_from.new.pass) (c.retire_from.ensures.retires ∙ ap (λ (hs : List Half). retired_all (slots_of hs)
    (view c.drop_chain-found.new.pass)) c.as_slice.ensures.value) (view c.retire.new.pass) c.retire.ensures.retires
    (view c.leave_from.new.pass) (c.leave_from.ensures.leaves ∙ ap (λ (hs : List Half). left_all (slots_of hs)
    (view c.retire.new.pass)) c.as_slice-in-Ok.ensures.value)).held

pub leave-requires-clause-unkept : goal.leave-requires-clause-unkept
leave-requires-clause-unkept c =
    (drop_first c.args.root c.args.header (view c.args.pass.now) c.requires.work
    c.drop_chain-found.new.halves.items tt (view c.drop_chain-found.new.pass) c.in-Ok.ensures.works (view
    c.retire_from.new.pass) (c.retire_from.ensures.retires ∙ ap (λ (hs : List Half). retired_all (slots_of hs)
    (view c.drop_chain-found.new.pass)) c.as_slice.ensures.value) (view c.retire.new.pass) c.retire.ensures.retires
    (view c.leave_from.new.pass) (c.leave_from.ensures.leaves ∙ ap (λ (hs : List Half). left_all (slots_of hs)
    (view c.retire.new.pass)) c.as_slice-in-Ok.ensures.value)).unkept

pub note_again-requires-clause-halves : goal.note_again-requires-clause-halves
note_again-requires-clause-halves c =
    let works = c.in-Err.ensures.works in
    halves_held c.args.root.slot c.len-count.result (keys_in c.args.root) c.drop_chain-found.new.halves.items works.0
    (view c.args.pass.now) (view c.drop_chain-found.new.pass) works.1 c.len-count.ensures.value

pub leave_from-requires-in-Err-clause-may : goal.leave_from-requires-in-Err-clause-may
leave_from-requires-in-Err-clause-may c =
    subst (λ (hs : List Half). CanLeaveAll (slots_of hs) (view c.note_again.new.pass)) (sym
    c.as_slice-in-Err.ensures.value) (keep_leave c.args.root c.args.header (view c.args.pass.now) c.requires.work
    c.drop_chain-found.new.halves.items c.in-Err.kept (view c.drop_chain-found.new.pass) c.in-Err.ensures.works
    c.len-count.result c.len-count.ensures.value (view c.note_again.new.pass) c.note_again.ensures.notes)

pub leave-requires-in-Err-clause-pass : goal.leave-requires-in-Err-clause-pass
leave-requires-in-Err-clause-pass c =
    (keep_first c.args.root c.args.header (view c.args.pass.now) c.requires.work
    c.drop_chain-found.new.halves.items c.in-Err.kept (view c.drop_chain-found.new.pass) c.in-Err.ensures.works
    c.len-count.result c.len-count.ensures.value (view c.note_again.new.pass) c.note_again.ensures.notes (view
    c.leave_from-in-Err.new.pass) (c.leave_from-in-Err.ensures.leaves ∙ ap (λ (hs : List Half). left_all (slots_of
    hs) (view c.note_again.new.pass)) c.as_slice-in-Err.ensures.value)).pass

pub leave-requires-in-Err-clause-held : goal.leave-requires-in-Err-clause-held
leave-requires-in-Err-clause-held c =
    (keep_first c.args.root c.args.header (view c.args.pass.now) c.requires.work
    c.drop_chain-found.new.halves.items c.in-Err.kept (view c.drop_chain-found.new.pass) c.in-Err.ensures.works
    c.len-count.result c.len-count.ensures.value (view c.note_again.new.pass) c.note_again.ensures.notes (view
    c.leave_from-in-Err.new.pass) (c.leave_from-in-Err.ensures.leaves ∙ ap (λ (hs : List Half). left_all (slots_of
    hs) (view c.note_again.new.pass)) c.as_slice-in-Err.ensures.value)).held

pub leave-requires-in-Err-clause-unkept : goal.leave-requires-in-Err-clause-unkept
leave-requires-in-Err-clause-unkept c =
    (keep_first c.args.root c.args.header (view c.args.pass.now) c.requires.work
    c.drop_chain-found.new.halves.items c.in-Err.kept (view c.drop_chain-found.new.pass) c.in-Err.ensures.works
    c.len-count.result c.len-count.ensures.value (view c.note_again.new.pass) c.note_again.ensures.notes (view
    c.leave_from-in-Err.new.pass) (c.leave_from-in-Err.ensures.leaves ∙ ap (λ (hs : List Half). left_all (slots_of
    hs) (view c.note_again.new.pass)) c.as_slice-in-Err.ensures.value)).unkept

pub returns-in-Ok-clause-ends : goal.returns-in-Ok-clause-ends
returns-in-Ok-clause-ends c =
    drop_ended c.args.root c.args.header (view c.args.pass.now) c.requires.work c.drop_chain-found.new.halves.items
    tt (view c.drop_chain-found.new.pass) c.in-Ok.ensures.works (view c.retire_from.new.pass)
    (c.retire_from.ensures.retires ∙ ap (λ (hs : List Half). retired_all (slots_of hs) (view
    c.drop_chain-found.new.pass)) c.as_slice.ensures.value) (view c.retire.new.pass) c.retire.ensures.retires (view
    c.leave_from.new.pass) (c.leave_from.ensures.leaves ∙ ap (λ (hs : List Half). left_all (slots_of hs) (view
    c.retire.new.pass)) c.as_slice-in-Ok.ensures.value) c.args.before c.and_dropped.result (view c.leave.new.pass)
    c.leave.ensures.leaves c.len-count.result c.len-count.ensures.value c.and_dropped.ensures.counts

pub returns-in-Err-clause-ends : goal.returns-in-Err-clause-ends
returns-in-Err-clause-ends c =
    keep_ended c.args.root c.args.header (view c.args.pass.now) c.requires.work c.drop_chain-found.new.halves.items
    c.in-Err.kept (view c.drop_chain-found.new.pass) c.in-Err.ensures.works c.len-count.result
    c.len-count.ensures.value (view c.note_again.new.pass) c.note_again.ensures.notes (view
    c.leave_from-in-Err.new.pass) (c.leave_from-in-Err.ensures.leaves ∙ ap (λ (hs : List Half). left_all (slots_of
    hs) (view c.note_again.new.pass)) c.as_slice-in-Err.ensures.value) c.args.before c.and_all_kept.result (view
    c.leave-in-Err.new.pass) c.leave-in-Err.ensures.leaves c.and_all_kept.ensures.counts
