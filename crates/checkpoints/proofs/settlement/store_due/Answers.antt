use Rattle.std.proofs.Common.{◌≡◌, ◌+◌, ◌++◌, ◌≤◌, ◌∙◌, List, Option, Some}
use Rattle.std.proofs.Common.{inr, length, refl, sym, ap, subst}
use Rattle.std.specs.Prelude.{is_some, IfSome, IfNone, ◌<◌, ◌^◌}
use Rattle.std.specs.List.{AllByRecursion}
use Rattle.std.specs.Option.{option_map}
use Rattle.std.specs.List.Sorted.{IsPermutation}
use Rattle.std.proofs.lemmas.List.{length-append}
use Rattle.std.proofs.lemmas.Result.{err_from_is_err_and}
use Rattle.lists.specs.declared.memory.OrMemory.TheVariants.{Fault}
use Rattle.wire_form.specs.declared.page.Page.{Page}
use Rattle.log_writer.specs.Points.{IsSaved, point_of, saved_of, sequence_of}
use Rattle.log_writer.specs.declared.saved.Saved.{Saved}
use Rattle.snapshot_store.specs.Content.{words_of}
use Rattle.snapshot_store.specs.Store.{HoldsPages, IsWhole as IsWholePage}
use Rattle.joint_crashes.specs.JointCrash.{parts_of}
use Rattle.joint_crashes.specs.RecordsAdded.{nothing_added, records_from, refused_so}
use Rattle.recovery_core.specs.Recovered.{IsUp, recovers_state, saved_epoch}
use Rattle.recovery_core.specs.declared.recovered.Recovered.{Recovered}
use Rattle.checkpoints.specs.CrashesRecover.{LeavesSame, HasFiles}
use Rattle.checkpoints.specs.declared.fault.SettleFault.TheVariants.{Sequence}
use Rattle.checkpoints.specs.Due.{IsNextOf, IsWithin}
use Rattle.checkpoints.specs.Files.{AllTell, has_files}
use Rattle.checkpoints.specs.SettleAnswers.{IsRefused}
use Rattle.checkpoints.specs.SettleGoesOn.{GoesOn}
use Rattle.checkpoints.specs.SettleLaws.{untouched_leaves, carry_rest}
use Rattle.checkpoints.specs.SettlesInto.{Follows, composed_saved}
use Rattle.checkpoints.specs.Written.{FitsDevice}
use Rattle.checkpoints.proofs.DueLemmas.{ranges_of}
use Rattle.checkpoints.proofs.Emptied.{can_store}
use Rattle.checkpoints.proofs.Exits.{below_so, count_within, few_more, same_err, some_more, some_so, told_as}
use Rattle.checkpoints.proofs.NewestSettled.{composed_newest}
use Rattle.checkpoints.proofs.NextSettled.{is_next, composed_ranges, next_leaves, next_goes_on, next_rests}
use Rattle.checkpoints.proofs.NextState.{IsNext}
use Rattle.checkpoints.proofs.Refusals.{can_entries, due_refused, write_refused}
use Rattle.checkpoints.proofs.SettledReadings.{quiet_same}
use Rattle.checkpoints.proofs.settlement.store_due.Goals as goal

-- ---- what the writing asks

pub write_snapshot-requires-clause-can : goal.write_snapshot-requires-clause-can
write_snapshot-requires-clause-can g c = can_store c.reserve_records.ensures.same c.requires.whole c.requires.up.up
    c.requires.stored c.in_ok-reserve_records.ensures.ties c.in_ok-reserve_records.ensures.cuts

pub write_snapshot-requires-clause-holds : goal.write_snapshot-requires-clause-holds
write_snapshot-requires-clause-holds g c = subst (λ d. HoldsPages g.D.Disk.tells d c.args.recovered.now.store.pages)
    (sym c.reserve_records.ensures.same.snaps) c.requires.holds

pub write_snapshot-requires-clause-epoch : goal.write_snapshot-requires-clause-epoch
write_snapshot-requires-clause-epoch g c =
    let epoch = c.requires.up.epoch ∙ ap saved_epoch c.requires.says in
    let ranges = ranges_of c.args.recovered.now c.args.saved.now c.requires.up c.requires.says in
    below_so _ _ _ epoch ranges.epoch

pub write_snapshot-requires-clause-some : goal.write_snapshot-requires-clause-some
write_snapshot-requires-clause-some g c =
    some_so _ _ (ap length c.as_slice-pages.ensures) c.in_ok-pages.ensures.some

pub write_snapshot-requires-clause-few : goal.write_snapshot-requires-clause-few
write_snapshot-requires-clause-few g c = few_more (length c.args.recovered.now.store.pages) _ _ c.args.snap _
    (ap length c.as_slice-pages.ensures) c.in_ok-pages.ensures.few c.requires.snap

-- what is known of the new snapshot
known : (r : Recovered) (p : Saved) (pages slice : List Page) → slice ≡ pages → IsUp r → r.saved ≡ Some p
    → IsNextOf r p (words_of pages) → AllByRecursion IsWholePage r.store.pages
    → AllByRecursion (AllByRecursion (λ w. w < 2 ^ 64)) (words_of r.store.pages) → AllByRecursion FitsDevice slice
    → IsNext r p (words_of slice) (r.store.pages ++ slice)
known r p pages slice same up says next whole fit new =
    is_next r p slice up says (subst (λ l. IsNextOf r p (words_of l)) (sym same) next) whole fit new

-- ---- crashes and records

pub returns-in_err-reserve_records-clause-leaves : goal.returns-in_err-reserve_records-clause-leaves
returns-in_err-reserve_records-clause-leaves g c = record {
  crashes = λ found from rest none told since is.
      subst (λ p. LeavesSame g.D.Disk.clock g.D.Disk.image_at from is.reading c.args.recovered.now.epoch
      c.args.recovered.now.state (parts_of c.args.vault.now) p) (sym c.reserve_records.ensures.parts)
      (untouched_leaves g.met.D.Disk.reads (has_files c.args.vault.now c.requires.whole) rest none told since
      (recovers_state found c.args.recovered.now is));
  records = record {
    due = 1;
    are_due = inr (refl, c.requires.due);
    added = nothing_added (refused_so _ c.from_residual.result c.from_residual.ensures.1)
        c.reserve_records.ensures.same.ties c.reserve_records.ensures.same.cuts;
  };
}

pub returns-in_err-pages-clause-leaves : goal.returns-in_err-pages-clause-leaves
returns-in_err-pages-clause-leaves g c = record {
  crashes = λ found from rest none told since is.
      subst (λ p. LeavesSame g.D.Disk.clock g.D.Disk.image_at from is.reading c.args.recovered.now.epoch
      c.args.recovered.now.state (parts_of c.args.vault.now) p) (sym c.reserve_records.ensures.parts)
      (untouched_leaves g.met.D.Disk.reads (has_files c.args.vault.now c.requires.whole) rest none told since
      (recovers_state found c.args.recovered.now is));
  records = record {
    due = 1;
    are_due = inr (refl, c.requires.due);
    added = nothing_added
        (refused_so _ c.from_residual-in_err-pages.result c.from_residual-in_err-pages.ensures.1)
        c.reserve_records.ensures.same.ties c.reserve_records.ensures.same.cuts;
  };
}

pub returns-in-Err-clause-leaves : goal.returns-in-Err-clause-leaves
returns-in-Err-clause-leaves g c = record {
  crashes = λ found from rest none told since is.
      subst (λ p. LeavesSame g.D.Disk.clock g.D.Disk.image_at from is.reading c.args.recovered.now.epoch
      c.args.recovered.now.state (parts_of c.args.vault.now) p) (sym c.reserve_records.ensures.parts)
      (untouched_leaves g.met.D.Disk.reads (has_files c.args.vault.now c.requires.whole) rest none told since
      (recovers_state found c.args.recovered.now is));
  records = record {
    due = 1;
    are_due = inr (refl, c.requires.due);
    added = nothing_added refl c.reserve_records.ensures.same.ties c.reserve_records.ensures.same.cuts;
  };
}

pub returns-in_err-saved-clause-leaves : goal.returns-in_err-saved-clause-leaves
returns-in_err-saved-clause-leaves g c = record {
  crashes = λ found from rest none told since is.
      let r = c.args.recovered.now in
      let p = c.args.saved.now in
      let slice = c.as_slice-pages.result.now in
      let next = known r p c.in_ok-pages.pages slice c.as_slice-pages.ensures c.requires.up c.requires.says
      c.in_ok-pages.ensures.composed c.pages_fit.ensures.whole c.pages_fit.ensures.fit c.new_pages_fit.ensures in
      carry_rest (λ q. LeavesSame g.D.Disk.clock g.D.Disk.image_at from is.reading r.epoch r.state q
      (parts_of c.write_snapshot.new.vault)) (parts_of c.args.vault.now) (parts_of c.reserve_records.new.vault)
      c.reserve_records.ensures.parts
      (λ rest none told since.
      next_leaves g.met.D.Disk.reads r p (words_of slice) (r.store.pages ++ slice) c.requires.up
      c.requires.says next (length r.store.pages + length slice) (sym (length-append r.store.pages slice))
      (subst (λ q. HasFiles q) (sym c.reserve_records.ensures.parts) (has_files c.args.vault.now c.requires.whole))
      (has_files c.write_snapshot.new.vault c.write_snapshot.ensures.leaves.whole) c.write_snapshot.ensures.crashes
      rest none told since is) rest none told since;
  records = record {
    due = 1;
    are_due = inr (refl, c.requires.due);
    added = let refused = refused_so _ c.from_residual-in_err-saved.result c.from_residual-in_err-saved.ensures.1 in
        rw refused (records_from c.reserve_records.ensures.same.ties c.reserve_records.ensures.same.cuts
        c.in_err-saved.ensures.leaves.records);
  };
}

pub returns-clause-leaves : goal.returns-clause-leaves
returns-clause-leaves g c = record {
  crashes = λ found from rest none told since is.
      let r = c.args.recovered.now in
      let p = c.args.saved.now in
      let slice = c.as_slice-pages.result.now in
      let next = known r p c.in_ok-pages.pages slice c.as_slice-pages.ensures c.requires.up c.requires.says
      c.in_ok-pages.ensures.composed c.pages_fit.ensures.whole c.pages_fit.ensures.fit c.new_pages_fit.ensures in
      carry_rest (λ q. LeavesSame g.D.Disk.clock g.D.Disk.image_at from is.reading r.epoch r.state q
      (parts_of c.write_snapshot.new.vault)) (parts_of c.args.vault.now) (parts_of c.reserve_records.new.vault)
      c.reserve_records.ensures.parts
      (λ rest none told since.
      next_leaves g.met.D.Disk.reads r p (words_of slice) (r.store.pages ++ slice) c.requires.up
      c.requires.says next (length r.store.pages + length slice) (sym (length-append r.store.pages slice))
      (subst (λ q. HasFiles q) (sym c.reserve_records.ensures.parts) (has_files c.args.vault.now c.requires.whole))
      (has_files c.write_snapshot.new.vault c.write_snapshot.ensures.leaves.whole) c.write_snapshot.ensures.crashes
      rest none told since is) rest none told since;
  records = record {
    due = 1;
    are_due = inr (refl, c.requires.due);
    added = records_from c.reserve_records.ensures.same.ties c.reserve_records.ensures.same.cuts
        c.in_ok-saved.ensures.leaves.records;
  };
}

-- ---- what is handed on

pub returns-clause-settles : goal.returns-clause-settles
returns-clause-settles g c =
    let tells = g.D.Disk.tells in
    let r = c.args.recovered.now in
    let p = c.args.saved.now in
    let up = c.requires.up in
    let says = c.requires.says in
    let room = c.reserve_records.ensures in
    let e = c.in_ok-saved.ensures in
    let slice = c.as_slice-pages.result.now in
    let all = r.store.pages ++ slice in
    let count = length r.store.pages + length slice in
    let size : count ≡ length all = sym (length-append r.store.pages slice) in
    let made = subst (λ l. IsNextOf r p (words_of l)) (sym c.as_slice-pages.ensures) c.in_ok-pages.ensures.composed in
    let next = known r p c.in_ok-pages.pages slice c.as_slice-pages.ensures up says
    c.in_ok-pages.ensures.composed c.pages_fit.ensures.whole c.pages_fit.ensures.fit c.new_pages_fit.ensures in
    let pages : c.write_snapshot.new.store.pages ≡ all = e.pages in
    let counted : count ≡ length c.write_snapshot.new.store.pages = size ∙ sym (ap length pages) in
    let told_save = e.stands.told ∙ ap (λ d. is_some (tells d)) room.same.save in
    let told_snaps = e.stands.told_snaps ∙ ap (λ d. is_some (tells d)) room.same.snaps in
    let newest_is = e.says.1 ∙ ap (λ s. Some (point_of (sequence_of r.save.newest + 1) s)) e.says.0 in
    let emptied = λ (tell : AllTell tells (parts_of c.args.vault.now)).
    e.stands.emptied (subst (AllTell tells) (sym room.parts) tell) in
    let ranges = ranges_of r p up says in
    let length_is : length slice ≡ length c.in_ok-pages.pages = ap length c.as_slice-pages.ensures in
    let some : 1 ≤ count = some_more (length r.store.pages) _ _ length_is c.in_ok-pages.ensures.some in
    let few : count ≤ 65536 =
    few_more (length r.store.pages) _ _ c.args.snap _ length_is c.in_ok-pages.ensures.few c.requires.snap in
    record {
      whole = e.leaves.whole;
      follows = subst (Follows r _) (sym says) (inr (record {
        run = made.run;
        contents = made.contents;
        due = made.due;
        made = words_of slice;
        composed = made.composed;
        pages = ap words_of pages ∙ next.words;
        saved = e.says.0 ∙ ap (composed_saved r.epoch) counted;
        sequence = ap sequence_of e.says.1;
      }));
      lengths = ap (λ (x : Saved). x.lengths) e.says.0;
      epoch = ap (λ (x : Saved). x.epoch) e.says.0;
      ranges = subst IsSaved (sym e.says.0) (composed_ranges r.epoch count
          (below_so _ _ _ (up.epoch ∙ ap saved_epoch says) ranges.epoch) some few);
      says = sym (ap (option_map saved_of) e.says.1);
      up = e.stands.up;
      stored = e.stands.stored;
      sound = e.durable.sound;
      count = sym counted ∙ ap (λ (x : Saved). x.count) (sym e.says.0);
      holds = e.durable.holds;
      durable = λ bytes told was. e.durable.durable bytes (ap tells room.same.snaps ∙ told);
      newest = composed_newest r p (words_of slice) all _ _ next pages (ap (λ (x : Saved). x.epoch) e.says.0);
      state = refl;
      declared = subst (λ (o : Option Saved). IfNone o (IsPermutation c.args.decls.now r.decls)) (sym says) tt;
      kept = subst (λ (o : Option Saved). IfSome o (λ _. r.decls ≡ r.decls)) (sym says) refl;
      rising = up.rising;
      emptied = emptied;
      rests = λ found told is. next_rests g.met.D.Disk.reads r p (words_of slice) all up says next c.args.vault.now
          c.write_snapshot.new.vault _ told
          (newest_is ∙ ap (λ n. Some (point_of (sequence_of r.save.newest + 1) (composed_saved r.epoch n))) size)
          pages refl refl told_save told_snaps e.stands.stored e.durable.holds
          (emptied (λ n bank there. ap is_some (told.bank n bank there)));
      goes_on = λ found from rest none told since is.
          subst (λ x. GoesOn g.D.Disk.clock g.D.Disk.image_at from is.reading r.epoch r.state
          (sequence_of r.save.newest) x (parts_of c.write_snapshot.new.vault)) (sym newest_is)
          (carry_rest (λ q. GoesOn g.D.Disk.clock g.D.Disk.image_at from is.reading r.epoch r.state
          (sequence_of r.save.newest) (Some (point_of (sequence_of r.save.newest + 1) (composed_saved r.epoch count)))
          (parts_of c.write_snapshot.new.vault)) (parts_of c.args.vault.now) (parts_of c.reserve_records.new.vault)
          room.parts
          (λ rest none told since. next_goes_on g.met.D.Disk.reads r p (words_of slice) all up says next count size
          (subst (λ q. HasFiles q) (sym room.parts) (has_files c.args.vault.now c.requires.whole))
          (has_files c.write_snapshot.new.vault c.write_snapshot.ensures.leaves.whole) e.goes_on
          rest none told since is)
          rest none told since);
    }

pub returns-clause-within : goal.returns-clause-within
returns-clause-within g c some =
    let length_is = ap length c.as_slice-pages.ensures in
    let count = ap (λ (x : Saved). x.count) c.in_ok-saved.ensures.says.0 in
    count_within _ (length c.args.recovered.now.store.pages) _ _ _ count length_is c.in_ok-pages.ensures.few

-- ---- what is answered

pub returns-in_err-reserve_records-clause-answers : goal.returns-in_err-reserve_records-clause-answers
returns-in_err-reserve_records-clause-answers g c =
    let p = err_from_is_err_and c.from_residual.result c.from_residual.ensures.1 in
    rw (p.1, p.2) c.reserve_records.ensures.same

pub returns-in_err-pages-clause-answers : goal.returns-in_err-pages-clause-answers
returns-in_err-pages-clause-answers g c =
    let p = err_from_is_err_and c.from_residual-in_err-pages.result c.from_residual-in_err-pages.ensures.1 in
    let e = c.in_err-pages.ensures in
    rw p.1 (due_refused g.D.Disk.faults c.args.recovered.now c.args.snap c.args.saved.now c.reserve_records.new.vault
    c.requires.says c.reserve_records.ensures.same p.0 (e.refusal p.0 (told_as _ _ p.0 refl p.2))
    (λ is. e.deep (told_as _ _ p.0 is p.2)) (λ have more room is. e.limit have more room (told_as _ _ p.0 is p.2)))

pub returns-in-Err-clause-answers : goal.returns-in-Err-clause-answers
returns-in-Err-clause-answers g c =
    let last = c.in-Err.ensures.last in
    let same : c.in-Err.fault ≡ Sequence (sequence_of c.args.recovered.now.save.newest) = same_err _ _ last.0 in
    subst (λ f. IsRefused g.D.Disk.faults c.args.recovered.now c.args.snap c.args.vault.now c.reserve_records.new.vault
    (Fault f)) (sym same) (
      refl,
      last.1,
      inr c.requires.due,
      subst (λ o. IfSome o (IsWithin c.args.recovered.now c.args.snap)) (sym c.requires.says)
          (inr c.in_ok-pages.ensures.within),
      c.reserve_records.ensures.same,
    )

pub returns-in_err-saved-clause-answers : goal.returns-in_err-saved-clause-answers
returns-in_err-saved-clause-answers g c =
    let p = err_from_is_err_and c.from_residual-in_err-saved.result c.from_residual-in_err-saved.ensures.1 in
    rw (p.1, p.2) (write_refused g.D.Disk.faults c.args.recovered.now c.args.snap c.write_snapshot.new.vault
    c.reserve_records.ensures.same (can_entries c.args.recovered.now c.args.snap c.args.saved.now c.requires.says
    c.in_ok-pages.ensures.within c.in-Ok.ensures.below) _ c.in_err-saved.ensures.answers)

pub returns-clause-answers : goal.returns-clause-answers
returns-clause-answers g c = (
  quiet_same c.write_snapshot.new.vault c.reserve_records.ensures.same c.in_ok-saved.ensures.answers,
  can_entries c.args.recovered.now c.args.snap c.args.saved.now c.requires.says c.in_ok-pages.ensures.within
      c.in-Ok.ensures.below,
)
