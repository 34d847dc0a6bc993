use Rattle.std.proofs.Common.{◌≡◌, ◌∙◌, ◌∷◌, ◌+◌, [], Option, Some, inl, length, refl, sym, ap, subst, arith}
use Rattle.std.specs.Prelude.{is_some, IfSome, IfNone}
use Rattle.std.specs.List.Sorted.{IsPermutation}
use Rattle.std.specs.Option.{option_map}
use Rattle.std.proofs.lemmas.List.{nil_from_length}
use Rattle.std.proofs.lemmas.Result.{err_from_is_err_and}
use Rattle.outside.specs.Fronts.{AllBegin}
use Rattle.log_writer.specs.Points.{IsSaved, point_of, saved_of, sequence_of}
use Rattle.log_writer.specs.declared.saved.Saved.{Saved}
use Rattle.snapshot_store.specs.Content.{words_of}
use Rattle.snapshot_store.specs.Store.{bytes_of_pages, HoldsPages}
use Rattle.joint_crashes.specs.JointCrash.{parts_of}
use Rattle.joint_crashes.specs.RecordsAdded.{nothing_added, records_from, refused_so}
use Rattle.recovery_core.specs.Recovered.{recovers_state, saved_count, saved_epoch}
use Rattle.checkpoints.specs.CrashesRecover.{LeavesSame}
use Rattle.checkpoints.specs.Files.{AllTell, has_files}
use Rattle.checkpoints.specs.FreshLaws.{first_saved, is_first_saved}
use Rattle.checkpoints.specs.SettleCarried.{carry_saved, carry_fresh}
use Rattle.checkpoints.specs.SettleFresh.{none_says}
use Rattle.checkpoints.specs.SettleGoesOn.{GoesOn}
use Rattle.checkpoints.specs.SettleLaws.{is_without_files, untouched_leaves}
use Rattle.checkpoints.specs.Settled.{settled_saved, settled_pages, stores_due}
use Rattle.checkpoints.specs.declared.without_entries.Settled.{Settled}
use Rattle.checkpoints.proofs.Emptied.{can_store}
use Rattle.checkpoints.proofs.NewestSettled.{plain_newest}
use Rattle.checkpoints.proofs.PlainSettled.{stays_as_read}
use Rattle.checkpoints.proofs.Refusals.{can_fresh, can_saved, save_refused, write_refused}
use Rattle.checkpoints.proofs.SettledReadings.{quiet_same, rests_saved, rests_fresh}
use Rattle.checkpoints.proofs.without_entries.settle_lent.Goals as goal

-- ---- what the calls ask

pub settle_new-requires-clause-can : goal.settle_new-requires-clause-can
settle_new-requires-clause-can g c = can_store c.reserve_records.ensures.same c.requires.whole c.requires.up.up
    c.requires.stored c.in_ok-reserve_records.ensures.ties c.in_ok-reserve_records.ensures.cuts

pub settle_saved-requires-clause-can : goal.settle_saved-requires-clause-can
settle_saved-requires-clause-can g c = can_store c.reserve_records.ensures.same c.requires.whole c.requires.up.up
    c.requires.stored c.in_ok-reserve_records.ensures.ties c.in_ok-reserve_records.ensures.cuts

pub settle_new-requires-clause-fresh : goal.settle_new-requires-clause-fresh
settle_new-requires-clause-fresh g c =
    none_says c.args.recovered.now.save.newest (sym c.in_default.is ∙ c.requires.up.saved)

pub settle_new-requires-clause-empty : goal.settle_new-requires-clause-empty
settle_new-requires-clause-empty g c = nil_from_length c.args.recovered.now.store.pages
    (c.requires.up.count ∙ ap saved_count c.in_default.is)

-- ---- crashes and records

pub returns-in_err-reserve_records-clause-leaves : goal.returns-in_err-reserve_records-clause-leaves
returns-in_err-reserve_records-clause-leaves g c = record {
  crashes = λ found from rest none told since is.
      subst (λ p. LeavesSame g.D.Disk.clock g.D.Disk.image_at from is.reading c.args.recovered.now.epoch
      c.args.recovered.now.state (parts_of c.args.vault.now) p) (sym c.reserve_records.ensures.parts)
      (untouched_leaves g.met.D.Disk.reads (has_files c.args.vault.now c.requires.whole) rest none told since
      (recovers_state found c.args.recovered.now is));
  records = record {
    due = stores_due c.args.recovered.now.saved;
    are_due = inl (refl, c.requires.none);
    added = nothing_added (refused_so _ c.from_residual.result c.from_residual.ensures.1)
        c.reserve_records.ensures.same.ties c.reserve_records.ensures.same.cuts;
  };
}

pub returns-in_err-saved-clause-leaves : goal.returns-in_err-saved-clause-leaves
returns-in_err-saved-clause-leaves g c = record {
  crashes = λ found from rest none told since is.
      carry_fresh (λ was e s p. LeavesSame g.D.Disk.clock g.D.Disk.image_at from was e s p
      (parts_of c.settle_new.new.vault))
      c.args.recovered.now (parts_of c.args.vault.now) (parts_of c.reserve_records.new.vault)
      c.reserve_records.ensures.parts is
      (none_says c.args.recovered.now.save.newest (sym c.in_default.is ∙ c.requires.up.saved))
      (c.settle_new.ensures.crashes found from c.args.recovered.now.state) rest none told since;
  records = record {
    due = stores_due c.args.recovered.now.saved;
    are_due = inl (refl, c.requires.none);
    added = let due : stores_due c.args.recovered.now.saved ≡ 1 = ap stores_due c.in_default.is in
        let refused = refused_so _ c.from_residual-in_err-saved.result c.from_residual-in_err-saved.ensures.1 in
        rw (due, refused) (records_from c.reserve_records.ensures.same.ties c.reserve_records.ensures.same.cuts
        c.in_err-saved.ensures.leaves.records);
  };
}

pub returns-in_default-clause-leaves : goal.returns-in_default-clause-leaves
returns-in_default-clause-leaves g c = record {
  crashes = λ found from rest none told since is.
      carry_fresh (λ was e s p. LeavesSame g.D.Disk.clock g.D.Disk.image_at from was e s p
      (parts_of c.settle_new.new.vault))
      c.args.recovered.now (parts_of c.args.vault.now) (parts_of c.reserve_records.new.vault)
      c.reserve_records.ensures.parts is
      (none_says c.args.recovered.now.save.newest (sym c.in_default.is ∙ c.requires.up.saved))
      (c.settle_new.ensures.crashes found from c.args.recovered.now.state) rest none told since;
  records = record {
    due = stores_due c.args.recovered.now.saved;
    are_due = inl (refl, c.requires.none);
    added = let due : stores_due c.args.recovered.now.saved ≡ 1 = ap stores_due c.in_default.is in
        rw due (records_from c.reserve_records.ensures.same.ties c.reserve_records.ensures.same.cuts
        c.in_ok-saved.ensures.leaves.records);
  };
}

pub returns-in-Ok-clause-leaves : goal.returns-in-Ok-clause-leaves
returns-in-Ok-clause-leaves g c = record {
  crashes = λ found from rest none told since is.
      carry_saved (λ was e s p. LeavesSame g.D.Disk.clock g.D.Disk.image_at from was e s p
      (parts_of c.settle_saved.new.vault))
      c.args.recovered.now (parts_of c.args.vault.now) (parts_of c.reserve_records.new.vault)
      c.reserve_records.ensures.parts is
      (λ rest none told since was lasts. c.settle_saved.ensures.crashes found from c.args.recovered.now.epoch
      c.args.recovered.now.state rest none told since was (λ key. sym (lasts key) ∙ c.requires.none key))
      rest none told since;
  records = record {
    due = stores_due c.args.recovered.now.saved;
    are_due = inl (refl, c.requires.none);
    added = let due = ap stores_due c.in-Some.is in
        rw due (records_from c.reserve_records.ensures.same.ties c.reserve_records.ensures.same.cuts
        c.in-Ok.ensures.leaves.records);
  };
}

pub returns-in-Err-clause-leaves : goal.returns-in-Err-clause-leaves
returns-in-Err-clause-leaves g c = record {
  crashes = λ found from rest none told since is.
      carry_saved (λ was e s p. LeavesSame g.D.Disk.clock g.D.Disk.image_at from was e s p
      (parts_of c.settle_saved.new.vault))
      c.args.recovered.now (parts_of c.args.vault.now) (parts_of c.reserve_records.new.vault)
      c.reserve_records.ensures.parts is
      (λ rest none told since was lasts. c.settle_saved.ensures.crashes found from c.args.recovered.now.epoch
      c.args.recovered.now.state rest none told since was (λ key. sym (lasts key) ∙ c.requires.none key))
      rest none told since;
  records = record {
    due = stores_due c.args.recovered.now.saved;
    are_due = inl (refl, c.requires.none);
    added = let due = ap stores_due c.in-Some.is in
        rw due (records_from c.reserve_records.ensures.same.ties c.reserve_records.ensures.same.cuts
        c.in-Err.ensures.leaves.records);
  };
}

-- ---- what is handed on

pub returns-in_default-clause-settles : goal.returns-in_default-clause-settles
returns-in_default-clause-settles g c =
    let tells = g.D.Disk.tells in
    let r = c.args.recovered.now in
    let e = c.in_ok-saved.ensures in
    let first = e.first in
    let room = c.reserve_records.ensures in
    let absent = c.in_default.is in
    let none = none_says r.save.newest (sym absent ∙ c.requires.up.saved) in
    let s : Settled = record {
      save = c.settle_new.new.save;
      store = c.settle_new.new.store;
      saved = c.in_ok-saved.saved;
      decls = c.in_ok-saved.decls;
      state = r.state;
    } in
    let sequence_was : sequence_of r.save.newest ≡ 0 = ap sequence_of none in
    let due : stores_due r.saved ≡ 1 = ap stores_due absent in
    let told_save = e.stands.told ∙ ap (λ d. is_some (tells d)) room.same.save in
    let told_snaps = e.stands.told_snaps ∙ ap (λ d. is_some (tells d)) room.same.snaps in
    let emptied = λ (tell : AllTell tells (parts_of c.args.vault.now)).
    e.stands.emptied (subst (AllTell tells) (sym room.parts) tell) in
    let saved = first.saved_is ∙ ap settled_saved (sym absent) in
    let pages : words_of s.store.pages ≡ settled_pages r.saved (words_of r.store.pages) s.decls =
    ap words_of first.pages ∙ ap (λ w. w ∷ []) first.first.words_are
    ∙ ap (λ o. settled_pages o (words_of r.store.pages) s.decls) (sym absent) in
    let count : length s.store.pages ≡ s.saved.count =
    ap length first.pages ∙ ap (λ (x : Saved). x.count) (sym first.saved_is) in
    let declared : IfNone r.saved (IsPermutation c.args.decls.now s.decls) =
    subst (λ (o : Option Saved). IfNone o (IsPermutation c.args.decls.now s.decls)) (sym absent) first.permuted in
    let kept : IfSome r.saved (λ _. s.decls ≡ r.decls) =
    subst (λ (o : Option Saved). IfSome o (λ _. s.decls ≡ r.decls)) (sym absent) tt in
    record {
      whole = e.leaves.whole;
      follows = stays_as_read r s r.saved (record {
        none = c.requires.none;
        saved = saved;
        pages = pages;
        sequence = ap sequence_of first.newest ∙ omega (arith, sequence_was, due);
      });
      lengths = ap (λ (x : Saved). x.lengths) first.saved_is;
      epoch = ap (λ (x : Saved). x.epoch) first.saved_is ∙ ap saved_epoch (sym absent) ∙ sym c.requires.up.epoch;
      ranges = subst IsSaved (sym first.saved_is) is_first_saved;
      says = ap (λ x. Some x) first.saved_is ∙ sym (ap (option_map saved_of) first.newest);
      up = e.stands.up;
      stored = e.stands.stored;
      sound = e.durable.sound;
      count = count;
      holds = e.durable.holds;
      durable = λ bytes told was. e.durable.durable bytes (ap tells room.same.snaps ∙ told);
      newest = plain_newest r s c.args.decls.now c.requires.up c.requires.decls c.requires.none saved pages count refl
          declared kept first.rising;
      state = refl;
      declared = declared;
      kept = kept;
      rising = first.rising;
      emptied = emptied;
      rests = λ found told is. rests_fresh c.args.vault.now c.settle_new.new.vault r s first.page told is none
          first.newest first.pages first.first refl told_save told_snaps e.stands.stored e.durable.holds
          (emptied (λ n bank there. ap is_some (told.bank n bank there)));
      goes_on = λ found from rest no_records told since is. subst (λ k. GoesOn g.D.Disk.clock g.D.Disk.image_at from
          is.reading r.epoch r.state k s.save.newest (parts_of c.settle_new.new.vault)) (sym sequence_was)
          (subst (λ x. GoesOn g.D.Disk.clock g.D.Disk.image_at from is.reading r.epoch r.state 0 x
          (parts_of c.settle_new.new.vault)) (sym first.newest)
          (carry_fresh (λ was epoch state p. GoesOn g.D.Disk.clock g.D.Disk.image_at from was epoch state 0
          (Some (point_of 1 first_saved)) (parts_of c.settle_new.new.vault))
          r (parts_of c.args.vault.now) (parts_of c.reserve_records.new.vault) room.parts is none
          (e.goes_on found from r.state) rest no_records told since));
    }

pub returns-in-Ok-clause-settles : goal.returns-in-Ok-clause-settles
returns-in-Ok-clause-settles g c =
    let tells = g.D.Disk.tells in
    let r = c.args.recovered.now in
    let e = c.in-Ok.ensures in
    let room = c.reserve_records.ensures in
    let here = c.in-Some.is in
    let up = c.requires.up in
    let none = c.requires.none in
    let s : Settled = record {
      save = c.settle_saved.new.save;
      store = r.store;
      saved = c.in-Ok.saved;
      decls = r.decls;
      state = r.state;
    } in
    let told_save = e.stands.told ∙ ap (λ d. is_some (tells d)) room.same.save in
    let snaps = c.settle_saved.ensures.snaps ∙ room.same.snaps in
    let says = sym here ∙ up.saved in
    let emptied = λ (tell : AllTell tells (parts_of c.args.vault.now)).
    e.stands.emptied (subst (AllTell tells) (sym room.parts) tell) in
    let saved = e.says.0 ∙ ap settled_saved (sym here) in
    let pages : words_of s.store.pages ≡ settled_pages r.saved (words_of r.store.pages) s.decls =
    ap (λ o. settled_pages o (words_of r.store.pages) r.decls) (sym here) in
    let count : length s.store.pages ≡ s.saved.count =
    up.count ∙ ap saved_count here ∙ ap (λ (x : Saved). x.count) (sym e.says.0) in
    let declared : IfNone r.saved (IsPermutation c.args.decls.now r.decls) =
    subst (λ (o : Option Saved). IfNone o (IsPermutation c.args.decls.now r.decls)) (sym here) tt in
    let kept : IfSome r.saved (λ _. r.decls ≡ r.decls) =
    subst (λ (o : Option Saved). IfSome o (λ _. r.decls ≡ r.decls)) (sym here) refl in
    record {
      whole = e.leaves.whole;
      follows = stays_as_read r s r.saved (record {
        none = none;
        saved = saved;
        pages = pages;
        sequence = e.sequence ∙ ap (λ o. sequence_of r.save.newest + stores_due o) (sym here);
      });
      lengths = ap (λ (x : Saved). x.lengths) e.says.0;
      epoch = ap (λ (x : Saved). x.epoch) e.says.0 ∙ ap saved_epoch (sym here) ∙ sym up.epoch;
      ranges = subst IsSaved (sym e.says.0) (is_without_files _ (subst (λ o. IfSome o IsSaved) here up.ranges));
      says = e.says.1;
      up = e.stands.up;
      stored = e.stands.stored;
      sound = up.sound;
      count = count;
      holds = subst (λ d. HoldsPages tells d r.store.pages) (sym snaps) c.requires.holds;
      durable = λ bytes told was. subst (λ d. AllBegin (g.D.Disk.image_at d (g.D.Disk.clock d))
          (bytes_of_pages r.store.pages)) (sym snaps) was;
      newest = plain_newest r s c.args.decls.now up c.requires.decls none saved pages count refl declared kept
          up.rising;
      state = refl;
      declared = declared;
      kept = kept;
      rising = up.rising;
      emptied = emptied;
      rests = λ found told is. rests_saved c.args.vault.now c.settle_saved.new.vault r s _ told is says e.says.0
          e.says.1 refl refl refl none told_save snaps e.stands.stored (emptied (λ n bank there. ap is_some (told.bank n bank there)));
      goes_on = λ found from rest no_records told since is.
          carry_saved (λ was epoch state p. GoesOn g.D.Disk.clock g.D.Disk.image_at from was epoch state
          (sequence_of r.save.newest) c.settle_saved.new.save.newest (parts_of c.settle_saved.new.vault))
          r (parts_of c.args.vault.now) (parts_of c.reserve_records.new.vault) room.parts is
          (λ rest none told since was lasts. e.goes_on found from r.epoch r.state rest none told since was
          (λ key. sym (lasts key) ∙ c.requires.none key)) rest no_records told since;
    }

pub returns-in_default-clause-within : goal.returns-in_default-clause-within
returns-in_default-clause-within g c some =
    let count = ap (λ (x : Saved). x.count) c.in_ok-saved.ensures.first.saved_is in omega (arith, some, count)

pub returns-in-Ok-clause-within : goal.returns-in-Ok-clause-within
returns-in-Ok-clause-within g c some =
    let count = ap (λ (x : Saved). x.count) c.in-Ok.ensures.says.0 in
    omega (arith, count, c.in-Ok.ensures.answers.1.fits)

-- ---- what is answered

pub returns-in_err-reserve_records-clause-answers : goal.returns-in_err-reserve_records-clause-answers
returns-in_err-reserve_records-clause-answers g c =
    let p = err_from_is_err_and c.from_residual.result c.from_residual.ensures.1 in
    rw (p.1, p.2) c.reserve_records.ensures.same

pub returns-in_err-saved-clause-answers : goal.returns-in_err-saved-clause-answers
returns-in_err-saved-clause-answers g c =
    let p = err_from_is_err_and c.from_residual-in_err-saved.result c.from_residual-in_err-saved.ensures.1 in
    let none = none_says c.args.recovered.now.save.newest (sym c.in_default.is ∙ c.requires.up.saved) in
    rw (p.1, p.2) (write_refused g.D.Disk.faults c.args.recovered.now c.args.snap c.settle_new.new.vault
    c.reserve_records.ensures.same (can_fresh c.args.recovered.now c.args.snap c.in_default.is none) _
    c.in_err-saved.ensures.answers)

pub returns-in_default-clause-answers : goal.returns-in_default-clause-answers
returns-in_default-clause-answers g c =
    let none = none_says c.args.recovered.now.save.newest (sym c.in_default.is ∙ c.requires.up.saved) in (
      quiet_same c.settle_new.new.vault c.reserve_records.ensures.same c.in_ok-saved.ensures.answers,
      can_fresh c.args.recovered.now c.args.snap c.in_default.is none,
    )

pub returns-in-Ok-clause-answers : goal.returns-in-Ok-clause-answers
returns-in-Ok-clause-answers g c = (
  quiet_same c.settle_saved.new.vault c.reserve_records.ensures.same c.in-Ok.ensures.answers.0,
  can_saved c.args.recovered.now c.args.snap _ c.requires.none c.in-Some.is c.in-Ok.ensures.answers.1,
)

pub returns-in-Err-clause-answers : goal.returns-in-Err-clause-answers
returns-in-Err-clause-answers g c = save_refused g.D.Disk.faults c.args.recovered.now c.args.snap _ c.settle_saved.new.vault
    c.reserve_records.ensures.same c.requires.none c.in-Some.is c.in-Err.fault c.in-Err.ensures.answers
