use Rattle.std.proofs.Common.{◌≡◌, ◌<◌, ◌++◌, ◌+◌, ◌∷◌, length, map, [], List, Option, Some, None, sym, ap, ◌∙◌, subst, arith, refl}
use Rattle.std.specs.List.{AllByRecursion}
use Rattle.std.specs.List.Sorted.{IsPermutation}
use Rattle.std.proofs.lemmas.List.Sorted.{length_permutation}
use Rattle.std.proofs.lemmas.Result.{err_from_is_err_and}
use Rattle.serial_model.specs.Decls.{IsDecl}
use Rattle.serial_model.specs.Keys.{id_of}
use Rattle.wire_form.specs.Items.{Rises}
use Rattle.wire_form.specs.declared.page.Page.{Page}
use Rattle.wire_form.specs.declared.savepoint.Savepoint.{Savepoint}
use Rattle.log_writer.specs.Points.{point_of, sequence_of}
use Rattle.log_writer.specs.Save.{Names}
use Rattle.joint_crashes.specs.Images.{Images}
use Rattle.joint_crashes.specs.RecordsAdded.{nothing_added, refused_so}
use Rattle.recovery_core.specs.Recoverable.{IsReading, Reading}
use Rattle.checkpoints.specs.Files.{has_files}
use Rattle.checkpoints.specs.FreshLaws.{first_saved, IsFirstPage, no_snapshots}
use Rattle.checkpoints.specs.SettleLaws.{untouched_leaves}
use Rattle.checkpoints.specs.SettlePages.{first_contents}
use Rattle.checkpoints.specs.SettlesInto.{composed_saved}
use Rattle.checkpoints.proofs.FreshWritten.{fresh_leaves, fresh_goes_on}
use Rattle.checkpoints.proofs.SettledReadings.{same_none}
use Rattle.checkpoints.proofs.SettleOrder.{still_decls}
use Rattle.checkpoints.proofs.without_entries.settle_new.Goals as goal

-- a fresh database has no snapshot
none_before : (found : Images) (reading : Reading) → IsReading found reading → (newest : Option Savepoint) → newest ≡ None
    → Names found.save newest → reading.catalogues ≡ []
none_before found reading is newest none names =
    no_snapshots found reading is (subst (λ x. Names found.save x) none names)

-- ---- what the calls ask

pub first_page-requires-clause-few : goal.first_page-requires-clause-few
first_page-requires-clause-few g c =
    omega (
      arith,
      ap length c.deref.ensures.value,
      length_permutation c.args.decls.now c.in_ok-sorted.sorted.items c.in_ok-sorted.ensures.same,
      c.requires.decls.few,
    )

pub first_page-requires-clause-decls : goal.first_page-requires-clause-decls
first_page-requires-clause-decls g c =
    subst (AllByRecursion IsDecl) (sym c.deref.ensures.value)
    (still_decls c.args.decls.now c.in_ok-sorted.sorted.items c.in_ok-sorted.ensures.same c.requires.decls.each)

pub write_snapshot-requires-clause-few : goal.write_snapshot-requires-clause-few
write_snapshot-requires-clause-few g c = omega (arith, ap length c.requires.empty)

pub write_snapshot-requires-clause-numbered : goal.write_snapshot-requires-clause-numbered
write_snapshot-requires-clause-numbered g c =
    (c.in_ok-page.ensures.number ∙ sym (ap (λ (l : List Page). length l + 1) c.requires.empty), tt)

pub write_snapshot-requires-clause-below : goal.write_snapshot-requires-clause-below
write_snapshot-requires-clause-below g c = omega (arith, ap sequence_of c.requires.fresh)

-- ---- crashes

pub returns-in_err-sorted-clause-crashes : goal.returns-in_err-sorted-clause-crashes
returns-in_err-sorted-clause-crashes g c found from state rest none told since is empty =
    untouched_leaves g.met.D.Disk.reads (has_files c.args.vault.now c.requires.can.whole) rest none told since is

pub returns-in_err-page-clause-crashes : goal.returns-in_err-page-clause-crashes
returns-in_err-page-clause-crashes g c found from state rest none told since is empty =
    untouched_leaves g.met.D.Disk.reads (has_files c.args.vault.now c.requires.can.whole) rest none told since is

pub returns-in_err-saved-clause-crashes : goal.returns-in_err-saved-clause-crashes
returns-in_err-saved-clause-crashes g c found from state rest none told since is empty =
    let names = (c.requires.can.stored found.save told.save).names in
    fresh_leaves g.met.D.Disk.reads c.in_ok-page.page _ is.reading state
    (none_before found is.reading is.is c.args.save.now.newest c.requires.fresh names) c.in_ok-page.ensures.first empty
    (rw (c.requires.fresh, c.requires.empty) at c.write_snapshot.ensures.crashes) rest none told since
    (subst (λ x. Names found.save x) c.requires.fresh names)

pub returns-clause-crashes : goal.returns-clause-crashes
returns-clause-crashes g c found from state rest none told since is empty =
    let names = (c.requires.can.stored found.save told.save).names in
    fresh_leaves g.met.D.Disk.reads c.in_ok-page.page _ is.reading state
    (none_before found is.reading is.is c.args.save.now.newest c.requires.fresh names) c.in_ok-page.ensures.first empty
    (rw (c.requires.fresh, c.requires.empty) at c.write_snapshot.ensures.crashes) rest none told since
    (subst (λ x. Names found.save x) c.requires.fresh names)

pub returns-clause-goes_on : goal.returns-clause-goes_on
returns-clause-goes_on g c found from state rest none told since is empty =
    let names = (c.requires.can.stored found.save told.save).names in
    fresh_goes_on g.met.D.Disk.reads c.in_ok-page.page _ is.reading state
    (none_before found is.reading is.is c.args.save.now.newest c.requires.fresh names) c.in_ok-page.ensures.first empty
    (rw (c.requires.fresh, c.requires.empty) at c.in_ok-saved.ensures.goes_on) rest none told since
    (subst (λ x. Names found.save x) c.requires.fresh names)

-- ---- what is answered

pub returns-in_err-sorted-clause-answers : goal.returns-in_err-sorted-clause-answers
returns-in_err-sorted-clause-answers g c =
    let p = err_from_is_err_and c.from_residual.result c.from_residual.ensures.1 in rw (p.1, p.2) (same_none _)

pub returns-in_err-page-clause-answers : goal.returns-in_err-page-clause-answers
returns-in_err-page-clause-answers g c =
    let p = err_from_is_err_and c.from_residual-in_err-page.result c.from_residual-in_err-page.ensures.1 in
    rw (p.1, p.2) (same_none _)

pub returns-in_err-saved-clause-answers : goal.returns-in_err-saved-clause-answers
returns-in_err-saved-clause-answers g c =
    let p = err_from_is_err_and c.from_residual-in_err-saved.result c.from_residual-in_err-saved.ensures.1 in
    rw (p.1, p.2) c.in_err-saved.ensures.answers

pub returns-clause-answers : goal.returns-clause-answers
returns-clause-answers g c = c.in_ok-saved.ensures.answers

-- ---- the first savepoint, and what is left

pub returns-clause-first : goal.returns-clause-first
returns-clause-first g c =
    let e = c.in_ok-saved.ensures in
    let saved_is : c.in_ok-saved.saved ≡ first_saved = e.says.0
    ∙ ap (λ (l : List Page). composed_saved 0 (length l + length (c.in_ok-page.page ∷ []))) c.requires.empty in
    record {
      saved_is = saved_is;
      newest = e.says.1
          ∙ ap (λ (o : Option Savepoint). Some (point_of (sequence_of o + 1) c.in_ok-saved.saved)) c.requires.fresh
          ∙ ap (λ s. Some (point_of 1 s)) saved_is;
      page = c.in_ok-page.page;
      pages = e.pages ∙ ap (λ (l : List Page). l ++ c.in_ok-page.page ∷ []) c.requires.empty;
      first = subst (λ l. IsFirstPage c.in_ok-page.page.words (first_contents l))
          (c.deref.ensures.value ∙ sym c.from_vec.ensures) c.in_ok-page.ensures.first;
      permuted = subst (IsPermutation c.args.decls.now) (sym c.from_vec.ensures) c.in_ok-sorted.ensures.same;
      rising = subst (λ l. Rises ◌<◌ (map id_of l)) (sym c.from_vec.ensures) c.in_ok-sorted.ensures.rising;
    }

pub returns-clause-durable : goal.returns-clause-durable
returns-clause-durable g c = c.in_ok-saved.ensures.durable

pub returns-clause-stands : goal.returns-clause-stands
returns-clause-stands g c = c.in_ok-saved.ensures.stands

pub returns-in_err-sorted-clause-leaves : goal.returns-in_err-sorted-clause-leaves
returns-in_err-sorted-clause-leaves g c = record {
  whole = c.requires.can.whole;
  records = nothing_added (refused_so _ c.from_residual.result c.from_residual.ensures.1) refl refl;
}

pub returns-in_err-page-clause-leaves : goal.returns-in_err-page-clause-leaves
returns-in_err-page-clause-leaves g c = record {
  whole = c.requires.can.whole;
  records = nothing_added (refused_so _ c.from_residual-in_err-page.result c.from_residual-in_err-page.ensures.1) refl
      refl;
}

pub returns-in_err-saved-clause-leaves : goal.returns-in_err-saved-clause-leaves
returns-in_err-saved-clause-leaves g c =
    let refused = refused_so _ c.from_residual-in_err-saved.result c.from_residual-in_err-saved.ensures.1 in
    record {
      whole = c.in_err-saved.ensures.leaves.whole;
      records = rw refused c.in_err-saved.ensures.leaves.records;
    }

pub returns-clause-leaves : goal.returns-clause-leaves
returns-clause-leaves g c = c.in_ok-saved.ensures.leaves
