use Rattle.std.proofs.Common.{◌<◌, List, map, refl, sym, ap, subst, ◌∙◌}
use Rattle.std.specs.FinMap.{get, get-empty}
use Rattle.std.specs.Option.{option_map}
use Rattle.std.proofs.lemmas.Result.{err_from_is_err_and}
use Rattle.serial_model.specs.Keys.{key_cmp, id_of}
use Rattle.serial_model.specs.State.{State}
use Rattle.serial_model.specs.declared.decl.Decl.{Decl}
use Rattle.wire_form.specs.Items.{Rises}
use Rattle.log_writer.specs.Points.{saved_of}
use Rattle.recovery_core.specs.EntriesLast.{EntryMap}
use Rattle.recovery_core.proofs.Exits.{handed_on, none_before, reads_handed_on, reads_well}
use Rattle.recovery_core.proofs.Recovering.{fresh_recovers}
use Rattle.recovery_core.proofs.recovery.recover_fresh.Goals as goal

pub returns-in_err-store-clause-damaged : goal.returns-in_err-store-clause-damaged
returns-in_err-store-clause-damaged g c device at same file told =
    let p = err_from_is_err_and c.from_residual.result c.from_residual.ensures.1 in
    let short = c.in_err-store.ensures.damaged device at (handed_on _ _ _ p.0 p.1 p.2 same) in
    none_before _ (short.1 file told).0

pub returns-clause-recovers : goal.returns-clause-recovers
returns-clause-recovers g c found names =
    fresh_recovers found _ names c.requires.fresh refl c.new-2.ensures c.new.ensures c.in_ok-store.ensures.count
    c.new-3.ensures c.new-4.ensures

pub returns-clause-up : goal.returns-clause-up
returns-clause-up g c = record {
  saved = sym (ap (option_map saved_of) c.requires.fresh);
  ranges = tt;
  up = c.requires.up;
  sound = c.in_ok-store.ensures.sound;
  epoch = refl;
  count = c.in_ok-store.ensures.count;
  rising = subst (λ (l : List Decl). Rises ◌<◌ (map id_of l)) (sym c.new.ensures) tt;
  snapshots = (
    c.new-3.ensures,
    λ key. ap (λ (m : EntryMap). get m key) c.new-4.ensures ∙ get-empty key_cmp key,
    λ key. ap (λ (s : State). get s key) c.new-2.ensures ∙ get-empty key_cmp key,
  );
}

pub returns-in_err-store-clause-devices : goal.returns-in_err-store-clause-devices
returns-in_err-store-clause-devices g c =
    let p = err_from_is_err_and c.from_residual.result c.from_residual.ensures.1 in
    reads_handed_on c.from_residual.result _ p.0 p.1 p.2 c.in_err-store.ensures.devices

pub returns-clause-devices : goal.returns-clause-devices
returns-clause-devices g c = reads_well _ _ c.in_ok-store.ensures.devices
