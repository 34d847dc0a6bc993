use Rattle.std.proofs.Common.{◌≡◌, ◌<◌, Err, get_or, sym, ap, subst, ◌∙◌, arith}
use Rattle.std.proofs.lemmas.Option.{same_Some}
use Rattle.std.proofs.lemmas.Result.{err_from_is_err_and}
use Rattle.outside.specs.declared.device.Device.TheVariants.{Bank}
use Rattle.recovery_core.specs.EntriesLast.{TakesIn, all_entries}
use Rattle.joint_crashes.specs.VaultReads.{RoseIn, vault_reads_none, vault_reads_then, quiet_then}
use Rattle.recovery_core.proofs.EntriesDevices.{maps_reads, maps_damaged, maps_rose, maps_found, maps_quiet, maps_spared}
use Rattle.recovery_core.proofs.EntriesFit.{none_last, more_last, mapped_count, all_may_count}
use Rattle.recovery_core.proofs.EntriesFiles.{CountedSoFar, none_counted, counted_more, counted_all}
use Rattle.recovery_core.proofs.EntriesFiles.{breaks_next, reads_next}
use Rattle.recovery_core.proofs.Exits.{memory_told, not_err, same_err}
use Rattle.recovery_core.proofs.entries.read_entries.Goals as goal

pub loop-bank-init : goal.loop-bank-init
loop-bank-init g c = record {
  reads = vault_reads_none c.args.vault.now;
  quiet = λ device was now before after. ap g.D.Disk.faults (sym (same_Some was now (sym before ∙ after)));
  so_far = λ found told p same. none_counted c.new-last.result c.new-last.ensures;
  some = none_last c.args.decls.now c.args.from c.args.to c.new-last.result c.new-last.ensures;
}

pub returns-in-Err-clause-damaged : goal.returns-in-Err-clause-damaged
returns-in-Err-clause-damaged g c device at is found told p same =
    let n = c.loop-bank.bank in
    let below : n < 16 = omega arith in
    let cause = c.fault_of.ensures.damaged device at (same_err _ _ is) in
    let inv = c.loop-bank.invariant in (
      n,
      cause.0,
      breaks_next n (get_or c.args.lengths.now n 0) at c.loop-bank.last (inv.so_far found told p same) below
          (ap (λ l. get_or l n 0) (sym same))
          (maps_damaged c.args.vault.now found at c.map_in.ensures.maps c.requires.whole inv.reads below told
          (c.in-Err.is ∙ ap Err cause.1)),
    )

pub returns-in-Err-clause-before : goal.returns-in-Err-clause-before
returns-in-Err-clause-before g c device is found told p same =
    let n = c.loop-bank.bank in
    let below : n < 16 = omega arith in
    let cause = c.fault_of.ensures.device device (same_err _ _ is) in
    (n, cause.0, reads_next n c.loop-bank.last (c.loop-bank.invariant.so_far found told p same) below)

pub loop-bank-preserved : goal.loop-bank-preserved
loop-bank-preserved g c =
    let n = c.loop-bank.bank in
    let below : n < 16 = omega arith in
    let inv = c.loop-bank.invariant in
    record {
      reads = vault_reads_then inv.reads (maps_reads c.map_in.ensures.maps);
      quiet = quiet_then c.map_in.new.vault inv.reads inv.quiet (maps_quiet c.in-Ok.ensures.maps);
      so_far = λ found told p same.
          counted_more n
          (get_or c.args.lengths.now n 0) c.loop-bank.last c.take_in_buckets.new.self c.in-Ok.buckets
          (inv.so_far found told p same)
          c.requires.rising (ap (λ l. get_or l n 0) (sym same))
          (maps_found c.args.vault.now found c.in-Ok.ensures.maps c.requires.whole inv.reads below told)
          (subst (λ bs. TakesIn c.loop-bank.last c.take_in_buckets.new.self
          (all_entries bs)) c.as_slice.ensures c.in_ok-take_in_buckets.ensures);
      some = more_last c.args.decls.now c.args.from c.args.to c.loop-bank.last c.take_in_buckets.new.self
          c.in-Ok.buckets inv.some
          (mapped_count c.args.decls.now c.args.from c.args.to n c.in-Ok.ensures.lines.0 c.in-Ok.buckets
          c.in-Ok.ensures.lines.1)
          (subst (λ bs. TakesIn c.loop-bank.last c.take_in_buckets.new.self
          (all_entries bs)) c.as_slice.ensures c.in_ok-take_in_buckets.ensures);
    }

pub returns-clause-lasts : goal.returns-clause-lasts
returns-clause-lasts g c found told p same =
    let all : c.loop-bank.bank ≡ 16 = omega arith in
    counted_all c.loop-bank.last
    (subst (λ n. CountedSoFar c.args.decls.now p found.bank c.args.from c.args.to n c.loop-bank.last) all
    (c.loop-bank.invariant.so_far found told p same))

pub returns-clause-may_count : goal.returns-clause-may_count
returns-clause-may_count g c = all_may_count c.args.decls.now c.args.from c.args.to c.loop-bank.last
    c.loop-bank.invariant.some

-- ---- the devices

pub returns-in-Err-clause-devices : goal.returns-in-Err-clause-devices
returns-in-Err-clause-devices g c =
    let n = c.loop-bank.bank in
    let below : n < 16 = omega arith in
    let inv = c.loop-bank.invariant in
    record {
      reads = vault_reads_then inv.reads (maps_reads c.map_in.ensures.maps);
      device = λ device is.
          let cause = c.fault_of.ensures.device device (same_err _ _ is) in
          subst (λ d. RoseIn g.D.Disk.faults d c.args.vault.now c.map_in.new.vault) (sym cause.0)
          (maps_rose c.args.vault.now c.map_in.ensures.maps c.requires.whole inv.reads below
          (c.in-Err.is ∙ ap Err cause.1));
      spared = λ not. quiet_then c.map_in.new.vault inv.reads inv.quiet (maps_spared c.map_in.ensures.maps (λ is.
          not (Bank n) (ap Err (c.fault_of.ensures.failed (same_err _ _ (sym c.in-Err.is ∙ is))))));
    }

pub returns-in_err-take_in_buckets-clause-devices : goal.returns-in_err-take_in_buckets-clause-devices
returns-in_err-take_in_buckets-clause-devices g c =
    let p = err_from_is_err_and c.from_residual.result c.from_residual.ensures.1 in
    let inv = c.loop-bank.invariant in
    record {
      reads = vault_reads_then inv.reads (maps_reads c.map_in.ensures.maps);
      device = λ device is. absurd (memory_told _ _ _ p.1 p.2 is);
      spared = λ not. quiet_then c.map_in.new.vault inv.reads inv.quiet (maps_quiet c.in-Ok.ensures.maps);
    }

pub returns-clause-devices : goal.returns-clause-devices
returns-clause-devices g c = record {
  reads = c.loop-bank.invariant.reads;
  device = λ device is. absurd (not_err _ _ is);
  spared = λ not. c.loop-bank.invariant.quiet;
}
