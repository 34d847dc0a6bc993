use Rattle.std.proofs.Common.{◌≡◌, ℕ, inl, inr, refl, ap, subst, ◌∙◌}
use Rattle.std.specs.Prelude.{Err, is_some, length}
use Rattle.lists.specs.declared.memory.OrMemory.TheVariants.{Fault, Memory}
use Rattle.outside.specs.Faults.{Rose}
use Rattle.snapshot_store.specs.declared.store.StoreFault.{StoreFault}
use Rattle.snapshot_store.specs.declared.store.StoreFault.TheVariants.{Device as Failed}
use Rattle.snapshot_store.proofs.Appended.{refused_failed, same_store, write_keeps, synced_keeps, some_of}
use Rattle.snapshot_store.proofs.store.SnapStore.append_durably.Goals as goal

pub returns-in-Err : goal.returns-in-Err
returns-in-Err g c =
    let e = c.in-Err.ensures in
    let failed : (fault : StoreFault) → c.in-Err.fault ≡ Fault fault → fault ≡ Failed = λ fault here.
    refused_failed c.in-Err.fault fault (length c.args.self.now.pages) (length c.args.pages.now) here c.requires.few
    (λ at same. e.never_short at (ap Err same)) (λ n same. (e.limit n).0 (ap Err same)) in
    record {
      pages = tt;
      grown = inl e.kept;
      sound = tt;
      holds = tt;
      durable = tt;
      runs = write_keeps c.append.ensures.writes.moments;
      told = e.writes.told;
      causes = λ fault is.
          let here : c.in-Err.fault ≡ Fault fault = cc is in
          failed fault here;
      unsound = λ fault is.
          let here : c.in-Err.fault ≡ Fault fault = cc is in
          e.sound.1 (ap Err (here ∙ ap (λ f. Fault f) (failed fault here)));
      device = λ fault is.
          let here : c.in-Err.fault ≡ Fault fault = cc is in
          e.device (ap Err (here ∙ ap (λ f. Fault f) (failed fault here)));
      quiet = tt;
      untouched = λ is.
          let here : c.in-Err.fault ≡ Memory = cc is in (
            e.untouched (λ device. cc (here, device)),
            same_store c.args.self.now c.append.new.self e.kept c.requires.sound
                (λ unsound. let device = e.sound.0 unsound in cc (here, device)),
          );
    }

pub returns-in-Ok-sync : goal.returns-in-Ok-sync
returns-in-Ok-sync g c =
    let a = c.in-Ok.ensures in
    let s = c.in-Ok-sync.ensures in
    record {
      pages = s.pages ∙ a.pages;
      grown = tt;
      sound = s.sound;
      holds = s.holds;
      durable = λ bytes told.
          let written = some_of (g.D.Disk.tells c.append.new.disk) (c.append.ensures.writes.told ∙ ap is_some told) in
          s.durable written.0 written.1;
      runs = synced_keeps c.append.ensures.writes.moments c.sync.ensures.syncs.moments;
      told = ap is_some s.syncs.told ∙ a.writes.told;
      causes = λ fault is. absurd (cc is);
      unsound = λ fault is. absurd (cc is);
      device = λ fault is. absurd (cc is);
      quiet = s.syncs.quiet refl ∙ a.writes.quiet refl;
      untouched = λ is. absurd (cc is);
    }

pub returns-in-Err-sync : goal.returns-in-Err-sync
returns-in-Err-sync g c =
    let a = c.in-Ok.ensures in
    let s = c.in-Err-sync.ensures in
    record {
      pages = tt;
      grown = inr (s.pages ∙ a.pages);
      sound = tt;
      holds = tt;
      durable = tt;
      runs = synced_keeps c.append.ensures.writes.moments c.sync.ensures.syncs.moments;
      told = ap is_some s.syncs.told ∙ a.writes.told;
      causes = λ fault is. let failed = s.device.0 in cc (is, failed);
      unsound = λ fault is. s.sound;
      device = λ fault is.
          subst (λ (n : ℕ). Rose n (g.D.Disk.faults c.sync.new.disk)) (a.writes.quiet refl) s.device.1;
      quiet = tt;
      untouched = λ is. absurd (cc is);
    }
