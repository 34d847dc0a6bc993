use Rattle.std.proofs.Common.{◌≡◌, ◌∙◌, [], ℕ, List, Err, append-nil, ap, refl, rules, subst, sym}
use Rattle.std.proofs.lemmas.Option.{same_Some}
use Rattle.outside.specs.Reads.{OnlyReads}
use Rattle.lists.specs.declared.memory.OrMemory.TheVariants as or
use Rattle.std.proofs.lemmas.Result.{on_ok_weaker}
use Rattle.outside.specs.declared.device.Device.{Device}
use Rattle.outside.specs.declared.device.Device.TheVariants.{Save, Snaps, Bank}
use Rattle.bucket_queues.specs.ThreadLaws.{gathered_last}
use Rattle.gleaner.specs.Glean.{DeviceFailed, HasFailed}
use Rattle.gleaner.specs.declared.closed.Closed.{Closed}
use Rattle.gleaner.specs.declared.gleaning.GleanFault.TheVariants as faults
use Rattle.gleaner.proofs.Exits.{none_beside, not_err, not_ok, not_snap, not_true, same_err}
use Rattle.gleaner.proofs.InTurn.{reads_none}
use Rattle.gleaner.proofs.Placed.{may_reduce}
use Rattle.gleaner.proofs.gleaning.glean.Goals as goal

-- the snapshots are none of the closed log files
no_snaps : {D : Type 0} (count : D → ℕ) (closed : Closed) (old new : List D) → HasFailed count closed old new Snaps → ⊥
no_snaps count closed old new failed = let no = failed.1.4 in cc

-- a closed log file that failed is a device that did
of_file : {D : Type 0} (count : D → ℕ) (closed : Closed) (snaps_was snaps : D) (old new : List D) (device : Device)
    → HasFailed count closed old new device → DeviceFailed count closed snaps_was snaps old new device
of_file count closed snaps_was snaps old new Save failed = let no = failed.1.4 in cc
of_file count closed snaps_was snaps old new Snaps failed = absurd (no_snaps count closed old new failed)
of_file count closed snaps_was snaps old new (Bank number) failed = failed

pub add-requires-clause-can : goal.add-requires-clause-can
add-requires-clause-can g c =
    let can = c.requires.can (λ none. absurd (not_true (sym c.if-count_nothing.false ∙ c.count_nothing.ensures
    ∙ none))) in
    let mapped = c.in-Ok.ensures.mapped in (
      can.0,
      (may_reduce c.args.files.now mapped.0 can.1 c.requires.workers mapped.1).can c.in-Ok.run'
          (gathered_last mapped.0 c.in-Ok.run' mapped.2),
    )

pub returns-in-Ok-clause-gleaned : goal.returns-in-Ok-clause-gleaned
returns-in-Ok-clause-gleaned g c epoch new is =
    let mapped = c.in-Ok.ensures.mapped in
    let made = c.add.ensures.gleaned epoch new (sym c.alone-in-Ok.ensures.answer ∙ is) in (
      made.0,
      record {
        buckets = mapped.0;
        mapped = mapped.1;
        made = made.1;
        added = made.2;
        composes = made.4 mapped.0 (gathered_last mapped.0 c.in-Ok.run' mapped.2);
        within = made.3;
      },
    )

pub returns-in-Ok-clause-durable : goal.returns-in-Ok-clause-durable
returns-in-Ok-clause-durable g c = rw c.alone-in-Ok.ensures.answer
    (on_ok_weaker c.add.result (λ durable bytes told some. durable bytes told) c.add.ensures.durable)

pub returns-in-Ok-clause-refused : goal.returns-in-Ok-clause-refused
returns-in-Ok-clause-refused g c =
    let mapped = c.in-Ok.ensures.mapped in
    let told = sym c.alone-in-Ok.ensures.answer in record {
      damaged = λ device at is. absurd (c.add.ensures.undamaged device at (told ∙ is));
      device = λ device is.
          let failed = c.add.ensures.device device (told ∙ is) in
          subst (DeviceFailed g.D.Disk.faults c.args.closed.now c.args.snaps.now c.add.new.snaps c.args.files.now
          c.run_of_closed.new.files) (sym failed.0) failed.1;
      deep = λ is. record {
        buckets = mapped.0;
        mapped = mapped.1;
        deep = c.add.ensures.deep (told ∙ is) mapped.0 (gathered_last mapped.0 c.in-Ok.run' mapped.2);
      };
      limit = λ have new most is.
          let l = c.add.ensures.limit have new most (told ∙ is) in (
            l.0,
            l.1,
            l.2,
            record {
              buckets = mapped.0;
              mapped = mapped.1;
              many = l.3 mapped.0 (gathered_last mapped.0 c.in-Ok.run' mapped.2);
            },
          );
      also = λ device is. absurd (none_beside _ device c.alone-in-Ok.ensures.beside is);
    }

pub returns-in-Ok-clause-pages : goal.returns-in-Ok-clause-pages
returns-in-Ok-clause-pages g c = rw c.alone-in-Ok.ensures.answer c.add.ensures.pages

pub returns-in-Ok-clause-files : goal.returns-in-Ok-clause-files
returns-in-Ok-clause-files g c = record {
  many = c.run_of_closed.ensures.length;
  reads = c.run_of_closed.ensures.reads;
  quiet = λ worker was is at there fine alone. c.in-Ok.ensures.quiet worker was is at there;
}

-- reading the closed log files refuses damage and what failed alone
pub returns-in-Err-clause-refused : goal.returns-in-Err-clause-refused
returns-in-Err-clause-refused g c =
    let why = c.in-Err.ensures.refused in record {
      damaged = λ device at is. why.damaged device at (same_err _ _ is);
      device = λ device is. of_file g.D.Disk.faults c.args.closed.now c.args.snaps.now c.args.snaps.now
          c.args.files.now c.run_of_closed.new.files device (why.device device (same_err _ _ is));
      deep = λ is. absurd (why.only faults.Deep (same_err _ _ is));
      limit = λ have new most is. absurd (why.only (faults.Limit have new most) (same_err _ _ is));
      also = λ device is. why.beside_failed device is;
    }

pub returns-in-Err-clause-pages : goal.returns-in-Err-clause-pages
returns-in-Err-clause-pages g c = record {
  grows = ([], sym (append-nil c.args.store.now.pages));
  front = search rules;
  told = refl;
  sound = tt;
  holds = tt;
  kept = λ other. (refl, refl);
  unsound = λ is. absurd (no_snaps g.D.Disk.faults c.args.closed.now c.args.files.now c.run_of_closed.new.files
      (c.in-Err.ensures.refused.device Snaps (same_err _ _ is)));
  quiet = λ fine. refl;
}

pub returns-in-Err-clause-files : goal.returns-in-Err-clause-files
returns-in-Err-clause-files g c = record {
  many = c.run_of_closed.ensures.length;
  reads = c.run_of_closed.ensures.reads;
  quiet = λ worker was is at there fine alone. c.in-Err.ensures.refused.quiet worker was is at there
      (λ told. fine (ap Err told)) alone;
}

pub returns-then-count_nothing-clause-refused : goal.returns-then-count_nothing-clause-refused
returns-then-count_nothing-clause-refused g c =
    let told = sym c.alone.ensures.answer in record {
      damaged = λ device at is. absurd (not_err _ _ (told ∙ is));
      device = λ device is. absurd (not_err _ _ (told ∙ is));
      deep = λ is. absurd (not_err _ _ (told ∙ is));
      limit = λ have new most is. absurd (not_err _ _ (told ∙ is));
      also = λ device is. absurd (none_beside _ device c.alone.ensures.beside is);
    }

-- ---- what is told of no bytes that count

pub returns-then-count_nothing-clause-none : goal.returns-then-count_nothing-clause-none
returns-then-count_nothing-clause-none g c = (
  λ is. sym c.count_nothing.ensures ∙ c.if-count_nothing.true,
  λ none. c.alone.ensures.answer,
)

pub returns-then-count_nothing-clause-untouched : goal.returns-then-count_nothing-clause-untouched
returns-then-count_nothing-clause-untouched g c none = (refl, refl, refl)

pub returns-then-count_nothing-clause-gleaned : goal.returns-then-count_nothing-clause-gleaned
returns-then-count_nothing-clause-gleaned g c epoch new is = absurd (not_snap epoch new (sym c.alone.ensures.answer
    ∙ is))

pub returns-then-count_nothing-clause-durable : goal.returns-then-count_nothing-clause-durable
returns-then-count_nothing-clause-durable g c = rw c.alone.ensures.answer
    (λ bytes told some. absurd (some (sym c.count_nothing.ensures ∙ c.if-count_nothing.true)))

pub returns-then-count_nothing-clause-pages : goal.returns-then-count_nothing-clause-pages
returns-then-count_nothing-clause-pages g c = rw c.alone.ensures.answer (record {
  grows = ([], sym (append-nil c.args.store.now.pages));
  front = search rules;
  told = refl;
  sound = c.requires.sound;
  holds = c.requires.holds;
  kept = tt;
  unsound = λ is. absurd (not_err _ _ is);
  quiet = λ fine. refl;
})

pub returns-then-count_nothing-clause-files : goal.returns-then-count_nothing-clause-files
returns-then-count_nothing-clause-files g c = record {
  many = refl;
  reads = λ worker was is at there. subst
      (OnlyReads g.D.Disk.tells g.D.Disk.clock g.D.Disk.image_at g.D.Disk.faults was)
      (same_Some was is (sym at ∙ there)) (reads_none was);
  quiet = λ worker was is at there fine alone. sym (ap g.D.Disk.faults (same_Some was is (sym at ∙ there)));
}

pub returns-in-Ok-clause-none : goal.returns-in-Ok-clause-none
returns-in-Ok-clause-none g c = (
  λ is. absurd (c.add.ensures.some (sym c.alone-in-Ok.ensures.answer ∙ is)),
  λ none. absurd (not_true (sym c.if-count_nothing.false ∙ c.count_nothing.ensures ∙ none)),
)

pub returns-in-Ok-clause-untouched : goal.returns-in-Ok-clause-untouched
returns-in-Ok-clause-untouched g c none = absurd (not_true (sym c.if-count_nothing.false ∙ c.count_nothing.ensures
    ∙ none))

pub returns-in-Err-clause-none : goal.returns-in-Err-clause-none
returns-in-Err-clause-none g c = (
  λ is. absurd (not_ok _ _ is),
  λ none. absurd (not_true (sym c.if-count_nothing.false ∙ c.count_nothing.ensures ∙ none)),
)

pub returns-in-Err-clause-untouched : goal.returns-in-Err-clause-untouched
returns-in-Err-clause-untouched g c none = absurd (not_true (sym c.if-count_nothing.false ∙ c.count_nothing.ensures
    ∙ none))

pub returns-in-Err-clause-gleaned : goal.returns-in-Err-clause-gleaned
returns-in-Err-clause-gleaned g c epoch new is = absurd (not_ok _ _ is)

pub returns-in-Err-clause-durable : goal.returns-in-Err-clause-durable
returns-in-Err-clause-durable g c = tt
