use Rattle.std.proofs.Common.{◌+◌, refl, sym, ◌∙◌, ap, subst, arith}
use Rattle.std.specs.Prelude.{is_some}
use Rattle.log_writer.specs.Points.{sequence_of}
use Rattle.log_writer.specs.Save.{IsStored}
use Rattle.joint_crashes.specs.JointCrash.{parts_of}
use Rattle.joint_crashes.specs.RecordsAdded.{nothing_added, none_due, one_due}
use Rattle.recovery_core.specs.Recoverable.{counting}
use Rattle.checkpoints.specs.Files.{has_files}
use Rattle.checkpoints.specs.SettleAnswers.{IsSaveRefused}
use Rattle.checkpoints.specs.SettleGoesOn.{GoesOn}
use Rattle.checkpoints.specs.SettleLaws.{no_last, point_says, all_zero}
use Rattle.checkpoints.specs.SettleLaws.{says_without_files, stays_without, untouched_leaves}
use Rattle.checkpoints.proofs.Refusals.{lengths_refused}
use Rattle.checkpoints.proofs.without_entries.settle_saved.Goals as goal

pub returns-then-have-snap-clause-crashes : goal.returns-then-have-snap-clause-crashes
returns-then-have-snap-clause-crashes g c found from epoch state rest none told since is lasts =
    untouched_leaves g.met.D.Disk.reads (has_files c.args.vault.now c.requires.can.whole) rest none told since is

pub returns-in-Ok-clause-crashes : goal.returns-in-Ok-clause-crashes
returns-in-Ok-clause-crashes g c found from epoch state rest none told since is lasts =
    let newest = point_says c.args.save.now.newest c.args.saved c.requires.says in
    c.cut_uncounted.ensures.crashes found from epoch state newest.0 rest none told since is
    (no_last (counting is.reading) lasts) newest.1
    (all_zero newest.0 c.args.saved newest.2 (c.count_nothing.ensures.zero.0 c.if-count_nothing.true))

pub returns-in-Err-clause-crashes : goal.returns-in-Err-clause-crashes
returns-in-Err-clause-crashes g c found from epoch state rest none told since is lasts =
    let newest = point_says c.args.save.now.newest c.args.saved c.requires.says in
    c.cut_uncounted.ensures.crashes found from epoch state newest.0 rest none told since is
    (no_last (counting is.reading) lasts) newest.1
    (all_zero newest.0 c.args.saved newest.2 (c.count_nothing.ensures.zero.0 c.if-count_nothing.true))

pub returns-in-Ok-settle_lengths-clause-crashes : goal.returns-in-Ok-settle_lengths-clause-crashes
returns-in-Ok-settle_lengths-clause-crashes g c found from epoch state rest none told since is lasts =
    let newest = point_says c.args.save.now.newest c.args.saved c.requires.says in
    c.settle_lengths.ensures.crashes found from epoch state newest.0 rest none told since is
    (no_last (counting is.reading) lasts) newest.1
    (says_without_files (sequence_of c.args.save.now.newest + 1) newest.0 c.args.saved newest.2)

pub returns-in-Err-settle_lengths-clause-crashes : goal.returns-in-Err-settle_lengths-clause-crashes
returns-in-Err-settle_lengths-clause-crashes g c found from epoch state rest none told since is lasts =
    let newest = point_says c.args.save.now.newest c.args.saved c.requires.says in
    c.settle_lengths.ensures.crashes found from epoch state newest.0 rest none told since is
    (no_last (counting is.reading) lasts) newest.1
    (says_without_files (sequence_of c.args.save.now.newest + 1) newest.0 c.args.saved newest.2)

pub returns-in-Ok-clause-says : goal.returns-in-Ok-clause-says
returns-in-Ok-clause-says g c = (
  stays_without c.args.saved c.requires.ranges (c.count_nothing.ensures.zero.0 c.if-count_nothing.true),
  c.requires.says,
)

pub returns-in-Ok-clause-goes_on : goal.returns-in-Ok-clause-goes_on
returns-in-Ok-clause-goes_on g c found from epoch state rest none told since is lasts =
    let newest = point_says c.args.save.now.newest c.args.saved c.requires.says in
    c.in-Ok.ensures.goes_on found from epoch state newest.0 rest none told since is
    (no_last (counting is.reading) lasts) newest.1
    (all_zero newest.0 c.args.saved newest.2 (c.count_nothing.ensures.zero.0 c.if-count_nothing.true))

pub returns-in-Ok-settle_lengths-clause-goes_on : goal.returns-in-Ok-settle_lengths-clause-goes_on
returns-in-Ok-settle_lengths-clause-goes_on g c found from epoch state rest none told since is lasts =
    let newest = point_says c.args.save.now.newest c.args.saved c.requires.says in
    subst (λ x. GoesOn g.D.Disk.clock g.D.Disk.image_at from is.reading epoch state (sequence_of c.args.save.now.newest) x
    (parts_of c.settle_lengths.new.vault)) (sym c.in-Ok-settle_lengths.ensures.newest)
    (c.in-Ok-settle_lengths.ensures.goes_on found from epoch state newest.0 rest none told since is
    (no_last (counting is.reading) lasts) newest.1
    (says_without_files (sequence_of c.args.save.now.newest + 1) newest.0 c.args.saved newest.2))

-- ---- what is answered

pub returns-then-have-snap-clause-answers : goal.returns-then-have-snap-clause-answers
returns-then-have-snap-clause-answers g c = (refl, refl, refl, c.if-have-snap.true, refl)

pub returns-in-Ok-clause-answers : goal.returns-in-Ok-clause-answers
returns-in-Ok-clause-answers g c =
    let test = c.count_nothing.ensures.test in (
      c.in-Ok.ensures.quiet,
      record { fits = omega (arith, c.if-have-snap.false); left = λ due at. cc (test, due, c.if-count_nothing.true) },
    )

pub returns-in-Err-clause-answers : goal.returns-in-Err-clause-answers
returns-in-Err-clause-answers g c =
    let test = c.count_nothing.ensures.test in (
      c.in-Err.ensures.device c.in-Err.bank refl,
      record { fits = omega (arith, c.if-have-snap.false); left = λ due at. cc (test, due, c.if-count_nothing.true) },
    )

pub returns-in-Ok-settle_lengths-clause-answers : goal.returns-in-Ok-settle_lengths-clause-answers
returns-in-Ok-settle_lengths-clause-answers g c =
    let done = c.in-Ok-settle_lengths.ensures.answers in
    (done.0, record { fits = omega (arith, c.if-have-snap.false); left = λ due at. done.1 at })

pub returns-in-Err-settle_lengths-clause-answers : goal.returns-in-Err-settle_lengths-clause-answers
returns-in-Err-settle_lengths-clause-answers g c =
    subst (λ f. IsSaveRefused g.D.Disk.faults c.args.saved c.args.snap (sequence_of c.args.save.now.newest)
    c.args.vault.now c.settle_lengths.new.vault f) (sym c.fault_of.ensures)
    (lengths_refused g.D.Disk.faults c.args.saved c.args.snap (sequence_of c.args.save.now.newest) c.args.vault.now
    c.settle_lengths.new.vault c.in-Err-settle_lengths.fault (omega (arith, c.if-have-snap.false))
    (sym c.count_nothing.ensures.test ∙ c.if-count_nothing.false) c.in-Err-settle_lengths.ensures.answers)

-- ---- what is left

pub returns-in-Ok-clause-stands : goal.returns-in-Ok-clause-stands
returns-in-Ok-clause-stands g c = record {
  up = c.requires.can.up;
  stored = subst (λ d. IsStored g.D.Disk.tells g.D.Disk.clock g.D.Disk.image_at d c.args.save.now.newest)
      (sym c.cut_uncounted.ensures.others.0) c.requires.can.stored;
  emptied = c.in-Ok.ensures.emptied;
  told = ap (λ d. is_some (g.D.Disk.tells d)) c.cut_uncounted.ensures.others.0;
  told_snaps = ap (λ d. is_some (g.D.Disk.tells d)) c.cut_uncounted.ensures.others.1;
}

pub returns-in-Ok-settle_lengths-clause-stands : goal.returns-in-Ok-settle_lengths-clause-stands
returns-in-Ok-settle_lengths-clause-stands g c = c.in-Ok-settle_lengths.ensures.stands

pub returns-then-have-snap-clause-leaves : goal.returns-then-have-snap-clause-leaves
returns-then-have-snap-clause-leaves g c =
    record { whole = c.requires.can.whole; records = nothing_added refl refl refl }

pub returns-in-Ok-clause-leaves : goal.returns-in-Ok-clause-leaves
returns-in-Ok-clause-leaves g c = record {
  whole = c.cut_uncounted.ensures.whole;
  records = none_due _ (sym c.count_nothing.ensures.test ∙ c.if-count_nothing.true) c.in-Ok.ensures.records;
}

pub returns-in-Err-clause-leaves : goal.returns-in-Err-clause-leaves
returns-in-Err-clause-leaves g c = record {
  whole = c.cut_uncounted.ensures.whole;
  records = none_due _ (sym c.count_nothing.ensures.test ∙ c.if-count_nothing.true) c.in-Err.ensures.records;
}

pub returns-in-Ok-settle_lengths-clause-leaves : goal.returns-in-Ok-settle_lengths-clause-leaves
returns-in-Ok-settle_lengths-clause-leaves g c = record {
  whole = c.settle_lengths.ensures.leaves.whole;
  records = one_due _ (sym c.count_nothing.ensures.test ∙ c.if-count_nothing.false)
      c.in-Ok-settle_lengths.ensures.leaves.records;
}

pub returns-in-Err-settle_lengths-clause-leaves : goal.returns-in-Err-settle_lengths-clause-leaves
returns-in-Err-settle_lengths-clause-leaves g c = record {
  whole = c.settle_lengths.ensures.leaves.whole;
  records = one_due _ (sym c.count_nothing.ensures.test ∙ c.if-count_nothing.false)
      c.in-Err-settle_lengths.ensures.leaves.records;
}
