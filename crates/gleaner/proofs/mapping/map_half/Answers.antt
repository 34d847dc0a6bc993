-- One closed log file after another is mapped.
use Rattle.std.proofs.Common.{◌∙◌, ◌++◌, ◌+◌, [], Some, Err, ap, arith, refl, subst, sym}
use Rattle.std.proofs.lemmas.Option.{same_Some}
use Rattle.outside.specs.Reads.{OnlyReads}
use Rattle.bucket_queues.specs.PassedLaws.{passed_none, passed_then}
use Rattle.bucket_queues.specs.Threads.{fault_in}
use Rattle.gleaner.specs.declared.gleaning.GleanFault.TheVariants as faults
use Rattle.gleaner.specs.Glean.{bank_of}
use Rattle.outside.specs.declared.device.Device.TheVariants as devices
use Rattle.gleaner.proofs.HalfLaws.{fault_is}
use Rattle.gleaner.proofs.InTurn.{item_at, mapped_more, mapped_none, quiet_at, quiet_one, reads_none, reads_one}
use Rattle.gleaner.proofs.mapping.map_half.Goals as goal

pub loop-at-init : goal.loop-at-init
loop-at-init g c = record {
  same = ((refl, refl, refl), (refl, refl, refl));
  buckets = [];
  mapped = mapped_none c.args.files.now;
  put = passed_none _ _ _;
  left = λ at above. refl;
  reads = λ at was is here there. subst (OnlyReads g.D.Disk.tells g.D.Disk.clock g.D.Disk.image_at g.D.Disk.faults was)
      (same_Some was is (sym here ∙ there)) (reads_none was);
  quiet = λ at was is here there. sym (ap g.D.Disk.faults (same_Some was is (sym here ∙ there)));
  many = refl;
}

pub returns-in-Err-clause-leaves : goal.returns-in-Err-clause-leaves
returns-in-Err-clause-leaves g c =
    let so = c.loop-at.invariant in
    let at = c.loop-at.at in
    let e = c.in-Err.ensures in
    record {
      many = e.others.many ∙ so.many;
      reads = reads_one c.args.files.now c.loop-at.files c.map_at.new.files at so.reads e.reads e.others.others so.many;
      quiet = λ place was is here there fine.
          quiet_at c.args.files.now c.loop-at.files c.map_at.new.files at place so.quiet
          (λ same was' is' h t. e.quiet was' is' h t (λ told.
          fine (ap fault_in told ∙ ap (λ n. Some (faults.Device (devices.Bank (bank_of c.args.half.now.closed.odd (c.args.half.now.first + n))))) (sym same))))
          e.others.others so.many was is here there;
      damaged = λ device place told.
          let d = e.damaged device place (ap Err (fault_is c.in-Err.fault (faults.Damaged device place) told)) in
          record {
            at = at;
            file = d.0;
            there = sym (so.left at (omega arith)) ∙ d.1;
            device_is = d.2;
            damaged = d.3;
            buckets = so.buckets;
            before = so.mapped;
          };
      device = λ device told.
          let d = e.device device (ap Err (fault_is c.in-Err.fault (faults.Device device) told)) in
          record {
            at = at;
            was = d.0;
            is = d.1;
            there = sym (so.left at (omega arith)) ∙ d.2;
            there_now = d.3;
            device_is = d.4;
            rose = d.5;
          };
      only = λ f told. e.only f (ap Err (fault_is c.in-Err.fault f told));
    }

pub loop-at-preserved : goal.loop-at-preserved
loop-at-preserved g c =
    let so = c.loop-at.invariant in
    let at = c.loop-at.at in
    let file = item_at c.loop-at.files at (omega (arith, c.loop-at-test.true, so.many, c.requires.half.many)) in
    let e = c.in-Ok.ensures in
    let one = e.mapped file.0 file.1 in
    record {
      same = (
        (e.same.0.0 ∙ so.same.0.0, e.same.0.1 ∙ so.same.0.1, e.same.0.2 ∙ so.same.0.2),
        (e.same.1.0 ∙ so.same.1.0, e.same.1.1 ∙ so.same.1.1, e.same.1.2 ∙ so.same.1.2),
      );
      buckets = so.buckets ++ one.0;
      mapped = mapped_more c.args.files.now file.0 so.buckets one.0 at so.mapped (sym (so.left at (omega arith)) ∙ file.1) one.2;
      put = passed_then _ _ _ _ _ _ _ _ _ _ _ so.put one.1;
      left = λ place above. e.others.others place (λ same. omega (arith, same, above)) ∙ so.left place (omega (arith, above));
      reads = reads_one c.args.files.now c.loop-at.files c.map_at.new.files at so.reads e.reads e.others.others so.many;
      quiet = quiet_one c.args.files.now c.loop-at.files c.map_at.new.files at so.quiet
          (λ was is here there. e.quiet was is here there (λ no. absurd (let bad = no in cc))) e.others.others so.many;
      many = e.others.many ∙ so.many;
    }
