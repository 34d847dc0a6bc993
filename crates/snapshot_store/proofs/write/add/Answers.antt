use Rattle.std.proofs.Common.{◌*◌, ◌∙◌, length, ap, arith}
use Rattle.snapshot_store.proofs.Writes.{reaches, writes_same}
use Rattle.snapshot_store.proofs.write.add.Goals as goal

pub write-requires : goal.write-requires
write-requires g c file told =
    let long = reaches (g.D.Disk.tells c.args.disk.now) c.args.there.now.items c.requires.whole c.requires.holds file told in
    omega (arith, long, ap length c.reserve.ensures.items)

pub returns-clause-writes : goal.returns-clause-writes
returns-clause-writes g c =
    writes_same (512 * c.len.result) _ c.deref.result.now _
    (omega (arith, ap length c.reserve.ensures.items))
    (c.deref.ensures.value ∙ c.in-Ok.ensures.bytes)
    (record {
      written = λ done. cc;
      torn = λ failed. c.in-Err.ensures.torn;
      told = c.in-Err.ensures.told;
      moments = c.in-Err.ensures.goes.moments;
      each = c.in-Err.ensures.goes.each;
      later = c.in-Err.ensures.goes.cause.later;
      quiet = λ done. cc;
    })
