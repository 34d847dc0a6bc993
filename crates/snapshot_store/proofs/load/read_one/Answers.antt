use Rattle.std.proofs.Common.{arith, rules}
use Rattle.snapshot_store.proofs.load.read_one.Goals as goal

pub returns-then-count-lt512 : goal.returns-then-count-lt512
returns-then-count-lt512 g c = record {
  bytes = tt;
  whole = tt;
  gave = tt;
  number = tt;
  kind = tt;
  short = λ at is file told.
      let there = c.in-Ok.ensures.value file told in
      omega (arith, there.0, c.requires.long file told, c.from-at.ensures, c.if-count-lt512.true);
  never_limit = λ count is. cc is;
  device = λ is. absurd (cc is);
  quiet = tt;
  spared = search rules;
  reads = search rules;
}
