use Rattle.std.proofs.Common.{refl, arith, rules}
use Rattle.outside.proofs.file_disk.FileDiskDisk.cut.Goals as goal

pub returns-clause-goes : goal.returns-clause-goes
returns-clause-goes c = record {
  moments = record {
    later = omega (arith, c.in_ok-begin.ensures.ok);
    kept = λ m d le left. left;
    no_new = λ m d le left. left;
    from = λ m d gt le left. (d, left, record { front = refl; no_longer = omega arith });
  };
  each = record { each = λ m d e gt le was step. tt };
  ticks = search rules;
  cause = search rules;
}
