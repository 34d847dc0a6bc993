use Rattle.std.proofs.Common.{rules, arith}
use Rattle.outside.proofs.MadeCalls.{calls_none}
use Rattle.outside.proofs.memory_disk.MemDiskDisk.cut.Goals as goal

pub returns-in_default-clause-goes : goal.returns-in_default-clause-goes
returns-in_default-clause-goes c =
    calls_none _ _ _ _ _ c.refuse.ensures.first (search rules) (omega arith) c.refuse.ensures.later c.refuse.ensures.rose
