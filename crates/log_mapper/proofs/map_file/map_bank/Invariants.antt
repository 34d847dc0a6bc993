use Rattle.std.proofs.Common.{◌≡◌, ◌≤◌, ◌-◌}
use Rattle.outside.specs.Reads.{OnlyReads}
use Rattle.log_mapper.specs.SoFar.{IsMappedTo}
use Rattle.log_mapper.proofs.map_file.map_bank.Given as goal

-- the lines up to here were mapped, and nothing was changed
abbrev pub invariant-loop-so_far : goal.invariant-loop-so_far
invariant-loop-so_far g l = record {
  within : l.so_far.at ≤ l.length;
  mapped : IsMappedTo (g.D.Disk.tells l.fn.disk) l.bank l.decls l.from l.to l.length l.so_far;
  quiet : g.D.Disk.faults l.disk ≡ g.D.Disk.faults l.fn.disk;
  reads : OnlyReads g.D.Disk.tells g.D.Disk.clock g.D.Disk.image_at g.D.Disk.faults l.fn.disk l.disk;
}

abbrev pub decreases-loop-so_far : goal.decreases-loop-so_far
decreases-loop-so_far g l = l.length - l.so_far.at
