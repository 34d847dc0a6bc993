-- What comes of the cuts that are left comes of all.
use Rattle.std.proofs.Common.{◌≡◌, ◌+◌, ℕ, Option, drop}
use Rattle.log_writer.specs.Vault.{IsWhole}
use Rattle.log_writer.specs.declared.vault.Vault.{Vault}
use Rattle.round_engine.specs.Sides.{closed_numbers}
use Rattle.round_engine.specs.Swaps.{CutsBanks}
use Rattle.round_engine.proofs.swaps.cut_closed.Given as goal

abbrev pub invariant-loop-worker : goal.invariant-loop-worker
invariant-loop-worker g l = record {
  whole : IsWhole l.vault;
  room : l.fn.vault.cuts.room ≡ l.vault.cuts.room + l.worker;
  save : l.vault.save ≡ l.fn.vault.save;
  rest : (failed : Option ℕ) (end : Vault g.row.D.Denot)
      → CutsBanks g.D.Disk.tells g.D.Disk.clock g.D.Disk.image_at g.D.Disk.faults l.after (drop l.worker (closed_numbers l.side))
      failed l.vault end
      → CutsBanks g.D.Disk.tells g.D.Disk.clock g.D.Disk.image_at g.D.Disk.faults l.after (closed_numbers l.side) failed l.fn.vault end;
}
