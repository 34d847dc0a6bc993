use Rattle.std.proofs.Common.{◌≡◌, ◌+◌, ◌≤◌, ℕ, length, take}
use Rattle.std.specs.Prelude.{Some, [], IsSome}
use Rattle.std.specs.List.{Contains}
use Rattle.outside.specs.declared.device.Device.TheVariants.{Bank}
use Rattle.log_writer.specs.Vault.{disk_in, IsWhole}
use Rattle.log_writer.specs.Records.{AddsCuts}
use Rattle.joint_crashes.specs.JointCrash.{Moments, parts_of}
use Rattle.joint_crashes.specs.Story.{Story}
use Rattle.joint_crashes.specs.Cutting.{FaultsLast, FaultsStand, MayCut, AreCut, AreToldIn}
use Rattle.joint_crashes.proofs.cutting.cut_banks.Given as goal

abbrev pub invariant-loop-number : goal.invariant-loop-number
invariant-loop-number g l = record {
  there : (n : ℕ) → Contains l.numbers n → IsSome (disk_in l.vault (Bank n));
  still : (n : ℕ) → IsSome (disk_in l.fn.vault (Bank n)) → IsSome (disk_in l.vault (Bank n));
  room : length l.numbers ≤ l.vault.cuts.room + l.number-index;
  save : l.vault.save ≡ l.fn.vault.save;
  snaps : l.vault.snaps ≡ l.fn.vault.snaps;
  ties : l.vault.ties ≡ l.fn.vault.ties;
  whole : IsWhole l.fn.vault → IsWhole l.vault;
  adds : AddsCuts l.after (take l.number-index l.numbers) l.fn.vault.cuts.items l.vault.cuts.items;
  kept : (m : ℕ) → (Contains (take l.number-index l.numbers) m → ⊥)
      → disk_in l.vault (Bank m) ≡ disk_in l.fn.vault (Bank m);
  later : FaultsLast g.D.Disk.faults l.fn.vault l.vault;
  stand : FaultsStand g.D.Disk.faults l.fn.vault l.vault;
  emptied : AreToldIn g.D.Disk.tells l.numbers (parts_of l.fn.vault)
      → ((n : ℕ) (bank : g.row.D.Denot) → Contains (take l.number-index l.numbers) n
      → disk_in l.vault (Bank n) ≡ Some bank → g.D.Disk.tells bank ≡ Some [])
      × AreToldIn g.D.Disk.tells l.numbers (parts_of l.vault);
  cut : (story : Story) (from : Moments) (low : ℕ)
      → MayCut g.D.Disk.clock g.D.Disk.image_at g.D.Disk.tells story from low l.after l.numbers (parts_of l.fn.vault)
      → AreCut g.D.Disk.clock g.D.Disk.image_at story from low l.after (take l.number-index l.numbers)
      (parts_of l.fn.vault) (parts_of l.vault)
      × AreToldIn g.D.Disk.tells l.numbers (parts_of l.vault);
}
