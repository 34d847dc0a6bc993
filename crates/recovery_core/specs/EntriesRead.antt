-- Log files of a database that are mapped, and otherwise only read.
use Rattle.std.specs.Prelude.{◌≡◌, ◌≢◌, ℕ, List, Option, Some, Result, Err, IfOk, length}
use Rattle.lists.specs.declared.memory.OrMemory.{OrMemory}
use Rattle.lists.specs.declared.memory.OrMemory.TheVariants.{Fault}
use Rattle.log_mapper.specs.Mapped.{AreMapped, IsDamaged}
use Rattle.log_mapper.specs.declared.map_file.MapFault.{MapFault}
use Rattle.log_mapper.specs.declared.map_file.MapFault.TheVariants.{Device as Failed, Damaged}
use Rattle.outside.specs.Disk.{IfTold}
use Rattle.outside.specs.Faults.{Rose}
use Rattle.outside.specs.Reads.{OnlyReads}
use Rattle.log_writer.specs.Vault.{disk_in}
use Rattle.outside.specs.declared.device.Device.{Device}
use Rattle.outside.specs.declared.device.Device.TheVariants.{Bank}
use Rattle.log_writer.specs.declared.vault.Vault.{Vault}
use Rattle.serial_model.specs.declared.decl.Decl.{Decl}
use Rattle.wire_form.specs.declared.bucket.Bucket.{Bucket}

module _ {D : Type 0} (tells : D → Option (List ℕ)) (clock : D → ℕ) (image_at : D → ℕ → List ℕ → Type 0)
    (faults : D → ℕ)
    (n count : ℕ) (decls : List Decl) (from to : ℕ) where
  -- The counted bytes of the log file with this number were mapped, or it is told why not.
  pub record Maps (was now : D) (result : Result (List Bucket) (OrMemory MapFault)) : Type 0 where
    pub mapped : IfOk result (λ buckets. IfTold (tells was) (λ file. AreMapped n count decls from to file buckets))
    pub damaged : (at : ℕ) → result ≡ Err (Fault (Damaged at))
        → IfTold (tells was) (λ file. IsDamaged count decls file at)
    pub device : result ≡ Err (Fault Failed) → Rose (faults was) (faults now)
    pub spared : result ≢ Err (Fault Failed) → faults now ≡ faults was
    pub reads : OnlyReads tells clock image_at faults was now

  -- So it was with this log file of a database, and all else stays.
  pub record MapsIn (old new : Vault D) (result : Result (List Bucket) (OrMemory MapFault)) : Type 0 where
    pub disk : (was : D) → disk_in old (Bank n) ≡ Some was
        → (now : D) × (disk_in new (Bank n) ≡ Some now) × Maps was now result
    pub others : (other : Device) → other ≢ Bank n → disk_in new other ≡ disk_in old other
    pub even : length new.even.items ≡ length old.even.items
    pub odd : length new.odd.items ≡ length old.odd.items
    pub ties : new.ties ≡ old.ties
    pub cuts : new.cuts ≡ old.cuts
