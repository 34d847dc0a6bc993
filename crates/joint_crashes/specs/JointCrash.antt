-- Crashes of all devices of a database at once, by the ties and cuts that it recorded.
use Rattle.std.specs.Prelude.{◌≡◌, ◌≤◌, ◌<◌, ℕ, List, Option, Some}
use Rattle.std.specs.List.{Contains}
use Rattle.outside.specs.Fronts.{Alike}
use Rattle.log_writer.specs.Vault.{disk_in}
use Rattle.outside.specs.declared.device.Device.{Device}
use Rattle.outside.specs.declared.device.Device.TheVariants.{Bank}
use Rattle.log_writer.specs.declared.records.Tie.{Tie}
use Rattle.log_writer.specs.declared.records.Cut.{Cut}
use Rattle.log_writer.specs.declared.vault.Vault.{Vault}
use Rattle.wire_form.specs.declared.savepoint.Savepoint.{Savepoint}
use Rattle.log_writer.specs.Points.{sequence_of}
use Rattle.log_writer.specs.Save.{Names}
use Rattle.joint_crashes.specs.Images.{Images, counted_of}

-- the devices, and what was recorded of stores and cuts
pub record Parts (D : Type 0) : Type 0 where
  pub save : D
  pub snaps : D
  pub banks : ℕ → Option D
  pub ties : List Tie
  pub cuts : List Cut

-- those of a database
abbrev pub parts_of : {D : Type 0} → Vault D → Parts D
parts_of vault = record {
  save = vault.save;
  snaps = vault.snaps;
  banks = λ n. disk_in vault (Bank n);
  ties = vault.ties.items;
  cuts = vault.cuts.items;
}

-- a moment of each device's clock
pub record Moments : Type 0 where
  pub save : ℕ
  pub snaps : ℕ
  pub bank : ℕ → ℕ

-- a cut of the device was begun at this moment, as this sequence was the newest
abbrev pub HasCut : List Cut → Device → ℕ → ℕ → Type 0
HasCut cuts device at after = Contains cuts (record { device = device; at = at; after = after })

module _ {D : Type 0} (clock : D → ℕ) (image_at : D → ℕ → List ℕ → Type 0) where
  -- the images are of these moments, which have come
  pub record AreImages (parts : Parts D) (at : Moments) (found : Images) : Type 0 where
    pub save_come : at.save ≤ clock parts.save
    pub save : image_at parts.save at.save found.save
    pub snaps_come : at.snaps ≤ clock parts.snaps
    pub snaps : image_at parts.snaps at.snaps found.snaps
    pub bank_come : (n : ℕ) (bank : D) → parts.banks n ≡ Some bank → at.bank n ≤ clock bank
    pub bank : (n : ℕ) (bank : D) → parts.banks n ≡ Some bank → image_at bank (at.bank n) (found.bank n)

  -- A crash of all devices at once: a moment of each, and an image of each such moment. The moments of different
  -- devices are tied by what was recorded, with the savepoint that the save image names.
  pub record IsJointCrash (parts : Parts D) (at : Moments) (found : Images) : Type 0 where
    pub images : AreImages parts at found
    -- What the savepoint counts of a log file is in all images of its moment, and the same in each. So it is of each
    -- moment from the store of the savepoint on, until a cut: the store asked for it (`AreCounted` of log_writer).
    pub alike : (point : Option Savepoint) → Names found.save point
        → (n : ℕ) (bank : D) → parts.banks n ≡ Some bank → Alike (image_at bank (at.bank n)) (counted_of point n)
    -- and that moment lies past each cut that an older savepoint allowed
    pub past : (point : Option Savepoint) → Names found.save point
        → (n : ℕ) (bank : D) → parts.banks n ≡ Some bank → (began after : ℕ) → HasCut parts.cuts (Bank n) began after
        → after < sequence_of point → began < at.bank n
    -- the moment of the snapshots isn't before the begin of any store of the savepoint's sequence
    pub stored : (point : Option Savepoint) → Names found.save point
        → (tie : Tie) → Contains parts.ties tie → tie.sequence ≡ sequence_of point → tie.snaps ≤ at.snaps
    -- past a cut, the store that allowed it had ended
    pub ended : (n : ℕ) (bank : D) → parts.banks n ≡ Some bank → (began after : ℕ)
        → HasCut parts.cuts (Bank n) began after
        → began < at.bank n → (tie : Tie) (end : ℕ) → Contains parts.ties tie → tie.sequence ≡ after
        → tie.ended ≡ Some end → end ≤ at.save

  -- the moments that are now
  pub record IsNow (parts : Parts D) (at : Moments) : Type 0 where
    pub save : at.save ≡ clock parts.save
    pub snaps : at.snaps ≡ clock parts.snaps
    pub bank : (n : ℕ) (bank : D) → parts.banks n ≡ Some bank → at.bank n ≡ clock bank

  -- a stop of all devices at this instant is a joint crash, whatever it leaves
  abbrev pub CrashesNow : Parts D → Type 0
  CrashesNow parts = (at : Moments) (found : Images) → IsNow parts at → AreImages parts at found
      → IsJointCrash parts at found

-- none of these moments is before those
pub record IsSince (from at : Moments) : Type 0 where
  pub save : from.save ≤ at.save
  pub snaps : from.snaps ≤ at.snaps
  pub bank : (n : ℕ) → from.bank n ≤ at.bank n

-- what was a joint crash of moments since these is one still
abbrev pub KeepsCrashes : {D : Type 0} → (clock : D → ℕ) → (image_at : D → ℕ → List ℕ → Type 0) → Moments → Parts D
    → Parts D → Type 0
KeepsCrashes clock image_at from old new = (at : Moments) (found : Images) → IsSince from at
    → IsJointCrash clock image_at old at found → IsJointCrash clock image_at new at found
