-- A round for which memory was wanted before anything was done.
use Rattle.std.specs.Prelude.{◌≡◌}
use Rattle.log_writer.specs.declared.vault.Vault.{Vault}
use Rattle.round_engine.specs.Standing.{RuntimeState}

-- the devices are as they were, and so is what was recorded of them
pub record RoomAlone {D : Type 0} (old new : Vault D) : Type 0 where
  pub save : new.save ≡ old.save
  pub snaps : new.snaps ≡ old.snaps
  pub even : new.even ≡ old.even
  pub odd : new.odd ≡ old.odd
  pub ties : new.ties.items ≡ old.ties.items
  pub cuts : new.cuts.items ≡ old.cuts.items

-- So it is, and the runtime is as it was.
pub record IsUnbegun {D : Type 0} (old new : RuntimeState) (before now : Vault D) : Type 0 where
  pub runtime : new ≡ old
  pub devices : RoomAlone before now
