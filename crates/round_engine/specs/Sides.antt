-- The growing and the closed log files of a vault.
use Rattle.std.specs.Prelude.{◌≡◌, ℕ, Bool, true, false, List, [], ◌∷◌, map}
use Rattle.log_writer.specs.declared.vault.Vault.{Vault}
use Rattle.worker_logs.specs.Saves.{closed_number}
use Rattle.worker_logs.specs.declared.savepoints.Side.{Side}
use Rattle.worker_logs.specs.declared.savepoints.Side.TheVariants.{Even, Odd}

-- the files that are closed while these grow
abbrev pub other_side : Side → Side
other_side Even = Odd
other_side Odd = Even

-- those of odd number grow
abbrev pub is_odd : Side → Bool
is_odd Even = false
is_odd Odd = true

-- the workers' growing log files
abbrev pub growing_in : {D : Type 0} → Side → Vault D → List D
growing_in Even vault = vault.even.items
growing_in Odd vault = vault.odd.items

-- and their closed ones
abbrev pub closed_in : {D : Type 0} → Side → Vault D → List D
closed_in Even vault = vault.odd.items
closed_in Odd vault = vault.even.items

-- the numbers of the closed log files, in order of workers
abbrev pub closed_numbers : Side → List ℕ
closed_numbers side = map (closed_number side) (0 ∷ 1 ∷ 2 ∷ 3 ∷ 4 ∷ 5 ∷ 6 ∷ 7 ∷ [])

-- All but the growing log files is as it was, the room for records with it.
pub record SameButGrowing {D : Type 0} (side : Side) (old new : Vault D) : Type 0 where
  pub save : new.save ≡ old.save
  pub snaps : new.snaps ≡ old.snaps
  pub closed : closed_in side new ≡ closed_in side old
  pub ties : new.ties ≡ old.ties
  pub cuts : new.cuts ≡ old.cuts
