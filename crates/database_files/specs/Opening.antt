-- What is told of a database that can't be opened.
use Rattle.std.specs.Prelude.{◌≡◌, ⊤}
use Rattle.outside.specs.declared.device.Device.{Device}
use Rattle.outside.specs.declared.device.Device.TheVariants.{Save, Snaps, Bank}
use Rattle.database_files.specs.declared.not_opened.NotOpened.{NotOpened}
use Rattle.database_files.specs.declared.not_opened.NotOpened.TheVariants.{Without, NoMemory}

-- The file of this device can't be had, unless memory was wanted.
abbrev pub IsWithout : Device → NotOpened → Type 0
IsWithout device (Without other why) = other ≡ device
IsWithout device NoMemory = ⊤

-- The files that are opened, or made, before all others.
abbrev pub IsFirst : Device → Type 0
IsFirst Save = ⊤
IsFirst Snaps = ⊤
IsFirst (Bank number) = ⊥

-- One of these can't be had, unless memory was wanted.
abbrev pub IsWithoutFirst : NotOpened → Type 0
IsWithoutFirst (Without device why) = IsFirst device
IsWithoutFirst NoMemory = ⊤
