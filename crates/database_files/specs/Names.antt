-- How the devices of a database are named: their files, and where one is told of.
use Rattle.std.specs.Prelude.{ℕ, List, ◌++◌, codes, decimal}
use Rattle.outside.specs.declared.device.Device.{Device}
use Rattle.outside.specs.declared.device.Device.TheVariants.{Save, Snaps, Bank}

-- The name of a device.
abbrev pub device_name : Device → List ℕ
device_name Save = codes "save"
device_name Snaps = codes "snaps"
device_name (Bank number) = codes "bank" ++ decimal number
