-- The last line of a call that can't have a device.
use Rattle.std.specs.Prelude.{[], ◌∷◌, ◌++◌, codes}
use Rattle.database_files.specs.Names.{device_name}
use Rattle.text_output.specs.Output.{Bytes}
use Rattle.outside.specs.declared.device.Device.{Device}

-- The line that tells that the device can't be had.
abbrev pub device_text : Device → Bytes
device_text device = codes "device " ++ device_name device ++ 10 ∷ []
