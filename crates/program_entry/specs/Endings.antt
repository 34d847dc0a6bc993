-- How a call ends before the database is looked at.
use Rattle.database_files.specs.declared.not_opened.NotOpened.{NotOpened}
use Rattle.database_files.specs.declared.not_opened.NotOpened.TheVariants as refusals
use Rattle.program_calls.specs.declared.ending.Ending.{Ending}
use Rattle.program_calls.specs.declared.ending.Ending.TheVariants.{NoDevice, NoMemory}

-- The ending of a call whose database can't be opened: the device is told that can't be had, or that memory was wanted.
abbrev pub ending_unopened : NotOpened → Ending
ending_unopened (refusals.Without device why) = NoDevice device
ending_unopened refusals.NoMemory = NoMemory
