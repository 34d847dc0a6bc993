-- What a drop of pages comes to in the engine's counts.
use Rattle.engine_pages.specs.declared.view.Dropped.{Dropped as Counts}
use Rattle.tx_script.specs.Run.{Dropped}

-- how many pages a drop took out of memory and kept, as the engine counts it
abbrev pub counts_of : Dropped → Counts
counts_of d = record { dropped = d.dropped; kept = d.kept }
