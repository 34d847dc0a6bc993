-- The trait says so.
use Rattle.round_engine.proofs.rounds.reads_are_images.Goals as goal

pub returns : goal.returns
returns g c = g.met.D.Disk.reads
