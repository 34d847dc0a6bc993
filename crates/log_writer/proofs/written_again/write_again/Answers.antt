-- What was found was written beside, or nothing was written.
use Rattle.std.proofs.Common.{◌∙◌, sym, subst}
use Rattle.outside.specs.Disk.{Runs}
use Rattle.outside.specs.Moments.{runs_then}
use Rattle.log_writer.specs.Newest.{names_one}
use Rattle.log_writer.specs.Save.{Names}
use Rattle.log_writer.proofs.Again.{looks_name}
use Rattle.log_writer.proofs.written_again.write_again.Goals as goal

pub write_beside-requires-clause-stored : goal.write_beside-requires-clause-stored
write_beside-requires-clause-stored g c = c.in-Ok.ensures.found.stored (g.met.D.Disk.rests _ c.requires.settled)

pub returns-in-Ok-clause-any_moment : goal.returns-in-Ok-clause-any_moment
returns-in-Ok-clause-any_moment g c newest file told names =
    let same = names_one file newest c.in-Ok.save.newest names (c.in-Ok.ensures.found.names file told) in
    runs_then
    (looks_name newest file names (g.met.D.Disk.rests _ c.requires.settled file told) c.load.ensures.moments)
    (subst (λ n. Runs g.D.Disk.clock g.D.Disk.image_at c.load.new.disk c.write_beside.new.disk (λ left. Names left n))
    (sym same) (c.write_beside.ensures.any_moment file (c.load.ensures.told ∙ told)))

pub returns-in-Ok-clause-unnamed : goal.returns-in-Ok-clause-unnamed
returns-in-Ok-clause-unnamed g c file told none =
    absurd (none c.in-Ok.save.newest (c.in-Ok.ensures.found.names file told))

pub returns-in-Err-Device-clause-any_moment : goal.returns-in-Err-Device-clause-any_moment
returns-in-Err-Device-clause-any_moment g c newest file told names =
    looks_name newest file names (g.met.D.Disk.rests _ c.requires.settled file told) c.load.ensures.moments

pub returns-in-Err-Damaged-clause-any_moment : goal.returns-in-Err-Damaged-clause-any_moment
returns-in-Err-Damaged-clause-any_moment g c newest file told names =
    looks_name newest file names (g.met.D.Disk.rests _ c.requires.settled file told) c.load.ensures.moments
