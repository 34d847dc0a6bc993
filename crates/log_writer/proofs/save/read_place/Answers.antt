use Rattle.std.proofs.Common.{ap, subst, arith, Ok, ◌*◌}
use Rattle.log_writer.specs.Save.{HasPoint}
use Rattle.log_writer.proofs.Places.{place_read, place_holds}
use Rattle.log_writer.proofs.save.read_place.Goals as goal

pub returns-in-Ok-read_savepoint-clause-holds :
    goal.returns-in-Ok-read_savepoint-clause-holds
returns-in-Ok-read_savepoint-clause-holds g c = λ file told size.
    let value = c.in-Ok.ensures.value file told in
    let found = c.in-Ok-read_savepoint.ensures in
    let is = place_read c.args.place (512 * c.from-at.result) _ file c.read.new.buf (omega (arith, c.requires)) (ap (λ i. 512 * i) c.from-at.ensures) size value.0 value.1 in
    subst (λ bytes. HasPoint c.args.place bytes c.in-Ok-read_savepoint.point) is
    (place_holds c.args.place c.read.new.buf c.in-Ok-read_savepoint.point (λ none. found.closed.0 (ap Ok none)) found.found)
