use Rattle.std.proofs.Common.{arith}
use Rattle.log_mapper.proofs.map_file.fill.Goals as goal

pub returns-then-found-wanted-clause-damaged : goal.returns-then-found-wanted-clause-damaged
returns-then-found-wanted-clause-damaged g c at is file told =
    omega (arith, (c.in-Ok.ensures.value file told).0, c.requires.long file told, c.requires.more, c.min-wanted.ensures, c.if-found-wanted.true)
