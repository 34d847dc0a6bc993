use Rattle.engine_pages.specs.Passes.{view}
use Rattle.tree_ranges.proofs.GoneLaws.{scan_done}
use Rattle.tree_ranges.proofs.scanning.scan.Goals as goal

pub returns-in-Ok-clause-replies : goal.returns-in-Ok-clause-replies
returns-in-Ok-clause-replies c =
    scan_done c.args.storage c.args.low c.args.high c.args.sets.now c.scan_range.new.sets c.scan_range.new.rows
    (view c.args.pass.now) (view c.scan_range.new.pass) c.in-Ok.ensures.scans c.tell_room.ensures.reads
    c.tell_room.ensures.pointers c.tell_room.ensures.headers

pub returns-in-Ok-clause-last : goal.returns-in-Ok-clause-last
returns-in-Ok-clause-last c = c.in-Ok.ensures.scans.full

pub returns-in-Err-clause-cause : goal.returns-in-Err-clause-cause
returns-in-Err-clause-cause c = c.in-Err.ensures.stops.cause

pub returns-in-Err-clause-refused : goal.returns-in-Err-clause-refused
returns-in-Err-clause-refused c = c.in-Err.ensures.stops.refused
