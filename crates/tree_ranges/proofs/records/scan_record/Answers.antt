use Rattle.engine_pages.specs.Passes.{view}
use Rattle.tree_ranges.proofs.ReadInLaws.{row_stopped, row_taken}
use Rattle.tree_ranges.proofs.records.scan_record.Goals as goal

pub value_in-requires-clause-leaf : goal.value_in-requires-clause-leaf
value_in-requires-clause-leaf c = c.requires.leaf

pub value_in-requires-clause-met : goal.value_in-requires-clause-met
value_in-requires-clause-met c = c.requires.met

pub returns-in-Ok-clause-takes : goal.returns-in-Ok-clause-takes
returns-in-Ok-clause-takes c =
    row_taken c.args.key.storage c.args.place.key c.in-Ok.value c.args.sets.now c.value_in.new.sets c.args.rows.now
    c.push_value.new.rows (view c.args.pass.now) (view c.value_in.new.pass) c.in-Ok.ensures.reads c.push_value.ensures

pub returns-in-Err-clause-takes : goal.returns-in-Err-clause-takes
returns-in-Err-clause-takes c =
    row_stopped c.args.key.storage c.args.place.key c.in-Err.why c.args.sets.now c.value_in.new.sets c.args.rows.now
    c.args.rows.now (view c.args.pass.now) (view c.value_in.new.pass) c.in-Err.ensures.reads
