-- What an advance of the clock tells.
use Rattle.engine_pages.specs.Passes.{view}
use Rattle.round_engine.proofs.SideCalls.{advance_drops, advance_pages, advance_saw, advance_steps, advance_went}
use Rattle.round_engine.proofs.SideCalls.{limit_drops, limit_pages, limit_saw, limit_steps, limit_went}
use Rattle.round_engine.proofs.keeper_side.advance_beside.Goals as goal

pub returns-in-Ok-clause-steps : goal.returns-in-Ok-clause-steps
returns-in-Ok-clause-steps c = advance_steps (view c.args.keeper.now) (view c.advance.new.keeper) c.requires.keeper
    c.in-Ok.epoch c.in-Ok.ensures.advances

pub returns-in-Ok-clause-saw : goal.returns-in-Ok-clause-saw
returns-in-Ok-clause-saw c = advance_saw (view c.args.keeper.now) (view c.advance.new.keeper) c.requires.keeper
    c.in-Ok.epoch c.in-Ok.ensures.advances

pub returns-in-Ok-clause-went : goal.returns-in-Ok-clause-went
returns-in-Ok-clause-went c = advance_went (view c.args.keeper.now) (view c.advance.new.keeper) c.requires.keeper
    c.in-Ok.epoch c.in-Ok.ensures.advances

pub returns-in-Err-clause-steps : goal.returns-in-Err-clause-steps
returns-in-Err-clause-steps c = limit_steps (view c.args.keeper.now) (view c.advance.new.keeper) c.requires.keeper
    c.in-Err.field-0.clock c.in-Err.ensures.limit

pub returns-in-Err-clause-saw : goal.returns-in-Err-clause-saw
returns-in-Err-clause-saw c = limit_saw (view c.args.keeper.now) (view c.advance.new.keeper) c.requires.keeper
    c.in-Err.field-0.clock c.in-Err.ensures.limit

pub returns-in-Err-clause-went : goal.returns-in-Err-clause-went
returns-in-Err-clause-went c = limit_went (view c.args.keeper.now) (view c.advance.new.keeper) c.requires.keeper
    c.in-Err.field-0.clock c.in-Err.ensures.limit

pub returns-in-Ok-clause-pages : goal.returns-in-Ok-clause-pages
returns-in-Ok-clause-pages c = advance_pages (view c.args.keeper.now) (view c.advance.new.keeper) c.requires.keeper
    c.in-Ok.epoch c.in-Ok.ensures.advances

pub returns-in-Err-clause-pages : goal.returns-in-Err-clause-pages
returns-in-Err-clause-pages c = limit_pages (view c.args.keeper.now) (view c.advance.new.keeper) c.requires.keeper
    c.in-Err.field-0.clock c.in-Err.ensures.limit

pub returns-in-Ok-clause-drops : goal.returns-in-Ok-clause-drops
returns-in-Ok-clause-drops c = advance_drops (view c.args.keeper.now) (view c.advance.new.keeper) c.requires.keeper
    c.in-Ok.epoch c.in-Ok.ensures.advances

pub returns-in-Err-clause-drops : goal.returns-in-Err-clause-drops
returns-in-Err-clause-drops c = limit_drops (view c.args.keeper.now) (view c.advance.new.keeper) c.requires.keeper
    c.in-Err.field-0.clock c.in-Err.ensures.limit
