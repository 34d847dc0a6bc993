use Rattle.std.proofs.Common.{length, ap, arith}
use Rattle.std.proofs.lemmas.List.{length-append}
use Rattle.std.proofs.lemmas.Result.{on_ok_weaker}
use Rattle.log_mapper.proofs.WindowLemmas.{more_damaged, more_mapped}
use Rattle.log_mapper.proofs.map_file.map_more.Goals as goal

pub returns-clause-grows : goal.returns-clause-grows
returns-clause-grows g c = on_ok_weaker c.map_window.result
    (λ m. let size = ap length m.2.whole in
    (omega (arith, m.1, m.2.place, size, length-append m.2.done m.0), omega (arith, m.1, m.2.place, size, length-append m.2.done m.0, c.in_ok-held.ensures.held, c.requires.more))) c.map_window.ensures.mapped

pub returns-clause-mapped : goal.returns-clause-mapped
returns-clause-mapped g c = on_ok_weaker c.map_window.result
    (λ m bank so_far.
    more_mapped _ bank c.args.decls.now c.args.from c.args.to c.args.count c.args.so_far.now c.fill.new.window m.0 c.in_ok-held.held
    c.map_window.new.so_far so_far m.2 c.in_ok-held.ensures.front) c.map_window.ensures.mapped

pub returns-clause-damaged : goal.returns-clause-damaged
returns-clause-damaged g c at is bank so_far =
    more_damaged _ bank c.args.decls.now c.args.from c.args.to c.args.count c.args.so_far.now c.fill.new.window c.in_ok-held.held c.least_in-least.result
    at so_far (c.map_window.ensures.damaged at is) c.least_in-least.ensures.2 (omega (arith, c.in_ok-held.ensures.held)) c.requires.more c.in_ok-held.ensures.front
