use Rattle.engine_pages.specs.Passes.{view}
use Rattle.page_commit.proofs.BeginLaws.{begun, refuses_begin}
use Rattle.page_commit.proofs.txn.Txn.begin.Goals as goal

pub returns-then-clock-ge-DRAW_LIMIT-clause-refused : goal.returns-then-clock-ge-DRAW_LIMIT-clause-refused
returns-then-clock-ge-DRAW_LIMIT-clause-refused c =
    refuses_begin (view c.args.pass.now) (view c.begin-clock.new.pass) c.begin-clock.result c.requires.over
    c.begin-clock.ensures.begins c.if-clock-ge-DRAW_LIMIT.true

pub returns-clause-begins : goal.returns-clause-begins
returns-clause-begins c =
    begun c.clear.new.self (view c.args.pass.now) (view c.begin-clock.new.pass) c.begin-clock.result c.requires.over
    c.clear.ensures c.begin-clock.ensures.begins c.if-clock-ge-DRAW_LIMIT.false
