use Rattle.std.proofs.Common.{ap}
use Rattle.engine_pages.specs.declared.view.View.{View}
use Rattle.engine_pages.specs.Passes.{view}
use Rattle.txn_tests.specs.Standing.{first_key}
use Rattle.txn_tests.proofs.KeyLaws.{can_make_first, free_then, key_here}
use Rattle.txn_tests.proofs.one_key.bring_up.Goals as goal

pub make_volatile-requires-clause-can : goal.make_volatile-requires-clause-can
make_volatile-requires-clause-can c =
    can_make_first c.requires.begun.0 c.requires.begun.1 (view c.args.pass.now) c.args.holds.now c.requires.begun.2
    c.requires.none

pub returns-in-Ok-clause-layout : goal.returns-in-Ok-clause-layout
returns-in-Ok-clause-layout c = ap (λ (v : View). v.layout) c.make_volatile.ensures.makes.walked.is

pub returns-in-Err-clause-layout : goal.returns-in-Err-clause-layout
returns-in-Err-clause-layout c = ap (λ (v : View). v.layout) c.make_volatile.ensures.makes.walked.is

pub returns-in-Ok-clause-found : goal.returns-in-Ok-clause-found
returns-in-Ok-clause-found c =
    let made = c.in-Ok.ensures.makes.made.record_at in
    key_here (view c.make_volatile.new.pass) first_key made.spot c.in-Ok.at made.place

pub returns-in-Ok-clause-free : goal.returns-in-Ok-clause-free
returns-in-Ok-clause-free c =
    free_then c.requires.begun.0 c.requires.begun.1 (view c.args.pass.now) (view c.make_volatile.new.pass)
    c.make_volatile.new.holds c.requires.begun.2 c.make_volatile.ensures.makes.walked c.make_volatile.ensures.makes.can
    c.make_volatile.ensures.makes.kept

pub returns-in-Err-clause-free : goal.returns-in-Err-clause-free
returns-in-Err-clause-free c =
    free_then c.requires.begun.0 c.requires.begun.1 (view c.args.pass.now) (view c.make_volatile.new.pass)
    c.make_volatile.new.holds c.requires.begun.2 c.make_volatile.ensures.makes.walked c.make_volatile.ensures.makes.can
    c.make_volatile.ensures.makes.kept
