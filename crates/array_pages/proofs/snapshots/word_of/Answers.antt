use Rattle.std.proofs.Common.{ℕ, get_or, sym, ap, arith}
use Rattle.snapshot_store.specs.Places.{page}
use Rattle.engine_pages.specs.declared.view.View.{View}
use Rattle.engine_pages.specs.Passes.{view}
use Rattle.array_pages.proofs.LookLaws.{glanced_is, glanced_self}
use Rattle.array_pages.proofs.snapshots.word_of.Goals as goal

pub returns-then-number-eq0-clause-glances : goal.returns-then-number-eq0-clause-glances
returns-then-number-eq0-clause-glances c = glanced_self (view c.args.pass.now)

pub returns-then-number-eq0-clause-word : goal.returns-then-number-eq0-clause-word
returns-then-number-eq0-clause-word c =
    ap (λ (n : ℕ). get_or (page (view c.args.pass.now).pages n) c.args.index 0) (sym c.if-number-eq0.true)

pub load_resident-requires-clause-pass : goal.load_resident-requires-clause-pass
load_resident-requires-clause-pass c = c.requires.can.active

pub load_resident-requires-clause-room : goal.load_resident-requires-clause-room
load_resident-requires-clause-room c =
    let there = c.requires.there in let room = c.requires.can.room in omega (arith, there, room)

pub returns-clause-glances : goal.returns-clause-glances
returns-clause-glances c =
    glanced_is _ c.load_resident.result (view c.args.pass.now)
    (view c.load_resident.new.pass) c.load_resident.ensures.loads.0

pub returns-clause-word : goal.returns-clause-word
returns-clause-word c = c.load_resident.ensures.loads.1

pub returns-then-number-eq0-clause-most : goal.returns-then-number-eq0-clause-most
returns-then-number-eq0-clause-most c = omega arith

pub returns-clause-most : goal.returns-clause-most
returns-clause-most c =
    let is = ap (λ (z : View). z.steps) c.load_resident.ensures.loads.0 in omega (arith, is)
