use Rattle.std.proofs.Common.{◌+◌, sym, subst}
use Rattle.std.specs.Prelude.{Err}
use Rattle.homes.specs.declared.places.Spot.{Spot}
use Rattle.engine_pages.specs.declared.view.RefusalCause.{RefusalCause}
use Rattle.engine_pages.specs.Passes.{view}
use Rattle.array_pages.specs.Steps.{ReadsSo}
use Rattle.array_pages.proofs.RecordLaws.{active_stays, reads_changed, reads_locked, reads_value}
use Rattle.array_pages.proofs.RecordLaws.{walked_loads, walked_sees}
use Rattle.array_pages.proofs.WalkLaws.{record_stays, walked_then}
use Rattle.array_pages.proofs.finding.read_word.Goals as goal

pub see-word-requires-clause-pass : goal.see-word-requires-clause-pass
see-word-requires-clause-pass c = (c.requires.active, c.requires.rest)

pub see-word-requires-clause-place : goal.see-word-requires-clause-place
see-word-requires-clause-place c =
    c.requires.place

pub load_value-value-requires-clause-pass : goal.load_value-value-requires-clause-pass
load_value-value-requires-clause-pass c =
    active_stays (view c.args.pass.now) (view c.see-word.new.pass)
    (walked_sees c.args.key c.args.spot c.args.at
    c.see-word.result (view c.args.pass.now) (view c.see-word.new.pass) c.see-word.ensures.sees) c.requires.active

pub load_value-value-requires-clause-place : goal.load_value-value-requires-clause-place
load_value-value-requires-clause-place c =
    let v = view c.args.pass.now in
    let u = view c.see-word.new.pass in
    let x : Spot = c.args.spot in
    record_stays v u c.args.key x c.args.at
    (walked_sees c.args.key x c.args.at c.see-word.result v u c.see-word.ensures.sees)
    c.requires.place

pub confirm-again-requires-clause-pass : goal.confirm-again-requires-clause-pass
confirm-again-requires-clause-pass c =
    let v = view c.args.pass.now in
    let u = view c.see-word.new.pass in
    let t = view c.load_value-value.new.pass in
    let x : Spot = c.args.spot in
    active_stays v t
    (walked_then v u t (walked_sees c.args.key x c.args.at c.see-word.result v u c.see-word.ensures.sees)
    (walked_loads c.args.key x (c.args.at + 1) c.load_value-value.result u t
    c.load_value-value.ensures.loads))
    c.requires.active

pub confirm-again-requires-clause-place : goal.confirm-again-requires-clause-place
confirm-again-requires-clause-place c =
    let v = view c.args.pass.now in
    let u = view c.see-word.new.pass in
    let t = view c.load_value-value.new.pass in
    let x : Spot = c.args.spot in
    record_stays v t c.args.key x c.args.at
    (walked_then v u t (walked_sees c.args.key x c.args.at c.see-word.result v u c.see-word.ensures.sees)
    (walked_loads c.args.key x (c.args.at + 1) c.load_value-value.result u t
    c.load_value-value.ensures.loads))
    c.requires.place

pub returns-then-word-ge-LOCK-clause-reads : goal.returns-then-word-ge-LOCK-clause-reads
returns-then-word-ge-LOCK-clause-reads c =
    let v = view c.args.pass.now in
    let u = view c.see-word.new.pass in
    let x : Spot = c.args.spot in
    subst (λ (r : RefusalCause). ReadsSo c.args.key (Err r) v u) (sym c.conflict.ensures)
    (reads_locked c.args.key x c.args.at c.see-word.result v u
    c.requires.place
    c.requires.index
    c.if-word-ge-LOCK.true c.see-word.ensures.sees)

pub returns-then-again-word-clause-reads : goal.returns-then-again-word-clause-reads
returns-then-again-word-clause-reads c =
    let v = view c.args.pass.now in
    let u = view c.see-word.new.pass in
    let t = view c.load_value-value.new.pass in
    let w = view c.confirm-again.new.pass in
    let x : Spot = c.args.spot in
    subst (λ (r : RefusalCause). ReadsSo c.args.key (Err r) v w) (sym c.conflict-then-again-word.ensures)
    (reads_changed c.args.key x c.args.at c.see-word.result c.load_value-value.result c.confirm-again.result v
    u t w
    c.requires.place
    c.requires.index
    c.if-word-ge-LOCK.false c.see-word.ensures.sees c.load_value-value.ensures.loads c.confirm-again.ensures.confirms
    c.if-again-word.true)

pub returns-clause-reads : goal.returns-clause-reads
returns-clause-reads c =
    let v = view c.args.pass.now in
    let u = view c.see-word.new.pass in
    let t = view c.load_value-value.new.pass in
    let w = view c.confirm-again.new.pass in
    let x : Spot = c.args.spot in
    reads_value c.args.key x c.args.at c.see-word.result c.load_value-value.result c.confirm-again.result v u
    t w
    c.requires.place
    c.requires.index
    c.if-word-ge-LOCK.false c.see-word.ensures.sees c.load_value-value.ensures.loads c.confirm-again.ensures.confirms
    c.if-again-word.false
