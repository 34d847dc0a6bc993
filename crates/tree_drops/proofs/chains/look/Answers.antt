use Rattle.std.proofs.Common.{◌≡◌, ◌<◌, subst, arith}
use Rattle.std.proofs.lemmas.Result.{err_from_is_err_and}
use Rattle.std.specs.Prelude.{Err}
use Rattle.engine_pages.specs.declared.layout.Layout.{Layout}
use Rattle.engine_pages.specs.declared.view.KeptWhy.TheVariants.{Locked, Unlike}
use Rattle.engine_pages.specs.Passes.{view}
use Rattle.tree_drops.proofs.LookSteps.{active_ok, both_ends, enter_ok, keeper_now, last_look, locked_due, leaf_ends}
use Rattle.tree_drops.proofs.LookSteps.{locked_ends, other_ends, page_ok, part_ok, parted_ends, slot_ok, turned_ends}
use Rattle.tree_drops.proofs.Places.{word_here}
use Rattle.tree_drops.proofs.chains.look.Goals as goal

pub word_at-at-requires-clause-slot : goal.word_at-at-requires-clause-slot
word_at-at-requires-clause-slot c =
    let r = c.requires.look in
    subst (λ (l : Layout). c.args.half.slot < l.slots) c.requires.of.layout
    (slot_ok r.0 r.1 c.args.halves.now.items r.2 r.3 c.args.half r.4 (view c.args.pass.now) r.6 c.args.storage r.5)

pub load_header-header-requires-clause-pass : goal.load_header-header-requires-clause-pass
load_header-header-requires-clause-pass c =
    let r = c.requires.look in
    active_ok r.0 r.1 c.args.halves.now.items r.2 r.3 c.args.half r.4 (view c.args.pass.now) r.6 c.args.storage r.5

pub load_header-header-requires-clause-slot : goal.load_header-header-requires-clause-slot
load_header-header-requires-clause-slot c =
    let r = c.requires.look in
    slot_ok r.0 r.1 c.args.halves.now.items r.2 r.3 c.args.half r.4 (view c.args.pass.now) r.6 c.args.storage r.5

pub load_header-header-requires-clause-page : goal.load_header-header-requires-clause-page
load_header-header-requires-clause-page c =
    let r = c.requires.look in
    page_ok r.0 r.1 c.args.halves.now.items r.2 r.3 c.args.half r.4 (view c.args.pass.now) r.6 c.args.storage r.5

pub keep-other-requires-clause-keeper : goal.keep-other-requires-clause-keeper
keep-other-requires-clause-keeper c =
    let r = c.requires.look in
    keeper_now r.0 r.1 c.args.halves.now.items r.2 r.3 c.args.half r.4 (view c.args.pass.now) r.6 c.args.storage r.5
    c.word_at-at.result c.load_header-header.result (view c.load_header-header.new.pass)
    (word_here c.args.engine.now c.args.pass.now c.args.half.slot 0 c.word_at-at.result c.requires.of c.word_at-at.ensures)
    c.load_header-header.ensures.loads

pub keep-other-requires-clause-last : goal.keep-other-requires-clause-last
keep-other-requires-clause-last c =
    let r = c.requires.look in
    last_look r.0 r.1 c.args.halves.now.items r.2 r.3 c.args.half r.4 (view c.args.pass.now) r.6 c.args.storage r.5
    c.word_at-at.result c.load_header-header.result (view c.load_header-header.new.pass)
    (word_here c.args.engine.now c.args.pass.now c.args.half.slot 0 c.word_at-at.result c.requires.of c.word_at-at.ensures)
    c.load_header-header.ensures.loads Unlike

pub returns-then-header-ne1-clause-looks : goal.returns-then-header-ne1-clause-looks
returns-then-header-ne1-clause-looks c t sp splits headers a same can =
    other_ends t sp c.args.halves.now.items splits headers c.args.half a (view c.args.pass.now) can c.args.storage same
    c.word_at-at.result c.load_header-header.result (view c.load_header-header.new.pass)
    (word_here c.args.engine.now c.args.pass.now c.args.half.slot 0 c.word_at-at.result c.requires.of c.word_at-at.ensures)
    c.load_header-header.ensures.loads c.keep-other.result (view c.keep-other.new.pass) c.if-header-ne1.true
    c.keep-other.ensures.is c.keep-other.ensures.notes

pub returns-then-header-lt-LOCK-clause-looks : goal.returns-then-header-lt-LOCK-clause-looks
returns-then-header-lt-LOCK-clause-looks c t sp splits headers a same can =
    let low = c.if-header-lt-LOCK.true in
    leaf_ends t sp c.args.halves.now.items splits headers c.args.half a (view c.args.pass.now) can c.args.storage same
    c.word_at-at.result c.load_header-header.result (view c.load_header-header.new.pass)
    (word_here c.args.engine.now c.args.pass.now c.args.half.slot 0 c.word_at-at.result c.requires.of c.word_at-at.ensures)
    c.load_header-header.ensures.loads c.if-header-ne1.false (omega (arith, low))

pub keep-locked-requires-clause-keeper : goal.keep-locked-requires-clause-keeper
keep-locked-requires-clause-keeper c =
    let r = c.requires.look in
    keeper_now r.0 r.1 c.args.halves.now.items r.2 r.3 c.args.half r.4 (view c.args.pass.now) r.6 c.args.storage r.5
    c.word_at-at.result c.load_header-header.result (view c.load_header-header.new.pass)
    (word_here c.args.engine.now c.args.pass.now c.args.half.slot 0 c.word_at-at.result c.requires.of c.word_at-at.ensures)
    c.load_header-header.ensures.loads

pub keep-locked-requires-clause-last : goal.keep-locked-requires-clause-last
keep-locked-requires-clause-last c =
    let r = c.requires.look in
    last_look r.0 r.1 c.args.halves.now.items r.2 r.3 c.args.half r.4 (view c.args.pass.now) r.6 c.args.storage r.5
    c.word_at-at.result c.load_header-header.result (view c.load_header-header.new.pass)
    (word_here c.args.engine.now c.args.pass.now c.args.half.slot 0 c.word_at-at.result c.requires.of c.word_at-at.ensures)
    c.load_header-header.ensures.loads Locked

pub keep-locked-requires-clause-due : goal.keep-locked-requires-clause-due
keep-locked-requires-clause-due c =
    let r = c.requires.look in
    locked_due r.0 r.1 c.args.halves.now.items r.2 r.3 c.args.half r.4 (view c.args.pass.now) r.6 c.args.storage r.5
    c.word_at-at.result c.load_header-header.result (view c.load_header-header.new.pass)
    (word_here c.args.engine.now c.args.pass.now c.args.half.slot 0 c.word_at-at.result c.requires.of c.word_at-at.ensures)
    c.load_header-header.ensures.loads

pub returns-then-header-lt-MOVED-clause-looks : goal.returns-then-header-lt-MOVED-clause-looks
returns-then-header-lt-MOVED-clause-looks c t sp splits headers a same can =
    let low = c.if-header-lt-LOCK.false in
    let high = c.if-header-lt-MOVED.true in
    locked_ends t sp c.args.halves.now.items splits headers c.args.half a (view c.args.pass.now) can c.args.storage same
    c.word_at-at.result c.load_header-header.result (view c.load_header-header.new.pass)
    (word_here c.args.engine.now c.args.pass.now c.args.half.slot 0 c.word_at-at.result c.requires.of c.word_at-at.ensures)
    c.load_header-header.ensures.loads c.keep-locked.result (view c.keep-locked.new.pass) c.if-header-ne1.false
    (omega (arith, low)) (omega (arith, high)) c.keep-locked.ensures.is c.keep-locked.ensures.notes

pub part-requires-clause-part : goal.part-requires-clause-part
part-requires-clause-part c =
    let r = c.requires.look in
    let high = c.if-header-lt-MOVED.false in
    part_ok r.0 r.1 c.args.halves.now.items r.2 r.3 c.args.half r.4 (view c.args.pass.now) r.6 c.args.storage r.5
    c.word_at-at.result c.load_header-header.result (view c.load_header-header.new.pass)
    (word_here c.args.engine.now c.args.pass.now c.args.half.slot 0 c.word_at-at.result c.requires.of c.word_at-at.ensures)
    c.load_header-header.ensures.loads c.if-header-ne1.false (omega (arith, high))

pub returns-in_err-split-clause-looks : goal.returns-in_err-split-clause-looks
returns-in_err-split-clause-looks c t sp splits headers a same can =
    let high = c.if-header-lt-MOVED.false in
    let p = err_from_is_err_and c.from_residual.result c.from_residual.ensures.1 in
    let told : c.from_residual.result ≡ Err c.in_err-split.field-0.0 = let a = p.1 in let b = p.2 in cc in
    rw told (parted_ends t sp c.args.halves.now.items splits headers c.args.half a (view c.args.pass.now) can c.args.storage same
    c.word_at-at.result c.load_header-header.result (view c.load_header-header.new.pass)
    (word_here c.args.engine.now c.args.pass.now c.args.half.slot 0 c.word_at-at.result c.requires.of c.word_at-at.ensures)
    c.load_header-header.ensures.loads c.if-header-ne1.false (omega (arith, high)) c.in_err-split.field-0.0
    (view c.part.new.pass) c.in_err-split.ensures.parts)

pub enter_halves-requires-clause-enter : goal.enter_halves-requires-clause-enter
enter_halves-requires-clause-enter c =
    let r = c.requires.look in
    let high = c.if-header-lt-MOVED.false in
    enter_ok r.0 r.1 c.args.halves.now.items r.2 r.3 c.args.half r.4 (view c.args.pass.now) r.6 c.args.storage r.5
    c.word_at-at.result c.load_header-header.result (view c.load_header-header.new.pass)
    (word_here c.args.engine.now c.args.pass.now c.args.half.slot 0 c.word_at-at.result c.requires.of c.word_at-at.ensures)
    c.load_header-header.ensures.loads c.if-header-ne1.false (omega (arith, high)) c.in_ok-split.split
    (view c.part.new.pass) c.in_ok-split.ensures.parts

pub returns-in_err-enter_halves-clause-looks : goal.returns-in_err-enter_halves-clause-looks
returns-in_err-enter_halves-clause-looks c t sp splits headers a same can =
    let high = c.if-header-lt-MOVED.false in
    let p = err_from_is_err_and c.from_residual-in_err-enter_halves.result c.from_residual-in_err-enter_halves.ensures.1 in
    let told : c.from_residual-in_err-enter_halves.result ≡ Err c.in_err-enter_halves.field-0.0 = let a = p.1 in let b = p.2 in cc in
    rw told (turned_ends t sp c.args.halves.now.items splits headers c.args.half a (view c.args.pass.now) can c.args.storage same
    c.word_at-at.result c.load_header-header.result (view c.load_header-header.new.pass)
    (word_here c.args.engine.now c.args.pass.now c.args.half.slot 0 c.word_at-at.result c.requires.of c.word_at-at.ensures)
    c.load_header-header.ensures.loads c.if-header-ne1.false (omega (arith, high)) c.in_ok-split.split
    (view c.part.new.pass) c.in_ok-split.ensures.parts c.enter_halves.new.halves.items c.in_err-enter_halves.field-0.0
    (view c.enter_halves.new.pass) c.in_err-enter_halves.ensures.enters)

pub returns-clause-looks : goal.returns-clause-looks
returns-clause-looks c t sp splits headers a same can =
    let high = c.if-header-lt-MOVED.false in
    both_ends t sp c.args.halves.now.items splits headers c.args.half a (view c.args.pass.now) can c.args.storage same
    c.word_at-at.result c.load_header-header.result (view c.load_header-header.new.pass)
    (word_here c.args.engine.now c.args.pass.now c.args.half.slot 0 c.word_at-at.result c.requires.of c.word_at-at.ensures)
    c.load_header-header.ensures.loads c.if-header-ne1.false (omega (arith, high)) c.in_ok-split.split
    (view c.part.new.pass) c.in_ok-split.ensures.parts c.enter_halves.new.halves.items (view c.enter_halves.new.pass)
    c.in_ok-enter_halves.ensures.enters
