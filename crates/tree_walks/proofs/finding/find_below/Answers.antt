use Rattle.std.proofs.Common.{ℕ, Option, Some, None, sym, subst, arith}
use Rattle.std.specs.Prelude.{Err}
use Rattle.std.proofs.lemmas.Result.{err_from_is_err_and}
use Rattle.engine_pages.specs.declared.view.RefusalCause.{RefusalCause}
use Rattle.engine_pages.specs.Passes.{view}
use Rattle.engine_pages.specs.Resident.{place_for}
use Rattle.snapshot_store.specs.Content.{deepest}
use Rattle.snapshot_store.specs.Places.{find}
use Rattle.snapshot_store.specs.TreePages.{tree_format}
use Rattle.tree_walks.specs.declared.snapshots.Stored.{Stored}
use Rattle.tree_walks.specs.Finds.{KeepsSo}
use Rattle.tree_walks.specs.Snapshots.{IsLooked}
use Rattle.tree_walks.proofs.BelowLaws.{below_changed, below_found, below_full, below_looks, below_stands}
use Rattle.tree_walks.proofs.BelowLaws.{below_there, below_to}
use Rattle.tree_walks.proofs.finding.find_below.Goals as goal

pub see_pointer-again-requires-clause-pass : goal.see_pointer-again-requires-clause-pass
see_pointer-again-requires-clause-pass c = (c.requires.can.active, c.requires.can.rest)

pub see_pointer-again-requires-clause-place : goal.see_pointer-again-requires-clause-place
see_pointer-again-requires-clause-place c = c.requires.bare.is

pub see_pointer-again-requires-clause-word : goal.see_pointer-again-requires-clause-word
see_pointer-again-requires-clause-word c = c.requires.bare.within

pub returns-in_err-check_room-clause-keeps : goal.returns-in_err-check_room-clause-keeps
returns-in_err-check_room-clause-keeps c =
    let p = err_from_is_err_and c.from_residual.result c.from_residual.ensures.1 in
    rw (p.1, p.2)
    (below_full 1200 c.args.key c.args.pointers.now c.args.headers.now c.args.holds.now c.args.bare
    c.in_err-check_room.field-0.0 (view c.args.pass.now) c.requires.can c.requires.bare c.in_err-check_room.ensures.full)

pub returns-then-again-word-clause-keeps : goal.returns-then-again-word-clause-keeps
returns-then-again-word-clause-keeps c =
    let v = view c.args.pass.now in
    let u = view c.see_pointer-again.new.pass in
    subst (λ (r : RefusalCause). KeepsSo 1200 c.args.key c.args.pointers.now c.args.headers.now c.args.holds.now (Err r) v u)
    (sym c.conflict.ensures)
    (below_changed c.args.key c.args.pointers.now c.args.headers.now c.args.holds.now c.args.bare v c.see_pointer-again.result
    u c.requires.can c.requires.bare c.see_pointer-again.ensures.sees 1200 (omega arith) c.if-again-word.true)

pub look_up-requires-clause-can : goal.look_up-requires-clause-can
look_up-requires-clause-can c =
    below_looks c.args.key c.args.pointers.now c.args.headers.now c.args.holds.now c.args.bare (view c.args.pass.now)
    c.see_pointer-again.result (view c.see_pointer-again.new.pass) c.requires.can c.requires.bare
    c.see_pointer-again.ensures.sees c.if-again-word.false

pub look_up-requires-clause-there : goal.look_up-requires-clause-there
look_up-requires-clause-there c =
    below_there c.args.key c.args.pointers.now c.args.headers.now c.args.holds.now c.args.bare (view c.args.pass.now)
    c.see_pointer-again.result (view c.see_pointer-again.new.pass) c.requires.can c.requires.bare
    c.see_pointer-again.ensures.sees c.if-again-word.false

pub look_up-requires-clause-stands : goal.look_up-requires-clause-stands
look_up-requires-clause-stands c =
    below_stands c.args.key c.args.pointers.now c.args.headers.now c.args.holds.now c.args.bare (view c.args.pass.now)
    c.see_pointer-again.result (view c.see_pointer-again.new.pass) c.requires.can c.requires.bare
    c.see_pointer-again.ensures.sees c.if-again-word.false

pub look_up-requires-clause-to : goal.look_up-requires-clause-to
look_up-requires-clause-to c =
    below_to c.args.key c.args.pointers.now c.args.headers.now c.args.holds.now c.args.bare (view c.args.pass.now)
    c.see_pointer-again.result (view c.see_pointer-again.new.pass) c.requires.can c.requires.bare
    c.see_pointer-again.ensures.sees c.if-again-word.false

pub returns-in-Some-clause-keeps : goal.returns-in-Some-clause-keeps
returns-in-Some-clause-keeps c =
    let u = view c.see_pointer-again.new.pass in
    let w = view c.look_up.new.pass in
    let same = c.if-again-word.false in
    below_found c.args.key c.args.pointers.now c.args.headers.now c.args.holds.now c.args.bare (view c.args.pass.now)
    c.see_pointer-again.result u c.requires.can c.requires.bare c.see_pointer-again.ensures.sees same 1024 1200 (Some c.in-Some.stored) w
    (omega arith) c.look_up.ensures.glances c.look_up.ensures.most
    (subst (λ (i : ℕ). IsLooked (find tree_format u.pages deepest c.args.key.key (place_for c.args.bare.span i)) (Some c.in-Some.stored))
    (sym same)
    (subst (λ (o : Option Stored). IsLooked (find tree_format u.pages deepest c.args.key.key
    (place_for c.args.bare.span c.args.bare.pointer.word)) o) c.in-Some.is c.look_up.ensures.looks))
    c.in_ok-check_room.ensures.room

pub returns-in-None-clause-keeps : goal.returns-in-None-clause-keeps
returns-in-None-clause-keeps c =
    let u = view c.see_pointer-again.new.pass in
    let w = view c.look_up.new.pass in
    let same = c.if-again-word.false in
    below_found c.args.key c.args.pointers.now c.args.headers.now c.args.holds.now c.args.bare (view c.args.pass.now)
    c.see_pointer-again.result u c.requires.can c.requires.bare c.see_pointer-again.ensures.sees same 1024 1200 None w
    (omega arith) c.look_up.ensures.glances c.look_up.ensures.most
    (subst (λ (i : ℕ). IsLooked (find tree_format u.pages deepest c.args.key.key (place_for c.args.bare.span i)) None)
    (sym same)
    (subst (λ (o : Option Stored). IsLooked (find tree_format u.pages deepest c.args.key.key
    (place_for c.args.bare.span c.args.bare.pointer.word)) o) c.in-None.is c.look_up.ensures.looks))
    c.in_ok-check_room.ensures.room
