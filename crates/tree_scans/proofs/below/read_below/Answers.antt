use Rattle.std.proofs.Common.{◌≡◌, ◌⊎◌, inl, inr, ℕ, ◌+◌, ◌<◌, ◌≤◌, List, [], length, refl, sym, ap, ◌∙◌, subst, arith}
use Rattle.std.specs.Prelude.{Err, Ok}
use Rattle.std.proofs.lemmas.Result.{err_from_is_err_and}
use Rattle.engine_pages.specs.declared.view.RefusalCause.{RefusalCause}
use Rattle.engine_pages.specs.declared.view.View.{View}
use Rattle.engine_pages.specs.Passes.{view}
use Rattle.array_pages.proofs.LookLaws.{glanced_self, glanced_then, looks_glanced, pages_glanced}
use Rattle.tree_walks.proofs.BelowLaws.{below_changed, below_full, below_looks, below_stands, below_there}
use Rattle.tree_walks.proofs.HalfLaws.{bounds_of}
use Rattle.tree_walks.proofs.SnapLaws.{leaf_same}
use Rattle.tree_scans.specs.Belows.{ReadsBelow}
use Rattle.tree_scans.proofs.BelowReadLaws.{below_read, below_refused, empty_rows, full_at, stored_rows}
use Rattle.tree_scans.proofs.RowsLaws.{leaf_rows, no_rows}
use Rattle.tree_scans.proofs.below.read_below.Goals as goal

pub see_pointer-again-requires-clause-pass : goal.see_pointer-again-requires-clause-pass
see_pointer-again-requires-clause-pass c =
    (c.requires.can.active, c.requires.can.rest)

pub see_pointer-again-requires-clause-place : goal.see_pointer-again-requires-clause-place
see_pointer-again-requires-clause-place c =
    c.requires.bare.is

pub see_pointer-again-requires-clause-word : goal.see_pointer-again-requires-clause-word
see_pointer-again-requires-clause-word c =
    c.requires.bare.within

pub returns-in_err-check_room-clause-reads : goal.returns-in_err-check_room-clause-reads
returns-in_err-check_room-clause-reads c =
    let p = err_from_is_err_and c.from_residual.result c.from_residual.ensures.1 in
    rw (p.1, p.2)
    (below_refused c.args.key c.args.bare c.args.pointers.now c.args.headers.now c.args.holds.now c.args.last
    c.in_err-check_room.field-0.0
    c.args.rows.now (view c.args.pass.now) (view c.args.pass.now)
    (below_full 1200 c.args.key c.args.pointers.now c.args.headers.now c.args.holds.now c.args.bare
    c.in_err-check_room.field-0.0 (view c.args.pass.now) c.requires.can c.requires.bare
    c.in_err-check_room.ensures.full)
    (full_at c.args.bare.pointer.at c.args.pointers.now c.in_err-check_room.field-0.0 c.in_err-check_room.ensures.full))

pub returns-then-again-word-clause-reads : goal.returns-then-again-word-clause-reads
returns-then-again-word-clause-reads c =
    let v = view c.args.pass.now in
    let u = view c.see_pointer-again.new.pass in
    subst (λ (r : RefusalCause). ReadsBelow c.args.key c.args.bare c.args.pointers.now c.args.headers.now
    c.args.holds.now c.args.last (Err r)
    c.args.rows.now v u) (sym c.conflict.ensures)
    (below_refused c.args.key c.args.bare c.args.pointers.now c.args.headers.now c.args.holds.now c.args.last _
    c.args.rows.now v u
    (below_changed c.args.key c.args.pointers.now c.args.headers.now c.args.holds.now c.args.bare v
    c.see_pointer-again.result
    u c.requires.can c.requires.bare c.see_pointer-again.ensures.sees 1200 (omega arith) c.if-again-word.true)
    refl)

pub returns-then-word-eq0-clause-reads : goal.returns-then-word-eq0-clause-reads
returns-then-word-eq0-clause-reads c =
    let v = view c.args.pass.now in
    let u = view c.see_pointer-again.new.pass in
    subst (λ (q : List (ℕ × ℕ)). ReadsBelow c.args.key c.args.bare c.args.pointers.now c.args.headers.now
    c.args.holds.now c.args.last (Ok c.args.last) q v u)
    (sym c.requires.none)
    (below_read c.args.key c.args.pointers.now c.args.headers.now c.args.holds.now c.args.bare (view c.args.pass.now)
    c.see_pointer-again.result (view c.see_pointer-again.new.pass)
    c.requires.can c.requires.bare c.see_pointer-again.ensures.sees
    c.if-again-word.false u (glanced_self u) (omega arith) c.in_ok-check_room.ensures.room c.args.last c.args.last []
    c.requires.last.0 (omega arith) c.requires.last.1 (λ m low high. empty_rows u.pages c.args.bare m
    c.if-word-eq0.true)
    (no_rows c.args.key.key c.args.last))

pub leaf_below-leaf-requires-clause-can : goal.leaf_below-leaf-requires-clause-can
leaf_below-leaf-requires-clause-can c =
    below_looks c.args.key c.args.pointers.now c.args.headers.now c.args.holds.now c.args.bare (view c.args.pass.now)
    c.see_pointer-again.result (view c.see_pointer-again.new.pass)
    c.requires.can c.requires.bare c.see_pointer-again.ensures.sees c.if-again-word.false

pub leaf_below-leaf-requires-clause-there : goal.leaf_below-leaf-requires-clause-there
leaf_below-leaf-requires-clause-there c =
    below_there c.args.key c.args.pointers.now c.args.headers.now c.args.holds.now c.args.bare (view c.args.pass.now)
    c.see_pointer-again.result (view c.see_pointer-again.new.pass)
    c.requires.can c.requires.bare c.see_pointer-again.ensures.sees c.if-again-word.false

pub leaf_below-leaf-requires-clause-stands : goal.leaf_below-leaf-requires-clause-stands
leaf_below-leaf-requires-clause-stands c =
    below_stands c.args.key c.args.pointers.now c.args.headers.now c.args.holds.now c.args.bare
    (view c.args.pass.now) c.see_pointer-again.result (view c.see_pointer-again.new.pass)
    c.requires.can c.requires.bare c.see_pointer-again.ensures.sees c.if-again-word.false

pub leaf_below-leaf-requires-clause-some : goal.leaf_below-leaf-requires-clause-some
leaf_below-leaf-requires-clause-some c =
    let other = c.if-word-eq0.false in omega (arith, other)

pub leaf_below-leaf-requires-clause-low : goal.leaf_below-leaf-requires-clause-low
leaf_below-leaf-requires-clause-low c =
    (bounds_of c.args.bare.span c.args.key c.requires.bare.over).1

pub leaf_below-leaf-requires-clause-to : goal.leaf_below-leaf-requires-clause-to
leaf_below-leaf-requires-clause-to c =
    (bounds_of c.args.bare.span c.args.key c.requires.bare.over).2

pub read_rows-requires-clause-can : goal.read_rows-requires-clause-can
read_rows-requires-clause-can c =
    let u = view c.see_pointer-again.new.pass in
    let t = view c.leaf_below-leaf.new.pass in
    let g = c.leaf_below-leaf.ensures.glances in
    let s = c.leaf_below-leaf.ensures.leaf in
    looks_glanced u t g (below_looks c.args.key c.args.pointers.now c.args.headers.now c.args.holds.now c.args.bare
    (view c.args.pass.now) c.see_pointer-again.result (view c.see_pointer-again.new.pass)
    c.requires.can c.requires.bare c.see_pointer-again.ensures.sees
    c.if-again-word.false)

pub read_rows-requires-clause-some : goal.read_rows-requires-clause-some
read_rows-requires-clause-some c =
    let u = view c.see_pointer-again.new.pass in
    let t = view c.leaf_below-leaf.new.pass in
    let g = c.leaf_below-leaf.ensures.glances in
    let s = c.leaf_below-leaf.ensures.leaf in
    s.some

pub read_rows-requires-clause-there : goal.read_rows-requires-clause-there
read_rows-requires-clause-there c =
    let u = view c.see_pointer-again.new.pass in
    let t = view c.leaf_below-leaf.new.pass in
    let g = c.leaf_below-leaf.ensures.glances in
    let s = c.leaf_below-leaf.ensures.leaf in
    subst (λ (q : List (List ℕ)). c.leaf_below-leaf.result.page ≤ length q) (sym (pages_glanced u t g))
    s.there

pub read_rows-requires-clause-leaf : goal.read_rows-requires-clause-leaf
read_rows-requires-clause-leaf c =
    let u = view c.see_pointer-again.new.pass in
    let t = view c.leaf_below-leaf.new.pass in
    let g = c.leaf_below-leaf.ensures.glances in
    let s = c.leaf_below-leaf.ensures.leaf in
    leaf_same u.pages t.pages c.leaf_below-leaf.result.page c.leaf_below-leaf.result.count (pages_glanced u t g) s.is

pub returns-clause-reads : goal.returns-clause-reads
returns-clause-reads c =
    let u = view c.see_pointer-again.new.pass in
    let t = view c.leaf_below-leaf.new.pass in
    let g = c.leaf_below-leaf.ensures.glances in
    let s = c.leaf_below-leaf.ensures.leaf in
    let w = view c.read_rows.new.pass in
    let top = c.least_of-to.ensures.a in
    let within = c.least_of-to.ensures.b in
    let end = c.requires.last.1 in
    let one = c.leaf_below-leaf.ensures.most in
    let two = c.read_rows.ensures.most in
    let first = c.requires.last.0 in
    let up = (s.leaf).to in
    let high = s.high-is in
    below_read c.args.key c.args.pointers.now c.args.headers.now c.args.holds.now c.args.bare (view c.args.pass.now)
    c.see_pointer-again.result (view c.see_pointer-again.new.pass)
    c.requires.can c.requires.bare c.see_pointer-again.ensures.sees
    c.if-again-word.false w (glanced_then u t w g c.read_rows.ensures.glances) (omega (arith, one, two))
    c.in_ok-check_room.ensures.room
    c.args.last c.least_of-to.result c.read_rows.new.rows
    (elim c.least_of-to.ensures.is [ inl a ↦ omega (arith, a, up, high) | inr b ↦ omega (arith, b, first) ]) within
    (omega (arith, within, end))
    (λ m low to.
    stored_rows u.pages c.args.bare c.args.key.key c.leaf_below-leaf.result.page c.leaf_below-leaf.result.count
    c.leaf_below-leaf.result.high c.least_of-to.result m c.read_rows.new.rows s
    (c.read_rows.ensures.rows
    (leaf_same u.pages t.pages c.leaf_below-leaf.result.page c.leaf_below-leaf.result.count (pages_glanced u t g)
    s.is)) low to
    (omega (arith, to, top)))
    (leaf_rows c.args.key.key c.least_of-to.result (s.is).low (s.is).high (s.is).records c.read_rows.new.rows (s.is).is
    (c.read_rows.ensures.rows
    (leaf_same u.pages t.pages c.leaf_below-leaf.result.page c.leaf_below-leaf.result.count (pages_glanced u t g)
    s.is)))
