use Rattle.std.proofs.Common.{◌≡◌, ◌⊎◌, inl, inr, ℕ, ◌+◌, ◌≤◌, refl, sym, ap, ◌∙◌, subst, arith, List, []}
use Rattle.engine_pages.specs.Passes.{view}
use Rattle.page_commit.proofs.WalkedLaws.{can_walk}
use Rattle.tree_walks.proofs.HalfLaws.{bounds_of}
use Rattle.tree_calls.proofs.DueLaws.{find_due}
use Rattle.tree_calls.proofs.OnLaws.{find_on}
use Rattle.tree_ranges.proofs.StopLaws.{stop_can}
use Rattle.tree_ranges.proofs.StretchLaws.{below_comes, below_place, free_less}
use Rattle.tree_ranges.proofs.TakeLaws.{below_refused, below_walked}
use Rattle.tree_ranges.proofs.stretches.scan_below.Goals as goal

pub read_below-requires-clause-can : goal.read_below-requires-clause-can
read_below-requires-clause-can c = can_walk c.args.sets.now (view c.args.pass.now) c.requires.live

pub read_below-requires-clause-last : goal.read_below-requires-clause-last
read_below-requires-clause-last c =
    let first = c.requires.last in
    let over = (bounds_of c.args.bare.span c.args.key c.requires.bare.over).2 in
    let top = c.least_of-top.ensures.a in
    (elim c.least_of-top.ensures.is [ inl a ↦ omega (arith, a, over) | inr b ↦ omega (arith, b, first) ], top)

pub keep_pointer-requires : goal.keep_pointer-requires
keep_pointer-requires c =
    below_place c.args.sets.now c.args.key c.args.bare c.least_of-top.result c.in-Ok.to c.read_below.new.rows
    (view c.args.pass.now) (view c.read_below.new.pass) c.in-Ok.ensures.reads

pub returns-in-Ok-clause-comes : goal.returns-in-Ok-clause-comes
returns-in-Ok-clause-comes c =
    below_comes c.args.sets.now (record c.args.sets.now { pointers = c.keep_pointer.new.pointers }) c.args.key
    c.args.bare
    c.least_of-top.result c.in-Ok.to c.read_below.new.rows (view c.args.pass.now) (view c.read_below.new.pass)
    c.requires.live c.requires.bare
    (free_less c.args.key.storage c.args.key.key c.least_of-top.result c.args.last c.args.sets.now.writes
    c.least_of-top.ensures.b c.requires.free)
    c.in-Ok.ensures.reads refl c.keep_pointer.ensures refl refl refl c.args.rows.now c.add_rows.new.rows
    c.add_rows.result
    c.args.last c.requires.few c.least_of-top.ensures.b c.add_rows.ensures

pub refuse_on-requires-clause-can : goal.refuse_on-requires-clause-can
refuse_on-requires-clause-can c =
    let v = view c.args.pass.now in
    let w = view c.read_below.new.pass in
    stop_can c.args.sets.now c.args.sets.now.holds c.args.key v w w
    (below_walked c.args.sets.now c.args.key c.args.bare c.least_of-top.result c.in-Err.why c.read_below.new.rows v w
    c.requires.live c.in-Err.ensures.reads)

pub refuse_on-requires-clause-due : goal.refuse_on-requires-clause-due
refuse_on-requires-clause-due c =
    let v = view c.args.pass.now in
    let w = view c.read_below.new.pass in
    find_due c.in-Err.why c.args.sets.now c.args.sets.now.holds c.args.sets.now.holds c.args.key v w
    (below_walked c.args.sets.now c.args.key c.args.bare c.least_of-top.result c.in-Err.why c.read_below.new.rows v w
    c.requires.live c.in-Err.ensures.reads)
    c.in-Err.ensures.reads.cause

pub refuse_on-requires-clause-on : goal.refuse_on-requires-clause-on
refuse_on-requires-clause-on c =
    let v = view c.args.pass.now in
    let w = view c.read_below.new.pass in
    find_on c.in-Err.why c.args.sets.now c.args.sets.now.holds c.args.key v w
    (below_walked c.args.sets.now c.args.key c.args.bare c.least_of-top.result c.in-Err.why c.read_below.new.rows v w
    c.requires.live c.in-Err.ensures.reads)
    c.in-Err.ensures.reads.cause

pub returns-in-Err-clause-comes : goal.returns-in-Err-clause-comes
returns-in-Err-clause-comes c =
    below_refused c.args.sets.now c.args.key c.args.bare c.least_of-top.result c.args.last c.in-Err.why c.refuse_on.result
    c.read_below.new.rows c.args.rows.now (view c.args.pass.now) (view c.read_below.new.pass) (view c.refuse_on.new.pass)
    c.requires.live c.in-Err.ensures.reads c.requires.bare c.refuse_on.ensures.gives_up c.refuse_on.ensures.most
    c.refuse_on.ensures.why c.requires.last
