use Rattle.std.proofs.Common.{◌≡◌, ℕ, ◌+◌, ◌*◌, ◌≤◌, refl, sym, ap, ◌∙◌, subst, arith, true}
use Rattle.engine_pages.specs.Passes.{view}
use Rattle.tree_walks.proofs.FindLaws.{walk_finds}
use Rattle.page_commit.proofs.WalkedLaws.{can_walk}
use Rattle.tree_calls.proofs.DueLaws.{find_due}
use Rattle.tree_calls.proofs.OnLaws.{find_on}
use Rattle.tree_ranges.proofs.StopLaws.{stop_can}
use Rattle.tree_ranges.proofs.StretchLaws.{comes_behind}
use Rattle.tree_ranges.proofs.TakeLaws.{walk_refused, walk_walked}
use Rattle.tree_ranges.proofs.WalkLaws.{live_walk, walk_goes}
use Rattle.tree_ranges.proofs.stretches.scan_stretch.Goals as goal

pub go_down-requires-clause-can : goal.go_down-requires-clause-can
go_down-requires-clause-can c = can_walk c.args.sets.now (view c.args.pass.now) c.requires.live

-- ---- it came to an end

pub scan_end-requires-clause-live : goal.scan_end-requires-clause-live
scan_end-requires-clause-live c =
    live_walk c.args.sets.now c.go_down.new.holds (view c.args.pass.now) (view c.go_down.new.pass) c.requires.live
    c.go_down.ensures.goes.went.walked c.go_down.ensures.goes.went.can c.go_down.ensures.goes.went.kept
    c.go_down.ensures.goes.went.words c.go_down.ensures.goes.went.met
    c.in-Ok.ensures.goes.keeps

pub returns-in-Ok-clause-comes : goal.returns-in-Ok-clause-comes
returns-in-Ok-clause-comes c =
    let v = view c.args.pass.now in
    let u = view c.go_down.new.pass in
    let w = view c.scan_end.new.pass in
    let mid = record c.args.sets.now { holds = c.go_down.new.holds } in
    comes_behind c.args.key.storage c.args.key.key c.args.last c.args.sets.now mid c.scan_end.new.sets c.args.rows.now
    c.scan_end.new.rows v u w c.requires.last
    (walk_goes c.args.sets.now c.go_down.new.holds v u c.requires.live c.go_down.ensures.goes.went.walked
    c.go_down.ensures.goes.went.can
    c.go_down.ensures.goes.went.kept c.go_down.ensures.goes.went.words c.go_down.ensures.goes.went.met
    c.in-Ok.ensures.goes.keeps c.args.key
    c.go_down.ensures.goes.paths c.in-Ok.ensures.goes.led)
    0 1181 19 5683 4483 c.scan_end.result c.go_down.ensures.goes.went.most c.scan_end.ensures.comes
    (λ d some. omega (arith, some))

-- ---- it was refused

pub refuse_on-requires-clause-can : goal.refuse_on-requires-clause-can
refuse_on-requires-clause-can c =
    let v = view c.args.pass.now in
    let w = view c.go_down.new.pass in
    stop_can c.args.sets.now c.go_down.new.holds c.args.key v w w
    (walk_walked c.args.sets.now c.go_down.new.holds v w c.requires.live c.go_down.ensures.goes.went.walked
    c.go_down.ensures.goes.went.can)

pub refuse_on-requires-clause-due : goal.refuse_on-requires-clause-due
refuse_on-requires-clause-due c =
    let v = view c.args.pass.now in
    let w = view c.go_down.new.pass in
    find_due c.in-Err.why c.args.sets.now c.go_down.new.holds c.go_down.new.holds c.args.key v w
    (walk_walked c.args.sets.now c.go_down.new.holds v w c.requires.live c.go_down.ensures.goes.went.walked
    c.go_down.ensures.goes.went.can)
    (walk_finds c.args.key c.args.sets.now.pointers c.args.sets.now.headers c.go_down.new.holds c.in-Err.why v w
    c.in-Err.ensures.goes.cause)

pub refuse_on-requires-clause-on : goal.refuse_on-requires-clause-on
refuse_on-requires-clause-on c =
    let v = view c.args.pass.now in
    let w = view c.go_down.new.pass in
    find_on c.in-Err.why c.args.sets.now c.go_down.new.holds c.args.key v w
    (walk_walked c.args.sets.now c.go_down.new.holds v w c.requires.live c.go_down.ensures.goes.went.walked
    c.go_down.ensures.goes.went.can)
    (walk_finds c.args.key c.args.sets.now.pointers c.args.sets.now.headers c.go_down.new.holds c.in-Err.why v w
    c.in-Err.ensures.goes.cause)

pub returns-in-Err-clause-comes : goal.returns-in-Err-clause-comes
returns-in-Err-clause-comes c =
    let v = view c.args.pass.now in
    let w = view c.go_down.new.pass in
    walk_refused c.args.sets.now c.go_down.new.holds c.args.key c.args.last c.in-Err.why c.refuse_on.result
    c.args.rows.now v w
    (view c.refuse_on.new.pass) c.requires.live c.go_down.ensures.goes.went.walked c.go_down.ensures.goes.went.can
    c.in-Err.ensures.goes.cause
    c.refuse_on.ensures.gives_up c.go_down.ensures.goes.went.most c.refuse_on.ensures.most c.refuse_on.ensures.why
    c.requires.last
