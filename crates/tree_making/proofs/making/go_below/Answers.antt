use Rattle.std.proofs.Common.{◌+◌, arith}
use Rattle.std.proofs.lemmas.Result.{err_from_is_err_and}
use Rattle.engine_pages.specs.Passes.{view}
use Rattle.tree_walks.specs.Ways.{HasCome}
use Rattle.tree_making.specs.Making.{page_steps, IsOn}
use Rattle.tree_making.specs.Pages.{HoldsMore}
use Rattle.tree_making.proofs.LeafLaws.{refused_more}
use Rattle.tree_making.proofs.MakeLaws.{makes_behind, walk_makes}
use Rattle.tree_making.proofs.RoundLaws.{more_then, on_ok}
use Rattle.tree_making.proofs.making.go_below.Goals as goal

pub bring-requires-clause-bare : goal.bring-requires-clause-bare
bring-requires-clause-bare c = (c.args.key, c.requires.bare)

pub returns-in_err-page-clause-makes : goal.returns-in_err-page-clause-makes
returns-in_err-page-clause-makes c =
    let p = err_from_is_err_and c.from_residual.result c.from_residual.ensures.1 in
    let v = view c.args.pass.now in
    rw (p.1, p.2)
    (refused_more (v.layout.slots + 135) (page_steps v.layout.slots) c.args.key c.args.pointers.now c.args.headers.now
    c.bring.new.holds (IsOn c.args.key) (HasCome c.args.key c.args.pointers.now c.args.headers.now) _ v
    (view c.bring.new.pass) (omega arith)
    (c.in_err-page.ensures.brings c.args.key c.args.headers.now c.requires.bare))

pub go_down_from-requires-clause-can : goal.go_down_from-requires-clause-can
go_down_from-requires-clause-can c =
    (c.in_ok-page.ensures.brings c.args.key c.args.headers.now c.requires.bare).went.can.walks

pub go_down_from-requires-clause-on : goal.go_down_from-requires-clause-on
go_down_from-requires-clause-on c = (c.in_ok-page.ensures.brings c.args.key c.args.headers.now c.requires.bare).came

pub returns-clause-makes : goal.returns-clause-makes
returns-clause-makes c =
    let v = view c.args.pass.now in
    let u = view c.bring.new.pass in
    let w = view c.go_down_from.new.pass in
    let brings = c.in_ok-page.ensures.brings c.args.key c.args.headers.now c.requires.bare in
    makes_behind (v.layout.slots + 135) 4480 (page_steps v.layout.slots) c.args.key c.args.pointers.now
    c.args.headers.now c.bring.new.holds c.go_down_from.new.holds
    (HasCome c.args.key c.args.pointers.now c.args.headers.now) c.go_down_from.result v u w (omega arith) brings.went
    brings.led brings.paths brings.keeps
    (walk_makes 4480 c.args.key c.args.pointers.now c.args.headers.now c.bring.new.holds c.go_down_from.new.holds
    (HasCome c.args.key c.args.pointers.now c.args.headers.now) c.go_down_from.result u w brings.went.can
    c.go_down_from.ensures.goes)

pub returns-clause-more : goal.returns-clause-more
returns-clause-more c =
    let v = view c.args.pass.now in
    let u = view c.bring.new.pass in
    let w = view c.go_down_from.new.pass in
    on_ok c.go_down_from.result (HoldsMore v w) (more_then v u w c.in_ok-page.ensures.more
    c.go_down_from.ensures.goes.went.walked)
