use Rattle.std.proofs.Common.{◌+◌, ◌-◌, ap, sym, subst, arith}
use Rattle.engine_pages.specs.Passes.{view}
use Rattle.tree_drops.specs.Turns.{CanGoFrom}
use Rattle.tree_drops.specs.declared.branches.Branch.{Branch}
use Rattle.tree_drops.proofs.Asks.{close_opened, close_work, go_inside, go_over}
use Rattle.tree_drops.proofs.Rows.{gone_as, gone_next, gone_none, inner_as, visited_branch, visited_few}
use Rattle.tree_drops.proofs.visits.+visit_from.Goals as goal

pub returns-then-index-branch-clause-goes : goal.returns-then-index-branch-clause-goes
returns-then-index-branch-clause-goes t c =
    gone_none c.args.branch.slot c.args.branch.page c.args.branch.count c.args.epoch c.args.branch.span c.args.index
    c.args.before (view c.args.pass.now) c.if-index-branch.true c.requires.few

pub visit_from-requires : goal.visit_from-requires
visit_from-requires t c =
    let child = c.child_target-target.ensures.child in
    let visit = c.in-Err.ensures.visits in
    let index = c.requires.index in
    let more = c.if-index-branch.false in (
      omega (arith, index, more),
      (
        c.open.ensures.of,
        (
          go_over c.args.branch.slot c.args.branch.page c.args.branch.count c.args.epoch c.args.branch.span
              (view c.child_target-target.new.pass) (view c.open.new.pass) visit.over visit.known child.goes,
          (
            omega (arith, index, more),
            visited_few c.child_target-target.result.span c.child_target-target.result.at c.child_target-target.result.page
                c.child_target-target.result.epoch c.args.before c.in-Err.sum (view c.child_target-target.new.pass)
                (view c.open.new.pass) visit,
          ),
        ),
      ),
    )

pub visit_from-below-requires : goal.visit_from-below-requires
visit_from-below-requires t c =
    let child = c.child_target-target.ensures.child in
    let below = child.below in
    let few = c.in-Ok.ensures.opens.opened.opened.at.few in
    let index = c.requires.index in
    let more = c.if-index-branch.false in
    let page = ap (λ (z : Branch). z.page) c.branch_of-inner.ensures in
    let count = ap (λ (z : Branch). z.count) c.branch_of-inner.ensures in (
      omega (arith, below, few, index, more, page, count),
      (
        c.open.ensures.of,
        (
          inner_as c.branch_of-inner.result c.in-Ok.opened.slot c.in-Ok.opened.count c.child_target-target.result.page c.args.epoch
              c.child_target-target.result.span (view c.open.new.pass) c.branch_of-inner.ensures
              (subst (λ n. CanGoFrom c.in-Ok.opened.slot c.child_target-target.result.span c.child_target-target.result.page
              c.in-Ok.opened.count n (view c.open.new.pass)) child.epoch_is
              (go_inside c.child_target-target.result.place c.child_target-target.result.span c.child_target-target.result.at
              c.child_target-target.result.page c.child_target-target.result.epoch c.in-Ok.opened
              (view c.child_target-target.new.pass) (view c.open.new.pass) child.can c.in-Ok.ensures.opens)),
          (omega arith, c.requires.few),
        ),
      ),
    )

pub close-sum-requires-clause-work : goal.close-sum-requires-clause-work
close-sum-requires-clause-work t c =
    let child = c.child_target-target.ensures.child in
    let gone = gone_as c.branch_of-inner.result c.in-Ok.opened.slot c.in-Ok.opened.count c.child_target-target.result.page c.args.epoch
    c.child_target-target.result.epoch c.child_target-target.result.span c.args.before c.visit_from-below.result
    (view c.open.new.pass) (view c.visit_from-below.new.pass) c.branch_of-inner.ensures (sym child.epoch_is)
    c.visit_from-below.ensures.goes in
    close_work c.child_target-target.result.place c.child_target-target.result.span c.child_target-target.result.at
    c.child_target-target.result.page c.child_target-target.result.epoch c.in-Ok.opened
    (view c.child_target-target.new.pass) (view c.open.new.pass) child.can c.in-Ok.ensures.opens gone.met
    (view c.visit_from-below.new.pass) gone.row

pub close-sum-requires-clause-opened : goal.close-sum-requires-clause-opened
close-sum-requires-clause-opened t c =
    let child = c.child_target-target.ensures.child in
    let gone = gone_as c.branch_of-inner.result c.in-Ok.opened.slot c.in-Ok.opened.count c.child_target-target.result.page c.args.epoch
    c.child_target-target.result.epoch c.child_target-target.result.span c.args.before c.visit_from-below.result
    (view c.open.new.pass) (view c.visit_from-below.new.pass) c.branch_of-inner.ensures (sym child.epoch_is)
    c.visit_from-below.ensures.goes in
    close_opened c.child_target-target.result.place c.child_target-target.result.span c.child_target-target.result.at
    c.child_target-target.result.page c.child_target-target.result.epoch c.in-Ok.opened
    (view c.child_target-target.new.pass) (view c.open.new.pass) child.can c.in-Ok.ensures.opens gone.met
    (view c.visit_from-below.new.pass) gone.row

pub visit_from-requires-in-Ok : goal.visit_from-requires-in-Ok
visit_from-requires-in-Ok t c =
    let child = c.child_target-target.ensures.child in
    let gone = gone_as c.branch_of-inner.result c.in-Ok.opened.slot c.in-Ok.opened.count c.child_target-target.result.page c.args.epoch
    c.child_target-target.result.epoch c.child_target-target.result.span c.args.before c.visit_from-below.result
    (view c.open.new.pass) (view c.visit_from-below.new.pass) c.branch_of-inner.ensures (sym child.epoch_is)
    c.visit_from-below.ensures.goes in
    let visit = visited_branch c.child_target-target.result.place c.child_target-target.result.span c.child_target-target.result.at
    c.child_target-target.result.page c.child_target-target.result.epoch c.in-Ok.opened
    c.args.before c.visit_from-below.result c.close-sum.result (view c.child_target-target.new.pass) (view c.open.new.pass)
    (view c.visit_from-below.new.pass) (view c.close-sum.new.pass) child.can c.in-Ok.ensures.opens gone
    c.close-sum.ensures.closes in
    let index = c.requires.index in
    let more = c.if-index-branch.false in (
      omega (arith, index, more),
      (
        c.close-sum.ensures.of,
        (
          go_over c.args.branch.slot c.args.branch.page c.args.branch.count c.args.epoch c.args.branch.span
              (view c.child_target-target.new.pass) (view c.close-sum.new.pass) visit.over visit.known child.goes,
          (
            omega (arith, index, more),
            visited_few c.child_target-target.result.span c.child_target-target.result.at c.child_target-target.result.page
                c.child_target-target.result.epoch c.args.before c.close-sum.result (view c.child_target-target.new.pass)
                (view c.close-sum.new.pass) visit,
          ),
        ),
      ),
    )

pub returns-in-Err-clause-goes : goal.returns-in-Err-clause-goes
returns-in-Err-clause-goes t c =
    let few = c.requires.can.opened.at.few in
    let index = c.requires.index in
    gone_next c.args.branch.slot c.args.branch.page c.args.branch.count c.args.epoch c.args.index c.args.branch.span
    c.child_target-target.result c.args.before c.in-Err.sum c.visit_from.result (view c.args.pass.now)
    (view c.child_target-target.new.pass) (view c.open.new.pass) (view c.visit_from.new.pass) (omega (arith, few, index))
    c.requires.can c.child_target-target.ensures.child c.in-Err.ensures.visits c.visit_from.ensures.goes

pub returns-in-Ok-clause-goes : goal.returns-in-Ok-clause-goes
returns-in-Ok-clause-goes t c =
    let few = c.requires.can.opened.at.few in
    let index = c.requires.index in
    let child = c.child_target-target.ensures.child in
    let gone = gone_as c.branch_of-inner.result c.in-Ok.opened.slot c.in-Ok.opened.count c.child_target-target.result.page c.args.epoch
    c.child_target-target.result.epoch c.child_target-target.result.span c.args.before c.visit_from-below.result
    (view c.open.new.pass) (view c.visit_from-below.new.pass) c.branch_of-inner.ensures (sym child.epoch_is)
    c.visit_from-below.ensures.goes in
    let visit = visited_branch c.child_target-target.result.place c.child_target-target.result.span c.child_target-target.result.at
    c.child_target-target.result.page c.child_target-target.result.epoch c.in-Ok.opened
    c.args.before c.visit_from-below.result c.close-sum.result (view c.child_target-target.new.pass) (view c.open.new.pass)
    (view c.visit_from-below.new.pass) (view c.close-sum.new.pass) child.can c.in-Ok.ensures.opens gone
    c.close-sum.ensures.closes in
    gone_next c.args.branch.slot c.args.branch.page c.args.branch.count c.args.epoch c.args.index c.args.branch.span
    c.child_target-target.result c.args.before c.close-sum.result c.visit_from-in-Ok.result (view c.args.pass.now)
    (view c.child_target-target.new.pass) (view c.close-sum.new.pass) (view c.visit_from-in-Ok.new.pass)
    (omega (arith, few, index)) c.requires.can child visit c.visit_from-in-Ok.ensures.goes
