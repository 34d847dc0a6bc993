use Rattle.std.proofs.Common.{arith}
use Rattle.std.proofs.lemmas.Result.{IfOk-weaker}
use Rattle.storage_tests.proofs.NextSnapshots.{can_go_on, next_stands}
use Rattle.storage_tests.proofs.compositions.snapshots.Snapshots.new_pages.Goals as goal

pub returns-clause-newest : goal.returns-clause-newest
returns-clause-newest c =
    let newest = c.requires.newest in
    IfOk-weaker c.compose.result _ _
    (λ pages composed.
    next_stands c.args.self.now.store.pages pages c.args.self.now.decl c.args.self.now.epoch c.count.result _ newest.0 newest.2
    (composed newest.0
    (can_go_on c.args.self.now.store.pages c.args.self.now.decl c.args.self.now.epoch c.count.result _ newest c.count.ensures.count c.in_ok-run.ensures.each c.in_ok-run.ensures.rising
    (omega (arith, c.if-self-ge-MOST.false)))))
    c.compose.ensures.composed

pub compose-requires-clause-can : goal.compose-requires-clause-can
compose-requires-clause-can c =
    let newest = c.requires.newest in (
      newest.0,
      can_go_on c.args.self.now.store.pages c.args.self.now.decl c.args.self.now.epoch c.count.result _ newest c.count.ensures.count c.in_ok-run.ensures.each c.in_ok-run.ensures.rising
          (omega (arith, c.if-self-ge-MOST.false)),
    )
