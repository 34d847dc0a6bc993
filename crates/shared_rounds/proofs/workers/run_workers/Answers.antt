use Rattle.std.proofs.Common.{◌∙◌, map, subst, sym, arith}
use Rattle.engine_pages.specs.Passes.{view}
use Rattle.engine_pages.specs.Views.{IsActive}
use Rattle.tx_script.specs.Run.{CanRun}
use Rattle.shared_rounds.specs.Beside.{BeginsBeside}
use Rattle.shared_rounds.specs.Gathers.{HasGathered}
use Rattle.shared_rounds.specs.SharedState.{AreKept, SharedState, shared_by}
use Rattle.shared_rounds.specs.Shares.{Share}
use Rattle.shared_rounds.specs.Together.{RunsBeside}
use Rattle.shared_rounds.proofs.Besides.{begins_beside, beside_ran}
use Rattle.shared_rounds.proofs.Gathering.{gathered_so}
use Rattle.shared_rounds.proofs.Joined.{shares_of}
use Rattle.shared_rounds.proofs.Rounded.{clock_so, round_comes, round_kept, round_marks}
use Rattle.shared_rounds.proofs.workers.run_workers.Goals as goal

pub run_seated-ran-requires-clause-kept : goal.run_seated-ran-requires-clause-kept
run_seated-ran-requires-clause-kept g c κs within = c.engine.invariant.0.kept

pub run_seated-ran-requires-clause-epoch : goal.run_seated-ran-requires-clause-epoch
run_seated-ran-requires-clause-epoch g c κs within =
    let inv = c.engine.invariant.0 in let number = inv.number.some_epoch in omega (arith, inv.epoch, number)

pub run_seated-ran-requires-clause-lines : goal.run_seated-ran-requires-clause-lines
run_seated-ran-requires-clause-lines g c κs within =
    subst (λ (s : SharedState). CanRun s.decls c.args.round.now) (sym c.engine.view_is) c.requires.lines

pub run_seated-ran-requires-clause-beside : goal.run_seated-ran-requires-clause-beside
run_seated-ran-requires-clause-beside g c κs within v on =
    let inv = c.engine.invariant.0 in
    c.requires.beside v (subst (λ (s : SharedState). BeginsBeside s v) c.engine.view_is
    (begins_beside c.engine.inside.keeper c.engine.inside.clock v inv.epoch on))

pub audit-word-requires-clause-pass : goal.audit-word-requires-clause-pass
audit-word-requires-clause-pass g c = subst IsActive (sym c.run_seated-ran.ensures.keeper) tt

pub invariant_of-engine : goal.invariant_of-engine
invariant_of-engine g c =
    let inv = c.engine.invariant.0 in
    let ran = c.run_seated-ran.ensures.ran in (
      subst (λ n. AreKept c.engine.inside.words c.audit-word.new.pass c.engine.inside.decls n)
          (sym c.number_at-engine-inside.ensures)
          (round_kept g.D.Disk.tells g.D.Disk.clock g.D.Disk.image_at g.D.Disk.faults c.args.tries c.args.round.now
          c.engine.inside.words (view c.engine.inside.keeper) ran.behind (view c.run_seated-ran.new.keeper)
          c.audit-word.new.pass c.engine.inside.decls c.args.logs.now.items c.run_seated-ran.new.logs.items
          c.args.growing.now.items c.run_seated-ran.new.growing.items c.run_seated-ran.result.outcomes
          c.run_seated-ran.result.ends.items ran.ended inv.kept
          c.audit-word.result.0 c.audit-word.result.1 c.audit-word.ensures.counts c.audit-word.ensures.of inv.decls_are
          c.engine.inside.clock inv.number inv.epoch c.run_seated-ran.ensures.behind
          (ran.went.layout ∙ ran.begins.layout) (ran.went.claimed ran.begins.claimed)
          (ran.went.free ran.begins.free)),
      c.run_seated-ran.ensures.desks,
    )

pub returns-clause-history : goal.returns-clause-history
returns-clause-history g c =
    let inv = c.engine.invariant.0 in
    let ran = c.run_seated-ran.ensures.ran in
    subst (λ (s : SharedState). HasGathered s.decls c.args.round.now c.run_seated-ran.result.outcomes s.mine
    (view c.audit-word.new.pass).mine)
    c.engine.view_is
    (gathered_so g.D.Disk.tells g.D.Disk.clock g.D.Disk.image_at g.D.Disk.faults c.args.tries c.args.round.now
    (view c.engine.inside.keeper) ran.behind (view c.run_seated-ran.new.keeper) (view c.audit-word.new.pass)
    c.args.logs.now.items c.run_seated-ran.new.logs.items c.args.growing.now.items c.run_seated-ran.new.growing.items
    c.run_seated-ran.result ran.ended inv.kept c.audit-word.result.0 c.audit-word.result.1 c.audit-word.ensures.counts)

pub returns-clause-runs : goal.returns-clause-runs
returns-clause-runs g c =
    let inv = c.engine.invariant.0 in
    let ran = c.run_seated-ran.ensures.ran in
    let did = g.B.Beside.did c.args.beside.now c.run_seated-ran.new.beside in
    subst (λ (s : SharedState). RunsBeside g.D.Disk.tells g.D.Disk.clock g.D.Disk.image_at g.D.Disk.faults did
    c.args.tries c.args.round.now
    s (shared_by c.audit-word.new.pass c.number_at-engine-inside.result)
    c.args.logs.now.items c.run_seated-ran.new.logs.items c.args.growing.now.items c.run_seated-ran.new.growing.items
    c.run_seated-ran.result) c.engine.view_is
    (subst (λ n. RunsBeside g.D.Disk.tells g.D.Disk.clock g.D.Disk.image_at g.D.Disk.faults did c.args.tries
    c.args.round.now
    (shared_by c.engine.inside.keeper c.engine.inside.clock) (shared_by c.audit-word.new.pass n)
    c.args.logs.now.items c.run_seated-ran.new.logs.items c.args.growing.now.items c.run_seated-ran.new.growing.items
    c.run_seated-ran.result) (sym c.number_at-engine-inside.ensures)
    (record {
      marks = map (λ (share : Share). share.marks) (shares_of ran.ended.parts);
      readied = map (λ (share : Share). share.readied) (shares_of ran.ended.parts);
      lines = λ done. round_comes g.D.Disk.tells g.D.Disk.clock g.D.Disk.image_at g.D.Disk.faults c.args.tries
          c.args.round.now (view c.engine.inside.keeper) ran.behind (view c.run_seated-ran.new.keeper)
          (view c.audit-word.new.pass) c.args.logs.now.items c.run_seated-ran.new.logs.items c.args.growing.now.items
          c.run_seated-ran.new.growing.items c.run_seated-ran.result ran.ended inv.kept c.audit-word.result.0
          c.audit-word.result.1 c.audit-word.ensures.counts c.engine.inside.clock
          (clock_so (view c.engine.inside.keeper) c.engine.inside.clock inv.kept inv.epoch inv.draw) done
          c.requires.some_try;
      beside = beside_ran g.D.Disk.tells g.D.Disk.clock g.D.Disk.image_at g.D.Disk.faults did c.args.tries
          c.args.round.now c.engine.inside.keeper c.audit-word.new.pass c.engine.inside.clock
          (view c.run_seated-ran.new.keeper) c.args.logs.now.items c.run_seated-ran.new.logs.items
          c.args.growing.now.items c.run_seated-ran.new.growing.items c.run_seated-ran.result.outcomes
          c.run_seated-ran.result.ends.items inv.epoch ran c.audit-word.result.0 c.audit-word.result.1
          c.audit-word.ensures.counts c.run_seated-ran.ensures.behind;
    }))

pub returns-clause-marks : goal.returns-clause-marks
returns-clause-marks g c =
    let inv = c.engine.invariant.0 in
    let ran = c.run_seated-ran.ensures.ran in
    round_marks g.D.Disk.tells g.D.Disk.clock g.D.Disk.image_at g.D.Disk.faults c.args.tries c.args.round.now
    (view c.engine.inside.keeper) ran.behind (view c.run_seated-ran.new.keeper) (view c.audit-word.new.pass)
    c.args.logs.now.items c.run_seated-ran.new.logs.items c.args.growing.now.items c.run_seated-ran.new.growing.items
    c.run_seated-ran.result ran.ended inv.kept c.audit-word.result.0 c.audit-word.result.1 c.audit-word.ensures.counts

pub returns-clause-calls : goal.returns-clause-calls
returns-clause-calls g c = c.run_seated-ran.ensures.ran.ended.calls
