-- The phases are a round; after want of memory nothing was done.
use Rattle.std.proofs.Common.{◌∙◌, arith, refl, subst, sym}
use Rattle.std.proofs.lemmas.Result.{err_from_is_err_and}
use Rattle.tx_script.specs.Run.{CanRun}
use Rattle.worker_logs.specs.Rows.{AreLogsUp}
use Rattle.round_engine.specs.Keeping.{CanKeep}
use Rattle.round_engine.specs.Phases.{RunsAll}
use Rattle.round_engine.specs.Sides.{growing_in}
use Rattle.round_engine.specs.Standing.{ArePassed, RuntimeState}
use Rattle.round_engine.proofs.NothingRun.{all_in_room, room_none, stands_in_room}
use Rattle.round_engine.proofs.RoundWhole.{start_can, start_flushed, start_idle, start_passes, start_ups, whole}
use Rattle.round_engine.proofs.WhoseLines.{idled_by}
use Rattle.round_engine.proofs.rounds.round.Goals as goal

-- ---- room

pub make_rooms-requires : goal.make_rooms-requires
make_rooms-requires g c = (c.args.runtime.now.stands.decls, c.requires.lines)

pub returns-in_err-rooms-clause-rounds : goal.returns-in_err-rooms-clause-rounds
returns-in_err-rooms-clause-rounds g c =
    let p = err_from_is_err_and c.from_residual.result c.from_residual.ensures.1 in
    rw p.1 (record { runtime = refl; devices = room_none c.args.vault.now })

pub returns-in_err-answers-clause-rounds : goal.returns-in_err-answers-clause-rounds
returns-in_err-answers-clause-rounds g c =
    let p = err_from_is_err_and c.from_residual-in_err-answers.result c.from_residual-in_err-answers.ensures.1 in
    rw p.1 (record { runtime = refl; devices = c.in_err-answers.ensures.alone })

-- ---- the round in it

pub run_round-requires-clause-lines : goal.run_round-requires-clause-lines
run_round-requires-clause-lines g c κs within =
    subst (λ (r : RuntimeState). CanRun r.stands.decls c.args.round.now) (sym c.idle_logs.ensures.alone) c.requires.lines

pub run_round-requires-clause-ready : goal.run_round-requires-clause-ready
run_round-requires-clause-ready g c κs within =
    let idled = c.idle_logs.ensures in
    let stands = stands_in_room c.in_ok-answers.ensures.alone c.requires.stands in
    let idle = idled_by c.args.round.now c.owners_of-owners.result c.args.runtime.now.logs c.idle_logs.new.runtime.logs
    c.owners_of-owners.ensures.owners c.requires.stands.workers c.idle_logs.ensures.idle in
    subst (λ r. CanKeep g.D.Disk.tells g.D.Disk.clock g.D.Disk.image_at r c.make_room.new.vault) (sym idled.alone)
    (start_can c.args.round.now c.idle_logs.new.runtime.logs stands (c.requires.stands.goes_on c.requires.goes_on)
    (idled.length ∙ c.requires.stands.workers) idle)

pub run_round-requires-clause-whole : goal.run_round-requires-clause-whole
run_round-requires-clause-whole g c κs within =
    (stands_in_room c.in_ok-answers.ensures.alone c.requires.stands).whole

pub run_round-requires-clause-logs : goal.run_round-requires-clause-logs
run_round-requires-clause-logs g c κs within =
    let idled = c.idle_logs.ensures in
    let stands = stands_in_room c.in_ok-answers.ensures.alone c.requires.stands in
    let idle = idled_by c.args.round.now c.owners_of-owners.result c.args.runtime.now.logs c.idle_logs.new.runtime.logs
    c.owners_of-owners.ensures.owners c.requires.stands.workers c.idle_logs.ensures.idle in
    subst (λ (r : RuntimeState). AreLogsUp g.D.Disk.tells c.idle_logs.new.runtime.logs (growing_in r.side c.make_room.new.vault))
    (sym idled.alone)
    (start_ups c.args.round.now c.idle_logs.new.runtime.logs stands (c.requires.stands.goes_on c.requires.goes_on)
    (idled.length ∙ c.requires.stands.workers) idle)

pub run_round-requires-clause-passed : goal.run_round-requires-clause-passed
run_round-requires-clause-passed g c κs within =
    let idled = c.idle_logs.ensures in
    let idle = idled_by c.args.round.now c.owners_of-owners.result c.args.runtime.now.logs c.idle_logs.new.runtime.logs
    c.owners_of-owners.ensures.owners c.requires.stands.workers c.idle_logs.ensures.idle in
    subst (ArePassed c.args.round.now) (sym idled.alone)
    (start_passes c.args.round.now c.idle_logs.new.runtime.logs c.requires.stands (c.requires.stands.goes_on c.requires.goes_on)
    (idled.length ∙ c.requires.stands.workers) idle)

pub run_round-requires-clause-flushed : goal.run_round-requires-clause-flushed
run_round-requires-clause-flushed g c κs within =
    let idle = idled_by c.args.round.now c.owners_of-owners.result c.args.runtime.now.logs c.idle_logs.new.runtime.logs
    c.owners_of-owners.ensures.owners c.requires.stands.workers c.idle_logs.ensures.idle in
    start_flushed c.args.round.now c.idle_logs.new.runtime.logs c.requires.stands (c.requires.stands.goes_on c.requires.goes_on)
    (c.idle_logs.ensures.length ∙ c.requires.stands.workers) idle

pub run_round-requires-clause-idle : goal.run_round-requires-clause-idle
run_round-requires-clause-idle g c κs within =
    let idle = idled_by c.args.round.now c.owners_of-owners.result c.args.runtime.now.logs c.idle_logs.new.runtime.logs
    c.owners_of-owners.ensures.owners c.requires.stands.workers c.idle_logs.ensures.idle in
    start_idle c.args.round.now c.args.runtime.now.logs c.idle_logs.new.runtime.logs c.requires.stands.workers
    (c.idle_logs.ensures.length ∙ c.requires.stands.workers) idle

pub returns-clause-rounds : goal.returns-clause-rounds
returns-clause-rounds g c =
    let idled = c.idle_logs.ensures in
    let idle = idled_by c.args.round.now c.owners_of-owners.result c.args.runtime.now.logs c.idle_logs.new.runtime.logs
    c.owners_of-owners.ensures.owners c.requires.stands.workers c.idle_logs.ensures.idle in
    let all = subst (λ (o : RuntimeState). RunsAll g.D.Disk.tells g.D.Disk.clock g.D.Disk.image_at g.D.Disk.faults c.args.tries c.args.round.now
    o c.run_round.new.runtime c.args.vault.now c.run_round.new.vault c.run_round.result) idled.alone
    (all_in_room c.in_ok-answers.ensures.alone c.run_round.ensures.all) in
    whole c.requires.stands (c.requires.stands.goes_on c.requires.goes_on) (omega (arith, c.requires.stands.above))
    (idled.length ∙ c.requires.stands.workers) idle all c.reads_are_images.ensures
