-- The steps of a join up to its save, each only once those before it are done.
use Rattle.std.proofs.Common.{◌≡◌, ◌∙◌, ap, subst, sym, Err}
use Rattle.std.proofs.lemmas.Result.{err_from_is_err_and}
use Rattle.outside.specs.declared.device.Device.TheVariants.{Bank}
use Rattle.worker_logs.specs.FlushAll.{FlushesAll}
use Rattle.worker_logs.specs.Saves.{growing_number, SavesMarks, logs_marks}
use Rattle.round_engine.specs.Keeping.{CanKeep, RunsJoin, join_answer}
use Rattle.round_engine.specs.Sides.{growing_in, SameButGrowing}
use Rattle.round_engine.specs.Standing.{beside_of, RuntimeState}
use Rattle.round_engine.specs.declared.report.End.TheVariants.{Device}
use Rattle.round_engine.proofs.JoinSteps.{can_save, flushed_with, joined, not_advanced, not_flushed}
use Rattle.round_engine.proofs.KeepingSaves.{with_save}
use Rattle.round_engine.proofs.LogsStanding.{stand_flushed}
use Rattle.round_engine.proofs.Numbered.{growing_many}
use Rattle.round_engine.proofs.joins.save_joined.Goals as goal

pub returns-in_err-advance-clause-runs : goal.returns-in_err-advance-clause-runs
returns-in_err-advance-clause-runs g c =
    let p = err_from_is_err_and c.from_residual.result c.from_residual.ensures.1 in
    let told : c.from_residual.result ≡ Err c.in_err-advance.field-0.0 = let a = p.1 in let b = p.2 in cc in
    let step = c.in_err-advance.ensures in
    rw (told, step.2)
    (not_advanced g.D.Disk.tells g.D.Disk.clock g.D.Disk.image_at g.D.Disk.faults c.args.runtime.now c.args.vault.now
    c.requires.whole c.requires.logs c.requires.workers c.requires.up c.requires.stored step.0 step.1)

pub returns-in-Err-clause-runs : goal.returns-in-Err-clause-runs
returns-in-Err-clause-runs g c =
    let r : RuntimeState = c.args.runtime.now in
    let step = c.in_ok-advance.ensures in
    let left = c.flush_logs.ensures in
    let logs = c.flush_logs.new.runtime.logs in
    let mid_is : c.flush_logs.new.runtime ≡ flushed_with r logs =
    left.alone ∙ ap (λ (x : RuntimeState). record x { logs = logs }) step.1 in
    let flushes = subst (λ (x : RuntimeState). FlushesAll g.D.Disk.tells g.D.Disk.clock g.D.Disk.image_at g.D.Disk.faults
    x.stands.clock.epoch x.logs logs (growing_in x.side c.args.vault.now) (growing_in x.side c.flush_logs.new.vault)
    c.flush_logs.result) step.1 left.flushes in
    let same = subst (λ (x : RuntimeState). SameButGrowing x.side c.args.vault.now c.flush_logs.new.vault) step.1 left.vault in
    let number : c.growing_number-number.result ≡ growing_number r.side c.in-Err.worker =
    c.growing_number-number.ensures
    ∙ ap (λ (x : RuntimeState). growing_number x.side c.in-Err.worker) (c.runtime.view_is ∙ mid_is) in
    subst (λ n. RunsJoin g.D.Disk.tells g.D.Disk.clock g.D.Disk.image_at g.D.Disk.faults r c.flush_logs.new.runtime
    c.args.vault.now c.flush_logs.new.vault (Err (Device (Bank n)))) (sym number)
    (subst (λ x. RunsJoin g.D.Disk.tells g.D.Disk.clock g.D.Disk.image_at g.D.Disk.faults r x
    c.args.vault.now c.flush_logs.new.vault (Err (Device (Bank (growing_number r.side c.in-Err.worker))))) (sym mid_is)
    (not_flushed g.D.Disk.tells g.D.Disk.clock g.D.Disk.image_at g.D.Disk.faults r c.args.vault.now
    c.requires.whole c.requires.logs c.requires.workers c.requires.up c.requires.stored logs step.0 c.flush_logs.new.vault
    c.in-Err.worker c.flush_logs.result c.in-Err.is same flushes))

pub save_marked-requires-clause-ready : goal.save_marked-requires-clause-ready
save_marked-requires-clause-ready g c =
    let r : RuntimeState = c.args.runtime.now in
    let step = c.in_ok-advance.ensures in
    let left = c.flush_logs.ensures in
    let logs = c.flush_logs.new.runtime.logs in
    let mid_is : c.flush_logs.new.runtime ≡ flushed_with r logs =
    left.alone ∙ ap (λ (x : RuntimeState). record x { logs = logs }) step.1 in
    let flushes = subst (λ (x : RuntimeState). FlushesAll g.D.Disk.tells g.D.Disk.clock g.D.Disk.image_at g.D.Disk.faults
    x.stands.clock.epoch x.logs logs (growing_in x.side c.args.vault.now) (growing_in x.side c.flush_logs.new.vault)
    c.flush_logs.result) step.1 left.flushes in
    let same = subst (λ (x : RuntimeState). SameButGrowing x.side c.args.vault.now c.flush_logs.new.vault) step.1 left.vault in
    subst (λ x. CanKeep g.D.Disk.tells g.D.Disk.clock g.D.Disk.image_at x c.flush_logs.new.vault) (sym mid_is)
    (can_save g.D.Disk.tells g.D.Disk.clock g.D.Disk.image_at g.D.Disk.faults r c.args.vault.now
    c.requires.whole c.requires.logs c.requires.workers c.requires.up c.requires.stored logs step.0 c.requires.closed
    c.requires.room c.requires.sound c.requires.snapshot c.flush_logs.new.vault same flushes.as_many_logs flushes.as_many_banks
    (λ always. stand_flushed r.stands.clock.epoch r.side c.args.vault.now c.flush_logs.new.vault c.flush_logs.result
    c.in_default.field-0 c.in_default.is flushes c.requires.workers
    (growing_many r.side c.args.vault.now c.requires.whole) same.closed (c.requires.durable always)))

pub returns-clause-runs : goal.returns-clause-runs
returns-clause-runs g c =
    let r : RuntimeState = c.args.runtime.now in
    let step = c.in_ok-advance.ensures in
    let left = c.flush_logs.ensures in
    let kept = c.save_marked.ensures in
    let logs = c.flush_logs.new.runtime.logs in
    let save = c.save_marked.new.runtime.save in
    let mid_is : c.flush_logs.new.runtime ≡ flushed_with r logs =
    left.alone ∙ ap (λ (x : RuntimeState). record x { logs = logs }) step.1 in
    let new_is : c.save_marked.new.runtime ≡ with_save (flushed_with r logs) save =
    kept.alone ∙ ap (λ (x : RuntimeState). record x { save = save }) mid_is in
    let flushes = subst (λ (x : RuntimeState). FlushesAll g.D.Disk.tells g.D.Disk.clock g.D.Disk.image_at g.D.Disk.faults
    x.stands.clock.epoch x.logs logs (growing_in x.side c.args.vault.now) (growing_in x.side c.flush_logs.new.vault)
    c.flush_logs.result) step.1 left.flushes in
    let same = subst (λ (x : RuntimeState). SameButGrowing x.side c.args.vault.now c.flush_logs.new.vault) step.1 left.vault in
    let saves = subst (λ (x : RuntimeState). SavesMarks g.D.Disk.tells g.D.Disk.clock g.D.Disk.image_at g.D.Disk.faults
    x.stands.clock.epoch (logs_marks x.logs) (beside_of x) x.save save c.flush_logs.new.vault c.save_marked.new.vault
    c.save_marked.result) mid_is kept.saves in
    rw c.end_of_save.ensures
    (subst (λ x. RunsJoin g.D.Disk.tells g.D.Disk.clock g.D.Disk.image_at g.D.Disk.faults r x
    c.args.vault.now c.save_marked.new.vault (join_answer c.save_marked.result)) (sym new_is)
    (joined g.D.Disk.tells g.D.Disk.clock g.D.Disk.image_at g.D.Disk.faults r c.args.vault.now
    c.requires.whole c.requires.logs c.requires.workers c.requires.up c.requires.stored logs step.0
    c.flush_logs.new.vault c.flush_logs.result c.in_default.field-0 c.in_default.is same flushes save c.save_marked.new.vault
    c.save_marked.result saves))
