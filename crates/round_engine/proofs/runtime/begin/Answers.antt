-- The engine opens with the snapshot that was settled, in the epoch after the saved one.
use Rattle.std.proofs.Common.{◌≡◌, ◌∙◌, ◌+◌, ◌-◌, ap, arith, length, subst, false, List, ℕ}
use Rattle.std.specs.Prelude.{replicate}
use Rattle.serial_model.specs.declared.number.Number.{Number}
use Rattle.wire_form.specs.Pages.{Contents}
use Rattle.snapshot_store.specs.Content.{words_of}
use Rattle.recovery_core.specs.NewestSnapshot.{IsNewestSnapshot}
use Rattle.worker_logs.specs.Logs.{LogState}
use Rattle.worker_logs.specs.declared.savepoints.Side.TheVariants.{Even}
use Rattle.round_engine.specs.Begun.{begins_at}
use Rattle.round_engine.specs.Standing.{RuntimeState, Standing}
use Rattle.round_engine.proofs.runtime.begin.Goals as goal

-- the epoch before the first one is the saved one
before_first : (saved : ℕ) (first : Number) → first.epoch ≡ saved + 1 → saved ≡ first.epoch - 1
before_first saved first next = omega (arith, next)

pub new-requires-clause-snapshot : goal.new-requires-clause-snapshot
new-requires-clause-snapshot c =
    let settled = c.args.settled in
    subst (λ (e : ℕ). (contents : Contents) × IsNewestSnapshot (words_of settled.store.pages)
    (length settled.store.pages) settled.decls settled.state e contents)
    (before_first settled.saved.epoch c.args.config.first (ap (λ (n : Number). n.epoch) c.requires.first))
    c.requires.snapshot

pub new-requires-clause-some_slots : goal.new-requires-clause-some_slots
new-requires-clause-some_slots c = let some = c.requires.config.some_slots in omega (arith, some)

pub returns-clause-begins : goal.returns-clause-begins
returns-clause-begins c =
    let first = c.args.config.first in
    let settled = c.args.settled in
    let made : Standing → List LogState → RuntimeState = λ stands logs. record {
      stands = stands;
      save = settled.save;
      store = settled.store;
      room = c.args.config.snap;
      side = Even;
      counted = replicate 8 0;
      closed_at = first.epoch - 1;
      logs = logs;
      down = false;
    } in
    ap (λ (s : Standing). made s c.in_ok-logs.logs.items) c.in_ok-engine.ensures.stands
    ∙ ap (made (begins_at settled.decls settled.state c.in_ok-engine.engine first)) c.in_ok-logs.ensures

pub returns-clause-published : goal.returns-clause-published
returns-clause-published c = c.in_ok-engine.ensures.pages_are
