-- All logs are reset, one after another.
use Rattle.std.proofs.Common.{◌≡◌, ◌∙◌, [], arith, sym}
use Rattle.lists.specs.Each.{all_at}
use Rattle.worker_logs.specs.Logs.{LogState}
use Rattle.round_engine.proofs.Turned.{reset_each}
use Rattle.round_engine.proofs.Places.{within_of}
use Rattle.round_engine.proofs.swaps.reset_all.Goals as goal

pub reset_one-requires-clause-flushed : goal.reset_one-requires-clause-flushed
reset_one-requires-clause-flushed c log at =
    all_at (λ (l : LogState). l.journal.lines ≡ []) c.args.logs.now c.loop-index.index log c.requires.flushed
    (sym (c.loop-index.invariant.rest c.loop-index.index (omega arith)) ∙ at)

pub returns : goal.returns
returns c =
    let inv = c.loop-index.invariant in
    record {
      resets = reset_each c.args.logs.now c.loop-index.logs inv.length (λ i log at.
          let within = within_of c.args.logs.now i log at in
          inv.done i log (omega (arith, within, inv.length, c.loop-index-test.false)) at);
    }
