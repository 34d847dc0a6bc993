-- The rounds so far were run one after another, and told, since wherever the run began.
use Rattle.std.proofs.Common.{◌≡◌, ◌≤◌, length}
use Rattle.program_calls.specs.OnTheWay.{BeginsRun}
use Rattle.program_calls.proofs.ToldRounds.{ToldSoFar}
use Rattle.program_calls.proofs.run.run_from.Given as goal

-- the runtime and the printer stand where the rounds up to this one left them
abbrev pub invariant-loop-index : goal.invariant-loop-index
invariant-loop-index g l = record {
  told : (was : _) → BeginsRun g.D.Disk.tells g.D.Disk.clock g.D.Disk.image_at g.D.Disk.faults l.fn.options.snap l.fn.options.slots l.fn.script was l.fn.vault l.fn.runtime
      → ToldSoFar g.D.Disk.tells g.D.Disk.clock g.D.Disk.image_at g.D.Disk.faults l.fn.options.snap l.fn.options.slots l.fn.options.tries l.fn.script was l.fn.teller.brief l.teller.tally l.fn.printer l.printer l.runtime l.index l.vault;
  kind : l.teller.brief ≡ l.fn.teller.brief;
  script : l.script ≡ l.fn.script;
  end : l.index-end ≡ length l.script.rounds;
  within : l.index ≤ l.index-end;
}
