-- What `top` promises of the vault that was taken over, or the device at which that failed.
use Rattle.std.proofs.Common.{refl}
use Rattle.joint_crashes.specs.Synced.{whole_taken}
use Rattle.program_calls.specs.Vaults.{vaults_of}
use Rattle.program_entry.proofs.Here.{here}
use Rattle.program_entry.proofs.Handed.{called_run, not_taken}
use Rattle.program_entry.proofs.Statuses.{exit_of}
use Rattle.program_entry.proofs.over.run_over.Goals as goal

pub top-requires-clause-whole : goal.top-requires-clause-whole
top-requires-clause-whole g c κs within = whole_taken c.in-Ok.ensures c.requires.whole

pub top-requires-clause-one : goal.top-requires-clause-one
top-requires-clause-one g c κs within = λ options is. (g.met.D.Disk g.world.𝓛 g.world.𝓜 g.world.𝓡 (here _)).rests _ c.in-Ok.ensures.synced.save

pub returns-in-Ok-clause-statuses : goal.returns-in-Ok-clause-statuses
returns-in-Ok-clause-statuses g c = exit_of _ _ c.top.ensures.answers.statuses

pub returns-in-Ok-clause-faults : goal.returns-in-Ok-clause-faults
returns-in-Ok-clause-faults g c = c.top.ensures.answers.faults

pub returns-in-Ok-clause-answered : goal.returns-in-Ok-clause-answered
returns-in-Ok-clause-answered g c =
    called_run (vaults_of g.D.Disk.tells g.D.Disk.clock g.D.Disk.image_at g.D.Disk.faults c.args.vault.now c.top.new.vault)
    c.take_over.new.vault (g.met.D.Disk g.world.𝓛 g.world.𝓜 g.world.𝓡 (here _)).rests c.requires.whole c.requires.changes c.in-Ok.ensures (record {
      answers = c.top.ensures.answers;
      asked = c.top.ensures.asked;
      complete = c.top.ensures.complete;
    })

pub returns-in-Err-clause-answered : goal.returns-in-Err-clause-answered
returns-in-Err-clause-answered g c = not_taken c.in-Err.device c.requires.changes c.in-Err.ensures c.tell.ensures refl
