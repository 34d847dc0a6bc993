-- What `top` promises of the vault that was synced.
use Rattle.joint_crashes.specs.VaultReads.{whole_read}
use Rattle.program_calls.specs.Vaults.{vaults_of}
use Rattle.program_entry.proofs.Handed.{called_listing, run_changes}
use Rattle.program_entry.proofs.Statuses.{exit_of}
use Rattle.program_entry.proofs.over.list_over.Goals as goal

pub top-requires-clause-whole : goal.top-requires-clause-whole
top-requires-clause-whole g c κs within = whole_read c.sync_all-synced.ensures.reads c.requires.whole

pub top-requires-clause-one : goal.top-requires-clause-one
top-requires-clause-one g c κs within = λ options is. absurd (c.requires.lists (run_changes is))

pub returns-clause-statuses : goal.returns-clause-statuses
returns-clause-statuses g c = exit_of _ _ c.top.ensures.answers.statuses

pub returns-clause-faults : goal.returns-clause-faults
returns-clause-faults g c = c.top.ensures.answers.faults

pub returns-clause-answered : goal.returns-clause-answered
returns-clause-answered g c =
    called_listing (vaults_of g.D.Disk.tells g.D.Disk.clock g.D.Disk.image_at g.D.Disk.faults c.args.vault.now
    c.top.new.vault) c.sync_all-synced.new.vault c.requires.lists c.sync_all-synced.result c.sync_all-synced.ensures (record {
      answers = c.top.ensures.answers;
      asked = c.top.ensures.asked;
      complete = c.top.ensures.complete;
    })
