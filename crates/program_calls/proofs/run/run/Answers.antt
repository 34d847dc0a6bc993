-- A script is run, or nothing is.
use Rattle.std.proofs.Common.{refl}
use Rattle.command_line.specs.declared.command.Command.TheVariants.{Dump, Snaps, Snap}
use Rattle.program_calls.specs.Answers.{sources_of}
use Rattle.program_calls.specs.Vaults.{vaults_of}
use Rattle.program_calls.proofs.Here.{here}
use Rattle.program_calls.proofs.Answering.{listing_answers, made_answers, refused_answers, script_answers, unread_answers}
use Rattle.program_calls.proofs.Listed.{dump_status, same_listed, snap_status, snaps_status, usage_not_listed}
use Rattle.program_calls.proofs.Makes.{same_made, usage_not_made}
use Rattle.program_calls.proofs.run.run.Goals as goal

-- ---- a script was run

pub run_script-requires-clause-one : goal.run_script-requires-clause-one
run_script-requires-clause-one g c κs within = c.requires.one c.in-Run.options c.in-Run.is

pub returns-in-Ok-clause-answers : goal.returns-in-Ok-clause-answers
returns-in-Ok-clause-answers g c = rw c.in-Run.is (script_answers _ _ c.in-Run.options c.in-Ok.script _ _ _
    c.in-Ok.ensures.read c.in-Ok.ensures.cause c.in-Ok.ensures.taken c.run_script.ensures.full c.run_script.ensures.brief
    c.run_script.ensures.statuses c.run_script.ensures.faults c.run_script.ensures.reads c.run_script.ensures.damage
    c.run_script.ensures.devices c.run_script.ensures.rests)

pub returns-in-Ok-clause-usage : goal.returns-in-Ok-clause-usage
returns-in-Ok-clause-usage g c = λ usage. absurd (c.run_script.ensures.usage usage)

-- ---- none was read

pub returns-in-Err-clause-answers : goal.returns-in-Err-clause-answers
returns-in-Err-clause-answers g c = rw c.in-Run.is (unread_answers
    (vaults_of g.D.Disk.tells g.D.Disk.clock g.D.Disk.image_at g.D.Disk.faults c.args.vault.now c.args.vault.now) _
    c.in-Run.options c.requires.whole (g.met.D.Disk g.world.𝓛 g.world.𝓜 g.world.𝓡 (here _)).reads _ c.in-Err.ending
    c.in-Err.ensures.read c.in-Err.ensures.cause c.in-Err.ensures.unread c.in-Err.ensures.taken refl)

-- ---- the words were refused

pub returns-in-Refused-clause-answers : goal.returns-in-Refused-clause-answers
returns-in-Refused-clause-answers g c = rw c.in-Refused.is (refused_answers
    (vaults_of g.D.Disk.tells g.D.Disk.clock g.D.Disk.image_at g.D.Disk.faults c.args.vault.now c.args.vault.now)
    (sources_of g.S.Source.left g.S.Source.faults c.args.source.now c.args.source.now) refl refl refl c.requires.whole
    (g.met.D.Disk g.world.𝓛 g.world.𝓜 g.world.𝓡 (here _)).reads refl _)

-- ---- what the vault keeps was told

pub returns-in-Dump-clause-answers : goal.returns-in-Dump-clause-answers
returns-in-Dump-clause-answers g c = rw c.in-Dump.is (listing_answers _
    (sources_of g.S.Source.left g.S.Source.faults c.args.source.now c.args.source.now) refl refl refl Dump tt _ _ _
    c.dump.ensures.listed (dump_status _ _ _ _ _ _ _ c.dump.ensures.listed) c.dump.ensures.reads)

pub returns-in-Dump-clause-usage : goal.returns-in-Dump-clause-usage
returns-in-Dump-clause-usage g c = λ usage. absurd (usage_not_listed _ _ _ _ _ _ _ _ c.dump.ensures.listed usage)

pub returns-in-Dump-clause-same : goal.returns-in-Dump-clause-same
returns-in-Dump-clause-same g c = same_listed _ _ _ _ _ _ _ _ c.dump.ensures.listed

-- ---- its snapshots were told

pub returns-in-Snaps-clause-answers : goal.returns-in-Snaps-clause-answers
returns-in-Snaps-clause-answers g c = rw c.in-Snaps.is (listing_answers _
    (sources_of g.S.Source.left g.S.Source.faults c.args.source.now c.args.source.now) refl refl refl Snaps tt _ _ _
    c.snaps.ensures.listed (snaps_status _ _ _ _ _ _ _ c.snaps.ensures.listed) c.snaps.ensures.reads)

pub returns-in-Snaps-clause-usage : goal.returns-in-Snaps-clause-usage
returns-in-Snaps-clause-usage g c = λ usage. absurd (usage_not_listed _ _ _ _ _ _ _ _ c.snaps.ensures.listed usage)

pub returns-in-Snaps-clause-same : goal.returns-in-Snaps-clause-same
returns-in-Snaps-clause-same g c = same_listed _ _ _ _ _ _ _ _ c.snaps.ensures.listed

-- ---- a snapshot was told

pub returns-in-Snap-clause-answers : goal.returns-in-Snap-clause-answers
returns-in-Snap-clause-answers g c = rw c.in-Snap.is (listing_answers _
    (sources_of g.S.Source.left g.S.Source.faults c.args.source.now c.args.source.now) refl refl refl
    (Snap c.in-Snap.epoch) tt _ _ _ c.snap.ensures.listed
    (snap_status _ _ _ _ c.in-Snap.epoch _ _ _ c.snap.ensures.listed) c.snap.ensures.reads)

pub returns-in-Snap-clause-usage : goal.returns-in-Snap-clause-usage
returns-in-Snap-clause-usage g c = λ usage. absurd (usage_not_listed _ _ _ _ _ _ _ _ c.snap.ensures.listed usage)

pub returns-in-Snap-clause-same : goal.returns-in-Snap-clause-same
returns-in-Snap-clause-same g c = same_listed _ _ _ _ _ _ _ _ c.snap.ensures.listed

-- ---- a script was made

pub returns-in-Make-clause-answers : goal.returns-in-Make-clause-answers
returns-in-Make-clause-answers g c = rw c.in-Make.is (made_answers
    (vaults_of g.D.Disk.tells g.D.Disk.clock g.D.Disk.image_at g.D.Disk.faults c.args.vault.now c.args.vault.now)
    (sources_of g.S.Source.left g.S.Source.faults c.args.source.now c.args.source.now) refl refl refl c.requires.whole
    (g.met.D.Disk g.world.𝓛 g.world.𝓜 g.world.𝓡 (here _)).reads refl c.in-Make.arguments _ _ _ c.make.ensures)

pub returns-in-Make-clause-usage : goal.returns-in-Make-clause-usage
returns-in-Make-clause-usage g c = λ usage. absurd (usage_not_made c.in-Make.arguments _ _ _ c.make.ensures usage)

pub returns-in-Make-clause-same : goal.returns-in-Make-clause-same
returns-in-Make-clause-same g c = same_made c.in-Make.arguments _ _ _ c.make.ensures
