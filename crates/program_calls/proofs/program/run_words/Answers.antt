-- What the words ask for was run, or nothing for want of memory.
use Rattle.std.proofs.Common.{◌∙◌, sym, refl}
use Rattle.program_calls.specs.Answers.{sources_of}
use Rattle.program_calls.specs.Vaults.{vaults_of}
use Rattle.program_calls.proofs.Answering.{asked_answers, memory_answers}
use Rattle.program_calls.proofs.Here.{here}
use Rattle.program_calls.proofs.Statuses.{words_at_8, words_done}
use Rattle.program_calls.proofs.program.run_words.Goals as goal

pub run-requires-clause-one : goal.run-requires-clause-one
run-requires-clause-one g c κs within = λ options is. c.requires.one options (sym c.in-Ok.ensures.command ∙ is)

pub returns-in-Ok-clause-answers : goal.returns-in-Ok-clause-answers
returns-in-Ok-clause-answers g c = asked_answers _ _ _ _ _ _ _ c.in-Ok.ensures.command c.run.ensures.answers

pub returns-in-Ok-clause-asked : goal.returns-in-Ok-clause-asked
returns-in-Ok-clause-asked g c = words_done _ _ _ c.in-Ok.ensures.command (λ is. c.in-Ok.ensures.refused (cc is)) (λ options plain. cc (c.in-Ok.ensures.plain options plain))
    (λ plain. cc (c.in-Ok.ensures.plain_dump plain))
    (λ plain. cc (c.in-Ok.ensures.plain_snaps plain))
    (λ epoch plain. cc (c.in-Ok.ensures.plain_snap epoch plain))
    (λ arguments plain. cc (c.in-Ok.ensures.plain_make arguments plain))
    (λ asks. cc (c.in-Ok.ensures.help asks)) c.run.ensures.usage c.run.ensures.refused

pub returns-in-Err-clause-answers : goal.returns-in-Err-clause-answers
returns-in-Err-clause-answers g c = memory_answers
    (vaults_of g.D.Disk.tells g.D.Disk.clock g.D.Disk.image_at g.D.Disk.faults c.args.vault.now c.args.vault.now)
    (sources_of g.S.Source.left g.S.Source.faults c.args.source.now c.args.source.now) refl refl refl c.requires.whole
    (g.met.D.Disk g.world.𝓛 g.world.𝓜 g.world.𝓡 (here _)).reads refl _ _

pub returns-in-Err-clause-asked : goal.returns-in-Err-clause-asked
returns-in-Err-clause-asked g c = words_at_8 _
