-- The lines are run on words that threads share.
use Rattle.std.proofs.Common.{◌∙◌, ap, subst, sym}
use Rattle.tx_script.specs.Run.{CanRun}
use Rattle.shared_rounds.specs.Lines.{LinesCome, standing}
use Rattle.shared_rounds.specs.Standing.{Standing}
use Rattle.round_engine.specs.Histories.{KeepsHistory}
use Rattle.round_engine.proofs.engine.Engine.run_lines.Goals as goal

pub run_workers-requires-clause-lines : goal.run_workers-requires-clause-lines
run_workers-requires-clause-lines g c κs within =
    subst (λ ds. CanRun ds c.args.round.now) (sym (ap (λ (s : Standing). s.decls) c.self.view_is)) c.requires.lines

pub run_workers-requires-clause-beside : goal.run_workers-requires-clause-beside
run_workers-requires-clause-beside g c κs within v begins =
    let old = c.self.view_is in
    c.requires.beside v (record {
      shared = c.self.inside.words;
      stands = sym old ∙ ap (λ ended. standing ended c.self.inside.words) (ap (λ (s : Standing). s.ended) old);
      begins = begins;
    })

pub returns : goal.returns
returns g c =
    let old = c.self.view_is in
    let ran = c.run_workers.ensures in
    record {
      runs = record {
        marks = ran.runs.marks;
        readied = ran.runs.readied;
        lines = subst (λ s. LinesCome g.D.Disk.tells g.D.Disk.clock g.D.Disk.image_at g.D.Disk.faults c.args.tries
            c.args.round.now s (standing c.self.inside.ended c.run_workers.new.engine) ran.runs.marks ran.runs.readied
            c.args.logs.now.items c.run_workers.new.logs.items c.args.growing.now.items
            c.run_workers.new.growing.items c.run_workers.result) old (ran.runs.lines c.self.inside.ended);
        was = c.self.inside.words;
        now = c.run_workers.new.engine;
        was_is = sym old ∙ ap (λ ended. standing ended c.self.inside.words) (ap (λ (s : Standing). s.ended) old);
        now_is = ap (λ ended. standing ended c.run_workers.new.engine) (ap (λ (s : Standing). s.ended) old);
        beside = ran.runs.beside;
      };
      history = subst (λ (s : Standing). KeepsHistory c.args.round.now c.run_workers.result.outcomes s
          (standing c.self.inside.ended c.run_workers.new.engine)) old (record { gathered = ran.history });
      calls = ran.calls;
    }
