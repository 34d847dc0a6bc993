-- The run was told in brief or in full.
use Rattle.std.proofs.Common.{refl}
use Rattle.program_calls.proofs.Briefs.{faults_brief, same_brief, status_brief, usage_not_brief}
use Rattle.program_calls.proofs.Statuses.{devices_ran, faults_ran, ran_most, same_ran, usage_not_ran}
use Rattle.program_calls.proofs.run.run_script.Goals as goal

pub returns-then-options : goal.returns-then-options
returns-then-options g c =
    let e = c.run_in_brief.ensures in
    record {
      full = λ is. absurd (cc (is, c.if-options.true));
      brief = λ is. e.runs;
      usage = usage_not_brief _ _ _ _ _ _ e.runs;
      statuses = status_brief _ _ _ _ _ _ e.runs;
      faults = λ source. faults_brief _ _ _ _ _ _ _ e.runs refl;
      reads = e.reads;
      damage = e.damage;
      devices = e.devices;
      rests = e.rests;
      same = same_brief _ _ _ _ _ _ e.runs;
    }

pub returns : goal.returns
returns g c =
    let e = c.run_in_full.ensures in
    record {
      full = λ is. e.runs;
      brief = λ is. absurd (cc (is, c.if-options.false));
      usage = usage_not_ran _ _ _ _ _ c.args.options _ e.runs;
      statuses = ran_most _ _ _ _ _ c.args.options _ e.runs;
      faults = λ source. faults_ran _ _ _ _ _ _ c.args.options _ e.runs refl;
      reads = e.reads;
      damage = e.damage;
      devices = devices_ran _ _ _ _ _ c.args.options _ e.runs;
      rests = e.rests;
      same = same_ran _ _ _ _ _ c.args.options _ e.runs;
    }
