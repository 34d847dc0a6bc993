-- The rounds were counted, and what they came to was told.
use Rattle.std.proofs.Common.{Ok, ap, true}
use Rattle.program_calls.specs.declared.teller.Teller.{Teller}
use Rattle.program_calls.proofs.Briefs.{brief_done, damage_told, devices_told, no_break, reads_told, rests_told, told_as}
use Rattle.program_calls.proofs.run.run_in_brief.Goals as goal

-- ---- the sink can't fail within the rounds

pub returns-in_err-ending-clause-runs : goal.returns-in_err-ending-clause-runs
returns-in_err-ending-clause-runs g c =
    absurd (no_break _ _ _ c.new-teller.result.brief _ _ _ _ (ap (λ (t : Teller). t.brief) c.new-teller.ensures) c.in_err-ending.ensures.runs)

pub returns-in_err-ending-clause-devices : goal.returns-in_err-ending-clause-devices
returns-in_err-ending-clause-devices g c =
    absurd (no_break _ _ _ c.new-teller.result.brief _ _ _ _ (ap (λ (t : Teller). t.brief) c.new-teller.ensures) c.in_err-ending.ensures.runs)

pub returns-in_err-ending-clause-damage : goal.returns-in_err-ending-clause-damage
returns-in_err-ending-clause-damage g c =
    absurd (no_break _ _ _ c.new-teller.result.brief _ _ _ _ (ap (λ (t : Teller). t.brief) c.new-teller.ensures) c.in_err-ending.ensures.runs)

pub returns-in_err-ending-clause-reads : goal.returns-in_err-ending-clause-reads
returns-in_err-ending-clause-reads g c =
    absurd (no_break _ _ _ c.new-teller.result.brief _ _ _ _ (ap (λ (t : Teller). t.brief) c.new-teller.ensures) c.in_err-ending.ensures.runs)

pub returns-in_err-ending-clause-rests : goal.returns-in_err-ending-clause-rests
returns-in_err-ending-clause-rests g c =
    absurd (no_break _ _ _ c.new-teller.result.brief _ _ _ _ (ap (λ (t : Teller). t.brief) c.new-teller.ensures) c.in_err-ending.ensures.runs)

-- ---- what is told behind them

pub returns-clause-runs : goal.returns-clause-runs
returns-clause-runs g c = brief_done _ _ _ _ _ _ _ c.run_rounds.new.teller.tally c.args.printer.now
    c.run_rounds.new.printer c.tell_in_brief.new.printer c.in_ok-ending.ending c.tell_in_brief.result
    (told_as _ _ _ c.new-teller.result.brief true c.run_rounds.new.teller.tally c.args.printer.now
    c.run_rounds.new.printer (Ok c.in_ok-ending.ending) (ap (λ (t : Teller). t.brief) c.new-teller.ensures) c.in_ok-ending.ensures.runs)
    c.tell_in_brief.ensures.reads (c.tell_in_brief.ensures.tells _) c.in_ok-ending.ensures.whole

pub returns-clause-devices : goal.returns-clause-devices
returns-clause-devices g c = devices_told _ _ _ _ _ _ _ c.run_rounds.new.teller.tally c.args.printer.now
    c.run_rounds.new.printer c.tell_in_brief.new.printer c.in_ok-ending.ending c.tell_in_brief.result
    (told_as _ _ _ c.new-teller.result.brief true c.run_rounds.new.teller.tally c.args.printer.now
    c.run_rounds.new.printer (Ok c.in_ok-ending.ending) (ap (λ (t : Teller). t.brief) c.new-teller.ensures) c.in_ok-ending.ensures.runs)
    c.tell_in_brief.ensures.reads (c.tell_in_brief.ensures.tells _) c.requires.whole c.in_ok-ending.ensures.whole

pub returns-clause-damage : goal.returns-clause-damage
returns-clause-damage g c = damage_told _ _ _ _ _ _ _ c.run_rounds.new.teller.tally c.args.printer.now
    c.run_rounds.new.printer c.tell_in_brief.new.printer c.in_ok-ending.ending c.tell_in_brief.result
    (told_as _ _ _ c.new-teller.result.brief true c.run_rounds.new.teller.tally c.args.printer.now
    c.run_rounds.new.printer (Ok c.in_ok-ending.ending) (ap (λ (t : Teller). t.brief) c.new-teller.ensures) c.in_ok-ending.ensures.runs)
    c.tell_in_brief.ensures.reads (c.tell_in_brief.ensures.tells _) c.in_ok-ending.ensures.damage

pub returns-clause-reads : goal.returns-clause-reads
returns-clause-reads g c = reads_told _ _ _ _ _ _ _ c.run_rounds.new.teller.tally c.args.printer.now
    c.run_rounds.new.printer c.tell_in_brief.new.printer c.in_ok-ending.ending c.tell_in_brief.result
    (told_as _ _ _ c.new-teller.result.brief true c.run_rounds.new.teller.tally c.args.printer.now
    c.run_rounds.new.printer (Ok c.in_ok-ending.ending) (ap (λ (t : Teller). t.brief) c.new-teller.ensures) c.in_ok-ending.ensures.runs)
    c.tell_in_brief.ensures.reads (c.tell_in_brief.ensures.tells _) c.in_ok-ending.ensures.reads

pub returns-clause-rests : goal.returns-clause-rests
returns-clause-rests g c = rests_told _ _ _ _ _ _ _ c.run_rounds.new.teller.tally c.args.printer.now
    c.run_rounds.new.printer c.tell_in_brief.new.printer c.in_ok-ending.ending c.tell_in_brief.result
    (told_as _ _ _ c.new-teller.result.brief true c.run_rounds.new.teller.tally c.args.printer.now
    c.run_rounds.new.printer (Ok c.in_ok-ending.ending) (ap (λ (t : Teller). t.brief) c.new-teller.ensures) c.in_ok-ending.ensures.runs)
    c.tell_in_brief.ensures.reads (c.tell_in_brief.ensures.tells _) c.in_ok-ending.ensures.rests
