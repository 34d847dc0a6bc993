-- A round that was run and told: how the run goes on behind it, or ends.
use Rattle.std.proofs.Common.{◌≡◌, inl, inr, sym, subst, refl, ◌+◌, ◌<◌, ◌^◌, ℕ, Bool, List, [], length}
use Rattle.std.proofs.Common.{Option, Some, None, Ok, Err, arith}
use Rattle.std.specs.Prelude.{slice_get}
use Rattle.outside.specs.declared.fault.Failed.{Failed}
use Rattle.log_writer.specs.declared.vault.Vault.{Vault}
use Rattle.text_output.specs.Output.{Output}
use Rattle.script_grammar.specs.Script.{Bytes, IsScript, Round, Script}
use Rattle.tx_script.specs.Draws.{lines_in}
use Rattle.tx_script.specs.Run.{Ran, CanRun, can_run}
use Rattle.brief_output.specs.Brief.{tally_of}
use Rattle.brief_output.specs.declared.tally.Tally.{Tally}
use Rattle.round_engine.specs.Standing.{RuntimeState}
use Rattle.round_engine.specs.declared.report.End.{End}
use Rattle.round_engine.specs.declared.report.End.TheVariants as ends
use Rattle.program_calls.specs.declared.ending.Ending.{Ending}
use Rattle.program_calls.specs.declared.ending.Ending.TheVariants.{Finished}
use Rattle.program_calls.specs.Ending.{status_of}
use Rattle.program_calls.specs.OnTheWay.{BeginsRun, ending_of}
use Rattle.program_calls.specs.Rounds.{CanCount, RunsRound, RunsToEnd}
use Rattle.program_calls.specs.Telling.{HasTold, TellsRun}
use Rattle.program_calls.proofs.RunEnds.{all_run, at_want, broke, rests_after, rests_all}
use Rattle.program_calls.proofs.RunEnds.{rests_wanting, stopped, want_whole}
use Rattle.program_calls.proofs.SameRun.{can_run_same}
use Rattle.program_calls.proofs.SoFar.{RanSoFar, at_now, goes_on, none_so_far, one_more}
use Rattle.program_calls.proofs.Telling.{fits_in, none_told, of_round, told_broken, told_more, told_text}

module _ {D : Type 0} (tells : D → Option Bytes) (clock : D → ℕ) (image_at : D → ℕ → Bytes → Type 0) (faults : D → ℕ)
    (snap slots tries : ℕ) (script : Script) (was : Vault D) where
  -- what was run so far, and what was told of it
  pub record ToldSoFar (brief : Bool) (tally : Tally) (old new : Output) (r : RuntimeState) (count : ℕ) (now : Vault D)
      : Type 0 where
    pub so : RanSoFar tells clock image_at faults snap slots tries script was r count now
    pub told : HasTold brief tally old new so.rans

  -- nothing, as a run begins
  pub none_yet : (brief : Bool) (tally : Tally) (out : Output) (r : RuntimeState) (now : Vault D)
      → ((disk : D) (file : Bytes) → tells disk ≡ Some file → image_at disk (clock disk) file) → tally ≡ tally_of []
      → BeginsRun tells clock image_at faults snap slots script was now r → ToldSoFar brief tally out out r 0 now
  none_yet brief tally out r now reads fresh begins =
      let so = none_so_far tells clock image_at faults snap slots tries script was reads r now begins in
      record {
        so = so.0;
        told = subst (λ (l : List Ran). HasTold brief tally out out l) (sym so.1) (none_told brief tally out fresh);
      }

  -- the next round can be run
  pub next_can_run : (brief : Bool) (tally : Tally) (old new : Output) (r : RuntimeState) (count : ℕ) (now : Vault D)
      (round : Round) → ToldSoFar brief tally old new r count now → IsScript script
      → slice_get script.rounds count ≡ Some round → CanRun r.stands.decls round
  next_can_run brief tally old new r count now round is rules at =
      can_run_same _ _ is.so.same round (can_run script count round rules at)

  -- and its commits counted
  pub next_can_count : (brief kind : Bool) (tally : Tally) (old mid : Output) (r : RuntimeState) (count : ℕ)
      (before : Vault D) (round : Round) → ToldSoFar brief tally old mid r count before
      → slice_get script.rounds count ≡ Some round → kind ≡ brief → lines_in script.rounds < 2 ^ 64
      → CanCount tells clock image_at faults tries round r before kind tally
  next_can_count brief kind tally old mid r count before round is at same few counted report s now ran =
      let so = is.so in
      let more = one_more tells clock image_at faults snap slots tries script was r s count before now round report so
      at ran.0 ran.1 ran.2 ran.3 in
      fits_in brief kind tally old mid script.rounds so.rans ran.0.ran report same few more.run.lines is.told
      (of_round round r s report ran.0) counted

  -- it lets the run go on
  pub told_on : (brief kind : Bool) (tally after : Tally) (old mid new : Output) (r s : RuntimeState) (count : ℕ)
      (before now : Vault D) (round : Round) → ToldSoFar brief tally old mid r count before
      → slice_get script.rounds count ≡ Some round → kind ≡ brief
      → RunsRound tells clock image_at faults tries round r s before now kind tally after mid new (Ok None)
      → ToldSoFar brief after old new s (count + 1) now
  told_on brief kind tally after old mid new r s count before now round is at same (inl one) =
      let so = is.so in
      let x = one.ran in
      let then = goes_on tells clock image_at faults snap slots tries script was r s count before now round one.report
      so at x.0 x.1 x.2 x.3 (sym one.end_is) in
      record {
        so = then.0;
        told = subst (λ (l : List Ran). HasTold brief after old new l) (sym then.1)
            (told_more brief kind tally after old mid new one.report so.rans x.0.ran _ same
            (told_text round r s one.report x.0) (of_round round r s one.report x.0) is.told one.told);
      }
  told_on brief kind tally after old mid new r s count before now round is at same (inr want) =
      let never = want.end_is in absurd cc

  module _ (reads : (disk : D) (file : Bytes) → tells disk ≡ Some file → image_at disk (clock disk) file) where
    -- it ends the run, or memory was wanted for it
    pub told_end : (brief kind : Bool) (tally after : Tally) (old mid new : Output)
        (r s : RuntimeState) (count : ℕ) (before now : Vault D) (round : Round) (e : End)
        → ToldSoFar brief tally old mid r count before → slice_get script.rounds count ≡ Some round → kind ≡ brief
        → RunsRound tells clock image_at faults tries round r s before now kind tally after mid new (Ok (Some e))
        → RunsToEnd (at_now tells clock image_at faults snap slots tries script was now) snap slots tries script
        (status_of (ending_of e)) (TellsRun brief after old new (Ok (ending_of e)))
    told_end brief kind tally after old mid new r s count before now round e is at same (inl one) =
        let so = is.so in
        let x = one.ran in
        let left = rests_after tells clock image_at faults snap slots tries script was reads r s count before now round
        one.report e so at x.0 x.1 x.2 x.3 (sym one.end_is) in
        record {
          runs = stopped tells clock image_at faults snap slots tries script was reads r s count before now round
              one.report e so at x.0 x.1 x.2 x.3 (sym one.end_is) (
                refl,
                told_more brief kind tally after old mid new one.report so.rans x.0.ran _ same
                    (told_text round r s one.report x.0) (of_round round r s one.report x.0) is.told one.told,
              );
          whole = x.1.stands.whole;
          reads = λ only. absurd (left.1 only);
          damage = left.2;
          rests = left.0;
        }
    told_end brief kind tally after old mid new r s count before now round e is at same (inr want) =
        let that = want.end_is in
        let memory : e ≡ ends.Memory = cc in
        subst (λ (x : End). RunsToEnd (at_now tells clock image_at faults snap slots tries script was now) snap slots
        tries script (status_of (ending_of x)) (TellsRun brief after old new (Ok (ending_of x)))) (sym memory)
        record {
          runs = at_want tells clock image_at faults snap slots tries script was reads r s count before now round
              want.memory is.so want.wanted (
                refl,
                subst (λ (o : Output). HasTold brief after old o is.so.rans) (sym want.out_is)
                    (subst (λ (t : Tally). HasTold brief t old mid is.so.rans) (sym want.tally_is) is.told),
              );
          whole = want_whole tells clock image_at faults snap slots tries script was reads r s count before now round
              want.memory is.so want.wanted;
          reads = λ only. absurd (omega (arith, only.1));
          damage = λ six. absurd (omega arith);
          rests = rests_wanting tells clock image_at faults snap slots tries script was reads r s count before now round
              want.memory is.so want.wanted;
        }

    -- the sink failed within its lines
    pub told_broke : (brief kind : Bool) (tally after : Tally) (old mid new : Output)
        (r s : RuntimeState) (count : ℕ) (before now : Vault D) (round : Round) (failed other : Failed)
        → ToldSoFar brief tally old mid r count before → slice_get script.rounds count ≡ Some round → kind ≡ brief
        → RunsRound tells clock image_at faults tries round r s before now kind tally after mid new (Err failed)
        → RunsToEnd (at_now tells clock image_at faults snap slots tries script was now) snap slots tries script 4
        (TellsRun brief after old new (Err other))
    told_broke brief kind tally after old mid new r s count before now round failed other is at same (inl one) =
        let so = is.so in
        let x = one.ran in
        record {
          runs = broke tells clock image_at faults snap slots tries script was reads r s count before now round
              one.report so at x.0 x.1 x.2 x.3 (told_broken _ brief kind tally after old mid new one.report so.rans x.0.ran
              failed _ same (told_text round r s one.report x.0) is.told one.told _);
          whole = x.1.stands.whole;
          reads = λ only. absurd (omega (arith, only.1));
          damage = λ six. absurd (omega arith);
          rests = record { again = λ not_4. absurd (not_4 refl) };
        }
    told_broke brief kind tally after old mid new r s count before now round failed other is at same (inr want) =
        let never = want.end_is in absurd cc

    -- all were run
    pub told_all : (brief : Bool) (tally after : Tally) (old new : Output) (r : RuntimeState)
        (count : ℕ) (now : Vault D) → ToldSoFar brief tally old new r count now → count ≡ length script.rounds
        → after ≡ tally
        → RunsToEnd (at_now tells clock image_at faults snap slots tries script was now) snap slots tries script 0
        (TellsRun brief after old new (Ok Finished))
    told_all brief tally after old new r count now is all same = record {
      runs = all_run tells clock image_at faults snap slots tries script was reads r count now is.so all
          (refl, subst (λ (t : Tally). HasTold brief t old new is.so.rans) (sym same) is.told);
      whole = is.so.stands.whole;
      reads = λ only. absurd (omega (arith, only.0));
      damage = λ six. absurd (omega arith);
      rests = rests_all tells clock image_at faults snap slots tries script was reads r count now is.so;
    }
