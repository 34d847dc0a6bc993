-- A round's lines on seats, from the ends of all seats and the count behind them.
use Rattle.std.proofs.Common.{◌≡◌, ◌∙◌, sym, ap, subst, ℕ, ◌/◌, ◌^◌, ◌≤◌, Bool, List}
use Rattle.std.proofs.Common.{arith, map, refl, Option}
use Rattle.std.specs.List.{Contains}
use Rattle.std.proofs.lemmas.List.{length-map}
use Rattle.lists.specs.Fronts.{IsFront}
use Rattle.commit_core.specs.declared.seat.Mark.{Mark}
use Rattle.commit_core.specs.declared.seat.Seat.{Seat}
use Rattle.serial_model.specs.declared.number.Number.{Number}
use Rattle.script_grammar.specs.Script.{Round}
use Rattle.engine_seats.specs.Counts.{HasAudited}
use Rattle.engine_pages.specs.declared.layout.Layout.{Layout}
use Rattle.engine_pages.specs.declared.view.View.{View}
use Rattle.tx_script.specs.declared.outcome.Outcome.{Outcome}
use Rattle.tx_script.specs.declared.outcome.Outcome.TheVariants.{Unrun}
use Rattle.worker_cells.specs.declared.cell.LogEnd.{LogEnd}
use Rattle.worker_logs.specs.Logs.{LogState}
use Rattle.shared_rounds.specs.Contents.{after_commits}
use Rattle.shared_rounds.specs.Ended.{EndedSoFar}
use Rattle.shared_rounds.specs.Marks.{AreMarksBehind}
use Rattle.shared_rounds.specs.Parts.{IsClockOf, IsRound, clock_number, marks_parked}
use Rattle.shared_rounds.specs.SharedState.{IsKept, last_mark, marks_of, state_of}
use Rattle.shared_rounds.specs.Shares.{BeginsAt, RunsShares, Share}
use Rattle.shared_rounds.specs.Standing.{Standing}
use Rattle.shared_rounds.specs.Workers.{LeavesOut, LeftBy, RunsOver, RunsWorkers}
use Rattle.shared_rounds.proofs.Counted.{now_layout, split}
use Rattle.shared_rounds.proofs.Joined.{shares_of}
use Rattle.shared_rounds.proofs.Numbers.{ended_epoch}
use Rattle.shared_rounds.proofs.Ordered.{standing_at}
use Rattle.shared_rounds.proofs.Renewed.{state_agrees, state_now}
use Rattle.shared_rounds.proofs.Shared.{round_runs, shares_begin}
use Rattle.shared_rounds.proofs.Told.{left_at, left_many, out_at, seat_mark, told_failed, told_flushed, told_idle}
use Rattle.shared_rounds.proofs.Told.{lines_from, told_last, told_lines, told_mark, told_outcomes, told_refusals}
use Rattle.shared_rounds.proofs.Told.{told_rests, words_at}

-- where the engine stands, as the keeper's view and the clock have it
abbrev pub stands : View → Number → Bool → Standing
stands v clock done = standing_at v (state_of v) clock v.mine v.refused v.met v.pages v.drops done

module _ {D : Type 0} (tells : D → Option (List ℕ)) (clock : D → ℕ) (image_at : D → ℕ → List ℕ → Type 0)
    (faults : D → ℕ) (tries : ℕ) (round : Round) (was behind ended now : View) (logs_was logs : List LogState)
    (banks_was banks : List D) (outcomes : List (List Outcome)) (ends : List LogEnd)
    (so : EndedSoFar tells clock image_at faults tries round was behind ended 8 logs_was logs banks_was banks
    outcomes ends)
    (kept : IsKept was) (word count : ℕ) (audited : HasAudited ended word count now) where
  abbrev pub round_is : IsRound tries was now so.parts
  round_is = record {
    counted = kept.counted;
    eight = so.many;
    ended = ended;
    parts_are = so.are;
    layout = so.layout;
    role = so.role;
    made = so.made;
    epoch = omega (arith, so.low, so.epoch);
    gathers = so.gathers;
    seen = so.seen;
    refused = so.refused;
    draws = so.draws;
    drops = subst (IsFront was.drops) (sym so.drops) so.dropped;
    touched = so.touched;
    blamed = so.blamed;
    clock = word;
    count = count;
    audited = audited;
  }

  module _ (first : Number) (at : IsClockOf first was) (done : Bool) (some : 1 ≤ tries) where
    runs_so : RunsShares tries (stands was first done) (stands now (clock_number word) done) (shares_of so.parts)
    runs_so =
        subst (λ (t : Standing). RunsShares tries (stands was first done) t (shares_of so.parts)) same
        (round_runs tries was now so.parts round_is (state_of was) first done some (state_agrees was) at kept.draws)
      where
        same : standing_at was (after_commits (state_of was) (split tries was now so.parts round_is).new)
            (clock_number word) now.mine
            now.refused now.met now.pages now.drops done ≡ stands now (clock_number word) done
        same =
            ap (λ s. standing_at was s (clock_number word) now.mine now.refused now.met now.pages now.drops done)
            (sym (state_now tries was now so.parts round_is))
            ∙ ap (λ (l : Layout). let t : Standing = record {
              decls = l.decls;
              state = state_of now;
              opening = l.opening;
              clock = clock_number word;
              mine = now.mine;
              refused = now.refused;
              met = now.met;
              slots = l.slots;
              pages = now.pages;
              resident = l.resident;
              drops = now.drops;
              ended = done;
            } in t) (sym (now_layout tries was now so.parts round_is))

    pub over_so : RunsOver tells clock image_at faults tries (stands was first done) (stands now
        (clock_number word) done)
        (shares_of so.parts) logs_was logs banks_was banks
    over_so =
        let many = left_many tells clock image_at faults was.epoch behind.epoch so.parts logs_was logs banks_was banks
        so.left in
        let last : word / 2 ^ 40 ≡ behind.epoch = ended_epoch tries was now so.parts round_is ∙ so.epoch in
        record {
          runs = runs_so;
          logs_length = many.0;
          banks_length = many.1;
          each = λ i share old new before bank place was_at is_at bank_was bank_is.
              subst (λ e. LeftBy tells clock image_at faults e (word / 2 ^ 40) share.logged share.marks share.refusal
              old new before bank)
              (sym at.epoch)
              (subst (λ e. LeftBy tells clock image_at faults was.epoch e share.logged share.marks share.refusal old new
              before bank)
              (sym last)
              (left_at tells clock image_at faults was.epoch behind.epoch so.parts logs_was logs banks_was banks
              so.left i
              share old new before bank place was_at is_at bank_was bank_is));
        }

    -- all lines were run
    pub workers_run : RunsWorkers tells clock image_at faults tries round (stands was first done) (stands now
        (clock_number word) done)
        outcomes ends (map (λ (share : Share). share.marks) (shares_of so.parts))
        (map (λ (share : Share). share.readied) (shares_of so.parts)) logs_was logs banks_was banks
    workers_run = record {
      shares = shares_of so.parts;
      marks_are = refl;
      readied_are = refl;
      begins = λ i share there. subst (λ e. BeginsAt e share.lines share.marks) (sym at.epoch)
          (shares_begin tries was ended 0 so.parts so.are i share there);
      last = λ i share log there is. told_last round 0 so.parts outcomes ends logs_was logs so.told i share log
          there is;
      over = over_so;
      lines = told_lines round 0 so.parts outcomes ends logs_was logs so.told ∙ ap (lines_from round 0) so.many;
      told = told_outcomes round 0 so.parts outcomes ends logs_was logs so.told;
      idle = told_idle round 0 so.parts outcomes ends logs_was logs so.told;
      ends_failed = told_failed round 0 so.parts outcomes ends logs_was logs so.told;
      flushed = λ i log less is. told_flushed round 0 so.parts outcomes ends logs_was logs so.told i log is;
      ends_are = told_refusals round 0 so.parts outcomes ends logs_was logs so.told;
      left_out = λ i share old before place was_at bank_was.
          subst (λ e. LeavesOut tells clock image_at faults e (Contains share.outcomes Unrun) share.logged share.refusal
          old before) (sym at.epoch)
          (out_at tells clock image_at faults was.epoch behind.epoch so.parts logs_was logs banks_was banks so.left
          i share
          old before place was_at bank_was);
    }

  -- the marks of the seats are those of the round
  pub marks_so : AreMarksBehind round logs (marks_of now.parked)
  marks_so =
      let parked : now.parked ≡ ended.parked =
      ap (λ (v : View). v.parked) audited.2.is ∙ ap (λ (v : View). v.parked) audited.1.is in
      subst (λ (l : List Seat). AreMarksBehind round logs (marks_of l)) (sym parked) (record {
        workers = length-map ended.parked (λ (seat : Seat). last_mark seat.marks) ∙ so.parked_are;
        idle = λ worker log mark is marked none.
            told_mark round 0 so.parts outcomes ends logs_was logs so.told worker log mark is
            (λ p there. (
              seat_mark ended.parked worker p.to.seat mark marked (so.taken worker p there),
              marks_parked was worker,
              words_at tries was ended 0 so.parts so.are worker worker p (omega arith) there,
            ))
            ∙ ap (λ (e : Option ℕ). let m : Mark = record { epoch = e; length = log.mark.length } in m)
            (told_rests round 0 so.parts outcomes ends logs_was logs so.told worker worker log is (omega arith) none);
        busy = λ worker log mark is marked some up.
            told_mark round 0 so.parts outcomes ends logs_was logs so.told worker log mark is
            (λ p there. (
              seat_mark ended.parked worker p.to.seat mark marked (so.taken worker p there),
              marks_parked was worker,
              words_at tries was ended 0 so.parts so.are worker worker p (omega arith) there,
            ));
      })
