-- From one worker's cell to the next one as seats end.
use Rattle.std.proofs.Common.{◌≡◌, ◌∙◌, sym, subst, refl, ℕ, ◌+◌, ◌/◌, ◌^◌, inl, List, []}
use Rattle.std.proofs.Common.{◌∷◌, ◌++◌}
use Rattle.std.proofs.Common.{ap, append-nil, append_assoc, length, length-append, arith, Option}
use Rattle.lists.specs.Elements.{in_head, in_none, in_tail}
use Rattle.std.specs.List.{Contains}
use Rattle.script_grammar.specs.Script.{Round}
use Rattle.engine_seats.specs.Cuts.{HasSeen, ended, heard_of}
use Rattle.engine_pages.specs.Passes.{view}
use Rattle.engine_pages.specs.Times.{HasTimed}
use Rattle.engine_pages.specs.declared.engine.Engine.{Engine}
use Rattle.engine_pages.specs.declared.view.Role.TheVariants.{Worker}
use Rattle.engine_pages.specs.declared.view.Touch.{Touch}
use Rattle.engine_pages.specs.declared.view.View.{View}
use Rattle.tx_script.specs.declared.outcome.Outcome.{Outcome}
use Rattle.worker_cells.specs.GateLaws.{all_told_push}
use Rattle.worker_cells.specs.InARow.{row_role}
use Rattle.worker_cells.specs.declared.cell.Cell.{Cell}
use Rattle.worker_cells.specs.declared.cell.LogEnd.{LogEnd}
use Rattle.worker_logs.specs.Logs.{LogState}
use Rattle.shared_rounds.specs.Ended.{EndedSoFar, EndsOn}
use Rattle.shared_rounds.specs.Seated.{AreRan, backward}
use Rattle.shared_rounds.specs.Seating.{StandsFor}
use Rattle.shared_rounds.proofs.Backward.{backward_push}
use Rattle.shared_rounds.proofs.Ending.{ends_one, told_push}
use Rattle.shared_rounds.proofs.Left.{cell_left}

module _ {D : Type 0} (tells : D → Option (List ℕ)) (clock : D → ℕ) (image_at : D → ℕ → List ℕ → Type 0)
    (faults : D → ℕ) where
  -- One more seat was taken in, that of the cell that stood last.
  pub ends_next : (tries : ℕ) (round : Round) (words : Engine) (was behind mid now : View) (n count : ℕ)
      (rest : List (Cell D))
      (cell : Cell D) (logs_was logs : List LogState) (banks_was banks : List D) (outcomes : List (List Outcome))
      (ends : List LogEnd)
      → EndsOn tells clock image_at faults tries round words was behind mid count
      (rest ++ cell ∷ []) logs_was logs banks_was
      banks outcomes ends
      → HasTimed (ended mid (view cell.pass)) n now → HasSeen mid now → HasSeen (view cell.pass) now
      → EndsOn tells clock image_at faults tries round words was behind now (count + 1) rest logs_was
      (logs ++ cell.log ∷ [])
      banks_was (banks ++ cell.bank ∷ []) (outcomes ++ cell.outcomes.told ∷ []) (ends ++ cell.end ∷ [])
  ends_next tries round words was behind mid now n count rest cell logs_was logs banks_was banks outcomes ends so
      timed seen
      own =
      by_lists so.logs_left so.banks_left so.logs_are so.banks_are
      (subst (λ l. AreRan tells clock image_at faults tries round words was count l so.logs_left so.banks_left)
      (backward_push rest cell) so.ran)
    where
      by_lists : (ll : List LogState) (bl : List D) → logs_was ≡ so.logs_done ++ ll → banks_was ≡ so.banks_done ++ bl
          → AreRan tells clock image_at faults tries round words was count (cell ∷ backward rest) ll bl
          → EndsOn tells clock image_at faults tries round words was behind now (count + 1) rest logs_was
          (logs ++ cell.log ∷ []) banks_was (banks ++ cell.bank ∷ []) (outcomes ++ cell.outcomes.told ∷ [])
          (ends ++ cell.end ∷ [])
      by_lists [] bl logs_are banks_are ran = absurd ran
      by_lists (log ∷ more) [] logs_are banks_are ran = absurd ran
      by_lists (log ∷ more) (bank ∷ others) logs_are banks_are ran =
          let heard = (timed.heard (heard_of (view cell.pass)) (in_tail (heard_of (view cell.pass)) (heard_of mid)
          (heard_of (view cell.pass) ∷ []) (in_head (heard_of (view cell.pass)) []))).2 in
          let reached : now.epoch ≡ n / 2 ^ 40 = ap (λ (v : View). v.epoch) timed.is in
          let runs = ran.0.runs in
          let left = cell_left tells clock image_at faults tries count round cell.outcomes.told cell.end was now
          ran.0.from (view cell.pass) log cell.log bank cell.bank ran.0.begun own
          (omega (arith, heard, reached)) runs in
          let role : (view cell.pass).role ≡ Worker count =
          row_role tries ran.0.from runs.lines_run.ran (view cell.pass) runs.lines_run.did.row
          ∙ ran.0.begun.seated.role in
          let here : count ≡ 0 + length so.so_far.parts = omega (arith, so.so_far.many) in record {
            logs_done = so.logs_done ++ log ∷ [];
            logs_left = more;
            banks_done = so.banks_done ++ bank ∷ [];
            banks_left = others;
            logs_are = logs_are ∙ sym (append_assoc so.logs_done (log ∷ []) more);
            banks_are = banks_are ∙ sym (append_assoc so.banks_done (bank ∷ []) others);
            so_far = ends_one tells clock image_at faults tries round was behind mid now
                (view cell.pass) n count so.logs_done logs so.banks_done banks outcomes ends so.so_far ran.0.small role
                runs.lines_run.did.over.seat timed seen left.0 log cell.log bank cell.bank left.3 left.1
                (outcomes ++ cell.outcomes.told ∷ []) (ends ++ cell.end ∷ [])
                (told_push round 0 count so.so_far.parts outcomes ends so.logs_done logs left.0 cell.outcomes.told
                cell.end log cell.log here so.so_far.told left.2)
                (length-append outcomes (cell.outcomes.told ∷ []) ∙ ap (λ k. k + 1) so.so_far.many_outcomes)
                (all_told_push 0 count outcomes ends cell.outcomes.told cell.end
                (omega (arith, so.so_far.many_outcomes)) so.so_far.calls ran.0.calls);
            ran = ran.1;
          }

  -- ---- the first and the last

  pub ends_begin : (tries : ℕ) (round : Round) (words : Engine) (was now : View) (cells : List (Cell D))
      (logs_was : List LogState) (banks_was : List D) → StandsFor was now
      → AreRan tells clock image_at faults tries round words was 0 (backward cells) logs_was banks_was
      → EndsOn tells clock image_at faults tries round words was now now 0 cells logs_was [] banks_was [] [] []
  ends_begin tries round words was now cells logs_was banks_was stands ran = record {
    logs_done = [];
    logs_left = logs_was;
    banks_done = [];
    banks_left = banks_was;
    logs_are = refl;
    banks_are = refl;
    so_far = record {
      parts = [];
      many = refl;
      are = tt;
      seen = stands.seen;
      role = stands.role;
      seat = stands.seat;
      layout = stands.layout;
      pages = inl refl;
      fills = refl;
      low = stands.epoch;
      epoch = refl;
      met = refl;
      made = stands.made;
      gathers = stands.mine;
      refused = stands.refused ∙ sym (append-nil was.refused);
      draws = stands.draws ∙ omega arith;
      drops = refl;
      dropped = stands.drops;
      touched = λ same t has. absurd (in_none t
          (subst (λ (l : List Touch). Contains l t) (stands.touched same) has));
      free = λ nothing. nothing;
      blamed = λ worker p there. absurd cc;
      parked_are = stands.parked_are;
      parked = stands.parked;
      taken = λ worker p there. absurd cc;
      left = tt;
      told = tt;
      many_outcomes = refl;
      calls = tt;
    };
    ran = ran;
  }

  pub ends_all : (tries : ℕ) (round : Round) (words : Engine) (was behind now : View) (logs_was logs : List LogState)
      (banks_was banks : List D) (outcomes : List (List Outcome)) (ends : List LogEnd)
      → EndsOn tells clock image_at faults tries round words was behind now 8
      [] logs_was logs banks_was banks outcomes ends
      → EndedSoFar tells clock image_at faults tries round was behind now 8 logs_was logs banks_was banks outcomes ends
  ends_all tries round words was behind now logs_was logs banks_was banks outcomes ends so =
      by_lists so.logs_left so.banks_left so.logs_are so.banks_are so.ran
    where
      by_lists : (ll : List LogState) (bl : List D) → logs_was ≡ so.logs_done ++ ll → banks_was ≡ so.banks_done ++ bl
          → AreRan tells clock image_at faults tries round words was 8 [] ll bl
          → EndedSoFar tells clock image_at faults tries round was behind now 8 logs_was logs banks_was banks
          outcomes ends
      by_lists (log ∷ more) bl logs_are banks_are ran = absurd ran
      by_lists [] (bank ∷ more) logs_are banks_are ran = absurd ran
      by_lists [] [] logs_are banks_are ran =
          subst (λ l. EndedSoFar tells clock image_at faults tries round was behind now 8 l logs banks_was banks
          outcomes
          ends) (sym (logs_are ∙ append-nil so.logs_done))
          (subst (λ b. EndedSoFar tells clock image_at faults tries round was behind now 8 so.logs_done logs b banks
          outcomes
          ends) (sym (banks_are ∙ append-nil so.banks_done)) so.so_far)

  -- ---- the same, up to equal lists

  pub ends_begin_is : (tries : ℕ) (round : Round) (words : Engine) (was now : View) (count : ℕ) (cells : List (Cell D))
      (logs_was logs : List LogState) (banks_was banks : List D) (outcomes : List (List Outcome)) (ends : List LogEnd)
      → count ≡ 0 → logs ≡ [] → banks ≡ [] → outcomes ≡ [] → ends ≡ [] → StandsFor was now
      → AreRan tells clock image_at faults tries round words was 0 (backward cells) logs_was banks_was
      → EndsOn tells clock image_at faults tries round words was now now count cells logs_was logs banks_was banks
      outcomes
      ends
  ends_begin_is tries round words was now count cells logs_was logs banks_was banks outcomes ends a b c e f stands
      ran =
      subst (λ x. EndsOn tells clock image_at faults tries round words was now now x cells logs_was logs banks_was banks
      outcomes ends) (sym a)
      (subst (λ x. EndsOn tells clock image_at faults tries round words was now now 0 cells logs_was x banks_was banks
      outcomes ends) (sym b)
      (subst (λ x. EndsOn tells clock image_at faults tries round words was now now 0 cells logs_was [] banks_was x
      outcomes ends) (sym c)
      (subst (λ x. EndsOn tells clock image_at faults tries round words was now now 0 cells logs_was [] banks_was [] x
      ends) (sym e)
      (subst (λ x. EndsOn tells clock image_at faults tries round words was now now 0 cells logs_was [] banks_was []
      [] x)
      (sym f) (ends_begin tries round words was now cells logs_was banks_was stands ran)))))

  pub ends_next_is : (tries : ℕ) (round : Round) (words : Engine) (was behind mid now : View) (n count next : ℕ)
      (cells rest : List (Cell D)) (cell : Cell D) (logs_was logs logs_now : List LogState)
      (banks_was banks banks_now : List D) (outcomes told : List (List Outcome)) (ends ends_now : List LogEnd)
      → cells ≡ rest ++ cell ∷ [] → next ≡ count + 1 → logs_now ≡ logs ++ cell.log ∷ []
      → banks_now ≡ banks ++ cell.bank ∷ [] → ends_now ≡ ends ++ cell.end ∷ []
      → told ≡ outcomes ++ cell.outcomes.told ∷ []
      → EndsOn tells clock image_at faults tries round words was behind mid count cells logs_was logs banks_was banks
      outcomes
      ends
      → HasTimed (ended mid (view cell.pass)) n now → HasSeen mid now → HasSeen (view cell.pass) now
      → EndsOn tells clock image_at faults tries round words was behind now next rest logs_was logs_now banks_was
      banks_now
      told ends_now
  ends_next_is tries round words was behind mid now n count next cells rest cell logs_was logs logs_now banks_was banks
      banks_now outcomes told ends ends_now a b c d e f so timed seen own =
      subst (λ x. EndsOn tells clock image_at faults tries round words was behind now x rest logs_was logs_now banks_was
      banks_now told ends_now) (sym b)
      (subst (λ x. EndsOn tells clock image_at faults tries round words was behind now
      (count + 1) rest logs_was x banks_was
      banks_now told ends_now) (sym c)
      (subst (λ x. EndsOn tells clock image_at faults tries round words was behind now (count + 1) rest logs_was
      (logs ++ cell.log ∷ []) banks_was x told ends_now) (sym d)
      (subst (λ x. EndsOn tells clock image_at faults tries round words was behind now (count + 1) rest logs_was
      (logs ++ cell.log ∷ []) banks_was (banks ++ cell.bank ∷ []) told x) (sym e)
      (subst (λ x. EndsOn tells clock image_at faults tries round words was behind now (count + 1) rest logs_was
      (logs ++ cell.log ∷ []) banks_was (banks ++ cell.bank ∷ []) x (ends ++ cell.end ∷ [])) (sym f)
      (ends_next tries round words was behind mid now n count rest cell logs_was logs banks_was banks outcomes ends
      (subst (λ x. EndsOn tells clock image_at faults tries round words was behind mid count x logs_was logs
      banks_was banks
      outcomes ends) a so) timed seen own)))))

  pub ends_all_is : (tries : ℕ) (round : Round) (words : Engine) (was behind now : View) (count : ℕ)
      (cells : List (Cell D))
      (logs_was logs : List LogState) (banks_was banks : List D) (outcomes : List (List Outcome)) (ends : List LogEnd)
      → count ≡ 8 → cells ≡ []
      → EndsOn tells clock image_at faults tries round words was behind now count cells logs_was logs banks_was banks
      outcomes
      ends
      → EndedSoFar tells clock image_at faults tries round was behind now 8 logs_was logs banks_was banks outcomes ends
  ends_all_is tries round words was behind now count cells logs_was logs banks_was banks outcomes ends a b so =
      ends_all tries round words was behind now logs_was logs banks_was banks outcomes ends
      (subst (λ x. EndsOn tells clock image_at faults tries round words was behind now 8 x logs_was logs banks_was banks
      outcomes ends) b
      (subst (λ x. EndsOn tells clock image_at faults tries round words was behind now x cells logs_was logs
      banks_was banks
      outcomes ends) a so))
