-- The commits that are told of a round are those that count now, and did not before.
use Rattle.std.proofs.Common.{◌≡◌, ◌∙◌, sym, ap, subst, refl, ℕ, suc, List, [], ◌∷◌, map, Option}
use Rattle.serial_model.specs.declared.decl.Decl.{Decl}
use Rattle.serial_model.specs.History.{Entry}
use Rattle.script_grammar.specs.Script.{Round, worker_lines}
use Rattle.commit_core.specs.declared.attempt.Attempt.{Attempt}
use Rattle.serial_bridge.specs.Transaction.{AreAttemptsOf}
use Rattle.engine_seats.specs.Gathered.{joined}
use Rattle.engine_seats.specs.Counts.{HasAudited}
use Rattle.engine_pages.specs.declared.view.View.{View}
use Rattle.tx_script.specs.Run.{entries_of_workers}
use Rattle.worker_logs.specs.Logs.{LogState}
use Rattle.shared_rounds.specs.Ended.{EndedSoFar}
use Rattle.shared_rounds.specs.Gathers.{HasGathered}
use Rattle.shared_rounds.specs.SharedState.{IsKept}
use Rattle.shared_rounds.specs.Shares.{Share, entries_in}
use Rattle.shared_rounds.specs.declared.ends.WorkersRan.{WorkersRan}
use Rattle.shared_rounds.proofs.Counted.{split}
use Rattle.shared_rounds.proofs.Joined.{joined_pairs, mines_of, shares_of}
use Rattle.shared_rounds.proofs.Pairs.{ArePairs, pairs_attempts}
use Rattle.shared_rounds.proofs.Told.{lines_from, told_lines, told_outcomes}
use Rattle.shared_rounds.proofs.Whole.{round_is}

-- each attempt is on the seat of its entry's worker
seats_same : (decls : List Decl) (es : List Entry) (xs : List Attempt) → ArePairs decls es xs
    → map (λ (e : Entry). suc e.worker) es ≡ map (λ (a : Attempt). a.seat) xs
seats_same decls [] [] are = refl
seats_same decls [] (x ∷ xs) are = absurd are
seats_same decls (e ∷ es) [] are = absurd are
seats_same decls (e ∷ es) (x ∷ xs) are =
    ap (λ (n : ℕ). n ∷ map (λ (f : Entry). suc f.worker) es) (sym are.0.1)
    ∙ ap (λ (l : List ℕ). x.seat ∷ l) (seats_same decls es xs are.1)

module _ {D : Type 0} (tells : D → Option (List ℕ)) (clock : D → ℕ) (image_at : D → ℕ → List ℕ → Type 0)
    (faults : D → ℕ) where
  pub gathered_so : (tries : ℕ) (round : Round) (was behind ended now : View) (logs_was logs : List LogState)
      (banks_was banks : List D) (ran : WorkersRan)
      → EndedSoFar tells clock image_at faults tries round was behind ended 8 logs_was logs banks_was banks ran.outcomes
      ran.ends.items
      → IsKept was → (word count : ℕ) → HasAudited ended word count now
      → HasGathered was.layout.decls round ran.outcomes was.mine now.mine
  gathered_so tries round was behind ended now logs_was logs banks_was banks ran so kept word count audited =
      let r = round_is tells clock image_at faults tries round was behind ended now logs_was logs banks_was banks
      ran.outcomes ran.ends.items so kept word count audited in
      let lines = told_lines round 0 so.parts ran.outcomes ran.ends.items logs_was logs so.told
      ∙ ap (lines_from round 0) so.many in
      let told = told_outcomes round 0 so.parts ran.outcomes ran.ends.items logs_was logs so.told in
      let same : (index : ℕ) → entries_of_workers index 0 ran.outcomes (worker_lines round)
      ≡ entries_in index (shares_of so.parts) =
      λ index. ap (λ o. entries_of_workers index 0 o (worker_lines round)) told
      ∙ ap (λ l. entries_of_workers index 0 (map (λ (share : Share). share.outcomes) (shares_of so.parts)) l)
      (sym lines) in
      let pairs : (index : ℕ)
      → ArePairs was.layout.decls (entries_in index (shares_of so.parts)) (joined (mines_of so.parts)) =
      λ index. joined_pairs tries was ended index 0 so.parts so.are in
      record {
        new = (split tries was now so.parts r).new;
        all = (split tries was now so.parts r).own;
        told = joined (mines_of so.parts);
        same = (split tries was now so.parts r).same;
        are = λ index. subst (λ (es : List Entry). AreAttemptsOf was.layout.decls es (joined (mines_of so.parts)))
            (sym (same index))
            (pairs_attempts was.layout.decls (entries_in index (shares_of so.parts)) (joined (mines_of so.parts))
            (pairs index));
        seats = λ index. ap (map (λ (e : Entry). suc e.worker)) (same index)
            ∙ seats_same was.layout.decls (entries_in index (shares_of so.parts)) (joined (mines_of so.parts))
            (pairs index);
      }
