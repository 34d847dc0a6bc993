-- A run over declarations is one over any list of the same ones: what transactions do depends on which storages there
-- are, and not on their order.
use Rattle.std.proofs.Common.{◌≡◌, ◌∙◌, sym, ap, subst, refl, ℕ, Bool, true≢false, inl, inr, List, [], ◌∷◌}
use Rattle.std.proofs.Common.{◌+◌, Some}
use Rattle.std.specs.Prelude.{IsTrue, nat_le, filter}
use Rattle.std.specs.FinMap.{get}
use Rattle.std.specs.List.{list_any}
use Rattle.std.specs.List.Sorted.{IsPermutation}
use Rattle.std.proofs.lemmas.Bool.{cases_Bool}
use Rattle.std.proofs.lemmas.List.Sorted.{Contains-permutation, IsPermutation-sym}
use Rattle.lists.specs.Each.{all_weaker}
use Rattle.lists.specs.Elements.{any_in, any_is}
use Rattle.serial_model.specs.History.{AnswersAlong, Entry, as_of, state_after, state_after_all}
use Rattle.serial_model.specs.Keys.{fits, has_key_of, is_tree_of}
use Rattle.serial_model.specs.State.{State}
use Rattle.serial_model.specs.Step.{Ended, Goes, Ends, Move, after_move, move_of, reply_of, step, step_from, with_reply}
use Rattle.serial_model.specs.declared.decl.Decl.{Decl}
use Rattle.serial_model.specs.declared.number.Number.{Number}
use Rattle.serial_model.specs.declared.op.Op.{Op}
use Rattle.serial_model.specs.declared.op.Op.TheVariants.{Read, Write, Remove, Add, Take, Scan}
use Rattle.script_grammar.specs.Script.{Keeper, Line, Round, Worker, worker_lines}
use Rattle.tx_script.specs.Conflicts.{AreMet, FillsSet, IsMet, IsOnTree, LinesMet, WorkersMet}
use Rattle.tx_script.specs.Run.{CanRun, CanRunLine, FullSet, InConflict, IsRun, NoNumber, NoRoom, NoSlot, OfHolds}
use Rattle.tx_script.specs.Run.{OfPointers, OfReads, OfWrites, Ran, TryRefusal}
use Rattle.program_calls.specs.Beginning.{SameDecls}

-- in another order they are the same
pub permuted_decls : (ds es : List Decl) → IsPermutation ds es → SameDecls ds es
permuted_decls ds es same d = (
  Contains-permutation ds es d same,
  Contains-permutation es ds d (IsPermutation-sym ds es same),
)

module _ (ds es : List Decl) (same : SameDecls ds es) where
  -- a test that one of them passes
  same_test : (p : Decl → Bool) → list_any p ds ≡ list_any p es
  same_test p = elim (cases_Bool (list_any p ds)) [
    | inl hit ↦
        let d = any_is p ds hit in
        hit ∙ sym (any_in p es d.0 ((same d.0).0 d.1) d.2)
    | inr miss ↦ elim (cases_Bool (list_any p es)) [
      | inl hit ↦
          let d = any_is p es hit in
          absurd (true≢false (sym (any_in p ds d.0 ((same d.0).1 d.1) d.2) ∙ miss))
      | inr none ↦ miss ∙ sym none
    ]
  ]

  -- ---- transactions

  same_move : (s : State) (op : Op) → move_of ds s op ≡ move_of es s op
  same_move s (Read k) = ap (λ b. Goes (Some (reply_of b (get s k))) s) (same_test (is_tree_of k.storage))
  same_move s (Write k v) = refl
  same_move s (Remove k) = refl
  same_move s (Add k v) = refl
  same_move s (Take k v) = refl
  same_move s (Scan storage low high) = refl

  same_rest : (first : State) (m : Move) (f g : State → Ended) → ((s : State) → f s ≡ g s)
      → after_move first m f ≡ after_move first m g
  same_rest first (Goes reply s) f g each = ap (with_reply reply) (each s)
  same_rest first (Ends verdict) f g each = refl

  same_from : (first : State) (ops : List Op) (s : State) → step_from ds first ops s ≡ step_from es first ops s
  same_from first [] s = refl
  same_from first (op ∷ ops) s =
      same_rest first (move_of ds s op) (step_from ds first ops) (step_from es first ops) (same_from first ops)
      ∙ ap (λ m. after_move first m (step_from es first ops)) (same_move s op)

  pub same_step : (s : State) (ops : List Op) → step ds s ops ≡ step es s ops
  same_step s ops = same_from s ops s

  same_after : (s : State) (e : Entry) → state_after ds s e ≡ state_after es s e
  same_after s e = ap (λ (x : Ended). x.state) (same_step s e.ops)

  pub same_state : (s : State) (entries : List Entry) → state_after_all ds s entries ≡ state_after_all es s entries
  same_state s [] = refl
  same_state s (e ∷ more) =
      same_state (state_after ds s e) more ∙ ap (λ t. state_after_all es t more) (same_after s e)

  -- the state as of an epoch
  pub as_of_same : (s : State) (entries : List Entry) (epoch : ℕ) → as_of ds s entries epoch ≡ as_of es s entries epoch
  as_of_same s entries epoch = same_state s (filter (λ e. nat_le e.number.epoch epoch) entries)

  same_answers : (entries : List Entry) (s : State) → AnswersAlong ds entries s → AnswersAlong es entries s
  same_answers [] s along = tt
  same_answers (e ∷ more) s along = (
    record {
      verdict = along.0.verdict ∙ ap (λ (x : Ended). x.verdict) (same_step s e.ops);
      replies = along.0.replies ∙ ap (λ (x : Ended). x.replies) (same_step s e.ops);
    },
    subst (AnswersAlong es more) (same_after s e) (same_answers more (state_after ds s e) along.1),
  )

  -- ---- what can be run

  pub same_fits : (op : Op) → fits ds op ≡ fits es op
  same_fits (Read k) = same_test (has_key_of k)
  same_fits (Write k v) = same_test (has_key_of k)
  same_fits (Remove k) = same_test (is_tree_of k.storage)
  same_fits (Add k v) = same_test (has_key_of k)
  same_fits (Take k v) = same_test (has_key_of k)
  same_fits (Scan storage low high) = same_test (is_tree_of storage)

  same_line : (line : Line) → CanRunLine ds line → CanRunLine es line
  same_line (Worker worker ops) can = record {
    worker = can.worker;
    few = can.few;
    fitting = all_weaker (λ op. IsTrue (fits ds op)) (λ op. IsTrue (fits es op))
        (λ op fine. sym (same_fits op) ∙ fine) ops can.fitting;
  }
  same_line (Keeper line) can = can

  pub can_run_same : (round : Round) → CanRun ds round → CanRun es round
  can_run_same round can = record {
    few_lines = can.few_lines;
    lines = all_weaker (CanRunLine ds) (CanRunLine es) same_line round.lines can.lines;
  }

  -- ---- refusals

  same_on_tree : (op : Op) → IsOnTree es op → IsOnTree ds op
  same_on_tree (Read k) is = same_test (is_tree_of k.storage) ∙ is
  same_on_tree (Write k v) is = same_test (is_tree_of k.storage) ∙ is
  same_on_tree (Remove k) is = same_test (is_tree_of k.storage) ∙ is
  same_on_tree (Add k v) is = same_test (is_tree_of k.storage) ∙ is
  same_on_tree (Take k v) is = same_test (is_tree_of k.storage) ∙ is
  same_on_tree (Scan storage low high) is = same_test (is_tree_of storage) ∙ is

  same_fill : (ops : List Op) (set : FullSet) → FillsSet es ops set → FillsSet ds ops set
  same_fill ops OfReads fills = (fills.0, fills.1, fills.2, fills.3, same_test (is_tree_of fills.0) ∙ fills.4)
  same_fill ops OfWrites fills = fills
  same_fill ops OfPointers fills = (fills.0, fills.1, fills.2, fills.3, same_test (is_tree_of fills.0) ∙ fills.4)
  same_fill ops OfHolds fills = (fills.0, fills.1, same_on_tree fills.0 fills.2)

  same_try : (lines : List (List (List Op))) (dropped : Type 0) (worker : ℕ) (ops : List Op) (refusal : TryRefusal)
      → IsMet es lines dropped worker ops refusal → IsMet ds lines dropped worker ops refusal
  same_try lines dropped worker ops (InConflict met) m = m
  same_try lines dropped worker ops (NoSlot words) m = m
  same_try lines dropped worker ops (NoRoom set) m = same_fill ops set m
  same_try lines dropped worker ops (NoNumber clock) m = tt

  same_tries : (lines : List (List (List Op))) (dropped : Type 0) (worker : ℕ) (mine : List (List Op))
      (refused : List (List TryRefusal)) → LinesMet es lines dropped worker mine refused
      → LinesMet ds lines dropped worker mine refused
  same_tries lines dropped worker [] [] met = tt
  same_tries lines dropped worker [] (refusals ∷ more) met = absurd met
  same_tries lines dropped worker (ops ∷ mine) [] met = absurd met
  same_tries lines dropped worker (ops ∷ mine) (refusals ∷ more) met = (
    all_weaker (IsMet es lines dropped worker ops) (IsMet ds lines dropped worker ops)
        (same_try lines dropped worker ops) refusals met.0,
    same_tries lines dropped worker mine more met.1,
  )

  same_workers : (lines : List (List (List Op))) (dropped : Type 0) (worker : ℕ) (mine : List (List (List Op)))
      (refused : List (List (List TryRefusal))) → WorkersMet es lines dropped worker mine refused
      → WorkersMet ds lines dropped worker mine refused
  same_workers lines dropped worker [] [] met = tt
  same_workers lines dropped worker [] (refused ∷ others) met = absurd met
  same_workers lines dropped worker (mine ∷ more) [] met = absurd met
  same_workers lines dropped worker (mine ∷ more) (refused ∷ others) met = (
    same_tries lines dropped worker mine refused met.0,
    same_workers lines dropped (worker + 1) more others met.1,
  )

  -- What the lines have to do with their refusals is the same.
  pub met_same : (ran : Ran) (round : Round) → AreMet es ran round → AreMet ds ran round
  met_same ran round met = record {
    workers = same_workers (worker_lines round) (ran.beside.drops ≡ [] → ⊥) 0 (worker_lines round) ran.beside.refused
        met.workers;
  }

  -- ---- runs

  -- The same lines, with the same outcomes and the same order of commits, are a run.
  pub same_run : (index : ℕ) (rounds : List Round) (s : State) (clock : Number) (rans : List Ran) (t : State)
      → (run : IsRun ds index rounds s clock rans t)
      → (r : IsRun es index rounds s clock rans t) × (r.ordered ≡ run.ordered)
  same_run index rounds s clock rans t run = (
    record {
      lines = run.lines;
      workers = run.workers;
      clocks = run.clocks;
      ordered = run.ordered;
      same = run.same;
      serial = record {
        rising = run.serial.rising;
        epochs = run.serial.epochs;
        answers = same_answers run.ordered s run.serial.answers;
      };
      draws = run.draws;
      after = run.after ∙ same_state s run.ordered;
    },
    refl,
  )
