-- One line more of a round is counted to whose it is.
use Rattle.std.proofs.Common.{◌≡◌, ◌≢◌, ◌∙◌, ◌<◌, ◌+◌, ◌++◌, ◌∷◌, ap, refl, sym, subst, ℕ, List, [], Option, Some, None}
use Rattle.std.proofs.Common.{Bool, true, eq-eqb, inl, inr, length, take}
use Rattle.std.specs.Prelude.{slice_get}
use Rattle.std.specs.Option.{option_map}
use Rattle.std.proofs.lemmas.Bool.{cases_eq}
use Rattle.serial_model.specs.declared.op.Op.{Op}
use Rattle.std.proofs.lemmas.Option.{same_Some, slice_get_within}
use Rattle.script_grammar.specs.Script.{Keeper, Line, Round, Worker, lines_of_worker, worker_of}
use Rattle.worker_logs.specs.Logs.{LogState}
use Rattle.round_engine.specs.Owners.{AddsOwner, AreOwners}
use Rattle.round_engine.specs.Workers.{idle_if_not, idled, is_busy}
use Rattle.round_engine.specs.declared.owners.Owners.{Owners}
use Rattle.round_engine.proofs.Fronts.{ops_of, ops_of-append, take_line}
use Rattle.round_engine.proofs.Loops.{keeper_none, keeper_one, line_there, other_worker}

-- operations at the end make a worker busy
busy_end : (before mine : List (List Op)) → is_busy mine ≡ true → is_busy (before ++ mine) ≡ true
busy_end [] mine busy = busy
busy_end (ops ∷ before) mine busy = refl

-- a worker's own line does
his_line : (line : Line) (worker : ℕ) → worker_of line ≡ Some worker → is_busy (ops_of worker (line ∷ [])) ≡ true
his_line (Worker other ops) worker is = let same : other ≡ worker = cc in rw (eq-eqb other worker same) refl
his_line (Keeper line) worker is = absurd cc

busy_now : (lines : List Line) (i worker : ℕ) → option_map worker_of (slice_get lines i) ≡ Some (Some worker)
    → is_busy (ops_of worker (take (i + 1) lines)) ≡ true
busy_now lines i worker is =
    let at = line_there lines i (Some worker) is in
    ap is_busy (ap (ops_of worker) (take_line lines i at.0 at.1) ∙ ops_of-append worker (take i lines) (at.0 ∷ []))
    ∙ busy_end (ops_of worker (take i lines)) (ops_of worker (at.0 ∷ [])) (his_line at.0 worker at.2)

none_other : (w : ℕ) → None ≢ Some w
none_other w is = cc

-- the line at an index is counted
pub owner_more : (lines : List Line) (i : ℕ) (o : Option ℕ) (old new : Owners)
    → option_map worker_of (slice_get lines i) ≡ Some o → AddsOwner o old new → AreOwners (take i lines) old
    → AreOwners (take (i + 1) lines) new
owner_more lines i (Some worker) old new is adds are = record {
  workers = adds.workers ∙ are.workers;
  busy = λ w below. elim (cases_eq w worker) [
    | inl same ↦
        subst (λ n. slice_get new.busy n ≡ Some (is_busy (ops_of n (take (i + 1) lines)))) (sym same)
        (adds.mine (subst (λ n. n < 8) same below) ∙ ap Some (sym (busy_now lines i worker is)))
    | inr apart ↦
        adds.others w apart ∙ are.busy w below
        ∙ ap (λ ops. Some (is_busy ops)) (sym (other_worker lines i w (Some worker) is (λ his. apart (sym (same_Some worker w his)))))
  ];
  keeper = adds.keeper ∙ are.keeper ∙ ap length (sym (keeper_none lines i worker is));
}
owner_more lines i None old new is adds are = record {
  workers = ap (λ (x : Owners). length x.busy) adds ∙ are.workers;
  busy = λ w below.
      ap (λ (x : Owners). slice_get x.busy w) adds ∙ are.busy w below
      ∙ ap (λ ops. Some (is_busy ops)) (sym (other_worker lines i w None is (none_other w)));
  keeper =
      ap (λ (x : Owners). x.keeper) adds ∙ ap (λ n. n + 1) are.keeper ∙ sym (keeper_one lines i is);
}

-- the logs, with those of workers that aren't busy idle
pub idled_by : (round : Round) (owners : Owners) (logs left : List LogState) → AreOwners round.lines owners
    → length logs ≡ 8
    → ((worker : ℕ) (log : LogState) (has : Bool) → slice_get logs worker ≡ Some log
    → slice_get owners.busy worker ≡ Some has → slice_get left worker ≡ Some (idle_if_not has log))
    → (worker : ℕ) (log : LogState) → slice_get logs worker ≡ Some log
    → slice_get left worker ≡ Some (idled (lines_of_worker round worker) log)
idled_by round owners logs left are many idle worker log at =
    idle worker log (is_busy (lines_of_worker round worker)) at
    (are.busy worker (subst (λ n. worker < n) many (slice_get_within logs worker log at)))
