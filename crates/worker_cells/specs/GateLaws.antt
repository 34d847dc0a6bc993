-- Laws of what a gate is told: one line more, and one worker more.
use Rattle.std.proofs.Common.{◌≡◌, ◌∙◌, ◌++◌, ◌∷◌, ◌+◌, sym, ap, subst, ℕ, suc, Bool, true, false, cond, List, []}
use Rattle.std.proofs.Common.{length, append-nil, append_assoc, length-append, arith}
use Rattle.tx_script.specs.declared.outcome.Outcome.{Outcome}
use Rattle.worker_cells.specs.Gates.{After, AreAllTold, Before, GateCall, IsTold, calls_for, calls_in, calls_of}
use Rattle.worker_cells.specs.Gates.{calls_round, is_run}
use Rattle.worker_cells.specs.declared.cell.LogEnd.{LogEnd}

-- both calls round a line
pub calls_both : (thread line : ℕ) (calls inside after : List GateCall) → inside ≡ calls ++ Before thread line ∷ []
    → after ≡ inside ++ After thread line ∷ [] → after ≡ calls ++ calls_round thread line
calls_both thread line calls inside after first next =
    next ∙ ap (λ l. l ++ After thread line ∷ []) first
    ∙ append_assoc calls (Before thread line ∷ []) (After thread line ∷ [])

-- those round one line more
pub calls_more : (thread count : ℕ) → calls_of thread (count + 1) ≡ calls_of thread count ++ calls_round thread count
calls_more thread count =
    let more : count + 1 ≡ suc count = omega arith in ap (calls_of thread) more

-- those for one line more
pub calls_push : {X : Type 0} (was_run : X → Bool) (thread line : ℕ) (xs : List X) (x : X)
    → calls_for was_run thread line (xs ++ x ∷ [])
    ≡ calls_for was_run thread line xs ++ cond (was_run x) (calls_round thread (line + length xs)) []
calls_push was_run thread line [] x =
    let here : line ≡ line + 0 = omega arith in
    append-nil (cond (was_run x) (calls_round thread line) [])
    ∙ ap (λ n. cond (was_run x) (calls_round thread n) []) here
calls_push was_run thread line (y ∷ xs) x =
    let first : List GateCall = cond (was_run y) (calls_round thread line) [] in
    let place : (line + 1) + length xs ≡ line + suc (length xs) = omega arith in
    ap (λ l. first ++ l) (calls_push was_run thread (line + 1) xs x)
    ∙ sym (append_assoc first (calls_for was_run thread (line + 1) xs)
    (cond (was_run x) (calls_round thread ((line + 1) + length xs)) []))
    ∙ ap (λ n. (first ++ calls_for was_run thread (line + 1) xs) ++ cond (was_run x) (calls_round thread n) []) place

-- no line
pub told_none : {X : Type 0} (was_run : X → Bool) (thread : ℕ) (AllRun : Type 0) (came : List X)
    (calls : List GateCall) → came ≡ [] → calls ≡ [] → IsTold was_run thread 0 AllRun came calls
told_none was_run thread AllRun came calls none silent = record {
  calls_are = silent ∙ ap (calls_for was_run thread 0) (sym none);
  count_is = ap length none;
  all = λ run. silent;
}

-- a line more, between its calls
pub told_ran : {X : Type 0} {was_run : X → Bool} {thread count : ℕ} {AllRun : Type 0} {xs : List X}
    {calls : List GateCall} (Still : Type 0) (ys : List X) (x : X) (after : List GateCall)
    → IsTold was_run thread count AllRun xs calls → AllRun → ys ≡ xs ++ x ∷ [] → was_run x ≡ true
    → after ≡ calls ++ calls_round thread count → IsTold was_run thread (count + 1) Still ys after
told_ran {was_run = was_run} {thread = thread} {count = count} {xs = xs} {calls = calls} Still ys x after told run
    more ran is =
    let place : count ≡ 0 + length xs = omega (arith, told.count_is) in
    let here : calls_round thread count ≡ cond (was_run x) (calls_round thread (0 + length xs)) [] =
    ap (calls_round thread) place ∙ ap (λ b. cond b (calls_round thread (0 + length xs)) []) (sym ran) in
    record {
      calls_are = is ∙ ap (λ l. l ++ calls_round thread count) told.calls_are
          ∙ ap (λ l. calls_for was_run thread 0 xs ++ l) here ∙ sym (calls_push was_run thread 0 xs x)
          ∙ ap (calls_for was_run thread 0) (sym more);
      count_is = ap length more ∙ length-append xs (x ∷ []) ∙ ap (λ n. n + 1) told.count_is;
      all = λ still. is ∙ ap (λ l. l ++ calls_round thread count) (told.all run) ∙ sym (calls_more thread count);
    }

-- a line more that was left out
pub told_left : {X : Type 0} {was_run : X → Bool} {thread count : ℕ} {AllRun : Type 0} {xs : List X}
    {calls : List GateCall} (Still : Type 0) (ys : List X) (x : X)
    → IsTold was_run thread count AllRun xs calls → ys ≡ xs ++ x ∷ [] → was_run x ≡ false → (Still → ⊥)
    → IsTold was_run thread (count + 1) Still ys calls
told_left {was_run = was_run} {thread = thread} {count = count} {xs = xs} {calls = calls} Still ys x told more left
    not =
    let here : cond (was_run x) (calls_round thread (0 + length xs)) [] ≡ [] =
    ap (λ b. cond b (calls_round thread (0 + length xs)) []) left in
    record {
      calls_are = told.calls_are ∙ sym (append-nil (calls_for was_run thread 0 xs))
          ∙ ap (λ l. calls_for was_run thread 0 xs ++ l) (sym here) ∙ sym (calls_push was_run thread 0 xs x)
          ∙ ap (calls_for was_run thread 0) (sym more);
      count_is = ap length more ∙ length-append xs (x ∷ []) ∙ ap (λ n. n + 1) told.count_is;
      all = λ still. absurd (not still);
    }

-- a worker more
pub all_told_push : (worker next : ℕ) (outcomes : List (List Outcome)) (ends : List LogEnd) (o : List Outcome)
    (e : LogEnd) → next ≡ worker + length outcomes → AreAllTold worker outcomes ends
    → calls_in e.calls ≡ calls_for is_run next 0 o → AreAllTold worker (outcomes ++ o ∷ []) (ends ++ e ∷ [])
all_told_push worker next [] [] o e is are one =
    let same : next ≡ worker = omega (arith, is) in
    (subst (λ w. calls_in e.calls ≡ calls_for is_run w 0 o) same one, tt)
all_told_push worker next (x ∷ outcomes) (y ∷ ends) o e is are one =
    (are.0, all_told_push (worker + 1) next outcomes ends o e (omega (arith, is)) are.1 one)
all_told_push worker next [] (y ∷ ends) o e is are one = absurd are
all_told_push worker next (x ∷ outcomes) [] o e is are one = absurd are
