-- Attempts write their write sets, and those behind others are a run of their own: as laws.
use Rattle.std.proofs.Common.{◌≡◌, ℕ, zero, suc, ◌+◌, ◌-◌, ◌^◌, ◌≤◌, ◌<◌, arith, length, get_or, set, Bool, true, false}
use Rattle.std.proofs.Common.{true≢false, cond, ◌⊎◌, inl, inr, List, [], ◌∷◌, ◌++◌, refl, sym, ap, ◌∙◌, subst, Option}
use Rattle.std.proofs.Common.{Some, None}
use Rattle.std.specs.Prelude.{nat_lt, nat_le, is_some, unwrap_or, Contains, find, option_map, option_to_list}
use Rattle.std.specs.List.{AllByRecursion, swap}
use Rattle.std.specs.List.Sorted.{IsPermutation}
use Rattle.std.proofs.lemmas.List.Sorted.{IsPermutation-keeps, IsPermutation-refl, length_permutation}
use Rattle.std.specs.FinMap.{get, insert, remove}
use Rattle.std.proofs.lemmas.Bool.{cond-true, cond-false}
use Rattle.serial_model.specs.declared.key.Key.{Key}
use Rattle.serial_model.specs.declared.number.Number.{Number}
use Rattle.serial_model.specs.declared.number.Change.{Change}
use Rattle.serial_model.specs.declared.decl.Decl.{Decl}
use Rattle.serial_model.specs.declared.op.Op.{Op}
use Rattle.serial_model.specs.declared.op.Op.TheVariants.{Read, Write, Remove, Add, Take, Scan}
use Rattle.serial_model.specs.declared.reply.Reply.{Reply}
use Rattle.serial_model.specs.declared.reply.Reply.TheVariants.{Rows}
use Rattle.serial_model.specs.declared.reply.Verdict.{Verdict}
use Rattle.serial_model.specs.declared.reply.Verdict.TheVariants.{Done, Short, Over}
use Rattle.serial_model.specs.Keys.{is_tree, fits}
use Rattle.serial_model.specs.Numbers.{IsBelow}
use Rattle.serial_model.specs.State.{State, amount_at}
use Rattle.serial_model.specs.Step.{Goes, Ends, move_of, reply_of, step}
use Rattle.serial_model.specs.History.{Entry, state_after, state_after_all}
use Rattle.serial_model.specs.WriteSet.{written_by, written_then, written_from, kept_by, write_set}
use Rattle.homes.specs.declared.places.Content.{Content}
use Rattle.lists.specs.Each.{all_weaker}
use Rattle.lists.specs.Elements.{in_cases, in_head, in_none, in_tail}
use Rattle.commit_core.specs.declared.part.Part.{Part}
use Rattle.commit_core.specs.declared.attempt.Attempt.{Attempt}
use Rattle.commit_core.specs.Keys.{same_key, content_at, written, writes_key}
use Rattle.commit_core.specs.Lemmas.Keys.{same_key-self, same_key-true}
use Rattle.commit_core.specs.Serial.{after_writes, ReadsAlong, RisesFrom}
use Rattle.serial_bridge.specs.Transaction.{wrote, Turn, Continues, Stops, added, removed, taken, Turns, Finished}
use Rattle.serial_bridge.specs.Transaction.{finished, FinishesBy, Runs, IsAttemptOf, AreAttemptsOf}
use Rattle.serial_bridge.specs.Bridge.{Agrees, after_attempts}
use Rattle.serial_bridge.specs.Laws.{AreVouched, IsOver, same_amount, seen_same, tree_same, vouched_is, written-wrote}
use Rattle.serial_bridge.specs.Laws.{over_nothing, over_put, over_removed}
use Rattle.serial_bridge.specs.Laws.{attempt_steps, answers_along, in_order, epoch_low}
use Rattle.serial_bridge.specs.WriteSets.{keys_of, AttemptWrites, WriteAlong, RunsBehind, WritesBehind}

-- ---- keys of writes

-- what is written at a key once there is one change more in front
pub written-cons : (c : Change) (ws : List Change) (q : Key) → written q (c ∷ ws)
    ≡ cond (same_key c.key q) (Some c.value) (written q ws)
written-cons c ws q =
    elim (same_key c.key q) as (λ b. option_map (λ (x : Change). x.value) (cond b (Some c)
    (find (λ (x : Change). same_key x.key q) ws)) ≡ cond b (Some c.value) (written q ws)) [
      | true ↦ refl
      | false ↦ refl
    ]

key_written : (ws : List Change) (q : Key) → writes_key ws q ≡ true → Contains (keys_of ws) q
key_written [] q is = absurd cc
key_written (c ∷ ws) q is = by_test (same_key c.key q) refl (key_written ws q)
    (sym (ap is_some (written-cons c ws q)) ∙ is)
  where
    by_test : (b : Bool) → same_key c.key q ≡ b → (writes_key ws q ≡ true → Contains (keys_of ws) q)
        → is_some (cond b (Some c.value) (written q ws)) ≡ true → Contains (keys_of (c ∷ ws)) q
    by_test true same rest is = subst (λ (x : Key). Contains (keys_of (c ∷ ws)) x) (same_key-true c.key q same)
        (in_head c.key (keys_of ws))
    by_test false other rest is = in_tail q c.key (keys_of ws) (rest is)

written_key : (ws : List Change) (q : Key) → Contains (keys_of ws) q → writes_key ws q ≡ true
written_key [] q has = absurd (in_none q has)
written_key (c ∷ ws) q has = ap is_some (written-cons c ws q) ∙ by_test (same_key c.key q) refl (written_key ws q)
  where
    by_test : (b : Bool) → same_key c.key q ≡ b → (Contains (keys_of ws) q → writes_key ws q ≡ true)
        → is_some (cond b (Some c.value) (written q ws)) ≡ true
    by_test true same rest = refl
    by_test false other rest = elim (in_cases q c.key (keys_of ws) has) [
      | inl is ↦ absurd (true≢false (sym (subst (λ (x : Key). same_key c.key x ≡ true) is (same_key-self c.key))
          ∙ other))
      | inr later ↦ rest later
    ]

-- what holds of each item that a list has holds of all of them
pub each_in : {A : Type 0} (P : A → Type 0) (xs : List A) → ((x : A) → Contains xs x → P x) → AllByRecursion P xs
each_in P [] all = tt
each_in P (x ∷ xs) all = (all x (in_head x xs), each_in P xs (λ y has. all y (in_tail y x xs has)))

-- ---- what operations write, where the transaction ends well

-- The keys are written now, as are those that were; no others are.
record Wrote (own : List Change) (keys : List Key) (now : List Change) : Type 0 where
  pub new : (q : Key) → Contains keys q → writes_key now q ≡ true
  pub kept : (q : Key) → writes_key own q ≡ true → writes_key now q ≡ true
  pub only : (q : Key) → writes_key now q ≡ true → Contains keys q ⊎ (writes_key own q ≡ true)

wrote_none : (own : List Change) → Wrote own [] own
wrote_none own = record { new = λ q has. absurd (in_none q has); kept = λ q is. is; only = λ q is. inr is }

wrote_one : (own : List Change) (k : Key) (value : Option ℕ) (keys : List Key) (now : List Change)
    → Wrote (wrote k value own) keys now → Wrote own (k ∷ keys) now
wrote_one own k value keys now w = record {
  new = λ q has. elim (in_cases q k keys has) [
    | inl is ↦ w.kept q (put q (same_key k q) refl
        (inl (subst (λ (x : Key). same_key k x ≡ true) is (same_key-self k))))
    | inr later ↦ w.new q later
  ];
  kept = λ q is. w.kept q (put q (same_key k q) refl (inr is));
  only = λ q is. elim (w.only q is) [
    | inl there ↦ inl (in_tail q k keys there)
    | inr here ↦ back q (same_key k q) refl (sym (ap is_some (written-wrote k q value own)) ∙ here)
  ];
}
  where
    put : (q : Key) (b : Bool) → same_key k q ≡ b → (same_key k q ≡ true) ⊎ (writes_key own q ≡ true)
        → writes_key (wrote k value own) q ≡ true
    put q true same by = ap is_some (written-wrote k q value own ∙ cond-true (same_key k q) (Some value)
        (written q own) same)
    put q false other (inl same) = absurd (true≢false (sym same ∙ other))
    put q false other (inr old) =
        ap is_some (written-wrote k q value own ∙ cond-false (same_key k q) (Some value) (written q own) other) ∙ old

    back : (q : Key) (b : Bool) → same_key k q ≡ b → is_some (cond b (Some value) (written q own)) ≡ true
        → Contains (k ∷ keys) q ⊎ (writes_key own q ≡ true)
    back q true same is = inl (subst (λ (x : Key). Contains (k ∷ keys) x) (same_key-true k q same) (in_head k keys))
    back q false other is = inr is

-- the rest, over these writes and the state with them, writes the keys that its operations write
abbrev RestWrote : List Decl → List Part → State → List Op → Type 0
RestWrote decls parts first ops = (own : List Change) (w : State) (f : Finished)
    → Runs decls parts ops own f → IsOver first own w → f.verdict ≡ Done
    → Wrote own (written_from decls ops w) f.writes

wrote_on : (decls : List Decl) (parts : List Part) (first : State) (ops : List Op) (own : List Change) (w : State)
    (reply : Option Reply) (f : Finished)
    → RestWrote decls parts first ops → FinishesBy (Continues reply own) (Runs decls parts ops) f
    → IsOver first own w → f.verdict ≡ Done
    → Wrote own (written_from decls ops w) f.writes
wrote_on decls parts first ops own w reply f rest by over done =
    subst (λ (x : Finished). Wrote own (written_from decls ops w) x.writes) (sym by.2)
    (rest own w by.0 by.1 over (sym (ap (λ (x : Finished). x.verdict) by.2) ∙ done))

-- an addition or a subtraction, where the test says whether it goes on
sum_wrote : (decls : List Decl) (parts : List Part) (first : State) (ops : List Op) (own : List Change) (w : State)
    (k : Key) (fine : Bool) (n : ℕ) (verdict : Verdict) (f : Finished)
    → RestWrote decls parts first ops → FinishesBy (cond fine (Continues None (wrote k (Some n) own))
    (Stops verdict)) (Runs decls parts ops) f → IsOver first own w
    → (verdict ≡ Done → ⊥) → f.verdict ≡ Done
    → Wrote own (written_then (k ∷ []) (cond fine (Goes None (insert w k n)) (Ends verdict))
    (written_from decls ops)) f.writes
sum_wrote decls parts first ops own w k true n verdict f rest by over badly done =
    wrote_one own k (Some n) (written_from decls ops (insert w k n)) f.writes
    (wrote_on decls parts first ops (wrote k (Some n) own) (insert w k n) None f rest by
    (over_put first own w k n over) done)
sum_wrote decls parts first ops own w k false n verdict f rest by over badly done =
    absurd (badly (sym (ap (λ (x : Finished). x.verdict) by) ∙ done))

-- a removal, where this is there
removal_wrote : (decls : List Decl) (parts : List Part) (first : State) (ops : List Op) (own : List Change)
    (w : State) (k : Key) (value : Option ℕ) (f : Finished)
    → RestWrote decls parts first ops → FinishesBy (removed k value own) (Runs decls parts ops) f
    → IsOver first own w → get w k ≡ value → f.verdict ≡ Done
    → Wrote own (written_then (option_to_list (option_map (λ v. k) (get w k))) (Goes None (remove w k))
    (written_from decls ops)) f.writes
removal_wrote decls parts first ops own w k None f rest by over none done =
    subst (λ (o : Option ℕ). Wrote own (option_to_list (option_map (λ v. k) o) ++ written_from decls ops (remove w k))
    f.writes) (sym none)
    (wrote_on decls parts first ops own (remove w k) None f rest by (over_nothing first own w k over none) done)
removal_wrote decls parts first ops own w k (Some v) f rest by over there done =
    subst (λ (o : Option ℕ). Wrote own (option_to_list (option_map (λ v. k) o) ++ written_from decls ops (remove w k))
    f.writes) (sym there)
    (wrote_one own k None (written_from decls ops (remove w k)) f.writes
    (wrote_on decls parts first ops (wrote k None own) (remove w k) None f rest by
    (over_removed first own w k over) done))

-- each operation, and then the rest
operation_wrote : (decls : List Decl) (parts : List Part) (first : State) (op : Op) (ops : List Op)
    (own : List Change) (w : State) (turn : Turn) (f : Finished)
    → AreVouched decls parts first → RestWrote decls parts first ops → fits decls op ≡ true
    → Turns decls parts own op turn → FinishesBy turn (Runs decls parts ops) f
    → IsOver first own w → f.verdict ≡ Done
    → Wrote own (written_then (written_by w op) (move_of decls w op) (written_from decls ops)) f.writes
operation_wrote decls parts first (Read k) ops own w turn f vouch rest fit is by over done =
    wrote_on decls parts first ops own w (Some (reply_of (is_tree decls k.storage) is.0)) f rest
    (subst (λ t. FinishesBy t (Runs decls parts ops) f) is.2 by) over done
operation_wrote decls parts first (Write k v) ops own w turn f vouch rest fit is by over done =
    wrote_one own k (Some v) (written_from decls ops (insert w k v)) f.writes
    (wrote_on decls parts first ops (wrote k (Some v) own) (insert w k v) None f rest
    (subst (λ t. FinishesBy t (Runs decls parts ops) f) is by) (over_put first own w k v over) done)
operation_wrote decls parts first (Remove k) ops own w turn f vouch rest fit is by over done =
    removal_wrote decls parts first ops own w k is.0 f rest
    (subst (λ t. FinishesBy t (Runs decls parts ops) f) is.2 by) over
    (tree_same decls parts first own w k is.0 fit vouch over is.1) done
operation_wrote decls parts first (Add k v) ops own w turn f vouch rest fit is by over done =
    let same = same_amount (is_tree decls k.storage) (get w k) is.0
    (seen_same decls parts first own w k is.0 vouch over is.1) in
    let turn-is = is.2 ∙ ap (λ n. added k v n own) (sym same) in
    sum_wrote decls parts first ops own w k (nat_lt (amount_at w k + v) (2 ^ 64)) (amount_at w k + v) Over f rest
    (subst (λ t. FinishesBy t (Runs decls parts ops) f) turn-is by) over (λ e. cc) done
operation_wrote decls parts first (Take k v) ops own w turn f vouch rest fit is by over done =
    let same = same_amount (is_tree decls k.storage) (get w k) is.0
    (seen_same decls parts first own w k is.0 vouch over is.1) in
    let turn-is = is.2 ∙ ap (λ n. taken k v n own) (sym same) in
    sum_wrote decls parts first ops own w k (nat_le v (amount_at w k)) (amount_at w k - v) Short f rest
    (subst (λ t. FinishesBy t (Runs decls parts ops) f) turn-is by) over (λ e. cc) done
operation_wrote decls parts first (Scan storage low high) ops own w turn f vouch rest fit is by over done =
    wrote_on decls parts first ops own w (Some (Rows is.0)) f rest
    (subst (λ t. FinishesBy t (Runs decls parts ops) f) is.2 by) over done

runs_wrote : (decls : List Decl) (parts : List Part) (first : State) (ops : List Op) → AreVouched decls parts first
    → RestWrote decls parts first ops
runs_wrote decls parts first [] vouch = λ own w f is over done.
    subst (λ (x : Finished). Wrote own [] x.writes) (sym is) (wrote_none own)
runs_wrote decls parts first (op ∷ ops) vouch = λ own w f is over done.
    operation_wrote decls parts first op ops own w is.1.0 f vouch
    (runs_wrote decls parts first ops vouch) is.0 is.1.1 is.1.2 over done

-- a transaction that doesn't end well has no writes
none_kept : (decls : List Decl) (parts : List Part) (ops : List Op) (own : List Change) (f : Finished)
    → Runs decls parts ops own f
    → (f.verdict ≡ Done → ⊥) → f.writes ≡ []
none_kept decls parts [] own f is badly = absurd (badly (ap (λ (x : Finished). x.verdict) is))
none_kept decls parts (op ∷ ops) own f is badly = by_turn is.1.0 is.1.2
    (λ next g runs bad. none_kept decls parts ops next g runs bad)
  where
    by_turn : (turn : Turn) → FinishesBy turn (Runs decls parts ops) f
        → ((next : List Change) (g : Finished) → Runs decls parts ops next g → (g.verdict ≡ Done → ⊥) → g.writes ≡ [])
        → f.writes ≡ []
    by_turn (Continues reply next) by rest =
        ap (λ (x : Finished). x.writes) by.2 ∙ rest next by.0 by.1
        (λ done. badly (ap (λ (x : Finished). x.verdict) by.2 ∙ done))
    by_turn (Stops verdict) by rest = ap (λ (x : Finished). x.writes) by

-- ---- the write set

-- the writes are at just these keys
record AreAt (keys : List Key) (own : List Change) : Type 0 where
  pub all : (q : Key) → Contains keys q → writes_key own q ≡ true
  pub only : (q : Key) → writes_key own q ≡ true → Contains keys q

at_all : (keys : List Key) (own : List Change) → Wrote [] keys own → AreAt keys own
at_all keys own w = record {
  all = w.new;
  only = λ q is. elim (w.only q is) [ inl there ↦ there | inr none ↦ absurd (true≢false (sym none)) ];
}

at_none : (own : List Change) → own ≡ [] → AreAt [] own
at_none own none = record {
  all = λ q has. absurd (in_none q has);
  only = λ q is. absurd (true≢false (sym is ∙ ap (λ (l : List Change). writes_key l q) none));
}

-- the writes that a transaction keeps are at the keys of its write set
set_at : (decls : List Decl) (parts : List Part) (s : State) (ops : List Op) (f : Finished) → AreVouched decls parts s
    → Runs decls parts ops [] f → (v : Verdict) → f.verdict ≡ v → AreAt (kept_by v (written_from decls ops s)) f.writes
set_at decls parts s ops f vouch runs Done is =
    at_all (written_from decls ops s) f.writes (runs_wrote decls parts s ops vouch [] s f runs (λ k. refl) is)
set_at decls parts s ops f vouch runs Short is =
    at_none f.writes (none_kept decls parts ops [] f runs (λ done. cc))
set_at decls parts s ops f vouch runs Over is = at_none f.writes (none_kept decls parts ops [] f runs (λ done. cc))

-- an attempt writes the write set of its transaction
pub attempt_writes : AttemptWrites
attempt_writes decls s contents e a agrees reads is =
    let vouch : AreVouched decls a.parts s = λ k value there.
    agrees k ∙ ap (reply_of (is_tree decls k.storage)) (vouched_is contents a.parts k value reads there) in
    let steps = attempt_steps decls s contents e a agrees reads is in
    let at = set_at decls a.parts s e.ops (finished e.verdict e.replies is.own) vouch is.runs
    (step decls s e.ops).verdict steps.answers.verdict in
    let same : (q : Key) → writes_key a.writes q ≡ writes_key is.own q =
    λ q. ap is_some (is.writes q) in record {
      each = each_in (Contains (write_set decls s e.ops)) (keys_of a.writes)
          (λ q has. at.only q (sym (same q) ∙ written_key a.writes q has));
      all = λ q has. key_written a.writes q (same q ∙ at.all q has);
      values = λ counts. all_weaker (λ (c : Change). written c.key a.writes ≡ Some c.value)
          (λ (c : Change). c.value ≡ get (state_after decls s e) c.key)
          (λ c here. sym (steps.changes c.key ∙ ap (λ o. unwrap_or o (get s c.key)) here)) a.writes counts;
    }

-- ---- attempts behind others

-- each attempt of serial reads writes the write set of its transaction
pub write_along : (decls : List Decl) (s : State) (contents : Key → Content) (entries : List Entry)
    (attempts : List Attempt)
    → Agrees decls s contents → ReadsAlong contents attempts → AreAttemptsOf decls entries attempts
    → WriteAlong decls s entries attempts
write_along decls s contents [] [] agrees reads are = tt
write_along decls s contents [] (a ∷ attempts) agrees reads are = absurd are
write_along decls s contents (e ∷ entries) [] agrees reads are = absurd are
write_along decls s contents (e ∷ entries) (a ∷ attempts) agrees reads are = (
  attempt_writes decls s contents e a agrees reads.0 are.0,
  write_along decls (state_after decls s e) (λ k. after_writes k a (contents k)) entries attempts
      (attempt_steps decls s contents e a agrees reads.0 are.0).agrees reads.1 are.1,
)

reads_behind : (contents : Key → Content) (before attempts : List Attempt) → ReadsAlong contents (before ++ attempts)
    → ReadsAlong (after_attempts contents before) attempts
reads_behind contents [] attempts reads = reads
reads_behind contents (b ∷ before) attempts reads =
    reads_behind (λ k. after_writes k b (contents k)) before attempts reads.1

after_behind : (contents : Key → Content) (before attempts : List Attempt)
    → after_attempts contents (before ++ attempts) ≡ after_attempts (after_attempts contents before) attempts
after_behind contents [] attempts = refl
after_behind contents (b ∷ before) attempts = after_behind (λ k. after_writes k b (contents k)) before attempts

-- the number of the last of the attempts, or this one where there is none
abbrev last_number : Number → List Attempt → Number
last_number low [] = low
last_number low (a ∷ more) = last_number a.number more

rises_behind : (low : Number) (before attempts : List Attempt) → RisesFrom low (before ++ attempts)
    → RisesFrom (last_number low before) attempts
rises_behind low [] attempts rises = rises
rises_behind low (b ∷ before) attempts rises = rises_behind b.number before attempts rises.1

-- attempts behind others are a serial run of their transactions
pub runs_behind : RunsBehind
runs_behind decls s opening before attempts entries serial agrees are =
    let low = last_number (content_at opening (record { storage = 0; key = 0 })).number before in
    let rises = rises_behind (content_at opening (record { storage = 0; key = 0 })).number before attempts
    (serial.rising (record { storage = 0; key = 0 })) in
    let reads = reads_behind (content_at opening) before attempts serial.reads in
    let along = answers_along decls s
    (after_attempts (content_at opening) before) entries attempts agrees reads are in record {
      run = record {
        rising = in_order (λ x y. IsBelow x y) (λ x y b. b) decls low entries attempts rises are;
        epochs = in_order (λ x y. x.epoch ≤ y.epoch) epoch_low decls low entries attempts rises are;
        answers = along.0;
      };
      changes = along.1;
      leaves = subst (λ (c : Key → Content). Agrees decls (state_after_all decls s entries) c)
          (sym (after_behind (content_at opening) before attempts)) along.2;
    }

-- and each of them writes its write set
pub writes_behind : WritesBehind
writes_behind decls s opening before attempts entries serial agrees are =
    write_along decls s (after_attempts (content_at opening) before) entries attempts agrees
    (reads_behind (content_at opening) before attempts serial.reads) are

-- ---- in another order

at_pair : (decls : List Decl) (es : List Entry) (xs : List Attempt) (i : ℕ) (e : Entry) (a : Attempt)
    → AreAttemptsOf decls es xs → i < length xs → IsAttemptOf decls (get_or es i e) (get_or xs i a)
at_pair decls [] [] i e a are less = absurd (omega arith)
at_pair decls [] (x ∷ xs) i e a are less = absurd are
at_pair decls (f ∷ es) [] i e a are less = absurd are
at_pair decls (f ∷ es) (x ∷ xs) zero e a are less = are.0
at_pair decls (f ∷ es) (x ∷ xs) (suc i) e a are less = at_pair decls es xs i e a are.1 (omega arith)

set_pair : (decls : List Decl) (es : List Entry) (xs : List Attempt) (i : ℕ) (e : Entry) (a : Attempt)
    → AreAttemptsOf decls es xs → IsAttemptOf decls e a → AreAttemptsOf decls (set es i e) (set xs i a)
set_pair decls [] [] i e a are one = are
set_pair decls [] (x ∷ xs) i e a are one = absurd are
set_pair decls (f ∷ es) [] i e a are one = absurd are
set_pair decls (f ∷ es) (x ∷ xs) zero e a are one = (one, are.1)
set_pair decls (f ∷ es) (x ∷ xs) (suc i) e a are one = (are.0, set_pair decls es xs i e a are.1 one)

swap_pair : (decls : List Decl) (es : List Entry) (xs : List Attempt) (i j : ℕ) → AreAttemptsOf decls es xs
    → i < length xs → j < length xs → AreAttemptsOf decls (swap es i j) (swap xs i j)
swap_pair decls [] [] i j are p q = are
swap_pair decls [] (x ∷ xs) i j are p q = absurd are
swap_pair decls (f ∷ es) [] i j are p q = absurd are
swap_pair decls (f ∷ es) (x ∷ xs) i j are p q =
    set_pair decls (set (f ∷ es) i (get_or (f ∷ es) j f)) (set (x ∷ xs) i (get_or (x ∷ xs) j x)) j
    (get_or (f ∷ es) i f) (get_or (x ∷ xs) i x)
    (set_pair decls (f ∷ es) (x ∷ xs) i (get_or (f ∷ es) j f) (get_or (x ∷ xs) j x) are
    (at_pair decls (f ∷ es) (x ∷ xs) j f x are q))
    (at_pair decls (f ∷ es) (x ∷ xs) i f x are p)

pair_count : (decls : List Decl) (es : List Entry) (xs : List Attempt) → AreAttemptsOf decls es xs
    → length es ≡ length xs
pair_count decls [] [] are = refl
pair_count decls [] (x ∷ xs) are = absurd are
pair_count decls (f ∷ es) [] are = absurd are
pair_count decls (f ∷ es) (x ∷ xs) are = ap suc (pair_count decls es xs are.1)

-- Attempts in another order are those of the entries in that order.
pub attempts_permuted : (decls : List Decl) (es : List Entry) (xs ys : List Attempt) → AreAttemptsOf decls es xs
    → IsPermutation xs ys → (fs : List Entry) × IsPermutation es fs × AreAttemptsOf decls fs ys
attempts_permuted decls es xs ys are moved =
    IsPermutation-keeps xs (λ l. (fs : List Entry) × IsPermutation es fs × AreAttemptsOf decls fs l)
    (es, IsPermutation-refl es, are) (λ l i j p q h.
    let long : length h.0 ≡ length l = pair_count decls h.0 l h.2 in
    let same : length h.0 ≡ length es = length_permutation es h.0 h.1 in (
      swap h.0 i j,
      record {
        moves = (i, j) ∷ h.1.moves;
        below = (omega arith, omega arith, h.1.below);
        is = ap (λ (k : List Entry). swap k i j) h.1.is;
      },
      swap_pair decls h.0 l i j h.2 p q,
    )) ys moved
