-- The bridge itself, as laws that proofs above can cite.
use Rattle.std.proofs.Common.{◌≡◌, ℕ, ◌+◌, ◌-◌, ◌^◌, ◌≤◌, Bool, true, false, true≢false, cond, inl, inr, List, [], ◌∷◌, ◌++◌, refl, sym, ap, ◌∙◌, subst, arith, Option, Some, None}
use Rattle.std.specs.Prelude.{◌&&◌, nat_lt, nat_le, option_to_list, unwrap_or, Contains, find, filter, option_map}
use Rattle.std.specs.Option.{option_or, option_map_or}
use Rattle.std.specs.Cmp.{eq_by_cmp_equiv}
use Rattle.std.specs.Ordering.{eq_by_cmp}
use Rattle.std.specs.FinMap.{get, insert, remove, get-insert, get-remove}
use Rattle.std.proofs.lemmas.Bool.{cases_Bool, cond-true, cond-false, false_from_ne_true}
use Rattle.std.proofs.lemmas.Bool.Decides.{nat_tests}
use Rattle.serial_model.specs.declared.key.Key.{Key}
use Rattle.serial_model.specs.declared.number.Number.{Number}
use Rattle.serial_model.specs.declared.number.Change.{Change}
use Rattle.serial_model.specs.declared.decl.Decl.{Decl}
use Rattle.serial_model.specs.declared.op.Op.{Op}
use Rattle.serial_model.specs.declared.op.Op.TheVariants.{Read, Write, Remove, Add, Take, Scan}
use Rattle.serial_model.specs.declared.reply.Reply.{Reply}
use Rattle.serial_model.specs.declared.reply.Reply.TheVariants.{Rows}
use Rattle.serial_model.specs.declared.reply.Verdict.{Verdict}
use Rattle.serial_model.specs.declared.reply.Verdict.TheVariants.{Short, Over}
use Rattle.serial_model.specs.Keys.{key_cmp, is_tree, fits}
use Rattle.serial_model.specs.State.{State, amount_at, is_within, rows_of}
use Rattle.serial_model.specs.Step.{Goes, Ends, Ended, reply_of, move_of, after_move, step_from}
use Rattle.serial_model.specs.History.{Entry, Precedes, InOrder, AnswersAlong, state_after, state_after_all}
use Rattle.homes.specs.declared.places.Content.{Content}
use Rattle.commit_core.specs.declared.part.Part.{Part}
use Rattle.commit_core.specs.declared.attempt.Attempt.{Attempt}
use Rattle.serial_model.specs.Numbers.{IsBelow, below_then}
use Rattle.serial_model.specs.KeyOrder.{keys_total, same_by_test}
use Rattle.commit_core.specs.Keys.{same_key, IsUpTo, content_at, written}
use Rattle.commit_core.specs.Parts.{found, IsSameOrAbsent, Vouches}
use Rattle.commit_core.specs.Lemmas.Keys.{same_key-self, same_key-true}
use Rattle.commit_core.specs.CoreState.{is_decided}
use Rattle.commit_core.specs.Serial.{after_writes, after_all, committed, ReadsAlong, RisesFrom}
use Rattle.commit_core.specs.Law.{SoundIsSerial}
use Rattle.serial_bridge.specs.Transaction.{Vouched, Sees, IsScanned, wrote, Turn, Continues, Stops, added, removed, taken, Turns, Finished, finished, FinishesBy, Runs, AreAttemptsOf}
use Rattle.serial_bridge.specs.Bridge.{Agrees, AttemptsStep, after_attempts, last_written, SerialReadsRun, up_to_epoch, EpochsRun, SoundStoryRuns}

-- ---- keys

-- the map's test of keys is that of equal keys
key_test : (q k : Key) → eq_by_cmp key_cmp q k ≡ same_key k q
key_test q k =
    elim (cases_Bool (same_key k q)) [
      | inl hit ↦ subst (λ (x : Key). eq_by_cmp key_cmp q x ≡ true) (sym (same_key-true k q hit)) ((eq_by_cmp_equiv keys_total).refl q) ∙ sym hit
      | inr miss ↦ false_from_ne_true (eq_by_cmp key_cmp q k) (λ h.
          true≢false (sym (subst (λ (x : Key). same_key k x ≡ true) (sym (same_by_test q k h)) (same_key-self k)) ∙ miss))
          ∙ sym miss
    ]

-- ---- values

-- what replies the same to a read is the same amount, and in a tree the same value or absence
pub same_amount : (kind : Bool) (a b : Option ℕ) → reply_of kind a ≡ reply_of kind b → unwrap_or a 0 ≡ unwrap_or b 0
same_amount kind (Some x) (Some y) e = cc
same_amount true (Some x) None e = cc
same_amount true None (Some y) e = cc
same_amount true None None e = refl
same_amount false (Some x) None e = cc
same_amount false None (Some y) e = cc
same_amount false None None e = refl

same_in_tree : (a b : Option ℕ) → reply_of true a ≡ reply_of true b → a ≡ b
same_in_tree (Some x) (Some y) e = cc
same_in_tree (Some x) None e = cc
same_in_tree None (Some y) e = cc
same_in_tree None None e = refl

-- ---- what a transaction sees

-- the state has at each key what was written there, else what the first state has
abbrev pub IsOver : State → List Change → State → Type 0
IsOver first own w = (k : Key) → get w k ≡ unwrap_or (written k own) (get first k)

-- a read of a key that a part has replies the same from the state
abbrev pub AreVouched : List Decl → List Part → State → Type 0
AreVouched decls parts s = (k : Key) (value : Option ℕ) → Vouched parts k value
    → reply_of (is_tree decls k.storage) (get s k) ≡ reply_of (is_tree decls k.storage) value

-- a read of a key that is seen replies the same from the state with the writes
pub seen_same : (decls : List Decl) (parts : List Part) (first : State) (own : List Change) (w : State) (k : Key) (value : Option ℕ)
    → AreVouched decls parts first → IsOver first own w → Sees parts own k value
    → reply_of (is_tree decls k.storage) (get w k) ≡ reply_of (is_tree decls k.storage) value
seen_same decls parts first own w k value vouch over (inl wrote-last) =
    ap (reply_of (is_tree decls k.storage)) (over k ∙ ap (λ o. unwrap_or o (get first k)) wrote-last)
seen_same decls parts first own w k value vouch over (inr read) =
    ap (reply_of (is_tree decls k.storage)) (over k ∙ ap (λ o. unwrap_or o (get first k)) read.0) ∙ vouch k value read.1

-- ---- one write more

-- what is written at a key once one write more is made
pub written-wrote : (k q : Key) (value : Option ℕ) (own : List Change) → written q (wrote k value own) ≡ cond (same_key k q) (Some value) (written q own)
written-wrote k q value own =
    elim (same_key k q) as (λ b. option_map (λ (c : Change). c.value) (cond b (Some (record { key = k; value = value })) (find (λ (c : Change). same_key c.key q) own)) ≡ cond b (Some value) (written q own)) [
      | true ↦ refl
      | false ↦ refl
    ]

-- one value more is put, or taken out
pub over_put : (first : State) (own : List Change) (w : State) (k : Key) (v : ℕ) → IsOver first own w → IsOver first (wrote k (Some v) own) (insert w k v)
over_put first own w k v over = λ q.
    get-insert keys_total w k v q ∙ ap (λ b. cond b (Some v) (get w q)) (key_test q k) ∙ by_test q (same_key k q)
    ∙ ap (λ o. unwrap_or o (get first q)) (sym (written-wrote k q (Some v) own))
  where
    by_test : (q : Key) (b : Bool) → cond b (Some v) (get w q) ≡ unwrap_or (cond b (Some (Some v)) (written q own)) (get first q)
    by_test q true = refl
    by_test q false = over q

-- a state over its own changes stays so where a key is removed
pub over_removed : (first : State) (own : List Change) (w : State) (k : Key) → IsOver first own w → IsOver first (wrote k None own) (remove w k)
over_removed first own w k over = λ q.
    get-remove keys_total w k q ∙ ap (λ b. cond b None (get w q)) (key_test q k) ∙ by_test q (same_key k q)
    ∙ ap (λ o. unwrap_or o (get first q)) (sym (written-wrote k q None own))
  where
    by_test : (q : Key) (b : Bool) → cond b None (get w q) ≡ unwrap_or (cond b (Some None) (written q own)) (get first q)
    by_test q true = refl
    by_test q false = over q

-- nothing is taken out where nothing is there
pub over_nothing : (first : State) (own : List Change) (w : State) (k : Key) → IsOver first own w → get w k ≡ None → IsOver first own (remove w k)
over_nothing first own w k over none = λ q.
    get-remove keys_total w k q ∙ by_test q (eq_by_cmp key_cmp q k) refl ∙ over q
  where
    by_test : (q : Key) (b : Bool) → eq_by_cmp key_cmp q k ≡ b → cond b None (get w q) ≡ get w q
    by_test q true same = sym (ap (get w) (same_by_test q k same) ∙ none)
    by_test q false other = refl

-- what is seen at a key of a tree is there
pub tree_same : (decls : List Decl) (parts : List Part) (first : State) (own : List Change) (w : State) (k : Key) (value : Option ℕ)
    → is_tree decls k.storage ≡ true → AreVouched decls parts first → IsOver first own w → Sees parts own k value → get w k ≡ value
tree_same decls parts first own w k value tree vouch over sees =
    same_in_tree (get w k) value
    (subst (λ t. reply_of t (get w k) ≡ reply_of t value) tree (seen_same decls parts first own w k value vouch over sees))

-- ---- the operations

-- the serial step ends as the transaction does
pub record EndsAs (first : State) (e : Ended) (f : Finished) : Type 0 where
  pub verdict : e.verdict ≡ f.verdict
  pub replies : e.replies ≡ f.replies
  pub state : IsOver first f.writes e.state

-- how the rest ends, over these writes and the state with them
abbrev pub RestEnds : List Decl → List Part → State → List Op → Type 0
RestEnds decls parts first ops = (own : List Change) (w : State) (f : Finished)
    → Runs decls parts ops own f → IsOver first own w → EndsAs first (step_from decls first ops w) f

-- one operation that goes on, and then the rest
goes_on : (decls : List Decl) (parts : List Part) (first : State) (ops : List Op) (own : List Change) (w : State) (reply : Option Reply) (f : Finished)
    → RestEnds decls parts first ops → FinishesBy (Continues reply own) (Runs decls parts ops) f → IsOver first own w
    → EndsAs first (after_move first (Goes reply w) (step_from decls first ops)) f
goes_on decls parts first ops own w reply f rest by over =
    let ends = rest own w by.0 by.1 over in record {
      verdict = ends.verdict ∙ ap (λ (x : Finished). x.verdict) (sym by.2);
      replies = ap (λ l. option_to_list reply ++ l) ends.replies ∙ ap (λ (x : Finished). x.replies) (sym by.2);
      state = subst (λ (x : Finished). IsOver first x.writes (step_from decls first ops w).state) (sym by.2) ends.state;
    }

-- an addition or a subtraction, where the test says whether it goes on
sum_ends : (decls : List Decl) (parts : List Part) (first : State) (ops : List Op) (own : List Change) (w : State) (k : Key) (fine : Bool) (n : ℕ) (verdict : Verdict) (f : Finished)
    → RestEnds decls parts first ops → FinishesBy (cond fine (Continues None (wrote k (Some n) own)) (Stops verdict)) (Runs decls parts ops) f → IsOver first own w
    → EndsAs first (after_move first (cond fine (Goes None (insert w k n)) (Ends verdict)) (step_from decls first ops)) f
sum_ends decls parts first ops own w k true n verdict f rest by over =
    goes_on decls parts first ops (wrote k (Some n) own) (insert w k n) None f rest by (over_put first own w k n over)
sum_ends decls parts first ops own w k false n verdict f rest by over = record {
  verdict = ap (λ (x : Finished). x.verdict) (sym by);
  replies = ap (λ (x : Finished). x.replies) (sym by);
  state = subst (λ (x : Finished). IsOver first x.writes first) (sym by) (λ q. refl);
}

-- a removal, where this is there
removal_ends : (decls : List Decl) (parts : List Part) (first : State) (ops : List Op) (own : List Change) (w : State) (k : Key) (value : Option ℕ) (f : Finished)
    → RestEnds decls parts first ops → FinishesBy (removed k value own) (Runs decls parts ops) f → IsOver first own w → get w k ≡ value
    → EndsAs first (after_move first (Goes None (remove w k)) (step_from decls first ops)) f
removal_ends decls parts first ops own w k None f rest by over none =
    goes_on decls parts first ops own (remove w k) None f rest by (over_nothing first own w k over none)
removal_ends decls parts first ops own w k (Some v) f rest by over there =
    goes_on decls parts first ops (wrote k None own) (remove w k) None f rest by (over_removed first own w k over)

-- each operation, and then the rest
operation_ends : (decls : List Decl) (parts : List Part) (first : State) (op : Op) (ops : List Op) (own : List Change) (w : State) (turn : Turn) (f : Finished)
    → AreVouched decls parts first → RestEnds decls parts first ops → fits decls op ≡ true → Turns decls parts own op turn → FinishesBy turn (Runs decls parts ops) f → IsOver first own w
    → EndsAs first (after_move first (move_of decls w op) (step_from decls first ops)) f
operation_ends decls parts first (Read k) ops own w turn f vouch rest fit is by over =
    let same = seen_same decls parts first own w k is.0 vouch over is.1 in
    let turn-is = is.2 ∙ ap (λ r. Continues (Some r) own) (sym same) in
    goes_on decls parts first ops own w (Some (reply_of (is_tree decls k.storage) (get w k))) f rest (subst (λ t. FinishesBy t (Runs decls parts ops) f) turn-is by) over
operation_ends decls parts first (Write k v) ops own w turn f vouch rest fit is by over =
    goes_on decls parts first ops (wrote k (Some v) own) (insert w k v) None f rest (subst (λ t. FinishesBy t (Runs decls parts ops) f) is by) (over_put first own w k v over)
operation_ends decls parts first (Remove k) ops own w turn f vouch rest fit is by over =
    let same = tree_same decls parts first own w k is.0 fit vouch over is.1 in
    removal_ends decls parts first ops own w k is.0 f rest (subst (λ t. FinishesBy t (Runs decls parts ops) f) is.2 by) over same
operation_ends decls parts first (Add k v) ops own w turn f vouch rest fit is by over =
    let same = same_amount (is_tree decls k.storage) (get w k) is.0 (seen_same decls parts first own w k is.0 vouch over is.1) in
    let turn-is = is.2 ∙ ap (λ n. added k v n own) (sym same) in
    sum_ends decls parts first ops own w k (nat_lt (amount_at w k + v) (2 ^ 64)) (amount_at w k + v) Over f rest (subst (λ t. FinishesBy t (Runs decls parts ops) f) turn-is by) over
operation_ends decls parts first (Take k v) ops own w turn f vouch rest fit is by over =
    let same = same_amount (is_tree decls k.storage) (get w k) is.0 (seen_same decls parts first own w k is.0 vouch over is.1) in
    let turn-is = is.2 ∙ ap (λ n. taken k v n own) (sym same) in
    sum_ends decls parts first ops own w k (nat_le v (amount_at w k)) (amount_at w k - v) Short f rest (subst (λ t. FinishesBy t (Runs decls parts ops) f) turn-is by) over
operation_ends decls parts first (Scan storage low high) ops own w turn f vouch rest fit is by over =
    let rows-is = is.1.given w (λ k looked. scanned k looked) in
    let turn-is = is.2 ∙ ap (λ r. Continues (Some (Rows r)) own) rows-is in
    goes_on decls parts first ops own w (Some (Rows (rows_of w storage low high))) f rest (subst (λ t. FinishesBy t (Runs decls parts ops) f) turn-is by) over
  where
    in_storage : (k : Key) → is_within storage low high k ≡ true → k.storage ≡ storage
    in_storage k inside = grind (arith, nat_tests)

    scanned : (k : Key) → IsScanned storage low high is.0 k → get w k ≡ is.1.value_at k
    scanned k looked =
        let tree : is_tree decls k.storage ≡ true = ap (is_tree decls) (in_storage k looked.within) ∙ fit in
        same_in_tree (get w k) (is.1.value_at k)
        (subst (λ t. reply_of t (get w k) ≡ reply_of t (is.1.value_at k)) tree
        (seen_same decls parts first own w k (is.1.value_at k) vouch over (is.1.covered k looked)))

-- the operations over what is seen end as the serial step does over the state
pub runs_end : (decls : List Decl) (parts : List Part) (first : State) (ops : List Op) → AreVouched decls parts first → RestEnds decls parts first ops
runs_end decls parts first [] vouch = λ own w f is over. record {
  verdict = ap (λ (x : Finished). x.verdict) (sym is);
  replies = ap (λ (x : Finished). x.replies) (sym is);
  state = subst (λ (x : Finished). IsOver first x.writes w) (sym is) over;
}
runs_end decls parts first (op ∷ ops) vouch = λ own w f is over.
    operation_ends decls parts first op ops own w is.1.0 f vouch (runs_end decls parts first ops vouch) is.0 is.1.1 is.1.2 over

-- ---- an attempt

-- the same content, or an absence in both, is the same value
same_value : (c d : Content) → IsSameOrAbsent c d → d.value ≡ c.value
same_value c d (inl same) = ap (λ (x : Content). x.value) (sym same)
same_value c d (inr absent) = absent.1 ∙ sym absent.0

-- a part that covers a key has the contents' value there
pub vouched_is : (contents : Key → Content) (parts : List Part) (k : Key) (value : Option ℕ) → ((part : Part) → Contains parts part → Vouches contents part)
    → Vouched parts k value → (contents k).value ≡ value
vouched_is contents parts k value reads v = same_value (found v.part k) (contents k) (reads v.part v.among k v.over) ∙ v.has

-- the value after an attempt's writes
after_writes-value : (k : Key) (a : Attempt) (c : Content) → (after_writes k a c).value ≡ unwrap_or (written k a.writes) c.value
after_writes-value k a c = by_written (written k a.writes)
  where
    by_written : (o : Option (Option ℕ)) → (option_map_or (λ v. record { number = a.number; value = v }) o c).value ≡ unwrap_or o c.value
    by_written None = refl
    by_written (Some v) = refl

-- an attempt that read what the contents have steps as its transaction on a state that agrees with them
pub attempt_steps : AttemptsStep
attempt_steps decls s contents e a agrees reads is =
    let vouch : AreVouched decls a.parts s = λ k value there.
    agrees k ∙ ap (reply_of (is_tree decls k.storage)) (vouched_is contents a.parts k value reads there) in
    let ends = runs_end decls a.parts s e.ops vouch [] s (finished e.verdict e.replies is.own) is.runs (λ k. refl) in
    let changes : (k : Key) → get (state_after decls s e) k ≡ unwrap_or (written k a.writes) (get s k) = λ k. ends.state k ∙ ap (λ o. unwrap_or o (get s k)) (sym (is.writes k)) in record {
      answers = record { verdict = sym ends.verdict; replies = sym ends.replies };
      changes = changes;
      agrees = λ k. ap (reply_of (is_tree decls k.storage)) (changes k) ∙ by_written k (written k a.writes)
          ∙ ap (reply_of (is_tree decls k.storage)) (sym (after_writes-value k a (contents k)));
    }
  where
    by_written : (k : Key) (o : Option (Option ℕ)) → reply_of (is_tree decls k.storage) (unwrap_or o (get s k)) ≡ reply_of (is_tree decls k.storage) (unwrap_or o (contents k).value)
    by_written k None = agrees k
    by_written k (Some v) = refl

-- ---- lists of attempts

-- epochs never fall
pub epoch_low : (a b : Number) → IsBelow a b → a.epoch ≤ b.epoch
epoch_low a b (inl later) = omega arith
epoch_low a b (inr same) = let epoch = same.0 in omega arith

-- what holds of numbers in order holds of an entry to all later ones
precedes : (R : Number → Number → Type 0) → ((x y : Number) → IsBelow x y → R x y) → (decls : List Decl) (e : Entry) (low : Number) (entries : List Entry) (attempts : List Attempt)
    → IsUpTo e.number low → RisesFrom low attempts → AreAttemptsOf decls entries attempts → Precedes (λ x y. R x.number y.number) e entries
precedes R imply decls e low [] [] up rises are = tt
precedes R imply decls e low [] (a ∷ attempts) up rises are = absurd are
precedes R imply decls e low (f ∷ entries) [] up rises are = absurd are
precedes R imply decls e low (f ∷ entries) (a ∷ attempts) up rises are =
    let above : IsBelow e.number a.number = after e.number low a.number up rises.0 in (
      imply e.number f.number (subst (λ (n : Number). IsBelow e.number n) (sym are.0.number) above),
      precedes R imply decls e a.number entries attempts (inr above) rises.1 are.1,
    )
  where
    after : (x y z : Number) → IsUpTo x y → IsBelow y z → IsBelow x z
    after x y z (inl same) b = subst (λ (n : Number). IsBelow n z) (sym same) b
    after x y z (inr a) b = below_then x y z a b

-- what holds of numbers in order holds of the entries in their order
pub in_order : (R : Number → Number → Type 0) → ((x y : Number) → IsBelow x y → R x y) → (decls : List Decl) (low : Number) (entries : List Entry) (attempts : List Attempt)
    → RisesFrom low attempts → AreAttemptsOf decls entries attempts → InOrder (λ x y. R x.number y.number) entries
in_order R imply decls low [] [] rises are = tt
in_order R imply decls low [] (a ∷ attempts) rises are = absurd are
in_order R imply decls low (e ∷ entries) [] rises are = absurd are
in_order R imply decls low (e ∷ entries) (a ∷ attempts) rises are = (
  precedes R imply decls e a.number entries attempts (inl are.0.number) rises.1 are.1,
  in_order R imply decls a.number entries attempts rises.1 are.1,
)

-- each transaction's answers are those on the state which the ones before it leave
pub answers_along : (decls : List Decl) (s : State) (contents : Key → Content) (entries : List Entry) (attempts : List Attempt)
    → Agrees decls s contents → ReadsAlong contents attempts → AreAttemptsOf decls entries attempts
    → AnswersAlong decls entries s
    × ((k : Key) → get (state_after_all decls s entries) k ≡ unwrap_or (last_written attempts k) (get s k))
    × Agrees decls (state_after_all decls s entries) (after_attempts contents attempts)
answers_along decls s contents [] [] agrees reads are = (tt, λ k. refl, agrees)
answers_along decls s contents [] (a ∷ attempts) agrees reads are = absurd are
answers_along decls s contents (e ∷ entries) [] agrees reads are = absurd are
answers_along decls s contents (e ∷ entries) (a ∷ attempts) agrees reads are =
    let steps = attempt_steps decls s contents e a agrees reads.0 are.0 in
    let rest = answers_along decls (state_after decls s e) (λ k. after_writes k a (contents k)) entries attempts steps.agrees reads.1 are.1 in
    ((steps.answers, rest.0), λ k. rest.1 k ∙ ap (unwrap_or (last_written attempts k)) (steps.changes k) ∙ earlier (last_written attempts k) (written k a.writes) (get s k), rest.2)
  where
    earlier : (late early : Option (Option ℕ)) (value : Option ℕ) → unwrap_or late (unwrap_or early value) ≡ unwrap_or (option_or late early) value
    earlier None early value = refl
    earlier (Some v) early value = refl

-- attempts whose reads are serial, each of its transaction, are a serial run of these transactions
pub serial_reads_run : SerialReadsRun
serial_reads_run decls s opening entries attempts agrees serial are =
    let low = (content_at opening (record { storage = 0; key = 0 })).number in
    let rises = serial.rising (record { storage = 0; key = 0 }) in
    let along = answers_along decls s (content_at opening) entries attempts agrees serial.reads are in record {
      run = record {
        rising = in_order (λ x y. IsBelow x y) (λ x y b. b) decls low entries attempts rises are;
        epochs = in_order (λ x y. x.epoch ≤ y.epoch) epoch_low decls low entries attempts rises are;
        answers = along.0;
      };
      changes = along.1;
      leaves = along.2;
    }

-- ---- up to an epoch

-- behind an attempt of a later epoch there is none up to this one
none_up_to : (epoch : ℕ) (low : Number) (attempts : List Attempt) → RisesFrom low attempts → nat_le low.epoch epoch ≡ false → up_to_epoch epoch attempts ≡ []
none_up_to epoch low [] rises later = refl
none_up_to epoch low (a ∷ attempts) rises later =
    let out : nat_le a.number.epoch epoch ≡ false = still_later low.epoch a.number.epoch (epoch_low low a.number rises.0) later in
    cond-false (nat_le a.number.epoch epoch) (a ∷ up_to_epoch epoch attempts) (up_to_epoch epoch attempts) out ∙ none_up_to epoch a.number attempts rises.1 out
  where
    still_later : (x y : ℕ) → x ≤ y → nat_le x epoch ≡ false → nat_le y epoch ≡ false
    still_later x y up e = grind (arith, nat_tests)

rises_up_to : (epoch : ℕ) (low : Number) (attempts : List Attempt) → RisesFrom low attempts → RisesFrom low (up_to_epoch epoch attempts)
rises_up_to epoch low [] rises = tt
rises_up_to epoch low (a ∷ attempts) rises =
    elim (cases_Bool (nat_le a.number.epoch epoch)) [
      | inl hit ↦ subst (λ (l : List Attempt). RisesFrom low l) (sym (cond-true (nat_le a.number.epoch epoch) (a ∷ up_to_epoch epoch attempts) (up_to_epoch epoch attempts) hit))
          (rises.0, rises_up_to epoch a.number attempts rises.1)
      | inr miss ↦ subst (λ (l : List Attempt). RisesFrom low l) (sym (cond-false (nat_le a.number.epoch epoch) (a ∷ up_to_epoch epoch attempts) (up_to_epoch epoch attempts) miss
          ∙ none_up_to epoch a.number attempts rises.1 miss)) tt
    ]

reads_up_to : (epoch : ℕ) (low : Number) (contents : Key → Content) (attempts : List Attempt) → RisesFrom low attempts → ReadsAlong contents attempts → ReadsAlong contents (up_to_epoch epoch attempts)
reads_up_to epoch low contents [] rises reads = tt
reads_up_to epoch low contents (a ∷ attempts) rises reads =
    elim (cases_Bool (nat_le a.number.epoch epoch)) [
      | inl hit ↦ subst (λ (l : List Attempt). ReadsAlong contents l) (sym (cond-true (nat_le a.number.epoch epoch) (a ∷ up_to_epoch epoch attempts) (up_to_epoch epoch attempts) hit))
          (reads.0, reads_up_to epoch a.number (λ k. after_writes k a (contents k)) attempts rises.1 reads.1)
      | inr miss ↦ subst (λ (l : List Attempt). ReadsAlong contents l) (sym (cond-false (nat_le a.number.epoch epoch) (a ∷ up_to_epoch epoch attempts) (up_to_epoch epoch attempts) miss
          ∙ none_up_to epoch a.number attempts rises.1 miss)) tt
    ]

attempts_up_to : (decls : List Decl) (epoch : ℕ) (entries : List Entry) (attempts : List Attempt) → AreAttemptsOf decls entries attempts
    → AreAttemptsOf decls (filter (λ e. nat_le e.number.epoch epoch) entries) (up_to_epoch epoch attempts)
attempts_up_to decls epoch [] [] are = tt
attempts_up_to decls epoch [] (a ∷ attempts) are = absurd are
attempts_up_to decls epoch (e ∷ entries) [] are = absurd are
attempts_up_to decls epoch (e ∷ entries) (a ∷ attempts) are =
    both (nat_le e.number.epoch epoch) (nat_le a.number.epoch epoch) (ap (λ (n : Number). nat_le n.epoch epoch) are.0.number)
    (filter (λ x. nat_le x.number.epoch epoch) entries) (up_to_epoch epoch attempts) (attempts_up_to decls epoch entries attempts are.1)
  where
    both : (x y : Bool) → x ≡ y → (fs : List Entry) (bs : List Attempt) → AreAttemptsOf decls fs bs → AreAttemptsOf decls (cond x (e ∷ fs) fs) (cond y (a ∷ bs) bs)
    both true true same fs bs rest = (are.0, rest)
    both true false same fs bs rest = absurd (true≢false same)
    both false true same fs bs rest = absurd (true≢false (sym same))
    both false false same fs bs rest = rest

-- the attempts up to an epoch are a run of their own
pub epochs_run : EpochsRun
epochs_run decls s opening entries attempts agrees serial are epoch =
    let rises = serial.rising (record { storage = 0; key = 0 }) in
    (serial_reads_run decls s opening (filter (λ e. nat_le e.number.epoch epoch) entries) (up_to_epoch epoch attempts) agrees
    (record {
      rising = λ k. rises_up_to epoch (content_at opening k).number attempts (serial.rising k);
      reads = reads_up_to epoch (content_at opening (record { storage = 0; key = 0 })).number (content_at opening) attempts rises serial.reads;
    })
    (attempts_up_to decls epoch entries attempts are)).changes

-- ---- the whole story

and_true : (x : Bool) → (x && true) ≡ x
and_true true = refl
and_true false = refl

-- one attempt more, which is decided or not
one_leaves : (decided : List Number) (k : Key) (a : Attempt) (h : List Attempt) (c : Key → Content)
    → ((d : Key → Content) → after_attempts d (filter (λ x. is_decided decided x.number) h) k ≡ after_all (λ x. is_decided decided x.number && true) k h (d k))
    → (b : Bool) → is_decided decided a.number ≡ b
    → after_attempts c (cond b (a ∷ filter (λ x. is_decided decided x.number) h) (filter (λ x. is_decided decided x.number) h)) k
    ≡ after_all (λ x. is_decided decided x.number && true) k h (cond (is_decided decided a.number && true) (after_writes k a (c k)) (c k))
one_leaves decided k a h c rest true e =
    rest (λ q. after_writes q a (c q)) ∙ ap (λ t. after_all (λ x. is_decided decided x.number && true) k h (cond t (after_writes k a (c k)) (c k))) (sym (and_true (is_decided decided a.number) ∙ e))
one_leaves decided k a h c rest false e =
    rest c ∙ ap (λ t. after_all (λ x. is_decided decided x.number && true) k h (cond t (after_writes k a (c k)) (c k))) (sym (and_true (is_decided decided a.number) ∙ e))

-- what the decided attempts leave, one after another, is each key's last decided write
decided_leave : (decided : List Number) (k : Key) (h : List Attempt) (c : Key → Content)
    → after_attempts c (filter (λ x. is_decided decided x.number) h) k ≡ after_all (λ x. is_decided decided x.number && true) k h (c k)
decided_leave decided k [] c = refl
decided_leave decided k (a ∷ h) c = one_leaves decided k a h c (λ d. decided_leave decided k h d) (is_decided decided a.number) refl

-- the decided attempts of a sound story are a serial run of their transactions
pub story_runs : SoundIsSerial → SoundStoryRuns
story_runs law decls s opening m entries sound agrees are =
    let runs = serial_reads_run decls s opening entries (committed m) agrees (law opening m sound).run are in record {
      run = runs.run;
      changes = runs.changes;
      leaves = λ k. runs.leaves k ∙ ap (λ (c : Content). reply_of (is_tree decls k.storage) c.value) (decided_leave m.decided k m.history (content_at opening));
    }
