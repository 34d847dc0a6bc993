-- The replies of a line take no more words than its operations may.
use Rattle.std.proofs.Common.{◌≡◌, ◌∙◌, ◌++◌, ◌+◌, ◌*◌, ◌-◌, ◌^◌, ◌≤◌, ◌∷◌, ap, refl, sym, subst, ℕ, List, []}
use Rattle.std.proofs.Common.{length, arith}
use Rattle.std.proofs.Common.{Option, Some, None, Bool, true, false, cond, length-append}
use Rattle.std.specs.Prelude.{nat_le, nat_lt, option_to_list, unwrap_or, if◌then◌else◌}
use Rattle.serial_model.specs.declared.decl.Decl.{Decl}
use Rattle.serial_model.specs.declared.key.Key.{Key}
use Rattle.serial_model.specs.declared.number.Change.{Change}
use Rattle.serial_model.specs.declared.op.Op.{Op}
use Rattle.serial_model.specs.declared.op.Op.TheVariants.{Read, Write, Remove, Add, Take, Scan}
use Rattle.serial_model.specs.declared.reply.Reply.{Reply}
use Rattle.serial_model.specs.declared.reply.Reply.TheVariants.{Absent, Rows, Value}
use Rattle.serial_model.specs.declared.reply.Verdict.{Verdict}
use Rattle.serial_model.specs.declared.reply.Verdict.TheVariants.{Over, Short}
use Rattle.serial_model.specs.Keys.{is_tree}
use Rattle.serial_model.specs.ReplyWords.{length-rows_words, replies_words, reply_words, rows_words}
use Rattle.serial_model.specs.Step.{reply_of}
use Rattle.commit_core.specs.declared.part.Part.{Part}
use Rattle.serial_bridge.specs.Transaction.{Continues, Finished, FinishesBy, Runs, Stops, Turn, Turns, removed, wrote}
use Rattle.tx_script.specs.Room.{most_words, words_for}
use Rattle.worker_cells.proofs.Scanned.{rows_few}

value_few : (v : ℕ) → length (reply_words (Value v)) ≤ 2
unfolding reply_words
value_few v = by_test (nat_lt v (2 ^ 64 - 3))
  where
    by_test : (b : Bool) → length (if b then (v + 3) ∷ [] else 0 ∷ v ∷ []) ≤ 2
    by_test true = omega arith
    by_test false = omega arith

absent_few : length (reply_words Absent) ≤ 2
unfolding reply_words
absent_few = omega arith

read_few : (kind : Bool) (value : Option ℕ) → length (reply_words (reply_of kind value)) ≤ 2
read_few kind (Some v) = value_few v
read_few true None = absent_few
read_few false None = value_few 0

scan_few : (rows : List (ℕ × ℕ)) → length rows ≤ 16 → length (reply_words (Rows rows)) ≤ 34
unfolding reply_words
scan_few rows few = omega (arith, few, length-rows_words rows)

-- it is a reply of so many words at most, or none
abbrev IsFew : ℕ → Option Reply → Type 0
IsFew most None = 0 ≤ most
IsFew most (Some reply) = length (reply_words reply) ≤ most

few_more : (reply : Option Reply) (replies : List Reply) (most rest : ℕ) → IsFew most reply
    → length (replies_words replies) ≤ rest
    → length (replies_words (option_to_list reply ++ replies)) ≤ most + rest
few_more None replies most rest one more = omega (arith, more)
few_more (Some reply) replies most rest one more =
    omega (arith, one, more, length-append (reply_words reply) (replies_words replies))

none_few : (most : ℕ) → IsFew most None
none_few most = omega arith

sum_few : (own : List Change) (fine : Bool) (verdict : Verdict) (reply : Option Reply) (now next : List Change)
    → cond fine (Continues None next) (Stops verdict) ≡ Continues reply now → IsFew 0 reply
sum_few own true verdict reply now next is = let none : None ≡ reply = cc in subst (IsFew 0) none (none_few 0)
sum_few own false verdict reply now next is = absurd cc

gone_few : (k : Key) (value : Option ℕ) (own : List Change) (reply : Option Reply) (now : List Change)
    → removed k value own ≡ Continues reply now → IsFew 0 reply
gone_few k (Some v) own reply now is = let none : None ≡ reply = cc in subst (IsFew 0) none (none_few 0)
gone_few k None own reply now is = let none : None ≡ reply = cc in subst (IsFew 0) none (none_few 0)

op_few : (decls : List Decl) (parts : List Part) (own : List Change) (op : Op) (turn : Turn) (reply : Option Reply)
    (now : List Change) → Turns decls parts own op turn → turn ≡ Continues reply now → IsFew (words_for op) reply
op_few decls parts own (Read k) turn reply now turns is =
    let same : Continues (Some (reply_of (is_tree decls k.storage) turns.0)) own ≡ Continues reply now =
    sym turns.2 ∙ is in
    let told : Some (reply_of (is_tree decls k.storage) turns.0) ≡ reply = cc in
    subst (IsFew 2) told (read_few (is_tree decls k.storage) turns.0)
op_few decls parts own (Write k v) turn reply now turns is =
    let same : Continues None (wrote k (Some v) own) ≡ Continues reply now = sym turns ∙ is in
    let none : None ≡ reply = cc in subst (IsFew 0) none (none_few 0)
op_few decls parts own (Remove k) turn reply now turns is =
    gone_few k turns.0 own reply now (sym turns.2 ∙ is)
op_few decls parts own (Add k v) turn reply now turns is =
    let before = unwrap_or turns.0 0 in
    sum_few own (nat_lt (before + v) (2 ^ 64)) Over reply now (wrote k (Some (before + v)) own) (sym turns.2 ∙ is)
op_few decls parts own (Take k v) turn reply now turns is =
    let before = unwrap_or turns.0 0 in
    sum_few own (nat_le v before) Short reply now (wrote k (Some (before - v)) own) (sym turns.2 ∙ is)
op_few decls parts own (Scan storage low high) turn reply now turns is =
    let same : Continues (Some (Rows turns.0)) own ≡ Continues reply now = sym turns.2 ∙ is in
    let told : Some (Rows turns.0) ≡ reply = cc in
    subst (IsFew 34) told (scan_few turns.0 (rows_few parts own storage low high turns.0 turns.1))

turn_few : (decls : List Decl) (parts : List Part) (ops : List Op) (most : ℕ) (turn : Turn) (f : Finished)
    → ((now : List Change) (g : Finished) → Runs decls parts ops now g
    → length (replies_words g.replies) ≤ most_words ops)
    → ((reply : Option Reply) (now : List Change) → turn ≡ Continues reply now → IsFew most reply)
    → FinishesBy turn (Runs decls parts ops) f → length (replies_words f.replies) ≤ most + most_words ops
turn_few decls parts ops most (Continues reply now) f rest few by =
    subst (λ (x : Finished). length (replies_words x.replies) ≤ most + most_words ops) (sym by.2)
    (few_more reply by.0.replies most (most_words ops) (few reply now refl) (rest now by.0 by.1))
turn_few decls parts ops most (Stops verdict) f rest few by =
    subst (λ (x : Finished). length (replies_words x.replies) ≤ most + most_words ops) (sym by) (omega arith)

pub runs_few : (decls : List Decl) (parts : List Part) (ops : List Op) (own : List Change) (f : Finished)
    → Runs decls parts ops own f → length (replies_words f.replies) ≤ most_words ops
runs_few decls parts [] own f runs =
    subst (λ (x : Finished). length (replies_words x.replies) ≤ 0) (sym runs) (omega arith)
runs_few decls parts (op ∷ ops) own f runs =
    turn_few decls parts ops (words_for op) runs.1.0 f (λ now g next. runs_few decls parts ops now g next)
    (λ reply now is. op_few decls parts own op runs.1.0 reply now runs.1.1 is) runs.1.2

-- 16 operations take 544 words at most
pub words_most : (ops : List Op) → length ops ≤ 16 → most_words ops ≤ 544
words_most ops few = let all = words_by ops in omega (arith, all, few)
  where
    one : (op : Op) → words_for op ≤ 34
    one (Read k) = omega arith
    one (Write k v) = omega arith
    one (Remove k) = omega arith
    one (Add k v) = omega arith
    one (Take k v) = omega arith
    one (Scan storage low high) = omega arith

    words_by : (ops : List Op) → most_words ops ≤ 34 * length ops
    words_by [] = omega arith
    words_by (op ∷ ops) = omega (arith, one op, words_by ops)
