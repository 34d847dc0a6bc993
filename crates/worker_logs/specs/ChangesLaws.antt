-- What is known of what a transaction writes, as a law for those above.
use Rattle.std.proofs.Common.{◌≡◌, ℕ, ◌+◌, ◌-◌, ◌^◌, Bool, true, false, ◌⊎◌, inl, inr, List, [], ◌∷◌, ◌++◌}
use Rattle.std.proofs.Common.{append_assoc, refl, sym, ap, ◌∙◌, subst, Option, Some, None}
use Rattle.std.specs.Prelude.{cond, nat_lt, nat_le, option_to_list}
use Rattle.std.specs.Option.{option_map}
use Rattle.std.specs.Ordering.{eq_by_cmp}
use Rattle.std.specs.FinMap.{get, insert, remove, get-insert, get-remove}
use Rattle.std.specs.List.{Contains}
use Rattle.std.proofs.lemmas.Bool.{cases_Bool}
use Rattle.std.proofs.lemmas.List.Elements.{Contains-append_left, Contains-push}
use Rattle.serial_model.specs.Keys.{key_cmp}
use Rattle.serial_model.specs.State.{State, amount_at}
use Rattle.serial_model.specs.Step.{Move, Goes, Ends, move_of, after_move, step, step_from}
use Rattle.serial_model.specs.declared.decl.Decl.{Decl}
use Rattle.serial_model.specs.declared.key.Key.{Key}
use Rattle.serial_model.specs.declared.op.Op.{Op}
use Rattle.serial_model.specs.declared.op.Op.TheVariants.{Read, Write, Remove, Add, Take, Scan}
use Rattle.serial_model.specs.declared.reply.Reply.{Reply}
use Rattle.serial_model.specs.declared.reply.Verdict.{Verdict}
use Rattle.serial_model.specs.declared.reply.Verdict.TheVariants.{Done, Short, Over}
use Rattle.serial_model.specs.KeyOrder.{keys_total, same_by_test}
use Rattle.worker_logs.specs.Changes.{written_by, written_then, written_from, kept_by, write_set}

-- ---- what the operations before have written

-- Since the state s only these keys were written: each other one has what it had.
abbrev pub WroteOnly : State → State → List Key → Type 0
WroteOnly s t written = (q : Key) → Contains written q ⊎ (get t q ≡ get s q)

only_more : (s t : State) (w keys : List Key) → WroteOnly s t w → WroteOnly s t (w ++ keys)
only_more s t w keys only q = elim (only q) [
  | inl in_w ↦ inl (Contains-append_left w keys q in_w)
  | inr same ↦ inr same
]

only_put : (s t : State) (w : List Key) (k : Key) (v : ℕ) → WroteOnly s t w → WroteOnly s (insert t k v) (w ++ k ∷ [])
only_put s t w k v only q = elim (cases_Bool (eq_by_cmp key_cmp q k)) [
  | inl hit ↦ inl (subst (λ x. Contains (w ++ k ∷ []) x) (sym (same_by_test q k hit)) (Contains-push w k))
  | inr miss ↦ elim (only q) [
    | inl in_w ↦ inl (Contains-append_left w (k ∷ []) q in_w)
    | inr same ↦ inr (get-insert keys_total t k v q ∙ ap (λ b. cond b (Some v) (get t q)) miss ∙ same)
  ]
]

only_removed : (s t : State) (w : List Key) (k : Key) → WroteOnly s t w
    → WroteOnly s (remove t k) (w ++ written_by t (Remove k))
only_removed s t w k only q = elim (cases_Bool (eq_by_cmp key_cmp q k)) [
  | inl hit ↦ by_there (get t k) refl (same_by_test q k hit) hit
  | inr miss ↦ elim (only q) [
    | inl in_w ↦ inl (Contains-append_left w (written_by t (Remove k)) q in_w)
    | inr same ↦ inr (get-remove keys_total t k q ∙ ap (λ b. cond b None (get t q)) miss ∙ same)
  ]
]
  where
    by_there : (there : Option ℕ) → get t k ≡ there → q ≡ k → eq_by_cmp key_cmp q k ≡ true
        → Contains (w ++ written_by t (Remove k)) q ⊎ (get (remove t k) q ≡ get s q)
    by_there (Some v) is same hit = inl (subst (λ x. Contains (w ++ written_by t (Remove k)) x) (sym same)
        (subst (λ o. Contains (w ++ option_to_list (option_map (λ v. k) o)) k) (sym is) (Contains-push w k)))
    by_there None is same hit = elim (only q) [
      | inl in_w ↦ inl (Contains-append_left w (written_by t (Remove k)) q in_w)
      | inr kept ↦ inr (get-remove keys_total t k q ∙ ap (λ b. cond b None (get t q)) hit
          ∙ sym (sym kept ∙ ap (get t) same ∙ is))
    ]

-- ---- one operation of a transaction

-- where the move ends the transaction, it doesn't end well
abbrev pub EndsBadly : Move → Type 0
EndsBadly m = (v : Verdict) → m ≡ Ends v → v ≡ Done → ⊥

-- What an operation's move leaves: besides its keys nothing more was written, and it never ends the transaction well.
pub record Moved (decls : List Decl) (s t : State) (w : List Key) (op : Op) : Type 0 where
  pub only : (reply : Option Reply) (next : State) → move_of decls t op ≡ Goes reply next
      → WroteOnly s next (w ++ written_by t op)
  pub ends : EndsBadly (move_of decls t op)

goes_if : (fine : Bool) (t next : State) (verdict : Verdict) (reply : Option Reply)
    → cond fine (Goes None t) (Ends verdict) ≡ Goes reply next → t ≡ next
goes_if true t next verdict reply is = cc
goes_if false t next verdict reply is = absurd cc

ends_if : (fine : Bool) (t : State) (verdict v : Verdict) → cond fine (Goes None t) (Ends verdict) ≡ Ends v
    → verdict ≡ v
ends_if true t verdict v is = absurd cc
ends_if false t verdict v is = cc

moved : (decls : List Decl) (s t : State) (w : List Key) (op : Op) → WroteOnly s t w → Moved decls s t w op
moved decls s t w (Read k) only = record {
  only = λ reply next is. let same : t ≡ next = cc in
      subst (λ (x : State). WroteOnly s x (w ++ [])) same (only_more s t w [] only);
  ends = λ v is done. cc;
}
moved decls s t w (Write k v) only = record {
  only = λ reply next is. let same : insert t k v ≡ next = cc in
      subst (λ (x : State). WroteOnly s x (w ++ k ∷ [])) same (only_put s t w k v only);
  ends = λ v is done. cc;
}
moved decls s t w (Remove k) only = record {
  only = λ reply next is. let same : remove t k ≡ next = cc in
      subst (λ (x : State). WroteOnly s x (w ++ written_by t (Remove k))) same (only_removed s t w k only);
  ends = λ v is done. cc;
}
moved decls s t w (Add k v) only = record {
  only = λ reply next is.
      let same = goes_if (nat_lt (amount_at t k + v) (2 ^ 64)) (insert t k (amount_at t k + v)) next Over reply is in
      subst (λ (x : State). WroteOnly s x (w ++ k ∷ [])) same (only_put s t w k (amount_at t k + v) only);
  ends = λ u is done.
      let over = ends_if (nat_lt (amount_at t k + v) (2 ^ 64)) (insert t k (amount_at t k + v)) Over u is in cc;
}
moved decls s t w (Take k v) only = record {
  only = λ reply next is.
      let same = goes_if (nat_le v (amount_at t k)) (insert t k (amount_at t k - v)) next Short reply is in
      subst (λ (x : State). WroteOnly s x (w ++ k ∷ [])) same (only_put s t w k (amount_at t k - v) only);
  ends = λ u is done.
      let short = ends_if (nat_le v (amount_at t k)) (insert t k (amount_at t k - v)) Short u is in cc;
}
moved decls s t w (Scan storage low high) only = record {
  only = λ reply next is. let same : t ≡ next = cc in
      subst (λ (x : State). WroteOnly s x (w ++ [])) same (only_more s t w [] only);
  ends = λ v is done. cc;
}

-- ---- all operations

-- A transaction that ran on to a good end wrote, behind what was written before, the keys that its operations write.
written : (decls : List Decl) (s first t : State) (w : List Key) (ops : List Op) → WroteOnly s t w
    → (step_from decls first ops t).verdict ≡ Done
    → WroteOnly s (step_from decls first ops t).state (w ++ written_from decls ops t)
written decls s first t w [] only done = only_more s t w [] only
written decls s first t w (op ∷ ops) only done =
    by_move (λ next wrote done. written decls s first next (w ++ written_by t op) ops wrote done)
    (move_of decls t op) refl done
  where
    by_move : ((next : State) → WroteOnly s next (w ++ written_by t op)
        → (step_from decls first ops next).verdict ≡ Done
        → WroteOnly s (step_from decls first ops next).state ((w ++ written_by t op) ++ written_from decls ops next))
        → (m : Move) → move_of decls t op ≡ m → (after_move first m (step_from decls first ops)).verdict ≡ Done
        → WroteOnly s (after_move first (move_of decls t op) (step_from decls first ops)).state
        (w ++ written_from decls (op ∷ ops) t)
    by_move others (Ends v) same done = absurd ((moved decls s t w op only).ends v same done)
    by_move others (Goes reply next) same done =
        let here = written_by t op in
        let rest = others next ((moved decls s t w op only).only reply next same) done in
        let from = written_from decls ops next in
        let behind : written_from decls (op ∷ ops) t ≡ here ++ from =
        ap (λ m. written_then here m (written_from decls ops)) same in
        let ends : (after_move first (move_of decls t op) (step_from decls first ops)).state
        ≡ (step_from decls first ops next).state =
        ap (λ m. (after_move first m (step_from decls first ops)).state) same in
        λ q. subst (λ (x : State). Contains (w ++ written_from decls (op ∷ ops) t) q ⊎ (get x q ≡ get s q)) (sym ends)
        (elim (rest q) [
          | inl in_w ↦ inl (subst (λ l. Contains l q)
              (append_assoc w here from ∙ ap (λ l. w ++ l) (sym behind)) in_w)
          | inr kept ↦ inr kept
        ])

-- nothing was written yet
only_none : (s : State) → WroteOnly s s []
only_none s q = inr refl

-- ---- laws

-- the writes of a transaction that ended well are kept
kept_done : (verdict : Verdict) (keys : List Key) → verdict ≡ Done → kept_by verdict keys ≡ keys
kept_done Done keys is = refl
kept_done Short keys is = absurd cc
kept_done Over keys is = absurd cc

-- a transaction that didn't end well leaves the state as it was
state_badly : (decls : List Decl) (first t : State) (ops : List Op)
    → ((step_from decls first ops t).verdict ≡ Done → ⊥) → (step_from decls first ops t).state ≡ first
state_badly decls first t [] badly = absurd (badly refl)
state_badly decls first t (op ∷ ops) badly =
    by_move (λ next badly. state_badly decls first next ops badly) (move_of decls t op) badly
  where
    by_move : ((next : State) → ((step_from decls first ops next).verdict ≡ Done → ⊥)
        → (step_from decls first ops next).state ≡ first)
        → (m : Move) → ((after_move first m (step_from decls first ops)).verdict ≡ Done → ⊥)
        → (after_move first m (step_from decls first ops)).state ≡ first
    by_move others (Ends v) badly = refl
    by_move others (Goes reply next) badly = others next badly

-- A key that the transaction doesn't write keeps its value.
pub unwritten_kept : (decls : List Decl) (s : State) (ops : List Op) (q : Key)
    → Contains (write_set decls s ops) q ⊎ (get (step decls s ops).state q ≡ get s q)
unwritten_kept decls s ops q = by_verdict (step decls s ops).verdict refl
  where
    by_verdict : (v : Verdict) → (step decls s ops).verdict ≡ v
        → Contains (write_set decls s ops) q ⊎ (get (step decls s ops).state q ≡ get s q)
    by_verdict Done is = elim (written decls s s s [] ops (only_none s) is q) [
      | inl in_w ↦ inl (subst (λ l. Contains l q)
          (sym (kept_done (step decls s ops).verdict (written_from decls ops s) is)) in_w)
      | inr kept ↦ inr kept
    ]
    by_verdict Short is = inr (ap (λ (x : State). get x q) (state_badly decls s s ops (λ done. cc)))
    by_verdict Over is = inr (ap (λ (x : State). get x q) (state_badly decls s s ops (λ done. cc)))
