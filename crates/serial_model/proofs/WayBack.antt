-- The way back from a transaction's own writes.
use Rattle.std.proofs.Common.{◌≡◌, ◌∙◌, sym, ap, subst, refl, ℕ, Bool, true, false, List, [], ◌∷◌, ◌++◌, Option, Some, None, IsSome, Result, Ok, Err, OnOk, OnErr}
use Rattle.std.specs.Prelude.{cond}
use Rattle.std.specs.Cmp.{tied_itself}
use Rattle.std.specs.declared.cmp.Ordering.TheVariants.{Less, Equal, Greater}
use Rattle.std.specs.Ordering.{eq_by_cmp, is_eq}
use Rattle.std.specs.FinMap.{get, insert, remove, get-insert, get-remove}
use Rattle.serial_model.specs.KeyOrder.{keys_total, exact_keys}
use Rattle.serial_model.proofs.FromEntries.{same_state}
use Rattle.serial_model.specs.Keys.{key_cmp}
use Rattle.serial_model.specs.State.{State}
use Rattle.serial_model.specs.Draft.{GoesBack, NeedsNoMemory, KeepsWayBack, undone, undone_to}
use Rattle.serial_model.specs.declared.key.Key.{Key}
use Rattle.serial_model.specs.declared.draft.Undo.{Undo}
use Rattle.lists.specs.declared.memory.Memory.{Memory}

-- one more change, that can be undone
pub GoesBack-push : (us : List Undo) (u : Undo) (s first : State)
    → GoesBack us (undone u s) first → NeedsNoMemory u s → GoesBack (us ++ u ∷ []) s first
GoesBack-push [] u s first h there = (s, refl, there, h)
GoesBack-push (w ∷ us) u s first h there = (h.0, GoesBack-push us u s h.0 h.1 there, h.2, h.3)

one_back : (u : Undo) (s t first : State) → s ≡ t → NeedsNoMemory u t → undone u t ≡ first → NeedsNoMemory u s × (undone u s ≡ first)
one_back u s t first same there h =
    ((λ some. subst (λ (x : State). IsSome (get x u.key)) (sym same) (there some)), ap (undone u) same ∙ h)

-- the last change undone
pub GoesBack-pop : (us : List Undo) (u : Undo) (s first : State)
    → GoesBack (us ++ u ∷ []) s first → NeedsNoMemory u s × GoesBack us (undone u s) first
GoesBack-pop [] u s first h = one_back u s h.0 first h.1 h.2 h.3
GoesBack-pop (w ∷ us) u s first h =
    let rest = GoesBack-pop us u s h.0 h.1 in
    (rest.0, (h.0, rest.1, h.2, h.3))

get-undone_to : (k : Key) (o : Option ℕ) (s : State) (q : Key) → get (undone_to k o s) q ≡ cond (eq_by_cmp key_cmp q k) o (get s q)
get-undone_to k (Some v) s q = get-insert keys_total s k v q
get-undone_to k None s q = get-remove keys_total s k q

shadowed : (b : Bool) (x y z : Option ℕ) → cond b x (cond b y z) ≡ cond b x z
shadowed true x y z = refl
shadowed false x y z = refl

-- what a test for the same key chooses is what the state has there
own_value : (s : State) (k q : Key) → cond (eq_by_cmp key_cmp q k) (get s k) (get s q) ≡ get s q
own_value s k q =
    elim (key_cmp q k) as (λ r. key_cmp q k ≡ r → cond (is_eq r) (get s k) (get s q) ≡ get s q) [
      | Less ↦ λ _. refl
      | Equal ↦ λ e. ap (get s) (sym (exact_keys q k e))
      | Greater ↦ λ _. refl
    ] refl

-- to undo what was never done changes nothing
pub undone_to-same : (s : State) (k : Key) → undone_to k (get s k) s ≡ s
undone_to-same s k = same_state _ _ (λ q. get-undone_to k (get s k) s q ∙ own_value s k q)

-- to undo a write gives what was there
pub undone_to-insert : (s : State) (k : Key) (v : ℕ) → undone_to k (get s k) (insert s k v) ≡ s
undone_to-insert s k v = same_state _ _ (λ q.
    get-undone_to k (get s k) (insert s k v) q
    ∙ ap (cond (eq_by_cmp key_cmp q k) (get s k)) (get-insert keys_total s k v q)
    ∙ shadowed (eq_by_cmp key_cmp q k) (get s k) (Some v) (get s q) ∙ own_value s k q)

-- a key that was written is in the map
pub get-insert_same : (s : State) (k : Key) (v : ℕ) → get (insert s k v) k ≡ Some v
get-insert_same s k v =
    get-insert keys_total s k v k ∙ ap (λ r. cond (is_eq r) (Some v) (get s k)) (tied_itself keys_total k)

-- a write keeps the way back
pub KeepsWayBack-insert : (us : List Undo) (s : State) (k : Key) (v : ℕ)
    → KeepsWayBack us s (us ++ record { key = k; value = get s k } ∷ []) (insert s k v)
KeepsWayBack-insert us s k v first h =
    GoesBack-push us _ (insert s k v) first
    (subst (λ x. GoesBack us x first) (sym (undone_to-insert s k v)) h) (λ _. subst (λ o. IsSome o) (sym (get-insert_same s k v)) refl)

-- so does a change that was noted, and then not made
pub KeepsWayBack-noted : (us : List Undo) (s : State) (k : Key)
    → KeepsWayBack us s (us ++ record { key = k; value = get s k } ∷ []) s
KeepsWayBack-noted us s k first h = GoesBack-push us _ s first (subst (λ x. GoesBack us x first) (sym (undone_to-same s k)) h) (λ there. there)

-- what holds of each success holds where a refusal is ruled out
sure : {P : Type 0} (r : Result (Option ℕ) Memory) (o : Option ℕ) → OnOk r P → OnErr r (o ≡ None) → IsSome o → P
sure (Ok x) o p none some = p
sure (Err x) o p none some = let h : false ≡ true = subst (λ v. IsSome v) none some in cc

-- the last change is taken back: its key had a value
pub GoesBack-inserted : (us : List Undo) (u : Undo) (v : ℕ) (s t first : State) (r : Result (Option ℕ) Memory)
    → u.value ≡ Some v → OnOk r (t ≡ insert s u.key v) → OnErr r (get s u.key ≡ None)
    → GoesBack (us ++ u ∷ []) s first → GoesBack us t first
GoesBack-inserted us u v s t first r is ok absent h =
    let last = GoesBack-pop us u s first h in
    let there = last.0 (subst (λ o. IsSome o) (sym is) refl) in
    let same : t ≡ undone u s = sure r (get s u.key) ok absent there ∙ ap (λ o. undone_to u.key o s) (sym is) in
    subst (λ x. GoesBack us x first) (sym same) last.1

-- the last change is taken back: its key had none
pub GoesBack-removed : (us : List Undo) (u : Undo) (s t first : State)
    → u.value ≡ None → t ≡ remove s u.key → GoesBack (us ++ u ∷ []) s first → GoesBack us t first
GoesBack-removed us u s t first is removed h =
    let same : t ≡ undone u s = removed ∙ ap (λ o. undone_to u.key o s) (sym is) in
    subst (λ x. GoesBack us x first) (sym same) (GoesBack-pop us u s first h).1
