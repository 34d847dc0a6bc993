-- What an engine opens with has the values that stand at its keys.
use Rattle.std.specs.Prelude.{◌≡◌, Bool, true, false, List, [], ◌∷◌, Option, Some, None, ℕ, refl, cond}
use Rattle.std.specs.Prelude.{if◌then◌else◌}
use Rattle.std.proofs.Common.{◌∙◌, sym, ap, inl, inr, subst, true≢false}
use Rattle.std.specs.FinMap.{get, get-empty, get-insert, get-remove}
use Rattle.std.specs.Cmp.{eq_by_cmp_equiv}
use Rattle.std.specs.Ordering.{eq_by_cmp}
use Rattle.std.proofs.lemmas.Bool.{cases_Bool, false_from_ne_true}
use Rattle.serial_model.specs.KeyOrder.{keys_total, same_by_test}
use Rattle.serial_model.specs.Keys.{key_cmp}
use Rattle.serial_model.specs.State.{State}
use Rattle.serial_model.specs.declared.key.Key.{Key}
use Rattle.homes.specs.declared.places.Content.{Content}
use Rattle.commit_core.specs.Keys.{content_at, same_key}
use Rattle.commit_core.specs.Lemmas.Keys.{same_key-self, same_key-true}
use Rattle.shared_rounds.specs.Contents.{with_value}
use Rattle.shared_rounds.specs.SharedState.{opened}

-- the map's test of keys is that of equal keys
pub key_test : (q k : Key) → eq_by_cmp key_cmp q k ≡ same_key k q
key_test q k =
    elim (cases_Bool (same_key k q)) [
      | inl hit ↦ subst (λ (x : Key). eq_by_cmp key_cmp q x ≡ true) (sym (same_key-true k q hit))
          ((eq_by_cmp_equiv keys_total).refl q) ∙ sym hit
      | inr miss ↦ false_from_ne_true (eq_by_cmp key_cmp q k) (λ h.
          true≢false (sym (subst (λ (x : Key). same_key k x ≡ true) (sym (same_by_test q k h))
          (same_key-self k)) ∙ miss))
          ∙ sym miss
    ]

-- a value that was put stands at its key
pub value_put : (w : State) (k : Key) (value : Option ℕ) (q : Key)
    → get (with_value w k value) q ≡ cond (same_key k q) value (get w q)
value_put w k (Some v) q = get-insert keys_total w k v q ∙ ap (λ b. cond b (Some v) (get w q)) (key_test q k)
value_put w k None q = get-remove keys_total w k q ∙ ap (λ b. cond b None (get w q)) (key_test q k)

-- at first
pub opened_is : (opening : List (Key × Content)) (k : Key) → get (opened opening) k ≡ (content_at opening k).value
opened_is [] k = get-empty key_cmp k
opened_is (e ∷ more) k =
    value_put (opened more) e.0 e.1.value k ∙ by_test (same_key e.0 k) (opened_is more k)
  where
    by_test : (b : Bool) → get (opened more) k ≡ (content_at more k).value
        → cond b e.1.value (get (opened more) k) ≡ (if b then e.1 else content_at more k).value
    by_test true rest = refl
    by_test false rest = rest
