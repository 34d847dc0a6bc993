-- The state that the entries of a map make: what it has at a key, and after one of them changed.
use Rattle.std.proofs.Common.{◌≡◌, ◌∙◌, sym, ap, refl, ℕ, List, [], ◌∷◌, Option, Some, None}
use Rattle.std.specs.Prelude.{cond}
use Rattle.std.specs.Cmp.{eq_by_cmp_equiv}
use Rattle.std.specs.Ordering.{eq_by_cmp}
use Rattle.std.specs.FinMap.{find, from_entries, get, insert, remove, get-from_entries, get-insert, get-remove, same_map}
use Rattle.std.specs.BTreeMap.{is_at}
use Rattle.std.specs.Map.{lookup}
use Rattle.serial_model.specs.KeyOrder.{keys_total, exact_keys}
use Rattle.serial_model.specs.Keys.{key_cmp}
use Rattle.serial_model.specs.State.{State}
use Rattle.serial_model.specs.declared.key.Key.{Key}

-- what entries have at a key
abbrev pub value_at : List (Key × ℕ) → Key → Option ℕ
value_at es q = lookup (is_at (key_cmp q)) es

find_key : (es : List (Key × ℕ)) (q : Key) → find key_cmp q es ≡ value_at es q
find_key [] q = refl
find_key (e ∷ es) q = ap (cond (is_at (key_cmp q) e.0) (Some e.1)) (find_key es q)

pub get_key : (es : List (Key × ℕ)) (q : Key) → get (from_entries {R = key_cmp} es) q ≡ value_at es q
get_key es q = get-from_entries keys_total es q ∙ find_key es q

-- two states that have the same at each key are one
pub same_state : (s t : State) → ((q : Key) → get s q ≡ get t q) → s ≡ t
same_state s t h = same_map keys_total exact_keys s t h

-- a test of keys may be asked either way round
pub either_way : (a b : Key) → eq_by_cmp key_cmp a b ≡ eq_by_cmp key_cmp b a
either_way a b = (eq_by_cmp_equiv keys_total).symm a b

-- entries that differ by a value at one key make maps that differ so
pub one_given : (es fs : List (Key × ℕ)) (k : Key) (v : ℕ)
    → ((q : Key) → value_at fs q ≡ cond (is_at (key_cmp k) q) (Some v) (value_at es q)) → from_entries {R = key_cmp} fs ≡ insert (from_entries es) k v
one_given es fs k v h = same_state _ _ (λ q.
    get_key fs q ∙ h q ∙ ap (λ b. cond b (Some v) (value_at es q)) (either_way k q)
    ∙ sym (get-insert keys_total (from_entries es) k v q ∙ ap (cond (eq_by_cmp key_cmp q k) (Some v)) (get_key es q)))

-- the same of a key taken out
pub one_taken : (es fs : List (Key × ℕ)) (k : Key)
    → ((q : Key) → value_at fs q ≡ cond (is_at (key_cmp k) q) None (value_at es q)) → from_entries {R = key_cmp} fs ≡ remove (from_entries es) k
one_taken es fs k h = same_state _ _ (λ q.
    get_key fs q ∙ h q ∙ ap (λ b. cond b None (value_at es q)) (either_way k q)
    ∙ sym (get-remove keys_total (from_entries es) k q ∙ ap (cond (eq_by_cmp key_cmp q k) None) (get_key es q)))
