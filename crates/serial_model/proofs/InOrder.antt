-- The entries of a map are in order, and are those of the state that they make.
use Rattle.std.proofs.Common.{◌≡◌, ◌∙◌, sym, ap, subst, ℕ, Bool, true, false, List, [], ◌∷◌, length}
use Rattle.std.specs.Prelude.{◌&&◌}
use Rattle.std.proofs.Math.Dec.{T}
use Rattle.std.specs.List.{AllByRecursion}
use Rattle.std.specs.List.Sorted.{IsStrictlySortedBy}
use Rattle.std.specs.Map.{keys_of}
use Rattle.std.specs.Ordering.{is_lt}
use Rattle.std.specs.declared.cmp.Ordering.TheVariants.{Less}
use Rattle.std.specs.FinMap.{is_sorted, from_entries, from_sorted, entries, len, len-entries, get-from_entries, get-from_sorted, entries-from_sorted}
use Rattle.std.specs.FinMap.Entries.{below_all}
use Rattle.serial_model.specs.KeyOrder.{keys_total}
use Rattle.serial_model.proofs.FromEntries.{same_state}
use Rattle.serial_model.specs.Keys.{key_cmp}
use Rattle.serial_model.specs.declared.key.Key.{Key}

both : (a b : Bool) → T a → T b → T (a && b)
both true b p q = q
both false b p q = p

below_all_from : (k : Key) (es : List (Key × ℕ)) → AllByRecursion (λ y. key_cmp k y ≡ Less) (keys_of es) → T (below_all key_cmp k es)
below_all_from k [] h = tt
below_all_from k (e ∷ es) h = both _ _ (subst (λ r. T (is_lt r)) (sym h.0) tt) (below_all_from k es h.1)

-- the entries of a map are in order
pub sorted_entries : (es : List (Key × ℕ)) → IsStrictlySortedBy key_cmp (keys_of es) → T (is_sorted key_cmp es)
unfolding IsStrictlySortedBy
sorted_entries [] h = tt
sorted_entries (e ∷ es) h = both _ _ (below_all_from e.0 es h.0) (sorted_entries es h.1)

pub entries-from_entries : (es : List (Key × ℕ)) → IsStrictlySortedBy key_cmp (keys_of es) → entries (from_entries {R = key_cmp} es) ≡ es
entries-from_entries es h =
    let in_order = sorted_entries es h in
    let same : from_entries es ≡ from_sorted es = same_state _ _ (λ q. get-from_entries keys_total es q ∙ sym (get-from_sorted key_cmp es q in_order)) in
    ap entries same ∙ entries-from_sorted key_cmp es in_order

pub len-from_entries : (es : List (Key × ℕ)) → IsStrictlySortedBy key_cmp (keys_of es) → len (from_entries {R = key_cmp} es) ≡ length es
len-from_entries es h = len-entries (from_entries es) ∙ ap length (entries-from_entries es h)
