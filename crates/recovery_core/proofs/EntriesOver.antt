-- The entries of a map in the keys' order, put over a state one after another.
use Rattle.std.proofs.Common.{◌≡◌, Bool, true, false, List, [], ◌∷◌, Some, None, length, refl, sym, ap, subst}
use Rattle.std.proofs.Common.{◌∙◌, arith}
use Rattle.std.specs.Prelude.{cond}
use Rattle.std.specs.Cmp.{eq_by_cmp_equiv}
use Rattle.std.specs.FinMap.{get}
use Rattle.std.specs.List.{AllByRecursion}
use Rattle.std.specs.List.Sorted.{IsStrictlySortedBy}
use Rattle.std.specs.Map.{keys_of}
use Rattle.std.specs.Ordering.{is_eq, eq_by_cmp}
use Rattle.std.specs.declared.cmp.Ordering.TheVariants.{Less}
use Rattle.serial_model.specs.Keys.{key_cmp}
use Rattle.serial_model.specs.State.{State}
use Rattle.serial_model.specs.declared.key.Key.{Key}
use Rattle.serial_model.specs.KeyOrder.{keys_total, same_by_test}
use Rattle.wire_form.specs.declared.bucket.Entry.{Entry}
use Rattle.recovery_core.specs.Recoverable.{value_over}
use Rattle.recovery_core.specs.EntriesLast.{EntryMap, PutsAt}
use Rattle.recovery_core.proofs.EntriesGreatest.{entry_at}

-- no entries have none at any key
pub none_at : (es : List (Key × Entry)) (key : Key) → length es ≡ 0 → entry_at es key ≡ None
none_at [] key empty = refl
none_at (e ∷ es) key empty = absurd (omega arith)

-- and only they
pub no_entry : (es : List (Key × Entry)) → ((key : Key) → entry_at es key ≡ None) → length es ≡ 0
no_entry [] none = refl
no_entry (e ∷ es) none =
    let here : cond (eq_by_cmp key_cmp e.0 e.0) (Some e.1) (entry_at es e.0) ≡ Some e.1 =
    ap (λ b. cond b (Some e.1) (entry_at es e.0)) ((eq_by_cmp_equiv keys_total).refl e.0) in
    absurd (cc (here, none e.0))

-- the keys of entries are above this one
abbrev Above : Key → List (Key × Entry) → Type 0
Above key es = AllByRecursion (λ k. key_cmp key k ≡ Less) (keys_of es)

-- a key below those of all entries has none
below_all : (key : Key) (es : List (Key × Entry)) → Above key es → entry_at es key ≡ None
below_all key [] above = refl
below_all key (e ∷ es) above =
    ap (λ o. cond (is_eq o) (Some e.1) (entry_at es key)) above.0 ∙ below_all key es above.1

-- what is left to be put makes of a state what all makes of the first state
pub record PutSoFar (all : EntryMap) (left : List (Key × Entry)) (old now : State) : Type 0 where
  pub puts : (key : Key) → value_over (entry_at left key) (get now key) ≡ value_over (get all key) (get old key)
  pub sorted : IsStrictlySortedBy key_cmp (keys_of left)

-- one entry more
pub put_more : (all : EntryMap) (left : List (Key × Entry)) (key : Key) (e : Entry) (old now new : State)
    → PutSoFar all ((key, e) ∷ left) old now
    → PutsAt key e.value now new → PutSoFar all left old new
unfolding IsStrictlySortedBy
put_more all left key e old now new so_far put = record {
  puts = λ other. step other (eq_by_cmp key_cmp other key) refl ∙ so_far.puts other;
  sorted = so_far.sorted.1;
}
  where
    step : (other : Key) (b : Bool) → eq_by_cmp key_cmp other key ≡ b
        → value_over (entry_at left other) (get new other)
        ≡ value_over (entry_at ((key, e) ∷ left) other) (get now other)
    step other true test =
        let same : other ≡ key = same_by_test other key test in
        let rest : entry_at left other ≡ None =
        below_all other left (subst (λ k. Above k left) (sym same) so_far.sorted.0) in
        ap (λ o. value_over o (get new other)) rest ∙ put other
        ∙ ap (λ b. cond b e.value (get now other)) test
        ∙ sym (ap (λ b. value_over (cond b (Some e) (entry_at left other)) (get now other)) test)
    step other false test =
        ap (value_over (entry_at left other)) (put other ∙ ap (λ b. cond b e.value (get now other)) test)
        ∙ sym (ap (λ b. value_over (cond b (Some e) (entry_at left other)) (get now other)) test)
