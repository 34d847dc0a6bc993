-- The locks that were taken of the first records of a leaf, by the keys that a transaction knows of it.
use Rattle.std.proofs.Common.{◌≡◌, inr, ℕ, zero, suc, ◌<◌, ◌≤◌, Bool, true, false, List, [], ◌∷◌, ◌++◌, length, get_or, take}
use Rattle.std.proofs.Common.{refl, ap, ◌∙◌, arith, Some}
use Rattle.std.specs.Prelude.{Contains, slice_get, ◌||◌}
use Rattle.lists.specs.Elements.{in_head, in_tail}
use Rattle.serial_model.specs.declared.key.Key.{Key}
use Rattle.homes.specs.Homes.{has_key, same_key}
use Rattle.drop_core.specs.Event.{each_once}
use Rattle.tx_sets.specs.declared.seen.Seen.{Seen}
use Rattle.engine_pages.specs.declared.view.Touch.{Touch}
use Rattle.engine_pages.specs.declared.view.View.{View}
use Rattle.engine_pages.specs.Agreement.{TreesAgree}
use Rattle.engine_pages.specs.Touches.{touch}
use Rattle.engine_pages.specs.Views.{seat_number}
use Rattle.foster_tree.specs.Locking.{no_key, with_touches, HasTakenFirst}
use Rattle.foster_tree.proofs.LockLists.{once_apart, there}
use Rattle.tree_walks.specs.declared.ways.Leaf.{Leaf}
use Rattle.tree_walks.specs.Ways.{IsLeafOn}
use Rattle.page_commit.proofs.FoundLaws.{nothing_walked}
use Rattle.tree_writes.specs.Causes.{LocksLeaf}

-- ---- keys

-- a key that is none of them
none_has : (keys : List Key) (k : Key) → ((q : Key) → Contains keys q → same_key q k ≡ false) → has_key keys k ≡ false
none_has [] k each = refl
none_has (q ∷ keys) k each =
    ap (λ (b : Bool). b || has_key keys k) (each q (in_head q keys))
    ∙ none_has keys k (λ z has. each z (in_tail z q keys has))

-- of keys that are there once none before one is that one
pub key_apart : (keys : List Key) (i : ℕ) → each_once keys ≡ true → i < length keys
    → has_key (take i keys) (get_or keys i no_key) ≡ false
key_apart keys i once less =
    none_has (take i keys) (get_or keys i no_key)
    (λ q has. once_apart keys i (get_or keys i no_key) q once (there keys i no_key less) has)

-- the same locks, where the first keys are the same
same_touches : (touched : List Touch) (q : ℕ) (a b : List Key) (n : ℕ) → n ≤ length a → n ≤ length b
    → ((i : ℕ) (k p : Key) → slice_get a i ≡ Some k → slice_get b i ≡ Some p → k ≡ p)
    → with_touches touched q a n ≡ with_touches touched q b n
same_touches touched q a b zero one two same = refl
same_touches touched q a b (suc n) one two same =
    ap (λ (l : List Touch). l ++ touch q (get_or a n no_key) ∷ [])
    (same_touches touched q a b n (omega (arith, one)) (omega (arith, two)) same)
    ∙ ap (λ (p : Key). with_touches touched q b n ++ touch q p ∷ [])
    (same n (get_or a n no_key) (get_or b n no_key) (there a n no_key (omega (arith, one)))
    (there b n no_key (omega (arith, two))))

-- ---- the leaf on the way to the key

module _ (k : Key) (headers : List Seen) (x : Leaf) (n : ℕ) (v w : View) (on : IsLeafOn k headers x v)
    (full : length on.leaf.keys ≡ 16) (trees : TreesAgree v) (few : n ≤ 16) (taken : HasTakenFirst x.slot n v w) where
  pub taken_first : w.touched ≡ with_touches v.touched (seat_number v.role) on.leaf.keys n
  taken_first =
      let long : length taken.keys ≡ 16 = taken.full in
      taken.is
      ∙ same_touches v.touched (seat_number v.role) taken.keys on.leaf.keys n (omega (arith, few, long))
      (omega (arith, few, full))
      (λ i q p one two. trees.known (record { slot = x.slot; keys = taken.keys })
      (record { slot = x.slot; keys = on.leaf.keys }) taken.knows on.leaf.knows refl i q p one two)

  pub locks_leaf : LocksLeaf k v w
  locks_leaf = inr record {
    then = v;
    walked = nothing_walked v;
    slot = x.slot;
    span = x.span;
    way = on.leaf.on.way;
    over = on.leaf.on.over;
    keys = on.leaf.keys;
    knows = on.leaf.knows;
    full = full;
    once = on.leaf.once;
    inside = on.leaf.inside;
    count = n;
    within = omega (arith, few, full);
    touched = taken_first;
  }
