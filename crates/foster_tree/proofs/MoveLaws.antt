-- The records that move from a full leaf to its halves: what was read under their locks, and one more.
use Rattle.std.proofs.Common.{◌≡◌, ◌≢◌, ◌⊎◌, ℕ, zero, suc, ◌+◌, ◌<◌, ◌≤◌, Bool, true, false, eqb, List, [], ◌∷◌, ◌++◌, length}
use Rattle.std.proofs.Common.{get_or, refl, sym, ap, ◌∙◌, subst, arith, inl, inr, Some, eqb-true, eq-eqb, true≢false, length-append}
use Rattle.std.specs.Prelude.{not, ◌&&◌, ◌||◌}
use Rattle.std.specs.List.{Contains, slice_get}
use Rattle.std.proofs.lemmas.Bool.{or_parts}
use Rattle.std.proofs.lemmas.List.Sorted.{Contains-permutation, IsPermutation-sym}
use Rattle.lists.specs.Elements.{at_below, at_in}
use Rattle.serial_model.specs.declared.key.Key.{Key}
use Rattle.homes.specs.declared.places.Span.{Span}
use Rattle.homes.specs.Homes.{has_key, in_span, same_key}
use Rattle.homes.specs.Laws.{same_key-self, same_key-true}
use Rattle.commit_core.specs.Keys.{nothing}
use Rattle.drop_core.specs.Event.{each_once}
use Rattle.dual_pointer.proofs.Keyed.{first_once}
use Rattle.engine_pages.specs.declared.view.Took.{Took}
use Rattle.engine_pages.specs.declared.view.View.{View}
use Rattle.engine_pages.specs.Words.{spot}
use Rattle.page_records.specs.Locks.{took_at}
use Rattle.tree_heads.specs.Splits.{IsLockedAs, IsMoving}
use Rattle.foster_tree.specs.declared.entries.Entry.{Entry}
use Rattle.foster_tree.specs.Adding.{new_entry}
use Rattle.foster_tree.specs.Entries.{content_of, key_of, keys_of, AreInOrder, IsEntry}
use Rattle.foster_tree.specs.Filling.{no_entry}
use Rattle.foster_tree.specs.Locking.{no_key}
use Rattle.foster_tree.specs.Splitting.{AreMoved}
use Rattle.foster_tree.proofs.AddLaws.{storage_of}
use Rattle.foster_tree.proofs.LockLists.{has_in, there, tooks_has}
use Rattle.foster_tree.proofs.OrderLaws.{same_default, sorted_of}
use Rattle.foster_tree.proofs.PartLaws.{AreParted}

-- ---- one key more

and_true : (a b : Bool) → a ≡ true → b ≡ true → (a && b) ≡ true
and_true a b first second = ap (λ (c : Bool). c && b) first ∙ second

-- what stands at an index of a list with one item more
push_cases : {A : Type 0} (xs : List A) (y : A) (i : ℕ) (x : A) → slice_get (xs ++ y ∷ []) i ≡ Some x
    → (slice_get xs i ≡ Some x) ⊎ ((i ≡ length xs) × (y ≡ x))
push_cases [] y zero x at = inr (refl, cc)
push_cases [] y (suc i) x at = cc
push_cases (z ∷ xs) y zero x at = inl at
push_cases (z ∷ xs) y (suc i) x at = elim (push_cases xs y i x at) [
  | inl old ↦ inl old
  | inr new ↦ inr (ap suc new.0, new.1)
]

not_pushed : (keys : List Key) (k q : Key) → has_key keys q ≡ false → same_key k q ≡ false → has_key (keys ++ k ∷ []) q ≡ false
not_pushed [] k q none other = ap (λ (b : Bool). b || false) other
not_pushed (x ∷ keys) k q none other =
    let p = or_parts (same_key x q) (has_key keys q) none in
    ap (λ (b : Bool). b || has_key (keys ++ k ∷ []) q) p.0 ∙ not_pushed keys k q p.1 other

other_way : (k x : Key) (keys : List Key) → has_key (x ∷ keys) k ≡ false → (b : Bool) → same_key k x ≡ b → b ≡ false
other_way k x keys none true hit =
    absurd (true≢false (sym (ap (λ (z : Key). same_key x z) (same_key-true k x hit) ∙ same_key-self x)
    ∙ (or_parts (same_key x k) (has_key keys k) none).0))
other_way k x keys none false miss = refl

pub once_pushed : (keys : List Key) (k : Key) → each_once keys ≡ true → has_key keys k ≡ false
    → each_once (keys ++ k ∷ []) ≡ true
once_pushed [] k once none = refl
once_pushed (x ∷ keys) k once none =
    let p = first_once x keys once in
    let q = or_parts (same_key x k) (has_key keys k) none in
    and_true (not (has_key (keys ++ k ∷ []) x)) (each_once (keys ++ k ∷ []))
    (ap not (not_pushed keys k x p.0 (let r = other_way k x keys none (same_key k x) refl in r)))
    (once_pushed keys k p.1 q.1)

-- entries have these keys, one for one
pub keys_match : (s : ℕ) (es : List Entry) (keys : List Key) → length es ≡ length keys
    → ((j : ℕ) (k : Key) → slice_get keys j ≡ Some k → key_of s (get_or es j no_entry) ≡ k) → keys_of s es ≡ keys
keys_match s [] [] many each = refl
keys_match s [] (k ∷ keys) many each = absurd (omega (arith, many))
keys_match s (e ∷ es) [] many each = absurd (omega (arith, many))
keys_match s (e ∷ es) (k ∷ keys) many each =
    ap (λ (q : Key). q ∷ keys_of s es) (each 0 k refl)
    ∙ ap (λ (l : List Key). k ∷ l) (keys_match s es keys (omega (arith, many)) (λ j q at. each (suc j) q at))

-- the new record is one
new_whole : (k : Key) → IsEntry (new_entry k)
new_whole k = record {
  small = record { draw = omega arith; epoch = omega arith };
  word = refl;
  value = refl;
}

-- ---- the records

module _ (v : View) (t : ℕ) (sp : Span) (keys : List Key) (k : Key) (entries : List Entry)
    (are : AreMoved v t sp keys k entries) where
  -- the key of each entry
  entry_key : (i : ℕ) (q : Key) → i < 16 → slice_get keys i ≡ Some q → key_of sp.storage (get_or entries i no_entry) ≡ q
  entry_key i q less at =
      let r = are.read i q less at in
      ap (λ (n : ℕ). (let x : Key = record { storage = n; key = (get_or entries i no_entry).key } in x))
      (sym (storage_of sp q (are.inside q (has_in keys q (at_in keys i q at))))) ∙ r.key

  new_key : key_of sp.storage (new_entry k) ≡ k
  new_key = ap (λ (n : ℕ). (let x : Key = record { storage = n; key = k.key } in x)) (sym (storage_of sp k are.own))

  pub entry_keys : keys_of sp.storage entries ≡ keys ++ k ∷ []
  entry_keys =
      keys_match sp.storage entries (keys ++ k ∷ [])
      (let many = are.many in let full = are.full in let long = length-append keys (k ∷ []) in omega (arith, many, full, long))
      (λ j q at. elim (push_cases keys k j q at) [
        | inl old ↦ entry_key j q (let full = are.full in let below = at_below keys j q old in omega (arith, full, below)) old
        | inr new ↦
            ap (λ (i : ℕ). key_of sp.storage (get_or entries i no_entry)) (new.0 ∙ are.full)
            ∙ (ap (λ (e : Entry). key_of sp.storage e) are.last ∙ (new_key ∙ new.1))
      ])

  pub entries_once : each_once (keys_of sp.storage entries) ≡ true
  entries_once = ap each_once entry_keys ∙ once_pushed keys k are.once are.new

  -- an entry is that of one of the records, or the new one
  entry_cases : (e : Entry) → Contains entries e
      → ((i : ℕ) × (i < 16) × (get_or entries i no_entry ≡ e)) ⊎ (new_entry k ≡ e)
  entry_cases e has = by_test (eqb has.0 16) refl
    where
      by_test : (b : Bool) → eqb has.0 16 ≡ b
          → ((i : ℕ) × (i < 16) × (get_or entries i no_entry ≡ e)) ⊎ (new_entry k ≡ e)
      by_test true same =
          inr (sym are.last
          ∙ (ap (λ (i : ℕ). get_or entries i no_entry) (sym (eqb-true has.0 16 same))
          ∙ (same_default entries has.0 no_entry e has.1 ∙ has.2)))
      by_test false other =
          let apart : has.0 ≢ 16 = λ e. true≢false (sym (eq-eqb has.0 16 e) ∙ other) in
          inl (
            has.0,
            (let less = has.1 in let many = are.many in omega (arith, less, many, apart)),
            same_default entries has.0 no_entry e has.1 ∙ has.2,
          )

  -- it says what stands at its key, or is new
  pub entry_moves : (e : Entry) → Contains entries e → IsMoving v keys (key_of sp.storage e) (content_of e)
  entry_moves e has = elim (entry_cases e has) [
    | inl old ↦
        let at : slice_get keys old.0 ≡ Some (get_or keys old.0 no_key) =
        there keys old.0 no_key (let full = are.full in let less = old.1 in omega (arith, full, less)) in
        let r = are.read old.0 (get_or keys old.0 no_key) old.1 at in
        let key : key_of sp.storage (get_or entries old.0 no_entry) ≡ get_or keys old.0 no_key =
        entry_key old.0 (get_or keys old.0 no_key) old.1 at in
        inl (subst (λ (d : Entry). IsLockedAs v (key_of sp.storage d) (content_of d)) old.2
        (subst (λ (z : Key). IsLockedAs v z (content_of (get_or entries old.0 no_entry))) (sym key)
        record {
          took = took_at (get_or keys old.0 no_key) (spot t old.0) (get_or entries old.0 no_entry).word;
          has = subst (λ (l : List Took). Contains l
              (took_at (get_or keys old.0 no_key) (spot t old.0) (get_or entries old.0 no_entry).word)) (sym are.took)
              (tooks_has t keys entries 16 old.0 old.1);
          key = refl;
          locked = ap (λ (l : List Key). has_key l (get_or keys old.0 no_key)) are.locks
              ∙ has_in keys (get_or keys old.0 no_key) (at_in keys old.0 (get_or keys old.0 no_key) at);
          small = r.entry.small;
          word = r.entry.word;
          value = r.value;
        }))
    | inr new ↦
        inr (subst (λ (d : Entry). (has_key keys (key_of sp.storage d) ≡ false) × (content_of d ≡ nothing)) new
        (ap (λ (z : Key). has_key keys z) new_key ∙ are.new, refl))
  ]

  entry_whole : (e : Entry) → Contains entries e → IsEntry e
  entry_whole e has = elim (entry_cases e has) [
    | inl old ↦
        subst IsEntry old.2
        (are.read old.0 (get_or keys old.0 no_key) old.1
        (there keys old.0 no_key (let full = are.full in let less = old.1 in omega (arith, full, less)))).entry
    | inr new ↦ subst IsEntry new (new_whole k)
  ]

  entry_inside : (e : Entry) → Contains entries e → in_span sp (key_of sp.storage e) ≡ true
  entry_inside e has = elim (entry_cases e has) [
    | inl old ↦
        let at : slice_get keys old.0 ≡ Some (get_or keys old.0 no_key) =
        there keys old.0 no_key (let full = are.full in let less = old.1 in omega (arith, full, less)) in
        subst (λ (d : Entry). in_span sp (key_of sp.storage d) ≡ true) old.2
        (ap (λ (z : Key). in_span sp z) (entry_key old.0 (get_or keys old.0 no_key) old.1 at)
        ∙ are.inside (get_or keys old.0 no_key)
        (has_in keys (get_or keys old.0 no_key) (at_in keys old.0 (get_or keys old.0 no_key) at)))
    | inr new ↦
        subst (λ (d : Entry). in_span sp (key_of sp.storage d) ≡ true) new (ap (λ (z : Key). in_span sp z) new_key ∙ are.own)
  ]

  -- in the order of their keys they are parted
  pub parted : (sorted : List Entry) → AreInOrder entries sorted → AreParted sp sorted
  parted sorted order =
      let back = IsPermutation-sym entries sorted order.same in record {
        order = sorted_of sp.storage entries sorted are.many entries_once order;
        each = λ e has. entry_whole e (Contains-permutation sorted entries e back has);
        inside = λ e has. entry_inside e (Contains-permutation sorted entries e back has);
      }
