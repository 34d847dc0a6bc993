-- The lists of the locks of a leaf's first records.
use Rattle.std.proofs.Common.{◌≡◌, ◌≢◌, ℕ, zero, suc, ◌+◌, ◌<◌, ◌≤◌, Bool, true, false, cond, eqb, List, [], ◌∷◌, ◌++◌, length}
use Rattle.std.proofs.Common.{get_or, set, take, refl, sym, ap, ◌∙◌, subst, arith, inl, inr, Some, eqb-true, eq-eqb, true≢false}
use Rattle.std.specs.Prelude.{filter, ◌||◌}
use Rattle.std.specs.List.{Contains, slice_get}
use Rattle.std.proofs.lemmas.Bool.{or_right}
use Rattle.std.proofs.lemmas.List.{get_or-set_other}
use Rattle.lists.specs.Elements.{at_in, in_cases, in_head, in_none, in_push_cases, in_push_new, in_push_old, in_tail}
use Rattle.serial_model.specs.declared.key.Key.{Key}
use Rattle.homes.specs.Homes.{has_key, same_key}
use Rattle.homes.specs.Laws.{same_key-self, same_key-true}
use Rattle.drop_core.specs.Event.{each_once}
use Rattle.dual_pointer.proofs.Keyed.{first_once}
use Rattle.engine_pages.specs.declared.view.Took.{Took}
use Rattle.engine_pages.specs.Words.{spot}
use Rattle.page_records.specs.Locks.{took_at}
use Rattle.foster_tree.specs.declared.entries.Entry.{Entry}
use Rattle.foster_tree.specs.Filling.{no_entry}
use Rattle.foster_tree.specs.Locking.{no_key, tooks}

-- ---- a list with one item more

-- the last item alone fails the test
pub filter_out_last : {A : Type 0} (p : A → Bool) (xs : List A) (y : A) → ((x : A) → Contains xs x → p x ≡ true)
    → p y ≡ false → filter p (xs ++ y ∷ []) ≡ xs
filter_out_last {A} p [] y all last = ap (λ (b : Bool). cond b (y ∷ []) []) last
filter_out_last {A} p (x ∷ xs) y all last =
    ap (λ (b : Bool). cond b (x ∷ filter p (xs ++ y ∷ [])) (filter p (xs ++ y ∷ []))) (all x (in_head x xs))
    ∙ ap (λ (l : List A). x ∷ l) (filter_out_last p xs y (λ z has. all z (in_tail z x xs has)) last)

-- one item more of the first ones
pub take_push : {A : Type 0} (xs : List A) (n : ℕ) (x : A) → slice_get xs n ≡ Some x
    → take (suc n) xs ≡ take n xs ++ x ∷ []
take_push [] n x at = cc
take_push {A} (y ∷ xs) zero x at = let same : y ≡ x = cc in ap (λ (z : A). z ∷ []) same
take_push {A} (y ∷ xs) (suc n) x at = ap (λ (l : List A). y ∷ l) (take_push xs n x at)

-- what is among the first ones is there
pub take_in : {A : Type 0} (xs : List A) (n : ℕ) (x : A) → Contains (take n xs) x → Contains xs x
take_in xs zero x has = absurd (in_none x has)
take_in [] (suc n) x has = absurd (in_none x has)
take_in {A} (y ∷ xs) (suc n) x has = elim (in_cases x y (take n xs) has) [
  | inl same ↦ subst (λ (z : A). Contains (y ∷ xs) z) same (in_head y xs)
  | inr more ↦ in_tail x y xs (take_in xs n x more)
]

-- what stands at an index
pub there : {A : Type 0} (xs : List A) (n : ℕ) (d : A) → n < length xs → slice_get xs n ≡ Some (get_or xs n d)
there [] n d less = absurd (omega (arith, less))
there (x ∷ xs) zero d less = refl
there (x ∷ xs) (suc n) d less = there xs n d (omega (arith, less))

-- ---- keys that are there once

pub has_in : (keys : List Key) (k : Key) → Contains keys k → has_key keys k ≡ true
has_in [] k has = absurd (in_none k has)
has_in (q ∷ keys) k has = elim (in_cases k q keys has) [
  | inl same ↦ ap (λ (b : Bool). b || has_key keys k) (ap (λ (z : Key). same_key z k) same ∙ same_key-self k)
  | inr more ↦ or_right (same_key q k) (has_key keys k) (has_in keys k more)
]

once_step : (x q k : Key) (keys : List Key) → has_key keys x ≡ false → Contains keys k → (b : Bool) → same_key x k ≡ b → b ≡ false
once_step x q k keys none has true hit =
    absurd (true≢false (sym (ap (λ (z : Key). has_key keys z) (same_key-true x k hit) ∙ has_in keys k has) ∙ none))
once_step x q k keys none has false miss = refl

-- the keys before one are others
pub once_apart : (keys : List Key) (n : ℕ) (k q : Key) → each_once keys ≡ true → slice_get keys n ≡ Some k
    → Contains (take n keys) q → same_key q k ≡ false
once_apart [] n k q once at has = cc
once_apart (x ∷ keys) zero k q once at has = absurd (in_none q has)
once_apart (x ∷ keys) (suc n) k q once at has =
    let p = first_once x keys once in
    elim (in_cases q x (take n keys) has) [
      | inl same ↦
          subst (λ (z : Key). same_key z k ≡ false) same
          (let r = once_step x q k keys p.0 (at_in keys n k at) (same_key x k) refl in r)
      | inr more ↦ once_apart keys n k q p.1 at more
    ]

-- ---- what the locks found

-- locks of records before one that is read later
pub tooks_set : (t : ℕ) (keys : List Key) (entries : List Entry) (n m : ℕ) (e : Entry) → n ≤ m
    → tooks t keys (set entries m e) n ≡ tooks t keys entries n
tooks_set t keys entries zero m e le = refl
tooks_set t keys entries (suc n) m e le =
    let rest = tooks_set t keys entries n m e (omega (arith, le)) in
    let apart : n ≢ m = λ same. absurd (omega (arith, same, le)) in
    ap (λ (l : List Took). l ++ took_at (get_or keys n no_key) (spot t n) (get_or (set entries m e) n no_entry).word ∷ []) rest
    ∙ ap (λ (d : Entry). tooks t keys entries n ++ took_at (get_or keys n no_key) (spot t n) d.word ∷ [])
    (get_or-set_other entries m n e no_entry apart)

-- each is one of a key before it
pub tooks_keys : (t : ℕ) (keys : List Key) (entries : List Entry) (n : ℕ) (z : Took) → n ≤ length keys
    → Contains (tooks t keys entries n) z → Contains (take n keys) z.key
tooks_keys t keys entries zero z few has = absurd (in_none z has)
tooks_keys t keys entries (suc n) z few has =
    let at : slice_get keys n ≡ Some (get_or keys n no_key) = there keys n no_key (omega (arith, few)) in
    subst (λ (l : List Key). Contains l z.key) (sym (take_push keys n (get_or keys n no_key) at))
    (elim (in_push_cases z (took_at (get_or keys n no_key) (spot t n) (get_or entries n no_entry).word)
    (tooks t keys entries n) has) [
      | inl old ↦ in_push_old z.key (get_or keys n no_key) (take n keys)
          (tooks_keys t keys entries n z (omega (arith, few)) old)
      | inr new ↦
          subst (λ (y : Took). Contains (take n keys ++ get_or keys n no_key ∷ []) y.key) new
          (in_push_new (get_or keys n no_key) (take n keys))
    ])

last_or : (t : ℕ) (keys : List Key) (entries : List Entry) (n i : ℕ) → i < suc n
    → (i < n → Contains (tooks t keys entries n)
    (took_at (get_or keys i no_key) (spot t i) (get_or entries i no_entry).word)) → (b : Bool) → eqb i n ≡ b
    → Contains (tooks t keys entries (suc n))
    (took_at (get_or keys i no_key) (spot t i) (get_or entries i no_entry).word)
last_or t keys entries n i less before true same =
    subst (λ (j : ℕ). Contains (tooks t keys entries (suc n))
    (took_at (get_or keys j no_key) (spot t j) (get_or entries j no_entry).word)) (sym (eqb-true i n same))
    (in_push_new (took_at (get_or keys n no_key) (spot t n) (get_or entries n no_entry).word) (tooks t keys entries n))
last_or t keys entries n i less before false other =
    let apart : i ≢ n = λ e. true≢false (sym (eq-eqb i n e) ∙ other) in
    in_push_old (took_at (get_or keys i no_key) (spot t i) (get_or entries i no_entry).word)
    (took_at (get_or keys n no_key) (spot t n) (get_or entries n no_entry).word) (tooks t keys entries n)
    (before (omega (arith, apart, less)))

-- each record before is among them
pub tooks_has : (t : ℕ) (keys : List Key) (entries : List Entry) (n i : ℕ) → i < n
    → Contains (tooks t keys entries n) (took_at (get_or keys i no_key) (spot t i) (get_or entries i no_entry).word)
tooks_has t keys entries zero i less = absurd (omega (arith, less))
tooks_has t keys entries (suc n) i less = last_or t keys entries n i less
    (λ below. tooks_has t keys entries n i below) (eqb i n) refl
