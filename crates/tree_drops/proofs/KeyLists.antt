-- The keys of a leaf, each once, and locks of them.
use Rattle.std.proofs.Common.{◌≡◌, ℕ, zero, suc, ◌+◌, ◌<◌, Bool, true, false, true≢false, cond, not, List, [], ◌∷◌, ◌++◌, filter, length}
use Rattle.std.proofs.Common.{drop, refl, sym, ap, ◌∙◌, arith, Some}
use Rattle.std.specs.Prelude.{◌||◌}
use Rattle.std.specs.List.{Contains, slice_get}
use Rattle.std.proofs.lemmas.Bool.{or_right}
use Rattle.lists.specs.Elements.{in_head, in_tail}
use Rattle.serial_model.specs.declared.key.Key.{Key}
use Rattle.homes.specs.Homes.{has_key, same_key}
use Rattle.homes.specs.Laws.{same_key-self, same_key-true}
use Rattle.drop_core.specs.Event.{each_once}
use Rattle.dual_pointer.proofs.Keyed.{first_once}
use Rattle.engine_pages.specs.declared.view.Took.{Took}
use Rattle.page_records.specs.Locks.{not_at}
use Rattle.tree_drops.specs.Leaves.{has_key_from}

-- ---- keys by their index

pub key_there : (keys : List Key) (i : ℕ) → i < length keys → (k : Key) × (slice_get keys i ≡ Some k)
key_there [] i less = absurd (omega (arith, less))
key_there (x ∷ keys) zero less = (x, refl)
key_there (x ∷ keys) (suc i) less = key_there keys i (omega (arith, less))

pub has_at : (keys : List Key) (i : ℕ) (k : Key) → slice_get keys i ≡ Some k → has_key keys k ≡ true
has_at [] i k at = absurd (cc)
has_at (x ∷ keys) zero k at =
    let same : x ≡ k = cc in
    ap (λ (c : Bool). c || has_key keys k) (ap (λ (y : Key). same_key y k) same ∙ same_key-self k)
has_at (x ∷ keys) (suc i) k at = or_right (same_key x k) (has_key keys k) (has_at keys i k at)

pub one_index : (keys : List Key) (i j : ℕ) (k : Key) → each_once keys ≡ true → slice_get keys i ≡ Some k → slice_get keys j ≡ Some k
    → i ≡ j
one_index [] i j k once a b = absurd (cc)
one_index (x ∷ keys) zero zero k once a b = refl
one_index (x ∷ keys) zero (suc j) k once a b =
    let same : x ≡ k = cc in
    absurd (true≢false (sym (has_at keys j k b) ∙ (ap (has_key keys) (sym same) ∙ (first_once x keys once).0)))
one_index (x ∷ keys) (suc i) zero k once a b =
    let same : x ≡ k = cc in
    absurd (true≢false (sym (has_at keys i k a) ∙ (ap (has_key keys) (sym same) ∙ (first_once x keys once).0)))
one_index (x ∷ keys) (suc i) (suc j) k once a b = ap suc (one_index keys i j k (first_once x keys once).1 a b)

-- the keys from one on
pub from_first : (keys : List Key) (i : ℕ) (k : Key) → slice_get keys i ≡ Some k → drop i keys ≡ k ∷ drop (suc i) keys
from_first [] i k at = absurd (cc)
from_first (x ∷ keys) zero k at = let same : x ≡ k = cc in ap (λ (y : Key). y ∷ keys) same
from_first (x ∷ keys) (suc i) k at = from_first keys i k at

pub none_from : (keys : List Key) (i : ℕ) (k : Key) → i ≡ length keys → has_key_from keys i k ≡ false
none_from [] zero k end = refl
none_from [] (suc i) k end = refl
none_from (x ∷ keys) zero k end = absurd (omega (arith, end))
none_from (x ∷ keys) (suc i) k end = none_from keys i k (omega (arith, end))

one_more : (i : ℕ) → i + 1 ≡ suc i
one_more i = omega arith

pub here_from : (keys : List Key) (i : ℕ) (x k : Key) → slice_get keys i ≡ Some x → x ≡ k → has_key_from keys i k ≡ true
here_from keys i x k at same =
    ap (λ (l : List Key). has_key l k) (from_first keys i x at)
    ∙ ap (λ (c : Bool). c || has_key (drop (suc i) keys) k) (ap (λ (y : Key). same_key y k) same ∙ same_key-self k)

pub next_from : (keys : List Key) (i : ℕ) (x k : Key) (b : Bool) → slice_get keys i ≡ Some x → same_key x k ≡ false
    → has_key_from keys (i + 1) k ≡ b → has_key_from keys i k ≡ b
next_from keys i x k b at other rest =
    ap (λ (l : List Key). has_key l k) (from_first keys i x at)
    ∙ (ap (λ (c : Bool). c || has_key (drop (suc i) keys) k) other
    ∙ (ap (λ n. has_key (drop n keys) k) (sym (one_more i)) ∙ rest))

-- ---- one lock more, and less

pub took_same : (k : Key) (took : List Took) → ((x : Took) → Contains took x → same_key x.key k ≡ false) → not_at k took ≡ took
took_same k [] none = refl
took_same k (x ∷ took) none =
    ap (λ (c : Bool). cond (not c) (x ∷ not_at k took) (not_at k took)) (none x (in_head x took))
    ∙ ap (λ (l : List Took). x ∷ l) (took_same k took (λ y has. none y (in_tail y x took has)))

pub took_back : (k : Key) (took : List Took) (last : Took) → last.key ≡ k
    → ((x : Took) → Contains took x → same_key x.key k ≡ false) → not_at k (took ++ last ∷ []) ≡ took
took_back k [] last same none =
    ap (λ (c : Bool). cond (not c) (last ∷ []) []) (ap (λ (y : Key). same_key y k) same ∙ same_key-self k)
took_back k (x ∷ took) last same none =
    ap (λ (c : Bool). cond (not c) (x ∷ not_at k (took ++ last ∷ [])) (not_at k (took ++ last ∷ []))) (none x (in_head x took))
    ∙ ap (λ (l : List Took). x ∷ l) (took_back k took last same (λ y has. none y (in_tail y x took has)))

or_parts : (a c : Bool) → (a || c) ≡ false → (a ≡ false) × (c ≡ false)
or_parts true c e = absurd (true≢false e)
or_parts false c e = (refl, e)

pub locks_back : (k : Key) (locks : List Key) → has_key locks k ≡ false → filter (λ q. not (same_key q k)) (locks ++ k ∷ []) ≡ locks
locks_back k [] none = ap (λ (c : Bool). cond (not c) (k ∷ []) []) (same_key-self k)
locks_back k (x ∷ locks) none =
    let parts = or_parts (same_key x k) (has_key locks k) none in
    ap (λ (c : Bool). cond (not c) (x ∷ filter (λ q. not (same_key q k)) (locks ++ k ∷ [])) (filter (λ q. not (same_key q k)) (locks ++ k ∷ []))) parts.0
    ∙ ap (λ (l : List Key). x ∷ l) (locks_back k locks parts.1)

-- keys that aren't one
pub other_keys : (a b : Key) → (a ≡ b → ⊥) → same_key a b ≡ false
other_keys a b apart = by_test (same_key a b) refl
  where
    by_test : (c : Bool) → same_key a b ≡ c → same_key a b ≡ false
    by_test true hit = absurd (apart (same_key-true a b hit))
    by_test false miss = miss
