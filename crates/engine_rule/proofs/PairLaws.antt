-- A pointer's part has what the snapshot page has, for each key that the pointer is over.
use Rattle.std.proofs.Common.{◌≡◌, ℕ, zero, suc, Bool, true, false, true≢false, eqb, ◌||◌, ◌⊎◌, inl, inr, List, [], ◌∷◌, ◌++◌, map, filter, refl, sym, ap, ◌∙◌}
use Rattle.std.proofs.lemmas.Bool.{cases_Bool, and_parts, cond-true, cond-false}
use Rattle.serial_model.specs.declared.key.Key.{Key}
use Rattle.homes.specs.declared.places.Content.{Content}
use Rattle.homes.specs.declared.places.At.{At}
use Rattle.homes.specs.declared.places.Span.{Span}
use Rattle.homes.specs.declared.places.Home.{Home}
use Rattle.homes.specs.declared.places.Home.TheVariants.{InPage, Nowhere}
use Rattle.homes.specs.Homes.{look, same_key, has_key, in_span}
use Rattle.homes.specs.Laws.{same_key-true}
use Rattle.commit_core.specs.Keys.{nothing}
use Rattle.commit_core.specs.Parts.{covers, found}
use Rattle.drop_core.specs.declared.table.SnapPage.{SnapPage}
use Rattle.drop_core.specs.declared.table.SnapPage.TheVariants.{Missing, Entries, Children}
use Rattle.drop_core.specs.declared.table.Table.{Table}
use Rattle.drop_core.specs.Table.{pointer_of, snap_of, entry_home, child_of, snap_step, snap_walk, snap_home}
use Rattle.drop_core.specs.Sound.{span_at}
use Rattle.engine_rule.specs.Pairs.{page_content, page_keys, snap_keys, pointer_part}

-- ---- look-ups in a list that is made key by key

pub look-made : {V : Type 0} (f : Key → V) (d : V) (keys : List Key) (k : Key)
    → (look same_key d (map (λ q. (q, f q)) keys) k ≡ f k) ⊎ ((look same_key d (map (λ q. (q, f q)) keys) k ≡ d) × (has_key keys k ≡ false))
look-made f d [] k = inr (refl, refl)
look-made {V} f d (x ∷ more) k =
    let rest : V = look same_key d (map (λ q. (q, f q)) more) k in
    elim (cases_Bool (same_key x k)) [
      | inl hit ↦ inl (cond-true (same_key x k) (f x) rest hit ∙ ap f (same_key-true x k hit))
      | inr miss ↦ elim (look-made f d more k) [
        | inl is ↦ inl (cond-false (same_key x k) (f x) rest miss ∙ is)
        | inr r ↦ inr (cond-false (same_key x k) (f x) rest miss ∙ r.0, both_false (same_key x k) (has_key more k) miss r.1)
      ]
    ]
  where
    both_false : (a b : Bool) → a ≡ false → b ≡ false → (a || b) ≡ false
    both_false a b e f = rw e f

-- ---- keys that no page has an entry of

either_false : (a b : Bool) → (a || b) ≡ false → (a ≡ false) × (b ≡ false)
either_false true b e = absurd (true≢false e)
either_false false b e = (refl, e)

append_false : (xs ys : List Key) (k : Key) → has_key (xs ++ ys) k ≡ false → (has_key xs k ≡ false) × (has_key ys k ≡ false)
append_false [] ys k e = (refl, e)
append_false (x ∷ xs) ys k e =
    let a = either_false (same_key x k) (has_key (xs ++ ys) k) e in
    let b = append_false xs ys k a.1 in
    (both_false (same_key x k) (has_key xs k) a.0 b.0, b.1)
  where
    both_false : (a b : Bool) → a ≡ false → b ≡ false → (a || b) ≡ false
    both_false a b e f = rw e f

entries-none : (n : ℕ) (entries : List (Key × Content)) (k : Key) → has_key (map (λ e. e.0) entries) k ≡ false → entry_home n entries k ≡ Nowhere
entries-none n [] k e = refl
entries-none n (x ∷ more) k e =
    let a = either_false (same_key x.0 k) (has_key (map (λ y. y.0) more) k) e in
    cond-false (same_key x.0 k) (InPage n x.1) (entry_home n more k) a.0 ∙ entries-none n more k a.1

snaps-none : (snaps : List (ℕ × SnapPage)) (k : Key) → has_key (snap_keys snaps) k ≡ false → (n : ℕ) → has_key (page_keys (look (λ a b. eqb a b) Missing snaps n)) k ≡ false
snaps-none [] k e n = refl
snaps-none (s ∷ more) k e n =
    let a = append_false (page_keys s.1) (snap_keys more) k e in
    elim (cases_Bool (eqb s.0 n)) [
      | inl hit ↦ ap (λ (q : SnapPage). has_key (page_keys q) k) (cond-true (eqb s.0 n) s.1 (look (λ a b. eqb a b) Missing more n) hit) ∙ a.0
      | inr miss ↦ ap (λ (q : SnapPage). has_key (page_keys q) k) (cond-false (eqb s.0 n) s.1 (look (λ a b. eqb a b) Missing more n) miss) ∙ snaps-none more k a.1 n
    ]

step-none : (down : ℕ → Key → Home) (n : ℕ) (k : Key) (page : SnapPage) → has_key (page_keys page) k ≡ false → ((l : ℕ) → down l k ≡ Nowhere) → snap_step down n k page ≡ Nowhere
step-none down n k Missing none below = refl
step-none down n k (Entries span entries) none below = entries-none n entries k none
step-none down n k (Children span children) none below = below (child_of children k)

walk-none : (snaps : ℕ → SnapPage) (k : Key) → ((n : ℕ) → has_key (page_keys (snaps n)) k ≡ false) → (f n : ℕ) → snap_walk f snaps n k ≡ Nowhere
unfolding snap_walk
walk-none snaps k none zero n = refl
walk-none snaps k none (suc f) n = step-none (λ m q. snap_walk f snaps m q) n k (snaps n) (none n) (λ l. walk-none snaps k none f l)

-- it has no home in any page
pub home-none : (d : Table) (k : Key) → has_key (snap_keys d.snaps) k ≡ false → (n : ℕ) → snap_home d n k ≡ Nowhere
home-none d k e n = walk-none (snap_of d) k (snaps-none d.snaps k e) n n

-- ---- the pairs of a pointer

-- of keys of the span those of the span alone are enough
span-none : (w : Span) (keys : List Key) (k : Key) → in_span w k ≡ true → has_key (filter (in_span w) keys) k ≡ false → has_key keys k ≡ false
span-none w [] k inside e = refl
span-none w (x ∷ more) k inside e =
    elim (cases_Bool (in_span w x)) [
      | inl hit ↦
          let a = either_false (same_key x k) (has_key (filter (in_span w) more) k) (sym (ap (λ (l : List Key). has_key l k) (cond-true (in_span w x) (x ∷ filter (in_span w) more) (filter (in_span w) more) hit)) ∙ e) in
          both_false (same_key x k) (has_key more k) a.0 (span-none w more k inside a.1)
      | inr miss ↦
          both_false (same_key x k) (has_key more k) (other miss)
          (span-none w more k inside (sym (ap (λ (l : List Key). has_key l k) (cond-false (in_span w x) (x ∷ filter (in_span w) more) (filter (in_span w) more) miss)) ∙ e))
    ]
  where
    both_false : (a b : Bool) → a ≡ false → b ≡ false → (a || b) ≡ false
    both_false a b e f = rw e f

    other : in_span w x ≡ false → same_key x k ≡ false
    other miss = elim (cases_Bool (same_key x k)) [
      | inl hit ↦ absurd (true≢false (sym inside ∙ ap (in_span w) (sym (same_key-true x k hit)) ∙ miss))
      | inr e ↦ e
    ]

-- the keys that a pointer's part covers are those that the pointer is over
pub covers-inside : (d : Table) (x : At) (k : Key) → covers (pointer_part d x) k ≡ true → in_span (span_at d x) k ≡ true
covers-inside d x k c = (and_parts (in_span (span_at d x) k) true c).0

pub part-right : (d : Table) (x : At) (k : Key) → covers (pointer_part d x) k ≡ true
    → page_content (snap_home d (pointer_of d x).page k) ≡ found (pointer_part d x) k
part-right d x k c =
    let n : ℕ = (pointer_of d x).page in
    let keys : List Key = filter (in_span (span_at d x)) (snap_keys d.snaps) in
    elim (look-made (λ q. page_content (snap_home d n q)) nothing keys k) [
      | inl is ↦ sym is
      | inr r ↦ ap page_content (home-none d k (span-none (span_at d x) (snap_keys d.snaps) k (covers-inside d x k c) r.1) n) ∙ sym r.0
    ]
