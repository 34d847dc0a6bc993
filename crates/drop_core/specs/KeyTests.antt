-- The tests of conditions on all keys below a page go over the keys that some snapshot page has an entry of. They decide what
-- they stand for, of all keys.
use Rattle.std.proofs.Common.{◌≡◌, ℕ, zero, suc, Bool, true, false, not, true≢false, eqb, eq-eqb, ◌&&◌, ◌||◌, ◌⊎◌, inl, inr, List, [], ◌∷◌, refl, sym, ap, ◌∙◌, subst, Option, Some, None}
use Rattle.std.proofs.lemmas.Bool.{and_parts, and_from, or_left, or_right, cases_Bool, cond-true, cond-false}
use Rattle.std.specs.List.{list_all}
use Rattle.serial_model.specs.declared.key.Key.{Key}
use Rattle.homes.specs.declared.places.Content.{Content}
use Rattle.homes.specs.declared.places.Span.{Span}
use Rattle.homes.specs.declared.places.Home.{Home}
use Rattle.homes.specs.declared.places.Home.TheVariants.{InSlot, InPage, Nowhere}
use Rattle.homes.specs.Homes.{same_key, same_value, same_content, same_home, has_key, in_span, look}
use Rattle.homes.specs.Laws.{same_key-true, same_spot-self, same_home-true}
use Rattle.drop_core.specs.declared.table.SnapPage.{SnapPage}
use Rattle.drop_core.specs.declared.table.SnapPage.TheVariants.{Missing, Entries, Children}
use Rattle.drop_core.specs.declared.table.Table.{Table}
use Rattle.drop_core.specs.Table.{snap_of, entry_home, child_of, snap_step, snap_walk, snap_home}
use Rattle.drop_core.specs.Event.{page_keys_pass, keys_pass, is_left_in, leaves_none_out, is_same_at, same_below}

-- ---- keys that some snapshot page has an entry of

entries-pass : (test : Key → Bool) (n : ℕ) (entries : List (Key × Content)) (k : Key) → list_all (λ e. test e.0) entries ≡ true → (entry_home n entries k ≡ Nowhere) ⊎ (test k ≡ true)
entries-pass test n [] k all = inl refl
entries-pass test n (e ∷ more) k all =
    let parts = and_parts (test e.0) (list_all (λ e. test e.0) more) all in
    elim (cases_Bool (same_key e.0 k)) [
      | inl hit ↦ inr (subst (λ (q : Key). test q ≡ true) (same_key-true e.0 k hit) parts.0)
      | inr miss ↦ elim (entries-pass test n more k parts.1) [
        | inl none ↦ inl (cond-false (same_key e.0 k) (InPage n e.1) (entry_home n more k) miss ∙ none)
        | inr pass ↦ inr pass
      ]
    ]

snaps-pass : (test : Key → Bool) (snaps : List (ℕ × SnapPage)) → keys_pass test snaps ≡ true → (n : ℕ) → page_keys_pass test (look (λ a b. eqb a b) Missing snaps n) ≡ true
snaps-pass test [] all n = refl
snaps-pass test (s ∷ more) all n =
    let parts = and_parts (page_keys_pass test s.1) (keys_pass test more) all in
    elim (cases_Bool (eqb s.0 n)) [
      | inl hit ↦ ap (page_keys_pass test) (cond-true (eqb s.0 n) s.1 (look (λ a b. eqb a b) Missing more n) hit) ∙ parts.0
      | inr miss ↦ ap (page_keys_pass test) (cond-false (eqb s.0 n) s.1 (look (λ a b. eqb a b) Missing more n) miss) ∙ snaps-pass test more parts.1 n
    ]

step-pass : (test : Key → Bool) (down : ℕ → Key → Home) → ((n : ℕ) (k : Key) → (down n k ≡ Nowhere) ⊎ (test k ≡ true))
    → (n : ℕ) (k : Key) (page : SnapPage) → page_keys_pass test page ≡ true → (snap_step down n k page ≡ Nowhere) ⊎ (test k ≡ true)
step-pass test down goes n k Missing pass = inl refl
step-pass test down goes n k (Entries over entries) pass = entries-pass test n entries k pass
step-pass test down goes n k (Children over children) pass = goes (child_of children k) k

walk-pass : (test : Key → Bool) (snaps : ℕ → SnapPage) → ((n : ℕ) → page_keys_pass test (snaps n) ≡ true) → (f n : ℕ) (k : Key) → (snap_walk f snaps n k ≡ Nowhere) ⊎ (test k ≡ true)
unfolding snap_walk
walk-pass test snaps pass zero n k = inl refl
walk-pass test snaps pass (suc f) n k = step-pass test (λ m q. snap_walk f snaps m q) (λ m q. walk-pass test snaps pass f m q) n k (snaps n) (pass n)

-- a key that doesn't pass has no home in any page
home-pass : (d : Table) (test : Key → Bool) → keys_pass test d.snaps ≡ true → (n : ℕ) (k : Key) → (snap_home d n k ≡ Nowhere) ⊎ (test k ≡ true)
home-pass d test all n k = walk-pass test (snap_of d) (snaps-pass test d.snaps all) n n k

-- ---- what the tests over keys decide

unless : (a b : Bool) → (not a || b) ≡ true → a ≡ true → b ≡ true
unless true b e t = e
unless false b e t = absurd (true≢false (sym t))

-- a key of the span that isn't in the list has no home by page n
pub none-out : (d : Table) (n : ℕ) (span : Span) (keys : List Key) → leaves_none_out d n span keys ≡ true
    → (k : Key) → in_span span k ≡ true → has_key keys k ≡ false → snap_home d n k ≡ Nowhere
none-out d n span keys all k inside miss =
    elim (home-pass d (λ q. not (in_span span q) || (has_key keys q || same_home (snap_home d n q) Nowhere)) all n k) [
      | inl none ↦ none
      | inr pass ↦ same_home-true (snap_home d n k) Nowhere
          (sym (ap (λ (b : Bool). b || same_home (snap_home d n k) Nowhere) miss) ∙ unless (in_span span k) (has_key keys k || same_home (snap_home d n k) Nowhere) pass inside)
    ]

-- each key of the span has one home by both pages
pub same-homes : (d : Table) (span : Span) (m n : ℕ) → same_below d span m n ≡ true → (k : Key) → in_span span k ≡ true → snap_home d m k ≡ snap_home d n k
same-homes d span m n all k inside =
    elim (home-pass d (λ q. not (in_span span q) || same_home (snap_home d m q) (snap_home d n q)) all m k) [
      | inl none ↦ elim (home-pass d (λ q. not (in_span span q) || same_home (snap_home d m q) (snap_home d n q)) all n k) [
        | inl also ↦ none ∙ sym also
        | inr pass ↦ passes pass
      ]
      | inr pass ↦ passes pass
    ]
  where
    passes : (not (in_span span k) || same_home (snap_home d m k) (snap_home d n k)) ≡ true → snap_home d m k ≡ snap_home d n k
    passes pass = same_home-true (snap_home d m k) (snap_home d n k) (unless (in_span span k) (same_home (snap_home d m k) (snap_home d n k)) pass inside)

-- ---- and what passes them

entries_all : (test : Key → Bool) → ((k : Key) → test k ≡ true) → (entries : List (Key × Content)) → list_all (λ e. test e.0) entries ≡ true
entries_all test all [] = refl
entries_all test all (e ∷ more) = and_from (test e.0) (list_all (λ e. test e.0) more) (all e.0) (entries_all test all more)

page_all : (test : Key → Bool) → ((k : Key) → test k ≡ true) → (page : SnapPage) → page_keys_pass test page ≡ true
page_all test all Missing = refl
page_all test all (Entries span entries) = entries_all test all entries
page_all test all (Children span children) = refl

all_pass : (test : Key → Bool) → ((k : Key) → test k ≡ true) → (snaps : List (ℕ × SnapPage)) → keys_pass test snaps ≡ true
all_pass test all [] = refl
all_pass test all (s ∷ more) = and_from (page_keys_pass test s.1) (keys_pass test more) (page_all test all s.1) (all_pass test all more)

same_value-self : (v : Option ℕ) → same_value v v ≡ true
same_value-self None = refl
same_value-self (Some x) = eq-eqb x x refl

same_content-self : (c : Content) → same_content c c ≡ true
same_content-self c =
    and_from (eqb c.number.epoch c.number.epoch) (eqb c.number.draw c.number.draw && same_value c.value c.value) (eq-eqb c.number.epoch c.number.epoch refl)
    (and_from (eqb c.number.draw c.number.draw) (same_value c.value c.value) (eq-eqb c.number.draw c.number.draw refl) (same_value-self c.value))

same_home-self : (h : Home) → same_home h h ≡ true
same_home-self (InSlot x) = same_spot-self x
same_home-self (InPage n c) = and_from (eqb n n) (same_content c c) (eq-eqb n n refl) (same_content-self c)
same_home-self Nowhere = refl

same_home_from : (a b : Home) → a ≡ b → same_home a b ≡ true
same_home_from a b e = subst (λ (h : Home). same_home a h ≡ true) e (same_home-self a)

-- where a key of the span that isn't in the list has no home by page n, the test passes
pub none-out_back : (d : Table) (n : ℕ) (span : Span) (keys : List Key)
    → ((k : Key) → in_span span k ≡ true → has_key keys k ≡ false → snap_home d n k ≡ Nowhere) → leaves_none_out d n span keys ≡ true
none-out_back d n span keys none = all_pass (is_left_in d n span keys) passes d.snaps
  where
    in_it : (k : Key) → in_span span k ≡ true → (has_key keys k || same_home (snap_home d n k) Nowhere) ≡ true
    in_it k inside = elim (cases_Bool (has_key keys k)) [
      | inl hit ↦ or_left (has_key keys k) (same_home (snap_home d n k) Nowhere) hit
      | inr miss ↦ or_right (has_key keys k) (same_home (snap_home d n k) Nowhere) (same_home_from (snap_home d n k) Nowhere (none k inside miss))
    ]

    passes : (k : Key) → is_left_in d n span keys k ≡ true
    passes k = elim (cases_Bool (in_span span k)) [
      | inl inside ↦ or_right (not (in_span span k)) (has_key keys k || same_home (snap_home d n k) Nowhere) (in_it k inside)
      | inr outside ↦ or_left (not (in_span span k)) (has_key keys k || same_home (snap_home d n k) Nowhere) (ap not outside)
    ]

-- where each key of the span has one home by both pages, the test passes
pub same-homes_back : (d : Table) (span : Span) (m n : ℕ)
    → ((k : Key) → in_span span k ≡ true → snap_home d m k ≡ snap_home d n k) → same_below d span m n ≡ true
same-homes_back d span m n same = all_pass (is_same_at d span m n) passes d.snaps
  where
    passes : (k : Key) → is_same_at d span m n k ≡ true
    passes k = elim (cases_Bool (in_span span k)) [
      | inl inside ↦ or_right (not (in_span span k)) (same_home (snap_home d m k) (snap_home d n k)) (same_home_from (snap_home d m k) (snap_home d n k) (same k inside))
      | inr outside ↦ or_left (not (in_span span k)) (same_home (snap_home d m k) (snap_home d n k)) (ap not outside)
    ]
