-- A key is looked for in a leaf.
use Rattle.std.proofs.Common.{◌≡◌, ◌≢◌, ℕ, zero, suc, ◌+◌, ◌*◌, ◌<◌, Bool, true, false, eqb, eqb-true, ne_eqb, eq-eqb, true≢false, List, [], ◌∷◌}
use Rattle.std.proofs.Common.{length, refl, sym, ap, ◌∙◌, subst, arith, Option, Some}
use Rattle.std.specs.Prelude.{◌&&◌, ◌||◌}
use Rattle.std.specs.List.{slice_get}
use Rattle.lists.specs.Elements.{any_in, at_below, at_in}
use Rattle.serial_model.specs.declared.key.Key.{Key}
use Rattle.homes.specs.Homes.{has_key, same_key}
use Rattle.homes.specs.Laws.{same_key-self}
use Rattle.engine_pages.specs.declared.view.View.{View}
use Rattle.tree_heads.specs.Headers.{HasWord, count_of}
use Rattle.array_pages.specs.Finding.{HasGlanced}
use Rattle.tree_walks.specs.declared.ways.Leaf.{Leaf}
use Rattle.tree_walks.specs.Ways.{IsLeafAt}
use Rattle.tree_walks.proofs.HalfLaws.{bounds_of}
use Rattle.tree_walks.proofs.LoadLaws.{glanced_known}

pub searched_none : (keys : List Key) (k : Key) → ((j : ℕ) (q : Key) → slice_get keys j ≡ Some q → q.key ≢ k.key)
    → has_key keys k ≡ false
searched_none [] k none = refl
searched_none (x ∷ keys) k none =
    ap (λ (b : Bool). (eqb x.storage k.storage && b) || has_key keys k) (ne_eqb x.key k.key (none 0 x refl))
    ∙ (ap (λ (b : Bool). b || has_key keys k) (and_no (eqb x.storage k.storage))
    ∙ searched_none keys k (λ j q at. none (suc j) q at))
  where
    and_no : (b : Bool) → (b && false) ≡ false
    and_no true = refl
    and_no false = refl

key_there : (keys : List Key) (i : ℕ) → i < length keys → (q : Key) × (slice_get keys i ≡ Some q)
key_there [] i less = absurd (omega (arith, less))
key_there (x ∷ keys) zero less = (x, refl)
key_there (x ∷ keys) (suc i) less = key_there keys i (omega (arith, less))

-- the word with this index was loaded, behind loads of others
module _ (k : Key) (leaf : Leaf) (index at : ℕ) (v u : View) (n : ℕ) (w : View) (gl : HasGlanced v u)
    (h : HasWord leaf.slot (16 + 3 * index) at u n w) (less : index < count_of leaf.header) where
  word_of : (l : IsLeafAt k leaf v) (q : Key) → slice_get l.keys index ≡ Some q → n ≡ q.key
  word_of l q at_index =
      h.key (record { slot = leaf.slot; keys = l.keys }) index q (glanced_known v u (record { slot = leaf.slot; keys = l.keys }) gl l.knows)
      refl at_index refl

  -- it is that of the key
  pub searched_here : (l : IsLeafAt k leaf v) → n ≡ k.key → slice_get l.keys index ≡ Some k
  searched_here l same =
      let count = l.count in
      let q = key_there l.keys index (omega (arith, count, less)) in
      let inside =
      l.inside q.0 (any_in (λ (z : Key). same_key z q.0) l.keys q.0 (at_in l.keys index q.0 q.1) (same_key-self q.0)) in
      let storage : (q.0).storage ≡ k.storage =
      (bounds_of leaf.span q.0 inside).0 ∙ sym (bounds_of leaf.span k (l.on).over).0 in
      let key : (q.0).key ≡ k.key = sym (word_of l q.0 q.1) ∙ same in
      q.1 ∙ (ap (λ (s : ℕ). let o : Option Key = Some (record { storage = s; key = (q.0).key }) in o) storage
      ∙ ap (λ (i : ℕ). let o : Option Key = Some (record { storage = k.storage; key = i }) in o) key)

  -- it isn't
  pub searched_on : n ≢ k.key
      → ((l : IsLeafAt k leaf v) (j : ℕ) (q : Key) → j < index → slice_get l.keys j ≡ Some q → q.key ≢ k.key)
      → (l : IsLeafAt k leaf v) (j : ℕ) (q : Key) → j < index + 1 → slice_get l.keys j ≡ Some q → q.key ≢ k.key
  searched_on other none l j q less at_j = by_test (eqb j index) refl
    where
      by_test : (b : Bool) → eqb j index ≡ b → q.key ≢ k.key
      by_test true same =
          let is = eqb-true j index same in
          λ e. other (word_of l q (subst (λ i. slice_get l.keys i ≡ Some q) is at_j) ∙ e)
      by_test false apart =
          let low : j < index = (let ne : j ≢ index = (λ e. true≢false (sym (eq-eqb j index e) ∙ apart)) in omega (arith, less, ne)) in
          none l j q low at_j

-- all were looked at
pub searched_all : (k : Key) (leaf : Leaf) (v : View)
    → ((l : IsLeafAt k leaf v) (j : ℕ) (q : Key) → j < count_of leaf.header → slice_get l.keys j ≡ Some q → q.key ≢ k.key)
    → (l : IsLeafAt k leaf v) → has_key l.keys k ≡ false
searched_all k leaf v none l =
    searched_none l.keys k (λ j q at_j.
    none l j q (let less = at_below l.keys j q at_j in let count = l.count in omega (arith, less, count)) at_j)
