-- What a snapshot's leaf has for a key, by its words.
use Rattle.std.proofs.Common.{◌≡◌, ◌≢◌, ◌⊎◌, inl, inr, ℕ, zero, suc, ◌+◌, ◌-◌, ◌*◌, ◌/◌, ◌%◌, ◌^◌, ◌<◌, ◌≤◌, Bool, false, eqb, eq-eqb}
use Rattle.std.proofs.Common.{ne_eqb, List, ◌∷◌, get_or, take, drop, refl, sym, ap, ◌∙◌, subst, arith, Option, Some, None}
use Rattle.std.specs.Prelude.{cond, if◌then◌else◌}
use Rattle.std.proofs.lemmas.List.{drop-drop, get_or-drop}
use Rattle.homes.specs.declared.places.Span.{Span}
use Rattle.wire_form.specs.Leaves.{tree_fan, tree_leaf}
use Rattle.snapshot_store.specs.Places.{Found, page as page_words}
use Rattle.snapshot_store.specs.TreePages.{Inner, Leaf, Record, count_of, first_record, node_below, record_for, records_at, records_of}
use Rattle.engine_pages.specs.declared.view.View.{View}
use Rattle.page_drops.specs.Works.{HasGlanced}
use Rattle.tree_drops.specs.declared.stored.Stored.{Stored}
use Rattle.tree_drops.specs.Leaves.{rest_of, HasCount, IsNoLeaf, IsStored}

-- ---- records in a row

-- the record with this index in a leaf with these words
abbrev pub record_at : List ℕ → ℕ → Record
record_at words j = record {
  key = get_or words (16 + 3 * j) 0;
  found = record { number = get_or words (16 + 3 * j + 1) 0; value = get_or words (16 + 3 * j + 2) 0 };
}

first_is : (words : List ℕ) (at : ℕ)
    → first_record (drop at words)
    ≡ record { key = get_or words at 0; found = record { number = get_or words (at + 1) 0; value = get_or words (at + 2) 0 } }
first_is words at =
    ap (λ (n : ℕ). let r : Record = record { key = n; found = record { number = get_or (drop at words) 1 0; value = get_or (drop at words) 2 0 } } in r)
    (get_or-drop at words 0 0 ∙ ap (λ i. get_or words i 0) (plus at))
    ∙ (ap (λ (n : ℕ). let r : Record = record { key = get_or words at 0; found = record { number = n; value = get_or (drop at words) 2 0 } } in r)
    (get_or-drop at words 1 0)
    ∙ ap (λ (n : ℕ). let r : Record = record { key = get_or words at 0; found = record { number = get_or words (at + 1) 0; value = n } } in r)
    (get_or-drop at words 2 0))
  where
    plus : (n : ℕ) → n + 0 ≡ n
    plus n = omega arith

-- the first of them, and those behind it
pub rest_first : (words : List ℕ) (j n : ℕ) → rest_of words j (suc n) ≡ record_at words j ∷ rest_of words (j + 1) n
rest_first words j n =
    ap (λ (r : Record). r ∷ records_at n (drop 3 (drop (16 + 3 * j) words))) (first_is words (16 + 3 * j))
    ∙ ap (λ (ws : List ℕ). record_at words j ∷ records_at n ws)
    (drop-drop 3 (16 + 3 * j) words ∙ ap (λ i. drop i words) (next j))
  where
    next : (j : ℕ) → (16 + 3 * j) + 3 ≡ 16 + 3 * (j + 1)
    next j = omega arith

-- ---- a key is looked for

pub found_none : (words : List ℕ) (j count key n : ℕ) → j ≡ count → j + n ≡ count → IsStored (rest_of words j n) key None
found_none words j count key zero end all = refl
found_none words j count key (suc n) end all = absurd (omega (arith, end, all))

pub found_here : (words : List ℕ) (j count key here n : ℕ) (s : Stored) → j ≢ count → j + n ≡ count → here ≡ get_or words (16 + 3 * j) 0
    → here ≡ key → s.number ≡ get_or words (16 + 3 * j + 1) 0 → s.value ≡ get_or words (16 + 3 * j + 2) 0
    → IsStored (rest_of words j n) key (Some s)
found_here words j count key here zero s more all is same number value = absurd (more (let e : j ≡ count = omega (arith, all) in e))
found_here words j count key here (suc n) s more all is same number value =
    ap (λ (rs : List Record). record_for rs key) (rest_first words j n)
    ∙ (ap (λ (c : Bool). cond c (Some (record_at words j).found) (record_for (rest_of words (j + 1) n) key))
    (eq-eqb (get_or words (16 + 3 * j) 0) key (sym is ∙ same))
    ∙ (ap (λ (x : ℕ). let o : Option Found = Some (record { number = x; value = get_or words (16 + 3 * j + 2) 0 }) in o) (sym number)
    ∙ ap (λ (x : ℕ). let o : Option Found = Some (record { number = s.number; value = x }) in o) (sym value)))

pub found_next : (words : List ℕ) (j count key here n : ℕ) (s : Option Stored) → j ≢ count → j + n ≡ count
    → here ≡ get_or words (16 + 3 * j) 0 → here ≢ key
    → ((m : ℕ) → (j + 1) + m ≡ count → IsStored (rest_of words (j + 1) m) key s) → IsStored (rest_of words j n) key s
found_next words j count key here zero s more all is other rest = absurd (more (let e : j ≡ count = omega (arith, all) in e))
found_next words j count key here (suc n) s more all is other rest =
    ap (λ (rs : List Record). record_for rs key) (rest_first words j n)
    ∙ (ap (λ (c : Bool). cond c (Some (record_at words j).found) (record_for (rest_of words (j + 1) n) key))
    (ne_eqb (get_or words (16 + 3 * j) 0) key (λ same. other (is ∙ same)))
    ∙ rest n (omega (arith, all)))

-- ---- a leaf's records

-- how many there are
pub count_is : (pages : List (List ℕ)) (sp : Span) (page header : ℕ) → header ≡ get_or (page_words pages page) 0 0
    → (page ≡ 0) ⊎ ((header / 2 ^ 8) % 2 ^ 8 ≡ 1) → (page ≡ 0 → header ≡ 0) → header % 256 ≤ 16
    → HasCount pages sp page (header % 256)
count_is pages sp page header is leaf empty few =
    let words : List ℕ = page_words pages page in
    let not-inner : header / 256 ≢ 2 = elim leaf [
      | inl none ↦ λ two. let nothing = empty none in absurd (omega (arith, two, nothing))
      | inr one ↦ λ two. absurd (omega (arith, two, one))
    ] in
    let kind : eqb (get_or words 0 0 / 256) 2 ≡ false =
    ne_eqb (get_or words 0 0 / 256) 2 (λ two. not-inner (ap (λ (n : ℕ). n / 256) is ∙ two)) in record {
      few = few;
      records = ap (λ (i : Bool). records_of (if i then Inner (take (count_of words - 1) (drop (4 + tree_fan) words)) (take (count_of words) (drop 4 words)) else Leaf (records_at (count_of words) (drop tree_leaf.first words)))) kind
          ∙ ap (λ (n : ℕ). rest_of words 0 (n % 256)) (sym is);
      leaf =
          ap (λ (i : Bool). node_below sp.low sp.high (if i then Inner (take (count_of words - 1) (drop (4 + tree_fan) words)) (take (count_of words) (drop 4 words)) else Leaf (records_at (count_of words) (drop tree_leaf.first words)))) kind;
    }

pub no_leaf : (pages : List (List ℕ)) (page header : ℕ) → header ≡ get_or (page_words pages page) 0 0
    → (0 < page) × ((header / 2 ^ 8) % 2 ^ 8 ≢ 1) → IsNoLeaf page (page_words pages page)
no_leaf pages page header is other = inl (other.0, λ one. other.1 (ap (λ (n : ℕ). (n / 2 ^ 8) % 2 ^ 8) is ∙ one))

pub too_many : (pages : List (List ℕ)) (page header : ℕ) → header ≡ get_or (page_words pages page) 0 0 → 16 < header % 256
    → IsNoLeaf page (page_words pages page)
too_many pages page header is many = inr (subst (λ (n : ℕ). 16 < n % 2 ^ 8) is many)

-- ---- views that only looked

pub words_glanced : (page : ℕ) (v w : View) → HasGlanced v w → page_words w.pages page ≡ page_words v.pages page
words_glanced page v w h = ap (λ (z : View). page_words z.pages page) h.is

pub pages_glanced : (v w : View) → HasGlanced v w → w.pages ≡ v.pages
pages_glanced v w h = ap (λ (z : View). z.pages) h.is
