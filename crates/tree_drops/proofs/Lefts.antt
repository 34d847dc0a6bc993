-- How the pointers of an interior page are left, one after another, from the last one on.
use Rattle.std.proofs.Common.{◌≡◌, ◌≢◌, inl, inr, ℕ, suc, ◌+◌, ◌<◌, ◌≤◌, ◌^◌, Bool, true, false, eqb, eqb-true, eq-eqb, ltb, ltb-true, ltb-false, true≢false, List}
use Rattle.std.proofs.Common.{Some, None, Option, refl, sym, ap, ◌∙◌, subst, arith}
use Rattle.std.specs.Prelude.{MatchBool}
use Rattle.std.specs.List.{slice_get}
use Rattle.drop_core.specs.Table.{at_index}
use Rattle.homes.specs.declared.places.Span.{Span}
use Rattle.snapshot_store.specs.declared.place.PagePlace.{PagePlace}
use Rattle.engine_pages.specs.declared.layout.Layout.{Layout}
use Rattle.engine_pages.specs.declared.view.KeptWhy.{KeptWhy}
use Rattle.engine_pages.specs.declared.view.Read.{Read}
use Rattle.engine_pages.specs.declared.view.View.{View}
use Rattle.engine_pages.specs.Layout.{page_at}
use Rattle.engine_pages.specs.Resident.{tree_below}
use Rattle.engine_pages.specs.Steps.{kept_at, read_at, seen_at, with_read}
use Rattle.pointer_swings.specs.Shuts.{HasShut as ShutIs, reopened, shut_at}
use Rattle.page_drops.specs.declared.noting.Kept.{Kept}
use Rattle.page_drops.specs.Inner.{IsLaterNote, IsShutNote}
use Rattle.page_drops.specs.Works.{read_of, IsNoted}
use Rattle.page_drops.proofs.Entries.{entry_of, other_entry, own_entry, seen_of, seen_same}
use Rattle.tree_drops.specs.Branches.{AreLeft, FoundOther, IsBehind, IsLeft, KeepsFirst}

-- where the pointer with an index stands
abbrev pub pointer_at : View → ℕ → ℕ → ℕ
pointer_at v t i = page_at v.layout.slots t (4 + i)

other_at : (slots t i j : ℕ) → i ≢ j → page_at slots t (4 + i) ≡ page_at slots t (4 + j) → ⊥
other_at slots t i j apart same = apart (let one : i ≡ j = omega (arith, same) in one)

-- one entry more, of the pointer with an index
module _ (t n m : ℕ) (v w : View) (is : w.reads ≡ with_read v.reads (page_at v.layout.slots t (4 + n)) m) where
  pub entry_own : read_of w.reads (pointer_at v t n) ≡ Some (entry_of v.reads (pointer_at v t n) m (kept_at v.reads (pointer_at v t n)))
  entry_own = ap (λ (l : List Read). read_of l (pointer_at v t n)) is ∙ own_entry v.reads (pointer_at v t n) m (kept_at v.reads (pointer_at v t n))

  pub entry_other : (j : ℕ) → j ≢ n → read_of w.reads (pointer_at v t j) ≡ read_of v.reads (pointer_at v t j)
  entry_other j apart =
      ap (λ (l : List Read). read_of l (pointer_at v t j)) is
      ∙ other_entry v.reads (pointer_at v t n) m (kept_at v.reads (pointer_at v t n)) (pointer_at v t j) (other_at v.layout.slots t j n apart)

  pub first_kept : KeepsFirst t n v w
  first_kept j less = entry_other j (λ same. absurd (omega (arith, less, same)))

-- what is told of a later view, where the words stand in the same places
abbrev pub StandsSo : View → View → Type 0
StandsSo v a = a.layout ≡ v.layout

pub first_then : (t n : ℕ) (u v w : View) → StandsSo u v → KeepsFirst t n u v → KeepsFirst t n v w → KeepsFirst t n u w
first_then t n u v w layout a b j less =
    subst (λ (l : Layout). read_of w.reads (page_at l.slots t (4 + j)) ≡ read_of v.reads (page_at l.slots t (4 + j))) layout
    (b j less)
    ∙ a j less

pub first_fewer : (t n m : ℕ) (v w : View) → n ≤ m → KeepsFirst t m v w → KeepsFirst t n v w
first_fewer t n m v w most h j less = h j (omega (arith, less, most))

pub first_same : (t n : ℕ) (v w : View) → w.reads ≡ v.reads → KeepsFirst t n v w
first_same t n v w same j less = ap (λ (l : List Read). read_of l (page_at v.layout.slots t (4 + j))) same

pub behind_back : (t n : ℕ) (k : Kept) (v a : View) → StandsSo v a → IsBehind t n k a → IsBehind t n k v
behind_back t n k v a layout h j less =
    subst (λ (l : Layout). k.word ≢ page_at l.slots t (4 + j)) layout (h j less)

pub behind_fewer : (t n m : ℕ) (k : Kept) (v : View) → n ≤ m → IsBehind t m k v → IsBehind t n k v
behind_fewer t n m k v most h j less = h j (omega (arith, less, most))

-- a word of the page is none of those before it
pub behind_own : (t n : ℕ) (k : Kept) (v : View) → k.word ≡ page_at v.layout.slots t (4 + n) → IsBehind t n k v
behind_own t n k v word j less same =
    other_at v.layout.slots t n j (λ one. absurd (omega (arith, less, one))) (sym word ∙ same)

-- nor is one of another page
pub behind_above : (t n count at : ℕ) (k : Kept) (v : View) → n ≤ count → count ≤ 30
    → ((i : ℕ) → i < 64 → at ≡ page_at v.layout.slots t i → ⊥) → k.word ≡ at → IsBehind t n k v
behind_above t n count at k v most few apart word j less same =
    apart (4 + j) (omega (arith, less, most, few)) (sym word ∙ same)

-- ---- one more of them

-- an index is the first one or behind it
next_index : (n j : ℕ) → n ≤ j → j ≢ n → suc n ≤ j
next_index n j low apart = by_test (ltb n j) refl
  where
    by_test : (c : Bool) → ltb n j ≡ c → suc n ≤ j
    by_test true less = let more = ltb-true n j less in omega (arith, more)
    by_test false high = let up = ltb-false n j high in absurd (apart (let same : j ≡ n = omega (arith, up, low) in same))

module _ (t page count n : ℕ) (sp : Span) (q : PagePlace) (v a : View) (layout : a.layout ≡ v.layout) (pages : a.pages ≡ v.pages)
    (here : slice_get (tree_below v.pages sp page) n ≡ Some q) where
  child_here : (j : ℕ) (p : PagePlace) → j ≡ n → slice_get (tree_below v.pages sp page) j ≡ Some p → p ≡ q
  child_here j p same is =
      let one : slice_get (tree_below v.pages sp page) n ≡ Some p =
      subst (λ i. slice_get (tree_below v.pages sp page) i ≡ Some p) same is in cc

  below_then : (j : ℕ) (p : PagePlace) → slice_get (tree_below v.pages sp page) j ≡ Some p
      → slice_get (tree_below a.pages sp page) j ≡ Some p
  below_then j p is = subst (λ ps. slice_get (tree_below ps sp page) j ≡ Some p) (sym pages) is

  -- ---- it was shut, and so were those behind it
  module _ (left : a.reads ≡ with_read v.reads (page_at v.layout.slots t (4 + n)) (q.number + 2 ^ 60)) where
    -- the entries of those behind it are those of before
    was_other : (j : ℕ) → j ≢ n → seen_at a.reads (pointer_at v t j) ≡ seen_at v.reads (pointer_at v t j)
    was_other j apart = seen_same v.reads a.reads (pointer_at v t j) (entry_other t n (q.number + 2 ^ 60) v a left j apart)

    pub shut_next : (w : View) → KeepsFirst t (n + 1) a w → AreLeft None t sp page count (n + 1) a w → AreLeft None t sp page count n v w
    shut_next w first rest j p low less is = by_index (eqb j n) refl
      where
        own : (q : PagePlace) → IsShutNote (seen_at v.reads (pointer_at v t n)) q.number (read_of a.reads (pointer_at v t n))
            → IsShutNote (seen_at v.reads (pointer_at v t n)) q.number (read_of w.reads (pointer_at v t n))
        own q h =
            let same : read_of w.reads (pointer_at v t n) ≡ read_of a.reads (pointer_at v t n) =
            subst (λ (l : Layout). read_of w.reads (page_at l.slots t (4 + n)) ≡ read_of a.reads (page_at l.slots t (4 + n))) layout
            (first n (omega arith)) in (h.0, same ∙ h.1, h.2, h.3)

        by_index : (c : Bool) → eqb j n ≡ c → IsLeft None (pointer_at v t j) p.number v w
        by_index true same =
            let one = eqb-true j n same in
            subst (λ i. IsLeft None (pointer_at v t i) p.number v w) (sym one)
            (subst (λ (x : PagePlace). IsLeft None (pointer_at v t n) x.number v w) (sym (child_here j p one is))
            (own q (
              entry_of v.reads (pointer_at v t n) (q.number + 2 ^ 60) (kept_at v.reads (pointer_at v t n)),
              entry_own t n (q.number + 2 ^ 60) v a left,
              refl,
              refl,
            )))
        by_index false other =
            let apart : j ≢ n = λ same. true≢false (sym (eq-eqb j n same) ∙ other) in
            let h = rest j p (let more = next_index n j low apart in omega (arith, more)) less (below_then j p is) in
            let late : IsShutNote (seen_at a.reads (pointer_at v t j)) p.number (read_of w.reads (pointer_at v t j)) =
            subst (λ (l : Layout). IsShutNote (seen_at a.reads (page_at l.slots t (4 + j))) p.number (read_of w.reads (page_at l.slots t (4 + j))))
            layout h in (late.0, late.1, late.2, late.3 ∙ was_other j apart)

    -- ---- it was shut and opened again, as the page was kept for one behind it, or for another word
    pub open_next : (k : Kept) (w z : View) → w.layout ≡ v.layout → KeepsFirst t (n + 1) a w → IsBehind t (n + 1) k a
        → AreLeft (Some (k.word, k.seen)) t sp page count (n + 1) a w
        → z.reads ≡ with_read w.reads (page_at w.layout.slots t (4 + n)) q.number
        → AreLeft (Some (k.word, k.seen)) t sp page count n v z
    open_next k w z late first behind rest opens j p low less is = by_index (eqb j n) refl
      where
        opened : z.reads ≡ with_read w.reads (pointer_at v t n) q.number
        opened = opens ∙ ap (λ (l : Layout). with_read w.reads (page_at l.slots t (4 + n)) q.number) late

        was : seen_at w.reads (pointer_at v t n) ≡ Some (q.number + 2 ^ 60)
        was =
            seen_same a.reads w.reads (pointer_at v t n)
            (subst (λ (l : Layout). read_of w.reads (page_at l.slots t (4 + n)) ≡ read_of a.reads (page_at l.slots t (4 + n))) layout
            (first n (omega arith)))
            ∙ seen_of a.reads (pointer_at v t n) (entry_of v.reads (pointer_at v t n) (q.number + 2 ^ 60) (kept_at v.reads (pointer_at v t n)))
            (entry_own t n (q.number + 2 ^ 60) v a left)

        far : k.word ≢ pointer_at v t n
        far = subst (λ (l : Layout). k.word ≢ page_at l.slots t (4 + n)) layout (behind n (omega arith))

        own : IsLaterNote k.word k.seen (pointer_at v t n) q.number (seen_at v.reads (pointer_at v t n)) (read_of v.reads (pointer_at v t n)) (read_of z.reads (pointer_at v t n))
        own =
            inr
            (inr (
              entry_of w.reads (pointer_at v t n) q.number (kept_at w.reads (pointer_at v t n)),
              ap (λ (l : List Read). read_of l (pointer_at v t n)) opened ∙ own_entry w.reads (pointer_at v t n) q.number (kept_at w.reads (pointer_at v t n)),
              refl,
              was,
              far,
            ))

        after : (i : ℕ) → i ≢ n → read_of z.reads (pointer_at v t i) ≡ read_of w.reads (pointer_at v t i)
        after i apart =
            ap (λ (l : List Read). read_of l (pointer_at v t i)) opened
            ∙ other_entry w.reads (pointer_at v t n) q.number (kept_at w.reads (pointer_at v t n)) (pointer_at v t i) (other_at v.layout.slots t i n apart)

        by_index : (c : Bool) → eqb j n ≡ c → IsLeft (Some (k.word, k.seen)) (pointer_at v t j) p.number v z
        by_index true same =
            let one = eqb-true j n same in
            subst (λ i. IsLeft (Some (k.word, k.seen)) (pointer_at v t i) p.number v z) (sym one)
            (subst (λ (x : PagePlace). IsLeft (Some (k.word, k.seen)) (pointer_at v t n) x.number v z) (sym (child_here j p one is)) own)
        by_index false other =
            let apart : j ≢ n = λ same. true≢false (sym (eq-eqb j n same) ∙ other) in
            let h = rest j p (let more = next_index n j low apart in omega (arith, more)) less (below_then j p is) in
            let mid : IsLaterNote k.word k.seen (pointer_at v t j) p.number (seen_at a.reads (pointer_at v t j)) (read_of a.reads (pointer_at v t j)) (read_of w.reads (pointer_at v t j)) =
            subst (λ (l : Layout). IsLaterNote k.word k.seen (page_at l.slots t (4 + j)) p.number (seen_at a.reads (page_at l.slots t (4 + j)))
            (read_of a.reads (page_at l.slots t (4 + j))) (read_of w.reads (page_at l.slots t (4 + j)))) layout h in
            subst (λ (o : Option ℕ). IsLaterNote k.word k.seen (pointer_at v t j) p.number o (read_of v.reads (pointer_at v t j)) (read_of z.reads (pointer_at v t j)))
            (was_other j apart)
            (subst (λ (o : Option Read). IsLaterNote k.word k.seen (pointer_at v t j) p.number (seen_at a.reads (pointer_at v t j)) o (read_of z.reads (pointer_at v t j)))
            (entry_other t n (q.number + 2 ^ 60) v a left j apart)
            (subst (λ (o : Option Read). IsLaterNote k.word k.seen (pointer_at v t j) p.number (seen_at a.reads (pointer_at v t j)) (read_of a.reads (pointer_at v t j)) o)
            (sym (after j apart)) mid))

-- ---- the page was kept for it

pub found_left : (t page count n : ℕ) (sp : Span) (k : Kept) (v w : View) → FoundOther t n k v w
    → AreLeft (Some (k.word, k.seen)) t sp page count n v w
found_left t page count n sp k v w found j p low less is = by_index (eqb j n) refl
  where
    by_index : (c : Bool) → eqb j n ≡ c → IsLeft (Some (k.word, k.seen)) (pointer_at v t j) p.number v w
    by_index true same =
        subst (λ i. IsLeft (Some (k.word, k.seen)) (pointer_at v t i) p.number v w) (sym (eqb-true j n same))
        (inr
        (inl (
          entry_of v.reads (pointer_at v t n) k.seen (kept_at v.reads (pointer_at v t n)),
          entry_own t n k.seen v w found.reads,
          found.word,
          refl,
          refl,
        )))
    by_index false other =
        let apart : j ≢ n = λ same. true≢false (sym (eq-eqb j n same) ∙ other) in
        inl (
          entry_other t n k.seen v w found.reads j apart,
          λ same. other_at v.layout.slots t n j (λ one. apart (sym one)) (sym found.word ∙ same),
        )

-- behind looks
pub found_then : (t j : ℕ) (k : Kept) (v b w : View) → b.layout ≡ v.layout → b.reads ≡ v.reads → FoundOther t j k b w → FoundOther t j k v w
found_then t j k v b w layout reads h = record {
  word = h.word ∙ ap (λ (l : Layout). page_at l.slots t (4 + j)) layout;
  reads = h.reads
      ∙ (ap (λ (l : Layout). with_read b.reads (page_at l.slots t (4 + j)) k.seen) layout
      ∙ ap (λ (rs : List Read). with_read rs (page_at v.layout.slots t (4 + j)) k.seen) reads);
}

-- none is left behind the last one
pub none_left : (kept : Option (ℕ × ℕ)) (t page count n : ℕ) (sp : Span) (v w : View) → n ≡ count → AreLeft kept t sp page count n v w
none_left kept t page count n sp v w end j p low less is = absurd (omega (arith, end, low, less))

-- so it was shut
pub left_then : (t n child m : ℕ) (v b w : View) → b.layout ≡ v.layout → b.reads ≡ v.reads → child ≡ m
    → w.reads ≡ with_read b.reads (page_at b.layout.slots t (4 + n)) (child + 2 ^ 60)
    → w.reads ≡ with_read v.reads (page_at v.layout.slots t (4 + n)) (m + 2 ^ 60)
left_then t n child m v b w layout reads same h =
    h
    ∙ (ap (λ (l : Layout). with_read b.reads (page_at l.slots t (4 + n)) (child + 2 ^ 60)) layout
    ∙ (ap (λ (rs : List Read). with_read rs (page_at v.layout.slots t (4 + n)) (child + 2 ^ 60)) reads
    ∙ ap (λ (c : ℕ). with_read v.reads (page_at v.layout.slots t (4 + n)) (c + 2 ^ 60)) same))

-- ---- the step that shuts it

-- where it was found to be another
pub other_found : (t j at n : ℕ) (k : Kept) (v w z : View) {why : KeptWhy} → at ≡ page_at v.layout.slots t (4 + j)
    → k ≡ record { word = at; seen = n; why = why } → w ≡ read_at at n v → IsNoted k w z → FoundOther t j k v z
other_found t j at n k v w z place is looked told = record {
  word = ap (λ (x : Kept). x.word) is ∙ place;
  reads = ap (λ (y : View). y.reads) told.1
      ∙ (ap (λ (y : View). y.reads) looked
      ∙ (ap (λ (p : ℕ). with_read v.reads p n) place
      ∙ ap (λ (s : ℕ). with_read v.reads (page_at v.layout.slots t (4 + j)) s) (sym (ap (λ (x : Kept). x.seen) is))));
}

-- where it wasn't
pub shut_left : (t j child at e n : ℕ) (v w : View) → at ≡ page_at v.layout.slots t (4 + j) → e ≡ child → n ≡ e
    → ShutIs (at_index t j) at e v n w → w.reads ≡ with_read v.reads (page_at v.layout.slots t (4 + j)) (child + 2 ^ 60)
shut_left t j child at e n v w place same one h =
    let is : w ≡ shut_at (at_index t j) at n v =
    subst (λ c. MatchBool c (w ≡ shut_at (at_index t j) at n v) (w ≡ read_at at n v)) (eq-eqb n e one) h in
    ap (λ (z : View). z.reads) is
    ∙ (ap (λ (p : ℕ). with_read v.reads p (n + 2 ^ 60)) place
    ∙ ap (λ (m : ℕ). with_read v.reads (page_at v.layout.slots t (4 + j)) (m + 2 ^ 60)) (one ∙ same))

-- and the one that opens it again
pub opened_reads : (t j at m child : ℕ) (e z : View) → at ≡ page_at e.layout.slots t (4 + j) → m ≡ child
    → z ≡ reopened (at_index t j) at m e → z.reads ≡ with_read e.reads (page_at e.layout.slots t (4 + j)) child
opened_reads t j at m child e z place same is =
    ap (λ (y : View). y.reads) is
    ∙ (ap (λ (p : ℕ). with_read e.reads p m) place
    ∙ ap (λ (n : ℕ). with_read e.reads (page_at e.layout.slots t (4 + j)) n) same)
