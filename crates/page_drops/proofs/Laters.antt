-- What was met stays told, by the slots in which it was.
use Rattle.std.proofs.Common.{◌≡◌, ℕ, ◌+◌, ◌*◌, ◌<◌, List, ◌++◌, sym, ap, ◌∙◌, subst, arith}
use Rattle.std.specs.Prelude.{reverse, ⊤}
use Rattle.std.specs.List.{Contains}
use Rattle.lists.specs.Fronts.{IsFront}
use Rattle.engine_pages.specs.declared.view.View.{View}
use Rattle.engine_pages.specs.Layout.{page_at}
use Rattle.page_drops.specs.Calls.{IsElsewhere, KeepsOtherReads}
use Rattle.page_drops.specs.Visits.{Met, MetLeaf, MetMiddle, MetTop, IsInnerTree, IsLeafTree, IsMiddleTree, IsTopTree}
use Rattle.page_drops.specs.Visits.{slots_leaf, slots_middle, slots_of, slots_top, times}
use Rattle.page_drops.specs.Works.{read_of, IsOutside}
use Rattle.page_drops.proofs.Stays as stays
use Rattle.page_drops.proofs.Stays.{Goes, Spares, below_slot, own_slot, times_append, times_in, times_reverse}

-- of these slots those that were left once stay so, and what was read in their pages is as it was
pub record StaysFor (ts : List ℕ) (v w : View) : Type 0 where
  pub layout : w.layout ≡ v.layout
  pub front : IsFront v.pages w.pages
  pub words : (t j : ℕ) → Contains ts t → j < 64 → times t w.gone ≡ 1
      → (times t v.gone ≡ 1)
      × (read_of w.reads (page_at v.layout.slots t j) ≡ read_of v.reads (page_at v.layout.slots t j))

-- what was read of the word is as it was
abbrev IsRead : View → View → ℕ → Type 0
IsRead v w word = read_of w.reads word ≡ read_of v.reads word

goes_for : (ts : List ℕ) (v w : View) → StaysFor ts v w → Goes (IsRead v w) v w
goes_for ts v w h = record { layout = h.layout; front = h.front; reads = λ word same. same }

spares_for : (ts : List ℕ) (v w : View) → StaysFor ts v w → Spares (IsRead v w) v w ts
spares_for ts v w h t has once =
    ((h.words t 0 has (omega arith) once).0, λ j less. (h.words t j has less once).1)

pub stays_within : (ts us : List ℕ) (v w : View) → ((t : ℕ) → Contains us t → Contains ts t) → StaysFor ts v w
    → StaysFor us v w
stays_within ts us v w within h = record {
  layout = h.layout;
  front = h.front;
  words = λ t j has less once. h.words t j (within t has) less once;
}

pub leaf_stays : (v w : View) (m : MetLeaf) → StaysFor (slots_leaf m) v w → IsLeafTree v m → IsLeafTree w m
leaf_stays v w m h tree =
    stays.leaf_stays (IsRead v w) v w (goes_for (slots_leaf m) v w h) m (spares_for (slots_leaf m) v w h) tree

pub inner_stays : (C : Type 0) (tree : View → Met C → Type 0) (slots : Met C → List ℕ)
    → ((v w : View) (c : Met C) → StaysFor (slots c) v w → tree v c → tree w c) → (v w : View) (m : Met (Met C))
    → StaysFor (slots_of slots m) v w → IsInnerTree C tree v m → IsInnerTree C tree w m
inner_stays C tree slots below v w m h inner =
    stays.inner_stays (IsRead v w) v w (goes_for (slots_of slots m) v w h) C tree m
    (λ t slot once. spares_for (slots_of slots m) v w h t (own_slot slots m t slot) once)
    (λ j c at held.
    below v w c (stays_within (slots_of slots m) (slots c) v w (λ t has. below_slot slots m j c t at has) h) held) inner

pub middle_stays : (v w : View) (m : MetMiddle) → StaysFor (slots_middle m) v w → IsMiddleTree v m → IsMiddleTree w m
middle_stays v w m h tree = inner_stays ⊤ IsLeafTree slots_leaf leaf_stays v w m h tree

pub top_stays : (v w : View) (m : MetTop) → StaysFor (slots_top m) v w → IsTopTree v m → IsTopTree w m
top_stays v w m h tree = inner_stays MetLeaf IsMiddleTree slots_middle middle_stays v w m h tree

-- ---- what was left before

-- a slot that was left once in all was left before, and not again
pub not_again : (later : List ℕ) (v w : View) (t : ℕ) → w.gone ≡ reverse later ++ v.gone → Contains v.gone t
    → times t w.gone ≡ 1 → (times t v.gone ≡ 1) × (times t later ≡ 0)
not_again later v w t went has once =
    let sum : times t w.gone ≡ times t (reverse later) + times t v.gone =
    ap (times t) went ∙ times_append t (reverse later) v.gone in
    let back = times_reverse t later in
    let before = times_in t v.gone has in (omega (arith, sum, back, before, once), omega (arith, sum, back, before, once))

same_slot : (slots t u j i : ℕ) → j < 64 → i < 64 → ((32 + slots) + 64 * t) + j ≡ ((32 + slots) + 64 * u) + i → t ≡ u
same_slot slots t u j i less fits is = omega (arith, less, fits, is)

-- the words of its page are in none of the others
pub elsewhere : (slots : ℕ) (ts : List ℕ) (t j : ℕ) → j < 64 → times t ts ≡ 0 → IsElsewhere slots ts (page_at slots t j)
elsewhere slots ts t j less none u there i fits is =
    let same : t ≡ u = same_slot slots t u j i less fits is in
    let one = times_in t ts (subst (Contains ts) (sym same) there) in omega (arith, one, none)

pub later_stays : (ts later : List ℕ) (at : ℕ) (v w : View) → w.layout ≡ v.layout → IsFront v.pages w.pages
    → w.gone ≡ reverse later ++ v.gone → KeepsOtherReads later at v w
    → ((t : ℕ) → Contains ts t → Contains v.gone t × IsOutside v.layout.slots t at) → StaysFor ts v w
later_stays ts later at v w layout front went others before = record {
  layout = layout;
  front = front;
  words = λ t j has less once.
      let b = before t has in
      let s = not_again later v w t went b.0 once in (
        s.0,
        others (page_at v.layout.slots t j) (λ is. b.1 j less (sym is)) (elsewhere v.layout.slots later t j less s.1),
      );
}
