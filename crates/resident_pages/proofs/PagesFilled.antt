-- Pages behind those that are published are filled, one word and one page after another.
use Rattle.std.proofs.Common.{◌≡◌, ◌≢◌, ℕ, suc, ◌+◌, ◌<◌, ◌≤◌, Bool, true, false, eqb, ne_eqb, ltb, not, inl, inr, List, [], ◌∷◌}
use Rattle.std.proofs.Common.{length, get_or, set, Option, Some, refl, sym, ap, ◌∙◌, subst, arith, get_or-set_other, get_or-set_same}
use Rattle.std.proofs.Common.{length-set, true≢false}
use Rattle.std.proofs.lemmas.Bool.{cases_eq, cases_order, lt-ltb}
use Rattle.std.proofs.lemmas.Bool.Decides.{nat_tests}
use Rattle.std.proofs.lemmas.List.{get_or-drop}
use Rattle.std.specs.Prelude.{MatchBool, drop}
use Rattle.std.specs.List.{Contains}
use Rattle.lists.specs.Elements.{in_cases, in_filtered, in_head, in_none, in_tail}
use Rattle.wire_form.specs.declared.page.Page.{Page}
use Rattle.snapshot_store.specs.Content.{words_of}
use Rattle.snapshot_store.specs.Places.{page}
use Rattle.engine_pages.specs.declared.view.Filled.{Filled}
use Rattle.engine_pages.specs.declared.view.Glance.{Glance}
use Rattle.engine_pages.specs.declared.view.View.{View}
use Rattle.engine_pages.specs.Layout.{published_at}
use Rattle.engine_pages.specs.Steps.{glance, glanced}
use Rattle.engine_pages.proofs.Slotlists.{at_others}
use Rattle.resident_pages.specs.Extends.{IsFilledWith}
use Rattle.resident_pages.specs.Fills.{AreClaimed, HasClaimed, HasFilledPage, HasLooked, HasPage, IsClaimed, claimed}
use Rattle.resident_pages.specs.Fills.{filled_page, other_fills}
use Rattle.resident_pages.specs.Publishes.{AreClaimedTo, AreFilled, HasFoundMore, IsFilledUpTo, OnlyFilled}

-- ---- lists

-- lists of one length with the same numbers at each index
same_numbers : (xs ys : List ℕ) → length xs ≡ length ys → ((i : ℕ) → i < length xs → get_or xs i 0 ≡ get_or ys i 0)
    → xs ≡ ys
same_numbers [] [] long each = refl
same_numbers [] (y ∷ ys) long each = absurd (omega (arith, long))
same_numbers (x ∷ xs) [] long each = absurd (omega (arith, long))
same_numbers (x ∷ xs) (y ∷ ys) long each =
    let first : x ≡ y = each 0 (omega arith) in
    let rest : xs ≡ ys = same_numbers xs ys (omega (arith, long)) (λ i less. each (suc i) (omega (arith, less))) in
    ap (λ z. z ∷ xs) first ∙ ap (λ (zs : List ℕ). y ∷ zs) rest

pub words_many : (pages : List Page) → length (words_of pages) ≡ length pages
words_many [] = refl
words_many (p ∷ pages) = ap suc (words_many pages)

-- the page with this number is that with this index behind so many
pub page_behind : (xs : List (List ℕ)) (k i n : ℕ) → n ≡ (k + 1) + i → page xs n ≡ get_or (drop k xs) i []
page_behind xs k i n at =
    let next : n ≡ suc (k + i) = omega (arith, at) in ap (page xs) next ∙ sym (get_or-drop k xs i [])

-- ---- what a pass has to fill

-- this page with these words, and the others
abbrev with_page : ℕ → List ℕ → List Filled → List Filled
with_page n words fills = record { page = n; words = words } ∷ other_fills n fills

-- the page has these words alone
only_page : (n : ℕ) (words : List ℕ) (fills : List Filled) (y : Filled) → Contains (with_page n words fills) y
    → y.page ≡ n → y.words ≡ words
only_page n words fills y there at =
    elim (in_cases y (record { page = n; words = words }) (other_fills n fills) there) [
      | inl is ↦ ap (λ (z : Filled). z.words) (sym is)
      | inr old ↦ absurd ((at_others (λ (z : Filled). z.page) n fills y old).1 at)
    ]

-- and another page stays
other_page : (n : ℕ) (words : List ℕ) (fills : List Filled) (y : Filled) → Contains fills y → y.page ≢ n
    → Contains (with_page n words fills) y
other_page n words fills y there other =
    in_tail y (record { page = n; words = words }) (other_fills n fills)
    (in_filtered (λ (z : Filled). not (eqb z.page n)) y fills there (ap not (ne_eqb y.page n other)))

-- ---- one step and then another

-- a view with another count of steps, another last load, and other pages to fill
abbrev moved_on : View → ℕ → Option Glance → List Filled → View
moved_on v steps last fills = record v { steps = steps; last = last; fills = fills }

pub only_then : (v u w : View) (steps : ℕ) (last : Option Glance) (fills : List Filled) → OnlyFilled v u
    → w ≡ moved_on u steps last fills → OnlyFilled v w
only_then v u w steps last fills first is =
    is
    ∙ (ap (λ (z : View). moved_on z steps last fills) first
    ∙ ap (λ (z : View). moved_on v z.steps z.last z.fills) (sym is))

-- ---- a page is claimed

module _ (n : ℕ) (v : View) (count : ℕ) (w : View) where
  -- the page is above those that are published
  pub claimed_page : HasClaimed n v count w → count < n → IsClaimed n v count w
  claimed_page h low =
      subst (λ (b : Bool). MatchBool b (IsClaimed n v count w) (w ≡ glanced published_at count v)) (lt-ltb count n low) h.is

  -- it is the pass's own to fill, behind those that were so already
  pub claim_more : (known i : ℕ) (first : View) → AreClaimedTo i first v → known ≡ length first.pages
      → n ≡ (known + i) + 1 → HasClaimed n v count w → count < n → AreClaimedTo (i + 1) first w
  claim_more known i first so same at claims low =
      let h = claimed_page claims low in
      let is : w ≡ claimed n h.0 count v = h.2 in
      let fills : w.fills ≡ with_page n h.0 v.fills = ap (λ (z : View). z.fills) is in
      let one : Filled = record { page = n; words = h.0 } in record {
        only = only_then first v w (v.steps + 1) (Some (glance v.steps published_at count)) (with_page n h.0 v.fills)
            so.only is;
        has = λ m less most. elim (cases_eq m n) [
          | inl here ↦ (
            one,
            subst (λ (l : List Filled). Contains l one) (sym fills) (in_head one (other_fills n v.fills)),
            sym here,
            h.1,
          )
          | inr other ↦
              let x = so.has m less (omega (arith, most, other, at, same)) in (
                x.0,
                subst (λ (l : List Filled). Contains l x.0) (sym fills)
                    (other_page n h.0 v.fills x.0 x.1 (λ here. other (sym x.2 ∙ here))),
                x.2,
                x.3,
              )
        ];
        long = λ y there.
            elim (in_cases y one (other_fills n v.fills) (subst (λ (l : List Filled). Contains l y) fills there)) [
              | inl new ↦ ap (λ (z : Filled). length z.words) (sym new) ∙ h.1
              | inr old ↦ so.long y (at_others (λ (z : Filled). z.page) n v.fills y old).0
            ];
      }

  -- what the pass has to fill, and what it loaded last, changed alone
  pub claimed_same : HasClaimed n v count w → OnlyFilled v w
  claimed_same h = by_test (ltb count n) h.is
    where
      by_test : (b : Bool) → MatchBool b (IsClaimed n v count w) (w ≡ glanced published_at count v) → OnlyFilled v w
      by_test true so =
          only_then v v w (v.steps + 1) (Some (glance v.steps published_at count)) (with_page n so.0 v.fills) refl so.2
      by_test false is =
          only_then v v w (v.steps + 1) (Some (glance v.steps published_at count)) v.fills refl is

-- more pages are published than the pass knew as the call began
pub found_more : (first v : View) (n count : ℕ) (w : View) → length first.pages < n → n ≤ count
    → HasClaimed n v count w → HasFoundMore first w
found_more first v n count w known high h = record {
  count = count;
  more = omega (arith, known, high);
  before = v;
  saw = by_test (ltb count n) (none_below count n high) h.is;
}
  where
    none_below : (k m : ℕ) → m ≤ k → ltb k m ≡ false
    none_below k m most = grind (arith, nat_tests, most)

    by_test : (b : Bool) → b ≡ false → MatchBool b (IsClaimed n v count w) (w ≡ glanced published_at count v)
        → w ≡ glanced published_at count v
    by_test true not so = absurd (true≢false not)
    by_test false not is = is

-- the count alone is loaded
pub looked : (v : View) (count : ℕ) (w : View) → HasClaimed 0 v count w → HasLooked v count w
looked v count w h = record {
  most = h.most;
  known = h.known;
  above = h.above;
  is = subst (λ (b : Bool). MatchBool b (IsClaimed 0 v count w) (w ≡ glanced published_at count v)) (none_below count)
      h.is;
}
  where
    none_below : (k : ℕ) → ltb k 0 ≡ false
    none_below k = grind (arith, nat_tests)

-- where all pages behind those that the pass knows are its own to fill, it knows all that are published
pub knows_all : (v : View) (count : ℕ) (w : View) → AreClaimed v → HasLooked v count w → count ≡ length v.pages
knows_all v count w claims h = elim (cases_order count (length v.pages)) [
  | inl same ↦ same
  | inr (inl less) ↦ absurd (let known = h.known in omega (arith, known, less))
  | inr (inr more) ↦
      let most = h.most in
      let x = claims.has count more most in
      let above = h.above x.0 x.1 in
      let page : (x.0).page ≡ count = x.2 in absurd (omega (arith, above, page))
]

-- none is claimed yet
pub none_claimed : (v : View) → v.fills ≡ [] → AreClaimedTo 0 v v
none_claimed v none = record {
  only = refl;
  has = λ n less most. absurd (omega (arith, less, most));
  long = λ x there. absurd (in_none x (subst (λ (l : List Filled). Contains l x) none there));
}

-- all are
pub claimed_all : (known resident count : ℕ) (v w : View) → AreClaimedTo count v w → known ≡ length v.pages
    → resident ≡ v.layout.resident → known + count ≡ resident → AreClaimed w
claimed_all known resident count v w so same room all =
    let pages : length w.pages ≡ length v.pages = ap (λ (z : View). length z.pages) so.only in
    let most : w.layout.resident ≡ v.layout.resident = ap (λ (z : View). z.layout.resident) so.only in record {
      has = λ n less low. so.has n (omega (arith, pages, less)) (omega (arith, most, low, same, room, all));
      long = so.long;
    }

-- none of the words of a page is filled yet
pub none_filled : (n : ℕ) (words : List ℕ) (v : View) → AreClaimed v → length v.pages < n → n ≤ v.layout.resident
    → IsFilledUpTo n 0 words v v
none_filled n words v claims above room = record {
  later = omega arith;
  only = refl;
  has = claims.has n above room;
  same = λ y there at. (claims.long y there, λ j less. absurd (omega (arith, less)));
  kept = λ y there other. there;
  from = λ y there other. there;
}

-- the pages behind those that the pass knows are its own still
pub still_claimed : (n : ℕ) (words : List ℕ) (v w : View) → AreClaimed v → IsFilledUpTo n 64 words v w → AreClaimed w
still_claimed n words v w claims h =
    let pages : length w.pages ≡ length v.pages = ap (λ (z : View). length z.pages) h.only in
    let room : w.layout.resident ≡ v.layout.resident = ap (λ (z : View). z.layout.resident) h.only in record {
      has = λ m less most. elim (cases_eq m n) [
        | inl here ↦ subst (λ k. HasPage w k) (sym here) h.has
        | inr other ↦
            let x = claims.has m (omega (arith, pages, less)) (omega (arith, room, most)) in
            (x.0, h.kept x.0 x.1 (λ here. other (sym x.2 ∙ here)), x.2, x.3)
      ];
      long = λ y there. elim (cases_eq y.page n) [
        | inl at ↦ (h.same y there at).0
        | inr other ↦ claims.long y (h.from y there other)
      ];
    }

-- ---- a word more

pub filled_on : (n i value : ℕ) (words : List ℕ) (v u w : View) → IsFilledUpTo n i words v u → i < 64
    → value ≡ get_or words i 0 → HasFilledPage n i value u w → IsFilledUpTo n (i + 1) words v w
filled_on n i value words v u w so few is h =
    let x : Filled = h.0 in
    let at : x.page ≡ n = h.2 in
    let all : w ≡ filled_page x i value u = h.3 in
    let was = so.same x h.1 at in
    let long : length x.words ≡ 64 = was.0 in
    let fills : w.fills ≡ with_page x.page (set x.words i value) u.fills = ap (λ (z : View). z.fills) all in
    let first : Filled = record { page = x.page; words = set x.words i value } in
    let steps : w.steps ≡ u.steps + 1 = ap (λ (z : View). z.steps) all in
    let later = so.later in record {
      later = omega (arith, steps, later);
      only = only_then v u w (u.steps + 1) u.last (with_page x.page (set x.words i value) u.fills) so.only all;
      has = (
        first,
        subst (λ (l : List Filled). Contains l first) (sym fills) (in_head first (other_fills x.page u.fills)),
        at,
        length-set x.words i value ∙ long,
      );
      same = λ y there here.
          let words-are : y.words ≡ set x.words i value =
          only_page x.page (set x.words i value) u.fills y (subst (λ (l : List Filled). Contains l y) fills there) (here ∙ sym at) in (
            ap (λ (ws : List ℕ). length ws) words-are ∙ (length-set x.words i value ∙ long),
            λ j less. ap (λ (ws : List ℕ). get_or ws j 0) words-are ∙ one x.words long was.1 j less,
          );
      kept = λ y there other.
          subst (λ (l : List Filled). Contains l y) (sym fills)
          (other_page x.page (set x.words i value) u.fills y (so.kept y there other) (λ same. other (same ∙ at)));
      from = λ y there other.
          elim (in_cases y first (other_fills x.page u.fills) (subst (λ (l : List Filled). Contains l y) fills there)) [
            | inl new ↦ absurd (other (ap (λ (z : Filled). z.page) (sym new) ∙ at))
            | inr old ↦ so.from y (at_others (λ (z : Filled). z.page) x.page u.fills y old).0 other
          ];
    }
  where
    one : (old : List ℕ) → length old ≡ 64 → ((j : ℕ) → j < i → get_or old j 0 ≡ get_or words j 0) → (j : ℕ) → j < i + 1
        → get_or (set old i value) j 0 ≡ get_or words j 0
    one old long before j less = elim (cases_eq j i) [
      | inl same ↦
          subst (λ k. get_or (set old i value) k 0 ≡ get_or words k 0) (sym same)
          (get_or-set_same old i value 0 (omega (arith, few, long)) ∙ is)
      | inr other ↦ get_or-set_other old i j value 0 other ∙ before j (omega (arith, less, other))
    ]

-- all words
pub filled_with : (n : ℕ) (words : List ℕ) (v w : View) → length words ≡ 64 → IsFilledUpTo n 64 words v w
    → IsFilledWith w n words
filled_with n words v w long so =
    let x : Filled = (so.has).0 in
    let same = so.same x (so.has).1 (so.has).2 in
    let count : length x.words ≡ 64 = same.0 in (
      x,
      (so.has).1,
      (so.has).2,
      same_numbers x.words words (count ∙ sym long) (λ i less. same.1 i (omega (arith, less, count))),
    )

-- ---- a page more

pub none_of_pages : (pages : List (List ℕ)) (v : View) → AreFilled 0 pages v v
none_of_pages pages v =
    record { later = omega arith; only = refl; filled = λ j less. absurd (omega (arith, less)) }

pub page_more : (i k n : ℕ) (words : List ℕ) (pages : List (List ℕ)) (v u w : View) → AreFilled i pages v u
    → k ≡ length v.pages → n ≡ (k + 1) + i → words ≡ get_or pages i [] → length words ≡ 64
    → IsFilledUpTo n 64 words u w → AreFilled (i + 1) pages v w
page_more i k n words pages v u w so known at are long h =
    let late = h.later in
    let later = so.later in record {
      later = omega (arith, late, later);
      only = only_then v u w w.steps w.last w.fills so.only h.only;
      filled = λ j less. elim (cases_eq j i) [
        | inl same ↦
            let r = filled_with n words u w long h in (
              r.0,
              r.1,
              r.2 ∙ omega (arith, known, at, same),
              r.3 ∙ (are ∙ ap (λ m. get_or pages m []) (sym same)),
            )
        | inr other ↦
            let r = so.filled j (omega (arith, less, other)) in
            let page : (r.0).page ≡ suc (length v.pages + j) = r.2 in
            (r.0, h.kept r.0 r.1 (λ same. omega (arith, page, same, at, known, other)), r.2, r.3)
      ];
    }
