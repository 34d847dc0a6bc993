-- Which keys have the same leaf among pages that lead to pages.
use Rattle.std.proofs.Common.{◌≡◌, inl, inr, ℕ, zero, suc, ◌+◌, ◌<◌, ◌≤◌, Bool, true, false, cond, List, [], ◌∷◌}
use Rattle.std.proofs.Common.{refl, sym, ap, ◌∙◌, subst, arith, Option, Some, None}
use Rattle.std.specs.Prelude.{nat_le, Contains}
use Rattle.std.specs.List.{AllByRecursion}
use Rattle.std.proofs.lemmas.Bool.Decides.{nat_tests}
use Rattle.lists.specs.Elements.{in_cases, in_head, in_none, in_tail}
use Rattle.snapshot_store.specs.declared.place.PagePlace.{PagePlace}
use Rattle.tree_scans.specs.Below.{IsLeafFor}
use Rattle.snapshot_store.specs.Places.{Cover, Format, StandsTo, Tiles, at_key, here_or_below, leaf_at, places_below}

-- ---- places in a row

-- The place has the key, and for each of its keys what is asked of the place with that key is asked of it.
pub record IsChildFor (low high key : ℕ) (qs : List PagePlace) (c : PagePlace) : Type 0 where
  pub among : Contains qs c
  pub first : low ≤ c.low
  pub from : c.low ≤ key
  pub to : key ≤ c.high
  pub last : c.high ≤ high
  pub asked : (f : PagePlace → Option PagePlace) (n : ℕ) → c.low ≤ n → n ≤ c.high → at_key n f qs ≡ f c

pub child_for : (qs : List PagePlace) (low high key : ℕ) → Cover low high qs → low ≤ key → key ≤ high
    → (c : PagePlace) × IsChildFor low high key qs c
child_for [] low high key cover from to = absurd (omega (arith, cover, from, to))
child_for (q ∷ qs) low high key cover from to =
    by_end (λ above. child_for qs (q.high + 1) high key cover.3 above to) (nat_le key q.high) refl
  where
    by_end : (q.high + 1 ≤ key → (c : PagePlace) × IsChildFor (q.high + 1) high key qs c) → (b : Bool)
        → nat_le key q.high ≡ b
        → (c : PagePlace) × IsChildFor low high key (q ∷ qs) c
    by_end more-places true less =
        let first = cover.0 in
        let within : key ≤ q.high = grind (arith, nat_tests) in (
          q,
          record {
            among = in_head q qs;
            first = omega (arith, first);
            from = omega (arith, first, from);
            to = within;
            last = cover.2;
            asked = λ f n low' high'. ap (λ b. cond b (f q) (at_key n f qs)) (let e : nat_le n q.high ≡ true = grind
                (arith, nat_tests) in e);
          },
        )
    by_end more-places false more =
        let above : q.high < key = grind (arith, nat_tests) in
        let rest = more-places (omega (arith, above)) in
        let r = rest.1 in
        let start = cover.1 in
        let behind = r.first in (
          rest.0,
          record {
            among = in_tail rest.0 q qs r.among;
            first = omega (arith, start, behind);
            from = r.from;
            to = r.to;
            last = r.last;
            asked = λ f n low' high'.
                ap (λ b. cond b (f q) (at_key n f qs)) (let e : nat_le n q.high ≡ false = grind (arith, nat_tests) in e)
                ∙ r.asked f n low' high';
          },
        )

all_at : (P : PagePlace → Type 0) (xs : List PagePlace) (q : PagePlace) → AllByRecursion P xs → Contains xs q → P q
all_at P [] q all has = absurd (in_none q has)
all_at P (x ∷ xs) q all has =
    elim (in_cases q x xs has) [ inl e ↦ subst P e all.0 | inr more ↦ all_at P xs q all.1 more ]

-- ---- leaves

pub leaf_for : (F : Format) (Is : PagePlace → List ℕ → Type 0) (pages : List (List ℕ)) (depth d key : ℕ) (p : PagePlace)
    → depth ≤ d → StandsTo F Is pages depth p → p.low ≤ key → key ≤ p.high
    → (q : PagePlace) × IsLeafFor F pages d key p q
leaf_for F Is pages zero d key p few stands from to = absurd stands
leaf_for F Is pages (suc depth) zero key p few stands from to = absurd (omega (arith, few))
leaf_for F Is pages (suc depth) (suc d) key p few stands from to =
    by_below (λ c below low high. leaf_for F Is pages depth d key c (omega (arith, few)) below low high)
    (places_below F pages p) refl
  where
    by_below : ((c : PagePlace) → StandsTo F Is pages depth c → c.low ≤ key → key ≤ c.high
        → (q : PagePlace) × IsLeafFor F pages d key c q)
        → (qs : List PagePlace) → places_below F pages p ≡ qs → (q : PagePlace) × IsLeafFor F pages (suc d) key p q
    by_below next [] none = (
      p,
      record {
        first = omega arith;
        from = from;
        to = to;
        last = omega arith;
        same = λ n low high.
            ap (λ (l : List PagePlace). here_or_below (Some p) (at_key n (leaf_at F pages d n) l) l) none;
      },
    )
    by_below next (x ∷ xs) are =
        let cover : Cover p.low p.high (x ∷ xs) = subst (Tiles p.low p.high) are stands.tiles in
        let c = child_for (x ∷ xs) p.low p.high key cover from to in
        let r = c.1 in
        let below = all_at (StandsTo F Is pages depth) (places_below F pages p) c.0 stands.below
        (subst (λ (l : List PagePlace). Contains l c.0) (sym are) r.among) in
        let leaf = next c.0 below r.from r.to in
        let l = leaf.1 in
        let one = l.last in
        let two = r.last in
        let three = r.first in
        let four = l.first in (
          leaf.0,
          record {
            first = omega (arith, three, four);
            from = l.from;
            to = l.to;
            last = omega (arith, one, two);
            same = λ n low high.
                ap (λ (z : List PagePlace). here_or_below (Some p) (at_key n (leaf_at F pages d n) z) z) are
                ∙ (r.asked (leaf_at F pages d n) n (let e : (c.0).low ≤ n = omega (arith, four, low) in e)
                (let e : n ≤ (c.0).high = omega (arith, one, high) in e)
                ∙ l.same n low high);
          },
        )
