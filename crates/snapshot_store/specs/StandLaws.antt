-- Pages that stand stay as they are when others are appended, as laws for those who append.
use Rattle.std.proofs.Common.{◌≡◌, ℕ, ◌≤◌, zero, suc, true, false, List, [], ◌∷◌, ◌++◌, length, Option, Some, refl, ap}
use Rattle.std.proofs.Common.{◌∙◌, arith}
use Rattle.std.specs.Prelude.{cond, nat_le}
use Rattle.std.specs.List.{AllByRecursion}
use Rattle.std.proofs.lemmas.List.{get_or_append_left, length-append}
use Rattle.lists.specs.Each.{all_weaker}
use Rattle.snapshot_store.specs.Places.{Found, Format, leaf_at, look_in, page, words_at, places_below, at_key, on_way}
use Rattle.snapshot_store.specs.Places.{find, here_or_below, Stands, StandsTo}
use Rattle.snapshot_store.specs.declared.place.PagePlace.{PagePlace}

-- a page that is there stays where it is
pub page-append : (pages more : List (List ℕ)) (n : ℕ) → n ≤ length pages → page (pages ++ more) n ≡ page pages n
page-append pages more zero h = refl
page-append pages more (suc n) h = get_or_append_left pages more [] n h

-- what two functions give at places where they agree
pub at_key-same : {X : Type 0} (key : ℕ) (f g : PagePlace → Option X) (qs : List PagePlace)
    → AllByRecursion (λ q. f q ≡ g q) qs → at_key key f qs ≡ at_key key g qs
at_key-same key f g [] all = refl
at_key-same key f g (q ∷ qs) all = rw (all.0, at_key-same key f g qs all.1) refl

-- and leads to the same places
pub below-append : (F : Format) (Is : PagePlace → List ℕ → Type 0) (pages more : List (List ℕ))
    (B : PagePlace → Type 0) (p : PagePlace) → Stands F Is pages B p
    → places_below F (pages ++ more) p ≡ places_below F pages p
below-append F Is pages more B p s = ap (λ w. F.below w p.low p.high) (page-append pages more p.number s.there)

-- the way to a key
pub on_way-append : (F : Format) (Is : PagePlace → List ℕ → Type 0) (pages more : List (List ℕ)) (depth d key : ℕ)
    (p : PagePlace) → StandsTo F Is pages depth p → on_way F (pages ++ more) d key p ≡ on_way F pages d key p
on_way-append F Is pages more zero d key p s = absurd s
on_way-append F Is pages more (suc depth) zero key p s = refl
on_way-append F Is pages more (suc depth) (suc d) key p s =
    ap (at_key key (on_way F (pages ++ more) d key)) (below-append F Is pages more (StandsTo F Is pages depth) p s)
    ∙ at_key-same key (on_way F (pages ++ more) d key) (on_way F pages d key) (places_below F pages p)
    (all_weaker (StandsTo F Is pages depth) (λ q. on_way F (pages ++ more) d key q ≡ on_way F pages d key q)
    (λ q t. on_way-append F Is pages more depth d key q t) (places_below F pages p) s.below)

-- what is found, also with more steps than are needed
pub find-append : (F : Format) (Is : PagePlace → List ℕ → Type 0) (pages more : List (List ℕ)) (depth d key : ℕ)
    (p : PagePlace) → StandsTo F Is pages depth p → depth ≤ d
    → find F (pages ++ more) d key p ≡ find F pages depth key p
find-append F Is pages more zero d key p s le = absurd s
find-append F Is pages more (suc depth) zero key p s le = absurd (omega (arith, le))
find-append F Is pages more (suc depth) (suc d) key p s le =
    let b = below-append F Is pages more (StandsTo F Is pages depth) p s in
    let w = page-append pages more p.number s.there in
    let kids = at_key-same key (find F (pages ++ more) d key) (find F pages depth key) (places_below F pages p)
    (all_weaker (StandsTo F Is pages depth) (λ q. find F (pages ++ more) d key q ≡ find F pages depth key q)
    (λ q t. find-append F Is pages more depth d key q t (omega (arith, le))) (places_below F pages p)
    s.below) in
    ap (λ ws. here_or_below (F.look ws p.low key)
    (at_key key (find F (pages ++ more) d key) (F.below ws p.low p.high)) (F.below ws p.low p.high)) w
    ∙ ap (λ t. here_or_below (F.look (words_at pages p) p.low key) t (places_below F pages p)) kids

-- what stands
pub stands-append : (F : Format) (Is : PagePlace → List ℕ → Type 0) (pages more : List (List ℕ)) (depth d : ℕ)
    (p : PagePlace) → StandsTo F Is pages depth p → depth ≤ d → StandsTo F Is (pages ++ more) d p
stands-append F Is pages more zero d p s le = absurd s
stands-append F Is pages more (suc depth) zero p s le = absurd (omega (arith, le))
stands-append F Is pages more (suc depth) (suc d) p s le =
    let w = page-append pages more p.number s.there in
    let b = below-append F Is pages more (StandsTo F Is pages depth) p s in
    record {
      there = omega (arith, s.there, length-append pages more);
      right = rw w s.right;
      tiles = rw b s.tiles;
      below = rw b (all_weaker (StandsTo F Is pages depth) (StandsTo F Is (pages ++ more) d)
          (λ q t. stands-append F Is pages more depth d q t (omega (arith, le))) (places_below F pages p) s.below);
    }

-- ---- the leaf with a key

-- what is looked for at places is looked for in the leaf that they give
at_key-look : (F : Format) (pages : List (List ℕ)) (key : ℕ) (f : PagePlace → Option PagePlace)
    (g : PagePlace → Option Found) → ((q : PagePlace) → g q ≡ look_in F pages key (f q)) → (qs : List PagePlace)
    → at_key key g qs ≡ look_in F pages key (at_key key f qs)
at_key-look F pages key f g h [] = refl
at_key-look F pages key f g h (q ∷ qs) =
    elim (nat_le key q.high) as (λ b. cond b (g q) (at_key key g qs)
    ≡ look_in F pages key (cond b (f q) (at_key key f qs))) [
      | true ↦ h q
      | false ↦ at_key-look F pages key f g h qs
    ]

-- what is found is the leaf's own record
pub find-leaf_at : (F : Format) (pages : List (List ℕ)) (d key : ℕ) (p : PagePlace)
    → find F pages d key p ≡ look_in F pages key (leaf_at F pages d key p)
find-leaf_at F pages zero key p = refl
find-leaf_at F pages (suc d) key p =
    at_leaf (places_below F pages p) (at_key-look F pages key (leaf_at F pages d key) (find F pages d key)
    (find-leaf_at F pages d key) (places_below F pages p))
  where
    at_leaf : (qs : List PagePlace) → at_key key (find F pages d key) qs
        ≡ look_in F pages key (at_key key (leaf_at F pages d key) qs)
        → here_or_below (F.look (words_at pages p) p.low key) (at_key key (find F pages d key) qs) qs
        ≡ look_in F pages key (here_or_below (Some p) (at_key key (leaf_at F pages d key) qs) qs)
    at_leaf [] h = refl
    at_leaf (q ∷ qs) h = h
