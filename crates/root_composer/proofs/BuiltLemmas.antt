-- What was built for ranges that had no page of their own, and for the range that they make up.
use Rattle.std.proofs.Common.{◌≡◌, ℕ, ◌+◌, ◌≤◌, zero, suc, true, List, [], ◌∷◌, ◌++◌, length, Option, Some, None, refl, sym, ap, subst, ◌∙◌, arith, append_assoc, inl, inr}
use Rattle.std.specs.Prelude.{max}
use Rattle.std.specs.List.{AllByRecursion, flat_map}
use Rattle.std.proofs.lemmas.List.{length-append, get_or_at}
use Rattle.std.proofs.lemmas.Bool.{cases_lt}
use Rattle.root_composer.specs.Overlaid.{entry_for, touches, overlaid}
use Rattle.root_composer.specs.declared.last.Last.{Last}
use Rattle.snapshot_store.specs.Places.{Found, Format, page, words_at, places_below, at_key, on_way, find, here_or_below, Cover, Tiles, StandsTo, moved, newer}
use Rattle.snapshot_store.specs.declared.place.PagePlace.{PagePlace}
use Rattle.root_composer.specs.Composed.{numbered, Follows, Succeeds, WaysFollow, IsMade, all_moved, EachWith, HoldsRange, IsBuilt, AreBuilt}
use Rattle.root_composer.proofs.MadeLemmas.{at_most, above, regroup, numbered-append, cover_moved, page_there}

-- what is told otherwise of the same keys
pub retold : (F : Format) (Is : PagePlace → List ℕ → Type 0) (have : ℕ) (before made : List (List ℕ)) (levels : ℕ) (t u : ℕ → Option Found) (p : PagePlace) (n : ℕ)
    → ((key : ℕ) → p.low ≤ key → key ≤ p.high → t key ≡ u key) → IsBuilt F Is have before made levels t p n → IsBuilt F Is have before made levels u p n
retold F Is have before made levels t u p n same b = record {
  holds = λ later d le. let h = b.holds later d le in record { content = λ (key : ℕ) x y. h.content key x y ∙ same key x y; stands = h.stands };
  order = b.order;
  above = b.above;
  least = b.least;
}

each_retold : (F : Format) (Is : PagePlace → List ℕ → Type 0) (new : List (List ℕ)) (d low high : ℕ) (t u : ℕ → Option Found) (qs : List PagePlace) (ns : List ℕ)
    → Cover low high qs → ((key : ℕ) → low ≤ key → key ≤ high → t key ≡ u key) → EachWith (HoldsRange F Is new d t) qs ns → EachWith (HoldsRange F Is new d u) qs ns
each_retold F Is new d low high t u [] [] c same all = tt
each_retold F Is new d low high t u [] (n ∷ ns) c same all = all
each_retold F Is new d low high t u (q ∷ qs) [] c same all = all
each_retold F Is new d low high t u (q ∷ qs) (n ∷ ns) c same all = (
  record { content = λ (key : ℕ) x y. all.0.content key x y ∙ same key (omega (arith, c.0)) (omega (arith, c.2)); stands = all.0.stands },
  each_retold F Is new d (q.high + 1) high t u qs ns c.3 (λ (key : ℕ) x y. same key (omega (arith, c.1)) y) all.1,
)

pub all_retold : (F : Format) (Is : PagePlace → List ℕ → Type 0) (have : ℕ) (before made : List (List ℕ)) (levels low high : ℕ) (t u : ℕ → Option Found) (qs : List PagePlace) (ns : List ℕ)
    → Cover low high qs → ((key : ℕ) → low ≤ key → key ≤ high → t key ≡ u key) → AreBuilt F Is have before made levels t qs ns → AreBuilt F Is have before made levels u qs ns
all_retold F Is have before made levels low high t u qs ns c same b = record {
  hold = λ later d le. each_retold F Is (before ++ (made ++ later)) d low high t u qs ns c same (b.hold later d le);
  order = b.order;
  above = b.above;
  least = b.least;
}

pub none_built : (F : Format) (Is : PagePlace → List ℕ → Type 0) (have : ℕ) (before : List (List ℕ)) (t : ℕ → Option Found) → AreBuilt F Is have before [] 0 t [] []
none_built F Is have before t = record { hold = λ later d le. tt; order = λ later d le. refl; above = tt; least = λ later d u. omega arith }

pub one_more_built : (F : Format) (Is : PagePlace → List ℕ → Type 0) (have : ℕ) (before first rest : List (List ℕ)) (l m levels : ℕ) (t : ℕ → Option Found) (q : PagePlace) (n : ℕ) (qs : List PagePlace) (ns : List ℕ)
    → levels ≡ max l m → IsBuilt F Is have before first l t q n → AreBuilt F Is have (before ++ first) rest m t qs ns → AreBuilt F Is have before (first ++ rest) levels t (q ∷ qs) (n ∷ ns)
one_more_built F Is have before first rest l m levels t q n qs ns a one all = record {
  hold = λ (later : List (List ℕ)) (d : ℕ) le. (
    subst (λ (x : List (List ℕ)). HoldsRange F Is (before ++ x) d t q n) (sym (append_assoc first rest later)) (one.holds (rest ++ later) d (omega (arith, le))),
    subst (λ (x : List (List ℕ)). EachWith (HoldsRange F Is x d t) qs ns) (regroup before first rest later) (all.hold later d (omega (arith, le))),
  );
  order = λ (later : List (List ℕ)) (d : ℕ) le.
      let x = subst (λ (x : List (List ℕ)). newer F (before ++ x) have d (moved q n) ≡ numbered (length before + 1) first) (sym (append_assoc first rest later)) (one.order (rest ++ later) d (omega (arith, le))) in
      let y = subst (λ (x : List (List ℕ)). flat_map (newer F x have d) (all_moved qs ns) ≡ numbered (length (before ++ first) + 1) rest) (regroup before first rest later) (all.order later d (omega (arith, le))) in
      ap (λ x. x ++ flat_map (newer F (before ++ ((first ++ rest) ++ later)) have d) (all_moved qs ns)) x
      ∙ ap (λ x. numbered (length before + 1) first ++ x) (y ∙ ap (λ k. numbered k rest) (omega (arith, length-append before first)))
      ∙ sym (numbered-append (length before + 1) first rest);
  above = (one.above, all.above);
  least = λ (later : List (List ℕ)) (d : ℕ) u.
      let x = one.least (rest ++ later) d (subst (λ (x : List (List ℕ)). StandsTo F Is (before ++ x) d (moved q n)) (append_assoc first rest later) u.0) in
      let y = all.least later d (subst (λ (x : List (List ℕ)). AllByRecursion (StandsTo F Is x d) (all_moved qs ns)) (sym (regroup before first rest later)) u.1) in
      omega (arith, x, y, a);
}

found_built : (F : Format) (Is : PagePlace → List ℕ → Type 0) (new : List (List ℕ)) (d key low high : ℕ) (t : ℕ → Option Found) (qs : List PagePlace) (ns : List ℕ)
    → Cover low high qs → low ≤ key → key ≤ high → EachWith (HoldsRange F Is new d t) qs ns → at_key key (find F new d key) (all_moved qs ns) ≡ t key
found_built F Is new d key low high t [] ns c le ge all = absurd (omega (arith, c))
found_built F Is new d key low high t (r ∷ rs) [] c le ge all = absurd all
found_built F Is new d key low high t (r ∷ rs) (m ∷ ms) c le ge all =
    elim (cases_lt r.high key) [
      | inl lt ↦ rw (above key r.high lt) (found_built F Is new d key (r.high + 1) high t rs ms c.3 (omega arith) ge all.1)
      | inr h ↦ rw (at_most key r.high h) (all.0.content key (omega (arith, c.0)) h)
    ]

each_stands : (F : Format) (Is : PagePlace → List ℕ → Type 0) (new : List (List ℕ)) (d : ℕ) (t : ℕ → Option Found) (qs : List PagePlace) (ns : List ℕ) → EachWith (HoldsRange F Is new d t) qs ns → AllByRecursion (StandsTo F Is new d) (all_moved qs ns)
each_stands F Is new d t [] ns all = tt
each_stands F Is new d t (q ∷ qs) [] all = absurd all
each_stands F Is new d t (q ∷ qs) (n ∷ ns) all = (all.0.stands, each_stands F Is new d t qs ns all.1)

-- the page above places that were built
pub page_built : (F : Format) (Is : PagePlace → List ℕ → Type 0) (have : ℕ) (before made : List (List ℕ)) (levels : ℕ) (t : ℕ → Option Found) (w : List ℕ) (p q : PagePlace) (qs : List PagePlace) (n : ℕ) (ns : List ℕ)
    → have ≤ length before → Cover p.low p.high (q ∷ qs) → F.below w p.low p.high ≡ all_moved (q ∷ qs) (n ∷ ns) → Is (moved p (suc (length before + length made))) w
    → AreBuilt F Is have before made levels t (q ∷ qs) (n ∷ ns) → IsBuilt F Is have before (made ++ w ∷ []) (suc levels) t p (suc (length before + length made))
page_built F Is have before made levels t w p q qs n ns le cover kids is are = record {
  holds = holds;
  order = order;
  above = omega arith;
  least = least;
}
  where
    same : (later : List (List ℕ)) → before ++ (made ++ (w ∷ later)) ≡ before ++ ((made ++ w ∷ []) ++ later)
    same later = ap (λ t. before ++ t) (sym (append_assoc made (w ∷ []) later))

    down : (later : List (List ℕ)) → places_below F (before ++ ((made ++ w ∷ []) ++ later)) (moved p (suc (length before + length made))) ≡ all_moved (q ∷ qs) (n ∷ ns)
    down later = ap (λ ws. F.below ws p.low p.high) (page_there before made later w) ∙ kids

    holds : (later : List (List ℕ)) (d : ℕ) → suc levels ≤ d → HoldsRange F Is (before ++ ((made ++ w ∷ []) ++ later)) d t p (suc (length before + length made))
    holds later zero h = absurd (omega (arith, h))
    holds later (suc d) h =
        let all = subst (λ (x : List (List ℕ)). EachWith (HoldsRange F Is x d t) (q ∷ qs) (n ∷ ns)) (same later) (are.hold (w ∷ later) d (omega arith)) in
        record {
          content = λ (key : ℕ) a b.
              ap (λ ts. here_or_below (F.look (words_at (before ++ ((made ++ w ∷ []) ++ later)) (moved p (suc (length before + length made)))) p.low key) (at_key key (find F (before ++ ((made ++ w ∷ []) ++ later)) d key) ts) ts) (down later)
              ∙ found_built F Is (before ++ ((made ++ w ∷ []) ++ later)) d key p.low p.high t (q ∷ qs) (n ∷ ns) cover a b all;
          stands = record {
            there = omega (arith, length-append before ((made ++ w ∷ []) ++ later), length-append (made ++ w ∷ []) later, length-append made (w ∷ []));
            right = subst (λ (ws : List ℕ). Is (moved p (suc (length before + length made))) ws) (sym (page_there before made later w)) is;
            tiles = subst (Tiles p.low p.high) (sym (down later)) (cover_moved (HoldsRange F Is (before ++ ((made ++ w ∷ []) ++ later)) d t) p.low p.high (q ∷ qs) (n ∷ ns) all cover);
            below = subst (AllByRecursion (StandsTo F Is (before ++ ((made ++ w ∷ []) ++ later)) d)) (sym (down later)) (each_stands F Is (before ++ ((made ++ w ∷ []) ++ later)) d t (q ∷ qs) (n ∷ ns) all);
          };
        }

    order : (later : List (List ℕ)) (d : ℕ) → suc levels ≤ d → newer F (before ++ ((made ++ w ∷ []) ++ later)) have d (moved p (suc (length before + length made))) ≡ numbered (length before + 1) (made ++ w ∷ [])
    order later zero h = absurd (omega (arith, h))
    order later (suc d) h =
        let first : flat_map (newer F (before ++ ((made ++ w ∷ []) ++ later)) have d) (all_moved (q ∷ qs) (n ∷ ns)) ≡ numbered (length before + 1) made =
        subst (λ (x : List (List ℕ)). flat_map (newer F x have d) (all_moved (q ∷ qs) (n ∷ ns)) ≡ numbered (length before + 1) made) (same later) (are.order (w ∷ later) d (omega arith)) in
        rw (above (suc (length before + length made)) have (omega arith))
        (ap (λ ts. flat_map (newer F (before ++ ((made ++ w ∷ []) ++ later)) have d) ts ++ suc (length before + length made) ∷ []) (down later)
        ∙ ap (λ t. t ++ suc (length before + length made) ∷ []) first
        ∙ ap (λ k. numbered (length before + 1) made ++ k ∷ []) (omega arith)
        ∙ sym (numbered-append (length before + 1) made (w ∷ [])))

    least : (later : List (List ℕ)) (d : ℕ) → StandsTo F Is (before ++ ((made ++ w ∷ []) ++ later)) d (moved p (suc (length before + length made))) → suc levels ≤ d
    least later zero u = absurd u
    least later (suc d) u =
        let x = are.least (w ∷ later) d
        (subst (λ (x : List (List ℕ)). AllByRecursion (StandsTo F Is x d) (all_moved (q ∷ qs) (n ∷ ns))) (sym (same later))
        (subst (AllByRecursion (StandsTo F Is (before ++ ((made ++ w ∷ []) ++ later)) d)) (down later) u.below)) in
        omega (arith, x)

-- a leaf that was built
pub leaf_built : (F : Format) (Is : PagePlace → List ℕ → Type 0) (have : ℕ) (before : List (List ℕ)) (t : ℕ → Option Found) (w : List ℕ) (p : PagePlace)
    → have ≤ length before → F.below w p.low p.high ≡ [] → ((key : ℕ) → p.low ≤ key → key ≤ p.high → F.look w p.low key ≡ t key) → Is (moved p (suc (length before))) w
    → IsBuilt F Is have before (w ∷ []) 1 t p (suc (length before))
leaf_built F Is have before t w p le still look is = record {
  holds = holds;
  order = order;
  above = omega arith;
  least = λ (later : List (List ℕ)) (d : ℕ) u. some d (moved p (suc (length before))) (before ++ ((w ∷ []) ++ later)) u;
}
  where
    there : (later : List (List ℕ)) → page (before ++ ((w ∷ []) ++ later)) (suc (length before)) ≡ w
    there later = get_or_at before w later [] (length before) refl

    down : (later : List (List ℕ)) → places_below F (before ++ ((w ∷ []) ++ later)) (moved p (suc (length before))) ≡ []
    down later = ap (λ ws. F.below ws p.low p.high) (there later) ∙ still

    holds : (later : List (List ℕ)) (d : ℕ) → 1 ≤ d → HoldsRange F Is (before ++ ((w ∷ []) ++ later)) d t p (suc (length before))
    holds later zero h = absurd (omega (arith, h))
    holds later (suc d) h = record {
      content = λ (key : ℕ) a b.
          ap (λ ts. here_or_below (F.look (words_at (before ++ ((w ∷ []) ++ later)) (moved p (suc (length before)))) p.low key) (at_key key (find F (before ++ ((w ∷ []) ++ later)) d key) ts) ts) (down later)
          ∙ ap (λ ws. F.look ws p.low key) (there later)
          ∙ look key a b;
      stands = record {
        there = omega (arith, length-append before ((w ∷ []) ++ later));
        right = subst (λ (ws : List ℕ). Is (moved p (suc (length before))) ws) (sym (there later)) is;
        tiles = subst (Tiles p.low p.high) (sym (down later)) tt;
        below = subst (AllByRecursion (StandsTo F Is (before ++ ((w ∷ []) ++ later)) d)) (sym (down later)) tt;
      };
    }

    order : (later : List (List ℕ)) (d : ℕ) → 1 ≤ d → newer F (before ++ ((w ∷ []) ++ later)) have d (moved p (suc (length before))) ≡ numbered (length before + 1) (w ∷ [])
    order later zero h = absurd (omega (arith, h))
    order later (suc d) h =
        rw (above (suc (length before)) have (omega arith))
        (ap (λ ts. flat_map (newer F (before ++ ((w ∷ []) ++ later)) have d) ts ++ suc (length before) ∷ []) (down later) ∙ ap (λ k. k ∷ []) (omega arith))

    some : (d : ℕ) (r : PagePlace) (pages : List (List ℕ)) → StandsTo F Is pages d r → 1 ≤ d
    some zero r pages u = absurd u
    some (suc d) r pages u = omega arith

-- a leaf of the old snapshot whose range was built anew
pub made_of_built : (F : Format) (Is : PagePlace → List ℕ → Type 0) (S : List (List ℕ) → PagePlace → Type 0) (run : List Last) (old before made : List (List ℕ)) (depth levels : ℕ) (t : ℕ → Option Found) (p : PagePlace) (n : ℕ)
    → touches run p.low p.high ≡ true → places_below F old p ≡ [] → ((key : ℕ) → p.low ≤ key → key ≤ p.high → t key ≡ overlaid (F.look (words_at old p) p.low key) (entry_for run key))
    → IsBuilt F Is (length old) before made levels t p n → ((later : List (List ℕ)) → S (before ++ (made ++ later)) (moved p n)) → IsMade F Is S run old before made (suc depth) levels p n
made_of_built F Is S run old before made depth levels t p n touched none same b shape = record {
  replaces = λ later d le. let h = b.holds later d le in record {
    follows = mine;
    ways = way later;
    content = λ (key : ℕ) x y. h.content key x y ∙ same key x y ∙ ap (λ ts. overlaid (here_or_below (F.look (words_at old p) p.low key) (at_key key (find F old depth key) ts) ts) (entry_for run key)) (sym none);
    stands = h.stands;
  };
  order = b.order;
  least = λ (later : List (List ℕ)) (d : ℕ) le u. b.least later d u;
}
  where
    mine : Follows run (length old) p n
    mine = record { kept = λ f. absurd (cc); made = λ _. b.above }

    way : (later : List (List ℕ)) → WaysFollow F S run old (before ++ (made ++ later)) p (moved p n)
    way later zero key r x y h = let same : p ≡ r = cc in subst (λ (z : PagePlace). (k : ℕ) × (Some (moved p n) ≡ Some (moved z k)) × Succeeds F S run old (before ++ (made ++ later)) z k) same (n, refl, record { follows = mine; shape = λ u gone. shape later })
    way later (suc e) key r x y h = let gone : None ≡ Some r = ap (at_key key (on_way F old e key)) (sym none) ∙ h in absurd (cc)
