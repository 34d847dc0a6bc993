-- What was made for the places below a page, and for the page.
use Rattle.std.proofs.Common.{◌≡◌, ℕ, ◌+◌, ◌<◌, ◌≤◌, zero, suc, true, false, List, [], ◌∷◌, ◌++◌, length, Option, Some, None, refl, sym, ap, subst, ◌∙◌, arith, append_assoc, get_or, leb, inl, inr}
use Rattle.std.specs.Prelude.{cond, max}
use Rattle.std.specs.List.{AllByRecursion, flat_map}
use Rattle.std.proofs.lemmas.List.{length-append, get_or_at}
use Rattle.std.proofs.lemmas.Bool.{cases_lt}
use Rattle.std.proofs.lemmas.Bool.Decides.{nat_tests}
use Rattle.root_composer.specs.Overlaid.{entry_for, touches, overlaid}
use Rattle.root_composer.specs.declared.last.Last.{Last}
use Rattle.snapshot_store.specs.Places.{Format, page, words_at, places_below, at_key, on_way, find, here_or_below, Cover, Tiles, StandsTo, moved, newer}
use Rattle.snapshot_store.specs.declared.place.PagePlace.{PagePlace}
use Rattle.root_composer.specs.Composed.{numbered, Follows, Succeeds, WaysFollow, Replaces, IsMade, all_moved, EachWith, AreMade}
use Rattle.snapshot_store.specs.StandLaws.{on_way-append, find-append, stands-append}
use Rattle.root_composer.proofs.OverlayLemmas.{no_entry, none_within}

pub at_most : (a b : ℕ) → a ≤ b → leb a b ≡ true
at_most a b h = grind (arith, nat_tests)

pub above : (a b : ℕ) → b < a → leb a b ≡ false
above a b h = grind (arith, nat_tests)

abbrev Within : ℕ → ℕ → PagePlace → Type 0
Within low high q = (low ≤ q.low) × (q.high ≤ high)

-- places in a row lie in the range that they cover
cover_within : (low high l : ℕ) (qs : List PagePlace) → low ≤ l → Cover l high qs → AllByRecursion (Within low high) qs
cover_within low high l [] le c = tt
cover_within low high l (q ∷ qs) le c = ((omega (arith, c.0), c.2), cover_within low high (q.high + 1) qs (omega (arith, c.1)) c.3)

tiles_within : (low high : ℕ) (qs : List PagePlace) → Tiles low high qs → AllByRecursion (Within low high) qs
tiles_within low high [] t = tt
tiles_within low high (q ∷ qs) t = cover_within low high low (q ∷ qs) (omega arith) t

-- what is given at a key is given at one of the places
at_one : {X : Type 0} (P : PagePlace → Type 0) (key : ℕ) (f : PagePlace → Option X) (qs : List PagePlace) (x : X) → AllByRecursion P qs → at_key key f qs ≡ Some x → (q : PagePlace) × P q × (f q ≡ Some x)
at_one P key f [] x all e = absurd (cc)
at_one P key f (q ∷ qs) x all e =
    elim (leb key q.high) as (λ b. cond b (f q) (at_key key f qs) ≡ Some x → (q : PagePlace) × P q × (f q ≡ Some x)) [
      | true ↦ λ h. (q, all.0, h)
      | false ↦ λ h. at_one P key f qs x all.1 h
    ] e

-- pages on the way stand for parts of the range
way_within : (F : Format) (Is : PagePlace → List ℕ → Type 0) (pages : List (List ℕ)) (depth d key : ℕ) (p q : PagePlace) → StandsTo F Is pages depth p → on_way F pages d key p ≡ Some q → Within p.low p.high q
way_within F Is pages zero d key p q s e = absurd s
way_within F Is pages (suc depth) zero key p q s e = let same : p ≡ q = cc in subst (Within p.low p.high) same (omega arith, omega arith)
way_within F Is pages (suc depth) (suc d) key p q s e =
    let both = all_both (StandsTo F Is pages depth) (Within p.low p.high) (places_below F pages p) s.below (tiles_within p.low p.high (places_below F pages p) s.tiles) in
    let one = at_one (λ r. StandsTo F Is pages depth r × Within p.low p.high r) key (on_way F pages d key) (places_below F pages p) q both e in
    let rest = way_within F Is pages depth d key one.0 q one.1.0 one.2 in
    (omega (arith, rest.0, one.1.1.0), omega (arith, rest.1, one.1.1.1))
  where
    all_both : (P Q : PagePlace → Type 0) (qs : List PagePlace) → AllByRecursion P qs → AllByRecursion Q qs → AllByRecursion (λ q. P q × Q q) qs
    all_both P Q [] a b = tt
    all_both P Q (q ∷ qs) a b = ((a.0, b.0), all_both P Q qs a.1 b.1)

-- ---- a page without entries in its range is left as it is

newer_none : (F : Format) (pages : List (List ℕ)) (have d : ℕ) (p : PagePlace) → p.number ≤ have → newer F pages have d p ≡ []
newer_none F pages have zero p h = refl
newer_none F pages have (suc d) p h = rw (at_most p.number have h) refl

untouched : (run : List Last) (have : ℕ) (q : PagePlace) → touches run q.low q.high ≡ false → Follows run have q q.number
untouched run have q e = record { kept = λ _. refl; made = λ t. absurd (cc) }

alone : (F : Format) (S : List (List ℕ) → PagePlace → Type 0) (run : List Last) (old new : List (List ℕ)) (q : PagePlace) → touches run q.low q.high ≡ false → Succeeds F S run old new q q.number
alone F S run old new q e = record { follows = untouched run (length old) q e; shape = λ t none. absurd (cc) }

pub there_of : (F : Format) (Is : PagePlace → List ℕ → Type 0) (pages : List (List ℕ)) (depth : ℕ) (p : PagePlace) → StandsTo F Is pages depth p → p.number ≤ length pages
there_of F Is pages zero p s = absurd s
there_of F Is pages (suc depth) p s = s.there

pub kept : (F : Format) (Is : PagePlace → List ℕ → Type 0) (S : List (List ℕ) → PagePlace → Type 0) (run : List Last) (old siblings : List (List ℕ)) (depth : ℕ) (p : PagePlace)
    → StandsTo F Is old depth p → touches run p.low p.high ≡ false → IsMade F Is S run old (old ++ siblings) [] depth depth p p.number
kept F Is S run old siblings depth p s e = record {
  replaces = λ (later : List (List ℕ)) (d : ℕ) le. rw (append_assoc old siblings later) (record {
    follows = untouched run (length old) p e;
    ways = λ (d key : ℕ) (q : PagePlace) a b w.
        let within = way_within F Is old depth d key p q s w in
        (q.number, on_way-append F Is old (siblings ++ later) depth d key p s ∙ w, alone F S run old (old ++ (siblings ++ later)) q (none_within run p.low p.high q.low q.high e within.0 within.1));
    content = λ (key : ℕ) a b. find-append F Is old (siblings ++ later) depth d key p s le ∙ rw (no_entry run p.low p.high key e a b) refl;
    stands = stands-append F Is old (siblings ++ later) depth d p s le;
  });
  order = λ (later : List (List ℕ)) (d : ℕ) le. newer_none F ((old ++ siblings) ++ later) (length old) d p (there_of F Is old depth p s);
  least = λ (later : List (List ℕ)) (d : ℕ) le t. le;
}

-- ---- places in a row, one after another

pub numbered-append : (from : ℕ) (xs ys : List (List ℕ)) → numbered from (xs ++ ys) ≡ numbered from xs ++ numbered (from + length xs) ys
numbered-append from [] ys = ap (λ n. numbered n ys) (omega arith)
numbered-append from (x ∷ xs) ys = ap (λ t. from ∷ t) (numbered-append (from + 1) xs ys ∙ ap (λ n. numbered (from + 1) xs ++ numbered n ys) (omega arith))

pub none_made : (F : Format) (Is : PagePlace → List ℕ → Type 0) (S : List (List ℕ) → PagePlace → Type 0) (run : List Last) (old before : List (List ℕ)) (depth : ℕ) → AreMade F Is S run old before [] depth 0 [] []
none_made F Is S run old before depth = record { replaces = λ later d le. tt; order = λ later d le. refl; least = λ later d le t. omega arith }

pub regroup : (before first rest later : List (List ℕ)) → (before ++ first) ++ (rest ++ later) ≡ before ++ ((first ++ rest) ++ later)
regroup before first rest later = simp append_assoc

pub one_more : (F : Format) (Is : PagePlace → List ℕ → Type 0) (S : List (List ℕ) → PagePlace → Type 0) (run : List Last) (old before first rest : List (List ℕ)) (depth l m levels : ℕ) (q : PagePlace) (n : ℕ) (qs : List PagePlace) (ns : List ℕ)
    → levels ≡ max l m → IsMade F Is S run old before first depth l q n → AreMade F Is S run old (before ++ first) rest depth m qs ns → AreMade F Is S run old before (first ++ rest) depth levels (q ∷ qs) (n ∷ ns)
one_more F Is S run old before first rest depth l m levels q n qs ns a one all = record {
  replaces = λ (later : List (List ℕ)) (d : ℕ) le. (
    subst (λ (t : List (List ℕ)). Replaces F Is S run old (before ++ t) depth d q n) (sym (append_assoc first rest later)) (one.replaces (rest ++ later) d (omega (arith, le))),
    subst (λ (t : List (List ℕ)). EachWith (Replaces F Is S run old t depth d) qs ns) (regroup before first rest later) (all.replaces later d (omega (arith, le))),
  );
  order = λ (later : List (List ℕ)) (d : ℕ) le.
      let x = subst (λ (t : List (List ℕ)). newer F (before ++ t) (length old) d (moved q n) ≡ numbered (length before + 1) first) (sym (append_assoc first rest later)) (one.order (rest ++ later) d (omega (arith, le))) in
      let y = subst (λ (t : List (List ℕ)). flat_map (newer F t (length old) d) (all_moved qs ns) ≡ numbered (length (before ++ first) + 1) rest) (regroup before first rest later) (all.order later d (omega (arith, le))) in
      ap (λ t. t ++ flat_map (newer F (before ++ ((first ++ rest) ++ later)) (length old) d) (all_moved qs ns)) x
      ∙ ap (λ t. numbered (length before + 1) first ++ t) (y ∙ ap (λ k. numbered k rest) (omega (arith, length-append before first)))
      ∙ sym (numbered-append (length before + 1) first rest);
  least = λ (later : List (List ℕ)) (d : ℕ) le t.
      let x = one.least (rest ++ later) d le (subst (λ (t : List (List ℕ)). StandsTo F Is (before ++ t) d (moved q n)) (append_assoc first rest later) t.0) in
      let y = all.least later d le (subst (λ (t : List (List ℕ)). AllByRecursion (StandsTo F Is t d) (all_moved qs ns)) (sym (regroup before first rest later)) t.1) in
      omega (arith, x, y, a);
}

-- ---- the page above them

-- the place that follows the one with the key
way_replaced : (F : Format) (Is : PagePlace → List ℕ → Type 0) (S : List (List ℕ) → PagePlace → Type 0) (run : List Last) (old new : List (List ℕ)) (depth e d key low high : ℕ) (q : PagePlace) (qs : List PagePlace) (ns : List ℕ)
    → Cover low high qs → low ≤ key → EachWith (Replaces F Is S run old new depth e) qs ns → at_key key (on_way F old d key) qs ≡ Some q
    → (n : ℕ) × (at_key key (on_way F new d key) (all_moved qs ns) ≡ Some (moved q n)) × Succeeds F S run old new q n
way_replaced F Is S run old new depth e d key low high q [] ns c le all w = absurd (cc)
way_replaced F Is S run old new depth e d key low high q (r ∷ rs) [] c le all w = absurd all
way_replaced F Is S run old new depth e d key low high q (r ∷ rs) (m ∷ ms) c le all w =
    elim (cases_lt r.high key) [
      | inl lt ↦
          let t = above key r.high lt in
          let rest = way_replaced F Is S run old new depth e d key (r.high + 1) high q rs ms c.3 (omega arith) all.1 (rw t at w) in
          (rest.0, rw t rest.1, rest.2)
      | inr ge ↦
          let t = at_most key r.high ge in
          let here = all.0.ways d key q (omega (arith, c.0)) ge (rw t at w) in
          (here.0, rw t here.1, here.2)
    ]

find_replaced : (F : Format) (Is : PagePlace → List ℕ → Type 0) (S : List (List ℕ) → PagePlace → Type 0) (run : List Last) (old new : List (List ℕ)) (depth d key low high : ℕ) (qs : List PagePlace) (ns : List ℕ)
    → Cover low high qs → low ≤ key → key ≤ high → EachWith (Replaces F Is S run old new depth d) qs ns
    → at_key key (find F new d key) (all_moved qs ns) ≡ overlaid (at_key key (find F old depth key) qs) (entry_for run key)
find_replaced F Is S run old new depth d key low high [] ns c le ge all = absurd (omega (arith, c))
find_replaced F Is S run old new depth d key low high (r ∷ rs) [] c le ge all = absurd all
find_replaced F Is S run old new depth d key low high (r ∷ rs) (m ∷ ms) c le ge all =
    elim (cases_lt r.high key) [
      | inl lt ↦ rw (above key r.high lt) (find_replaced F Is S run old new depth d key (r.high + 1) high rs ms c.3 (omega arith) ge all.1)
      | inr h ↦ rw (at_most key r.high h) (all.0.content key (omega (arith, c.0)) h)
    ]

pub cover_moved : (R : PagePlace → ℕ → Type 0) (low high : ℕ) (qs : List PagePlace) (ns : List ℕ) → EachWith R qs ns → Cover low high qs → Cover low high (all_moved qs ns)
cover_moved R low high [] ns all c = c
cover_moved R low high (q ∷ qs) [] all c = absurd all
cover_moved R low high (q ∷ qs) (n ∷ ns) all c = (c.0, c.1, c.2, cover_moved R (q.high + 1) high qs ns all.1 c.3)

tiles_moved : (R : PagePlace → ℕ → Type 0) (low high : ℕ) (qs : List PagePlace) (ns : List ℕ) → EachWith R qs ns → Tiles low high qs → Tiles low high (all_moved qs ns)
tiles_moved R low high [] ns all t = tt
tiles_moved R low high (q ∷ qs) [] all t = absurd all
tiles_moved R low high (q ∷ qs) (n ∷ ns) all t = cover_moved R low high (q ∷ qs) (n ∷ ns) all t

all_stand : (F : Format) (Is : PagePlace → List ℕ → Type 0) (S : List (List ℕ) → PagePlace → Type 0) (run : List Last) (old new : List (List ℕ)) (depth d : ℕ) (qs : List PagePlace) (ns : List ℕ)
    → EachWith (Replaces F Is S run old new depth d) qs ns → AllByRecursion (StandsTo F Is new d) (all_moved qs ns)
all_stand F Is S run old new depth d [] ns all = tt
all_stand F Is S run old new depth d (q ∷ qs) [] all = absurd all
all_stand F Is S run old new depth d (q ∷ qs) (n ∷ ns) all = (all.0.stands, all_stand F Is S run old new depth d qs ns all.1)

-- the page that names the new numbers stands for its range
pub page_replaces : (F : Format) (Is : PagePlace → List ℕ → Type 0) (S : List (List ℕ) → PagePlace → Type 0) (run : List Last) (old new : List (List ℕ)) (depth d n : ℕ) (w : List ℕ) (p q : PagePlace) (qs : List PagePlace) (ns : List ℕ)
    → length old < n → n ≤ length new → touches run p.low p.high ≡ true → places_below F old p ≡ q ∷ qs → StandsTo F Is old (suc depth) p
    → page new n ≡ w → F.below w p.low p.high ≡ all_moved (q ∷ qs) ns → Is (moved p n) w
    → EachWith (Replaces F Is S run old new depth d) (q ∷ qs) ns → Replaces F Is S run old new (suc depth) (suc d) p n
page_replaces F Is S run old new depth d n w p q qs [] more fits t below s at kids is all = absurd all
page_replaces F Is S run old new depth d n w p q qs (m ∷ ms) more fits t below s at kids is all =
    let tiles : Cover p.low p.high (q ∷ qs) = subst (Tiles p.low p.high) below s.tiles in
    let down : places_below F new (moved p n) ≡ all_moved (q ∷ qs) (m ∷ ms) = ap (λ ws. F.below ws p.low p.high) at ∙ kids in
    let mine : Follows run (length old) p n = record { kept = λ f. absurd (cc); made = λ _. more } in
    record {
      follows = mine;
      ways = λ (e key : ℕ) (r : PagePlace) a b. way e key r a b tiles down (record { follows = mine; shape = λ u none. absurd (cc) });
      content = λ (key : ℕ) a b.
          ap (λ ts. here_or_below (F.look (words_at new (moved p n)) p.low key) (at_key key (find F new d key) ts) ts) down
          ∙ find_replaced F Is S run old new depth d key p.low p.high (q ∷ qs) (m ∷ ms) tiles a b all
          ∙ ap (λ ts. overlaid (here_or_below (F.look (words_at old p) p.low key) (at_key key (find F old depth key) ts) ts) (entry_for run key)) (sym below);
      stands = record {
        there = fits;
        right = subst (λ (ws : List ℕ). Is (moved p n) ws) (sym at) is;
        tiles = subst (Tiles p.low p.high) (sym down) (tiles_moved (Replaces F Is S run old new depth d) p.low p.high (q ∷ qs) (m ∷ ms) all tiles);
        below = subst (AllByRecursion (StandsTo F Is new d)) (sym down) (all_stand F Is S run old new depth d (q ∷ qs) (m ∷ ms) all);
      };
    }
  where
    way : (e key : ℕ) (r : PagePlace) → p.low ≤ key → key ≤ p.high → Cover p.low p.high (q ∷ qs) → places_below F new (moved p n) ≡ all_moved (q ∷ qs) (m ∷ ms) → Succeeds F S run old new p n
        → on_way F old e key p ≡ Some r → (k : ℕ) × (on_way F new e key (moved p n) ≡ Some (moved r k)) × Succeeds F S run old new r k
    way zero key r a b tiles down mine h = let same : p ≡ r = cc in subst (λ (x : PagePlace). (k : ℕ) × (Some (moved p n) ≡ Some (moved x k)) × Succeeds F S run old new x k) same (n, refl, mine)
    way (suc e) key r a b tiles down mine h =
        let found = way_replaced F Is S run old new depth d e key p.low p.high r (q ∷ qs) (m ∷ ms) tiles a all (ap (at_key key (on_way F old e key)) (sym below) ∙ h) in
        (found.0, ap (at_key key (on_way F new e key)) down ∙ found.1, found.2)

pub page_there : (before made later : List (List ℕ)) (w : List ℕ) → page (before ++ ((made ++ w ∷ []) ++ later)) (suc (length before + length made)) ≡ w
page_there before made later w =
    ap (λ t. get_or t (length before + length made) []) (ap (λ t. before ++ t) (append_assoc made (w ∷ []) later) ∙ sym (append_assoc before made (w ∷ later)))
    ∙ get_or_at (before ++ made) w later [] (length before + length made) (length-append before made)

pub page_made : (F : Format) (Is : PagePlace → List ℕ → Type 0) (S : List (List ℕ) → PagePlace → Type 0) (run : List Last) (old before made : List (List ℕ)) (depth levels : ℕ) (w : List ℕ) (p q : PagePlace) (qs : List PagePlace) (ns : List ℕ)
    → length old ≤ length before → touches run p.low p.high ≡ true → places_below F old p ≡ q ∷ qs → StandsTo F Is old (suc depth) p
    → F.below w p.low p.high ≡ all_moved (q ∷ qs) ns → Is (moved p (suc (length before + length made))) w
    → AreMade F Is S run old before made depth levels (q ∷ qs) ns
    → IsMade F Is S run old before (made ++ w ∷ []) (suc depth) (suc levels) p (suc (length before + length made))
page_made F Is S run old before made depth levels w p q qs ns le t below s kids is are = record {
  replaces = replaces;
  order = order;
  least = least;
}
  where
    room : (later : List (List ℕ)) → suc (length before + length made) ≤ length (before ++ ((made ++ w ∷ []) ++ later))
    room later = omega (arith, length-append before ((made ++ w ∷ []) ++ later), length-append (made ++ w ∷ []) later, length-append made (w ∷ []))

    same : (later : List (List ℕ)) → before ++ (made ++ (w ∷ later)) ≡ before ++ ((made ++ w ∷ []) ++ later)
    same later = ap (λ t. before ++ t) (sym (append_assoc made (w ∷ []) later))

    replaces : (later : List (List ℕ)) (d : ℕ) → suc levels ≤ d → Replaces F Is S run old (before ++ ((made ++ w ∷ []) ++ later)) (suc depth) d p (suc (length before + length made))
    replaces later zero h = absurd (omega (arith, h))
    replaces later (suc d) h =
        page_replaces F Is S run old (before ++ ((made ++ w ∷ []) ++ later)) depth d (suc (length before + length made)) w p q qs ns
        (omega arith) (room later) t below s (page_there before made later w) kids is
        (subst (λ (x : List (List ℕ)). EachWith (Replaces F Is S run old x depth d) (q ∷ qs) ns) (same later) (are.replaces (w ∷ later) d (omega arith)))

    order : (later : List (List ℕ)) (d : ℕ) → suc levels ≤ d → newer F (before ++ ((made ++ w ∷ []) ++ later)) (length old) d (moved p (suc (length before + length made))) ≡ numbered (length before + 1) (made ++ w ∷ [])
    order later zero h = absurd (omega (arith, h))
    order later (suc d) h =
        let down : places_below F (before ++ ((made ++ w ∷ []) ++ later)) (moved p (suc (length before + length made))) ≡ all_moved (q ∷ qs) ns = ap (λ ws. F.below ws p.low p.high) (page_there before made later w) ∙ kids in
        let first : flat_map (newer F (before ++ ((made ++ w ∷ []) ++ later)) (length old) d) (all_moved (q ∷ qs) ns) ≡ numbered (length before + 1) made =
        subst (λ (x : List (List ℕ)). flat_map (newer F x (length old) d) (all_moved (q ∷ qs) ns) ≡ numbered (length before + 1) made) (same later) (are.order (w ∷ later) d (omega arith)) in
        rw (above (suc (length before + length made)) (length old) (omega arith))
        (ap (λ ts. flat_map (newer F (before ++ ((made ++ w ∷ []) ++ later)) (length old) d) ts ++ suc (length before + length made) ∷ []) down
        ∙ ap (λ t. t ++ suc (length before + length made) ∷ []) first
        ∙ ap (λ k. numbered (length before + 1) made ++ k ∷ []) (omega arith)
        ∙ sym (numbered-append (length before + 1) made (w ∷ [])))

    least : (later : List (List ℕ)) (d : ℕ) → suc depth ≤ d → StandsTo F Is (before ++ ((made ++ w ∷ []) ++ later)) d (moved p (suc (length before + length made))) → suc levels ≤ d
    least later zero h u = absurd u
    least later (suc d) h u =
        let down : places_below F (before ++ ((made ++ w ∷ []) ++ later)) (moved p (suc (length before + length made))) ≡ all_moved (q ∷ qs) ns = ap (λ ws. F.below ws p.low p.high) (page_there before made later w) ∙ kids in
        let x = are.least (w ∷ later) d (omega (arith, h))
        (subst (λ (x : List (List ℕ)). AllByRecursion (StandsTo F Is x d) (all_moved (q ∷ qs) ns)) (sym (same later))
        (subst (AllByRecursion (StandsTo F Is (before ++ ((made ++ w ∷ []) ++ later)) d)) down u.below)) in
        omega (arith, x)

-- ---- a leaf that is written anew as one page

pub leaf_made : (F : Format) (Is : PagePlace → List ℕ → Type 0) (S : List (List ℕ) → PagePlace → Type 0) (run : List Last) (old before : List (List ℕ)) (depth : ℕ) (w : List ℕ) (p : PagePlace)
    → length old ≤ length before → touches run p.low p.high ≡ true → places_below F old p ≡ [] → F.below w p.low p.high ≡ []
    → ((key : ℕ) → p.low ≤ key → key ≤ p.high → F.look w p.low key ≡ overlaid (F.look (words_at old p) p.low key) (entry_for run key))
    → Is (moved p (suc (length before))) w → ((later : List (List ℕ)) → S (before ++ ((w ∷ []) ++ later)) (moved p (suc (length before)))) → IsMade F Is S run old before (w ∷ []) (suc depth) 1 p (suc (length before))
leaf_made F Is S run old before depth w p le t none still look is shape = record {
  replaces = replaces;
  order = order;
  least = λ (later : List (List ℕ)) (d : ℕ) le u. some d (moved p (suc (length before))) (before ++ ((w ∷ []) ++ later)) u;
}
  where
    there : (later : List (List ℕ)) → page (before ++ ((w ∷ []) ++ later)) (suc (length before)) ≡ w
    there later = get_or_at before w later [] (length before) refl

    down : (later : List (List ℕ)) → places_below F (before ++ ((w ∷ []) ++ later)) (moved p (suc (length before))) ≡ []
    down later = ap (λ ws. F.below ws p.low p.high) (there later) ∙ still

    mine : Follows run (length old) p (suc (length before))
    mine = record { kept = λ f. absurd (cc); made = λ _. omega arith }

    way : (later : List (List ℕ)) → WaysFollow F S run old (before ++ ((w ∷ []) ++ later)) p (moved p (suc (length before)))
    way later zero key r a b h = let same : p ≡ r = cc in subst (λ (x : PagePlace). (k : ℕ) × (Some (moved p (suc (length before))) ≡ Some (moved x k)) × Succeeds F S run old (before ++ ((w ∷ []) ++ later)) x k) same (suc (length before), refl, record { follows = mine; shape = λ u none. shape later })
    way later (suc e) key r a b h =
        let gone : None ≡ Some r = ap (at_key key (on_way F old e key)) (sym none) ∙ h in absurd (cc)

    replaces : (later : List (List ℕ)) (d : ℕ) → 1 ≤ d → Replaces F Is S run old (before ++ ((w ∷ []) ++ later)) (suc depth) d p (suc (length before))
    replaces later zero h = absurd (omega (arith, h))
    replaces later (suc d) h = record {
      follows = mine;
      ways = way later;
      content = λ (key : ℕ) a b.
          ap (λ ts. here_or_below (F.look (words_at (before ++ ((w ∷ []) ++ later)) (moved p (suc (length before)))) p.low key) (at_key key (find F (before ++ ((w ∷ []) ++ later)) d key) ts) ts) (down later)
          ∙ ap (λ ws. F.look ws p.low key) (there later)
          ∙ look key a b
          ∙ ap (λ ts. overlaid (here_or_below (F.look (words_at old p) p.low key) (at_key key (find F old depth key) ts) ts) (entry_for run key)) (sym none);
      stands = record {
        there = omega (arith, length-append before ((w ∷ []) ++ later));
        right = subst (λ (ws : List ℕ). Is (moved p (suc (length before))) ws) (sym (there later)) is;
        tiles = subst (Tiles p.low p.high) (sym (down later)) tt;
        below = subst (AllByRecursion (StandsTo F Is (before ++ ((w ∷ []) ++ later)) d)) (sym (down later)) tt;
      };
    }

    order : (later : List (List ℕ)) (d : ℕ) → 1 ≤ d → newer F (before ++ ((w ∷ []) ++ later)) (length old) d (moved p (suc (length before))) ≡ numbered (length before + 1) (w ∷ [])
    order later zero h = absurd (omega (arith, h))
    order later (suc d) h =
        rw (above (suc (length before)) (length old) (omega arith))
        (ap (λ ts. flat_map (newer F (before ++ ((w ∷ []) ++ later)) (length old) d) ts ++ suc (length before) ∷ []) (down later) ∙ ap (λ k. k ∷ []) (omega arith))

    some : (d : ℕ) (r : PagePlace) (pages : List (List ℕ)) → StandsTo F Is pages d r → 1 ≤ d
    some zero r pages u = absurd u
    some (suc d) r pages u = omega arith
