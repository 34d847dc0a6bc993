-- Composing makes what it should, where leaves and interior pages are written as their format asks.
use Rattle.std.proofs.Common.{◌≡◌, ℕ, ◌+◌, ◌≤◌, zero, suc, true, false, List, [], ◌∷◌, ◌++◌, length, refl, sym, ap, subst, ◌∙◌, arith, append_assoc}
use Rattle.std.specs.Prelude.{cond, max}
use Rattle.std.specs.List.{AllByRecursion}
use Rattle.std.proofs.lemmas.List.{length-append}
use Rattle.root_composer.specs.Overlaid.{touches}
use Rattle.root_composer.specs.declared.last.Last.{Last}
use Rattle.snapshot_store.specs.Places.{Format, words_at, places_below, StandsTo, moved}
use Rattle.snapshot_store.specs.declared.place.PagePlace.{PagePlace}
use Rattle.root_composer.specs.Composed.{Replaces, IsMade, AreMade, EachWith, all_moved}
use Rattle.root_composer.specs.Composer.{Made, AllMade, Writer, compose, compose_each, left_alone, written, MayName, IsLawful}
use Rattle.root_composer.proofs.MadeLemmas.{kept, none_made, one_more, page_made}

-- what was made is what should be, after the old pages and those of siblings
abbrev MadeRight : Format → (PagePlace → List ℕ → Type 0) → (List (List ℕ) → PagePlace → Type 0) → List Last → List (List ℕ) → ℕ → PagePlace → List (List ℕ) → Made → Type 0
MadeRight F Is S run old depth p siblings m = IsMade F Is S run old (old ++ siblings) m.pages depth m.levels p m.number

abbrev AllRight : Format → (PagePlace → List ℕ → Type 0) → (List (List ℕ) → PagePlace → Type 0) → List Last → List (List ℕ) → ℕ → List PagePlace → List (List ℕ) → AllMade → Type 0
AllRight F Is S run old depth qs siblings m = AreMade F Is S run old (old ++ siblings) m.pages depth m.levels qs m.numbers

each_right : (F : Format) (Is : PagePlace → List ℕ → Type 0) (S : List (List ℕ) → PagePlace → Type 0) (run : List Last) (old : List (List ℕ)) (depth : ℕ) (f : PagePlace → ℕ → Made)
    → ((q : PagePlace) (siblings : List (List ℕ)) → StandsTo F Is old depth q → MadeRight F Is S run old depth q siblings (f q (length (old ++ siblings))))
    → (qs : List PagePlace) (siblings : List (List ℕ)) (before : ℕ) → before ≡ length (old ++ siblings) → AllByRecursion (StandsTo F Is old depth) qs → AllRight F Is S run old depth qs siblings (compose_each f qs before)
each_right F Is S run old depth f h [] siblings before e all = none_made F Is S run old (old ++ siblings) depth
each_right F Is S run old depth f h (q ∷ qs) siblings before e all =
    let m : Made = f q before in
    let one : MadeRight F Is S run old depth q siblings (f q before) = subst (λ (n : ℕ). MadeRight F Is S run old depth q siblings (f q n)) (sym e) (h q siblings all.0) in
    let count : before + length m.pages ≡ length (old ++ (siblings ++ m.pages)) = omega (arith, e, length-append old siblings, length-append old (siblings ++ m.pages), length-append siblings m.pages) in
    let rest : AllRight F Is S run old depth qs (siblings ++ m.pages) (compose_each f qs (before + length m.pages)) = each_right F Is S run old depth f h qs (siblings ++ m.pages) (before + length m.pages) count all.1 in
    let r : AllMade = compose_each f qs (before + length m.pages) in
    one_more F Is S run old (old ++ siblings) m.pages r.pages depth m.levels r.levels (max m.levels r.levels) q m.number qs r.numbers refl one
    (subst (λ (b : List (List ℕ)). AreMade F Is S run old b r.pages depth r.levels qs r.numbers) (sym (append_assoc old siblings m.pages)) rest)

each_map : (P R : PagePlace → ℕ → Type 0) → ((q : PagePlace) (n : ℕ) → P q n → R q n) → (qs : List PagePlace) (ns : List ℕ) → EachWith P qs ns → EachWith R qs ns
each_map P R f [] [] all = tt
each_map P R f [] (n ∷ ns) all = all
each_map P R f (q ∷ qs) [] all = all
each_map P R f (q ∷ qs) (n ∷ ns) all = (f q n all.0, each_map P R f qs ns all.1)

there_of : (F : Format) (Is : PagePlace → List ℕ → Type 0) (pages : List (List ℕ)) (depth : ℕ) (p : PagePlace) → StandsTo F Is pages depth p → p.number ≤ length pages
there_of F Is pages zero p s = absurd s
there_of F Is pages (suc depth) p s = s.there

may_name : (F : Format) (Is : PagePlace → List ℕ → Type 0) (S : List (List ℕ) → PagePlace → Type 0) (run : List Last) (old before made : List (List ℕ)) (depth levels : ℕ) (qs : List PagePlace) (ns : List ℕ)
    → AreMade F Is S run old before made depth levels qs ns → EachWith (MayName run (length old) (suc (length before + length made))) qs ns
may_name F Is S run old before made depth levels qs ns are =
    each_map (Replaces F Is S run old (before ++ (made ++ [])) depth levels) (MayName run (length old) (suc (length before + length made)))
    (λ q n r.
    let fits : n ≤ length (before ++ (made ++ [])) = there_of F Is (before ++ (made ++ [])) levels (moved q n) r.stands in
    (omega (arith, length-append before (made ++ []), length-append {A = List ℕ} made []), r.follows))
    qs ns (are.replaces [] levels (omega arith))

written_right : (F : Format) (Is : PagePlace → List ℕ → Type 0) (S : List (List ℕ) → PagePlace → Type 0) (W : Writer) (run : List Last) (old siblings : List (List ℕ)) (depth : ℕ) (f : PagePlace → ℕ → Made) (p : PagePlace)
    → IsLawful F Is S W run old → ((q : PagePlace) (s : List (List ℕ)) → StandsTo F Is old depth q → MadeRight F Is S run old depth q s (f q (length (old ++ s))))
    → StandsTo F Is old (suc depth) p → touches run p.low p.high ≡ true → (qs : List PagePlace) → places_below F old p ≡ qs
    → MadeRight F Is S run old (suc depth) p siblings (written W (words_at old p) p run (length (old ++ siblings)) f qs)
written_right F Is S W run old siblings depth f p law h s t [] e = law.leaf siblings depth p s t e
written_right F Is S W run old siblings depth f p law h s t (q ∷ qs) e =
    let r : AllMade = compose_each f (q ∷ qs) (length (old ++ siblings)) in
    let are : AllRight F Is S run old depth (q ∷ qs) siblings (compose_each f (q ∷ qs) (length (old ++ siblings))) =
    each_right F Is S run old depth f h (q ∷ qs) siblings (length (old ++ siblings)) refl (subst (AllByRecursion (StandsTo F Is old depth)) e s.below) in
    let may = may_name F Is S run old (old ++ siblings) r.pages depth r.levels (q ∷ qs) r.numbers are in
    let names = subst (λ (x : List PagePlace). EachWith (MayName run (length old) (suc (length (old ++ siblings) + length r.pages))) x r.numbers) (sym e) may in
    page_made F Is S run old (old ++ siblings) r.pages depth r.levels (W.inner (words_at old p) p r.numbers) p q qs r.numbers
    (omega (arith, length-append old siblings)) t e s
    (law.below (words_at old p) p (suc (length (old ++ siblings) + length r.pages)) r.numbers s.right names ∙ ap (λ x. all_moved x r.numbers) e)
    (law.right (words_at old p) p (suc (length (old ++ siblings) + length r.pages)) q qs r.numbers s.right s.tiles t e names)
    are

-- composing a place
pub compose_right : (F : Format) (Is : PagePlace → List ℕ → Type 0) (S : List (List ℕ) → PagePlace → Type 0) (W : Writer) (run : List Last) (old : List (List ℕ)) → IsLawful F Is S W run old → (depth : ℕ) (p : PagePlace) (siblings : List (List ℕ)) → StandsTo F Is old depth p
    → MadeRight F Is S run old depth p siblings (compose F W run old depth p (length (old ++ siblings)))
compose_right F Is S W run old law zero p siblings s = absurd s
compose_right F Is S W run old law (suc depth) p siblings s =
    elim (touches run p.low p.high) as (λ b. touches run p.low p.high ≡ b → MadeRight F Is S run old (suc depth) p siblings
    (cond b (written W (words_at old p) p run (length (old ++ siblings)) (compose F W run old depth) (places_below F old p)) (left_alone (suc depth) p))) [
      | true ↦ λ t. written_right F Is S W run old siblings depth (compose F W run old depth) p law (λ q more t. compose_right F Is S W run old law depth q more t) s t (places_below F old p) refl
      | false ↦ λ e. kept F Is S run old siblings (suc depth) p s e
    ] refl
