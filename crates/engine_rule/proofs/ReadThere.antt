-- Each place that a root leads to has a page that is there; and the roots one by one.
use Rattle.std.proofs.Common.{◌≡◌, ℕ, zero, suc, ◌+◌, ◌-◌, ◌/◌, ◌<◌, ◌≤◌, eqb, inl, inr, List, [], ◌∷◌, ◌++◌, append-nil, append_assoc, length, get_or, take, refl, sym, ap, ◌∙◌, subst, arith}
use Rattle.std.proofs.lemmas.Bool.{cases_lt, cond_both, eqb-false}
use Rattle.std.proofs.lemmas.List.{length-map, take_more}
use Rattle.std.specs.List.{flat_map, AllByRecursion}
use Rattle.std.specs.Prelude.{⊤}
use Rattle.lists.specs.Each.{all_append}
use Rattle.serial_model.specs.declared.decl.Decl.{Decl}
use Rattle.serial_model.specs.declared.decl.Decl.TheVariants.{Array, Tree}
use Rattle.wire_form.specs.declared.page.Page.{Page}
use Rattle.wire_form.specs.declared.records.Stored.{Stored}
use Rattle.snapshot_store.specs.declared.place.PagePlace.{PagePlace}
use Rattle.snapshot_store.specs.Places.{places_below, words_at}
use Rattle.snapshot_store.specs.ArrayPages.{array_below}
use Rattle.snapshot_store.specs.Content.{words_of, deepest, root_place, format_of}
use Rattle.snapshot_store.specs.ReadLaws.{deepest_is, last_small}
use Rattle.engine_rule.specs.Reading.{IsBounded, IsBoundedIn, IsThere, below_in, page_in, led_places, named_places}
use Rattle.engine_rule.proofs.ReadPages.{page_there}
use Rattle.engine_rule.proofs.ReadRows.{below_narrow, below_wide, row_bounded}

-- what asks nothing holds of all
pub all_any : {X : Type 0} (xs : List X) → AllByRecursion (λ x. ⊤) xs
all_any [] = tt
all_any (x ∷ xs) = (tt, all_any xs)

array_bounded : (words : List ℕ) (p : PagePlace) → IsBounded p → AllByRecursion IsBounded (array_below words p.low p.high)
array_bounded words p small = elim (cases_lt 32 (p.high + 1 - p.low)) [
  | inl wide ↦
      let is = below_wide words p.low p.high ((p.high + 1 - p.low) / 64) (omega (arith, wide)) refl in
      subst (λ (qs : List PagePlace). AllByRecursion IsBounded qs) (sym is)
      (row_bounded words ((p.high + 1 - p.low) / 64) p.low 64 small.0 (omega (arith, wide, small.1)))
  | inr narrow ↦ subst (λ (qs : List PagePlace). AllByRecursion IsBounded qs) (sym (below_narrow words p.low p.high (omega (arith, narrow)))) tt
]

below_bounded : (decl : Decl) (words : List ℕ) (p : PagePlace) → IsBoundedIn decl p → AllByRecursion (IsBoundedIn decl) (below_in decl words p)
below_bounded (Array id size) words p small = array_bounded words p small
below_bounded (Tree id) words p small = all_any (below_in (Tree id) words p)

all_flat : {X Y : Type 0} (R : X → Type 0) (Q : Y → Type 0) (f : X → List Y) (xs : List X) → AllByRecursion R xs → ((x : X) → R x → AllByRecursion Q (f x))
    → AllByRecursion Q (flat_map f xs)
all_flat R Q f [] all each = tt
all_flat R Q f (x ∷ xs) all each = all_append Q (f x) (flat_map f xs) (each x all.0) (all_flat R Q f xs all.1 each)

positive : (n m : ℕ) → m ≡ n → (m ≡ 0 → ⊥) → 1 ≤ n
positive n m is some = omega (arith, is, some)

led_there : (pages : List (List ℕ)) (decl : Decl) (d : ℕ) (p : PagePlace) → IsBoundedIn decl p → AllByRecursion (IsThere (length pages)) (led_places decl pages d p)
led_there pages decl zero p small = tt
led_there pages decl (suc d) p small =
    cond_both (eqb (page_in (length pages) p.number) 0) [] (flat_map (led_places decl pages d) (places_below (format_of decl) pages p) ++ (decl, p) ∷ [])
    (λ (l : List (Decl × PagePlace)). AllByRecursion (IsThere (length pages)) l) (λ none. tt)
    (λ some.
    let there = page_there (length pages) p.number (page_in (length pages) p.number) refl (eqb-false (page_in (length pages) p.number) 0 some) in
    all_append (IsThere (length pages)) (flat_map (led_places decl pages d) (places_below (format_of decl) pages p)) ((decl, p) ∷ [])
    (all_flat (IsBoundedIn decl) (IsThere (length pages)) (led_places decl pages d) (places_below (format_of decl) pages p)
    (below_bounded decl (words_at pages p) p small) (λ q q_small. led_there pages decl d q q_small))
    ((positive p.number (page_in (length pages) p.number) there.1 (eqb-false (page_in (length pages) p.number) 0 some), there.0, small), tt))

-- a root's range has small ends in an array
pub root_bounded : (decl : Decl) (root : ℕ) → IsBoundedIn decl (root_place decl root)
root_bounded (Array id size) root = (omega arith, last_small size)
root_bounded (Tree id) root = tt

-- each place of all roots
pub named_there : (pages : List (List ℕ)) (ss : List Stored) → AllByRecursion (IsThere (length pages)) (named_places pages ss)
named_there pages ss =
    all_flat (λ (s : Stored). ⊤) (IsThere (length pages)) (λ (s : Stored). led_places s.decl pages deepest (root_place s.decl s.root)) ss (all_any ss)
    (λ s _. led_there pages s.decl deepest (root_place s.decl s.root) (root_bounded s.decl s.root))

-- ---- one root more

flat_push : {X Y : Type 0} (f : X → List Y) (xs : List X) (x : X) → flat_map f (xs ++ x ∷ []) ≡ flat_map f xs ++ f x
flat_push f [] x = append-nil (f x)
flat_push f (y ∷ xs) x = ap (λ l. f y ++ l) (flat_push f xs x) ∙ sym (append_assoc (f y) (flat_map f xs) (f x))

pub root_pushed : (pages : List (List ℕ)) (ss : List Stored) (i : ℕ) (s d : Stored) (root : PagePlace) (old new : List (Decl × PagePlace)) → i < length ss → s ≡ get_or ss i d
    → root ≡ root_place s.decl s.root → new ≡ old ++ led_places s.decl pages 32 root → old ≡ named_places pages (take i ss)
    → new ≡ named_places pages (take (i + 1) ss)
root_pushed pages ss i s d root old new less is root_is new_is so_far =
    new_is
    ∙ ap (λ (n : ℕ). old ++ led_places s.decl pages n root) (sym deepest_is)
    ∙ ap (λ (p : PagePlace). old ++ led_places s.decl pages deepest p) root_is
    ∙ ap (λ (x : Stored). old ++ led_places x.decl pages deepest (root_place x.decl x.root)) is
    ∙ ap (λ (l : List (Decl × PagePlace)). l ++ led_places (get_or ss i d).decl pages deepest (root_place (get_or ss i d).decl (get_or ss i d).root)) so_far
    ∙ sym (flat_push (λ (x : Stored). led_places x.decl pages deepest (root_place x.decl x.root)) (take i ss) (get_or ss i d))
    ∙ ap (λ (l : List Stored). named_places pages l) (sym (take_more ss i d less))

take_whole : {X : Type 0} (xs : List X) (i : ℕ) → length xs ≤ i → take i xs ≡ xs
take_whole [] zero most = refl
take_whole [] (suc i) most = refl
take_whole (x ∷ xs) zero most = absurd (omega (arith, most))
take_whole (x ∷ xs) (suc i) most = ap (λ l. x ∷ l) (take_whole xs i (omega (arith, most)))

pub all_there : (pages : List Page) (ss : List Stored) (i : ℕ) (all : List (Decl × PagePlace)) → all ≡ named_places (words_of pages) (take i ss) → length ss ≤ i
    → AllByRecursion (IsThere (length pages)) all
all_there pages ss i all is most =
    subst (λ (n : ℕ). AllByRecursion (IsThere n) all) (length-map pages (λ (p : Page). p.words))
    (subst (λ (l : List (Decl × PagePlace)). AllByRecursion (IsThere (length (words_of pages))) l)
    (sym (is ∙ ap (named_places (words_of pages)) (take_whole ss i most))) (named_there (words_of pages) ss))
