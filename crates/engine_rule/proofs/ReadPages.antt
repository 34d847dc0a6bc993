-- The pages that a place leads to, as they are gone over, and the words of a page.
use Rattle.std.proofs.Common.{◌≡◌, ℕ, zero, suc, ◌-◌, ◌<◌, ◌≤◌, eqb, inl, inr, List, [], ◌∷◌, ◌++◌, append_assoc, length, get_or, map, refl, sym, ap, ◌∙◌, arith}
use Rattle.std.proofs.lemmas.Bool.{cond-true, cond-false, leb-true, ne_eqb, cases_Bool}
use Rattle.std.specs.List.{flat_map}
use Rattle.std.specs.Prelude.{nat_le}
use Rattle.serial_model.specs.declared.decl.Decl.{Decl}
use Rattle.wire_form.specs.declared.page.Page.{Page}
use Rattle.snapshot_store.specs.declared.place.PagePlace.{PagePlace}
use Rattle.snapshot_store.specs.Places.{page, places_below}
use Rattle.snapshot_store.specs.Content.{words_of, format_of}
use Rattle.engine_rule.specs.Reading.{below_in, page_in, led_places}

-- a page number that is not 0 is that of a page that is there
pub page_there : (count n m : ℕ) → m ≡ page_in count n → (m ≡ 0 → ⊥) → (n ≤ count) × (m ≡ n)
page_there count n m is some = elim (cases_Bool (nat_le n count)) [
  | inl below ↦ (leb-true n count below, is ∙ cond-true (nat_le n count) n 0 below)
  | inr above ↦ absurd (some (is ∙ cond-false (nat_le n count) n 0 above))
]

-- all below a place, and then its own
pub place_pushed : (ps : List (List ℕ)) (decl : Decl) (depth : ℕ) (p : PagePlace) (n : ℕ) (words : List ℕ) (places later : List PagePlace) (old mid new : List (Decl × PagePlace))
    → (depth ≡ 0 → ⊥) → n ≡ page_in (length ps) p.number → (n ≡ 0 → ⊥) → words ≡ page ps n → places ≡ below_in decl words p → later ≡ places
    → mid ≡ old ++ flat_map (led_places decl ps (depth - 1)) later → new ≡ mid ++ (decl, p) ∷ []
    → new ≡ old ++ led_places decl ps depth p
place_pushed ps decl zero p n words places later old mid new deep n_is some words_are places_are later_are mid_is new_is = absurd (deep refl)
place_pushed ps decl (suc d) p n words places later old mid new deep n_is some words_are places_are later_are mid_is new_is =
    let there = page_there (length ps) p.number n n_is some in
    let at : words ≡ page ps p.number = words_are ∙ ap (λ (m : ℕ). page ps m) there.1 in
    let below : later ≡ places_below (format_of decl) ps p = later_are ∙ places_are ∙ ap (λ (ws : List ℕ). below_in decl ws p) at in
    let less : suc d - 1 ≡ d = omega arith in
    let first : flat_map (led_places decl ps (suc d - 1)) later ≡ flat_map (led_places decl ps d) (places_below (format_of decl) ps p) =
    ap (λ (m : ℕ). flat_map (led_places decl ps m) later) less ∙ ap (λ (qs : List PagePlace). flat_map (led_places decl ps d) qs) below in
    let all : led_places decl ps (suc d) p ≡ flat_map (led_places decl ps d) (places_below (format_of decl) ps p) ++ (decl, p) ∷ [] =
    cond-false (eqb (page_in (length ps) p.number) 0) [] (flat_map (led_places decl ps d) (places_below (format_of decl) ps p) ++ (decl, p) ∷ [])
    (ne_eqb (page_in (length ps) p.number) 0 (λ e. some (n_is ∙ e))) in
    new_is ∙ ap (λ (l : List (Decl × PagePlace)). l ++ (decl, p) ∷ []) (mid_is ∙ ap (λ (l : List (Decl × PagePlace)). old ++ l) first)
    ∙ append_assoc old (flat_map (led_places decl ps d) (places_below (format_of decl) ps p)) ((decl, p) ∷ [])
    ∙ ap (λ (l : List (Decl × PagePlace)). old ++ l) (sym all)

get_mapped : (f : Page → List ℕ) (xs : List Page) (i : ℕ) (d : Page) → i < length xs → f (get_or xs i d) ≡ get_or (map f xs) i []
get_mapped f [] i d less = absurd (omega (arith, less))
get_mapped f (x ∷ xs) zero d less = refl
get_mapped f (x ∷ xs) (suc i) d less = get_mapped f xs i d (omega (arith, less))

-- the words of the page with a number
pub words_read : (pages : List Page) (n : ℕ) (d : Page) → 1 ≤ n → n ≤ length pages → Page.words (get_or pages (n - 1) d) ≡ page (words_of pages) n
words_read pages zero d some most = absurd (omega (arith, some))
words_read pages (suc n) d some most =
    let less : suc n - 1 ≡ n = omega arith in
    ap (λ (i : ℕ). Page.words (get_or pages i d)) less ∙ get_mapped (λ (p : Page). Page.words p) pages n d (omega (arith, most))
