-- Pages that stand are right for their places, where each has the page of its name.
use Rattle.std.proofs.Common.{◌≡◌, ℕ, zero, suc, ◌+◌, ◌<◌, true, eqb, eq-eqb, ◌&&◌, inl, inr, List, [], ◌∷◌, ◌++◌, length, refl, ap, ◌∙◌, arith}
use Rattle.std.proofs.Common.{Some}
use Rattle.std.proofs.lemmas.Bool.{and_from, or_left, or_right, cases_Bool, cases_eq, cond-true, cond-false, lt-ltb}
use Rattle.std.specs.List.{list_all, Contains, slice_get}
use Rattle.std.specs.Prelude.{nat_lt}
use Rattle.serial_model.specs.declared.decl.Decl.{Decl}
use Rattle.serial_model.specs.declared.decl.Decl.TheVariants.{Array, Tree}
use Rattle.serial_model.specs.Keys.{id_of}
use Rattle.homes.specs.declared.places.Span.{Span}
use Rattle.homes.specs.Homes.{same_span}
use Rattle.drop_core.specs.declared.table.SnapPage.{SnapPage}
use Rattle.drop_core.specs.Event.{leads_down, are_entries_of, tile, is_right, is_right_child}
use Rattle.drop_core.specs.Table.{page_span}
use Rattle.snapshot_store.specs.declared.place.PagePlace.{PagePlace}
use Rattle.snapshot_store.specs.Content.{format_of, IsPageOf}
use Rattle.snapshot_store.specs.Places.{StandsTo, Tiles, words_at, places_below}
use Rattle.engine_rule.specs.Reading.{span_of, name_from, name_of, leaf_entries, children_at, page_from, page_at}
use Rattle.engine_rule.proofs.ReadLists.{all_mapped}
use Rattle.engine_rule.proofs.ReadNames.{IsNamed, name_cases, same_span_at}
use Rattle.engine_rule.proofs.ReadTiles.{tile_covered, range_right}
use Rattle.engine_rule.proofs.ReadTrees.{tree_right}
use Rattle.engine_pages.specs.Resident.{IsStanding}

same_span-self : (s : Span) → same_span s s ≡ true
same_span-self s =
    and_from (eqb s.storage s.storage) (eqb s.low s.low && eqb s.high s.high) (eq-eqb s.storage s.storage refl)
    (and_from (eqb s.low s.low) (eqb s.high s.high) (eq-eqb s.low s.low refl) (eq-eqb s.high s.high refl))

get_split : (before : List (Decl × PagePlace)) (e : Decl × PagePlace) (after : List (Decl × PagePlace))
    → slice_get (before ++ e ∷ after) (length before) ≡ Some e
get_split [] e after = refl
get_split (x ∷ before) e after = get_split before e after

leaf_right : (decl : Decl) (p : PagePlace) (words : List ℕ) → 0 < p.number → IsPageOf decl p words
    → are_entries_of (span_of (id_of decl) p) (leaf_entries decl words p) ≡ true
leaf_right (Array id size) p words some right = range_right id p words
leaf_right (Tree id) p words some right = tree_right id p words some right

module _ (ps : List (List ℕ)) (places : List (Decl × PagePlace)) (snaps : ℕ → SnapPage)
    (says : (n : ℕ) (e : Decl × PagePlace) → slice_get places n ≡ Some e → snaps (suc n) ≡ page_at ps places e) where
  span_from : (decl : Decl) (words : List ℕ) (p : PagePlace) (below : List PagePlace)
      → page_span (page_from places decl words p below) ≡ span_of (id_of decl) p
  span_from decl words p [] = refl
  span_from decl words p (q ∷ below) = refl

  name_is : (decl : Decl) (q : PagePlace) → (name_of places decl q ≡ 0 → ⊥)
      → name_of places decl q ≡ name_from 1 places decl q
  name_is decl q some = elim (cases_Bool (eqb q.number 0)) [
    | inl none ↦ absurd (some (cond-true (eqb q.number 0) 0 (name_from 1 places decl q) none))
    | inr there ↦ cond-false (eqb q.number 0) 0 (name_from 1 places decl q) there
  ]

  named_over : (decl : Decl) (q : PagePlace) → name_of places decl q ≡ name_from 1 places decl q
      → (r : IsNamed 1 places decl q) → page_span (snaps (name_of places decl q)) ≡ span_of (id_of decl) q
  named_over decl q is r =
      let next : 1 + length (r.at).before ≡ suc (length (r.at).before) = omega arith in
      let at : slice_get places (length (r.at).before) ≡ Some (r.at).e =
      ap (λ (xs : List (Decl × PagePlace)). slice_get xs (length (r.at).before)) (r.at).are
      ∙ get_split (r.at).before (r.at).e (r.at).after in
      ap (λ (n : ℕ). page_span (snaps n)) (is ∙ (r.name ∙ next))
      ∙ (ap page_span (says (length (r.at).before) (r.at).e at)
      ∙ (span_from ((r.at).e).0 (words_at ps ((r.at).e).1) ((r.at).e).1 (places_below (format_of ((r.at).e).0) ps ((r.at).e).1)
      ∙ same_span_at decl q (r.at).e r.same))

  -- the page with a name is over the keys of its place
  name_over : (decl : Decl) (q : PagePlace) → (name_of places decl q ≡ 0 → ⊥)
      → page_span (snaps (name_of places decl q)) ≡ span_of (id_of decl) q
  name_over decl q some = elim (name_cases 1 places decl q) [
    | inl none ↦ absurd (some (name_is decl q some ∙ none))
    | inr r ↦ named_over decl q (name_is decl q some) r
  ]

  name_right : (decl : Decl) (q : PagePlace)
      → is_right_child snaps (span_of (id_of decl) q, name_of places decl q) ≡ true
  name_right decl q = elim (cases_eq (name_of places decl q) 0) [
    | inl none ↦
        or_left (eqb (name_of places decl q) 0)
        (same_span (page_span (snaps (name_of places decl q))) (span_of (id_of decl) q))
        (eq-eqb (name_of places decl q) 0 none)
    | inr some ↦
        or_right (eqb (name_of places decl q) 0)
        (same_span (page_span (snaps (name_of places decl q))) (span_of (id_of decl) q))
        (ap (λ (x : Span). same_span x (span_of (id_of decl) q)) (name_over decl q some)
        ∙ same_span-self (span_of (id_of decl) q))
  ]

  kids_right : (decl : Decl) (below : List PagePlace)
      → list_all (is_right_child snaps) (children_at places decl below) ≡ true
  kids_right decl below =
      all_mapped (is_right_child snaps)
      (λ (x : PagePlace). let y : Span × ℕ = (span_of (id_of decl) x, name_of places decl x) in y) below
      (λ x at. name_right decl x)

  right_from : (decl : Decl) (p : PagePlace) (words : List ℕ) (below : List PagePlace) → 0 < p.number
      → IsPageOf decl p words → Tiles p.low p.high below → is_right snaps (page_from places decl words p below) ≡ true
  right_from decl p words [] some right tiles = leaf_right decl p words some right
  right_from decl p words (q ∷ below) some right tiles =
      and_from (tile (span_of (id_of decl) p) (children_at places decl (q ∷ below)))
      (list_all (is_right_child snaps) (children_at places decl (q ∷ below)))
      (tile_covered (id_of decl) (name_of places decl) p q below tiles) (kids_right decl (q ∷ below))

  right_by : (e : Decl × PagePlace) (d : ℕ) → 0 < (e.1).number → StandsTo (format_of e.0) (IsPageOf e.0) ps d e.1
      → is_right snaps (page_at ps places e) ≡ true
  right_by e zero some stands = absurd stands
  right_by e (suc d) some stands =
      right_from e.0 e.1 (words_at ps e.1) (places_below (format_of e.0) ps e.1) some stands.right stands.tiles

  -- a page that stands is right
  pub page_right : (decls : List Decl) (e : Decl × PagePlace) → IsStanding decls ps e
      → is_right snaps (page_at ps places e) ≡ true
  page_right decls e h = right_by e h.depth h.there h.stands

  down_from : (decl : Decl) (words : List ℕ) (p : PagePlace) (below : List PagePlace) (n : ℕ)
      → ((q : PagePlace) → Contains below q → name_of places decl q < n)
      → leads_down n (page_from places decl words p below) ≡ true
  down_from decl words p [] n low = refl
  down_from decl words p (q ∷ below) n low =
      all_mapped (λ (e : Span × ℕ). nat_lt e.1 n)
      (λ (x : PagePlace). let y : Span × ℕ = (span_of (id_of decl) x, name_of places decl x) in y) (q ∷ below)
      (λ x at. lt-ltb (name_of places decl x) n (low x at))

  -- and leads to lower names, where those below it have such
  pub page_down : (n : ℕ) (e : Decl × PagePlace)
      → ((q : PagePlace) → Contains (places_below (format_of e.0) ps e.1) q → name_of places e.0 q < n)
      → leads_down n (page_at ps places e) ≡ true
  page_down n e low = down_from e.0 (words_at ps e.1) e.1 (places_below (format_of e.0) ps e.1) n low
