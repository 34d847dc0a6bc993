-- Pages that are published, and their names, stay as more are published.
use Rattle.std.proofs.Common.{◌≡◌, ℕ, zero, suc, ◌+◌, ◌/◌, ◌^◌, ◌<◌, ◌≤◌, Bool, true, false}
use Rattle.std.proofs.Common.{cond, eqb, eqb-true, ne_eqb, List, [], ◌∷◌, ◌++◌, length, get_or, drop, refl, sym, ap, ◌∙◌, subst}
use Rattle.std.proofs.Common.{arith, Some, None}
use Rattle.std.specs.Prelude.{slice_index_or}
use Rattle.lists.specs.Fronts.{IsFront, front_refl, front_rest, front_length}
use Rattle.serial_model.specs.declared.decl.Decl.{Decl}
use Rattle.homes.specs.declared.places.Content.{Content}
use Rattle.homes.specs.declared.places.Holder.TheVariants.{Free}
use Rattle.homes.specs.declared.places.Span.{Span}
use Rattle.wire_form.specs.Words.{number_in}
use Rattle.snapshot_store.specs.declared.place.PagePlace.{PagePlace}
use Rattle.snapshot_store.specs.Places.{page, Found}
use Rattle.snapshot_store.specs.ArrayPages.{array_found}
use Rattle.commit_core.specs.Keys.{nothing}
use Rattle.engine_rule.specs.Reading.{is_place, name_from, name_of}
use Rattle.engine_pages.specs.declared.view.Lead.{Lead}
use Rattle.engine_pages.specs.Resident.{Published, HasMore, IsNamed, found_content, place_for}
use Rattle.engine_pages.specs.Rule.{IsLead}
use Rattle.engine_pages.specs.Words.{ShowsRecord}

-- ---- names

pub more_same : (r : Published) → HasMore r r
more_same r = record { pages = front_refl r.pages; places = front_refl r.places }

name_longer : (name : ℕ) (xs zs : List (Decl × PagePlace)) (decl : Decl) (p : PagePlace) → 0 < name_from name xs decl p
    → name_from name (xs ++ zs) decl p ≡ name_from name xs decl p
name_longer name [] zs decl p some = absurd (omega arith)
name_longer name (e ∷ xs) zs decl p some =
    by_test (is_place decl p e) refl (λ more. name_longer (suc name) xs zs decl p more)
  where
    by_test : (b : Bool) → is_place decl p e ≡ b
        → (0 < name_from (suc name) xs decl p → name_from (suc name) (xs ++ zs) decl p ≡ name_from (suc name) xs decl p)
        → name_from name (e ∷ (xs ++ zs)) decl p ≡ name_from name (e ∷ xs) decl p
    by_test true hit rest =
        ap (λ (b : Bool). cond b name (name_from (suc name) (xs ++ zs) decl p)) hit
        ∙ sym (ap (λ (b : Bool). cond b name (name_from (suc name) xs decl p)) hit)
    by_test false miss rest =
        let one : name_from name (e ∷ xs) decl p ≡ name_from (suc name) xs decl p =
        ap (λ (b : Bool). cond b name (name_from (suc name) xs decl p)) miss in
        ap (λ (b : Bool). cond b name (name_from (suc name) (xs ++ zs) decl p)) miss
        ∙ (rest (subst (λ k. 0 < k) one some) ∙ sym one)

-- the name of a page with a number
name_some : (xs : List (Decl × PagePlace)) (decl : Decl) (sp : Span) (k : ℕ)
    → name_of xs decl (place_for sp (suc k)) ≡ name_from 1 xs decl (place_for sp (suc k))
name_some xs decl sp k =
    ap (λ (c : Bool). cond c 0 (name_from 1 xs decl (place_for sp (suc k)))) (ne_eqb (suc k) 0 (λ e. omega (arith, e)))

pub named_more : (xs ys : List (Decl × PagePlace)) (sp : Span) (number name : ℕ) → IsFront xs ys
    → IsNamed xs sp number name → IsNamed ys sp number name
named_more xs ys sp number name front h = record {
  decl = h.decl;
  storage = h.storage;
  is = h.is ∙ by_number number refl;
  there = h.there;
}
  where
    by_number : (k : ℕ) → k ≡ number → name_of xs h.decl (place_for sp k) ≡ name_of ys h.decl (place_for sp k)
    by_number zero e = refl
    by_number (suc k) e =
        let p = place_for sp (suc k) in
        let named : 0 < name = h.there (omega (arith, e)) in
        let is : name ≡ name_from 1 xs h.decl p =
        h.is ∙ (ap (λ i. name_of xs h.decl (place_for sp i)) (sym e) ∙ name_some xs h.decl sp k) in
        let some : 0 < name_from 1 xs h.decl p = subst (λ i. 0 < i) is named in
        let longer : name_from 1 ys h.decl p ≡ name_from 1 xs h.decl p =
        subst (λ l. name_from 1 l h.decl p ≡ name_from 1 xs h.decl p) (front_rest xs ys front)
        (name_longer 1 xs (drop (length xs) ys) h.decl p some) in
        name_some xs h.decl sp k ∙ (sym longer ∙ sym (name_some ys h.decl sp k))

-- ---- words of pages

at_longer : (xs zs : List (List ℕ)) (i : ℕ) (d : List ℕ) → i < length xs
    → slice_index_or (xs ++ zs) i d ≡ slice_index_or xs i d
at_longer [] zs i d less = absurd (omega arith)
at_longer (x ∷ xs) zs zero d less = refl
at_longer (x ∷ xs) zs (suc i) d less = at_longer xs zs i d (omega arith)

pub page_longer : (xs ys : List (List ℕ)) (n : ℕ) → IsFront xs ys → n ≤ length xs → page ys n ≡ page xs n
page_longer xs ys zero front less = refl
page_longer xs ys (suc n) front less =
    subst (λ l. page l (suc n) ≡ page xs (suc n)) (front_rest xs ys front)
    (at_longer xs (drop (length xs) ys) n [] (omega arith))

-- ---- what a view knows of them

pub lead_more : (r r' : Published) (x : Lead) → HasMore r r' → IsLead r x → IsLead r' x
lead_more r r' x more lead = record {
  page = let long = front_length r.pages r'.pages more.pages in let low = lead.page in omega arith;
  named = named_more r.places r'.places x.span x.page x.name more.places lead.named;
}

-- ---- records of a copied leaf

abbrev found_at : ℕ → ℕ → Found
found_at word value = record { number = word; value = value }

pub record_shown : (words : List ℕ) (at word value : ℕ) → get_or words at 0 ≡ word → get_or words (at + 1) 0 ≡ value
    → word / 2 ^ 40 ≤ 1048574 → (word ≡ 0 → value ≡ 0)
    → ShowsRecord words at (record { content = found_content (array_found word value); holder = Free })
record_shown words at word value is has epoch blank = by_test (eqb word 0) refl
  where
    by_test : (b : Bool) → eqb word 0 ≡ b
        → ShowsRecord words at (record { content = found_content (array_found word value); holder = Free })
    by_test true hit =
        let none : word ≡ 0 = eqb-true word 0 hit in
        let content : nothing ≡ found_content (array_found word value) =
        sym (ap (λ (b : Bool). found_content (cond b None (Some (found_at word value)))) hit) in
        subst (λ (c : Content). ShowsRecord words at (record { content = c; holder = Free })) content record {
          word = is ∙ none;
          value = has ∙ blank none;
          never = λ _. refl;
          small = record { draw = omega arith; epoch = omega arith };
        }
    by_test false miss =
        let c : Content = record { number = number_in word; value = Some value } in
        let content : c ≡ found_content (array_found word value) =
        sym (ap (λ (b : Bool). found_content (cond b None (Some (found_at word value)))) miss) in
        subst (λ (c : Content). ShowsRecord words at (record { content = c; holder = Free })) content record {
          word = is ∙ (omega arith);
          value = has;
          never = λ e. absurd (cc);
          small = record { draw = omega arith; epoch = epoch };
        }
