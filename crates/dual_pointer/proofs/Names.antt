-- Names of snapshot pages of arrays: which place has a name, and that it is one alone.
use Rattle.std.proofs.Common.{◌≡◌, ◌≢◌, inl, inr, ℕ, zero, suc, ◌<◌, ◌≤◌, Bool, true, false, true≢false, cond, eqb, eqb-true}
use Rattle.std.proofs.Common.{eq-eqb, ne_eqb, List, [], ◌∷◌, refl, sym, ap, ◌∙◌, subst, arith, Option, Some, None}
use Rattle.std.specs.Prelude.{◌&&◌, map}
use Rattle.std.specs.List.{AllByRecursion, Contains, slice_get}
use Rattle.lists.specs.Each.{AreDistinct}
use Rattle.lists.specs.Elements.{at_below, in_cases, in_none}
use Rattle.serial_model.specs.declared.decl.Decl.{Decl}
use Rattle.serial_model.specs.declared.decl.Decl.TheVariants.{Array, Tree}
use Rattle.serial_model.specs.Decls.{AreDecls}
use Rattle.serial_model.specs.Keys.{id_of}
use Rattle.homes.specs.declared.places.Span.{Span}
use Rattle.snapshot_store.specs.declared.place.PagePlace.{PagePlace}
use Rattle.drop_core.specs.declared.table.Table.{Table}
use Rattle.engine_rule.specs.Reading.{is_same, name_from, name_of}
use Rattle.engine_pages.specs.Pages.{decl_of, is_array, is_array_kind}
use Rattle.engine_pages.specs.Resident.{Published, ArePages, IsNamed, place_for}
use Rattle.engine_pages.proofs.PointerLaws.{named_entry}

-- ---- storages

not_among : (a : ℕ) (ds : List Decl) (e : Decl) → AllByRecursion (λ y. a ≢ y) (map id_of ds) → Contains ds e → a ≢ id_of e
not_among a [] e all has same = absurd (in_none e has)
not_among a (d ∷ ds) e all has same = elim (in_cases e d ds has) [
  | inl is ↦ all.0 (same ∙ ap id_of (sym is))
  | inr old ↦ not_among a ds e all.1 old same
]

-- a declared storage is the one with its id
pub decl_found : (ds : List Decl) (e : Decl) → AreDistinct (map id_of ds) → Contains ds e → decl_of ds (id_of e) ≡ Some e
decl_found [] e distinct has = absurd (in_none e has)
decl_found (d ∷ ds) e distinct has = elim (in_cases e d ds has) [
  | inl is ↦ subst (λ (y : Decl). decl_of (d ∷ ds) (id_of y) ≡ Some y) is
      (ap (λ (c : Bool). let o : Option Decl = cond c (Some d) (decl_of ds (id_of d)) in o) (eq-eqb (id_of d) (id_of d) refl))
  | inr old ↦
      ap (λ (c : Bool). let o : Option Decl = cond c (Some d) (decl_of ds (id_of e)) in o)
      (ne_eqb (id_of d) (id_of e) (not_among (id_of d) ds e distinct.0 old))
      ∙ decl_found ds e distinct.1 old
]

-- an array is declared with this id
array_there : (ds : List Decl) (id : ℕ) → is_array ds id ≡ true → (e : Decl) × (id_of e ≡ id)
array_there ds id kind = by_found (decl_of ds id) refl kind
  where
    found_id : (ds : List Decl) (e : Decl) → decl_of ds id ≡ Some e → id_of e ≡ id
    found_id [] e is = cc
    found_id (d ∷ ds) e is = by_test (eqb (id_of d) id) refl is (λ later. found_id ds e later)
      where
        by_test : (c : Bool) → eqb (id_of d) id ≡ c
            → (let o : Option Decl = cond c (Some d) (decl_of ds id) in o ≡ Some e)
            → (decl_of ds id ≡ Some e → id_of e ≡ id) → id_of e ≡ id
        by_test true hit is rest = let same : d ≡ e = cc in ap id_of (sym same) ∙ eqb-true (id_of d) id hit
        by_test false miss is rest = rest is

    by_found : (o : Option Decl) → decl_of ds id ≡ o → is_array_kind o ≡ true → (e : Decl) × (id_of e ≡ id)
    by_found None is kind = absurd (true≢false (sym kind))
    by_found (Some e) is kind = (e, found_id ds e is)

array_of : (e : Decl) → is_array_kind (Some e) ≡ true → (size : ℕ) × (e ≡ Array (id_of e) size)
array_of (Array id size) kind = (size, refl)
array_of (Tree id) kind = absurd (true≢false (sym kind))

-- ---- names

-- a name is that of a storage's id
name_same : (name : ℕ) (xs : List (Decl × PagePlace)) (a c : Decl) (p : PagePlace) → id_of a ≡ id_of c
    → name_from name xs a p ≡ name_from name xs c p
name_same name [] a c p same = refl
name_same name (e ∷ xs) a c p same =
    ap (λ (i : ℕ). cond (eqb (id_of e.0) i && is_same p e.1) name (name_from (suc name) xs a p)) same
    ∙ ap (λ (n : ℕ). cond (eqb (id_of e.0) (id_of c) && is_same p e.1) name n) (name_same (suc name) xs a c p same)

-- a page that stands for some keys has one name there
pub named_same : (xs : List (Decl × PagePlace)) (sp : Span) (number a c : ℕ) → IsNamed xs sp number a
    → IsNamed xs sp number c → a ≡ c
named_same xs sp number a c one two =
    one.is
    ∙ (ap (λ (n : ℕ). cond (eqb number 0) 0 n)
    (name_same 1 xs one.decl two.decl (place_for sp number) (one.storage ∙ sym two.storage))
    ∙ sym two.is)

-- the number of a place, if there is one
abbrev number_at : Option (Decl × PagePlace) → ℕ
number_at None = 0
number_at (Some e) = (e.1).number

-- and the name is that of no other page
pub number_same : (xs : List (Decl × PagePlace)) (sp : Span) (m n name : ℕ) → IsNamed xs sp m name
    → IsNamed xs sp n name → m ≡ n
number_same xs sp zero zero name one two = refl
number_same xs sp zero (suc n) name one two =
    let none : name ≡ 0 = one.is in let some = two.there (omega arith) in absurd (omega arith)
number_same xs sp (suc m) zero name one two =
    let none : name ≡ 0 = two.is in let some = one.there (omega arith) in absurd (omega arith)
number_same xs sp (suc m) (suc n) name one two =
    let a = named_entry xs sp (suc m) name one (omega arith) in
    let c = named_entry xs sp (suc n) name two (omega arith) in
    let name-a = a.is in
    let name-c = c.is in
    let index : a.index ≡ c.index = omega arith in
    let both : Some (a.decl, place_for sp (suc m)) ≡ Some (c.decl, place_for sp (suc n)) =
    sym a.at ∙ (ap (slice_get xs) index ∙ c.at) in
    ap number_at both

-- a pointer that names no page
pub named_none : (decls : List Decl) (xs : List (Decl × PagePlace)) (sp : Span) (number name : ℕ)
    → is_array decls sp.storage ≡ true → number ≡ 0 → name ≡ 0 → IsNamed xs sp number name
named_none decls xs sp number name array none nameless =
    let e = array_there decls sp.storage array in record {
      decl = e.0;
      storage = e.1;
      is = nameless ∙ sym (zeroed e.0 number none);
      there = λ some. absurd (omega (arith, none, some));
    }
  where
    zeroed : (e : Decl) (n : ℕ) → n ≡ 0 → name_of xs e (place_for sp n) ≡ 0
    zeroed e zero none = refl
    zeroed e (suc n) none = absurd (omega (arith, none))

-- a name is that of a page that is published, or 0
pub low_name : (decls : List Decl) (r : Published) (d : Table) → ArePages decls r d → (z : Span) (k name : ℕ)
    → IsNamed r.places z k name → name ≤ d.published
low_name decls r d h z zero name named = let none : name ≡ 0 = named.is in omega arith
low_name decls r d h z (suc k) name named =
    let e = named_entry r.places z (suc k) name named (omega arith) in
    let less = at_below r.places e.index (e.decl, place_for z (suc k)) e.at in
    let is = e.is in
    let count = h.count in omega arith

-- ---- the page of an array that has a name

-- The page with this number stands for these keys of an array, and has this name there.
pub record IsArrayEntry (xs : List (Decl × PagePlace)) (sp : Span) (number name : ℕ) : Type 0 where
  pub index : ℕ
  pub size : ℕ
  pub at : slice_get xs index ≡ Some (Array sp.storage size, place_for sp number)
  pub is : name ≡ suc index

pub array_entry : (decls : List Decl) (r : Published) (d : Table) (sp : Span) (number name : ℕ) → AreDecls decls
    → ArePages decls r d → IsNamed r.places sp number name → is_array decls sp.storage ≡ true → 0 < number
    → IsArrayEntry r.places sp number name
array_entry decls r d sp number name declared h named array some =
    let e = named_entry r.places sp number name named some in
    let stands = h.stand e.index (e.decl, place_for sp number) e.at in
    let kind : is_array_kind (Some e.decl) ≡ true =
    sym (ap is_array_kind (decl_found decls e.decl declared.distinct stands.declared))
    ∙ (ap (is_array decls) e.storage ∙ array) in
    let of = array_of e.decl kind in
    let decl : e.decl ≡ Array sp.storage of.0 = of.1 ∙ ap (λ (i : ℕ). let z : Decl = Array i of.0 in z) e.storage in record {
      index = e.index;
      size = of.0;
      at = e.at
          ∙ ap (λ (y : Decl). let o : Option (Decl × PagePlace) = Some (y, place_for sp number) in o) decl;
      is = e.is;
    }
