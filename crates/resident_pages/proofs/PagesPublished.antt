-- The pages of a snapshot are published once they are filled, and those that its roots lead to have names.
use Rattle.std.proofs.Common.{◌≡◌, ◌⊎◌, ℕ, zero, suc, ◌+◌, ◌<◌, ◌≤◌, inl, inr, List, [], ◌∷◌, ◌++◌, length, refl, sym, ap, ◌∙◌}
use Rattle.std.proofs.Common.{subst, arith, length-append, ltb, Some}
use Rattle.std.specs.Prelude.{filter, map, take}
use Rattle.std.specs.List.{AllByRecursion, Contains, slice_get}
use Rattle.std.proofs.lemmas.Bool.{cases_lt, lt-ltb}
use Rattle.std.proofs.lemmas.List.{take_at}
use Rattle.lists.specs.Elements.{at_in, in_cases, in_filter, in_filtered, in_head, in_none, in_tail}
use Rattle.serial_model.specs.declared.decl.Decl.{Decl}
use Rattle.serial_model.specs.Keys.{id_of}
use Rattle.wire_form.specs.declared.records.Stored.{Stored}
use Rattle.snapshot_store.specs.declared.place.PagePlace.{PagePlace}
use Rattle.wire_form.specs.Pages.{Contents, decls_of, stored_decl}
use Rattle.snapshot_store.specs.Content.{deepest, format_of, root_place, RootStands, SnapshotStands}
use Rattle.snapshot_store.specs.Places.{places_below}
use Rattle.engine_rule.specs.Reading.{led_places, named_places, span_of}
use Rattle.engine_rule.proofs.ReadNames.{HasBelow, Ordered, flat_ordered, led_ordered, ordered_at, split_at}
use Rattle.engine_pages.specs.declared.view.Filled.{Filled}
use Rattle.engine_pages.specs.declared.view.Lead.{Lead}
use Rattle.engine_pages.specs.declared.view.View.{View}
use Rattle.engine_pages.specs.Resident.{IsStanding}
use Rattle.page_opening.proofs.Named.{each_named}
use Rattle.resident_pages.specs.Extends.{CanExtend, CanName, HasExtended, IsNamedBefore, KnowsAll, extended, lead_of}
use Rattle.resident_pages.specs.Fills.{AreClaimed}
use Rattle.resident_pages.specs.Publishes.{AreFilled, CanNameAll, HasPublished, IsSnapshot}

-- ---- the step

-- What is claimed tells that all published pages are known.
pub claimed_next : (v : View) → AreClaimed v → length v.pages ≤ v.layout.resident → KnowsAll v
claimed_next v claims most = elim (cases_lt (length v.pages) v.layout.resident) [
  | inl less ↦ let x = claims.has (suc (length v.pages)) (omega arith) (omega (arith, less)) in inr (x.0, x.1, x.2)
  | inr full ↦ inl (omega (arith, most, full))
]

-- the view before, with the steps, the last load and the pages to fill of the one behind it
abbrev as_filled : View → View → View
as_filled v u = record v { steps = u.steps; last = u.last; fills = u.fills }

-- the same, with these pages and names published
abbrev over : (Decl × PagePlace → ℕ) → List (List ℕ) → List (Decl × PagePlace) → View → View → View
over name new names v z = record v {
  steps = z.steps;
  last = z.last;
  pages = v.pages ++ new;
  leads = map (lead_of name) names ++ v.leads;
  fills = z.fills;
}

module _ (new : List (List ℕ)) (names : List (Decl × PagePlace)) (v u : View)
    (are : AreFilled (length new) new v u) where
  known : u.pages ≡ v.pages
  known = ap (λ (z : View). z.pages) are.only

  leads : v.leads ≡ u.leads
  leads = sym (ap (λ (z : View). z.leads) are.only)

  -- a place may get its name still
  names_later : (before : List (Decl × PagePlace)) (e : Decl × PagePlace) → CanName v (v.pages ++ new) before e
      → CanName u (u.pages ++ new) before e
  names_later before e can = record {
    stands = subst (λ (z : View). IsStanding z.layout.decls (z.pages ++ new) e) (sym are.only) can.stands;
    below = λ q there.
        subst (λ (l : List Lead). (q.number ≡ 0) ⊎ (Contains before (e.0, q)
        ⊎ ((x : Lead) × Contains l x × (x.span ≡ span_of (id_of e.0) q) × (x.page ≡ q.number)))) leads
        (can.below q
        (subst (λ (ps : List (List ℕ)). Contains (places_below (format_of e.0) (ps ++ new) e.1) q) known there));
  }

  pub can_extend : KnowsAll u → CanNameAll new names v → CanExtend new names u
  can_extend all can = record {
    all = all;
    filled = λ j less.
        let r = are.filled j less in
        let long : length u.pages ≡ length v.pages = ap (λ (ps : List (List ℕ)). length ps) known in
        (r.0, r.1, r.2 ∙ omega (arith, long), r.3);
    named = λ i e at. names_later (take i names) e (can i e at);
  }

  pub published : (w : View) → HasExtended new names u w → HasPublished new names v w
  published w h =
      let name : Decl × PagePlace → ℕ = h.0 in
      let all : w ≡ extended name new names (as_filled v u) =
      h.1 ∙ ap (λ (z : View). extended name new names z) are.only in
      record { name = name; is = all ∙ ap (λ (z : View). over name new names v z) (sym all) }

  -- those behind them are the pass's own to fill still
  pub claimed_behind : (w : View) → AreClaimed u → HasExtended new names u w → AreClaimed w
  claimed_behind w claims h =
      let is : w ≡ extended h.0 new names u = h.1 in
      let many : length w.pages ≡ length u.pages + length new =
      ap (λ (z : View). length z.pages) is ∙ length-append u.pages new in
      let room : w.layout.resident ≡ u.layout.resident = ap (λ (z : View). z.layout.resident) is in
      let fills : w.fills ≡ filter (λ x. ltb (length u.pages + length new) x.page) u.fills =
      ap (λ (z : View). z.fills) is in record {
        has = λ n less most.
            let x = claims.has n (omega (arith, many, less)) (omega (arith, room, most)) in
            let page : (x.0).page ≡ n = x.2 in (
              x.0,
              subst (λ (l : List Filled). Contains l x.0) (sym fills)
                  (in_filtered (λ (y : Filled). ltb (length u.pages + length new) y.page) x.0 u.fills x.1
                  (lt-ltb (length u.pages + length new) (x.0).page (omega (arith, many, less, page)))),
              x.2,
              x.3,
            );
        long = λ y there.
            claims.long y
            (in_filter (λ (z : Filled). ltb (length u.pages + length new) z.page) y u.fills
            (subst (λ (l : List Filled). Contains l y) fills there));
      }

-- ---- the names of a snapshot's pages

get_split : (before : List (Decl × PagePlace)) (e : Decl × PagePlace) (after : List (Decl × PagePlace))
    → slice_get (before ++ e ∷ after) (length before) ≡ Some e
get_split [] e after = refl
get_split (x ∷ before) e after = get_split before e after

index_low : (xs : List (Decl × PagePlace)) (i : ℕ) (e : Decl × PagePlace) → slice_get xs i ≡ Some e → i < length xs
index_low [] i e at = cc
index_low (x ∷ xs) zero e at = omega arith
index_low (x ∷ xs) (suc i) e at = let low = index_low xs i e at in omega (arith, low)

module _ (pages : List (List ℕ)) (ss : List Stored) (stand : AllByRecursion (RootStands pages) ss) where
  abbrev names : List (Decl × PagePlace)
  names = named_places pages ss

  ordered : Ordered pages [] names
  ordered =
      flat_ordered pages (RootStands pages) (λ (s : Stored). led_places s.decl pages deepest (root_place s.decl s.root)) ss []
      stand (λ s before at. led_ordered pages s.decl deepest (root_place s.decl s.root) before at)

  -- what is below a place stands before it
  before_it : (i : ℕ) (e : Decl × PagePlace) → slice_get names i ≡ Some e → HasBelow pages (take i names) e
  before_it i e at =
      let r = split_at names i (index_low names i e at) in
      let s = r.0 in
      let count : length s.before ≡ i = r.1 in
      let got : slice_get names i ≡ Some s.e =
      ap (λ (xs : List (Decl × PagePlace)). slice_get xs i) s.are
      ∙ (ap (λ k. slice_get (s.before ++ s.e ∷ s.after) k) (sym count) ∙ get_split s.before s.e s.after) in
      let both : Some s.e ≡ Some e = sym got ∙ at in
      let same : s.e ≡ e = cc in
      let front : take i names ≡ s.before =
      ap (λ (xs : List (Decl × PagePlace)). take i xs) s.are ∙ take_at s.before (s.e ∷ s.after) i count in
      let has : HasBelow pages s.before s.e =
      ordered_at pages [] s.before s.e s.after (subst (λ (xs : List (Decl × PagePlace)). Ordered pages [] xs) s.are ordered) in
      subst (λ (xs : List (Decl × PagePlace)). HasBelow pages xs e) (sym front)
      (subst (λ (x : Decl × PagePlace). HasBelow pages s.before x) same has)

-- ---- a snapshot

module _ (pages new : List (List ℕ)) (ss : List Stored) (v : View) (snap : IsSnapshot pages v.layout.decls ss)
    (all : v.pages ++ new ≡ pages) (i : ℕ) (e : Decl × PagePlace) (at : slice_get (named_places pages ss) i ≡ Some e) where
  standing : IsStanding v.layout.decls pages e
  standing =
      let r = each_named pages ss snap.stand e (at_in (named_places pages ss) i e at) in record {
        declared = subst (λ (d : Decl). Contains v.layout.decls d) (sym r.led.same) (snap.declared r.of r.has);
        there = r.led.some;
        depth = r.led.depth;
        most = r.led.most;
        stands = r.led.stands;
      }

  now : (q : PagePlace) → (q.number ≡ 0) ⊎ Contains (take i (named_places pages ss)) (e.0, q)
      → IsNamedBefore v (take i (named_places pages ss)) e.0 q
  now q (inl none) = inl none
  now q (inr there) = inr (inl there)

  can_name : CanName v (v.pages ++ new) (take i (named_places pages ss)) e
  can_name =
      subst (λ (ps : List (List ℕ)). CanName v ps (take i (named_places pages ss)) e) (sym all) record {
        stands = standing;
        below = λ q there. now q (before_it pages ss snap.stand i e at q there);
      }

-- All places that the roots of a snapshot lead to may get names.
pub can_name_all : (pages new : List (List ℕ)) (ss : List Stored) (v : View) → IsSnapshot pages v.layout.decls ss
    → v.pages ++ new ≡ pages → CanNameAll new (named_places pages ss) v
can_name_all pages new ss v snap all i e at = can_name pages new ss v snap all i e at

decl_in : (ss : List Stored) (s : Stored) → Contains ss s → Contains (map stored_decl ss) s.decl
decl_in [] s there = absurd (in_none s there)
decl_in (x ∷ ss) s there = elim (in_cases s x ss there) [
  | inl is ↦ subst (λ (y : Stored). Contains (map stored_decl (x ∷ ss)) y.decl) is (in_head x.decl (map stored_decl ss))
  | inr more ↦ in_tail s.decl x.decl (map stored_decl ss) (decl_in ss s more)
]

-- So it is with those of a catalogue.
pub of_catalogue : (pages : List (List ℕ)) (number : ℕ) (contents : Contents) (decls : List Decl)
    → SnapshotStands pages number contents → decls_of contents ≡ decls → IsSnapshot pages decls contents.storages
of_catalogue pages number contents decls stands same = record {
  declared = λ s there. subst (λ (ds : List Decl). Contains ds s.decl) same (decl_in contents.storages s there);
  stand = stands.roots;
}
