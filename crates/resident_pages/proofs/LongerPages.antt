-- What a page says, and the names below it, stay as more pages are published.
use Rattle.std.proofs.Common.{◌≡◌, ℕ, zero, suc, ◌<◌, ◌≤◌, cond, eqb, eq-eqb, inl, inr, List, [], ◌∷◌, ◌++◌, length, refl, sym, ap, ◌∙◌, subst, arith}
use Rattle.std.proofs.lemmas.Bool.{cases_Bool, cases_eq, cond-true, cond-false, ne_eqb}
use Rattle.std.specs.List.{Contains}
use Rattle.std.specs.Prelude.{◌&&◌}
use Rattle.lists.specs.Elements.{in_head, in_tail}
use Rattle.serial_model.specs.declared.decl.Decl.{Decl}
use Rattle.serial_model.specs.Keys.{id_of}
use Rattle.homes.specs.declared.places.Span.{Span}
use Rattle.drop_core.specs.declared.table.SnapPage.TheVariants.{Children}
use Rattle.snapshot_store.specs.declared.place.PagePlace.{PagePlace}
use Rattle.snapshot_store.specs.Content.{format_of, IsPageOf}
use Rattle.snapshot_store.specs.Places.{Format, StandsTo, words_at, places_below}
use Rattle.snapshot_store.specs.StandLaws.{page-append, stands-append}
use Rattle.engine_rule.specs.Reading.{span_of, is_same, is_place, name_from, name_of, children_at, page_from, page_at as page_named}
use Rattle.engine_pages.specs.Resident.{Published, IsStanding, HasNames}

-- ---- names

pub zero_name : (xs : List (Decl × PagePlace)) (decl : Decl) (q : PagePlace) → q.number ≡ 0 → name_of xs decl q ≡ 0
zero_name xs decl q none = cond-true (eqb q.number 0) 0 (name_from 1 xs decl q) (eq-eqb q.number 0 none)

pub some_name : (xs : List (Decl × PagePlace)) (decl : Decl) (q : PagePlace) → (q.number ≡ 0 → ⊥)
    → name_of xs decl q ≡ name_from 1 xs decl q
some_name xs decl q some = cond-false (eqb q.number 0) 0 (name_from 1 xs decl q) (ne_eqb q.number 0 some)

longer : (name : ℕ) (xs zs : List (Decl × PagePlace)) (decl : Decl) (p : PagePlace) → 0 < name_from name xs decl p
    → name_from name (xs ++ zs) decl p ≡ name_from name xs decl p
longer name [] zs decl p some = absurd (omega arith)
longer name (e ∷ xs) zs decl p some = elim (cases_Bool (is_place decl p e)) [
  | inl hit ↦
      cond-true (is_place decl p e) name (name_from (suc name) (xs ++ zs) decl p) hit
      ∙ sym (cond-true (is_place decl p e) name (name_from (suc name) xs decl p) hit)
  | inr miss ↦
      let one : name_from name (e ∷ xs) decl p ≡ name_from (suc name) xs decl p =
      cond-false (is_place decl p e) name (name_from (suc name) xs decl p) miss in
      cond-false (is_place decl p e) name (name_from (suc name) (xs ++ zs) decl p) miss
      ∙ (longer (suc name) xs zs decl p (subst (λ k. 0 < k) one some) ∙ sym one)
]

-- a name stays
pub name_kept : (xs zs : List (Decl × PagePlace)) (decl : Decl) (q : PagePlace)
    → (0 < q.number → 0 < name_of xs decl q) → name_of (xs ++ zs) decl q ≡ name_of xs decl q
name_kept xs zs decl q named = elim (cases_eq q.number 0) [
  | inl none ↦ zero_name (xs ++ zs) decl q none ∙ sym (zero_name xs decl q none)
  | inr other ↦
      let is = some_name xs decl q other in
      let some : 0 < name_from 1 xs decl q = subst (λ n. 0 < n) is (named (omega (arith, other))) in
      some_name (xs ++ zs) decl q other ∙ (longer 1 xs zs decl q some ∙ sym is)
]

-- a name is that of a storage's id
pub name_same : (name : ℕ) (xs : List (Decl × PagePlace)) (a c : Decl) (p : PagePlace) → id_of a ≡ id_of c
    → name_from name xs a p ≡ name_from name xs c p
name_same name [] a c p same = refl
name_same name (e ∷ xs) a c p same =
    ap (λ (i : ℕ). cond (eqb (id_of e.0) i && is_same p e.1) name (name_from (suc name) xs a p)) same
    ∙ ap (λ (n : ℕ). cond (eqb (id_of e.0) (id_of c) && is_same p e.1) name n) (name_same (suc name) xs a c p same)

-- ---- what a page says

children_same : (xs ys : List (Decl × PagePlace)) (decl : Decl) (below : List PagePlace)
    → ((q : PagePlace) → Contains below q → name_of ys decl q ≡ name_of xs decl q)
    → children_at ys decl below ≡ children_at xs decl below
children_same xs ys decl [] same = refl
children_same xs ys decl (q ∷ below) same =
    ap (λ (n : ℕ). let e : Span × ℕ = (span_of (id_of decl) q, n) in e ∷ children_at ys decl below) (same q (in_head q below))
    ∙ ap (λ (r : List (Span × ℕ)). let e : Span × ℕ = (span_of (id_of decl) q, name_of xs decl q) in e ∷ r)
    (children_same xs ys decl below (λ p has. same p (in_tail p q below has)))

from_same : (xs ys : List (Decl × PagePlace)) (decl : Decl) (words : List ℕ) (p : PagePlace) (below : List PagePlace)
    → ((q : PagePlace) → Contains below q → name_of ys decl q ≡ name_of xs decl q)
    → page_from ys decl words p below ≡ page_from xs decl words p below
from_same xs ys decl words p [] same = refl
from_same xs ys decl words p (q ∷ below) same =
    ap (λ (r : List (Span × ℕ)). Children (span_of (id_of decl) p) r) (children_same xs ys decl (q ∷ below) same)

pub named_longer : (r : Published) (new : List (List ℕ)) (names : List (Decl × PagePlace)) (e : Decl × PagePlace)
    → (e.1).number ≤ length r.pages → HasNames r e
    → page_named (r.pages ++ new) (r.places ++ names) e ≡ page_named r.pages r.places e
named_longer r new names e there named =
    ap (λ (ws : List ℕ). page_from (r.places ++ names) e.0 ws e.1 ((format_of e.0).below ws (e.1).low (e.1).high))
    (page-append r.pages new (e.1).number there)
    ∙ from_same r.places (r.places ++ names) e.0 (words_at r.pages e.1) e.1 (places_below (format_of e.0) r.pages e.1)
    (λ q has. name_kept r.places names e.0 q (named q has))

-- ---- where a page stands

pub stands_there : (F : Format) (Is : PagePlace → List ℕ → Type 0) (pages : List (List ℕ)) (depth : ℕ) (p : PagePlace)
    → StandsTo F Is pages depth p → p.number ≤ length pages
stands_there F Is pages zero p stands = absurd stands
stands_there F Is pages (suc depth) p stands = stands.there

pub standing_longer : (decls : List Decl) (pages new : List (List ℕ)) (e : Decl × PagePlace) → IsStanding decls pages e
    → IsStanding decls (pages ++ new) e
standing_longer decls pages new e h = record {
  declared = h.declared;
  there = h.there;
  depth = h.depth;
  most = h.most;
  stands = stands-append (format_of e.0) (IsPageOf e.0) pages new h.depth h.depth e.1 h.stands (omega arith);
}

pub names_longer : (r : Published) (new : List (List ℕ)) (names : List (Decl × PagePlace)) (e : Decl × PagePlace)
    → (e.1).number ≤ length r.pages → HasNames r e
    → HasNames (record { pages = r.pages ++ new; places = r.places ++ names }) e
names_longer r new names e there named q has some =
    let old = named q
    (subst (λ (ws : List ℕ). Contains ((format_of e.0).below ws (e.1).low (e.1).high) q)
    (page-append r.pages new (e.1).number there) has) in
    subst (λ n. 0 < n) (sym (name_kept r.places names e.0 q old)) (old some)
