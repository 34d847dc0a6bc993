-- Headers of leaves that a transaction keeps: their words stand apart from all others, and they are checked one after
-- another.
use Rattle.std.proofs.Common.{false, inl, inr, true, ◌%◌, ◌*◌, ◌+◌, ◌-◌, ◌/◌, ◌<◌, ◌≡◌, ◌≤◌, ◌⊎◌, None, Option, Some}
use Rattle.std.proofs.Common.{ℕ}
use Rattle.std.proofs.Common.{List, [], ◌∷◌, refl, sym, ap, ◌∙◌, subst, arith}
use Rattle.std.specs.Prelude.{Contains, ◌==◌}
use Rattle.std.specs.List.{AllByRecursion}
use Rattle.std.proofs.lemmas.Bool.{eqb-true, ne_eqb, or_from}
use Rattle.lists.specs.Elements.{any_is}
use Rattle.serial_model.specs.declared.key.Key.{Key}
use Rattle.serial_model.specs.Decls.{AreDecls}
use Rattle.homes.specs.declared.places.Span.{Span}
use Rattle.commit_core.specs.declared.part.Part.{Part}
use Rattle.tx_sets.specs.declared.seen.Seen.{Seen}
use Rattle.tx_sets.specs.declared.sets.Sets.{Sets}
use Rattle.tx_sets.specs.declared.writes.Write.{Write}
use Rattle.tx_sets.specs.Entries.{writes_at}
use Rattle.engine_pages.specs.declared.layout.Layout.{Layout}
use Rattle.engine_pages.specs.declared.view.View.{View}
use Rattle.engine_pages.specs.declared.view.Way.{Way}
use Rattle.engine_pages.specs.Agreement.{TreesAgree}
use Rattle.engine_pages.specs.Pages.{is_tree}
use Rattle.engine_pages.specs.Pointers.{WaysAgree, one_kind}
use Rattle.engine_pages.specs.Steps.{kept_at, seen_at}
use Rattle.array_pages.specs.Walks.{IsPointersWord}
use Rattle.page_commit.specs.Places.{ground, slot_of, Ground, IsAnyKeyIn, IsKeyIn, IsPointerIn, IsTreeKeyIn}
use Rattle.page_commit.specs.HeaderParts.{AreHeaders, IsMetHeader}
use Rattle.page_commit.specs.Live.{AreParts, IsWriteOf, KeepsOnly}
use Rattle.page_commit.proofs.AnyPlaces.{any_no_pointer}
use Rattle.page_commit.proofs.GrowLaws.{pointer_here, KnowsMore}
use Rattle.tx_sets.specs.Entries as sets_of

-- ---- words apart

-- a header's word is no pointer's of an array
pub no_head_pointer : (g : Ground) (h : Seen) (part : Part) (sp : Span) → WaysAgree g.ways → IsMetHeader g h part
    → IsPointerIn g sp h.at → ⊥
no_head_pointer g h part sp agree m (inl r) =
    let few = r.few in let is = r.word in let place = m.place in absurd (omega (arith, few, is, place))
no_head_pointer g h part sp agree m (inr (inr b)) =
    let behind : 4 ≤ (h.at - (32 + g.layout.slots)) % 64 = b.behind in
    let place : h.at ≡ ((32 + g.layout.slots) + 64 * ((h.at - (32 + g.layout.slots)) / 64)) + 0 = m.place in
    absurd (omega (arith, behind, place))
no_head_pointer g h part sp agree m (inr (inl c)) =
    let way : Way = record { slot = slot_of g.layout.slots h.at; span = m.span } in
    let same = agree c.way way c.has m.has c.slot in
    one_kind _ c.kind (ap (λ (i : ℕ). is_tree g.layout.decls i) same.0 ∙ m.tree)

-- and no record's of an array
pub no_head_key : (g : Ground) (h : Seen) (part : Part) (k : Key) → WaysAgree g.ways → IsMetHeader g h part
    → IsKeyIn g k h.at → ⊥
no_head_key g h part k agree m a =
    let way : Way = record { slot = slot_of g.layout.slots h.at; span = m.span } in
    let same = agree a.way way a.has m.has a.slot in
    one_kind _ a.kind (ap (λ (i : ℕ). is_tree g.layout.decls i) same.0 ∙ m.tree)

-- nor that of such a record's value
pub no_head_value : (g : Ground) (h : Seen) (part : Part) (k : Key) (at : ℕ) → WaysAgree g.ways → IsMetHeader g h part
    → IsKeyIn g k at → h.at ≡ at + 1 → ⊥
no_head_value g h part k at agree m a is =
    let way : Way = record { slot = slot_of g.layout.slots h.at; span = m.span } in
    let index = a.index in
    let word = a.word in
    let place = m.place in
    let slot : slot_of g.layout.slots at ≡ slot_of g.layout.slots h.at = omega (arith, index, word, place, is) in
    let same = agree a.way way a.has m.has (a.slot ∙ slot) in
    one_kind _ a.kind (ap (λ (i : ℕ). is_tree g.layout.decls i) same.0 ∙ m.tree)

-- nor that of a tree's record
pub no_head_tree : (g : Ground) (h : Seen) (part : Part) (k : Key) → IsMetHeader g h part → IsTreeKeyIn g k h.at → ⊥
no_head_tree g h part k m a =
    let index : ((h.at - (32 + g.layout.slots)) % 64 - 17) / 3 < 16 = a.index in
    let word : h.at
    ≡ ((32 + g.layout.slots) + 64 * ((h.at - (32 + g.layout.slots)) / 64))
    + (1 + (16 + 3 * (((h.at - (32 + g.layout.slots)) % 64 - 17) / 3))) = a.word in
    let place : h.at ≡ ((32 + g.layout.slots) + 64 * ((h.at - (32 + g.layout.slots)) / 64)) + 0 = m.place in
    absurd (omega (arith, index, word, place))

pub no_head_any : (g : Ground) (h : Seen) (part : Part) (k : Key) → WaysAgree g.ways → IsMetHeader g h part
    → IsAnyKeyIn g k h.at → ⊥
no_head_any g h part k agree m (inl a) = no_head_key g h part k agree m a
no_head_any g h part k agree m (inr a) = no_head_tree g h part k m a

-- so the transaction writes none
pub head_clear : (g : Ground) (h : Seen) (part : Part) (ws : List Write) → WaysAgree g.ways → IsMetHeader g h part
    → AllByRecursion (IsWriteOf g) ws → writes_at h.at ws ≡ false
head_clear g h part [] agree m all = refl
head_clear g h part (w ∷ ws) agree m all =
    or_from (w.at == h.at) (writes_at h.at ws)
    (ne_eqb w.at h.at (λ same. no_head_any g h part w.key agree m (subst (IsAnyKeyIn g w.key) same all.0.place)))
    (head_clear g h part ws agree m all.1)

-- two headers in one slot are one word
pub one_head : (g : Ground) (h i : Seen) (p q : Part) → IsMetHeader g h p → IsMetHeader g i q
    → slot_of g.layout.slots h.at ≡ slot_of g.layout.slots i.at → h.at ≡ i.at
one_head g h i p q a b same =
    a.place ∙ (ap (λ (t : ℕ). Rattle.engine_pages.specs.Layout.page_at g.layout.slots t 0) same ∙ sym b.place)

-- ---- words that aren't kept

-- nothing is kept as a part of the word of a tree's record
pub tree_unkept : (sets : Sets) (v : View) (parts : List Part) (k : Key) (at : ℕ) → AreParts sets v parts
    → WaysAgree v.ways → TreesAgree v → KeepsOnly sets v → IsTreeKeyIn (ground v) k at → kept_at v.reads at ≡ None
tree_unkept sets v parts k at are agree trees only place = by_kept (kept_at v.reads at) refl
  where
    by_pointer : sets_of.has_word at sets.pointers ≡ true → ⊥
    by_pointer has =
        let p = any_is (λ (s : Seen). s.at == at) sets.pointers has in
        let r = (are.pointers p.0 p.1).2 in
        any_no_pointer v k r.span at agree trees (inr place)
        (subst (λ (n : ℕ). IsPointerIn (ground v) r.span n) (eqb-true p.0.at at p.2) r.place)

    by_header : sets_of.has_word at sets.headers ≡ true → ⊥
    by_header has =
        let h = any_is (λ (s : Seen). s.at == at) sets.headers has in
        let r = are.headers h.0 h.1 in
        no_head_tree (ground v) h.0 r.0 k r.2
        (subst (λ (n : ℕ). IsTreeKeyIn (ground v) k n) (sym (eqb-true h.0.at at h.2)) place)

    by_kept : (o : Option ℕ) → kept_at v.reads at ≡ o → kept_at v.reads at ≡ None
    by_kept None is = is
    by_kept (Some n) is = absurd (elim (only at n is) [ inl p ↦ by_pointer p | inr h ↦ by_header h ])

-- ---- where the pass learns of more ways

-- the ground of the view with this layout
abbrev with_layout : View → Layout → Ground
with_layout w l = record { layout = l; ways = w.ways; known = w.known; inners = w.inners }

pub header_grown : (v w : View) (h : Seen) (part : Part) → KnowsMore v w → IsMetHeader (ground v) h part
    → IsMetHeader (ground w) h part
header_grown v w h part more m =
    subst (λ (l : Layout). IsMetHeader (with_layout w l) h part) (sym more.layout) record {
      span = m.span;
      keys = m.keys;
      has = more.ways (record { slot = slot_of v.layout.slots h.at; span = m.span }) m.has;
      tree = m.tree;
      there = m.there;
      place = m.place;
      knows = more.known (record { slot = slot_of v.layout.slots h.at; keys = m.keys }) m.knows;
      few = m.few;
      word = m.word;
      is = m.is;
    }

-- ---- where other words were met

-- The headers stand, where none was met and each is known as a part as it was.
pub headers_aside : (headers : List Seen) (v w : View)
    → ((h : Seen) → Contains headers h
    → (seen_at w.reads h.at ≡ seen_at v.reads h.at) × (kept_at w.reads h.at ≡ kept_at v.reads h.at))
    → AreHeaders headers v → AreHeaders headers w
headers_aside headers v w same are = record {
  once = are.once;
  met = λ h has. (same h has).0 ∙ are.met h has;
  kept = λ h has. (same h has).1 ∙ are.kept h has;
}

-- so it is where only words of pointers of arrays were met
pub head_only : (v w : View) (h : Seen) (part : Part) → KnowsMore v w → WaysAgree w.ways → AreDecls w.layout.decls
    → IsMetHeader (ground v) h part → (seen_at w.reads h.at ≡ seen_at v.reads h.at) ⊎ IsPointersWord w h.at
    → seen_at w.reads h.at ≡ seen_at v.reads h.at
head_only v w h part more agree are m (inl same) = same
head_only v w h part more agree are m (inr p) =
    absurd (no_head_pointer (ground w) h part p.span agree (header_grown v w h part more m)
    (pointer_here w p.place p.span h.at are p.is))
