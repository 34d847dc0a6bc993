-- What a walk down a tree leaves of a live transaction.
use Rattle.std.proofs.Common.{◌≡◌, ◌⊎◌, inl, inr, ℕ, suc, ◌+◌, ◌-◌, ◌*◌, ◌/◌, ◌%◌, ◌<◌, refl, sym, ap, ◌∙◌, subst}
use Rattle.std.proofs.Common.{arith}
use Rattle.std.specs.Prelude.{Contains}
use Rattle.serial_model.specs.Decls.{AreDecls}
use Rattle.commit_core.specs.declared.part.Part.{Part}
use Rattle.tx_sets.specs.declared.seen.Seen.{Seen}
use Rattle.tx_sets.specs.declared.sets.Sets.{Sets}
use Rattle.engine_pages.specs.declared.view.Inner.{Inner}
use Rattle.engine_pages.specs.declared.view.View.{View}
use Rattle.tree_walks.specs.Walks.{HasWalked, IsPointersWord, IsTreesWord, KeepsMet, LiesInPage, OnlyTrees, OnlyTreesBut}
use Rattle.page_commit.specs.HeaderParts.{AreHeadersMet, IsMetHeader}
use Rattle.page_commit.specs.Live.{ArePointersMet, IsHeadIn, IsLive, IsMetPointer}
use Rattle.page_commit.specs.Places.{ground, slot_of, word_of, IsPointerIn}
use Rattle.page_commit.specs.Turning.{as_walked, OnlyWalked}
use Rattle.page_commit.proofs.GrowLaws.{KnowsMore}
use Rattle.page_commit.proofs.PlaceLaws.{place_in, pointer_in_place}
use Rattle.page_commit.proofs.PointerLaws.{pointer_word}
use Rattle.page_commit.proofs.WalkedLaws.{OnlyBeside, OnlyMetBut}

-- ---- what has changed

pub tree_walked : (v w : View) → HasWalked v w → OnlyWalked v w
tree_walked v w walk = record {
  drawn = walk.drawn;
  seen = walk.seen;
  since = walk.since;
  parts = λ part has. elim (walk.parts part has) [ inl old ↦ inl old | inr last ↦ inr (inl last) ];
  touches = λ t has. inl (subst (λ (y : View). Contains y.touched t) walk.is has);
  ways = walk.ways;
  known = walk.known;
  moved = walk.moved;
  inners = walk.inners;
  versions = λ x has. subst (λ (y : View). Contains y.versions x) (sym walk.is) has;
  is = subst (λ (y : View). y ≡ as_walked v y) (sym walk.is) refl;
}

pub tree_knows_more : (v w : View) → HasWalked v w → KnowsMore v w
tree_knows_more v w walk = record {
  layout = ap (λ (y : View). y.layout) walk.is;
  ways = walk.ways;
  known = walk.known;
  inners = walk.inners;
  leads = walk.leads;
  pages = walk.pages;
}

-- ---- the words that were met

-- the root's pointer, and the words of headers and of interior pages, stand beside records
pub tree_head : (w : View) (at : ℕ) → AreDecls w.layout.decls → IsTreesWord w at → IsHeadIn (ground w) at
tree_head w at are (inl r) =
    let there = r.there in
    let few = are.few in
    let word : at ≡ 10 + r.root = r.word in inl (omega (arith, there, few, word))
tree_head w at are (inr p) =
    let word : at ≡ ((32 + w.layout.slots) + 64 * p.slot) + p.index = p.is.word in
    let index : p.index < 64 = p.is.index in
    let slot : (at - (32 + w.layout.slots)) / 64 ≡ p.slot = omega (arith, word, index) in
    inr (p.is.way, p.is.has, slot ∙ sym p.is.slot, p.is.kind, by_first p.first)
  where
    by_first : (p.index ≡ 0) ⊎ ((x : Inner) × Contains w.inners x × (x.slot ≡ p.slot))
        → (word_of w.layout.slots at < 16) ⊎ ((x : Inner) × Contains w.inners x × (x.slot ≡ p.is.way.slot))
    by_first (inl first) =
        let word : at ≡ ((32 + w.layout.slots) + 64 * p.slot) + p.index = p.is.word in
        let low : (at - (32 + w.layout.slots)) % 64 < 16 = omega (arith, word, first) in inl low
    by_first (inr x) = inr (x.0, x.1, x.2 ∙ sym p.is.slot)

pub beside_trees : (v w : View) → AreDecls w.layout.decls → OnlyTrees v w → OnlyBeside v w
beside_trees v w are only a = elim (only a) [ inl same ↦ inl same | inr t ↦ inr (inr (tree_head w a are t)) ]

pub beside_trees_but : (at : ℕ) (v w : View) → AreDecls w.layout.decls → OnlyTreesBut at v w → OnlyMetBut at v w
beside_trees_but at v w are only a one two =
    elim (only a one two) [ inl same ↦ inl same | inr t ↦ inr (inr (tree_head w a are t)) ]

-- ---- what the sets have, as it is met

-- each pointer of the set is one that the walk knows
pub tree_pointer : (v : View) (p : Seen) (part : Part) → IsMetPointer v p part → IsPointersWord v p.at
tree_pointer v p part m = record {
  place = place_in (ground v) m.span p.at m.place;
  span = m.span;
  is = pointer_in_place v m.span p.at m.place;
  inside = by_kind m.place;
}
  where
    in_page : p.at ≡ ((32 + v.layout.slots) + 64 * ((p.at - (32 + v.layout.slots)) / 64)) + (p.at - (32 + v.layout.slots)) % 64
        → p.at < ((32 + v.layout.slots) + 64 * suc ((p.at - (32 + v.layout.slots)) / 64)) + 0
    in_page word = omega (arith, word)

    by_kind : (q : IsPointerIn (ground v) m.span p.at)
        → LiesInPage v.layout.slots (place_in (ground v) m.span p.at q) p.at
    by_kind (inl r) = tt
    by_kind (inr (inl c)) = in_page c.word
    by_kind (inr (inr b)) = in_page b.word

pub tree_points : (sets : Sets) (v w : View) → IsLive sets v → KeepsMet sets.pointers sets.headers v w
    → ArePointersMet sets.pointers w
tree_points sets v w live keeps p has =
    let r = live.parts.pointers p has in
    keeps.points p.at p.word (pointer_word sets.pointers p live.once has) (tree_pointer v p r.0 r.2) (live.points p has)

-- so is each header
pub tree_headers : (sets : Sets) (v w : View) → IsLive sets v → KeepsMet sets.pointers sets.headers v w
    → AreHeadersMet sets.headers w
tree_headers sets v w live keeps h has =
    let r = live.parts.headers h has in
    let m : IsMetHeader (ground v) h r.0 = r.2 in
    let t : ℕ = slot_of v.layout.slots h.at in
    keeps.heads h.at h.word t (pointer_word sets.headers h live.headers.once has)
    (record {
      way = record { slot = t; span = m.span };
      has = m.has;
      slot = refl;
      kind = m.tree;
      there = m.there;
      index = omega arith;
      word = m.place;
    }) (live.headers.met h has)
