-- What is on the way to a key stays on it, as a walk goes on.
use Rattle.std.proofs.Common.{◌⊎◌, inl, inr, ℕ, ◌<◌, List, [], ◌∷◌, sym, ap, ◌∙◌, subst}
use Rattle.serial_model.specs.declared.key.Key.{Key}
use Rattle.homes.specs.declared.places.Spot.{Spot}
use Rattle.wire_form.specs.Leaves.{tree_leaf, word_in}
use Rattle.engine_pages.specs.declared.layout.Layout.{Layout}
use Rattle.engine_pages.specs.declared.view.View.{View}
use Rattle.engine_pages.specs.declared.view.Way.{Way}
use Rattle.engine_pages.specs.Layout.{page_at, words_of}
use Rattle.engine_pages.specs.Records.{IsTreeRecordAt}
use Rattle.tx_sets.specs.declared.seen.Seen.{Seen}
use Rattle.engine_pages.specs.Steps.{seen_at}
use Rattle.array_pages.specs.Finding.{HasGlanced}
use Rattle.tree_walks.specs.declared.ways.Leaf.{Leaf}
use Rattle.tree_walks.specs.Walks.{HasWalked, LiesInPage}
use Rattle.tree_walks.specs.Ways.{IsChildOf, IsHalfOf, IsLeafAt, IsLeafOn, IsMetSo, IsNext, IsPath, IsWayPointer}
use Rattle.tree_walks.proofs.StepLaws.{layout_stays, on_stays, place_stays, slots_stay, tree_stays}

pub pointer_stays : (k : Key) (v w : View) (at : ℕ) → HasWalked v w → IsWayPointer k v at → IsWayPointer k w at
pointer_stays k v w at walk p = record {
  place = p.place;
  span = p.span;
  is = place_stays v w p.place p.span at walk p.is;
  inside = subst (λ (y : Layout). LiesInPage y.slots p.place at) (sym (layout_stays v w walk)) p.inside;
  within = subst (λ (y : Layout). at < words_of y) (sym (layout_stays v w walk)) p.within;
  tree = tree_stays v w p.span.storage walk p.tree;
  over = p.over;
}

abbrev pub leaf_stays : (k : Key) (x : Leaf) (v w : View) → HasWalked v w → IsLeafAt k x v → IsLeafAt k x w
leaf_stays k x v w walk l = record {
  on = on_stays k v w x.slot x.span walk l.on;
  keys = l.keys;
  knows = walk.known (record { slot = x.slot; keys = l.keys }) l.knows;
  few = l.few;
  once = l.once;
  inside = l.inside;
  count = l.count;
  kind = l.kind;
  small = l.small;
}

-- it is so behind loads that don't count as met
pub leaf_on_glanced : (k : Key) (headers : List Seen) (x : Leaf) (v w : View) → HasWalked v w → HasGlanced v w
    → IsLeafOn k headers x v → IsLeafOn k headers x w
leaf_on_glanced k headers x v w walk g l = record {
  leaf = leaf_stays k x v w walk l.leaf;
  met = ap (λ (y : Layout). seen_at w.reads (page_at y.slots x.slot 0)) (layout_stays v w walk)
      ∙ (ap (λ (z : View). seen_at z.reads (page_at v.layout.slots x.slot 0)) g.is ∙ l.met);
  set = subst (λ (y : Layout). IsMetSo headers (page_at y.slots x.slot 0) x.header) (sym (layout_stays v w walk)) l.set;
}

pub record_stays : (v w : View) (k : Key) (x : Spot) (at : ℕ) → HasWalked v w → IsTreeRecordAt v k x at
    → IsTreeRecordAt w k x at
record_stays v w k x at walk place =
    let layout = layout_stays v w walk in record {
      way = place.way;
      has = walk.ways place.way place.has;
      slot = place.slot;
      leaf = place.leaf;
      knows = walk.known place.leaf place.knows;
      same = place.same;
      there = slots_stay v w x.slot walk place.there;
      index = place.index;
      kind = tree_stays v w k.storage walk place.kind;
      key = place.key;
      word = place.word ∙ ap (λ (z : Layout). page_at z.slots x.slot (word_in tree_leaf x.index)) (sym layout);
    }

pub child_stays : (v w : View) (a b : Way) → HasWalked v w → IsChildOf v a b → IsChildOf w a b
child_stays v w a b walk c = record {
  inner = c.inner;
  knows = walk.inners c.inner c.knows;
  same = c.same;
  index = c.index;
  within = c.within;
  span = c.span;
}

pub half_stays : (k : Key) (v w : View) (a b : Way) → HasWalked v w → IsHalfOf k v a b → IsHalfOf k w a b
half_stays k v w a b walk h = record {
  moved = h.moved;
  knows = walk.moved h.moved h.knows;
  same = h.same;
  slot = h.slot;
  span = h.span;
}

pub below_stays : (k : Key) (v w : View) (a b : Way) → HasWalked v w → IsChildOf v a b ⊎ IsHalfOf k v a b
    → IsChildOf w a b ⊎ IsHalfOf k w a b
below_stays k v w a b walk is =
    elim is [ inl c ↦ inl (child_stays v w a b walk c) | inr h ↦ inr (half_stays k v w a b walk h) ]

next_stays : (k : Key) (v w : View) (more : List Way) (b : Way) → HasWalked v w → IsNext k v more b → IsNext k w more b
next_stays k v w [] b walk next = next
next_stays k v w (a ∷ more) b walk next = below_stays k v w a b walk next

pub path_stays : (k : Key) (v w : View) (pages : List Way) → HasWalked v w → IsPath k v pages → IsPath k w pages
path_stays k v w [] walk path = path
path_stays k v w (b ∷ more) walk path = (
  on_stays k v w b.slot b.span walk path.0,
  next_stays k v w more b walk path.1,
  path_stays k v w more walk path.2,
)
