-- What a call on a key of a tree is refused for is on the way to the key, or what the call needs there.
use Rattle.std.proofs.Common.{◌≡◌, inl, inr, ℕ, ◌+◌, ◌-◌, ◌*◌, ◌/◌, true, false, List, refl, sym, ◌∙◌, subst, arith}
use Rattle.serial_model.specs.declared.key.Key.{Key}
use Rattle.homes.specs.declared.places.Span.{Span}
use Rattle.homes.specs.Homes.{in_span}
use Rattle.homes.specs.Laws.{in_span-parts}
use Rattle.tx_sets.specs.declared.sets.Sets.{Sets}
use Rattle.tx_sets.specs.Entries.{has_read}
use Rattle.engine_pages.specs.declared.view.RefusalCause.{RefusalCause}
use Rattle.engine_pages.specs.declared.view.RefusalCause.TheVariants as refusals
use Rattle.engine_pages.specs.declared.view.SetName.{SetName}
use Rattle.engine_pages.specs.declared.view.SetName.TheVariants.{Holds, Pointers, Reads, Writes}
use Rattle.engine_pages.specs.declared.view.View.{View}
use Rattle.engine_pages.specs.declared.view.Way.{Way}
use Rattle.engine_pages.specs.Layout.{page_at}
use Rattle.engine_pages.specs.Pages.{is_tree}
use Rattle.tree_walks.specs.declared.finding.Found.{Found}
use Rattle.tree_walks.specs.Finding.{IsFindWide, IsFound, IsRecordChanged, RefusesFind}
use Rattle.tree_walks.specs.Ways.{IsHeldWide, IsOnWay, IsWayPointer}
use Rattle.page_commit.specs.Needs.{IsRecordOver, IsRefusedOn, NeedsOne}
use Rattle.page_commit.specs.Places.{ground, IsTreeKeyIn}
use Rattle.page_commit.specs.Turning.{IsHeaderOver, IsTreePointerOver}
use Rattle.page_commit.proofs.AnyPlaces.{tree_key_here}
use Rattle.tree_calls.specs.Keeping.{lacks_entry}
use Rattle.tree_calls.proofs.CauseLaws.{found_needs}
use Rattle.tree_calls.proofs.DueLaws.{record_whole, TreeWalked}

-- ---- words

pub pointer_over : (k : Key) (at : ℕ) (w : View) → IsWayPointer k w at → IsTreePointerOver w k at
pointer_over k at w p = record {
  place = p.place;
  span = p.span;
  is = p.is;
  tree = subst (λ (i : ℕ). is_tree w.layout.decls i ≡ true) (sym (in_span-parts p.span k p.over).0) p.tree;
  over = p.over;
}

pub header_over : (k : Key) (t at : ℕ) (sp : Span) (w : View) → IsOnWay k w t sp → at ≡ page_at w.layout.slots t 0
    → IsHeaderOver w k at
header_over k t at sp w on is =
    let place : at ≡ ((32 + w.layout.slots) + 64 * t) + 0 = is in
    let slot : (at - (32 + w.layout.slots)) / 64 ≡ t = omega (arith, place) in record {
      way = record { slot = t; span = sp };
      has = on.way;
      slot = sym slot;
      tree = subst (λ (i : ℕ). is_tree w.layout.decls i ≡ true) (sym (in_span-parts sp k on.over).0) on.tree;
      over = on.over;
      word = is;
    }

record_over : (sets : Sets) (late : List ℕ) (k : Key) (at expected seen : ℕ) (v w : View) → TreeWalked sets late v w
    → IsRecordChanged k at expected seen v w → IsRecordOver k (record sets { holds = late }) w at
record_over sets late k at expected seen v w h c =
    let way : Way = record { slot = c.slot; span = c.span } in
    let same = ((h.can).trees).spans way (c.place).way (c.on).way (c.place).has (sym ((c.place).slot ∙ c.stands)) (c.on).tree in
    let here : IsTreeKeyIn (ground w) k at =
    tree_key_here w k c.spot at c.place (subst (λ (s : Span). in_span s k ≡ true) same (c.on).over) in
    record {
      key = k;
      place = here;
      over = here.over;
      which = inl refl;
      whole = inl (record_whole sets late k at expected seen v w h c);
    }

-- ---- a way was too long, or a record was not found

pub held_on : (sets : Sets) (k : Key) (w : View) → IsHeldWide k sets.holds w → NeedsOne Holds k sets w
held_on sets k w (inl full) = inl (full.0, inl full.1)
held_on sets k w (inr long) = inr long

find_needs : (set : SetName) (sets : Sets) (k : Key) (w : View) → IsFindWide k sets.pointers sets.holds set w
    → NeedsOne set k sets w
find_needs Reads sets k w h = absurd h
find_needs Writes sets k w h = absurd h
find_needs Pointers sets k w h = h
find_needs Holds sets k w h = held_on sets k w h

pub find_on : (why : RefusalCause) (sets : Sets) (late : List ℕ) (k : Key) (v w : View) → TreeWalked sets late v w
    → RefusesFind k sets.pointers sets.headers late why v w → IsRefusedOn why k (record sets { holds = late }) w
find_on (refusals.Conflict at expected seen) sets late k v w h (inl (inl p)) = inl (inl (pointer_over k at w p.on))
find_on (refusals.Conflict at expected seen) sets late k v w h (inl (inr c)) =
    inl (inr (inl (header_over k c.slot at c.span w c.on c.word)))
find_on (refusals.Conflict at expected seen) sets late k v w h (inr c) =
    inl (inr (inr (record_over sets late k at expected seen v w h c)))
find_on (refusals.Full held) sets late k v w h r = absurd r
find_on (refusals.Wide set) sets late k v w h r = find_needs set (record sets { holds = late }) k w r.0
find_on (refusals.NumberLimit clock) sets late k v w h r = absurd r

-- ---- an entry was not kept

-- what was found needs an entry more
pub entry_on : (f : Found) (sets : Sets) (late : List ℕ) (k : Key) (v w : View) → TreeWalked sets late v w
    → has_read k sets.reads ≡ false → IsFound k sets.pointers sets.headers f v w → lacks_entry sets f ≡ true
    → IsRefusedOn (refusals.Wide Reads) k (record sets { holds = late }) w
entry_on f sets late k v w h none is full =
    let found = found_needs f sets late k v w h none is full in
    (found.0, elim found.1 [ inl one ↦ inl one | inr head ↦ inr (inl head) ])
