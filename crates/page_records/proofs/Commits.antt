-- Steps at the words of one leaf: the pages stay as they are.
use Rattle.std.proofs.Common.{◌≡◌, ◌≢◌, ℕ, ◌<◌, ◌≤◌, true, true≢false, List, length, get_or, set, refl, sym, ap, ◌∙◌, subst}
use Rattle.std.proofs.Common.{arith}
use Rattle.serial_model.specs.declared.key.Key.{Key}
use Rattle.homes.specs.declared.places.Holder.TheVariants.{Held}
use Rattle.homes.specs.declared.places.Spot.{Spot}
use Rattle.commit_core.specs.declared.place.Place.{Place}
use Rattle.commit_core.specs.declared.story.Story.{Story}
use Rattle.commit_core.specs.Places.{place_of, home_of}
use Rattle.drop_core.specs.declared.grip.Grip.{Grip}
use Rattle.drop_core.specs.declared.table.Page.TheVariants.{Leaf, Split}
use Rattle.drop_core.specs.declared.table.Table.{Table}
use Rattle.drop_core.specs.Event.{is_owned}
use Rattle.drop_core.specs.Table.{slot_of, page_of, header_of, has_slot, is_never}
use Rattle.engine_pages.specs.declared.layout.Layout.{Layout}
use Rattle.engine_pages.specs.declared.view.View.{View}
use Rattle.engine_pages.specs.Layout.{page_at, snap_at}
use Rattle.engine_pages.specs.Rule.{Shared, all_seats, is_spare}
use Rattle.engine_pages.specs.Stays.{IsKnown}
use Rattle.engine_pages.specs.Views.{IsActive, seat_number}
use Rattle.engine_pages.specs.Words.{spot}
use Rattle.engine_pages.proofs.EachSeat.{at_seat}
use Rattle.engine_pages.proofs.Filling.{owned_never}
use Rattle.engine_pages.proofs.Joint.{Laws, shared_now}
use Rattle.engine_pages.proofs.PagesStay.{WordsStay}
use Rattle.engine_pages.proofs.Seats.{by_equal, is_at}
use Rattle.engine_pages.proofs.SlotFacts.{draft_same}
use Rattle.engine_pages.proofs.SlotSteps.{PagesNow}
use Rattle.engine_pages.proofs.Turns.{Begins, unwritten}

-- ---- one leaf

-- Of the pages' words some of this slot alone have changed, none that is no record's where its page is a leaf with a locked
-- header, and no twin; and of the places those of this slot. Something has led to it.
pub record OneLeaf (l : Layout) (words words' : List ℕ) (s : Shared) (n : Story) (u : ℕ) : Type 0 where
  pub known : IsKnown s.table u
  pub others : (t i : ℕ) → i < 64 → t ≢ u
      → get_or words' (page_at l.slots t i) 0 ≡ get_or words (page_at l.slots t i) 0
  pub spare : (o : ℕ) (keys : List Key) → header_of s.table u ≡ Held o → page_of s.table u ≡ Leaf keys → (i : ℕ)
      → i < 64 → is_spare (length keys) i ≡ true
      → get_or words' (page_at l.slots u i) 0 ≡ get_or words (page_at l.slots u i) 0
  pub twins : page_of s.table u ≡ Split → (i : ℕ) → 3 ≤ i → i ≤ 5
      → get_or words' (page_at l.slots u i) 0 ≡ get_or words (page_at l.slots u i) 0
  pub snaps : (k i : ℕ) → 0 < k → i < 64
      → get_or words' (snap_at l.slots k i) 0 ≡ get_or words (snap_at l.slots k i) 0
  pub places : (t i : ℕ) → t ≢ u → place_of n.places (spot t i) ≡ place_of s.story.places (spot t i)

-- no word changes by a load, nor a place
pub unchanged : (l : Layout) (words : List ℕ) (s : Shared) (n : Story) (u at : ℕ) → IsKnown s.table u
    → n.places ≡ s.story.places → OneLeaf l words (set words at (get_or words at 0)) s n u
unchanged l words s n u at known same = record {
  known = known;
  others = λ t i less other. ap (λ (z : List ℕ). get_or z (page_at l.slots t i) 0) (unwritten words at);
  spare = λ o keys held leaf i less is. ap (λ (z : List ℕ). get_or z (page_at l.slots u i) 0) (unwritten words at);
  twins = λ split i from to. ap (λ (z : List ℕ). get_or z (page_at l.slots u i) 0) (unwritten words at);
  snaps = λ j i some less. ap (λ (z : List ℕ). get_or z (snap_at l.slots j i) 0) (unwritten words at);
  places = λ t i other. ap (λ (z : List (Spot × Place)). place_of z (spot t i)) same;
}

module _ (laws : Laws) (l : Layout) (words words' : List ℕ) (views : List View) (s : Shared) (id : ℕ) (v : View)
    (active : IsActive v.role) (b : Begins l words views s id v) (n : Story) (u : ℕ)
    (one : OneLeaf l words words' s n u) where
  abbrev d : Table
  d = s.table

  abbrev p : ℕ
  p = seat_number v.role

  -- an owned slot is another one
  other_owned : (t : ℕ) → is_owned (slot_of d t).state ≡ true → t ≢ u
  other_owned t owned is =
      let never = owned_never d t (slot_of d t).state (slot_of d t).led owned
      (b.sound.joint.pages.table.holds_counted.led t) in
      true≢false (sym never ∙ ap (λ k. is_never (slot_of d k).led) is ∙ one.known)

  -- and so is one that the seat made
  other_made : (t : ℕ) → has_slot v.grip.made t ≡ true → t ≢ u
  other_made t made is =
      let mine : has_slot (s.grips p).made t ≡ true = subst (λ (g : Grip). has_slot g.made t ≡ true) b.grip made in
      let never = (laws.made (home_of s.story.homes) d (all_seats s.grips) p t (s.grips p) b.sound.joint.pages
      (at_seat s.grips p b.few) mine).never in
      true≢false (sym (ap is_never never) ∙ ap (λ k. is_never (slot_of d k).led) is ∙ one.known)

  -- the words that no record of a leaf has stay, where somebody has locked its header
  spare_kept : (t o : ℕ) (keys : List Key) → header_of d t ≡ Held o → page_of d t ≡ Leaf keys → (i : ℕ) → i < 64
      → is_spare (length keys) i ≡ true
      → get_or words' (page_at l.slots t i) 0 ≡ get_or words (page_at l.slots t i) 0
  spare_kept t o keys held leaf i less spare =
      by_equal t u
      (λ k. header_of d k ≡ Held o → page_of d k ≡ Leaf keys
      → get_or words' (page_at l.slots k i) 0 ≡ get_or words (page_at l.slots k i) 0)
      (λ h f. one.spare o keys h f i less spare) (λ other h f. one.others t i less other) held leaf

  -- and so do the twins of one that was split
  twins_kept : (t : ℕ) → page_of d t ≡ Split → (i : ℕ) → 3 ≤ i → i ≤ 5
      → get_or words' (page_at l.slots t i) 0 ≡ get_or words (page_at l.slots t i) 0
  twins_kept t split i from to =
      by_equal t u
      (λ k. page_of d k ≡ Split
      → get_or words' (page_at l.slots k i) 0 ≡ get_or words (page_at l.slots k i) 0)
      (λ y. one.twins y i from to) (λ other y. one.others t i (omega arith) other) split

  -- what the view knows of pages stays so
  pub pages_kept : PagesNow l words' (shared_now s p n d s.trees s.resident v) v
  pages_kept = record {
    within = b.pages.within;
    ways = b.pages.ways;
    drafts = λ z has.
        let was = b.pages.drafts z has in
        draft_same words words' l.slots d d v.grip.made v.grip.made z was.made refl refl
        (λ i less. one.others z.slot i less (other_owned z.slot was.owned)) was;
    copies = λ z has.
        let was = b.pages.copies z has in (
          was.0,
          record {
            slot = was.1.slot;
            made = was.1.made;
            state = was.1.state;
            over = was.1.over;
            page = was.1.page;
            exact = was.1.exact;
            records = λ leaf i less. one.places z.slot i (other_made z.slot was.1.made) ∙ was.1.records leaf i less;
            pointers = was.1.pointers;
          },
        );
    blanks = b.pages.blanks;
    resident = b.pages.resident;
    leads = b.pages.leads;
    fills = λ z has.
        let was = b.pages.fills z has in (
          was.0,
          record {
            above = was.1.above;
            within = was.1.within;
            is = λ i less. one.snaps z.page i (let above = was.1.above in omega arith) less ∙ was.1.is i less;
          },
        );
    known = b.pages.treed.known;
    shuts = b.pages.shuts p (is_at v.role active);
    heads = λ z has.
        let was = b.pages.treed.heads p (is_at v.role active) z has in record {
          within = was.within;
          locked = was.locked;
          leaf = was.leaf;
          fence = was.fence;
          there = was.there;
          keys = was.keys;
          long = was.long;
          is = λ i less spare. spare_kept z.slot p z.keys was.locked was.leaf i less spare ∙ was.is i less spare;
        };
    moved = λ z has.
        let was = b.pages.treed.moved z has in record {
          within = was.within;
          held = was.held;
          known = was.known;
          split = was.split;
          fence = was.fence;
          there = was.there;
          minor = twins_kept z.slot was.split 3 (omega arith) (omega arith) ∙ was.minor;
          major = twins_kept z.slot was.split 4 (omega arith) (omega arith) ∙ was.major;
          separator = twins_kept z.slot was.split 5 (omega arith) (omega arith) ∙ was.separator;
        };
    sealed = b.pages.treed.sealed p (is_at v.role active);
    inners = b.pages.treed.inners;
    new_leaves = λ z has.
        let was = b.pages.treed.new_leaves z has in record {
          slot = was.slot;
          made = was.made;
          state = was.state;
          kind = was.kind;
          header = was.header;
          page = was.page;
          there = was.there;
          each = was.each;
          records = λ i c is. one.places z.slot i (other_made z.slot was.made) ∙ was.records i c is;
        };
    new_inners = b.pages.treed.new_inners;
  }

  -- and so do the words that other seats rely on
  pub frame_kept : WordsStay l words words' s p
  frame_kept = record {
    drafts = λ t low unmade owned i less. one.others t i less (other_owned t owned);
    spare = λ t o keys low led held other leaf i less is. spare_kept t o keys held leaf i less is;
    twins = λ t low led split i from to. twins_kept t split i from to;
    fills = λ other k i some less. one.snaps k i some less;
  }
