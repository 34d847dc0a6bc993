-- One record of a leaf of a tree changes: what the words show of it, and what its leaf keeps.
use Rattle.std.proofs.Common.{◌≡◌, ◌≢◌, inl, inr, ℕ, ◌+◌, ◌*◌, ◌<◌, ◌≤◌, Bool, true, false, true≢false, cond, List}
use Rattle.std.proofs.Common.{length, get_or, refl, sym, ap, ◌∙◌, subst, arith, Some, None}
use Rattle.std.specs.Prelude.{◌&&◌, ◌||◌, nat_le}
use Rattle.std.specs.List.{slice_get}
use Rattle.std.proofs.lemmas.Bool.Decides.{nat_tests}
use Rattle.std.proofs.lemmas.Option.{slice_get_within}
use Rattle.serial_model.specs.declared.decl.Decl.{Decl}
use Rattle.serial_model.specs.declared.key.Key.{Key}
use Rattle.serial_model.specs.declared.number.Number.{Number}
use Rattle.homes.specs.declared.places.Spot.{Spot}
use Rattle.wire_form.specs.Leaves.{tree_leaf}
use Rattle.wire_form.specs.Words.{absent_field}
use Rattle.commit_core.specs.declared.place.Place.{Place}
use Rattle.commit_core.specs.declared.story.Story.{Story}
use Rattle.commit_core.specs.Lemmas.Places.{place_of-placed_same, place_of-placed_other}
use Rattle.commit_core.specs.Places.{place_of, placed}
use Rattle.drop_core.specs.declared.table.Page.{Page}
use Rattle.drop_core.specs.declared.table.Page.TheVariants.{Leaf, Split}
use Rattle.drop_core.specs.declared.table.Table.{Table}
use Rattle.drop_core.specs.Table.{page_of}
use Rattle.engine_pages.specs.declared.layout.Layout.{Layout}
use Rattle.engine_pages.specs.declared.view.View.{View}
use Rattle.engine_pages.specs.Layout.{root_at, slot_at, page_at, snap_at}
use Rattle.engine_pages.specs.Pages.{is_array, Fenced}
use Rattle.engine_pages.specs.Records.{IsTreeRecordAt}
use Rattle.engine_pages.specs.Rule.{Shared, IsBitAt, is_spare}
use Rattle.engine_pages.specs.Words.{IsBit, IsOverwritten, ShowsKeyed, ShowsTree, ShowsWords, spot}
use Rattle.engine_pages.proofs.Seats.{by_equal}
use Rattle.engine_pages.proofs.Turns.{Begins}
use Rattle.engine_pages.proofs.Words.{page_shown, tree_shown}
use Rattle.page_records.proofs.Commits.{OneLeaf}
use Rattle.page_records.proofs.Placing.{Restored}
use Rattle.page_records.proofs.TreeLeaves as leaves

-- ---- the bit of absence of a tree's record

pub bit_of_tree : (decls : List Decl) (m : Story) (k : Key) (q : Place) (bit : ℕ) → is_array decls k.storage ≡ false
    → IsBitAt decls m k q bit → IsBit (IsOverwritten m k) q bit
bit_of_tree decls m k q bit tree (inl is) =
    inl (is ∙ ap (λ (c : Bool). cond c 0 (absent_field tree_leaf q.content.value)) tree)
bit_of_tree decls m k q bit tree (inr old) = inr old.1

pub tree_bit : (decls : List Decl) (m : Story) (k : Key) (q : Place) (bit : ℕ) → is_array decls k.storage ≡ false
    → IsBit (IsOverwritten m k) q bit → IsBitAt decls m k q bit
tree_bit decls m k q bit tree (inl is) =
    inl (is ∙ sym (ap (λ (c : Bool). cond c 0 (absent_field tree_leaf q.content.value)) tree))
tree_bit decls m k q bit tree (inr old) = inr (tree, old)

-- ---- words that no record has

-- a spare word of a leaf is that of no record
pub spare_apart : (count i j q : ℕ) → is_spare count i ≡ true → j < count → q ≤ 2 → i ≢ (16 + 3 * j) + q
spare_apart count i j q is less low same = by_test (nat_le (16 + 3 * count) i) refl
  where
    by_test : (c : Bool) → nat_le (16 + 3 * count) i ≡ c → ⊥
    by_test true e = absurd (grind (arith, nat_tests))
    by_test false e = middle (nat_le 3 i) refl (nat_le i 5) refl
      where
        middle : (a : Bool) → nat_le 3 i ≡ a → (b : Bool) → nat_le i 5 ≡ b → ⊥
        middle true ea true eb = absurd (grind (arith, nat_tests))
        middle true ea false eb =
            true≢false (sym is ∙ (ap (λ z. (z && nat_le i 5) || nat_le (16 + 3 * count) i) ea
            ∙ (ap (λ z. z || nat_le (16 + 3 * count) i) eb ∙ e)))
        middle false ea b eb =
            true≢false (sym is ∙ (ap (λ z. (z && nat_le i 5) || nat_le (16 + 3 * count) i) ea ∙ e))

-- ---- one record

module _ (l : Layout) (words : List ℕ) (views : List View) (s : Shared) (id : ℕ) (v : View)
    (b : Begins l words views s id v) (k : Key) (x : Spot) (at : ℕ) (is : IsTreeRecordAt v k x at)
    (words' : List ℕ) (q : Place) (c : Restored l words words' s.story k x at q) where
  abbrev m : Story
  m = s.story

  abbrev d : Table
  d = s.table

  abbrev f : Fenced
  f = leaves.fence l words views s id v b k x at is

  abbrev next : Story
  next = record m { places = placed m.places x q }

  abbrev over : Key → Number → Type 0
  over = IsOverwritten m

  there : x.slot < l.slots
  there = (leaves.here l words views s id v b k x at is).there

  index : x.index < 16
  index = (leaves.here l words views s id v b k x at is).index

  word : at ≡ page_at l.slots x.slot (17 + 3 * x.index)
  word = leaves.word_is l words views s id v b k x at is

  page_is : page_of d x.slot ≡ Leaf f.keys
  page_is = leaves.page_is l words views s id v b k x at is c.alive

  key_is : slice_get f.keys x.index ≡ Some k
  key_is = leaves.key_is l words views s id v b k x at is

  was : ShowsTree s.resident.places words l.slots x.slot f over (place_of m.places) d (Leaf f.keys)
  was =
      subst (ShowsTree s.resident.places words l.slots x.slot f over (place_of m.places) d) page_is
      (leaves.shows l words views s id v b k x at is)

  -- words of its page that aren't the record's
  aside : (i : ℕ) → i < 64 → i ≢ 17 + 3 * x.index → i ≢ 18 + 3 * x.index
      → get_or words' (page_at l.slots x.slot i) 0 ≡ get_or words (page_at l.slots x.slot i) 0
  aside i less one two =
      let place = word in
      c.others (page_at l.slots x.slot i) (λ e. one (omega arith)) (λ e. two (omega arith))

  -- words of other pages
  apart : (t i : ℕ) → i < 64 → t ≢ x.slot
      → get_or words' (page_at l.slots t i) 0 ≡ get_or words (page_at l.slots t i) 0
  apart t i less other =
      let place = word in
      let small = index in
      c.others (page_at l.slots t i) (λ e. other (omega arith)) (λ e. other (omega arith))

  -- words in front of all pages
  low : (j : ℕ) → j < 32 + l.slots → get_or words' j 0 ≡ get_or words j 0
  low j less = let place = word in c.others j (λ e. absurd (omega arith)) (λ e. absurd (omega arith))

  -- words of snapshot pages
  snaps : (n i : ℕ) → 0 < n → i < 64
      → get_or words' (snap_at l.slots n i) 0 ≡ get_or words (snap_at l.slots n i) 0
  snaps n i some less =
      let place = word in
      let small = index in
      let within = there in
      c.others (snap_at l.slots n i) (λ e. absurd (omega arith)) (λ e. absurd (omega arith))

  place_apart : (t i : ℕ) → t ≢ x.slot → place_of next.places (spot t i) ≡ place_of m.places (spot t i)
  place_apart t i other =
      place_of-placed_other m.places x q (spot t i) (λ e. other (sym (ap (λ (y : Spot). y.slot) e)))

  -- its record shows what stands there now
  keyed_here : (j : Key) → slice_get f.keys x.index ≡ Some j
      → ShowsKeyed words' (page_at l.slots x.slot (16 + 3 * x.index)) over j (place_of next.places (spot x.slot x.index))
  keyed_here j has =
      let same : k ≡ j = some_same k j key_is has in
      let place = word in
      let old = was.2.keys x.index j has in
      let one : page_at l.slots x.slot (16 + 3 * x.index) + 1 ≡ at = omega arith in
      let two : page_at l.slots x.slot (16 + 3 * x.index) + 2 ≡ at + 1 = omega arith in
      subst (ShowsKeyed words' (page_at l.slots x.slot (16 + 3 * x.index)) over j)
      (sym (place_of-placed_same m.places x q c.alive)) record {
        key = aside (16 + 3 * x.index) (let small = index in omega arith) (λ e. absurd (omega arith))
            (λ e. absurd (omega arith)) ∙ old.key;
        absent = c.absent;
        word = ap (λ i. get_or words' i 0) one ∙ c.word;
        bit = bit_of_tree l.decls m j q c.absent
            (subst (λ (y : Key). is_array l.decls y.storage ≡ false) same
            (leaves.no_array_is l words views s id v b k x at is))
            (subst (λ (y : Key). IsBitAt l.decls m y q c.absent) same c.bit);
        value = ap (λ i. get_or words' i 0) two ∙ c.value;
        small = c.small;
      }
    where
      some_same : (a z : Key) → slice_get f.keys x.index ≡ Some a → slice_get f.keys x.index ≡ Some z → a ≡ z
      some_same a z one two = let both : Some a ≡ Some z = sym one ∙ two in cc

  -- and the others what they did
  keyed_apart : (i : ℕ) (j : Key) → slice_get f.keys i ≡ Some j → i ≢ x.index
      → ShowsKeyed words' (page_at l.slots x.slot (16 + 3 * i)) over j (place_of next.places (spot x.slot i))
  keyed_apart i j has other =
      let old = was.2.keys i j has in
      let few : length f.keys ≤ 16 = was.2.few in
      let less : i < length f.keys = slice_get_within f.keys i j has in
      let one : page_at l.slots x.slot (16 + 3 * i) + 1 ≡ page_at l.slots x.slot (17 + 3 * i) = omega arith in
      let two : page_at l.slots x.slot (16 + 3 * i) + 2 ≡ page_at l.slots x.slot (18 + 3 * i) = omega arith in
      subst (ShowsKeyed words' (page_at l.slots x.slot (16 + 3 * i)) over j)
      (sym (place_of-placed_other m.places x q (spot x.slot i) (λ e. other (sym (ap (λ (y : Spot). y.index) e))))) record {
        key = aside (16 + 3 * i) (omega arith) (λ e. absurd (omega arith)) (λ e. absurd (omega arith)) ∙ old.key;
        absent = old.absent;
        word = ap (λ z. get_or words' z 0) one
            ∙ (aside (17 + 3 * i) (omega arith) (λ e. other (omega arith)) (λ e. absurd (omega arith))
            ∙ (ap (λ z. get_or words z 0) (sym one) ∙ old.word));
        bit = old.bit;
        value = ap (λ z. get_or words' z 0) two
            ∙ (aside (18 + 3 * i) (omega arith) (λ e. absurd (omega arith)) (λ e. other (omega arith))
            ∙ (ap (λ z. get_or words z 0) (sym two) ∙ old.value));
        small = old.small;
      }

  leaf_now : ShowsTree s.resident.places words' l.slots x.slot f over (place_of next.places) d (Leaf f.keys)
  leaf_now = (
    was.0,
    aside 0 (omega arith) (λ e. absurd (omega arith)) (λ e. absurd (omega arith)) ∙ was.1,
    record {
      low = aside 1 (omega arith) (λ e. absurd (omega arith)) (λ e. absurd (omega arith)) ∙ was.2.low;
      high = aside 2 (omega arith) (λ e. absurd (omega arith)) (λ e. absurd (omega arith)) ∙ was.2.high;
      few = was.2.few;
      once = was.2.once;
      inside = was.2.inside;
      keys = λ i j has.
          by_equal i x.index
          (λ z. slice_get f.keys z ≡ Some j
          → ShowsKeyed words' (page_at l.slots x.slot (16 + 3 * z)) over j (place_of next.places (spot x.slot z)))
          (λ here. keyed_here j here) (λ other here. keyed_apart i j here other) has;
    },
  )

  tree_now : (g : Fenced) → s.trees x.slot ≡ Some g
      → ShowsTree s.resident.places words' l.slots x.slot g over (place_of next.places) d (page_of d x.slot)
  tree_now g has =
      let both : Some f ≡ Some g = sym (leaves.tree_is l words views s id v b k x at is) ∙ has in
      let same : f ≡ g = cc in
      subst (λ (z : Fenced). ShowsTree s.resident.places words' l.slots x.slot z over (place_of next.places) d (page_of d x.slot))
      same
      (subst (ShowsTree s.resident.places words' l.slots x.slot f over (place_of next.places) d) (sym page_is) leaf_now)

  no_tree_there : (t : ℕ) → s.trees t ≡ None → t ≢ x.slot
  no_tree_there t none e = no_some f (sym (leaves.tree_is l words views s id v b k x at is) ∙ (ap s.trees (sym e) ∙ none))
    where
      no_some : (g : Fenced) → Some g ≡ None → ⊥
      no_some g e = absurd (cc)

  pub tree_shows : length l.decls ≤ 16 → ShowsWords l words' next d s.trees s.resident
  tree_shows decls =
      let h = b.sound.shown in record {
        long = c.long ∙ h.long;
        clock = low 0 (omega arith) ∙ h.clock;
        decisions = low 1 (omega arith) ∙ h.decisions;
        published = low 26 (omega arith) ∙ h.published;
        unused = λ j from to other. low j (omega arith) ∙ h.unused j from to other;
        roots = λ i few.
            let old = h.roots i few in record {
              number = old.number;
              word = low (root_at i) (omega arith) ∙ old.word;
              page = old.page;
              slot = old.slot;
              named = old.named;
              keepers = old.keepers;
            };
        slots = λ t few.
            let old = h.slots t few in record { word = low (slot_at t) (omega arith) ∙ old.word; times = old.times };
        pages = λ t few shown none.
            let other = no_tree_there t none in
            page_shown s.resident.places words words' l.slots t (place_of m.places) (place_of next.places) d d (page_of d t)
            (λ i less. apart t i less other) (λ i. place_apart t i other) (λ j. refl) (h.pages t few shown none);
        treed = λ t g few shown has.
            by_equal t x.slot
            (λ u. s.trees u ≡ Some g
            → ShowsTree s.resident.places words' l.slots u g over (place_of next.places) d (page_of d u))
            (λ here. tree_now g here)
            (λ other here.
            tree_shown s.resident.places words words' l.slots t g over over (place_of m.places) (place_of next.places) d d
            (page_of d t) (λ i less. apart t i less other) (λ i. place_apart t i other) (λ j n o. o) (λ j. refl) refl
            (h.treed t g few shown here)) has;
        resident = λ n i some most few. snaps n i some few ∙ h.resident n i some most few;
      }

  -- of the pages' words and the places those of its leaf alone have changed
  pub tree_leaf_kept : OneLeaf l words words' s next x.slot
  tree_leaf_kept = record {
    known = leaves.known l words views s id v b k x at is;
    others = apart;
    spare = λ o keys held leaf i less spare.
        let both : Leaf keys ≡ Leaf f.keys = sym leaf ∙ page_is in
        let same : keys ≡ f.keys = cc in
        let here : x.index < length keys = subst (λ (z : List Key). x.index < length z) (sym same)
        (slice_get_within f.keys x.index k key_is) in
        aside i less (λ e. spare_apart (length keys) i x.index 1 spare here (omega arith) (omega arith))
        (λ e. spare_apart (length keys) i x.index 2 spare here (omega arith) (omega arith));
    twins = λ split. absurd (no_split (page_of d x.slot) f.keys split page_is);
    snaps = snaps;
    places = place_apart;
  }
    where
      no_split : (page : Page) (keys : List Key) → page ≡ Split → page ≡ Leaf keys → ⊥
      no_split page keys split leaf = absurd (cc)
