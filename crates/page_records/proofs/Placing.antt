-- One place changes: what the words show of it, and what views know of places.
use Rattle.std.proofs.Common.{◌≡◌, ◌≢◌, ◌⊎◌, inl, inr, ℕ, ◌+◌, ◌*◌, ◌<◌, ◌≤◌, true, true≢false, not, List, []}
use Rattle.std.proofs.Common.{length, get_or, refl, sym, ap, ◌∙◌, subst, arith, Option, Some, None}
use Rattle.std.specs.Prelude.{unwrap_or}
use Rattle.std.specs.List.{Contains}
use Rattle.std.proofs.lemmas.Bool.{cases_Bool}
use Rattle.lists.specs.Elements.{in_filter, filter_only, in_none}
use Rattle.serial_model.specs.declared.decl.Decl.{Decl}
use Rattle.serial_model.specs.declared.key.Key.{Key}
use Rattle.serial_model.specs.declared.number.Number.{Number}
use Rattle.homes.specs.declared.places.Holder.{Holder}
use Rattle.homes.specs.declared.places.Holder.TheVariants.{Held, Dead}
use Rattle.homes.specs.declared.places.Spot.{Spot}
use Rattle.homes.specs.Homes.{same_spot}
use Rattle.homes.specs.Laws.{same_spot-self, same_spot-true}
use Rattle.wire_form.specs.Words.{number_word}
use Rattle.commit_core.specs.declared.part.Part.{Part}
use Rattle.commit_core.specs.declared.place.Place.{Place}
use Rattle.commit_core.specs.declared.story.Story.{Story}
use Rattle.commit_core.specs.Keys.{same_key, opening_number, IsUpTo}
use Rattle.commit_core.specs.Parts.{record_part}
use Rattle.commit_core.specs.Places.{place_of, placed, holder_is}
use Rattle.commit_core.specs.Lemmas.Keys.{same_key-self}
use Rattle.commit_core.specs.Lemmas.Places.{place_of-placed_same, place_of-placed_other}
use Rattle.commit_core.specs.Lemmas.Shows.{up_then_up}
use Rattle.drop_core.specs.declared.table.Page.{Page}
use Rattle.drop_core.specs.declared.table.Page.TheVariants.{Leaf, Split}
use Rattle.drop_core.specs.declared.table.Table.{Table}
use Rattle.drop_core.specs.Table.{slot_of, page_of, header_of}
use Rattle.engine_pages.specs.declared.layout.Layout.{Layout}
use Rattle.engine_pages.specs.declared.view.Took.{Took}
use Rattle.engine_pages.specs.Layout.{root_at, slot_at, page_at, snap_at}
use Rattle.engine_pages.specs.Pages.{is_array, Fenced}
use Rattle.engine_pages.specs.Resident.{Published}
use Rattle.engine_pages.specs.Rule.{Shared, KeptIsLow, IsBitAt, IsHeld}
use Rattle.engine_pages.specs.Stays.{IsKnown}
use Rattle.engine_pages.specs.Words.{IsOverwritten, IsSmall, ShowsRecord, ShowsPage, ShowsWords, is_shown, lock_field, spot}
use Rattle.engine_pages.proofs.Seats.{by_equal}
use Rattle.engine_pages.proofs.Words.{page_shown, tree_shown}
use Rattle.page_records.specs.Locks.{not_at}
use Rattle.page_records.proofs.Commits.{OneLeaf}
use Rattle.engine_pages.proofs.Leaves.{IsWordOf}

-- a spot is this one, or another
pub spot_cases : (x y : Spot) → (x ≡ y) ⊎ (x ≡ y → ⊥)
spot_cases x y =
    elim (cases_Bool (same_spot x y)) [
      | inl hit ↦ inl (same_spot-true x y hit)
      | inr miss ↦ inr (λ e. true≢false (sym (subst (λ (z : Spot). same_spot x z ≡ true) e (same_spot-self x)) ∙ miss))
    ]

-- A word of a key's record is stored: its two words show what stands at its place then, and the others are as they were.
pub record Restored (l : Layout) (words words' : List ℕ) (m : Story) (k : Key) (x : Spot) (at : ℕ) (q : Place) : Type 0 where
  pub alive : (place_of m.places x).holder ≡ Dead → ⊥
  pub long : length words' ≡ length words
  pub others : (j : ℕ) → j ≢ at → j ≢ at + 1 → get_or words' j 0 ≡ get_or words j 0
  pub absent : ℕ
  pub word : get_or words' at 0 ≡ (number_word q.content.number + lock_field q.holder) + absent
  pub bit : IsBitAt l.decls m k q absent
  pub value : get_or words' (at + 1) 0 ≡ unwrap_or q.content.value 0
  pub never : is_array l.decls k.storage ≡ true → q.content.value ≡ None → q.content.number ≡ opening_number
  pub small : IsSmall q.content.number

-- the place x of an array has q, and its two words show it; the other words are as they were
pub record Replaced (l : Layout) (words words' : List ℕ) (m : Story) (x : Spot) (at : ℕ) (q : Place) : Type 0 where
  pub word : IsWordOf l.slots x at
  pub alive : (place_of m.places x).holder ≡ Dead → ⊥
  pub long : length words' ≡ length words
  pub others : (j : ℕ) → j ≢ at → j ≢ at + 1 → get_or words' j 0 ≡ get_or words j 0
  pub shows : ShowsRecord words' at q

-- the other records of its leaf are as they were
leaf_replaced : (l : Layout) (words words' : List ℕ) (m : Story) (d : Table) (r : Published) (x : Spot) (at : ℕ) (q : Place)
    (keys : List Key) → Replaced l words words' m x at q
    → ShowsPage r.places words l.slots x.slot (place_of m.places) d (Leaf keys)
    → ShowsPage r.places words' l.slots x.slot (place_of (placed m.places x q)) d (Leaf keys)
leaf_replaced l words words' m d r x at q keys c h = (
  h.0,
  (λ i less. by_equal i x.index
      (λ k. k ≡ i → ShowsRecord words' (page_at l.slots x.slot (2 * k)) (place_of (placed m.places x q) (spot x.slot k)))
      (λ _.
      subst (λ k. ShowsRecord words' k (place_of (placed m.places x q) (spot x.slot x.index))) c.word.word
      (subst (ShowsRecord words' at) (sym (place_of-placed_same m.places x q c.alive)) c.shows))
      (λ other _.
      let was = h.1 i less in
      let few : length keys ≤ 32 = h.0 in
      let word = c.word.word in
      subst (ShowsRecord words' (page_at l.slots x.slot (2 * i)))
      (sym (place_of-placed_other m.places x q (spot x.slot i) (λ e. other (sym (ap (λ (y : Spot). y.index) e))))) record {
        word = c.others (page_at l.slots x.slot (2 * i)) (λ e. other (omega arith)) (λ e. absurd (omega arith)) ∙ was.word;
        value = c.others (page_at l.slots x.slot (2 * i) + 1) (λ e. absurd (omega arith)) (λ e. other (omega arith))
            ∙ was.value;
        never = was.never;
        small = was.small;
      }) refl),
)

pub replaced_shows : (l : Layout) (words words' : List ℕ) (m : Story) (d : Table) (k : ℕ → Option Fenced) (r : Published)
    (x : Spot) (at : ℕ) (q : Place) (keys : List Key) → length l.decls ≤ 16 → page_of d x.slot ≡ Leaf keys
    → k x.slot ≡ None → ShowsWords l words m d k r → Replaced l words words' m x at q
    → ShowsWords l words' (record m { places = placed m.places x q }) d k r
replaced_shows l words words' m d k r x at q keys decls leaf tree h c =
    let slot = c.word.slot in
    let within = c.word.within in
    let word = c.word.word in
    let low : (j : ℕ) → j < 32 + l.slots → get_or words' j 0 ≡ get_or words j 0 = λ j less.
    c.others j (λ e. absurd (omega arith)) (λ e. absurd (omega arith)) in record {
      long = c.long ∙ h.long;
      clock = low 0 (omega arith) ∙ h.clock;
      decisions = low 1 (omega arith) ∙ h.decisions;
      published = low 26 (omega arith) ∙ h.published;
      unused = λ j from to other. low j (omega arith) ∙ h.unused j from to other;
      roots = λ i few.
          let was = h.roots i few in record {
            number = was.number;
            word = low (root_at i) (omega arith) ∙ was.word;
            page = was.page;
            slot = was.slot;
            named = was.named;
            keepers = was.keepers;
          };
      slots = λ t few.
          let was = h.slots t few in record { word = low (slot_at t) (omega arith) ∙ was.word; times = was.times };
      pages = λ t few shown none. by_equal t x.slot
          (λ u. u ≡ t → ShowsPage r.places words' l.slots u (place_of (placed m.places x q)) d (page_of d u))
          (λ is.
          subst (ShowsPage r.places words' l.slots x.slot (place_of (placed m.places x q)) d) (sym leaf)
          (leaf_replaced l words words' m d r x at q keys c
          (subst (ShowsPage r.places words l.slots x.slot (place_of m.places) d) leaf
          (h.pages x.slot slot (subst (λ u. is_shown (slot_of d u).state ≡ true) (sym is) shown) tree))))
          (λ other _.
          page_shown r.places words words' l.slots t (place_of m.places) (place_of (placed m.places x q)) d d (page_of d t)
          (λ i less. c.others (page_at l.slots t i) (λ e. other (omega arith)) (λ e. other (omega arith)))
          (λ i. place_of-placed_other m.places x q (spot t i) (λ e. other (sym (ap (λ (y : Spot). y.slot) e))))
          (λ j. refl) (h.pages t few shown none)) refl;
      treed = λ t f few shown is.
          let other : t ≢ x.slot = λ e. not_tree f (sym is ∙ (ap k e ∙ tree)) in
          tree_shown r.places words words' l.slots t f (IsOverwritten m) (IsOverwritten m) (place_of m.places)
          (place_of (placed m.places x q)) d d (page_of d t)
          (λ i less. c.others (page_at l.slots t i) (λ e. other (omega arith)) (λ e. other (omega arith)))
          (λ i. place_of-placed_other m.places x q (spot t i) (λ e. other (sym (ap (λ (y : Spot). y.slot) e))))
          (λ j n over. over) (λ j. refl) refl (h.treed t f few shown is);
      resident = λ n i some most few.
          c.others (snap_at l.slots n i) (λ e. absurd (omega arith)) (λ e. absurd (omega arith))
          ∙ h.resident n i some most few;
    }
  where
    not_tree : (f : Fenced) → Some f ≡ None → ⊥
    not_tree f e = absurd (cc)

not_dead : (h : Holder) (q : ℕ) → h ≡ Held q → h ≡ Dead → ⊥
not_dead h q held dead = absurd (cc)

not_split : (page : Page) (keys : List Key) → page ≡ Split → page ≡ Leaf keys → ⊥
not_split page keys split leaf = absurd (cc)

-- of the pages' words and the places those of its leaf alone have changed
pub replaced_leaf : (l : Layout) (words words' : List ℕ) (s : Shared) (x : Spot) (at : ℕ) (q : Place) (keys : List Key)
    → IsKnown s.table x.slot → header_of s.table x.slot ≡ Dead → page_of s.table x.slot ≡ Leaf keys
    → Replaced l words words' s.story x at q
    → OneLeaf l words words' s (record s.story { places = placed s.story.places x q }) x.slot
replaced_leaf l words words' s x at q keys known header leaf c =
    let slot = c.word.slot in
    let within = c.word.within in
    let word = c.word.word in record {
      known = known;
      others = λ t i less other. c.others (page_at l.slots t i) (λ e. other (omega arith)) (λ e. other (omega arith));
      spare = λ o ks held page. absurd (not_dead (header_of s.table x.slot) o held header);
      twins = λ split. absurd (not_split (page_of s.table x.slot) keys split leaf);
      snaps = λ k i some less.
          c.others (snap_at l.slots k i) (λ e. absurd (omega arith)) (λ e. absurd (omega arith));
      places = λ t i other.
          place_of-placed_other s.story.places x q (spot t i) (λ e. other (sym (ap (λ (y : Spot). y.slot) e)));
    }

-- ---- what views know of places

-- what was kept is still low where the number of the place doesn't fall
pub low_replaced : (places : List (Spot × Place)) (x : Spot) (q : Place) (kept : List Part)
    → ((place_of places x).holder ≡ Dead → ⊥) → IsUpTo (place_of places x).content.number q.content.number
    → KeptIsLow places kept → KeptIsLow (placed places x q) kept
low_replaced places x q kept alive rise low k y c has =
    elim (spot_cases x y) [
      | inl same ↦
          let now : place_of (placed places x q) y ≡ q =
          ap (place_of (placed places x q)) (sym same) ∙ place_of-placed_same places x q alive in
          subst (λ (z : Place). IsUpTo c.number z.content.number) (sym now)
          (up_then_up c.number (place_of places x).content.number q.content.number
          (subst (λ z. IsUpTo c.number (place_of places z).content.number) (sym same) (low k y c has)) rise)
      | inr other ↦
          subst (λ (z : Place). IsUpTo c.number z.content.number) (sym (place_of-placed_other places x q y other))
          (low k y c has)
    ]

pub low_none : (places : List (Spot × Place)) → KeptIsLow places []
low_none places k x c has = absurd (in_none (record_part k x c) has)

-- a record that the seat holds stays so, where another place changes
pub held_other : (decls : List Decl) (m : Story) (p : ℕ) (x y : Spot) (q : Place) (t : Took) → (x ≡ y → ⊥)
    → IsHeld decls m p t y → IsHeld decls (record m { places = placed m.places x q }) p t y
held_other decls m p x y q t other h =
    let same = place_of-placed_other m.places x q y other in record {
      spot = h.spot;
      home = h.home;
      own = subst (λ (z : Place). holder_is p z.holder ≡ true) (sym same) h.own;
      absent = h.absent;
      number = ap (λ (z : Place). number_word z.content.number + h.absent) same ∙ h.number;
      bit = subst (λ (z : Place). IsBitAt decls m t.key z h.absent) (sym same) h.bit;
    }

-- and where its own place changes, but for its holder, its number and what its word may say of an absence
pub held_same : (decls : List Decl) (m : Story) (p : ℕ) (x y : Spot) (q : Place) (t : Took)
    → ((place_of m.places x).holder ≡ Dead → ⊥) → q.holder ≡ (place_of m.places x).holder
    → q.content.number ≡ (place_of m.places x).content.number
    → ((absent : ℕ) → x ≡ y → IsBitAt decls m t.key (place_of m.places x) absent → IsBitAt decls m t.key q absent)
    → IsHeld decls m p t y → IsHeld decls (record m { places = placed m.places x q }) p t y
held_same decls m p x y q t alive holder number bit h =
    elim (spot_cases x y) [
      | inl same ↦
          let now : place_of (placed m.places x q) y ≡ q =
          ap (place_of (placed m.places x q)) (sym same) ∙ place_of-placed_same m.places x q alive in
          let was : place_of m.places x ≡ place_of m.places y = ap (place_of m.places) same in record {
            spot = h.spot;
            home = h.home;
            own = subst (λ (z : Place). holder_is p z.holder ≡ true) (sym now)
                (subst (λ (z : Holder). holder_is p z ≡ true) (sym (holder ∙ ap (λ (z : Place). z.holder) was)) h.own);
            absent = h.absent;
            number = ap (λ (z : Place). number_word z.content.number + h.absent) now
                ∙ (ap (λ (z : Number). number_word z + h.absent) (number ∙ ap (λ (z : Place). z.content.number) was)
                ∙ h.number);
            bit = subst (λ (z : Place). IsBitAt decls m t.key z h.absent) (sym now)
                (bit h.absent same (subst (λ (z : Place). IsBitAt decls m t.key z h.absent) (sym was) h.bit));
          }
      | inr other ↦ held_other decls m p x y q t other h
    ]

-- what was taken at other keys
pub not_at_other : (k : Key) (took : List Took) (t : Took) → Contains (not_at k took) t
    → Contains took t × (t.key ≡ k → ⊥)
not_at_other k took t has = (
  in_filter (λ (y : Took). not (same_key y.key k)) t took has,
  (λ e.
      true≢false (sym (filter_only (λ (y : Took). not (same_key y.key k)) t took has)
      ∙ ap not (ap (λ (z : Key). same_key z k) e ∙ same_key-self k))),
)
