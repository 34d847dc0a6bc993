-- Words that a step changes, and words that it leaves.
use Rattle.std.proofs.Common.{◌≡◌, ◌≢◌, inl, inr, ℕ, zero, suc, ◌+◌, ◌-◌, ◌*◌, ◌<◌, ◌≤◌, Bool, true, false, List, length, get_or, refl, sym, ap, ◌∙◌, subst, arith, Option, ltb}
use Rattle.std.proofs.lemmas.Option.{slice_get_within}
use Rattle.std.specs.Prelude.{if◌then◌else◌}
use Rattle.homes.specs.declared.places.At.TheVariants.{Root}
use Rattle.homes.specs.declared.places.Spot.{Spot}
use Rattle.homes.specs.declared.places.Span.{Span}
use Rattle.commit_core.specs.declared.place.Place.{Place}
use Rattle.commit_core.specs.declared.story.Story.{Story}
use Rattle.commit_core.specs.Places.{place_of}
use Rattle.drop_core.specs.declared.table.Page.{Page}
use Rattle.drop_core.specs.declared.table.Page.TheVariants.{Blank, Leaf, Inner, Split}
use Rattle.drop_core.specs.declared.table.Pointer.{Pointer}
use Rattle.drop_core.specs.declared.table.Slot.{Slot}
use Rattle.drop_core.specs.declared.table.Table.{Table}
use Rattle.drop_core.specs.Table.{slot_of, page_of, pointer_of, header_of, at_index}
use Rattle.engine_pages.specs.declared.layout.Layout.{Layout}
use Rattle.engine_pages.specs.Layout.{root_at, slot_at, page_at, snap_at}
use Rattle.engine_pages.proofs.Seats.{by_equal}
use Rattle.engine_pages.specs.Resident.{Published}
use Rattle.engine_pages.specs.Words.{ShowsRecord, ShowsPointer, ShowsSlot, ShowsPage, ShowsWords, is_shown, ShowsKeyed}
use Rattle.engine_pages.specs.Words.{IsBit, IsOverwritten, ShowsRecords, ShowsTree, head_word, lock_field, child_high}
use Rattle.engine_pages.specs.Words.{tree_child, spot}
use Rattle.serial_model.specs.declared.decl.Decl.{Decl}
use Rattle.serial_model.specs.declared.key.Key.{Key}
use Rattle.serial_model.specs.declared.number.Number.{Number}
use Rattle.snapshot_store.specs.declared.place.PagePlace.{PagePlace}
use Rattle.engine_pages.specs.Pages.{Fenced}
use Rattle.drop_core.specs.Event.{lower_span, upper_span}

-- the words of a slot's page stay
abbrev pub PageStays : List ℕ → List ℕ → ℕ → ℕ → Type 0
PageStays words words' slots t =
    (i : ℕ) → i < 64 → get_or words' (page_at slots t i) 0 ≡ get_or words (page_at slots t i) 0

pub page_shown : (names : List (Decl × PagePlace)) (words words' : List ℕ) (slots t : ℕ) (places places' : Spot → Place) (d e : Table) (page : Page)
    → PageStays words words' slots t → ((i : ℕ) → places' (spot t i) ≡ places (spot t i))
    → ((j : ℕ) → pointer_of e (at_index t j) ≡ pointer_of d (at_index t j))
    → ShowsPage names words slots t places d page
    → ShowsPage names words' slots t places' e page
page_shown names words words' slots t places places' d e Blank stays same pointers h = tt
page_shown names words words' slots t places places' d e (Leaf keys) stays same pointers h = (
  h.0,
  (λ i less.
      let was = h.1 i less in
      let few : length keys ≤ 32 = h.0 in
      subst (ShowsRecord words' (page_at slots t (2 * i))) (sym (same i)) record {
        word = stays (2 * i) (omega arith) ∙ was.word;
        value =
            let next : page_at slots t (2 * i) + 1 ≡ page_at slots t (2 * i + 1) = omega arith in
            ap (λ k. get_or words' k 0) next ∙ (stays (2 * i + 1) (omega arith) ∙ (ap (λ k. get_or words k 0) (sym next) ∙ was.value));
        never = was.never;
        small = was.small;
      }),
)
page_shown names words words' slots t places places' d e (Inner n) stays same pointers h = (
  h.0,
  (λ j less.
      let was = h.1 j less in
      let few : n ≤ 64 = h.0 in
      subst (ShowsPointer names words' (page_at slots t j)) (sym (pointers j))
      record { number = was.number; word = stays j (omega arith) ∙ was.word; page = was.page; slot = was.slot; named = was.named; keepers = was.keepers }),
)
page_shown names words words' slots t places places' d e Split stays same pointers h = tt

-- a bit of absence is explained so still, as more attempts count
pub bit_grows : (over over' : Number → Type 0) (q : Place) (bit : ℕ) → ((n : Number) → over n → over' n)
    → IsBit over q bit → IsBit over' q bit
bit_grows over over' q bit grows (inl now) = inl now
bit_grows over over' q bit grows (inr old) =
    inr record { one = old.one; held = old.held; some = old.some; later = grows q.content.number old.later }

records_shown : (words words' : List ℕ) (slots t : ℕ) (f : Fenced) (over over' : Key → Number → Type 0)
    (places places' : Spot → Place) → PageStays words words' slots t
    → ((i : ℕ) → places' (spot t i) ≡ places (spot t i)) → ((k : Key) (n : Number) → over k n → over' k n)
    → ShowsRecords words slots t f over places → ShowsRecords words' slots t f over' places'
records_shown words words' slots t f over over' places places' stays same grows h = record {
  low = stays 1 (omega arith) ∙ h.low;
  high = stays 2 (omega arith) ∙ h.high;
  few = h.few;
  once = h.once;
  inside = h.inside;
  keys = λ i k is.
      let was = h.keys i k is in
      let less : i < length f.keys = slice_get_within f.keys i k is in
      let few : length f.keys ≤ 16 = h.few in
      let one : page_at slots t (16 + 3 * i) + 1 ≡ page_at slots t (17 + 3 * i) = omega arith in
      let two : page_at slots t (16 + 3 * i) + 2 ≡ page_at slots t (18 + 3 * i) = omega arith in
      subst (ShowsKeyed words' (page_at slots t (16 + 3 * i)) over' k) (sym (same i)) record {
        key = stays (16 + 3 * i) (omega arith) ∙ was.key;
        word = ap (λ j. get_or words' j 0) one ∙ (stays (17 + 3 * i) (omega arith) ∙ (ap (λ j. get_or words j 0) (sym one) ∙ was.word));
        value = ap (λ j. get_or words' j 0) two ∙ (stays (18 + 3 * i) (omega arith) ∙ (ap (λ j. get_or words j 0) (sym two) ∙ was.value));
        absent = was.absent;
        bit = bit_grows (over k) (over' k) (places (spot t i)) was.absent (grows k) was.bit;
        small = was.small;
      };
}

pub tree_shown : (names : List (Decl × PagePlace)) (words words' : List ℕ) (slots t : ℕ) (f : Fenced)
    (over over' : Key → Number → Type 0) (places places' : Spot → Place) (d e : Table) (page : Page)
    → PageStays words words' slots t → ((i : ℕ) → places' (spot t i) ≡ places (spot t i))
    → ((k : Key) (n : Number) → over k n → over' k n)
    → ((j : ℕ) → pointer_of e (at_index t j) ≡ pointer_of d (at_index t j)) → header_of e t ≡ header_of d t
    → ShowsTree names words slots t f over places d page
    → ShowsTree names words' slots t f over' places' e page
tree_shown names words words' slots t f over over' places places' d e Blank stays same grows pointers header h = h
tree_shown names words words' slots t f over over' places places' d e (Leaf keys) stays same grows pointers header h = (
  h.0,
  stays 0 (omega arith) ∙ (h.1 ∙ ap (λ x. head_word (length f.keys) 1 (lock_field x) false) (sym header)),
  records_shown words words' slots t f over over' places places' stays same grows h.2,
)
tree_shown names words words' slots t f over over' places places' d e (Inner n) stays same grows pointers header h = (
  h.0,
  stays 0 (omega arith) ∙ h.1,
  h.2,
  h.3,
  stays 1 (omega arith) ∙ h.4,
  stays 2 (omega arith) ∙ h.5,
  (λ j less.
      let was = h.6 j less in
      let few : n ≤ 30 = h.3 in (
        subst (ShowsPointer names words' (page_at slots t (4 + j))) (sym (pointers j))
            record { number = was.0.number; word = stays (4 + j) (omega arith) ∙ was.0.word; page = was.0.page; slot = was.0.slot; named = was.0.named; keepers = was.0.keepers },
        ap (λ (q : Pointer). q.span) (pointers j) ∙ (was.1
            ∙ child_same j (λ i low. sym (stays i low)) few less),
      )),
  header ∙ h.7,
)
  where
    child_same : (j : ℕ) → ((i : ℕ) → i < 64 → get_or words (page_at slots t i) 0 ≡ get_or words' (page_at slots t i) 0) → n ≤ 30
        → j < n → tree_child words slots t f.span n j ≡ tree_child words' slots t f.span n j
    child_same zero stays few less =
        ap (λ x. let sp : Span = record { storage = f.span.storage; low = f.span.low; high = if ltb 1 n then x - 1 else f.span.high } in sp)
        (stays 34 (omega arith))
    child_same (suc j) stays few less =
        ap (λ x. let sp : Span = record { storage = f.span.storage; low = x; high = child_high words slots t f.span n (suc j) } in sp)
        (stays (34 + j) (omega arith))
        ∙ last (ltb (suc j + 1) n) refl
      where
        last : (c : Bool) → ltb (suc j + 1) n ≡ c
            → (let sp : Span = record { storage = f.span.storage; low = get_or words' (page_at slots t (34 + j)) 0; high = child_high words slots t f.span n (suc j) } in sp)
            ≡ tree_child words' slots t f.span n (suc j)
        last true is =
            ap (λ x. let sp : Span = record { storage = f.span.storage; low = get_or words' (page_at slots t (34 + j)) 0; high = if ltb (suc j + 1) n then x - 1 else f.span.high } in sp)
            (stays (34 + suc j) (omega arith))
        last false is =
            ap (λ c. let sp : Span = record { storage = f.span.storage; low = get_or words' (page_at slots t (34 + j)) 0; high = if c then get_or words (page_at slots t (34 + suc j)) 0 - 1 else f.span.high } in sp) is
            ∙ ap (λ c. let sp : Span = record { storage = f.span.storage; low = get_or words' (page_at slots t (34 + j)) 0; high = if c then get_or words' (page_at slots t (34 + suc j)) 0 - 1 else f.span.high } in sp) (sym is)
tree_shown names words words' slots t f over over' places places' d e Split stays same grows pointers header h = (
  stays 0 (omega arith) ∙ (h.0 ∙ ap (λ x. head_word (length f.keys) 1 (lock_field x) true) (sym header)),
  record {
    first = h.1.first;
    second = h.1.second;
    minor = stays 3 (omega arith) ∙ h.1.minor;
    major = stays 4 (omega arith) ∙ h.1.major;
    leads_first = ap (λ (q : Pointer). q.slot) (pointers 0) ∙ h.1.leads_first;
    leads_second = ap (λ (q : Pointer). q.slot) (pointers 1) ∙ h.1.leads_second;
    lower = ap (λ (q : Pointer). q.span) (pointers 0) ∙ (h.1.lower ∙ ap (lower_span f.span) (sym (stays 5 (omega arith))));
    upper = ap (λ (q : Pointer). q.span) (pointers 1) ∙ (h.1.upper ∙ ap (upper_span f.span) (sym (stays 5 (omega arith))));
  },
  records_shown words words' slots t f over over' places places' stays same grows h.2,
  (λ i less. ap (λ (q : Place). q.holder) (same i) ∙ h.3 i less),
)

-- a step on a slot's word: the table has the same pages and pointers, and other slots
pub record SlotShown (l : Layout) (words words' : List ℕ) (d e : Table) (t : ℕ) : Type 0 where
  pub few : t < l.slots
  pub long : length words' ≡ length words
  pub others : (j : ℕ) → j ≢ slot_at t → get_or words' j 0 ≡ get_or words j 0
  pub this : ShowsSlot words' (slot_at t) (slot_of e t)
  pub slots : (u : ℕ) → u ≢ t → slot_of e u ≡ slot_of d u
  pub shown : is_shown (slot_of e t).state ≡ true → is_shown (slot_of d t).state ≡ true
  pub headers : (u : ℕ) → is_shown (slot_of e u).state ≡ true → header_of e u ≡ header_of d u

pub slot_shown : (l : Layout) (words words' : List ℕ) (m : Story) (d : Table) (e : Table) (k : ℕ → Option Fenced)
    (r : Published) (t : ℕ) → length l.decls ≤ 16
    → ((u : ℕ) → page_of e u ≡ page_of d u) → ((u j : ℕ) → pointer_of e (at_index u j) ≡ pointer_of d (at_index u j))
    → ((i : ℕ) → pointer_of e (Root i) ≡ pointer_of d (Root i)) → SlotShown l words words' d e t
    → ShowsWords l words m d k r → ShowsWords l words' m e k r
slot_shown l words words' m d e k r t decls pages pointers roots c h = record {
  long = c.long ∙ h.long;
  clock = c.others 0 (λ e. omega arith) ∙ h.clock;
  decisions = c.others 1 (λ e. omega arith) ∙ h.decisions;
  published = c.others 26 (λ e. omega arith) ∙ h.published;
  unused = λ at from to other. c.others at (λ e. omega arith) ∙ h.unused at from to other;
  roots = λ k few.
      let was = h.roots k few in
      subst (ShowsPointer r.places words' (root_at k)) (sym (roots k)) record {
        number = was.number;
        word = c.others (root_at k) (λ e. omega arith) ∙ was.word;
        page = was.page;
        slot = was.slot;
        named = was.named;
        keepers = was.keepers;
      };
  slots = λ u few. by_equal u t (λ k. k ≡ u → ShowsSlot words' (slot_at k) (slot_of e k))
      (λ _. c.this)
      (λ other _.
      let was = h.slots u few in
      subst (ShowsSlot words' (slot_at u)) (sym (c.slots u other))
      record { word = c.others (slot_at u) (λ e. other (omega arith)) ∙ was.word; times = was.times }) refl;
  pages = λ u few shown none.
      subst (ShowsPage r.places words' l.slots u (place_of m.places) e) (sym (pages u))
      (page_shown r.places words words' l.slots u (place_of m.places) (place_of m.places) d e (page_of d u)
      (λ i less. c.others (page_at l.slots u i) (λ e. let low = c.few in omega arith)) (λ i. refl) (pointers u)
      (h.pages u few (was_shown u shown) none));
  treed = λ u f few shown tree.
      subst (ShowsTree r.places words' l.slots u f (IsOverwritten m) (place_of m.places) e) (sym (pages u))
      (tree_shown r.places words words' l.slots u f (IsOverwritten m) (IsOverwritten m) (place_of m.places) (place_of m.places) d e (page_of d u)
      (λ i less. c.others (page_at l.slots u i) (λ e. let low = c.few in omega arith)) (λ i. refl) (λ k n over. over) (pointers u)
      (c.headers u shown) (h.treed u f few (was_shown u shown) tree));
  resident = λ n i some most few.
      c.others (snap_at l.slots n i) (λ e. let low = c.few in omega arith) ∙ h.resident n i some most few;
}
  where
    was_shown : (u : ℕ) → is_shown (slot_of e u).state ≡ true → is_shown (slot_of d u).state ≡ true
    was_shown u shown =
        by_equal u t (λ k. is_shown (slot_of e k).state ≡ true → is_shown (slot_of d k).state ≡ true) c.shown
        (λ other now. ap (λ (x : Slot). is_shown x.state) (sym (c.slots u other)) ∙ now) shown
