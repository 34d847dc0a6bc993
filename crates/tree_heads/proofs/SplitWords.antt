-- The words after a split: the header says that the leaf moved, and its records are dead.
use Rattle.std.proofs.Common.{◌≡◌, ◌≢◌, inl, inr, ℕ, zero, suc, ◌+◌, ◌<◌, Bool, true, false, true≢false, cond, eqb, eq-eqb, ne_eqb, List, [], ◌∷◌, length, get_or, set}
use Rattle.std.proofs.Common.{refl, sym, ap, ◌∙◌, subst, arith, Some, None}
use Rattle.std.specs.Prelude.{◌&&◌, ◌||◌}
use Rattle.std.specs.List.{Contains, slice_get}
use Rattle.std.proofs.lemmas.Bool.{false_from_ne_true}
use Rattle.lists.specs.Elements.{in_cases, in_none}
use Rattle.serial_model.specs.declared.key.Key.{Key}
use Rattle.serial_model.specs.declared.number.Number.{Number}
use Rattle.homes.specs.declared.places.Holder.{Holder}
use Rattle.homes.specs.declared.places.Holder.TheVariants.{Free, Held, Dead}
use Rattle.homes.specs.declared.places.Home.{Home}
use Rattle.homes.specs.declared.places.Home.TheVariants.{InSlot}
use Rattle.homes.specs.declared.places.Move.{Move}
use Rattle.homes.specs.declared.places.Span.{Span}
use Rattle.homes.specs.declared.places.Spot.{Spot}
use Rattle.homes.specs.Homes.{has_key, holder_is, in_span, moves_to, same_at, same_key}
use Rattle.homes.specs.Laws.{same_at-self, same_key-self}
use Rattle.wire_form.specs.Leaves.{tree_leaf, record_start}
use Rattle.wire_form.specs.Words.{number_word}
use Rattle.commit_core.specs.declared.place.Place.{Place}
use Rattle.commit_core.specs.declared.story.Story.{Story}
use Rattle.commit_core.specs.Lemmas.Moves.{left-by, left-of, place-left, place-stays}
use Rattle.commit_core.specs.Moves.{is_left, moves_key, with_moves}
use Rattle.commit_core.specs.Places.{home_of, place, place_of, spot_at, spot_of, stands_at}
use Rattle.drop_core.specs.declared.event.Twins.{Twins}
use Rattle.drop_core.specs.declared.table.Led.{Led}
use Rattle.drop_core.specs.declared.table.Led.TheVariants.{From}
use Rattle.drop_core.specs.declared.table.Page.TheVariants.{Leaf, Split}
use Rattle.drop_core.specs.declared.table.Pointer.{Pointer}
use Rattle.drop_core.specs.declared.table.Slot.{Slot}
use Rattle.drop_core.specs.declared.table.Table.{Table}
use Rattle.drop_core.specs.Event.{lower_span, twin_home, twin_pointer, twinned, upper_span, with_slot}
use Rattle.drop_core.specs.Table.{at_index, header_of, is_led, page_of, pointer_of, slot_of}
use Rattle.engine_pages.specs.declared.layout.Layout.{Layout}
use Rattle.engine_pages.specs.declared.view.NewLeaf.{NewLeaf}
use Rattle.engine_pages.specs.declared.view.View.{View}
use Rattle.engine_pages.specs.Layout.{page_at}
use Rattle.engine_pages.specs.Pages.{Fenced}
use Rattle.engine_pages.specs.Rule.{Shared, is_spare}
use Rattle.engine_pages.specs.Views.{IsActive, seat_number}
use Rattle.engine_pages.specs.Words.{IsBit, IsOverwritten, ShowsKeyed, ShowsTwins, ShowsWords, head_word, lock_field, spot}
use Rattle.engine_pages.proofs.Joint.{Laws}
use Rattle.engine_pages.proofs.Seats.{by_equal}
use Rattle.engine_pages.proofs.SlotFacts.{slot_other, slot_same}
use Rattle.engine_pages.proofs.Turns.{Begins, Written, written}
use Rattle.dual_pointer.proofs.Keyed.{has_at, home_at}
use Rattle.tree_heads.specs.Splits.{CanSplit}
use Rattle.tree_heads.proofs.HeadSteps.{header_beside, records_beside}
use Rattle.tree_heads.proofs.LeafHomes.{absent_home, leaf_homes}
use Rattle.tree_heads.proofs.LeafSteps.{PageStep, page_step_words}
use Rattle.tree_heads.proofs.SplitAllows.{fence-is as fences_meet, goes, head as is_head, held_old, inside as in_leaf, leaf as is_leaf}
use Rattle.tree_heads.proofs.SplitAllows.{led as is_led_to, old_in, once as once_old, page as is_page}
use Rattle.tree_heads.proofs.SplitKeys.{either_so, index_of, or_so}
use Rattle.tree_heads.proofs.TreeAt.{AtHead, AtTree, SaysOf, SaysRecords, SaysRecordsOf}

-- ---- lists of moves

-- a move is of a key of the list
pub moved_in : (to : Key → Home) (keys : List Key) (u : Move) → Contains (moves_to to keys) u → has_key keys u.key ≡ true
moved_in to [] u has = absurd (in_none u has)
moved_in to (k ∷ keys) u has =
    elim (in_cases u (record { key = k; home = to k }) (moves_to to keys) has) [
      | inl new ↦
          ap (λ (z : Move). has_key (k ∷ keys) z.key) (sym new) ∙ ap (λ (c : Bool). c || has_key keys k) (same_key-self k)
      | inr more ↦ or_so (same_key k u.key) (has_key keys u.key) (moved_in to keys u more)
    ]

-- each key of the list is moved
moves_all : (to : Key → Home) (keys : List Key) (k : Key) → has_key keys k ≡ true → moves_key (moves_to to keys) k ≡ true
moves_all to [] k has = absurd (true≢false (sym has))
moves_all to (x ∷ keys) k has = elim (either_so (same_key x k) (has_key keys k) has) [
  | inl hit ↦ ap (λ (c : Bool). c || moves_key (moves_to to keys) k) hit
  | inr more ↦ or_so (same_key x k) (moves_key (moves_to to keys) k) (moves_all to keys k more)
]

-- there is a key at each index of a list
some_at : (keys : List Key) (i : ℕ) → i < length keys → (k : Key) × (slice_get keys i ≡ Some k)
some_at [] i less = absurd (omega (arith, less))
some_at (k ∷ keys) zero less = (k, refl)
some_at (k ∷ keys) (suc i) less = some_at keys i (omega (arith, less))

-- ---- slots

-- what a slot has beside what has led to it
same_field : {A : Type 0} (f : Slot → A) (d : Table) (a : ℕ) (x : Slot) (u : ℕ) → f x ≡ f (slot_of d a)
    → f (slot_of (with_slot d a x) u) ≡ f (slot_of d u)
same_field f d a x u same =
    by_equal u a (λ k. f (slot_of (with_slot d a x) k) ≡ f (slot_of d k)) (ap f (slot_same d a x) ∙ same)
    (λ other. ap f (slot_other d a u x other))

-- ---- the words

module _ (laws : Laws) (l : Layout) (words : List ℕ) (views : List View) (s : Shared) (id : ℕ) (v : View)
    (active : IsActive v.role) (b : Begins l words views s id v) (t : ℕ) (sp : Span) (lower upper : NewLeaf)
    (keys : List Key) (separator n : ℕ) (can : CanSplit v t sp lower upper keys separator n) where
  abbrev p : ℕ
  p = seat_number v.role

  abbrev m : Story
  m = s.story

  abbrev d : Table
  d = s.table

  abbrev old : List Key
  old = can.head.keys

  abbrev at : ℕ
  at = page_at l.slots t 0

  abbrev twins : Twins
  twins = record { slot = t; minor = lower.slot; major = upper.slot; separator = separator; keys = keys }

  abbrev to : Key → Home
  to = twin_home d sp twins

  abbrev mv : List Move
  mv = moves_to to keys

  -- the story, the table and the words after the split
  abbrev next : Story
  next = with_moves m mv

  abbrev e : Table
  e = twinned d sp twins

  abbrev words' : List ℕ
  words' = set words at n

  abbrev hd : AtHead l words s v can.head
  hd = is_head laws l words views s id v active b t sp lower upper keys separator n can

  abbrev pg : AtTree l words s v t sp
  pg = is_page laws l words views s id v active b t sp lower upper keys separator n can

  led : is_led (slot_of d t).led ≡ true
  led = is_led_to laws l words views s id v active b t sp lower upper keys separator n can

  leaf : page_of d t ≡ Leaf old
  leaf = is_leaf laws l words views s id v active b t sp lower upper keys separator n can

  fence-is : hd.is.fence ≡ pg.fence
  fence-is = fences_meet laws l words views s id v active b t sp lower upper keys separator n can

  keys-are : pg.fence.keys ≡ old
  keys-are = ap (λ (f : Fenced). f.keys) (sym fence-is) ∙ hd.is.keys

  in-fence : (k : Key) → in_span sp k ≡ true → in_span pg.fence.span k ≡ true
  in-fence k within = ap (λ (z : Span). in_span z k) pg.span ∙ within

  old_within : (k : Key) → has_key old k ≡ true → in_span sp k ≡ true
  old_within k has = in_leaf laws l words views s id v active b t sp lower upper keys separator n can k has

  -- ---- places

  old_home : (i : ℕ) (k : Key) → slice_get old i ≡ Some k → home_of m.homes k ≡ InSlot (spot t i)
  old_home i k is =
      leaf_homes l words views s id v b t pg.fence old pg.there led leaf k (in-fence k (old_within k (has_at old i k is)))
      ∙ (home_at t 0 old i k (once_old laws l words views s id v active b t sp lower upper keys separator n can) is
      ∙ ap (λ j. InSlot (spot t j)) (let same : 0 + i ≡ i = omega arith in same))

  -- a record of the leaf is dead, and has what stood there
  pub place_dead : (i : ℕ) (k : Key) → slice_get old i ≡ Some k
      → place_of next.places (spot t i) ≡ place (place_of m.places (spot t i)).content Dead
  place_dead i k is =
      let has = has_at old i k is in
      place-left mv m.homes m.places (spot t i)
      (left-by mv m.homes k (spot t i)
      (moves_all to keys k (old_in laws l words views s id v active b t sp lower upper keys separator n can k has))
      (ap spot_of (old_home i k is)))

  -- those of other pages stay
  pub place_other : (u j : ℕ) → u ≢ t → place_of next.places (spot u j) ≡ place_of m.places (spot u j)
  place_other u j other =
      place-stays mv m.homes m.places (spot u j) (false_from_ne_true (is_left mv m.homes (spot u j)) none)
    where
      none : is_left mv m.homes (spot u j) ≡ true → ⊥
      none left =
          let x = left-of mv m.homes (spot u j) left in
          let k = x.0.key in
          let a = goes laws l words views s id v active b t sp lower upper keys separator n can k (moved_in to keys x.0 x.1) in
          by_old k a.within x.2 (has_key old k) refl
        where
          by_old : (k : Key) → in_span sp k ≡ true → spot_at m.homes k ≡ Some (spot u j) → (c : Bool) → has_key old k ≡ c → ⊥
          by_old k within at-spot true has =
              let here = index_of old k has in
              let both : Some (spot t here.index) ≡ Some (spot u j) = sym (ap spot_of (old_home here.index k here.at)) ∙ at-spot in
              let spots : spot t here.index ≡ spot u j = cc in
              other (sym (ap (λ (z : Spot). z.slot) spots))
          by_old k within at-spot false new =
              let nowhere = absent_home l words views s id v b t pg.fence old pg.there led leaf k (in-fence k within) new in
              let no : None ≡ Some (spot u j) = sym (ap spot_of nowhere) ∙ at-spot in absurd (cc)

  -- ---- the page

  within : at < length words
  within = let long = b.sound.shown.long in let few = pg.within in omega arith

  wr : Written words words' at n
  wr = written words at n within

  held_lock : (i : ℕ) (k : Key) → slice_get old i ≡ Some k → lock_field (place_of m.places (spot t i)).holder ≡ lock_field Dead
  held_lock i k is =
      by_holder (place_of m.places (spot t i)).holder
      (ap (λ (h : Home). holder_is p (stands_at m.places h).holder) (sym (old_home i k is))
      ∙ held_old laws l words views s id v active b t sp lower upper keys separator n can k (has_at old i k is))
    where
      by_holder : (h : Holder) → holder_is p h ≡ true → lock_field h ≡ lock_field Dead
      by_holder Free own = absurd (true≢false (sym own))
      by_holder (Held q) own = refl
      by_holder Dead own = refl

  beside-is : SaysRecords l words' s t pg.fence
  beside-is =
      records_beside l words words' s t 0 pg.fence (omega arith) (header_beside (length pg.fence.keys)) wr.others
      (subst (λ u. SaysRecords l words s u pg.fence) can.slot
      (subst (SaysRecords l words s can.head.slot) fence-is hd.records))

  dead_bit : (over : Number → Type 0) (q : Place) (bit : ℕ) → IsBit over q bit → IsBit over (place q.content Dead) bit
  dead_bit over q bit (inl is) = inl is
  dead_bit over q bit (inr was) =
      inr record { one = was.one; held = λ free. dead_not free; some = was.some; later = was.later }
    where
      dead_not : Dead ≡ Free → ⊥
      dead_not same = absurd (cc)

  records : SaysRecordsOf l words' next t pg.fence
  records = record {
    low = beside-is.low;
    high = beside-is.high;
    few = beside-is.few;
    once = beside-is.once;
    inside = beside-is.inside;
    keys = λ i k is.
        let was = beside-is.keys i k is in
        let here : slice_get old i ≡ Some k = ap (λ (z : List Key). slice_get z i) (sym keys-are) ∙ is in
        let c = (place_of m.places (spot t i)).content in
        subst (ShowsKeyed words' (page_at l.slots t (record_start tree_leaf i)) (IsOverwritten next) k)
        (sym (place_dead i k here)) record {
          key = was.key;
          absent = was.absent;
          word = was.word ∙ ap (λ z. (number_word c.number + z) + was.absent) (held_lock i k here);
          bit = dead_bit (IsOverwritten m k) (place_of m.places (spot t i)) was.absent was.bit;
          value = was.value;
          small = was.small;
        };
  }

  -- ---- the halves

  abbrev d1 : Table
  d1 = record d { pointers = (at_index t 1, twin_pointer (upper_span sp separator) upper.slot) ∷ d.pointers }

  pub pointer_first : pointer_of e (at_index t 0) ≡ twin_pointer (lower_span sp separator) lower.slot
  pointer_first =
      ap (λ (c : Bool). cond c (twin_pointer (lower_span sp separator) lower.slot) (pointer_of d1 (at_index t 0)))
      (same_at-self (at_index t 0))

  pub pointer_second : pointer_of e (at_index t 1) ≡ twin_pointer (upper_span sp separator) upper.slot
  pointer_second =
      let miss : same_at (at_index t 0) (at_index t 1) ≡ false = ap (λ (c : Bool). c && false) (eq-eqb t t refl) in
      ap (λ (c : Bool). cond c (twin_pointer (lower_span sp separator) lower.slot) (pointer_of d1 (at_index t 1))) miss
      ∙ ap (λ (c : Bool). cond c (twin_pointer (upper_span sp separator) upper.slot) (pointer_of d (at_index t 1)))
      (same_at-self (at_index t 1))

  pub pointer_other : (u j : ℕ) → u ≢ t → pointer_of e (at_index u j) ≡ pointer_of d (at_index u j)
  pointer_other u j other =
      let apart : eqb t u ≡ false = ne_eqb t u (λ z. other (sym z)) in
      ap (λ (c : Bool). cond (c && eqb 0 j) (twin_pointer (lower_span sp separator) lower.slot) (pointer_of d1 (at_index u j)))
      apart
      ∙ ap (λ (c : Bool). cond (c && eqb 1 j) (twin_pointer (upper_span sp separator) upper.slot) (pointer_of d (at_index u j)))
      apart

  pub head_word_at : (i : ℕ) → 0 < i → i < 64 → is_spare (length old) i ≡ true
      → get_or words' (page_at l.slots t i) 0 ≡ get_or can.head.words i 0
  head_word_at i some less spare =
      wr.others (page_at l.slots t i) (λ q. absurd (omega arith))
      ∙ (ap (λ u. get_or words (page_at l.slots u i) 0) (sym can.slot) ∙ hd.is.is i less spare)

  separator-is : get_or words' (page_at l.slots t 5) 0 ≡ separator
  separator-is = head_word_at 5 (omega arith) (omega arith) refl ∙ can.separates

  shows-twins : ShowsTwins words' l.slots t pg.fence.span e
  shows-twins = record {
    first = lower.slot;
    second = upper.slot;
    minor = head_word_at 3 (omega arith) (omega arith) refl ∙ can.to_minor;
    major = head_word_at 4 (omega arith) (omega arith) refl ∙ can.to_major;
    leads_first = ap (λ (q : Pointer). q.slot) pointer_first;
    leads_second = ap (λ (q : Pointer). q.slot) pointer_second;
    lower = ap (λ (q : Pointer). q.span) pointer_first
        ∙ (ap (λ z. lower_span sp z) (sym separator-is)
        ∙ ap (λ (z : Span). lower_span z (get_or words' (page_at l.slots t 5) 0)) (sym pg.span));
    upper = ap (λ (q : Pointer). q.span) pointer_second
        ∙ (ap (λ z. upper_span sp z) (sym separator-is)
        ∙ ap (λ (z : Span). upper_span z (get_or words' (page_at l.slots t 5) 0)) (sym pg.span));
  }

  -- ---- the table

  pub header_now : header_of e t ≡ Free
  header_now = ap (λ (c : Bool). cond c Free (header_of d t)) (eq-eqb t t refl)

  pub page_now : page_of e t ≡ Split
  page_now = ap (λ (c : Bool). cond c Split (page_of d t)) (eq-eqb t t refl)

  abbrev led_first : Slot
  led_first = record (slot_of d lower.slot) { led = From (at_index t 0) }

  abbrev led_second : Slot
  led_second = record (slot_of d upper.slot) { led = From (at_index t 1) }

  -- a slot's passes, state and times stay
  pub slot_field_stays : {A : Type 0} (f : Slot → A) → ((x : Slot) (g : Led) → f (record x { led = g }) ≡ f x) → (u : ℕ)
      → f (slot_of e u) ≡ f (slot_of d u)
  slot_field_stays f each u =
      same_field f (with_slot d upper.slot led_second) lower.slot led_first u
      (each (slot_of d lower.slot) (From (at_index t 0))
      ∙ sym (same_field f d upper.slot led_second lower.slot (each (slot_of d upper.slot) (From (at_index t 1)))))
      ∙ same_field f d upper.slot led_second u (each (slot_of d upper.slot) (From (at_index t 1)))

  pub split_page : PageStep l words words' s next e s.trees t 0
  split_page = record {
    few = pg.within;
    index = omega arith;
    long = wr.long;
    others = wr.others;
    story = record { history = refl; decided = refl; given_up = refl; first_draw = refl; epoch = refl };
    roots = λ r. refl;
    passes = λ u. slot_field_stays (λ (z : Slot). z.passes) (λ x g. refl) u;
    state = λ u. slot_field_stays (λ (z : Slot). z.state) (λ x g. refl) u;
    times = λ u. slot_field_stays (λ (z : Slot). z.times) (λ x g. refl) u;
    pages = λ u other. ap (λ (c : Bool). cond c Split (page_of d u)) (ne_eqb t u (λ z. other (sym z)));
    headers = λ u other. ap (λ (c : Bool). cond c Free (header_of d u)) (ne_eqb t u (λ z. other (sym z)));
    pointers = pointer_other;
    places = place_other;
    treed = λ u other. refl;
    fence = pg.fence;
    there = pg.there;
    here = λ _.
        subst (SaysOf l words' s.resident.places next e t pg.fence) (sym page_now) (
          wr.here
              ∙ (can.word
              ∙ (ap (λ c. head_word c 1 0 true) (sym (ap (λ (q : List Key). length q) keys-are ∙ can.full))
              ∙ ap (λ (h : Holder). head_word (length pg.fence.keys) 1 (lock_field h) true) (sym header_now))),
          shows-twins,
          records,
          λ i less.
              let k = some_at pg.fence.keys i less in
              ap (λ (q : Place). q.holder) (place_dead i k.0 (ap (λ (z : List Key). slice_get z i) (sym keys-are) ∙ k.1)),
        );
  }

  -- the words show the split leaf, and all else as it was
  pub split_words : ShowsWords l words' next e s.trees s.resident
  split_words = page_step_words l words words' s next e s.trees t 0 split_page b.sound.few.1 b.sound.shown
