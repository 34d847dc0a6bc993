-- What becomes of a pointer and of the pages that it leads to no more: the table and the words after the step.
use Rattle.std.proofs.Common.{◌≡◌, ◌≢◌, ◌⊎◌, inl, inr, ℕ, ◌+◌, ◌*◌, ◌<◌, ◌≤◌, ◌^◌, true, false, true≢false, List}
use Rattle.std.proofs.Common.{length, get_or, set, refl, sym, ap, ◌∙◌, subst, arith, Option, Some, None}
use Rattle.std.specs.Prelude.{unwrap_or}
use Rattle.std.proofs.lemmas.Bool.{and_from, and_parts, cases_Bool}
use Rattle.std.proofs.lemmas.Option.{slice_get_within}
use Rattle.serial_model.specs.declared.decl.Decl.{Decl}
use Rattle.serial_model.specs.declared.decl.Decl.TheVariants.{Array, Tree}
use Rattle.serial_model.specs.declared.key.Key.{Key}
use Rattle.serial_model.specs.declared.number.Number.{Number}
use Rattle.homes.specs.declared.places.At.{At}
use Rattle.homes.specs.declared.places.At.TheVariants.{Root, In}
use Rattle.homes.specs.declared.places.Content.{Content}
use Rattle.homes.specs.declared.places.Holder.TheVariants.{Free, Held, Dead}
use Rattle.homes.specs.declared.places.Home.{Home}
use Rattle.homes.specs.declared.places.Span.{Span}
use Rattle.homes.specs.declared.places.Spot.{Spot}
use Rattle.wire_form.specs.Leaves.{tree_leaf}
use Rattle.wire_form.specs.Words.{absent_field, at_bit, number_word, slot_field}
use Rattle.commit_core.specs.declared.place.Place.{Place}
use Rattle.commit_core.specs.declared.story.Story.{Story}
use Rattle.commit_core.specs.Keys.{opening_number}
use Rattle.commit_core.specs.Places.{place_of}
use Rattle.drop_core.specs.declared.table.Page.{Page}
use Rattle.drop_core.specs.declared.table.Page.TheVariants.{Blank, Leaf, Inner, Split}
use Rattle.drop_core.specs.declared.table.Pointer.{Pointer}
use Rattle.drop_core.specs.declared.table.Slot.{Slot}
use Rattle.drop_core.specs.declared.table.SlotState.{SlotState}
use Rattle.drop_core.specs.declared.table.Table.{Table}
use Rattle.drop_core.specs.Event.{is_in, lower_span, upper_span}
use Rattle.drop_core.specs.Sound.{span_at}
use Rattle.drop_core.specs.Table.{slot_of, page_of, pointer_of, header_of, has_slot, at_index, has_pointer, is_never}
use Rattle.drop_core.specs.Table.{is_led, is_live}
use Rattle.engine_pages.specs.declared.layout.Layout.{Layout}
use Rattle.engine_pages.specs.declared.view.View.{View}
use Rattle.engine_pages.specs.Layout.{root_at, slot_at, page_at, snap_at}
use Rattle.engine_pages.specs.Pages.{keys_from, is_array, is_leaf_span, decl_of, Fenced, IsLaidOut, AreLaidOut}
use Rattle.engine_pages.specs.Pointers.{IsPointerAt}
use Rattle.engine_pages.specs.Resident.{ArePages}
use Rattle.engine_pages.specs.Rule.{Shared}
use Rattle.engine_pages.specs.Stays.{IsKnown}
use Rattle.engine_pages.specs.Views.{IsActive, seat_number}
use Rattle.engine_pages.specs.Words.{IsSmall, ShowsWords, ShowsPointer, ShowsPage, ShowsRecord, ShowsTree, is_shown}
use Rattle.engine_pages.specs.Words.{head_word, IsBit, ShowsKeyed, IsOverwritten, state_number, lock_field, spot}
use Rattle.engine_pages.specs.Words.{ShowsRecords, ShowsTwins}
use Rattle.engine_pages.proofs.Joint.{Laws}
use Rattle.engine_pages.proofs.PagesStay.{leaf_shape}
use Rattle.engine_pages.proofs.PointerLaws.{PointerIs, pointer_is}
use Rattle.engine_pages.proofs.Turns.{Begins, written}
use Rattle.engine_pages.proofs.Words.{tree_shown}
use Rattle.dual_pointer.proofs.Stands.{at_cases, words_before, stand, IsAmong, apart, IsInPage, StandsAt, array_over}
use Rattle.dual_pointer.proofs.Stands.{before_none, before_some, stands_at_place, among, IsOfPage, of_page}
use Rattle.dual_pointer.proofs.Stands.{tree_pointed}

-- a slot from which what led to it is taken away
pub record IsGone (s : Shared) (e : Table) (u : ℕ) : Type 0 where
  pub known : IsKnown s.table u
  pub state : (slot_of e u).state ≡ (slot_of s.table u).state
  pub passes : (slot_of e u).passes ≡ (slot_of s.table u).passes
  pub times : (slot_of e u).times ≡ (slot_of s.table u).times
  pub never : is_never (slot_of e u).led ≡ false
  pub unled : is_led (slot_of e u).led ≡ false

-- the same in what its word says
record SameSlot (x y : Slot) : Type 0 where
  state : y.state ≡ x.state
  passes : y.passes ≡ x.passes
  times : y.times ≡ x.times

-- the layout of a page that stays, over the same keys, where a dead header stays dead
pub laid_on : (o : Option Decl) (k : ℕ → Option Fenced) (d e : Table) (u : ℕ) (sp : Span) → page_of e u ≡ page_of d u
    → (header_of d u ≡ Dead → header_of e u ≡ header_of d u) → ((j : ℕ) → span_at e (at_index u j) ≡ span_at d (at_index u j))
    → IsLaidOut o k d u sp → IsLaidOut o k e u sp
laid_on None k d e u sp page dead spans over = over
laid_on (Some (Array id size)) k d e u sp page dead spans over = (
  over.0,
  record {
    page = page ∙ over.1.page;
    spans = λ j has. spans j ∙ over.1.spans j has;
    header = dead over.1.header ∙ over.1.header;
  },
)
laid_on (Some (Tree id)) k d e u sp page dead spans over = over

module _ (laws : Laws) (l : Layout) (words : List ℕ) (views : List View) (s : Shared) (id : ℕ) (v : View)
    (active : IsActive v.role) (b : Begins l words views s id v) (x : At) (sp : Span) (at value : ℕ)
    (here : IsPointerAt v x sp at) (places : List (Spot × Place)) (homes : List (Key × Home)) (horizon : Number)
    (e : Table) (r : Pointer) (gone : List ℕ) where
  abbrev pub m : Story
  m = s.story

  abbrev pub d : Table
  d = s.table

  abbrev pub p : ℕ
  p = seat_number v.role

  abbrev pub n : Story
  n = record m { places = places; homes = homes; horizon = horizon }

  abbrev pub words' : List ℕ
  words' = set words at value

  -- What becomes of the table: the pointer is another one, over the same keys, which leads to no slot that it didn't lead
  -- to; these slots are gone, with the pointers in them, which were locked; and records there are locked as they were.
  pub record Repointed : Type 0 where
    pub pages : (u : ℕ) → page_of e u ≡ page_of d u
    pub headers : (u : ℕ) → has_slot gone u ≡ false → header_of e u ≡ header_of d u
    pub closed : (u : ℕ) → lock_field (header_of e u) ≡ lock_field (header_of d u)
    pub buried : (u : ℕ) → header_of d u ≡ Dead → header_of e u ≡ header_of d u
    pub room : e.room ≡ d.room
    pub named : ArePages l.decls s.resident e
    pub there : pointer_of e x ≡ r
    pub span : r.span ≡ span_at d x
    pub shown : (ws : List ℕ) → get_or ws at 0 ≡ value → ShowsPointer s.resident.places ws at r
    pub leads : (u : ℕ) → r.slot ≡ Some u → (pointer_of d x).slot ≡ Some u
    pub keeps : (u : ℕ) → has_slot gone u ≡ false → slot_of e u ≡ slot_of d u
    pub away : (u : ℕ) → has_slot gone u ≡ true → IsGone s e u
    pub same : (y : At) → (x ≡ y → ⊥) → is_in gone y ≡ false → pointer_of e y ≡ pointer_of d y
    pub dead : (y : At) → (x ≡ y → ⊥) → is_in gone y ≡ true → pointer_of e y ≡ record (pointer_of d y) { holder = Dead }
    pub shut : (u j k : ℕ) → has_slot gone u ≡ true → page_of d u ≡ Inner k → j < k
        → lock_field (pointer_of d (at_index u j)).holder ≡ at_bit 60 1
    pub kept-places : (y : Spot) → has_slot gone y.slot ≡ false → place_of places y ≡ place_of m.places y
    pub contents : (y : Spot) → (place_of places y).content ≡ (place_of m.places y).content
    pub locked : (y : Spot) → lock_field (place_of places y).holder ≡ lock_field (place_of m.places y).holder
    pub freed : (y : Spot) → (place_of places y).holder ≡ Free → (place_of m.places y).holder ≡ Free
    pub still-dead : (y : Spot) → (place_of m.places y).holder ≡ Dead → (place_of places y).holder ≡ Dead

  place : StandsAt l s at x
  place = stands_at_place l words views s id v x sp at b here

  pub pointer-facts : PointerIs l words s v x sp at
  pointer-facts = pointer_is l words views s id v x sp at b here

  pub inner : (y : Spot) → x ≡ In y → IsInPage l s y at
  inner y is-in = subst (StandsAt l s at) is-in place

  pub elsewhere : (u j : ℕ) → is_never (slot_of d u).led ≡ true → x ≡ at_index u j → ⊥
  elsewhere u j unled same = true≢false (sym unled ∙ (inner (record { slot = u; index = j }) same).known)

  at-is : (at ≡ stand l s.trees x) × IsAmong l s.trees x
  at-is = among l s at x place

  pub within : at < length words
  within = by_at x at-is.0 at-is.1 b.sound.shown.long
    where
      by_at : (z : At) → at ≡ stand l s.trees z → IsAmong l s.trees z → length words ≡ (32 + 65 * l.slots) + 64 * l.resident → at < length words
      by_at (Root r) e few long = omega arith
      by_at (In y) e few long = omega (arith, few.0, few.1)

  pub others : (j : ℕ) → j ≢ at → get_or words' j 0 ≡ get_or words j 0
  others j other = (written words at value within).others j other

  pub this-word : get_or words' at 0 ≡ value
  this-word = (written words at value within).here

  -- ---- no other kind of word stands there

  pub not_low : (j : ℕ) → j < 10 → j ≢ at
  not_low j few = by_at x at-is.0 at-is.1
    where
      by_at : (z : At) → at ≡ stand l s.trees z → IsAmong l s.trees z → j ≢ at
      by_at (Root r) e less same = absurd (omega arith)
      by_at (In y) e less same = absurd (omega arith)

  not_slot : (j : ℕ) → 26 ≤ j → j < 32 + l.slots → j ≢ at
  not_slot j from few = by_at x at-is.0 at-is.1
    where
      by_at : (z : At) → at ≡ stand l s.trees z → IsAmong l s.trees z → j ≢ at
      by_at (Root r) e less same = absurd (omega arith)
      by_at (In y) e less same = absurd (omega arith)

  pub not_snap : (j : ℕ) → 32 + 65 * l.slots ≤ j → j ≢ at
  not_snap j from = by_at x at-is.0 at-is.1
    where
      by_at : (z : At) → at ≡ stand l s.trees z → IsAmong l s.trees z → j ≢ at
      by_at (Root r) e less same = absurd (omega arith)
      by_at (In y) e less same = absurd (omega (arith, less.0, less.1))

  -- a page in which the pointer isn't has not its word
  not_page : (u i : ℕ) → i < 64 → ((y : Spot) → x ≡ In y → IsInPage l s y at → u ≡ y.slot → ⊥) → page_at l.slots u i ≢ at
  not_page u i less other same = by_at x at-is.0 at-is.1 refl
    where
      by_at : (z : At) → at ≡ stand l s.trees z → IsAmong l s.trees z → x ≡ z → ⊥
      by_at (Root r) e some is-z = absurd (omega arith)
      by_at (In y) e some is-z = other y is-z (inner y is-z) (omega (arith, some.1))

  pub not_unled : (u i : ℕ) → i < 64 → is_never (slot_of d u).led ≡ true → page_at l.slots u i ≢ at
  not_unled u i less unled =
      not_page u i less (λ y is-in in-page same. true≢false (sym unled ∙ ap (λ k. is_never (slot_of d k).led) same ∙ in-page.known))

  pub not_leaf : (u i : ℕ) (ks : List Key) → i < 64 → page_of d u ≡ Leaf ks → page_at l.slots u i ≢ at
  not_leaf u i ks less is =
      not_page u i less (λ y is-in in-page same.
      let no : Leaf ks ≡ Inner in-page.count = sym is ∙ (ap (page_of d) same ∙ in-page.page) in absurd (cc))

  pub not_split : (u i : ℕ) → i < 64 → page_of d u ≡ Split → page_at l.slots u i ≢ at
  not_split u i less is =
      not_page u i less (λ y is-in in-page same.
      let no : Split ≡ Inner in-page.count = sym is ∙ (ap (page_of d) same ∙ in-page.page) in absurd (cc))

  pub not_record : (u i : ℕ) (span : Span) → i < 64 → is_array l.decls span.storage ≡ true → is_leaf_span span ≡ true
      → IsLaidOut (decl_of l.decls span.storage) s.trees d u span → page_at l.slots u i ≢ at
  not_record u i span less kind leaf over =
      let array = array_over (decl_of l.decls span.storage) s.trees d u span kind over in
      not_leaf u i (keys_from span.storage span.low 32) less (array.1.page ∙ leaf_shape span leaf)

  -- ---- the table after it

  module _ (c : Repointed) where
    pub spans : (y : At) → span_at e y ≡ span_at d y
    spans y = elim (at_cases x y) [
      | inl same ↦
          ap (λ z. span_at e z) (sym same)
          ∙ (ap (λ (z : Pointer). z.span) c.there ∙ (c.span ∙ ap (λ z. span_at d z) same))
      | inr other ↦ elim (cases_Bool (is_in gone y)) [
        | inl lost ↦ ap (λ (z : Pointer). z.span) (c.dead y other.0 lost)
        | inr left ↦ ap (λ (z : Pointer). z.span) (c.same y other.0 left)
      ]
    ]

    slot_same : (u : ℕ) → SameSlot (slot_of d u) (slot_of e u)
    slot_same u = elim (cases_Bool (has_slot gone u)) [
      | inl lost ↦ let z = c.away u lost in record { state = z.state; passes = z.passes; times = z.times }
      | inr left ↦
          let same = c.keeps u left in record {
            state = ap (λ (z : Slot). z.state) same;
            passes = ap (λ (z : Slot). z.passes) same;
            times = ap (λ (z : Slot). z.times) same;
          }
    ]

    pub states : (u : ℕ) → (slot_of e u).state ≡ (slot_of d u).state
    states u = (slot_same u).state

    pub known_still : (u : ℕ) → IsKnown d u → IsKnown e u
    known_still u known = elim (cases_Bool (has_slot gone u)) [
      | inl lost ↦ (c.away u lost).never
      | inr left ↦ ap (λ (z : Slot). is_never z.led) (c.keeps u left) ∙ known
    ]

    -- one to which nothing has led is none of those that are gone
    pub made_left : (u : ℕ) → is_never (slot_of d u).led ≡ true → has_slot gone u ≡ false
    made_left u never = elim (cases_Bool (has_slot gone u)) [
      | inl lost ↦ absurd (true≢false (sym never ∙ (c.away u lost).known))
      | inr left ↦ left
    ]

    pub laid_out : AreLaidOut l.decls s.trees e
    laid_out y u now-live leads =
        let leads-was = leads_was y u leads in
        subst (λ (z : Span). IsLaidOut (decl_of l.decls z.storage) s.trees e u z) (sym (spans y))
        (laid_on (decl_of l.decls (span_at d y).storage) s.trees d e u (span_at d y) (c.pages u) (c.buried u)
        (λ j. spans (at_index u j)) (b.sound.laid_out y u (was_live y now-live) leads-was))
      where
        leads_was : (y : At) (u : ℕ) → (pointer_of e y).slot ≡ Some u → (pointer_of d y).slot ≡ Some u
        leads_was y u leads = elim (at_cases x y) [
          | inl same ↦
              ap (λ z. (pointer_of d z).slot) (sym same)
              ∙ c.leads u (ap (λ (z : Pointer). z.slot) (sym c.there) ∙ (ap (λ z. (pointer_of e z).slot) same ∙ leads))
          | inr other ↦ elim (cases_Bool (is_in gone y)) [
            | inl lost ↦ ap (λ (z : Pointer). z.slot) (sym (c.dead y other.0 lost)) ∙ leads
            | inr left ↦ ap (λ (z : Pointer). z.slot) (sym (c.same y other.0 left)) ∙ leads
          ]
        ]

        was_live : (y : At) → is_live e y ≡ true → is_live d y ≡ true
        was_live (Root i) now = refl
        was_live (In y) now =
            let both = and_parts (is_led (slot_of e y.slot).led) (has_pointer (page_of e y.slot) y.index) now in
            elim (cases_Bool (has_slot gone y.slot)) [
              | inl lost ↦ absurd (true≢false (sym both.0 ∙ (c.away y.slot lost).unled))
              | inr left ↦
                  and_from (is_led (slot_of d y.slot).led) (has_pointer (page_of d y.slot) y.index)
                  (ap (λ (z : Slot). is_led z.led) (sym (c.keeps y.slot left)) ∙ both.0)
                  (ap (λ (z : Page). has_pointer z y.index) (sym (c.pages y.slot)) ∙ both.1)
            ]

    -- ---- words

    -- the word of another pointer
    pointer_shows : (z : At) (j : ℕ) → stand l s.trees z ≡ j → IsAmong l s.trees z
        → (is_in gone z ≡ true → lock_field (pointer_of d z).holder ≡ at_bit 60 1)
        → ShowsPointer s.resident.places words j (pointer_of d z)
        → ShowsPointer s.resident.places words' j (pointer_of e z)
    pointer_shows z j stood few lock was = elim (at_cases x z) [
      | inl same ↦
          let at-z : j ≡ at = sym stood ∙ (ap (stand l s.trees) (sym same) ∙ sym at-is.0) in
          subst (λ k. ShowsPointer s.resident.places words' k (pointer_of e z)) (sym at-z)
          (subst (λ y. ShowsPointer s.resident.places words' at (pointer_of e y)) same
          (subst (ShowsPointer s.resident.places words' at) (sym c.there) (c.shown words' this-word)))
      | inr other ↦
          let word = others j (λ e. apart l s.trees x z at-is.1 few other.0 (stood ∙ (e ∙ at-is.0))) ∙ was.word in
          elim (cases_Bool (is_in gone z)) [
            | inl lost ↦
                subst (ShowsPointer s.resident.places words' j) (sym (c.dead z other.0 lost)) record {
                  number = was.number;
                  word = word ∙ ap (λ k. (at_bit 0 was.number + at_bit 32 (slot_field (pointer_of d z).slot)) + k) (lock lost);
                  page = was.page;
                  slot = was.slot;
                  named = was.named;
                  keepers = λ q held. let no : Dead ≡ Held q = held in absurd (cc);
                }
            | inr left ↦
                subst (ShowsPointer s.resident.places words' j) (sym (c.same z other.0 left)) record {
                  number = was.number;
                  word = word;
                  page = was.page;
                  slot = was.slot;
                  named = was.named;
                  keepers = was.keepers;
                }
          ]
    ]

    -- a record of another page
    record_shows : (y : Spot) (at' : ℕ) → get_or words' at' 0 ≡ get_or words at' 0
        → get_or words' (at' + 1) 0 ≡ get_or words (at' + 1) 0 → ShowsRecord words at' (place_of m.places y)
        → ShowsRecord words' at' (place_of places y)
    record_shows y at' one two was =
        let same = sym (c.contents y) in record {
          word = one ∙ (was.word
              ∙ (ap (λ (z : Content). number_word z.number + lock_field (place_of m.places y).holder) same
              ∙ ap (λ k. number_word (place_of places y).content.number + k) (sym (c.locked y))));
          value = two ∙ (was.value ∙ ap (λ (z : Content). unwrap_or z.value 0) same);
          never = subst (λ (z : Content). z.value ≡ None → z.number ≡ opening_number) same was.never;
          small = subst (λ (z : Content). IsSmall z.number) same was.small;
        }

    -- the words of another page
    page_shows : (u : ℕ) (page : Page) → u < l.slots → s.trees u ≡ None → page_of d u ≡ page
        → ShowsPage s.resident.places words l.slots u (place_of m.places) d page
        → ShowsPage s.resident.places words' l.slots u (place_of places) e page
    page_shows u Blank few tree is-page h = tt
    page_shows u (Leaf ks) few tree is-page h = (
      h.0,
      (λ i less.
          let most : length ks ≤ 32 = h.0 in
          let next : page_at l.slots u (2 * i) + 1 ≡ page_at l.slots u (2 * i + 1) = omega arith in
          record_shows (spot u i) (page_at l.slots u (2 * i))
          (others (page_at l.slots u (2 * i)) (not_leaf u (2 * i) ks (omega arith) is-page))
          (ap (λ k. get_or words' k 0) next
          ∙ (others (page_at l.slots u (2 * i + 1)) (not_leaf u (2 * i + 1) ks (omega arith) is-page)
          ∙ ap (λ k. get_or words k 0) (sym next)))
          (h.1 i less)),
    )
    page_shows u (Inner k) few tree is-page h = (
      h.0,
      (λ j less.
          let most : k ≤ 64 = h.0 in
          let none : words_before (s.trees u) ≡ 0 = before_none s.trees u tree in
          pointer_shows (at_index u j) (page_at l.slots u j) (omega (arith, none)) (few, omega (arith, none))
          (λ lost. c.shut u j k lost is-page less) (h.1 j less)),
    )
    page_shows u Split few tree is-page h = tt

    -- ---- a tree's page that is gone

    -- none of the words of a tree's page but pointers' is the pointer's
    no_pointer_word : (u : ℕ) (f : Fenced) → s.trees u ≡ Some f → (i : ℕ) → (i < 4) ⊎ (34 ≤ i) → i < 64
        → page_at l.slots u i ≢ at
    no_pointer_word u f tree i outside less same =
        not_page u i less (λ y is-in in-page slot.
        let there : s.trees y.slot ≡ Some f = ap s.trees (sym slot) ∙ tree in
        let before : words_before (s.trees y.slot) ≡ 4 = before_some s.trees y.slot f there in
        let index = in-page.fan f there in
        let word = in-page.word in
        elim outside [ inl low ↦ omega arith | inr high ↦ omega arith ]) same

    -- a record in it is locked as it was
    keyed_shows : (y : Spot) (at' : ℕ) (k : Key) → get_or words' at' 0 ≡ get_or words at' 0
        → get_or words' (at' + 1) 0 ≡ get_or words (at' + 1) 0 → get_or words' (at' + 2) 0 ≡ get_or words (at' + 2) 0
        → ShowsKeyed words at' (IsOverwritten m) k (place_of m.places y)
        → ShowsKeyed words' at' (IsOverwritten n) k (place_of places y)
    keyed_shows y at' k one two three was =
        let same = sym (c.contents y) in record {
          key = one ∙ was.key;
          absent = was.absent;
          word = two ∙ (was.word
              ∙ (ap (λ (z : Content). (number_word z.number + lock_field (place_of m.places y).holder) + was.absent) same
              ∙ ap (λ i. (number_word (place_of places y).content.number + i) + was.absent) (sym (c.locked y))));
          bit = bit_shows was.bit;
          value = three ∙ (was.value ∙ ap (λ (z : Content). unwrap_or z.value 0) same);
          small = subst (λ (z : Content). IsSmall z.number) same was.small;
        }
      where
        bit_shows : IsBit (IsOverwritten m k) (place_of m.places y) was.absent → IsBit (IsOverwritten n k) (place_of places y) was.absent
        bit_shows (inl is) = inl (is ∙ ap (λ (z : Content). absent_field tree_leaf z.value) (sym (c.contents y)))
        bit_shows (inr old) = inr record {
          one = old.one;
          held = λ free. old.held (c.freed y free);
          some = λ none. old.some (sym (c.contents y) ∙ none);
          later = subst (λ (z : Content). IsOverwritten m k z.number) (sym (c.contents y)) old.later;
        }

    -- the records of one
    records_show : (u : ℕ) (f : Fenced)
        → ((i : ℕ) → i < 64 → get_or words' (page_at l.slots u i) 0 ≡ get_or words (page_at l.slots u i) 0)
        → ShowsRecords words l.slots u f (IsOverwritten m) (place_of m.places)
        → ShowsRecords words' l.slots u f (IsOverwritten n) (place_of places)
    records_show u f stays h = record {
      low = stays 1 (omega arith) ∙ h.low;
      high = stays 2 (omega arith) ∙ h.high;
      few = h.few;
      once = h.once;
      inside = h.inside;
      keys = λ i k has.
          let one = row_words u i (slice_get_within f.keys i k has) h.few in
          keyed_shows (spot u i) (page_at l.slots u (16 + 3 * i)) k (stays (16 + 3 * i) one.0)
          (ap (λ j. get_or words' j 0) one.3 ∙ (stays (17 + 3 * i) one.1 ∙ ap (λ j. get_or words j 0) (sym one.3)))
          (ap (λ j. get_or words' j 0) one.4 ∙ (stays (18 + 3 * i) one.2 ∙ ap (λ j. get_or words j 0) (sym one.4)))
          (h.keys i k has);
    }
      where
        row_words : (u i : ℕ) → i < length f.keys → length f.keys ≤ 16
            → (16 + 3 * i < 64) × (17 + 3 * i < 64) × (18 + 3 * i < 64)
            × (page_at l.slots u (16 + 3 * i) + 1 ≡ page_at l.slots u (17 + 3 * i))
            × (page_at l.slots u (16 + 3 * i) + 2 ≡ page_at l.slots u (18 + 3 * i))
        row_words u i less few = (omega arith, omega arith, omega arith, omega arith, omega arith)

    -- the pointer isn't one of a leaf that was split
    no_twin : (u j : ℕ) → page_of d u ≡ Split → x ≡ at_index u j → ⊥
    no_twin u j split same =
        let in-page = inner (record { slot = u; index = j }) same in
        let no : Split ≡ Inner in-page.count = sym split ∙ in-page.page in absurd (cc)

    -- and so its halves
    twins_show : (u : ℕ) (f : Fenced) → page_of d u ≡ Split → has_slot gone u ≡ true
        → ((i : ℕ) → i < 64 → get_or words' (page_at l.slots u i) 0 ≡ get_or words (page_at l.slots u i) 0)
        → ShowsTwins words l.slots u f.span d → ShowsTwins words' l.slots u f.span e
    twins_show u f split lost stays h = record {
      first = h.first;
      second = h.second;
      minor = stays 3 (omega arith) ∙ h.minor;
      major = stays 4 (omega arith) ∙ h.major;
      leads_first = ap (λ (z : Pointer). z.slot) (c.dead (at_index u 0) (no_twin u 0 split) lost) ∙ h.leads_first;
      leads_second = ap (λ (z : Pointer). z.slot) (c.dead (at_index u 1) (no_twin u 1 split) lost) ∙ h.leads_second;
      lower = spans (at_index u 0) ∙ (h.lower ∙ ap (λ k. lower_span f.span k) (sym (stays 5 (omega arith))));
      upper = spans (at_index u 1) ∙ (h.upper ∙ ap (λ k. upper_span f.span k) (sym (stays 5 (omega arith))));
    }

    gone_shows : (u : ℕ) (f : Fenced) → u < l.slots → s.trees u ≡ Some f → has_slot gone u ≡ true → (page : Page) → page_of d u ≡ page
        → ShowsTree s.resident.places words l.slots u f (IsOverwritten m) (place_of m.places) d page
        → ShowsTree s.resident.places words' l.slots u f (IsOverwritten n) (place_of places) e page
    gone_shows u f less tree lost Blank is h = h
    gone_shows u f less tree lost (Leaf ks) is h =
        let stays : (i : ℕ) → i < 64 → get_or words' (page_at l.slots u i) 0 ≡ get_or words (page_at l.slots u i) 0 =
        λ i few. others (page_at l.slots u i) (not_leaf u i ks few is) in (
          h.0,
          stays 0 (omega arith) ∙ (h.1 ∙ ap (λ i. head_word (length f.keys) 1 i false) (sym (c.closed u))),
          records_show u f stays h.2,
        )
    gone_shows u f less tree lost (Inner count) is h =
        let before : words_before (s.trees u) ≡ 4 = before_some s.trees u f tree in
        tree_pointed s.resident.places words words' l.slots u f (IsOverwritten m) (IsOverwritten n) (place_of m.places) (place_of places) d e count
        (λ i low. others (page_at l.slots u i) (no_pointer_word u f tree i (inl low) (omega arith)))
        (λ i from few. others (page_at l.slots u i) (no_pointer_word u f tree i (inr from) few))
        (λ j few most was.
        pointer_shows (at_index u j) (page_at l.slots u (4 + j)) (omega (arith, before)) (less, omega (arith, before))
        (λ in-gone. c.shut u j count lost is few) was)
        (λ j. spans (at_index u j)) (c.buried u h.7) h
    gone_shows u f less tree lost Split is h =
        let stays : (i : ℕ) → i < 64 → get_or words' (page_at l.slots u i) 0 ≡ get_or words (page_at l.slots u i) 0 =
        λ i few. others (page_at l.slots u i) (not_split u i few is) in (
          stays 0 (omega arith) ∙ (h.0 ∙ ap (λ i. head_word (length f.keys) 1 i true) (sym (c.closed u))),
          twins_show u f is lost stays h.1,
          records_show u f stays h.2,
          (λ i few. c.still-dead (spot u i) (h.3 i few)),
        )

    -- and those of a tree's page
    tree_shows : (u : ℕ) (f : Fenced) → u < l.slots → s.trees u ≡ Some f
        → ShowsTree s.resident.places words l.slots u f (IsOverwritten m) (place_of m.places) d (page_of d u)
        → ShowsTree s.resident.places words' l.slots u f (IsOverwritten n) (place_of places) e (page_of d u)
    tree_shows u f few tree h = elim (cases_Bool (has_slot gone u)) [
      | inl lost ↦ gone_shows u f few tree lost (page_of d u) refl h
      | inr left ↦ elim (of_page x u) [
        | inl of ↦
            let in-page = inner of.spot of.is in
            let page-is : page_of d u ≡ Inner in-page.count = ap (page_of d) (sym of.slot) ∙ in-page.page in
            let before : words_before (s.trees u) ≡ 4 = before_some s.trees u f tree in
            subst (λ (z : Page). ShowsTree s.resident.places words' l.slots u f (IsOverwritten n) (place_of places) e z) (sym page-is)
            (tree_pointed s.resident.places words words' l.slots u f (IsOverwritten m) (IsOverwritten n) (place_of m.places) (place_of places) d e in-page.count
            (λ i less. others (page_at l.slots u i) (not_word of f tree i (inl less) (omega arith)))
            (λ i from less. others (page_at l.slots u i) (not_word of f tree i (inr from) less))
            (λ j less most was.
            pointer_shows (at_index u j) (page_at l.slots u (4 + j)) (omega (arith, before)) (few, omega (arith, before))
            (λ lost. absurd (true≢false (sym lost ∙ left))) was)
            (λ j. spans (at_index u j)) (c.headers u left)
            (subst (λ (z : Page). ShowsTree s.resident.places words l.slots u f (IsOverwritten m) (place_of m.places) d z) page-is h))
        | inr other ↦
            tree_shown s.resident.places words words' l.slots u f (IsOverwritten m) (IsOverwritten n) (place_of m.places) (place_of places) d e (page_of d u)
            (λ i less. others (page_at l.slots u i) (not_page u i less (λ y is-in in-page same. other y is-in (sym same))))
            (λ i. c.kept-places (spot u i) left) (λ k i over. over)
            (λ j.
            c.same (at_index u j) (λ same. other (record { slot = u; index = j }) same refl) left)
            (c.headers u left) h
      ]
    ]
      where
        -- it is none of the words of the page that aren't pointers'
        not_word : (of : IsOfPage x u) (f : Fenced) → s.trees u ≡ Some f → (i : ℕ) → (i < 4) ⊎ (34 ≤ i) → i < 64
            → page_at l.slots u i ≢ at
        not_word of f tree i outside less same =
            let in-page = inner of.spot of.is in
            let there : s.trees (of.spot).slot ≡ Some f = ap s.trees of.slot ∙ tree in
            let before : words_before (s.trees (of.spot).slot) ≡ 4 = before_some s.trees (of.spot).slot f there in
            let index = in-page.fan f there in
            let word = in-page.word in
            let slot = of.slot in
            elim outside [ inl low ↦ absurd (omega arith) | inr high ↦ absurd (omega arith) ]

    pub shows : ShowsWords l words' n e s.trees s.resident
    shows =
        let h = b.sound.shown in record {
          long = (written words at value within).long ∙ h.long;
          clock = others 0 (not_low 0 (omega arith)) ∙ h.clock;
          decisions = others 1 (not_low 1 (omega arith)) ∙ h.decisions;
          published = others 26 (not_slot 26 (omega arith) (omega arith)) ∙ h.published;
          unused = λ j from low other. others j (not_unused j from low) ∙ h.unused j from low other;
          roots = λ i less.
              let few = b.sound.few.1 in
              pointer_shows (Root i) (root_at i) refl (omega arith) (λ lost. absurd (true≢false (sym lost))) (h.roots i less);
          slots = λ u less.
              let was = h.slots u less in
              let same = slot_same u in record {
                word = others (slot_at u) (not_slot (slot_at u) (omega arith) (omega arith)) ∙ (was.word
                    ∙ (ap (λ k. (at_bit 0 k + at_bit 16 (state_number (slot_of d u).state)) + at_bit 18 (slot_of d u).times) (sym same.passes)
                    ∙ (ap (λ (k : SlotState). (at_bit 0 (slot_of e u).passes + at_bit 16 (state_number k)) + at_bit 18 (slot_of d u).times) (sym same.state)
                    ∙ ap (λ k. (at_bit 0 (slot_of e u).passes + at_bit 16 (state_number (slot_of e u).state)) + at_bit 18 k) (sym same.times))));
                times = subst (λ k. k < 2 ^ 46) (sym same.times) was.times;
              };
          pages = λ u less now-shown tree.
              subst (ShowsPage s.resident.places words' l.slots u (place_of places) e) (sym (c.pages u))
              (page_shows u (page_of d u) less tree refl (h.pages u less (ap is_shown (sym (states u)) ∙ now-shown) tree));
          treed = λ u f less now-shown tree.
              subst (λ (z : Page). ShowsTree s.resident.places words' l.slots u f (IsOverwritten n) (place_of places) e z) (sym (c.pages u))
              (tree_shows u f less tree (h.treed u f less (ap is_shown (sym (states u)) ∙ now-shown) tree));
          resident = λ i j pos past less.
              others (snap_at l.slots i j) (not_snap (snap_at l.slots i j) (omega arith)) ∙ h.resident i j pos past less;
        }
      where
        -- a pointer of a root that isn't declared is none of these
        not_unused : (j : ℕ) → root_at (length l.decls) ≤ j → j < 32 → j ≢ at
        not_unused j from low = by_place x place at-is.0
          where
            by_place : (z : At) → StandsAt l s at z → at ≡ stand l s.trees z → j ≢ at
            by_place (Root i) is e same = let few = is.1 in absurd (omega arith)
            by_place (In y) is e same = absurd (omega arith)
