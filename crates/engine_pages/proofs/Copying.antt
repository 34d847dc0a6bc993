-- A slot is published: its page, whose words its owner has stored, becomes a page of the machine: a copy, a page of a
-- tree, or none.
use Rattle.std.proofs.Common.{◌≡◌, ◌≢◌, inl, inr, ℕ, ◌+◌, ◌%◌, ◌^◌, ◌<◌, ◌≤◌, Bool, true, false, true≢false, cond}
use Rattle.std.proofs.Common.{eq-eqb, ne_eqb, List, ◌∷◌, get_or, set, refl, sym, ap, ◌∙◌, subst, arith}
use Rattle.std.proofs.Common.{Option, Some, None, IfSome}
use Rattle.std.specs.Prelude.{◌&&◌}
use Rattle.std.specs.List.{Contains, slice_get}
use Rattle.std.proofs.lemmas.Bool.{and_from, and_parts}
use Rattle.homes.specs.declared.places.At.{At}
use Rattle.homes.specs.declared.places.At.TheVariants.{Root, In}
use Rattle.homes.specs.declared.places.Holder.{Holder}
use Rattle.homes.specs.declared.places.Holder.TheVariants.{Held}
use Rattle.homes.specs.declared.places.Span.{Span}
use Rattle.homes.specs.declared.places.Spot.{Spot}
use Rattle.serial_model.specs.declared.decl.Decl.{Decl}
use Rattle.serial_model.specs.declared.key.Key.{Key}
use Rattle.serial_model.specs.declared.number.Number.{Number}
use Rattle.snapshot_store.specs.declared.place.PagePlace.{PagePlace}
use Rattle.commit_core.specs.declared.place.Place.{Place}
use Rattle.commit_core.specs.declared.seat.Seat.{Seat}
use Rattle.commit_core.specs.declared.story.Story.{Story}
use Rattle.commit_core.specs.CoreState.{last_marked}
use Rattle.commit_core.specs.Keys.{IsUpTo}
use Rattle.commit_core.specs.Parts.{record_part}
use Rattle.commit_core.specs.Places.{place_of, home_of, holder_is}
use Rattle.wire_form.specs.Words.{number_word}
use Rattle.snapshot_store.specs.Places.{page as page_words}
use Rattle.drop_core.specs.declared.event.Act.TheVariants.{FillPage, Publish}
use Rattle.drop_core.specs.declared.grip.Grip.{Grip}
use Rattle.drop_core.specs.declared.table.Led.TheVariants.{From}
use Rattle.drop_core.specs.declared.table.Page.{Page}
use Rattle.drop_core.specs.declared.table.Pointer.{Pointer}
use Rattle.drop_core.specs.declared.table.Slot.{Slot}
use Rattle.drop_core.specs.declared.table.SlotState.TheVariants.{Published as Shown}
use Rattle.drop_core.specs.declared.table.Table.{Table}
use Rattle.drop_core.specs.Event.{is_owned, is_published, with_slot}
use Rattle.drop_core.specs.Law.{IsMade}
use Rattle.drop_core.specs.Sound.{IsLedSo}
use Rattle.drop_core.specs.Table.{slot_of, page_of, pointer_of, header_of, has_slot, has_pointer, is_never, is_led, is_live, at_index}
use Rattle.engine_rule.specs.declared.event.JointAct.TheVariants.{Turn as TurnPages}
use Rattle.engine_rule.specs.Event.{Joined}
use Rattle.engine_rule.specs.JointState.{is_slot, slot_at as slot_with}
use Rattle.engine_rule.specs.Sound.{IsSound}
use Rattle.engine_rule.specs.Stays.{Stays}
use Rattle.engine_pages.specs.declared.layout.Layout.{Layout}
use Rattle.engine_pages.specs.declared.view.Copied.{Copied}
use Rattle.engine_pages.specs.declared.view.Draft.{Draft}
use Rattle.engine_pages.specs.declared.view.Loaded.{Loaded}
use Rattle.engine_pages.specs.declared.view.NewInner.{NewInner}
use Rattle.engine_pages.specs.declared.view.NewLeaf.{NewLeaf}
use Rattle.engine_pages.specs.declared.view.View.{View}
use Rattle.engine_pages.specs.Layout.{root_at, slot_at, page_at, snap_at}
use Rattle.engine_pages.specs.Pages.{Fenced, AreLaidOut, IsLaidOut, decl_of}
use Rattle.engine_pages.specs.Rule.{Shared, all_seats, joint_of, IsDraft, IsCopy, IsCopiedPointer, IsBlank, StillLoaded}
use Rattle.engine_pages.specs.Rule.{IsBitAt, IsNewLeaf, IsNewInner}
use Rattle.engine_pages.specs.Slots.{other_drafts}
use Rattle.engine_pages.specs.Stays.{IsKnown, TreesStay}
use Rattle.engine_pages.specs.Views.{IsActive, seat_number}
use Rattle.engine_pages.specs.Words.{IsOverwritten, ShowsWords, ShowsPage, ShowsPointer, ShowsTree, ShowsSlot, is_shown}
use Rattle.engine_pages.specs.Words.{state_number, spot}
use Rattle.views.specs.ByNumber.{put_at}
use Rattle.engine_pages.proofs.Dealing.{rests_low}
use Rattle.engine_pages.proofs.EachSeat.{at_seat, other_seat}
use Rattle.engine_pages.proofs.Entering.{passes_few}
use Rattle.engine_pages.proofs.Filling.{owned_never}
use Rattle.engine_pages.proofs.Joint.{Laws, shared_now, shared_after, joint_act, same_grows}
use Rattle.engine_pages.proofs.Named.{more_same}
use Rattle.engine_pages.proofs.OwnView.{own_fits}
use Rattle.engine_pages.proofs.PagesStay.{words_same, shut_live}
use Rattle.engine_pages.proofs.Seats.{by_equal, put_same, put_other, is_at, home_known, kept_known}
use Rattle.engine_pages.proofs.SlotFacts.{slot_other, slot_same, filled_same}
use Rattle.engine_pages.proofs.SlotSteps.{own_pages, trees_same}
use Rattle.engine_pages.proofs.Slotlists.{at_others}
use Rattle.engine_pages.proofs.TreeFacts.{inner_at, new_leaf_at, new_inner_at, sealed_at, same_fence}
use Rattle.engine_pages.proofs.Turns.{Stride, Begins, marks_stay, tried_goes, written}
use Rattle.engine_pages.proofs.Words.{page_shown, tree_shown}
use Rattle.engine_pages.proofs.Records.{fill_joint, over_at, laid_at, never_led, owned_number, published_unowned}
use Rattle.engine_pages.proofs.SlotFacts.{within_same, shut_same}

-- what the words of a slot's page show, where it is a page of a tree and where it is none
abbrev pub ShowsAt : Option Fenced → List (Decl × PagePlace) → List ℕ → ℕ → ℕ → (Key → Number → Type 0)
    → (Spot → Place) → Table → Page → Type 0
ShowsAt None names words slots t over places d pg = ShowsPage names words slots t places d pg
ShowsAt (Some f) names words slots t over places d pg = ShowsTree names words slots t f over places d pg

-- What the slot is published as: the page, its records, pointers and header as they were filled, and whether it is one
-- of a tree. The words show it.
pub record NewPage (l : Layout) (words : List ℕ) (s : Shared) (t : ℕ) : Type 0 where
  pub page : Page
  pub places : List (Spot × Place)
  pub pointers : List (At × Pointer)
  pub headers : List (ℕ × Holder)
  pub fence : Option Fenced
  pub filled : IsSound (joint_of l (record s {
    story = record s.story { places = places };
    table = record s.table { pointers = pointers; headers = headers };
  }))
  pub other_places : (y : Spot) → y.slot ≢ t → place_of places y ≡ place_of s.story.places y
  pub other_pointers : (y : At) → is_slot t (slot_with y) ≡ false
      → pointer_of (record s.table { pointers = pointers; headers = headers }) y ≡ pointer_of s.table y
  pub other_headers : (u : ℕ) → u ≢ t
      → header_of (record s.table { pointers = pointers; headers = headers }) u ≡ header_of s.table u
  pub shown : ShowsAt fence s.resident.places words l.slots t (IsOverwritten s.story) (place_of places)
      (record s.table { pointers = pointers; headers = headers }) page

-- ---- the step

module _ (laws : Laws) (l : Layout) (words : List ℕ) (views : List View) (s : Shared) (id : ℕ) (v : View)
    (active : IsActive v.role) (b : Begins l words views s id v) (x : Draft) (has-draft : Contains v.drafts x)
    (c : NewPage l words s x.slot) (copies' : List Copied) (blanks' : List ℕ) (leaves' : List NewLeaf)
    (inners' : List NewInner) where
  abbrev t : ℕ
  t = x.slot

  abbrev pg : Page
  pg = c.page

  abbrev places' : List (Spot × Place)
  places' = c.places

  abbrev pointers' : List (At × Pointer)
  pointers' = c.pointers

  abbrev headers' : List (ℕ × Holder)
  headers' = c.headers

  abbrev fence : Option Fenced
  fence = c.fence

  places-ok : (y : Spot) → y.slot ≢ x.slot → place_of places' y ≡ place_of s.story.places y
  places-ok = c.other_places

  pointers-ok : (y : At) → is_slot x.slot (slot_with y) ≡ false
      → pointer_of (record s.table { pointers = pointers'; headers = headers' }) y ≡ pointer_of s.table y
  pointers-ok = c.other_pointers

  abbrev p : ℕ
  p = seat_number v.role

  abbrev d : Table
  d = s.table

  abbrev m : Story
  m = s.story

  abbrev n : Story
  n = record m { places = places' }

  abbrev d0 : Table
  d0 = record d { pointers = pointers'; headers = headers' }

  abbrev d1 : Table
  d1 = record d0 { pages = (t, pg) ∷ d.pages }

  abbrev e : Table
  e = with_slot d1 t (record (slot_of d t) { state = Shown })

  abbrev k : ℕ → Option Fenced
  k = put_at s.trees t fence

  abbrev f : ℕ → ℕ
  f i = (i + 65536) % 2 ^ 64

  abbrev words' : List ℕ
  words' = set words (slot_at t) (f (get_or words (slot_at t) 0))

  abbrev w : View
  w = record v {
    steps = v.steps + 1;
    drafts = other_drafts t v.drafts;
    copies = copies';
    blanks = blanks';
    new_leaves = leaves';
    new_inners = inners';
  }

  abbrev new : Shared
  new = shared_now s p n e k s.resident w

  draft : IsDraft words l.slots d v.grip.made x
  draft = b.pages.drafts x has-draft

  made : has_slot (s.grips p).made t ≡ true
  made = ap (λ (g : Grip). has_slot g.made t) (sym b.grip) ∙ draft.made

  unled : is_never (slot_of d t).led ≡ true
  unled =
      owned_never d t (slot_of d t).state (slot_of d t).led draft.owned
      (b.sound.joint.pages.table.holds_counted.led t)

  -- what leads to a slot is live
  led_live : (u : ℕ) (y : At) → (slot_of d u).led ≡ From y → is_live d y ≡ true
  led_live u y led = (subst (IsLedSo d u (slot_of d u).state) led (b.sound.joint.pages.table.holds_counted.led u)).1

  pub slot_new : slot_of e t ≡ record (slot_of d t) { state = Shown }
  slot_new = slot_same d1 t (record (slot_of d t) { state = Shown })

  slot_old : (u : ℕ) → u ≢ t → slot_of e u ≡ slot_of d u
  slot_old u other = slot_other d1 t u (record (slot_of d t) { state = Shown }) other

  leds : (u : ℕ) → (slot_of e u).led ≡ (slot_of d u).led
  leds u =
      by_equal u t (λ i. (slot_of e i).led ≡ (slot_of d i).led) (ap (λ (z : Slot). z.led) slot_new)
      (λ other. ap (λ (z : Slot). z.led) (slot_old u other))

  pub page_new : page_of e t ≡ pg
  page_new = ap (λ (c : Bool). cond c pg (page_of d t)) (eq-eqb t t refl)

  page_old : (u : ℕ) → u ≢ t → page_of e u ≡ page_of d u
  page_old u other = ap (λ (c : Bool). cond c pg (page_of d u)) (ne_eqb t u (λ q. other (sym q)))

  pub tree_new : k t ≡ fence
  tree_new = put_same s.trees t fence t refl

  tree_old : (u : ℕ) → u ≢ t → k u ≡ s.trees u
  tree_old u other = put_other s.trees t fence u other

  header_old : (u : ℕ) → u ≢ t → header_of e u ≡ header_of d u
  header_old = c.other_headers

  known_other : (u : ℕ) → IsKnown d u → u ≢ t
  known_other u known same = true≢false (sym unled ∙ ap (λ i. is_never (slot_of d i).led) (sym same) ∙ known)

  led_other : (u : ℕ) → is_led (slot_of d u).led ≡ true → u ≢ t
  led_other u led same =
      true≢false (sym led ∙ never_led (slot_of d u).led (ap (λ i. is_never (slot_of d i).led) same ∙ unled))

  made_other : (q u : ℕ) (h : Grip) → (q ≡ p → ⊥) → slice_get (all_seats s.grips) q ≡ Some h
      → has_slot h.made u ≡ true → u ≢ t
  made_other q u h other at has same =
      let is : IsMade d (all_seats s.grips) q u =
      laws.made (home_of m.homes) d (all_seats s.grips) q u h b.sound.joint.pages at has in
      true≢false (sym made ∙ ap (has_slot (s.grips p).made) (sym same)
      ∙ is.alone p (s.grips p) other (at_seat s.grips p b.few))

  held_other : (u q : ℕ) → header_of d u ≡ Held q → u ≢ t
  held_other u q held = led_other u (b.sound.joint.pages.held.headers u q held).1

  -- ---- pointers of other pages

  pointer_root : (r : ℕ) → pointer_of e (Root r) ≡ pointer_of d (Root r)
  pointer_root r = pointers-ok (Root r) refl

  pointer_old : (u j : ℕ) → u ≢ t → pointer_of e (at_index u j) ≡ pointer_of d (at_index u j)
  pointer_old u j other = pointers-ok (at_index u j) (ne_eqb u t other)

  -- a live one is none of the owned page
  pointer_live : (y : At) → is_live d y ≡ true → pointer_of e y ≡ pointer_of d y
  pointer_live (Root r) live = pointer_root r
  pointer_live (In y) live =
      let both = and_parts (is_led (slot_of d y.slot).led) (has_pointer (page_of d y.slot) y.index) live in
      pointers-ok (In y) (ne_eqb y.slot t (led_other y.slot both.0))

  was_live : (y : At) → is_live e y ≡ true → is_live d y ≡ true
  was_live (Root r) live = refl
  was_live (In y) live =
      let both = and_parts (is_led (slot_of e y.slot).led) (has_pointer (page_of e y.slot) y.index) live in
      let led : is_led (slot_of d y.slot).led ≡ true = ap is_led (sym (leds y.slot)) ∙ both.0 in
      and_from (is_led (slot_of d y.slot).led) (has_pointer (page_of d y.slot) y.index) led
      (ap (λ (z : Page). has_pointer z y.index) (sym (page_old y.slot (led_other y.slot led))) ∙ both.1)

  pub sound : IsSound (joint_of l new)
  sound =
      let s1 : Shared = record s { story = n; table = d0 } in
      let laid : IsSound (joint_of l (record s1 { table = d1 })) =
      fill_joint l s1 p n d1
      (joint_act laws l s1 p (TurnPages (FillPage t pg)) b.few
      (and_from (is_owned (slot_of d t).state && has_slot (s.grips p).made t) _
      (and_from (is_owned (slot_of d t).state) (has_slot (s.grips p).made t) draft.owned made) refl)
      c.filled).sound in
      let s2 : Shared = record s1 { table = d1 } in
      let done : IsSound (joint_of l (shared_after s p (record { story = n; seat = s.seats p; table = e; grip = s.grips p }))) =
      (joint_act laws l s2 p (TurnPages (Publish t)) b.few
      (and_from (is_owned (slot_of d t).state && has_slot (s.grips p).made t) _
      (and_from (is_owned (slot_of d t).state) (has_slot (s.grips p).made t) draft.owned made) refl) laid).sound in
      subst (λ (j : Joined). IsSound (joint_of l (shared_after s p j)))
      (ap (λ (y : Seat). let j : Joined = record { story = n; seat = y; table = e; grip = s.grips p } in j) (sym b.own.seat)
      ∙ ap (λ (y : Grip). let j : Joined = record { story = n; seat = w.seat; table = e; grip = y } in j) (sym b.grip))
      done

  pub stays : Stays p (joint_of l s) (joint_of l new)
  stays = record {
    opening = refl;
    story = record {
      grows = let g = same_grows m in record {
        history = g.history;
        checks = g.checks;
        decided = g.decided;
        given_up = g.given_up;
        first_draw = refl;
        epoch = omega arith;
      };
      rise = λ y there. inl (ap (λ (z : Place). z.content.number) (sym (places-ok y (known_other y.slot there.known))));
      epoch = λ _. refl;
      held = λ y o there held other. places-ok y (known_other y.slot there.known);
      dead = λ y there dead. places-ok y (known_other y.slot there.known);
      homes = λ i o held other. refl;
      checks = λ i a at other w. refl;
    };
    pages = record {
      pages = λ q u h at holds known. record {
        page = inl (page_old u (known_other u known));
        dead = λ is. header_old u (known_other u known) ∙ is;
        spans = λ j has. ap (λ (z : Pointer). z.span) (pointer_old u j (known_other u known));
        known = ap is_never (leds u) ∙ known;
        led = λ y is.
            let was : (slot_of d u).led ≡ From y = sym (leds u) ∙ is in (
              was,
              ap (λ (z : Pointer). z.span) (pointer_live y (led_live u y was)),
            );
      };
      roots = λ r. ap (λ (z : Pointer). z.span) (pointer_root r);
      snaps = λ i past. refl;
      homes = λ i q past. refl;
      published = omega arith;
    };
    held = record {
      headers = λ q u other held. (
        header_old u (held_other u q held) ∙ held,
        page_old u (held_other u q held),
      );
      pointers = λ q y other live held. pointer_live y live;
    };
    made = λ q u h other at has.
        let apart = made_other q u h other at has in record {
          state = ap (λ (z : Slot). z.state) (slot_old u apart);
          times = ap (λ (z : Slot). z.times) (slot_old u apart);
          led = leds u;
          page = page_old u apart;
          header = header_old u apart;
          pointers = λ j free. pointer_old u j apart;
        };
    records = λ q y h other at has. places-ok y (made_other q y.slot h other at has);
    seats = λ q other. other_seat s.seats p w.seat q other;
    grips = λ q other. other_seat s.grips p w.grip q other;
  }

  pub trees_stay : TreesStay p s k
  trees_stay = record {
    none = λ q u relied is. tree_old u (known_other u relied.known) ∙ is;
    fence = λ q u g relied is.
        let same = trees_same p s in
        let was = same.fence q u g relied is in
        (was.0, tree_old u (known_other u relied.known) ∙ was.1, was.2, was.3);
    made = λ q u few other has. tree_old u (made_other q u (s.grips q) other (at_seat s.grips q few) has);
    heads = λ u o held other. tree_old u (held_other u o held);
  }

  others : (j : ℕ) → j ≢ slot_at t → get_or words' j 0 ≡ get_or words j 0
  others j other =
      (written words (slot_at t) (f (get_or words (slot_at t) 0)) (let long = b.sound.shown.long in let few = draft.slot in omega arith)).others j other

  pages-same : (j : ℕ) → 32 + l.slots ≤ j → get_or words' j 0 ≡ get_or words j 0
  pages-same j low = others j (λ q. let few = draft.slot in omega arith)

  slots_shown : (u : ℕ) → u < l.slots → ShowsSlot words' (slot_at u) (slot_of e u)
  slots_shown u few = by_equal u t (λ i. ShowsSlot words' (slot_at i) (slot_of e i))
      (let was = b.sound.shown.slots t draft.slot in
      let wr = written words (slot_at t) (f (get_or words (slot_at t) 0)) (let long = b.sound.shown.long in let few = draft.slot in omega arith) in
      subst (ShowsSlot words' (slot_at t)) (sym slot_new) record {
        word =
            wr.here
            ∙ (let word = was.word in
            let times = was.times in
            let owned : state_number (slot_of d t).state ≡ 1 = owned_number (slot_of d t).state draft.owned in
            let count = passes_few l words views s id v t b in omega arith);
        times = was.times;
      })
      (λ other.
      let was = b.sound.shown.slots u few in
      subst (ShowsSlot words' (slot_at u)) (sym (slot_old u other))
      record { word = others (slot_at u) (λ q. other (omega arith)) ∙ was.word; times = was.times })

  pages_shown : (u : ℕ) → u < l.slots → is_shown (slot_of e u).state ≡ true → k u ≡ None
      → ShowsPage s.resident.places words' l.slots u (place_of places') e (page_of e u)
  pages_shown u few shown none = by_equal u t
      (λ i. is_shown (slot_of e i).state ≡ true → k i ≡ None
      → ShowsPage s.resident.places words' l.slots i (place_of places') e (page_of e i))
      (λ _ is.
      subst (ShowsPage s.resident.places words' l.slots t (place_of places') e) (sym page_new)
      (page_shown s.resident.places words words' l.slots t (place_of places') (place_of places') d0 e pg
      (λ i less. pages-same (page_at l.slots t i) (omega arith)) (λ i. refl) (λ j. refl)
      (subst (λ o. ShowsAt o s.resident.places words l.slots t (IsOverwritten m) (place_of places') d0 pg) (sym tree_new ∙ is) c.shown)))
      (λ other now is.
      subst (ShowsPage s.resident.places words' l.slots u (place_of places') e) (sym (page_old u other))
      (page_shown s.resident.places words words' l.slots u (place_of m.places) (place_of places') d e (page_of d u)
      (λ i less. pages-same (page_at l.slots u i) (omega arith)) (λ i. places-ok (spot u i) other)
      (λ j. pointer_old u j other)
      (b.sound.shown.pages u few (ap (λ (z : Slot). is_shown z.state) (sym (slot_old u other)) ∙ now) (sym (tree_old u other) ∙ is))))
      shown none

  trees_shown : (u : ℕ) (g : Fenced) → u < l.slots → is_shown (slot_of e u).state ≡ true → k u ≡ Some g
      → ShowsTree s.resident.places words' l.slots u g (IsOverwritten m) (place_of places') e (page_of e u)
  trees_shown u g few shown tree = by_equal u t
      (λ i. is_shown (slot_of e i).state ≡ true → k i ≡ Some g
      → ShowsTree s.resident.places words' l.slots i g (IsOverwritten m) (place_of places') e (page_of e i))
      (λ _ is.
      subst (ShowsTree s.resident.places words' l.slots t g (IsOverwritten m) (place_of places') e) (sym page_new)
      (tree_shown s.resident.places words words' l.slots t g (IsOverwritten m) (IsOverwritten m) (place_of places')
      (place_of places') d0 e pg
      (λ i less. pages-same (page_at l.slots t i) (omega arith)) (λ i. refl) (λ q i over. over) (λ j. refl) refl
      (subst (λ o. ShowsAt o s.resident.places words l.slots t (IsOverwritten m) (place_of places') d0 pg) (sym tree_new ∙ is) c.shown)))
      (λ other now is.
      subst (ShowsTree s.resident.places words' l.slots u g (IsOverwritten m) (place_of places') e) (sym (page_old u other))
      (tree_shown s.resident.places words words' l.slots u g (IsOverwritten m) (IsOverwritten m) (place_of m.places)
      (place_of places') d e (page_of d u)
      (λ i less. pages-same (page_at l.slots u i) (omega arith)) (λ i. places-ok (spot u i) other) (λ q i over. over)
      (λ j. pointer_old u j other) (header_old u other)
      (b.sound.shown.treed u g few (ap (λ (z : Slot). is_shown z.state) (sym (slot_old u other)) ∙ now) (sym (tree_old u other) ∙ is))))
      shown tree

  pub shows : ShowsWords l words' n e k s.resident
  shows =
      let h = b.sound.shown in
      let decls = b.sound.few.1 in
      let low = draft.slot in record {
        long = (written words (slot_at t) (f (get_or words (slot_at t) 0)) (let long = h.long in omega arith)).long ∙ h.long;
        clock = others 0 (λ q. omega arith) ∙ h.clock;
        decisions = others 1 (λ q. omega arith) ∙ h.decisions;
        published = others 26 (λ q. omega arith) ∙ h.published;
        unused = λ j from to other. others j (λ q. omega arith) ∙ h.unused j from to other;
        roots = λ r few.
            let was = h.roots r few in
            subst (ShowsPointer s.resident.places words' (root_at r)) (sym (pointer_root r)) record {
              number = was.number;
              word = others (root_at r) (λ q. omega arith) ∙ was.word;
              page = was.page;
              slot = was.slot;
              named = was.named;
              keepers = was.keepers;
            };
        slots = slots_shown;
        pages = pages_shown;
        treed = trees_shown;
        resident = λ i j some most less. pages-same (snap_at l.slots i j) (omega arith) ∙ h.resident i j some most less;
      }

  laid_out : AreLaidOut l.decls k e
  laid_out y u live leads =
      let was-live : is_live d y ≡ true = was_live y live in
      let same = pointer_live y was-live in
      let leads-was : (pointer_of d y).slot ≡ Some u = ap (λ (z : Pointer). z.slot) (sym same) ∙ leads in
      let back = b.sound.joint.pages.table.holds_counted.back y u was-live leads-was in
      let other : u ≢ t = led_other u (ap is_led back) in
      subst (λ (z : Span). IsLaidOut (decl_of l.decls z.storage) k e u z) (sym (ap (λ (z : Pointer). z.span) same))
      (laid_at (decl_of l.decls (pointer_of d y).span.storage) s.trees k d e u (pointer_of d y).span (tree_old u other)
      (page_old u other) (header_old u other) (λ j. pointer_old u j other) (b.sound.laid_out y u was-live leads-was))

  loaded_same : (o : Option Loaded) → IfSome o (StillLoaded m.history m.decided m.places v.seat.kept)
      → IfSome o (StillLoaded m.history m.decided places' v.seat.kept)
  loaded_same None h = tt
  loaded_same (Some y) h = λ z has. elim (h z has) [
    | inl value ↦ inl value
    | inr later ↦ elim later [
      | inl over ↦ inr (inl over)
      | inr dead ↦ inr (inr (ap (λ (z : Place). z.holder)
          (places-ok y.spot (known_other y.spot.slot (kept_known l s v b.sound.joint b.fits (record_part y.key y.spot z) has y.spot refl)))
          ∙ dead))
    ]
  ]

  pub publish_stride : ((z : Copied) → Contains copies' z → (k z.slot ≡ None) × IsCopy l n e s.resident v.grip.made z)
      → ((u : ℕ) → has_slot blanks' u ≡ true → IsBlank l.slots e v.grip.made u)
      → ((z : NewLeaf) → Contains leaves' z → IsNewLeaf l n e k v.grip.made z)
      → ((z : NewInner) → Contains inners' z → IsNewInner l e k s.resident v.grip.made z)
      → (tells : View → ℕ → View → Type 0) → tells v (get_or words (slot_at t) 0) w
      → Stride l words views s p v (slot_at t) (λ i. (i + 65536) % 2 ^ 64) tells
  publish_stride copies-so blanks-so leaves-so inners-so tells tells-so =
      let h = b.sound in
      let fv = b.fits in record {
        story = n;
        table = e;
        trees = k;
        resident = s.resident;
        view = w;
        sound = sound;
        stays = stays;
        trees-stay = trees_stay;
        turn = record {
          small = record { first = h.small.first; drawn = h.small.drawn; clock = h.small.clock };
          valued = h.valued;
          shown = shows;
          marks = marks_stay words words' s.seats p v.seat w.seat h.marks b.own.seat refl
              (λ j lo hi. others j (λ q. absurd (omega arith)));
          marked = λ place mark has. has;
          marks_low = subst (λ (z : Seat). last_marked z.marks < m.epoch) (sym b.own.seat) (h.marked p);
          drawn = λ a has. inl has;
          tried = tried_goes m n s.seats p v.seat w.seat b.own.seat refl refl refl (inl refl) h.tried;
          fits = own_fits l m n s.seats v w active fv fv.part refl refl refl refl refl (λ place mark has. has) record {
            history = fv.history;
            decided = fv.decided;
            heard = fv.heard;
            mine = fv.mine;
            mine_own = fv.mine_own;
            records = fv.records;
            kept = λ q y o has.
                subst (λ (z : Place). IsUpTo o.number z.content.number)
                (sym (places-ok y (known_other y.slot (kept_known l s v h.joint fv (record_part q y o) has y refl)))) (fv.kept q y o has);
            versions = fv.versions;
            loaded = loaded_same v.loaded fv.loaded;
            tried = b.own.tried;
            took = λ q has.
                let was = b.own.took q has in
                let same = places-ok was.0 (known_other was.0.slot (home_known l s q.key was.0 h.joint was.1.home)) in (
                  was.0,
                  record {
                    spot = was.1.spot;
                    home = was.1.home;
                    own = subst (λ (z : Place). holder_is p z.holder ≡ true) (sym same) was.1.own;
                    absent = was.1.absent;
                    number = ap (λ (z : Place). number_word z.content.number + was.1.absent) same ∙ was.1.number;
                    bit = subst (λ (z : Place). IsBitAt l.decls m q.key z was.1.absent) (sym same) was.1.bit;
                  },
                );
            locked = b.own.locked;
            low = fv.low;
            epoch = λ keeper. (fv.keepers keeper).epoch;
            past = λ keeper. let was = (fv.keepers keeper).past in record { clock = was.clock; tried = was.tried };
          };
          role = refl;
          made = refl;
          mine = λ g. refl;
          drew = refl;
          few = omega arith;
          room = omega (arith, h.sums.room);
          deals = rests_low l words views s id v b words' w
              record { role = refl; ways = refl; took = refl; gone = refl; touched = refl; blamed = refl; locks = refl }
              refl pages-same;
          slots = refl;
          within = h.within;
          more = more_same s.resident;
          unpublished = λ other. refl;
          named = let was = h.named in record { count = was.count; none = was.none; says = was.says; stand = was.stand; below = was.below };
          laid_out = laid_out;
          pages = own_pages l words words' s n e k s.resident v w active refl refl b.pages record {
            within = b.pages.within;
            ways = λ z has.
                let was = b.pages.ways z has in
                let other = known_other z.slot was.known in record {
                  within = was.within;
                  held = was.held;
                  known = ap is_never (leds z.slot) ∙ was.known;
                  over = laid_at (decl_of l.decls z.span.storage) s.trees k d e z.slot z.span (tree_old z.slot other)
                      (page_old z.slot other) (header_old z.slot other) (λ j. pointer_old z.slot j other) was.over;
                };
            drafts = λ z has.
                let old = at_others (λ (q : Draft). q.slot) t v.drafts z has in
                let was = b.pages.drafts z old.0 in record {
                  slot = was.slot;
                  made = was.made;
                  owned = ap (λ (q : Slot). is_owned q.state) (slot_old z.slot old.1) ∙ was.owned;
                  header = header_old z.slot old.1 ∙ was.header;
                  is = λ i less. pages-same (page_at l.slots z.slot i) (omega arith) ∙ was.is i less;
                };
            copies = copies-so;
            blanks = blanks-so;
            resident = b.pages.resident;
            leads = b.pages.leads;
            fills = λ z has.
                let was = b.pages.fills z has in (was.0, filled_same l words words' s.resident z pages-same was.1);
            known = λ z has.
                let was = b.pages.treed.known z has in record {
                  within = was.within;
                  held = was.held;
                  known = ap is_never (leds z.slot) ∙ was.known;
                  fence = was.fence;
                  there = tree_old z.slot (known_other z.slot was.known) ∙ was.there;
                  front = was.front;
                };
            shuts = λ z has.
                let was = b.pages.shuts p (is_at v.role active) z has in
                shut_same d e s.resident p v.grip.holds v.grip.holds z
                (within_same d e v.grip.holds v.grip.holds z.at
                (λ u is held known. (held, leds u, page_old u (known_other u known))))
                (pointer_live z.at (shut_live d v.grip.holds z.at p b.sound.joint.pages.table.one_home_each.dead was.within was.shut))
                was;
            heads = λ z has.
                let was = b.pages.treed.heads p (is_at v.role active) z has in
                let other = held_other z.slot p was.locked in record {
                  within = was.within;
                  locked = header_old z.slot other ∙ was.locked;
                  leaf = page_old z.slot other ∙ was.leaf;
                  fence = was.fence;
                  there = tree_old z.slot other ∙ was.there;
                  keys = was.keys;
                  long = was.long;
                  is = λ i less is. pages-same (page_at l.slots z.slot i) (omega arith) ∙ was.is i less is;
                };
            moved = λ z has.
                let was = b.pages.treed.moved z has in
                let other = known_other z.slot was.known in record {
                  within = was.within;
                  held = was.held;
                  known = ap is_never (leds z.slot) ∙ was.known;
                  split = page_old z.slot other ∙ was.split;
                  fence = was.fence;
                  there = tree_old z.slot other ∙ was.there;
                  minor = pages-same (page_at l.slots z.slot 3) (omega arith) ∙ was.minor;
                  major = pages-same (page_at l.slots z.slot 4) (omega arith) ∙ was.major;
                  separator = pages-same (page_at l.slots z.slot 5) (omega arith) ∙ was.separator;
                };
            sealed = λ u has.
                let was = b.pages.treed.sealed p (is_at v.role active) u has in
                let other = held_other u p was.locked in
                sealed_at l d e p u (header_old u other) (page_old u other) was;
            inners = λ z has.
                let was = b.pages.treed.inners z has in
                let other = known_other z.slot was.known in
                inner_at l s.trees k d e v.grip.holds v.grip.holds z was.held (ap is_never (leds z.slot) ∙ was.known)
                (page_old z.slot other) (same_fence s.trees k z.slot (tree_old z.slot other))
                (λ j has. ap (λ (q : Pointer). q.span) (pointer_old z.slot j other)) was;
            new_leaves = leaves-so;
            new_inners = inners-so;
          };
          frame = words_same l words words' s p pages-same;
        };
        tells-so = tells-so;
      }

  -- a slot that was published is another one
  shown_other : (u : ℕ) → is_published (slot_of d u).state ≡ true → u ≢ t
  shown_other u shown same =
      true≢false (sym draft.owned ∙ ap (λ i. is_owned (slot_of d i).state) (sym same)
      ∙ published_unowned (slot_of d u).state shown)

  -- what was known of other slots
  pub old_copy : (z : Copied) → Contains v.copies z → (k z.slot ≡ None) × IsCopy l n e s.resident v.grip.made z
  old_copy z has =
      let was = b.pages.copies z has in
      let other = shown_other z.slot was.1.state in (
        tree_old z.slot other ∙ was.0,
        record {
          slot = was.1.slot;
          made = was.1.made;
          state = ap (λ (q : Slot). is_published q.state) (slot_old z.slot other) ∙ was.1.state;
          over = over_at d e z.slot z.span (page_old z.slot other) (header_old z.slot other)
              (λ j. pointer_old z.slot j other) was.1.over;
          page = was.1.page;
          exact = was.1.exact;
          records = λ leaf i less. places-ok (spot z.slot i) other ∙ was.1.records leaf i less;
          pointers = λ inner j less.
              subst
              (IsCopiedPointer s.resident.places z.span j (get_or (page_words s.resident.pages z.page) j 0))
              (sym (pointer_old z.slot j other)) (was.1.pointers inner j less);
        },
      )

  pub old_blank : (u : ℕ) → has_slot v.blanks u ≡ true → IsBlank l.slots e v.grip.made u
  old_blank u has =
      let was = b.pages.blanks u has in record {
        slot = was.slot;
        made = was.made;
        state = ap (λ (q : Slot). is_published q.state) (slot_old u (shown_other u was.state)) ∙ was.state;
      }

  pub old_leaf : (z : NewLeaf) → Contains v.new_leaves z → IsNewLeaf l n e k v.grip.made z
  old_leaf z has =
      let was = b.pages.treed.new_leaves z has in
      let other = shown_other z.slot was.state in
      new_leaf_at l m n d e s.trees k v.grip.made v.grip.made z was.made
      (ap (λ (q : Slot). q.state) (slot_old z.slot other)) (header_old z.slot other) (page_old z.slot other)
      (tree_old z.slot other) (λ i. places-ok (spot z.slot i) other) was

  pub old_inner : (z : NewInner) → Contains v.new_inners z → IsNewInner l e k s.resident v.grip.made z
  old_inner z has =
      let was = b.pages.treed.new_inners z has in
      let other = shown_other z.slot was.state in
      new_inner_at l d e s.trees k s.resident s.resident v.grip.made v.grip.made z was.made
      (ap (λ (q : Slot). q.state) (slot_old z.slot other)) (page_old z.slot other) (tree_old z.slot other)
      (λ j free. pointer_old z.slot j other) (more_same s.resident) was
