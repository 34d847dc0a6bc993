-- The step of an install.
use Rattle.std.proofs.Common.{◌≡◌, ◌≢◌, ◌⊎◌, inl, inr, ℕ, suc, ◌+◌, ◌*◌, ◌^◌, ◌<◌, ◌≤◌, Bool, true, false, true≢false, cond}
use Rattle.std.proofs.Common.{eqb, ne_eqb, not, List, [], length, get_or, set, refl, sym, ap, ◌∙◌, subst}
use Rattle.std.proofs.Common.{arith, Option, Some, None, IfSome}
use Rattle.std.specs.Prelude.{◌&&◌, is_none}
use Rattle.std.specs.List.{Contains}
use Rattle.std.proofs.lemmas.Bool.{and_from, and_parts, false_from_ne_true}
use Rattle.serial_model.specs.declared.key.Key.{Key}
use Rattle.homes.specs.declared.places.At.{At}
use Rattle.homes.specs.declared.places.At.TheVariants.{Root, In}
use Rattle.homes.specs.declared.places.Holder.TheVariants.{Free, Held}
use Rattle.homes.specs.declared.places.Home.{Home}
use Rattle.homes.specs.declared.places.Move.{Move}
use Rattle.homes.specs.declared.places.Span.{Span}
use Rattle.homes.specs.declared.places.Spot.{Spot}
use Rattle.homes.specs.Homes.{same_at, has_key, is_free}
use Rattle.homes.specs.Laws.{same_at-self, same_at-true}
use Rattle.wire_form.specs.Words.{at_bit, slot_field}
use Rattle.snapshot_store.specs.Places.{page as page_words}
use Rattle.commit_core.specs.declared.place.Place.{Place}
use Rattle.commit_core.specs.declared.seat.Seat.{Seat}
use Rattle.commit_core.specs.declared.story.Story.{Story}
use Rattle.commit_core.specs.declared.seat.Stage.TheVariants.{Idle}
use Rattle.commit_core.specs.CoreState.{last_marked}
use Rattle.commit_core.specs.Keys.{IsUpTo}
use Rattle.commit_core.specs.Event.{Moved}
use Rattle.commit_core.specs.Moves.{with_moves}
use Rattle.commit_core.specs.Places.{place_of, stands, stands_at, holder_is}
use Rattle.drop_core.specs.declared.event.Act.TheVariants.{Install}
use Rattle.drop_core.specs.declared.grip.Grip.{Grip}
use Rattle.drop_core.specs.declared.table.Led.TheVariants.{From}
use Rattle.drop_core.specs.declared.table.Page.{Page}
use Rattle.drop_core.specs.declared.table.Page.TheVariants.{Blank, Leaf, Inner, Split}
use Rattle.drop_core.specs.declared.table.Pointer.{Pointer}
use Rattle.drop_core.specs.declared.table.Slot.{Slot}
use Rattle.drop_core.specs.declared.table.Table.{Table}
use Rattle.drop_core.specs.Event.{is_owned, is_published, is_open, can_install}
use Rattle.drop_core.specs.Event.{is_allowed as page_allows, effect as page_effect, moves, without, installed as put_in}
use Rattle.drop_core.specs.Sound.{span_at}
use Rattle.drop_core.specs.Table.{slot_of, page_of, pointer_of, has_slot, at_index}
use Rattle.drop_core.specs.Table.{has_pointer, is_never, is_led, is_live}
use Rattle.engine_rule.specs.Event.{Joined, commit_lets, may_move, after_moves, joined}
use Rattle.engine_rule.specs.declared.event.JointAct.TheVariants.{Turn as TurnPages}
use Rattle.engine_pages.specs.declared.layout.Layout.{Layout}
use Rattle.engine_pages.specs.declared.view.Copied.{Copied}
use Rattle.engine_pages.specs.declared.view.Loaded.{Loaded}
use Rattle.engine_pages.specs.declared.view.NewInner.{NewInner}
use Rattle.engine_pages.specs.declared.view.NewLeaf.{NewLeaf}
use Rattle.engine_pages.specs.declared.view.Role.TheVariants.{Keeper, Worker}
use Rattle.engine_pages.specs.declared.view.Took.{Took}
use Rattle.engine_pages.specs.declared.view.View.{View}
use Rattle.engine_pages.specs.declared.view.Way.{Way}
use Rattle.engine_pages.specs.Layout.{root_at, slot_at, page_at, snap_at}
use Rattle.engine_pages.specs.Pages.{keys_from, is_array, is_leaf_span, child_span, decl_of, Fenced, IsLaidOut, AreLaidOut}
use Rattle.engine_pages.specs.Pointers.{IsPointerAt, WaysAgree}
use Rattle.engine_pages.specs.Records.{IsRecordIn}
use Rattle.engine_pages.specs.Resident.{IsNamed}
use Rattle.engine_pages.specs.Rule.{Shared, IsWay, StillLoaded}
use Rattle.engine_pages.specs.Stays.{IsKnown}
use Rattle.engine_pages.specs.Steps.{kept_at, seen_at}
use Rattle.engine_pages.specs.Touches.{IsFacing, Other, Touched, has_took}
use Rattle.engine_pages.specs.Views.{IsActive, seat_number}
use Rattle.engine_pages.specs.Words.{ShowsWords, ShowsPointer, ShowsPage, ShowsRecord, ShowsTree, is_shown}
use Rattle.engine_pages.specs.Words.{IsOverwritten, state_number, lock_field, spot}
use Rattle.engine_pages.proofs.Dealing.{blamed, faces}
use Rattle.engine_pages.proofs.Facing.{Deals, facing_agree, facing_aside, takes_same}
use Rattle.engine_pages.proofs.Filling.{owned_never}
use Rattle.engine_pages.proofs.Joint.{Laws, shared_now, effect_of, may_do, joint_act, seat_sound}
use Rattle.engine_pages.proofs.Named.{more_same}
use Rattle.engine_pages.proofs.OwnView.{own_fits}
use Rattle.engine_pages.proofs.PagesStay.{leaf_shape}
use Rattle.engine_pages.proofs.PointerLaws.{PointerIs}
use Rattle.engine_pages.proofs.WayLaws.{ways_agree}
use Rattle.engine_pages.proofs.Seats.{by_equal, is_at}
use Rattle.engine_pages.proofs.SlotFacts.{slot_other, slot_same, head_same, moved_same, known_same, draft_same, within_same, shut_same}
use Rattle.engine_pages.proofs.SlotSteps.{acted_as, own_pages, trees_same}
use Rattle.engine_pages.proofs.TreeFacts.{inner_at, new_inner_at, new_leaf_at, same_fence, sealed_at}
use Rattle.engine_pages.proofs.Slotlists.{without_same, without_other, at_others}
use Rattle.engine_pages.proofs.Turns.{Turn, Stride, Begins, marks_stay, tried_goes, written}
use Rattle.engine_pages.proofs.Words.{tree_shown}
use Rattle.dual_pointer.specs.Installs.{leading_word, led_to}
use Rattle.dual_pointer.proofs.InstallFacts.{Installable, worker_number, by_published, moved_idle}
use Rattle.dual_pointer.proofs.InstallFacts.{there as pointer_there, free as pointer_free, none as pointer_none}
use Rattle.dual_pointer.proofs.InstallFacts.{live as pointer_live, made_never as unled_made}
use Rattle.dual_pointer.proofs.Rows.{buried_none}
use Rattle.dual_pointer.proofs.Stands.{at_cases, words_before, stand, IsAmong, apart, IsInPage, StandsAt, array_over}
use Rattle.dual_pointer.proofs.Stands.{before_none, before_some, stands_at_place, among, way_to, IsOfPage, of_page, tree_pointed}
use Rattle.dual_pointer.proofs.Stands.{laid_spans}

module _ (laws : Laws) (l : Layout) (words : List ℕ) (views : List View) (s : Shared) (id : ℕ) (v : View)
    (active : IsActive v.role) (b : Begins l words views s id v) (x : At) (sp : Span) (at t expected : ℕ)
    (here : IsPointerAt v x sp at) (low : expected < 2 ^ 32) (n-is : get_or words at 0 ≡ expected)
    (worker-is : v.role ≡ Keeper → ⊥) (unlocked : v.seat.locks ≡ []) (idle : v.seat.stage ≡ Idle)
    (c : Installable laws l words views s id v b x sp at expected here low n-is t) (ws : List Way) where
  abbrev m : Story
  m = s.story

  abbrev d : Table
  d = s.table

  abbrev p : ℕ
  p = seat_number v.role

  abbrev q : Pointer
  q = pointer_of d x

  abbrev mv : List Move
  mv = moves d (Install x t)

  abbrev n : Story
  n = with_moves m mv

  abbrev e : Table
  e = put_in d x t

  worker : p ≢ 0
  worker = worker_number v.role active worker-is

  there : PointerIs l words s v x sp at
  there = pointer_there laws l words views s id v b x sp at expected here low n-is

  free : q.holder ≡ Free
  free = pointer_free laws l words views s id v b x sp at expected here low n-is

  none : q.slot ≡ None
  none = pointer_none laws l words views s id v b x sp at expected here low n-is

  live : is_live d x ≡ true
  live = pointer_live laws l words views s id v b x sp at expected here low n-is

  made : has_slot (s.grips p).made t ≡ true
  made = ap (λ (g : Grip). has_slot g.made t) (sym b.grip) ∙ c.made

  made_never : (u : ℕ) → has_slot v.grip.made u ≡ true → is_never (slot_of d u).led ≡ true
  made_never = unled_made laws l words views s id v b x sp at expected here low n-is

  never : is_never (slot_of d t).led ≡ true
  never = made_never t c.made

  known_other : (u : ℕ) → IsKnown d u → u ≢ t
  known_other u known same = true≢false (sym never ∙ ap (λ i. is_never (slot_of d i).led) (sym same) ∙ known)

  -- the pointer is a root's, or in a page to which something has led
  place : StandsAt l s at x
  place = stands_at_place l words views s id v x sp at b here

  inner : (y : Spot) → x ≡ In y → IsInPage l s y at
  inner y is-in = subst (StandsAt l s at) is-in place

  elsewhere : (u j : ℕ) → is_never (slot_of d u).led ≡ true → x ≡ at_index u j → ⊥
  elsewhere u j unled same = true≢false (sym unled ∙ (inner (record { slot = u; index = j }) same).known)

  -- ---- the table after it

  pointer_new : pointer_of e x ≡ record q { slot = Some t }
  pointer_new = ap (λ (b : Bool). cond b (record q { slot = Some t }) (pointer_of d x)) (same_at-self x)

  pointer_old : (y : At) → same_at x y ≡ false → pointer_of e y ≡ pointer_of d y
  pointer_old y miss = ap (λ (b : Bool). cond b (record q { slot = Some t }) (pointer_of d y)) miss

  miss : (y : At) → (x ≡ y → ⊥) → same_at x y ≡ false
  miss y other = false_from_ne_true (same_at x y) (λ e. other (same_at-true x y e))

  spans : (y : At) → span_at e y ≡ span_at d y
  spans y = elim (at_cases x y) [
    | inl same ↦ ap (λ z. span_at e z) (sym same) ∙ (ap (λ (z : Pointer). z.span) pointer_new ∙ ap (λ z. span_at d z) same)
    | inr other ↦ ap (λ (z : Pointer). z.span) (pointer_old y other.1)
  ]

  slot_new : slot_of e t ≡ record (slot_of d t) { led = From x }
  slot_new = slot_same d t (record (slot_of d t) { led = From x })

  slot_old : (u : ℕ) → u ≢ t → slot_of e u ≡ slot_of d u
  slot_old u other = slot_other d t u (record (slot_of d t) { led = From x }) other

  states : (u : ℕ) → (slot_of e u).state ≡ (slot_of d u).state
  states u =
      by_equal u t (λ k. (slot_of e k).state ≡ (slot_of d k).state) (ap (λ (z : Slot). z.state) slot_new)
      (λ other. ap (λ (z : Slot). z.state) (slot_old u other))

  known_led : (u : ℕ) → IsKnown d u → (slot_of e u).led ≡ (slot_of d u).led
  known_led u known = ap (λ (z : Slot). z.led) (slot_old u (known_other u known))

  -- ---- it may happen

  may : may_do s p (TurnPages (Install x t)) ≡ true
  may =
      let ready : (has_slot (s.grips p).made t && (is_published (slot_of d t).state && is_never (slot_of d t).led)) ≡ true =
      and_from (has_slot (s.grips p).made t) (is_published (slot_of d t).state && is_never (slot_of d t).led) made
      (and_from (is_published (slot_of d t).state) (is_never (slot_of d t).led) c.state never) in
      let opened : is_open d x ≡ true = and_from (is_live d x) (is_free q.holder) live (ap is_free free) in
      let inst : can_install d (s.grips p) x t ≡ true =
      and_from (is_open d x) _ opened (and_from (is_none q.slot) _ (ap is_none none) (and_from _ _ ready c.fits)) in
      and_from (page_allows p d (s.grips p) (Install x t))
      (commit_lets p m (s.seats p) d (Install x t) && may_move p m (s.seats p) (moves d (Install x t)))
      (and_from (not (eqb p 0)) (can_install d (s.grips p) x t) (ap not (ne_eqb p 0 worker)) inst)
      (and_from (commit_lets p m (s.seats p) d (Install x t)) (may_move p m (s.seats p) (moves d (Install x t))) refl c.moving)

  -- what the moves leave
  moved-is : after_moves p m (s.seats p) mv ≡ record { story = n; seat = s.seats p }
  moved-is =
      moved_idle p m (s.seats p) mv (ap (λ (z : Seat). z.locks) (sym b.own.seat) ∙ unlocked)
      (ap (λ (z : Seat). z.stage) (sym b.own.seat) ∙ idle)

  places-are : (y : Spot) → place_of n.places y ≡ place_of m.places y
  places-are y = ap (λ (z : List (Spot × Place)). place_of z y) (buried_none mv m.homes m.places c.unleft)

  -- ---- the layout of pages

  laid_out : AreLaidOut l.decls s.trees e
  laid_out y u now-live leads = elim (at_cases x y) [
    | inl same ↦
        let to-t : u ≡ t = some_same u t (sym leads ∙ ap (λ (z : Pointer). z.slot) (ap (pointer_of e) (sym same) ∙ pointer_new)) in
        let span : span_at e y ≡ sp = spans y ∙ (ap (λ z. span_at d z) (sym same) ∙ there.span) in
        subst (λ (z : Span). IsLaidOut (decl_of l.decls z.storage) s.trees e u z) (sym span)
        (subst (λ k. IsLaidOut (decl_of l.decls sp.storage) s.trees e k sp) (sym to-t)
        (laid_spans (decl_of l.decls sp.storage) s.trees d e t sp refl refl (λ j. spans (at_index t j)) c.laid))
    | inr other ↦
        let leads-was : (pointer_of d y).slot ≡ Some u = ap (λ (z : Pointer). z.slot) (sym (pointer_old y other.1)) ∙ leads in
        subst (λ (z : Span). IsLaidOut (decl_of l.decls z.storage) s.trees e u z) (sym (spans y))
        (laid_spans (decl_of l.decls (span_at d y).storage) s.trees d e u (span_at d y) refl refl (λ j. spans (at_index u j))
        (b.sound.laid_out y u (was_live y u now-live leads-was) leads-was))
  ]
    where
      some_same : (a c : ℕ) → Some a ≡ Some c → a ≡ c
      some_same a c e = cc

      was_live : (y : At) (u : ℕ) → is_live e y ≡ true → (pointer_of d y).slot ≡ Some u → is_live d y ≡ true
      was_live (Root r) u now leads = refl
      was_live (In y) u now leads =
          let both = and_parts (is_led (slot_of e y.slot).led) (has_pointer (page_of d y.slot) y.index) now in
          by_equal y.slot t (λ k. k ≡ y.slot → is_live d (In y) ≡ true)
          (λ is.
          absurd (c.alone y.index u (ap (λ k. has_pointer (page_of d k) y.index) is ∙ both.1)
          (ap (λ k. (pointer_of d (at_index k y.index)).slot) is ∙ leads)))
          (λ other _.
          and_from (is_led (slot_of d y.slot).led) (has_pointer (page_of d y.slot) y.index)
          (ap (λ (z : Slot). is_led z.led) (sym (slot_old y.slot other)) ∙ both.0) both.1) refl

  -- ---- words

  abbrev words' : List ℕ
  words' = set words at (leading_word expected t)

  at-is : (at ≡ stand l s.trees x) × IsAmong l s.trees x
  at-is = among l s at x place

  within : at < length words
  within = by_at x at-is.0 at-is.1 b.sound.shown.long
    where
      by_at : (z : At) → at ≡ stand l s.trees z → IsAmong l s.trees z → length words ≡ (32 + 65 * l.slots) + 64 * l.resident → at < length words
      by_at (Root r) e few long = omega arith
      by_at (In y) e few long = omega (arith, few.0, few.1)

  others : (j : ℕ) → j ≢ at → get_or words' j 0 ≡ get_or words j 0
  others j other = (written words at (leading_word expected t) within).others j other

  -- no other kind of word stands there
  not_low : (j : ℕ) → j < 10 → j ≢ at
  not_low j few = by_at x at-is.0 at-is.1
    where
      by_at : (z : At) → at ≡ stand l s.trees z → IsAmong l s.trees z → j ≢ at
      by_at (Root r) e less same = absurd (omega arith)
      by_at (In y) e less same = absurd (omega arith)

  not_slot : (j : ℕ) → 26 ≤ j → j < 32 + l.slots → j ≢ at
  not_slot j from few = by_at x at-is.0 at-is.1
    where
      by_at : (z : At) → at ≡ stand l s.trees z → IsAmong l s.trees z → j ≢ at
      by_at (Root r) e less same = absurd (omega arith)
      by_at (In y) e less same = absurd (omega arith)

  not_snap : (j : ℕ) → 32 + 65 * l.slots ≤ j → j ≢ at
  not_snap j from = by_at x at-is.0 at-is.1
    where
      by_at : (z : At) → at ≡ stand l s.trees z → IsAmong l s.trees z → j ≢ at
      by_at (Root r) e less same = absurd (omega arith)
      by_at (In y) e less same = absurd (omega (arith, less.0, less.1))

  -- a page in which the pointer isn't has not its word
  not_page : (u i : ℕ) → i < 64 → ((y : Spot) → x ≡ In y → IsInPage l s y at → u ≡ y.slot → ⊥) → page_at l.slots u i ≢ at
  not_page u i less other same = by_at x at-is.0 at-is.1 refl
    where
      by_at : (z : At) → at ≡ stand l s.trees z → IsAmong l s.trees z → x ≡ z → ⊥
      by_at (Root r) e some is-z = absurd (omega arith)
      by_at (In y) e some is-z = other y is-z (inner y is-z) (omega (arith, some.1))

  not_unled : (u i : ℕ) → i < 64 → is_never (slot_of d u).led ≡ true → page_at l.slots u i ≢ at
  not_unled u i less unled =
      not_page u i less (λ y is-in in-page same. true≢false (sym unled ∙ ap (λ k. is_never (slot_of d k).led) same ∙ in-page.known))

  not_leaf : (u i : ℕ) (ks : List Key) → i < 64 → page_of d u ≡ Leaf ks → page_at l.slots u i ≢ at
  not_leaf u i ks less is =
      not_page u i less (λ y is-in in-page same.
      let no : Leaf ks ≡ Inner in-page.count = sym is ∙ (ap (page_of d) same ∙ in-page.page) in absurd (cc))

  not_split : (u i : ℕ) → i < 64 → page_of d u ≡ Split → page_at l.slots u i ≢ at
  not_split u i less is =
      not_page u i less (λ y is-in in-page same.
      let no : Split ≡ Inner in-page.count = sym is ∙ (ap (page_of d) same ∙ in-page.page) in absurd (cc))

  -- the word of another pointer
  pointer_shows : (z : At) (j : ℕ) → stand l s.trees z ≡ j → IsAmong l s.trees z
      → ShowsPointer s.resident.places words j (pointer_of d z)
      → ShowsPointer s.resident.places words' j (pointer_of e z)
  pointer_shows z j stood few was = elim (at_cases x z) [
    | inl same ↦
        let at-z : j ≡ at = sym stood ∙ (ap (stand l s.trees) (sym same) ∙ sym at-is.0) in
        subst (λ k. ShowsPointer s.resident.places words' k (pointer_of e z)) (sym at-z)
        (subst (λ y. ShowsPointer s.resident.places words' at (pointer_of e y)) same
        (subst (ShowsPointer s.resident.places words' at) (sym pointer_new) new_shows))
    | inr other ↦
        subst (ShowsPointer s.resident.places words' j) (sym (pointer_old z other.1)) record {
          number = was.number;
          word = others j (λ e. apart l s.trees x z at-is.1 few other.0 (stood ∙ (e ∙ at-is.0))) ∙ was.word;
          page = was.page;
          slot = was.slot;
          named = was.named;
          keepers = was.keepers;
        }
  ]
    where
      new_shows : ShowsPointer s.resident.places words' at (record q { slot = Some t })
      new_shows =
          let shows = there.shows in record {
            number = shows.number;
            word =
                (written words at (leading_word expected t) within).here
                ∙ (let a = shows.word in
                let c = n-is in
                let k : lock_field q.holder ≡ 0 = ap lock_field free in
                let no : slot_field q.slot ≡ 0 = ap slot_field none in omega arith);
            page = shows.page;
            slot = let a = c.slot in let few = b.sound.few.0 in omega arith;
            named = shows.named;
            keepers = shows.keepers;
          }

  -- the words of another page
  page_shows : (u : ℕ) (page : Page) → u < l.slots → s.trees u ≡ None → page_of d u ≡ page
      → ShowsPage s.resident.places words l.slots u (place_of m.places) d page
      → ShowsPage s.resident.places words' l.slots u (place_of n.places) e page
  page_shows u Blank few tree is-page h = tt
  page_shows u (Leaf ks) few tree is-page h = (
    h.0,
    (λ i less.
        let was = h.1 i less in
        let most : length ks ≤ 32 = h.0 in
        subst (ShowsRecord words' (page_at l.slots u (2 * i))) (sym (places-are (spot u i))) record {
          word = others (page_at l.slots u (2 * i)) (not_leaf u (2 * i) ks (omega arith) is-page) ∙ was.word;
          value =
              let next : page_at l.slots u (2 * i) + 1 ≡ page_at l.slots u (2 * i + 1) = omega arith in
              ap (λ k. get_or words' k 0) next
              ∙ (others (page_at l.slots u (2 * i + 1)) (not_leaf u (2 * i + 1) ks (omega arith) is-page)
              ∙ (ap (λ k. get_or words k 0) (sym next) ∙ was.value));
          never = was.never;
          small = was.small;
        }),
  )
  page_shows u (Inner k) few tree is-page h = (
    h.0,
    (λ j less.
        let most : k ≤ 64 = h.0 in
        let none : words_before (s.trees u) ≡ 0 = before_none s.trees u tree in
        pointer_shows (at_index u j) (page_at l.slots u j) (omega (arith, none)) (few, omega (arith, none)) (h.1 j less)),
  )
  page_shows u Split few tree is-page h = tt

  -- and those of a tree's page
  tree_shows : (u : ℕ) (f : Fenced) → u < l.slots → s.trees u ≡ Some f
      → ShowsTree s.resident.places words l.slots u f (IsOverwritten m) (place_of m.places) d (page_of d u)
      → ShowsTree s.resident.places words' l.slots u f (IsOverwritten n) (place_of n.places) e (page_of d u)
  tree_shows u f few tree h = elim (of_page x u) [
    | inl of ↦
        let in-page = inner of.spot of.is in
        let page-is : page_of d u ≡ Inner in-page.count = ap (page_of d) (sym of.slot) ∙ in-page.page in
        let before : words_before (s.trees u) ≡ 4 = before_some s.trees u f tree in
        subst (λ (z : Page). ShowsTree s.resident.places words' l.slots u f (IsOverwritten n) (place_of n.places) e z) (sym page-is)
        (tree_pointed s.resident.places words words' l.slots u f (IsOverwritten m) (IsOverwritten n) (place_of m.places) (place_of n.places) d e in-page.count
        (λ i less. others (page_at l.slots u i) (not_word of f tree i (inl less) (omega arith)))
        (λ i from less. others (page_at l.slots u i) (not_word of f tree i (inr from) less))
        (λ j less most was.
        pointer_shows (at_index u j) (page_at l.slots u (4 + j)) (omega (arith, before)) (few, omega (arith, before)) was)
        (λ j. spans (at_index u j)) refl
        (subst (λ (z : Page). ShowsTree s.resident.places words l.slots u f (IsOverwritten m) (place_of m.places) d z) page-is h))
    | inr other ↦
        tree_shown s.resident.places words words' l.slots u f (IsOverwritten m) (IsOverwritten n) (place_of m.places) (place_of n.places) d e (page_of d u)
        (λ i less. others (page_at l.slots u i) (not_page u i less (λ y is-in in-page same. other y is-in (sym same))))
        (λ i. places-are (spot u i)) (λ k i over. over)
        (λ j. pointer_old (at_index u j) (miss (at_index u j) (λ same. other (record { slot = u; index = j }) same refl)))
        refl h
  ]
    where
      -- it is none of the words of the page that aren't pointers'
      not_word : (of : IsOfPage x u) (f : Fenced) → s.trees u ≡ Some f → (i : ℕ) → (i < 4) ⊎ (34 ≤ i) → i < 64
          → page_at l.slots u i ≢ at
      not_word of f tree i outside less same =
          let in-page = inner of.spot of.is in
          let there : s.trees (of.spot).slot ≡ Some f = ap s.trees of.slot ∙ tree in
          let before : words_before (s.trees (of.spot).slot) ≡ 4 = before_some s.trees (of.spot).slot f there in
          let index = in-page.fan f there in
          let word = in-page.word in
          let slot = of.slot in
          elim outside [ inl low ↦ absurd (omega arith) | inr high ↦ absurd (omega arith) ]

  pub shows : ShowsWords l words' n e s.trees s.resident
  shows =
      let h = b.sound.shown in record {
        long = (written words at (leading_word expected t) within).long ∙ h.long;
        clock = others 0 (not_low 0 (omega arith)) ∙ h.clock;
        decisions = others 1 (not_low 1 (omega arith)) ∙ h.decisions;
        published = others 26 (not_slot 26 (omega arith) (omega arith)) ∙ h.published;
        unused = λ j from low other. others j (not_unused j from low) ∙ h.unused j from low other;
        roots = λ r less. let few = b.sound.few.1 in pointer_shows (Root r) (root_at r) refl (omega arith) (h.roots r less);
        slots = λ u less.
            let was = h.slots u less in record {
              word = others (slot_at u) (not_slot (slot_at u) (omega arith) (omega arith)) ∙ (was.word
                  ∙ by_equal u t (λ k. ((at_bit 0 (slot_of d k).passes + at_bit 16 (state_number (slot_of d k).state)) + at_bit 18 (slot_of d k).times) ≡ ((at_bit 0 (slot_of e k).passes + at_bit 16 (state_number (slot_of e k).state)) + at_bit 18 (slot_of e k).times))
                  (ap (λ (z : Slot). (at_bit 0 z.passes + at_bit 16 (state_number z.state)) + at_bit 18 z.times) (sym slot_new))
                  (λ other. ap (λ (z : Slot). (at_bit 0 z.passes + at_bit 16 (state_number z.state)) + at_bit 18 z.times) (sym (slot_old u other))));
              times = by_equal u t (λ k. (slot_of d k).times < 2 ^ 46 → (slot_of e k).times < 2 ^ 46)
                  (λ few. subst (λ (z : Slot). z.times < 2 ^ 46) (sym slot_new) few)
                  (λ other few. subst (λ (z : Slot). z.times < 2 ^ 46) (sym (slot_old u other)) few) was.times;
            };
        pages = λ u less now-shown tree.
            page_shows u (page_of d u) less tree refl (h.pages u less (ap is_shown (sym (states u)) ∙ now-shown) tree);
        treed = λ u f less now-shown tree.
            tree_shows u f less tree (h.treed u f less (ap is_shown (sym (states u)) ∙ now-shown) tree);
        resident = λ i j pos past less.
            others (snap_at l.slots i j) (not_snap (snap_at l.slots i j) (omega arith)) ∙ h.resident i j pos past less;
      }
    where
      -- a pointer of a root that isn't declared is none of these
      not_unused : (j : ℕ) → root_at (length l.decls) ≤ j → j < 32 → j ≢ at
      not_unused j from low = by_place x place at-is.0
        where
          by_place : (z : At) → StandsAt l s at z → at ≡ stand l s.trees z → j ≢ at
          by_place (Root r) is e same = let few = is.1 in absurd (omega arith)
          by_place (In y) is e same = absurd (omega arith)

  -- ---- the own view

  abbrev w : View
  w = record (led_to t at (get_or words at 0) v) { ways = ws }

  no_took : (k : Took) → Contains v.took k → ⊥
  no_took k has =
      let held = b.own.took k has in
      let seat = seat_sound l s p b.few b.sound.joint in
      let stands-held : holder_is p (stands m.places m.homes k.key).holder ≡ true =
      subst (λ (h : Home). holder_is p (stands_at m.places h).holder ≡ true) (sym held.1.home) held.1.own in
      let listed = seat.lock_owners.listed k.key stands-held in
      true≢false (sym listed ∙ ap (λ (z : Seat). has_key z.locks k.key) (sym b.own.seat) ∙ ap (λ (z : List Key). has_key z k.key) unlocked)

  loaded_same : (o : Option Loaded) → IfSome o (StillLoaded m.history m.decided m.places v.seat.kept)
      → IfSome o (StillLoaded m.history m.decided n.places v.seat.kept)
  loaded_same None h = tt
  loaded_same (Some y) h = λ c has. elim (h c has) [
    | inl value ↦ inl value
    | inr later ↦ elim later [
      | inl over ↦ inr (inl over)
      | inr dead ↦ inr (inr (ap (λ (z : Place). z.holder) (places-are y.spot) ∙ dead))
    ]
  ]

  pub old_way : (z : Way) → Contains v.ways z → IsWay l e s.trees v.grip.holds z
  old_way z has =
      let was = b.pages.ways z has in record {
        within = was.within;
        held = was.held;
        known = ap is_never (known_led z.slot was.known) ∙ was.known;
        over = laid_spans (decl_of l.decls z.span.storage) s.trees d e z.slot z.span refl refl
            (λ j. spans (at_index z.slot j)) was.over;
      }

  pub new_way : has_slot v.grip.holds t ≡ true → IsWay l e s.trees v.grip.holds (record { slot = t; span = sp })
  new_way held = record {
    within = c.slot;
    held = held;
    known = ap (λ (z : Slot). is_never z.led) slot_new;
    over = laid_spans (decl_of l.decls sp.storage) s.trees d e t sp refl refl (λ j. spans (at_index t j)) c.laid;
  }

  -- a pointer that the pass has shut is another one
  held_other : (y : At) → (pointer_of d y).holder ≡ Held p → x ≡ y → ⊥
  held_other y held same =
      let no : Free ≡ Held p = sym free ∙ (ap (λ (z : At). (pointer_of d z).holder) same ∙ held) in absurd (cc)

  comes : effect_of s p (TurnPages (Install x t)) ≡ record { story = n; seat = w.seat; table = e; grip = w.grip }
  comes =
      let grip : (page_effect p d (s.grips p) (Install x t)).grip ≡ w.grip =
      ap (λ (g : Grip). let z : Grip = record g { made = without g.made t } in z) (sym b.grip) in
      ap (λ (z : Moved). joined z (page_effect p d (s.grips p) (Install x t))) moved-is
      ∙ (ap (λ (y : Seat). let j : Joined = record { story = n; seat = y; table = e; grip = (page_effect p d (s.grips p) (Install x t)).grip } in j) (sym b.own.seat)
      ∙ ap (λ (y : Grip). let j : Joined = record { story = n; seat = w.seat; table = e; grip = y } in j) grip)

  -- ---- who is in the way

  -- a record of these ways isn't the pointer
  not_record : (u i : ℕ) (span : Span) → i < 64 → is_array l.decls span.storage ≡ true → is_leaf_span span ≡ true
      → IsLaidOut (decl_of l.decls span.storage) s.trees e u span → page_at l.slots u i ≢ at
  not_record u i span less kind leaf over =
      let array = array_over (decl_of l.decls span.storage) s.trees e u span kind over in
      not_leaf u i (keys_from span.storage span.low 32) less (array.1.page ∙ leaf_shape span leaf)

  -- What is asked of the ways that the pass has after it.
  pub record HasWays : Type 0 where
    pub ways : (z : Way) → Contains ws z → IsWay l e s.trees v.grip.holds z
    pub old : (z : Way) → Contains v.ways z → Contains ws z
    pub new : (z : Way) → Contains ws z → Contains v.ways z ⊎ (z.slot ≡ t)

  pub agree : HasWays → WaysAgree ws
  agree h = ways_agree l e s.trees v.grip.holds ws h.ways

  record_apart : HasWays → (k : Key) (z : Spot) (j : ℕ) → IsRecordIn l.decls l.slots ws k z j → j ≢ at
  record_apart h k z j is same =
      let way = h.ways is.way is.has in
      let index : z.index < 32 = is.index in
      not_record z.slot (2 * z.index) (is.way).span (omega arith) is.kind is.leaf
      (subst (λ u. IsLaidOut (decl_of l.decls (is.way).span.storage) s.trees e u (is.way).span) is.slot way.over)
      (sym is.word ∙ same)

  pub facing : HasWays → (worker : ℕ) → v.role ≡ Worker worker
      → IsFacing l words' (Touched views) (suc worker) ws v.took w.reads v.gone
  facing h worker role =
      let wide = facing_agree l words (Touched views) (suc worker) v.ways ws v.took v.reads v.gone h.old (agree h)
      locked_by (faces l words views s id v b worker role) in
      facing_aside l words (Touched views) (suc worker) ws v.took v.reads v.gone at wide words' w.reads
      (leading_word (get_or words at 0) t) record {
        new = record { word = at; seen = leading_word (get_or words at 0) t; was = seen_at v.reads at; kept = kept_at v.reads at };
        word = refl;
        seen = refl;
        was = refl;
        is = refl;
      } (λ k z is. record_apart h k z at is refl)
      (λ k z j is other. others j other)
      (λ u i less few word left.
      let y = way_to l words views s id v b x sp at here u i less few word in (y.0, h.old y.0 y.1, y.2))
    where
      locked_by : (k : Key) (z : Spot) (j : ℕ) → IsRecordIn l.decls l.slots ws k z j → 2 ^ 60 ≤ get_or words j 0
          → (has_took v.took k z ≡ true) ⊎ Other (Touched views) (suc worker) k
      locked_by k z j is high = elim (h.new is.way is.has) [
        | inl old ↦ (faces l words views s id v b worker role).locked k z j (record {
          way = is.way;
          has = old;
          slot = is.slot;
          there = is.there;
          kind = is.kind;
          leaf = is.leaf;
          index = is.index;
          key = is.key;
          word = is.word;
        }) high
        | inr new ↦
            let way = h.ways is.way is.has in
            let slot : z.slot ≡ t = sym is.slot ∙ new in
            let over = laid_spans (decl_of l.decls (is.way).span.storage) s.trees e d t (is.way).span refl refl
            (λ j. sym (spans (at_index t j)))
            (subst (λ u. IsLaidOut (decl_of l.decls (is.way).span.storage) s.trees e u (is.way).span) new way.over) in
            let low = c.low_words (is.way).span z.index is.index is.kind is.leaf over in
            let word : get_or words j 0 ≡ get_or words (page_at l.slots t (2 * z.index)) 0 =
            ap (λ i. get_or words i 0) (is.word ∙ ap (λ u. page_at l.slots u (2 * z.index)) slot) in
            absurd (omega (arith, low, word, high))
      ]

  deals : HasWays → Deals l words words' s p views v w
  deals h = record {
    touched = λ r k. omega (arith, takes_same r k v w refl);
    locks = λ k has. inl has;
    changes = λ k z j is.
        inl (others j (λ same.
        not_record z.slot (2 * z.index) is.span (let index : z.index < 32 = is.index in omega arith) is.kind is.leaf
        (laid_spans (decl_of l.decls is.span.storage) s.trees d e z.slot is.span refl refl (λ i. spans (at_index z.slot i)) is.over)
        (sym is.word ∙ same)));
    facing = λ worker role. facing h worker role;
    blamed = blamed l words views s id v b;
  }

  pub install_stride : (f : ℕ → ℕ) → f (get_or words at 0) ≡ leading_word expected t
      → HasWays → (tells : View → ℕ → View → Type 0) → tells v (get_or words at 0) w
      → Stride l words views s p v at f tells
  install_stride f f-is ways tells tells-so =
      let h = b.sound in
      let fv = b.fits in
      let done = acted_as l s p (effect_of s p (TurnPages (Install x t))) n e w comes
      (joint_act laws l s p (TurnPages (Install x t)) b.few may h.joint) in
      record {
        story = n;
        table = e;
        trees = s.trees;
        resident = s.resident;
        view = w;
        sound = done.sound;
        stays = done.stays;
        trees-stay = trees_same p s;
        turn = subst (λ y. Turn l words (set words at y) views s (shared_now s p n e s.trees s.resident w) p v w) (sym f-is) record {
          small = record { first = h.small.first; drawn = h.small.drawn; clock = h.small.clock };
          valued = h.valued;
          shown = shows;
          marks = marks_stay words words' s.seats p v.seat w.seat h.marks b.own.seat refl (λ j lo hi. others j (not_low j hi));
          marked = λ place mark has. has;
          marks_low = subst (λ (z : Seat). last_marked z.marks < m.epoch) (sym b.own.seat) (h.marked p);
          drawn = λ a has. inl has;
          tried = tried_goes m n s.seats p v.seat w.seat b.own.seat refl refl refl (inl refl) h.tried;
          fits = own_fits l m n s.seats v w active fv fv.part refl refl refl refl refl (λ place mark has. has) record {
            history = fv.history;
            decided = fv.decided;
            heard = fv.heard;
            mine = fv.mine;
            mine_own = fv.mine_own;
            records = fv.records;
            kept = λ k y a has. subst (λ (z : Place). IsUpTo a.number z.content.number) (sym (places-are y)) (fv.kept k y a has);
            versions = fv.versions;
            loaded = loaded_same v.loaded fv.loaded;
            tried = b.own.tried;
            took = λ k has. absurd (no_took k has);
            locked = b.own.locked;
            low = fv.low;
            epoch = λ keeper. (fv.keepers keeper).epoch;
            past = λ keeper. let was = (fv.keepers keeper).past in record { clock = was.clock; tried = was.tried };
          };
          role = refl;
          made = refl;
          mine = λ g. refl;
          drew = refl;
          few = omega arith;
          room = omega (arith, h.sums.room);
          deals = deals ways;
          slots = refl;
          within = h.within;
          more = more_same s.resident;
          unpublished = λ other. refl;
          named = let was = h.named in record { count = was.count; none = was.none; says = was.says; stand = was.stand; below = was.below };
          laid_out = laid_out;
          pages = own_pages l words words' s n e s.trees s.resident v w active refl refl b.pages record {
            within = b.pages.within;
            ways = ways.ways;
            drafts = λ z has.
                let was = b.pages.drafts z has in
                let published = by_published (slot_of d t).state c.state in
                let other : z.slot ≢ t = λ same. true≢false (sym was.owned ∙ ap (λ k. is_owned (slot_of d k).state) same ∙ ap is_owned published) in
                let unled = owned_never d z.slot (slot_of d z.slot).state (slot_of d z.slot).led was.owned (h.joint.pages.table.holds_counted.led z.slot) in
                draft_same words words' l.slots d e v.grip.made w.grip.made z (without_other v.grip.made t z.slot other ∙ was.made)
                (states z.slot) refl (λ i less. others (page_at l.slots z.slot i) (not_unled z.slot i less unled)) was;
            copies = λ z has.
                let old = at_others (λ (k : Copied). k.slot) t v.copies z has in
                let was = b.pages.copies z old.0 in
                let unled = made_never z.slot was.1.made in
                let same : (j : ℕ) → pointer_of e (at_index z.slot j) ≡ pointer_of d (at_index z.slot j) =
                λ j. pointer_old (at_index z.slot j) (miss (at_index z.slot j) (elsewhere z.slot j unled)) in (
                  was.0,
                  record {
                    slot = was.1.slot;
                    made = without_other v.grip.made t z.slot old.1 ∙ was.1.made;
                    state = ap is_published (states z.slot) ∙ was.1.state;
                    over = record {
                      page = was.1.over.page;
                      spans = λ j has. spans (at_index z.slot j) ∙ was.1.over.spans j has;
                      header = was.1.over.header;
                    };
                    page = was.1.page;
                    exact = was.1.exact;
                    records = λ leaf i less. places-are (spot z.slot i) ∙ was.1.records leaf i less;
                    pointers = λ inner j less.
                        let old = was.1.pointers inner j less in record {
                          span = ap (λ (y : Pointer). y.span) (same j) ∙ old.span;
                          slot = ap (λ (y : Pointer). y.slot) (same j) ∙ old.slot;
                          free = ap (λ (y : Pointer). y.holder) (same j) ∙ old.free;
                          named = subst (λ (y : Pointer). IsNamed s.resident.places (child_span z.span j) (get_or (page_words s.resident.pages z.page) j 0) y.page)
                              (sym (same j)) old.named;
                        };
                  },
                );
            blanks = λ u has.
                let other : u ≢ t = λ same. true≢false (sym has ∙ ap (has_slot (without v.blanks t)) same ∙ without_same v.blanks t) in
                let was = b.pages.blanks u (sym (without_other v.blanks t u other) ∙ has) in record {
                  slot = was.slot;
                  made = without_other v.grip.made t u other ∙ was.made;
                  state = ap is_published (states u) ∙ was.state;
                };
            resident = b.pages.resident;
            leads = b.pages.leads;
            fills = λ z has.
                let was = b.pages.fills z has in (
                  was.0,
                  record {
                    above = was.1.above;
                    within = was.1.within;
                    is = λ i less. others (snap_at l.slots z.page i) (not_snap (snap_at l.slots z.page i) (omega arith)) ∙ was.1.is i less;
                  },
                );
            known = λ z has.
                let was = b.pages.treed.known z has in
                known_same l s.trees d e v.grip.holds w.grip.holds z was.held (known_led z.slot was.known) was;
            heads = λ z has.
                let was = b.pages.treed.heads p (is_at v.role active) z has in
                head_same l words words' s.trees d e p z refl refl
                (λ i less. others (page_at l.slots z.slot i) (not_leaf z.slot i z.keys less was.leaf)) was;
            moved = λ z has.
                let was = b.pages.treed.moved z has in
                moved_same l words words' s.trees d e v.grip.holds w.grip.holds z was.held (known_led z.slot was.known) refl
                (λ i less. others (page_at l.slots z.slot i) (not_split z.slot i less was.split)) was;
            sealed = λ u has. sealed_at l d e p u refl refl (b.pages.treed.sealed p (is_at v.role active) u has);
            inners = λ z has.
                let was = b.pages.treed.inners z has in
                inner_at l s.trees s.trees d e v.grip.holds w.grip.holds z was.held
                (ap is_never (known_led z.slot was.known) ∙ was.known) refl (same_fence s.trees s.trees z.slot refl)
                (λ j has. spans (at_index z.slot j)) was;
            new_leaves = λ z has.
                let old = at_others (λ (k : NewLeaf). k.slot) t v.new_leaves z has in
                let was = b.pages.treed.new_leaves z old.0 in
                new_leaf_at l m n d e s.trees s.trees v.grip.made w.grip.made z
                (without_other v.grip.made t z.slot old.1 ∙ was.made) (states z.slot) refl refl refl
                (λ i. places-are (spot z.slot i)) was;
            new_inners = λ z has.
                let old = at_others (λ (k : NewInner). k.slot) t v.new_inners z has in
                let was = b.pages.treed.new_inners z old.0 in
                let unled = made_never z.slot was.made in
                new_inner_at l d e s.trees s.trees s.resident s.resident v.grip.made w.grip.made z
                (without_other v.grip.made t z.slot old.1 ∙ was.made) (states z.slot) refl refl
                (λ j free. pointer_old (at_index z.slot j) (miss (at_index z.slot j) (elsewhere z.slot j unled)))
                (more_same s.resident) was;
            shuts = λ z has.
                let was = b.pages.shuts p (is_at v.role active) z has in
                shut_same d e s.resident p v.grip.holds w.grip.holds z
                (within_same d e v.grip.holds w.grip.holds z.at (λ u is held known. (held, known_led u known, refl)))
                (pointer_old z.at (miss z.at (held_other z.at was.shut))) was;
          };
          frame = record {
            drafts = λ u few unmade owned i less.
                others (page_at l.slots u i)
                (not_unled u i less
                (owned_never d u (slot_of d u).state (slot_of d u).led owned (h.joint.pages.table.holds_counted.led u)));
            spare = λ u o ks few known held other leaf i less is. others (page_at l.slots u i) (not_leaf u i ks less leaf);
            twins = λ u few known split i from most. others (page_at l.slots u i) (not_split u i (omega arith) split);
            fills = λ other i j some less. others (snap_at l.slots i j) (not_snap (snap_at l.slots i j) (omega arith));
          };
        };
        tells-so = tells-so;
      }
