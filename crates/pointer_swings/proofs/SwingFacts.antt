-- What a swing finds, and the table that it leaves.
use Rattle.std.proofs.Common.{◌≡◌, inl, inr, ℕ, zero, suc, ◌+◌, ◌/◌, ◌^◌, ◌<◌, ◌≤◌, Bool, true, false, true≢false}
use Rattle.std.proofs.Common.{cond, eqb, eqb-true, leb, List, [], ◌∷◌, length, get_or, refl, sym, ap, ◌∙◌, subst, arith}
use Rattle.std.proofs.Common.{Option, Some, None}
use Rattle.serial_model.specs.declared.decl.Decl.{Decl}
use Rattle.std.specs.Prelude.{◌||◌}
use Rattle.std.proofs.lemmas.Bool.{and_from, cases_Bool}
use Rattle.std.proofs.lemmas.Bool.Decides.{nat_tests}
use Rattle.homes.specs.declared.places.At.{At}
use Rattle.homes.specs.declared.places.Holder.{Holder}
use Rattle.homes.specs.declared.places.Holder.TheVariants.{Free, Held, Dead}
use Rattle.homes.specs.declared.places.Span.{Span}
use Rattle.homes.specs.Homes.{is_free, same_span, holder_is}
use Rattle.homes.specs.Laws.{same_at-self}
use Rattle.wire_form.specs.Words.{at_bit, slot_field}
use Rattle.drop_core.specs.declared.table.Led.TheVariants.{Away, From}
use Rattle.drop_core.specs.declared.table.Page.TheVariants.{Split, Inner}
use Rattle.drop_core.specs.declared.table.Pointer.{Pointer}
use Rattle.drop_core.specs.declared.table.Slot.{Slot}
use Rattle.drop_core.specs.declared.table.Table.{Table}
use Rattle.drop_core.specs.Event.{buried, bury, dropped, is_closed_to_others, is_in, is_open, is_target}
use Rattle.drop_core.specs.Table.{has_slot, header_of, page_of, is_led, is_live, is_never, page_span, pointer_of}
use Rattle.drop_core.specs.Table.{slot_of, snap_of, at_index}
use Rattle.drop_core.proofs.Buried.{away-other, away-same, buried-look}
use Rattle.engine_pages.specs.declared.layout.Layout.{Layout}
use Rattle.engine_pages.specs.declared.view.Lead.{Lead}
use Rattle.engine_pages.specs.declared.view.View.{View}
use Rattle.engine_pages.specs.Pages.{IsLaidOutFor}
use Rattle.engine_pages.specs.Pointers.{half_of, is_open_word, slot_half, IsPointerAt}
use Rattle.engine_rule.specs.Reading.{name_of}
use Rattle.snapshot_store.specs.declared.place.PagePlace.{PagePlace}
use Rattle.serial_model.specs.Keys.{id_of}
use Rattle.engine_pages.specs.Resident.{IsNamed, place_for}
use Rattle.engine_pages.specs.Rule.{Shared, IsLead}
use Rattle.engine_pages.specs.Views.{IsActive, seat_number}
use Rattle.engine_pages.specs.Words.{lock_field, ShowsPointer}
use Rattle.engine_pages.proofs.Joint.{Laws}
use Rattle.engine_pages.proofs.PointerLaws.{PointerIs, halves, open_pointer, pointer_is}
use Rattle.engine_pages.proofs.Turns.{Begins}
use Rattle.pointer_swings.specs.Swings.{CanSwing}
use Rattle.dual_pointer.proofs.Stands.{at_cases}
use Rattle.pointer_swings.proofs.Renewing.{span_self, target_page}
use Rattle.pointer_swings.proofs.Repoints.{IsGone, Repointed}
use Rattle.serial_model.specs.declared.key.Key.{Key}
use Rattle.serial_model.specs.declared.number.Number.{Number}
use Rattle.homes.specs.declared.places.Home.{Home}
use Rattle.homes.specs.declared.places.Move.{Move}
use Rattle.homes.specs.declared.places.Spot.{Spot}
use Rattle.commit_core.specs.declared.place.Place.{Place}
use Rattle.commit_core.specs.declared.story.Story.{Story}
use Rattle.commit_core.specs.Lemmas.Moves.{place-left, place-stays}
use Rattle.commit_core.specs.Moves.{buried as buried_places, is_left}
use Rattle.commit_core.specs.Places.{place_of}
use Rattle.drop_core.proofs.Headers.{buried-dead, buried-other, buried-stays}
use Rattle.dual_pointer.specs.Copies.{IsLeadOf}
use Rattle.engine_pages.specs.Stays.{IsKnown}

-- what is asked of a pointer and of the page that it is led to, whatever stands below it
pub record IsAimed (v : View) (x : At) (sp : Span) (at t number expected : ℕ) : Type 0 where
  pub place : IsPointerAt v x sp at
  pub leads : half_of expected ≡ Some t
  pub lead : 0 < number → IsLeadOf v sp number

-- so it is of a page alone
abbrev pub aims : {v : View} {x : At} {sp : Span} {at t number expected : ℕ} → CanSwing v x sp at t number expected
    → IsAimed v x sp at t number expected
aims c = record { place = c.place; leads = c.leads; lead = c.lead }

-- a word that leads to a slot is that of an open pointer
half_open : (n t : ℕ) → half_of n ≡ Some t → (is_open_word n ≡ true) × (slot_half (n / 2 ^ 32) ≡ Some t)
half_open n t is = by_test (is_open_word n) refl
  where
    by_test : (c : Bool) → is_open_word n ≡ c → (is_open_word n ≡ true) × (slot_half (n / 2 ^ 32) ≡ Some t)
    by_test true hit = (hit, sym (ap (λ (c : Bool). let o : Option ℕ = cond c (slot_half (n / 2 ^ 32)) None in o) hit) ∙ is)
    by_test false miss =
        let no : None ≡ Some t = sym (ap (λ (c : Bool). let o : Option ℕ = cond c (slot_half (n / 2 ^ 32)) None in o) miss) ∙ is in absurd (cc)

-- the one slot in a list of one
pub one_slot : (t u : ℕ) → has_slot (t ∷ []) u ≡ true → t ≡ u
one_slot t u has = by_test (eqb t u) refl
  where
    by_test : (c : Bool) → eqb t u ≡ c → t ≡ u
    by_test true hit = eqb-true t u hit
    by_test false miss = absurd (true≢false (sym has ∙ ap (λ (c : Bool). c || false) miss))

-- a pointer that names no page, over keys of a storage that is declared so
named_zero : (decl : Decl) (xs : List (Decl × PagePlace)) (sp : Span) (number name : ℕ) → id_of decl ≡ sp.storage
    → number ≡ 0 → name ≡ 0 → IsNamed xs sp number name
named_zero decl xs sp number name storage none nameless = record {
  decl = decl;
  storage = storage;
  is = nameless ∙ sym (zeroed number none);
  there = λ some. absurd (omega (arith, none, some));
}
  where
    zeroed : (n : ℕ) → n ≡ 0 → name_of xs decl (place_for sp n) ≡ 0
    zeroed zero none = refl
    zeroed (suc n) none = absurd (omega (arith, none))

-- the header of the slot's page is the seat's or dead, and the page is no split leaf
pub record IsClosed (d : Table) (p t : ℕ) : Type 0 where
  pub closed : is_closed_to_others p (header_of d t) ≡ true
  pub unsplit : page_of d t ≡ Split → ⊥

-- so it is of pages to which something has led
pub record AreClosed (d : Table) (p : ℕ) (gone : List ℕ) : Type 0 where
  pub known : (u : ℕ) → has_slot gone u ≡ true → IsKnown d u
  pub closed : (u : ℕ) → has_slot gone u ≡ true → is_closed_to_others p (header_of d u) ≡ true

-- Places in these slots may be dead that were locked; what stands there is the same.
pub record AreBuried (m : Story) (places : List (Spot × Place)) (gone : List ℕ) : Type 0 where
  pub kept : (y : Spot) → has_slot gone y.slot ≡ false → place_of places y ≡ place_of m.places y
  pub contents : (y : Spot) → (place_of places y).content ≡ (place_of m.places y).content
  pub locked : (y : Spot) → lock_field (place_of places y).holder ≡ lock_field (place_of m.places y).holder
  pub freed : (y : Spot) → (place_of places y).holder ≡ Free → (place_of m.places y).holder ≡ Free
  pub dead : (y : Spot) → (place_of m.places y).holder ≡ Dead → (place_of places y).holder ≡ Dead

-- where nothing moves they are as they were
pub none_buried : (m : Story) (gone : List ℕ) → AreBuried m m.places gone
none_buried m gone = record {
  kept = λ y left. refl;
  contents = λ y. refl;
  locked = λ y. refl;
  freed = λ y free. free;
  dead = λ y is. is;
}

-- a lock's bit is that of a dead record
held_bit : (p : ℕ) (h : Holder) → holder_is p h ≡ true → lock_field h ≡ at_bit 60 1
held_bit p Free is = absurd (true≢false (sym is))
held_bit p (Held o) is = refl
held_bit p Dead is = refl

-- where keys leave places in these slots, whose records the seat has locked
pub moves_bury : (p : ℕ) (m : Story) (gone : List ℕ) (moves : List Move)
    → ((y : Spot) → is_left moves m.homes y ≡ true
    → (has_slot gone y.slot ≡ true) × (holder_is p (place_of m.places y).holder ≡ true))
    → AreBuried m (buried_places moves m.homes m.places) gone
moves_bury p m gone moves leaves = record {
  kept = λ y apart. elim (cases_Bool (is_left moves m.homes y)) [
    | inl lost ↦ absurd (true≢false (sym (leaves y lost).0 ∙ apart))
    | inr stays ↦ place-stays moves m.homes m.places y stays
  ];
  contents = λ y. elim (cases_Bool (is_left moves m.homes y)) [
    | inl lost ↦ ap (λ (z : Place). z.content) (place-left moves m.homes m.places y lost)
    | inr stays ↦ ap (λ (z : Place). z.content) (place-stays moves m.homes m.places y stays)
  ];
  locked = λ y. elim (cases_Bool (is_left moves m.homes y)) [
    | inl lost ↦
        ap (λ (z : Place). lock_field z.holder) (place-left moves m.homes m.places y lost)
        ∙ sym (held_bit p (place_of m.places y).holder (leaves y lost).1)
    | inr stays ↦ ap (λ (z : Place). lock_field z.holder) (place-stays moves m.homes m.places y stays)
  ];
  freed = λ y free. elim (cases_Bool (is_left moves m.homes y)) [
    | inl lost ↦
        let no : Dead ≡ Free = sym (ap (λ (z : Place). z.holder) (place-left moves m.homes m.places y lost)) ∙ free in
        absurd (cc)
    | inr stays ↦ ap (λ (z : Place). z.holder) (sym (place-stays moves m.homes m.places y stays)) ∙ free
  ];
  dead = λ y is. elim (cases_Bool (is_left moves m.homes y)) [
    | inl lost ↦ ap (λ (z : Place). z.holder) (place-left moves m.homes m.places y lost)
    | inr stays ↦ ap (λ (z : Place). z.holder) (place-stays moves m.homes m.places y stays) ∙ is
  ];
}

-- the bit of a header that is the seat's or dead
pub closed_bit : (p : ℕ) (h : Holder) → is_closed_to_others p h ≡ true → lock_field h ≡ at_bit 60 1
closed_bit p Free is = absurd (true≢false (sym is))
closed_bit p (Held o) is = refl
closed_bit p Dead is = refl

module _ (laws : Laws) (l : Layout) (words : List ℕ) (views : List View) (s : Shared) (id : ℕ) (v : View)
    (active : IsActive v.role) (b : Begins l words views s id v) (x : At) (sp : Span) (at t number expected : ℕ)
    (c : IsAimed v x sp at t number expected) (n-is : get_or words at 0 ≡ expected) where
  abbrev d : Table
  d = s.table

  abbrev p : ℕ
  p = seat_number v.role

  abbrev q : Pointer
  q = pointer_of d x

  pub found : PointerIs l words s v x sp at
  found = pointer_is l words views s id v x sp at b c.place

  half : (is_open_word expected ≡ true) × (slot_half (expected / 2 ^ 32) ≡ Some t)
  half = half_open expected t c.leads

  pub free : q.holder ≡ Free
  free =
      let shows = found.shows in
      let open-is = half.0 in
      open_pointer (at_bit 0 shows.number + at_bit 32 (slot_field q.slot)) q.holder
      (subst (λ k. k < 2 ^ 60) shows.word (subst (λ k. k < 2 ^ 60) (sym n-is) (low_open expected open-is)))
    where
      low_open : (n : ℕ) → is_open_word n ≡ true → n < 2 ^ 60
      low_open n is = grind (arith, nat_tests)

  pub leads : q.slot ≡ Some t
  leads = (halves s.resident.places words at q found.shows free).slot ∙ (ap (λ n. slot_half (n / 2 ^ 32)) n-is ∙ half.1)

  pub live : is_live d x ≡ true
  live = found.live free

  pub opened : is_open d x ≡ true
  opened = and_from (is_live d x) (is_free q.holder) live (ap is_free free)

  pub laid : IsLaidOutFor l.decls s.trees d t sp
  laid = subst (λ (z : Span). IsLaidOutFor l.decls s.trees d t z) found.span (b.sound.laid_out x t live leads)

  pub led : (slot_of d t).led ≡ From x
  led = b.sound.joint.pages.table.holds_counted.back x t live leads

  -- ---- the page that it is led to

  -- the page with the number has this name, over the keys of the pointer, and is published
  pub record Target : Type 0 where
    pub name : ℕ
    pub named : IsNamed s.resident.places sp number name
    pub most : name ≤ d.published
    pub few : number ≤ 65536
    pub target : is_target d name q.span ≡ true

  pub target : Target
  target = by_number number refl
    where
      none_target : is_target d 0 q.span ≡ true
      none_target =
          and_from (leb 0 d.published) (eqb 0 0 || same_span (page_span (snap_of d 0)) q.span) (grind (arith, nat_tests)) refl

      by_number : (k : ℕ) → number ≡ k → Target
      by_number zero e = record {
        name = 0;
        named = named_zero found.shows.named.decl s.resident.places sp number 0
            (found.shows.named.storage ∙ ap (λ (z : Span). z.storage) found.span) e refl;
        most = omega arith;
        few = omega (arith, e);
        target = none_target;
      }
      by_number (suc k) e =
          let lead = c.lead (omega (arith, e)) in
          let y : Lead = lead.0 in
          let is : IsLead s.resident y = b.pages.leads y lead.1 in
          let named : IsNamed s.resident.places sp number y.name =
          subst (λ (z : Span). IsNamed s.resident.places z number y.name) lead.2
          (subst (λ k. IsNamed s.resident.places y.span k y.name) lead.3 is.named) in
          let page = target_page l words views s id v b sp number y.name named (omega (arith, e)) in
          let most = page.most in
          let few : number ≤ 65536 =
          (let low : y.page ≤ length s.resident.pages = is.page in
          let same = lead.3 in
          let all = b.sound.within in
          let room = b.sound.few.2 in omega arith) in record {
            name = y.name;
            named = named;
            most = most;
            few = few;
            target = and_from (leb y.name d.published) (eqb y.name 0 || same_span (page_span (snap_of d y.name)) q.span)
                (grind (arith, nat_tests))
                (or_so (eqb y.name 0) (ap (λ (z : Span). same_span z q.span) page.span ∙ (ap (same_span sp) found.span ∙ span_self sp)));
          }
        where
          or_so : (a : Bool) {e : Bool} → e ≡ true → (a || e) ≡ true
          or_so true is = refl
          or_so false is = is

  -- ---- the table after it

  module _ (name : ℕ) (gone : List ℕ) where
    abbrev pub e : Table
    e = dropped d x name gone

    abbrev pub r : Pointer
    r = record q { slot = None; page = name }

    there : pointer_of e x ≡ r
    there = ap (λ (c : Bool). cond c r (pointer_of (buried d gone) x)) (same_at-self x)

    elsewhere : (y : At) → (x ≡ y → ⊥) → pointer_of e y ≡ bury gone y (pointer_of d y)
    elsewhere y other = elim (at_cases x y) [
      | inl same ↦ absurd (other same)
      | inr apart ↦
          ap (λ (c : Bool). cond c r (pointer_of (buried d gone) y)) apart.1 ∙ buried-look gone d.pointers y
    ]

    same : (y : At) → (x ≡ y → ⊥) → is_in gone y ≡ false → pointer_of e y ≡ pointer_of d y
    same y other left =
        elsewhere y other ∙ ap (λ (c : Bool). let z : Pointer = cond c (record (pointer_of d y) { holder = Dead }) (pointer_of d y) in z) left

    dead : (y : At) → (x ≡ y → ⊥) → is_in gone y ≡ true → pointer_of e y ≡ record (pointer_of d y) { holder = Dead }
    dead y other lost =
        elsewhere y other ∙ ap (λ (c : Bool). let z : Pointer = cond c (record (pointer_of d y) { holder = Dead }) (pointer_of d y) in z) lost

    keeps : (u : ℕ) → has_slot gone u ≡ false → slot_of e u ≡ slot_of d u
    keeps u left = away-other gone d.slots u left

    buried_so : (u : ℕ) → header_of d u ≡ Dead → header_of e u ≡ header_of d u
    buried_so u dead = buried-stays gone d.headers u dead ∙ sym dead

    -- what its word says
    shown : (w : Target) → w.name ≡ name → (ws : List ℕ) → get_or ws at 0 ≡ number → ShowsPointer s.resident.places ws at r
    shown w is-name ws is =
        let none : lock_field q.holder ≡ 0 = ap lock_field free in record {
          number = number;
          word = omega (arith, is, none);
          page = w.few;
          slot = tt;
          named = subst (λ (z : Span). IsNamed s.resident.places z number name) (sym found.span)
              (subst (IsNamed s.resident.places sp number) is-name w.named);
          keepers = found.shows.keepers;
        }

    -- where nobody else can open the headers of the pages that are gone
    module _ (k : AreClosed d p gone) where
      away : (u : ℕ) → has_slot gone u ≡ true → IsGone s e u
      away u lost =
          let is : slot_of e u ≡ record (slot_of d u) { led = Away } = away-same gone d.slots u lost in record {
            known = k.known u lost;
            state = ap (λ (z : Slot). z.state) is;
            passes = ap (λ (z : Slot). z.passes) is;
            times = ap (λ (z : Slot). z.times) is;
            never = ap (λ (z : Slot). is_never z.led) is;
            unled = ap (λ (z : Slot). is_led z.led) is;
          }

      closed : (u : ℕ) → lock_field (header_of e u) ≡ lock_field (header_of d u)
      closed u = elim (cases_Bool (has_slot gone u)) [
        | inl lost ↦
            ap (λ (h : Holder). lock_field h) (buried-dead gone d.headers u lost)
            ∙ sym (closed_bit p (header_of d u) (k.closed u lost))
        | inr left ↦ ap (λ (h : Holder). lock_field h) (buried-other gone d.headers u left)
      ]

      -- the table after it, with the story's places, homes and horizon
      pub point : (w : Target) → w.name ≡ name → (places : List (Spot × Place)) (homes : List (Key × Home)) (horizon : Number)
          → ((u j k : ℕ) → has_slot gone u ≡ true → page_of d u ≡ Inner k → j < k
          → lock_field (pointer_of d (at_index u j)).holder ≡ at_bit 60 1)
          → AreBuried s.story places gone
          → Repointed laws l words views s id v active b x sp at number c.place places homes horizon e r gone
      point w is-name places homes horizon shut moved = record {
        pages = λ u. refl;
        headers = λ u left. buried-other gone d.headers u left;
        closed = closed;
        buried = buried_so;
        room = refl;
        named = let was = b.sound.named in record { count = was.count; none = was.none; says = was.says; stand = was.stand; below = was.below };
        there = there;
        span = refl;
        shown = shown w is-name;
        leads = λ u is. absurd (none_some u is);
        keeps = keeps;
        away = away;
        same = same;
        dead = dead;
        shut = shut;
        kept-places = moved.kept;
        contents = moved.contents;
        locked = moved.locked;
        freed = moved.freed;
        still-dead = moved.dead;
      }
        where
          none_some : (u : ℕ) → None ≡ Some u → ⊥
          none_some u is = absurd (cc)
