-- A pointer is loaded: where it leads, and for which keys the page that it names stands.
use Rattle.std.proofs.Common.{◌≡◌, ◌⊎◌, inl, inr, ℕ, zero, suc, ◌+◌, ◌/◌, ◌^◌, ◌<◌, ◌≤◌, Bool, true, false, cond}
use Rattle.std.proofs.Common.{ltb, List, length, get_or, refl, sym, ap, ◌∙◌, subst, arith, Option, Some, None, IfSome}
use Rattle.std.specs.List.{Contains}
use Rattle.std.proofs.lemmas.Bool.{cases_Bool}
use Rattle.std.proofs.lemmas.Bool.Decides.{nat_tests}
use Rattle.atomic_table.specs.Table.{Me, Allows}
use Rattle.lists.specs.Elements.{in_cases, in_tail}
use Rattle.lists.specs.Fronts.{front_refl}
use Rattle.serial_model.specs.declared.key.Key.{Key}
use Rattle.homes.specs.declared.places.At.{At}
use Rattle.homes.specs.declared.places.At.TheVariants.{Root, In}
use Rattle.homes.specs.declared.places.Holder.TheVariants.{Free}
use Rattle.homes.specs.declared.places.Span.{Span}
use Rattle.homes.specs.declared.places.Spot.{Spot}
use Rattle.wire_form.specs.Words.{at_bit, slot_field}
use Rattle.drop_core.specs.declared.table.Led.TheVariants.{Never, From}
use Rattle.drop_core.specs.declared.table.Slot.{Slot}
use Rattle.drop_core.specs.Table.{slot_of, pointer_of, has_slot, is_never}
use Rattle.engine_pages.specs.declared.layout.Layout.{Layout}
use Rattle.engine_pages.specs.declared.view.Lead.{Lead}
use Rattle.engine_pages.specs.declared.view.Read.{Read}
use Rattle.engine_pages.specs.declared.view.Role.TheVariants.{Worker}
use Rattle.engine_pages.specs.declared.view.View.{View}
use Rattle.engine_pages.specs.declared.view.Way.{Way}
use Rattle.engine_pages.specs.Agreement.{TreesAgree}
use Rattle.engine_pages.specs.Layout.{page_at, root_at}
use Rattle.engine_pages.specs.Pages.{IsLaidOutFor}
use Rattle.engine_pages.specs.Pointers.{IsPointerAt, HasFollowed, StandsFor, followed, half_of, is_open_word, leads_more}
use Rattle.engine_pages.specs.Pointers.{WaysAgree, page_half, slot_half, ways_if, ways_more}
use Rattle.engine_pages.specs.Records.{IsRecordIn}
use Rattle.engine_pages.specs.Resident.{IsNamed}
use Rattle.engine_pages.specs.Rule.{Shared, IsWay, IsLead, Shows}
use Rattle.engine_pages.specs.Steps.{kept_at, seen_at, with_read}
use Rattle.engine_pages.specs.Touches.{IsFacing, Other, Touched, has_took}
use Rattle.engine_pages.specs.Views.{IsActive, seat_number}
use Rattle.engine_pages.proofs.Agreeing.{agreed}
use Rattle.engine_pages.proofs.Dealing.{blamed, faces, lock_there}
use Rattle.engine_pages.proofs.Facing.{IsNoted, facing_agree, facing_load, stands_way, takes_same}
use Rattle.engine_pages.proofs.Joint.{Laws}
use Rattle.engine_pages.proofs.Leaves.{home_led}
use Rattle.engine_pages.proofs.Looks.{look_stride}
use Rattle.engine_pages.proofs.PointerLaws.{PointerIs, pointer_is, open_pointer, halves, named_stands, standing_there}
use Rattle.engine_pages.proofs.Seats.{is_at}
use Rattle.engine_pages.proofs.Turns.{Stride, Begins, allows_at}
use Rattle.engine_pages.proofs.WayLaws.{ways_agree}

module _ (l : Layout) (words : List ℕ) (views : List View) (s : Shared) (id : ℕ) (v : View) (active : IsActive v.role)
    (b : Begins l words views s id v) (x : At) (sp : Span) (at : ℕ) (is : IsPointerAt v x sp at) where
  abbrev n : ℕ
  n = get_or words at 0

  abbrev p : PointerIs l words s v x sp at
  p = pointer_is l words views s id v x sp at b is

  -- a word without the bit is of an open pointer
  open_free : is_open_word n ≡ true → (pointer_of s.table x).holder ≡ Free
  open_free open-so =
      let q = pointer_of s.table x in
      let shows = p.shows in
      open_pointer (at_bit 0 shows.number + at_bit 32 (slot_field q.slot)) q.holder
      (subst (λ k. k < 2 ^ 60) shows.word (grind (arith, nat_tests)))

  number_is : is_open_word n ≡ true → p.shows.number ≡ page_half n
  number_is open-so = (halves s.resident.places words at (pointer_of s.table x) p.shows (open_free open-so)).page

  half_is : is_open_word n ≡ true → (pointer_of s.table x).slot ≡ half_of n
  half_is open-so =
      (halves s.resident.places words at (pointer_of s.table x) p.shows (open_free open-so)).slot
      ∙ sym (ap (λ (c : Bool). let o : Option ℕ = cond c (slot_half (n / 2 ^ 32)) None in o) open-so)

  shut_half : is_open_word n ≡ false → half_of n ≡ None
  shut_half shut = ap (λ (c : Bool). let o : Option ℕ = cond c (slot_half (n / 2 ^ 32)) None in o) shut

  -- the page that it names
  named : is_open_word n ≡ true → IsNamed s.resident.places sp (page_half n) (pointer_of s.table x).page
  named open-so =
      subst (λ k. IsNamed s.resident.places sp k (pointer_of s.table x).page) (number_is open-so)
      (subst (λ (z : Span). IsNamed s.resident.places z p.shows.number (pointer_of s.table x).page) p.span p.shows.named)

  stands : is_open_word n ≡ true → 0 < page_half n → StandsFor l.decls s.resident.pages sp (page_half n)
  stands open-so some =
      named_stands l words views s id v sp (page_half n) (pointer_of s.table x).page b (named open-so) some

  there : is_open_word n ≡ true → page_half n ≤ length s.resident.pages
  there open-so = by_number (page_half n) refl
    where
      by_number : (k : ℕ) → page_half n ≡ k → page_half n ≤ length s.resident.pages
      by_number zero e = omega (arith, e)
      by_number (suc k) e =
          standing_there l.decls s.resident.pages sp (page_half n) (stands open-so (omega (arith, e)))

  -- the slot that it leads to, which the pass holds, is known
  way_there : (t : ℕ) → half_of n ≡ Some t → has_slot v.grip.holds t ≡ true
      → IsWay l s.table s.trees v.grip.holds (record { slot = t; span = sp })
  way_there t half held = elim (cases_Bool (is_open_word n)) [
    | inl open-so ↦
        let to : (pointer_of s.table x).slot ≡ Some t = half_is open-so ∙ half in
        let live = p.live (open_free open-so) in
        let led = b.sound.joint.pages.table.holds_counted.back x t live to in record {
          within = b.pages.within t held;
          held = held;
          known = ap is_never led;
          over = subst (IsLaidOutFor l.decls s.trees s.table t) p.span (b.sound.laid_out x t live to);
        }
    | inr shut ↦ let none : None ≡ Some t = sym (shut_half shut) ∙ half in absurd (cc)
  ]

  -- a slot that is led to is below the room
  slot_there : IfSome (half_of n) (λ t. t < l.slots)
  slot_there = by_half (half_of n) refl
    where
      by_half : (o : Option ℕ) → half_of n ≡ o → IfSome o (λ t. t < l.slots)
      by_half None e = tt
      by_half (Some t) e = elim (cases_Bool (is_open_word n)) [
        | inl open-so ↦
            let to : (pointer_of s.table x).slot ≡ Some t = half_is open-so ∙ e in
            let led = b.sound.joint.pages.table.holds_counted.back x t (p.live (open_free open-so)) to in
            by_room t led (ltb t s.table.room) refl
        | inr shut ↦ let none : None ≡ Some t = sym (shut_half shut) ∙ e in absurd (cc)
      ]
        where
          by_room : (t : ℕ) → (slot_of s.table t).led ≡ From x → (c : Bool) → ltb t s.table.room ≡ c → t < l.slots
          by_room t led true less = let room = b.sound.room in grind (arith, nat_tests)
          by_room t led false most =
              let fresh = b.sound.joint.pages.within t (grind (arith, nat_tests)) in
              let never : Never ≡ From x = sym (ap (λ (z : Slot). z.led) fresh) ∙ led in absurd (cc)

  -- what is known of ways and of leads
  ways_now : (z : Way) → Contains (ways_more v.grip.holds (half_of n) sp v.ways) z → IsWay l s.table s.trees v.grip.holds z
  ways_now = by_half (half_of n) refl
    where
      by_held : (t : ℕ) → half_of n ≡ Some t → (c : Bool) → has_slot v.grip.holds t ≡ c → (z : Way)
          → Contains (ways_if c t sp v.ways) z → IsWay l s.table s.trees v.grip.holds z
      by_held t half true held z has = elim (in_cases z (record { slot = t; span = sp }) v.ways has) [
        | inl new ↦ subst (IsWay l s.table s.trees v.grip.holds) new (way_there t half held)
        | inr old ↦ b.pages.ways z old
      ]
      by_held t half false held z has = b.pages.ways z has

      by_half : (o : Option ℕ) → half_of n ≡ o → (z : Way) → Contains (ways_more v.grip.holds o sp v.ways) z
          → IsWay l s.table s.trees v.grip.holds z
      by_half None e z has = b.pages.ways z has
      by_half (Some t) e z has = by_held t e (has_slot v.grip.holds t) refl z has

  -- the slot that it leads to is led to from here
  led_there : (t : ℕ) → half_of n ≡ Some t → (slot_of s.table t).led ≡ From x
  led_there t half = elim (cases_Bool (is_open_word n)) [
    | inl open-so ↦
        b.sound.joint.pages.table.holds_counted.back x t (p.live (open_free open-so)) (half_is open-so ∙ half)
    | inr shut ↦ let none : None ≡ Some t = sym (shut_half shut) ∙ half in absurd (cc)
  ]

  -- a way is one that was there, or into that slot
  new_way : (z : Way) → Contains (ways_more v.grip.holds (half_of n) sp v.ways) z
      → Contains v.ways z ⊎ ((slot_of s.table z.slot).led ≡ From x)
  new_way = by_half (half_of n) refl
    where
      by_held : (t : ℕ) → half_of n ≡ Some t → (c : Bool) → (z : Way) → Contains (ways_if c t sp v.ways) z
          → Contains v.ways z ⊎ ((slot_of s.table z.slot).led ≡ From x)
      by_held t half true z has = elim (in_cases z (record { slot = t; span = sp }) v.ways has) [
        | inl new ↦ inr (subst (λ (u : Way). (slot_of s.table u.slot).led ≡ From x) new (led_there t half))
        | inr old ↦ inl old
      ]
      by_held t half false z has = inl has

      by_half : (o : Option ℕ) → half_of n ≡ o → (z : Way) → Contains (ways_more v.grip.holds o sp v.ways) z
          → Contains v.ways z ⊎ ((slot_of s.table z.slot).led ≡ From x)
      by_half None e z has = inl has
      by_half (Some t) e z has = by_held t e (has_slot v.grip.holds t) z has

  -- each that was there still is
  old_way : (z : Way) → Contains v.ways z → Contains (ways_more v.grip.holds (half_of n) sp v.ways) z
  old_way = by_half (half_of n)
    where
      by_held : (t : ℕ) → (c : Bool) → (z : Way) → Contains v.ways z → Contains (ways_if c t sp v.ways) z
      by_held t true z has = in_tail z (record { slot = t; span = sp }) v.ways has
      by_held t false z has = has

      by_half : (o : Option ℕ) → (z : Way) → Contains v.ways z → Contains (ways_more v.grip.holds o sp v.ways) z
      by_half None z has = has
      by_half (Some t) z has = by_held t (has_slot v.grip.holds t) z has

  agree : WaysAgree (ways_more v.grip.holds (half_of n) sp v.ways)
  agree = ways_agree l s.table s.trees v.grip.holds (ways_more v.grip.holds (half_of n) sp v.ways) ways_now

  -- the pointer's word is a root's, or in a page that the pass has a way to
  page_there : (t i : ℕ) → t < l.slots → i < 64 → at ≡ page_at l.slots t i
      → (z : Way) × Contains (ways_more v.grip.holds (half_of n) sp v.ways) z × (z.slot ≡ t)
  page_there t i less few word = by_place x is
    where
      by_place : (y : At) → IsPointerAt v y sp at
          → (z : Way) × Contains (ways_more v.grip.holds (half_of n) sp v.ways) z × (z.slot ≡ t)
      by_place (Root r) root =
          let decls = b.sound.few.1 in
          let low : r < length l.decls = subst (λ (y : Layout). r < length y.decls) b.own.layout root.0 in
          let place : at ≡ root_at r = root.2 in absurd (omega arith)
      by_place (In y) (inl child) =
          let place : at ≡ page_at l.slots y.slot y.index =
          child.word ∙ ap (λ (z : Layout). page_at z.slots y.slot y.index) b.own.layout in
          let index = child.index in
          let same : y.slot ≡ t = omega arith in (child.way, old_way child.way child.has, child.slot ∙ same)
      by_place (In y) (inr branch) =
          let place : at ≡ page_at l.slots y.slot (4 + y.index) =
          branch.word ∙ ap (λ (z : Layout). page_at z.slots y.slot (4 + y.index)) b.own.layout in
          let index = branch.index in
          let most = (b.pages.treed.inners branch.inner branch.knows).few in
          let same : y.slot ≡ t = omega arith in (branch.way, old_way branch.way branch.has, branch.slot ∙ same)

  -- a lock of a record by a way is the pass's own, or another one took it
  lock_by : (worker : ℕ) → v.role ≡ Worker worker → (k : Key) (z : Spot) (j : ℕ)
      → IsRecordIn l.decls l.slots (ways_more v.grip.holds (half_of n) sp v.ways) k z j → 2 ^ 60 ≤ get_or words j 0
      → (has_took v.took k z ≡ true) ⊎ Other (Touched views) (suc worker) k
  lock_by worker role k z j there high = elim (new_way there.way there.has) [
    | inl old ↦ (faces l words views s id v b worker role).locked k z j (record {
      way = there.way;
      has = old;
      slot = there.slot;
      there = there.there;
      kind = there.kind;
      leaf = there.leaf;
      index = there.index;
      key = there.key;
      word = there.word;
    }) high
    | inr led ↦
        let r = stands_way l s v.grip.holds (ways_more v.grip.holds (half_of n) sp v.ways) k z j ways_now there in
        let home = home_led l words views s b.sound k z j r x
        (subst (λ t. (slot_of s.table t).led ≡ From x) there.slot led) in
        subst (λ q. (has_took v.took k z ≡ true) ⊎ Other (Touched views) q k) (ap seat_number role)
        (lock_there l words views s id v b k z j r home high)
  ]

  -- what the pass faces, where it met the pointer's word
  pub follow_faces : (more : List Read) → IsNoted v.reads more at n → (worker : ℕ) → v.role ≡ Worker worker
      → IsFacing l words (Touched views) (suc worker) (ways_more v.grip.holds (half_of n) sp v.ways) v.took more v.gone
  follow_faces more note worker role =
      let ways' : List Way = ways_more v.grip.holds (half_of n) sp v.ways in
      facing_load l words (Touched views) (suc worker) ways' v.took v.reads v.gone at
      (facing_agree l words (Touched views) (suc worker) v.ways ways' v.took v.reads v.gone old_way agree
      (λ k z j there high. lock_by worker role k z j there high) (faces l words views s id v b worker role))
      more note (λ t i less few word here. page_there t i less few word)

  abbrev name : ℕ
  name = (pointer_of s.table x).page

  leads_now : (z : Lead) → Contains (leads_more (is_open_word n) sp (page_half n) name v.leads) z → IsLead s.resident z
  leads_now = by_open (is_open_word n) refl
    where
      by_open : (c : Bool) → is_open_word n ≡ c → (z : Lead) → Contains (leads_more c sp (page_half n) name v.leads) z
          → IsLead s.resident z
      by_open false open-so z has = b.pages.leads z has
      by_open true open-so z has = elim (in_cases z (record { span = sp; page = page_half n; name = name }) v.leads has) [
        | inl new ↦ subst (IsLead s.resident) new record { page = there open-so; named = named open-so }
        | inr old ↦ b.pages.leads z old
      ]

  tells : TreesAgree (followed at sp n name s.resident.pages v)
      → HasFollowed sp at v n (followed at sp n name s.resident.pages v)
  tells trees = record {
    pages = s.resident.pages;
    front = b.pages.resident;
    few = subst (λ (y : Layout). length s.resident.pages ≤ y.resident) (sym b.own.layout) b.sound.within;
    most = let few = b.sound.few.2 in let within = b.sound.within in omega arith;
    there = there;
    stands = λ open-so some.
        subst (λ (y : Layout). StandsFor y.decls s.resident.pages sp (page_half n)) (sym b.own.layout) (stands open-so some);
    slot = subst (λ (y : Layout). IfSome (half_of n) (λ t. t < y.slots)) (sym b.own.layout) slot_there;
    name = name;
    is = refl;
    agree = agree;
    trees = trees;
  }

  pub follow_stride : Stride l words views s (seat_number v.role) v at (λ k. k) (λ v k w. HasFollowed sp at v k w)
  follow_stride =
      agreed l words views s v active at (λ k. k) (λ v k w. HasFollowed sp at v k w)
      (look_stride l words views s id v active b at (λ k. k) (followed at sp n name s.resident.pages v)
      (λ v k w. TreesAgree w → HasFollowed sp at v k w) refl
      record { layout = refl; role = refl; made = refl; past = refl; parked = refl; epoch = refl; mine = refl; draws = refl; due = refl; seat = refl; checked = refl; took = refl; loaded = refl; met = refl; heard = refl; history = refl; decided = refl; versions = refl }
      refl
      record {
        within = b.pages.within;
        ways = ways_now;
        drafts = b.pages.drafts;
        copies = b.pages.copies;
        blanks = b.pages.blanks;
        resident = front_refl s.resident.pages;
        leads = leads_now;
        fills = b.pages.fills;
        known = b.pages.treed.known;
        heads = b.pages.treed.heads (seat_number v.role) (is_at v.role active);
        moved = b.pages.treed.moved;
        sealed = b.pages.treed.sealed (seat_number v.role) (is_at v.role active);
        inners = b.pages.treed.inners;
        new_leaves = b.pages.treed.new_leaves;
        new_inners = b.pages.treed.new_inners;
        shuts = b.pages.shuts (seat_number v.role) (is_at v.role active);
      }
      record {
        touched = λ q k. omega (arith, takes_same q k v (followed at sp n name s.resident.pages v) refl);
        locks = λ k has. inl has;
        changes = λ k z j r. inl refl;
        facing = λ worker role.
            follow_faces (with_read v.reads at n) record {
              new = record { word = at; seen = n; was = seen_at v.reads at; kept = kept_at v.reads at };
              word = refl;
              seen = refl;
              was = refl;
              is = refl;
            } worker role;
        blamed = blamed l words views s id v b;
      }
      tells)

pub follows : Laws → (l : Layout) (slots id : ℕ) (me : Me (Unit {0}) View) (x : At) (sp : Span) (at : ℕ)
    → IsActive me.0.role → IsPointerAt me.0 x sp at
    → Allows (λ s. Shows l s.words s.views) slots id me at (λ k. k)
    (λ k now. (now.1 ≡ me.1) × HasFollowed sp at me.0 k now.0)
follows laws l slots id me x sp at active is =
    allows_at laws l slots id me at (λ k. k) (λ v k w. HasFollowed sp at v k w) active
    (λ words views s b. follow_stride l words views s id me.0 active b x sp at is)
