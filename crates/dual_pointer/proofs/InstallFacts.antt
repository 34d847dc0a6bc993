-- What an install finds of its pointer, and what it needs of the page in the slot that it leads to.
use Rattle.std.proofs.Common.{◌≡◌, ◌≢◌, ℕ, ◌+◌, ◌*◌, ◌/◌, ◌^◌, ◌<◌, true, false, true≢false}
use Rattle.std.proofs.Common.{not, List, [], ◌∷◌, get_or, refl, sym, ap, ◌∙◌, subst}
use Rattle.std.proofs.Common.{arith, Some, None}
use Rattle.std.specs.Prelude.{◌&&◌}
use Rattle.serial_model.specs.declared.key.Key.{Key}
use Rattle.homes.specs.declared.places.At.{At}
use Rattle.homes.specs.declared.places.Holder.TheVariants.{Free}
use Rattle.homes.specs.declared.places.Move.{Move}
use Rattle.homes.specs.declared.places.Span.{Span}
use Rattle.homes.specs.declared.places.Spot.{Spot}
use Rattle.homes.specs.Homes.{in_span}
use Rattle.wire_form.specs.Words.{at_bit, slot_field}
use Rattle.commit_core.specs.declared.place.Place.{Place}
use Rattle.commit_core.specs.declared.seat.Seat.{Seat}
use Rattle.commit_core.specs.declared.seat.Stage.TheVariants.{Idle}
use Rattle.commit_core.specs.declared.story.Story.{Story}
use Rattle.commit_core.specs.Event.{moved as moved_as}
use Rattle.commit_core.specs.Moves.{with_moves, moves_key, is_left}
use Rattle.commit_core.specs.Places.{home_of}
use Rattle.drop_core.specs.declared.event.Act.TheVariants.{Install}
use Rattle.drop_core.specs.declared.grip.Grip.{Grip}
use Rattle.drop_core.specs.declared.table.Pointer.{Pointer}
use Rattle.drop_core.specs.declared.table.SlotState.{SlotState}
use Rattle.drop_core.specs.declared.table.SlotState.TheVariants.{Unused, Owned, Published as Shown, Retired}
use Rattle.drop_core.specs.declared.table.Table.{Table}
use Rattle.drop_core.specs.Event.{is_published, is_like, stands_for}
use Rattle.drop_core.specs.Event.{moves}
use Rattle.drop_core.specs.Law.{IsMade}
use Rattle.drop_core.specs.Sound.{TiesTo}
use Rattle.drop_core.specs.Table.{slot_of, page_of, pointer_of, snap_of, snap_home, has_slot, at_index}
use Rattle.drop_core.specs.Table.{has_pointer, is_never, is_live}
use Rattle.engine_rule.specs.Event.{may_move, after_moves}
use Rattle.engine_pages.specs.declared.layout.Layout.{Layout}
use Rattle.engine_pages.specs.declared.view.Role.{Role}
use Rattle.engine_pages.specs.declared.view.Role.TheVariants.{Keeper, Worker, Note, Spent}
use Rattle.engine_pages.specs.declared.view.View.{View}
use Rattle.engine_pages.specs.Layout.{page_at}
use Rattle.engine_pages.specs.Pages.{is_array, is_leaf_span, decl_of, IsLaidOut}
use Rattle.engine_pages.specs.Pointers.{IsPointerAt, slot_half, page_half}
use Rattle.engine_pages.specs.Resident.{IsNamed}
use Rattle.engine_pages.specs.Rule.{Shared, all_seats}
use Rattle.engine_pages.specs.Views.{IsActive, seat_number}
use Rattle.engine_pages.proofs.EachSeat.{at_seat}
use Rattle.engine_pages.proofs.Joint.{Laws}
use Rattle.engine_pages.proofs.PointerLaws.{PointerIs, pointer_is, open_pointer, halves}
use Rattle.engine_pages.proofs.Turns.{Begins}
use Rattle.dual_pointer.proofs.Rows.{buried_none}
use Rattle.dual_pointer.proofs.Moves.{idle_settled}

-- the seat of a worker isn't the first
pub worker_number : (role : Role) → IsActive role → (role ≡ Keeper → ⊥) → seat_number role ≢ 0
worker_number Keeper active other e = other refl
worker_number (Worker w) active other e = absurd (omega arith)
worker_number Note active other e = absurd active
worker_number Spent active other e = absurd active

pub by_published : (state : SlotState) → is_published state ≡ true → state ≡ Shown
by_published Unused e = absurd (true≢false (sym e))
by_published Owned e = absurd (true≢false (sym e))
by_published Shown e = refl
by_published Retired e = absurd (true≢false (sym e))

module _ (laws : Laws) (l : Layout) (words : List ℕ) (views : List View) (s : Shared) (id : ℕ) (v : View)
    (b : Begins l words views s id v) (x : At) (sp : Span) (at expected : ℕ) (here : IsPointerAt v x sp at)
    (low : expected < 2 ^ 32) (n-is : get_or words at 0 ≡ expected) where
  abbrev m : Story
  m = s.story

  abbrev d : Table
  d = s.table

  abbrev p : ℕ
  p = seat_number v.role

  abbrev q : Pointer
  q = pointer_of d x

  abbrev number : ℕ
  number = page_half expected

  pub there : PointerIs l words s v x sp at
  there = pointer_is l words views s id v x sp at b here

  pub free : q.holder ≡ Free
  free =
      let shows = there.shows in
      open_pointer (at_bit 0 shows.number + at_bit 32 (slot_field q.slot)) q.holder
      (subst (λ n. n < 2 ^ 60) shows.word (let a = n-is in omega arith))

  pub none : q.slot ≡ None
  none =
      let zero-is : get_or words at 0 / 2 ^ 32 ≡ 0 = let a = n-is in omega arith in
      (halves s.resident.places words at q there.shows free).slot ∙ ap slot_half zero-is

  pub number-is : there.shows.number ≡ number
  number-is = (halves s.resident.places words at q there.shows free).page ∙ ap page_half n-is

  pub named : IsNamed s.resident.places sp number q.page
  named =
      subst (λ k. IsNamed s.resident.places sp k q.page) number-is
      (subst (λ (z : Span). IsNamed s.resident.places z there.shows.number q.page) there.span there.shows.named)

  pub live : is_live d x ≡ true
  live = there.live free

  -- each key has its home by the page that the pointer names
  pub homes : (k : Key) → in_span sp k ≡ true → home_of m.homes k ≡ snap_home d q.page k
  homes k within =
      let ties = b.sound.joint.pages.table.one_home_each.ties x live in
      let down = subst (TiesTo (home_of m.homes) d q.span q.page) none ties in
      down k (ap (λ (z : Span). in_span z k) there.span ∙ within)

  pub made_never : (u : ℕ) → has_slot v.grip.made u ≡ true → is_never (slot_of d u).led ≡ true
  made_never u has =
      let is : IsMade d (all_seats s.grips) p u =
      laws.made (home_of m.homes) d (all_seats s.grips) p u (s.grips p) b.sound.joint.pages (at_seat s.grips p b.few)
      (ap (λ (g : Grip). has_slot g.made u) (sym b.grip) ∙ has) in
      ap is_never is.never

  -- The slot's page may stand for the page that the pointer names: none of its own pointers leads to a slot, its keys may
  -- move to it, and none of them has a home in a slot.
  pub record Installable (t : ℕ) : Type 0 where
    pub slot : t < l.slots
    pub made : has_slot v.grip.made t ≡ true
    pub state : is_published (slot_of d t).state ≡ true
    pub laid : IsLaidOut (decl_of l.decls sp.storage) s.trees d t sp
    pub fits : (is_like d t (page_of d t) (snap_of d q.page) && stands_for d t q.page q.span (page_of d t)) ≡ true
    pub alone : (j u : ℕ) → has_pointer (page_of d t) j ≡ true → (pointer_of d (at_index t j)).slot ≡ Some u → ⊥
    pub moving : may_move p m (s.seats p) (moves d (Install x t)) ≡ true
    pub unleft : (y : Spot) → is_left (moves d (Install x t)) m.homes y ≡ false
    -- a record of an array's leaf has no lock there
    pub low_words : (span : Span) (i : ℕ) → i < 32 → is_array l.decls span.storage ≡ true → is_leaf_span span ≡ true
        → IsLaidOut (decl_of l.decls span.storage) s.trees d t span
        → get_or words (page_at l.slots t (2 * i)) 0 < 2 ^ 60

-- what moves leave of a seat without locks and attempt
pub moved_idle : (p : ℕ) (m : Story) (seat : Seat) (list : List Move) → seat.locks ≡ [] → seat.stage ≡ Idle
    → after_moves p m seat list ≡ record { story = with_moves m list; seat = seat }
moved_idle p m seat [] locks stage =
    ap (λ (z : List (Spot × Place)). moved_as (record m { places = z }) seat)
    (sym (buried_none [] m.homes m.places (λ z. refl)))
moved_idle p m seat (v ∷ more) locks stage =
    ap (λ (z : Seat). moved_as (with_moves m (v ∷ more)) z)
    (idle_settled seat (λ k. not (moves_key (v ∷ more) k)) locks stage)
