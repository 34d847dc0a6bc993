-- The maintenance thread shuts a pointer.
use Rattle.std.proofs.Common.{◌≡◌, inl, inr, ℕ, ◌+◌, ◌<◌, ◌^◌, Bool, true, false, eqb, eqb-true, List, []}
use Rattle.std.proofs.Common.{get_or, refl, sym, ap, ◌∙◌, subst, arith}
use Rattle.std.specs.Prelude.{◌&&◌, MatchBool}
use Rattle.std.proofs.lemmas.Bool.{and_from}
use prog.Atomic.{either}
use Rattle.atomic_table.specs.Table.{Me, Allows}
use Rattle.lists.specs.Elements.{in_cases}
use Rattle.homes.specs.declared.places.At.{At}
use Rattle.homes.specs.declared.places.At.TheVariants.{Root, In}
use Rattle.homes.specs.declared.places.Holder.TheVariants.{Free, Held}
use Rattle.homes.specs.declared.places.Span.{Span}
use Rattle.homes.specs.Homes.{is_free}
use Rattle.wire_form.specs.Words.{at_bit, slot_field}
use Rattle.commit_core.specs.declared.seat.Seat.{Seat}
use Rattle.drop_core.specs.declared.event.Act.TheVariants.{Shut as ShutIt}
use Rattle.drop_core.specs.declared.grip.Grip.{Grip}
use Rattle.drop_core.specs.declared.table.Pointer.{Pointer}
use Rattle.drop_core.specs.declared.table.Table.{Table}
use Rattle.drop_core.specs.Event.{is_open, is_allowed as page_allows}
use Rattle.drop_core.specs.Table.{pointer_of, is_live, has_slot}
use Rattle.engine_rule.specs.declared.event.JointAct.TheVariants.{Turn as TurnPages}
use Rattle.engine_rule.specs.Event.{Joined, commit_lets, may_move}
use Rattle.engine_pages.specs.declared.layout.Layout.{Layout}
use Rattle.engine_pages.specs.declared.view.Role.{Role}
use Rattle.engine_pages.specs.declared.view.Role.TheVariants.{Keeper}
use Rattle.engine_pages.specs.declared.view.Shut.{Shut}
use Rattle.engine_pages.specs.declared.view.View.{View}
use Rattle.engine_pages.specs.Pointers.{IsPointerAt}
use Rattle.engine_pages.specs.Resident.{IsNamed}
use Rattle.engine_pages.specs.Rule.{Shared, IsShut, IsWithin, Shows}
use Rattle.engine_pages.specs.Steps.{read_at}
use Rattle.engine_pages.specs.Views.{IsActive, seat_number}
use Rattle.engine_pages.specs.Words.{lock_field}
use Rattle.engine_pages.proofs.Joint.{Laws, may_do}
use Rattle.engine_pages.proofs.OwnView.{own_fits}
use Rattle.engine_pages.proofs.PointerLaws.{PointerIs, open_pointer, pointer_is}
use Rattle.engine_pages.proofs.Seats.{is_at}
use Rattle.engine_pages.proofs.Turns.{Stride, Begins, allows_at}
use Rattle.pointer_swings.specs.Shuts.{CanShut, HasShut, shut_at, shut_of}
use Rattle.pointer_swings.proofs.Misses.{missed}
use Rattle.dual_pointer.proofs.Stands.{stands_at_place}
use Rattle.pointer_swings.proofs.Plain.{e as now_with, in_none_gone, pointer_new, repointed}
use Rattle.pointer_swings.proofs.Repoints.{Repointed}
use Rattle.pointer_swings.proofs.Steps.{old_now, pointer_stride, shut_still}
use Rattle.drop_core.specs.Table.{has_pointer}
use Rattle.drop_core.specs.declared.table.Page.{Page}
use Rattle.std.proofs.lemmas.Bool.Decides.{nat_tests}

-- the keeper's pass has a seat
pub keeper_active : (role : Role) → role ≡ Keeper → IsActive role
keeper_active role is = subst IsActive (sym is) tt

pub keeper_first : (role : Role) → role ≡ Keeper → seat_number role ≡ 0
keeper_first role is = ap seat_number is

-- a pointer that the pass finds is within what it holds
pub within_holds : (l : Layout) (words : List ℕ) (views : List View) (s : Shared) (id : ℕ) (v : View) (x : At) (sp : Span)
    (at : ℕ) → Begins l words views s id v → IsPointerAt v x sp at → IsWithin s.table v.grip.holds x
within_holds l words views s id v (Root r) sp at b is = tt
within_holds l words views s id v (In y) sp at b is =
    let place = stands_at_place l words views s id v (In y) sp at b is in
    let index = place.index in
    (held is, place.known, ap (λ (z : Page). has_pointer z y.index) place.page ∙ grind (arith, nat_tests))
  where
    has_held : ℕ → Type 0
    has_held t = has_slot v.grip.holds t ≡ true

    held : IsPointerAt v (In y) sp at → has_slot v.grip.holds y.slot ≡ true
    held (inl child) = subst (λ t. has_held t) child.slot (b.pages.ways child.way child.has).held
    held (inr branch) = subst (λ t. has_held t) branch.slot (b.pages.ways branch.way branch.has).held

-- ---- a pointer is shut

module _ (laws : Laws) (l : Layout) (words : List ℕ) (views : List View) (s : Shared) (id : ℕ) (v : View)
    (active : IsActive v.role) (b : Begins l words views s id v) (x : At) (sp : Span) (at expected : ℕ)
    (c : CanShut v x sp at expected) (n-is : get_or words at 0 ≡ expected) where
  abbrev d : Table
  d = s.table

  abbrev p : ℕ
  p = seat_number v.role

  abbrev q : Pointer
  q = pointer_of d x

  there : PointerIs l words s v x sp at
  there = pointer_is l words views s id v x sp at b c.place

  free : q.holder ≡ Free
  free =
      let shows = there.shows in
      open_pointer (at_bit 0 shows.number + at_bit 32 (slot_field q.slot)) q.holder
      (subst (λ k. k < 2 ^ 60) shows.word (let a = n-is in let low = c.free in omega arith))

  abbrev r : Pointer
  r = record q { holder = Held p }

  abbrev value : ℕ
  value = expected + 2 ^ 60

  abbrev e : Table
  e = now_with laws l words views s id v active b x sp at value c.place r

  abbrev w : View
  w = shut_at x at (get_or words at 0) v

  point : Repointed laws l words views s id v active b x sp at value c.place s.story.places s.story.homes s.story.horizon e r []
  point = repointed laws l words views s id v active b x sp at value c.place r refl refl (λ ws is.
      let shows = there.shows in record {
        number = shows.number;
        word =
            let a = shows.word in
            let k : lock_field q.holder ≡ 0 = ap lock_field free in
            let z = n-is in omega (arith, is);
        page = shows.page;
        slot = shows.slot;
        named = shows.named;
        keepers = λ o held.
            let same : Held p ≡ Held o = held in
            let one : p ≡ o = cc in sym one ∙ keeper_first v.role c.keeper;
      })

  other_shut : (z : Shut) → IsShut d s.resident p v.grip.holds z → x ≡ z.at → ⊥
  other_shut z was same =
      let no : Free ≡ Held p = sym free ∙ (ap (λ y. (pointer_of d y).holder) same ∙ was.shut) in absurd (cc)

  new_shut : IsShut e s.resident p v.grip.holds (shut_of x (get_or words at 0))
  new_shut =
      let shows = there.shows in
      let now = pointer_new laws l words views s id v active b x sp at value c.place r in
      let none : lock_field q.holder ≡ 0 = ap lock_field free in record {
        within = within_holds l words views s id v x sp at b c.place;
        shut = ap (λ (y : Pointer). y.holder) now;
        number = shows.number;
        word =
            let a = shows.word in
            let plain : get_or words at 0 ≡ at_bit 0 shows.number + at_bit 32 (slot_field q.slot) = omega arith in
            plain ∙ ap (λ (y : Pointer). at_bit 0 shows.number + at_bit 32 (slot_field y.slot)) (sym now);
        named = subst (λ (y : Pointer). IsNamed s.resident.places y.span shows.number y.page) (sym now) shows.named;
      }

  may : may_do s p (TurnPages (ShutIt x)) ≡ true
  may =
      let opened : is_open d x ≡ true = and_from (is_live d x) (is_free q.holder) (there.live free) (ap is_free free) in
      and_from (page_allows p d (s.grips p) (ShutIt x)) (commit_lets p s.story (s.seats p) d (ShutIt x) && may_move p s.story (s.seats p) [])
      opened refl

  pub shut_stride : (f : ℕ → ℕ) → f (get_or words at 0) ≡ value → (tells : View → ℕ → View → Type 0)
      → tells v (get_or words at 0) w → Stride l words views s p v at f tells
  shut_stride f f-is tells tells-so =
      let fv = b.fits in
      let old = old_now laws l words views s id v active b x sp at value c.place s.story.places s.story.homes s.story.horizon e r [] point in
      pointer_stride laws l words views s id v active b x sp at value c.place s.story.places s.story.homes s.story.horizon e r [] point
      (ShutIt x) w f tells c.keeper f-is may
      (ap (λ (y : Seat). let j : Joined = record { story = s.story; seat = y; table = e; grip = s.grips p } in j) (sym b.own.seat)
      ∙ ap (λ (y : Grip). let j : Joined = record { story = s.story; seat = v.seat; table = e; grip = y } in j) (sym b.grip))
      record {
        role = refl;
        made = refl;
        marks = refl;
        stage = refl;
        mine = refl;
        draws = refl;
        due = refl;
        touched = refl;
        blamed = refl;
        locks = λ k has. has;
        fits = own_fits l s.story s.story s.seats v w active fv fv.part refl refl refl refl refl (λ place mark has. has) record {
          history = fv.history;
          decided = fv.decided;
          heard = fv.heard;
          mine = fv.mine;
          mine_own = fv.mine_own;
          records = fv.records;
          kept = fv.kept;
          versions = fv.versions;
          loaded = fv.loaded;
          tried = b.own.tried;
          took = b.own.took;
          locked = b.own.locked;
          low = fv.low;
          epoch = λ keeper. (fv.keepers keeper).epoch;
          past = λ keeper. (fv.keepers keeper).past;
        };
        now = record {
          within = b.pages.within;
          ways = old.ways;
          drafts = old.drafts;
          copies = old.copies;
          blanks = old.blanks;
          resident = b.pages.resident;
          leads = b.pages.leads;
          fills = old.fills;
          known = old.known;
          heads = λ z has. old.heads z has refl;
          moved = old.moved;
          sealed = λ u has. old.sealed u has refl;
          inners = old.inners;
          new_leaves = old.new_leaves;
          new_inners = old.new_inners;
          shuts = λ z has. elim (in_cases z (shut_of x (get_or words at 0)) v.shuts has) [
            | inl new ↦ subst (λ y. IsShut e s.resident p v.grip.holds y) new new_shut
            | inr before ↦
                let was = b.pages.shuts p (is_at v.role active) z before in
                shut_still laws l words views s id v active b x sp at value c.place s.story.places s.story.homes s.story.horizon e r [] point z was
                (other_shut z was) (in_none_gone z.at)
          ];
        };
      } tells-so

pub shuts : Laws → (l : Layout) (slots id : ℕ) (me : Me (Unit {0}) View) (x : At) (sp : Span) (at expected : ℕ)
    → CanShut me.0 x sp at expected
    → Allows (λ s. Shows l s.words s.views) slots id me at (λ k. either (eqb k expected) (expected + 2 ^ 60) k)
    (λ k now. (now.1 ≡ me.1) × HasShut x at expected me.0 k now.0)
shuts laws l slots id me x sp at expected can =
    allows_at laws l slots id me at (λ k. either (eqb k expected) (expected + 2 ^ 60) k) (HasShut x at expected)
    (keeper_active me.0.role can.keeper)
    (λ words views s b. by_found words views s b (eqb (get_or words at 0) expected) refl)
  where
    by_found : (words : List ℕ) (views : List View) (s : Shared) → Begins l words views s id me.0 → (c : Bool)
        → eqb (get_or words at 0) expected ≡ c
        → Stride l words views s (seat_number me.0.role) me.0 at (λ k. either (eqb k expected) (expected + 2 ^ 60) k)
        (HasShut x at expected)
    by_found words views s b true found =
        let n : ℕ = get_or words at 0 in
        shut_stride laws l words views s id me.0 (keeper_active me.0.role can.keeper) b x sp at expected can (eqb-true n expected found)
        (λ k. either (eqb k expected) (expected + 2 ^ 60) k) (ap (λ c. either c (expected + 2 ^ 60) n) found) (HasShut x at expected)
        (subst (λ c. MatchBool c (shut_at x at n me.0 ≡ shut_at x at n me.0) (shut_at x at n me.0 ≡ read_at at n me.0)) (sym found) refl)
    by_found words views s b false found =
        let n : ℕ = get_or words at 0 in
        missed l words views s id me.0 (keeper_active me.0.role can.keeper) b x sp at can.place
        (λ k. either (eqb k expected) (expected + 2 ^ 60) k) (HasShut x at expected) (ap (λ c. either c (expected + 2 ^ 60) n) found)
        (subst (λ c. MatchBool c (read_at at n me.0 ≡ shut_at x at n me.0) (read_at at n me.0 ≡ read_at at n me.0)) (sym found) refl)
