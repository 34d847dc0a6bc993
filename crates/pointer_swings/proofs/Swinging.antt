-- The step of a swing.
use Rattle.std.proofs.Common.{◌≡◌, inl, inr, ℕ, zero, suc, ◌+◌, ◌<◌, Bool, true, false, true≢false, eqb, eqb-true}
use Rattle.std.proofs.Common.{eq-eqb, not, List, [], ◌∷◌, filter, get_or, refl, sym, ap, ◌∙◌, subst, arith, Some, None}
use Rattle.std.specs.Prelude.{◌&&◌, ◌||◌}
use Rattle.std.specs.List.{Contains, list_all}
use Rattle.std.proofs.lemmas.Bool.{and_from, and_parts, cases_Bool}
use Rattle.std.proofs.lemmas.Bool.Decides.{nat_tests}
use Rattle.lists.specs.Elements.{filter_only, in_filter, in_none}
use Rattle.serial_model.specs.declared.key.Key.{Key}
use Rattle.serial_model.specs.declared.number.Number.{Number}
use Rattle.homes.specs.declared.places.At.{At}
use Rattle.homes.specs.declared.places.At.TheVariants.{Root, In}
use Rattle.homes.specs.declared.places.Content.{Content}
use Rattle.homes.specs.declared.places.Holder.TheVariants.{Free, Held}
use Rattle.homes.specs.declared.places.Home.{Home}
use Rattle.homes.specs.declared.places.Move.{Move}
use Rattle.homes.specs.declared.places.Span.{Span}
use Rattle.homes.specs.declared.places.Spot.{Spot}
use Rattle.homes.specs.Homes.{holder_is, in_span, moves_to}
use Rattle.wire_form.specs.Words.{at_bit}
use Rattle.snapshot_store.specs.ArrayPages.{last_at}
use Rattle.snapshot_store.specs.Places.{page as page_words}
use Rattle.commit_core.specs.declared.place.Place.{Place}
use Rattle.commit_core.specs.declared.seat.Seat.{Seat}
use Rattle.commit_core.specs.declared.seat.Stage.TheVariants.{Idle}
use Rattle.commit_core.specs.declared.story.Story.{Story}
use Rattle.commit_core.specs.CoreState.{can_begin, settled, settled_at}
use Rattle.commit_core.specs.Event.{Moved, moved as moved_as}
use Rattle.commit_core.specs.Keys.{IsUpTo}
use Rattle.commit_core.specs.Moves.{buried as buried_places, can_rehome, horizon_after, is_left, moves_key, rehomed}
use Rattle.commit_core.specs.Moves.{with_moves}
use Rattle.commit_core.specs.Places.{place_of, spot_of, stands_at}
use Rattle.drop_core.specs.declared.event.Act.TheVariants.{Swing}
use Rattle.drop_core.specs.declared.grip.Grip.{Grip}
use Rattle.drop_core.specs.declared.table.Page.{Page}
use Rattle.drop_core.specs.declared.table.Page.TheVariants.{Leaf, Inner, Split}
use Rattle.drop_core.specs.declared.table.Pointer.{Pointer}
use Rattle.drop_core.specs.declared.table.Table.{Table}
use Rattle.drop_core.specs.Event.{Turned, can_swing, can_swing_from, each_once, is_in, is_like, is_stood_for}
use Rattle.drop_core.specs.Event.{is_target, keeps_header, keys_in, leaves_none_out, moves, swung as swung_table}
use Rattle.drop_core.specs.Event.{is_closed_to_others, is_open, leaf_keys, is_allowed as page_allows}
use Rattle.drop_core.specs.Event.{effect as page_effect}
use Rattle.drop_core.specs.Table.{at_index, has_slot, page_of, pointer_of, snap_home, snap_of, header_of, is_never}
use Rattle.drop_core.specs.Table.{slot_of}
use Rattle.engine_rule.specs.declared.event.JointAct.TheVariants.{Turn as TurnPages}
use Rattle.engine_rule.specs.Event.{absences_are_old, after_moves, commit_lets, holds_all, joined, may_move}
use Rattle.engine_rule.specs.JointState.{is_slot, slot_at as slot_with}
use Rattle.engine_pages.specs.declared.layout.Layout.{Layout}
use Rattle.engine_pages.specs.declared.view.Head.{Head}
use Rattle.engine_pages.specs.declared.view.Shut.{Shut}
use Rattle.engine_pages.specs.declared.view.View.{View}
use Rattle.engine_pages.specs.Pages.{decl_of, is_array, is_leaf_span, keys_from, shape_of, IsLaidOutFor, IsOver}
use Rattle.engine_pages.specs.Rule.{Shared, IsShut}
use Rattle.engine_pages.specs.Slots.{other_shuts}
use Rattle.engine_pages.specs.Views.{IsActive, seat_number}
use Rattle.engine_pages.specs.Words.{lock_field, spot}
use Rattle.engine_pages.proofs.Joint.{Laws, may_do}
use Rattle.engine_pages.proofs.OwnView.{own_fits}
use Rattle.engine_pages.proofs.PagesStay.{inner_shape, leaf_shape}
use Rattle.engine_pages.proofs.Seats.{is_at}
use Rattle.engine_pages.proofs.Turns.{Stride, Begins}
use Rattle.dual_pointer.proofs.InnerStands.{IsParted, parted}
use Rattle.dual_pointer.proofs.Moves.{leaf_stands}
use Rattle.dual_pointer.proofs.SnapWords.{LeafSays, leaf_says}
use Rattle.dual_pointer.proofs.Stands.{array_over}
use Rattle.pointer_swings.specs.Shuts.{shut_of}
use Rattle.pointer_swings.specs.Swings.{CanSwing, IsArrayAs, swung}
use Rattle.pointer_swings.proofs.LettingGo.{keeper_idle}
use Rattle.pointer_swings.proofs.Locked.{locked_held, locked_home, locked_proper, locked_says}
use Rattle.pointer_swings.proofs.MovesDown.{CanMoveDown, absences_old, holds_keys, left_row, locks_gone}
use Rattle.pointer_swings.proofs.MovesDown.{may_move_down}
use Rattle.pointer_swings.proofs.Renewing.{last_more}
use Rattle.pointer_swings.proofs.Repoints.{Repointed}
use Rattle.pointer_swings.proofs.Steps.{old_now, pointer_stride, shut_still}
use Rattle.pointer_swings.proofs.SwingInner.{shut_like, shut_stood}
use Rattle.pointer_swings.proofs.SwingFacts.{AreBuried, AreClosed, IsAimed, IsClosed, Target, aims, e as now_with}
use Rattle.pointer_swings.proofs.SwingFacts.{found, free, laid, leads, led, moves_bury, none_buried, one_slot, opened}
use Rattle.pointer_swings.proofs.SwingFacts.{point as gone_point, r as led_down, target}

-- a header of another slot
head_other : (t : ℕ) (z : Head) → not (eqb z.slot t) ≡ true → has_slot (t ∷ []) z.slot ≡ false
head_other t z other = elim (cases_Bool (eqb t z.slot)) [
  | inl same ↦ absurd (true≢false (sym other ∙ ap not (eq-eqb z.slot t (sym (eqb-true t z.slot same)))))
  | inr apart ↦ ap (λ (c : Bool). c || false) apart
]

-- a leaf's range has as many keys as it has room for
leaf_end : (sp : Span) (height : ℕ) → sp.high ≡ sp.low + last_at height → is_leaf_span sp ≡ true → sp.high ≡ sp.low + 31
leaf_end sp zero exact leaf = exact
leaf_end sp (suc height) exact leaf =
    let near : sp.high < sp.low + 32 = grind (arith, nat_tests) in
    let many = last_more height in absurd (omega (arith, exact, near, many))

-- a shut pointer elsewhere
shuts_other : (t : ℕ) (xs : List Shut) (z : Shut) → Contains (other_shuts t xs) z
    → Contains xs z × (is_in (t ∷ []) z.at ≡ false)
shuts_other t xs z has = (
  in_filter (λ (y : Shut). not (is_slot t (slot_with y.at))) z xs has,
  by_at z.at (filter_only (λ (y : Shut). not (is_slot t (slot_with y.at))) z xs has),
)
  where
    by_at : (y : At) → not (is_slot t (slot_with y)) ≡ true → is_in (t ∷ []) y ≡ false
    by_at (Root i) other = refl
    by_at (In y) other = by_test (eqb y.slot t) refl
      where
        by_test : (c : Bool) → eqb y.slot t ≡ c → has_slot (t ∷ []) y.slot ≡ false
        by_test true hit = absurd (true≢false (sym other ∙ ap not hit))
        by_test false miss = elim (cases_Bool (eqb t y.slot)) [
          | inl is ↦ absurd (true≢false (sym (eq-eqb y.slot t (sym (eqb-true t y.slot is))) ∙ miss))
          | inr apart ↦ ap (λ (c : Bool). c || false) apart
        ]

module _ (laws : Laws) (l : Layout) (words : List ℕ) (views : List View) (s : Shared) (id : ℕ) (v : View)
    (active : IsActive v.role) (b : Begins l words views s id v) (x : At) (sp : Span) (at t number expected : ℕ)
    (c : CanSwing v x sp at t number expected) (n-is : get_or words at 0 ≡ expected) where
  abbrev d : Table
  d = s.table

  abbrev m : Story
  m = s.story

  abbrev p : ℕ
  p = seat_number v.role

  abbrev q : Pointer
  q = pointer_of d x

  abbrev pub aim : IsAimed v x sp at t number expected
  aim = aims c

  pub to : Target laws l words views s id v active b x sp at t number expected aim n-is
  to = target laws l words views s id v active b x sp at t number expected aim n-is

  abbrev pub e : Table
  e = now_with laws l words views s id v active b x sp at t number expected aim n-is to.name (t ∷ [])

  abbrev pub r : Pointer
  r = led_down laws l words views s id v active b x sp at t number expected aim n-is to.name (t ∷ [])

  abbrev pub w : View
  w = swung t at number (get_or words at 0) v

  pub idle : v.seat.stage ≡ Idle
  idle = keeper_idle l v c.keeper b.fits.part

  pub leads-to : q.slot ≡ Some t
  leads-to = leads laws l words views s id v active b x sp at t number expected aim n-is

  pub span-is : q.span ≡ sp
  span-is = (found laws l words views s id v active b x sp at t number expected aim n-is).span

  pub laid-out : IsLaidOutFor l.decls s.trees d t sp
  laid-out = laid laws l words views s id v active b x sp at t number expected aim n-is

  -- the table, with the story's places, homes and horizon
  abbrev pub Point : List (Spot × Place) → List (Key × Home) → Number → Type 0
  Point places homes horizon =
      Repointed laws l words views s id v active b x sp at number c.place places homes horizon e r (t ∷ [])

  -- nobody else opens the header of the one page that is gone
  one_closed : IsClosed d p t → AreClosed d p (t ∷ [])
  one_closed k = record {
    known = λ u lost.
        ap is_never (ap (λ (i : ℕ). (slot_of d i).led) (sym (one_slot t u lost))
        ∙ led laws l words views s id v active b x sp at t number expected aim n-is);
    closed = λ u lost. ap (λ (i : ℕ). is_closed_to_others p (header_of d i)) (sym (one_slot t u lost)) ∙ k.closed;
  }

  pub point : IsClosed d p t → (places : List (Spot × Place)) (homes : List (Key × Home)) (horizon : Number)
      → ((u j k : ℕ) → has_slot (t ∷ []) u ≡ true → page_of d u ≡ Inner k → j < k
      → lock_field (pointer_of d (at_index u j)).holder ≡ at_bit 60 1)
      → AreBuried m places (t ∷ []) → Point places homes horizon
  point k places homes horizon shut moved =
      gone_point laws l words views s id v active b x sp at t number expected aim n-is to.name (t ∷ []) (one_closed k) to refl
      places homes horizon shut moved

  -- a split leaf is another page
  split_other : IsClosed d p t → (u : ℕ) → page_of d u ≡ Split → has_slot (t ∷ []) u ≡ false
  split_other k u split = elim (cases_Bool (has_slot (t ∷ []) u)) [
    | inl lost ↦ absurd (k.unsplit (ap (page_of d) (one_slot t u lost) ∙ split))
    | inr left ↦ left
  ]

  -- ---- what is asked of the pages

  -- what the machine of pages asks, where the page may be stood for
  pub pages_allow : IsClosed d p t → is_like d t (page_of d t) (snap_of d to.name) ≡ true → is_stood_for p d t to.name q.span (page_of d t) ≡ true
      → page_allows p d (s.grips p) (Swing x to.name) ≡ true
  pages_allow k like stood =
      and_from (can_swing p d x to.name) (keeps_header p d q.slot)
      (and_from (is_open d x) _ (opened laws l words views s id v active b x sp at t number expected aim n-is)
      (and_from (is_target d to.name q.span) (can_swing_from p d x to.name q.slot) to.target
      (ap (can_swing_from p d x to.name) leads-to
      ∙ and_from (is_like d t (page_of d t) (snap_of d to.name)) (is_stood_for p d t to.name q.span (page_of d t)) like stood)))
      (ap (keeps_header p d) leads-to ∙ k.closed)

  -- the grip and the table that it leaves
  turned-is : page_effect p d (s.grips p) (Swing x to.name) ≡ record { table = e; grip = w.grip }
  turned-is =
      ap (swung_table d (s.grips p) x to.name) leads-to
      ∙ ap (λ (g : Grip). let z : Turned = record { table = e; grip = record g { taken = t ∷ g.taken } } in z) (sym b.grip)

  -- a pointer that the pass has shut is another one
  other_shut : (z : Shut) → IsShut d s.resident p v.grip.holds z → x ≡ z.at → ⊥
  other_shut z was is =
      let no : Free ≡ Held p = sym (free laws l words views s id v active b x sp at t number expected aim n-is)
      ∙ (ap (λ y. (pointer_of d y).holder) is ∙ was.shut) in absurd (cc)

  -- ---- the step, whatever moves

  pub stride_with : (places : List (Spot × Place)) (homes : List (Key × Home)) (horizon : Number) (f : ℕ → ℕ)
      (tells : View → ℕ → View → Type 0) → IsClosed d p t → Point places homes horizon → f (get_or words at 0) ≡ number
      → may_do s p (TurnPages (Swing x to.name)) ≡ true
      → after_moves p m (s.seats p) (moves d (Swing x to.name))
      ≡ record { story = record m { places = places; homes = homes; horizon = horizon }; seat = w.seat }
      → tells v (get_or words at 0) w → Stride l words views s p v at f tells
  stride_with places homes horizon f tells k pt f-is may moved-is tells-so =
      let fv = b.fits in
      let n : Story = record m { places = places; homes = homes; horizon = horizon } in
      let old = old_now laws l words views s id v active b x sp at number c.place places homes horizon e r (t ∷ []) pt in
      pointer_stride laws l words views s id v active b x sp at number c.place places homes horizon e r (t ∷ []) pt
      (Swing x to.name) w f tells c.keeper f-is may
      (ap (λ (y : Moved). joined y (page_effect p d (s.grips p) (Swing x to.name))) moved-is
      ∙ ap (λ (y : Turned). joined (moved_as n w.seat) y) turned-is)
      record {
        role = refl;
        made = refl;
        marks = refl;
        stage = refl;
        mine = refl;
        draws = refl;
        due = refl;
        touched = refl;
        blamed = refl;
        locks = λ k has. absurd (true≢false (sym has));
        fits = own_fits l m n s.seats v w active fv fv.part refl refl refl refl refl (λ place mark has. has) record {
          history = fv.history;
          decided = fv.decided;
          heard = fv.heard;
          mine = fv.mine;
          mine_own = fv.mine_own;
          records = fv.records;
          kept = λ k y z has. subst (λ (g : Content). IsUpTo z.number g.number) (sym (pt.contents y)) (fv.kept k y z has);
          versions = fv.versions;
          loaded = tt;
          tried = b.own.tried;
          took = λ k has. absurd (in_none k has);
          locked = λ k has. absurd (true≢false (sym has));
          low = fv.low;
          epoch = λ keeper. (fv.keepers keeper).epoch;
          past = λ keeper. let was = (fv.keepers keeper).past in record { clock = was.clock; tried = was.tried };
        };
        now = record {
          within = b.pages.within;
          ways = old.ways;
          drafts = old.drafts;
          copies = old.copies;
          blanks = old.blanks;
          resident = b.pages.resident;
          leads = b.pages.leads;
          fills = old.fills;
          known = old.known;
          heads = λ z has.
              old.heads z (in_filter (λ (y : Head). not (eqb y.slot t)) z v.heads has)
              (head_other t z (filter_only (λ (y : Head). not (eqb y.slot t)) z v.heads has));
          moved = old.moved;
          sealed = λ u has. old.sealed u has (split_other k u (b.pages.treed.sealed p (is_at v.role active) u has).split);
          inners = old.inners;
          new_leaves = old.new_leaves;
          new_inners = old.new_inners;
          shuts = λ z has.
              let before = shuts_other t v.shuts z has in
              let was = b.pages.shuts p (is_at v.role active) z before.0 in
              shut_still laws l words views s id v active b x sp at number c.place places homes horizon e r (t ∷ []) pt z was
              (other_shut z was) before.1;
        };
      } tells-so

  pub seat-is : s.seats p ≡ v.seat
  seat-is = sym b.own.seat

  pub begins : can_begin (s.seats p).stage ≡ true
  begins = ap (λ (y : Seat). can_begin y.stage) seat-is ∙ ap can_begin idle

  -- ---- an array's page

  module _ (a : IsArrayAs v t sp number) where
    in-array : is_array l.decls sp.storage ≡ true
    in-array = ap (λ (y : Layout). is_array y.decls sp.storage) (sym b.own.layout) ∙ a.array

    over : (s.trees t ≡ None) × IsOver d t sp
    over = array_over (decl_of l.decls sp.storage) s.trees d t sp in-array laid-out

    array-closed : IsClosed d p t
    array-closed = record {
      closed = ap (is_closed_to_others p) (over.1).header;
      unsplit = λ split. by_kind (is_leaf_span sp) refl ((over.1).page) split;
    }
      where
        by_kind : (i : Bool) → is_leaf_span sp ≡ i → page_of d t ≡ shape_of sp → page_of d t ≡ Split → ⊥
        by_kind true leaf page split =
            let no : Leaf (keys_from sp.storage sp.low 32) ≡ Split = sym (page ∙ leaf_shape sp leaf) ∙ split in absurd (cc)
        by_kind false inner page split =
            let no : Inner 64 ≡ Split = sym (page ∙ inner_shape sp inner) ∙ split in absurd (cc)

    -- ---- a leaf

    module _ (leaf : is_leaf_span sp ≡ true) where
      abbrev keys : List Key
      keys = keys_from sp.storage sp.low 32

      abbrev down : Key → Home
      down = snap_home d to.name

      abbrev leaf-moves : List Move
      leaf-moves = moves_to down keys

      exact : sp.high ≡ sp.low + 31
      exact = leaf_end sp a.height a.exact leaf

      page-is : page_of d t ≡ Leaf keys
      page-is = (over.1).page ∙ leaf_shape sp leaf

      moves-are : moves d (Swing x to.name) ≡ leaf-moves
      moves-are =
          ap (λ o. moves_to down (keys_in d o)) leads-to ∙ ap (λ (z : Page). moves_to down (leaf_keys z)) page-is

      says-so : LeafSays d to.name sp (page_words s.resident.pages number)
      says-so = leaf_says l.decls s.resident d sp number to.name b.sound.declared b.sound.named to.named in-array exact

      can : CanMoveDown p m d t sp to.name
      can = record {
        at = λ i few. ap (stands_at m.places) (locked_home l words views s id v b c.keeper t sp number c.there in-array i (a.records leaf i few));
        held = λ i few. locked_held l words views s id v b c.keeper t sp number c.there in-array i (a.records leaf i few);
        says = λ i few. locked_says l words views s id v b c.keeper t sp number c.there in-array i (a.records leaf i few) ∙ sym (says-so.says i few);
        proper = λ i few. locked_proper l words views s id v b c.keeper t sp number c.there in-array i (a.records leaf i few);
        tried = λ a has now. let after = (b.fits.keepers c.keeper).past.tried a has now in omega arith;
      }

      abbrev places : List (Spot × Place)
      places = buried_places leaf-moves m.homes m.places

      -- a place that is left is one of the leaf's
      left_here : (y : Spot) → is_left leaf-moves m.homes y ≡ true → (i : ℕ) × (i < 32) × (y ≡ spot t (0 + i))
      left_here y lost =
          left_row down m.homes t 0 sp.storage sp.low 32 y
          (λ i few.
          ap spot_of (locked_home l words views s id v b c.keeper t sp number c.there in-array i (a.records leaf i few))
          ∙ ap (λ k. Some (spot t k)) (zero_plus i)) lost
        where
          zero_plus : (i : ℕ) → i ≡ 0 + i
          zero_plus i = omega arith

      leaf-point : Point places (rehomed leaf-moves m.homes) (horizon_after m.horizon m.places m.homes leaf-moves)
      leaf-point = point array-closed places (rehomed leaf-moves m.homes) (horizon_after m.horizon m.places m.homes leaf-moves)
          (λ u j k lost inner less.
          let here : t ≡ u = one_slot t u lost in
          let no : Leaf keys ≡ Inner k = sym page-is ∙ (ap (page_of d) here ∙ inner) in absurd (cc))
          (moves_bury p m (t ∷ []) leaf-moves (λ y lost.
          let at-i = left_here y lost in
          let slot : t ≡ y.slot = ap (λ (z : Spot). z.slot) (sym at-i.2) in
          let here : y ≡ spot t at-i.0 = at-i.2 ∙ ap (spot t) (plus_zero at-i.0) in (
            ap (λ (k : Bool). k || false) (eq-eqb t y.slot slot),
            ap (λ (z : Spot). holder_is p (place_of m.places z).holder) here
                ∙ locked_held l words views s id v b c.keeper t sp number c.there in-array at-i.0 (a.records leaf at-i.0 at-i.1),
          )))
        where
          plus_zero : (i : ℕ) → 0 + i ≡ i
          plus_zero i = omega arith

      moved-leaf : after_moves p m (s.seats p) (moves d (Swing x to.name))
          ≡ record { story = with_moves m leaf-moves; seat = record v.seat { locks = [] } }
      moved-leaf =
          ap (after_moves p m (s.seats p)) moves-are
          ∙ ap (moved_as (with_moves m leaf-moves))
          (ap (λ (y : Seat). settled (record y { locks = filter (λ k. not (moves_key leaf-moves k)) y.locks })) seat-is
          ∙ (ap (λ ks. settled (record v.seat { locks = ks })) (locks_gone down keys v.seat.locks (a.own leaf))
          ∙ ap (λ g. settled_at g (record v.seat { locks = [] })) idle))

      may-leaf : may_do s p (TurnPages (Swing x to.name)) ≡ true
      may-leaf =
          let stands = leaf_stands d to.name sp exact in
          let one = and_parts (each_once keys) (list_all (λ k. in_span sp k) keys && leaves_none_out d to.name sp keys) stands in
          let two = and_parts (list_all (λ k. in_span sp k) keys) (leaves_none_out d to.name sp keys) one.1 in
          let lets : commit_lets p m (s.seats p) d (Swing x to.name) ≡ true =
          and_from (can_begin (s.seats p).stage) _ begins
          (ap (λ ks. holds_all p m ks && absences_are_old m ks) keys-are
          ∙ and_from (holds_all p m keys) (absences_are_old m keys) (holds_keys p m d t sp to.name can) (absences_old p m d t sp to.name can)) in
          and_from (page_allows p d (s.grips p) (Swing x to.name))
          (commit_lets p m (s.seats p) d (Swing x to.name) && may_move p m (s.seats p) (moves d (Swing x to.name)))
          (pages_allow array-closed
          (ap (λ (z : Page). is_like d t z (snap_of d to.name)) page-is ∙ says-so.leaf)
          (ap (λ (z : Page). is_stood_for p d t to.name q.span z) page-is ∙ (ap (λ z. leaves_none_out d to.name z keys) span-is ∙ two.1)))
          (and_from (commit_lets p m (s.seats p) d (Swing x to.name)) (may_move p m (s.seats p) (moves d (Swing x to.name))) lets
          (ap (may_move p m (s.seats p)) moves-are
          ∙ (ap (λ k. can_rehome p k m leaf-moves) begins ∙ may_move_down p m d t sp to.name can)))
        where
          keys-are : keys_in d q.slot ≡ keys
          keys-are = ap (keys_in d) leads-to ∙ ap leaf_keys page-is

      pub leaf_stride : (f : ℕ → ℕ) (tells : View → ℕ → View → Type 0) → f (get_or words at 0) ≡ number
          → tells v (get_or words at 0) w → Stride l words views s p v at f tells
      leaf_stride f tells f-is tells-so =
          stride_with places (rehomed leaf-moves m.homes) (horizon_after m.horizon m.places m.homes leaf-moves) f tells array-closed
          leaf-point f-is may-leaf moved-leaf tells-so

    -- ---- an interior page

    module _ (inner : is_leaf_span sp ≡ false) where
      inner-is : page_of d t ≡ Inner 64
      inner-is = (over.1).page ∙ inner_shape sp inner

      none-moved : moves d (Swing x to.name) ≡ []
      none-moved =
          ap (λ o. moves_to (snap_home d to.name) (keys_in d o)) leads-to
          ∙ ap (λ (z : Page). moves_to (snap_home d to.name) (leaf_keys z)) inner-is

      shut-here : (j : ℕ) → j < 64 → IsShut d s.resident p v.grip.holds (shut_of (at_index t j) (get_or (page_words v.pages number) j 0))
      shut-here j less =
          b.pages.shuts p (is_at v.role active) (shut_of (at_index t j) (get_or (page_words v.pages number) j 0)) (a.pointers inner j less)

      parts : IsParted sp
      parts = parted sp a.height a.exact inner

      inner-point : Point m.places m.homes m.horizon
      inner-point = point array-closed m.places m.homes m.horizon
          (λ u j k lost is less.
          let here : t ≡ u = one_slot t u lost in
          let same : Inner k ≡ Inner 64 = sym is ∙ (ap (page_of d) (sym here) ∙ inner-is) in
          let count : k ≡ 64 = cc in
          ap (λ i. lock_field (pointer_of d (at_index i j)).holder) (sym here) ∙ ap lock_field (shut-here j (omega (arith, less, count))).shut)
          (none_buried m (t ∷ []))

      moved-none : after_moves p m (s.seats p) (moves d (Swing x to.name))
          ≡ record { story = m; seat = record v.seat { locks = [] } }
      moved-none =
          ap (after_moves p m (s.seats p)) none-moved
          ∙ (ap (moved_as m) seat-is ∙ ap (λ ks. moved_as m (record v.seat { locks = ks })) (a.unlocked inner))

      may-inner : may_do s p (TurnPages (Swing x to.name)) ≡ true
      may-inner =
          let lets : commit_lets p m (s.seats p) d (Swing x to.name) ≡ true =
          and_from (can_begin (s.seats p).stage) _ begins (ap (λ ks. holds_all p m ks && absences_are_old m ks) no-keys) in
          and_from (page_allows p d (s.grips p) (Swing x to.name))
          (commit_lets p m (s.seats p) d (Swing x to.name) && may_move p m (s.seats p) (moves d (Swing x to.name)))
          (pages_allow array-closed
          (ap (λ (z : Page). is_like d t z (snap_of d to.name)) inner-is
          ∙ shut_like l words views s id v b t sp number to.name over.1 inner parts c.there to.named in-array to.most shut-here (a.low inner))
          (ap (λ (z : Page). is_stood_for p d t to.name q.span z) inner-is
          ∙ shut_stood l words views s id v b t sp number to.name over.1 inner parts c.there to.named in-array to.most shut-here (a.low inner)))
          (and_from (commit_lets p m (s.seats p) d (Swing x to.name)) (may_move p m (s.seats p) (moves d (Swing x to.name))) lets
          (ap (may_move p m (s.seats p)) none-moved))
        where
          no-keys : keys_in d q.slot ≡ []
          no-keys = ap (keys_in d) leads-to ∙ ap leaf_keys inner-is

      pub inner_stride : (f : ℕ → ℕ) (tells : View → ℕ → View → Type 0) → f (get_or words at 0) ≡ number
          → tells v (get_or words at 0) w → Stride l words views s p v at f tells
      inner_stride f tells f-is tells-so =
          stride_with m.places m.homes m.horizon f tells array-closed inner-point f-is may-inner moved-none tells-so
