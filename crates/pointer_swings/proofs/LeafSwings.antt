-- The step of a swing of a tree's leaf: the pass has locked its header and each of its records.
use Rattle.std.proofs.Common.{◌≡◌, ℕ, ◌+◌, ◌<◌, ◌≤◌, Bool, true, false, true≢false, eq-eqb, not, List, [], ◌∷◌, filter}
use Rattle.std.proofs.Common.{get_or, refl, sym, ap, ◌∙◌, subst, arith, Some, None}
use Rattle.std.specs.Prelude.{◌&&◌, ◌||◌}
use Rattle.std.specs.List.{slice_get}
use Rattle.std.proofs.lemmas.Bool.{and_from}
use Rattle.serial_model.specs.declared.key.Key.{Key}
use Rattle.homes.specs.declared.places.At.{At}
use Rattle.homes.specs.declared.places.Content.{Content}
use Rattle.homes.specs.declared.places.Home.{Home}
use Rattle.homes.specs.declared.places.Home.TheVariants.{InSlot}
use Rattle.homes.specs.declared.places.Move.{Move}
use Rattle.homes.specs.declared.places.Span.{Span}
use Rattle.homes.specs.declared.places.Spot.{Spot}
use Rattle.homes.specs.Homes.{has_key, holder_is, in_span, moves_to}
use Rattle.homes.specs.Laws.{in_span-parts, same_key-self}
use Rattle.snapshot_store.specs.TreePages.{Record, node_below, node_of, record_for, records_of}
use Rattle.commit_core.specs.declared.place.Place.{Place}
use Rattle.commit_core.specs.declared.seat.Seat.{Seat}
use Rattle.commit_core.specs.declared.story.Story.{Story}
use Rattle.commit_core.specs.CoreState.{can_begin, settled, settled_at}
use Rattle.commit_core.specs.Event.{moved as moved_as}
use Rattle.commit_core.specs.Keys.{nothing}
use Rattle.commit_core.specs.Moves.{buried as buried_places, can_rehome, horizon_after, is_left, moves_key, rehomed}
use Rattle.commit_core.specs.Moves.{with_moves}
use Rattle.commit_core.specs.Parts.{IsSameOrAbsent}
use Rattle.commit_core.specs.Places.{place_of, spot_of, stands_at}
use Rattle.drop_core.specs.declared.event.Act.TheVariants.{Swing}
use Rattle.drop_core.specs.declared.table.Page.{Page}
use Rattle.drop_core.specs.declared.table.Page.TheVariants.{Leaf, Inner, Split}
use Rattle.drop_core.specs.declared.table.Pointer.{Pointer}
use Rattle.drop_core.specs.declared.table.Table.{Table}
use Rattle.drop_core.specs.Event.{each_once, is_closed_to_others, is_like, is_stood_for, keys_in, leaf_keys}
use Rattle.drop_core.specs.Event.{leaves_none_out, moves, is_allowed as page_allows}
use Rattle.drop_core.specs.Table.{header_of, is_never, page_of, pointer_of, slot_of, snap_home, snap_of}
use Rattle.engine_rule.specs.declared.event.JointAct.TheVariants.{Turn as TurnPages}
use Rattle.engine_rule.specs.Event.{absences_are_old, after_moves, commit_lets, holds_all, may_move}
use Rattle.engine_rule.specs.Pairs.{page_content}
use Rattle.engine_pages.specs.declared.layout.Layout.{Layout}
use Rattle.engine_pages.specs.declared.view.View.{View}
use Rattle.engine_pages.specs.Pages.{decl_of, is_array, is_tree, Fenced}
use Rattle.engine_pages.specs.Resident.{tree_below}
use Rattle.engine_pages.specs.Rule.{Shared, IsHead, IsHeld}
use Rattle.engine_pages.specs.Views.{IsActive, seat_number}
use Rattle.engine_pages.specs.Words.{IsOverwritten, spot, ShowsTree}
use Rattle.engine_pages.proofs.Joint.{Laws, may_do}
use Rattle.engine_pages.proofs.Named.{page_longer}
use Rattle.engine_pages.proofs.PointerLaws.{known_shown, tree_over}
use Rattle.engine_pages.proofs.Seats.{is_at}
use Rattle.engine_pages.proofs.Turns.{Stride, Begins}
use Rattle.page_records.specs.Locks.{took_at}
use Rattle.page_records.proofs.HeldContents.{locked_content, locked_home as took_home}
use Rattle.page_records.proofs.Opening.{taken_at}
use Rattle.page_records.proofs.TreeLeaves.{tree_no_array}
use Rattle.page_records.proofs.Undecided.{begins_undecided, undecided}
use Rattle.dual_pointer.specs.Installs.{tree_records}
use Rattle.dual_pointer.proofs.Keyed.{has_at}
use Rattle.dual_pointer.proofs.TreePages.{IsTreeLeaf, tree_leaf_is}
use Rattle.pointer_swings.specs.Swings.{CanSwing}
use Rattle.pointer_swings.specs.TreeSwings.{leaf_content, IsTreeLeafAs, IsTreeLockedAs}
use Rattle.pointer_swings.proofs.KeysDown.{CanMoveKeys, absences_listed, holds_listed, left_keys, may_move_keys}
use Rattle.pointer_swings.proofs.LeafPage.{found_empty, leaf_left, leaf_says}
use Rattle.pointer_swings.proofs.MovesDown.{locks_gone}
use Rattle.pointer_swings.proofs.SwingFacts.{IsClosed, Target, aims, led, moves_bury, one_slot}
use Rattle.pointer_swings.proofs.Swinging.{Point, begins, idle, laid-out, leads-to, pages_allow, point, seat-is}
use Rattle.pointer_swings.proofs.Swinging.{span-is, stride_with, to as target_of, w as swung_view}

-- where nothing moves no place is left
pub unburied : (homes : List (Key × Home)) (ps : List (Spot × Place)) → buried_places [] homes ps ≡ ps
unburied homes [] = refl
unburied homes (e ∷ ps) = ap (λ (l : List (Spot × Place)). e ∷ l) (unburied homes ps)

-- and no lock is one of no key
pub no_locks : (locks : List Key) → ((k : Key) → has_key locks k ≡ true → (let none : List Key = [] in has_key none k) ≡ true) → locks ≡ []
no_locks [] own = refl
no_locks (k ∷ locks) own = absurd (true≢false (sym (own k (ap (λ (c : Bool). c || has_key locks k) (same_key-self k)))))

-- a place in one slot is one place
pub one_place : (x y : Spot) → InSlot x ≡ InSlot y → x ≡ y
one_place x y same = cc

module _ (laws : Laws) (l : Layout) (words : List ℕ) (views : List View) (s : Shared) (id : ℕ) (v : View)
    (active : IsActive v.role) (b : Begins l words views s id v) (x : At) (sp : Span) (at t number expected : ℕ)
    (c : CanSwing v x sp at t number expected) (n-is : get_or words at 0 ≡ expected) (a : IsTreeLeafAs v t sp number) where
  abbrev d : Table
  d = s.table

  abbrev m : Story
  m = s.story

  abbrev p : ℕ
  p = seat_number v.role

  abbrev q : Pointer
  q = pointer_of d x

  abbrev to : Target laws l words views s id v active b x sp at t number expected (aims c) n-is
  to = target_of laws l words views s id v active b x sp at t number expected c n-is

  abbrev keys : List Key
  keys = (a.head).keys

  abbrev records : List Record
  records = tree_records v.pages number

  -- ---- the leaf in the slot

  locked-head : IsHead l words d s.trees p a.head
  locked-head = b.pages.treed.heads p (is_at v.role active) a.head a.has

  page-is : page_of d t ≡ Leaf keys
  page-is = ap (page_of d) (sym a.slot) ∙ locked-head.leaf

  closed : IsClosed d p t
  closed = record {
    closed = ap (λ u. is_closed_to_others p (header_of d u)) (sym a.slot)
        ∙ (ap (is_closed_to_others p) locked-head.locked ∙ eq-eqb p p refl);
    unsplit = λ split. let no : Leaf keys ≡ Split = sym page-is ∙ split in absurd (cc);
  }

  tree : is_tree l.decls sp.storage ≡ true
  tree = ap (λ (y : Layout). is_tree y.decls sp.storage) (sym b.own.layout) ∙ a.tree

  fence : (f : Fenced) × (s.trees t ≡ Some f) × (f.span ≡ sp)
  fence =
      tree_over (decl_of l.decls sp.storage) s.trees d t sp tree
      (laid-out laws l words views s id v active b x sp at t number expected c n-is)

  shows : ShowsTree s.resident.places words l.slots t fence.0 (IsOverwritten m) (place_of m.places) d (Leaf keys)
  shows =
      let from = led laws l words views s id v active b x sp at t number expected (aims c) n-is in
      let known = known_shown d t (slot_of d t).state (slot_of d t).led (ap is_never from) (b.sound.joint.pages.table.holds_counted.led t) in
      subst (ShowsTree s.resident.places words l.slots t fence.0 (IsOverwritten m) (place_of m.places) d) page-is
      (b.sound.shown.treed t fence.0 (subst (λ u. u < l.slots) a.slot locked-head.within) known fence.1)

  once : each_once keys ≡ true
  once = subst (λ (ks : List Key). each_once ks ≡ true) shows.0 (shows.2).once

  -- a key of the leaf is one of the span
  inside : (i : ℕ) (k : Key) → slice_get keys i ≡ Some k → in_span sp k ≡ true
  inside i k is =
      ap (λ (z : Span). in_span z k) (sym fence.2)
      ∙ (shows.2).inside k (has_at (fence.0).keys i k (ap (λ (ks : List Key). slice_get ks i) shows.0 ∙ is))

  storage : (i : ℕ) (k : Key) → slice_get keys i ≡ Some k → k.storage ≡ sp.storage
  storage i k is = (in_span-parts sp k (inside i k is)).0

  -- ---- the snapshot page

  same_records : tree_records s.resident.pages number ≡ records
  same_records =
      ap (λ (ws : List ℕ). records_of (node_of ws)) (page_longer v.pages s.resident.pages number b.pages.resident c.there)

  same_below : tree_below s.resident.pages sp number ≡ []
  same_below =
      ap (λ (ws : List ℕ). node_below sp.low sp.high (node_of ws))
      (page_longer v.pages s.resident.pages number b.pages.resident c.there) ∙ a.leaf

  snap : IsTreeLeaf d to.name sp records
  snap =
      subst (λ (rs : List Record). IsTreeLeaf d to.name sp rs) same_records
      (tree_leaf_is l.decls s.resident d sp number to.name b.sound.declared b.sound.named b.sound.joint.pages.published to.named
      to.most tree same_below)

  has-says : (k : Key) → k.storage ≡ sp.storage → page_content (snap_home d to.name k) ≡ leaf_content v.pages number k
  has-says k same = leaf_says d to.name sp records snap k same

  -- ---- each record

  module _ (i : ℕ) (k : Key) (is : slice_get keys i ≡ Some k) where
    r : IsTreeLockedAs v t i number k
    r = a.records i k is

    held : IsHeld l.decls m p (took_at k (spot t i) r.word) (spot t i)
    held = taken_at l words views s id v k (spot t i) r.word b r.took

    no-array : is_array l.decls k.storage ≡ false
    no-array = ap (λ (n : ℕ). is_array l.decls n) (storage i k is) ∙ tree_no_array l.decls sp.storage tree

    undecided-is : undecided v.seat.stage ≡ true
    undecided-is = begins_undecided v.seat.stage (ap can_begin (idle laws l words views s id v active b x sp at t number expected c n-is))

    place-is : (b.own.took (took_at k (spot t i) r.word) r.took).0 ≡ spot t i
    place-is =
        one_place (b.own.took (took_at k (spot t i) r.word) r.took).0 (spot t i)
        (sym (took_home l words views s id v b k no-array undecided-is (took_at k (spot t i) r.word) r.took refl r.content r.small r.is r.value)
        ∙ held.home)

    content-is : (place_of m.places (spot t i)).content ≡ r.content
    content-is =
        ap (λ (y : Spot). (place_of m.places y).content) (sym place-is)
        ∙ locked_content l words views s id v b k no-array undecided-is (took_at k (spot t i) r.word) r.took refl r.content r.small r.is
        r.value

    record-says : IsSameOrAbsent (place_of m.places (spot t i)).content (page_content (snap_home d to.name k))
    record-says =
        subst (λ (z : Content). IsSameOrAbsent z (page_content (snap_home d to.name k))) (sym content-is)
        (subst (λ (z : Content). IsSameOrAbsent r.content z) (sym (has-says k (storage i k is))) r.says)

    record-old : (place_of m.places (spot t i)).content.value ≡ None → (place_of m.places (spot t i)).content.number.epoch ≤ v.past
    record-old none =
        subst (λ (z : Content). z.number.epoch ≤ v.past) (sym content-is)
        (r.old (ap (λ (z : Content). z.value) (sym content-is) ∙ none))

  can : CanMoveKeys p m d keys to.name v.past
  can = record {
    once = once;
    over = λ y has now. (b.fits.keepers c.keeper).past.tried y has now;
    each = λ i k is. (
      spot t i,
      record {
        at = ap (stands_at m.places) (held i k is).home;
        held = (held i k is).own;
        says = record-says i k is;
        empty = λ none.
            let says = has-says k (storage i k is) in
            says ∙ found_empty (record_for records k.key) (ap (λ (z : Content). z.value) (sym says) ∙ none);
        old = record-old i k is;
      },
    );
  }

  -- ---- the moves

  abbrev down : Key → Home
  down = snap_home d to.name

  abbrev leaf-moves : List Move
  leaf-moves = moves_to down keys

  moves-are : moves d (Swing x to.name) ≡ leaf-moves
  moves-are =
      ap (λ o. moves_to down (keys_in d o)) (leads-to laws l words views s id v active b x sp at t number expected c n-is)
      ∙ ap (λ (z : Page). moves_to down (leaf_keys z)) page-is

  abbrev places : List (Spot × Place)
  places = buried_places leaf-moves m.homes m.places

  -- a place that is left is one of the leaf's
  left_here : (y : Spot) → is_left leaf-moves m.homes y ≡ true → (i : ℕ) × (k : Key) × (slice_get keys i ≡ Some k) × (y ≡ spot t (0 + i))
  left_here y lost =
      left_keys down m.homes t 0 keys y
      (λ i k is. ap spot_of (held i k is).home ∙ ap (λ k. Some (spot t k)) (zero_plus i)) lost
    where
      zero_plus : (i : ℕ) → i ≡ 0 + i
      zero_plus i = omega arith

  leaf-point : Point laws l words views s id v active b x sp at t number expected c n-is places (rehomed leaf-moves m.homes)
      (horizon_after m.horizon m.places m.homes leaf-moves)
  leaf-point =
      point laws l words views s id v active b x sp at t number expected c n-is closed places (rehomed leaf-moves m.homes)
      (horizon_after m.horizon m.places m.homes leaf-moves)
      (λ u j k lost inner less.
      let here : t ≡ u = one_slot t u lost in
      let no : Leaf keys ≡ Inner k = sym page-is ∙ (ap (page_of d) here ∙ inner) in absurd (cc))
      (moves_bury p m (t ∷ []) leaf-moves (λ y lost.
      let at-i = left_here y lost in
      let slot : t ≡ y.slot = ap (λ (z : Spot). z.slot) (sym at-i.3) in
      let here : y ≡ spot t at-i.0 = at-i.3 ∙ ap (spot t) (plus_zero at-i.0) in (
        ap (λ (k : Bool). k || false) (eq-eqb t y.slot slot),
        ap (λ (z : Spot). holder_is p (place_of m.places z).holder) here ∙ (held at-i.0 at-i.1 at-i.2).own,
      )))
    where
      plus_zero : (i : ℕ) → 0 + i ≡ i
      plus_zero i = omega arith

  -- the keys of the leaf, maybe none, and the locks of them
  moved_listed : (ks : List Key) → keys ≡ ks → after_moves p m (s.seats p) (moves_to down ks)
      ≡ record { story = with_moves m (moves_to down ks); seat = record v.seat { locks = [] } }
  moved_listed [] none =
      ap (moved_as m)
      (seat-is laws l words views s id v active b x sp at t number expected c n-is
      ∙ ap (λ (ls : List Key). let y : Seat = record v.seat { locks = ls } in y)
      (no_locks v.seat.locks (λ k has. ap (λ (zs : List Key). has_key zs k) (sym none) ∙ a.own k has)))
      ∙ ap (λ (ps : List (Spot × Place)). let n : Story = record m { places = ps } in moved_as n (record v.seat { locks = [] }))
      (sym (unburied m.homes m.places))
  moved_listed (y ∷ ks) are =
      ap (moved_as (with_moves m (moves_to down (y ∷ ks))))
      (ap (λ (z : Seat). settled (record z { locks = filter (λ k. not (moves_key (moves_to down (y ∷ ks)) k)) z.locks }))
      (seat-is laws l words views s id v active b x sp at t number expected c n-is)
      ∙ (ap (λ ls. settled (record v.seat { locks = ls }))
      (locks_gone down (y ∷ ks) v.seat.locks (λ k has. ap (λ (zs : List Key). has_key zs k) (sym are) ∙ a.own k has))
      ∙ ap (λ g. settled_at g (record v.seat { locks = [] })) (idle laws l words views s id v active b x sp at t number expected c n-is)))

  moved-leaf : after_moves p m (s.seats p) (moves d (Swing x to.name))
      ≡ record { story = with_moves m leaf-moves; seat = record v.seat { locks = [] } }
  moved-leaf = ap (after_moves p m (s.seats p)) moves-are ∙ moved_listed keys refl

  may-leaf : may_do s p (TurnPages (Swing x to.name)) ≡ true
  may-leaf =
      let to-begin = begins laws l words views s id v active b x sp at t number expected c n-is in
      let lets : commit_lets p m (s.seats p) d (Swing x to.name) ≡ true =
      and_from (can_begin (s.seats p).stage) _ to-begin
      (ap (λ ks. holds_all p m ks && absences_are_old m ks) keys-are
      ∙ and_from (holds_all p m keys) (absences_are_old m keys) (holds_listed p m d keys to.name v.past can)
      (absences_listed p m d keys to.name v.past can)) in
      and_from (page_allows p d (s.grips p) (Swing x to.name))
      (commit_lets p m (s.seats p) d (Swing x to.name) && may_move p m (s.seats p) (moves d (Swing x to.name)))
      (pages_allow laws l words views s id v active b x sp at t number expected c n-is closed
      (ap (λ (z : Page). is_like d t z (snap_of d to.name)) page-is ∙ snap.leaf)
      (ap (λ (z : Page). is_stood_for p d t to.name q.span z) page-is
      ∙ (ap (λ z. leaves_none_out d to.name z keys) (span-is laws l words views s id v active b x sp at t number expected c n-is)
      ∙ leaf_left d to.name sp records snap keys a.there)))
      (and_from (commit_lets p m (s.seats p) d (Swing x to.name)) (may_move p m (s.seats p) (moves d (Swing x to.name))) lets
      (ap (may_move p m (s.seats p)) moves-are
      ∙ (ap (λ k. can_rehome p k m leaf-moves) to-begin ∙ may_move_keys p m d keys to.name v.past can)))
    where
      keys-are : keys_in d q.slot ≡ keys
      keys-are = ap (keys_in d) (leads-to laws l words views s id v active b x sp at t number expected c n-is) ∙ ap leaf_keys page-is

  pub leaf_turns : (f : ℕ → ℕ) (tells : View → ℕ → View → Type 0) → f (get_or words at 0) ≡ number
      → tells v (get_or words at 0) (swung_view laws l words views s id v active b x sp at t number expected c n-is)
      → Stride l words views s p v at f tells
  leaf_turns f tells f-is tells-so =
      stride_with laws l words views s id v active b x sp at t number expected c n-is places (rehomed leaf-moves m.homes)
      (horizon_after m.horizon m.places m.homes leaf-moves) f tells closed leaf-point f-is may-leaf moved-leaf tells-so
