-- The step of a swing away from a chain.
use Rattle.std.proofs.Common.{◌≡◌, ℕ, Bool, true, false, true≢false, eqb, eqb-true, not, List, [], ◌∷◌, ◌++◌, filter}
use Rattle.std.proofs.Common.{get_or, refl, sym, ap, ◌∙◌, subst}
use Rattle.std.specs.Prelude.{◌&&◌, MatchBool}
use Rattle.std.specs.List.{Contains}
use Rattle.std.proofs.lemmas.Bool.{and_from}
use prog.Atomic.{either}
use Rattle.atomic_table.specs.Table.{Me, Allows}
use Rattle.lists.specs.Elements.{in_none}
use Rattle.serial_model.specs.declared.key.Key.{Key}
use Rattle.homes.specs.declared.places.At.{At}
use Rattle.homes.specs.declared.places.Content.{Content}
use Rattle.homes.specs.declared.places.Home.{Home}
use Rattle.homes.specs.declared.places.Move.{Move}
use Rattle.homes.specs.declared.places.Span.{Span}
use Rattle.homes.specs.declared.places.Spot.{Spot}
use Rattle.homes.specs.Homes.{has_key, moves_to}
use Rattle.commit_core.specs.declared.place.Place.{Place}
use Rattle.commit_core.specs.declared.seat.Seat.{Seat}
use Rattle.commit_core.specs.declared.seat.Stage.TheVariants.{Idle}
use Rattle.commit_core.specs.declared.story.Story.{Story}
use Rattle.commit_core.specs.CoreState.{can_begin, settled, settled_at}
use Rattle.commit_core.specs.Event.{Moved, moved as moved_as}
use Rattle.commit_core.specs.Keys.{IsUpTo}
use Rattle.commit_core.specs.Moves.{buried as buried_places, can_rehome, horizon_after, moves_key, rehomed}
use Rattle.commit_core.specs.Moves.{with_moves}
use Rattle.drop_core.specs.declared.event.Act.{Act as PageAct}
use Rattle.drop_core.specs.declared.event.Act.TheVariants.{SwingChain}
use Rattle.drop_core.specs.declared.event.Chain.{Chain}
use Rattle.drop_core.specs.declared.grip.Grip.{Grip}
use Rattle.drop_core.specs.declared.table.Pointer.{Pointer}
use Rattle.drop_core.specs.declared.table.Table.{Table}
use Rattle.drop_core.specs.Event.{Turned, effect as page_effect, is_allowed as page_allows, is_chain, is_open}
use Rattle.drop_core.specs.Event.{is_target, leaves_none_out, moves}
use Rattle.drop_core.specs.Table.{pointer_of, snap_home}
use Rattle.engine_rule.specs.declared.event.JointAct.TheVariants.{Turn as TurnPages}
use Rattle.engine_rule.specs.Event.{absences_are_old, after_moves, commit_lets, holds_all, joined, may_move}
use Rattle.engine_pages.specs.declared.layout.Layout.{Layout}
use Rattle.engine_pages.specs.declared.view.Shut.{Shut}
use Rattle.engine_pages.specs.declared.view.View.{View}
use Rattle.engine_pages.specs.Rule.{Shared, Shows}
use Rattle.engine_pages.specs.Steps.{read_at}
use Rattle.engine_pages.specs.Views.{IsActive, seat_number}
use Rattle.engine_pages.proofs.Joint.{Laws, may_do}
use Rattle.engine_pages.proofs.OwnView.{own_fits}
use Rattle.engine_pages.proofs.Turns.{Begins, Stride, allows_at}
use Rattle.pointer_swings.proofs.KeysDown.{CanMoveKeys, absences_listed, holds_listed, may_move_keys}
use Rattle.pointer_swings.proofs.LeafSwings.{no_locks, unburied}
use Rattle.pointer_swings.proofs.Misses.{missed}
use Rattle.pointer_swings.proofs.MovesDown.{locks_gone}
use Rattle.pointer_swings.proofs.Repoints.{Repointed}
use Rattle.pointer_swings.proofs.Shutting.{keeper_active}
use Rattle.pointer_swings.proofs.Steps.{old_now, pointer_stride}
use Rattle.pointer_swings.proofs.SwingFacts.{IsAimed, Target, e as now_with, found as found_at, opened}
use Rattle.pointer_swings.proofs.SwingFacts.{point as gone_point, r as led_down}
use Rattle.chain_steps.specs.Swings.{CanSwingChain, HasSwungChain, swung_chain}
use Rattle.chain_steps.proofs.ChainFacts.{aim as aim_of, chain as chain_of, closed, is_its_chain, no_inner}
use Rattle.chain_steps.proofs.ChainKeys.{keys_over}
use Rattle.chain_steps.proofs.ChainMoves.{bury, can as can_of, idle as idle_of, in_chain, none_left, to as target_of}

module _ (laws : Laws) (l : Layout) (words : List ℕ) (views : List View) (s : Shared) (id : ℕ) (v : View)
    (active : IsActive v.role) (b : Begins l words views s id v) (x : At) (sp : Span) (at : ℕ) (slots : List ℕ)
    (number expected : ℕ) (c : CanSwingChain v x sp at slots number expected) (n-is : get_or words at 0 ≡ expected) where
  abbrev d : Table
  d = s.table

  abbrev m : Story
  m = s.story

  abbrev p : ℕ
  p = seat_number v.role

  abbrev q : Pointer
  q = pointer_of d x

  abbrev aim : IsAimed v x sp at c.top number expected
  aim = aim_of laws l words views s id v active b x sp at slots number expected c n-is

  abbrev to : Target laws l words views s id v active b x sp at c.top number expected aim n-is
  to = target_of laws l words views s id v active b x sp at slots number expected c n-is

  abbrev e : Table
  e = now_with laws l words views s id v active b x sp at c.top number expected aim n-is to.name slots

  abbrev r : Pointer
  r = led_down laws l words views s id v active b x sp at c.top number expected aim n-is to.name slots

  abbrev pub w : View
  w = swung_chain number slots at (get_or words at 0) v

  abbrev keys : List Key
  keys = keys_over d slots

  abbrev chain : Chain
  chain = chain_of laws l words views s id v active b x sp at slots number expected c n-is

  abbrev act : PageAct
  act = SwingChain x to.name chain

  abbrev down : Key → Home
  down = snap_home d to.name

  abbrev chain-moves : List Move
  chain-moves = moves_to down keys

  abbrev places : List (Spot × Place)
  places = buried_places chain-moves m.homes m.places

  abbrev n : Story
  n = with_moves m chain-moves

  can : CanMoveKeys p m d keys to.name v.past
  can = can_of laws l words views s id v active b x sp at slots number expected c n-is

  idle : v.seat.stage ≡ Idle
  idle = idle_of laws l words views s id v active b x sp at slots number expected c n-is

  -- the table after it
  point : Repointed laws l words views s id v active b x sp at number c.place places (rehomed chain-moves m.homes)
      (horizon_after m.horizon m.places m.homes chain-moves) e r slots
  point =
      gone_point laws l words views s id v active b x sp at c.top number expected aim n-is to.name slots
      (closed laws l words views s id v active b x sp at slots number expected c n-is) to refl places (rehomed chain-moves m.homes)
      (horizon_after m.horizon m.places m.homes chain-moves)
      (λ u j k lost is less. absurd (no_inner laws l words views s id v active b x sp at slots number expected c n-is u k lost is))
      (bury laws l words views s id v active b x sp at slots number expected c n-is)

  -- ---- it may happen

  seat-is : s.seats p ≡ v.seat
  seat-is = sym b.own.seat

  begins : can_begin (s.seats p).stage ≡ true
  begins = ap (λ (y : Seat). can_begin y.stage) seat-is ∙ ap can_begin idle

  pages_allow : page_allows p d (s.grips p) act ≡ true
  pages_allow =
      and_from (is_open d x) _ (opened laws l words views s id v active b x sp at c.top number expected aim n-is)
      (and_from (is_target d to.name q.span) _ to.target
      (and_from (is_chain p d x chain) (leaves_none_out d to.name q.span keys)
      (is_its_chain laws l words views s id v active b x sp at slots number expected c n-is)
      (ap (λ z. leaves_none_out d to.name z keys)
      (found_at laws l words views s id v active b x sp at c.top number expected aim n-is).span
      ∙ none_left laws l words views s id v active b x sp at slots number expected c n-is)))

  may : may_do s p (TurnPages act) ≡ true
  may =
      let lets : commit_lets p m (s.seats p) d act ≡ true =
      and_from (can_begin (s.seats p).stage) _ begins
      (and_from (holds_all p m keys) (absences_are_old m keys) (holds_listed p m d keys to.name v.past can)
      (absences_listed p m d keys to.name v.past can)) in
      and_from (page_allows p d (s.grips p) act) (commit_lets p m (s.seats p) d act && may_move p m (s.seats p) (moves d act))
      pages_allow
      (and_from (commit_lets p m (s.seats p) d act) (may_move p m (s.seats p) (moves d act)) lets
      (ap (λ k. can_rehome p k m chain-moves) begins ∙ may_move_keys p m d keys to.name v.past can))

  -- ---- what it leaves

  turned-is : page_effect p d (s.grips p) act ≡ record { table = e; grip = w.grip }
  turned-is =
      ap (λ (g : Grip). let z : Turned = record { table = e; grip = record g { taken = slots ++ g.taken } } in z) (sym b.grip)

  -- the keys, maybe none, and the locks of them
  moved_listed : (ks : List Key) → keys ≡ ks → after_moves p m (s.seats p) (moves_to down ks)
      ≡ record { story = with_moves m (moves_to down ks); seat = record v.seat { locks = [] } }
  moved_listed [] none =
      ap (moved_as m)
      (seat-is
      ∙ ap (λ (ls : List Key). let y : Seat = record v.seat { locks = ls } in y)
      (no_locks v.seat.locks (λ k has.
      ap (λ (zs : List Key). has_key zs k) (sym none)
      ∙ in_chain laws l words views s id v active b x sp at slots number expected c n-is k (c.own k has))))
      ∙ ap (λ (ps : List (Spot × Place)). let y : Story = record m { places = ps } in moved_as y (record v.seat { locks = [] }))
      (sym (unburied m.homes m.places))
  moved_listed (y ∷ ks) are =
      ap (moved_as (with_moves m (moves_to down (y ∷ ks))))
      (ap (λ (z : Seat). settled (record z { locks = filter (λ k. not (moves_key (moves_to down (y ∷ ks)) k)) z.locks })) seat-is
      ∙ (ap (λ ls. settled (record v.seat { locks = ls }))
      (locks_gone down (y ∷ ks) v.seat.locks (λ k has.
      ap (λ (zs : List Key). has_key zs k) (sym are)
      ∙ in_chain laws l words views s id v active b x sp at slots number expected c n-is k (c.own k has)))
      ∙ ap (λ g. settled_at g (record v.seat { locks = [] })) idle))

  moved-is : after_moves p m (s.seats p) (moves d act) ≡ record { story = n; seat = record v.seat { locks = [] } }
  moved-is = moved_listed keys refl

  -- ---- the step

  pub chain_turns : (f : ℕ → ℕ) (tells : View → ℕ → View → Type 0) → f (get_or words at 0) ≡ number
      → tells v (get_or words at 0) w → Stride l words views s p v at f tells
  chain_turns f tells f-is tells-so =
      let fv = b.fits in
      let old = old_now laws l words views s id v active b x sp at number c.place places (rehomed chain-moves m.homes)
      (horizon_after m.horizon m.places m.homes chain-moves) e r slots point in
      pointer_stride laws l words views s id v active b x sp at number c.place places (rehomed chain-moves m.homes)
      (horizon_after m.horizon m.places m.homes chain-moves) e r slots point act w f tells c.keeper f-is may
      (ap (λ (y : Moved). joined y (page_effect p d (s.grips p) act)) moved-is
      ∙ ap (λ (y : Turned). joined (moved_as n w.seat) y) turned-is)
      record {
        role = refl;
        made = refl;
        marks = refl;
        stage = refl;
        mine = refl;
        draws = refl;
        due = refl;
        touched = refl;
        blamed = refl;
        locks = λ k has. absurd (true≢false (sym has));
        fits = own_fits l m n s.seats v w active fv fv.part refl refl refl refl refl (λ place mark has. has) record {
          history = fv.history;
          decided = fv.decided;
          heard = fv.heard;
          mine = fv.mine;
          mine_own = fv.mine_own;
          records = fv.records;
          kept = λ k y z has. subst (λ (g : Content). IsUpTo z.number g.number) (sym (point.contents y)) (fv.kept k y z has);
          versions = fv.versions;
          loaded = tt;
          tried = b.own.tried;
          took = λ k has. absurd (in_none k has);
          locked = λ k has. absurd (true≢false (sym has));
          low = fv.low;
          epoch = λ keeper. (fv.keepers keeper).epoch;
          past = λ keeper. let was = (fv.keepers keeper).past in record { clock = was.clock; tried = was.tried };
        };
        now = record {
          within = b.pages.within;
          ways = old.ways;
          drafts = old.drafts;
          copies = old.copies;
          blanks = old.blanks;
          resident = b.pages.resident;
          leads = b.pages.leads;
          fills = old.fills;
          known = old.known;
          heads = λ z has. absurd (in_none z has);
          moved = old.moved;
          sealed = λ u has. absurd (true≢false (sym has));
          inners = old.inners;
          new_leaves = old.new_leaves;
          new_inners = old.new_inners;
          shuts = λ z has. absurd (in_none z (subst (λ (zs : List Shut). Contains zs z) c.shuts has));
        };
      } tells-so

pub swings_chain : Laws → (l : Layout) (count id : ℕ) (me : Me (Unit {0}) View) (x : At) (sp : Span) (at : ℕ) (slots : List ℕ)
    (number expected : ℕ) → CanSwingChain me.0 x sp at slots number expected
    → Allows (λ s. Shows l s.words s.views) count id me at (λ k. either (eqb k expected) number k)
    (λ k now. (now.1 ≡ me.1) × HasSwungChain slots at number expected me.0 k now.0)
swings_chain laws l count id me x sp at slots number expected can =
    allows_at laws l count id me at (λ k. either (eqb k expected) number k) (HasSwungChain slots at number expected)
    (keeper_active me.0.role can.keeper)
    (λ words views s b. by_found words views s b (eqb (get_or words at 0) expected) refl)
  where
    by_found : (words : List ℕ) (views : List View) (s : Shared) → Begins l words views s id me.0 → (y : Bool)
        → eqb (get_or words at 0) expected ≡ y
        → Stride l words views s (seat_number me.0.role) me.0 at (λ k. either (eqb k expected) number k)
        (HasSwungChain slots at number expected)
    by_found words views s b true found =
        let n : ℕ = get_or words at 0 in
        chain_turns laws l words views s id me.0 (keeper_active me.0.role can.keeper) b x sp at slots number expected can
        (eqb-true n expected found) (λ k. either (eqb k expected) number k) (HasSwungChain slots at number expected)
        (ap (λ y. either y number n) found)
        (subst (λ y. MatchBool y (swung_chain number slots at n me.0 ≡ swung_chain number slots at n me.0) (swung_chain number slots at n me.0 ≡ read_at at n me.0)) (sym found) refl)
    by_found words views s b false found =
        let n : ℕ = get_or words at 0 in
        missed l words views s id me.0 (keeper_active me.0.role can.keeper) b x sp at can.place
        (λ k. either (eqb k expected) number k) (HasSwungChain slots at number expected) (ap (λ y. either y number n) found)
        (subst (λ y. MatchBool y (read_at at n me.0 ≡ swung_chain number slots at n me.0) (read_at at n me.0 ≡ read_at at n me.0)) (sym found) refl)
