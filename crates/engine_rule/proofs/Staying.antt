-- What an event of one seat leaves of what another seat relies on.
use Rattle.std.proofs.Common.{◌≡◌, ℕ, ◌+◌, ◌≤◌, Bool, true, false, true≢false, not, ◌&&◌, inl, List, [], ◌∷◌, length, refl, sym, ap, ◌∙◌, subst, arith, Option, Some, None}
use Rattle.std.proofs.lemmas.Bool.{and_parts, cond-false, false_from_ne_true}
use Rattle.std.specs.List.{slice_get}
use Rattle.std.specs.Option.{option_map_or}
use Rattle.lists.specs.Elements.{any_is, at_set_other}
use Rattle.serial_model.specs.declared.key.Key.{Key}
use Rattle.homes.specs.declared.places.Content.{Content}
use Rattle.homes.specs.declared.places.Holder.TheVariants.{Free, Held}
use Rattle.homes.specs.declared.places.Spot.{Spot}
use Rattle.homes.specs.declared.places.At.{At}
use Rattle.homes.specs.declared.places.Move.{Move}
use Rattle.homes.specs.Homes.{same_spot}
use Rattle.homes.specs.Laws.{same_spot-true}
use Rattle.commit_core.specs.declared.part.Word.{Word}
use Rattle.commit_core.specs.declared.part.Word.TheVariants.{Record, Pointer, Header}
use Rattle.commit_core.specs.declared.attempt.Attempt.{Attempt}
use Rattle.commit_core.specs.declared.attempt.Check.{Check}
use Rattle.commit_core.specs.declared.event.Act.{Act as CommitAct}
use Rattle.commit_core.specs.declared.event.Act.TheVariants.{See, Keep, Lock, Draw, Check as Look, Confirm, Decide, Put, Open, Forget, Rehome, Advance, Mark}
use Rattle.commit_core.specs.declared.place.Place.{Place}
use Rattle.commit_core.specs.declared.seat.Seat.{Seat}
use Rattle.commit_core.specs.declared.story.Story.{Story}
use Rattle.commit_core.specs.CoreState.{attempt_tried, attempt_decided, check_of, is_trying}
use Rattle.commit_core.specs.Fill.{filled}
use Rattle.commit_core.specs.Keys.{content_of, nothing}
use Rattle.commit_core.specs.Leaves.{Leaves as CommitLeaves}
use Rattle.commit_core.specs.Lemmas.Moves.{is_spot-true, place-stays}
use Rattle.commit_core.specs.Lemmas.Places.{place_of-placed_other}
use Rattle.commit_core.specs.Moves.{is_left, is_spot}
use Rattle.commit_core.specs.Places.{place, place_of, home_of, spot_at}
use Rattle.commit_core.specs.Event.{Moved, locked, valued, opened, value_to_put, stays_as_seen, ended_check, after_check, after_decide, is_allowed as commit_allows, effect as commit_effect, with_moved}
use Rattle.drop_core.specs.declared.table.Led.{Led}
use Rattle.drop_core.specs.declared.table.Led.TheVariants.{Never, From}
use Rattle.drop_core.specs.declared.table.Table.{Table}
use Rattle.drop_core.specs.declared.grip.Grip.{Grip}
use Rattle.drop_core.specs.declared.event.Act.{Act as PageAct}
use Rattle.drop_core.specs.Table.{slot_of, page_of, has_slot, is_led}
use Rattle.drop_core.specs.Event.{is_owned, leaf_keys, is_allowed as page_allows, effect as page_effect, moves, with_turned}
use Rattle.drop_core.specs.Law.{IsMade, Leaves as PagesLeft, LeavesHeld, LeavesMades}
use Rattle.engine_rule.specs.declared.event.JointAct.{JointAct}
use Rattle.engine_rule.specs.declared.event.JointAct.TheVariants.{Commit, SeePointer, CheckPointer, SeeHeader, CheckHeader, AddRecord, AddKey, FillRecord, Turn}
use Rattle.engine_rule.specs.declared.event.JointEvent.{JointEvent}
use Rattle.engine_rule.specs.Pairs.{pointer_part}
use Rattle.engine_rule.specs.JointState.{JointState, can_see, is_so_now, can_see_header, is_header_so_now, header_part}
use Rattle.engine_rule.specs.Event.{page_lets, commit_lets, may_move, after_moves, after_key, next_spot, opening_with, is_allowed, acted, may_with, may_happen, happened_with, happened}
use Rattle.engine_rule.specs.Sound.{HasRecords, IsSound}
use Rattle.engine_rule.specs.Stays.{IsPlaceOf, StoryStays, Stays}
use Rattle.engine_rule.proofs.Adding.{Takes, takes, fits_not}
use Rattle.engine_rule.proofs.Fills.{other_slot}
use Rattle.engine_rule.proofs.Frames.{is_rehome}
use Rattle.engine_rule.proofs.Growing.{same_grows, filled_grows}
use Rattle.engine_rule.proofs.Laws.{Laws}
use Rattle.engine_rule.proofs.Plainly.{with_commits, plainly, acted_plainly}
use Rattle.engine_rule.proofs.Renewals.{renewed_story}
use Rattle.engine_rule.proofs.SoundActs.{spot_home}

-- ---- a place that is no key's home

ended_places : (check : Check) (stays : Bool) (m : Story) (s : Seat) → (ended_check check stays m s).story.places ≡ m.places
ended_places check true m s = refl
ended_places check false m s = refl

check_places : (w : Word) (stays : Attempt → Bool) (m : Story) (s : Seat) (o : Option Attempt) → (after_check w stays m s o).story.places ≡ m.places
check_places w stays m s None = refl
check_places w stays m s (Some a) = ended_places (check_of a.number w) (stays a) m s

decide_places : (m : Story) (s : Seat) (o : Option Attempt) → (after_decide m s o).story.places ≡ m.places
decide_places m s None = refl
decide_places m s (Some a) = refl

module _ (p : ℕ) (m : Story) (s : Seat) (y : Spot) (none : (k : Key) → spot_at m.homes k ≡ Some y → ⊥) where
  locked_other : (k : Key) (o : Option Spot) → spot_at m.homes k ≡ o → place_of (locked p m.places o) y ≡ place_of m.places y
  locked_other k None is = refl
  locked_other k (Some x) is =
      place_of-placed_other m.places x (place (place_of m.places x).content (Held p)) y (λ e. none k (is ∙ ap (λ (z : Spot). Some z) e))

  valued_other : (k : Key) (value : Option ℕ) (o : Option Spot) → spot_at m.homes k ≡ o → place_of (valued value m.places o) y ≡ place_of m.places y
  valued_other k value None is = refl
  valued_other k value (Some x) is =
      place_of-placed_other m.places x (place (content_of (place_of m.places x).content.number value) (place_of m.places x).holder) y
      (λ e. none k (is ∙ ap (λ (z : Spot). Some z) e))

  opened_other : (k : Key) (a : Option Attempt) (o : Option Spot) → spot_at m.homes k ≡ o → place_of (opened a m.places o) y ≡ place_of m.places y
  opened_other k a None is = refl
  opened_other k a (Some x) is =
      let old : Content = (place_of m.places x).content in
      place_of-placed_other m.places x (place (content_of (option_map_or (λ (b : Attempt). b.number) a old.number) old.value) Free) y
      (λ e. none k (is ∙ ap (λ (z : Spot). Some z) e))

  left_not : (list : List Move) → is_left list m.homes y ≡ false
  left_not list = false_from_ne_true (is_left list m.homes y) (λ e.
      let v = any_is (λ (v : Move). is_spot y (spot_at m.homes v.key)) list e in
      none v.0.key (is_spot-true y (spot_at m.homes v.0.key) v.2))

  moved_other : (list : List Move) → place_of (after_moves p m s list).story.places y ≡ place_of m.places y
  moved_other [] = refl
  moved_other (v ∷ more) = place-stays (v ∷ more) m.homes m.places y (left_not (v ∷ more))

  -- no act on commits changes it, but one that moves keys there
  act_other : (act : CommitAct) → is_rehome act ≡ false → place_of (commit_effect p m s act).story.places y ≡ place_of m.places y
  act_other (See k) e = refl
  act_other (Keep part) e = refl
  act_other (Lock k) e = locked_other k (spot_at m.homes k) refl
  act_other (Draw writes) e = refl
  act_other (Look x) e = ap (λ (l : List (Spot × Place)). place_of l y) (check_places (Record x) (stays_as_seen p m.places x) m s (attempt_tried m.history s.stage))
  act_other (Confirm w told) e = ap (λ (l : List (Spot × Place)). place_of l y) (check_places w (λ _. told) m s (attempt_tried m.history s.stage))
  act_other Decide e = ap (λ (l : List (Spot × Place)). place_of l y) (decide_places m s (attempt_tried m.history s.stage))
  act_other (Put k) e = valued_other k (value_to_put k (attempt_decided m.history s.stage)) (spot_at m.homes k) refl
  act_other (Open k) e = opened_other k (attempt_decided m.history s.stage) (spot_at m.homes k) refl
  act_other Forget e = refl
  act_other (Rehome list) e = absurd (true≢false e)
  act_other Advance e = refl
  act_other (Mark mark) e = refl

-- ---- stories

of_commits : (p : ℕ) (d : Table) (m n : Story) → CommitLeaves p m n → StoryStays p d m n
of_commits p d m n l = record {
  grows = l.grows;
  rise = λ x there. l.rise x;
  epoch = l.only.epoch;
  held = λ x o there. l.only.held x o;
  dead = λ x there. l.only.dead x;
  homes = l.only.homes;
  checks = l.only.checks;
}

same_story : (p : ℕ) (d : Table) (m : Story) → StoryStays p d m m
same_story p d m = record {
  grows = same_grows m;
  rise = λ x there. inl refl;
  epoch = λ other. refl;
  held = λ x o there is other. refl;
  dead = λ x there is. refl;
  homes = λ k o is other. refl;
  checks = λ i a at other w. refl;
}

-- a place that is filled, and is no record's of a page that something has led to
module _ (p : ℕ) (d : Table) (m : Story) (x : Spot) (c : Content) where
  filled_other : (y : Spot) → (x ≡ y → ⊥) → place_of (filled x c m).places y ≡ place_of m.places y
  filled_other y other = cond-false (same_spot x y) (place c Free) (place_of m.places y) (false_from_ne_true (same_spot x y) (λ e. other (same_spot-true x y e)))

  filled_stays : ((y : Spot) → IsPlaceOf d y → x ≡ y → ⊥) → StoryStays p d m (filled x c m)
  filled_stays stale = record {
    grows = filled_grows m x c;
    rise = λ y there. inl (ap (λ (q : Place). q.content.number) (sym (filled_other y (stale y there))));
    epoch = λ other. refl;
    held = λ y o there is other. filled_other y (stale y there);
    dead = λ y there is. filled_other y (stale y there);
    homes = λ k o is other. refl;
    checks = λ i a at other w. refl;
  }

-- ---- pages that are as they were

same_pages : (grips : List Grip) (d : Table) → PagesLeft grips d d
same_pages grips d = record {
  pages = λ q s h at holds known. record { page = inl refl; dead = λ dead. dead; spans = λ j _. refl; known = known; led = λ x is. (is, refl) };
  roots = λ r. refl;
  snaps = λ n within. refl;
  homes = λ n k within. refl;
  published = at_least d.published;
}
  where
    at_least : (n : ℕ) → n ≤ n
    at_least n = omega arith

same_held : (p : ℕ) (d : Table) → LeavesHeld p d d
same_held p d = record { headers = λ q s other is. (is, refl); pointers = λ q x other live is. refl }

same_made : (p : ℕ) (grips : List Grip) (d : Table) → LeavesMades p grips d d
same_made p grips d =
    λ q s h other there made. record { state = refl; times = refl; led = refl; page = refl; header = refl; pointers = λ j _. refl }

never_from : (x : At) → Never ≡ From x → ⊥
never_from x e = cc

never_led : (l : Led) → is_led l ≡ true → l ≡ Never → ⊥
never_led l led never = true≢false (sym led ∙ ap is_led never)

-- ---- act by act

module _ (laws : Laws) (c : JointState) (p : ℕ) (s : Seat) (g : Grip) (at : slice_get c.commits.seats p ≡ Some s) (holds : slice_get c.pages.grips p ≡ Some g) (sound : IsSound c) where
  abbrev m : Story
  m = c.commits.story

  abbrev d : Table
  d = c.pages.table

  -- a slot that another seat made
  others_made : (q t : ℕ) (h : Grip) → slice_get c.pages.grips q ≡ Some h → has_slot h.made t ≡ true → IsMade d c.pages.grips q t
  others_made q t h there made = laws.made (home_of m.homes) d c.pages.grips q t h sound.pages there made

  -- no key's home is in it
  no_home : (q : ℕ) (x : Spot) (h : Grip) → slice_get c.pages.grips q ≡ Some h → has_slot h.made x.slot ≡ true → (k : Key) → spot_at m.homes k ≡ Some x → ⊥
  no_home q x h there made k is =
      let own = sound.pages.table.one_home_each.own k x (spot_home (home_of m.homes k) x is) in
      never_led (slot_of d x.slot).led own.led (others_made q x.slot h there made).never

  -- an act on commits
  by_commits : (act : CommitAct) → is_rehome act ≡ false → commit_allows p m s act ≡ true → Stays p c (with_commits c p (commit_effect p m s act))
  by_commits act still can = record {
    opening = refl;
    story = of_commits p d m (commit_effect p m s act).story (laws.commits_leave c.commits.opening p m s act can sound.commits.story (sound.commits.seats p s at));
    pages = same_pages c.pages.grips d;
    held = same_held p d;
    made = same_made p c.pages.grips d;
    records = λ q x h other there made. act_other p m s x (no_home q x h there made) act still;
    seats = λ q other. at_set_other c.commits.seats p q (commit_effect p m s act).seat other;
    grips = λ q other. refl;
  }

  commit_stays : (act : CommitAct) → page_lets g m act ≡ true → commit_allows p m s act ≡ true → Stays p c (with_commits c p (commit_effect p m s act))
  commit_stays (See k) lets can = by_commits (See k) refl can
  commit_stays (Keep part) lets can = by_commits (Keep part) refl can
  commit_stays (Lock k) lets can = by_commits (Lock k) refl can
  commit_stays (Draw writes) lets can = by_commits (Draw writes) refl can
  commit_stays (Look x) lets can = by_commits (Look x) refl can
  commit_stays (Confirm w told) lets can = by_commits (Confirm w told) refl can
  commit_stays Decide lets can = by_commits Decide refl can
  commit_stays (Put k) lets can = by_commits (Put k) refl can
  commit_stays (Open k) lets can = by_commits (Open k) refl can
  commit_stays Forget lets can = by_commits Forget refl can
  commit_stays (Rehome list) lets can = absurd (true≢false (sym lets))
  commit_stays Advance lets can = by_commits Advance refl can
  commit_stays (Mark mark) lets can = by_commits (Mark mark) refl can

  moved_stays : (list : List Move) → may_move p m s list ≡ true → StoryStays p d m (after_moves p m s list).story
  moved_stays [] may = same_story p d m
  moved_stays (v ∷ more) may =
      of_commits p d m (commit_effect p m s (Rehome (v ∷ more))).story
      (laws.commits_leave c.commits.opening p m s (Rehome (v ∷ more)) may sound.commits.story (sound.commits.seats p s at))

  -- the state after an act on pages that left this of the commits
  abbrev turned_so : PageAct → Moved → JointState
  turned_so act n = record { commits = with_moved c.commits p n; pages = with_turned c.pages p (page_effect p d g act) }

  -- an act on pages, with its moves, whatever becomes of the seat
  turn_stays : (act : PageAct) (n : Moved) → n.story ≡ (after_moves p m s (moves d act)).story → page_allows p d g act ≡ true → may_move p m s (moves d act) ≡ true
      → Stays p c (turned_so act n)
  turn_stays act n is can may = record {
    opening = refl;
    story = subst (λ (x : Story). StoryStays p d m x) (sym is) (moved_stays (moves d act) may);
    pages = laws.pages_leave (home_of m.homes) d c.pages.grips p g act holds can sound.pages.table;
    held = laws.pages_hold (home_of m.homes) d c.pages.grips p g act holds can sound.pages;
    made = laws.pages_made (home_of m.homes) d c.pages.grips p g act holds can sound.pages;
    records = λ q x h other there made.
        ap (λ (y : Story). place_of y.places x) is ∙ moved_other p m s x (no_home q x h there made) (moves d act);
    seats = λ q other. at_set_other c.commits.seats p q n.seat other;
    grips = λ q other. at_set_other c.pages.grips p q (page_effect p d g act).grip other;
  }

  -- a place that is filled
  fill_stays : (x : Spot) (y : Content) → ((z : Spot) → IsPlaceOf d z → x ≡ z → ⊥)
      → ((q : ℕ) (z : Spot) (h : Grip) → (q ≡ p → ⊥) → slice_get c.pages.grips q ≡ Some h → has_slot h.made z.slot ≡ true → x ≡ z → ⊥)
      → Stays p c (record c { commits = record (c.commits) { story = filled x y c.commits.story } })
  fill_stays x y stale others = record {
    opening = refl;
    story = filled_stays p d m x y stale;
    pages = same_pages c.pages.grips d;
    held = same_held p d;
    made = same_made p c.pages.grips d;
    records = λ q z h other there made. filled_other p d m x y z (others q z h other there made);
    seats = λ q other. refl;
    grips = λ q other. refl;
  }

  -- the place behind a leaf's records is none of them
  next_stale : (t : ℕ) (k : Key) → Takes d t k → (z : Spot) → IsPlaceOf d z → next_spot d t ≡ z → ⊥
  next_stale t k it z there e =
      fits_not m d c.pages.grips sound.pages.table t k it
      (subst (λ (w : Spot). HasRecords (page_of d w.slot) (w.index + 1)) (sym e) there.there)

  each_plainly : (act : JointAct) → is_allowed p m s d g act ≡ true → Stays p c (plainly c p s g act)
  each_plainly (Commit act) can =
      let both = and_parts (page_lets g m act) (commit_allows p m s act) can in commit_stays act both.0 both.1
  each_plainly (SeePointer x) can =
      by_commits (Keep (pointer_part d x)) refl (and_parts (can_see d g x) (commit_allows p m s (Keep (pointer_part d x))) can).1
  each_plainly (CheckPointer x) can = by_commits (Confirm (Pointer x) (is_so_now p d m s x)) refl can
  each_plainly (SeeHeader t) can =
      by_commits (Keep (header_part d t)) refl (and_parts (can_see_header d g t) (commit_allows p m s (Keep (header_part d t))) can).1
  each_plainly (CheckHeader t) can = by_commits (Confirm (Header t) (is_header_so_now d m s t)) refl can
  each_plainly (AddRecord t k) can =
      let it = takes p d t k can in
      fill_stays (next_spot d t) nothing (next_stale t k it)
      (λ q z h other there made e. never_from it.x (sym (ap (λ (w : Spot). (slot_of d w.slot).led) e ∙ (others_made q z.slot h there made).never) ∙ it.led))
  each_plainly (AddKey t k) can =
      let a = and_parts (page_allows p d g (opening_with t k)) (not (is_trying s.stage) && may_move p m s (moves d (opening_with t k))) can in
      let b = and_parts (not (is_trying s.stage)) (may_move p m s (moves d (opening_with t k))) a.1 in
      turn_stays (opening_with t k) (after_key p m s d g t k)
      (renewed_story p (page_effect p d g (opening_with t k)).table t (length (leaf_keys (page_of d t))) k (after_moves p m s (moves d (opening_with t k)))) a.0 b.1
  each_plainly (FillRecord x y) can =
      let both = and_parts (is_owned (slot_of d x.slot).state) (has_slot g.made x.slot) can in
      fill_stays x y
      (λ z there. other_slot m d c.pages.grips sound.pages.table x y both.0 z there.known)
      (λ q z h other there made e. true≢false (sym both.1 ∙ ap (λ (w : Spot). has_slot g.made w.slot) e ∙ (others_made q z.slot h there made).alone p g other holds))
  each_plainly (Turn act) can =
      let a = and_parts (page_allows p d g act) (commit_lets p m s d act && may_move p m s (moves d act)) can in
      let b = and_parts (commit_lets p m s d act) (may_move p m s (moves d act)) a.1 in
      turn_stays act (after_moves p m s (moves d act)) refl a.0 b.1

  act_stays : (act : JointAct) → is_allowed p m s d g act ≡ true → Stays p c (acted c p s g act)
  act_stays act can = subst (λ (x : JointState). Stays p c x) (sym (acted_plainly c p s g at holds act)) (each_plainly act can)

-- ---- events

module _ (laws : Laws) where
  by_grip : (c : JointState) (e : JointEvent) (s : Seat) (o : Option Grip) → slice_get c.commits.seats e.seat ≡ Some s → slice_get c.pages.grips e.seat ≡ o
      → option_map_or (λ g. is_allowed e.seat c.commits.story s c.pages.table g e.act) o false ≡ true → IsSound c
      → Stays e.seat c (option_map_or (λ g. acted c e.seat s g e.act) o c)
  by_grip c e s None at holds may sound = absurd (true≢false (sym may))
  by_grip c e s (Some g) at holds may sound = act_stays laws c e.seat s g at holds sound e.act may

  by_seat : (c : JointState) (e : JointEvent) (o : Option Seat) → slice_get c.commits.seats e.seat ≡ o → option_map_or (may_with c e) o false ≡ true → IsSound c
      → Stays e.seat c (option_map_or (happened_with c e) o c)
  by_seat c e None at may sound = absurd (true≢false (sym may))
  by_seat c e (Some s) at may sound = by_grip c e s (slice_get c.pages.grips e.seat) at refl may sound

  pub event_stays : (c : JointState) (e : JointEvent) → may_happen c e ≡ true → IsSound c → Stays e.seat c (happened c e)
  event_stays c e may sound = by_seat c e (slice_get c.commits.seats e.seat) refl may sound
