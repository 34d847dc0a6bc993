-- Each act of one machine keeps both sound, and so does a record that is set.
use Rattle.std.proofs.Common.{◌≡◌, ℕ, zero, suc, ◌<◌, true, false, true≢false, inl, inr, List, [], ◌∷◌, length, refl, sym, ap, ◌∙◌, subst, arith, set, Option, Some}
use Rattle.std.proofs.Math.ListN.{length-set}
use Rattle.std.specs.List.{slice_get, Contains}
use Rattle.serial_model.specs.declared.key.Key.{Key}
use Rattle.homes.specs.declared.places.Content.{Content}
use Rattle.homes.specs.declared.places.Spot.{Spot}
use Rattle.homes.specs.declared.places.Home.{Home}
use Rattle.homes.specs.declared.places.Home.TheVariants.{InSlot, InPage, Nowhere}
use Rattle.homes.specs.declared.places.Move.{Move}
use Rattle.homes.specs.Laws.{number_or_other}
use Rattle.lists.specs.Elements.{at_set_same, at_set_other, at_below}
use Rattle.commit_core.specs.declared.place.Place.{Place}
use Rattle.commit_core.specs.declared.part.Word.{Word}
use Rattle.commit_core.specs.declared.part.Word.TheVariants.{Record}
use Rattle.commit_core.specs.declared.part.Part.{Part}
use Rattle.commit_core.specs.declared.event.Act.{Act as CommitAct}
use Rattle.commit_core.specs.declared.event.Act.TheVariants.{See, Keep, Lock, Draw, Check as Look, Confirm, Decide, Put, Open, Forget, Rehome, Advance, Mark}
use Rattle.commit_core.specs.declared.seat.Seat.{Seat}
use Rattle.commit_core.specs.declared.story.Story.{Story}
use Rattle.commit_core.specs.CoreState.{CoreState}
use Rattle.commit_core.specs.Keys.{nothing}
use Rattle.commit_core.specs.Places.{home_of, spot_of, spot_at}
use Rattle.commit_core.specs.Event.{Moved, is_allowed as commit_allows, effect as commit_effect, with_moved}
use Rattle.commit_core.specs.Told.{IsToldTruly}
use Rattle.commit_core.specs.Sound.{IsSoundSeat, IsSound as CommitsAreSound}
use Rattle.commit_core.specs.Sound.Locks.{HoldersAreSeats}
use Rattle.drop_core.specs.declared.table.Led.{Led}
use Rattle.drop_core.specs.declared.table.Led.TheVariants.{Never, From, Away}
use Rattle.drop_core.specs.declared.table.Table.{Table}
use Rattle.drop_core.specs.declared.grip.Grip.{Grip}
use Rattle.drop_core.specs.declared.event.Act.{Act as PageAct}
use Rattle.drop_core.specs.Table.{slot_of, has_slot, is_led, is_never}
use Rattle.drop_core.specs.Event.{is_owned, can_open_header, is_allowed as page_allows, effect as page_effect, moves}
use Rattle.drop_core.specs.Sound.{IsSoundPages, IsSound as PagesAreSound}
use Rattle.engine_rule.specs.declared.event.JointAct.TheVariants.{Commit, AddRecord, FillRecord, Turn}
use Rattle.engine_rule.specs.JointState.{JointState, slot_of_word, holds_slot}
use Rattle.engine_rule.specs.Event.{slot_of_spot, page_lets, commit_lets, may_move, after_moves, next_spot}
use Rattle.engine_rule.specs.Sound.{IsHeld, KeptIsHeld, FitsWord, IsSoundKept, IsSound}
use Rattle.engine_rule.proofs.Laws.{Laws}
use Rattle.engine_rule.proofs.Plainly.{with_commits, plainly}
use Rattle.engine_rule.proofs.CommitSteps.{with_sound, unmoved_same}
use Rattle.engine_rule.proofs.Frames.{is_rehome, homes_stay, IsNew, kept_cases}
use Rattle.engine_rule.proofs.KeptLaws.{kept_stays, kept_fewer}
use Rattle.engine_rule.proofs.HomesMoved.{after_homes}
use Rattle.engine_rule.proofs.Turns.{holds_stay, leaves_turn, splits_turn}
use Rattle.engine_rule.proofs.Fills.{filled_leaves, filled_splits, filled_sound}
use Rattle.engine_rule.proofs.Adding.{index_below, takes, nobodys, none_kept, stands_still, added_leaves, added_splits}

pub spot_home : (h : Home) (x : Spot) → spot_of h ≡ Some x → h ≡ InSlot x
spot_home (InSlot y) x e = let same : y ≡ x = cc in ap (λ (z : Spot). InSlot z) same
spot_home (InPage n c) x e = cc
spot_home Nowhere x e = cc

led_known : (led : Led) → is_led led ≡ true → is_never led ≡ false
led_known Never e = absurd (true≢false (sym e))
led_known (From y) e = refl
led_known Away e = absurd (true≢false (sym e))

module _ (laws : Laws) (c : JointState) (p : ℕ) (s : Seat) (g : Grip) (at : slice_get c.commits.seats p ≡ Some s) (holds : slice_get c.pages.grips p ≡ Some g) (sound : IsSound c) where
  abbrev m : Story
  m = c.commits.story

  abbrev d : Table
  d = c.pages.table

  own : IsSoundSeat c.commits.opening m p s
  own = sound.commits.seats p s at

  was : IsSoundKept d g.holds s.kept
  was = sound.kept p s g at holds

  -- ---- an act on commits

  pub by_commits : (act : CommitAct) → is_rehome act ≡ false → commit_allows p m s act ≡ true → IsToldTruly p m s act
      → ((part : Part) → IsNew m act part → IsHeld d g.holds part.word × FitsWord d part part.word)
      → IsSound (with_commits c p (commit_effect p m s act))
  by_commits act still can told new =
      let n : Moved = commit_effect p m s act in
      record {
        commits = with_sound c.commits p s n at (laws.commits_keep c.commits.opening p m s act can told sound.commits.story own) sound.commits;
        pages = subst (λ (l : List (Key × Home)). PagesAreSound (home_of l) c.pages) (sym (homes_stay p m s act still)) sound.pages;
        leaves_stay_dead = λ t keys gone page k x home.
            let dead = sound.leaves_stay_dead t keys gone page k x home in
            ap (λ (q : Place). q.holder) ((laws.commits_leave c.commits.opening p m s act can sound.commits.story own).only.dead x dead) ∙ dead;
        splits_stay_dead = λ t i split less.
            let dead = sound.splits_stay_dead t i split less in
            ap (λ (q : Place). q.holder) ((laws.commits_leave c.commits.opening p m s act can sound.commits.story own).only.dead (record { slot = t; index = i }) dead) ∙ dead;
        kept = λ q t h there grip. elim (number_or_other p q) [
          | inl e ↦ own_kept n t h (ap (λ (i : ℕ). slice_get (set c.commits.seats p n.seat) i) e.0 ∙ there) (ap (λ (i : ℕ). slice_get c.pages.grips i) e.0 ∙ grip)
          | inr o ↦ sound.kept q t h (sym (at_set_other c.commits.seats p q n.seat (λ e. o.0 (sym e))) ∙ there) grip
        ];
        same_seats = length-set c.commits.seats p n.seat ∙ sound.same_seats;
      }
    where
      own_kept : (n : Moved) (t : Seat) (h : Grip) → slice_get (set c.commits.seats p (commit_effect p m s act).seat) p ≡ Some t → slice_get c.pages.grips p ≡ Some h → IsSoundKept d h.holds t.kept
      own_kept n t h there grip =
          let seats : Some (commit_effect p m s act).seat ≡ Some t = sym (at_set_same c.commits.seats p s (commit_effect p m s act).seat at) ∙ there in
          let seat : (commit_effect p m s act).seat ≡ t = cc in
          let grips : Some g ≡ Some h = sym holds ∙ grip in
          let same : g ≡ h = cc in
          subst (λ (y : Seat). IsSoundKept d h.holds y.kept) seat (subst (λ (y : Grip). IsSoundKept d y.holds (commit_effect p m s act).seat.kept) same (record {
            kept_is_held = λ part there. elim (kept_cases p m s act part there) [ inl old ↦ was.kept_is_held part old | inr y ↦ (new part y).0 ];
            kept_fits = λ part there. elim (kept_cases p m s act part there) [ inl old ↦ was.kept_fits part old | inr y ↦ (new part y).1 ];
          }))

  pub none_new : (act : CommitAct) → ((part : Part) → IsNew m act part → ⊥) → (part : Part) → IsNew m act part → IsHeld d g.holds part.word × FitsWord d part part.word
  none_new act none part n = absurd (none part n)

  -- a record that is seen stands in a leaf that the seat holds
  seen_new : (k : Key) → holds_slot g (slot_of_spot (spot_at m.homes k)) ≡ true → (part : Part) → IsNew m (See k) part → IsHeld d g.holds part.word × FitsWord d part part.word
  seen_new k lets part n =
      let x : Spot = n.0 in
      let home = spot_home (home_of m.homes k) x n.1 in
      let at = sound.pages.table.one_home_each.own k x home in
      let below = index_below x.slot 0 at.keys k x at.at in
      let held : IsHeld d g.holds (Record x) = (
        sym (ap (λ (o : Option Spot). holds_slot g (slot_of_spot o)) n.1) ∙ lets,
        led_known (slot_of d x.slot).led at.led,
      ) in
      subst (λ (w : Word). IsHeld d g.holds w × FitsWord d part w) (sym n.2) (held, inr (at.keys, at.page, omega (arith, below)))

  pub commit_act : (act : CommitAct) → page_lets g m act ≡ true → commit_allows p m s act ≡ true → IsSound (plainly c p s g (Commit act))
  commit_act (See k) lets can = by_commits (See k) refl can tt (seen_new k lets)
  commit_act (Keep part) lets can = absurd (true≢false (sym lets))
  commit_act (Lock k) lets can = by_commits (Lock k) refl can tt (none_new (Lock k) (λ part n. n))
  commit_act (Draw writes) lets can = by_commits (Draw writes) refl can tt (none_new (Draw writes) (λ part n. n))
  commit_act (Look x) lets can = by_commits (Look x) refl can tt (none_new (Look x) (λ part n. n))
  commit_act (Confirm w told) lets can = absurd (true≢false (sym lets))
  commit_act Decide lets can = by_commits Decide refl can tt (none_new Decide (λ part n. n))
  commit_act (Put k) lets can = by_commits (Put k) refl can tt (none_new (Put k) (λ part n. n))
  commit_act (Open k) lets can = by_commits (Open k) refl can tt (none_new (Open k) (λ part n. n))
  commit_act Forget lets can = by_commits Forget refl can tt (none_new Forget (λ part n. n))
  commit_act (Rehome list) lets can = absurd (true≢false (sym lets))
  commit_act Advance lets can = by_commits Advance refl can tt (none_new Advance (λ part n. n))
  commit_act (Mark mark) lets can = by_commits (Mark mark) refl can tt (none_new (Mark mark) (λ part n. n))

  -- ---- an act on pages

  moved_commits : (list : List Move) → may_move p m s list ≡ true → CommitsAreSound (with_moved c.commits p (after_moves p m s list))
  moved_commits [] may = subst (λ (x : CoreState). CommitsAreSound x) (sym (unmoved_same c.commits p s at)) sound.commits
  moved_commits (v ∷ more) may =
      with_sound c.commits p s (commit_effect p m s (Rehome (v ∷ more))) at
      (laws.commits_keep c.commits.opening p m s (Rehome (v ∷ more)) may tt sound.commits.story own) sound.commits

  pub moved_kept : (list : List Move) (part : Part) → Contains (after_moves p m s list).seat.kept part → Contains s.kept part
  moved_kept [] part there = there
  moved_kept (v ∷ more) part there = elim (kept_cases p m s (Rehome (v ∷ more)) part there) [ inl old ↦ old | inr n ↦ absurd n ]

  -- the seat holds what it held of the pages whose words it keeps
  abbrev Holds : PageAct → Type 0
  Holds act = (t : ℕ) (part : Part) → Contains s.kept part → slot_of_word part.word ≡ Some t → has_slot g.holds t ≡ true → has_slot (page_effect p d g act).grip.holds t ≡ true

  pub turned_sound : (act : PageAct) → page_allows p d g act ≡ true → Holds act → may_move p m s (moves d act) ≡ true → IsSound (plainly c p s g (Turn act))
  turned_sound act can stay may =
      let n : Moved = after_moves p m s (moves d act) in
      record {
        commits = moved_commits (moves d act) may;
        pages = subst (λ (f : Key → Home). IsSoundPages f (page_effect p d g act).table (set c.pages.grips p (page_effect p d g act).grip))
            (sym (after_homes p m s (moves d act)))
            (laws.pages_keep (home_of m.homes) d c.pages.grips p g act holds can sound.pages);
        leaves_stay_dead = leaves_turn laws.commits_leave laws.down laws.chains laws.away c.commits.opening p m s sound.commits.story own d c.pages.grips sound.pages.table g act can may
            sound.leaves_stay_dead;
        splits_stay_dead = splits_turn laws.commits_leave laws.down laws.chains laws.away c.commits.opening p m s sound.commits.story own d c.pages.grips sound.pages.table g laws.splits act can may
            sound.splits_stay_dead;
        kept = λ q t h there grip. elim (number_or_other p q) [
          | inl e ↦ own_kept t h (ap (λ (i : ℕ). slice_get (set c.commits.seats p (after_moves p m s (moves d act)).seat) i) e.0 ∙ there)
              (ap (λ (i : ℕ). slice_get (set c.pages.grips p (page_effect p d g act).grip) i) e.0 ∙ grip)
          | inr o ↦
              let other : q ≡ p → ⊥ = λ e. o.0 (sym e) in
              let old_grip = sym (at_set_other c.pages.grips p q (page_effect p d g act).grip other) ∙ grip in
              left q h old_grip t.kept (sound.kept q t h (sym (at_set_other c.commits.seats p q (after_moves p m s (moves d act)).seat other) ∙ there) old_grip)
        ];
        same_seats = length-set c.commits.seats p n.seat ∙ sound.same_seats ∙ sym (length-set c.pages.grips p (page_effect p d g act).grip);
      }
    where
      left : (q : ℕ) (h : Grip) → slice_get c.pages.grips q ≡ Some h → (kept : List Part) → IsSoundKept d h.holds kept → IsSoundKept (page_effect p d g act).table h.holds kept
      left q h there = kept_stays d (page_effect p d g act).table c.pages.grips (laws.pages_leave (home_of m.homes) d c.pages.grips p g act holds can sound.pages.table) q h there

      own_kept : (t : Seat) (h : Grip) → slice_get (set c.commits.seats p (after_moves p m s (moves d act)).seat) p ≡ Some t
          → slice_get (set c.pages.grips p (page_effect p d g act).grip) p ≡ Some h → IsSoundKept (page_effect p d g act).table h.holds t.kept
      own_kept t h there grip =
          let seats : Some (after_moves p m s (moves d act)).seat ≡ Some t = sym (at_set_same c.commits.seats p s (after_moves p m s (moves d act)).seat at) ∙ there in
          let seat : (after_moves p m s (moves d act)).seat ≡ t = cc in
          let grips : Some (page_effect p d g act).grip ≡ Some h = sym (at_set_same c.pages.grips p g (page_effect p d g act).grip holds) ∙ grip in
          let same : (page_effect p d g act).grip ≡ h = cc in
          subst (λ (y : Seat). IsSoundKept (page_effect p d g act).table h.holds y.kept) seat
          (subst (λ (y : Grip). IsSoundKept (page_effect p d g act).table y.holds (after_moves p m s (moves d act)).seat.kept) same
          (kept_fewer (page_effect p d g act).table g.holds (page_effect p d g act).grip.holds s.kept (after_moves p m s (moves d act)).seat.kept
          (moved_kept (moves d act)) stay (left p g holds s.kept was)))

  pub turn_act : (act : PageAct) → page_allows p d g act ≡ true → commit_lets p m s d act ≡ true → may_move p m s (moves d act) ≡ true → IsSound (plainly c p s g (Turn act))
  turn_act act can lets may = turned_sound act can (holds_stay p m s d g act lets) may

  -- ---- a record that is filled, or set

  there_is : (grips : List Grip) (i : ℕ) → i < length grips → (h : Grip) × (slice_get grips i ≡ Some h)
  there_is [] i less = absurd (omega (arith, less))
  there_is (h ∷ more) zero less = (h, refl)
  there_is (h ∷ more) (suc i) less = there_is more i (omega (arith, less))

  -- what any seat keeps is sound
  kept_so : (q : ℕ) (t : Seat) → slice_get c.commits.seats q ≡ Some t → (l : List ℕ) × IsSoundKept d l t.kept
  kept_so q t there =
      let h = there_is c.pages.grips q (subst (λ (n : ℕ). q < n) sound.same_seats (at_below c.commits.seats q t there)) in
      (h.0.holds, sound.kept q t h.0 there h.1)

  held : (q : ℕ) (t : Seat) → slice_get c.commits.seats q ≡ Some t → (l : List ℕ) × KeptIsHeld d l t.kept
  held q t there = let so = kept_so q t there in (so.0, so.1.kept_is_held)

  pub fill_act : (x : Spot) (y : Content) → is_owned (slot_of d x.slot).state ≡ true → IsSound (plainly c p s g (FillRecord x y))
  fill_act x y owned = record {
    commits = filled_sound c.commits d c.pages.grips sound.pages.table x y owned held sound.commits;
    pages = sound.pages;
    leaves_stay_dead = filled_leaves m d c.pages.grips sound.pages.table x y owned sound.leaves_stay_dead;
    splits_stay_dead = filled_splits m d c.pages.grips sound.pages.table x y owned sound.splits_stay_dead;
    kept = sound.kept;
    same_seats = sound.same_seats;
  }

  pub add_act : (t : ℕ) (k : Key) → can_open_header p d t (Some k) ≡ true → IsSound (plainly c p s g (AddRecord t k))
  add_act t k can =
      let it = takes p d t k can in
      let x : Spot = next_spot d t in
      let free = nobodys m d c.pages.grips sound.pages.table t k it in
      record {
        commits = record {
          story = laws.fills.story c.commits.opening m x nothing free sound.commits.story;
          seats = λ q u there.
              let so = kept_so q u there in
              laws.fills.seat c.commits.opening m x nothing q u free (none_kept m d c.pages.grips sound.pages.table t k it so.0 u.kept so.1) (sound.commits.seats q u there);
          holders_are_seats = subst (λ (f : Key → Place). HoldersAreSeats f (length c.commits.seats)) (sym (stands_still m d c.pages.grips sound.pages.table t k it nothing))
              sound.commits.holders_are_seats;
        };
        pages = sound.pages;
        leaves_stay_dead = added_leaves m d c.pages.grips sound.pages.table t k it nothing sound.leaves_stay_dead;
        splits_stay_dead = added_splits m d c.pages.grips sound.pages.table t k it nothing sound.splits_stay_dead;
        kept = sound.kept;
        same_seats = sound.same_seats;
      }
