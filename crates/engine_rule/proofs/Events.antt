-- Each event keeps both machines sound, and so does each list of events.
use Rattle.std.proofs.Common.{◌≡◌, ℕ, Bool, true, false, true≢false, not, cond, ◌&&◌, inl, inr, List, [], ◌∷◌, refl, sym, subst, Option, Some, None}
use Rattle.std.proofs.lemmas.Bool.{and_parts, cases_Bool}
use Rattle.std.specs.List.{slice_get}
use Rattle.std.specs.Option.{option_map_or}
use Rattle.commit_core.specs.declared.part.Word.TheVariants.{Pointer, Header}
use Rattle.commit_core.specs.declared.part.Part.{Part}
use Rattle.commit_core.specs.declared.event.Act.TheVariants.{Keep, Confirm}
use Rattle.commit_core.specs.declared.seat.Seat.{Seat}
use Rattle.commit_core.specs.declared.story.Story.{Story}
use Rattle.commit_core.specs.CoreState.{is_trying}
use Rattle.commit_core.specs.Event.{is_allowed as commit_allows}
use Rattle.commit_core.specs.Sound.{IsSoundSeat}
use Rattle.drop_core.specs.declared.table.Table.{Table}
use Rattle.drop_core.specs.declared.grip.Grip.{Grip}
use Rattle.drop_core.specs.Table.{slot_of, has_slot}
use Rattle.drop_core.specs.Event.{is_owned, is_allowed as page_allows, moves}
use Rattle.engine_rule.specs.declared.event.JointAct.{JointAct}
use Rattle.engine_rule.specs.declared.event.JointAct.TheVariants.{Commit, SeePointer, CheckPointer, SeeHeader, CheckHeader, AddRecord, AddKey, FillRecord, Turn}
use Rattle.engine_rule.specs.declared.event.JointEvent.{JointEvent}
use Rattle.engine_rule.specs.Pairs.{pointer_part}
use Rattle.engine_rule.specs.JointState.{JointState, can_see, is_so_now, can_see_header, is_header_so_now, header_part}
use Rattle.engine_rule.specs.Event.{page_lets, commit_lets, may_move, opening_with, is_allowed, acted, may_with, may_happen, happened_with, happened, next, run}
use Rattle.engine_rule.specs.Sound.{IsHeld, FitsWord, IsSoundKept, IsSound}
use Rattle.engine_rule.proofs.Laws.{Laws}
use Rattle.engine_rule.proofs.Plainly.{plainly, acted_plainly}
use Rattle.engine_rule.proofs.PointerLaws.{see_free, see_held, see_fits, told_truly}
use Rattle.engine_rule.proofs.HeaderLaws.{header_free, header_held, header_fits, header_truly}
use Rattle.engine_rule.proofs.SoundActs.{by_commits, none_new, commit_act, turn_act, fill_act, add_act}
use Rattle.engine_rule.proofs.KeyAdded.{add_key_act}

module _ (laws : Laws) (c : JointState) (p : ℕ) (s : Seat) (g : Grip) (at : slice_get c.commits.seats p ≡ Some s) (holds : slice_get c.pages.grips p ≡ Some g) (sound : IsSound c) where
  abbrev m : Story
  m = c.commits.story

  abbrev d : Table
  d = c.pages.table

  own : IsSoundSeat c.commits.opening m p s
  own = sound.commits.seats p s at

  was : IsSoundKept d g.holds s.kept
  was = sound.kept p s g at holds

  each_plainly : (act : JointAct) → is_allowed p m s d g act ≡ true → IsSound (plainly c p s g act)
  each_plainly (Commit act) can =
      let both = and_parts (page_lets g m act) (commit_allows p m s act) can in commit_act laws c p s g at holds sound act both.0 both.1
  each_plainly (SeePointer x) can =
      let both = and_parts (can_see d g x) (commit_allows p m s (Keep (pointer_part d x))) can in
      by_commits laws c p s g at holds sound (Keep (pointer_part d x)) refl both.1 (see_free m d c.pages.grips sound.pages.table g x both.0)
      (λ part n. subst (λ (q : Part). IsHeld d g.holds q.word × FitsWord d q q.word) n
      (see_held m d c.pages.grips sound.pages.table g x both.0, see_fits m d c.pages.grips sound.pages.table g x both.0))
  each_plainly (CheckPointer x) can =
      by_commits laws c p s g at holds sound (Confirm (Pointer x) (is_so_now p d m s x)) refl can
      (told_truly m d c.pages.grips sound.pages.table p s g x own.tries_kept was)
      (none_new laws c p s g at holds sound (Confirm (Pointer x) (is_so_now p d m s x)) (λ part n. n))
  each_plainly (SeeHeader t) can =
      let both = and_parts (can_see_header d g t) (commit_allows p m s (Keep (header_part d t))) can in
      by_commits laws c p s g at holds sound (Keep (header_part d t)) refl both.1 (header_free m d c.pages.grips sound.pages.table g t both.0)
      (λ part n. subst (λ (q : Part). IsHeld d g.holds q.word × FitsWord d q q.word) n
      (header_held m d c.pages.grips sound.pages.table g t both.0, header_fits m d c.pages.grips sound.pages.table g t both.0))
  each_plainly (CheckHeader t) can =
      by_commits laws c p s g at holds sound (Confirm (Header t) (is_header_so_now d m s t)) refl can
      (header_truly m d c.pages.grips sound.pages.table sound.pages.headers p s g t own.tries_kept was)
      (none_new laws c p s g at holds sound (Confirm (Header t) (is_header_so_now d m s t)) (λ part n. n))
  each_plainly (AddRecord t k) can = add_act laws c p s g at holds sound t k can
  each_plainly (AddKey t k) can =
      let a = and_parts (page_allows p d g (opening_with t k)) (not (is_trying s.stage) && may_move p m s (moves d (opening_with t k))) can in
      let b = and_parts (not (is_trying s.stage)) (may_move p m s (moves d (opening_with t k))) a.1 in
      add_key_act laws c p s g at holds sound t k a.0 b.0 b.1
  each_plainly (FillRecord x y) can = fill_act laws c p s g at holds sound x y (and_parts (is_owned (slot_of d x.slot).state) (has_slot g.made x.slot) can).0
  each_plainly (Turn act) can =
      let a = and_parts (page_allows p d g act) (commit_lets p m s d act && may_move p m s (moves d act)) can in
      let b = and_parts (commit_lets p m s d act) (may_move p m s (moves d act)) a.1 in
      turn_act laws c p s g at holds sound act a.0 b.0 b.1

  pub each_act : (act : JointAct) → is_allowed p m s d g act ≡ true → IsSound (acted c p s g act)
  each_act act can = subst (λ (x : JointState). IsSound x) (sym (acted_plainly c p s g at holds act)) (each_plainly act can)

-- ---- lists of events

module _ (laws : Laws) where
  by_grip : (c : JointState) (e : JointEvent) (s : Seat) (o : Option Grip) → slice_get c.commits.seats e.seat ≡ Some s → slice_get c.pages.grips e.seat ≡ o
      → option_map_or (λ g. is_allowed e.seat c.commits.story s c.pages.table g e.act) o false ≡ true → IsSound c
      → IsSound (option_map_or (λ g. acted c e.seat s g e.act) o c)
  by_grip c e s None at holds may sound = absurd (true≢false (sym may))
  by_grip c e s (Some g) at holds may sound = each_act laws c e.seat s g at holds sound e.act may

  by_seat : (c : JointState) (e : JointEvent) (o : Option Seat) → slice_get c.commits.seats e.seat ≡ o → option_map_or (may_with c e) o false ≡ true → IsSound c
      → IsSound (option_map_or (happened_with c e) o c)
  by_seat c e None at may sound = absurd (true≢false (sym may))
  by_seat c e (Some s) at may sound = by_grip c e s (slice_get c.pages.grips e.seat) at refl may sound

  pub event_sound : (c : JointState) (e : JointEvent) → may_happen c e ≡ true → IsSound c → IsSound (happened c e)
  event_sound c e may sound = by_seat c e (slice_get c.commits.seats e.seat) refl may sound

  next_sound : (c : JointState) (e : JointEvent) → IsSound c → IsSound (next c e)
  next_sound c e sound =
      elim (cases_Bool (may_happen c e)) [
        | inl may ↦ subst (λ (b : Bool). IsSound (cond b (happened c e) c)) (sym may) (event_sound c e may sound)
        | inr not_so ↦ subst (λ (b : Bool). IsSound (cond b (happened c e) c)) (sym not_so) sound
      ]

  pub run_sound : (c : JointState) (events : List JointEvent) → IsSound c → IsSound (run events c)
  run_sound c [] sound = sound
  run_sound c (e ∷ more) sound = run_sound (next c e) more (next_sound c e sound)
