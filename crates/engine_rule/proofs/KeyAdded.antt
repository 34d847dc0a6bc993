-- A header that is opened with a key: the key moves to the record that was set for it, and what the seat keeps of the
-- header goes on, with the new record beside it.
use Rattle.std.proofs.Common.{◌≡◌, ℕ, Bool, true, false, not, true≢false, ◌&&◌, inl, inr, List, length, refl, sym, ap, ◌∙◌, subst, set, cond, Option, Some}
use Rattle.std.proofs.lemmas.Bool.{and_parts, and_from, cases_Bool}
use Rattle.std.specs.List.{slice_get}
use Rattle.serial_model.specs.declared.key.Key.{Key}
use Rattle.homes.specs.declared.places.Spot.{Spot}
use Rattle.homes.specs.Homes.{is_free}
use Rattle.lists.specs.Elements.{at_set_same, any_is}
use Rattle.commit_core.specs.declared.part.Word.{Word}
use Rattle.commit_core.specs.declared.part.Word.TheVariants.{Header}
use Rattle.commit_core.specs.declared.part.Part.{Part}
use Rattle.commit_core.specs.declared.event.Act.TheVariants.{See, Keep}
use Rattle.commit_core.specs.declared.seat.Seat.{Seat}
use Rattle.commit_core.specs.declared.story.Story.{Story}
use Rattle.commit_core.specs.CoreState.{is_trying}
use Rattle.commit_core.specs.Places.{spot_at, is_free_at}
use Rattle.commit_core.specs.Parts.{same_word}
use Rattle.commit_core.specs.Event.{Moved, effect as commit_effect, with_moved}
use Rattle.commit_core.specs.Lemmas.Keys.{same_word-true}
use Rattle.drop_core.specs.declared.table.Table.{Table}
use Rattle.drop_core.specs.declared.grip.Grip.{Grip}
use Rattle.drop_core.specs.Table.{slot_of, page_of, header_of, has_slot, is_led}
use Rattle.drop_core.specs.Event.{grown, leaf_keys, is_allowed as page_allows, effect as page_effect, moves, with_turned}
use Rattle.engine_rule.specs.declared.event.JointAct.TheVariants.{Commit, AddKey, Turn}
use Rattle.engine_rule.specs.JointState.{JointState, holds_slot, is_leaf, can_see_header, header_part, is_counted, keeps_header_at}
use Rattle.engine_rule.specs.Event.{slot_of_spot, may_move, after_moves, opening_with, and_seen}
use Rattle.engine_rule.specs.Sound.{IsHeld, FitsWord, IsSound}
use Rattle.engine_rule.proofs.Laws.{Laws}
use Rattle.engine_rule.proofs.Plainly.{with_commits, plainly}
use Rattle.engine_rule.proofs.HeaderLaws.{header_free, header_held, header_fits}
use Rattle.engine_rule.proofs.Adding.{takes}
use Rattle.engine_rule.proofs.Renewals.{set_twice, grown_page, grown_header, new_home, new_free, new_rests}
use Rattle.engine_rule.proofs.SoundActs.{by_commits, commit_act, moved_kept, turned_sound}

module _ (laws : Laws) (c : JointState) (p : ℕ) (s : Seat) (g : Grip) (at : slice_get c.commits.seats p ≡ Some s) (holds : slice_get c.pages.grips p ≡ Some g) (sound : IsSound c)
    (t : ℕ) (k : Key) (can : page_allows p c.pages.table g (opening_with t k) ≡ true) (rests : not (is_trying s.stage) ≡ true)
    (may : may_move p c.commits.story s (moves c.pages.table (opening_with t k)) ≡ true) where
  abbrev m : Story
  m = c.commits.story

  abbrev d : Table
  d = c.pages.table

  -- after the move
  abbrev n : Moved
  n = after_moves p m s (moves d (opening_with t k))

  abbrev e : Table
  e = grown d t k

  abbrev c1 : JointState
  c1 = plainly c p s g (Turn (opening_with t k))

  sound1 : IsSound c1
  sound1 = turned_sound laws c p s g at holds sound (opening_with t k) can (λ u part there is h. h) may

  at1 : slice_get c1.commits.seats p ≡ Some n.seat
  at1 = at_set_same c.commits.seats p s n.seat at

  holds1 : slice_get c1.pages.grips p ≡ Some g
  holds1 = at_set_same c.pages.grips p g g holds

  no_try : is_trying n.seat.stage ≡ false
  no_try = new_rests p m s d t k may (not_so (is_trying s.stage) rests)
    where
      not_so : (b : Bool) → not b ≡ true → b ≡ false
      not_so true x = absurd (true≢false (sym x))
      not_so false x = refl

  -- the state with what is left then
  abbrev finally : Moved → JointState
  finally x = record { commits = with_moved c.commits p x; pages = with_turned c.pages p (page_effect p d g (opening_with t k)) }

  module _ (keeps : keeps_header_at n.seat.kept t (length (leaf_keys (page_of d t))) ≡ true) where
    -- the seat holds the slot of a header that it keeps
    held_slot : has_slot g.holds t ≡ true
    held_slot =
        let hit = any_is (λ (q : Part). same_word q.word (Header t) && is_counted (length (leaf_keys (page_of d t))) q.version) n.seat.kept keeps in
        let same = and_parts (same_word hit.0.word (Header t)) (is_counted (length (leaf_keys (page_of d t))) hit.0.version) hit.2 in
        let held = (sound.kept p s g at holds).kept_is_held hit.0 (moved_kept laws c p s g at holds sound (moves d (opening_with t k)) hit.0 hit.1) in
        (subst (λ (w : Word). IsHeld d g.holds w) (same_word-true hit.0.word (Header t) same.0) held).0

    sees : can_see_header e g t ≡ true
    sees =
        let it = takes p d t k can in
        and_from (is_led (slot_of d t).led) (is_leaf (page_of e t) && (is_free (header_of e t) && has_slot g.holds t)) (ap is_led it.led)
        (and_from (is_leaf (page_of e t)) (is_free (header_of e t) && has_slot g.holds t) (ap is_leaf (grown_page d t k it.keys it.page))
        (and_from (is_free (header_of e t)) (has_slot g.holds t) (ap is_free (grown_header d t k)) held_slot))

    abbrev n2 : Moved
    n2 = commit_effect p n.story n.seat (Keep (header_part e t))

    sound2 : IsSound (with_commits c1 p n2)
    sound2 =
        by_commits laws c1 p n.seat g at1 holds1 sound1 (Keep (header_part e t)) refl
        (and_from (not (is_trying n.seat.stage)) true (ap not no_try) refl)
        (header_free n.story e c1.pages.grips sound1.pages.table g t sees)
        (λ part is. subst (λ (q : Part). IsHeld e g.holds q.word × FitsWord e q q.word) is
        (header_held n.story e c1.pages.grips sound1.pages.table g t sees, header_fits n.story e c1.pages.grips sound1.pages.table g t sees))

    abbrev n3 : Moved
    n3 = and_seen p k n2

    sound3 : IsSound (plainly (with_commits c1 p n2) p n2.seat g (Commit (See k)))
    sound3 =
        commit_act laws (with_commits c1 p n2) p n2.seat g (at_set_same c1.commits.seats p n.seat n2.seat at1) holds1 sound2 (See k)
        (ap (λ (o : Option Spot). holds_slot g (slot_of_spot o)) (new_home p m s d t k may) ∙ held_slot)
        (and_from (not (is_trying n.seat.stage)) (is_free_at n.story.places (spot_at n.story.homes k)) (ap not no_try)
        (ap (is_free_at n.story.places) (new_home p m s d t k may) ∙ new_free p m s d t k may))

    same_seats : set (set (set c.commits.seats p n.seat) p n2.seat) p n3.seat ≡ set c.commits.seats p n3.seat
    same_seats = set_twice (set c.commits.seats p n.seat) p n2.seat n3.seat ∙ set_twice c.commits.seats p n.seat n3.seat

    renewed_sound : IsSound (finally n3)
    renewed_sound =
        subst (λ (l : List Seat). IsSound (record {
          commits = record { opening = c.commits.opening; story = n3.story; seats = l };
          pages = with_turned c.pages p (page_effect p d g (opening_with t k));
        })) same_seats sound3

  pub add_key_act : IsSound (plainly c p s g (AddKey t k))
  add_key_act =
      let count : ℕ = length (leaf_keys (page_of d t)) in
      elim (cases_Bool (keeps_header_at n.seat.kept t count)) [
        | inl keeps ↦ subst (λ (b : Bool). IsSound (finally (cond b (and_seen p k (commit_effect p n.story n.seat (Keep (header_part e t)))) n))) (sym keeps) (renewed_sound keeps)
        | inr none ↦ subst (λ (b : Bool). IsSound (finally (cond b (and_seen p k (commit_effect p n.story n.seat (Keep (header_part e t)))) n))) (sym none) sound1
      ]
