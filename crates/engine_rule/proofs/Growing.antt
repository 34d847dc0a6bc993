-- What was drawn, checked, decided and given up stays so.
use Rattle.std.proofs.Common.{◌≡◌, ℕ, Bool, true, false, true≢false, not, cond, ◌&&◌, inl, inr, List, [], ◌∷◌, ◌++◌, length, append_assoc, refl, sym, ap, ◌∙◌, subst, arith, Option, Some, None}
use Rattle.std.proofs.lemmas.Bool.{and_parts, cases_Bool}
use Rattle.std.specs.List.{slice_get}
use Rattle.std.specs.Option.{option_map_or}
use Rattle.homes.specs.declared.places.Content.{Content}
use Rattle.homes.specs.declared.places.Spot.{Spot}
use Rattle.homes.specs.declared.places.Move.{Move}
use Rattle.commit_core.specs.declared.event.Act.TheVariants.{Keep, Confirm, Rehome}
use Rattle.commit_core.specs.declared.part.Word.TheVariants.{Pointer, Header}
use Rattle.commit_core.specs.declared.seat.Seat.{Seat}
use Rattle.commit_core.specs.declared.story.Story.{Story}
use Rattle.commit_core.specs.CoreState.{is_trying}
use Rattle.commit_core.specs.Keys.{nothing}
use Rattle.commit_core.specs.Fill.{filled}
use Rattle.commit_core.specs.Event.{is_allowed as commit_allows}
use Rattle.commit_core.specs.Opening.{IsPrefix, Grows}
use Rattle.drop_core.specs.declared.grip.Grip.{Grip}
use Rattle.drop_core.specs.Table.{page_of}
use Rattle.drop_core.specs.Event.{leaf_keys, is_allowed as page_allows, effect as page_effect, moves}
use Rattle.engine_rule.specs.declared.event.JointAct.{JointAct}
use Rattle.engine_rule.specs.declared.event.JointAct.TheVariants.{Commit, SeePointer, CheckPointer, SeeHeader, CheckHeader, AddRecord, AddKey, FillRecord, Turn}
use Rattle.engine_rule.specs.declared.event.JointEvent.{JointEvent}
use Rattle.engine_rule.specs.Pairs.{pointer_part}
use Rattle.engine_rule.specs.JointState.{JointState, can_see, is_so_now, can_see_header, is_header_so_now, header_part}
use Rattle.engine_rule.specs.Event.{page_lets, commit_lets, may_move, after_moves, next_spot, opening_with, is_allowed, acted, may_with, may_happen, happened_with, happened, next, run}
use Rattle.engine_rule.specs.Sound.{IsSound}
use Rattle.engine_rule.proofs.Laws.{Laws}
use Rattle.engine_rule.proofs.Renewals.{renewed_story}
use Rattle.engine_rule.proofs.Events.{event_sound}

prefix_self : {A : Type 0} (xs : List A) → IsPrefix xs xs
prefix_self {A} xs = ([], none xs)
  where
    none : (ys : List A) → ys ++ [] ≡ ys
    none [] = refl
    none (y ∷ ys) = ap (λ (l : List A). y ∷ l) (none ys)

prefix_then : {A : Type 0} (xs ys zs : List A) → IsPrefix xs ys → IsPrefix ys zs → IsPrefix xs zs
prefix_then {A} xs ys zs a b = (a.0 ++ b.0, sym (append_assoc xs a.0 b.0) ∙ ap (λ (l : List A). l ++ b.0) a.1 ∙ b.1)

pub same_grows : (m : Story) → Grows m m
same_grows m = record {
  history = prefix_self m.history;
  checks = prefix_self m.checks;
  decided = prefix_self m.decided;
  given_up = prefix_self m.given_up;
  first_draw = refl;
  epoch = omega arith;
}

pub filled_grows : (m : Story) (x : Spot) (y : Content) → Grows m (filled x y m)
filled_grows m x y = record {
  history = prefix_self m.history;
  checks = prefix_self m.checks;
  decided = prefix_self m.decided;
  given_up = prefix_self m.given_up;
  first_draw = refl;
  epoch = omega arith;
}

grows_then : (a b c : Story) → Grows a b → Grows b c → Grows a c
grows_then a b c x y = record {
  history = prefix_then a.history b.history c.history x.history y.history;
  checks = prefix_then a.checks b.checks c.checks x.checks y.checks;
  decided = prefix_then a.decided b.decided c.decided x.decided y.decided;
  given_up = prefix_then a.given_up b.given_up c.given_up x.given_up y.given_up;
  first_draw = y.first_draw ∙ x.first_draw;
  epoch = let l = x.epoch in let r = y.epoch in omega (arith, l, r);
}

abbrev Grown : JointState → JointState → Type 0
Grown c n = (n.commits.opening ≡ c.commits.opening) × Grows c.commits.story n.commits.story

module _ (laws : Laws) where
  module _ (c : JointState) (p : ℕ) (s : Seat) (g : Grip) (at : slice_get c.commits.seats p ≡ Some s) (sound : IsSound c) where
    moved_grows : (list : List Move) → may_move p c.commits.story s list ≡ true → Grows c.commits.story (after_moves p c.commits.story s list).story
    moved_grows [] may = same_grows c.commits.story
    moved_grows (v ∷ more) may =
        (laws.commits_leave c.commits.opening p c.commits.story s (Rehome (v ∷ more)) may sound.commits.story (sound.commits.seats p s at)).grows

    act_grows : (act : JointAct) → is_allowed p c.commits.story s c.pages.table g act ≡ true → Grown c (acted c p s g act)
    act_grows (Commit act) can =
        let both = and_parts (page_lets g c.commits.story act) (commit_allows p c.commits.story s act) can in
        (refl, (laws.commits_leave c.commits.opening p c.commits.story s act both.1 sound.commits.story (sound.commits.seats p s at)).grows)
    act_grows (SeePointer x) can =
        let both = and_parts (can_see c.pages.table g x) (commit_allows p c.commits.story s (Keep (pointer_part c.pages.table x))) can in
        (refl, (laws.commits_leave c.commits.opening p c.commits.story s (Keep (pointer_part c.pages.table x)) both.1 sound.commits.story (sound.commits.seats p s at)).grows)
    act_grows (CheckPointer x) can = (
      refl,
      (laws.commits_leave c.commits.opening p c.commits.story s (Confirm (Pointer x) (is_so_now p c.pages.table c.commits.story s x)) can sound.commits.story
          (sound.commits.seats p s at)).grows,
    )
    act_grows (SeeHeader t) can =
        let both = and_parts (can_see_header c.pages.table g t) (commit_allows p c.commits.story s (Keep (header_part c.pages.table t))) can in
        (refl, (laws.commits_leave c.commits.opening p c.commits.story s (Keep (header_part c.pages.table t)) both.1 sound.commits.story (sound.commits.seats p s at)).grows)
    act_grows (CheckHeader t) can = (
      refl,
      (laws.commits_leave c.commits.opening p c.commits.story s (Confirm (Header t) (is_header_so_now c.pages.table c.commits.story s t)) can sound.commits.story
          (sound.commits.seats p s at)).grows,
    )
    act_grows (AddRecord t k) can = (refl, filled_grows c.commits.story (next_spot c.pages.table t) nothing)
    act_grows (AddKey t k) can =
        let list : List Move = moves c.pages.table (opening_with t k) in
        let a = and_parts (page_allows p c.pages.table g (opening_with t k)) (not (is_trying s.stage) && may_move p c.commits.story s list) can in
        let b = and_parts (not (is_trying s.stage)) (may_move p c.commits.story s list) a.1 in (
          refl,
          subst (λ (x : Story). Grows c.commits.story x)
              (sym (renewed_story p (page_effect p c.pages.table g (opening_with t k)).table t (length (leaf_keys (page_of c.pages.table t))) k (after_moves p c.commits.story s list)))
              (moved_grows list b.1),
        )
    act_grows (FillRecord x y) can = (refl, filled_grows c.commits.story x y)
    act_grows (Turn act) can =
        let list : List Move = moves c.pages.table act in
        let a = and_parts (page_allows p c.pages.table g act) (commit_lets p c.commits.story s c.pages.table act && may_move p c.commits.story s list) can in
        let b = and_parts (commit_lets p c.commits.story s c.pages.table act) (may_move p c.commits.story s list) a.1 in
        (refl, moved_grows list b.1)

  by_grip : (c : JointState) (e : JointEvent) (s : Seat) (o : Option Grip) → slice_get c.commits.seats e.seat ≡ Some s
      → option_map_or (λ g. is_allowed e.seat c.commits.story s c.pages.table g e.act) o false ≡ true → IsSound c
      → Grown c (option_map_or (λ g. acted c e.seat s g e.act) o c)
  by_grip c e s None at may sound = absurd (true≢false (sym may))
  by_grip c e s (Some g) at may sound = act_grows c e.seat s g at sound e.act may

  by_seat : (c : JointState) (e : JointEvent) (o : Option Seat) → slice_get c.commits.seats e.seat ≡ o → option_map_or (may_with c e) o false ≡ true → IsSound c
      → Grown c (option_map_or (happened_with c e) o c)
  by_seat c e None at may sound = absurd (true≢false (sym may))
  by_seat c e (Some s) at may sound = by_grip c e s (slice_get c.pages.grips e.seat) at may sound

  next_grows : (c : JointState) (e : JointEvent) → IsSound c → Grown c (next c e) × IsSound (next c e)
  next_grows c e sound =
      elim (cases_Bool (may_happen c e)) [
        | inl may ↦ subst (λ (b : Bool). Grown c (cond b (happened c e) c) × IsSound (cond b (happened c e) c)) (sym may)
            (by_seat c e (slice_get c.commits.seats e.seat) refl may sound, event_sound laws c e may sound)
        | inr not_so ↦ subst (λ (b : Bool). Grown c (cond b (happened c e) c) × IsSound (cond b (happened c e) c)) (sym not_so)
            ((refl, same_grows c.commits.story), sound)
      ]

  pub only_grows : (c : JointState) (events : List JointEvent) → IsSound c → Grown c (run events c)
  only_grows c [] sound = (refl, same_grows c.commits.story)
  only_grows c (e ∷ more) sound =
      let one = next_grows c e sound in
      let rest = only_grows (next c e) more one.1 in
      (rest.0 ∙ one.0.0, grows_then c.commits.story (next c e).commits.story (run more (next c e)).commits.story one.0.1 rest.1)
