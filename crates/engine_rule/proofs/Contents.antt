-- A list of moves changes no key's content.
use Rattle.std.proofs.Common.{◌≡◌, ℕ, Bool, true, false, true≢false, ◌&&◌, inl, inr, List, [], ◌∷◌, refl, sym, ap, ◌∙◌, subst, Option, Some, None}
use Rattle.std.proofs.lemmas.Bool.{cases_Bool, and_parts, or_cases, cond-true, cond-false}
use Rattle.std.specs.List.{slice_get, list_all}
use Rattle.std.specs.Prelude.{is_none}
use Rattle.std.specs.Option.{option_map_or}
use Rattle.serial_model.specs.declared.key.Key.{Key}
use Rattle.homes.specs.declared.places.Content.{Content}
use Rattle.homes.specs.declared.places.Holder.TheVariants.{Dead}
use Rattle.homes.specs.declared.places.Spot.{Spot}
use Rattle.homes.specs.declared.places.Home.{Home}
use Rattle.homes.specs.declared.places.Home.TheVariants.{InSlot, InPage, Nowhere}
use Rattle.homes.specs.declared.places.Move.{Move}
use Rattle.homes.specs.Homes.{same_key, same_spot, same_content, is_free, moved}
use Rattle.homes.specs.Laws.{same_key-true, same_content-true}
use Rattle.commit_core.specs.declared.place.Place.{Place}
use Rattle.commit_core.specs.declared.seat.Seat.{Seat}
use Rattle.commit_core.specs.declared.story.Story.{Story}
use Rattle.commit_core.specs.Keys.{nothing}
use Rattle.commit_core.specs.CoreState.{can_begin}
use Rattle.commit_core.specs.Places.{place, place_of, home_of, stands_at, stands, spot_of}
use Rattle.commit_core.specs.Parts.{IsSameOrAbsent}
use Rattle.commit_core.specs.Moves.{are_apart, is_nobodys, is_movable, is_below_all, may_go_for, can_move, is_left, buried, rehomed}
use Rattle.drop_core.specs.declared.grip.Grip.{Grip}
use Rattle.drop_core.specs.declared.event.Act.{Act as PageAct}
use Rattle.drop_core.specs.Event.{is_allowed as page_allows, moves}
use Rattle.engine_rule.specs.declared.event.JointAct.TheVariants.{Turn}
use Rattle.engine_rule.specs.JointState.{JointState}
use Rattle.engine_rule.specs.Event.{commit_lets, may_move, after_moves, may_with, may_happen, happened_with, happened, is_allowed, acted}
use Rattle.engine_rule.proofs.HomesMoved.{homes_moved}

-- an entry with the same content in front
by_spot : (x y : Spot) (q r : Place) (new old : List (Spot × Place)) → q.content ≡ r.content → (place_of new x).content ≡ (place_of old x).content
    → (place_of ((y, q) ∷ new) x).content ≡ (place_of ((y, r) ∷ old) x).content
by_spot x y q r new old is rest =
    elim (cases_Bool (same_spot y x)) [
      | inl same ↦ ap (λ (z : Place). z.content) (cond-true (same_spot y x) q (place_of new x) same) ∙ is
          ∙ sym (ap (λ (z : Place). z.content) (cond-true (same_spot y x) r (place_of old x) same))
      | inr other ↦ ap (λ (z : Place). z.content) (cond-false (same_spot y x) q (place_of new x) other) ∙ rest
          ∙ sym (ap (λ (z : Place). z.content) (cond-false (same_spot y x) r (place_of old x) other))
    ]

-- a place that is dead now has what it had
pub buried_content : (list : List Move) (homes : List (Key × Home)) (places : List (Spot × Place)) (x : Spot)
    → (place_of (buried list homes places) x).content ≡ (place_of places x).content
buried_content list homes [] x = refl
buried_content list homes (e ∷ more) x =
    let dead : Spot × Place = (e.0, place (e.1).content Dead) in
    let rest = buried_content list homes more x in
    elim (cases_Bool (is_left list homes e.0)) [
      | inl hit ↦ subst (λ (y : Spot × Place). (place_of (y ∷ buried list homes more) x).content ≡ (place_of (e ∷ more) x).content)
          (sym (cond-true (is_left list homes e.0) dead e hit)) (by_spot x e.0 dead.1 e.1 (buried list homes more) more refl rest)
      | inr miss ↦ subst (λ (y : Spot × Place). (place_of (y ∷ buried list homes more) x).content ≡ (place_of (e ∷ more) x).content)
          (sym (cond-false (is_left list homes e.0) dead e miss)) (by_spot x e.0 e.1 e.1 (buried list homes more) more refl rest)
    ]

pub home_content : (list : List Move) (homes : List (Key × Home)) (places : List (Spot × Place)) (h : Home)
    → (stands_at (buried list homes places) h).content ≡ (stands_at places h).content
home_content list homes places (InSlot x) = buried_content list homes places x
home_content list homes places (InPage n c) = refl
home_content list homes places Nowhere = refl

none_value : (v : Option ℕ) → is_none v ≡ true → v ≡ None
none_value None e = refl
none_value (Some x) e = absurd (true≢false (sym e))

goes_for : (m : Story) (new old : Content) → may_go_for m new old ≡ true → IsSameOrAbsent old new
goes_for m new old may =
    elim (or_cases (same_content new old) (same_content new nothing && (is_none old.value && is_below_all m.history m.decided m.given_up old.number)) may) [
      | inl same ↦ inl (sym (same_content-true new old same))
      | inr lost ↦
          let a = and_parts (same_content new nothing) (is_none old.value && is_below_all m.history m.decided m.given_up old.number) lost in
          let b = and_parts (is_none old.value) (is_below_all m.history m.decided m.given_up old.number) a.1 in
          inr (none_value old.value b.0, ap (λ (c : Content). c.value) (same_content-true new nothing a.0))
    ]

each_goes : (p : ℕ) (begins : Bool) (m : Story) (list : List Move) → list_all (can_move p begins m) list ≡ true → (k : Key)
    → IsSameOrAbsent (stands m.places m.homes k).content (stands_at m.places (moved list (home_of m.homes) k)).content
each_goes p begins m [] all k = inl refl
each_goes p begins m (v ∷ more) all k =
    let parts = and_parts (can_move p begins m v) (list_all (can_move p begins m) more) all in
    let old : Content = (stands m.places m.homes v.key).content in
    let new : Content = (stands_at m.places v.home).content in
    let a = and_parts (is_movable p begins (stands m.places m.homes v.key).holder) (is_free (stands_at m.places v.home).holder && (is_nobodys m.homes (spot_of v.home) && may_go_for m new old)) parts.0 in
    let b = and_parts (is_free (stands_at m.places v.home).holder) (is_nobodys m.homes (spot_of v.home) && may_go_for m new old) a.1 in
    let c = and_parts (is_nobodys m.homes (spot_of v.home)) (may_go_for m new old) b.1 in
    elim (cases_Bool (same_key v.key k)) [
      | inl hit ↦ subst (λ (h : Home). IsSameOrAbsent (stands m.places m.homes k).content (stands_at m.places h).content)
          (sym (cond-true (same_key v.key k) v.home (moved more (home_of m.homes) k) hit))
          (subst (λ (q : Key). IsSameOrAbsent (stands m.places m.homes q).content new) (same_key-true v.key k hit) (goes_for m new old c.1))
      | inr miss ↦ subst (λ (h : Home). IsSameOrAbsent (stands m.places m.homes k).content (stands_at m.places h).content)
          (sym (cond-false (same_key v.key k) v.home (moved more (home_of m.homes) k) miss)) (each_goes p begins m more parts.1 k)
    ]

after_content : (p : ℕ) (m : Story) (s : Seat) (list : List Move) → may_move p m s list ≡ true → (k : Key)
    → IsSameOrAbsent (stands m.places m.homes k).content (stands (after_moves p m s list).story.places (after_moves p m s list).story.homes k).content
after_content p m s [] may k = inl refl
after_content p m s (v ∷ more) may k =
    let list : List Move = v ∷ more in
    let all = and_parts (are_apart list) (list_all (can_move p (can_begin s.stage) m) list) may in
    subst (λ (c : Content). IsSameOrAbsent (stands m.places m.homes k).content c)
    (sym (home_content list m.homes m.places (home_of (rehomed list m.homes) k) ∙ ap (λ (f : Key → Home). (stands_at m.places (f k)).content) (homes_moved list m.homes)))
    (each_goes p (can_begin s.stage) m list all.1 k)

abbrev Same : JointState → Key → JointState → Type 0
Same c k n = IsSameOrAbsent (stands c.commits.story.places c.commits.story.homes k).content (stands n.commits.story.places n.commits.story.homes k).content

by_grip : (c : JointState) (p : ℕ) (act : PageAct) (k : Key) (s : Seat) (o : Option Grip)
    → option_map_or (λ g. is_allowed p c.commits.story s c.pages.table g (Turn act)) o false ≡ true → Same c k (option_map_or (λ g. acted c p s g (Turn act)) o c)
by_grip c p act k s None may = absurd (true≢false (sym may))
by_grip c p act k s (Some g) may =
    let m : Story = c.commits.story in
    let list : List Move = moves c.pages.table act in
    let a = and_parts (page_allows p c.pages.table g act) (commit_lets p m s c.pages.table act && may_move p m s list) may in
    let b = and_parts (commit_lets p m s c.pages.table act) (may_move p m s list) a.1 in
    after_content p m s list b.1 k

by_seat : (c : JointState) (p : ℕ) (act : PageAct) (k : Key) (o : Option Seat) → option_map_or (may_with c (record { seat = p; act = Turn act })) o false ≡ true
    → Same c k (option_map_or (happened_with c (record { seat = p; act = Turn act })) o c)
by_seat c p act k None may = absurd (true≢false (sym may))
by_seat c p act k (Some s) may = by_grip c p act k s (slice_get c.pages.grips p) may

pub turns_change_nothing : (c : JointState) (p : ℕ) (act : PageAct) → may_happen c (record { seat = p; act = Turn act }) ≡ true → (k : Key)
    → Same c k (happened c (record { seat = p; act = Turn act }))
turns_change_nothing c p act may k = by_seat c p act k (slice_get c.commits.seats p) may
