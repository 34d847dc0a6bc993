-- A record that is set for a key, and a header that is opened with it, change no key's content.
use Rattle.std.proofs.Common.{◌≡◌, ℕ, true, false, true≢false, not, ◌&&◌, inl, inr, [], ◌∷◌, length, sym, ap, ◌∙◌, Option, Some, None}
use Rattle.std.proofs.lemmas.Bool.{cases_Bool, and_parts, or_cases, cond-true, cond-false}
use Rattle.std.specs.List.{slice_get}
use Rattle.std.specs.Prelude.{is_none}
use Rattle.std.specs.Option.{option_map_or}
use Rattle.serial_model.specs.declared.key.Key.{Key}
use Rattle.homes.specs.declared.places.Content.{Content}
use Rattle.homes.specs.declared.places.Spot.{Spot}
use Rattle.homes.specs.declared.places.Home.{Home}
use Rattle.homes.specs.declared.places.Home.TheVariants.{InSlot}
use Rattle.homes.specs.declared.places.Move.{Move}
use Rattle.homes.specs.Homes.{same_key, same_content, moved}
use Rattle.homes.specs.Laws.{same_key-true, same_content-true}
use Rattle.commit_core.specs.declared.place.Place.{Place}
use Rattle.commit_core.specs.declared.seat.Seat.{Seat}
use Rattle.commit_core.specs.declared.story.Story.{Story}
use Rattle.commit_core.specs.Keys.{nothing}
use Rattle.commit_core.specs.CoreState.{is_trying}
use Rattle.commit_core.specs.Places.{place_of, home_of, stands_at, stands}
use Rattle.commit_core.specs.Event.{Moved}
use Rattle.commit_core.specs.Moves.{is_below_all, may_go_for, rehomed}
use Rattle.drop_core.specs.declared.table.Table.{Table}
use Rattle.drop_core.specs.declared.grip.Grip.{Grip}
use Rattle.drop_core.specs.Table.{page_of}
use Rattle.drop_core.specs.Event.{leaf_keys, is_allowed as page_allows, effect as page_effect, moves}
use Rattle.engine_rule.specs.declared.event.JointAct.{JointAct}
use Rattle.engine_rule.specs.declared.event.JointAct.TheVariants.{AddRecord, AddKey}
use Rattle.engine_rule.specs.JointState.{JointState}
use Rattle.engine_rule.specs.Event.{may_move, after_moves, next_spot, opening_with, is_allowed, acted, may_with, may_happen, happened_with, happened}
use Rattle.engine_rule.specs.Law.{content_now, joint_of, AddsChangeNothing}
use Rattle.engine_rule.specs.Sound.{IsSound}
use Rattle.engine_rule.proofs.HomesMoved.{homes_moved}
use Rattle.engine_rule.proofs.HeaderLaws.{home_beside}
use Rattle.engine_rule.proofs.Adding.{takes, stands_still}
use Rattle.engine_rule.proofs.Renewals.{renewed_story, goes_for}
use Rattle.engine_rule.proofs.Contents.{home_content}

-- what goes for nothing is nothing
for_nothing : (m : Story) (new old : Content) → old ≡ nothing → may_go_for m new old ≡ true → new ≡ old
for_nothing m new old none may =
    elim (or_cases (same_content new old) (same_content new nothing && (is_none old.value && is_below_all m.history m.decided m.given_up old.number)) may) [
      | inl same ↦ same_content-true new old same
      | inr lost ↦
          let a = and_parts (same_content new nothing) (is_none old.value && is_below_all m.history m.decided m.given_up old.number) lost in
          same_content-true new nothing a.0 ∙ sym none
    ]

module _ (c : JointState) (p t : ℕ) (k : Key) (s : Seat) (g : Grip) (sound : IsSound c) where
  abbrev m : Story
  m = c.commits.story

  abbrev d : Table
  d = c.pages.table

  set_content : is_allowed p m s d g (AddRecord t k) ≡ true → (q : Key) → content_now (acted c p s g (AddRecord t k)) q ≡ content_now c q
  set_content can q = ap (λ (f : Key → Place). (f q).content) (stands_still m d c.pages.grips sound.pages.table t k (takes p d t k can) nothing)

  module _ (can : is_allowed p m s d g (AddKey t k) ≡ true) where
    abbrev x : Spot
    x = next_spot d t

    abbrev v : Move
    v = record { key = k; home = InSlot x }

    abbrev n : Moved
    n = after_moves p m s (moves d (opening_with t k))

    opens : (page_allows p d g (opening_with t k) ≡ true) × ((not (is_trying s.stage) && may_move p m s (moves d (opening_with t k))) ≡ true)
    opens = and_parts (page_allows p d g (opening_with t k)) (not (is_trying s.stage) && may_move p m s (moves d (opening_with t k))) can

    may : may_move p m s (moves d (opening_with t k)) ≡ true
    may = (and_parts (not (is_trying s.stage)) (may_move p m s (moves d (opening_with t k))) opens.1).1

    was_nothing : (stands m.places m.homes k).content ≡ nothing
    was_nothing =
        let it = takes p d t k opens.0 in
        ap (λ (h : Home). (stands_at m.places h).content) (home_beside m d c.pages.grips sound.pages.table t it.x it.keys it.led it.page k it.inside it.fresh)

    -- at the key's new home stands what stood at the old one
    new_content : (place_of m.places x).content ≡ (stands m.places m.homes k).content
    new_content = for_nothing m (place_of m.places x).content (stands m.places m.homes k).content was_nothing (goes_for p m s d t k may)

    moved_content : (q : Key) → (stands_at m.places (moved (v ∷ []) (home_of m.homes) q)).content ≡ (stands m.places m.homes q).content
    moved_content q =
        elim (cases_Bool (same_key k q)) [
          | inl hit ↦ ap (λ (h : Home). (stands_at m.places h).content) (cond-true (same_key k q) (InSlot x) (home_of m.homes q) hit)
              ∙ new_content ∙ ap (λ (y : Key). (stands m.places m.homes y).content) (same_key-true k q hit)
          | inr miss ↦ ap (λ (h : Home). (stands_at m.places h).content) (cond-false (same_key k q) (InSlot x) (home_of m.homes q) miss)
        ]

    after : (q : Key) → (stands n.story.places n.story.homes q).content ≡ (stands m.places m.homes q).content
    after q =
        home_content (v ∷ []) m.homes m.places (home_of (rehomed (v ∷ []) m.homes) q)
        ∙ ap (λ (f : Key → Home). (stands_at m.places (f q)).content) (homes_moved (v ∷ []) m.homes) ∙ moved_content q

    key_content : (q : Key) → content_now (acted c p s g (AddKey t k)) q ≡ content_now c q
    key_content q =
        ap (λ (y : Story). (stands y.places y.homes q).content)
        (renewed_story p (page_effect p d g (opening_with t k)).table t (length (leaf_keys (page_of d t))) k n) ∙ after q

-- ---- events

abbrev Stays : JointAct → Type 0
Stays act = (c : JointState) (p : ℕ) (s : Seat) (g : Grip) → IsSound c → is_allowed p c.commits.story s c.pages.table g act ≡ true
    → (q : Key) → content_now (acted c p s g act) q ≡ content_now c q

by_grip : (act : JointAct) → Stays act → (c : JointState) (p : ℕ) (s : Seat) (o : Option Grip) → IsSound c
    → option_map_or (λ g. is_allowed p c.commits.story s c.pages.table g act) o false ≡ true
    → (q : Key) → content_now (option_map_or (λ g. acted c p s g act) o c) q ≡ content_now c q
by_grip act stays c p s None sound may q = absurd (true≢false (sym may))
by_grip act stays c p s (Some g) sound may q = stays c p s g sound may q

by_seat : (act : JointAct) → Stays act → (c : JointState) (p : ℕ) (o : Option Seat) → IsSound c → option_map_or (may_with c (joint_of p act)) o false ≡ true
    → (q : Key) → content_now (option_map_or (happened_with c (joint_of p act)) o c) q ≡ content_now c q
by_seat act stays c p None sound may q = absurd (true≢false (sym may))
by_seat act stays c p (Some s) sound may q = by_grip act stays c p s (slice_get c.pages.grips p) sound may q

event_stays : (act : JointAct) → Stays act → (c : JointState) (p : ℕ) → IsSound c → may_happen c (joint_of p act) ≡ true
    → (q : Key) → content_now (happened c (joint_of p act)) q ≡ content_now c q
event_stays act stays c p sound may q = by_seat act stays c p (slice_get c.commits.seats p) sound may q

pub adds_change_nothing : AddsChangeNothing
adds_change_nothing = record {
  record_set = λ c p t k sound may q. event_stays (AddRecord t k) (λ c p s g sound can q. set_content c p t k s g sound can q) c p sound may q;
  key_added = λ c p t k sound may q. event_stays (AddKey t k) (λ c p s g sound can q. key_content c p t k s g sound can q) c p sound may q;
}
