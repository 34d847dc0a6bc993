-- Acts on pages: what a seat holds of what it keeps, and the places of pages that are gone.
use Rattle.std.proofs.Common.{◌≡◌, ℕ, Bool, true, false, not, true≢false, eqb, eqb-true, eq-eqb, inl, inr, List, [], ◌∷◌, refl, sym, ap, ◌∙◌, subst, Option, Some, None}
use Rattle.std.proofs.lemmas.Bool.{or_right, false_from_ne_true}
use Rattle.std.specs.List.{Contains}
use Rattle.serial_model.specs.declared.key.Key.{Key}
use Rattle.homes.specs.declared.places.Holder.TheVariants.{Dead}
use Rattle.homes.specs.declared.places.Spot.{Spot}
use Rattle.homes.specs.declared.places.At.{At}
use Rattle.homes.specs.declared.places.Home.TheVariants.{InSlot}
use Rattle.homes.specs.declared.places.Move.{Move}
use Rattle.homes.specs.Homes.{has_key}
use Rattle.lists.specs.Elements.{any_is, any_in, in_filtered}
use Rattle.commit_core.specs.declared.place.Place.{Place}
use Rattle.commit_core.specs.declared.part.Part.{Part}
use Rattle.commit_core.specs.declared.event.Act.TheVariants.{Rehome}
use Rattle.commit_core.specs.declared.seat.Seat.{Seat}
use Rattle.commit_core.specs.declared.story.Story.{Story}
use Rattle.commit_core.specs.Places.{place_of, home_of}
use Rattle.commit_core.specs.Moves.{is_left}
use Rattle.commit_core.specs.Law.{EachActLeaves}
use Rattle.commit_core.specs.Sound.{IsSoundStory, IsSoundSeat}
use Rattle.homes.specs.declared.places.Content.{Content}
use Rattle.drop_core.specs.declared.table.Page.TheVariants.{Leaf}
use Rattle.drop_core.specs.declared.table.Table.{Table}
use Rattle.drop_core.specs.declared.grip.Grip.{Grip}
use Rattle.drop_core.specs.declared.event.Chain.{Chain}
use Rattle.drop_core.specs.declared.event.Act.{Act}
use Rattle.drop_core.specs.declared.event.Act.TheVariants.{Enter, Leave, Give, Publish, Retire, FillPage, FillPointer, FillSnapshot, Extend, Install, Swing, Renew, Shut, Reopen, FillHeader, LockHeader, OpenHeader, Twin, SwingChain}
use Rattle.drop_core.specs.Table.{page_of, pointer_of, snap_home, leaf_home, has_slot}
use Rattle.drop_core.specs.Event.{slot_span, twin_home, is_allowed, without, swung, effect, leaf_keys, keys_in, moves}
use Rattle.drop_core.specs.Sound.{IsSoundTable}
use Rattle.drop_core.specs.Law.{SwingsMoveDown, ChainsMoveDown, SwingsTakeAway, SplitsComeOfTwins}
use Rattle.drop_core.specs.HomeLaws.{leaf-in}
use Rattle.engine_rule.specs.JointState.{slot_of_word, is_slot, keeps_word}
use Rattle.engine_rule.specs.Event.{commit_lets, may_move, after_moves}
use Rattle.engine_rule.specs.Sound.{LeavesStayDead, SplitsStayDead}
use Rattle.engine_rule.proofs.HomesMoved.{buried_dead, left_of}

-- ---- a seat leaves no slot of which it keeps a word

without_other : (xs : List ℕ) (t s : ℕ) → (s ≡ t → ⊥) → has_slot xs s ≡ true → has_slot (without xs t) s ≡ true
without_other xs t s other h =
    let r = any_is (λ x. eqb x s) xs h in
    any_in (λ x. eqb x s) (without xs t) r.0
    (in_filtered (λ x. not (eqb x t)) r.0 xs r.1 (ap not (false_from_ne_true (eqb r.0 t) (λ e. other (sym (eqb-true r.0 s r.2) ∙ eqb-true r.0 t e))))) r.2

swung_holds : (d : Table) (g : Grip) (x : At) (n : ℕ) (o : Option ℕ) (s : ℕ) → has_slot g.holds s ≡ true → has_slot (swung d g x n o).grip.holds s ≡ true
swung_holds d g x n None s h = h
swung_holds d g x n (Some t) s h = h

pub holds_stay : (p : ℕ) (m : Story) (seat : Seat) (d : Table) (g : Grip) (act : Act) → commit_lets p m seat d act ≡ true
    → (s : ℕ) (part : Part) → Contains seat.kept part → slot_of_word part.word ≡ Some s → has_slot g.holds s ≡ true → has_slot (effect p d g act).grip.holds s ≡ true
holds_stay p m seat d g (Enter t) lets s part c e h = or_right (eqb t s) (has_slot g.holds s) h
holds_stay p m seat d g (Leave t) lets s part c e h =
    without_other g.holds t s (λ is. true≢false (sym (any_in (λ q. is_slot t (slot_of_word q.word)) seat.kept part c (ap (is_slot t) e ∙ eq-eqb s t is)) ∙ kept_not (keeps_word seat.kept t) lets)) h
  where
    kept_not : (b : Bool) → not b ≡ true → b ≡ false
    kept_not true e = absurd (true≢false (sym e))
    kept_not false e = refl
holds_stay p m seat d g (Give t) lets s part c e h = h
holds_stay p m seat d g (Publish t) lets s part c e h = h
holds_stay p m seat d g (Retire t) lets s part c e h = h
holds_stay p m seat d g (FillPage t page) lets s part c e h = h
holds_stay p m seat d g (FillPointer x q) lets s part c e h = h
holds_stay p m seat d g (FillSnapshot n page) lets s part c e h = h
holds_stay p m seat d g (Extend n) lets s part c e h = h
holds_stay p m seat d g (Install x t) lets s part c e h = h
holds_stay p m seat d g (Swing x n) lets s part c e h = swung_holds d g x n (pointer_of d x).slot s h
holds_stay p m seat d g (Renew x n) lets s part c e h = h
holds_stay p m seat d g (Shut x) lets s part c e h = h
holds_stay p m seat d g (Reopen x) lets s part c e h = h
holds_stay p m seat d g (FillHeader t) lets s part c e h = h
holds_stay p m seat d g (LockHeader t) lets s part c e h = h
holds_stay p m seat d g (OpenHeader t added) lets s part c e h = h
holds_stay p m seat d g (Twin w) lets s part c e h = h
holds_stay p m seat d g (SwingChain x n chain) lets s part c e h = h

-- ---- places of leaves that are gone

module _ (commit_leaves : EachActLeaves) (down : SwingsMoveDown) (chains : ChainsMoveDown) (away : SwingsTakeAway) (opening : List (Key × Content)) (p : ℕ) (m : Story) (s : Seat)
    (story : IsSoundStory opening m) (seat : IsSoundSeat opening m p s) (d : Table) (grips : List Grip) (sound : IsSoundTable (home_of m.homes) d grips) (g : Grip) where
  -- a dead place stays dead
  dead_stays : (list : List Move) → may_move p m s list ≡ true → (x : Spot) → (place_of m.places x).holder ≡ Dead → (place_of (after_moves p m s list).story.places x).holder ≡ Dead
  dead_stays [] may x dead = dead
  dead_stays (v ∷ more) may x dead =
      ap (λ (q : Place). q.holder) ((commit_leaves opening p m s (Rehome (v ∷ more)) may story seat).only.dead x dead) ∙ dead

  -- a place that a key leaves is dead
  left_dead : (list : List Move) (x : Spot) → is_left list m.homes x ≡ true → (place_of (after_moves p m s list).story.places x).holder ≡ Dead
  left_dead [] x left = absurd (true≢false (sym left))
  left_dead (v ∷ more) x left = buried_dead (v ∷ more) m.homes m.places x left

  swing_dead : (x : At) (n t : ℕ) (keys : List Key) → is_allowed p d g (Swing x n) ≡ true → (pointer_of d x).slot ≡ Some t → page_of d t ≡ Leaf keys
      → (k : Key) (y : Spot) → leaf_home t 0 keys k ≡ InSlot y → (place_of (after_moves p m s (moves d (Swing x n))).story.places y).holder ≡ Dead
  swing_dead x n t keys can leads page k y home =
      let these : keys_in d (Some t) ≡ keys = ap leaf_keys page in
      let all : keys_in d (pointer_of d x).slot ≡ keys = ap (keys_in d) leads ∙ these in
      let hit : has_key keys k ≡ true = (leaf-in t 0 keys k y home).there in
      let was = down (home_of m.homes) d grips p n t g x can leads sound k (ap (λ (l : List Key). has_key l k) these ∙ hit) in
      let at : home_of m.homes k ≡ InSlot y = was ∙ ap (λ (l : List Key). leaf_home t 0 l k) these ∙ home in
      left_dead (moves d (Swing x n)) y
      (left_of (snap_home d n) (keys_in d (pointer_of d x).slot) m.homes k y (ap (λ (l : List Key). has_key l k) all ∙ hit) at)

  chain_dead : (x : At) (n t : ℕ) (chain : Chain) (keys : List Key) → is_allowed p d g (SwingChain x n chain) ≡ true → has_slot chain.slots t ≡ true → page_of d t ≡ Leaf keys
      → (k : Key) (y : Spot) → leaf_home t 0 keys k ≡ InSlot y → (place_of (after_moves p m s (moves d (SwingChain x n chain))).story.places y).holder ≡ Dead
  chain_dead x n t chain keys can one page k y home =
      let these : leaf_keys (page_of d t) ≡ keys = ap leaf_keys page in
      let hit : has_key keys k ≡ true = (leaf-in t 0 keys k y home).there in
      let was = chains (home_of m.homes) d grips p n t g x chain can sound one k (ap (λ (l : List Key). has_key l k) these ∙ hit) in
      let at : home_of m.homes k ≡ InSlot y = was.1 ∙ ap (λ (l : List Key). leaf_home t 0 l k) these ∙ home in
      left_dead (moves d (SwingChain x n chain)) y (left_of (snap_home d n) chain.keys m.homes k y was.0 at)

  pub leaves_turn : (act : Act) → is_allowed p d g act ≡ true → may_move p m s (moves d act) ≡ true → LeavesStayDead (place_of m.places) d
      → LeavesStayDead (place_of (after_moves p m s (moves d act)).story.places) (effect p d g act).table
  leaves_turn act can may leaves t keys gone page k y home =
      let took = away (home_of m.homes) d grips p g act t can sound gone in
      let old : page_of d t ≡ Leaf keys = sym took.0 ∙ page in
      elim took.1 [
        | inl was ↦ dead_stays (moves d act) may y (leaves t keys was old k y home)
        | inr swings ↦ elim swings [
          | inl r ↦ subst (λ (a : Act). (place_of (after_moves p m s (moves d a)).story.places y).holder ≡ Dead) (sym r.2)
              (swing_dead r.0 r.1 t keys (subst (λ (a : Act). is_allowed p d g a ≡ true) r.2 can) r.3 old k y home)
          | inr r ↦ subst (λ (a : Act). (place_of (after_moves p m s (moves d a)).story.places y).holder ≡ Dead) (sym r.3)
              (chain_dead r.0 r.1 t r.2 keys (subst (λ (a : Act). is_allowed p d g a ≡ true) r.3 can) r.4 old k y home)
        ]
      ]

  -- so it is with the places of a leaf that is split
  module _ (twins : SplitsComeOfTwins) where
    pub splits_turn : (act : Act) → is_allowed p d g act ≡ true → may_move p m s (moves d act) ≡ true → SplitsStayDead (place_of m.places) d
        → SplitsStayDead (place_of (after_moves p m s (moves d act)).story.places) (effect p d g act).table
    splits_turn act can may splits t i now less =
        elim (twins.comes (home_of m.homes) d grips p g act t can sound now) [
          | inl was ↦ dead_stays (moves d act) may (record { slot = t; index = i }) (splits t i was less)
          | inr r ↦
              let w = r.0 in
              let moved = twins.moves (home_of m.homes) d grips p g w i (subst (λ (a : Act). is_allowed p d g a ≡ true) r.1 can) sound less in
              subst (λ (a : Act). (place_of (after_moves p m s (moves d a)).story.places (record { slot = t; index = i })).holder ≡ Dead) (sym r.1)
              (subst (λ (u : ℕ). (place_of (after_moves p m s (moves d (Twin w))).story.places (record { slot = u; index = i })).holder ≡ Dead) r.2
              (left_dead (moves d (Twin w)) (record { slot = w.slot; index = i })
              (left_of (twin_home d (slot_span d w.slot) w) w.keys m.homes moved.0 (record { slot = w.slot; index = i }) moved.1 moved.2)))
        ]
