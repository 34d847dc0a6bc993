-- Records of an owned slot are filled, one after another, and a page stays laid out as it is where others do not.
use Rattle.std.proofs.Common.{◌≡◌, ◌≢◌, ℕ, zero, suc, ◌<◌, Bool, true, false, true≢false, cond, eqb}
use Rattle.std.proofs.Common.{eqb-true, eq-eqb, ne_eqb, List, ◌∷◌, refl, sym, ap, ◌∙◌, subst, arith}
use Rattle.std.proofs.Common.{Option, Some, None}
use Rattle.std.specs.Prelude.{◌&&◌}
use Rattle.std.proofs.lemmas.Bool.{and_from}
use Rattle.homes.specs.declared.places.Content.{Content}
use Rattle.homes.specs.declared.places.Holder.TheVariants.{Free}
use Rattle.homes.specs.declared.places.Spot.{Spot}
use Rattle.commit_core.specs.declared.place.Place.{Place}
use Rattle.commit_core.specs.declared.seat.Seat.{Seat}
use Rattle.commit_core.specs.declared.story.Story.{Story}
use Rattle.commit_core.specs.Places.{place, place_of}
use Rattle.serial_model.specs.declared.decl.Decl.{Decl}
use Rattle.serial_model.specs.declared.decl.Decl.TheVariants.{Array, Tree}
use Rattle.homes.specs.declared.places.Span.{Span}
use Rattle.drop_core.specs.declared.grip.Grip.{Grip}
use Rattle.drop_core.specs.declared.table.Led.{Led}
use Rattle.drop_core.specs.declared.table.Led.TheVariants.{Never, From, Away}
use Rattle.drop_core.specs.declared.table.Pointer.{Pointer}
use Rattle.drop_core.specs.declared.table.SlotState.{SlotState}
use Rattle.drop_core.specs.declared.table.SlotState.TheVariants.{Unused, Owned, Published as Shown, Retired}
use Rattle.drop_core.specs.declared.table.Table.{Table}
use Rattle.drop_core.specs.Event.{is_owned, is_published}
use Rattle.drop_core.specs.Table.{slot_of, page_of, pointer_of, header_of, has_slot, is_never, is_led, at_index}
use Rattle.engine_rule.specs.declared.event.JointAct.TheVariants.{FillRecord}
use Rattle.engine_rule.specs.JointState.{JointState}
use Rattle.engine_rule.specs.Sound.{IsSound}
use Rattle.engine_pages.specs.declared.layout.Layout.{Layout}
use Rattle.engine_pages.specs.Pages.{Fenced, IsOver, IsLaidOut}
use Rattle.engine_pages.specs.Rule.{Shared, all_seats, joint_of}
use Rattle.engine_pages.specs.Words.{state_number, spot}
use Rattle.views.specs.ByNumber.{put_at}
use Rattle.engine_pages.proofs.EachSeat.{same_seats}
use Rattle.engine_pages.proofs.Joint.{Laws, shared_after, joint_act}

-- ---- acts that leave seats and grips

pub fill_joint : (l : Layout) (s : Shared) (p : ℕ) (n : Story) (e : Table)
    → IsSound (joint_of l (shared_after s p (record { story = n; seat = s.seats p; table = e; grip = s.grips p })))
    → IsSound (joint_of l (record s { story = n; table = e }))
fill_joint l s p n e =
    subst IsSound
    (ap (λ (x : List Seat). let c : JointState = record { commits = record { opening = l.opening; story = n; seats = x }; pages = record { table = e; grips = all_seats (put_at s.grips p (s.grips p)) } } in c)
    (same_seats s.seats p (s.seats p) refl)
    ∙ ap (λ (x : List Grip). let c : JointState = record { commits = record { opening = l.opening; story = n; seats = all_seats s.seats }; pages = record { table = e; grips = x } } in c)
    (same_seats s.grips p (s.grips p) refl))

-- ---- records of an owned slot are filled, one after another

abbrev pub fill_places : ℕ → (ℕ → Content) → ℕ → List (Spot × Place) → List (Spot × Place)
fill_places t c zero places = places
fill_places t c (suc k) places = (spot t k, place (c k) Free) ∷ fill_places t c k places

pub place_filled : (t : ℕ) (c : ℕ → Content) (k : ℕ) (places : List (Spot × Place)) (i : ℕ) → i < k
    → place_of (fill_places t c k places) (spot t i) ≡ place (c i) Free
place_filled t c zero places i less = absurd (omega arith)
place_filled t c (suc k) places i less = by_test (eqb k i) refl (λ low. place_filled t c k places i low)
  where
    by_test : (b : Bool) → eqb k i ≡ b → (i < k → place_of (fill_places t c k places) (spot t i) ≡ place (c i) Free)
        → cond (eqb t t && eqb k i) (place (c k) Free) (place_of (fill_places t c k places) (spot t i)) ≡ place (c i) Free
    by_test true e rest =
        ap (λ (b : Bool). cond (b && eqb k i) (place (c k) Free) (place_of (fill_places t c k places) (spot t i))) (eq-eqb t t refl)
        ∙ (ap (λ (b : Bool). cond b (place (c k) Free) (place_of (fill_places t c k places) (spot t i))) e
        ∙ ap (λ j. place (c j) Free) (eqb-true k i e))
    by_test false e rest =
        let other : k ≢ i = λ same. true≢false (sym (eq-eqb k i same) ∙ e) in
        ap (λ (b : Bool). cond (b && eqb k i) (place (c k) Free) (place_of (fill_places t c k places) (spot t i))) (eq-eqb t t refl)
        ∙ (ap (λ (b : Bool). cond b (place (c k) Free) (place_of (fill_places t c k places) (spot t i))) e
        ∙ rest (omega arith))

pub place_unfilled : (t : ℕ) (c : ℕ → Content) (k : ℕ) (places : List (Spot × Place)) (y : Spot) → y.slot ≢ t
    → place_of (fill_places t c k places) y ≡ place_of places y
place_unfilled t c zero places y other = refl
place_unfilled t c (suc k) places y other =
    ap (λ (b : Bool). cond (b && eqb k y.index) (place (c k) Free) (place_of (fill_places t c k places) y)) (ne_eqb t y.slot (λ e. other (sym e)))
    ∙ place_unfilled t c k places y other

pub filled_sound : Laws → (l : Layout) (s : Shared) (p t : ℕ) (c : ℕ → Content) → p < 9
    → is_owned (slot_of s.table t).state ≡ true → has_slot (s.grips p).made t ≡ true → IsSound (joint_of l s) → (k : ℕ)
    → IsSound (joint_of l (record s { story = record s.story { places = fill_places t c k s.story.places } }))
filled_sound laws l s p t c few owned made sound zero = sound
filled_sound laws l s p t c few owned made sound (suc k) =
    let before : Shared = record s { story = record s.story { places = fill_places t c k s.story.places } } in
    fill_joint l before p (record s.story { places = fill_places t c (suc k) s.story.places }) s.table
    (joint_act laws l before p (FillRecord (spot t k) (c k)) few
    (and_from (is_owned (slot_of s.table t).state) (has_slot (s.grips p).made t) owned made)
    (filled_sound laws l s p t c few owned made sound k)).sound

-- ---- the layout of a page that stays as it is, where others don't

pub over_at : (d e : Table) (u : ℕ) (sp : Span) → page_of e u ≡ page_of d u → header_of e u ≡ header_of d u
    → ((j : ℕ) → pointer_of e (at_index u j) ≡ pointer_of d (at_index u j)) → IsOver d u sp → IsOver e u sp
over_at d e u sp page header pointers over = record {
  page = page ∙ over.page;
  spans = λ j has. ap (λ (q : Pointer). q.span) (pointers j) ∙ over.spans j has;
  header = header ∙ over.header;
}

pub laid_at : (o : Option Decl) (k k' : ℕ → Option Fenced) (d e : Table) (u : ℕ) (sp : Span) → k' u ≡ k u
    → page_of e u ≡ page_of d u → header_of e u ≡ header_of d u
    → ((j : ℕ) → pointer_of e (at_index u j) ≡ pointer_of d (at_index u j)) → IsLaidOut o k d u sp → IsLaidOut o k' e u sp
laid_at None k k' d e u sp tree page header pointers over = over
laid_at (Some (Array id size)) k k' d e u sp tree page header pointers over =
    (tree ∙ over.0, over_at d e u sp page header pointers over.1)
laid_at (Some (Tree id)) k k' d e u sp tree page header pointers over = (over.0, tree ∙ over.1, over.2)

pub never_led : (g : Led) → is_never g ≡ true → is_led g ≡ false
never_led Never e = refl
never_led (From z) e = absurd (true≢false (sym e))
never_led Away e = absurd (true≢false (sym e))

pub owned_number : (state : SlotState) → is_owned state ≡ true → state_number state ≡ 1
owned_number Unused e = absurd (true≢false (sym e))
owned_number Owned e = refl
owned_number Shown e = absurd (true≢false (sym e))
owned_number Retired e = absurd (true≢false (sym e))

pub published_unowned : (state : SlotState) → is_published state ≡ true → is_owned state ≡ false
published_unowned Unused e = refl
published_unowned Owned e = absurd (true≢false (sym e))
published_unowned Shown e = refl
published_unowned Retired e = refl
