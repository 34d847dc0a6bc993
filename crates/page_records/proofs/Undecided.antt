-- What a lock's holder knows of a record: until its attempt is decided what stood there as it locked it stands there; and
-- what it puts from then on.
use Rattle.std.proofs.Common.{◌≡◌, ◌⊎◌, inl, inr, ℕ, Bool, true, false, true≢false, cond, List, refl, sym, ap, ◌∙◌, subst}
use Rattle.std.proofs.Common.{arith, Option, Some, None}
use Rattle.std.specs.Prelude.{◌&&◌, is_some}
use Rattle.std.specs.List.{slice_get}
use Rattle.std.proofs.lemmas.Bool.{and_from}
use Rattle.lists.specs.Elements.{at_in}
use Rattle.serial_model.specs.declared.decl.Decl.{Decl}
use Rattle.serial_model.specs.declared.key.Key.{Key}
use Rattle.serial_model.specs.declared.number.Number.{Number}
use Rattle.serial_model.specs.Numbers.{is_below, not_below_itself, not_both_below}
use Rattle.homes.specs.declared.places.Content.{Content}
use Rattle.homes.specs.declared.places.Holder.{Holder}
use Rattle.homes.specs.declared.places.Holder.TheVariants.{Free}
use Rattle.homes.specs.declared.places.Home.TheVariants.{InSlot}
use Rattle.homes.specs.declared.places.Spot.{Spot}
use Rattle.wire_form.specs.Leaves.{tree_leaf}
use Rattle.wire_form.specs.Words.{absent_field, at_bit}
use Rattle.commit_core.specs.declared.attempt.Attempt.{Attempt}
use Rattle.commit_core.specs.declared.place.Place.{Place}
use Rattle.commit_core.specs.declared.seat.Seat.{Seat}
use Rattle.commit_core.specs.declared.seat.Stage.{Stage}
use Rattle.commit_core.specs.declared.seat.Stage.TheVariants.{Idle, Trying, Ended, Decided}
use Rattle.commit_core.specs.declared.story.Story.{Story}
use Rattle.commit_core.specs.CoreState.{can_begin, is_decided}
use Rattle.commit_core.specs.Keys.{content_at, content_of, has_key, nothing, opening_number, written, IsUpTo}
use Rattle.commit_core.specs.Lemmas.Shows.{opening_below}
use Rattle.commit_core.specs.Lemmas.States.{after_all-greatest, after_all-version, rises_low}
use Rattle.commit_core.specs.Lemmas.Values.{Overwrites}
use Rattle.commit_core.specs.Lemmas.Versions.{same_content_parts}
use Rattle.commit_core.specs.Moves.{Shows as StandsFor}
use Rattle.commit_core.specs.Places.{place, place_of, home_of, stands, holder_is}
use Rattle.commit_core.specs.Serial.{RisesFrom, last_write, state_below}
use Rattle.commit_core.specs.Sound.Homes.{HomeHeld, half_put}
use Rattle.commit_core.specs.Sound.Locks.{AttemptStands}
use Rattle.commit_core.specs.Sound.Reads.{IsVersion}
use Rattle.engine_pages.specs.declared.layout.Layout.{Layout}
use Rattle.engine_pages.specs.declared.view.View.{View}
use Rattle.engine_pages.specs.Pages.{is_array}
use Rattle.engine_pages.specs.Rule.{Shared, IsBitAt, Sound, StartsBlank, absence}
use Rattle.engine_pages.specs.Views.{seat_number}
use Rattle.engine_pages.proofs.Joint.{seat_sound}
use Rattle.engine_pages.proofs.Seats.{at_front}
use Rattle.engine_pages.proofs.Turns.{Begins}
use Rattle.page_records.specs.Locks.{array_absence}
use Rattle.page_records.proofs.AnyRecord.{bit_one}
use Rattle.page_records.proofs.Contents.{stands_there}

-- ---- stages

-- no attempt of the seat is decided, with locks left to open
abbrev pub undecided : Stage → Bool
undecided Idle = true
undecided (Trying i) = true
undecided Ended = true
undecided (Decided i) = false

pub begins_undecided : (stage : Stage) → can_begin stage ≡ true → undecided stage ≡ true
begins_undecided Idle e = refl
begins_undecided (Trying i) e = refl
begins_undecided Ended e = refl
begins_undecided (Decided i) e = absurd (true≢false (sym e))

-- what a seat holds shows the last write then
shows_last : (horizon : Number) (opening : List (Key × Content)) (history : List Attempt) (decided : List Number)
    (put : List Key) (k : Key) (c : Content) (stage : Stage) → undecided stage ≡ true
    → HomeHeld horizon opening history decided put k c stage → StandsFor horizon c (last_write opening history decided k)
shows_last horizon opening history decided put k c Idle e h = h
shows_last horizon opening history decided put k c (Trying i) e h = h.0
shows_last horizon opening history decided put k c Ended e h = h
shows_last horizon opening history decided put k c (Decided i) e h = absurd (true≢false (sym e))

-- ---- versions

-- what had a value at first, or was written so, has a number above that of a record which was never written
pub valued_number : (decls : List Decl) (opening : List (Key × Content)) (history : List Attempt) (k : Key) (c : Content)
    → StartsBlank decls opening → RisesFrom (content_at opening k).number history → IsVersion opening history k c
    → (c.value ≡ None → ⊥) → c.number ≡ opening_number → ⊥
valued_number decls opening history k c starts rises (inl e) there number =
    there (ap (λ (z : Content). z.value) e ∙ starts.blank k (sym (ap (λ (z : Content). z.number) e) ∙ number))
valued_number decls opening history k c starts rises (inr a) there number =
    not_below_itself opening_number a.0.number (sym (a.2 ∙ number))
    (opening_below (content_at opening k).number a.0.number (rises_low (content_at opening k).number history rises a.0 a.1))

-- the last write is above no other one
pub last_is_top : (l : Layout) (words : List ℕ) (views : List View) (s : Shared) (k : Key) (b : Attempt) (n : Number)
    → Sound l words views s → (last_write l.opening s.story.history s.story.decided k).number ≡ n
    → Overwrites s.story.history s.story.decided k n b → ⊥
last_is_top l words views s k b n h is over =
    let m = s.story in
    let top : IsUpTo b.number (last_write l.opening m.history m.decided k).number =
    after_all-greatest (λ a. is_decided m.decided a.number && true) k m.history (content_at l.opening k)
    (h.joint.commits.story.ordered_numbers.rising k) b over.drawn
    (and_from (is_decided m.decided b.number) true over.counts refl) over.writes in
    elim (subst (IsUpTo b.number) is top) [
      | inl same ↦ not_below_itself n b.number (sym same) over.above
      | inr low ↦ not_both_below b.number n low over.above
    ]

-- ---- a record that the pass has locked

module _ (l : Layout) (words : List ℕ) (views : List View) (s : Shared) (id : ℕ) (v : View)
    (b : Begins l words views s id v) (k : Key) (x : Spot) (home : home_of s.story.homes k ≡ InSlot x)
    (held : holder_is (seat_number v.role) (place_of s.story.places x).holder ≡ true) where
  abbrev m : Story
  m = s.story

  abbrev p : ℕ
  p = seat_number v.role

  abbrev q : Place
  q = place_of m.places x

  there : stands m.places m.homes k ≡ q
  there = stands_there s k x home

  at_home : HomeHeld m.horizon l.opening m.history m.decided (s.seats p).put k q.content (s.seats p).stage
  at_home =
      subst (λ (z : Place). HomeHeld m.horizon l.opening m.history m.decided (s.seats p).put k z.content (s.seats p).stage)
      there
      ((seat_sound l s p b.few b.sound.joint).locked_homes k (ap (λ (z : Place). holder_is p z.holder) there ∙ held))

  -- what stands there shows the last write
  pub held_shows : undecided v.seat.stage ≡ true
      → StandsFor m.horizon q.content (last_write l.opening m.history m.decided k)
  held_shows none =
      shows_last m.horizon l.opening m.history m.decided (s.seats p).put k q.content (s.seats p).stage
      (subst (λ (z : Seat). undecided z.stage ≡ true) b.own.seat none) at_home

  -- and the bit of absence is that of its value
  pub exact_bit : undecided v.seat.stage ≡ true → (bit : ℕ) → IsBitAt l.decls m k q bit
      → bit ≡ absence l.decls k q.content.value
  exact_bit none bit (inl is) = is
  exact_bit none bit (inr old) = absurd (elim (held_shows none) [
    | inl last ↦
        last_is_top l words views s k (old.1).later.0 q.content.number b.sound (sym (ap (λ (c : Content). c.number) last))
        (old.1).later.1
    | inr lost ↦ (old.1).some lost.0
  ])

  -- ---- what is put

  module _ (index : ℕ) (a : Attempt) (value : Option ℕ) (stage : v.seat.stage ≡ Decided index)
      (at : slice_get v.history index ≡ Some a) (writes : written k a.writes ≡ Some value) where
    decided_here : slice_get m.history index ≡ Some a
    decided_here = at_front v.history m.history index a b.fits.history at

    stage_is : (s.seats p).stage ≡ Decided index
    stage_is = ap (λ (z : Seat). z.stage) (sym b.own.seat) ∙ stage

    home_decided : HomeHeld m.horizon l.opening m.history m.decided (s.seats p).put k q.content (Decided index)
    home_decided =
        subst (HomeHeld m.horizon l.opening m.history m.decided (s.seats p).put k q.content) stage_is at_home

    -- the attempt has a number above what stands there
    pub over_here : Overwrites m.history m.decided k q.content.number a
    over_here =
        let stood = subst (AttemptStands m.history m.decided (stands m.places m.homes) (s.seats p).put p) stage_is
        (seat_sound l s p b.few b.sound.joint).attempt_stands in
        let same : stood.0 ≡ a = let both : Some stood.0 ≡ Some a = sym stood.1.at ∙ decided_here in cc in record {
          drawn = at_in m.history index a decided_here;
          counts = subst (λ (z : Attempt). is_decided m.decided z.number ≡ true) same stood.1.counts;
          writes = ap (λ (o : Option (Option ℕ)). is_some o) writes;
          above = (home_decided a decided_here).1.place;
        }

    -- once it is put, what it writes stands there
    pub value_put : has_key v.seat.put k ≡ true → q.content.value ≡ value
    value_put put =
        let half = (home_decided a decided_here).0 in
        let here : has_key (s.seats p).put k ≡ true = subst (λ (z : Seat). has_key z.put k ≡ true) b.own.seat put in
        ap (λ (c : Content). c.value)
        (half.2 ∙ (ap (λ o. half_put (has_key (s.seats p).put k) o half.0) writes
        ∙ ap (λ (c : Bool). half_put c (Some value) half.0) here))

    -- what had a value there has a proper number
    no_blank : value ≡ None → (q.content.value ≡ None → ⊥) → q.content.number ≡ opening_number → ⊥
    no_blank removed there number =
        let half = (home_decided a decided_here).0 in
        by_put (has_key (s.seats p).put k) half.0 half.1
        (half.2 ∙ ap (λ o. half_put (has_key (s.seats p).put k) o half.0) (writes ∙ ap Some removed))
      where
        by_put : (c : Bool) (old : Content)
            → StandsFor m.horizon old (state_below l.opening m.history m.decided a.number k)
            → q.content ≡ half_put c (Some None) old → ⊥
        by_put true old shows is = there (ap (λ (z : Content). z.value) is)
        by_put false old (inl last) is =
            let same : q.content ≡ state_below l.opening m.history m.decided a.number k = is ∙ last in
            let version : IsVersion l.opening m.history k q.content =
            subst (IsVersion l.opening m.history k) (sym same)
            (after_all-version (λ y. is_decided m.decided y.number && is_below y.number a.number) k m.history
            (content_at l.opening k)) in
            valued_number l.decls l.opening m.history k q.content b.sound.blank
            (b.sound.joint.commits.story.ordered_numbers.rising k) version there number
        by_put false old (inr lost) is = there (ap (λ (z : Content). z.value) (is ∙ lost.0))

    -- the word's bit of absence stays as the value is put: it may be that of the value before
    pub put_bit : (bit : ℕ) → IsBitAt l.decls m k q bit
        → IsBitAt l.decls m k (place (content_of q.content.number value) q.holder) bit
    put_bit bit is = by_kind (is_array l.decls k.storage) refl is
      where
        not_free : (h : Holder) → holder_is p h ≡ true → h ≡ Free → ⊥
        not_free h mine free = true≢false (sym mine ∙ ap (holder_is p) free)

        some_value : (n : ℕ) → content_of q.content.number (Some n) ≡ nothing → ⊥
        some_value n e = let value : Some n ≡ None = ap (λ (c : Content). c.value) e in absurd (cc)

        -- a bit that isn't set is of a record with a value
        there_bit : is_array l.decls k.storage ≡ false → bit ≡ 0 → IsBitAt l.decls m k q bit → q.content.value ≡ None
            → q.content.number ≡ opening_number → ⊥
        there_bit tree zero-bit (inl e) none number =
            let set : bit ≡ at_bit 61 1 =
            e ∙ (ap (λ (c : Bool). cond c 0 (absent_field tree_leaf q.content.value)) tree
            ∙ ap (absent_field tree_leaf) none) in
            absurd (omega arith)
        there_bit tree zero-bit (inr old) none number = (old.1).some (same_content_parts q.content nothing number none)

        tree_bit : is_array l.decls k.storage ≡ false → (o : Option ℕ) → value ≡ o → (bit ≡ 0) ⊎ (bit ≡ at_bit 61 1)
            → IsBitAt l.decls m k (place (content_of q.content.number o) q.holder) bit
        tree_bit tree (Some n) e one = inr (
          tree,
          record { one = one; held = not_free q.holder held; some = some_value n; later = (a, over_here) },
        )
        tree_bit tree None e (inr set) =
            inl (set ∙ sym (ap (λ (c : Bool). cond c 0 (absent_field tree_leaf None)) tree))
        tree_bit tree None e (inl zero-bit) = inr (
          tree,
          record {
            one = inl zero-bit;
            held = not_free q.holder held;
            some = λ same.
                let number : q.content.number ≡ opening_number = ap (λ (c : Content). c.number) same in
                no_blank e (λ none. there_bit tree zero-bit is none number) number;
            later = (a, over_here);
          },
        )

        by_kind : (c : Bool) → is_array l.decls k.storage ≡ c → IsBitAt l.decls m k q bit
            → IsBitAt l.decls m k (place (content_of q.content.number value) q.holder) bit
        by_kind true array (inl e) =
            inl (e ∙ (array_absence l.decls k q.content.value array ∙ sym (array_absence l.decls k value array)))
        by_kind true array (inr old) = absurd (true≢false (sym array ∙ old.0))
        by_kind false tree h = tree_bit tree value refl (bit_one l.decls m k q bit h)
