-- Where a word is now as it was kept, what it vouches for is so now: of a record by its number, of a pointer by its
-- page, of a header by how many records it counts.
use Rattle.std.proofs.Common.{◌≡◌, ℕ, Bool, true, false, not, true≢false, eqb, ◌⊎◌, inl, inr, List, refl, sym, ap, ◌∙◌, subst}
use Rattle.std.proofs.lemmas.Bool.{and_parts}
use Rattle.std.specs.List.{Contains}
use Rattle.std.specs.Prelude.{is_some}
use mathlib.Core.Bool.{beq}
use Rattle.serial_model.specs.declared.key.Key.{Key}
use Rattle.homes.specs.declared.places.Content.{Content}
use Rattle.homes.specs.declared.places.Holder.{Holder}
use Rattle.homes.specs.declared.places.Holder.TheVariants.{Free, Held, Dead}
use Rattle.homes.specs.declared.places.Spot.{Spot}
use Rattle.homes.specs.Homes.{holder_is}
use Rattle.commit_core.specs.declared.place.Place.{Place}
use Rattle.commit_core.specs.declared.part.Word.{Word}
use Rattle.commit_core.specs.declared.part.Word.TheVariants.{Record, Pointer, Header}
use Rattle.commit_core.specs.declared.part.Part.{Part}
use Rattle.commit_core.specs.declared.seat.Stage.{Stage}
use Rattle.commit_core.specs.declared.seat.Stage.TheVariants.{Idle, Trying, Ended, Decided}
use Rattle.commit_core.specs.declared.seat.Seat.{Seat}
use Rattle.commit_core.specs.declared.story.Story.{Story}
use Rattle.commit_core.specs.Keys.{same_number}
use Rattle.commit_core.specs.CoreState.{clock_of}
use Rattle.commit_core.specs.Places.{place_of, home_of, stands}
use Rattle.commit_core.specs.Parts.{covers, found, is_version}
use Rattle.commit_core.specs.Serial.{last_write}
use Rattle.commit_core.specs.Moves.{Shows}
use Rattle.commit_core.specs.Sound.{IsSoundStory, IsSoundSeat}
use Rattle.commit_core.specs.Sound.Homes.{HomeHeld}
use Rattle.commit_core.specs.Sound.Reads.{IsPast, IsOfRecord, FitsWord as FitsRecord}
use Rattle.commit_core.specs.Lemmas.Keys.{same_number-true}
use Rattle.commit_core.specs.Lemmas.Places.{stands-spot}
use Rattle.commit_core.specs.Lemmas.Shows.{same_word_content}
use Rattle.drop_core.specs.declared.table.Table.{Table}
use Rattle.drop_core.specs.declared.grip.Grip.{Grip}
use Rattle.drop_core.specs.Table.{page_of, pointer_of, header_of}
use Rattle.drop_core.specs.Sound.{IsSoundTable, HeadersStayDead}
use Rattle.engine_rule.specs.JointState.{leads_so, counts_so}
use Rattle.engine_rule.specs.Sound.{IsHeld, FitsWord, IsSoundKept, has_decided, is_clear, is_word_so, IsClearNow}
use Rattle.engine_rule.proofs.PointerLaws.{pointer_now}
use Rattle.engine_rule.proofs.HeaderLaws.{header_now}

both_there : (a b : Bool) → beq a b ≡ true → a ≡ b
both_there true true e = refl
both_there true false e = absurd (true≢false (sym e))
both_there false true e = absurd (true≢false (sym e))
both_there false false e = refl

clear_alive : (p : ℕ) (decided : Bool) (h : Holder) → is_clear p decided h ≡ true → h ≡ Dead → ⊥
clear_alive p decided h o e = true≢false (sym o ∙ ap (is_clear p decided) e)

clear_cases : (p : ℕ) (decided : Bool) (h : Holder) → is_clear p decided h ≡ true → (h ≡ Free) ⊎ ((holder_is p h ≡ true) × (decided ≡ false))
clear_cases p decided Free o = inl refl
clear_cases p decided (Held q) o = let parts = and_parts (eqb q p) (not decided) o in inr (parts.0, undecided decided parts.1)
  where
    undecided : (b : Bool) → not b ≡ true → b ≡ false
    undecided true e = absurd (true≢false (sym e))
    undecided false e = refl
clear_cases p decided Dead o = absurd (true≢false (sym o))

module _ (opening : List (Key × Content)) (m : Story) (p : ℕ) (s : Seat) (story : IsSoundStory opening m) (seat : IsSoundSeat opening m p s) where
  -- until its attempt is decided, what a seat holds shows the last write
  trying_shown : (k : Key) (c : Content) (stage : Stage) → has_decided stage ≡ false → HomeHeld m.horizon opening m.history m.decided s.put k c stage
      → Shows m.horizon c (last_write opening m.history m.decided k)
  trying_shown k c Idle e held = held
  trying_shown k c (Trying i) e held = held.0
  trying_shown k c Ended e held = held
  trying_shown k c (Decided i) e held = absurd (true≢false e)

  clear_shown : (k : Key) → is_clear p (has_decided s.stage) (stands m.places m.homes k).holder ≡ true
      → Shows m.horizon (stands m.places m.homes k).content (last_write opening m.history m.decided k)
  clear_shown k o =
      elim (clear_cases p (has_decided s.stage) (stands m.places m.homes k).holder o) [
        | inl free ↦ story.unlocked_homes k free
        | inr mine ↦ trying_shown k (stands m.places m.homes k).content s.stage mine.1 (seat.locked_homes k mine.0)
      ]

  record_now : (x : Spot) (part : Part) → IsOfRecord m.places m.homes x part → IsPast opening m.history (clock_of m.first_draw m.epoch m.history) part
      → is_clear p (has_decided s.stage) (place_of m.places x).holder ≡ true → is_version (place_of m.places x).content part.version ≡ true
      → IsClearNow p (has_decided s.stage) (stands m.places m.homes) part
  record_now x part fits past o same k c =
      let is : k ≡ fits.key = fits.only k c in
      let covered : covers part fits.key ≡ true = ap (covers part) (sym is) ∙ c in
      let at : stands m.places m.homes fits.key ≡ place_of m.places x = elim fits.home [
        | inl home ↦ stands-spot m.places (home_of m.homes fits.key) x home
        | inr dead ↦ absurd (clear_alive p (has_decided s.stage) (place_of m.places x).holder o dead)
      ] in
      let clear : is_clear p (has_decided s.stage) (stands m.places m.homes fits.key).holder ≡ true =
      ap (λ (q : Place). is_clear p (has_decided s.stage) q.holder) at ∙ o in
      let f : Content = found part fits.key in
      let v = and_parts (same_number (place_of m.places x).content.number f.number) (beq (is_some (place_of m.places x).content.value) (is_some f.value))
      (sym (ap (is_version (place_of m.places x).content) fits.version) ∙ same) in
      let content = same_word_content m.horizon opening m.history m.decided fits.key (stands m.places m.homes fits.key).content f
      (story.ordered_numbers.rising fits.key) (clear_shown fits.key clear) (past.version fits.key covered)
      (ap (λ (q : Place). q.content.number) at ∙ same_number-true (place_of m.places x).content.number f.number v.0)
      (ap (λ (q : Place). is_some q.content.value) at ∙ both_there (is_some (place_of m.places x).content.value) (is_some f.value) v.1) in
      subst (λ (y : Key). (is_clear p (has_decided s.stage) (stands m.places m.homes y).holder ≡ true) × ((stands m.places m.homes y).content ≡ found part y))
      (sym is) (clear, content)

  module _ (d : Table) (grips : List Grip) (g : Grip) (sound : IsSoundTable (home_of m.homes) d grips) (headers : HeadersStayDead d) (kept : IsSoundKept d g.holds s.kept) where
    word_now : (part : Part) (w : Word) → IsHeld d g.holds w → FitsWord d part w → FitsRecord m.places m.homes part w
        → IsPast opening m.history (clock_of m.first_draw m.epoch m.history) part
        → is_word_so p (has_decided s.stage) (place_of m.places) d part w ≡ true → IsClearNow p (has_decided s.stage) (stands m.places m.homes) part
    word_now part (Record x) held fits of_record past so =
        let both = and_parts (is_clear p (has_decided s.stage) (place_of m.places x).holder) (is_version (place_of m.places x).content part.version) so in
        record_now x part of_record past both.0 both.1
    word_now part (Pointer x) held fits of_record past so = λ k c.
        let both = and_parts (is_clear p (has_decided s.stage) (pointer_of d x).holder) (leads_so (pointer_of d x) part.version) so in
        let now = pointer_now m d grips sound g.holds part x held fits (clear_alive p (has_decided s.stage) (pointer_of d x).holder both.0) both.1 k c in
        (ap (is_clear p (has_decided s.stage)) now.0, now.1)
    word_now part (Header t) held fits of_record past so = λ k c.
        let both = and_parts (is_clear p (has_decided s.stage) (header_of d t)) (counts_so (page_of d t) part.version) so in
        let now = header_now m d grips sound headers g.holds part t held fits (clear_alive p (has_decided s.stage) (header_of d t) both.0) both.1 k c in
        (ap (is_clear p (has_decided s.stage)) now.0, now.1)

    pub kept_vouches : (part : Part) → Contains s.kept part → is_word_so p (has_decided s.stage) (place_of m.places) d part part.word ≡ true
        → IsClearNow p (has_decided s.stage) (stands m.places m.homes) part
    kept_vouches part c so =
        word_now part part.word (kept.kept_is_held part c) (kept.kept_fits part c) (seat.kept_fits part c) (seat.kept_is_past part c) so
