-- What was found under an own lock of a tree's record stands there for as long as no attempt is decided.
use Rattle.std.proofs.Common.{◌≡◌, ◌⊎◌, inl, inr, ℕ, ◌+◌, ◌^◌, ◌<◌, true, false, refl, sym, ap, ◌∙◌, subst, arith}
use Rattle.std.proofs.Common.{List, Option, Some, None}
use Rattle.std.specs.List.{Contains}
use Rattle.serial_model.specs.declared.key.Key.{Key}
use Rattle.homes.specs.declared.places.Content.{Content}
use Rattle.homes.specs.declared.places.Home.TheVariants.{InSlot}
use Rattle.homes.specs.declared.places.Spot.{Spot}
use Rattle.wire_form.specs.Leaves.{tree_leaf}
use Rattle.wire_form.specs.Words.{absent_field, at_bit, number_word}
use Rattle.commit_core.specs.Lemmas.Versions.{last_version, same_content_parts, version_same}
use Rattle.commit_core.specs.Moves.{Shows as StandsFor}
use Rattle.commit_core.specs.Places.{place_of, home_of}
use Rattle.commit_core.specs.Serial.{last_write}
use Rattle.commit_core.specs.Sound.Reads.{IsVersion}
use Rattle.engine_pages.specs.declared.layout.Layout.{Layout}
use Rattle.engine_pages.specs.declared.view.Took.{Took}
use Rattle.engine_pages.specs.declared.view.View.{View}
use Rattle.engine_pages.specs.Pages.{is_array}
use Rattle.engine_pages.specs.Rule.{Shared, IsBitAt, IsHeld}
use Rattle.engine_pages.specs.Views.{seat_number}
use Rattle.engine_pages.specs.Words.{IsSmall}
use Rattle.engine_pages.proofs.Turns.{Begins}
use Rattle.page_records.proofs.AnyRecord.{tree_absence}
use Rattle.page_records.proofs.Contents.{one_number, small_word, version_small}
use Rattle.page_records.proofs.Undecided.{exact_bit, held_shows, undecided}

-- a set bit of absence and none
field_one : (o : Option ℕ) → (absent_field tree_leaf o ≡ 0) ⊎ (absent_field tree_leaf o ≡ at_bit 61 1)
field_one None = inr refl
field_one (Some n) = inl refl

-- two numbers with bits of absence in one word are one number, with one bit
parts_of : (n m a c : ℕ) → n < 2 ^ 60 → m < 2 ^ 60 → (a ≡ 0) ⊎ (a ≡ at_bit 61 1) → (c ≡ 0) ⊎ (c ≡ at_bit 61 1)
    → n + a ≡ m + c → (n ≡ m) × (a ≡ c)
parts_of n m a c few low (inl x) (inl y) same = (omega arith, omega arith)
parts_of n m a c few low (inl x) (inr y) same = absurd (omega arith)
parts_of n m a c few low (inr x) (inl y) same = absurd (omega arith)
parts_of n m a c few low (inr x) (inr y) same = (omega arith, omega arith)

-- one bit of absence is of values that are there together
none_too : (o q : Option ℕ) → absent_field tree_leaf o ≡ absent_field tree_leaf q → q ≡ None → o ≡ None
none_too None q same none = refl
none_too (Some n) q same none =
    let set : 0 ≡ at_bit 61 1 = same ∙ ap (absent_field tree_leaf) none in absurd (omega arith)

module _ (l : Layout) (words : List ℕ) (views : List View) (s : Shared) (id : ℕ) (v : View)
    (b : Begins l words views s id v) (k : Key) (tree : is_array l.decls k.storage ≡ false)
    (none : undecided v.seat.stage ≡ true) (t : Took) (has : Contains v.took t) (key : t.key ≡ k) (c : Content)
    (small : IsSmall c.number) (word : t.word ≡ number_word c.number + absent_field tree_leaf c.value)
    (seen : (c.value ≡ None) ⊎ Contains v.versions (record { key = k; content = c })) where
  abbrev place : Spot
  place = (b.own.took t has).0

  held : IsHeld l.decls s.story (seat_number v.role) t place
  held = (b.own.took t has).1

  pub locked_home : home_of s.story.homes k ≡ InSlot place
  locked_home = ap (home_of s.story.homes) (sym key) ∙ held.home

  shows : StandsFor s.story.horizon (place_of s.story.places place).content
      (last_write l.opening s.story.history s.story.decided k)
  shows = held_shows l words views s id v b k place locked_home held.own none

  stands_small : IsSmall (place_of s.story.places place).content.number
  stands_small = elim shows [
    | inl same ↦
        subst (λ (z : Content). IsSmall z.number) (sym same)
        (version_small l.opening s k (last_write l.opening s.story.history s.story.decided k) b.sound.small
        (last_version l.opening s.story.history s.story.decided k))
    | inr lost ↦ subst (λ (z : Content). IsSmall z.number) (sym lost.0) record { draw = omega arith; epoch = omega arith }
  ]

  parts : (number_word (place_of s.story.places place).content.number ≡ number_word c.number)
      × (absent_field tree_leaf (place_of s.story.places place).content.value ≡ absent_field tree_leaf c.value)
  parts =
      let bit = exact_bit l words views s id v b k place locked_home held.own none held.absent
      (subst (λ (z : Key). IsBitAt l.decls s.story z (place_of s.story.places place) held.absent) key held.bit) in
      let field = tree_absence l.decls k (place_of s.story.places place).content.value tree in
      let number = held.number in
      parts_of (number_word (place_of s.story.places place).content.number) (number_word c.number)
      (absent_field tree_leaf (place_of s.story.places place).content.value) (absent_field tree_leaf c.value)
      (small_word (place_of s.story.places place).content.number stands_small) (small_word c.number small)
      (field_one (place_of s.story.places place).content.value) (field_one c.value) (omega (arith, number, bit, field, word))

  pub locked_content : (place_of s.story.places place).content ≡ c
  locked_content = by_value c.value refl
    where
      number : (place_of s.story.places place).content.number ≡ c.number
      number = one_number (place_of s.story.places place).content.number c.number stands_small small parts.0

      no_some : (n : ℕ) → Some n ≡ None → ⊥
      no_some n e = absurd (cc)

      by_seen : (n : ℕ) → c.value ≡ Some n → (c.value ≡ None) ⊎ Contains v.versions (record { key = k; content = c })
          → IsVersion l.opening s.story.history k c
      by_seen n e (inl gone) = absurd (no_some n (sym e ∙ gone))
      by_seen n e (inr among) = elim (b.fits.versions (record { key = k; content = c }) among) [
        | inl lost ↦ absurd (no_some n (sym e ∙ ap (λ (z : Content). z.value) lost.0))
        | inr version ↦ version
      ]

      by_shown : (n : ℕ) → c.value ≡ Some n
          → StandsFor s.story.horizon (place_of s.story.places place).content
          (last_write l.opening s.story.history s.story.decided k)
          → (place_of s.story.places place).content ≡ c
      by_shown n e (inl same) =
          same
          ∙ sym (version_same l.opening s.story.history k c (last_write l.opening s.story.history s.story.decided k)
          (b.sound.joint.commits.story.ordered_numbers.rising k) (by_seen n e seen)
          (last_version l.opening s.story.history s.story.decided k)
          (sym number ∙ ap (λ (z : Content). z.number) same))
      by_shown n e (inr lost) =
          absurd (no_some n (sym e
          ∙ none_too c.value (place_of s.story.places place).content.value (sym parts.1)
          (ap (λ (z : Content). z.value) lost.0)))

      by_value : (o : Option ℕ) → c.value ≡ o → (place_of s.story.places place).content ≡ c
      by_value None e =
          same_content_parts (place_of s.story.places place).content c number
          (none_too (place_of s.story.places place).content.value c.value parts.1 e ∙ sym e)
      by_value (Some n) e = by_shown n e shows
