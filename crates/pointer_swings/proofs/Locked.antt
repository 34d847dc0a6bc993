-- What stands in a leaf whose records the pass has locked: what it keeps of them, and so what the snapshot page says.
use Rattle.std.proofs.Common.{◌≡◌, inl, inr, ℕ, ◌/◌, ◌%◌, ◌^◌, ◌≤◌, Bool, true, false, true≢false, cond, eqb, eqb-true, eq-eqb, List}
use Rattle.std.proofs.Common.{length, refl, sym, ap, ◌∙◌, subst, arith, Option, Some, None}
use Rattle.std.specs.Prelude.{unwrap_or}
use Rattle.serial_model.specs.declared.key.Key.{Key}
use Rattle.serial_model.specs.declared.number.Number.{Number}
use Rattle.homes.specs.declared.places.Content.{Content}
use Rattle.homes.specs.declared.places.Home.TheVariants.{InSlot}
use Rattle.homes.specs.declared.places.Span.{Span}
use Rattle.wire_form.specs.Words.{number_in, number_word}
use Rattle.snapshot_store.specs.ArrayPages.{array_found}
use Rattle.snapshot_store.specs.Places.{Found, page as page_words}
use Rattle.commit_core.specs.declared.place.Place.{Place}
use Rattle.commit_core.specs.declared.seat.Seat.{Seat}
use Rattle.commit_core.specs.declared.seat.Stage.TheVariants.{Idle}
use Rattle.commit_core.specs.declared.story.Story.{Story}
use Rattle.commit_core.specs.Keys.{nothing, opening_number}
use Rattle.commit_core.specs.Lemmas.Versions.{last_version, same_content_parts, version_same}
use Rattle.commit_core.specs.Places.{place_of, home_of, stands, stands_at, holder_is}
use Rattle.commit_core.specs.Serial.{last_write}
use Rattle.commit_core.specs.Sound.Homes.{HomeHeld}
use Rattle.commit_core.specs.Sound.Reads.{IsVersion}
use Rattle.engine_pages.specs.declared.layout.Layout.{Layout}
use Rattle.engine_pages.specs.declared.view.Role.TheVariants.{Keeper}
use Rattle.engine_pages.specs.declared.view.View.{View}
use Rattle.engine_pages.specs.Pages.{is_array}
use Rattle.engine_pages.specs.Resident.{array_record, array_value, array_word, found_content}
use Rattle.engine_pages.specs.Rule.{Shared, IsBitAt, IsHeld}
use Rattle.engine_pages.specs.Views.{seat_number}
use Rattle.engine_pages.specs.Words.{IsSmall, spot}
use Rattle.engine_pages.proofs.Joint.{seat_sound}
use Rattle.engine_pages.proofs.Named.{page_longer}
use Rattle.engine_pages.proofs.Turns.{Begins}
use Rattle.page_records.specs.Locks.{array_absence, took_at}
use Rattle.page_records.proofs.Contents.{IsProper, kept_version, last_proper, one_number, shown_is, version_proper}
use Rattle.page_records.proofs.Contents.{version_small}
use Rattle.page_records.proofs.Opening.{taken_at}
use Rattle.pointer_swings.specs.Swings.{IsLockedAs, key_in}
use Rattle.pointer_swings.proofs.LettingGo.{keeper_idle}

-- ---- what a record's two words stand for

no_zero : (a b : ℕ) → a ≡ b → eqb a b ≡ false → ⊥
no_zero a b same miss = let no : true ≡ false = sym (eq-eqb a b same) ∙ miss in absurd (cc)

small_opening : IsSmall opening_number
small_opening = record { draw = omega arith; epoch = omega arith }

-- what is found in a record
abbrev found_at : ℕ → ℕ → Found
found_at word value = record { number = word; value = value }

-- a number that fits its word is read back
number_read : (n : Number) (word : ℕ) → IsSmall n → number_word n ≡ word → n ≡ number_in word
number_read n word small is =
    let draw = small.draw in
    let one : n.epoch ≡ word / 2 ^ 40 = omega (arith, draw) in
    let two : n.draw ≡ word % 2 ^ 40 = omega (arith, draw) in
    ap (λ (x : ℕ). let z : Number = record { epoch = x; draw = n.draw } in z) one
    ∙ ap (λ (x : ℕ). let z : Number = record { epoch = word / 2 ^ 40; draw = x } in z) two

-- a content with these words is the one that a snapshot page with them has
content_read : (c : Content) (word value : ℕ) → IsSmall c.number → IsProper c → number_word c.number ≡ word
    → unwrap_or c.value 0 ≡ value → c ≡ found_content (array_found word value)
content_read c word value small proper number is = by_test (eqb word 0) refl
  where
    by_value : (o : Option ℕ) → c.value ≡ o → eqb word 0 ≡ false → c.value ≡ Some value
    by_value None none miss =
        let zero : number_word c.number ≡ number_word opening_number = ap number_word (proper.never none) in
        absurd (no_zero word 0 (sym number ∙ zero) miss)
    by_value (Some y) some miss =
        let same : y ≡ value = ap (λ (o : Option ℕ). unwrap_or o 0) (sym some) ∙ is in some ∙ ap Some same

    by_test : (b : Bool) → eqb word 0 ≡ b → c ≡ found_content (array_found word value)
    by_test true hit =
        let none : word ≡ 0 = eqb-true word 0 hit in
        let first : c.number ≡ opening_number = one_number c.number opening_number small small_opening (number ∙ none) in
        same_content_parts c nothing first (proper.blank first)
        ∙ sym (ap (λ (b : Bool). found_content (cond b None (Some (found_at word value)))) hit)
    by_test false miss =
        let read : c.number ≡ number_in word = number_read c.number word small number in
        same_content_parts c (found_content (Some (found_at word value))) read (by_value c.value refl miss)
        ∙ sym (ap (λ (b : Bool). found_content (cond b None (Some (found_at word value)))) miss)

-- ---- a locked record

module _ (l : Layout) (words : List ℕ) (views : List View) (s : Shared) (id : ℕ) (v : View)
    (b : Begins l words views s id v) (keeper : v.role ≡ Keeper) (t : ℕ) (sp : Span) (number : ℕ)
    (there : number ≤ length v.pages) (array : is_array l.decls sp.storage ≡ true) (i : ℕ)
    (k : IsLockedAs v t sp (page_words v.pages number) i) where
  abbrev m : Story
  m = s.story

  abbrev p : ℕ
  p = seat_number v.role

  abbrev key : Key
  key = key_in sp i

  abbrev q : Place
  q = place_of m.places (spot t i)

  held : IsHeld l.decls m p (took_at key (spot t i) (number_word k.content.number)) (spot t i)
  held = taken_at l words views s id v key (spot t i) (number_word k.content.number) b k.took

  pub locked_home : home_of m.homes key ≡ InSlot (spot t i)
  locked_home = held.home

  pub locked_held : holder_is p q.holder ≡ true
  locked_held = held.own

  stands_here : stands m.places m.homes key ≡ q
  stands_here = ap (stands_at m.places) held.home

  kept_is : IsVersion l.opening m.history key k.content
  kept_is = kept_version l.decls l.opening m.history v.seat.kept key (spot t i) k.content array b.fits.records k.kept

  last : q.content ≡ last_write l.opening m.history m.decided key
  last =
      let mine : holder_is p (stands m.places m.homes key).holder ≡ true = ap (λ (z : Place). holder_is p z.holder) stands_here ∙ held.own in
      let seat = seat_sound l s p b.few b.sound.joint in
      let idle : (s.seats p).stage ≡ Idle =
      ap (λ (z : Seat). z.stage) (sym b.own.seat) ∙ keeper_idle l v keeper b.fits.part in
      let shows = subst (λ g. HomeHeld m.horizon l.opening m.history m.decided (s.seats p).put key (stands m.places m.homes key).content g)
      idle (seat.locked_homes key mine) in
      ap (λ (z : Place). z.content) (sym stands_here)
      ∙ shown_is m.horizon (stands m.places m.homes key).content (last_write l.opening m.history m.decided key) shows
      (last_proper l words views s key b.sound array)

  version : IsVersion l.opening m.history key q.content
  version = subst (IsVersion l.opening m.history key) (sym last) (last_version l.opening m.history m.decided key)

  -- it is what the pass keeps of it
  kept_there : q.content ≡ k.content
  kept_there =
      version_same l.opening m.history key q.content k.content (b.sound.joint.commits.story.ordered_numbers.rising key)
      version kept_is
      (one_number q.content.number k.content.number (version_small l.opening s key q.content b.sound.small version)
      (version_small l.opening s key k.content b.sound.small kept_is)
      (let number = held.number in
      let none = no_bit held.bit in omega (arith, number, none)))
    where
      -- an array's record has no bit of absence
      no_bit : {absent : ℕ} → IsBitAt l.decls m key q absent → absent ≡ 0
      no_bit (inl is) = is ∙ array_absence l.decls key q.content.value array
      no_bit (inr tree) = absurd (true≢false (sym array ∙ tree.0))

  pub locked_proper : IsProper q.content
  locked_proper =
      version_proper l.decls l.opening m.history key q.content array b.sound.blank b.sound.valued
      (b.sound.joint.commits.story.ordered_numbers.rising key) version

  -- and so what the snapshot page says
  pub locked_says : q.content ≡ array_record (page_words s.resident.pages number) i
  locked_says =
      let front = b.pages.resident in
      let same : page_words s.resident.pages number ≡ page_words v.pages number =
      page_longer v.pages s.resident.pages number front there in
      content_read q.content (array_word (page_words v.pages number) i) (array_value (page_words v.pages number) i)
      (version_small l.opening s key q.content b.sound.small version) locked_proper
      (ap (λ (z : Content). number_word z.number) kept_there ∙ k.number)
      (ap (λ (z : Content). unwrap_or z.value 0) kept_there ∙ k.value)
      ∙ ap (λ (ws : List ℕ). array_record ws i) (sym same)
