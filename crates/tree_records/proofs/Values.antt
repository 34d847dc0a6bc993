-- A value that was loaded between two loads of the word of a tree's record is that of the part which is kept, where that
-- has a value and the second load finds the same word.
use Rattle.std.proofs.Common.{◌≡◌, ◌⊎◌, inl, inr, ℕ, ◌+◌, ◌^◌, ◌<◌, List, get_or, refl, sym, ap, ◌∙◌, subst, arith}
use Rattle.std.proofs.Common.{Bool, IfSome, Option, Some, None}
use Rattle.std.specs.Prelude.{unwrap_or}
use Rattle.std.specs.List.{Contains}
use Rattle.atomic_table.specs.Table.{Me, Allows}
use Rattle.serial_model.specs.declared.key.Key.{Key}
use Rattle.serial_model.specs.declared.number.Number.{Number}
use Rattle.serial_model.specs.Numbers.{IsBelow}
use Rattle.homes.specs.declared.places.At.{At}
use Rattle.homes.specs.declared.places.Content.{Content}
use Rattle.homes.specs.declared.places.Holder.{Holder}
use Rattle.homes.specs.declared.places.Holder.TheVariants.{Free, Held, Dead}
use Rattle.homes.specs.declared.places.Spot.{Spot}
use Rattle.wire_form.specs.Leaves.{tree_leaf}
use Rattle.wire_form.specs.Words.{absent_field, at_bit, number_word}
use Rattle.commit_core.specs.declared.attempt.Attempt.{Attempt}
use Rattle.commit_core.specs.declared.part.Part.{Part}
use Rattle.commit_core.specs.declared.part.Word.TheVariants.{Record, Pointer, Header}
use Rattle.commit_core.specs.declared.place.Place.{Place}
use Rattle.commit_core.specs.Keys.{opening_number, IsUpTo}
use Rattle.commit_core.specs.Lemmas.Shows.{up_then_below}
use Rattle.commit_core.specs.Lemmas.Values.{Overwrites, IsLeftOrPut, version_or}
use Rattle.commit_core.specs.Moves.{Shows as StandsFor}
use Rattle.commit_core.specs.Parts.{record_part}
use Rattle.commit_core.specs.Places.{place_of}
use Rattle.commit_core.specs.Serial.{content_after, last_write}
use Rattle.commit_core.specs.Sound.Reads.{IsVersion}
use Rattle.engine_pages.specs.declared.layout.Layout.{Layout}
use Rattle.engine_pages.specs.declared.view.View.{View}
use Rattle.engine_pages.specs.Records.{IsTreeRecordAt}
use Rattle.engine_pages.specs.Rule.{Shared, KeptAreRecords, StillLoaded, Shows}
use Rattle.engine_pages.specs.Views.{IsActive}
use Rattle.engine_pages.specs.Words.{lock_field}
use Rattle.engine_pages.proofs.Joint.{Laws}
use Rattle.engine_pages.proofs.Turns.{Begins, allows_at}
use Rattle.page_records.specs.Locks.{IsOpenWord}
use Rattle.page_records.specs.Reads.{read_at, loaded_at, valued}
use Rattle.page_records.proofs.AnyRecord.{Stands, any_stands, bit_free, bit_one, free_word, tree_absence}
use Rattle.page_records.proofs.Contents.{one_number, parts_same, small_word, stands_there, version_small}
use Rattle.page_records.proofs.Looks.{look_loaded, pages_same}
use Rattle.page_records.proofs.Seeing.{free_alive}
use Rattle.page_records.proofs.TreeLeaves as leaves
use Rattle.page_records.proofs.TreeTouching.{any_meet}
use Rattle.page_records.proofs.Undecided.{last_is_top, valued_number}
use Rattle.page_records.proofs.Values.{stands_left}
use Rattle.tree_records.specs.Reads.{ConfirmedTree, IsKeptThere}
use Rattle.tree_records.proofs.Seeing.{free_shows}

-- ---- what is kept

-- what is kept with a value is a version of its key
pub kept_there : (l : Layout) (s : Shared) (kept : List Part) (k : Key) (x : Spot) (c : Content)
    → KeptAreRecords l.decls l.opening s.story.history kept → Contains kept (record_part k x c) → (c.value ≡ None → ⊥)
    → IsVersion l.opening s.story.history k c
kept_there l s kept k x c records has there =
    elim (records (record_part k x c) has) [
      | inl r ↦
          let same = parts_same k r.0 x r.1 c r.2 r.3 in
          subst (λ q. IsVersion l.opening s.story.history q c) (sym same.0)
          (subst (IsVersion l.opening s.story.history r.0) (sym same.2) (elim r.4 [
            | inl lost ↦ absurd (there (ap (λ (z : Content). z.value) (same.2 ∙ lost.0)))
            | inr version ↦ version
          ]))
      | inr other ↦ elim other [
        | inl pointer ↦ absurd (no_pointer x pointer.0 pointer.2)
        | inr header ↦ absurd (no_header x header.0 header.2)
      ]
    ]
  where
    no_pointer : (x : Spot) (y : At) → Record x ≡ Pointer y → ⊥
    no_pointer x y e = absurd (cc)

    no_header : (x : Spot) (t : ℕ) → Record x ≡ Header t → ⊥
    no_header x t e = absurd (cc)

-- ---- the load of the value

module _ (l : Layout) (words : List ℕ) (views : List View) (s : Shared) (id : ℕ) (v : View)
    (b : Begins l words views s id v) (k : Key) (x : Spot) (at : ℕ) (is : IsTreeRecordAt v k x at)
    (there : IsKeptThere v k x) where
  abbrev q : Place
  q = place_of s.story.places x

  abbrev After : (Number → Bool) → Content
  After passes = content_after l.opening s.story.history s.story.decided passes k

  still_there : ((q.holder) ≡ Dead → ⊥) → (c : Content) → Contains v.seat.kept (record_part k x c)
      → (unwrap_or q.content.value 0 ≡ unwrap_or c.value 0)
      ⊎ ((a : Attempt) × Overwrites s.story.history s.story.decided k c.number a)
  still_there alive c has =
      let m = s.story in
      let r = any_stands l words views s id v b k x at (inr is) in
      let rising = b.sound.joint.commits.story.ordered_numbers.rising k in
      let version = kept_there l s v.seat.kept k x c b.fits.records has (there c has) in
      let low : IsUpTo c.number q.content.number = b.fits.kept k x c has in
      let left : IsLeftOrPut l.opening m k q.content =
      subst (λ (z : Place). IsLeftOrPut l.opening m k z.content) (stands_there s k x (r.home alive))
      (stands_left l words views s k b.sound) in
      elim left [
        | inl shown ↦ elim shown.1 [
          | inl same ↦
              elim (version_or l.opening m.history m.decided shown.0 k c rising version
              (subst (λ (z : Content). IsUpTo c.number z.number) same low)) [
                | inl e ↦ inl (ap (λ (z : Content). unwrap_or z.value 0) (same ∙ sym e))
                | inr over ↦ inr over
              ]
          | inr lost ↦
              absurd (no_blank c version (there c has) (subst (λ (z : Content). IsUpTo c.number z.number) lost.0 low))
        ]
        | inr put ↦ inr (
          put.0,
          record {
            drawn = put.1.drawn;
            counts = put.1.counts;
            writes = put.1.writes;
            above = up_then_below c.number q.content.number put.0.number low put.1.above;
          },
        )
      ]
    where
      nothing_below : (n : Number) → IsBelow n opening_number → ⊥
      nothing_below n low = absurd (omega arith)

      no_blank : (c : Content) → IsVersion l.opening s.story.history k c → (c.value ≡ None → ⊥)
          → IsUpTo c.number opening_number → ⊥
      no_blank c version there (inl same) =
          valued_number l.decls l.opening s.story.history k c b.sound.blank
          (b.sound.joint.commits.story.ordered_numbers.rising k) version there same
      no_blank c version there (inr low) = nothing_below c.number low

  pub tree_still : StillLoaded s.story.history s.story.decided s.story.places v.seat.kept
      (loaded_at k x (unwrap_or q.content.value 0))
  tree_still c has = by_holder q.holder refl
    where
      alive : (q.holder ≡ Dead → ⊥) → (unwrap_or q.content.value 0 ≡ unwrap_or c.value 0)
          ⊎ (((a : Attempt) × Overwrites s.story.history s.story.decided k c.number a) ⊎ (q.holder ≡ Dead))
      alive living = elim (still_there living c has) [
        | inl same ↦ inl same
        | inr over ↦ inr (inl over)
      ]

      held_not_dead : (p : ℕ) → Held p ≡ Dead → ⊥
      held_not_dead p e = absurd (cc)

      by_holder : (o : Holder) → q.holder ≡ o → (unwrap_or q.content.value 0 ≡ unwrap_or c.value 0)
          ⊎ (((a : Attempt) × Overwrites s.story.history s.story.decided k c.number a) ⊎ (q.holder ≡ Dead))
      by_holder Free e = alive (λ dead. absurd (free_alive q.holder e dead))
      by_holder (Held p) e = alive (λ dead. absurd (held_not_dead p (sym e ∙ dead)))
      by_holder Dead e = inr (inr e)

pub loads_tree : Laws → (l : Layout) (slots id : ℕ) (me : Me (Unit {0}) View) (k : Key) (x : Spot) (at : ℕ)
    → IsActive me.0.role → IsTreeRecordAt me.0 k x at → IsKeptThere me.0 k x
    → Allows (λ s. Shows l s.words s.views) slots id me (at + 1) (λ n. n)
    (λ n now. (now.1 ≡ me.1) × (now.0 ≡ valued k x (at + 1) n me.0))
loads_tree laws l slots id me k x at active is there =
    allows_at laws l slots id me (at + 1) (λ n. n) (λ v n w. w ≡ valued k x (at + 1) n v) active
    (λ words views s b.
    let v = me.0 in
    let n : ℕ = get_or words (at + 1) 0 in
    let r : Stands l words s v k x at = any_stands l words views s id v b k x at (inr is) in
    let w : View = valued k x (at + 1) n v in
    let now = pages_same l words views s id v active b in
    look_loaded l words views s id v active b (at + 1) (λ n. n) w (λ v n w. w ≡ valued k x (at + 1) n v) refl
    record { layout = refl; role = refl; made = refl; past = refl; parked = refl; epoch = refl; mine = refl; draws = refl; due = refl; seat = refl; checked = refl; took = refl; met = refl; heard = refl; history = refl; decided = refl }
    (subst (λ y. StillLoaded s.story.history s.story.decided s.story.places v.seat.kept (loaded_at k x y)) (sym r.value)
    (tree_still l words views s id v b k x at is there))
    b.fits.versions refl
    record { within = now.within; ways = now.ways; drafts = now.drafts; copies = now.copies; blanks = now.blanks; resident = now.resident; leads = now.leads; fills = now.fills; known = now.known; shuts = now.shuts; heads = now.heads; moved = now.moved; sealed = now.sealed; inners = now.inners; new_leaves = now.new_leaves; new_inners = now.new_inners }
    (any_meet l words views s id v b k x at (inr is) w (at + 1) (omega arith) (omega arith)
    record { role = refl; ways = refl; took = refl; gone = refl; touched = refl; blamed = refl; locks = refl } refl)
    refl)

-- ---- the second load of the record's word

pub confirms_tree : Laws → (l : Layout) (slots id : ℕ) (me : Me (Unit {0}) View) (k : Key) (x : Spot) (at : ℕ)
    → IsActive me.0.role → IsTreeRecordAt me.0 k x at
    → Allows (λ s. Shows l s.words s.views) slots id me at (λ n. n)
    (λ n now. (now.1 ≡ me.1) × ConfirmedTree k x at me.0 n now.0)
confirms_tree laws l slots id me k x at active is =
    allows_at laws l slots id me at (λ n. n) (ConfirmedTree k x at) active (λ words views s b.
    let v = me.0 in
    let m = s.story in
    let h = b.sound in
    let f = b.fits in
    let n : ℕ = get_or words at 0 in
    let r : Stands l words s v k x at = any_stands l words views s id v b k x at (inr is) in
    let q = place_of m.places x in
    let w : View = read_at at n v in
    let now = pages_same l words views s id v active b in
    let tree = leaves.no_array_is l words views s id v b k x at is in
    let one = bit_one l.decls m k q r.absent r.bit in
    look_loaded l words views s id v active b at (λ n. n) w (ConfirmedTree k x at) refl
    record { layout = refl; role = refl; made = refl; past = refl; parked = refl; epoch = refl; mine = refl; draws = refl; due = refl; seat = refl; checked = refl; took = refl; met = refl; heard = refl; history = refl; decided = refl }
    f.loaded f.versions refl
    record { within = now.within; ways = now.ways; drafts = now.drafts; copies = now.copies; blanks = now.blanks; resident = now.resident; leads = now.leads; fills = now.fills; known = now.known; shuts = now.shuts; heads = now.heads; moved = now.moved; sealed = now.sealed; inners = now.inners; new_leaves = now.new_leaves; new_inners = now.new_inners }
    (any_meet l words views s id v b k x at (inr is) w at (omega arith) (omega arith)
    record { role = refl; ways = refl; took = refl; gone = refl; touched = refl; blamed = refl; locks = refl } refl)
    record {
      is = refl;
      value = λ c value has there loaded word.
          let version = kept_there l s v.seat.kept k x c f.records has there in
          let small = version_small l.opening s k c h.small version in
          let low : n < 2 ^ 60 = let few = small_word c.number small in omega arith in
          let free : q.holder ≡ Free =
          free_word (number_word q.content.number) r.absent q.holder (small_word q.content.number r.small) one
          (subst IsOpenWord r.word (inl low)) in
          let none : lock_field q.holder ≡ 0 = ap lock_field free in
          let zero-bit : r.absent ≡ 0 = no_bit n r.absent (number_word q.content.number) (lock_field q.holder) one r.word low in
          let same : q.content.number ≡ c.number =
          one_number q.content.number c.number r.small small (let found = r.word in omega (arith, word)) in
          let value-is : absent_field tree_leaf q.content.value ≡ 0 =
          sym (bit_free l.decls m k q r.absent free r.bit ∙ tree_absence l.decls k q.content.value tree) ∙ zero-bit in
          let here : q.content.value ≡ None → ⊥ = field_there q.content.value value-is in
          let last : q.content ≡ last_write l.opening m.history m.decided k =
          by_shown m.horizon q.content (last_write l.opening m.history m.decided k) (free_shows l words views s k x h (r.home (free_alive q.holder free)) free) here in
          elim (subst (λ o. IfSome o (StillLoaded m.history m.decided m.places v.seat.kept)) loaded f.loaded c has) [
            | inl e ↦ e
            | inr later ↦ elim later [
              | inl over ↦
                  absurd (last_is_top l words views s k over.0 c.number h
                  (sym (ap (λ (z : Content). z.number) last) ∙ same) over.1)
              | inr dead ↦ absurd (free_alive q.holder free dead)
            ]
          ];
    })
  where
    no_bit : (n bit number lock : ℕ) → (bit ≡ 0) ⊎ (bit ≡ at_bit 61 1) → n ≡ (number + lock) + bit → n < 2 ^ 60 → bit ≡ 0
    no_bit n bit number lock (inl none) is low = none
    no_bit n bit number lock (inr set) is low = absurd (omega arith)

    field_there : (o : Option ℕ) → absent_field tree_leaf o ≡ 0 → o ≡ None → ⊥
    field_there None zero-bit e = absurd (omega (arith, zero-bit))
    field_there (Some i) zero-bit e = absurd (cc)

    by_shown : (horizon : Number) (c d : Content) → StandsFor horizon c d → (c.value ≡ None → ⊥) → c ≡ d
    by_shown horizon c d (inl same) there = same
    by_shown horizon c d (inr lost) there = absurd (there (ap (λ (z : Content). z.value) lost.0))
