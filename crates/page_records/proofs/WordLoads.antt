-- A record's word is loaded, of which nothing is kept.
use Rattle.std.proofs.Common.{◌≡◌, ◌⊎◌, inl, inr, ℕ, ◌+◌, ◌/◌, ◌%◌, ◌<◌, ◌^◌, List, get_or, true, true≢false}
use Rattle.std.proofs.Common.{refl, sym, ap, ◌∙◌, arith}
use Rattle.std.specs.List.{Contains}
use Rattle.atomic_table.specs.Table.{Me, Allows}
use Rattle.serial_model.specs.declared.decl.Decl.{Decl}
use Rattle.serial_model.specs.declared.key.Key.{Key}
use Rattle.homes.specs.declared.places.Holder.{Holder}
use Rattle.homes.specs.declared.places.Holder.TheVariants.{Free, Held, Dead}
use Rattle.homes.specs.declared.places.Spot.{Spot}
use Rattle.wire_form.specs.Words.{at_bit, number_word}
use Rattle.commit_core.specs.declared.place.Place.{Place}
use Rattle.commit_core.specs.declared.story.Story.{Story}
use Rattle.commit_core.specs.Places.{place_of}
use Rattle.drop_core.specs.declared.table.Page.TheVariants.{Leaf, Split}
use Rattle.drop_core.specs.Table.{page_of}
use Rattle.engine_pages.specs.declared.layout.Layout.{Layout}
use Rattle.engine_pages.specs.declared.view.Moved.{Moved}
use Rattle.engine_pages.specs.declared.view.View.{View}
use Rattle.engine_pages.specs.Records.{IsAnyRecordAt}
use Rattle.engine_pages.specs.Pages.{is_array}
use Rattle.engine_pages.specs.Rule.{Shared, Shows, IsBitAt}
use Rattle.engine_pages.specs.Views.{IsActive}
use Rattle.engine_pages.specs.Words.{lock_field}
use Rattle.engine_pages.proofs.Joint.{Laws}
use Rattle.engine_pages.proofs.Looks.{look_stride}
use Rattle.engine_pages.proofs.Turns.{Begins, allows_at}
use Rattle.page_records.specs.Locks.{array_absence}
use Rattle.page_records.specs.Reads.{read_at, LoadedWord}
use Rattle.page_records.proofs.AnyRecord.{any_stands, bit_one}
use Rattle.page_records.proofs.Contents.{small_word}
use Rattle.page_records.proofs.Leaves as arrays
use Rattle.page_records.proofs.Looks.{pages_same}
use Rattle.page_records.proofs.TreeLeaves as trees
use Rattle.page_records.proofs.TreeTouching.{any_meet}

-- a number, a lock and a bit of absence leave the highest bits alone
few_bits : (n bit : ℕ) (h : Holder) → n < 2 ^ 60 → (bit ≡ 0) ⊎ (bit ≡ at_bit 61 1) → (n + lock_field h) + bit < 2 ^ 62
few_bits n bit Free few (inl none) = omega arith
few_bits n bit Free few (inr set) = omega arith
few_bits n bit (Held p) few (inl none) = omega arith
few_bits n bit (Held p) few (inr set) = omega arith
few_bits n bit Dead few (inl none) = omega arith
few_bits n bit Dead few (inr set) = omega arith

-- of an array's record there is none of absence
few_plain : (n bit : ℕ) (h : Holder) → n < 2 ^ 60 → bit ≡ 0 → (n + lock_field h) + bit < 2 ^ 61
few_plain n bit Free few none = omega arith
few_plain n bit (Held p) few none = omega arith
few_plain n bit Dead few none = omega arith

plain_bit : (decls : List Decl) (s : Story) (k : Key) (q : Place) (bit : ℕ) → is_array decls k.storage ≡ true
    → IsBitAt decls s k q bit → bit ≡ 0
plain_bit decls s k q bit array (inl is) = is ∙ array_absence decls k q.content.value array
plain_bit decls s k q bit array (inr old) = absurd (true≢false (sym array ∙ old.0))

-- behind them stands the number
low_bits : (n bit : ℕ) (h : Holder) → n < 2 ^ 60 → (bit ≡ 0) ⊎ (bit ≡ at_bit 61 1)
    → ((n + lock_field h) + bit) % 2 ^ 60 ≡ n
low_bits n bit Free few (inl none) = omega arith
low_bits n bit Free few (inr set) = omega arith
low_bits n bit (Held p) few (inl none) = omega arith
low_bits n bit (Held p) few (inr set) = omega arith
low_bits n bit Dead few (inl none) = omega arith
low_bits n bit Dead few (inr set) = omega arith

-- and a dead record's word is locked
dead_bit : (n bit : ℕ) (h : Holder) → h ≡ Dead → n < 2 ^ 60 → (bit ≡ 0) ⊎ (bit ≡ at_bit 61 1)
    → (((n + lock_field h) + bit) / 2 ^ 60) % 2 ≡ 1
dead_bit n bit Free dead few one = cc
dead_bit n bit (Held p) dead few one = cc
dead_bit n bit Dead dead few (inl none) = omega arith
dead_bit n bit Dead dead few (inr set) = omega arith

-- the records of a leaf that was split are dead
split_dead : (l : Layout) (words : List ℕ) (views : List View) (s : Shared) (id : ℕ) (v : View)
    → Begins l words views s id v → (k : Key) (x : Spot) (at : ℕ) → IsAnyRecordAt v k x at
    → (y : Moved) → Contains v.moved y → y.slot ≡ x.slot → (place_of s.story.places x).holder ≡ Dead
split_dead l words views s id v b k x at is y has same = by_kind is
  where
    split : page_of s.table x.slot ≡ Split
    split = ap (page_of s.table) (sym same) ∙ (b.pages.treed.moved y has).split

    no_leaf : (keys : List Key) → page_of s.table x.slot ≡ Leaf keys → ⊥
    no_leaf keys leaf = let both : Leaf keys ≡ Split = sym leaf ∙ split in absurd (cc)

    not_free : Free ≡ Dead → ⊥
    not_free e = absurd (cc)

    not_held : (p : ℕ) → Held p ≡ Dead → ⊥
    not_held p e = absurd (cc)

    by_kind : IsAnyRecordAt v k x at → (place_of s.story.places x).holder ≡ Dead
    by_kind (inl array) =
        absurd (no_leaf (arrays.leaf_keys l words views s id v b k x at array) (arrays.page_is l words views s id v b k x at array))
    by_kind (inr tree) = by_holder (place_of s.story.places x).holder refl
      where
        by_holder : (h : Holder) → (place_of s.story.places x).holder ≡ h → (place_of s.story.places x).holder ≡ Dead
        by_holder Free e =
            absurd (no_leaf (trees.fence l words views s id v b k x at tree).keys
            (trees.page_is l words views s id v b k x at tree (λ d. not_free (sym e ∙ d))))
        by_holder (Held p) e =
            absurd (no_leaf (trees.fence l words views s id v b k x at tree).keys
            (trees.page_is l words views s id v b k x at tree (λ d. not_held p (sym e ∙ d))))
        by_holder Dead e = e

pub loads_word : Laws → (l : Layout) (slots id : ℕ) (me : Me (Unit {0}) View) (k : Key) (x : Spot) (at : ℕ)
    → IsActive me.0.role → IsAnyRecordAt me.0 k x at
    → Allows (λ s. Shows l s.words s.views) slots id me at (λ n. n) (λ n now. (now.1 ≡ me.1) × LoadedWord x.slot at me.0 n now.0)
loads_word laws l slots id me k x at active is =
    allows_at laws l slots id me at (λ n. n) (LoadedWord x.slot at) active (λ words views s b.
    let v = me.0 in
    let n : ℕ = get_or words at 0 in
    let r = any_stands l words views s id v b k x at is in
    let q = place_of s.story.places x in
    let w : View = read_at at n v in
    let now = pages_same l words views s id v active b in
    let low = small_word q.content.number r.small in
    let one = bit_one l.decls s.story k q r.absent r.bit in
    let few = few_bits (number_word q.content.number) r.absent q.holder low one in
    look_stride l words views s id v active b at (λ n. n) w (LoadedWord x.slot at) refl
    record { layout = refl; role = refl; made = refl; past = refl; parked = refl; epoch = refl; mine = refl; draws = refl; due = refl; seat = refl; checked = refl; took = refl; loaded = refl; met = refl; heard = refl; history = refl; decided = refl; versions = refl }
    refl
    record { within = now.within; ways = now.ways; drafts = now.drafts; copies = now.copies; blanks = now.blanks; resident = now.resident; leads = now.leads; fills = now.fills; known = now.known; shuts = now.shuts; heads = now.heads; moved = now.moved; sealed = now.sealed; inners = now.inners; new_leaves = now.new_leaves; new_inners = now.new_inners }
    (any_meet l words views s id v b k x at is w at (omega arith) (omega arith)
    record { role = refl; ways = refl; took = refl; gone = refl; touched = refl; blamed = refl; locks = refl } refl)
    record {
      is = refl;
      few = let word = r.word in omega arith;
      array = λ k' x' a.
          let r' = any_stands l words views s id v b k' x' at (inl a) in
          let q' = place_of s.story.places x' in
          let word = r'.word in
          let less = few_plain (number_word q'.content.number) r'.absent q'.holder
          (small_word q'.content.number r'.small)
          (plain_bit l.decls s.story k' q' r'.absent (arrays.array_is l words views s id v b k' x' at a) r'.bit) in
          omega (arith, word, less);
      number = q.content.number;
      small = r.small;
      says = ap (λ z. z % 2 ^ 60) r.word ∙ low_bits (number_word q.content.number) r.absent q.holder low one;
      dead = λ y has same.
          ap (λ z. (z / 2 ^ 60) % 2) r.word
          ∙ dead_bit (number_word q.content.number) r.absent q.holder
          (split_dead l words views s id v b k x at is y has same) low one;
    })
