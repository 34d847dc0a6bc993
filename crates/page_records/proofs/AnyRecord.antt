-- What a pass knows of a record, of an array or of a tree, in a page that it holds; and what a store at one of its words
-- leaves.
use Rattle.std.proofs.Common.{◌≡◌, ◌⊎◌, inl, inr, ℕ, ◌+◌, ◌*◌, ◌<◌, ◌≤◌, ◌^◌, Bool, true, false, true≢false, List, get_or}
use Rattle.std.proofs.Common.{cond, refl, sym, ap, ◌∙◌, subst, arith, Option, Some, None}
use Rattle.std.specs.Prelude.{unwrap_or}
use Rattle.serial_model.specs.declared.decl.Decl.{Decl}
use Rattle.serial_model.specs.declared.key.Key.{Key}
use Rattle.homes.specs.declared.places.Holder.{Holder}
use Rattle.homes.specs.declared.places.Holder.TheVariants.{Free, Held, Dead}
use Rattle.homes.specs.declared.places.Home.TheVariants.{InSlot}
use Rattle.homes.specs.declared.places.Spot.{Spot}
use Rattle.wire_form.specs.Leaves.{tree_leaf}
use Rattle.wire_form.specs.Words.{absent_field, at_bit, number_word}
use Rattle.commit_core.specs.declared.place.Place.{Place}
use Rattle.commit_core.specs.declared.story.Story.{Story}
use Rattle.commit_core.specs.Keys.{opening_number}
use Rattle.commit_core.specs.Places.{place_of, placed, home_of}
use Rattle.drop_core.specs.Table.{has_slot}
use Rattle.engine_pages.specs.declared.layout.Layout.{Layout}
use Rattle.engine_pages.specs.declared.view.View.{View}
use Rattle.engine_pages.specs.Layout.{page_at, words_of}
use Rattle.engine_pages.specs.Pages.{is_array}
use Rattle.engine_pages.specs.Records.{IsAnyRecordAt, IsRecordAt, IsTreeRecordAt}
use Rattle.engine_pages.specs.Rule.{Shared, IsBitAt, absence}
use Rattle.engine_pages.specs.Stays.{IsKnown}
use Rattle.engine_pages.specs.Words.{IsOverwritten, IsSmall, ShowsKeyed, ShowsRecord, ShowsWords, lock_field}
use Rattle.engine_pages.proofs.Turns.{Begins}
use Rattle.page_records.specs.Locks.{IsOpenWord, array_absence}
use Rattle.page_records.proofs.Commits.{OneLeaf}
use Rattle.page_records.proofs.Leaves as arrays
use Rattle.page_records.proofs.Placing.{Replaced, Restored, replaced_leaf, replaced_shows}
use Rattle.page_records.proofs.TreeLeaves as trees
use Rattle.page_records.proofs.TreePlacing.{tree_bit, tree_leaf_kept, tree_shows}

-- ---- bits of absence

-- the bit of absence of a tree's record
pub tree_absence : (decls : List Decl) (k : Key) (value : Option ℕ) → is_array decls k.storage ≡ false
    → absence decls k value ≡ absent_field tree_leaf value
tree_absence decls k value tree = ap (λ (c : Bool). cond c 0 (absent_field tree_leaf value)) tree

-- such a bit is 0, or is set
pub absence_one : (decls : List Decl) (k : Key) (o : Option ℕ)
    → (absence decls k o ≡ 0) ⊎ (absence decls k o ≡ at_bit 61 1)
absence_one decls k o = by_kind (is_array decls k.storage) o
  where
    by_kind : (c : Bool) (o : Option ℕ)
        → (cond c 0 (absent_field tree_leaf o) ≡ 0) ⊎ (cond c 0 (absent_field tree_leaf o) ≡ at_bit 61 1)
    by_kind true o = inl refl
    by_kind false None = inr refl
    by_kind false (Some n) = inl refl

-- and so is one that was found
pub bit_one : (decls : List Decl) (m : Story) (k : Key) (q : Place) (bit : ℕ) → IsBitAt decls m k q bit
    → (bit ≡ 0) ⊎ (bit ≡ at_bit 61 1)
bit_one decls m k q bit (inl is) = elim (absence_one decls k q.content.value) [
  | inl none ↦ inl (is ∙ none)
  | inr set ↦ inr (is ∙ set)
]
bit_one decls m k q bit (inr old) = (old.1).one

-- where nobody holds the record it is that of its value
pub bit_free : (decls : List Decl) (m : Story) (k : Key) (q : Place) (bit : ℕ) → q.holder ≡ Free → IsBitAt decls m k q bit
    → bit ≡ absence decls k q.content.value
bit_free decls m k q bit free (inl is) = is
bit_free decls m k q bit free (inr old) = absurd ((old.1).held free)

-- where no lock stands in the word nobody holds the record
pub free_word : (n bit : ℕ) (h : Holder) → n < 2 ^ 60 → (bit ≡ 0) ⊎ (bit ≡ at_bit 61 1)
    → IsOpenWord ((n + lock_field h) + bit) → h ≡ Free
free_word n bit Free few one open-word = refl
free_word n bit (Held p) few (inl none) (inl low) = absurd (omega arith)
free_word n bit (Held p) few (inl none) (inr high) = absurd (let from = high.0 in omega arith)
free_word n bit (Held p) few (inr set) (inl low) = absurd (omega arith)
free_word n bit (Held p) few (inr set) (inr high) = absurd (let to = high.1 in omega arith)
free_word n bit Dead few (inl none) (inl low) = absurd (omega arith)
free_word n bit Dead few (inl none) (inr high) = absurd (let from = high.0 in omega arith)
free_word n bit Dead few (inr set) (inl low) = absurd (omega arith)
free_word n bit Dead few (inr set) (inr high) = absurd (let to = high.1 in omega arith)

-- ---- a record

-- both words are words of the table
pub any_below : (v : View) (k : Key) (x : Spot) (at : ℕ) → IsAnyRecordAt v k x at → at + 1 < words_of v.layout
any_below v k x at (inl is) = arrays.word_below v k x at is
any_below v k x at (inr is) = trees.word_below v k x at is

-- Its words are those of a page that the pass holds, and show what stands at its place; where that isn't dead it is the
-- key's home.
pub record Stands (l : Layout) (words : List ℕ) (s : Shared) (v : View) (k : Key) (x : Spot) (at : ℕ) : Type 0 where
  pub behind : 32 + l.slots ≤ at
  pub within : at + 1 < words_of l
  pub held : has_slot v.grip.holds x.slot ≡ true
  pub known : IsKnown s.table x.slot
  pub absent : ℕ
  pub word : get_or words at 0
      ≡ (number_word (place_of s.story.places x).content.number + lock_field (place_of s.story.places x).holder) + absent
  pub bit : IsBitAt l.decls s.story k (place_of s.story.places x) absent
  pub value : get_or words (at + 1) 0 ≡ unwrap_or (place_of s.story.places x).content.value 0
  pub never : is_array l.decls k.storage ≡ true → (place_of s.story.places x).content.value ≡ None
      → (place_of s.story.places x).content.number ≡ opening_number
  pub small : IsSmall (place_of s.story.places x).content.number
  pub home : ((place_of s.story.places x).holder ≡ Dead → ⊥) → home_of s.story.homes k ≡ InSlot x

module _ (l : Layout) (words : List ℕ) (views : List View) (s : Shared) (id : ℕ) (v : View)
    (b : Begins l words views s id v) (k : Key) (x : Spot) (at : ℕ) where
  array_stands : IsRecordAt v k x at → Stands l words s v k x at
  array_stands is =
      let shows : ShowsRecord words at (place_of s.story.places x) = arrays.shown l words views s id v b k x at is in
      let word = arrays.word_is l words views s id v b k x at is in
      let array = arrays.array_is l words views s id v b k x at is in
      let none = array_absence l.decls k (place_of s.story.places x).content.value array in record {
        behind = let place = word.word in omega arith;
        within = subst (λ (y : Layout). at + 1 < words_of y) b.own.layout (arrays.word_below v k x at is);
        held = arrays.held l words views s id v b k x at is;
        known = arrays.known l words views s id v b k x at is;
        absent = 0;
        word = let found = shows.word in omega arith;
        bit = inl (sym none);
        value = shows.value;
        never = λ _ gone. shows.never gone;
        small = shows.small;
        home = arrays.home l words views s id v b k x at is;
      }

  tree_stands : IsTreeRecordAt v k x at → Stands l words s v k x at
  tree_stands is =
      let shows : ShowsKeyed words (page_at l.slots x.slot (16 + 3 * x.index)) (IsOverwritten s.story) k
      (place_of s.story.places x) = trees.keyed l words views s id v b k x at is in
      let place = trees.word_is l words views s id v b k x at is in
      let none = trees.no_array_is l words views s id v b k x at is in
      let one : at ≡ page_at l.slots x.slot (16 + 3 * x.index) + 1 = omega arith in
      let two : at + 1 ≡ page_at l.slots x.slot (16 + 3 * x.index) + 2 = omega arith in record {
        behind = omega arith;
        within = subst (λ (y : Layout). at + 1 < words_of y) b.own.layout (trees.word_below v k x at is);
        held = trees.held l words views s id v b k x at is;
        known = trees.known l words views s id v b k x at is;
        absent = shows.absent;
        word = ap (λ i. get_or words i 0) one ∙ shows.word;
        bit = tree_bit l.decls s.story k (place_of s.story.places x) shows.absent none shows.bit;
        value = ap (λ i. get_or words i 0) two ∙ shows.value;
        never = λ array gone. absurd (true≢false (sym array ∙ none));
        small = shows.small;
        home = trees.home l words views s id v b k x at is;
      }

  pub any_stands : IsAnyRecordAt v k x at → Stands l words s v k x at
  any_stands (inl is) = array_stands is
  any_stands (inr is) = tree_stands is

  -- ---- a store at one of its words

  module _ (words' : List ℕ) (q : Place) (c : Restored l words words' s.story k x at q) where
    array_replaced : IsRecordAt v k x at → Replaced l words words' s.story x at q
    array_replaced is =
        let array = arrays.array_is l words views s id v b k x at is in record {
          word = arrays.word_is l words views s id v b k x at is;
          alive = c.alive;
          long = c.long;
          others = c.others;
          shows = record {
            word = c.word ∙ no_bit array c.bit;
            value = c.value;
            never = c.never array;
            small = c.small;
          };
        }
      where
        no_bit : is_array l.decls k.storage ≡ true → IsBitAt l.decls s.story k q c.absent
            → (number_word q.content.number + lock_field q.holder) + c.absent
            ≡ number_word q.content.number + lock_field q.holder
        no_bit array (inl is) = let none = array_absence l.decls k q.content.value array in omega arith
        no_bit array (inr old) = absurd (true≢false (sym array ∙ old.0))

    pub any_shows : IsAnyRecordAt v k x at
        → ShowsWords l words' (record s.story { places = placed s.story.places x q }) s.table s.trees s.resident
    any_shows (inl is) =
        replaced_shows l words words' s.story s.table s.trees s.resident x at q
        (arrays.leaf_keys l words views s id v b k x at is) b.sound.few.1
        (arrays.page_is l words views s id v b k x at is) (arrays.tree_is l words views s id v b k x at is) b.sound.shown
        (array_replaced is)
    any_shows (inr is) = tree_shows l words views s id v b k x at is words' q c b.sound.few.1

    pub any_leaf : IsAnyRecordAt v k x at
        → OneLeaf l words words' s (record s.story { places = placed s.story.places x q }) x.slot
    any_leaf (inl is) =
        replaced_leaf l words words' s x at q (arrays.leaf_keys l words views s id v b k x at is)
        (arrays.known l words views s id v b k x at is) (arrays.header_is l words views s id v b k x at is)
        (arrays.page_is l words views s id v b k x at is) (array_replaced is)
    any_leaf (inr is) = tree_leaf_kept l words views s id v b k x at is words' q c
