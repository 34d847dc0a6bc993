-- What an engine is made from, and its words at first.
use Rattle.std.specs.Prelude.{◌≡◌, ℕ, ◌+◌, ◌-◌, ◌*◌, ◌<◌, ◌≤◌, List, [], length, get_or, slice_index_or}
use Rattle.wire_form.specs.declared.page.Page.{Page}
use Rattle.wire_form.specs.Words.{at_bit, number_word}
use Rattle.snapshot_store.specs.Content.{words_of as words_of_pages}
use Rattle.engine_rule.specs.Reading.{IsOpening}
use Rattle.engine_pages.specs.declared.layout.Layout.{Layout}
use Rattle.engine_pages.specs.Layout.{clock_at, decisions_at, mark_at, published_at, root_at, slot_at, slots_at, words_of}
use Rattle.engine_pages.specs.Resident.{ShowsResident}

-- The roots of the storages, and all that they lead to, are pages of a snapshot with numbers below the first one; there
-- are as many slots and words for pages as a table can have, and words for each of these pages.
pub record CanMake (l : Layout) : Type 0 where
  pub pages : List Page
  pub are : l.pages ≡ words_of_pages pages
  pub opens : IsOpening pages l.decls l.roots l.first
  pub some : 0 < l.slots
  pub slots : l.slots ≤ 4096
  pub resident : l.resident ≤ 65536
  pub within : length l.pages ≤ l.resident

-- The words of an engine at first: each worker is done with the epoch before the first one, each root leads to its
-- page, and the pages stand behind the slots, which are unused.
pub record AreFirst (l : Layout) (words : List ℕ) : Type 0 where
  pub long : length words ≡ words_of l
  pub clock : get_or words clock_at 0 ≡ number_word l.first
  pub decisions : get_or words decisions_at 0 ≡ 0
  pub marks : (at : ℕ) → mark_at 0 ≤ at → at < mark_at 8 → get_or words at 0 ≡ at_bit 40 (l.first.epoch - 1)
  pub roots : (r : ℕ) → r < length l.roots → get_or words (root_at r) 0 ≡ get_or l.roots r 0
  pub count : get_or words published_at 0 ≡ length l.pages
  pub unused : (at : ℕ) → root_at (length l.roots) ≤ at → at < slots_at → (at ≡ published_at → ⊥)
      → get_or words at 0 ≡ 0
  pub slots : (t : ℕ) → t < l.slots → get_or words (slot_at t) 0 ≡ 0
  pub resident : ShowsResident l.slots words l.pages

-- the words from the first mark to this one are the mark, and all others are as they were
pub record AreMarked (old new : List ℕ) (mark at : ℕ) : Type 0 where
  pub long : length new ≡ length old
  pub low : (j : ℕ) → j < mark_at 0 → get_or new j 0 ≡ get_or old j 0
  pub marks : (j : ℕ) → mark_at 0 ≤ j → j < at → get_or new j 0 ≡ mark
  pub high : (j : ℕ) → at ≤ j → get_or new j 0 ≡ get_or old j 0

-- so many roots have their numbers, and all other words are as they were
pub record AreRooted (old new roots : List ℕ) (count : ℕ) : Type 0 where
  pub long : length new ≡ length old
  pub low : (j : ℕ) → j < root_at 0 → get_or new j 0 ≡ get_or old j 0
  pub roots_are : (r : ℕ) → r < count → get_or new (root_at r) 0 ≡ get_or roots r 0
  pub high : (j : ℕ) → root_at count ≤ j → get_or new j 0 ≡ get_or old j 0

-- so many words from this place on are those of the page, and all others are as they were
pub record ArePut (old new : List ℕ) (at : ℕ) (page : List ℕ) (count : ℕ) : Type 0 where
  pub long : length new ≡ length old
  pub low : (j : ℕ) → j < at → get_or new j 0 ≡ get_or old j 0
  pub here : (i : ℕ) → i < count → get_or new (at + i) 0 ≡ get_or page i 0
  pub high : (j : ℕ) → at + count ≤ j → get_or new j 0 ≡ get_or old j 0

-- so many pages stand from this place on, one after another, and all words before them are as they were
pub record ArePaged (old new : List ℕ) (at : ℕ) (pages : List Page) (count : ℕ) : Type 0 where
  pub long : length new ≡ length old
  pub low : (j : ℕ) → j < at → get_or new j 0 ≡ get_or old j 0
  pub here : (n i : ℕ) → n < count → i < 64
      → get_or new ((at + 64 * n) + i) 0 ≡ get_or (slice_index_or (words_of_pages pages) n []) i 0
