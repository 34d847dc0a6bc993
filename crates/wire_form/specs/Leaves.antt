-- How many records and pointers a page has room for, and where they lie in its words: by the kind of a storage, and by how
-- many words its values have.
use Rattle.std.specs.Prelude.{ℕ, zero, suc, ◌+◌, ◌-◌, ◌*◌, ◌/◌}

-- The records of a leaf begin behind so many words. Each has its key first, where keys stand there (then keys is 1; it is
-- 0 where the place tells the key), and then the word of its number and so many words of its value. A leaf has room for so
-- many records.
pub record LeafForm : Type 0 where
  pub first : ℕ
  pub keys : ℕ
  pub width : ℕ
  pub room : ℕ

-- a leaf of an array, where values have so many words
abbrev pub array_form : ℕ → LeafForm
array_form width = record { first = 0; keys = 0; width = width; room = 64 / (1 + width) }

-- a leaf of a tree, where values have so many words: the header and the fences stand before the records
abbrev pub tree_form : ℕ → LeafForm
tree_form width = record { first = 16; keys = 1; width = width; room = 48 / (2 + width) }

-- the leaves of arrays whose values have one word
abbrev pub array_leaf : LeafForm
array_leaf = array_form 1

-- the leaves of trees whose values have one word
abbrev pub tree_leaf : LeafForm
tree_leaf = tree_form 1

-- ---- where the words stand

-- how many words a record has
abbrev pub stride : LeafForm → ℕ
stride f = f.keys + (1 + f.width)

-- so many words further on
abbrev pub further : ℕ → ℕ → ℕ
further zero at = at
further (suc n) at = suc n + at

-- where a record begins
abbrev pub record_start : LeafForm → ℕ → ℕ
record_start f i = further f.first (stride f * i)

-- where the word of its number stands
abbrev pub word_in : LeafForm → ℕ → ℕ
word_in f i = further f.keys (record_start f i)

-- where a word of its value stands
abbrev pub value_in : LeafForm → ℕ → ℕ → ℕ
value_in f i j = word_in f i + (1 + j)

-- ---- a full leaf with one record more

-- how many of its records stay below
abbrev pub minor : LeafForm → ℕ
minor f = (f.room + 1) / 2

-- and how many go above: as many, or one more
abbrev pub major : LeafForm → ℕ
major f = f.room + 1 - minor f

-- ---- interior pages

-- how many pointers an array's page has room for
abbrev pub array_fan : ℕ
array_fan = 64

-- and a tree's page
abbrev pub tree_fan : ℕ
tree_fan = 30
