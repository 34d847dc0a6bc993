-- How the pages of an array are read. A page stands for a range of indexes: a leaf for 32 of them, an
-- interior page for 64 equal parts.
use Rattle.std.specs.Prelude.{◌≡◌, ◌⊎◌, ◌≤◌, ℕ, ◌+◌, ◌-◌, ◌*◌, ◌/◌, ◌<◌, ◌==◌, List, [], ◌∷◌, Option, Some, None}
use Rattle.std.specs.Prelude.{nat_le, drop, min, slice_index, zero, suc, if◌then◌else◌}
use Rattle.std.specs.Int.{div_ceil}
use Rattle.wire_form.specs.declared.page.PageKind.{PageKind}
use Rattle.wire_form.specs.declared.page.PageKind.TheVariants.{ArrayLeaf, ArrayInner}
use Rattle.wire_form.specs.Leaves.{array_leaf, array_fan, word_in, value_in}
use Rattle.wire_form.specs.Pages.{HasKind}
use Rattle.snapshot_store.specs.declared.place.PagePlace.{PagePlace}
use Rattle.snapshot_store.specs.Places.{Found, Format}

-- how many pointers a page has room for; not computed in goals
unfoldable pub fan : ℕ
fan = array_fan

-- how many records a leaf has room for; not computed in goals
unfoldable pub leaf_room : ℕ
leaf_room = array_leaf.room

-- how many indexes a range has
abbrev pub span_of : ℕ → ℕ → ℕ
span_of low high = high + 1 - low

-- so many places in a row, each for so many indexes, with the words as their pages' numbers
abbrev pub row : List ℕ → ℕ → ℕ → ℕ → List PagePlace
row words span low zero = []
row words span low (suc n) =
    record { number = slice_index words 0; low = low; high = low + (span - 1) } ∷ row (drop 1 words) span (low + span) n

-- a page is a leaf where its range is no more than a leaf has room for
abbrev pub array_below : List ℕ → ℕ → ℕ → List PagePlace
array_below words low high =
    if nat_le (span_of low high) leaf_room then [] else row words (span_of low high / fan) low fan

-- a record that was never written has the number 0, and isn't in the content
abbrev pub array_found : ℕ → ℕ → Option Found
array_found number value = if number == 0 then None else Some (record { number = number; value = value })

-- the record of an index is told by two words
abbrev pub array_look : List ℕ → ℕ → ℕ → Option Found
array_look words low key =
    array_found (slice_index words (word_in array_leaf (key - low)))
    (slice_index words (value_in array_leaf (key - low) 0))

-- how the pages of arrays are read
abbrev pub array_format : Format
array_format = record { below = array_below; look = array_look }

-- how many parts of so many indexes a page needs, of an array that goes on so far behind its begin
abbrev pub parts_of : ℕ → ℕ → ℕ
parts_of rest span = div_ceil rest span

-- the kind of the page that stands for a range of an array of this size: as many records or children as the size needs
-- there
abbrev pub array_kind : ℕ → ℕ → ℕ → PageKind
array_kind size low high =
    if nat_le (span_of low high) leaf_room then ArrayLeaf (min leaf_room (size - low))
    else ArrayInner (min fan (parts_of (size - low) (span_of low high / fan)))

-- how many indexes a page has so many levels above the leaves
abbrev pub indexes_at : ℕ → ℕ
indexes_at zero = array_leaf.room
indexes_at (suc height) = array_fan * indexes_at height

-- the last of the indexes of such a page, counted from its first
abbrev pub last_at : ℕ → ℕ
last_at height = indexes_at height - 1

-- the range of an array's leaf, or of an interior page of either height, with so many pages down to go
abbrev pub IsLevel : ℕ → ℕ → ℕ → Type 0
IsLevel d low high =
    ((1 ≤ d) × (high ≡ low + last_at 0)) ⊎ (((2 ≤ d) × (high ≡ low + last_at 1)) ⊎ ((3 ≤ d) × (high ≡ low + last_at 2)))

-- no page where there is no number, else the array's page for the range
pub record IsArrayPage (size : ℕ) (p : PagePlace) (words : List ℕ) : Type 0 where
  pub none : p.number ≡ 0 → words ≡ []
  pub page : 0 < p.number → HasKind (array_kind size p.low p.high) p.number words
