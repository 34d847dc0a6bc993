-- What is asked of the parts of a page's words, one after another. Pages.antt says what a page is.
use Rattle.std.specs.Prelude.{◌≡◌, ℕ, ◌+◌, ◌<◌, List, ◌++◌, length, map}
use Rattle.std.specs.List.{flat_map, AllByRecursion}
use Rattle.wire_form.specs.declared.records.ArrayRecord.{ArrayRecord}
use Rattle.wire_form.specs.Bytes.{padded}
use Rattle.wire_form.specs.Items.{Rises}
use Rattle.wire_form.specs.Pages.{IsChild, IsSeparator, Children}

-- the words are so many words of which P holds, and then zeros
abbrev pub IsPaddedList : (List ℕ → Type 0) → ℕ → List ℕ → Type 0
IsPaddedList P count words = (xs : List ℕ) × (length xs ≡ count) × P xs × (words ≡ padded (length words) xs)

-- the words are so many items with keys that rise, and then zeros
abbrev pub HasItems : {X K : Type 0} → (X → Type 0) → (X → List ℕ) → (X → K) → (K → K → Type 0) → ℕ → List ℕ → Type 0
HasItems {X} {K} Is spell key R count words =
    (items : List X) × (length items ≡ count) × AllByRecursion Is items × Rises R (map key items) ×
    (words ≡ padded (length words) (flat_map spell items))

-- records of arrays have no order
abbrev pub itself : ArrayRecord → ArrayRecord
itself r = r

-- so many children, the separators between them, and zeros after each of the two lists
abbrev pub HasChildren : ℕ → ℕ → ℕ → ℕ → List ℕ → Type 0
HasChildren low high number count words =
    (c : Children) × (length c.pointers ≡ count) × (length c.separators + 1 ≡ count) × AllByRecursion
    (IsChild 1 number) c.pointers × AllByRecursion (IsSeparator low high) c.separators × Rises ◌<◌ c.separators
    × (words ≡ padded 30 c.pointers ++ padded 30 c.separators)
