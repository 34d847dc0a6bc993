-- Snapshot pages as words: what the table has of them, and what the machine of pages makes of them. A page is named by
-- its number and the keys for which it stands; a pointer's word has the number, the machine's pointer the name.
use Rattle.std.specs.Prelude.{◌≡◌, ℕ, suc, ◌/◌, ◌^◌, ◌<◌, ◌≤◌, List, length, get_or, Option, None}
use Rattle.std.specs.Prelude.{Some, Contains, slice_get}
use Rattle.lists.specs.Fronts.{IsFront}
use Rattle.serial_model.specs.declared.decl.Decl.{Decl}
use Rattle.serial_model.specs.Keys.{id_of}
use Rattle.serial_model.specs.Numbers.{last_epoch}
use Rattle.homes.specs.declared.places.Content.{Content}
use Rattle.homes.specs.declared.places.Span.{Span}
use Rattle.commit_core.specs.Keys.{nothing}
use Rattle.drop_core.specs.declared.table.SnapPage.TheVariants.{Missing}
use Rattle.drop_core.specs.declared.table.Table.{Table}
use Rattle.drop_core.specs.Table.{snap_of}
use Rattle.snapshot_store.specs.declared.place.PagePlace.{PagePlace}
use Rattle.snapshot_store.specs.Content.{deepest, format_of, IsPageOf}
use Rattle.snapshot_store.specs.ArrayPages.{array_found}
use Rattle.snapshot_store.specs.Places.{page, places_below, Found, StandsTo}
use Rattle.snapshot_store.specs.TreePages.{tree_format}
use Rattle.wire_form.specs.Leaves.{array_leaf, word_in, value_in}
use Rattle.wire_form.specs.Words.{number_in}
use Rattle.engine_rule.specs.Reading.{name_of, page_at as page_named}
use Rattle.engine_pages.specs.Layout.{snap_at}

-- the words of the pages that are published, by their numbers, and the places that have names, in the order of these
pub record Published : Type 0 where
  pub pages : List (List ℕ)
  pub places : List (Decl × PagePlace)

-- ---- words

-- the words of the table are those of these pages
abbrev pub ShowsResident : ℕ → List ℕ → List (List ℕ) → Type 0
ShowsResident slots words pages = (n i : ℕ) → 0 < n → n ≤ length pages → i < 64
    → get_or words (snap_at slots n i) 0 ≡ get_or (page pages n) i 0

-- ---- names

-- the keys of a span, where the page with this number stands for them
abbrev pub place_for : Span → ℕ → PagePlace
place_for sp number = record { number = number; low = sp.low; high = sp.high }

-- the places below the page of a tree with this number, where it stands for these keys
abbrev pub tree_below : List (List ℕ) → Span → ℕ → List PagePlace
tree_below pages sp number = places_below tree_format pages (place_for sp number)

-- A pointer over these keys that has this number in its word leads to the page of this name; to none where it is 0.
pub record IsNamed (places : List (Decl × PagePlace)) (sp : Span) (number name : ℕ) : Type 0 where
  pub decl : Decl
  pub storage : id_of decl ≡ sp.storage
  pub is : name ≡ name_of places decl (place_for sp number)
  pub there : 0 < number → 0 < name

-- ---- what the machine makes of them

-- the place is one of a declared storage, and its page is there and stands with all that it leads to
pub record IsStanding (decls : List Decl) (pages : List (List ℕ)) (e : Decl × PagePlace) : Type 0 where
  pub declared : Contains decls e.0
  pub there : 0 < (e.1).number
  pub depth : ℕ
  pub most : depth ≤ deepest
  pub stands : StandsTo (format_of e.0) (IsPageOf e.0) pages depth e.1

-- each page below the one at a place has a name
abbrev pub HasNames : Published → Decl × PagePlace → Type 0
HasNames r e = (q : PagePlace) → Contains (places_below (format_of e.0) r.pages e.1) q → 0 < q.number
    → 0 < name_of r.places e.0 q

-- The machine has the page of each name as its words say at the place with the name, and publishes no other page; what
-- is below such a page has names, too.
pub record ArePages (decls : List Decl) (r : Published) (d : Table) : Type 0 where
  pub count : d.published ≡ length r.places
  pub none : snap_of d 0 ≡ Missing
  pub says : (n : ℕ) (e : Decl × PagePlace) → slice_get r.places n ≡ Some e
      → snap_of d (suc n) ≡ page_named r.pages r.places e
  pub stand : (n : ℕ) (e : Decl × PagePlace) → slice_get r.places n ≡ Some e → IsStanding decls r.pages e
  pub below : (n : ℕ) (e : Decl × PagePlace) → slice_get r.places n ≡ Some e → HasNames r e

-- more pages are published, and more places have names
pub record HasMore (old new : Published) : Type 0 where
  pub pages : IsFront old.pages new.pages
  pub places : IsFront old.places new.places

-- ---- records of an array's leaf

-- what a record that was found stands for; none stands for nothing
abbrev pub found_content : Option Found → Content
found_content None = nothing
found_content (Some f) = record { number = number_in f.number; value = Some f.value }

-- the word of the record with this index in an array's leaf with these words
abbrev pub array_word : List ℕ → ℕ → ℕ
array_word words i = get_or words (word_in array_leaf i) 0

-- and its value
abbrev pub array_value : List ℕ → ℕ → ℕ
array_value words i = get_or words (value_in array_leaf i 0) 0

-- what the record stands for, as snapshot pages are read
abbrev pub array_record : List ℕ → ℕ → Content
array_record words i = found_content (array_found (array_word words i) (array_value words i))

-- Each record's word has a number, and where it is 0 so is the value.
pub record AreRecords (words : List ℕ) : Type 0 where
  pub epochs : (i : ℕ) → i < array_leaf.room → array_word words i / 2 ^ 40 ≤ last_epoch
  pub blank : (i : ℕ) → i < array_leaf.room → array_word words i ≡ 0 → array_value words i ≡ 0
