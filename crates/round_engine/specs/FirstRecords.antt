-- What the pages of a snapshot have at keys, and what an engine over them is made from.
use Rattle.std.specs.Prelude.{◌≡◌, ℕ, List, [], ◌∷◌, cond, length, map}
use Rattle.serial_model.specs.Keys.{has_key_of}
use Rattle.serial_model.specs.declared.decl.Decl.{Decl}
use Rattle.serial_model.specs.declared.key.Key.{Key}
use Rattle.serial_model.specs.declared.number.Number.{Number}
use Rattle.homes.specs.declared.places.Content.{Content}
use Rattle.wire_form.specs.Pages.{Contents}
use Rattle.wire_form.specs.declared.page.Page.{Page}
use Rattle.wire_form.specs.declared.records.Stored.{Stored}
use Rattle.snapshot_store.specs.Content.{CatalogueAt, record_in, words_of}
use Rattle.commit_core.specs.Keys.{nothing}
use Rattle.engine_pages.specs.declared.layout.Layout.{Layout}
use Rattle.engine_pages.specs.Beginning.{layout_of}
use Rattle.engine_pages.specs.Resident.{found_content}

-- the record that the pages have at a key of a storage; at any other key nothing stands
abbrev pub stands_in : List (List ℕ) → List Stored → Key → Content
stands_in pages [] k = nothing
stands_in pages (s ∷ more) k =
    cond (has_key_of k s.decl) (found_content (record_in pages s k.key)) (stands_in pages more k)

-- the number of the page of a storage's root, or 0
abbrev pub root_in : Stored → ℕ
root_in s = s.root

-- an engine over all these pages, for storages with these roots, which gives this number first, has so many slots, and
-- has room for so many pages
abbrev pub first_layout : Number → List Decl → List Stored → ℕ → ℕ → List Page → Layout
first_layout first decls storages slots room pages =
    layout_of first decls (map root_in storages) slots room (words_of pages)

-- What an engine begins with that is made of all pages of a store: the storages are those of the catalogue on the last
-- page.
pub record IsOfNewest (first : Number) (decls : List Decl) (slots room : ℕ) (pages : List Page) (start : Layout)
    : Type 0 where
  pub storages : List Stored
  pub are : (contents : Contents) → CatalogueAt (words_of pages) (length pages) contents → storages ≡ contents.storages
  pub start_is : start ≡ first_layout first decls storages slots room pages
