-- How an engine begins: nothing is in slots, and all records are in snapshot pages.
use Rattle.std.specs.Prelude.{◌≡◌, ℕ, ◌-◌, ◌<◌, ◌≤◌, List, length, get_or, slice_get, Some, None}
use Rattle.homes.specs.declared.places.At.TheVariants.{Root}
use Rattle.homes.specs.declared.places.Span.{Span}
use Rattle.serial_model.specs.declared.decl.Decl.{Decl}
use Rattle.serial_model.specs.declared.key.Key.{Key}
use Rattle.serial_model.specs.declared.number.Number.{Number}
use Rattle.serial_model.specs.Decls.{AreDecls}
use Rattle.wire_form.specs.Words.{at_bit, number_word}
use Rattle.snapshot_store.specs.declared.place.PagePlace.{PagePlace}
use Rattle.commit_core.specs.Keys.{content_at}
use Rattle.drop_core.specs.declared.table.SnapPage.{SnapPage}
use Rattle.drop_core.specs.declared.table.Table.{Table}
use Rattle.drop_core.specs.Opening.{opening_table}
use Rattle.drop_core.specs.Sound.{span_at}
use Rattle.drop_core.specs.Table.{pointer_of}
use Rattle.engine_rule.specs.Opening.{opening_pairs, CanOpenJoint}
use Rattle.engine_rule.specs.Reading.{named_places, roots_of, snaps_of, storages}
use Rattle.engine_pages.specs.declared.layout.Layout.{Layout}
use Rattle.engine_pages.specs.Layout.{clock_at, decisions_at, mark_at, published_at, root_at, slot_at, slots_at, words_of}
use Rattle.engine_pages.specs.Pages.{root_span}
use Rattle.engine_pages.specs.Resident.{HasNames, IsStanding, ShowsResident}
use Rattle.engine_pages.specs.Rule.{StartsBlank}
use Rattle.engine_pages.specs.Words.{IsSmall, ShowsPointer}

-- what the machine of pages has of the pages at these places
abbrev pub first_snaps : Layout → List (Decl × PagePlace) → List (ℕ × SnapPage)
first_snaps l places = snaps_of l.pages places

-- and of the roots, each with the number of its page
abbrev pub first_roots : Layout → List (Decl × PagePlace) → List ℕ → List (Span × ℕ)
first_roots l places roots = roots_of places (storages l.decls roots)

-- the table with which it begins
abbrev pub first_table : Layout → List (Decl × PagePlace) → List ℕ → Table
first_table l places roots = opening_table (first_snaps l places) (length places) (first_roots l places roots) l.slots

-- the places that have names at first: those of the pages that the roots lead to
abbrev pub first_places : Layout → List (Decl × PagePlace)
first_places l = named_places l.pages (storages l.decls l.roots)

-- what stands at keys at first is what these pages have
abbrev pub IsRead : Layout → Type 0
IsRead l = l.opening
    ≡ opening_pairs (first_snaps l (first_places l)) (length (first_places l)) (first_roots l (first_places l) l.roots) l.slots

-- what is made for these storages, with the numbers of their roots' pages, so many slots, words for so many snapshot
-- pages, and these pages
abbrev pub layout_of : Number → List Decl → List ℕ → ℕ → ℕ → List (List ℕ) → Layout
layout_of first decls roots slots resident pages =
    let places : List (Decl × PagePlace) = named_places pages (storages decls roots) in record {
      first = first;
      decls = decls;
      roots = roots;
      opening = opening_pairs (snaps_of pages places) (length places) (roots_of places (storages decls roots)) slots;
      slots = slots;
      resident = resident;
      pages = pages;
    }

-- Both machines may begin over these pages, of which these places have names; and these are the first words.
pub record CanBegin (l : Layout) (places : List (Decl × PagePlace)) (roots words : List ℕ) : Type 0 where
  pub can : CanOpenJoint (first_snaps l places) (length places) (first_roots l places roots) l.first l.slots
  pub opening : l.opening ≡ opening_pairs (first_snaps l places) (length places) (first_roots l places roots) l.slots
  pub first : IsSmall l.first
  pub begun : 0 < l.first.epoch
  pub declared : AreDecls l.decls
  pub blank : StartsBlank l.decls l.opening
  pub small : (k : Key) → IsSmall (content_at l.opening k).number
  pub few : (l.slots ≤ 4096) × (length l.decls ≤ 16) × (l.resident ≤ 65536)
  pub within : length l.pages ≤ l.resident
  pub standing : (n : ℕ) (e : Decl × PagePlace) → slice_get places n ≡ Some e → IsStanding l.decls l.pages e
  pub below : (n : ℕ) (e : Decl × PagePlace) → slice_get places n ≡ Some e
      → HasNames (record { pages = l.pages; places = places }) e
  pub spans_are : (r : ℕ) → span_at (first_table l places roots) (Root r) ≡ root_span l.decls r
  pub unled : (r : ℕ) → (pointer_of (first_table l places roots) (Root r)).slot ≡ None
  -- words
  pub long : length words ≡ words_of l
  pub clock : get_or words clock_at 0 ≡ number_word l.first
  pub decisions : get_or words decisions_at 0 ≡ 0
  pub marks : (at : ℕ) → mark_at 0 ≤ at → at < mark_at 8 → get_or words at 0 ≡ at_bit 40 (l.first.epoch - 1)
  pub count : get_or words published_at 0 ≡ length l.pages
  pub unused : (at : ℕ) → root_at (length l.decls) ≤ at → at < slots_at → (at ≡ published_at → ⊥)
      → get_or words at 0 ≡ 0
  pub pointers : (r : ℕ) → r < length l.decls
      → ShowsPointer places words (root_at r) (pointer_of (first_table l places roots) (Root r))
  pub slots : (t : ℕ) → t < l.slots → get_or words (slot_at t) 0 ≡ 0
  pub resident : ShowsResident l.slots words l.pages
