-- What the machines read in the pages of a snapshot as they begin. A page is named by its number and the place for
-- which it stands, so that one page may stand for more than one: it then has a name for each. Names are counted from 1,
-- those of the pages below a page before its own.
use Rattle.std.specs.Prelude.{◌≡◌, ℕ, zero, suc, ◌+◌, ◌-◌, ◌/◌, ◌^◌, ◌<◌, ◌≤◌, ◌==◌, ◌&&◌, Bool, List, [], ◌∷◌, ◌++◌}
use Rattle.std.specs.Prelude.{Option, Some, None, map, length, slice_index, nat_le, if◌then◌else◌, ⊤}
use Rattle.std.specs.List.{flat_map, AllByRecursion}
use Rattle.serial_model.specs.declared.key.Key.{Key}
use Rattle.serial_model.specs.declared.number.Number.{Number}
use Rattle.serial_model.specs.declared.decl.Decl.{Decl}
use Rattle.serial_model.specs.declared.decl.Decl.TheVariants.{Array, Tree}
use Rattle.serial_model.specs.Decls.{AreDecls}
use Rattle.serial_model.specs.Keys.{id_of}
use Rattle.serial_model.specs.Numbers.{IsNumber, IsBelow}
use Rattle.homes.specs.declared.places.Content.{Content}
use Rattle.homes.specs.declared.places.Span.{Span}
use Rattle.drop_core.specs.declared.table.SnapPage.{SnapPage}
use Rattle.drop_core.specs.declared.table.SnapPage.TheVariants.{Missing, Entries, Children}
use Rattle.wire_form.specs.Leaves.{array_leaf, tree_fan, word_in, value_in}
use Rattle.wire_form.specs.Words.{number_in}
use Rattle.wire_form.specs.declared.page.Page.{Page}
use Rattle.wire_form.specs.declared.records.Stored.{Stored}
use Rattle.snapshot_store.specs.declared.place.PagePlace.{PagePlace}
use Rattle.snapshot_store.specs.Places.{Found, page, words_at, places_below}
use Rattle.snapshot_store.specs.ArrayPages.{array_found}
use Rattle.snapshot_store.specs.TreePages.{Record, count_of, node_of, records_of}
use Rattle.snapshot_store.specs.Content.{words_of, deepest, root_place, format_of, RootStands}
use Rattle.engine_rule.specs.JointState.{JointState}
use Rattle.engine_rule.specs.Opening.{opening_joint}

-- the keys of a place, in the storage with this id
abbrev pub span_of : ℕ → PagePlace → Span
span_of id p = record { storage = id; low = p.low; high = p.high }

-- both ends of a place's range are small
abbrev pub IsBounded : PagePlace → Type 0
IsBounded p = (p.low < 2 ^ 32) × (p.high < 2 ^ 32)

-- they are so in an array
abbrev pub IsBoundedIn : Decl → PagePlace → Type 0
IsBoundedIn (Array id size) p = IsBounded p
IsBoundedIn (Tree id) p = ⊤

-- ---- what is below a page

-- the places below a page with these words, at a place of a storage
abbrev pub below_in : Decl → List ℕ → PagePlace → List PagePlace
below_in decl words p = (format_of decl).below words p.low p.high

-- How many children a tree's page names, none where it is a leaf: each but the last has a separator, of which a page
-- has no more than room for.
abbrev pub child_count : List ℕ → ℕ
child_count words =
    if slice_index words 0 / 256 == 2 then
    (if nat_le (count_of words) (tree_fan + 1) then count_of words else tree_fan + 1)
    else 0

-- how many records a tree's page has, none where it isn't a leaf
abbrev pub record_count : List ℕ → ℕ
record_count words = if slice_index words 0 / 256 == 2 then 0 else count_of words

-- ---- which pages there are

-- the number of a page that is there, or 0
abbrev pub page_in : ℕ → ℕ → ℕ
page_in count number = if nat_le number count then number else 0

-- The places with pages that a place of a storage leads to, on ways of so many pages at most: those of the places below
-- it, from left to right, and then its own.
abbrev pub led_places : Decl → List (List ℕ) → ℕ → PagePlace → List (Decl × PagePlace)
led_places decl pages zero p = []
led_places decl pages (suc d) p =
    if page_in (length pages) p.number == 0 then [] else
    flat_map (led_places decl pages d) (places_below (format_of decl) pages p) ++ (decl, p) ∷ []

-- the storages with these roots, page numbers or 0
abbrev pub storages : List Decl → List ℕ → List Stored
storages [] roots = []
storages (d ∷ decls) [] = []
storages (d ∷ decls) (r ∷ roots) = record { decl = d; root = r } ∷ storages decls roots

-- those of all roots, in the order of their names
abbrev pub named_places : List (List ℕ) → List Stored → List (Decl × PagePlace)
named_places pages storages =
    flat_map (λ s. led_places s.decl pages deepest (root_place s.decl s.root)) storages

-- there is a page at the place, whose range has small ends in an array
abbrev pub IsThere : ℕ → Decl × PagePlace → Type 0
IsThere count e = (1 ≤ (e.1).number) × ((e.1).number ≤ count) × IsBoundedIn e.0 e.1

-- ---- their names

-- it is the same place, with the same page
abbrev pub is_same : PagePlace → PagePlace → Bool
is_same p q = (q.number == p.number) && ((q.low == p.low) && (q.high == p.high))

-- so it is, in the same storage
abbrev pub is_place : Decl → PagePlace → Decl × PagePlace → Bool
is_place decl p e = (id_of e.0 == id_of decl) && is_same p e.1

-- the name of a place with its page, where the first of these has that name; 0 where it is none of them
abbrev pub name_from : ℕ → List (Decl × PagePlace) → Decl → PagePlace → ℕ
name_from name [] decl p = 0
name_from name (e ∷ more) decl p = if is_place decl p e then name else name_from (suc name) more decl p

-- the name of the page at a place, or 0 where there is none
abbrev pub name_of : List (Decl × PagePlace) → Decl → PagePlace → ℕ
name_of places decl p = if p.number == 0 then 0 else name_from 1 places decl p

-- ---- what they are

-- the entry of a key with this record
abbrev pub entry_for : Key → Found → Key × Content
entry_for k f = (k, record { number = number_in f.number; value = Some f.value })

-- the entry of a key with this record, if there is one
abbrev pub entry_of : Key → Option Found → List (Key × Content)
entry_of k None = []
entry_of k (Some f) = entry_for k f ∷ []

-- the key with this index behind the first one of a leaf
abbrev pub key_at : ℕ → ℕ → ℕ → Key
key_at id low i = record { storage = id; key = low + i }

-- the entries of an array's leaf, of its first indexes, so many
abbrev pub array_entries : ℕ → ℕ → List ℕ → ℕ → List (Key × Content)
array_entries id low words zero = []
array_entries id low words (suc i) =
    array_entries id low words i
    ++ entry_of (key_at id low i)
    (array_found (slice_index words (word_in array_leaf i)) (slice_index words (value_in array_leaf i 0)))

-- the entries of a tree's leaf with these records
abbrev pub tree_entries : ℕ → List Record → List (Key × Content)
tree_entries id records = map (λ r. entry_for (record { storage = id; key = r.key }) r.found) records

-- the entries of a leaf: of each index of its range, or of each record
abbrev pub leaf_entries : Decl → List ℕ → PagePlace → List (Key × Content)
leaf_entries (Array id size) words p = array_entries id p.low words (p.high + 1 - p.low)
leaf_entries (Tree id) words p = tree_entries id (records_of (node_of words))

-- the children at these places, by their names
abbrev pub children_at : List (Decl × PagePlace) → Decl → List PagePlace → List (Span × ℕ)
children_at places decl below = map (λ q. (span_of (id_of decl) q, name_of places decl q)) below

-- a page with nothing below it is a leaf
abbrev pub page_from : List (Decl × PagePlace) → Decl → List ℕ → PagePlace → List PagePlace → SnapPage
page_from places decl words p [] = Entries (span_of (id_of decl) p) (leaf_entries decl words p)
page_from places decl words p (q ∷ below) =
    Children (span_of (id_of decl) p) (children_at places decl (q ∷ below))

-- the page at a place of a storage, where these places have names
abbrev pub page_at : List (List ℕ) → List (Decl × PagePlace) → Decl × PagePlace → SnapPage
page_at pages places e =
    page_from places e.0 (words_at pages e.1) e.1 (places_below (format_of e.0) pages e.1)

-- the pages at these places, by their names, from this one on
abbrev pub snaps_from : ℕ → (Decl × PagePlace → SnapPage) → List (Decl × PagePlace) → List (ℕ × SnapPage)
snaps_from name page [] = []
snaps_from name page (e ∷ more) = (name, page e) ∷ snaps_from (suc name) page more

-- all pages that the roots lead to
abbrev pub snaps_of : List (List ℕ) → List (Decl × PagePlace) → List (ℕ × SnapPage)
snaps_of pages places = snaps_from 1 (page_at pages places) places

-- the roots, each over the keys of its storage
abbrev pub roots_of : List (Decl × PagePlace) → List Stored → List (Span × ℕ)
roots_of places storages =
    map (λ s. (span_of (id_of s.decl) (root_place s.decl s.root), name_of places s.decl (root_place s.decl s.root)))
    storages

-- ---- how a database begins

-- each entry's number is below this one
abbrev pub AreBelow : Number → SnapPage → Type 0
AreBelow first Missing = ⊤
AreBelow first (Entries span entries) = AllByRecursion (λ e. IsBelow (e.1).number first) entries
AreBelow first (Children span children) = ⊤

-- The record's number is below this one at each of these places.
abbrev pub RecordsAreBelow : Number → List (List ℕ) → List (Decl × PagePlace) → Type 0
RecordsAreBelow first pages places = AllByRecursion (λ e. AreBelow first (page_at pages places e)) places

-- A database may begin with these pages: there is a root for each declared storage, and it and all that it leads to are
-- pages for their ranges; and each record's number is below the first one.
pub record IsOpening (pages : List Page) (decls : List Decl) (roots : List ℕ) (first : Number) : Type 0 where
  pub few : length pages ≤ 65536
  pub declared : AreDecls decls
  pub each : length roots ≡ length decls
  pub stand : AllByRecursion (RootStands (words_of pages)) (storages decls roots)
  pub number : IsNumber first
  pub below : RecordsAreBelow first (words_of pages) (named_places (words_of pages) (storages decls roots))

-- how both machines begin over these pages, with so many slots and seats
abbrev pub begun : List Page → List Decl → List ℕ → Number → ℕ → ℕ → JointState
begun pages decls roots first slots passes =
    opening_joint
    (snaps_of (words_of pages) (named_places (words_of pages) (storages decls roots)))
    (length (named_places (words_of pages) (storages decls roots)))
    (roots_of (named_places (words_of pages) (storages decls roots)) (storages decls roots))
    first slots passes
