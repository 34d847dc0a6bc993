-- Pages of a snapshot: what each kind has in it, and its 64 words.
use Rattle.std.specs.Prelude.{◌≡◌, ℕ, ◌+◌, ◌^◌, ◌<◌, ◌≤◌, false, List, [], ◌∷◌, ◌++◌, IfSome, IfNone, length, map}
use Rattle.std.specs.List.{flat_map, AllByRecursion}
use Rattle.serial_model.specs.declared.decl.Decl.{Decl}
use Rattle.serial_model.specs.declared.decl.Decl.TheVariants.{Array, Tree}
use Rattle.serial_model.specs.Decls.{IsDecl}
use Rattle.serial_model.specs.Keys.{id_of}
use Rattle.serial_model.specs.Numbers.{IsNumber, last_epoch}
use Rattle.wire_form.specs.declared.records.ArrayRecord.{ArrayRecord}
use Rattle.wire_form.specs.declared.records.TreeRecord.{TreeRecord}
use Rattle.wire_form.specs.declared.records.Stored.{Stored}
use Rattle.wire_form.specs.declared.page.PageKind.{PageKind}
use Rattle.wire_form.specs.declared.page.PageKind.TheVariants.{ArrayLeaf, ArrayInner, TreeLeaf, TreeInner, Catalogue}
use Rattle.wire_form.specs.declared.page.Page.{Page}
use Rattle.wire_form.specs.Leaves.{array_leaf, tree_leaf, array_fan, tree_fan}
use Rattle.wire_form.specs.Words.{number_word, number_field, header_word}
use Rattle.wire_form.specs.Bytes.{bytes_of, padded}
use Rattle.wire_form.specs.Items.{Rises}

-- a pointer on a device is the number of a page below its own, or 0
abbrev pub IsPointer : ℕ → ℕ → Type 0
IsPointer number pointer = pointer < number

-- a child's pointer, at least 1 where there has to be a child
abbrev pub IsChild : ℕ → ℕ → ℕ → Type 0
IsChild least number pointer = (least ≤ pointer) × IsPointer number pointer

-- a separator is above the low fence, and may be the high one
abbrev pub IsSeparator : ℕ → ℕ → ℕ → Type 0
IsSeparator low high separator = (low < separator) × (separator ≤ high)

-- ---- the leaf of an array

-- a record that was never written has no number, and the value 0
pub record IsArrayRecord (r : ArrayRecord) : Type 0 where
  pub number : IfSome r.number IsNumber
  pub never : IfNone r.number (r.value ≡ 0)

-- the words of an array's record
abbrev pub array_record_words : ArrayRecord → List ℕ
array_record_words r = number_field r.number ∷ r.value ∷ []

-- 1 to 32 records, as many as are used
pub record IsArrayLeaf (used : ℕ) (records : List ArrayRecord) : Type 0 where
  pub some : 1 ≤ used
  pub most : used ≤ array_leaf.room
  pub count : length records ≡ used
  pub each : AllByRecursion IsArrayRecord records

-- the words of an array's leaf
abbrev pub array_leaf_words : List ArrayRecord → List ℕ
array_leaf_words records = padded 64 (flat_map array_record_words records)

-- ---- an interior page of an array

-- 1 to 64 pointers, as many as are used
pub record IsArrayInner (used number : ℕ) (pointers : List ℕ) : Type 0 where
  pub some : 1 ≤ used
  pub most : used ≤ array_fan
  pub count : length pointers ≡ used
  pub each : AllByRecursion (IsChild 0 number) pointers

-- the words of an array's interior page
abbrev pub array_inner_words : List ℕ → List ℕ
array_inner_words pointers = padded 64 pointers

-- ---- the leaf of a tree

-- a record that is present, with its key between the fences, both of which it may be
pub record IsTreeRecord (low high : ℕ) (r : TreeRecord) : Type 0 where
  pub number : IsNumber r.number
  pub from_low : low ≤ r.key
  pub to_high : r.key ≤ high

-- the words of a tree's record
abbrev pub tree_record_words : TreeRecord → List ℕ
tree_record_words r = r.key ∷ number_word r.number ∷ r.value ∷ []

-- the key of a tree's record
abbrev pub record_key : TreeRecord → ℕ
record_key r = r.key

-- at most 16 records between the fences, with keys that rise
pub record IsTreeLeaf (low high : ℕ) (records : List TreeRecord) : Type 0 where
  pub most : length records ≤ tree_leaf.room
  pub each : AllByRecursion (IsTreeRecord low high) records
  pub rising : Rises ◌<◌ (map record_key records)

-- the header of a page that is neither locked nor moved
abbrev pub device_header : ℕ → ℕ → ℕ
device_header kind count = header_word (record { count = count; kind = kind; lock = false; moved = false })

-- the words of a tree's leaf
abbrev pub tree_leaf_words : ℕ → ℕ → List TreeRecord → List ℕ
tree_leaf_words low high records =
    padded 16 (device_header 1 (length records) ∷ low ∷ high ∷ []) ++ padded 48 (flat_map tree_record_words records)

-- ---- an interior page of a tree

-- the pointers to the children of a tree's interior page, and the separators between them
pub record Children : Type 0 where
  pub pointers : List ℕ
  pub separators : List ℕ

-- 2 to 30 children, and separators between the fences that rise
pub record IsTreeInner (low high number : ℕ) (c : Children) : Type 0 where
  pub some : 2 ≤ length c.pointers
  pub most : length c.pointers ≤ tree_fan
  pub between : length c.separators + 1 ≡ length c.pointers
  pub each : AllByRecursion (IsChild 1 number) c.pointers
  pub within : AllByRecursion (IsSeparator low high) c.separators
  pub rising : Rises ◌<◌ c.separators

-- the words of a tree's interior page
abbrev pub tree_inner_words : ℕ → ℕ → Children → List ℕ
tree_inner_words low high c =
    padded 4 (device_header 2 (length c.pointers) ∷ low ∷ high ∷ []) ++
    (padded 30 c.pointers ++ padded 30 c.separators)

-- ---- a catalogue

-- a storage, and its root's page number or 0, in the catalogue with this page number
pub record IsStored (number : ℕ) (s : Stored) : Type 0 where
  pub decl : IsDecl s.decl
  pub root : IsPointer number s.root

-- id + 256 for an array, id + 512 for a tree
abbrev pub storage_head : Decl → ℕ
storage_head (Array id size) = id + 256
storage_head (Tree id) = id + 512

-- the size of an array, or 0
abbrev pub storage_size : Decl → ℕ
storage_size (Array id size) = size
storage_size (Tree id) = 0

-- the words of a storage in a catalogue
abbrev pub stored_words : Stored → List ℕ
stored_words s = storage_head s.decl ∷ storage_size s.decl ∷ s.root ∷ []

-- the id of a storage in a catalogue
abbrev pub stored_id : Stored → ℕ
stored_id s = id_of s.decl

-- a storage of a catalogue without its root
abbrev pub stored_decl : Stored → Decl
stored_decl s = s.decl

-- what a catalogue says: its epoch, the page number of the one before it or 0, and the storages
pub record Contents : Type 0 where
  pub epoch : ℕ
  pub previous : ℕ
  pub storages : List Stored

-- at most 16 storages with ids that rise, an epoch that can be saved, and an earlier page or none
pub record IsCatalogue (number : ℕ) (c : Contents) : Type 0 where
  pub epoch : c.epoch < last_epoch
  pub previous : IsPointer number c.previous
  pub most : length c.storages ≤ 16
  pub each : AllByRecursion (IsStored number) c.storages
  pub rising : Rises ◌<◌ (map stored_id c.storages)

-- the storages that a catalogue declares
abbrev pub decls_of : Contents → List Decl
decls_of c = map stored_decl c.storages

-- the words of a catalogue
abbrev pub catalogue_words : Contents → List ℕ
catalogue_words c =
    padded 16 ((0x4341_5400_0000_0000 + length c.storages) ∷ c.epoch ∷ c.previous ∷ []) ++ padded 48
    (flat_map stored_words c.storages)

-- ---- all kinds

-- the words are those of something that a page of the kind and number may have in it
abbrev pub HasKind : PageKind → ℕ → List ℕ → Type 0
HasKind (ArrayLeaf used) number words =
    (records : List ArrayRecord) × IsArrayLeaf used records × (words ≡ array_leaf_words records)
HasKind (ArrayInner used) number words =
    (pointers : List ℕ) × IsArrayInner used number pointers × (words ≡ array_inner_words pointers)
HasKind (TreeLeaf low high) number words =
    (records : List TreeRecord) × IsTreeLeaf low high records × (words ≡ tree_leaf_words low high records)
HasKind (TreeInner low high) number words =
    (children : Children) × IsTreeInner low high number children × (words ≡ tree_inner_words low high children)
HasKind Catalogue number words =
    (contents : Contents) × IsCatalogue number contents × (words ≡ catalogue_words contents)

-- the words of a page on the device: page numbers go from 1 to 65,536, and words have 64 bits
pub record IsPage (kind : PageKind) (number : ℕ) (words : List ℕ) : Type 0 where
  pub first : 1 ≤ number
  pub last : number ≤ 65536
  pub fit : AllByRecursion (λ w. w < 2 ^ 64) words
  pub content : HasKind kind number words

-- the page that bytes spell
pub record IsPageOf (kind : PageKind) (number : ℕ) (bytes : List ℕ) (page : Page) : Type 0 where
  pub number_is : page.number ≡ number
  pub kind_is : page.kind ≡ kind
  pub content : IsPage kind number page.words
  pub spelled : bytes ≡ bytes_of page.words
