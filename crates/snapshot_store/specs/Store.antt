-- The pages of all snapshots as their users see them, and how they lie on their device.
use Rattle.std.specs.Prelude.{◌≡◌, ℕ, ◌+◌, ◌-◌, ◌≤◌, Bool, true, false, List, [], ◌∷◌, Option, Some, is_some, length, ⊤}
use Rattle.std.specs.List.{flat_map, AllByRecursion}
use Rattle.lists.specs.Fronts.{IsFront}
use Rattle.wire_form.specs.declared.page.Page.{Page}
use Rattle.wire_form.specs.declared.page.PageKind.TheVariants.{Catalogue}
use Rattle.wire_form.specs.Bytes.{bytes_of}
use Rattle.outside.specs.Disk.{IfTold, Torn, Same, Goes, LeavesEach, Only, Runs, written}
use Rattle.outside.specs.Fronts.{AllBegin}

-- a store as its users see it
pub record StoreState : Type 0 where
  -- page n is the n-th of them, from 1 on
  pub pages : List Page
  -- no call answered that the device failed
  pub sound : Bool

-- a page's bytes on the device
abbrev pub bytes_of_page : Page → List ℕ
bytes_of_page p = bytes_of p.words

-- the bytes of pages, one after another
abbrev pub bytes_of_pages : List Page → List ℕ
bytes_of_pages pages = flat_map bytes_of_page pages

-- their numbers follow one another, from this one on
abbrev pub NumberedFrom : ℕ → List Page → Type 0
NumberedFrom first [] = ⊤
NumberedFrom first (p ∷ ps) = (p.number ≡ first) × NumberedFrom (first + 1) ps

-- a page has 512 bytes
abbrev pub IsWhole : Page → Type 0
IsWhole p = length (bytes_of_page p) ≡ 512

-- the pages of a store: numbered from 1 on, whole, and no more than there are page numbers
pub record AreStored (pages : List Page) : Type 0 where
  pub numbered : NumberedFrom 1 pages
  pub whole : AllByRecursion IsWhole pages
  pub few : length pages ≤ 65536

-- the device begins with the pages, where it tells its bytes
abbrev pub HoldsPages : {D : Type 0} → (tells : D → Option (List ℕ)) → D → List Page → Type 0
HoldsPages tells disk pages = IfTold (tells disk) (IsFront (bytes_of_pages pages))

-- Bytes were written at a place, in one call of the device, or the write failed, or was not begun.
pub record WritesAt {D : Type 0} (tells : D → Option (List ℕ)) (clock : D → ℕ) (image_at : D → ℕ → List ℕ → Type 0)
    (faults : D → ℕ) (at : ℕ) (bytes : List ℕ) (old new : D) (done : Bool) : Type 0 where
  pub written : done ≡ true → IfTold (tells old) (λ file. tells new ≡ Some (written at bytes file))
  pub torn : done ≡ false → IfTold (tells old) (λ file. IfTold (tells new) (Torn at (length bytes) file))
  pub told : is_some (tells new) ≡ is_some (tells old)
  pub moments : Goes clock image_at (Torn at (length bytes)) old new
  pub each : LeavesEach clock image_at (Torn at (length bytes)) old new (clock new)
  pub later : faults old ≤ faults new
  pub quiet : done ≡ true → faults new ≡ faults old

-- so many pages of a device as they stand there: what kind of page each is, the place that names it says
pub record AreRead (count : ℕ) (pages : List Page) : Type 0 where
  pub count_is : length pages ≡ count
  pub kinds : AllByRecursion (λ p. p.kind ≡ Catalogue) pages

-- A sync was done: a stop then leaves what reads give. Or it failed, and settled nothing.
pub record Syncs {D : Type 0} (tells : D → Option (List ℕ)) (clock : D → ℕ) (image_at : D → ℕ → List ℕ → Type 0)
    (faults : D → ℕ) (old new : D) (done : Bool) : Type 0 where
  pub told : tells new ≡ tells old
  pub durable : done ≡ true → IfTold (tells old) (Only clock image_at new)
  pub unsettled : done ≡ false → LeavesEach clock image_at Same old new (clock new)
  pub moments : Goes clock image_at Same old new
  pub each : LeavesEach clock image_at Same old new (clock new - 1)
  pub later : faults old ≤ faults new
  pub quiet : done ≡ true → faults new ≡ faults old

-- whatever bytes all images began with, up to so many, each image since then begins with
abbrev pub KeepsFront : {D : Type 0} → (clock : D → ℕ) → (image_at : D → ℕ → List ℕ → Type 0) → ℕ → D → D → Type 0
KeepsFront clock image_at size old new =
    (front : List ℕ) → length front ≤ size → AllBegin (image_at old (clock old)) front
    → Runs clock image_at old new (IsFront front)
