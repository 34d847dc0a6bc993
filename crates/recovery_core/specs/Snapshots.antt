-- The snapshot of an epoch: its catalogue, and what its pages have.
use Rattle.std.specs.Prelude.{◌≡◌, ℕ, List}
use Rattle.std.specs.List.{Contains}
use Rattle.serial_model.specs.State.{State}
use Rattle.wire_form.specs.Pages.{Contents}
use Rattle.wire_form.specs.declared.records.Stored.{Stored}
use Rattle.snapshot_store.specs.Content.{deepest, root_place, format_of, words_of, IsPageOf, RootStands}
use Rattle.snapshot_store.specs.Content.{CatalogueAt, SnapshotStands, IsSnapshotContent}
use Rattle.recovery_core.specs.Damage.{FirstBad, BreaksTo}
use Rattle.recovery_core.specs.declared.recovered.Recovered.{Recovered}

-- a catalogue of this epoch is one of those that were recovered, and stands on this page
abbrev pub HasMark : Recovered → ℕ → ℕ → Type 0
HasMark r epoch number = Contains r.catalogues (record { epoch = epoch; page = number })

-- and it says this
pub record IsCatalogueOf (r : Recovered) (epoch number : ℕ) (contents : Contents) : Type 0 where
  pub marked : HasMark r epoch number
  pub here : CatalogueAt (words_of r.store.pages) number contents
  pub epoch_is : contents.epoch ≡ epoch

-- A catalogue is of this epoch, it and all that its roots lead to are pages of their kinds, and the state is what they
-- have.
pub record IsSnapshotAt (r : Recovered) (epoch : ℕ) (state : State) : Type 0 where
  pub number : ℕ
  pub contents : Contents
  pub catalogue : IsCatalogueOf r epoch number contents
  pub stands : SnapshotStands (words_of r.store.pages) number contents
  pub content : IsSnapshotContent (words_of r.store.pages) number contents state

-- the first page that isn't right for its place, of what a storage's root leads to
abbrev pub RootBreaksAt : List (List ℕ) → ℕ → Stored → Type 0
RootBreaksAt pages at s =
    BreaksTo (format_of s.decl) (IsPageOf s.decl) pages at deepest (root_place s.decl s.root)

-- A catalogue is of this epoch, and the first page that isn't right, of those that its roots lead to, begins at this
-- byte: storages in order, each page before those below it, from left to right.
pub record BreaksAt (r : Recovered) (epoch at : ℕ) : Type 0 where
  pub number : ℕ
  pub contents : Contents
  pub catalogue : IsCatalogueOf r epoch number contents
  pub first : FirstBad (RootStands (words_of r.store.pages)) (RootBreaksAt (words_of r.store.pages) at)
      contents.storages
