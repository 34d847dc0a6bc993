-- What a composed snapshot is, told of its pages.
use Rattle.std.specs.Prelude.{◌≡◌, ℕ, ◌+◌, ◌<◌, ◌≤◌, IsTrue, List, [], ◌∷◌, ◌++◌, length, map}
use Rattle.std.specs.List.{AllByRecursion}
use Rattle.serial_model.specs.Keys.{IsKeyBelow}
use Rattle.serial_model.specs.Numbers.{IsNumber, last_epoch}
use Rattle.serial_model.specs.State.{State}
use Rattle.serial_model.specs.declared.decl.Decl.{Decl}
use Rattle.wire_form.specs.declared.bucket.Entry.{Entry}
use Rattle.wire_form.specs.declared.records.Stored.{Stored}
use Rattle.wire_form.specs.Items.{Rises}
use Rattle.wire_form.specs.LogFile.{has_place_for}
use Rattle.wire_form.specs.Pages.{Contents, decls_of}
use Rattle.snapshot_store.specs.Content.{deepest, record_in, IsContent, RootStands, SnapshotStands}
use Rattle.log_reducer.specs.Reduced.{entry_key}
use Rattle.log_reducer.specs.Overlay.{overlay}
use Rattle.root_composer.specs.Composed.{numbered}
use Rattle.root_composer.specs.Storages.{AreComposed, newer_of, compose_storages}

-- an entry of one of the storages, with a commit number of an epoch up to this one
pub record IsEntryOf (decls : List Decl) (epoch : ℕ) (e : Entry) : Type 0 where
  pub place : IsTrue (has_place_for decls e.key e.value)
  pub number : IsNumber e.number
  pub epoch_is : e.number.epoch ≤ epoch

-- a snapshot stands, and the run has entries of its storages, one a key at most, up to a later epoch
pub record CanCompose (pages : List (List ℕ)) (number : ℕ) (contents : Contents) (run : List Entry) (epoch : ℕ) : Type 0 where
  pub stands : SnapshotStands pages number contents
  pub entries : AllByRecursion (IsEntryOf (decls_of contents) epoch) run
  pub rising : Rises IsKeyBelow (map entry_key run)
  pub later : contents.epoch < epoch
  pub last : epoch < last_epoch

-- the contents of the new catalogue
abbrev pub next_contents : ℕ → ℕ → List Stored → Contents
next_contents epoch number storages = record { epoch = epoch; previous = number; storages = storages }

-- The pages that were made, behind the old ones: the new storages follow the old ones, and lead to just the made pages
-- but the last, which is the catalogue. Its content is the old one's under the run.
pub record IsComposed (run : List Entry) (epoch number : ℕ) (contents : Contents) (pages made : List (List ℕ)) : Type 0 where
  pub storages : List Stored
  pub each : AreComposed run pages (pages ++ made) deepest contents.storages storages
  pub order : newer_of (pages ++ made) (length pages) deepest storages ++ (length pages + length made) ∷ [] ≡ numbered (length pages + 1) made
  pub stands : SnapshotStands (pages ++ made) (length pages + length made) (next_contents epoch number storages)
  pub content : (state : State) → IsContent (record_in pages) contents.storages state → IsContent (record_in (pages ++ made)) storages (overlay state run)

-- How many pages come of a run, the catalogue with them. Which answer is given hangs on this number and the next.
abbrev pub new_count : List Entry → Contents → List (List ℕ) → ℕ
new_count run contents pages = length (compose_storages run pages contents.storages (length pages)).pages + 1

-- how many of the pages stand one below another at most
abbrev pub level_count : List Entry → Contents → List (List ℕ) → ℕ
level_count run contents pages = (compose_storages run pages contents.storages (length pages)).levels

-- The pages that would be made, but for the catalogue, are those of a composed snapshot in all but this: some root
-- leads to more pages one below another than may stand there.
pub record IsTooDeep (run : List Entry) (contents : Contents) (pages made : List (List ℕ)) : Type 0 where
  pub storages : List Stored
  pub depth : ℕ
  pub each : AreComposed run pages (pages ++ made) depth contents.storages storages
  pub order : newer_of (pages ++ made) (length pages) depth storages ≡ numbered (length pages + 1) made
  pub deep : AllByRecursion (RootStands (pages ++ made)) storages → ⊥
  pub levels : deepest < level_count run contents pages

-- so many pages would be made, and none of them would stand too deep
abbrev pub WouldCompose : List Entry → ℕ → ℕ → Contents → List (List ℕ) → ℕ → Type 0
WouldCompose run epoch number contents pages new =
    (new ≡ new_count run contents pages) × (level_count run contents pages ≤ deepest) × ((made : List (List ℕ)) × IsComposed run epoch number contents pages made × (length made ≡ new))
