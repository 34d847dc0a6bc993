-- The pages of the newest snapshot: what its catalogue's roots lead to, with no number above its epoch.
use Rattle.std.specs.Prelude.{◌≡◌, ℕ, ◌/◌, ◌^◌, ◌≤◌, List, [], IfSome}
use Rattle.serial_model.specs.declared.decl.Decl.{Decl}
use Rattle.wire_form.specs.declared.records.Stored.{Stored}
use Rattle.snapshot_store.specs.declared.place.PagePlace.{PagePlace}
use Rattle.snapshot_store.specs.Places.{Format, StandsTo}
use Rattle.snapshot_store.specs.Content.{deepest, root_place, format_of, IsPageOf}

-- the epoch that a record's number has in its word
abbrev pub epoch_in : ℕ → ℕ
epoch_in word = word / 2 ^ 40

-- a page is a leaf where nothing is below it
abbrev pub IsLeaf : Format → PagePlace → List ℕ → Type 0
IsLeaf F p words = F.below words p.low p.high ≡ []

-- A page of the storage for its place; where it is a leaf, no record of its keys has a later epoch than this.
pub record IsPageUpTo (epoch : ℕ) (d : Decl) (p : PagePlace) (words : List ℕ) : Type 0 where
  pub page : IsPageOf d p words
  pub numbers : IsLeaf (format_of d) p words → (key : ℕ) → p.low ≤ key → key ≤ p.high
      → IfSome ((format_of d).look words p.low key) (λ found. epoch_in found.number ≤ epoch)

-- a storage's root, and all that it leads to, are such pages, at most 32 one below another
abbrev pub RootStandsUpTo : ℕ → List (List ℕ) → Stored → Type 0
RootStandsUpTo epoch pages s =
    StandsTo (format_of s.decl) (IsPageUpTo epoch s.decl) pages deepest (root_place s.decl s.root)
