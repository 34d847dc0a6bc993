-- What loads of snapshot pages tell.
use Rattle.std.specs.Prelude.{◌≡◌, ℕ, get_or}
use Rattle.atomic_table.specs.Table.{Step}
use Rattle.snapshot_store.specs.Places.{page as page_words}
use Rattle.engine_pages.specs.declared.view.View.{View}
use Rattle.engine_pages.specs.Layout.{snap_at}
use Rattle.engine_pages.specs.Steps.{glanced}

-- the word is the one that the pass knows of a published page
abbrev pub HasLoaded : ℕ → ℕ → View → ℕ → View → Type 0
HasLoaded page i v n w =
    (w ≡ glanced (snap_at v.layout.slots page i) n v) × (n ≡ get_or (page_words v.pages page) i 0)

-- the same of the step
abbrev pub LoadsResident : ℕ → ℕ → Step (Unit {0}) → View → ℕ → View → Type 0
LoadsResident page i s v n w = HasLoaded page i v n w
