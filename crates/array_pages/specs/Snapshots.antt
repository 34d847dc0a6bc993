-- Snapshot pages that are looked at.
use Rattle.std.specs.Prelude.{ℕ, zero, suc, ◌+◌, ◌<◌, ◌≤◌, List, length}
use Rattle.snapshot_store.specs.ArrayPages.{array_format, last_at, IsArrayPage}
use Rattle.snapshot_store.specs.Places.{StandsTo}
use Rattle.engine_pages.specs.declared.view.View.{View}
use Rattle.engine_pages.specs.Views.{IsActive}

-- the pass has a seat, and each published page that it knows has words in the table
pub record CanLook (v : View) : Type 0 where
  pub active : IsActive v.role
  pub room : length v.pages ≤ v.layout.resident
  pub most : length v.pages ≤ 65536

-- as many pages down as a page so many levels above the leaves has below it, and d more
abbrev pub deep : ℕ → ℕ → ℕ
deep zero d = suc d
deep (suc height) d = suc (deep height d)

-- The page with this number, if it is one, stands with all below it for the keys of a page so many levels above the
-- leaves, from this one on.
abbrev pub StandsAbove : List (List ℕ) → ℕ → ℕ → ℕ → Type 0
StandsAbove pages height number low = 0 < number → (d : ℕ) × (size : ℕ)
    × StandsTo array_format (IsArrayPage size) pages (deep height d)
    (record { number = number; low = low; high = low + last_at height })
