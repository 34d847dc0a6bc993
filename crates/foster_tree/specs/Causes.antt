-- Why a leaf of a tree doesn't grow.
use Rattle.std.specs.Prelude.{◌≡◌, ◌≢◌, ◌⊎◌, ℕ, ◌/◌, ◌%◌, ◌^◌, ◌≤◌, Some}
use Rattle.engine_pages.specs.declared.view.View.{View}
use Rattle.page_records.specs.Ends.{IsLeafWordAt}
use Rattle.array_pages.specs.Walks.{SawLast}

-- The word is that of the header of a leaf that the pass knows, or of a record in it. The last load or compare_exchange
-- is one of this call, and the step before it there saw or left the expected word; it saw the word locked, or another
-- one.
pub record IsLeafWordChanged (t i at expected seen : ℕ) (v w : View) : Type 0 where
  pub place : IsLeafWordAt w t i at
  pub saw : SawLast at seen (Some expected) v w
  pub cause : ((seen / 2 ^ 60) % 2 ≡ 1) ⊎ (seen ≢ expected)
