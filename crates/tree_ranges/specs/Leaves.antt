-- What is known of a leaf whose header is kept.
use Rattle.std.specs.Prelude.{◌≡◌, ℕ, ◌≤◌, false, List, None, Contains}
use Rattle.serial_model.specs.declared.key.Key.{Key}
use Rattle.homes.specs.Homes.{has_key}
use Rattle.commit_core.specs.declared.part.Part.{Part}
use Rattle.serial_bridge.specs.Transaction.{Vouched}
use Rattle.tx_sets.specs.declared.seen.Seen.{Seen}
use Rattle.engine_pages.specs.declared.view.View.{View}
use Rattle.engine_pages.specs.Layout.{page_at}
use Rattle.tree_walks.specs.declared.ways.Leaf.{Leaf}
use Rattle.tree_walks.specs.Ways.{IsLeafAt}
use Rattle.tree_scans.specs.Rows.{key_in}

-- each of the storage's keys from this one to that one that isn't among these is vouched for, to have no value
abbrev pub VouchesRest : ℕ → ℕ → ℕ → List Key → List Part → Type 0
VouchesRest storage from to keys parts = (n : ℕ) → from ≤ n → n ≤ to → has_key keys (key_in storage n) ≡ false
    → Vouched parts (key_in storage n) None

-- The slot has a leaf on the way to the key, of which these keys are known; of its other ones up to the last one each
-- is vouched for, to have no value. Its header is kept, with this word.
pub record IsLeafTaken (k : Key) (x : Leaf) (last : ℕ) (headers : List Seen) (v : View) : Type 0 where
  pub leaf : IsLeafAt k x v
  pub kept : Contains headers (record { at = page_at v.layout.slots x.slot 0; word = x.header })
  pub rest : VouchesRest k.storage k.key last leaf.keys v.seat.kept
