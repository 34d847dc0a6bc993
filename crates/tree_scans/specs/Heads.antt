-- The header of a leaf is kept: it vouches that the leaf has no other keys.
use Rattle.std.specs.Prelude.{◌≡◌, ◌≢◌, ℕ, ◌+◌, ◌≤◌, List, length, Some, Contains, Result, IfErr, OnOk, ⊤}
use Rattle.serial_model.specs.declared.key.Key.{Key}
use Rattle.wire_form.specs.Leaves.{tree_leaf}
use Rattle.commit_core.specs.Parts.{with_part}
use Rattle.tx_sets.specs.declared.seen.Seen.{Seen}
use Rattle.engine_pages.specs.declared.view.RefusalCause.{RefusalCause}
use Rattle.engine_pages.specs.declared.view.RefusalCause.TheVariants as causes
use Rattle.engine_pages.specs.declared.view.View.{View}
use Rattle.engine_pages.specs.Layout.{page_at}
use Rattle.engine_pages.specs.Steps.{kept_at, seen_at}
use Rattle.tree_heads.specs.Headers.{open_word}
use Rattle.tree_heads.specs.Keeps.{head_part}
use Rattle.tree_walks.specs.declared.ways.Leaf.{Leaf}
use Rattle.tree_walks.specs.Finding.{RefusesFind}
use Rattle.tree_walks.specs.Walks.{CanWalk, HasWalked, KeepsMet, OnlyTrees, OnlyWaysOn}
use Rattle.tree_walks.specs.Ways.{IsLeafAt}

-- where it is a conflict, it is at this word
abbrev pub IsAtWord : ℕ → RefusalCause → Type 0
IsAtWord at (causes.Conflict word expected seen) = word ≡ at
IsAtWord at (causes.Full held) = ⊤
IsAtWord at (causes.Wide set) = ⊤
IsAtWord at (causes.NumberLimit clock) = ⊤

-- The header of the leaf is kept as a part with this word, which stands here and counts these keys; nothing else is
-- kept newly. It was last seen with this word.
pub record IsHeadKept (x : Leaf) (keys : List Key) (v w : View) : Type 0 where
  pub knows : Contains w.known (record { slot = x.slot; keys = keys })
  pub few : length keys ≤ tree_leaf.room
  pub is : x.header ≡ open_word (length keys)
  pub kept : w.seat.kept ≡ with_part v.seat.kept (head_part x.slot x.span keys)
  pub word_kept : kept_at w.reads (page_at w.layout.slots x.slot 0) ≡ Some x.header
  pub words : (a : ℕ) → a ≢ page_at w.layout.slots x.slot 0 → kept_at w.reads a ≡ kept_at v.reads a
  pub met : seen_at w.reads (page_at w.layout.slots x.slot 0) ≡ Some x.header

-- The header of a leaf was kept, which counts just the keys that are known of it, by one load; or why not.
pub record KeepsHead
    (k : Key) (x : Leaf) (pointers headers : List Seen) (slots : List ℕ) (r : Result (Unit {0}) RefusalCause)
    (v w : View)
    : Type 0 where
  pub can : CanWalk slots w
  pub walked : HasWalked v w
  pub most : w.steps ≤ v.steps + 1
  pub only : OnOk r (OnlyTrees v w)
  pub keeps : OnOk r (KeepsMet pointers headers v w)
  pub paths : OnlyWaysOn k v w
  pub grip : w.grip ≡ v.grip
  pub head : OnOk r ((m : IsLeafAt k x v) → IsHeadKept x m.keys v w)
  pub cause : IfErr r (λ why. RefusesFind k pointers headers slots why v w)
  pub place : IfErr r (IsAtWord (page_at v.layout.slots x.slot 0))
