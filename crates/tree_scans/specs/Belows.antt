-- What is read below a pointer that leads to no slot.
use Rattle.std.specs.Prelude.{◌≡◌, ℕ, ◌+◌, ◌≤◌, List, length, Contains, Result, IfOk, IfErr, OnOk}
use Rattle.serial_model.specs.declared.key.Key.{Key}
use Rattle.homes.specs.declared.places.Content.{Content}
use Rattle.serial_bridge.specs.Transaction.{Vouched}
use Rattle.tx_sets.specs.declared.seen.Seen.{Seen}
use Rattle.engine_pages.specs.declared.view.RefusalCause.{RefusalCause}
use Rattle.engine_pages.specs.declared.view.View.{View}
use Rattle.tree_walks.specs.declared.ways.Bare.{Bare}
use Rattle.tree_walks.specs.Finding.{IsFoundBelow, RefusesFind}
use Rattle.tree_walks.specs.Walks.{CanWalk, HasWalked, KeepsMet, OnlyTrees, OnlyWaysOn}
use Rattle.tree_scans.specs.Heads.{IsAtWord}
use Rattle.tree_scans.specs.Rows.{key_in, row_value, AreRising}

-- The pointer is kept as the one part of its word, which vouches for all keys of the pointer with what is found below
-- its page; so for each key from this one to that one, with the value that the rows have there, which ascend by their
-- keys, all of them in between. Where the transaction had kept the pointer, it had it with this word; else the set has
-- room for it.
pub record IsStretchBelow (k : Key) (x : Bare) (pointers : List Seen) (last to : ℕ) (rows : List (ℕ × ℕ)) (v w : View)
    : Type 0 where
  pub from : k.key ≤ to
  pub within : to ≤ last
  pub content : Content
  pub found : IsFoundBelow k content pointers x.pointer v w
  pub vouched : (n : ℕ) → k.key ≤ n → n ≤ to → Vouched w.seat.kept (key_in k.storage n) (row_value rows n)
  pub rising : AreRising rows
  pub bounds : (row : ℕ × ℕ) → Contains rows row → (k.key ≤ row.0) × (row.0 ≤ to)
  pub few : length rows ≤ 16

-- So it is by at most so many steps; or why not.
pub record ReadsBelow
    (k : Key) (x : Bare) (pointers headers : List Seen) (slots : List ℕ) (last : ℕ) (r : Result ℕ RefusalCause)
    (rows : List (ℕ × ℕ)) (v w : View) : Type 0 where
  pub can : CanWalk slots w
  pub walked : HasWalked v w
  pub most : w.steps ≤ v.steps + 1200
  pub only : OnOk r (OnlyTrees v w)
  pub keeps : OnOk r (KeepsMet pointers headers v w)
  pub paths : OnlyWaysOn k v w
  pub grip : w.grip ≡ v.grip
  pub read : IfOk r (λ to. IsStretchBelow k x pointers last to rows v w)
  pub cause : IfErr r (λ why. RefusesFind k pointers headers slots why v w)
  pub place : IfErr r (IsAtWord x.pointer.at)
