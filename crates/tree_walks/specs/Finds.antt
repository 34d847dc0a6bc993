-- What the parts of a search come to.
use Rattle.std.specs.Prelude.{◌≡◌, ℕ, ◌+◌, ◌≤◌, List, None, length, Result, IfOk, IfErr, OnOk}
use Rattle.serial_model.specs.declared.key.Key.{Key}
use Rattle.tx_sets.specs.declared.seen.Seen.{Seen}
use Rattle.tx_sets.specs.Entries.{word_at}
use Rattle.engine_pages.specs.declared.view.RefusalCause.{RefusalCause}
use Rattle.engine_pages.specs.declared.view.RefusalCause.TheVariants as causes
use Rattle.engine_pages.specs.declared.view.SetName.TheVariants.{Pointers}
use Rattle.engine_pages.specs.declared.view.View.{View}
use Rattle.tree_walks.specs.declared.finding.Found.{Found}
use Rattle.tree_walks.specs.Finding.{IsFound, MeetsOnly, RefusesFind}
use Rattle.tree_walks.specs.Walks.{AreLedTo, CanWalk, HasWalked, KeepsMet, OnlyTreesFor, OnlyWaysOn}

-- finding a record takes at most so many steps
abbrev pub find_steps : ℕ
find_steps = 5683

-- By at most so many steps, of which none entered a slot, the record of the key was read, or what says that there is
-- none; or why not.
pub record KeepsSo
    (bound : ℕ) (k : Key) (pointers headers : List Seen) (slots : List ℕ) (r : Result Found RefusalCause) (v w : View)
    : Type 0 where
  pub can : CanWalk slots w
  pub walked : HasWalked v w
  pub most : w.steps ≤ v.steps + bound
  pub met : OnlyTreesFor k v w
  pub only : IfOk r (λ f. MeetsOnly f v w)
  pub keeps : OnOk r (KeepsMet pointers headers v w)
  pub paths : OnlyWaysOn k v w
  pub grip : w.grip ≡ v.grip
  pub found : IfOk r (λ f. IsFound k pointers headers f v w)
  pub cause : IfErr r (λ why. RefusesFind k pointers headers slots why v w)

-- The record of the key was found, or what says that there is none, by at most this many steps, or why not. No words
-- but those on the way down trees, and the record's, were met, and each way that is new is over the key, or into a half
-- of a page on the way to it. Where it was found, each slot that is held newly was led to, and what the sets have is
-- met as they have it.
pub record FindsSo
    (k : Key) (pointers headers : List Seen) (slots : List ℕ) (r : Result Found RefusalCause) (v w : View)
    : Type 0 where
  pub can : CanWalk slots w
  pub walked : HasWalked v w
  pub most : w.steps ≤ v.steps + find_steps
  pub met : OnlyTreesFor k v w
  pub only : IfOk r (λ f. MeetsOnly f v w)
  pub led : OnOk r (AreLedTo k v w)
  pub keeps : OnOk r (KeepsMet pointers headers v w)
  pub paths : OnlyWaysOn k v w
  pub found : IfOk r (λ f. IsFound k pointers headers f v w)
  pub cause : IfErr r (λ why. RefusesFind k pointers headers slots why v w)

-- the set of pointers is full, and doesn't have this one
abbrev pub IsPointersFull : ℕ → List Seen → RefusalCause → Type 0
IsPointersFull at pointers (causes.Conflict a expected seen) = ⊥
IsPointersFull at pointers (causes.Full held) = ⊥
IsPointersFull at pointers (causes.Wide set) = (set ≡ Pointers) × (word_at at pointers ≡ None) × (length pointers ≡ 128)
IsPointersFull at pointers (causes.NumberLimit clock) = ⊥
