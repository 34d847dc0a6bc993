-- Why an operation on a key of a tree is refused.
use Rattle.std.specs.Prelude.{◌≡◌, ◌⊎◌, ℕ, ◌+◌, ◌≤◌, false, List, length, Contains}
use Rattle.serial_model.specs.declared.key.Key.{Key}
use Rattle.tx_sets.specs.declared.sets.Sets.{Sets}
use Rattle.tx_sets.specs.Entries.{has_read, has_write}
use Rattle.engine_pages.specs.declared.view.Read.{Read}
use Rattle.engine_pages.specs.declared.view.RefusalCause.{RefusalCause}
use Rattle.engine_pages.specs.declared.view.RefusalCause.TheVariants as refusals
use Rattle.engine_pages.specs.declared.view.SetName.TheVariants.{Reads, Pointers, Holds}
use Rattle.engine_pages.specs.declared.view.View.{View}
use Rattle.tree_walks.specs.Finding as finding
use Rattle.tree_walks.specs.Ways.{IsLong, NeedsHalf, NeedsHold}
use Rattle.page_commit.specs.Needs.{ArePointersOver, AreWaysOver, IsUnsplitAt, NeedsHeader, NeedsRecord}
use Rattle.page_commit.specs.Places.{ground, IsTreeKeyIn}
use Rattle.page_commit.specs.Refusing.{IsHeaderConflict, IsPointerConflict, IsTreeConflict}
use Rattle.page_commit.specs.Turning.{IsHeaderOver, IsTreePointerOver, OnlyWalked}

-- ---- what an operation needs one more of

-- The pages in memory end at a pointer on the way to the key, which the set of pointers hasn't, and the set is full. So
-- it was by what the call had learned of the pages by then, and by words that it saw.
pub record NeedsPointer (k : Key) (sets : Sets) (v w : View) : Type 0 where
  pub then : View
  pub walked : OnlyWalked v then
  pub met : (r : Read) → Contains then.reads r → Contains w.reads r
  pub needs : finding.NeedsPointer k sets.pointers then

-- The key's record was to be kept, which wasn't read yet; or the header of the leaf on the way to the key, which isn't
-- kept yet. So it was by what the call had learned of the pages by then, and by words that it saw.
pub record NeedsEntry (k : Key) (sets : Sets) (v w : View) : Type 0 where
  pub then : View
  pub walked : OnlyWalked v then
  pub met : (r : Read) → Contains then.reads r → Contains w.reads r
  pub needs : NeedsRecord k sets.reads then ⊎ NeedsHeader k sets.headers then

-- A slot on the way to the key was to be held that wasn't: a pointer led to it, or a leaf that was split, of which it is
-- the half that has the key. So it was by what the call had learned of the pages by then, and by words that it saw.
pub record NeedsSlot (k : Key) (slots : List ℕ) (v w : View) : Type 0 where
  pub then : View
  pub walked : OnlyWalked v then
  pub met : (r : Read) → Contains then.reads r → Contains w.reads r
  pub needs : NeedsHold k slots then ⊎ NeedsHalf k slots then

-- The way to the key had led through one page more, one below another, than there is room for holds.
pub record WasLong (k : Key) (v : View) : Type 0 where
  pub then : View
  pub walked : OnlyWalked v then
  pub long : IsLong k then

-- ---- conflicts

-- The word of the operation's last step, with what was expected there and what it saw, is that of a pointer over the key,
-- of a header over the key or of the key's record, by what the call had learned of the pages by then. What the pass knew
-- of the pointer, or of the word's page, as the call began is over the key, too. A record stands in a leaf whose header
-- was last seen as that of one that wasn't split.
abbrev pub IsWordConflict : Sets → Key → ℕ → ℕ → ℕ → View → View → Type 0
IsWordConflict sets k at expected seen v w =
    (u : View) × OnlyWalked v u
    × ((IsPointerConflict sets.pointers at expected seen v w × IsTreePointerOver u k at × ArePointersOver k v at)
    ⊎ ((IsHeaderConflict sets.headers at expected seen v w × IsHeaderOver u k at × AreWaysOver k v at)
    ⊎ (IsTreeConflict sets.reads at expected seen v w × IsTreeKeyIn (ground u) k at × AreWaysOver k v at
    × IsUnsplitAt w at)))

-- ---- calls

-- A read of the key was refused, before any draw and any lock: a pointer or a header on the way to it, or its record, was
-- in conflict; or it needed one more entry of a full set.
abbrev pub RefusesTreeRead : Sets → Sets → Key → RefusalCause → View → View → Type 0
RefusesTreeRead sets new k (refusals.Conflict at expected seen) v w =
    (has_read k sets.reads ≡ false) × (has_write k sets.writes ≡ false) × (w.draws ≡ v.draws)
    × IsWordConflict sets k at expected seen v w × (w.blamed ≡ v.blamed) × (w.touched ≡ v.touched)
RefusesTreeRead sets new k (refusals.Full held) v w = ⊥
RefusesTreeRead sets new k (refusals.Wide set) v w =
    (has_read k sets.reads ≡ false) × (has_write k sets.writes ≡ false) × (w.draws ≡ v.draws)
    × (((set ≡ Reads) × (256 ≤ length sets.reads + length sets.headers) × NeedsEntry k sets v w)
    ⊎ (((set ≡ Holds) × (((length new.holds ≡ 128) × NeedsSlot k new.holds v w) ⊎ WasLong k v))
    ⊎ ((set ≡ Pointers) × (length sets.pointers ≡ 128) × NeedsPointer k sets v w)))
    × (w.touched ≡ v.touched)
RefusesTreeRead sets new k (refusals.NumberLimit clock) v w = ⊥
