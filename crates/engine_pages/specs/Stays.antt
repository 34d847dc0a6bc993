-- What a step of one seat leaves of trees to all others: the machines of commits and pages don't know for which keys a
-- page of a tree was made, nor the records of a leaf that was split. What those leave is a law of theirs.
use Rattle.std.specs.Prelude.{◌≡◌, ℕ, ◌<◌, true, false, Option, Some, None}
use Rattle.lists.specs.Fronts.{IsFront}
use Rattle.homes.specs.declared.places.Holder.TheVariants.{Held}
use Rattle.drop_core.specs.declared.table.Table.{Table}
use Rattle.drop_core.specs.Table.{slot_of, header_of, has_slot, is_never}
use Rattle.engine_pages.specs.Pages.{Fenced}
use Rattle.engine_pages.specs.Rule.{Shared}

-- something has led to the slot since it was given
abbrev pub IsKnown : Table → ℕ → Type 0
IsKnown d t = is_never (slot_of d t).led ≡ false

-- some seat holds the slot, and something has led to it since it was given
pub record IsRelied (s : Shared) (q t : ℕ) : Type 0 where
  pub few : q < 9
  pub held : has_slot (s.grips q).holds t ≡ true
  pub known : IsKnown s.table t

-- A page that a seat relies on is one of a tree after the step exactly where it was one, over the same keys, with the
-- same records, maybe with more behind them; pages of slots that another seat made, and those whose header another seat
-- has locked, are as before.
pub record TreesStay (p : ℕ) (s : Shared) (new : ℕ → Option Fenced) : Type 0 where
  pub none : (q t : ℕ) → IsRelied s q t → s.trees t ≡ None → new t ≡ None
  pub fence : (q t : ℕ) (f : Fenced) → IsRelied s q t → s.trees t ≡ Some f
      → (g : Fenced) × (new t ≡ Some g) × (g.span ≡ f.span) × IsFront f.keys g.keys
  pub made : (q t : ℕ) → q < 9 → (q ≡ p → ⊥) → has_slot (s.grips q).made t ≡ true → new t ≡ s.trees t
  pub heads : (t o : ℕ) → header_of s.table t ≡ Held o → (o ≡ p → ⊥) → new t ≡ s.trees t
