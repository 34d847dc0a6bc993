-- The header of a leaf that was split is locked by the maintenance thread, and opened as it was.
use Rattle.std.specs.Prelude.{◌≡◌, ℕ, ◌+◌, ◌<◌, ◌≤◌, ◌==◌, true, ◌∷◌, length, Contains, MatchBool}
use Rattle.atomic_table.specs.Table.{Step}
use Rattle.homes.specs.declared.places.Span.{Span}
use Rattle.wire_form.specs.Leaves.{tree_leaf}
use Rattle.drop_core.specs.Event.{without}
use Rattle.drop_core.specs.Table.{has_slot}
use Rattle.engine_pages.specs.declared.view.Known.{Known}
use Rattle.engine_pages.specs.declared.view.Moved.{Moved}
use Rattle.engine_pages.specs.declared.view.Role.TheVariants.{Keeper}
use Rattle.engine_pages.specs.declared.view.View.{View}
use Rattle.engine_pages.specs.Steps.{glanced, read_at, with_read}
use Rattle.tree_heads.specs.Headers.{IsTreeAt, moved_bit, moved_locked}
use Rattle.tree_heads.specs.Heads.{lock_bit}
use Rattle.tree_heads.specs.Splits.{moved_word}

-- ---- the header of a split leaf is locked

-- The maintenance thread's pass may lock the header of a leaf that it knows to have been split, where it finds this word,
-- which is that of an open one.
pub record CanSeal (v : View) (t : ℕ) (sp : Span) (expected : ℕ) : Type 0 where
  pub keeper : v.role ≡ Keeper
  pub page : IsTreeAt v t sp
  pub moved : Moved
  pub has : Contains v.moved moved
  pub slot : moved.slot ≡ t
  pub from : moved_bit ≤ expected
  pub free : expected < moved_locked

-- one header more of a split leaf is locked
abbrev pub sealed_at : ℕ → ℕ → ℕ → View → View
sealed_at t at n v =
    record (glanced at n v) { reads = with_read v.reads at (n + lock_bit); sealed = t ∷ v.sealed }

-- it is locked exactly where its word was the one that was expected
abbrev pub HasSealed : ℕ → ℕ → ℕ → View → ℕ → View → Type 0
HasSealed t at expected v n w = MatchBool (n == expected) (w ≡ sealed_at t at n v) (w ≡ read_at at n v)

-- the same of the step
abbrev pub Seals : ℕ → Step (Unit {0}) → View → ℕ → View → Type 0
Seals t s v n w = HasSealed t s.word s.first v n w

-- ---- it is opened

-- The pass has locked the header, and knows all keys of the leaf, which was full.
pub record CanUnseal (v : View) (t : ℕ) (sp : Span) (word : ℕ) : Type 0 where
  pub page : IsTreeAt v t sp
  pub sealed : has_slot v.sealed t ≡ true
  pub leaf : Known
  pub has : Contains v.known leaf
  pub slot : leaf.slot ≡ t
  pub full : length leaf.keys ≡ tree_leaf.room
  pub is : word ≡ moved_word tree_leaf.room

-- one header less of a split leaf is locked, whose word is this now
abbrev pub unsealed_at : ℕ → ℕ → ℕ → View → View
unsealed_at t at n v =
    record v { steps = v.steps + 1; reads = with_read v.reads at n; sealed = without v.sealed t }

-- the same of the step
abbrev pub Unseals : ℕ → Step (Unit {0}) → View → ℕ → View → Type 0
Unseals t s v n w = (n ≡ s.first) × (w ≡ unsealed_at t s.word s.first v)
