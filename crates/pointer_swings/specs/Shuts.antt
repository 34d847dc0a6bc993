-- What shutting a pointer and opening it again ask and tell.
use Rattle.std.specs.Prelude.{◌≡◌, ℕ, ◌+◌, ◌^◌, ◌<◌, ◌==◌, not, List, ◌∷◌, filter, MatchBool, Contains}
use Rattle.atomic_table.specs.Table.{Step}
use Rattle.homes.specs.declared.places.At.{At}
use Rattle.homes.specs.declared.places.Span.{Span}
use Rattle.homes.specs.Homes.{same_at}
use Rattle.engine_pages.specs.declared.view.Role.TheVariants.{Keeper}
use Rattle.engine_pages.specs.declared.view.Shut.{Shut}
use Rattle.engine_pages.specs.declared.view.View.{View}
use Rattle.engine_pages.specs.Pointers.{IsPointerAt}
use Rattle.engine_pages.specs.Steps.{glanced, read_at, with_read}

-- ---- a pointer is shut

-- The maintenance thread's pass may shut the pointer where it finds this word, which is that of an open one.
pub record CanShut (v : View) (x : At) (sp : Span) (at expected : ℕ) : Type 0 where
  pub keeper : v.role ≡ Keeper
  pub place : IsPointerAt v x sp at
  pub free : expected < 2 ^ 60

-- the pointer, with the word that it had
abbrev pub shut_of : At → ℕ → Shut
shut_of x word = record { at = x; word = word }

-- one pointer more is shut, and its word has the bit
abbrev pub shut_at : At → ℕ → ℕ → View → View
shut_at x at n v = record (glanced at n v) {
  reads = with_read v.reads at (n + 2 ^ 60);
  shuts = shut_of x n ∷ v.shuts;
}

-- the pointer is shut exactly where its word was the one that was expected
abbrev pub HasShut : At → ℕ → ℕ → View → ℕ → View → Type 0
HasShut x at expected v n w = MatchBool (n == expected) (w ≡ shut_at x at n v) (w ≡ read_at at n v)

-- ---- it is opened

-- the pointers that were shut at other places
abbrev pub shut_elsewhere : At → List Shut → List Shut
shut_elsewhere x shuts = filter (λ z. not (same_at z.at x)) shuts

-- The pass has shut the pointer, which had this word.
pub record CanReopen (v : View) (x : At) (sp : Span) (at word : ℕ) : Type 0 where
  pub keeper : v.role ≡ Keeper
  pub place : IsPointerAt v x sp at
  pub shut : Contains v.shuts (shut_of x word)

-- one pointer less is shut, and has its word again
abbrev pub reopened : At → ℕ → ℕ → View → View
reopened x at n v = record v {
  steps = v.steps + 1;
  reads = with_read v.reads at n;
  shuts = shut_elsewhere x v.shuts;
}

-- ---- the same of the steps

-- a pointer is shut, or was found changed
abbrev pub Shuts : At → Step (Unit {0}) → View → ℕ → View → Type 0
Shuts x s v n w = HasShut x s.word s.first v n w

-- a pointer that was shut is opened
abbrev pub Reopens : At → Step (Unit {0}) → View → ℕ → View → Type 0
Reopens x s v n w = (n ≡ s.first) × (w ≡ reopened x s.word s.first v)
