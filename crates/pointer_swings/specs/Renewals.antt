-- What renewing a pointer asks and tells: it leads to its slot still, and names another snapshot page.
use Rattle.std.specs.Prelude.{◌≡◌, ℕ, ◌+◌, ◌*◌, ◌/◌, ◌^◌, ◌<◌, ◌≤◌, ◌==◌, MatchBool}
use Rattle.atomic_table.specs.Table.{Step}
use Rattle.homes.specs.declared.places.At.{At}
use Rattle.homes.specs.declared.places.Span.{Span}
use Rattle.engine_pages.specs.declared.view.Role.TheVariants.{Keeper}
use Rattle.engine_pages.specs.declared.view.View.{View}
use Rattle.engine_pages.specs.Pointers.{IsPointerAt}
use Rattle.engine_pages.specs.Steps.{glanced, read_at, with_read}
use Rattle.dual_pointer.specs.Copies.{IsLeadOf}

-- The maintenance thread's pass may renew the pointer where it finds this word, which is that of an open one that leads
-- to a slot: the page with this number stands for its keys.
pub record CanRenew (v : View) (x : At) (sp : Span) (at number expected : ℕ) : Type 0 where
  pub keeper : v.role ≡ Keeper
  pub place : IsPointerAt v x sp at
  pub free : expected < 2 ^ 60
  pub leads : 2 ^ 32 ≤ expected
  pub some : 0 < number
  pub lead : IsLeadOf v sp number

-- the word that leads to the same slot, and names the page
abbrev pub renewed_word : ℕ → ℕ → ℕ
renewed_word expected number = expected / 2 ^ 32 * 2 ^ 32 + number

-- the pointer names the page
abbrev pub renewed : ℕ → ℕ → ℕ → View → View
renewed at number n v = record (glanced at n v) { reads = with_read v.reads at (renewed_word n number) }

-- the pointer is renewed exactly where its word was the one that was expected
abbrev pub HasRenewed : ℕ → ℕ → ℕ → View → ℕ → View → Type 0
HasRenewed at number expected v n w = MatchBool (n == expected) (w ≡ renewed at number n v) (w ≡ read_at at n v)

-- the same of the step
abbrev pub Renews : ℕ → Step (Unit {0}) → View → ℕ → View → Type 0
Renews number s v n w = (s.second ≡ renewed_word s.first number) × HasRenewed s.word number s.first v n w
