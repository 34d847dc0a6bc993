-- Where the passes of a bank stand.
use Rattle.std.specs.Prelude.{◌≡◌, ℕ, ◌<◌, ◌≤◌, List, [], ◌∷◌, get_or}
use Rattle.std.specs.List.{AllByRecursion}
use Rattle.serial_model.specs.declared.decl.Decl.{Decl}
use Rattle.serial_model.specs.declared.decl.Decl.TheVariants.{Array}
use Rattle.views.specs.Sums.{times}
use Rattle.engine_pages.specs.declared.engine.Engine.{Engine}
use Rattle.engine_pages.specs.declared.view.Role.TheVariants as roles
use Rattle.engine_pages.specs.Passes.{view, IsPassOf, Pass}
use Rattle.engine_pages.specs.Views.{bare_seat, IsResting}
use Rattle.engine_pages.specs.declared.layout.Layout.{Layout}
use Rattle.engine_pages.specs.Beginning.{layout_of}
use Rattle.page_commit.specs.Live.{IsOver}
use Rattle.bank_tellers.specs.declared.teller.Teller.{Teller}

-- one array, storage 1, with an account for each of its keys
abbrev pub accounts : List Decl
accounts = Array 1 8 ∷ []

-- it begins with the number 1:1 and without a page, and has 16 slots
abbrev pub blank : Layout
blank = layout_of (record { epoch = 1; draw = 1 }) accounts (0 ∷ []) 16 0 []

-- it is a worker of this engine, and has no transaction
pub record Stands (e : Engine) (t : Teller) : Type 0 where
  pub of : IsPassOf e t.pass
  pub decls : (view t.pass).layout.decls ≡ accounts
  pub over : IsOver (view t.pass)

-- it is the keeper's pass of this engine
pub record IsKeeper (e : Engine) (keeper : Pass) : Type 0 where
  pub of : IsPassOf e keeper
  pub role : (view keeper).role ≡ roles.Keeper

-- the workers from this one on are not seated yet
pub record CanSeat (e : Engine) (next : ℕ) (keeper : Pass) : Type 0 where
  pub keeps : IsKeeper e keeper
  pub decls : (view keeper).layout.decls ≡ accounts
  pub locks : (view keeper).seat.locks ≡ []
  pub apart : (worker : ℕ) → next ≤ worker → times worker (view keeper).made ≡ 0
  pub parked : (worker : ℕ) → worker < 8 → IsResting (get_or (view keeper).parked worker bare_seat)

-- the keeper's pass and the tellers are of this engine
pub record AreTellers (e : Engine) (keeper : Pass) (tellers : List Teller) : Type 0 where
  pub keeps : IsKeeper e keeper
  pub each : AllByRecursion (Stands e) tellers
