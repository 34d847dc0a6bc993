-- What a clause says of a pass.
use Rattle.std.specs.Prelude.{◌≡◌, []}
use Rattle.atomic_table.specs.declared.shared.Seat.{Seat as TableSeat}
use Rattle.engine_pages.specs.declared.engine.Engine.{Engine}
use Rattle.engine_pages.specs.declared.view.View.{View}

-- a pass of an engine
abbrev pub Pass : Type 0
Pass = TableSeat (Unit {0}) View

-- what the pass knows
abbrev pub view : Pass → View
view p = p.me.0

-- it is a pass of this engine
pub record IsPassOf (e : Engine) (p : Pass) : Type 0 where
  pub table : p.table_id ≡ e.table.shared.table_id
  pub slots : p.me.1 ≡ []
  pub layout : p.me.0.layout ≡ e.table.shared.key
