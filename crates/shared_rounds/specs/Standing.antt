-- Where an engine stands between two rounds.
use Rattle.std.specs.Prelude.{ℕ, Bool, List}
use Rattle.serial_model.specs.State.{State}
use Rattle.serial_model.specs.declared.decl.Decl.{Decl}
use Rattle.serial_model.specs.declared.key.Key.{Key}
use Rattle.serial_model.specs.declared.number.Number.{Number}
use Rattle.homes.specs.declared.places.Content.{Content}
use Rattle.commit_core.specs.declared.attempt.Attempt.{Attempt}
use Rattle.engine_pages.specs.declared.view.Dropped.{Dropped}
use Rattle.engine_pages.specs.declared.view.Met.{Met}
use Rattle.engine_pages.specs.declared.view.RefusalCause.{RefusalCause}

-- the storages and their contents, what stood at keys as the engine was made, with its numbers; the number that the
-- next commit gets, the attempts that count, in order of number, what each try was refused for so far, which marks of
-- workers saves met so far, how many slots there are for pages in memory, the snapshot pages that are published, for
-- how many such pages there is room, what each drop of pages came to so far, and whether a round ended the run
pub record Standing : Type 0 where
  pub decls : List Decl
  pub state : State
  pub opening : List (Key × Content)
  pub clock : Number
  pub mine : List Attempt
  pub refused : List RefusalCause
  pub met : List Met
  pub slots : ℕ
  pub pages : List (List ℕ)
  pub resident : ℕ
  pub drops : List Dropped
  pub ended : Bool
