-- The snapshots that devices have, before a call and after it.
use Rattle.std.specs.Prelude.{◌≡◌, ◌<◌, ℕ, List}
use Rattle.std.specs.List.{AllByRecursion, Contains}
use Rattle.serial_model.specs.History.{Entry, as_of}
use Rattle.serial_model.specs.State.{State}
use Rattle.serial_model.specs.declared.decl.Decl.{Decl}
use Rattle.wire_form.specs.Pages.{Contents}
use Rattle.snapshot_store.specs.Content.{IsContent, RootStands, record_in}
use Rattle.recovery_core.specs.Recoverable.{Reading}

-- The snapshot of this catalogue has this state: all that its roots lead to are pages of its storages, and their
-- records are the state's.
pub record HasContent (reading : Reading) (catalogue : Contents) (state : State) : Type 0 where
  pub stands : AllByRecursion (RootStands reading.pages) catalogue.storages
  pub content : IsContent (record_in reading.pages) catalogue.storages state

-- Each snapshot that the devices have: above the epoch that was kept before the call it has the state as of its epoch,
-- from the state that was kept on, after these commits up to it; of that epoch it has the state that was kept; and an
-- older one is one that there was. Each that there was is there, with what it had.
pub record EachSnapshot (was now : Reading) (epoch : ℕ) (state : State) (decls : List Decl) (commits : List Entry)
    : Type 0 where
  pub newer : (c : Contents) → Contains now.catalogues c → epoch < c.epoch
      → HasContent now c (as_of decls state commits c.epoch)
  pub kept : (c : Contents) → Contains now.catalogues c → c.epoch ≡ epoch → HasContent now c state
  pub older : (c : Contents) → Contains now.catalogues c → c.epoch < epoch → Contains was.catalogues c
  pub stays : (c : Contents) → Contains was.catalogues c → Contains now.catalogues c
  pub as_was : (c : Contents) (s : State) → Contains was.catalogues c → HasContent was c s → HasContent now c s
