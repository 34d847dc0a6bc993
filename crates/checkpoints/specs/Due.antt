-- Whether a new snapshot is due as a database is settled: what it would be composed of, and what stands in its way.
use Rattle.std.specs.Prelude.{◌≡◌, ◌⊎◌, ℕ, ◌+◌, ◌<◌, ◌≤◌, List, Some, None, ⊤}
use Rattle.lists.specs.declared.memory.OrMemory.{OrMemory}
use Rattle.lists.specs.declared.memory.OrMemory.TheVariants.{Fault, Memory}
use Rattle.std.specs.FinMap.{get}
use Rattle.serial_model.specs.declared.key.Key.{Key}
use Rattle.wire_form.specs.Pages.{Contents}
use Rattle.wire_form.specs.declared.bucket.Entry.{Entry}
use Rattle.log_writer.specs.declared.saved.Saved.{Saved}
use Rattle.snapshot_store.specs.Content.{deepest, words_of, CatalogueAt}
use Rattle.recovery_core.specs.EntriesRun.{IsRunOf}
use Rattle.checkpoints.specs.Settled.{stores_due}
use Rattle.checkpoints.specs.declared.fault.SettleFault.{SettleFault}
use Rattle.checkpoints.specs.declared.fault.SettleFault.TheVariants.{Deep, Limit}
use Rattle.recovery_core.specs.declared.recovered.Recovered.{Recovered}
use Rattle.root_composer.specs.Composition.{CanCompose, IsComposed, IsTooDeep, WouldCompose, new_count, level_count}

-- there is a savepoint, and this holds of what it says
abbrev pub OfSaved : Recovered → (Saved → Type 0) → Type 0
OfSaved r P = (p : Saved) × (r.saved ≡ Some p) × P p

-- no log entry counts
abbrev pub NoneCount : Recovered → Type 0
NoneCount r = (key : Key) → get r.entries key ≡ None

-- some do
abbrev pub SomeCount : Recovered → Type 0
SomeCount r = NoneCount r → ⊥

-- Log entries count above the newest snapshot, whose catalogue says this: the run has the last one of each key.
pub record IsDue (r : Recovered) (p : Saved) (run : List Entry) (contents : Contents) : Type 0 where
  pub some : SomeCount r
  pub run_is : IsRunOf r.entries run
  pub here : CatalogueAt (words_of r.store.pages) p.catalogue contents

-- these pages are those of a new snapshot, which has the run over the newest one
pub record IsNextOf (r : Recovered) (p : Saved) (made : List (List ℕ)) : Type 0 where
  pub run : List Entry
  pub contents : Contents
  pub due : IsDue r p run contents
  pub can : CanCompose (words_of r.store.pages) p.catalogue contents run r.epoch
  pub composed : IsComposed run r.epoch p.catalogue contents (words_of r.store.pages) made

-- a page of the new snapshot would stand below 32 others
pub record WouldBeDeep (r : Recovered) (p : Saved) : Type 0 where
  pub run : List Entry
  pub contents : Contents
  pub due : IsDue r p run contents
  pub made : List (List ℕ)
  pub deep : IsTooDeep run contents (words_of r.store.pages) made

-- none would, but there would be so many new pages, the catalogue with them, and with those that count they are more
-- than are let in
pub record WouldBeMany (r : Recovered) (p : Saved) (snap new : ℕ) : Type 0 where
  pub run : List Entry
  pub contents : Contents
  pub due : IsDue r p run contents
  pub would : WouldCompose run r.epoch p.catalogue contents (words_of r.store.pages) new
  pub more : snap < p.count + new

-- Pages are more than are let in: those that count, where no entry does, else those with the new ones.
abbrev pub IsOverLimit : Recovered → Saved → ℕ → ℕ → Type 0
IsOverLimit r p snap new = (NoneCount r × (new ≡ 0) × (snap < p.count)) ⊎ WouldBeMany r p snap new

-- the new snapshot's pages fit
pub record ComposesWithin (r : Recovered) (p : Saved) (snap : ℕ) : Type 0 where
  pub run : List Entry
  pub contents : Contents
  pub due : IsDue r p run contents
  pub levels : level_count run contents (words_of r.store.pages) ≤ deepest
  pub pages : p.count + new_count run contents (words_of r.store.pages) ≤ snap

-- pages are within what is let in, and none stands too deep
abbrev pub IsWithin : Recovered → ℕ → Saved → Type 0
IsWithin r snap p = (NoneCount r × (p.count ≤ snap)) ⊎ ComposesWithin r p snap

-- a store is due: the first one, one without lengths where some stand, or one that names the new snapshot
abbrev pub IsStoreDue : Recovered → Type 0
IsStoreDue r = (NoneCount r × (stores_due r.saved ≡ 1)) ⊎ SomeCount r

-- an answer that isn't Ok
abbrev pub TheFault : Type 0
TheFault = OrMemory SettleFault

-- what may stand in the way of new pages: want of memory, depth, or too many of them
abbrev pub IsDueRefusal : TheFault → Type 0
IsDueRefusal Memory = ⊤
IsDueRefusal (Fault Deep) = ⊤
IsDueRefusal (Fault (Limit have new room)) = ⊤
IsDueRefusal _ = ⊥
