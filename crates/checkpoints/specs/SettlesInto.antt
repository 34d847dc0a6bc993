-- What settling gives of a database: a savepoint that counts nothing of the log files, which are empty, over pages
-- whose newest snapshot has the state that was recovered.
use Rattle.std.specs.Prelude.{◌≡◌, ◌⊎◌, ℕ, ◌+◌, ◌<◌, ◌++◌, List, Option, Some, None, true}
use Rattle.std.specs.Prelude.{IfSome, IfNone, map, length, replicate}
use Rattle.std.specs.List.Sorted.{IsPermutation}
use Rattle.std.specs.Option.{option_map}
use Rattle.outside.specs.Disk.{IfTold}
use Rattle.outside.specs.Fronts.{AllBegin}
use Rattle.log_writer.specs.Vault.{IsWhole}
use Rattle.log_writer.specs.declared.vault.Vault.{Vault}
use Rattle.serial_model.specs.Keys.{id_of}
use Rattle.serial_model.specs.declared.decl.Decl.{Decl}
use Rattle.wire_form.specs.Items.{Rises}
use Rattle.wire_form.specs.Pages.{Contents}
use Rattle.wire_form.specs.declared.bucket.Entry.{Entry}
use Rattle.log_writer.specs.Points.{IsSaved, saved_of, sequence_of}
use Rattle.log_writer.specs.Save.{IsStored}
use Rattle.log_writer.specs.declared.saved.Saved.{Saved}
use Rattle.snapshot_store.specs.Content.{words_of}
use Rattle.snapshot_store.specs.Store.{bytes_of_pages, HoldsPages}
use Rattle.root_composer.specs.Composition.{IsComposed}
use Rattle.joint_crashes.specs.Images.{Images}
use Rattle.joint_crashes.specs.JointCrash.{Moments, parts_of}
use Rattle.recovery_core.specs.NewestSnapshot.{IsNewestSnapshot}
use Rattle.recovery_core.specs.Recovered.{Recovers}
use Rattle.joint_crashes.specs.Resting.{IsResting, HasNoRecords, AreTold}
use Rattle.checkpoints.specs.Settled.{settled_saved, settled_pages, stores_due, SaysSettled}
use Rattle.checkpoints.specs.Files.{AllTell, AreEmpty}
use Rattle.checkpoints.specs.SettleGoesOn.{GoesOn}
use Rattle.joint_crashes.specs.SettleRests.{RestsSince}
use Rattle.recovery_core.specs.declared.recovered.Recovered.{Recovered}
use Rattle.checkpoints.specs.declared.without_entries.Settled.{Settled}
use Rattle.checkpoints.specs.Due.{NoneCount, IsDue}

-- what the savepoint says behind a composition: the same epoch, so many pages, the last of which is the catalogue, and
-- nothing counted of the log files
abbrev pub composed_saved : ℕ → ℕ → Saved
composed_saved epoch count = record { epoch = epoch; catalogue = count; count = count; lengths = replicate 16 0 }

-- No entry counts: the pages stay, and the savepoint says what it said, without lengths. A fresh database gets its
-- first catalogue and its first savepoint.
pub record StaysAsRead (r : Recovered) (s : Settled) : Type 0 where
  pub none : NoneCount r
  pub saved : s.saved ≡ settled_saved r.saved
  pub pages : words_of s.store.pages ≡ settled_pages r.saved (words_of r.store.pages) s.decls
  pub sequence : sequence_of s.save.newest ≡ sequence_of r.save.newest + stores_due r.saved

-- Entries count: the pages of a new snapshot stand behind the others, and one more savepoint names it. It has the
-- newest snapshot's content under the last entry of each key, and its epoch is the saved one.
pub record IsComposedInto (r : Recovered) (s : Settled) (p : Saved) : Type 0 where
  pub run : List Entry
  pub contents : Contents
  pub due : IsDue r p run contents
  pub made : List (List ℕ)
  pub composed : IsComposed run r.epoch p.catalogue contents (words_of r.store.pages) made
  pub pages : words_of s.store.pages ≡ words_of r.store.pages ++ made
  pub saved : s.saved ≡ composed_saved r.epoch (length s.store.pages)
  pub sequence : sequence_of s.save.newest ≡ sequence_of r.save.newest + 1

-- which of both it is
abbrev pub Follows : Recovered → Settled → Option Saved → Type 0
Follows r s None = StaysAsRead r s
Follows r s (Some p) = StaysAsRead r s ⊎ IsComposedInto r s p

-- The last page that is handed on is the catalogue of a snapshot of the storages, which is no later than the saved
-- epoch, and all that its roots lead to are pages of theirs. No record of theirs is later than the snapshot, and what
-- they have is just the state. That is so whatever the devices tell.
abbrev pub HasNewest : Settled → Type 0
HasNewest s = (contents : Contents)
    × IsNewestSnapshot (words_of s.store.pages) (length s.store.pages) s.decls s.state s.saved.epoch contents

-- What is handed on of a database that was recovered so, for these storages, and what its devices are then.
pub record SettlesInto {D : Type 0} (tells : D → Option (List ℕ)) (clock : D → ℕ) (image_at : D → ℕ → List ℕ → Type 0)
    (r : Recovered) (given : List Decl) (old new : Vault D) (s : Settled) : Type 0 where
  pub whole : IsWhole new
  -- which savepoint and which pages follow
  pub follows : Follows r s r.saved
  -- the savepoint
  pub lengths : s.saved.lengths ≡ replicate 16 0
  pub epoch : s.saved.epoch ≡ r.epoch
  pub ranges : IsSaved s.saved
  pub says : Some s.saved ≡ option_map saved_of s.save.newest
  pub up : s.save.down ≡ None
  pub stored : IsStored tells clock image_at new.save s.save.newest
  -- the pages, which are durable where those that were read are
  pub sound : s.store.sound ≡ true
  pub count : length s.store.pages ≡ s.saved.count
  pub holds : HoldsPages tells new.snaps s.store.pages
  pub durable : IfTold (tells old.snaps) (λ _.
      AllBegin (image_at old.snaps (clock old.snaps)) (bytes_of_pages r.store.pages)
      → AllBegin (image_at new.snaps (clock new.snaps)) (bytes_of_pages s.store.pages))
  pub newest : HasNewest s
  -- the state and the storages
  pub state : s.state ≡ r.state
  pub declared : IfNone r.saved (IsPermutation given s.decls)
  pub kept : IfSome r.saved (λ _. s.decls ≡ r.decls)
  pub rising : Rises ◌<◌ (map id_of s.decls)
  -- the log files
  pub emptied : AllTell tells (parts_of old) → AreEmpty tells new
  -- where devices told what was recovered, they tell what is handed on
  pub rests : (found : Images) → AreTold tells (parts_of old) found → Recovers found r
      → (now : Images) × AreTold tells (parts_of new) now × SaysSettled now s
  -- and for the stops of a run: what is known of each device since the moments from which they rested
  pub goes_on : (found : Images) (from : Moments) → (rest : IsResting clock image_at (parts_of old))
      → HasNoRecords (parts_of old) → AreTold tells (parts_of old) found
      → RestsSince clock image_at from rest.point rest.pages rest.counted (parts_of old) → (is : Recovers found r)
      → GoesOn clock image_at from is.reading r.epoch r.state (sequence_of r.save.newest) s.save.newest (parts_of new)
