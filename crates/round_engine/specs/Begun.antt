-- How a runtime begins.
use Rattle.std.specs.Prelude.{◌≡◌, ◌-◌, ℕ, List, [], replicate, false}
use Rattle.serial_model.specs.State.{State}
use Rattle.serial_model.specs.declared.decl.Decl.{Decl}
use Rattle.serial_model.specs.declared.key.Key.{Key}
use Rattle.serial_model.specs.declared.number.Number.{Number}
use Rattle.wire_form.specs.Pages.{Contents}
use Rattle.log_writer.specs.Points.{SaveState}
use Rattle.snapshot_store.specs.Content.{SnapshotStands}
use Rattle.snapshot_store.specs.Store.{StoreState}
use Rattle.commit_core.specs.Keys.{content_at}
use Rattle.worker_logs.specs.Logs.{fresh_log}
use Rattle.worker_logs.specs.declared.savepoints.Side.TheVariants.{Even}
use Rattle.shared_rounds.specs.Standing.{Standing}
use Rattle.round_engine.specs.FirstRecords.{stands_in}
use Rattle.round_engine.specs.Standing.{RuntimeState}

-- the engine in a state, at this number, where nothing was run, over words such as these
abbrev pub begins_at : List Decl → State → Standing → Number → Standing
begins_at decls state words first = record words {
  decls = decls;
  state = state;
  clock = first;
  mine = [];
  refused = [];
  met = [];
  drops = [];
  ended = false;
}

-- The words that threads share open with the records of the snapshot whose catalogue has this number: at each key of a
-- storage with its value and with its number, and as never written where no page has a record.
abbrev pub OpensOn : List (List ℕ) → ℕ → Standing → Type 0
OpensOn pages number s = (contents : Contents) → SnapshotStands pages number contents → (key : Key)
    → content_at s.opening key ≡ stands_in pages contents.storages key

-- An engine begins in this state, at this number, and opens with the records of that snapshot. Its words have so many
-- slots, these pages, and room for as many as are let in.
pub record Begins (pages : List (List ℕ)) (number : ℕ) (decls : List Decl) (state : State) (first : Number)
    (slots room : ℕ) (s : Standing) : Type 0 where
  pub stands : s ≡ begins_at decls state s first
  pub opens : OpensOn pages number s
  pub slots_are : s.slots ≡ slots
  pub pages_are : (s.pages ≡ pages) × (s.resident ≡ room)

-- In a settled state with its stores, at this number, over words such as these, and so many pages let in. All log files
-- are empty: those of even number grow, with empty logs marked at the epoch before, which is also that at which the others
-- were closed.
abbrev pub begun : List Decl → State → Standing → SaveState → StoreState → ℕ → Number → RuntimeState
begun decls state words save store room first = record {
  stands = begins_at decls state words first;
  save = save;
  store = store;
  room = room;
  side = Even;
  counted = replicate 8 0;
  closed_at = first.epoch - 1;
  logs = replicate 8 (fresh_log (first.epoch - 1));
  down = false;
}
