-- The log files and the pages of snapshots that the rounds of a run were over, one round after another: which files
-- grow, what counts of the closed ones, and what their gleans come to.
use Rattle.std.specs.Prelude.{◌≡◌, ◌⊎◌, ◌<◌, ◌≤◌, ℕ, Bool, true, false, not, List, [], ◌∷◌, ◌++◌, flat_map, filter}
use Rattle.std.specs.Prelude.{length, map}
use Rattle.std.specs.Prelude.{if◌then◌else◌, IsSome, Option, Some, None, replicate, slice_get, ⊤}
use Rattle.lists.specs.Fronts.{IsFront}
use Rattle.std.specs.List.{AllByRecursion, Contains}
use Rattle.std.specs.Option.{option_map}
use Rattle.serial_model.specs.History.{Entry}
use Rattle.serial_model.specs.State.{State}
use Rattle.serial_model.specs.declared.decl.Decl.{Decl}
use Rattle.serial_model.specs.declared.number.Commit.{Commit}
use Rattle.wire_form.specs.LogFile.{lines_bytes}
use Rattle.wire_form.specs.Pages.{Contents}
use Rattle.wire_form.specs.declared.bucket.Entry.{Entry as LogEntry}
use Rattle.wire_form.specs.declared.savepoint.Savepoint.{Savepoint}
use Rattle.log_mapper.specs.Mapped.{entries_after, is_after}
use Rattle.log_reducer.specs.Reduced.{AreLast, logged_as}
use Rattle.log_reducer.specs.declared.latest.Logged.{Logged}
use Rattle.log_writer.specs.Points.{saved_of}
use Rattle.snapshot_store.specs.Content.{CatalogueAt}
use Rattle.root_composer.specs.Composition.{IsComposed, IsTooDeep, WouldCompose}
use Rattle.gleaner.specs.Glean.{bank_of}
use Rattle.script_grammar.specs.declared.lines.KeeperLine.TheVariants.{Glean}
use Rattle.joint_crashes.specs.Images.{Images}
use Rattle.joint_crashes.specs.JointCrash.{parts_of}
use Rattle.recovery_core.specs.Recoverable.{IsReading, Reading}
use Rattle.joint_crashes.specs.Resting.{AreTold}
use Rattle.checkpoints.specs.Settled.{settled_pages}
use Rattle.tx_script.specs.Causes.{keeper_at_end}
use Rattle.tx_script.specs.Run.{LogFiles, Ran}
use Rattle.tx_script.specs.declared.answer.Answer.TheVariants as answers
use Rattle.round_engine.specs.Changes.{AreLogged}
use Rattle.round_engine.specs.Ends.{end_of, swaps}
use Rattle.command_line.specs.declared.command.Command.{Command}
use Rattle.command_line.specs.declared.command.Command.TheVariants.{Run}
use Rattle.program_calls.specs.Beginning.{HasNoEntries, IsSnapshotDue, SameDecls}
use Rattle.program_calls.specs.Vaults.{HoldsOf, NoneFailed, Vaults}

-- Where the log files and the snapshots stand between two rounds: the log files; that the closed ones have the commits
-- above an epoch, up to that at which they were closed; and the words of all pages.
pub record FilesAt : Type 0 where
  pub files : LogFiles
  pub since : ℕ
  pub words : List (List ℕ)

-- before the first round: all log files are empty, and those of even number grow
abbrev pub files_before : ℕ → List (List ℕ) → FilesAt
files_before saved words = record {
  files = record { odd = false; counted = replicate 8 0; closed_at = saved };
  since = saved;
  words = words;
}

-- what counts of the closed log files behind a round's lines: nothing does behind a snapshot of it
abbrev pub counted_behind : Ran → List ℕ
counted_behind ran = if (keeper_at_end ran).counted then ran.beside.files.counted else replicate 8 0

-- Behind a round that added pages. Where its join swapped the log files, those that grew are closed, and so many bytes
-- of them count.
abbrev pub files_after : FilesAt → Ran → List (List ℕ) → List ℕ → FilesAt
files_after f ran made counted = record {
  files = if swaps ran then record { odd = not f.files.odd; counted = counted; closed_at = ran.printed.end.epoch }
      else record { odd = f.files.odd; counted = counted_behind ran; closed_at = f.files.closed_at };
  since = if swaps ran then f.files.closed_at else f.since;
  words = f.words ++ made;
}

-- A round begins on these log files and pages; where a line of it asks for a snapshot, so many pages are let in.
pub record BeginsOver (room : ℕ) (f : FilesAt) (ran : Ran) : Type 0 where
  pub files : ran.beside.files ≡ f.files
  pub pages : ran.beside.pages ≡ length f.words
  pub room_is : Contains ran.printed.asked Glean → ran.beside.room ≡ room

-- ---- what the workers logged

-- Each worker's log has this of the run, over the storages that were declared, in some order.
pub record AllLogged (decls : List Decl) (s : State) (commits : List Entry) (logged : ℕ → List Commit) : Type 0 where
  pub storages : List Decl
  pub same : SameDecls decls storages
  pub each : (worker : ℕ) → worker < 8 → AreLogged storages worker s commits (logged worker)

-- So many bytes are the lines of the commits with epochs above one and up to another, worker by worker.
pub record AreLengthsOf (logged : ℕ → List Commit) (since closed_at : ℕ) (counted : List ℕ) : Type 0 where
  pub workers : length counted ≡ 8
  pub each : (worker size : ℕ) → slice_get counted worker ≡ Some size
      → size ≡ length (lines_bytes (filter (is_after since closed_at) (logged worker)))

-- the entries of these commits, each with the number of its log file
abbrev pub closed_entries : FilesAt → (ℕ → List Commit) → List Logged
closed_entries f logged = flat_map
    (λ worker. map (logged_as (bank_of (not f.files.odd) worker))
    (entries_after f.since f.files.closed_at (logged worker)))
    (0 ∷ 1 ∷ 2 ∷ 3 ∷ 4 ∷ 5 ∷ 6 ∷ 7 ∷ [])

-- ---- what gleans come to

-- The last entry of each key that the closed log files have, and the newest catalogue, whose page is the last one.
pub record MayGlean (f : FilesAt) (logged : ℕ → List Commit) : Type 0 where
  pub run : List LogEntry
  pub last : AreLast (closed_entries f logged) run
  pub contents : Contents
  pub here : CatalogueAt f.words (length f.words) contents

-- The snapshot that is made of these comes to so many pages, or one of them would stand too deep.
abbrev pub NextComesTo : (f : FilesAt) (logged : ℕ → List Commit) → MayGlean f logged → Option ℕ → Type 0
NextComesTo f logged of (Some new) =
    WouldCompose of.run f.files.closed_at (length f.words) of.contents f.words new
NextComesTo f logged of None = (made : List (List ℕ)) × IsTooDeep of.run of.contents f.words made

-- These are the pages of that snapshot.
abbrev pub AreOf : (f : FilesAt) (logged : ℕ → List Commit) → MayGlean f logged → List (List ℕ) → Type 0
AreOf f logged of made =
    IsComposed of.run f.files.closed_at (length f.words) of.contents f.words made

-- A round made so many pages of a snapshot.
abbrev pub MakesPages : Ran → ℕ → Type 0
MakesPages ran new = (epoch : ℕ) × Contains ran.printed.answers (answers.Snap epoch new)

-- What gleans found is what the closed log files come to, and the pages that were added are those of the snapshot.
pub record GleansOf (f : FilesAt) (ran : Ran) (made : List (List ℕ)) (logged : ℕ → List Commit) : Type 0 where
  pub found : (what : Option ℕ) → Contains ran.beside.gleans what
      → (of : MayGlean f logged) × NextComesTo f logged of what
  pub added : (new : ℕ) → MakesPages ran new → (of : MayGlean f logged) × AreOf f logged of made

-- Pages are added by a snapshot that is told, as many as it tells.
pub record AddsPages (ran : Ran) (made : List (List ℕ)) : Type 0 where
  pub some : (new : ℕ) → MakesPages ran new → length made ≡ new
  pub none : ((new : ℕ) → MakesPages ran new → ⊥) → made ≡ []

-- ---- round by round

module _ {D : Type 0} (v : Vaults D) (decls : List Decl) (s : State) (commits : List Entry) where
  -- By what the workers logged of the run: what gleans come to.
  pub record TellsFiles (f : FilesAt) (ran : Ran) (made : List (List ℕ)) : Type 0 where
    pub logged : ℕ → List Commit
    pub is_logged : AllLogged decls s commits logged
    pub gleans : GleansOf f ran made logged

  -- By what the workers logged of the run: the log files that a join closed count what was logged since the swap
  -- before.
  pub record ClosesFiles (f : FilesAt) (ran : Ran) (counted : List ℕ) : Type 0 where
    pub logged : ℕ → List Commit
    pub is_logged : AllLogged decls s commits logged
    pub lengths : AreLengthsOf logged f.files.closed_at ran.printed.end.epoch counted

  -- What a round leaves: how much counts of what its join closed, whatever the devices tell; and what its gleans come
  -- to, where they tell their bytes. So a glean that finds nothing is told over files too only where nothing counts.
  pub record LeavesFiles (f : FilesAt) (ran : Ran) (made : List (List ℕ)) (counted : List ℕ) : Type 0 where
    pub pages : AddsPages ran made
    pub closes : swaps ran ≡ true → ClosesFiles f ran counted
    pub told : HoldsOf v (λ found. TellsFiles f ran made)

  -- each round begins where the one before it left the files and the pages, up to where the last one left them
  abbrev pub FilesFrom : ℕ → FilesAt → List Ran → FilesAt → Type 0
  FilesFrom room f [] g = g ≡ f
  FilesFrom room f (ran ∷ rans) g = BeginsOver room f ran × (made : List (List ℕ)) × (counted : List ℕ)
      × LeavesFiles f ran made counted × FilesFrom room (files_after f ran made counted) rans g

-- ---- the first round

-- The words of all pages that a settling leaves: those that there were, those with a new snapshot's, or the first
-- catalogue of all.
abbrev pub AreSettled : List Decl → Reading → List (List ℕ) → Type 0
AreSettled decls reading words = (HasNoEntries reading × (storages : List Decl) × SameDecls decls storages
    × (words ≡ settled_pages (option_map saved_of reading.point) reading.pages storages))
    ⊎ ((point : Savepoint) × (run : List LogEntry) × (contents : Contents)
    × IsSnapshotDue reading point run contents × (made : List (List ℕ))
    × IsComposed run point.epoch point.catalogue contents reading.pages made × (words ≡ reading.pages ++ made))

-- what the devices said as the call began leaves these words, once it is settled
abbrev pub BeginsWith : List Decl → List (List ℕ) → Images → Type 0
BeginsWith decls words found = (reading : Reading) × IsReading found reading × AreSettled decls reading words

-- ---- the last round

-- the last of these rounds was made durable
abbrev pub EndsDurable : List Ran → Type 0
EndsDurable rans = (before : List Ran) × (last : Ran) × (rans ≡ before ++ last ∷ []) × IsSome last.printed.durable

-- Of these pages, over which rounds were run, devices have the first ones: all, where the last round was made durable,
-- and else at least those that it began on.
pub record HasSaved (words : List (List ℕ)) (rans : List Ran) (now : Reading) : Type 0 where
  pub first : IsFront now.pages words
  pub all : EndsDurable rans → now.pages ≡ words
  pub least : (before : List Ran) (last : Ran) → rans ≡ before ++ last ∷ [] → last.printed.durable ≡ None
      → last.beside.pages ≤ length now.pages

-- so it is of what the devices say as the call returns
abbrev pub KeepsPages : {D : Type 0} → Vaults D → List (List ℕ) → List Ran → Type 0
KeepsPages v words rans = (found now : Images) (reading : Reading)
    → AreTold v.tells (parts_of v.was) found → AreTold v.tells (parts_of v.is) now → IsReading now reading
    → HasSaved words rans reading

-- no device failed, or no round ended the run
abbrev pub IsUnbroken : {D : Type 0} → Vaults D → List Ran → Type 0
IsUnbroken v rans = NoneFailed v ⊎ AllByRecursion (λ ran. end_of ran ≡ None) rans

-- The rounds of a run were over these log files and pages: the first over what settling left, with no log file filled,
-- and each other one over what the one before it left. The pages are those that the devices have afterwards: so what a
-- round tells as a new snapshot was put there.
pub record RunsOverFiles {D : Type 0} (v : Vaults D) (room : ℕ) (decls : List Decl) (s : State) (saved : ℕ)
    (commits : List Entry) (rans : List Ran) : Type 0 where
  pub words : List (List ℕ)
  pub begins : (rans ≡ [] → ⊥) → HoldsOf v (BeginsWith decls words)
  pub last : FilesAt
  pub rounds : FilesFrom v decls s commits room (files_before saved words) rans last
  pub pages : IsUnbroken v rans → (rans ≡ [] → ⊥) → KeepsPages v last.words rans

-- so many pages are let in
abbrev pub room_of : Command → ℕ
room_of (Run options) = options.snap
room_of _ = 0
