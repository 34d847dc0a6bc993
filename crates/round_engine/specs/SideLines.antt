-- What the maintenance thread's lines do beside running workers: on what is lent to it of a runtime and of a vault, and
-- on its pass of the words.
use Rattle.std.specs.Prelude.{◌≡◌, ◌≢◌, ◌≤◌, ◌+◌, ◌++◌, ℕ, List, [], ◌∷◌, length, replicate, false, not, Option}
use Rattle.std.specs.Prelude.{Contains, None, Result, Some, get_or, slice_get, true, ⊤}
use Rattle.std.specs.FinMap.{empty}
use Rattle.std.specs.List.{AllByRecursion}
use Rattle.lists.specs.declared.memory.OrMemory.{OrMemory}
use Rattle.outside.specs.declared.device.Device.{Device}
use Rattle.wire_form.specs.Pages.{Contents}
use Rattle.snapshot_store.specs.Content.{words_of}
use Rattle.snapshot_store.specs.Store.{HoldsPages, StoreState}
use Rattle.gleaner.specs.Glean.{CanGlean, none_counted}
use Rattle.gleaner.specs.declared.closed.Closed.{Closed}
use Rattle.gleaner.specs.declared.closed.Newest.{Newest}
use Rattle.gleaner.specs.declared.gleaning.GleanFault.{GleanFault}
use Rattle.gleaner.specs.declared.gleaning.Gleaned.{Gleaned}
use Rattle.log_writer.specs.Points.{SaveState}
use Rattle.log_writer.specs.declared.vault.Vault.{Vault}
use Rattle.serial_model.specs.Decls.{AreDecls}
use Rattle.serial_model.specs.declared.decl.Decl.{Decl}
use Rattle.wire_form.specs.Words.{IsMark}
use Rattle.wire_form.specs.declared.clock.Mark.{Mark}
use Rattle.engine_pages.specs.Views.{IsResting, bare_seat}
use Rattle.engine_pages.specs.declared.view.Dropped.{Dropped as Counts}
use Rattle.engine_pages.specs.declared.view.Met.{Met}
use Rattle.engine_pages.specs.declared.view.View.{View}
use Rattle.script_grammar.specs.Script.{Round, keeper_lines}
use Rattle.page_drops.specs.declared.calls.Dropped.{Dropped}
use Rattle.script_grammar.specs.declared.lines.KeeperLine.{KeeperLine}
use Rattle.script_grammar.specs.declared.lines.KeeperLine.TheVariants as asks
use Rattle.tx_script.specs.Run.{CanRun}
use Rattle.tx_script.specs.Seen.{NeverBack, first_places}
use Rattle.tx_script.specs.declared.answer.Answer.{Answer}
use Rattle.tx_script.specs.declared.answer.Answer.TheVariants as answers
use Rattle.worker_logs.specs.Logs.{fresh_log}
use Rattle.worker_logs.specs.Shown.{Stood}
use Rattle.worker_logs.specs.declared.savepoints.Beside.{Beside}
use Rattle.worker_logs.specs.declared.savepoints.Side.{Side}
use Rattle.shared_rounds.specs.Below.{AreClaimed, calls_for, calls_in}
use Rattle.shared_rounds.specs.Beside.{HoldsNothing, Went}
use Rattle.shared_rounds.specs.Drops.{HasDropped}
use Rattle.round_engine.specs.Ends.{save_limited}
use Rattle.round_engine.specs.Keeping.{CanKeep, RunsKeeper, seen_unless, StepsKeeper, StepsSave}
use Rattle.round_engine.specs.RoundCalls.{is_answered}
use Rattle.round_engine.specs.Gleans.{GleansFiles}
pub use Rattle.round_engine.specs.SavesMet.{all_met}
use Rattle.round_engine.specs.Sides.{closed_in, growing_in, is_odd}
use Rattle.round_engine.specs.Standing.{RuntimeState, Standing}
use Rattle.round_engine.specs.declared.keeper.KeeperEnd.{KeeperEnd}
use Rattle.round_engine.specs.declared.report.End.{End}
use Rattle.round_engine.specs.declared.keeper_side.Lent.{Lent}

-- an engine of words with these storages, so many slots, these pages and these counts of drops, at an epoch of the
-- clock, as one of which nothing else is known
abbrev pub bare_stands : List Decl → ℕ → ℕ → List (List ℕ) → ℕ → List Counts → Standing
bare_stands decls epoch slots pages resident drops = record {
  decls = decls;
  state = empty;
  opening = [];
  clock = record { epoch = epoch; draw = 1 };
  mine = [];
  refused = [];
  met = [];
  slots = slots;
  pages = pages;
  resident = resident;
  drops = drops;
  ended = false;
}

-- what the pass of the maintenance thread knows of its engine
abbrev pub stands_in_view : List Decl → View → Standing
stands_in_view decls v = bare_stands decls v.epoch v.layout.slots v.pages v.layout.resident v.drops

-- What is lent of a runtime with these storages, where its pass knows this of the engine, as a runtime that has nothing
-- else. No line of the maintenance thread looks at the rest.
abbrev pub lent_at : List Decl → Lent → View → RuntimeState
lent_at decls lent v = record {
  stands = stands_in_view decls v;
  save = lent.save.now;
  store = lent.store.now;
  room = lent.room;
  side = lent.side;
  counted = lent.counted.now;
  closed_at = lent.closed_at;
  logs = replicate 8 (fresh_log 0);
  down = false;
}

-- what counts beside the growing log files
abbrev pub beside_in : Lent → Beside
beside_in lent = record { growing = lent.side; closed = lent.counted.now; count = length lent.store.now.pages }

-- the closed log files, and what of them counts
abbrev pub closed_in_lent : Lent → Closed
closed_in_lent lent = record { odd = not (is_odd lent.side); lengths = lent.counted.now; epoch = lent.closed_at }

-- what is lent of a runtime has these values
pub record IsLent (lent : Lent) (save : SaveState) (store : StoreState) (counted : List ℕ) (room : ℕ) (side : Side)
    (closed_at : ℕ) : Type 0 where
  pub saves : lent.save.now ≡ save
  pub stores : lent.store.now ≡ store
  pub counts : lent.counted.now ≡ counted
  pub most : lent.room ≡ room
  pub grows : lent.side ≡ side
  pub shut_at : lent.closed_at ≡ closed_at

-- what is lent is the same behind it, whatever was done to it
pub record AreSameLoans (old new : Lent) : Type 0 where
  pub save : new.save.ghost_name ≡ old.save.ghost_name
  pub store : new.store.ghost_name ≡ old.store.ghost_name
  pub counted : new.counted.ghost_name ≡ old.counted.ghost_name

-- what a glean of the closed log files asks, where those of this side grow, over these pages
pub record CanGleanOver {D : Type 0} (tells : D → Option (List ℕ)) (side : Side) (decls : List Decl) (newest : Newest)
    (closed : Closed) (room : ℕ) (store : StoreState) (vault : Vault D) : Type 0 where
  pub can : none_counted closed.lengths ≢ true
      → (contents : Contents) × CanGlean (words_of store.pages) decls newest closed contents
  pub files : length (closed_in side vault) ≡ 8
  pub few : room ≤ 65536
  pub sound : store.sound ≡ true
  pub holds : HoldsPages tells vault.snaps store.pages

-- What it leaves of them: it touches neither the growing ones nor the save, the ties and the cuts.
pub record HasGleanedOver {D : Type 0} (tells : D → Option (List ℕ)) (clock : D → ℕ)
    (image_at : D → ℕ → List ℕ → Type 0) (faults : D → ℕ) (side : Side) (decls : List Decl) (newest : Newest)
    (closed : Closed) (room : ℕ) (store_was store : StoreState) (before now : Vault D)
    (answer : Result Gleaned (OrMemory GleanFault)) (beside : Option Device) : Type 0 where
  pub gleans : GleansFiles tells clock image_at faults decls newest closed room store_was store before.snaps now.snaps
      (closed_in side before) (closed_in side now) answer beside
  pub growing : growing_in side now ≡ growing_in side before
  pub save : now.save ≡ before.save
  pub ties : now.ties ≡ before.ties
  pub cuts : now.cuts ≡ before.cuts

-- The marks of all workers were met at these places, none before the last that the pass knew of as it seated the
-- worker.
pub record AreMetAt (v : View) (marks : List Mark) (places : List ℕ) : Type 0 where
  pub each : AllByRecursion IsMark marks
  pub eight : length marks ≡ 8
  pub count : length places ≡ 8
  pub begun : (worker place : ℕ) → slice_get places worker ≡ Some place
      → length (get_or v.parked worker bare_seat).marks ≤ place + 1

-- so it was list by list
abbrev pub AllMetAt : View → List (List Mark) → List (List ℕ) → Type 0
AllMetAt v [] [] = ⊤
AllMetAt v (marks ∷ seen) (these ∷ places) = AreMetAt v marks these × AllMetAt v seen places
AllMetAt v _ _ = ⊥

-- The pass met these marks, list by list, and no others. No mark of a worker that it met stands before one that it had
-- met.
pub record HasSeenMarks (seen : List (List Mark)) (v w : View) : Type 0 where
  pub places : List (List ℕ)
  pub all : AllMetAt v seen places
  pub back : NeverBack first_places places
  pub rises : (x : Met) → Contains v.met x → (these : List ℕ) → Contains places these → (place : ℕ)
      → slice_get these x.worker ≡ Some place → x.place ≤ place
  pub met : w.met ≡ v.met ++ all_met seen places

-- Of each worker the mark at this place among those that its log showed in the round is the one that was seen.
abbrev pub AreStoodAt : List (List Stood) → List ℕ → List Mark → Type 0
AreStoodAt [] [] [] = ⊤
AreStoodAt (mine ∷ marks) (place ∷ places) (mark ∷ seen) =
    ((m : Stood) × (slice_get mine place ≡ Some m) × (m.mark ≡ mark)) × AreStoodAt marks places seen
AreStoodAt _ _ _ = ⊥

-- so it is list by list
abbrev pub AllStoodAt : List (List Stood) → List (List ℕ) → List (List Mark) → Type 0
AllStoodAt marks [] [] = ⊤
AllStoodAt marks (these ∷ places) (seen ∷ more) = AreStoodAt marks these seen × AllStoodAt marks places more
AllStoodAt marks _ _ = ⊥

module _ {D : Type 0} (tells : D → Option (List ℕ)) (clock : D → ℕ) (image_at : D → ℕ → List ℕ → Type 0) where
  -- What a line finds: the growing log files are lent to the workers, and the rest is as it may be kept on. The epoch at
  -- which the others were closed is over, as its pass knows while workers are seated.
  pub record CanKeepBeside (storages : List Decl) (lent : Lent) (v : View) (vault : Vault D) : Type 0 where
    pub apart : growing_in lent.side vault ≡ []
    pub can : CanKeep tells clock image_at (lent_at storages lent v) vault
    pub decls : v.layout.decls ≡ storages
    pub past : (v.made ≡ [] → ⊥) → lent.closed_at ≤ v.past
    pub few : v.layout.resident ≤ 65536
    pub claimed : AreClaimed v
    pub rests : IsResting v.seat
    pub free : HoldsNothing v
    pub declared : AreDecls v.layout.decls

  -- What all lines of a round want of what is lent, with room for so many answers: none was run yet.
  pub record CanRunBeside (round : Round) (lent : Lent) (vault : Vault D) (said : List Answer) (room : ℕ)
      (end : KeeperEnd) (v : View) : Type 0 where
    pub lines : CanRun v.layout.decls round
    pub made : v.made ≢ []
    pub ready : CanKeepBeside v.layout.decls lent v vault
    pub tie_room : length (keeper_lines round) ≤ vault.ties.room
    pub none : said ≡ []
    pub answer_room : length (keeper_lines round) ≤ room
    pub refusal : end.refusal ≡ None
    pub limited : end.limited ≡ false
    pub calls : calls_in end.calls ≡ []

-- A drop that was run went over the newest snapshot's roots of these pages, and what is answered is what it came to.
-- Nothing is said here of other lines.
abbrev pub DropsBeside : Option End → KeeperLine → Answer → List (List ℕ) → View → View → Type 0
DropsBeside None asks.Drop (answers.Drop dropped kept) pages v w =
    (tally : Dropped) × (tally.dropped ≡ dropped) × (tally.kept ≡ kept) × HasDropped pages tally v w
DropsBeside refusal line answer pages v w = ⊤

module _ {D : Type 0} (tells : D → Option (List ℕ)) (clock : D → ℕ) (image_at : D → ℕ → List ℕ → Type 0)
    (faults : D → ℕ) where
  -- A save by a line: it went by the marks that were loaded behind the clock's epoch.
  pub record SavesBeside (decls : List Decl) (answer : Answer) (old new : Lent) (v w : View) (before now : Vault D)
      : Type 0 where
    pub marks : List Mark
    pub steps : StepsSave tells clock image_at faults marks answer (lent_at decls old v) (lent_at decls new w) before
        now
    pub saw : HasSeenMarks (marks ∷ []) v w
    pub went : Went v w

  -- A line was run, behind a refusal or not, and its pass went on from the one view to the other.
  pub record StepsBeside (decls : List Decl) (refusal : Option End) (line : KeeperLine) (answer : Answer)
      (next : Option End) (old new : Lent) (v w : View) (before now : Vault D) : Type 0 where
    pub marks : List Mark
    pub steps : StepsKeeper tells clock image_at faults marks refusal line answer next (lent_at decls old v)
        (lent_at decls new w) before now
    pub saw : HasSeenMarks (seen_unless refusal line marks) v w
    pub dropped : DropsBeside refusal line answer (words_of old.store.now.pages) v w
    pub went : Went v w

  -- Lines were run, one after another.
  pub record RunLinesBeside (decls : List Decl) (lines : List KeeperLine) (said : List Answer) (refusal : Option End)
      (old new : Lent) (v w : View) (before now : Vault D) : Type 0 where
    pub seen : List (List Mark)
    pub runs : RunsKeeper tells clock image_at faults seen lines said refusal (lent_at decls old v)
        (lent_at decls new w) before now
    pub saw : HasSeenMarks seen v w
    pub went : Went v w

  -- They were run: what was answered, what was refused, and what the gate was told.
  pub record HasRunBeside (round : Round) (old new : Lent) (before now : Vault D) (said : List Answer) (end : KeeperEnd)
      (v w : View) : Type 0 where
    pub runs : RunLinesBeside v.layout.decls (keeper_lines round) said end.refusal old new v w before now
    pub limited : end.limited ≡ save_limited (keeper_lines round) said
    pub calls : calls_in end.calls ≡ calls_for is_answered 255 0 said
