-- A round put together from its phases, whichever engine ran its lines.
use Rattle.std.proofs.Common.{◌≡◌, ◌↔◌, ◌∙◌, ◌≤◌, ◌<◌, ◌+◌, ◌-◌, ◌⊎◌, ◌++◌, ◌∷◌, inl, inr, sym, ap, subst, refl, ℕ}
use Rattle.std.proofs.Common.{suc, List, [], length, map, Bool, true, false, Option, Some, None, arith}
use Rattle.std.specs.Prelude.{get_or, is_some, option_to_list, slice_get, Ok}
use Rattle.std.specs.Option.{option_map}
use Rattle.std.specs.List.{AllByRecursion, Contains}
use Rattle.std.proofs.lemmas.List.{append-nil, length-map}
use Rattle.std.proofs.lemmas.Option.{same_Some}
use Rattle.lists.specs.Each.{all_at}
use Rattle.lists.specs.Elements.{in_none}
use Rattle.log_writer.specs.Vault.{IsWhole, disk_in}
use Rattle.outside.specs.declared.device.Device.{Device}
use Rattle.outside.specs.declared.device.Device.TheVariants as devices
use Rattle.log_writer.specs.declared.vault.Vault.{Vault}
use Rattle.serial_model.specs.declared.number.Commit.{Commit}
use Rattle.serial_model.specs.declared.op.Op.{Op}
use Rattle.script_grammar.specs.Script.{Round, keeper_lines, lines_of_worker, worker_lines}
use Rattle.wire_form.specs.declared.clock.Mark.{Mark}
use Rattle.log_writer.specs.Points.{sequence_of}
use Rattle.log_writer.specs.declared.saved.Saved.{Saved}
use Rattle.joint_crashes.specs.Images.{epoch_of}
use Rattle.joint_crashes.specs.VaultReads.{RoseIn}
use Rattle.tx_script.specs.Run.{AdvancesTo, Dropped, LogFailed, LogFiles, LogFull, LogRefusal, Ran}
use Rattle.tx_script.specs.Causes.{AllCaused, AnswersCaused, AreMarksOf, KeeperAt, LogsCaused, keeper_at_end, keeper_before}
use Rattle.tx_script.specs.Causes.{last_sequence, log_limit as file_limit, log_of, longest_line, some_counted}
use Rattle.tx_script.specs.CausedBeside.{CausedBeside, SavesSee, drops_told}
use Rattle.tx_script.specs.Conflicts.{WorkersMet, met_for}
use Rattle.tx_script.specs.Draws.{commit_count}
use Rattle.tx_script.specs.Readied.{AllReadied}
use Rattle.tx_script.specs.Seen.{AllInOrder}
use Rattle.tx_script.specs.declared.outcome.Outcome.{Outcome}
use Rattle.tx_script.specs.declared.outcome.Outcome.TheVariants.{Unrun}
use Rattle.worker_logs.specs.Logs.{IsJoined, LogState, log_limit}
use Rattle.worker_logs.specs.Saves.{closed_number, growing_number}
use Rattle.worker_logs.specs.declared.savepoints.Side.{Side}
use Rattle.worker_logs.specs.declared.savepoints.Side.TheVariants.{Even, Odd}
use Rattle.worker_logs.specs.Rows.{AreLogsUp, IsBeforeOne, IsLogUp, KeepsMarkIn, NeverFall}
use Rattle.shared_rounds.specs.Shares.{BeginsAt, shown_epochs}
use Rattle.round_engine.specs.Changes.{AreLogged}
use Rattle.round_engine.specs.Crashes.{CarriesCrashes}
use Rattle.engine_pages.specs.declared.view.Dropped.{Dropped as Counts}
use Rattle.engine_pages.specs.declared.view.Met.{Met}
use Rattle.round_engine.specs.Drops.{counts_of}
use Rattle.round_engine.specs.Ends.{comes_to_advance, comes_to_save, durable_of, end_of, epoch_joined, swaps, where_true}
use Rattle.round_engine.specs.Gleans.{RoundGleans}
use Rattle.round_engine.specs.Histories.{HasGathered}
use Rattle.round_engine.specs.Keeping.{IsSavedBySeen, KeepsSaves, epochs_in, keeper_on}
use Rattle.round_engine.specs.SavesMet.{MetBySaves}
use Rattle.round_engine.specs.Phases.{RunsAll}
use Rattle.round_engine.specs.Unbegun.{RoomAlone}
use Rattle.round_engine.specs.RanRound.{AreRoundMarks, LeavesVault, Rounds, SwapsFiles}
use Rattle.round_engine.specs.Saves.{AreSaved, AreShownAt, beside_at_save, GoesBy, saves_told}
use Rattle.round_engine.specs.Shares.{IsShare, Share, logged_in}
use Rattle.round_engine.specs.Sides.{closed_in, growing_in, is_odd}
use Rattle.round_engine.specs.Standing.{beside_of, files_of, IsMarkBefore, IsReady, RuntimeState, Standing, StandsOn}
use Rattle.round_engine.specs.Logs.{IsRefusedBy}
use Rattle.round_engine.specs.Workers.{LeavesOut, idled}
use Rattle.round_engine.specs.declared.report.End.{End}
use Rattle.round_engine.specs.declared.report.Report.{Report}
use Rattle.round_engine.proofs.Beside.{SameSaves}
use Rattle.round_engine.proofs.CrashesLeft.{with_crashes}
use Rattle.round_engine.proofs.Devices.{are_down, at_first, bank_in, banks_in, down_at, IsBeside, others_in, save_in}
use Rattle.round_engine.proofs.Ended.{devices_down}
use Rattle.round_engine.proofs.JoinEnds.{before_later}
use Rattle.round_engine.proofs.LinesLeft.{LastStep, logs_total, logs_up, shown_get, shown_in, shown_some, shown_told}
use Rattle.round_engine.proofs.Numbered.{closed_many, growing_at, growing_many, log_of_is, whole_of}
use Rattle.round_engine.proofs.SharesRun.{IsRanOf, logged_above, logged_nothing, logged_some, run_caused, same_decls}
use Rattle.round_engine.proofs.SharesRun.{marks_of, readied_in, same_slots, shares_readied, shares_rise, tries_caused}
use Rattle.round_engine.proofs.SharesRun.{share_lines, shares_lines, shares_run}
use Rattle.round_engine.proofs.RoundMarks.{stood_from, stood_long, stood_many, stood_marks, stood_one, stood_shown}
use Rattle.round_engine.proofs.RoundMarks.{stood_place, stood_two, worker_marks}
use Rattle.round_engine.proofs.Whole.{AreShown, IsAtRest, LogsTotal, SeenIn, below_8, leaves_vault}
use Rattle.round_engine.proofs.Places.{item_at, map_at, within_of}

-- ---- lists that agree

-- what is told of two lists of one length at each index is told of both
pub map_same : {X Y Z : Type 0} (f : X → Z) (g : Y → Z) (xs : List X) (ys : List Y) → length xs ≡ length ys
    → ((i : ℕ) (x : X) (y : Y) → slice_get xs i ≡ Some x → slice_get ys i ≡ Some y → f x ≡ g y) → map f xs ≡ map g ys
map_same f g [] [] many each = refl
map_same f g [] (y ∷ ys) many each = absurd cc
map_same f g (x ∷ xs) [] many each = absurd cc
map_same f g (x ∷ xs) (y ∷ ys) many each =
    ap (λ z. z ∷ map f xs) (each 0 x y refl refl)
    ∙ ap (λ l. g y ∷ l) (map_same f g xs ys (omega (arith, many)) (λ i a b at there. each (suc i) a b at there))

-- ---- logs while the lines run

-- the log of a worker as a round begins is as far up as it was
pub idled_up : {D : Type 0} {tells : D → Option (List ℕ)} (lines : List (List Op)) (log : LogState) (bank : D)
    → IsLogUp tells log bank → IsLogUp tells (idled lines log) bank
idled_up [] log bank up = record { up = up.up; limit = up.limit; reaches = up.reaches }
idled_up (ops ∷ lines) log bank up = up

-- a log's mark behind the lines is of an epoch before the last that the clock had
pub mark_stopped : (lines : List (List Op)) (was begins log : LogState) (epoch high : ℕ) → 1 ≤ epoch → epoch ≤ high
    → IsJoined epoch was → idled lines was ≡ begins → KeepsMarkIn epoch high begins log
    → IsMarkBefore high log.mark.epoch
mark_stopped lines was begins log epoch high first later joined is (inl same) =
    subst (λ (m : Mark). IsMarkBefore high m.epoch) (sym same)
    (subst (λ (l : LogState). IsMarkBefore high l.mark.epoch) is
    (before_later (idled lines was).mark.epoch epoch high later (idled_before lines was epoch first joined)))
  where
    idled_before : (lines : List (List Op)) (was : LogState) (epoch : ℕ) → 1 ≤ epoch → IsJoined epoch was
        → IsMarkBefore epoch (idled lines was).mark.epoch
    idled_before [] was epoch first joined = tt
    idled_before (ops ∷ lines) was epoch first joined =
        subst (IsMarkBefore epoch) (sym (ap (λ (m : Mark). m.epoch) joined.marked)) (omega (arith, first))
mark_stopped lines was begins log epoch high first later joined is (inr set) =
    set_before log.mark.epoch set
  where
    set_before : (marked : Option ℕ) → IsBeforeOne epoch high marked → IsMarkBefore high marked
    set_before None is = tt
    set_before (Some e) is = omega (arith, first, later, is.1)

-- what a worker's part tells of its log
pub record LeftAt (epoch : ℕ) (p : Share) (begins log : LogState) : Type 0 where
  pub refused : IsRefusedBy p.refusal log.journal
  pub limit : log.journal.limit ≡ begins.journal.limit

-- what was left out of the lines of a worker, by the log that it had before the round
idled_out : {D : Type 0} {tells : D → Option (List ℕ)} {clock : D → ℕ} {image_at : D → ℕ → List ℕ → Type 0}
    {faults : D → ℕ} {epoch : ℕ} {logged : List Commit} {refusal : Option LogRefusal} {log : LogState} {bank : D}
    (lines : List (List Op)) (outcomes : List Outcome) → length outcomes ≡ length lines
    → LeavesOut tells clock image_at faults epoch (Contains outcomes Unrun) logged refusal (idled lines log) bank
    → LeavesOut tells clock image_at faults epoch (Contains outcomes Unrun) logged refusal log bank
idled_out [] [] many out = record { refuses = λ has. absurd (in_none Unrun has); filled = out.filled }
idled_out [] (o ∷ outcomes) many out = absurd (omega (arith, many))
idled_out (ops ∷ lines) outcomes many out = out

-- ---- what the lines were refused

pub map_true : {X : Type 0} (f : X → End) (b : Bool) (x : X) → where_true b (f x) ≡ option_map f (where_true b x)
map_true f true x = refl
map_true f false x = refl

-- ---- the run that is told

abbrev pub ran_of : ℕ → Round → RuntimeState → List LogState → RuntimeState → List LogState → List Share → Option Saved
    → List Device → List (Option ℕ) → Option (Device × ℕ) → List (List ℕ) → Report → Ran
ran_of tries round old start kept logs shares failed others gleans damaged places report = record {
  printed = record {
    begin = old.stands.clock;
    end = kept.stands.clock;
    outcomes = report.outcomes;
    asked = keeper_lines round;
    answers = report.keeper;
    durable = report.durable;
  };
  beside = record {
    sequence = sequence_of old.save.newest;
    pages = length old.store.pages;
    room = old.room;
    slots = old.stands.slots;
    files = files_of old;
    marks = marks_of shares;
    readied = readied_in shares;
    seen = places;
    logs = map (λ (p : Share). p.refusal) shares;
    tries = tries;
    refused = map (λ (p : Share). p.tries_refused) shares;
    gleans = gleans;
    drops = drops_told report.keeper;
    devices = devices_down old.side (are_down logs) (is_some failed) others;
    damaged = damaged;
  };
}

-- the causes of refusals of logs
pub logs_caused : (files : LogFiles) (failed : List Device) (worker : ℕ) (refusals : List (Option LogRefusal))
    → ((i : ℕ) → slice_get refusals i ≡ Some (Some LogFailed) → Contains failed (log_of files (worker + i)))
    → ((i size : ℕ) → slice_get refusals i ≡ Some (Some (LogFull size)) → file_limit < size + longest_line)
    → LogsCaused files failed worker refusals
logs_caused files failed worker [] devices_in full = tt
logs_caused files failed worker (None ∷ refusals) devices_in full =
    logs_caused files failed (worker + 1) refusals
    (λ i at. subst (λ n. Contains failed (log_of files n)) (next worker i) (devices_in (suc i) at)) (λ i size at. full (suc i) size at)
  where
    next : (worker i : ℕ) → worker + suc i ≡ (worker + 1) + i
    next worker i = omega arith
logs_caused files failed worker (Some LogFailed ∷ refusals) devices_in full = (
  subst (λ n. Contains failed (log_of files n)) (first worker) (devices_in 0 refl),
  logs_caused files failed (worker + 1) refusals
      (λ i at. subst (λ n. Contains failed (log_of files n)) (next worker i) (devices_in (suc i) at)) (λ i size at. full (suc i) size at),
)
  where
    first : (worker : ℕ) → worker + 0 ≡ worker
    first worker = omega arith

    next : (worker i : ℕ) → worker + suc i ≡ (worker + 1) + i
    next worker i = omega arith
logs_caused files failed worker (Some (LogFull size) ∷ refusals) devices_in full = (
  full 0 size refl,
  logs_caused files failed (worker + 1) refusals
      (λ i at. subst (λ n. Contains failed (log_of files n)) (next worker i) (devices_in (suc i) at)) (λ i size at. full (suc i) size at),
)
  where
    next : (worker i : ℕ) → worker + suc i ≡ (worker + 1) + i
    next worker i = omega arith

none_more : (n m : ℕ) → m ≡ n → 0 + n ≡ m
none_more n m same = omega (arith, same)

none_plus : (n : ℕ) → 0 + n ≡ n
none_plus n = omega arith

-- ---- the end of a round, however its join went

-- ---- the vault as the lines of a round find it

pub same_closed_in : {D : Type 0} (side : Side) (old new : Vault D) → RoomAlone old new → closed_in side new ≡ closed_in side old
same_closed_in Even old new room = ap (λ v. v.items) room.odd
same_closed_in Odd old new room = ap (λ v. v.items) room.even

-- where the maintenance thread stands, by its parts
abbrev pub keeper_of : ℕ → RuntimeState → KeeperAt
keeper_of epoch r = record {
  epoch = epoch;
  sequence = sequence_of r.save.newest;
  pages = length r.store.pages;
  counted = some_counted r.counted;
  refused = false;
}

module _ {D : Type 0} (tells : D → Option (List ℕ)) (clock : D → ℕ) (image_at : D → ℕ → List ℕ → Type 0)
    (faults : D → ℕ) (tries : ℕ) (round : Round) (old : RuntimeState) (start : List LogState) (new : RuntimeState)
    (before now : Vault D) (report : Report)
    (all : RunsAll tells clock image_at faults tries round (record old { logs = start }) new before now report) where
  -- the run that is told, with these logs in the end
  abbrev pub ran_with : List LogState → Option Saved → List Device → Ran
  ran_with logs failed others = ran_of tries round old start all.kept logs all.lines.shares failed others all.keeper.gleans
      all.keeper.damaged all.places report

  -- What is known of a round in the end, with these logs before the swap.
  pub record RoundEnds (logs : List LogState) (stored : List Saved) (failed : Option Saved) (others : List Device) : Type 0 where
    pub logs_many : length logs ≡ 8
    pub now_many : length (growing_in old.side now) ≡ 8
    pub keeps : KeepsSaves tells clock image_at faults stored failed old new before now
    pub saves : AreSaved (IsSavedBySeen (SeenIn old.stands.clock.epoch (epoch_joined (ran_with logs failed others))
        (shown_in all.lines.shares) logs))
        (beside_of old) report.keeper (stored ++ option_to_list failed)
    pub placed : (k : ℕ) (saved : Saved) (places : List ℕ) → slice_get (stored ++ option_to_list failed) k ≡ Some saved
        → slice_get all.places k ≡ Some places → (seen : List Mark) × (slice_get all.seen k ≡ Some seen)
        × GoesBy old.stands.clock.epoch (epoch_joined (ran_with logs failed others))
        (beside_at_save (beside_of old) report.keeper k) seen saved
    pub last : (w : ℕ) (lines log : LogState) (was is : D) → slice_get all.mid.logs w ≡ Some lines
        → slice_get logs w ≡ Some log → slice_get (growing_in old.side all.between) w ≡ Some was
        → slice_get (growing_in old.side now) w ≡ Some is
        → LastStep tells clock image_at faults old.stands.clock.epoch all.worked.clock.epoch lines log was is
    pub fails : is_some all.keeper.failed ≡ true → is_some failed ≡ true
    pub told_others : (device : Device) → Contains all.keeper.broken device → Contains others device
    pub beside : (device : Device) → Contains others device → IsBeside old.side device
    pub rose_others : (device : Device) → Contains others device → RoseIn faults device before now
    pub quiet_snaps : (Contains others devices.Snaps → ⊥) → faults now.snaps ≡ faults before.snaps
    pub quiet_closed : (w : ℕ) (was is : D) → slice_get (closed_in old.side before) w ≡ Some was
        → slice_get (closed_in old.side now) w ≡ Some is → (Contains others (devices.Bank (closed_number old.side w)) → ⊥)
        → faults is ≡ faults was
    pub stays : (w : ℕ) (lines log : LogState) → slice_get all.mid.logs w ≡ Some lines → slice_get logs w ≡ Some log
        → is_some lines.journal.down ≡ true → is_some log.journal.down ≡ true
    pub files : SwapsFiles tells clock image_at faults (ran_with logs failed others) logs old new before now
    pub between_whole : IsWhole files.between
    pub rests : swaps (ran_with logs failed others) ≡ true → (w : ℕ) (log : LogState) → slice_get logs w ≡ Some log → IsAtRest log
    pub refusals : new.stands.refused ≡ all.kept.stands.refused
    pub met : new.stands.met ≡ all.kept.stands.met
    pub slots : new.stands.slots ≡ all.kept.stands.slots
    pub mine : new.stands.mine ≡ all.kept.stands.mine
    pub drops : new.stands.drops ≡ all.kept.stands.drops
    pub decls : new.stands.decls ≡ all.kept.stands.decls
    pub state : new.stands.state ≡ all.kept.stands.state
    pub durable : report.durable ≡ durable_of (ran_with logs failed others)
    pub lasts : report.end ≡ None → report.durable ≡ Some all.kept.stands.clock.epoch
    pub end_is : report.end ≡ end_of (ran_with logs failed others)
    pub clock_is : new.stands.clock
        ≡ record { epoch = epoch_joined (ran_with logs failed others); draw = all.kept.stands.clock.draw }
    pub ended : new.stands.ended ≡ is_some report.end
    pub down : (new.down ≡ false) ↔ ((ran_with logs failed others).beside.devices ≡ [])
    pub stands : StandsOn tells clock image_at new now
    pub gleans : RoundGleans tells report.keeper all.keeper.gleans all.keeper.damaged old new before now
    pub sound : (Contains (ran_with logs failed others).beside.devices devices.Snaps → ⊥) → new.store.sound ≡ true
    pub room : new.room ≡ old.room
    pub told : map (λ (s : Saved). s.epoch) stored ≡ saves_told report.keeper ++ option_to_list report.durable
    pub refused : (w : ℕ) (log : LogState) (refusal : Option LogRefusal) → slice_get logs w ≡ Some log
        → slice_get (map (λ (p : Share). p.refusal) all.lines.shares) w ≡ Some refusal → IsRefusedBy refusal log.journal
    pub log_failed : (w : ℕ) → w < 8 → Contains (ran_with logs failed others).beside.devices (log_of (files_of old) w)
        → (slice_get (map (λ (p : Share). p.refusal) all.lines.shares) w ≡ Some (Some LogFailed))
        ⊎ (comes_to_advance (ran_with logs failed others) ≡ true)
    pub rise : NeverFall (epoch_of old.save.newest) (map (λ (s : Saved). s.epoch) (stored ++ option_to_list failed))
    pub asked : is_some failed ≡ true → ((keeper_at_end (ran_with logs failed others)).refused ≡ true)
        ⊎ ((comes_to_save (ran_with logs failed others) ≡ true)
        × ((keeper_at_end (ran_with logs failed others)).sequence < last_sequence))

module _ {D : Type 0} {tells : D → Option (List ℕ)} {clock : D → ℕ} {image_at : D → ℕ → List ℕ → Type 0}
    {faults : D → ℕ} {tries : ℕ} {round : Round} {old : RuntimeState} {start : List LogState} {new : RuntimeState}
    {before now : Vault D} {report : Report}
    (stands : StandsOn tells clock image_at old before) (ready : IsReady old) (some : 1 ≤ old.stands.clock.epoch)
    (start_many : length start ≡ 8)
    (idle : (w : ℕ) (log : LogState) → slice_get old.logs w ≡ Some log
    → slice_get start w ≡ Some (idled (lines_of_worker round w) log))
    (all : RunsAll tells clock image_at faults tries round (record old { logs = start }) new before now report) where
  abbrev shares : List Share
  shares = all.lines.shares

  pub before_many : length (growing_in old.side before) ≡ 8
  before_many = growing_many old.side before stands.whole

  pub between_many : length (growing_in old.side all.between) ≡ 8
  between_many = all.lines.over.banks_length ∙ before_many

  -- the lines touched nothing beside the growing log files
  pub same_saves : SameSaves before all.between
  same_saves = record {
    save = all.beside.save ∙ all.room.save;
    snaps = all.beside.snaps ∙ all.room.snaps;
    ties = ap (λ v. v.items) all.beside.ties ∙ all.room.ties;
  }

  pub closed_mid : closed_in old.side all.between ≡ closed_in old.side before
  closed_mid = all.beside.closed ∙ same_closed_in old.side before all.lent all.room

  pub cuts_mid : all.between.cuts.items ≡ before.cuts.items
  cuts_mid = ap (λ v. v.items) all.beside.cuts ∙ all.room.cuts

  pub between_whole : IsWhole all.between
  between_whole = whole_of old.side all.between between_many
      (ap length closed_mid ∙ closed_many old.side before stands.whole)

  pub start_up : AreLogsUp tells start (growing_in old.side before)
  start_up w log bank at bank_at =
      let was = item_at old.logs w (omega (arith, below_8 start w log at start_many, stands.workers)) in
      let up = logs_up stands (stands.up ready.up) w was.0 bank was.1 bank_at in
      let same : idled (lines_of_worker round w) was.0 ≡ log = same_Some _ log (sym (idle w was.0 was.1) ∙ at) in
      subst (λ x. IsLogUp tells x bank) same (idled_up (lines_of_worker round w) was.0 bank up)

  -- the clock and the storages behind the lines
  pub mid_epoch : all.mid.stands.clock.epoch ≡ old.stands.clock.epoch
  mid_epoch = ap (λ (r : RuntimeState). r.stands.clock.epoch) all.alone

  pub mid_decls : all.mid.stands.decls ≡ old.stands.decls
  mid_decls = ap (λ (r : RuntimeState). r.stands.decls) all.alone ∙ same_decls all.lines.over.runs

  -- what the maintenance thread's lines leave of it is as the workers' left it
  kept_stands : all.kept.stands ≡ record all.worked {
    clock = record all.worked.clock { epoch = all.kept.stands.clock.epoch };
    pages = all.kept.stands.pages;
    drops = all.kept.stands.drops;
  }
  kept_stands = all.keeper.stands ∙ ap (λ (r : RuntimeState). record r.stands {
    clock = record r.stands.clock { epoch = all.kept.stands.clock.epoch };
    pages = all.kept.stands.pages;
    drops = all.kept.stands.drops;
  }) all.alone

  -- its counts of drops got what is told
  kept_drops : all.kept.stands.drops ≡ old.stands.drops ++ map counts_of (drops_told report.keeper)
  kept_drops = all.keeper.dropped
      ∙ ap (λ (d : List Counts). d ++ map counts_of (drops_told report.keeper))
      (ap (λ (r : RuntimeState). r.stands.drops) all.alone)

  -- so pages were dropped beside the workers' lines only where some drop is told
  some_dropped : (all.worked.drops ≡ old.stands.drops → ⊥) → drops_told report.keeper ≡ [] → ⊥
  some_dropped more none = more (all.drops ∙ kept_drops
      ∙ ap (λ (l : List Dropped). old.stands.drops ++ map counts_of l) none ∙ append-nil old.stands.drops)

  -- where the maintenance thread began
  pub keeper_start : keeper_on all.mid false ≡ keeper_of old.stands.clock.epoch old
  keeper_start = ap (λ (r : RuntimeState). keeper_on r false) all.alone

  -- the clock went up
  pub worked_up : old.stands.clock.epoch ≤ all.worked.clock.epoch
  worked_up = all.lines.over.runs.epoch

  -- the marks that were shown
  pub marks_are : marks_of shares ≡ map shown_epochs all.marks
  marks_are = ap (map shown_epochs) all.lines.marks_are

  pub marks_many : length all.marks ≡ 8
  marks_many = ap length (sym all.lines.marks_are) ∙ length-map shares (λ (share : Share). share.marks)
      ∙ all.lines.over.runs.workers

  pub in_order : AllInOrder (map shown_epochs all.marks)
  in_order = subst AllInOrder marks_are
      (shares_rise old.stands.decls old.stands.clock.epoch old.stands.clock.draw all.worked.clock.draw tries shares
      all.lines.over.runs.each)

  -- what a save saw was shown
  pub seen_shown : (these : List Mark) → Contains all.seen these → AreShown (shown_in shares) these
  seen_shown these has =
      let one = stood_one all.marks all.places all.seen these all.sees has in record {
        workers = stood_many all.marks one.0 these one.1 ∙ marks_many;
        each = λ w m at.
            let stood = stood_shown all.marks one.0 these one.1 w m at in
            let here : get_or all.marks w [] ≡ shown_in shares w =
            ap (λ l. get_or l w []) (sym all.lines.marks_are) ∙ shown_get shares w in
            (stood.0, subst (λ l. Contains l stood.0) here stood.1, stood.2);
      }

  -- at the places that are told
  shown_at : (k : ℕ) (places : List ℕ) (these : List Mark) → slice_get all.places k ≡ Some places
      → slice_get all.seen k ≡ Some these → AreShownAt (shown_in shares) places these
  shown_at k places these at there =
      let stood = stood_two all.marks all.places all.seen k places these all.sees at there in record {
        workers = stood_many all.marks places these stood ∙ marks_many;
        each = λ w place has.
            let one = stood_place all.marks places these stood w place has in
            let here : get_or all.marks w [] ≡ shown_in shares w =
            ap (λ l. get_or l w []) (sym all.lines.marks_are) ∙ shown_get shares w in
            (one.0, subst (λ l. slice_get l place ≡ Some one.0) here one.1, one.2);
      }

  -- the causes of answers, of the run that is told
  pub answers_caused : (logs : List LogState) (failed : Option Saved) (others : List Device)
      → (is_some all.keeper.failed ≡ true → is_some failed ≡ true)
      → ((device : Device) → Contains all.keeper.broken device → Contains others device)
      → AnswersCaused (ran_with tells clock image_at faults tries round old start new before now report all logs failed others)
      (keeper_before (ran_with tells clock image_at faults tries round old start new before now report all logs failed others))
      (keeper_lines round) report.keeper
  answers_caused logs failed others fails told =
      let ran : Ran = ran_with tells clock image_at faults tries round old start new before now report all logs failed others in
      subst (λ k. AnswersCaused ran k (keeper_lines round) report.keeper) keeper_start
      (all.keeper.caused ran (record {
        marks = subst (λ l. AllByRecursion (λ (marks : List Mark). AreMarksOf l (epochs_in marks)) all.seen)
            (sym marks_are) (stood_marks all.marks all.places all.seen all.sees);
        odd = ap (λ (r : RuntimeState). is_odd r.side) (sym all.alone);
        closed_at = ap (λ (r : RuntimeState). r.closed_at) (sym all.alone);
        room = ap (λ (r : RuntimeState). r.room) (sym all.alone);
        gleans_are = λ what has. has;
        damage = λ damage is. is;
        store = λ is. subst (λ b. Contains (devices_down old.side (are_down logs) b others) devices.Save) (sym (fails is))
            (save_in old.side (are_down logs) others);
        device = λ device is. others_in old.side (are_down logs) (is_some failed) others device (told device is);
      }))

  left_below : (i : ℕ) (p : Share) → slice_get shares i ≡ Some p → i < 8
  left_below i p at = omega (arith, within_of shares i p at, all.lines.over.runs.workers)

  left_of : (i : ℕ) (p : Share) → slice_get shares i ≡ Some p
      → (begins : LogState) × (log : LogState)
      × LeftAt old.stands.clock.epoch p begins log × (slice_get all.mid.logs i ≡ Some log) × (begins.journal.limit ≡ log_limit)
  left_of i p at =
      let below = left_below i p at in
      let begins = item_at start i (omega (arith, below, start_many)) in
      let log = item_at all.mid.logs i (omega (arith, below, start_many, all.lines.over.logs_length)) in
      let bank = item_at (growing_in old.side before) i (omega (arith, below, before_many)) in
      let mid_bank = item_at (growing_in old.side all.between) i (omega (arith, below, between_many)) in
      let left = all.lines.over.each i p begins.0 log.0 bank.0 mid_bank.0 at begins.1 log.1 bank.1 mid_bank.1 in
      (begins.0, log.0, record { refused = left.refused; limit = left.limit }, log.1, (start_up i begins.0 bank.0 begins.1 bank.1).limit)

  -- what was left out of a worker's lines
  lines_out : (w : ℕ) (outcomes : List Outcome) (refusal : Option LogRefusal) (log : LogState) (bank : D)
      → slice_get report.outcomes w ≡ Some outcomes
      → slice_get (map (λ (p : Share). p.refusal) shares) w ≡ Some refusal
      → slice_get old.logs w ≡ Some log → disk_in before (devices.Bank (growing_number old.side w)) ≡ Some bank
      → LeavesOut tells clock image_at faults old.stands.clock.epoch (Contains outcomes Unrun) (logged_in shares w)
      refusal log bank
  lines_out w outcomes refusal log bank told refused at there =
      let p = map_at (λ (p : Share). p.refusal) shares w refusal refused in
      let same = map_at (λ (p : Share). p.outcomes) shares w outcomes
      (ap (λ l. slice_get l w) (sym all.lines.told) ∙ told) in
      let outcomes_are : p.0.outcomes ≡ outcomes =
      ap (λ (q : Share). q.outcomes) (same_Some p.0 same.0 (sym p.1 ∙ same.1)) ∙ same.2 in
      let share = all_at (IsShare old.stands.decls old.stands.clock.epoch old.stands.clock.draw
      all.worked.clock.draw tries) shares w p.0
      all.lines.over.runs.each p.1 in
      let lines_are = share_lines round shares w p.0 all.lines.lines p.1 in
      let out = all.lines.left_out w p.0 (idled (lines_of_worker round w) log) bank p.1 (idle w log at)
      (sym (growing_at old.side before w) ∙ there) in
      subst (λ o. LeavesOut tells clock image_at faults old.stands.clock.epoch (Contains o Unrun) (logged_in shares w)
      refusal log bank) outcomes_are
      (subst (λ r. LeavesOut tells clock image_at faults old.stands.clock.epoch (Contains p.0.outcomes Unrun)
      (logged_in shares w) r log bank) p.2
      (subst (λ l. LeavesOut tells clock image_at faults old.stands.clock.epoch (Contains p.0.outcomes Unrun) l
      p.0.refusal log bank) (sym (logged_some shares w p.0 p.1))
      (idled_out (lines_of_worker round w) p.0.outcomes (share.one_each ∙ ap length lines_are) out)))

  module _ (logs : List LogState) (stored : List Saved) (failed : Option Saved) (others : List Device)
      (ends : RoundEnds tells clock image_at faults tries round old start new before now report all logs stored failed others) where
    abbrev ran : Ran
    ran = ran_with tells clock image_at faults tries round old start new before now report all logs failed others

    of : IsRanOf tries round old.stands all.worked shares ran
    of = record {
      lines = all.lines.lines;
      begin = refl;
      draw = ap (λ (x : Standing). x.clock.draw) kept_stands;
      outcomes = all.lines.told;
      tried = refl;
      refused = refl;
      asked = refl;
      answers = all.keeper.count;
      epoch = subst (λ e. AdvancesTo e report.keeper all.kept.stands.clock.epoch) mid_epoch all.keeper.advances;
      later = all.later;
    }

    total : LogsTotal tells clock image_at faults (logged_in shares) (shown_in shares) old.logs logs
        (growing_in old.side before)
        (growing_in old.side now)
    total = logs_total round all.lines.over start_many stands.workers ends.logs_many before_many ends.now_many some ready.logs
        idle
        (λ w none. logged_nothing old.stands.decls old.stands.clock.epoch old.stands.clock.draw
        all.worked.clock.draw tries shares w all.lines.over.runs.each
        (λ p at. share_lines round shares w p all.lines.lines at ∙ none))
        ends.last

    -- all causes
    caused : AllCaused ran
    caused = record {
      logs = logs_caused ran.beside.files ran.beside.devices 0 ran.beside.logs
          (λ i at.
          let p = map_at (λ (p : Share). p.refusal) shares i (Some LogFailed) at in
          let left = left_of i p.0 p.1 in
          let down = subst (λ r. IsRefusedBy r left.1.journal) p.2 left.2.refused in
          let log = item_at logs i (omega (arith, left_below i p.0 p.1, ends.logs_many)) in
          subst (λ n. Contains ran.beside.devices (log_of ran.beside.files n)) (at_first i)
          (subst (Contains ran.beside.devices) (sym (log_of_is old.side ran.beside.files i refl))
          (banks_in old.side (are_down logs) (is_some failed) others (devices.Bank (growing_number old.side i))
          (bank_in old.side 0 i i (are_down logs) (omega arith) (down_at logs i log.0 log.1
          (ends.stays i left.1 log.0 left.3 log.1 down))))))
          (λ i size at.
          let p = map_at (λ (p : Share). p.refusal) shares i (Some (LogFull size)) at in
          let left = left_of i p.0 p.1 in
          let full = subst (λ r. IsRefusedBy r left.1.journal) p.2 left.2.refused in
          omega (arith, full.1, left.2.limit, left.4));
      outcomes = run_caused round ran all.lines.over.runs of;
      tries = tries_caused old.stands.slots shares all.lines.over.runs.caused;
      answers = answers_caused logs failed others ends.fails ends.told_others;
    }

    -- and those of what saves saw beside the lines
    beside : CausedBeside ran
    beside = record {
      readied = subst (AllReadied old.stands.clock.epoch (marks_of shares) (readied_in shares)) (sym all.lines.told)
          (shares_readied old.stands.decls old.stands.clock.epoch old.stands.clock.draw all.worked.clock.draw tries
          shares
          all.lines.over.runs.each);
      drops = refl;
      order = subst AllInOrder (sym marks_are) in_order;
      places = all.back;
      saves = subst (λ k. SavesSee ran 0 k (keeper_lines round) report.keeper (length all.places)) keeper_start
          (subst (SavesSee ran 0 (keeper_on all.mid false) (keeper_lines round) report.keeper)
          (none_more (length all.seen) (length all.places) (stood_long all.marks all.places all.seen all.sees))
          (all.keeper.saw ran 0 (stood_from ran all.marks 0 all.places all.seen marks_are
          (λ i. ap (slice_get all.places) (none_plus i)) all.sees)));
    }

    -- what it leaves of the vault, and of the crashes
    left : ((disk : D) (file : List ℕ) → tells disk ≡ Some file → image_at disk (clock disk) file)
        → (v : LeavesVault tells clock image_at faults ran (logged_in shares) old new before now)
        × CarriesCrashes tells clock image_at (logged_in shares) (v.stored ++ option_to_list v.failed) ran old new before now
    left reads = with_crashes reads stands (ap length marks_are ∙ length-map all.marks shown_epochs ∙ marks_many)
        (λ epoch is. sym ends.durable ∙ is)
        (leaves_vault ran (logged_in shares) (shown_in shares) logs old new before now stored failed total
        ends.saves ends.keeps.newest
        (λ k saved places at told.
        let one = ends.placed k saved places at told in (one.0, shown_at k places one.0 told one.1, one.2))
        (shown_told shares)
        (λ w below. logged_above w (epoch_of old.save.newest) below stands.above all.lines.over.runs)
        stands.whole stands.closed.workers ends.files ends.between_whole ends.rests
        others ends.keeps ends.stands refl ends.beside ends.rose_others ends.quiet_snaps ends.quiet_closed
        ends.gleans (λ what has. ap (λ (r : RuntimeState). some_counted r.counted) (sym all.alone)
        ∙ all.keeper.needs.found what has) ends.sound ends.room ends.told ends.refused ends.log_failed ends.rise ends.asked)

    -- A round that was run and joined, or not joined.
    pub done : ((disk : D) (file : List ℕ) → tells disk ≡ Some file → image_at disk (clock disk) file)
        → Rounds tells clock image_at faults tries round old new before now (Ok report)
    done reads =
        let made = left reads in
        let run = λ (index : ℕ). shares_run round ran all.lines.over.runs of index new.stands.state
        (ends.state ∙ ap (λ (x : Standing). x.state) kept_stands) in (
          record {
            ran = ran;
            logged = logged_in shares;
            reports = record { outcomes = refl; answers = refl; durable = refl; end = ends.end_is };
            begins = record {
              tried = refl;
              sequence = refl;
              pages = refl;
              room = refl;
              slots = refl;
              files = refl;
              workers = ap length marks_are ∙ length-map all.marks shown_epochs ∙ marks_many;
              marks = λ w log epochs at are.
                  let below = below_8 old.logs w log at stands.workers in
                  let p = item_at shares w (omega (arith, below, all.lines.over.runs.workers)) in
                  let share = all_at (IsShare old.stands.decls old.stands.clock.epoch old.stands.clock.draw
                  all.worked.clock.draw tries) shares w p.0 all.lines.over.runs.each p.1 in
                  let begins = item_at start w (omega (arith, below, start_many)) in
                  let mid_log = item_at all.mid.logs w (omega (arith, below, start_many, all.lines.over.logs_length)) in
                  let bank = item_at (growing_in old.side before) w (omega (arith, below, before_many)) in
                  let mid_bank = item_at (growing_in old.side all.between) w (omega (arith, below, between_many)) in
                  let over = all.lines.over.each w p.0 begins.0 mid_log.0 bank.0 mid_bank.0 p.1 begins.1 mid_log.1
                  bank.1
                  mid_bank.1 in
                  let joined = all_at (IsJoined old.stands.clock.epoch) old.logs w log ready.logs at in
                  subst (AreRoundMarks (lines_of_worker round w) log.mark.epoch old.stands.clock.epoch
                  all.kept.stands.clock.epoch)
                  (ap shown_epochs (sym (shown_some shares w p.0 p.1)) ∙ shown_told shares w epochs are)
                  (worker_marks (lines_of_worker round w) log.mark.epoch old.stands.clock.epoch all.worked.clock.epoch
                  all.kept.stands.clock.epoch p.0.marks some worked_up all.later
                  (λ not. ap (λ (m : Mark). m.epoch) joined.marked)
                  (subst (λ l. BeginsAt old.stands.clock.epoch l p.0.marks)
                  (share_lines round shares w p.0 all.lines.lines p.1) (all.lines.begins w p.0 p.1))
                  share.rise over.below);
            };
            lines = record {
              decls = ends.decls ∙ ap (λ (x : Standing). x.decls) kept_stands ∙ same_decls all.lines.over.runs;
              slots = ends.slots ∙ ap (λ (x : Standing). x.slots) kept_stands ∙ same_slots all.lines.over.runs;
              run = λ index. (run index).0;
              caused = caused;
              beside = beside;
              words = all.lines.over.runs.words;
              refused = ends.refusals ∙ ap (λ (x : Standing). x.refused) kept_stands ∙ all.lines.over.runs.refused;
              lines_are = λ w below. shares_lines old.stands.decls old.stands.clock.epoch old.stands.clock.draw
                  all.worked.clock.draw tries shares w
                  all.lines.over.runs.each;
              logged_are = λ index w below. subst (λ es. AreLogged old.stands.decls w old.stands.state es (logged_in shares w))
                  (sym (run index).1) ((all.lines.over.runs.ordered index).logged w below);
            };
            counted =
                let after = ap (λ (x : Standing). x.clock.draw) kept_stands in
                let told = ap commit_count all.lines.told in
                omega (arith, after, told, all.lines.over.runs.draw);
            met = record {
              workers = met_for old.stands.decls (worker_lines round) (all.worked.drops ≡ old.stands.drops → ⊥) (ran.beside.drops ≡ [] → ⊥) 0
                  (worker_lines round) (map (λ (share : Share). share.tries_refused) shares) some_dropped
                  (subst (λ l. WorkersMet old.stands.decls l (all.worked.drops ≡ old.stands.drops → ⊥) 0 l
                  (map (λ (share : Share). share.tries_refused) shares)) all.lines.lines all.lines.over.runs.met);
            };
            dropped = ends.drops ∙ kept_drops;
            seen = subst (λ (l : List Met). MetBySaves old.stands.met l all.places)
                (sym (ends.met ∙ ap (λ (x : Standing). x.met) kept_stands)) all.met;
            history = record {
              gathered = subst (λ m. HasGathered old.stands.decls round report.outcomes old.stands.mine m)
                  (sym (ends.mine ∙ ap (λ (x : Standing). x.mine) kept_stands)) all.history.gathered;
            };
            durable = ends.durable;
            lasts = ends.lasts;
            clock = ends.clock_is;
            ended = ends.ended;
            down = ends.down;
          },
          made.0,
          made.1,
          record { each = lines_out },
        )
