-- The phases of a round: the workers' lines, those of the maintenance thread beside them, and the join.
use Rattle.std.specs.Prelude.{◌≡◌, ◌<◌, ◌≤◌, ◌^◌, ◌⊎◌, ℕ, Bool, true, false, List, length, Option, Some, None}
use Rattle.std.specs.Prelude.{is_some, Result, Ok, Err}
use Rattle.log_writer.specs.Counted.{AlwaysTells}
use Rattle.log_writer.specs.Vault.{IsWhole}
use Rattle.log_writer.specs.declared.vault.Vault.{Vault}
use Rattle.script_grammar.specs.Script.{Round, keeper_lines}
use Rattle.log_writer.specs.Save.{IsStored}
use Rattle.std.specs.List.{AllByRecursion, list_any}
use Rattle.tx_script.specs.Run.{Readied, is_limit}
use Rattle.tx_script.specs.Seen.{NeverBack, first_places}
use Rattle.log_writer.specs.Points.{sequence_of}
use Rattle.worker_logs.specs.Rows.{AreLogsUp}
use Rattle.worker_logs.specs.Shown.{Stood}
use Rattle.wire_form.specs.declared.clock.Mark.{Mark}
use Rattle.round_engine.specs.Ends.{first_of, save_limited, where_true}
use Rattle.round_engine.specs.Keeping.{RunsJoin, RunsKeeper}
use Rattle.round_engine.specs.Histories.{KeepsHistory}
use Rattle.round_engine.specs.Refusals.{device_refused, end_told, first_full, leaves_out, lines_refused, names_device}
use Rattle.round_engine.specs.Sides.{growing_in, SameButGrowing}
use Rattle.round_engine.specs.SavesMet.{MetBySaves}
use Rattle.round_engine.specs.SideLines.{AllStoodAt}
use Rattle.round_engine.specs.Standing.{AreClosed, HasSnapshot, LogsStand, RuntimeState, Standing}
use Rattle.round_engine.specs.Swaps.{SwapsAt}
use Rattle.round_engine.specs.Unbegun.{RoomAlone}
use Rattle.round_engine.specs.Workers.{RunsWorkers}
use Rattle.round_engine.specs.declared.report.End.{End}
use Rattle.round_engine.specs.declared.report.Report.{Report}
use Rattle.round_engine.specs.declared.rounds.LineRefusals.{LineRefusals}
use Rattle.shared_rounds.specs.Below.{LogEnd}
use Rattle.shared_rounds.specs.declared.ends.WorkersRan.{WorkersRan}
use Rattle.tx_script.specs.declared.answer.Answer.{Answer}

-- the runtime as the end of the round leaves it
abbrev pub ended_as : RuntimeState → Bool → Bool → RuntimeState
ended_as r ended down = record r { stands = record r.stands { ended = ended }; down = down }

-- what was made durable
abbrev pub made : Result ℕ End → Option ℕ
made (Ok epoch) = Some epoch
made (Err end) = None

-- what was refused
abbrev pub refused_by : Result ℕ End → Option End
refused_by (Ok epoch) = None
refused_by (Err end) = Some end

-- a device that failed was what refused it
abbrev pub fails_device : Option End → Bool
fails_device None = false
fails_device (Some end) = names_device end

-- where the maintenance thread began: the engine as the workers' lines leave it, but for the clock's epoch, the pages
-- and the counts of drops, which its own lines change alone
abbrev pub as_begun : Standing → Standing → Standing
as_begun s worked = record worked {
  clock = record worked.clock { epoch = s.clock.epoch };
  pages = s.pages;
  drops = s.drops;
}

-- The swap stands behind a save that was made.
abbrev pub SwapsBehind : {D : Type 0} → (D → Option (List ℕ)) → (D → ℕ) → (D → ℕ → List ℕ → Type 0) → (D → ℕ)
    → Result ℕ End → RuntimeState → RuntimeState → Vault D → Vault D → Option End → Type 0
SwapsBehind tells clock image_at faults (Ok epoch) old new before now end =
    SwapsAt tells clock image_at faults epoch old new before now end
SwapsBehind tells clock image_at faults (Err refusal) old new before now end =
    (new ≡ old) × (now ≡ before) × (end ≡ None)

module _ {D : Type 0} (tells : D → Option (List ℕ)) (clock : D → ℕ) (image_at : D → ℕ → List ℕ → Type 0)
    (faults : D → ℕ) where
  -- nothing was refused that leaves the join out: the logs and the store are up, and what counts is durable
  pub record IsReadyToJoin (r : RuntimeState) (vault : Vault D) : Type 0 where
    pub whole : IsWhole vault
    pub workers : length r.logs ≡ 8
    pub logs : AreLogsUp tells r.logs (growing_in r.side vault)
    pub closed : AreClosed r
    pub most_pages : r.room ≤ 65536
    pub sound : r.store.sound ≡ true
    pub snapshot : HasSnapshot tells r vault.snaps
    pub up : r.save.down ≡ None
    pub stored : IsStored tells clock image_at vault.save r.save.newest
    pub durable : AlwaysTells tells → LogsStand tells clock image_at r.side r.logs r.counted vault

  -- The join was made, with the swap behind its save: what it made durable, and what was refused.
  pub record JoinsAndSwaps (old new : RuntimeState) (before now : Vault D) (durable : Option ℕ) (end : Option End)
      : Type 0 where
    pub result : Result ℕ End
    pub joined : RuntimeState
    pub between : Vault D
    pub joins : RunsJoin tells clock image_at faults old joined before between result
    pub cut_end : Option End
    pub swaps : SwapsBehind tells clock image_at faults result joined new between now cut_end
    pub counted : AllByRecursion (λ n. n < 2 ^ 40) new.counted
    pub durable_is : durable ≡ made result
    pub end_is : end ≡ first_of (refused_by result) cut_end

  -- The join was left out, or made.
  abbrev pub JoinsAs : LineRefusals → RuntimeState → RuntimeState → Vault D → Vault D → Option ℕ → Option End → Type 0
  JoinsAs refused old new before now durable end =
      ((leaves_out refused ≡ true) × (now ≡ before) × (durable ≡ None) × (end ≡ lines_refused refused)
      × (new ≡ ended_as old (is_some end) (is_some refused.device)))
      ⊎ ((leaves_out refused ≡ false) × (joined : RuntimeState) × (refusal : Option End)
      × JoinsAndSwaps old joined before now durable refusal × (end ≡ end_told refused refusal)
      × (new ≡ ended_as joined (is_some end) (fails_device refusal)))

  -- The workers' lines of a round were run, and those of the maintenance thread beside them: what the ones
  -- leave of the engine, the logs and the growing log files, and the others of all else. Each save saw of each worker
  -- the mark at its place, and none before one that an earlier save saw.
  pub record RunsLines (tries : ℕ) (round : Round) (old kept : RuntimeState) (before after : Vault D) (ran : WorkersRan)
      (said : List Answer) (refusal : Option End) : Type 0 where
    pub worked : Standing
    pub mid : RuntimeState
    pub between : Vault D
    pub marks : List (List Stood)
    pub readied : List (List Readied)
    pub lines : RunsWorkers tells clock image_at faults tries round old.stands worked ran.outcomes ran.ends.items marks
        readied old.logs mid.logs (growing_in old.side before) (growing_in old.side between)
    pub history : KeepsHistory round ran.outcomes old.stands worked
    pub alone : mid ≡ record old { stands = as_begun old.stands worked; logs = mid.logs }
    pub later : worked.clock.epoch ≤ kept.stands.clock.epoch
    pub drops : worked.drops ≡ kept.stands.drops
    pub beside : SameButGrowing old.side before between
    pub seen : List (List Mark)
    pub places : List (List ℕ)
    pub met : MetBySaves old.stands.met worked.met places
    pub sees : AllStoodAt marks places seen
    pub back : NeverBack first_places places
    pub keeper : RunsKeeper tells clock image_at faults seen (keeper_lines round) said refusal mid kept between after

  -- The phases of a round that was run to its end.
  pub record RunsAll (tries : ℕ) (round : Round) (old new : RuntimeState) (before now : Vault D) (report : Report)
      : Type 0 where
    pub worked : Standing
    pub mid : RuntimeState
    pub lent : Vault D
    pub between : Vault D
    pub kept : RuntimeState
    pub after : Vault D
    pub ends : List LogEnd
    pub refused : LineRefusals
    pub marks : List (List Stood)
    pub readied : List (List Readied)
    pub lines : RunsWorkers tells clock image_at faults tries round old.stands worked report.outcomes ends marks readied
        old.logs mid.logs (growing_in old.side before) (growing_in old.side between)
    pub history : KeepsHistory round report.outcomes old.stands worked
    pub alone : mid ≡ record old { stands = as_begun old.stands worked; logs = mid.logs }
    pub later : worked.clock.epoch ≤ kept.stands.clock.epoch
    pub drops : worked.drops ≡ kept.stands.drops
    pub room : RoomAlone before lent
    pub beside : SameButGrowing old.side lent between
    pub seen : List (List Mark)
    pub places : List (List ℕ)
    pub met : MetBySaves old.stands.met worked.met places
    pub sees : AllStoodAt marks places seen
    pub back : NeverBack first_places places
    pub keeper : RunsKeeper tells clock image_at faults seen (keeper_lines round) report.keeper refused.keeper mid kept
        between after
    pub device_is : refused.device ≡ device_refused old.side refused.keeper ends
    pub sequence_is : refused.sequence ≡ where_true (save_limited (keeper_lines round) report.keeper)
        (sequence_of kept.save.newest)
    pub draw_is : refused.draw ≡ where_true (list_any (list_any is_limit) report.outcomes) kept.stands.clock.draw
    pub full_is : refused.full ≡ first_full ends
    pub join : JoinsAs refused kept new after now report.durable report.end
