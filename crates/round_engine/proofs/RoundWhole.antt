-- A round that was run to its end, whichever way its join went.
use Rattle.std.proofs.Common.{◌≡◌, ◌∙◌, ◌≤◌, ◌∷◌, inl, inr, sym, subst, refl, ℕ, List, [], length}
use Rattle.std.proofs.Common.{Option, Some, None, arith}
use Rattle.std.specs.Prelude.{slice_get, Ok}
use Rattle.std.specs.List.{AllByRecursion}
use Rattle.std.proofs.lemmas.Option.{same_Some}
use Rattle.lists.specs.Each.{all_at}
use Rattle.log_writer.specs.declared.vault.Vault.{Vault}
use Rattle.serial_model.specs.declared.op.Op.{Op}
use Rattle.script_grammar.specs.Script.{Round, lines_of_worker}
use Rattle.worker_logs.specs.Logs.{IsJoined, LogState}
use Rattle.worker_logs.specs.Rows.{AreLogsUp, IsLogUp}
use Rattle.shared_rounds.specs.First.{AreIdle}
use Rattle.round_engine.specs.Keeping.{CanKeep}
use Rattle.round_engine.specs.Phases.{RunsAll}
use Rattle.round_engine.specs.RanRound.{Rounds}
use Rattle.round_engine.specs.Standing.{ArePassed, IsReady, RuntimeState, StandsOn}
use Rattle.round_engine.specs.Sides.{growing_in}
use Rattle.round_engine.specs.Workers.{idled}
use Rattle.round_engine.specs.declared.report.Report.{Report}
use Rattle.round_engine.proofs.LinesLeft.{logs_up}
use Rattle.round_engine.proofs.LogsStanding.{stand_start, start_passed}
use Rattle.round_engine.proofs.RoundCases.{left_out}
use Rattle.round_engine.proofs.Numbered.{closed_many}
use Rattle.round_engine.proofs.RoundDone.{idled_up}
use Rattle.round_engine.proofs.RoundJoined.{joined_round}
use Rattle.round_engine.proofs.Whole.{below_8}
use Rattle.round_engine.proofs.Places.{all_from, item_at}

-- ---- the logs as a round begins

pub idled_flushed : (lines : List (List Op)) (log : LogState) → log.journal.lines ≡ [] → (idled lines log).journal.lines ≡ []
idled_flushed [] log is = is
idled_flushed (ops ∷ lines) log is = is

module _ {D : Type 0} {tells : D → Option (List ℕ)} {clock : D → ℕ} {image_at : D → ℕ → List ℕ → Type 0}
    {old : RuntimeState} {before : Vault D} (round : Round) (start : List LogState)
    (stands : StandsOn tells clock image_at old before) (ready : IsReady old) (start_many : length start ≡ 8)
    (idle : (w : ℕ) (log : LogState) → slice_get old.logs w ≡ Some log
    → slice_get start w ≡ Some (idled (lines_of_worker round w) log)) where
  pub start_ups : AreLogsUp tells start (growing_in old.side before)
  start_ups w log bank at bank_at =
      let was = item_at old.logs w (omega (arith, below_8 start w log at start_many, stands.workers)) in
      let up = logs_up stands (stands.up ready.up) w was.0 bank was.1 bank_at in
      let same : idled (lines_of_worker round w) was.0 ≡ log = same_Some _ log (sym (idle w was.0 was.1) ∙ at) in
      subst (λ x. IsLogUp tells x bank) same (idled_up (lines_of_worker round w) was.0 bank up)

  pub start_flushed : AllByRecursion (λ (l : LogState). l.journal.lines ≡ []) start
  start_flushed = all_from (λ (l : LogState). l.journal.lines ≡ []) start (λ w log at.
      let was = item_at old.logs w (omega (arith, below_8 start w log at start_many, stands.workers)) in
      let joined = all_at (IsJoined old.stands.clock.epoch) old.logs w was.0 ready.logs was.1 in
      let same : idled (lines_of_worker round w) was.0 ≡ log = same_Some _ log (sym (idle w was.0 was.1) ∙ at) in
      subst (λ (l : LogState). l.journal.lines ≡ []) same (idled_flushed (lines_of_worker round w) was.0 joined.flushed))

  -- and the stores are up
  pub start_can : CanKeep tells clock image_at (record old { logs = start }) before
  start_can =
      let up = stands.up ready.up in
      let has = stands.snapshot up.store in
      record {
        files = closed_many old.side before stands.whole;
        workers = start_many;
        up = up.save;
        stored = stands.stored up.save;
        closed = record { workers = stands.closed.workers; counted = stands.closed.counted; before = stands.closed.before };
        most_pages = stands.most_pages;
        sound = up.store;
        snapshot = record {
          holds = has.holds;
          contents = has.contents;
          stands = has.stands;
          decls = has.decls;
          up_to = has.up_to;
          earlier = has.earlier;
          let_in = has.let_in;
          published = has.published;
        };
        durable = λ always. stand_start round old.stands.clock.epoch ready.logs stands.workers start_many idle
            (stands.durable always);
      }

  -- commits may follow the marks of workers with lines
  pub start_passes : ArePassed round (record old { logs = start })
  start_passes = start_passed round old.stands.clock.epoch old.logs start (omega (arith, stands.above)) ready.logs
      stands.workers start_many idle

-- the logs of workers without lines are idle
pub start_idle : (round : Round) (logs start : List LogState) → length logs ≡ 8 → length start ≡ 8
    → ((w : ℕ) (log : LogState) → slice_get logs w ≡ Some log → slice_get start w ≡ Some (idled
    (lines_of_worker round w) log))
    → AreIdle round start
start_idle round logs start many start_many idle w log at none =
    let was = item_at logs w (omega (arith, below_8 start w log at start_many, many)) in
    subst (λ (l : LogState). l.mark.epoch ≡ None) (same_Some _ log (sym (idle w was.0 was.1) ∙ at))
    (idled_none (lines_of_worker round w) was.0 none)
  where
    idled_none : (lines : List (List Op)) (was : LogState) → lines ≡ [] → (idled lines was).mark.epoch ≡ None
    idled_none [] was none = refl
    idled_none (ops ∷ lines) was none = absurd (let no = none in cc)

-- ---- a round

module _ {D : Type 0} {tells : D → Option (List ℕ)} {clock : D → ℕ} {image_at : D → ℕ → List ℕ → Type 0}
    {faults : D → ℕ} {tries : ℕ} {round : Round} {old : RuntimeState} {start : List LogState} {new : RuntimeState}
    {before now : Vault D} {report : Report}
    (stands : StandsOn tells clock image_at old before) (ready : IsReady old) (some : 1 ≤ old.stands.clock.epoch)
    (start_many : length start ≡ 8)
    (idle : (w : ℕ) (log : LogState) → slice_get old.logs w ≡ Some log
    → slice_get start w ≡ Some (idled (lines_of_worker round w) log))
    (all : RunsAll tells clock image_at faults tries round (record old { logs = start }) new before now report) where
  pub whole : ((disk : D) (file : List ℕ) → tells disk ≡ Some file → image_at disk (clock disk) file)
      → Rounds tells clock image_at faults tries round old new before now (Ok report)
  whole reads = elim all.join [
    | inl out ↦ left_out stands ready some start_many idle all out.0 out.1 out.2 out.3 out.4 reads
    | inr is ↦ joined_round stands ready some start_many idle all is.0 is.1 is.2 is.3 is.4 is.5 reads
  ]
