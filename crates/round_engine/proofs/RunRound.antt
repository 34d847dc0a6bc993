-- The phases of a round, put together from its calls.
use Rattle.std.proofs.Common.{◌≡◌, ◌∙◌, ◌<◌, sym, ap, subst, refl, ℕ, List, length, false, true}
use Rattle.std.proofs.Common.{Option, None, arith}
use Rattle.std.specs.Prelude.{◌^◌, is_some}
use Rattle.std.specs.List.{AllByRecursion}
use Rattle.std.proofs.lemmas.List.{length-map}
use Rattle.wire_form.specs.declared.clock.Mark.{Mark}
use Rattle.log_writer.specs.Vault.{IsWhole}
use Rattle.outside.specs.declared.device.Device.TheVariants as devices
use Rattle.log_writer.specs.declared.vault.Vault.{Vault}
use Rattle.script_grammar.specs.Script.{Round, keeper_lines}
use Rattle.log_writer.specs.Save.{IsStored}
use Rattle.tx_script.specs.Run.{Readied}
use Rattle.tx_script.specs.declared.answer.Answer.{Answer}
use Rattle.tx_script.specs.declared.outcome.Outcome.{Outcome}
use Rattle.worker_logs.specs.Logs.{LogState}
use Rattle.worker_logs.specs.declared.savepoints.Side.{Side}
use Rattle.worker_logs.specs.declared.savepoints.Side.TheVariants.{Even, Odd}
use Rattle.worker_logs.specs.Rows.{AreLogsUp}
use Rattle.worker_logs.specs.Shown.{Stood}
use Rattle.round_engine.specs.Keeping.{CanKeep, RunsKeeper}
use Rattle.round_engine.specs.Phases.{IsReadyToJoin, as_begun}
use Rattle.round_engine.specs.Unbegun.{RoomAlone}
use Rattle.round_engine.specs.Refusals.{device_in, device_refused, first_failed, leaves_out}
use Rattle.round_engine.specs.Saves.{beside_at_end}
use Rattle.round_engine.specs.Shares.{Share}
use Rattle.round_engine.specs.Sides.{SameButGrowing, closed_in, growing_in}
use Rattle.round_engine.specs.Standing.{AreClosed, ArePassed, beside_of, HasSnapshot, RuntimeState, Standing}
use Rattle.round_engine.specs.Workers.{RunsWorkers, refusal_of}
use Rattle.round_engine.specs.declared.report.End.{End}
use Rattle.round_engine.specs.declared.rounds.LineRefusals.{LineRefusals}
use Rattle.shared_rounds.specs.Below.{LogEnd}
use Rattle.round_engine.proofs.Devices.{are_down}
use Rattle.round_engine.proofs.Ended.{failed_down, first_down}
use Rattle.round_engine.proofs.EndTold.{nothing}
use Rattle.round_engine.proofs.JoinedAs.{none_down_at}
use Rattle.round_engine.proofs.LinesLeft.{lines_at}
use Rattle.round_engine.proofs.LogsStanding.{stand_keeper, stand_ran}
use Rattle.round_engine.proofs.Numbered.{closed_many, growing_many, whole_of}
use Rattle.round_engine.proofs.Places.{map_there, nothing_there}
use Rattle.round_engine.proofs.RoundDone.{map_same, same_closed_in}
use Rattle.round_engine.proofs.GleanDevices.{nothing_in}
use Rattle.round_engine.proofs.RoundKept.{counted_few, first_told_none, none_told}
use Rattle.round_engine.proofs.Saved.{IsOver, over_begin, over_end}
use Rattle.round_engine.proofs.SharesRun.{same_decls}
use Rattle.round_engine.proofs.Whole.{below_8}
use Rattle.round_engine.proofs.Places.{item_at}
use Rattle.round_engine.proofs.Published.{published_then}

pub same_growing_in : {D : Type 0} (side : Side) (old new : Vault D) → RoomAlone old new → growing_in side new ≡ growing_in side old
same_growing_in Even old new room = ap (λ v. v.items) room.even
same_growing_in Odd old new room = ap (λ v. v.items) room.odd

module _ {D : Type 0} {tells : D → Option (List ℕ)} {clock : D → ℕ} {image_at : D → ℕ → List ℕ → Type 0}
    {faults : D → ℕ} {tries : ℕ} {round : Round} {r mid : RuntimeState} {worked : Standing} {before lent between :
    Vault D}
    {outcomes : List (List Outcome)} {ends : List LogEnd} {marks : List (List Stood)} {readied : List (List Readied)}
    (logs_up : AreLogsUp tells r.logs (growing_in r.side before)) (whole : IsWhole before)
    (ready : CanKeep tells clock image_at r before)
    (passed : ArePassed round r)
    (lines : RunsWorkers tells clock image_at faults tries round r.stands worked outcomes ends marks readied r.logs
    mid.logs
    (growing_in r.side before) (growing_in r.side between))
    (alone : mid ≡ record r { stands = as_begun r.stands worked; logs = mid.logs }) (room : RoomAlone before lent)
    (beside : SameButGrowing r.side lent between) where
  before_many : length (growing_in r.side before) ≡ 8
  before_many = growing_many r.side before whole

  mid_side : mid.side ≡ r.side
  mid_side = ap (λ (x : RuntimeState). x.side) alone

  -- the clock and the storages behind the lines
  mid_kept : (mid.stands.decls ≡ r.stands.decls) × (mid.stands.clock.epoch ≡ r.stands.clock.epoch)
  mid_kept = (
    ap (λ (x : RuntimeState). x.stands.decls) alone ∙ same_decls lines.over.runs,
    ap (λ (x : RuntimeState). x.stands.clock.epoch) alone,
  )

  first_is : first_failed r.side 0 ends ≡ first_down r.side 0 (are_down mid.logs)
  first_is = failed_down r.side 0 ends
      ∙ ap (first_down r.side 0) (map_same (λ (e : LogEnd). e.failed) (λ (l : LogState). is_some l.journal.down) ends mid.logs
      ends_many lines.ends_failed)
    where
      ends_many : length ends ≡ length mid.logs
      ends_many = sym (length-map ends refusal_of) ∙ ap length lines.ends_are
          ∙ length-map lines.shares (λ (p : Share). p.refusal) ∙ lines.over.runs.workers
          ∙ sym ready.workers ∙ sym lines.over.logs_length

  lines_up : first_failed r.side 0 ends ≡ None → AreLogsUp tells mid.logs (growing_in r.side between)
  lines_up none w log bank at bank_at =
      let below = below_8 mid.logs w log at (lines.over.logs_length ∙ ready.workers) in
      let begins = item_at r.logs w (omega (arith, below, ready.workers)) in
      let was = item_at (growing_in r.side before) w (omega (arith, below, before_many)) in
      let one = lines_at w lines.over ready.workers begins.1 at was.1 bank_at in
      record {
        up = nothing_there log.journal.down (none_down_at r.side 0 (are_down mid.logs) w (is_some log.journal.down)
            (sym first_is ∙ none) (map_there (λ (l : LogState). is_some l.journal.down) mid.logs w log at));
        limit = one.limit ∙ (logs_up w begins.0 was.0 begins.1 was.1).limit;
        reaches = one.reaches;
      }

  mid_snapshot : HasSnapshot tells mid between.snaps
  mid_snapshot =
      subst (λ x. HasSnapshot tells x between.snaps) (sym alone)
      (subst (HasSnapshot tells (record r { stands = as_begun r.stands worked; logs = mid.logs })) (sym
      (beside.snaps ∙ room.snaps)) (record {
        holds = ready.snapshot.holds;
        contents = ready.snapshot.contents;
        stands = ready.snapshot.stands;
        decls = same_decls lines.over.runs ∙ ready.snapshot.decls;
        up_to = ready.snapshot.up_to;
        earlier = ready.snapshot.earlier;
        let_in = ready.snapshot.let_in;
        published = published_then r.stands (as_begun r.stands worked) r.store.pages r.store.pages r.room r.room
            (record {
              pages = refl;
              resident = ap (λ (x : Standing). x.resident) lines.over.runs.only;
            }) refl refl ready.snapshot.published;
      }))

  between_whole : IsWhole between
  between_whole = whole_of r.side between (lines.over.banks_length ∙ before_many)
      (ap length (beside.closed ∙ same_closed_in r.side before lent room) ∙ ready.files)

  -- what the maintenance thread's lines find
  pub can_keep : CanKeep tells clock image_at mid between
  can_keep = record {
    files = subst (λ s. length (closed_in s between) ≡ 8) (sym mid_side) (closed_many r.side between between_whole);
    workers = lines.over.logs_length ∙ ready.workers;
    up = ap (λ (x : RuntimeState). x.save.down) alone ∙ ready.up;
    stored = subst (λ (x : RuntimeState). IsStored tells clock image_at between.save x.save.newest) (sym alone)
        (subst (λ d. IsStored tells clock image_at d r.save.newest) (sym (beside.save ∙ room.save)) ready.stored);
    closed = record {
      workers = ap (λ (x : RuntimeState). length x.counted) alone ∙ ready.closed.workers;
      counted = subst (λ (x : RuntimeState). AllByRecursion (λ n. n < 2 ^ 40) x.counted) (sym alone) ready.closed.counted;
      before = omega (arith, ap (λ (x : RuntimeState). x.closed_at) alone, ready.closed.before, mid_kept.1);
    };
    most_pages = omega (arith, ap (λ (x : RuntimeState). x.room) alone, ready.most_pages);
    sound = ap (λ (x : RuntimeState). x.store.sound) alone ∙ ready.sound;
    snapshot = mid_snapshot;
    durable = λ always. stand_ran round r mid worked before between lines alone ready.workers before_many passed
        (beside.closed ∙ same_closed_in r.side before lent room) (ready.durable always);
  }

  module _ {seen : List (List Mark)} {kept : RuntimeState} {after : Vault D} {said : List Answer} {refusal : Option End}
      (keeper : RunsKeeper tells clock image_at faults seen (keeper_lines round) said refusal mid kept between
      after) where
    kept_side : kept.side ≡ r.side
    kept_side = keeper.leaves.side ∙ mid_side

    growing_kept : growing_in r.side after ≡ growing_in r.side between
    growing_kept = subst (λ s. growing_in s after ≡ growing_in s between) mid_side keeper.leaves.over.growing

    after_whole : IsWhole after
    after_whole = whole_of r.side after (ap length growing_kept ∙ lines.over.banks_length ∙ before_many)
        (subst (λ s. length (closed_in s after) ≡ length (closed_in s between)) mid_side keeper.leaves.over.many
        ∙ ap length (beside.closed ∙ same_closed_in r.side before lent room) ∙ ready.files)

    kept_counted : kept.counted ≡ (beside_at_end (beside_of r) said).closed
    kept_counted = keeper.leaves.counted ∙ ap (λ (x : RuntimeState). (beside_at_end (beside_of x) said).closed) alone

    kept_closed : AreClosed kept
    kept_closed =
        let over : IsOver r.side r.counted (beside_at_end (beside_of r) said) =
        over_end said (beside_of r) (over_begin r.side r.counted (length r.store.pages) ready.closed.workers) in
        record {
          workers = ap length kept_counted ∙ over.workers;
          counted = subst (AllByRecursion (λ n. n < 2 ^ 40)) (sym kept_counted)
              (counted_few r.side r.counted (beside_at_end (beside_of r) said) ready.closed.counted over);
          before = omega (
            arith,
            keeper.leaves.closed_at,
            ap (λ (x : RuntimeState). x.closed_at) alone,
            ready.closed.before,
            keeper.later,
            mid_kept.1,
          );
        }

    -- Nothing that leaves the join out was refused: the logs and the stores are up.
    pub ready_to_join : (refused : LineRefusals) → refused.device ≡ device_refused r.side refusal ends → refused.keeper ≡ refusal
        → leaves_out refused ≡ false → IsReadyToJoin tells clock image_at faults kept after
    ready_to_join refused device_is keeper_is out =
        let none = nothing refused out in
        let told = none_told keeper.failed keeper.broken keeper.damaged said (sym keeper.refusal_is ∙ sym keeper_is ∙ none.keeper) in
        let no_device = first_told_none (device_in refusal) (first_failed r.side 0 ends) (sym device_is ∙ none.device) in
        let up : kept.save.down ≡ None = nothing_there kept.save.down (keeper.keeps.down ∙ ap is_some told.failed_none) in
        let sound_kept : kept.store.sound ≡ true =
        keeper.leaves.sound (λ has. nothing_in keeper.broken told.broken_none devices.Snaps has)
        (ap (λ (x : RuntimeState). x.store.sound) alone ∙ ready.sound) in
        record {
          whole = after_whole;
          workers = ap length keeper.logs ∙ lines.over.logs_length ∙ ready.workers;
          logs = subst (λ s. AreLogsUp tells kept.logs (growing_in s after)) (sym kept_side)
              (subst (λ l. AreLogsUp tells l (growing_in r.side after)) (sym keeper.logs)
              (subst (AreLogsUp tells mid.logs) (sym growing_kept) (lines_up no_device.1)));
          closed = kept_closed;
          most_pages = omega (arith, keeper.leaves.room, ap (λ (x : RuntimeState). x.room) alone, ready.most_pages);
          sound = sound_kept;
          snapshot = keeper.leaves.snapshot (λ was. mid_snapshot) sound_kept;
          up = up;
          stored = keeper.keeps.stands up;
          durable = λ always. stand_keeper keeper can_keep.closed.workers (can_keep.durable always);
        }
