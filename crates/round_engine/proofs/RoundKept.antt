-- Where a round stands behind its lines and those of the maintenance thread, and what these were refused.
use Rattle.std.proofs.Common.{◌≡◌, ◌∙◌, ◌≤◌, ◌<◌, ◌+◌, ◌-◌, ◌++◌, ◌∷◌, inl, inr, sym, ap, subst, refl, ℕ, suc, List, []}
use Rattle.std.proofs.Common.{length, map, Bool, true, false, cond, not, Option, Some, None, arith}
use Rattle.std.specs.Prelude.{◌||◌, ◌^◌, flat_map, fold, is_some, min, nat_lt, option_to_list, replicate, slice_get}
use Rattle.std.specs.Option.{option_map}
use Rattle.std.specs.List.{AllByRecursion, Contains, list_any}
use Rattle.std.proofs.lemmas.List.{length-map}
use Rattle.std.proofs.lemmas.Option.{same_Some}
use Rattle.lists.specs.Each.{all_at}
use Rattle.outside.specs.Faults.{Rose}
use Rattle.outside.specs.Reads.{OnlyReads}
use Rattle.log_writer.specs.Counted.{AlwaysTells}
use Rattle.log_writer.specs.Vault.{IsWhole, disk_in}
use Rattle.outside.specs.declared.device.Device.{Device}
use Rattle.outside.specs.declared.device.Device.TheVariants as devices
use Rattle.log_writer.specs.declared.vault.Vault.{Vault}
use Rattle.serial_model.specs.Numbers.{last_epoch}
use Rattle.script_grammar.specs.Script.{Round, keeper_lines, lines_of_worker}
use Rattle.wire_form.specs.declared.clock.Mark.{Mark}
use Rattle.log_writer.specs.Points.{SaveState}
use Rattle.log_writer.specs.declared.saved.Saved.{Saved}
use Rattle.snapshot_store.specs.Store.{StoreState}
use Rattle.joint_crashes.specs.Images.{epoch_of}
use Rattle.joint_crashes.specs.VaultReads.{RoseIn}
use Rattle.tx_script.specs.Causes.{KeeperAt, keeper_after, keeper_at_end}
use Rattle.tx_script.specs.Run.{Ran, is_limit}
use Rattle.tx_script.specs.declared.answer.Answer.{Answer}
use Rattle.worker_logs.specs.Logs.{IsJoined, LogState, log_limit}
use Rattle.worker_logs.specs.Saves.{closed_number}
use Rattle.worker_logs.specs.Shown.{Stood}
use Rattle.shared_rounds.specs.Shares.{BeginsAt, shown_epochs}
use Rattle.tx_script.specs.Seen.{AreAt, first_places}
use Rattle.worker_logs.specs.declared.savepoints.Beside.{Beside}
use Rattle.worker_logs.specs.declared.savepoints.Side.{Side}
use Rattle.worker_logs.specs.Rows.{NeverFall}
use Rattle.round_engine.specs.Ends.{epoch_after, first_device, full_length, limit_at}
use Rattle.round_engine.specs.Ends.{save_limited, wants_memory, where_true}
use Rattle.round_engine.specs.Gleans.{AddsSnapshot, FailsIn, RoundGleans}
use Rattle.round_engine.specs.Keeping.{GoOn, IsSavedBySeen, KeepsSaves, epoch_by, epochs_in, is_refusal, keeper_on}
use Rattle.round_engine.specs.Keeping.{last_epoch_of, refusal_told}
use Rattle.round_engine.specs.Phases.{RunsAll, as_begun}
use Rattle.round_engine.specs.Refusals.{damage_in, device_in, first_failed, first_full, first_told}
use Rattle.round_engine.specs.Refusals.{memory_in}
use Rattle.round_engine.specs.Saves.{AreSavedIn, beside_at_end, beside_at_save, GoesBy}
use Rattle.round_engine.specs.Shares.{Share}
use Rattle.round_engine.specs.Sides.{closed_in, growing_in}
use Rattle.round_engine.specs.Standing.{AreClosed, beside_of, HasSnapshot, IsMarkBefore, IsReady, LogsStand, RuntimeState}
use Rattle.round_engine.specs.Standing.{Standing, StandsOn}
use Rattle.round_engine.specs.Workers.{idled, refusal_of}
use Rattle.round_engine.specs.declared.report.End.{End}
use Rattle.round_engine.specs.declared.report.End.TheVariants as ends
use Rattle.round_engine.specs.declared.report.LimitName.TheVariants.{Draw}
use Rattle.round_engine.specs.declared.report.Report.{Report}
use Rattle.shared_rounds.specs.Below.{LogEnd}
use Rattle.round_engine.proofs.Beside.{keeps_from}
use Rattle.round_engine.proofs.Devices.{IsBeside, are_down}
use Rattle.round_engine.proofs.Ended.{failed_down, first_down, full_is_first, keeper_device}
use Rattle.round_engine.proofs.Ended.{refused_any}
use Rattle.round_engine.proofs.EndTold.{IsKeeperEnd, IsRefusedAs}
use Rattle.round_engine.proofs.GleansSeen.{TellAlike, adds_first, damage_first, found_first, seen_of, seen_same}
use Rattle.round_engine.proofs.LinesLeft.{lines_at, shown_in}
use Rattle.round_engine.proofs.LogsStanding.{stand_keeper, stand_ran, stand_start, start_passed}
use Rattle.round_engine.proofs.Numbered.{closed_at, closed_many, whole_of}
use Rattle.round_engine.proofs.Places.{all_from}
use Rattle.round_engine.proofs.RoundDone.{before_many, between_many, closed_mid}
use Rattle.round_engine.proofs.RoundDone.{in_order, keeper_start, map_same, map_true, mark_stopped, marks_many}
use Rattle.round_engine.proofs.RoundDone.{mid_decls}
use Rattle.round_engine.proofs.RoundDone.{mid_epoch, ran_with, same_saves, seen_shown, start_up, worked_up}
use Rattle.round_engine.proofs.RoundMarks.{IsAtLeast, begins_low, begins_some, first_at, first_of, firsts, stood_on}
use Rattle.round_engine.proofs.Placed.{goes_wider}
use Rattle.round_engine.proofs.Saved.{IsOver, lines_weaker, over_begin, over_end}
use Rattle.round_engine.proofs.SharesRun.{same_decls}
use Rattle.round_engine.proofs.Whole.{AreShown, below_8}
use Rattle.round_engine.proofs.Places.{item_at, map_at}
use Rattle.round_engine.proofs.Published.{published_then}

-- the least of numbers that are at least this is at least this
pub least_low : (low n : ℕ) (xs : List ℕ) → low ≤ n → AllByRecursion (λ x. low ≤ x) xs → low ≤ fold min n xs
least_low low n [] le all = le
least_low low n (x ∷ xs) le all = least_low low (min n x) xs (omega (arith, le, all.0)) all.1

pub one_low : (low : ℕ) (mark : Option ℕ) (more : List ℕ) → IsAtLeast low mark → AllByRecursion (λ x. low ≤ x) more
    → AllByRecursion (λ x. low ≤ x) (option_to_list mark ++ more)
one_low low None more is all = all
one_low low (Some e) more is all = (is, all)

pub all_low : (low : ℕ) (marks : List Mark)
    → ((w : ℕ) (m : Mark) → slice_get marks w ≡ Some m → IsAtLeast low m.epoch)
    → AllByRecursion (λ x. low ≤ x) (flat_map option_to_list (epochs_in marks))
all_low low [] each = tt
all_low low (m ∷ marks) each =
    one_low low m.epoch _ (each 0 m refl) (all_low low marks (λ w x at. each (suc w) x at))

pub least_from : (low n : ℕ) (marks : List Mark) → low ≤ n
    → ((w : ℕ) (m : Mark) → slice_get marks w ≡ Some m → IsAtLeast low m.epoch)
    → low ≤ fold min n (flat_map option_to_list (epochs_in marks))
least_from low n marks le each = least_low low n (flat_map option_to_list (epochs_in marks)) le (all_low low marks each)

-- the join never sets the clock back
pub after_up : (b : Bool) (epoch : ℕ) → epoch ≤ cond b (epoch + 1) epoch
after_up true epoch = omega arith
after_up false epoch = omega arith

pub joined_up : (b : Bool) (epoch : ℕ) → epoch ≤ cond b (epoch_after epoch) epoch
joined_up true epoch = after_up (nat_lt epoch last_epoch) epoch
joined_up false epoch = omega arith

-- epochs never fall where more come of a later one
pub rise_on : (low epoch : ℕ) (stored more : List Saved) → NeverFall low (map (λ (s : Saved). s.epoch) stored)
    → last_epoch_of low (map (λ (s : Saved). s.epoch) stored) ≤ epoch
    → AllByRecursion (λ (s : Saved). s.epoch ≡ epoch) more
    → NeverFall low (map (λ (s : Saved). s.epoch) (stored ++ more))
rise_on low epoch [] [] rise le all = tt
rise_on low epoch [] (s ∷ more) rise le all =
    (omega (arith, le, all.0), rise_on s.epoch epoch [] more tt (omega (arith, all.0)) all.1)
rise_on low epoch (s ∷ stored) more rise le all = (rise.0, rise_on s.epoch epoch stored more rise.1 le all)

-- ---- what the maintenance thread's lines were refused

-- the device that its refusal names is the first of those that are told
pub keeper_told : (failed : Option Saved) (broken : List Device) (damaged : Option (Device × ℕ)) (said : List Answer)
    → keeper_device (is_some failed) broken ≡ device_in (refusal_told failed (first_device broken) damaged said)
keeper_told (Some saved) broken damaged said = refl
keeper_told None (device ∷ more) damaged said = refl
keeper_told None [] (Some damage) said = refl
keeper_told None [] None said = by_test (list_any wants_memory said)
  where
    by_test : (b : Bool) → None ≡ device_in (where_true b ends.Memory)
    by_test true = refl
    by_test false = refl

pub damage_told : (failed : Option Saved) (broken : Option Device) (damaged : Option (Device × ℕ)) (said : List Answer)
    → device_in (refusal_told failed broken damaged said) ≡ None
    → option_map (λ (d : Device × ℕ). ends.Damaged d.0 d.1) damaged ≡ damage_in (refusal_told failed broken damaged said)
damage_told (Some saved) broken damaged said none = absurd cc
damage_told None (Some device) damaged said none = absurd cc
damage_told None None (Some damage) said none = refl
damage_told None None None said none = by_test (list_any wants_memory said)
  where
    by_test : (b : Bool) → None ≡ damage_in (where_true b ends.Memory)
    by_test true = refl
    by_test false = refl

pub memory_told : (failed : Option Saved) (broken : Option Device) (damaged : Option (Device × ℕ)) (said : List Answer)
    → device_in (refusal_told failed broken damaged said) ≡ None
    → option_map (λ (d : Device × ℕ). ends.Damaged d.0 d.1) damaged ≡ None
    → where_true (list_any wants_memory said) ends.Memory ≡ memory_in (refusal_told failed broken damaged said)
memory_told (Some saved) broken damaged said none undamaged = absurd cc
memory_told None (Some device) damaged said none undamaged = absurd cc
memory_told None None (Some damage) said none undamaged = absurd cc
memory_told None None None said none undamaged = by_test (list_any wants_memory said)
  where
    by_test : (b : Bool) → where_true b ends.Memory ≡ memory_in (where_true b ends.Memory)
    by_test true = refl
    by_test false = refl

pub keeper_end : (failed : Option Saved) (broken : Option Device) (damaged : Option (Device × ℕ)) (said : List Answer)
    (other : Option Device)
    → IsKeeperEnd (first_told (device_in (refusal_told failed broken damaged said)) other) (refusal_told failed broken damaged said)
keeper_end (Some saved) broken damaged said other = refl
keeper_end None (Some device) damaged said other = refl
keeper_end None None (Some damage) said other = tt
keeper_end None None None said other = by_test (list_any wants_memory said)
  where
    by_test : (b : Bool) → IsKeeperEnd (first_told (device_in (where_true b ends.Memory)) other) (where_true b ends.Memory)
    by_test true = tt
    by_test false = tt

-- of what was not refused nothing was told
pub record NothingTold (failed : Option Saved) (broken : List Device) (damaged : Option (Device × ℕ)) : Type 0 where
  pub failed_none : failed ≡ None
  pub broken_none : broken ≡ []
  pub damaged_none : damaged ≡ None

pub none_told : (failed : Option Saved) (broken : List Device) (damaged : Option (Device × ℕ)) (said : List Answer)
    → refusal_told failed (first_device broken) damaged said ≡ None → NothingTold failed broken damaged
none_told (Some saved) broken damaged said none = absurd cc
none_told None (device ∷ more) damaged said none = absurd cc
none_told None [] (Some damage) said none = absurd cc
none_told None [] None said none = record { failed_none = refl; broken_none = refl; damaged_none = refl }

-- where no device was told neither the store nor a glean failed
pub nothing_kept : (failed : Option Saved) (broken : List Device) (damaged : Option (Device × ℕ)) (said : List Answer)
    → device_in (refusal_told failed (first_device broken) damaged said) ≡ None → (failed ≡ None) × (broken ≡ [])
nothing_kept (Some saved) broken damaged said none = absurd cc
nothing_kept None (device ∷ more) damaged said none = absurd cc
nothing_kept None [] damaged said none = (refl, refl)

-- a store that failed is told
pub store_told : (failed : Option Saved) (broken : Option Device) (damaged : Option (Device × ℕ)) (said : List Answer)
    → is_some failed ≡ true → is_some (refusal_told failed broken damaged said) ≡ true
store_told (Some saved) broken damaged said is = refl
store_told None broken damaged said is = absurd cc

-- neither of two was told
pub first_told_none : (one other : Option Device) → first_told one other ≡ None → (one ≡ None) × (other ≡ None)
first_told_none None other none = (refl, none)
first_told_none (Some device) other none = absurd cc

-- something leaves the join out where a log was refused, or a line of the maintenance thread
pub leaves_so : (keeper : Option End) (failed : Option Device) (full : Option ℕ)
    → ((is_some failed || is_some full) || is_some keeper)
    ≡ (is_some (first_told (device_in keeper) failed) || is_some full || is_some keeper)
leaves_so None None None = refl
leaves_so None None (Some size) = refl
leaves_so None (Some device) full = refl
leaves_so (Some (ends.Device d)) None None = refl
leaves_so (Some (ends.Device d)) None (Some size) = refl
leaves_so (Some (ends.Device d)) (Some device) full = refl
leaves_so (Some (ends.Damaged d at)) None None = refl
leaves_so (Some (ends.Damaged d at)) None (Some size) = refl
leaves_so (Some (ends.Damaged d at)) (Some device) full = refl
leaves_so (Some (ends.Limit name number)) None None = refl
leaves_so (Some (ends.Limit name number)) None (Some size) = refl
leaves_so (Some (ends.Limit name number)) (Some device) full = refl
leaves_so (Some ends.Memory) None None = refl
leaves_so (Some ends.Memory) None (Some size) = refl
leaves_so (Some ends.Memory) (Some device) full = refl

-- a device that a glean told as failed is that of the snapshots or a closed log file
pub fails_beside : {D : Type 0} (tells : D → Option (List ℕ)) (clock : D → ℕ) (image_at : D → ℕ → List ℕ → Type 0)
    (faults : D → ℕ) (r : RuntimeState) (side : Side) (device : Device) (before now : Vault D) → r.side ≡ side
    → FailsIn tells clock image_at faults r device before now → IsBeside side device
fails_beside tells clock image_at faults r side devices.Snaps before now is fails = tt
fails_beside tells clock image_at faults r side devices.Save before now is fails = absurd (let no = fails.4 in cc)
fails_beside tells clock image_at faults r side (devices.Bank number) before now is fails =
    let same : number ≡ closed_number r.side fails.0 = let at = fails.4 in cc in
    (fails.0, same ∙ ap (λ s. closed_number s fails.0) is)

-- the bytes that count beside stay within what a savepoint has room for
pub counted_few : (side : Side) (counted : List ℕ) (b : Beside) → AllByRecursion (λ n. n < 2 ^ 40) counted → IsOver side counted b
    → AllByRecursion (λ n. n < 2 ^ 40) b.closed
counted_few side counted b few over = all_from (λ n. n < 2 ^ 40) b.closed (λ w n at. elim (over.each w n at) [
  | inl zero ↦ omega (arith, zero)
  | inr was ↦ all_at (λ n. n < 2 ^ 40) counted w n few was
])

module _ {D : Type 0} {tells : D → Option (List ℕ)} {clock : D → ℕ} {image_at : D → ℕ → List ℕ → Type 0}
    {faults : D → ℕ} {tries : ℕ} {round : Round} {old : RuntimeState} {start : List LogState} {new : RuntimeState}
    {before now : Vault D} {report : Report}
    (stands : StandsOn tells clock image_at old before) (ready : IsReady old) (some : 1 ≤ old.stands.clock.epoch)
    (start_many : length start ≡ 8)
    (idle : (w : ℕ) (log : LogState) → slice_get old.logs w ≡ Some log
    → slice_get start w ≡ Some (idled (lines_of_worker round w) log))
    (all : RunsAll tells clock image_at faults tries round (record old { logs = start }) new before now report) where
  -- the record of what was run
  abbrev Told : List LogState → Option Saved → List Device → Ran
  Told logs failed others = ran_with tells clock image_at faults tries round old start new before now report all logs failed others

  -- ---- the runtime behind the lines, by its parts

  pub mid_save : all.mid.save ≡ old.save
  mid_save = ap (λ (r : RuntimeState). r.save) all.alone

  pub mid_store : all.mid.store ≡ old.store
  mid_store = ap (λ (r : RuntimeState). r.store) all.alone

  pub mid_side : all.mid.side ≡ old.side
  mid_side = ap (λ (r : RuntimeState). r.side) all.alone

  pub mid_beside : beside_of all.mid ≡ beside_of old
  mid_beside = ap beside_of all.alone

  pub kept_side : all.kept.side ≡ old.side
  kept_side = all.keeper.leaves.side ∙ mid_side

  pub kept_closed_at : all.kept.closed_at ≡ old.closed_at
  kept_closed_at = all.keeper.leaves.closed_at ∙ ap (λ (r : RuntimeState). r.closed_at) all.alone

  pub kept_room : all.kept.room ≡ old.room
  kept_room = all.keeper.leaves.room ∙ ap (λ (r : RuntimeState). r.room) all.alone

  pub kept_counted : all.kept.counted ≡ (beside_at_end (beside_of old) report.keeper).closed
  kept_counted = all.keeper.leaves.counted ∙ ap (λ b. (beside_at_end b report.keeper).closed) mid_beside

  pub mid_first : old.stands.clock.epoch ≤ all.mid.stands.clock.epoch
  mid_first = omega (arith, mid_epoch stands ready some start_many idle all)

  pub kept_first : old.stands.clock.epoch ≤ all.kept.stands.clock.epoch
  kept_first = omega (arith, all.keeper.later, mid_first)

  pub over_kept : IsOver old.side old.counted (beside_at_end (beside_of old) report.keeper)
  over_kept = over_end report.keeper (beside_of old) (over_begin old.side old.counted (length old.store.pages) stands.closed.workers)

  pub kept_closed : AreClosed all.kept
  kept_closed = record {
    workers = ap length kept_counted ∙ over_kept.workers;
    counted = subst (AllByRecursion (λ n. n < 2 ^ 40)) (sym kept_counted)
        (counted_few old.side old.counted (beside_at_end (beside_of old) report.keeper) stands.closed.counted over_kept);
    before = omega (arith, kept_closed_at, stands.closed.before, kept_first);
  }

  -- where the disks tell their bytes, what counts of the log files is durable
  pub kept_durable : AlwaysTells tells → LogsStand tells clock image_at all.kept.side all.kept.logs all.kept.counted all.after
  kept_durable always =
      stand_keeper all.keeper (ap (λ (r : RuntimeState). length r.counted) all.alone ∙ stands.closed.workers)
      (stand_ran round (record old { logs = start }) all.mid all.worked before all.between all.lines all.alone
      start_many
      (before_many stands ready some start_many idle all)
      (start_passed round old.stands.clock.epoch old.logs start some ready.logs stands.workers start_many idle)
      (closed_mid stands ready some start_many idle all)
      (stand_start round old.stands.clock.epoch ready.logs stands.workers start_many idle (stands.durable always)))

  -- ---- the vault

  pub growing_kept : growing_in old.side all.after ≡ growing_in old.side all.between
  growing_kept = subst (λ s. growing_in s all.after ≡ growing_in s all.between) mid_side all.keeper.leaves.over.growing

  pub closed_kept_many : length (closed_in old.side all.after) ≡ 8
  closed_kept_many = subst (λ s. length (closed_in s all.after) ≡ length (closed_in s all.between)) mid_side all.keeper.leaves.over.many
      ∙ ap length (closed_mid stands ready some start_many idle all) ∙ closed_many old.side before stands.whole

  pub growing_kept_many : length (growing_in old.side all.after) ≡ 8
  growing_kept_many = ap length growing_kept ∙ between_many stands ready some start_many idle all

  pub after_whole : IsWhole all.after
  after_whole = whole_of old.side all.after growing_kept_many closed_kept_many

  pub reads_kept : (w : ℕ) (was is : D) → slice_get (closed_in old.side before) w ≡ Some was
      → slice_get (closed_in old.side all.after) w ≡ Some is → OnlyReads tells clock image_at faults was is
  reads_kept w was is at there = all.keeper.leaves.over.reads w was is
      (ap (λ s. slice_get (closed_in s all.between) w) mid_side
      ∙ ap (λ l. slice_get l w) (closed_mid stands ready some start_many idle all) ∙ at)
      (ap (λ s. slice_get (closed_in s all.after) w) mid_side ∙ there)

  pub quiet_kept : (w : ℕ) (was is : D) → slice_get (closed_in old.side before) w ≡ Some was
      → slice_get (closed_in old.side all.after) w ≡ Some is
      → (Contains all.keeper.broken (devices.Bank (closed_number old.side w)) → ⊥) → faults is ≡ faults was
  quiet_kept w was is at there not = all.keeper.leaves.quietly.files w was is
      (ap (λ s. slice_get (closed_in s all.between) w) mid_side
      ∙ ap (λ l. slice_get l w) (closed_mid stands ready some start_many idle all) ∙ at)
      (ap (λ s. slice_get (closed_in s all.after) w) mid_side ∙ there)
      (λ told. not (subst (λ s. Contains all.keeper.broken (devices.Bank (closed_number s w))) mid_side told))

  pub quiet_snaps_kept : (Contains all.keeper.broken devices.Snaps → ⊥) → faults all.after.snaps ≡ faults before.snaps
  quiet_snaps_kept not = all.keeper.leaves.quietly.snaps not ∙ ap faults (same_saves stands ready some start_many idle all).snaps

  -- a device that a glean told as failed
  pub rose_kept : (device : Device) → Contains all.keeper.broken device
      → IsBeside old.side device × RoseIn faults device before all.after
  rose_kept device told =
      let fails = all.keeper.leaves.fails device told in
      (fails_beside tells clock image_at faults all.mid old.side device all.between all.after mid_side fails, by_device device fails)
    where
      by_device : (device : Device) → FailsIn tells clock image_at faults all.mid device all.between all.after
          → RoseIn faults device before all.after
      by_device devices.Snaps fails = (
        before.snaps,
        all.after.snaps,
        refl,
        refl,
        subst (λ d. Rose (faults d) (faults all.after.snaps)) (same_saves stands ready some start_many idle all).snaps fails,
      )
      by_device devices.Save fails = absurd (let no = fails.4 in cc)
      by_device (devices.Bank number) fails =
          let number_is : number ≡ closed_number old.side fails.0 =
          (let at = fails.4 in cc) ∙ ap (λ s. closed_number s fails.0) mid_side in (
            fails.1,
            fails.2,
            ap (λ n. disk_in before (devices.Bank n)) number_is ∙ closed_at old.side before fails.0
                ∙ ap (λ l. slice_get l fails.0) (sym (closed_mid stands ready some start_many idle all))
                ∙ ap (λ s. slice_get (closed_in s all.between) fails.0) (sym mid_side) ∙ fails.5,
            ap (λ n. disk_in all.after (devices.Bank n)) number_is ∙ closed_at old.side all.after fails.0
                ∙ ap (λ s. slice_get (closed_in s all.after) fails.0) (sym mid_side) ∙ fails.6,
            fails.7,
          )

  -- ---- the snapshots

  mid_snapshot : HasSnapshot tells all.mid all.between.snaps
  mid_snapshot =
      let has = stands.snapshot (stands.up ready.up).store in
      subst (λ r. HasSnapshot tells r all.between.snaps) (sym all.alone)
      (subst (HasSnapshot tells (record old { stands = as_begun old.stands all.worked; logs = all.mid.logs }))
      (sym (same_saves stands ready some start_many idle all).snaps) (record {
        holds = has.holds;
        contents = has.contents;
        stands = has.stands;
        decls = same_decls all.lines.over.runs ∙ has.decls;
        up_to = has.up_to;
        earlier = has.earlier;
        let_in = has.let_in;
        published = published_then old.stands (as_begun old.stands all.worked) old.store.pages old.store.pages old.room
            old.room (record {
              pages = refl;
              resident = ap (λ (x : Standing). x.resident) all.lines.over.runs.only;
            }) refl refl has.published;
      }))

  pub kept_snapshot : all.kept.store.sound ≡ true → HasSnapshot tells all.kept all.after.snaps
  kept_snapshot sound = all.keeper.leaves.snapshot (λ was. mid_snapshot) sound

  pub kept_sound : (Contains all.keeper.broken devices.Snaps → ⊥) → all.kept.store.sound ≡ true
  kept_sound not = all.keeper.leaves.sound not (ap (λ (s : StoreState). s.sound) mid_store ∙ (stands.up ready.up).store)

  seen_mid : seen_of all.mid ≡ seen_of old
  seen_mid = seen_same old all.mid mid_store (mid_decls stands ready some start_many idle all) mid_side
      (ap (λ (r : RuntimeState). r.counted) all.alone) (ap (λ (r : RuntimeState). r.closed_at) all.alone)
      (ap (λ (r : RuntimeState). r.room) all.alone)

  alike_mid : TellAlike tells (closed_in old.side before) (closed_in old.side all.between)
  alike_mid =
      let same = closed_mid stands ready some start_many idle all in
      record {
        many = ap length same;
        same = λ w one other at there. ap tells (same_Some other one (sym there ∙ ap (λ l. slice_get l w) same ∙ at));
      }

  -- what gleans found and made is told of the round
  pub gleans_told : new.store ≡ all.kept.store → now.snaps ≡ all.after.snaps
      → RoundGleans tells report.keeper all.keeper.gleans all.keeper.damaged old new before now
  gleans_told store snaps =
      let g = all.keeper.gleaned in
      let mid_snaps = (same_saves stands ready some start_many idle all).snaps in
      record {
        told = ap (λ d. is_some (tells d)) snaps ∙ g.told ∙ ap (λ d. is_some (tells d)) mid_snaps;
        found = λ what has. found_first old all.mid before all.between seen_mid alike_mid what (g.found what has);
        made = λ epoch count has. subst (λ s. AddsSnapshot tells old before s count) (sym store)
            (adds_first old all.mid before all.between seen_mid alike_mid all.kept.store count (g.made epoch count has));
        kept = λ not sound.
            let same = g.kept not (ap (λ (s : StoreState). s.sound) (sym store) ∙ sound) in
            (store ∙ same.0 ∙ mid_store, snaps ∙ same.1 ∙ mid_snaps);
        damage = λ device at is. damage_first old all.mid before all.between seen_mid alike_mid device at (g.damage device at is);
        undamaged = g.undamaged;
        many = λ sound. ap (λ (s : StoreState). length s.pages) store
            ∙ g.many (ap (λ (s : StoreState). s.sound) (sym store) ∙ sound)
            ∙ ap (λ b. (beside_at_end b report.keeper).count) mid_beside;
      }

  -- ---- where the maintenance thread stands, and what it was refused

  pub at_end : (logs : List LogState) (failed : Option Saved) (others : List Device)
      → keeper_at_end (Told logs failed others)
      ≡ record (keeper_on all.kept (list_any is_refusal report.keeper)) { pages = (beside_at_end (beside_of all.mid) report.keeper).count }
  at_end logs failed others = ap (λ k. fold keeper_after k report.keeper)
      (sym (keeper_start stands ready some start_many idle all)) ∙ all.keeper.at_end

  logs_refused : map refusal_of all.ends ≡ map (λ (p : Share). p.refusal) all.lines.shares
  logs_refused = all.lines.ends_are

  pub first_is : first_failed old.side 0 all.ends ≡ first_down old.side 0 (are_down all.mid.logs)
  first_is = failed_down old.side 0 all.ends
      ∙ ap (first_down old.side 0) (map_same (λ (e : LogEnd). e.failed) (λ (l : LogState). is_some l.journal.down) all.ends
      all.mid.logs ends_many all.lines.ends_failed)
    where
      ends_many : length all.ends ≡ length all.mid.logs
      ends_many = sym (length-map all.ends refusal_of) ∙ ap length logs_refused
          ∙ length-map all.lines.shares (λ (p : Share). p.refusal) ∙ all.lines.over.runs.workers
          ∙ sym start_many ∙ sym all.lines.over.logs_length

  -- the device that lines were refused by, and the end that is the maintenance thread's
  pub device_is : all.refused.device ≡ first_told (device_in (refusal_told all.keeper.failed (first_device all.keeper.broken) all.keeper.damaged
      report.keeper)) (first_failed old.side 0 all.ends)
  device_is = all.device_is ∙ ap (λ k. first_told (device_in k) (first_failed old.side 0 all.ends)) all.keeper.refusal_is

  no_device : all.refused.device ≡ None
      → (device_in (refusal_told all.keeper.failed (first_device all.keeper.broken) all.keeper.damaged report.keeper) ≡ None)
      × (first_failed old.side 0 all.ends ≡ None)
  no_device none = first_told_none _ _ (sym device_is ∙ none)

  pub ends_so : IsKeeperEnd all.refused.device all.refused.keeper
  ends_so = subst (λ d. IsKeeperEnd d all.refused.keeper) (sym device_is)
      (subst (λ k. IsKeeperEnd (first_told (device_in (refusal_told all.keeper.failed (first_device all.keeper.broken) all.keeper.damaged
      report.keeper)) (first_failed old.side 0 all.ends)) k) (sym all.keeper.refusal_is)
      (keeper_end all.keeper.failed (first_device all.keeper.broken) all.keeper.damaged report.keeper (first_failed old.side 0 all.ends)))

  pub refused_as : (logs : List LogState) (failed : Option Saved) (others : List Device)
      → IsRefusedAs (Told logs failed others) all.refused
  refused_as logs failed others = record {
    draw = map_true (limit_at Draw) (list_any (list_any is_limit) report.outcomes) all.kept.stands.clock.draw
        ∙ ap (option_map (limit_at Draw)) (sym all.draw_is);
    full = λ none. ap full_length (sym logs_refused)
        ∙ full_is_first old.side 0 all.ends (no_device none).1
        ∙ sym all.full_is;
    damage = λ none. damage_told all.keeper.failed (first_device all.keeper.broken) all.keeper.damaged report.keeper (no_device none).0
        ∙ ap damage_in (sym all.keeper.refusal_is);
    memory = λ none undamaged. memory_told all.keeper.failed (first_device all.keeper.broken) all.keeper.damaged report.keeper (no_device none).0 undamaged
        ∙ ap memory_in (sym all.keeper.refusal_is);
    sequence = all.sequence_is
        ∙ ap (where_true (save_limited (keeper_lines round) report.keeper)) (ap (λ (k : KeeperAt). k.sequence) (sym (at_end logs failed others)));
    leaves = ap (λ l. list_any is_some l || (keeper_at_end (Told logs failed others)).refused) (sym logs_refused)
        ∙ ap (λ b. b || (keeper_at_end (Told logs failed others)).refused) (refused_any old.side 0 all.ends)
        ∙ ap (λ b. (is_some (first_failed old.side 0 all.ends) || is_some (first_full all.ends)) || b)
        (ap (λ (k : KeeperAt). k.refused) (at_end logs failed others) ∙ sym all.keeper.refused)
        ∙ leaves_so all.refused.keeper (first_failed old.side 0 all.ends) (first_full all.ends)
        ∙ ap (λ d. is_some d || is_some (first_full all.ends) || is_some all.refused.keeper) (sym all.device_is)
        ∙ ap (λ f. is_some all.refused.device || is_some f || is_some all.refused.keeper) (sym all.full_is);
  }

  -- ---- each log, and the clock

  -- each log keeps its limit, and the clock stays above the saved epoch
  pub lines_limit : (w : ℕ) (log : LogState) → slice_get all.mid.logs w ≡ Some log → log.journal.limit ≡ log_limit
  lines_limit w log at =
      let below = below_8 all.mid.logs w log at (all.lines.over.logs_length ∙ start_many) in
      let begins = item_at start w (omega (arith, below, start_many)) in
      let was = item_at (growing_in old.side before) w (omega (arith, below, before_many stands ready some start_many idle all)) in
      let bank = item_at (growing_in old.side all.between) w (omega (arith, below, between_many stands ready some start_many idle all)) in
      let up = start_up stands ready some start_many idle all in
      (lines_at w all.lines.over start_many begins.1 at was.1 bank.1).limit ∙ (up w begins.0 was.0 begins.1 was.1).limit

  pub kept_above : epoch_of all.kept.save.newest < all.kept.stands.clock.epoch
  kept_above = all.keeper.above (omega (
    arith,
    stands.above,
    ap (λ (x : SaveState). epoch_of x.newest) mid_save,
    mid_epoch stands ready some start_many idle all,
  ))

  -- the marks behind the lines
  pub mark_at : (w : ℕ) (log : LogState) → slice_get all.mid.logs w ≡ Some log
      → IsMarkBefore all.worked.clock.epoch log.mark.epoch
  mark_at w log at =
      let below = below_8 all.mid.logs w log at (all.lines.over.logs_length ∙ start_many) in
      let begins = item_at start w (omega (arith, below, start_many)) in
      let was = item_at old.logs w (omega (arith, below, stands.workers)) in
      let bank = item_at (growing_in old.side before) w (omega
      (arith, below, before_many stands ready some start_many idle all)) in
      let mid_bank = item_at (growing_in old.side all.between) w
      (omega (arith, below, between_many stands ready some start_many idle all)) in
      mark_stopped (lines_of_worker round w) was.0 begins.0 log old.stands.clock.epoch all.worked.clock.epoch some
      (worked_up stands ready some start_many idle all)
      (all_at (IsJoined old.stands.clock.epoch) old.logs w was.0 ready.logs was.1)
      (same_Some _ begins.0 (sym (idle w was.0 was.1) ∙ begins.1))
      (lines_at w all.lines.over start_many begins.1 at bank.1 mid_bank.1).mark

  -- the marks of a worker's share
  share_marks : (w : ℕ) (mine : List Stood) → slice_get all.marks w ≡ Some mine
      → (p : Share) × BeginsAt old.stands.clock.epoch p.lines mine
  share_marks w mine at =
      let p = map_at (λ (share : Share). share.marks) all.lines.shares w mine
      (ap (λ l. slice_get l w) all.lines.marks_are ∙ at) in
      (p.0, subst (BeginsAt old.stands.clock.epoch p.0.lines) p.2 (all.lines.begins w p.0 p.1))

  -- no save holds an epoch back that the marks at the begin had left
  pub go_on : GoOn (firsts all.marks) all.seen
  go_on = stood_on all.marks first_places (firsts all.marks) all.places all.seen
      (in_order stands ready some start_many idle all)
      (subst (λ n. AreAt (map shown_epochs all.marks) (replicate n 0) (epochs_in (firsts all.marks)))
      (marks_many stands ready some start_many idle all)
      (first_at all.marks (λ w mine at. let p = share_marks w mine at in
      begins_some p.0.lines mine old.stands.clock.epoch p.1))) all.back all.sees

  -- and the epoch that these let save
  pub saves_up : epoch_of all.mid.save.newest ≤ epoch_by all.mid.stands.clock.epoch (firsts all.marks)
  saves_up =
      let same = ap (λ (x : SaveState). epoch_of x.newest) mid_save in
      let low = least_from (epoch_of old.save.newest) (all.mid.stands.clock.epoch - 1) (firsts all.marks)
      (omega (arith, stands.above, mid_epoch stands ready some start_many idle all)) (λ w m at.
      let mine = map_at first_of all.marks w m at in
      let p = share_marks w mine.0 mine.1 in
      subst (λ (x : Mark). IsAtLeast (epoch_of old.save.newest) x.epoch) mine.2
      (begins_low p.0.lines mine.0 old.stands.clock.epoch (epoch_of old.save.newest) stands.above p.1)) in
      omega (arith, same, low)

  pub rise_lines : NeverFall (epoch_of old.save.newest) (map (λ (s : Saved). s.epoch) (all.keeper.stored ++ option_to_list all.keeper.failed))
  rise_lines = subst (λ (x : SaveState). NeverFall (epoch_of x.newest)
      (map (λ (s : Saved). s.epoch) (all.keeper.stored ++ option_to_list all.keeper.failed))) mid_save
      (all.keeper.rise (firsts all.marks) go_on saves_up).0

  -- what was kept by the lines, since the begin
  pub keeps_lines : KeepsSaves tells clock image_at faults all.keeper.stored all.keeper.failed old all.kept before all.after
  keeps_lines = keeps_from (same_saves stands ready some start_many idle all) mid_save mid_store all.keeper.keeps

  -- what they saved went by what they saw, with what counted beside then
  pub placed_lines : (high : ℕ) → all.kept.stands.clock.epoch ≤ high → (k : ℕ) (saved : Saved)
      → slice_get (all.keeper.stored ++ option_to_list all.keeper.failed) k ≡ Some saved
      → (seen : List Mark) × (slice_get all.seen k ≡ Some seen)
      × GoesBy old.stands.clock.epoch high (beside_at_save (beside_of old) report.keeper k) seen saved
  placed_lines high within k saved at =
      let one = all.keeper.by_place.by k saved at in (
        one.0,
        one.1,
        goes_wider (subst (λ b. GoesBy all.mid.stands.clock.epoch all.kept.stands.clock.epoch
            (beside_at_save b report.keeper k) one.0 saved) mid_beside one.2) (omega (arith, mid_first)) within,
      )

  -- how the maintenance thread's lines saved
  pub by_lines : (Seen : ℕ → List Mark → Type 0)
      → ((at : ℕ) (seen : List Mark) → (old.stands.clock.epoch ≤ at) → (at ≤ all.kept.stands.clock.epoch)
      → AreShown (shown_in all.lines.shares) seen → Seen at seen)
      → AreSavedIn (IsSavedBySeen Seen) (beside_of old) report.keeper all.keeper.stored
  by_lines Seen so = subst (λ b. AreSavedIn (IsSavedBySeen Seen) b report.keeper all.keeper.stored) mid_beside
      (lines_weaker (λ b saved is. (
        is.0,
        is.1,
        so is.0 is.1 (omega (arith, is.2.0, mid_first)) is.2.1
            (seen_shown stands ready some start_many idle all is.1 is.2.2),
        is.3,
      )) report.keeper
      (beside_of all.mid) all.keeper.stored all.keeper.by_lines)
