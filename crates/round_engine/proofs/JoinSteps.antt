-- The steps of a join, one after another.
use Rattle.std.proofs.Common.{◌≡◌, ◌≢◌, ◌∙◌, ◌≤◌, ◌<◌, ◌+◌, ◌-◌, ◌++◌, ◌∷◌, inl, inr, sym, ap, subst, refl, ℕ, List, [], length, map}
use Rattle.std.proofs.Common.{true, cond, Option, Some, None, arith}
use Rattle.std.specs.Prelude.{flat_map, fold, is_some, min, option_to_list, slice_get, Result, Ok, Err}
use Rattle.std.specs.List.{AllByRecursion, Contains}
use Rattle.std.proofs.lemmas.Bool.{cases_eq, cases_lt}
use Rattle.std.proofs.lemmas.Option.{same_Some}
use Rattle.lists.specs.Elements.{in_cases, in_head, in_none}
use Rattle.log_writer.specs.Counted.{AlwaysTells}
use Rattle.log_writer.specs.Vault.{IsWhole}
use Rattle.outside.specs.declared.device.Device.TheVariants as devices
use Rattle.log_writer.specs.declared.vault.Vault.{Vault}
use Rattle.serial_model.specs.Numbers.{last_epoch}
use Rattle.wire_form.specs.declared.clock.Mark.{Mark}
use Rattle.log_writer.specs.Points.{SaveState, sequence_of}
use Rattle.log_writer.specs.Save.{IsStored}
use Rattle.log_writer.specs.declared.journal.LogFault.{LogFault}
use Rattle.log_writer.specs.declared.journal.LogFault.TheVariants as faulty
use Rattle.log_writer.specs.declared.save.SaveFault.{SaveFault}
use Rattle.log_writer.specs.declared.save.SaveFault.TheVariants.{Device, Down, Limit}
use Rattle.log_writer.specs.declared.saved.Saved.{Saved}
use Rattle.joint_crashes.specs.Images.{epoch_of}
use Rattle.tx_script.specs.Causes.{last_sequence}
use Rattle.worker_logs.specs.FlushAll.{FlushesAll, MarksLog}
use Rattle.worker_logs.specs.Logs.{IsJoined, LogGoesOn, LogState}
use Rattle.worker_logs.specs.Moves.{MovesLog}
use Rattle.worker_logs.specs.Saves.{growing_number, SavesBy, SavesMarks, logs_marks, saved_epoch}
use Rattle.worker_logs.specs.declared.savepoints.Beside.{Beside}
use Rattle.worker_logs.specs.declared.savepoints.Side.{Side}
use Rattle.worker_logs.specs.declared.savepoints.Side.TheVariants.{Even, Odd}
use Rattle.worker_logs.specs.Rows.{AreLogsUp, IsLogUp}
use Rattle.worker_logs.specs.RowLaws.{blames_move, blames_none}
use Rattle.round_engine.specs.Ends.{epoch_after}
use Rattle.round_engine.specs.Keeping.{CanKeep, IsSavedBySeen, JoinAnswers, JoinsLog, MarksOf, RunsJoin, at_epoch, device_told, join_answer}
use Rattle.round_engine.specs.Sides.{SameButGrowing, closed_in, growing_in}
use Rattle.round_engine.specs.Standing.{AreClosed, beside_of, HasSnapshot, LogsStand, RuntimeState}
use Rattle.round_engine.specs.declared.report.End.{End}
use Rattle.round_engine.specs.declared.report.End.TheVariants as ends
use Rattle.round_engine.specs.declared.report.LimitName.TheVariants.{Epoch}
use Rattle.round_engine.proofs.Beside.{keeps_from, keeps_none}
use Rattle.round_engine.proofs.JoinedAs.{below_test, sequence_left}
use Rattle.round_engine.proofs.KeepingSaves.{failed_of, keeps_saves, stored_of, with_save}
use Rattle.round_engine.proofs.LogsLeft.{goes_none}
use Rattle.round_engine.proofs.Numbered.{closed_many, growing_many, same_growing, whole_of}
use Rattle.round_engine.proofs.Places.{all_from, not_save}
use Rattle.round_engine.proofs.Whole.{below_8}
use Rattle.round_engine.proofs.Places.{item_at}

-- ---- epochs

pub back : (e : ℕ) → e + 1 - 1 ≡ e
back e = omega arith

pub epoch_stays : (e : ℕ) → e ≡ last_epoch → epoch_after e ≡ e
epoch_stays e last = subst (λ n. epoch_after n ≡ n) (sym last) refl

pub epoch_next : (e : ℕ) → e < last_epoch → epoch_after e ≡ e + 1
epoch_next e less = subst (λ b. cond b (e + 1) e ≡ e + 1) (sym (below_test e last_epoch less)) refl

-- marks that were just set allow the epoch that ended
pub least_joined : (e n : ℕ) (logs : List LogState) → n ≡ e → AllByRecursion (IsJoined (e + 1)) logs
    → fold min n (flat_map option_to_list (map (λ (m : Mark). m.epoch) (logs_marks logs))) ≡ e
least_joined e n [] is all = is
least_joined e n (log ∷ logs) is all =
    subst (λ o. fold min n (option_to_list o ++ flat_map option_to_list (map (λ (m : Mark). m.epoch) (logs_marks logs))) ≡ e)
    (sym (ap (λ (m : Mark). m.epoch) all.0.marked))
    (least_joined e (min n (e + 1 - 1)) logs (omega (arith, is)) all.1)

pub joined_saved : (e : ℕ) (logs : List LogState) → AllByRecursion (IsJoined (e + 1)) logs
    → saved_epoch (e + 1) (map (λ (m : Mark). m.epoch) (logs_marks logs)) ≡ e
joined_saved e logs all = least_joined e (e + 1 - 1) logs (back e) all

-- ---- the device that is told

pub this_bank : (side : Side) (w worker : ℕ)
    → Contains (devices.Bank (growing_number side worker) ∷ []) (devices.Bank (growing_number side w)) → w ≡ worker
this_bank side w worker has =
    elim (in_cases (devices.Bank (growing_number side w)) (devices.Bank (growing_number side worker)) [] has) [
      | inl same ↦
          let n : growing_number side worker ≡ growing_number side w = let is = same in cc in
          sym (same_growing side worker w n)
      | inr none ↦ absurd (in_none (devices.Bank (growing_number side w)) none)
    ]

pub bank_told_is : (side : Side) (w worker : ℕ)
    → ◌≡◌ {A = Result ℕ End} (Err (ends.Device (devices.Bank (growing_number side worker))))
    (Err (ends.Device (devices.Bank (growing_number side w)))) → w ≡ worker
bank_told_is side w worker told =
    let n : growing_number side worker ≡ growing_number side w = let is = told in cc in
    sym (same_growing side worker w n)

-- a save names no log file
pub no_bank : (result : Result ℕ SaveFault) (number : ℕ) → Contains (device_told (join_answer result)) (devices.Bank number) → ⊥
no_bank (Ok epoch) number has = in_none (devices.Bank number) has
no_bank (Err (Limit sequence)) number has = in_none (devices.Bank number) has
no_bank (Err Device) number has = not_save number has
no_bank (Err (Down count)) number has = not_save number has

pub no_told : (result : Result ℕ SaveFault) (number : ℕ) → join_answer result ≡ Err (ends.Device (devices.Bank number)) → ⊥
no_told (Ok epoch) number is = absurd (let no = is in cc)
no_told (Err (Limit sequence)) number is = absurd (let no = is in cc)
no_told (Err Device) number is = absurd (let no = is in cc)
no_told (Err (Down count)) number is = absurd (let no = is in cc)

pub at_clock_of : (e : ℕ) (result : Result ℕ SaveFault) (saved : Saved) → saved.epoch ≡ e
    → AllByRecursion (λ (s : Saved). s.epoch ≡ e) (stored_of saved result ++ option_to_list (failed_of saved result))
at_clock_of e (Ok epoch) saved is = (is, tt)
at_clock_of e (Err Device) saved is = (is, tt)
at_clock_of e (Err (Down count)) saved is = tt
at_clock_of e (Err (Limit sequence)) saved is = tt

-- ---- one log

module _ {D : Type 0} {tells : D → Option (List ℕ)} {clock : D → ℕ} {image_at : D → ℕ → List ℕ → Type 0}
    {faults : D → ℕ} where
  -- a log that was up moved in the join
  pub moves_join : {e : ℕ} {was log : LogState} {bank_was bank : D} (fault : Option LogFault) → IsLogUp tells was bank_was
      → MovesLog tells clock image_at faults (e + 1 - 1) was log bank_was bank fault
      → JoinsLog tells clock image_at faults e was log bank_was bank
  moves_join {e = e} {was = was} {log = log} {bank_was = bank_was} {bank = bank} fault up moves = record {
    goes = subst (λ n. LogGoesOn tells clock image_at n was log bank_was bank) (back e) moves.runs;
    end = moves.end;
    mark = moves.mark;
    blames = blames_move fault (blames_none bank_was was.journal up.up) moves;
    reaches = moves.reaches;
    limit = moves.limit;
  }

  -- or was left alone
  pub left_join : {e : ℕ} {was log : LogState} {bank_was bank : D} → IsLogUp tells was bank_was → log ≡ was → bank ≡ bank_was
      → JoinsLog tells clock image_at faults e was log bank_was bank
  left_join {e = e} {was = was} {log = log} {bank_was = bank_was} {bank = bank} up same bank_same =
      subst (λ l. JoinsLog tells clock image_at faults e was l bank_was bank) (sym same)
      (subst (λ b. JoinsLog tells clock image_at faults e was was bank_was b) (sym bank_same) (record {
        goes = goes_none e was bank_was;
        end = refl;
        mark = inl refl;
        blames = blames_none bank_was was.journal up.up;
        reaches = up.reaches;
        limit = refl;
      }))

  -- a log that was up and refused to be flushed is down
  pub refused_down : {e : ℕ} {was log : LogState} {bank_was bank : D} (fault : LogFault) → was.journal.down ≡ None
      → MovesLog tells clock image_at faults e was log bank_was bank (Some fault)
      → ((length : ℕ) → fault ≢ faulty.Limit length) → is_some log.journal.down ≡ true
  refused_down faulty.Device up moves not_full = ap is_some (moves.goes_down refl)
  refused_down (faulty.Down count) up moves not_full = absurd (let no = sym up ∙ (moves.down count).0 refl in cc)
  refused_down (faulty.Limit length) up moves not_full = absurd (not_full length refl)

-- ---- the join

-- the runtime behind the advance, with these logs
abbrev pub flushed_with : RuntimeState → List LogState → RuntimeState
flushed_with r logs = record (at_epoch r (r.stands.clock.epoch + 1)) { logs = logs }

-- what was stored by the marks of the logs at an epoch of the clock
pub by_marks_of : (r : RuntimeState) (epoch : ℕ) (saved : Saved) (result : Result ℕ SaveFault) (beside : Beside)
    → SavesBy epoch (logs_marks r.logs) beside saved
    → AllByRecursion (IsSavedBySeen (MarksOf r epoch epoch) beside) (stored_of saved result ++ option_to_list (failed_of saved result))
by_marks_of r epoch saved (Ok answer) beside by = ((epoch, logs_marks r.logs, (omega arith, omega arith, refl), by), tt)
by_marks_of r epoch saved (Err Device) beside by = ((epoch, logs_marks r.logs, (omega arith, omega arith, refl), by), tt)
by_marks_of r epoch saved (Err (Down count)) beside by = tt
by_marks_of r epoch saved (Err (Limit sequence)) beside by = tt

module _ {D : Type 0} (tells : D → Option (List ℕ)) (clock : D → ℕ) (image_at : D → ℕ → List ℕ → Type 0)
    (faults : D → ℕ) (old : RuntimeState) (before : Vault D)
    (whole : IsWhole before) (ups : AreLogsUp tells old.logs (growing_in old.side before)) (workers : length old.logs ≡ 8)
    (up : old.save.down ≡ None) (stored : IsStored tells clock image_at before.save old.save.newest) where
  -- a worker's log and its log file
  bank_of : (w : ℕ) → w < 8 → (bank : D) × (slice_get (growing_in old.side before) w ≡ Some bank)
  bank_of w below = item_at (growing_in old.side before) w (omega (arith, below, growing_many old.side before whole))

  each_up : (w : ℕ) (log : LogState) → slice_get old.logs w ≡ Some log → log.journal.down ≡ None
  each_up w log at =
      let bank = bank_of w (below_8 old.logs w log at workers) in
      (ups w log bank.0 at bank.1).up

  -- The epoch was the last one.
  pub not_advanced : {end : End} → old.stands.clock.epoch ≡ last_epoch → end ≡ ends.Limit Epoch old.stands.clock.epoch
      → RunsJoin tells clock image_at faults old old before before (Err end)
  not_advanced {end} last is =
      subst (λ e. RunsJoin tells clock image_at faults old old before before (Err e)) (sym is) (record {
        stored = [];
        failed = None;
        keeps = keeps_none old before up stored;
        by_marks = tt;
        at_clock = tt;
        answer = (omega (arith, last), refl, refl, refl);
        alone = refl;
        stands = ap (λ e. record old.stands { clock = record old.stands.clock { epoch = e } })
            (sym (epoch_stays old.stands.clock.epoch last));
        snaps = refl;
        closed = refl;
        cuts = refl;
        above = λ low. omega (arith, low, epoch_stays old.stands.clock.epoch last);
        logs_length = refl;
        growing_length = refl;
        each = λ w was log bank_was bank at there bank_at bank_there.
            left_join (ups w was bank_was at bank_at) (same_Some log was (sym there ∙ at)) (same_Some bank bank_was (sym bank_there ∙ bank_at));
        up = λ w log at none. each_up w log at;
        fell = λ w log at has. absurd (in_none (devices.Bank (growing_number old.side w)) has);
        waited = λ w was said at none. absurd (let no = said in cc);
        not_advanced = λ le. (refl, refl);
        not_flushed = λ number said. absurd (let no = said in cc);
      })

  module _ (logs : List LogState) (less : old.stands.clock.epoch < last_epoch) where
    abbrev mid : RuntimeState
    mid = flushed_with old logs

    stands_is : mid.stands ≡ record old.stands { clock = record old.stands.clock { epoch = epoch_after old.stands.clock.epoch } }
    stands_is = ap (λ e. record old.stands { clock = record old.stands.clock { epoch = e } })
        (sym (epoch_next old.stands.clock.epoch less))

    -- what a save finds behind the flush
    pub can_save : AreClosed old → old.room ≤ 65536 → old.store.sound ≡ true → HasSnapshot tells old before.snaps
        → (now : Vault D) → SameButGrowing old.side before now → length logs ≡ length old.logs
        → length (growing_in old.side now) ≡ length (growing_in old.side before)
        → (AlwaysTells tells → LogsStand tells clock image_at old.side logs old.counted now)
        → CanKeep tells clock image_at (flushed_with old logs) now
    can_save closed room sound snapshot now same many banks durable = record {
      files = ap length same.closed ∙ closed_many old.side before whole;
      workers = many ∙ workers;
      up = up;
      stored = subst (λ d. IsStored tells clock image_at d old.save.newest) (sym same.save) stored;
      closed = record { workers = closed.workers; counted = closed.counted; before = omega (arith, closed.before) };
      most_pages = room;
      sound = sound;
      snapshot = subst (HasSnapshot tells (flushed_with old logs)) (sym same.snaps) (record {
        holds = snapshot.holds;
        contents = snapshot.contents;
        stands = snapshot.stands;
        decls = snapshot.decls;
        up_to = snapshot.up_to;
        earlier = snapshot.earlier;
        let_in = snapshot.let_in;
        published = snapshot.published;
      });
      durable = durable;
    }

    -- A log refused to be flushed: what comes behind it is left out.
    pub not_flushed : {T : Type 0} (now : Vault D) (worker : ℕ) (result : Result T ℕ) → result ≡ Err worker
        → SameButGrowing old.side before now
        → (flushes : FlushesAll tells clock image_at faults (old.stands.clock.epoch + 1) old.logs logs (growing_in old.side before)
        (growing_in old.side now) result)
        → RunsJoin tells clock image_at faults old (flushed_with old logs) before now
        (Err (ends.Device (devices.Bank (growing_number old.side worker))))
    not_flushed now worker result said same flushes =
        let within : worker < 8 = omega (arith, flushes.within worker said, workers) in
        let was_at = λ (w : ℕ) (log : LogState) (at : slice_get logs w ≡ Some log).
        item_at old.logs w (omega (arith, below_8 logs w log at (flushes.as_many_logs ∙ workers), workers)) in
        let bank_at = λ (w : ℕ) (log : LogState) (at : slice_get logs w ≡ Some log).
        bank_of w (below_8 logs w log at (flushes.as_many_logs ∙ workers)) in
        let now_at = λ (w : ℕ) (log : LogState) (at : slice_get logs w ≡ Some log).
        item_at (growing_in old.side now) w (omega (
          arith,
          below_8 logs w log at (flushes.as_many_logs ∙ workers),
          growing_many old.side before whole,
          flushes.as_many_banks,
        )) in
        let fell : (log : LogState) → slice_get logs worker ≡ Some log → is_some log.journal.down ≡ true = λ log at.
        let was = was_at worker log at in
        let refuses = flushes.failed worker said was.0 log (bank_at worker log at).0 (now_at worker log at).0 was.1 at
        (bank_at worker log at).1 (now_at worker log at).1 in
        refused_down refuses.fault (each_up worker was.0 was.1) refuses.moves refuses.not_full in
        record {
          stored = [];
          failed = None;
          keeps = keeps_from {b = mid} (record { save = same.save; snaps = same.snaps; ties = ap (λ v. v.items) same.ties }) refl refl
              (keeps_none mid now up (subst (λ d. IsStored tells clock image_at d old.save.newest) (sym same.save) stored));
          by_marks = tt;
          at_clock = tt;
          answer = (less, worker, within, refl, refl, refl);
          alone = refl;
          stands = stands_is;
          snaps = same.snaps;
          closed = same.closed;
          cuts = same.cuts;
          above = λ low. omega (arith, low);
          logs_length = flushes.as_many_logs;
          growing_length = flushes.as_many_banks;
          each = λ w was log bank_was bank at there bank_there bank_now. elim (cases_lt w worker) [
            | inl front ↦ moves_join None (ups w was bank_was at bank_there)
                (flushes.done w (rw said front) was log bank_was bank at there bank_there bank_now).moves
            | inr behind ↦ elim (cases_eq w worker) [
              | inl same ↦
                  let refuses = flushes.failed w (said ∙ ap Err (sym same)) was log bank_was bank at there bank_there bank_now in
                  moves_join (Some refuses.fault) (ups w was bank_was at bank_there) refuses.moves
              | inr other ↦
                  let left = flushes.left worker w said (omega (arith, behind, other)) was log bank_was bank at there bank_there bank_now in
                  left_join (ups w was bank_was at bank_there) left.0 left.1
            ]
          ];
          up = λ w log at none.
              let was = was_at w log at in
              let bank = bank_at w log at in
              let bank_now = now_at w log at in
              elim (cases_lt w worker) [
                | inl front ↦
                    let marks = flushes.done w (rw said front) was.0 log bank.0 bank_now.0 was.1 at bank.1 bank_now.1 in
                    marks.moves.stays_up (λ is. cc) ∙ each_up w was.0 was.1
                | inr behind ↦ elim (cases_eq w worker) [
                  | inl this ↦ absurd (none (subst (λ n. Contains (devices.Bank (growing_number old.side worker) ∷ [])
                      (devices.Bank (growing_number old.side n))) (sym this) (in_head (devices.Bank (growing_number old.side worker)) [])))
                  | inr other ↦
                      let left = flushes.left worker w said (omega (arith, behind, other)) was.0 log bank.0 bank_now.0 was.1 at bank.1 bank_now.1 in
                      ap (λ (l : LogState). l.journal.down) left.0 ∙ each_up w was.0 was.1
                ]
              ];
          fell = λ w log at has. fell log (ap (slice_get logs) (sym (this_bank old.side w worker has)) ∙ at);
          waited = λ w was told at none.
              let this : w ≡ worker = bank_told_is old.side w worker told in
              let log = item_at logs worker (omega (arith, within, flushes.as_many_logs, workers)) in
              let bank = bank_at worker log.0 log.1 in
              let bank_now = now_at worker log.0 log.1 in
              let kept = (flushes.failed worker said was log.0 bank.0 bank_now.0 (ap (slice_get old.logs) (sym this) ∙ at) log.1 bank.1
              bank_now.1).nothing none in
              let down = sym (fell log.0 log.1) ∙ ap (λ j. is_some j.down) kept ∙ ap is_some (each_up w was at) in
              absurd (let no = down in cc);
          not_advanced = λ last. absurd (omega (arith, less, last));
          not_flushed = λ number told. (same.save, same.ties, refl);
        }

    -- All logs were flushed and marked, and a savepoint was asked for.
    module _ {T : Type 0} (between : Vault D) (flushed : Result T ℕ) (done : T) (said : flushed ≡ Ok done)
        (same : SameButGrowing old.side before between)
        (flushes : FlushesAll tells clock image_at faults (old.stands.clock.epoch + 1) old.logs logs (growing_in old.side before)
        (growing_in old.side between) flushed) (save : SaveState) (now : Vault D) where
      marks_at : (w : ℕ) (log : LogState) → slice_get logs w ≡ Some log
          → (was : LogState) × (bank : D) × (bank_now : D) × (slice_get old.logs w ≡ Some was)
          × MarksLog tells clock image_at faults (old.stands.clock.epoch + 1) was log bank bank_now
      marks_at w log at =
          let below = below_8 logs w log at (flushes.as_many_logs ∙ workers) in
          let was = item_at old.logs w (omega (arith, below, workers)) in
          let bank = bank_of w below in
          let bank_now = item_at (growing_in old.side between) w
          (omega (arith, below, growing_many old.side before whole, flushes.as_many_banks)) in
          (was.0, bank.0, bank_now.0, was.1, flushes.done w (rw said tt) was.0 log bank.0 bank_now.0 was.1 at bank.1 bank_now.1)

      all_joined : AllByRecursion (IsJoined (old.stands.clock.epoch + 1)) logs
      all_joined = all_from (IsJoined (old.stands.clock.epoch + 1)) logs (λ w log at. (marks_at w log at).4.joined)

      left_up : (w : ℕ) (log : LogState) → slice_get logs w ≡ Some log → log.journal.down ≡ None
      left_up w log at =
          let marks = marks_at w log at in
          marks.4.moves.stays_up (λ is. cc) ∙ each_up w marks.0 marks.3

      abbrev Saves : Result ℕ SaveFault → Type 0
      Saves result = SavesMarks tells clock image_at faults (old.stands.clock.epoch + 1) (logs_marks logs) (beside_of old)
          old.save save between now result

      -- the savepoint is of the epoch that ended
      saved_is : (result : Result ℕ SaveFault) (saves : Saves result) → saves.saved.epoch ≡ old.stands.clock.epoch
      saved_is result saves = saves.by_marks.epoch ∙ joined_saved old.stands.clock.epoch logs all_joined

      below_last : (result : Result ℕ SaveFault) (saves : Saves result)
          → ((sequence : ℕ) → result ≡ Err (Limit sequence) → ⊥) → sequence_of old.save.newest < last_sequence
      below_last result saves not_limit = sequence_left (sequence_of old.save.newest) saves.counted
          (λ last. not_limit (sequence_of old.save.newest) ((saves.stores.limit (sequence_of old.save.newest)).1 (up, refl, last)))

      answer_of : (result : Result ℕ SaveFault) (saves : Saves result)
          → JoinAnswers old (with_save mid save) (stored_of saves.saved result) (failed_of saves.saved result) (join_answer result)
      answer_of (Ok epoch) saves = (
        less,
        below_last (Ok epoch) saves (λ sequence is. absurd (let no = is in cc)),
        saves.told ∙ saved_is (Ok epoch) saves,
        ap (λ n. n ∷ []) (sym saves.told),
        refl,
        subst (λ n. AllByRecursion (IsJoined (n + 1)) logs) (sym (saves.told ∙ saved_is (Ok epoch) saves)) all_joined,
      )
      answer_of (Err Device) saves =
          (less, below_last (Err Device) saves (λ sequence is. absurd (let no = is in cc)), refl, refl)
      answer_of (Err (Down count)) saves = absurd (let no = sym up ∙ (saves.stores.down count).0 refl in cc)
      answer_of (Err (Limit sequence)) saves =
          let met = (saves.stores.limit sequence).0 refl in (less, met.1, met.2, refl, refl)

      above_of : (result : Result ℕ SaveFault) (saves : Saves result)
          → epoch_of old.save.newest < old.stands.clock.epoch → epoch_of save.newest < old.stands.clock.epoch + 1
      above_of (Ok epoch) saves low = omega (arith, ap epoch_of saves.stores.newest, saved_is (Ok epoch) saves)
      above_of (Err fault) saves low = omega (arith, ap epoch_of saves.stores.kept, low)

      growing_same : (result : Result ℕ SaveFault) → Saves result → growing_in old.side now ≡ growing_in old.side between
      growing_same result saves = in_both old.side saves.even saves.odd
        where
          in_both : (side : Side) → now.even ≡ between.even → now.odd ≡ between.odd → growing_in side now ≡ growing_in side between
          in_both Even even odd = ap (λ v. v.items) even
          in_both Odd even odd = ap (λ v. v.items) odd

      closed_same : (result : Result ℕ SaveFault) → Saves result → closed_in old.side now ≡ closed_in old.side between
      closed_same result saves = in_both old.side saves.even saves.odd
        where
          in_both : (side : Side) → now.even ≡ between.even → now.odd ≡ between.odd → closed_in side now ≡ closed_in side between
          in_both Even even odd = ap (λ v. v.items) odd
          in_both Odd even odd = ap (λ v. v.items) even

      pub joined : (result : Result ℕ SaveFault) (saves : Saves result)
          → RunsJoin tells clock image_at faults old (with_save (flushed_with old logs) save) before now (join_answer result)
      joined result saves = record {
        stored = stored_of saves.saved result;
        failed = failed_of saves.saved result;
        keeps = keeps_from {b = mid} (record { save = same.save; snaps = same.snaps; ties = ap (λ v. v.items) same.ties }) refl refl
            (keeps_saves mid result saves up (subst (λ d. IsStored tells clock image_at d old.save.newest) (sym same.save) stored));
        by_marks = by_marks_of (with_save mid save) (old.stands.clock.epoch + 1) saves.saved result (beside_of old) saves.by_marks;
        at_clock = at_clock_of old.stands.clock.epoch result saves.saved (saved_is result saves);
        answer = answer_of result saves;
        alone = refl;
        stands = stands_is;
        snaps = saves.snaps ∙ same.snaps;
        closed = closed_same result saves ∙ same.closed;
        cuts = saves.cuts ∙ same.cuts;
        above = above_of result saves;
        logs_length = flushes.as_many_logs;
        growing_length = ap length (growing_same result saves) ∙ flushes.as_many_banks;
        each = λ w was log bank_was bank at there bank_there bank_now. moves_join None (ups w was bank_was at bank_there)
            (flushes.done w (rw said tt) was log bank_was bank at there bank_there
            (ap (λ l. slice_get l w) (sym (growing_same result saves)) ∙ bank_now)).moves;
        up = λ w log at none. left_up w log at;
        fell = λ w log at has. absurd (no_bank result (growing_number old.side w) has);
        waited = λ w was told at none. absurd (no_told result (growing_number old.side w) told);
        not_advanced = λ last. absurd (omega (arith, less, last));
        not_flushed = λ number told. absurd (no_told result number told);
      }
