-- What a round leaves of the crashes of all devices before its join cuts a log file.
use Rattle.std.proofs.Common.{◌≡◌, ◌∙◌, ◌≤◌, ◌<◌, ◌+◌, ◌-◌, ◌++◌, ◌⊎◌, inl, inr, sym, ap, subst, refl, ℕ}
use Rattle.std.proofs.Common.{List, [], length, true, Option, Some, arith}
use Rattle.std.specs.Prelude.{option_to_list, slice_get, is_some}
use Rattle.std.specs.Option.{option_map}
use Rattle.std.proofs.lemmas.Bool.{cases_lt}
use Rattle.std.proofs.lemmas.List.{length-take-le}
use Rattle.std.proofs.lemmas.Option.{same_Some}
use Rattle.lists.specs.Each.{all_at}
use Rattle.lists.specs.Elements.{at_below, in_none}
use Rattle.lists.specs.Fronts.{IsFront, front_from, front_take}
use Rattle.outside.specs.Fronts.{AllBegin}
use Rattle.outside.specs.Reads.{OnlyReads}
use Rattle.log_writer.specs.Vault.{disk_in}
use Rattle.log_writer.specs.declared.records.Cut.{Cut}
use Rattle.outside.specs.declared.device.Device.TheVariants.{Bank}
use Rattle.log_writer.specs.declared.vault.Vault.{Vault}
use Rattle.serial_model.specs.declared.number.Commit.{Commit}
use Rattle.wire_form.specs.LogFile.{lines_bytes}
use Rattle.wire_form.specs.declared.savepoint.Savepoint.{Savepoint}
use Rattle.log_writer.specs.Points.{point_of, sequence_of}
use Rattle.log_writer.specs.declared.saved.Saved.{Saved}
use Rattle.snapshot_store.specs.Store.{bytes_of_pages}
use Rattle.worker_logs.specs.Logs.{LogState}
use Rattle.worker_logs.specs.Saves.{closed_number, CountsOf, growing_number}
use Rattle.worker_logs.specs.SavesLaws.{counts_saved}
use Rattle.worker_logs.specs.declared.savepoints.Beside.{Beside}
use Rattle.joint_crashes.specs.Cutting.{AreCut}
use Rattle.joint_crashes.specs.Images.{counted_of}
use Rattle.joint_crashes.specs.JointCrash.{CrashesNow, HasCut, KeepsCrashes, Moments}
use Rattle.joint_crashes.specs.JointCrash.{parts_of}
use Rattle.joint_crashes.specs.Rounds.{KeeperRan}
use Rattle.joint_crashes.specs.Story.{BankOpen, BankReady, BankTold, IsTold, Lasts, Story}
use Rattle.joint_crashes.specs.Crashes.BankSteps.{bank_grows, bank_stored}
use Rattle.joint_crashes.specs.Crashes.Instants.{keeps_by, keeps_none, lasts_goes, lasts_grows, open_ready}
use Rattle.tx_script.specs.Run.{Ran}
use Rattle.round_engine.specs.Crashes.{BankShut, front_of, KnowsBefore, StaysReady}
use Rattle.round_engine.specs.Ends.{epoch_joined}
use Rattle.round_engine.specs.Logs.{IsClosedFile, LeavesLog}
use Rattle.round_engine.specs.RanRound.{LeavesVault, LogsRan}
use Rattle.round_engine.specs.Saves.{IsSavedBy}
use Rattle.round_engine.specs.Sides.{closed_in, growing_in}
use Rattle.round_engine.specs.Standing.{beside_of, RuntimeState, StandsOn}
use Rattle.round_engine.proofs.BanksShut.{shut_reads, shut_ready, shut_stored}
use Rattle.round_engine.proofs.Numbered.{closed_at, closed_many, growing_at, growing_many, numbered}
use Rattle.round_engine.proofs.Saved.{covers_all, IsOver, over_all, over_begin}
use Rattle.round_engine.proofs.StopsNow.{known_now}
use Rattle.round_engine.proofs.Stories.{counted_behind, goes_after, open_same, point_begun}
use Rattle.round_engine.proofs.Stories.{point_behind}
use Rattle.round_engine.proofs.Stories.{same_before, shut_same, story_after, told_same}
use Rattle.round_engine.proofs.Whole.{marks_in}
use Rattle.round_engine.proofs.Places.{item_at}
use Rattle.round_engine.proofs.FileBytes.{of_side, side_growing, side_closed, growing_below, closed_below}
use Rattle.round_engine.proofs.UncutVault.{before_cuts, logs_many, mid, mid_is}

module _ {D : Type 0} {tells : D → Option (List ℕ)} {clock : D → ℕ} {image_at : D → ℕ → List ℕ → Type 0}
    {faults : D → ℕ} {ran : Ran} {logged : ℕ → List Commit} {old new : RuntimeState} {before now : Vault D}
    (reads : (disk : D) (file : List ℕ) → tells disk ≡ Some file → image_at disk (clock disk) file)
    (stood : StandsOn tells clock image_at old before) (marks_many : length ran.beside.marks ≡ 8)
    (leaves : LeavesVault tells clock image_at faults ran logged old new before now) where
  abbrev last : ℕ
  last = sequence_of old.save.newest

  abbrev begun : List Saved
  begun = leaves.stored ++ option_to_list leaves.failed

  abbrev high : ℕ
  high = last + length begun

  abbrev between : Vault D
  between = leaves.files.between

  -- ---- for whoever knows what was known of crashes

  module _ (story : Story) (from : Moments) (low : ℕ) (commits gone : ℕ → List Commit) (was closed : ℕ → List ℕ)
      (known : KnowsBefore tells clock image_at story from low commits gone was closed old before) where
    abbrev ran_logs : LogsRan tells clock image_at ran commits logged gone was closed leaves.stored leaves.failed leaves.logs
        old new before now
    ran_logs = leaves.runs commits gone was closed known.logs known.files

    abbrev durable : ℕ → List ℕ
    durable = ran_logs.durable

    abbrev made : ℕ → List ℕ
    made = of_side old.side durable closed

    abbrev after : Story
    after = story_after story last begun (front_of new.store) made

    -- ---- each worker

    -- a worker's log, and its log file, as the round began and before the cuts
    record OfWorker (w : ℕ) (bank : D) : Type 0 where
      bank_was : D
      epochs : List (Option ℕ)
      log : LogState
      was_there : disk_in before (Bank (growing_number old.side w)) ≡ Some bank_was
      left : LeavesLog tells clock image_at (commits w) (logged w) (was w) (durable w) (ran_logs.marks w)
          (ran_logs.shown w) epochs bank_was bank log

    of_worker : (w : ℕ) (bank : D) → w < 8 → disk_in between (Bank (growing_number old.side w)) ≡ Some bank
        → OfWorker w bank
    of_worker w bank below there =
        let log_was = item_at old.logs w (omega (arith, below, stood.workers)) in
        let log = item_at leaves.logs w (omega (arith, below, logs_many leaves)) in
        let bank_was = item_at (growing_in old.side before) w
        (omega (arith, below, growing_many old.side before stood.whole)) in
        let epochs = item_at ran.beside.marks w (omega (arith, below, marks_many)) in
        let was_there : disk_in before (Bank (growing_number old.side w)) ≡ Some bank_was.0 =
        growing_at old.side before w ∙ bank_was.1 in
        record {
          bank_was = bank_was.0;
          epochs = epochs.0;
          log = log.0;
          was_there = was_there;
          left = ran_logs.each w log_was.0 log.0 bank_was.0 bank epochs.0 log_was.1 log.1 was_there
              ((before_cuts leaves).grows w ∙ there) epochs.1;
        }

    some_bank : (w : ℕ) → w < 8 → (bank : D) × (disk_in between (Bank (growing_number old.side w)) ≡ Some bank)
    some_bank w below =
        let bank = item_at (growing_in old.side between) w
        (omega (arith, below, growing_many old.side between (before_cuts leaves).whole)) in
        (bank.0, growing_at old.side between w ∙ bank.1)

    -- a closed log file, as the round began
    record OfClosed (w : ℕ) : Type 0 where
      counted : ℕ
      bank_was : D
      counted_at : slice_get old.counted w ≡ Some counted
      was_there : disk_in before (Bank (closed_number old.side w)) ≡ Some bank_was
      is : IsClosedFile tells clock image_at (gone w) (closed w) counted bank_was

    of_closed : (w : ℕ) → w < 8 → OfClosed w
    of_closed w below =
        let n = item_at old.counted w (omega (arith, below, stood.closed.workers)) in
        let bank = item_at (closed_in old.side before) w
        (omega (arith, below, closed_many old.side before stood.whole)) in
        let there : disk_in before (Bank (closed_number old.side w)) ≡ Some bank.0 = closed_at old.side before w ∙ bank.1 in
        record {
          counted = n.0;
          bank_was = bank.0;
          counted_at = n.1;
          was_there = there;
          is = known.files w n.0 bank.0 n.1 there;
        }

    -- ---- what each savepoint counts

    counts_at : (k : ℕ) (saved : Saved) (sequence : ℕ) → slice_get begun k ≡ Some saved
        → CountsOf old.side (λ w. commits w ++ logged w) gone durable closed (Some (point_of sequence saved))
    counts_at k saved sequence at =
        let is : OverSaved saved = all_at OverSaved begun k saved
        (over_all (IsSavedBy ran.printed.begin.epoch (epoch_joined ran) ran_logs.marks) ran.printed.answers (beside_of old) begun
        (over_begin old.side old.counted (length old.store.pages) stood.closed.workers) ran_logs.saved) at in
        let over = is.1 in
        let saves = is.2 in
        subst (λ g. CountsOf g (λ w. commits w ++ logged w) gone durable closed (Some (point_of sequence saved)))
        over.growing
        (counts_saved (λ w. commits w ++ logged w) gone durable closed saves.4.workers over.workers saves.5
        (λ w m here.
        let below : w < 8 = omega (arith, at_below saves.3 w m here, saves.4.workers) in
        let bank = some_bank w below in
        marks_in (commits w ++ logged w) (durable w) (ran_logs.marks w) m (of_worker w bank.0 below bank.1).left.ran.had
        (saves.4.each w m here))
        (λ w n here. elim (over.each w n here) [
          | inl none ↦ inl none
          | inr was_so ↦
              let below : w < 8 = omega (arith, at_below old.counted w n was_so, stood.closed.workers) in
              let file = of_closed w below in
              let same : file.counted ≡ n = same_Some file.counted n (sym file.counted_at ∙ was_so) in
              covers_all (gone w) (closed w) n file.is.lines
              (subst (λ c. (c ≡ 0) ⊎ (c ≡ length (closed w))) same file.is.counts)
        ]))
      where
        OverSaved : Saved → Type 0
        OverSaved s = (c : Beside) × IsOver old.side old.counted c
            × IsSavedBy ran.printed.begin.epoch (epoch_joined ran) ran_logs.marks c s

    -- what a savepoint counts of a log file is durable of it
    within_at : (n : ℕ) (bank : D) (point : Option Savepoint) → disk_in between (Bank n) ≡ Some bank
        → CountsOf old.side (λ w. commits w ++ logged w) gone durable closed point → counted_of point n ≤ length (made n)
    within_at n bank point there counts = elim (numbered old.side n) [
      | inl growing ↦
          let w = growing.0 in
          let here : disk_in between (Bank (growing_number old.side w)) ≡ Some bank =
          subst (λ k. disk_in between (Bank k) ≡ Some bank) growing.1 there in
          let below : w < 8 = growing_below old.side between (before_cuts leaves).whole w bank here in
          subst (λ k. counted_of point k ≤ length (made k)) (sym growing.1)
          (subst (λ l. counted_of point (growing_number old.side w) ≤ length l) (sym (side_growing old.side durable closed w))
          (counts.growing w below).1)
      | inr shut ↦
          let w = shut.0 in
          let here : disk_in between (Bank (closed_number old.side w)) ≡ Some bank =
          subst (λ k. disk_in between (Bank k) ≡ Some bank) shut.1 there in
          let below : w < 8 = closed_below old.side between (before_cuts leaves).whole w bank here in
          let fits : counted_of point (closed_number old.side w) ≤ length (closed w) = elim (counts.before w below) [
            | inl none ↦ omega (arith, none)
            | inr some ↦ some.1
          ] in
          subst (λ k. counted_of point k ≤ length (made k)) (sym shut.1)
          (subst (λ l. counted_of point (closed_number old.side w) ≤ length l) (sym (side_closed old.side durable closed w))
          fits)
    ]

    files_count : (n k : ℕ) (bank : D) → disk_in between (Bank n) ≡ Some bank → last < k → k ≤ high
        → IsFront (after.counted k n) (made n) × (length (after.counted k n) ≡ counted_of (after.point k) n)
    files_count n k bank there later within =
        let saved = item_at begun (k - (last + 1)) (omega (arith, later, within)) in
        let point : point_begun last begun k ≡ Some (point_of k saved.0) = ap (option_map (point_of k)) saved.1 in
        let fits : counted_of (point_begun last begun k) n ≤ length (made n) =
        within_at n bank (point_begun last begun k) there
        (subst (CountsOf old.side (λ w. commits w ++ logged w) gone durable closed) (sym point)
        (counts_at (k - (last + 1)) saved.0 k saved.1)) in
        let is = counted_behind story last begun (front_of new.store) made k n later in (
          subst (λ l. IsFront l (made n)) (sym is) (front_take (counted_of (point_begun last begun k) n) (made n)),
          ap length is ∙ length-take-le (counted_of (point_begun last begun k) n) (made n) fits
              ∙ ap (λ (p : Option Savepoint). counted_of p n)
              (sym (point_behind story last begun (front_of new.store) made k later)),
        )

    -- ---- all devices, before the cuts

    newest_was : after.point last ≡ old.save.newest
    newest_was = (same_before story last begun (front_of new.store) made).point last (omega arith) ∙ known.newest_is

    told_was : IsTold clock image_at after from low last (parts_of before)
    told_was = told_same from (same_before story last begun (front_of new.store) made) known.told

    pages_old : (k : ℕ) → low ≤ k → k ≤ last → IsFront (after.pages k) (bytes_of_pages old.store.pages)
    pages_old k at_least at_most = subst (λ l. IsFront l (bytes_of_pages old.store.pages))
        (sym ((same_before story last begun (front_of new.store) made).pages k at_most)) (known.pages k at_least at_most)

    -- the keeper's devices
    abbrev Kept : Type 0
    Kept = KeeperRan clock image_at after from low last high before.save now.save before.snaps now.snaps
        before.ties.items now.ties.items
        × (new.store.sound ≡ true → AllBegin (image_at now.snaps (clock now.snaps)) (bytes_of_pages new.store.pages))

    kept : Kept
    kept = leaves.keeper after from low (front_of new.store) known.tells_save known.tells_snaps
        (goes_after story old.save.newest begun (front_of new.store) made) (λ n within. refl) newest_was pages_old
        known.pages_durable told_was.save told_was.snaps

    keeper : KeeperRan clock image_at after from low last high before.save now.save before.snaps now.snaps
        before.ties.items now.ties.items
    keeper = kept.0

    -- a growing log file
    record Grown (w : ℕ) (bank : D) : Type 0 where
      was_bank : D
      was_there : disk_in before (Bank (growing_number old.side w)) ≡ Some was_bank
      lasts : Lasts clock image_at was_bank bank
      told : BankTold clock image_at (λ k. after.counted k (growing_number old.side w))
          (from.bank (growing_number old.side w)) low high bank
          (HasCut before.cuts.items (Bank (growing_number old.side w)))
      opened : BankOpen clock image_at (λ k. after.counted k (growing_number old.side w))
          (from.bank (growing_number old.side w)) low high bank
          (HasCut before.cuts.items (Bank (growing_number old.side w))) (durable w)

    grown : (w : ℕ) (bank : D) → disk_in between (Bank (growing_number old.side w)) ≡ Some bank → Grown w bank
    grown w bank there =
        let n = growing_number old.side w in
        let below : w < 8 = growing_below old.side between (before_cuts leaves).whole w bank there in
        let one = of_worker w bank below there in
        let opened = open_same from (same_before story last begun (front_of new.store) made) n
        (known.growing w one.bank_was below one.was_there) in
        let both = bank_grows (told_was.bank n one.bank_was one.was_there) opened one.left.ran.grows in
        let end = bank_stored {counted = λ k. after.counted k n} {IsCut = HasCut before.cuts.items (Bank n)} both.0 both.1
        (told_was.older n) (λ k later at_most. subst (IsFront (after.counted k n)) (side_growing old.side durable closed w)
        (files_count n k bank there later at_most).0) in
        record {
          was_bank = one.bank_was;
          was_there = one.was_there;
          lasts = lasts_grows one.left.ran.grows;
          told = end.0;
          opened = end.1;
        }

    -- a closed one
    record Shut (w : ℕ) (bank : D) : Type 0 where
      was_bank : D
      was_there : disk_in before (Bank (closed_number old.side w)) ≡ Some was_bank
      lasts : Lasts clock image_at was_bank bank
      told : BankTold clock image_at (λ k. after.counted k (closed_number old.side w))
          (from.bank (closed_number old.side w)) low high bank
          (HasCut before.cuts.items (Bank (closed_number old.side w)))
      shut : BankShut clock image_at (λ k. after.counted k (closed_number old.side w))
          (from.bank (closed_number old.side w)) low high bank
          (HasCut before.cuts.items (Bank (closed_number old.side w))) (closed w)
      tells_it : is_some (tells bank) ≡ true

    still_shut : (w : ℕ) (bank : D) → disk_in between (Bank (closed_number old.side w)) ≡ Some bank → Shut w bank
    still_shut w bank there =
        let n = closed_number old.side w in
        let below : w < 8 = closed_below old.side between (before_cuts leaves).whole w bank there in
        let one = of_closed w below in
        let read : OnlyReads tells clock image_at faults one.bank_was bank =
        leaves.files.reads w one.bank_was bank one.was_there there in
        let shut = shut_same from (same_before story last begun (front_of new.store) made) n
        (known.shut w one.bank_was below one.was_there) in
        let both = shut_reads tells faults (told_was.bank n one.bank_was one.was_there) shut read in
        let end = shut_stored {counted = λ k. after.counted k n} {IsCut = HasCut before.cuts.items (Bank n)} both.0 both.1
        (told_was.older n) (λ k later at_most. subst (IsFront (after.counted k n)) (side_closed old.side durable closed w)
        (files_count n k bank there later at_most).0) in
        record {
          was_bank = one.bank_was;
          was_there = one.was_there;
          lasts = lasts_goes read.moments;
          told = end.0;
          shut = end.1;
          tells_it = ap is_some (read.told ∙ one.is.told.1);
        }

    -- each of both
    record OfFile (n : ℕ) (bank : D) : Type 0 where
      was_bank : D
      was_there : disk_in before (Bank n) ≡ Some was_bank
      lasts : Lasts clock image_at was_bank bank
      told : BankTold clock image_at (λ k. after.counted k n) (from.bank n) low high bank
          (HasCut before.cuts.items (Bank n))
      ready : (k : ℕ) → low ≤ k → k ≤ high
          → ((began since : ℕ) → HasCut before.cuts.items (Bank n) began since → since ≤ k)
          → BankReady clock image_at (λ j. after.counted j n) k bank (HasCut before.cuts.items (Bank n))
      past : (began since : ℕ) → HasCut before.cuts.items (Bank n) began since → began < clock bank

    of_file : (n : ℕ) (bank : D) → disk_in between (Bank n) ≡ Some bank → OfFile n bank
    of_file n bank there = elim (numbered old.side n) [
      | inl growing ↦
          let is = grown growing.0 bank (subst (λ k. disk_in between (Bank k) ≡ Some bank) growing.1 there) in
          subst (λ k. OfFile k bank) (sym growing.1) (record {
            was_bank = is.was_bank;
            was_there = is.was_there;
            lasts = is.lasts;
            told = is.told;
            ready = λ k at_least at_most older. open_ready is.opened at_least at_most older;
            past = is.opened.past;
          })
      | inr shut ↦
          let is = still_shut shut.0 bank (subst (λ k. disk_in between (Bank k) ≡ Some bank) shut.1 there) in
          subst (λ k. OfFile k bank) (sym shut.1) (record {
            was_bank = is.was_bank;
            was_there = is.was_there;
            lasts = is.lasts;
            told = is.told;
            ready = λ k at_least at_most older. shut_ready is.shut at_least at_most older;
            past = is.shut.past;
          })
    ]

    told_mid : IsTold clock image_at after from low high (mid leaves)
    told_mid = record {
      save = keeper.save_told;
      snaps = keeper.snaps_told;
      bank = λ n bank there. (of_file n bank there).told;
      sized = λ n k bank there at_least at_most. elim (cases_lt last k) [
        | inl later ↦ (files_count n k bank there later at_most).1
        | inr first ↦
            let file = of_file n bank there in told_was.sized n k file.was_bank file.was_there at_least first
      ];
      older = λ n began since cut. omega (arith, told_was.older n began since cut);
      allowed = λ n began since cut. elim (told_was.allowed n began since cut) [
        | inl first ↦ inl first
        | inr tied ↦ inr (tied.0, tied.1, keeper.keeps tied.0 tied.2, tied.3, tied.4)
      ];
    }

    keeps_mid : KeepsCrashes clock image_at from (parts_of before) (mid leaves)
    keeps_mid = keeps_by {s = last} {old = parts_of before} {new = (mid leaves)} told_was keeper.save_lasts keeper.snaps_lasts
        (λ n bank there. let file = of_file n bank there in (file.was_bank, file.was_there, file.lasts)) keeper.adds
        (λ n bank there began since cut. inl cut)

    now_mid : CrashesNow clock image_at (mid leaves)
    now_mid = known_now after from low high (mid leaves) told_mid (λ n bank there. (of_file n bank there).ready)

    -- ---- the cuts

    told_between : IsTold clock image_at after from low high (parts_of between)
    told_between = subst (IsTold clock image_at after from low high) (mid_is leaves) told_mid

    keeps_between : KeepsCrashes clock image_at from (parts_of before) (parts_of between)
    keeps_between = subst (KeepsCrashes clock image_at from (parts_of before)) (mid_is leaves) keeps_mid

    now_between : CrashesNow clock image_at (parts_of between)
    now_between = subst (CrashesNow clock image_at) (mid_is leaves) now_mid

    open_between : (w : ℕ) (bank : D) → disk_in between (Bank (growing_number old.side w)) ≡ Some bank
        → BankOpen clock image_at (λ k. after.counted k (growing_number old.side w))
        (from.bank (growing_number old.side w)) low high bank
        (HasCut between.cuts.items (Bank (growing_number old.side w))) (durable w)
    open_between w bank there = subst (λ (c : List Cut). BankOpen clock image_at
        (λ k. after.counted k (growing_number old.side w)) (from.bank (growing_number old.side w)) low high bank
        (HasCut c (Bank (growing_number old.side w))) (durable w)) (sym leaves.files.uncut) (grown w bank there).opened

    shut_between : (w : ℕ) (bank : D) → disk_in between (Bank (closed_number old.side w)) ≡ Some bank
        → BankShut clock image_at (λ k. after.counted k (closed_number old.side w))
        (from.bank (closed_number old.side w)) low high bank
        (HasCut between.cuts.items (Bank (closed_number old.side w))) (closed w)
    shut_between w bank there = subst (λ (c : List Cut). BankShut clock image_at
        (λ k. after.counted k (closed_number old.side w)) (from.bank (closed_number old.side w)) low high bank
        (HasCut c (Bank (closed_number old.side w))) (closed w)) (sym leaves.files.uncut) (still_shut w bank there).shut

    stays_between : StaysReady clock image_at after low high (parts_of between)
    stays_between = record {
      come = λ n bank there began since cut.
          let begun_before = (of_file n bank there).past began since
          (subst (λ (c : List Cut). HasCut c (Bank n) began since) leaves.files.uncut cut) in
          omega (arith, begun_before);
      ready = λ n bank there k at_least at_most older.
          subst (λ (c : List Cut). BankReady clock image_at (λ j. after.counted j n) k bank (HasCut c (Bank n)))
          (sym leaves.files.uncut) ((of_file n bank there).ready k at_least at_most (λ began since cut.
          older began since (subst (λ (c : List Cut). HasCut c (Bank n) began since) (sym leaves.files.uncut) cut)));
    }

    -- no cut so far
    uncut : AreCut clock image_at after from low high [] (parts_of between) (parts_of between)
    uncut = record {
      left = record {
        told = told_between;
        ready = λ n bank there.
            let file = of_file n bank there in
            subst (λ (c : List Cut). BankReady clock image_at (λ j. after.counted j n) high bank (HasCut c (Bank n)))
            (sym leaves.files.uncut) (file.ready high keeper.save_told.ordered (omega arith) (told_mid.older n));
        stays = keeps_none;
      };
      past = λ n bank there began since cut. (of_file n bank there).past began since
          (subst (λ (c : List Cut). HasCut c (Bank n) began since) leaves.files.uncut cut);
      empty = λ n bank has there. absurd (in_none n has);
      others = λ n other. refl;
      open_others = λ n bank bytes other opened. opened;
    }

    -- ---- all of it

    -- what is known of all devices before the cuts
    pub record LeftUncut : Type 0 where
      pub told : IsTold clock image_at after from low high (parts_of between)
      pub keeps : KeepsCrashes clock image_at from (parts_of before) (parts_of between)
      pub stays : StaysReady clock image_at after low high (parts_of between)
      pub instant : CrashesNow clock image_at (parts_of between)
      pub growing : (w : ℕ) (bank : D) → disk_in between (Bank (growing_number old.side w)) ≡ Some bank
          → BankOpen clock image_at (λ k. after.counted k (growing_number old.side w))
          (from.bank (growing_number old.side w)) low high bank
          (HasCut between.cuts.items (Bank (growing_number old.side w))) (durable w)
      pub shut : (w : ℕ) (bank : D) → disk_in between (Bank (closed_number old.side w)) ≡ Some bank
          → BankShut clock image_at (λ k. after.counted k (closed_number old.side w))
          (from.bank (closed_number old.side w)) low high bank
          (HasCut between.cuts.items (Bank (closed_number old.side w))) (closed w)
      pub tells_shut : (w : ℕ) (bank : D) → disk_in between (Bank (closed_number old.side w)) ≡ Some bank
          → is_some (tells bank) ≡ true
      pub none_cut : AreCut clock image_at after from low high [] (parts_of between) (parts_of between)
      pub counts : (k : ℕ) (saved : Saved) (sequence : ℕ) → slice_get begun k ≡ Some saved
          → CountsOf old.side (λ w. commits w ++ logged w) gone durable closed (Some (point_of sequence saved))
      pub newest : after.point last ≡ old.save.newest
      pub pages : (k : ℕ) → low ≤ k → k ≤ last → IsFront (after.pages k) (bytes_of_pages old.store.pages)
      pub pages_durable : new.store.sound ≡ true
          → AllBegin (image_at now.snaps (clock now.snaps)) (bytes_of_pages new.store.pages)
      pub begins : (w : ℕ) → w < 8 → IsFront (durable w) (lines_bytes (commits w ++ logged w))

    pub left_uncut : LeftUncut
    left_uncut = record {
      told = told_between;
      keeps = keeps_between;
      stays = stays_between;
      instant = now_between;
      growing = open_between;
      shut = shut_between;
      tells_shut = λ w bank there. (still_shut w bank there).tells_it;
      none_cut = uncut;
      counts = counts_at;
      newest = newest_was;
      pages = pages_old;
      pages_durable = kept.1;
      begins = λ w below.
          let bank = some_bank w below in
          let one = of_worker w bank.0 below bank.1 in
          front_from (durable w) one.log.journal.lines (lines_bytes (commits w ++ logged w)) (sym one.left.ran.lines);
    }
