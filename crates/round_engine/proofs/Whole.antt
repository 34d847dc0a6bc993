-- What a round leaves of the vault, from what it leaves of each log, of the save, and of the closed log files.
use Rattle.std.proofs.Common.{◌≡◌, ◌∙◌, ◌≤◌, ◌<◌, ◌⊎◌, ◌++◌, ◌∷◌, inl, inr, sym, ap, subst, refl, ℕ}
use Rattle.std.proofs.Common.{List, [], length, map, Bool, true, false, cond, not, Option, Some, None, arith}
use Rattle.std.specs.Prelude.{◌&&◌, is_some, option_to_list, slice_get}
use Rattle.std.specs.List.{AllByRecursion, Contains}
use Rattle.std.proofs.lemmas.List.{append-nil}
use Rattle.std.proofs.lemmas.Option.{same_Some}
use Rattle.lists.specs.Elements.{in_cases, in_none}
use Rattle.lists.specs.Fronts.{front_length, front_refl}
use Rattle.log_writer.specs.Vault.{IsWhole, disk_in}
use Rattle.outside.specs.declared.device.Device.{Device}
use Rattle.outside.specs.declared.device.Device.TheVariants as devices
use Rattle.log_writer.specs.declared.vault.Vault.{Vault}
use Rattle.serial_model.specs.declared.number.Commit.{Commit}
use Rattle.wire_form.specs.LogFile.{lines_bytes}
use Rattle.wire_form.specs.declared.clock.Mark.{Mark}
use Rattle.log_writer.specs.Journal.{Reaches}
use Rattle.log_writer.specs.Points.{sequence_of}
use Rattle.log_writer.specs.declared.saved.Saved.{Saved}
use Rattle.joint_crashes.specs.Crashes.Marking.{mark_set}
use Rattle.joint_crashes.specs.Images.{counted_of, epoch_of}
use Rattle.joint_crashes.specs.Marks.{IsAbove}
use Rattle.joint_crashes.specs.VaultReads.{RoseIn}
use Rattle.tx_script.specs.Causes.{keeper_at_end, last_sequence, log_of, some_counted}
use Rattle.tx_script.specs.Run.{LogFailed, LogRefusal, Ran}
use Rattle.worker_logs.specs.Logs.{IsLog, IsMarkOf, LogState, reset_log}
use Rattle.worker_logs.specs.LogLaws.{log_of as log_is, log_resets}
use Rattle.worker_logs.specs.Saves.{closed_number, CountsOf, growing_number, IsCounted, logs_marks}
use Rattle.worker_logs.specs.declared.savepoints.Beside.{Beside}
use Rattle.worker_logs.specs.Rows.{Blames, NeverFall}
use Rattle.worker_logs.specs.Shown.{IsShownSince, Stood}
use Rattle.shared_rounds.specs.Shares.{shown_epochs}
use Rattle.round_engine.specs.Ends.{comes_to_advance, comes_to_save, comes_to_swap, epoch_joined, swaps}
use Rattle.round_engine.specs.Gleans.{RoundGleans}
use Rattle.round_engine.specs.Keeping.{IsSavedBySeen, KeepsSaves}
use Rattle.round_engine.specs.Logs.{AreClosedFiles, AreLogs, IsClosedFile, IsFirstAt, IsLongerBy, IsRefusedBy}
use Rattle.round_engine.specs.Logs.{LeavesLog}
use Rattle.round_engine.specs.RanRound.{AreFailed, LeavesVault, LogsRan, SwapsFiles}
use Rattle.round_engine.specs.Saves.{AreSaved, AreSeen, AreShownAt, beside_at_end, beside_at_save, GoesBy, IsSavedBy}
use Rattle.round_engine.specs.Saves.{newest_after}
use Rattle.round_engine.specs.Saves.{saves_told}
use Rattle.round_engine.specs.Sides.{closed_in, closed_numbers, growing_in, other_side}
use Rattle.round_engine.specs.Standing.{beside_of, RuntimeState, StandsOn}
use Rattle.round_engine.specs.Swaps.{behind_swap, CutsBanks, since_swap}
use Rattle.round_engine.proofs.BanksCut.{banks_empty, closed_in_numbers, reads_begin}
use Rattle.round_engine.proofs.Devices.{are_down, are_failed, beside_not_save, IsBeside, save_down, save_in}
use Rattle.round_engine.proofs.Ended.{devices_down}
use Rattle.round_engine.proofs.LogsLeft.{Leaves, choose}
use Rattle.round_engine.proofs.Numbered.{closed_at, closed_many, growing_at, other_closed, other_growing}
use Rattle.round_engine.proofs.Places.{all_front}
use Rattle.round_engine.proofs.Saved.{counts_after, covers_all, IsOver, logs_seen, over_all, over_begin, over_end}
use Rattle.round_engine.proofs.Saved.{saved_by_had}
use Rattle.round_engine.proofs.Places.{item_at, map_at, within_of}

-- of each worker one of the marks that others were shown of it
pub record AreShown (shown : ℕ → List Stood) (seen : List Mark) : Type 0 where
  pub workers : length seen ≡ 8
  pub each : (w : ℕ) (m : Mark) → slice_get seen w ≡ Some m → (s : Stood) × Contains (shown w) s × (s.mark ≡ m)

-- marks of the logs that others were shown while the lines ran, or those behind the join, at an epoch of the clock from
-- the first to the last of these
abbrev pub SeenIn : ℕ → ℕ → (ℕ → List Stood) → List LogState → ℕ → List Mark → Type 0
SeenIn first last shown logs clock seen = (first ≤ clock) × (clock ≤ last)
    × (AreShown shown seen ⊎ (seen ≡ logs_marks logs))

module _ {D : Type 0} (tells : D → Option (List ℕ)) (clock : D → ℕ) (image_at : D → ℕ → List ℕ → Type 0)
    (faults : D → ℕ) where
  -- what a worker's log comes to over a round, with its file's faults
  pub record Total (logged : List Commit) (shown : List Stood) (old new : LogState) (before now : D) : Type 0 where
    pub leaves : (commits : List Commit) (was : List ℕ) → IsLog tells clock image_at commits was old before
        → Leaves tells clock image_at commits logged was shown new before now
    pub longer : IsLongerBy logged old new
    pub first : IsFirstAt (clock before) shown
    pub blames : Blames faults before now new.journal
    pub reaches : Reaches tells now new.journal

  -- all logs
  pub record LogsTotal (logged : ℕ → List Commit) (shown : ℕ → List Stood) (old new : List LogState)
      (before now : List D)
      : Type 0 where
    pub old_many : length old ≡ 8
    pub new_many : length new ≡ 8
    pub before_many : length before ≡ 8
    pub now_many : length now ≡ 8
    pub each : (w : ℕ) (was log : LogState) (bank_was bank : D) → slice_get old w ≡ Some was
        → slice_get new w ≡ Some log
        → slice_get before w ≡ Some bank_was → slice_get now w ≡ Some bank
        → Total (logged w) (shown w) was log bank_was bank

pub and_first : (a b : Bool) → (a && b) ≡ true → a ≡ true
and_first true b is = refl
and_first false b is = absurd cc

pub not_begun : (a : Bool) → (a ≡ true → ⊥) → a ≡ false
not_begun false not = refl
not_begun true not = absurd (not refl)

pub none_some : (x : Option ℕ) → is_some x ≡ false → x ≡ None
none_some None is = refl
none_some (Some n) is = absurd cc

pub below_8 : (logs : List LogState) (w : ℕ) (log : LogState) → slice_get logs w ≡ Some log → length logs ≡ 8 → w < 8
below_8 logs w log at many = omega (arith, many, within_of logs w log at)

-- a fact of all marks holds of each
pub marks_in : (commits : List Commit) (durable : List ℕ) (marks : List Mark) (m : Mark)
    → AllByRecursion (IsMarkOf commits durable) marks → Contains marks m → IsMarkOf commits durable m
marks_in commits durable [] m all has = absurd (in_none m has)
marks_in commits durable (x ∷ marks) m all has = elim (in_cases m x marks has) [
  | inl here ↦ subst (IsMarkOf commits durable) here all.0
  | inr later ↦ marks_in commits durable marks m all.1 later
]

-- each of the marks that were shown is one that the log had
pub among_of : (P : Stood → Type 0) (shown : List Stood) (s : Stood) → AllByRecursion P shown → Contains shown s → P s
among_of P [] s all has = absurd (in_none s has)
among_of P (x ∷ shown) s all has = elim (in_cases s x shown has) [
  | inl here ↦ subst P here all.0
  | inr later ↦ among_of P shown s all.1 later
]

pub none_failed : (failed : Option Saved) → is_some failed ≡ false → failed ≡ None
none_failed None is = refl
none_failed (Some saved) is = absurd cc

-- a log that is up, of which no line waits, and whose mark counts all that is durable
pub record IsAtRest (log : LogState) : Type 0 where
  pub flushed : log.journal.lines ≡ []
  pub marked : log.mark.length ≡ log.journal.durable
  pub up : log.journal.down ≡ None

module _ {D : Type 0} {tells : D → Option (List ℕ)} {clock : D → ℕ} {image_at : D → ℕ → List ℕ → Type 0}
    {faults : D → ℕ} (ran : Ran) (logged : ℕ → List Commit) (shown : ℕ → List Stood) (logs : List LogState)
    (old new : RuntimeState) (before now : Vault D) (stored : List Saved) (failed : Option Saved)
    (total : LogsTotal tells clock image_at faults logged shown old.logs logs (growing_in old.side before)
    (growing_in old.side now))
    (saves : AreSaved (IsSavedBySeen (SeenIn ran.printed.begin.epoch (epoch_joined ran) shown logs))
    (beside_of old) ran.printed.answers
    (stored ++ option_to_list failed))
    (newest : new.save.newest ≡ newest_after old.save.newest stored)
    (placed : (k : ℕ) (saved : Saved) (places : List ℕ) → slice_get (stored ++ option_to_list failed) k ≡ Some saved
    → slice_get ran.beside.seen k ≡ Some places → (seen : List Mark) × AreShownAt shown places seen
    × GoesBy ran.printed.begin.epoch (epoch_joined ran) (beside_at_save (beside_of old) ran.printed.answers k) seen saved)
    (shown_so : (w : ℕ) (epochs : List (Option ℕ)) → slice_get ran.beside.marks w ≡ Some epochs
    → shown_epochs (shown w) ≡ epochs)
    (above : (w : ℕ) → w < 8 → AllByRecursion (IsAbove (epoch_of old.save.newest)) (logged w))
    (whole : IsWhole before) (counted_many : length old.counted ≡ 8)
    (files : SwapsFiles tells clock image_at faults ran logs old new before now) (between_whole : IsWhole files.between)
    (rests : swaps ran ≡ true → (w : ℕ) (log : LogState) → slice_get logs w ≡ Some log → IsAtRest log) where
  -- what is known of worker w's log in the end
  abbrev Known : (ℕ → List Commit) → (ℕ → List ℕ) → ℕ → List ℕ × List Mark → Type 0
  Known commits was w x = (old_log log : LogState) (bank_was bank : D) → slice_get old.logs w ≡ Some old_log
      → slice_get logs w ≡ Some log
      → slice_get (growing_in old.side before) w ≡ Some bank_was → slice_get (growing_in old.side now) w ≡ Some bank
      → LeavesLog tells clock image_at (commits w) (logged w) (was w) x.0 x.1 (shown w) (shown_epochs
      (shown w)) bank_was
      bank log × Contains x.1 log.mark

  one_known : (commits : ℕ → List Commit) (was : ℕ → List ℕ) → AreLogs tells clock image_at commits was old before
      → (w : ℕ) → w < 8 → (x : List ℕ × List Mark) × Known commits was w x
  one_known commits was are w below =
      let old_log = item_at old.logs w (omega (arith, below, total.old_many)) in
      let log = item_at logs w (omega (arith, below, total.new_many)) in
      let bank_was = item_at (growing_in old.side before) w (omega (arith, below, total.before_many)) in
      let bank = item_at (growing_in old.side now) w (omega (arith, below, total.now_many)) in
      let one = total.each w old_log.0 log.0 bank_was.0 bank.0 old_log.1 log.1 bank_was.1 bank.1 in
      let is = are w old_log.0 bank_was.0 old_log.1 (growing_at old.side before w ∙ bank_was.1) in
      let leaves = one.leaves (commits w) (was w) is in (
        (leaves.durable, leaves.marks),
        λ o g d e at_o at_g at_d at_e.
            let same_g = same_Some log.0 g (sym log.1 ∙ at_g) in
            let same_d = same_Some bank_was.0 d (sym bank_was.1 ∙ at_d) in
            let same_e = same_Some bank.0 e (sym bank.1 ∙ at_e) in (
              subst (λ x. LeavesLog tells clock image_at (commits w) (logged w) (was w) leaves.durable leaves.marks
                  (shown w) (shown_epochs (shown w)) x e g) same_d
                  (subst (λ x. LeavesLog tells clock image_at (commits w) (logged w) (was w) leaves.durable leaves.marks
                  (shown w) (shown_epochs (shown w)) bank_was.0 x g) same_e
                  (subst (λ x. LeavesLog tells clock image_at (commits w) (logged w) (was w) leaves.durable leaves.marks
                  (shown w) (shown_epochs (shown w)) bank_was.0 bank.0 x) same_g
                  (record {
                    ran = leaves.ran;
                    while_run = refl;
                    first = one.first;
                    since = leaves.since;
                    rise = leaves.rise;
                  }))),
              subst (λ (x : LogState). Contains leaves.marks x.mark) same_g leaves.behind_join,
            ),
      )

  -- ---- for whoever knows what the logs and the closed log files had

  module _ (commits gone : ℕ → List Commit) (was closed : ℕ → List ℕ)
      (are : AreLogs tells clock image_at commits was old before)
      (closed_are : AreClosedFiles tells clock image_at gone closed old before) where
    chosen : (f : ℕ → List ℕ × List Mark) × ((w : ℕ) → w < 8 → Known commits was w (f w))
    chosen = choose (Known commits was) 8 ([], []) (one_known commits was are)

    durable : ℕ → List ℕ
    durable w = (chosen.0 w).0

    marks : ℕ → List Mark
    marks w = (chosen.0 w).1

    -- of the log and the log file that a worker has in the end
    leaves_at : (w : ℕ) (log : LogState) (bank : D) → slice_get logs w ≡ Some log → slice_get (growing_in old.side now) w ≡ Some bank
        → (bank_was : D) × LeavesLog tells clock image_at (commits w) (logged w) (was w) (durable w) (marks w) (shown w)
        (shown_epochs (shown w)) bank_was bank log × Contains (marks w) log.mark
    unfolding durable chosen marks
    leaves_at w log bank at there =
        let below = below_8 logs w log at total.new_many in
        let old_log = item_at old.logs w (omega (arith, below, total.old_many)) in
        let bank_was = item_at (growing_in old.side before) w (omega (arith, below, total.before_many)) in
        let known = chosen.1 w below old_log.0 log bank_was.0 bank old_log.1 at bank_was.1 there in
        (bank_was.0, known.0, known.1)

    some_bank : (w : ℕ) → w < 8 → (bank : D) × (slice_get (growing_in old.side now) w ≡ Some bank)
    some_bank w below = item_at (growing_in old.side now) w (omega (arith, below, total.now_many))

    -- each mark that was seen is one of the worker's
    lines_seen : (seen : List Mark) → AreShown shown seen → AreSeen marks seen
    lines_seen seen are_shown = record {
      workers = are_shown.workers;
      each = λ w m at.
          let below : w < 8 = omega (arith, within_of seen w m at, are_shown.workers) in
          let log = item_at logs w (omega (arith, below, total.new_many)) in
          let bank = some_bank w below in
          let stood = are_shown.each w m at in
          let left = leaves_at w log.0 bank.0 log.1 bank.1 in
          let is = among_of (IsShownSince clock image_at (durable w) (clock left.0) bank.0 (marks w)) (shown w) stood.0
          left.1.since stood.1 in
          subst (Contains (marks w)) stood.2 is.among;
    }

    ends_seen : AreSeen marks (logs_marks logs)
    ends_seen = logs_seen marks logs total.new_many (λ w log at.
        let bank = some_bank w (below_8 logs w log at total.new_many) in
        (leaves_at w log bank.0 at bank.1).2)

    had : (at_clock : ℕ) (seen : List Mark) → SeenIn ran.printed.begin.epoch (epoch_joined ran) shown logs at_clock seen
        → (ran.printed.begin.epoch ≤ at_clock) × (at_clock ≤ epoch_joined ran) × AreSeen marks seen
    had at_clock seen is = (
      is.0,
      is.1,
      elim is.2 [
        | inl are_shown ↦ lines_seen seen are_shown
        | inr logs_are ↦ subst (AreSeen marks) (sym logs_are) ends_seen
      ],
    )

    by : AreSaved (IsSavedBy ran.printed.begin.epoch (epoch_joined ran) marks) (beside_of old) ran.printed.answers (stored ++ option_to_list failed)
    by = saved_by_had ran.printed.begin.epoch (epoch_joined ran) marks (SeenIn ran.printed.begin.epoch
        (epoch_joined ran) shown logs) (beside_of old)
        had ran.printed.answers (stored ++ option_to_list failed) saves

    -- its marks say what they count
    says : (w : ℕ) (m : Mark) → w < 8 → Contains (marks w) m → IsMarkOf (commits w ++ logged w) (durable w) m
    says w m below has =
        let log = item_at logs w (omega (arith, below, total.new_many)) in
        let bank = some_bank w below in
        marks_in (commits w ++ logged w) (durable w) (marks w) m (leaves_at w log.0 bank.0 log.1 bank.1).1.ran.had has

    grown : (w : ℕ) → w < 8 → length (was w) ≤ length (durable w)
    grown w below =
        let log = item_at logs w (omega (arith, below, total.new_many)) in
        let bank = some_bank w below in
        front_length (was w) (durable w) (leaves_at w log.0 bank.0 log.1 bank.1).1.ran.grows.more

    -- a closed log file as it was
    closed_was : (w : ℕ) → w < 8 → (n : ℕ) × (bank : D) × (slice_get old.counted w ≡ Some n)
        × (slice_get (closed_in old.side before) w ≡ Some bank) × IsClosedFile tells clock image_at (gone w) (closed w) n bank
    closed_was w below =
        let n = item_at old.counted w (omega (arith, below, counted_many)) in
        let bank = item_at (closed_in old.side before) w (omega (arith, below, closed_many old.side before whole)) in
        (n.0, bank.0, n.1, bank.1, closed_are w n.0 bank.0 n.1 (closed_at old.side before w ∙ bank.1))

    counts_here : CountsOf old.side commits gone was closed old.save.newest
        → CountsOf old.side (λ w. commits w ++ logged w) gone durable closed new.save.newest
    counts_here counts = subst (CountsOf old.side (λ w. commits w ++ logged w) gone durable closed) (sym newest)
        (counts_after old.side old.counted ran.printed.begin.epoch (epoch_joined ran) commits logged gone was durable closed marks
        old.save.newest stored
        (all_front (λ s. (c : Beside) × IsOver old.side old.counted c × IsSavedBy ran.printed.begin.epoch (epoch_joined ran) marks c s)
        stored (option_to_list failed)
        (over_all (IsSavedBy ran.printed.begin.epoch (epoch_joined ran) marks) ran.printed.answers (beside_of old) (stored ++ option_to_list failed)
        (over_begin old.side old.counted (length old.store.pages) counted_many) by))
        above grown says
        (λ w n at.
        let was_so = closed_was w (omega (arith, within_of old.counted w n at, counted_many)) in
        let same : was_so.0 ≡ n = same_Some was_so.0 n (sym was_so.2 ∙ at) in
        covers_all (gone w) (closed w) n was_so.4.lines
        (subst (λ k. (k ≡ 0) ⊎ (k ≡ length (closed w))) same was_so.4.counts))
        counts)

    -- ---- each of both sides

    side_is : (b : Bool) → swaps ran ≡ b → new.side ≡ cond b (other_side old.side) old.side
    side_is b is = files.side ∙ ap (λ c. cond c (other_side old.side) old.side) is

    counts_by : CountsOf old.side commits gone was closed old.save.newest → (b : Bool) → swaps ran ≡ b
        → CountsOf new.side (since_swap b (λ w. commits w ++ logged w)) (behind_swap b (λ w. commits w ++ logged w) gone)
        (since_swap b durable) (behind_swap b durable closed) new.save.newest
    counts_by counts false is =
        subst (λ s. CountsOf s (λ w. commits w ++ logged w) gone durable closed new.save.newest) (sym (side_is false is)) (counts_here counts)
    counts_by counts true is =
        let here = counts_here counts in
        subst (λ s. CountsOf s (λ w. []) (λ w. commits w ++ logged w) (λ w. []) durable new.save.newest) (sym (side_is true is)) (record {
          growing = λ w below.
              let none : counted_of new.save.newest (growing_number (other_side old.side) w) ≡ 0 =
              ap (counted_of new.save.newest) (other_growing old.side w) ∙ files.nothing (and_first (comes_to_swap ran) _ is) w below in
              subst (λ k. IsCounted [] [] (epoch_of new.save.newest) k) (sym none) (mark_set [] (epoch_of new.save.newest), omega arith);
          before = λ w below. inr (subst (λ n. IsCounted (commits w ++ logged w) (durable w) (epoch_of new.save.newest)
              (counted_of new.save.newest n)) (sym (other_closed old.side w)) (here.growing w below));
        })

    logs_are : (b : Bool) → swaps ran ≡ b → new.logs ≡ cond b (map reset_log logs) logs
    logs_are b is = files.logs_are ∙ ap (λ c. cond c (map reset_log logs) logs) is

    -- a growing log file in the end
    grows_now : (n : ℕ) (w : ℕ) (bank : D) → n ≡ growing_number old.side w → disk_in now (devices.Bank n) ≡ Some bank
        → slice_get (growing_in old.side now) w ≡ Some bank
    grows_now n w bank is there = sym (growing_at old.side now w) ∙ ap (λ m. disk_in now (devices.Bank m)) (sym is) ∙ there

    -- a closed one was emptied by the swap
    emptied : swaps ran ≡ true → (w : ℕ) → w < 8 → (bank : D) → disk_in now (devices.Bank (closed_number old.side w)) ≡ Some bank
        → tells bank ≡ Some []
    emptied is w below bank there =
        let was_so = closed_was w below in
        let mid_bank = item_at (closed_in old.side files.between) w (omega (arith, below, closed_many old.side files.between between_whole)) in
        let before_there = closed_at old.side before w ∙ was_so.3 in
        let mid_there = closed_at old.side files.between w ∙ mid_bank.1 in
        let reads = files.reads w was_so.1 mid_bank.0 before_there mid_there in
        let told = was_so.4.told in
        let cuts = files.cut (and_first (comes_to_swap ran) _ is) in
        banks_empty tells clock image_at faults (sequence_of new.save.newest) (closed_numbers old.side) files.between now
        (subst (λ f. CutsBanks tells clock image_at faults (sequence_of new.save.newest) (closed_numbers old.side) f files.between now)
        (none_some cuts.0 (cuts.1 ∙ ap not is)) cuts.2)
        (closed_number old.side w) mid_bank.0 bank (closed_in_numbers old.side w below) mid_there told.0 (reads.told ∙ told.1) there

    logs_by : (b : Bool) → swaps ran ≡ b
        → AreLogs tells clock image_at (since_swap b (λ w. commits w ++ logged w)) (since_swap b durable) new now
    logs_by false is w log bank at there =
        let bank_there = grows_now (growing_number new.side w) w bank (ap (λ s. growing_number s w) (side_is false is)) there in
        log_is (leaves_at w log bank (ap (λ l. slice_get l w) (sym (logs_are false is)) ∙ at) bank_there).1.ran
    logs_by true is w log bank at there =
        let l = map_at reset_log logs w log (ap (λ l. slice_get l w) (sym (logs_are true is)) ∙ at) in
        let below = below_8 logs w l.0 l.1 total.new_many in
        let number : growing_number new.side w ≡ closed_number old.side w =
        ap (λ s. growing_number s w) (side_is true is) ∙ other_growing old.side w in
        subst (λ x. IsLog tells clock image_at [] [] x bank) l.2
        (log_resets l.0 (λ up. emptied is w below bank (ap (λ m. disk_in now (devices.Bank m)) (sym number) ∙ there)))

    -- ---- the closed log files

    counted_is : (b : Bool) → swaps ran ≡ b
        → new.counted ≡ cond b (map (λ (m : Mark). m.length) (logs_marks logs)) (beside_at_end (beside_of old) ran.printed.answers).closed
    counted_is b is = files.counted
        ∙ ap (λ c. cond c (map (λ (m : Mark). m.length) (logs_marks logs)) (beside_at_end (beside_of old) ran.printed.answers).closed) is

    closed_by : (comes_to_swap ran ≡ true → swaps ran ≡ true) → (b : Bool) → swaps ran ≡ b
        → AreClosedFiles tells clock image_at (behind_swap b (λ w. commits w ++ logged w) gone) (behind_swap b durable closed) new now
    closed_by done false is w n bank at there =
        let same : now ≡ files.between = files.left (not_begun (comes_to_swap ran) (λ begun. cc (is, done begun))) in
        let over = over_end ran.printed.answers (beside_of old) (over_begin old.side old.counted (length old.store.pages) counted_many) in
        let counted_at : slice_get (beside_at_end (beside_of old) ran.printed.answers).closed w ≡ Some n =
        ap (λ l. slice_get l w) (sym (counted_is false is)) ∙ at in
        let below : w < 8 = omega (arith, within_of (beside_at_end (beside_of old) ran.printed.answers).closed w n counted_at, over.workers) in
        let was_so = closed_was w below in
        let mid_there : disk_in files.between (devices.Bank (closed_number old.side w)) ≡ Some bank =
        ap (λ v. disk_in v (devices.Bank (closed_number old.side w))) (sym same)
        ∙ ap (λ s. disk_in now (devices.Bank (closed_number s w))) (sym (side_is false is)) ∙ there in
        let reads = files.reads w was_so.1 bank (closed_at old.side before w ∙ was_so.3) mid_there in
        record {
          lines = was_so.4.lines;
          begins = reads_begin reads was_so.4.begins;
          told = (was_so.4.told.0, reads.told ∙ was_so.4.told.1, was_so.4.told.2);
          counts = elim (over.each w n counted_at) [
            | inl none ↦ inl none
            | inr was ↦ subst (λ k. (k ≡ 0) ⊎ (k ≡ length (closed w))) (same_Some was_so.0 n (sym was_so.2 ∙ was)) was_so.4.counts
          ];
        }
    closed_by done true is w n bank at there =
        let length_at = map_at (λ (m : Mark). m.length) (logs_marks logs) w n (ap (λ l. slice_get l w) (sym (counted_is true is)) ∙ at) in
        let log = map_at (λ (l : LogState). l.mark) logs w length_at.0 length_at.1 in
        let bank_there = grows_now (closed_number new.side w) w bank
        (ap (λ s. closed_number s w) (side_is true is) ∙ other_closed old.side w) there in
        let leaves = leaves_at w log.0 bank log.1 bank_there in
        let ran_so = leaves.1.ran in
        let rest = rests is w log.0 log.1 in
        record {
          lines = ran_so.lines ∙ ap (λ l. durable w ++ l) rest.flushed ∙ append-nil (durable w);
          begins = ran_so.journal_of.durable.begins;
          told = (durable w, ran_so.journal_of.told rest.up, front_refl (durable w));
          counts = inr (sym length_at.2 ∙ ap (λ (m : Mark). m.length) (sym log.2) ∙ rest.marked ∙ sym ran_so.journal_of.durable.size);
        }

    -- behind a swap all lines of a worker are counted
    whole_by : swaps ran ≡ true → (w n : ℕ) → slice_get new.counted w ≡ Some n
        → n ≡ length (lines_bytes (commits w ++ logged w))
    whole_by is w n at =
        let length_at = map_at (λ (m : Mark). m.length) (logs_marks logs) w n
        (ap (λ l. slice_get l w) (sym (counted_is true is)) ∙ at) in
        let log = map_at (λ (l : LogState). l.mark) logs w length_at.0 length_at.1 in
        let bank = item_at (growing_in old.side now) w
        (omega (arith, below_8 logs w log.0 log.1 total.new_many, total.now_many)) in
        let ran_so = (leaves_at w log.0 bank.0 log.1 bank.1).1.ran in
        let rest = rests is w log.0 log.1 in
        sym length_at.2 ∙ ap (λ (m : Mark). m.length) (sym log.2) ∙ rest.marked ∙ sym ran_so.journal_of.durable.size
        ∙ ap length (sym (ran_so.lines ∙ ap (λ l. durable w ++ l) rest.flushed ∙ append-nil (durable w)))

    logs_ran : LogsRan tells clock image_at ran commits logged gone was closed stored failed logs old new before now
    unfolding durable chosen marks
    logs_ran = record {
      durable = durable;
      marks = marks;
      shown = shown;
      each = λ w log_was log bank_was bank epochs at_was at there now_there epochs_are.
          let below = below_8 old.logs w log_was at_was total.old_many in
          let one = chosen.1 w below log_was log bank_was bank at_was at
          (sym (growing_at old.side before w) ∙ there) (sym (growing_at old.side now w) ∙ now_there) in
          record {
            ran = one.0.ran;
            while_run = shown_so w epochs epochs_are;
            first = one.0.first;
            since = one.0.since;
            rise = one.0.rise;
          };
      saved = by;
      placed = placed;
      counts_here = counts_here;
      counts = λ counts. counts_by counts (swaps ran) refl;
      are_logs = logs_by (swaps ran) refl;
      closed_whole = whole_by;
      are_closed = λ done. closed_by done (swaps ran) refl;
    }

  -- What the round leaves of the vault.
  pub leaves_vault : (others : List Device) → KeepsSaves tells clock image_at faults stored failed old new before now
      → StandsOn tells clock image_at new now
      → ran.beside.devices ≡ devices_down old.side (are_down logs) (is_some failed) others
      → ((device : Device) → Contains others device → IsBeside old.side device)
      → ((device : Device) → Contains others device → RoseIn faults device before now)
      → ((Contains others devices.Snaps → ⊥) → faults now.snaps ≡ faults before.snaps)
      → ((w : ℕ) (was is : D) → slice_get (closed_in old.side before) w ≡ Some was
      → slice_get (closed_in old.side now) w ≡ Some is → (Contains others (devices.Bank (closed_number old.side w)) → ⊥)
      → faults is ≡ faults was)
      → RoundGleans tells ran.printed.answers ran.beside.gleans ran.beside.damaged old new before now
      → ((what : Option ℕ) → Contains ran.beside.gleans what → some_counted old.counted ≡ true)
      → ((Contains ran.beside.devices devices.Snaps → ⊥) → new.store.sound ≡ true)
      → new.room ≡ old.room
      → map (λ (s : Saved). s.epoch) stored ≡ saves_told ran.printed.answers ++ option_to_list ran.printed.durable
      → ((w : ℕ) (log : LogState) (refusal : Option LogRefusal) → slice_get logs w ≡ Some log
      → slice_get ran.beside.logs w ≡ Some refusal → IsRefusedBy refusal log.journal)
      → ((w : ℕ) → w < 8 → Contains ran.beside.devices (log_of ran.beside.files w)
      → (slice_get ran.beside.logs w ≡ Some (Some LogFailed)) ⊎ (comes_to_advance ran ≡ true))
      → NeverFall (epoch_of old.save.newest) (map (λ (s : Saved). s.epoch) (stored ++ option_to_list failed))
      → (is_some failed ≡ true → ((keeper_at_end ran).refused ≡ true)
      ⊎ ((comes_to_save ran ≡ true) × ((keeper_at_end ran).sequence < last_sequence)))
      → LeavesVault tells clock image_at faults ran logged old new before now
  leaves_vault others keeps stands devices_are beside rose_others quiet_snaps quiet_closed gleans needed sound room epochs refused
      log_failed rise asked = record {
        stands = stands;
        failed_are = subst (λ d. AreFailed faults d before now) (sym devices_are)
            (are_failed faults old.side logs before now (is_some failed) others (total.new_many ∙ sym total.before_many)
            (total.new_many ∙ sym total.now_many)
            (λ w log was is at bank_at now_at.
            let old_log = item_at old.logs w (omega (arith, below_8 logs w log at total.new_many, total.old_many)) in
            (total.each w old_log.0 log was is old_log.1 at bank_at now_at).blames)
            rose_others quiet_snaps quiet_closed keeps.rose (λ none. keeps.quiet (none_failed failed none)));
        logs = logs;
        files = files;
        gleans = gleans;
        needed = needed;
        sound = sound;
        room = room;
        longer = λ w was log at_was at_log.
            let below = below_8 old.logs w was at_was total.old_many in
            let bank_was = item_at (growing_in old.side before) w (omega (arith, below, total.before_many)) in
            let bank = item_at (growing_in old.side now) w (omega (arith, below, total.now_many)) in
            (total.each w was log bank_was.0 bank.0 at_was at_log bank_was.1 bank.1).longer;
        marked = λ done w log at.
            let it = rests done w log at in
            omega (arith, it.marked, ap length it.flushed);
        refused = refused;
        log_failed = log_failed;
        stored = stored;
        failed = failed;
        has_stored = record {
          epochs = epochs;
          newest = keeps.newest;
          down = keeps.down;
          rise = rise;
          fails = (
            λ is. subst (λ d. Contains d devices.Save) (sym devices_are)
                (subst (λ b. Contains (devices_down old.side (are_down logs) b others) devices.Save) (sym is)
                (save_in old.side (are_down logs) others)),
            λ has. save_down old.side (are_down logs) (is_some failed) others (beside_not_save old.side others beside)
                (subst (λ d. Contains d devices.Save) devices_are has),
          );
          asked = asked;
        };
        ties_are = keeps.ties_are;
        ended = keeps.ended;
        ties_stay = keeps.ties_stay;
        save_told = keeps.told;
        snaps_told = keeps.snaps_told;
        grows = keeps.grows;
        above = above;
        runs = λ commits gone was closed are closed_are. logs_ran commits gone was closed are closed_are;
        keeper = keeps.keeper;
      }
