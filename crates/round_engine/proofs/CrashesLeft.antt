-- What a round leaves of the crashes of all devices, from what it left of each of them.
use Rattle.std.proofs.Common.{◌≡◌, ◌∙◌, ◌≤◌, ◌<◌, ◌+◌, ◌-◌, ◌⊎◌, ◌++◌, ◌∷◌, inl, inr, sym, ap, subst, refl, ℕ}
use Rattle.std.proofs.Common.{get_or, List, [], length, Bool, take, true, false, cond, Option, Some, None, arith}
use Rattle.std.specs.Prelude.{◌&&◌, IsSome, map, option_to_list, slice_get, is_some, not}
use Rattle.std.specs.Option.{option_map}
use Rattle.std.specs.List.{AllByRecursion, Contains}
use Rattle.std.proofs.lemmas.Bool.{cases_lt}
use Rattle.std.proofs.lemmas.List.{append-nil, length-append, length-map, nil_from_length}
use Rattle.std.proofs.lemmas.Option.{same_Some}
use Rattle.lists.specs.Elements.{at_below, at_in}
use Rattle.lists.specs.Fronts.{IsFront, front_take, front_then}
use Rattle.outside.specs.Disk.{Goes, Same}
use Rattle.outside.specs.Fronts.{AllBegin, KeepsSince, begins_less, keeps_same}
use Rattle.log_writer.specs.Vault.{disk_in}
use Rattle.log_writer.specs.declared.records.Cut.{Cut}
use Rattle.outside.specs.declared.device.Device.TheVariants.{Bank, Save}
use Rattle.log_writer.specs.declared.records.Tie.{Tie}
use Rattle.log_writer.specs.declared.vault.Vault.{Vault}
use Rattle.serial_model.specs.declared.number.Commit.{Commit}
use Rattle.wire_form.specs.declared.clock.Mark.{Mark}
use Rattle.wire_form.specs.declared.savepoint.Savepoint.{Savepoint}
use Rattle.log_writer.specs.Points.{point_of, sequence_of}
use Rattle.log_writer.specs.declared.saved.Saved.{Saved}
use Rattle.snapshot_store.specs.Store.{bytes_of_pages}
use Rattle.worker_logs.specs.Logs.{LogState}
use Rattle.worker_logs.specs.Saves.{closed_number, growing_number, lengths_by}
use Rattle.worker_logs.specs.SavesLaws.{growing_length}
use Rattle.worker_logs.specs.Shown.{IsShownSince, Stood}
use Rattle.worker_logs.specs.ShownLaws.{keeps_now}
use Rattle.shared_rounds.specs.Shares.{shown_epochs}
use Rattle.worker_logs.specs.declared.savepoints.Side.{Side}
use Rattle.joint_crashes.specs.Causal.{AreSince, BankSince, Since}
use Rattle.joint_crashes.specs.Crashes.CausalSteps.{since_goes_on, since_grown}
use Rattle.joint_crashes.specs.Cutting.{AreCut, CutsLeave}
use Rattle.joint_crashes.specs.Images.{Images, counted_of, epoch_of}
use Rattle.joint_crashes.specs.JointCrash.{CrashesNow, HasCut, IsJointCrash, IsSince, KeepsCrashes, Moments}
use Rattle.joint_crashes.specs.JointCrash.{parts_of}
use Rattle.joint_crashes.specs.Story.{BankOpen, IsTold, StandsFor, Story}
use Rattle.joint_crashes.specs.Crashes.Instants.{keeps_then, lasts_goes}
use Rattle.joint_crashes.specs.Crashes.Standing.{crash_covers}
use Rattle.tx_script.specs.Run.{Ran}
use Rattle.round_engine.specs.Crashes.{BankShut, CarriesCrashes, front_of, KnowsBefore, LeavesCrashes, LeavesSince}
use Rattle.round_engine.specs.Crashes.{StaysReady}
use Rattle.round_engine.specs.Ends.{comes_to_swap, durable_of, swaps}
use Rattle.tx_script.specs.Causes.{keeper_at_end}
use Rattle.round_engine.specs.Logs.{AreClosedFiles, AreLogs, IsFirstAt, LeavesLog}
use Rattle.round_engine.specs.RanRound.{LeavesVault, LogsRan}
use Rattle.worker_logs.specs.declared.savepoints.Beside.{Beside}
use Rattle.round_engine.specs.Saves.{beside_at_save, saves_told}
use Rattle.round_engine.specs.Sides.{closed_in, closed_numbers, growing_in, other_side}
use Rattle.round_engine.specs.Standing.{beside_of, RuntimeState, StandsOn}
use Rattle.round_engine.proofs.Saved.{over_begin, over_save}
use Rattle.round_engine.specs.Swaps.{behind_swap, CutsBanks, since_swap}
use Rattle.round_engine.proofs.BanksCut.{closed_in_numbers, numbers_closed}
use Rattle.round_engine.proofs.BanksShut.{shut_of}
use Rattle.round_engine.proofs.Keeping.{at_append, bytes_front, goes_front, some_front, told_newest}
use Rattle.round_engine.proofs.Numbered.{closed_at, closed_many, growing_at, growing_many, grows_not_closed}
use Rattle.round_engine.proofs.Numbered.{numbered, other_closed, other_growing, same_growing}
use Rattle.round_engine.proofs.SinceCuts.{cuts_since}
use Rattle.round_engine.proofs.StoreFailed.{never_durable}
use Rattle.round_engine.proofs.StopsNow.{epoch_at, last_at, newest_now, rise_at}
use Rattle.round_engine.proofs.Stories.{count_begun, counted_behind, goes_after, pages_behind, point_begun}
use Rattle.round_engine.proofs.Stories.{begun_at, open_same, point_behind, shut_same}
use Rattle.round_engine.proofs.Stories.{same_before, story_after}
use Rattle.round_engine.proofs.Swapping.{cuts_left, cuts_stay}
use Rattle.round_engine.proofs.Whole.{among_of, and_first, none_some, not_begun}
use Rattle.round_engine.proofs.Places.{item_at, map_at, map_there}
use Rattle.round_engine.proofs.FileBytes.{of_side, side_growing, side_closed, growing_below, closed_below}
use Rattle.round_engine.proofs.UncutVault.{CutsDone, before_cuts, logs_many}
use Rattle.round_engine.proofs.CrashesUncut.{LeftUncut, left_uncut}

true_false : true ≡ false → ⊥
true_false is = cc

-- ---- a round

module _ {D : Type 0} {tells : D → Option (List ℕ)} {clock : D → ℕ} {image_at : D → ℕ → List ℕ → Type 0}
    {faults : D → ℕ} {ran : Ran} {logged : ℕ → List Commit} {old new : RuntimeState} {before now : Vault D}
    (reads : (disk : D) (file : List ℕ) → tells disk ≡ Some file → image_at disk (clock disk) file)
    (stood : StandsOn tells clock image_at old before) (marks_many : length ran.beside.marks ≡ 8)
    (durable_made : (epoch : ℕ) → ran.printed.durable ≡ Some epoch → durable_of ran ≡ Some epoch)
    (leaves : LeavesVault tells clock image_at faults ran logged old new before now) where
  abbrev last : ℕ
  last = sequence_of old.save.newest

  abbrev begun : List Saved
  begun = leaves.stored ++ option_to_list leaves.failed

  abbrev high : ℕ
  high = last + length begun

  abbrev between : Vault D
  between = leaves.files.between

  -- ---- for whoever knows what was known of crashes

  module _ (story : Story) (from : Moments) (low : ℕ) (commits gone : ℕ → List Commit) (was closed : ℕ → List ℕ)
      (known : KnowsBefore tells clock image_at story from low commits gone was closed old before) where
    abbrev ran_logs : LogsRan tells clock image_at ran commits logged gone was closed leaves.stored leaves.failed leaves.logs
        old new before now
    ran_logs = leaves.runs commits gone was closed known.logs known.files

    abbrev durable : ℕ → List ℕ
    durable = ran_logs.durable

    abbrev made : ℕ → List ℕ
    made = of_side old.side durable closed

    abbrev after : Story
    after = story_after story last begun (front_of new.store) made

    -- before the cuts
    uncut : LeftUncut reads stood marks_many leaves story from low commits gone was closed known
    uncut = left_uncut reads stood marks_many leaves story from low commits gone was closed known

    -- ---- the epoch that is made durable

    -- a savepoint with that epoch was stored last, and its store had ended
    record StoredLast (epoch : ℕ) : Type 0 where
      saved : Saved
      at : slice_get leaves.stored (length (saves_told ran.printed.answers)) ≡ Some saved
      epoch_is : saved.epoch ≡ epoch
      many : length leaves.stored ≡ length (saves_told ran.printed.answers) + 1
      tie : Tie
      end : ℕ
      has : Contains now.ties.items tie
      sequence : tie.sequence ≡ last + 1 + length (saves_told ran.printed.answers)
      ended : tie.ended ≡ Some end

    stored_last : (epoch : ℕ) → ran.printed.durable ≡ Some epoch → StoredLast epoch
    stored_last epoch durable_is =
        let epochs : map (λ (s : Saved). s.epoch) leaves.stored ≡ saves_told ran.printed.answers ++ epoch ∷ [] =
        leaves.has_stored.epochs ∙ ap (λ o. saves_told ran.printed.answers ++ option_to_list o) durable_is in
        let here : slice_get (map (λ (s : Saved). s.epoch) leaves.stored) (length (saves_told ran.printed.answers))
        ≡ Some epoch =
        ap (λ l. slice_get l (length (saves_told ran.printed.answers))) epochs ∙ last_at (saves_told ran.printed.answers) epoch in
        let stored = map_at (λ (s : Saved). s.epoch) leaves.stored (length (saves_told ran.printed.answers)) epoch here in
        let tied = leaves.ended (length (saves_told ran.printed.answers)) stored.0 stored.1 in
        record {
          saved = stored.0;
          at = stored.1;
          epoch_is = stored.2;
          many = sym (length-map leaves.stored (λ (s : Saved). s.epoch)) ∙ ap length epochs
              ∙ length-append (saves_told ran.printed.answers) (epoch ∷ []);
          tie = tied.0;
          end = tied.1;
          has = tied.2;
          sequence = tied.3;
          ended = tied.4;
        }

    -- a savepoint from the last one that was stored on is of that epoch, or of a later one
    later_epoch : (epoch : ℕ) → ran.printed.durable ≡ Some epoch → (k : ℕ)
        → last + 1 + length (saves_told ran.printed.answers) ≤ k → k ≤ high → epoch ≤ epoch_of (after.point k)
    later_epoch epoch durable_is k at_least at_most =
        let stored = stored_last epoch durable_is in
        let saved = item_at begun (k - (last + 1)) (omega (arith, at_least, at_most)) in
        let first = at_append leaves.stored (option_to_list leaves.failed) (length (saves_told ran.printed.answers)) stored.saved
        stored.at in
        let rises = rise_at (epoch_of old.save.newest) (map (λ (s : Saved). s.epoch) begun) leaves.has_stored.rise
        (length (saves_told ran.printed.answers)) (k - (last + 1)) stored.saved.epoch saved.0.epoch (omega (arith, at_least))
        (epoch_at begun (length (saves_told ran.printed.answers)) stored.saved first)
        (epoch_at begun (k - (last + 1)) saved.0 saved.1) in
        let point : after.point k ≡ Some (point_of k saved.0) =
        point_behind story last begun (front_of new.store) made k (omega (arith, at_least))
        ∙ ap (option_map (point_of k)) saved.1 in
        omega (arith, rises, stored.epoch_is, ap epoch_of point)

    -- ---- the newest

    newest_told : (sequence_of new.save.newest ≡ last + length leaves.stored)
        × (after.point (sequence_of new.save.newest) ≡ new.save.newest)
    newest_told =
        let told = told_newest after old.save.newest (front_of new.store) leaves.stored uncut.newest
        (goes_front after old.save.newest (front_of new.store) leaves.stored (option_to_list leaves.failed)
        (goes_after story old.save.newest begun (front_of new.store) made)) in (
          subst (λ n. sequence_of n ≡ last + length leaves.stored) (sym leaves.has_stored.newest) told.sequence,
          subst (λ n. after.point (sequence_of n) ≡ n) (sym leaves.has_stored.newest) told.point,
        )

    -- ---- the cuts

    -- what the swap left
    record Swapped : Type 0 where
      epoch : ℕ
      is_durable : ran.printed.durable ≡ Some epoch
      newest_is : sequence_of new.save.newest ≡ high
      left : CutsLeave clock image_at after from low high (parts_of between) (parts_of now)
      stays : StaysReady clock image_at after low high (parts_of now)
      done : swaps ran ≡ true → AreCut clock image_at after from low high (closed_numbers old.side) (parts_of between)
          (parts_of now)

    -- where an epoch was made durable no store failed
    none_failed : (epoch : ℕ) → ran.printed.durable ≡ Some epoch → leaves.failed ≡ None
    none_failed epoch durable_now = by leaves.failed refl
      where
        by : (failed : Option Saved) → leaves.failed ≡ failed → leaves.failed ≡ None
        by None is = is
        by (Some saved) is =
            let has : Contains ran.beside.devices Save = leaves.has_stored.fails.0 (ap is_some is) in
            absurd (never_durable ran epoch has (durable_made epoch durable_now))

    swapped : (b : Bool) → swaps ran ≡ b → comes_to_swap ran ≡ true → Swapped
    swapped b b_is comes =
        let some = some_durable comes in
        let stored = stored_last some.0 some.1 in
        let none = none_failed some.0 some.1 in
        let many : length begun ≡ length leaves.stored =
        ap (λ (o : Option Saved). length (leaves.stored ++ option_to_list o)) none
        ∙ ap length (append-nil leaves.stored) in
        let newest_is : sequence_of new.save.newest ≡ high = omega (arith, newest_told.0, many) in
        let cuts : CutsDone leaves = leaves.files.cut comes in
        let made_cuts : CutsBanks tells clock image_at faults high (closed_numbers old.side) cuts.0 between now =
        subst (λ n. CutsBanks tells clock image_at faults n (closed_numbers old.side) cuts.0 between now) newest_is cuts.2 in
        let point : after.point high ≡ new.save.newest = ap after.point (sym newest_is) ∙ newest_told.1 in
        let is_tie : stored.tie.sequence ≡ high = omega (arith, stored.sequence, stored.many, many) in
        let has : Contains between.ties.items stored.tie =
        subst (λ (t : _). Contains t.items stored.tie) (before_cuts leaves).ties stored.has in
        let are_there : (n : ℕ) → Contains (closed_numbers old.side) n → IsSome (disk_in between (Bank n)) = λ n has_n.
        let at = numbers_closed old.side n has_n in
        let bank = item_at (closed_in old.side between) at.0
        (omega (arith, at.1, closed_many old.side between (before_cuts leaves).whole)) in
        ap is_some (ap (λ k. disk_in between (Bank k)) at.2 ∙ closed_at old.side between at.0 ∙ bank.1) in
        let result = cuts_left faults {story = after} {from = from} {low = low} {high = high} reads [] (closed_numbers old.side)
        cuts.0 between between now uncut.none_cut made_cuts are_there
        (λ n has_n.
        let at = numbers_closed old.side n has_n in
        let bank = item_at (closed_in old.side between) at.0
        (omega (arith, at.1, closed_many old.side between (before_cuts leaves).whole)) in
        let there : disk_in between (Bank n) ≡ Some bank.0 =
        ap (λ k. disk_in between (Bank k)) at.2 ∙ closed_at old.side between at.0 ∙ bank.1 in
        let zero : counted_of new.save.newest n ≡ 0 =
        ap (counted_of new.save.newest) at.2 ∙ leaves.files.nothing comes at.0 at.1 in
        nil_from_length (after.counted high n) (uncut.told.sized n high bank.0 there uncut.told.save.ordered (omega arith)
        ∙ ap (λ (p : Option Savepoint). counted_of p n) point ∙ zero))
        (inr (stored.tie, stored.end, has, is_tie, stored.ended))
        (λ n bank has_n there.
        let at = numbers_closed old.side n has_n in
        uncut.tells_shut at.0 bank (subst (λ k. disk_in between (Bank k) ≡ Some bank) at.2 there)) in
        record {
          epoch = some.0;
          is_durable = some.1;
          newest_is = newest_is;
          left = result.1;
          stays = cuts_stay tells clock image_at faults high (closed_numbers old.side) cuts.0 between now made_cuts are_there
              uncut.stays result.1.ready;
          done = λ is. result.0 (none_some cuts.0 (cuts.1 ∙ ap not is));
        }
      where
        some_by : (o : Option ℕ) → ran.printed.durable ≡ o → (is_some o && not (keeper_at_end ran).counted) ≡ true
            → (epoch : ℕ) × (ran.printed.durable ≡ Some epoch)
        some_by (Some epoch) is comes = (epoch, is)
        some_by None is comes = absurd cc

        some_durable : comes_to_swap ran ≡ true → (epoch : ℕ) × (ran.printed.durable ≡ Some epoch)
        some_durable comes = some_by ran.printed.durable refl comes

    -- ---- the end

    -- all devices as the round returns
    record AtEnd : Type 0 where
      told : IsTold clock image_at after from low high (parts_of now)
      stays : StaysReady clock image_at after low high (parts_of now)
      instant : CrashesNow clock image_at (parts_of now)
      keeps : KeepsCrashes clock image_at from (parts_of before) (parts_of now)

    end_by : (b : Bool) → comes_to_swap ran ≡ b → AtEnd
    end_by false is =
        let same : now ≡ between = leaves.files.left is in
        record {
          told = subst (λ v. IsTold clock image_at after from low high (parts_of v)) (sym same) uncut.told;
          stays = subst (λ v. StaysReady clock image_at after low high (parts_of v)) (sym same) uncut.stays;
          instant = subst (λ v. CrashesNow clock image_at (parts_of v)) (sym same) uncut.instant;
          keeps = subst (λ v. KeepsCrashes clock image_at from (parts_of before) (parts_of v)) (sym same) uncut.keeps;
        }
    end_by true is =
        let cut = swapped (swaps ran) refl is in
        let stored = stored_last cut.epoch cut.is_durable in
        record {
          told = cut.left.told;
          stays = cut.stays;
          instant = newest_now after from low high (parts_of now) cut.left.told stored.tie stored.end stored.has
              (omega (arith, stored.sequence, cut.newest_is, newest_told.0, stored.many)) stored.ended cut.left.ready;
          keeps = keeps_then uncut.keeps cut.left.stays;
        }

    at_end : AtEnd
    at_end = end_by (comes_to_swap ran) refl

    covers_now : (epoch : ℕ) → ran.printed.durable ≡ Some epoch → (at : Moments) (left : Images) → IsSince from at
        → IsJointCrash clock image_at (parts_of now) at left → clock now.save ≤ at.save
        → (k : ℕ) × StandsFor clock image_at after (parts_of now) left k × (epoch ≤ epoch_of (after.point k))
    covers_now epoch durable_now at left since crash later =
        let stored = stored_last epoch durable_now in
        let end = at_end.told.save.ended_time stored.tie stored.end stored.has stored.ended in
        let k = crash_covers stored.tie stored.end at_end.told since crash stored.has stored.ended
        (omega (arith, end, later)) in
        (k.0, k.4, later_epoch epoch durable_now k.0 (omega (arith, k.3, stored.sequence)) k.2)

    front_at : (k w : ℕ) → last < k → k ≤ high → w < 8
        → IsFront (after.counted k (growing_number old.side w)) (durable w)
        × IsFront (after.counted k (closed_number old.side w)) (closed w)
    front_at k w later within below = (
      subst (λ l. IsFront (after.counted k (growing_number old.side w)) l) (side_growing old.side durable closed w)
          (front (growing_number old.side w)),
      subst (λ l. IsFront (after.counted k (closed_number old.side w)) l) (side_closed old.side durable closed w)
          (front (closed_number old.side w)),
    )
      where
        front : (n : ℕ) → IsFront (after.counted k n) (made n)
        front n = subst (λ l. IsFront l (made n))
            (sym (counted_behind story last begun (front_of new.store) made k n later))
            (front_take (counted_of (point_begun last begun k) n) (made n))

    -- ---- moments of marks

    -- a growing log file, as the round began and before the cuts
    record Grew (w : ℕ) (bank : D) : Type 0 where
      bank_was : D
      epochs : List (Option ℕ)
      log : LogState
      was_there : disk_in before (Bank (growing_number old.side w)) ≡ Some bank_was
      left : LeavesLog tells clock image_at (commits w) (logged w) (was w) (durable w) (ran_logs.marks w)
          (ran_logs.shown w) epochs bank_was bank log

    grew : (w : ℕ) (bank : D) → w < 8 → disk_in between (Bank (growing_number old.side w)) ≡ Some bank → Grew w bank
    grew w bank below there =
        let log_was = item_at old.logs w (omega (arith, below, stood.workers)) in
        let log = item_at leaves.logs w (omega (arith, below, logs_many leaves)) in
        let bank_was = item_at (growing_in old.side before) w
        (omega (arith, below, growing_many old.side before stood.whole)) in
        let epochs = item_at ran.beside.marks w (omega (arith, below, marks_many)) in
        let was_there : disk_in before (Bank (growing_number old.side w)) ≡ Some bank_was.0 =
        growing_at old.side before w ∙ bank_was.1 in
        record {
          bank_was = bank_was.0;
          epochs = epochs.0;
          log = log.0;
          was_there = was_there;
          left = ran_logs.each w log_was.0 log.0 bank_was.0 bank epochs.0 log_was.1 log.1 was_there
              ((before_cuts leaves).grows w ∙ there) epochs.1;
        }

    -- the moment of a mark, or else this one
    abbrev stood_since : Option Stood → ℕ → ℕ
    stood_since None end = end
    stood_since (Some m) end = m.since

    abbrev place_since : Option ℕ → ℕ → ℕ → ℕ
    place_since None w end = end
    place_since (Some place) w end = stood_since (slice_get (ran_logs.shown w) place) end

    abbrev seen_since : Option (List ℕ) → ℕ → ℕ → ℕ
    seen_since None w end = end
    seen_since (Some places) w end = place_since (slice_get places w) w end

    -- the clock of a log file before the cuts
    abbrev clock_in : Option D → ℕ
    clock_in None = 0
    clock_in (Some bank) = clock bank

    abbrev file_since : (k n : ℕ) → ((w : ℕ) × (n ≡ growing_number old.side w)) ⊎ ((w : ℕ) ×
        (n ≡ closed_number old.side w))
        → ℕ
    file_since k n (inl grows) =
        seen_since (slice_get ran.beside.seen (k - (last + 1))) grows.0 (clock_in (disk_in between (Bank n)))
    file_since k n (inr shut) = clock_in (disk_in before (Bank n))

    module _ (given : Since) (given_so : AreSince clock image_at story given from low last (parts_of before)) where
      abbrev since_by : (k n : ℕ) → (last < k) ⊎ (k ≤ last) → ℕ
      since_by k n (inl later) = file_since k n (numbered old.side n)
      since_by k n (inr before) = given k n

      -- what was given, up to the newest, and then the moments of the marks that were seen
      abbrev since : Since
      since k n = since_by k n (cases_lt last k)

      since_old : (k n : ℕ) → k ≤ last → since k n ≡ given k n
      since_old k n first = by (cases_lt last k)
        where
          by : (x : (last < k) ⊎ (k ≤ last)) → since_by k n x ≡ given k n
          by (inl later) = absurd (omega (arith, later, first))
          by (inr before) = refl

      since_new : (k n : ℕ) → last < k → since k n ≡ file_since k n (numbered old.side n)
      since_new k n behind = by (cases_lt last k)
        where
          by : (x : (last < k) ⊎ (k ≤ last)) → since_by k n x ≡ file_since k n (numbered old.side n)
          by (inl later) = refl
          by (inr before) = absurd (omega (arith, before, behind))

      since_growing : (k w : ℕ) → last < k → since k (growing_number old.side w)
          ≡ seen_since (slice_get ran.beside.seen (k - (last + 1))) w
          (clock_in (disk_in between (Bank (growing_number old.side w))))
      since_growing k w behind = since_new k (growing_number old.side w) behind
          ∙ by (numbered old.side (growing_number old.side w))
        where
          by : (x : ((v : ℕ) × (growing_number old.side w ≡ growing_number old.side v))
              ⊎ ((v : ℕ) × (growing_number old.side w ≡ closed_number old.side v)))
              → file_since k (growing_number old.side w) x
              ≡ seen_since (slice_get ran.beside.seen (k - (last + 1))) w
              (clock_in (disk_in between (Bank (growing_number old.side w))))
          by (inl grows) = ap (λ v. seen_since (slice_get ran.beside.seen (k - (last + 1))) v
              (clock_in (disk_in between (Bank (growing_number old.side w)))))
              (sym (same_growing old.side w grows.0 grows.1))
          by (inr shut) = absurd (grows_not_closed old.side w shut.0 shut.1)

      since_closed : (k w : ℕ) (bank : D) → last < k → disk_in before (Bank (closed_number old.side w)) ≡ Some bank
          → since k (closed_number old.side w) ≡ clock bank
      since_closed k w bank behind there = since_new k (closed_number old.side w) behind
          ∙ by (numbered old.side (closed_number old.side w)) ∙ ap clock_in there
        where
          by : (x : ((v : ℕ) × (closed_number old.side w ≡ growing_number old.side v))
              ⊎ ((v : ℕ) × (closed_number old.side w ≡ closed_number old.side v)))
              → file_since k (closed_number old.side w) x ≡ clock_in (disk_in before (Bank (closed_number old.side w)))
          by (inl grows) = absurd (grows_not_closed old.side grows.0 w (sym grows.1))
          by (inr shut) = refl

      -- from there on a log file keeps what a savepoint counts of it
      abbrev Fresh : ℕ → ℕ → D → D → Type 0
      Fresh k n bank_was bank = (clock bank_was ≤ since k n) × (since k n ≤ clock bank)
          × KeepsSince clock image_at bank (since k n) (after.counted k n)

      by_end : (k n : ℕ) (bank_was bank : D) (bytes : List ℕ) → since k n ≡ clock bank → clock bank_was ≤ clock bank
          → AllBegin (image_at bank (clock bank)) bytes → IsFront (after.counted k n) bytes → Fresh k n bank_was bank
      by_end k n bank_was bank bytes is later begins front = (
        omega (arith, is, later),
        omega (arith, is),
        subst (λ m. KeepsSince clock image_at bank m (after.counted k n)) (sym is)
            (keeps_now clock image_at bank (after.counted k n)
            (begins_less (image_at bank (clock bank)) (after.counted k n) bytes begins front)),
      )

      by_reads : (k n : ℕ) (bank_was bank : D) (bytes : List ℕ) → since k n ≡ clock bank_was
          → Goes clock image_at Same bank_was bank → AllBegin (image_at bank_was (clock bank_was)) bytes
          → IsFront (after.counted k n) bytes → Fresh k n bank_was bank
      by_reads k n bank_was bank bytes is goes begins front = (
        omega (arith, is),
        omega (arith, is, goes.later),
        subst (λ m. KeepsSince clock image_at bank m (after.counted k n)) (sym is)
            (keeps_same (omega arith) goes (keeps_now clock image_at bank_was (after.counted k n)
            (begins_less (image_at bank_was (clock bank_was)) (after.counted k n) bytes begins front))),
      )

      -- a mark that a save saw: its moment, and what the savepoint counts is what it does
      seen_mark : (k w place : ℕ) (places : List ℕ) (m : Stood) (saved : Saved) → slice_get begun k ≡ Some saved
          → slice_get ran.beside.seen k ≡ Some places → slice_get places w ≡ Some place
          → slice_get (ran_logs.shown w) place ≡ Some m
          → counted_of (after.point (last + 1 + k)) (growing_number old.side w) ≡ m.mark.length
      seen_mark k w place places m saved at told here there =
          let by = ran_logs.placed k saved places at told in
          let one = by.1.each w place here in
          let same : one.0 ≡ m = same_Some one.0 m (sym one.1 ∙ there) in
          let marked : List ℕ = map (λ (x : Mark). x.length) by.0 in
          let beside : Beside = beside_at_save (beside_of old) ran.printed.answers k in
          let over = over_save ran.printed.answers (beside_of old) k
          (over_begin old.side old.counted (length old.store.pages) stood.closed.workers) in
          ap (λ (p : Option Savepoint). counted_of p (growing_number old.side w))
          (point_behind story last begun (front_of new.store) made (last + 1 + k) (omega arith)
          ∙ begun_at story last begun (front_of new.store) made k saved at)
          ∙ ap (λ l. get_or l (growing_number old.side w) 0) by.2.saves.lengths
          ∙ ap (λ s. get_or (lengths_by s marked beside.closed) (growing_number old.side w) 0) over.growing
          ∙ growing_length old.side marked beside.closed w m.mark.length
          (map_there (λ (x : Mark). x.length) by.0 w one.0.mark one.2
          ∙ ap (λ (x : Stood). Some x.mark.length) same)
          (length-map by.0 (λ (x : Mark). x.length) ∙ by.1.workers ∙ sym over.workers)

      growing_fresh : (w k : ℕ) (bank : D) (is : Grew w bank) → w < 8
          → disk_in between (Bank (growing_number old.side w)) ≡ Some bank → last < k → k ≤ high
          → Fresh k (growing_number old.side w) is.bank_was bank
      growing_fresh w k bank is below there behind within =
          by_seen (slice_get ran.beside.seen (k - (last + 1))) refl
        where
          counted_front : IsFront (after.counted k (growing_number old.side w)) (durable w)
          counted_front = (front_at k w behind within below).0

          at_end_of : since k (growing_number old.side w) ≡ clock bank → Fresh k
              (growing_number old.side w) is.bank_was bank
          at_end_of same = by_end k (growing_number old.side w) is.bank_was bank
              (durable w) same is.left.ran.grows.later
              is.left.ran.journal_of.durable.begins counted_front

          same_clock : clock_in (disk_in between (Bank (growing_number old.side w))) ≡ clock bank
          same_clock = ap clock_in there

          by_mark : (places : List ℕ) (place : ℕ) (m : Stood) → slice_get ran.beside.seen (k - (last + 1)) ≡ Some places
              → slice_get places w ≡ Some place → slice_get (ran_logs.shown w) place ≡ Some m
              → since k (growing_number old.side w) ≡ m.since
              → Fresh k (growing_number old.side w) is.bank_was bank
          by_mark places place m told here shown same =
              let saved = item_at begun (k - (last + 1)) (omega (arith, behind, within)) in
              let at : last + 1 + (k - (last + 1)) ≡ k = omega (arith, behind) in
              let size : counted_of (after.point k) (growing_number old.side w) ≡ m.mark.length =
              ap (λ j. counted_of (after.point j) (growing_number old.side w)) (sym at)
              ∙ seen_mark (k - (last + 1)) w place places m saved.0 saved.1 told here shown in
              let stands = among_of (IsShownSince clock image_at (durable w) (clock is.bank_was) bank
              (ran_logs.marks w))
              (ran_logs.shown w) m is.left.since (at_in (ran_logs.shown w) place m shown) in
              let counts : after.counted k (growing_number old.side w) ≡ take m.mark.length (durable w) =
              counted_behind story last begun (front_of new.store) made k (growing_number old.side w) behind
              ∙ ap (λ c. take c (made (growing_number old.side w))) (ap (λ (p : Option Savepoint). counted_of p
              (growing_number old.side w))
              (sym (point_behind story last begun (front_of new.store) made k behind)) ∙ size)
              ∙ ap (take m.mark.length) (side_growing old.side durable closed w) in (
                omega (arith, same, stands.begun),
                omega (arith, same, stands.come),
                subst (λ t. KeepsSince clock image_at bank t (after.counted k (growing_number old.side w))) (sym same)
                    (subst (KeepsSince clock image_at bank m.since) (sym counts) stands.keeps),
              )

          by_place : (places : List ℕ) → slice_get ran.beside.seen (k - (last + 1)) ≡ Some places → (x : Option ℕ)
              → slice_get places w ≡ x → since k (growing_number old.side w) ≡ place_since x w (clock_in
              (disk_in between (Bank (growing_number old.side w))))
              → Fresh k (growing_number old.side w) is.bank_was bank
          by_place places told None here same = at_end_of (same ∙ same_clock)
          by_place places told (Some place) here same = by_stood (slice_get (ran_logs.shown w) place) refl same
            where
              by_stood : (y : Option Stood) → slice_get (ran_logs.shown w) place ≡ y
                  → since k (growing_number old.side w) ≡ stood_since y (clock_in (disk_in between (Bank
                  (growing_number old.side w)))) → Fresh k (growing_number old.side w) is.bank_was bank
              by_stood None shown same = at_end_of (same ∙ same_clock)
              by_stood (Some m) shown same = by_mark places place m told here shown same

          by_seen : (x : Option (List ℕ)) → slice_get ran.beside.seen (k - (last + 1)) ≡ x
              → Fresh k (growing_number old.side w) is.bank_was bank
          by_seen None told = at_end_of (since_growing k w behind
              ∙ ap (λ y. seen_since y w (clock_in (disk_in between (Bank (growing_number old.side w))))) told
              ∙ same_clock)
          by_seen (Some places) told = by_place places told (slice_get places w) refl (since_growing k w behind
              ∙ ap (λ y. seen_since y w (clock_in (disk_in between (Bank (growing_number old.side w))))) told)

      -- what was given is so of the story that goes on
      given_on : (n : ℕ) (bank : D) → disk_in before (Bank n) ≡ Some bank
          → BankSince clock image_at (λ k. after.counted k n) (λ k. since k n) (from.bank n) low last bank
          (HasCut before.cuts.items (Bank n))
      given_on n bank there =
          let was_so = given_so n bank there in
          let same = same_before story last begun (front_of new.store) made in record {
            come = λ k at_least at_most. omega (arith, was_so.come k at_least at_most, since_old k n at_most);
            past = λ k at_least at_most began behind cut less.
                omega (arith, was_so.past k at_least at_most began behind cut less, since_old k n at_most);
            kept = λ k m at_least at_most from_then since_then come uncut.
                subst (AllBegin (image_at bank m)) (sym (same.counted k n at_most))
                (was_so.kept k m at_least at_most from_then (omega
                (arith, since_then, since_old k n at_most)) come uncut);
          }

      since_between : AreSince clock image_at after since from low high (parts_of between)
      since_between n bank there = subst (λ (c : List Cut). BankSince clock image_at (λ k. after.counted k n)
          (λ k. since k n) (from.bank n) low high bank (HasCut c (Bank n))) (sym leaves.files.uncut)
          (elim (numbered old.side n) [
            | inl grows ↦
                let w = grows.0 in
                let here : disk_in between (Bank (growing_number old.side w)) ≡ Some bank =
                subst (λ k. disk_in between (Bank k) ≡ Some bank) grows.1 there in
                let below : w < 8 = growing_below old.side between (before_cuts leaves).whole w bank here in
                let is = grew w bank below here in
                subst (λ j. BankSince clock image_at (λ k. after.counted k j) (λ k. since k j)
                (from.bank j) low high bank
                (HasCut before.cuts.items (Bank j))) (sym grows.1)
                (since_grown (given_on (growing_number old.side w) is.bank_was is.was_there)
                (open_same from (same_before story last begun (front_of new.store) made) (growing_number old.side w)
                (known.growing w is.bank_was below is.was_there)) is.left.ran.grows
                (λ k behind within. growing_fresh w k bank is below here behind within))
            | inr shut ↦
                let w = shut.0 in
                let here : disk_in between (Bank (closed_number old.side w)) ≡ Some bank =
                subst (λ k. disk_in between (Bank k) ≡ Some bank) shut.1 there in
                let below : w < 8 = closed_below old.side between (before_cuts leaves).whole w bank here in
                let bank_was = item_at (closed_in old.side before) w
                (omega (arith, below, closed_many old.side before stood.whole)) in
                let was_there : disk_in before (Bank (closed_number old.side w)) ≡ Some bank_was.0 =
                closed_at old.side before w ∙ bank_was.1 in
                let read = leaves.files.reads w bank_was.0 bank was_there here in
                let was_shut = shut_same from (same_before story last begun (front_of new.store) made)
                (closed_number old.side w) (known.shut w bank_was.0 below was_there) in
                subst (λ j. BankSince clock image_at (λ k. after.counted k j) (λ k. since k j)
                (from.bank j) low high bank
                (HasCut before.cuts.items (Bank j))) (sym shut.1)
                (since_goes_on (given_on (closed_number old.side w) bank_was.0 was_there) was_shut.past was_shut.counts
                (lasts_goes read.moments)
                (λ m past come c image.
                let from_then = read.moments.from m c past come image in
                subst (IsFront (closed w)) from_then.2 (was_shut.now from_then.0 from_then.1))
                (λ k behind within. by_reads k (closed_number old.side w) bank_was.0 bank (closed w)
                (since_closed k w bank_was.0 behind was_there) read.moments was_shut.now
                (front_at k w behind within below).1))
          ])

      since_end : (b : Bool) → comes_to_swap ran ≡ b → AreSince clock image_at after since from low high (parts_of now)
      since_end false is = subst (λ v. AreSince clock image_at after since from low high (parts_of v))
          (sym (leaves.files.left is)) since_between
      since_end true is =
          let cut = swapped (swaps ran) refl is in
          let cuts : CutsDone leaves = leaves.files.cut is in
          let point : after.point high ≡ new.save.newest = ap after.point (sym cut.newest_is) ∙ newest_told.1 in
          let bank_of : (n : ℕ) → Contains (closed_numbers old.side) n
          → (bank : D) × (disk_in between (Bank n) ≡ Some bank) = λ n has.
          let at = numbers_closed old.side n has in
          let bank = item_at (closed_in old.side between) at.0
          (omega (arith, at.1, closed_many old.side between (before_cuts leaves).whole)) in
          (bank.0, ap (λ k. disk_in between (Bank k)) at.2 ∙ closed_at old.side between at.0 ∙ bank.1) in
          cuts_since tells clock image_at faults after since from low high (closed_numbers old.side) cuts.0 between now
          (subst (λ n. CutsBanks tells clock image_at faults n
          (closed_numbers old.side) cuts.0 between now) cut.newest_is
          cuts.2)
          (λ n has. ap is_some (bank_of n has).1)
          (λ n has.
          let at = numbers_closed old.side n has in
          let bank = bank_of n has in
          nil_from_length (after.counted high n) (uncut.told.sized n high bank.0 bank.1 uncut.told.save.ordered
          (omega arith)
          ∙ ap (λ (p : Option Savepoint). counted_of p n) point
          ∙ ap (counted_of new.save.newest) at.2 ∙ leaves.files.nothing is at.0 at.1))
          since_between

      since_left : LeavesSince tells clock image_at after from low last
          (length begun) given ran_logs.shown old.side ran before
          now
      since_left = record {
        since = since;
        same = since_old;
        stood = since_end (comes_to_swap ran) refl;
        marked = λ k w place places m below told here there.
            let saved = item_at begun k below in (
              since_growing (last + 1 + k) w (omega arith)
                  ∙ ap (λ j. seen_since (slice_get ran.beside.seen j) w
                  (clock_in (disk_in between (Bank (growing_number old.side w))))) (place_of k)
                  ∙ ap (λ x. seen_since x w (clock_in (disk_in between (Bank (growing_number old.side w))))) told
                  ∙ ap (λ x. place_since x w (clock_in (disk_in between (Bank (growing_number old.side w))))) here
                  ∙ ap (λ x. stood_since x (clock_in (disk_in between (Bank (growing_number old.side w))))) there,
              seen_mark k w place places m saved.0 saved.1 told here there,
            );
        behind = λ k w bank told there. since_growing (last + 1 + k) w (omega arith)
            ∙ ap (λ j. seen_since (slice_get ran.beside.seen j) w
            (clock_in (disk_in between (Bank (growing_number old.side w))))) (place_of k)
            ∙ ap (λ x. seen_since x w (clock_in (disk_in between (Bank (growing_number old.side w))))) told
            ∙ ap clock_in (sym ((before_cuts leaves).grows w) ∙ there);
        shut = λ k w bank there. since_closed (last + 1 + k) w bank (omega arith) there;
      }
        where
          place_of : (k : ℕ) → (last + 1 + k) - (last + 1) ≡ k
          place_of k = omega arith

    -- what was shown, and since when
    shown_since : (w : ℕ) (bank_was bank : D) → w < 8 → disk_in before (Bank
        (growing_number old.side w)) ≡ Some bank_was
        → disk_in now (Bank (growing_number old.side w)) ≡ Some bank → IsFirstAt (clock bank_was) (ran_logs.shown w)
        × AllByRecursion (IsShownSince clock image_at (durable w) (clock bank_was) bank (ran_logs.marks w))
        (ran_logs.shown w)
    shown_since w bank_was bank below was_there there =
        let log_was = item_at old.logs w (omega (arith, below, stood.workers)) in
        let log = item_at leaves.logs w (omega (arith, below, logs_many leaves)) in
        let epochs = item_at ran.beside.marks w (omega (arith, below, marks_many)) in
        let left = ran_logs.each w log_was.0 log.0 bank_was bank epochs.0 log_was.1 log.1 was_there there epochs.1 in
        (left.first, left.since)

    -- the epochs of what was shown are told
    shown_so : (w : ℕ) (epochs : List (Option ℕ)) → slice_get ran.beside.marks w ≡ Some epochs
        → shown_epochs (ran_logs.shown w) ≡ epochs
    shown_so w epochs at =
        let below : w < 8 = omega (arith, at_below ran.beside.marks w epochs at, marks_many) in
        let log_was = item_at old.logs w (omega (arith, below, stood.workers)) in
        let log = item_at leaves.logs w (omega (arith, below, logs_many leaves)) in
        let bank_was = item_at (growing_in old.side before) w
        (omega (arith, below, growing_many old.side before stood.whole)) in
        let bank = item_at (growing_in old.side between) w
        (omega (arith, below, growing_many old.side between (before_cuts leaves).whole)) in
        (ran_logs.each w log_was.0 log.0 bank_was.0 bank.0 epochs log_was.1 log.1
        (growing_at old.side before w ∙ bank_was.1)
        ((before_cuts leaves).grows w ∙ growing_at old.side between w ∙ bank.1) at).while_run

    -- ---- the next round's begin

    pages_now : (k : ℕ) → low ≤ k → k ≤ high → IsFront (after.pages k) (bytes_of_pages new.store.pages)
    pages_now k at_least at_most = elim (cases_lt last k) [
      | inl later ↦
          let many = count_begun last begun k in
          subst (λ l. IsFront l (bytes_of_pages new.store.pages))
          (sym (pages_behind story last begun (front_of new.store) made k later))
          (some_front many new.store.pages)
      | inr first ↦
          front_then (after.pages k) (bytes_of_pages old.store.pages) (bytes_of_pages new.store.pages)
          (uncut.pages k at_least first)
          (subst (λ l. IsFront (bytes_of_pages old.store.pages) (bytes_of_pages l)) (sym leaves.grows.1)
          (bytes_front old.store.pages leaves.grows.0))
    ]

    abbrev Next : Bool → Type 0
    Next b = KnowsBefore tells clock image_at after from low (since_swap b (λ w. commits w ++ logged w))
        (behind_swap b (λ w. commits w ++ logged w) gone) (since_swap b durable) (behind_swap b durable closed) new now

    -- what is known of the log files that grow now, and of those that are closed now
    abbrev Growing : Side → (ℕ → List ℕ) → Type 0
    Growing side bytes = (w : ℕ) (bank : D) → w < 8 → disk_in now (Bank (growing_number side w)) ≡ Some bank
        → BankOpen clock image_at (λ k. after.counted k (growing_number side w)) (from.bank (growing_number side w)) low
        high bank (HasCut now.cuts.items (Bank (growing_number side w))) (bytes w)

    abbrev Closed : Side → (ℕ → List ℕ) → Type 0
    Closed side bytes = (w : ℕ) (bank : D) → w < 8 → disk_in now (Bank (closed_number side w)) ≡ Some bank
        → BankShut clock image_at (λ k. after.counted k (closed_number side w)) (from.bank (closed_number side w)) low
        high bank (HasCut now.cuts.items (Bank (closed_number side w))) (bytes w)

    side_is : (b : Bool) → swaps ran ≡ b → new.side ≡ cond b (other_side old.side) old.side
    side_is b is = leaves.files.side ∙ ap (λ c. cond c (other_side old.side) old.side) is

    files_by : (comes_to_swap ran ≡ true → swaps ran ≡ true) → (b : Bool) → swaps ran ≡ b
        → Growing new.side (since_swap b durable) × Closed new.side (behind_swap b durable closed)
    files_by done false is =
        let same : now ≡ between = leaves.files.left (not_begun (comes_to_swap ran) (λ comes.
        true_false (sym (done comes) ∙ is))) in
        let side = sym (side_is false is) in (
          subst (λ s. Growing s durable) side (λ w bank below there.
              subst (λ (v : Vault D). BankOpen clock image_at (λ k. after.counted k (growing_number old.side w))
              (from.bank (growing_number old.side w)) low high bank
              (HasCut v.cuts.items (Bank (growing_number old.side w))) (durable w)) (sym same)
              (uncut.growing w bank (ap (λ v. disk_in v (Bank (growing_number old.side w))) (sym same) ∙ there))),
          subst (λ s. Closed s closed) side (λ w bank below there.
              subst (λ (v : Vault D). BankShut clock image_at (λ k. after.counted k (closed_number old.side w))
              (from.bank (closed_number old.side w)) low high bank
              (HasCut v.cuts.items (Bank (closed_number old.side w))) (closed w)) (sym same)
              (uncut.shut w bank (ap (λ v. disk_in v (Bank (closed_number old.side w))) (sym same) ∙ there))),
        )
    files_by done true is =
        let cut = (swapped true is (and_first (comes_to_swap ran) _ is)).done is in
        let side = sym (side_is true is) in (
          subst (λ s. Growing s (λ w. [])) side (λ w bank below there.
              subst (λ n. BankOpen clock image_at (λ k. after.counted k n) (from.bank n) low high bank
              (HasCut now.cuts.items (Bank n)) []) (sym (other_growing old.side w))
              (cut.empty (closed_number old.side w) bank (closed_in_numbers old.side w below)
              (subst (λ n. disk_in now (Bank n) ≡ Some bank) (other_growing old.side w) there))),
          subst (λ s. Closed s durable) side (λ w bank below there.
              let n = growing_number old.side w in
              let here : disk_in now (Bank n) ≡ Some bank =
              subst (λ m. disk_in now (Bank m) ≡ Some bank) (other_closed old.side w) there in
              let apart : Contains (closed_numbers old.side) n → ⊥ = λ has.
              let at = numbers_closed old.side n has in grows_not_closed old.side w at.0 at.2 in
              subst (λ m. BankShut clock image_at (λ k. after.counted k m) (from.bank m) low high bank
              (HasCut now.cuts.items (Bank m)) (durable w)) (sym (other_closed old.side w))
              (shut_of (cut.open_others n bank (durable w) apart
              (uncut.growing w bank (sym ((before_cuts leaves).grows w) ∙ here))))),
        )

    next_by : sequence_of new.save.newest ≡ high → new.store.sound ≡ true
        → (comes_to_swap ran ≡ true → swaps ran ≡ true) → (b : Bool) → swaps ran ≡ b → Next b
    next_by is_high sound done b is =
        let files = files_by done b is in
        let high_is = sym is_high in
        record {
          told = subst (λ h. IsTold clock image_at after from low h (parts_of now)) high_is at_end.told;
          growing = λ w bank below there. subst (λ h. BankOpen clock image_at
              (λ k. after.counted k (growing_number new.side w)) (from.bank (growing_number new.side w)) low h bank
              (HasCut now.cuts.items (Bank (growing_number new.side w))) (since_swap b durable w)) high_is
              (files.0 w bank below there);
          shut = λ w bank below there. subst (λ h. BankShut clock image_at
              (λ k. after.counted k (closed_number new.side w)) (from.bank (closed_number new.side w)) low h bank
              (HasCut now.cuts.items (Bank (closed_number new.side w))) (behind_swap b durable closed w)) high_is
              (files.1 w bank below there);
          newest_is = newest_told.1;
          tells_save = leaves.save_told ∙ known.tells_save;
          tells_snaps = leaves.snaps_told ∙ known.tells_snaps;
          logs = subst (λ c. AreLogs tells clock image_at (since_swap c (λ w. commits w ++ logged w))
              (since_swap c durable) new now) is ran_logs.are_logs;
          files = subst (λ c. AreClosedFiles tells clock image_at (behind_swap c (λ w. commits w ++ logged w) gone)
              (behind_swap c durable closed) new now) is (ran_logs.are_closed done);
          pages = λ k at_least at_most. pages_now k at_least (omega (arith, at_most, is_high));
          pages_durable = uncut.pages_durable sound;
        }

    -- ---- what is left

    crashes_left : LeavesCrashes tells clock image_at story from low commits logged gone was closed begun ran old new
        before now
    crashes_left = record {
      after = after;
      durable = durable;
      same = same_before story last begun (front_of new.store) made;
      goes_on = goes_after story old.save.newest begun (front_of new.store) made;
      rise = leaves.has_stored.rise;
      told = at_end.told;
      stays = at_end.stays;
      instant = at_end.instant;
      keeps = at_end.keeps;
      counts = λ k saved at. uncut.counts k saved (last + 1 + k) at;
      begins = uncut.begins;
      fronts = front_at;
      marks = ran_logs.marks;
      shown = ran_logs.shown;
      shown_are = shown_so;
      moments = shown_since;
      since = λ given given_so. since_left given given_so;
      covers = covers_now;
      next = λ is_high sound done. next_by is_high sound done (swaps ran) refl;
    }

  -- What was known of crashes is known still.
  pub with_crashes : (v : LeavesVault tells clock image_at faults ran logged old new before now)
      × CarriesCrashes tells clock image_at logged (v.stored ++ option_to_list v.failed) ran old new before now
  with_crashes = (leaves, crashes_left)
