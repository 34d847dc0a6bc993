-- Crashes of all devices, as a glean that is asked for by itself leaves them.
use Rattle.std.proofs.Common.{◌≡◌, ◌∙◌, ◌≤◌, ◌<◌, ◌+◌, ◌++◌, ◌∷◌, ◌⊎◌, inl, inr, sym, ap, subst, refl, ℕ, zero, suc}
use Rattle.std.proofs.Common.{List, [], length, Bool, true, false, Option, Some, None, arith}
use Rattle.std.specs.Prelude.{is_some, map, option_to_list, replicate, slice_get, Result, Ok, Err}
use Rattle.std.proofs.lemmas.Option.{same_Some}
use Rattle.lists.specs.Elements.{at_below}
use Rattle.lists.specs.Fronts.{front_then, IsFront}
use Rattle.lists.specs.declared.memory.OrMemory.{OrMemory}
use Rattle.lists.specs.declared.memory.OrMemory.TheVariants as or
use Rattle.outside.specs.Fronts.{AllBegin}
use Rattle.outside.specs.Reads.{OnlyReads}
use Rattle.log_writer.specs.Vault.{disk_in}
use Rattle.log_writer.specs.declared.records.Cut.{Cut}
use Rattle.outside.specs.declared.device.Device.TheVariants.{Bank}
use Rattle.log_writer.specs.declared.vault.Vault.{Vault}
use Rattle.outside.specs.declared.device.Device.{Device}
use Rattle.script_grammar.specs.declared.lines.KeeperLine.TheVariants as asks
use Rattle.serial_model.specs.declared.number.Commit.{Commit}
use Rattle.log_writer.specs.Points.{SaveState, sequence_of}
use Rattle.log_writer.specs.declared.saved.Saved.{Saved}
use Rattle.snapshot_store.specs.Store.{bytes_of_pages}
use Rattle.gleaner.specs.declared.gleaning.GleanFault.{GleanFault}
use Rattle.gleaner.specs.declared.gleaning.GleanFault.TheVariants as refusals
use Rattle.gleaner.specs.declared.gleaning.Gleaned.{Gleaned}
use Rattle.gleaner.specs.declared.gleaning.Gleaned.TheVariants.{Empty, Snap}
use Rattle.joint_crashes.specs.JointCrash.{CrashesNow, HasCut, KeepsCrashes, Moments, Parts, parts_of}
use Rattle.joint_crashes.specs.Rounds.{KeeperRan}
use Rattle.joint_crashes.specs.Story.{BankOpen, BankReady, BankTold, IsTold, Lasts, Story}
use Rattle.joint_crashes.specs.Crashes.Instants.{keeps_by, lasts_goes, lasts_none, open_ready}
use Rattle.joint_crashes.specs.Crashes.ToldSteps.{parts}
use Rattle.worker_logs.specs.Saves.{closed_number, growing_number}
use Rattle.round_engine.specs.Crashes.{BankShut, front_of, KnowsBefore}
use Rattle.round_engine.specs.GleanStops.{CarriesKnown}
use Rattle.round_engine.specs.Gleans.{ended_if, Gleans}
use Rattle.round_engine.specs.Keeping.{glean_answer, glean_refusal, refusal_beside, RunsKeeper}
use Rattle.round_engine.specs.Logs.{AreClosedFiles}
use Rattle.round_engine.specs.Saves.{beside_at_end, GoesOnWith, saves_told}
use Rattle.round_engine.specs.Sides.{closed_in, growing_in}
use Rattle.round_engine.specs.Standing.{beside_of, RuntimeState, StandsOn}
use Rattle.round_engine.proofs.BanksShut.{shut_reads, shut_ready}
use Rattle.round_engine.proofs.GleanAsked.{asked_ready}
use Rattle.round_engine.proofs.GleanLine.{glean_line}
use Rattle.round_engine.proofs.Keeping.{bytes_front}
use Rattle.round_engine.proofs.Numbered.{closed_at, closed_many, growing_at, growing_many, numbered}
use Rattle.round_engine.proofs.StopsNow.{known_now}
use Rattle.round_engine.proofs.Places.{item_at}

-- ---- what a glean's answer tells

-- it tells no save
none_told : (result : Result Gleaned (OrMemory GleanFault)) → saves_told (glean_answer result ∷ []) ≡ []
none_told (Ok Empty) = refl
none_told (Ok (Snap epoch count)) = refl
none_told (Err (or.Fault (refusals.Device device))) = refl
none_told (Err (or.Fault (refusals.Damaged device at))) = refl
none_told (Err (or.Fault refusals.Deep)) = refl
none_told (Err (or.Fault (refusals.Limit have count room))) = refl
none_told (Err or.Memory) = refl

-- what counts of the closed log files behind it is what counted before, or nothing
counted_by : (r : RuntimeState) (result : Result Gleaned (OrMemory GleanFault))
    → ((beside_at_end (beside_of r) (glean_answer result ∷ [])).closed ≡ r.counted)
    ⊎ ((beside_at_end (beside_of r) (glean_answer result ∷ [])).closed ≡ replicate 8 0)
counted_by r (Ok Empty) = inl refl
counted_by r (Ok (Snap epoch count)) = inr refl
counted_by r (Err (or.Fault (refusals.Device device))) = inl refl
counted_by r (Err (or.Fault (refusals.Damaged device at))) = inl refl
counted_by r (Err (or.Fault refusals.Deep)) = inl refl
counted_by r (Err (or.Fault (refusals.Limit have count room))) = inl refl
counted_by r (Err or.Memory) = inl refl

-- ---- lists

zeros_at : (n w c : ℕ) → slice_get (replicate n 0) w ≡ Some c → c ≡ 0
zeros_at zero w c at = absurd cc
zeros_at (suc n) zero c at = sym (same_Some 0 c at)
zeros_at (suc n) (suc w) c at = zeros_at n w c at

none_mapped : (stored : List Saved) → map (λ (s : Saved). s.epoch) stored ≡ [] → stored ≡ []
none_mapped [] none = refl
none_mapped (s ∷ more) none = absurd cc

none_there : (failed : Option Saved) → is_some failed ≡ false → failed ≡ None
none_there None is = refl
none_there (Some saved) is = absurd (let no = is in cc)

module _ {D : Type 0} {tells : D → Option (List ℕ)} {clock : D → ℕ} {image_at : D → ℕ → List ℕ → Type 0} where
  -- what is known speaks of these parts of a runtime alone
  known_as : {story : Story} {from : Moments} {low : ℕ} {commits gone : ℕ → List Commit} {durable closed : ℕ → List ℕ}
      (a b : RuntimeState) (vault : Vault D) → b.save ≡ a.save → b.store ≡ a.store → b.side ≡ a.side
      → b.counted ≡ a.counted → b.logs ≡ a.logs
      → KnowsBefore tells clock image_at story from low commits gone durable closed a vault
      → KnowsBefore tells clock image_at story from low commits gone durable closed b vault
  known_as {story = story} {from = from} {low = low} {commits = commits} {gone = gone} {durable = durable}
      {closed = closed} a b vault save store side counted logs known =
      let k = subst (λ (x : RuntimeState). KnowsBefore tells clock image_at story from low commits gone durable closed x vault)
      same known in
      record {
        told = k.told;
        growing = k.growing;
        shut = k.shut;
        newest_is = k.newest_is;
        tells_save = k.tells_save;
        tells_snaps = k.tells_snaps;
        logs = k.logs;
        files = k.files;
        pages = k.pages;
        pages_durable = k.pages_durable;
      }
    where
      same : a ≡ record b {
        stands = a.stands;
        room = a.room;
        closed_at = a.closed_at;
        down = a.down;
      }
      same =
          ap (λ x. record a { save = x }) (sym save) ∙ ap (λ x. record a { save = b.save; store = x }) (sym store)
          ∙ ap (λ x. record a { save = b.save; store = b.store; side = x }) (sym side)
          ∙ ap (λ x. record a { save = b.save; store = b.store; side = b.side; counted = x }) (sym counted)
          ∙ ap (λ x. record a { save = b.save; store = b.store; side = b.side; counted = b.counted; logs = x }) (sym logs)

-- ---- the glean

module _ {D : Type 0} {tells : D → Option (List ℕ)} {clock : D → ℕ} {image_at : D → ℕ → List ℕ → Type 0} {faults : D → ℕ}
    {old new : RuntimeState} {before now : Vault D} (result : Result Gleaned (OrMemory GleanFault))
    (beside : Option Device) (stands : StandsOn tells clock image_at old before) (up : old.down ≡ false)
    (gleans : Gleans tells clock image_at faults old new before now result beside) where
  runs : RunsKeeper tells clock image_at faults [] (asks.Glean ∷ []) (glean_answer result ∷ [])
      (refusal_beside beside (glean_refusal result)) old new before now
  runs = glean_line faults old before (asked_ready stands up) (glean_answer result)
      (refusal_beside beside (glean_refusal result)) (record {
        result = result;
        beside = beside;
        gleans = gleans;
        answer_is = refl;
        refusal_is = refl;
      })

  abbrev last : ℕ
  last = sequence_of old.save.newest

  -- nothing was stored
  none_begun : runs.stored ++ option_to_list runs.failed ≡ []
  none_begun =
      let none = none_mapped runs.stored (runs.told ∙ none_told result) in
      let fine : is_some runs.failed ≡ false =
      sym runs.keeps.down ∙ ap (λ (s : SaveState). is_some s.down) gleans.alone.save
      ∙ ap is_some (asked_ready stands up).up in
      ap (λ l. l ++ option_to_list runs.failed) none ∙ ap option_to_list (none_there runs.failed fine)

  same_high : last + length (runs.stored ++ option_to_list runs.failed) ≡ last
  same_high = omega (arith, ap length none_begun)

  module _ (story : Story) (from : Moments) (low : ℕ) (commits gone : ℕ → List Commit) (durable closed : ℕ → List ℕ)
      (known : KnowsBefore tells clock image_at story from low commits gone durable closed old before) where
    -- ---- the save and the snapshots

    goes : GoesOnWith story old.save.newest (front_of new.store) (runs.stored ++ option_to_list runs.failed)
    goes = subst (GoesOnWith story old.save.newest (front_of new.store)) (sym none_begun)
        (record { point = λ k saved at. absurd cc; pages = λ k saved at. absurd cc })

    abbrev Kept : Type 0
    Kept = KeeperRan clock image_at story from low last (last + length (runs.stored ++ option_to_list runs.failed))
        before.save now.save before.snaps now.snaps before.ties.items now.ties.items
        × (new.store.sound ≡ true → AllBegin (image_at now.snaps (clock now.snaps)) (bytes_of_pages new.store.pages))

    kept : Kept
    kept = runs.keeps.keeper story from low (front_of new.store) known.tells_save known.tells_snaps goes
        (λ n within. refl) known.newest_is known.pages known.pages_durable known.told.save known.told.snaps

    keeper : KeeperRan clock image_at story from low last last before.save now.save before.snaps now.snaps
        before.ties.items now.ties.items
    keeper = subst (λ n. KeeperRan clock image_at story from low last n before.save now.save before.snaps now.snaps
        before.ties.items now.ties.items) same_high kept.0

    -- ---- the log files

    growing_same : (w : ℕ) → disk_in now (Bank (growing_number old.side w))
        ≡ disk_in before (Bank (growing_number old.side w))
    growing_same w = growing_at old.side now w ∙ ap (λ l. slice_get l w) gleans.over.growing
        ∙ sym (growing_at old.side before w)

    growing_below : (w : ℕ) (bank : D) → disk_in now (Bank (growing_number old.side w)) ≡ Some bank → w < 8
    growing_below w bank there =
        let within = at_below (growing_in old.side before) w bank
        (sym (growing_at old.side before w) ∙ sym (growing_same w) ∙ there) in
        omega (arith, within, growing_many old.side before stands.whole)

    closed_below : (w : ℕ) (bank : D) → disk_in now (Bank (closed_number old.side w)) ≡ Some bank → w < 8
    closed_below w bank there =
        let within = at_below (closed_in old.side now) w bank (sym (closed_at old.side now w) ∙ there) in
        omega (arith, within, gleans.over.many, closed_many old.side before stands.whole)

    -- a closed log file
    record Shut (w : ℕ) (bank : D) : Type 0 where
      was_bank : D
      was_there : disk_in before (Bank (closed_number old.side w)) ≡ Some was_bank
      read : OnlyReads tells clock image_at faults was_bank bank
      told : BankTold clock image_at (λ k. story.counted k (closed_number old.side w))
          (from.bank (closed_number old.side w)) low last bank
          (HasCut before.cuts.items (Bank (closed_number old.side w)))
      shut : BankShut clock image_at (λ k. story.counted k (closed_number old.side w))
          (from.bank (closed_number old.side w)) low last bank
          (HasCut before.cuts.items (Bank (closed_number old.side w))) (closed w)

    still_shut : (w : ℕ) (bank : D) → w < 8 → disk_in now (Bank (closed_number old.side w)) ≡ Some bank → Shut w bank
    still_shut w bank below there =
        let was = item_at (closed_in old.side before) w
        (omega (arith, below, closed_many old.side before stands.whole)) in
        let was_there : disk_in before (Bank (closed_number old.side w)) ≡ Some was.0 =
        closed_at old.side before w ∙ was.1 in
        let read = gleans.over.reads w was.0 bank was.1 (sym (closed_at old.side now w) ∙ there) in
        let both = shut_reads tells faults (known.told.bank (closed_number old.side w) was.0 was_there)
        (known.shut w was.0 below was_there) read in
        record {
          was_bank = was.0;
          was_there = was_there;
          read = read;
          told = both.0;
          shut = both.1;
        }

    -- each of both
    record OfFile (n : ℕ) (bank : D) : Type 0 where
      was_bank : D
      was_there : disk_in before (Bank n) ≡ Some was_bank
      lasts : Lasts clock image_at was_bank bank
      told : BankTold clock image_at (λ k. story.counted k n) (from.bank n) low last bank
          (HasCut before.cuts.items (Bank n))
      ready : (k : ℕ) → low ≤ k → k ≤ last
          → ((began since : ℕ) → HasCut before.cuts.items (Bank n) began since → since ≤ k)
          → BankReady clock image_at (λ j. story.counted j n) k bank (HasCut before.cuts.items (Bank n))

    of_file : (n : ℕ) (bank : D) → disk_in now (Bank n) ≡ Some bank → OfFile n bank
    of_file n bank there = elim (numbered old.side n) [
      | inl growing ↦
          let here = subst (λ k. disk_in now (Bank k) ≡ Some bank) growing.1 there in
          let below = growing_below growing.0 bank here in
          let was_there = sym (growing_same growing.0) ∙ here in
          subst (λ k. OfFile k bank) (sym growing.1) (record {
            was_bank = bank;
            was_there = was_there;
            lasts = lasts_none;
            told = known.told.bank (growing_number old.side growing.0) bank was_there;
            ready = λ k at_least at_most older.
                open_ready (known.growing growing.0 bank below was_there) at_least at_most older;
          })
      | inr shut ↦
          let here = subst (λ k. disk_in now (Bank k) ≡ Some bank) shut.1 there in
          let is = still_shut shut.0 bank (closed_below shut.0 bank here) here in
          subst (λ k. OfFile k bank) (sym shut.1) (record {
            was_bank = is.was_bank;
            was_there = is.was_there;
            lasts = lasts_goes is.read.moments;
            told = is.told;
            ready = λ k at_least at_most older. shut_ready is.shut at_least at_most older;
          })
    ]

    -- ---- all devices

    abbrev mid : Parts D
    mid = parts now.save now.snaps (λ n. disk_in now (Bank n)) now.ties.items before.cuts.items

    mid_is : mid ≡ parts_of now
    mid_is = ap (λ (c : List Cut). parts now.save now.snaps (λ n. disk_in now (Bank n)) now.ties.items c)
        (sym gleans.over.cuts)

    told_mid : IsTold clock image_at story from low last mid
    told_mid = record {
      save = keeper.save_told;
      snaps = keeper.snaps_told;
      bank = λ n bank there. (of_file n bank there).told;
      sized = λ n k bank there at_least at_most.
          let file = of_file n bank there in known.told.sized n k file.was_bank file.was_there at_least at_most;
      older = known.told.older;
      allowed = λ n began since cut. elim (known.told.allowed n began since cut) [
        | inl first ↦ inl first
        | inr tied ↦ inr (tied.0, tied.1, keeper.keeps tied.0 tied.2, tied.3, tied.4)
      ];
    }

    told_now : IsTold clock image_at story from low last (parts_of now)
    told_now = subst (IsTold clock image_at story from low last) mid_is told_mid

    instant_now : CrashesNow clock image_at (parts_of now)
    instant_now = subst (CrashesNow clock image_at) mid_is
        (known_now story from low last mid told_mid (λ n bank there. (of_file n bank there).ready))

    keeps_now : KeepsCrashes clock image_at from (parts_of before) (parts_of now)
    keeps_now = subst (KeepsCrashes clock image_at from (parts_of before)) mid_is
        (keeps_by {s = last} {old = parts_of before} {new = mid} known.told keeper.save_lasts keeper.snaps_lasts
        (λ n bank there. let file = of_file n bank there in (file.was_bank, file.was_there, file.lasts)) keeper.adds
        (λ n bank there began since cut. inl cut))

    -- ---- as the next call begins

    -- what is behind the glean, in the old one's other parts
    abbrev behind : RuntimeState
    behind = record old { store = new.store; counted = new.counted }

    counts_so : (w n was : ℕ) → slice_get new.counted w ≡ Some n → slice_get old.counted w ≡ Some was
        → (was ≡ 0) ⊎ (was ≡ length (closed w)) → (n ≡ 0) ⊎ (n ≡ length (closed w))
    counts_so w n was at was_at counts = elim (counted_by old result) [
      | inl same ↦
          let is : was ≡ n = same_Some was n (sym was_at
          ∙ ap (λ l. slice_get l w) (sym same ∙ sym runs.leaves.counted) ∙ at) in
          subst (λ k. (k ≡ 0) ⊎ (k ≡ length (closed w))) is counts
      | inr none ↦ inl (zeros_at 8 w n (sym (ap (λ l. slice_get l w) (runs.leaves.counted ∙ none)) ∙ at))
    ]

    files_now : AreClosedFiles tells clock image_at gone closed behind now
    files_now w n bank at there =
        let below = closed_below w bank there in
        let is = still_shut w bank below there in
        let was = item_at old.counted w (omega (arith, below, stands.closed.workers)) in
        let file = known.files w was.0 is.was_bank was.1 is.was_there in
        record {
          lines = file.lines;
          begins = is.shut.now;
          told = (file.told.0, is.read.told ∙ file.told.1, file.told.2);
          counts = counts_so w n was.0 at was.1 file.counts;
        }

    pages_now : (k : ℕ) → low ≤ k → k ≤ last → IsFront (story.pages k) (bytes_of_pages new.store.pages)
    pages_now k at_least at_most = front_then (story.pages k) (bytes_of_pages old.store.pages)
        (bytes_of_pages new.store.pages) (known.pages k at_least at_most)
        (subst (λ ps. IsFront (bytes_of_pages old.store.pages) (bytes_of_pages ps)) (sym gleans.grows.1)
        (bytes_front old.store.pages gleans.grows.0))

    behind_known : new.store.sound ≡ true
        → KnowsBefore tells clock image_at story from low commits gone durable closed behind now
    behind_known sound = record {
      told = told_now;
      growing = λ w bank below there. subst (λ (c : List Cut). BankOpen clock image_at
          (λ k. story.counted k (growing_number old.side w)) (from.bank (growing_number old.side w)) low last bank
          (HasCut c (Bank (growing_number old.side w))) (durable w)) (sym gleans.over.cuts)
          (known.growing w bank below (sym (growing_same w) ∙ there));
      shut = λ w bank below there. subst (λ (c : List Cut). BankShut clock image_at
          (λ k. story.counted k (closed_number old.side w)) (from.bank (closed_number old.side w)) low last bank
          (HasCut c (Bank (closed_number old.side w))) (closed w)) (sym gleans.over.cuts)
          (still_shut w bank below there).shut;
      newest_is = known.newest_is;
      tells_save = runs.keeps.told ∙ known.tells_save;
      tells_snaps = runs.keeps.snaps_told ∙ known.tells_snaps;
      logs = λ w log bank at there. known.logs w log bank at (sym (growing_same w) ∙ there);
      files = files_now;
      pages = pages_now;
      pages_durable = kept.1 sound;
    }

  -- so it is of the runtime that is left, which a failed device ended
  pub glean_carries : (failed : Bool) (r : RuntimeState) → r ≡ ended_if failed new
      → CarriesKnown tells clock image_at old r before now
  glean_carries failed r is story from low commits gone durable closed known = record {
    told = told_now story from low commits gone durable closed known;
    instant = instant_now story from low commits gone durable closed known;
    keeps = keeps_now story from low commits gone durable closed known;
    next = λ sound. known_as (behind story from low commits gone durable closed known) r now
        (ap (λ (x : RuntimeState). x.save) is ∙ gleans.alone.save) (ap (λ (x : RuntimeState). x.store) is)
        (ap (λ (x : RuntimeState). x.side) is ∙ gleans.alone.side) (ap (λ (x : RuntimeState). x.counted) is)
        (ap (λ (x : RuntimeState). x.logs) is ∙ gleans.alone.logs)
        (behind_known story from low commits gone durable closed known
        (sym (ap (λ (x : RuntimeState). x.store.sound) is) ∙ sound));
  }
