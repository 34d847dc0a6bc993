-- What a glean that is asked for by itself leaves: the runtime stands on the devices.
use Rattle.std.proofs.Common.{◌≡◌, ◌∙◌, ◌∷◌, inl, inr, sym, ap, subst, refl, ℕ, List, [], length}
use Rattle.std.proofs.Common.{Bool, true, false, Option, Some, None, arith}
use Rattle.std.specs.Prelude.{◌||◌, is_some, slice_get, Result, Ok, Err}
use Rattle.std.specs.List.{AllByRecursion}
use Rattle.std.proofs.lemmas.Bool.{cases_Bool}
use Rattle.lists.specs.declared.memory.OrMemory.{OrMemory}
use Rattle.lists.specs.declared.memory.OrMemory.TheVariants as or
use Rattle.log_writer.specs.Vault.{disk_in}
use Rattle.outside.specs.declared.device.Device.TheVariants as devices
use Rattle.log_writer.specs.declared.vault.Vault.{Vault}
use Rattle.outside.specs.declared.device.Device.{Device}
use Rattle.script_grammar.specs.declared.lines.KeeperLine.TheVariants as asks
use Rattle.log_writer.specs.Points.{SaveState}
use Rattle.log_writer.specs.Save.{IsStored}
use Rattle.gleaner.specs.declared.gleaning.GleanFault.{GleanFault}
use Rattle.gleaner.specs.declared.gleaning.GleanFault.TheVariants as refusals
use Rattle.gleaner.specs.declared.gleaning.Gleaned.{Gleaned}
use Rattle.gleaner.specs.declared.gleaning.Gleaned.TheVariants.{Empty, Snap}
use Rattle.joint_crashes.specs.Images.{epoch_of}
use Rattle.tx_script.specs.Causes.{some_counted}
use Rattle.worker_logs.specs.Logs.{IsJoined, LogState, log_limit}
use Rattle.worker_logs.specs.Saves.{growing_number}
use Rattle.worker_logs.specs.declared.savepoints.Side.{Side}
use Rattle.round_engine.specs.Gleans.{AnswersGlean, device_of_glean, ended_if, Gleans, GleansAsked}
use Rattle.round_engine.specs.Keeping.{CanKeep, glean_answer, glean_refusal, refusal_beside, RunsKeeper}
use Rattle.round_engine.specs.Standing.{AreClosed, IsMarkBefore, RuntimeState, Standing, StandsOn}
use Rattle.round_engine.proofs.GleanLine.{glean_line}
use Rattle.round_engine.proofs.KeeperSteps.{closed_still, whole_of}
use Rattle.round_engine.proofs.LogsStanding.{stand_keeper}
use Rattle.round_engine.proofs.Numbered.{closed_many, growing_at}
use Rattle.round_engine.proofs.Places.{or_parts}

-- what a glean needs of a runtime that stands
pub asked_ready : {D : Type 0} {tells : D → Option (List ℕ)} {clock : D → ℕ} {image_at : D → ℕ → List ℕ → Type 0}
    {r : RuntimeState} {vault : Vault D} → StandsOn tells clock image_at r vault → r.down ≡ false
    → CanKeep tells clock image_at r vault
asked_ready {r = r} {vault = vault} s is =
    let up = s.up is in
    record {
      files = closed_many r.side vault s.whole;
      workers = s.workers;
      up = up.save;
      stored = s.stored up.save;
      closed = s.closed;
      most_pages = s.most_pages;
      sound = up.store;
      snapshot = s.snapshot up.store;
      durable = s.durable;
    }

module _ {D : Type 0} (tells : D → Option (List ℕ)) (clock : D → ℕ) (image_at : D → ℕ → List ℕ → Type 0) (faults : D → ℕ)
    (old new : RuntimeState) (before now : Vault D) where
  -- where no device failed the pages are sound
  still_sound : (result : Result Gleaned (OrMemory GleanFault)) → is_some (device_of_glean result) ≡ false
      → AnswersGlean tells clock image_at faults old new before now result → old.store.sound ≡ true
      → new.store.sound ≡ true
  still_sound (Ok Empty) fine answers up = absurd answers
  still_sound (Ok (Snap epoch count)) fine answers up = answers.1.sound
  still_sound (Err (or.Fault (refusals.Device device))) fine answers up = absurd (let no = fine in cc)
  still_sound (Err (or.Fault (refusals.Damaged device at))) fine answers up = ap (λ s. s.sound) answers.1.store ∙ up
  still_sound (Err (or.Fault refusals.Deep)) fine answers up = ap (λ s. s.sound) answers.1.store ∙ up
  still_sound (Err (or.Fault (refusals.Limit have count room))) fine answers up =
      ap (λ s. s.sound) answers.4.store ∙ up
  still_sound (Err or.Memory) fine answers up = ap (λ s. s.sound) answers.store ∙ up

module _ {D : Type 0} {tells : D → Option (List ℕ)} {clock : D → ℕ} {image_at : D → ℕ → List ℕ → Type 0} {faults : D → ℕ}
    {old new : RuntimeState} {before now : Vault D} (result : Result Gleaned (OrMemory GleanFault)) (beside : Option Device)
    (stands : StandsOn tells clock image_at old before)
    (up : old.down ≡ false) (gleans : Gleans tells clock image_at faults old new before now result beside) where
  ready : CanKeep tells clock image_at old before
  ready = asked_ready stands up

  runs : RunsKeeper tells clock image_at faults [] (asks.Glean ∷ []) (glean_answer result ∷ [])
      (refusal_beside beside (glean_refusal result)) old new before now
  runs = glean_line faults old before ready (glean_answer result) (refusal_beside beside (glean_refusal result))
      (record { result = result; beside = beside; gleans = gleans; answer_is = refl; refusal_is = refl })

  sound_now : is_some (device_of_glean result) ≡ false → new.store.sound ≡ true
  sound_now fine = elim (cases_Bool (some_counted old.counted)) [
    | inl counted ↦ still_sound tells clock image_at faults old new before now result fine (gleans.answers counted) ready.sound
    | inr none ↦ ap (λ s. s.sound) (gleans.none none).1.store ∙ ready.sound
  ]

  clock_is : new.stands.clock.epoch ≡ old.stands.clock.epoch
  clock_is = ap (λ (s : Standing). s.clock.epoch) gleans.alone.stands

  closed : AreClosed new
  closed = closed_still old new (glean_answer result ∷ []) stands.closed runs.leaves.counted runs.leaves.closed_at
      runs.later

  reach : (worker : ℕ) (bank : D)
      → disk_in now (devices.Bank (growing_number new.side worker)) ≡ Some bank
      → disk_in before (devices.Bank (growing_number old.side worker)) ≡ Some bank
  reach worker bank at =
      growing_at old.side before worker ∙ ap (λ files. slice_get files worker) (sym gleans.over.growing)
      ∙ sym (growing_at old.side now worker)
      ∙ ap (λ (side : Side). disk_in now (devices.Bank (growing_number side worker))) (sym gleans.alone.side) ∙ at

  -- behind a glean the runtime stands, which a failed device ended
  pub still_stands : (failed : Bool) → failed ≡ (is_some (device_of_glean result) || is_some beside)
      → StandsOn tells clock image_at (ended_if failed new) now
  still_stands failed is = record {
    whole = whole_of old.side before now stands.whole (ap length gleans.over.growing) gleans.over.many;
    workers = ap length gleans.alone.logs ∙ stands.workers;
    limits = subst (AllByRecursion (λ (log : LogState). log.journal.limit ≡ log_limit)) (sym gleans.alone.logs)
        stands.limits;
    above = omega (arith, stands.above, clock_is, ap (λ (s : SaveState). epoch_of s.newest) gleans.alone.save);
    marked = subst (λ epoch. AllByRecursion (λ (log : LogState). IsMarkBefore epoch log.mark.epoch) new.logs) (sym clock_is)
        (subst (AllByRecursion (λ (log : LogState). IsMarkBefore old.stands.clock.epoch log.mark.epoch))
        (sym gleans.alone.logs) stands.marked);
    closed = record { workers = closed.workers; counted = closed.counted; before = closed.before };
    most_pages = omega (arith, stands.most_pages, gleans.alone.room);
    up = λ fine.
        let parts = or_parts new.down failed fine in
        let was = stands.up (sym gleans.alone.down ∙ parts.0) in
        record {
          save = ap (λ (s : SaveState). s.down) gleans.alone.save ∙ was.save;
          store = sound_now (or_parts (is_some (device_of_glean result)) (is_some beside) (sym is ∙ parts.1)).0;
          logs = subst (AllByRecursion (λ (log : LogState). log.journal.down ≡ None)) (sym gleans.alone.logs) was.logs;
        };
    goes_on = λ fine.
        let parts = or_parts new.stands.ended failed fine in
        let was = stands.goes_on (sym (ap (λ (s : Standing). s.ended) gleans.alone.stands) ∙ parts.0) in
        record {
          up = ap (λ b. b || failed) (gleans.alone.down ∙ was.up) ∙ parts.1;
          logs = subst (λ epoch. AllByRecursion (IsJoined epoch) new.logs) (sym clock_is)
              (subst (AllByRecursion (IsJoined old.stands.clock.epoch)) (sym gleans.alone.logs) was.logs);
        };
    stored = λ fine.
        subst (λ (s : SaveState). IsStored tells clock image_at now.save s.newest) (sym gleans.alone.save)
        (subst (λ disk. IsStored tells clock image_at disk old.save.newest) (sym gleans.save)
        (stands.stored (sym (ap (λ (s : SaveState). s.down) gleans.alone.save) ∙ fine)));
    snapshot = λ fine.
        let has = runs.leaves.snapshot (λ was. stands.snapshot was) fine in
        record {
          holds = has.holds;
          contents = has.contents;
          stands = has.stands;
          decls = has.decls;
          up_to = has.up_to;
          earlier = has.earlier;
          let_in = has.let_in;
          published = has.published;
        };
    reaches = λ worker log bank at there.
        stands.reaches worker log bank (ap (λ logs. slice_get logs worker) (sym gleans.alone.logs) ∙ at)
        (reach worker bank there);
    durable = λ always. stand_keeper runs stands.closed.workers (stands.durable always);
  }

  pub glean_asked : (failed : Bool) (r : RuntimeState)
      → failed ≡ (is_some (device_of_glean result) || is_some beside)
      → r ≡ ended_if failed new → GleansAsked tells clock image_at faults old r before now result beside
  glean_asked failed r is at = record {
    gleaned = new;
    gleans = gleans;
    new_is = at ∙ ap (λ b. ended_if b new) is;
    stands = subst (λ x. StandsOn tells clock image_at x now) (sym at) (still_stands failed is);
  }
