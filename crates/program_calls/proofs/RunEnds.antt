-- How a run ends, from what was run so far: what is kept then, and what the next call may begin on.
use Rattle.std.proofs.Common.{◌≡◌, inl, inr, ◌∙◌, sym, subst, refl, ◌≤◌, ℕ, false, true, List, [], ◌∷◌, ◌++◌, length, Option}
use Rattle.std.proofs.Common.{ap, Some, None, Err, arith}
use Rattle.std.specs.Prelude.{option_to_list, slice_get, IsSome, take}
use Rattle.std.specs.List.{AllByRecursion}
use Rattle.lists.specs.Each.{all_push}
use Rattle.lists.specs.declared.memory.Memory.{Memory}
use Rattle.outside.specs.Disk.{IfTold, Only}
use Rattle.log_writer.specs.Vault.{IsWhole}
use Rattle.log_writer.specs.declared.vault.Vault.{Vault}
use Rattle.serial_model.specs.History.{Entry, as_of}
use Rattle.serial_model.specs.State.{State}
use Rattle.serial_model.specs.declared.decl.Decl.{Decl}
use Rattle.script_grammar.specs.Script.{Bytes, Round, Script}
use Rattle.joint_crashes.specs.Images.{Images, count_of}
use Rattle.joint_crashes.specs.JointCrash.{Parts, parts_of}
use Rattle.recovery_core.specs.Recoverable.{IsRecoverable, Reading}
use Rattle.joint_crashes.specs.Resting.{AreTold}
use Rattle.joint_crashes.specs.VaultReads.{whole_read}
use Rattle.tx_script.specs.Run.{Ran}
use Rattle.round_engine.specs.Crashes.{CarriesCrashes}
use Rattle.round_engine.specs.Ends.{end_of}
use Rattle.round_engine.specs.RanRound.{AreFailed, LeavesLinesOut, LeavesVault, RanRound, Rounds}
use Rattle.round_engine.specs.Standing.{RuntimeState, StandsOn}
use Rattle.round_engine.specs.Unbegun.{IsUnbegun}
use Rattle.round_engine.specs.declared.report.End.{End}
use Rattle.round_engine.specs.declared.report.End.TheVariants as ends
use Rattle.round_engine.specs.declared.report.Report.{Report}
use Rattle.program_calls.specs.Beginning.{Opening, SameDecls}
use Rattle.program_calls.specs.declared.ending.Ending.{Ending}
use Rattle.program_calls.specs.declared.ending.Ending.TheVariants.{Finished, NoMemory}
use Rattle.program_calls.specs.Ending.{RunGoesOn, RanOn, RunComes, devices_in, status_of}
use Rattle.program_calls.specs.RoundCauses.{AreFull, IsDurable, IsUndamaged}
use Rattle.program_calls.specs.RunKept.{HasDeclared, HasEachSnapshot, IsSound, StandsThrough, last_saved}
use Rattle.program_calls.specs.RunKept.{StandsThroughReads, StandsWhenStopped}
use Rattle.program_calls.specs.Snapshots.{EachSnapshot, HasContent}
use Rattle.program_calls.specs.Causes.{IsReadStatus, ReadsDamage, RestsAgain}
use Rattle.program_calls.specs.OnTheWay.{EndsBefore, RunsRounds, ending_of}
use Rattle.program_calls.specs.RanOver.{RunsOverFiles, files_before, EndsDurable, IsUnbroken, KeepsPages}
use Rattle.program_calls.specs.EndLaws.{EndTells, end_tells, goes_on_quiet}
use Rattle.program_calls.proofs.KeptOver.{files_from, log_of_parts}
use Rattle.program_calls.proofs.StandsStill.{none_over, nothing_come}
use Rattle.program_calls.proofs.CrashesKept.{CrashesKept, crash_covered, crash_leaves, rests_kept}
use Rattle.program_calls.proofs.CrashesRead.{crashes_read}
use Rattle.program_calls.proofs.KeptAll.{IsLasting, kept_all}
use Rattle.program_calls.proofs.KeptEnd.{StandsBehind, kept_at_end}
use Rattle.program_calls.proofs.SameVault.{crashes_room, parts_room, quiet_room, whole_room}
use Rattle.program_calls.proofs.SnapshotsKept.{each_told}
use Rattle.program_calls.proofs.KeptThrough.{one_kept, storages_kept}
use Rattle.program_calls.proofs.SameRun.{as_of_same}
use Rattle.program_calls.proofs.VaultsLater.{devices_in-push, failed_none, none_failed_in, quiet_failed, quiet_two}
use Rattle.program_calls.proofs.OneRound.{all_none_full, all_undamaged, none_damaged}
use Rattle.program_calls.proofs.SoFar.{BeginsAt, CrashesBehind, at_now, RanSoFar, RanOneMore, one_more, no_run}
use Rattle.std.proofs.lemmas.List.{length-take, length-map}
use Rattle.std.proofs.Math.Seq.{take-length}
use Rattle.lists.specs.Fronts.{IsFront, front_take}
use Rattle.wire_form.specs.declared.page.Page.{Page}
use Rattle.snapshot_store.specs.Content.{words_of}
use Rattle.recovery_core.specs.RecoverableLaws.{one_reading}

-- ---- ends

-- how the run would have ended after a round within whose text the sink failed
abbrev pub ending_after : Option End → Ending
ending_after None = NoMemory
ending_after (Some e) = ending_of e

-- a run that a round ended didn't finish
not_finished : (e : End) → ending_of e ≡ Finished → ⊥
not_finished (ends.Device device) is = cc
not_finished (ends.Damaged device at) is = cc
not_finished (ends.Limit name number) is = cc
not_finished ends.Memory is = cc

-- the words of pages are as many
words_many : (pages : List Page) → length (words_of pages) ≡ length pages
words_many pages = length-map pages (λ (p : Page). p.words)

-- the last of a list
last_same : {X : Type 0} (xs ys : List X) (x y : X) → xs ++ x ∷ [] ≡ ys ++ y ∷ [] → x ≡ y
last_same [] [] x y is = cc
last_same [] (b ∷ []) x y is = absurd cc
last_same [] (b ∷ (c ∷ ys)) x y is = absurd cc
last_same (a ∷ []) [] x y is = absurd cc
last_same (a ∷ (c ∷ xs)) [] x y is = absurd cc
last_same (a ∷ xs) (b ∷ ys) x y is =
    let rest : xs ++ x ∷ [] ≡ ys ++ y ∷ [] = cc in last_same xs ys x y rest

-- the last round was made durable
durable_last : (rans : List Ran) (ran : Ran) → EndsDurable (rans ++ ran ∷ []) → IsSome ran.printed.durable
durable_last rans ran ends =
    subst (λ (x : Ran). IsSome x.printed.durable) (sym (last_same rans ends.0 ran ends.1 ends.2)) ends.3

-- and has what all have
last_has : (P : Ran → Type 0) (rans : List Ran) (ran : Ran) → AllByRecursion P (rans ++ ran ∷ []) → P ran
last_has P [] ran all = all.0
last_has P (other ∷ rans) ran all = last_has P rans ran all.1

-- where each round goes on, and made durable what it could, the last one was made durable
goes_durable : (rans before : List Ran) (last : Ran) → rans ≡ before ++ last ∷ [] → AllByRecursion RunGoesOn rans
    → AllByRecursion IsDurable rans → last.printed.durable ≡ None → ⊥
goes_durable rans before last is on durable none =
    let goes = last_has RunGoesOn before last (subst (AllByRecursion RunGoesOn) is on) in
    let made = (last_has IsDurable before last (subst (AllByRecursion IsDurable) is durable)).lasts goes in cc

-- A disk that tells its bytes has them in an image of now.
module _ {D : Type 0} (tells : D → Option Bytes) (clock : D → ℕ) (image_at : D → ℕ → Bytes → Type 0) (faults : D → ℕ) (snap slots tries : ℕ) (script : Script) (was : Vault D)
    (reads : (disk : D) (file : Bytes) → tells disk ≡ Some file → image_at disk (clock disk) file) where
  -- what the devices stand for behind these rounds, where they tell it
  abbrev Behind : Opening → List Ran → List Entry → List Decl → Vault D → List (List ℕ) → ℕ → Type 0
  Behind opening rans ordered decls now words count = (found now_found : Images) → AreTold tells (parts_of was) found
      → AreTold tells (parts_of now) now_found → StandsBehind found now_found decls opening.saved opening.state ordered
      (last_saved opening.saved rans) (as_of decls opening.state ordered (last_saved opening.saved rans)) words count

  -- what the vault stands for after these rounds
  through : (opening : Opening) (rans : List Ran) (ordered : List Entry) (decls : List Decl) (now : Vault D)
      (words : List (List ℕ)) (count : ℕ)
      → BeginsAt tells clock image_at faults snap slots tries script was opening → SameDecls script.decls decls
      → Behind opening rans ordered decls now words count
      → StandsThrough (at_now tells clock image_at faults snap slots tries script was now) script.decls ordered rans
  through opening rans ordered decls now words count begins same keeps found now_found epoch state told told_now is =
      let b = begins found told in
      let that : IsRecoverable found opening.saved opening.state = record { reading = b.has.reading; is = b.has.is; epoch_is = b.saved; state_is = b.state } in
      let one = one_kept found opening.saved epoch opening.state state that is in
      let kept = keeps found now_found told told_now in
      let over : IsRecoverable now_found (last_saved opening.saved rans) (as_of script.decls opening.state ordered (last_saved opening.saved rans)) =
      subst (λ (s : State). IsRecoverable now_found (last_saved opening.saved rans) s)
      (sym (as_of_same script.decls decls same opening.state ordered (last_saved opening.saved rans))) kept.is in
      subst (λ e. IsRecoverable now_found (last_saved e rans) (as_of script.decls state ordered (last_saved e rans))) one.0
      (subst (λ (s : State). IsRecoverable now_found (last_saved opening.saved rans) (as_of script.decls s ordered (last_saved opening.saved rans))) one.1 over)

  -- and the storages that it has
  declares : (opening : Opening) (rans : List Ran) (ordered : List Entry) (decls : List Decl) (now : Vault D)
      (words : List (List ℕ)) (count : ℕ)
      → SameDecls script.decls decls
      → Behind opening rans ordered decls now words count
      → HasDeclared (at_now tells clock image_at faults snap slots tries script was now) script.decls
  declares opening rans ordered decls now words count same keeps found now_found told told_now =
      let kept = keeps found now_found told told_now in storages_kept same kept.is kept.decls_are

  -- and the snapshots that it has, in either order of the storages
  each_same : (decls others : List Decl) → SameDecls decls others → (before after : Reading) (epoch : ℕ) (state : State)
      (commits : List Entry) → EachSnapshot before after epoch state others commits
      → EachSnapshot before after epoch state decls commits
  each_same decls others same before after epoch state commits each = record {
    newer = λ c has above. subst (λ (t : State). HasContent after c t) (sym (as_of_same decls others same state commits c.epoch))
        (each.newer c has above);
    kept = each.kept;
    older = each.older;
    stays = each.stays;
    as_was = each.as_was;
  }

  snapshots_behind : (opening : Opening) (rans : List Ran) (ordered : List Entry) (decls : List Decl) (now : Vault D)
      (words : List (List ℕ)) (count : ℕ)
      → SameDecls script.decls decls → Behind opening rans ordered decls now words count
      → HasEachSnapshot (at_now tells clock image_at faults snap slots tries script was now) script.decls ordered
  snapshots_behind opening rans ordered decls now words count same keeps found now_found epoch state reading told told_now before reads =
      let kept = keeps found now_found told told_now in
      each_told script.decls ordered found now_found kept.was.reading kept.is.reading opening.saved opening.state kept.was.is kept.is.is
      kept.was.epoch kept.was.state (each_same script.decls decls same kept.was.reading kept.is.reading opening.saved opening.state ordered kept.each)
      epoch state reading before reads

  -- and the pages that it has: those that were saved
  pages_behind : (opening : Opening) (rans : List Ran) (ordered : List Entry) (decls : List Decl) (now : Vault D)
      (words : List (List ℕ)) (count : ℕ) → Behind opening rans ordered decls now words count
      → (EndsDurable rans → (found : Images) → AreTold tells (parts_of was) found → count ≡ length words)
      → ((before : List Ran) (last : Ran) → rans ≡ before ++ last ∷ [] → last.printed.durable ≡ None → (found : Images)
      → AreTold tells (parts_of was) found → (last.beside.pages ≤ count) × (last.beside.pages ≤ length words))
      → KeepsPages (at_now tells clock image_at faults snap slots tries script was now) words rans
  pages_behind opening rans ordered decls now words count keeps counts least found now_found reading told told_now
      is =
      let kept = keeps found now_found told told_now in
      let same : kept.is.reading ≡ reading = one_reading now_found kept.is.reading reading kept.is.is is in
      let pages : reading.pages ≡ take count words = sym (ap (λ (r : Reading). r.pages) same) ∙ kept.pages in
      record {
        first = subst (λ l. IsFront l words) (sym pages) (front_take count words);
        all = λ durable. pages ∙ ap (λ n. take n words) (counts durable found told) ∙ take-length words;
        least = λ before last ends none.
            let both = least before last ends none found told in
            omega (arith, both.0, both.1, ap length pages, length-take count words);
      }

  -- and what it stands for at each stop
  stopped_through : (opening : Opening) (rans : List Ran) (ordered : List Entry) (decls : List Decl) (now : Vault D)
      → BeginsAt tells clock image_at faults snap slots tries script was opening → SameDecls script.decls decls → IsWhole now
      → CrashesBehind tells clock image_at faults snap slots tries script was decls opening rans ordered now
      → StandsWhenStopped (at_now tells clock image_at faults snap slots tries script was now) script.decls ordered opening rans
  stopped_through opening rans ordered decls now begins same whole crashes found from epoch state told is rest
      here =
      let b = begins found told in
      let that : IsRecoverable found opening.saved opening.state = record { reading = b.has.reading; is = b.has.is; epoch_is = b.saved; state_is = b.state } in
      let one = one_kept found opening.saved epoch opening.state state that is in
      let kept = crashes found from b.has.reading b.has.is told rest here in
      record {
        leaves = λ at left since crash.
            let leaves = crash_leaves kept whole at left since crash in (
              leaves.0,
              omega (arith, leaves.1, one.0),
              subst (λ (t : State). IsRecoverable left leaves.0 (as_of script.decls t ordered leaves.0)) one.1
                  (subst (λ (t : State). IsRecoverable left leaves.0 t)
                  (sym (as_of_same script.decls decls same opening.state ordered leaves.0)) leaves.2.is),
            );
        snapshots = λ at left reading since crash reads.
            let stands = (crash_leaves kept whole at left since crash).2 in
            each_told script.decls ordered found left b.has.reading stands.is.reading opening.saved opening.state b.has.is
            stands.is.is b.saved b.state (each_same script.decls decls same b.has.reading stands.is.reading opening.saved
            opening.state ordered stands.each) epoch state reading is reads;
        recorded = λ some. kept.recorded;
        covers = λ i saved at.
            let stored = kept.stored i saved at in
            record {
              tie = stored.tie;
              end = stored.end;
              has = stored.has;
              of_store = stored.of_store;
              ended = stored.ended;
              covers = crash_covered kept whole i saved stored;
            };
        instant = λ when. record { crashes = kept.instant; ended = kept.told.save.ended_time };
        rests = λ none. rests_kept kept whole;
      }

  -- what is known of the crashes behind the rounds so far
  crashes_so : (r : RuntimeState) (count : ℕ) (before : Vault D)
      (so : RanSoFar tells clock image_at faults snap slots tries script was r count before)
      → CrashesBehind tells clock image_at faults snap slots tries script was r.stands.decls so.opening so.rans so.run.ordered before
  crashes_so r count before so found from reading is told rest here =
      let k = so.kept found told in
      subst (λ (x : Reading). CrashesKept clock image_at from x r.stands.decls so.opening.sequence so.opening.saved
      so.opening.state so.rans so.run.ordered before) (one_reading found k.was.reading reading k.was.is is)
      (so.crashes found from told rest here).kept

  -- and through reads from then on
  stopped_reading : (opening : Opening) (rans : List Ran) (ordered : List Entry) (decls : List Decl) (now : Vault D)
      → BeginsAt tells clock image_at faults snap slots tries script was opening → SameDecls script.decls decls → IsWhole now
      → CrashesBehind tells clock image_at faults snap slots tries script was decls opening rans ordered now
      → StandsThroughReads (at_now tells clock image_at faults snap slots tries script was now) script.decls ordered opening rans
  stopped_reading opening rans ordered decls now begins same whole crashes later reads =
      stopped_through opening rans ordered decls later begins same (whole_read reads whole)
      (λ found from reading is told rest here. crashes_read whole reads (crashes found from reading is told rest here))

  -- the log files and pages of the rounds so far
  runs_over : (r : RuntimeState) (count : ℕ) (before now : Vault D)
      (so : RanSoFar tells clock image_at faults snap slots tries script was r count before)
      → KeepsPages (at_now tells clock image_at faults snap slots tries script was now) (words_of r.store.pages) so.rans
      → RunsOverFiles (at_now tells clock image_at faults snap slots tries script was now) snap script.decls so.opening.state so.opening.saved
      so.run.ordered so.rans
  runs_over r count before now so pages = record {
    words = so.over.words;
    begins = λ some. so.over.begins;
    last = so.over.last;
    rounds = files_from (at_now tells clock image_at faults snap slots tries script was now) script.decls r.stands.decls so.opening.state
        so.run.ordered snap (files_before so.opening.saved so.over.words) so.rans so.over.last so.same
        (log_of_parts so.long.older so.long.gone so.long.commits) (λ w below. so.long.it.is_logged w below)
        (λ found told. let k = so.kept found told in log_of_parts k.older k.gone k.commits)
        (λ found told w below. (so.kept found told).parts.it.is_logged w below) so.over.from so.over.shut so.over.says;
    pages = λ quiet some. subst (λ ws. KeepsPages (at_now tells clock image_at faults snap slots tries script was now) ws so.rans)
        (sym so.over.pages) pages;
  }

  -- after a round that ended the run, or within whose text the sink failed
  after_round : {Shows : List Ran → State → Ending → Type 0} (r s : RuntimeState) (count : ℕ) (before now : Vault D)
      (so : RanSoFar tells clock image_at faults snap slots tries script was r count before) (ran : Ran)
      → (m : RanOneMore tells clock image_at faults snap slots tries script was s now so.opening so.rans ran) → (ending : Ending) → (ending ≡ Finished → ⊥)
      → RunComes (at_now tells clock image_at faults snap slots tries script was now) snap script so.opening (so.rans ++ ran ∷ []) ending
      → Shows (so.rans ++ ran ∷ []) s.stands.state ending → RunsRounds (at_now tells clock image_at faults snap slots tries script was now) snap slots tries script Shows
  after_round r s count before now so ran m ending other comes shown =
      let keeps : (s.save.down ≡ None) × (s.store.sound ≡ true) → (found now_found : Images) → AreTold tells (parts_of was) found → AreTold tells (parts_of now) now_found
      → StandsBehind found now_found s.stands.decls so.opening.saved so.opening.state m.run.ordered (last_saved so.opening.saved (so.rans ++ ran ∷ [])) (as_of s.stands.decls so.opening.state m.run.ordered (last_saved so.opening.saved (so.rans ++ ran ∷ [])))
      (words_of s.store.pages) (count_of s.save.newest) =
      λ up found now_found told told_now. kept_at_end reads found now_found (m.kept up.1 found told) m.stands up.0 up.1 m.run.serial.rising m.run.serial.epochs told_now in
      let sound_up : IsSound (at_now tells clock image_at faults snap slots tries script was now) ending → (s.save.down ≡ None) × (s.store.sound ≡ true) = λ sound. elim sound [
        | inl none ↦ (m.up none, m.sound none)
        | inr finished ↦ absurd (other finished)
      ] in
      let unbroken_up : IsUnbroken (at_now tells clock image_at faults snap slots tries script was now) (so.rans ++ ran ∷ [])
      → (s.save.down ≡ None) × (s.store.sound ≡ true) = λ quiet. elim quiet [
        | inl none ↦ (m.up none, m.sound none)
        | inr on ↦
            let calm = goes_on_quiet ran (last_has RunGoesOn so.rans ran on) in (m.up_quiet calm, m.sound_quiet calm)
      ] in
      record {
        rans = so.rans ++ ran ∷ [];
        ending = ending;
        opening = so.opening;
        state = s.stands.state;
        run = m.run;
        comes = comes;
        caused = m.caused;
        full = (
          all_push (AreFull script.decls so.opening.state m.run.ordered) so.rans ran
              (all_none_full script.decls so.opening.state m.run.ordered so.rans so.went_on) m.full,
          λ found told. all_push IsUndamaged so.rans ran (all_undamaged so.rans so.went_on)
              (none_damaged ran.beside.damaged (λ damage is. m.untold damage is found told)),
        );
        history = m.history;
        files = m.files (λ quiet some.
            let up = unbroken_up quiet in
            subst (λ ws. KeepsPages (at_now tells clock image_at faults snap slots tries script was now) ws (so.rans ++ ran ∷ []))
            (sym (m.words_are up.1))
            (pages_behind so.opening (so.rans ++ ran ∷ []) m.run.ordered s.stands.decls now (words_of s.store.pages)
            (count_of s.save.newest) (keeps up) (λ durable found told.
            m.paged (durable_last so.rans ran durable) up.0 up.1 found told ∙ sym (words_many s.store.pages))
            (λ before last is none found told.
            let both = m.least found told in
            subst (λ (x : Ran). (x.beside.pages ≤ count_of s.save.newest) × (x.beside.pages ≤ length (words_of s.store.pages)))
            (last_same so.rans before ran last is) (both.0, omega (arith, both.1, words_many s.store.pages)))));
        kept = record {
          stands = λ sound. through so.opening (so.rans ++ ran ∷ []) m.run.ordered s.stands.decls now (words_of s.store.pages) (count_of s.save.newest) so.begins m.same (keeps (sound_up sound));
          snapshots = λ sound. snapshots_behind so.opening (so.rans ++ ran ∷ []) m.run.ordered s.stands.decls now (words_of s.store.pages) (count_of s.save.newest) m.same (keeps (sound_up sound));
          declared = λ some sound. declares so.opening (so.rans ++ ran ∷ []) m.run.ordered s.stands.decls now (words_of s.store.pages) (count_of s.save.newest) m.same (keeps (sound_up sound));
          whole = λ finished. absurd (other finished);
          stops = stopped_through so.opening (so.rans ++ ran ∷ []) m.run.ordered s.stands.decls now so.begins m.same
              m.stands.whole m.crashes;
          through_reads = λ some. stopped_reading so.opening (so.rans ++ ran ∷ []) m.run.ordered s.stands.decls now so.begins m.same
              m.stands.whole m.crashes;
        };
        shown = shown;
      }

  -- the run began, and these devices failed
  ran_on : (r s : RuntimeState) (count : ℕ) (before now : Vault D)
      (so : RanSoFar tells clock image_at faults snap slots tries script was r count before) (ran : Ran)
      → RanOneMore tells clock image_at faults snap slots tries script was s now so.opening so.rans ran
      → RanOn (at_now tells clock image_at faults snap slots tries script was now) snap script so.opening (so.rans ++ ran ∷ [])
  ran_on r s count before now so ran m = record {
    begins = so.begins;
    failed = subst (λ l. AreFailed faults l was now) (sym (devices_in-push so.rans ran so.went_on)) m.failed;
  }

  -- a refusal that ends the run comes to its ending
  comes_at : (r s : RuntimeState) (count : ℕ) (before now : Vault D)
      (so : RanSoFar tells clock image_at faults snap slots tries script was r count before) (ran : Ran)
      → (m : RanOneMore tells clock image_at faults snap slots tries script was s now so.opening so.rans ran) → (e : End) → end_of ran ≡ Some e → EndTells ran e
      → RunComes (at_now tells clock image_at faults snap slots tries script was now) snap script so.opening (so.rans ++ ran ∷ []) (ending_of e)
  comes_at r s count before now so ran m (ends.Device device) is it = (
    m.failed.rose device it,
    inl (
      ran_on r s count before now so ran m,
      record { before = so.rans; last = ran; rounds = refl; went_on = so.went_on; refused = is },
    ),
  )
  comes_at r s count before now so ran m (ends.Damaged device at) is it = inr (record {
    ran = ran_on r s count before now so ran m;
    stops = record { before = so.rans; last = ran; rounds = refl; went_on = so.went_on; refused = is };
    untold = m.untold (device, at) it.0;
  })
  comes_at r s count before now so ran m (ends.Limit name number) is it = inl (record {
    ran = ran_on r s count before now so ran m;
    number = number;
    limit = it.0;
    stops = record { before = so.rans; last = ran; rounds = refl; went_on = so.went_on; refused = is };
  })
  comes_at r s count before now so ran m ends.Memory is it = inr (record {
    ran = ran_on r s count before now so ran m;
    stops = record { before = so.rans; last = ran; rounds = refl; went_on = so.went_on; refused = is };
  })

  -- a round ended the run
  pub stopped : {Shows : List Ran → State → Ending → Type 0} (r s : RuntimeState) (count : ℕ) (before now : Vault D) (round : Round) (report : Report) (e : End)
      → (so : RanSoFar tells clock image_at faults snap slots tries script was r count before) → slice_get script.rounds count ≡ Some round
      → (one : RanRound tries round r s report) → (leaves : LeavesVault tells clock image_at faults one.ran one.logged r s before now)
      → CarriesCrashes tells clock image_at one.logged (leaves.stored ++ option_to_list leaves.failed) one.ran r s
      before now → LeavesLinesOut tells clock image_at faults one.ran one.logged r before
      → report.end ≡ Some e → Shows (so.rans ++ one.ran ∷ []) s.stands.state (ending_of e)
      → RunsRounds (at_now tells clock image_at faults snap slots tries script was now) snap slots tries script Shows
  stopped r s count before now round report e so at one leaves carries out is shown =
      let m = one_more tells clock image_at faults snap slots tries script was r s count before now round report so at one leaves carries out in
      let ends_is : end_of one.ran ≡ Some e = sym one.reports.end ∙ is in
      after_round r s count before now so one.ran m (ending_of e) (not_finished e)
      (comes_at r s count before now so one.ran m e ends_is (end_tells one.ran e m.own m.most ends_is))
      shown

  -- how the run would have ended may come after the round
  comes_after : (r s : RuntimeState) (count : ℕ) (before now : Vault D)
      (so : RanSoFar tells clock image_at faults snap slots tries script was r count before) (ran : Ran)
      → (m : RanOneMore tells clock image_at faults snap slots tries script was s now so.opening so.rans ran) → (end : Option End) → end_of ran ≡ end
      → RunComes (at_now tells clock image_at faults snap slots tries script was now) snap script so.opening (so.rans ++ ran ∷ []) (ending_after end)
  comes_after r s count before now so ran m None is =
      let on = all_push RunGoesOn so.rans ran so.went_on is in
      inl (
        on,
        inr so.begins,
        quiet_failed (devices_in (so.rans ++ ran ∷ [])) (none_failed_in (so.rans ++ ran ∷ []) on)
            (ran_on r s count before now so ran m).failed,
      )
  comes_after r s count before now so ran m (Some e) is = comes_at r s count before now so ran m e is (end_tells ran e m.own m.most is)

  after_not_finished : (end : Option End) → ending_after end ≡ Finished → ⊥
  after_not_finished None is = cc
  after_not_finished (Some e) is = not_finished e is

  -- the sink failed within a round's text
  pub broke : {Shows : List Ran → State → Ending → Type 0} (r s : RuntimeState) (count : ℕ) (before now : Vault D) (round : Round) (report : Report)
      → (so : RanSoFar tells clock image_at faults snap slots tries script was r count before) → slice_get script.rounds count ≡ Some round
      → (one : RanRound tries round r s report) → (leaves : LeavesVault tells clock image_at faults one.ran one.logged r s before now)
      → CarriesCrashes tells clock image_at one.logged (leaves.stored ++ option_to_list leaves.failed) one.ran r s
      before now → LeavesLinesOut tells clock image_at faults one.ran one.logged r before
      → Shows (so.rans ++ one.ran ∷ []) s.stands.state (ending_after report.end)
      → RunsRounds (at_now tells clock image_at faults snap slots tries script was now) snap slots tries script Shows
  broke r s count before now round report so at one leaves carries out shown =
      let m = one_more tells clock image_at faults snap slots tries script was r s count before now round report so at one leaves carries out in
      after_round r s count before now so one.ran m (ending_after report.end) (after_not_finished report.end)
      (comes_after r s count before now so one.ran m report.end (sym one.reports.end))
      shown

  -- the runtime is ready for the next round, so its store is up
  store_up : (r : RuntimeState) (now : Vault D) → StandsOn tells clock image_at r now → r.stands.ended ≡ false → r.save.down ≡ None
  store_up r now stands unended = (stands.up ((stands.goes_on unended).up)).save

  -- and so are its pages
  pages_sound : (r : RuntimeState) (now : Vault D) → StandsOn tells clock image_at r now → r.stands.ended ≡ false → r.store.sound ≡ true
  pages_sound r now stands unended = (stands.up ((stands.goes_on unended).up)).store

  -- all rounds were run
  pub all_run : {Shows : List Ran → State → Ending → Type 0} (r : RuntimeState) (count : ℕ) (now : Vault D)
      (so : RanSoFar tells clock image_at faults snap slots tries script was r count now) → count ≡ length script.rounds → Shows so.rans r.stands.state Finished
      → RunsRounds (at_now tells clock image_at faults snap slots tries script was now) snap slots tries script Shows
  all_run r count now so all shown =
      let up : r.save.down ≡ None = store_up r now so.stands so.unended in
      let sound : r.store.sound ≡ true = pages_sound r now so.stands so.unended in
      let keeps : (found now_found : Images) → AreTold tells (parts_of was) found → AreTold tells (parts_of now) now_found
      → StandsBehind found now_found r.stands.decls so.opening.saved so.opening.state so.run.ordered (last_saved so.opening.saved so.rans) (as_of r.stands.decls so.opening.state so.run.ordered (last_saved so.opening.saved so.rans))
      (words_of r.store.pages) (count_of r.save.newest) =
      λ found now_found told told_now. kept_at_end reads found now_found (so.kept found told) so.stands up sound so.run.serial.rising so.run.serial.epochs told_now in
      record {
        rans = so.rans;
        ending = Finished;
        opening = so.opening;
        state = r.stands.state;
        run = so.run;
        comes = (
          record { begins = so.begins; failed = subst (λ l. AreFailed faults l was now) (sym (none_failed_in so.rans so.went_on)) (failed_none so.quiet) },
          record { whole = so.counted ∙ all; went_on = so.went_on },
        );
        caused = so.caused;
        full = (
          all_none_full script.decls so.opening.state so.run.ordered so.rans so.went_on,
          λ found told. all_undamaged so.rans so.went_on,
        );
        history = (r.stands.decls, so.same, (r.stands.mine, so.history));
        files = runs_over r count now now so (pages_behind so.opening so.rans so.run.ordered r.stands.decls now
            (words_of r.store.pages) (count_of r.save.newest) keeps (λ durable found told.
            so.paged found told ∙ sym (words_many r.store.pages)) (λ before last is none.
            absurd (goes_durable so.rans before last is so.went_on so.caused.durable none)));
        kept = record {
          stands = λ sound. through so.opening so.rans so.run.ordered r.stands.decls now (words_of r.store.pages) (count_of r.save.newest) so.begins so.same keeps;
          snapshots = λ sound. snapshots_behind so.opening so.rans so.run.ordered r.stands.decls now (words_of r.store.pages) (count_of r.save.newest) so.same keeps;
          declared = λ some sound. declares so.opening so.rans so.run.ordered r.stands.decls now (words_of r.store.pages) (count_of r.save.newest) so.same keeps;
          whole = λ finished. kept_all script so.opening.state so.opening.saved so.rans r.stands.state so.run (all_last so.rans so.caused.durable so.went_on);
          stops = stopped_through so.opening so.rans so.run.ordered r.stands.decls now so.begins so.same so.stands.whole
              (crashes_so r count now so);
          through_reads = λ some. stopped_reading so.opening so.rans so.run.ordered r.stands.decls now so.begins so.same so.stands.whole
              (crashes_so r count now so);
        };
        shown = shown;
      }
    where
      all_last : (rans : List Ran) → AllByRecursion IsDurable rans → AllByRecursion RunGoesOn rans → AllByRecursion IsLasting rans
      all_last [] durable on = tt
      all_last (ran ∷ rans) durable on = (durable.0.lasts on.0, all_last rans durable.1 on.1)

  -- memory was wanted before a round began
  at_begin : {Shows : List Ran → State → Ending → Type 0} (r s : RuntimeState) (count : ℕ) (before now : Vault D)
      → (so : RanSoFar tells clock image_at faults snap slots tries script was r count before)
      → IsUnbegun r s before now → Shows so.rans r.stands.state NoMemory
      → RunsRounds (at_now tells clock image_at faults snap slots tries script was now) snap slots tries script Shows
  at_begin r s count before now so unbegun shown =
      let room = unbegun.devices in
      let up : r.save.down ≡ None = store_up r before so.stands so.unended in
      let sound : r.store.sound ≡ true = pages_sound r before so.stands so.unended in
      let keeps : (found now_found : Images) → AreTold tells (parts_of was) found → AreTold tells (parts_of now) now_found
      → StandsBehind found now_found r.stands.decls so.opening.saved so.opening.state so.run.ordered (last_saved so.opening.saved so.rans) (as_of r.stands.decls so.opening.state so.run.ordered (last_saved so.opening.saved so.rans))
      (words_of r.store.pages) (count_of r.save.newest) =
      λ found now_found told told_now. kept_at_end reads found now_found (so.kept found told) so.stands up sound
      so.run.serial.rising so.run.serial.epochs
      (subst (λ (p : Parts D). AreTold tells p now_found) (parts_room room) told_now) in
      record {
        rans = so.rans;
        ending = NoMemory;
        opening = so.opening;
        state = r.stands.state;
        run = so.run;
        comes = inl (
          so.went_on,
          inr so.begins,
          quiet_two was before now so.whole so.stands.whole so.quiet
              (quiet_room room faults),
        );
        caused = so.caused;
        full = (
          all_none_full script.decls so.opening.state so.run.ordered so.rans so.went_on,
          λ found told. all_undamaged so.rans so.went_on,
        );
        history = (r.stands.decls, so.same, (r.stands.mine, so.history));
        files = runs_over r count before now so (pages_behind so.opening so.rans so.run.ordered r.stands.decls now
            (words_of r.store.pages) (count_of r.save.newest) keeps (λ durable found told.
            so.paged found told ∙ sym (words_many r.store.pages)) (λ before last is none.
            absurd (goes_durable so.rans before last is so.went_on so.caused.durable none)));
        kept = record {
          stands = λ sound. through so.opening so.rans so.run.ordered r.stands.decls now (words_of r.store.pages) (count_of r.save.newest) so.begins so.same keeps;
          snapshots = λ sound. snapshots_behind so.opening so.rans so.run.ordered r.stands.decls now (words_of r.store.pages) (count_of r.save.newest) so.same keeps;
          declared = λ some sound. declares so.opening so.rans so.run.ordered r.stands.decls now (words_of r.store.pages) (count_of r.save.newest) so.same keeps;
          whole = λ finished. absurd (memory_not_finished finished);
          stops = stopped_through so.opening so.rans so.run.ordered r.stands.decls now so.begins so.same
              (whole_room room so.stands.whole)
              (λ found from reading is told rest here. crashes_room room
              (crashes_so r count before so found from reading is told rest here));
          through_reads = λ some. stopped_reading so.opening so.rans so.run.ordered r.stands.decls now so.begins so.same
              (whole_room room so.stands.whole)
              (λ found from reading is told rest here. crashes_room room
              (crashes_so r count before so found from reading is told rest here));
        };
        shown = shown;
      }
    where
      memory_not_finished : (let e : Ending = NoMemory in e ≡ Finished) → ⊥
      memory_not_finished is = cc

  pub at_want : {Shows : List Ran → State → Ending → Type 0} (r s : RuntimeState) (count : ℕ) (before now : Vault D)
      (round : Round) (memory : Memory)
      → (so : RanSoFar tells clock image_at faults snap slots tries script was r count before)
      → Rounds tells clock image_at faults tries round r s before now (Err memory) → Shows so.rans r.stands.state NoMemory
      → RunsRounds (at_now tells clock image_at faults snap slots tries script was now) snap slots tries script Shows
  at_want r s count before now round memory so rounds shown = at_begin r s count before now so rounds shown

  -- the vault is whole then
  pub want_whole : (r s : RuntimeState) (count : ℕ) (before now : Vault D) (round : Round) (memory : Memory)
      → RanSoFar tells clock image_at faults snap slots tries script was r count before
      → Rounds tells clock image_at faults tries round r s before now (Err memory) → IsWhole now
  want_whole r s count before now round memory so rounds = whole_room rounds.devices so.stands.whole

  -- a run that doesn't begin
  pub not_begun : {Shows : List Ran → State → Ending → Type 0} (now : Vault D) (ending : Ending)
      → (before : EndsBefore tells clock image_at faults snap script was now ending) → Shows [] before.opening.state ending → RunsRounds (at_now tells clock image_at faults snap slots tries script was now) snap slots tries script Shows
  not_begun now ending before shown = record {
    rans = [];
    ending = ending;
    opening = before.opening;
    state = before.opening.state;
    run = no_run tells clock image_at faults snap slots tries script was before.opening;
    comes = before.comes;
    caused = record { caused = tt; beside = tt; durable = tt; sequences = tt; marks = tt; tried = tt; counted = tt; met = tt; slotted = tt; filled = tt };
    full = (tt, λ found told. tt);
    history = nothing_come script.decls;
    files = none_over;
    kept = before.kept;
    shown = shown;
  }

  -- ---- the next call may begin

  -- the save has one image where the store is up
  pub rests_on : (status : ℕ) (r : RuntimeState) (now : Vault D) → StandsOn tells clock image_at r now → r.save.down ≡ None
      → RestsAgain tells clock image_at status was now
  rests_on status r now stands up = record { again = λ not_4 not_5 one bytes told. (stands.stored up bytes told).only }

  pub rests_wanting : (r s : RuntimeState) (count : ℕ) (before now : Vault D) (round : Round) (memory : Memory)
      → RanSoFar tells clock image_at faults snap slots tries script was r count before
      → Rounds tells clock image_at faults tries round r s before now (Err memory)
      → RestsAgain tells clock image_at 8 was now
  rests_wanting r s count before now round memory so rounds =
      let stored = so.stands.stored (store_up r before so.stands so.unended) in
      record {
        again = λ not_4 not_5 one. subst (λ d. IfTold (tells d) (Only clock image_at d)) (sym rounds.devices.save)
            (λ bytes told. (stored bytes told).only);
      }

  -- a round ended the run by a limit
  rests_ended : (s : RuntimeState) (now : Vault D) (opening : Opening) (rans : List Ran) (ran : Ran)
      → RanOneMore tells clock image_at faults snap slots tries script was s now opening rans ran → (e : End) → EndTells ran e
      → RestsAgain tells clock image_at (status_of (ending_of e)) was now
  rests_ended s now opening rans ran m (ends.Device device) it = record { again = λ not_4 not_5. absurd (not_5 refl) }
  rests_ended s now opening rans ran m (ends.Damaged device at) it = rests_on 6 s now m.stands (m.up_quiet it.1)
  rests_ended s now opening rans ran m (ends.Limit name number) it = rests_on 7 s now m.stands (m.up_quiet it.1)
  rests_ended s now opening rans ran m ends.Memory it = rests_on 8 s now m.stands (m.up_quiet it.1)

  -- no status of them is that of a run that only reads
  reads_ended : (e : End) → IsReadStatus (status_of (ending_of e)) → ⊥
  reads_ended (ends.Device device) only = omega (arith, only.1)
  reads_ended (ends.Damaged device at) only = omega (arith, only.1)
  reads_ended (ends.Limit name number) only = omega (arith, only.1)
  reads_ended ends.Memory only = omega (arith, only.1)

  -- and devices that tell their bytes aren't found damaged
  damage_ended : (s : RuntimeState) (now : Vault D) (opening : Opening) (rans : List Ran) (ran : Ran)
      → RanOneMore tells clock image_at faults snap slots tries script was s now opening rans ran → (e : End) → EndTells ran e
      → ReadsDamage tells clock image_at faults (status_of (ending_of e)) was now
  damage_ended s now opening rans ran m (ends.Damaged device at) it = λ six found here told told_here.
      absurd (m.untold (device, at) it.0 found told)
  damage_ended s now opening rans ran m (ends.Device device) it = λ six. absurd (omega arith)
  damage_ended s now opening rans ran m (ends.Limit name number) it = λ six. absurd (omega arith)
  damage_ended s now opening rans ran m ends.Memory it = λ six. absurd (omega arith)

  pub rests_after : (r s : RuntimeState) (count : ℕ) (before now : Vault D) (round : Round) (report : Report) (e : End)
      → (so : RanSoFar tells clock image_at faults snap slots tries script was r count before) → slice_get script.rounds count ≡ Some round
      → (one : RanRound tries round r s report) → (leaves : LeavesVault tells clock image_at faults one.ran one.logged r s before now)
      → CarriesCrashes tells clock image_at one.logged (leaves.stored ++ option_to_list leaves.failed) one.ran r s
      before now → LeavesLinesOut tells clock image_at faults one.ran one.logged r before
      → report.end ≡ Some e
      → RestsAgain tells clock image_at (status_of (ending_of e)) was now × (IsReadStatus (status_of (ending_of e)) → ⊥)
      × ReadsDamage tells clock image_at faults (status_of (ending_of e)) was now
  rests_after r s count before now round report e so at one leaves carries out is =
      let m = one_more tells clock image_at faults snap slots tries script was r s count before now round report so at one leaves carries out in
      let tells_end = end_tells one.ran e m.own m.most (sym one.reports.end ∙ is) in
      (rests_ended s now so.opening so.rans one.ran m e tells_end, reads_ended e, damage_ended s now so.opening so.rans one.ran m e tells_end)

  -- all rounds were run
  pub rests_all : (r : RuntimeState) (count : ℕ) (now : Vault D) → RanSoFar tells clock image_at faults snap slots tries script was r count now
      → RestsAgain tells clock image_at 0 was now
  rests_all r count now so = rests_on 0 r now so.stands (store_up r now so.stands so.unended)
