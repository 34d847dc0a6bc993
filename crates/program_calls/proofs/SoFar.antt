-- What was run of a script so far on what a vault keeps, and what comes of one round more.
use Rattle.std.proofs.Common.{◌≡◌, ◌∙◌, sym, ap, subst, refl, ℕ, ◌+◌, ◌-◌, ◌<◌, ◌≤◌, false, true, List, [], ◌∷◌, ◌++◌}
use Rattle.std.proofs.Common.{length, Option, Some, None, arith, cond, length-append}
use Rattle.std.specs.Prelude.{IsSome, is_some, option_to_list, replicate, slice_get}
use Rattle.std.specs.List.{AllByRecursion, Contains}
use Rattle.std.proofs.lemmas.List.{length-map}
use Rattle.std.proofs.lemmas.List.Sorted.{IsPermutation-refl}
use Rattle.lists.specs.Each.{all_push, all_weaker}
use Rattle.lists.specs.Elements.{in_none}
use Rattle.log_writer.specs.Vault.{IsWhole}
use Rattle.outside.specs.declared.device.Device.{Device}
use Rattle.outside.specs.declared.device.Device.TheVariants.{Save, Snaps}
use Rattle.log_writer.specs.declared.vault.Vault.{Vault}
use Rattle.serial_model.specs.History.{Entry, EpochsNeverFall, Rises, state_after_all}
use Rattle.serial_model.specs.Numbers.{last_epoch}
use Rattle.serial_model.specs.State.{State}
use Rattle.serial_model.specs.declared.decl.Decl.{Decl}
use Rattle.serial_model.specs.declared.number.Commit.{Commit}
use Rattle.serial_model.specs.declared.number.Number.{Number}
use Rattle.script_grammar.specs.Script.{Bytes, Round, Script}
use Rattle.script_grammar.specs.declared.lines.KeeperLine.{KeeperLine}
use Rattle.script_grammar.specs.declared.lines.KeeperLine.TheVariants.{Glean}
use Rattle.wire_form.specs.declared.page.Page.{Page}
use Rattle.log_writer.specs.Points.{sequence_of}
use Rattle.snapshot_store.specs.Content.{words_of}
use Rattle.joint_crashes.specs.Images.{Images, count_of}
use Rattle.joint_crashes.specs.JointCrash.{IsNow, Moments, parts_of}
use Rattle.recovery_core.specs.Recoverable.{IsReading, Reading}
use Rattle.recovery_core.specs.RecoverableLaws.{one_reading}
use Rattle.joint_crashes.specs.Resting.{AreTold, IsResting}
use Rattle.recovery_core.specs.Recovered.{recovers_state}
use Rattle.joint_crashes.specs.VaultReads.{AreQuiet}
use Rattle.checkpoints.specs.declared.without_entries.Settled.{Settled}
use Rattle.worker_logs.specs.Saves.{CountsOf}
use Rattle.worker_logs.specs.declared.savepoints.Side.TheVariants.{Even}
use Rattle.tx_script.specs.Causes.{AllCaused, keeper_before}
use Rattle.tx_script.specs.CausedBeside.{CausedBeside}
use Rattle.tx_script.specs.Draws.{DrawsAreCounted}
use Rattle.tx_script.specs.Run.{IsRun, IsScriptRun, LogFiles, Ran, clock_after, printed_commits, entries_of_round, joined}
use Rattle.round_engine.specs.Begun.{begun}
use Rattle.round_engine.specs.Changes.{AreLogged}
use Rattle.round_engine.specs.Crashes.{CarriesCrashes}
use Rattle.round_engine.specs.Ends.{comes_to_swap, swaps}
use Rattle.round_engine.specs.Histories.{ComeFrom, comes_more, none_come}
use Rattle.round_engine.specs.KnownAtFirst.{left_since}
use Rattle.round_engine.specs.Logs.{AreClosedFiles, AreLogs}
use Rattle.round_engine.specs.RanRound.{AreFailed, LeavesLinesOut, LeavesVault, RanRound}
use Rattle.round_engine.specs.Standing.{IsReady, RuntimeState, StandsOn, files_of}
use Rattle.round_engine.specs.Swaps.{since_swap}
use Rattle.round_engine.specs.declared.report.Report.{Report}
use Rattle.program_calls.specs.Beginning.{MayBegin, Opening, SameDecls}
use Rattle.program_calls.specs.Ending.{RunGoesOn}
use Rattle.program_calls.specs.RoundCauses.{AreRoundsCaused, AreFull, FullLeavesUnrun, IsDurable}
use Rattle.program_calls.specs.Main.{ComeFromWords}
use Rattle.program_calls.specs.OnTheWay.{AsksForSnapshot, BeginsRun}
use Rattle.program_calls.specs.RanOver.{BeginsOver, BeginsWith, FilesAt, IsUnbroken, KeepsPages, RunsOverFiles, files_after}
use Rattle.program_calls.specs.RanOver.{files_before}
use Rattle.program_calls.specs.Vaults.{NoneFailed, Vaults, vaults_of}
use Rattle.program_calls.proofs.RecordsKept.{begun_records}
use Rattle.program_calls.proofs.Begins.{begins_with, may_begin, settled_stored}
use Rattle.program_calls.specs.EndLaws.{goes_on_quiet}
use Rattle.program_calls.proofs.KeptOver.{AllOver, ClosesOf, OverFrom, TellsOf, all_behind, behind_parts, close_same}
use Rattle.program_calls.proofs.KeptOver.{close_then, files_from, files_then, log_of_parts, logged_later}
use Rattle.program_calls.proofs.KeptOver.{logged_over, own_logged}
use Rattle.program_calls.proofs.KeptOver.{made_pages, never_damaged, over_more, over_push, swapped_parts, tell_same, tell_then}
use Rattle.program_calls.proofs.KeptOver.{tells_round}
use Rattle.program_calls.proofs.KeptRounds.{KeptSoFar, advances_later, kept_begins, kept_more, save_up}
use Rattle.program_calls.proofs.RoundCommits.{of_round}
use Rattle.program_calls.proofs.LongLogs.{LongSoFar, fresh_end, long_begins, long_closes, long_full, long_later, long_more}
use Rattle.program_calls.proofs.LongLogs.{parts_then}
use Rattle.program_calls.proofs.CrashesBegun.{crashes_begin}
use Rattle.program_calls.proofs.CrashesKept.{CrashesKept, KeptBefore}
use Rattle.program_calls.proofs.CrashesMore.{crashes_more, ready_more}
use Rattle.program_calls.proofs.KeptAll.{joined_where_none}
use Rattle.program_calls.proofs.RoundsJoined.{clock_from, printed_commits-push, run-push}
use Rattle.program_calls.proofs.SameRun.{met_same, same_run, same_state}
use Rattle.program_calls.proofs.VaultsLater.{failed_back, quiet_failed, rose_back}
use Rattle.program_calls.proofs.SavedPages.{least_pages, round_pages, settled_pages}
use Rattle.program_calls.proofs.SinceSwap.{full_leaves}
use Rattle.program_calls.proofs.OneRound.{clock_from-push, sequence_after, sequence_after-push, sequences-push, stored_length}
use Rattle.program_calls.proofs.OneRound.{marked-push, marked, met-push, saved_many, down_none, answers_most, swaps_quiet}

-- ---- the rounds so far

-- the same storages, seen from the other side
back : (decls others : List Decl) → SameDecls decls others → SameDecls others decls
back decls others same d = ((same d).1, (same d).0)

module _ {D : Type 0} (tells : D → Option Bytes) (clock : D → ℕ) (image_at : D → ℕ → Bytes → Type 0) (faults : D → ℕ) (snap slots tries : ℕ) (script : Script) (was : Vault D) where
  -- where the devices told what lets a run begin
  abbrev pub BeginsAt : Opening → Type 0
  BeginsAt opening = (found : Images) → AreTold tells (parts_of was) found → MayBegin snap script.decls opening found

  -- what the vault keeps over these storages, where the devices told what they had
  abbrev pub KeepsIn : List Decl → Opening → List Ran → List Entry → RuntimeState → Vault D → Type 0
  KeepsIn decls opening rans ordered r now = (found : Images) → AreTold tells (parts_of was) found
      → KeptSoFar tells clock image_at found decls opening.state opening.saved rans ordered r now

  abbrev pub KeepsAt : Opening → List Ran → List Entry → RuntimeState → Vault D → Type 0
  KeepsAt opening rans ordered r now = KeepsIn r.stands.decls opening rans ordered r now

  -- what is known of the crashes since the call began, where the devices told what they had and rested
  abbrev pub CrashesAt : (decls : List Decl) (opening : Opening) (rans : List Ran) (ordered : List Entry) (r : RuntimeState)
      (now : Vault D) → KeepsIn decls opening rans ordered r now → Type 0
  CrashesAt decls opening rans ordered r now kept = (found : Images) (from : Moments)
      (told : AreTold tells (parts_of was) found) → IsResting clock image_at (parts_of was)
      → IsNow clock image_at (parts_of was) from
      → KeptBefore tells clock image_at from (kept found told).was.reading decls opening.sequence opening.saved
      opening.state rans ordered (kept found told).commits (kept found told).gone r now

  -- the same behind a round that may have ended the run
  abbrev pub CrashesBehind : List Decl → Opening → List Ran → List Entry → Vault D → Type 0
  CrashesBehind decls opening rans ordered now = (found : Images) (from : Moments) (reading : Reading)
      → IsReading found reading → AreTold tells (parts_of was) found
      → IsResting clock image_at (parts_of was) → IsNow clock image_at (parts_of was) from
      → CrashesKept clock image_at from reading decls opening.sequence opening.saved opening.state rans ordered now

  -- the vault of the call, as it is now
  abbrev pub at_now : Vault D → Vaults D
  at_now now = vaults_of tells clock image_at faults was now

  -- the rounds were over these log files and pages, up to those of the runtime
  pub record OverSoFar (decls : List Decl) (opening : Opening) (rans : List Ran) (ordered : List Entry) (r : RuntimeState)
      (now : Vault D) (kept : KeepsIn decls opening rans ordered r now) (long : LongSoFar decls opening.state ordered r)
      : Type 0 where
    pub words : List (List ℕ)
    pub begins : (found : Images) → AreTold tells (parts_of was) found → BeginsWith script.decls words found
    pub last : FilesAt
    pub from : OverFrom snap (files_before opening.saved words) rans last
    pub files : last.files ≡ files_of r
    pub pages : last.words ≡ words_of r.store.pages
    pub since : (found : Images) (told : AreTold tells (parts_of was) found) → last.since ≡ (kept found told).since
    pub says : (found : Images) (told : AreTold tells (parts_of was) found)
        → (let k = kept found told in AllOver (TellsOf (log_of_parts k.older k.gone k.commits)) snap
        (files_before opening.saved words) rans last from)
    pub shut : AllOver (ClosesOf (log_of_parts long.older long.gone long.commits)) snap
        (files_before opening.saved words) rans last from
    pub first : opening.saved < r.stands.clock.epoch
    pub past : AllByRecursion (λ ran. ran.printed.end.epoch < r.stands.clock.epoch) rans

  -- the rounds were over these, up to one that may have ended the run
  pub record OverOneMore (opening : Opening) (rans : List Ran) (ran : Ran) (old new : RuntimeState) (before : Vault D)
      (ordered : List Entry) (kept : KeepsAt opening rans ordered old before)
      (long : LongSoFar old.stands.decls opening.state ordered old) (logged : ℕ → List Commit) : Type 0 where
    pub words : List (List ℕ)
    pub begins : (found : Images) → AreTold tells (parts_of was) found → BeginsWith script.decls words found
    pub last : FilesAt
    pub made : List (List ℕ)
    pub from : OverFrom snap (files_before opening.saved words) (rans ++ ran ∷ []) (files_after last ran made new.counted)
    pub files : (files_after last ran made new.counted).files ≡ files_of new
    pub pages : new.store.sound ≡ true → (files_after last ran made new.counted).words ≡ words_of new.store.pages
    pub since : (found : Images) (told : AreTold tells (parts_of was) found) → last.since ≡ (kept found told).since
    pub closed : last.files.closed_at ≡ old.closed_at
    pub says : (found : Images) (told : AreTold tells (parts_of was) found)
        → (let k = kept found told in AllOver (TellsOf (log_of_parts k.older k.gone (λ w. k.commits w ++ logged w)))
        snap (files_before opening.saved words) (rans ++ ran ∷ []) (files_after last ran made new.counted) from)
    pub shut : AllOver (ClosesOf (log_of_parts long.older long.gone (λ w. long.commits w ++ logged w))) snap
        (files_before opening.saved words) (rans ++ ran ∷ []) (files_after last ran made new.counted) from

  -- all that is kept as the next round begins
  abbrev pub KeptNext : List Decl → Opening → List Ran → List Entry → RuntimeState → Vault D → Type 0
  KeptNext decls opening rans ordered r now = (k : KeepsIn decls opening rans ordered r now)
      × (long : LongSoFar decls opening.state ordered r) × OverSoFar decls opening rans ordered r now k long
      × CrashesAt decls opening rans ordered r now k

  -- the runtime has the slots that were asked for, and so had the rounds
  abbrev IsSlotted : RuntimeState → List Ran → Type 0
  IsSlotted r rans = (r.stands.slots ≡ slots) × AllByRecursion (λ ran. ran.beside.slots ≡ slots) rans

  -- what was run up to a round, and where that left the runtime and the vault
  pub record RanSoFar (r : RuntimeState) (count : ℕ) (now : Vault D) : Type 0 where
    pub rans : List Ran
    pub opening : Opening
    pub counted : length rans ≡ count
    pub same : SameDecls script.decls r.stands.decls
    pub run : IsScriptRun script opening.state opening.saved rans r.stands.state
    pub begins : BeginsAt opening
    pub caused : AreRoundsCaused slots tries script.decls script.rounds opening rans
    pub went_on : AllByRecursion RunGoesOn rans
    pub clock_is : r.stands.clock ≡ clock_from (clock_after opening.saved) rans
    pub sequence : sequence_of r.save.newest ≡ sequence_after opening.sequence rans
    pub unended : r.stands.ended ≡ false
    pub most : r.stands.clock.epoch ≤ last_epoch
    pub room : AsksForSnapshot script → r.room ≡ snap
    pub stands : StandsOn tells clock image_at r now
    pub whole : IsWhole was
    pub quiet : AreQuiet faults was now
    pub kept : KeepsAt opening rans run.ordered r now
    pub crashes : CrashesAt r.stands.decls opening rans run.ordered r now kept
    pub long : LongSoFar r.stands.decls opening.state run.ordered r
    pub over : OverSoFar r.stands.decls opening rans run.ordered r now kept long
    pub paged : (found : Images) → AreTold tells (parts_of was) found → count_of r.save.newest ≡ length r.store.pages
    pub history : ComeFrom r.stands.decls (printed_commits 0 rans script.rounds) r.stands.mine
    pub slotted : IsSlotted r rans

  -- what was run up to a round and of it, and where that left all; the round may have ended the run
  pub record RanOneMore (r : RuntimeState) (now : Vault D) (opening : Opening) (before : List Ran) (ran : Ran) : Type 0 where
    pub same : SameDecls script.decls r.stands.decls
    pub run : IsScriptRun script opening.state opening.saved (before ++ ran ∷ []) r.stands.state
    pub caused : AreRoundsCaused slots tries script.decls script.rounds opening (before ++ ran ∷ [])
    pub own : AllCaused ran
    pub sequence : sequence_of r.save.newest ≡ sequence_after opening.sequence (before ++ ran ∷ [])
    pub most : ran.printed.end.epoch ≤ last_epoch
    pub stands : StandsOn tells clock image_at r now
    pub failed : AreFailed faults ran.beside.devices was now
    pub up : NoneFailed (at_now now) → r.save.down ≡ None
    pub up_quiet : ran.beside.devices ≡ [] → r.save.down ≡ None
    pub sound : NoneFailed (at_now now) → r.store.sound ≡ true
    pub sound_quiet : ran.beside.devices ≡ [] → r.store.sound ≡ true
    pub kept : r.store.sound ≡ true → KeepsAt opening (before ++ ran ∷ []) run.ordered r now
    pub kept_over : r.store.sound ≡ true → opening.saved < r.stands.clock.epoch
        → AllByRecursion (λ ran. ran.printed.end.epoch < r.stands.clock.epoch) (before ++ ran ∷ [])
        → (comes_to_swap ran ≡ true → swaps ran ≡ true) → r.save.down ≡ None
        → KeptNext r.stands.decls opening (before ++ ran ∷ []) run.ordered r now
    pub crashes : CrashesBehind r.stands.decls opening (before ++ ran ∷ []) run.ordered now
    pub words : List (List ℕ)
    pub words_are : r.store.sound ≡ true → words ≡ words_of r.store.pages
    pub files : (IsUnbroken (at_now now) (before ++ ran ∷ []) → (before ++ ran ∷ [] ≡ [] → ⊥)
        → KeepsPages (at_now now) words (before ++ ran ∷ []))
        → RunsOverFiles (at_now now) snap script.decls opening.state opening.saved run.ordered (before ++ ran ∷ [])
    pub paged : IsSome ran.printed.durable → r.save.down ≡ None → r.store.sound ≡ true → (found : Images)
        → AreTold tells (parts_of was) found → count_of r.save.newest ≡ length r.store.pages
    pub least : (found : Images) → AreTold tells (parts_of was) found
        → (ran.beside.pages ≤ count_of r.save.newest) × (ran.beside.pages ≤ length r.store.pages)
    pub untold : (damage : Device × ℕ) → ran.beside.damaged ≡ Some damage → (found : Images) → AreTold tells (parts_of was) found → ⊥
    pub full : AreFull script.decls opening.state run.ordered ran
    pub history : ComeFromWords script.decls (printed_commits 0 (before ++ ran ∷ []) script.rounds)
    pub on_words : ComeFrom r.stands.decls (printed_commits 0 (before ++ ran ∷ []) script.rounds) r.stands.mine
    pub slotted : IsSlotted r (before ++ ran ∷ [])

  -- the log files and pages of a round more
  over_one : (r s : RuntimeState) (count : ℕ) (before now : Vault D) (round : Round) (report : Report)
      (so : RanSoFar r count before) → slice_get script.rounds count ≡ Some round → (one : RanRound tries round r s report)
      → (leaves : LeavesVault tells clock image_at faults one.ran one.logged r s before now)
      → r.stands.state ≡ state_after_all r.stands.decls so.opening.state so.run.ordered
      → Rises (so.run.ordered ++ (one.lines.run (length so.rans)).ordered)
      → EpochsNeverFall (so.run.ordered ++ (one.lines.run (length so.rans)).ordered)
      → OverOneMore so.opening so.rans one.ran r s before so.run.ordered so.kept so.long one.logged
  over_one r s count before now round report so at one leaves state_is rises falls =
      let over = so.over in
      let m = made_pages leaves in
      let begins : BeginsOver snap over.last one.ran = record {
        files = one.begins.files ∙ sym over.files;
        pages = one.begins.pages ∙ sym (ap length over.pages ∙ length-map r.store.pages (λ (p : Page). p.words));
        room_is = λ asks. one.begins.room ∙ so.room (record {
          index = count;
          round = round;
          there = at;
          asks = subst (λ (l : List KeeperLine). Contains l Glean) (one.lines.run (length so.rans)).lines.0.asked asks;
        });
      } in
      let first : FilesAt = files_before so.opening.saved over.words in
      record {
        words = over.words;
        begins = over.begins;
        last = over.last;
        made = m.made;
        from = over_push snap first so.rans over.last one.ran m.made s.counted over.from begins m.adds;
        files = files_then so.stands one leaves over.last over.files m.made;
        pages = λ sound. ap (λ ws. ws ++ m.made) over.pages ∙ sym (m.words sound);
        since = over.since;
        closed = ap (λ (x : LogFiles). x.closed_at) over.files;
        says = λ found told.
            let k = so.kept found told in
            over_more (TellsOf (log_of_parts k.older k.gone (λ w. k.commits w ++ one.logged w))) snap first so.rans over.last one.ran m.made
            s.counted over.from begins m.adds
            (tell_same (λ w. log_of_parts k.older k.gone k.commits w ++ one.logged w)
            (log_of_parts k.older k.gone (λ w. k.commits w ++ one.logged w)) snap first so.rans over.last over.from
            (behind_parts k.older k.gone k.commits one.logged)
            (tell_then (log_of_parts k.older k.gone k.commits) one.logged r.stands.clock.epoch
            (logged_later k so.stands refl state_is so.unended one leaves (length so.rans) rises falls) snap first so.rans over.last
            over.from over.first over.past (over.says found told)))
            (tells_round k so.stands refl state_is so.unended one leaves (length so.rans) rises falls over.last over.files over.pages
            (over.since found told) m.made m.of_snap);
        shut =
            let l = so.long in
            over_more (ClosesOf (log_of_parts l.older l.gone (λ w. l.commits w ++ one.logged w))) snap first so.rans over.last
            one.ran m.made s.counted over.from begins m.adds
            (close_same (λ w. log_of_parts l.older l.gone l.commits w ++ one.logged w)
            (log_of_parts l.older l.gone (λ w. l.commits w ++ one.logged w)) snap first so.rans over.last over.from
            (behind_parts l.older l.gone l.commits one.logged)
            (close_then (log_of_parts l.older l.gone l.commits) one.logged r.stands.clock.epoch
            (long_later l so.stands refl state_is one leaves (length so.rans)) snap first so.rans over.last over.from
            over.first over.past over.shut))
            (long_closes l so.stands refl state_is one leaves (length so.rans) over.last
            (ap (λ (x : LogFiles). x.closed_at) over.files) m.made);
      }

  -- and what is kept behind it, where the run goes on
  over_next : (r s : RuntimeState) (count : ℕ) (before now : Vault D) (round : Round) (report : Report)
      (so : RanSoFar r count before) → slice_get script.rounds count ≡ Some round → (one : RanRound tries round r s report)
      → (leaves : LeavesVault tells clock image_at faults one.ran one.logged r s before now)
      → CarriesCrashes tells clock image_at one.logged (leaves.stored ++ option_to_list leaves.failed) one.ran r s
      before now → r.stands.state ≡ state_after_all r.stands.decls so.opening.state so.run.ordered
      → Rises (so.run.ordered ++ (one.lines.run (length so.rans)).ordered)
      → EpochsNeverFall (so.run.ordered ++ (one.lines.run (length so.rans)).ordered) → s.store.sound ≡ true
      → so.opening.saved < s.stands.clock.epoch
      → AllByRecursion (λ ran. ran.printed.end.epoch < s.stands.clock.epoch) (so.rans ++ one.ran ∷ [])
      → (comes_to_swap one.ran ≡ true → swaps one.ran ≡ true) → s.save.down ≡ None
      → KeptNext r.stands.decls so.opening (so.rans ++ one.ran ∷ [])
      (so.run.ordered ++ (one.lines.run (length so.rans)).ordered) s now
  over_next r s count before now round report so at one leaves carries state_is rises falls sound first past done up =
      let more = over_one r s count before now round report so at one leaves state_is rises falls in
      let next = λ (found : Images) (told : AreTold tells (parts_of was) found).
      kept_more (so.kept found told) so.stands refl state_is so.unended one leaves sound (length so.rans) rises falls in
      let ran : Ran = one.ran in
      let ended = (all_behind (λ (ran : Ran). ran.printed.end.epoch < s.stands.clock.epoch) so.rans (one.ran ∷ []) past).0 in
      let long = long_more so.long so.stands refl state_is one leaves (length so.rans) (omega (arith, ended)) in (
        λ found told. (next found told).0,
        long.0,
        record {
          words = more.words;
          begins = more.begins;
          last = files_after more.last ran more.made s.counted;
          from = more.from;
          files = more.files;
          pages = more.pages sound;
          since = λ found told.
              let n = next found told in
              ap (λ e. cond (swaps ran) e more.last.since) more.closed
              ∙ ap (λ e. cond (swaps ran) r.closed_at e) (more.since found told) ∙ sym n.4;
          says = λ found told.
              let k = so.kept found told in
              let n = next found told in
              tell_same (log_of_parts k.older k.gone (λ w. k.commits w ++ one.logged w)) (log_of_parts n.0.older n.0.gone n.0.commits) snap
              (files_before so.opening.saved more.words) (so.rans ++ ran ∷ []) (files_after more.last ran more.made s.counted) more.from
              (swapped_parts (swaps ran) k.older k.gone (λ w. k.commits w ++ one.logged w) n.0.older n.0.gone n.0.commits n.3 n.2 n.1)
              (more.says found told);
          shut = close_same (log_of_parts so.long.older so.long.gone (λ w. so.long.commits w ++ one.logged w))
              (log_of_parts long.0.older long.0.gone long.0.commits) snap (files_before so.opening.saved more.words)
              (so.rans ++ ran ∷ []) (files_after more.last ran more.made s.counted) more.from long.1 more.shut;
          first = first;
          past = past;
        },
        λ found from told rest here.
            let k = so.kept found told in
            let n = next found told in
            let own = one.lines.run (length so.rans) in
            let of = of_round own in
            subst (λ (x : Reading). KeptBefore tells clock image_at from x r.stands.decls so.opening.sequence so.opening.saved
            so.opening.state (so.rans ++ ran ∷ []) (so.run.ordered ++ own.ordered) n.0.commits n.0.gone s now)
            (one_reading found k.was.reading n.0.was.reading k.was.is n.0.was.is)
            (subst (λ (f : ℕ → List Commit). KeptBefore tells clock image_at from k.was.reading r.stands.decls
            so.opening.sequence so.opening.saved so.opening.state (so.rans ++ ran ∷ []) (so.run.ordered ++ own.ordered) f
            n.0.gone s now) (sym n.1)
            (subst (λ (f : ℕ → List Commit). KeptBefore tells clock image_at from k.was.reading r.stands.decls
            so.opening.sequence so.opening.saved so.opening.state (so.rans ++ ran ∷ []) (so.run.ordered ++ own.ordered)
            (since_swap (swaps ran) (λ w. k.commits w ++ one.logged w)) f s now) (sym n.2)
            (ready_more own.ordered k.parts so.stands refl
            (own_logged k so.stands refl state_is so.unended one leaves (length so.rans) rises falls) one.lines.lines_are
            of.workers of.later one.lines.caused one.begins.files leaves rises falls (so.crashes found from told rest here) carries up
            sound done))),
      )

  -- a round more was run
  pub one_more : (r s : RuntimeState) (count : ℕ) (before now : Vault D) (round : Round) (report : Report)
      (so : RanSoFar r count before) → slice_get script.rounds count ≡ Some round → (one : RanRound tries round r s report)
      → (leaves : LeavesVault tells clock image_at faults one.ran one.logged r s before now)
      → CarriesCrashes tells clock image_at one.logged (leaves.stored ++ option_to_list leaves.failed) one.ran r s
      before now → LeavesLinesOut tells clock image_at faults one.ran one.logged r before
      → RanOneMore s now so.opening so.rans one.ran
  one_more r s count before now round report so at one leaves carries out =
      let opening : Opening = so.opening in
      let ran : Ran = one.ran in
      let index : ℕ = length so.rans in
      let at_index : slice_get script.rounds (length so.rans) ≡ Some round = subst (λ n. slice_get script.rounds n ≡ Some round) (sym so.counted) at in
      let own : IsRun r.stands.decls (length so.rans) (round ∷ []) r.stands.state r.stands.clock (one.ran ∷ []) s.stands.state = one.lines.run (length so.rans) in
      let begins : one.ran.printed.begin ≡ r.stands.clock = own.clocks.0 in
      let here = same_run r.stands.decls script.decls (back script.decls r.stands.decls so.same) (length so.rans) (round ∷ []) r.stands.state r.stands.clock (one.ran ∷ []) s.stands.state own in
      let mine : (x : IsRun script.decls (length so.rans) (round ∷ []) r.stands.state one.ran.printed.begin (one.ran ∷ []) s.stands.state) × (x.ordered ≡ own.ordered) =
      subst (λ c. (x : IsRun script.decls (length so.rans) (round ∷ []) r.stands.state c (one.ran ∷ []) s.stands.state) × (x.ordered ≡ own.ordered)) (sym begins) here in
      let pushed = run-push script.decls script.rounds so.opening.state (clock_after so.opening.saved) so.rans r.stands.state s.stands.state one.ran round
      at_index so.run (begins ∙ so.clock_is) mine.0 in
      let all : pushed.0.ordered ≡ so.run.ordered ++ own.ordered = pushed.1 ∙ ap (λ l. so.run.ordered ++ l) mine.1 in
      let state_is : r.stands.state ≡ state_after_all r.stands.decls so.opening.state so.run.ordered =
      so.run.after ∙ same_state script.decls r.stands.decls so.same so.opening.state so.run.ordered in
      let ready : IsReady r = so.stands.goes_on so.unended in
      let stored = leaves.has_stored in
      let same : SameDecls script.decls s.stands.decls = subst (λ ds. SameDecls script.decls ds) (sym one.lines.decls) so.same in
      let serial = pushed.0.serial in
      let rises : Rises (so.run.ordered ++ own.ordered) = subst Rises all serial.rising in
      let falls : EpochsNeverFall (so.run.ordered ++ own.ordered) = subst EpochsNeverFall all serial.epochs in
      let kept : s.store.sound ≡ true → KeepsAt so.opening (so.rans ++ one.ran ∷ []) pushed.0.ordered s now = λ sound found told.
      subst (λ l. KeptSoFar tells clock image_at found s.stands.decls so.opening.state so.opening.saved (so.rans ++ one.ran ∷ []) l s now) (sym all)
      (subst (λ ds. KeptSoFar tells clock image_at found ds so.opening.state so.opening.saved (so.rans ++ one.ran ∷ []) (so.run.ordered ++ own.ordered) s now) (sym one.lines.decls)
      (kept_more (so.kept found told) so.stands refl state_is so.unended one leaves sound (length so.rans) rises falls).0) in
      let more = over_one r s count before now round report so at one leaves state_is rises falls in
      let crashes : CrashesBehind s.stands.decls so.opening (so.rans ++ one.ran ∷ []) pushed.0.ordered now = λ found from reading is told rest here.
      subst (λ l. CrashesKept clock image_at from reading s.stands.decls so.opening.sequence so.opening.saved so.opening.state
      (so.rans ++ one.ran ∷ []) l now) (sym all)
      (subst (λ ds. CrashesKept clock image_at from reading ds so.opening.sequence so.opening.saved so.opening.state
      (so.rans ++ one.ran ∷ []) (so.run.ordered ++ own.ordered) now) (sym one.lines.decls)
      (let k = so.kept found told in
      let of = of_round own in
      subst (λ (x : Reading). CrashesKept clock image_at from x r.stands.decls so.opening.sequence so.opening.saved
      so.opening.state (so.rans ++ one.ran ∷ []) (so.run.ordered ++ own.ordered) now)
      (one_reading found k.was.reading reading k.was.is is)
      (crashes_more own.ordered k.parts so.stands refl
      (own_logged k so.stands refl state_is so.unended one leaves (length so.rans) rises falls) one.lines.lines_are of.workers of.later
      one.lines.caused one.begins.files leaves rises falls (so.crashes found from told rest here) carries))) in
      let commits = printed_commits-push 0 so.rans one.ran script.rounds round at_index so.run.lines in
      let on_words : ComeFrom s.stands.decls (printed_commits 0 (so.rans ++ one.ran ∷ []) script.rounds) s.stands.mine =
      subst (λ es. ComeFrom s.stands.decls es s.stands.mine) (sym commits)
      (subst (λ ds. ComeFrom ds (printed_commits 0 so.rans script.rounds
      ++ entries_of_round (0 + length so.rans) one.ran round) s.stands.mine) (sym one.lines.decls)
      (comes_more r.stands.decls (0 + length so.rans) round one.ran.printed.outcomes (printed_commits 0 so.rans script.rounds)
      r.stands.mine s.stands.mine so.history one.history.gathered)) in
      let slotted : IsSlotted s (so.rans ++ one.ran ∷ []) = (
        one.lines.slots ∙ so.slotted.0,
        all_push (λ (ran : Ran). ran.beside.slots ≡ slots) so.rans one.ran so.slotted.1 (one.begins.slots ∙ so.slotted.0),
      ) in
      record {
        same = same;
        run = pushed.0;
        caused = record {
          caused = all_push AllCaused so.rans one.ran so.caused.caused one.lines.caused;
          beside = all_push CausedBeside so.rans one.ran so.caused.beside one.lines.beside;
          durable = all_push IsDurable so.rans one.ran so.caused.durable
              (record { as_told = one.durable; lasts = λ none. one.lasts (one.reports.end ∙ none) });
          sequences = sequences-push so.opening.sequence so.rans one.ran so.caused.sequences (one.begins.sequence ∙ so.sequence);
          marks = marked-push so.rans one.ran script.rounds round at_index so.caused.marks
              (marked round r s report one begins so.stands.workers ready.logs);
          tried = all_push (λ (ran : Ran). ran.beside.tries ≡ tries) so.rans one.ran so.caused.tried one.begins.tried;
          met = met-push script.decls so.rans one.ran script.rounds round at_index so.caused.met
              (met_same script.decls r.stands.decls so.same one.ran round one.met);
          counted = all_push DrawsAreCounted so.rans one.ran so.caused.counted one.counted;
          slotted = slotted.1;
          filled = all_push FullLeavesUnrun so.rans one.ran so.caused.filled (full_leaves so.stands out);
        };
        own = one.lines.caused;
        sequence = ap sequence_of stored.newest ∙ stored_length r.save.newest leaves.stored
            ∙ omega (arith, so.sequence, saved_many one.ran leaves.stored stored.epochs)
            ∙ sym (sequence_after-push so.opening.sequence so.rans one.ran);
        most = answers_most one.ran (keeper_before one.ran) one.ran.printed.asked one.ran.printed.answers one.ran.printed.end.epoch one.lines.caused.answers own.clocks.1.epoch
            (omega (arith, so.most, ap (λ (n : Number). n.epoch) begins));
        stands = leaves.stands;
        failed = failed_back was before now one.ran.beside.devices so.whole so.stands.whole so.quiet leaves.failed_are;
        up = λ none. save_up leaves (λ rose. none Save (rose_back was before now so.whole so.stands.whole so.quiet Save rose));
        up_quiet = λ quiet. down_none s.save.down leaves.failed stored.down
            (λ fails. in_none Save (subst (λ l. Contains l Save) quiet (stored.fails.0 fails)));
        sound = λ none. leaves.sound (λ has. none Snaps (rose_back was before now so.whole so.stands.whole so.quiet Snaps
            (leaves.failed_are.rose Snaps has)));
        sound_quiet = λ quiet. leaves.sound (λ has. in_none Snaps (subst (λ l. Contains l Snaps) quiet has));
        kept = kept;
        kept_over = λ sound first past done up.
            subst (λ l. KeptNext s.stands.decls so.opening (so.rans ++ one.ran ∷ []) l s now) (sym all)
            (subst (λ ds. KeptNext ds so.opening (so.rans ++ one.ran ∷ []) (so.run.ordered ++ own.ordered) s now) (sym one.lines.decls)
            (over_next r s count before now round report so at one leaves carries state_is rises falls sound first past done up));
        crashes = crashes;
        words = (files_after more.last one.ran more.made s.counted).words;
        words_are = more.pages;
        files = λ pages. record {
          words = more.words;
          begins = λ some. more.begins;
          last = files_after more.last one.ran more.made s.counted;
          rounds = files_from (at_now now) script.decls r.stands.decls so.opening.state pushed.0.ordered snap
              (files_before so.opening.saved more.words) (so.rans ++ one.ran ∷ []) (files_after more.last one.ran more.made s.counted) so.same
              (log_of_parts so.long.older so.long.gone (λ w. so.long.commits w ++ one.logged w))
              (λ w below. subst (λ l. AreLogged r.stands.decls w so.opening.state l
              (log_of_parts so.long.older so.long.gone (λ w. so.long.commits w ++ one.logged w) w)) (sym all)
              ((parts_then so.long so.stands refl state_is one leaves (length so.rans)).is_logged w below))
              (λ found told. let k = so.kept found told in log_of_parts k.older k.gone (λ w. k.commits w ++ one.logged w))
              (λ found told w below. subst (λ l. AreLogged r.stands.decls w so.opening.state l
              (let k = so.kept found told in log_of_parts k.older k.gone (λ w. k.commits w ++ one.logged w) w)) (sym all)
              ((logged_over (so.kept found told) so.stands refl state_is so.unended one leaves (length so.rans) rises falls).is_logged w below))
              more.from more.shut more.says;
          pages = pages;
        };
        paged = λ durable up sound found told.
            let k = so.kept found told in
            round_pages k.commits k.gone k.durable k.closed k.logs (k.open_files so.unended) leaves durable up sound;
        least = λ found told.
            let k = so.kept found told in
            let counted = least_pages k.commits k.gone k.durable k.closed k.logs (k.open_files so.unended) leaves
            (so.paged found told) in
            let more = ap length leaves.grows.1 ∙ length-append r.store.pages leaves.grows.0 in
            (omega (arith, one.begins.pages, counted), omega (arith, one.begins.pages, more));
        untold = λ damage is found told. never_damaged (so.kept found told) so.stands refl state_is so.unended one leaves (length so.rans) rises falls damage is;
        full = subst (λ l. AreFull script.decls so.opening.state l one.ran) (sym all)
            (long_full so.long so.stands refl state_is one leaves (length so.rans) script.decls so.same);
        history = (s.stands.decls, same, (s.stands.mine, on_words));
        on_words = on_words;
        slotted = slotted;
      }

  -- ---- before the first round

  -- no round is a run of none
  abbrev pub no_run : (opening : Opening) → IsScriptRun script opening.state opening.saved [] opening.state
  no_run opening = record {
    lines = tt;
    workers = λ worker. tt;
    clocks = tt;
    ordered = [];
    same = IsPermutation-refl [];
    serial = record { rising = tt; epochs = tt; answers = tt };
    draws = tt;
    after = refl;
  }

  -- the epoch before the first one
  before_first : (saved : ℕ) → saved ≡ saved + 1 - 1
  before_first saved = omega arith

  -- a run that begins stands before the first round
  pub none_so_far : (reads_told : (disk : D) (file : Bytes) → tells disk ≡ Some file → image_at disk (clock disk) file)
      (r : RuntimeState) (now : Vault D) → BeginsRun tells clock image_at faults snap slots script was now r
      → (so : RanSoFar r 0 now) × (so.rans ≡ [])
  none_so_far reads_told r now b =
      let settled : Settled = b.settled in
      let opening : Opening = record { state = settled.state; saved = settled.saved.epoch; sequence = sequence_of settled.save.newest } in
      let stored = settled_stored b.recovered settled b.recovered.saved b.settles.follows in
      let begins : BeginsAt opening = λ found told.
      may_begin snap script.decls found b.recovered opening stored.0 (b.recovers found told) b.up.saved b.has b.fits b.sequence
      b.settles.state b.settles.epoch stored.1 stored.2 in
      let start : RuntimeState = begun settled.decls settled.state r.stands settled.save settled.store b.room (clock_after settled.saved.epoch) in
      let kept = λ (found : Images) (told : AreTold tells (parts_of was) found).
      let logs = b.logs_told found told in
      kept_begins found b.room start b.settles (b.told found told) (b.recovers found told) b.snapshots refl b.pages_whole b.pages_fit
      (subst (λ (x : RuntimeState). AreLogs tells clock image_at (λ worker. []) (λ worker. []) x now) b.begins logs.0)
      (subst (λ (x : RuntimeState). AreClosedFiles tells clock image_at (λ worker. []) (λ worker. []) x now) b.begins logs.1)
      (subst (λ (x : RuntimeState). CountsOf Even (λ worker. []) (λ worker. []) (λ worker. []) (λ worker. []) x.save.newest) b.begins b.counts) in
      subst (λ (x : RuntimeState). (so : RanSoFar x 0 now) × (so.rans ≡ [])) (sym b.begins) (
        record {
          rans = [];
          opening = opening;
          counted = refl;
          same = b.same;
          run = no_run opening;
          begins = begins;
          caused = record { caused = tt; beside = tt; durable = tt; sequences = tt; marks = tt; tried = tt; counted = tt; met = tt; slotted = tt; filled = tt };
          went_on = tt;
          clock_is = refl;
          sequence = refl;
          unended = refl;
          most = (let epoch = b.settles.ranges.epoch in omega (arith, epoch));
          room = b.room_is;
          stands = subst (λ (x : RuntimeState). StandsOn tells clock image_at x now) b.begins b.stands;
          whole = b.whole;
          quiet = b.quiet;
          kept = λ found told. (kept found told).0;
          long = long_begins settled.decls settled.state start
              (λ w log below at. fresh_end 8 w (start.closed_at) log at);
          paged = λ found told. settled_pages b.settles;
          history = none_come settled.decls;
          slotted = (subst (λ (x : RuntimeState). x.stands.slots ≡ slots) b.begins b.slots_are, tt);
          over = record {
            words = words_of settled.store.pages;
            begins = λ found told.
                let recovers = b.recovers found told in
                (recovers.reading, recovers.is, begins_with script.decls found b.recovered settled recovers b.up.saved b.same b.settles.follows);
            last = files_before settled.saved.epoch (words_of settled.store.pages);
            from = refl;
            files = ap (λ (n : ℕ). record { odd = false; counted = replicate 8 0; closed_at = n }) (before_first settled.saved.epoch);
            pages = refl;
            since = λ found told. sym (kept found told).1;
            says = λ found told. tt;
            shut = tt;
            first = omega arith;
            past = tt;
          };
          crashes = λ found from told rest here.
              let goes = b.goes_on found from told rest here in
              let between = b.told found told in
              let recovered = b.recovers found told in
              let logs = b.logs_told found told in
              let k = kept found told in
              let left = left_since reads_told now found b.whole_between goes.3 b.empty between goes.4
              (recovers_state found b.recovered recovered) goes.2 in
              subst (λ (x : Reading). KeptBefore tells clock image_at from x settled.decls opening.sequence opening.saved
              opening.state [] [] k.0.commits k.0.gone start now)
              (one_reading found recovered.reading k.0.was.reading recovered.is k.0.was.is)
              (subst (λ (f : ℕ → List Commit). KeptBefore tells clock image_at from recovered.reading settled.decls
              opening.sequence opening.saved opening.state [] [] f k.0.gone start now) (sym k.2)
              (subst (λ (f : ℕ → List Commit). KeptBefore tells clock image_at from recovered.reading settled.decls
              opening.sequence opening.saved opening.state [] [] (λ w. []) f start now) (sym k.3)
              (subst (λ e. KeptBefore tells clock image_at from recovered.reading settled.decls opening.sequence e opening.state
              [] [] (λ w. []) (λ w. []) start now) (sym b.settles.epoch)
              (subst (λ (t : State). KeptBefore tells clock image_at from recovered.reading settled.decls opening.sequence
              b.recovered.epoch t [] [] (λ w. []) (λ w. []) start now) (sym b.settles.state)
              (crashes_begin reads_told b.recovered settled found b.up b.settles between recovered goes.0 left b.pages_whole
              (begun_records b.recovered settled b.settles.follows b.records b.empty.ties) b.room
              (clock_after settled.saved.epoch) start refl b.settles.epoch refl refl goes.1
              (subst (λ (x : RuntimeState). AreLogs tells clock image_at (λ worker. []) (λ worker. []) x now) b.begins logs.0)
              (subst (λ (x : RuntimeState). AreClosedFiles tells clock image_at (λ worker. []) (λ worker. []) x now) b.begins logs.1))))));
        },
        refl,
      )

  -- ---- a round that goes on

  pub goes_on : (r s : RuntimeState) (count : ℕ) (before now : Vault D) (round : Round) (report : Report)
      (so : RanSoFar r count before) → slice_get script.rounds count ≡ Some round → (one : RanRound tries round r s report)
      → (leaves : LeavesVault tells clock image_at faults one.ran one.logged r s before now)
      → CarriesCrashes tells clock image_at one.logged (leaves.stored ++ option_to_list leaves.failed) one.ran r s
      before now → LeavesLinesOut tells clock image_at faults one.ran one.logged r before
      → report.end ≡ None → (then : RanSoFar s (count + 1) now) × (then.rans ≡ so.rans ++ one.ran ∷ [])
  goes_on r s count before now round report so at one leaves carries out none =
      let m = one_more r s count before now round report so at one leaves carries out in
      let goes : RunGoesOn one.ran = sym one.reports.end ∙ none in
      let joined_on = joined_where_none one.ran one.lines.caused goes in
      let clock_joined : s.stands.clock ≡ joined one.ran.printed.end =
      one.clock ∙ ap (λ epoch. record { epoch = epoch; draw = one.ran.printed.end.draw }) joined_on.epoch in
      let sound : s.store.sound ≡ true = m.sound_quiet (goes_on_quiet one.ran goes) in
      let run = one.lines.run (length so.rans) in
      let later : r.stands.clock.epoch ≤ one.ran.printed.end.epoch =
      (let up = advances_later one.ran.printed.begin.epoch one.ran.printed.answers one.ran.printed.end.epoch run.clocks.1.epoch in
      omega (arith, up, ap (λ (n : Number). n.epoch) run.clocks.0)) in
      let joined_to : s.stands.clock.epoch ≡ one.ran.printed.end.epoch + 1 = ap (λ (n : Number). n.epoch) clock_joined in
      let next = m.kept_over sound (omega (arith, so.over.first, later, joined_to))
      (all_push (λ (ran : Ran). ran.printed.end.epoch < s.stands.clock.epoch) so.rans one.ran
      (all_weaker (λ (ran : Ran). ran.printed.end.epoch < r.stands.clock.epoch) (λ (ran : Ran). ran.printed.end.epoch < s.stands.clock.epoch)
      (λ ran past. omega (arith, past, later, joined_to)) so.rans so.over.past) (omega (arith, joined_to)))
      (λ comes. swaps_quiet one.ran (goes_on_quiet one.ran goes) comes) (m.up_quiet (goes_on_quiet one.ran goes)) in (
        record {
          rans = so.rans ++ one.ran ∷ [];
          opening = so.opening;
          counted = length-append so.rans (one.ran ∷ []) ∙ ap (λ n. n + 1) so.counted;
          same = m.same;
          run = m.run;
          begins = so.begins;
          caused = m.caused;
          went_on = all_push RunGoesOn so.rans one.ran so.went_on goes;
          clock_is = clock_joined ∙ sym (clock_from-push (clock_after so.opening.saved) so.rans one.ran);
          sequence = m.sequence;
          unended = one.ended ∙ ap is_some none;
          most = omega (arith, joined_on.below, ap (λ (n : Number). n.epoch) clock_joined);
          room = λ asks. leaves.room ∙ so.room asks;
          stands = m.stands;
          whole = so.whole;
          quiet = quiet_failed one.ran.beside.devices (goes_on_quiet one.ran goes) m.failed;
          kept = next.0;
          crashes = next.3;
          long = next.1;
          over = next.2;
          paged = m.paged (ap is_some (one.lasts none)) (m.up_quiet (goes_on_quiet one.ran goes)) sound;
          history = m.on_words;
          slotted = m.slotted;
        },
        refl,
      )
