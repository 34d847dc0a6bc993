-- What a call comes to, command by command, and on its way from what is added to what the sink holds.
use Rattle.std.proofs.Common.{◌≡◌, ◌∙◌, inl, sym, ap, subst, refl, ℕ, ◌≤◌, List, [], Option, Some, Result, Ok, Err, arith}
use Rattle.std.specs.Prelude.{IfOk, OnOk, false, true}
use Rattle.std.proofs.KnownBytes.{Consumes-nil}
use Rattle.outside.specs.Disk.{IfTold, Only}
use Rattle.outside.specs.declared.fault.Failed.{Failed}
use Rattle.log_writer.specs.Vault.{IsWhole}
use Rattle.log_writer.specs.declared.vault.Vault.{Vault}
use Rattle.joint_crashes.specs.VaultReads.{VaultOnlyReads, vault_reads_none}
use Rattle.text_output.specs.Output.{Bytes, Output, Prints}
use Rattle.text_output.specs.Printed.{adds_nothing}
use Rattle.script_grammar.specs.Script.{Script}
use Rattle.command_line.specs.declared.command.Command.{Command}
use Rattle.command_line.specs.declared.command.Command.TheVariants.{Run, Dump, Snaps, Snap, Make, Refused}
use Rattle.command_line.specs.declared.command.MakeArguments.{MakeArguments}
use Rattle.command_line.specs.declared.command.RunOptions.{RunOptions}
use Rattle.program_calls.specs.Answers.{Answers, Sources}
use Rattle.program_calls.specs.Causes.{AnswersDevices, AnswersFaults, Counts, IsInFull, IsReadStatus, IsRunStatus, IsStatus}
use Rattle.program_calls.specs.Causes.{LeavesVault, ReadsDamage, ReadsOnly, RestsAgain}
use Rattle.program_calls.specs.Ending.{ShownText, TakesAtMost, body_text, last_line, status_of}
use Rattle.program_calls.specs.Listings.{IsListing, Listed}
use Rattle.program_calls.specs.OnTheWay.{AddsRun, AddsText, EndsWithCause, IsUnread, ReadsText, RunsInBrief, RunsScript}
use Rattle.program_calls.specs.OnTheWay.{TakesText, status_told}
use Rattle.program_calls.specs.Vaults.{IsUntouched, Vaults}
use Rattle.program_calls.specs.declared.ending.Ending.{Ending}
use Rattle.program_calls.specs.declared.ending.Ending.TheVariants.{NoMemory, Usage}
use Rattle.program_calls.proofs.Courses.{brief_as, brief_of, made_came, memory_in_brief, memory_ran, script_came, script_in_brief}
use Rattle.program_calls.proofs.Courses.{shown_as, unread_came, unread_in_brief, usage_came}
use Rattle.program_calls.proofs.Listed.{devices_listed, faults_listed, listed_as, memory_listed, text_broken, text_finished, text_shown}
use Rattle.program_calls.proofs.Makes.{IsMade, devices_made, faults_made, made_as, memory_made, script_made, status_made}
use Rattle.program_calls.proofs.NotBegun.{rests_read}
use Rattle.program_calls.proofs.Statuses.{damage_finished, devices_finished, devices_unread, faults_finished, faults_quiet}
use Rattle.program_calls.proofs.Statuses.{faults_unread, no_device_told, reads_finished, rests_finished, source_as}
use Rattle.program_calls.proofs.Statuses.{status_8, status_finished, unread_most}

-- ---- what is left alone

-- nothing was taken of a source that is as it was
none_taken : (left : Option Bytes) → TakesAtMost left left
none_taken left = ([], Consumes-nil left, omega arith)

module _ {D : Type 0} (v : Vaults D) (same : IsUntouched v) where
  -- a vault that was let alone was only read
  alone_reads : VaultOnlyReads v.tells v.clock v.image_at v.faults v.was v.is
  alone_reads =
      subst (λ (x : Vault D). VaultOnlyReads v.tells v.clock v.image_at v.faults v.was x) (sym same) (vault_reads_none v.was)

  alone_rests : (status : ℕ) → RestsAgain v.tells v.clock v.image_at status v.was v.is
  alone_rests status = record {
    again = λ not_4 not_5 one.
        subst (λ (x : Vault D). IfTold (v.tells x.save) (Only v.clock v.image_at x.save)) (sym same) one;
  }

-- ---- commands are one

options_one : (options asked : RunOptions) → Run options ≡ Run asked → options ≡ asked
options_one options asked is = cc

arguments_one : (arguments asked : MakeArguments) → Make arguments ≡ Make asked → arguments ≡ asked
arguments_one arguments asked is = cc

run_not_made : (options : RunOptions) (arguments : MakeArguments) → Run options ≡ Make arguments → ⊥
run_not_made options arguments is = cc

made_not_run : (arguments : MakeArguments) (options : RunOptions) → Make arguments ≡ Run options → ⊥
made_not_run arguments options is = cc

refused_not_run : (options : RunOptions) → Refused ≡ Run options → ⊥
refused_not_run options is = cc

refused_not_made : (arguments : MakeArguments) → Refused ≡ Make arguments → ⊥
refused_not_made arguments is = cc

listing_not_run : (command : Command) (options : RunOptions) → IsListing command → command ≡ Run options → ⊥
listing_not_run command options listing is = subst IsListing is listing

listing_not_made : (command : Command) (arguments : MakeArguments) → IsListing command → command ≡ Make arguments → ⊥
listing_not_made command arguments listing is = subst IsListing is listing

listing_not_full : (command : Command) → IsListing command → IsInFull command → ⊥
listing_not_full Dump listing full = full
listing_not_full Snaps listing full = full
listing_not_full (Snap epoch) listing full = full
listing_not_full (Run options) listing full = listing
listing_not_full (Make arguments) listing full = listing
listing_not_full Refused listing full = listing

listing_not_alone : (command : Command) → IsListing command → LeavesVault command → ⊥
listing_not_alone Dump listing alone = alone
listing_not_alone Snaps listing alone = alone
listing_not_alone (Snap epoch) listing alone = alone
listing_not_alone (Run options) listing alone = listing
listing_not_alone (Make arguments) listing alone = listing
listing_not_alone Refused listing alone = listing

-- ---- a script

module _ {D S : Type 0} (v : Vaults D) (source : Sources S) (options : RunOptions) where
  -- a script was read, and run
  pub script_answers : (script : Script) (old new : Output) (r : Result Ending Failed)
      → ReadsText source.had source.left (Ok script) → source.faults.after ≡ source.faults.before
      → TakesAtMost source.had source.left
      → (options.brief ≡ false → RunsScript v options.snap options.slots options.tries script (AddsRun (Run options) old new r))
      → (options.brief ≡ true → RunsInBrief v options.snap options.slots options.tries script (AddsText old new r))
      → IsRunStatus (status_told r)
      → ((n : ℕ) → AnswersFaults (record { before = n; after = n }) (record { before = old.faults; after = new.faults }) (status_told r))
      → (ReadsOnly (Run options) (status_told r) → VaultOnlyReads v.tells v.clock v.image_at v.faults v.was v.is)
      → ReadsDamage v.tells v.clock v.image_at v.faults (status_told r) v.was v.is
      → AnswersDevices v.faults v.was v.is (status_told r) → RestsAgain v.tells v.clock v.image_at (status_told r) v.was v.is
      → Answers v (Run options) source (record { before = old.faults; after = new.faults }) (status_told r) (AddsText old new r)
  script_answers script old new r text quiet taken full brief most faults reads damage devices rests = record {
    in_full = λ lines. script_came v options source.had source.left script text (full lines);
    in_brief = λ asked is counts.
        let same = options_one options asked is in
        brief_of v options asked source.had source.left same (script_in_brief v options source.had source.left script text
        (brief (ap (λ (o : RunOptions). o.brief) same ∙ counts)));
    listed = λ listing. absurd listing;
    made = λ arguments is. absurd (run_not_made options arguments is);
    statuses = most;
    faults = source_as source.faults.before source.faults.after (record { before = old.faults; after = new.faults }) (status_told r) quiet faults;
    devices = devices;
    spared = λ none. absurd none;
    taken = taken;
    untouched = λ alone. absurd alone;
    reads = reads;
    damage = damage;
    rests = rests;
  }

  -- none was read
  pub unread_answers : (whole : IsWhole v.was)
      → ((disk : D) (file : Bytes) → v.tells disk ≡ Some file → v.image_at disk (v.clock disk) file)
      → (at : Output) (ending : Ending) → ReadsText source.had source.left (Err ending)
      → EndsWithCause source.faults.before source.faults.after ending → IsUnread ending
      → TakesAtMost source.had source.left → IsUntouched v
      → Answers v (Run options) source (record { before = at.faults; after = at.faults }) (status_of ending) (AddsText at at (Ok ending))
  unread_answers whole reads_told at ending text cause unread taken same = record {
    in_full = λ lines. unread_came v whole reads_told options source.had source.left ending text same (refl, adds_nothing at);
    in_brief = λ asked is counts.
        unread_in_brief v whole reads_told asked source.had source.left ending text same (refl, adds_nothing at);
    listed = λ listing. absurd listing;
    made = λ arguments is. absurd (run_not_made options arguments is);
    statuses = unread_most ending unread;
    faults = faults_unread source.faults (record { before = at.faults; after = at.faults }) ending cause refl;
    devices = devices_unread v.faults v.was v.is ending unread;
    spared = λ none. absurd none;
    taken = taken;
    untouched = λ alone. absurd alone;
    reads = λ only. alone_reads v same;
    damage = λ six found now told told_now. alone_reads v same;
    rests = alone_rests v same (status_of ending);
  }

-- ---- no source

module _ {D S : Type 0} (v : Vaults D) (source : Sources S) (spared : source.is ≡ source.was)
    (kept : source.left ≡ source.had) (quiet : source.faults.after ≡ source.faults.before) where
  -- nothing was taken of it
  taken_none : TakesAtMost source.had source.left
  taken_none = subst (λ (left : Option Bytes). TakesAtMost source.had left) (sym kept) (none_taken source.had)

  -- what the vault keeps was told
  pub listing_answers : (command : Command) → IsListing command → (old new : Output) (r : Result Ending Failed)
      → Listed command v.tells v.faults v.was v.is (AddsText old new r) → IsStatus command (status_told r)
      → VaultOnlyReads v.tells v.clock v.image_at v.faults v.was v.is
      → Answers v command source (record { before = old.faults; after = new.faults }) (status_told r) (AddsText old new r)
  listing_answers command listing old new r listed status reads = record {
    in_full = λ lines. absurd (listing_not_full command listing lines);
    in_brief = λ options is counts. absurd (listing_not_run command options listing is);
    listed = λ asked. listed;
    made = λ arguments is. absurd (listing_not_made command arguments listing is);
    statuses = status;
    faults = faults_listed command v.tells v.faults v.was v.is source.faults old new r listed quiet;
    devices = devices_listed command v.tells v.faults v.was v.is old new r listed;
    spared = λ none. spared;
    taken = taken_none;
    untouched = λ alone. absurd (listing_not_alone command listing alone);
    reads = λ only. reads;
    damage = λ six found now told told_now. reads;
    rests = rests_read (status_told r) reads;
  }

  module _ (whole : IsWhole v.was)
      (reads_told : (disk : D) (file : Bytes) → v.tells disk ≡ Some file → v.image_at disk (v.clock disk) file)
      (same : IsUntouched v) where
    -- the words were refused
    pub refused_answers : (at : Output)
        → Answers v Refused source (record { before = at.faults; after = at.faults }) 2 (AddsText at at (Ok Usage))
    refused_answers at = record {
      in_full = λ lines. usage_came v whole reads_told source.had source.left same (refl, adds_nothing at);
      in_brief = λ options is counts. absurd (refused_not_run options is);
      listed = λ listing. absurd listing;
      made = λ arguments is. absurd (refused_not_made arguments is);
      statuses = inl refl;
      faults = faults_quiet source.faults (record { before = at.faults; after = at.faults }) 2 quiet refl (λ three. omega arith) (λ four. omega arith);
      devices = no_device_told v.faults v.was v.is 2 (λ five. omega arith) (λ zero. omega arith);
      spared = λ none. spared;
      taken = taken_none;
      untouched = λ alone. same;
      reads = λ only. alone_reads v same;
      damage = λ six found now told told_now. alone_reads v same;
      rests = alone_rests v same 2;
    }

    -- a script was made
    pub made_answers : (arguments : MakeArguments) (old new : Output) (r : Result Ending Failed) → IsMade arguments old new r
        → Answers v (Make arguments) source (record { before = old.faults; after = new.faults }) (status_told r) (AddsText old new r)
    made_answers arguments old new r made = record {
      in_full = λ lines. made_came v whole reads_told arguments source.had source.left same made;
      in_brief = λ options is counts. absurd (made_not_run arguments options is);
      listed = λ listing. absurd listing;
      made = λ asked is. script_made arguments asked old new r (arguments_one arguments asked is) made;
      statuses = status_made arguments old new r made;
      faults = faults_made arguments old new source.faults r made quiet;
      devices = subst (λ (x : Vault D). AnswersDevices v.faults v.was x (status_told r)) (sym same)
          (devices_made arguments old new v.faults v.was r made);
      spared = λ none. spared;
      taken = taken_none;
      untouched = λ alone. same;
      reads = λ only. alone_reads v same;
      damage = λ six found now told told_now. alone_reads v same;
      rests = alone_rests v same (status_told r);
    }

    -- memory was wanted before anything was done
    pub memory_answers : (command : Command) (at : Output)
        → Answers v command source (record { before = at.faults; after = at.faults }) 8 (AddsText at at (Ok NoMemory))
    memory_answers command at = record {
      in_full = λ lines. memory_ran v whole reads_told command source.had source.left at lines same;
      in_brief = λ options is counts.
          memory_in_brief v whole reads_told options source.had source.left same (refl, adds_nothing at);
      listed = λ listing. memory_listed command v.tells v.faults v.was v.is at;
      made = λ arguments is. memory_made arguments at;
      statuses = status_8 command;
      faults = faults_quiet source.faults (record { before = at.faults; after = at.faults }) 8 quiet refl (λ three. omega arith) (λ four. omega arith);
      devices = no_device_told v.faults v.was v.is 8 (λ five. omega arith) (λ zero. omega arith);
      spared = λ none. spared;
      taken = taken_none;
      untouched = λ alone. same;
      reads = λ only. alone_reads v same;
      damage = λ six found now told told_now. alone_reads v same;
      rests = alone_rests v same 8;
    }

-- ---- the command that was asked for

pub asked_answers : {D S : Type 0} (v : Vaults D) (source : Sources S) (sink : Counts) (status : ℕ)
    (Shows : Bytes → Ending → Type 0) (command asked : Command) → command ≡ asked
    → Answers v command source sink status Shows → Answers v asked source sink status Shows
asked_answers v source sink status Shows command asked is =
    subst (λ (m : Command). Answers v m source sink status Shows) is

-- ---- on the way to the sink

module _ {D S : Type 0} (v : Vaults D) (source : Sources S) (command : Command) where
  -- what is shown, shown otherwise, where neither the status nor the sink's faults change
  shown_answers : (sink : Counts) (status : ℕ) (P Q : Bytes → Ending → Type 0)
      → ((text : Bytes) (ending : Ending) → P text ending → Q text ending)
      → Answers v command source sink status P → Answers v command source sink status Q
  shown_answers sink status P Q more a = record {
    in_full = λ lines. shown_as v (λ rans ending. more (body_text command rans ending) ending) (a.in_full lines);
    in_brief = λ options is counts. brief_as v more (a.in_brief options is counts);
    listed = λ listing. listed_as command v.tells v.faults v.was v.is more (a.listed listing);
    made = λ arguments is. made_as more (a.made arguments is);
    statuses = a.statuses;
    faults = a.faults;
    devices = a.devices;
    spared = a.spared;
    taken = a.taken;
    untouched = a.untouched;
    reads = a.reads;
    damage = a.damage;
    rests = a.rests;
  }

  -- a fault within the text
  pub answers_broken : (old new : Output) (e f : Failed) → old.waiting ≡ []
      → Answers v command source (record { before = old.faults; after = new.faults }) (status_told (Err e)) (AddsText old new (Err e))
      → Answers v command source (record { before = old.faults; after = new.faults }) (status_told (Err f)) (TakesText old.held new.held (Err f))
  answers_broken old new e f empty = shown_answers (record { before = old.faults; after = new.faults }) 4
      (AddsText old new (Err e)) (TakesText old.held new.held (Err f)) (text_broken old new e f empty)

  -- the text, and then the last line with all that waits, or a fault within these
  pub answers_finished : (old mid new : Output) (ending : Ending) (r : Result Ending Failed) → old.waiting ≡ []
      → Prints mid new (last_line ending) r → OnOk r (new.waiting ≡ []) → IfOk r (λ it. it ≡ ending)
      → Answers v command source (record { before = old.faults; after = mid.faults }) (status_told (Ok ending)) (AddsText old mid (Ok ending))
      → Answers v command source (record { before = old.faults; after = new.faults }) (status_told r) (TakesText old.held new.held r)
  answers_finished old mid new ending r empty line still same a =
      let more = text_finished old mid new ending r empty line still same in
      record {
        in_full = λ lines. shown_as v (λ rans e. more (body_text command rans e) e) (a.in_full lines);
        in_brief = λ options is counts. brief_as v more (a.in_brief options is counts);
        listed = λ listing. listed_as command v.tells v.faults v.was v.is more (a.listed listing);
        made = λ arguments is. made_as more (a.made arguments is);
        statuses = status_finished command ending r same a.statuses;
        faults = faults_finished source.faults old.faults mid new (last_line ending) ending r a.faults line same;
        devices = devices_finished v.faults v.was v.is ending r same a.devices;
        spared = a.spared;
        taken = a.taken;
        untouched = a.untouched;
        reads = reads_finished command ending r same a.reads;
        damage = damage_finished v.tells v.clock v.image_at v.faults v.was v.is ending r same a.damage;
        rests = rests_finished v.tells v.clock v.image_at v.was v.is ending r same a.rests;
      }

  -- the answer, where the printer stood over the sink
  pub answers_over : (sink : Counts) (held holds : Option Bytes) (r : Result Ending Failed) (status : ℕ) (old new : Output)
      → status ≡ status_told r → old.held ≡ held → new.held ≡ holds → old.faults ≡ sink.before → new.faults ≡ sink.after
      → Answers v command source (record { before = old.faults; after = new.faults }) (status_told r) (TakesText old.held new.held r)
      → Answers v command source sink status (ShownText held holds status)
  answers_over sink held holds r status old new is_told had has began ended a =
      shown_answers sink status (TakesText old.held new.held r) (ShownText held holds status)
      (text_shown held holds r status old new is_told had has)
      (subst (λ (n : ℕ). Answers v command source sink n (TakesText old.held new.held r)) (sym is_told)
      (subst (λ (n : ℕ). Answers v command source (record { before = n; after = sink.after }) (status_told r) (TakesText old.held new.held r)) began
      (subst (λ (n : ℕ). Answers v command source (record { before = old.faults; after = n }) (status_told r) (TakesText old.held new.held r)) ended a)))
