-- From the text of a listing on its way to what the sink holds, and to the answer.
use Rattle.std.proofs.Common.{◌≡◌, inl, inr, ◌∙◌, sym, ap, subst, refl, ℕ, ◌+◌, [], ◌++◌, Option, None, Result, Ok, Err}
use Rattle.std.proofs.Common.{arith}
use Rattle.std.specs.Prelude.{◌⊎◌, IfOk, IfSome, OnOk, reverse}
use Rattle.std.specs.FinMap.{get}
use Rattle.std.specs.List.{AllByRecursion, Contains}
use Rattle.std.specs.Io.KnownBytes.{Appends}
use Rattle.std.proofs.lemmas.List.{append-nil}
use Rattle.lists.specs.declared.memory.OrMemory.{OrMemory}
use Rattle.lists.specs.declared.memory.OrMemory.TheVariants as errors
use Rattle.outside.specs.Stream.{TakesPrefix}
use Rattle.outside.specs.declared.fault.Failed.{Failed}
use Rattle.outside.specs.declared.device.Device.{Device}
use Rattle.outside.specs.declared.device.Device.TheVariants.{Save, Snaps as SnapsDevice, Bank}
use Rattle.log_writer.specs.declared.vault.Vault.{Vault}
use Rattle.serial_model.specs.State.{State}
use Rattle.serial_model.specs.declared.decl.Decl.{Decl}
use Rattle.wire_form.specs.ContentLaws.{one_catalogue}
use Rattle.wire_form.specs.Pages.{Contents, decls_of}
use Rattle.snapshot_store.specs.Content.{CatalogueAt, IsContent, IsPageOf, RootStands, deepest, format_of, record_in}
use Rattle.snapshot_store.specs.Content.{root_place, words_of}
use Rattle.recovery_core.specs.Catalogues.{marks_of, newest_decls}
use Rattle.recovery_core.specs.Damage.{FirstBad, IsDamagedIn}
use Rattle.recovery_core.specs.DamageLaws.{none_bad, one_bad, one_damaged, one_page_breaks, reading_stands, stands_whole}
use Rattle.joint_crashes.specs.Images.{Images, epoch_of}
use Rattle.joint_crashes.specs.JointCrash.{parts_of}
use Rattle.recovery_core.specs.Recoverable.{IsReading, Reading}
use Rattle.recovery_core.specs.RecoverableLaws.{one_reading}
use Rattle.recovery_core.specs.Recovered.{Recovers, catalogue_of}
use Rattle.joint_crashes.specs.Resting.{AreTold}
use Rattle.recovery_core.specs.Snapshots.{BreaksAt, HasMark, IsCatalogueOf, IsSnapshotAt, RootBreaksAt}
use Rattle.joint_crashes.specs.VaultReads.{AreQuiet, RoseIn}
use Rattle.recovery_core.specs.declared.chain.SnapshotMark.{SnapshotMark}
use Rattle.recovery_core.specs.declared.fault.RecoverFault.{RecoverFault}
use Rattle.recovery_core.specs.declared.fault.RecoverFault.TheVariants as causes
use Rattle.recovery_core.specs.declared.recovered.Recovered.{Recovered}
use Rattle.text_output.specs.Output.{Bytes, Output, Adds, Breaks, Prints}
use Rattle.text_output.specs.Printed.{adds_as, adds_nothing, adds_then, breaks_then, breaks_within}
use Rattle.tx_script.specs.StateText.{state_text}
use Rattle.command_line.specs.declared.command.Command.{Command}
use Rattle.command_line.specs.declared.command.Command.TheVariants.{Run, Dump, Snaps, Snap, Make, Refused}
use Rattle.program_calls.specs.declared.ending.Ending.{Ending}
use Rattle.program_calls.specs.declared.ending.Ending.TheVariants.{Finished, NoScript, Shape, Usage, ReadFault, NoDevice, Damaged, AtLimit, NoMemory, NoSnapshot}
use Rattle.program_calls.specs.Causes.{AnswersDevices, AnswersFaults, Counts, IsDumpStatus, IsSnapStatus, IsStatus}
use Rattle.program_calls.specs.Ending.{damaged_text, last_line, no_snapshot_text, status_of}
use Rattle.program_calls.specs.Listings.{BreaksAtEpoch, HasBroken, HasNone, IsDamagedFor, IsOfEpoch, IsSnapshotOf, IsUndisturbed, Listed}
use Rattle.program_calls.specs.Listings.{ListingComes, Lists, TellsAll, TellsBefore, TellsDamage, TellsListing, TellsNone, snapshots_text}
use Rattle.program_calls.specs.Ending.{ShownText}
use Rattle.program_calls.specs.Ending.{SinkHolds}
use Rattle.program_calls.specs.OnTheWay.{AddsText, IsNoSnapshot, TakesText, TellsSnapshot, TellsText, ending_of_refusal}
use Rattle.program_calls.specs.OnTheWay.{status_told}
use Rattle.program_calls.specs.Snapshots.{HasContent}
use Rattle.program_calls.proofs.OneState.{one_state}
use Rattle.program_calls.proofs.SnapshotsFound.{decls_all, in_reversed, marked, of_mark, one_of_epoch, reversed_in}
use Rattle.program_calls.proofs.SnapshotsKept.{chained}
use Rattle.program_calls.proofs.Statuses.{faults_broke, faults_quiet, no_device_told, status_of-not_4}
use Rattle.program_calls.proofs.Told.{appends_from, holds_all, prefix_from}

-- ---- what devices say is one, and so is what is told of it

-- the catalogue of an epoch is one
one_snapshot : (found : Images) (reading : Reading) (epoch : ℕ) (c d : Contents) → IsReading found reading
    → IsOfEpoch reading epoch c → IsOfEpoch reading epoch d → c ≡ d
one_snapshot found reading epoch c d is first second =
    one_of_epoch reading.pages (epoch_of reading.point + 1) None (catalogue_of reading.point) reading.catalogues c d
    (chained found reading is).chain first.has second.has (first.epoch_is ∙ sym second.epoch_is)

one_listing : (command : Command) (found : Images) (reading : Reading) (a b : Bytes) → IsReading found reading
    → Lists command reading a → Lists command reading b → a ≡ b
one_listing Dump found reading a b is first second =
    let state : first.0 ≡ second.0 = one_state first.0 second.0 (λ key. first.1 key ∙ sym (second.1 key)) in
    first.2 ∙ ap (λ s. state_text (epoch_of reading.point) (newest_decls reading.catalogues) s) state ∙ sym second.2
one_listing Snaps found reading a b is first second = first ∙ sym second
one_listing (Snap epoch) found reading a b is first second =
    let one = first.1 in
    let other = second.1 in
    let same = one_snapshot found reading epoch one.catalogue other.catalogue is one.is other.is in
    let content = subst (λ c. HasContent reading c first.0) same one.content in
    let state : first.0 ≡ second.0 =
    one_state first.0 second.0 (λ key. content.content key ∙ sym (other.content.content key)) in
    first.2 ∙ ap (λ c. state_text epoch (decls_of c) first.0) same
    ∙ ap (λ s. state_text epoch (decls_of other.catalogue) s) state ∙ sym second.2
one_listing (Run options) found reading a b is first second = absurd first
one_listing (Make arguments) found reading a b is first second = absurd first
one_listing Refused found reading a b is first second = absurd first

-- ---- damage

-- what a command has to read breaks in one of two ways
abbrev BreaksFor : Command → Images → Device → ℕ → Type 0
BreaksFor command found device at = IsDamagedIn found device at
    ⊎ ((device ≡ SnapsDevice) × (epoch : ℕ) × (command ≡ Snap epoch) × HasBroken found epoch at)

broken_so : (command : Command) (found : Images) (device : Device) (at : ℕ) → IsDamagedFor command found device at
    → BreaksFor command found device at
broken_so Dump found device at is = inl is
broken_so Snaps found device at is = inl is
broken_so (Snap epoch) found Save at is = inl is
broken_so (Snap epoch) found SnapsDevice at (inl is) = inl is
broken_so (Snap epoch) found SnapsDevice at (inr is) = inr (refl, epoch, refl, is)
broken_so (Snap epoch) found (Bank n) at is = inl is
broken_so (Run options) found device at is = inl is
broken_so (Make arguments) found device at is = inl is
broken_so Refused found device at is = inl is

-- what is damaged for every command
pub damaged_for : (command : Command) (found : Images) (device : Device) (at : ℕ) → IsDamagedIn found device at
    → IsDamagedFor command found device at
damaged_for Dump found device at is = is
damaged_for Snaps found device at is = is
damaged_for (Snap epoch) found Save at is = is
damaged_for (Snap epoch) found SnapsDevice at is = inl is
damaged_for (Snap epoch) found (Bank n) at is = is
damaged_for (Run options) found device at is = is
damaged_for (Make arguments) found device at is = is
damaged_for Refused found device at is = is

-- a snapshot whose pages stand doesn't break
snapshot_stands : (found : Images) (reading : Reading) (epoch at : ℕ) (state : State) → IsReading found reading
    → IsSnapshotOf reading epoch state → HasBroken found epoch at → ⊥
snapshot_stands found reading epoch at state is has broken =
    let same : broken.0 ≡ reading = one_reading found broken.0 reading broken.1 is in
    let breaks : BreaksAtEpoch reading epoch at = subst (λ r. BreaksAtEpoch r epoch at) same broken.2 in
    let one = one_snapshot found reading epoch breaks.catalogue has.catalogue is breaks.is has.is in
    none_bad (RootStands reading.pages) (RootBreaksAt reading.pages at)
    (λ s. stands_whole (format_of s.decl) (IsPageOf s.decl) reading.pages at deepest (root_place s.decl s.root))
    has.catalogue.storages has.content.stands
    (subst (λ (c : Contents). FirstBad (RootStands reading.pages) (RootBreaksAt reading.pages at) c.storages) one
    breaks.first)

-- and one that breaks does so at one byte
one_broken : (found : Images) (epoch a b : ℕ) → HasBroken found epoch a → HasBroken found epoch b → a ≡ b
one_broken found epoch a b p q =
    let reading : Reading = p.0 in
    let same : q.0 ≡ p.0 = one_reading found q.0 p.0 q.1 p.1 in
    let first : BreaksAtEpoch p.0 epoch a = p.2 in
    let second : BreaksAtEpoch p.0 epoch b = subst (λ r. BreaksAtEpoch r epoch b) same q.2 in
    let one = one_snapshot found p.0 epoch second.catalogue first.catalogue p.1 second.is first.is in
    one_bad (RootStands reading.pages) (RootBreaksAt reading.pages) a b
    (λ s. stands_whole (format_of s.decl) (IsPageOf s.decl) reading.pages a deepest (root_place s.decl s.root))
    (λ s. stands_whole (format_of s.decl) (IsPageOf s.decl) reading.pages b deepest (root_place s.decl s.root))
    (λ s. one_page_breaks (format_of s.decl) (IsPageOf s.decl) reading.pages a b deepest (root_place s.decl s.root))
    first.catalogue.storages first.first
    (subst (λ (c : Contents). FirstBad (RootStands reading.pages) (RootBreaksAt reading.pages b) c.storages) one
    second.first)

-- devices of which something is told aren't damaged
listing_stands : (command : Command) (found : Images) (reading : Reading) (text : Bytes) (device : Device) (at : ℕ)
    → IsReading found reading → Lists command reading text → IsDamagedFor command found device at → ⊥
listing_stands command found reading text device at is lists damaged =
    elim (broken_so command found device at damaged) [
      | inl wrong ↦ reading_stands found reading device at is wrong
      | inr broken ↦
          let has = subst (λ (c : Command). Lists c reading text) broken.2 lists in
          snapshot_stands found reading broken.1 at has.0 is has.1 broken.3
    ]

-- nor are those without such a snapshot
none_stands : (command : Command) (found : Images) (reading : Reading) (epoch : ℕ) (device : Device) (at : ℕ)
    → command ≡ Snap epoch → IsReading found reading → HasNone reading epoch → IsDamagedFor command found device at
    → ⊥
none_stands command found reading epoch device at asked is none damaged =
    elim (broken_so command found device at damaged) [
      | inl wrong ↦ reading_stands found reading device at is wrong
      | inr broken ↦
          let same_epoch : broken.1 ≡ epoch = same_snap broken.1 epoch (sym broken.2 ∙ asked) in
          let there = broken.3 in
          let same : there.0 ≡ reading = one_reading found there.0 reading there.1 is in
          let breaks = subst (λ e. BreaksAtEpoch reading e at) same_epoch
          (subst (λ r. BreaksAtEpoch r broken.1 at) same there.2) in
          none breaks.catalogue breaks.is
    ]
  where
    same_snap : (a b : ℕ) → (let c : Command = Snap a in c ≡ Snap b) → a ≡ b
    same_snap a b is = cc

-- and damage is at one byte of one device
one_damage : (command : Command) (found : Images) (d e : Device) (a b : ℕ) → IsDamagedFor command found d a
    → IsDamagedFor command found e b → (d ≡ e) × (a ≡ b)
one_damage command found d e a b p q =
    elim (broken_so command found d a p) [
      | inl first ↦ elim (broken_so command found e b q) [
        | inl second ↦ one_damaged found d e a b first second
        | inr second ↦ let there = second.3 in absurd (reading_stands found there.0 d a there.1 first)
      ]
      | inr first ↦ elim (broken_so command found e b q) [
        | inl second ↦ let there = first.3 in absurd (reading_stands found there.0 e b there.1 second)
        | inr second ↦
            let same_epoch : second.1 ≡ first.1 = same_snap second.1 first.1 (sym second.2 ∙ first.2) in (
              first.0 ∙ sym second.0,
              one_broken found first.1 a b first.3 (subst (λ n. HasBroken found n b) same_epoch second.3),
            )
      ]
    ]
  where
    same_snap : (a b : ℕ) → (let c : Command = Snap a in c ≡ Snap b) → a ≡ b
    same_snap a b is = cc

-- ---- from what was recovered

-- a catalogue that was recovered is one that the devices have
of_catalogue : (found : Images) (r : Recovered) (recovers : Recovers found r) (epoch number : ℕ) (contents : Contents)
    → IsCatalogueOf r epoch number contents → IsOfEpoch recovers.reading epoch contents
of_catalogue found r recovers epoch number contents is =
    let reading = recovers.reading in
    let mark : SnapshotMark = record { epoch = epoch; page = number } in
    let has : Contains (marks_of (catalogue_of reading.point) reading.catalogues) mark =
    in_reversed mark (marks_of (catalogue_of reading.point) reading.catalogues)
    (subst (λ l. Contains l mark) recovers.catalogues is.marked) in
    let there = of_mark reading.pages (epoch_of reading.point + 1) None (catalogue_of reading.point)
    reading.catalogues mark (chained found reading recovers.is).chain has in
    let here : CatalogueAt reading.pages number contents =
    subst (λ pages. CatalogueAt pages number contents) recovers.pages is.here in
    let same : there.catalogue ≡ contents = one_catalogue number there.catalogue contents there.here.catalogue
    here.catalogue (sym there.here.words ∙ here.words) in
    record { has = subst (λ c. Contains reading.catalogues c) same there.has; epoch_is = is.epoch_is }

snapshot_found : (found : Images) (r : Recovered) (recovers : Recovers found r) (epoch : ℕ) (state : State)
    → (at : IsSnapshotAt r epoch state) → (has : IsSnapshotOf recovers.reading epoch state)
    × (has.catalogue ≡ at.contents)
snapshot_found found r recovers epoch state at = (
  record {
    catalogue = at.contents;
    is = of_catalogue found r recovers epoch at.number at.contents at.catalogue;
    content = record {
      stands = subst (λ pages. AllByRecursion (RootStands pages) at.contents.storages) recovers.pages at.stands.roots;
      content = subst (λ pages. IsContent (record_in pages) at.contents.storages state) recovers.pages
          at.content.content;
    };
  },
  refl,
)

snapshot_broken : (found : Images) (r : Recovered) → Recovers found r → (epoch at : ℕ) → BreaksAt r epoch at
    → HasBroken found epoch at
snapshot_broken found r recovers epoch at breaks = (
  recovers.reading,
  recovers.is,
  record {
    catalogue = breaks.contents;
    is = of_catalogue found r recovers epoch breaks.number breaks.contents breaks.catalogue;
    first = subst (λ pages. FirstBad (RootStands pages) (RootBreaksAt pages at) breaks.contents.storages)
        recovers.pages breaks.first;
  },
)

snapshot_none : (found : Images) (r : Recovered) (recovers : Recovers found r) (epoch : ℕ)
    → ((number : ℕ) → HasMark r epoch number → ⊥) → HasNone recovers.reading epoch
snapshot_none found r recovers epoch none c is =
    let reading = recovers.reading in
    let has = marked (catalogue_of reading.point) reading.catalogues c is.has in
    let mark : SnapshotMark = record { epoch = epoch; page = has.0 } in
    let marked_so : Contains (marks_of (catalogue_of reading.point) reading.catalogues) mark =
    subst (λ e. Contains (marks_of (catalogue_of reading.point) reading.catalogues)
    (let m : SnapshotMark = record { epoch = e; page = has.0 } in m)) is.epoch_is has.1 in
    none has.0 (subst (λ l. Contains l mark) (sym recovers.catalogues)
    (reversed_in mark (marks_of (catalogue_of reading.point) reading.catalogues) marked_so))

-- the status of an undisturbed call is its ending's
own_status : (status : ℕ) (ending : Ending) → IsUndisturbed status → (status ≡ status_of ending) ⊎ (status ≡ 4) → status ≡ status_of ending
own_status status ending calm (inl own) = own
own_status status ending calm (inr four) = absurd (calm.sink four)

-- what the sink took shows the status and the text
shows : (held holds : Option Bytes) (r : Result Ending Failed) (text : Bytes) (ending : Ending) → TakesText held holds r text ending
    → ShownText held holds (status_told r) text ending
shows held holds (Ok came) text ending takes = record {
  status_is = inl (ap status_of (sym takes.0));
  printed = subst (λ (e : Ending). SinkHolds (status_of e) held holds (text ++ last_line ending)) takes.0
      (holds_all ending held holds (text ++ last_line ending) takes.1);
}
shows held holds (Err failed) text ending takes = record { status_is = inr refl; printed = takes }

-- a fault within a text
pub text_broken : (old new : Output) (e f : Failed) → old.waiting ≡ [] → (text : Bytes) (ending : Ending) → AddsText old new (Err e) text ending
    → TakesText old.held new.held (Err f) text ending
text_broken old new e f empty text ending broke = prefix_from old new (text ++ last_line ending) empty broke

-- a text, and then the last line with all that waits, or a fault within these
pub text_finished : (old mid new : Output) (ending : Ending) (r : Result Ending Failed) → old.waiting ≡ [] → Prints mid new (last_line ending) r
    → OnOk r (new.waiting ≡ []) → IfOk r (λ it. it ≡ ending) → (text : Bytes) (e : Ending) → AddsText old mid (Ok ending) text e
    → TakesText old.held new.held r text e
text_finished old mid new ending (Ok it) empty line still same text e added =
    let whole : Adds old new (text ++ last_line e) = adds_then added.1 (adds_as (ap last_line (sym added.0)) line) in
    (added.0 ∙ sym same, appends_from old new (text ++ last_line e) empty still whole)
text_finished old mid new ending (Err f) empty line still same text e added =
    let whole : Breaks old new (text ++ last_line ending) = breaks_then added.1 line in
    subst (λ (x : Ending). TakesPrefix old.held new.held (text ++ last_line x)) (sym added.0) (prefix_from old new (text ++ last_line ending) empty whole)

-- what is shown of it, where the printer stood over the sink
pub text_shown : (held holds : Option Bytes) (r : Result Ending Failed) (status : ℕ) (old new : Output) → status ≡ status_told r → old.held ≡ held
    → new.held ≡ holds → (text : Bytes) (ending : Ending) → TakesText old.held new.held r text ending → ShownText held holds status text ending
text_shown held holds r status old new is_told had has text ending takes =
    subst (λ s. ShownText held holds s text ending) (sym is_told) (shows held holds r text ending
    (subst (λ h. TakesText h holds r text ending) had (subst (λ h. TakesText old.held h r text ending) has takes)))

-- a page of a snapshot isn't right, or memory was wanted
pub snap_untold : (r : Recovered) (epoch : ℕ) (at : Output) (refusal : OrMemory RecoverFault)
    → ((device : Device) (n : ℕ) → refusal ≡ errors.Fault (causes.Damaged device n) → (device ≡ SnapsDevice) × BreaksAt r epoch n)
    → ((device : Device) → refusal ≡ errors.Fault (causes.Device device) → ⊥)
    → TellsSnapshot r epoch at at (Ok (ending_of_refusal refusal))
snap_untold r epoch at (errors.Fault (causes.Device device)) breaks never = absurd (never device refl)
snap_untold r epoch at (errors.Fault (causes.Damaged device n)) breaks never =
    inr (Damaged device n, refl, refl, breaks device n refl)
snap_untold r epoch at errors.Memory breaks never = inr (NoMemory, refl, refl, tt)

module _ {D : Type 0} (command : Command) (tells : D → Option Bytes) (faults : D → ℕ) (was is : Vault D) where
  -- the same ending with the same text, of which something else is shown
  pub listed_as : {Shows Others : Bytes → Ending → Type 0} → ((text : Bytes) (ending : Ending) → Shows text ending → Others text ending)
      → Listed command tells faults was is Shows → Listed command tells faults was is Others
  listed_as more d = record { text = d.text; ending = d.ending; comes = d.comes; shown = more d.text d.ending d.shown }

  -- ---- a listing is made, or refused

  -- recovery was refused
  pub listing_refused : (at : Output) (refusal : OrMemory RecoverFault)
      → ((device : Device) (n : ℕ) → refusal ≡ errors.Fault (causes.Damaged device n)
      → (found : Images) → AreTold tells (parts_of was) found → IsDamagedIn found device n)
      → ((device : Device) → refusal ≡ errors.Fault (causes.Device device) → RoseIn faults device was is)
      → ((device : Device) → refusal ≡ errors.Fault (causes.Device device) → TellsBefore tells was device)
      → Listed command tells faults was is (AddsText at at (Ok (ending_of_refusal refusal)))
  listing_refused at (errors.Fault (causes.Device device)) damaged rose before = record {
    text = [];
    ending = NoDevice device;
    comes = (refl, rose device refl, before device refl);
    shown = (refl, adds_nothing at);
  }
  listing_refused at (errors.Fault (causes.Damaged device n)) damaged rose before = record {
    text = [];
    ending = Damaged device n;
    comes = (refl, λ found told. damaged_for command found device n (damaged device n refl found told));
    shown = (refl, adds_nothing at);
  }
  listing_refused at errors.Memory damaged rose before = record { text = []; ending = NoMemory; comes = refl; shown = (refl, adds_nothing at) }

  -- memory was wanted before
  pub memory_listed : (at : Output) → Listed command tells faults was is (AddsText at at (Ok NoMemory))
  memory_listed at = record { text = []; ending = NoMemory; comes = refl; shown = (refl, adds_nothing at) }

  pub listing_made : (old new : Output) (text : Bytes) → AreQuiet faults was is → TellsListing command tells was text
      → Adds old new text → Listed command tells faults was is (AddsText old new (Ok Finished))
  listing_made old new text quiet lists adds =
      record { text = text; ending = Finished; comes = (quiet, lists); shown = (refl, adds) }

  pub listing_broke : (old new : Output) (text : Bytes) (failed : Failed) → AreQuiet faults was is
      → TellsListing command tells was text → Breaks old new text
      → Listed command tells faults was is (AddsText old new (Err failed))
  listing_broke old new text failed quiet lists breaks =
      record { text = text; ending = Finished; comes = (quiet, lists); shown = breaks_within [] breaks }

  pub listing_text : (old new : Output) (text : Bytes) (r : Result Ending Failed) → AreQuiet faults was is
      → TellsListing command tells was text → TellsText old new text r
      → Listed command tells faults was is (AddsText old new r)
  listing_text old new text (Ok came) quiet lists told =
      subst (λ (e : Ending). Listed command tells faults was is (AddsText old new (Ok e))) (sym told.0)
      (listing_made old new text quiet lists told.1)
  listing_text old new text (Err failed) quiet lists told = listing_broke old new text failed quiet lists told

  -- ---- its status

  not_3 : (text : Bytes) (ending : Ending) → ListingComes command tells faults was is text ending → status_of ending ≡ 3 → ⊥
  not_3 text Finished comes three = omega arith
  not_3 text (NoScript fault) comes three = comes
  not_3 text (Shape declared others) comes three = comes
  not_3 text Usage comes three = comes
  not_3 text ReadFault comes three = comes
  not_3 text (NoDevice device) comes three = omega arith
  not_3 text (Damaged device at) comes three = omega arith
  not_3 text (AtLimit name) comes three = comes
  not_3 text NoMemory comes three = omega arith
  not_3 text (NoSnapshot epoch) comes three = omega arith

  not_usage : (text : Bytes) (ending : Ending) → ListingComes command tells faults was is text ending → ending ≡ Usage → ⊥
  not_usage text Finished comes usage = cc
  not_usage text (NoScript fault) comes usage = comes
  not_usage text (Shape declared others) comes usage = comes
  not_usage text Usage comes usage = comes
  not_usage text ReadFault comes usage = comes
  not_usage text (NoDevice device) comes usage = cc
  not_usage text (Damaged device at) comes usage = cc
  not_usage text (AtLimit name) comes usage = comes
  not_usage text NoMemory comes usage = cc
  not_usage text (NoSnapshot epoch) comes usage = cc

  -- 9 is that of a snapshot alone
  status_comes : (text : Bytes) (ending : Ending) → ListingComes command tells faults was is text ending
      → IsDumpStatus (status_of ending) ⊎ ((status_of ending ≡ 9) × (epoch : ℕ) × (command ≡ Snap epoch))
  status_comes text Finished comes = inl (inl refl)
  status_comes text (NoScript fault) comes = absurd comes
  status_comes text (Shape declared others) comes = absurd comes
  status_comes text Usage comes = absurd comes
  status_comes text ReadFault comes = absurd comes
  status_comes text (NoDevice device) comes = inl (inr (inl (omega arith, omega arith)))
  status_comes text (Damaged device at) comes = inl (inr (inl (omega arith, omega arith)))
  status_comes text (AtLimit name) comes = absurd comes
  status_comes text NoMemory comes = inl (inr (inr refl))
  status_comes text (NoSnapshot epoch) comes = inr (refl, epoch, comes.1)

  told_so : (old new : Output) (r : Result Ending Failed) → Listed command tells faults was is (AddsText old new r)
      → IsDumpStatus (status_told r) ⊎ ((status_told r ≡ 9) × (epoch : ℕ) × (command ≡ Snap epoch))
  told_so old new (Ok came) d =
      let shown = d.shown in
      subst (λ (e : Ending). IsDumpStatus (status_of e) ⊎ ((status_of e ≡ 9) × (epoch : ℕ) × (command ≡ Snap epoch))) shown.0
      (status_comes d.text d.ending d.comes)
  told_so old new (Err failed) d = inl (inr (inl (omega arith, omega arith)))

  -- a listing is no usage
  pub usage_not_listed : (old new : Output) (r : Result Ending Failed) → Listed command tells faults was is (AddsText old new r) → r ≡ Ok Usage → ⊥
  usage_not_listed old new (Ok came) d usage =
      let shown = d.shown in
      let same : came ≡ Usage = cc in
      not_usage d.text d.ending d.comes (shown.0 ∙ same)
  usage_not_listed old new (Err failed) d usage = cc

  -- it prints to the same sink
  pub same_listed : (old new : Output) (r : Result Ending Failed) → Listed command tells faults was is (AddsText old new r) → new.sink ≡ old.sink
  same_listed old new (Ok came) d = let shown = d.shown in let adds = shown.1 in adds.same
  same_listed old new (Err failed) d = let breaks = d.shown in breaks.same

  -- only the sink may fail beside the devices
  pub faults_listed : (source : Counts) (old new : Output) (r : Result Ending Failed) → Listed command tells faults was is (AddsText old new r)
      → source.after ≡ source.before → AnswersFaults source (record { before = old.faults; after = new.faults }) (status_told r)
  faults_listed source old new (Ok came) d quiet =
      let shown = d.shown in
      let adds = shown.1 in
      faults_quiet source (record { before = old.faults; after = new.faults }) (status_of came) quiet adds.faults
      (λ three. not_3 d.text d.ending d.comes (ap status_of shown.0 ∙ three)) (status_of-not_4 came)
  faults_listed source old new (Err failed) d quiet =
      faults_broke source old new (d.text ++ last_line d.ending) d.shown quiet

  -- ---- what the sink holds

  -- the answer, where the printer stood over the sink
  pub listing_over : (held holds : Option Bytes) (r : Result Ending Failed) (status : ℕ) (old new : Output) → status ≡ status_told r → old.held ≡ held
      → new.held ≡ holds → Listed command tells faults was is (TakesText old.held new.held r) → Listed command tells faults was is (ShownText held holds status)
  listing_over held holds r status old new is_told had has = listed_as (text_shown held holds r status old new is_told had has)

  -- ---- all is told where nothing fails

  listing_told : (found : Images) (reading : Reading) (listed : Bytes) (held holds : Option Bytes) (status : ℕ) (text : Bytes) (ending : Ending)
      → AreTold tells (parts_of was) found → IsUndisturbed status → IsReading found reading → Lists command reading listed
      → ListingComes command tells faults was is text ending → status ≡ status_of ending
      → SinkHolds status held holds (text ++ last_line ending) → (status ≡ 0) × Appends held holds listed
  listing_told found reading listed held holds status text Finished told calm reads lists comes own has =
      let here = comes.1 found told in
      let whole : Appends held holds (text ++ []) = subst (λ s. SinkHolds s held holds (text ++ [])) own has in
      let same : here.0 ≡ reading = one_reading found here.0 reading here.1 reads in
      let one = one_listing command found reading text listed reads (subst (λ r. Lists command r text) same here.2) lists in
      (own, subst (Appends held holds) (append-nil text ∙ one) whole)
  listing_told found reading listed held holds status text (NoScript fault) told calm reads lists comes own has = absurd comes
  listing_told found reading listed held holds status text (Shape declared others) told calm reads lists comes own has = absurd comes
  listing_told found reading listed held holds status text Usage told calm reads lists comes own has = absurd comes
  listing_told found reading listed held holds status text ReadFault told calm reads lists comes own has = absurd comes
  listing_told found reading listed held holds status text (NoDevice device) told calm reads lists comes own has = absurd (calm.device own)
  listing_told found reading listed held holds status text (Damaged device at) told calm reads lists comes own has =
      absurd (listing_stands command found reading listed device at reads lists (comes.1 found told))
  listing_told found reading listed held holds status text (AtLimit name) told calm reads lists comes own has = absurd comes
  listing_told found reading listed held holds status text NoMemory told calm reads lists comes own has = absurd (calm.memory own)
  listing_told found reading listed held holds status text (NoSnapshot epoch) told calm reads lists comes own has =
      let there = comes.3 found told in
      let same : there.0 ≡ reading = one_reading found there.0 reading there.1 reads in
      let none : HasNone reading epoch = subst (λ r. HasNone r epoch) same there.2 in
      let snapshot = subst (λ (c : Command). Lists c reading listed) comes.1 lists in
      let it = snapshot.1 in
      absurd (none it.catalogue it.is)

  none_told : (found : Images) (epoch : ℕ) (reading : Reading) (held holds : Option Bytes) (status : ℕ) (text : Bytes) (ending : Ending)
      → AreTold tells (parts_of was) found → IsUndisturbed status → command ≡ Snap epoch → IsReading found reading → HasNone reading epoch
      → ListingComes command tells faults was is text ending → status ≡ status_of ending
      → SinkHolds status held holds (text ++ last_line ending) → (status ≡ 9) × Appends held holds (no_snapshot_text epoch)
  none_told found epoch reading held holds status text Finished told calm asked reads none comes own has =
      let here = comes.1 found told in
      let same : here.0 ≡ reading = one_reading found here.0 reading here.1 reads in
      let snapshot = subst (λ (c : Command). Lists c reading text) asked (subst (λ r. Lists command r text) same here.2) in
      let it = snapshot.1 in
      absurd (none it.catalogue it.is)
  none_told found epoch reading held holds status text (NoScript fault) told calm asked reads none comes own has = absurd comes
  none_told found epoch reading held holds status text (Shape declared others) told calm asked reads none comes own has = absurd comes
  none_told found epoch reading held holds status text Usage told calm asked reads none comes own has = absurd comes
  none_told found epoch reading held holds status text ReadFault told calm asked reads none comes own has = absurd comes
  none_told found epoch reading held holds status text (NoDevice device) told calm asked reads none comes own has = absurd (calm.device own)
  none_told found epoch reading held holds status text (Damaged device at) told calm asked reads none comes own has =
      absurd (none_stands command found reading epoch device at asked reads none (comes.1 found told))
  none_told found epoch reading held holds status text (AtLimit name) told calm asked reads none comes own has = absurd comes
  none_told found epoch reading held holds status text NoMemory told calm asked reads none comes own has = absurd (calm.memory own)
  none_told found epoch reading held holds status text (NoSnapshot other) told calm asked reads none comes own has =
      let same : other ≡ epoch = same_snap other epoch (sym comes.1 ∙ asked) in
      let whole : Appends held holds (text ++ no_snapshot_text other) = subst (λ s. SinkHolds s held holds (text ++ no_snapshot_text other)) own has in
      (own, subst (Appends held holds) (ap (λ t. t ++ no_snapshot_text other) comes.0 ∙ ap no_snapshot_text same) whole)
    where
      same_snap : (a b : ℕ) → (let c : Command = Snap a in c ≡ Snap b) → a ≡ b
      same_snap a b is = cc

  damage_told : (found : Images) (device : Device) (at : ℕ) (held holds : Option Bytes) (status : ℕ) (text : Bytes) (ending : Ending)
      → AreTold tells (parts_of was) found → IsUndisturbed status → IsDamagedFor command found device at → ListingComes command tells faults was is text ending
      → status ≡ status_of ending → SinkHolds status held holds (text ++ last_line ending) → (status ≡ 6) × Appends held holds (damaged_text device at)
  damage_told found device at held holds status text Finished told calm damaged comes own has =
      let here = comes.1 found told in
      absurd (listing_stands command found here.0 text device at here.1 here.2 damaged)
  damage_told found device at held holds status text (NoScript fault) told calm damaged comes own has = absurd comes
  damage_told found device at held holds status text (Shape declared others) told calm damaged comes own has = absurd comes
  damage_told found device at held holds status text Usage told calm damaged comes own has = absurd comes
  damage_told found device at held holds status text ReadFault told calm damaged comes own has = absurd comes
  damage_told found device at held holds status text (NoDevice other) told calm damaged comes own has = absurd (calm.device own)
  damage_told found device at held holds status text (Damaged other n) told calm damaged comes own has =
      let one = one_damage command found other device n at (comes.1 found told) damaged in
      let whole : Appends held holds (text ++ damaged_text other n) = subst (λ s. SinkHolds s held holds (text ++ damaged_text other n)) own has in (
        own,
        subst (Appends held holds)
            (ap (λ t. t ++ damaged_text other n) comes.0 ∙ ap (λ d. damaged_text d n) one.0 ∙ ap (damaged_text device) one.1) whole,
      )
  damage_told found device at held holds status text (AtLimit name) told calm damaged comes own has = absurd comes
  damage_told found device at held holds status text NoMemory told calm damaged comes own has = absurd (calm.memory own)
  damage_told found device at held holds status text (NoSnapshot epoch) told calm damaged comes own has =
      let there = comes.3 found told in
      absurd (none_stands command found there.0 epoch device at comes.1 there.1 there.2 damaged)

  all_told : (found : Images) (held holds : Option Bytes) (status : ℕ) → AreTold tells (parts_of was) found → IsUndisturbed status
      → Listed command tells faults was is (ShownText held holds status) → TellsAll command found held holds status
  all_told found held holds status told calm d =
      let shown = d.shown in
      let own = own_status status d.ending calm shown.status_is in
      record {
        told = λ reading listed reads lists.
            listing_told found reading listed held holds status d.text d.ending told calm reads lists d.comes own shown.printed;
        none = λ epoch reading asked reads none.
            none_told found epoch reading held holds status d.text d.ending told calm asked reads none d.comes own shown.printed;
        damaged = λ device at damaged. damage_told found device at held holds status d.text d.ending told calm damaged d.comes own shown.printed;
      }

  -- the same, where the printer stood over the sink
  pub all_over : (found : Images) (held holds : Option Bytes) (r : Result Ending Failed) (status : ℕ) (old new : Output) → status ≡ status_told r
      → old.held ≡ held → new.held ≡ holds → AreTold tells (parts_of was) found → IsUndisturbed status
      → Listed command tells faults was is (TakesText old.held new.held r) → TellsAll command found held holds status
  all_over found held holds r status old new is_told had has told calm d =
      all_told found held holds status told calm (listing_over held holds r status old new is_told had has d)

  -- ---- the devices

  listing_device : (text : Bytes) (ending : Ending) → ListingComes command tells faults was is text ending → status_of ending ≡ 5 → (device : Device) × RoseIn faults device was is
  listing_device text Finished comes five = absurd (omega arith)
  listing_device text (NoScript fault) comes five = absurd comes
  listing_device text (Shape declared others) comes five = absurd comes
  listing_device text Usage comes five = absurd comes
  listing_device text ReadFault comes five = absurd comes
  listing_device text (NoDevice device) comes five = (device, comes.1)
  listing_device text (Damaged device at) comes five = absurd (omega arith)
  listing_device text (AtLimit name) comes five = absurd comes
  listing_device text NoMemory comes five = absurd (omega arith)
  listing_device text (NoSnapshot epoch) comes five = absurd (omega arith)

  listing_quiet : (text : Bytes) (ending : Ending) → ListingComes command tells faults was is text ending → status_of ending ≡ 0 → AreQuiet faults was is
  listing_quiet text Finished comes zero = comes.0
  listing_quiet text (NoScript fault) comes zero = absurd comes
  listing_quiet text (Shape declared others) comes zero = absurd comes
  listing_quiet text Usage comes zero = absurd comes
  listing_quiet text ReadFault comes zero = absurd comes
  listing_quiet text (NoDevice device) comes zero = absurd (omega arith)
  listing_quiet text (Damaged device at) comes zero = absurd (omega arith)
  listing_quiet text (AtLimit name) comes zero = absurd comes
  listing_quiet text NoMemory comes zero = absurd (omega arith)
  listing_quiet text (NoSnapshot epoch) comes zero = absurd (omega arith)

  -- a device's fault is told only where it failed, and no fault was kept quiet
  pub devices_listed : (old new : Output) (r : Result Ending Failed) → Listed command tells faults was is (AddsText old new r) → AnswersDevices faults was is (status_told r)
  devices_listed old new (Ok came) d =
      let shown = d.shown in
      subst (λ (e : Ending). AnswersDevices faults was is (status_of e)) shown.0
      (record { failed = listing_device d.text d.ending d.comes; quiet = listing_quiet d.text d.ending d.comes })
  devices_listed old new (Err failed) d = no_device_told faults was is 4 (λ five. omega arith) (λ zero. omega arith)

-- ---- the three commands

-- what was recovered
abbrev pub AreRecovered : {D : Type 0} → (D → Option Bytes) → Vault D → Recovered → Type 0
AreRecovered tells was r = (found : Images) → AreTold tells (parts_of was) found → Recovers found r

module _ {D : Type 0} (tells : D → Option Bytes) (was : Vault D) where
  -- its epoch and its state are told
  pub dump_tells : (r : Recovered) → AreRecovered tells was r → TellsListing Dump tells was (state_text r.epoch r.decls r.state)
  dump_tells r recovered = λ found told.
      let all = recovered found told in (
        all.reading,
        all.is,
        (
          r.state,
          all.state,
          ap (λ e. state_text e r.decls r.state) all.epoch ∙ ap (λ ds. state_text (epoch_of all.reading.point) ds r.state) all.decls,
        ),
      )

  -- its snapshots are told
  pub snaps_tells : (r : Recovered) → AreRecovered tells was r → TellsListing Snaps tells was (snapshots_text r.catalogues)
  snaps_tells r recovered = λ found told.
      let all = recovered found told in (all.reading, all.is, ap snapshots_text all.catalogues)

  -- one of its snapshots is told
  pub snap_tells : (r : Recovered) (epoch : ℕ) (state : State) → AreRecovered tells was r → IsSnapshotAt r epoch state
      → TellsListing (Snap epoch) tells was (state_text epoch r.decls state)
  snap_tells r epoch state recovered at = λ found told.
      let all = recovered found told in
      let reading = all.reading in
      let has = snapshot_found found r all epoch state at in
      let decls : decls_of has.0.catalogue ≡ newest_decls reading.catalogues =
      decls_all reading.pages (epoch_of reading.point + 1) None (catalogue_of reading.point) reading.catalogues
      has.0.catalogue (chained found reading all.is).chain has.0.is.has in
      (reading, all.is, (state, has.0, ap (λ ds. state_text epoch ds state) (all.decls ∙ sym decls)))

module _ {D : Type 0} (tells : D → Option Bytes) (faults : D → ℕ) (was is : Vault D) where
  -- there is none of the epoch
  pub no_snap : (at : Output) (r : Recovered) (epoch : ℕ) → AreQuiet faults was is → AreRecovered tells was r
      → ((number : ℕ) → HasMark r epoch number → ⊥)
      → Listed (Snap epoch) tells faults was is (AddsText at at (Ok (NoSnapshot epoch)))
  no_snap at r epoch quiet recovered none = record {
    text = [];
    ending = NoSnapshot epoch;
    comes = (
      refl,
      refl,
      quiet,
      λ found told.
          let all = recovered found told in (all.reading, all.is, snapshot_none found r all epoch none),
    );
    shown = (refl, adds_nothing at);
  }

  -- one of its pages isn't right, or memory was wanted
  pub snap_refused : (at : Output) (r : Recovered) (epoch : ℕ) (refusal : OrMemory RecoverFault) → AreRecovered tells was r
      → ((device : Device) (n : ℕ) → refusal ≡ errors.Fault (causes.Damaged device n) → (device ≡ SnapsDevice) × BreaksAt r epoch n)
      → ((device : Device) → refusal ≡ errors.Fault (causes.Device device) → ⊥)
      → Listed (Snap epoch) tells faults was is (AddsText at at (Ok (ending_of_refusal refusal)))
  snap_refused at r epoch (errors.Fault (causes.Device device)) recovered breaks never = absurd (never device refl)
  snap_refused at r epoch (errors.Fault (causes.Damaged device n)) recovered breaks never =
      let here = breaks device n refl in
      record {
        text = [];
        ending = Damaged device n;
        comes = (
          refl,
          λ found told. subst (λ d. IsDamagedFor (Snap epoch) found d n) (sym here.0)
              (inr (snapshot_broken found r (recovered found told) epoch n here.1)),
        );
        shown = (refl, adds_nothing at);
      }
  snap_refused at r epoch errors.Memory recovered breaks never =
      record { text = []; ending = NoMemory; comes = refl; shown = (refl, adds_nothing at) }

  -- it is told, or why not
  pub snap_told : (old new : Output) (r : Recovered) (epoch : ℕ) (result : Result Ending Failed) → AreQuiet faults was is
      → AreRecovered tells was r → TellsSnapshot r epoch old new result
      → Listed (Snap epoch) tells faults was is (AddsText old new result)
  snap_told old new r epoch result quiet recovered (inl told) =
      listing_text (Snap epoch) tells faults was is old new _ result quiet
      (snap_tells tells was r epoch told.0 recovered told.1) told.2
  snap_told old new r epoch result quiet recovered (inr none) =
      subst (λ (q : Result Ending Failed). Listed (Snap epoch) tells faults was is (AddsText old new q)) (sym none.1)
      (subst (λ (o : Output). Listed (Snap epoch) tells faults was is (AddsText old o (Ok none.0))) (sym none.2)
      (by_ending none.0 none.3))
    where
      by_ending : (e : Ending) → IsNoSnapshot r epoch e → Listed (Snap epoch) tells faults was is (AddsText old old (Ok e))
      by_ending (NoSnapshot other) why =
          subst (λ (n : ℕ). Listed (Snap epoch) tells faults was is (AddsText old old (Ok (NoSnapshot n)))) (sym why.0)
          (no_snap old r epoch quiet recovered why.1)
      by_ending (Damaged device at) why =
          snap_refused old r epoch (errors.Fault (causes.Damaged device at)) recovered
          (λ d n is. same_break d n (cc) (cc)) (λ d is. absurd cc)
        where
          same_break : (d : Device) (n : ℕ) → d ≡ device → n ≡ at → (d ≡ SnapsDevice) × BreaksAt r epoch n
          same_break d n first second = (first ∙ why.0, subst (λ (m : ℕ). BreaksAt r epoch m) (sym second) why.1)
      by_ending NoMemory why =
          snap_refused old r epoch errors.Memory recovered (λ d n is. absurd cc) (λ d is. absurd cc)
      by_ending Finished why = absurd why
      by_ending (NoScript fault) why = absurd why
      by_ending (Shape declared others) why = absurd why
      by_ending Usage why = absurd why
      by_ending ReadFault why = absurd why
      by_ending (NoDevice device) why = absurd why
      by_ending (AtLimit name) why = absurd why

  -- ---- their statuses

  pub dump_status : (old new : Output) (r : Result Ending Failed) → Listed Dump tells faults was is (AddsText old new r) → IsStatus Dump (status_told r)
  dump_status old new r d = elim (told_so Dump tells faults was is old new r d) [
    | inl so ↦ so
    | inr other ↦ absurd (no_snap_asked other.1 other.2)
  ]
    where
      no_snap_asked : (epoch : ℕ) → (let c : Command = Dump in c ≡ Snap epoch) → ⊥
      no_snap_asked epoch is = cc

  pub snaps_status : (old new : Output) (r : Result Ending Failed) → Listed Snaps tells faults was is (AddsText old new r) → IsStatus Snaps (status_told r)
  snaps_status old new r d = elim (told_so Snaps tells faults was is old new r d) [
    | inl so ↦ so
    | inr other ↦ absurd (no_snap_asked other.1 other.2)
  ]
    where
      no_snap_asked : (epoch : ℕ) → (let c : Command = Snaps in c ≡ Snap epoch) → ⊥
      no_snap_asked epoch is = cc

  pub snap_status : (epoch : ℕ) (old new : Output) (r : Result Ending Failed) → Listed (Snap epoch) tells faults was is (AddsText old new r)
      → IsStatus (Snap epoch) (status_told r)
  snap_status epoch old new r d = elim (told_so (Snap epoch) tells faults was is old new r d) [ inl so ↦ inl so | inr other ↦ inr other.0 ]
