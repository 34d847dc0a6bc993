-- What the vault stands for as the run has ended.
use Rattle.std.proofs.Common.{◌≡◌, ◌⊎◌, ◌∙◌, ◌≤◌, ◌<◌, ◌*◌, sym, ap, subst, refl, inl, inr, ℕ, arith, List, []}
use Rattle.std.proofs.Common.{◌++◌, true, Option, Some, None, length}
use Rattle.std.specs.Prelude.{flat_map, map, slice_get, take}
use Rattle.std.proofs.lemmas.Grind.{flat_map-append}
use Rattle.std.proofs.lemmas.List.{append-nil, length-map, length-take, map-append, take_at}
use Rattle.std.proofs.lemmas.Option.{same_Some}
use Rattle.lists.specs.Fronts.{IsFront, front_append, front_from, front_length, front_take, front_then}
use Rattle.log_writer.specs.Cuts.{whole_bank}
use Rattle.log_writer.specs.Vault.{IsWhole, disk_in}
use Rattle.outside.specs.declared.device.Device.TheVariants.{Bank}
use Rattle.log_writer.specs.declared.vault.Vault.{Vault}
use Rattle.serial_model.specs.History.{Entry, EpochsNeverFall, Rises, as_of}
use Rattle.serial_model.specs.State.{State}
use Rattle.serial_model.specs.declared.decl.Decl.{Decl}
use Rattle.serial_model.specs.declared.number.Commit.{Commit}
use Rattle.wire_form.specs.LogFile.{lines_bytes}
use Rattle.wire_form.specs.declared.page.Page.{Page}
use Rattle.wire_form.specs.declared.savepoint.Savepoint.{Savepoint}
use Rattle.log_writer.specs.Save.{Names}
use Rattle.snapshot_store.specs.Content.{words_of}
use Rattle.snapshot_store.specs.Store.{bytes_of_page, bytes_of_pages}
use Rattle.joint_crashes.specs.Images.{Images, count_of, counted_of}
use Rattle.joint_crashes.specs.JointCrash.{parts_of}
use Rattle.recovery_core.specs.Catalogues.{newest_decls}
use Rattle.recovery_core.specs.Recoverable.{IsReading, IsRecoverable, Reading}
use Rattle.recovery_core.specs.RecoverableLaws.{CountsSame, same_reading, same_recoverable}
use Rattle.recovery_core.specs.Recovered.{Recovers}
use Rattle.joint_crashes.specs.Resting.{AreTold}
use Rattle.checkpoints.specs.Settled.{settled_recoverable}
use Rattle.checkpoints.specs.SettlesInto.{SettlesInto}
use Rattle.joint_crashes.specs.VaultReads.{some_of}
use Rattle.recovery_core.specs.declared.recovered.Recovered.{Recovered}
use Rattle.checkpoints.specs.declared.without_entries.Settled.{Settled}
use Rattle.worker_logs.specs.Logs.{LogState}
use Rattle.worker_logs.specs.Saves.{closed_number, growing_number}
use Rattle.worker_logs.specs.declared.savepoints.Side.{Side}
use Rattle.worker_logs.specs.declared.savepoints.Side.TheVariants.{Even, Odd}
use Rattle.tx_script.specs.Run.{Ran}
use Rattle.tx_script.specs.declared.answer.Answer.TheVariants as answers
use Rattle.round_engine.specs.Logs.{AreClosedFiles}
use Rattle.round_engine.specs.Standing.{RuntimeState, StandsOn}
use Rattle.program_calls.specs.RunKept.{last_saved}
use Rattle.program_calls.specs.Snapshots.{EachSnapshot}
use Rattle.program_calls.proofs.KeptFiles.{closed_file, growing_file, item_at}
use Rattle.program_calls.proofs.KeptLines.{front_takes, halves}
use Rattle.program_calls.proofs.KeptPages.{each_snapshot}
use Rattle.program_calls.proofs.KeptParts.{KeptParts}
use Rattle.program_calls.proofs.KeptPoints.{PointAt, point_stands}
use Rattle.program_calls.proofs.KeptRounds.{KeptSoFar, Stood}
use Rattle.program_calls.proofs.SnapshotsKept.{chained}

-- Devices that stand for this epoch and this state after a run, with catalogues of these storages: each of their
-- snapshots is as it has to be, and their pages are so many of these.
pub record StandsBehind (found now : Images) (decls : List Decl) (saved : ℕ) (s : State) (ordered : List Entry)
    (epoch : ℕ) (state : State) (words : List (List ℕ)) (count : ℕ) : Type 0 where
  pub is : IsRecoverable now epoch state
  pub pages : is.reading.pages ≡ take count words
  pub decls_are : newest_decls is.reading.catalogues ≡ decls
  pub was : Stood found saved s
  pub each : EachSnapshot was.reading is.reading saved s decls ordered

-- a worker's log, and the log file that it grows
pub record HasLog {D : Type 0} (r : RuntimeState) (vault : Vault D) (w : ℕ) : Type 0 where
  pub log : LogState
  pub bank : D
  pub at : slice_get r.logs w ≡ Some log
  pub there : disk_in vault (Bank (growing_number r.side w)) ≡ Some bank

-- ---- what devices have of what is kept

-- each log file is a growing one or a closed one
data Which (side : Side) (n : ℕ) : Type 0 where
  grows : (w : ℕ) → w < 8 → growing_number side w ≡ n → Which side n
  shut : (w : ℕ) → w < 8 → closed_number side w ≡ n → Which side n

which : (side : Side) (n : ℕ) → n < 16 → Which side n
which Even n below = elim (halves n) [
  | inl even ↦ let is = even.1 in grows even.0 (omega (arith, is, below)) (sym is)
  | inr odd ↦ let is = odd.1 in shut odd.0 (omega (arith, is, below)) (sym is)
]
which Odd n below = elim (halves n) [
  | inl even ↦ let is = even.1 in shut even.0 (omega (arith, is, below)) (sym is)
  | inr odd ↦ let is = odd.1 in grows odd.0 (omega (arith, is, below)) (sym is)
]

-- so many bytes of a front
front_of : (k : ℕ) (durable list : List ℕ) → IsFront durable list → k ≤ length durable
    → (length (take k list) ≡ k)
front_of k durable list is within =
    omega (arith, length-take k list, within, front_length durable list is)

counted_front : (k : ℕ) (durable list lines : List ℕ) → IsFront durable list → IsFront durable lines
    → k ≤ length durable → IsFront (take k list) lines
counted_front k durable list lines is begins within =
    subst (λ l. IsFront l lines) (sym (front_takes k durable list is within))
    (front_then (take k durable) durable lines (front_take k durable) begins)

none_front : (k : ℕ) (list lines : List ℕ) → k ≡ 0 → (length (take k list) ≡ k) × IsFront (take k list) lines
none_front k list lines zero_is =
    subst (λ n. (length (take n list) ≡ n) × IsFront (take n list) lines) (sym zero_is) (refl, refl)

module _ {decls : List Decl} {saved : ℕ} {s : State} {ordered : List Entry} {side : Side} {counted : List ℕ}
    {since closed_at : ℕ} {older gone commits : ℕ → List Commit} {durable closed : ℕ → List ℕ} {pages : List Page}
    {newest : Option Savepoint} {last : ℕ} (was found : Images) (stood : Stood was saved s)
    (kept : KeptParts stood.reading decls saved s ordered side counted since closed_at older gone commits durable closed
    pages newest last) (rises : Rises ordered) (falls : EpochsNeverFall ordered)
    (names : Names found.save newest) (begins : IsFront (bytes_of_pages pages) found.snaps)
    (grown : (w : ℕ) → w < 8 → IsFront (durable w) (lines_bytes (commits w))
    × IsFront (durable w) (found.bank (growing_number side w)))
    (kept_closed : (w : ℕ) → w < 8
    → (IsFront (closed w) (lines_bytes (gone w)) × IsFront (closed w) (found.bank (closed_number side w)))
    ⊎ (counted_of (Some kept.point) (closed_number side w) ≡ 0)) where
  abbrev counted_bytes : ℕ → List ℕ
  counted_bytes n = take (counted_of (Some kept.point) n) (found.bank n)

  closed_is : (w : ℕ) → w < 8
      → (length (counted_bytes (closed_number side w)) ≡ counted_of (Some kept.point) (closed_number side w))
      × IsFront (counted_bytes (closed_number side w)) (lines_bytes (gone w))
  closed_is w below =
      let n = closed_number side w in
      let k = counted_of (Some kept.point) n in
      elim (kept_closed w below) [
        | inr none ↦ none_front k (found.bank n) (lines_bytes (gone w)) none
        | inl has ↦ elim (kept.gone_counts w below) [
          | inr none ↦ none_front k (found.bank n) (lines_bytes (gone w)) none.0
          | inl covers ↦ (
            front_of k (closed w) (found.bank n) has.1 covers.1,
            counted_front k (closed w) (found.bank n) (lines_bytes (gone w)) has.1 has.0 covers.1,
          )
        ]
      ]

  sized : (n : ℕ) → n < 16 → length (counted_bytes n) ≡ counted_of (Some kept.point) n
  sized n below = of n (which side n below)
    where
      of : (n : ℕ) → Which side n → length (counted_bytes n) ≡ counted_of (Some kept.point) n
      of n (grows w under is) = subst (λ m. length (counted_bytes m) ≡ counted_of (Some kept.point) m) is
          (front_of (counted_of (Some kept.point) (growing_number side w)) (durable w)
          (found.bank (growing_number side w)) (grown w under).1 (kept.growing w under).1)
      of n (shut w under is) = subst (λ m. length (counted_bytes m) ≡ counted_of (Some kept.point) m) is
          (closed_is w under).0

  point_at : PointAt stood.reading decls saved s ordered side closed_at older gone commits durable closed kept.point
  point_at = record {
    closed_by = kept.closed_by;
    pages = kept.point_pages;
    count = kept.count;
    catalogue = kept.catalogue;
    store = kept.point_store;
    growing = kept.growing;
    gone_counts = kept.gone_counts;
  }

  pages_front : IsFront (bytes_of_pages kept.point_pages) found.snaps
  pages_front = front_then (bytes_of_pages kept.point_pages) (bytes_of_pages pages) found.snaps
      (subst (IsFront (bytes_of_pages kept.point_pages))
      (sym (ap bytes_of_pages kept.front ∙ flat_map-append bytes_of_page kept.point_pages kept.rest))
      (front_append (bytes_of_pages kept.point_pages) (bytes_of_pages kept.rest))) begins

  -- the words of so many pages as it counts
  words_counted : words_of kept.point_pages ≡ take (count_of newest) (words_of pages)
  words_counted =
      let count : count_of newest ≡ length kept.point_pages = ap count_of kept.newest_is ∙ kept.count in
      let size : length (words_of kept.point_pages) ≡ count_of newest =
      length-map kept.point_pages (λ (p : Page). p.words) ∙ sym count in
      let all : words_of pages ≡ words_of kept.point_pages ++ words_of kept.rest =
      ap words_of kept.front ∙ map-append (λ (p : Page). p.words) kept.point_pages kept.rest in
      sym (ap (take (count_of newest)) all
      ∙ take_at (words_of kept.point_pages) (words_of kept.rest) (count_of newest) size)

  -- Such devices stand for the last epoch that was saved, and the state as of it.
  pub parts_stand : StandsBehind was found decls saved s ordered last (as_of decls s ordered last) (words_of pages)
      (count_of newest)
  unfolding point_at
  parts_stand =
      let stands = point_stands kept.point kept.it rises falls point_at counted_bytes sized
      (λ w below. counted_front (counted_of (Some kept.point) (growing_number side w)) (durable w)
      (found.bank (growing_number side w)) (lines_bytes (commits w)) (grown w below).1 (grown w below).0
      (kept.growing w below).1) (λ w below. (closed_is w below).1) found
      (subst (Names found.save) kept.newest_is names) pages_front
      (λ n below. front_take (counted_of (Some kept.point) n) (found.bank n)) in
      let own = kept.point_store.at in
      subst (λ e. StandsBehind was found decls saved s ordered e (as_of decls s ordered e) (words_of pages)
      (count_of newest)) kept.epoch (record {
        is = stands.is;
        pages = stands.pages_are ∙ words_counted;
        decls_are = ap newest_decls stands.catalogues_are ∙ sym own.decls_are;
        was = stood;
        each = each_snapshot own stands.is.reading stands.pages_are stands.catalogues_are kept.above
            (chained was stood.reading stood.is) stood.epoch stood.state;
      })

module _ {D : Type 0} {tells : D → Option (List ℕ)} where
  -- ---- two readings of one vault

  -- what devices told twice counts the same
  counts_alike : {vault : Vault D} {found other : Images} (point : Option Savepoint) → IsWhole vault
      → AreTold tells (parts_of vault) found → AreTold tells (parts_of vault) other
      → Names found.save point → CountsSame point found other
  counts_alike {vault = vault} {found = found} {other = other} point whole one two names =
      let save : found.save ≡ other.save = same_Some found.save other.save (sym one.save ∙ two.save) in
      let snaps : found.snaps ≡ other.snaps = same_Some found.snaps other.snaps (sym one.snaps ∙ two.snaps) in
      record {
        names = subst (λ l. Names l point) save names;
        snaps = subst (λ l. IsFront (take (512 * count_of point) found.snaps) l) snaps
            (front_take (512 * count_of point) found.snaps);
        bank = λ n below.
            let bank = some_of (disk_in vault (Bank n)) (whole_bank whole n below) in
            let same : found.bank n ≡ other.bank n = same_Some (found.bank n) (other.bank n)
            (sym (one.bank n bank.0 bank.1) ∙ two.bank n bank.0 bank.1) in
            subst (λ l. IsFront (take (counted_of point n) (found.bank n)) l) same
            (front_take (counted_of point n) (found.bank n));
      }

  -- and says the same
  pub told_reading : {vault : Vault D} {found other : Images} {reading : Reading} → IsWhole vault
      → AreTold tells (parts_of vault) found → AreTold tells (parts_of vault) other
      → IsReading found reading → IsReading other reading
  told_reading {found = found} {other = other} {reading = reading} whole one two is =
      same_reading found other reading (counts_alike reading.point whole one two is.names) is

  -- and stands for the same
  pub told_alike : {vault : Vault D} {found other : Images} {epoch : ℕ} {state : State} → IsWhole vault
      → AreTold tells (parts_of vault) found → AreTold tells (parts_of vault) other
      → IsRecoverable found epoch state → IsRecoverable other epoch state
  told_alike {found = found} {other = other} {epoch = epoch} {state = state} whole one two is =
      same_recoverable found other epoch state is (counts_alike is.reading.point whole one two is.is.names)

module _ {D : Type 0} {tells : D → Option (List ℕ)} {clock : D → ℕ} {image_at : D → ℕ → List ℕ → Type 0} where
  -- Where nothing was run, a settled vault stands for what was recovered.
  pub kept_settled : {recovered : Recovered} {given : List Decl} {old new : Vault D} {settled : Settled}
      (found now : Images) → SettlesInto tells clock image_at recovered given old new settled
      → AreTold tells (parts_of old) found → Recovers found recovered → AreTold tells (parts_of new) now
      → IsRecoverable now recovered.epoch recovered.state
  kept_settled {recovered = recovered} {settled = settled} found now settles told recovers told_now =
      let rests = settles.rests found told recovers in
      subst (λ e. IsRecoverable now e recovered.state) settles.epoch
      (subst (λ (t : State). IsRecoverable now settled.saved.epoch t) settles.state
      (told_alike settles.whole rests.1 told_now (settled_recoverable rests.0 settled rests.2 settles.says)))

  pub has_log : {r : RuntimeState} {vault : Vault D} → StandsOn tells clock image_at r vault → (w : ℕ) → w < 8
      → HasLog r vault w
  has_log {r = r} {vault = vault} stands w below =
      let log = item_at r.logs w (omega (arith, below, stands.workers)) in
      let file = growing_file r.side vault w stands.whole below in
      record { log = log.0; bank = file.bank; at = log.1; there = file.there }

-- a closed log file that is told
shut_of : {D : Type 0} {tells : D → Option (List ℕ)} {clock : D → ℕ} {image_at : D → ℕ → List ℕ → Type 0}
    (r : RuntimeState) (vault : Vault D) (gone : ℕ → List Commit) (closed : ℕ → List ℕ) (found : Images)
    → StandsOn tells clock image_at r vault → AreClosedFiles tells clock image_at gone closed r vault
    → AreTold tells (parts_of vault) found → (w : ℕ) → w < 8
    → IsFront (closed w) (lines_bytes (gone w)) × IsFront (closed w) (found.bank (closed_number r.side w))
shut_of r vault gone closed found stands files told w below =
    let n = closed_number r.side w in
    let file = closed_file r.side vault w stands.whole below in
    let size = item_at r.counted w (let eight = stands.closed.workers in omega (arith, eight, below)) in
    let is = files w size.0 file.bank size.1 file.there in
    let same : is.told.0 ≡ found.bank n =
    same_Some is.told.0 (found.bank n) (sym is.told.1 ∙ told.bank n file.bank file.there) in (
      front_from (closed w) [] (lines_bytes (gone w)) (append-nil (closed w) ∙ sym is.lines),
      subst (IsFront (closed w)) same is.told.2,
    )

-- A disk that tells its bytes has them in an image of now.
module _ {D : Type 0} {tells : D → Option (List ℕ)} {clock : D → ℕ} {image_at : D → ℕ → List ℕ → Type 0}
    (reads : (disk : D) (file : List ℕ) → tells disk ≡ Some file → image_at disk (clock disk) file) where
  -- After the rounds the vault stands for the last epoch that was saved, and the state as of it.
  pub kept_at_end : {decls : List Decl} {s : State} {saved : ℕ} {rans : List Ran} {ordered : List Entry}
      {r : RuntimeState} {vault : Vault D} (was found : Images)
      → KeptSoFar tells clock image_at was decls s saved rans ordered r vault
      → StandsOn tells clock image_at r vault → r.save.down ≡ None → r.store.sound ≡ true → Rises ordered
      → EpochsNeverFall ordered → AreTold tells (parts_of vault) found
      → StandsBehind was found decls saved s ordered (last_saved saved rans)
      (as_of decls s ordered (last_saved saved rans)) (words_of r.store.pages) (count_of r.save.newest)
  kept_at_end {decls = decls} {s = s} {saved = saved} {ordered = ordered} {r = r} {vault = vault} was found kept stands
      up sound rises falls told =
      parts_stand was found kept.was kept.parts rises falls (stands.stored up found.save told.save).names
      ((stands.snapshot sound).holds found.snaps told.snaps)
      (λ w below.
      let has = has_log stands w below in
      let log = kept.logs w has.log has.bank has.at has.there in
      let n = growing_number r.side w in (
        front_from (kept.durable w) has.log.journal.lines (lines_bytes (kept.commits w)) (sym log.lines),
        log.journal_of.durable.begins (found.bank n) (reads has.bank (found.bank n) (told.bank n has.bank has.there)),
      ))
      (λ w below. elim kept.files [
        | inl files ↦ inl (shut_of r vault kept.gone kept.closed found stands files told w below)
        | inr none ↦ inr (subst (λ (o : Option Savepoint). counted_of o (closed_number r.side w) ≡ 0)
            kept.parts.newest_is (none w below))
      ])
