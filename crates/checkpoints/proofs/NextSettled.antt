-- A vault whose new snapshot was written, or not.
use Rattle.std.proofs.Common.{◌≡◌, ◌+◌, ◌<◌, ◌≤◌, ◌∷◌, ◌++◌, ℕ, List, [], Option, Some, inl, inr, length, refl, sym}
use Rattle.std.proofs.Common.{ap, subst, ◌∙◌, lit≤, lit<, arith}
use Rattle.std.specs.Prelude.{is_some, ◌^◌}
use Rattle.std.specs.FinMap.{get}
use Rattle.std.specs.List.{AllByRecursion}
use Rattle.std.proofs.lemmas.List.{map-append}
use Rattle.lists.specs.Each.{all_append, all_replicate, all_weaker}
use Rattle.lists.specs.Fronts.{IsFront}
use Rattle.log_writer.specs.declared.vault.Vault.{Vault}
use Rattle.serial_model.specs.Numbers.{last_epoch}
use Rattle.serial_model.specs.State.{State}
use Rattle.wire_form.specs.declared.page.Page.{Page}
use Rattle.wire_form.specs.declared.savepoint.Savepoint.{Savepoint}
use Rattle.log_writer.specs.Points.{IsSaved, point_of, sequence_of}
use Rattle.log_writer.specs.Save.{Names, IsStored}
use Rattle.log_writer.specs.declared.saved.Saved.{Saved}
use Rattle.snapshot_store.specs.Content.{words_of}
use Rattle.snapshot_store.specs.Store.{IsWhole as IsWholePage, bytes_of_pages, HoldsPages}
use Rattle.checkpoints.specs.CrashesRecover.{LeavesSame, HasFiles, old_recovers, point_read}
use Rattle.joint_crashes.specs.Crashes.Rested.{point_new}
use Rattle.joint_crashes.specs.Crashes.Safe.{old_or_new}
use Rattle.checkpoints.specs.Files.{AreEmpty}
use Rattle.checkpoints.specs.FreshLaws.{zero_at}
use Rattle.joint_crashes.specs.Images.{Images, count_of}
use Rattle.joint_crashes.specs.JointCrash.{Parts, Moments, parts_of}
use Rattle.recovery_core.specs.Recovered.{Recovers, IsUp, recovers_state, saved_epoch}
use Rattle.joint_crashes.specs.Resting.{IsResting, HasNoRecords, AreTold}
use Rattle.checkpoints.specs.Settled.{SaysSettled}
use Rattle.checkpoints.specs.SettleGoesOn.{GoesOn}
use Rattle.checkpoints.specs.SettleLaws.{point_says}
use Rattle.joint_crashes.specs.SettleRests.{RestsSince}
use Rattle.recovery_core.specs.SnapshotsKept.{StandsAsRead}
use Rattle.joint_crashes.specs.Settling.{FoundOldOrNew, story_of}
use Rattle.joint_crashes.specs.VaultReads.{some_of}
use Rattle.recovery_core.specs.declared.recovered.Recovered.{Recovered}
use Rattle.checkpoints.specs.declared.without_entries.Settled.{Settled}
use Rattle.checkpoints.specs.SettlesInto.{composed_saved}
use Rattle.checkpoints.specs.Written.{FitsDevice, RestsFrom, LeavesOldOrNext, HasWritten}
use Rattle.checkpoints.specs.Due.{IsNextOf}
use Rattle.checkpoints.proofs.DueLemmas.{pages_counted, stand_of, ranges_of}
use Rattle.checkpoints.proofs.NextState.{IsNext, NamesNext, newest, next_reading, next_reads, next_state, next_recovers}
use Rattle.checkpoints.proofs.NextState.{next_decls}

-- what the savepoint says
names_next : (epoch sequence : ℕ) (all : List Page) (count : ℕ) → count ≡ length all
    → NamesNext epoch all (point_of sequence (composed_saved epoch count))
names_next epoch sequence all count same = record {
  epoch_is = refl;
  catalogue = same;
  count = same;
  nothing = λ n. zero_at n 16;
}

-- is in its ranges
pub composed_ranges : (epoch count : ℕ) → epoch < last_epoch → 1 ≤ count → count ≤ 65536
    → IsSaved (composed_saved epoch count)
composed_ranges epoch count below some few = record {
  first = lit≤ tt;
  last = lit< tt;
  epoch = below;
  catalogue = some;
  newest = refl;
  count = few;
  banks = refl;
  lengths = all_replicate (λ n. n < 2 ^ 40) 16 0 (lit< tt);
}

-- the savepoint that follows
abbrev pub point : Recovered → ℕ → Savepoint
point r count = point_of (sequence_of r.save.newest + 1) (composed_saved r.epoch count)

module _ {D : Type 0} {tells : D → Option (List ℕ)} {clock : D → ℕ} {image_at : D → ℕ → List ℕ → Type 0}
    (reads : (disk : D) (file : List ℕ) → tells disk ≡ Some file → image_at disk (clock disk) file)
    (r : Recovered) (p : Saved) (made : List (List ℕ)) (all : List Page) (up : IsUp r) (says : r.saved ≡ Some p)
    (next : IsNext r p made all) where
  -- the vault rests on the savepoint that was read
  rests_from : {old : Parts D} {found : Images} {from : Moments} → (rest : IsResting clock image_at old)
      → HasNoRecords old → AreTold tells old found
      → RestsSince clock image_at from rest.point rest.pages rest.counted old → Recovers found r
      → RestsFrom clock image_at tells r.save.newest (length r.store.pages) found from old rest
  rests_from {found = found} rest none told since is =
      let named : is.reading.point ≡ rest.point = point_read reads is.reading.point rest told is.is.names in
      let newest_is : rest.point ≡ r.save.newest = sym named ∙ sym is.point in
      let was = point_says r.save.newest p (sym says ∙ up.saved) in
      let count : count_of rest.point ≡ p.count =
      ap count_of (newest_is ∙ was.1) ∙ sym (ap (λ (s : Saved). s.count) was.2) in
      record {
        none = none;
        told = told;
        since = since;
        newest_is = newest_is;
        within = omega (arith, rest.pages_sized, count, pages_counted r p up says);
      }

  -- images of the old savepoint or of the next one stand for what was recovered
  found_recovers : {old : Parts D} {found other : Images} (after : Parts D) (count : ℕ) → count ≡ length all
      → HasFiles old
      → HasFiles after → (rest : IsResting clock image_at old) → AreTold tells old found → (is : Recovers found r)
      → rest.point ≡ r.save.newest
      → FoundOldOrNew r.save.newest (point r count) rest.pages (bytes_of_pages all) rest.counted after other
      → StandsAsRead is.reading other r.epoch r.state
  found_recovers {found = found} {other = other} after count same files still rest told is named (inl was) =
      old_recovers reads after files still rest told (recovers_state found r is)
      (subst (λ x. Names other.save x) (sym named) was.0) was.1 was.2
  found_recovers {found = found} {other = other} after count same files still rest told is named (inr now) =
      next_recovers r p made all next (point r count) found other is says up.saved
      (names_next r.epoch (sequence_of r.save.newest + 1) all count same) now.0 now.1

  -- so whatever the writing answered, each crash leaves that
  pub next_leaves : {old after : Parts D} {found : Images} {from : Moments} (count : ℕ) → count ≡ length all
      → HasFiles old → HasFiles after
      → LeavesOldOrNext clock image_at tells r.save.newest (composed_saved r.epoch count) (length r.store.pages)
      (bytes_of_pages all) old after
      → (rest : IsResting clock image_at old) → HasNoRecords old → AreTold tells old found
      → RestsSince clock image_at from rest.point rest.pages rest.counted old → (is : Recovers found r)
      → LeavesSame clock image_at from is.reading r.epoch r.state old after
  next_leaves {after = after} {found = found} {from = from} count same files still leaves rest none told since is =
      let rests = rests_from rest none told since is in
      let safe = leaves found from rest rests in
      record {
        keeps = safe.stays;
        now = safe.instant;
        ended = safe.ended;
        recovers = λ at other since crash. found_recovers after count same files still rest told is rests.newest_is
            (safe.stops at other since crash);
      }

  -- and behind it the calls of a run go on
  pub next_goes_on : {old after : Parts D} {found : Images} {from : Moments} (count : ℕ) → count ≡ length all
      → HasFiles old → HasFiles after
      → HasWritten clock image_at tells r.save.newest (composed_saved r.epoch count) (length r.store.pages)
      (bytes_of_pages all) old after
      → (rest : IsResting clock image_at old) → HasNoRecords old → AreTold tells old found
      → RestsSince clock image_at from rest.point rest.pages rest.counted old → (is : Recovers found r)
      → GoesOn clock image_at from is.reading r.epoch r.state (sequence_of r.save.newest) (Some (point r count)) after
  next_goes_on {after = after} {found = found} {from = from} count same files still written rest none told since is =
      let rests = rests_from rest none told since is in
      let known = written found from rest rests in
      record {
        story = story_of r.save.newest (point r count) rest.pages (bytes_of_pages all) rest.counted;
        told = known.0;
        opened = known.1;
        newest_is = point_new r.save.newest (point r count) rest.pages (bytes_of_pages all) rest.counted;
        stands = λ k other at_least at_most stands. found_recovers after count same files still rest told is
            rests.newest_is (old_or_new r.save.newest (point r count) rest.pages (bytes_of_pages all) rest.counted k
            at_least at_most stands);
      }

  -- the devices say what is handed on
  pub next_rests : {found : Images} (old new : Vault D) (s : Settled) → AreTold tells (parts_of old) found → s.save.newest ≡ Some (point r (length all))
      → s.store.pages ≡ all → s.decls ≡ r.decls → s.state ≡ r.state
      → is_some (tells new.save) ≡ is_some (tells old.save) → is_some (tells new.snaps) ≡ is_some (tells old.snaps)
      → IsStored tells clock image_at new.save s.save.newest → HoldsPages tells new.snaps s.store.pages
      → AreEmpty tells new
      → (now : Images) × AreTold tells (parts_of new) now × SaysSettled now s
  next_rests {found = found}
      old new s told newest_is pages decls state told_save told_snaps stored holds emptied =
      let q = point r (length all) in
      let file = some_of (tells new.save) (told_save ∙ ap is_some told.save) in
      let snaps = some_of (tells new.snaps) (told_snaps ∙ ap is_some told.snaps) in
      let now : Images = record { save = file.0; snaps = snaps.0; bank = λ n. [] } in
      let names : Names file.0 (Some q) = subst (λ x. Names file.0 x) newest_is (stored file.0 file.1).names in
      let front = subst (λ l. IsFront (bytes_of_pages l) snaps.0) pages (holds snaps.0 snaps.1) in (
        now,
        record {
          save = file.1;
          snaps = snaps.1;
          bank = emptied;
        },
        record {
          reading = next_reading q (words_of all) (newest r p made all next) next.stand.catalogues;
          is = next_reads r p made all next q now
              (names_next r.epoch (sequence_of r.save.newest + 1) all (length all) refl) names front;
          point = sym newest_is;
          pages = ap words_of pages;
          decls = decls ∙ next_decls r p made all next;
          lines = refl;
          state = λ key. ap (λ (st : State). get st key) state
              ∙ next_state r p made all next key;
        },
      )

-- pages that fit are whole
all_whole : (pages : List Page) → AllByRecursion FitsDevice pages → AllByRecursion IsWholePage pages
all_whole pages all = all_weaker FitsDevice IsWholePage (λ p is. is.whole) pages all

-- and their words have 64 bits
all_fit : (pages : List Page) → AllByRecursion FitsDevice pages
    → AllByRecursion (AllByRecursion (λ w. w < 2 ^ 64)) (words_of pages)
all_fit [] all = tt
all_fit (p ∷ ps) all = (all.0.fit, all_fit ps all.1)

-- what is known of the new pages, and of those before them
pub is_next : (r : Recovered) (p : Saved) (pages : List Page) → IsUp r → r.saved ≡ Some p
    → IsNextOf r p (words_of pages) → AllByRecursion IsWholePage r.store.pages
    → AllByRecursion (AllByRecursion (λ w. w < 2 ^ 64)) (words_of r.store.pages) → AllByRecursion FitsDevice pages
    → IsNext r p (words_of pages) (r.store.pages ++ pages)
is_next r p pages up says next whole fit new =
    let words : words_of (r.store.pages ++ pages) ≡ words_of r.store.pages ++ words_of pages =
    map-append (λ (x : Page). x.words) r.store.pages pages in
    record {
      stand = stand_of r p up says;
      some = (ranges_of r p up says).catalogue;
      epoch = up.epoch ∙ ap saved_epoch says;
      next = next;
      words = words;
      whole = all_append IsWholePage r.store.pages pages whole (all_whole pages new);
      fit = subst (AllByRecursion (AllByRecursion (λ w. w < 2 ^ 64))) (sym words)
          (all_append (AllByRecursion (λ w. w < 2 ^ 64)) (words_of r.store.pages) (words_of pages) fit
          (all_fit pages new));
    }
