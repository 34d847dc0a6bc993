-- Devices of a settled database that tell their bytes say what is handed on.
use Rattle.std.proofs.Common.{◌≡◌, ◌*◌, ◌^◌, ◌<◌, ℕ, List, [], ◌∷◌, Option, Some, None, length, get_or}
use Rattle.std.proofs.Common.{refl, sym, ap, ◌∙◌, subst}
use Rattle.std.specs.Prelude.{is_some}
use Rattle.std.specs.FinMap.{get}
use Rattle.std.specs.List.{AllByRecursion}
use Rattle.std.specs.Option.{option_map}
use Rattle.lists.specs.Fronts.{IsFront, front_take}
use Rattle.outside.specs.declared.device.Device.TheVariants.{Save, Snaps, Bank}
use Rattle.log_writer.specs.declared.vault.Vault.{Vault}
use Rattle.serial_model.specs.State.{State}
use Rattle.serial_model.specs.declared.key.Key.{Key}
use Rattle.wire_form.specs.Pages.{catalogue_words}
use Rattle.wire_form.specs.declared.page.Page.{Page}
use Rattle.wire_form.specs.declared.savepoint.Savepoint.{Savepoint}
use Rattle.log_writer.specs.Points.{point_of, saved_of}
use Rattle.log_writer.specs.Save.{Names, IsStored}
use Rattle.log_writer.specs.declared.saved.Saved.{Saved}
use Rattle.snapshot_store.specs.Content.{words_of}
use Rattle.snapshot_store.specs.Store.{StoreState, HoldsPages}
use Rattle.recovery_core.specs.declared.recovered.Recovered.{Recovered}
use Rattle.checkpoints.specs.declared.without_entries.Settled.{Settled}
use Rattle.checkpoints.specs.CrashesRecover.{first_page}
use Rattle.checkpoints.specs.FreshLaws.{first_saved, is_first, one_page_bytes, zero_at, IsFirstPage}
use Rattle.joint_crashes.specs.Images.{Images}
use Rattle.joint_crashes.specs.JointCrash.{parts_of}
use Rattle.recovery_core.specs.LogEntries.{last_of}
use Rattle.recovery_core.specs.Recoverable.{counting, snapshot_value, value_over}
use Rattle.recovery_core.specs.Recovered.{Recovers}
use Rattle.joint_crashes.specs.Resting.{AreTold}
use Rattle.checkpoints.specs.Settled.{SaysSettled, SameDevices}
use Rattle.checkpoints.specs.SettledLaws.{SaysSame, settled_reading, settled_reads}
use Rattle.checkpoints.specs.SettledLaws.{first_reading, first_reads, no_first_value}
use Rattle.checkpoints.specs.SettleFresh.{recovers_fresh}
use Rattle.checkpoints.specs.SettleLaws.{without_files, point_says, no_last}
use Rattle.checkpoints.specs.SettlePages.{first_contents, same_decls}
use Rattle.joint_crashes.specs.VaultReads.{AreQuiet, some_of, quiet_of}
use Rattle.checkpoints.specs.Files.{AreEmpty}

-- the savepoint that is handed on says the same as the one before, whether it is that one or the next
says_same : (saved after : Saved) (p q : Savepoint) → saved ≡ saved_of p → after ≡ saved_of q
    → after ≡ without_files saved → SaysSame p q
says_same saved after p q is_p is_q without = record {
  epoch = sym (ap (λ (x : Saved). x.epoch) is_q) ∙ ap (λ (x : Saved). x.epoch) without
      ∙ ap (λ (x : Saved). x.epoch) is_p;
  catalogue = sym (ap (λ (x : Saved). x.catalogue) is_q) ∙ ap (λ (x : Saved). x.catalogue) without
      ∙ ap (λ (x : Saved). x.catalogue) is_p;
  count = sym (ap (λ (x : Saved). x.count) is_q) ∙ ap (λ (x : Saved). x.count) without
      ∙ ap (λ (x : Saved). x.count) is_p;
  nothing = λ n. sym (ap (λ (x : Saved). get_or x.lengths n 0) is_q)
      ∙ ap (λ (x : Saved). get_or x.lengths n 0) without ∙ zero_at n 16;
}

module _ {D : Type 0} {tells : D → Option (List ℕ)} {clock : D → ℕ} {image_at : D → ℕ → List ℕ → Type 0} where
  -- those of one that had a savepoint
  pub rests_saved : {found : Images} (old new : Vault D) (r : Recovered) (s : Settled) (saved : Saved)
      → AreTold tells (parts_of old) found → Recovers found r → Some saved ≡ option_map saved_of r.save.newest
      → s.saved ≡ without_files saved → Some s.saved ≡ option_map saved_of s.save.newest
      → s.store ≡ r.store → s.decls ≡ r.decls → s.state ≡ r.state → ((key : Key) → get r.entries key ≡ None)
      → is_some (tells new.save) ≡ is_some (tells old.save) → new.snaps ≡ old.snaps
      → IsStored tells clock image_at new.save s.save.newest
      → AreEmpty tells new
      → (now : Images) × AreTold tells (parts_of new) now × SaysSettled now s
  rests_saved {found = found}
      old new r s saved told is says without after store decls state none told_save snaps stored emptied =
      let was = point_says r.save.newest saved says in
      let new_point = point_says s.save.newest s.saved after in
      let p = was.0 in
      let q = new_point.0 in
      let file = some_of (tells new.save) (told_save ∙ ap is_some told.save) in
      let now : Images = record { save = file.0; snaps = found.snaps; bank = λ n. [] } in
      let names : Names file.0 (Some q) = subst (λ x. Names file.0 x) new_point.1 (stored file.0 file.1).names in
      let nothing : counting is.reading ≡ [] =
      no_last (counting is.reading) (λ key. sym (is.entries key) ∙ none key) in (
        now,
        record {
          save = file.1;
          snaps = ap tells snaps ∙ told.snaps;
          bank = emptied;
        },
        record {
          reading = settled_reading q is.reading;
          is = settled_reads found now p q is.reading is.is (sym is.point ∙ was.1)
              (says_same saved s.saved p q was.2 new_point.2 without) names (front_take (512 * p.count) found.snaps);
          point = sym new_point.1;
          pages = ap (λ (st : StoreState). words_of st.pages) store ∙ is.pages;
          decls = decls ∙ is.decls;
          lines = refl;
          state = λ key. ap (λ (st : State). get st key) state ∙ is.state key
              ∙ ap (λ es. value_over (last_of key es) (snapshot_value is.reading key)) nothing;
        },
      )

  -- and those of one that had none
  pub rests_fresh : {found : Images} (old new : Vault D) (r : Recovered) (s : Settled) (page : Page)
      → AreTold tells (parts_of old) found → Recovers found r → r.save.newest ≡ None
      → s.save.newest ≡ Some (point_of 1 first_saved)
      → s.store.pages ≡ page ∷ [] → IsFirstPage page.words (first_contents s.decls) → s.state ≡ r.state
      → is_some (tells new.save) ≡ is_some (tells old.save) → is_some (tells new.snaps) ≡ is_some (tells old.snaps)
      → IsStored tells clock image_at new.save s.save.newest → HoldsPages tells new.snaps s.store.pages
      → AreEmpty tells new
      → (now : Images) × AreTold tells (parts_of new) now × SaysSettled now s
  rests_fresh {found = found}
      old new r s page told is none newest pages first state told_save told_snaps stored holds emptied =
      let q = point_of 1 first_saved in
      let c = first_contents s.decls in
      let fresh = recovers_fresh found r is none in
      let file = some_of (tells new.save) (told_save ∙ ap is_some told.save) in
      let snaps = some_of (tells new.snaps) (told_snaps ∙ ap is_some told.snaps) in
      let now : Images = record { save = file.0; snaps = snaps.0; bank = λ n. [] } in
      let names : Names file.0 (Some q) = subst (λ x. Names file.0 x) newest (stored file.0 file.1).names in
      let front = subst (λ l. IsFront l snaps.0)
      (one_page_bytes s.store.pages page (catalogue_words c) pages first.words_are) (holds snaps.0 snaps.1) in
      let has = first_page snaps.0 (catalogue_words c) (ap length (sym first.words_are) ∙ first.count)
      (subst (AllByRecursion (λ w. w < 2 ^ 64)) first.words_are first.fit) front in (
        now,
        record {
          save = file.1;
          snaps = snaps.1;
          bank = emptied;
        },
        record {
          reading = first_reading q c;
          is = first_reads now q c is_first names first.catalogue first.previous first.first has;
          point = sym newest;
          pages = ap words_of pages ∙ ap (λ w. w ∷ []) first.words_are;
          decls = sym (same_decls s.decls);
          lines = refl;
          state = λ key. ap (λ (st : State). get st key) state ∙ fresh.empty key
              ∙ sym (no_first_value q c key first.first);
        },
      )

-- where nothing is done, all is as it was
pub same_none : {D : Type 0} (vault : Vault D) → SameDevices vault vault
same_none vault = record { save = refl; snaps = refl; even = refl; odd = refl; ties = refl; cuts = refl }

-- what two calls left as it was both together left
pub same_then : {D : Type 0} {old mid new : Vault D} → SameDevices old mid → SameDevices mid new → SameDevices old new
same_then first next = record {
  save = next.save ∙ first.save;
  snaps = next.snaps ∙ first.snaps;
  even = next.even ∙ first.even;
  odd = next.odd ∙ first.odd;
  ties = next.ties ∙ first.ties;
  cuts = next.cuts ∙ first.cuts;
}

-- and so did a call that left an equal vault
pub same_devices : {D : Type 0} {old mid new : Vault D} → SameDevices old mid → new ≡ mid → SameDevices old new
same_devices {old = old} first same = subst (SameDevices old) (sym same) first

-- counts that stood still since such a call stood still in all
pub quiet_same : {D : Type 0} {faults : D → ℕ} {old mid : Vault D} (new : Vault D) → SameDevices old mid
    → AreQuiet faults mid new → AreQuiet faults old new
quiet_same {faults = faults} {old = old} {mid = mid} new same quiet = quiet_of old new
    (quiet Save mid.save new.save refl refl ∙ ap faults same.save)
    (quiet Snaps mid.snaps new.snaps refl refl ∙ ap faults same.snaps)
    (λ n was now before after. quiet (Bank n) was now (rw (same.even, same.odd) before) after)
