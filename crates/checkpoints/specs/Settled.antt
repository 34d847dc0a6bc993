-- What a settling gives of a database: a savepoint that counts nothing of the log files, which are empty, over the
-- pages and the state that were recovered.
use Rattle.std.specs.Prelude.{◌≡◌, ◌==◌, ℕ, List, [], ◌∷◌, Option, Some, None}
use Rattle.std.specs.Prelude.{if◌then◌else◌, filter, replicate}
use Rattle.std.proofs.Common.{sym, ap, ◌∙◌}
use Rattle.std.specs.FinMap.{get}
use Rattle.std.specs.List.{list_all}
use Rattle.std.specs.Option.{option_map}
use Rattle.log_writer.specs.declared.vault.Vault.{Vault}
use Rattle.serial_model.specs.declared.decl.Decl.{Decl}
use Rattle.serial_model.specs.declared.key.Key.{Key}
use Rattle.serial_model.specs.declared.number.Commit.{Commit}
use Rattle.wire_form.specs.Pages.{catalogue_words}
use Rattle.log_writer.specs.Points.{saved_of}
use Rattle.log_writer.specs.declared.saved.Saved.{Saved}
use Rattle.snapshot_store.specs.Content.{words_of}
use Rattle.checkpoints.specs.declared.without_entries.Settled.{Settled}
use Rattle.recovery_core.specs.Catalogues.{newest_decls, newest_epoch}
use Rattle.checkpoints.specs.FreshLaws.{first_saved}
use Rattle.joint_crashes.specs.Images.{Images, epoch_of}
use Rattle.recovery_core.specs.LogEntries.{logged, counts, last_of}
use Rattle.recovery_core.specs.Recoverable.{Reading, IsReading, IsRecoverable, snapshot_value, value_over}
use Rattle.checkpoints.specs.SettleLaws.{without_files, point_says}
use Rattle.checkpoints.specs.SettlePages.{first_contents}

-- what its savepoint says: the same as before, with nothing counted of the log files, or, where there was none, what
-- the first one says
abbrev pub settled_saved : Option Saved → Saved
settled_saved None = first_saved
settled_saved (Some s) = without_files s

-- so many savepoints are stored: none where one counts nothing of the log files already
abbrev pub stores_due : Option Saved → ℕ
stores_due None = 1
stores_due (Some s) = if list_all (λ n. n == 0) s.lengths then 0 else 1

-- the words of its pages: those that were there, or, where nothing was saved, the first catalogue's
abbrev pub settled_pages : Option Saved → List (List ℕ) → List Decl → List (List ℕ)
settled_pages None pages decls = catalogue_words (first_contents decls) ∷ []
settled_pages (Some s) pages decls = pages

-- What the devices of a settled database say: its savepoint, which counts nothing of the log files, the pages, and a
-- newest snapshot of its storages that has its state.
pub record SaysSettled (found : Images) (s : Settled) : Type 0 where
  pub reading : Reading
  pub is : IsReading found reading
  pub point : reading.point ≡ s.save.newest
  pub pages : words_of s.store.pages ≡ reading.pages
  pub decls : s.decls ≡ newest_decls reading.catalogues
  pub lines : reading.lines ≡ replicate 16 []
  pub state : (key : Key) → get s.state key ≡ snapshot_value reading key

-- in particular they stand for its saved epoch and its state
pub settled_recoverable : (found : Images) (s : Settled) → SaysSettled found s
    → Some s.saved ≡ option_map saved_of s.save.newest → IsRecoverable found s.saved.epoch s.state
settled_recoverable found s is says =
    let point = point_says s.save.newest s.saved says in
    let reading = is.reading in
    record {
      reading = reading;
      is = is.is;
      epoch_is = ap (λ (x : Saved). x.epoch) point.2 ∙ ap epoch_of (sym (is.point ∙ point.1));
      state_is = λ key. is.state key ∙ ap (λ (lines : List (List Commit)). value_over (last_of key
          (filter (counts (newest_epoch reading.catalogues) (epoch_of reading.point)) (logged lines)))
          (snapshot_value reading key)) (sym is.lines);
    }

-- the devices are as they were, and nothing was recorded of them
pub record SameDevices {D : Type 0} (old new : Vault D) : Type 0 where
  pub save : new.save ≡ old.save
  pub snaps : new.snaps ≡ old.snaps
  pub even : new.even ≡ old.even
  pub odd : new.odd ≡ old.odd
  pub ties : new.ties.items ≡ old.ties.items
  pub cuts : new.cuts.items ≡ old.cuts.items
