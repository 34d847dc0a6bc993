-- How a runtime begins over a vault that was settled.
use Rattle.std.proofs.Common.{◌≡◌, ◌∙◌, ◌≤◌, ◌<◌, ◌+◌, ◌-◌, ◌*◌, inl, sym, ap, subst, refl, ℕ, zero, suc, List, []}
use Rattle.std.proofs.Common.{length, Option, Some, None, true, arith}
use Rattle.std.specs.Prelude.{◌^◌, get_or, replicate, slice_get}
use Rattle.std.specs.Option.{option_map}
use Rattle.std.proofs.lemmas.Option.{same_Some}
use Rattle.lists.specs.Each.{all_replicate}
use Rattle.outside.specs.Disk.{IfTold}
use Rattle.log_writer.specs.Counted.{AlwaysTells, KeepsCounted, keeps_nothing}
use Rattle.log_writer.specs.Vault.{disk_in, IsWhole}
use Rattle.outside.specs.declared.device.Device.TheVariants.{Bank}
use Rattle.log_writer.specs.declared.vault.Vault.{Vault}
use Rattle.serial_model.specs.State.{State}
use Rattle.serial_model.specs.declared.decl.Decl.{Decl}
use Rattle.serial_model.specs.declared.key.Key.{Key}
use Rattle.serial_model.specs.declared.number.Number.{Number}
use Rattle.homes.specs.declared.places.Content.{Content}
use Rattle.wire_form.specs.Pages.{Contents, decls_of}
use Rattle.wire_form.specs.declared.savepoint.Savepoint.{Savepoint}
use Rattle.snapshot_store.specs.Content.{SnapshotStands, words_of}
use Rattle.snapshot_store.specs.Store.{HoldsPages, StoreState}
use Rattle.log_writer.specs.Points.{SaveState, saved_of}
use Rattle.log_writer.specs.Save.{IsStored}
use Rattle.log_writer.specs.declared.saved.Saved.{Saved}
use Rattle.joint_crashes.specs.Images.{counted_of, epoch_of}
use Rattle.joint_crashes.specs.Marks.{Marks}
use Rattle.joint_crashes.specs.Crashes.Marking.{mark_set}
use Rattle.worker_logs.specs.Logs.{IsJoined, IsLog, LogState, fresh_log, log_limit}
use Rattle.worker_logs.specs.Saves.{CountsOf}
use Rattle.worker_logs.specs.declared.savepoints.Side.TheVariants.{Even}
use Rattle.round_engine.specs.Begun.{begun}
use Rattle.round_engine.specs.Logs.{AreClosedFiles, AreLogs}
use Rattle.round_engine.specs.Standing.{IsMarkBefore, IsPublished, Standing, StandsOn}

-- what stands in a list of one thing
pub replicate_at : {X : Type 0} (n i : ℕ) (x y : X) → slice_get (replicate n x) i ≡ Some y → x ≡ y
replicate_at zero i x y at = absurd cc
replicate_at (suc n) zero x y at = same_Some x y at
replicate_at (suc n) (suc i) x y at = replicate_at n i x y at

pub zero_at : (n i : ℕ) → ◌≡◌ {A = ℕ} (get_or (replicate n 0) i 0) 0
zero_at zero i = refl
zero_at (suc n) zero = refl
zero_at (suc n) (suc i) = zero_at n i

-- what is known of the newest savepoint
pub known_epoch : (newest : Option Savepoint) (saved : Saved) → Some saved ≡ option_map saved_of newest
    → epoch_of newest ≡ saved.epoch
known_epoch None saved known = absurd (let no = known in cc)
known_epoch (Some p) saved known = ap (λ (s : Saved). s.epoch) (sym (same_Some saved (saved_of p) known))

pub known_counts : (newest : Option Savepoint) (saved : Saved) → Some saved ≡ option_map saved_of newest
    → saved.lengths ≡ replicate 16 0 → (n : ℕ) → counted_of newest n ≡ 0
known_counts None saved known none n = refl
known_counts (Some p) saved known none n =
    ap (λ l. get_or l n 0) (ap (λ (s : Saved). s.lengths) (sym (same_Some saved (saved_of p) known)) ∙ none) ∙ zero_at 16 n

pub begun_counts : (newest : Option Savepoint) (saved : Saved) → Some saved ≡ option_map saved_of newest
    → saved.lengths ≡ replicate 16 0
    → CountsOf Even (λ worker. []) (λ worker. []) (λ worker. []) (λ worker. []) newest
begun_counts newest saved known none = record {
  growing = λ worker below.
      let nothing = known_counts newest saved known none (2 * worker) in (
        subst (λ k. Marks [] (epoch_of newest) k) (sym nothing) (mark_set [] (epoch_of newest)),
        omega (arith, nothing),
      );
  before = λ worker below. inl (known_counts newest saved known none (2 * worker + 1));
}

-- the newest snapshot of a settled database
pub record IsSettledOn {D : Type 0} (tells : D → Option (List ℕ)) (decls : List Decl) (store : StoreState) (room : ℕ)
    (epoch : ℕ) (snaps : D) : Type 0 where
  pub sound : store.sound ≡ true
  pub holds : HoldsPages tells snaps store.pages
  pub contents : Contents
  pub stands : SnapshotStands (words_of store.pages) (length store.pages) contents
  pub decls_are : decls ≡ decls_of contents
  pub up_to : contents.epoch ≤ epoch
  pub let_in : length store.pages ≤ room
  pub most : room ≤ 65536

module _ {D : Type 0} {tells : D → Option (List ℕ)} {clock : D → ℕ} {image_at : D → ℕ → List ℕ → Type 0} where
  pub begun_logs : (decls : List Decl) (state : State) (words : Standing) (save : SaveState)
      (store : StoreState) (room : ℕ) (first : Number) (vault : Vault D) → ((number : ℕ) (bank : D) → disk_in vault (Bank number) ≡ Some bank → tells bank ≡ Some [])
      → AreLogs tells clock image_at (λ worker. []) (λ worker. []) (begun decls state words save store room first) vault
      × AreClosedFiles tells clock image_at (λ worker. []) (λ worker. [])
      (begun decls state words save store room first) vault
  begun_logs decls state words save store room first vault empty = (
    λ worker log bank at there.
        subst (λ (l : LogState). IsLog tells clock image_at [] [] l bank)
        (replicate_at 8 worker (fresh_log (first.epoch - 1)) log at)
        (record {
          journal_of = record {
            durable = record { size = refl; begins = λ image is. refl };
            told = λ up. empty (2 * worker) bank there;
          };
          lines = refl;
          mark = record { says = mark_set [] (first.epoch - 1); within = omega arith };
        }),
    λ worker counted bank at there. record {
      lines = refl;
      begins = λ image is. refl;
      told = ([], empty (2 * worker + 1) bank there, refl);
      counts = inl (sym (replicate_at 8 worker 0 counted at));
    },
  )

  pub begun_stands : (decls : List Decl) (state : State) (words : Standing) (save : SaveState)
      (store : StoreState) (room : ℕ) (saved : Saved) (first : Number) (vault : Vault D) → Some saved ≡ option_map saved_of save.newest
      → first.epoch ≡ saved.epoch + 1 → IsWhole vault → save.down ≡ None
      → IsStored tells clock image_at vault.save save.newest
      → IsSettledOn tells decls store room saved.epoch vault.snaps
      → IsPublished (begun decls state words save store room first)
      → (AlwaysTells tells → (number : ℕ) (bank : D) → disk_in vault (Bank number) ≡ Some bank → tells bank ≡ Some [])
      → StandsOn tells clock image_at (begun decls state words save store room first) vault
  begun_stands decls state words save store room saved first vault known next whole up stored settled published empty =
      let before : first.epoch - 1 ≡ saved.epoch = omega (arith, next) in
      record {
        whole = whole;
        workers = refl;
        limits = all_replicate (λ (l : LogState). l.journal.limit ≡ log_limit) 8 (fresh_log (first.epoch - 1)) refl;
        above = omega (arith, known_epoch save.newest saved known, next);
        marked = all_replicate (λ (l : LogState). IsMarkBefore first.epoch l.mark.epoch) 8 (fresh_log (first.epoch - 1))
            (omega (arith, next));
        closed = record {
          workers = refl;
          counted = all_replicate (λ (n : ℕ). n < 2 ^ 40) 8 0 (omega arith);
          before = omega (arith, next);
        };
        most_pages = settled.most;
        up = λ is. record {
          save = up;
          store = settled.sound;
          logs = all_replicate (λ (l : LogState). l.journal.down ≡ None) 8 (fresh_log (first.epoch - 1)) refl;
        };
        goes_on = λ on. record {
          up = refl;
          logs = all_replicate (IsJoined first.epoch) 8 (fresh_log (first.epoch - 1)) (record { flushed = refl; marked = refl });
        };
        stored = λ is. stored;
        snapshot = λ is. record {
          holds = settled.holds;
          contents = settled.contents;
          stands = settled.stands;
          decls = settled.decls_are;
          up_to = omega (arith, settled.up_to, before);
          earlier = λ some. absurd (let no = some in cc);
          let_in = settled.let_in;
          published = published;
        };
        reaches = λ worker log bank at there.
            subst (λ (l : LogState). IfTold (tells bank) (λ file. l.journal.durable ≤ length file))
            (replicate_at 8 worker (fresh_log (first.epoch - 1)) log at) (λ file told. omega arith);
        durable = λ always.
            let logs = begun_logs decls state words save store room first vault (empty always) in
            record {
              growing = λ worker log bank at there.
                  record { commits = []; durable = []; is = logs.0 worker log bank at there };
              closed = λ worker counted bank at there.
                  subst (λ k. KeepsCounted clock image_at k bank) (replicate_at 8 worker 0 counted at) (keeps_nothing bank);
            };
      }
