-- What is kept of a run, in pages and log files, and how a round's gleans and saves carry it on.
use Rattle.std.proofs.Common.{◌≡◌, ◌⊎◌, ◌∙◌, ◌≤◌, ◌<◌, ◌+◌, ◌^◌, sym, ap, subst, refl, inl, inr, ℕ, Bool, true, false}
use Rattle.std.proofs.Common.{true≢false, arith, List, [], ◌∷◌, ◌++◌, length, Option, Some, None, append_assoc}
use Rattle.std.specs.Prelude.{map, not, replicate, slice_get}
use Rattle.std.specs.FinMap.{get}
use Rattle.std.specs.List.{AllByRecursion}
use Rattle.std.proofs.lemmas.List.{append-nil, length-append, length-map}
use Rattle.lists.specs.Each.{all_append, all_weaker}
use Rattle.log_writer.specs.Vault.{IsWhole as VaultIsWhole}
use Rattle.log_writer.specs.declared.vault.Vault.{Vault}
use Rattle.serial_model.specs.History.{Entry, EpochsNeverFall, Rises, as_of}
use Rattle.serial_model.specs.State.{State}
use Rattle.serial_model.specs.declared.decl.Decl.{Decl}
use Rattle.serial_model.specs.declared.key.Key.{Key}
use Rattle.serial_model.specs.declared.number.Commit.{Commit}
use Rattle.log_reducer.specs.Overlay.{overlay}
use Rattle.wire_form.specs.LogFile.{lines_bytes}
use Rattle.wire_form.specs.Pages.{Contents}
use Rattle.wire_form.specs.declared.page.Page.{Page}
use Rattle.wire_form.specs.declared.savepoint.Savepoint.{Savepoint}
use Rattle.snapshot_store.specs.Content.{IsContent, record_in, value_at, words_of}
use Rattle.snapshot_store.specs.Store.{IsWhole, StoreState}
use Rattle.recovery_core.specs.Catalogues.{newest_epoch, newest_storages}
use Rattle.joint_crashes.specs.Images.{counted_of}
use Rattle.recovery_core.specs.Recoverable.{Reading}
use Rattle.checkpoints.specs.NextReading.{newest_is}
use Rattle.worker_logs.specs.Saves.{IsCounted, closed_number, growing_number}
use Rattle.worker_logs.specs.declared.savepoints.Side.{Side}
use Rattle.tx_script.specs.Causes.{some_counted}
use Rattle.round_engine.specs.Gleans.{AddsSnapshot}
use Rattle.round_engine.specs.Logs.{AreClosedFiles}
use Rattle.round_engine.specs.Sides.{is_odd}
use Rattle.round_engine.specs.Standing.{RuntimeState}
use Rattle.program_calls.proofs.KeptFiles.{mapped_last}
use Rattle.program_calls.proofs.KeptGleans.{gleaned_value}
use Rattle.program_calls.proofs.KeptLogged.{LoggedIn}
use Rattle.program_calls.proofs.KeptPages.{SnapshotsAt, snapshots_more, snapshots_next, snapshots_over}

-- ---- the snapshots of a store

-- all commits are of epochs up to this one
abbrev pub AllUpTo : ℕ → List Commit → Type 0
AllUpTo epoch commits = AllByRecursion (λ c. c.number.epoch ≤ epoch) commits

-- The pages of a store: their snapshots, of which the newest isn't later than the epoch at which the log files were
-- closed, and has all that was logged before them.
pub record PagesOf (was : Reading) (decls : List Decl) (saved : ℕ) (s : State) (ordered : List Entry)
    (pages : List Page) (older : ℕ → List Commit) (closed_at : ℕ) : Type 0 where
  pub at : SnapshotsAt was decls saved s ordered (words_of pages) (length pages)
  pub older_in : (w : ℕ) → w < 8 → AllUpTo (newest_epoch at.catalogues) (older w)
  pub closed_in : newest_epoch at.catalogues ≤ closed_at
  pub whole : AllByRecursion IsWhole pages
  pub fit : AllByRecursion (AllByRecursion (λ w. w < 2 ^ 64)) (words_of pages)

-- All bytes of the closed log files count, and are of later epochs than the newest snapshot's; or nothing of them does,
-- and it has all that they have.
abbrev pub Counts : List ℕ → (ℕ → List Commit) → ℕ → ℕ → Type 0
Counts counted gone since newest =
    (((w n : ℕ) → slice_get counted w ≡ Some n → n ≡ length (lines_bytes (gone w))) × (newest ≤ since))
    ⊎ ((counted ≡ replicate 8 0) × ((w : ℕ) → w < 8 → AllUpTo newest (gone w)))

-- More was run, of later epochs.
pub pages_more : {was : Reading} {decls : List Decl} {saved : ℕ} {s : State} {ordered : List Entry} {pages : List Page}
    {older : ℕ → List Commit} {closed_at : ℕ} (of : PagesOf was decls saved s ordered pages older closed_at)
    (more : List Entry) → AllByRecursion (λ e. closed_at < e.number.epoch) more
    → (next : PagesOf was decls saved s (ordered ++ more) pages older closed_at)
    × (newest_epoch next.at.catalogues ≡ newest_epoch of.at.catalogues)
pages_more {older = older} {closed_at = closed_at} of more later =
    let at = snapshots_more of.at more (all_weaker (λ (e : Entry). closed_at < e.number.epoch)
    (λ (e : Entry). newest_epoch of.at.catalogues < e.number.epoch)
    (λ e past. (let up = of.closed_in in omega (arith, past, up))) more later) in
    let same : newest_epoch at.0.catalogues ≡ newest_epoch of.at.catalogues = ap newest_epoch at.1 in (
      record {
        at = at.0;
        older_in = λ w below. subst (λ e. AllUpTo e (older w)) (sym same) (of.older_in w below);
        closed_in = (let up = of.closed_in in omega (arith, same, up));
        whole = of.whole;
        fit = of.fit;
      },
      same,
    )

-- The log files are closed anew, at a later epoch: the newest snapshot has what they had.
pub pages_turned : {was : Reading} {decls : List Decl} {saved : ℕ} {s : State} {ordered : List Entry}
    {pages : List Page} {older : ℕ → List Commit} {closed_at : ℕ}
    (of : PagesOf was decls saved s ordered pages older closed_at) (gone : ℕ → List Commit) (epoch : ℕ)
    → closed_at ≤ epoch → ((w : ℕ) → w < 8 → AllUpTo (newest_epoch of.at.catalogues) (gone w))
    → (next : PagesOf was decls saved s ordered pages (λ w. older w ++ gone w) epoch)
    × (newest_epoch next.at.catalogues ≡ newest_epoch of.at.catalogues)
pages_turned {older = older} of gone epoch later has = (
  record {
    at = of.at;
    older_in = λ w below. all_append (λ (c : Commit). c.number.epoch ≤ newest_epoch of.at.catalogues) (older w)
        (gone w) (of.older_in w below) (has w below);
    closed_in = (let up = of.closed_in in omega (arith, up, later));
    whole = of.whole;
    fit = of.fit;
  },
  refl,
)

-- A glean made a snapshot of what the closed log files have.
module _ {D : Type 0} {tells : D → Option (List ℕ)} {clock : D → ℕ} {image_at : D → ℕ → List ℕ → Type 0}
    {was : Reading} {decls : List Decl} {saved : ℕ} {s : State} {ordered : List Entry} {since : ℕ}
    {older gone commits : ℕ → List Commit} {closed : ℕ → List ℕ} (r : RuntimeState) (vault : Vault D)
    (it : LoggedIn decls s ordered since r.closed_at older gone commits) (rises : Rises ordered)
    (falls : EpochsNeverFall ordered) (whole : VaultIsWhole vault) (eight : length r.counted ≡ 8)
    (files : AreClosedFiles tells clock image_at gone closed r vault)
    (counted : (w n : ℕ) → slice_get r.counted w ≡ Some n → n ≡ length (lines_bytes (gone w)))
    (same : r.stands.decls ≡ decls) (from : saved ≤ r.closed_at)
    (of : PagesOf was decls saved s ordered r.store.pages older r.closed_at)
    (early : newest_epoch of.at.catalogues ≤ since) where
  -- the same store with one more
  pub record NextPages (store : StoreState) : Type 0 where
    pub next : PagesOf was decls saved s ordered store.pages older r.closed_at
    pub epoch : newest_epoch next.at.catalogues ≡ r.closed_at

  pub glean_next : (store : StoreState) (new : ℕ) → AddsSnapshot tells r vault store new → NextPages store
  glean_next store new adds =
      let words : List (List ℕ) = words_of r.store.pages in
      let c = adds.gleaned.composes in
      let here = newest_is words (newest_epoch of.at.catalogues + 1) (length r.store.pages) of.at.catalogues adds.contents
      of.at.some of.at.chain adds.newest.here in
      let front = newest_is words (newest_epoch of.at.catalogues + 1) (length r.store.pages) of.at.catalogues c.contents
      of.at.some of.at.chain c.can.stands.here in
      let after : newest_epoch of.at.catalogues ≡ adds.contents.epoch = ap newest_epoch here.1 in
      let last = mapped_last r vault it rises whole eight files counted r.stands.decls adds.contents.epoch
      adds.gleaned.buckets c.run same (omega (arith, after, early)) adds.gleaned.mapped c.last in
      let value = gleaned_value it rises falls (not (is_odd r.side)) c.run last (newest_epoch of.at.catalogues)
      of.closed_in of.older_in (λ w below. all_weaker (λ (c : Commit). since < c.number.epoch)
      (λ (c : Commit). newest_epoch of.at.catalogues < c.number.epoch) (λ c above. omega (arith, above, early)) (gone w)
      (it.gone_from w below)) in
      let was_content : IsContent (record_in words) c.contents.storages
      (as_of decls s ordered (newest_epoch of.at.catalogues)) =
      λ key. of.at.content key ∙ ap (λ cs. value_at (record_in words) (newest_storages cs) key) front.1 in
      let now = c.composed.content (as_of decls s ordered (newest_epoch of.at.catalogues)) was_content in
      let next = snapshots_next of.at c.run r.closed_at c.contents adds.gleaned.made c.can c.composed from
      (λ key. sym (value key) ∙ now key) in
      let all : words ++ adds.gleaned.made ≡ words_of store.pages = sym adds.gleaned.added in
      let size : length words + length adds.gleaned.made ≡ length store.pages =
      sym (length-append words adds.gleaned.made) ∙ ap length all ∙ length-map store.pages (λ (p : Page). p.words) in
      let moved = snapshots_over (words ++ adds.gleaned.made) (words_of store.pages) (length words + length adds.gleaned.made)
      (length store.pages) all size next.0 in
      let epoch : newest_epoch moved.0.catalogues ≡ r.closed_at = moved.1 ∙ next.1 in
      record {
        next = record {
          at = moved.0;
          older_in = λ w below. all_weaker (λ (c : Commit). c.number.epoch ≤ since)
              (λ (c : Commit). c.number.epoch ≤ newest_epoch moved.0.catalogues)
              (λ c by. (let up = it.since_by in omega (arith, by, up, epoch))) (older w) (it.older_by w below);
          closed_in = omega (arith, epoch);
          whole = adds.whole;
          fit = adds.fit;
        };
        epoch = epoch;
      }
