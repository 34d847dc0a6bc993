-- What is kept of a run between two rounds, in pages, log files and the newest savepoint, and how a round carries it on.
use Rattle.std.proofs.Common.{◌≡◌, ◌⊎◌, ◌∙◌, ◌≤◌, ◌<◌, ◌+◌, sym, ap, subst, refl, inl, inr, ℕ, Bool, true, false}
use Rattle.std.proofs.Common.{true≢false, arith, List, [], ◌∷◌, ◌++◌, length, Option, Some, None, append_assoc}
use Rattle.std.specs.Prelude.{◌==◌, MatchBool, get_or, map, option_to_list, replicate, slice_get}
use Rattle.std.proofs.lemmas.Bool.{cases_Bool}
use Rattle.std.specs.List.{AllByRecursion, Contains}
use Rattle.std.proofs.lemmas.List.{append-nil, length-map}
use Rattle.lists.specs.Each.{all_append, all_weaker}
use Rattle.log_writer.specs.Vault.{IsWhole}
use Rattle.log_writer.specs.declared.vault.Vault.{Vault}
use Rattle.serial_model.specs.History.{Entry, EpochsNeverFall, Rises, state_after, state_after_all}
use Rattle.serial_model.specs.State.{State}
use Rattle.serial_model.specs.declared.decl.Decl.{Decl}
use Rattle.serial_model.specs.declared.number.Commit.{Commit}
use Rattle.serial_model.specs.declared.number.Number.{Number}
use Rattle.wire_form.specs.LogFile.{IsLineOf, lines_bytes}
use Rattle.wire_form.specs.declared.clock.Mark.{Mark}
use Rattle.wire_form.specs.declared.page.Page.{Page}
use Rattle.wire_form.specs.declared.savepoint.Savepoint.{Savepoint}
use Rattle.log_writer.specs.Points.{point_of, sequence_of}
use Rattle.log_writer.specs.declared.saved.Saved.{Saved}
use Rattle.snapshot_store.specs.Store.{StoreState}
use Rattle.recovery_core.specs.Catalogues.{newest_epoch}
use Rattle.joint_crashes.specs.Crashes.Marking.{mark_set}
use Rattle.joint_crashes.specs.Images.{counted_of, epoch_of}
use Rattle.joint_crashes.specs.Marks.{Marks}
use Rattle.recovery_core.specs.Recoverable.{Reading}
use Rattle.tx_script.specs.Causes.{AllCaused, keeper_before, some_counted}
use Rattle.tx_script.specs.Run.{LogFiles, Ran}
use Rattle.tx_script.specs.declared.answer.Answer.{Answer}
use Rattle.worker_logs.specs.Changes.{IsLogged}
use Rattle.worker_logs.specs.Saves.{CountsOf, IsCounted, SavesBy, closed_number, growing_number}
use Rattle.worker_logs.specs.SavesLaws.{closed_length}
use Rattle.worker_logs.specs.declared.savepoints.Beside.{Beside}
use Rattle.worker_logs.specs.declared.savepoints.Side.{Side}
use Rattle.round_engine.specs.Changes.{AreLogged}
use Rattle.round_engine.specs.Gleans.{RoundGleans}
use Rattle.round_engine.specs.Logs.{AreClosedFiles}
use Rattle.worker_logs.specs.Rows.{NeverFall}
use Rattle.round_engine.specs.Saves.{IsSavedBy, beside_after, beside_at_end, newest_after}
use Rattle.round_engine.specs.Sides.{other_side}
use Rattle.round_engine.specs.Standing.{RuntimeState, beside_of, files_of}
use Rattle.program_calls.proofs.KeptFiles.{closed_file, item_at}
use Rattle.program_calls.proofs.KeptHere.{AllUpTo, Counts, PagesOf, glean_next, pages_more, pages_turned}
use Rattle.program_calls.proofs.KeptLogged.{LoggedIn, logged_more, logged_turned}
use Rattle.program_calls.proofs.KeptSaves.{ByEither, NewestOf, by_either, closed_eight, covers_none, growing_stays, last_in}
use Rattle.program_calls.proofs.KeptSaves.{last_in_later, made_counted, made_zero, newest_of, no_commits, none_same, snap_in}
use Rattle.program_calls.proofs.KeptSaves.{zero_at}

-- So many bytes of a closed log file count: all that it has; or nothing, and a snapshot of this epoch has it.
abbrev pub GoneCounts : ℕ → List Commit → List ℕ → ℕ → ℕ → Type 0
GoneCounts epoch gone closed size newest = IsCounted gone closed epoch size ⊎ ((size ≡ 0) × AllUpTo newest gone)

-- What is kept of a run: what the workers logged of it, in parts; the snapshots of the store's pages, and whether the
-- closed log files count beside them; and the newest savepoint with its pages, and what it counts of each log file.
pub record KeptParts (was : Reading) (decls : List Decl) (saved : ℕ) (s : State) (ordered : List Entry) (side : Side)
    (counted : List ℕ) (since closed_at : ℕ) (older gone commits : ℕ → List Commit) (durable closed : ℕ → List ℕ)
    (pages : List Page) (newest : Option Savepoint) (last : ℕ) : Type 0 where
  pub it : LoggedIn decls s ordered since closed_at older gone commits
  pub above : AllByRecursion (λ e. saved < e.number.epoch) ordered
  pub saved_by : saved ≤ since
  pub store : PagesOf was decls saved s ordered pages older closed_at
  pub counts : Counts counted gone since (newest_epoch store.at.catalogues)
  pub point : Savepoint
  pub newest_is : newest ≡ Some point
  pub epoch : point.epoch ≡ last
  pub closed_by : closed_at ≤ point.epoch
  pub point_pages : List Page
  pub rest : List Page
  pub front : pages ≡ point_pages ++ rest
  pub count : point.count ≡ length point_pages
  pub catalogue : point.catalogue ≡ length point_pages
  pub point_store : PagesOf was decls saved s ordered point_pages older closed_at
  pub growing : (w : ℕ) → w < 8
      → IsCounted (commits w) (durable w) point.epoch (counted_of (Some point) (growing_number side w))
  pub gone_counts : (w : ℕ) → w < 8 → GoneCounts point.epoch (gone w) (closed w)
      (counted_of (Some point) (closed_number side w)) (newest_epoch point_store.at.catalogues)

-- ---- lists

pub all_front : {X : Type 0} (P : X → Type 0) (xs ys : List X) → AllByRecursion P (xs ++ ys) → AllByRecursion P xs
all_front P [] ys all = tt
all_front P (x ∷ xs) ys all = (all.0, all_front P xs ys all.1)

-- what counts is told by the same words
pub counts_same : (a b : List ℕ) (gone : ℕ → List Commit) (since m n : ℕ) → a ≡ b → m ≡ n → Counts a gone since m
    → Counts b gone since n
counts_same a b gone since m n ab mn counts =
    subst (λ (l : List ℕ). Counts l gone since n) ab (subst (λ (k : ℕ). Counts a gone since k) mn counts)

-- ---- the pages behind a round's gleans

-- The store behind the lines of a round, and what counts beside it.
pub record StoreThen (was : Reading) (decls : List Decl) (saved : ℕ) (s : State) (ordered : List Entry)
    (pages : List Page) (older gone : ℕ → List Commit) (since closed_at : ℕ) (counted : List ℕ) : Type 0 where
  pub next : PagesOf was decls saved s ordered pages older closed_at
  pub counts : Counts counted gone since (newest_epoch next.at.catalogues)

module _ {D : Type 0} {tells : D → Option (List ℕ)} {clock : D → ℕ} {image_at : D → ℕ → List ℕ → Type 0}
    {was : Reading} {decls : List Decl} {saved : ℕ} {s : State} {ordered : List Entry} {since : ℕ}
    {older gone commits : ℕ → List Commit} {closed : ℕ → List ℕ} (old new : RuntimeState) (before now : Vault D)
    (ran : Ran) (it : LoggedIn decls s ordered since old.closed_at older gone commits) (rises : Rises ordered)
    (falls : EpochsNeverFall ordered) (whole : IsWhole before) (eight : length old.counted ≡ 8)
    (files : AreClosedFiles tells clock image_at gone closed old before) (same : old.stands.decls ≡ decls)
    (from : saved ≤ since) (sound : new.store.sound ≡ true) (caused : AllCaused ran)
    (files_are : ran.beside.files ≡ files_of old)
    (gleans : RoundGleans tells ran.printed.answers ran.beside.gleans ran.beside.damaged old new before now)
    (of : PagesOf was decls saved s ordered old.store.pages older old.closed_at)
    (counts : Counts old.counted gone since (newest_epoch of.at.catalogues)) where
  pub store_then : StoreThen was decls saved s ordered new.store.pages older gone since old.closed_at
      (beside_at_end (beside_of old) ran.printed.answers).closed
  store_then = elim (snap_in ran.printed.answers) [
    | inr none ↦
        let store : new.store ≡ old.store = (gleans.kept none sound).0 in
        let closed_is : old.counted ≡ (beside_at_end (beside_of old) ran.printed.answers).closed =
        sym (ap (λ (b : Beside). b.closed) (none_same (beside_of old) ran.printed.answers none)) in
        subst (λ (x : StoreState). StoreThen was decls saved s ordered x.pages older gone since old.closed_at
        (beside_at_end (beside_of old) ran.printed.answers).closed) (sym store) (record {
          next = of;
          counts = counts_same old.counted (beside_at_end (beside_of old) ran.printed.answers).closed gone since
              (newest_epoch of.at.catalogues) (newest_epoch of.at.catalogues) closed_is refl counts;
        })
    | inl snap ↦
        let needed : some_counted old.counted ≡ true =
        sym (ap (λ (f : LogFiles). some_counted f.counted) files_are)
        ∙ made_counted ran (keeper_before ran) (beside_of old) ran.printed.asked ran.printed.answers snap.0 snap.1 caused.answers snap.2
        in
        elim counts [
          | inr none ↦ absurd (true≢false (sym needed ∙ ap some_counted none.0))
          | inl all ↦
              let up : since ≤ old.closed_at = it.since_by in
              let next = glean_next old before it rises falls whole eight files all.0 same (omega (arith, from, up)) of
              all.1 new.store snap.1 (gleans.made snap.0 snap.1 snap.2) in
              record {
                next = next.next;
                counts = inr (
                  made_zero (beside_of old) ran.printed.answers snap.0 snap.1 snap.2,
                  λ w below. subst (λ e. AllUpTo e (gone w)) (sym next.epoch) (it.gone_by w below),
                );
              }
        ]
  ]

-- ---- the newest savepoint behind a round's saves

-- so many items of zeros
pub zero_of : (w n : ℕ) → slice_get (replicate 8 0) w ≡ Some n → n ≡ 0
zero_of w n at = zero_at (replicate 8 0) w n refl at

-- what a savepoint by these marks and this beside counts of a closed log file
module _ (gone : ℕ → List Commit) (closed : ℕ → List ℕ) (beside : Beside) (since newest : ℕ)
    (eight : length beside.closed ≡ 8) (counts : Counts beside.closed gone since newest)
    (lines : (w : ℕ) → w < 8 → lines_bytes (gone w) ≡ closed w) where
  pub gone_saved : (clock : ℕ) (seen : List Mark) (saved : Saved) (sequence : ℕ) (side : Side) → length seen ≡ 8
      → SavesBy clock seen beside saved → beside.growing ≡ side → (w : ℕ) → w < 8
      → GoneCounts saved.epoch (gone w) (closed w)
      (counted_of (Some (point_of sequence saved)) (closed_number side w)) newest
  gone_saved clock seen saved sequence side many by same w below =
      let item = item_at beside.closed w (omega (arith, eight, below)) in
      let marked : List ℕ = map (λ (m : Mark). m.length) seen in
      let alike : length marked ≡ length beside.closed =
      length-map seen (λ (m : Mark). m.length) ∙ many ∙ sym eight in
      let size : counted_of (Some (point_of sequence saved)) (closed_number side w) ≡ item.0 =
      subst (λ (x : Side). counted_of (Some (point_of sequence saved)) (closed_number x w) ≡ item.0) same
      (ap (λ l. get_or l (closed_number beside.growing w) 0) by.lengths
      ∙ closed_length beside.growing marked beside.closed w item.0 item.1 alike) in
      subst (λ n. GoneCounts saved.epoch (gone w) (closed w) n newest) (sym size) (elim counts [
        | inl all ↦
            let own : item.0 ≡ length (lines_bytes (gone w)) = all.0 w item.0 item.1 in
            inl (
              subst (Marks (gone w) saved.epoch) (sym own) (mark_set (gone w) saved.epoch),
              omega (arith, own, ap length (lines w below)),
            )
        | inr none ↦ inr (
          zero_of w item.0 (subst (λ l. slice_get l w ≡ Some item.0) none.0 item.1),
          none.1 w below,
        )
      ])

-- ---- one round more

-- commits have numbers of the run's entries
pub commits_all : (P : Number → Type 0) (decls : List Decl) (worker : ℕ) (s : State) (es : List Entry)
    (commits : List Commit) → AreLogged decls worker s es commits → AllByRecursion (λ e. P e.number) es
    → AllByRecursion (λ c. P c.number) commits
commits_all P decls worker s [] commits logged all = subst (AllByRecursion (λ c. P c.number)) (sym logged) tt
commits_all P decls worker s (e ∷ es) commits logged all =
    subst (AllByRecursion (λ c. P c.number)) (sym logged.2)
    (by_first logged.0 logged.3 (commits_all P decls worker (state_after decls s e) es logged.1 logged.4 all.1))
  where
    by_first : (first : Option Commit)
        → MatchBool (e.worker == worker) (IsLogged decls s e.ops e.number first) (first ≡ None)
        → AllByRecursion (λ c. P c.number) logged.1
        → AllByRecursion (λ c. P c.number) (option_to_list first ++ logged.1)
    by_first None is rest = rest
    by_first (Some c) is rest = elim (cases_Bool (e.worker == worker)) [
      | inr other ↦
          let none : ◌≡◌ {A = Option Commit} (Some c) None = subst (λ b. MatchBool b
          (IsLogged decls s e.ops e.number (Some c)) (◌≡◌ {A = Option Commit} (Some c) None)) other is in
          absurd (cc)
      | inl mine ↦
          let line : IsLogged decls s e.ops e.number (Some c) = subst (λ b. MatchBool b
          (IsLogged decls s e.ops e.number (Some c)) (◌≡◌ {A = Option Commit} (Some c) None)) mine is in
          (subst P (sym line.1) all.0, rest)
    ]
