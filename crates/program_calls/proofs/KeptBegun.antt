-- What each savepoint stands for that a round begins to store, whether its store is done or not.
use Rattle.std.proofs.Common.{◌≡◌, ◌⊎◌, ◌∙◌, ◌≤◌, ◌<◌, ◌+◌, ◌++◌, ◌∷◌, sym, ap, subst, refl, inl, inr, ℕ, true, false}
use Rattle.std.proofs.Common.{true≢false, arith, List, [], length, Option, Some, take, zero, suc}
use Rattle.std.specs.Prelude.{◌-◌, map, option_to_list, slice_get}
use Rattle.std.specs.List.{AllByRecursion, Contains}
use Rattle.std.proofs.lemmas.List.{append-nil, length-map}
use Rattle.std.proofs.lemmas.Option.{same_Some}
use Rattle.lists.specs.Each.{all_at, all_weaker}
use Rattle.lists.specs.Elements.{in_cases, in_none}
use Rattle.lists.specs.Fronts.{IsFront, front_then}
use Rattle.log_writer.specs.Cuts.{whole_bank}
use Rattle.log_writer.specs.Vault.{disk_in}
use Rattle.outside.specs.declared.device.Device.TheVariants.{Bank}
use Rattle.log_writer.specs.declared.vault.Vault.{Vault}
use Rattle.serial_model.specs.History.{Entry, EpochsNeverFall, Rises, as_of, state_after_all}
use Rattle.serial_model.specs.State.{State}
use Rattle.serial_model.specs.declared.decl.Decl.{Decl}
use Rattle.serial_model.specs.declared.number.Commit.{Commit}
use Rattle.script_grammar.specs.declared.lines.KeeperLine.{KeeperLine}
use Rattle.gleaner.specs.GleanLaws.{gleaned_count}
use Rattle.wire_form.specs.LogFile.{IsLineOf, lines_bytes}
use Rattle.wire_form.specs.declared.page.Page.{Page}
use Rattle.wire_form.specs.declared.savepoint.Savepoint.{Savepoint}
use Rattle.log_writer.specs.Points.{point_of, sequence_of}
use Rattle.log_writer.specs.Save.{Names}
use Rattle.log_writer.specs.declared.saved.Saved.{Saved}
use Rattle.snapshot_store.specs.Content.{words_of}
use Rattle.snapshot_store.specs.Store.{bytes_of_pages}
use Rattle.recovery_core.specs.Catalogues.{newest_epoch}
use Rattle.joint_crashes.specs.Images.{Images, counted_of, epoch_of}
use Rattle.joint_crashes.specs.JointCrash.{Moments}
use Rattle.recovery_core.specs.Recoverable.{Reading}
use Rattle.joint_crashes.specs.Story.{Story}
use Rattle.joint_crashes.specs.VaultReads.{some_of}
use Rattle.tx_script.specs.Causes.{AllCaused, AnswersCaused, KeeperAt, keeper_after, keeper_before, some_counted}
use Rattle.tx_script.specs.Run.{LogFiles, Ran}
use Rattle.tx_script.specs.declared.answer.Answer.{Answer}
use Rattle.tx_script.specs.declared.answer.Answer.TheVariants as answers
use Rattle.worker_logs.specs.Saves.{IsCounted, closed_number, growing_number}
use Rattle.worker_logs.specs.declared.savepoints.Beside.{Beside}
use Rattle.round_engine.specs.Changes.{AreLogged}
use Rattle.round_engine.specs.Crashes.{KnowsBefore, LeavesCrashes, front_of}
use Rattle.round_engine.specs.Ends.{epoch_joined}
use Rattle.round_engine.specs.RanRound.{LeavesVault, LogsRan}
use Rattle.worker_logs.specs.Rows.{NeverFall}
use Rattle.round_engine.specs.Saves.{IsSavedBy, beside_after, beside_at_end}
use Rattle.round_engine.specs.Standing.{RuntimeState, StandsOn, beside_of, files_of}
use Rattle.program_calls.proofs.CrashPoints.{FoundAt}
use Rattle.program_calls.proofs.KeptFiles.{closed_file, item_at}
use Rattle.program_calls.proofs.KeptHere.{AllUpTo, Counts, PagesOf, glean_next, pages_more}
use Rattle.program_calls.proofs.KeptIn.{StandsFor}
use Rattle.program_calls.proofs.KeptLogged.{LoggedIn, logged_more}
use Rattle.program_calls.proofs.KeptParts.{KeptParts, GoneCounts, commits_all, counts_same, gone_saved}
use Rattle.program_calls.proofs.KeptPoints.{PointAt, point_stands}
use Rattle.program_calls.proofs.KeptSaves.{ByEither, by_either, closed_eight, growing_stays, made_counted}
use Rattle.program_calls.proofs.KeptSaves.{made_zero, none_made, none_same, snap_in}

-- ---- numbers that never fall

pub never_from : (low : ℕ) (xs : List ℕ) → NeverFall low xs → (j b : ℕ) → slice_get xs j ≡ Some b → low ≤ b
never_from low [] rise j b at = absurd cc
never_from low (x ∷ xs) rise zero b at = omega (arith, rise.0, same_Some x b at)
never_from low (x ∷ xs) rise (suc j) b at = omega (arith, rise.0, never_from x xs rise.1 j b at)

pub epoch_at : (xs : List Saved) (i : ℕ) (x : Saved) → slice_get xs i ≡ Some x
    → slice_get (map (λ (s : Saved). s.epoch) xs) i ≡ Some x.epoch
epoch_at [] i x at = absurd cc
epoch_at (y ∷ xs) zero x at = ap (λ (s : Saved). Some s.epoch) (same_Some y x at)
epoch_at (y ∷ xs) (suc i) x at = epoch_at xs i x at

-- ---- a round makes one snapshot at most

-- what counts is as before behind an answer, or it is a snapshot
behind_one : (k : KeeperAt) (b : Beside) (answer : Answer)
    → (((keeper_after k answer).counted ≡ k.counted) × (beside_after b answer ≡ b))
    ⊎ ((epoch : ℕ) × (new : ℕ) × (answer ≡ answers.Snap epoch new))
behind_one k b (answers.Snap epoch new) = inr (epoch, new, refl)
behind_one k b (answers.Epoch epoch) = inl (refl, refl)
behind_one k b (answers.Save epoch) = inl (refl, refl)
behind_one k b answers.Empty = inl (refl, refl)
behind_one k b answers.SnapFull = inl (refl, refl)
behind_one k b answers.Deep = inl (refl, refl)
behind_one k b (answers.Drop dropped kept) = inl (refl, refl)
behind_one k b answers.Device = inl (refl, refl)
behind_one k b answers.Damaged = inl (refl, refl)
behind_one k b answers.Memory = inl (refl, refl)
behind_one k b answers.Limit = inl (refl, refl)
behind_one k b answers.Unrun = inl (refl, refl)

-- so many pages count behind it
made_count : (ran : Ran) (k : KeeperAt) (b : Beside) (lines : List KeeperLine) (said : List Answer) (epoch new : ℕ)
    → AnswersCaused ran k lines said → Contains said (answers.Snap epoch new)
    → (beside_at_end b said).count ≡ b.count + new
made_count ran k b [] [] epoch new caused has = absurd (in_none (answers.Snap epoch new) has)
made_count ran k b (line ∷ lines) [] epoch new caused has = absurd caused
made_count ran k b [] (answer ∷ more) epoch new caused has = absurd caused
made_count ran k b (line ∷ lines) (answer ∷ more) epoch new caused has =
    elim (in_cases (answers.Snap epoch new) answer more has) [
      | inl here ↦
          let then : AnswersCaused ran (keeper_after k (answers.Snap epoch new)) lines more =
          subst (λ a. AnswersCaused ran (keeper_after k a) lines more) here caused.1 in
          ap (λ a. (beside_at_end (beside_after b a) more).count) here
          ∙ ap (λ (c : Beside). c.count) (none_made ran (keeper_after k (answers.Snap epoch new))
          (beside_after b (answers.Snap epoch new)) lines more refl then)
      | inr later ↦ elim (behind_one k b answer) [
        | inl same ↦
            made_count ran (keeper_after k answer) (beside_after b answer) lines more epoch new caused.1 later
            ∙ ap (λ (c : Beside). c.count + new) same.1
        | inr snap ↦
            let needed = made_counted ran (keeper_after k answer) b lines more epoch new caused.1 later in
            absurd (true≢false (sym needed ∙ ap (λ a. (keeper_after k a).counted) snap.2))
      ]
    ]

-- ---- the savepoints of a round

module _ {D : Type 0} {tells : D → Option (List ℕ)} {clock : D → ℕ} {image_at : D → ℕ → List ℕ → Type 0}
    {faults : D → ℕ} {was : Reading} {decls : List Decl} {saved : ℕ} {s : State} {ordered : List Entry}
    {since last_saved : ℕ} {older gone commits logged : ℕ → List Commit} {durable closed other more : ℕ → List ℕ}
    {old new : RuntimeState} {before now : Vault D} {ran : Ran} (run : List Entry)
    (parts : KeptParts was decls saved s ordered old.side old.counted since old.closed_at older gone commits other more
    old.store.pages old.save.newest last_saved)
    (stands : StandsOn tells clock image_at old before) (decls_are : old.stands.decls ≡ decls)
    (own_logged : (w : ℕ) → w < 8 → AreLogged decls w (state_after_all decls s ordered) run (logged w))
    (own_lines : (w : ℕ) → w < 8 → AllByRecursion (IsLineOf decls) (logged w))
    (workers : AllByRecursion (λ e. e.worker < 8) run)
    (later : AllByRecursion (λ e. old.stands.clock.epoch ≤ e.number.epoch) run)
    (caused : AllCaused ran) (files_are : ran.beside.files ≡ files_of old)
    (leaves : LeavesVault tells clock image_at faults ran logged old new before now)
    (rises : Rises (ordered ++ run)) (falls : EpochsNeverFall (ordered ++ run))
    (story : Story) (from : Moments) (low : ℕ)
    (known : KnowsBefore tells clock image_at story from low commits gone durable closed old before) where
  abbrev last : ℕ
  last = sequence_of old.save.newest

  abbrev begun : List Saved
  begun = leaves.stored ++ option_to_list leaves.failed

  abbrev beside_then : Beside
  beside_then = beside_at_end (beside_of old) ran.printed.answers

  abbrev commits_then : ℕ → List Commit
  commits_then w = commits w ++ logged w

  abbrev ran_logs : LogsRan tells clock image_at ran commits logged gone durable closed leaves.stored leaves.failed
      leaves.logs old new before now
  ran_logs = leaves.runs commits gone durable closed known.logs known.files

  later_closed : AllByRecursion (λ e. old.closed_at < e.number.epoch) run
  later_closed = all_weaker (λ (e : Entry). old.stands.clock.epoch ≤ e.number.epoch)
      (λ (e : Entry). old.closed_at < e.number.epoch)
      (λ e from_clock. (let past = stands.closed.before in omega (arith, from_clock, past))) run later

  logged_then : LoggedIn decls s (ordered ++ run) since old.closed_at older gone commits_then
  logged_then = logged_more parts.it run logged own_logged own_lines
      (λ w below. commits_all (λ n. old.closed_at < n.epoch) decls w (state_after_all decls s ordered) run (logged w)
      (own_logged w below) later_closed) workers

  lines_closed : (w : ℕ) → w < 8 → lines_bytes (gone w) ≡ closed w
  lines_closed w below =
      let file = closed_file old.side before w stands.whole below in
      let n = item_at old.counted w (let eight = stands.closed.workers in omega (arith, eight, below)) in
      (known.files w n.0 file.bank n.1 file.there).lines

  store_here : (next : PagesOf was decls saved s (ordered ++ run) old.store.pages older old.closed_at)
      × (newest_epoch next.at.catalogues ≡ newest_epoch parts.store.at.catalogues)
  store_here = pages_more parts.store run later_closed

  counts_here : Counts old.counted gone since (newest_epoch store_here.0.at.catalogues)
  counts_here = counts_same old.counted old.counted gone since (newest_epoch parts.store.at.catalogues)
      (newest_epoch store_here.0.at.catalogues) refl (sym store_here.1) parts.counts

  -- ---- of which pages it is, and what counts beside

  pub record Over (x : Saved) : Type 0 where
    pub pages : List Page
    pub rest : List Page
    pub front : new.store.pages ≡ pages ++ rest
    pub count : x.count ≡ length pages
    pub catalogue : x.catalogue ≡ length pages
    pub store : PagesOf was decls saved s (ordered ++ run) pages older old.closed_at
    pub gone_counts : (sequence w : ℕ) → w < 8 → GoneCounts x.epoch (gone w) (closed w)
        (counted_of (Some (point_of sequence x)) (closed_number old.side w)) (newest_epoch store.at.catalogues)

  abbrev By : Beside → Saved → Type 0
  By = IsSavedBy ran.printed.begin.epoch (epoch_joined ran) ran_logs.marks

  by_beside : (b : Beside) (pages rest : List Page) (x : Saved)
      → (store : PagesOf was decls saved s (ordered ++ run) pages older old.closed_at)
      → new.store.pages ≡ pages ++ rest → b.count ≡ length pages → b.growing ≡ old.side → length b.closed ≡ 8
      → Counts b.closed gone since (newest_epoch store.at.catalogues) → By b x → Over x
  by_beside b pages rest x store front count growing eight counts by = record {
    pages = pages;
    rest = rest;
    front = front;
    count = by.5.count ∙ count;
    catalogue = by.5.catalogue ∙ count;
    store = store;
    gone_counts = λ sequence w below. gone_saved gone closed b since (newest_epoch store.at.catalogues) eight counts
        lines_closed by.0 by.3 x sequence old.side by.4.workers by.5 growing w below;
  }

  as_begun : (x : Saved) → By (beside_of old) x → Over x
  as_begun x by = by_beside (beside_of old) old.store.pages leaves.grows.0 x store_here.0 leaves.grows.1 refl refl
      stands.closed.workers counts_here by

  behind_snap : (x : Saved) (epoch new_pages : ℕ) → Contains ran.printed.answers (answers.Snap epoch new_pages)
      → By beside_then x → Over x
  behind_snap x epoch new_pages has by =
      let needed : some_counted old.counted ≡ true =
      sym (ap (λ (f : LogFiles). some_counted f.counted) files_are)
      ∙ made_counted ran (keeper_before ran) (beside_of old) ran.printed.asked ran.printed.answers epoch new_pages caused.answers has in
      let adds = leaves.gleans.made epoch new_pages has in
      elim counts_here [
        | inr none ↦ absurd (true≢false (sym needed ∙ ap some_counted none.0))
        | inl all ↦
            let up : since ≤ old.closed_at = logged_then.since_by in
            let next = glean_next old before logged_then rises falls stands.whole stands.closed.workers known.files all.0
            decls_are (let first = parts.saved_by in omega (arith, first, up)) store_here.0 all.1 new.store new_pages
            adds in
            let many : beside_then.count ≡ length new.store.pages =
            made_count ran (keeper_before ran) (beside_of old) ran.printed.asked ran.printed.answers epoch new_pages caused.answers has
            ∙ sym (sym (length-map new.store.pages (λ (p : Page). p.words)) ∙ gleaned_count adds.gleaned
            ∙ ap (λ n. n + new_pages) (length-map old.store.pages (λ (p : Page). p.words))) in
            by_beside beside_then new.store.pages [] x next.next (sym (append-nil new.store.pages)) many
            (growing_stays (beside_of old) ran.printed.answers)
            (closed_eight (beside_of old) ran.printed.answers stands.closed.workers)
            (inr (
              made_zero (beside_of old) ran.printed.answers epoch new_pages has,
              λ w below. subst (λ e. AllUpTo e (gone w)) (sym next.epoch) (logged_then.gone_by w below),
            )) by
      ]

  over : (x : Saved) → ByEither By (beside_of old) beside_then x → Over x
  over x by = elim by [
    | inl first ↦ as_begun x first
    | inr second ↦ elim (snap_in ran.printed.answers) [
      | inl snap ↦ behind_snap x snap.0 snap.1 snap.2 second
      | inr none ↦ as_begun x (subst (λ (b : Beside). By b x) (none_same (beside_of old) ran.printed.answers none) second)
    ]
  ]

  all_over : AllByRecursion (ByEither By (beside_of old) beside_then) begun
  all_over = by_either By ran (keeper_before ran) (beside_of old) ran.printed.asked ran.printed.answers begun caused.answers
      ran_logs.saved

  -- ---- what it stands for

  module _ (carried : LeavesCrashes tells clock image_at story from low commits logged gone durable closed begun ran old
      new before now) where
    abbrev after : Story
    after = carried.after

    -- one that was begun
    pub record Begun (k : ℕ) : Type 0 where
      pub said : Saved
      pub at : slice_get begun (k - (last + 1)) ≡ Some said
      pub point : after.point k ≡ Some (point_of k said)
      pub over_it : Over said

    pub begun_at : (k : ℕ) → last < k → k ≤ last + length begun → Begun k
    begun_at k behind_last within =
        let item = item_at begun (k - (last + 1)) (omega (arith, behind_last, within)) in
        let same : last + 1 + (k - (last + 1)) ≡ k = omega (arith, behind_last) in
        record {
          said = item.0;
          at = item.1;
          point = subst (λ n. after.point n ≡ Some (point_of n item.0)) same
              (carried.goes_on.point (k - (last + 1)) item.0 item.1);
          over_it = over item.0 (all_at (ByEither By (beside_of old) beside_then) begun (k - (last + 1)) item.0 all_over
              item.1);
        }

    -- its epoch is no earlier than that of the newest before
    pub least_begun : (k : ℕ) → (x : Begun k) → epoch_of old.save.newest ≤ x.said.epoch
    least_begun k x = never_from (epoch_of old.save.newest) (map (λ (t : Saved). t.epoch) begun) carried.rise
        (k - (last + 1)) x.said.epoch (epoch_at begun (k - (last + 1)) x.said x.at)

    pages_at : (k : ℕ) → last < k → (x : Begun k) → after.pages k ≡ bytes_of_pages x.over_it.pages
    pages_at k behind_last x =
        let same : last + 1 + (k - (last + 1)) ≡ k = omega (arith, behind_last) in
        subst (λ n. after.pages n ≡ front_of new.store x.said.count) same
        (carried.goes_on.pages (k - (last + 1)) x.said x.at)
        ∙ ap (λ l. bytes_of_pages (take x.said.count l)) x.over_it.front
        ∙ ap (λ n. bytes_of_pages (take n (x.over_it.pages ++ x.over_it.rest))) x.over_it.count
        ∙ ap bytes_of_pages (take_front x.over_it.pages x.over_it.rest)
      where
        take_front : (xs ys : List Page) → take (length xs) (xs ++ ys) ≡ xs
        take_front [] ys = refl
        take_front (y ∷ xs) ys = ap (λ l. y ∷ l) (take_front xs ys)

    point_here : (k : ℕ) → last < k → (x : Begun k)
        → PointAt was decls saved s (ordered ++ run) old.side old.closed_at older gone commits_then carried.durable closed
        (point_of k x.said)
    point_here k behind_last x =
        let same : last + 1 + (k - (last + 1)) ≡ k = omega (arith, behind_last) in
        let counts = carried.counts (k - (last + 1)) x.said x.at in
        record {
          closed_by = (let least = least_begun k x in let first = parts.closed_by in
              omega (arith, least, first, ap epoch_of parts.newest_is));
          pages = x.over_it.pages;
          count = x.over_it.count;
          catalogue = x.over_it.catalogue;
          store = x.over_it.store;
          growing = λ w below. subst (λ n. IsCounted (commits_then w) (carried.durable w) x.said.epoch
              (counted_of (Some (point_of n x.said)) (growing_number old.side w))) same (counts.growing w below);
          gone_counts = λ w below. x.over_it.gone_counts k w below;
        }

    -- Images that are found at a savepoint of the round stand for its epoch and the state as of it, with its pages and
    -- their catalogues.
    pub begun_stands : (k : ℕ) → last < k → k ≤ last + length begun → (x : Begun k) → (left : Images)
        → FoundAt after left k → StandsFor left (words_of x.over_it.pages) x.over_it.store.at.catalogues
        (epoch_of (after.point k)) (as_of decls s (ordered ++ run) (epoch_of (after.point k)))
    unfolding point_here
    begun_stands k behind_last within x left found =
        let at = point_here k behind_last x in
        let fronts = λ (w : ℕ) (below : w < 8). carried.fronts k w behind_last within below in
        let stands_so = point_stands (point_of k x.said) logged_then rises falls at (after.counted k)
        (λ n below.
        let bank = some_of (disk_in now (Bank n)) (whole_bank leaves.stands.whole n below) in
        carried.told.sized n k bank.0 bank.1 (let first = carried.told.save.ordered in low_least k behind_last) within
        ∙ ap (λ (o : Option Savepoint). counted_of o n) x.point)
        (λ w below. front_then (after.counted k (growing_number old.side w)) (carried.durable w)
        (lines_bytes (commits_then w)) (fronts w below).0 (carried.begins w below))
        (λ w below. subst (IsFront (after.counted k (closed_number old.side w))) (sym (lines_closed w below))
        (fronts w below).1)
        left (subst (Names left.save) x.point found.names)
        (subst (λ l. IsFront l left.snaps) (pages_at k behind_last x) found.pages) found.counted in
        subst (λ (o : Option Savepoint). StandsFor left (words_of x.over_it.pages) x.over_it.store.at.catalogues
        (epoch_of o) (as_of decls s (ordered ++ run) (epoch_of o))) (sym x.point) stands_so
      where
        low_least : (k : ℕ) → last < k → low ≤ k
        low_least k past = omega (arith, known.told.save.ordered, past)
