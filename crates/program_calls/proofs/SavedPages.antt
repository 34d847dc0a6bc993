-- Which pages the newest savepoint counts: all of them behind a round that was made durable.
use Rattle.std.proofs.Common.{◌≡◌, ◌∙◌, ◌+◌, ◌≤◌, sym, ap, subst, refl, ℕ, arith, List, [], ◌∷◌, ◌++◌, length}
use Rattle.std.proofs.Common.{Option, Some, None, false, true}
use Rattle.std.specs.Prelude.{IsSome, is_some, map, option_to_list}
use Rattle.std.specs.List.{AllByRecursion}
use Rattle.std.proofs.lemmas.List.{append-nil, length-append, length-map}
use Rattle.lists.specs.Each.{all_append, all_weaker}
use Rattle.log_writer.specs.declared.vault.Vault.{Vault}
use Rattle.serial_model.specs.declared.decl.Decl.{Decl}
use Rattle.serial_model.specs.declared.number.Commit.{Commit}
use Rattle.wire_form.specs.declared.savepoint.Savepoint.{Savepoint}
use Rattle.log_writer.specs.Points.{point_of, sequence_of}
use Rattle.log_writer.specs.declared.saved.Saved.{Saved}
use Rattle.joint_crashes.specs.Images.{count_of}
use Rattle.checkpoints.specs.SettleLaws.{point_says}
use Rattle.recovery_core.specs.declared.recovered.Recovered.{Recovered}
use Rattle.checkpoints.specs.declared.without_entries.Settled.{Settled}
use Rattle.checkpoints.specs.SettlesInto.{SettlesInto}
use Rattle.worker_logs.specs.declared.savepoints.Beside.{Beside}
use Rattle.tx_script.specs.Run.{Ran}
use Rattle.tx_script.specs.declared.answer.Answer.{Answer}
use Rattle.tx_script.specs.declared.answer.Answer.TheVariants as answers
use Rattle.round_engine.specs.Logs.{AreClosedFiles, AreLogs}
use Rattle.round_engine.specs.RanRound.{LeavesVault}
use Rattle.round_engine.specs.Ends.{epoch_joined}
use Rattle.round_engine.specs.Saves.{AreSaved, AreSavedIn, IsSavedBy, beside_after, beside_at_end, newest_after}
use Rattle.round_engine.specs.Saves.{saves_told}
use Rattle.round_engine.specs.Standing.{RuntimeState, beside_of}

-- ---- what was stored last

-- lines store as many savepoints as they tell
lines_many : (By : Beside → Saved → Type 0) (b : Beside) (said : List Answer) (stored : List Saved)
    → AreSavedIn By b said stored → length stored ≡ length (saves_told said)
lines_many By b [] stored saved = ap length saved
lines_many By b (answers.Save epoch ∷ more) stored saved =
    omega (arith, ap length saved.2, lines_many By b more saved.1 saved.4)
lines_many By b (answers.Epoch epoch ∷ more) stored saved =
    lines_many By (beside_after b (answers.Epoch epoch)) more stored saved
lines_many By b (answers.Snap epoch new ∷ more) stored saved =
    lines_many By (beside_after b (answers.Snap epoch new)) more stored saved
lines_many By b (answers.Empty ∷ more) stored saved = lines_many By (beside_after b answers.Empty) more stored saved
lines_many By b (answers.SnapFull ∷ more) stored saved =
    lines_many By (beside_after b answers.SnapFull) more stored saved
lines_many By b (answers.Deep ∷ more) stored saved = lines_many By (beside_after b answers.Deep) more stored saved
lines_many By b (answers.Drop dropped kept ∷ more) stored saved =
    lines_many By (beside_after b (answers.Drop dropped kept)) more stored saved
lines_many By b (answers.Limit ∷ more) stored saved = lines_many By (beside_after b answers.Limit) more stored saved
lines_many By b (answers.Device ∷ more) stored saved = lines_many By (beside_after b answers.Device) more stored saved
lines_many By b (answers.Damaged ∷ more) stored saved = lines_many By (beside_after b answers.Damaged) more stored saved
lines_many By b (answers.Memory ∷ more) stored saved = lines_many By (beside_after b answers.Memory) more stored saved
lines_many By b (answers.Unrun ∷ more) stored saved = lines_many By (beside_after b answers.Unrun) more stored saved

-- the newest savepoint counts as many pages as what was stored last
last_counts : (newest : Option Savepoint) (first : List Saved) (last : Saved)
    → count_of (newest_after newest (first ++ last ∷ [])) ≡ last.count
last_counts newest [] last = refl
last_counts newest (saved ∷ more) last = last_counts (Some (point_of (sequence_of newest + 1) saved)) more last

-- What was stored behind all lines counts what counted beside then.
pub stored_behind : (By : Beside → Saved → Type 0) → ((b : Beside) (x : Saved) → By b x → x.count ≡ b.count)
    → (b : Beside) (said : List Answer) (stored : List Saved) (newest : Option Savepoint) → AreSaved By b said stored
    → length stored ≡ length (saves_told said) + 1
    → count_of (newest_after newest stored) ≡ (beside_at_end b said).count
stored_behind By counts b said stored newest saved many = by saved.rest saved.all saved.behind
  where
    lines : length saved.lines ≡ length (saves_told said)
    lines = lines_many By b said saved.lines saved.told

    by : (rest : List Saved) → stored ≡ saved.lines ++ rest → AllByRecursion (By (beside_at_end b said)) rest
        → count_of (newest_after newest stored) ≡ (beside_at_end b said).count
    by [] all behind = absurd (omega (arith, many, lines, ap length all, ap length (append-nil saved.lines)))
    by (last ∷ []) all behind = ap (λ l. count_of (newest_after newest l)) all ∙ last_counts newest saved.lines last
        ∙ counts (beside_at_end b said) last behind.0
    by (last ∷ (other ∷ more)) all behind = absurd (omega (
      arith,
      many,
      lines,
      ap length all ∙ length-append saved.lines (last ∷ (other ∷ more)),
    ))

-- ---- a round

-- where nothing failed in a store
no_store : (failed : Option Saved) → is_some failed ≡ false → failed ≡ None
no_store None none = refl
no_store (Some saved) none = absurd cc

-- as many epochs as were told, and that of the join
told_many : (said : List ℕ) (durable : Option ℕ) → IsSome durable → length (said ++ option_to_list durable) ≡ length said + 1
told_many said (Some epoch) some = length-append said (epoch ∷ [])
told_many said None some = absurd cc

-- Behind a round that was made durable the newest savepoint counts all pages.
pub round_pages : {D : Type 0} {tells : D → Option (List ℕ)} {clock : D → ℕ} {image_at : D → ℕ → List ℕ → Type 0}
    {faults : D → ℕ} {ran : Ran} {logged : ℕ → List Commit} {old new : RuntimeState} {before now : Vault D}
    (commits gone : ℕ → List Commit) (was closed : ℕ → List ℕ) → AreLogs tells clock image_at commits was old before
    → AreClosedFiles tells clock image_at gone closed old before
    → (leaves : LeavesVault tells clock image_at faults ran logged old new before now) → IsSome ran.printed.durable
    → new.save.down ≡ None → new.store.sound ≡ true → count_of new.save.newest ≡ length new.store.pages
round_pages {ran = ran} {old = old} {new = new} commits gone was closed logs files leaves durable up sound =
    let runs = leaves.runs commits gone was closed logs files in
    let none : leaves.failed ≡ None = no_store leaves.failed (sym leaves.has_stored.down ∙ ap is_some up) in
    let all : leaves.stored ++ option_to_list leaves.failed ≡ leaves.stored =
    ap (λ (o : Option Saved). leaves.stored ++ option_to_list o) none ∙ append-nil leaves.stored in
    let many : length leaves.stored ≡ length (saves_told ran.printed.answers) + 1 =
    sym (length-map leaves.stored (λ (s : Saved). s.epoch)) ∙ ap length leaves.has_stored.epochs
    ∙ told_many (saves_told ran.printed.answers) ran.printed.durable durable in
    ap count_of leaves.has_stored.newest
    ∙ stored_behind (IsSavedBy ran.printed.begin.epoch (epoch_joined ran) runs.marks) (λ b x by. by.5.count) (beside_of old) ran.printed.answers leaves.stored old.save.newest
    (subst (AreSaved (IsSavedBy ran.printed.begin.epoch (epoch_joined ran) runs.marks) (beside_of old) ran.printed.answers) all
    runs.saved) many
    ∙ sym (leaves.gleans.many sound)

-- ---- how many pages are counted at least

-- what counts beside never falls
beside_grows : (b : Beside) (said : List Answer) → b.count ≤ (beside_at_end b said).count
beside_grows b [] = omega arith
beside_grows b (answers.Snap epoch new ∷ more) =
    omega (arith, beside_grows (beside_after b (answers.Snap epoch new)) more)
beside_grows b (answers.Epoch epoch ∷ more) = beside_grows b more
beside_grows b (answers.Save epoch ∷ more) = beside_grows b more
beside_grows b (answers.Empty ∷ more) = beside_grows b more
beside_grows b (answers.SnapFull ∷ more) = beside_grows b more
beside_grows b (answers.Deep ∷ more) = beside_grows b more
beside_grows b (answers.Drop dropped kept ∷ more) = beside_grows b more
beside_grows b (answers.Limit ∷ more) = beside_grows b more
beside_grows b (answers.Device ∷ more) = beside_grows b more
beside_grows b (answers.Damaged ∷ more) = beside_grows b more
beside_grows b (answers.Memory ∷ more) = beside_grows b more
beside_grows b (answers.Unrun ∷ more) = beside_grows b more

-- each savepoint counts so many pages
abbrev AllCount : ℕ → List Saved → Type 0
AllCount least stored = AllByRecursion (λ (x : Saved). least ≤ x.count) stored

module _ (By : Beside → Saved → Type 0) (counts : (b : Beside) (x : Saved) → By b x → x.count ≡ b.count) where
  lines_least : (least : ℕ) (b : Beside) (said : List Answer) (stored : List Saved) → least ≤ b.count
      → AreSavedIn By b said stored → AllCount least stored
  lines_least least b [] stored up saved = subst (AllCount least) (sym saved) tt
  lines_least least b (answers.Save epoch ∷ more) stored up saved = subst (AllCount least) (sym saved.2)
      (omega (arith, up, counts b saved.0 saved.3), lines_least least b more saved.1 up saved.4)
  lines_least least b (answers.Snap epoch new ∷ more) stored up saved =
      lines_least least (beside_after b (answers.Snap epoch new)) more stored (omega (arith, up)) saved
  lines_least least b (answers.Epoch epoch ∷ more) stored up saved = lines_least least b more stored up saved
  lines_least least b (answers.Empty ∷ more) stored up saved = lines_least least b more stored up saved
  lines_least least b (answers.SnapFull ∷ more) stored up saved = lines_least least b more stored up saved
  lines_least least b (answers.Deep ∷ more) stored up saved = lines_least least b more stored up saved
  lines_least least b (answers.Drop dropped kept ∷ more) stored up saved = lines_least least b more stored up saved
  lines_least least b (answers.Limit ∷ more) stored up saved = lines_least least b more stored up saved
  lines_least least b (answers.Device ∷ more) stored up saved = lines_least least b more stored up saved
  lines_least least b (answers.Damaged ∷ more) stored up saved = lines_least least b more stored up saved
  lines_least least b (answers.Memory ∷ more) stored up saved = lines_least least b more stored up saved
  lines_least least b (answers.Unrun ∷ more) stored up saved = lines_least least b more stored up saved

  begun_least : (b : Beside) (said : List Answer) (begun : List Saved) → AreSaved By b said begun
      → AllCount b.count begun
  begun_least b said begun saved = subst (AllCount b.count) (sym saved.all)
      (all_append (λ (x : Saved). b.count ≤ x.count) saved.lines saved.rest
      (lines_least b.count b said saved.lines (omega arith) saved.told)
      (all_weaker (By (beside_at_end b said)) (λ (x : Saved). b.count ≤ x.count)
      (λ x by. omega (arith, counts (beside_at_end b said) x by, beside_grows b said)) saved.rest saved.behind))

newest_least : (least : ℕ) (newest : Option Savepoint) (stored : List Saved) → least ≤ count_of newest
    → AllCount least stored → least ≤ count_of (newest_after newest stored)
newest_least least newest [] up all = up
newest_least least newest (saved ∷ more) up all =
    newest_least least (Some (point_of (sequence_of newest + 1) saved)) more all.0 all.1

first_all : {X : Type 0} (P : X → Type 0) (xs ys : List X) → AllByRecursion P (xs ++ ys) → AllByRecursion P xs
first_all P [] ys all = tt
first_all P (x ∷ xs) ys all = (all.0, first_all P xs ys all.1)

-- Behind a round the newest savepoint counts at least the pages that it began on, where it did before.
pub least_pages : {D : Type 0} {tells : D → Option (List ℕ)} {clock : D → ℕ} {image_at : D → ℕ → List ℕ → Type 0}
    {faults : D → ℕ} {ran : Ran} {logged : ℕ → List Commit} {old new : RuntimeState} {before now : Vault D}
    (commits gone : ℕ → List Commit) (was closed : ℕ → List ℕ) → AreLogs tells clock image_at commits was old before
    → AreClosedFiles tells clock image_at gone closed old before
    → (leaves : LeavesVault tells clock image_at faults ran logged old new before now)
    → count_of old.save.newest ≡ length old.store.pages → length old.store.pages ≤ count_of new.save.newest
least_pages {ran = ran} {old = old} {new = new} commits gone was closed logs files leaves counted =
    let runs = leaves.runs commits gone was closed logs files in
    let By : Beside → Saved → Type 0 = IsSavedBy ran.printed.begin.epoch (epoch_joined ran) runs.marks in
    let all : AllCount (length old.store.pages) (leaves.stored ++ option_to_list leaves.failed) =
    begun_least By (λ b x by. by.5.count) (beside_of old) ran.printed.answers (leaves.stored ++ option_to_list leaves.failed)
    runs.saved in
    let up : length old.store.pages ≤ count_of (newest_after old.save.newest leaves.stored) =
    newest_least (length old.store.pages) old.save.newest leaves.stored (omega (arith, counted))
    (first_all (λ (x : Saved). length old.store.pages ≤ x.count) leaves.stored (option_to_list leaves.failed) all) in
    subst (λ (o : Option Savepoint). length old.store.pages ≤ count_of o) (sym leaves.has_stored.newest) up

-- So it does once all is settled.
pub settled_pages : {D : Type 0} {tells : D → Option (List ℕ)} {clock : D → ℕ} {image_at : D → ℕ → List ℕ → Type 0}
    {recovered : Recovered} {given : List Decl} {old new : Vault D} {settled : Settled}
    → SettlesInto tells clock image_at recovered given old new settled
    → count_of settled.save.newest ≡ length settled.store.pages
settled_pages {settled = settled} settles =
    let p = point_says settled.save.newest settled.saved settles.says in
    ap count_of p.1 ∙ sym (ap (λ (x : Saved). x.count) p.2) ∙ sym settles.count
