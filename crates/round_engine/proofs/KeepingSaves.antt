-- A save by marks, as one call of those that keep what was stored.
use Rattle.std.proofs.Common.{◌≡◌, ◌∙◌, ◌+◌, ◌++◌, ◌∷◌, sym, ap, subst, refl, ℕ, zero, suc, List, [], true, Option, Some}
use Rattle.std.proofs.Common.{None, arith, length}
use Rattle.std.specs.Prelude.{is_some, Result, Ok, Err}
use Rattle.std.specs.List.{Contains}
use Rattle.std.proofs.lemmas.List.{append-nil, take_all}
use Rattle.std.proofs.lemmas.List.Elements.{Contains-append_left, Contains-append_right}
use Rattle.lists.specs.Elements.{in_head}
use Rattle.outside.specs.Fronts.{AllBegin}
use Rattle.log_writer.specs.declared.records.Tie.{Tie}
use Rattle.log_writer.specs.declared.vault.Vault.{Vault}
use Rattle.wire_form.specs.declared.clock.Mark.{Mark}
use Rattle.wire_form.specs.declared.savepoint.Savepoint.{Savepoint}
use Rattle.log_writer.specs.Points.{SaveState, point_of, sequence_of}
use Rattle.log_writer.specs.Records.{one_tie}
use Rattle.log_writer.specs.Save.{IsStored}
use Rattle.log_writer.specs.declared.save.SaveFault.{SaveFault}
use Rattle.log_writer.specs.declared.save.SaveFault.TheVariants.{Device, Down, Limit}
use Rattle.log_writer.specs.declared.saved.Saved.{Saved}
use Rattle.snapshot_store.specs.Store.{bytes_of_pages}
use Rattle.joint_crashes.specs.Rounds.{KeeperRan}
use Rattle.joint_crashes.specs.Crashes.Rounded.{keeper_none}
use Rattle.worker_logs.specs.Saves.{SavesMarks, sequence_begun, tie_after}
use Rattle.worker_logs.specs.SavesLaws.{keeper_saved}
use Rattle.round_engine.specs.Keeping.{KeepsSaves}
use Rattle.round_engine.specs.RanRound.{KeeperStored}
use Rattle.round_engine.specs.Saves.{HaveEnded}
use Rattle.round_engine.specs.Standing.{beside_of, RuntimeState}
use Rattle.round_engine.proofs.Beside.{keeps_none}

-- what a save stored, and what failed to be
abbrev pub stored_of : Saved → Result ℕ SaveFault → List Saved
stored_of saved (Ok epoch) = saved ∷ []
stored_of saved (Err fault) = []

abbrev pub failed_of : Saved → Result ℕ SaveFault → Option Saved
failed_of saved (Err Device) = Some saved
failed_of saved _ = None

-- behind a savepoint's sequence comes the next
pub first : (n : ℕ) → n + 1 + 0 ≡ n + 1
first n = omega arith

pub some_there : {X : Type 0} (x : Option X) → is_some x ≡ true → (y : X) × (x ≡ Some y)
some_there None is = absurd cc
some_there (Some y) is = (y, refl)

-- the runtime with this store of savepoints
abbrev pub with_save : RuntimeState → SaveState → RuntimeState
with_save r save = record r { save = save }

-- the tie of a store stands behind the others
behind_others : (was now : List Tie) (tie other : Tie) → now ≡ was ++ tie ∷ [] → Contains was other → Contains now other
behind_others was now tie other tied has =
    subst (λ l. Contains l other) (sym tied) (Contains-append_left was (tie ∷ []) other has)

just_ended : (was now : List Tie) (newest : Option Savepoint) (saves : Saved) (at end : ℕ)
    → now ≡ was ++ tie_after newest at (Some end) ∷ [] → HaveEnded newest (saves ∷ []) now
just_ended was now newest saves at end tied zero saved is = (
  tie_after newest at (Some end),
  end,
  subst (λ l. Contains l (tie_after newest at (Some end))) (sym tied)
      (Contains-append_right was (tie_after newest at (Some end) ∷ []) (tie_after newest at (Some end))
      (in_head (tie_after newest at (Some end)) [])),
  sym (first (sequence_of newest)),
  refl,
)
just_ended was now newest saves at end tied (suc k) saved is = absurd (let no = is in cc)

module _ {D : Type 0} {tells : D → Option (List ℕ)} {clock : D → ℕ} {image_at : D → ℕ → List ℕ → Type 0}
    {faults : D → ℕ} {epoch : ℕ} {seen : List Mark} (r : RuntimeState) {new : SaveState} {before now : Vault D} where
  -- a store that was begun is one savepoint more in each story
  pub begun_stored : (result : Result ℕ SaveFault)
      (saves : SavesMarks tells clock image_at faults epoch seen (beside_of r) r.save new before now result)
      → sequence_begun r.save.newest result ≡ sequence_of r.save.newest + 1
      → KeeperStored tells clock image_at (saves.saved ∷ []) r.save.newest r.store r.store before now
  begun_stored result saves begun story from low bytes tell tell_snaps goes pages point fronts begins save snaps =
      let s = sequence_of r.save.newest in
      let file = some_there (tells before.save) tell in
      let next : story.point (s + 1) ≡ Some (point_of (s + 1) saves.saved) =
      subst (λ n. story.point n ≡ Some (point_of n saves.saved)) (first s) (goes.point 0 saves.saved refl) in
      let count : saves.saved.count ≡ length r.store.pages = saves.by_marks.count in
      let of_all : bytes (length r.store.pages) ≡ bytes_of_pages r.store.pages =
      pages (length r.store.pages) (omega arith)
      ∙ ap bytes_of_pages (take_all (length r.store.pages) r.store.pages (omega arith)) in
      let pages_next : story.pages (s + 1) ≡ bytes_of_pages r.store.pages =
      subst (λ n. story.pages n ≡ bytes saves.saved.count) (first s) (goes.pages 0 saves.saved refl)
      ∙ ap bytes count ∙ of_all in
      let here : AllBegin (image_at before.snaps (clock before.snaps)) (story.pages (s + 1)) =
      subst (λ l. AllBegin (image_at before.snaps (clock before.snaps)) l) (sym pages_next) begins in (
        subst (λ n. KeeperRan clock image_at story from low s n before.save now.save before.snaps now.snaps
            before.ties.items now.ties.items) begun
            (keeper_saved saves file.1 point next here (keeper_none save snaps)),
        λ sound. subst (λ d. AllBegin (image_at d (clock d)) (bytes_of_pages r.store.pages)) (sym saves.snaps) begins,
      )

  pub keeps_saves : (result : Result ℕ SaveFault)
      (saves : SavesMarks tells clock image_at faults epoch seen (beside_of r) r.save new before now result)
      → r.save.down ≡ None → IsStored tells clock image_at before.save r.save.newest
      → KeepsSaves tells clock image_at faults (stored_of saves.saved result) (failed_of saves.saved result)
      r (with_save r new) before now
  keeps_saves (Ok answer) saves up stored = record {
    newest = saves.stores.newest;
    down = ap is_some saves.stores.up.1;
    stands = λ is. saves.stores.stored;
    told = saves.stores.told;
    snaps_told = ap (λ d. is_some (tells d)) saves.snaps;
    later = saves.stores.later;
    quiet = λ none. saves.stores.quiet;
    rose = λ is. absurd (let no = is in cc);
    ties_are = one_tie (tie_after r.save.newest (clock before.snaps) (Some (clock now.save))) saves.tied refl;
    ended = just_ended before.ties.items now.ties.items r.save.newest saves.saved (clock before.snaps) (clock now.save)
        saves.tied;
    ties_stay = λ tie has. behind_others before.ties.items now.ties.items
        (tie_after r.save.newest (clock before.snaps) (Some (clock now.save))) tie saves.tied has;
    grows = ([], sym (append-nil r.store.pages));
    counts = (omega (arith, saves.by_marks.count), tt);
    keeper = begun_stored (Ok answer) saves refl;
  }
  keeps_saves (Err Device) saves up stored = record {
    newest = saves.stores.kept;
    down = ap is_some (saves.stores.goes_down refl);
    stands = λ is. absurd (let no = sym is ∙ saves.stores.goes_down refl in cc);
    told = saves.stores.told;
    snaps_told = ap (λ d. is_some (tells d)) saves.snaps;
    later = saves.stores.later;
    quiet = λ none. absurd (let no = none in cc);
    rose = λ is. saves.stores.device refl;
    ties_are = one_tie (tie_after r.save.newest (clock before.snaps) None) (saves.begun refl) refl;
    ended = λ k saved at. absurd (let no = at in cc);
    ties_stay = λ tie has. behind_others before.ties.items now.ties.items
        (tie_after r.save.newest (clock before.snaps) None) tie (saves.begun refl) has;
    grows = ([], sym (append-nil r.store.pages));
    counts = (omega (arith, saves.by_marks.count), tt);
    keeper = begun_stored (Err Device) saves refl;
  }
  keeps_saves (Err (Down count)) saves up stored = absurd (let no = sym up ∙ (saves.stores.down count).0 refl in cc)
  keeps_saves (Err (Limit sequence)) saves up stored =
      subst (λ s. KeepsSaves tells clock image_at faults [] None r (with_save r s) before now)
      (sym (saves.stores.untouched (λ is. cc)).0)
      (subst (λ v. KeepsSaves tells clock image_at faults [] None r r before v)
      (sym (saves.untied (λ is. cc))) (keeps_none r before up stored))
