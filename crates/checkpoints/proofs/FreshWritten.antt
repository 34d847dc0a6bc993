-- A fresh vault whose first snapshot was written, or not.
use Rattle.std.proofs.Common.{◌≡◌, ◌∙◌, ◌<◌, ℕ, List, [], ◌∷◌, Option, Some, None, length, refl, sym, ap, subst, arith}
use Rattle.std.specs.Prelude.{◌^◌}
use Rattle.std.specs.FinMap.{get}
use Rattle.std.specs.List.{AllByRecursion}
use Rattle.serial_model.specs.State.{State}
use Rattle.serial_model.specs.declared.key.Key.{Key}
use Rattle.wire_form.specs.Pages.{Contents, catalogue_words}
use Rattle.wire_form.specs.declared.page.Page.{Page}
use Rattle.log_writer.specs.Points.{point_of}
use Rattle.log_writer.specs.Save.{Names}
use Rattle.snapshot_store.specs.Store.{bytes_of_pages}
use Rattle.joint_crashes.specs.Images.{Images, count_of}
use Rattle.joint_crashes.specs.JointCrash.{Parts, Moments}
use Rattle.joint_crashes.specs.Resting.{IsResting, HasNoRecords, AreTold}
use Rattle.joint_crashes.specs.Settling.{FoundOldOrNew, story_of}
use Rattle.joint_crashes.specs.SettleRests.{RestsSince}
use Rattle.joint_crashes.specs.Crashes.Rested.{point_new}
use Rattle.joint_crashes.specs.Crashes.Safe.{old_or_new}
use Rattle.recovery_core.specs.Recoverable.{Reading}
use Rattle.recovery_core.specs.SnapshotsKept.{StandsAsRead}
use Rattle.checkpoints.specs.CrashesRecover.{LeavesSame, fresh_recovers, point_read}
use Rattle.checkpoints.specs.FreshLaws.{first_saved, is_first, one_page_bytes, IsFirstPage}
use Rattle.checkpoints.specs.SettleGoesOn.{GoesOn}
use Rattle.checkpoints.specs.Written.{RestsFrom, LeavesOldOrNext, HasWritten}

-- images that name no savepoint, or the first one with its page, stand for epoch 0 and no key
fresh_found : {D : Type 0} (after : Parts D) (other : Images) (pages : List ℕ) (counted : ℕ → List ℕ) (page : Page)
    (c : Contents) (was : Reading) (state : State) → was.catalogues ≡ [] → IsFirstPage page.words c
    → ((key : Key) → get state key ≡ None)
    → FoundOldOrNew None (point_of 1 first_saved) pages (bytes_of_pages (page ∷ [])) counted after other
    → StandsAsRead was other 0 state
fresh_found after other pages counted page c was state none first empty found =
    fresh_recovers after other (point_of 1 first_saved) c pages counted was state none is_first first.catalogue
    first.previous first.first (ap length (sym first.words_are) ∙ first.count)
    (subst (AllByRecursion (λ w. w < 2 ^ 64)) first.words_are first.fit) empty
    (subst (λ l. FoundOldOrNew None (point_of 1 first_saved) pages l counted after other)
    (one_page_bytes (page ∷ []) page (catalogue_words c) refl first.words_are) found)

module _ {D : Type 0} {tells : D → Option (List ℕ)} {clock : D → ℕ} {image_at : D → ℕ → List ℕ → Type 0}
    (reads : (disk : D) (file : List ℕ) → tells disk ≡ Some file → image_at disk (clock disk) file) where
  -- it rested on no savepoint and on no page
  fresh_from : {all : Parts D} {found : Images} {from : Moments} → (rest : IsResting clock image_at all)
      → HasNoRecords all → AreTold tells all found
      → RestsSince clock image_at from rest.point rest.pages rest.counted all → Names found.save None
      → RestsFrom clock image_at tells None 0 found from all rest
  fresh_from rest none told since names =
      let named : None ≡ rest.point = point_read reads None rest told names in
      let count : count_of rest.point ≡ 0 = ap count_of (sym named) in
      record {
        none = none;
        told = told;
        since = since;
        newest_is = sym named;
        within = omega (arith, rest.pages_sized, count);
      }

  -- whatever the writing answered, each crash since then leaves epoch 0 and no key
  pub fresh_leaves : {old after : Parts D} {found : Images} {from : Moments} (page : Page) (c : Contents)
      (was : Reading) (state : State) → was.catalogues ≡ [] → IsFirstPage page.words c
      → ((key : Key) → get state key ≡ None)
      → LeavesOldOrNext clock image_at tells None first_saved 0 (bytes_of_pages (page ∷ [])) old after
      → (rest : IsResting clock image_at old) → HasNoRecords old → AreTold tells old found
      → RestsSince clock image_at from rest.point rest.pages rest.counted old → Names found.save None
      → LeavesSame clock image_at from was 0 state old after
  fresh_leaves {after = after} {found = found} {from = from}
      page c was state none_was first empty leaves rest none told since names =
      let safe = leaves found from rest (fresh_from rest none told since names) in
      record {
        keeps = safe.stays;
        now = safe.instant;
        ended = safe.ended;
        recovers = λ at other later crash. fresh_found after other rest.pages rest.counted page c was state none_was
            first empty (safe.stops at other later crash);
      }

  -- and behind it the calls of a run go on
  pub fresh_goes_on : {old after : Parts D} {found : Images} {from : Moments} (page : Page) (c : Contents)
      (was : Reading) (state : State) → was.catalogues ≡ [] → IsFirstPage page.words c
      → ((key : Key) → get state key ≡ None)
      → HasWritten clock image_at tells None first_saved 0 (bytes_of_pages (page ∷ [])) old after
      → (rest : IsResting clock image_at old) → HasNoRecords old → AreTold tells old found
      → RestsSince clock image_at from rest.point rest.pages rest.counted old → Names found.save None
      → GoesOn clock image_at from was 0 state 0 (Some (point_of 1 first_saved)) after
  fresh_goes_on {after = after} {found = found} {from = from}
      page c was state none_was first empty written rest none told since names =
      let known = written found from rest (fresh_from rest none told since names) in
      let next = point_of 1 first_saved in
      let more = bytes_of_pages (page ∷ []) in
      record {
        story = story_of None next rest.pages more rest.counted;
        told = known.0;
        opened = known.1;
        newest_is = point_new None next rest.pages more rest.counted;
        stands = λ k other at_least at_most stands. fresh_found after other rest.pages rest.counted page c was state
            none_was first empty (old_or_new None next rest.pages more rest.counted k at_least at_most stands);
      }
