-- A store into the save device, as all devices see it.
use Rattle.std.proofs.Common.{◌≡◌, ◌≤◌, ◌+◌, ◌⊎◌, ◌++◌, ◌∷◌, inl, inr, ℕ, List}
use Rattle.std.proofs.Common.{[], Option, Some, None, length, refl, sym, ap, subst, arith}
use Rattle.std.specs.List.{Contains}
use Rattle.std.proofs.lemmas.Bool.{cases_eq}
use Rattle.std.proofs.lemmas.List.Elements.{Contains-push_cases, Contains-push, Contains-append_left}
use Rattle.outside.specs.declared.device.Device.TheVariants.{Bank}
use Rattle.log_writer.specs.declared.records.Tie.{Tie}
use Rattle.log_writer.specs.declared.records.Cut.{Cut}
use Rattle.outside.specs.Disk.{Runs, Only}
use Rattle.outside.specs.Moments.{runs_weaker, left_after_runs}
use Rattle.log_writer.specs.declared.saved.Saved.{Saved}
use Rattle.wire_form.specs.declared.savepoint.Savepoint.{Savepoint}
use Rattle.log_writer.specs.Points.{sequence_of, point_of}
use Rattle.log_writer.specs.Save.{Names, NamesOldOrNew}
use Rattle.outside.specs.Fronts.{AllBegin}
use Rattle.joint_crashes.specs.Images.{counted_of}
use Rattle.joint_crashes.specs.JointCrash.{Parts, Moments, HasCut, CrashesNow, KeepsCrashes}
use Rattle.joint_crashes.specs.Story.{Story, SaveTold, BankTold, BankReady, IsTold}
use Rattle.joint_crashes.specs.Cutting.{AreReady, ArePast, AreToldIn, MayCut}
use Rattle.joint_crashes.specs.Settling.{MayStore, IsLeft}
use Rattle.joint_crashes.specs.Crashes.SaveSteps.{one_number, save_stored, save_failed}
use Rattle.joint_crashes.specs.Crashes.SnapsSteps.{snaps_tied}
use Rattle.joint_crashes.specs.Crashes.Instants.{now_ready, keeps_by, keeps_none, lasts_none, lasts_runs}
use Rattle.joint_crashes.specs.Crashes.ToldSteps.{parts}

module _ {D : Type 0} {clock : D → ℕ} {image_at : D → ℕ → List ℕ → Type 0} {story : Story} {from : Moments}
    {low : ℕ} where
  -- each image of the save names the newest
  pub now_one : {high : ℕ} {all : Parts D} → IsTold clock image_at story from low high all
      → AreReady clock image_at story high all
      → ((c : List ℕ) → image_at all.save (clock all.save) c → Names c (story.point high))
      → CrashesNow clock image_at all
  now_one {high = high} {all = all} told ready names = now_ready told (λ c k image named at_least at_most n bank there.
      let same = one_number story.point k high c (told.save.numbered k at_least at_most)
      (told.save.numbered high told.save.ordered (omega arith)) named (names c image) in
      subst (λ j. BankReady clock image_at (λ i. story.counted i n) j bank (HasCut all.cuts (Bank n))) (sym same)
      (ready n bank there))

  -- or one of two, after a store that failed
  pub now_two : {s : ℕ} {all : Parts D} → IsTold clock image_at story from low (s + 1) all → low ≤ s
      → AreReady clock image_at story s all → AreReady clock image_at story (s + 1) all
      → ((c : List ℕ) → image_at all.save (clock all.save) c
      → Names c (story.point s) ⊎ Names c (story.point (s + 1))) → CrashesNow clock image_at all
  now_two {s = s} {all = all} told ordered ready ready_next names = now_ready told
      (λ c k image named at_least at_most n bank there.
      elim (names c image) [
        | inl old_is ↦
            let same = one_number story.point k s c (told.save.numbered k at_least at_most)
            (told.save.numbered s ordered (omega arith)) named old_is in
            subst (λ j. BankReady clock image_at (λ i. story.counted i n) j bank (HasCut all.cuts (Bank n)))
            (sym same) (ready n bank there)
        | inr new_is ↦
            let same = one_number story.point k (s + 1) c (told.save.numbered k at_least at_most)
            (told.save.numbered (s + 1) told.save.ordered (omega arith)) named new_is in
            subst (λ j. BankReady clock image_at (λ i. story.counted i n) j bank (HasCut all.cuts (Bank n)))
            (sym same) (ready_next n bank there)
      ])

  -- a store was begun, whatever it answered
  pub told_stored : {s : ℕ} {save_was save_now snaps : D} {banks : ℕ → Option D} {ties_was ties_now : List Tie}
      {cuts : List Cut} (end : Option ℕ)
      → IsTold clock image_at story from low s (parts save_was snaps banks ties_was cuts)
      → SaveTold clock image_at story.point from.save low (s + 1) save_now ties_now
      → AllBegin (image_at snaps (clock snaps)) (story.pages (s + 1))
      → ((n : ℕ) (bank : D) → banks n ≡ Some bank → BankTold clock image_at (λ k. story.counted k n)
      (from.bank n) low (s + 1) bank (HasCut cuts (Bank n)))
      → ((n : ℕ) (bank : D) → banks n ≡ Some bank → length (story.counted (s + 1) n)
      ≡ counted_of (story.point (s + 1)) n)
      → ties_now ≡ ties_was ++ record { sequence = s + 1; snaps = clock snaps; ended = end } ∷ []
      → IsTold clock image_at story from low (s + 1) (parts save_now snaps banks ties_now cuts)
  told_stored {s = s} {ties_was = ties_was} end told save pages banks sized ties = record {
    save = save;
    snaps = snaps_tied end told.snaps pages ties;
    bank = banks;
    sized = λ n k bank there at_least at_most. elim (cases_eq k (s + 1)) [
      | inr other ↦ told.sized n k bank there at_least (omega arith)
      | inl last ↦ subst (λ j. length (story.counted j n) ≡ counted_of (story.point j) n) (sym last)
          (sized n bank there)
    ];
    older = λ n began after cut. omega (arith, told.older n began after cut);
    allowed = λ n began after cut. elim (told.allowed n began after cut) [
      | inl first ↦ inl first
      | inr tied ↦ inr (
        tied.0,
        tied.1,
        subst (λ l. Contains l tied.0) (sym ties)
            (Contains-append_left ties_was _ tied.0 tied.2),
        tied.3,
        tied.4,
      )
    ];
  }

  -- and no joint crash was lost
  pub keeps_stored : {s : ℕ} {save_was save_now snaps : D} {banks : ℕ → Option D} {ties_was ties_now : List Tie}
      {cuts : List Cut} {P : List ℕ → Type 0} (t : ℕ) (end : Option ℕ)
      → IsTold clock image_at story from low s (parts save_was snaps banks ties_was cuts)
      → Runs clock image_at save_was save_now P
      → ties_now ≡ ties_was ++ record { sequence = s + 1; snaps = t; ended = end } ∷ []
      → KeepsCrashes clock image_at from (parts save_was snaps banks ties_was cuts)
      (parts save_now snaps banks ties_now cuts)
  keeps_stored {s = s} {save_was = save_was} {save_now = save_now} {snaps = snaps} {banks = banks}
      {ties_was = ties_was} {ties_now = ties_now} {cuts = cuts} t end told runs ties =
      keeps_by {s = s} {old = parts save_was snaps banks ties_was cuts}
      {new = parts save_now snaps banks ties_now cuts} told (lasts_runs runs) lasts_none
      (λ n bank there. (bank, there, lasts_none))
      (λ tie has. elim (Contains-push_cases ties_was _ tie (subst (λ l. Contains l tie) ties has)) [
        | inl older ↦ inl older
        | inr is ↦ inr (omega (arith, ap (λ (x : Tie). x.sequence) is))
      ])
      (λ n bank there began after cut. inl cut)

  -- the store was done: the log files may be cut of which it counts nothing
  pub all_stored : {tells : D → Option (List ℕ)} {newest : Option Savepoint} {saved : Saved}
      {save_was save_now snaps : D} {banks : ℕ → Option D} {ties_was ties_now : List Tie} {cuts : List Cut}
      {file : List ℕ} (numbers : List ℕ)
      → MayStore clock image_at tells story from low newest saved (parts save_was snaps banks ties_was cuts)
      → ArePast clock image_at (parts save_was snaps banks ties_was cuts)
      → AreToldIn tells numbers (parts save_was snaps banks ties_was cuts)
      → ((n : ℕ) → Contains numbers n → story.counted (sequence_of newest + 1) n ≡ [])
      → Runs clock image_at save_was save_now (NamesOldOrNew newest (point_of (sequence_of newest + 1) saved))
      → Only clock image_at save_now file → Names file (Some (point_of (sequence_of newest + 1) saved))
      → ties_now ≡ ties_was ++ record {
        sequence = sequence_of newest + 1;
        snaps = clock snaps;
        ended = Some
            (clock save_now);
      } ∷ []
      → MayCut clock image_at tells story from low (sequence_of newest + 1) numbers
      (parts save_now snaps banks ties_now cuts)
      × KeepsCrashes clock image_at from (parts save_was snaps banks ties_was cuts)
      (parts save_now snaps banks ties_now cuts)
  all_stored {newest = newest} {saved = saved} {save_was = save_was} {save_now = save_now} {snaps = snaps}
      {ties_was = ties_was} {ties_now = ties_now} numbers may past tell none runs only names ties =
      let p = point_of (sequence_of newest + 1) saved in
      let runs_named = runs_weaker (λ c old_or_new.
      subst (λ x. NamesOldOrNew x p c) (sym may.newest_is) old_or_new) runs in
      let save = save_stored {was = ties_was} {now = ties_now} p
      (clock snaps) may.told.save may.point refl runs_named only names ties in
      let this : Tie = record {
        sequence = sequence_of newest + 1;
        snaps = clock snaps;
        ended = Some
            (clock save_now);
      } in (
        record {
          told = told_stored (Some (clock save_now)) may.told save may.pages may.banks may.sized ties;
          ready = may.ready_next;
          past = past;
          none = none;
          ended = inr (
            this,
            clock save_now,
            subst (λ l. Contains l this) (sym ties)
                (Contains-push ties_was this),
            refl,
            refl,
          );
          tell = tell;
        },
        keeps_stored (clock snaps) (Some (clock save_now)) may.told runs ties,
      )

  -- the store failed: a stop now is a joint crash
  pub all_failed : {tells : D → Option (List ℕ)} {newest : Option Savepoint} {saved : Saved}
      {save_was save_now snaps : D} {banks : ℕ → Option D} {ties_was ties_now : List Tie} {cuts : List Cut}
      {file : List ℕ}
      → MayStore clock image_at tells story from low newest saved (parts save_was snaps banks ties_was cuts)
      → Runs clock image_at save_was save_now (NamesOldOrNew newest (point_of (sequence_of newest + 1) saved))
      → Only clock image_at save_was file → Names file newest
      → ties_now ≡ ties_was ++ record { sequence = sequence_of newest + 1; snaps = clock snaps; ended = None } ∷ []
      → IsLeft clock image_at story from low (sequence_of newest + 1) (parts save_now snaps banks ties_now cuts)
      × KeepsCrashes clock image_at from (parts save_was snaps banks ties_was cuts)
      (parts save_now snaps banks ties_now cuts)
  all_failed {newest = newest} {saved = saved} {save_was = save_was} {save_now = save_now} {snaps = snaps}
      {banks = banks} {ties_was = ties_was} {ties_now = ties_now} {cuts = cuts} may runs only names ties =
      let p = point_of (sequence_of newest + 1) saved in
      let runs_named = runs_weaker (λ c old_or_new.
      subst (λ x. NamesOldOrNew x p c) (sym may.newest_is) old_or_new) runs in
      let save = save_failed {was = ties_was} {now = ties_now} p
      (clock snaps) may.told.save may.point refl runs_named ties in
      let told = told_stored None may.told save may.pages may.banks may.sized ties in (
        record {
          high = sequence_of newest + 1;
          within = omega arith;
          told = told;
          instant = now_two {s = sequence_of newest}
              {all = parts save_now snaps banks ties_now cuts} told may.told.save.ordered may.ready may.ready_next
              (λ c image. elim (left_after_runs c runs image) [
                | inl was ↦ inl (subst (λ x. Names c x) (sym may.newest_is)
                    (subst (λ l. Names l newest) (sym (only c was)) names))
                | inr now ↦ elim now [
                  | inl old_is ↦ inl (subst (λ x. Names c x) (sym may.newest_is) old_is)
                  | inr new_is ↦ inr (subst (λ x. Names c x) (sym may.point) new_is)
                ]
              ]);
        },
        keeps_stored (clock snaps) None may.told runs ties,
      )

  -- nothing was begun
  pub all_refused : {tells : D → Option (List ℕ)} {newest : Option Savepoint} {saved : Saved} {all : Parts D}
      {file : List ℕ}
      → MayStore clock image_at tells story from low newest saved all
      → Only clock image_at all.save file → Names file newest
      → IsLeft clock image_at story from low (sequence_of newest + 1) all × KeepsCrashes clock image_at from all all
  all_refused {newest = newest} {all = all} may only names = (
    record {
      high = sequence_of newest;
      within = omega arith;
      told = may.told;
      instant = now_one may.told may.ready (λ c image.
          subst (λ x. Names c x) (sym may.newest_is) (subst (λ l. Names l newest) (sym (only c image)) names));
    },
    keeps_none,
  )
