-- From a vault at rest to the store that counts nothing of its log files.
use Rattle.std.proofs.Common.{◌≡◌, ◌+◌, inl, ℕ, true, false, List, []}
use Rattle.std.proofs.Common.{Option, Some, length, refl, sym, ◌∙◌, ap, subst, arith}
use Rattle.std.specs.Prelude.{nat_le, is_some}
use Rattle.std.specs.List.{Contains}
use Rattle.std.proofs.lemmas.Bool.Decides.{nat_tests}
use Rattle.outside.specs.declared.device.Device.TheVariants.{Bank}
use Rattle.log_writer.specs.declared.records.Tie.{Tie}
use Rattle.log_writer.specs.declared.records.Cut.{Cut}
use Rattle.outside.specs.Disk.{Runs}
use Rattle.log_writer.specs.Save.{Names}
use Rattle.joint_crashes.specs.Cutting.{AreReady, ArePast}
use Rattle.wire_form.specs.declared.savepoint.Savepoint.{Savepoint}
use Rattle.log_writer.specs.declared.saved.Saved.{Saved}
use Rattle.log_writer.specs.Points.{sequence_of, point_of}
use Rattle.lists.specs.Fronts.{IsFront}
use Rattle.outside.specs.Fronts.{AllBegin}
use Rattle.joint_crashes.specs.Images.{Images, counted_of}
use Rattle.joint_crashes.specs.JointCrash.{Parts, Moments, HasCut, KeepsCrashes}
use Rattle.joint_crashes.specs.Story.{Story, IsTold}
use Rattle.joint_crashes.specs.Resting.{IsResting, HasNoRecords, AreTold}
use Rattle.joint_crashes.specs.Settling.{MayStore, RestsOn, story_of}
use Rattle.joint_crashes.specs.SettleRests.{RestsSince}
use Rattle.joint_crashes.specs.Crashes.SaveSteps.{save_begun}
use Rattle.joint_crashes.specs.Crashes.SnapsSteps.{snaps_begun, snaps_runs}
use Rattle.lists.specs.Fronts.{front_refl}
use Rattle.joint_crashes.specs.Crashes.ToldSteps.{parts}
use Rattle.joint_crashes.specs.Crashes.Instants.{keeps_by, lasts_none, lasts_runs}
use Rattle.joint_crashes.specs.Crashes.BankSteps.{bank_begun, bank_emptied}

le_same : (s : ℕ) → nat_le s s ≡ true
le_same s = grind (arith, nat_tests)

le_next : (s : ℕ) → nat_le (s + 1) s ≡ false
le_next s = grind (arith, nat_tests)

module _ (newest : Option Savepoint) (next : Savepoint) (pages more : List ℕ) (counted : ℕ → List ℕ) where
  pub point_old : (story_of newest next pages more counted).point (sequence_of newest) ≡ newest
  unfolding story_of
  point_old = rw (le_same (sequence_of newest)) refl

  pub point_new : (story_of newest next pages more counted).point (sequence_of newest + 1) ≡ Some next
  unfolding story_of
  point_new = rw (le_next (sequence_of newest)) refl

  pub pages_old : (story_of newest next pages more counted).pages (sequence_of newest) ≡ pages
  unfolding story_of
  pages_old = rw (le_same (sequence_of newest)) refl

  pub pages_new : (story_of newest next pages more counted).pages (sequence_of newest + 1) ≡ more
  unfolding story_of
  pages_new = rw (le_next (sequence_of newest)) refl

  pub counted_old : (n : ℕ) → (story_of newest next pages more counted).counted (sequence_of newest) n ≡ counted n
  unfolding story_of
  counted_old n = rw (le_same (sequence_of newest)) refl

  pub counted_new : (n : ℕ) → (story_of newest next pages more counted).counted (sequence_of newest + 1) n ≡ []
  unfolding story_of
  counted_new n = rw (le_next (sequence_of newest)) refl

-- no cut is recorded
pub no_cut : (cuts : List Cut) → cuts ≡ [] → (n began after : ℕ) → HasCut cuts (Bank n) began after → ⊥
no_cut cuts none n began after has = let h = subst (λ l.
    Contains l (record { device = Bank n; at = began; after = after })) none has in omega (arith, h.1)

module _ {D : Type 0} {tells : D → Option (List ℕ)} {clock : D → ℕ}
    {image_at : D → ℕ → List ℕ → Type 0} (reads : (disk : D) (file : List ℕ) → tells disk ≡ Some file
    → image_at disk (clock disk) file) where
  pub told_begun : {newest : Option Savepoint} {pages : List ℕ} {counted : ℕ → List ℕ} {all : Parts D}
      {from : Moments} (next : Savepoint) (more : List ℕ)
      → RestsOn tells clock image_at newest pages counted all → RestsSince clock image_at from newest pages counted all
      → IsTold clock image_at (story_of newest next pages more counted) from (sequence_of newest)
      (sequence_of newest) all
  told_begun {newest = newest} {pages = pages} {counted = counted} {all = all} {from = from} next more rest since =
      let s = sequence_of newest in
      let story = story_of newest next pages more counted in
      let point = point_old newest next pages more counted in
      record {
        save = save_begun all.ties rest.no_records.ties (ap sequence_of point) since.save_came
            (λ m c from_then come image. subst (λ x. Names c x) (sym point) (since.save m c from_then come image));
        snaps = snaps_begun all.ties rest.no_records.ties since.snaps_came
            (λ m from_then come. subst (λ l. AllBegin (image_at all.snaps m) l)
            (sym (pages_old newest next pages more counted)) (since.snaps m from_then come));
        bank = λ n bank there.
            bank_begun {counted = λ k. story.counted k n}
            {IsCut = HasCut all.cuts (Bank n)} (since.bank_came n bank there)
            (λ m from_then come. subst (λ l. AllBegin (image_at bank m) l)
            (sym (counted_old newest next pages more counted n)) (since.bank n bank there m from_then come));
        sized = λ n k bank there at_least at_most.
            let same : k ≡ s = omega arith in
            subst (λ j. length (story.counted j n) ≡ counted_of (story.point j) n) (sym same)
            (ap length (counted_old newest next pages more counted n) ∙ rest.sized n bank there
            ∙ ap (λ p. counted_of p n) (sym point));
        older = λ n began after cut. absurd (no_cut all.cuts rest.no_records.cuts n began after cut);
        allowed = λ n began after cut. absurd (no_cut all.cuts rest.no_records.cuts n began after cut);
      }

  -- A savepoint that counts nothing of the log files may be stored, once each image of the snapshots has its pages.
  pub may_store : {newest : Option Savepoint} {all : Parts D}
      {from : Moments} (saved : Saved) (pages more : List ℕ) (counted : ℕ → List ℕ)
      → IsTold clock image_at (story_of newest (point_of (sequence_of newest + 1) saved) pages more counted) from
      (sequence_of newest) (sequence_of newest) all
      → ((n : ℕ) (bank : D) → all.banks n ≡ Some bank → AllBegin (image_at bank (clock bank)) (counted n))
      → all.cuts ≡ [] → is_some (tells all.save) ≡ true
      → AllBegin (image_at all.snaps (clock all.snaps)) more
      → ((n : ℕ) → counted_of (Some (point_of (sequence_of newest + 1) saved)) n ≡ 0)
      → MayStore clock image_at tells (story_of newest
      (point_of (sequence_of newest + 1) saved) pages more counted) from (sequence_of newest) newest saved all
      × ArePast clock image_at all
  may_store {newest = newest} {all = all} saved pages more counted told begins none tell snaps zero =
      let s = sequence_of newest in
      let next = point_of (s + 1) saved in
      let story = story_of newest next pages more counted in (
        record {
          told = told;
          newest_is = point_old newest next pages more counted;
          point = point_new newest next pages more counted;
          tells_save = tell;
          pages = subst (λ l. AllBegin (image_at all.snaps (clock all.snaps)) l)
              (sym (pages_new newest next pages more counted)) snaps;
          banks = λ n bank there. bank_emptied {counted = λ k. story.counted k n}
              {IsCut = HasCut all.cuts (Bank n)} (told.bank n bank there)
              (counted_new newest next pages more counted n);
          sized = λ n bank there. ap length (counted_new newest next pages more counted n) ∙ sym (zero n)
              ∙ ap (λ p. counted_of p n) (sym (point_new newest next pages more counted));
          ready = λ n bank there. record {
            now = subst (λ l. AllBegin (image_at bank (clock bank)) l)
                (sym (counted_old newest next pages more counted n)) (begins n bank there);
            past = λ began after cut less. absurd (no_cut all.cuts none n began after cut);
          };
          ready_next = λ n bank there. record {
            now = λ c image. subst (λ l. IsFront l c) (sym (counted_new newest next pages more counted n)) refl;
            past = λ began after cut less. absurd (no_cut all.cuts none n began after cut);
          };
        },
        λ n bank there began after cut. absurd (no_cut all.cuts none n began after cut),
      )

-- Pages were appended to the snapshots, or not.
pub told_appended : {D : Type 0} {clock : D → ℕ} {image_at : D → ℕ → List ℕ → Type 0} {story : Story}
    {from : Moments} {s : ℕ} {save old new : D} {banks : ℕ → Option D} {ties : List Tie} {cuts : List Cut}
    → IsTold clock image_at story from s s (parts save old banks ties cuts)
    → Runs clock image_at old new (IsFront (story.pages s))
    → IsTold clock image_at story from s s (parts save new banks ties cuts)
told_appended {story = story} {s = s} told runs = record {
  save = told.save;
  snaps = snaps_runs told.snaps (λ k at_least at_most. let same : k
      ≡ s = omega arith in subst (λ j. IsFront (story.pages j) (story.pages s)) (sym same)
      (front_refl (story.pages s))) runs;
  bank = told.bank;
  sized = told.sized;
  older = told.older;
  allowed = told.allowed;
}

-- and no joint crash was lost
pub keeps_appended : {D : Type 0} {clock : D → ℕ} {image_at : D → ℕ → List ℕ → Type 0} {story : Story}
    {from : Moments} {s : ℕ} {save old new : D} {banks : ℕ → Option D} {ties : List Tie} {cuts : List Cut}
    {P : List ℕ → Type 0}
    → IsTold clock image_at story from s s (parts save old banks ties cuts)
    → Runs clock image_at old new P
    → KeepsCrashes clock image_at from (parts save old banks ties cuts) (parts save new banks ties cuts)
keeps_appended {save = save} {old = old} {new = new} {banks = banks} {ties = ties} {cuts = cuts} told runs =
    keeps_by {old = parts save old banks ties cuts}
    {new = parts save new banks ties cuts} told lasts_none (lasts_runs runs)
    (λ n bank there. (bank, there, lasts_none)) (λ tie has. inl has) (λ n bank there began after cut. inl cut)

-- a stop now finds what counts
pub ready_begun : {D : Type 0} {clock : D → ℕ} {image_at : D → ℕ → List ℕ → Type 0} (newest : Option Savepoint)
    (next : Savepoint) (pages more : List ℕ) (counted : ℕ → List ℕ) (all : Parts D)
    → ((n : ℕ) (bank : D) → all.banks n ≡ Some bank → AllBegin (image_at bank (clock bank)) (counted n))
    → all.cuts ≡ []
    → AreReady clock image_at (story_of newest next pages more counted) (sequence_of newest) all
ready_begun {clock = clock}
    {image_at = image_at} newest next pages more counted all begins none n bank there = record {
      now = subst (λ l. AllBegin (image_at bank (clock bank)) l) (sym (counted_old newest next pages more counted n))
          (begins n bank there);
      past = λ began after cut less. absurd (no_cut all.cuts none n began after cut);
    }

-- a settling of a resting vault that tells its bytes, as no store and no cut is recorded
pub rests_on : {D : Type 0} {tells : D → Option (List ℕ)} {clock : D → ℕ} {image_at : D → ℕ → List ℕ → Type 0}
    {all : Parts D} {found : Images}
    → (rest : IsResting clock image_at all) → HasNoRecords all → AreTold tells all found
    → RestsOn tells clock image_at rest.point rest.pages rest.counted all
rests_on {found = found} rest none told = record {
  file = rest.file;
  save = rest.save;
  names = rest.names;
  snaps = rest.snaps;
  bank = rest.bank;
  sized = rest.bank_sized;
  told = λ n bank there. (found.bank n, told.bank n bank there);
  no_records = none;
}
