-- Where nothing that counts is pending: devices that have one image each, or calls that told what they did.
use Rattle.std.proofs.Common.{◌≡◌, ◌*◌, ◌≤◌, ◌<◌, inl, inr, ℕ, List, Option, Some, None, length, take, sym, subst, arith}
use Rattle.std.proofs.lemmas.Bool.{cases_lt}
use Rattle.std.proofs.lemmas.List.{length-take-le}
use Rattle.outside.specs.declared.device.Device.TheVariants.{Bank}
use Rattle.outside.specs.Disk.{Only}
use Rattle.log_writer.specs.Newest.{names_one}
use Rattle.log_writer.specs.Save.{Names}
use Rattle.wire_form.specs.declared.savepoint.Savepoint.{Savepoint}
use Rattle.lists.specs.Fronts.{IsFront, front_take, front_refl}
use Rattle.outside.specs.Fronts.{AllBegin, begins_less}
use Rattle.serial_model.specs.State.{State}
use Rattle.joint_crashes.specs.Images.{Images, count_of, counted_of}
use Rattle.joint_crashes.specs.JointCrash.{Parts, Moments, HasCut}
use Rattle.joint_crashes.specs.Story.{Story, IsTold, StandsFor}
use Rattle.recovery_core.specs.Recoverable.{IsRecoverable, Reading, ReadsBy}
use Rattle.joint_crashes.specs.Resting.{IsResting, AreSettled}

-- so many bytes of the snapshots count, and are there
pages_there : (found : Images) (point : Option Savepoint) (reading : Reading) → ReadsBy found point reading
    → 512 * count_of point ≤ length found.snaps
pages_there found None reading reads = omega arith
pages_there found (Some p) reading reads = elim (cases_lt 0 p.count) [
  | inl some ↦ (reads.snapshot.has.each p.count (omega (arith, some)) (omega arith)).inside
  | inr none ↦ omega (arith, none)
]

-- and of each log file
bytes_there : (found : Images) (point : Option Savepoint) (reading : Reading) → ReadsBy found point reading → (n : ℕ)
    → n < 16 → counted_of point n ≤ length (found.bank n)
bytes_there found None reading reads n below = omega arith
bytes_there found (Some p) reading reads n below = (reads.files.each n below).there

-- Where nothing is pending, and the devices stand for something, nothing that counts is pending.
pub settled_rests : {D : Type 0} {tells : D → Option (List ℕ)} {clock : D → ℕ} {image_at : D → ℕ → List ℕ → Type 0}
    {parts : Parts D} {found : Images} {epoch : ℕ} {state : State}
    → ((n : ℕ) (bank : D) → parts.banks n ≡ Some bank → n < 16)
    → AreSettled tells clock image_at parts found → IsRecoverable found epoch state
    → IsResting clock image_at parts
settled_rests {found = found} within settled is =
    let point = is.reading.point in
    let counts = is.is.counts in
    record {
      file = found.save;
      point = point;
      pages = take (512 * count_of point) found.snaps;
      counted = λ n. take (counted_of point n) (found.bank n);
      save = settled.save;
      names = is.is.names;
      snaps = λ c image. subst (λ l. IsFront (take (512 * count_of point) found.snaps) l) (sym (settled.snaps c image))
          (front_take (512 * count_of point) found.snaps);
      pages_sized = length-take-le (512 * count_of point) found.snaps (pages_there found point is.reading counts);
      bank = λ n bank there c image. subst (λ l. IsFront (take (counted_of point n) (found.bank n)) l)
          (sym (settled.bank n bank there c image)) (front_take (counted_of point n) (found.bank n));
      bank_sized = λ n bank there. length-take-le (counted_of point n) (found.bank n)
          (bytes_there found point is.reading counts n (within n bank there));
    }

-- Behind calls that told what they did: a stop now finds of each log file what a savepoint counts that is as new as its
-- cuts, and what stands for a savepoint stands for an epoch and a state.
module _ {D : Type 0} {clock : D → ℕ} {image_at : D → ℕ → List ℕ → Type 0} {story : Story} {from : Moments}
    {low high : ℕ} {parts : Parts D} (told : IsTold clock image_at story from low high parts)
    (ready : (n : ℕ) (bank : D) → parts.banks n ≡ Some bank → (k : ℕ) → low ≤ k → k ≤ high
    → ((began after : ℕ) → HasCut parts.cuts (Bank n) began after → after ≤ k)
    → AllBegin (image_at bank (clock bank)) (story.counted k n))
    (recovers : (k : ℕ) (left : Images) → low ≤ k → k ≤ high → StandsFor clock image_at story parts left k
    → (epoch : ℕ) × (state : State) × IsRecoverable left epoch state) where
  -- what a savepoint counts, and nothing else
  just : List ℕ → ℕ → Images
  just file k = record { save = file; snaps = story.pages k; bank = λ n. story.counted k n }

  just_stands : (file : List ℕ) (k : ℕ) → Names file (story.point k)
      → StandsFor clock image_at story parts (just file k) k
  unfolding just
  just_stands file k names = record {
    names = names;
    pages = front_refl (story.pages k);
    counted = λ n bank there. front_refl (story.counted k n);
  }

  -- so the pages that it counts are among those that the story has
  pages_told : (file : List ℕ) (k : ℕ) → low ≤ k → k ≤ high → Names file (story.point k)
      → 512 * count_of (story.point k) ≤ length (story.pages k)
  unfolding just
  pages_told file k at_least at_most names =
      let it = recovers k (just file k) at_least at_most (just_stands file k names) in
      let same = names_one file it.2.reading.point (story.point k) it.2.is.names names in
      subst (λ p. 512 * count_of p ≤ length (story.pages k)) same
      (pages_there (just file k) it.2.reading.point it.2.reading it.2.is.counts)

  -- Where the save has one image, nothing that counts is pending.
  pub rests_by : (file : List ℕ) → image_at parts.save (clock parts.save) file → Only clock image_at parts.save file
      → IsResting clock image_at parts
  rests_by file image only =
      let named = told.save.names (clock parts.save) file told.save.began (omega arith) image in
      let k = named.0 in
      let size = 512 * count_of (story.point k) in
      record {
        file = file;
        point = story.point k;
        pages = take size (story.pages k);
        counted = story.counted k;
        save = only;
        names = named.3;
        snaps = begins_less (image_at parts.snaps (clock parts.snaps)) (take size (story.pages k)) (story.pages k)
            (told.snaps.since k (clock parts.snaps) named.1 named.2 told.snaps.began (omega arith)
            (λ tie has is. told.snaps.times tie has)) (front_take size (story.pages k));
        pages_sized = length-take-le size (story.pages k) (pages_told file k named.1 named.2 named.3);
        bank = λ n bank there. ready n bank there k named.1 named.2 (λ began after cut.
            elim (told.allowed n began after cut) [
              | inl first ↦ omega (arith, first, named.1)
              | inr tied ↦
                  let least = told.save.ended tied.0 tied.1 (clock parts.save) file k tied.2 tied.4 told.save.began
                  (told.save.ended_time tied.0 tied.1 tied.2 tied.4) (omega arith) image named.1 named.2 named.3 in
                  omega (arith, tied.3, least)
            ]);
        bank_sized = λ n bank there. told.sized n k bank there named.1 named.2;
      }
