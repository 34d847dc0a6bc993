-- A story that goes on with what a round stored, and what was known of the one before it.
use Rattle.std.proofs.Common.{◌≡◌, ◌∙◌, ◌≤◌, ◌<◌, ◌+◌, ◌-◌, sym, ap, subst, refl, ℕ}
use Rattle.std.proofs.Common.{true, false, List, Option, Some, length, take, arith}
use Rattle.std.specs.Prelude.{if◌then◌else◌, nat_le, slice_get}
use Rattle.std.specs.Option.{option_map}
use Rattle.std.proofs.lemmas.Bool.Decides.{nat_tests}
use Rattle.lists.specs.Fronts.{IsFront}
use Rattle.outside.specs.Fronts.{AllBegin}
use Rattle.log_writer.specs.declared.records.Tie.{Tie}
use Rattle.wire_form.specs.declared.savepoint.Savepoint.{Savepoint}
use Rattle.log_writer.specs.Points.{point_of, sequence_of}
use Rattle.log_writer.specs.Save.{Names}
use Rattle.log_writer.specs.declared.saved.Saved.{Saved}
use Rattle.joint_crashes.specs.Images.{count_of, counted_of}
use Rattle.joint_crashes.specs.JointCrash.{Moments, Parts}
use Rattle.joint_crashes.specs.Story.{BankOpen, BankTold, IsTold, SaveTold, SnapsTold, Story}
use Rattle.round_engine.specs.Crashes.{BankShut, IsSameUpTo}
use Rattle.round_engine.specs.Saves.{GoesOnWith}

-- ---- what was known of a story is known of one that is the same up to there

module _ {D : Type 0} {clock : D → ℕ} {image_at : D → ℕ → List ℕ → Type 0} {story after : Story} (from : Moments)
    {low high : ℕ} (same : IsSameUpTo high story after) where
  save_same : {save : D} {ties : List Tie} → SaveTold clock image_at story.point from.save low high save ties
      → SaveTold clock image_at after.point from.save low high save ties
  save_same told = record {
    ordered = told.ordered;
    began = told.began;
    numbered = λ k at_least at_most. ap sequence_of (same.point k at_most) ∙ told.numbered k at_least at_most;
    names = λ m c since come image.
        let named = told.names m c since come image in
        (named.0, named.1, named.2, subst (Names c) (sym (same.point named.0 named.2)) named.3);
    newest = told.newest;
    ended_time = told.ended_time;
    ended = λ tie end m c k has ended since past come image at_least at_most names.
        told.ended tie end m c k has ended since past come image at_least at_most
        (subst (Names c) (same.point k at_most) names);
  }

  snaps_same : {snaps : D} {ties : List Tie} → SnapsTold clock image_at story.pages from.snaps low high snaps ties
      → SnapsTold clock image_at after.pages from.snaps low high snaps ties
  snaps_same {snaps = snaps} told = record {
    began = told.began;
    times = told.times;
    since = λ k m at_least at_most since come past. subst (AllBegin (image_at snaps m)) (sym (same.pages k at_most))
        (told.since k m at_least at_most since come past);
  }

  bank_same : {bank : D} {IsCut : ℕ → ℕ → Type 0} (n : ℕ)
      → BankTold clock image_at (λ k. story.counted k n) (from.bank n) low high bank IsCut
      → BankTold clock image_at (λ k. after.counted k n) (from.bank n) low high bank IsCut
  bank_same n told = record {
    began = told.began;
    kept = λ k m front at_least at_most since come past before c image size all.
        told.kept k m front at_least at_most since come past before c image
        (size ∙ ap length (same.counted k n at_most)) all
        ∙ sym (same.counted k n at_most);
  }

  pub open_same : {bank : D} {IsCut : ℕ → ℕ → Type 0} {made : List ℕ} (n : ℕ)
      → BankOpen clock image_at (λ k. story.counted k n) (from.bank n) low high bank IsCut made
      → BankOpen clock image_at (λ k. after.counted k n) (from.bank n) low high bank IsCut made
  open_same {made = made} n opened = record {
    past = opened.past;
    now = opened.now;
    agrees = opened.agrees;
    counts = λ k at_least at_most last. subst (λ l. IsFront l made) (sym (same.counted k n at_most))
        (opened.counts k at_least at_most last);
  }

  pub shut_same : {bank : D} {IsCut : ℕ → ℕ → Type 0} {made : List ℕ} (n : ℕ)
      → BankShut clock image_at (λ k. story.counted k n) (from.bank n) low high bank IsCut made
      → BankShut clock image_at (λ k. after.counted k n) (from.bank n) low high bank IsCut made
  shut_same {made = made} n shut = record {
    past = shut.past;
    now = shut.now;
    agrees = shut.agrees;
    counts = λ k at_least at_most last. subst (λ l. IsFront l made) (sym (same.counted k n at_most))
        (shut.counts k at_least at_most last);
  }

  pub told_same : {parts : Parts D} → IsTold clock image_at story from low high parts
      → IsTold clock image_at after from low high parts
  told_same told = record {
    save = save_same told.save;
    snaps = snaps_same told.snaps;
    bank = λ n bank there. bank_same n (told.bank n bank there);
    sized = λ n k bank there at_least at_most. ap length (same.counted k n at_most)
        ∙ told.sized n k bank there at_least at_most
        ∙ ap (λ (p : Option Savepoint). counted_of p n) (sym (same.point k at_most));
    older = told.older;
    allowed = told.allowed;
  }

-- ---- the story that goes on

-- the savepoint of a sequence behind this one, of those that were stored then
abbrev pub point_begun : ℕ → List Saved → ℕ → Option Savepoint
point_begun last begun k = option_map (point_of k) (slice_get begun (k - (last + 1)))

-- how many pages one of them counts
abbrev pub count_begun : ℕ → List Saved → ℕ → ℕ
count_begun last begun k = count_of (point_begun last begun k)

-- Up to a sequence it is the old one; then these were stored, each over so many of these pages, and count of the log
-- files what is durable in the end.
unfoldable pub story_after : Story → ℕ → List Saved → (ℕ → List ℕ) → (ℕ → List ℕ) → Story
story_after story last begun bytes durable = record {
  point = λ k. if nat_le k last then story.point k else point_begun last begun k;
  pages = λ k. if nat_le k last then story.pages k else bytes (count_begun last begun k);
  counted = λ k n. if nat_le k last then story.counted k n
      else take (counted_of (point_begun last begun k) n) (durable n);
}

le_up_to : (k last : ℕ) → k ≤ last → nat_le k last ≡ true
le_up_to k last less = grind (arith, nat_tests)

le_behind : (k last : ℕ) → last < k → nat_le k last ≡ false
le_behind k last less = grind (arith, nat_tests)

module _ (story : Story) (last : ℕ) (begun : List Saved) (bytes durable : ℕ → List ℕ) where
  point_old : (k : ℕ) → k ≤ last → (story_after story last begun bytes durable).point k ≡ story.point k
  unfolding story_after
  point_old k less = rw (le_up_to k last less) refl

  pages_old : (k : ℕ) → k ≤ last → (story_after story last begun bytes durable).pages k ≡ story.pages k
  unfolding story_after
  pages_old k less = rw (le_up_to k last less) refl

  counted_old : (k n : ℕ) → k ≤ last → (story_after story last begun bytes durable).counted k n ≡ story.counted k n
  unfolding story_after
  counted_old k n less = rw (le_up_to k last less) refl

  pub same_before : IsSameUpTo last story (story_after story last begun bytes durable)
  same_before = record { point = point_old; pages = pages_old; counted = counted_old }

  pub point_behind : (k : ℕ) → last < k → (story_after story last begun bytes durable).point k ≡ point_begun last begun k
  unfolding story_after
  point_behind k less = rw (le_behind k last less) refl

  pub pages_behind : (k : ℕ) → last < k → (story_after story last begun bytes durable).pages k
      ≡ bytes (count_begun last begun k)
  unfolding story_after
  pages_behind k less = rw (le_behind k last less) refl

  pub counted_behind : (k n : ℕ) → last < k → (story_after story last begun bytes durable).counted k n
      ≡ take (counted_of (point_begun last begun k) n) (durable n)
  unfolding story_after
  counted_behind k n less = rw (le_behind k last less) refl

  place : (k : ℕ) → (last + 1 + k) - (last + 1) ≡ k
  place k = omega arith

  -- the savepoint at a place
  pub begun_at : (k : ℕ) (saved : Saved) → slice_get begun k ≡ Some saved
      → point_begun last begun (last + 1 + k) ≡ Some (point_of (last + 1 + k) saved)
  begun_at k saved at = ap (λ j. option_map (point_of (last + 1 + k)) (slice_get begun j)) (place k)
      ∙ ap (option_map (point_of (last + 1 + k))) at

  pub point_next : (k : ℕ) (saved : Saved) → slice_get begun k ≡ Some saved
      → (story_after story last begun bytes durable).point (last + 1 + k) ≡ Some (point_of (last + 1 + k) saved)
  point_next k saved at = point_behind (last + 1 + k) (omega arith) ∙ begun_at k saved at

  pub pages_next : (k : ℕ) (saved : Saved) → slice_get begun k ≡ Some saved
      → (story_after story last begun bytes durable).pages (last + 1 + k) ≡ bytes saved.count
  pages_next k saved at = pages_behind (last + 1 + k) (omega arith)
      ∙ ap (λ (p : Option Savepoint). bytes (count_of p)) (begun_at k saved at)

pub goes_after : (story : Story) (newest : Option Savepoint) (begun : List Saved) (bytes durable : ℕ → List ℕ)
    → GoesOnWith (story_after story (sequence_of newest) begun bytes durable) newest bytes begun
goes_after story newest begun bytes durable = record {
  point = point_next story (sequence_of newest) begun bytes durable;
  pages = pages_next story (sequence_of newest) begun bytes durable;
}
