-- What is known of the crashes of all devices since a call began, after the rounds that were run so far.
use Rattle.std.proofs.Common.{◌≡◌, ◌∙◌, ◌≤◌, ◌<◌, ◌+◌, ◌-◌, ◌⊎◌, inl, inr, ap, subst, refl, ℕ, zero, suc}
use Rattle.std.proofs.Common.{List, [], ◌∷◌, ◌++◌, Option, Some, length, arith}
use Rattle.std.specs.Prelude.{flat_map, map, slice_get}
use Rattle.std.specs.List.{Contains}
use Rattle.std.proofs.lemmas.Grind.{flat_map-append}
use Rattle.std.proofs.lemmas.List.{append-nil}
use Rattle.std.proofs.lemmas.Option.{same_Some}
use Rattle.lists.specs.Fronts.{IsFront}
use Rattle.log_writer.specs.Cuts.{whole_bank}
use Rattle.log_writer.specs.Vault.{IsWhole, disk_in}
use Rattle.outside.specs.declared.device.Device.TheVariants.{Bank}
use Rattle.log_writer.specs.declared.records.Tie.{Tie}
use Rattle.log_writer.specs.declared.vault.Vault.{Vault}
use Rattle.outside.specs.Disk.{Only}
use Rattle.serial_model.specs.History.{Entry, as_of}
use Rattle.serial_model.specs.State.{State}
use Rattle.serial_model.specs.declared.decl.Decl.{Decl}
use Rattle.serial_model.specs.declared.number.Commit.{Commit}
use Rattle.wire_form.specs.declared.savepoint.Savepoint.{Savepoint}
use Rattle.log_writer.specs.Points.{point_of, sequence_of}
use Rattle.log_writer.specs.Save.{Names}
use Rattle.log_writer.specs.declared.saved.Saved.{Saved}
use Rattle.joint_crashes.specs.Images.{Images, epoch_of}
use Rattle.joint_crashes.specs.JointCrash.{CrashesNow, IsJointCrash, IsSince, Moments, parts_of}
use Rattle.recovery_core.specs.Recoverable.{IsRecoverable, Reading}
use Rattle.recovery_core.specs.RecoverableLaws.{one_recoverable}
use Rattle.joint_crashes.specs.Story.{IsTold, StandsFor, Story}
use Rattle.joint_crashes.specs.Resting.{IsResting}
use Rattle.checkpoints.specs.RestsLaws.{rests_by}
use Rattle.joint_crashes.specs.Crashes.Standing.{crash_covers, crash_stands}
use Rattle.joint_crashes.specs.VaultReads.{some_of}
use Rattle.tx_script.specs.Run.{Ran}
use Rattle.round_engine.specs.Crashes.{IsSameUpTo, KnowsBefore, StaysReady}
use Rattle.worker_logs.specs.Rows.{NeverFall}
use Rattle.round_engine.specs.Saves.{newest_after}
use Rattle.round_engine.specs.Standing.{RuntimeState}
use Rattle.program_calls.specs.RunKept.{RecordsOf}
use Rattle.program_calls.specs.RoundCauses.{saved_in}
use Rattle.program_calls.proofs.CrashPoints.{FoundAt, PointsKept, left_at, StandsThen}

-- ---- what is known

-- An epoch that the run saved, at its place: the store of its sequence has ended, and its savepoint is of that epoch,
-- or of a later one.
pub record StoredAt (story : Story) (ties : List Tie) (settled high i epoch : ℕ) : Type 0 where
  pub tie : Tie
  pub end : ℕ
  pub has : Contains ties tie
  pub of_store : tie.sequence ≡ settled + 1 + i
  pub ended : tie.ended ≡ Some end
  pub within : settled + 1 + i ≤ high
  pub least : epoch ≤ epoch_of (story.point (settled + 1 + i))

-- What is known after these rounds, which began with these contents as of this epoch, behind a savepoint of this
-- sequence: each joint crash since these moments finds a savepoint that is known, and a stop now is one.
pub record CrashesKept {D : Type 0} (clock : D → ℕ) (image_at : D → ℕ → List ℕ → Type 0) (from : Moments)
    (was : Reading) (decls : List Decl) (settled saved : ℕ) (s : State) (rans : List Ran) (ordered : List Entry)
    (vault : Vault D) : Type 0 where
  pub story : Story
  pub low : ℕ
  pub high : ℕ
  pub points : PointsKept story low settled high was decls saved s ordered
  pub told : IsTold clock image_at story from low high (parts_of vault)
  pub stays : StaysReady clock image_at story low high (parts_of vault)
  pub instant : CrashesNow clock image_at (parts_of vault)
  pub stored : (i epoch : ℕ) → slice_get (flat_map saved_in rans) i ≡ Some epoch
      → StoredAt story vault.ties.items settled high i epoch
  pub recorded : RecordsOf settled rans vault.ties.items

-- The same as the next round begins on a runtime, whose growing and closed log files have these commits.
pub record KeptBefore {D : Type 0} (tells : D → Option (List ℕ)) (clock : D → ℕ) (image_at : D → ℕ → List ℕ → Type 0)
    (from : Moments) (was : Reading) (decls : List Decl) (settled saved : ℕ) (s : State) (rans : List Ran)
    (ordered : List Entry) (commits gone : ℕ → List Commit) (r : RuntimeState) (vault : Vault D) : Type 0 where
  pub kept : CrashesKept clock image_at from was decls settled saved s rans ordered vault
  pub durable : ℕ → List ℕ
  pub closed : ℕ → List ℕ
  pub knows : KnowsBefore tells clock image_at kept.story from kept.low commits gone durable closed r vault
  pub high_is : kept.high ≡ sequence_of r.save.newest
  pub many : sequence_of r.save.newest ≡ settled + length (flat_map saved_in rans)
  pub unfailed : kept.recorded.failed ≡ 0

-- ---- what each crash leaves

module _ {D : Type 0} {clock : D → ℕ} {image_at : D → ℕ → List ℕ → Type 0} {from : Moments} {was : Reading}
    {decls : List Decl} {settled saved : ℕ} {s : State} {rans : List Ran} {ordered : List Entry} {vault : Vault D}
    (kept : CrashesKept clock image_at from was decls settled saved s rans ordered vault) (whole : IsWhole vault) where
  found_at : (left : Images) (k : ℕ) → StandsFor clock image_at kept.story (parts_of vault) left k
      → FoundAt kept.story left k
  found_at left k stands = record {
    names = stands.names;
    pages = stands.pages;
    counted = λ n below.
        let bank = some_of (disk_in vault (Bank n)) (whole_bank whole n below) in
        stands.counted n bank.0 bank.1;
  }

  -- an epoch from the recovered one on, the state as of it, and the snapshots
  pub crash_leaves : (at : Moments) (left : Images) → IsSince from at
      → IsJointCrash clock image_at (parts_of vault) at left → (later : ℕ) × (saved ≤ later)
      × StandsThen was decls saved s ordered left later
  crash_leaves at left since crash =
      let k = crash_stands kept.told since crash in
      let is = left_at kept.points left k.0 k.1 k.2 (found_at left k.0 k.3) in
      (is.epoch, is.least, is.stands)

  -- and no earlier one than was saved by then
  pub crash_covered : (i epoch : ℕ) → (at_place : StoredAt kept.story vault.ties.items settled kept.high i epoch)
      → (at : Moments) (left : Images) (later : ℕ) (state : State) → IsSince from at
      → IsJointCrash clock image_at (parts_of vault) at left → at_place.end ≤ at.save
      → IsRecoverable left later state → epoch ≤ later
  crash_covered i epoch place at left later state since crash past that =
      let k = crash_covers place.tie place.end kept.told since crash place.has place.ended past in
      let behind : settled < k.0 = omega (arith, k.3, place.of_store) in
      let is = left_at kept.points left k.0 k.1 k.2 (found_at left k.0 k.4) in
      let same = one_recoverable left is.epoch later (as_of decls s ordered is.epoch) state is.stands.is that in
      let rise = kept.points.rise (settled + 1 + i) k.0 (omega arith) (omega (arith, k.3, place.of_store)) k.2 in
      omega (arith, place.least, rise, is.of_point behind, same.0)

  -- and where the save has one image, nothing that counts is pending
  pub rests_kept : (file : List ℕ) → image_at vault.save (clock vault.save) file → Only clock image_at vault.save file
      → IsResting clock image_at (parts_of vault)
  rests_kept file image only = rests_by kept.told
      (λ n bank is k at_least at_most older. (kept.stays.ready n bank is k at_least at_most older).now)
      (λ k left at_least at_most stands.
      let it = left_at kept.points left k at_least at_most (found_at left k stands) in
      (it.epoch, as_of decls s ordered it.epoch, it.stands.is)) file image only

-- ---- lists

-- numbers that never fall
pub never_from : (low : ℕ) (xs : List ℕ) → NeverFall low xs → (j b : ℕ) → slice_get xs j ≡ Some b → low ≤ b
never_from low [] rise j b at = absurd cc
never_from low (x ∷ xs) rise zero b at = omega (arith, rise.0, same_Some x b at)
never_from low (x ∷ xs) rise (suc j) b at = omega (arith, rise.0, never_from x xs rise.1 j b at)

pub rise_at : (low : ℕ) (xs : List ℕ) → NeverFall low xs → (i j a b : ℕ) → i ≤ j → slice_get xs i ≡ Some a
    → slice_get xs j ≡ Some b → a ≤ b
rise_at low [] rise i j a b less at_i at_j = absurd cc
rise_at low (x ∷ xs) rise zero zero a b less at_i at_j = omega (arith, same_Some x a at_i, same_Some x b at_j)
rise_at low (x ∷ xs) rise zero (suc j) a b less at_i at_j =
    omega (arith, same_Some x a at_i, never_from x xs rise.1 j b at_j)
rise_at low (x ∷ xs) rise (suc i) zero a b less at_i at_j = absurd (omega (arith, less))
rise_at low (x ∷ xs) rise (suc i) (suc j) a b less at_i at_j =
    rise_at x xs rise.1 i j a b (omega (arith, less)) at_i at_j

-- what stands in two lists in a row stands in one of them
pub either_at : {X : Type 0} (xs ys : List X) (i : ℕ) (x : X) → slice_get (xs ++ ys) i ≡ Some x
    → (slice_get xs i ≡ Some x) ⊎ ((j : ℕ) × (i ≡ length xs + j) × (slice_get ys j ≡ Some x))
either_at [] ys i x at = inr (i, omega arith, at)
either_at (y ∷ xs) ys zero x at = inl at
either_at (y ∷ xs) ys (suc i) x at = elim (either_at xs ys i x at) [
  | inl first ↦ inl first
  | inr later ↦ inr (later.0, omega (arith, later.1), later.2)
]

pub at_front : {X : Type 0} (xs ys : List X) (i : ℕ) (x : X) → slice_get xs i ≡ Some x → slice_get (xs ++ ys) i ≡ Some x
at_front [] ys i x at = absurd cc
at_front (y ∷ xs) ys zero x at = at
at_front (y ∷ xs) ys (suc i) x at = at_front xs ys i x at

pub epoch_at : (xs : List Saved) (i : ℕ) (x : Saved) → slice_get xs i ≡ Some x
    → slice_get (map (λ (s : Saved). s.epoch) xs) i ≡ Some x.epoch
epoch_at [] i x at = absurd cc
epoch_at (y ∷ xs) zero x at = ap (λ (s : Saved). Some s.epoch) (same_Some y x at)
epoch_at (y ∷ xs) (suc i) x at = epoch_at xs i x at

pub saved_with : (xs : List Saved) (i epoch : ℕ) → slice_get (map (λ (s : Saved). s.epoch) xs) i ≡ Some epoch
    → (x : Saved) × (slice_get xs i ≡ Some x) × (x.epoch ≡ epoch)
saved_with [] i epoch at = absurd cc
saved_with (y ∷ xs) zero epoch at = (y, refl, same_Some y.epoch epoch at)
saved_with (y ∷ xs) (suc i) epoch at = saved_with xs i epoch at

-- the epochs that were saved, with one round more
pub saved_push : (rans : List Ran) (ran : Ran)
    → flat_map saved_in (rans ++ ran ∷ []) ≡ flat_map saved_in rans ++ saved_in ran
saved_push rans ran = flat_map-append saved_in rans (ran ∷ [])
    ∙ ap (λ l. flat_map saved_in rans ++ l) (append-nil (saved_in ran))

-- each savepoint that is stored has the next sequence
pub newest_length : (newest : Option Savepoint) (stored : List Saved)
    → sequence_of (newest_after newest stored) ≡ sequence_of newest + length stored
newest_length newest [] = omega arith
newest_length newest (saved ∷ more) = omega (arith, newest_length (Some (point_of (sequence_of newest + 1) saved)) more)

-- ---- a story that goes on

-- images that are found at a savepoint of the new story are found at that of the old one
pub found_before : {story after : Story} {last : ℕ} (left : Images) (k : ℕ) → IsSameUpTo last story after → k ≤ last
    → FoundAt after left k → FoundAt story left k
found_before left k same less found = record {
  names = subst (λ p. Names left.save p) (same.point k less) found.names;
  pages = subst (λ l. IsFront l left.snaps) (same.pages k less) found.pages;
  counted = λ n below. subst (λ l. IsFront l (left.bank n)) (same.counted k n less) (found.counted n below);
}
