-- When a stop now is a joint crash; and numbers that never fall.
use Rattle.std.proofs.Common.{◌≡◌, ◌≤◌, ◌++◌, ◌∷◌, inl, inr, ap, subst, refl, ℕ, zero, suc, List, [], length}
use Rattle.std.proofs.Common.{Some, arith}
use Rattle.std.specs.Prelude.{map, slice_get}
use Rattle.std.specs.List.{Contains}
use Rattle.std.proofs.lemmas.Option.{same_Some}
use Rattle.outside.specs.declared.device.Device.TheVariants.{Bank}
use Rattle.log_writer.specs.declared.records.Tie.{Tie}
use Rattle.log_writer.specs.declared.saved.Saved.{Saved}
use Rattle.joint_crashes.specs.Cutting.{AreReady}
use Rattle.joint_crashes.specs.JointCrash.{CrashesNow, HasCut, Moments, Parts}
use Rattle.joint_crashes.specs.Story.{BankReady, IsTold, Story}
use Rattle.joint_crashes.specs.Crashes.Instants.{now_ready}
use Rattle.worker_logs.specs.Rows.{NeverFall}

-- ---- numbers that never fall

never_from : (low : ℕ) (xs : List ℕ) → NeverFall low xs → (j b : ℕ) → slice_get xs j ≡ Some b → low ≤ b
never_from low [] rise j b at = absurd cc
never_from low (x ∷ xs) rise zero b at = omega (arith, rise.0, same_Some x b at)
never_from low (x ∷ xs) rise (suc j) b at = omega (arith, rise.0, never_from x xs rise.1 j b at)

-- what stands later isn't less
pub rise_at : (low : ℕ) (xs : List ℕ) → NeverFall low xs → (i j a b : ℕ) → i ≤ j → slice_get xs i ≡ Some a
    → slice_get xs j ≡ Some b → a ≤ b
rise_at low [] rise i j a b less at_i at_j = absurd cc
rise_at low (x ∷ xs) rise zero zero a b less at_i at_j = omega (arith, same_Some x a at_i, same_Some x b at_j)
rise_at low (x ∷ xs) rise zero (suc j) a b less at_i at_j =
    omega (arith, same_Some x a at_i, never_from x xs rise.1 j b at_j)
rise_at low (x ∷ xs) rise (suc i) zero a b less at_i at_j = absurd (omega (arith, less))
rise_at low (x ∷ xs) rise (suc i) (suc j) a b less at_i at_j =
    rise_at x xs rise.1 i j a b (omega (arith, less)) at_i at_j

-- the last of a list stands behind the others
pub last_at : (xs : List ℕ) (e : ℕ) → slice_get (xs ++ e ∷ []) (length xs) ≡ Some e
last_at [] e = refl
last_at (x ∷ xs) e = last_at xs e

pub epoch_at : (xs : List Saved) (i : ℕ) (s : Saved) → slice_get xs i ≡ Some s
    → slice_get (map (λ (x : Saved). x.epoch) xs) i ≡ Some s.epoch
epoch_at [] i s is = absurd cc
epoch_at (x ∷ xs) zero s is = ap (λ (y : Saved). Some y.epoch) (same_Some x s is)
epoch_at (x ∷ xs) (suc i) s is = epoch_at xs i s is

-- ---- a stop now

module _ {D : Type 0} {clock : D → ℕ} {image_at : D → ℕ → List ℕ → Type 0} (story : Story) (from : Moments)
    (low high : ℕ) (all : Parts D) (told : IsTold clock image_at story from low high all) where
  -- A present image of the save names no savepoint that is older than a store that had ended, so no cut is later than
  -- the one that it names: a stop now is a joint crash where each log file has all that was counted since its cuts.
  pub known_now : ((n : ℕ) (bank : D) → all.banks n ≡ Some bank → (k : ℕ) → low ≤ k → k ≤ high
      → ((began after : ℕ) → HasCut all.cuts (Bank n) began after → after ≤ k)
      → BankReady clock image_at (λ j. story.counted j n) k bank (HasCut all.cuts (Bank n)))
      → CrashesNow clock image_at all
  known_now ready = now_ready told (λ c k image names at_least at_most n bank there.
      ready n bank there k at_least at_most (λ began after cut. elim (told.allowed n began after cut) [
        | inl first ↦ omega (arith, first, at_least)
        | inr tied ↦
            let ended = told.save.ended tied.0 tied.1 (clock all.save) c k tied.2 tied.4 told.save.began
            (told.save.ended_time tied.0 tied.1 tied.2 tied.4) (omega arith) image at_least at_most names in
            omega (arith, tied.3, ended)
      ]))

  -- and so it is where the newest store had ended, and each log file has what it counts
  pub newest_now : (tie : Tie) (end : ℕ) → Contains all.ties tie → tie.sequence ≡ high → tie.ended ≡ Some end
      → AreReady clock image_at story high all → CrashesNow clock image_at all
  newest_now tie end has sequence ended ready = now_ready told (λ c k image names at_least at_most n bank there.
      let least = told.save.ended tie end (clock all.save) c k has ended told.save.began
      (told.save.ended_time tie end has ended) (omega arith) image at_least at_most names in
      let same : high ≡ k = omega (arith, least, sequence, at_most) in
      subst (λ j. BankReady clock image_at (λ i. story.counted i n) j bank (HasCut all.cuts (Bank n))) same
      (ready n bank there))
