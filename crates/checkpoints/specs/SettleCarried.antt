-- What comes of a settling, from where its room was made to where it began.
use Rattle.std.proofs.Common.{◌≡◌, ◌∙◌, ℕ, List, Option, None, sym, subst}
use Rattle.std.specs.FinMap.{get}
use Rattle.serial_model.specs.State.{State}
use Rattle.serial_model.specs.declared.key.Key.{Key}
use Rattle.recovery_core.specs.declared.recovered.Recovered.{Recovered}
use Rattle.joint_crashes.specs.Images.{Images}
use Rattle.joint_crashes.specs.JointCrash.{Parts, Moments}
use Rattle.recovery_core.specs.LogEntries.{last_of}
use Rattle.recovery_core.specs.Recoverable.{counting, IsRecoverable, Reading}
use Rattle.recovery_core.specs.Recovered.{Recovers}
use Rattle.joint_crashes.specs.Resting.{IsResting, HasNoRecords, AreTold}
use Rattle.checkpoints.specs.SettleFresh.{recovers_fresh}
use Rattle.checkpoints.specs.SettleLaws.{carry_rest}
use Rattle.joint_crashes.specs.SettleRests.{RestsSince}

module _ {D : Type 0} {tells : D → Option (List ℕ)} {clock : D → ℕ} {image_at : D → ℕ → List ℕ → Type 0}
    {found : Images} {from : Moments} where
  -- of a vault with a savepoint
  pub carry_saved : (P : Reading → ℕ → State → Parts D → Type 0) (r : Recovered) (old mid : Parts D) → mid ≡ old
      → (is : Recovers found r)
      → ((rest : IsResting clock image_at mid) → HasNoRecords mid → AreTold tells mid found
      → RestsSince clock image_at from rest.point rest.pages rest.counted mid
      → (was : IsRecoverable found r.epoch r.state)
      → ((key : Key) → get r.entries key ≡ last_of key (counting was.reading)) → P was.reading r.epoch r.state mid)
      → (rest : IsResting clock image_at old) → HasNoRecords old → AreTold tells old found
      → RestsSince clock image_at from rest.point rest.pages rest.counted old → P is.reading r.epoch r.state old
  carry_saved P r old mid same is comes =
      let was : IsRecoverable found r.epoch r.state =
      record { reading = is.reading; is = is.is; epoch_is = is.epoch; state_is = is.state } in
      carry_rest (P is.reading r.epoch r.state) old mid same (λ rest none told since. comes rest none told since was is.entries)

  -- and of a fresh one
  pub carry_fresh : (P : Reading → ℕ → State → Parts D → Type 0) (r : Recovered) (old mid : Parts D) → mid ≡ old
      → (is : Recovers found r) → r.save.newest ≡ None
      → ((rest : IsResting clock image_at mid) → HasNoRecords mid → AreTold tells mid found
      → RestsSince clock image_at from rest.point rest.pages rest.counted mid
      → (was : IsRecoverable found 0 r.state) → ((key : Key) → get r.state key ≡ None) → P was.reading 0 r.state mid)
      → (rest : IsResting clock image_at old) → HasNoRecords old → AreTold tells old found
      → RestsSince clock image_at from rest.point rest.pages rest.counted old → P is.reading r.epoch r.state old
  carry_fresh P r old mid same is fresh comes rest none told since =
      let empty = recovers_fresh found r is fresh in
      let was : IsRecoverable found 0 r.state =
      record { reading = is.reading; is = is.is; epoch_is = sym empty.epoch ∙ is.epoch; state_is = is.state } in
      subst (λ e. P is.reading e r.state old) (sym empty.epoch)
      (carry_rest (P is.reading 0 r.state) old mid same
      (λ rest none told since. comes rest none told since was empty.empty) rest none told since)
