-- Which devices failed in a glean, and which of them is told first.
use Rattle.std.proofs.Common.{◌≡◌, ◌+◌, ◌∷◌, inl, inr, sym, ap, subst, refl, ℕ, List, [], true, cond}
use Rattle.std.proofs.Common.{Option, Some, None, arith}
use Rattle.std.specs.Prelude.{is_some, option_to_list, Result}
use Rattle.std.specs.List.{Contains}
use Rattle.std.proofs.lemmas.List.Elements.{Contains-append_left, Contains-append_right}
use Rattle.std.proofs.lemmas.Option.{same_Some}
use Rattle.lists.specs.Elements.{in_cases, in_head, in_none}
use Rattle.lists.specs.declared.memory.OrMemory.{OrMemory}
use Rattle.outside.specs.declared.device.Device.{Device}
use Rattle.outside.specs.declared.device.Device.TheVariants as devices
use Rattle.gleaner.specs.Glean.{IsLower}
use Rattle.gleaner.specs.declared.gleaning.GleanFault.{GleanFault}
use Rattle.gleaner.specs.declared.gleaning.Gleaned.{Gleaned}
use Rattle.tx_script.specs.declared.answer.Answer.TheVariants as answers
use Rattle.round_engine.specs.Ends.{earlier, first_device}
use Rattle.round_engine.specs.Gleans.{device_of_glean, devices_of_glean}
use Rattle.round_engine.specs.Keeping.{refusal_beside, refusal_told}
use Rattle.round_engine.specs.declared.report.End.{End}
use Rattle.round_engine.specs.declared.report.End.TheVariants as ends
use Rattle.round_engine.proofs.Ended.{at_most_test}

-- a thing of a list of one, if there is one
pub in_option : {X : Type 0} (x : Option X) (y : X) → Contains (option_to_list x) y → x ≡ Some y
in_option None y has = absurd (in_none y has)
in_option (Some z) y has = elim (in_cases y z [] has) [
  | inl same ↦ ap Some same
  | inr none ↦ absurd (in_none y none)
]

pub option_in : {X : Type 0} (x : Option X) (y : X) → x ≡ Some y → Contains (option_to_list x) y
option_in None y is = absurd cc
option_in (Some z) y is = subst (Contains (z ∷ [])) (same_Some z y is) (in_head z [])

-- nothing is in a list that is empty
pub nothing_in : {X : Type 0} (l : List X) → l ≡ [] → (x : X) → Contains l x → ⊥
nothing_in l none x has = in_none x (subst (λ k. Contains k x) none has)

-- what can't be some thing is none
pub none_beside : (b : Option Device) → ((d : Device) → b ≡ Some d → ⊥) → b ≡ None
none_beside None never = refl
none_beside (Some d) never = absurd (never d refl)

-- ---- the devices of a glean

pub told_in : (result : Result Gleaned (OrMemory GleanFault)) (beside : Option Device) (device : Device)
    → device_of_glean result ≡ Some device → Contains (devices_of_glean result beside) device
told_in result beside device is = Contains-append_left (option_to_list (device_of_glean result)) (option_to_list beside)
    device (option_in (device_of_glean result) device is)

pub beside_in : (result : Result Gleaned (OrMemory GleanFault)) (beside : Option Device) (device : Device)
    → beside ≡ Some device → Contains (devices_of_glean result beside) device
beside_in result beside device is = Contains-append_right (option_to_list (device_of_glean result)) (option_to_list beside)
    device (option_in beside device is)

-- ---- which is told

-- a lower log file is told before another
lower_first : (device other : Device) → IsLower device other → earlier device (Some other) ≡ device
lower_first (devices.Bank n) (devices.Bank m) lower =
    ap (λ b. cond b (devices.Bank n) (devices.Bank m)) (at_most_test (n + 2) (m + 2) (omega (arith, lower)))
lower_first (devices.Bank n) devices.Save lower = absurd lower
lower_first (devices.Bank n) devices.Snaps lower = absurd lower
lower_first devices.Save other lower = absurd lower
lower_first devices.Snaps other lower = absurd lower

-- what a device is told as, with one that failed beside it
pub device_told : (b : Option Device) (device : Device) → ((d : Device) → b ≡ Some d → IsLower device d)
    → refusal_beside b (Some (ends.Device device))
    ≡ refusal_told None (first_device (device ∷ option_to_list b)) None (answers.Device ∷ [])
device_told None device lower = refl
device_told (Some d) device lower = sym (ap (λ x. Some (ends.Device x)) (lower_first device d (lower d refl)))

-- what damage is told as
pub damage_beside : (b : Option Device) (device : Device) (at : ℕ) → refusal_beside b (Some (ends.Damaged device at))
    ≡ refusal_told None (first_device (option_to_list b)) (Some (device, at)) (answers.Damaged ∷ [])
damage_beside None device at = refl
damage_beside (Some d) device at = refl

-- what want of memory is told as
pub memory_beside : (b : Option Device) → refusal_beside b (Some ends.Memory)
    ≡ refusal_told None (first_device (option_to_list b)) None (answers.Memory ∷ [])
memory_beside None = refl
memory_beside (Some d) = refl

-- a refusal stays one
pub some_beside : (b : Option Device) (end : End) → is_some (refusal_beside b (Some end)) ≡ true
some_beside None end = refl
some_beside (Some d) (ends.Device told) = refl
some_beside (Some d) (ends.Damaged device at) = refl
some_beside (Some d) (ends.Limit name number) = refl
some_beside (Some d) ends.Memory = refl
