-- What all images of a moment begin with, and what the calls of a disk leave of it.
use Rattle.std.specs.Prelude.{◌≡◌, ◌≤◌, ℕ, List, length, take}
use Rattle.std.proofs.Common.{inl, inr, ap, sym, ◌∙◌, arith}
use Rattle.std.proofs.lemmas.Bool.{cases_lt}
use Rattle.std.proofs.lemmas.List.{take-take}
use Rattle.lists.specs.Fronts.{IsFront, front_then}
use Rattle.outside.specs.Disk.{Torn, Same, Goes}

-- all images of a moment begin with these bytes
abbrev pub AllBegin : (List ℕ → Type 0) → List ℕ → Type 0
AllBegin images front = (c : List ℕ) → images c → IsFront front c

-- all images of a moment begin with so many bytes, the same ones in each
pub record Alike (images : List ℕ → Type 0) (count : ℕ) : Type 0 where
  pub front : List ℕ
  pub size : length front ≡ count
  pub same : AllBegin images front

-- whatever all images of a moment begin with, these bytes begin with too
abbrev pub AgreesOn : (List ℕ → Type 0) → List ℕ → Type 0
AgreesOn images made = (front : List ℕ) → AllBegin images front → IsFront front made

-- every image since this moment begins with these bytes
abbrev pub KeepsSince : {D : Type 0} → (clock : D → ℕ) → (image_at : D → ℕ → List ℕ → Type 0) → D → ℕ → List ℕ → Type 0
KeepsSince clock image_at disk since made = (m : ℕ) (c : List ℕ) → since ≤ m → m ≤ clock disk → image_at disk m c → IsFront made c

-- and with less than what they begin with
pub begins_less : (images : List ℕ → Type 0) (less made : List ℕ) → AllBegin images made → IsFront less made → AllBegin images less
begins_less images less made all front c image = front_then less made c front (all c image)

-- what all images begin with, one of them does
pub agrees_by : (images : List ℕ → Type 0) (made : List ℕ) → images made → AgreesOn images made
agrees_by images made image front all = all made image

-- and what begins with that one
pub agrees_more : (images : List ℕ → Type 0) (made more : List ℕ) → AgreesOn images made → IsFront made more → AgreesOn images more
agrees_more images made more agrees front_is front all = front_then front made more (agrees front all) front_is

-- a write behind some bytes leaves what is before it
pub begins_torn : (size at count : ℕ) (old new : List ℕ) → size ≤ at → Torn at count old new → take size new ≡ take size old
begins_torn size at count old new within torn =
    sym (take-take size at new within) ∙ ap (take size) torn.before ∙ take-take size at old within

module _ {D : Type 0} {clock : D → ℕ} {image_at : D → ℕ → List ℕ → Type 0} where
  -- a call whose step leaves those bytes
  pub keeps_call : {step : List ℕ → List ℕ → Type 0} {old new : D} {since : ℕ} {made : List ℕ} → ((d c : List ℕ) → step d c → take (length made) c ≡ take (length made) d)
      → since ≤ clock old → Goes clock image_at step old new → KeepsSince clock image_at old since made → KeepsSince clock image_at new since made
  keeps_call {old = old} {made = made} same begun goes keeps m c from to left = elim (cases_lt (clock old) m) [
    | inl past ↦
        let was = goes.from m c past to left in
        same was.0 c was.2 ∙ keeps (clock old) was.0 begun (omega arith) was.1
    | inr within ↦ keeps m c from within (goes.no_new m c within left)
  ]

  -- a write behind the bytes, done or in part
  pub keeps_torn : {at count : ℕ} {old new : D} {since : ℕ} {made : List ℕ} → length made ≤ at → since ≤ clock old
      → Goes clock image_at (Torn at count) old new → KeepsSince clock image_at old since made → KeepsSince clock image_at new since made
  keeps_torn {at = at} {count = count} {made = made} within =
      keeps_call (λ d c torn. begins_torn (length made) at count d c within torn)

  -- a call that changes nothing
  pub keeps_same : {old new : D} {since : ℕ} {made : List ℕ} → since ≤ clock old
      → Goes clock image_at Same old new → KeepsSince clock image_at old since made → KeepsSince clock image_at new since made
  keeps_same {made = made} = keeps_call (λ d c same. ap (take (length made)) (sym same))
