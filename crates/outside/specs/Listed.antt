-- Objects in memory whose calls of chosen numbers fail: which those are, and what is recorded of a call.
use Rattle.std.specs.Prelude.{◌≡◌, ◌⊎◌, ℕ, ◌+◌, ◌-◌, ◌^◌, min, List, [], ◌∷◌, ◌++◌, length, Bool, true, false, ◌==◌, Result, OnOk, OnErr}
use Rattle.std.specs.List.{list_any}
use Rattle.outside.specs.declared.call.Call.{Call}
use Rattle.outside.specs.declared.call.Call.TheVariants.{Len, Read, Write, Cut, Sync}
use Rattle.outside.specs.declared.call.Made.{Made}

-- the call of this number is to fail
abbrev pub is_listed : List ℕ → ℕ → Bool
is_listed fails number = list_any (λ listed. listed == number) fails

-- the count of a stream's calls grew by one, unless it stands at the last value that a u64 has
abbrev pub Counted : ℕ → ℕ → Type 0
Counted before now = now ≡ min (before + 1) (2 ^ 64 - 1)

-- a write of these bytes at this offset
abbrev pub IsWrite : ℕ → List ℕ → Call → Type 0
IsWrite at bytes (Write from kept) = (from ≡ at) × (kept.items ≡ bytes)
IsWrite at bytes Len = ⊥
IsWrite at bytes Read = ⊥
IsWrite at bytes (Cut len) = ⊥
IsWrite at bytes Sync = ⊥

-- the record of calls grew by just one, of this kind
abbrev pub GrewBy : (Call → Type 0) → Bool → List Made → List Made → Type 0
GrewBy IsCall failed old new = (call : Call) × IsCall call × (new ≡ old ++ record { call = call; failed = failed } ∷ [])

-- A call of a disk in memory, by the numbers that are to fail and the calls that were made. One that answers `Ok` isn't
-- listed, and is recorded as done. One that fails is listed, and is recorded as failed; or it wasn't made, for want of
-- memory or as no more calls can be counted, and isn't recorded.
pub record IsRecorded {T E : Type 0} (IsCall : Call → Type 0) (fails : List ℕ) (old new : List Made) (result : Result T E) : Type 0 where
  pub done : OnOk result ((is_listed fails (length old) ≡ false) × GrewBy IsCall false old new)
  pub failed : OnErr result (((is_listed fails (length old) ≡ true) × GrewBy IsCall true old new) ⊎ (new ≡ old))
