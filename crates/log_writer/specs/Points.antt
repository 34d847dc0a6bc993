-- What a savepoint says, apart from its sequence.
use Rattle.std.specs.Prelude.{◌<◌, ◌≤◌, ◌+◌, ◌^◌, ℕ, Option, Some, None}
use Rattle.std.proofs.Common.{lit<, lit≤}
use Rattle.wire_form.specs.declared.savepoint.Savepoint.{Savepoint}
use Rattle.wire_form.specs.Savepoint.{IsSavepoint}
use Rattle.log_writer.specs.declared.saved.Saved.{Saved}

-- the savepoint of this sequence with these fields
abbrev pub point_of : ℕ → Saved → Savepoint
point_of sequence s = record { sequence = sequence; epoch = s.epoch; catalogue = s.catalogue; count = s.count; lengths = s.lengths }

-- the fields of a savepoint
abbrev pub saved_of : Savepoint → Saved
saved_of p = record { epoch = p.epoch; catalogue = p.catalogue; count = p.count; lengths = p.lengths }

-- the fields are those of a savepoint, whatever its sequence: of the first one, for example
abbrev pub IsSaved : Saved → Type 0
IsSaved s = IsSavepoint (point_of 1 s)

-- the sequence of the newest savepoint; it is 0 where there is none
abbrev pub sequence_of : Option Savepoint → ℕ
sequence_of None = 0
sequence_of (Some p) = p.sequence

-- the store of savepoints as its users see it
pub record SaveState : Type 0 where
  -- the newest savepoint that it gave or stored
  pub newest : Option Savepoint
  -- the device's count of faults as a store answered that it failed
  pub down : Option ℕ

-- the savepoint that is stored next
abbrev pub next_point : SaveState → Saved → Savepoint
next_point state saved = point_of (sequence_of state.newest + 1) saved

-- the fields of a savepoint are those of one of any sequence
pub saved_at : (sequence : ℕ) (s : Saved) → 1 ≤ sequence → sequence < 2 ^ 63 → IsSaved s → IsSavepoint (point_of sequence s)
saved_at sequence s first last is = record {
  first = first;
  last = last;
  epoch = is.epoch;
  catalogue = is.catalogue;
  newest = is.newest;
  count = is.count;
  banks = is.banks;
  lengths = is.lengths;
}

-- and what a savepoint says is such
pub point_saved : (p : Savepoint) → IsSavepoint p → IsSaved (saved_of p)
point_saved p is = record {
  first = lit≤ tt;
  last = lit< tt;
  epoch = is.epoch;
  catalogue = is.catalogue;
  newest = is.newest;
  count = is.count;
  banks = is.banks;
  lengths = is.lengths;
}
