-- All sets of a transaction.
use Rattle.std.specs.Prelude.{◌≡◌, ℕ, ◌+◌, Bool, [], length, nat_lt}
use Rattle.tx_sets.specs.declared.sets.Sets.{Sets}

-- nothing was read, written, met or entered yet
pub record AreEmpty (sets : Sets) : Type 0 where
  pub reads : sets.reads ≡ []
  pub writes : sets.writes ≡ []
  pub pointers : sets.pointers ≡ []
  pub holds : sets.holds ≡ []
  pub headers : sets.headers ≡ []

-- records and headers that a transaction keeps are together at most so many
abbrev pub most_reads : ℕ
most_reads = 256

-- one more of them may be kept
abbrev pub has_read_room : Sets → Bool
has_read_room sets = nat_lt (length sets.reads + length sets.headers) most_reads
