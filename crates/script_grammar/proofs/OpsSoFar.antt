-- Reading operations one after the other, as a loop does.
use Rattle.std.proofs.Common.{◌≡◌, ◌≤◌, List, [], ◌++◌, length, Option, Some, None, refl, arith}
use Rattle.serial_model.specs.declared.op.Op.{Op}
use Rattle.script_grammar.specs.Script.{Bytes}
use Rattle.script_grammar.specs.Words.{◌>>=◌, parts}
use Rattle.script_grammar.specs.Reading.{ops_in}

-- what was read before, and what is still read
abbrev pub behind : List Op → Option (List Op) → Option (List Op)
behind front found = found >>= (λ ops. Some (front ++ ops))

-- at most 16 operations were read, and with those of the rest they are the line's
pub record AreOpsSoFar (bytes : Bytes) (front : List Op) (rest : Bytes) : Type 0 where
  pub few : length front ≤ 16
  pub whole : behind front (ops_in (parts rest)) ≡ ops_in (parts bytes)

-- nothing before
behind_none : (found : Option (List Op)) → behind [] found ≡ found
behind_none (Some ops) = refl
behind_none None = refl

-- none before the first
pub none_yet : (bytes : Bytes) → AreOpsSoFar bytes [] bytes
none_yet bytes = record { few = omega arith; whole = behind_none (ops_in (parts bytes)) }
