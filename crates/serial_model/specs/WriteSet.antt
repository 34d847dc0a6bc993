-- The write set of a transaction: the keys that it writes, alone on a state.
use Rattle.std.specs.Prelude.{List, [], ◌∷◌, ◌++◌, option_to_list}
use Rattle.std.specs.Option.{option_map}
use Rattle.std.specs.FinMap.{get}
use Rattle.serial_model.specs.State.{State}
use Rattle.serial_model.specs.Step.{Move, Goes, Ends, move_of, step}
use Rattle.serial_model.specs.declared.decl.Decl.{Decl}
use Rattle.serial_model.specs.declared.key.Key.{Key}
use Rattle.serial_model.specs.declared.op.Op.{Op}
use Rattle.serial_model.specs.declared.op.Op.TheVariants.{Read, Write, Remove, Add, Take, Scan}
use Rattle.serial_model.specs.declared.reply.Verdict.{Verdict}
use Rattle.serial_model.specs.declared.reply.Verdict.TheVariants.{Done, Short, Over}

-- The key that an operation writes over the state with the transaction's own writes, if it writes one. A write of the
-- value that is there is one; the removal of an absent key is none, it only reads that nothing is there.
abbrev pub written_by : State → Op → List Key
written_by s (Read k) = []
written_by s (Write k v) = k ∷ []
written_by s (Remove k) = option_to_list (option_map (λ v. k) (get s k))
written_by s (Add k v) = k ∷ []
written_by s (Take k v) = k ∷ []
written_by s (Scan storage low high) = []

-- an operation's keys, and then those of the operations behind it, if it doesn't end the transaction
abbrev pub written_then : List Key → Move → (State → List Key) → List Key
written_then keys (Goes reply s) rest = keys ++ rest s
written_then keys (Ends verdict) rest = []

-- the keys that operations write, one after another over the state
abbrev pub written_from : List Decl → List Op → State → List Key
written_from decls [] s = []
written_from decls (op ∷ ops) s = written_then (written_by s op) (move_of decls s op) (written_from decls ops)

-- the writes of a transaction that ended so are kept, or dropped
abbrev pub kept_by : Verdict → List Key → List Key
kept_by Done keys = keys
kept_by Short keys = []
kept_by Over keys = []

-- The write set of a transaction alone on a state: the keys that it writes, none where it ends short or over.
abbrev pub write_set : List Decl → State → List Op → List Key
write_set decls s ops = kept_by (step decls s ops).verdict (written_from decls ops s)
