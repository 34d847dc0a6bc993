-- The script that is made, of which the printed text is the text.
use Rattle.std.specs.Prelude.{ℕ, ◌*◌, ◌+◌, ◌%◌, [], ◌∷◌, map}
use Rattle.std.specs.List.{range_with_len}
use Rattle.serial_model.specs.declared.decl.Decl.TheVariants.{Array, Tree}
use Rattle.serial_model.specs.declared.key.Key.{Key}
use Rattle.serial_model.specs.declared.op.Op.TheVariants.{Add}
use Rattle.script_grammar.specs.Script.{Line, Script, Worker}
use Rattle.script_maker.specs.Generator.{draw}

-- a key of a storage
abbrev pub key_of : ℕ → ℕ → Key
key_of storage key = record { storage = storage; key = key }

-- The transaction of the line of this index, counted from 0: it adds 1 to a value of the array and to one of the tree.
abbrev pub transaction : ℕ → ℕ → ℕ → Line
transaction seed workers line = Worker (line % workers)
    (Add (key_of 1 (draw seed (2 * line) % 1024)) 1 ∷ Add (key_of 2 (draw seed (2 * line + 1) % 512)) 1 ∷ [])

-- an array and a tree, and one round of so many transactions
abbrev pub script_of : ℕ → ℕ → ℕ → Script
script_of seed workers lines = record {
  decls = Array 1 1024 ∷ Tree 2 ∷ [];
  rounds = record { lines = map (transaction seed workers) (range_with_len 0 lines) } ∷ [];
}
