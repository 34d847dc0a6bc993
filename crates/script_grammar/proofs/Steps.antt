-- A worker's line more, by what was found in it.
use Rattle.std.proofs.Common.{◌≡◌, ℕ, ◌≤◌, Bool, true, false, List, [], ◌∷◌, ◌++◌, length, Some, None, refl}
use Rattle.serial_model.specs.declared.op.Op.{Op}
use Rattle.script_grammar.specs.Script.{Bytes, Worker}
use Rattle.script_grammar.specs.Reading.{Parts, transaction_at, begins_keeper, may_run, with_line}
use Rattle.script_grammar.proofs.LineTexts.{of_worker, transaction_takes}

-- a line that may not run is refused
pub with_line-None : (p : Parts) (line : Bytes) (worker : ℕ) (ops : List Op) → begins_keeper line ≡ false → transaction_at line ≡ Some (Worker worker ops) → may_run p ops ≡ false → with_line p line ≡ None
unfolding with_line
with_line-None p line worker ops other e test = rw (of_worker line (Some (Worker worker ops)) other e, test) refl

-- a test of operations is one of the same operations elsewhere
pub may_run_at : (p : Parts) (passed : Bool) (ops others : List Op) → passed ≡ may_run p others → others ≡ ops → passed ≡ true → may_run p ops ≡ true
may_run_at p passed ops others e f g = cc

-- a line that may run is one more
pub with_line-Some : (p : Parts) (line : Bytes) (worker : ℕ) (ops : List Op) → begins_keeper line ≡ false → transaction_at line ≡ Some (Worker worker ops) → may_run p ops ≡ true
    → with_line p line ≡ Some (record p { lines = p.lines ++ Worker worker ops ∷ [] })
unfolding with_line
with_line-Some p line worker ops other e test = rw (of_worker line (Some (Worker worker ops)) other e, test) refl

-- operations that are read are at most 16
pub few_ops : (line : Bytes) (worker : ℕ) (ops : List Op) → transaction_at line ≡ Some (Worker worker ops) → length ops ≤ 16
few_ops line worker ops e = let t = transaction_takes line (Worker worker ops) e in t.1.1.few
