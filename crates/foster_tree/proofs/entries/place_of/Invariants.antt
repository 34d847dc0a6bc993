use Rattle.std.proofs.Common.{◌≡◌, ℕ, ◌<◌, List, get_or}
use Rattle.foster_tree.specs.declared.entries.Entry.{Entry}
use Rattle.foster_tree.specs.Filling.{no_entry}
use Rattle.foster_tree.proofs.entries.place_of.Given as goal

-- none of the first entries has the key
pub record HasNone (entries : List Entry) (key i : ℕ) : Type 0 where
  pub none : (j : ℕ) → j < i → (get_or entries j no_entry).key ≡ key → ⊥

abbrev pub invariant-loop-i : goal.invariant-loop-i
invariant-loop-i l = HasNone l.entries l.key l.i
