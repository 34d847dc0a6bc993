-- Pages that are put in one after another: each holds a slot more.
use Rattle.std.specs.Prelude.{ℕ, zero, suc, ◌+◌, Bool, true, false, List}
use Rattle.drop_core.specs.Table.{has_slot}

-- 1 for a slot that isn't held
abbrev pub is_free : Bool → ℕ
is_free true = 0
is_free false = 1

-- how many of so many slots aren't held
abbrev pub unheld : ℕ → List ℕ → ℕ
unheld zero holds = 0
unheld (suc n) holds = is_free (has_slot holds n) + unheld n holds
