-- The generator, and the script that it makes.
use Rattle.std.specs.Prelude.{ℕ, zero, suc, ◌+◌, ◌*◌, ◌/◌, ◌%◌, ◌^◌, ◌++◌, codes, decimal, flat_map}
use Rattle.std.specs.List.{range_with_len}
use Rattle.text_output.specs.Output.{Bytes}

-- ---- draws

-- the state behind this one
abbrev pub next_state : ℕ → ℕ
next_state state = (1103515245 * state + 12345) % 2 ^ 31

-- what a draw that ended in this state gives
abbrev pub drawn : ℕ → ℕ
drawn state = state / 65536

-- the state after so many draws, which begins as the seed
abbrev pub state_after : ℕ → ℕ → ℕ
state_after seed zero = seed
state_after seed (suc n) = next_state (state_after seed n)

-- the draw of this index, counted from 0
abbrev pub draw : ℕ → ℕ → ℕ
draw seed index = drawn (state_after seed (suc index))

-- ---- the script

-- a worker's line, which adds 1 to a key of the array and to one of the tree
abbrev pub line_text : ℕ → ℕ → ℕ → Bytes
line_text worker array_key tree_key =
    decimal worker ++ codes " a 1 " ++ decimal array_key ++ codes " 1; a 2 " ++ decimal tree_key ++ codes " 1\n"

-- The line of this index, counted from 0: the workers take turns, and each line takes two draws.
abbrev pub made_line : ℕ → ℕ → ℕ → Bytes
made_line seed workers line =
    line_text (line % workers) (draw seed (2 * line) % 1024) (draw seed (2 * line + 1) % 512)

-- two declarations, and so many lines
abbrev pub script_text : ℕ → ℕ → ℕ → Bytes
script_text seed workers lines =
    codes "array 1 1024\ntree 2\n" ++ flat_map (made_line seed workers) (range_with_len 0 lines)
