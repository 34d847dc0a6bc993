-- How the lines of a script lie in memory: one list of operations, spans of it for the lines, and stretches of the
-- lines for the rounds.
use Rattle.std.specs.Prelude.{◌+◌, ◌-◌, ◌≤◌, List, map, take, drop, length, ⊤}
use Rattle.std.specs.List.{AllByRecursion}
use Rattle.serial_model.specs.declared.op.Op.{Op}
use Rattle.script_grammar.specs.Script.{Line, Worker, Keeper, Round}
use Rattle.script_grammar.specs.declared.lines.Line as lent
use Rattle.script_grammar.specs.declared.lines.Line.TheVariants as lents
use Rattle.script_grammar.specs.declared.lines.Span.{Span}
use Rattle.script_grammar.specs.declared.lines.Span.TheVariants as spans
use Rattle.script_grammar.specs.declared.rounds.Stretch.{Stretch}

-- the line that is handed out, with its operations lent
abbrev pub line_lent : lent.Line → Line
line_lent (lents.Worker worker ops) = Worker worker ops.now
line_lent (lents.Keeper line) = Keeper line

-- the line of a span
abbrev pub line_in : List Op → Span → Line
line_in ops (spans.Worker worker count start) = Worker worker (take count (drop start ops))
line_in ops (spans.Keeper line) = Keeper line

-- the lines of all spans
abbrev pub lines_in : List Op → List Span → List Line
lines_in ops spans = map (line_in ops) spans

-- a worker's span lies within the operations, and is one of at most 16
abbrev pub IsWithin : List Op → Span → Type 0
IsWithin ops (spans.Worker worker count start) = (start + count ≤ length ops) × (count ≤ 16)
IsWithin ops (spans.Keeper line) = ⊤

-- the same of all spans
abbrev pub AreWithin : List Op → List Span → Type 0
AreWithin ops spans = AllByRecursion (IsWithin ops) spans

-- the round of these lines
abbrev pub round_in : List Line → Stretch → Round
round_in lines stretch = record { lines = take (stretch.end - stretch.start) (drop stretch.start lines) }

-- the rounds of all stretches
abbrev pub rounds_in : List Line → List Stretch → List Round
rounds_in lines stretches = map (round_in lines) stretches

-- the stretch lies within the lines
abbrev pub IsRoundWithin : List Line → Stretch → Type 0
IsRoundWithin lines stretch = (stretch.start ≤ stretch.end) × (stretch.end ≤ length lines)

-- the same of all stretches
abbrev pub AreRoundsWithin : List Line → List Stretch → Type 0
AreRoundsWithin lines stretches = AllByRecursion (IsRoundWithin lines) stretches

-- the rounds that a join ended, and the lines after them
pub record RoundsSoFar : Type 0 where
  pub joined : List Round
  pub rest : List Line
