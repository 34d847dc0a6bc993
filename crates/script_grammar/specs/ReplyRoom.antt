-- How many words the replies of a line take at most.
use Rattle.std.specs.Prelude.{ℕ, ◌+◌, List, [], ◌∷◌, Option, Some, None}
use Rattle.serial_model.specs.declared.op.Op.{Op}
use Rattle.serial_model.specs.declared.op.Op.TheVariants.{Read, Write, Remove, Add, Take, Scan}
use Rattle.script_grammar.specs.Script.{Line, Worker, Keeper}

-- The words that an operation's reply takes at most: a value has one or two; the 16 rows of a scan have two each,
-- behind a mark and their count.
abbrev pub words_for : Op → ℕ
words_for (Read k) = 2
words_for (Write k value) = 0
words_for (Remove k) = 0
words_for (Add k amount) = 0
words_for (Take k amount) = 0
words_for (Scan storage low high) = 34

-- those of a line's replies
abbrev pub most_words : List Op → ℕ
most_words [] = 0
most_words (op ∷ ops) = words_for op + most_words ops

-- the worker of a line, if it is one's, and the words of its replies
abbrev pub words_asked : Line → Option (ℕ × ℕ)
words_asked (Worker worker ops) = Some (worker, most_words ops)
words_asked (Keeper line) = None
