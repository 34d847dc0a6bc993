-- The lines that a run prints.
use Rattle.std.specs.Prelude.{ℕ, ◌+◌, List, [], ◌∷◌, ◌++◌, codes, decimal, flat_map, Option, Some, None}
use Rattle.serial_model.specs.declared.number.Number.{Number}
use Rattle.serial_model.specs.declared.reply.Reply.{Reply}
use Rattle.serial_model.specs.declared.reply.Reply.TheVariants.{Value, Absent, Rows}
use Rattle.serial_model.specs.declared.reply.Verdict.{Verdict}
use Rattle.serial_model.specs.declared.reply.Verdict.TheVariants.{Done, Short, Over}
use Rattle.text_output.specs.Output.{Bytes}
use Rattle.tx_script.specs.declared.answer.Answer.{Answer}
use Rattle.tx_script.specs.declared.answer.Answer.TheVariants as answers
use Rattle.tx_script.specs.declared.outcome.Outcome.{Outcome}
use Rattle.tx_script.specs.declared.outcome.Outcome.TheVariants.{Committed, Conflict, Full, Wide, Limit, Unrun}
use Rattle.tx_script.specs.Run.{Ran}

-- ---- outcomes of workers' lines

-- a key and its value
abbrev pub pair_text : ℕ × ℕ → Bytes
pair_text p = decimal p.0 ++ codes "=" ++ decimal p.1

-- each pair behind a comma
abbrev pub more_rows_text : List (ℕ × ℕ) → Bytes
more_rows_text pairs = flat_map (λ p. codes "," ++ pair_text p) pairs

-- the pairs joined by commas, or a dot where there is none
abbrev pub rows_text : List (ℕ × ℕ) → Bytes
rows_text [] = codes "."
rows_text (p ∷ ps) = pair_text p ++ more_rows_text ps

-- the reply of a read or a scan
abbrev pub reply_text : Reply → Bytes
reply_text (Value n) = decimal n
reply_text Absent = codes "-"
reply_text (Rows rows) = rows_text rows

-- the word for how a transaction ended
abbrev pub verdict_text : Verdict → Bytes
verdict_text Done = codes "ok"
verdict_text Short = codes "short"
verdict_text Over = codes "over"

-- a commit number
abbrev pub number_text : Number → Bytes
number_text n = decimal n.epoch ++ codes ":" ++ decimal n.draw

-- each reply behind a space
abbrev pub replies_text : List Reply → Bytes
replies_text replies = flat_map (λ reply. codes " " ++ reply_text reply) replies

-- what is told of an outcome
abbrev pub outcome_text : Outcome → Bytes
outcome_text (Committed verdict number replies) =
    verdict_text verdict ++ codes " " ++ number_text number ++ replies_text replies
outcome_text Conflict = codes "conflict"
outcome_text Full = codes "full"
outcome_text Wide = codes "wide"
outcome_text Limit = codes "limit"
outcome_text Unrun = codes "unrun"

-- a worker's outcome under its number and the line's, which counts from 0 in each round
abbrev pub outcome_line : ℕ → ℕ → Outcome → Bytes
outcome_line worker line outcome =
    decimal worker ++ codes "." ++ decimal line ++ codes " " ++ outcome_text outcome ++ 10 ∷ []

-- the texts of items that are counted from n on, one after another
abbrev pub texts_from : {X : Type 0} → (ℕ → X → Bytes) → ℕ → List X → Bytes
texts_from text n [] = []
texts_from text n (x ∷ xs) = text n x ++ texts_from text (n + 1) xs

-- the lines of a worker's outcomes
abbrev pub worker_text : ℕ → List Outcome → Bytes
worker_text worker outcomes = texts_from (outcome_line worker) 0 outcomes

-- worker 0's lines, then worker 1's and on
abbrev pub workers_text : List (List Outcome) → Bytes
workers_text outcomes = texts_from worker_text 0 outcomes

-- ---- answers to keeper lines

-- what is told of an answer
abbrev pub answer_text : Answer → Bytes
answer_text (answers.Epoch epoch) = codes "epoch " ++ decimal epoch
answer_text (answers.Save epoch) = codes "save " ++ decimal epoch
answer_text (answers.Snap epoch new) = codes "snap " ++ decimal epoch ++ codes " new " ++ decimal new
answer_text answers.Empty = codes "none"
answer_text answers.SnapFull = codes "snap-full"
answer_text answers.Deep = codes "deep"
answer_text (answers.Drop dropped kept) = codes "drop " ++ decimal dropped ++ codes " kept " ++ decimal kept
answer_text answers.Limit = codes "limit"
answer_text answers.Device = codes "device"
answer_text answers.Damaged = codes "damaged"
answer_text answers.Memory = codes "memory"
answer_text answers.Unrun = codes "unrun"

-- an answer under its line's number, which counts the keeper lines from 0 in each round
abbrev pub answer_line : ℕ → Answer → Bytes
answer_line line answer = codes "k." ++ decimal line ++ codes " " ++ answer_text answer ++ 10 ∷ []

-- the lines of a round's answers
abbrev pub answers_text : List Answer → Bytes
answers_text answers = texts_from answer_line 0 answers

-- ---- rounds

-- the epoch that was made durable, if one was
abbrev pub durable_text : Option ℕ → Bytes
durable_text None = []
durable_text (Some epoch) = codes "durable " ++ decimal epoch ++ 10 ∷ []

-- a round's lines: the workers', then the keeper's, then the durable epoch
abbrev pub lines_text : List (List Outcome) → List Answer → Option ℕ → Bytes
lines_text outcomes answers durable = workers_text outcomes ++ answers_text answers ++ durable_text durable

-- the lines of a round that was run
abbrev pub round_text : Ran → Bytes
round_text ran = lines_text ran.printed.outcomes ran.printed.answers ran.printed.durable

-- the lines of the rounds, in their order
abbrev pub run_text : List Ran → Bytes
run_text run = flat_map round_text run
