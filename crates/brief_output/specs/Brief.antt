-- What a run comes to in short.
use Rattle.std.specs.Prelude.{ℕ, Bool, true, false, List, [], ◌∷◌, ◌++◌, codes, decimal, fold, map, sum_by}
use Rattle.std.specs.Prelude.{Option, Some, None}
use Rattle.std.specs.FinMap.{entries}
use Rattle.std.specs.Option.{option_or}
use Rattle.serial_model.specs.State.{State}
use Rattle.text_output.specs.Output.{Bytes}
use Rattle.tx_script.specs.Draws.{commit_count}
use Rattle.tx_script.specs.Run.{Ran}
use Rattle.tx_script.specs.Text.{durable_text}
use Rattle.brief_output.specs.declared.tally.Tally.{Tally}

-- ---- what is counted

-- how many transactions of these rounds committed
abbrev pub commits_in : List Ran → ℕ
commits_in rans = sum_by (λ ran. commit_count ran.printed.outcomes) rans

-- the last epoch that one of the rounds made durable, if any did
abbrev pub last_durable : List Ran → Option ℕ
last_durable rans = fold (λ before durable. option_or durable before) None (map (λ ran. ran.printed.durable) rans)

-- there are rounds that were run
abbrev pub has_run : List Ran → Bool
has_run [] = false
has_run (ran ∷ rans) = true

-- all of that of the rounds that were run
abbrev pub tally_of : List Ran → Tally
tally_of rans = record { ran = has_run rans; commits = commits_in rans; durable = last_durable rans }

-- the sum of all values of a state
abbrev pub total_of : State → ℕ
total_of state = sum_by (λ e. e.1) (entries state)

-- ---- how it is told

-- the line of the commits
abbrev pub commits_line : ℕ → Bytes
commits_line commits = codes "commits " ++ decimal commits ++ 10 ∷ []

-- the line of the sum, where it is known
abbrev pub total_line : Option ℕ → Bytes
total_line None = []
total_line (Some total) = codes "total " ++ decimal total ++ 10 ∷ []

-- a tally, and a sum
abbrev pub tally_text : Tally → Option ℕ → Bytes
tally_text tally total = commits_line tally.commits ++ total_line total ++ durable_text tally.durable

-- what is told of these rounds in short, and of the sum of what is kept, where that can be read
abbrev pub brief_text : List Ran → Option ℕ → Bytes
brief_text rans total = tally_text (tally_of rans) total

-- what is printed of a run in short: nothing where no round was run
abbrev pub run_in_brief : List Ran → Option ℕ → Bytes
run_in_brief [] total = []
run_in_brief (ran ∷ rans) total = brief_text (ran ∷ rans) total
