-- From texts on their way to what the sink holds.
use Rattle.std.proofs.Common.{◌≡◌, ◌∙◌, sym, ap, subst, [], ◌++◌, Option, Result, Ok, Err}
use Rattle.std.specs.Io.KnownBytes.{Appends}
use Rattle.outside.specs.Stream.{TakesPrefix}
use Rattle.std.proofs.lemmas.List.{append-nil}
use Rattle.text_output.specs.Output.{Bytes, Output, Adds, Breaks, Prints}
use Rattle.program_calls.specs.declared.ending.Ending.{Ending}
use Rattle.program_calls.specs.declared.ending.Ending.TheVariants.{Finished, NoScript, Shape, Usage, ReadFault, NoDevice, Damaged, AtLimit, NoMemory, NoSnapshot}
use Rattle.program_calls.specs.Ending.{SinkHolds, status_of}

-- ---- what the sink holds

-- a fault within a text, while nothing waited before it
pub prefix_from : (old new : Output) (text : Bytes) → old.waiting ≡ [] → Breaks old new text → TakesPrefix old.held new.held text
prefix_from old new text empty breaks = let p = breaks.prefix in (p.0, p.1, ap (λ w. w ++ text) (sym empty) ∙ p.2, p.3)

-- a whole text, where nothing waited before it and nothing does after it
pub appends_from : (old new : Output) (text : Bytes) → old.waiting ≡ [] → new.waiting ≡ [] → Adds old new text → Appends old.held new.held text
appends_from old new text empty still adds =
    let all : adds.out ≡ text = sym (append-nil adds.out) ∙ ap (λ w. adds.out ++ w) (sym still) ∙ adds.whole ∙ ap (λ w. w ++ text) empty in
    subst (λ t. Appends old.held new.held t) all adds.written

-- a whole text, at the status of an ending, which is never 4
pub holds_all : (ending : Ending) (before after : Option Bytes) (text : Bytes) → Appends before after text → SinkHolds (status_of ending) before after text
holds_all Finished before after text appends = appends
holds_all (NoScript fault) before after text appends = appends
holds_all (Shape declared others) before after text appends = appends
holds_all Usage before after text appends = appends
holds_all ReadFault before after text appends = appends
holds_all (NoDevice device) before after text appends = appends
holds_all (Damaged device at) before after text appends = appends
holds_all (AtLimit name) before after text appends = appends
holds_all NoMemory before after text appends = appends
holds_all (NoSnapshot epoch) before after text appends = appends

-- a text is printed to the same sink
pub same_printed : {T E : Type 0} (old new : Output) (text : Bytes) (r : Result T E) → Prints old new text r → new.sink ≡ old.sink
same_printed old new text (Ok x) prints = prints.same
same_printed old new text (Err e) prints = prints.same
