-- What lines of the maintenance thread add to the counts of drops.
use Rattle.std.proofs.Common.{◌≡◌, ◌∙◌, ◌++◌, sym, ap, List, [], map, append_assoc}
use Rattle.std.proofs.lemmas.List.{append-nil, map-append}
use Rattle.engine_pages.specs.declared.view.Dropped.{Dropped as Counts}
use Rattle.tx_script.specs.CausedBeside.{drops_on, drops_told}
use Rattle.tx_script.specs.Run.{Dropped}
use Rattle.tx_script.specs.declared.answer.Answer.{Answer}
use Rattle.round_engine.specs.Drops.{counts_of}

-- answers that tell no drop
pub nothing_dropped : (said : List Answer) (was is : List Counts) → drops_told said ≡ [] → is ≡ was
    → is ≡ was ++ map counts_of (drops_told said)
nothing_dropped said was is none same =
    same ∙ sym (append-nil was) ∙ ap (λ (l : List Dropped). was ++ map counts_of l) (sym none)

-- some answers, and then more
pub dropped_then : (said told : List Answer) (was mid is : List Counts)
    → mid ≡ was ++ map counts_of (drops_told said) → is ≡ mid ++ map counts_of (drops_told told)
    → is ≡ was ++ map counts_of (drops_told (said ++ told))
dropped_then said told was mid is first next =
    next ∙ ap (λ (l : List Counts). l ++ map counts_of (drops_told told)) first
    ∙ append_assoc was (map counts_of (drops_told said)) (map counts_of (drops_told told))
    ∙ ap (λ (l : List Counts). was ++ l) (sym (map-append counts_of (drops_told said) (drops_told told)))
    ∙ ap (λ (l : List Dropped). was ++ map counts_of l) (sym (drops_on said told))
