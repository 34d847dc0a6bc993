-- What must have happened beside a round's outcomes and answers: the marks of its workers as each of its lines began,
-- and those that each save saw, which may stand beside running workers.
use Rattle.std.specs.Prelude.{◌≡◌, ◌+◌, ℕ, List, [], ◌∷◌, ◌++◌, length, Option, Some, slice_get}
use Rattle.std.proofs.Common.{ap, refl}
use Rattle.script_grammar.specs.declared.lines.KeeperLine.{KeeperLine}
use Rattle.script_grammar.specs.declared.lines.KeeperLine.TheVariants as asks
use Rattle.tx_script.specs.Causes.{KeeperAt, keeper_after, keeper_before, saved_epoch}
use Rattle.tx_script.specs.Readied.{AllReadied}
use Rattle.tx_script.specs.Run.{Dropped, Ran}
use Rattle.tx_script.specs.Seen.{AllInOrder, AreAt, NeverBack, first_places}
use Rattle.tx_script.specs.declared.answer.Answer.{Answer}
use Rattle.tx_script.specs.declared.answer.Answer.TheVariants as answers

-- A save names the least of the clock's epoch less 1, as the maintenance thread stood before it, and of the marks that
-- it saw, whose places are told.
pub record SawMarks (ran : Ran) (index clock epoch : ℕ) : Type 0 where
  pub places : List ℕ
  pub marks : List (Option ℕ)
  pub told : slice_get ran.beside.seen index ≡ Some places
  pub stood : AreAt ran.beside.marks places marks
  pub least : epoch ≡ saved_epoch clock marks

-- So it is with each save that was answered. Places are told of each that was run, from this one of them up to that.
abbrev pub SavesSee : Ran → ℕ → KeeperAt → List KeeperLine → List Answer → ℕ → Type 0
SavesSee ran index k [] [] last = index ≡ last
SavesSee ran index k (asks.Save ∷ lines) (answers.Save epoch ∷ more) last = SawMarks ran index k.epoch epoch
    × SavesSee ran (index + 1) (keeper_after k (answers.Save epoch)) lines more last
SavesSee ran index k (asks.Save ∷ lines) (answers.Unrun ∷ more) last =
    SavesSee ran index (keeper_after k answers.Unrun) lines more last
SavesSee ran index k (asks.Save ∷ lines) (answer ∷ more) last =
    SavesSee ran (index + 1) (keeper_after k answer) lines more last
SavesSee ran index k (line ∷ lines) (answer ∷ more) last = SavesSee ran index (keeper_after k answer) lines more last
SavesSee ran index k [] (answer ∷ more) last = ⊥
SavesSee ran index k (line ∷ lines) [] last = ⊥

-- what drops answered, in their order
abbrev pub drops_told : List Answer → List Dropped
drops_told [] = []
drops_told (answers.Drop dropped kept ∷ more) = record { dropped = dropped; kept = kept } ∷ drops_told more
drops_told (_ ∷ more) = drops_told more

-- Before each line that was run its worker's mark was at least the clock's epoch that was loaded for it, less 1. The
-- marks of a worker never fall, and no save sees one that stood before a mark which an earlier save saw. What drops
-- answered is exactly what they added to the counts, in their order.
pub record CausedBeside (ran : Ran) : Type 0 where
  pub readied : AllReadied ran.printed.begin.epoch ran.beside.marks ran.beside.readied ran.printed.outcomes
  pub order : AllInOrder ran.beside.marks
  pub places : NeverBack first_places ran.beside.seen
  pub saves : SavesSee ran 0 (keeper_before ran) ran.printed.asked ran.printed.answers (length ran.beside.seen)
  pub drops : drops_told ran.printed.answers ≡ ran.beside.drops

-- what the answers behind these tell comes behind what these tell
pub drops_on : (said more : List Answer) → drops_told (said ++ more) ≡ drops_told said ++ drops_told more
drops_on [] more = refl
drops_on (answers.Drop dropped kept ∷ said) more =
    ap (λ (l : List Dropped). record { dropped = dropped; kept = kept } ∷ l) (drops_on said more)
drops_on (_ ∷ said) more = drops_on said more
