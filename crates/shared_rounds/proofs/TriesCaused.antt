-- The cause of each try that was refused: a word in conflict; where no slot was usable, the words of all slots.
use Rattle.std.proofs.Common.{◌≡◌, ◌∙◌, sym, ap, subst, ℕ, List, [], ◌∷◌, ◌++◌, map, Option}
use Rattle.std.specs.List.{AllByRecursion}
use Rattle.lists.specs.Each.{all_append}
use Rattle.serial_model.specs.declared.number.Commit.{Commit}
use Rattle.serial_model.specs.declared.op.Op.{Op}
use Rattle.engine_pages.specs.declared.layout.Layout.{Layout}
use Rattle.engine_pages.specs.declared.view.View.{View}
use Rattle.engine_pages.specs.declared.view.RefusalCause.{RefusalCause}
use Rattle.engine_pages.specs.declared.view.RefusalCause.TheVariants as refusals
use Rattle.worker_cells.specs.Below.{IsClash, IsConflicting, Lost, OfLeaf, OfRecord, OfSlot, OfWay, Spot, ToClock}
use Rattle.worker_cells.specs.Below.{ToOther, ToSet, ToSlots}
use Rattle.tx_script.specs.Causes.{IsOfConflict, IsTryCause}
use Rattle.tx_script.specs.declared.outcome.Outcome.{Outcome}
use Rattle.tx_script.specs.declared.outcome.Outcome.TheVariants.{Committed, Conflict, Full, Wide, Limit, Unrun}
use Rattle.worker_cells.specs.InARow.{line_keeps}
use Rattle.worker_cells.specs.Rows.{AreInARow, ComesOf, LineRan}
use Rattle.shared_rounds.specs.Parts.{no_tries, tries_of}
use Rattle.shared_rounds.specs.Refusals.{expected_in, seen_in, try_refusal, where_of}

-- the word of a conflict is told as it was seen
clash_caused : (why : RefusalCause) (spot : Spot) → IsConflicting why spot
    → IsOfConflict (where_of spot) (expected_in why) (seen_in why)
clash_caused (refusals.Conflict at expected seen) (OfRecord k) is = is
clash_caused (refusals.Conflict at expected seen) (OfWay k) is = is
clash_caused (refusals.Conflict at expected seen) (OfLeaf k) is = is
clash_caused (refusals.Conflict at expected seen) OfSlot is = is
clash_caused (refusals.Full held) spot is = absurd is
clash_caused (refusals.Wide set) spot is = absurd is
clash_caused (refusals.NumberLimit clock) spot is = absurd is

-- conflicts have theirs
clashes_caused : (slots : ℕ) (ops : List Op) (losts : List Lost) → AllByRecursion (IsClash ops) losts
    → AllByRecursion (IsTryCause slots) (map try_refusal losts)
clashes_caused slots ops [] each = tt
clashes_caused slots ops (ToOther clash ∷ losts) each =
    (clash_caused clash.why clash.spot each.0.0, clashes_caused slots ops losts each.1)
clashes_caused slots ops (ToSlots words ∷ losts) each = absurd each.0
clashes_caused slots ops (ToSet set ∷ losts) each = absurd each.0
clashes_caused slots ops (ToClock clock ∷ losts) each = absurd each.0

-- and one more behind them
behind_caused : (slots : ℕ) (ops : List Op) (losts : List Lost) (last : Lost) → AllByRecursion (IsClash ops) losts
    → IsTryCause slots (try_refusal last) → AllByRecursion (IsTryCause slots) (map try_refusal (losts ++ last ∷ []))
behind_caused slots ops [] last each cause = (cause, tt)
behind_caused slots ops (ToOther clash ∷ losts) last each cause =
    (clash_caused clash.why clash.spot each.0.0, behind_caused slots ops losts last each.1 cause)
behind_caused slots ops (ToSlots words ∷ losts) last each cause = absurd each.0
behind_caused slots ops (ToSet set ∷ losts) last each cause = absurd each.0
behind_caused slots ops (ToClock clock ∷ losts) last each cause = absurd each.0

-- what came of a line tells the causes of its tries
pub line_caused : (slots tries : ℕ) (ops : List Op) (outcome : Outcome) (refused : List Lost) (logged : Option Commit)
    (v w : View) → v.layout.slots ≡ slots → ComesOf tries ops outcome refused logged v w
    → AllByRecursion (IsTryCause slots) (map try_refusal refused)
line_caused slots tries ops (Committed verdict number replies) refused logged v w same comes =
    subst (λ l. AllByRecursion (IsTryCause slots) (map try_refusal l)) (sym comes.4)
    (clashes_caused slots ops comes.3.losts comes.3.each)
line_caused slots tries ops Conflict refused logged v w same comes =
    subst (λ l. AllByRecursion (IsTryCause slots) (map try_refusal l)) (sym comes.2)
    (clashes_caused slots ops comes.1.losts comes.1.each)
line_caused slots tries ops Full refused logged v w same comes =
    let line = comes.1 in
    subst (λ l. AllByRecursion (IsTryCause slots) (map try_refusal l)) (sym comes.2)
    (behind_caused slots ops line.refused.losts (ToSlots line.words) line.refused.each
    (line.all.count ∙ ap (λ (l : Layout). l.slots) line.before.layout ∙ same, line.all.taken))
line_caused slots tries ops Wide refused logged v w same comes =
    let line = comes.1 in
    subst (λ l. AllByRecursion (IsTryCause slots) (map try_refusal l)) (sym comes.2)
    (behind_caused slots ops line.refused.losts (ToSet line.set) line.refused.each tt)
line_caused slots tries ops Limit refused logged v w same comes =
    let line = comes.1 in
    subst (λ l. AllByRecursion (IsTryCause slots) (map try_refusal l)) (sym comes.2)
    (behind_caused slots ops line.refused.losts (ToClock line.clock) line.refused.each tt)
line_caused slots tries ops Unrun refused logged v w same comes = absurd comes

left_caused : (slots : ℕ) (left : List (List Op)) → AllByRecursion (AllByRecursion (IsTryCause slots)) (no_tries left)
left_caused slots [] = tt
left_caused slots (ops ∷ left) = (tt, left_caused slots left)

ran_caused : (slots tries : ℕ) (v : View) (ran : List LineRan) (w : View) → v.layout.slots ≡ slots
    → AreInARow tries v ran w → AllByRecursion (AllByRecursion (IsTryCause slots)) (tries_of ran)
ran_caused slots tries v [] w same row = tt
ran_caused slots tries v (line ∷ more) w same row =
    let here : line.before.layout.slots ≡ slots = ap (λ (l : Layout). l.slots) row.0.layout ∙ same in
    let kept = line_keeps tries line.ops line.outcome line.refused line.logged line.before line.after row.1 in (
      line_caused slots tries line.ops line.outcome line.refused line.logged line.before line.after here row.1,
      ran_caused slots tries line.after more w (ap (λ (l : Layout). l.slots) kept.layout ∙ here) row.2,
    )

-- those of a worker's lines, with none for lines that were left out
pub row_caused : (slots tries : ℕ) (v : View) (ran : List LineRan) (left : List (List Op)) (w : View)
    → v.layout.slots ≡ slots → AreInARow tries v ran w
    → AllByRecursion (AllByRecursion (IsTryCause slots)) (tries_of ran ++ no_tries left)
row_caused slots tries v ran left w same row =
    all_append (AllByRecursion (IsTryCause slots)) (tries_of ran) (no_tries left)
    (ran_caused slots tries v ran w same row) (left_caused slots left)
