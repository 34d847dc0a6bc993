-- The word of each conflict stands where it is told.
use Rattle.std.proofs.Common.{◌≡◌, ◌∙◌, sym, subst, ℕ, ◌+◌, List, [], ◌∷◌, ◌++◌, map}
use Rattle.std.specs.List.{AllByRecursion}
use Rattle.lists.specs.Each.{all_append}
use Rattle.serial_model.specs.declared.op.Op.{Op}
use Rattle.engine_pages.specs.declared.layout.Layout.{Layout}
use Rattle.engine_pages.specs.declared.view.RefusalCause.{RefusalCause}
use Rattle.engine_pages.specs.declared.view.RefusalCause.TheVariants as refusals
use Rattle.engine_pages.specs.declared.view.View.{View}
use Rattle.worker_cells.specs.Below.{IsWordAt, Lost, OfLeaf, OfRecord, OfSlot, OfWay, Spot, ToClock, ToOther, ToSet}
use Rattle.worker_cells.specs.Below.{ToSlots}
use Rattle.worker_cells.specs.InARow.{line_keeps}
use Rattle.worker_cells.specs.Rows.{AreInARow, LineRan}
use Rattle.shared_rounds.specs.Parts.{AreParts, Part, no_tries, tries_of}
use Rattle.shared_rounds.specs.Refusals.{IsToldAt, IsWordTold, try_refusal, where_of, word_in}
use Rattle.shared_rounds.specs.Shares.{Share}
use Rattle.shared_rounds.proofs.Conflicts.{IsLostOf, line_lost}
use Rattle.shared_rounds.proofs.Joined.{shares_of}

clash_told : (l : Layout) (why : RefusalCause) (spot : Spot) → IsWordAt l spot why
    → IsToldAt l (where_of spot) (word_in why)
clash_told l (refusals.Conflict at expected seen) (OfRecord k) is = is
clash_told l (refusals.Conflict at expected seen) (OfWay k) is = is
clash_told l (refusals.Conflict at expected seen) (OfLeaf k) is = is
clash_told l (refusals.Conflict at expected seen) OfSlot is = is
clash_told l (refusals.Full held) spot is = absurd is
clash_told l (refusals.Wide set) spot is = absurd is
clash_told l (refusals.NumberLimit clock) spot is = absurd is

tries_told : (l : Layout) (ops : List Op) (losts : List Lost) → AllByRecursion (IsLostOf l ops) losts
    → AllByRecursion (IsWordTold l) (map try_refusal losts)
tries_told l ops [] each = tt
tries_told l ops (ToOther clash ∷ losts) each =
    (clash_told l clash.why clash.spot each.0.2, tries_told l ops losts each.1)
tries_told l ops (ToSlots words ∷ losts) each = (tt, tries_told l ops losts each.1)
tries_told l ops (ToSet set ∷ losts) each = (tt, tries_told l ops losts each.1)
tries_told l ops (ToClock clock ∷ losts) each = (tt, tries_told l ops losts each.1)

left_told : (l : Layout) (left : List (List Op)) → AllByRecursion (AllByRecursion (IsWordTold l)) (no_tries left)
left_told l [] = tt
left_told l (ops ∷ left) = (tt, left_told l left)

ran_told : (l : Layout) (tries : ℕ) (v : View) (ran : List LineRan) (w : View) → v.layout ≡ l
    → AreInARow tries v ran w → AllByRecursion (AllByRecursion (IsWordTold l)) (tries_of ran)
ran_told l tries v [] w same row = tt
ran_told l tries v (line ∷ more) w same row =
    let here : line.before.layout ≡ l = row.0.layout ∙ same in
    let kept = line_keeps tries line.ops line.outcome line.refused line.logged line.before line.after row.1 in (
      subst (λ (x : Layout). AllByRecursion (IsWordTold x) (map try_refusal line.refused)) here
          (tries_told line.before.layout line.ops line.refused
          (line_lost tries line.ops line.outcome line.refused line.logged line.before line.after row.1)),
      ran_told l tries line.after more w (kept.layout ∙ here) row.2,
    )

-- of all workers' lines
pub words_told : (tries : ℕ) (was ended : View) (worker : ℕ) (parts : List Part) → AreParts tries was ended worker parts
    → AllByRecursion (AllByRecursion (AllByRecursion (IsWordTold was.layout)))
    (map (λ (share : Share). share.tries_refused) (shares_of parts))
words_told tries was ended worker [] are = tt
words_told tries was ended worker (p ∷ parts) are = (
  all_append (AllByRecursion (IsWordTold was.layout)) (tries_of p.ran) (no_tries p.left)
      (ran_told was.layout tries p.from p.ran p.to are.0.seated.layout are.0.row) (left_told was.layout p.left),
  words_told tries was ended (worker + 1) parts are.1,
)
