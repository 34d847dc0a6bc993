-- Which lines are told unrun: those that were left out, and no others.
use Rattle.std.proofs.Common.{◌≡◌, ◌++◌, inl, inr, refl, sym, ◌∙◌, ap, List, [], ◌∷◌, false, true≢false}
use Rattle.std.specs.List.{AllByRecursion, Contains}
use Rattle.lists.specs.Elements.{in_cases, in_head, in_none, in_tail}
use Rattle.serial_model.specs.declared.op.Op.{Op}
use Rattle.tx_script.specs.Causes.{is_unrun}
use Rattle.tx_script.specs.declared.outcome.Outcome.{Outcome}
use Rattle.tx_script.specs.declared.outcome.Outcome.TheVariants.{Unrun}
use Rattle.worker_cells.specs.Rows.{unrun}

-- none of these lines was left out
abbrev pub AreRun : List Outcome → Type 0
AreRun outcomes = AllByRecursion (λ (o : Outcome). is_unrun o ≡ false) outcomes

-- where a line is told unrun some were left out
pub some_left : (told : List Outcome) (left : List (List Op)) → AreRun told → Contains (told ++ unrun left) Unrun
    → left ≡ [] → ⊥
some_left [] [] run has none = in_none Unrun has
some_left [] (ops ∷ left) run has none = absurd cc
some_left (o ∷ told) left run has none = elim (in_cases Unrun o (told ++ unrun left) has) [
  | inl same ↦ true≢false (ap is_unrun (sym same) ∙ run.0)
  | inr rest ↦ some_left told left run.1 rest none
]

-- and the other way round
pub some_unrun : (told : List Outcome) (left : List (List Op)) → (left ≡ [] → ⊥)
    → Contains (told ++ unrun left) Unrun
some_unrun [] [] some = absurd (some refl)
some_unrun [] (ops ∷ left) some = in_head Unrun (unrun left)
some_unrun (o ∷ told) left some = in_tail Unrun o (told ++ unrun left) (some_unrun told left some)
