-- An operation on an array, or on a tree, was run.
use Rattle.std.proofs.Common.{◌≡◌, inl, inr, ℕ, ◌+◌, ◌≤◌, Bool, true, false, List, length, refl, sym, ap}
use Rattle.std.proofs.Common.{subst, cond, Result}
use Rattle.std.specs.Prelude.{IfErr, IfOk}
use Rattle.serial_model.specs.declared.decl.Decl.{Decl}
use Rattle.serial_model.specs.declared.op.Op.{Op}
use Rattle.serial_model.specs.declared.reply.Reply.{Reply}
use Rattle.serial_model.specs.declared.reply.Verdict.{Verdict}
use Rattle.serial_model.specs.Decls.{AreDecls}
use Rattle.tx_sets.specs.declared.sets.Sets.{Sets}
use Rattle.engine_pages.specs.declared.view.RefusalCause.{RefusalCause}
use Rattle.engine_pages.specs.declared.view.View.{View}
use Rattle.engine_pages.specs.Pages.{decl_of, is_array, is_tree}
use Rattle.engine_pages.specs.Pointers.{one_kind}
use Rattle.page_commit.specs.Calls.{alter_most, op_holds}
use Rattle.page_commit.specs.Refusing.{HasRefused}
use Rattle.tx_runner.specs.Lines.{is_on_tree, op_steps, storage_of, tree_steps, IsOnTree}
use Rattle.tx_runner.specs.Steps.{HasAnswered, IsOpCause, RunsOp}
use Rattle.tx_runner.proofs.StorageKinds.{listed_tree, tree_listed}

-- an operation on an array is on no tree
on_no_tree : (decls : List Decl) (op : Op) → AreDecls decls → is_array decls (storage_of op) ≡ true
    → is_on_tree decls op ≡ false
on_no_tree decls op are array = by_test (is_on_tree decls op) refl
  where
    by_test : (b : Bool) → is_on_tree decls op ≡ b → is_on_tree decls op ≡ false
    by_test true tree =
        absurd (one_kind (decl_of decls (storage_of op)) array (listed_tree decls (storage_of op) are tree))
    by_test false other = other

array_steps : (decls : List Decl) (slots : ℕ) (op : Op) → AreDecls decls → is_array decls (storage_of op) ≡ true
    → op_steps decls slots op ≡ alter_most slots
array_steps decls slots op are array =
    ap (λ (b : Bool). cond b (tree_steps slots op) (alter_most slots)) (on_no_tree decls op are array)

-- one on a tree is on one that is declared
pub on_tree : (decls : List Decl) (op : Op) → is_tree decls (storage_of op) ≡ true → IsOnTree decls op
on_tree decls op tree = tree_listed decls (storage_of op) tree

steps_on_tree : (decls : List Decl) (slots : ℕ) (op : Op) → is_tree decls (storage_of op) ≡ true
    → op_steps decls slots op ≡ tree_steps slots op
steps_on_tree decls slots op tree =
    ap (λ (b : Bool). cond b (tree_steps slots op) (alter_most slots)) (on_tree decls op tree)

pub array_ran : (op : Op) (r : Result Verdict RefusalCause) (old now : List Reply) (sets new : Sets) (v w : View)
    → AreDecls v.layout.decls → is_array v.layout.decls (storage_of op) ≡ true
    → IfOk r (λ verdict. HasAnswered op verdict old now sets new v w) → IfErr r (λ why. HasRefused why v w)
    → IfErr r (λ why. IsOpCause op sets why v w) → w.steps ≤ v.steps + alter_most v.layout.slots
    → length new.holds ≤ length sets.holds + op_holds → RunsOp op r old now sets new v w
array_ran op r old now sets new v w are array answers refused cause steps grows = record {
  answers = answers;
  refused = refused;
  cause = cause;
  steps = subst (λ n. w.steps ≤ v.steps + n) (sym (array_steps v.layout.decls v.layout.slots op are array)) steps;
  grows = inr grows;
}

pub tree_ran : (op : Op) (r : Result Verdict RefusalCause) (old now : List Reply) (sets new : Sets) (v w : View)
    → is_tree v.layout.decls (storage_of op) ≡ true
    → IfOk r (λ verdict. HasAnswered op verdict old now sets new v w) → IfErr r (λ why. HasRefused why v w)
    → IfErr r (λ why. IsOpCause op sets why v w) → w.steps ≤ v.steps + tree_steps v.layout.slots op
    → RunsOp op r old now sets new v w
tree_ran op r old now sets new v w tree answers refused cause steps = record {
  answers = answers;
  refused = refused;
  cause = cause;
  steps = subst (λ n. w.steps ≤ v.steps + n) (sym (steps_on_tree v.layout.decls v.layout.slots op tree)) steps;
  grows = inl (on_tree v.layout.decls op tree);
}
