-- Which locks a pass takes for a line.
use Rattle.std.proofs.Common.{◌≡◌, inl, inr, true, List, [], ◌∷◌, ap, ◌∙◌, subst}
use Rattle.std.specs.List.{Contains}
use Rattle.lists.specs.Elements.{in_cases, in_head, in_none}
use Rattle.serial_model.specs.declared.key.Key.{Key}
use Rattle.serial_model.specs.declared.op.Op.{Op}
use Rattle.engine_pages.specs.declared.layout.Layout.{Layout}
use Rattle.engine_pages.specs.declared.view.Touch.{Touch}
use Rattle.engine_pages.specs.declared.view.View.{View}
use Rattle.engine_pages.specs.Pages.{is_tree}
use Rattle.engine_pages.specs.Views.{seat_number}
use Rattle.page_commit.specs.Turning.{LocksOnly, MayWrite, OnlyWalked}
use Rattle.tree_writes.specs.Causes.{TouchesTrees}
use Rattle.tx_runner.specs.Tries.{IsLockedFor, TouchesOnly}

-- where nothing was locked
pub untouched : (ops : List Op) (v w : View) → w.touched ≡ v.touched → TouchesOnly ops v w
untouched ops v w same t has = inl (subst (λ (l : List Touch). Contains l t) same has)

-- what these operations may lock, more of them may
locked_wider : (xs ys : List Op) (v : View) (k : Key) → ((op : Op) → Contains xs op → Contains ys op)
    → IsLockedFor v.layout.decls xs k → IsLockedFor v.layout.decls ys k
locked_wider xs ys v k among (inl own) =
    inl (record { op = own.op; among = among own.op own.among; writes = own.writes })
locked_wider xs ys v k among (inr tree) = inr (
  tree.0,
  (
    tree.1.0,
    record { op = tree.1.1.op; among = among tree.1.1.op tree.1.1.among; writes = tree.1.1.writes },
    tree.1.2,
  ),
)

pub touches_wider : (xs ys : List Op) (v w : View) → ((op : Op) → Contains xs op → Contains ys op) → TouchesOnly xs v w
    → TouchesOnly ys v w
touches_wider xs ys v w among only t has = elim (only t has) [
  | inl before ↦ inl before
  | inr own ↦ inr (own.0, locked_wider xs ys v t.key among own.1)
]

-- locks that were taken in either part
pub touches_then : (ops : List Op) (u v w : View) → v.layout ≡ u.layout → v.role ≡ u.role → TouchesOnly ops u v
    → TouchesOnly ops v w → TouchesOnly ops u w
touches_then ops u v w layout role a b t has = elim (b t has) [
  | inl before ↦ a t before
  | inr own ↦ inr (
    own.0 ∙ ap seat_number role,
    subst (λ (l : Layout). IsLockedFor l.decls ops t.key) layout own.1,
  )
]

-- an operation of the list with this one alone
pub only_one : (d : Op) (ops : List Op) → Contains ops d → (op : Op) → Contains (d ∷ []) op → Contains ops op
only_one d ops has op one = elim (in_cases op d [] one) [
  | inl same ↦ subst (λ (x : Op). Contains ops x) same has
  | inr none ↦ absurd (in_none op none)
]

-- an operation that may write this key of a tree may lock others of trees
pub trees_locked : (op : Op) (k : Key) (v w : View) → MayWrite op k
    → is_tree v.layout.decls k.storage ≡ true → TouchesTrees v w
    → TouchesOnly (op ∷ []) v w
trees_locked op k v w may tree touches t has = elim (touches t has) [
  | inl before ↦ inl before
  | inr own ↦ inr (
    own.0,
    inr (own.1, (k, record { op = op; among = in_head op []; writes = may }, tree)),
  )
]

-- so it is of one that was done, or ended the transaction
pub done_locked : (op : Op) (v w : View) → OnlyWalked v w → LocksOnly v.layout.decls op v.touched w.touched
    → TouchesOnly (op ∷ []) v w
done_locked op v w only (inl same) = untouched (op ∷ []) v w same
done_locked op v w only (inr k) = trees_locked op k.0 v w k.1 k.2 only.touches
