-- How many steps tries and operations take.
use Rattle.std.proofs.Common.{◌≡◌, ℕ, suc, ◌+◌, ◌*◌, ◌≤◌, ◌<◌, ap, ◌∙◌, subst, sym, arith, Bool, true, false, cond}
use Rattle.std.proofs.Common.{List, [], ◌∷◌, length, take, get_or}
use Rattle.std.specs.Prelude.{sum_by}
use Rattle.std.proofs.Math.Nat.{mul-le-mul_right, suc-mul}
use Rattle.std.proofs.lemmas.List.Sums.{get_or-le-sum_by, sum_by-cons, sum_by-take-le, sum_by_more}
use Rattle.serial_model.specs.declared.decl.Decl.{Decl}
use Rattle.serial_model.specs.declared.op.Op.{Op}
use Rattle.tx_runner.specs.Lines.{end_steps, is_on_tree, HasTreeOp}

one_more : (a b : ℕ) → (a + 1) * b ≡ a * b + b
one_more a b = let on : a + 1 ≡ suc a = omega arith in ap (λ n. n * b) on ∙ suc-mul a b

sum : (a b start now next : ℕ) → now ≤ start + a → next ≤ now + b → next ≤ start + (a + b)
sum a b start now next before more = omega (arith, before, more)

-- the first of them took so many steps, and one more took so many
pub steps_more : (done most start now next : ℕ) → now ≤ start + done * most → next ≤ now + most
    → next ≤ start + (done + 1) * most
steps_more done most start now next before more =
    subst (λ n. next ≤ start + n) (sym (one_more done most)) (sum (done * most) most start now next before more)

-- so many are within more of them
pub steps_within : (done count most start now : ℕ) → done ≤ count → now ≤ start + done * most
    → now ≤ start + count * most
steps_within done count most start now le before =
    still (done * most) (count * most) start now (mul-le-mul_right most le) before
  where
    still : (a b start now : ℕ) → a ≤ b → now ≤ start + a → now ≤ start + b
    still a b start now le before = omega (arith, le, before)

-- those of one operation more
pub sum_more : (f : Op → ℕ) (ops : List Op) (d : Op) (done : ℕ) → done < length ops
    → sum_by f (take (done + 1) ops) ≡ sum_by f (take done ops) + f (get_or ops done d)
sum_more f ops d done less = sum_by_more f ops done d less

-- those of first operations are within those of all
pub sum_within : (f : Op → ℕ) (ops : List Op) (done start now : ℕ) → now ≤ start + sum_by f (take done ops)
    → now ≤ start + sum_by f ops
sum_within f ops done start now took = let most = sum_by-take-le f ops done in omega (arith, took, most)

-- ---- the steps of a commit

-- each operation owes at least so many
owed_each : (decls : List Decl) (op : Op) → 12 ≤ end_steps decls op
owed_each decls op = by_test (is_on_tree decls op)
  where
    by_test : (b : Bool) → 12 ≤ cond {A = ℕ} b 832 12
    by_test true = omega arith
    by_test false = omega arith

pub owed_all : (decls : List Decl) (ops : List Op) → 12 * length ops ≤ sum_by (end_steps decls) ops
owed_all decls [] = omega arith
owed_all decls (op ∷ ops) =
    let one = owed_each decls op in let rest = owed_all decls ops in let sum = sum_by-cons (end_steps decls) op ops in
    omega (arith, one, rest, sum)

-- and one on a tree as many as full sets want
pub owed_tree : (decls : List Decl) (ops : List Op) → HasTreeOp decls ops → 832 ≤ sum_by (end_steps decls) ops
owed_tree decls ops tree =
    let at = tree.1 in
    let owes : end_steps decls (get_or ops at.0 tree.0) ≡ 832 =
    ap (end_steps decls) at.2 ∙ ap (λ (b : Bool). cond {A = ℕ} b 832 12) tree.2 in
    let most = get_or-le-sum_by (end_steps decls) ops at.0 tree.0 at.1 in omega (arith, owes, most)

-- a begin, operations that took so many steps, and a commit
pub few_sum : (m n count reads writes kept pointers headers holds t u v w : ℕ) → u ≡ t + 1 → v ≤ u + m → reads ≤ count
    → writes ≤ count → kept ≤ writes → pointers ≤ count → headers ≡ 0 → holds ≤ 6 * count → 12 * count ≤ n
    → w ≤ v + (4 * kept + (reads + (pointers + headers)) + holds + 2) → w ≤ t + (m + (n + 3))
few_sum m n count reads writes kept pointers headers holds t u v w begun run r s k p none h owed end =
    omega (arith, begun, run, r, s, k, p, none, h, owed, end)

-- a commit of sets of which nothing is known but their room
pub full_sum : (m n reads writes kept pointers headers holds t u v w : ℕ) → u ≡ t + 1 → v ≤ u + m → reads ≤ 256
    → writes ≤ 16 → kept ≤ writes → pointers ≤ 128 → headers ≤ 256 → holds ≤ 128 → 832 ≤ n
    → w ≤ v + (4 * kept + (reads + (pointers + headers)) + holds + 2) → w ≤ t + (m + (n + 3))
full_sum m n reads writes kept pointers headers holds t u v w begun run r s k p q h owed end =
    omega (arith, begun, run, r, s, k, p, q, h, owed, end)

-- a begin, and operations of which the last one was refused
pub refused_sum : (m n t u w : ℕ) → u ≡ t + 1 → w ≤ u + m → w ≤ t + (m + (n + 3))
refused_sum m n t u w begun run = omega (arith, begun, run)
