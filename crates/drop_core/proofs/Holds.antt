-- How many seats hold a slot, and that one which is held is not given.
use Rattle.std.proofs.Common.{◌≡◌, ℕ, zero, suc, ◌+◌, ◌≤◌, true, false, eqb, eqb-true, ltb, ◌&&◌, List, [], ◌∷◌, ap, arith, set, Some}
use Rattle.std.proofs.lemmas.Bool.{and_parts, false_from_ne_true, cond-true}
use Rattle.std.proofs.lemmas.List.Sums.{sum_by-cons}
use Rattle.std.specs.List.{slice_get, sum_by}
use Rattle.drop_core.specs.declared.table.Table.{Table}
use Rattle.drop_core.specs.declared.grip.Grip.{Grip}
use Rattle.drop_core.specs.Table.{slot_of, has_slot, counts_hold}
use Rattle.drop_core.specs.Event.{can_be_given, most_times, is_usable}
use Rattle.drop_core.specs.Sound.{HoldsCounted}

-- what one seat adds
pub one-le-sum : (f : Grip → ℕ) (grips : List Grip) (i : ℕ) (g : Grip) → slice_get grips i ≡ Some g → f g ≤ sum_by f grips
one-le-sum f [] i g e = cc
one-le-sum f (x ∷ grips) zero g e =
    let is : x ≡ g = cc in
    let whole = sum_by-cons f x grips in
    let same : f x ≡ f g = ap f is in
    omega (arith, whole, same)
one-le-sum f (x ∷ grips) (suc i) g e =
    let rest = one-le-sum f grips i g e in
    let whole = sum_by-cons f x grips in
    omega (arith, whole, rest)

pub sum-set_grip : (f : Grip → ℕ) (grips : List Grip) (i : ℕ) (g new : Grip) → slice_get grips i ≡ Some g → sum_by f (set grips i new) + f g ≡ sum_by f grips + f new
sum-set_grip f [] i g new e = cc
sum-set_grip f (x ∷ grips) zero g new e =
    let is : x ≡ g = cc in
    let same : f x ≡ f g = ap f is in
    omega (arith, sum_by-cons f x grips, sum_by-cons f new grips, same)
sum-set_grip f (x ∷ grips) (suc i) g new e =
    let rest = sum-set_grip f grips i g new e in
    omega (arith, sum_by-cons f x grips, sum_by-cons f x (set grips i new), rest)

pub counts-held : (s : ℕ) (g : Grip) → has_slot g.holds s ≡ true → counts_hold s g ≡ 1
counts-held s g e = cond-true (has_slot g.holds s) 1 0 e

-- A slot that any seat holds isn't usable: whatever became of its page, it isn't given.
pub held_not_given : (d : Table) (grips : List Grip) (q s : ℕ) (g : Grip) → HoldsCounted d grips → slice_get grips q ≡ Some g → has_slot g.holds s ≡ true → is_usable (slot_of d s) ≡ false
held_not_given d grips q s g counted at holds =
    false_from_ne_true (is_usable (slot_of d s)) (λ usable.
    let parts = and_parts (can_be_given (slot_of d s).state) (eqb (slot_of d s).passes 0 && ltb (slot_of d s).times most_times) usable in
    let none = eqb-true (slot_of d s).passes 0 (and_parts (eqb (slot_of d s).passes 0) (ltb (slot_of d s).times most_times) parts.1).0 in
    let mine = counts-held s g holds in
    let all = one-le-sum (counts_hold s) grips q g at in
    let is = counted.counted s in
    absurd (omega (arith, none, mine, all, is)))
