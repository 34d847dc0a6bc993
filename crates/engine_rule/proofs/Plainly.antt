-- The state after an act, told of each machine by itself: what an act leaves alone is as it was.
use Rattle.std.proofs.Common.{◌≡◌, ℕ, zero, suc, List, [], ◌∷◌, refl, sym, ap, ◌∙◌, set, Some}
use Rattle.std.specs.List.{slice_get}
use Rattle.homes.specs.declared.places.Content.{Content}
use Rattle.homes.specs.declared.places.Spot.{Spot}
use Rattle.commit_core.specs.declared.part.Word.TheVariants.{Pointer, Header}
use Rattle.commit_core.specs.declared.event.Act.TheVariants.{Keep, Confirm}
use Rattle.commit_core.specs.declared.seat.Seat.{Seat}
use Rattle.commit_core.specs.Keys.{nothing}
use Rattle.commit_core.specs.Fill.{filled}
use Rattle.commit_core.specs.Event.{Moved, moved as unmoved, effect as commit_effect, with_moved}
use Rattle.drop_core.specs.declared.grip.Grip.{Grip}
use Rattle.drop_core.specs.Event.{turned, effect as page_effect, moves, with_turned}
use Rattle.engine_rule.specs.declared.event.JointAct.{JointAct}
use Rattle.engine_rule.specs.declared.event.JointAct.TheVariants.{Commit, SeePointer, CheckPointer, SeeHeader, CheckHeader, AddRecord, AddKey, FillRecord, Turn}
use Rattle.engine_rule.specs.Pairs.{pointer_part}
use Rattle.engine_rule.specs.JointState.{JointState, is_so_now, is_header_so_now, header_part}
use Rattle.engine_rule.specs.Event.{after_moves, next_spot, opening_with, after_key, joined, with_joined, acted}

pub set_itself : {A : Type 0} (xs : List A) (i : ℕ) (x : A) → slice_get xs i ≡ Some x → set xs i x ≡ xs
set_itself [] i x e = refl
set_itself {A} (y ∷ xs) zero x e = let is : y ≡ x = cc in ap (λ (z : A). z ∷ xs) (sym is)
set_itself {A} (y ∷ xs) (suc i) x e = ap (λ (l : List A). y ∷ l) (set_itself xs i x e)

-- the state with what an act of this seat left of the commits
abbrev pub with_commits : JointState → ℕ → Moved → JointState
with_commits c p n = record c { commits = with_moved c.commits p n }

-- the state after an act of seat p, which has s and g
abbrev pub plainly : JointState → ℕ → Seat → Grip → JointAct → JointState
plainly c p s g (Commit act) = with_commits c p (commit_effect p c.commits.story s act)
plainly c p s g (SeePointer x) =
    with_commits c p (commit_effect p c.commits.story s (Keep (pointer_part c.pages.table x)))
plainly c p s g (CheckPointer x) =
    with_commits c p
    (commit_effect p c.commits.story s (Confirm (Pointer x) (is_so_now p c.pages.table c.commits.story s x)))
plainly c p s g (SeeHeader t) =
    with_commits c p (commit_effect p c.commits.story s (Keep (header_part c.pages.table t)))
plainly c p s g (CheckHeader t) =
    with_commits c p
    (commit_effect p c.commits.story s (Confirm (Header t) (is_header_so_now c.pages.table c.commits.story s t)))
plainly c p s g (AddRecord t k) =
    record c { commits = record (c.commits) { story = filled (next_spot c.pages.table t) nothing c.commits.story } }
plainly c p s g (AddKey t k) = record {
  commits = with_moved c.commits p (after_key p c.commits.story s c.pages.table g t k);
  pages = with_turned c.pages p (page_effect p c.pages.table g (opening_with t k));
}
plainly c p s g (FillRecord x y) = record c { commits = record (c.commits) { story = filled x y c.commits.story } }
plainly c p s g (Turn act) = record {
  commits = with_moved c.commits p (after_moves p c.commits.story s (moves c.pages.table act));
  pages = with_turned c.pages p (page_effect p c.pages.table g act);
}

module _ (c : JointState) (p : ℕ) (s : Seat) (g : Grip) (at : slice_get c.commits.seats p ≡ Some s) (holds : slice_get c.pages.grips p ≡ Some g) where
  -- the pages are as they were
  same_grips : (n : Moved)
      → (let x : JointState = record { commits = with_moved c.commits p n; pages = record { table = c.pages.table; grips = set c.pages.grips p g } } in x) ≡ with_commits c p n
  same_grips n =
      ap (λ (l : List Grip). let x : JointState = record { commits = with_moved c.commits p n; pages = record { table = c.pages.table; grips = l } } in x)
      (set_itself c.pages.grips p g holds)

  -- a place is filled, and nothing else changes
  filled_plainly : (x : Spot) (y : Content) → with_joined c p (joined (unmoved (filled x y c.commits.story) s) (turned c.pages.table g))
      ≡ record c { commits = record (c.commits) { story = filled x y c.commits.story } }
  filled_plainly x y =
      let n : Moved = record { story = filled x y c.commits.story; seat = s } in
      same_grips n
      ∙ ap (λ (l : List Seat). let z : JointState = record c { commits = record { opening = c.commits.opening; story = filled x y c.commits.story; seats = l } } in z)
      (set_itself c.commits.seats p s at)

  pub acted_plainly : (act : JointAct) → acted c p s g act ≡ plainly c p s g act
  acted_plainly (Commit act) = same_grips (commit_effect p c.commits.story s act)
  acted_plainly (SeePointer x) = same_grips (commit_effect p c.commits.story s (Keep (pointer_part c.pages.table x)))
  acted_plainly (CheckPointer x) =
      same_grips (commit_effect p c.commits.story s (Confirm (Pointer x) (is_so_now p c.pages.table c.commits.story s x)))
  acted_plainly (SeeHeader t) = same_grips (commit_effect p c.commits.story s (Keep (header_part c.pages.table t)))
  acted_plainly (CheckHeader t) =
      same_grips (commit_effect p c.commits.story s (Confirm (Header t) (is_header_so_now c.pages.table c.commits.story s t)))
  acted_plainly (AddRecord t k) = filled_plainly (next_spot c.pages.table t) nothing
  acted_plainly (AddKey t k) = refl
  acted_plainly (FillRecord x y) = filled_plainly x y
  acted_plainly (Turn act) = refl
