-- What an act of commit_core keeps, for the whole state.
use Rattle.std.proofs.Common.{◌≡◌, ℕ, zero, suc, inl, inr, List, [], ◌∷◌, refl, sym, ap, ◌∙◌, subst, length, set, Some}
use Rattle.std.proofs.Math.ListN.{length-set}
use Rattle.std.specs.List.{slice_get}
use Rattle.homes.specs.Laws.{number_or_other}
use Rattle.lists.specs.Elements.{at_set_same, at_set_other, at_below}
use Rattle.commit_core.specs.declared.seat.Seat.{Seat}
use Rattle.commit_core.specs.CoreState.{CoreState}
use Rattle.commit_core.specs.Places.{stands}
use Rattle.commit_core.specs.Event.{Moved, moved, with_moved}
use Rattle.commit_core.specs.Law.{Keeps}
use Rattle.commit_core.specs.Sound.{IsSoundSeat, IsSound as CommitsAreSound}
use Rattle.commit_core.specs.Sound.Locks.{HoldersAreSeats}

pub with_sound : (c : CoreState) (p : ℕ) (s : Seat) (n : Moved) → slice_get c.seats p ≡ Some s → Keeps c.opening p c.story n → CommitsAreSound c
    → CommitsAreSound (with_moved c p n)
with_sound c p s n at keeps sound = record {
  story = keeps.story;
  seats = λ q t there. elim (number_or_other p q) [
    | inl e ↦
        let both : Some n.seat ≡ Some t = sym (at_set_same c.seats p s n.seat at) ∙ ap (λ (i : ℕ). slice_get (set c.seats p n.seat) i) e.0 ∙ there in
        let is : n.seat ≡ t = cc in
        subst (λ (i : ℕ). IsSoundSeat c.opening n.story i t) e.0 (subst (λ (x : Seat). IsSoundSeat c.opening n.story p x) is keeps.own)
    | inr o ↦
        let other : q ≡ p → ⊥ = λ e. o.0 (sym e) in
        keeps.others q t other (sound.seats q t (sym (at_set_other c.seats p q n.seat other) ∙ there))
  ];
  holders_are_seats = subst (λ (l : ℕ). HoldersAreSeats (stands n.story.places n.story.homes) l) (sym (length-set c.seats p n.seat))
      (keeps.holders (length c.seats) (at_below c.seats p s at) sound.holders_are_seats);
}

-- where nothing is moved, nothing changes
pub unmoved_same : (c : CoreState) (p : ℕ) (s : Seat) → slice_get c.seats p ≡ Some s → with_moved c p (moved c.story s) ≡ c
unmoved_same c p s at = ap (λ (l : List Seat). let x : CoreState = record { opening = c.opening; story = c.story; seats = l } in x) (set_itself c.seats p s at)
  where
    set_itself : (xs : List Seat) (i : ℕ) (x : Seat) → slice_get xs i ≡ Some x → set xs i x ≡ xs
    set_itself [] i x e = refl
    set_itself (y ∷ xs) zero x e = let is : y ≡ x = cc in ap (λ (z : Seat). z ∷ xs) (sym is)
    set_itself (y ∷ xs) (suc i) x e = ap (λ (l : List Seat). y ∷ l) (set_itself xs i x e)
