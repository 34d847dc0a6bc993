-- Attempts in progress, each of which is its seat's.
use Rattle.std.proofs.Common.{◌≡◌, ◌⊎◌, inl, inr, ℕ, zero, suc, ◌<◌, true, List, [], ◌∷◌}
use Rattle.std.proofs.Common.{◌++◌, length, refl, sym, ap, ◌∙◌, subst, Some}
use Rattle.std.specs.List.{slice_get}
use Rattle.commit_core.specs.declared.attempt.Attempt.{Attempt}
use Rattle.commit_core.specs.declared.attempt.Check.{Check}
use Rattle.commit_core.specs.declared.part.Word.{Word}
use Rattle.commit_core.specs.declared.seat.Seat.{Seat}
use Rattle.commit_core.specs.declared.seat.Stage.{Stage}
use Rattle.commit_core.specs.declared.seat.Stage.TheVariants.{Idle, Trying}
use Rattle.commit_core.specs.declared.story.Story.{Story}
use Rattle.commit_core.specs.CoreState.{attempt_tried, is_in_progress}
use Rattle.commit_core.specs.Opening.{Grows}
use Rattle.lists.specs.Fronts.{IsFront}
use Rattle.engine_pages.specs.Rule.{EachIsTried, IsTrying, Tried}
use Rattle.engine_pages.proofs.Seats.{by_equal, put_seat, put_same, put_other, at_front, was_in_progress}

-- the attempt that the view tries
pub tried_at : (p : ℕ) (history : List Attempt) (checks : List Check) (checked : List Word) (mine : List Attempt)
    (stage : Stage) (i : ℕ) (a : Attempt) → stage ≡ Trying i → slice_get history i ≡ Some a
    → Tried p history checks checked mine stage → IsTrying p history checks checked mine i a
tried_at p history checks checked mine stage i a is at h =
    let t = subst (Tried p history checks checked mine) is h in
    let same : t.0 ≡ a = let both : Some t.0 ≡ Some a = sym t.1.at ∙ at in cc in
    subst (IsTrying p history checks checked mine i) same t.1

pub attempt_here : (history all : List Attempt) (stage : Stage) (i : ℕ) (a : Attempt) → stage ≡ Trying i
    → slice_get history i ≡ Some a → IsFront history all → attempt_tried all stage ≡ Some a
attempt_here history all stage i a is at front = ap (attempt_tried all) is ∙ at_front history all i a front at

-- who has an attempt in progress isn't idle
pub never_idle : (stage : Stage) (i : ℕ) → stage ≡ Trying i → stage ≡ Idle → ⊥
never_idle stage i tries idle = cc

-- Where no attempt is drawn, and the seat's own is over: each other one is tried as before.
pub tried_over : (m n : Story) (seats : ℕ → Seat) (p i : ℕ) (s t : Seat) (a : Attempt) → s ≡ seats p → s.stage ≡ Trying i
    → slice_get m.history i ≡ Some a → n.history ≡ m.history → Grows m n
    → (is_in_progress n.decided n.given_up a.number ≡ true → ⊥) → EachIsTried m seats → EachIsTried n (put_seat seats p t)
tried_over m n seats p i s t a is stage at history g over h j b there now =
    let was-there : slice_get m.history j ≡ Some b =
    subst (λ (x : List Attempt). slice_get x j ≡ Some b) history there in
    let was = h j b was-there (was_in_progress m n b.number g now) in (
      was.0,
      by_equal b.seat p (λ q. (seats q).stage ≡ Trying j → (put_seat seats p t q).stage ≡ Trying j)
          (λ tried.
          let both : Trying j ≡ Trying i = sym (ap (λ (x : Seat). x.stage) is ∙ tried) ∙ stage in
          let index : j ≡ i = cc in
          let same : b ≡ a =
          let one : Some b ≡ Some a = sym was-there ∙ ap (slice_get m.history) index ∙ at in cc in
          absurd (over (subst (λ (x : Attempt). is_in_progress n.decided n.given_up x.number ≡ true) same now)))
          (λ other tried. ap (λ (x : Seat). x.stage) (put_other seats p t b.seat other) ∙ tried) was.1,
    )

-- Where one attempt is drawn by a seat that had none.
pub tried_drawn : (m : Story) (seats : ℕ → Seat) (p : ℕ) (s t : Seat) (a : Attempt) → s ≡ seats p
    → ((i : ℕ) → s.stage ≡ Trying i → ⊥) → p < 9 → a.seat ≡ p → t.stage ≡ Trying (length m.history) → EachIsTried m seats
    → EachIsTried (record m { history = m.history ++ a ∷ [] }) (put_seat seats p t)
tried_drawn m seats p s t a is none few own stage h i b there now =
    elim (at_push_cases m.history a i b there) [
      | inl old ↦
          let was = h i b old now in (
            was.0,
            by_equal b.seat p (λ q. (seats q).stage ≡ Trying i → (put_seat seats p t q).stage ≡ Trying i)
                (λ tried. absurd (none i (ap (λ (x : Seat). x.stage) is ∙ tried)))
                (λ other tried. ap (λ (x : Seat). x.stage) (put_other seats p t b.seat other) ∙ tried) was.1,
          )
      | inr new ↦
          let here : b.seat ≡ p = ap (λ (x : Attempt). x.seat) (sym new.1) ∙ own in (
            subst (λ q. q < 9) (sym here) few,
            ap (λ (x : Seat). x.stage) (put_same seats p t b.seat here) ∙ (stage ∙ ap Trying (sym new.0)),
          )
    ]
  where
    at_push_cases : (xs : List Attempt) (y : Attempt) (i : ℕ) (b : Attempt) → slice_get (xs ++ y ∷ []) i ≡ Some b
        → (slice_get xs i ≡ Some b) ⊎ ((i ≡ length xs) × (y ≡ b))
    at_push_cases [] y zero b e = inr (refl, cc)
    at_push_cases [] y (suc i) b e = absurd (cc)
    at_push_cases (x ∷ xs) y zero b e = inl e
    at_push_cases (x ∷ xs) y (suc i) b e = elim (at_push_cases xs y i b e) [
      | inl old ↦ inl old
      | inr new ↦ inr (ap suc new.0, new.1)
    ]
