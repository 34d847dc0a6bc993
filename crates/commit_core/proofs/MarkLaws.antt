-- Marks of a seat.
use Rattle.std.proofs.Common.{◌≡◌, ℕ, ◌+◌, ◌<◌, ◌≤◌, true, List, [], ◌∷◌, ◌++◌, refl, sym, ap, ◌∙◌, subst, arith, length, Option, Some, None}
use Rattle.std.proofs.lemmas.Bool.{and_parts}
use Rattle.std.proofs.lemmas.Bool.Decides.{nat_tests}
use Rattle.std.specs.Prelude.{fold, unwrap_or, nat_lt, nat_le}
use Rattle.commit_core.specs.declared.attempt.Attempt.{Attempt}
use Rattle.commit_core.specs.declared.seat.Mark.{Mark}
use Rattle.commit_core.specs.declared.seat.Stage.{Stage}
use Rattle.commit_core.specs.declared.seat.Stage.TheVariants.{Idle, Trying, Ended, Decided}
use Rattle.commit_core.specs.CoreState.{mark_of, last_marked, can_mark}
use Rattle.commit_core.specs.Sound.Marks.{IsAboveMark, MarksArePast}
use Rattle.lists.specs.Elements.{at_push_new}
use Rattle.commit_core.proofs.ReadLaws.{IsThere, same_at}

pub marks_drawn : (epoch : ℕ) (h : List Attempt) (a : Attempt) (marks : List Mark) (stage : Stage) → IsThere h stage → MarksArePast epoch h marks stage → MarksArePast epoch (h ++ a ∷ []) marks stage
marks_drawn epoch h a marks stage there past = λ e m. let was = past e m in (was.0, above e stage there was.1)
  where
    above : (e : ℕ) (stage : Stage) → IsThere h stage → IsAboveMark h stage e → IsAboveMark (h ++ a ∷ []) stage e
    above e Idle there l = tt
    above e (Trying i) there l = λ b at. l b (there.1 ∙ ap (λ (x : Attempt). Some x) (same_at h a i there.0 b there.1 at))
    above e Ended there l = tt
    above e (Decided i) there l = tt

-- the own attempt is drawn, in the clock's epoch
pub marks_draw : (epoch : ℕ) (h : List Attempt) (a : Attempt) (marks : List Mark) (stage : Stage) → a.number.epoch ≡ epoch → MarksArePast epoch h marks stage
    → MarksArePast epoch (h ++ a ∷ []) marks (Trying (length h))
marks_draw epoch h a marks stage e past = λ m is. (
  (past m is).0,
  λ b at. let both : Some a ≡ Some b = sym (at_push_new h a) ∙ at in let same : a ≡ b = cc in
      let l = (past m is).0 in subst (λ (x : Attempt). m < x.number.epoch) same (rw e l),
)

pub marks_later : (epoch : ℕ) (h : List Attempt) (marks : List Mark) (stage : Stage) → MarksArePast epoch h marks stage → MarksArePast (epoch + 1) h marks stage
marks_later epoch h marks stage past = λ e m. let l = (past e m).0 in (omega arith, (past e m).1)

-- where no attempt is in progress, the mark is below the clock and no more
pub marks_rest : (epoch : ℕ) (h : List Attempt) (marks : List Mark) (stage stage' : Stage) → ((e : ℕ) → IsAboveMark h stage' e) → MarksArePast epoch h marks stage → MarksArePast epoch h marks stage'
marks_rest epoch h marks stage stage' above past = λ e m. ((past e m).0, above e)

mark_of-push : (marks : List Mark) (m : Mark) → mark_of (marks ++ m ∷ []) ≡ m.epoch
mark_of-push marks m = pushed marks None
  where
    pushed : (before : List Mark) (first : Option ℕ) → fold (λ _ x. x.epoch) first (before ++ m ∷ []) ≡ m.epoch
    pushed [] first = refl
    pushed (x ∷ before) first = pushed before x.epoch

pub marks_marked : (epoch : ℕ) (h : List Attempt) (marks : List Mark) (m : Mark) (stage : Stage) → ((e : ℕ) → m.epoch ≡ Some e → e < epoch) → ((e : ℕ) → IsAboveMark h stage e)
    → MarksArePast epoch h (marks ++ m ∷ []) stage
marks_marked epoch h marks m stage below above = λ e is. (below e (sym (mark_of-push marks m) ∙ is), above e)

last_marked-pushed : (marks : List Mark) (low : ℕ) (m : Mark) → fold (λ low x. unwrap_or x.epoch low) low (marks ++ m ∷ []) ≡ unwrap_or m.epoch (fold (λ low x. unwrap_or x.epoch low) low marks)
last_marked-pushed [] low m = refl
last_marked-pushed (x ∷ marks) low m = last_marked-pushed marks (unwrap_or x.epoch low) m

-- a mark that may be set names no epoch below the last one
pub last_marked-push : (epoch : ℕ) (marks : List Mark) (m : Mark) → can_mark epoch marks m.epoch ≡ true → last_marked marks ≤ last_marked (marks ++ m ∷ [])
last_marked-push epoch marks m can = rw (last_marked-pushed marks 0 m) (not_below m.epoch can)
  where
    not_above : (a b : ℕ) → nat_le a b ≡ true → a ≤ b
    not_above a b e = grind (arith, nat_tests)

    not_below : (o : Option ℕ) → can_mark epoch marks o ≡ true → last_marked marks ≤ unwrap_or o (last_marked marks)
    not_below None can = omega arith
    not_below (Some e) can = not_above (last_marked marks) e (and_parts (nat_lt e epoch) (nat_le (last_marked marks) e) can).1
