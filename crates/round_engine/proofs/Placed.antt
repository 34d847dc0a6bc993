-- What is stored goes by the marks that were seen, one after another.
use Rattle.std.proofs.Common.{◌≡◌, ◌∙◌, ◌≤◌, ◌<◌, ◌+◌, ◌⊎◌, ◌++◌, ◌∷◌, inl, inr, sym, ap, subst, refl, ℕ, zero, suc, List, []}
use Rattle.std.proofs.Common.{arith, length, length-append, Option, Some}
use Rattle.std.specs.Prelude.{slice_get}
use Rattle.std.proofs.lemmas.Option.{same_Some}
use Rattle.lists.specs.Elements.{at_below}
use Rattle.log_writer.specs.Points.{point_of, sequence_of}
use Rattle.log_writer.specs.declared.saved.Saved.{Saved}
use Rattle.tx_script.specs.Causes.{last_sequence}
use Rattle.wire_form.specs.declared.clock.Mark.{Mark}
use Rattle.tx_script.specs.declared.answer.Answer.{Answer}
use Rattle.tx_script.specs.declared.answer.Answer.TheVariants as answers
use Rattle.worker_logs.specs.declared.savepoints.Beside.{Beside}
use Rattle.wire_form.specs.declared.savepoint.Savepoint.{Savepoint}
use Rattle.round_engine.specs.Keeping.{AreByPlace}
use Rattle.round_engine.specs.Saves.{beside_after, beside_at_end, beside_at_save, GoesBy, newest_after, saves_told}

-- ---- two lists, one behind the other

pub at_either : {A : Type 0} (xs ys : List A) (k : ℕ) (x : A) → slice_get (xs ++ ys) k ≡ Some x
    → (slice_get xs k ≡ Some x) ⊎ ((j : ℕ) × (k ≡ length xs + j) × (slice_get ys j ≡ Some x))
at_either [] ys k x at = inr (k, omega arith, at)
at_either (y ∷ xs) ys zero x at = inl at
at_either (y ∷ xs) ys (suc k) x at = elim (at_either xs ys k x at) [
  | inl early ↦ inl early
  | inr late ↦ inr (late.0, omega (arith, late.1), late.2)
]

pub at_early : {A : Type 0} (xs ys : List A) (k : ℕ) (x : A) → slice_get xs k ≡ Some x → slice_get (xs ++ ys) k ≡ Some x
at_early [] ys k x at = absurd (let no = at in cc)
at_early (y ∷ xs) ys zero x at = at
at_early (y ∷ xs) ys (suc k) x at = at_early xs ys k x at

at_late : {A : Type 0} (xs ys : List A) (k j : ℕ) (x : A) → k ≡ length xs + j → slice_get ys j ≡ Some x
    → slice_get (xs ++ ys) k ≡ Some x
at_late [] ys k j x is at = subst (λ n. slice_get ys n ≡ Some x) (sym (none_plus k j is)) at
  where
    none_plus : (k j : ℕ) → k ≡ 0 + j → k ≡ j
    none_plus k j is = omega (arith, is)
at_late (y ∷ xs) ys zero j x is at = absurd (omega (arith, is))
at_late (y ∷ xs) ys (suc k) j x is at = at_late xs ys k j x (omega (arith, is)) at

-- the sequence rises by one with each savepoint
pub sequence_after : (newest : Option Savepoint) (stored : List Saved)
    → sequence_of (newest_after newest stored) ≡ sequence_of newest + length stored
sequence_after newest [] = omega arith
sequence_after newest (s ∷ stored) =
    omega (arith, sequence_after (Some (point_of (sequence_of newest + 1) s)) stored)

-- ---- what counts beside

-- what counted beside the saves of some answers, and of those behind them
save_early : (b : Beside) (said told : List Answer) (k : ℕ) → k < length (saves_told said)
    → beside_at_save b (said ++ told) k ≡ beside_at_save b said k
save_early b [] told k below = absurd (omega (arith, below))
save_early b (answers.Save epoch ∷ said) told zero below = refl
save_early b (answers.Save epoch ∷ said) told (suc k) below = save_early b said told k (omega (arith, below))
save_early b (answer ∷ said) told k below = save_early (beside_after b answer) said told k below

save_late : (b : Beside) (said told : List Answer) (k j : ℕ) → k ≡ length (saves_told said) + j
    → beside_at_save b (said ++ told) k ≡ beside_at_save (beside_at_end b said) told j
save_late b [] told k j is = ap (beside_at_save b told) (none_plus k j is)
  where
    none_plus : (k j : ℕ) → k ≡ 0 + j → k ≡ j
    none_plus k j is = omega (arith, is)
save_late b (answers.Save epoch ∷ said) told zero j is = absurd (omega (arith, is))
save_late b (answers.Save epoch ∷ said) told (suc k) j is = save_late b said told k j (omega (arith, is))
save_late b (answer ∷ said) told k j is = save_late (beside_after b answer) said told k j is

-- a line that isn't run changes nothing of that
pub save_unrun : (b : Beside) (said : List Answer) (k : ℕ)
    → beside_at_save b (said ++ answers.Unrun ∷ []) k ≡ beside_at_save b said k
save_unrun b [] k = refl
save_unrun b (answers.Save epoch ∷ said) zero = refl
save_unrun b (answers.Save epoch ∷ said) (suc k) = save_unrun b said k
save_unrun b (answer ∷ said) k = save_unrun (beside_after b answer) said k

-- from epochs within others
pub goes_wider : {first last low high : ℕ} {b : Beside} {marks : List Mark} {saved : Saved}
    → GoesBy first last b marks saved → low ≤ first → last ≤ high → GoesBy low high b marks saved
goes_wider goes below above = record {
  clock = goes.clock;
  from = omega (arith, below, goes.from);
  to = omega (arith, above, goes.to);
  saves = goes.saves;
}

-- ---- lines, one after another

pub place_none : (first last : ℕ) (beside : ℕ → Beside) (n : ℕ) → AreByPlace first last beside [] [] n n
place_none first last beside n = record {
  by = λ k s at. absurd (let no = at in cc);
  left = λ k s at. absurd (let no = at in cc);
  all = λ below. refl;
}

-- a save that met the last sequence
pub place_limit : (first last : ℕ) (beside : ℕ → Beside) (marks : List Mark) (n : ℕ) → n ≡ last_sequence
    → AreByPlace first last beside (marks ∷ []) [] n n
place_limit first last beside marks n met = record {
  by = λ k s at. absurd (let no = at in cc);
  left = λ k s at. absurd (let no = at in cc);
  all = λ below. absurd (omega (arith, met, below));
}

-- one that was begun
pub place_one : (first last : ℕ) (beside : ℕ → Beside) (marks : List Mark) (s : Saved) (n m : ℕ) → n < last_sequence
    → GoesBy first last (beside 0) marks s → AreByPlace first last beside (marks ∷ []) (s ∷ []) n m
place_one first last beside marks s n m below goes = record {
  by = one;
  left = λ k x at. only k x at;
  all = λ less. refl;
}
  where
    one : (k : ℕ) (x : Saved) → slice_get (s ∷ []) k ≡ Some x
        → (these : List Mark) × (slice_get (marks ∷ []) k ≡ Some these) × GoesBy first last (beside k) these x
    one zero x at = (marks, refl, subst (GoesBy first last (beside 0) marks) (same_Some s x at) goes)
    one (suc k) x at = absurd (let no = at in cc)

    only : (k : ℕ) (x : Saved) → slice_get (s ∷ []) k ≡ Some x → n + k < last_sequence
    only zero x at = omega (arith, below)
    only (suc k) x at = absurd (let no = at in cc)

pub place_then : (first between last : ℕ) (b c : Beside) (said told : List Answer) (seen more : List (List Mark))
    (begun later : List Saved) (was mid is : ℕ) → first ≤ between → between ≤ last
    → length begun ≡ length (saves_told said) → c ≡ beside_at_end b said
    → AreByPlace first between (beside_at_save b said) seen begun was mid
    → AreByPlace between last (beside_at_save c told) more later mid is → mid ≡ was + length begun → mid ≤ is
    → AreByPlace first last (beside_at_save b (said ++ told)) (seen ++ more) (begun ++ later) was is
place_then first between last b c said told seen more begun later was mid is low high stored c_is front next many up = record {
  by = λ k s at. elim (at_either begun later k s at) [
    | inl early ↦
        let one = front.by k s early in
        let below : k < length (saves_told said) = omega (arith, at_below begun k s early, stored) in
        let same : beside_at_save b said k ≡ beside_at_save b (said ++ told) k = sym (save_early b said told k below) in (
          one.0,
          at_early seen more k one.0 one.1,
          goes_wider (subst (λ d. GoesBy first between d one.0 s) same one.2) (omega arith) high,
        )
    | inr late ↦
        let one = next.by late.0 s late.2 in
        let all = front.all (omega (arith, next.left late.0 s late.2)) in
        let same : beside_at_save c told late.0 ≡ beside_at_save b (said ++ told) k =
        ap (λ d. beside_at_save d told late.0) c_is
        ∙ sym (save_late b said told k late.0 (omega (arith, late.1, stored))) in (
          one.0,
          at_late seen more k late.0 one.0 (omega (arith, late.1, all)) one.1,
          goes_wider (subst (λ d. GoesBy between last d one.0 s) same one.2) low (omega arith),
        )
  ];
  left = λ k s at. elim (at_either begun later k s at) [
    | inl early ↦ front.left k s early
    | inr late ↦ omega (arith, next.left late.0 s late.2, late.1, many)
  ];
  all = λ below. omega (
    arith,
    front.all (omega (arith, below, up)),
    next.all below,
    length-append seen more,
    length-append begun later,
  );
}
