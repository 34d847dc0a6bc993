-- One line more that began so, one mark more, and the lines behind the last one that was run.
use Rattle.std.proofs.Common.{◌≡◌, ◌≤◌, ◌++◌, ◌∷◌, ℕ, zero, suc, List, [], Option, Some, None, arith}
use Rattle.std.specs.Prelude.{slice_get, true}
use Rattle.std.specs.List.{AllByRecursion}
use Rattle.tx_script.specs.Causes.{is_unrun}
use Rattle.tx_script.specs.Readied.{AreReadied, BeganAt, Readied, ReadiedUpTo, epoch_behind}
use Rattle.tx_script.specs.Seen.{AreEpochs, AreMarksInOrder}
use Rattle.tx_script.specs.declared.outcome.Outcome.{Outcome}

-- what stands at a place stands there with more behind
at_front : {A : Type 0} (xs ys : List A) (i : ℕ) (x : A) → slice_get xs i ≡ Some x → slice_get (xs ++ ys) i ≡ Some x
at_front [] ys i x there = absurd cc
at_front (y ∷ xs) ys zero x there = there
at_front (y ∷ xs) ys (suc i) x there = at_front xs ys i x there

began_more : (marks more : List (Option ℕ)) (r : Readied) (o : Outcome) → BeganAt marks r o
    → BeganAt (marks ++ more) r o
began_more marks more r o b = record {
  ran = b.ran;
  mark = b.mark;
  stood = at_front marks more r.place (Some b.mark) b.stood;
  late = b.late;
  drew = b.drew;
}

-- up to a later epoch and place
pub readied_later : (low place : ℕ) (marks : List (Option ℕ)) (rs : List Readied) (os : List Outcome)
    (high later last then : ℕ) → high ≤ later → last ≤ then → ReadiedUpTo low place marks rs os high last
    → ReadiedUpTo low place marks rs os later then
readied_later low place marks [] [] high later last then up on are =
    (omega (arith, up, are.0), omega (arith, on, are.1))
readied_later low place marks [] (o ∷ os) high later last then up on are = absurd are
readied_later low place marks (r ∷ rs) [] high later last then up on are = absurd are
readied_later low place marks (r ∷ rs) (o ∷ os) high later last then up on are = (
  are.0,
  are.1,
  are.2,
  readied_later (epoch_behind r.epoch o) r.place marks rs os high later last then up on are.3,
)

-- with more marks behind
pub readied_more : (low place : ℕ) (marks more : List (Option ℕ)) (rs : List Readied) (os : List Outcome)
    (high last : ℕ) → ReadiedUpTo low place marks rs os high last
    → ReadiedUpTo low place (marks ++ more) rs os high last
readied_more low place marks more [] [] high last are = are
readied_more low place marks more [] (o ∷ os) high last are = absurd are
readied_more low place marks more (r ∷ rs) [] high last are = absurd are
readied_more low place marks more (r ∷ rs) (o ∷ os) high last are = (
  are.0,
  are.1,
  began_more marks more r o are.2,
  readied_more (epoch_behind r.epoch o) r.place marks more rs os high last are.3,
)

-- one line more
pub readied_push : (low place : ℕ) (marks : List (Option ℕ)) (rs : List Readied) (os : List Outcome)
    (high last : ℕ) (r : Readied) (o : Outcome) → ReadiedUpTo low place marks rs os high last
    → high ≤ r.epoch → last ≤ r.place → BeganAt marks r o
    → ReadiedUpTo low place marks (rs ++ r ∷ []) (os ++ o ∷ []) (epoch_behind r.epoch o) r.place
readied_push low place marks [] [] high last r o are up on b =
    (omega (arith, up, are.0), omega (arith, on, are.1), b, (omega arith, omega arith))
readied_push low place marks [] (x ∷ os) high last r o are up on b = absurd are
readied_push low place marks (q ∷ rs) [] high last r o are up on b = absurd are
readied_push low place marks (q ∷ rs) (x ∷ os) high last r o are up on b =
    (are.0, are.1, are.2, readied_push (epoch_behind q.epoch x) q.place marks rs os high last r o are.3 up on b)

-- behind them none was run
pub readied_whole : (low place : ℕ) (marks : List (Option ℕ)) (rs : List Readied) (os left : List Outcome)
    (high last : ℕ) → ReadiedUpTo low place marks rs os high last → AllByRecursion (λ o. is_unrun o ≡ true) left
    → AreReadied low place marks rs (os ++ left)
readied_whole low place marks [] [] left high last are unrun = unrun
readied_whole low place marks [] (o ∷ os) left high last are unrun = absurd are
readied_whole low place marks (r ∷ rs) [] left high last are unrun = absurd are
readied_whole low place marks (r ∷ rs) (o ∷ os) left high last are unrun =
    (are.0, are.1, are.2, readied_whole (epoch_behind r.epoch o) r.place marks rs os left high last are.3 unrun)

-- ---- marks in order

epochs_push : (low : ℕ) (es : List (Option ℕ)) (a e : ℕ) → AreEpochs low (es ++ Some a ∷ []) → a ≤ e
    → AreEpochs low ((es ++ Some a ∷ []) ++ Some e ∷ [])
epochs_push low [] a e are up = (are.0, (up, tt))
epochs_push low (Some x ∷ es) a e are up = (are.0, epochs_push x es a e are.1 up)
epochs_push low (None ∷ es) a e are up = absurd are

some_behind : (es : List (Option ℕ)) (a : Option ℕ) → es ++ a ∷ [] ≡ [] → ⊥
some_behind [] a is = absurd cc
some_behind (x ∷ es) a is = absurd cc

-- one more, of no earlier epoch than the last one
pub marks_push : (es : List (Option ℕ)) (a e : ℕ) → AreMarksInOrder (es ++ Some a ∷ []) → a ≤ e
    → AreMarksInOrder ((es ++ Some a ∷ []) ++ Some e ∷ [])
marks_push [] a e are up = (up, tt)
marks_push (Some x ∷ es) a e are up = epochs_push x es a e are up
marks_push (None ∷ es) a e are up = absurd (some_behind es (Some a) are)
