-- Lengths of the log files of even and of odd number, in turn.
use Rattle.std.proofs.Common.{◌≡◌, ◌<◌, ◌*◌, ◌∷◌, ℕ, suc, List, [], length, get_or, drop, drop-cons}
use Rattle.std.proofs.Common.{refl, sym, ◌∙◌, ap, arith}
use Rattle.std.specs.List.{AllByRecursion}
use Rattle.std.proofs.lemmas.List.{drop_all}
use Rattle.worker_logs.specs.Saves.{in_turn, lengths_by}
use Rattle.worker_logs.specs.declared.savepoints.Side.{Side}
use Rattle.worker_logs.specs.declared.savepoints.Side.TheVariants.{Even, Odd}

pub turn_from : (even odd : List ℕ) (i : ℕ) (rest : List ℕ) → i < length even → i < length odd
    → rest ≡ in_turn (drop (suc i) even) (drop (suc i) odd)
    → get_or even i 0 ∷ get_or odd i 0 ∷ rest ≡ in_turn (drop i even) (drop i odd)
turn_from even odd i rest within odd_within same =
    ap (λ l. get_or even i 0 ∷ get_or odd i 0 ∷ l) same
    ∙ sym (ap (λ l. in_turn l (drop i odd)) (drop-cons even i 0 within)
    ∙ ap (λ l. in_turn (get_or even i 0 ∷ drop (suc i) even) l) (drop-cons odd i 0 odd_within))

pub turn_end : (even odd : List ℕ) → length even ≡ 8 → [] ≡ in_turn (drop 8 even) (drop 8 odd)
turn_end even odd eight = sym (ap (λ l. in_turn l (drop 8 odd)) (drop_all 8 even (omega (arith, eight))))

-- how many they are
turns_length : (even odd : List ℕ) → length even ≡ length odd → length (in_turn even odd) ≡ 2 * length even
turns_length [] odd same = refl
turns_length (x ∷ xs) [] same = absurd (omega (arith, same))
turns_length (x ∷ xs) (y ∷ ys) same = omega (arith, turns_length xs ys (omega (arith, same)))

-- what holds of all of both holds of them
all_turns : (P : ℕ → Type 0) (even odd : List ℕ) → AllByRecursion P even → AllByRecursion P odd
    → AllByRecursion P (in_turn even odd)
all_turns P [] odd evens odds = tt
all_turns P (x ∷ xs) [] evens odds = tt
all_turns P (x ∷ xs) (y ∷ ys) evens odds = (evens.0, (odds.0, all_turns P xs ys evens.1 odds.1))

pub lengths_length : (side : Side) (growing closed : List ℕ) → length growing ≡ 8 → length closed ≡ 8
    → length (lengths_by side growing closed) ≡ 16
lengths_length Even growing closed eight closed_eight =
    omega (arith, turns_length growing closed (eight ∙ sym closed_eight), eight)
lengths_length Odd growing closed eight closed_eight =
    omega (arith, turns_length closed growing (closed_eight ∙ sym eight), closed_eight)

pub lengths_all : (P : ℕ → Type 0) (side : Side) (growing closed : List ℕ) → AllByRecursion P growing
    → AllByRecursion P closed → AllByRecursion P (lengths_by side growing closed)
lengths_all P Even growing closed all closed_all = all_turns P growing closed all closed_all
lengths_all P Odd growing closed all closed_all = all_turns P closed growing closed_all all
