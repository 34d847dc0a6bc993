-- Whose commits a round has, and of which epochs.
use Rattle.std.proofs.Common.{◌≡◌, ◌≤◌, ◌<◌, ◌+◌, ap, arith, refl, List, [], ◌∷◌, length, ℕ}
use Rattle.std.specs.List.{AllByRecursion}
use Rattle.std.specs.List.Sorted.{IsPermutation}
use Rattle.std.proofs.lemmas.List.Elements.{All-from_recursion, recursion_from_All}
use Rattle.std.proofs.lemmas.List.Sorted.{All-permutation}
use Rattle.lists.specs.Each.{all_append, all_weaker}
use Rattle.serial_model.specs.History.{Entry}
use Rattle.serial_model.specs.State.{State}
use Rattle.serial_model.specs.declared.decl.Decl.{Decl}
use Rattle.serial_model.specs.declared.number.Number.{Number}
use Rattle.serial_model.specs.declared.op.Op.{Op}
use Rattle.script_grammar.specs.Script.{Round, worker_lines}
use Rattle.tx_script.specs.Run.{IsBetween, IsRun, Ran, printed_commits, entries_of_line, entries_of_round, entries_of_worker}
use Rattle.tx_script.specs.Run.{entries_of_workers}
use Rattle.tx_script.specs.declared.outcome.Outcome.{Outcome}
use Rattle.tx_script.specs.declared.outcome.Outcome.TheVariants.{Committed}

line_worker : (round worker line : ℕ) (ops : List Op) (outcome : Outcome) → worker < 8
    → AllByRecursion (λ e. e.worker < 8) (entries_of_line round worker line ops outcome)
line_worker round worker line ops (Committed verdict number replies) below = (below, tt)
line_worker round worker line ops _ below = tt

lines_worker : (round worker line : ℕ) (outcomes : List Outcome) (lines : List (List Op)) → worker < 8
    → AllByRecursion (λ e. e.worker < 8) (entries_of_worker round worker line outcomes lines)
lines_worker round worker line [] lines below = tt
lines_worker round worker line (outcome ∷ outcomes) [] below = tt
lines_worker round worker line (outcome ∷ outcomes) (ops ∷ lines) below =
    all_append (λ (e : Entry). e.worker < 8) (entries_of_line round worker line ops outcome)
    (entries_of_worker round worker (line + 1) outcomes lines) (line_worker round worker line ops outcome below)
    (lines_worker round worker (line + 1) outcomes lines below)

all_workers : (round worker : ℕ) (outcomes : List (List Outcome)) (lines : List (List (List Op)))
    → worker + length lines ≤ 8
    → AllByRecursion (λ e. e.worker < 8) (entries_of_workers round worker outcomes lines)
all_workers round worker [] lines few = tt
all_workers round worker (outcomes ∷ others) [] few = tt
all_workers round worker (outcomes ∷ others) (lines ∷ more) few =
    all_append (λ (e : Entry). e.worker < 8) (entries_of_worker round worker 0 outcomes lines)
    (entries_of_workers round (worker + 1) others more)
    (lines_worker round worker 0 outcomes lines (omega (arith, few)))
    (all_workers round (worker + 1) others more (omega (arith, few)))

-- what holds of all commits holds of them in another order
all_ordered : (P : Entry → Type 0) (xs ys : List Entry) → IsPermutation xs ys → AllByRecursion P xs
    → AllByRecursion P ys
all_ordered P xs ys same all = recursion_from_All P ys (All-permutation P xs ys same (All-from_recursion P xs all))

-- the commits of one round are of workers 0 to 7, and of epochs from the clock's on, up to that at its end
pub record AreOfRound (first last : ℕ) (ordered : List Entry) : Type 0 where
  pub workers : AllByRecursion (λ e. e.worker < 8) ordered
  pub later : AllByRecursion (λ e. first ≤ e.number.epoch) ordered
  pub earlier : AllByRecursion (λ e. e.number.epoch ≤ last) ordered

pub of_round : {decls : List Decl} {index : ℕ} {round : Round} {s t : State} {clock : Number} {ran : Ran}
    → (run : IsRun decls index (round ∷ []) s clock (ran ∷ []) t) → AreOfRound clock.epoch ran.printed.end.epoch run.ordered
of_round {index = index} {round = round} {clock = clock} {ran = ran} run =
    let eight : length (worker_lines round) ≡ 8 = refl in
    let begins : ran.printed.begin.epoch ≡ clock.epoch = ap (λ (n : Number). n.epoch) run.clocks.0 in
    record {
      workers = all_ordered (λ e. e.worker < 8) (printed_commits index (ran ∷ []) (round ∷ [])) run.ordered run.same
          (all_append (λ (e : Entry). e.worker < 8) (entries_of_round index ran round) []
          (all_workers index 0 ran.printed.outcomes (worker_lines round) (omega (arith, eight))) tt);
      later = all_ordered (λ e. clock.epoch ≤ e.number.epoch) (printed_commits index (ran ∷ []) (round ∷ [])) run.ordered
          run.same (all_append (λ (e : Entry). clock.epoch ≤ e.number.epoch) (entries_of_round index ran round) []
          (all_weaker (λ (e : Entry). IsBetween ran.printed.begin ran.printed.end e.number)
          (λ (e : Entry). clock.epoch ≤ e.number.epoch)
          (λ e between. omega (arith, begins, between.epoch_from)) (entries_of_round index ran round)
          run.clocks.1.numbers) tt);
      earlier = all_ordered (λ e. e.number.epoch ≤ ran.printed.end.epoch) (printed_commits index (ran ∷ []) (round ∷ [])) run.ordered
          run.same (all_append (λ (e : Entry). e.number.epoch ≤ ran.printed.end.epoch) (entries_of_round index ran round) []
          (all_weaker (λ (e : Entry). IsBetween ran.printed.begin ran.printed.end e.number)
          (λ (e : Entry). e.number.epoch ≤ ran.printed.end.epoch)
          (λ e between. between.epoch_to) (entries_of_round index ran round) run.clocks.1.numbers) tt);
    }
