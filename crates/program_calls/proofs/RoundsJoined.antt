-- Rounds that were run, and one more after their join.
use Rattle.std.proofs.Common.{◌≡◌, inl, ◌∙◌, sym, ap, subst, refl, ℕ, ◌+◌, ◌<◌, ◌≤◌, Bool, true, false, cond, List, [], ◌∷◌, ◌++◌, length, filter, Some, arith, append_assoc, add-zero}
use Rattle.std.specs.List.{AllByRecursion, slice_get}
use Rattle.std.specs.List.Sorted.{IsPermutation}
use Rattle.std.specs.Prelude.{◌==◌}
use Rattle.std.proofs.lemmas.List.{append-nil}
use Rattle.std.proofs.lemmas.List.Elements.{All-from_recursion, filter-append, recursion_from_All}
use Rattle.std.proofs.lemmas.List.Sorted.{All-permutation, IsPermutation-append}
use Rattle.lists.specs.Each.{all_append}
use Rattle.serial_model.specs.State.{State}
use Rattle.serial_model.specs.History.{AnswersAlong, Entry, InOrder, Precedes, Rises, state_after, state_after_all}
use Rattle.serial_model.specs.Numbers.{IsBelow}
use Rattle.serial_model.specs.declared.decl.Decl.{Decl}
use Rattle.serial_model.specs.declared.number.Number.{Number}
use Rattle.script_grammar.specs.Script.{Round}
use Rattle.tx_script.specs.Run.{AdvancesTo, AreOfFirst, IsBetween, IsOfRound, IsRun, Ran, RunsClock, RunsClocks, printed_commits, entries_of_round, joined, of_worker}
use Rattle.tx_script.specs.declared.answer.Answer.{Answer}
use Rattle.tx_script.specs.declared.answer.Answer.TheVariants as answers

-- ---- lists in order

-- what comes first has R to what comes then
precedes-append : (R : Entry → Entry → Type 0) (e : Entry) (xs ys : List Entry) → Precedes R e xs → Precedes R e ys → Precedes R e (xs ++ ys)
precedes-append R e [] ys first then = then
precedes-append R e (x ∷ xs) ys first then = (first.0, precedes-append R e xs ys first.1 then)

-- an entry with R to all that have P precedes those
precedes_all : (R : Entry → Entry → Type 0) (P : Entry → Type 0) (e : Entry) (ys : List Entry) → ((y : Entry) → P y → R e y) → AllByRecursion P ys → Precedes R e ys
precedes_all R P e [] has all = tt
precedes_all R P e (y ∷ ys) has all = (has y all.0, precedes_all R P e ys has all.1)

-- two lists in order, where all of the first have R to all of the second
in_order-append : (R : Entry → Entry → Type 0) (P Q : Entry → Type 0) (xs ys : List Entry) → ((x y : Entry) → P x → Q y → R x y) → AllByRecursion P xs → AllByRecursion Q ys → InOrder R xs → InOrder R ys → InOrder R (xs ++ ys)
in_order-append R P Q [] ys has before after first then = then
in_order-append R P Q (x ∷ xs) ys has before after first then =
    (precedes-append R x xs ys first.0 (precedes_all R Q x ys (λ y. has x y before.0) after), in_order-append R P Q xs ys has before.1 after first.1 then)

-- what holds of all entries holds of those that are kept
all-kept : (P : Entry → Type 0) (p : Entry → Bool) (xs : List Entry) → AllByRecursion P xs → AllByRecursion P (filter p xs)
all-kept P p [] all = tt
all-kept P p (x ∷ xs) all = elim (p x) as (λ b. AllByRecursion P (cond b (x ∷ filter p xs) (filter p xs))) [
  | true ↦ (all.0, all-kept P p xs all.1)
  | false ↦ all-kept P p xs all.1
]

-- what holds of all entries holds of them in another order
all-reordered : (P : Entry → Type 0) (xs ys : List Entry) → IsPermutation xs ys → AllByRecursion P xs → AllByRecursion P ys
all-reordered P xs ys same all = recursion_from_All P ys (All-permutation P xs ys same (All-from_recursion P xs all))

-- ---- clocks

-- the clock after the join of the last round
abbrev pub clock_from : Number → List Ran → Number
clock_from clock [] = clock
clock_from clock (ran ∷ rans) = clock_from (joined ran.printed.end) rans

-- the entry has a number below the clock, in an epoch that is over
abbrev pub IsPast : Number → Entry → Type 0
IsPast clock e = (e.number.epoch < clock.epoch) × (e.number.draw < clock.draw)

-- the entry has a number from the clock on
abbrev pub IsFrom : Number → Entry → Type 0
IsFrom clock e = (clock.epoch ≤ e.number.epoch) × (clock.draw ≤ e.number.draw)

-- answers never take an epoch back
advances_later : (first : ℕ) (answers : List Answer) (last : ℕ) → AdvancesTo first answers last → first ≤ last
advances_later first [] last same = omega arith
advances_later first (answers.Epoch epoch ∷ more) last up = let next = up.0 in let rest = advances_later epoch more last up.1 in omega arith
advances_later first (_ ∷ more) last up = advances_later first more last up

-- the clock never falls along the rounds
clock_from-later : (index : ℕ) (clock : Number) (rans : List Ran) (rounds : List Round) → RunsClocks index clock rans rounds
    → (clock.epoch ≤ (clock_from clock rans).epoch) × (clock.draw ≤ (clock_from clock rans).draw)
clock_from-later index clock [] rounds runs = (omega arith, omega arith)
clock_from-later index clock (ran ∷ rans) [] runs = absurd runs
clock_from-later index clock (ran ∷ rans) (round ∷ rounds) runs =
    let rest = clock_from-later (index + 1) (joined ran.printed.end) rans rounds runs.2 in
    let epoch : ran.printed.begin.epoch ≡ clock.epoch = ap (λ (n : Number). n.epoch) runs.0 in
    let draw : ran.printed.begin.draw ≡ clock.draw = ap (λ (n : Number). n.draw) runs.0 in
    let own = runs.1 in
    (omega (arith, rest.0, advances_later ran.printed.begin.epoch ran.printed.answers ran.printed.end.epoch own.epoch), omega (arith, rest.1, own.draw))

-- the commits of a round are past once its join has advanced the epoch
past_of_round : (clock : Number) (ran : Ran) (es : List Entry) → ran.printed.end.epoch < clock.epoch → ran.printed.end.draw ≤ clock.draw → AllByRecursion (λ e. IsBetween ran.printed.begin ran.printed.end e.number) es → AllByRecursion (IsPast clock) es
past_of_round clock ran [] epoch draw all = tt
past_of_round clock ran (e ∷ es) epoch draw all =
    let own = all.0 in ((omega (arith, own.epoch_to), omega (arith, own.draw_before)), past_of_round clock ran es epoch draw all.1)

-- the commits of a round have numbers from its begin on
from_of_round : (ran : Ran) (es : List Entry) → AllByRecursion (λ e. IsBetween ran.printed.begin ran.printed.end e.number) es → AllByRecursion (IsFrom ran.printed.begin) es
from_of_round ran [] all = tt
from_of_round ran (e ∷ es) all = let own = all.0 in ((own.epoch_from, own.draw_from), from_of_round ran es all.1)

-- all commits so far are before the clock
past_so_far : (index : ℕ) (clock : Number) (rans : List Ran) (rounds : List Round) → RunsClocks index clock rans rounds → AllByRecursion (IsPast (clock_from clock rans)) (printed_commits index rans rounds)
past_so_far index clock [] rounds runs = tt
past_so_far index clock (ran ∷ rans) [] runs = absurd runs
past_so_far index clock (ran ∷ rans) (round ∷ rounds) runs =
    let later = clock_from-later (index + 1) (joined ran.printed.end) rans rounds runs.2 in
    let own = runs.1 in
    all_append (IsPast (clock_from (joined ran.printed.end) rans)) (entries_of_round index ran round) (printed_commits (index + 1) rans rounds)
    (past_of_round (clock_from (joined ran.printed.end) rans) ran (entries_of_round index ran round) (omega (arith, later.0)) (omega (arith, later.1)) own.numbers)
    (past_so_far (index + 1) (joined ran.printed.end) rans rounds runs.2)

-- ---- one more round

-- the commits of one round more stand behind those of the rounds before it
pub printed_commits-push : (index : ℕ) (rans : List Ran) (ran : Ran) (rounds : List Round) (round : Round) → slice_get rounds (length rans) ≡ Some round → AreOfFirst rans rounds
    → printed_commits index (rans ++ ran ∷ []) rounds ≡ printed_commits index rans rounds ++ entries_of_round (index + length rans) ran round
printed_commits-push index [] ran [] round at first = cc
printed_commits-push index [] ran (r ∷ rounds) round at first =
    let same : r ≡ round = cc in
    append-nil (entries_of_round index ran r) ∙ ap (λ x. entries_of_round index ran x) same ∙ ap (λ i. entries_of_round i ran round) (sym (add-zero index))
printed_commits-push index (q ∷ rans) ran [] round at first = absurd first
printed_commits-push index (q ∷ rans) ran (r ∷ rounds) round at first =
    let later : (index + 1) + length rans ≡ index + length (q ∷ rans) = omega arith in
    ap (λ es. entries_of_round index q r ++ es) (printed_commits-push (index + 1) rans ran rounds round at first.1 ∙ ap (λ i. printed_commits (index + 1) rans rounds ++ entries_of_round i ran round) later)
    ∙ sym (append_assoc (entries_of_round index q r) (printed_commits (index + 1) rans rounds) (entries_of_round (index + length (q ∷ rans)) ran round))

-- the rounds that were run are the first ones, with one more too
are_of_first-push : (rans : List Ran) (ran : Ran) (rounds : List Round) (round : Round) → slice_get rounds (length rans) ≡ Some round → AreOfFirst rans rounds → IsOfRound ran round → AreOfFirst (rans ++ ran ∷ []) rounds
are_of_first-push [] ran [] round at first each = cc
are_of_first-push [] ran (r ∷ rounds) round at first each = let same : r ≡ round = cc in (subst (λ x. IsOfRound ran x) (sym same) each, tt)
are_of_first-push (q ∷ rans) ran [] round at first each = absurd first
are_of_first-push (q ∷ rans) ran (r ∷ rounds) round at first each = (first.0, are_of_first-push rans ran rounds round at first.1 each)

-- the clocks run on through one round more
runs_clocks-push : (index : ℕ) (clock : Number) (rans : List Ran) (ran : Ran) (rounds : List Round) (round : Round) → slice_get rounds (length rans) ≡ Some round
    → RunsClocks index clock rans rounds → ran.printed.begin ≡ clock_from clock rans → RunsClock (index + length rans) ran round → RunsClocks index clock (rans ++ ran ∷ []) rounds
runs_clocks-push index clock [] ran [] round at runs begins own = cc
runs_clocks-push index clock [] ran (r ∷ rounds) round at runs begins own =
    let same : r ≡ round = cc in
    (begins, subst (λ x. RunsClock index ran x) (sym same) (subst (λ i. RunsClock i ran round) (add-zero index) own), tt)
runs_clocks-push index clock (q ∷ rans) ran [] round at runs begins own = absurd runs
runs_clocks-push index clock (q ∷ rans) ran (r ∷ rounds) round at runs begins own =
    let later : index + length (q ∷ rans) ≡ (index + 1) + length rans = omega arith in
    (runs.0, runs.1, runs_clocks-push (index + 1) (joined q.printed.end) rans ran rounds round at runs.2 begins (subst (λ i. RunsClock i ran round) later own))

-- ---- serial runs in a row

-- the state after two runs in a row
state_after_all-append : (decls : List Decl) (s : State) (xs ys : List Entry) → state_after_all decls s (xs ++ ys) ≡ state_after_all decls (state_after_all decls s xs) ys
state_after_all-append decls s [] ys = refl
state_after_all-append decls s (x ∷ xs) ys = state_after_all-append decls (state_after decls s x) xs ys

-- two serial runs in a row answer as one
answers-append : (decls : List Decl) (s : State) (xs ys : List Entry) → AnswersAlong decls xs s → AnswersAlong decls ys (state_after_all decls s xs) → AnswersAlong decls (xs ++ ys) s
answers-append decls s [] ys first then = then
answers-append decls s (x ∷ xs) ys first then = (first.0, answers-append decls (state_after decls s x) xs ys first.1 then)

-- the runs of rounds and of the one after them are a run of all of them
pub run-push : (decls : List Decl) (rounds : List Round) (s : State) (clock : Number) (rans : List Ran) (t u : State) (ran : Ran) (round : Round)
    → slice_get rounds (length rans) ≡ Some round → (so : IsRun decls 0 rounds s clock rans t) → ran.printed.begin ≡ clock_from clock rans
    → (one : IsRun decls (length rans) (round ∷ []) t ran.printed.begin (ran ∷ []) u)
    → (run : IsRun decls 0 rounds s clock (rans ++ ran ∷ []) u) × (run.ordered ≡ so.ordered ++ one.ordered)
run-push decls rounds s clock rans t u ran round at so begins one =
    let es : List Entry = printed_commits 0 rans rounds in
    let fs : List Entry = entries_of_round (length rans) ran round in
    let c : Number = clock_from clock rans in
    let counted : 0 + length rans ≡ length rans = omega arith in
    let all : printed_commits 0 (rans ++ ran ∷ []) rounds ≡ es ++ fs = printed_commits-push 0 rans ran rounds round at so.lines ∙ ap (λ i. es ++ entries_of_round i ran round) counted in
    let mine : fs ++ [] ≡ fs = append-nil fs in
    let own : RunsClock (length rans) ran round = one.clocks.1 in
    let past : AllByRecursion (IsPast c) es = past_so_far 0 clock rans rounds so.clocks in
    let from : AllByRecursion (IsFrom c) fs = subst (λ n. AllByRecursion (IsFrom n) fs) begins (from_of_round ran fs own.numbers) in
    let ordered_past : AllByRecursion (IsPast c) so.ordered = all-reordered (IsPast c) es so.ordered so.same past in
    let same_one : IsPermutation fs one.ordered = subst (λ xs. IsPermutation xs one.ordered) mine one.same in
    let ordered_from : AllByRecursion (IsFrom c) one.ordered = all-reordered (IsFrom c) fs one.ordered same_one from in
    let serial = so.serial in
    let serial_one = one.serial in
    let below : (e f : Entry) → IsPast c e → IsFrom c f → IsBelow e.number f.number = λ e f past from. inl (let a = past.0 in let b = from.0 in omega arith) in (
      record {
        lines = are_of_first-push rans ran rounds round at so.lines one.lines.0;
        workers = λ worker.
            subst (λ xs. Rises (of_worker worker xs)) (sym all)
            (subst Rises (sym (filter-append (λ (e : Entry). e.worker == worker) es fs))
            (in_order-append (λ e f. IsBelow e.number f.number) (IsPast c) (IsFrom c) (of_worker worker es) (of_worker worker fs) below
            (all-kept (IsPast c) (λ e. e.worker == worker) es past) (all-kept (IsFrom c) (λ e. e.worker == worker) fs from)
            (so.workers worker) (subst (λ xs. Rises (of_worker worker xs)) mine (one.workers worker))));
        clocks = runs_clocks-push 0 clock rans ran rounds round at so.clocks begins (subst (λ i. RunsClock i ran round) (sym counted) own);
        ordered = so.ordered ++ one.ordered;
        same = subst (λ xs. IsPermutation xs (so.ordered ++ one.ordered)) (sym all) (IsPermutation-append es so.ordered fs one.ordered so.same same_one);
        serial = record {
          rising = in_order-append (λ e f. IsBelow e.number f.number) (IsPast c) (IsFrom c) so.ordered one.ordered below ordered_past ordered_from serial.rising serial_one.rising;
          epochs = in_order-append (λ e f. e.number.epoch ≤ f.number.epoch) (IsPast c) (IsFrom c) so.ordered one.ordered (λ e f past from. let a = past.0 in let b = from.0 in omega arith) ordered_past ordered_from serial.epochs serial_one.epochs;
          answers = answers-append decls s so.ordered one.ordered serial.answers (subst (AnswersAlong decls one.ordered) so.after serial_one.answers);
        };
        draws = in_order-append (λ e f. e.number.draw < f.number.draw) (IsPast c) (IsFrom c) so.ordered one.ordered (λ e f past from. let a = past.1 in let b = from.1 in omega arith) ordered_past ordered_from so.draws one.draws;
        after = one.after ∙ ap (λ x. state_after_all decls x one.ordered) so.after ∙ sym (state_after_all-append decls s so.ordered one.ordered);
      },
      refl,
    )
