-- What a run makes of a state between two epochs.
use Rattle.std.proofs.Common.{◌≡◌, ◌∙◌, ◌≤◌, ◌<◌, sym, ap, subst, refl, inl, inr, ℕ, Bool, true, false, cond, arith}
use Rattle.std.proofs.Common.{List, [], ◌∷◌, ◌++◌, Option}
use Rattle.std.specs.Prelude.{filter, fold}
use Rattle.std.specs.FinMap.{get}
use Rattle.std.specs.List.{AllByRecursion}
use Rattle.std.proofs.lemmas.Bool.{cases_lt, cond-false, cond-true}
use Rattle.std.proofs.lemmas.Bool.Decides.{nat_tests}
use Rattle.std.proofs.lemmas.List.Sums.{fold-append}
use Rattle.lists.specs.Each.{all_weaker}
use Rattle.serial_model.specs.History.{Entry, EpochsNeverFall, as_of, state_after, state_after_all}
use Rattle.serial_model.specs.State.{State}
use Rattle.serial_model.specs.declared.decl.Decl.{Decl}
use Rattle.serial_model.specs.declared.key.Key.{Key}
use Rattle.serial_model.specs.declared.number.Number.{Number}
use Rattle.program_calls.proofs.KeptWrites.{Writes, is_by, none_by, none_written, precedes_all, writes_all}

-- what holds of all holds of those that are kept
pub all_filter : {X : Type 0} (P : X → Type 0) (p : X → Bool) (xs : List X) → AllByRecursion P xs
    → AllByRecursion P (filter p xs)
all_filter P p [] all = tt
all_filter P p (x ∷ xs) all = elim (p x) as (λ b. AllByRecursion P (cond b (x ∷ filter p xs) (filter p xs))) [
  | true ↦ (all.0, all_filter P p xs all.1)
  | false ↦ all_filter P p xs all.1
]

-- those up to an epoch are those up to an earlier one, and then later ones
pub record ThenLater (early late : ℕ) (es : List Entry) : Type 0 where
  pub later : List Entry
  pub is : filter (is_by late) es ≡ filter (is_by early) es ++ later
  pub above : AllByRecursion (λ e. early < e.number.epoch) later

pub then_later : (early late : ℕ) (es : List Entry) → early ≤ late → EpochsNeverFall es → ThenLater early late es
then_later early late [] le falls = record { later = []; is = refl; above = tt }
then_later early late (e ∷ es) le falls = elim (cases_lt early e.number.epoch) [
  | inl past ↦
      let not : is_by early e ≡ false = grind (arith, nat_tests) in
      let none : filter (is_by early) (e ∷ es) ≡ [] =
      cond-false (is_by early e) (e ∷ filter (is_by early) es) (filter (is_by early) es) not
      ∙ none_by early e es past falls.0 in
      record {
        later = filter (is_by late) (e ∷ es);
        is = ap (λ l. l ++ filter (is_by late) (e ∷ es)) (sym none);
        above = all_filter (λ e. early < e.number.epoch) (is_by late) (e ∷ es) (
          past,
          all_weaker (λ (f : Entry). e.number.epoch ≤ f.number.epoch) (λ (f : Entry). early < f.number.epoch)
              (λ f later. omega (arith, past, later)) es
              (precedes_all (λ e f. e.number.epoch ≤ f.number.epoch) e es falls.0),
        );
      }
  | inr within ↦
      let rest = then_later early late es le falls.1 in
      let by : is_by early e ≡ true = grind (arith, nat_tests) in
      let also : is_by late e ≡ true = grind (arith, nat_tests) in
      record {
        later = rest.later;
        is = cond-true (is_by late e) (e ∷ filter (is_by late) es) (filter (is_by late) es) also
            ∙ ap (λ l. e ∷ l) rest.is
            ∙ ap (λ l. l ++ rest.later)
            (sym (cond-true (is_by early e) (e ∷ filter (is_by early) es) (filter (is_by early) es) by));
        above = rest.above;
      }
]

-- what is written behind some entries is written by all
pub writes_behind : (decls : List Decl) (s : State) (es fs : List Entry) (worker : ℕ) (key : Key) (number : Number)
    (value : Option ℕ) → Writes decls (state_after_all decls s es) fs worker key number value
    → Writes decls s (es ++ fs) worker key number value
writes_behind decls s [] fs worker key number value writes = writes
writes_behind decls s (e ∷ es) fs worker key number value writes =
    inr (writes_behind decls (state_after decls s e) es fs worker key number value writes)

-- A key that nothing between two epochs writes has at the later one what it had at the earlier one.
pub none_since : (decls : List Decl) (s : State) (es : List Entry) (early late : ℕ) (key : Key) → early ≤ late
    → EpochsNeverFall es
    → ((worker : ℕ) (number : Number) (value : Option ℕ)
    → Writes decls s (filter (is_by late) es) worker key number value → early < number.epoch → ⊥)
    → get (as_of decls s es late) key ≡ get (as_of decls s es early) key
none_since decls s es early late key le falls none =
    let then = then_later early late es le falls in
    ap (λ l. get (state_after_all decls s l) key) then.is
    ∙ ap (λ (t : State). get t key) (fold-append (state_after decls) s (filter (is_by early) es) then.later)
    ∙ none_written decls (as_of decls s es early) then.later key (λ worker number value writes.
    let one = writes_all (λ e. early < e.number.epoch) decls (as_of decls s es early) then.later worker key number
    value then.above writes in
    none worker number value
    (subst (λ l. Writes decls s l worker key number value) (sym then.is)
    (writes_behind decls s (filter (is_by early) es) then.later worker key number value writes))
    (omega (arith, one.1, ap (λ (n : Number). n.epoch) one.3)))

-- entries of later epochs leave the state as of an earlier one
pub as_of-more : (decls : List Decl) (s : State) (es more : List Entry) (epoch : ℕ)
    → AllByRecursion (λ e. epoch < e.number.epoch) more → as_of decls s (es ++ more) epoch ≡ as_of decls s es epoch
as_of-more decls s es more epoch later = ap (state_after_all decls s) (kept es)
  where
    none : (fs : List Entry) → AllByRecursion (λ e. epoch < e.number.epoch) fs → filter (is_by epoch) fs ≡ []
    none [] above = refl
    none (f ∷ fs) above =
        let is : is_by epoch f ≡ false = (let past = above.0 in grind (arith, nat_tests)) in
        cond-false (is_by epoch f) (f ∷ filter (is_by epoch) fs) (filter (is_by epoch) fs) is ∙ none fs above.1

    kept : (fs : List Entry) → filter (is_by epoch) (fs ++ more) ≡ filter (is_by epoch) fs
    kept [] = none more later
    kept (f ∷ fs) =
        ap (λ l. cond (is_by epoch f) (f ∷ l) (filter (is_by epoch) (fs ++ more))) (kept fs)
        ∙ ap (λ l. cond (is_by epoch f) (f ∷ filter (is_by epoch) fs) l) (kept fs)

-- and where all are later it is the first state
pub as_of-none : (decls : List Decl) (s : State) (es : List Entry) (epoch : ℕ)
    → AllByRecursion (λ e. epoch < e.number.epoch) es → as_of decls s es epoch ≡ s
as_of-none decls s es epoch later = as_of-more decls s [] es epoch later
