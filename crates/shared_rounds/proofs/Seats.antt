-- Whose commits they are: those on a worker's seat are its part's.
use Rattle.std.proofs.Common.{◌≡◌, ◌∙◌, sym, ap, refl, ℕ, zero, suc, ◌+◌, ◌≤◌, Bool, true, false, List}
use Rattle.std.proofs.Common.{[], ◌∷◌}
use Rattle.std.proofs.Common.{◌++◌, append-nil, inl, inr, arith}
use Rattle.std.specs.List.{Contains, filter}
use Rattle.std.proofs.lemmas.Bool.Decides.{nat_tests}
use Rattle.std.proofs.lemmas.List.Elements.{Contains-append_cases, filter-append}
use Rattle.lists.specs.Elements.{in_none}
use Rattle.commit_core.specs.declared.attempt.Attempt.{Attempt}
use Rattle.engine_seats.specs.Gathered.{joined}
use Rattle.engine_pages.specs.declared.view.View.{View}
use Rattle.shared_rounds.specs.Parts.{AreParts, Part}
use Rattle.shared_rounds.specs.Shares.{logged_in}
use Rattle.shared_rounds.proofs.Joined.{mines_of, part_made, shares_of}
use Rattle.shared_rounds.proofs.Made.{Ascend, logged_from}
use Rattle.shared_rounds.proofs.Orders.{filter_empty, filter_whole, is_on}

-- the own commits of the part at this place
abbrev pub mine_at : List Part → ℕ → List Attempt
mine_at [] n = []
mine_at (p ∷ parts) zero = p.to.mine
mine_at (p ∷ parts) (suc n) = mine_at parts n

-- commits of workers from this one on
seats_from : (tries : ℕ) (was ended : View) (worker : ℕ) (parts : List Part) → AreParts tries was ended worker parts
    → (a : Attempt) → Contains (joined (mines_of parts)) a → suc worker ≤ a.seat
seats_from tries was ended worker [] are a has = absurd (in_none a has)
seats_from tries was ended worker (p ∷ parts) are a has =
    elim (Contains-append_cases p.to.mine (joined (mines_of parts)) a has) [
      | inl here ↦ let seat = (part_made tries was ended worker p are.0).seats a here in omega arith
      | inr there ↦ let seat = seats_from tries was ended (worker + 1) parts are.1 a there in omega arith
    ]

on_it : (worker : ℕ) (a : Attempt) → a.seat ≡ suc worker → is_on worker a ≡ true
on_it worker a seat = grind (arith, nat_tests)

not_on : (worker : ℕ) (a : Attempt) → (a.seat ≡ suc worker → ⊥) → is_on worker a ≡ false
not_on worker a other = by_test (is_on worker a) refl
  where
    by_test : (t : Bool) → is_on worker a ≡ t → is_on worker a ≡ false
    by_test false is = is
    by_test true is = absurd (other (grind (arith, nat_tests)))

pub mine_on : (tries : ℕ) (was ended : View) (worker n : ℕ) (parts : List Part) → AreParts tries was ended worker parts
    → filter (is_on (worker + n)) (joined (mines_of parts)) ≡ mine_at parts n
mine_on tries was ended worker n [] are = refl
mine_on tries was ended worker zero (p ∷ parts) are =
    filter-append (is_on (worker + zero)) p.to.mine (joined (mines_of parts))
    ∙ ap (λ (l : List Attempt). l ++ filter (is_on (worker + zero)) (joined (mines_of parts)))
    (filter_whole (is_on (worker + zero)) p.to.mine
    (λ a has. let seat = (part_made tries was ended worker p are.0).seats a has in on_it (worker + zero) a
    (omega arith)))
    ∙ ap (λ (l : List Attempt). p.to.mine ++ l) (filter_empty (is_on (worker + zero)) (joined (mines_of parts))
    (λ a has. let seat = seats_from tries was ended (worker + 1) parts are.1 a has in
    not_on (worker + zero) a (λ is. omega arith)))
    ∙ append-nil p.to.mine
mine_on tries was ended worker (suc n) (p ∷ parts) are =
    let same : worker + suc n ≡ (worker + 1) + n = omega arith in
    filter-append (is_on (worker + suc n)) p.to.mine (joined (mines_of parts))
    ∙ ap (λ (l : List Attempt). l ++ filter (is_on (worker + suc n)) (joined (mines_of parts)))
    (filter_empty (is_on (worker + suc n)) p.to.mine
    (λ a has. let seat = (part_made tries was ended worker p are.0).seats a has in
    not_on (worker + suc n) a (λ is. omega arith)))
    ∙ ap (λ (w : ℕ). filter (is_on w) (joined (mines_of parts))) same
    ∙ mine_on tries was ended (worker + 1) n parts are.1

pub mine_ascends : (tries : ℕ) (was ended : View) (worker n : ℕ) (parts : List Part)
    → AreParts tries was ended worker parts
    → Ascend (mine_at parts n)
mine_ascends tries was ended worker n [] are = tt
mine_ascends tries was ended worker zero (p ∷ parts) are = (part_made tries was ended worker p are.0).ascend
mine_ascends tries was ended worker (suc n) (p ∷ parts) are = mine_ascends tries was ended (worker + 1) n parts are.1

pub mine_logged : (tries : ℕ) (was ended : View) (worker n : ℕ) (parts : List Part)
    → AreParts tries was ended worker parts
    → logged_from (mine_at parts n) ≡ logged_in (shares_of parts) n
mine_logged tries was ended worker n [] are = refl
mine_logged tries was ended worker zero (p ∷ parts) are = sym (part_made tries was ended worker p are.0).logged
mine_logged tries was ended worker (suc n) (p ∷ parts) are = mine_logged tries was ended (worker + 1) n parts are.1
