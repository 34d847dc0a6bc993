-- Notes of which slots are held.
use Rattle.std.proofs.Common.{◌≡◌, ℕ, ◌<◌, ◌==◌, ◌||◌, Bool, true, false, inl, inr, refl}
use Rattle.std.proofs.Common.{List, [], ◌∷◌, ◌++◌, get_or, sym, ap, ◌∙◌, subst, arith}
use Rattle.std.proofs.Math.ListN.{replicate}
use Rattle.std.specs.List.{list_any}
use Rattle.std.proofs.lemmas.Bool.{cases_Bool}
use Rattle.std.proofs.lemmas.Bool.Decides.{nat_tests}
use Rattle.std.proofs.lemmas.List.{get_or-replicate, length-replicate}
use Rattle.std.proofs.lemmas.List.Folds.{list_any-append}
use Rattle.tx_sets.specs.Entries.{AreNoted, IsNoted}

-- where nothing is noted, no slot is held
pub none_noted : AreNoted (replicate 4096 false) []
none_noted = record {
  many = length-replicate 4096 false;
  each = λ t less. get_or-replicate 4096 t false false less;
}

-- with a slot more, which is noted
pub more_noted : (old new : List Bool) (slots all : List ℕ) (slot : ℕ) → all ≡ slots ++ slot ∷ [] → AreNoted old slots
    → IsNoted slot true old new → AreNoted new all
more_noted old new slots all slot put was is = record {
  many = is.many;
  each = λ t less. elim (cases_Bool (slot == t)) [
    | inl same ↦
        let here : slot ≡ t = grind (arith, nat_tests) in
        subst (λ u. get_or new u false ≡ true) here (is.here (subst (λ u. u < 4096) (sym here) less))
        ∙ sym (found t ∙ there (list_any (λ s. s == t) slots) (slot == t) same)
    | inr other ↦
        is.others t less other ∙ was.each t less
        ∙ sym (found t ∙ aside (list_any (λ s. s == t) slots) (slot == t) other)
  ];
}
  where
    found : (t : ℕ) → list_any (λ s. s == t) all ≡ (list_any (λ s. s == t) slots || ((slot == t) || false))
    found t = ap (list_any (λ s. s == t)) put ∙ list_any-append (λ s. s == t) slots (slot ∷ [])

    there : (a b : Bool) → b ≡ true → (a || (b || false)) ≡ true
    there true b is = refl
    there false true is = refl
    there false false is = is

    aside : (a b : Bool) → b ≡ false → (a || (b || false)) ≡ a
    aside true b is = refl
    aside false true is = is
    aside false false is = refl

-- what is noted is one of those from here on
abbrev pub IsLeft : List Bool → List ℕ → Type 0
IsLeft noted left = (t : ℕ) → t < 4096 → get_or noted t false ≡ true → list_any (λ s. s == t) left ≡ true
