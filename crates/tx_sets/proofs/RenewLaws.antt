-- A word of a set is renewed: the places stay, and only what was seen at one of them is another.
use Rattle.std.proofs.Common.{◌≡◌, ℕ, zero, suc, ◌<◌, ◌==◌, Bool, true, false, cond, eqb-true, ne_eqb, List, [], ◌∷◌}
use Rattle.std.proofs.Common.{length, get_or, set, Some, refl, sym, ap, ◌∙◌, subst, arith}
use Rattle.std.specs.List.{AllByRecursion, position, refill}
use Rattle.std.proofs.lemmas.List.Quantifiers.{position-Some}
use Rattle.lists.specs.Each.{AreDistinct}
use Rattle.tx_sets.specs.declared.seen.Seen.{Seen}
use Rattle.tx_sets.specs.Entries.{places_of, renewed}
use Rattle.tx_sets.proofs.SetLaws.{map_set, set_whole}

abbrev unseen : Seen
unseen = record { at = 0; word = 0 }

-- what was seen there, with another word
abbrev pub with_word : List Seen → ℕ → ℕ → Seen
with_word seen i word = record { at = (get_or seen i unseen).at; word = word }

-- what holds of each place holds of the one with this index
all_at : (P : ℕ → Type 0) (xs : List Seen) (i : ℕ) → i < length xs → AllByRecursion P (places_of xs)
    → P (get_or xs i unseen).at
all_at P [] i within all = absurd (omega (arith, within))
all_at P (x ∷ xs) zero within all = all.0
all_at P (x ∷ xs) (suc i) within all = all_at P xs i (omega (arith, within)) all.1

-- where the place is none of these, nothing changes
unrenewed : (at word : ℕ) (xs : List Seen) → AllByRecursion (λ n. at ≡ n → ⊥) (places_of xs) → xs ≡ renewed at word xs
unrenewed at word [] none = refl
unrenewed at word (x ∷ xs) none =
    ap (λ (z : List Seen). x ∷ z) (unrenewed at word xs none.1)
    ∙ ap (λ (c : Bool). let l : List Seen = cond c (record x { word = word }) x ∷ renewed at word xs in l)
    (sym (ne_eqb x.at at (λ same. none.0 (sym same))))

-- one that is set there is all that is renewed, since no other is at its place
set_renews : (at word : ℕ) (xs : List Seen) (i : ℕ) → i < length xs → ((get_or xs i unseen).at == at) ≡ true
    → AreDistinct (places_of xs) → set xs i (with_word xs i word) ≡ renewed at word xs
set_renews at word [] i within hit apart = absurd (omega (arith, within))
set_renews at word (x ∷ xs) zero within hit apart =
    ap (λ (z : List Seen). let l : List Seen = record { at = x.at; word = word } ∷ z in l)
    (unrenewed at word xs
    (subst (λ y. AllByRecursion (λ n. y ≡ n → ⊥) (places_of xs)) (eqb-true x.at at hit) apart.0))
    ∙ ap (λ (c : Bool). let l : List Seen = cond c (record x { word = word }) x ∷ renewed at word xs in l) (sym hit)
set_renews at word (x ∷ xs) (suc i) within hit apart =
    let less : i < length xs = omega (arith, within) in
    let miss : (x.at == at) ≡ false =
    ne_eqb x.at at (λ same.
    all_at (λ n. x.at ≡ n → ⊥) xs i less apart.0 (same ∙ sym (eqb-true (get_or xs i unseen).at at hit))) in
    ap (λ (z : List Seen). x ∷ z) (set_renews at word xs i less hit apart.1)
    ∙ ap (λ (c : Bool). let l : List Seen = cond c (record x { word = word }) x ∷ renewed at word xs in l) (sym miss)

-- each is at a place of its own still
pub renewed_kept : (at : ℕ) (xs slice : List Seen) (i word : ℕ) → slice ≡ xs → position (λ s. s.at == at) xs ≡ Some i
    → AreDistinct (places_of xs)
    → AreDistinct (places_of (refill (length xs) xs (set slice i (with_word slice i word))))
renewed_kept at xs slice i word same there are =
    let within = (position-Some (λ s. s.at == at) xs i unseen there).0 in
    subst (λ l. AreDistinct (places_of l)) (sym (set_whole xs slice i (with_word slice i word) same))
    (subst AreDistinct
    (sym (map_set (λ s. s.at) xs i unseen (with_word slice i word) within
    (ap (λ (l : List Seen). (get_or l i unseen).at) (sym same)))) are)

-- what a call leaves that sets the word at the index where the place was found
pub renewed_set : (at word : ℕ) (old xs slice : List Seen) (i : ℕ) → old ≡ xs → slice ≡ xs
    → position (λ s. s.at == at) xs ≡ Some i → AreDistinct (places_of xs)
    → refill (length xs) xs (set slice i (with_word slice i word)) ≡ renewed at word old
renewed_set at word old xs slice i old-is same there are =
    let found = position-Some (λ s. s.at == at) xs i unseen there in
    set_whole xs slice i (with_word slice i word) same
    ∙ (ap (λ (l : List Seen). set xs i (with_word l i word)) same
    ∙ (set_renews at word xs i found.0 found.1 are ∙ ap (renewed at word) (sym old-is)))
