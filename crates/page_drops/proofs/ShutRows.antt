-- Shut pointers of a page, in a row.
use Rattle.std.proofs.Common.{◌≡◌, ◌≢◌, ℕ, zero, suc, ◌+◌, ◌<◌, ◌≤◌, Bool, false, cond, eqb, eq-eqb, ne_eqb, not, List, [], ◌∷◌}
use Rattle.std.proofs.Common.{get_or, refl, ap, ◌∙◌, arith}
use Rattle.std.specs.Prelude.{◌&&◌}
use Rattle.std.specs.List.{Contains}
use Rattle.lists.specs.Elements.{in_head, in_tail}
use Rattle.homes.specs.Homes.{same_at}
use Rattle.homes.specs.Laws.{same_at-self}
use Rattle.drop_core.specs.Table.{at_index}
use Rattle.engine_pages.specs.Slots.{other_shuts}
use Rattle.engine_pages.proofs.Seats.{by_equal}
use Rattle.pointer_swings.specs.Shuts.{shut_elsewhere, shut_of}
use Rattle.page_drops.specs.Inner.{shut_row}

other_at : (t i j : ℕ) → i ≢ j → same_at (at_index t i) (at_index t j) ≡ false
other_at t i j other =
    ap (λ (c : Bool). c && eqb i j) (eq-eqb t t refl) ∙ ne_eqb i j other

others_shut : (t : ℕ) (words : List ℕ) (j n : ℕ) → n ≤ j → shut_elsewhere (at_index t j) (shut_row t words n) ≡ shut_row t words n
others_shut t words j zero low = refl
others_shut t words j (suc n) low =
    ap (λ (c : Bool). cond (not c) (shut_of (at_index t n) (get_or words n 0) ∷ shut_elsewhere (at_index t j) (shut_row t words n)) (shut_elsewhere (at_index t j) (shut_row t words n)))
    (other_at t n j (λ e. absurd (omega (arith, e, low))))
    ∙ ap (λ list. shut_of (at_index t n) (get_or words n 0) ∷ list) (others_shut t words j n (omega (arith, low)))

-- the last one less
pub shuts_less : (t : ℕ) (words : List ℕ) (n : ℕ) → shut_elsewhere (at_index t n) (shut_row t words (n + 1)) ≡ shut_row t words n
shuts_less t words n =
    ap (λ k. shut_elsewhere (at_index t n) (shut_row t words k)) (let same : n + 1 ≡ suc n = omega arith in same)
    ∙ (ap (λ (c : Bool). cond (not c) (shut_of (at_index t n) (get_or words n 0) ∷ shut_elsewhere (at_index t n) (shut_row t words n)) (shut_elsewhere (at_index t n) (shut_row t words n)))
    (same_at-self (at_index t n))
    ∙ others_shut t words n n (omega arith))

-- one more
pub shuts_more : (t : ℕ) (words : List ℕ) (n : ℕ)
    → shut_of (at_index t n) (get_or words n 0) ∷ shut_row t words n ≡ shut_row t words (n + 1)
shuts_more t words n = ap (λ k. shut_row t words k) (let same : suc n ≡ n + 1 = omega arith in same)

-- each is there
pub shut_there : (t : ℕ) (words : List ℕ) (n j : ℕ) → j < n → Contains (shut_row t words n) (shut_of (at_index t j) (get_or words j 0))
shut_there t words zero j less = absurd (omega (arith, less))
shut_there t words (suc n) j less =
    by_equal j n (λ i. i < suc n → Contains (shut_row t words (suc n)) (shut_of (at_index t i) (get_or words i 0)))
    (λ _. in_head (shut_of (at_index t n) (get_or words n 0)) (shut_row t words n))
    (λ other few. in_tail (shut_of (at_index t j) (get_or words j 0)) (shut_of (at_index t n) (get_or words n 0)) (shut_row t words n)
    (shut_there t words n j (omega (arith, few, other)))) less

-- none stands in another slot
pub none_elsewhere : (t : ℕ) (words : List ℕ) (n : ℕ) → other_shuts t (shut_row t words n) ≡ []
none_elsewhere t words zero = refl
none_elsewhere t words (suc n) =
    ap (λ (c : Bool). cond (not c) (shut_of (at_index t n) (get_or words n 0) ∷ other_shuts t (shut_row t words n)) (other_shuts t (shut_row t words n)))
    (eq-eqb t t refl)
    ∙ none_elsewhere t words n
