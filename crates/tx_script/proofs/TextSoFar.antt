-- A text that a loop adds piece by piece.
use Rattle.std.proofs.Common.{◌≡◌, ◌∙◌, sym, ap, subst, ℕ, ◌+◌, ◌<◌, List, ◌∷◌, ◌++◌, length, get_or, drop, Result, append_assoc, add-one, drop-cons}
use Rattle.text_output.specs.Output.{Bytes, Output, Adds, Breaks, Prints}
use Rattle.text_output.specs.Printed.{adds_then, breaks_as, breaks_then, breaks_within}

-- a part of the text was added, and this rest of it wasn't yet
pub record TextSoFar (old now : Output) (rest all : Bytes) : Type 0 where
  pub text : Bytes
  pub adds : Adds old now text
  pub whole : text ++ rest ≡ all

-- the next piece was added
pub so_far-more : {old now then : Output} {left all : Bytes} (piece rest : Bytes) → TextSoFar old now left all → left ≡ piece ++ rest → Adds now then piece → TextSoFar old then rest all
so_far-more piece rest so split one = record {
  text = so.text ++ piece;
  adds = adds_then so.adds one;
  whole = append_assoc so.text piece rest ∙ ap (λ w. so.text ++ w) (sym split) ∙ so.whole;
}

-- the sink failed within the next piece
pub so_far-breaks : {old now then : Output} {left all : Bytes} (piece rest : Bytes) → TextSoFar old now left all → left ≡ piece ++ rest → Breaks now then piece → Breaks old then all
so_far-breaks piece rest so split one =
    breaks_as so.whole (breaks_as (ap (λ w. so.text ++ w) (sym split)) (breaks_then so.adds (breaks_within rest one)))

-- the same text, spelled otherwise
pub prints_as : {T E : Type 0} (old new : Output) (text other : Bytes) (r : Result T E) → text ≡ other → Prints old new text r → Prints old new other r
prints_as old new text other r same one = subst (λ t. Prints old new t r) same one

-- what is left of a list begins with the item there
pub left_at : {X : Type 0} (xs : List X) (i : ℕ) (d : X) → i < length xs → drop i xs ≡ get_or xs i d ∷ drop (i + 1) xs
left_at xs i d within = rw add-one (drop-cons xs i d within)

pub left_from : {X : Type 0} (xs : List X) (i : ℕ) (x : X) → i < length xs → x ≡ get_or xs i x → drop i xs ≡ x ∷ drop (i + 1) xs
left_from xs i x within is = left_at xs i x within ∙ ap (λ y. y ∷ drop (i + 1) xs) (sym is)
