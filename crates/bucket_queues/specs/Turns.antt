-- Buckets that go to two queues by turns: which those of each queue's turn are.
use Rattle.std.specs.Prelude.{◌≡◌, ◌⊎◌, ◌++◌, ◌∷◌, [], List, Bool, true, false, ⊤}
use Rattle.wire_form.specs.declared.bucket.Bucket.{Bucket}

-- the first list is the second one without some of its items
abbrev pub IsPart : {X : Type 0} → List X → List X → Type 0
IsPart [] ys = ⊤
IsPart (x ∷ xs) [] = ⊥
IsPart (x ∷ xs) (y ∷ ys) = ((x ≡ y) × IsPart xs ys) ⊎ IsPart (x ∷ xs) ys

-- Every other item: those at positions 0, 2, 4 and so on where the turn begins with the first, else those at 1, 3, 5.
abbrev pub at_turns : {X : Type 0} → List X → Bool → List X
at_turns [] first = []
at_turns (x ∷ xs) true = x ∷ at_turns xs false
at_turns (x ∷ xs) false = at_turns xs true

-- Of these buckets each at an even position went to the first queue, each at an odd one to the second, in their order,
-- but for those that were kept back.
pub record GoByTurns (even even_now odd odd_now made : List Bucket) : Type 0 where
  pub to_even : List Bucket
  pub to_odd : List Bucket
  pub even_is : even_now ≡ even ++ to_even
  pub odd_is : odd_now ≡ odd ++ to_odd
  pub at_even : IsPart to_even (at_turns made true)
  pub at_odd : IsPart to_odd (at_turns made false)

-- a queue got the bucket, or didn't
abbrev pub MayGrow : List Bucket → List Bucket → Bucket → Type 0
MayGrow old new bucket = (new ≡ old ++ bucket ∷ []) ⊎ (new ≡ old)

-- one bucket at the turn of the second queue, or of the first: the other queue got nothing
abbrev pub TakesTurn : Bool → List Bucket → List Bucket → List Bucket → List Bucket → Bucket → Type 0
TakesTurn true even even_now odd odd_now bucket = (even_now ≡ even) × MayGrow odd odd_now bucket
TakesTurn false even even_now odd odd_now bucket = MayGrow even even_now bucket × (odd_now ≡ odd)
