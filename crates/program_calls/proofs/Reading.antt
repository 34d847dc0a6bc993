-- Reading a source out, a chunk after another.
use Rattle.std.proofs.Common.{◌≡◌, ◌∙◌, sym, ap, refl, ℕ, ◌≤◌, List, [], ◌++◌, length, Option, Some, None, append_assoc}
use Rattle.std.specs.Io.KnownBytes.{Consumes}
use Rattle.program_calls.specs.Ending.{most_read}

-- the bytes are those that the source gave up, and not too many, and it hasn't failed
pub record ReadSoFar (before now : Option (List ℕ)) (faults_before faults_now : ℕ) (bytes : List ℕ) : Type 0 where
  pub consumed : Consumes before now bytes
  pub most : length bytes ≤ most_read
  pub quiet : faults_now ≡ faults_before

-- a chunk, and then another
pub consumes_then : (a b c : Option (List ℕ)) (x y : List ℕ) → Consumes a b x → Consumes b c y → Consumes a c (x ++ y)
consumes_then None b c x y first then = tt
consumes_then (Some xs) None c x y first then = absurd first
consumes_then (Some xs) (Some ys) None x y first then = absurd then
consumes_then (Some xs) (Some ys) (Some zs) x y first then = first ∙ ap (λ w. x ++ w) then ∙ sym (append_assoc x y zs)

-- no chunk yet
pub consumes_none : (a : Option (List ℕ)) → Consumes a a []
consumes_none None = tt
consumes_none (Some xs) = refl
