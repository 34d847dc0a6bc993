-- The buckets that went into a queue are those that came out and those that it holds, each once.
use Rattle.std.specs.Prelude.{◌≡◌, ℕ, ◌+◌, List, [], ◌∷◌, ◌++◌}
use Rattle.std.specs.List.{flat_map}
use Rattle.std.specs.List.Sorted.{IsPermutation}
use mathlib.Core.Option.{some}
use lib.ListN.{get_elem?}
use Rattle.wire_form.specs.declared.bucket.Bucket.{Bucket}
use Rattle.bucket_queues.specs.declared.rule.Hand.{Hand}

-- a pass with so many parts, that has put and taken these buckets
abbrev pub hand : ℕ → List Bucket → List Bucket → Hand
hand parts put taken = record { parts = parts; put = put; taken = taken }

-- of how many parts the right to know the whole is made
abbrev pub all_parts : ℕ
all_parts = 4

-- the parts that all passes have
abbrev pub total_parts : List Hand → ℕ
total_parts [] = 0
total_parts (v ∷ vs) = v.parts + total_parts vs

-- what a pass has put
abbrev pub put_of : Hand → List Bucket
put_of v = v.put

-- and what it has taken
abbrev pub taken_of : Hand → List Bucket
taken_of v = v.taken

-- a pass without a part has put and taken nothing
abbrev pub IdleIsEmpty : List Hand → Type 0
IdleIsEmpty views = (pass : ℕ) (v : Hand) → get_elem? views pass ≡ some v → v.parts ≡ 0 → (v.put ≡ []) × (v.taken ≡ [])

-- The buckets that all passes have put are those that they have taken and those that the queue holds, each once.
pub record IsBalanced (items : List Bucket) (views : List Hand) : Type 0 where
  pub parts : total_parts views ≡ all_parts
  pub each_once : IsPermutation (flat_map put_of views) (flat_map taken_of views ++ items)
  pub idle : IdleIsEmpty views
