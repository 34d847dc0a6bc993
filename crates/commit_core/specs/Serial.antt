-- States below a number, and serial runs.
use Rattle.std.specs.Prelude.{◌&&◌, Bool, true, List, [], ◌∷◌, filter, if◌then◌else◌, ⊤, Contains}
use Rattle.std.specs.Option.{option_map_or}
use Rattle.serial_model.specs.declared.key.Key.{Key}
use Rattle.serial_model.specs.declared.number.Number.{Number}
use Rattle.serial_model.specs.Numbers.{is_below, IsBelow}
use Rattle.homes.specs.declared.places.Content.{Content}
use Rattle.commit_core.specs.declared.part.Part.{Part}
use Rattle.commit_core.specs.declared.attempt.Attempt.{Attempt}
use Rattle.commit_core.specs.declared.story.Story.{Story}
use Rattle.commit_core.specs.Keys.{content_at, content_of, written}
use Rattle.commit_core.specs.Parts.{Vouches}
use Rattle.commit_core.specs.CoreState.{is_decided}

-- what stands at the key after an attempt's writes
abbrev pub after_writes : Key → Attempt → Content → Content
after_writes k a c = option_map_or (λ v. content_of a.number v) (written k a.writes) c

-- the same after the writes of those in the list that count, in order
abbrev pub after_all : (Attempt → Bool) → Key → List Attempt → Content → Content
after_all counts k [] c = c
after_all counts k (a ∷ more) c = after_all counts k more (if counts a then after_writes k a c else c)

-- what stands at the key after the decided attempts, of those whose numbers pass
abbrev pub content_after : List (Key × Content) → List Attempt → List Number → (Number → Bool) → Key → Content
content_after opening history decided passes k =
    after_all (λ a. is_decided decided a.number && passes a.number) k history (content_at opening k)

-- the opening state after the writes of the decided attempts with numbers below n, in order of number
abbrev pub state_below : List (Key × Content) → List Attempt → List Number → Number → Key → Content
state_below opening history decided n = content_after opening history decided (λ m. is_below m n)

-- the last decided write of the key, by number, or what stood there at the start
abbrev pub last_write : List (Key × Content) → List Attempt → List Number → Key → Content
last_write opening history decided = content_after opening history decided (λ _. true)

-- ---- serial reads

-- the decided attempts, in order of number, which is the history's
abbrev pub committed : Story → List Attempt
committed m = filter (λ a. is_decided m.decided a.number) m.history

-- numbers rise strictly from this one on, and so epochs never fall
abbrev pub RisesFrom : Number → List Attempt → Type 0
RisesFrom low [] = ⊤
RisesFrom low (a ∷ more) = IsBelow low a.number × RisesFrom a.number more

-- the attempt read exactly what the state has
abbrev pub ReadsFrom : (Key → Content) → Attempt → Type 0
ReadsFrom state a = (part : Part) → Contains a.parts part → Vouches state part

-- each read exactly what those before it leave, the first one from the state
abbrev pub ReadsAlong : (Key → Content) → List Attempt → Type 0
ReadsAlong state [] = ⊤
ReadsAlong state (a ∷ more) = ReadsFrom state a × ReadsAlong (λ k. after_writes k a (state k)) more

-- The attempts, in this order, read serially from the opening: their numbers rise strictly, and each read what those
-- before it leave. Of replies it says nothing: what a transaction makes of its reads is its own.
pub record ReadsAreSerial (opening : List (Key × Content)) (attempts : List Attempt) : Type 0 where
  pub rising : (k : Key) → RisesFrom (content_at opening k).number attempts
  pub reads : ReadsAlong (content_at opening) attempts
