-- How the serial run of the commit protocol gives that of transactions.
use Rattle.std.specs.Prelude.{◌≡◌, ℕ, List, [], ◌∷◌, Option, None, unwrap_or, filter, nat_le}
use Rattle.std.specs.Option.{option_or}
use Rattle.std.specs.FinMap.{get}
use Rattle.serial_model.specs.declared.key.Key.{Key}
use Rattle.serial_model.specs.declared.decl.Decl.{Decl}
use Rattle.serial_model.specs.Keys.{is_tree}
use Rattle.serial_model.specs.State.{State}
use Rattle.serial_model.specs.Step.{reply_of}
use Rattle.serial_model.specs.History.{Entry, AnswersAt, state_after, IsSerialRun, state_after_all, as_of}
use Rattle.homes.specs.declared.places.Content.{Content}
use Rattle.commit_core.specs.declared.attempt.Attempt.{Attempt}
use Rattle.commit_core.specs.declared.story.Story.{Story}
use Rattle.commit_core.specs.Keys.{content_at, written}
use Rattle.commit_core.specs.Serial.{after_writes, last_write, committed, ReadsFrom, ReadsAreSerial}
use Rattle.commit_core.specs.Sound.{IsSoundStory}
use Rattle.serial_bridge.specs.Transaction.{IsAttemptOf, AreAttemptsOf}

-- A read of any key replies the same from the state and from the contents: in a tree both have the same value or none,
-- in an array no value and 0 are the same.
abbrev pub Agrees : List Decl → State → (Key → Content) → Type 0
Agrees decls s contents =
    (k : Key) → reply_of (is_tree decls k.storage) (get s k) ≡ reply_of (is_tree decls k.storage) (contents k).value

-- What an attempt does is what its transaction does alone on the state: the same verdict and replies, its writes are
-- just what the step changes, and the state and the contents agree afterwards too.
pub record StepsAs (decls : List Decl) (s : State) (contents : Key → Content) (e : Entry) (a : Attempt) : Type 0 where
  pub answers : AnswersAt decls s e
  pub changes : (k : Key) → get (state_after decls s e) k ≡ unwrap_or (written k a.writes) (get s k)
  pub agrees : Agrees decls (state_after decls s e) (λ k. after_writes k a (contents k))

-- an attempt that read what the contents have steps as its transaction on a state that agrees with them
abbrev pub AttemptsStep : Type 0
AttemptsStep = (decls : List Decl) (s : State) (contents : Key → Content) (e : Entry) (a : Attempt)
    → Agrees decls s contents → ReadsFrom contents a → IsAttemptOf decls e a → StepsAs decls s contents e a

-- what stands at the key after the writes of the attempts, in order
abbrev pub after_attempts : (Key → Content) → List Attempt → Key → Content
after_attempts contents [] = contents
after_attempts contents (a ∷ more) = after_attempts (λ k. after_writes k a (contents k)) more

-- what the last of the attempts that writes the key writes there, where one does
abbrev pub last_written : List Attempt → Key → Option (Option ℕ)
last_written [] k = None
last_written (a ∷ more) k = option_or (last_written more k) (written k a.writes)

-- The entries are a serial run of transactions from the state. It leaves at each key what an attempt wrote there last,
-- else what was there, and agrees with these contents then.
pub record RunsSerially
    (decls : List Decl) (s : State) (entries : List Entry) (attempts : List Attempt) (contents : Key → Content)
    : Type 0 where
  pub run : IsSerialRun decls s entries
  pub changes : (k : Key) → get (state_after_all decls s entries) k ≡ unwrap_or (last_written attempts k) (get s k)
  pub leaves : Agrees decls (state_after_all decls s entries) contents

-- attempts whose reads are serial, each of its transaction, are a serial run of these transactions
abbrev pub SerialReadsRun : Type 0
SerialReadsRun = (decls : List Decl) (s : State) (opening : List (Key × Content)) (entries : List Entry) (attempts : List Attempt)
    → Agrees decls s (content_at opening) → ReadsAreSerial opening attempts → AreAttemptsOf decls entries attempts
    → RunsSerially decls s entries attempts (after_attempts (content_at opening) attempts)

-- the attempts with epochs up to this one
abbrev pub up_to_epoch : ℕ → List Attempt → List Attempt
up_to_epoch epoch attempts = filter (λ a. nat_le a.number.epoch epoch) attempts

-- As of an epoch the run leaves at each key what the attempts with epochs up to it wrote there last.
abbrev pub EpochsRun : Type 0
EpochsRun = (decls : List Decl) (s : State) (opening : List (Key × Content)) (entries : List Entry) (attempts : List Attempt)
    → Agrees decls s (content_at opening) → ReadsAreSerial opening attempts → AreAttemptsOf decls entries attempts
    → (epoch : ℕ) (k : Key)
    → get (as_of decls s entries epoch) k ≡ unwrap_or (last_written (up_to_epoch epoch attempts) k) (get s k)

-- So are the decided attempts of every sound story, in order of number, and the run agrees then with each key's last
-- decided write.
abbrev pub SoundStoryRuns : Type 0
SoundStoryRuns = (decls : List Decl) (s : State) (opening : List (Key × Content)) (m : Story) (entries : List Entry)
    → IsSoundStory opening m → Agrees decls s (content_at opening) → AreAttemptsOf decls entries (committed m)
    → RunsSerially decls s entries (committed m) (last_write opening m.history m.decided)
