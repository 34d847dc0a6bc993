-- What attempts write: the write sets of their transactions, and attempts behind others.
use Rattle.std.specs.Prelude.{◌≡◌, List, [], ◌∷◌, ◌++◌, map, Some, Contains, ⊤}
use Rattle.std.specs.List.{AllByRecursion}
use Rattle.std.specs.FinMap.{get}
use Rattle.serial_model.specs.declared.decl.Decl.{Decl}
use Rattle.serial_model.specs.declared.key.Key.{Key}
use Rattle.serial_model.specs.declared.number.Change.{Change}
use Rattle.serial_model.specs.State.{State}
use Rattle.serial_model.specs.History.{Entry, state_after}
use Rattle.serial_model.specs.WriteSet.{write_set}
use Rattle.homes.specs.declared.places.Content.{Content}
use Rattle.commit_core.specs.declared.attempt.Attempt.{Attempt}
use Rattle.commit_core.specs.Keys.{content_at, written}
use Rattle.commit_core.specs.Serial.{ReadsAreSerial, ReadsFrom}
use Rattle.serial_bridge.specs.Transaction.{IsAttemptOf, AreAttemptsOf}
use Rattle.serial_bridge.specs.Bridge.{Agrees, RunsSerially, after_attempts}

-- each of the writes is the one that counts at its key, as where their keys rise
abbrev pub EachCounts : List Change → Type 0
EachCounts writes = AllByRecursion (λ (c : Change). written c.key writes ≡ Some c.value) writes

-- the keys of the writes, in their order
abbrev pub keys_of : List Change → List Key
keys_of writes = map (λ (c : Change). c.key) writes

-- The attempt writes the keys of its transaction's write set on the state, and no others; where no key stands twice,
-- each with the value that the step leaves there.
pub record WritesItsSet (decls : List Decl) (s : State) (e : Entry) (a : Attempt) : Type 0 where
  pub each : AllByRecursion (Contains (write_set decls s e.ops)) (keys_of a.writes)
  pub all : (key : Key) → Contains (write_set decls s e.ops) key → Contains (keys_of a.writes) key
  pub values : EachCounts a.writes
      → AllByRecursion (λ (c : Change). c.value ≡ get (state_after decls s e) c.key) a.writes

-- So does an attempt that read what the contents have, on every state that agrees with them.
abbrev pub AttemptWrites : Type 0
AttemptWrites = (decls : List Decl) (s : State) (contents : Key → Content) (e : Entry) (a : Attempt)
    → Agrees decls s contents → ReadsFrom contents a → IsAttemptOf decls e a
    → WritesItsSet decls s e a

-- each attempt writes the write set of its transaction on the state that those before leave
abbrev pub WriteAlong : List Decl → State → List Entry → List Attempt → Type 0
WriteAlong decls s [] [] = ⊤
WriteAlong decls s [] (a ∷ attempts) = ⊥
WriteAlong decls s (e ∷ entries) [] = ⊥
WriteAlong decls s (e ∷ entries) (a ∷ attempts) =
    WritesItsSet decls s e a × WriteAlong decls (state_after decls s e) entries attempts

-- ---- attempts behind others

-- Where the reads of all attempts are serial, those behind the first ones are a serial run of their transactions from
-- every state that agrees with what the first ones leave.
abbrev pub RunsBehind : Type 0
RunsBehind = (decls : List Decl) (s : State) (opening : List (Key × Content)) (before attempts : List Attempt)
    (entries : List Entry)
    → ReadsAreSerial opening (before ++ attempts) → Agrees decls s (after_attempts (content_at opening) before)
    → AreAttemptsOf decls entries attempts
    → RunsSerially decls s entries attempts (after_attempts (content_at opening) (before ++ attempts))

-- and each writes its write set then
abbrev pub WritesBehind : Type 0
WritesBehind = (decls : List Decl) (s : State) (opening : List (Key × Content)) (before attempts : List Attempt)
    (entries : List Entry)
    → ReadsAreSerial opening (before ++ attempts) → Agrees decls s (after_attempts (content_at opening) before)
    → AreAttemptsOf decls entries attempts → WriteAlong decls s entries attempts
