-- What lines have to do with the refusals of their tries: one in conflict at a record of an array touches a key there
-- that another worker's line of the same round may change, or pages were dropped in the round; one in conflict on the
-- way to a key touches that key; one in conflict at a slot, or that found none, may change some key; and one that
-- filled a set has an operation that can fill it.
use Rattle.std.specs.Prelude.{◌≡◌, ◌≢◌, ◌⊎◌, ◌+◌, ◌==◌, ◌&&◌, ℕ, Bool, true, false, List, [], ◌∷◌, nat_le, Contains}
use Rattle.std.specs.Prelude.{slice_get, ◌++◌, ◌≤◌, Option, Some, ⊤}
use Rattle.std.specs.List.{AllByRecursion, list_any}
use Rattle.std.proofs.Common.{inl, inr, arith, refl, subst}
use Rattle.lists.specs.Elements.{in_none}
use Rattle.serial_model.specs.Keys.{is_tree}
use Rattle.serial_model.specs.declared.decl.Decl.{Decl}
use Rattle.serial_model.specs.declared.key.Key.{Key}
use Rattle.serial_model.specs.declared.op.Op.{Op}
use Rattle.serial_model.specs.declared.op.Op.TheVariants.{Read, Write, Remove, Add, Take, Scan}
use Rattle.script_grammar.specs.Script.{Round, worker_lines}
use Rattle.tx_script.specs.Run.{AtRecord, AtSlot, FullSet, InConflict, InLeaf, LogRefusal, Met, NoNumber, NoRoom}
use Rattle.tx_script.specs.Run.{NoSlot, OfHolds, OfPointers, OfReads, OfWrites, OnWay, Ran, TryRefusal, Where}
use Rattle.tx_script.specs.Tries.{ComesTo}
use Rattle.tx_script.specs.declared.outcome.Outcome.TheVariants.{Conflict, Full, Wide}

-- ---- the keys of a line

-- two keys are one
abbrev pub same_key : Key → Key → Bool
same_key a b = (a.storage == b.storage) && (a.key == b.key)

-- the operation touches the key
abbrev pub touches_key : Key → Op → Bool
touches_key k (Read q) = same_key q k
touches_key k (Write q value) = same_key q k
touches_key k (Remove q) = same_key q k
touches_key k (Add q value) = same_key q k
touches_key k (Take q value) = same_key q k
touches_key k (Scan storage low high) = (storage == k.storage) && (nat_le low k.key && nat_le k.key high)

-- the operation may change it
abbrev pub changes_key : Key → Op → Bool
changes_key k (Read q) = false
changes_key k (Write q value) = same_key q k
changes_key k (Remove q) = same_key q k
changes_key k (Add q value) = same_key q k
changes_key k (Take q value) = same_key q k
changes_key k (Scan storage low high) = false

-- an operation of the line touches the key
abbrev pub touches : List Op → Key → Bool
touches ops k = list_any (touches_key k) ops

-- an operation of the line may change the key
abbrev pub changes : List Op → Key → Bool
changes ops k = list_any (changes_key k) ops

-- the operation is on a tree
abbrev pub IsOnTree : List Decl → Op → Type 0
IsOnTree decls (Read k) = is_tree decls k.storage ≡ true
IsOnTree decls (Write k value) = is_tree decls k.storage ≡ true
IsOnTree decls (Remove k) = is_tree decls k.storage ≡ true
IsOnTree decls (Add k value) = is_tree decls k.storage ≡ true
IsOnTree decls (Take k value) = is_tree decls k.storage ≡ true
IsOnTree decls (Scan storage low high) = is_tree decls storage ≡ true

-- an operation of the line is on a tree
abbrev pub TouchesTree : List Decl → List Op → Type 0
TouchesTree decls ops = (op : Op) × Contains ops op × IsOnTree decls op

-- an operation of the line scans a tree
abbrev pub ScansTree : List Decl → List Op → Type 0
ScansTree decls ops = (storage : ℕ) × (low : ℕ) × (high : ℕ) × Contains ops (Scan storage low high)
    × (is_tree decls storage ≡ true)

-- Which lines may fill a set: of records and headers, and of pointers, those with a scan of a tree alone, as any other
-- operation meets one of a kind at most; of slots that are held those on trees; of writes none, as a line has 16
-- operations at most.
abbrev pub FillsSet : List Decl → List Op → FullSet → Type 0
FillsSet decls ops OfReads = ScansTree decls ops
FillsSet decls ops OfWrites = ⊥
FillsSet decls ops OfPointers = ScansTree decls ops
FillsSet decls ops OfHolds = TouchesTree decls ops

-- each such line has an operation on a tree
pub fills_tree : (decls : List Decl) (ops : List Op) (set : FullSet) → FillsSet decls ops set → TouchesTree decls ops
fills_tree decls ops OfReads fills = (Scan fills.0 fills.1 fills.2, fills.3, fills.4)
fills_tree decls ops OfWrites fills = absurd fills
fills_tree decls ops OfPointers fills = (Scan fills.0 fills.1 fills.2, fills.3, fills.4)
fills_tree decls ops OfHolds fills = fills

-- ---- the law of conflicts

-- The worker has a line in the round that may change the key.
pub record ChangesIn (lines : List (List (List Op))) (worker : ℕ) (k : Key) : Type 0 where
  pub mine : List (List Op)
  pub at : slice_get lines worker ≡ Some mine
  pub ops : List Op
  pub among : Contains mine ops
  pub changes : changes ops k ≡ true

-- A try of a worker's line met another worker's at this key, which the line touches and that one may change.
pub record IsMetBy (lines : List (List (List Op))) (worker : ℕ) (ops : List Op) (k : Key) : Type 0 where
  pub key : touches ops k ≡ true
  pub by : ℕ
  pub other : by ≢ worker
  pub changer : ChangesIn lines by k

-- the line may change some key
abbrev pub ChangesSome : List Op → Type 0
ChangesSome ops = (k : Key) × (changes ops k ≡ true)

-- A try in conflict at a record of an array met another worker's line so; or it touches the key, in a round in which
-- pages were dropped, as is said where this is asked: the maintenance thread locks records of pages that it may take
-- out of memory. On the way to a key, at a pointer or in a leaf, it touches that key, and nobody is told who was there:
-- that may have been for another key, or the worker itself. It was to be given a slot only if it may change some key:
-- what is read takes none.
abbrev pub IsMetAt : List (List (List Op)) → Type 0 → ℕ → List Op → Where → Type 0
IsMetAt lines dropped worker ops (AtRecord k) = IsMetBy lines worker ops k ⊎ ((touches ops k ≡ true) × dropped)
IsMetAt lines dropped worker ops (OnWay k) = touches ops k ≡ true
IsMetAt lines dropped worker ops (InLeaf k) = touches ops k ≡ true
IsMetAt lines dropped worker ops AtSlot = ChangesSome ops

-- What a line has to do with the refusal of a try: with a conflict as is said above; it found no slot only if it may
-- change some key; and it filled a set only if its operations can fill that one.
abbrev pub IsMet : List Decl → List (List (List Op)) → Type 0 → ℕ → List Op → TryRefusal → Type 0
IsMet decls lines dropped worker ops (InConflict met) = IsMetAt lines dropped worker ops met.at
IsMet decls lines dropped worker ops (NoSlot words) = ChangesSome ops
IsMet decls lines dropped worker ops (NoRoom set) = FillsSet decls ops set
IsMet decls lines dropped worker ops (NoNumber clock) = ⊤

-- so it is of the tries of each line of a worker
abbrev pub LinesMet : List Decl → List (List (List Op)) → Type 0 → ℕ → List (List Op) → List (List TryRefusal)
    → Type 0
LinesMet decls lines dropped worker [] [] = ⊤
LinesMet decls lines dropped worker (ops ∷ mine) (refusals ∷ more) =
    AllByRecursion (IsMet decls lines dropped worker ops) refusals × LinesMet decls lines dropped worker mine more
LinesMet decls lines dropped worker [] (refusals ∷ more) = ⊥
LinesMet decls lines dropped worker (ops ∷ mine) [] = ⊥

-- and of each worker from this one on
abbrev pub WorkersMet : List Decl → List (List (List Op)) → Type 0 → ℕ → List (List (List Op))
    → List (List (List TryRefusal)) → Type 0
WorkersMet decls lines dropped worker [] [] = ⊤
WorkersMet decls lines dropped worker (mine ∷ more) (refused ∷ others) =
    LinesMet decls lines dropped worker mine refused × WorkersMet decls lines dropped (worker + 1) more others
WorkersMet decls lines dropped worker [] (refused ∷ others) = ⊥
WorkersMet decls lines dropped worker (mine ∷ more) [] = ⊥

-- Each conflict of the round at a record of an array is with a line of another worker in it, or pages were dropped in
-- the round; each on the way to a key is of a line that touches it; each line that was to be given a slot may change
-- some key; and each that filled a set has an operation that can fill it.
pub record AreMet (decls : List Decl) (ran : Ran) (round : Round) : Type 0 where
  pub workers : WorkersMet decls (worker_lines round) (ran.beside.drops ≡ [] → ⊥) 0 (worker_lines round)
      ran.beside.refused

-- ---- what is told

-- A line that is told in conflict met a line of another worker, or a drop, or was in conflict on the way to a key that
-- it touches, or at a slot, which a line is given only if it may change some key.
pub conflict_met : (decls : List Decl) (lines : List (List (List Op))) (dropped : Type 0)
    (worker first last tries : ℕ)
    (log : Option LogRefusal) (ops : List Op) (refusals : List TryRefusal) → 1 ≤ tries
    → ComesTo first last tries log Conflict refusals → AllByRecursion (IsMet decls lines dropped worker ops) refusals
    → (met : Met) × IsMetAt lines dropped worker ops met.at
conflict_met decls lines dropped worker first last tries log ops [] some come all =
    absurd (let none = come.2 in omega (arith, some, none))
conflict_met decls lines dropped worker first last tries log ops (InConflict met ∷ more) some come all = (met, all.0)
conflict_met decls lines dropped worker first last tries log ops (NoSlot words ∷ more) some come all =
    absurd (let no = come.1.0 in cc)
conflict_met decls lines dropped worker first last tries log ops (NoRoom set ∷ more) some come all =
    absurd (let no = come.1.0 in cc)
conflict_met decls lines dropped worker first last tries log ops (NoNumber clock ∷ more) some come all =
    absurd (let no = come.1.0 in cc)

-- what holds of each of these refusals and one behind them holds of that one
last_of : (P : TryRefusal → Type 0) (before : List TryRefusal) (last : TryRefusal)
    → AllByRecursion P (before ++ last ∷ []) → P last
last_of P [] last all = all.0
last_of P (first ∷ before) last all = last_of P before last all.1

-- A line that is told full may change some key.
pub full_changes : (decls : List Decl) (lines : List (List (List Op))) (dropped : Type 0)
    (worker first last tries : ℕ)
    (log : Option LogRefusal) (ops : List Op) (refusals : List TryRefusal)
    → ComesTo first last tries log Full refusals → AllByRecursion (IsMet decls lines dropped worker ops) refusals
    → ChangesSome ops
full_changes decls lines dropped worker first last tries log ops refusals come all =
    let ends = come.2 in
    last_of (IsMet decls lines dropped worker ops) ends.before (NoSlot come.1)
    (subst (AllByRecursion (IsMet decls lines dropped worker ops)) ends.all all)

-- A line that is told wide can fill the set that is told.
pub wide_fills : (decls : List Decl) (lines : List (List (List Op))) (dropped : Type 0)
    (worker first last tries : ℕ) (log : Option LogRefusal) (ops : List Op) (refusals : List TryRefusal)
    → (come : ComesTo first last tries log Wide refusals)
    → AllByRecursion (IsMet decls lines dropped worker ops) refusals → FillsSet decls ops come.1
wide_fills decls lines dropped worker first last tries log ops refusals come all =
    let ends = come.2 in
    last_of (IsMet decls lines dropped worker ops) ends.before (NoRoom come.1)
    (subst (AllByRecursion (IsMet decls lines dropped worker ops)) ends.all all)

-- So it has an operation on a tree: on arrays alone no line is wide.
pub wide_touches : (decls : List Decl) (lines : List (List (List Op))) (dropped : Type 0)
    (worker first last tries : ℕ) (log : Option LogRefusal) (ops : List Op) (refusals : List TryRefusal)
    → ComesTo first last tries log Wide refusals → AllByRecursion (IsMet decls lines dropped worker ops) refusals
    → TouchesTree decls ops
wide_touches decls lines dropped worker first last tries log ops refusals come all =
    fills_tree decls ops come.1
    (wide_fills decls lines dropped worker first last tries log ops refusals come all)

-- ---- a worker by itself

-- but for this worker nobody has a line
abbrev pub IsByItself : List (List (List Op)) → ℕ → Type 0
IsByItself lines worker =
    (other : ℕ) (mine : List (List Op)) → other ≢ worker → slice_get lines other ≡ Some mine → mine ≡ []

meets_nobody : (lines : List (List (List Op))) (worker : ℕ) (ops : List Op) (k : Key) → IsByItself lines worker
    → IsMetBy lines worker ops k → ⊥
meets_nobody lines worker ops k alone m =
    let c = m.changer in
    in_none c.ops (subst (λ (l : List (List Op)). Contains l c.ops) (alone m.by c.mine m.other c.at) c.among)

-- the place is no record of an array
abbrev pub IsBesideRecords : Where → Type 0
IsBesideRecords (AtRecord k) = ⊥
IsBesideRecords (OnWay k) = ⊤
IsBesideRecords (InLeaf k) = ⊤
IsBesideRecords AtSlot = ⊤

-- the try was in conflict at no record of an array
abbrev pub MeetsNobody : TryRefusal → Type 0
MeetsNobody (InConflict met) = IsBesideRecords met.at
MeetsNobody (NoSlot words) = ⊤
MeetsNobody (NoRoom set) = ⊤
MeetsNobody (NoNumber clock) = ⊤

one_alone : (decls : List Decl) (lines : List (List (List Op))) (dropped : Type 0) (worker : ℕ)
    (ops : List Op) (refusal : TryRefusal)
    → (dropped → ⊥) → IsByItself lines worker → IsMet decls lines dropped worker ops refusal → MeetsNobody refusal
one_alone decls lines dropped worker ops (InConflict met) none alone m = by_place met.at m
  where
    by_place : (at : Where) → IsMetAt lines dropped worker ops at → IsBesideRecords at
    by_place (AtRecord k) (inl m) = absurd (meets_nobody lines worker ops k alone m)
    by_place (AtRecord k) (inr m) = absurd (none m.1)
    by_place (OnWay k) m = tt
    by_place (InLeaf k) m = tt
    by_place AtSlot m = tt
one_alone decls lines dropped worker ops (NoSlot words) none alone m = tt
one_alone decls lines dropped worker ops (NoRoom set) none alone m = tt
one_alone decls lines dropped worker ops (NoNumber clock) none alone m = tt

no_try_met : (decls : List Decl) (lines : List (List (List Op))) (dropped : Type 0) (worker : ℕ) (ops : List Op)
    (refusals : List TryRefusal) → (dropped → ⊥) → IsByItself lines worker
    → AllByRecursion (IsMet decls lines dropped worker ops) refusals → AllByRecursion MeetsNobody refusals
no_try_met decls lines dropped worker ops [] none alone all = tt
no_try_met decls lines dropped worker ops (refusal ∷ more) none alone all = (
  one_alone decls lines dropped worker ops refusal none alone all.0,
  no_try_met decls lines dropped worker ops more none alone all.1,
)

-- A worker that has a round to itself, in which no pages were dropped, is in conflict at no record of an array. At a
-- pointer it may be: at one that it led to a page itself, in a transaction that had read below it; and at words of a
-- leaf of a tree that it split itself.
pub alone_met : (decls : List Decl) (lines : List (List (List Op))) (dropped : Type 0) (worker : ℕ)
    (mine : List (List Op))
    (refused : List (List TryRefusal)) → (dropped → ⊥) → IsByItself lines worker
    → LinesMet decls lines dropped worker mine refused → AllByRecursion (AllByRecursion MeetsNobody) refused
alone_met decls lines dropped worker [] [] none alone all = tt
alone_met decls lines dropped worker [] (refusals ∷ more) none alone all = absurd all
alone_met decls lines dropped worker (ops ∷ mine) [] none alone all = absurd all
alone_met decls lines dropped worker (ops ∷ mine) (refusals ∷ more) none alone all = (
  no_try_met decls lines dropped worker ops refusals none alone all.0,
  alone_met decls lines dropped worker mine more none alone all.1,
)

-- ---- where it is said otherwise that pages were dropped

try_for : (decls : List Decl) (lines : List (List (List Op))) (dropped other : Type 0) (worker : ℕ)
    (ops : List Op) (refusal : TryRefusal)
    → (dropped → other) → IsMet decls lines dropped worker ops refusal → IsMet decls lines other worker ops refusal
try_for decls lines dropped other worker ops (InConflict met) says m = by_place met.at m
  where
    by_place : (at : Where) → IsMetAt lines dropped worker ops at → IsMetAt lines other worker ops at
    by_place (AtRecord k) (inl m) = inl m
    by_place (AtRecord k) (inr m) = inr (m.0, says m.1)
    by_place (OnWay k) m = m
    by_place (InLeaf k) m = m
    by_place AtSlot m = m
try_for decls lines dropped other worker ops (NoSlot words) says m = m
try_for decls lines dropped other worker ops (NoRoom set) says m = m
try_for decls lines dropped other worker ops (NoNumber clock) says m = tt

tries_for : (decls : List Decl) (lines : List (List (List Op))) (dropped other : Type 0) (worker : ℕ) (ops : List Op)
    (refusals : List TryRefusal) → (dropped → other) → AllByRecursion (IsMet decls lines dropped worker ops) refusals
    → AllByRecursion (IsMet decls lines other worker ops) refusals
tries_for decls lines dropped other worker ops [] says all = tt
tries_for decls lines dropped other worker ops (refusal ∷ more) says all = (
  try_for decls lines dropped other worker ops refusal says all.0,
  tries_for decls lines dropped other worker ops more says all.1,
)

lines_for : (decls : List Decl) (lines : List (List (List Op))) (dropped other : Type 0) (worker : ℕ)
    (mine : List (List Op))
    (refused : List (List TryRefusal)) → (dropped → other) → LinesMet decls lines dropped worker mine refused
    → LinesMet decls lines other worker mine refused
lines_for decls lines dropped other worker [] [] says all = tt
lines_for decls lines dropped other worker [] (refusals ∷ more) says all = absurd all
lines_for decls lines dropped other worker (ops ∷ mine) [] says all = absurd all
lines_for decls lines dropped other worker (ops ∷ mine) (refusals ∷ more) says all = (
  tries_for decls lines dropped other worker ops refusals says all.0,
  lines_for decls lines dropped other worker mine more says all.1,
)

-- What holds where the one says that pages were dropped holds where another does, if that follows.
pub met_for : (decls : List Decl) (lines : List (List (List Op))) (dropped other : Type 0) (worker : ℕ)
    (mine : List (List (List Op)))
    (refused : List (List (List TryRefusal))) → (dropped → other) → WorkersMet decls lines dropped worker mine refused
    → WorkersMet decls lines other worker mine refused
met_for decls lines dropped other worker [] [] says all = tt
met_for decls lines dropped other worker [] (refused ∷ others) says all = absurd all
met_for decls lines dropped other worker (mine ∷ more) [] says all = absurd all
met_for decls lines dropped other worker (mine ∷ more) (refused ∷ others) says all = (
  lines_for decls lines dropped other worker mine refused says all.0,
  met_for decls lines dropped other (worker + 1) more others says all.1,
)
