-- A transaction's own changes, before it ends: written values stand in the map, with a way back, and removed keys stand aside.
use Rattle.std.specs.Prelude.{◌≡◌, ℕ, Bool, not, List, [], ◌∷◌, ◌++◌, Option, Some, None, IsSome, option_to_list}
use Rattle.std.specs.Ordering.{eq_by_cmp}
use Rattle.std.specs.List.{list_any}
use Rattle.std.specs.FinMap.{get, insert, remove, retain_keys}
use Rattle.serial_model.specs.Keys.{key_cmp}
use Rattle.serial_model.specs.State.{State}
use Rattle.serial_model.specs.Step.{Move, Goes, Ends}
use Rattle.serial_model.specs.declared.key.Key.{Key}
use Rattle.serial_model.specs.declared.draft.Undo.{Undo}
use Rattle.serial_model.specs.declared.reply.Reply.{Reply}
use Rattle.serial_model.specs.declared.reply.Verdict.{Verdict}
use Rattle.serial_model.specs.declared.reply.Verdict.TheVariants.{Done, Short, Over}

-- the key isn't among those removed
abbrev pub is_kept : List Key → Key → Bool
is_kept gone k = not (list_any (eq_by_cmp key_cmp k) gone)

-- the state that the transaction sees: the map without the removed keys
abbrev pub working : State → List Key → State
working s gone = retain_keys s (is_kept gone)

-- the map with a key's earlier value
abbrev pub undone_to : Key → Option ℕ → State → State
undone_to k (Some v) s = insert s k v
undone_to k None s = remove s k

-- the map with one change taken back
abbrev pub undone : Undo → State → State
undone u s = undone_to u.key u.value s

-- the earlier value goes back without memory: where there is one, the key is in the map
abbrev pub NeedsNoMemory : Undo → State → Type 0
NeedsNoMemory u s = IsSome u.value → IsSome (get s u.key)

-- undone from the last one on, without memory, the changes lead from s back to first
abbrev pub GoesBack : List Undo → State → State → Type 0
GoesBack [] s first = s ≡ first
GoesBack (u ∷ us) s first = (t : State) × GoesBack us s t × NeedsNoMemory u t × (undone u t ≡ first)

-- wherever the old changes led back to, the new ones do
abbrev pub KeepsWayBack : List Undo → State → List Undo → State → Type 0
KeepsWayBack us s vs t = (first : State) → GoesBack us s first → GoesBack vs t first

-- an operation that replies nothing came to this, with the state that it left
abbrev pub move_to : Option Verdict → State → Move
move_to None s = Goes None s
move_to (Some verdict) s = Ends verdict

-- an operation came to this: where the transaction goes on, its reply stands behind those before it
abbrev pub Moves : Move → List Reply → List Reply → State → Option Verdict → Type 0
Moves (Goes reply s) before after now None = (after ≡ before ++ option_to_list reply) × (now ≡ s)
Moves (Goes reply s) before after now (Some verdict) = ⊥
Moves (Ends v) before after now None = ⊥
Moves (Ends v) before after now (Some verdict) = (after ≡ before) × (verdict ≡ v)

-- the state at a transaction's end: only a transaction that is done keeps its changes
abbrev pub state_at_end : Verdict → State → State → State
state_at_end Done first s = s
state_at_end Short first s = first
state_at_end Over first s = first
