-- Turns that move keys, which are tested and made in steps, and those that move none.
use Rattle.std.specs.Prelude.{◌≡◌, [], Some, None, ⊤}
use Rattle.serial_model.specs.declared.key.Key.{Key}
use Rattle.homes.specs.declared.places.Home.{Home}
use Rattle.drop_core.specs.declared.table.Table.{Table}
use Rattle.drop_core.specs.declared.event.Twins.{Twins}
use Rattle.drop_core.specs.declared.event.Act.{Act}
use Rattle.drop_core.specs.declared.event.Act.TheVariants.{Enter, Leave, Give, Publish, Retire, FillPage, FillPointer}
use Rattle.drop_core.specs.declared.event.Act.TheVariants.{FillSnapshot, Extend, Install, Swing, Renew, Shut, Reopen}
use Rattle.drop_core.specs.declared.event.Act.TheVariants.{FillHeader, LockHeader, OpenHeader, Twin, SwingChain}
use Rattle.drop_core.specs.Table.{page_of, leaf_home, snap_home}
use Rattle.drop_core.specs.Event.{leaf_keys, twin_home, next_place, moves}
use Rattle.engine_rule.specs.declared.shifts.Halves.{Halves}
use Rattle.engine_rule.specs.declared.shifts.Shift.{Shift}
use Rattle.engine_rule.specs.declared.shifts.Shift.TheVariants.{Up, Down, Behind, Apart}

-- the split whose leaves these are
abbrev pub twins_of : Halves → Twins
twins_of h = record { slot = h.slot; minor = h.minor; major = h.major; separator = h.separator; keys = [] }

-- where a key goes
abbrev pub shift_home : Table → Shift → Key → Home
shift_home d (Up s) k = leaf_home s 0 (leaf_keys (page_of d s)) k
shift_home d (Down n) k = snap_home d n k
shift_home d (Behind s) k = next_place d s
shift_home d (Apart h) k = twin_home d h.span (twins_of h) k

-- the act moves no key, whatever the pages are
abbrev pub IsNoShift : Act → Type 0
IsNoShift act = (d : Table) → moves d act ≡ []

-- the act is one of those that may move keys
abbrev pub IsShift : Act → Type 0
IsShift (Enter s) = ⊥
IsShift (Leave s) = ⊥
IsShift (Give s) = ⊥
IsShift (Publish s) = ⊥
IsShift (Retire s) = ⊥
IsShift (FillPage s page) = ⊥
IsShift (FillPointer x q) = ⊥
IsShift (FillSnapshot n page) = ⊥
IsShift (Extend n) = ⊥
IsShift (Install x s) = ⊤
IsShift (Swing x n) = ⊤
IsShift (Renew x n) = ⊥
IsShift (Shut x) = ⊥
IsShift (Reopen x) = ⊥
IsShift (FillHeader s) = ⊥
IsShift (LockHeader s) = ⊥
IsShift (OpenHeader s None) = ⊥
IsShift (OpenHeader s (Some k)) = ⊤
IsShift (Twin w) = ⊤
IsShift (SwingChain x n c) = ⊤
