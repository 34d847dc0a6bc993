-- Acts that move keys in two steps: what one comes to, which takes memory, and to put that, which takes none.
use Rattle.std.specs.Prelude.{◌≡◌, ℕ, true, false, Result, Ok, Err, unwrap_or}
use Rattle.lists.specs.declared.memory.OrMemory.{OrMemory}
use Rattle.lists.specs.declared.memory.OrMemory.TheVariants.{Fault, Memory}
use Rattle.drop_core.specs.declared.event.Act.{Act}
use Rattle.drop_core.specs.declared.event.NotAllowed.{NotAllowed}
use Rattle.drop_core.specs.declared.swaps.Numbers.{Numbers}
use Rattle.drop_core.specs.declared.swaps.Numbers.TheVariants.{Kept, Made, Taken}
use Rattle.drop_core.specs.declared.swaps.Swap.{Swap}
use Rattle.drop_core.specs.declared.table.Table.{Table}
use Rattle.drop_core.specs.declared.grip.Grip.{Grip}
use Rattle.drop_core.specs.Event.{Turned, turned, is_allowed, effect, moves, takes_memory}

-- the grip, whose slots of one kind are these now
abbrev pub with_numbers : Numbers → Grip → Grip
with_numbers Kept g = g
with_numbers (Made numbers) g = record g { made = numbers }
with_numbers (Taken numbers) g = record g { taken = numbers }

-- what is left once the swap was put: the lists that it has none of are as they were
abbrev pub put : Swap → Table → Grip → Turned
put w d g =
    turned
    (record d {
      slots = unwrap_or w.slots d.slots;
      pages = unwrap_or w.pages d.pages;
      pointers = unwrap_or w.pointers d.pointers;
      headers = unwrap_or w.headers d.headers;
    })
    (with_numbers w.numbers g)

-- What preparing an act answers: to put the swap is the act, and its moves are the act's, only where it is allowed; it is
-- refused only where it is not, and wants memory only where it is allowed and takes some.
abbrev pub Prepares : ℕ → Act → Table → Grip → Result Swap (OrMemory NotAllowed) → Type 0
Prepares p act d g (Ok w) =
    (is_allowed p d g act ≡ true) × (w.moves ≡ moves d act)
    × ((put w d g).table ≡ (effect p d g act).table) × ((put w d g).grip ≡ (effect p d g act).grip)
Prepares p act d g (Err (Fault r)) = is_allowed p d g act ≡ false
Prepares p act d g (Err Memory) = (is_allowed p d g act ≡ true) × (takes_memory act ≡ true)
