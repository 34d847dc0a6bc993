-- Refusals as they are told of tries, and as the engine has them: each of them whole.
use Rattle.std.specs.Prelude.{◌≡◌, ◌<◌, ℕ, true, List, flat_map, map, ⊤}
use Rattle.std.specs.List.{AllByRecursion}
use Rattle.serial_model.specs.declared.decl.Decl.{Decl}
use Rattle.engine_pages.specs.Layout.{slot_at}
use Rattle.engine_pages.specs.Pages.{is_array}
use Rattle.engine_pages.specs.declared.layout.Layout.{Layout}
use Rattle.engine_pages.specs.declared.view.RefusalCause.{RefusalCause}
use Rattle.engine_pages.specs.declared.view.RefusalCause.TheVariants as refusals
use Rattle.engine_pages.specs.declared.view.SetName.{SetName}
use Rattle.engine_pages.specs.declared.view.SetName.TheVariants as names
use Rattle.engine_pages.specs.Slots.{first_retired}
use Rattle.tx_script.specs.Run.{AtRecord, AtSlot, FullSet, InConflict, InLeaf, NoNumber, NoRoom, NoSlot, OfHolds}
use Rattle.tx_script.specs.Run.{OfPointers, OfReads, OfWrites, OnWay, TryRefusal, Where}
use Rattle.worker_cells.specs.Below.{IsLeafWord, IsRecordWord, IsWayWord, Lost, OfLeaf, OfRecord, OfSlot, OfWay, Spot}
use Rattle.worker_cells.specs.Below.{ToClock, ToOther, ToSet, ToSlots}

-- ---- what is told

-- a set of a transaction, as it is told
abbrev pub set_of : SetName → FullSet
set_of names.Reads = OfReads
set_of names.Writes = OfWrites
set_of names.Pointers = OfPointers
set_of names.Holds = OfHolds

-- where a try was in conflict, as it is told
abbrev pub where_of : Spot → Where
where_of (OfRecord k) = AtRecord k
where_of (OfWay k) = OnWay k
where_of (OfLeaf k) = InLeaf k
where_of OfSlot = AtSlot

-- the word of a conflict, by its number among all that threads share
abbrev pub word_in : RefusalCause → ℕ
word_in (refusals.Conflict word expected seen) = word
word_in (refusals.Full held) = 0
word_in (refusals.Wide set) = 0
word_in (refusals.NumberLimit clock) = 0

-- what was expected there
abbrev pub expected_in : RefusalCause → ℕ
expected_in (refusals.Conflict word expected seen) = expected
expected_in (refusals.Full held) = 0
expected_in (refusals.Wide set) = 0
expected_in (refusals.NumberLimit clock) = 0

-- and what was seen
abbrev pub seen_in : RefusalCause → ℕ
seen_in (refusals.Conflict word expected seen) = seen
seen_in (refusals.Full held) = 0
seen_in (refusals.Wide set) = 0
seen_in (refusals.NumberLimit clock) = 0

-- what a try was refused for
abbrev pub try_refusal : Lost → TryRefusal
try_refusal (ToOther clash) = InConflict (record {
  at = where_of clash.spot;
  word = word_in clash.why;
  expected = expected_in clash.why;
  seen = seen_in clash.why;
  drew = clash.drew;
})
try_refusal (ToSlots words) = NoSlot words
try_refusal (ToSet set) = NoRoom (set_of set)
try_refusal (ToClock clock) = NoNumber clock

-- ---- what the engine has

-- the set by its name
abbrev pub name_of : FullSet → SetName
name_of OfReads = names.Reads
name_of OfWrites = names.Writes
name_of OfPointers = names.Pointers
name_of OfHolds = names.Holds

-- the refusal as the engine has it: of slots the lowest retired one
abbrev pub cause_of : TryRefusal → RefusalCause
cause_of (InConflict met) = refusals.Conflict met.word met.expected met.seen
cause_of (NoSlot words) = refusals.Full (first_retired 0 words)
cause_of (NoRoom set) = refusals.Wide (name_of set)
cause_of (NoNumber clock) = refusals.NumberLimit clock

-- those of a worker's lines, line by line and try by try
abbrev pub causes_of_lines : List (List TryRefusal) → List RefusalCause
causes_of_lines refused = flat_map (λ line. map cause_of line) refused

-- and those of all workers, one behind another
abbrev pub causes_of : List (List (List TryRefusal)) → List RefusalCause
causes_of refused = flat_map causes_of_lines refused

-- ---- where the words stand

-- the record is one of an array, and the word that of a record; the word is on the way to the key, in a root or a page;
-- it is one of a page, for the key of a tree; or it is that of a slot
abbrev pub IsToldAt : Layout → Where → ℕ → Type 0
IsToldAt l (AtRecord k) word = (is_array l.decls k.storage ≡ true) × IsRecordWord l k word
IsToldAt l (OnWay k) word = IsWayWord l k word
IsToldAt l (InLeaf k) word = IsLeafWord l k word
IsToldAt l AtSlot word = (t : ℕ) × (t < l.slots) × (word ≡ slot_at t)

-- the word of a conflict stands where it is told
abbrev pub IsWordTold : Layout → TryRefusal → Type 0
IsWordTold l (InConflict met) = IsToldAt l met.at met.word
IsWordTold l (NoSlot words) = ⊤
IsWordTold l (NoRoom set) = ⊤
IsWordTold l (NoNumber clock) = ⊤

-- so do those of these tries, where there are these storages and so many slots
pub record AreWordsTold (decls : List Decl) (slots : ℕ) (refused : List (List (List TryRefusal))) : Type 0 where
  pub layout : Layout
  pub decls_are : layout.decls ≡ decls
  pub slots_are : layout.slots ≡ slots
  pub each : AllByRecursion (AllByRecursion (AllByRecursion (IsWordTold layout))) refused
