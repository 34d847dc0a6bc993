-- What the parts of a try do.
use Rattle.std.specs.Prelude.{◌≡◌, ℕ, ◌+◌, ◌*◌, ◌%◌, ◌^◌, ◌≤◌, length, List, [], ◌∷◌, ◌++◌, Some, None, Option}
use Rattle.std.specs.Prelude.{true, ◌⊎◌, IfErr, IfOk, Result}
use Rattle.std.specs.Prelude.{Contains, option_to_list}
use Rattle.serial_model.specs.declared.decl.Decl.{Decl}
use Rattle.serial_model.specs.declared.key.Key.{Key}
use Rattle.serial_model.specs.declared.op.Op.{Op}
use Rattle.serial_model.specs.declared.reply.Reply.{Reply}
use Rattle.serial_model.specs.declared.reply.Verdict.{Verdict}
use Rattle.serial_model.specs.declared.reply.Verdict.TheVariants.{Done, Short, Over}
use Rattle.serial_model.specs.Numbers.{draw_limit}
use Rattle.tx_sets.specs.declared.seen.Seen.{Seen}
use Rattle.tx_sets.specs.declared.sets.Sets.{Sets}
use Rattle.tx_sets.specs.Entries.{has_read, has_word, has_write}
use Rattle.engine_pages.specs.declared.layout.Layout.{Layout}
use Rattle.engine_pages.specs.declared.view.RefusalCause.{RefusalCause}
use Rattle.engine_pages.specs.declared.view.RefusalCause.TheVariants as refusals
use Rattle.engine_pages.specs.declared.view.SetName.{SetName}
use Rattle.engine_pages.specs.declared.view.SetName.TheVariants as names
use Rattle.engine_pages.specs.declared.view.View.{View}
use Rattle.engine_pages.specs.Layout.{clock_at}
use Rattle.engine_pages.specs.Slots.{first_retired}
use Rattle.engine_pages.specs.Steps.{glance}
use Rattle.engine_pages.specs.Views.{seat_number}
use Rattle.page_commit.specs.Calls.{op_holds}
use Rattle.page_commit.specs.Live.{IsLive}
use Rattle.page_commit.specs.Refusing.{HasRefused}
use Rattle.page_commit.specs.Turning.{HasDone, HasStopped, MayWrite, OnlyWalked}
use Rattle.page_commit.specs.Running.{HasRun, HasEnded}
use Rattle.tx_runner.specs.declared.lines.LineEnd.{LineEnd}
use Rattle.tx_runner.specs.declared.lines.LineEnd.TheVariants as ends
use Rattle.tx_runner.specs.Lines.{HasTreeOp, HasTreeScan, IsOfKey, IsOnTree, IsTreeScan, op_steps}
use Rattle.tx_runner.specs.Tries.{AreAllTaken, FillsSet, HasDrawsLeft, HasTriedFor, IsAtSpot, IsChangedAt, IsClash}
use Rattle.tx_runner.specs.Tries.{IsKeyOf, IsLeafWord, IsPlaced, IsWayWord, IsWrittenBy, Lost, OfLeaf, OfRecord}
use Rattle.tx_runner.specs.Tries.{OfSlot, OfWay, Spot, ToClock}
use Rattle.tx_runner.specs.Tries.{ToOther, ToSet, ToSlots, TouchesOnly, Writes, blame_at, why_of}

-- ---- operations

-- The transaction has read and written at most so many keys, met so many pointers, and no header, and holds no more
-- slots than so many operations on arrays may.
pub record AreWithin (count : ℕ) (sets : Sets) : Type 0 where
  pub reads : length sets.reads ≤ count
  pub writes : length sets.writes ≤ count
  pub pointers : length sets.pointers ≤ count
  pub headers : length sets.headers ≡ 0
  pub holds : length sets.holds ≤ op_holds * count

-- the transaction has read, met pointers and keeps headers, at most so many of each
pub record AreFewMet (count : ℕ) (sets : Sets) : Type 0 where
  pub reads : length sets.reads ≤ count
  pub pointers : length sets.pointers ≤ count
  pub headers : length sets.headers ≤ count

-- the transaction goes on, with this reply or none
pub record OpGoesOn (op : Op) (old now : List Reply) (sets new : Sets) (v w : View) : Type 0 where
  pub reply : Option Reply
  pub replies : now ≡ old ++ option_to_list reply
  pub done : HasDone op reply sets new v w

-- the operation ended the transaction, without a reply
pub record OpEndsIt (op : Op) (verdict : Verdict) (old now : List Reply) (sets new : Sets) (v w : View) : Type 0 where
  pub replies : now ≡ old
  pub stopped : HasStopped op verdict sets new v w

-- what the operation comes to
abbrev pub HasAnswered : Op → Verdict → List Reply → List Reply → Sets → Sets → View → View → Type 0
HasAnswered op Done old now sets new v w = OpGoesOn op old now sets new v w
HasAnswered op Short old now sets new v w = OpEndsIt op Short old now sets new v w
HasAnswered op Over old now sets new v w = OpEndsIt op Over old now sets new v w

-- the transaction has run these operations, or was ended by one of them
abbrev pub HasRunTo : List Op → Verdict → List Reply → Sets → View → Type 0
HasRunTo ops Done replies sets w = HasRun ops replies sets w
HasRunTo ops Short replies sets w = HasEnded ops Short replies w
HasRunTo ops Over replies sets w = HasEnded ops Over replies w

-- What the transaction has read are keys of the operations, what it has written are keys that they may write, and each
-- pointer that it met and each header that it keeps is a word for a key of theirs, a header's in a page.
pub record AreKeysOf (l : Layout) (ops : List Op) (sets : Sets) : Type 0 where
  pub reads : (k : Key) → has_read k sets.reads ≡ true → IsKeyOf ops k
  pub writes : (k : Key) → has_write k sets.writes ≡ true → IsWrittenBy ops k
  pub pointers : (p : Seen) → Contains sets.pointers p → (k : Key) × IsKeyOf ops k × IsWayWord l k p.at
  pub headers : (at : ℕ) → has_word at sets.headers ≡ true → (k : Key) × IsKeyOf ops k × IsLeafWord l k at

-- Only walks lie between, with parts, and pages in memory, and locks that the operations may take.
pub record OnlyLoaded (ops : List Op) (v w : View) : Type 0 where
  pub walked : OnlyWalked v w
  pub touched : TouchesOnly ops v w

-- The sets have no more than operations on arrays alone may need, or one of the operations is on a tree.
abbrev pub AreSized : List Op → ℕ → Sets → View → Type 0
AreSized ops count sets v = HasTreeOp v.layout.decls ops ⊎ AreWithin count sets

-- So many operations have written as many keys at most; and they have read, met and keep as many of each kind, or one
-- of the operations scans a tree.
pub record AreCounted (ops : List Op) (count : ℕ) (sets : Sets) (v : View) : Type 0 where
  pub writes : length sets.writes ≤ count
  pub met : HasTreeScan v.layout.decls ops ⊎ AreFewMet count sets

-- the sets have no more than there is room for
pub record HasRoom (sets : Sets) : Type 0 where
  pub reads : length sets.reads ≤ 256
  pub writes : length sets.writes ≤ 16
  pub pointers : length sets.pointers ≤ 128
  pub headers : length sets.headers ≤ 256
  pub holds : length sets.holds ≤ 128

-- and is still under way, with nothing new but walks, parts, pages in memory and locks
pub record HasAnsweredAll (ops : List Op) (verdict : Verdict) (replies : List Reply) (sets : Sets) (v w : View)
    : Type 0 where
  pub live : IsLive sets w
  pub only : OnlyLoaded ops v w
  pub sized : AreSized ops (length ops) sets v
  pub run : HasRunTo ops verdict replies sets w
  pub keys : AreKeysOf w.layout ops sets

-- the key is one of the operation; at a slot it may write one
abbrev pub IsMetBy : Op → Spot → Type 0
IsMetBy op (OfRecord k) = IsOfKey op k
IsMetBy op (OfWay k) = IsOfKey op k
IsMetBy op (OfLeaf k) = IsOfKey op k
IsMetBy op OfSlot = (k : Key) × MayWrite op k

-- An operation met a word that was changed, or is locked or shut: that of the record of its key in an array, or else a
-- slot's, that of a pointer on the way to its key, or one of a leaf of a tree.
pub record IsOpConflict (op : Op) (at expected seen : ℕ) (v w : View) : Type 0 where
  pub spot : Spot
  pub key : IsMetBy op spot
  pub place : IsAtSpot v.layout spot at
  pub cause : IsChangedAt spot expected seen
  pub blamed : w.blamed ≡ v.blamed ++ blame_at (seat_number v.role) spot

-- An operation that may write found no slot usable; of those that were seen the lowest retired one is told.
pub record IsOpFull (op : Op) (told : Option (ℕ × ℕ)) (v w : View) : Type 0 where
  pub key : Key
  pub writes : MayWrite op key
  pub words : List ℕ
  pub all : AreAllTaken words v w
  pub told_is : told ≡ first_retired 0 words

-- What the sets had as an operation needed one entry more of this one: 16 writes; 254 records and headers, as it may
-- have met one of each itself before it needed a third, or it scans a tree; 128 pointers, or it scans a tree; and all
-- slots but those that one on an array may hold itself, or it is on a tree.
abbrev pub IsOpWide : List Decl → Op → Sets → SetName → Type 0
IsOpWide decls op sets names.Reads = IsTreeScan decls op ⊎ (254 ≤ length sets.reads + length sets.headers)
IsOpWide decls op sets names.Writes = 16 ≤ length sets.writes
IsOpWide decls op sets names.Pointers = IsTreeScan decls op ⊎ (128 ≤ length sets.pointers)
IsOpWide decls op sets names.Holds = IsOnTree decls op ⊎ (128 ≤ length sets.holds + op_holds)

-- why an operation is refused
abbrev pub IsOpWhy : Op → Sets → RefusalCause → View → View → Type 0
IsOpWhy op sets (refusals.Conflict at expected seen) v w = IsOpConflict op at expected seen v w
IsOpWhy op sets (refusals.Full told) v w = IsOpFull op told v w
IsOpWhy op sets (refusals.Wide set) v w = IsOpWide v.layout.decls op sets set
IsOpWhy op sets (refusals.NumberLimit clock) v w = ⊥

-- the operation was refused for this, before any draw, and took locks at most that it may take
pub record IsOpCause (op : Op) (sets : Sets) (why : RefusalCause) (v w : View) : Type 0 where
  pub draws : w.draws ≡ v.draws
  pub touched : TouchesOnly (op ∷ []) v w
  pub cause : IsOpWhy op sets why v w

-- What an operation comes to, or why it is refused; how many steps it takes at most, and how many slots more are held
-- behind one on an array.
pub record RunsOp (op : Op) (r : Result Verdict RefusalCause) (old now : List Reply) (sets new : Sets) (v w : View)
    : Type 0 where
  pub answers : IfOk r (λ verdict. HasAnswered op verdict old now sets new v w)
  pub refused : IfErr r (λ why. HasRefused why v w)
  pub cause : IfErr r (λ why. IsOpCause op sets why v w)
  pub steps : w.steps ≤ v.steps + op_steps v.layout.decls v.layout.slots op
  pub grows : IsOnTree v.layout.decls op ⊎ (length new.holds ≤ length sets.holds + op_holds)

-- Why one of these operations, which is this one, was refused.
abbrev pub IsWhyAmong : List Op → Op → RefusalCause → View → View → Type 0
IsWhyAmong ops op (refusals.Conflict at expected seen) v w = IsOpConflict op at expected seen v w
IsWhyAmong ops op (refusals.Full told) v w = IsOpFull op told v w
IsWhyAmong ops op (refusals.Wide set) v w = FillsSet v.layout.decls ops set
IsWhyAmong ops op (refusals.NumberLimit clock) v w = ⊥

-- One of these operations was refused so, before any draw, and they took locks at most that they may take.
pub record IsCauseAmong (ops : List Op) (why : RefusalCause) (v w : View) : Type 0 where
  pub op : Op
  pub among : Contains ops op
  pub draws : w.draws ≡ v.draws
  pub touched : TouchesOnly ops v w
  pub cause : IsWhyAmong ops op why v w

-- ---- tries

-- The cause of a refusal: of a try that began, a conflict, all slots that were taken, or a full set, which its
-- operations can fill; or the clock, which was loaded last.
abbrev pub IsTryCause : List Op → Lost → View → View → Type 0
IsTryCause ops (ToOther clash) v w =
    IsClash ops (ToOther clash) × HasDrawsLeft v × IsPlaced v.layout (ToOther clash)
IsTryCause ops (ToSlots words) v w = Writes ops × AreAllTaken words v w × HasDrawsLeft v
IsTryCause ops (ToSet set) v w = FillsSet v.layout.decls ops set × HasDrawsLeft v
IsTryCause ops (ToClock clock) v w =
    (draw_limit ≤ clock % 2 ^ 40) × (clock % 2 ^ 40 ≡ v.layout.first.draw + length w.history)
    × (step : ℕ) × (w.last ≡ Some (glance step clock_at clock))

-- the try was refused for this
pub record RefusesTry (ops : List Op) (why : RefusalCause) (v w : View) : Type 0 where
  pub lost : Lost
  pub is : why_of lost ≡ why
  pub tried : HasTriedFor ops (lost ∷ []) v w
  pub cause : IsTryCause ops lost v w

-- How a line ends with a try that was refused for this. A conflict alone is tried again.
abbrev pub end_of : RefusalCause → Option LineEnd
end_of (refusals.Conflict at expected seen) = None
end_of (refusals.Full told) = Some ends.Full
end_of (refusals.Wide set) = Some ends.Wide
end_of (refusals.NumberLimit clock) = Some ends.Limit
