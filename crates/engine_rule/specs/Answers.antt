-- What a step answers, and what it leaves.
use Rattle.std.specs.Prelude.{◌≡◌, ℕ, ◌&&◌, Bool, true, false, List, Result, Ok, Err}
use Rattle.lists.specs.declared.memory.OrMemory.{OrMemory}
use Rattle.lists.specs.declared.memory.OrMemory.TheVariants.{Fault, Memory}
use Rattle.homes.specs.declared.places.Move.{Move}
use Rattle.commit_core.specs.declared.event.NotAllowed.{NotAllowed}
use Rattle.commit_core.specs.declared.seat.Seat.{Seat}
use Rattle.commit_core.specs.declared.story.Story.{Story}
use Rattle.commit_core.specs.Event.{takes_memory as commit_takes}
use Rattle.drop_core.specs.declared.table.Table.{Table}
use Rattle.drop_core.specs.declared.grip.Grip.{Grip}
use Rattle.drop_core.specs.declared.event.Act.{Act as PageAct}
use Rattle.drop_core.specs.Event.{is_allowed as page_allows, effect as page_effect, moves, takes_memory as page_takes}
use Rattle.engine_rule.specs.declared.event.JointAct.{JointAct}
use Rattle.engine_rule.specs.declared.event.JointAct.TheVariants.{Commit, SeePointer, CheckPointer, SeeHeader}
use Rattle.engine_rule.specs.declared.event.JointAct.TheVariants.{CheckHeader, AddRecord, AddKey, FillRecord, Turn}
use Rattle.engine_rule.specs.declared.event.JointEvent.{JointEvent}
use Rattle.engine_rule.specs.JointState.{JointState}
use Rattle.engine_rule.specs.Event.{Joined, joined, may_move, after_moves, is_allowed, effect, may_happen, happened}

-- the act adds to a list, or builds one anew
abbrev pub takes_memory : JointAct → Bool
takes_memory (Commit act) = commit_takes act
takes_memory (SeePointer x) = true
takes_memory (CheckPointer x) = true
takes_memory (SeeHeader t) = true
takes_memory (CheckHeader t) = true
takes_memory (AddRecord t k) = true
takes_memory (AddKey t k) = true
takes_memory (FillRecord x c) = true
takes_memory (Turn act) = page_takes act

-- It was done, and only where it is allowed; it is refused only where it is not, and wants memory only where it is
-- allowed and takes memory; after the last two all is the same.
abbrev pub Tells : {X : Type 0} → Bool → Bool → Type 0 → Type 0 → Result X (OrMemory NotAllowed) → Type 0
Tells allowed takes done same (Ok x) = (allowed ≡ true) × done
Tells allowed takes done same (Err (Fault r)) = (allowed ≡ false) × same
Tells allowed takes done same (Err Memory) = (allowed ≡ true) × (takes ≡ true) × same

-- what is left of the story and the seat, and of the table and the seat's grip
abbrev pub IsLeft : Joined → Story → Seat → Table → Grip → Type 0
IsLeft j n t e h = (n ≡ j.story) × (t ≡ j.seat) × (e ≡ j.table) × (h ≡ j.grip)

-- these four, as one
abbrev pub all_of : Story → Seat → Table → Grip → Joined
all_of m s d g = record { story = m; seat = s; table = d; grip = g }

-- what an act of seat p answers and leaves
abbrev pub Answers : {X : Type 0} → ℕ → JointAct → Story → Seat → Table → Grip → Result X (OrMemory NotAllowed)
    → Story → Seat → Table → Grip → Type 0
Answers p act m s d g r n t e h =
    Tells (is_allowed p m s d g act) (takes_memory act) (IsLeft (effect p m s d g act) n t e h)
    (IsLeft (all_of m s d g) n t e h) r

-- what an event answers and leaves of the whole state
abbrev pub AnswersEvent : {X : Type 0} → JointState → JointEvent → Result X (OrMemory NotAllowed) → JointState → Type 0
AnswersEvent c e r d = Tells (may_happen c e) (takes_memory e.act) (d ≡ happened c e) (d ≡ c) r

-- ---- of parts of an act

-- what an act on pages answers and leaves of the pages
abbrev pub AnswersOnPages : {X : Type 0} → ℕ → PageAct → Table → Grip → Result X (OrMemory NotAllowed) → Table
    → Grip → Type 0
AnswersOnPages p act d g r e h =
    Tells (page_allows p d g act) (page_takes act)
    ((e ≡ (page_effect p d g act).table) × (h ≡ (page_effect p d g act).grip)) ((e ≡ d) × (h ≡ g)) r

-- what moves of keys answer, and leave of the commits
abbrev pub AnswersMoves : {X : Type 0} → ℕ → List Move → Story → Seat → Result X (OrMemory NotAllowed) → Story
    → Seat → Type 0
AnswersMoves p list m s r n t =
    Tells (may_move p m s list) true
    ((n ≡ (after_moves p m s list).story) × (t ≡ (after_moves p m s list).seat)) ((n ≡ m) × (t ≡ s)) r

-- what an act on pages with its moves answers and leaves
abbrev pub AnswersMoving : {X : Type 0} → ℕ → PageAct → Story → Seat → Table → Grip → Result X (OrMemory NotAllowed)
    → Story → Seat → Table → Grip → Type 0
AnswersMoving p act m s d g r n t e h =
    Tells (page_allows p d g act && may_move p m s (moves d act)) (page_takes act)
    (IsLeft (joined (after_moves p m s (moves d act)) (page_effect p d g act)) n t e h)
    (IsLeft (all_of m s d g) n t e h) r
