-- What may happen to both machines: the condition and the effect of each act of a seat, and lists of events.
use Rattle.std.specs.Prelude.{ℕ, ◌&&◌, ◌||◌, Bool, true, false, not, List, [], ◌∷◌, length, Option, Some, None}
use Rattle.std.specs.Prelude.{if◌then◌else◌, nat_lt, is_some, slice_get}
use Rattle.std.specs.List.{list_all}
use Rattle.std.specs.Option.{option_map_or}
use Rattle.serial_model.specs.declared.key.Key.{Key}
use Rattle.homes.specs.declared.places.Spot.{Spot}
use Rattle.homes.specs.declared.places.Move.{Move}
use Rattle.commit_core.specs.declared.part.Word.TheVariants.{Pointer, Header}
use Rattle.commit_core.specs.declared.event.Act.{Act as CommitAct}
use Rattle.commit_core.specs.declared.event.Act.TheVariants.{See, Keep, Lock, Draw, Check as Look, Confirm, Decide, Put}
use Rattle.commit_core.specs.declared.event.Act.TheVariants.{Open, Forget, Rehome, Advance, Mark}
use Rattle.commit_core.specs.declared.seat.Seat.{Seat}
use Rattle.commit_core.specs.declared.story.Story.{Story}
use Rattle.commit_core.specs.CoreState.{is_in_progress, is_trying, can_begin}
use Rattle.commit_core.specs.Keys.{nothing}
use Rattle.commit_core.specs.Fill.{filled}
use Rattle.commit_core.specs.Places.{stands, spot_at, holder_is}
use Rattle.commit_core.specs.Event.{Moved, moved as unmoved, is_allowed as commit_allows, effect as commit_effect}
use Rattle.commit_core.specs.Event.{with_moved}
use Rattle.drop_core.specs.declared.event.Act.{Act as PageAct}
use Rattle.drop_core.specs.declared.event.Act.TheVariants.{Enter, Leave, Give, Publish, Retire, FillPage, FillPointer}
use Rattle.drop_core.specs.declared.event.Act.TheVariants.{FillSnapshot, Extend, Install, Swing, Renew, Shut, Reopen}
use Rattle.drop_core.specs.declared.event.Act.TheVariants.{FillHeader, LockHeader, OpenHeader, Twin, SwingChain}
use Rattle.drop_core.specs.declared.table.Table.{Table}
use Rattle.drop_core.specs.declared.grip.Grip.{Grip}
use Rattle.drop_core.specs.Table.{slot_of, page_of, pointer_of, has_slot}
use Rattle.drop_core.specs.Event.{is_owned, leaf_keys, can_open_header, Turned, turned, is_allowed as page_allows}
use Rattle.drop_core.specs.Event.{effect as page_effect, moves, keys_in, with_turned}
use Rattle.engine_rule.specs.declared.event.JointAct.{JointAct}
use Rattle.engine_rule.specs.declared.event.JointAct.TheVariants.{Commit, SeePointer, CheckPointer, SeeHeader}
use Rattle.engine_rule.specs.declared.event.JointAct.TheVariants.{CheckHeader, AddRecord, AddKey, FillRecord, Turn}
use Rattle.engine_rule.specs.declared.event.JointEvent.{JointEvent}
use Rattle.engine_rule.specs.Pairs.{pointer_part}
use Rattle.engine_rule.specs.JointState.{JointState, keeps_word, holds_slot, can_see, is_so_now, can_see_header}
use Rattle.engine_rule.specs.JointState.{is_header_so_now, header_part, keeps_header_at}

-- ---- what pages ask of an act on commits

-- the slot of a place
abbrev pub slot_of_spot : Option Spot → Option ℕ
slot_of_spot None = None
slot_of_spot (Some x) = Some x.slot

-- Beside its own condition: a record is seen in a slot that the seat holds. What pages say is told by the events of
-- pointers and pages alone.
abbrev pub page_lets : Grip → Story → CommitAct → Bool
page_lets g m (See k) = holds_slot g (slot_of_spot (spot_at m.homes k))
page_lets g m (Keep part) = false
page_lets g m (Lock k) = true
page_lets g m (Draw writes) = true
page_lets g m (Look x) = true
page_lets g m (Confirm w told) = false
page_lets g m Decide = true
page_lets g m (Put k) = true
page_lets g m (Open k) = true
page_lets g m Forget = true
page_lets g m (Rehome list) = false
page_lets g m Advance = true
page_lets g m (Mark mark) = true

-- ---- what commits ask of an act on pages

-- the seat holds the home of each key
abbrev pub holds_all : ℕ → Story → List Key → Bool
holds_all p m keys = list_all (λ k. holder_is p (stands m.places m.homes k).holder) keys

-- each attempt in progress has an epoch above this one
abbrev pub is_before_all : Story → ℕ → Bool
is_before_all m epoch =
    list_all (λ a. not (is_in_progress m.decided m.given_up a.number) || nat_lt epoch a.number.epoch) m.history

-- each of the keys has a value, or its absence has an epoch below each attempt in progress
abbrev pub absences_are_old : Story → List Key → Bool
absences_are_old m keys =
    list_all (λ k. is_some (stands m.places m.homes k).content.value
    || is_before_all m (stands m.places m.homes k).content.number.epoch) keys

-- Beside its own condition, and that of the moves that it is: a seat leaves no slot of which it keeps a word; it swings
-- a pointer and splits a leaf while it has no attempt and holds each record below, and where it swings, absences there
-- are old. To open a header with a key is an act of its own.
abbrev pub commit_lets : ℕ → Story → Seat → Table → PageAct → Bool
commit_lets p m s d (Enter t) = true
commit_lets p m s d (Leave t) = not (keeps_word s.kept t)
commit_lets p m s d (Give t) = true
commit_lets p m s d (Publish t) = true
commit_lets p m s d (Retire t) = true
commit_lets p m s d (FillPage t page) = true
commit_lets p m s d (FillPointer x q) = true
commit_lets p m s d (FillSnapshot n page) = true
commit_lets p m s d (Extend n) = true
commit_lets p m s d (Install x t) = true
commit_lets p m s d (Swing x n) =
    can_begin s.stage
    && (holds_all p m (keys_in d (pointer_of d x).slot) && absences_are_old m (keys_in d (pointer_of d x).slot))
commit_lets p m s d (Renew x n) = true
commit_lets p m s d (Shut x) = true
commit_lets p m s d (Reopen x) = true
commit_lets p m s d (FillHeader t) = true
commit_lets p m s d (LockHeader t) = true
commit_lets p m s d (OpenHeader t None) = true
commit_lets p m s d (OpenHeader t (Some k)) = false
commit_lets p m s d (Twin w) = can_begin s.stage && holds_all p m (leaf_keys (page_of d w.slot))
commit_lets p m s d (SwingChain x n c) = can_begin s.stage && (holds_all p m c.keys && absences_are_old m c.keys)

-- the moves may be made: between equal contents, to places that nobody holds
abbrev pub may_move : ℕ → Story → Seat → List Move → Bool
may_move p m s moves = commit_allows p m s (Rehome moves)

-- what they leave, if there are any
abbrev pub after_moves : ℕ → Story → Seat → List Move → Moved
after_moves p m s [] = unmoved m s
after_moves p m s (v ∷ more) = commit_effect p m s (Rehome (v ∷ more))

-- ---- keys that are added

-- the place behind the records of the page in a slot
abbrev pub next_spot : Table → ℕ → Spot
next_spot d t = record { slot = t; index = length (leaf_keys (page_of d t)) }

-- the act on pages that opens the header with a key
abbrev pub opening_with : ℕ → Key → PageAct
opening_with t k = OpenHeader t (Some k)

-- the seat has seen the key
abbrev pub and_seen : ℕ → Key → Moved → Moved
and_seen p k n = commit_effect p n.story n.seat (See k)

-- What the seat keeps of the header, with so many records, goes on: the part becomes that of the header as it is
-- now, and the new record, which is absent, is kept too.
abbrev pub renewed : ℕ → Table → ℕ → ℕ → Key → Moved → Moved
renewed p e t count k n =
    if keeps_header_at n.seat.kept t count
    then and_seen p k (commit_effect p n.story n.seat (Keep (header_part e t)))
    else n

-- what the key that is added leaves
abbrev pub after_key : ℕ → Story → Seat → Table → Grip → ℕ → Key → Moved
after_key p m s d g t k =
    renewed p (page_effect p d g (opening_with t k)).table t (length (leaf_keys (page_of d t))) k
    (after_moves p m s (moves d (opening_with t k)))

-- ---- conditions

-- Seat p, which has s and g, may do this. While it has an attempt in progress, whose parts are what it keeps, it adds
-- no key.
abbrev pub is_allowed : ℕ → Story → Seat → Table → Grip → JointAct → Bool
is_allowed p m s d g (Commit act) = page_lets g m act && commit_allows p m s act
is_allowed p m s d g (SeePointer x) = can_see d g x && commit_allows p m s (Keep (pointer_part d x))
is_allowed p m s d g (CheckPointer x) = commit_allows p m s (Confirm (Pointer x) (is_so_now p d m s x))
is_allowed p m s d g (SeeHeader t) = can_see_header d g t && commit_allows p m s (Keep (header_part d t))
is_allowed p m s d g (CheckHeader t) = commit_allows p m s (Confirm (Header t) (is_header_so_now d m s t))
is_allowed p m s d g (AddRecord t k) = can_open_header p d t (Some k)
is_allowed p m s d g (AddKey t k) =
    page_allows p d g (opening_with t k)
    && (not (is_trying s.stage) && may_move p m s (moves d (opening_with t k)))
is_allowed p m s d g (FillRecord x c) = is_owned (slot_of d x.slot).state && has_slot g.made x.slot
is_allowed p m s d g (Turn act) =
    page_allows p d g act && (commit_lets p m s d act && may_move p m s (moves d act))

-- ---- effects

-- what an act of one seat leaves of what all share, and of its own
pub record Joined : Type 0 where
  pub story : Story
  pub seat : Seat
  pub table : Table
  pub grip : Grip

-- what it leaves of commits and of pages
abbrev pub joined : Moved → Turned → Joined
joined n t = record { story = n.story; seat = n.seat; table = t.table; grip = t.grip }

-- what an act of seat p comes to
abbrev pub effect : ℕ → Story → Seat → Table → Grip → JointAct → Joined
effect p m s d g (Commit act) = joined (commit_effect p m s act) (turned d g)
effect p m s d g (SeePointer x) = joined (commit_effect p m s (Keep (pointer_part d x))) (turned d g)
effect p m s d g (CheckPointer x) =
    joined (commit_effect p m s (Confirm (Pointer x) (is_so_now p d m s x))) (turned d g)
effect p m s d g (SeeHeader t) = joined (commit_effect p m s (Keep (header_part d t))) (turned d g)
effect p m s d g (CheckHeader t) =
    joined (commit_effect p m s (Confirm (Header t) (is_header_so_now d m s t))) (turned d g)
effect p m s d g (AddRecord t k) = joined (unmoved (filled (next_spot d t) nothing m) s) (turned d g)
effect p m s d g (AddKey t k) = joined (after_key p m s d g t k) (page_effect p d g (opening_with t k))
effect p m s d g (FillRecord x c) = joined (unmoved (filled x c m) s) (turned d g)
effect p m s d g (Turn act) = joined (after_moves p m s (moves d act)) (page_effect p d g act)

-- the state with what an act of this seat left
abbrev pub with_joined : JointState → ℕ → Joined → JointState
with_joined c p j = record {
  commits = with_moved c.commits p (unmoved j.story j.seat);
  pages = with_turned c.pages p (turned j.table j.grip);
}

-- the state after an act of seat p, which has s and g
abbrev pub acted : JointState → ℕ → Seat → Grip → JointAct → JointState
acted c p s g act = with_joined c p (effect p c.commits.story s c.pages.table g act)

-- ---- events

-- the event's condition, where the seat has a grip
abbrev pub may_with : JointState → JointEvent → Seat → Bool
may_with c e s =
    option_map_or (λ g. is_allowed e.seat c.commits.story s c.pages.table g e.act)
    (slice_get c.pages.grips e.seat) false

-- the event's condition: a seat that is there may do this
abbrev pub may_happen : JointState → JointEvent → Bool
may_happen c e = option_map_or (may_with c e) (slice_get c.commits.seats e.seat) false

-- the state after the event, where the seat has a grip
abbrev pub happened_with : JointState → JointEvent → Seat → JointState
happened_with c e s = option_map_or (λ g. acted c e.seat s g e.act) (slice_get c.pages.grips e.seat) c

-- the state after the event
abbrev pub happened : JointState → JointEvent → JointState
happened c e = option_map_or (happened_with c e) (slice_get c.commits.seats e.seat) c

-- an event whose condition fails changes nothing
abbrev pub next : JointState → JointEvent → JointState
next c e = if may_happen c e then happened c e else c

-- the events, one after another
abbrev pub run : List JointEvent → JointState → JointState
run [] c = c
run (e ∷ more) c = run more (next c e)
