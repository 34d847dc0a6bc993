-- What may happen: the condition and the effect of each act of a seat, and lists of events.
use Rattle.std.specs.Prelude.{◌≡◌, ℕ, ◌+◌, ◌==◌, ◌&&◌, ◌||◌, Bool, true, false, not, List, [], ◌∷◌, ◌++◌, filter}
use Rattle.std.specs.Prelude.{length, Option, Some, None, if◌then◌else◌, nat_lt, slice_get, slice_set, unwrap_or}
use Rattle.std.specs.Prelude.{Result, Ok, Err}
use Rattle.std.specs.List.{list_any, list_all}
use Rattle.std.specs.Option.{option_map_or}
use Rattle.serial_model.specs.declared.key.Key.{Key}
use Rattle.serial_model.specs.declared.number.Change.{Change}
use Rattle.lists.specs.declared.memory.OrMemory.{OrMemory}
use Rattle.lists.specs.declared.memory.OrMemory.TheVariants.{Fault, Memory}
use Rattle.serial_model.specs.Numbers.{last_epoch}
use Rattle.homes.specs.declared.places.Holder.TheVariants.{Free, Held}
use Rattle.homes.specs.declared.places.Spot.{Spot}
use Rattle.commit_core.specs.declared.event.NotAllowed.{NotAllowed}
use Rattle.commit_core.specs.declared.place.Place.{Place}
use Rattle.commit_core.specs.declared.part.Word.{Word}
use Rattle.commit_core.specs.declared.part.Word.TheVariants.{Record}
use Rattle.commit_core.specs.declared.part.Part.{Part}
use Rattle.commit_core.specs.declared.attempt.Attempt.{Attempt}
use Rattle.commit_core.specs.declared.attempt.Check.{Check}
use Rattle.commit_core.specs.declared.event.Act.{Act}
use Rattle.commit_core.specs.declared.event.Act.TheVariants.{See, Keep, Lock, Draw, Check as Look, Confirm, Decide, Put}
use Rattle.commit_core.specs.declared.event.Act.TheVariants.{Open, Forget, Rehome, Advance, Mark}
use Rattle.commit_core.specs.declared.event.Event.{Event}
use Rattle.commit_core.specs.declared.seat.Stage.{Stage}
use Rattle.commit_core.specs.declared.seat.Stage.TheVariants.{Idle, Trying, Ended, Decided}
use Rattle.commit_core.specs.declared.seat.Seat.{Seat}
use Rattle.commit_core.specs.declared.story.Story.{Story}
use Rattle.commit_core.specs.Keys.{same_key, has_key, content_of, written, writes_key}
use Rattle.commit_core.specs.Places.{place, place_of, spot_at, placed, is_free_at, is_held_at, is_open_to}
use Rattle.commit_core.specs.Parts.{same_word, is_record, is_version, record_part, with_part}
use Rattle.commit_core.specs.CoreState.{CoreState, clock_of, is_checked, check_of, is_trying, can_begin, attempt_tried}
use Rattle.commit_core.specs.CoreState.{attempt_decided, same_keys, can_mark, settled}
use Rattle.commit_core.specs.Moves.{moves_key, can_rehome, with_moves}

-- ---- conditions

-- the attempt has a part of the word, not checked yet
abbrev pub is_unchecked : List Check → Word → Attempt → Bool
is_unchecked checks w a = list_any (λ part. same_word part.word w) a.parts && not (is_checked checks a.number w)

-- the attempt has checked each of its parts
abbrev pub all_checked : List Check → Attempt → Bool
all_checked checks a = list_all (λ part. is_checked checks a.number part.word) a.parts

-- seat p, which has s, may do this
abbrev pub is_allowed : ℕ → Story → Seat → Act → Bool
is_allowed p m s (See k) = not (is_trying s.stage) && is_free_at m.places (spot_at m.homes k)
is_allowed p m s (Keep part) = not (is_trying s.stage) && not (is_record part.word)
is_allowed p m s (Lock k) = can_begin s.stage && is_free_at m.places (spot_at m.homes k)
is_allowed p m s (Draw writes) = can_begin s.stage && same_keys s.locks writes
is_allowed p m s (Look x) = option_map_or (is_unchecked m.checks (Record x)) (attempt_tried m.history s.stage) false
is_allowed p m s (Confirm w told) =
    option_map_or (is_unchecked m.checks w) (attempt_tried m.history s.stage) false && not (is_record w)
is_allowed p m s Decide = option_map_or (all_checked m.checks) (attempt_tried m.history s.stage) false
is_allowed p m s (Put k) =
    option_map_or (λ a. writes_key a.writes k) (attempt_decided m.history s.stage) false
    && is_held_at p m.places (spot_at m.homes k)
is_allowed p m s (Open k) =
    not (is_trying s.stage)
    && (is_held_at p m.places (spot_at m.homes k)
    && option_map_or (λ _. has_key s.put k) (attempt_decided m.history s.stage) true)
is_allowed p m s Forget = can_begin s.stage
is_allowed p m s (Rehome moves) = can_rehome p (can_begin s.stage) m moves
is_allowed p m s Advance = (p == 0) && nat_lt m.epoch last_epoch
is_allowed p m s (Mark mark) = not (is_trying s.stage) && can_mark m.epoch s.marks mark.epoch

-- ---- effects

-- the story and the seat after an act
pub record Moved : Type 0 where
  pub story : Story
  pub seat : Seat

-- the story and the seat that an act leaves
abbrev pub moved : Story → Seat → Moved
moved m s = record { story = m; seat = s }

-- what the seat's next attempt will be
abbrev pub next_attempt : ℕ → Story → Seat → List Change → Attempt
next_attempt p m s writes =
    record { seat = p; number = clock_of m.first_draw m.epoch m.history; parts = s.kept; writes = writes }

-- the place is unlocked or the seat's own, and its word is as the part has it
abbrev pub is_as_seen : ℕ → Place → Part → Bool
is_as_seen p q part = is_open_to p q.holder && is_version q.content part.version

-- each part of the attempt with this record's word, of which there is one, is as seen, where this stands in its place
abbrev pub is_seen_at : ℕ → Place → Spot → Attempt → Bool
is_seen_at p q x a = list_all (λ part. not (same_word part.word (Record x)) || is_as_seen p q part) a.parts

-- the same of what stands there by these places
abbrev pub stays_as_seen : ℕ → List (Spot × Place) → Spot → Attempt → Bool
stays_as_seen p places x a = is_seen_at p (place_of places x) x a

-- what is kept once the seat has seen the key at its place
abbrev pub seen_at : Key → List (Spot × Place) → List Part → Option Spot → List Part
seen_at k places kept None = kept
seen_at k places kept (Some x) = with_part kept (record_part k x (place_of places x).content)

-- the places once the seat has locked this one
abbrev pub locked : ℕ → List (Spot × Place) → Option Spot → List (Spot × Place)
locked p places None = places
locked p places (Some x) = placed places x (place (place_of places x).content (Held p))

-- the places, where this one has a new value, and still its old number
abbrev pub valued : Option ℕ → List (Spot × Place) → Option Spot → List (Spot × Place)
valued value places None = places
valued value places (Some x) =
    placed places x (place (content_of (place_of places x).content.number value) (place_of places x).holder)

-- the places, where this one is unlocked, with the number of the attempt where one is decided
abbrev pub opened : Option Attempt → List (Spot × Place) → Option Spot → List (Spot × Place)
opened a places None = places
opened a places (Some x) =
    let old = (place_of places x).content in
    placed places x (place (content_of (option_map_or (λ b. b.number) a old.number) old.value) Free)

-- the check joins the story, where the word is as it was read; else the attempt is given up
abbrev pub ended_check : Check → Bool → Story → Seat → Moved
ended_check check stays m s =
    if stays
    then moved (record m { checks = m.checks ++ check ∷ [] }) s
    else moved (record m { given_up = m.given_up ++ check.number ∷ [] }) (settled (record s { stage = Ended }))

-- what a check of the word by the attempt in progress leaves, where this is whether it is as that attempt read it
abbrev pub after_check : Word → (Attempt → Bool) → Story → Seat → Option Attempt → Moved
after_check w stays m s None = moved m s
after_check w stays m s (Some a) = ended_check (check_of a.number w) (stays a) m s

-- the stage of one whose attempt in progress is now decided
abbrev pub decided_stage : Stage → Stage
decided_stage Idle = Idle
decided_stage (Trying i) = Decided i
decided_stage Ended = Ended
decided_stage (Decided i) = Decided i

-- what the decision of the attempt in progress leaves
abbrev pub after_decide : Story → Seat → Option Attempt → Moved
after_decide m s None = moved m s
after_decide m s (Some a) =
    moved (record m { decided = m.decided ++ a.number ∷ [] })
    (settled (record s { put = []; stage = decided_stage s.stage }))

-- the value that the attempt writes
abbrev pub value_to_put : Key → Option Attempt → Option ℕ
value_to_put k None = None
value_to_put k (Some a) = unwrap_or (written k a.writes) None

-- what an act of seat p comes to
abbrev pub effect : ℕ → Story → Seat → Act → Moved
effect p m s (See k) = moved m (record s { kept = seen_at k m.places s.kept (spot_at m.homes k) })
effect p m s (Keep part) = moved m (record s { kept = with_part s.kept part })
effect p m s (Lock k) =
    moved (record m { places = locked p m.places (spot_at m.homes k) }) (record s { locks = s.locks ++ k ∷ [] })
effect p m s (Draw writes) =
    moved (record m { history = m.history ++ next_attempt p m s writes ∷ [] })
    (record s { stage = Trying (length m.history) })
effect p m s (Look x) = after_check (Record x) (stays_as_seen p m.places x) m s (attempt_tried m.history s.stage)
effect p m s (Confirm w told) = after_check w (λ _. told) m s (attempt_tried m.history s.stage)
effect p m s Decide = after_decide m s (attempt_tried m.history s.stage)
effect p m s (Put k) =
    moved
    (record m { places = valued (value_to_put k (attempt_decided m.history s.stage)) m.places (spot_at m.homes k) })
    (record s { put = s.put ++ k ∷ [] })
effect p m s (Open k) =
    moved (record m { places = opened (attempt_decided m.history s.stage) m.places (spot_at m.homes k) })
    (settled (record s { locks = filter (λ q. not (same_key q k)) s.locks }))
effect p m s Forget = moved m (record s { kept = [] })
effect p m s (Rehome moves) =
    moved (with_moves m moves) (settled (record s { locks = filter (λ q. not (moves_key moves q)) s.locks }))
effect p m s Advance = moved (record m { epoch = m.epoch + 1 }) s
effect p m s (Mark mark) = moved m (record s { marks = s.marks ++ mark ∷ [] })

-- ---- events

-- the event's condition: a seat that is there may do this
abbrev pub may_happen : CoreState → Event → Bool
may_happen c e = option_map_or (λ s. is_allowed e.seat c.story s e.act) (slice_get c.seats e.seat) false

-- the state with what an act of this seat left
abbrev pub with_moved : CoreState → ℕ → Moved → CoreState
with_moved c p n = record c { story = n.story; seats = slice_set c.seats p n.seat }

-- the state after the event
abbrev pub happened : CoreState → Event → CoreState
happened c e = option_map_or (λ s. with_moved c e.seat (effect e.seat c.story s e.act)) (slice_get c.seats e.seat) c

-- an event whose condition fails changes nothing
abbrev pub next : CoreState → Event → CoreState
next c e = if may_happen c e then happened c e else c

-- the events, one after another
abbrev pub run : List Event → CoreState → CoreState
run [] c = c
run (e ∷ more) c = run more (next c e)

-- ---- answers

-- what a check leaves, once it is known whether the word is as it was read
abbrev pub EndsCheck : Story → Seat → Check → Bool → Story → Seat → Type 0
EndsCheck m s check stays n t = (n ≡ (ended_check check stays m s).story) × (t ≡ (ended_check check stays m s).seat)

-- the act adds to a list, or builds one anew
abbrev pub takes_memory : Act → Bool
takes_memory (See k) = true
takes_memory (Keep part) = true
takes_memory (Lock k) = true
takes_memory (Draw writes) = true
takes_memory (Look x) = true
takes_memory (Confirm w told) = true
takes_memory Decide = true
takes_memory (Put k) = true
takes_memory (Open k) = true
takes_memory Forget = false
takes_memory (Rehome moves) = true
takes_memory Advance = false
takes_memory (Mark mark) = true

-- What an act answers and leaves: it happens only where it is allowed, is refused only where it is not, and wants
-- memory only where it is allowed and takes memory; after the last two nothing is changed.
abbrev pub Answers : {X : Type 0} → ℕ → Act → Story → Seat → Result X (OrMemory NotAllowed) → Story → Seat → Type 0
Answers p act m s (Ok x) n t =
    (is_allowed p m s act ≡ true) × (n ≡ (effect p m s act).story) × (t ≡ (effect p m s act).seat)
Answers p act m s (Err (Fault r)) n t = (is_allowed p m s act ≡ false) × (n ≡ m) × (t ≡ s)
Answers p act m s (Err Memory) n t = (is_allowed p m s act ≡ true) × (takes_memory act ≡ true) × (n ≡ m) × (t ≡ s)

-- the same of an event and the whole state
abbrev pub AnswersEvent : {X : Type 0} → CoreState → Event → Result X (OrMemory NotAllowed) → CoreState → Type 0
AnswersEvent c e (Ok x) d = (may_happen c e ≡ true) × (d ≡ happened c e)
AnswersEvent c e (Err (Fault r)) d = (may_happen c e ≡ false) × (d ≡ c)
AnswersEvent c e (Err Memory) d = (may_happen c e ≡ true) × (takes_memory e.act ≡ true) × (d ≡ c)
