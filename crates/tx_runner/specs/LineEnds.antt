-- What comes of a line.
use Rattle.std.specs.Prelude.{◌≡◌, ◌≢◌, ℕ, ◌+◌, ◌≤◌, ◌<◌, true, List, [], ◌∷◌, ◌++◌, length, map, Contains, Some}
use Rattle.std.specs.List.{AllByRecursion}
use Rattle.lists.specs.Fronts.{IsFront}
use Rattle.serial_model.specs.declared.decl.Decl.{Decl}
use Rattle.serial_model.specs.declared.key.Key.{Key}
use Rattle.serial_model.specs.declared.number.Change.{Change}
use Rattle.serial_model.specs.declared.number.Commit.{Commit}
use Rattle.serial_model.specs.declared.number.Number.{Number}
use Rattle.serial_model.specs.declared.op.Op.{Op}
use Rattle.serial_model.specs.declared.reply.Reply.{Reply}
use Rattle.serial_model.specs.declared.reply.Verdict.{Verdict}
use Rattle.serial_model.specs.Keys.{IsKeyBelow}
use Rattle.serial_model.specs.Numbers.{IsBelow}
use Rattle.serial_model.specs.State.{State}
use Rattle.serial_model.specs.History.{Entry}
use Rattle.wire_form.specs.Items.{Rises}
use Rattle.homes.specs.declared.places.Content.{Content}
use Rattle.commit_core.specs.declared.attempt.Attempt.{Attempt}
use Rattle.commit_core.specs.declared.part.Part.{Part}
use Rattle.commit_core.specs.CoreState.{is_decided, mark_of}
use Rattle.commit_core.specs.Serial.{ReadsFrom, state_below}
use Rattle.serial_bridge.specs.Bridge.{Agrees, StepsAs}
use Rattle.serial_bridge.specs.Transaction.{IsAttemptOf}
use Rattle.engine_pages.specs.declared.view.View.{View}
use Rattle.engine_seats.specs.Cuts.{HasSeen}
use Rattle.page_commit.specs.Below.{IsLastBetween}
use Rattle.engine_pages.specs.Words.{IsSmall}
use Rattle.engine_seats.specs.Counts.{AreSerial}
use Rattle.engine_pages.specs.Views.{seat_number}
use Rattle.page_commit.specs.Live.{IsOver}
use Rattle.tx_runner.specs.declared.lines.LineEnd.{LineEnd}
use Rattle.tx_runner.specs.declared.lines.LineEnd.TheVariants as answers
use Rattle.tx_runner.specs.declared.room.LineRoom.{LineRoom}
use Rattle.tx_runner.specs.Lines.{keeps, IsAnswered}
use Rattle.tx_runner.specs.Tries.{HasConflicted, HasDrawsLeft, IsAtLimit, IsClash, IsFullAt, IsPlaced, IsWideAt}
use Rattle.tx_runner.specs.Tries.{Lost, TouchesOnly, blames_of, lost_to, whys_of}

-- The entry's transaction, alone on whatever state agrees with the one below its number, as these attempts and
-- decisions have it, answers what was answered and changes what the attempt writes.
abbrev pub IsAsAlone : List Decl → List (Key × Content) → List Attempt → List Number → Attempt → Entry → Type 0
IsAsAlone decls opening history decided a e =
    (s : State) → Agrees decls s (state_below opening history decided a.number)
    → StepsAs decls s (state_below opening history decided a.number) e a

-- The line was committed with this verdict, these replies, and the commit's number and changes: one attempt more is the
-- pass's own, and counts. Its epoch is above the worker's mark, and its changes are those of a log line. It is that of
-- the line's transaction, whose answers are the serial step's on the state below its number, now (`now`) and as any
-- later audit has it (`later`). The tries before, which were fewer than the line has, were refused with Conflict, and
-- besides the commit's number just theirs were drawn, and the line took locks at most that it may take; as the first of
-- all began, the clock was not at the last draws (`began`). Each record that it read had the last decided write of its
-- key at a step of this call (`parts`).
pub record HasCommittedLine (ops : List Op) (tries : ℕ) (verdict : Verdict) (replies : List Reply) (commit : Commit)
    (v w : View) : Type 0 where
  pub began : HasDrawsLeft v
  pub losts : List Lost
  pub fewer : length losts < tries
  pub each : AllByRecursion (IsClash ops) losts
  pub placed : AllByRecursion (IsPlaced v.layout) losts
  pub refused : w.refused ≡ v.refused ++ whys_of losts
  pub over : IsOver w
  pub layout : w.layout ≡ v.layout
  pub role : w.role ≡ v.role
  pub seen : HasSeen v w
  pub since : v.steps ≤ w.steps
  pub marks : w.seat.marks ≡ v.seat.marks
  pub attempt : Attempt
  pub mine : w.mine ≡ v.mine ++ attempt ∷ []
  pub draws : w.draws ≡ v.draws + lost_to losts + 1
  pub blamed : w.blamed ≡ v.blamed ++ blames_of (seat_number v.role) losts
  pub touched : TouchesOnly ops v w
  pub seat : attempt.seat ≡ seat_number v.role
  pub numbered : attempt.number ≡ commit.number
  pub writes : attempt.writes ≡ commit.changes
  pub dropped : keeps verdict ≢ true → commit.changes ≡ []
  pub all : List Attempt
  pub order : IsFront (all ++ attempt ∷ []) w.history
  pub draw : commit.number.draw ≡ v.layout.first.draw + length all
  pub drawn : Contains w.history attempt
  pub counts : is_decided w.decided commit.number ≡ true
  pub above : (b : Attempt) → Contains v.history b → IsBelow b.number commit.number
  pub marked : (e : ℕ) → mark_of v.seat.marks ≡ Some e → e < commit.number.epoch
  pub small : IsSmall commit.number
  pub rising : Rises IsKeyBelow (map (λ (c : Change). c.key) commit.changes)
  pub most : length commit.changes ≤ 16
  pub reads : ReadsFrom (state_below v.layout.opening w.history w.decided commit.number) attempt
  pub parts : (part : Part) → Contains attempt.parts part → IsLastBetween v w part
  pub of : (e : Entry) → IsAnswered ops verdict commit.number replies e → IsAttemptOf v.layout.decls e attempt
  pub now : (e : Entry) → IsAnswered ops verdict commit.number replies e
      → IsAsAlone v.layout.decls v.layout.opening w.history w.decided attempt e
  pub later : (history : List Attempt) (decided : List Number) → AreSerial v.layout.opening history decided
      → Contains history attempt → is_decided decided commit.number ≡ true
      → (e : Entry) → IsAnswered ops verdict commit.number replies e
      → IsAsAlone v.layout.decls v.layout.opening history decided attempt e

-- What comes of a line with so many tries, whose room is as it was left. It is Conflict exactly where each of the tries
-- was refused with Conflict; Full, Wide and Limit exactly where a try found no usable slot, a full set, or the clock at
-- the last draws: such a line isn't tried again.
abbrev pub RunsLine : List Op → ℕ → LineEnd → LineRoom → View → View → Type 0
RunsLine ops tries (answers.Committed verdict) room v w =
    HasCommittedLine ops tries verdict room.replies room.commit v w
RunsLine ops tries answers.Conflict room v w = HasConflicted ops tries v w
RunsLine ops tries answers.Full room v w = IsFullAt ops tries v w
RunsLine ops tries answers.Wide room v w = IsWideAt ops tries v w
RunsLine ops tries answers.Limit room v w = IsAtLimit ops tries v w
