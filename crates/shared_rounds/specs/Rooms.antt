-- Room for what comes of the workers' lines.
use Rattle.std.specs.Prelude.{◌≡◌, ◌==◌, ◌<◌, ◌≤◌, ℕ, List, [], Option, None, Some, cond, get_or, length, slice_get}
use Rattle.std.specs.Prelude.{vec_capacity, vec_len}
use Rattle.script_grammar.specs.Script.{Round, lines_of_worker}
use Rattle.tx_script.specs.Room.{RoomState, all_words}
use Rattle.shared_rounds.specs.declared.rooms.Rooms.{Rooms}

-- what a line of this worker, if it is one's, adds to the lines of the other
abbrev pub counts_for : Option ℕ → ℕ → ℕ
counts_for None other = 0
counts_for (Some worker) other = cond (worker == other) 1 0

-- these are the numbers of the workers' lines
pub record AreCounts (round : Round) (counts : List ℕ) : Type 0 where
  pub workers : length counts ≡ 8
  pub each : (worker : ℕ) → worker < 8 → get_or counts worker 0 ≡ length (lines_of_worker round worker)

-- what a line with so many words of replies of this worker, if it is one's, adds to the words of the other's
abbrev pub spaces_for : Option (ℕ × ℕ) → ℕ → ℕ
spaces_for None other = 0
spaces_for (Some asked) other = cond (asked.0 == other) asked.1 0

-- these are the most words of the replies of the workers' lines
pub record AreSpaces (round : Round) (spaces : List ℕ) : Type 0 where
  pub workers : length spaces ≡ 8
  pub each : (worker : ℕ) → worker < 8 → get_or spaces worker 0 ≡ all_words (lines_of_worker round worker)

-- each worker, the first one first, has room for so many outcomes and words of replies, and none is told yet
abbrev pub AreRooms : List ℕ → List ℕ → List RoomState → Type 0
AreRooms counts spaces rooms = (worker : ℕ) (room : RoomState) → slice_get rooms worker ≡ Some room
    → (room.told ≡ []) × (room.left ≡ get_or counts worker 0) × (room.space ≡ get_or spaces worker 0)

-- All room that the workers' lines of the round take: for a cell of each worker, for the outcomes of as many lines as
-- each has, with the words of their replies, and for what is told of them.
pub record IsRoomOf {D : Type 0} (round : Round) (rooms : Rooms D) : Type 0 where
  pub counts : AreCounts round rooms.counts
  pub spaces : AreSpaces round rooms.spaces
  pub cells : (vec_len rooms.cells ≡ 0) × (rooms.cells.items ≡ []) × (8 ≤ vec_capacity rooms.cells)
  pub outcomes : (vec_len rooms.outcomes ≡ 8) × AreRooms rooms.counts rooms.spaces rooms.outcomes.items
  pub told : (vec_len rooms.told ≡ 0) × (rooms.told.items ≡ []) × (8 ≤ vec_capacity rooms.told)
