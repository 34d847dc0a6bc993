-- What the parts of a scan come to.
use Rattle.std.specs.Prelude.{◌≡◌, ◌⊎◌, ℕ, ◌+◌, ◌-◌, ◌*◌, ◌<◌, ◌≤◌, ◌++◌, List, length, Option, Contains, Result}
use Rattle.std.specs.Prelude.{IfOk, IfErr, OnOk}
use Rattle.serial_model.specs.declared.key.Key.{Key}
use Rattle.serial_model.specs.declared.op.Op.{Op}
use Rattle.serial_model.specs.declared.op.Op.TheVariants as ops
use Rattle.tx_sets.specs.declared.reads.ReadEntry.{ReadEntry}
use Rattle.tx_sets.specs.declared.seen.Seen.{Seen}
use Rattle.tx_sets.specs.declared.sets.Sets.{Sets}
use Rattle.engine_pages.specs.declared.view.RefusalCause.{RefusalCause}
use Rattle.engine_pages.specs.declared.view.View.{View}
use Rattle.tree_walks.specs.declared.ways.Leaf.{Leaf}
use Rattle.tree_walks.specs.Walks.{HasWalked}
use Rattle.page_commit.specs.Calls.{end_most}
use Rattle.page_commit.specs.Live.{IsLive}
use Rattle.page_commit.specs.Refusing.{HasRefused}
use Rattle.page_commit.specs.Turning.{HoldsWaysOf, IsHeaderOver, IsPointerOf, IsReadBy, MayRead, OnlyWaysOf, PartsStay}
use Rattle.tree_calls.specs.Keeping.{HasValue}
use Rattle.tree_ranges.specs.Causes.{HasJoined, RefusesScan}
use Rattle.tree_scans.specs.Rows.{key_in}
use Rattle.tree_ranges.specs.Leaves.{IsLeafTaken}
use Rattle.tree_ranges.specs.Rows.{with_row, AreRowsOf, RowsGoOn}

-- the header is that of a leaf over a key that the operation may read
abbrev pub IsHeaderOf : View → Op → Seen → Type 0
IsHeaderOf w op h = (k : Key) × MayRead op k × IsHeaderOver w k h.at

-- Words were loaded and slots entered on the way to keys that the operation may read; what was kept of them joined the
-- sets, and the transaction goes on. What some part had some part has still.
pub record HasGone (op : Op) (sets new : Sets) (v w : View) : Type 0 where
  pub live : IsLive new w
  pub walked : HasWalked v w
  pub paths : OnlyWaysOf op v w
  pub held : HoldsWaysOf op sets.holds new.holds w
  pub keeps : PartsStay v.seat.kept w.seat.kept
  pub reads : HasJoined ReadEntry (IsReadBy v.layout.decls op) sets.reads new.reads
  pub pointers : HasJoined Seen (IsPointerOf w op) sets.pointers new.pointers
  pub headers : HasJoined Seen (IsHeaderOf w op) sets.headers new.headers
  pub writes : new.writes ≡ sets.writes

-- so it is for the scan of each range that has these keys
abbrev pub GoesIn : ℕ → ℕ → ℕ → Sets → Sets → View → View → Type 0
GoesIn storage from to sets new v w = (low high : ℕ) → low ≤ from → to ≤ high → HasGone (ops.Scan storage low high)
    sets new v w

-- a call was refused with a cause of a scan of these keys, and the transaction is over
pub record Stops (storage from to : ℕ) (sets new : Sets) (why : RefusalCause) (v w : View) : Type 0 where
  pub cause : RefusesScan sets new storage from to why v w
  pub refused : HasRefused why v w

-- one of the rows is that of this key
pub record HasRowOf (key : ℕ) (rows : List (ℕ × ℕ)) : Type 0 where
  pub row : ℕ × ℕ
  pub among : Contains rows row
  pub is : row.0 ≡ key

-- A scan of the keys from this one on went on to none behind that of one of its rows: what it read, kept and held is that
-- of a scan up to there.
pub record StopsAtRow (storage low : ℕ) (rows : List (ℕ × ℕ)) (sets new : Sets) (v w : View) : Type 0 where
  pub row : ℕ × ℕ
  pub among : Contains rows row
  pub gone : HasGone (ops.Scan storage low row.0) sets new v w

-- ---- one key

-- this is what the transaction first read at the key, by loads alone
pub record HasRead (k : Key) (value : Option ℕ) (sets new : Sets) (v w : View) : Type 0 where
  pub value_is : HasValue k value sets new v w
  pub walked : HasWalked v w

-- A key was read so, by so many steps at most; or why not.
pub record ReadsKey (bound : ℕ) (k : Key) (r : Result (Option ℕ) RefusalCause) (sets new : Sets) (v w : View) : Type
    0 where
  pub read : IfOk r (λ value. HasRead k value sets new v w)
  pub quick : OnOk r (w.steps ≤ v.steps + bound)
  pub stops : IfErr r (λ why. Stops k.storage k.key k.key sets new why v w)
  pub slow : w.steps ≤ v.steps + bound + end_most

-- A key was read so, and its row stands behind the others, if it has a value.
pub record HasRow (storage n : ℕ) (sets new : Sets) (rows more : List (ℕ × ℕ)) (v w : View) : Type 0 where
  pub value : Option ℕ
  pub is : HasRead (key_in storage n) value sets new v w
  pub rows_is : more ≡ with_row n value rows

-- So it is by three steps at most; or why not.
pub record TakesRow
    (storage n : ℕ) (r : Result (Unit {0}) RefusalCause) (sets new : Sets) (rows more : List (ℕ × ℕ)) (v w : View)
    : Type 0 where
  pub read : OnOk r (HasRow storage n sets new rows more v w)
  pub quick : OnOk r (w.steps ≤ v.steps + 3)
  pub stops : IfErr r (λ why. Stops storage n n sets new why v w)
  pub slow : w.steps ≤ v.steps + 3 + end_most

-- ---- a header

-- The header of a leaf was kept and is in its set, by one step; or why not.
pub record TakesHead
    (k : Key) (x : Leaf) (last : ℕ) (r : Result (Unit {0}) RefusalCause) (sets new : Sets) (v w : View) : Type 0 where
  pub taken : OnOk r (IsLeafTaken k x last new.headers w)
  pub gone : OnOk r (GoesIn k.storage k.key k.key sets new v w)
  pub quick : OnOk r (w.steps ≤ v.steps + 1)
  pub stops : IfErr r (λ why. Stops k.storage k.key k.key sets new why v w)
  pub slow : w.steps ≤ v.steps + 1 + end_most

-- ---- several keys

-- The rows go on with those of the keys from this one up to the one that is answered, which is at most the last one. No
-- keys were read but these. Where there are 16 rows then, the key that is answered is that of one of them.
pub record ReadsTo
    (storage from last to : ℕ) (sets new : Sets) (rows more : List (ℕ × ℕ)) (v w : View) : Type 0 where
  pub from_is : from ≤ to
  pub within : to ≤ last
  pub gone : GoesIn storage from to sets new v w
  pub go_on : RowsGoOn storage from (to + 1) sets.writes v.seat.kept w.seat.kept rows more
  pub few : length more ≤ 16
  pub full : length more ≡ 16 → HasRowOf to more

-- So they do by a number of steps and so many for each key at most; or why not.
pub record Comes
    (base rate : ℕ) (storage from last : ℕ) (r : Result ℕ RefusalCause) (sets new : Sets) (rows more : List (ℕ × ℕ))
    (v w : View) : Type 0 where
  pub read : IfOk r (λ to. ReadsTo storage from last to sets new rows more v w)
  pub quick : IfOk r (λ to. w.steps ≤ v.steps + base + rate * ((to + 1) - from))
  pub stops : IfErr r (λ why. Stops storage from last sets new why v w)
  pub slow : IfErr r (λ why. w.steps ≤ v.steps + base + rate * ((last + 1) - from) + end_most)

-- ---- the whole range

-- The range was scanned, up to its end or until there were 16 rows, and then to none of its keys behind those of the
-- rows. Where it has no keys, nothing was kept.
pub record HasScanned (storage low high : ℕ) (sets new : Sets) (rows : List (ℕ × ℕ)) (v w : View) : Type 0 where
  pub gone : HasGone (ops.Scan storage low high) sets new v w
  pub joined : (low ≤ high) ⊎ (w.seat.kept ≡ v.seat.kept)
  pub at : ℕ
  pub rows_are : AreRowsOf storage low at sets.writes w.seat.kept rows
  pub few : length rows ≤ 16
  pub within : at ≤ high + 1
  pub end : (high + 1 ≤ at) ⊎ (length rows ≡ 16)
  pub full : length rows ≡ 16 → StopsAtRow storage low rows sets new v w
