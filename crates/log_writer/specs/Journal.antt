-- What a journal is, and what is durable of its log file.
use Rattle.std.specs.Prelude.{◌≡◌, ℕ, ◌+◌, ◌-◌, ◌^◌, ◌<◌, ◌≤◌, List, [], ◌++◌, Option, Some, None, length}
use Rattle.outside.specs.Disk.{IfTold, written}
use Rattle.outside.specs.Fronts.{AllBegin, KeepsSince}

-- a journal as its users see it
pub record JournalState : Type 0 where
  -- how long the log file may be, in bytes
  pub limit : ℕ
  -- how many of its bytes are durable
  pub durable : ℕ
  -- the bytes of the lines that wait to be written
  pub lines : List ℕ
  -- the log file's count of faults as a call answered that it failed
  pub down : Option ℕ

-- what is durable and what waits stay within the limit, and what waits within the buffer
pub record IsWithin (limit durable : ℕ) (lines : List ℕ) : Type 0 where
  pub counted : limit < 2 ^ 40
  pub within : durable + length lines ≤ limit
  pub fits : length lines ≤ 4096

-- how many bytes the buffer still takes
abbrev pub free : JournalState → ℕ
free journal = 4096 - length journal.lines

-- how long the log file is once the lines that wait are durable
abbrev pub end_of : JournalState → ℕ
end_of journal = journal.durable + length journal.lines

-- the log file has the bytes that were made durable, where it tells its own
abbrev pub Reaches : {D : Type 0} → (tells : D → Option (List ℕ)) → D → JournalState → Type 0
Reaches tells bank journal = IfTold (tells bank) (λ file. journal.durable ≤ length file)

-- the lines that waited are durable, and no line waits
pub record IsFlushed (old new : JournalState) : Type 0 where
  pub was_up : old.down ≡ None
  pub is_up : new.down ≡ None
  pub limit : new.limit ≡ old.limit
  pub durable : new.durable ≡ end_of old
  pub empty : new.lines ≡ []

-- but for whether it is down, the journal is as it was
pub record IsKept (old new : JournalState) : Type 0 where
  pub limit : new.limit ≡ old.limit
  pub durable : new.durable ≡ old.durable
  pub lines : new.lines ≡ old.lines

-- the log file reads as before with the lines written behind what was durable
abbrev pub Wrote : {D : Type 0} → (tells : D → Option (List ℕ)) → JournalState → D → D → Type 0
Wrote tells journal before now = IfTold (tells before) (λ file. tells now ≡ Some (written journal.durable journal.lines file))

-- these bytes are durable: they are as many as the journal counts, and every image of now begins with them
pub record IsDurable {D : Type 0} (clock : D → ℕ) (image_at : D → ℕ → List ℕ → Type 0) (journal : JournalState) (bank : D) (bytes : List ℕ) : Type 0 where
  pub size : length bytes ≡ journal.durable
  pub begins : AllBegin (image_at bank (clock bank)) bytes

-- Where the log file tells its bytes, those that were durable are so still, with lines behind them that waited and now
-- don't: what is durable and then what waits is the same list of bytes as before, so none is lost and none moved.
abbrev pub DurableGrows : {D : Type 0} → (tells : D → Option (List ℕ)) → (clock : D → ℕ) → (image_at : D → ℕ → List ℕ → Type 0) → JournalState → JournalState → D → D → Type 0
DurableGrows tells clock image_at old new before now = IfTold (tells before) (λ _. (was : List ℕ) → IsDurable clock image_at old before was
    → (is : List ℕ) × IsDurable clock image_at new now is × (is ++ new.lines ≡ was ++ old.lines))

-- of the bytes that were durable, whatever every image since a moment began with, every image since that moment begins
-- with to this day
abbrev pub DurableStays : {D : Type 0} → (clock : D → ℕ) → (image_at : D → ℕ → List ℕ → Type 0) → JournalState → D → D → Type 0
DurableStays clock image_at journal before now = (since : ℕ) (bytes : List ℕ) → length bytes ≤ journal.durable → since ≤ clock before
    → KeepsSince clock image_at before since bytes → KeepsSince clock image_at now since bytes
