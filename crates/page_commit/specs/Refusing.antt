-- Why a call of a transaction is refused, and what a refusal leaves.
use Rattle.std.specs.Prelude.{◌≡◌, ◌≢◌, ◌⊎◌, ℕ, ◌+◌, ◌/◌, ◌%◌, ◌^◌, ◌≤◌, ◌<◌, List, ◌∷◌, ◌++◌, [], Option, Some}
use Rattle.std.specs.Prelude.{None, length, Contains, unwrap_or, Bool, cond, true, ⊤}
use Rattle.serial_model.specs.declared.key.Key.{Key}
use Rattle.serial_model.specs.Numbers.{draw_limit, IsBelow}
use Rattle.commit_core.specs.declared.attempt.Attempt.{Attempt}
use Rattle.tx_sets.specs.declared.reads.ReadEntry.{ReadEntry}
use Rattle.tx_sets.specs.declared.seen.Seen.{Seen}
use Rattle.tx_sets.specs.declared.sets.Sets.{Sets}
use Rattle.tx_sets.specs.Entries.{word_at}
use Rattle.engine_pages.specs.declared.view.RefusalCause.{RefusalCause}
use Rattle.engine_pages.specs.declared.view.RefusalCause.TheVariants as refusals
use Rattle.engine_pages.specs.declared.view.SetName.{SetName}
use Rattle.engine_pages.specs.declared.view.SetName.TheVariants as names
use Rattle.engine_pages.specs.declared.view.Touch.{Touch}
use Rattle.engine_pages.specs.declared.view.View.{View}
use Rattle.engine_pages.specs.Layout.{clock_at}
use Rattle.engine_pages.specs.Steps.{glance}
use Rattle.engine_pages.specs.Views.{seat_number}
use Rattle.engine_pages.specs.Touches.{touch}
use Rattle.tree_walks.specs.Ways.{IsLong}
use Rattle.page_commit.specs.Between.{HasSeen}
use Rattle.page_commit.specs.Live.{read_word, IsOver}

-- ---- what a refusal for a full set needs

-- The set has as many entries as there is room for: records and headers share one room. Of the holds it may also be that
-- the way to a key, by what the pass knows just then, has led through as many pages, one below another.
abbrev pub LacksRoom : SetName → Sets → View → Type 0
LacksRoom names.Reads sets v = 256 ≤ length sets.reads + length sets.headers
LacksRoom names.Writes sets v = length sets.writes ≡ 16
LacksRoom names.Pointers sets v = length sets.pointers ≡ 128
LacksRoom names.Holds sets v = (length sets.holds ≡ 128) ⊎ ((k : Key) × IsLong k v)

-- where a set was full, it is when the refusal is noted
abbrev pub IsWideDue : RefusalCause → Sets → View → Type 0
IsWideDue (refusals.Conflict at expected seen) sets v = ⊤
IsWideDue (refusals.Full held) sets v = ⊤
IsWideDue (refusals.Wide set) sets v = LacksRoom set sets v
IsWideDue (refusals.NumberLimit clock) sets v = ⊤

-- ---- what a refusal leaves

-- only of a conflict a key is told
abbrev pub TellsOnly : RefusalCause → List Touch → Type 0
TellsOnly (refusals.Conflict at expected seen) met = length met ≤ 1
TellsOnly (refusals.Full held) met = met ≡ []
TellsOnly (refusals.Wide set) met = met ≡ []
TellsOnly (refusals.NumberLimit clock) met = met ≡ []

-- An attempt of the pass's seat was drawn in between, with a number above each that the pass had seen.
pub record HasLost (v w : View) : Type 0 where
  pub attempt : Attempt
  pub seat : attempt.seat ≡ seat_number v.role
  pub drawn : Contains w.history attempt
  pub above : (b : Attempt) → Contains v.history b → IsBelow b.number attempt.number

-- The transaction is over, without locks and holds: what the pass had seen and its own commits stay, and this is the
-- last of its refusals. It had drawn its number by then (`drew`), for an attempt of its own, or drew none. Where it was a conflict at a record,
-- the key is told (`blamed`).
pub record HasRefused (why : RefusalCause) (v w : View) : Type 0 where
  pub over : IsOver w
  pub layout : w.layout ≡ v.layout
  pub role : w.role ≡ v.role
  pub seen : HasSeen v w
  pub since : v.steps ≤ w.steps
  pub mine : w.mine ≡ v.mine
  pub drew : Bool
  pub draws : w.draws ≡ v.draws + cond drew 1 0
  pub lost : drew ≡ true → HasLost v w
  pub marks : w.seat.marks ≡ v.seat.marks
  pub refused : w.refused ≡ v.refused ++ why ∷ []
  pub met : List Touch
  pub told : TellsOnly why met
  pub blamed : w.blamed ≡ v.blamed ++ met

-- the transaction was not begun, and drew no number, since the clock, which the call loaded and with which all draws
-- are seen, is at the last draws
pub record RefusesBegin (why : RefusalCause) (v w : View) : Type 0 where
  pub clock : ℕ
  pub is : why ≡ refusals.NumberLimit clock
  pub steps : w.steps ≡ v.steps + 1
  pub last : w.last ≡ Some (glance v.steps clock_at clock)
  pub high : draw_limit ≤ clock % 2 ^ 40
  pub draws : clock % 2 ^ 40 ≡ v.layout.first.draw + length w.history
  pub undrawn : w.draws ≡ v.draws
  pub touched : w.touched ≡ v.touched
  pub blamed : w.blamed ≡ v.blamed
  pub refused : HasRefused why v w

-- ---- conflicts

-- The last load or compare_exchange is one of this call, of the word of a record, and found it locked or not the
-- expected one. That is what the transaction had seen of the word before this step (`was`), and where there is nothing,
-- what this step saw, which is locked then; where the record was read, it is the read set's word. The word was not
-- locked by the pass: all own locks are open now, and it still is as this step saw it.
pub record IsConflict (reads : List ReadEntry) (at expected seen : ℕ) (v w : View) : Type 0 where
  pub step : ℕ
  pub last : w.last ≡ Some (glance step at seen)
  pub since : v.steps ≤ step
  pub was : Option ℕ
  pub kept : Option ℕ
  pub stands : Contains w.reads (record { word = at; seen = seen; was = was; kept = kept })
  pub read : (n : ℕ) → read_word at reads ≡ Some n → expected ≡ n
  pub known : expected ≡ unwrap_or was seen
  pub cause : (2 ^ 60 ≤ seen) ⊎ ((expected < 2 ^ 60) × (seen ≢ expected))

-- So it is at the word of a tree's record, of which nothing is kept as a part. The expected word is what the transaction
-- had seen or left there before this step, and where the record was read, the read set's word.
pub record IsTreeConflict (reads : List ReadEntry) (at expected seen : ℕ) (v w : View) : Type 0 where
  pub step : ℕ
  pub last : w.last ≡ Some (glance step at seen)
  pub since : v.steps ≤ step
  pub stands : Contains w.reads (record { word = at; seen = seen; was = Some expected; kept = None })
  pub read : (n : ℕ) → read_word at reads ≡ Some n → expected ≡ n
  pub cause : ((seen / 2 ^ 60) % 2 ≡ 1) ⊎ (seen ≢ expected)

-- it is the record of this key, and the key is told
pub record IsConflictAt (reads : List ReadEntry) (k : Key) (at expected seen : ℕ) (v w : View) : Type 0 where
  pub conflict : IsConflict reads at expected seen v w
  pub blamed : w.blamed ≡ v.blamed ++ touch (seat_number v.role) k ∷ []

-- The last load or compare_exchange is one of this call, of the word of a pointer, and found it shut or not the expected
-- one. That is the word of the set of pointers, and where the set has none, what the transaction saw there before this
-- step.
pub record IsPointerConflict (pointers : List Seen) (at expected seen : ℕ) (v w : View) : Type 0 where
  pub step : ℕ
  pub last : w.last ≡ Some (glance step at seen)
  pub since : v.steps ≤ step
  pub was : Option ℕ
  pub kept : Option ℕ
  pub stands : Contains w.reads (record { word = at; seen = seen; was = was; kept = kept })
  pub known : (word_at at pointers ≡ Some expected) ⊎ ((word_at at pointers ≡ None) × (was ≡ Some expected))
  pub cause : (2 ^ 60 ≤ seen) ⊎ (seen ≢ expected)

-- So it is at the word of a header, which was found locked or not the expected one: that of the set of headers, and where
-- the set has none, what the transaction saw there before this step. The header of a leaf that was split isn't locked by
-- that.
pub record IsHeaderConflict (headers : List Seen) (at expected seen : ℕ) (v w : View) : Type 0 where
  pub step : ℕ
  pub last : w.last ≡ Some (glance step at seen)
  pub since : v.steps ≤ step
  pub was : Option ℕ
  pub kept : Option ℕ
  pub stands : Contains w.reads (record { word = at; seen = seen; was = was; kept = kept })
  pub known : (word_at at headers ≡ Some expected) ⊎ ((word_at at headers ≡ None) × (was ≡ Some expected))
  pub cause : ((seen / 2 ^ 60) % 2 ≡ 1) ⊎ (seen ≢ expected)
