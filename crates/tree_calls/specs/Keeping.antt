-- What the sets of a transaction keep of a key of a tree that was looked for, and what a read of it comes to.
use Rattle.std.specs.Prelude.{◌≡◌, ◌⊎◌, ℕ, ◌+◌, ◌<◌, ◌^◌, List, [], ◌∷◌, ◌++◌, length, Option, Some, None, if◌then◌else◌, nat_lt}
use Rattle.std.specs.Prelude.{Contains, true, false, Bool, not, ◌&&◌}
use Rattle.serial_model.specs.declared.key.Key.{Key}
use Rattle.homes.specs.Homes.{in_span}
use Rattle.commit_core.specs.Serial.{last_write}
use Rattle.serial_bridge.specs.Transaction.{Vouched}
use Rattle.tx_sets.specs.declared.reads.ReadEntry.{ReadEntry}
use Rattle.tx_sets.specs.declared.seen.Seen.{Seen}
use Rattle.tx_sets.specs.declared.sets.Sets.{Sets}
use Rattle.tx_sets.specs.Entries.{has_word, read_of, value_of, word_at}
use Rattle.tx_sets.specs.Gathered.{has_read_room}
use Rattle.engine_pages.specs.declared.view.View.{View}
use Rattle.engine_pages.specs.declared.view.Way.{Way}
use Rattle.tree_walks.specs.declared.finding.Found.{Found}
use Rattle.tree_walks.specs.declared.finding.Found.TheVariants as places
use Rattle.page_commit.specs.Keeping.{MeetsPointer}
use Rattle.page_commit.specs.Live.{IsLive}
use Rattle.page_commit.specs.Turning.{HoldsWaysTo, IsHeaderOver, IsTreePointerOver, IsTwinOn, OnlyWalked, PartsStay}

-- ---- values

-- The value of what was found, if it has one. The word of a record in memory has no lock, and tells.
abbrev pub value_in : Found → Option ℕ
value_in (places.Volatile at word value) = if nat_lt word (2 ^ 61) then Some value else None
value_in (places.Absent header word) = None
value_in (places.Snapshot value number p) = Some value
value_in (places.Zero p) = None

-- the value of an entry of the read set, if it has one
abbrev pub entry_value : ReadEntry → Option ℕ
entry_value e = if nat_lt e.word (2 ^ 61) then Some e.value else None

-- ---- what the sets keep

-- records and headers that are kept are together less than there is room for
abbrev pub HasReadRoom : Sets → Type 0
HasReadRoom sets = length sets.reads + length sets.headers < 256

-- what vouches for the key isn't kept, and there is no room for it
abbrev pub lacks_entry : Sets → Found → Bool
lacks_entry sets (places.Volatile at word value) = not (has_read_room sets)
lacks_entry sets (places.Absent header word) = not (has_read_room sets) && not (has_word header sets.headers)
lacks_entry sets (places.Snapshot value number p) = false
lacks_entry sets (places.Zero p) = false

-- the set has the word so, or there is room for it
abbrev pub HasPlaceFor : ℕ → Seen → List Seen → Type 0
HasPlaceFor most p seen = (word_at p.at seen ≡ Some p.word) ⊎ ((word_at p.at seen ≡ None) × (length seen < most))

-- there is room for what vouches for the key, or it is in its set so
abbrev pub HasRoomFor : Sets → Found → Type 0
HasRoomFor sets (places.Volatile at word value) = HasReadRoom sets
HasRoomFor sets (places.Absent header word) = HasPlaceFor 256 (record { at = header; word = word }) sets.headers
HasRoomFor sets (places.Snapshot value number p) = HasPlaceFor 128 p sets.pointers
HasRoomFor sets (places.Zero p) = HasPlaceFor 128 p sets.pointers

-- all but the reads, the pointers and the headers is as it was
pub record KeepsRest (sets new : Sets) : Type 0 where
  pub writes : new.writes ≡ sets.writes
  pub holds : new.holds ≡ sets.holds

-- The record that was found is the newest entry; or the header or the pointer which vouches for the key is in its set.
abbrev pub KeepsFound : Key → Found → Sets → Sets → Type 0
KeepsFound k (places.Volatile at word value) sets new =
    KeepsRest sets new × (new.pointers ≡ sets.pointers) × (new.headers ≡ sets.headers)
    × (new.reads ≡ sets.reads ++ record { key = k; at = at; word = word; value = value } ∷ [])
KeepsFound k (places.Absent header word) sets new =
    KeepsRest sets new × (new.pointers ≡ sets.pointers)
    × MeetsPointer (record { at = header; word = word }) sets.headers new.headers × (new.reads ≡ sets.reads)
KeepsFound k (places.Snapshot value number p) sets new =
    KeepsRest sets new × MeetsPointer p sets.pointers new.pointers × (new.headers ≡ sets.headers)
    × (new.reads ≡ sets.reads)
KeepsFound k (places.Zero p) sets new =
    KeepsRest sets new × MeetsPointer p sets.pointers new.pointers × (new.headers ≡ sets.headers)
    × (new.reads ≡ sets.reads)

-- ---- reads

-- What a read answers at a key of a tree: what the transaction wrote there last; else what it first read there; else what
-- this call saw, the last decided write of the key, of all that was drawn and decided up to the step that saw it, or what
-- stood there at first.
pub record IsTreeValueRead (k : Key) (value : Option ℕ) (sets : Sets) (v w : View) : Type 0 where
  pub own : (x : Option ℕ) → value_of k sets.writes ≡ Some x → value ≡ x
  pub again : (e : ReadEntry) → value_of k sets.writes ≡ None → read_of k sets.reads ≡ Some e → value ≡ entry_value e
  pub anew : value_of k sets.writes ≡ None → read_of k sets.reads ≡ None
      → value ≡ (last_write v.layout.opening w.history w.decided k).value

-- each way that is new is over the key, or into a half of a page on the way to it
abbrev pub OnlyWaysOn : Key → View → View → Type 0
OnlyWaysOn k v w = (x : Way) → Contains w.ways x → Contains v.ways x ⊎ ((in_span x.span k ≡ true) ⊎ IsTwinOn k w x)

-- This is what the transaction first read at the key of a tree: some part has the value, or that there is none. At most
-- one record, one pointer and one header joined the sets, each on the way to the key.
pub record HasValue (k : Key) (value : Option ℕ) (sets new : Sets) (v w : View) : Type 0 where
  pub live : IsLive new w
  pub only : OnlyWalked v w
  pub paths : OnlyWaysOn k v w
  pub held : HoldsWaysTo k sets.holds new.holds w
  pub keeps : PartsStay v.seat.kept w.seat.kept
  pub touched : w.touched ≡ v.touched
  pub reads : (new.reads ≡ sets.reads) ⊎ ((e : ReadEntry) × (e.key ≡ k) × (new.reads ≡ sets.reads ++ e ∷ []))
  pub pointers : (new.pointers ≡ sets.pointers)
      ⊎ ((p : Seen) × (new.pointers ≡ sets.pointers ++ p ∷ []) × IsTreePointerOver w k p.at)
  pub headers : (new.headers ≡ sets.headers)
      ⊎ ((h : Seen) × (new.headers ≡ sets.headers ++ h ∷ []) × IsHeaderOver w k h.at)
  pub writes : new.writes ≡ sets.writes
  pub vouched : Vouched w.seat.kept k value
