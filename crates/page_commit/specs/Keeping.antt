-- What reads and what writes begin with come to, and what the sets keep of a key that was found.
use Rattle.std.specs.Prelude.{◌≡◌, ◌⊎◌, ℕ, ◌%◌, not, Bool, true, false, List, [], ◌∷◌, ◌++◌, None, Some, Option}
use Rattle.std.specs.Prelude.{unwrap_or, ⊤}
use Rattle.wire_form.specs.Leaves.{array_leaf}
use Rattle.commit_core.specs.Serial.{last_write}
use Rattle.serial_bridge.specs.Transaction.{Vouched}
use Rattle.tx_sets.specs.declared.reads.ReadEntry.{ReadEntry}
use Rattle.tx_sets.specs.Entries.{read_of, word_at}
use Rattle.tx_sets.specs.Gathered.{has_read_room}
use Rattle.engine_pages.specs.declared.view.View.{View}
use Rattle.page_commit.specs.Places.{spot_at, IsKeyAt}
use Rattle.page_commit.specs.Live.{IsLive}
use Rattle.page_commit.specs.Turning.{HoldsWaysTo, OnlyWalked, PartsStay}
use Rattle.serial_model.specs.declared.key.Key.{Key}
use Rattle.tx_sets.specs.declared.seen.Seen.{Seen}
use Rattle.tx_sets.specs.declared.sets.Sets.{Sets}
use Rattle.array_pages.specs.declared.finding.Found.{Found}
use Rattle.array_pages.specs.Walks.{IsWayPlace, MeetsSo, OnlyWaysTo}
use Rattle.array_pages.specs.declared.finding.Found.TheVariants as places

-- the pointer under which the key was found is in the set with its word, or there is room for it
abbrev pub MeetsFound : List Seen → Found → Type 0
MeetsFound pointers (places.Volatile at word value) = ⊤
MeetsFound pointers (places.Snapshot value number p) = MeetsSo pointers p.at p.word
MeetsFound pointers (places.Zero p) = MeetsSo pointers p.at p.word

-- the set has the pointer, which may be its newest one
abbrev pub MeetsPointer : Seen → List Seen → List Seen → Type 0
MeetsPointer p old new =
    ((word_at p.at old ≡ Some p.word) × (new ≡ old)) ⊎ ((word_at p.at old ≡ None) × (new ≡ old ++ p ∷ []))

-- there is room for the entry of a record in memory, beside those of records and headers
abbrev pub HasRoomFor : Sets → Found → Type 0
HasRoomFor sets (places.Volatile at word value) = has_read_room sets ≡ true
HasRoomFor sets (places.Snapshot value number p) = ⊤
HasRoomFor sets (places.Zero p) = ⊤

-- the sets have no room for the entry of what was found
abbrev pub lacks_entry : Sets → Found → Bool
lacks_entry sets (places.Volatile at word value) = not (has_read_room sets)
lacks_entry sets (places.Snapshot value number p) = false
lacks_entry sets (places.Zero p) = false

-- all but the reads and the pointers is as it was
pub record KeepsRest (sets new : Sets) : Type 0 where
  pub writes : new.writes ≡ sets.writes
  pub holds : new.holds ≡ sets.holds
  pub headers : new.headers ≡ sets.headers

-- The record that was found is the newest entry, or the pointer under which the key was found is in the set; this is
-- the value.
abbrev pub KeepsFound : Key → Found → ℕ → Sets → Sets → Type 0
KeepsFound k (places.Volatile at word value) answer sets new =
    (answer ≡ value) × KeepsRest sets new × (new.pointers ≡ sets.pointers)
    × (new.reads ≡ sets.reads ++ record { key = k; at = at; word = word; value = value } ∷ [])
KeepsFound k (places.Snapshot value number p) answer sets new =
    (answer ≡ value) × KeepsRest sets new × MeetsPointer p sets.pointers new.pointers × (new.reads ≡ sets.reads)
KeepsFound k (places.Zero p) answer sets new =
    (answer ≡ 0) × KeepsRest sets new × MeetsPointer p sets.pointers new.pointers × (new.reads ≡ sets.reads)

-- ---- reads

-- This is what the transaction first read at the key: some part has the value, which is the last decided write of the
-- key as this call saw it, where its record was not read before.
pub record HasValue (k : Key) (value : ℕ) (sets new : Sets) (v w : View) : Type 0 where
  pub live : IsLive new w
  pub only : OnlyWalked v w
  pub paths : OnlyWaysTo k v w
  pub held : HoldsWaysTo k sets.holds new.holds w
  pub again : (x : ReadEntry) → read_of k sets.reads ≡ Some x → value ≡ x.value
  pub anew : read_of k sets.reads ≡ None
      → value ≡ unwrap_or (last_write v.layout.opening w.history w.decided k).value 0
  pub places : (q : Key) (a : ℕ) → IsKeyAt v q a → IsKeyAt w q a
  pub keeps : PartsStay v.seat.kept w.seat.kept
  pub reads : (new.reads ≡ sets.reads) ⊎ ((e : ReadEntry) × (e.key ≡ k) × (new.reads ≡ sets.reads ++ e ∷ []))
  pub pointers : (new.pointers ≡ sets.pointers)
      ⊎ ((p : Seen) × (new.pointers ≡ sets.pointers ++ p ∷ []) × IsWayPlace v.layout k p.at)
  pub writes : new.writes ≡ sets.writes
  pub headers : new.headers ≡ sets.headers
  pub touched : w.touched ≡ v.touched
  pub content : Option ℕ
  pub value_is : value ≡ unwrap_or content 0
  pub vouched : Vouched w.seat.kept k content

-- The record of the key stands in a page that the pass holds, so many records behind the first one of its leaf; nothing
-- was read, met or written.
pub record HasBrought (k : Key) (at : ℕ) (sets new : Sets) (v w : View) : Type 0 where
  pub live : IsLive new w
  pub only : OnlyWalked v w
  pub paths : OnlyWaysTo k v w
  pub held : HoldsWaysTo k sets.holds new.holds w
  pub kept : w.seat.kept ≡ v.seat.kept
  pub touched : w.touched ≡ v.touched
  pub reads : new.reads ≡ sets.reads
  pub pointers : new.pointers ≡ sets.pointers
  pub writes : new.writes ≡ sets.writes
  pub headers : new.headers ≡ sets.headers
  pub place : IsKeyAt w k at
  pub index : (spot_at w.layout.slots at).index ≡ k.key % array_leaf.room

-- ---- what the sets keep

-- all but the writes is as it was
pub record KeepsSets (sets new : Sets) : Type 0 where
  pub reads : new.reads ≡ sets.reads
  pub pointers : new.pointers ≡ sets.pointers
  pub holds : new.holds ≡ sets.holds
  pub headers : new.headers ≡ sets.headers
