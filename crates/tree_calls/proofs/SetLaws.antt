-- What the sets have room for, and what joins them.
use Rattle.std.proofs.Common.{◌≡◌, true≢false, inl, inr, ℕ, ◌+◌, ◌<◌, ◌≤◌, Bool, true, false, List, [], ◌∷◌, ◌++◌, length}
use Rattle.std.proofs.Common.{refl, sym, ap, ◌∙◌, subst, arith, length-append, Some, None}
use Rattle.std.proofs.lemmas.Bool.Decides.{nat_tests}
use Rattle.std.specs.Prelude.{not, ◌&&◌, Result, Ok, Err, OnOk, IsOk}
use Rattle.serial_model.specs.declared.key.Key.{Key}
use Rattle.tx_sets.specs.declared.reads.ReadEntry.{ReadEntry}
use Rattle.tx_sets.specs.declared.seen.Seen.{Seen}
use Rattle.tx_sets.specs.declared.sets.Sets.{Sets}
use Rattle.tx_sets.specs.Entries.{has_word, word_at, IsPushed}
use Rattle.tx_sets.specs.Gathered.{has_read_room}
use Rattle.engine_pages.specs.declared.view.View.{View}
use Rattle.tree_walks.specs.declared.finding.Found.{Found}
use Rattle.tree_walks.specs.declared.finding.Found.TheVariants as places
use Rattle.tree_walks.specs.Finding.{IsFound}
use Rattle.page_commit.specs.Keeping.{MeetsPointer}
use Rattle.page_commit.proofs.FoundLaws.{has_no_word, no_word}
use Rattle.page_commit.proofs.RoomLaws.{room_entry, room_same}
use Rattle.tree_calls.specs.Keeping.{lacks_entry, HasPlaceFor, HasReadRoom, HasRoomFor, KeepsFound}

-- ---- room

not_none : (b : Bool) → not b ≡ false → b ≡ true
not_none true is = refl
not_none false is = absurd (true≢false is)

read_room : (sets : Sets) → has_read_room sets ≡ true → HasReadRoom sets
read_room sets room = grind (arith, nat_tests, room)

header_room : (sets : Sets) → HasReadRoom sets → length sets.headers < 256
header_room sets room = omega (arith, room)

pub entry_room : (sets : Sets) → HasReadRoom sets → length sets.reads < 256
entry_room sets room = omega (arith, room)

-- there is room for a header that isn't kept, where it doesn't lack
absent_room : (header : ℕ) (sets : Sets) → (not (has_read_room sets) && not (has_word header sets.headers)) ≡ false
    → word_at header sets.headers ≡ None → HasReadRoom sets
absent_room header sets has none = by_room (has_read_room sets) refl
  where
    by_room : (b : Bool) → has_read_room sets ≡ b → HasReadRoom sets
    by_room true room = read_room sets room
    by_room false room =
        let low : (not false && not (has_word header sets.headers)) ≡ false =
        subst (λ (b : Bool). (not b && not (has_word header sets.headers)) ≡ false) room has in
        let bad : (not false && not false) ≡ false =
        subst (λ (b : Bool). (not false && not b) ≡ false) (has_no_word header sets.headers none) low in
        absurd (true≢false bad)

-- what was found has a place
pub room_found : (f : Found) (sets : Sets) (k : Key) (v w : View) → IsFound k sets.pointers sets.headers f v w
    → lacks_entry sets f ≡ false → HasRoomFor sets f
room_found (places.Volatile at word value) sets k v w f has = read_room sets (not_none (has_read_room sets) has)
room_found (places.Absent header word) sets k v w f has = elim f.set [
  | inr so ↦ inl so
  | inl none ↦ inr (none, header_room sets (absent_room header sets has none))
]
room_found (places.Snapshot value number p) sets k v w f has = elim (f.on).set [
  | inr so ↦ inl so
  | inl none ↦ inr (none, f.room none)
]
room_found (places.Zero p) sets k v w f has = elim (f.on).set [
  | inr so ↦ inl so
  | inl none ↦ inr (none, f.room none)
]

-- records and headers stay together within their room, where there was some for a record
pub room_record : (sets new : Sets) (e : ReadEntry) → new.reads ≡ sets.reads ++ e ∷ [] → new.headers ≡ sets.headers
    → not (has_read_room sets) ≡ false → length new.reads + length new.headers ≤ 256
room_record sets new e reads headers has =
    room_entry sets new e reads (ap (λ (l : List Seen). length l) headers) (not_none (has_read_room sets) has)

-- or for a header that isn't kept yet
pub room_header : (h : Seen) (sets new : Sets) → new.reads ≡ sets.reads → MeetsPointer h sets.headers new.headers
    → (not (has_read_room sets) && not (has_word h.at sets.headers)) ≡ false
    → length sets.reads + length sets.headers ≤ 256 → length new.reads + length new.headers ≤ 256
room_header h sets new reads meets has room = by_side meets
  where
    by_side : MeetsPointer h sets.headers new.headers → length new.reads + length new.headers ≤ 256
    by_side (inl m) = room_same sets new reads m.1 room
    by_side (inr m) =
        let less : length sets.reads + length sets.headers < 256 = absent_room h.at sets has m.0 in
        let same : length new.reads ≡ length sets.reads = ap (λ (l : List ReadEntry). length l) reads in
        let more : length new.headers ≡ length sets.headers + 1 =
        ap (λ (l : List Seen). length l) m.1 ∙ length-append sets.headers (h ∷ []) in
        omega (arith, less, same, more)

-- ---- what joins

on_ok : {P E : Type 0} (r : Result (Unit {0}) E) → OnOk r P → IsOk r → P
on_ok (Ok x) p ok = p
on_ok (Err e) p ok = absurd cc

some_none : (n : ℕ) → Some n ≡ None → ⊥
some_none n e = absurd cc

pub entry_pushed : (x : ReadEntry) (old new : List ReadEntry) (r : Result (Unit {0}) ReadEntry) → IsPushed 256 x old new r
    → length old < 256 → new ≡ old ++ x ∷ []
entry_pushed x old new r p room = on_ok r p.added (p.exactly.1 room)

pub word_pushed : (most : ℕ) (p : Seen) (old new : List Seen) (r : Result (Unit {0}) Seen) → IsPushed most p old new r
    → has_word p.at old ≡ false → HasPlaceFor most p old → MeetsPointer p old new
word_pushed most p old new r is none so = elim so [
  | inl word ↦ absurd (some_none p.word (sym word ∙ no_word p.at old none))
  | inr room ↦ inr (room.0, on_ok r is.added (is.exactly.1 room.1))
]

pub word_same : (most : ℕ) (p : Seen) (seen : List Seen) → has_word p.at seen ≡ true → HasPlaceFor most p seen
    → MeetsPointer p seen seen
word_same most p seen has so = elim so [
  | inl word ↦ inl (word, refl)
  | inr room ↦ absurd (true≢false (sym has ∙ has_no_word p.at seen room.0))
]

-- what is found as another is kept so too
pub keeps_as : (f g : Found) (k : Key) (sets new : Sets) → f ≡ g → KeepsFound k g sets new → KeepsFound k f sets new
keeps_as f g k sets new same h = subst (λ (z : Found). KeepsFound k z sets new) (sym same) h
