-- How many records and headers the sets keep: together no more than there is room for.
use Rattle.std.proofs.Common.{◌≡◌, ◌+◌, ◌<◌, ◌≤◌, true, List, [], ◌∷◌, ◌++◌, length, length-append, ap, ◌∙◌, arith}
use Rattle.std.proofs.lemmas.Bool.Decides.{nat_tests}
use Rattle.tx_sets.specs.declared.reads.ReadEntry.{ReadEntry}
use Rattle.tx_sets.specs.declared.seen.Seen.{Seen}
use Rattle.tx_sets.specs.declared.sets.Sets.{Sets}
use Rattle.tx_sets.specs.Gathered.{has_read_room, AreEmpty}

-- none, at the begin
pub room_empty : (sets : Sets) → AreEmpty sets → length sets.reads + length sets.headers ≤ 256
room_empty sets empty =
    let reads : length sets.reads ≡ 0 = ap (λ (l : List ReadEntry). length l) empty.reads in
    let headers : length sets.headers ≡ 0 = ap (λ (l : List Seen). length l) empty.headers in
    omega (arith, reads, headers)

-- the same as before
pub room_same : (sets new : Sets) → new.reads ≡ sets.reads → new.headers ≡ sets.headers
    → length sets.reads + length sets.headers ≤ 256 → length new.reads + length new.headers ≤ 256
room_same sets new reads headers room =
    let one : length new.reads ≡ length sets.reads = ap (λ (l : List ReadEntry). length l) reads in
    let two : length new.headers ≡ length sets.headers = ap (λ (l : List Seen). length l) headers in
    omega (arith, one, two, room)

-- one record more, where there was room for it
pub room_entry : (sets new : Sets) (e : ReadEntry) → new.reads ≡ sets.reads ++ e ∷ []
    → length new.headers ≡ length sets.headers → has_read_room sets ≡ true
    → length new.reads + length new.headers ≤ 256
room_entry sets new e reads headers room =
    let less : length sets.reads + length sets.headers < 256 = grind (arith, nat_tests, room) in
    let more : length new.reads ≡ length sets.reads + 1 =
    ap (λ (l : List ReadEntry). length l) reads ∙ length-append sets.reads (e ∷ []) in
    omega (arith, less, more, headers)
