-- Tests of the sets of a transaction before a key is added to a leaf, and what they keep of it.
use Rattle.std.proofs.Common.{◌≡◌, ◌+◌, ◌<◌, Bool, true, false, true≢false, List, [], ◌∷◌, ◌++◌, length, sym, refl, arith}
use Rattle.std.specs.Prelude.{not, nat_lt, Result}
use Rattle.std.proofs.lemmas.Bool.Decides.{nat_tests}
use Rattle.tx_sets.specs.declared.reads.ReadEntry.{ReadEntry}
use Rattle.tx_sets.specs.declared.sets.Sets.{Sets}
use Rattle.tx_sets.specs.Entries.{IsPushed}
use Rattle.tx_sets.specs.Gathered.{has_read_room}
use Rattle.page_commit.proofs.FoundLaws.{entry_pushed}

pub no_true : (b : Bool) → not b ≡ true → b ≡ false
no_true true is = absurd (true≢false (sym is))
no_true false is = refl

pub not_false : (b : Bool) → not b ≡ false → b ≡ true
not_false true is = refl
not_false false is = absurd (true≢false is)

-- room for records and headers together is room for a record
pub room_reads : (sets : Sets) → has_read_room sets ≡ true → length sets.reads < 256
room_reads sets room =
    let both : nat_lt (length sets.reads + length sets.headers) 256 ≡ true = room in
    let less : length sets.reads + length sets.headers < 256 = grind (arith, nat_tests, both) in omega (arith, less)

pub entry_put : (x : ReadEntry) (sets : Sets) (new : List ReadEntry) (r : Result (Unit {0}) ReadEntry)
    → IsPushed 256 x sets.reads new r → has_read_room sets ≡ true → new ≡ sets.reads ++ x ∷ []
entry_put x sets new r pushed room = entry_pushed x sets.reads new r pushed (room_reads sets room)
