-- What is refused for a full set had one.
use Rattle.std.proofs.Common.{◌≡◌, inl, inr, ◌+◌, ◌≤◌, Bool, true, false, true≢false, length, refl, sym, ◌∙◌, arith}
use Rattle.std.specs.Prelude.{not}
use Rattle.std.proofs.lemmas.Bool.Decides.{nat_tests}
use Rattle.serial_model.specs.declared.key.Key.{Key}
use Rattle.tx_sets.specs.declared.sets.Sets.{Sets}
use Rattle.tx_sets.specs.Gathered.{has_read_room}
use Rattle.engine_pages.specs.declared.view.RefusalCause.{RefusalCause}
use Rattle.engine_pages.specs.declared.view.RefusalCause.TheVariants as refusals
use Rattle.engine_pages.specs.declared.view.SetName.{SetName}
use Rattle.engine_pages.specs.declared.view.SetName.TheVariants.{Holds, Pointers, Reads, Writes}
use Rattle.engine_pages.specs.declared.view.View.{View}
use Rattle.array_pages.specs.declared.finding.Found.{Found}
use Rattle.array_pages.specs.declared.finding.Found.TheVariants as places
use Rattle.array_pages.specs.Finding.{RefusesFind}
use Rattle.array_pages.specs.Making.{IsMadeWide, RefusesMake}
use Rattle.array_pages.specs.Walks.{IsWide}
use Rattle.page_commit.specs.Keeping.{lacks_entry}
use Rattle.page_commit.specs.Needs.{IsRefusedOn, NeedsOne}
use Rattle.page_commit.specs.Refusing.{IsWideDue, LacksRoom}

-- ---- a record was not found

find_lacks : (set : SetName) (sets : Sets) (k : Key) (v w : View) → IsWide k sets.pointers sets.holds set v w
    → LacksRoom set sets w
find_lacks Reads sets k v w h = absurd h
find_lacks Writes sets k v w h = absurd h
find_lacks Pointers sets k v w h = h.0
find_lacks Holds sets k v w h = inl h.0

pub find_wide_due : (why : RefusalCause) (sets : Sets) (k : Key) (v w : View)
    → RefusesFind k sets.pointers sets.holds why v w → IsWideDue why sets w
find_wide_due (refusals.Conflict at expected seen) sets k v w r = tt
find_wide_due (refusals.Full held) sets k v w r = tt
find_wide_due (refusals.Wide set) sets k v w r = find_lacks set sets k v w r
find_wide_due (refusals.NumberLimit clock) sets k v w r = tt

-- ---- a page was not made

make_lacks : (set : SetName) (sets : Sets) (k : Key) (v w : View) → IsMadeWide k sets.holds set v w
    → LacksRoom set sets w
make_lacks Reads sets k v w h = absurd h
make_lacks Writes sets k v w h = absurd h
make_lacks Pointers sets k v w h = absurd h
make_lacks Holds sets k v w h = inl h.0

pub make_wide_due : (why : RefusalCause) (sets : Sets) (k : Key) (v w : View)
    → RefusesMake k sets.pointers sets.holds why v w → IsWideDue why sets w
make_wide_due (refusals.Conflict at expected seen) sets k v w r = tt
make_wide_due (refusals.Full held) sets k v w r = tt
make_wide_due (refusals.Wide set) sets k v w r = make_lacks set sets k v w r
make_wide_due (refusals.NumberLimit clock) sets k v w r = tt

-- ---- an entry was not kept

-- as many records and headers are kept as there is room for
pub no_entries : (sets : Sets) → has_read_room sets ≡ false → 256 ≤ length sets.reads + length sets.headers
no_entries sets full = grind (arith, nat_tests, full)

not_true : (b : Bool) → not b ≡ true → b ≡ false
not_true true none = absurd (true≢false (sym none))
not_true false none = refl

-- what was found needs an entry more
pub entry_wide_due : (f : Found) (b : Bool) (sets : Sets) (v : View) → b ≡ lacks_entry sets f → b ≡ true
    → IsWideDue (refusals.Wide Reads) sets v
entry_wide_due (places.Volatile at word value) b sets v test full =
    no_entries sets (not_true (has_read_room sets) (sym test ∙ full))
entry_wide_due (places.Snapshot value number p) b sets v test full = absurd (true≢false (sym full ∙ test))
entry_wide_due (places.Zero p) b sets v test full = absurd (true≢false (sym full ∙ test))

-- ---- an entry more was needed on the way to a key of a tree

needs_lacks : (set : SetName) (k : Key) (sets : Sets) (v : View) → NeedsOne set k sets v → LacksRoom set sets v
needs_lacks Reads k sets v h = h.0
needs_lacks Writes k sets v h = h.0
needs_lacks Pointers k sets v h = h.full
needs_lacks Holds k sets v (inl full) = inl full.0
needs_lacks Holds k sets v (inr long) = inr (k, long)

pub on_wide_due : (why : RefusalCause) (k : Key) (sets : Sets) (v : View) → IsRefusedOn why k sets v
    → IsWideDue why sets v
on_wide_due (refusals.Conflict at expected seen) k sets v h = tt
on_wide_due (refusals.Full held) k sets v h = tt
on_wide_due (refusals.Wide set) k sets v h = needs_lacks set k sets v h
on_wide_due (refusals.NumberLimit clock) k sets v h = tt
