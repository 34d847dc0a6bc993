-- The whole cause of a read of a key of a tree that was refused, and that no key is told.
use Rattle.std.proofs.Common.{◌≡◌, ◌⊎◌, true≢false, inl, inr, ℕ, ◌+◌, ◌^◌, ◌<◌, ◌≤◌, Bool, true, false}
use Rattle.std.proofs.Common.{List, [], length, refl, sym, ap, ◌∙◌, subst, arith, ltb, Option, Some, None}
use Rattle.std.proofs.lemmas.Bool.Decides.{nat_tests}
use Rattle.std.specs.Prelude.{not}
use Rattle.std.proofs.lemmas.Bool.{and_parts}
use Rattle.serial_model.specs.declared.key.Key.{Key}
use Rattle.homes.specs.declared.places.Content.{Content}
use Rattle.homes.specs.declared.places.Span.{Span}
use Rattle.homes.specs.Homes.{in_span}
use Rattle.wire_form.specs.Leaves.{tree_leaf}
use Rattle.wire_form.specs.Words.{absent_field, number_word}
use Rattle.tx_sets.specs.declared.seen.Seen.{Seen}
use Rattle.tx_sets.specs.declared.sets.Sets.{Sets}
use Rattle.tx_sets.specs.Entries.{has_read, has_word, has_write, word_at}
use Rattle.tx_sets.specs.Gathered.{has_read_room}
use Rattle.engine_pages.specs.declared.view.RefusalCause.{RefusalCause}
use Rattle.engine_pages.specs.declared.view.RefusalCause.TheVariants as refusals
use Rattle.engine_pages.specs.declared.view.SetName.{SetName}
use Rattle.engine_pages.specs.declared.view.SetName.TheVariants.{Reads, Writes, Pointers, Holds}
use Rattle.engine_pages.specs.declared.view.Touch.{Touch}
use Rattle.engine_pages.specs.declared.view.View.{View}
use Rattle.engine_pages.specs.declared.view.Way.{Way}
use Rattle.engine_pages.specs.Steps.{seen_at}
use Rattle.engine_pages.specs.Words.{IsSmall}
use Rattle.page_records.specs.Locks.{IsOpenWord}
use Rattle.tree_heads.specs.Headers.{open_word}
use Rattle.tree_walks.specs.declared.finding.Found.{Found}
use Rattle.tree_walks.specs.declared.finding.Found.TheVariants as places
use Rattle.tree_walks.specs.Finding as finding
use Rattle.tree_walks.specs.Finding.{IsAbsentIn, IsFindWide, IsFound, IsFoundIn, RefusesFind}
use Rattle.tree_walks.specs.Walks.{HasWalked}
use Rattle.tree_walks.specs.Ways.{NeedsHalf, NeedsHold}
use Rattle.page_commit.specs.Needs.{NeedsHeader, NeedsRecord}
use Rattle.page_commit.specs.Places.{ground, IsTreeKeyIn}
use Rattle.page_commit.specs.Refusing.{TellsOnly}
use Rattle.page_commit.specs.Steps.{HasGivenUp, TellsOf}
use Rattle.page_commit.proofs.AnyPlaces.{tree_key_here}
use Rattle.page_commit.proofs.CommitLaws.{kept_others}
use Rattle.page_commit.proofs.FoundLaws.{no_word}
use Rattle.tree_calls.specs.Causes.{IsWordConflict, NeedsEntry, NeedsPointer, NeedsSlot, RefusesTreeRead, WasLong}
use Rattle.tree_calls.specs.Keeping.{lacks_entry}
use Rattle.tree_calls.proofs.DueLaws.{draws_same, header_cause, header_told, pointer_cause, pointer_place, record_cause}
use Rattle.tree_calls.proofs.DueLaws.{record_told, touches_same, TreeWalked}
use Rattle.tree_calls.proofs.TreeWalkLaws.{tree_walked}

-- ---- no key is told

none_told : (met : List Touch) → met ≡ [] → length met ≤ 1
none_told met none = let n = ap (λ (l : List Touch). length l) none in omega (arith, n)

pub find_told : (why : RefusalCause) (sets : Sets) (slots late : List ℕ) (k : Key) (v w : View) (met : List Touch)
    → TreeWalked sets slots v w → RefusesFind k sets.pointers sets.headers late why v w → TellsOf why met w
    → TellsOnly why met
find_told (refusals.Conflict at expected seen) sets slots late k v w met h (inl (inl p)) t =
    none_told met (t.1 (p.on).span (pointer_place slots k w at h.can p.on))
find_told (refusals.Conflict at expected seen) sets slots late k v w met h (inl (inr c)) t =
    none_told met (header_told sets slots k at expected seen v w h c met t)
find_told (refusals.Conflict at expected seen) sets slots late k v w met h (inr c) t =
    none_told met (record_told sets slots k at expected seen v w h c met t)
find_told (refusals.Full held) sets slots late k v w met h r t = t
find_told (refusals.Wide set) sets slots late k v w met h r t = t
find_told (refusals.NumberLimit clock) sets slots late k v w met h r t = t

-- ---- a set was full

-- a slot more was to be held
pub needs_slot : (sets : Sets) (late slots : List ℕ) (k : Key) (v w x : View) → TreeWalked sets slots v w
    → HasGivenUp [] (refusals.Wide Holds) w x → NeedsHold k late w ⊎ NeedsHalf k late w → NeedsSlot k late v x
needs_slot sets late slots k v w x h g needs = record {
  then = w;
  walked = tree_walked v w h.walk;
  met = λ r has. kept_others [] (refusals.Wide Holds) w x g r has refl;
  needs = needs;
}

-- a pointer more was to be kept
pub needs_pointer : (sets : Sets) (k : Key) (v w x : View) → HasWalked v w → HasGivenUp [] (refusals.Wide Pointers) w x
    → finding.NeedsPointer k sets.pointers w → NeedsPointer k sets v x
needs_pointer sets k v w x walk g needs = record {
  then = w;
  walked = tree_walked v w walk;
  met = λ r has. kept_others [] (refusals.Wide Pointers) w x g r has refl;
  needs = needs;
}

find_wide : (set : SetName) (sets new : Sets) (slots : List ℕ) (k : Key) (v w x : View) → TreeWalked sets slots v w
    → HasGivenUp [] (refusals.Wide set) w x → IsFindWide k sets.pointers new.holds set w
    → ((set ≡ Reads) × (256 ≤ length sets.reads + length sets.headers) × NeedsEntry k sets v x)
    ⊎ (((set ≡ Holds) × (((length new.holds ≡ 128) × NeedsSlot k new.holds v x) ⊎ WasLong k v))
    ⊎ ((set ≡ Pointers) × (length sets.pointers ≡ 128) × NeedsPointer k sets v x))
find_wide Reads sets new slots k v w x h g n = absurd n
find_wide Writes sets new slots k v w x h g n = absurd n
find_wide Pointers sets new slots k v w x h g n =
    inr (inr (refl, n.full, needs_pointer sets k v w x h.walk g n))
find_wide Holds sets new slots k v w x h g (inl full) =
    inr (inl (refl, inl (full.0, needs_slot sets new.holds slots k v w x h g full.1)))
find_wide Holds sets new slots k v w x h g (inr long) =
    inr (inl (refl, inr (record { then = w; walked = tree_walked v w h.walk; long = long })))

pub find_cause : (why : RefusalCause) (sets new : Sets) (slots : List ℕ) (k : Key) (v w x : View)
    → TreeWalked sets slots v w → has_read k sets.reads ≡ false → has_write k sets.writes ≡ false
    → RefusesFind k sets.pointers sets.headers new.holds why v w → HasGivenUp [] why w x
    → RefusesTreeRead sets new k why v x
find_cause (refusals.Conflict at expected seen) sets new slots k v w x h none unwritten r g =
    let why : RefusalCause = refusals.Conflict at expected seen in
    let told : IsWordConflict sets k at expected seen v x × (x.blamed ≡ v.blamed) = elim r [
      | inl walk ↦ elim walk [
        | inl p ↦ pointer_cause why sets slots k v w x h g at expected seen refl p
        | inr c ↦ header_cause why sets slots k v w x h g at expected seen refl c
      ]
      | inr c ↦ record_cause why sets slots k v w x h g at expected seen refl none c
    ] in (
      none,
      unwritten,
      draws_same why sets slots k v w x h g,
      told.0,
      told.1,
      touches_same why sets slots k v w x h g,
    )
find_cause (refusals.Full held) sets new slots k v w x h none unwritten r g = absurd r
find_cause (refusals.Wide set) sets new slots k v w x h none unwritten r g = (
  none,
  unwritten,
  draws_same (refusals.Wide set) sets slots k v w x h g,
  find_wide set sets new slots k v w x h g r.0,
  touches_same (refusals.Wide set) sets slots k v w x h g,
)
find_cause (refusals.NumberLimit clock) sets new slots k v w x h none unwritten r g = absurd r

-- ---- what was found lacks its entry

pub no_test : (b : Bool) → not b ≡ true → b ≡ false
no_test true none = absurd (true≢false (sym none))
no_test false none = refl

pub no_room : (sets : Sets) → not (has_read_room sets) ≡ true → 256 ≤ length sets.reads + length sets.headers
no_room sets none =
    let no : ltb (length sets.reads + length sets.headers) 256 ≡ false = no_test (has_read_room sets) none in
    grind (arith, nat_tests, no)

-- the place of a record that was found
pub found_place : (sets : Sets) (slots : List ℕ) (k : Key) (at word value : ℕ) (v w : View) → TreeWalked sets slots v w
    → IsFoundIn k at word value v w → IsTreeKeyIn (ground w) k at
found_place sets slots k at word value v w h f =
    let way : Way = record { slot = f.slot; span = f.span } in
    let same = ((h.can).trees).spans way (f.place).way (f.on).way (f.place).has (sym ((f.place).slot ∙ f.stands)) (f.on).tree in
    tree_key_here w k f.spot at f.place (subst (λ (s : Span). in_span s k ≡ true) same (f.on).over)

-- the word of a content isn't locked
open_content : (c : Content) (word : ℕ) → IsSmall c.number
    → number_word c.number + absent_field tree_leaf c.value ≡ word → IsOpenWord word
open_content c word small shown = by_value c.value shown
  where
    low : number_word c.number < 2 ^ 60
    low = let draw = small.draw in let epoch = small.epoch in omega (arith, draw, epoch)

    by_value : (o : Option ℕ) → number_word c.number + absent_field tree_leaf o ≡ word → IsOpenWord word
    by_value None shown =
        let less = low in
        let high : 2 ^ 61 ≤ word = omega (arith, shown) in
        let under : word < 2 ^ 61 + 2 ^ 60 = omega (arith, shown, less) in inr (high, under)
    by_value (Some i) shown = let less = low in inl (omega (arith, shown, less))

-- a record that was found is one more
new_record : (sets : Sets) (slots : List ℕ) (k : Key) (at word value : ℕ) (v w : View) → TreeWalked sets slots v w
    → IsFoundIn k at word value v w → has_read k sets.reads ≡ false → NeedsRecord k sets.reads w
new_record sets slots k at word value v w h f none = record {
  at = at;
  word = word;
  place = found_place sets slots k at word value v w h f;
  saw = f.met;
  unlocked = open_content f.content word f.small f.shown;
  unread = none;
}

open_is : (n : ℕ) → 256 + n ≡ open_word n
open_is n = omega arith

-- so is the header of a leaf that lacks the key
new_header : (headers : List Seen) (k : Key) (at word : ℕ) (v w : View) → IsAbsentIn k headers at word v w
    → has_word at headers ≡ false → NeedsHeader k headers w
new_header headers k at word v w f none =
    let few : length f.keys ≤ 16 = f.few in
    let is : word ≡ 256 + length f.keys = f.is ∙ sym (open_is (length f.keys)) in record {
      slot = f.slot;
      span = f.span;
      on = f.on;
      leaf = record { slot = f.slot; keys = f.keys };
      knows = f.knows;
      same = refl;
      word = word;
      saw = subst (λ (a : ℕ). seen_at w.reads a ≡ Some word) f.place f.met;
      unsplit = omega (arith, is, few);
      absent = subst (λ (a : ℕ). word_at a headers ≡ None) f.place (no_word at headers none);
    }

-- what was found is one entry more than there is room for
pub found_needs : (f : Found) (sets : Sets) (slots : List ℕ) (k : Key) (v w : View) → TreeWalked sets slots v w
    → has_read k sets.reads ≡ false → IsFound k sets.pointers sets.headers f v w → lacks_entry sets f ≡ true
    → (256 ≤ length sets.reads + length sets.headers) × (NeedsRecord k sets.reads w ⊎ NeedsHeader k sets.headers w)
found_needs (places.Volatile at word value) sets slots k v w h none f full =
    (no_room sets full, inl (new_record sets slots k at word value v w h f none))
found_needs (places.Absent header word) sets slots k v w h none f full =
    let both = and_parts (not (has_read_room sets)) (not (has_word header sets.headers)) full in (
      no_room sets both.0,
      inr (new_header sets.headers k header word v w f (no_test (has_word header sets.headers) both.1)),
    )
found_needs (places.Snapshot value number p) sets slots k v w h none f full = absurd (true≢false (sym full))
found_needs (places.Zero p) sets slots k v w h none f full = absurd (true≢false (sym full))

-- the entry that was needed was seen
pub needs_entry : (sets : Sets) (k : Key) (v w x : View) → HasWalked v w → HasGivenUp [] (refusals.Wide Reads) w x
    → NeedsRecord k sets.reads w ⊎ NeedsHeader k sets.headers w → NeedsEntry k sets v x
needs_entry sets k v w x walk g needs = record {
  then = w;
  walked = tree_walked v w walk;
  met = λ r has. kept_others [] (refusals.Wide Reads) w x g r has refl;
  needs = needs;
}

-- there was no room for it
pub wide_cause : (f : Found) (sets new : Sets) (slots : List ℕ) (k : Key) (v w x : View)
    → TreeWalked sets slots v w → has_read k sets.reads ≡ false → has_write k sets.writes ≡ false
    → IsFound k sets.pointers sets.headers f v w → lacks_entry sets f ≡ true
    → HasGivenUp [] (refusals.Wide Reads) w x → RefusesTreeRead sets new k (refusals.Wide Reads) v x
wide_cause f sets new slots k v w x h none unwritten is full g =
    let why : RefusalCause = refusals.Wide Reads in
    let found = found_needs f sets slots k v w h none is full in (
      none,
      unwritten,
      draws_same why sets slots k v w x h g,
      inl (refl, found.0, needs_entry sets k v w x h.walk g found.1),
      touches_same why sets slots k v w x h g,
    )
