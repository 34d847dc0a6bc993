-- What it comes to that a key's record is looked for.
use Rattle.std.specs.Prelude.{◌≡◌, ◌≢◌, ◌⊎◌, ℕ, ◌+◌, ◌%◌, ◌^◌, ◌<◌, ◌≤◌, true, List, None, Some, Option, unwrap_or}
use Rattle.std.specs.Prelude.{length, Contains}
use Rattle.std.proofs.Common.{sym, ap, ◌∙◌}
use Rattle.serial_model.specs.declared.key.Key.{Key}
use Rattle.homes.specs.declared.places.At.{At}
use Rattle.homes.specs.declared.places.Content.{Content}
use Rattle.homes.specs.declared.places.Span.{Span}
use Rattle.homes.specs.declared.places.Spot.{Spot}
use Rattle.homes.specs.Homes.{in_span}
use Rattle.wire_form.specs.Leaves.{array_leaf}
use Rattle.wire_form.specs.Words.{number_in, number_word}
use Rattle.snapshot_store.specs.ArrayPages.{array_found}
use Rattle.commit_core.specs.declared.part.Part.{Part}
use Rattle.commit_core.specs.Keys.{nothing, opening_number}
use Rattle.commit_core.specs.Parts.{covers, found, record_part, with_part, Vouches}
use Rattle.commit_core.specs.Serial.{last_write}
use Rattle.tx_sets.specs.declared.seen.Seen.{Seen}
use Rattle.engine_pages.specs.declared.view.RefusalCause.{RefusalCause}
use Rattle.engine_pages.specs.declared.view.RefusalCause.TheVariants as causes
use Rattle.engine_pages.specs.declared.view.View.{View}
use Rattle.engine_pages.specs.Layout.{words_of}
use Rattle.engine_pages.specs.Pointers.{IsArrayPointerAt, StandsFor}
use Rattle.engine_pages.specs.Records.{IsRecordAt}
use Rattle.engine_pages.specs.Steps.{kept_at, seen_at}
use Rattle.engine_pages.specs.Words.{IsSmall}
use Rattle.dual_pointer.specs.Parts.{content_below, IsPointerPart}
use Rattle.array_pages.specs.declared.finding.Found.{Found}
use Rattle.array_pages.specs.declared.finding.Found.TheVariants as places
use Rattle.array_pages.specs.declared.walk.Reached.{Reached}
use Rattle.array_pages.specs.declared.walk.Reached.TheVariants as ends
use Rattle.array_pages.specs.Walks.{IsPointersWord, IsWayPlace, IsWide, IsPointerChanged, KeepsWords, MeetsSo}
use Rattle.array_pages.specs.Walks.{OnlyMet, SawLast}

-- ---- one pointer down

-- The pages in memory end at the pointer, which leads to no slot: it is kept as a part, the one of its word, which
-- vouches for each key of its span with what the published pages have there: the last decided writes.
pub record LeavesMemory (place : At) (span : Span) (at n : ℕ) (v w : View) : Type 0 where
  pub bare : n < 2 ^ 32
  pub met : seen_at w.reads at ≡ Some n
  pub there : n ≤ length w.pages
  pub room : length w.pages ≤ w.layout.resident
  pub most : length w.pages ≤ 65536
  pub stands : 0 < n → StandsFor w.layout.decls w.pages span n
  pub part : Part
  pub of : IsPointerPart w place span n part
  pub kept : w.seat.kept ≡ with_part v.seat.kept part
  pub word_kept : kept_at w.reads at ≡ Some n
  pub words : (a : ℕ) → a ≢ at → kept_at w.reads a ≡ kept_at v.reads a
  pub inside : (k : Key) → covers part k ≡ true → in_span span k ≡ true
  pub covered : (k : Key) → in_span span k ≡ true → covers part k ≡ true
  pub has : (k : Key) → in_span span k ≡ true → found part k ≡ content_below w.pages span n k
  pub last : Vouches (last_write v.layout.opening w.history w.decided) part

-- Where a pointer over these keys leads: to a slot, which is held and over these keys, and nothing is kept; or to none.
abbrev pub HasReached : List Seen → Reached → At → Span → ℕ → View → View → Type 0
HasReached pointers (ends.Slot t) place span at v w =
    Contains w.ways (record { slot = t; span = span }) × (t < w.layout.slots) × (w.seat.kept ≡ v.seat.kept)
    × KeepsWords v w
HasReached pointers (ends.Page n) place span at v w = LeavesMemory place span at n v w × MeetsSo pointers at n

-- pages were loaded, and nothing else of the pass has changed
pub record HasGlanced (v w : View) : Type 0 where
  pub since : v.steps ≤ w.steps
  pub is : w ≡ record v { steps = w.steps; last = w.last }

-- ---- the record

-- A record has this word, unlocked, where this stands at its key. One that was never written has number 0:0.
pub record IsWordFor (c : Content) (word : ℕ) : Type 0 where
  pub small : IsSmall c.number
  pub number : number_word c.number ≡ word
  pub never : c.value ≡ None → c.number ≡ opening_number

-- The record stands in a page that the pass holds, whose word is here. The word and the value of one content were
-- loaded, the value between two loads of the word; the content was the last decided write of the key at the first of
-- them, or what stood there at first, and is kept as the part of this record. No other words were met but those of
-- pointers, and of those none more is kept as a part.
pub record IsFoundIn (k : Key) (at word value : ℕ) (v w : View) : Type 0 where
  pub spot : Spot
  pub place : IsRecordAt w k spot at
  pub index : spot.index ≡ k.key % array_leaf.room
  pub content : Content
  pub shown : IsWordFor content word
  pub has : value ≡ unwrap_or content.value 0
  pub last : content ≡ last_write v.layout.opening w.history w.decided k
  pub kept : w.seat.kept ≡ with_part v.seat.kept (record_part k spot content)
  pub met : seen_at w.reads at ≡ Some word
  pub others : (a : ℕ) → a ≢ at → a ≢ at + 1 → (seen_at w.reads a ≡ seen_at v.reads a) ⊎ IsPointersWord w a
  pub words : KeepsWords v w

-- The pages in memory end at this pointer, on the way to the key. It is kept as the one part of its word, which vouches
-- for just the keys of the pointer, with what is found below its page, and for this content of the key, whose value is
-- that of the last decided write, or what stood there at first. The pointer is in the set with this word, or there is
-- room for it. No words were met but those of pointers, and of those no other one is newly kept as a part.
pub record IsFoundBelow (k : Key) (c : Content) (pointers : List Seen) (p : Seen) (v w : View) : Type 0 where
  pub place : At
  pub span : Span
  pub is : IsArrayPointerAt w place span p.at
  pub within : p.at < words_of w.layout
  pub over : in_span span k ≡ true
  pub on : IsWayPlace w.layout k p.at
  pub bare : p.word < 2 ^ 32
  pub part : Part
  pub of : IsPointerPart w place span p.word part
  pub kept : w.seat.kept ≡ with_part v.seat.kept part
  pub word_kept : kept_at w.reads p.at ≡ Some p.word
  pub words : (a : ℕ) → a ≢ p.at → kept_at w.reads a ≡ kept_at v.reads a
  pub inside : (q : Key) → covers part q ≡ true → in_span span q ≡ true
  pub covers_all : (q : Key) → in_span span q ≡ true → covers part q ≡ true
  pub says : (q : Key) → in_span span q ≡ true → found part q ≡ content_below w.pages span p.word q
  pub stands : 0 < p.word → StandsFor w.layout.decls w.pages span p.word
  pub covered : covers part k ≡ true
  pub has : found part k ≡ c
  pub last : c.value ≡ (last_write v.layout.opening w.history w.decided k).value
  pub saw : seen_at w.reads p.at ≡ Some p.word
  pub met : MeetsSo pointers p.at p.word
  pub others : OnlyMet v w

-- where the key's record is
abbrev pub IsFound : Key → List Seen → Found → View → View → Type 0
IsFound k pointers (places.Volatile at word value) v w = IsFoundIn k at word value v w
IsFound k pointers (places.Snapshot value number p) v w =
    IsFoundBelow k (record { number = number_in number; value = Some value }) pointers p v w
IsFound k pointers (places.Zero p) v w = IsFoundBelow k nothing pointers p v w

-- what a number's word and a value come to, found below this pointer
abbrev pub IsContentBelow : Seen → ℕ → ℕ → Found → Type 0
IsContentBelow p number value (places.Volatile at word loaded) = ⊥
IsContentBelow p number value (places.Snapshot loaded word pointer) =
    (pointer ≡ p) × (array_found number value ≡ Some (record { number = word; value = loaded }))
IsContentBelow p number value (places.Zero pointer) = (pointer ≡ p) × (array_found number value ≡ None)

-- ---- refusals

-- The first load of the record's word found it locked, and that word is told as the expected one, too; what the
-- transaction had seen of it before is what it had as the call began. A caller looks for no record that it has met:
-- then the expected word is as everywhere what was seen before, if anything was (`locked_known`).
pub record IsLocked (at expected seen : ℕ) (was : Option ℕ) (v : View) : Type 0 where
  pub locked : 2 ^ 60 ≤ seen
  pub same : expected ≡ seen
  pub before : was ≡ seen_at v.reads at

-- where the record was not met before, the expected word is what was seen of it before, if anything was
pub locked_known : (at expected seen : ℕ) (was : Option ℕ) (v : View) → IsLocked at expected seen was v
    → seen_at v.reads at ≡ None → expected ≡ unwrap_or was seen
locked_known at expected seen was v l unmet =
    l.same ∙ sym (ap (λ (o : Option ℕ). unwrap_or o seen) (l.before ∙ unmet))

-- The first load found the word unlocked, and the second one, behind that of the value, found another word.
pub record HasChanged (expected seen : ℕ) (was : Option ℕ) : Type 0 where
  pub first : was ≡ Some expected
  pub open_before : expected < 2 ^ 60
  pub other : seen ≢ expected

-- The word is that of the key's record, in a page that the pass holds: so many records behind the first one of its
-- leaf.
pub record IsRecordChanged (k : Key) (at expected seen : ℕ) (v w : View) : Type 0 where
  pub spot : Spot
  pub place : IsRecordAt w k spot at
  pub index : spot.index ≡ k.key % array_leaf.room
  pub was : Option ℕ
  pub saw : SawLast at seen was v w
  pub cause : IsLocked at expected seen was v ⊎ HasChanged expected seen was

-- A key's record wasn't found: a pointer or the record was in conflict, or a set was full.
abbrev pub RefusesFind : Key → List Seen → List ℕ → RefusalCause → View → View → Type 0
RefusesFind k pointers slots (causes.Conflict at expected seen) v w =
    IsPointerChanged k pointers at expected seen v w ⊎ IsRecordChanged k at expected seen v w
RefusesFind k pointers slots (causes.Full held) v w = ⊥
RefusesFind k pointers slots (causes.Wide set) v w = IsWide k pointers slots set v w
RefusesFind k pointers slots (causes.NumberLimit clock) v w = ⊥
