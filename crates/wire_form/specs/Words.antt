-- The words. Each is the sum of its fields, every field times two to the power of the bit at which it begins; a bit
-- that no field has is zero, since nothing is added there.
use Rattle.std.specs.Prelude.{◌≡◌, ◌⊎◌, ℕ, ◌+◌, ◌*◌, ◌/◌, ◌%◌, ◌^◌, ◌<◌, ◌≤◌, Bool, true, false, Option, Some, None, IfSome}
use Rattle.serial_model.specs.declared.number.Number.{Number}
use Rattle.serial_model.specs.Numbers.{IsNumber, last_epoch}
use Rattle.wire_form.specs.Leaves.{LeafForm, tree_leaf, tree_fan}
use Rattle.wire_form.specs.declared.clock.Clock.{Clock}
use Rattle.wire_form.specs.declared.clock.Mark.{Mark}
use Rattle.wire_form.specs.declared.record_word.RecordWord.{RecordWord}
use Rattle.wire_form.specs.declared.page_words.Header.{Header}
use Rattle.wire_form.specs.declared.page_words.Pair.{Pair}
use Rattle.wire_form.specs.declared.page_words.SlotWord.{SlotWord}
use Rattle.wire_form.specs.declared.page_words.SlotState.{SlotState}
use Rattle.wire_form.specs.declared.page_words.SlotState.TheVariants.{Free, Owned, Published, Retired}

-- a field that begins at a bit
abbrev pub at_bit : ℕ → ℕ → ℕ
at_bit from field = field * 2 ^ from

-- a flag as a field of one bit
abbrev pub flag : Bool → ℕ
flag true = 1
flag false = 0

-- ---- clock and mark

-- the draws and the epoch fit their fields
pub record IsClock (c : Clock) : Type 0 where
  pub draws : c.draws < 2 ^ 40
  pub epoch : c.epoch < 2 ^ 20

-- the word of the clock
abbrev pub clock_word : Clock → ℕ
clock_word c = at_bit 0 c.draws + at_bit 40 c.epoch

-- the length fits its field, and the epoch is at most the last
pub record IsMark (m : Mark) : Type 0 where
  pub length : m.length < 2 ^ 40
  pub epoch : IfSome m.epoch (λ e. e ≤ last_epoch)

-- the field behind the last epoch says idle
abbrev pub mark_epoch : Option ℕ → ℕ
mark_epoch None = last_epoch + 1
mark_epoch (Some e) = e

-- the word of a mark
abbrev pub mark_word : Mark → ℕ
mark_word m = at_bit 0 m.length + at_bit 40 (mark_epoch m.epoch)

-- ---- numbers and records

-- the word of a commit's number, which is the clock word that its draw found
abbrev pub number_word : Number → ℕ
number_word n = at_bit 0 n.draw + at_bit 40 n.epoch

-- what a word has in the fields of a number
abbrev pub number_in : ℕ → Number
number_in word = record { epoch = word / 2 ^ 40; draw = word % 2 ^ 40 }

-- no number is 0
abbrev pub number_field : Option Number → ℕ
number_field None = 0
number_field (Some n) = number_word n

-- the number is one, if there is any
pub record IsRecord (r : RecordWord) : Type 0 where
  pub number : IfSome r.number IsNumber

-- the word of a record: its number, whether it is locked, and whether it is absent
abbrev pub record_word : RecordWord → ℕ
record_word r = number_field r.number + at_bit 60 (flag r.lock) + at_bit 61 (flag r.absent)

-- the absent bit of a record with this value: where no keys stand, a record is never absent
abbrev pub absent_field : LeafForm → Option ℕ → ℕ
absent_field f None = f.keys * at_bit 61 1
absent_field f (Some v) = 0

-- ---- the words of tree pages, pointers and slots

-- a leaf with records that it has room for
abbrev pub IsLeafHeader : Header → Type 0
IsLeafHeader h = (h.kind ≡ 1) × (h.count ≤ tree_leaf.room)

-- an interior page of 2 to 30 children, which is never moved
abbrev pub IsInnerHeader : Header → Type 0
IsInnerHeader h = (h.kind ≡ 2) × (2 ≤ h.count) × (h.count ≤ tree_fan) × (h.moved ≡ false)

-- the header of a leaf, or of an interior page
pub record IsHeader (h : Header) : Type 0 where
  pub kinds : IsLeafHeader h ⊎ IsInnerHeader h

-- the word of a header
abbrev pub header_word : Header → ℕ
header_word h = at_bit 0 h.count + at_bit 8 h.kind + at_bit 60 (flag h.lock) + at_bit 62 (flag h.moved)

-- the page number is at most 65,536, and the slot one of 4,096
pub record IsPair (p : Pair) : Type 0 where
  pub page : p.page ≤ 65536
  pub slot : IfSome p.slot (λ s. s < 4096)

-- a slot's number plus 1, or 0 for none
abbrev pub slot_field : Option ℕ → ℕ
slot_field None = 0
slot_field (Some s) = s + 1

-- the word of a pointer
abbrev pub pair_word : Pair → ℕ
pair_word p = at_bit 0 p.page + at_bit 32 (slot_field p.slot) + at_bit 60 (flag p.shut)

-- the field of a slot's state
abbrev pub state_field : SlotState → ℕ
state_field Free = 0
state_field Owned = 1
state_field Published = 2
state_field Retired = 3

-- the counts fit their fields
pub record IsSlot (s : SlotWord) : Type 0 where
  pub passes : s.passes < 2 ^ 16
  pub times : s.times < 2 ^ 46

-- the word of a slot
abbrev pub slot_word : SlotWord → ℕ
slot_word s = at_bit 0 s.passes + at_bit 16 (state_field s.state) + at_bit 18 s.times
