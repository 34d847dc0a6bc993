use Rattle.std.proofs.Common.{◌≡◌, ◌-◌, ◌*◌, List, Option, length}
use Rattle.wire_form.specs.declared.records.ArrayRecord.{ArrayRecord}
use Rattle.wire_form.specs.Items.{AnyOrder}
use Rattle.wire_form.specs.Pages.{IsArrayRecord, array_record_words}
use Rattle.wire_form.proofs.ItemLemmas.{Takes}
use Rattle.wire_form.proofs.leaf.are_array_records.Given as goal
use Rattle.wire_form.specs.Parts.{itself}

-- records were read from the front
abbrev pub invariant-loop : goal.invariant-loop
invariant-loop l = record {
  taken : (front : List ArrayRecord) × (last : Option ArrayRecord) × Takes IsArrayRecord array_record_words itself AnyOrder l.words front last l.rest;
  left : length l.rest ≡ 2 * (l.count - l.counter);
}
