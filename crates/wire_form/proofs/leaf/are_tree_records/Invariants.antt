use Rattle.std.proofs.Common.{◌≡◌, ◌-◌, ◌*◌, ◌<◌, List, length}
use Rattle.wire_form.specs.declared.records.TreeRecord.{TreeRecord}
use Rattle.wire_form.specs.Pages.{IsTreeRecord, tree_record_words, record_key}
use Rattle.wire_form.proofs.ItemLemmas.{Takes}
use Rattle.wire_form.proofs.leaf.are_tree_records.Given as goal

-- records were read from the front
abbrev pub invariant-loop : goal.invariant-loop
invariant-loop l = record {
  taken : (front : List TreeRecord) × Takes (IsTreeRecord l.low l.high) tree_record_words record_key ◌<◌ l.words front l.last l.rest;
  left : length l.rest ≡ 3 * (l.count - l.counter);
}
