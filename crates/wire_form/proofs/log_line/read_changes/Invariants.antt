use Rattle.std.proofs.Common.{◌≡◌, ◌-◌, ◌*◌, length}
use Rattle.serial_model.specs.Keys.{IsKeyBelow}
use Rattle.wire_form.specs.LogLine.{IsChange, change_bytes, key_of}
use Rattle.wire_form.proofs.ItemLemmas.{Takes}
use Rattle.wire_form.proofs.log_line.read_changes.Given as goal

-- the changes so far were read from the front
abbrev pub invariant-loop : goal.invariant-loop
invariant-loop l = record {
  taken : Takes IsChange change_bytes key_of IsKeyBelow l.bytes l.changes l.last l.rest;
  left : length l.rest ≡ 24 * (l.count - l.counter);
  so_many : length l.changes ≡ l.counter;
}
