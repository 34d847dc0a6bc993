use Rattle.std.proofs.Common.{◌+◌, ◌<◌, ◌≤◌, length, drop}
use Rattle.script_grammar.specs.Front.{LeavesOthers}
use Rattle.script_grammar.proofs.reader.read_front.Given as goal

abbrev pub invariant-loop-count : goal.invariant-loop-count
invariant-loop-count l = record {
  leaves : LeavesOthers l.bytes (drop l.at l.bytes) l.fn.reader l.reader l.count;
  within : l.at ≤ length l.bytes;
  room : l.count < l.room → length l.reader.lines + l.room ≤ 65536 + l.count;
}
