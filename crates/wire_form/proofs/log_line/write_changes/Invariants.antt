use Rattle.std.proofs.Common.{◌≡◌, ◌*◌, ◌++◌, take, drop}
use Rattle.std.specs.List.{flat_map, AllByRecursion}
use Rattle.wire_form.specs.LogLine.{IsChange, change_bytes}
use Rattle.wire_form.proofs.log_line.write_changes.Given as goal

-- the changes so far stand in the first bytes, and the others are as they were
abbrev pub invariant-loop-i : goal.invariant-loop-i
invariant-loop-i l = record {
  written : l.to ≡ flat_map change_bytes (take l.i l.changes) ++ drop (24 * l.i) l.initial.to;
  fits : AllByRecursion IsChange (take l.i l.changes);
}
