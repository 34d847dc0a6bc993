use Rattle.std.proofs.Common.{◌≡◌, ◌++◌, ◌≤◌, length}
use Rattle.std.specs.declared.ops.Bound.TheVariants.{Included}
use Rattle.std.specs.BTreeMap.Range.{entries_between}
use Rattle.serial_model.specs.Keys.{key_cmp}
use Rattle.serial_model.proofs.Scan.{rows_in, key_at}
use Rattle.serial_model.proofs.state.first_rows.Given as goal

-- the rows so far and those of the entries that are left are those of the range
abbrev pub invariant-loop-key : goal.invariant-loop-key
invariant-loop-key l = record {
  told : l.rows ++ rows_in l.gone.keys l.key-iterator
      ≡ rows_in l.gone.keys (entries_between key_cmp (Included (key_at l.storage l.low)) (Included (key_at l.storage l.high)) l.map.entries);
  few : length l.rows ≤ 16;
}
