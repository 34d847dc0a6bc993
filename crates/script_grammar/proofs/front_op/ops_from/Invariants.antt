use Rattle.std.proofs.Common.{◌+◌, ◌*◌, ◌≤◌, map}
use Rattle.std.specs.Prelude.{vec_len, vec_capacity}
use Rattle.script_grammar.specs.FlatOps.{op_of}
use Rattle.script_grammar.proofs.FrontOps.{AreOpsBefore}
use Rattle.script_grammar.proofs.front_op.ops_from.Given as goal

abbrev pub invariant-loop-count : goal.invariant-loop-count
invariant-loop-count l = record {
  before : AreOpsBefore l.bytes l.start l.storages (map op_of l.fn.list.items) (map op_of l.list.items) l.count l.at;
  room : vec_len l.list + 16 ≤ vec_capacity l.list + l.count;
  near : l.at ≤ l.start + 63 * l.count;
}
