use Rattle.std.proofs.Common.{◌+◌, [], ◌∷◌, ◌++◌, map, ap, ◌∙◌, arith}
use Rattle.std.proofs.lemmas.List.{map_push}
use Rattle.script_grammar.specs.FlatOps.{op_of}
use Rattle.script_grammar.proofs.FrontOps.{none_before, added_push, ops_more, ops_end, byte_there, bytes_there}
use Rattle.script_grammar.proofs.front_op.ops_from.Goals as goal

pub loop-count-init : goal.loop-count-init
loop-count-init c = record {
  before = none_before c.args.bytes.now c.args.start c.args.storages.now (map op_of c.args.list.now.items);
  room = omega (arith, c.requires.room);
  near = omega arith;
}

pub returns-then-byte-eq10 : goal.returns-then-byte-eq10
returns-then-byte-eq10 c =
    let near = c.loop-count.invariant.near in
    let op_near = c.in_ok-op.ensures.near in
    let end = c.in_ok-op.end in
    ops_end c.args.bytes.now c.args.start c.args.storages.now (map op_of c.args.list.now.items) (map op_of c.loop-count.list.items) (map op_of c.push_reserved.new.self.items) c.loop-count.count c.loop-count.at
    (op_of c.in_ok-op.op) end c.loop-count.invariant.before c.in_ok-op.ensures
    (ap (map op_of) c.push_reserved.ensures.items ∙ map_push op_of c.loop-count.list.items c.in_ok-op.op) c.loop-count-test.true (omega arith)
    (byte_there c.args.bytes.now end 10 (omega arith) c.if-byte-eq10.true)

pub returns-then-byte-ne59 : goal.returns-then-byte-ne59
returns-then-byte-ne59 c =
    let before = c.loop-count.invariant.before in (
      before.ops ++ op_of c.in_ok-op.op ∷ [],
      added_push (map op_of c.args.list.now.items) (map op_of c.loop-count.list.items) (map op_of c.push_reserved.new.self.items) before.ops (op_of c.in_ok-op.op) before.added
          (ap (map op_of) c.push_reserved.ensures.items ∙ map_push op_of c.loop-count.list.items c.in_ok-op.op),
    )

pub loop-count-preserved : goal.loop-count-preserved
loop-count-preserved c =
    let near = c.loop-count.invariant.near in
    let op_near = c.in_ok-op.ensures.near in
    let end = c.in_ok-op.end in
    record {
      before = ops_more c.args.bytes.now c.args.start c.args.storages.now (map op_of c.args.list.now.items) (map op_of c.loop-count.list.items) (map op_of c.push_reserved.new.self.items) c.loop-count.count
          c.loop-count.at (op_of c.in_ok-op.op) end (end + 2) c.loop-count.invariant.before c.in_ok-op.ensures
          (ap (map op_of) c.push_reserved.ensures.items ∙ map_push op_of c.loop-count.list.items c.in_ok-op.op)
          (bytes_there c.args.bytes.now end 59 32 (omega arith) c.if-byte-ne59.false c.if-bytes-end-ne32.false);
      room = omega (arith, c.loop-count.invariant.room, c.push_reserved.ensures.len, c.push_reserved.ensures.capacity);
      near = omega arith;
    }
