use Rattle.std.proofs.Common.{◌≡◌, true, is_ok, rules}
use Rattle.outside.specs.Listed.{is_listed}
use Rattle.outside.proofs.Streams.{prefix_taken}
use Rattle.outside.proofs.memory_sink.MemSinkSink.write.Goals as goal

pub returns-then-contains-clause-prefix : goal.returns-then-contains-clause-prefix
returns-then-contains-clause-prefix c =
    prefix_taken (is_ok c.extend_from_slice.result) _ c.args.bytes.now c.args.self.now.bytes.items _ c.extend_from_slice.ensures.items

pub returns-then-contains-clause-refused : goal.returns-then-contains-clause-refused
returns-then-contains-clause-refused c = λ not.
    let listed : is_listed c.args.self.now.fails.items c.args.self.now.calls ≡ true = search rules in cc
