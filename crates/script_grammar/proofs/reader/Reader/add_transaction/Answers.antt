use Rattle.std.proofs.Common.{◌≡◌, false, true}
use Rattle.script_grammar.specs.Reading.{Parts, may_run}
use Rattle.script_grammar.proofs.Steps.{with_line-None, with_line-Some, may_run_at, few_ops}
use Rattle.script_grammar.proofs.reader.Reader.add_transaction.Goals as goal

pub returns-then-not-may_run-clause-read : goal.returns-then-not-may_run-clause-read
returns-then-not-may_run-clause-read c =
    let test : may_run c.args.self.now c.read_worker.new.ops ≡ false = cc in
    with_line-None c.args.self.now c.args.line.now c.in-Some.worker c.read_worker.new.ops c.requires c.in-Some.ensures test

pub push-requires : goal.push-requires
push-requires c = rw c.as_slice-2.ensures (few_ops c.args.line.now c.in-Some.worker c.read_worker.new.ops c.in-Some.ensures)

pub returns-clause-read : goal.returns-clause-read
returns-clause-read c =
    let p : Parts = record { decls = c.self.inside.decls; joined = c.self.inside.rounds.joined; lines = c.self.inside.rounds.rest } in
    let test : may_run p c.read_worker.new.ops ≡ true = may_run_at p c.may_run.result c.read_worker.new.ops c.as_slice.result.now c.may_run.ensures c.as_slice.ensures c.if-not-may_run.false in
    rw (c.in_ok-push.ensures.ok, c.as_slice-2.ensures, ← c.self.view_is) (with_line-Some p c.args.line.now c.in-Some.worker c.read_worker.new.ops c.requires c.in-Some.ensures test)
