use Rattle.std.proofs.Common.{◌≡◌, ◌∙◌, Some, length, ap, arith, rules}
use Rattle.log_writer.proofs.Flushes.{flushes_done, flushes_failed}
use Rattle.log_writer.proofs.journal.Journal.write_lines.Goals as goal

pub returns-in-Ok-clause-flushes : goal.returns-in-Ok-clause-flushes
returns-in-Ok-clause-flushes g c =
    let at : c.self.inside.durable ≡ c.args.self.now.durable = ap (λ j. j.durable) c.self.view_is in
    let lines : c.bytes.result.now ≡ c.args.self.now.lines = c.bytes.ensures ∙ ap (λ j. j.lines) c.self.view_is in
    let long : c.len.result ≡ length c.args.self.now.lines = c.len.ensures.len ∙ ap (λ j. length j.lines) c.self.view_is in
    flushes_done _ _ c.self.inside.durable c.bytes.result.now at lines c.requires.up (omega (arith, at, long)) c.clear.ensures
    (search (rules, c.in-Ok.ensures.cause.quiet)) c.requires.reaches g.met.D.Disk.reads c.in-Ok.ensures.written c.in-Ok.ensures.durable c.in-Ok.ensures.through

pub returns-in-Err-clause-flushes : goal.returns-in-Err-clause-flushes
returns-in-Err-clause-flushes g c =
    let at : c.self.inside.durable ≡ c.args.self.now.durable = ap (λ j. j.durable) c.self.view_is in
    let lines : c.bytes.result.now ≡ c.args.self.now.lines = c.bytes.ensures ∙ ap (λ j. j.lines) c.self.view_is in
    flushes_failed _ c.self.inside.durable c.bytes.result.now at lines c.requires.up
    (record { limit = ap (λ j. j.limit) c.self.view_is; durable = at; lines = ap (λ j. j.lines) c.self.view_is }) (ap Some c.faults.ensures)
    c.in-Err.ensures.cause.later c.in-Err.ensures.cause.failed c.requires.reaches c.in-Err.ensures.torn c.in-Err.ensures.through
