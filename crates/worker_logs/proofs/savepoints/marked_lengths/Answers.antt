use Rattle.std.proofs.Common.{[], arith}
use Rattle.worker_logs.proofs.Lengths.{lengths_end, lengths_from}
use Rattle.worker_logs.proofs.savepoints.marked_lengths.Goals as goal

pub returns-clause-lengths : goal.returns-clause-lengths
returns-clause-lengths c =
    let logs = c.args.logs.now in
    let eight = c.requires.logs in
    lengths_from logs 0 c.index-logs-0.result c.mark.result _ (omega (arith, eight)) c.index-logs-0.is
    c.mark.ensures.mark
    (lengths_from logs 1 c.index-logs-1.result c.mark-2.result _ (omega (arith, eight)) c.index-logs-1.is
    c.mark-2.ensures.mark
    (lengths_from logs 2 c.index-logs-2.result c.mark-3.result _ (omega (arith, eight)) c.index-logs-2.is
    c.mark-3.ensures.mark
    (lengths_from logs 3 c.index-logs-3.result c.mark-4.result _ (omega (arith, eight)) c.index-logs-3.is
    c.mark-4.ensures.mark
    (lengths_from logs 4 c.index-logs-4.result c.mark-5.result _ (omega (arith, eight)) c.index-logs-4.is
    c.mark-5.ensures.mark
    (lengths_from logs 5 c.index-logs-5.result c.mark-6.result _ (omega (arith, eight)) c.index-logs-5.is
    c.mark-6.ensures.mark
    (lengths_from logs 6 c.index-logs-6.result c.mark-7.result _ (omega (arith, eight)) c.index-logs-6.is
    c.mark-7.ensures.mark
    (lengths_from logs 7 c.index-logs-7.result c.mark-8.result [] (omega (arith, eight)) c.index-logs-7.is
    c.mark-8.ensures.mark (lengths_end logs eight))))))))
