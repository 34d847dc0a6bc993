-- Each end of a line leaves its outcome, and the log what it changed.
use Rattle.std.proofs.Common.{◌∙◌, ◌++◌, ◌∷◌, [], sym, subst, ap, arith, length}
use Rattle.serial_model.specs.ReplyWords.{AreReplyWords, are_words, replies_of, replies_of-words}
use Rattle.engine_pages.specs.Passes.{view}
use Rattle.tx_script.specs.declared.outcome.Outcome.TheVariants.{Committed}
use Rattle.tx_script.specs.Room.{RoomState}
use Rattle.worker_cells.proofs.Ends.{committed_logs, conflict_logs, full_logs, kept_one, limit_logs, wide_logs}
use Rattle.worker_cells.proofs.Ends.{loggable, replies_few}
use Rattle.worker_cells.proofs.Replies.{words_most}
use Rattle.worker_cells.proofs.lines.run_logged.Goals as goal

pub log_commit-requires-clause-loggable : goal.log_commit-requires-clause-loggable
log_commit-requires-clause-loggable g c =
    loggable c.args.cell.now.log.mark c.requires.draws c.requires.marked c.in-Committed.ensures.runs

pub push_words-requires-clause-are : goal.push_words-requires-clause-are
push_words-requires-clause-are g c = subst AreReplyWords (sym c.words.ensures) (are_words c.run_line.new.room.replies)

pub push_words-requires-clause-few : goal.push_words-requires-clause-few
push_words-requires-clause-few g c =
    let few = replies_few c.in-Committed.ensures.runs in
    let most = words_most c.args.ops.now c.requires.few in
    omega (arith, few, most, ap length c.words.ensures)

pub push_words-requires-clause-space : goal.push_words-requires-clause-space
push_words-requires-clause-space g c =
    let few = replies_few c.in-Committed.ensures.runs in
    omega (arith, few, c.requires.space, ap length c.words.ensures)

pub returns-in-Committed-clause-space : goal.returns-in-Committed-clause-space
returns-in-Committed-clause-space g c =
    let few = replies_few c.in-Committed.ensures.runs in
    omega (
      arith,
      few,
      c.requires.space,
      ap length c.words.ensures,
      ap (λ (r : RoomState). r.space) c.push_words.ensures,
    )

pub returns-in-Committed-clause-runs : goal.returns-in-Committed-clause-runs
returns-in-Committed-clause-runs g c =
    kept_one (committed_logs c.args.tries c.args.ops.now c.in-Committed.verdict c.run_line.new.room.replies
    c.run_line.new.room.commit (view c.args.cell.now.pass) (view c.run_line.new.pass) c.args.cell.now.log
    c.log_commit.new.log c.in-Committed.ensures.runs c.log_commit.ensures.takes c.log_commit.ensures.line)
    (ap (λ (r : RoomState). r.told) c.push_words.ensures
    ∙ ap (λ rs. c.args.cell.now.outcomes.told
    ++ Committed c.in-Committed.verdict c.run_line.new.room.commit.number rs ∷ [])
    (ap replies_of c.words.ensures ∙ replies_of-words c.run_line.new.room.replies))

pub returns-in-Conflict-clause-runs : goal.returns-in-Conflict-clause-runs
returns-in-Conflict-clause-runs g c =
    kept_one (conflict_logs c.args.tries c.args.ops.now (view c.args.cell.now.pass) (view c.run_line.new.pass)
    c.args.cell.now.log c.in-Conflict.ensures.runs) (ap (λ (r : RoomState). r.told) c.push_refused.ensures)

pub returns-in-Full-clause-runs : goal.returns-in-Full-clause-runs
returns-in-Full-clause-runs g c =
    kept_one (full_logs c.args.tries c.args.ops.now (view c.args.cell.now.pass) (view c.run_line.new.pass)
    c.args.cell.now.log c.in-Full.ensures.runs) (ap (λ (r : RoomState). r.told) c.push_refused-in-Full.ensures)

pub returns-in-Wide-clause-runs : goal.returns-in-Wide-clause-runs
returns-in-Wide-clause-runs g c =
    kept_one (wide_logs c.args.tries c.args.ops.now (view c.args.cell.now.pass) (view c.run_line.new.pass)
    c.args.cell.now.log c.in-Wide.ensures.runs) (ap (λ (r : RoomState). r.told) c.push_refused-in-Wide.ensures)

pub returns-in-Limit-clause-runs : goal.returns-in-Limit-clause-runs
returns-in-Limit-clause-runs g c =
    kept_one (limit_logs c.args.tries c.args.ops.now (view c.args.cell.now.pass) (view c.run_line.new.pass)
    c.args.cell.now.log c.in-Limit.ensures.runs) (ap (λ (r : RoomState). r.told) c.push_refused-in-Limit.ensures)

pub returns-in-Conflict-clause-space : goal.returns-in-Conflict-clause-space
returns-in-Conflict-clause-space g c = omega (arith, ap (λ (r : RoomState). r.space) c.push_refused.ensures)

pub returns-in-Full-clause-space : goal.returns-in-Full-clause-space
returns-in-Full-clause-space g c = omega (arith, ap (λ (r : RoomState). r.space) c.push_refused-in-Full.ensures)

pub returns-in-Wide-clause-space : goal.returns-in-Wide-clause-space
returns-in-Wide-clause-space g c = omega (arith, ap (λ (r : RoomState). r.space) c.push_refused-in-Wide.ensures)

pub returns-in-Limit-clause-space : goal.returns-in-Limit-clause-space
returns-in-Limit-clause-space g c = omega (arith, ap (λ (r : RoomState). r.space) c.push_refused-in-Limit.ensures)
