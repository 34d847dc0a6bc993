-- What came of a line, and what its log got.
use Rattle.std.proofs.Common.{◌≡◌, ◌∙◌, ◌++◌, ◌≤◌, ◌<◌, ◌*◌, ◌-◌, ◌∷◌, refl, sym, ap, subst, ℕ, List, [], length, arith}
use Rattle.std.proofs.Common.{None}
use Rattle.std.specs.Prelude.{option_to_list}
use Rattle.std.specs.List.{AllByRecursion}
use Rattle.serial_model.specs.declared.number.Change.{Change}
use Rattle.serial_model.specs.declared.number.Commit.{Commit}
use Rattle.serial_model.specs.declared.op.Op.{Op}
use Rattle.serial_model.specs.declared.reply.Reply.{Reply}
use Rattle.serial_model.specs.declared.reply.Verdict.{Verdict}
use Rattle.serial_model.specs.declared.decl.Decl.{Decl}
use Rattle.serial_model.specs.History.{Entry}
use Rattle.serial_model.specs.ReplyWords.{replies_words}
use Rattle.wire_form.specs.LogFile.{IsChangeOf, IsLineOf}
use Rattle.wire_form.specs.LogLine.{IsLogLine, IsLoggable}
use Rattle.serial_bridge.specs.WriteSets.{EachCounts}
use Rattle.engine_pages.specs.declared.view.View.{View}
use Rattle.tx_runner.specs.LineEnds.{HasCommittedLine}
use Rattle.tx_runner.specs.LineWrites.{rising_counts}
use Rattle.tx_runner.specs.Lines.{IsAnswered}
use Rattle.tx_runner.specs.Tries.{HasConflicted, IsAtLimit, IsFullAt, IsWideAt, ToClock, ToSet, ToSlots}
use Rattle.tx_script.specs.Room.{most_words}
use Rattle.tx_script.specs.declared.outcome.Outcome.{Outcome}
use Rattle.tx_script.specs.declared.outcome.Outcome.TheVariants.{Committed, Conflict, Full, Limit, Wide}
use Rattle.worker_logs.specs.Logs.{LogState}
use Rattle.worker_logs.specs.Rows.{TakesCommit}
use Rattle.worker_cells.specs.Cells.{IsMarkedBelow, LogsLine, RunsOne}
use Rattle.worker_cells.specs.Rows.{logged_by}
use Rattle.worker_cells.proofs.Over.{mark_found}
use Rattle.worker_cells.proofs.Placed.{attempt_of}
use Rattle.worker_cells.proofs.Replies.{runs_few}
use Rattle.wire_form.specs.declared.clock.Mark.{Mark}

-- the entry of a committed line
abbrev entry : List Op → Verdict → List Reply → Commit → Entry
entry ops verdict replies commit = record {
  round = 0;
  worker = 0;
  line = 0;
  ops = ops;
  verdict = verdict;
  number = commit.number;
  replies = replies;
}

-- it is answered so
answered : (ops : List Op) (verdict : Verdict) (replies : List Reply) (commit : Commit)
    → IsAnswered ops verdict commit.number replies (entry ops verdict replies commit)
answered ops verdict replies commit = record { ops = refl; verdict = refl; number = refl; replies = refl }

module _ {ops : List Op} {tries : ℕ} {verdict : Verdict} {replies : List Reply} {commit : Commit} {v w : View} where
  -- its changes are of the declared storages
  pub changes_of : HasCommittedLine ops tries verdict replies commit v w
      → AllByRecursion (IsChangeOf v.layout.decls) commit.changes
  changes_of line =
      let counts : EachCounts commit.changes = rising_counts commit.changes line.rising in
      subst (AllByRecursion (IsChangeOf v.layout.decls)) line.writes
      (attempt_of v.layout.decls (entry ops verdict replies commit) line.attempt
      (line.of (entry ops verdict replies commit) (answered ops verdict replies commit))
      (subst EachCounts (sym line.writes) counts))

  -- its replies take no more words than its operations may
  pub replies_few : HasCommittedLine ops tries verdict replies commit v w
      → length (replies_words replies) ≤ most_words ops
  replies_few line =
      let is = line.of (entry ops verdict replies commit) (answered ops verdict replies commit) in
      runs_few v.layout.decls line.attempt.parts ops [] _ is.runs

  -- it has a log line where it changed something
  pub loggable : (mark : Mark) → 1 ≤ v.layout.first.draw → IsMarkedBelow mark v
      → HasCommittedLine ops tries verdict replies commit v w → 1 ≤ length commit.changes → IsLoggable commit
  loggable mark draws marked line some =
      let above : v.epoch - 1 < commit.number.epoch = line.marked (v.epoch - 1) (mark_found mark v marked) in
      record {
        number = record {
          some_epoch = omega (arith, above);
          most_epoch = line.small.epoch;
          some_draw = omega (arith, line.draw, draws);
          most_draw = line.small.draw;
        };
        some = some;
        most = line.most;
        rising = line.rising;
      }

-- the line that is logged is of the storages
line_of : (decls : List Decl) (commit : Commit) (changes : List Change)
    → AllByRecursion (IsChangeOf decls) commit.changes
    → AllByRecursion IsLogLine (option_to_list (logged_by commit changes))
    → AllByRecursion (IsLineOf decls) (option_to_list (logged_by commit changes))
line_of decls commit [] of line = tt
line_of decls commit (first ∷ more) of line = (record { line = line.0; each = of }, tt)

-- ---- what a line leaves of its log

-- a line with this outcome was run, and its log got what it changed
abbrev pub LogsAs : Outcome → ℕ → List Op → View → View → LogState → LogState → Type 0
LogsAs outcome tries ops v w old new = (logs : LogsLine tries ops v w old new) × (logs.outcome ≡ outcome)

pub committed_logs : (tries : ℕ) (ops : List Op) (verdict : Verdict) (replies : List Reply) (commit : Commit)
    (v w : View) (old new : LogState)
    → HasCommittedLine ops tries verdict replies commit v w
    → TakesCommit (logged_by commit commit.changes) old new
    → AllByRecursion IsLogLine (option_to_list (logged_by commit commit.changes))
    → LogsAs (Committed verdict commit.number replies) tries ops v w old new
committed_logs tries ops verdict replies commit v w old new line takes logged = (
  record {
    outcome = Committed verdict commit.number replies;
    refused = line.losts;
    logged = logged_by commit commit.changes;
    comes = (commit, refl, refl, line, refl);
    line = line_of v.layout.decls commit commit.changes (changes_of line) logged;
    takes = takes;
  },
  refl,
)

pub conflict_logs : (tries : ℕ) (ops : List Op) (v w : View) (log : LogState) → HasConflicted ops tries v w
    → LogsAs Conflict tries ops v w log log
conflict_logs tries ops v w log line = (
  record {
    outcome = Conflict;
    refused = line.losts;
    logged = None;
    comes = (refl, line, refl);
    line = tt;
    takes = refl;
  },
  refl,
)

pub full_logs : (tries : ℕ) (ops : List Op) (v w : View) (log : LogState) → IsFullAt ops tries v w
    → LogsAs Full tries ops v w log log
full_logs tries ops v w log line = (
  record {
    outcome = Full;
    refused = line.refused.losts ++ ToSlots line.words ∷ [];
    logged = None;
    comes = (refl, line, refl);
    line = tt;
    takes = refl;
  },
  refl,
)

pub wide_logs : (tries : ℕ) (ops : List Op) (v w : View) (log : LogState) → IsWideAt ops tries v w
    → LogsAs Wide tries ops v w log log
wide_logs tries ops v w log line = (
  record {
    outcome = Wide;
    refused = line.refused.losts ++ ToSet line.set ∷ [];
    logged = None;
    comes = (refl, line, refl);
    line = tt;
    takes = refl;
  },
  refl,
)

pub limit_logs : (tries : ℕ) (ops : List Op) (v w : View) (log : LogState) → IsAtLimit ops tries v w
    → LogsAs Limit tries ops v w log log
limit_logs tries ops v w log line = (
  record {
    outcome = Limit;
    refused = line.refused.losts ++ ToClock line.clock ∷ [];
    logged = None;
    comes = (refl, line, refl);
    line = tt;
    takes = refl;
  },
  refl,
)

-- and its outcome was kept
pub kept_one : {outcome : Outcome} {tries : ℕ} {ops : List Op} {was told : List Outcome} {v w : View}
    {old new : LogState} → LogsAs outcome tries ops v w old new → told ≡ was ++ outcome ∷ []
    → RunsOne tries ops was told v w old new
kept_one {was = was} one told = record {
  logs = one.0;
  told_is = told ∙ ap (λ o. was ++ o ∷ []) (sym one.1);
}
