use Rattle.engine_pages.specs.Passes.{view}
use Rattle.page_commit.specs.Committing.{kept_writes}
use Rattle.page_commit.proofs.CommitResults.{live_dropped, commits_kept, dropped_for, kept_steps, kept_most}
use Rattle.page_commit.proofs.txn.Txn.commit_number.Goals as goal

pub commit_all-requires-clause-live : goal.commit_all-requires-clause-live
commit_all-requires-clause-live c =
    live_dropped c.args.self.now.sets c.drop_writes.new.sets c.args.keep (view c.args.pass.now) c.requires.live
    c.drop_writes.ensures

pub returns-clause-commits : goal.returns-clause-commits
returns-clause-commits c =
    commits_kept c.commit_all.result c.drop_writes.new.sets.writes
    (kept_writes c.args.keep c.args.self.now.sets.writes) (view c.args.pass.now) (view c.commit_all.new.pass)
    c.drop_writes.ensures.writes c.commit_all.ensures.commits

pub returns-clause-cause : goal.returns-clause-cause
returns-clause-cause c =
    dropped_for c.commit_all.result c.args.self.now.sets c.drop_writes.new.sets
    (kept_writes c.args.keep c.args.self.now.sets.writes) (view c.args.pass.now) (view c.commit_all.new.pass)
    c.drop_writes.ensures.reads c.drop_writes.ensures.pointers c.drop_writes.ensures.headers c.drop_writes.ensures.writes
    c.commit_all.ensures.cause

pub returns-clause-steps : goal.returns-clause-steps
returns-clause-steps c =
    kept_steps c.commit_all.result c.args.keep c.args.self.now.sets c.drop_writes.new.sets (view c.args.pass.now)
    (view c.commit_all.new.pass) c.drop_writes.ensures c.commit_all.ensures.steps

pub returns-clause-most : goal.returns-clause-most
returns-clause-most c =
    kept_most c.commit_all.result c.args.keep c.args.self.now.sets c.drop_writes.new.sets (view c.args.pass.now)
    (view c.commit_all.new.pass) c.drop_writes.ensures c.commit_all.ensures.most
