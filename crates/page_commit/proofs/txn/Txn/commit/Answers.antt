use Rattle.std.proofs.Common.{List, sym, ap, ◌∙◌, subst}
use Rattle.serial_model.specs.declared.number.Change.{Change}
use Rattle.engine_pages.specs.Passes.{view}
use Rattle.page_commit.specs.Committing.{changes_of, kept_writes, HasCommitted}
use Rattle.page_commit.proofs.CommitResults.{changes_told}
use Rattle.page_commit.proofs.txn.Txn.commit.Goals as goal

pub returns-in-Ok-clause-changes : goal.returns-in-Ok-clause-changes
returns-in-Ok-clause-changes c =
    changes_told c.put_changes.new.changes _ (kept_writes c.args.keep c.args.self.now.sets.writes)
    (c.put_changes.ensures ∙ ap changes_of c.as_slice.ensures.value) c.commit_number.ensures.writes
    c.as_slice.ensures.ascending c.as_slice.ensures.bound

pub returns-in-Ok-clause-commits : goal.returns-in-Ok-clause-commits
returns-in-Ok-clause-commits c =
    subst (λ (l : List Change). HasCommitted l c.in-Ok.number (view c.args.pass.now) (view c.commit_number.new.pass))
    (sym (c.put_changes.ensures ∙ ap changes_of (c.as_slice.ensures.value ∙ c.commit_number.ensures.writes)))
    c.in-Ok.ensures.commits
