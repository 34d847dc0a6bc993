-- From the laws.
use Rattle.page_commit.specs.RunLaws.{begins_run, goes_on_run, ends_run, commits_run, commits_end}
use Rattle.page_commit.proofs.calls_are_transactions.Goals as goal

pub returns : goal.returns
returns c = record {
  begins = begins_run;
  goes_on = goes_on_run;
  ends = ends_run;
  commits = commits_run;
  commits_end = commits_end;
}
