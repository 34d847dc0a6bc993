-- What is written.
use Rattle.page_commit.specs.Committing.{changes_of}
use Rattle.page_commit.proofs.committing.commit_locked.Given as goal

abbrev pub ghosts-draw_as : goal.ghosts-draw_as
ghosts-draw_as a = record { writes = changes_of a._forms.now }
