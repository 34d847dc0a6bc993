-- The place of the record, by its word and the kind of its storage.
use Rattle.engine_pages.specs.Passes.{view}
use Rattle.page_commit.specs.Places.{spot_for}
use Rattle.page_commit.proofs.locking.tell_locked.Given as goal

abbrev pub ghosts-load_word_as : goal.ghosts-load_word_as
ghosts-load_word_as a = record { key = a.key; spot = spot_for (view a.pass.now).layout a.key a.at }
