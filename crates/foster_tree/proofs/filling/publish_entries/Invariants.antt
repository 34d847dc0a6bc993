-- The records.
use Rattle.foster_tree.specs.Entries.{contents_of, keys_of}
use Rattle.foster_tree.proofs.filling.publish_entries.Given as goal

abbrev pub ghosts-publish_entries_as : goal.ghosts-publish_entries_as
ghosts-publish_entries_as a = record { keys = keys_of a.span.storage a.entries.now; contents = contents_of a.entries.now }
