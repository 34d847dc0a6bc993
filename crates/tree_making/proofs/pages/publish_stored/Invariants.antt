-- The records of the leaf.
use Rattle.dual_pointer.specs.Installs.{contents_in, keys_in, tree_records}
use Rattle.engine_pages.specs.Passes.{view}
use Rattle.tree_making.proofs.pages.publish_stored.Given as goal

abbrev pub ghosts-publish_stored_as : goal.ghosts-publish_stored_as
ghosts-publish_stored_as a = record {
  keys = keys_in a.span (tree_records (view a.pass.now).pages a.number);
  contents = contents_in (tree_records (view a.pass.now).pages a.number);
}
