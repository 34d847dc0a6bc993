-- The halves.
use Rattle.foster_tree.specs.Entries.{keys_of}
use Rattle.foster_tree.specs.Splitting.{lower_of, separator_of, upper_of}
use Rattle.foster_tree.proofs.splitting.split_sorted.Given as goal

abbrev pub ghosts-split_sorted_as : goal.ghosts-split_sorted_as
ghosts-split_sorted_as a = record {
  lower = lower_of a.halves.minor a.span a.sorted.now;
  upper = upper_of a.halves.major a.span a.sorted.now;
  keys = keys_of a.span.storage a.sorted.now;
  separator = separator_of a.sorted.now;
}
