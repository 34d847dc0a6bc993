-- The counts that are noted.
use Rattle.page_drops.proofs.calls.count.Given as goal

abbrev pub ghosts-count_as : goal.ghosts-count_as
ghosts-count_as a = record { counts = record { dropped = a.dropped; kept = a.kept } }
