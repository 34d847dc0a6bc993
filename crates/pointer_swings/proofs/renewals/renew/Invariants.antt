-- The page.
use Rattle.pointer_swings.proofs.renewals.renew.Given as goal

abbrev pub ghosts-renew_as : goal.ghosts-renew_as
ghosts-renew_as a = record { slot = 0; page = a.page }
