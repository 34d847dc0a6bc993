-- The slot and the page.
use Rattle.pointer_swings.proofs.swings.swing.Given as goal

abbrev pub ghosts-swing_as : goal.ghosts-swing_as
ghosts-swing_as a = record { slot = a.slot; page = a.page }
