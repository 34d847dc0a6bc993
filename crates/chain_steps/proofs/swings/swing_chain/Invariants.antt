-- The slots and the page.
use Rattle.std.proofs.Common.{◌++◌, ◌∷◌, []}
use Rattle.chain_steps.specs.Swings.{slots_of}
use Rattle.chain_steps.proofs.swings.swing_chain.Given as goal

abbrev pub ghosts-swing_as : goal.ghosts-swing_as
ghosts-swing_as a = record { slots = slots_of a.halves.now ++ a.slot ∷ []; page = a.page }
