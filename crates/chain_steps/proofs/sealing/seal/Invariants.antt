-- The page.
use Rattle.chain_steps.proofs.sealing.seal.Given as goal

abbrev pub ghosts-seal_as : goal.ghosts-seal_as
ghosts-seal_as a = record { slot = a.slot }
