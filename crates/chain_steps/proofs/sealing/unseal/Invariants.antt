-- The page.
use Rattle.chain_steps.proofs.sealing.unseal.Given as goal

abbrev pub ghosts-unseal_as : goal.ghosts-unseal_as
ghosts-unseal_as a = record { slot = a.slot }
