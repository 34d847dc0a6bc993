-- The page.
use Rattle.resident_pages.proofs.filling.claim_page.Given as goal

abbrev pub ghosts-claim_page_as : goal.ghosts-claim_page_as
ghosts-claim_page_as a = record { page = a.page }
