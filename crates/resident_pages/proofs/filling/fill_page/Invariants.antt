-- The page, and what goes to it.
use Rattle.resident_pages.proofs.filling.fill_page.Given as goal

abbrev pub ghosts-fill_page_as : goal.ghosts-fill_page_as
ghosts-fill_page_as a = record { page = a.page; index = a.index; value = a.value }
