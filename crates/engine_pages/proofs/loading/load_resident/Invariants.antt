-- The word.
use Rattle.engine_pages.proofs.loading.load_resident.Given as goal

abbrev pub ghosts-load_resident_as : goal.ghosts-load_resident_as
ghosts-load_resident_as a = record { page = a.page; index = a.index }
