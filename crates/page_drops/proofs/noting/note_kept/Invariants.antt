-- The note of the page.
use Rattle.engine_pages.specs.Passes.{view}
use Rattle.page_drops.specs.Works.{note_of}
use Rattle.page_drops.proofs.noting.note_kept.Given as goal

abbrev pub ghosts-note_as : goal.ghosts-note_as
ghosts-note_as a = record { page = note_of (view a.pass.now) a.kept }
