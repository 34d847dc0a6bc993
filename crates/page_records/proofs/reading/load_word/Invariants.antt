-- The record.
use Rattle.page_records.proofs.reading.load_word.Given as goal

abbrev pub ghosts-load_word_as : goal.ghosts-load_word_as
ghosts-load_word_as a = record { key = a.key; spot = a._place }
