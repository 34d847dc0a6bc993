use Rattle.page_drops.proofs.records.keep.Goals as goal

pub returns-clause-notes : goal.returns-clause-notes
returns-clause-notes c = (c.note_kept.result, c.note_kept.ensures.notes)
