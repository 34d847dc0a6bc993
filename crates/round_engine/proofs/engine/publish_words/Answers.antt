-- The words have room for the pages.
use Rattle.round_engine.proofs.engine.publish_words.Goals as goal

pub publish-requires-clause-pages : goal.publish-requires-clause-pages
publish-requires-clause-pages c = c.requires.can.1.front

pub publish-requires-clause-snapshot : goal.publish-requires-clause-snapshot
publish-requires-clause-snapshot c =
    let can = c.requires.can.1 in (can.contents, can.stands, can.decls)

pub publish-requires-clause-room : goal.publish-requires-clause-room
publish-requires-clause-room c = c.requires.can.1.room
