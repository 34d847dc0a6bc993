use Rattle.page_commit.proofs.WriteLaws.{write_pushed}
use Rattle.tree_writes.proofs.writing.put.Goals as goal

pub returns-clause-writes : goal.returns-clause-writes
returns-clause-writes c =
    write_pushed _ c.args.sets.now.writes _ c.push.result c.push.ensures c.requires.room
