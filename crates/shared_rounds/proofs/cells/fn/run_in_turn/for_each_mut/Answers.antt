use Rattle.shared_rounds.proofs.cells.fn.run_in_turn.for_each_mut.Goals as goal

pub run_cell-requires : goal.run_cell-requires
run_cell-requires g c = record {
  of = c.requires.1.of;
  cell = c.requires.1.ready;
  tied = c.requires.1.tied;
  worker = (c.requires.1.role, c.requires.1.small);
  lines = c.requires.1.lines;
  told = c.requires.1.none;
  count = c.requires.1.count;
  room = c.requires.1.room;
  space = c.requires.1.space;
  tries = c.requires.0;
}
