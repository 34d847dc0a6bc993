-- No worker has more lines than the round.
use Rattle.shared_rounds.proofs.rooms.make_rooms.Goals as goal

pub count_lines-counts-requires : goal.count_lines-counts-requires
count_lines-counts-requires g c = c.requires.1.few_lines

pub make_outcome_rooms-requires-clause-counts : goal.make_outcome_rooms-requires-clause-counts
make_outcome_rooms-requires-clause-counts g c = c.count_lines-counts.ensures.workers

pub make_outcome_rooms-requires-clause-spaces : goal.make_outcome_rooms-requires-clause-spaces
make_outcome_rooms-requires-clause-spaces g c = c.count_words-spaces.ensures.workers
