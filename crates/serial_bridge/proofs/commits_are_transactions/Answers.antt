-- The bridge, from its laws and from the machine's.
use Rattle.serial_bridge.specs.Laws.{attempt_steps, serial_reads_run, epochs_run, story_runs}
use Rattle.serial_bridge.proofs.commits_are_transactions.Goals as goal

pub returns : goal.returns
returns c = record { step = attempt_steps; run = serial_reads_run; epochs = epochs_run; story = story_runs c.commits_are_serial.ensures.sound_serial }
