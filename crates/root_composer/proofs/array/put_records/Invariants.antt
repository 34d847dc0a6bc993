use Rattle.std.proofs.Common.{◌≡◌, ◌≤◌, drop, length}
use Rattle.root_composer.specs.ArrayWriter.{put_all}
use Rattle.root_composer.proofs.array.put_records.Given as goal

-- the entries from n on are put
abbrev pub invariant-loop-n : goal.invariant-loop-n
invariant-loop-n l = record { within : l.n ≤ length l.run; put : l.words ≡ put_all l.low l.high (drop l.n l.run) l.fn.words }

abbrev pub decreases-loop-n : goal.decreases-loop-n
decreases-loop-n l = l.n
