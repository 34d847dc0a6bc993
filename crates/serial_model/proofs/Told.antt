-- Replies before those of the rest.
use Rattle.std.proofs.Common.{List, ◌++◌}
use Rattle.serial_model.specs.Step.{Ended}
use Rattle.serial_model.specs.declared.reply.Reply.{Reply}

-- the replies so far, and then those of the rest
abbrev pub with_replies : List Reply → Ended → Ended
with_replies rs e = record e { replies = rs ++ e.replies }
