-- As many bytes as the buffer has room for were read, and no call was refused.
use Rattle.std.proofs.Common.{◌≡◌, ◌≤◌, length}
use Rattle.outside.proofs.system_file.SystemFile.read.Given as goal

abbrev pub invariant-loop : goal.invariant-loop
invariant-loop l = (l.count ≤ length l.buf) × (l.self.answers.faults ≡ l.initial.self.answers.faults)
