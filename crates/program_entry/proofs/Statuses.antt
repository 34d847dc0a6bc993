-- Each status of a command is one of the program's.
use Rattle.std.proofs.Common.{inl, inr, ℕ, arith}
use Rattle.command_line.specs.declared.command.Command.{Command}
use Rattle.command_line.specs.declared.command.Command.TheVariants.{Run, Dump, Snaps, Snap, Make, Refused}
use Rattle.program_calls.specs.Causes.{IsDumpStatus, IsMakeStatus, IsRefusal, IsRunStatus, IsSnapStatus, IsStatus}
use Rattle.program_calls.specs.OnTheWay.{IsExit}

dump_most : (status : ℕ) → IsDumpStatus status → IsExit status
dump_most status (inl zero) = omega arith
dump_most status (inr (inl between)) = omega (arith, between.1)
dump_most status (inr (inr eight)) = omega arith

snap_most : (status : ℕ) → IsSnapStatus status → IsExit status
snap_most status (inl dump) = dump_most status dump
snap_most status (inr nine) = omega arith

refusal_most : (status : ℕ) → IsRefusal status → IsExit status
refusal_most status (inl two) = omega arith
refusal_most status (inr (inl four)) = omega arith
refusal_most status (inr (inr eight)) = omega arith

make_most : (status : ℕ) → IsMakeStatus status → IsExit status
make_most status (inl zero) = omega arith
make_most status (inr (inl four)) = omega arith
make_most status (inr (inr eight)) = omega arith

run_most : (status : ℕ) → IsRunStatus status → IsExit status
run_most status most = omega (arith, most)

pub exit_of : (command : Command) (status : ℕ) → IsStatus command status → IsExit status
exit_of Dump status is = dump_most status is
exit_of Snaps status is = dump_most status is
exit_of (Snap epoch) status is = snap_most status is
exit_of (Run options) status is = run_most status is
exit_of (Make arguments) status is = make_most status is
exit_of Refused status is = refusal_most status is
