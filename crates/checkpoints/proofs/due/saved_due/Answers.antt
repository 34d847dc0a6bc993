use Rattle.std.proofs.Common.{◌≡◌, Option, Some, None, refl}
use Rattle.std.specs.Prelude.{IfSome, IfNone}
use Rattle.log_writer.specs.declared.saved.Saved.{Saved}
use Rattle.recovery_core.specs.Recovered.{HasSnapshots}
use Rattle.recovery_core.specs.declared.recovered.Recovered.{Recovered}
use Rattle.checkpoints.specs.Due.{NoneCount, SomeCount}
use Rattle.checkpoints.proofs.due.saved_due.Goals as goal

is_due : (r : Recovered) (o : Option Saved) → r.saved ≡ o → SomeCount r
    → IfSome o (λ saved. (r.saved ≡ Some saved) × SomeCount r)
is_due r None is some = tt
is_due r (Some p) is some = (is, some)

none_due : (r : Recovered) (o : Option Saved) → HasSnapshots r o → IfNone o (NoneCount r)
none_due r None has = has.1
none_due r (Some p) has = tt

pub returns-clause-due : goal.returns-clause-due
returns-clause-due c = is_due c.args.recovered.now c.args.recovered.now.saved refl
    (λ none. let is = c.is_empty.ensures.1 none in let not = c.if-is_empty.false in cc (is, not))

pub returns-clause-none : goal.returns-clause-none
returns-clause-none c = none_due c.args.recovered.now c.args.recovered.now.saved c.requires.up.snapshots
