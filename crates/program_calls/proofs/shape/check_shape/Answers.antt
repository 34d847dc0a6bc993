-- Where the vault isn't fresh, its storages were compared.
use Rattle.program_calls.specs.Beginning.{SameDecls}
use Rattle.program_calls.proofs.DeclsTold.{ok_if_some}
use Rattle.program_calls.proofs.shape.check_shape.Goals as goal

pub returns-in-Some-clause-same : goal.returns-in-Some-clause-same
returns-in-Some-clause-same c = ok_if_some (SameDecls c.args.decls.now c.args.recovered.now.decls) c.check_same.result c.args.recovered.now.saved (rw c.as_slice.ensures at c.check_same.ensures.same)
