use Rattle.recovery_core.proofs.Taking.{map_at}
use Rattle.wire_form.specs.Pages.{stored_decl}
use Rattle.recovery_core.proofs.chain.decl_at.Goals as goal

pub returns : goal.returns
returns c = map_at stored_decl c.args.storages.now c.args.i _ c.requires
